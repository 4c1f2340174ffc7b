-- String literals that are enumeration literals without their type (OData URL Conventions 4.01, sections 5.1.1.1 and
-- 5.1.1.14; ABNF, section 7, `enumValue`).
use Rattle.std.specs.Prelude.{◌≡◌, ℕ, ℤ, List, [], ◌∷◌, ◌++◌, Option, Some}
use Rattle.edm_values.specs.StringLiteral.{quote}
use Rattle.csdl_schema.specs.EnumerationText.{IsOfUnderlying, IsValueIn}
use Rattle.csdl_schema.specs.ExprType.{ExprType, single, enumeration}
use Rattle.csdl_schema.specs.SchemaModel.{Slots}

-- the text between the quotes stands for the number in the enumeration of that name, as that of an enumeration literal
-- does
pub record IsQuotedNumber (slots : Slots) (name spelling : List ℕ) (n : ℤ) : Type 0 where
  pub inner : List ℕ
  pub spelled : spelling ≡ quote ∷ inner ++ quote ∷ []
  pub value : IsValueIn (slots.enumerations name) inner n
  pub within : IsOfUnderlying (slots.enumerations name) n

-- a String literal is resolved where the other operand is of an enumeration, and nowhere else
abbrev pub IsResolvedBy : ExprType → Option (List ℕ) → Type 0
IsResolvedBy (single (enumeration name)) (Some spelling) = Unit {0}
IsResolvedBy _ _ = ⊥

-- the number for which it stands there
abbrev pub ResolvedNumber : Slots → ExprType → Option (List ℕ) → ℤ → Type 0
ResolvedNumber slots (single (enumeration name)) (Some spelling) n = IsQuotedNumber slots name spelling n
ResolvedNumber slots _ _ n = ⊥

-- it stands for one
abbrev pub HasNumber : Slots → ExprType → Option (List ℕ) → Type 0
HasNumber slots type quoted = (n : ℤ) × ResolvedNumber slots type quoted n

-- it is resolved, and stands for none
pub record LacksNumber (slots : Slots) (type : ExprType) (quoted : Option (List ℕ)) : Type 0 where
  pub read : IsResolvedBy type quoted
  pub none : ¬ HasNumber slots type quoted
