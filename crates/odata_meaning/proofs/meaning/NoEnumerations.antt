-- Where there are no enumerations each String literal is a text.
use Rattle.std.proofs.Common.{◌≡◌, subst, ℕ, ℤ, List, Option, Some, None}
use Rattle.csdl_schema.specs.EnumerationText.{IsValueIn}
use Rattle.csdl_schema.specs.ExprType.{ExprType, single, enumeration}
use Rattle.csdl_schema.specs.SchemaModel.{Slots}
use Rattle.odata_syntax.specs.Tree.{Tree}
use Rattle.odata_signatures.specs.QuotedNumber.{ResolvedNumber}
use Rattle.odata_signatures.specs.Reads.{ReadsNumber}
use Rattle.odata_signatures.specs.Sides.{quoted_text}

module _ (slots : Slots) (none : (name : List ℕ) → slots.enumerations name ≡ None) where
  no_number : (type : ExprType) (quoted : Option (List ℕ)) (n : ℤ) → ¬ ResolvedNumber slots type quoted n
  no_number (single (enumeration name)) (Some spelling) n number = subst (λ e. IsValueIn e number.inner n) (none name) number.value
  no_number (single (enumeration name)) None n number = number
  no_number _ quoted n number = number

  pub unread : (OtherSide : ExprType → Type 0) (tree : Tree) (n : ℤ) → ¬ ReadsNumber slots OtherSide tree n
  unread OtherSide tree n reads = no_number reads.type_of (quoted_text tree) n reads.number
