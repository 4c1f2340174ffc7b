-- Texts of enumerations (OData ABNF 4.01, section 7, `enumValue`).
use Rattle.std.specs.Prelude.{ℕ, ℤ, List, [], Bool, false, Option, Some, None}
use Rattle.edm_values.specs.NumberTypes.{IsNumberOf}
use Rattle.edm_enumerations.specs.EnumerationModel.{EnumerationModel, MemberModel}
use Rattle.edm_enumerations.specs.EnumerationValue.{EnumerationValue}

-- a text stands for a number, in an enumeration that is there
abbrev pub IsValueIn : Option EnumerationModel → List ℕ → ℤ → Type 0
IsValueIn None text n = ⊥
IsValueIn (Some e) text n = EnumerationValue e text n

-- a number is of the enumeration's underlying type
abbrev pub IsOfUnderlying : Option EnumerationModel → ℤ → Type 0
IsOfUnderlying None n = ⊥
IsOfUnderlying (Some e) n = IsNumberOf e.underlying n

-- the members in the order of the document, none of an enumeration that is not there
abbrev pub members_in : Option EnumerationModel → List MemberModel
members_in None = []
members_in (Some e) = e.members

-- whether an enumeration is there and is one of flags
abbrev pub has_flags : Option EnumerationModel → Bool
has_flags None = false
has_flags (Some e) = e.is_flags
