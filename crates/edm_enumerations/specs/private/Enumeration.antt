-- An enumeration of the code, as the model says it.
use Rattle.std.specs.Prelude.{ℤ, map, String, string_bytes}
use Rattle.std.specs.declared.alloc.Global.{Global}
use Rattle.std.specs.List.{AllByRecursion}
use Rattle.edm_values.specs.NumberTypes.{IsNumberType, IsNumberOf}
use Rattle.edm_enumerations.specs.declared.enumeration.Enumeration.TheInside.{Inside}
use Rattle.edm_enumerations.specs.EnumerationModel.{EnumerationModel, MemberModel}

-- an entry of an enumeration's numbers
abbrev pub member_model : String Global × ℤ → MemberModel
member_model e = record { name = string_bytes e.0; number = e.1 }

abbrev pub enumeration_model : Inside → EnumerationModel
enumeration_model e = record {
  underlying = e.underlying;
  is_flags = e.is_flags;
  members = map member_model e.numbers_by_name.entries;
}

-- what holds of each: its numbers are of a number type, and each member's is of that type
pub record IsKeptEnumeration (e : Inside) : Type 0 where
  pub type_of_numbers : IsNumberType e.underlying
  pub within : AllByRecursion (λ m. IsNumberOf e.underlying m.1) e.numbers_by_name.entries
