-- An enumeration that is known.
use Rattle.std.specs.Prelude.{[], ◌∷◌, pos, true, codes}
use Rattle.edm_values.specs.declared.primitive.PrimitiveType.TheVariants.{Int32}
use Rattle.edm_enumerations.specs.EnumerationModel.{EnumerationModel}

-- flags with three members
abbrev pub color : EnumerationModel
color = record {
  underlying = Int32;
  is_flags = true;
  members =
      record { name = codes "Red"; number = pos 1 } ∷ record { name = codes "Green"; number = pos 2 }
      ∷ record { name = codes "Blue"; number = pos 4 } ∷ [];
}
