-- Values without heap that stand where others are not wanted.
use Rattle.std.specs.Prelude.{◌≡◌, [], Vec}
use Rattle.std.specs.declared.alloc.Global.{Global}
use Rattle.edm_values.specs.declared.value.Value.{Value, List as ListOf, Null as NullValue}
use Rattle.spare_values.specs.StoredTexts.{HoldsText}
use Rattle.spare_values.specs.declared.spares.Filler.{Filler}
use Rattle.spare_values.specs.declared.spares.Filler.TheVariants.{EmptyText, NoItems, Null}

-- the value is a list without items
abbrev pub HoldsNoItems : Value → Type 0
HoldsNoItems value = (items : Vec Value Global) × (value ≡ ListOf items) × (items.items ≡ [])

-- the value is that of a filler
abbrev pub HoldsFiller : Filler → Value → Type 0
HoldsFiller NoItems value = HoldsNoItems value
HoldsFiller Null value = value ≡ NullValue
HoldsFiller EmptyText value = HoldsText value []
