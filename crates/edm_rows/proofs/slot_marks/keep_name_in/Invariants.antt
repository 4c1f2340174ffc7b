use Rattle.std.proofs.Common.{◌≡◌, ◌≢◌, ◌↔◌, ◌<◌, ℕ, List, IfSome, map, slice_get}
use Rattle.csdl_schema.specs.SchemaModel.{properties_at}
use Rattle.edm_rows.specs.private.HeldRows.{AreSameTypes, sieves_of}
use Rattle.edm_rows.specs.private.KeptRows.{names_unkept_in, names_unkept_of}
use Rattle.edm_rows.proofs.slot_marks.keep_name_in.Given as goal

-- the types so far keep the name
abbrev pub invariant-loop-place : goal.invariant-loop-place
invariant-loop-place l =
    AreSameTypes l.initial.types.items l.types.items
    × (map sieves_of l.types.items ≡ map sieves_of l.initial.types.items)
    × ((k : ℕ) → k < l.place → IfSome (slice_get l.types.items k) (λ t. ¬ names_unkept_in (properties_at l.schema t.type_id) t.slots.items l.name))
    × ((other : List ℕ) → other ≢ l.name → names_unkept_of l.schema l.types.items other ↔ names_unkept_of l.schema l.initial.types.items other)
