use Rattle.std.proofs.Common.{◌≡◌, ℕ, ◌≤◌, List, drop, length}
use Rattle.indexmap.specs.IndexMap.{get_by_text}
use Rattle.std.specs.List.{position_from}
use Rattle.csdl_declarations.specs.DeclaredTypeView.{type_view}
use Rattle.csdl_schema.specs.Resolution.{goes_by}
use Rattle.csdl_schema.proofs.type_index.index_types.Given as goal

-- the look-up finds those from the index on
abbrev pub invariant-loop-index : goal.invariant-loop-index
invariant-loop-index l =
    (l.index ≤ length l.types)
    × ((asked : List ℕ) → get_by_text l.index_by_name asked ≡ position_from (λ t. goes_by (type_view t) asked) l.index (drop l.index l.types))

abbrev pub decreases-loop-index : goal.decreases-loop-index
decreases-loop-index l = l.index
