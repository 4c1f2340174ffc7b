use Rattle.std.proofs.Common.{◌<◌, ℕ, List, [], slice_get}
use Rattle.std.specs.Prelude.{unwrap_or}
use Rattle.edm_rows.specs.RowsOfType.{IsSameButKept, names_unkept}
use Rattle.row_judges.proofs.rows_in_place.keep_names.Given as goal

-- the reader is as it was, but that it keeps the names of the nodes so far
abbrev pub invariant-loop-place : goal.invariant-loop-place
invariant-loop-place l =
    IsSameButKept l.initial.rows l.rows × ((name : List ℕ) → names_unkept l.rows name → names_unkept l.initial.rows name)
    × ((k : ℕ) → k < l.place → ¬ names_unkept l.rows (unwrap_or (slice_get l.checked.list.texts k) []))
