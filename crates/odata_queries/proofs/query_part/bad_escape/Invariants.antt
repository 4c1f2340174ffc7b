use Rattle.odata_queries.proofs.Common.{◌≡◌, ℕ, ◌<◌, false, is_bad_escape}
use Rattle.odata_queries.proofs.query_part.bad_escape.Given as goal

abbrev pub invariant-loop-place : goal.invariant-loop-place
invariant-loop-place l = (earlier : ℕ) → earlier < l.place → is_bad_escape l.part earlier ≡ false
