use Rattle.odata_queries.proofs.Common.{below_more, ◌≡◌, ℕ, false, sym, ◌∙◌, is_bad_escape}
use Rattle.odata_queries.proofs.queries.QueryLoops.{good-all}
use Rattle.odata_queries.proofs.query_part.bad_escape.Goals as goal

pub loop-place-preserved : goal.loop-place-preserved
loop-place-preserved c =
    below_more (λ (k : ℕ). is_bad_escape c.args.part.now k ≡ false) c.loop-place.place c.loop-place.invariant (sym c.is_bad_escape.ensures ∙ c.if-is_bad_escape.false)
