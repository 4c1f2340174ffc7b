use Rattle.std.proofs.Common.{◌≡◌, ◌-◌, suc, ◌++◌, ◌∙◌, sym, ap, arith}
use Rattle.csdl_schema.specs.private.Placed.{places_within}
use Rattle.csdl_schema.specs.private.PlacedView.{placed_of}
use Rattle.csdl_schema.proofs.Walks.{climbed}
use Rattle.csdl_schema.proofs.chain.bases_of.Goals as goal

pub loop-left-preserved : goal.loop-left-preserved
loop-left-preserved c =
    let types = placed_of c.args.types.now in
    let past : c.loop-left.left ≡ suc (c.loop-left.left - 1) = omega (arith, c.loop-left-test.true) in
    climbed types (c.loop-left.left - 1) c.loop-left.below c.in-Some.base c.loop-left.places.items c.push.new.self.items _ (sym c.base_at.ensures ∙ c.in-Some.is) c.in_ok-push-in-Some.ensures.items
    (ap (λ k. c.loop-left.places.items ++ places_within k types c.loop-left.below) (sym past) ∙ c.loop-left.invariant)
