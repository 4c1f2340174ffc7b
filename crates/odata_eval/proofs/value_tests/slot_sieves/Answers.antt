use Rattle.std.proofs.Common.{◌≡◌, ℕ, ◌<◌, ◌+◌, ◌-◌, List, Some, length, refl, sym, ap, ◌∙◌, subst, arith, slice_get}
use Rattle.std.specs.Prelude.{All, Vec}
use Rattle.std.specs.declared.alloc.Global.{Global}
use Rattle.std.proofs.lemmas.Option.{slice_get_read}
use Rattle.std.proofs.lemmas.List.Elements.{All-push}
use Rattle.odata_eval.specs.FalseWhere.{IsSieveOf}
use Rattle.odata_checked_filter.specs.declared.checked_node.CheckedNode.{CheckedNode}
use Rattle.odata_eval.specs.TrueWhere.{AreWhole}
use Rattle.odata_eval.specs.declared.value_tests.SlotSieve.{SlotSieve}
use Rattle.odata_eval.specs.private.ValueTests.{AreAllBut, GoesUp}
use Rattle.filter_context.proofs.Parts.{there_found}
use Rattle.odata_eval.proofs.walking.FalseTerms.{ands_less, chain_sieve, next_but, next_up, whole_tests}
use Rattle.odata_eval.proofs.value_tests.slot_sieves.Goals as goal

pub returns-then-at-eq0-clause-sieves : goal.returns-then-at-eq0-clause-sieves
returns-then-at-eq0-clause-sieves c =
    let l = c.loop-test in
    let filter = c.args.checked.now in
    subst (All (IsSieveOf filter)) (sym c.in-Ok.ensures.items)
    (All-push (IsSieveOf filter) l.sieves.items c.in-Some.test l.invariant.sieves (chain_sieve filter l.term l.at c.in-Some.test c.nodes-nodes.ensures.right l.invariant.ands l.invariant.goes_up c.in-Some.ensures))

pub returns-then-at-eq0-clause-whole : goal.returns-then-at-eq0-clause-whole
returns-then-at-eq0-clause-whole c is =
    let l = c.loop-test in
    let filter = c.args.checked.now in
    subst (AreWhole filter) (sym c.in-Ok.ensures.items)
    (whole_tests filter l.sieves.items l.term c.in-Some.test c.nodes-nodes.ensures.right (subst (AreAllBut filter l.sieves.items l.term) c.if-at-eq0.true l.invariant.but) c.in-Some.ensures)

pub returns-then-at-nodes-clause-sieves : goal.returns-then-at-nodes-clause-sieves
returns-then-at-nodes-clause-sieves c =
    let l = c.loop-test in
    let filter = c.args.checked.now in
    subst (All (IsSieveOf filter)) (sym (ap (λ (v : Vec SlotSieve Global). v.items) c.first_tests-then-at-nodes.ensures.sieves ∙ c.in-Ok.ensures.items))
    (All-push (IsSieveOf filter) l.sieves.items c.in-Some.test l.invariant.sieves (chain_sieve filter l.term l.at c.in-Some.test c.nodes-nodes.ensures.right l.invariant.ands l.invariant.goes_up c.in-Some.ensures))

pub loop-test-preserved : goal.loop-test-preserved
loop-test-preserved c =
    let l = c.loop-test in
    let filter = c.args.checked.now in
    let test = c.in-Some.test in
    let some : 0 < l.at = omega (arith, c.if-at-eq0.false) in
    let nodes = c.nodes-nodes.result.now in
    let left = c.index-nodes-at.result in
    let within : l.at < length nodes = omega (arith, c.if-at-nodes.false) in
    let read : slice_get nodes l.at ≡ Some left = slice_get_read nodes (length nodes) l.at left refl within c.index-nodes-at.is in
    let here : l.at - 1 + 1 ≡ l.at = omega (arith, some) in
    let right = there_found (λ (f : CheckedNode). f.stop ≡ left.stop) (slice_get filter.list.nodes (l.at - 1 + 1)) left (ap (slice_get filter.list.nodes) here ∙ ap (λ (ns : List CheckedNode). slice_get ns l.at) (sym c.nodes-nodes.ensures.same) ∙ read) refl in
    record {
      sieves = subst (All (IsSieveOf filter)) (sym c.in-Ok.ensures.items)
          (All-push (IsSieveOf filter) l.sieves.items test l.invariant.sieves (chain_sieve filter l.term l.at test c.nodes-nodes.ensures.right l.invariant.ands l.invariant.goes_up c.in-Some.ensures));
      ands = ands_less filter l.at l.invariant.ands;
      goes_up = subst (λ (place : ℕ). GoesUp filter place (l.at - 1)) (ap (λ (f : CheckedNode). f.stop) c.index-nodes-at.is)
          (next_up filter l.term l.at left.stop test.slot test.sieve some l.invariant.ands l.invariant.goes_up c.in-Some.ensures right);
      but = subst (λ (place : ℕ). AreAllBut filter c.push.new.self.items place (l.at - 1)) (ap (λ (f : CheckedNode). f.stop) c.index-nodes-at.is)
          (subst (λ (sieves : List SlotSieve). AreAllBut filter sieves left.stop (l.at - 1)) (sym c.in-Ok.ensures.items)
          (next_but filter l.sieves.items l.term l.at left.stop test some l.invariant.ands l.invariant.but c.in-Some.ensures right));
    }
