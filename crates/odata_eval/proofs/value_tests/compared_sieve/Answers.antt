use Rattle.std.proofs.Common.{◌≡◌, ◌<◌, ◌+◌, Some, List, length, slice_get, refl, sym, ap, ◌∙◌, subst, arith}
use Rattle.std.proofs.lemmas.Option.{slice_get_read}
use Rattle.edm_values.specs.declared.value.Value.{Value}
use Rattle.odata_checked_filter.specs.declared.checked_node.CheckedNode.{CheckedNode}
use Rattle.odata_checked_filter.specs.declared.checked_node.NodeKind.{NodeKind}
use Rattle.filter_context.specs.private.Place.{HasKind}
use Rattle.odata_eval.proofs.walking.FalseTerms.{compared_sieve}
use Rattle.filter_context.proofs.Parts.{there_found}
use Rattle.odata_eval.proofs.value_tests.compared_sieve.Goals as goal

pub returns-in-Some-sieve_of : goal.returns-in-Some-sieve_of
returns-in-Some-sieve_of c =
    let filter = c.args.checked.now in
    let same : c.values-values.result.now ≡ filter.list.values = c.values-values.ensures in
    let index = c.in-Literal.value in
    let values = c.values-values.result.now in
    let x = c.index-values-index.result in
    let within : index < length values = omega (arith, c.if-index-values.false) in
    let at : slice_get filter.list.values index ≡ Some x = subst (λ (l : List Value). slice_get l index ≡ Some x) same (slice_get_read values (length values) index x refl within c.index-values-index.is) in
    let nodes = c.nodes-nodes.result.now in
    let left = c.index-nodes-next.result in
    let next : c.args.place + 1 < length nodes = omega (arith, c.if-next-nodes.false) in
    let read : slice_get nodes (c.args.place + 1) ≡ Some left = slice_get_read nodes (length nodes) (c.args.place + 1) left refl next c.index-nodes-next.is in
    let there = ap (λ (ns : List CheckedNode). slice_get ns (c.args.place + 1)) (sym c.nodes-nodes.ensures.same) ∙ read in
    let found = slice_get filter.list.nodes (c.args.place + 1) in
    let literal : HasKind filter.list left.stop (NodeKind.Literal c.in-Literal.kind index) =
    subst (λ (k : NodeKind). HasKind filter.list left.stop k) c.in-Literal.is c.in-Some.ensures.kind in
    compared_sieve filter c.literals_have_one_value.ensures left.stop index c.in-Literal.kind literal x at c.args.place c.in-Property.slot
    c.args.comparison c.in-Some-sieve_of.sieve c.requires.here (there_found (λ (f : CheckedNode). f.kind ≡ NodeKind.Property c.in-Property.slot) found left there c.in-Property.is)
    (there_found (λ (f : CheckedNode). f.stop ≡ left.stop) found left there refl) c.in-Some-sieve_of.ensures.number (λ right is. c.in-Some-sieve_of.ensures.decides right is)
