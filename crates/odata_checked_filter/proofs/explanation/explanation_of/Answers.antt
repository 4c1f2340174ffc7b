use Rattle.std.proofs.Common.{◌≡◌, ◌∙◌, ◌<◌, List, ℕ, ap, arith, length, string_bytes, subst, sym}
use Rattle.odata_checked_filter.specs.declared.checked_node.CheckedNode.{CheckedNode}
use Rattle.odata_checked_filter.specs.FlatTree.{FlatTree}
use Rattle.odata_checked_filter.proofs.explained.Lines.{IsReported, all_reported, begun, one_reported}
use Rattle.odata_checked_filter.proofs.explanation.explanation_of.Goals as goal

pub loop-place-init : goal.loop-place-init
loop-place-init c =
    subst (λ (stops : List ℕ). IsReported c.args.checked.now 0 stops (string_bytes c.new-text.result)) (sym c.new-around.ensures.items)
    (begun c.args.checked.now (string_bytes c.new-text.result) c.list.ensures.right c.new-text.ensures.bytes)

pub push_line-requires : goal.push_line-requires
push_line-requires c =
    let below : c.loop-place.place < length c.nodes-count.result.now = c.loop-place-test.true in
    let all : length c.nodes-count.result.now ≡ length c.args.checked.now.list.nodes =
    ap (λ (xs : List CheckedNode). length xs) c.nodes-count.ensures.same ∙ ap (λ (l : FlatTree). length l.nodes) c.list.ensures.same in
    omega arith

pub loop-place-preserved : goal.loop-place-preserved
loop-place-preserved c =
    one_reported c.args.checked.now c.loop-place.place c.loop-place.around.items c.push_line.new.around.items
    (string_bytes c.loop-place.text) (string_bytes c.push_line.new.text) c.list.ensures.right c.loop-place.invariant c.in_ok-push_line.ensures

pub returns : goal.returns
returns c =
    let all : length c.nodes-count.result.now ≡ length c.args.checked.now.list.nodes =
    ap (λ (xs : List CheckedNode). length xs) c.nodes-count.ensures.same ∙ ap (λ (l : FlatTree). length l.nodes) c.list.ensures.same in
    all_reported c.args.checked.now c.loop-place.place c.loop-place.around.items (string_bytes c.loop-place.text) c.list.ensures.right
    (omega arith) c.loop-place.invariant
