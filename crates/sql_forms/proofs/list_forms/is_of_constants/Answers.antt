use Rattle.sql_forms.proofs.Common.{◌≡◌, ◌≢◌, ◌<◌, ◌∙◌, ap, arith, false, length, not, refl, subst, sym, true, slice_get_read, Kind}
use Rattle.sql_forms.proofs.answers.ConstantAnswers.{ConstantsSoFar, constant_inside, constant_literal, constant_number, constants_end, constants_more, constants_start, no_null_item, some_items}
use Rattle.sql_outcomes.proofs.nodes.ListPlaces.{list_sides}
use Rattle.sql_forms.proofs.list_forms.is_of_constants.Goals as goal
use Rattle.sql_forms.proofs.list_forms.is_of_constants.Goals.{then-is_value, else-is_value, then-all, else-all, then-not-is_null+in-Number, then-not-is_null+in-Node+in-Literal, then-not-is_null+in-Node+in_default-kind, then-not-is_null+in_default, else-not-is_null}

pub loop-item-init : goal.loop-item-init
loop-item-init c = record {
  so = constants_start c.args.context.now.checked.now c.args.left.now c.args.items.now c.if-is_value.all (elim c.if-is_value.branch [
    | then-is_value w ↦ λ is. (
        let value = c.is_value.ensures.0 w.if-is_value.true in (
          value.0,
          value.1,
          λ truth.
              let told : w.is_truth.result ≡ true = w.is_truth.ensures.1 (value.1 ∙ ap Kind.Value truth) in
              let clash : false ≡ true = sym (w.all-is ∙ ap not told) ∙ is in
              absurd (cc),
        ))
    | else-is_value w ↦ λ is. let clash : false ≡ true = sym w.if-is_value.false ∙ sym w.all-is ∙ is in absurd (cc)
  ]);
}

pub loop-item-preserved : goal.loop-item-preserved
loop-item-preserved c =
    let filter = c.args.context.now.checked.now in
    let ranges = c.args.context.now.ranges.now in
    let left = c.args.left.now in
    let items = c.args.items.now in
    let n = c.loop-item.item-index in
    let x = c.item-item.result in
    let at = slice_get_read items (length items) n x refl c.loop-item-test.true c.item-item.is in
    let sides = list_sides filter c.requires.translated.right ranges c.requires.items.0 items c.requires.items.2 in
    let given : c.if-all.value ≡ true → (c.loop-item.all ≡ true) × (x.kind ≢ Kind.Null) =
    λ so. elim c.if-all.branch [
      | then-all v ↦ (v.if-all.true, no_null_item x.kind v.is_null.result v.is_null.ensures.1 (sym v.value-is ∙ so))
      | else-all v ↦ (let clash : false ≡ true = sym v.if-all.false ∙ sym v.value-is ∙ so in absurd (cc))
    ] in
    elim c.if-not-is_null.branch [
      | then-not-is_null+in-Number w ↦ record {
        so = constants_more filter left items c.loop-item.all c.if-not-is_null.all n x at
            (λ is. (let g = given w.if-not-is_null.true in (g.0, constant_number filter ranges c.requires.items.0 items sides n x at w.in-Number.value w.in-Number.is, g.1))) c.loop-item.invariant.so;
      }
      | then-not-is_null+in-Node+in-Literal w ↦ record {
        so = constants_more filter left items c.loop-item.all c.if-not-is_null.all n x at
            (λ is. (
            let g = given w.if-not-is_null.true in
            (g.0, constant_literal filter ranges c.requires.items.0 items sides n x at w.in-Node.place w.node.result w.in-Literal.kind w.in-Literal.value w.in-Node.is w.node.ensures w.in-Literal.is g.1, g.1)))
            c.loop-item.invariant.so;
      }
      | then-not-is_null+in-Node+in_default-kind w ↦ record {
        so = constants_more filter left items c.loop-item.all c.if-not-is_null.all n x at (λ is. (let clash : false ≡ true = sym w.all-is ∙ is in absurd (cc))) c.loop-item.invariant.so;
      }
      | then-not-is_null+in_default w ↦ record {
        so = constants_more filter left items c.loop-item.all c.if-not-is_null.all n x at (λ is. (let clash : false ≡ true = sym w.all-is ∙ is in absurd (cc))) c.loop-item.invariant.so;
      }
      | else-not-is_null w ↦ record {
        so = constants_more filter left items c.loop-item.all c.if-not-is_null.all n x at (λ is. (let clash : false ≡ true = sym w.if-not-is_null.false ∙ sym w.all-is ∙ is in absurd (cc))) c.loop-item.invariant.so;
      }
    ]

pub node-requires : goal.node-requires
node-requires c =
    let items = c.args.items.now in
    let at = slice_get_read items (length items) c.loop-item.item-index c.item-item.result refl c.loop-item-test.true c.item-item.is in
    constant_inside c.args.context.now.checked.now c.args.context.now.ranges.now c.requires.items.0 items
    (list_sides c.args.context.now.checked.now c.requires.translated.right c.args.context.now.ranges.now c.requires.items.0 items c.requires.items.2) c.loop-item.item-index c.item-item.result at c.in-Node.place c.in-Node.is

pub returns-then-all-2 : goal.returns-then-all-2
returns-then-all-2 c = λ is.
    let items = c.args.items.now in
    let some : 0 < length items = some_items items c.is_empty.result c.is_empty.ensures is in
    let past = c.loop-item-test.false in
    let whole : c.loop-item.item-index ≡ length items = omega (arith, past) in
    constants_end c.args.context.now.checked.now c.args.left.now items c.loop-item.all c.if-all-2.true some
    (subst (ConstantsSoFar c.args.context.now.checked.now c.args.left.now items c.loop-item.all) whole c.loop-item.invariant.so)
