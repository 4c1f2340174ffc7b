use Rattle.std.proofs.Common.{◌∙◌, ap, slice_get}
use Rattle.odata_typing.proofs.placed.Between.{operator_unread, two_children}
use Rattle.odata_typing.proofs.placed.Listed.{not_true}
use Rattle.odata_typing.proofs.binary_node.checked_operator.Goals as goal

pub returns : goal.returns
returns c = λ l r over.
    let context = c.args.context.now in
    let schema = context.schema.now in
    let judged = c.args.judged.now in
    let old = c.args.walk.now in
    let two = two_children context old judged l r over in
    operator_unread c.laws_below.ensures context judged old c.put_typed.new.self c.args.operator l r c.put_typed.result c.requires.ready two
    c.type_at-left_type.result.now c.type_at-right_type.result.now c.binary_type-edm_type.result
    (c.type_at-left_type.ensures two.left.found two.left.at)
    (c.type_at-right_type.ensures two.right.found (ap (slice_get old.list.nodes) (c.stop_at.ensures two.left.found two.left.at ∙ two.left.last) ∙ two.right.at))
    (λ a b. c.may_be_read.ensures schema a b (not_true c.may_be_read.result c.if-may_be_read.false))
    (record { typed = c.binary_type-edm_type.ensures.typed; there = c.binary_type-edm_type.ensures.there; none = c.binary_type-edm_type.ensures.none })
    (record { some = c.put_typed.ensures.some; put_is = c.put_typed.ensures.put; none = c.put_typed.ensures.none; refused_is = c.put_typed.ensures.refused })
