use Rattle.std.proofs.lemmas.Option.{slice_get_within}
use Rattle.odata_typing.proofs.placed.Over.{judged_over, one_child}
use Rattle.odata_typing.proofs.unary_node.checked_unary.Goals as goal

pub type_at-requires : goal.type_at-requires
type_at-requires c =
    let stands = one_child c.args.context.now c.args.walk.now c.args.judged.now c.requires.operand.0 c.requires.operand.1 in
    slice_get_within c.args.walk.now.list.nodes _ stands.found stands.at

pub returns : goal.returns
returns c = λ operand over.
    let context = c.args.context.now in
    let stands = one_child context c.args.walk.now c.args.judged.now operand over in
    let schema = context.schema.now in
    judged_over c.laws_below.ensures context c.args.judged.now c.args.walk.now c.put_typed.new.self c.args.unary operand c.put_typed.result c.requires.ready stands
    c.unary_type-edm_type.result c.kind_of.result c.code_of.result c.type_at.result.now (c.type_at.ensures stands.found stands.at) c.kind_of.ensures c.code_of.ensures
    (c.unary_type-edm_type.ensures.typed schema) (c.unary_type-edm_type.ensures.there schema) (c.unary_type-edm_type.ensures.none schema)
    (record { some = c.put_typed.ensures.some; put_is = c.put_typed.ensures.put; none = c.put_typed.ensures.none; refused_is = c.put_typed.ensures.refused })
