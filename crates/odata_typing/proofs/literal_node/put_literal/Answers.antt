use Rattle.std.proofs.Common.{◌∙◌, ap, List, ℕ, length}
use Rattle.edm_values.specs.declared.value.Value.{Value}
use Rattle.odata_syntax.specs.TextTree.{text_in}
use Rattle.odata_typing.specs.declared.judged_list.Walk.{Walk}
use Rattle.odata_typing.proofs.placed.Leaves.{literal_put}
use Rattle.odata_typing.proofs.literal_node.put_literal.Goals as goal

pub returns : goal.returns
returns c =
    let context = c.args.context.now in
    let schema = context.schema.now in
    let judged = c.args.judged.now in
    let old = c.args.walk.now in
    literal_put c.laws_below.ensures context judged old c.put.new.self c.put.result c.requires.ready
    c.push_value.new.self c.args.kind c.args.reading.value c.args.reading.edm_type (length c.values-value.result.now) _ c.requires.leaf
    c.requires.right c.requires.there
    (ap (λ (values : List Value). length values) c.values-value.ensures)
    c.if-not-push_value.ensures c.put.ensures.goes_on
    (ap (λ (w : Walk). text_in w.list.source judged.node.now.text) c.if-not-push_value.ensures ∙ ap (λ (source : List ℕ). text_in source judged.node.now.text) c.requires.ready.ready.source)
    c.put.ensures.put
