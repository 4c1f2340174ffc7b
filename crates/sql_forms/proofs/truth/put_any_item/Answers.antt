use Rattle.sql_forms.proofs.Common.{◌≡◌, slice_get, CheckedNode, NodeKind, some_there, question_of}
use Rattle.sql_forms.proofs.answers.CodedAnswers.{ok_any_item}
use Rattle.sql_outcomes.proofs.nodes.ValueNodes.{asked_path}
use Rattle.sql_forms.proofs.truth.put_any_item.Goals as goal

pub put_path-requires-clause-path : goal.put_path-requires-clause-path
put_path-requires-clause-path c =
    let filter = c.args.context.now.checked.now in
    let there = some_there (λ (n : CheckedNode). n.kind ≡ NodeKind.AnyItem) (slice_get filter.list.nodes c.args.place) c.requires.kind in
    asked_path filter c.requires.translated.right c.args.place there.0 there.1.0 there.1.1

pub returns : goal.returns
returns c =
    ok_any_item (question_of c.args.context.now) c.put_number.result c.args.context.now.ranges.now c.requires.translated.ranges c.args.place c.requires.kind c.in_ok-path.path c.args.draft.now c.put_path.new.draft
    c.put.new.self c.put-2.new.self c.put_number.new.self c.in_ok-path.ensures c.in_ok-put.ensures.ok c.in_ok-put-2.ensures.ok c.put_number.ensures.ok
