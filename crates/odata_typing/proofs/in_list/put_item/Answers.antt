use Rattle.std.proofs.lemmas.Option.{slice_get_within}
use Rattle.odata_typing.proofs.resolved_operands.Given.{put_kept, put_only}
use Rattle.odata_typing.proofs.in_list.put_item.Goals as goal

pub returns-then-put_number-clause-kept : goal.returns-then-put_number-clause-kept
returns-then-put_number-clause-kept c =
    let inside = slice_get_within c.args.walk.now.list.nodes c.args.item c.requires.item.0 c.requires.item.1 in
    put_kept c.args.walk.now c.put_number.new.self c.args.item _ c.put_number.result inside c.put_number.ensures

pub returns-then-put_number-clause-walk : goal.returns-then-put_number-clause-walk
returns-then-put_number-clause-walk c =
    let inside = slice_get_within c.args.walk.now.list.nodes c.args.item c.requires.item.0 c.requires.item.1 in
    put_only c.args.walk.now c.put_number.new.self c.args.item _ c.put_number.result inside c.put_number.ensures
