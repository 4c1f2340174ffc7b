use Rattle.std.proofs.Common.{◌≡◌, Bool, ℕ, List, inl, inr, refl, true, false}
use Rattle.std.proofs.Common.{IfOk, IfSome}
use Rattle.collection_items.proofs.ItemLineSteps.{put_passes, pass_stays}
use Rattle.collection_items.proofs.collection_lines.pass_value.Goals as goal

pub returns-then-name : goal.returns-then-name
returns-then-name c = put_passes c.args.document.now c.args.name c.args.had c.args.lines.now.items c.put_value.new.lines.items c.put_value.result c.if-name.true c.put_value.ensures

pub returns-in-Some : goal.returns-in-Some
returns-in-Some c = pass_stays c.args.document.now c.args.name c.args.had c.args.lines.now.items c.in-Some.end c.if-name.false c.in-Some.ensures
