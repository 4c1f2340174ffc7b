use Rattle.std.proofs.Common.{sym}
use Rattle.command_plan.proofs.LineLemmas.PartLemmas.{no_one_file}
use Rattle.command_plan.proofs.part_texts.is_one_file.Goals as goal

pub returns-then-files-ne1 : goal.returns-then-files-ne1
returns-then-files-ne1 c = sym (no_one_file c.args.files.now c.if-files-ne1.true)
