use Rattle.std.proofs.Common.{codes}
use Rattle.clap.specs.Words.{found_of}
use Rattle.command_plan.proofs.LineLemmas.FlagLemmas.{flag_read}
use Rattle.command_plan.proofs.verb_values.skips_faulty.Goals as goal

pub returns-in-Filter : goal.returns-in-Filter
returns-in-Filter c =
    rw c.in-Filter.is (flag_read (codes "skip-faulty") _ (found_of c.args.matches.now) c.get_one.result c.unwrap_or.result c.get_one.ensures.none c.get_one.ensures.value c.unwrap_or.ensures)
