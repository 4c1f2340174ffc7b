use Rattle.std.proofs.Common.{option_map}
use Rattle.odata_filter.specs.Run.{streams}
use Rattle.command_plan.specs.declared.command_line.Verb.{Verb}
use Rattle.odata_filter.proofs.RunLemmas.RunEndings.{accepted_begins, accepted_says, begins_as, explained_begins, explained_says, says_as}
use Rattle.odata_filter.proofs.command.runner.by_verb.Goals as goal

pub returns-in-Filter-clause-says : goal.returns-in-Filter-clause-says
returns-in-Filter-clause-says g c document is_filter =
    says_as c.filter_rows.result Verb.Filter c.args.asked.now.plan.now document (streams (option_map (λ r. g.R.Read.remaining r) c.args.rows) (g.W.Write.contents c.args.out.now) (g.W.Write.contents c.filter_rows.new.out))
    c.in-Filter.is (c.filter_rows.ensures.says document is_filter)

pub returns-in-Filter-clause-begins : goal.returns-in-Filter-clause-begins
returns-in-Filter-clause-begins g c document is_filter =
    begins_as Verb.Filter c.args.asked.now.plan.now document (streams (option_map (λ r. g.R.Read.remaining r) c.args.rows) (g.W.Write.contents c.args.out.now) (g.W.Write.contents c.filter_rows.new.out))
    c.in-Filter.is (c.filter_rows.ensures.begins document is_filter)

pub returns-in-Check-clause-says : goal.returns-in-Check-clause-says
returns-in-Check-clause-says g c document is_filter =
    let written = streams (option_map (λ r. g.R.Read.remaining r) c.args.rows) (g.W.Write.contents c.args.out.now) (g.W.Write.contents c.report_filter.new.out) in
    says_as c.report_filter.result Verb.Check c.args.asked.now.plan.now document written
    c.in-Check.is (accepted_says c.args.asked.now.plan.now document written
    c.args.asked.now.checked.now c.report_filter.result is_filter c.report_filter.ensures.reported c.report_filter.ensures.unwritten)

pub returns-in-Check-clause-begins : goal.returns-in-Check-clause-begins
returns-in-Check-clause-begins g c document is_filter =
    let written = streams (option_map (λ r. g.R.Read.remaining r) c.args.rows) (g.W.Write.contents c.args.out.now) (g.W.Write.contents c.report_filter.new.out) in
    begins_as Verb.Check c.args.asked.now.plan.now document written c.in-Check.is
    (accepted_begins c.args.asked.now.plan.now document written c.args.asked.now.checked.now is_filter c.report_filter.ensures.begins)

pub returns-in-Explain-clause-says : goal.returns-in-Explain-clause-says
returns-in-Explain-clause-says g c document is_filter =
    let written = streams (option_map (λ r. g.R.Read.remaining r) c.args.rows) (g.W.Write.contents c.args.out.now) (g.W.Write.contents c.report_nodes.new.out) in
    says_as c.report_nodes.result Verb.Explain c.args.asked.now.plan.now document written
    c.in-Explain.is (explained_says c.args.asked.now.plan.now document written
    c.args.asked.now.checked.now c.report_nodes.result is_filter c.report_nodes.ensures.reported c.report_nodes.ensures.unwritten)

pub returns-in-Explain-clause-begins : goal.returns-in-Explain-clause-begins
returns-in-Explain-clause-begins g c document is_filter =
    let written = streams (option_map (λ r. g.R.Read.remaining r) c.args.rows) (g.W.Write.contents c.args.out.now) (g.W.Write.contents c.report_nodes.new.out) in
    begins_as Verb.Explain c.args.asked.now.plan.now document written c.in-Explain.is
    (explained_begins c.args.asked.now.plan.now document written c.args.asked.now.checked.now is_filter c.report_nodes.ensures.begins)
