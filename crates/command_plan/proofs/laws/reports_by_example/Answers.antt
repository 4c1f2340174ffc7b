use Rattle.command_plan.proofs.LineLemmas.ReportsWorked as line
use Rattle.command_plan.proofs.laws.reports_by_example.Goals as goal

pub returns-clause-taken : goal.returns-clause-taken
returns-clause-taken c = line.reports_taken

pub returns-clause-hints : goal.returns-clause-hints
returns-clause-hints c = line.reports_hints

pub returns-clause-format : goal.returns-clause-format
returns-clause-format c = line.reports_format

pub returns-clause-rows : goal.returns-clause-rows
returns-clause-rows c = line.reports_rows

pub returns-clause-more_taken : goal.returns-clause-more_taken
returns-clause-more_taken c = line.reports_more_taken

pub returns-clause-more_rows : goal.returns-clause-more_rows
returns-clause-more_rows c = line.reports_more_rows

pub returns-clause-first_rows : goal.returns-clause-first_rows
returns-clause-first_rows c = line.reports_first_rows

pub returns-clause-count : goal.returns-clause-count
returns-clause-count c = line.reports_count

pub returns-clause-skip : goal.returns-clause-skip
returns-clause-skip c = line.reports_skip

pub returns-clause-check_taken : goal.returns-clause-check_taken
returns-clause-check_taken c = line.reports_check_taken

pub returns-clause-no_hints : goal.returns-clause-no_hints
returns-clause-no_hints c = line.reports_no_hints

pub returns-clause-items_taken : goal.returns-clause-items_taken
returns-clause-items_taken c = line.items_taken

pub returns-clause-items : goal.returns-clause-items
returns-clause-items c = line.items_set

pub returns-clause-no_items : goal.returns-clause-no_items
returns-clause-no_items c = line.items_unset

pub returns-clause-part_taken : goal.returns-clause-part_taken
returns-clause-part_taken c = line.part_taken

pub returns-clause-part : goal.returns-clause-part
returns-clause-part c = line.part_text

pub returns-clause-part_text : goal.returns-clause-part_text
returns-clause-part_text c = line.part_is
