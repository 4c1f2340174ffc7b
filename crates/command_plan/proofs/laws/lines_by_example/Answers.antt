use Rattle.command_plan.proofs.LineLemmas.CommandLineWorked as line
use Rattle.command_plan.proofs.laws.lines_by_example.Goals as goal

pub returns-clause-taken : goal.returns-clause-taken
returns-clause-taken c = line.whole_taken

pub returns-clause-schema : goal.returns-clause-schema
returns-clause-schema c = line.whole_schema

pub returns-clause-named : goal.returns-clause-named
returns-clause-named c = line.whole_type

pub returns-clause-filter : goal.returns-clause-filter
returns-clause-filter c = line.whole_filter

pub returns-clause-rows : goal.returns-clause-rows
returns-clause-rows c = line.whole_rows

pub returns-clause-lines : goal.returns-clause-lines
returns-clause-lines c = line.whole_lines

pub returns-clause-collection_taken : goal.returns-clause-collection_taken
returns-clause-collection_taken c = line.collection_taken

pub returns-clause-collection : goal.returns-clause-collection
returns-clause-collection c = line.collection_set

pub returns-clause-query_taken : goal.returns-clause-query_taken
returns-clause-query_taken c = line.query_taken

pub returns-clause-query : goal.returns-clause-query
returns-clause-query c = line.query_found

pub returns-clause-neither : goal.returns-clause-neither
returns-clause-neither c = line.neither

pub returns-clause-both : goal.returns-clause-both
returns-clause-both c = line.both

pub returns-clause-missing : goal.returns-clause-missing
returns-clause-missing c = line.no_schema

pub returns-clause-unknown : goal.returns-clause-unknown
returns-clause-unknown c = line.unknown_option

pub returns-clause-version : goal.returns-clause-version
returns-clause-version c = line.version

pub returns-clause-no_version : goal.returns-clause-no_version
returns-clause-no_version c = line.no_version

pub returns-clause-help : goal.returns-clause-help
returns-clause-help c = line.help

pub returns-clause-check_taken : goal.returns-clause-check_taken
returns-clause-check_taken c = line.check_taken

pub returns-clause-check_enters : goal.returns-clause-check_enters
returns-clause-check_enters c = line.check_enters

pub returns-clause-check_filter : goal.returns-clause-check_filter
returns-clause-check_filter c = line.check_filter

pub returns-clause-check_has_no_rows : goal.returns-clause-check_has_no_rows
returns-clause-check_has_no_rows c = line.check_rows

pub returns-clause-check_has_no_now : goal.returns-clause-check_has_no_now
returns-clause-check_has_no_now c = line.check_now

pub returns-clause-check_has_no_collection : goal.returns-clause-check_has_no_collection
returns-clause-check_has_no_collection c = line.check_collection

pub returns-clause-now_taken : goal.returns-clause-now_taken
returns-clause-now_taken c = line.now_taken

pub returns-clause-now : goal.returns-clause-now
returns-clause-now c = line.now_found

pub returns-clause-explain_taken : goal.returns-clause-explain_taken
returns-clause-explain_taken c = line.explain_taken

pub returns-clause-explain_enters : goal.returns-clause-explain_enters
returns-clause-explain_enters c = line.explain_enters

pub returns-clause-explain_query : goal.returns-clause-explain_query
returns-clause-explain_query c = line.explain_query

pub returns-clause-explain_row_taken : goal.returns-clause-explain_row_taken
returns-clause-explain_row_taken c = line.explain_row_taken

pub returns-clause-explain_rows : goal.returns-clause-explain_rows
returns-clause-explain_rows c = line.explain_rows

pub returns-clause-explain_row : goal.returns-clause-explain_row
returns-clause-explain_row c = line.explain_row

pub returns-clause-explain_now : goal.returns-clause-explain_now
returns-clause-explain_now c = line.explain_now

pub returns-clause-explain_has_no_collection : goal.returns-clause-explain_has_no_collection
returns-clause-explain_has_no_collection c = line.explain_collection

pub returns-clause-filter_has_no_row : goal.returns-clause-filter_has_no_row
returns-clause-filter_has_no_row c = line.filter_row
