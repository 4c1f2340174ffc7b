use Rattle.command_plan.proofs.LineLemmas.TypesWorked as line
use Rattle.command_plan.proofs.laws.types_by_example.Goals as goal

pub returns-clause-asks : goal.returns-clause-asks
returns-clause-asks c = line.types_asked

pub returns-clause-schema : goal.returns-clause-schema
returns-clause-schema c = line.types_schema

pub returns-clause-format : goal.returns-clause-format
returns-clause-format c = line.types_format

pub returns-clause-no_plan : goal.returns-clause-no_plan
returns-clause-no_plan c = line.types_no_plan

pub returns-clause-missing : goal.returns-clause-missing
returns-clause-missing c = line.types_no_schema

pub returns-clause-no_filter : goal.returns-clause-no_filter
returns-clause-no_filter c = line.types_no_filter
