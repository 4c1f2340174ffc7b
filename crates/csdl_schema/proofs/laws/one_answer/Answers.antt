use Rattle.csdl_schema.proofs.SchemaLaws.{one_schema, one_fault, fault_or_schema}
use Rattle.csdl_schema.proofs.laws.one_answer.Goals as goal

pub returns-clause-schema : goal.returns-clause-schema
returns-clause-schema c = one_schema

pub returns-clause-fault : goal.returns-clause-fault
returns-clause-fault c = one_fault

pub returns-clause-apart : goal.returns-clause-apart
returns-clause-apart c = fault_or_schema
