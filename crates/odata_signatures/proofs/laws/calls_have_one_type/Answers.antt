use Rattle.odata_signatures.proofs.functions.Calls.{one_reason, one_type, untyped}
use Rattle.odata_signatures.proofs.functions.Names.{one_function}
use Rattle.odata_signatures.proofs.laws.calls_have_one_type.Goals as goal

pub returns-clause-named : goal.returns-clause-named
returns-clause-named c = one_function

pub returns-clause-one : goal.returns-clause-one
returns-clause-one c = one_type

pub returns-clause-reason : goal.returns-clause-reason
returns-clause-reason c = one_reason

pub returns-clause-apart : goal.returns-clause-apart
returns-clause-apart c = untyped
