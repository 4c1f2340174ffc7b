use Rattle.csdl_schema.proofs.DeclaredSlots.{ends, short, one_chain}
use Rattle.csdl_schema.proofs.laws.bases_end.Goals as goal

pub returns-clause-ends : goal.returns-clause-ends
returns-clause-ends c = ends

pub returns-clause-short : goal.returns-clause-short
returns-clause-short c = short

pub returns-clause-only : goal.returns-clause-only
returns-clause-only c = one_chain
