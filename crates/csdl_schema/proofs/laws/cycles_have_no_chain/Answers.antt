use Rattle.std.proofs.Common.{length}
use Rattle.csdl_schema.proofs.BaseLaws.{cyclic}
use Rattle.csdl_schema.proofs.DeclaredSlots.{is_chain}
use Rattle.csdl_schema.proofs.laws.cycles_have_no_chain.Goals as goal

pub returns-clause-cycle : goal.returns-clause-cycle
returns-clause-cycle c = cyclic

pub returns-clause-chain : goal.returns-clause-chain
returns-clause-chain c = λ types t h. is_chain types (length types) t h
