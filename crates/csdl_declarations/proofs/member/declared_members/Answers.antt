use Rattle.std.proofs.Common.{sym}
use Rattle.csdl_declarations.proofs.Reading.{none_in_order}
use Rattle.csdl_declarations.proofs.member.declared_members.Goals as goal

pub returns-in-None-clause-ordered : goal.returns-in-None-clause-ordered
returns-in-None-clause-ordered c = none_in_order _ (sym c.in-None.ensures)
