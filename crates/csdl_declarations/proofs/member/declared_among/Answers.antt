use Rattle.csdl_declarations.proofs.Reading.{declared_in_order}
use Rattle.csdl_declarations.proofs.member.declared_among.Goals as goal

pub returns-clause-ordered : goal.returns-clause-ordered
returns-clause-ordered c = declared_in_order c.args.members.now.entries c.iter-key-items.ensures.ordered
