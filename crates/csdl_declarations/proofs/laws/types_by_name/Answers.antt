use Rattle.csdl_declarations.specs.Declarations.{types_declared}
use Rattle.csdl_declarations.proofs.NameOrder.{by_name, one_by_name}
use Rattle.csdl_declarations.proofs.laws.types_by_name.Goals as goal

pub returns-clause-are : goal.returns-clause-are
returns-clause-are c = λ document. by_name (types_declared document)

pub returns-clause-only : goal.returns-clause-only
returns-clause-only c = one_by_name
