use Rattle.csdl_schema.proofs.BaseLaws.{least_twice, none_twice}
use Rattle.csdl_schema.proofs.laws.least_name_stands_twice.Goals as goal

pub returns-clause-least : goal.returns-clause-least
returns-clause-least c = least_twice

pub returns-clause-none : goal.returns-clause-none
returns-clause-none c = none_twice
