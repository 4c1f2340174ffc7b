use Rattle.csdl_schema.proofs.SchemaWorked.{mini_stands, array_refused}
use Rattle.csdl_schema.proofs.laws.documents_by_example.Goals as goal

pub returns-clause-mini : goal.returns-clause-mini
returns-clause-mini c = mini_stands

pub returns-clause-array : goal.returns-clause-array
returns-clause-array c = array_refused
