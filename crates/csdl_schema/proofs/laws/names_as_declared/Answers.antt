use Rattle.csdl_schema.proofs.SchemaLaws.{same_place}
use Rattle.csdl_schema.proofs.laws.names_as_declared.Goals as goal

pub returns : goal.returns
returns c = same_place
