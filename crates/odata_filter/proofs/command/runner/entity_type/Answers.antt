use Rattle.odata_filter.proofs.RunLemmas.EntityTypes.{entity_held}
use Rattle.odata_filter.proofs.command.runner.entity_type.Goals as goal

pub returns-then-is_entity-clause-held : goal.returns-then-is_entity-clause-held
returns-then-is_entity-clause-held c = entity_held c.args.schema.now c.in-Some.id (c.is_entity.ensures.0 c.if-is_entity.true)
