use Rattle.edm_entities.proofs.text_entity.tree_values.Goals as goal

pub returns-in-Ok-clause-values : goal.returns-in-Ok-clause-values
returns-in-Ok-clause-values c = c.node_values.ensures.values c.args.text.now (c.utf8.text, c.in-Ok.ensures.ok)

pub returns-in-Ok-clause-fault : goal.returns-in-Ok-clause-fault
returns-in-Ok-clause-fault c = c.node_values.ensures.fault c.args.text.now (c.utf8.text, c.in-Ok.ensures.ok)
