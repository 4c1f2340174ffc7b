use Rattle.filter_context.proofs.Parts.{part_inside}
use Rattle.odata_eval.proofs.and_chain.is_and.Goals as goal

pub node-requires : goal.node-requires
node-requires c = part_inside c.args.context.now c.args.place c.requires.stands
