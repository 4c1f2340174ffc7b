use Rattle.edm_entities.proofs.TapeLemmas.Values.{read_is}
use Rattle.edm_entities.proofs.tape_node.TapeNode.of_tape.Goals as goal

pub invariant_of-result : goal.invariant_of-result
invariant_of-result c =
    let value = c.root-element.ensures.value in
    read_is c.root-element.result c.args.depth value.0 value.1 c.requires ((c.is_read.ensures value.0 value.1).0 c.if-is_read.true)
