use Rattle.odata_typing.proofs.placed.Leaves.{it_put}
use Rattle.odata_typing.proofs.node_walk.checked_it.Goals as goal

pub returns : goal.returns
returns c =
    it_put c.laws_below.ensures c.args.context.now c.args.judged.now c.args.walk.now c.put_nameless.new.self c.put_nameless.result c.requires.ready c.requires.leaf
    c.put_nameless.ensures.goes_on c.put_nameless.ensures.put
