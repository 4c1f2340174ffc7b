use Rattle.std.proofs.Common.{refl}
use Rattle.odata_syntax.proofs.lists.Pushed.{read_again, taken_to}
use Rattle.odata_syntax.proofs.parser.state.State.regroup.Goals as goal

pub returns-clause-read : goal.returns-clause-read
returns-clause-read c =
    taken_to c.put.result _ _ c.put.ensures.put
    (λ put. rw c.put.ensures.frames
    (read_again c.args.self.now.frames.items c.args.self.now.nodes.items c.take_last-node.new.self.items c.put.new.self.nodes.items c.take_last-node.result _ c.take_last-node.ensures.items put refl refl c.requires))
