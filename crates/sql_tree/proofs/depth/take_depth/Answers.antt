use Rattle.sql_tree.proofs.Deepest.{empty_none, nothing_taken, taken}
use Rattle.sql_tree.proofs.depth.take_depth.Goals as goal

pub returns-in-Some : goal.returns-in-Some
returns-in-Some c = taken c.args.depths.now.items c.pop.new.self.items c.in-Some.depth c.in-Some.ensures.items

pub returns-in-None : goal.returns-in-None
returns-in-None c = λ depth below is.
    let none = nothing_taken c.pop.result c.args.depths.now.items c.pop.new.self.items _ _ c.in-None.is c.pop.ensures.items c.pop.ensures.cases c.pop.ensures.rest in
    absurd (empty_none c.args.depths.now.items none depth below is)
