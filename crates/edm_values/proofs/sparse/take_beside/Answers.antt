use Rattle.std.proofs.Common.{◌≡◌, ◌∷◌, ◌++◌, [], length, arith}
use Rattle.std.proofs.lemmas.Grind.{common_steps}
use Rattle.edm_values.proofs.FewValues.{null_taken, value_taken}
use Rattle.edm_values.proofs.sparse.take_beside.Goals as goal

pub loop-value-preserved : goal.loop-value-preserved
loop-value-preserved c =
    let l = c.loop-value in
    null_taken c.args.values.now.items l.values.items c.pop.new.self.items l.held.items c.in-Some.value c.in-Some.ensures.items (c.is_null.ensures c.if-not-is_null.false) l.invariant

pub loop-value-preserved-in-Continue-branch-2 : goal.loop-value-preserved-in-Continue-branch-2
loop-value-preserved-in-Continue-branch-2 c =
    let l = c.loop-value in
    let pushed : c.push.new.self.items ≡ l.held.items ++ (length c.pop.new.self.items, c.in-Some.value) ∷ [] = grind (arith, common_steps) in
    value_taken c.args.values.now.items l.values.items c.pop.new.self.items l.held.items c.push.new.self.items c.in-Some.value c.in-Some.ensures.items pushed l.invariant
