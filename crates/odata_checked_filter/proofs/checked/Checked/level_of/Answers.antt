use Rattle.std.proofs.Common.{sym, ap, ◌∙◌}
use Rattle.odata_checked_filter.proofs.flat.Numbered.{level_found, level_of_kind, no_level, no_level_past, numbered, past_end}
use Rattle.odata_checked_filter.proofs.checked.Checked.level_of.Goals as goal

pub returns-in-Variable : goal.returns-in-Variable
returns-in-Variable c =
    let found = level_found c.args.self.now c.args.node c.in-Some.found.now (numbered c.args.self.now c.args.node c.in-Some.found.now c.node_at.ensures.right (sym c.in-Some.ensures.same)) in
    sym (found ∙ ap level_of_kind c.in-Variable.is)

pub returns-in_default : goal.returns-in_default
returns-in_default c =
    let found = level_found c.args.self.now c.args.node c.in-Some.found.now (numbered c.args.self.now c.args.node c.in-Some.found.now c.node_at.ensures.right (sym c.in-Some.ensures.same)) in
    sym (found ∙ no_level c.in-Some.found.now.kind c.in_default.not-Variable)

pub returns-in-None : goal.returns-in-None
returns-in-None c =
    sym (no_level_past c.args.self.now c.args.node c.node_at.ensures.right (past_end c.args.self.now.list.nodes c.args.node c.in-None.ensures.same))
