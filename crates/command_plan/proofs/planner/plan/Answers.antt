use Rattle.std.proofs.Common.{map, subst}
use Rattle.command_plan.specs.private.Planner.{IsEnteredBy}
use Rattle.command_plan.proofs.LineLemmas.Entered.{types_have_no_plan}
use Rattle.command_plan.proofs.planner.plan.Goals as goal

pub returns-in-Ok-Types : goal.returns-in-Ok-Types
returns-in-Ok-Types c =
    let words = map (λ s. s.now) c.args.words.now in
    let types = c.in-Ok-Types in
    types_have_no_plan words types.field-0-0 (subst (IsEnteredBy words) types.field-0-is types.ensures)
