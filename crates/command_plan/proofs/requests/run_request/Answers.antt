use Rattle.std.proofs.Common.{◌∙◌, Bool, inl, ap, ap₂, subst, sym}
use Rattle.std.specs.Prelude.{◌&&◌, ◌||◌, not}
use Rattle.std.proofs.lemmas.Bool.{and_parts, not-true}
use Rattle.command_plan.specs.PartTexts.{are_lines_of_a_file}
use Rattle.command_plan.specs.Requests.{AsksForPart, format_asked, hints_asked}
use Rattle.command_plan.specs.private.Planner.{AsksForNoPart}
use Rattle.command_plan.proofs.LineLemmas.PartLemmas.{asked_for, lines_there}
use Rattle.command_plan.proofs.LineLemmas.PlanLemmas.{none_left}
use Rattle.command_plan.proofs.requests.run_request.Goals as goal

pub returns : goal.returns
returns c words line =
    record {
      plan = line.plan;
      hints = ap hints_asked (sym line.hints) ∙ sym c.in-Some.ensures;
      format = ap format_asked (sym line.format) ∙ sym c.in-Some-format_asked.ensures;
      rows = line.rows;
      count = line.count;
      is_lines = sym c.asks_for_both.ensures ∙ c.if-asks_for_both.false;
      skip_faulty = line.skip_faulty;
      items = line.items;
      row = line.row;
      has_items = sym c.lacks_collection.ensures ∙ c.if-lacks_collection.false;
      part = subst (λ text. AsksForPart text c.in-Some-part_asked.part) line.part c.in-Some-part_asked.ensures.some;
      part_of_lines = lines_there c.in-Some-part_asked.part _ (sym c.lacks_lines.ensures ∙ c.if-lacks_lines.false);
    }

pub returns-then-asks_for_both : goal.returns-then-asks_for_both
returns-then-asks_for_both c words line =
    let plan = c.args.line.plan in
    let flags = ap (λ (b : Bool). plan.collection && b) (ap₂ (λ (a b : Bool). a || b) line.count line.skip_faulty) in
    (plan, line.plan, sym flags ∙ (sym c.asks_for_both.ensures ∙ c.if-asks_for_both.true))

pub returns-then-lacks_collection : goal.returns-then-lacks_collection
returns-then-lacks_collection c words line =
    let plan = c.args.line.plan in
    (plan, line.plan, sym (ap (λ (b : Bool). b && not plan.collection) line.items) ∙ (sym c.lacks_collection.ensures ∙ c.if-lacks_collection.true))

pub returns-in_default : goal.returns-in_default
returns-in_default c words line =
    inl (c.args.line.plan, line.plan, ap hints_asked (sym line.hints) ∙ sym c.hints_asked.ensures ∙ none_left c.hints_asked.result c.in_default.not-Some)

pub returns-in_default-format_asked : goal.returns-in_default-format_asked
returns-in_default-format_asked c words line =
    inl (c.args.line.plan, line.plan, ap format_asked (sym line.format) ∙ sym c.format_asked.ensures ∙ none_left c.format_asked.result c.in_default-format_asked.not-Some)

pub returns-in_default-part_asked : goal.returns-in_default-part_asked
returns-in_default-part_asked c words line =
    (c.args.line.plan, line.plan, subst AsksForNoPart line.part (rw (none_left c.part_asked.result c.in_default-part_asked.not-Some) at c.part_asked.ensures.none))

pub returns-then-lacks_lines : goal.returns-then-lacks_lines
returns-then-lacks_lines c words line =
    let plan = c.args.line.plan in
    let both = and_parts _ _ (sym c.lacks_lines.ensures ∙ c.if-lacks_lines.true) in
    let asks = subst (λ text. AsksForPart text c.in-Some-part_asked.part) line.part c.in-Some-part_asked.ensures.some in
    (plan, line.plan, (asked_for _ c.in-Some-part_asked.part asks both.0, ap (are_lines_of_a_file plan.collection) (sym line.rows) ∙ not-true _ both.1))
