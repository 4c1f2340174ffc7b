use Rattle.std.proofs.Common.{◌∙◌, inr, ap, sym}
use Rattle.command_plan.specs.Requests.{format_asked, hints_asked}
use Rattle.command_plan.proofs.LineLemmas.PlanLemmas.{none_left}
use Rattle.command_plan.proofs.requests.types_request.Goals as goal

pub returns : goal.returns
returns c words line =
    record {
      asks = line.asks;
      schema = line.texts.schema;
      hints = ap hints_asked (sym line.texts.hints) ∙ sym c.in-Some.ensures;
      format = ap format_asked (sym line.texts.format) ∙ sym c.in-Some-format_asked.ensures;
    }

pub returns-in_default : goal.returns-in_default
returns-in_default c words line =
    inr (line.asks, ap hints_asked (sym line.texts.hints) ∙ sym c.hints_asked.ensures ∙ none_left c.hints_asked.result c.in_default.not-Some)

pub returns-in_default-format_asked : goal.returns-in_default-format_asked
returns-in_default-format_asked c words line =
    inr (line.asks, ap format_asked (sym line.texts.format) ∙ sym c.format_asked.ensures ∙ none_left c.format_asked.result c.in_default-format_asked.not-Some)
