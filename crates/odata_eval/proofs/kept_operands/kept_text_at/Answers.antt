use Rattle.std.proofs.Common.{subst, sym}
use Rattle.odata_eval.specs.private.KeptOperands.{AnswersText}
use Rattle.odata_eval.proofs.walking.TextArguments.{kept_text}
use Rattle.odata_eval.proofs.kept_operands.kept_text_at.Goals as goal

pub kept_at-requires : goal.kept_at-requires
kept_at-requires c = c.requires

pub returns-in-Text : goal.returns-in-Text
returns-in-Text c =
    subst (AnswersText c.args.context.now c.args.place) (sym c.as_str.ensures.value)
    (kept_text c.args.context.now c.args.place c.in-Some.value.now c.in-Text.text c.in-Text.is c.in-Some.ensures.answers)
