use Rattle.std.proofs.Common.{◌≡◌, ◌++◌, ℕ, OnOk, string_bytes, subst}
use Rattle.report_calls.specs.TypeLines.{lines_at}
use Rattle.report_calls.proofs.TypeSteps.{nothing_more}
use Rattle.report_calls.proofs.type_lines.push_type_at.Goals as goal

pub returns-in-Some : goal.returns-in-Some
returns-in-Some c =
    subst (λ (n : ℕ). OnOk c.push_type.result (string_bytes c.push_type.new.text ≡ string_bytes c.args.text.now ++ lines_at c.args.schema.now n)) c.in-Some.ensures.0 c.push_type.ensures

pub returns-in-None : goal.returns-in-None
returns-in-None c = nothing_more c.args.schema.now c.args.index (string_bytes c.args.text.now) c.in-None.ensures
