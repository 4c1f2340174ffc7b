use Rattle.std.specs.Prelude.{string_bytes}
use Rattle.std.proofs.Common.{ℕ, List, ◌++◌, sym, ◌∙◌, ap}
use Rattle.odata_syntax.proofs.printing.Appended.{on_ok, pushed_ok}
use Rattle.odata_syntax.proofs.printing.LowerCase.{already_lower}
use Rattle.odata_syntax.proofs.printer.literal_text.push_lowercase.Goals as goal

pub returns-then-not-has_capital-clause-ok : goal.returns-then-not-has_capital-clause-ok
returns-then-not-has_capital-clause-ok c =
    on_ok c.push_str.result
    (λ pushed. pushed ∙ ap (λ (xs : List ℕ). string_bytes c.args.out.now ++ xs) (sym (already_lower c.args.text.now (sym c.has_capital.ensures ∙ c.if-not-has_capital.true))))
    (pushed_ok c.push_str.result _ _ _ c.push_str.ensures.bytes)
