use Rattle.std.specs.List.{list_any}
use Rattle.std.specs.Prelude.{string_bytes}
use Rattle.std.proofs.Common.{◌≡◌, ℕ, false, List, ◌==◌, ◌++◌, sym, ◌∙◌, ap}
use Rattle.odata_syntax.proofs.printing.Appended.{on_ok, pushed_ok}
use Rattle.odata_syntax.proofs.printing.Enumerations.{spaceless}
use Rattle.odata_syntax.proofs.printer.enumeration_text.write_enumeration.Goals as goal

pub returns-then-not-contains-clause-ok : goal.returns-then-not-contains-clause-ok
returns-then-not-contains-clause-ok c =
    let none : list_any (λ b. b == 32) c.args.text.now ≡ false = sym (c.contains.ensures.value ∙ ap (list_any (λ b. b == 32)) c.as_bytes.ensures.value) ∙ c.if-not-contains.true in
    on_ok c.push_str.result (λ pushed. pushed ∙ ap (λ (xs : List ℕ). string_bytes c.args.out.now ++ xs) (sym (spaceless c.args.text.now none)))
    (pushed_ok c.push_str.result _ _ _ c.push_str.ensures.bytes)
