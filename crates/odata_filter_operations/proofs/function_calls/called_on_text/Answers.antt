use Rattle.std.proofs.Common.{◌≡◌, ◌∷◌, List, ℕ, [], length, map, subst, sym}
use Rattle.std.specs.Char.{to_ascii_lowercase, to_ascii_uppercase}
use Rattle.std.specs.Cow.{cow_str_bytes}
use Rattle.std.specs.Prelude.{IfOk, pos, string_bytes}
use Rattle.std.specs.Str.{chars}
use Rattle.edm_values.specs.Val.{text}
use Rattle.odata_functions.specs.DatumVal.{datum_val}
use Rattle.odata_functions.specs.Texts.{CountComes}
use Rattle.odata_signatures.specs.declared.function.Function.{Function}
use Rattle.odata_filter_operations.specs.FunctionGives.{FunctionGives, GivesCount}
use Rattle.odata_filter_operations.specs.FunctionCalls.{MakesText}
use Rattle.odata_filter_operations.specs.DatumView.{answer_outcome}
use Rattle.odata_filter_operations.specs.Reports.{Reports}
use Rattle.odata_filter_operations.proofs.values.CallValues.{made_reports}
use Rattle.odata_filter_operations.proofs.values.Holding.{some_reports}
use Rattle.odata_filter_operations.proofs.function_calls.called_on_text.Goals as goal

pub returns-in-Length : goal.returns-in-Length
returns-in-Length c = λ now s.
    let count = pos (length (chars (cow_str_bytes c.args.given))) in
    subst (λ (f : Function). Reports (MakesText f) (FunctionGives now f (text (cow_str_bytes c.args.given) ∷ [])) (answer_outcome (datum_val s) c.counted.result)) (sym c.in-Length.is)
    (some_reports (answer_outcome (datum_val s) c.counted.result) (MakesText Function.Length) (GivesCount count)
    (c.counted.ensures count s (subst (λ (b : List ℕ). CountComes (pos (length (chars b))) c.text_length.result) c.as_str.ensures.value c.text_length.ensures)))

pub returns-in-ToLower : goal.returns-in-ToLower
returns-in-ToLower c = λ now s.
    subst (λ (f : Function). Reports (MakesText f) (FunctionGives now f (text (cow_str_bytes c.args.given) ∷ [])) (answer_outcome (datum_val s) c.made.result)) (sym c.in-ToLower.is)
    (made_reports s c.to_lower.result c.made.result (map to_ascii_lowercase (chars (cow_str_bytes c.args.given)))
    (subst (λ (b : List ℕ). IfOk c.to_lower.result (λ t. chars (string_bytes t) ≡ map to_ascii_lowercase (chars b))) c.as_str-in-ToLower.ensures.value c.to_lower.ensures)
    c.made.ensures.text c.made.ensures.memory)

pub returns-in-ToUpper : goal.returns-in-ToUpper
returns-in-ToUpper c = λ now s.
    subst (λ (f : Function). Reports (MakesText f) (FunctionGives now f (text (cow_str_bytes c.args.given) ∷ [])) (answer_outcome (datum_val s) c.made-in-ToUpper.result)) (sym c.in-ToUpper.is)
    (made_reports s c.to_upper.result c.made-in-ToUpper.result (map to_ascii_uppercase (chars (cow_str_bytes c.args.given)))
    (subst (λ (b : List ℕ). IfOk c.to_upper.result (λ t. chars (string_bytes t) ≡ map to_ascii_uppercase (chars b))) c.as_str-in-ToUpper.ensures.value c.to_upper.ensures)
    c.made-in-ToUpper.ensures.text c.made-in-ToUpper.ensures.memory)
