use Rattle.std.proofs.Common.{◌∷◌, ◌++◌, [], subst, sym}
use Rattle.std.specs.Str.{chars}
use Rattle.edm_values.specs.Val.{text}
use Rattle.odata_functions.specs.DatumVal.{datum_val}
use Rattle.odata_functions.specs.Texts.{IsPlaceOf}
use Rattle.odata_signatures.specs.declared.function.Function.{Function}
use Rattle.odata_filter_operations.specs.FunctionGives.{FunctionGives}
use Rattle.odata_filter_operations.specs.FunctionCalls.{MakesText}
use Rattle.odata_filter_operations.specs.DatumView.{answer_outcome}
use Rattle.odata_filter_operations.specs.Reports.{Reports}
use Rattle.odata_filter_operations.proofs.values.CallValues.{made_reports, number_gives}
use Rattle.odata_filter_operations.proofs.values.Holding.{some_reports}
use Rattle.odata_filter_operations.proofs.function_calls.called_on_texts.Goals as goal

pub returns-in-IndexOf : goal.returns-in-IndexOf
returns-in-IndexOf c = λ now s.
    let reported = answer_outcome (datum_val s) c.counted.result in
    let place = c.index_of.ensures in
    subst (λ (f : Function). Reports (MakesText f) (FunctionGives now f (text c.args.given.now ∷ text c.args.part.now ∷ [])) reported) (sym c.in-IndexOf.is)
    (some_reports reported (MakesText Function.IndexOf) _
    (number_gives reported (IsPlaceOf (chars c.args.given.now) (chars c.args.part.now)) place.0 place.1 (c.counted.ensures place.0 s place.2)))

pub returns-in-Concat : goal.returns-in-Concat
returns-in-Concat c = λ now s.
    subst (λ (f : Function). Reports (MakesText f) (FunctionGives now f (text c.args.given.now ∷ text c.args.part.now ∷ [])) (answer_outcome (datum_val s) c.made.result)) (sym c.in-Concat.is)
    (made_reports s c.concat.result c.made.result (chars c.args.given.now ++ chars c.args.part.now) c.concat.ensures c.made.ensures.text c.made.ensures.memory)
