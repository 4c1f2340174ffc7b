use Rattle.std.proofs.Common.{◌∷◌, [], subst, sym}
use Rattle.edm_values.specs.declared.datum.Datum.{Datum}
use Rattle.odata_functions.specs.DatumVal.{datum_val}
use Rattle.odata_filter_operations.specs.CallGives.{CallGives}
use Rattle.odata_filter_operations.specs.FunctionCalls.{Applies, MakesText}
use Rattle.odata_filter_operations.specs.DatumView.{answer_outcome}
use Rattle.odata_filter_operations.specs.Reports.{Reports}
use Rattle.odata_filter_operations.proofs.values.CallValues.{null_first, null_gives, null_here}
use Rattle.odata_filter_operations.proofs.values.OneReading.{one_reading}
use Rattle.odata_filter_operations.proofs.values.Holding.{some_reports}
use Rattle.odata_filter_operations.proofs.function_calls.called_on_one.Goals as goal

pub called_on_text-requires : goal.called_on_text-requires
called_on_text-requires c = subst (λ (d : Datum). Applies c.args.function (datum_val one_reading d ∷ [])) c.in-Text.is (c.requires one_reading)

pub returns-in-Text : goal.returns-in-Text
returns-in-Text c = λ now r s.
    subst (λ (d : Datum). Reports (MakesText c.args.function) (CallGives now c.args.function (datum_val r d ∷ [])) (answer_outcome (datum_val s) c.called_on_text.result)) (sym c.in-Text.is)
    (c.called_on_text.ensures now s)

pub called_on_date-requires : goal.called_on_date-requires
called_on_date-requires c = subst (λ (d : Datum). Applies c.args.function (datum_val one_reading d ∷ [])) c.in-Date.is (c.requires one_reading)

pub returns-in-Date : goal.returns-in-Date
returns-in-Date c = λ now r s.
    subst (λ (d : Datum). Reports (MakesText c.args.function) (CallGives now c.args.function (datum_val r d ∷ [])) (answer_outcome (datum_val s) c.called_on_date.result)) (sym c.in-Date.is)
    (some_reports (answer_outcome (datum_val s) c.called_on_date.result) (MakesText c.args.function) _ (c.called_on_date.ensures now s))

pub called_on_moment-requires : goal.called_on_moment-requires
called_on_moment-requires c = subst (λ (d : Datum). Applies c.args.function (datum_val one_reading d ∷ [])) c.in-Moment.is (c.requires one_reading)

pub returns-in-Moment : goal.returns-in-Moment
returns-in-Moment c = λ now r s.
    subst (λ (d : Datum). Reports (MakesText c.args.function) (CallGives now c.args.function (datum_val r d ∷ [])) (answer_outcome (datum_val s) c.called_on_moment.result)) (sym c.in-Moment.is)
    (some_reports (answer_outcome (datum_val s) c.called_on_moment.result) (MakesText c.args.function) _ (c.called_on_moment.ensures now s))

pub returns-in_default : goal.returns-in_default
returns-in_default c = λ now r s.
    null_gives now c.args.function (datum_val r c.args.first ∷ [])
    (null_here (datum_val r c.args.first) [] (null_first r c.args.function c.args.first [] (c.requires r) c.in_default.not-Text c.in_default.not-Date c.in_default.not-Moment))
