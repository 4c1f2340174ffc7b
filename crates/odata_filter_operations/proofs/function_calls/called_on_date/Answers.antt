use Rattle.std.proofs.Common.{◌∷◌, [], SFits, w64, rules, subst, sym}
use Rattle.std.proofs.lemmas.Int.{to_z-of_z}
use Rattle.std.specs.Prelude.{IsSomeAnd}
use Rattle.edm_values.specs.Civil.{epoch_day}
use Rattle.edm_values.specs.Val.{date}
use Rattle.odata_functions.specs.DatumVal.{datum_val}
use Rattle.odata_functions.specs.DateParts.{IsDayOf, IsMonthOf, IsYearOf}
use Rattle.odata_signatures.specs.declared.function.Function.{Function}
use Rattle.odata_filter_operations.specs.FunctionGives.{FunctionGives}
use Rattle.odata_filter_operations.specs.DatumView.{answer_outcome}
use Rattle.odata_filter_operations.proofs.values.CallValues.{number_gives, number_same}
use Rattle.odata_filter_operations.proofs.function_calls.called_on_date.Goals as goal

pub returns-in-Year : goal.returns-in-Year
returns-in-Year c = λ now s.
    let fits : SFits w64 c.year_of.result = search rules in
    subst (λ (f : Function). IsSomeAnd (answer_outcome (datum_val s) c.int32.result) (FunctionGives now f (date c.args.given ∷ []))) (sym c.in-Year.is)
    (number_gives (answer_outcome (datum_val s) c.int32.result) (IsYearOf (epoch_day c.args.given)) c.year_of.result c.year_of.ensures (number_same (answer_outcome (datum_val s) c.int32.result) _ c.year_of.result (to_z-of_z w64 c.year_of.result fits) (c.int32.ensures s)))

pub returns-in-Month : goal.returns-in-Month
returns-in-Month c = λ now s.
    let fits : SFits w64 c.month_of.result = search rules in
    subst (λ (f : Function). IsSomeAnd (answer_outcome (datum_val s) c.int32-in-Month.result) (FunctionGives now f (date c.args.given ∷ []))) (sym c.in-Month.is)
    (number_gives (answer_outcome (datum_val s) c.int32-in-Month.result) (IsMonthOf (epoch_day c.args.given)) c.month_of.result c.month_of.ensures (number_same (answer_outcome (datum_val s) c.int32-in-Month.result) _ c.month_of.result (to_z-of_z w64 c.month_of.result fits) (c.int32-in-Month.ensures s)))

pub returns-in-Day : goal.returns-in-Day
returns-in-Day c = λ now s.
    let fits : SFits w64 c.day_of.result = search rules in
    subst (λ (f : Function). IsSomeAnd (answer_outcome (datum_val s) c.int32-in-Day.result) (FunctionGives now f (date c.args.given ∷ []))) (sym c.in-Day.is)
    (number_gives (answer_outcome (datum_val s) c.int32-in-Day.result) (IsDayOf (epoch_day c.args.given)) c.day_of.result c.day_of.ensures (number_same (answer_outcome (datum_val s) c.int32-in-Day.result) _ c.day_of.result (to_z-of_z w64 c.day_of.result fits) (c.int32-in-Day.ensures s)))
