use Rattle.std.proofs.Common.{◌∷◌, [], SFits, w64, rules, subst, sym}
use Rattle.std.proofs.lemmas.Int.{to_z-of_z}
use Rattle.std.specs.Prelude.{IsSomeAnd}
use Rattle.edm_values.specs.Civil.{Date}
use Rattle.edm_values.specs.Instant.{offset_of}
use Rattle.edm_values.specs.Val.{date, moment}
use Rattle.odata_functions.specs.DatumVal.{datum_val}
use Rattle.odata_functions.specs.DateParts.{date_of, hour_of, minute_of, second_of}
use Rattle.odata_signatures.specs.declared.function.Function.{Function}
use Rattle.odata_filter_operations.specs.FunctionCalls.{Applies}
use Rattle.odata_filter_operations.specs.FunctionGives.{FunctionGives}
use Rattle.odata_filter_operations.specs.DatumView.{answer_outcome}
use Rattle.odata_filter_operations.proofs.values.CallValues.{by_its_date, number_same, of_its_date}
use Rattle.odata_filter_operations.proofs.values.Holding.{goes_there}
use Rattle.odata_filter_operations.proofs.function_calls.called_on_moment.Goals as goal

pub returns-in-Hour : goal.returns-in-Hour
returns-in-Hour c = λ now s.
    let fits : SFits w64 c.hour_of.result = search rules in
    subst (λ (f : Function). IsSomeAnd (answer_outcome (datum_val s) c.int32.result) (FunctionGives now f (moment c.args.given.now ∷ []))) (sym c.in-Hour.is)
    (number_same (answer_outcome (datum_val s) c.int32.result) c.hour_of.result (hour_of c.args.given.now) c.hour_of.ensures (number_same (answer_outcome (datum_val s) c.int32.result) _ c.hour_of.result (to_z-of_z w64 c.hour_of.result fits) (c.int32.ensures s)))

pub returns-in-Minute : goal.returns-in-Minute
returns-in-Minute c = λ now s.
    let fits : SFits w64 c.minute_of.result = search rules in
    subst (λ (f : Function). IsSomeAnd (answer_outcome (datum_val s) c.int32-in-Minute.result) (FunctionGives now f (moment c.args.given.now ∷ []))) (sym c.in-Minute.is)
    (number_same (answer_outcome (datum_val s) c.int32-in-Minute.result) c.minute_of.result (minute_of c.args.given.now) c.minute_of.ensures (number_same (answer_outcome (datum_val s) c.int32-in-Minute.result) _ c.minute_of.result (to_z-of_z w64 c.minute_of.result fits) (c.int32-in-Minute.ensures s)))

pub returns-in-Second : goal.returns-in-Second
returns-in-Second c = λ now s.
    let fits : SFits w64 c.second_of.result = search rules in
    subst (λ (f : Function). IsSomeAnd (answer_outcome (datum_val s) c.int32-in-Second.result) (FunctionGives now f (moment c.args.given.now ∷ []))) (sym c.in-Second.is)
    (number_same (answer_outcome (datum_val s) c.int32-in-Second.result) c.second_of.result (second_of c.args.given.now) c.second_of.ensures (number_same (answer_outcome (datum_val s) c.int32-in-Second.result) _ c.second_of.result (to_z-of_z w64 c.second_of.result fits) (c.int32-in-Second.ensures s)))

pub returns-in-TotalOffsetMinutes : goal.returns-in-TotalOffsetMinutes
returns-in-TotalOffsetMinutes c = λ now s.
    let fits : SFits w64 c.offset_of.result = search rules in
    subst (λ (f : Function). IsSomeAnd (answer_outcome (datum_val s) c.int32-in-TotalOffsetMinutes.result) (FunctionGives now f (moment c.args.given.now ∷ []))) (sym c.in-TotalOffsetMinutes.is)
    (number_same (answer_outcome (datum_val s) c.int32-in-TotalOffsetMinutes.result) c.offset_of.result (offset_of c.args.given.now) c.offset_of.ensures (number_same (answer_outcome (datum_val s) c.int32-in-TotalOffsetMinutes.result) _ c.offset_of.result (to_z-of_z w64 c.offset_of.result fits) (c.int32-in-TotalOffsetMinutes.ensures s)))

pub called_on_date-requires : goal.called_on_date-requires
called_on_date-requires c =
    subst (λ (d : Date). Applies c.args.function (date d ∷ [])) (sym c.date_of-in_default.ensures)
    (of_its_date c.args.function c.args.given.now c.requires c.in_default.not-Hour c.in_default.not-Minute c.in_default.not-Second c.in_default.not-TotalOffsetMinutes c.in_default.not-Date)

pub returns-in_default : goal.returns-in_default
returns-in_default c = λ now s.
    let reported = answer_outcome (datum_val s) c.called_on_date.result in
    goes_there reported (FunctionGives now c.args.function (date (date_of c.args.given.now) ∷ [])) (FunctionGives now c.args.function (moment c.args.given.now ∷ []))
    (by_its_date now c.args.function c.args.given.now c.requires c.in_default.not-Hour c.in_default.not-Minute c.in_default.not-Second c.in_default.not-TotalOffsetMinutes c.in_default.not-Date)
    (subst (λ (d : Date). IsSomeAnd reported (FunctionGives now c.args.function (date d ∷ []))) c.date_of-in_default.ensures (c.called_on_date.ensures now s))
