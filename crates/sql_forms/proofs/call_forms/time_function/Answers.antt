use Rattle.sql_forms.proofs.Common.{◌≡◌, ◌∙◌, ap, false, length, refl, sym, true, slice_get_read, Function, SqlFunction, Operand}
use Rattle.sql_forms.proofs.answers.FunctionAnswers.{date_left}
use Rattle.sql_outcomes.proofs.outcomes.FunctionsMade.{day_one, made_alike, month_one, part_of_date, part_of_moment, year_one}
use Rattle.sql_forms.proofs.call_forms.time_function.Goals as goal

pub returns-then-of_date-clause-is : goal.returns-then-of_date-clause-is
returns-then-of_date-clause-is c =
    part_of_date c.args.operands.now c.index-operands-0.result (slice_get_read c.args.operands.now (length c.args.operands.now) 0 c.index-operands-0.result refl c.requires.some c.index-operands-0.is) c.args.function Function.Year c.in-Year.is SqlFunction.YearOfDate year_one
    (ap (λ (x : Operand). x.kind) c.index-operands-0.is ∙ c.is_kind-of_date.ensures.0 c.if-of_date.true) (λ now values o given. given) (λ counting. counting)

pub returns-else-of_date-clause-is : goal.returns-else-of_date-clause-is
returns-else-of_date-clause-is c =
    part_of_moment c.args.operands.now c.index-operands-0.result (slice_get_read c.args.operands.now (length c.args.operands.now) 0 c.index-operands-0.result refl c.requires.some c.index-operands-0.is) c.args.function Function.Year c.in-Year.is SqlFunction.YearOfMoment year_one
    (λ same. let clash : false ≡ true = sym c.if-of_date.false ∙ c.is_kind-of_date.ensures.1 (ap (λ (x : Operand). x.kind) (sym c.index-operands-0.is) ∙ same) in absurd (cc)) (λ now values o given. given) (λ counting. counting)

pub returns-then-of_date-2-clause-is : goal.returns-then-of_date-2-clause-is
returns-then-of_date-2-clause-is c =
    part_of_date c.args.operands.now c.index-operands-0.result (slice_get_read c.args.operands.now (length c.args.operands.now) 0 c.index-operands-0.result refl c.requires.some c.index-operands-0.is) c.args.function Function.Month c.in-Month.is SqlFunction.MonthOfDate month_one
    (ap (λ (x : Operand). x.kind) c.index-operands-0.is ∙ c.is_kind-of_date.ensures.0 c.if-of_date-2.true) (λ now values o given. given) (λ counting. counting)

pub returns-else-of_date-2-clause-is : goal.returns-else-of_date-2-clause-is
returns-else-of_date-2-clause-is c =
    part_of_moment c.args.operands.now c.index-operands-0.result (slice_get_read c.args.operands.now (length c.args.operands.now) 0 c.index-operands-0.result refl c.requires.some c.index-operands-0.is) c.args.function Function.Month c.in-Month.is SqlFunction.MonthOfMoment month_one
    (λ same. let clash : false ≡ true = sym c.if-of_date-2.false ∙ c.is_kind-of_date.ensures.1 (ap (λ (x : Operand). x.kind) (sym c.index-operands-0.is) ∙ same) in absurd (cc)) (λ now values o given. given) (λ counting. counting)

pub returns-then-of_date-3-clause-is : goal.returns-then-of_date-3-clause-is
returns-then-of_date-3-clause-is c =
    part_of_date c.args.operands.now c.index-operands-0.result (slice_get_read c.args.operands.now (length c.args.operands.now) 0 c.index-operands-0.result refl c.requires.some c.index-operands-0.is) c.args.function Function.Day c.in-Day.is SqlFunction.DayOfDate day_one
    (ap (λ (x : Operand). x.kind) c.index-operands-0.is ∙ c.is_kind-of_date.ensures.0 c.if-of_date-3.true) (λ now values o given. given) (λ counting. counting)

pub returns-else-of_date-3-clause-is : goal.returns-else-of_date-3-clause-is
returns-else-of_date-3-clause-is c =
    part_of_moment c.args.operands.now c.index-operands-0.result (slice_get_read c.args.operands.now (length c.args.operands.now) 0 c.index-operands-0.result refl c.requires.some c.index-operands-0.is) c.args.function Function.Day c.in-Day.is SqlFunction.DayOfMoment day_one
    (λ same. let clash : false ≡ true = sym c.if-of_date-3.false ∙ c.is_kind-of_date.ensures.1 (ap (λ (x : Operand). x.kind) (sym c.index-operands-0.is) ∙ same) in absurd (cc)) (λ now values o given. given) (λ counting. counting)

pub returns-in-Hour-clause-is : goal.returns-in-Hour-clause-is
returns-in-Hour-clause-is c = made_alike c.args.operands.now c.args.function Function.Hour SqlFunction.Hour c.in-Hour.is (λ now values o kinds given. given) (λ counting. counting)

pub returns-in-Minute-clause-is : goal.returns-in-Minute-clause-is
returns-in-Minute-clause-is c = made_alike c.args.operands.now c.args.function Function.Minute SqlFunction.Minute c.in-Minute.is (λ now values o kinds given. given) (λ counting. counting)

pub returns-in-Second-clause-is : goal.returns-in-Second-clause-is
returns-in-Second-clause-is c = made_alike c.args.operands.now c.args.function Function.Second SqlFunction.Second c.in-Second.is (λ now values o kinds given. given) (λ counting. counting)

pub returns-in-TotalOffsetMinutes-clause-is : goal.returns-in-TotalOffsetMinutes-clause-is
returns-in-TotalOffsetMinutes-clause-is c = made_alike c.args.operands.now c.args.function Function.TotalOffsetMinutes SqlFunction.OffsetMinutes c.in-TotalOffsetMinutes.is (λ now values o kinds given. given) (λ counting. counting)

pub returns-in_default : goal.returns-in_default
returns-in_default c = record {
  is =
      date_left c.args.function c.args.operands.now c.requires.time c.requires.some c.in_default.not-Year c.in_default.not-Month c.in_default.not-Day c.in_default.not-Hour c.in_default.not-Minute c.in_default.not-Second c.in_default.not-TotalOffsetMinutes;
  one = refl;
}
