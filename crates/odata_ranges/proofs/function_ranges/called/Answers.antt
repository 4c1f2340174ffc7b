use Rattle.odata_ranges.proofs.Common.{inl, inr, refl, arith, ints}
use Rattle.odata_ranges.proofs.CallRanges as calls
use Rattle.odata_ranges.proofs.function_ranges.called.Goals as goal

pub returns-in-Contains-clause-called : goal.returns-in-Contains-clause-called
returns-in-Contains-clause-called c = calls.called_as c.in-Contains.is c.plain.ensures (λ type makes. refl) (calls.contains_within c.args.first c.args.second _)

pub returns-in-StartsWith-clause-called : goal.returns-in-StartsWith-clause-called
returns-in-StartsWith-clause-called c = calls.called_as c.in-StartsWith.is c.plain-in-StartsWith.ensures (λ type makes. refl) (calls.starts_within c.args.first c.args.second _)

pub returns-in-EndsWith-clause-called : goal.returns-in-EndsWith-clause-called
returns-in-EndsWith-clause-called c = calls.called_as c.in-EndsWith.is c.plain-in-EndsWith.ensures (λ type makes. refl) (calls.ends_within c.args.first c.args.second _)

pub returns-in-Date-clause-called : goal.returns-in-Date-clause-called
returns-in-Date-clause-called c = calls.called_as c.in-Date.is c.plain-in-Date.ensures (λ type makes. refl) (calls.date_within c.args.first c.args.second _)

pub returns-in-Now-clause-called : goal.returns-in-Now-clause-called
returns-in-Now-clause-called c = calls.called_as c.in-Now.is c.plain-in-Now.ensures (λ type makes. refl) (calls.now_within c.args.first c.args.second _)

pub returns-in-ToLower-clause-called : goal.returns-in-ToLower-clause-called
returns-in-ToLower-clause-called c =
    calls.called_as c.in-ToLower.is c.between.ensures (λ type makes. refl) (calls.lower_within c.args.first c.args.second _
    (λ n of_first. (omega (arith, ints, of_first.0), λ bounded. let few = of_first.1 (omega (arith, ints, bounded)) in omega (arith, ints, few))))

pub returns-in-ToUpper-clause-called : goal.returns-in-ToUpper-clause-called
returns-in-ToUpper-clause-called c =
    calls.called_as c.in-ToUpper.is c.between-in-ToUpper.ensures (λ type makes. refl) (calls.upper_within c.args.first c.args.second _
    (λ n of_first. (omega (arith, ints, of_first.0), λ bounded. let few = of_first.1 (omega (arith, ints, bounded)) in omega (arith, ints, few))))

pub returns-in-Concat-clause-called : goal.returns-in-Concat-clause-called
returns-in-Concat-clause-called c =
    calls.called_as c.in-Concat.is refl (λ type makes. c.joined.ensures.faults) (calls.concat_within c.args.first c.args.second c.joined.result c.joined.ensures.counts)

pub returns-in-Length-clause-called : goal.returns-in-Length-clause-called
returns-in-Length-clause-called c =
    calls.called_as c.in-Length.is refl (λ type makes. absurd makes) (calls.length_within c.args.first c.args.second c.counted.result
    (λ n o low positive up given. c.counted.ensures.within n o
    (elim c.greatest.ensures.one [ inl is ↦ omega (arith, ints, is, positive) | inr is ↦ omega (arith, ints, is, low) ])
    (λ bounded. let few = up (omega (arith, ints, bounded)) in omega (arith, ints, few)) given))

pub returns-in-IndexOf-clause-called : goal.returns-in-IndexOf-clause-called
returns-in-IndexOf-clause-called c =
    calls.called_as c.in-IndexOf.is refl (λ type makes. absurd makes) (calls.index_within c.args.first c.args.second c.counted-in-IndexOf.result
    (λ n o low up given. c.counted-in-IndexOf.ensures.within n o low
    (λ bounded. let few = up (omega (arith, ints, bounded)) in omega (arith, ints, few)) given))

pub returns-in-Substring-clause-called : goal.returns-in-Substring-clause-called
returns-in-Substring-clause-called c =
    calls.called_as c.in-Substring.is refl (λ type makes. c.up_to.ensures.faults) (calls.substring_within c.args.first c.args.second c.up_to.result
    (λ n most. c.up_to.ensures.within n (λ bounded. let few = most (omega (arith, ints, bounded)) in omega (arith, ints, few))))

pub returns-in-Trim-clause-called : goal.returns-in-Trim-clause-called
returns-in-Trim-clause-called c =
    calls.called_as c.in-Trim.is refl (λ type makes. c.up_to-in-Trim.ensures.faults) (calls.trim_within c.args.first c.args.second c.up_to-in-Trim.result
    (λ n most. c.up_to-in-Trim.ensures.within n (λ bounded. let few = most (omega (arith, ints, bounded)) in omega (arith, ints, few))))

pub returns-in-Year-clause-called : goal.returns-in-Year-clause-called
returns-in-Year-clause-called c =
    calls.called_as c.in-Year.is c.between-in-Year.ensures (λ type makes. refl)
    (calls.year_within c.args.first c.args.second c.day_numbers_have_one_date.ensures.one c.day_numbers_have_one_date.ensures.there)

pub returns-in-Month-clause-called : goal.returns-in-Month-clause-called
returns-in-Month-clause-called c = calls.called_as c.in-Month.is c.between-in-Month.ensures (λ type makes. refl) (calls.month_within c.args.first c.args.second)

pub returns-in-Day-clause-called : goal.returns-in-Day-clause-called
returns-in-Day-clause-called c = calls.called_as c.in-Day.is c.between-in-Day.ensures (λ type makes. refl) (calls.day_within c.args.first c.args.second)

pub returns-in-Hour-clause-called : goal.returns-in-Hour-clause-called
returns-in-Hour-clause-called c = calls.called_as c.in-Hour.is c.between-in-Hour.ensures (λ type makes. refl) (calls.hour_within c.args.first c.args.second)

pub returns-in-Minute-clause-called : goal.returns-in-Minute-clause-called
returns-in-Minute-clause-called c = calls.called_as c.in-Minute.is c.between-in-Minute.ensures (λ type makes. refl) (calls.minute_within c.args.first c.args.second)

pub returns-in-Second-clause-called : goal.returns-in-Second-clause-called
returns-in-Second-clause-called c = calls.called_as c.in-Second.is c.between-in-Second.ensures (λ type makes. refl) (calls.second_within c.args.first c.args.second)

pub returns-in-TotalOffsetMinutes-clause-called : goal.returns-in-TotalOffsetMinutes-clause-called
returns-in-TotalOffsetMinutes-clause-called c = calls.called_as c.in-TotalOffsetMinutes.is c.between-in-TotalOffsetMinutes.ensures (λ type makes. refl) (calls.offset_within c.args.first c.args.second)
