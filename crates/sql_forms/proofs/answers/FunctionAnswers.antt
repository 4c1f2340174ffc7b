-- Which functions are left where others are asked first.
use Rattle.sql_forms.proofs.Common.{◌≡◌, ◌<◌, ◌∷◌, [], Bool, List, arith, false, length, refl, true, ℕ, ◌≤◌, ◌∙◌, sym, MomentParts, Val, UnlessNull, has_null, FunctionGives, Outcome, Function, OfGiven, SqlFunction, Operand, IsSqlFunctionOf, IsTimeFunction, TakesCount, row_of, arity_of_function}
use Rattle.sql_outcomes.proofs.outcomes.FunctionsMade.{is_time}

pub time_left : (function : Function) → (function ≡ Function.Contains → ⊥) → (function ≡ Function.StartsWith → ⊥) → (function ≡ Function.EndsWith → ⊥) → (function ≡ Function.Concat → ⊥) → (function ≡ Function.Length → ⊥) → (function ≡ Function.IndexOf → ⊥) → (function ≡ Function.Substring → ⊥) → (function ≡ Function.Trim → ⊥) → (function ≡ Function.ToLower → ⊥) → (function ≡ Function.ToUpper → ⊥) → IsTimeFunction function
time_left Function.Contains a b c d e f g h i j = absurd (a refl)
time_left Function.StartsWith a b c d e f g h i j = absurd (b refl)
time_left Function.EndsWith a b c d e f g h i j = absurd (c refl)
time_left Function.Concat a b c d e f g h i j = absurd (d refl)
time_left Function.Length a b c d e f g h i j = absurd (e refl)
time_left Function.IndexOf a b c d e f g h i j = absurd (f refl)
time_left Function.Substring a b c d e f g h i j = absurd (g refl)
time_left Function.Trim a b c d e f g h i j = absurd (h refl)
time_left Function.ToLower a b c d e f g h i j = absurd (i refl)
time_left Function.ToUpper a b c d e f g h i j = absurd (j refl)
time_left _ a b c d e f g h i j = tt

-- null alone comes of `now` with arguments
of_now : (now : MomentParts) (v : Val) (more : List Val) (o : Outcome) (b : Bool) → UnlessNull b (FunctionGives now Function.Now (v ∷ more)) o → UnlessNull b (OfGiven now SqlFunction.DateOfMoment (v ∷ more)) o
of_now now v more o true given = given
of_now now v more o false given = absurd given

now_with : (operands : List Operand) → 0 < length operands → IsSqlFunctionOf Function.Now operands SqlFunction.DateOfMoment
now_with [] some now values o kinds given = absurd (omega (arith, some))
now_with (operand ∷ operands) some now [] o kinds given = absurd kinds
now_with (operand ∷ operands) some now (v ∷ more) o kinds given = (o, of_now now v more o (has_null (v ∷ more)) given, refl)

pub date_left : (function : Function) (operands : List Operand) → IsTimeFunction function → 0 < length operands → (function ≡ Function.Year → ⊥) → (function ≡ Function.Month → ⊥) → (function ≡ Function.Day → ⊥) → (function ≡ Function.Hour → ⊥) → (function ≡ Function.Minute → ⊥) → (function ≡ Function.Second → ⊥) → (function ≡ Function.TotalOffsetMinutes → ⊥) → IsSqlFunctionOf function operands SqlFunction.DateOfMoment
date_left Function.Year operands time some a b c d e f g = absurd (a refl)
date_left Function.Month operands time some a b c d e f g = absurd (b refl)
date_left Function.Day operands time some a b c d e f g = absurd (c refl)
date_left Function.Hour operands time some a b c d e f g = absurd (d refl)
date_left Function.Minute operands time some a b c d e f g = absurd (e refl)
date_left Function.Second operands time some a b c d e f g = absurd (f refl)
date_left Function.TotalOffsetMinutes operands time some a b c d e f g = absurd (g refl)
date_left Function.Date operands time some a b c d e f g = is_time operands Function.Date SqlFunction.DateOfMoment (λ now values o kinds given. given) (λ counting. counting)
date_left Function.Now operands time some a b c d e f g = now_with operands some
date_left _ operands time some a b c d e f g = absurd time

-- ---- how many operands they take

one_taken : (f : Function) (n : ℕ) → (row_of f).least ≡ 1 → length (row_of f).arguments ≡ 1 → TakesCount f n → n ≡ 1
one_taken f n few many takes =
    let least : (row_of f).least ≤ n = takes.least in
    let most : n ≤ length (row_of f).arguments = takes.most in
    omega (arith, few, many, least, most)

pub time_takes : (function : Function) (sql : SqlFunction) (n : ℕ) → IsTimeFunction function → 0 < n → TakesCount function n → arity_of_function sql ≡ 1 → n ≡ arity_of_function sql
time_takes function sql n time some takes one = by function time takes ∙ sym one
  where
    by : (f : Function) → IsTimeFunction f → TakesCount f n → n ≡ 1
    by Function.Year time takes = one_taken Function.Year n refl refl takes
    by Function.Month time takes = one_taken Function.Month n refl refl takes
    by Function.Day time takes = one_taken Function.Day n refl refl takes
    by Function.Hour time takes = one_taken Function.Hour n refl refl takes
    by Function.Minute time takes = one_taken Function.Minute n refl refl takes
    by Function.Second time takes = one_taken Function.Second n refl refl takes
    by Function.TotalOffsetMinutes time takes = one_taken Function.TotalOffsetMinutes n refl refl takes
    by Function.Date time takes = one_taken Function.Date n refl refl takes
    by Function.Now time takes = let most : n ≤ 0 = takes.most in absurd (omega (arith, some, most))
    by f time takes = absurd time
