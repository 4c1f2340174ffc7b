-- The two parts in which `split_at` leaves a list.
use Rattle.sql_forms.proofs.Common.{◌≡◌, ◌<◌, ◌-◌, ◌++◌, ◌∙◌, ℕ, List, drop, length, length-drop, length-take-le, take, take-append-drop, sym, ap, subst, arith, AllByRecursion, Filter, Range, Operand, AreCompared, IsTested, AreBeside}
use Rattle.sql_outcomes.proofs.outcomes.Elements.{front_all, rest_all}

module _ {T : Type 0} (whole front rest : List T) (mid : ℕ) (front_is : front ≡ take mid whole) (rest_is : rest ≡ drop mid whole) where
  pub both_parts : whole ≡ front ++ rest
  both_parts = sym (take-append-drop mid whole) ∙ (λ i. sym front_is i ++ sym rest_is i)

  pub of_front : (P : T → Type 0) → AllByRecursion P whole → AllByRecursion P front
  of_front P all = front_all P front rest (subst (AllByRecursion P) both_parts all)

  pub of_rest : (P : T → Type 0) → AllByRecursion P whole → AllByRecursion P rest
  of_rest P all = rest_all P front rest (subst (AllByRecursion P) both_parts all)

  pub front_some : 0 < mid → mid < length whole → 0 < length front
  front_some some less =
      let many : length front ≡ length (take mid whole) = ap length front_is in
      let of_mid : length (take mid whole) ≡ mid = length-take-le mid whole (omega (arith, less)) in
      omega (arith, some, many, of_mid)

  pub rest_some : mid < length whole → 0 < length rest
  rest_some less =
      let many : length rest ≡ length (drop mid whole) = ap length rest_is in
      let left : length (drop mid whole) ≡ length whole - mid = length-drop mid whole in
      omega (arith, less, many, left)

module _ (filter : Filter) (ranges : List Range) (left : Operand) (items front rest : List Operand) (mid : ℕ) (front_is : front ≡ take mid items) (rest_is : rest ≡ drop mid items)
    (beside : AreBeside filter ranges left items) where
  pub front_beside : AreBeside filter ranges left front
  front_beside = record {
    left_tested = beside.left_tested;
    tested = of_front items front rest mid front_is rest_is (IsTested filter ranges) beside.tested;
    compared = of_front items front rest mid front_is rest_is (λ (item : Operand). AreCompared left.kind item.kind) beside.compared;
  }

  pub rest_beside : AreBeside filter ranges left rest
  rest_beside = record {
    left_tested = beside.left_tested;
    tested = of_rest items front rest mid front_is rest_is (IsTested filter ranges) beside.tested;
    compared = of_rest items front rest mid front_is rest_is (λ (item : Operand). AreCompared left.kind item.kind) beside.compared;
  }
