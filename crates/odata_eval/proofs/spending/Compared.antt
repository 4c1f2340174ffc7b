-- What comparisons with members take from a budget, one after another.
use Rattle.std.proofs.Common.{◌≡◌, ◌<◌, ◌≤◌, ◌+◌, ◌-◌, ◌∙◌, ℕ, zero, suc, List, [], ◌∷◌, true, Some, length, slice_get, inl, inr, ap, refl, sym, subst, arith}
use Rattle.std.proofs.lemmas.Option.{slice_get_within}
use Rattle.edm_values.specs.declared.datum.Datum.{Datum}
use Rattle.edm_values.specs.declared.value.Value.{Value}
use Rattle.odata_filter_operations.specs.Collections.{AreCompared}
use Rattle.odata_eval.specs.declared.budget.Budget.{Budget}
use Rattle.odata_eval.specs.private.Spending.{HasFewer, IsTaken, Takes, member_due, members_due, stored_cost}
use Rattle.odata_eval.proofs.spending.Budgets.{fewer_first, fewer_then, takes_both}

-- within the list something is there
pub found_at : (held : List Value) (k : ℕ) → k < length held → (found : Value) × (slice_get held k ≡ Some found)
found_at [] k within = absurd (omega (arith, within))
found_at (v ∷ more) zero within = (v, refl)
found_at (v ∷ more) (suc k) within = found_at more k (omega (arith, within))

-- no more are compared than there are
pub compared_within : (left : Datum) (held : List Value) (count : ℕ) → AreCompared left held count → count ≤ length held
compared_within left held count (inl first) =
    let it = first.0 in
    let within = slice_get_within held it.place it.found it.stands_at in
    let is : count ≡ it.place + 1 = first.1 in
    omega (arith, within, is)
compared_within left held count (inr all) = let is : count ≡ length held = all.1 in omega (arith, is)

-- without a bound anything can be taken
unbounded_takes : (n : ℕ) → Takes Budget.Unbounded Budget.Unbounded n
unbounded_takes n = tt

pub taken_unbounded : (budget : Budget) (n : ℕ) → budget ≡ Budget.Unbounded → IsTaken true budget budget n
taken_unbounded budget n is = subst (λ (b : Budget). Takes b b n) (sym is) (unbounded_takes n)

module _ (each : ℕ) (left : Datum) (held : List Value) where
  sum_more : (total first more own : ℕ) → total ≡ first + more → total + own ≡ first + (more + own)
  sum_more total first more own is = omega (arith, is)

  -- the later ones are due beside the first
  due_after : (k further count : ℕ) → count ≡ suc k + further → (more : ℕ) × (members_due each left held count ≡ members_due each left held (suc k) + more)
  due_after k zero count is =
      let same : count ≡ suc k = omega (arith, is) in
      (0, subst (λ (m : ℕ). members_due each left held m ≡ members_due each left held (suc k) + 0) (sym same) (omega arith))
  due_after k (suc further) zero is = absurd (omega (arith, is))
  due_after k (suc further) (suc count) is =
      let same : count ≡ suc k + further = omega (arith, is) in
      let rest = due_after k further count same in
      (rest.0 + member_due each left (slice_get held count), sum_more (members_due each left held count) (members_due each left held (suc k)) rest.0 (member_due each left (slice_get held count)) rest.1)

  later_due : (k count : ℕ) → k < count → (more : ℕ) × (members_due each left held count ≡ members_due each left held (suc k) + more)
  later_due k count before = due_after k (count - suc k) count (omega (arith, before))

  module _ (k : ℕ) (found : Value) (there : slice_get held k ≡ Some found) (old now : Budget) (paid : Takes old now (members_due each left held k)) where
    own_is : member_due each left (slice_get held k) ≡ each + stored_cost left found
    own_is = ap (member_due each left) there

    -- a member that could be paid for
    pub member_paid : (mid new : Budget) (cost : ℕ) → cost ≡ stored_cost left found → Takes now mid each → Takes mid new cost → Takes old new (members_due each left held (suc k))
    member_paid mid new cost is first second =
        let own : Takes now new (each + cost) = takes_both now mid new each cost first second in
        let due : Takes now new (member_due each left (slice_get held k)) = subst (Takes now new) (ap (λ (c : ℕ). each + c) is ∙ sym own_is) own in
        takes_both old now new (members_due each left held k) (member_due each left (slice_get held k)) paid due

    -- one that could not
    short : (count : ℕ) → k < count → HasFewer now (each + stored_cost left found) → HasFewer old (members_due each left held count)
    short count before fewer =
        let rest = later_due k count before in
        let due : HasFewer now (member_due each left (slice_get held k)) = subst (HasFewer now) (sym own_is) fewer in
        subst (HasFewer old) (sym rest.1) (fewer_first old (members_due each left held (suc k)) rest.0 (fewer_then old now (members_due each left held k) (member_due each left (slice_get held k)) paid due))

    pub first_short : (count : ℕ) → k < count → HasFewer now each → HasFewer old (members_due each left held count)
    first_short count before fewer = short count before (fewer_first now each (stored_cost left found) fewer)

    pub second_short : (count : ℕ) → k < count → (mid : Budget) (cost : ℕ) → cost ≡ stored_cost left found → Takes now mid each → HasFewer mid cost → HasFewer old (members_due each left held count)
    second_short count before mid cost is first fewer =
        short count before (subst (λ (c : ℕ). HasFewer now (each + c)) is (fewer_then now mid each cost first fewer))
