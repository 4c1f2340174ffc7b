-- What `any` and `all` evaluate to by the first member that decides, of bodies that may evaluate to faults.
use Rattle.sql_outcomes.proofs.Common.{◌≡◌, inl, inr, ◌<◌, ◌+◌, ◌*◌, ℕ, zero, suc, pos, List, [], ◌∷◌, true, false, Option, Some, None, length, refl, sym, ap, ◌∙◌, arith, slice_get, Val, boolean, null, Quantifier, Then, Outcome, gives, overflow, divides_by_zero, DecisionGives, IsUndecided, QuantifierGives, undecided_val, IsCoded, code_of, decisions}
use Rattle.sql_outcomes.proofs.outcomes.Deciding.{first_from}
use Rattle.std.proofs.lemmas.Option.{none-some, same_Some}

-- what an outcome of the body decides, by its code
abbrev pub decided : Quantifier → Outcome → Option ℕ
decided Quantifier.Any (gives (boolean true)) = Some 1
decided Quantifier.Any overflow = Some 3
decided Quantifier.Any divides_by_zero = Some 4
decided Quantifier.All (gives (boolean false)) = Some 0
decided Quantifier.All (gives null) = Some 0
decided Quantifier.All overflow = Some 3
decided Quantifier.All divides_by_zero = Some 4
decided quantifier o = None

pub in_table : (quantifier : Quantifier) (o : Outcome) → IsCoded o → slice_get (decisions quantifier) (code_of o) ≡ Some (decided quantifier o)
in_table Quantifier.Any (gives (boolean true)) is = refl
in_table Quantifier.Any (gives (boolean false)) is = refl
in_table Quantifier.Any (gives null) is = refl
in_table Quantifier.Any overflow is = refl
in_table Quantifier.Any divides_by_zero is = refl
in_table Quantifier.All (gives (boolean true)) is = refl
in_table Quantifier.All (gives (boolean false)) is = refl
in_table Quantifier.All (gives null) is = refl
in_table Quantifier.All overflow is = refl
in_table Quantifier.All divides_by_zero is = refl
in_table quantifier _ is = absurd is

-- ---- the first decision of a list

pub first_at : (start : ℕ) (ds : List (Option ℕ)) (k d : ℕ) → slice_get ds k ≡ Some (Some d) → ((j : ℕ) → j < k → slice_get ds j ≡ Some None)
    → first_from start ds ≡ Some (pos (8 * (start + k) + d))
first_at start [] k d is earlier = absurd (none-some (Some d) is)
first_at start (Some e ∷ ds) zero d is earlier =
    let same : e ≡ d = cc (same_Some (Some e) (Some d) is) in
    let number : 8 * start + e ≡ 8 * (start + 0) + d = omega arith in
    ap (λ (n : ℕ). Some (pos n)) number
first_at start (None ∷ ds) zero d is earlier = absurd (none-some d (same_Some None (Some d) is))
first_at start (Some e ∷ ds) (suc k) d is earlier =
    absurd (none-some e (sym (same_Some (Some e) None (earlier zero (omega arith)))))
first_at start (None ∷ ds) (suc k) d is earlier =
    let number : 8 * (start + 1 + k) + d ≡ 8 * (start + suc k) + d = omega arith in
    first_at (start + 1) ds k d is (λ j below. earlier (suc j) (omega arith)) ∙ ap (λ (n : ℕ). Some (pos n)) number

pub none_first : (start : ℕ) (ds : List (Option ℕ)) → ((j : ℕ) (x : Option ℕ) → slice_get ds j ≡ Some x → x ≡ None) → first_from start ds ≡ None
none_first start [] none = refl
none_first start (Some d ∷ ds) none = absurd (none-some d (sym (none zero (Some d) refl)))
none_first start (None ∷ ds) none = none_first (start + 1) ds (λ j. none (suc j))

-- ---- decisions of bodies

decision_code : (quantifier : Quantifier) (first o : Outcome) → Then first (DecisionGives quantifier) o → decided quantifier first ≡ Some (code_of o)
decision_code Quantifier.Any (gives (boolean true)) o given = ap (λ (x : Outcome). Some (code_of x)) (sym given)
decision_code Quantifier.Any overflow o given = ap (λ (x : Outcome). Some (code_of x)) (sym given)
decision_code Quantifier.Any divides_by_zero o given = ap (λ (x : Outcome). Some (code_of x)) (sym given)
decision_code Quantifier.All (gives (boolean false)) o given = ap (λ (x : Outcome). Some (code_of x)) (sym given)
decision_code Quantifier.All (gives null) o given = ap (λ (x : Outcome). Some (code_of x)) (sym given)
decision_code Quantifier.All overflow o given = ap (λ (x : Outcome). Some (code_of x)) (sym given)
decision_code Quantifier.All divides_by_zero o given = ap (λ (x : Outcome). Some (code_of x)) (sym given)
decision_code quantifier (gives v) o given = absurd given

undecided_none : (quantifier : Quantifier) (v : Val) → IsUndecided quantifier v → decided quantifier (gives v) ≡ None
undecided_none Quantifier.Any (boolean false) is = refl
undecided_none Quantifier.Any null is = refl
undecided_none Quantifier.All (boolean true) is = refl
undecided_none quantifier v is = absurd is

-- the bodies evaluate to these outcomes, and to nothing else, and there are no others
pub record AreOutcomes (quantifier : Quantifier) (At : ℕ → Outcome → Type 0) (ds : List (Option ℕ)) : Type 0 where
  pub inside : (k : ℕ) (o : Outcome) → At k o → slice_get ds k ≡ Some (decided quantifier o)
  pub below : (k : ℕ) (x : Option ℕ) → slice_get ds k ≡ Some x → k < length ds

-- the code of what comes of a quantifier, by the first decision
pub data Comes (quantifier : Quantifier) (ds : List (Option ℕ)) (o : Outcome) : Type 0 where
  decides : (k : ℕ) → first_from 0 ds ≡ Some (pos (8 * k + code_of o)) → Comes quantifier ds o
  passes : first_from 0 ds ≡ None → o ≡ gives (undecided_val quantifier) → Comes quantifier ds o

pub first_decides : (quantifier : Quantifier) (At : ℕ → Outcome → Type 0) (ds : List (Option ℕ)) → AreOutcomes quantifier At ds
    → (o : Outcome) → QuantifierGives quantifier (length ds) At o → Comes quantifier ds o
first_decides quantifier At ds are o (inl found) =
    let code = decision_code quantifier found.here.0 o found.here.1.1 in
    let here = are.inside found.place found.here.0 found.here.1.0 in
    let earlier : (j : ℕ) → j < found.place → slice_get ds j ≡ Some None =
    λ j before. let pass = found.earlier j before in
    are.inside j (gives pass.0) pass.1 ∙ ap (λ (x : Option ℕ). Some x) (undecided_none quantifier pass.0 pass.2) in
    let first = first_at 0 ds found.place (code_of o) (here ∙ ap (λ (x : Option ℕ). Some x) code) earlier in
    let number : 8 * (0 + found.place) + code_of o ≡ 8 * found.place + code_of o = omega arith in
    decides found.place (first ∙ ap (λ (n : ℕ). Some (pos n)) number)
first_decides quantifier At ds are o (inr none) =
    passes (none_first 0 ds (λ j x there.
    let pass = none.each j (are.below j x there) in
    same_Some x None (sym there ∙ are.inside j (gives pass.0) pass.1 ∙ ap (λ (y : Option ℕ). Some y) (undecided_none quantifier pass.0 pass.2))))
    none.is
