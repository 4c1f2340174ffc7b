-- Faults of bound operands, put one after another.
use Rattle.sql_outcomes.proofs.Common.{◌≡◌, ◌++◌, ◌∷◌, [], ◌+◌, ℕ, zero, suc, List, Option, Some, None, length, take, refl, sym, ap, subst, ◌∙◌, append_assoc, append-nil, arith, slice_get, Carrier, SqlNode, Draft, Operand, Grows, carrier_in, fault_front, faults_front, grows_then}

-- ---- operands taken from the front

pub taken_next : (operands : List Operand) (n : ℕ) (x : Operand) → slice_get operands n ≡ Some x → take (suc n) operands ≡ take n operands ++ x ∷ []
taken_next [] n x is = let none : None ≡ Some x = is in cc
taken_next (first ∷ operands) zero x is = let same : Some first ≡ Some x = is in cc
taken_next (first ∷ operands) (suc n) x is = ap (λ (xs : List Operand). first ∷ xs) (taken_next operands n x is)

pub taken_on : (operands : List Operand) (n : ℕ) (x : Operand) → slice_get operands n ≡ Some x → take (n + 1) operands ≡ take n operands ++ x ∷ []
taken_on operands n x at = let on : suc n ≡ n + 1 = omega arith in ap (λ (k : ℕ). take k operands) (sym on) ∙ taken_next operands n x at

pub taken_length : (operands : List Operand) (n : ℕ) (x : Operand) → slice_get operands n ≡ Some x → length (take n operands) ≡ n
taken_length [] n x is = let none : None ≡ Some x = is in cc
taken_length (first ∷ operands) zero x is = refl
taken_length (first ∷ operands) (suc n) x is = ap suc (taken_length operands n x is)

-- ---- one fault more

faults_more : (carrier : Option Carrier) (level : ℕ) (operands : List Operand) (x : Operand)
    → faults_front carrier level (operands ++ x ∷ []) ≡ faults_front carrier level operands ++ fault_front carrier (level + length operands) (carrier_in x)
faults_more carrier level [] x =
    let e : level ≡ level + 0 = omega arith in
    append-nil (fault_front carrier level (carrier_in x)) ∙ ap (λ (k : ℕ). fault_front carrier k (carrier_in x)) e
faults_more carrier level (operand ∷ operands) x =
    let e : level + 1 + length operands ≡ level + suc (length operands) = omega arith in
    ap (λ (ns : List SqlNode). fault_front carrier level (carrier_in operand) ++ ns)
    (faults_more carrier (level + 1) operands x ∙ ap (λ (k : ℕ). faults_front carrier (level + 1) operands ++ fault_front carrier k (carrier_in x)) e)
    ∙ sym (append_assoc (fault_front carrier level (carrier_in operand)) (faults_front carrier (level + 1) operands) (fault_front carrier (level + length (operand ∷ operands)) (carrier_in x)))

pub one_fault_put : (carrier : Option Carrier) (level : ℕ) (operands : List Operand) (n : ℕ) (x : Operand) (old middle new : Draft) → slice_get operands n ≡ Some x
    → Grows old middle (faults_front carrier level (take n operands)) → Grows middle new (fault_front carrier (level + n) (carrier_in x))
    → Grows old new (faults_front carrier level (take (n + 1) operands))
one_fault_put carrier level operands n x old middle new at before after =
    let on : suc n ≡ n + 1 = omega arith in
    let nodes : faults_front carrier level (take n operands) ++ fault_front carrier (level + n) (carrier_in x) ≡ faults_front carrier level (take (n + 1) operands) =
    ap (λ (k : ℕ). faults_front carrier level (take n operands) ++ fault_front carrier (level + k) (carrier_in x)) (sym (taken_length operands n x at))
    ∙ sym (faults_more carrier level (take n operands) x)
    ∙ ap (λ (xs : List Operand). faults_front carrier level xs) (sym (taken_next operands n x at) ∙ ap (λ (k : ℕ). take k operands) on) in
    subst (Grows old new) nodes (grows_then old middle new (faults_front carrier level (take n operands)) (fault_front carrier (level + n) (carrier_in x)) before after)
