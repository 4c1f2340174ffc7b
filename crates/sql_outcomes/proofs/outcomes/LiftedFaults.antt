-- Faults of operands some of which are bound: the first of all, and null instead of each in the body.
use Rattle.sql_outcomes.proofs.Common.{◌≡◌, ◌∷◌, [], ◌+◌, ℕ, List, Bool, true, false, Option, Some, None, map, length, refl, ap, subst, ◌∙◌, slice_get, Val, Filter, Outcome, gives, without_fault, Carrier, Operand, AllHave, AreChosen, ArePlain, bound_operand, carrier_in, chosen, chosen_of, fault_by, fault_else, faults_of, first_fault, in_let, unfaulted_by, within_let, OperandHas, World, zero, suc, sym, Fits, IsOfKind, Kind}

value_else : (o rest : Outcome) (v : Val) → o ≡ gives v → rest ≡ fault_else o rest
value_else (gives w) rest v is = refl
value_else _ rest v is = absurd (cc)

value_stays : (o : Outcome) (v : Val) → o ≡ gives v → o ≡ without_fault o
value_stays (gives w) v is = refl
value_stays _ v is = absurd (cc)

by_else : (c : Option Carrier) (o rest : Outcome) → (c ≡ None → (v : Val) × (o ≡ gives v)) → fault_by c o rest ≡ fault_else o rest
by_else (Some carrier) o rest plain = refl
by_else None o rest plain = let p = plain refl in value_else o rest p.0 p.1

by_without : (c : Option Carrier) (o : Outcome) → (c ≡ None → (v : Val) × (o ≡ gives v)) → unfaulted_by c o ≡ without_fault o
by_without (Some carrier) o plain = refl
by_without None o plain = let p = plain refl in value_stays o p.0 p.1

-- the first fault of those that are bound is the first of all
pub lifted_faults : (choices : List Bool) (operands : List Operand) (os : List Outcome) (rest : Outcome) → AreChosen choices operands → length os ≡ length operands → ArePlain operands os
    → first_fault (chosen choices operands) (chosen_of choices os) rest ≡ faults_of os rest
lifted_faults [] [] [] rest are same plain = refl
lifted_faults [] [] (o ∷ os) rest are same plain = absurd (cc)
lifted_faults [] (operand ∷ operands) os rest are same plain = absurd are
lifted_faults (true ∷ choices) [] os rest are same plain = absurd are
lifted_faults (false ∷ choices) [] os rest are same plain = absurd are
lifted_faults (true ∷ choices) (operand ∷ operands) [] rest are same plain = absurd (cc)
lifted_faults (false ∷ choices) (operand ∷ operands) [] rest are same plain = absurd (cc)
lifted_faults (true ∷ choices) (operand ∷ operands) (o ∷ os) rest are same plain =
    let fewer : length os ≡ length operands = cc in
    by_else (carrier_in operand) o (first_fault (chosen choices operands) (chosen_of choices os) rest) plain.0
    ∙ ap (λ (r : Outcome). fault_else o r) (lifted_faults choices operands os rest are fewer plain.1)
lifted_faults (false ∷ choices) (operand ∷ operands) (o ∷ os) rest are same plain =
    let fewer : length os ≡ length operands = cc in
    let p = plain.0 are.0 in
    lifted_faults choices operands os rest are.1 fewer plain.1 ∙ value_else o (faults_of os rest) p.0 p.1

-- the body has null instead of each fault
pub lifted_values : (choices : List Bool) (operands : List Operand) (os : List Outcome) → AreChosen choices operands → length os ≡ length operands → ArePlain operands os
    → in_let choices operands os ≡ map without_fault os
lifted_values [] [] [] are same plain = refl
lifted_values [] [] (o ∷ os) are same plain = absurd (cc)
lifted_values [] (operand ∷ operands) os are same plain = absurd are
lifted_values (true ∷ choices) [] os are same plain = absurd are
lifted_values (false ∷ choices) [] os are same plain = absurd are
lifted_values (true ∷ choices) (operand ∷ operands) [] are same plain = absurd (cc)
lifted_values (false ∷ choices) (operand ∷ operands) [] are same plain = absurd (cc)
lifted_values (true ∷ choices) (operand ∷ operands) (o ∷ os) are same plain =
    let fewer : length os ≡ length operands = cc in
    ap (λ (i : Outcome). i ∷ in_let choices operands os) (by_without (carrier_in operand) o plain.0)
    ∙ ap (λ (is : List Outcome). without_fault o ∷ is) (lifted_values choices operands os are fewer plain.1)
lifted_values (false ∷ choices) (operand ∷ operands) (o ∷ os) are same plain =
    let fewer : length os ≡ length operands = cc in
    let p = plain.0 are.0 in
    ap (λ (i : Outcome). i ∷ in_let choices operands os) (value_stays o p.0 p.1)
    ∙ ap (λ (is : List Outcome). without_fault o ∷ is) (lifted_values choices operands os are.1 fewer plain.1)

-- ---- two operands

-- an operand of the body is of the kind of the one outside, as much null, and of its bounds
pub record IsInner (outer inner : Operand) : Type 0 where
  pub kind : inner.kind ≡ outer.kind
  pub nullable : inner.range.may_be_null ≡ outer.range.may_be_null
  pub low : inner.range.low ≡ outer.range.low
  pub high : inner.range.high ≡ outer.range.high

pub record TwoInner (filter : Filter) (left right first second : Operand) (world : World) (i j : Outcome) : Type 0 where
  pub first_is : IsInner left first
  pub second_is : IsInner right second
  pub first_has : OperandHas filter first world i
  pub second_has : OperandHas filter second world j

is_itself : (operand : Operand) → IsInner operand operand
is_itself operand = record { kind = refl; nullable = refl; low = refl; high = refl }

is_bound : (level : ℕ) (operand : Operand) → IsInner operand (bound_operand level operand)
is_bound level operand = record { kind = refl; nullable = refl; low = refl; high = refl }

-- each operand of the body is one of those outside
pub inner_at : (choices : List Bool) (operands : List Operand) (level : ℕ) → AreChosen choices operands → (n : ℕ) (x y : Operand) → slice_get operands n ≡ Some x → slice_get (within_let level choices operands) n ≡ Some y
    → IsInner x y
inner_at [] [] level are n x y at inside = let none : None ≡ Some x = at in absurd (cc)
inner_at [] (operand ∷ operands) level are n x y at inside = absurd are
inner_at (true ∷ choices) [] level are n x y at inside = absurd are
inner_at (false ∷ choices) [] level are n x y at inside = absurd are
inner_at (true ∷ choices) (operand ∷ operands) level are zero x y at inside =
    let same : operand ≡ x = cc at in
    let other : bound_operand level operand ≡ y = cc inside in
    subst (λ (o : Operand). IsInner o y) same (subst (IsInner operand) other (is_bound level operand))
inner_at (true ∷ choices) (operand ∷ operands) level are (suc n) x y at inside = inner_at choices operands (level + 1) are n x y at inside
inner_at (false ∷ choices) (operand ∷ operands) level are zero x y at inside =
    let same : operand ≡ x = cc at in
    let other : operand ≡ y = cc inside in
    subst (λ (o : Operand). IsInner o y) same (subst (IsInner operand) other (is_itself operand))
inner_at (false ∷ choices) (operand ∷ operands) level are (suc n) x y at inside = inner_at choices operands level are.1 n x y at inside

pub inner_fits : (outer inner : Operand) (v : Val) → IsInner outer inner → Fits outer v → Fits inner v
inner_fits outer inner v is fits = record { kind = subst (λ (k : Kind). IsOfKind k v) (sym is.kind) fits.kind; nullable = λ null_it. is.nullable ∙ fits.nullable null_it }

-- what one of several operands evaluates to
pub has_at : (filter : Filter) (operands : List Operand) (os : List Outcome) (world : World) (n : ℕ) (x : Operand) (o : Outcome) → AllHave filter operands world os → slice_get operands n ≡ Some x
    → slice_get os n ≡ Some o → OperandHas filter x world o
has_at filter [] os world n x o have at o_at = let none : None ≡ Some x = at in absurd (cc)
has_at filter (operand ∷ operands) [] world n x o have at o_at = absurd have
has_at filter (operand ∷ operands) (p ∷ os) world zero x o have at o_at =
    let same : operand ≡ x = cc at in
    let is : p ≡ o = cc o_at in
    subst (λ (y : Operand). OperandHas filter y world o) same (subst (OperandHas filter operand world) is have.0)
has_at filter (operand ∷ operands) (p ∷ os) world (suc n) x o have at o_at = has_at filter operands os world n x o have.1 at o_at

-- the two that the body has
pub two_inner : (filter : Filter) (left right first second : Operand) (level : ℕ) (choices : List Bool) (world : World) (i j : Outcome) → AreChosen choices (left ∷ right ∷ [])
    → slice_get (within_let level choices (left ∷ right ∷ [])) 0 ≡ Some first → slice_get (within_let level choices (left ∷ right ∷ [])) 1 ≡ Some second
    → AllHave filter (within_let level choices (left ∷ right ∷ [])) world (i ∷ j ∷ []) → TwoInner filter left right first second world i j
two_inner filter left right first second level choices world i j are is_first is_second have = record {
  first_is = inner_at choices (left ∷ right ∷ []) level are 0 left first refl is_first;
  second_is = inner_at choices (left ∷ right ∷ []) level are 1 right second refl is_second;
  first_has = has_at filter (within_let level choices (left ∷ right ∷ [])) (i ∷ j ∷ []) world 0 first i have is_first refl;
  second_has = has_at filter (within_let level choices (left ∷ right ∷ [])) (i ∷ j ∷ []) world 1 second j have is_second refl;
}
