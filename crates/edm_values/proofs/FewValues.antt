-- Values that are taken out of a record one after another, the last first, each beside its slot.
use Rattle.std.proofs.Common.{◌≡◌, ◌<◌, ◌≤◌, ◌+◌, ◌==◌, ℕ, zero, suc, Bool, true, false, List, [], ◌∷◌, ◌++◌, length, refl, sym, ap, ap₂, ◌∙◌, subst, arith}
use Rattle.std.proofs.lemmas.Bool.{eqb-true, eqb-false}
use Rattle.std.specs.List.{AllByRecursion}
use Rattle.edm_values.specs.Sparse.{AreBeside, beside, by_slot}
use Rattle.edm_values.specs.declared.value.Value.{Value, Null}

-- no value stands beside a slot before that one
abbrev pub StandFrom : ℕ → List (ℕ × Value) → Type 0
StandFrom from held = AllByRecursion (λ e. from ≤ e.0) held

-- the values that are left, and those that were taken
pub record AreTaken (all left : List Value) (held : List (ℕ × Value)) : Type 0 where
  pub taken : List Value
  pub parts : all ≡ left ++ taken
  pub are : by_slot Null held (length left) (length taken) ≡ taken
  pub from : StandFrom (length left) held

-- ---- one more beside its slot

module _ (slot : ℕ) (v : Value) where
  -- other slots hold what they held
  other_slot : (held : List (ℕ × Value)) (k : ℕ) → slot < k → beside Null (held ++ (slot, v) ∷ []) k ≡ beside Null held k
  other_slot [] k less = by (slot == k) refl
    where
      by : (b : Bool) → (slot == k) ≡ b → beside Null ((slot, v) ∷ []) k ≡ Null
      by true e = absurd (let same = eqb-true slot k e in omega (arith, less, same))
      by false e = rw e refl
  other_slot (e ∷ held) k less = by (e.0 == k) refl (other_slot held k less)
    where
      by : (b : Bool) → (e.0 == k) ≡ b → beside Null (held ++ (slot, v) ∷ []) k ≡ beside Null held k
          → beside Null (e ∷ (held ++ (slot, v) ∷ [])) k ≡ beside Null (e ∷ held) k
      by true is rest = rw is refl
      by false is rest = rw is rest

  other_slots : (held : List (ℕ × Value)) (from count : ℕ) → slot < from → by_slot Null (held ++ (slot, v) ∷ []) from count ≡ by_slot Null held from count
  other_slots held from zero less = refl
  other_slots held from (suc count) less = ap₂ (λ x xs. x ∷ xs) (other_slot held from less) (other_slots held (suc from) count (omega (arith, less)))

  -- and that one holds it
  that_slot : (held : List (ℕ × Value)) (from : ℕ) → slot < from → StandFrom from held → beside Null (held ++ (slot, v) ∷ []) slot ≡ v
  that_slot [] from less all = by (slot == slot) refl
    where
      by : (b : Bool) → (slot == slot) ≡ b → beside Null ((slot, v) ∷ []) slot ≡ v
      by true e = rw e refl
      by false e = absurd (eqb-false slot slot e refl)
  that_slot (e ∷ held) from less all = by (e.0 == slot) refl (that_slot held from less all.1)
    where
      by : (b : Bool) → (e.0 == slot) ≡ b → beside Null (held ++ (slot, v) ∷ []) slot ≡ v → beside Null (e ∷ (held ++ (slot, v) ∷ [])) slot ≡ v
      by true is rest = absurd (let same = eqb-true e.0 slot is in let above = all.0 in omega (arith, less, same, above))
      by false is rest = rw is rest

  more_stand : (held : List (ℕ × Value)) (from : ℕ) → slot < from → StandFrom from held → StandFrom slot (held ++ (slot, v) ∷ [])
  more_stand [] from less all = (omega arith, tt)
  more_stand (e ∷ held) from less all = (let above = all.0 in omega (arith, less, above), more_stand held from less all.1)

-- a slot before all of them holds null
before_all : (held : List (ℕ × Value)) (from slot : ℕ) → slot < from → StandFrom from held → beside Null held slot ≡ Null
before_all [] from slot less all = refl
before_all (e ∷ held) from slot less all = by (e.0 == slot) refl (before_all held from slot less all.1)
  where
    by : (b : Bool) → (e.0 == slot) ≡ b → beside Null held slot ≡ Null → beside Null (e ∷ held) slot ≡ Null
    by true is rest = absurd (let same = eqb-true e.0 slot is in let above = all.0 in omega (arith, less, same, above))
    by false is rest = rw is rest

less_stand : (held : List (ℕ × Value)) (from slot : ℕ) → slot < from → StandFrom from held → StandFrom slot held
less_stand [] from slot less all = tt
less_stand (e ∷ held) from slot less all = (let above = all.0 in omega (arith, less, above), less_stand held from slot less all.1)

-- ---- steps

joined : (left taken : List Value) (v : Value) → (left ++ v ∷ []) ++ taken ≡ left ++ (v ∷ taken)
joined [] taken v = refl
joined (w ∷ left) taken v = ap (λ xs. w ∷ xs) (joined left taken v)

long : (left : List Value) (v : Value) → length (left ++ v ∷ []) ≡ suc (length left)
long [] v = refl
long (w ∷ left) v = ap (λ n. suc n) (long left v)

-- nothing was taken yet
pub none_taken : (all : List Value) (held : List (ℕ × Value)) → held ≡ [] → AreTaken all all held
none_taken all held none =
    record {
      taken = [];
      parts = sym (right all);
      are = refl;
      from = subst (StandFrom (length all)) (sym none) tt;
    }
  where
    right : (xs : List Value) → xs ++ [] ≡ xs
    right [] = refl
    right (x ∷ xs) = ap (λ ys. x ∷ ys) (right xs)

-- null is taken
pub null_taken : (all before left : List Value) (held : List (ℕ × Value)) (v : Value) → before ≡ left ++ v ∷ [] → v ≡ Null → AreTaken all before held → AreTaken all left held
null_taken all before left held v is null so_far =
    let m : length before ≡ suc (length left) = ap length is ∙ long left v in
    let from : StandFrom (suc (length left)) held = subst (λ n. StandFrom n held) m so_far.from in
    let rest : by_slot Null held (suc (length left)) (length so_far.taken) ≡ so_far.taken = subst (λ n. by_slot Null held n (length so_far.taken) ≡ so_far.taken) m so_far.are in
    record {
      taken = v ∷ so_far.taken;
      parts = so_far.parts ∙ ap (λ xs. xs ++ so_far.taken) is ∙ joined left so_far.taken v;
      are = ap₂ (λ x xs. x ∷ xs) (before_all held (suc (length left)) (length left) (omega arith) from ∙ sym null) rest;
      from = less_stand held (suc (length left)) (length left) (omega arith) from;
    }

-- a value is put beside its slot
pub value_taken : (all before left : List Value) (held more : List (ℕ × Value)) (v : Value) → before ≡ left ++ v ∷ [] → more ≡ held ++ (length left, v) ∷ [] → AreTaken all before held
    → AreTaken all left more
value_taken all before left held more v is pushed so_far =
    let slot = length left in
    let m : length before ≡ suc slot = ap length is ∙ long left v in
    let from : StandFrom (suc slot) held = subst (λ n. StandFrom n held) m so_far.from in
    let rest : by_slot Null held (suc slot) (length so_far.taken) ≡ so_far.taken = subst (λ n. by_slot Null held n (length so_far.taken) ≡ so_far.taken) m so_far.are in
    let less : slot < suc slot = omega arith in
    subst (AreTaken all left) (sym pushed)
    (record {
      taken = v ∷ so_far.taken;
      parts = so_far.parts ∙ ap (λ xs. xs ++ so_far.taken) is ∙ joined left so_far.taken v;
      are = ap₂ (λ x xs. x ∷ xs) (that_slot slot v held (suc slot) less from) (other_slots slot v held (suc slot) (length so_far.taken) less ∙ rest);
      from = more_stand slot v held (suc slot) less from;
    })

-- all were taken
pub all_taken : (all left : List Value) (held : List (ℕ × Value)) → left ≡ [] → AreTaken all left held → AreBeside held all
all_taken all left held none so_far =
    let same : all ≡ so_far.taken = so_far.parts ∙ ap (λ xs. xs ++ so_far.taken) none in
    subst (AreBeside held) (sym same) (subst (λ (xs : List Value). by_slot Null held (length xs) (length so_far.taken) ≡ so_far.taken) none so_far.are)
