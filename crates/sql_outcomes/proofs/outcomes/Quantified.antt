-- `any` and `all` over bodies that evaluate to truth values and null: what `EXISTS` says.
use Rattle.sql_outcomes.proofs.Common.{◌≡◌, ◌≢◌, inl, inr, ℕ, zero, suc, List, [], ◌∷◌, Bool, true, false, not, Option, Some, None, length, map, refl, sym, ap, subst, ◌∙◌, slice_get, Val, boolean, null, Quantifier, Then, Outcome, gives, DecisionGives, IsUndecided, QuantifierGives, AtMostOne, SomeTrue, truth, slice_get-map, option_map, slice_get_within}
use Rattle.sql_outcomes.proofs.outcomes.Apart.{false_true}
use Rattle.std.proofs.lemmas.Option.{none-some, same_Some}

-- one of them is true
abbrev pub any_true : List (Option Bool) → Bool
any_true [] = false
any_true (Some true ∷ ts) = true
any_true (_ ∷ ts) = any_true ts

pub some_true : (ts : List (Option Bool)) → SomeTrue (map truth ts) (any_true ts)
some_true [] = refl
some_true (Some true ∷ ts) = (any_true ts, some_true ts, refl)
some_true (_ ∷ ts) = some_true ts

true_at : (ts : List (Option Bool)) (k : ℕ) → slice_get ts k ≡ Some (Some true) → any_true ts ≡ true
true_at [] k is = absurd (none-some (Some true) is)
true_at (Some true ∷ ts) k is = refl
true_at (Some false ∷ ts) zero is = absurd (false_true (same_Some (Some false) (Some true) is))
true_at (None ∷ ts) zero is = absurd (none-some true (same_Some None (Some true) is))
true_at (_ ∷ ts) (suc k) is = true_at ts k is

true_nowhere : (ts : List (Option Bool)) → ((k : ℕ) → slice_get ts k ≡ Some (Some true) → ⊥) → any_true ts ≡ false
true_nowhere [] none = refl
true_nowhere (Some true ∷ ts) none = absurd (none zero refl)
true_nowhere (_ ∷ ts) none = true_nowhere ts (λ k. none (suc k))

same_value : (v w : Val) → gives v ≡ gives w → v ≡ w
same_value v w is = cc

-- the bodies at the members evaluate to these truth values, and to nothing else, and there are no others
pub record AreTruths (At : ℕ → Outcome → Type 0) (ts : List (Option Bool)) : Type 0 where
  pub one : (k : ℕ) → AtMostOne (At k)
  pub each : (k : ℕ) (t : Option Bool) → slice_get ts k ≡ Some t → At k (truth t)
  pub inside : (k : ℕ) (o : Outcome) → At k o → (t : Option Bool) × (slice_get ts k ≡ Some t)

module _ (At : ℕ → Outcome → Type 0) (ts : List (Option Bool)) (are : AreTruths At ts) where
  -- what a body evaluates to is the truth value at its index
  body_is : (k : ℕ) (o : Outcome) → At k o → (t : Option Bool) × (slice_get ts k ≡ Some t) × (o ≡ truth t)
  body_is k o at =
      let there = are.inside k o at in
      (there.0, there.1, are.one k o (truth there.0) at (are.each k there.0 there.1))

  -- ---- any

  decides_any : (t : Option Bool) (o : Outcome) → Then (truth t) (DecisionGives Quantifier.Any) o → (t ≡ Some true) × (o ≡ gives (boolean true))
  decides_any (Some true) o decided = (refl, decided)
  decides_any _ o decided = absurd decided

  passes_any : (t : Option Bool) (v : Val) → gives v ≡ truth t → IsUndecided Quantifier.Any v → t ≢ Some true
  passes_any t v is undecided same = subst (IsUndecided Quantifier.Any) (same_value v (boolean true) (is ∙ ap truth same)) undecided

  pub any_is : (o : Outcome) → QuantifierGives Quantifier.Any (length ts) At o → o ≡ gives (boolean (any_true ts))
  any_is o (inl decides) =
      let body = body_is decides.place decides.here.0 decides.here.1.0 in
      let decided = decides_any body.0 o (subst (λ (first : Outcome). Then first (DecisionGives Quantifier.Any) o) body.2 decides.here.1.1) in
      decided.1 ∙ ap (λ (b : Bool). gives (boolean b)) (sym (true_at ts decides.place (body.1 ∙ ap (λ (t : Option Bool). Some t) decided.0)))
  any_is o (inr passes) =
      passes.is ∙ ap (λ (b : Bool). gives (boolean b)) (sym (true_nowhere ts (λ k here.
      let pass = passes.each k (slice_get_within ts k (Some true) here) in
      let body = body_is k (gives pass.0) pass.1 in
      passes_any body.0 pass.0 body.2 pass.2 (same_Some body.0 (Some true) (sym body.1 ∙ here)))))

-- whether a body is not true
abbrev pub untrue : Option Bool → Option Bool
untrue (Some true) = Some false
untrue _ = Some true

map_out : (ts : List (Option Bool)) (k : ℕ) (u : Option Bool) → slice_get (map untrue ts) k ≡ Some u → (t : Option Bool) × (slice_get ts k ≡ Some t) × (untrue t ≡ u)
map_out [] k u is = absurd (none-some u is)
map_out (s ∷ ts) zero u is = (s, refl, same_Some (untrue s) u is)
map_out (s ∷ ts) (suc k) u is = map_out ts k u is

true_alone : (t : Option Bool) (v : Val) → gives v ≡ truth t → IsUndecided Quantifier.All v → untrue t ≡ Some true → ⊥
true_alone (Some true) v is undecided other = false_true other
true_alone (Some false) v is undecided other = subst (IsUndecided Quantifier.All) (same_value v (boolean false) is) undecided
true_alone None v is undecided other = subst (IsUndecided Quantifier.All) (same_value v null is) undecided

module _ (At : ℕ → Outcome → Type 0) (ts : List (Option Bool)) (are : AreTruths At ts) where
  decides_all : (t : Option Bool) (o : Outcome) → Then (truth t) (DecisionGives Quantifier.All) o → (untrue t ≡ Some true) × (o ≡ gives (boolean false))
  decides_all (Some true) o decided = absurd decided
  decides_all _ o decided = (refl, decided)

  -- `all` is false where a body is not true
  pub all_is : (o : Outcome) → QuantifierGives Quantifier.All (length ts) At o → o ≡ gives (boolean (not (any_true (map untrue ts))))
  all_is o (inl decides) =
      let body = body_is At ts are decides.place decides.here.0 decides.here.1.0 in
      let decided = decides_all body.0 o (subst (λ (first : Outcome). Then first (DecisionGives Quantifier.All) o) body.2 decides.here.1.1) in
      decided.1 ∙ ap (λ (b : Bool). gives (boolean (not b)))
      (sym (true_at (map untrue ts) decides.place (slice_get-map untrue ts decides.place ∙ ap (λ (t : Option (Option Bool)). option_map untrue t) body.1 ∙ ap (λ (t : Option Bool). Some t) decided.0)))
  all_is o (inr passes) =
      passes.is ∙ ap (λ (b : Bool). gives (boolean (not b))) (sym (true_nowhere (map untrue ts) (λ k here.
      let there = map_out ts k (Some true) here in
      let pass = passes.each k (slice_get_within ts k there.0 there.1) in
      let body = body_is At ts are k (gives pass.0) pass.1 in
      let same : body.0 ≡ there.0 = same_Some body.0 there.0 (sym body.1 ∙ there.1) in
      true_alone body.0 pass.0 body.2 pass.2 (ap untrue same ∙ there.2))))
