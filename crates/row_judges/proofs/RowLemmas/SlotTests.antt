-- The tests of a filter by slots, and slots by names.
use Rattle.std.proofs.Common.{◌≡◌, ◌≢◌, ℕ, zero, suc, ◌+◌, Bool, true, false, cond, List, [], ◌∷◌, Some, slice_get, map, IfSome, nat_eq, refl, sym, ap, ◌∙◌, subst, arith}
use Rattle.std.specs.Prelude.{All}
use Rattle.std.specs.Cmp.Lexicographic.{pointwise}
use Rattle.std.specs.List.{AllByRecursion, position_from}
use Rattle.std.proofs.lemmas.Iterator.Adapters.{position_from-zero}
use Rattle.std.proofs.lemmas.List.Elements.{All-head, All-tail}
use Rattle.std.proofs.lemmas.Slice.Eq.{bytes_eq-Decides}
use Rattle.edm_values.specs.declared.sieve.Sieve.{Sieve}
use Rattle.csdl_schema.specs.SchemaModel.{HasDistinctNames, PropertyModel, slot_named}
use Rattle.edm_rows.specs.RowsOfType.{sieve_put, sifted}

-- ---- a slot of a name is the slot of that name

named_other : (name : List ℕ) (of : List ℕ) (ps : List PropertyModel) (slot : ℕ) → AllByRecursion (λ q. q.name ≢ of) ps → slice_get (map (λ p. p.name) ps) slot ≡ Some name → name ≢ of
named_other name of [] zero others at = absurd cc
named_other name of [] (suc slot) others at = absurd cc
named_other name of (p ∷ ps) zero others at = let is : p.name ≡ name = cc in λ same. others.0 (is ∙ same)
named_other name of (p ∷ ps) (suc slot) others at = named_other name of ps slot others.1 at

unlike : (name other : List ℕ) → name ≢ other → pointwise nat_eq name other ≡ false
unlike name other differ = by (pointwise nat_eq name other) refl
  where
    by : (b : Bool) → pointwise nat_eq name other ≡ b → b ≡ false
    by true is = absurd (differ ((bytes_eq-Decides name other).0 is))
    by false is = refl

named_from : (name : List ℕ) (k : ℕ) (ps : List PropertyModel) (slot : ℕ) → HasDistinctNames ps → slice_get (map (λ p. p.name) ps) slot ≡ Some name → position_from (λ p. pointwise nat_eq name p.name) k ps ≡ Some (k + slot)
named_from name k [] zero distinct at = absurd cc
named_from name k [] (suc slot) distinct at = absurd cc
named_from name k (p ∷ ps) zero distinct at =
    let is : p.name ≡ name = cc in
    let there : k ≡ k + 0 = omega arith in
    ap (λ (b : Bool). cond b (Some k) (position_from (λ q. pointwise nat_eq name q.name) (k + 1) ps)) ((bytes_eq-Decides name p.name).1 (sym is)) ∙ ap (λ (n : ℕ). Some n) there
named_from name k (p ∷ ps) (suc slot) distinct at =
    let there : k + 1 + slot ≡ k + suc slot = omega arith in
    ap (λ (b : Bool). cond b (Some k) (position_from (λ q. pointwise nat_eq name q.name) (k + 1) ps)) (unlike name p.name (named_other name p.name ps slot distinct.0 at))
    ∙ named_from name (k + 1) ps slot distinct.1 at ∙ ap (λ (n : ℕ). Some n) there

pub slot_of_name : (ps : List PropertyModel) (slot : ℕ) (name : List ℕ) → HasDistinctNames ps → slice_get (map (λ p. p.name) ps) slot ≡ Some name → slot_named ps name ≡ Some slot
slot_of_name ps slot name distinct at =
    let there : 0 + slot ≡ slot = omega arith in
    position_from-zero (λ p. pointwise nat_eq name p.name) ps ∙ named_from name 0 ps slot distinct at ∙ ap (λ (n : ℕ). Some n) there

-- ---- what holds of the sieve at each slot

pub each_sieve : (P : ℕ → Sieve → Type 0) (sieves : List Sieve) → All (λ sieve. sieve ≡ Sieve.All) sieves → ((slot : ℕ) → P slot Sieve.All) → (slot : ℕ) → IfSome (slice_get sieves slot) (P slot)
each_sieve P [] all holds zero = tt
each_sieve P [] all holds (suc slot) = tt
each_sieve P (s ∷ sieves) all holds zero = subst (P 0) (sym (All-head (λ sieve. sieve ≡ Sieve.All) s sieves all)) (holds 0)
each_sieve P (s ∷ sieves) all holds (suc slot) = each_sieve (λ n. P (suc n)) sieves (All-tail (λ sieve. sieve ≡ Sieve.All) s sieves all) (λ n. holds (suc n)) slot

put_holds : (P : Sieve → Type 0) (old sieve : Sieve) → P old → P sieve → P (sieve_put old sieve)
put_holds P Sieve.All sieve before here = here
put_holds P Sieve.True sieve before here = before
put_holds P (Sieve.Within low high) sieve before here = before
put_holds P (Sieve.Besides n) sieve before here = before
put_holds P (Sieve.Text text) sieve before here = before
put_holds P (Sieve.BesidesText text) sieve before here = before

pub sifted_sieves : (P : ℕ → Sieve → Type 0) (sieves : List Sieve) (slot : ℕ) (sieve : Sieve) → ((n : ℕ) → IfSome (slice_get sieves n) (P n)) → P slot sieve
    → (n : ℕ) → IfSome (slice_get (sifted sieves slot sieve) n) (P n)
sifted_sieves P [] slot sieve each here n = each n
sifted_sieves P (old ∷ sieves) zero sieve each here zero = put_holds (P 0) old sieve (each 0) here
sifted_sieves P (old ∷ sieves) zero sieve each here (suc n) = each (suc n)
sifted_sieves P (old ∷ sieves) (suc slot) sieve each here zero = each 0
sifted_sieves P (old ∷ sieves) (suc slot) sieve each here (suc n) = sifted_sieves (λ k. P (suc k)) sieves slot sieve (λ k. each (suc k)) here n
