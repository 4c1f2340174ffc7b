-- Marks and sieves of a type's slots, and the names that are kept by them.
use Rattle.std.proofs.Common.{◌≡◌, ◌≢◌, ◌⊎◌, ◌↔◌, ⊎_elim, ℕ, zero, suc, ◌+◌, ◌<◌, ◌≤◌, List, [], ◌∷◌, length, map, Bool, true, false, None, Some, slice_get, slice_set, refl, sym, ap, ◌∙◌, subst, arith}
use Rattle.std.proofs.lemmas.Bool.{true≢false}
use Rattle.std.specs.List.{AllByRecursion}
use Rattle.csdl_schema.specs.SchemaModel.{HasDistinctNames, PropertyModel, slot_named}
use Rattle.edm_rows.proofs.Indexes.{other_kept}
use Rattle.edm_entities.proofs.SlotLemmas.SlotNames.{no_slot_is_named, slot_is_named}
use Rattle.edm_values.specs.declared.sieve.Sieve.{Sieve}
use Rattle.edm_rows.proofs.KeptMembers.{same_number}
use Rattle.edm_rows.specs.RowsOfType.{sieve_put, sifted}

-- ---- an element is put at an index

pub set_mapped : {X Y : Type 0} (f : X → Y) (xs : List X) (n : ℕ) (x : X) → map f (slice_set xs n x) ≡ slice_set (map f xs) n (f x)
set_mapped f [] n x = refl
set_mapped f (y ∷ xs) zero x = refl
set_mapped f (y ∷ xs) (suc n) x = ap (λ l. f y ∷ l) (set_mapped f xs n x)

pub set_as_was : {X Y : Type 0} (f : X → Y) (xs : List X) (n : ℕ) (x y : X) → slice_get xs n ≡ Some y → f x ≡ f y → map f (slice_set xs n x) ≡ map f xs
set_as_was f [] n x y at same = refl
set_as_was f (z ∷ xs) zero x y at same = let here : z ≡ y = cc in ap (λ v. v ∷ map f xs) (same ∙ ap f (sym here))
set_as_was f (z ∷ xs) (suc n) x y at same = ap (λ l. f z ∷ l) (set_as_was f xs n x y at same)

put_there : {X : Type 0} (xs : List X) (n : ℕ) (x y : X) → slice_get (slice_set xs n x) n ≡ Some y → x ≡ y
put_there [] n x y at = absurd (cc)
put_there (z ∷ xs) zero x y at = cc
put_there (z ∷ xs) (suc n) x y at = put_there xs n x y at

pub mapped_at : {X Y : Type 0} (f : X → Y) (xs : List X) (n : ℕ) (x : X) → slice_get xs n ≡ Some x → slice_get (map f xs) n ≡ Some (f x)
mapped_at f [] n x at = absurd (cc)
mapped_at f (y ∷ xs) zero x at = let here : y ≡ x = cc in ap (λ v. Some (f v)) here
mapped_at f (y ∷ xs) (suc n) x at = mapped_at f xs n x at

-- one mark more
pub marked_below : (marks : List Bool) (slot : ℕ) → ((k : ℕ) → k < slot → slice_get marks k ≢ Some false) → (k : ℕ) → k < slot + 1 → slice_get (slice_set marks slot true) k ≢ Some false
marked_below marks slot below k less unmarked =
    ⊎_elim (λ same. true≢false (put_there marks slot true false (subst (λ (j : ℕ). slice_get (slice_set marks slot true) j ≡ Some false) same unmarked)))
    (λ other. below k (omega (arith, less, other)) (sym (other_kept marks slot k true other) ∙ unmarked)) (same_number k slot)

-- ---- sieves

pub sifted_past : (sieves : List Sieve) (n : ℕ) (sieve : Sieve) → length sieves ≤ n → sifted sieves n sieve ≡ sieves
sifted_past [] n sieve past = refl
sifted_past (s ∷ sieves) zero sieve past = absurd (omega (arith, past))
sifted_past (s ∷ sieves) (suc n) sieve past = ap (λ l. s ∷ l) (sifted_past sieves n sieve (omega (arith, past)))

pub sifted_there : (sieves : List Sieve) (n : ℕ) (old sieve : Sieve) → slice_get sieves n ≡ Some old → slice_set sieves n (sieve_put old sieve) ≡ sifted sieves n sieve
sifted_there [] n old sieve at = refl
sifted_there (s ∷ sieves) zero old sieve at = let here : s ≡ old = cc in ap (λ (o : Sieve). sieve_put o sieve ∷ sieves) (sym here)
sifted_there (s ∷ sieves) (suc n) old sieve at = ap (λ l. s ∷ l) (sifted_there sieves n old sieve at)

-- ---- names

not_named : (ps : List PropertyModel) (k : ℕ) (name : List ℕ) → AllByRecursion (λ p. p.name ≢ name) ps → slice_get (map (λ p. p.name) ps) k ≡ Some name → ⊥
not_named [] k name all at = cc
not_named (p ∷ ps) zero name all at = all.0 (cc)
not_named (p ∷ ps) (suc k) name all at = not_named ps k name all.1 at

-- a name has one slot
pub name_once : (ps : List PropertyModel) (i j : ℕ) (name : List ℕ) → HasDistinctNames ps → slice_get (map (λ p. p.name) ps) i ≡ Some name → slice_get (map (λ p. p.name) ps) j ≡ Some name → i ≡ j
name_once [] i j name distinct here there = absurd (cc)
name_once (p ∷ ps) zero zero name distinct here there = refl
name_once (p ∷ ps) zero (suc j) name distinct here there =
    let own : p.name ≡ name = cc in absurd (not_named ps j p.name distinct.0 (there ∙ ap Some (sym own)))
name_once (p ∷ ps) (suc i) zero name distinct here there =
    let own : p.name ≡ name = cc in absurd (not_named ps i p.name distinct.0 (here ∙ ap Some (sym own)))
name_once (p ∷ ps) (suc i) (suc j) name distinct here there = ap suc (name_once ps i j name distinct.1 here there)

-- a property has that name, and its slot no mark
abbrev pub IsUnmarked : List PropertyModel → List Bool → List ℕ → Type 0
IsUnmarked ps marks name = (slot : ℕ) × (slice_get marks slot ≡ Some false) × (slice_get (map (λ p. p.name) ps) slot ≡ Some name)

module _ (ps : List PropertyModel) (distinct : HasDistinctNames ps) (name : List ℕ) (marks : List Bool) where
  -- no property has the name
  pub none_marked : None ≡ slot_named ps name → IsUnmarked ps marks name → ⊥
  none_marked none un = not_named ps un.0 name (no_slot_is_named name ps none) un.2

  there : (slot : ℕ) → Some slot ≡ slot_named ps name → slice_get (map (λ p. p.name) ps) slot ≡ Some name
  there slot found = slot_is_named name ps slot found

  -- the one that has it is marked
  pub marked : (slot : ℕ) → Some slot ≡ slot_named ps name → IsUnmarked ps (slice_set marks slot true) name → ⊥
  marked slot found un =
      let same : un.0 ≡ slot = name_once ps un.0 slot name distinct un.2 (there slot found) in
      true≢false (put_there marks slot true false (subst (λ (j : ℕ). slice_get (slice_set marks slot true) j ≡ Some false) same un.1))

  elsewhere : (slot : ℕ) → Some slot ≡ slot_named ps name → (other : List ℕ) (k : ℕ) → other ≢ name → slice_get (map (λ p. p.name) ps) k ≡ Some other → slice_get (slice_set marks slot true) k ≡ slice_get marks k
  elsewhere slot found other k differs named =
      other_kept marks slot k true (λ same. differs (some_same other name (sym named ∙ subst (λ (j : ℕ). slice_get (map (λ p. p.name) ps) j ≡ Some name) (sym same) (there slot found))))
    where
      some_same : (x y : List ℕ) → Some x ≡ Some y → x ≡ y
      some_same x y e = cc

  pub others_as_were : (slot : ℕ) → Some slot ≡ slot_named ps name → (other : List ℕ) → other ≢ name → IsUnmarked ps (slice_set marks slot true) other ↔ IsUnmarked ps marks other
  others_as_were slot found other differs =
      ((λ un. (un.0, sym (elsewhere slot found other un.0 differs un.2) ∙ un.1, un.2)), (λ un. (un.0, elsewhere slot found other un.0 differs un.2 ∙ un.1, un.2)))
