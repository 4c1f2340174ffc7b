-- The texts that are stored, one by one.
use Rattle.std.proofs.Common.{◌≡◌, ℕ, zero, suc, List, [], ◌∷◌, ◌++◌, take, replicate, All, Bool, Option, Some, None, IfSome, slice_get, slice_set, true, false, if◌then◌else◌, refl, sym, subst, arith}
use Rattle.std.proofs.lemmas.Bool.{true≢false}
use Rattle.std.proofs.lemmas.List.Elements.{All-cons, All-from_get_or, All-head, All-tail}
use Rattle.csdl_schema.specs.SchemaModel.{SchemaModel}
use Rattle.enumeration_texts.specs.EnumerationTexts.{AreOfEnumerations, IsOfEnumeration}
use Rattle.enumeration_texts.specs.declared.known_texts.KnownText.{KnownText}
use Rattle.enumeration_texts.specs.private.KnownTexts.{IsOfItsOwn, stored_texts, text_of, with_text}

abbrev Known : Type 0
Known = ℕ × List ℕ

module _ (schema : SchemaModel) where
  abbrev Is : Known → Type 0
  Is known = IsOfEnumeration schema known.0 known.1

  others : (id : Option ℕ) (text : List ℕ) (more : List Known) → All Is (with_text id text more) → All Is more
  others None text more all = all
  others (Some id) text more all = All-tail Is (id, text) more all

  pub own_each : (stored : List KnownText) → AreOfEnumerations schema (stored_texts stored) → (index : ℕ) → IfSome (slice_get stored index) (IsOfItsOwn schema)
  own_each [] all zero = tt
  own_each [] all (suc index) = tt
  own_each (known ∷ more) all zero = λ id is. All-head Is (id, text_of known) (stored_texts more) (subst (λ (o : Option ℕ). All Is (with_text o (text_of known) (stored_texts more))) is all)
  own_each (known ∷ more) all (suc index) = own_each more (others known.id (text_of known) (stored_texts more) all) index

  one_before : (id : Option ℕ) (text : List ℕ) (more : List Known) → ((of : ℕ) → id ≡ Some of → IsOfEnumeration schema of text) → All Is more → All Is (with_text id text more)
  one_before None text more own all = all
  one_before (Some id) text more own all = All-cons Is (id, text) more (own id refl) all

  pub all_own : (stored : List KnownText) → ((index : ℕ) → IfSome (slice_get stored index) (IsOfItsOwn schema)) → AreOfEnumerations schema (stored_texts stored)
  all_own [] each = All-from_get_or Is [] (0, []) (λ i inside. absurd (omega (arith, inside)))
  all_own (known ∷ more) each = one_before known.id (text_of known) (stored_texts more) (each zero) (all_own more (λ index. each (suc index)))

-- ---- lists with one element changed

pub each_set : {A : Type 0} (xs : List A) (n at : ℕ) (v : A) (P : A → Type 0) → P v → IfSome (slice_get xs at) P → IfSome (slice_get (slice_set xs n v) at) P
each_set [] n at v P new old = old
each_set (x ∷ xs) zero zero v P new old = new
each_set (x ∷ xs) zero (suc at) v P new old = old
each_set (x ∷ xs) (suc n) zero v P new old = old
each_set (x ∷ xs) (suc n) (suc at) v P new old = each_set xs n at v P new old

each_same : {A : Type 0} (n at : ℕ) (v : A) (P : A → Type 0) → P v → IfSome (slice_get (replicate n v) at) P
each_same zero zero v P holds = tt
each_same zero (suc at) v P holds = tt
each_same (suc n) zero v P holds = holds
each_same (suc n) (suc at) v P holds = each_same n at v P holds

-- a list that is filled up to a length
pub each_filled : {A : Type 0} (xs : List A) (n m at : ℕ) (v : A) (P : A → Type 0) → P v → ((k : ℕ) → IfSome (slice_get xs k) P) → IfSome (slice_get (take n xs ++ replicate m v) at) P
each_filled [] zero m at v P new old = each_same m at v P new
each_filled [] (suc n) m at v P new old = each_same m at v P new
each_filled (x ∷ xs) zero m at v P new old = each_same m at v P new
each_filled (x ∷ xs) (suc n) m zero v P new old = old zero
each_filled (x ∷ xs) (suc n) m (suc at) v P new old = each_filled xs n m at v P new (λ k. old (suc k))

pub each_resized : {A : Type 0} (b : Bool) (new old filled : List A) (P : A → Type 0) → b ≡ true → new ≡ (if b then filled else old) → ((at : ℕ) → IfSome (slice_get filled at) P) → (at : ℕ) → IfSome (slice_get new at) P
each_resized true new old filled P is same each at = subst (λ xs. IfSome (slice_get xs at) P) (sym same) (each at)
each_resized false new old filled P is same each at = absurd (true≢false (sym is))

-- not yet resized
pub each_stays : {A : Type 0} (b : Bool) (new old filled : List A) → b ≡ false → new ≡ (if b then filled else old) → new ≡ old
each_stays true new old filled is same = absurd (true≢false is)
each_stays false new old filled is same = same
