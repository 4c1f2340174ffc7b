-- What a write to places changes of them.
use Rattle.std.proofs.Common.{◌≡◌, ◌≢◌, refl, ap, sym, subst, ◌∙◌, ℕ, zero, suc, ◌+◌, ◌<◌, ◌≤◌, List, [], ◌∷◌, ◌++◌, Some, get_or, length, length-set, slice_get, slice_set, arith}
use Rattle.std.proofs.lemmas.List.{length_push}
use Rattle.std.proofs.lemmas.Option.{slice_get_read}
use Rattle.odata_syntax.specs.declared.node_places.Place.{Place}
use Rattle.odata_syntax.specs.Places.{first_at, first_of, lambda_at, lambda_of, number_at, number_of}
use Rattle.odata_syntax.specs.private.PlaceGrowth.{IsBegun, IsMarked, begun_before}

-- A place that is read.

pub record IsRead (places : List Place) (index : ℕ) (place : Place) : Type 0 where
  pub number : place.number ≡ number_at places index
  pub first : place.first ≡ first_at places index
  pub lambda : place.lambda ≡ lambda_at places index

pub read_at : (places : List Place) (index : ℕ) (place : Place) → index < length places → place ≡ get_or places index place → IsRead places index place
read_at places index place inside is =
    let at : slice_get places index ≡ Some place = slice_get_read places (length places) index place refl inside is in
    record { number = sym (ap number_of at); first = sym (ap first_of at); lambda = sym (ap lambda_of at) }

-- A place at the end.

first_put : (places : List Place) (p : Place) (k : ℕ) → k < length places → first_at (places ++ p ∷ []) k ≡ first_at places k
first_put [] p k within = absurd (omega arith)
first_put (q ∷ places) p zero within = refl
first_put (q ∷ places) p (suc k) within = first_put places p k (omega arith)

first_new : (places : List Place) (p : Place) → first_at (places ++ p ∷ []) (length places) ≡ p.first
first_new [] p = refl
first_new (q ∷ places) p = first_new places p

lambda_put : (places : List Place) (p : Place) (k : ℕ) → p.lambda ≡ 0 → lambda_at (places ++ p ∷ []) k ≡ lambda_at places k
lambda_put [] p zero none = none
lambda_put [] p (suc k) none = refl
lambda_put (q ∷ places) p zero none = refl
lambda_put (q ∷ places) p (suc k) none = lambda_put places p k none

begun_put : (places : List Place) (p : Place) (k : ℕ) → p.number ≡ 0 → begun_before (places ++ p ∷ []) k ≡ begun_before places k
begun_put [] p zero none = refl
begun_put [] p (suc k) none = omega (arith, none)
begun_put (q ∷ places) p zero none = refl
begun_put (q ∷ places) p (suc k) none = ap (λ (n : ℕ). q.number + n) (begun_put places p k none)

-- A place that is written again.

pub first_set : (places : List Place) (i k : ℕ) (p : Place) → p.first ≡ first_at places i → first_at (slice_set places i p) k ≡ first_at places k
first_set [] i k p same = refl
first_set (q ∷ places) zero zero p same = same
first_set (q ∷ places) zero (suc k) p same = refl
first_set (q ∷ places) (suc i) zero p same = refl
first_set (q ∷ places) (suc i) (suc k) p same = first_set places i k p same

pub lambda_set : (places : List Place) (i k : ℕ) (p : Place) → p.lambda ≡ lambda_at places i → lambda_at (slice_set places i p) k ≡ lambda_at places k
lambda_set [] i k p same = refl
lambda_set (q ∷ places) zero zero p same = same
lambda_set (q ∷ places) zero (suc k) p same = refl
lambda_set (q ∷ places) (suc i) zero p same = refl
lambda_set (q ∷ places) (suc i) (suc k) p same = lambda_set places i k p same

lambda_own : (places : List Place) (i : ℕ) (p : Place) → i < length places → lambda_at (slice_set places i p) i ≡ p.lambda
lambda_own [] i p within = absurd (omega arith)
lambda_own (q ∷ places) zero p within = refl
lambda_own (q ∷ places) (suc i) p within = lambda_own places i p (omega arith)

lambda_other : (places : List Place) (i k : ℕ) (p : Place) → k ≢ i → lambda_at (slice_set places i p) k ≡ lambda_at places k
lambda_other [] i k p other = refl
lambda_other (q ∷ places) zero zero p other = absurd (other refl)
lambda_other (q ∷ places) zero (suc k) p other = refl
lambda_other (q ∷ places) (suc i) zero p other = refl
lambda_other (q ∷ places) (suc i) (suc k) p other = lambda_other places i k p (λ same. other (ap suc same))

pub number_own : (places : List Place) (i : ℕ) (p : Place) → i < length places → number_at (slice_set places i p) i ≡ p.number
number_own [] i p within = absurd (omega arith)
number_own (q ∷ places) zero p within = refl
number_own (q ∷ places) (suc i) p within = number_own places i p (omega arith)

pub number_other : (places : List Place) (i k : ℕ) (p : Place) → k ≢ i → number_at (slice_set places i p) k ≡ number_at places k
number_other [] i k p other = refl
number_other (q ∷ places) zero zero p other = absurd (other refl)
number_other (q ∷ places) zero (suc k) p other = refl
number_other (q ∷ places) (suc i) zero p other = refl
number_other (q ∷ places) (suc i) (suc k) p other = number_other places i k p (λ same. other (ap suc same))

begun_lower : (places : List Place) (i k : ℕ) (p : Place) → k ≤ i → begun_before (slice_set places i p) k ≡ begun_before places k
begun_lower [] i k p low = refl
begun_lower (q ∷ places) zero zero p low = refl
begun_lower (q ∷ places) zero (suc k) p low = absurd (omega arith)
begun_lower (q ∷ places) (suc i) zero p low = refl
begun_lower (q ∷ places) (suc i) (suc k) p low = ap (λ (n : ℕ). q.number + n) (begun_lower places i k p (omega arith))

begun_upper : (places : List Place) (i k : ℕ) (p : Place) → i < length places → i < k → p.number ≡ number_at places i + 1 → begun_before (slice_set places i p) k ≡ begun_before places k + 1
begun_upper [] i k p within high more = absurd (omega arith)
begun_upper (q ∷ places) zero zero p within high more = absurd (omega arith)
begun_upper (q ∷ places) zero (suc k) p within high more = omega (arith, more)
begun_upper (q ∷ places) (suc i) zero p within high more = absurd (omega arith)
begun_upper (q ∷ places) (suc i) (suc k) p within high more =
    let later = begun_upper places i k p (omega arith) (omega arith) more in
    omega (arith, later)

begun_same : (places : List Place) (i k : ℕ) (p : Place) → p.number ≡ number_at places i → begun_before (slice_set places i p) k ≡ begun_before places k
begun_same [] i k p same = refl
begun_same (q ∷ places) zero zero p same = refl
begun_same (q ∷ places) zero (suc k) p same = ap (λ (n : ℕ). n + begun_before places k) same
begun_same (q ∷ places) (suc i) zero p same = refl
begun_same (q ∷ places) (suc i) (suc k) p same = ap (λ (n : ℕ). q.number + n) (begun_same places i k p same)

-- One more tree begins.

pub is_begun : (old : List Place) (first : ℕ) (put more : Place) → first ≤ length old
    → put.number ≡ 0 → put.first ≡ first → put.lambda ≡ 0
    → more.number ≡ number_at (old ++ put ∷ []) first + 1 → more.first ≡ first_at (old ++ put ∷ []) first → more.lambda ≡ lambda_at (old ++ put ∷ []) first
    → IsBegun old (slice_set (old ++ put ∷ []) first more) first
is_begun old first put more within none own plain one same_first same_lambda =
    let size : length (old ++ put ∷ []) ≡ length old + 1 = length_push old put in
    record {
      size = length-set (old ++ put ∷ []) first more ∙ size;
      firsts = λ k low. first_set (old ++ put ∷ []) first k more same_first ∙ first_put old put k low;
      own = first_set (old ++ put ∷ []) first (length old) more same_first ∙ first_new old put ∙ own;
      lower = λ k low. begun_lower (old ++ put ∷ []) first k more low ∙ begun_put old put k none;
      upper = λ k high. begun_upper (old ++ put ∷ []) first k more (omega (arith, size)) high one ∙ ap (λ (n : ℕ). n + 1) (begun_put old put k none);
      lambdas = λ k. lambda_set (old ++ put ∷ []) first k more same_lambda ∙ lambda_put old put k plain;
    }

pub is_begun_in : (old items : List Place) (first : ℕ) (put more : Place) → items ≡ old ++ put ∷ [] → first ≤ length old
    → put.number ≡ 0 → put.first ≡ first → put.lambda ≡ 0
    → more.number ≡ number_at items first + 1 → more.first ≡ first_at items first → more.lambda ≡ lambda_at items first
    → IsBegun old (slice_set items first more) first
is_begun_in old items first put more is within none own plain one same_first same_lambda =
    subst (λ (xs : List Place). IsBegun old (slice_set xs first more) first) (sym is)
    (is_begun old first put more within none own plain (one ∙ ap (λ (xs : List Place). number_at xs first + 1) is) (same_first ∙ ap (λ (xs : List Place). first_at xs first) is)
    (same_lambda ∙ ap (λ (xs : List Place). lambda_at xs first) is))

-- A mark.

pub is_marked : (old : List Place) (begin index : ℕ) (more : Place) → begin < length old
    → more.number ≡ number_at old begin → more.first ≡ first_at old begin → more.lambda ≡ index
    → IsMarked old (slice_set old begin more) begin index
is_marked old begin index more within same_number same_first own = record {
  size = length-set old begin more;
  firsts = λ k. first_set old begin k more same_first;
  begun = λ k. begun_same old begin k more same_number;
  own = lambda_own old begin more within ∙ own;
  others = λ k other. lambda_other old begin k more other;
}

-- How many trees begin.

pub begun_past : (places : List Place) (k : ℕ) → length places ≤ k → begun_before places k ≡ begun_before places (length places)
begun_past [] k past = refl
begun_past (q ∷ places) zero past = absurd (omega arith)
begun_past (q ∷ places) (suc k) past = ap (λ (n : ℕ). q.number + n) (begun_past places k (omega arith))

pub begun_start : (places : List Place) → begun_before places 0 ≡ 0
begun_start [] = refl
begun_start (q ∷ places) = refl

begun_suc : (places : List Place) (k : ℕ) → begun_before places (suc k) ≡ begun_before places k + number_at places k
begun_suc [] k = refl
begun_suc (q ∷ places) zero = let start = begun_start places in omega (arith, start)
begun_suc (q ∷ places) (suc k) = let next = begun_suc places k in omega (arith, next)

pub begun_next : (places : List Place) (k : ℕ) → begun_before places (k + 1) ≡ begun_before places k + number_at places k
begun_next places k = let next : k + 1 ≡ suc k = omega arith in ap (begun_before places) next ∙ begun_suc places k

pub begun_rises : (places : List Place) (j k : ℕ) → j ≤ k → begun_before places j ≤ begun_before places k
begun_rises [] j k low = omega arith
begun_rises (q ∷ places) zero k low = omega arith
begun_rises (q ∷ places) (suc j) zero low = absurd (omega arith)
begun_rises (q ∷ places) (suc j) (suc k) low = let later = begun_rises places j k (omega arith) in omega (arith, later)

-- no more trees begin with a node than begin at all
number_in : (places : List Place) (k : ℕ) → number_at places k ≤ begun_before places (length places)
number_in [] k = omega arith
number_in (q ∷ places) zero = omega arith
number_in (q ∷ places) (suc k) = let later = number_in places k in omega (arith, later)

pub number_within : (old items : List Place) (put : Place) (k : ℕ) → items ≡ old ++ put ∷ [] → put.number ≡ 0 → number_at items k ≤ begun_before old (length old)
number_within old items put k is none =
    let all : begun_before (old ++ put ∷ []) (length (old ++ put ∷ [])) ≡ begun_before old (length (old ++ put ∷ [])) = begun_put old put (length (old ++ put ∷ [])) none in
    let past : begun_before old (length (old ++ put ∷ [])) ≡ begun_before old (length old) = begun_past old (length (old ++ put ∷ [])) (omega (arith, length_push old put)) in
    let within : number_at (old ++ put ∷ []) k ≤ begun_before (old ++ put ∷ []) (length (old ++ put ∷ [])) = number_in (old ++ put ∷ []) k in
    subst (λ (xs : List Place). number_at xs k ≤ begun_before old (length old)) (sym is) (omega (arith, all, past, within))
