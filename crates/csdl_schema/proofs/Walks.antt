-- Steps of the walks over types and their chains.
use Rattle.std.proofs.Common.{◌≡◌, ℕ, zero, suc, ◌+◌, ◌<◌, ◌≤◌, List, [], ◌∷◌, ◌++◌, length, map, drop, Option, Some, None, IfSome, slice_get, is_some, Bool, true, false, cond, not, ◌||◌, nat_eq, nat_lt, refl, sym, ap, subst, ◌∙◌, arith, String, Global, string_bytes}
use Rattle.std.specs.List.{list_any, flat_map}
use Rattle.std.specs.Map.{lookup}
use Rattle.std.specs.Cmp.Lexicographic.{pointwise}
use Rattle.std.proofs.lemmas.Bool.Decides.{nat_tests}
use Rattle.std.proofs.lemmas.List.Sums.{sum_by-cons}
use Rattle.csdl_declarations.specs.Fault.{Fault, unless, too_large}
use Rattle.csdl_declarations.specs.FaultView.{IsFirstOf}
use Rattle.csdl_schema.specs.declared.property.Property.{Property}
use Rattle.csdl_schema.specs.BaseFaults.{first_name, lesser_name, twice_faults, property_limit}
use Rattle.csdl_schema.specs.private.Placed.{PlacedType, entry_view, base_at, onto_place, places_within, owns_by, owns_at, names_owned, names_again_at, first_reported, firsts_from, count_at, own_at, inherited_faults_at}
use Rattle.csdl_schema.proofs.Chains.{first_reported_is}

-- ---- lists

pub drop_at : {X : Type 0} (xs : List X) (n : ℕ) (x : X) → slice_get xs n ≡ Some x → drop n xs ≡ x ∷ drop (suc n) xs
drop_at [] n x at = absurd (cc)
drop_at (y ∷ ys) zero x at = let same : y ≡ x = cc in ap (λ z. z ∷ ys) same
drop_at (y ∷ ys) (suc n) x at = drop_at ys n x at

pub split_at : {X : Type 0} (xs : List X) (n : ℕ) → n < length xs → (x : X) × (slice_get xs n ≡ Some x) × (drop n xs ≡ x ∷ drop (suc n) xs)
split_at [] n h = absurd (omega (arith, h))
split_at (y ∷ ys) zero h = (y, refl, refl)
split_at (y ∷ ys) (suc n) h =
    let lower : n < length ys = omega (arith, h) in
    split_at ys n lower

-- an item is put after those so far
pub pushed_map : {A B : Type 0} (f : A → B) (xs new : List A) (x : A) (y : B) (rest all : List B) → new ≡ xs ++ x ∷ [] → f x ≡ y → map f xs ++ y ∷ rest ≡ all → map f new ++ rest ≡ all
pushed_map {A} {B} f xs new x y rest all added same whole = ap (λ zs. map f zs ++ rest) added ∙ pushed xs ∙ ap (λ z. map f xs ++ z ∷ rest) same ∙ whole
  where
    pushed : (zs : List A) → map f (zs ++ x ∷ []) ++ rest ≡ map f zs ++ f x ∷ rest
    pushed [] = refl
    pushed (z ∷ zs) = ap (λ later. f z ∷ later) (pushed zs)

-- ---- faults

pub reports_first : (reported : Option Fault) (fault : Fault) (faults later : List Fault) → IfSome reported (λ t. t ≡ fault) → faults ≡ fault ∷ later → IsFirstOf faults reported
reports_first None fault faults later is first = tt
reports_first (Some t) fault faults later is first = (later, first ∙ ap (λ f. f ∷ later) (sym is))

pub first_of_more : (reported : Option Fault) (faults more : List Fault) → IsFirstOf faults reported → IsFirstOf (faults ++ more) reported
first_of_more None faults more h = tt
first_of_more (Some t) faults more h = (h.0 ++ more, ap (λ fs. fs ++ more) h.1)

pub unless_first : (b : Bool) (fault : Fault) (reported : Option Fault) → b ≡ false → IfSome reported (λ t. t ≡ fault) → IsFirstOf (unless b fault) reported
unless_first b fault reported fails is = reports_first reported fault (unless b fault) [] is (ap (λ v. unless v fault) fails)

pub unless_none : (b : Bool) (fault : Fault) → b ≡ true → unless b fault ≡ []
unless_none b fault holds = ap (λ v. unless v fault) holds

-- a fault after tests that hold
pub behind_none : (reported : Option Fault) (none faults : List Fault) → none ≡ [] → IsFirstOf faults reported → IsFirstOf (none ++ faults) reported
behind_none reported none faults is h = subst (λ fs. IsFirstOf (fs ++ faults) reported) (sym is) h

-- ---- numbers

pub is_below : (a b : ℕ) → a < b → nat_lt a b ≡ true
is_below a b h = grind (arith, nat_tests)

pub not_below : (a b : ℕ) → b ≤ a → nat_lt a b ≡ false
not_below a b h = grind (arith, nat_tests)

-- ---- chains

pub climbed : (types : List PlacedType) (k below base : ℕ) (xs ys all : List ℕ) → base_at types below ≡ Some base → ys ≡ xs ++ base ∷ [] → xs ++ places_within (suc k) types below ≡ all
    → ys ++ places_within k types base ≡ all
climbed types k below base xs ys all is pushed whole =
    ap (λ zs. zs ++ places_within k types base) pushed
    ∙ beside xs
    ∙ ap (λ o. xs ++ onto_place (places_within k types) o) (sym is)
    ∙ whole
  where
    beside : (zs : List ℕ) → (zs ++ base ∷ []) ++ places_within k types base ≡ zs ++ base ∷ places_within k types base
    beside [] = refl
    beside (z ∷ zs) = ap (λ rest. z ∷ rest) (beside zs)

-- ---- names

pub known_name : (name : List ℕ) (es : List (String Global × Property)) → is_some (lookup (λ k. pointwise nat_eq name (string_bytes k)) es) ≡ owns_by name (map entry_view es)
known_name name [] = refl
known_name name (e ∷ es) = by (pointwise nat_eq name (string_bytes e.0)) (known_name name es)
  where
    by : (b : Bool) → is_some (lookup (λ k. pointwise nat_eq name (string_bytes k)) es) ≡ owns_by name (map entry_view es)
        → is_some (cond b (Some e.1) (lookup (λ k. pointwise nat_eq name (string_bytes k)) es)) ≡ (b || owns_by name (map entry_view es))
    by true later = refl
    by false later = later

abbrev pub names_from : ℕ → List (String Global × Property) → List (List ℕ)
names_from n es = map (λ e. e.0) (map entry_view (drop n es))

-- the first of the names from a slot on, by whether the name there is one of them
pub owned_step : (types : List PlacedType) (places : List ℕ) (es : List (String Global × Property)) (n : ℕ) (e : String Global × Property) (b : Bool) → slice_get es n ≡ Some e
    → list_any (owns_at types (string_bytes e.0)) places ≡ b
    → first_name (names_owned types places (names_from n es))
    ≡ cond b (lesser_name (string_bytes e.0) (first_name (names_owned types places (names_from (suc n) es)))) (first_name (names_owned types places (names_from (suc n) es)))
owned_step types places es n e b at is =
    ap (λ rest. first_name (names_owned types places (map (λ e. e.0) (map entry_view rest)))) (drop_at es n e at)
    ∙ ap (λ v. first_name (cond v (string_bytes e.0 ∷ names_owned types places (names_from (suc n) es)) (names_owned types places (names_from (suc n) es)))) is
    ∙ by b
  where
    by : (b : Bool) → first_name (cond b (string_bytes e.0 ∷ names_owned types places (names_from (suc n) es)) (names_owned types places (names_from (suc n) es)))
        ≡ cond b (lesser_name (string_bytes e.0) (first_name (names_owned types places (names_from (suc n) es)))) (first_name (names_owned types places (names_from (suc n) es)))
    by true = refl
    by false = refl

-- what is reported about a chain is its first name that stands twice
pub twice_reported : (types : List PlacedType) (firsts : List (Option (List ℕ))) (places : List ℕ) (reported : Option (List ℕ)) → firsts ≡ firsts_from types 0 types → reported ≡ first_reported firsts places
    → reported ≡ first_name (flat_map (names_again_at types) places)
twice_reported types firsts places reported same is = is ∙ ap (λ fs. first_reported fs places) same ∙ first_reported_is types places

-- ---- inherited properties

module _ (types : List PlacedType) (name : List ℕ) (n : ℕ) (places : List ℕ) where
  abbrev pub twice : Option (List ℕ)
  twice = first_name (flat_map (names_again_at types) (n ∷ places))

  abbrev pub total : ℕ
  total = count_at types (n ∷ places)

  pub total_is : total ≡ length (own_at types n) + count_at types places
  total_is = sum_by-cons (λ m. length (own_at types m)) n places

  pub none_twice : (reported : Option (List ℕ)) → reported ≡ None → reported ≡ twice → twice_faults name twice ≡ []
  none_twice reported none is = ap (twice_faults name) (sym is ∙ none)

  pub too_many : nat_lt property_limit total ≡ true → twice_faults name twice ≡ [] → (later : List Fault) × (inherited_faults_at types name n places ≡ too_large ∷ later)
  too_many many none = ([], (λ j. none j ++ unless (not (many j)) too_large))

  pub few_enough : nat_lt property_limit total ≡ false → twice_faults name twice ≡ [] → inherited_faults_at types name n places ≡ []
  few_enough few none = λ j. none j ++ unless (not (few j)) too_large
