-- Chains of bases by indexes are those by types, and so are their faults.
use Rattle.std.proofs.Common.{◌≡◌, ℕ, zero, suc, ◌+◌, List, [], ◌∷◌, ◌++◌, length, map, filter, Option, Some, None, option_map, slice_get, is_some, Bool, true, false, not, ◌||◌, ◌<◌, ◌≤◌, nat_eq, nat_lt, sum_by, refl, sym, ap, subst, ◌∙◌, arith, Less, Equal, Greater, Ordering}
use Rattle.std.specs.Prelude.{option_and_then}
use Rattle.std.specs.List.{list_any, flat_map, AllByRecursion}
use Rattle.std.specs.Ordering.{nat_cmp, ordering_reverse, match_ordering}
use Rattle.std.specs.Cmp.Lexicographic.{pointwise, slice_cmp}
use Rattle.std.proofs.lemmas.Bool.Decides.{nat_tests}
use Rattle.std.proofs.lemmas.Cmp.{nat_list_cmp_total}
use Rattle.std.proofs.lemmas.Map.Lookups.{exact_bytes}
use Rattle.std.proofs.lemmas.List.Sums.{sum_by-cons}
use Rattle.std.proofs.lemmas.Option.{slice_get-map}
use Rattle.csdl_declarations.specs.Fault.{Fault, unknown_base, base_cycle, too_large, unless}
use Rattle.csdl_declarations.specs.FaultView.{IsFirstOf}
use Rattle.csdl_declarations.specs.DeclaredType.{TypeBody, DeclaredType, structured, enumeration, definition}
use Rattle.csdl_schema.specs.Resolution.{base_of}
use Rattle.csdl_schema.specs.BaseFaults.{base_text, onto, bases_within, bases_of, base_limit, property_limit, own_properties, own_names, owns, names_again, names_twice, lesser_name, first_name, twice_faults, property_count, is_base_known, chain_faults, inherited_faults, base_faults, all_base_faults}
use Rattle.csdl_schema.specs.private.Placed.{Finder, IsIndexOf, kinds_from, placed_property, PlacedType, base_place, found_base, body_with, placed_base, placed_own, own_of, base_at, own_at, onto_place, places_within, owns_at, names_at, names_owned, names_again_at, firsts_from, lesser_of, reported_at, first_reported, all_places, count_at, chain_faults_at, inherited_faults_at, base_faults_at, faults_from}
use Rattle.csdl_schema.proofs.Placing.{IsBase, is_base, at_indexes, length-map}
use Rattle.csdl_schema.proofs.Properties.{placed_names}
use Rattle.csdl_schema.proofs.Inheritance.{shortened}

-- ---- the first of some names

-- of three names the first is that of two and then of all
lesser_name_of : (x y : List ℕ) (o : Option (List ℕ)) → lesser_name x (lesser_name y o) ≡ lesser_of (lesser_name x (Some y)) o
lesser_name_of x y None = by (slice_cmp nat_cmp x y)
  where
    by : (o : Ordering) → match_ordering o (Some x) (Some x) (Some y) ≡ lesser_of (match_ordering o (Some x) (Some x) (Some y)) None
    by Less = refl
    by Equal = refl
    by Greater = refl
lesser_name_of x y (Some z) = push_x (slice_cmp nat_cmp y z) ∙ by (slice_cmp nat_cmp x y) refl (slice_cmp nat_cmp y z) refl (slice_cmp nat_cmp x z) refl ∙ sym (push_z (slice_cmp nat_cmp x y))
  where
    to_y : Ordering → Option (List ℕ)
    to_y a = match_ordering a (Some x) (Some x) (Some y)

    to_z : Ordering → Option (List ℕ)
    to_z c = match_ordering c (Some x) (Some x) (Some z)

    push_x : (b : Ordering) → lesser_name x (match_ordering b (Some y) (Some y) (Some z)) ≡ match_ordering b (lesser_name x (Some y)) (lesser_name x (Some y)) (lesser_name x (Some z))
    push_x Less = refl
    push_x Equal = refl
    push_x Greater = refl

    push_z : (a : Ordering) → lesser_of (match_ordering a (Some x) (Some x) (Some y)) (Some z) ≡ match_ordering a (lesser_name x (Some z)) (lesser_name x (Some z)) (lesser_name y (Some z))
    push_z Less = refl
    push_z Equal = refl
    push_z Greater = refl

    by : (a : Ordering) → slice_cmp nat_cmp x y ≡ a → (b : Ordering) → slice_cmp nat_cmp y z ≡ b → (c : Ordering) → slice_cmp nat_cmp x z ≡ c
        → match_ordering b (to_y a) (to_y a) (to_z c) ≡ match_ordering a (to_z c) (to_z c) (match_ordering b (Some y) (Some y) (Some z))
    by Less ha Less hb c hc = sym (ap to_z (sym hc ∙ nat_list_cmp_total.trans x y z ha hb))
    by Less ha Equal hb c hc = sym (ap to_z (sym hc ∙ ap (slice_cmp nat_cmp x) (sym (exact_bytes y z hb)) ∙ ha))
    by Less ha Greater hb c hc = refl
    by Equal ha Less hb c hc = sym (ap to_z (sym hc ∙ ap (λ v. slice_cmp nat_cmp v z) (exact_bytes x y ha) ∙ hb))
    by Equal ha Equal hb c hc = sym (ap to_z (sym hc ∙ ap (λ v. slice_cmp nat_cmp v z) (exact_bytes x y ha) ∙ hb))
    by Equal ha Greater hb c hc = refl
    by Greater ha Less hb c hc = refl
    by Greater ha Equal hb c hc = refl
    by Greater ha Greater hb c hc =
        let zy : slice_cmp nat_cmp z y ≡ Less = nat_list_cmp_total.antisymm z y ∙ ap ordering_reverse hb in
        let yx : slice_cmp nat_cmp y x ≡ Less = nat_list_cmp_total.antisymm y x ∙ ap ordering_reverse ha in
        ap to_z (sym hc ∙ nat_list_cmp_total.antisymm x z ∙ ap ordering_reverse (nat_list_cmp_total.trans z y x zy yx))

pub lesser_of_both : (a b c : Option (List ℕ)) → lesser_of (lesser_of a b) c ≡ lesser_of a (lesser_of b c)
lesser_of_both None b c = refl
lesser_of_both (Some x) None c = refl
lesser_of_both (Some x) (Some y) c = sym (lesser_name_of x y c)

pub lesser_of_none : (a : Option (List ℕ)) → lesser_of a None ≡ a
lesser_of_none None = refl
lesser_of_none (Some x) = refl

pub first_of_append : (xs ys : List (List ℕ)) → first_name (xs ++ ys) ≡ lesser_of (first_name xs) (first_name ys)
first_of_append [] ys = refl
first_of_append (x ∷ xs) ys = ap (lesser_name x) (first_of_append xs ys) ∙ by (first_name xs)
  where
    by : (o : Option (List ℕ)) → lesser_name x (lesser_of o (first_name ys)) ≡ lesser_of (lesser_name x o) (first_name ys)
    by None = refl
    by (Some y) = lesser_name_of x y (first_name ys)

-- ---- what is reported about each type

firsts_at : (types : List PlacedType) (k : ℕ) (ts : List PlacedType) (n : ℕ)
    → slice_get (firsts_from types k ts) n ≡ option_map (λ t. first_name (names_again_at types (k + n))) (slice_get ts n)
firsts_at types k [] n = refl
firsts_at types k (t ∷ ts) zero =
    let here : k ≡ k + 0 = omega arith in
    ap (λ m. Some (first_name (names_again_at types m))) here
firsts_at types k (t ∷ ts) (suc n) =
    let moved : suc k + n ≡ k + suc n = omega arith in
    firsts_at types (suc k) ts n ∙ ap (λ m. option_map (λ t. first_name (names_again_at types m)) (slice_get ts n)) moved

pub reported_is : (types : List PlacedType) (n : ℕ) → reported_at (firsts_from types 0 types) n ≡ first_name (names_again_at types n)
reported_is types n =
    let here : 0 + n ≡ n = omega arith in
    ap (option_and_then (λ o. o)) (firsts_at types 0 types n ∙ ap (λ m. option_map (λ t. first_name (names_again_at types m)) (slice_get types n)) here)
    ∙ by (slice_get types n) refl
  where
    by : (o : Option PlacedType) → slice_get types n ≡ o → option_and_then (λ x. x) (option_map (λ t. first_name (names_again_at types n)) o) ≡ first_name (names_again_at types n)
    by (Some t) at = refl
    by None at = sym (ap (λ own. first_name (names_owned types (places_within base_limit types n) (map (λ e. e.0) (own_of own)))) at)

pub first_reported_is : (types : List PlacedType) (places : List ℕ) → first_reported (firsts_from types 0 types) places ≡ first_name (flat_map (names_again_at types) places)
first_reported_is types [] = refl
first_reported_is types (n ∷ places) =
    (λ j. lesser_of (reported_is types n j) (first_reported_is types places j)) ∙ sym (first_of_append (names_again_at types n) (flat_map (names_again_at types) places))

any-map : {A B : Type 0} (p : B → Bool) (f : A → B) (xs : List A) → list_any (λ x. p (f x)) xs ≡ list_any p (map f xs)
any-map p f [] = refl
any-map p f (x ∷ xs) = ap (λ b. p (f x) || b) (any-map p f xs)

-- ---- the first of some faults

abbrev pub first_fault : List Fault → Option Fault
first_fault [] = None
first_fault (fault ∷ faults) = Some fault

first_of_both : (xs ys us vs : List Fault) → first_fault xs ≡ first_fault us → first_fault ys ≡ first_fault vs → first_fault (xs ++ ys) ≡ first_fault (us ++ vs)
first_of_both [] ys [] vs here there = there
first_of_both (x ∷ xs) ys (u ∷ us) vs here there = here
first_of_both [] ys (u ∷ us) vs here there =
    let clash : None ≡ Some u = here in
    absurd (cc)
first_of_both (x ∷ xs) ys [] vs here there =
    let clash : Some x ≡ None = here in
    absurd (cc)

-- faults after others count where there are none of these
first_behind : (faults xs ys : List Fault) → (faults ≡ [] → xs ≡ ys) → first_fault (faults ++ xs) ≡ first_fault (faults ++ ys)
first_behind [] xs ys same = ap first_fault (same refl)
first_behind (f ∷ faults) xs ys same = refl

pub none_first : (xs ys : List Fault) → first_fault xs ≡ first_fault ys → xs ≡ [] → ys ≡ []
none_first [] [] same none = refl
none_first [] (y ∷ ys) same none =
    let clash : None ≡ Some y = same in
    absurd (cc)
none_first (x ∷ xs) ys same none = absurd (cc)

pub first_kept : (reported : Option Fault) (xs ys : List Fault) → first_fault xs ≡ first_fault ys → IsFirstOf xs reported → IsFirstOf ys reported
first_kept None xs ys same h = tt
first_kept (Some fault) [] ys same h =
    let clash : [] ≡ fault ∷ h.0 = h.1 in
    absurd (cc)
first_kept (Some fault) (x ∷ xs) [] same h =
    let clash : Some x ≡ None = same in
    absurd (cc)
first_kept (Some fault) (x ∷ xs) (y ∷ ys) same h =
    let reported : x ∷ xs ≡ fault ∷ h.0 = h.1 in
    let first : Some x ≡ Some y = same in
    let is : y ≡ fault = cc in
    (ys, ap (λ z. z ∷ ys) is)

-- ---- no faults

pub both_empty : {X : Type 0} (xs ys : List X) → xs ++ ys ≡ [] → (xs ≡ []) × (ys ≡ [])
both_empty [] ys none = (refl, none)
both_empty (x ∷ xs) ys none = absurd (cc)

pub unless_holds : (b : Bool) (fault : Fault) → unless b fault ≡ [] → b ≡ true
unless_holds true fault none = refl
unless_holds false fault none = absurd (cc)

pub below : (a b : ℕ) → nat_lt a b ≡ true → a < b
below a b h = grind (arith, nat_tests)

pub at_most : (a b : ℕ) → not (nat_lt b a) ≡ true → a ≤ b
at_most a b h = grind (arith, nat_tests)

-- ---- chains

module _ (ds : List DeclaredType) (find : Finder) (indexed : IsIndexOf ds find) where
  abbrev pub placed : List PlacedType
  placed = map (at_indexes ds find indexed) ds

  -- indexes of types
  abbrev pub AreAt : List ℕ → List DeclaredType → Type 0
  AreAt [] [] = Unit {0}
  AreAt (n ∷ ns) (u ∷ us) = (slice_get ds n ≡ Some u) × AreAt ns us
  AreAt _ _ = ⊥

  pub placed_at : (n : ℕ) (t : DeclaredType) → slice_get ds n ≡ Some t → slice_get placed n ≡ Some (at_indexes ds find indexed t)
  placed_at n t at = slice_get-map (at_indexes ds find indexed) ds n ∙ ap (option_map (at_indexes ds find indexed)) at

  base_kept : (body : TypeBody) → placed_base (body_with (kinds_from 0 ds) find (base_place ds find body) body) ≡ base_place ds find body
  base_kept (structured is_entity base properties) = refl
  base_kept (enumeration e) = refl
  base_kept (definition underlying) = refl

  pub base_at_is : (n : ℕ) (t : DeclaredType) → slice_get ds n ≡ Some t → base_at placed n ≡ base_place ds find t.body
  base_at_is n t at = ap (option_and_then (λ t. placed_base t.body)) (placed_at n t at) ∙ base_kept t.body

  pub places : (k n : ℕ) (t : DeclaredType) → slice_get ds n ≡ Some t → AreAt (places_within k placed n) (bases_within k ds t)
  places zero n t at = tt
  places (suc k) n t at =
      let P : Option ℕ → Type 0 = λ o. AreAt (onto_place (places_within k placed) o) (onto (bases_within k ds) (base_of ds t)) in
      subst P (sym (base_at_is n t at)) (by (base_place ds find t.body) (base_of ds t) (is_base ds find indexed t.body) (λ m u is. places k m u is))
    where
      by : (o : Option ℕ) (b : Option DeclaredType) → IsBase ds find indexed o b → ((m : ℕ) (u : DeclaredType) → slice_get ds m ≡ Some u → AreAt (places_within k placed m) (bases_within k ds u))
          → AreAt (onto_place (places_within k placed) o) (onto (bases_within k ds) b)
      by None None is further = tt
      by (Some m) (Some u) is further = (is, further m u is)
      by None (Some u) is further = absurd is
      by (Some m) None is further = absurd is

  -- ---- from indexes to types

  pub length_at : (ns : List ℕ) (us : List DeclaredType) → AreAt ns us → length ns ≡ length us
  length_at [] [] h = refl
  length_at (n ∷ ns) (u ∷ us) h = ap suc (length_at ns us h.1)
  length_at [] (u ∷ us) h = absurd h
  length_at (n ∷ ns) [] h = absurd h

  any_at : (f : ℕ → Bool) (g : DeclaredType → Bool) → ((n : ℕ) (u : DeclaredType) → slice_get ds n ≡ Some u → f n ≡ g u) → (ns : List ℕ) (us : List DeclaredType) → AreAt ns us
      → list_any f ns ≡ list_any g us
  any_at f g same [] [] h = refl
  any_at f g same (n ∷ ns) (u ∷ us) h = λ j. same n u h.0 j || any_at f g same ns us h.1 j
  any_at f g same [] (u ∷ us) h = absurd h
  any_at f g same (n ∷ ns) [] h = absurd h

  pub sum_at : (f : ℕ → ℕ) (g : DeclaredType → ℕ) → ((n : ℕ) (u : DeclaredType) → slice_get ds n ≡ Some u → f n ≡ g u) → (ns : List ℕ) (us : List DeclaredType) → AreAt ns us
      → sum_by f ns ≡ sum_by g us
  sum_at f g same [] [] h = refl
  sum_at f g same (n ∷ ns) (u ∷ us) h = sum_by-cons f n ns ∙ (λ j. same n u h.0 j + sum_at f g same ns us h.1 j) ∙ sym (sum_by-cons g u us)
  sum_at f g same [] (u ∷ us) h = absurd h
  sum_at f g same (n ∷ ns) [] h = absurd h

  flat_at : {X : Type 0} (f : ℕ → List X) (g : DeclaredType → List X) (P : DeclaredType → Type 0) → ((n : ℕ) (u : DeclaredType) → slice_get ds n ≡ Some u → P u → f n ≡ g u)
      → (ns : List ℕ) (us : List DeclaredType) → AreAt ns us → AllByRecursion P us → flat_map f ns ≡ flat_map g us
  flat_at f g P same [] [] h all = refl
  flat_at f g P same (n ∷ ns) (u ∷ us) h all = λ j. same n u h.0 all.0 j ++ flat_at f g P same ns us h.1 all.1 j
  flat_at f g P same [] (u ∷ us) h all = absurd h
  flat_at f g P same (n ∷ ns) [] h all = absurd h

  -- ---- own properties

  own_kept : (body : TypeBody) → placed_own (body_with (kinds_from 0 ds) find (base_place ds find body) body) ≡ map (placed_property (kinds_from 0 ds) find) (own_properties body)
  own_kept (structured is_entity base properties) = refl
  own_kept (enumeration e) = refl
  own_kept (definition underlying) = refl

  pub own_is : (n : ℕ) (t : DeclaredType) → slice_get ds n ≡ Some t → own_at placed n ≡ map (placed_property (kinds_from 0 ds) find) (own_properties t.body)
  own_is n t at = ap own_of (placed_at n t at) ∙ own_kept t.body

  names_is : (n : ℕ) (t : DeclaredType) → slice_get ds n ≡ Some t → names_at placed n ≡ own_names t
  names_is n t at = ap (map (λ e. e.0)) (own_is n t at) ∙ placed_names (kinds_from 0 ds) find (own_properties t.body)

  owns_is : (name : List ℕ) (n : ℕ) (t : DeclaredType) → slice_get ds n ≡ Some t → owns_at placed name n ≡ owns name t
  owns_is name n t at = any-map (pointwise nat_eq name) (λ e. e.0) (own_at placed n) ∙ ap (list_any (pointwise nat_eq name)) (names_is n t at)

  pub count_is : (n : ℕ) (t : DeclaredType) → slice_get ds n ≡ Some t → length (own_at placed n) ≡ length (own_properties t.body)
  count_is n t at = ap length (own_is n t at) ∙ length-map (placed_property (kinds_from 0 ds) find) (own_properties t.body)

  -- a chain of no more bases than it may have
  abbrev pub IsShort : DeclaredType → Type 0
  IsShort t = bases_within base_limit ds t ≡ bases_of ds t

  again_is : (n : ℕ) (t : DeclaredType) → slice_get ds n ≡ Some t → IsShort t → names_again_at placed n ≡ names_again ds t
  again_is n t at short = within ∙ ap (λ us. filter (λ name. list_any (owns name) us) (own_names t)) short
    where
      within : names_again_at placed n ≡ filter (λ name. list_any (owns name) (bases_within base_limit ds t)) (own_names t)
      within = λ j.
          filter (λ name. any_at (owns_at placed name) (owns name) (owns_is name) (places_within base_limit placed n) (bases_within base_limit ds t) (places base_limit n t at) j) (names_is n t at j)

  is_short : (k : ℕ) (t : DeclaredType) → k ≤ length ds → length (bases_within k ds t) < k → length (bases_within k ds t) ≤ base_limit → IsShort t
  is_short k t most h few =
      let within : length (bases_within k ds t) ≤ length ds = omega (arith, most, h) in
      shortened ds k base_limit t h few ∙ sym (shortened ds k (length ds) t h within)

  -- the bases of a short chain have short chains
  all_short : (k : ℕ) (t : DeclaredType) → k ≤ length ds → length (bases_within k ds t) < k → length (bases_within k ds t) ≤ base_limit → AllByRecursion IsShort (bases_within k ds t)
  all_short zero t most h few = absurd (omega (arith, h))
  all_short (suc k) t most h few =
      let fewer : k ≤ length ds = omega (arith, most) in
      by (base_of ds t) fewer h few (λ u shorter less. all_short k u fewer shorter less)
    where
      by : (o : Option DeclaredType) → k ≤ length ds → length (onto (bases_within k ds) o) < suc k → length (onto (bases_within k ds) o) ≤ base_limit
          → ((u : DeclaredType) → length (bases_within k ds u) < k → length (bases_within k ds u) ≤ base_limit → AllByRecursion IsShort (bases_within k ds u))
          → AllByRecursion IsShort (onto (bases_within k ds) o)
      by None fewer h few further = tt
      by (Some u) fewer h few further =
          let shorter : length (bases_within k ds u) < k = omega (arith, h) in
          let less : length (bases_within k ds u) ≤ base_limit = omega (arith, few) in
          (is_short k u fewer shorter less, further u shorter less)

  chain_short : (t : DeclaredType) → chain_faults ds t ≡ [] → AllByRecursion IsShort (t ∷ bases_of ds t)
  chain_short t none =
      let known = both_empty (unless (is_base_known ds t) (unknown_base t.name)) _ none in
      let ends = both_empty (unless (nat_lt (length (bases_of ds t)) (length ds)) (base_cycle t.name)) _ known.1 in
      let ended : length (bases_of ds t) < length ds = below (length (bases_of ds t)) (length ds) (unless_holds _ _ ends.0) in
      let few : length (bases_of ds t) ≤ base_limit = at_most (length (bases_of ds t)) base_limit (unless_holds _ _ ends.1) in
      let most : length ds ≤ length ds = omega arith in
      (is_short (length ds) t most ended few, all_short (length ds) t most ended few)

  -- ---- faults

  known_is : (o : Option ℕ) (b : Option DeclaredType) → IsBase ds find indexed o b → is_some o ≡ is_some b
  known_is None None is = refl
  known_is (Some m) (Some u) is = refl
  known_is None (Some u) is = absurd is
  known_is (Some m) None is = absurd is

  as_many : length placed ≡ length ds
  as_many = length-map (at_indexes ds find indexed) ds

  pub all_at : (n : ℕ) (t : DeclaredType) → slice_get ds n ≡ Some t → AreAt (all_places placed n) (bases_of ds t)
  all_at n t at =
      let P : ℕ → Type 0 = λ k. AreAt (places_within k placed n) (bases_of ds t) in
      subst P (sym as_many) (places (length ds) n t at)

  chain_faults_are : (n : ℕ) (t : DeclaredType) → slice_get ds n ≡ Some t → chain_faults_at placed (found_base ds find t.body) t.name n ≡ chain_faults ds t
  chain_faults_are n t at =
      let known : is_some (base_place ds find t.body) ≡ is_some (base_of ds t) = known_is (base_place ds find t.body) (base_of ds t) (is_base ds find indexed t.body) in
      let count : length (all_places placed n) ≡ length (bases_of ds t) = length_at (all_places placed n) (bases_of ds t) (all_at n t at) in
      λ j.
      unless (not (is_some (base_text t.body)) || known j) (unknown_base t.name)
      ++ (unless (nat_lt (count j) (as_many j)) (base_cycle t.name)
      ++ unless (not (nat_lt base_limit (count j))) too_large)

  inherited_faults_are : (n : ℕ) (t : DeclaredType) → slice_get ds n ≡ Some t → chain_faults ds t ≡ [] → inherited_faults_at placed t.name n (all_places placed n) ≡ inherited_faults ds t
  inherited_faults_are n t at none =
      let chain : AreAt (n ∷ all_places placed n) (t ∷ bases_of ds t) = (at, all_at n t at) in
      let twice : flat_map (names_again_at placed) (n ∷ all_places placed n) ≡ names_twice ds t = flat_at (names_again_at placed) (names_again ds) IsShort again_is (n ∷ all_places placed n) (t ∷ bases_of ds t) chain (chain_short t none) in
      let count : count_at placed (n ∷ all_places placed n) ≡ property_count ds t = sum_at (λ m. length (own_at placed m)) (λ u. length (own_properties u.body)) count_is (n ∷ all_places placed n) (t ∷ bases_of ds t) chain in
      λ j. twice_faults t.name (first_name (twice j)) ++ unless (not (nat_lt property_limit (count j))) too_large

  faults_are : (n : ℕ) (t : DeclaredType) → slice_get ds n ≡ Some t → first_fault (base_faults_at placed (found_base ds find t.body) t.name n) ≡ first_fault (base_faults ds t)
  faults_are n t at =
      let inherited = inherited_faults_at placed t.name n (all_places placed n) in
      ap (λ faults. first_fault (faults ++ inherited)) (chain_faults_are n t at)
      ∙ first_behind (chain_faults ds t) inherited (inherited_faults ds t) (inherited_faults_are n t at)

  faults_from_are : (k : ℕ) (ts : List DeclaredType) → ((i : ℕ) → slice_get ts i ≡ slice_get ds (k + i))
      → first_fault (faults_from placed k (map (λ t. found_base ds find t.body) ts) (map (at_indexes ds find indexed) ts)) ≡ first_fault (flat_map (base_faults ds) ts)
  faults_from_are k [] same = refl
  faults_from_are k (t ∷ ts) same =
      let here : k + 0 ≡ k = omega arith in
      let at : slice_get ds k ≡ Some t = ap (slice_get ds) (sym here) ∙ sym (same 0) in
      first_of_both (base_faults_at placed (found_base ds find t.body) t.name k)
      (faults_from placed (suc k) (map (λ t. found_base ds find t.body) ts) (map (at_indexes ds find indexed) ts))
      (base_faults ds t)
      (flat_map (base_faults ds) ts)
      (faults_are k t at)
      (faults_from_are (suc k) ts later)
    where
      later : (i : ℕ) → slice_get ts i ≡ slice_get ds (suc k + i)
      later i =
          let moved : k + suc i ≡ suc k + i = omega arith in
          same (suc i) ∙ ap (slice_get ds) moved

  -- the first fault by indexes is that of the definitions
  pub all_faults : first_fault (faults_from placed 0 (map (λ t. found_base ds find t.body) ds) placed) ≡ first_fault (all_base_faults ds)
  all_faults = faults_from_are 0 ds from_front
    where
      from_front : (i : ℕ) → slice_get ds i ≡ slice_get ds (0 + i)
      from_front i =
          let here : i ≡ 0 + i = omega arith in
          ap (slice_get ds) here
