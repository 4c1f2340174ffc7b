-- What the counts of bases and the first name that stands twice say of chains.
use Rattle.std.proofs.Common.{◌≡◌, ℕ, zero, suc, ◌<◌, ◌≤◌, ◌+◌, ◌⊎◌, inl, inr, List, [], ◌∷◌, ◌++◌, length, filter, Option, Some, None, slice_get, Bool, true, false, cond, ◌||◌, nat_eq, refl, sym, ap, subst, ◌∙◌, arith, Less, Equal, Greater, Ordering}
use Rattle.std.specs.Prelude.{option_and_then}
use Rattle.std.specs.List.{list_any, flat_map}
use Rattle.std.specs.Ordering.{nat_cmp, ordering_reverse, match_ordering}
use Rattle.std.specs.Cmp.Lexicographic.{pointwise, slice_cmp}
use Rattle.std.proofs.lemmas.Cmp.{nat_list_cmp_total}
use Rattle.std.proofs.lemmas.Map.Lookups.{exact_bytes}
use Rattle.std.proofs.lemmas.Slice.Eq.{bytes_eq-Decides}
use Rattle.csdl_declarations.specs.DeclaredType.{TypeBody, DeclaredType, structured, enumeration, definition}
use Rattle.csdl_schema.specs.Resolution.{base_of, base_of_body, base_named, goes_by, if_structured_as, is_structured_as, type_by_name}
use Rattle.csdl_schema.specs.BaseFaults.{onto, bases_within, bases_of, own_names, owns, names_again, names_twice, lesser_name, first_name}
use Rattle.csdl_schema.specs.TypeMembers.{IsBaseChain, IsOwnedTwice}

-- ---- bases are types of the document

record IsThere (types : List DeclaredType) (t : DeclaredType) : Type 0 where
  place : ℕ
  at : slice_get types place ≡ Some t

there_later : (v : DeclaredType) (types : List DeclaredType) (t : DeclaredType) → IsThere types t → IsThere (v ∷ types) t
there_later v types t h = record { place = suc h.place; at = h.at }

named_there : (types : List DeclaredType) (asked : List ℕ) (u : DeclaredType) → type_by_name types asked ≡ Some u → IsThere types u
named_there [] asked u is = absurd (cc)
named_there (v ∷ types) asked u is = by (goes_by v asked) refl is (λ later. named_there types asked u later)
  where
    by : (b : Bool) → goes_by v asked ≡ b → cond b (Some v) (type_by_name types asked) ≡ Some u → (type_by_name types asked ≡ Some u → IsThere types u) → IsThere (v ∷ types) u
    by true goes found further = record { place = 0; at = found }
    by false goes found further = there_later v types u (further found)

kind_kept : (is_entity : Bool) (o : Option DeclaredType) (u : DeclaredType) → option_and_then (if_structured_as is_entity) o ≡ Some u → o ≡ Some u
kind_kept is_entity None u is = absurd (cc)
kind_kept is_entity (Some v) u is = by (is_structured_as is_entity v.body) is
  where
    by : (b : Bool) → cond b (Some v) None ≡ Some u → Some v ≡ Some u
    by true found = found
    by false found = absurd (cc)

body_there : (types : List DeclaredType) (body : TypeBody) (u : DeclaredType) → base_of_body types body ≡ Some u → IsThere types u
body_there types (structured is_entity None properties) u is = absurd (cc)
body_there types (structured is_entity (Some text) properties) u is = named_there types text u (kind_kept is_entity (type_by_name types text) u is)
body_there types (enumeration e) u is = absurd (cc)
body_there types (definition underlying) u is = absurd (cc)

-- ---- a chain has fewer bases than there are types

-- 1 where the first is below the second
abbrev weight : ℕ → ℕ → ℕ
weight a zero = 0
weight zero (suc m) = 1
weight (suc a) (suc m) = weight a m

weight_grows : (a m : ℕ) → weight a m ≤ weight a (suc m)
weight_grows a zero = omega arith
weight_grows zero (suc m) = omega arith
weight_grows (suc a) (suc m) = weight_grows a m

weight_one : (a m : ℕ) → weight a m ≤ 1
weight_one a zero = omega arith
weight_one zero (suc m) = omega arith
weight_one (suc a) (suc m) = weight_one a m

weight_none : (m : ℕ) → weight m m ≡ 0
weight_none zero = refl
weight_none (suc m) = weight_none m

weight_here : (m : ℕ) → weight m (suc m) ≡ 1
weight_here zero = refl
weight_here (suc m) = weight_here m

module _ (height : DeclaredType → ℕ) where
  -- how many types are lower than that
  abbrev lower : ℕ → List DeclaredType → ℕ
  lower m [] = 0
  lower m (t ∷ ts) = weight (height t) m + lower m ts

  lower_grows : (m : ℕ) (ts : List DeclaredType) → lower m ts ≤ lower (suc m) ts
  lower_grows m [] = omega arith
  lower_grows m (t ∷ ts) =
      let here = weight_grows (height t) m in
      let later = lower_grows m ts in
      omega (arith, here, later)

  lower_within : (m : ℕ) (ts : List DeclaredType) → lower m ts ≤ length ts
  lower_within m [] = omega arith
  lower_within m (t ∷ ts) =
      let here = weight_one (height t) m in
      let later = lower_within m ts in
      omega (arith, here, later)

  lower_more : (ts : List DeclaredType) (n : ℕ) (t : DeclaredType) → slice_get ts n ≡ Some t → suc (lower (height t) ts) ≤ lower (suc (height t)) ts
  lower_more [] n t at = absurd (cc)
  lower_more (u ∷ ts) zero t at =
      let same : u ≡ t = cc in
      let none : weight (height u) (height t) ≡ 0 = ap (λ v. weight (height v) (height t)) same ∙ weight_none (height t) in
      let one : weight (height u) (suc (height t)) ≡ 1 = ap (λ v. weight (height v) (suc (height t))) same ∙ weight_here (height t) in
      let later = lower_grows (height t) ts in
      omega (arith, none, one, later)
  lower_more (u ∷ ts) (suc n) t at =
      let here = weight_grows (height u) (height t) in
      let later = lower_more ts n t at in
      omega (arith, here, later)

module _ (types : List DeclaredType) where
  -- as many bases as may be looked for are the chain
  within : (k : ℕ) (t : DeclaredType) (us : List DeclaredType) → IsBaseChain types t us → length us ≤ k → bases_within k types t ≡ us
  within zero t [] chain h = refl
  within zero t (u ∷ us) chain h = absurd (omega (arith, h))
  within (suc k) t [] chain h = ap (onto (bases_within k types)) chain
  within (suc k) t (u ∷ us) chain h =
      let fewer : length us ≤ k = omega (arith, h) in
      ap (onto (bases_within k types)) chain.0 ∙ ap (λ vs. u ∷ vs) (within k u us chain.1 fewer)

  module _ (k : ℕ) where
    abbrev height : DeclaredType → ℕ
    height t = length (bases_within k types t)

    height_is : (t : DeclaredType) (us : List DeclaredType) → IsBaseChain types t us → length us ≤ k → height t ≡ length us
    height_is t us chain h = ap length (within k t us chain h)

    climbs : (t : DeclaredType) (us : List DeclaredType) → IsThere types t → IsBaseChain types t us → length us ≤ k → suc (length us) ≤ lower height (suc (length us)) types
    climbs t [] there chain h =
        let level = height_is t [] chain h in
        let more = subst (λ m. suc (lower height m types) ≤ lower height (suc m) types) level (lower_more height types there.place t there.at) in
        omega (arith, more)
    climbs t (u ∷ us) there chain h =
        let fewer : length us ≤ k = omega (arith, h) in
        let below = climbs u us (body_there types t.body u chain.0) chain.1 fewer in
        let level = height_is t (u ∷ us) chain h in
        let more = subst (λ m. suc (lower height m types) ≤ lower height (suc m) types) level (lower_more height types there.place t there.at) in
        omega (arith, below, more)

  short : (t : DeclaredType) (us : List DeclaredType) → IsThere types t → IsBaseChain types t us → suc (length us) ≤ length types
  short t us there chain =
      let most : length us ≤ length us = omega arith in
      let climbed = climbs (length us) t us there chain most in
      let few = lower_within (height (length us)) (suc (length us)) types in
      omega (arith, climbed, few)

  whole : (t : DeclaredType) (us : List DeclaredType) → IsThere types t → IsBaseChain types t us → bases_of types t ≡ us
  whole t us there chain =
      let fewer = short t us there chain in
      let most : length us ≤ length types = omega (arith, fewer) in
      within (length types) t us chain most

  -- as many bases as there are types are no chain
  pub cyclic : (n : ℕ) (t : DeclaredType) (us : List DeclaredType) → slice_get types n ≡ Some t → length types ≤ length (bases_of types t) → IsBaseChain types t us → ⊥
  cyclic n t us at many chain =
      let there : IsThere types t = record { place = n; at = at } in
      let same : length (bases_of types t) ≡ length us = ap length (whole t us there chain) in
      let fewer = short t us there chain in
      omega (arith, many, same, fewer)

-- ---- names

abbrev StandsIn : List ℕ → List (List ℕ) → Type 0
StandsIn name [] = ⊥
StandsIn name (x ∷ xs) = (name ≡ x) ⊎ StandsIn name xs

in_front : (name : List ℕ) (xs ys : List (List ℕ)) → StandsIn name xs → StandsIn name (xs ++ ys)
in_front name [] ys h = absurd h
in_front name (x ∷ xs) ys (inl same) = inl same
in_front name (x ∷ xs) ys (inr h) = inr (in_front name xs ys h)

in_back : (name : List ℕ) (xs ys : List (List ℕ)) → StandsIn name ys → StandsIn name (xs ++ ys)
in_back name [] ys h = h
in_back name (x ∷ xs) ys h = inr (in_back name xs ys h)

in_either : (name : List ℕ) (xs ys : List (List ℕ)) → StandsIn name (xs ++ ys) → StandsIn name xs ⊎ StandsIn name ys
in_either name [] ys h = inr h
in_either name (x ∷ xs) ys (inl same) = inl (inl same)
in_either name (x ∷ xs) ys (inr h) = by (in_either name xs ys h)
  where
    by : StandsIn name xs ⊎ StandsIn name ys → StandsIn name (x ∷ xs) ⊎ StandsIn name ys
    by (inl front) = inl (inr front)
    by (inr back) = inr back

either_true : (a b : Bool) → (a || b) ≡ true → (a ≡ true) ⊎ (b ≡ true)
either_true true b h = inl refl
either_true false b h = inr h

or_true : (a b : Bool) → b ≡ true → (a || b) ≡ true
or_true true b h = refl
or_true false b h = h

in_any : (name : List ℕ) (xs : List (List ℕ)) → StandsIn name xs → list_any (pointwise nat_eq name) xs ≡ true
in_any name [] h = absurd h
in_any name (x ∷ xs) (inl same) = ap (λ b. b || list_any (pointwise nat_eq name) xs) ((bytes_eq-Decides name x).1 same)
in_any name (x ∷ xs) (inr h) = or_true (pointwise nat_eq name x) (list_any (pointwise nat_eq name) xs) (in_any name xs h)

any_in : (name : List ℕ) (xs : List (List ℕ)) → list_any (pointwise nat_eq name) xs ≡ true → StandsIn name xs
any_in name [] h = absurd (cc)
any_in name (x ∷ xs) h = by (either_true (pointwise nat_eq name x) (list_any (pointwise nat_eq name) xs) h) (λ later. any_in name xs later)
  where
    by : (pointwise nat_eq name x ≡ true) ⊎ (list_any (pointwise nat_eq name) xs ≡ true) → (list_any (pointwise nat_eq name) xs ≡ true → StandsIn name xs) → StandsIn name (x ∷ xs)
    by (inl same) further = inl ((bytes_eq-Decides name x).0 same)
    by (inr later) further = inr (further later)

kept_in : (test : List ℕ → Bool) (name : List ℕ) (xs : List (List ℕ)) → StandsIn name (filter test xs) → StandsIn name xs × (test name ≡ true)
kept_in test name [] h = absurd h
kept_in test name (x ∷ xs) h = by (test x) refl h (λ later. kept_in test name xs later)
  where
    by : (b : Bool) → test x ≡ b → StandsIn name (cond b (x ∷ filter test xs) (filter test xs)) → (StandsIn name (filter test xs) → StandsIn name xs × (test name ≡ true)) → StandsIn name (x ∷ xs) × (test name ≡ true)
    by true is (inl same) further = (inl same, ap test same ∙ is)
    by true is (inr later) further = (inr (further later).0, (further later).1)
    by false is later further = (inr (further later).0, (further later).1)

in_kept : (test : List ℕ → Bool) (name : List ℕ) (xs : List (List ℕ)) → StandsIn name xs → test name ≡ true → StandsIn name (filter test xs)
in_kept test name [] h passes = absurd h
in_kept test name (x ∷ xs) h passes = by (test x) refl h (λ later. in_kept test name xs later passes)
  where
    by : (b : Bool) → test x ≡ b → StandsIn name (x ∷ xs) → (StandsIn name xs → StandsIn name (filter test xs)) → StandsIn name (cond b (x ∷ filter test xs) (filter test xs))
    by true is (inl same) further = inl same
    by true is (inr later) further = inr (further later)
    by false is (inl same) further =
        let clash : true ≡ false = sym passes ∙ ap test same ∙ is in
        absurd (cc)
    by false is (inr later) further = further later

-- ---- the first of some names

not_below : (x : List ℕ) → slice_cmp nat_cmp x x ≡ Less → ⊥
not_below x below =
    let clash : Less ≡ Greater = sym below ∙ nat_list_cmp_total.antisymm x x ∙ ap ordering_reverse below in
    cc

-- a name that is there, and none below it
abbrev IsLeast : List ℕ → List (List ℕ) → Type 0
IsLeast name xs = StandsIn name xs × ((other : List ℕ) → StandsIn other xs → slice_cmp nat_cmp other name ≡ Less → ⊥)

no_first : (xs : List (List ℕ)) → first_name xs ≡ None → (other : List ℕ) → StandsIn other xs → ⊥
no_first [] none other h = h
no_first (x ∷ xs) none other h = by (first_name xs) none
  where
    compared : (y : List ℕ) (o : Ordering) → match_ordering o (Some x) (Some x) (Some y) ≡ None → ⊥
    compared y Less is = cc
    compared y Equal is = cc
    compared y Greater is = cc

    by : (o : Option (List ℕ)) → lesser_name x o ≡ None → ⊥
    by None is = cc
    by (Some y) is = compared y (slice_cmp nat_cmp x y) is

least : (xs : List (List ℕ)) (name : List ℕ) → first_name xs ≡ Some name → IsLeast name xs
least [] name is = absurd (cc)
least (x ∷ xs) name is = by (first_name xs) refl is (λ y some. least xs y some)
  where
    alone : first_name xs ≡ None → x ≡ name → IsLeast name (x ∷ xs)
    alone none same = (inl (sym same), lowest)
      where
        lowest : (other : List ℕ) → StandsIn other (x ∷ xs) → slice_cmp nat_cmp other name ≡ Less → ⊥
        lowest other (inl equal) below = not_below name (subst (λ v. slice_cmp nat_cmp v name ≡ Less) (equal ∙ same) below)
        lowest other (inr later) below = no_first xs none other later

    ahead : (y : List ℕ) → IsLeast y xs → slice_cmp nat_cmp x y ≡ Less → x ≡ name → IsLeast name (x ∷ xs)
    ahead y further lower same = (inl (sym same), lowest)
      where
        lowest : (other : List ℕ) → StandsIn other (x ∷ xs) → slice_cmp nat_cmp other name ≡ Less → ⊥
        lowest other (inl equal) below = not_below name (subst (λ v. slice_cmp nat_cmp v name ≡ Less) (equal ∙ same) below)
        lowest other (inr later) below = further.1 other later (nat_list_cmp_total.trans other name y below (subst (λ v. slice_cmp nat_cmp v y ≡ Less) same lower))

    level : (y : List ℕ) → IsLeast y xs → x ≡ y → x ≡ name → IsLeast name (x ∷ xs)
    level y further equal same = (inl (sym same), lowest)
      where
        lowest : (other : List ℕ) → StandsIn other (x ∷ xs) → slice_cmp nat_cmp other name ≡ Less → ⊥
        lowest other (inl is) below = not_below name (subst (λ v. slice_cmp nat_cmp v name ≡ Less) (is ∙ same) below)
        lowest other (inr later) below = further.1 other later (subst (λ v. slice_cmp nat_cmp other v ≡ Less) (sym same ∙ equal) below)

    behind : (y : List ℕ) → IsLeast y xs → slice_cmp nat_cmp x y ≡ Greater → y ≡ name → IsLeast name (x ∷ xs)
    behind y further above same = (inr (subst (λ v. StandsIn v xs) same further.0), lowest)
      where
        lowest : (other : List ℕ) → StandsIn other (x ∷ xs) → slice_cmp nat_cmp other name ≡ Less → ⊥
        lowest other (inl equal) below =
            let clash : Less ≡ Greater = sym below ∙ ap (λ v. slice_cmp nat_cmp v name) equal ∙ ap (slice_cmp nat_cmp x) (sym same) ∙ above in
            cc
        lowest other (inr later) below = further.1 other later (subst (λ v. slice_cmp nat_cmp other v ≡ Less) (sym same) below)

    compared : (y : List ℕ) → IsLeast y xs → (o : Ordering) → slice_cmp nat_cmp x y ≡ o → match_ordering o (Some x) (Some x) (Some y) ≡ Some name → IsLeast name (x ∷ xs)
    compared y further Less how found = ahead y further how (cc)
    compared y further Equal how found = level y further (exact_bytes x y how) (cc)
    compared y further Greater how found = behind y further how (cc)

    by : (o : Option (List ℕ)) → first_name xs ≡ o → lesser_name x o ≡ Some name → ((y : List ℕ) → first_name xs ≡ Some y → IsLeast y xs) → IsLeast name (x ∷ xs)
    by None none found further = alone none (cc)
    by (Some y) some found further = compared y (further y some) (slice_cmp nat_cmp x y) refl found

-- ---- names that stand twice

module _ (types : List DeclaredType) where
  again_of : (c : DeclaredType) (above : List DeclaredType) → IsThere types c → IsBaseChain types c above → names_again types c ≡ filter (λ name. list_any (owns name) above) (own_names c)
  again_of c above there chain = ap (λ us. filter (λ name. list_any (owns name) us) (own_names c)) (whole types c above there chain)

  twice_from : (name : List ℕ) (c : DeclaredType) (above : List DeclaredType) → IsThere types c → IsBaseChain types c above
      → (StandsIn name (flat_map (names_again types) above) → IsOwnedTwice name above)
      → StandsIn name (flat_map (names_again types) (c ∷ above)) → IsOwnedTwice name (c ∷ above)
  twice_from name c above there chain further h = by (in_either name (names_again types c) (flat_map (names_again types) above) h)
    where
      by : StandsIn name (names_again types c) ⊎ StandsIn name (flat_map (names_again types) above) → IsOwnedTwice name (c ∷ above)
      by (inl here) =
          let kept = kept_in (λ n. list_any (owns n) above) name (own_names c) (subst (StandsIn name) (again_of c above there chain) here) in
          inl (in_any name (own_names c) kept.0, kept.1)
      by (inr rest) = inr (further rest)

  twice_in : (name : List ℕ) (c : DeclaredType) (above : List DeclaredType) → IsThere types c → IsBaseChain types c above → StandsIn name (flat_map (names_again types) (c ∷ above)) → IsOwnedTwice name (c ∷ above)
  twice_in name c [] there chain h = twice_from name c [] there chain (λ none. none) h
  twice_in name c (u ∷ us) there chain h = twice_from name c (u ∷ us) there chain (λ some. twice_in name u us (body_there types c.body u chain.0) chain.1 some) h

  from_twice : (name : List ℕ) (c : DeclaredType) (above : List DeclaredType) → IsThere types c → IsBaseChain types c above
      → (IsOwnedTwice name above → StandsIn name (flat_map (names_again types) above))
      → IsOwnedTwice name (c ∷ above) → StandsIn name (flat_map (names_again types) (c ∷ above))
  from_twice name c above there chain further (inl here) =
      let kept = in_kept (λ n. list_any (owns n) above) name (own_names c) (any_in name (own_names c) here.0) here.1 in
      in_front name (names_again types c) (flat_map (names_again types) above) (subst (StandsIn name) (sym (again_of c above there chain)) kept)
  from_twice name c above there chain further (inr rest) = in_back name (names_again types c) (flat_map (names_again types) above) (further rest)

  in_twice : (name : List ℕ) (c : DeclaredType) (above : List DeclaredType) → IsThere types c → IsBaseChain types c above → IsOwnedTwice name (c ∷ above) → StandsIn name (flat_map (names_again types) (c ∷ above))
  in_twice name c [] there chain h = from_twice name c [] there chain (λ none. none) h
  in_twice name c (u ∷ us) there chain h = from_twice name c (u ∷ us) there chain (λ some. in_twice name u us (body_there types c.body u chain.0) chain.1 some) h

  -- the names twice are those of the chain
  twice_is : (c : DeclaredType) (above : List DeclaredType) → IsThere types c → IsBaseChain types c above → names_twice types c ≡ flat_map (names_again types) (c ∷ above)
  twice_is c above there chain = ap (λ us. flat_map (names_again types) (c ∷ us)) (whole types c above there chain)

  pub least_twice : (n : ℕ) (t : DeclaredType) (bases : List DeclaredType) (name : List ℕ) → slice_get types n ≡ Some t → IsBaseChain types t bases → first_name (names_twice types t) ≡ Some name
      → IsOwnedTwice name (t ∷ bases) × ((other : List ℕ) → IsOwnedTwice other (t ∷ bases) → slice_cmp nat_cmp other name ≡ Less → ⊥)
  least_twice n t bases name at chain is =
      let there : IsThere types t = record { place = n; at = at } in
      let found = least (flat_map (names_again types) (t ∷ bases)) name (ap first_name (sym (twice_is t bases there chain)) ∙ is) in
      (twice_in name t bases there chain found.0, λ other twice. found.1 other (in_twice other t bases there chain twice))

  pub none_twice : (n : ℕ) (t : DeclaredType) (bases : List DeclaredType) → slice_get types n ≡ Some t → IsBaseChain types t bases → first_name (names_twice types t) ≡ None
      → (name : List ℕ) → IsOwnedTwice name (t ∷ bases) → ⊥
  none_twice n t bases at chain none name twice =
      let there : IsThere types t = record { place = n; at = at } in
      no_first (flat_map (names_again types) (t ∷ bases)) (ap first_name (sym (twice_is t bases there chain)) ∙ none) name (in_twice name t bases there chain twice)
