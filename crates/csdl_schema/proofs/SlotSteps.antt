-- Slots along a chain of bases.
use Rattle.std.proofs.Common.{◌≡◌, ◌≢◌, ℕ, zero, suc, ◌+◌, ◌<◌, ◌≤◌, List, [], ◌∷◌, ◌++◌, length, map, Option, Some, None, option_map, slice_get, position, Bool, true, false, cond, nat_eq, refl, sym, ap, subst, ◌∙◌, arith, inl, inr, ◌⊎◌}
use Rattle.std.specs.Prelude.{option_and_then}
use Rattle.std.specs.List.{AllByRecursion, position_from}
use Rattle.std.specs.Cmp.Lexicographic.{pointwise}
use Rattle.std.proofs.lemmas.Iterator.Adapters.{position_from-zero}
use Rattle.std.proofs.lemmas.List.{length-append}
use Rattle.std.proofs.lemmas.Slice.Eq.{bytes_eq-Decides}
use Rattle.csdl_schema.specs.declared.chain.Chain.{Chain}
use Rattle.csdl_schema.specs.declared.property.Property.{Property}
use Rattle.csdl_schema.specs.SchemaModel.{PropertyModel, SchemaModel, properties_at, slot_named, name_in, HasDistinctNames}
use Rattle.csdl_schema.specs.BaseFaults.{property_limit}
use Rattle.csdl_schema.specs.private.Placed.{PlacedType, PlacedBody, placed_structured, placed_enumeration, placed_definition, placed_base, placed_own, own_of, base_at, own_at}
use Rattle.csdl_schema.specs.private.SchemaView.{chain_in, model_of, names_of, property_model, inherited_properties, IsBaseBelow, IsChainedBody, AreChained}
use Rattle.csdl_schema.specs.private.Slots.{own_slot_in, if_structured, structured_in, BeginsWith}
use Rattle.csdl_schema.proofs.Placing.{length-map, position-map}

-- the first one that is found
abbrev pub earlier : Option ℕ → Option ℕ → Option ℕ
earlier None other = other
earlier (Some slot) other = Some slot

-- how far up a chain may still go
abbrev pub bases_left : List Chain → Option ℕ → ℕ
bases_left chains None = 0
bases_left chains (Some n) = suc (chain_in chains n).bases

-- ---- lists side by side

shifted : {X : Type 0} (test : X → Bool) (k : ℕ) (xs : List X) → position_from test k xs ≡ option_map (λ i. k + i) (position_from test 0 xs)
shifted test k [] = refl
shifted {X} test k (x ∷ xs) = by (test x) (shifted test (k + 1) xs) (shifted test (0 + 1) xs)
  where
    plus_zero : k ≡ k + 0
    plus_zero = omega arith

    moved : (i : ℕ) → k + 1 + i ≡ k + (0 + 1 + i)
    moved i = omega arith

    again : (o : Option ℕ) → option_map (λ i. k + 1 + i) o ≡ option_map (λ i. k + i) (option_map (λ i. 0 + 1 + i) o)
    again None = refl
    again (Some i) = ap Some (moved i)

    by : (b : Bool) → position_from test (k + 1) xs ≡ option_map (λ i. k + 1 + i) (position_from test 0 xs) → position_from test (0 + 1) xs ≡ option_map (λ i. 0 + 1 + i) (position_from test 0 xs)
        → cond b (Some k) (position_from test (k + 1) xs) ≡ option_map (λ i. k + i) (cond b (Some 0) (position_from test (0 + 1) xs))
    by true here there = ap Some plus_zero
    by false here there = here ∙ again (position_from test 0 xs) ∙ ap (option_map (λ i. k + i)) (sym there)

from_append : {X : Type 0} (test : X → Bool) (k : ℕ) (xs ys : List X) → position_from test k (xs ++ ys) ≡ earlier (position_from test k xs) (position_from test (k + length xs) ys)
from_append test k [] ys =
    let here : k ≡ k + 0 = omega arith in
    ap (λ m. position_from test m ys) here
from_append test k (x ∷ xs) ys = by (test x) (from_append test (k + 1) xs ys)
  where
    moved : k + 1 + length xs ≡ k + suc (length xs)
    moved = omega arith

    by : (b : Bool) → position_from test (k + 1) (xs ++ ys) ≡ earlier (position_from test (k + 1) xs) (position_from test (k + 1 + length xs) ys)
        → cond b (Some k) (position_from test (k + 1) (xs ++ ys)) ≡ earlier (cond b (Some k) (position_from test (k + 1) xs)) (position_from test (k + suc (length xs)) ys)
    by true later = refl
    by false later = later ∙ ap (λ m. earlier (position_from test (k + 1) xs) (position_from test m ys)) moved

position_append : {X : Type 0} (test : X → Bool) (xs ys : List X) → position test (xs ++ ys) ≡ earlier (position test xs) (option_map (λ i. length xs + i) (position test ys))
position_append test xs ys =
    let here : 0 + length xs ≡ length xs = omega arith in
    position_from-zero test (xs ++ ys)
    ∙ from_append test 0 xs ys
    ∙ ap (λ m. earlier (position_from test 0 xs) (position_from test m ys)) here
    ∙ ap (λ o. earlier o (position_from test (length xs) ys)) (sym (position_from-zero test xs))
    ∙ ap (earlier (position test xs)) (shifted test (length xs) ys ∙ ap (option_map (λ i. length xs + i)) (sym (position_from-zero test ys)))

pub earlier_none : (a : Option ℕ) → earlier a None ≡ a
earlier_none None = refl
earlier_none (Some x) = refl

none_passes : {X : Type 0} (test : X → Bool) (k : ℕ) (xs : List X) → AllByRecursion (λ x. test x ≡ false) xs → position_from test k xs ≡ None
none_passes test k [] all = refl
none_passes test k (x ∷ xs) all = ap (λ b. cond b (Some k) (position_from test (k + 1) xs)) all.0 ∙ none_passes test (k + 1) xs all.1

-- ---- a name stands once

unlike : (name other : List ℕ) → other ≢ name → pointwise nat_eq name other ≡ false
unlike name other differ = by (pointwise nat_eq name other) refl
  where
    by : (same : Bool) → pointwise nat_eq name other ≡ same → same ≡ false
    by true is = absurd (differ (sym ((bytes_eq-Decides name other).0 is)))
    by false is = refl

later_unlike : (name : List ℕ) (ps qs : List PropertyModel) → AllByRecursion (λ q. q.name ≢ name) (ps ++ qs) → AllByRecursion (λ q. pointwise nat_eq name q.name ≡ false) qs
later_unlike name [] [] all = tt
later_unlike name [] (q ∷ qs) all = (unlike name q.name all.0, later_unlike name [] qs all.1)
later_unlike name (p ∷ ps) qs all = later_unlike name ps qs all.1

-- where a later property has the name, no earlier one has it
none_earlier : (name : List ℕ) (k : ℕ) (ps qs : List PropertyModel) → HasDistinctNames (ps ++ qs) → slot_named qs name ≢ None → position_from (λ p. pointwise nat_eq name p.name) k ps ≡ None
none_earlier name k [] qs distinct some = refl
none_earlier name k (p ∷ ps) qs distinct some = by (pointwise nat_eq name p.name) refl (none_earlier name (k + 1) ps qs distinct.1 some)
  where
    test : PropertyModel → Bool
    test = λ q. pointwise nat_eq name q.name

    none_later : name ≡ p.name → slot_named qs name ≡ None
    none_later is =
        let others : AllByRecursion (λ q. q.name ≢ name) (ps ++ qs) = subst (λ asked. AllByRecursion (λ q. q.name ≢ asked) (ps ++ qs)) (sym is) distinct.0 in
        position_from-zero test qs ∙ none_passes test 0 qs (later_unlike name ps qs others)

    by : (b : Bool) → pointwise nat_eq name p.name ≡ b → position_from test (k + 1) ps ≡ None → cond b (Some k) (position_from test (k + 1) ps) ≡ None
    by true is further = absurd (some (none_later ((bytes_eq-Decides name p.name).0 is)))
    by false is further = further

pub in_front : {X : Type 0} (xs ys : List X) (n : ℕ) → n < length xs → slice_get (xs ++ ys) n ≡ slice_get xs n
in_front [] ys n h = absurd (omega (arith, h))
in_front (x ∷ xs) ys zero h = refl
in_front (x ∷ xs) ys (suc n) h =
    let lower : n < length xs = omega (arith, h) in
    in_front xs ys n lower

pub behind : {X : Type 0} (xs ys : List X) (n m : ℕ) → n ≡ length xs + m → slice_get (xs ++ ys) n ≡ slice_get ys m
behind [] ys n m is =
    let same : n ≡ m = omega (arith, is) in
    ap (slice_get ys) same
behind (x ∷ xs) ys zero m is = absurd (omega (arith, is))
behind (x ∷ xs) ys (suc n) m is =
    let lower : n ≡ length xs + m = omega (arith, is) in
    behind xs ys n m lower

-- ---- chains

module _ (types : List PlacedType) (chains : List Chain) (h : AreChained types chains) where
  abbrev pub M : SchemaModel
  M = model_of types

  abbrev pub own_models : ℕ → List PropertyModel
  own_models n = map (property_model (name_in (names_of types))) (own_at types n)

  -- a type's slots are those of its base, and its own
  pub joined : (n : ℕ) → properties_at M n ≡ inherited_properties M (base_at types n) ++ own_models n
  joined n = by (slice_get types n) refl
    where
      body_of : (body : PlacedBody) → IsChainedBody types chains n body → properties_at M n ≡ inherited_properties M (placed_base body) ++ map (property_model (name_in (names_of types))) (placed_own body)
      body_of (placed_structured is_entity base own) is = is.properties
      body_of (placed_enumeration e) is = is
      body_of (placed_definition p) is = is

      by : (o : Option PlacedType) → slice_get types n ≡ o → properties_at M n ≡ inherited_properties M (base_at types n) ++ own_models n
      by None at =
          let Q : Option PlacedType → Type 0 = λ o. properties_at M n ≡ inherited_properties M (option_and_then (λ t. placed_base t.body) o) ++ map (property_model (name_in (names_of types))) (own_of o) in
          subst Q (sym at) (h.past_end n at)
      by (Some t) at =
          let Q : Option PlacedType → Type 0 = λ o. properties_at M n ≡ inherited_properties M (option_and_then (λ t. placed_base t.body) o) ++ map (property_model (name_in (names_of types))) (own_of o) in
          subst Q (sym at) (body_of t.body (h.chained n t at))

  -- a type with properties or a base knows how many slots it inherits, and has more bases than its base
  pub record IsHeir (n : ℕ) : Type 0 where
    pub inherited : (chain_in chains n).inherited ≡ length (inherited_properties M (base_at types n))
    pub below : IsBaseBelow chains n (base_at types n)

  pub record IsBare (n : ℕ) : Type 0 where
    pub none : properties_at M n ≡ []
    pub own : own_at types n ≡ []
    pub base : base_at types n ≡ None

  pub heir_or_bare : (n : ℕ) → IsHeir n ⊎ IsBare n
  heir_or_bare n = by (slice_get types n) refl
    where
      body_of : (body : PlacedBody) → IsChainedBody types chains n body → base_at types n ≡ placed_base body → own_at types n ≡ placed_own body → IsHeir n ⊎ IsBare n
      body_of (placed_structured is_entity base own) is of_base of_own =
          inl (record {
            inherited = is.inherited ∙ ap (λ o. length (inherited_properties M o)) (sym of_base);
            below = subst (λ o. IsBaseBelow chains n o) (sym of_base) is.below;
          })
      body_of (placed_enumeration e) is of_base of_own = inr (record { none = is; own = of_own; base = of_base })
      body_of (placed_definition p) is of_base of_own = inr (record { none = is; own = of_own; base = of_base })

      by : (o : Option PlacedType) → slice_get types n ≡ o → IsHeir n ⊎ IsBare n
      by None at = inr (record { none = h.past_end n at; own = ap own_of at; base = ap (option_and_then (λ t. placed_base t.body)) at })
      by (Some t) at = body_of t.body (h.chained n t at) (ap (option_and_then (λ t. placed_base t.body)) at) (ap own_of at)

  -- ---- by name

  own_named : (n : ℕ) (name : List ℕ) → slot_named (own_models n) name ≡ position (λ e. pointwise nat_eq name e.0) (own_at types n)
  own_named n name = position-map (property_model (name_in (names_of types))) (λ p. pointwise nat_eq name p.name) (own_at types n)

  -- the slot of a name, among the base's and the own ones
  pub slot_step : (n : ℕ) (name : List ℕ) → slot_named (properties_at M n) name ≡ earlier (slot_named (inherited_properties M (base_at types n)) name) (own_slot_in types chains n name)
  slot_step n name = by (heir_or_bare n)
    where
      by : IsHeir n ⊎ IsBare n → slot_named (properties_at M n) name ≡ earlier (slot_named (inherited_properties M (base_at types n)) name) (own_slot_in types chains n name)
      by (inl is) =
          ap (λ ps. slot_named ps name) (joined n)
          ∙ position_append (λ p. pointwise nat_eq name p.name) (inherited_properties M (base_at types n)) (own_models n)
          ∙ (λ j. earlier (slot_named (inherited_properties M (base_at types n)) name) (option_map (λ i. sym is.inherited j + i) (own_named n name j)))
      by (inr is) =
          let Q : Option ℕ → List (List ℕ × Property) → Type 0 = λ o own. None ≡ earlier (slot_named (inherited_properties M o) name) (option_map (λ i. (chain_in chains n).inherited + i) (position (λ e. pointwise nat_eq name e.0) own)) in
          ap (λ ps. slot_named ps name) is.none ∙ subst (λ own. Q (base_at types n) own) (sym is.own) (subst (λ o. Q o []) (sym is.base) refl)

  -- the slot of a name that no own property has is that of the base's
  pub base_slot : (n : ℕ) (name : List ℕ) → own_slot_in types chains n name ≡ None → slot_named (inherited_properties M (base_at types n)) name ≡ slot_named (properties_at M n) name
  base_slot n name none = sym (slot_step n name ∙ ap (earlier (slot_named (inherited_properties M (base_at types n)) name)) none ∙ earlier_none _)

  -- and of a name that an own property has it is the own one
  pub own_slot_alone : (n slot : ℕ) (name : List ℕ) → own_slot_in types chains n name ≡ Some slot → slot_named (properties_at M n) name ≡ Some slot
  own_slot_alone n slot name is =
      let base = inherited_properties M (base_at types n) in
      let none : slot_named base name ≡ None = position_from-zero (λ p. pointwise nat_eq name p.name) base ∙ none_earlier name 0 base (own_models n) (subst HasDistinctNames (joined n) (h.distinct n)) some in
      slot_step n name ∙ ap (λ o. earlier o (own_slot_in types chains n name)) none ∙ is
    where
      some : slot_named (own_models n) name ≢ None
      some none =
          let found : None ≡ Some slot = sym (ap (option_map (λ i. (chain_in chains n).inherited + i)) (sym (own_named n name) ∙ none)) ∙ is in
          absurd (cc)

  pub left_step : (n : ℕ) → bases_left chains (base_at types n) < bases_left chains (Some n)
  left_step n = by (heir_or_bare n)
    where
      of_base : (o : Option ℕ) → IsBaseBelow chains n o → bases_left chains o < suc (chain_in chains n).bases
      of_base None below = omega arith
      of_base (Some b) below = omega (arith, below)

      by : IsHeir n ⊎ IsBare n → bases_left chains (base_at types n) < suc (chain_in chains n).bases
      by (inl is) = of_base (base_at types n) is.below
      by (inr is) = subst (λ o. bases_left chains o < suc (chain_in chains n).bases) (sym is.base) (of_base None tt)

  -- ---- by slot

  -- a slot below those of a type's own is one of its base
  pub record IsOfBase (n slot base : ℕ) : Type 0 where
    pub front : BeginsWith (properties_at M n) (properties_at M base)
    pub within : slot < length (properties_at M base)
    pub below : (chain_in chains base).bases < (chain_in chains n).bases

  pub of_base : (n slot base : ℕ) → base_at types n ≡ Some base → slot < (chain_in chains n).inherited → IsOfBase n slot base
  of_base n slot base is inherits = by (heir_or_bare n)
    where
      by : IsHeir n ⊎ IsBare n → IsOfBase n slot base
      by (inl heir) =
          let many : (chain_in chains n).inherited ≡ length (properties_at M base) = heir.inherited ∙ ap (λ o. length (inherited_properties M o)) is in
          let within : slot < length (properties_at M base) = omega (arith, inherits, many) in
          let whole : properties_at M n ≡ properties_at M base ++ own_models n = joined n ∙ ap (λ o. inherited_properties M o ++ own_models n) is in
          record {
            front = (own_models n, whole);
            within = within;
            below = subst (λ o. IsBaseBelow chains n o) is heir.below;
          }
      by (inr bare) =
          let clash : None ≡ Some base = sym bare.base ∙ is in
          absurd (cc)

  -- a type without a base inherits no slot
  pub none_inherited : (n slot : ℕ) → base_at types n ≡ None → slot < length (properties_at M n) → (chain_in chains n).inherited ≡ 0
  none_inherited n slot is within = by (heir_or_bare n)
    where
      by : IsHeir n ⊎ IsBare n → (chain_in chains n).inherited ≡ 0
      by (inl heir) = heir.inherited ∙ ap (λ o. length (inherited_properties M o)) is
      by (inr bare) =
          let none : length (properties_at M n) ≡ 0 = ap length bare.none in
          absurd (omega (arith, within, none))

  -- the own property at a slot
  pub own_slot_is : (n slot own : ℕ) → slot < length (properties_at M n) → slot ≡ (chain_in chains n).inherited + own → slice_get (properties_at M n) slot ≡ slice_get (own_models n) own
  own_slot_is n slot own within is = by (heir_or_bare n)
    where
      by : IsHeir n ⊎ IsBare n → slice_get (properties_at M n) slot ≡ slice_get (own_models n) own
      by (inl heir) =
          let split : slot ≡ length (inherited_properties M (base_at types n)) + own = is ∙ ap (λ k. k + own) heir.inherited in
          ap (λ ps. slice_get ps slot) (joined n) ∙ behind (inherited_properties M (base_at types n)) (own_models n) slot own split
      by (inr bare) =
          let none : length (properties_at M n) ≡ 0 = ap length bare.none in
          absurd (omega (arith, within, none))

  -- how many slots there are
  pub slots_count : (n : ℕ) → IsHeir n → length (properties_at M n) ≡ (chain_in chains n).inherited + length (own_at types n)
  slots_count n heir =
      ap length (joined n)
      ∙ length-append (inherited_properties M (base_at types n)) (own_models n)
      ∙ (λ j. sym heir.inherited j + length-map (property_model (name_in (names_of types))) (own_at types n) j)

  in_body : (b c : PlacedBody) → if_structured b ≡ Some c → b ≡ c
  in_body (placed_structured is_entity base own) c is = let same : placed_structured is_entity base own ≡ c = cc in same
  in_body (placed_enumeration e) c is = absurd (cc)
  in_body (placed_definition p) c is = absurd (cc)

  heir_of : (n : ℕ) (b c : PlacedBody) → if_structured b ≡ Some c → IsChainedBody types chains n b → base_at types n ≡ placed_base b → IsHeir n
  heir_of n (placed_structured is_entity base own) c is chained of_base = record {
    inherited = chained.inherited ∙ ap (λ o. length (inherited_properties M o)) (sym of_base);
    below = subst (λ o. IsBaseBelow chains n o) (sym of_base) chained.below;
  }
  heir_of n (placed_enumeration e) c is chained of_base = absurd (cc)
  heir_of n (placed_definition p) c is chained of_base = absurd (cc)

  -- an entity or complex type knows how many slots it inherits, and its own properties are those of its body
  pub of_structured : (n : ℕ) (b : PlacedBody) → structured_in types n ≡ Some b → IsHeir n × (own_at types n ≡ placed_own b)
  of_structured n b is = by (slice_get types n) refl is
    where
      by : (o : Option PlacedType) → slice_get types n ≡ o → option_and_then (λ t. if_structured t.body) o ≡ Some b → IsHeir n × (own_at types n ≡ placed_own b)
      by None at here = absurd (cc)
      by (Some t) at here = (
        heir_of n t.body b here (h.chained n t at) (ap (option_and_then (λ t. placed_base t.body)) at),
        ap own_of at ∙ ap placed_own (in_body t.body b here),
      )

  -- so many slots fit
  pub slots_fit : (n : ℕ) (b : PlacedBody) → structured_in types n ≡ Some b → (chain_in chains n).inherited + length (placed_own b) ≤ property_limit
  slots_fit n b is =
      let found = of_structured n b is in
      let count : length (properties_at M n) ≡ (chain_in chains n).inherited + length (own_at types n) = slots_count n found.0 in
      let own : length (own_at types n) ≡ length (placed_own b) = ap length found.1 in
      let small : length (properties_at M n) ≤ property_limit = h.small n in
      omega (arith, count, own, small)
