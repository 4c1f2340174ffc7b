-- Pieces of the slots of a type: what one type of its chain has itself, from a slot on.
use Rattle.std.proofs.Common.{◌≡◌, ℕ, zero, suc, ◌+◌, ◌<◌, ◌≤◌, List, [], ◌∷◌, ◌++◌, length, map, drop, slice_get, refl, sym, ap, subst, ◌∙◌, arith, inl, inr, ◌⊎◌, append_assoc}
use Rattle.std.specs.List.{AllByRecursion}
use Rattle.std.proofs.lemmas.List.{drop-map}
use Rattle.csdl_schema.specs.declared.chain.Chain.{Chain}
use Rattle.csdl_schema.specs.declared.property.Property.{Property}
use Rattle.csdl_schema.specs.PropertyView.{AreFirstOf}
use Rattle.csdl_schema.specs.SchemaModel.{PropertyModel, properties_at, name_in}
use Rattle.csdl_schema.specs.private.Placed.{PlacedType, base_at, own_at}
use Rattle.csdl_schema.specs.private.SchemaView.{chain_in, inherited_properties, model_of, names_of, property_model, AreChained, IsThere}
use Rattle.csdl_schema.specs.private.Slots.{BeginsWith}
use Rattle.csdl_schema.proofs.LookUps.{read_as}
use Rattle.csdl_schema.proofs.SlotSteps.{in_front, heir_or_bare, joined, own_models, slots_count, IsHeir, IsBare}

-- what begins with a list begins with the front of that
pub begins_further : (all front less : List PropertyModel) → BeginsWith all front → BeginsWith front less → BeginsWith all less
begins_further all front less (rest, is) (more, same) =
    (more ++ rest, is ∙ ap (λ ps. ps ++ rest) same ∙ append_assoc less more rest)

-- at a slot of the front stands the same
pub same_in_front : (all front : List PropertyModel) (slot : ℕ) → BeginsWith all front → slot < length front → slice_get front slot ≡ slice_get all slot
same_in_front all front slot (rest, is) within = sym (ap (λ ps. slice_get ps slot) is ∙ in_front front rest slot within)

drop_front : {X : Type 0} (xs ys : List X) (n : ℕ) → n ≤ length xs → drop n (xs ++ ys) ≡ drop n xs ++ ys
drop_front [] ys zero h = refl
drop_front [] ys (suc n) h = absurd (omega (arith, h))
drop_front (x ∷ xs) ys zero h = refl
drop_front (x ∷ xs) ys (suc n) h =
    let lower : n ≤ length xs = omega (arith, h) in
    drop_front xs ys n lower

drop_behind : {X : Type 0} (xs ys : List X) (n m : ℕ) → n ≡ length xs + m → drop n (xs ++ ys) ≡ drop m ys
drop_behind [] ys n m is =
    let same : n ≡ m = omega (arith, is) in
    ap (λ k. drop k ys) same
drop_behind (x ∷ xs) ys zero m is = absurd (omega (arith, is))
drop_behind (x ∷ xs) ys (suc n) m is =
    let lower : n ≡ length xs + m = omega (arith, is) in
    drop_behind xs ys n m lower

all_dropped : {X : Type 0} (P : X → Type 0) (xs : List X) (n : ℕ) → AllByRecursion P xs → AllByRecursion P (drop n xs)
all_dropped P xs zero each = each
all_dropped P [] (suc n) each = each
all_dropped P (x ∷ xs) (suc n) each = all_dropped P xs n each.1

module _ (types : List PlacedType) where
  -- entries whose kinds point to what is there are the first of their models
  first_of : (es : List (List ℕ × Property)) (rest : List PropertyModel) → AllByRecursion (λ e. IsThere (model_of types) e.1) es
      → AreFirstOf (model_of types) (map (property_model (name_in (names_of types))) es ++ rest) es
  first_of [] rest each = tt
  first_of (e ∷ es) rest each = (refl, read_as types e.0 e.1 each.0, first_of es rest each.1)

  module _ (chains : List Chain) (h : AreChained types chains) where
    -- the slots from one of a type's own on are its own properties from there on
    own_from : (n slot own : ℕ) → slot < length (properties_at (model_of types) n) → slot ≡ (chain_in chains n).inherited + own
        → drop slot (properties_at (model_of types) n) ≡ map (property_model (name_in (names_of types))) (drop own (own_at types n))
    own_from n slot own within is = by (heir_or_bare types chains h n)
      where
        by : IsHeir types chains h n ⊎ IsBare types chains h n → drop slot (properties_at (model_of types) n) ≡ map (property_model (name_in (names_of types))) (drop own (own_at types n))
        by (inl heir) =
            let split : slot ≡ length (inherited_properties (model_of types) (base_at types n)) + own = is ∙ ap (λ k. k + own) heir.inherited in
            ap (drop slot) (joined types chains h n)
            ∙ drop_behind (inherited_properties (model_of types) (base_at types n)) (own_models types chains h n) slot own split
            ∙ drop-map (property_model (name_in (names_of types))) own (own_at types n)
        by (inr bare) =
            let none : length (properties_at (model_of types) n) ≡ 0 = ap length bare.none in
            absurd (omega (arith, within, none))

    -- those of a type whose slots are the first of another's
    pub piece_from : (n owner slot own : ℕ) → BeginsWith (properties_at (model_of types) n) (properties_at (model_of types) owner)
        → slot < length (properties_at (model_of types) owner) → slot ≡ (chain_in chains owner).inherited + own
        → AreFirstOf (model_of types) (drop slot (properties_at (model_of types) n)) (drop own (own_at types owner))
    piece_from n owner slot own (rest, is) within split =
        let inside : slot ≤ length (properties_at (model_of types) owner) = omega (arith, within) in
        let same : drop slot (properties_at (model_of types) n) ≡ map (property_model (name_in (names_of types))) (drop own (own_at types owner)) ++ rest =
        ap (drop slot) is ∙ drop_front (properties_at (model_of types) owner) rest slot inside ∙ ap (λ ps. ps ++ rest) (own_from owner slot own within split) in
        subst (λ ps. AreFirstOf (model_of types) ps (drop own (own_at types owner))) (sym same)
        (first_of (drop own (own_at types owner)) rest (all_dropped (λ e. IsThere (model_of types) e.1) (own_at types owner) own (h.kinds owner)))

    -- a slot of a type is after what it inherits, and before the end of its own
    pub own_within : (n slot own : ℕ) → slot < length (properties_at (model_of types) n) → slot ≡ (chain_in chains n).inherited + own → own < length (own_at types n)
    own_within n slot own within is = by (heir_or_bare types chains h n)
      where
        by : IsHeir types chains h n ⊎ IsBare types chains h n → own < length (own_at types n)
        by (inl heir) =
            let count = slots_count types chains h n heir in
            omega (arith, within, is, count)
        by (inr bare) =
            let none : length (properties_at (model_of types) n) ≡ 0 = ap length bare.none in
            absurd (omega (arith, within, none))
