-- Marks of all types of a plan: what changes when one type's marks do.
use Rattle.std.proofs.Common.{◌≡◌, ◌≢◌, ◌⊎◌, inl, inr, ⊎_elim, ℕ, zero, suc, ◌+◌, ◌<◌, List, [], ◌∷◌, length, map, false, Option, None, Some, IfSome, slice_get, slice_set, refl, sym, ap, ◌∙◌, subst, arith}
use Rattle.std.proofs.lemmas.Option.{slice_get_within}
use Rattle.csdl_schema.specs.SchemaModel.{HasDistinctNames, SchemaModel, properties_at}
use Rattle.edm_row_plans.specs.declared.row_plan.RowPlan.{RowPlan}
use Rattle.edm_row_plans.specs.declared.type_plan.TypePlan.{TypePlan}
use Rattle.edm_rows.specs.Alike.{Names}
use Rattle.edm_rows.specs.RowsOfType.{TypeMarks, names_unkept_by}
use Rattle.edm_rows.specs.declared.row_types.RowType.{RowType}
use Rattle.edm_rows.specs.private.HeldRows.{AreKept, AreSameTypes, AreTypesOf, HasFirstType, IsSameType, keeps_of, marks_at, marks_of}
use Rattle.edm_rows.specs.private.KeptRows.{names_unkept_in, names_unkept_of}
use Rattle.edm_rows.specs.private.RowSlots.{IsRowType}
use Rattle.edm_rows.proofs.Indexes.{both_at, each_at, other_kept, set_there}
use Rattle.edm_rows.proofs.KeptMembers.{same_number}
use Rattle.edm_rows.proofs.SlotMarks.{mapped_at}
use Rattle.edm_rows.proofs.TypesChanged.{same_both, same_self}

one_of : {X : Type 0} (x y : X) → Some x ≡ Some y → x ≡ y
one_of x y same = cc

-- ---- types that are the same but for their marks and sieves

pub all_same : (types : List RowType) → AreSameTypes types types
all_same [] = tt
all_same (t ∷ ts) = (same_self t, all_same ts)

-- one of them more is changed
pub one_changed : (first now : List RowType) (k : ℕ) (old new : RowType) → slice_get now k ≡ Some old → IsSameType old new → AreSameTypes first now → AreSameTypes first (slice_set now k new)
one_changed [] [] k old new at same all = tt
one_changed [] (n ∷ now) k old new at same all = absurd all
one_changed (f ∷ first) [] k old new at same all = absurd all
one_changed (f ∷ first) (n ∷ now) zero old new at same all =
    (same_both f n new all.0 (subst (λ (t : RowType). IsSameType t new) (sym (one_of n old at)) same), all.1)
one_changed (f ∷ first) (n ∷ now) (suc k) old new at same all = (all.0, one_changed first now k old new at same all.1)

-- each of them has the type that it had
pub same_ids : (olds news : List RowType) → AreSameTypes olds news → (k : ℕ) (new : RowType) → slice_get news k ≡ Some new → (old : RowType) × (slice_get olds k ≡ Some old) × (new.type_id ≡ old.type_id)
same_ids [] [] all k new at = absurd (cc)
same_ids [] (n ∷ news) all k new at = absurd all
same_ids (o ∷ olds) [] all k new at = absurd all
same_ids (o ∷ olds) (n ∷ news) all zero new at = (o, refl, ap (λ (t : RowType). t.type_id) (sym (one_of n new at)) ∙ all.0.type_id)
same_ids (o ∷ olds) (n ∷ news) all (suc k) new at = same_ids olds news all.1 k new at

pub same_count : (olds news : List RowType) → AreSameTypes olds news → length news ≡ length olds
same_count [] [] all = refl
same_count [] (n ∷ news) all = absurd all
same_count (o ∷ olds) [] all = absurd all
same_count (o ∷ olds) (n ∷ news) all = ap suc (same_count olds news all.1)

module _ (schema : SchemaModel) (plan : RowPlan) where
  abbrev OfPlan : TypePlan → RowType → Type 0
  OfPlan = IsRowType schema plan.expansion plan.plans.items

  of_plan : (old new : RowType) → IsSameType old new → (o : Option TypePlan) → IfSome o (λ p. OfPlan p old) → IfSome o (λ p. OfPlan p new)
  of_plan old new same None is = tt
  of_plan old new same (Some p) is = same.stays schema plan.expansion plan.plans.items p is

  each_of_plan : (olds news : List RowType) (at : ℕ → Option TypePlan) → AreSameTypes olds news → ((k : ℕ) → IfSome (slice_get olds k) (λ t. IfSome (at k) (λ p. OfPlan p t)))
      → (k : ℕ) → IfSome (slice_get news k) (λ t. IfSome (at k) (λ p. OfPlan p t))
  each_of_plan [] [] at all each zero = tt
  each_of_plan [] [] at all each (suc k) = tt
  each_of_plan [] (n ∷ news) at all each k = absurd all
  each_of_plan (o ∷ olds) [] at all each k = absurd all
  each_of_plan (o ∷ olds) (n ∷ news) at all each zero = of_plan o n all.0 (at 0) (each 0)
  each_of_plan (o ∷ olds) (n ∷ news) at all each (suc k) = each_of_plan olds news (λ j. at (suc j)) all.1 (λ j. each (suc j)) k

  first_of : (olds news : List RowType) → AreSameTypes olds news → HasFirstType plan olds → HasFirstType plan news
  first_of [] [] all first = first
  first_of [] (n ∷ news) all first = absurd all
  first_of (o ∷ olds) [] all first = absurd all
  first_of (o ∷ olds) (n ∷ news) all first =
      let here : o ≡ first.type = one_of o first.type first.at in
      record {
        type = n;
        at = refl;
        type_id = all.0.type_id ∙ ap (λ (t : RowType). t.type_id) here ∙ first.type_id;
        node = all.0.node ∙ ap (λ (t : RowType). t.node) here ∙ first.node;
      }

  -- they stay those of the plan
  pub all_changed : (olds news : List RowType) → AreSameTypes olds news → AreTypesOf schema plan olds → AreTypesOf schema plan news
  all_changed olds news all are = record {
    is_whole = are.is_whole;
    each = record { count = same_count olds news all ∙ are.each.count; each = each_of_plan olds news (slice_get plan.plans.items) all are.each.each };
    first = first_of olds news all are.first;
  }

  -- where there are some
  pub either_changed : (olds news : List RowType) → AreSameTypes olds news → (olds ≡ []) ⊎ AreTypesOf schema plan olds → (news ≡ []) ⊎ AreTypesOf schema plan news
  either_changed olds news all is =
      ⊎_elim (λ none. inl (none_stay news (subst (λ (l : List RowType). AreSameTypes l news) none all))) (λ are. inr (all_changed olds news all are)) is
    where
      none_stay : (l : List RowType) → AreSameTypes [] l → l ≡ []
      none_stay [] same = refl
      none_stay (t ∷ ts) same = absurd same

  -- the names of each are distinct
  pub each_distinct : (types : List RowType) → (types ≡ []) ⊎ AreTypesOf schema plan types → (k : ℕ) → IfSome (slice_get types k) (λ (t : RowType). HasDistinctNames (properties_at schema t.type_id))
  each_distinct types is =
      ⊎_elim (λ none k. subst (λ (l : List RowType). IfSome (slice_get l k) (λ (t : RowType). HasDistinctNames (properties_at schema t.type_id))) (sym none) (of_none k))
      (λ are k. both_at types plan.plans.items (λ t p. OfPlan p t) (λ (t : RowType). HasDistinctNames (properties_at schema t.type_id)) k are.each.count (are.each.each k)
      (λ t p of. subst (λ (i : ℕ). HasDistinctNames (properties_at schema i)) (sym of.of_type.0) of.is_plan.distinct))
      is
    where
      of_none : (k : ℕ) → IfSome (slice_get [] k) (λ (t : RowType). HasDistinctNames (properties_at schema t.type_id))
      of_none zero = tt
      of_none (suc k) = tt

-- ---- the names that are not kept, when one type is changed

module _ (schema : SchemaModel) (now : List RowType) (k : ℕ) (old new : RowType) (at : slice_get now k ≡ Some old) (id : new.type_id ≡ old.type_id) where
  abbrev Before : Names
  Before = names_unkept_in (properties_at schema old.type_id) old.slots.items

  abbrev After : Names
  After = names_unkept_in (properties_at schema old.type_id) new.slots.items

  put_there : slice_get (slice_set now k new) k ≡ Some new
  put_there = set_there now k new (slice_get_within now k old at)

  pub unkept_before : (name : List ℕ) → (After name → Before name) → names_unkept_of schema (slice_set now k new) name → names_unkept_of schema now name
  unkept_before name back (place, type, there, un) =
      ⊎_elim (λ here.
      let is : type ≡ new = one_of type new (sym there ∙ ap (slice_get (slice_set now k new)) here ∙ put_there) in
      let of_new = subst (λ (t : RowType). names_unkept_in (properties_at schema t.type_id) t.slots.items name) is un in
      (k, old, at, back (subst (λ (i : ℕ). names_unkept_in (properties_at schema i) new.slots.items name) id of_new)))
      (λ other. (place, type, sym (other_kept now k place new other) ∙ there, un)) (same_number place k)

  pub unkept_after : (name : List ℕ) → (Before name → After name) → names_unkept_of schema now name → names_unkept_of schema (slice_set now k new) name
  unkept_after name forth (place, type, there, un) =
      ⊎_elim (λ here.
      let is : type ≡ old = one_of type old (sym there ∙ ap (slice_get now) here ∙ at) in
      let of_old = subst (λ (t : RowType). names_unkept_in (properties_at schema t.type_id) t.slots.items name) is un in
      (k, new, put_there, subst (λ (i : ℕ). names_unkept_in (properties_at schema i) new.slots.items name) (sym id) (forth of_old)))
      (λ other. (place, type, other_kept now k place new other ∙ there, un)) (same_number place k)

-- what holds of those before an index goes on to it
pub one_further : {X : Type 0} (Q : X → Type 0) (xs : List X) (k : ℕ) (x : X) → k < length xs → ((j : ℕ) → j < k → IfSome (slice_get xs j) Q) → Q x → (j : ℕ) → j < k + 1 → IfSome (slice_get (slice_set xs k x) j) Q
one_further {X = X} Q xs k x within before holds j less =
    ⊎_elim (λ here. subst (λ (o : Option X). IfSome o Q) (sym (ap (slice_get (slice_set xs k x)) here ∙ set_there xs k x within)) holds)
    (λ other. subst (λ (o : Option X). IfSome o Q) (sym (other_kept xs k j x other)) (before j (omega (arith, less, other)))) (same_number j k)

-- a name that each type keeps is kept
pub none_unkept : (schema : SchemaModel) (types : List RowType) (name : List ℕ) → ((j : ℕ) → j < length types → IfSome (slice_get types j) (λ t. ¬ names_unkept_in (properties_at schema t.type_id) t.slots.items name)) → ¬ names_unkept_of schema types name
none_unkept schema types name each (place, type, there, un) =
    let kept = subst (λ (o : Option RowType). IfSome o (λ t. ¬ names_unkept_in (properties_at schema t.type_id) t.slots.items name)) there (each place (slice_get_within types place type there)) in
    kept un

-- where each type keeps all its slots, no name is passed over
pub none_passed : (schema : SchemaModel) (types : List RowType) → AreKept types → (name : List ℕ) → ¬ names_unkept_of schema types name
none_passed schema types kept name (place, type, there, (slot, unmarked, named)) = each_at (λ k t. (s : ℕ) → slice_get (keeps_of t) s ≢ Some false) types place type kept there slot unmarked

-- ---- the same by the marks alone

mapped_from : {X Y : Type 0} (f : X → Y) (xs : List X) (n : ℕ) (y : Y) → slice_get (map f xs) n ≡ Some y → (x : X) × (slice_get xs n ≡ Some x) × (f x ≡ y)
mapped_from f [] n y at = absurd (cc)
mapped_from f (x ∷ xs) zero y at = (x, refl, one_of (f x) y at)
mapped_from f (x ∷ xs) (suc n) y at = mapped_from f xs n y at

pub by_types : (schema : SchemaModel) (types : List RowType) (name : List ℕ) → names_unkept_by schema (marks_of types) name → names_unkept_of schema types name
by_types schema types name (place, marks, there, un) =
    let type = mapped_from marks_at types place marks there in
    (place, type.0, type.1, subst (λ (m : TypeMarks). (slot : ℕ) × (slice_get m.kept slot ≡ Some false) × (slice_get (map (λ p. p.name) (properties_at schema m.type_id)) slot ≡ Some name)) (sym type.2) un)

pub by_marks : (schema : SchemaModel) (types : List RowType) (name : List ℕ) → names_unkept_of schema types name → names_unkept_by schema (marks_of types) name
by_marks schema types name (place, type, there, un) =
    (place, marks_at type, mapped_at marks_at types place type there, un)
