-- Values in slots that pass tests are those of an entity's record.
use Rattle.std.proofs.Common.{◌≡◌, ◌≢◌, ◌∙◌, ℕ, ◌+◌, List, [], ◌∷◌, true, false, cond, not, map, Some, None, slice_get, sym, ap, subst, nat_eq, one-add}
use Rattle.std.specs.Prelude.{All, Bool as Truth}
use Rattle.std.specs.List.{position_or_len}
use Rattle.std.specs.Cmp.Lexicographic.{pointwise}
use Rattle.edm_values.specs.MomentParts.{IsMoment, MomentParts}
use Rattle.edm_values.specs.Val.{Val, FieldVal, boolean, fields, present}
use Rattle.edm_values.specs.declared.value.Value.{Value}
use Rattle.csdl_schema.specs.ExprType.{ExprType, single, structured}
use Rattle.csdl_schema.specs.SchemaModel.{Slots, SchemaModel, PropertyModel, PropertyType, declared, opaque, navigation, properties_at, slots_of, type_name_at}
use Rattle.edm_entities.specs.Row.{IsEntity, Row, field_by_name, field_of, val_of, value_of}
use Rattle.odata_checked_filter.specs.Filter.{Filter, IsFilter, tree_of_filter}
use Rattle.odata_filter_operations.specs.Outcome.{Outcome, gives}
use Rattle.odata_signatures.specs.Typed.{Typed}
use Rattle.odata_meaning.specs.EndsOnce.{EndsOnceOnEntities}
use Rattle.odata_meaning.specs.Means.{Means}
use Rattle.odata_meaning.specs.MeansOn.{IsTheOutcome, MeansOn}
use Rattle.odata_eval.specs.TrueWhere.{AreWhole, Passes, PassesIn}
use Rattle.odata_eval.specs.private.PassedTests.{PassesAt}
use Rattle.odata_eval.specs.declared.value_tests.SlotSieve.{SlotSieve}
use Rattle.odata_eval.proofs.walking.Leaves.{plain_is}
use Rattle.odata_eval.proofs.walking.SlotValue.{found_slot, same_sides, val_of-Record}

-- ---- what a record has under a name is what stands in the slot of that name

seen_in : (slots : Slots) (type_of : PropertyType) (w : Value) (value : Val) → field_of slots.properties type_of (val_of w) ≡ present value → (type : ExprType) × (value ≡ val_of w slots.properties type)
seen_in slots (declared t) w value is = (t, let same : val_of w slots.properties t ≡ value = cc in sym same)
seen_in slots opaque w value is = absurd cc
seen_in slots (navigation None) w value is = absurd cc
seen_in slots (navigation (Some t)) w value is = (t, let same : val_of w slots.properties t ≡ value = cc in sym same)

module _ (slots : Slots) (asked : List ℕ) (value : Val) (v : Value) where
  abbrev IsSeen : Type 0
  IsSeen = (type : ExprType) × (value ≡ val_of v slots.properties type)

  -- at one property more
  seen_front : (is_it : Truth) (p : PropertyModel) (w : Value) (ws : List Value) (n : ℕ) (after : FieldVal) → slice_get (w ∷ ws) (cond (not is_it) (1 + n) 0) ≡ Some v
      → (slice_get ws n ≡ Some v → after ≡ present value → IsSeen) → cond is_it (field_of slots.properties p.type_of (val_of w)) after ≡ present value → IsSeen
  seen_front true p w ws n after at further is =
      let same : w ≡ v = cc in
      let seen = seen_in slots p.type_of w value is in
      (seen.0, seen.1 ∙ ap (λ (u : Value). val_of u slots.properties seen.0) same)
  seen_front false p w ws n after at further is = further (ap (slice_get (w ∷ ws)) (sym (one-add n)) ∙ at) is

  seen_at : (properties : List PropertyModel) (values : List Value) → slice_get values (position_or_len (λ p. pointwise nat_eq asked p.name) properties) ≡ Some v
      → field_by_name slots.properties properties (map val_of values) asked ≡ present value → IsSeen
  seen_at [] values at is = absurd cc
  seen_at (p ∷ more) [] at is = absurd cc
  seen_at (p ∷ more) (w ∷ ws) at is =
      seen_front (pointwise nat_eq asked p.name) p w ws (position_or_len (λ q. pointwise nat_eq asked q.name) more) (field_by_name slots.properties more (map val_of ws) asked) at (seen_at more ws)
      (subst (λ (is_it : Truth). cond is_it (field_of slots.properties p.type_of (val_of w)) (field_by_name slots.properties more (map val_of ws) asked) ≡ present value) (sym (same_sides asked p.name)) is)

-- ---- tests that are the whole filter

module _ (filter : Filter) (tests : List SlotSieve) (values : List Value) where
  abbrev held_in : List ℕ → FieldVal
  held_in = field_by_name (slots_of filter.schema).properties (properties_at filter.schema filter.filtered) (map val_of values)

  passes_in : (test : SlotSieve) → PassesAt values test → PassesIn filter held_in test
  passes_in test passed word named value is =
      let slots = slots_of filter.schema in
      let properties = properties_at filter.schema filter.filtered in
      let position : position_or_len (λ p. pointwise nat_eq word p.name) properties ≡ test.slot = found_slot _ _ test.slot named in
      let seen = seen_at slots word value passed.value properties values (subst (λ (n : ℕ). slice_get values n ≡ Some passed.value) (sym position) passed.there) is in
      subst (Passes test.sieve) (sym (seen.1 ∙ plain_is slots seen.0 passed.value passed.val passed.plain)) passed.passes

  all_in : All (PassesAt values) tests → All (PassesIn filter held_in) tests
  all_in all k d less = passes_in _ (all k d less)

-- so a filter that its tests are is true on an entity whose values pass them
pub outcome_true : (filter : Filter) (row : Row) (now : MomentParts) (tests : List SlotSieve) (values : List Value) → IsFilter filter → filter.schema ≡ row.schema → filter.filtered ≡ row.type_id
    → EndsOnceOnEntities → IsMoment now.civil now.offset_minutes → (entity : IsEntity row) → values ≡ entity.holds_slots.slots.items → AreWhole filter tests → tests ≢ [] → All (PassesAt values) tests
    → IsTheOutcome row now (tree_of_filter filter) (gives (boolean true))
outcome_true filter row now tests values right one_schema one_type ends is_moment entity same whole some passes =
    let tree = tree_of_filter filter in
    let held = entity.holds_slots.slots in
    let On : SchemaModel → ℕ → List Value → Outcome → Type 0 = λ s n vs o. Means (slots_of s) (type_name_at s n) now (fields (field_by_name (slots_of s).properties (properties_at s n) (map val_of vs))) [] tree o in
    let type : ExprType = single (structured (type_name_at row.schema row.type_id)) in
    let seen : value_of row ≡ fields (field_by_name (slots_of row.schema).properties (properties_at row.schema row.type_id) (map val_of held.items)) =
    ap (λ (h : Value). val_of h (slots_of row.schema).properties type) entity.holds_slots.value_is ∙ val_of-Record (slots_of row.schema) type held in
    let only : (o : Outcome) → MeansOn row now tree o → o ≡ gives (boolean true) =
    λ o means.
    whole some now (held_in filter tests values) o (all_in filter tests values passes)
    (subst (λ (s : SchemaModel). On s filter.filtered values o) (sym one_schema)
    (subst (λ (n : ℕ). On row.schema n values o) (sym one_type)
    (subst (λ (vs : List Value). On row.schema row.type_id vs o) (sym same)
    (subst (λ (e : Val). Means (slots_of row.schema) (type_name_at row.schema row.type_id) now e [] tree o) seen means)))) in
    let typed = subst (λ (s : SchemaModel). Typed (slots_of s) (type_name_at s row.type_id) [] tree right.type_of) one_schema (subst (λ (n : ℕ). Typed (slots_of filter.schema) (type_name_at filter.schema n) [] tree right.type_of) one_type right.typed) in
    let once = ends row now [] tree right.type_of is_moment entity tt typed in
    record { related = subst (λ (o : Outcome). MeansOn row now tree o) (only once.outcome once.related) once.related; only = only }
