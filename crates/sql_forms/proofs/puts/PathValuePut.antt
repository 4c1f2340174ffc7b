-- The value at a path, as a column or at a position in JSON.
use Rattle.sql_forms.proofs.Common.{◌≡◌, ◌∷◌, [], ℕ, List, Some, refl, sym, subst, slice_get, IsMoment, Val, slots_of, CheckedNode, NodeKind, EndsOnceOnEntities, found_there, some_there, there_found, Outcome, gives, IsQuietKind, Range, BaseGives, IsScalar, PathGives, PlaceGives, SlotGives, StepsGive, Asked, Bound, FieldType, SqlNode, Base, Path, Draft, Kind, Grows, IsOfKind, kind_of_type, IsOfType, type_of_field, PutsPath, AreRanges, HasFieldType, IsPathAt, IsStep, IsAskedOf, IsWorldOf, OfPlace, Puts, Question, World, puts_leaf, world_before, path_says}
use Rattle.sql_outcomes.specs.private.ValueForms.{Itself}
use Rattle.sql_tree.specs.declared.json_path.Step.{Step}
use Rattle.sql_outcomes.proofs.nodes.FlagNodes.{plain_value}
use Rattle.sql_forms.proofs.puts.HasMemberPut.{scalar}
use Rattle.sql_outcomes.proofs.nodes.WorldNodes.{of_type, typed_kind}

step_plain : (kind : NodeKind) → IsStep kind → IsQuietKind kind
step_plain (NodeKind.Property slot) is = tt
step_plain (NodeKind.Variable level) is = tt
step_plain (NodeKind.Member slot) is = tt
step_plain kind is = absurd is

-- a column, where no steps follow it
column_gives : (asked : Asked) (bound : Bound) (slot : ℕ) (path : Path) (v : Val) → path.base ≡ Base.Column slot → path.steps.items ≡ [] → PathGives asked bound path v
    → SlotGives asked.schema asked.row_type slot asked.entity v
column_gives asked bound slot path v base_is none given =
    let at_base : BaseGives asked bound (Base.Column slot) given.0 = subst (λ (b : Base). BaseGives asked bound b given.0) base_is given.1 in
    let same : v ≡ given.0 = subst (λ (steps : List Step). StepsGive asked.schema steps given.0 v) none given.2 in
    subst (SlotGives asked.schema asked.row_type slot asked.entity) (sym same) at_base

module _ (question : Question) (ends : EndsOnceOnEntities) (is_moment : IsMoment question.now.civil question.now.offset_minutes) (ranges : List Range) (are : AreRanges question ranges) (place number : ℕ)
    (is_path : IsPathAt question.filter place) (type : FieldType) (has_value : HasFieldType question.filter place type) (old middle new : Draft) (path : PutsPath question old middle place number) where
  -- the node evaluates to a value of its type
  typed_there : (world : World) (o : Outcome) → IsAskedOf question world
      → OfPlace question.filter place world o → (v : Val) × (o ≡ gives v) × IsOfType (type_of_field type) v
  typed_there world o seen has =
      let step = some_there (λ (n : CheckedNode). IsStep n.kind) (slice_get question.filter.list.nodes place) is_path in
      let kinded = found_there (λ (n : CheckedNode). kind_of_type n.edm_type ≡ Kind.Value (type_of_field type)) (slice_get question.filter.list.nodes place) step.0 step.1.0 has_value in
      let v = plain_value question ranges are place step.0.kind (step_plain step.0.kind step.1.1)
      (there_found (λ (n : CheckedNode). n.kind ≡ step.0.kind) (slice_get question.filter.list.nodes place) step.0 step.1.0 refl) world o seen has in
      let of_v : OfPlace question.filter place world (gives v.0) = subst (OfPlace question.filter place world) v.1 has in
      let typed = of_type question ends is_moment world seen place step.0 step.1.0 (gives v.0) of_v in
      let kind = typed_kind (slots_of world.row.schema) world.row.schema step.0.edm_type v.0 typed in
      (v.0, v.1, subst (λ (k : Kind). IsOfKind k v.0) kinded kind)

  -- which is no record and no list
  value_there : (world : World) (o : Outcome) → IsAskedOf question world → OfPlace question.filter place world o → (v : Val) × (o ≡ gives v) × IsScalar v
  value_there world o seen has =
      let v = typed_there world o seen has in
      (v.0, v.1, scalar (type_of_field type) v.0 v.2)

  leads : (node : SqlNode) → Grows middle new (node ∷ []) → (world : World) → IsWorldOf question new world → (v : Val) → OfPlace question.filter place world (gives v) → PlaceGives world.asked world.bound number v
  leads node grows world is v has = path_says question middle place number path.leads world v (world_before question middle new (node ∷ []) world grows is) has

  -- at its position in JSON
  pub field_put : Grows middle new (SqlNode.Field number type ∷ []) → Grows old new (SqlNode.Field number type ∷ []) → Puts question old new (OfPlace question.filter place) Itself
  field_put grows whole =
      puts_leaf question (SqlNode.Field number type) refl old new (OfPlace question.filter place) Itself whole
      (λ world o is has.
      let v = typed_there world o is.seen has in
      (o, (v.0, leads (SqlNode.Field number type) grows world is v.0 (subst (OfPlace question.filter place world) v.1 has), v.2, v.1), refl))

  -- in its own column
  pub column_put : (slot : ℕ) (found : Path) → slice_get middle.tree.paths.items number ≡ Some found → found.base ≡ Base.Column slot → found.steps.items ≡ [] → Grows middle new (SqlNode.Column slot ∷ [])
      → Grows old new (SqlNode.Column slot ∷ []) → ((world : World) → IsWorldOf question new world → slice_get world.asked.paths number ≡ Some found) → Puts question old new (OfPlace question.filter place) Itself
  column_put slot found at base_is none grows whole there =
      puts_leaf question (SqlNode.Column slot) refl old new (OfPlace question.filter place) Itself whole
      (λ world o is has.
      let v = value_there world o is.seen has in
      let given = leads (SqlNode.Column slot) grows world is v.0 (subst (OfPlace question.filter place world) v.1 has) in
      let of_path = found_there (λ (p : Path). PathGives world.asked world.bound p v.0) (slice_get world.asked.paths number) found (there world is) given in
      (o, (v.0, column_gives world.asked world.bound slot found v.0 base_is none of_path, v.2, v.1), refl))
