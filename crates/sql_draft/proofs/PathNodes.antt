-- Where the nodes of a path lead: each member one step up, the lowest one from a range variable or from the row.
use Rattle.std.proofs.Common.{◌≡◌, ◌<◌, ◌+◌, ◌++◌, ◌∷◌, [], ℕ, zero, suc, List, true, false, cond, find, Option, Some, None, length, reverse, nat_eq, refl, sym, ap, subst, ◌∙◌, arith}
use Rattle.std.specs.Prelude.{option_map, slice_get}
use Rattle.std.specs.Cmp.Lexicographic.{pointwise}
use Rattle.std.proofs.lemmas.List.{length-reverse, reverse-append}
use Rattle.std.proofs.lemmas.Slice.Eq.{bytes_eq-Decides}
use Rattle.edm_values.specs.Val.{Val}
use Rattle.csdl_schema.specs.ExprType.{single, structured}
use Rattle.csdl_schema.specs.SchemaModel.{PropertyModel, SchemaModel, properties_at, slot_named, slots_of, type_name_at}
use Rattle.edm_entities.specs.Row.{value_of}
use Rattle.odata_syntax.specs.Tree.{Tree, member, name, node}
use Rattle.odata_signatures.specs.Laws.{OneType}
use Rattle.odata_signatures.specs.Typed.{Typed, property_named}
use Rattle.odata_checked_filter.specs.Levels.{level_named}
use Rattle.odata_checked_filter.specs.declared.checked_node.CheckedNode.{CheckedNode}
use Rattle.odata_checked_filter.specs.declared.checked_node.NodeKind.{NodeKind}
use Rattle.odata_checked_filter.proofs.flat.Lying.{stands_lie}
use Rattle.odata_checked_filter.proofs.needed.Kinds.{property_there, step_there, variable_there}
use Rattle.odata_checked_filter.proofs.needed.Steps.{slot_below}
use Rattle.odata_meaning.specs.Environment.{Bound as Variable, Environment, scope_of, variable_value}
use Rattle.odata_meaning.specs.NameGives.{FoundGives, StepGives}
use Rattle.filter_context.specs.Frames.{names_of}
use Rattle.filter_context.proofs.Parts.{there_found}
use Rattle.filter_context.proofs.Variables.{level_below, unbound}
use Rattle.odata_filter_operations.specs.LeftFirst.{Then}
use Rattle.odata_filter_operations.specs.Outcome.{Outcome, gives, overflow, divides_by_zero}
use Rattle.odata_ranges.specs.Owners.{BelongsTo, IsOwnerAt}
use Rattle.odata_ranges.proofs.Holding.{property_at, same_owner}
use Rattle.sql_meaning.specs.PlaceGives.{SlotGives}
use Rattle.sql_draft.specs.World.{IsAskedOf, OfPlace, Question, World}
use Rattle.sql_draft.proofs.BinaryNodes.{MeansOf, means_in, means_of}
use Rattle.sql_draft.proofs.Places.{base_there, by_kind}

-- ---- properties by their slots

found_in : {A : Type 0} (xs : List A) (k : ℕ) → k < length xs → (x : A) × (slice_get xs k ≡ Some x)
found_in [] k below = absurd (omega (arith, below))
found_in (x ∷ xs) zero below = (x, refl)
found_in (x ∷ xs) (suc k) below = let e : k < length xs = omega (arith, below) in found_in xs k e

-- what is found by a name has it
named_so : (properties : List PropertyModel) (asked : List ℕ) (p : PropertyModel) → property_named properties asked ≡ Some p → p.name ≡ asked
named_so [] asked p found = let none : None ≡ Some p = found in absurd (cc)
named_so (q ∷ more) asked p found =
    elim (pointwise nat_eq asked q.name) as (λ is_it. pointwise nat_eq asked q.name ≡ is_it → cond is_it (Some q) (property_named more asked) ≡ Some p → p.name ≡ asked) [
      | true ↦ λ same there.
          let is : q ≡ p = cc in
          let called : asked ≡ q.name = (bytes_eq-Decides asked q.name).0 same in
          ap (λ (r : PropertyModel). r.name) (sym is) ∙ sym called
      | false ↦ λ other there. named_so more asked p there
    ] refl found

-- a step by a name is one by its slot
pub slot_gives : (schema : SchemaModel) (owner slot : ℕ) (asked : List ℕ) (w v : Val) → slot_named (properties_at schema owner) asked ≡ Some slot → StepGives w asked (gives v) → SlotGives schema owner slot w v
slot_gives schema owner slot asked w v named given =
    let properties : List PropertyModel = properties_at schema owner in
    let p = found_in properties slot (slot_below properties asked slot named) in
    let called : p.0.name ≡ asked = named_so properties asked p.0 (property_at properties asked slot named ∙ p.1) in
    there_found (λ (q : PropertyModel). StepGives w q.name (gives v)) (slice_get properties slot) p.0 p.1
    (subst (λ (n : List ℕ). StepGives w n (gives v)) (sym called) given)

-- ---- range variables by their levels

at_end : {A : Type 0} (xs : List A) (x : A) → slice_get (xs ++ x ∷ []) (length xs) ≡ Some x
at_end [] x = refl
at_end (y ∷ xs) x = at_end xs x

before_end : {A : Type 0} (xs : List A) (x : A) (k : ℕ) (y : A) → slice_get xs k ≡ Some y → slice_get (xs ++ x ∷ []) k ≡ Some y
before_end [] x k y is = let none : None ≡ Some y = is in absurd (cc)
before_end (z ∷ xs) x zero y is = is
before_end (z ∷ xs) x (suc k) y is = before_end xs x k y is

names_count : (environment : Environment) → length (names_of environment) ≡ length environment
names_count [] = refl
names_count (bound ∷ more) = ap suc (names_count more)

-- the innermost variable of a name stands at the level that the name has
pub variable_at : (environment : Environment) (asked : List ℕ) (level : ℕ) → level_named (names_of environment) asked ≡ Some level
    → (b : Variable) × (slice_get (reverse environment) level ≡ Some b) × (variable_value environment asked ≡ Some b.value)
variable_at [] asked level named = let none : None ≡ Some level = named in absurd (cc)
variable_at (bound ∷ more) asked level named =
    elim (pointwise nat_eq asked bound.variable.name) as (λ is_it. cond is_it (Some (length (names_of more))) (level_named (names_of more) asked) ≡ Some level
    → (b : Variable) × (slice_get (reverse (bound ∷ more)) level ≡ Some b)
    × (option_map (λ b. b.value) (cond is_it (Some bound) (find (λ b. pointwise nat_eq asked b.variable.name) more)) ≡ Some b.value)) [
      | true ↦ λ there.
          let same : length (names_of more) ≡ level = cc in
          let last : length (reverse more) ≡ level = length-reverse more ∙ sym (names_count more) ∙ same in (
            bound,
            ap (λ (xs : List Variable). slice_get xs level) turned ∙ ap (λ (k : ℕ). slice_get (reverse more ++ bound ∷ []) k) (sym last) ∙ at_end (reverse more) bound,
            refl,
          )
      | false ↦ λ there.
          let b = variable_at more asked level there in
          (b.0, ap (λ (xs : List Variable). slice_get xs level) turned ∙ before_end (reverse more) bound level b.0 b.1, b.2)
    ] named
  where
    turned : reverse (bound ∷ more) ≡ reverse more ++ bound ∷ []
    turned = reverse-append (bound ∷ []) more

-- ---- what nodes of a path evaluate to

then_value : (first : Outcome) (Goes : Val → Outcome → Type 0) (v : Val) → Then first Goes (gives v) → (w : Val) × (first ≡ gives w) × Goes w (gives v)
then_value (gives w) Goes v given = (w, refl, given)
then_value overflow Goes v given = let no : gives v ≡ overflow = given in absurd (cc)
then_value divides_by_zero Goes v given = let no : gives v ≡ divides_by_zero = given in absurd (cc)

module _ (question : Question) (world : World) (seen : IsAskedOf question world) (at : ℕ) (found : CheckedNode) (found_at : slice_get question.filter.list.nodes at ≡ Some found) where
  -- a member is one step up from the node after it
  pub member_step : OneType → (slot owner : ℕ) → found.kind ≡ NodeKind.Member slot → IsOwnerAt question.filter at owner → (v : Val) → OfPlace question.filter at world (gives v)
      → (w : Val) × OfPlace question.filter (at + 1) world (gives w) × SlotGives question.filter.schema owner slot w v
  member_step types slot owner kind_is owned v has =
      let schema = question.filter.schema in
      let slots = slots_of schema in
      let root = type_name_at schema question.filter.filtered in
      let scope = scope_of world.environment in
      let tree = has.0 in
      let step = step_there schema question.filter.filtered scope question.filter.list at has.1.stop slot tree found (stands_lie schema question.filter.filtered scope question.filter.list at has.1.stop tree has.1.stands) found_at kind_is in
      let means : MeansOf question world seen (node step.start step.end (member step.base step.asked)) (gives v) =
      subst (λ (t : Tree). MeansOf question world seen t (gives v)) step.is (means_of question world seen tree (gives v) has.2) in
      let given = then_value means.0 (λ w. StepGives w step.asked) v means.1.1 in
      let base_means : MeansOf question world seen step.base (gives given.0) = subst (MeansOf question world seen step.base) given.1 means.1.0 in
      let typed : Typed slots root scope step.base (single (structured (type_name_at schema owner))) =
      subst (λ (t : Tree). BelongsTo slots root scope t (type_name_at schema owner)) step.is (owned.of_tree scope has.1.stop tree has.1.stands) in
      let same : step.owner ≡ type_name_at schema owner =
      same_owner step.owner (type_name_at schema owner) (types slots root scope step.base (single (structured step.owner)) (single (structured (type_name_at schema owner))) step.base_typed typed) in (
        given.0,
        (step.base, record { stop = has.1.stop; stands = base_there schema question.filter.filtered scope question.filter.list at has.1.stop step.start step.end tree step.base step.asked step.is has.1.stands }, means_in question world seen step.base (gives given.0) base_means),
        slot_gives schema owner slot step.asked given.0 v (subst (λ (n : List ℕ). slot_named (slots.properties n) step.asked ≡ Some slot) same step.named) given.2,
      )

  -- a property is one step up from the row
  pub property_step : (slot owner : ℕ) → found.kind ≡ NodeKind.Property slot → IsOwnerAt question.filter at owner → (v : Val) → OfPlace question.filter at world (gives v)
      → SlotGives question.filter.schema owner slot (value_of world.row) v
  property_step slot owner kind_is owned v has =
      let schema = question.filter.schema in
      let slots = slots_of schema in
      let root = type_name_at schema question.filter.filtered in
      let scope = scope_of world.environment in
      let tree = has.0 in
      let property = property_there schema question.filter.filtered scope question.filter.list at has.1.stop slot tree found (stands_lie schema question.filter.filtered scope question.filter.list at has.1.stop tree has.1.stands) found_at kind_is in
      let means : MeansOf question world seen (node property.start property.end (name property.asked)) (gives v) =
      subst (λ (t : Tree). MeansOf question world seen t (gives v)) property.is (means_of question world seen tree (gives v) has.2) in
      let free = unbound world.environment property.asked property.unbound in
      let step : StepGives (value_of world.row) property.asked (gives v) =
      subst (λ (found_value : Option Val). FoundGives found_value (value_of world.row) property.asked (gives v)) free.0 means in
      let same : type_name_at schema owner ≡ root =
      subst (λ (t : Tree). BelongsTo slots root scope t (type_name_at schema owner)) property.is (owned.of_tree scope has.1.stop tree has.1.stands) in
      slot_gives schema owner slot property.asked (value_of world.row) v
      (subst (λ (n : List ℕ). slot_named (slots.properties n) property.asked ≡ Some slot) (sym same) property.named) step

  pub it_there : found.kind ≡ NodeKind.It → (v : Val) → OfPlace question.filter at world (gives v) → v ≡ value_of world.row
  it_there kind_is v has =
      by_kind question.filter.schema question.filter.filtered (scope_of world.environment) question.filter.list at NodeKind.It
      (there_found (λ (n : CheckedNode). n.kind ≡ NodeKind.It) (slice_get question.filter.list.nodes at) found found_at kind_is)
      (λ stop tree. MeansOf question world seen tree (gives v) → v ≡ value_of world.row)
      (λ stop from to stands means. let same : gives v ≡ gives (value_of world.row) = means in cc)
      has.1.stop has.0 has.1.stands (means_of question world seen has.0 (gives v) has.2)

  -- a range variable has the value of its level
  pub variable_there_is : (level : ℕ) → found.kind ≡ NodeKind.Variable level → (v : Val) → OfPlace question.filter at world (gives v)
      → (b : Variable) × (slice_get (reverse world.environment) level ≡ Some b) × (b.value ≡ v)
  variable_there_is level kind_is v has =
      let scope = scope_of world.environment in
      let tree = has.0 in
      let variable = variable_there question.filter.schema question.filter.filtered scope question.filter.list at has.1.stop level tree found (stands_lie question.filter.schema question.filter.filtered scope question.filter.list at has.1.stop tree has.1.stands) found_at kind_is in
      let means : MeansOf question world seen (node variable.start variable.end (name variable.asked)) (gives v) =
      subst (λ (t : Tree). MeansOf question world seen t (gives v)) variable.is (means_of question world seen tree (gives v) has.2) in
      let b = variable_at world.environment variable.asked level variable.bound in
      let given : gives v ≡ gives b.0.value =
      subst (λ (found_value : Option Val). FoundGives found_value (value_of world.row) variable.asked (gives v)) b.2 means in
      (b.0, b.1, cc)

  pub variable_within : (level : ℕ) → found.kind ≡ NodeKind.Variable level → (o : Outcome) → OfPlace question.filter at world o → level < length world.environment
  variable_within level kind_is o has =
      let scope = scope_of world.environment in
      let variable = variable_there question.filter.schema question.filter.filtered scope question.filter.list at has.1.stop level has.0 found (stands_lie question.filter.schema question.filter.filtered scope question.filter.list at has.1.stop has.0 has.1.stands) found_at kind_is in
      let below : level < length (names_of world.environment) = level_below (names_of world.environment) variable.asked level variable.bound in
      let count = names_count world.environment in
      omega (arith, below, count)
