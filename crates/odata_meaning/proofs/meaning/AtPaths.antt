-- Values of types at property paths, of which some are needed.
use Rattle.std.proofs.Common.{◌≡◌, ◌∙◌, ◌++◌, refl, sym, ap, subst, ℕ, List, [], ◌∷◌, true, false, Option, Some, None, cond, map, nat_eq, length, arith}
use Rattle.std.specs.Prelude.{IsSomeAnd, MatchOption, find, unwrap_or}
use Rattle.std.specs.List.{AllByRecursion}
use Rattle.std.specs.Option.{option_map}
use Rattle.std.specs.Cmp.Lexicographic.{pointwise}
use Rattle.std.proofs.lemmas.Slice.Eq.{bytes_eq-Decides}
use Rattle.edm_values.specs.Val.{Val, null, member, fields, items, FieldVal, absent, present, Vals, no_items, item}
use Rattle.csdl_schema.specs.ExprType.{ExprType, null_type, single, collection, SingleType, primitive, enumeration, structured}
use Rattle.csdl_schema.specs.PathSet.{PathSet, PropertyPath}
use Rattle.csdl_schema.specs.SchemaModel.{Slots, PropertyModel, PropertyType, declared, opaque, navigation}
use Rattle.edm_entities.specs.HasType.{AllHaveType, HasPropertyType, HasType}
use Rattle.odata_signatures.specs.NeededPaths.{Navigates, VariablePaths, variable_path}
use Rattle.odata_signatures.specs.Typed.{PropertyTyped, named_type, property_named, variable_type}
use Rattle.odata_meaning.specs.EndsOnce.{IsOutcomeOf}
use Rattle.odata_meaning.specs.EndsOnceAtPaths.{IsOutcomeAt}
use Rattle.odata_meaning.specs.Environment.{Environment, IsFitting, scope_of, variable_value}
use Rattle.odata_filter_operations.specs.LeftFirst.{After}
use Rattle.odata_meaning.specs.NameGives.{FoundGives, StepGives}
use Rattle.odata_filter_operations.specs.Outcome.{Outcome, gives, overflow, divides_by_zero}
use Rattle.odata_meaning.specs.TypesAtPaths.{AllHaveTypeAt, AreFittingAt, HasPropertyTypeAt, HasTypeAt}
use Rattle.odata_meaning.proofs.meaning.Ends.{Ends}
use Rattle.odata_meaning.proofs.meaning.Progress.{field_gives}

-- types that say nothing of what records hold
abbrev pub shallow : Slots → Slots
shallow slots = record slots { properties = λ name. [] }

-- a type of values without parts
abbrev pub IsFlat : ExprType → Type 0
IsFlat null_type = Unit {0}
IsFlat (single (primitive p)) = Unit {0}
IsFlat _ = ⊥

each_by : (P Q : PropertyModel → Type 0) → ((p : PropertyModel) → P p → Q p) → (properties : List PropertyModel) → AllByRecursion P properties → AllByRecursion Q properties
each_by P Q by [] each = tt
each_by P Q by (p ∷ more) each = (by p each.0, each_by P Q by more each.1)

-- the set of all paths
abbrev pub every_path : PathSet
every_path path = true

module _ (slots : Slots) (needed : PathSet) where
  -- ---- values with types apart from paths, and at them

  mutual
    pub has_at : (path : PropertyPath) (type : ExprType) (v : Val) → HasType slots type v → HasTypeAt slots needed path type v
    has_at path type null has = tt
    has_at path (single (structured name)) (fields f) has =
        each_by (λ p. HasPropertyType slots p.type_of (f p.name)) (λ p. HasPropertyTypeAt slots needed (path ++ p.name ∷ []) p.type_of (f p.name))
        (λ p is. held_at (path ++ p.name ∷ []) p.type_of (f p.name) is) (slots.properties name) has
    has_at path (collection type) (items values) has = all_at path type values has
    has_at path (single (enumeration name)) (member n) has = has
    has_at path (single (primitive p)) v has = has
    has_at path _ _ has = absurd has

    held_at : (path : PropertyPath) (type : PropertyType) (held : FieldVal) → HasPropertyType slots type held → HasPropertyTypeAt slots needed path type held
    held_at path (declared type) (present v) has = has_at path type v has
    held_at path (declared type) absent has = absurd has
    held_at path opaque held has = tt
    held_at path (navigation None) held has = tt
    held_at path (navigation (Some type)) (present v) has = λ is_needed. has_at path type v has
    held_at path (navigation (Some type)) absent has = absurd has

    all_at : (path : PropertyPath) (type : SingleType) (values : Vals) → AllHaveType slots type values → AllHaveTypeAt slots needed path type values
    all_at path type no_items all = tt
    all_at path type (item v more) all = (has_at path (single type) v all.0, all_at path type more all.1)

  pub fitting_at_each : (environment : Environment) (paths : VariablePaths) → length paths ≡ length environment → IsFitting slots environment → AreFittingAt slots needed environment paths
  fitting_at_each [] [] as_many fitting = tt
  fitting_at_each [] (path ∷ paths) as_many fitting = omega arith
  fitting_at_each (bound ∷ more) [] as_many fitting = omega arith
  fitting_at_each (bound ∷ more) (path ∷ paths) as_many fitting =
      let fewer : length paths ≡ length more = omega arith in
      (has_at path bound.variable.type_of bound.value fitting.0, fitting_at_each more paths fewer fitting.1)

  mutual
    pub shallow_has : (path : PropertyPath) (type : ExprType) (v : Val) → HasTypeAt slots needed path type v → HasType (shallow slots) type v
    shallow_has path type null has = tt
    shallow_has path (single (structured name)) (fields f) has = tt
    shallow_has path (collection type) (items values) has = shallow_all path type values has
    shallow_has path (single (enumeration name)) (member n) has = has
    shallow_has path (single (primitive p)) v has = has
    shallow_has path _ _ has = absurd has

    shallow_all : (path : PropertyPath) (type : SingleType) (values : Vals) → AllHaveTypeAt slots needed path type values → AllHaveType (shallow slots) type values
    shallow_all path type no_items all = tt
    shallow_all path type (item v more) all = (shallow_has path (single type) v all.0, shallow_all path type more all.1)

  flat_at : (path : PropertyPath) (type : ExprType) (v : Val) → IsFlat type → HasType (shallow slots) type v → HasTypeAt slots needed path type v
  flat_at path type null flat has = tt
  flat_at path (single (primitive p)) v flat has = has
  flat_at path null_type _ flat has = absurd has
  flat_at path _ _ flat has = absurd flat

  pub typed_at : (path : PropertyPath) (given type : ExprType) (v : Val) → type ≡ given → HasTypeAt slots needed path given v → HasTypeAt slots needed path type v
  typed_at path given type v same has = subst (λ (t : ExprType). HasTypeAt slots needed path t v) (sym same) has

  -- ---- outcomes

  -- some outcome of the type at the path
  abbrev pub EndsAt : PropertyPath → ExprType → (Outcome → Type 0) → Type 0
  EndsAt path type Gives = (o : Outcome) × (Gives o × IsOutcomeAt slots needed path type o)

  outcome_at : (path : PropertyPath) (type : ExprType) (Gives : Outcome → Type 0) (given : Slots) → ((v : Val) → HasType given type v → HasTypeAt slots needed path type v)
      → Ends given type Gives → EndsAt path type Gives
  outcome_at path type Gives given has (gives v, ends) = (gives v, (ends.0, has v ends.1))
  outcome_at path type Gives given has (overflow, ends) = (overflow, (ends.0, tt))
  outcome_at path type Gives given has (divides_by_zero, ends) = (divides_by_zero, (ends.0, tt))

  pub ends_at : (path : PropertyPath) (type : ExprType) (Gives : Outcome → Type 0) → Ends slots type Gives → EndsAt path type Gives
  ends_at path type Gives ends = outcome_at path type Gives slots (λ v has. has_at path type v has) ends

  pub flat_ends : (path : PropertyPath) (type : ExprType) (Gives : Outcome → Type 0) → IsFlat type → Ends (shallow slots) type Gives → EndsAt path type Gives
  flat_ends path type Gives flat ends = outcome_at path type Gives (shallow slots) (λ v has. flat_at path type v flat has) ends

  pub shallow_ends : (path : PropertyPath) (type : ExprType) (Gives : Outcome → Type 0) → EndsAt path type Gives → Ends (shallow slots) type Gives
  shallow_ends path type Gives (gives v, ends) = (gives v, (ends.0, shallow_has path type v ends.1))
  shallow_ends path type Gives (overflow, ends) = (overflow, (ends.0, tt))
  shallow_ends path type Gives (divides_by_zero, ends) = (divides_by_zero, (ends.0, tt))

  pub after_at : (inside outside : PropertyPath) (operand type : ExprType) (Operand : Outcome → Type 0) (Goes : Val → Outcome → Type 0)
      → EndsAt inside operand Operand → ((v : Val) → HasTypeAt slots needed inside operand v → EndsAt outside type (Goes v)) → EndsAt outside type (After Operand Goes)
  after_at inside outside operand type Operand Goes (gives v, ends) goes = let e = goes v ends.1 in (e.0, ((gives v, (ends.0, e.1.0)), e.1.1))
  after_at inside outside operand type Operand Goes (overflow, ends) goes = (overflow, ((overflow, (ends.0, refl)), tt))
  after_at inside outside operand type Operand Goes (divides_by_zero, ends) goes = (divides_by_zero, ((divides_by_zero, (ends.0, refl)), tt))

  -- ---- steps

  held_of_at : (path : PropertyPath) (type_of : PropertyType) (type : ExprType) (held : FieldVal) → named_type type_of ≡ Some type → HasPropertyTypeAt slots needed path type_of held
      → ((target : ExprType) → type_of ≡ navigation (Some target) → needed path ≡ true) → (v : Val) × ((held ≡ present v) × HasTypeAt slots needed path type v)
  held_of_at path (declared t) type (present v) named has leads = let same : t ≡ type = cc in (v, (refl, subst (λ (s : ExprType). HasTypeAt slots needed path s v) same has))
  held_of_at path (declared t) type absent named has leads = absurd has
  held_of_at path opaque type held named has leads = absurd cc
  held_of_at path (navigation None) type held named has leads = absurd cc
  held_of_at path (navigation (Some t)) type (present v) named has leads =
      let same : t ≡ type = cc in (v, (refl, subst (λ (s : ExprType). HasTypeAt slots needed path s v) same (has (leads t refl))))
  held_of_at path (navigation (Some t)) type absent named has leads = absurd (has (leads t refl))

  held_present_at : (before : PropertyPath) (asked : List ℕ) (type : ExprType) (properties : List PropertyModel) (held : List ℕ → FieldVal)
      → AllByRecursion (λ p. HasPropertyTypeAt slots needed (before ++ p.name ∷ []) p.type_of (held p.name)) properties → PropertyTyped properties asked type
      → (Navigates properties asked → needed (before ++ asked ∷ []) ≡ true)
      → (v : Val) × ((held asked ≡ present v) × HasTypeAt slots needed (before ++ asked ∷ []) type v)
  held_present_at before asked type [] held all typed leads = absurd typed
  held_present_at before asked type (p ∷ more) held all typed leads =
      elim (pointwise nat_eq asked p.name) as (λ is_it. pointwise nat_eq asked p.name ≡ is_it
      → IsSomeAnd (cond is_it (Some p) (property_named more asked)) (λ q. named_type q.type_of ≡ Some type)
      → (IsSomeAnd (cond is_it (Some p) (property_named more asked)) (λ q. (target : ExprType) × (q.type_of ≡ navigation (Some target))) → needed (before ++ asked ∷ []) ≡ true)
      → (v : Val) × ((held asked ≡ present v) × HasTypeAt slots needed (before ++ asked ∷ []) type v)) [
        | true ↦ λ same is_typed is_led.
            let named : asked ≡ p.name = (bytes_eq-Decides asked p.name).0 same in
            let there = held_of_at (before ++ p.name ∷ []) p.type_of type (held p.name) is_typed all.0
            (λ target is. subst (λ (n : List ℕ). needed (before ++ n ∷ []) ≡ true) named (is_led (target, is))) in
            (there.0, (ap held named ∙ there.1.0, subst (λ (n : List ℕ). HasTypeAt slots needed (before ++ n ∷ []) type there.0) (sym named) there.1.1))
        | false ↦ λ other is_typed is_led. held_present_at before asked type more held all.1 is_typed is_led
      ] refl typed leads

  pub step_at : (before : PropertyPath) (owner : List ℕ) (v : Val) (asked : List ℕ) (type : ExprType) → HasTypeAt slots needed before (single (structured owner)) v
      → PropertyTyped (slots.properties owner) asked type → (Navigates (slots.properties owner) asked → needed (before ++ asked ∷ []) ≡ true)
      → EndsAt (before ++ asked ∷ []) type (StepGives v asked)
  step_at before owner null asked type has typed leads = (gives null, (refl, tt))
  step_at before owner (fields held) asked type has typed leads =
      let there = held_present_at before asked type (slots.properties owner) held has typed leads in
      (gives there.0, (field_gives held asked there.0 there.1.0, there.1.1))
  step_at before owner _ asked type has typed leads = absurd has

  -- ---- names

  -- a name is found in the scope where it is in the environment, with a value of its type at its path
  abbrev VariableFitsAt : List ℕ → Option ExprType → Option Val → PropertyPath → Type 0
  VariableFitsAt asked (Some type) (Some v) path = HasTypeAt slots needed path type v
  VariableFitsAt asked None None path = path ≡ asked ∷ []
  VariableFitsAt asked _ _ path = ⊥

  pub variable_fits_at : (environment : Environment) (paths : VariablePaths) (asked : List ℕ) → AreFittingAt slots needed environment paths
      → VariableFitsAt asked (variable_type (scope_of environment) asked) (variable_value environment asked) (unwrap_or (variable_path (scope_of environment) paths asked) (asked ∷ []))
  variable_fits_at [] [] asked fitting = refl
  variable_fits_at [] (path ∷ paths) asked fitting = absurd fitting
  variable_fits_at (bound ∷ more) [] asked fitting = absurd fitting
  variable_fits_at (bound ∷ more) (path ∷ paths) asked fitting =
      elim (pointwise nat_eq asked bound.variable.name) as (λ is_it. VariableFitsAt asked
      (option_map (λ v. v.type_of) (cond is_it (Some bound.variable) (find (λ v. pointwise nat_eq asked v.name) (scope_of more))))
      (option_map (λ b. b.value) (cond is_it (Some bound) (find (λ b. pointwise nat_eq asked b.variable.name) more)))
      (unwrap_or (cond is_it (Some path) (variable_path (scope_of more) paths asked)) (asked ∷ []))) [
        | true ↦ fitting.0
        | false ↦ variable_fits_at more paths asked fitting.1
      ]

  pub found_at : (root : List ℕ) (entity : Val) (asked : List ℕ) (type : ExprType) (in_scope : Option ExprType) (value : Option Val) (path : PropertyPath)
      → HasTypeAt slots needed [] (single (structured root)) entity → VariableFitsAt asked in_scope value path
      → MatchOption in_scope (PropertyTyped (slots.properties root) asked type) (λ t. type ≡ t)
      → (in_scope ≡ None → Navigates (slots.properties root) asked → needed (asked ∷ []) ≡ true) → EndsAt path type (FoundGives value entity asked)
  found_at root entity asked type (Some t) (Some v) path conforms is_found typed leads = (gives v, (refl, typed_at path t type v typed is_found))
  found_at root entity asked type None None path conforms is_found typed leads =
      subst (λ (at : PropertyPath). EndsAt at type (StepGives entity asked)) (sym is_found) (step_at [] root entity asked type conforms typed (leads refl))
  found_at root entity asked type _ _ path conforms is_found typed leads = absurd is_found

-- ---- where every path is needed

module _ (slots : Slots) where
  mutual
    pub has_apart : (path : PropertyPath) (type : ExprType) (v : Val) → HasTypeAt slots every_path path type v → HasType slots type v
    has_apart path type null has = tt
    has_apart path (single (structured name)) (fields f) has =
        each_by (λ p. HasPropertyTypeAt slots every_path (path ++ p.name ∷ []) p.type_of (f p.name)) (λ p. HasPropertyType slots p.type_of (f p.name))
        (λ p is. held_apart (path ++ p.name ∷ []) p.type_of (f p.name) is) (slots.properties name) has
    has_apart path (collection type) (items values) has = all_apart path type values has
    has_apart path (single (enumeration name)) (member n) has = has
    has_apart path (single (primitive p)) v has = has
    has_apart path _ _ has = absurd has

    held_apart : (path : PropertyPath) (type : PropertyType) (held : FieldVal) → HasPropertyTypeAt slots every_path path type held → HasPropertyType slots type held
    held_apart path (declared type) (present v) has = has_apart path type v has
    held_apart path (declared type) absent has = absurd has
    held_apart path opaque held has = tt
    held_apart path (navigation None) held has = tt
    held_apart path (navigation (Some type)) (present v) has = has_apart path type v (has refl)
    held_apart path (navigation (Some type)) absent has = absurd (has refl)

    all_apart : (path : PropertyPath) (type : SingleType) (values : Vals) → AllHaveTypeAt slots every_path path type values → AllHaveType slots type values
    all_apart path type no_items all = tt
    all_apart path type (item v more) all = (has_apart path (single type) v all.0, all_apart path type more all.1)

  pub outcome_apart : (path : PropertyPath) (type : ExprType) (o : Outcome) → IsOutcomeAt slots every_path path type o → IsOutcomeOf slots type o
  outcome_apart path type (gives v) is = has_apart path type v is
  outcome_apart path type overflow is = tt
  outcome_apart path type divides_by_zero is = tt

  -- the variables' paths, as any others
  abbrev pub no_steps : Environment → VariablePaths
  no_steps environment = map (λ bound. []) environment

  pub fitting_at : (environment : Environment) → IsFitting slots environment → AreFittingAt slots every_path environment (no_steps environment)
  fitting_at [] fitting = tt
  fitting_at (bound ∷ more) fitting = (has_at slots every_path [] bound.variable.type_of bound.value fitting.0, fitting_at more fitting.1)
