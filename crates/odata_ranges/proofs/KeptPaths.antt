-- What names and paths evaluate to: values as a row keeps them.
use Rattle.odata_ranges.proofs.Common.{◌≡◌, ◌⊎◌, ℕ, List, [], ◌∷◌, Bool, true, false, cond, find, Option, Some, None, inl, inr, refl, sym, subst, nat_eq, MatchOption, AllByRecursion, pointwise, Val, null, fields, FieldVal, absent, present, PrimitiveType, Tree, binary, call, in_list, it, lambda, literal, member, name, negation, node, LiteralKind, ExprType, single, collection, primitive, structured, PropertyModel, PropertyType, Slots, declared, navigation, slots_of, type_name_at, number_or_null, OperatorByTypes, BinaryOperator, Logical, Comparison, Arithmetic, LiteralTyped, PropertyTyped, StepTyped, Typed, named_type, property_named, variable_type, Filter, Environment, scope_of, variable_value, FieldGives, FoundGives, NameGives, StepGives, some_there, Then, Outcome, gives, AreKeptVariables, IsKept, IsKeptProperty, IsNullOnlyIf, property_takes_null, IsContextOf, MeansIn, CheckContext}
use Rattle.std.specs.Option.{option_map}
use Rattle.std.proofs.lemmas.Slice.Eq.{bytes_eq-Decides}

-- a value that a row may keep at the type
abbrev pub ComesKept : Slots → ExprType → Outcome → Type 0
ComesKept slots type o = (v : Val) × (o ≡ gives v) × IsKept slots type v

pub null_if_true : (v : Val) → IsNullOnlyIf true v
null_if_true null = refl
null_if_true _ = tt

-- ---- properties

-- what each property of a record has
abbrev pub KeepsFields : Slots → (List ℕ → FieldVal) → List PropertyModel → Type 0
KeepsFields slots f properties =
    AllByRecursion (λ p. IsKeptProperty slots p.type_of (property_takes_null p.type_of p.nullable) (f p.name)) properties

pub named_kept : (slots : Slots) (f : List ℕ → FieldVal) (asked : List ℕ) (p : PropertyModel) (properties : List PropertyModel) → KeepsFields slots f properties
    → property_named properties asked ≡ Some p → IsKeptProperty slots p.type_of (property_takes_null p.type_of p.nullable) (f asked)
named_kept slots f asked p [] kept found = absurd (cc)
named_kept slots f asked p (q ∷ more) kept found =
    elim (pointwise nat_eq asked q.name) as (λ is_it. pointwise nat_eq asked q.name ≡ is_it → cond is_it (Some q) (property_named more asked) ≡ Some p
    → IsKeptProperty slots p.type_of (property_takes_null p.type_of p.nullable) (f asked)) [
      | true ↦ λ same there.
          let is : q ≡ p = cc in
          let called : asked ≡ q.name = (bytes_eq-Decides asked q.name).0 same in
          subst (λ (r : PropertyModel). IsKeptProperty slots r.type_of (property_takes_null r.type_of r.nullable) (f asked)) is
          (subst (λ (n : List ℕ). IsKeptProperty slots q.type_of (property_takes_null q.type_of q.nullable) (f n)) (sym called) kept.0)
      | false ↦ λ other there. named_kept slots f asked p more kept.1 there
    ] refl found

pub kept_as : (slots : Slots) (type_of : PropertyType) (takes : Bool) (type : ExprType) (v : Val) → named_type type_of ≡ Some type
    → IsKeptProperty slots type_of takes (present v) → IsNullOnlyIf takes v × IsKept slots type v
kept_as slots (declared t) takes type v named kept = let same : t ≡ type = cc in (kept.0, subst (λ (s : ExprType). IsKept slots s v) same kept.1)
kept_as slots (navigation (Some t)) takes type v named kept = let same : t ≡ type = cc in (kept.0, subst (λ (s : ExprType). IsKept slots s v) same kept.1)
kept_as slots _ takes type v named kept = absurd (cc)

-- what a step from a record evaluates to, and when that is null
pub field_kept : (slots : Slots) (f : List ℕ → FieldVal) (asked : List ℕ) (type : ExprType) (p : PropertyModel) (properties : List PropertyModel) (o : Outcome)
    → KeepsFields slots f properties → property_named properties asked ≡ Some p → named_type p.type_of ≡ Some type → FieldGives (f asked) o
    → (v : Val) × (o ≡ gives v) × IsNullOnlyIf (property_takes_null p.type_of p.nullable) v × IsKept slots type v
field_kept slots f asked type p properties o kept found named given = by (f asked) refl given
  where
    by : (held : FieldVal) → f asked ≡ held → FieldGives held o → (v : Val) × (o ≡ gives v) × IsNullOnlyIf (property_takes_null p.type_of p.nullable) v × IsKept slots type v
    by absent is given = absurd given
    by (present v) is given =
        let both = kept_as slots p.type_of (property_takes_null p.type_of p.nullable) type v named
        (subst (λ (held : FieldVal). IsKeptProperty slots p.type_of (property_takes_null p.type_of p.nullable) held) is (named_kept slots f asked p properties kept found)) in
        (v, given, both.0, both.1)

pub step_kept : (slots : Slots) (owner asked : List ℕ) (type : ExprType) (w : Val) (o : Outcome) → IsKept slots (single (structured owner)) w
    → PropertyTyped (slots.properties owner) asked type → StepGives w asked o → ComesKept slots type o
step_kept slots owner asked type null o kept typed given = (null, given, tt)
step_kept slots owner asked type (fields f) o kept typed given =
    let found = some_there (λ p. named_type p.type_of ≡ Some type) (property_named (slots.properties owner) asked) typed in
    let comes = field_kept slots f asked type found.0 (slots.properties owner) o kept found.1.0 found.1.1 given in
    (comes.0, comes.1, comes.3)
step_kept slots owner asked type _ o kept typed given = absurd given

-- ---- variables

-- the variable of a name, or none
abbrev pub IsLookedUp : Slots → Option Val → Option ExprType → Type 0
IsLookedUp slots value type =
    ((v : Val) × (t : ExprType) × (value ≡ Some v) × (type ≡ Some t) × IsKept slots t v) ⊎ ((value ≡ None) × (type ≡ None))

pub looked_up : (slots : Slots) (environment : Environment) (asked : List ℕ) → AreKeptVariables slots environment
    → IsLookedUp slots (variable_value environment asked) (variable_type (scope_of environment) asked)
looked_up slots [] asked kept = inr (refl, refl)
looked_up slots (bound ∷ more) asked kept =
    elim (pointwise nat_eq asked bound.variable.name) as (λ is_it. IsLookedUp slots
    (option_map (λ b. b.value) (cond is_it (Some bound) (find (λ b. pointwise nat_eq asked b.variable.name) more)))
    (option_map (λ v. v.type_of) (cond is_it (Some bound.variable) (find (λ v. pointwise nat_eq asked v.name) (scope_of more))))) [
      | true ↦ inl (bound.value, bound.variable.type_of, refl, refl, kept.0)
      | false ↦ looked_up slots more asked kept.1
    ]

pub name_kept : (slots : Slots) (root : List ℕ) (entity : Val) (environment : Environment) (asked : List ℕ) (type : ExprType) (o : Outcome)
    → IsKept slots (single (structured root)) entity → AreKeptVariables slots environment
    → MatchOption (variable_type (scope_of environment) asked) (PropertyTyped (slots.properties root) asked type) (λ t. type ≡ t)
    → NameGives environment entity asked o → ComesKept slots type o
name_kept slots root entity environment asked type o kept variables typed given =
    elim (looked_up slots environment asked variables) [
      | inl is ↦ (
          let same : type ≡ is.1 =
          subst (λ (found : Option ExprType). MatchOption found (PropertyTyped (slots.properties root) asked type) (λ t. type ≡ t)) is.3 typed in
          let comes : o ≡ gives is.0 = subst (λ (found : Option Val). FoundGives found entity asked o) is.2 given in
          (is.0, comes, subst (λ (t : ExprType). IsKept slots t is.0) (sym same) is.4)
          )
      | inr none ↦
          step_kept slots root asked type entity o kept
          (subst (λ (found : Option ExprType). MatchOption found (PropertyTyped (slots.properties root) asked type) (λ t. type ≡ t)) none.1 typed)
          (subst (λ (found : Option Val). FoundGives found entity asked o) none.0 given)
    ]

-- ---- only names and paths are records or collections

abbrev pub IsPathType : ExprType → Type 0
IsPathType (single (structured owner)) = Unit {0}
IsPathType (collection kept) = Unit {0}
IsPathType _ = ⊥

pub no_path : (p : PrimitiveType) (type : ExprType) → type ≡ single (primitive p) → IsPathType type → ⊥
no_path p type is path = subst IsPathType is path

pub number_no_path : (number : Option PrimitiveType) (type : ExprType) → type ≡ number_or_null number → IsPathType type → ⊥
number_no_path None type is path = subst IsPathType is path
number_no_path (Some p) type is path = subst IsPathType is path

pub class_no_path : (class : BinaryOperator) (left right type : ExprType) → OperatorByTypes class left right type → IsPathType type → ⊥
class_no_path (Logical connective) left right type typed path = no_path PrimitiveType.Bool type typed.2 path
class_no_path (Comparison comparison) left right type typed path = no_path PrimitiveType.Bool type typed.1 path
class_no_path (Arithmetic arithmetic) left right type typed path = number_no_path _ type typed.type_is path

pub literal_no_path : (slots : Slots) (kind : LiteralKind) (spelling : List ℕ) (type : ExprType) → LiteralTyped slots kind spelling type → IsPathType type → ⊥
literal_no_path slots LiteralKind.Null spelling type typed path = subst IsPathType typed path
literal_no_path slots LiteralKind.Int spelling type typed path = subst IsPathType typed.2.2 path
literal_no_path slots LiteralKind.EnumLit spelling type typed path = subst IsPathType typed.3 path
literal_no_path slots _ spelling type typed path = subst IsPathType typed.2 path

-- what a step from such a base evaluates to
member_kept : (slots : Slots) (Base : ExprType → Type 0) (asked : List ℕ) (type operand : ExprType) (first o : Outcome)
    → ((s : ExprType) → IsPathType s → Base s → ComesKept slots s first) → Base operand → StepTyped slots asked operand type
    → Then first (λ v. StepGives v asked) o → ComesKept slots type o
member_kept slots Base asked type (single (structured owner)) first o base_kept typed makes then =
    let base = base_kept (single (structured owner)) tt typed in
    step_kept slots owner asked type base.0 o base.2 makes (subst (λ (x : Outcome). Then x (λ v. StepGives v asked) o) base.1 then)
member_kept slots Base asked type _ first o base_kept typed makes then = absurd makes

module _ (filter : Filter) (context : CheckContext) (is : IsContextOf filter context) where
  pub tree_kept : (tree : Tree) (type : ExprType) (o : Outcome) → IsPathType type
      → Typed (slots_of filter.schema) (type_name_at filter.schema filter.filtered) (scope_of context.environment) tree type
      → MeansIn filter context tree o → ComesKept (slots_of filter.schema) type o
  tree_kept (node from to it) type o path typed means =
      (context.entity, means, subst (λ (t : ExprType). IsKept (slots_of filter.schema) t context.entity) (sym typed) is.kept)
  tree_kept (node from to (name asked)) type o path typed means =
      name_kept (slots_of filter.schema) (type_name_at filter.schema filter.filtered) context.entity context.environment asked type o is.kept is.variables typed means
  tree_kept (node from to (member base asked)) type o path typed means =
      member_kept (slots_of filter.schema)
      (λ s. Typed (slots_of filter.schema) (type_name_at filter.schema filter.filtered) (scope_of context.environment) base s) asked type
      typed.operand means.0 o (λ s path_type base_typed. tree_kept base s means.0 path_type base_typed means.1.0) typed.operand_typed typed.makes means.1.1
  tree_kept (node from to (literal kind spelling)) type o path typed means = absurd (literal_no_path (slots_of filter.schema) kind spelling type typed path)
  tree_kept (node from to (negation operand)) type o path typed means = absurd (number_no_path _ type typed.makes.type_is path)
  tree_kept (node from to (binary operator left right)) type o path typed means = elim typed.makes [
    | inl by_class ↦ absurd (class_no_path operator _ _ type by_class path)
    | inr one ↦ absurd (no_path _ type one.1 path)
  ]
  tree_kept (node from to (in_list left listed)) type o path typed means = absurd (no_path _ type typed.makes.2 path)
  tree_kept (node from to (call asked arguments)) type o path typed means = absurd (no_path _ type typed.call_typed.typed.gives path)
  tree_kept (node from to (lambda quantifier base variable body)) type o path typed means = absurd (no_path _ type typed.makes path)
  tree_kept (node from to _) type o path typed means = absurd (no_path _ type typed.makes.1 path)
