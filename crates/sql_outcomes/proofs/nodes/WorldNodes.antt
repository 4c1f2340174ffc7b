-- What a node evaluates to in a world: one outcome, of its type and within its range.
use Rattle.sql_outcomes.proofs.Common.{◌≡◌, ◌≢◌, ℕ, List, Bool, true, Some, None, refl, sym, subst, slice_get, IsMoment, MomentParts, Val, boolean, date, fields, guid, items, member, moment, null, text, whole, PrimitiveType, ExprType, SchemaModel, Slots, slots_of, type_name_at, HasType, IsPrimitiveValue, value_of, Stands, CheckedNode, some_there, EndsOnce, EndsOnceOnEntities, IsOutcomeOf, scope_of, Typed, Outcome, gives, overflow, divides_by_zero, IsCoded, IsValueWithin, Range, expr_type, EdmType, ValueType, Tree, node, SqlType, Operand, Kind, NoTruth, IsOfKind, kind_of_type, IsOfType, type_of_primitive, carrier_in, Fits, IsNodeOperand, carrier_of, AreRanges, IsCarriedKind, IsTruthAt, IsTruthKind, IsAskedOf, OfPlace, Question, World, found_is}

-- ---- kinds

primitive_kind : (p : PrimitiveType) (v : Val) → IsPrimitiveValue v p → IsOfType (type_of_primitive p) v
primitive_kind PrimitiveType.Bool (boolean b) is = tt
primitive_kind PrimitiveType.Byte (whole n) is = tt
primitive_kind PrimitiveType.SByte (whole n) is = tt
primitive_kind PrimitiveType.Int16 (whole n) is = tt
primitive_kind PrimitiveType.Int32 (whole n) is = tt
primitive_kind PrimitiveType.Int64 (whole n) is = tt
primitive_kind PrimitiveType.String (text s) is = tt
primitive_kind PrimitiveType.Date (date d) is = tt
primitive_kind PrimitiveType.DateTimeOffset (moment m) is = tt
primitive_kind PrimitiveType.Guid (guid bytes) is = tt
primitive_kind p v is = absurd is

-- a value of a type is of its kind
pub typed_kind : (slots : Slots) (schema : SchemaModel) (type : EdmType) (v : Val) → HasType slots (expr_type schema type) v → IsOfKind (kind_of_type type) v
typed_kind slots schema EdmType.Null null is = refl
typed_kind slots schema (EdmType.Single (ValueType.Prim p)) null is = tt
typed_kind slots schema (EdmType.Single (ValueType.Prim p)) v is = primitive_kind p v is
typed_kind slots schema (EdmType.Single (ValueType.Enum id)) null is = tt
typed_kind slots schema (EdmType.Single (ValueType.Enum id)) (member n) is = tt
typed_kind slots schema (EdmType.Single (ValueType.Structured id)) null is = tt
typed_kind slots schema (EdmType.Single (ValueType.Structured id)) (fields held) is = tt
typed_kind slots schema (EdmType.Collection type) null is = tt
typed_kind slots schema (EdmType.Collection type) (items values) is = tt
typed_kind slots schema _ v is = absurd is

carried : (kind : Kind) → IsCarriedKind kind → kind ≢ Kind.Value SqlType.Truth → carrier_of true kind ≡ None → ⊥
carried (Kind.Value SqlType.Truth) is other none = other refl
carried (Kind.Value SqlType.Whole) is other none = cc
carried (Kind.Value SqlType.Text) is other none = cc
carried kind is other none = is

module _ (question : Question) (ends : EndsOnceOnEntities) (is_moment : IsMoment question.now.civil question.now.offset_minutes) (world : World) (seen : IsAskedOf question world) where
  abbrev TypedIn : Tree → ExprType → Type 0
  TypedIn = Typed (slots_of world.row.schema) (type_name_at world.row.schema world.row.type_id) (scope_of world.environment)

  abbrev EndsIn : Tree → ExprType → Type 0
  EndsIn = EndsOnce (slots_of world.row.schema) (type_name_at world.row.schema world.row.type_id) world.now (value_of world.row) world.environment

  ends_in : (tree : Tree) (type : ExprType) → TypedIn tree type → EndsIn tree type
  ends_in tree type typed =
      ends world.row world.now world.environment tree type (subst (λ (m : MomentParts). IsMoment m.civil m.offset_minutes) (sym seen.moment_is) is_moment) seen.row_is.entity seen.fitting typed

  -- what stands at an index
  abbrev StandsIn : ℕ → ℕ → Tree → Type 0
  StandsIn place stop tree = Stands question.filter.schema question.filter.filtered (scope_of world.environment) question.filter.list place stop tree

  typed_in : (place : ℕ) (found : CheckedNode) → slice_get question.filter.list.nodes place ≡ Some found → (stop : ℕ) (tree : Tree) → StandsIn place stop tree
      → TypedIn tree (expr_type world.row.schema found.edm_type)
  typed_in place found at stop (node from to shape) stands =
      let scope = scope_of world.environment in
      let is = found_is question.filter.schema question.filter.filtered scope question.filter.list place found at stop from to shape stands in
      subst (λ (n : ℕ). Typed (slots_of world.row.schema) (type_name_at world.row.schema n) scope (node from to shape) (expr_type world.row.schema found.edm_type)) (sym seen.row_is.type_is)
      (subst (λ (s : SchemaModel). Typed (slots_of s) (type_name_at s question.filter.filtered) scope (node from to shape) (expr_type s found.edm_type)) (sym seen.row_is.schema_is)
      (subst (λ (f : CheckedNode). Typed (slots_of question.filter.schema) (type_name_at question.filter.schema question.filter.filtered) scope (node from to shape) (expr_type question.filter.schema f.edm_type)) is
      stands.top.typed))

  pub ends_there : (place : ℕ) (found : CheckedNode) → slice_get question.filter.list.nodes place ≡ Some found → (stop : ℕ) (tree : Tree) → StandsIn place stop tree
      → EndsIn tree (expr_type world.row.schema found.edm_type)
  ends_there place found at stop tree stands = ends_in tree (expr_type world.row.schema found.edm_type) (typed_in place found at stop tree stands)

  -- it evaluates to something
  pub comes : (place : ℕ) (found : CheckedNode) → slice_get question.filter.list.nodes place ≡ Some found → (stop : ℕ) (tree : Tree) → StandsIn place stop tree
      → (o : Outcome) × OfPlace question.filter place world o
  comes place found at stop tree stands = let e = ends_there place found at stop tree stands in (e.outcome, (tree, record { stop = stop; stands = stands }, e.related))

  -- of its type
  pub of_type : (place : ℕ) (found : CheckedNode) → slice_get question.filter.list.nodes place ≡ Some found → (o : Outcome) → OfPlace question.filter place world o
      → IsOutcomeOf (slots_of world.row.schema) (expr_type world.row.schema found.edm_type) o
  of_type place found at o has =
      let e = ends_there place found at has.1.stop has.0 has.1.stands in
      subst (IsOutcomeOf (slots_of world.row.schema) (expr_type world.row.schema found.edm_type)) (sym (e.only o has.2)) e.of_type

  -- a truth value, null or a fault has a code
  pub truth_coded : (place : ℕ) → IsTruthAt question.filter place → (o : Outcome) → OfPlace question.filter place world o → IsCoded o
  truth_coded place truth o has =
      let node = some_there (λ (n : CheckedNode). IsTruthKind (kind_of_type n.edm_type)) (slice_get question.filter.list.nodes place) truth in
      coded_outcome node.0.edm_type node.1.1 o (of_type place node.0 node.1.0 o has)
    where
      kind_coded : (kind : Kind) (v : Val) → IsTruthKind kind → IsOfKind kind v → IsCoded (gives v)
      kind_coded Kind.Null v is of_kind = subst (λ (w : Val). IsCoded (gives w)) (sym of_kind) tt
      kind_coded (Kind.Value SqlType.Truth) null is of_kind = tt
      kind_coded (Kind.Value SqlType.Truth) (boolean b) is of_kind = tt
      kind_coded (Kind.Value SqlType.Truth) v is of_kind = absurd of_kind
      kind_coded kind v is of_kind = absurd is

      coded_outcome : (type : EdmType) → IsTruthKind (kind_of_type type) → (p : Outcome) → IsOutcomeOf (slots_of world.row.schema) (expr_type world.row.schema type) p → IsCoded p
      coded_outcome type is (gives v) typed = kind_coded (kind_of_type type) v is (typed_kind (slots_of world.row.schema) world.row.schema type v typed)
      coded_outcome type is _ typed = tt

  module _ (ranges : List Range) (are : AreRanges question ranges) (operand : Operand) (place : ℕ) (is : IsNodeOperand question.filter ranges operand place) where
    pub node_fits : (v : Val) → OfPlace question.filter place world (gives v) → Fits operand v
    node_fits v has = record {
      kind = subst (λ (k : Kind). IsOfKind k v) (sym is.kind) (typed_kind (slots_of world.row.schema) world.row.schema is.node.edm_type v (of_type place is.node is.at (gives v) has));
      nullable = λ null_it. subst (λ (w : Val). IsValueWithin operand.range w) null_it (are.within place operand.range world (gives v) is.range seen has);
    }

    faulting : operand.range.may_fault ≡ true → NoTruth operand → carrier_in operand ≡ None → ⊥
    faulting faults other none =
        let kind : IsCarriedKind operand.kind = subst IsCarriedKind (sym is.kind) (are.carries place is.node operand.range is.at is.range faults) in
        carried operand.kind kind other (subst (λ (b : Bool). carrier_of b operand.kind ≡ None) faults none)

    -- what carries no faults evaluates to a value
    pub node_plain : NoTruth operand → (o : Outcome) → OfPlace question.filter place world o → carrier_in operand ≡ None → (v : Val) × (o ≡ gives v)
    node_plain other (gives v) has none = (v, refl)
    node_plain other overflow has none = absurd (faulting (are.within place operand.range world overflow is.range seen has) other none)
    node_plain other divides_by_zero has none = absurd (faulting (are.within place operand.range world divides_by_zero is.range seen has) other none)
