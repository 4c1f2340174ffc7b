-- Sides of operators and items of lists: a text that is read as the number of an enumeration, or a tree by itself.
use Rattle.sql_outcomes.proofs.Common.{◌≡◌, ◌⊎◌, ◌∙◌, inl, inr, ℕ, ℤ, ◌<◌, ◌+◌, List, Option, Some, None, refl, sym, ap, subst, arith, slice_get, IsMoment, Val, member, null, Value, ExprType, enumeration, single, SchemaModel, Slots, slots_of, Filter, IsLiteralNode, IsValueOf, Stands, CheckedNode, NodeKind, further_in, found_there, EndsOnceOnEntities, scope_of, GivesMember, OperandGives, LiteralValue, IsQuotedNumber, ResolvedNumber, OfEquality, ReadsNone, ReadsNumber, quoted_text, expr_type, Scope, Typed, EdmType, ValueType, Outcome, gives, Range, number_there, Tree, literal, node, BinaryOperator, LiteralKind, SqlType, Operand, Source, Kind, CodeHas, HasOrCode, NoTruth, carrier_in, IsOfKind, kind_of_type, Fits, IsNodeAt, IsNumberOperand, IsReadAt, IsSideAt, OperandHas, SourceHas, AreRanges, IsAskedOf, OfPlace, Question, World, BesideIn, MeansOf, means_in, means_of, by_kind}
use Rattle.odata_checked_filter.specs.Stands.{HasValue}
use Rattle.filter_context.proofs.Operands.{one_kind}
use Rattle.sql_outcomes.proofs.nodes.BinaryPlaces.{top_node}
use Rattle.sql_outcomes.proofs.nodes.WorldNodes.{ends_there, node_fits, node_plain}

-- ---- the number that is read

-- a String literal stands for one number at most
abbrev pub OneNumber : Type 0
OneNumber = (slots : Slots) (name spelling : List ℕ) (m n : ℤ) → IsQuotedNumber slots name spelling m → IsQuotedNumber slots name spelling n → m ≡ n

one_beside : OneNumber → (slots : Slots) (type : ExprType) (quoted : Option (List ℕ)) (m n : ℤ) → ResolvedNumber slots type quoted m → ResolvedNumber slots type quoted n → m ≡ n
one_beside one slots (single (enumeration named)) (Some spelling) m n p q = one slots named spelling m n p q
one_beside one slots (single (enumeration named)) None m n p q = absurd p
one_beside one slots _ quoted m n p q = absurd p

pub one_read : OneNumber → (slots : Slots) (OtherSide : ExprType → Type 0) (tree : Tree) → ((s t : ExprType) → OtherSide s → OtherSide t → s ≡ t) → (m n : ℤ) → ReadsNumber slots OtherSide tree m
    → ReadsNumber slots OtherSide tree n → m ≡ n
one_read one slots OtherSide tree types m n p q =
    one_beside one slots p.type_of (quoted_text tree) m n p.number
    (subst (λ (t : ExprType). ResolvedNumber slots t (quoted_text tree) n) (types q.type_of p.type_of q.beside p.beside) q.number)

unquoted : (slots : Slots) (type : ExprType) (n : ℤ) → ResolvedNumber slots type None n → ⊥
unquoted slots (single (enumeration name)) n number = number
unquoted slots _ n number = number

-- of two operands one is read at most
pub not_both : (slots : Slots) (root : List ℕ) (scope : Scope) (operator : BinaryOperator) (left right : Tree) (m n : ℤ) → ReadsNumber slots (OfEquality operator (Typed slots root scope right)) left m
    → ReadsNumber slots (OfEquality operator (Typed slots root scope left)) right n → ⊥
not_both slots root scope operator (node from to (literal LiteralKind.Str spelling)) right m n of_left of_right =
    subst (λ (t : ExprType). ResolvedNumber slots t (quoted_text right) n) of_right.beside.1.2 of_right.number
not_both slots root scope operator _ right m n of_left of_right = unquoted slots of_left.type_of m of_left.number

-- what is read stands beside a value of an enumeration
pub beside_member : (slots : Slots) (schema : SchemaModel) (type : ExprType) (edm_type : EdmType) (quoted : Option (List ℕ)) (n : ℤ) → type ≡ expr_type schema edm_type → ResolvedNumber slots type quoted n
    → kind_of_type edm_type ≡ Kind.Value SqlType.Member
beside_member slots schema type (EdmType.Single (ValueType.Enum id)) quoted n same number = refl
beside_member slots schema type (EdmType.Collection t) quoted n same number = absurd (subst (λ (u : ExprType). ResolvedNumber slots u quoted n) same number)
beside_member slots schema type _ quoted n same number = absurd (subst (λ (t : ExprType). ResolvedNumber slots t quoted n) same number)

-- ---- what stands there

-- its first node, and where it ends
pub record FoundAt (filter : Filter) (i j : ℕ) : Type 0 where
  pub found : CheckedNode
  pub at : slice_get filter.list.nodes i ≡ Some found
  pub stops : found.stop ≡ j
  pub further : i < j

module _ (filter : Filter) (scope : Scope) (OtherSide : ExprType → Type 0) (tree : Tree) (i j : ℕ) where
  pub tree_found : Stands filter.schema filter.filtered scope filter.list i j tree → FoundAt filter i j
  tree_found stands =
      let top = top_node filter scope i j tree stands in
      record { found = top.found; at = top.at; stops = top.stops; further = further_in filter.schema filter.filtered filter.list scope i j tree stands }

  pub beside_found : BesideIn filter scope OtherSide tree i j → FoundAt filter i j
  beside_found (inl read) =
      let there = number_there filter.schema filter.filtered scope filter.list read.0 i j tree read.2 in
      let next : i + 1 ≡ j = there.next in
      record { found = there.found; at = there.found_at; stops = there.stops; further = omega (arith, next) }
  beside_found (inr none) = tree_found none.1

-- ---- which of the two an operand is

-- a text that is read is no tree by itself
pub read_apart : (filter : Filter) (scope : Scope) (place value : ℕ) → IsReadAt filter place value → (stop : ℕ) (tree : Tree) → Stands filter.schema filter.filtered scope filter.list place stop tree → ⊥
read_apart filter scope place value read =
    by_kind filter.schema filter.filtered scope filter.list place (NodeKind.Literal LiteralKind.Str value) read.literal (λ stop tree. ⊥)
    (λ k spelling stop from to stands.
    let slots = slots_of filter.schema in
    let kind_is = found_there (λ (f : CheckedNode). f.kind ≡ NodeKind.Literal LiteralKind.Str value) (slice_get filter.list.nodes place) stands.top.found stands.top.stands_at read.literal in
    let is_text : LiteralKind.Str ≡ k = subst (IsLiteralNode k) kind_is stands.top.kind in
    let valued = subst (HasValue filter.list.values (IsValueOf slots k spelling)) kind_is stands.top.valued in
    let held = found_there (IsValueOf slots k spelling) (slice_get filter.list.values value) (Value.Enum read.has.0) read.has.1 valued in
    let is_member : held.val ≡ member read.has.0 = cc held.plain in
    subst (λ (l : LiteralKind). LiteralValue slots l spelling (member read.has.0)) (sym is_text) (subst (LiteralValue slots k spelling) is_member held.value_of))

pub record IsRead (filter : Filter) (OtherSide : ExprType → Type 0) (tree : Tree) (place : ℕ) (operand : Operand) : Type 0 where
  pub number : ℤ
  pub reads : ReadsNumber (slots_of filter.schema) OtherSide tree number
  pub is : IsNumberOperand filter operand place
  pub held : slice_get filter.list.values is.value ≡ Some (Value.Enum number)

pub record IsAlone (filter : Filter) (ranges : List Range) (scope : Scope) (OtherSide : ExprType → Type 0) (tree : Tree) (place stop : ℕ) (operand : Operand) : Type 0 where
  pub none : ReadsNone (slots_of filter.schema) OtherSide tree
  pub stands : Stands filter.schema filter.filtered scope filter.list place stop tree
  pub is : IsNodeAt filter ranges place operand

module _ (filter : Filter) (ranges : List Range) (scope : Scope) (OtherSide : ExprType → Type 0) (tree : Tree) (place stop : ℕ) (operand : Operand) where
  abbrev pub IsEither : Type 0
  IsEither = IsRead filter OtherSide tree place operand ⊎ IsAlone filter ranges scope OtherSide tree place stop operand

  pub side_cases : IsSideAt filter ranges place operand → BesideIn filter scope OtherSide tree place stop → IsEither
  side_cases (inl number) (inl read) =
      let there = number_there filter.schema filter.filtered scope filter.list read.0 place stop tree read.2 in
      let kinds = one_kind (slice_get filter.list.nodes place) (NodeKind.Literal LiteralKind.Str there.value) (NodeKind.Literal LiteralKind.Str number.value) there.here number.read.literal in
      let same : there.value ≡ number.value = cc in
      inl (record {
        number = read.0;
        reads = read.1;
        is = number;
        held = subst (λ (k : ℕ). slice_get filter.list.values k ≡ Some (Value.Enum read.0)) same there.at;
      })
  side_cases (inl number) (inr alone) = absurd (read_apart filter scope place number.value number.read stop tree alone.1)
  side_cases (inr unread) (inl read) =
      let there = number_there filter.schema filter.filtered scope filter.list read.0 place stop tree read.2 in
      absurd (unread.0 there.value (record { literal = there.here; has = (read.0, there.at) }))
  side_cases (inr unread) (inr alone) = inr (record { none = alone.0; stands = alone.1; is = unread.1 })

-- ---- what it evaluates to

-- a node, whether by its value or by its code
pub node_has : (filter : Filter) (kind : Kind) (place : ℕ) (world : World) (o : Outcome) → OfPlace filter place world o → HasOrCode filter kind (Source.Node place) world o
node_has filter (Kind.Value SqlType.Truth) place world o has = has
node_has filter kind place world o has = has

-- no side is a value that is bound, so what has its code has it by itself
abbrev IsUnbound : Source → Type 0
IsUnbound (Source.Bound level) = ⊥
IsUnbound source = Unit {0}

by_code : (filter : Filter) (source : Source) (world : World) (p : Outcome) → IsUnbound source → CodeHas filter source world p → SourceHas filter source world p
by_code filter (Source.Bound level) world p unbound has = absurd unbound
by_code filter source world p unbound has = has

by_kinds : (filter : Filter) (kind : Kind) (source : Source) (world : World) (p : Outcome) → IsUnbound source → HasOrCode filter kind source world p → SourceHas filter source world p
by_kinds filter (Kind.Value SqlType.Truth) source world p unbound has = by_code filter source world p unbound has
by_kinds filter kind source world p unbound has = has

pub record SideComes (filter : Filter) (operand : Operand) (world : World) (p : Outcome) : Type 0 where
  pub has : HasOrCode filter operand.kind operand.source world p
  pub fits : (v : Val) → p ≡ gives v → Fits operand v
  pub plain : NoTruth operand → carrier_in operand ≡ None → (v : Val) × (p ≡ gives v)

pub side_operand : (filter : Filter) (ranges : List Range) (scope : Scope) (OtherSide : ExprType → Type 0) (tree : Tree) (place stop : ℕ) (operand : Operand)
    → IsEither filter ranges scope OtherSide tree place stop operand → (world : World) (p : Outcome) → SideComes filter operand world p → OperandHas filter operand world p
side_operand filter ranges scope OtherSide tree place stop operand (inl read) world p comes =
    by_kinds filter operand.kind operand.source world p (subst IsUnbound (sym read.is.source) tt) comes.has
side_operand filter ranges scope OtherSide tree place stop operand (inr alone) world p comes =
    by_kinds filter operand.kind operand.source world p (subst IsUnbound (sym alone.is.source) tt) comes.has

member_fits : (operand : Operand) (n : ℤ) → operand.kind ≡ Kind.Value SqlType.Member → (v : Val) → gives (member n) ≡ gives v → Fits operand v
member_fits operand n kind v same =
    let is_v : member n ≡ v = cc in
    record {
      kind = subst (λ (k : Kind). IsOfKind k v) (sym kind) (subst (IsOfKind (Kind.Value SqlType.Member)) is_v tt);
      nullable = λ none. let e : member n ≡ null = is_v ∙ none in absurd (cc);
    }

pub number_comes : (filter : Filter) (operand : Operand) (place : ℕ) (world : World) (is : IsNumberOperand filter operand place) (n : ℤ) → slice_get filter.list.values is.value ≡ Some (Value.Enum n)
    → SideComes filter operand world (gives (member n))
number_comes filter operand place world is n held = record {
  has =
      subst (λ (k : Kind). HasOrCode filter k operand.source world (gives (member n))) (sym is.kind)
      (subst (λ (s : Source). HasOrCode filter (Kind.Value SqlType.Member) s world (gives (member n))) (sym is.source) (n, held, refl));
  fits = λ v same. member_fits operand n is.kind v same;
  plain = λ other none. (member n, refl);
}

module _ (question : Question) (ranges : List Range) (are : AreRanges question ranges) (ends : EndsOnceOnEntities) (is_moment : IsMoment question.now.civil question.now.offset_minutes) (world : World)
    (seen : IsAskedOf question world) where
  pub node_comes : (place stop : ℕ) (operand : Operand) (tree : Tree) → IsNodeAt question.filter ranges place operand
      → Stands question.filter.schema question.filter.filtered (scope_of world.environment) question.filter.list place stop tree → (p : Outcome) → MeansOf question world seen tree p
      → SideComes question.filter operand world p
  node_comes place stop operand tree is stands p means =
      let has : OfPlace question.filter place world p = (tree, record { stop = stop; stands = stands }, means_in question world seen tree p means) in
      record {
        has = subst (λ (s : Source). HasOrCode question.filter operand.kind s world p) (sym is.source) (node_has question.filter operand.kind place world p has);
        fits = λ v same. node_fits question ends is_moment world seen ranges are operand place is.is v (subst (OfPlace question.filter place world) same has);
        plain = λ other none. node_plain question ends is_moment world seen ranges are operand place is.is other p has none;
      }

  module _ (one : OneNumber) (OtherSide : ExprType → Type 0) (one_type : (s t : ExprType) → OtherSide s → OtherSide t → s ≡ t) (tree : Tree) (place stop : ℕ) (operand : Operand)
      (either : IsEither question.filter ranges (scope_of world.environment) OtherSide tree place stop operand) where
    -- the number that is read, or else what the tree evaluates to
    abbrev pub SideMeans : Outcome → Type 0
    SideMeans = OperandGives (ReadsNumber (slots_of question.filter.schema) OtherSide tree) (MeansOf question world seen tree)

    comes_by : IsEither question.filter ranges (scope_of world.environment) OtherSide tree place stop operand → (p : Outcome) → SideMeans p → SideComes question.filter operand world p
    comes_by (inl read) p (inl given) =
        let same : given.0 ≡ read.number = one_read one (slots_of question.filter.schema) OtherSide tree one_type given.0 read.number given.1 read.reads in
        let gives_it : p ≡ gives (member given.0) = given.2 in
        subst (SideComes question.filter operand world) (sym (gives_it ∙ ap (λ (m : ℤ). gives (member m)) same)) (number_comes question.filter operand place world read.is read.number read.held)
    comes_by (inl read) p (inr none) = absurd (none.0 read.number read.reads)
    comes_by (inr alone) p (inl given) = absurd (alone.none given.0 given.1)
    comes_by (inr alone) p (inr means) = node_comes place stop operand tree alone.is alone.stands p means.1

    pub side_comes : (p : Outcome) → SideMeans p → SideComes question.filter operand world p
    side_comes = comes_by either

    some_by : IsEither question.filter ranges (scope_of world.environment) OtherSide tree place stop operand → (p : Outcome) × SideMeans p
    some_by (inl read) = (gives (member read.number), inl (read.number, read.reads, refl))
    some_by (inr alone) =
        let e = ends_there question ends is_moment world seen place alone.is.is.node alone.is.is.at stop tree alone.stands in
        (e.outcome, inr (alone.none, means_of question world seen tree e.outcome e.related))

    -- it evaluates to something
    pub side_some : (p : Outcome) × SideMeans p
    side_some = some_by either
