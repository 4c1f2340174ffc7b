-- What `in` before a path evaluates to, by what its left side does and by the members of the collection.
use Rattle.sql_outcomes.proofs.Common.{◌≡◌, ◌<◌, ◌+◌, ◌∷◌, [], ℕ, zero, suc, List, Bool, true, false, Option, Some, None, length, map, refl, sym, ap, subst, ◌∙◌, arith, IsSomeAnd, slice_get, AllByRecursion, IsMoment, Val, boolean, items, null, ExprType, SingleType, collection, null_type, single, SchemaModel, Slots, slots_of, type_name_at, HasType, Tree, in_path, node, ComparisonOperator, Quantifier, IsComparableWithMembers, AreComparable, expr_type, single_type, EdmType, ValueType, OneType, Scope, Typed, Stands, CheckedNode, NodeKind, EndsOnceOnEntities, scope_of, HasKind, comparable_values, AtMostOne, one_there, there_found, members_of, CompareGives, InGives, Then, Outcome, gives, overflow, divides_by_zero, QuantifierGives, Range, truth, IsFault, Operand, Source, HasOrCode, IsOfKind, kind_of_single, kind_of_type, EachMemberEquals, MembersAt, some_of, IsOrNull, IsNodeOperand, AreRanges, IsCarriedKind, IsAskedOf, OfPlace, Question, World, MeansOf, means_in, means_of, by_kind, stop_is, slice_get_within}
use Rattle.odata_meaning.proofs.meaning.OneLeaf.{CompareGives-one}
use Rattle.sql_outcomes.proofs.nodes.BinaryPlaces.{top_node}
use Rattle.sql_outcomes.proofs.nodes.Sides.{node_has}
use Rattle.sql_outcomes.proofs.nodes.ListNodes.{Decided}
use Rattle.sql_outcomes.proofs.nodes.MemberWorlds.{all_typed}
use Rattle.sql_outcomes.proofs.outcomes.Quantified.{AreTruths, any_is, any_true}
use Rattle.sql_outcomes.proofs.nodes.TypedValues.{has_type}
use Rattle.sql_outcomes.proofs.nodes.WorldNodes.{ends_there, node_fits, node_plain, typed_kind}
use Rattle.odata_checked_filter.proofs.flat.Places.{found_within}
use Rattle.sql_outcomes.specs.NodesGo.{InPathComes}

-- ---- types

-- the right side is a collection
pub with_members : (left right : ExprType) → IsComparableWithMembers left right → (m : SingleType) × (right ≡ collection m) × AreComparable left (single m)
with_members left (collection m) is = (m, refl, is)
with_members left _ is = absurd is

pub collection_type : (schema : SchemaModel) (type : EdmType) (m : SingleType) → expr_type schema type ≡ collection m → (held : ValueType) × (type ≡ EdmType.Collection held) × (single_type schema held ≡ m)
collection_type schema EdmType.Null m same = let e : null_type ≡ collection m = same in absurd (cc)
collection_type schema (EdmType.Single held) m same = let e : single (single_type schema held) ≡ collection m = same in absurd (cc)
collection_type schema (EdmType.Collection held) m same =
    let e : collection (single_type schema held) ≡ collection m = same in
    let is : single_type schema held ≡ m = cc in
    (held, refl, is)

pub at_place : {A : Type 0} (xs : List A) (k : ℕ) → k < length xs → (x : A) × (slice_get xs k ≡ Some x)
at_place xs k below = found_within xs k below

-- ---- a value compared with each of the members

any_of_flags : (bs : List Bool) → any_true (map (λ (b : Bool). Some b) bs) ≡ some_of bs
any_of_flags (false ∷ bs) = any_of_flags bs
any_of_flags _ = refl

one_at : (l : Val) (held : Option Val) → AtMostOne (λ p. IsSomeAnd held (λ v. CompareGives ComparisonOperator.Eq l v p))
one_at l None a b is_a is_b = absurd is_a
one_at l (Some v) a b is_a is_b = CompareGives-one ComparisonOperator.Eq l v a b is_a is_b

flag_at : (l : Val) (vs : List Val) (bs : List Bool) → EachMemberEquals l vs bs → (k : ℕ) (t : Option Bool) → slice_get (map (λ (b : Bool). Some b) bs) k ≡ Some t
    → IsSomeAnd (slice_get vs k) (λ v. CompareGives ComparisonOperator.Eq l v (truth t))
flag_at l [] bs each k t is =
    let none : slice_get (map (λ (b : Bool). Some b) []) k ≡ Some t = subst (λ (cs : List Bool). slice_get (map (λ (b : Bool). Some b) cs) k ≡ Some t) each is in
    absurd (cc)
flag_at l (v ∷ vs) [] each k t is = absurd each
flag_at l (v ∷ vs) (b ∷ bs) each zero t is =
    let same : Some b ≡ t = cc is in
    subst (λ (s : Option Bool). CompareGives ComparisonOperator.Eq l v (truth s)) same each.0
flag_at l (v ∷ vs) (b ∷ bs) each (suc k) t is = flag_at l vs bs each.1 k t is

flag_inside : (l : Val) (vs : List Val) (bs : List Bool) → EachMemberEquals l vs bs → (k : ℕ) (o : Outcome) → IsSomeAnd (slice_get vs k) (λ v. CompareGives ComparisonOperator.Eq l v o)
    → (t : Option Bool) × (slice_get (map (λ (b : Bool). Some b) bs) k ≡ Some t)
flag_inside l [] bs each k o is = absurd is
flag_inside l (v ∷ vs) [] each k o is = absurd each
flag_inside l (v ∷ vs) (b ∷ bs) each zero o is = (Some b, refl)
flag_inside l (v ∷ vs) (b ∷ bs) each (suc k) o is = flag_inside l vs bs each.1 k o is

as_many : (l : Val) (vs : List Val) (bs : List Bool) → EachMemberEquals l vs bs → length (map (λ (b : Bool). Some b) bs) ≡ length vs
as_many l [] bs each = subst (λ (cs : List Bool). length (map (λ (b : Bool). Some b) cs) ≡ 0) (sym each) refl
as_many l (v ∷ vs) [] each = absurd each
as_many l (v ∷ vs) (b ∷ bs) each = ap suc (as_many l vs bs each.1)

-- so `in` before them is whether one is equal
some_member : (l : Val) (vs : List Val) (bs : List Bool) → EachMemberEquals l vs bs → (o : Outcome)
    → QuantifierGives Quantifier.Any (length vs) (λ k p. IsSomeAnd (slice_get vs k) (λ v. CompareGives ComparisonOperator.Eq l v p)) o → o ≡ gives (boolean (some_of bs))
some_member l vs bs each o given =
    let At : ℕ → Outcome → Type 0 = λ k p. IsSomeAnd (slice_get vs k) (λ v. CompareGives ComparisonOperator.Eq l v p) in
    let flags : List (Option Bool) = map (λ (b : Bool). Some b) bs in
    let are : AreTruths At flags = record {
      one = λ k. one_at l (slice_get vs k);
      each = λ k t is. flag_at l vs bs each k t is;
      inside = λ k p is. flag_inside l vs bs each k p is;
    } in
    any_is At flags are o (subst (λ (n : ℕ). QuantifierGives Quantifier.Any n At o) (sym (as_many l vs bs each)) given) ∙ ap (λ (b : Bool). gives (boolean b)) (any_of_flags bs)

record Flags (l : Val) (vs : List Val) : Type 0 where
  bs : List Bool
  each : EachMemberEquals l vs bs

flags_of : Decided → (schema : SchemaModel) (left : ExprType) (m : SingleType) → AreComparable left (single m) → (l : Val) → HasType (slots_of schema) left l → (vs : List Val)
    → AllByRecursion (λ (v : Val). HasType (slots_of schema) (single m) v) vs → Flags l vs
flags_of decided schema left m comparable l of_left [] typed = record { bs = []; each = refl }
flags_of decided schema left m comparable l of_left (v ∷ vs) typed =
    let answer = decided ComparisonOperator.Eq l v in
    let rest = flags_of decided schema left m comparable l of_left vs typed.1 in
    record {
      bs = answer.0 ∷ rest.bs;
      each = ((comparable_values (slots_of schema) ComparisonOperator.Eq left (single m) l v comparable of_left typed.0, answer.1), rest.each);
    }

all_of_kind : (schema : SchemaModel) (held : ValueType) (vs : List Val) → AllByRecursion (λ (v : Val). HasType (slots_of schema) (single (single_type schema held)) v) vs
    → AllByRecursion (IsOfKind (kind_of_single held)) vs
all_of_kind schema held [] typed = tt
all_of_kind schema held (v ∷ vs) typed = (typed_kind (slots_of schema) schema (EdmType.Single held) v typed.0, all_of_kind schema held vs typed.1)

-- ---- the node

module _ (question : Question) (types : OneType) (ends : EndsOnceOnEntities) (is_moment : IsMoment question.now.civil question.now.offset_minutes) (decided : Decided) (ranges : List Range)
    (are : AreRanges question ranges) (place base : ℕ) (here : HasKind question.filter.list place NodeKind.InPath) (left : Operand) (left_source : left.source ≡ Source.Node (place + 1))
    (left_is : IsNodeOperand question.filter ranges left (place + 1)) (is_second : left_is.node.stop ≡ base) (world : World) (seen : IsAskedOf question world) where
  abbrev slots : Slots
  slots = slots_of question.filter.schema

  abbrev root : List ℕ
  root = type_name_at question.filter.schema question.filter.filtered

  abbrev scope : Scope
  scope = scope_of world.environment

  of_schema : (type : ExprType) (v : Val) → HasType (slots_of world.row.schema) type v → HasType slots type v
  of_schema type v of_type = subst (λ (s : SchemaModel). HasType (slots_of s) type v) seen.row_is.schema_is of_type

  -- a collection evaluates to no fault
  value_of_collection : (found : CheckedNode) (held : ValueType) → slice_get question.filter.list.nodes base ≡ Some found → found.edm_type ≡ EdmType.Collection held → (p : Outcome)
      → OfPlace question.filter base world p → (c : Val) × (p ≡ gives c)
  value_of_collection found held at type p has = by p refl
    where
      range : (r : Range) × (slice_get ranges base ≡ Some r)
      range =
          let inside = slice_get_within question.filter.list.nodes base found at in
          let many = are.count in
          at_place ranges base (omega (arith, inside, many))

      never : range.0.may_fault ≡ true → ⊥
      never faults = subst (λ (t : EdmType). IsCarriedKind (kind_of_type t)) type (are.carries base found range.0 at range.1 faults)

      by : (q : Outcome) → p ≡ q → (c : Val) × (p ≡ gives c)
      by (gives c) same = (c, same)
      by overflow same = absurd (never (are.within base range.0 world overflow range.1 seen (subst (OfPlace question.filter base world) same has)))
      by divides_by_zero same = absurd (never (are.within base range.0 world divides_by_zero range.1 seen (subst (OfPlace question.filter base world) same has)))

  module _ (o : Outcome) (stop from to : ℕ) (a b : Tree) (stands : Stands question.filter.schema question.filter.filtered scope question.filter.list place stop (node from to (in_path a b))) where
    abbrev middle : ℕ
    middle = stands.children.middle

    second_stands : Stands question.filter.schema question.filter.filtered scope question.filter.list base stop b
    second_stands =
        subst (λ (k : ℕ). Stands question.filter.schema question.filter.filtered scope question.filter.list k stop b) (sym (stop_is question.filter.schema question.filter.filtered scope question.filter.list (place + 1) left_is.node left_is.at middle a stands.children.left) ∙ is_second)
        (one_there question.filter.schema question.filter.filtered scope question.filter.list middle stop b stands.children.right)

    abbrev left_type : ExprType
    left_type = stands.top.typed.left

    member : (m : SingleType) × (stands.top.typed.right ≡ collection m) × AreComparable left_type (single m)
    member = with_members left_type stands.top.typed.right stands.top.typed.makes.0

    right_typed : Typed slots root scope b (collection member.0)
    right_typed = subst (Typed slots root scope b) member.1 stands.top.typed.right_typed

    held_type : (held : ValueType) × ((top_node question.filter scope base stop b second_stands).found.edm_type ≡ EdmType.Collection held) × (single_type question.filter.schema held ≡ member.0)
    held_type =
        let top = top_node question.filter scope base stop b second_stands in
        collection_type question.filter.schema top.found.edm_type member.0 (types slots root scope b (expr_type question.filter.schema top.found.edm_type) (collection member.0) top.typed right_typed)

    of_left : (p : Outcome) → MeansOf question world seen a p → OfPlace question.filter (place + 1) world p
    of_left p means = (a, record { stop = middle; stands = stands.children.left }, means_in question world seen a p means)

    of_base : (p : Outcome) → MeansOf question world seen b p → OfPlace question.filter base world p
    of_base p means = (b, record { stop = stop; stands = second_stands }, means_in question world seen b p means)

    base_value : (p : Outcome) → MeansOf question world seen b p → (c : Val) × (p ≡ gives c)
    base_value p means =
        let top = top_node question.filter scope base stop b second_stands in
        value_of_collection top.found held_type.0 top.at held_type.1 p (of_base p means)

    some_base : (c : Val) × MeansOf question world seen b (gives c)
    some_base =
        let top = top_node question.filter scope base stop b second_stands in
        let e = ends_there question ends is_moment world seen base top.found top.at stop b second_stands in
        let means = means_of question world seen b e.outcome e.related in
        let v = base_value e.outcome means in
        (v.0, subst (MeansOf question world seen b) v.1 means)

    -- the collection and its members
    record Held (c : Val) : Type 0 where
      members : MembersAt question.filter base world
      is : members.c ≡ c
      goes : (l : Val) → HasType slots left_type l → InGives l c o → (bs : List Bool) × EachMemberEquals l members.members bs × IsOrNull members.c o (gives (boolean (some_of bs)))

    of_members : (c : Val) → MeansOf question world seen b (gives c) → HasType slots (collection member.0) c → Held c
    of_members null means typed = record {
      members = record {
        c = null;
        has = of_base (gives null) means;
        members = [];
        are = refl;
        kinds = (
            let top = top_node question.filter scope base stop b second_stands in
            there_found (λ (n : CheckedNode). (type : ValueType) × (n.edm_type ≡ EdmType.Collection type) × AllByRecursion (IsOfKind (kind_of_single type)) []) (slice_get question.filter.list.nodes base)
            top.found top.at (held_type.0, held_type.1, tt)
            );
      };
      is = refl;
      goes = λ l of_type given. ([], refl, given);
    }
    of_members (items values) means typed =
        let top = top_node question.filter scope base stop b second_stands in
        let each = all_typed question.filter.schema member.0 values typed in
        let of_held : AllByRecursion (λ (v : Val). HasType slots (single (single_type question.filter.schema held_type.0)) v) (members_of values) =
        subst (λ (m : SingleType). AllByRecursion (λ (v : Val). HasType slots (single m) v) (members_of values)) (sym held_type.2) each in
        record {
          members = record {
            c = items values;
            has = of_base (gives (items values)) means;
            members = members_of values;
            are = refl;
            kinds =
                there_found (λ (n : CheckedNode). (type : ValueType) × (n.edm_type ≡ EdmType.Collection type) × AllByRecursion (IsOfKind (kind_of_single type)) (members_of values))
                (slice_get question.filter.list.nodes base) top.found top.at (held_type.0, held_type.1, all_of_kind question.filter.schema held_type.0 (members_of values) of_held);
          };
          is = refl;
          goes = λ l of_type given.
              let f = flags_of decided question.filter.schema left_type member.0 member.2 l of_type (members_of values) each in
              (f.bs, f.each, some_member l (members_of values) f.bs f.each o given);
        }
    of_members _ means typed = absurd typed

    held_of : (c : Val) → MeansOf question world seen b (gives c) → Held c
    held_of c means = of_members c means (of_schema (collection member.0) c (has_type question ends is_moment world seen b (collection member.0) c right_typed means))

    left_of : (lo : Outcome) → MeansOf question world seen a lo → (l : Val) → lo ≡ gives l → HasType slots left_type l
    left_of lo means l same = of_schema left_type l (has_type question ends is_moment world seen a left_type l stands.top.typed.left_typed (subst (MeansOf question world seen a) same means))

    comes_by : (lo : Outcome) → MeansOf question world seen a lo → (c : Val) → Held c → ((l : Val) → lo ≡ gives l → InGives l c o) → (IsFault lo → o ≡ lo) → InPathComes question place base left world o
    comes_by lo means c held of_value of_fault = record {
      left_outcome = lo;
      left_there = of_left lo means;
      left_has = subst (λ (s : Source). HasOrCode question.filter left.kind s world lo) (sym left_source) (node_has question.filter left.kind (place + 1) world lo (of_left lo means));
      left_fits = λ v same. node_fits question ends is_moment world seen ranges are left (place + 1) left_is v (subst (OfPlace question.filter (place + 1) world) same (of_left lo means));
      left_plain = λ other none. node_plain question ends is_moment world seen ranges are left (place + 1) left_is other lo (of_left lo means) none;
      held = held.members;
      of_value = λ l same. held.goes l (left_of lo means l same) (of_value l same);
      of_fault = of_fault;
    }

    of_fault_there : (lo : Outcome) → IsFault lo → MeansOf question world seen a lo → o ≡ lo → InPathComes question place base left world o
    of_fault_there lo fault means same =
        comes_by lo means some_base.0 (held_of some_base.0 some_base.1) (λ l is. let value : IsFault (gives l) = subst IsFault is fault in absurd value) (λ is. same)

    in_path_there : MeansOf question world seen (node from to (in_path a b)) o → InPathComes question place base left world o
    in_path_there (gives l, (means, (p, (right, given)))) =
        let v = base_value p right in
        let in_it : InGives l v.0 o = subst (λ (q : Outcome). Then q (InGives l) o) v.1 given in
        comes_by (gives l) means v.0 (held_of v.0 (subst (MeansOf question world seen b) v.1 right))
        (λ w is. let same : l ≡ w = cc in subst (λ (u : Val). InGives u v.0 o) same in_it) (λ fault. absurd fault)
    in_path_there (overflow, (means, given)) = of_fault_there overflow tt means given
    in_path_there (divides_by_zero, (means, given)) = of_fault_there divides_by_zero tt means given

  pub in_path_comes : (o : Outcome) → OfPlace question.filter place world o → InPathComes question place base left world o
  in_path_comes o has =
      by_kind question.filter.schema question.filter.filtered scope question.filter.list place NodeKind.InPath here
      (λ stop tree. MeansOf question world seen tree o → InPathComes question place base left world o)
      (λ a b stop from to stands means. in_path_there o stop from to a b stands means)
      has.1.stop has.0 has.1.stands (means_of question world seen has.0 o has.2)
