-- Where `in` stands before a path: members that may be compared with the left side.
use Rattle.sql_outcomes.proofs.Common.{◌≡◌, ◌+◌, ◌∷◌, [], ℕ, List, sym, ap, subst, ◌∙◌, slice_get, AllByRecursion, Val, ExprType, SingleType, collection, single, slots_of, type_name_at, AreComparable, expr_type, single_type, EdmType, ValueType, OneType, Typed, Filter, IsFilter, Stands, CheckedNode, NodeKind, HasKind, one_there, some_there, there_found, Range, SqlType, tree_at, Operand, Kind, AreCompared, IsOfKind, kind_of_single, kind_of_type, IsOfType, AreMembersBeside, IsCollectionAt, MembersAt, IsNodeOperand, World, by_kind, stop_is}
use Rattle.sql_outcomes.proofs.nodes.BinaryPlaces.{top_node}
use Rattle.sql_outcomes.proofs.nodes.ComparisonsAt.{comparable_kinds, same_node}
use Rattle.sql_outcomes.proofs.nodes.InPathNodes.{collection_type, with_members}

module _ (filter : Filter) (types : OneType) (right : IsFilter filter) (ranges : List Range) (place base : ℕ) (here : HasKind filter.list place NodeKind.InPath) (left : Operand)
    (left_is : IsNodeOperand filter ranges left (place + 1)) (is_second : left_is.node.stop ≡ base) where
  pub in_path_beside : AreMembersBeside filter left.kind base
  in_path_beside =
      let there = tree_at filter right place NodeKind.InPath tt here in
      by_kind filter.schema filter.filtered there.scope filter.list place NodeKind.InPath here (λ stop tree. AreMembersBeside filter left.kind base)
      (λ a b stop from to stands.
      let slots = slots_of filter.schema in
      let root = type_name_at filter.schema filter.filtered in
      let middle : ℕ = stands.children.middle in
      let is_middle : left_is.node.stop ≡ middle = stop_is filter.schema filter.filtered there.scope filter.list (place + 1) left_is.node left_is.at middle a stands.children.left in
      let second = subst (λ (k : ℕ). Stands filter.schema filter.filtered there.scope filter.list k stop b) (sym is_middle ∙ is_second)
      (one_there filter.schema filter.filtered there.scope filter.list middle stop b stands.children.right) in
      let top = top_node filter there.scope base stop b second in
      let left_top = top_node filter there.scope (place + 1) middle a stands.children.left in
      let typed = stands.top.typed in
      let member = with_members typed.left typed.right typed.makes.0 in
      let over : Typed slots root there.scope b (collection member.0) = subst (Typed slots root there.scope b) member.1 typed.right_typed in
      let held = collection_type filter.schema top.found.edm_type member.0 (types slots root there.scope b (expr_type filter.schema top.found.edm_type) (collection member.0) top.typed over) in
      let same = same_node filter (place + 1) left_top.found left_is.node left_top.at left_is.at in
      let left_type : typed.left ≡ expr_type filter.schema left_top.found.edm_type =
      types slots root there.scope a typed.left (expr_type filter.schema left_top.found.edm_type) typed.left_typed left_top.typed in
      let comparable : AreComparable (expr_type filter.schema left_top.found.edm_type) (single (single_type filter.schema held.0)) =
      subst (λ (t : ExprType). AreComparable t (single (single_type filter.schema held.0))) left_type (subst (λ (m : SingleType). AreComparable typed.left (single m)) (sym held.2) member.2) in
      let kinds : AreCompared (kind_of_type left_top.found.edm_type) (kind_of_single held.0) = comparable_kinds filter.schema left_top.found.edm_type (EdmType.Single held.0) comparable in
      there_found (λ (n : CheckedNode). (type : ValueType) × (n.edm_type ≡ EdmType.Collection type) × AreCompared left.kind (kind_of_single type)) (slice_get filter.list.nodes base) top.found top.at (
        held.0,
        held.1,
        subst (λ (k : Kind). AreCompared k (kind_of_single held.0)) (sym left_is.kind) (subst (λ (n : CheckedNode). AreCompared (kind_of_type n.edm_type) (kind_of_single held.0)) same kinds),
      ))
      there.stop there.part there.stands

-- so it is a collection
pub beside_collection : (filter : Filter) (kind : Kind) (base : ℕ) → AreMembersBeside filter kind base → IsCollectionAt filter base
beside_collection filter kind base beside =
    let there = some_there (λ (n : CheckedNode). (type : ValueType) × (n.edm_type ≡ EdmType.Collection type) × AreCompared kind (kind_of_single type)) (slice_get filter.list.nodes base) beside in
    there_found (λ (n : CheckedNode). (type : ValueType) × (n.edm_type ≡ EdmType.Collection type)) (slice_get filter.list.nodes base) there.0 there.1.0 (there.1.1.0, there.1.1.1)

-- members beside a truth value are truth values, or null
of_truths : (type : ValueType) (members : List Val) → AreCompared (Kind.Value SqlType.Truth) (kind_of_single type) → AllByRecursion (IsOfKind (kind_of_single type)) members → AllByRecursion (IsOfType SqlType.Truth) members
of_truths type members compared kinds = by (kind_of_single type) compared kinds
  where
    by : (k : Kind) → AreCompared (Kind.Value SqlType.Truth) k → AllByRecursion (IsOfKind k) members → AllByRecursion (IsOfType SqlType.Truth) members
    by Kind.Null is held = all_null members held
      where
        all_null : (vs : List Val) → AllByRecursion (IsOfKind Kind.Null) vs → AllByRecursion (IsOfType SqlType.Truth) vs
        all_null [] all = tt
        all_null (v ∷ vs) all = (subst (IsOfType SqlType.Truth) (sym all.0) tt, all_null vs all.1)
    by (Kind.Value other) is held = subst (λ (t : SqlType). AllByRecursion (IsOfType t) members) (sym is) held
    by Kind.Structured is held = absurd is

pub members_truth : (filter : Filter) (kind : Kind) (base : ℕ) → AreMembersBeside filter kind base → kind ≡ Kind.Value SqlType.Truth → (world : World) (m : MembersAt filter base world) → AllByRecursion (IsOfType SqlType.Truth) m.members
members_truth filter kind base beside truth world m =
    let here = some_there (λ (n : CheckedNode). (type : ValueType) × (n.edm_type ≡ EdmType.Collection type) × AreCompared kind (kind_of_single type)) (slice_get filter.list.nodes base) beside in
    let there = some_there (λ (n : CheckedNode). (type : ValueType) × (n.edm_type ≡ EdmType.Collection type) × AllByRecursion (IsOfKind (kind_of_single type)) m.members) (slice_get filter.list.nodes base) m.kinds in
    let one_node : here.0 ≡ there.0 = cc (here.1.0, there.1.0) in
    let same : EdmType.Collection here.1.1.0 ≡ EdmType.Collection there.1.1.0 = sym here.1.1.1 ∙ ap (λ (n : CheckedNode). n.edm_type) one_node ∙ there.1.1.1 in
    let same_type : here.1.1.0 ≡ there.1.1.0 = cc in
    let compared : AreCompared (Kind.Value SqlType.Truth) (kind_of_single there.1.1.0) =
    subst (λ (k : Kind). AreCompared k (kind_of_single there.1.1.0)) truth (subst (λ (t : ValueType). AreCompared kind (kind_of_single t)) same_type here.1.1.2) in
    of_truths there.1.1.0 m.members compared there.1.1.2
