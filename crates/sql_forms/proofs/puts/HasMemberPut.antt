-- Whether a left side is equal to some member of a collection, by `EXISTS`.
use Rattle.sql_forms.proofs.Common.{◌≡◌, ◌↔◌, inl, inr, ◌+◌, ◌++◌, ◌∷◌, [], ℕ, List, Bool, true, false, Option, Some, None, map, refl, sym, ap, subst, ◌∙◌, slice_get, AllByRecursion, FieldVal, Val, Vals, boolean, fields, items, null, EdmType, ValueType, ComparisonOperator, Filter, CheckedNode, some_there, Outcome, gives, Range, AtEach, truth, IsScalar, SqlMeans, bound_member, nodes_of, SqlNode, SqlType, IsFault, Draft, Operand, Source, Kind, Form, ComparisonHas, Grows, IsDeeper, AreCompared, IsOfKind, kind_of_single, IsOfType, AreMembersBeside, EachMemberEquals, HasMemberHas, IsAtPath, IsMemberOperand, MembersAt, some_of, HasLoosely, HasValue, IsSourceOf, IsTestable, IsTested, IsPathTo, PutsMemberPath, IsWorldOf, Puts, Question, World, extended}
use Rattle.sql_outcomes.specs.TrueWhere.{IsTrueWhere}
use Rattle.sql_forms.specs.Forms.{IsInForm}
use Rattle.sql_outcomes.specs.private.ValueForms.{Itself, OrTruth}
use Rattle.sql_forms.proofs.puts.EqualPut.{value_stays}
use Rattle.sql_forms.proofs.puts.ExistsPut.{InExists, in_exists}
use Rattle.sql_outcomes.proofs.outcomes.LiftedValues.{source_stays}
use Rattle.sql_forms.proofs.puts.OperandsPut.{fault_form, given_form}
use Rattle.sql_outcomes.proofs.outcomes.Quantified.{any_true}
use Rattle.sql_forms.proofs.puts.ExistsOver.{SomeTrue, exists_over}

-- ---- the member as an operand

no_record : (type : SqlType) (held : List ℕ → FieldVal) → IsOfType type (fields held) → ⊥
no_record SqlType.Truth held is = is
no_record _ held is = is

no_list : (type : SqlType) (held : Vals) → IsOfType type (items held) → ⊥
no_list SqlType.Truth held is = is
no_list _ held is = is

pub scalar : (type : SqlType) (v : Val) → IsOfType type v → IsScalar v
scalar type (fields held) is = absurd (no_record type held is)
scalar type (items held) is = absurd (no_list type held is)
scalar type v is = tt

at_path_tested : (filter : Filter) (ranges : List Range) (path : ℕ) (operand : Operand) (kind : Kind) (source : Source) → operand.kind ≡ kind → operand.source ≡ source → operand.range.may_fault ≡ false
    → IsAtPath path kind source → IsTestable filter ranges operand source kind
at_path_tested filter ranges path operand (Kind.Value type) (Source.Field number value_type) kinds same plain at = record {
  source = subst (IsSourceOf filter ranges operand) (sym same) tt;
  valued = λ structured. cc (sym kinds ∙ structured);
  plain = λ is. plain;
}
at_path_tested filter ranges path operand Kind.Structured (Source.Place number) kinds same plain at = refl
at_path_tested filter ranges path operand kind source kinds same plain at = absurd at

pub member_tested : (filter : Filter) (ranges : List Range) (collection path : ℕ) (operand : Operand) → IsMemberOperand filter collection path operand → IsTested filter ranges operand
member_tested filter ranges collection path operand is = at_path_tested filter ranges path operand operand.kind operand.source refl refl is.plain is.at

-- its kind is that of the members
pub member_kinds : (filter : Filter) (collection path : ℕ) (operand : Operand) → IsMemberOperand filter collection path operand → (world : World) (m : MembersAt filter collection world)
    → AllByRecursion (IsOfKind operand.kind) m.members
member_kinds filter collection path operand is world m =
    let here = some_there (λ (node : CheckedNode). (type : ValueType) × (node.edm_type ≡ EdmType.Collection type) × (operand.kind ≡ kind_of_single type)) (slice_get filter.list.nodes collection) is.kind in
    let there = some_there (λ (node : CheckedNode). (type : ValueType) × (node.edm_type ≡ EdmType.Collection type) × AllByRecursion (IsOfKind (kind_of_single type)) m.members)
    (slice_get filter.list.nodes collection) m.kinds in
    let same_node : here.0 ≡ there.0 = cc (here.1.0, there.1.0) in
    let same : EdmType.Collection here.1.1.0 ≡ EdmType.Collection there.1.1.0 = sym here.1.1.1 ∙ ap (λ (node : CheckedNode). node.edm_type) same_node ∙ there.1.1.1 in
    let same_type : here.1.1.0 ≡ there.1.1.0 = cc in
    let kind_is : kind_of_single there.1.1.0 ≡ operand.kind = ap kind_of_single (sym same_type) ∙ sym here.1.1.2 in
    subst (λ (k : Kind). AllByRecursion (IsOfKind k) m.members) kind_is there.1.1.2

-- it may be compared with what its collection's members may be
pub member_compared : (filter : Filter) (left : Operand) (collection path : ℕ) (operand : Operand) → AreMembersBeside filter left.kind collection → IsMemberOperand filter collection path operand
    → AreCompared left.kind operand.kind
member_compared filter left collection path operand beside is =
    let here = some_there (λ (node : CheckedNode). (type : ValueType) × (node.edm_type ≡ EdmType.Collection type) × (operand.kind ≡ kind_of_single type)) (slice_get filter.list.nodes collection) is.kind in
    let there = some_there (λ (node : CheckedNode). (type : ValueType) × (node.edm_type ≡ EdmType.Collection type) × AreCompared left.kind (kind_of_single type)) (slice_get filter.list.nodes collection) beside in
    let same_node : here.0 ≡ there.0 = cc (here.1.0, there.1.0) in
    let same : EdmType.Collection here.1.1.0 ≡ EdmType.Collection there.1.1.0 = sym here.1.1.1 ∙ ap (λ (node : CheckedNode). node.edm_type) same_node ∙ there.1.1.1 in
    let same_type : here.1.1.0 ≡ there.1.1.0 = cc in
    let kind_is : kind_of_single there.1.1.0 ≡ operand.kind = ap kind_of_single (sym same_type) ∙ sym here.1.1.2 in
    subst (AreCompared left.kind) kind_is there.1.1.2

-- ---- whether some member is equal

one_more : (s : Option Bool) (b : Bool) (ts : List (Option Bool)) (bs : List Bool) → ((s ≡ Some true) ↔ (gives (boolean b) ≡ gives (boolean true))) → any_true ts ≡ some_of bs
    → any_true (s ∷ ts) ≡ some_of (b ∷ bs)
one_more (Some true) true ts bs alike rest = refl
one_more (Some true) false ts bs alike rest = let e : gives (boolean false) ≡ gives (boolean true) = alike.0 refl in absurd (cc)
one_more (Some false) true ts bs alike rest = let e : Some false ≡ Some true = alike.1 refl in absurd (cc)
one_more None true ts bs alike rest = let e : None ≡ Some true = alike.1 refl in absurd (cc)
one_more _ false ts bs alike rest = rest

fault_truth : (o x : Outcome) → IsFault o → OrTruth (IsInForm Form.Keeps) o x → (t : Option Bool) × (x ≡ truth t)
fault_truth (gives v) x fault form = absurd fault
fault_truth o x fault form = form

module _ (question : Question) (left member : Operand) (collection path number : ℕ) (old m1 m2 m3 m4 new : Draft) (leads : IsPathTo question old collection path)
    (member_path : PutsMemberPath old m1 old.depth number) (member_is : IsMemberOperand question.filter collection number member) (exists_grows : Grows m1 m2 (SqlNode.Exists path old.depth ∷ []))
    (deeper : IsDeeper m2 m3 1) (put : Puts question m3 m4 (ComparisonHas question.filter ComparisonOperator.Eq left member) (OrTruth (IsInForm Form.Keeps))) (tree_is : new.tree ≡ m4.tree)
    (members_are : new.members.items ≡ m4.members.items) (depth_is : new.depth + 1 ≡ m4.depth) where
  within : InExists question member path old m4 new (nodes_of put.t)
  within =
      in_exists question member collection path number old m1 m2 m3 m4 new member_path member_is exists_grows deeper
      (ComparisonHas question.filter ComparisonOperator.Eq left member) (OrTruth (IsInForm Form.Keeps)) put tree_is members_are depth_is

  module _ (world : World) (is : IsWorldOf question new world) where
    abbrev at_member_of : ℕ → Val → World
    at_member_of k v = extended world (bound_member k v ∷ [])

    abbrev Body : ℕ → Val → Outcome → Type 0
    Body k v = SqlMeans world.asked (world.bound ++ bound_member k v ∷ []) put.t

    -- of a value on the left
    module _ (l : Val) (has_left : HasValue question.filter left world l) where
      record Found (start : ℕ) (vs : List Val) (bs : List Bool) : Type 0 where
        ts : List (Option Bool)
        at_each : AtEach Body start vs (map truth ts)
        same : any_true ts ≡ some_of bs

      found : (start : ℕ) (vs : List Val) (bs : List Bool) → EachMemberEquals l vs bs → AllByRecursion (IsOfKind member.kind) vs → Found start vs bs
      found start [] bs each kinds = record { ts = []; at_each = refl; same = ap some_of (sym each) }
      found start (v ∷ vs) [] each kinds = absurd each
      found start (v ∷ vs) (b ∷ bs) each kinds =
          let has : ComparisonHas question.filter ComparisonOperator.Eq left member (at_member_of start v) (gives (boolean b)) = inl (
            l,
            v,
            value_stays question.filter left world (bound_member start v ∷ []) l has_left,
            record { has = within.member_has world is start v kinds.0; fits = record { kind = kinds.0; nullable = λ none. member_is.nullable } },
            each.0,
          ) in
          let m = put.says (at_member_of start v) (gives (boolean b)) (within.inside world is start v) has in
          let s : IsTrueWhere (gives (boolean b) ≡ gives (boolean true)) m.0 = m.2 in
          let rest = found (start + 1) vs bs each.1 kinds.1 in
          record { ts = s.0 ∷ rest.ts; at_each = (subst (Body start v) s.1 m.1, rest.at_each); same = one_more s.0 b rest.ts bs s.2 rest.same }

    -- of null instead of a fault
    module _ (o : Outcome) (fault : IsFault o) (has_left : HasLoosely question.filter left world null) where
      record SomeFound (start : ℕ) (vs : List Val) : Type 0 where
        ts : List (Option Bool)
        at_each : AtEach Body start vs (map truth ts)

      some_found : (start : ℕ) (vs : List Val) → AllByRecursion (IsOfKind member.kind) vs → SomeFound start vs
      some_found start [] kinds = record { ts = []; at_each = refl }
      some_found start (v ∷ vs) kinds =
          let has : ComparisonHas question.filter ComparisonOperator.Eq left member (at_member_of start v) o = inr (
            fault,
            (
              null,
              v,
              record { has = source_stays question.filter left.source world (bound_member start v ∷ []) (gives null) has_left.has; kind = has_left.kind },
              record { has = within.member_has world is start v kinds.0; kind = kinds.0 },
              inl refl,
            ),
          ) in
          let m = put.says (at_member_of start v) o (within.inside world is start v) has in
          let s = fault_truth o m.0 fault m.2 in
          let rest = some_found (start + 1) vs kinds.1 in
          record { ts = s.0 ∷ rest.ts; at_each = (subst (Body start v) s.1 m.1, rest.at_each) }

  pub has_member_put : Puts question old new (HasMemberHas question.filter left collection) (OrTruth Itself)
  has_member_put = exists_over question collection path old.depth old new put.t put.shaped refl leads within.grows (HasMemberHas question.filter left collection) (OrTruth Itself) of_has
    where
      of_has : (world : World) (o : Outcome) → IsWorldOf question new world → HasMemberHas question.filter left collection world o → SomeTrue question collection put.t (OrTruth Itself) world o
      of_has world o is (inl given) =
          let m = given.0 in
          let f = found world is given.1 given.2 0 m.members given.3 given.4 (member_kinds question.filter collection number member member_is world m) in
          record { c = m.c; members = m.members; has = m.has; are = m.are; ts = f.ts; at_each = f.at_each; form = given_form Itself o (boolean (some_of given.3)) (gives (boolean (any_true f.ts))) given.5 (ap (λ (b : Bool). gives (boolean b)) f.same ∙ sym given.5) }
      of_has world o is (inr marked) =
          let m = marked.1 in
          let f = some_found world is o marked.0 marked.2 0 m.members (member_kinds question.filter collection number member member_is world m) in
          record { c = m.c; members = m.members; has = m.has; are = m.are; ts = f.ts; at_each = f.at_each; form = fault_form Itself o (Some (any_true f.ts)) (gives (boolean (any_true f.ts))) marked.0 refl }
