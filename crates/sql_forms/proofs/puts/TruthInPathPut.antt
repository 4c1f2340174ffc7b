-- `in` before a path whose left side is a truth value, which is bound by its code: the members' codes are compared with
-- it.
use Rattle.sql_forms.proofs.Common.{◌≡◌, ◌↔◌, ◌+◌, ◌++◌, ◌∷◌, [], ℕ, pos, List, Bool, true, false, Option, Some, None, map, refl, sym, ap, subst, ◌∙◌, slice_get, AllByRecursion, Val, boolean, null, whole, ComparisonOperator, there_found, Outcome, gives, overflow, divides_by_zero, AreEqual, IsCoded, code_of, AtEach, StrictlyGives, code_of_truth, truth, SqlMeans, BoundValue, bound_member, nodes_of, SqlNode, SqlType, Draft, Operand, Source, Kind, CodeHas, Grows, IsDeeper, IsOfKind, IsOfType, EachMemberEquals, IsMemberOperand, MembersAt, some_of, OperandHas, IsPathTo, PutsMemberPath, Has, IsWorldOf, Puts, Question, World, extended, puts_one, puts_two, puts_leaf}
use Rattle.sql_outcomes.specs.private.ValueForms.{Itself}
use Rattle.sql_outcomes.proofs.nodes.Binding.{found, stays}
use Rattle.sql_outcomes.proofs.outcomes.CodeTables.{coded}
use Rattle.sql_forms.proofs.puts.FaultyComparisonsPut.{code_is, truth_code_node}
use Rattle.sql_forms.proofs.puts.ExistsPut.{InExists, in_exists}
use Rattle.sql_forms.proofs.puts.HasMemberPut.{member_kinds}
use Rattle.sql_outcomes.proofs.outcomes.Operators.{compare_means}
use Rattle.sql_outcomes.proofs.outcomes.Quantified.{any_true}
use Rattle.sql_forms.proofs.puts.ExistsOver.{exists_over}

-- ---- codes of truth values

-- whether a truth value or null has the code of the outcome
abbrev pub same_truth : Val → Outcome → Bool
same_truth (boolean true) (gives (boolean true)) = true
same_truth (boolean false) (gives (boolean false)) = true
same_truth null (gives null) = true
same_truth v o = false

equal_codes : (n : ℕ) → StrictlyGives ComparisonOperator.Eq (whole (pos n)) (whole (pos n)) (gives (boolean true))
equal_codes n = (tt, (λ is. refl, λ same. refl))

apart_codes : (m n : ℕ) → (pos m ≡ pos n → ⊥) → StrictlyGives ComparisonOperator.Eq (whole (pos m)) (whole (pos n)) (gives (boolean false))
apart_codes m n apart = (tt, (λ is. (let e : false ≡ true = is in absurd (cc)), λ same. absurd (apart same)))

codes_compare : (v : Val) (lo : Outcome) → IsOfType SqlType.Truth v → IsCoded lo
    → StrictlyGives ComparisonOperator.Eq (whole (pos (code_of (gives v)))) (whole (pos (code_of lo))) (gives (boolean (same_truth v lo)))
codes_compare null (gives (boolean true)) is coded_it = apart_codes 2 1 (λ e. cc)
codes_compare null (gives (boolean false)) is coded_it = apart_codes 2 0 (λ e. cc)
codes_compare null (gives null) is coded_it = equal_codes 2
codes_compare null overflow is coded_it = apart_codes 2 3 (λ e. cc)
codes_compare null divides_by_zero is coded_it = apart_codes 2 4 (λ e. cc)
codes_compare (boolean true) (gives (boolean true)) is coded_it = equal_codes 1
codes_compare (boolean true) (gives (boolean false)) is coded_it = apart_codes 1 0 (λ e. cc)
codes_compare (boolean true) (gives null) is coded_it = apart_codes 1 2 (λ e. cc)
codes_compare (boolean true) overflow is coded_it = apart_codes 1 3 (λ e. cc)
codes_compare (boolean true) divides_by_zero is coded_it = apart_codes 1 4 (λ e. cc)
codes_compare (boolean false) (gives (boolean true)) is coded_it = apart_codes 0 1 (λ e. cc)
codes_compare (boolean false) (gives (boolean false)) is coded_it = equal_codes 0
codes_compare (boolean false) (gives null) is coded_it = apart_codes 0 2 (λ e. cc)
codes_compare (boolean false) overflow is coded_it = apart_codes 0 3 (λ e. cc)
codes_compare (boolean false) divides_by_zero is coded_it = apart_codes 0 4 (λ e. cc)
codes_compare (boolean b) (gives _) is coded_it = absurd coded_it
codes_compare null (gives _) is coded_it = absurd coded_it
codes_compare _ lo is coded_it = absurd is

-- so they report whether two truth values are equal
codes_report : (l v : Val) → IsOfType SqlType.Truth l → IsOfType SqlType.Truth v → (same_truth v (gives l) ≡ true) ↔ AreEqual l v
codes_report null null of_l of_v = (λ is. tt, λ same. refl)
codes_report null (boolean true) of_l of_v = (λ is. (let e : false ≡ true = is in absurd (cc)), λ same. absurd same)
codes_report null (boolean false) of_l of_v = (λ is. (let e : false ≡ true = is in absurd (cc)), λ same. absurd same)
codes_report (boolean true) null of_l of_v = (λ is. (let e : false ≡ true = is in absurd (cc)), λ same. absurd same)
codes_report (boolean false) null of_l of_v = (λ is. (let e : false ≡ true = is in absurd (cc)), λ same. absurd same)
codes_report (boolean true) (boolean true) of_l of_v = (λ is. refl, λ same. refl)
codes_report (boolean true) (boolean false) of_l of_v = (λ is. (let e : false ≡ true = is in absurd (cc)), λ same. (let e : true ≡ false = same in absurd (cc)))
codes_report (boolean false) (boolean true) of_l of_v = (λ is. (let e : false ≡ true = is in absurd (cc)), λ same. (let e : false ≡ true = same in absurd (cc)))
codes_report (boolean false) (boolean false) of_l of_v = (λ is. refl, λ same. refl)
codes_report null _ of_l of_v = absurd of_v
codes_report (boolean b) _ of_l of_v = absurd of_v
codes_report _ v of_l of_v = absurd of_l

same_flag : (b c : Bool) (Fact : Type 0) → ((b ≡ true) ↔ Fact) → ((c ≡ true) ↔ Fact) → b ≡ c
same_flag true true Fact first second = refl
same_flag false false Fact first second = refl
same_flag true false Fact first second = sym (second.1 (first.0 refl))
same_flag false true Fact first second = first.1 (second.0 refl)

-- whether each member has the code
abbrev pub CodesEqual : Outcome → List Val → List Bool → Type 0
CodesEqual lo [] bs = bs ≡ []
CodesEqual lo (v ∷ members) [] = ⊥
CodesEqual lo (v ∷ members) (b ∷ bs) = (b ≡ same_truth v lo) × CodesEqual lo members bs

pub equal_members : (l : Val) → IsOfType SqlType.Truth l → (members : List Val) (bs : List Bool) → AllByRecursion (IsOfType SqlType.Truth) members → EachMemberEquals l members bs → CodesEqual (gives l) members bs
equal_members l of_l [] bs typed each = each
equal_members l of_l (v ∷ members) [] typed each = absurd each
equal_members l of_l (v ∷ members) (b ∷ bs) typed each = (
  same_flag b (same_truth v (gives l)) (AreEqual l v) each.0.1 (codes_report l v of_l typed.0),
  equal_members l of_l members bs typed.1 each.1,
)

-- of a fault: what comes of the members' codes, whatever it is
pub flags_beside : (lo : Outcome) (members : List Val) → (bs : List Bool) × CodesEqual lo members bs
flags_beside lo [] = ([], refl)
flags_beside lo (v ∷ members) = let rest = flags_beside lo members in (same_truth v lo ∷ rest.0, (refl, rest.1))

-- ---- the members

module _ (question : Question) (level : ℕ) where
  -- the code that is bound
  abbrev pub AtLevel : World → Outcome → Type 0
  AtLevel world lo = CodeHas question.filter (Source.Bound level) world lo

  abbrev pub LevelCode : Has
  LevelCode world x = (lo : Outcome) × AtLevel world lo × (x ≡ coded lo)

  pub level_code : (old new : Draft) → Grows old new (SqlNode.Bound level ∷ []) → Puts question old new LevelCode Itself
  level_code old new grows =
      puts_leaf question (SqlNode.Bound level) refl old new LevelCode Itself grows
      (λ world x is has.
      let b = found (slice_get world.bound level) (λ (c : BoundValue). c.value ≡ coded has.0) has.1 in
      (coded has.0, there_found (λ (c : BoundValue). coded has.0 ≡ c.value) (slice_get world.bound level) b.0 b.1 (sym b.2), sym has.2))

  -- whether a member has the code
  abbrev pub CodesHave : ℕ → Has
  CodesHave collection world o =
      (m : MembersAt question.filter collection world) × (lo : Outcome) × IsCoded lo × AtLevel world lo × (bs : List Bool) × CodesEqual lo m.members bs × (o ≡ gives (boolean (some_of bs)))

module _ (question : Question) (member : Operand) (level collection path number : ℕ) (old m1 m2 m3 m4 m5 m6 m7 new : Draft) (level_below : old.depth ≡ level + 1) (is_truth : member.kind ≡ Kind.Value SqlType.Truth)
    (leads : IsPathTo question old collection path) (member_path : PutsMemberPath old m1 old.depth number) (member_is : IsMemberOperand question.filter collection number member)
    (exists_grows : Grows m1 m2 (SqlNode.Exists path old.depth ∷ [])) (deeper : IsDeeper m2 m3 1) (compare_grows : Grows m3 m4 (SqlNode.Compare ComparisonOperator.Eq SqlType.Whole ∷ []))
    (code_grows : Grows m4 m5 (SqlNode.TruthCode ∷ [])) (value : Puts question m5 m6 (OperandHas question.filter member) Itself) (bound_grows : Grows m6 m7 (SqlNode.Bound level ∷ []))
    (tree_is : new.tree ≡ m7.tree) (members_are : new.members.items ≡ m7.members.items) (depth_is : new.depth + 1 ≡ m7.depth) where
  -- a member, and whether it has that code
  abbrev MemberHere : Has
  MemberHere world o = (v : Val) × (lo : Outcome) × OperandHas question.filter member world (gives v) × IsOfType SqlType.Truth v × IsCoded lo × AtLevel question level world lo × (o ≡ gives (boolean (same_truth v lo)))

  abbrev MemberCode : Has
  MemberCode world o = (v : Val) × OperandHas question.filter member world (gives v) × IsOfType SqlType.Truth v × (o ≡ coded (gives v))

  truth_of : (v : Val) → IsOfType SqlType.Truth v → (t : Option Bool) × (gives v ≡ truth t)
  truth_of null is = (None, refl)
  truth_of (boolean b) is = (Some b, refl)
  truth_of _ is = absurd is

  member_code : Puts question m4 m6 MemberCode Itself
  member_code =
      puts_one question SqlNode.TruthCode refl (λ x y. (t : Option Bool) × (x ≡ truth t) × (y ≡ code_of_truth t)) m4 m5 m6 (OperandHas question.filter member) MemberCode Itself Itself truth_code_node code_grows value
      (λ world o is has.
      let t = truth_of has.0 has.2 in
      (gives has.0, has.1, λ x form. (code_of_truth t.0, (t.0, form ∙ t.1, refl), code_is t.0 ∙ ap coded (sym t.1) ∙ sym has.3)))

  put : Puts question m3 m7 MemberHere Itself
  put =
      puts_two question (SqlNode.Compare ComparisonOperator.Eq SqlType.Whole) refl (λ x y z. (l : Val) × (r : Val) × (x ≡ gives l) × (y ≡ gives r) × IsOfType SqlType.Whole l × IsOfType SqlType.Whole r × StrictlyGives ComparisonOperator.Eq l r z) m3 m4 m6 m7 MemberCode (LevelCode question level)
      MemberHere Itself Itself Itself
      (λ asked bound a b x y z first second op.
      compare_means asked bound ComparisonOperator.Eq SqlType.Whole a b op.0 op.1 z op.4 op.5 (subst (SqlMeans asked bound a) op.2 first) (subst (SqlMeans asked bound b) op.3 second) op.6)
      compare_grows member_code (level_code question level m6 m7 bound_grows)
      (λ world o is has. (
        coded (gives has.0),
        coded has.1,
        (has.0, has.2, has.3, refl),
        (has.1, has.5, refl),
        λ x y one two. (
          gives (boolean (same_truth has.0 has.1)),
          (whole (pos (code_of (gives has.0))), whole (pos (code_of has.1)), one, two, tt, tt, codes_compare has.0 has.1 has.3 has.4),
          sym has.6,
        ),
      ))

  within : InExists question member path old m7 new (nodes_of put.t)
  within =
      in_exists question member collection path number old m1 m2 m3 m7 new member_path member_is exists_grows deeper
      MemberHere Itself put tree_is members_are depth_is

  module _ (world : World) (is : IsWorldOf question new world) where
    abbrev at_member_of : ℕ → Val → World
    at_member_of k v = extended world (bound_member k v ∷ [])

    abbrev Body : ℕ → Val → Outcome → Type 0
    Body k v = SqlMeans world.asked (world.bound ++ bound_member k v ∷ []) put.t

    module _ (lo : Outcome) (is_coded : IsCoded lo) (at_code : AtLevel question level world lo) where
      code_further : (k : ℕ) (v : Val) → AtLevel question level (at_member_of k v) lo
      code_further k v =
          let b = found (slice_get world.bound level) (λ (c : BoundValue). c.value ≡ coded lo) at_code in
          there_found (λ (c : BoundValue). c.value ≡ coded lo) (slice_get (world.bound ++ bound_member k v ∷ []) level) b.0 (stays world.bound (bound_member k v ∷ []) level b.0 b.1) b.2

      record Found (start : ℕ) (vs : List Val) (bs : List Bool) : Type 0 where
        ts : List (Option Bool)
        at_each : AtEach Body start vs (map truth ts)
        same : any_true ts ≡ some_of bs

      found_codes : (start : ℕ) (vs : List Val) (bs : List Bool) → CodesEqual lo vs bs → AllByRecursion (IsOfKind member.kind) vs → Found start vs bs
      found_codes start [] bs each kinds = record { ts = []; at_each = refl; same = ap some_of (sym each) }
      found_codes start (v ∷ vs) [] each kinds = absurd each
      found_codes start (v ∷ vs) (b ∷ bs) each kinds =
          let of_truth : IsOfType SqlType.Truth v = subst (λ (k : Kind). IsOfKind k v) is_truth kinds.0 in
          let m = put.says (at_member_of start v) (gives (boolean b)) (within.inside world is start v)
          (v, lo, within.member_has world is start v kinds.0, of_truth, is_coded, code_further start v, ap (λ (c : Bool). gives (boolean c)) each.0) in
          let rest = found_codes (start + 1) vs bs each.1 kinds.1 in
          record { ts = Some b ∷ rest.ts; at_each = (subst (Body start v) m.2 m.1, rest.at_each); same = one_more b rest.ts bs rest.same }
        where
          one_more : (b : Bool) (ts : List (Option Bool)) (bs : List Bool) → any_true ts ≡ some_of bs → any_true (Some b ∷ ts) ≡ some_of (b ∷ bs)
          one_more true ts bs same = refl
          one_more false ts bs same = same

  pub codes_put : Puts question old new (CodesHave question level collection) Itself
  codes_put = exists_over question collection path old.depth old new put.t put.shaped refl leads within.grows (CodesHave question level collection) Itself
      (λ world o is has.
      let m = has.0 in
      let f = found_codes world is has.1 has.2 has.3 0 m.members has.4 has.5 (member_kinds question.filter collection number member member_is world m) in
      record { c = m.c; members = m.members; has = m.has; are = m.are; ts = f.ts; at_each = f.at_each; form = ap (λ (b : Bool). gives (boolean b)) f.same ∙ sym has.6 })
