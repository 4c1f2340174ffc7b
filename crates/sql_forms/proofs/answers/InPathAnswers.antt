-- What the functions return that put `in` before a path.
use Rattle.sql_forms.proofs.Common.{◌≡◌, ◌≢◌, ◌+◌, ◌∷◌, ◌∙◌, inl, [], ℕ, List, true, false, Some, None, Result, OnOk, length, refl, sym, ap, subst, arith, append-nil, IsSomeAnd, slice_get, IsMoment, Val, boolean, IsFilter, CheckedNode, NodeKind, some_there, there_found, EndsOnceOnEntities, HasKind, OneType, Outcome, gives, IsWithin, Range, Digit, SqlNode, SqlType, Draft, Operand, Source, Kind, Lifted, Form, IsSide, IsSideBy, NoTruth, Grows, GrowsBy, IsDeeper, AllHave, IsLifted, IsOpened, faults_front, AreMembersBeside, HasMemberHas, IsCollectionAt, MemberHas, some_of, IsAtPath, IsMemberOperand, MembersAt, missing_front, kind_of_type, AreCompared, IsOfType, IsNodeOperand, IsTested, OperandHas, IsPathTo, PutsPath, PutsMemberPath, AreRanges, IsBooleanAt, IsFaultless, IsPathAt, IsAskedOf, OfPlace, Puts, PutsAll, Question, World, by_node, on_both, puts_as, path_on, path_later, AllByRecursion, ComparisonOperator, SqlTree, where_ok}
use Rattle.sql_forms.specs.Forms.{IsInForm}
use Rattle.sql_outcomes.specs.private.ValueForms.{Itself, OrTruth}
use Rattle.sql_forms.proofs.answers.ListAnswers.{uncarried_kind}
use Rattle.sql_forms.proofs.answers.MemberAnswers.{after_nothing}
use Rattle.sql_outcomes.proofs.nodes.BelowNodes.{collection_at_path, in_path_left}
use Rattle.sql_outcomes.proofs.nodes.ComparisonPlaces.{form_of_value, side_faultless, side_tested}
use Rattle.sql_outcomes.proofs.nodes.InPathNodes.{at_place, in_path_comes}
use Rattle.sql_outcomes.specs.NodesGo.{InPathComes}
use Rattle.sql_outcomes.proofs.nodes.ChildPlaces.{first_child, has_range, path_inside}
use Rattle.sql_outcomes.proofs.nodes.InPathPlaces.{beside_collection, in_path_beside}
use Rattle.sql_outcomes.proofs.nodes.ListNodes.{Decided}
use Rattle.sql_forms.proofs.puts.FaultyComparisonsPut.{OrCode}
use Rattle.sql_forms.proofs.puts.InPathPut.{code_of_whole, in_path_code_put, in_path_put, kept_in_path_put, marked_parts, whole_marked}
use Rattle.sql_forms.proofs.lets.LiftedPut.{closed}
use Rattle.sql_forms.proofs.lets.OverMembersPut.{over_members_put}
use Rattle.sql_forms.proofs.puts.PlainLeftPut.{in_path_code_plain_put}
use Rattle.sql_outcomes.proofs.outcomes.UnlessMissing.{WholeHas, form_unless_missing, truth_unless_missing}
use Rattle.sql_forms.proofs.puts.TruthInPathPut.{CodesHave, codes_put}
use Rattle.sql_forms.proofs.puts.TruthInPathWhole.{chosen_put, code_parts, truth_in_path_put}

-- a path leads on where a `Let` is begun
pub path_opened : (question : Question) (lifted : Lifted) (old opened : Draft) (base path : ℕ) → IsOpened lifted old opened → IsPathTo question old base path → IsPathTo question opened base path
path_opened question lifted old opened base path is leads = path_later question old base path leads opened ([], is.paths_are ∙ sym (append-nil old.tree.paths.items)) is.members

-- ---- a left side that is no fault

module _ (question : Question) (base : ℕ) (left : Operand) {T E : Type 0} (r : Result T E) (old new : Draft) where
  -- as it stands
  pub ok_over_plain : OnOk r (Puts question old new (HasMemberHas question.filter left base) (OrTruth Itself)) → OnOk r (Puts question old new (MemberHas question.filter left base) Itself)
  ok_over_plain put =
      where_ok (λ (p : Puts question old new (HasMemberHas question.filter left base) (OrTruth Itself)). puts_as question old new (HasMemberHas question.filter left base) (MemberHas question.filter left base) (OrTruth Itself) Itself p
      (λ world o is has. (o, inl has, λ x form. form_of_value Itself o x (boolean (some_of has.3)) has.5 form))) r put

  -- bound
  pub ok_over_members : (first : Operand) (lifted : Lifted) → IsLifted (left ∷ []) old.depth lifted → slice_get lifted.inner.items 0 ≡ Some first → (opened body : Draft)
      → IsOpened lifted old opened → Puts question opened body (HasMemberHas question.filter first base) (OrTruth Itself)
      → OnOk r (PutsAll question (closed body (length lifted.bound.items)) new (AllHave question.filter lifted.bound.items) (length lifted.bound.items))
      → OnOk r (lifted.bound.items ≡ [] → Grows (closed body (length lifted.bound.items)) new []) → OnOk r (Puts question old new (MemberHas question.filter left base) Itself)
  ok_over_members first lifted is_lifted at_first opened body is_opened put values idle =
      on_both r (PutsAll question (closed body (length lifted.bound.items)) new (AllHave question.filter lifted.bound.items) (length lifted.bound.items)) (lifted.bound.items ≡ [] → Grows (closed body (length lifted.bound.items)) new [])
      (Puts question old new (MemberHas question.filter left base) Itself)
      (λ v i. over_members_put question base left first lifted old is_lifted at_first opened body new is_opened v i put) values idle

-- ---- `in` at an index

-- its second side is a path
pub in_path_there : (question : Question) (ranges : List Range) → AreRanges question ranges → IsFilter question.filter → OneType → (place : ℕ) → HasKind question.filter.list place NodeKind.InPath → (base : ℕ)
    → IsSomeAnd (slice_get question.filter.list.nodes (place + 1)) (λ n. n.stop ≡ base) → IsPathAt question.filter base
in_path_there question ranges are right types place here base stops =
    let first = some_there (λ (n : CheckedNode). n.stop ≡ base) (slice_get question.filter.list.nodes (place + 1)) stops in
    let range = at_place ranges (place + 1) (has_range question ranges are (place + 1) (first_child question.filter right place NodeKind.InPath (path_inside question.filter right place) here)) in
    let left : Operand = record { source = Source.Node (place + 1); kind = kind_of_type first.0.edm_type; range = range.0 } in
    let is : IsNodeOperand question.filter ranges left (place + 1) = record { node = first.0; at = first.1.0; kind = refl; range = range.1 } in
    collection_at_path question.filter right base (beside_collection question.filter left.kind base (in_path_beside question.filter types right ranges place base here left is first.1.1))

module _ (question : Question) (ranges : List Range) (are : AreRanges question ranges) (right : IsFilter question.filter) (types : OneType) (ends : EndsOnceOnEntities)
    (is_moment : IsMoment question.now.civil question.now.offset_minutes) (decided : Decided) (place base : ℕ) (here : HasKind question.filter.list place NodeKind.InPath)
    (left : Operand) (left_source : left.source ≡ Source.Node (place + 1)) (left_is : IsNodeOperand question.filter ranges left (place + 1)) (is_second : left_is.node.stop ≡ base) where
  pub beside : AreMembersBeside question.filter left.kind base
  beside = in_path_beside question.filter types right ranges place base here left left_is is_second

  pub collection : IsCollectionAt question.filter base
  collection = beside_collection question.filter left.kind base beside

  left_side : IsSide question.filter ranges place left
  left_side =
      let own = some_there (λ (n : CheckedNode). n.kind ≡ NodeKind.InPath) (slice_get question.filter.list.nodes place) here in
      subst (IsSideBy question.filter ranges place left) (sym left_source) (left_is, in_path_left question.filter right types place own.0 own.1.0 own.1.1)

  pub left_boolean : left.kind ≡ Kind.Value SqlType.Truth → IsBooleanAt question.filter (place + 1)
  left_boolean is =
      there_found (λ (n : CheckedNode). kind_of_type n.edm_type ≡ Kind.Value SqlType.Truth) (slice_get question.filter.list.nodes (place + 1)) left_is.node left_is.at (sym left_is.kind ∙ is)

  pub comes_so : (world : World) (o : Outcome) → IsAskedOf question world → OfPlace question.filter place world o → InPathComes question place base left world o
  comes_so world o seen has = in_path_comes question types ends is_moment decided ranges are place base here left left_source left_is is_second world seen o has

  -- may be tested where it is no truth value, too
  pub left_tested_plainly : NoTruth left → IsTested question.filter ranges left
  left_tested_plainly no_truth = side_tested question.filter ranges place left left_side (λ truth. absurd (no_truth truth))

  module _ (faultless : IsFaultless ranges place) where
    pub left_faultless : left.range.may_fault ≡ false
    left_faultless = side_faultless question ranges are place left faultless left_side

    pub left_tested : IsTested question.filter ranges left
    left_tested = side_tested question.filter ranges place left left_side (λ truth. left_faultless)

    value : (world : World) (o : Outcome) → IsAskedOf question world → OfPlace question.filter (place + 1) world o → (v : Val) × (o ≡ gives v)
    value world o seen has = by o (are.within (place + 1) left.range world o left_is.range seen has)
      where
        by : (p : Outcome) → IsWithin left.range p → (v : Val) × (p ≡ gives v)
        by (gives v) is = (v, refl)
        by _ is = let clash : true ≡ false = sym is ∙ left_faultless in absurd (cc)

    module _ (path : ℕ) {T E : Type 0} (r : Result T E) (d0 d1 new : Draft) (leads : PutsPath question d0 d1 base path) where
      pub ok_in_path : (range : Range) → slice_get ranges base ≡ Some range → (d2 : Draft) → Grows d1 d2 (missing_front range.may_be_null path) → OnOk r (Puts question d2 new (MemberHas question.filter left base) Itself)
          → OnOk r (Puts question d0 new (OfPlace question.filter place) (IsInForm Form.Truth))
      ok_in_path range at d2 front put =
          where_ok (λ (p : Puts question d2 new (MemberHas question.filter left base) Itself). after_nothing question d0 d1 new (OfPlace question.filter place) (IsInForm Form.Truth) leads.grows
          (in_path_put question place base left left_source comes_so value path ranges are range at d1 d2 new leads.leads front p)) r put

      pub ok_kept_in_path : OnOk r (Puts question d1 new (MemberHas question.filter left base) Itself) → OnOk r (Puts question d0 new (OfPlace question.filter place) (IsInForm Form.Keeps))
      ok_kept_in_path put =
          where_ok (λ (p : Puts question d1 new (MemberHas question.filter left base) Itself). after_nothing question d0 d1 new (OfPlace question.filter place) (IsInForm Form.Keeps) leads.grows
          (kept_in_path_put question place base left left_source comes_so value d1 new p)) r put

  -- ---- by its code

  module _ (path : ℕ) (range : Range) (at : slice_get ranges base ≡ Some range) where
    -- whether some member is equal, as a code; null over null
    code_put : (first : Operand) (d1 d2 d3 new : Draft) → IsPathTo question d1 base path → GrowsBy d1 d2 (SqlNode.TruthCode ∷ []) [] [] → Grows d2 d3 (missing_front range.may_be_null path)
        → Puts question d3 new (HasMemberHas question.filter first base) (OrTruth Itself)
        → Puts question d1 new (WholeHas question base path (HasMemberHas question.filter first base) (marked_parts question base first)) OrCode
    code_put first d1 d2 d3 new leads grows front put =
        code_of_whole question (WholeHas question base path (HasMemberHas question.filter first base) (marked_parts question base first)) (whole_marked question base path first) d1 d2 new (by_node d1 d2 SqlNode.TruthCode refl grows)
        (form_unless_missing question base path (HasMemberHas question.filter first base) (marked_parts question base first) (OrTruth Itself) refl ranges are range at d2 d3 new
        (path_on question d1 base path leads d2 (SqlNode.TruthCode ∷ []) (by_node d1 d2 SqlNode.TruthCode refl grows)) front put)

    module _ {T E : Type 0} (r : Result T E) (no_truth : NoTruth left) (d0 d1 new : Draft) (leads : PutsPath question d0 d1 base path) where
      pub ok_plain_code : ((type : SqlType) → left.kind ≢ Kind.Value type) → (d2 d3 : Draft) → GrowsBy d1 d2 (SqlNode.TruthCode ∷ []) [] [] → Grows d2 d3 (missing_front range.may_be_null path)
          → OnOk r (Puts question d3 new (HasMemberHas question.filter left base) (OrTruth Itself)) → OnOk r (Puts question d0 new (OfPlace question.filter place) (IsInForm Form.Code))
      ok_plain_code other d2 d3 grows front put =
          where_ok (λ (p : Puts question d3 new (HasMemberHas question.filter left base) (OrTruth Itself)). after_nothing question d0 d1 new (OfPlace question.filter place) (IsInForm Form.Code) leads.grows
          (in_path_code_plain_put question place left no_truth (uncarried_kind left.range.may_fault left.kind other) base path left_source comes_so d1 new (code_put left d1 d2 d3 new leads.leads grows front p))) r put

      pub ok_lifted_code : (first : Operand) (lifted : Lifted) → IsLifted (left ∷ []) d1.depth lifted → slice_get lifted.inner.items 0 ≡ Some first → (opened fronted d2 d3 body : Draft) → IsOpened lifted d1 opened
          → Grows opened fronted (faults_front None lifted.level lifted.bound.items) → IsPathTo question fronted base path → GrowsBy fronted d2 (SqlNode.TruthCode ∷ []) [] []
          → Grows d2 d3 (missing_front range.may_be_null path) → Puts question d3 body (HasMemberHas question.filter first base) (OrTruth Itself)
          → OnOk r (PutsAll question (closed body (length lifted.bound.items)) new (AllHave question.filter lifted.bound.items) (length lifted.bound.items))
          → OnOk r (lifted.bound.items ≡ [] → Grows (closed body (length lifted.bound.items)) new []) → OnOk r (Puts question d0 new (OfPlace question.filter place) (IsInForm Form.Code))
      ok_lifted_code first lifted is_lifted at_first opened fronted d2 d3 body is_opened faults path_within grows front put values idle =
          on_both r (PutsAll question (closed body (length lifted.bound.items)) new (AllHave question.filter lifted.bound.items) (length lifted.bound.items)) (lifted.bound.items ≡ [] → Grows (closed body (length lifted.bound.items)) new [])
          (Puts question d0 new (OfPlace question.filter place) (IsInForm Form.Code))
          (λ v i. after_nothing question d0 d1 new (OfPlace question.filter place) (IsInForm Form.Code) leads.grows
          (in_path_code_put question place base path left first lifted d1 is_lifted no_truth left_source at_first comes_so opened fronted body new is_opened v i faults
          (code_put first fronted d2 d3 body path_within grows front put))) values idle

-- ---- a truth value on the left

-- members beside a truth value are truth values
pub member_truth : (path : ℕ) (kind : Kind) (source : Source) → IsAtPath path kind source → AreCompared (Kind.Value SqlType.Truth) kind → kind ≡ Kind.Value SqlType.Truth
member_truth path Kind.Null source at compared = absurd at
member_truth path (Kind.Value type) source at compared = ap (λ (t : SqlType). Kind.Value t) (sym compared)
member_truth path Kind.Structured source at compared = absurd compared

-- what stands in the body of the `Let`
pub record TruthSteps (question : Question) (base path number : ℕ) (range : Range) (member : Operand) (old binding opened c1 c2 c3 c4 c5 c6 u m1 m2 m3 m4 m5 m6 m7 : Draft) : Type 0 where
  pub let_grows : GrowsBy old binding (SqlNode.Let old.depth 1 ∷ []) [] []
  pub deeper : IsDeeper binding opened 1
  pub case_grows : GrowsBy opened c1 (SqlNode.Case ∷ []) [] []
  pub above_grows : GrowsBy c1 c2 (SqlNode.Compare ComparisonOperator.Ge SqlType.Whole ∷ []) [] []
  pub code_grows : GrowsBy c2 c3 (SqlNode.Bound old.depth ∷ []) [] []
  pub three_grows : GrowsBy c3 c4 (SqlNode.Number Digit.Three ∷ []) [] []
  pub fault_grows : GrowsBy c4 c5 (SqlNode.Bound old.depth ∷ []) [] []
  pub truth_grows : GrowsBy c5 c6 (SqlNode.TruthCode ∷ []) [] []
  pub front : Grows c6 u (missing_front range.may_be_null path)
  pub member_path : PutsMemberPath u m1 (old.depth + 1) number
  pub member_is : IsMemberOperand question.filter base number member
  pub exists_grows : GrowsBy m1 m2 (SqlNode.Exists path (old.depth + 1) ∷ []) [] []
  pub more_deeper : IsDeeper m2 m3 1
  pub equal_grows : GrowsBy m3 m4 (SqlNode.Compare ComparisonOperator.Eq SqlType.Whole ∷ []) [] []
  pub member_code : GrowsBy m4 m5 (SqlNode.TruthCode ∷ []) [] []
  pub value : Puts question m5 m6 (OperandHas question.filter member) Itself
  pub bound_grows : GrowsBy m6 m7 (SqlNode.Bound old.depth ∷ []) [] []

module _ (question : Question) (ranges : List Range) (are : AreRanges question ranges) (place base path number : ℕ) (range : Range) (at : slice_get ranges base ≡ Some range) (left member : Operand)
    (left_kind : left.kind ≡ Kind.Value SqlType.Truth) (is_truth : member.kind ≡ Kind.Value SqlType.Truth)
    (truths : (world : World) (m : MembersAt question.filter base world) → AllByRecursion (IsOfType SqlType.Truth) m.members)
    (comes : (world : World) (o : Outcome) → IsAskedOf question world → OfPlace question.filter place world o → InPathComes question place base left world o)
    (old binding opened c1 c2 c3 c4 c5 c6 u m1 m2 m3 m4 m5 m6 m7 shut new : Draft) (leads : IsPathTo question old base path)
    (steps : TruthSteps question base path number range member old binding opened c1 c2 c3 c4 c5 c6 u m1 m2 m3 m4 m5 m6 m7) where
  -- the draft before the `Let` is closed
  abbrev body : Draft
  body = record m7 { depth = shut.depth + 1 }

  opened_depth : opened.depth ≡ old.depth + 1
  opened_depth =
      let deep : opened.depth ≡ binding.depth + 1 = steps.deeper.depth in
      let same : binding.depth ≡ old.depth = steps.let_grows.depth in
      omega (arith, deep, same)

  case_grows : Grows opened c1 (SqlNode.Case ∷ [])
  case_grows = by_node opened c1 SqlNode.Case refl steps.case_grows

  above_grows : Grows c1 c2 (SqlNode.Compare ComparisonOperator.Ge SqlType.Whole ∷ [])
  above_grows = by_node c1 c2 (SqlNode.Compare ComparisonOperator.Ge SqlType.Whole) refl steps.above_grows

  code_grows : Grows c2 c3 (SqlNode.Bound old.depth ∷ [])
  code_grows = by_node c2 c3 (SqlNode.Bound old.depth) refl steps.code_grows

  three_grows : Grows c3 c4 (SqlNode.Number Digit.Three ∷ [])
  three_grows = by_node c3 c4 (SqlNode.Number Digit.Three) refl steps.three_grows

  fault_grows : Grows c4 c5 (SqlNode.Bound old.depth ∷ [])
  fault_grows = by_node c4 c5 (SqlNode.Bound old.depth) refl steps.fault_grows

  truth_grows : Grows c5 c6 (SqlNode.TruthCode ∷ [])
  truth_grows = by_node c5 c6 SqlNode.TruthCode refl steps.truth_grows

  u_depth : u.depth ≡ old.depth + 1
  u_depth = steps.front.depth ∙ truth_grows.depth ∙ fault_grows.depth ∙ three_grows.depth ∙ code_grows.depth ∙ above_grows.depth ∙ case_grows.depth ∙ opened_depth

  leads_opened : IsPathTo question opened base path
  leads_opened =
      path_later question old base path leads opened
      ([], ap (λ (t : SqlTree). t.paths.items) steps.deeper.tree ∙ steps.let_grows.paths_are) (steps.deeper.members ∙ steps.let_grows.members)

  leads_within : IsPathTo question c6 base path
  leads_within =
      path_on question c5 base path (path_on question c4 base path (path_on question c3 base path (path_on question c2 base path (path_on question c1 base path
      (path_on question opened base path leads_opened c1 (SqlNode.Case ∷ []) case_grows) c2 (SqlNode.Compare ComparisonOperator.Ge SqlType.Whole ∷ []) above_grows) c3 (SqlNode.Bound old.depth ∷ []) code_grows)
      c4 (SqlNode.Number Digit.Three ∷ []) three_grows) c5 (SqlNode.Bound old.depth ∷ []) fault_grows) c6 (SqlNode.TruthCode ∷ []) truth_grows

  member_path : PutsMemberPath u m1 u.depth number
  member_path = subst (λ (n : ℕ). PutsMemberPath u m1 n number) (sym u_depth) steps.member_path

  exists_grows : Grows m1 m2 (SqlNode.Exists path u.depth ∷ [])
  exists_grows = subst (λ (n : ℕ). Grows m1 m2 (SqlNode.Exists path n ∷ [])) (sym u_depth) (by_node m1 m2 (SqlNode.Exists path (old.depth + 1)) refl steps.exists_grows)

  -- whether some member has the code
  inner : body.depth + 1 ≡ m7.depth → Puts question u body (CodesHave question old.depth base) Itself
  inner depth_is =
      codes_put question member old.depth base path number u m1 m2 m3 m4 m5 m6 m7 body u_depth is_truth (path_on question c6 base path leads_within u (missing_front range.may_be_null path) steps.front) member_path steps.member_is exists_grows steps.more_deeper
      (by_node m3 m4 (SqlNode.Compare ComparisonOperator.Eq SqlType.Whole) refl steps.equal_grows) (by_node m4 m5 SqlNode.TruthCode refl steps.member_code) steps.value
      (by_node m6 m7 (SqlNode.Bound old.depth) refl steps.bound_grows) refl refl depth_is

  pub ok_truth_in_path : {T E : Type 0} (r : Result T E) → shut.tree ≡ m7.tree → shut.members.items ≡ m7.members.items → shut.depth + 2 ≡ m7.depth
      → OnOk r (Puts question shut new (OfPlace question.filter (place + 1)) (IsInForm Form.Code)) → OnOk r (Puts question old new (OfPlace question.filter place) (IsInForm Form.Code))
  ok_truth_in_path r tree_is members_are depth_is put =
      let body_deep : body.depth + 1 ≡ m7.depth = omega (arith, depth_is) in
      let codes = inner body_deep in
      let grown : body.depth ≡ u.depth = codes.grows.depth in
      let within = u_depth in
      let shut_depth : shut.depth ≡ old.depth = omega (arith, grown, within) in
      where_ok (truth_in_path_put question place base path left left_kind truths comes old opened body shut new (ap (λ (t : SqlTree). t.nodes.items) steps.deeper.tree ∙ steps.let_grows.nodes_are)
      (ap (λ (t : SqlTree). t.paths.items) steps.deeper.tree ∙ steps.let_grows.paths_are ∙ append-nil old.tree.paths.items)
      (ap (λ (t : SqlTree). t.parameters.items) steps.deeper.tree ∙ steps.let_grows.parameters_are ∙ append-nil old.tree.parameters.items) (steps.deeper.members ∙ steps.let_grows.members) opened_depth
      (chosen_put question old.depth base path opened c1 c2 c3 c4 c5 c6 body case_grows above_grows code_grows three_grows fault_grows truth_grows
      (truth_unless_missing question base path (CodesHave question old.depth base) (code_parts question old.depth base path) ranges are range at c6 u body leads_within steps.front codes))
      tree_is members_are shut_depth) r put
