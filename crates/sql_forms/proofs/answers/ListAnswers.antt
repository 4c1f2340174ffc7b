-- What the functions return that put `in` before a list.
use Rattle.sql_forms.proofs.Common.{◌≡◌, ◌≢◌, ◌<◌, ◌+◌, ◌++◌, ◌∷◌, ◌∙◌, [], ℕ, List, Bool, true, false, Some, None, Result, OnOk, length, append-nil, refl, sym, ap, subst, arith, slice_get, AllByRecursion, IsMoment, Filter, IsFilter, CheckedNode, some_there, there_found, EndsOnceOnEntities, OneType, Outcome, Range, LogicalOperator, IsTableOf, LookUp, Digit, SqlNode, SqlType, SqlTree, Draft, Operand, Source, Kind, NodeKind, HasKind, Lifted, Form, IsFaulty, IsSide, IsSideBy, NoTruth, Grows, GrowsBy, IsDeeper, AreCompared, kind_of_type, AllHave, IsLifted, IsOpened, faults_front, AmongHas, AreBeside, AreConstants, AreItemsOf, AsCode, EqualCodesOrNull, EqualsHas, ListHas, kept_form, IsNodeOperand, carrier_of, AreRanges, IsBooleanAt, IsFaultless, IsTruthAt, IsTruthKind, IsAskedOf, OfPlace, Puts, PutsAll, Question, World, by_node, on_both, where_ok}
use Rattle.sql_forms.specs.Forms.{IsInForm}
use Rattle.sql_outcomes.specs.private.ValueForms.{Itself}
use Rattle.sql_outcomes.proofs.nodes.ComparisonPlaces.{side_faultless, side_faulty}
use Rattle.sql_outcomes.proofs.nodes.ListNodes.{Decided, list_comes}
use Rattle.sql_outcomes.proofs.nodes.ListPlaces.{list_beside, list_equals, list_kinds, list_left, list_put, list_sides}
use Rattle.sql_outcomes.proofs.nodes.Sides.{OneNumber}
use Rattle.sql_forms.proofs.puts.AmongList.{among_kept_put, among_plain_put, among_truth_put}
use Rattle.sql_forms.proofs.puts.EqualCodesPut.{both_codes_put, no_code_put}
use Rattle.sql_forms.proofs.puts.EqualPut.{both_equal, none_equal}
use Rattle.sql_forms.proofs.lets.LiftedPut.{closed}
use Rattle.sql_forms.proofs.puts.ListCodePut.{list_code_put}
use Rattle.sql_forms.proofs.puts.PlainLeftPut.{list_code_plain_put}
use Rattle.sql_forms.proofs.puts.TruthListPut.{never_put, truth_list_put}

-- ---- lists of operands

-- a list that is another
pub ok_same_items : {T E : Type 0} (r : Result T E) (P : List Operand → Type 0) (items others : List Operand) → items ≡ others → OnOk r (P others) → OnOk r (P items)
ok_same_items r P items others same put = subst (λ (xs : List Operand). OnOk r (P xs)) (sym same) put

-- no value of SQL carries no faults
pub uncarried_kind : (may : Bool) (kind : Kind) → ((type : SqlType) → kind ≢ Kind.Value type) → carrier_of may kind ≡ None
uncarried_kind true (Kind.Value type) other = absurd (other type refl)
uncarried_kind false (Kind.Value type) other = refl
uncarried_kind false _ other = refl
uncarried_kind true _ other = refl

-- ---- whether one is equal

module _ (question : Question) (left : Operand) {T E : Type 0} (r : Result T E) where
  pub ok_none_equal : (kept : Bool) (old new : Draft) → OnOk r (GrowsBy old new (SqlNode.Truth false ∷ []) [] []) → OnOk r (Puts question old new (EqualsHas question.filter left []) (IsInForm (kept_form kept)))
  ok_none_equal kept old new put =
      where_ok (λ (g : GrowsBy old new (SqlNode.Truth false ∷ []) [] []). none_equal question left kept old new (by_node old new (SqlNode.Truth false) refl g)) r put

  pub ok_no_code : (old new : Draft) → OnOk r (GrowsBy old new (SqlNode.Number Digit.Zero ∷ []) [] []) → OnOk r (Puts question old new (EqualCodesOrNull question.filter left []) AsCode)
  ok_no_code old new put =
      where_ok (λ (g : GrowsBy old new (SqlNode.Number Digit.Zero ∷ []) [] []). no_code_put question left old new (by_node old new (SqlNode.Number Digit.Zero) refl g)) r put

  pub ok_both_equal : (kept : Bool) (front rest : List Operand) (old middle next new : Draft) → GrowsBy old middle (SqlNode.Or ∷ []) [] []
      → Puts question middle next (EqualsHas question.filter left front) (IsInForm (kept_form kept)) → OnOk r (Puts question next new (EqualsHas question.filter left rest) (IsInForm (kept_form kept)))
      → OnOk r (Puts question old new (EqualsHas question.filter left (front ++ rest)) (IsInForm (kept_form kept)))
  ok_both_equal kept front rest old middle next new grows first put =
      where_ok (both_equal question left kept front rest old middle next new (by_node old middle SqlNode.Or refl grows) first) r put

  pub ok_both_codes : IsTableOf LookUp.Or LogicalOperator.Or → (front rest : List Operand) → 0 < length rest → (old middle next new : Draft) → GrowsBy old middle (SqlNode.LookUp LookUp.Or ∷ []) [] []
      → Puts question middle next (EqualCodesOrNull question.filter left front) AsCode → OnOk r (Puts question next new (EqualCodesOrNull question.filter left rest) AsCode)
      → OnOk r (Puts question old new (EqualCodesOrNull question.filter left (front ++ rest)) AsCode)
  ok_both_codes law front [] more old middle next new grows first put = absurd (omega (arith, more))
  ok_both_codes law front (item ∷ rest) more old middle next new grows first put =
      where_ok (both_codes_put question left law front item rest old middle next new (by_node old middle (SqlNode.LookUp LookUp.Or) refl grows) first) r put

-- ---- the list at an index

module _ (question : Question) (ranges : List Range) (are : AreRanges question ranges) (right : IsFilter question.filter) (types : OneType) (ends : EndsOnceOnEntities)
    (is_moment : IsMoment question.now.civil question.now.offset_minutes) (one : OneNumber) (decided : Decided) (place : ℕ) (listed : HasKind question.filter.list place NodeKind.InList)
    (left : Operand) (left_source : left.source ≡ Source.Node (place + 1)) (left_is : IsNodeOperand question.filter ranges left (place + 1)) (items : List Operand)
    (are_items : AreItemsOf question.filter ranges place items) where
  sides : AllByRecursion (IsSide question.filter ranges place) items
  sides = list_sides question.filter right ranges place items are_items

  left_side : IsSide question.filter ranges place left
  left_side = subst (IsSideBy question.filter ranges place left) (sym left_source) (left_is, list_left question.filter right ranges place items are_items)

  pub items_compared : AllByRecursion (λ (item : Operand). AreCompared left.kind item.kind) items
  items_compared = list_kinds question.filter types right ranges place left left_is items listed are_items

  pub left_faulty : IsFaulty question.filter ranges left
  left_faulty = side_faulty question.filter ranges place left left_side

  all_faulty : (xs : List Operand) → AllByRecursion (IsSide question.filter ranges place) xs → AllByRecursion (IsFaulty question.filter ranges) xs
  all_faulty [] all = tt
  all_faulty (x ∷ xs) all = (side_faulty question.filter ranges place x all.0, all_faulty xs all.1)

  pub items_faulty : AllByRecursion (IsFaulty question.filter ranges) items
  items_faulty = all_faulty items sides

  pub left_boolean : left.kind ≡ Kind.Value SqlType.Truth → IsBooleanAt question.filter (place + 1)
  left_boolean is =
      there_found (λ (n : CheckedNode). kind_of_type n.edm_type ≡ Kind.Value SqlType.Truth) (slice_get question.filter.list.nodes (place + 1)) left_is.node left_is.at (sym left_is.kind ∙ is)

  -- what the list evaluates to
  pub comes_so : (world : World) (o : Outcome) → IsAskedOf question world → OfPlace question.filter place world o → ListHas question.filter left items world o
  comes_so world o seen has = list_comes question types ends is_moment one decided ranges are place left left_source left_is items world o seen listed are_items has

  -- one that evaluates to no fault
  module _ (faultless : IsFaultless ranges place) where
    pub beside : AreBeside question.filter ranges left items
    beside = list_beside question ranges are place faultless left items left_side sides items_compared

    pub left_faultless : left.range.may_fault ≡ false
    left_faultless = side_faultless question ranges are place left faultless left_side

    equals : (world : World) (o : Outcome) → IsAskedOf question world → OfPlace question.filter place world o → EqualsHas question.filter left items world o
    equals world o seen has = list_equals question ranges are place faultless left left_side world seen items sides o (comes_so world o seen has)

    module _ {T E : Type 0} (r : Result T E) (old new : Draft) where
      pub ok_list : (F : Outcome → Outcome → Type 0) → OnOk r (Puts question old new (EqualsHas question.filter left items) F) → OnOk r (Puts question old new (OfPlace question.filter place) F)
      ok_list F put =
          where_ok (list_put question place left items F equals old new) r put

      module _ (constants : AreConstants question.filter left items) where
        pub ok_among_truth : (middle : Draft) → GrowsBy old middle (SqlNode.IsTrue ∷ []) [] [] → OnOk r (Puts question middle new (AmongHas question.filter left items) Itself)
            → OnOk r (Puts question old new (OfPlace question.filter place) (IsInForm Form.Truth))
        ok_among_truth middle grows put =
            ok_list (IsInForm Form.Truth)
            (where_ok (among_truth_put question left items constants.given old middle new (by_node old middle SqlNode.IsTrue refl grows)) r put)

        pub ok_among_plain : left.range.may_be_null ≡ false → OnOk r (Puts question old new (AmongHas question.filter left items) Itself) → OnOk r (Puts question old new (OfPlace question.filter place) (IsInForm Form.Truth))
        ok_among_plain given put =
            ok_list (IsInForm Form.Truth)
            (where_ok (among_plain_put question left items constants.given given old new) r put)

        pub ok_among_kept : OnOk r (Puts question old new (AmongHas question.filter left items) Itself) → OnOk r (Puts question old new (OfPlace question.filter place) (IsInForm Form.Keeps))
        ok_among_kept put =
            ok_list (IsInForm Form.Keeps)
            (where_ok (among_kept_put question left items constants.given old new) r put)

  -- by its code

  module _ {T E : Type 0} (r : Result T E) (no_truth : NoTruth left) (old new : Draft) where
    pub ok_list_plain_code : ((type : SqlType) → left.kind ≢ Kind.Value type) → OnOk r (Puts question old new (EqualCodesOrNull question.filter left items) AsCode)
        → OnOk r (Puts question old new (OfPlace question.filter place) (IsInForm Form.Code))
    ok_list_plain_code other put =
        where_ok (list_code_plain_put question place left no_truth (uncarried_kind left.range.may_fault left.kind other) items comes_so old new) r put

    pub ok_list_code : (first : Operand) (lifted : Lifted) → IsLifted (left ∷ []) old.depth lifted → slice_get lifted.inner.items 0 ≡ Some first → (opened fronted body : Draft) → IsOpened lifted old opened
        → Grows opened fronted (faults_front None lifted.level lifted.bound.items) → Puts question fronted body (EqualCodesOrNull question.filter first items) AsCode
        → OnOk r (PutsAll question (closed body (length lifted.bound.items)) new (AllHave question.filter lifted.bound.items) (length lifted.bound.items))
        → OnOk r (lifted.bound.items ≡ [] → Grows (closed body (length lifted.bound.items)) new []) → OnOk r (Puts question old new (OfPlace question.filter place) (IsInForm Form.Code))
    ok_list_code first lifted is_lifted at_first opened fronted body is_opened front put values idle =
        on_both r (PutsAll question (closed body (length lifted.bound.items)) new (AllHave question.filter lifted.bound.items) (length lifted.bound.items)) (lifted.bound.items ≡ [] → Grows (closed body (length lifted.bound.items)) new [])
        (Puts question old new (OfPlace question.filter place) (IsInForm Form.Code))
        (λ v i. list_code_put question place left first items lifted old is_lifted no_truth at_first comes_so opened fronted body new is_opened v i front put) values idle

-- ---- a truth value on the left

-- a node of type Boolean is one of truth values
pub boolean_truth : (question : Question) (place : ℕ) → IsBooleanAt question.filter place → IsTruthAt question.filter place
boolean_truth question place is =
    let n = some_there (λ (n : CheckedNode). kind_of_type n.edm_type ≡ Kind.Value SqlType.Truth) (slice_get question.filter.list.nodes place) is in
    there_found (λ (n : CheckedNode). IsTruthKind (kind_of_type n.edm_type)) (slice_get question.filter.list.nodes place) n.0 n.1.0 (subst IsTruthKind (sym n.1.1) tt)

-- the truth value on the left, as an operand
abbrev pub truth_operand : ℕ → Range → Operand
truth_operand place range = record { source = Source.Node place; kind = Kind.Value SqlType.Truth; range = range }

pub is_truth_operand : (filter : Filter) (ranges : List Range) (place : ℕ) (range : Range) → IsBooleanAt filter place → slice_get ranges place ≡ Some range → IsNodeOperand filter ranges (truth_operand place range) place
is_truth_operand filter ranges place range is ranged =
    let n = some_there (λ (n : CheckedNode). kind_of_type n.edm_type ≡ Kind.Value SqlType.Truth) (slice_get filter.list.nodes place) is in
    record { node = n.0; at = n.1.0; kind = sym n.1.1; range = ranged }

module _ (question : Question) (place : ℕ) (left : Operand) (left_source : left.source ≡ Source.Node (place + 1)) (left_kind : left.kind ≡ Kind.Value SqlType.Truth) {T E : Type 0} (r : Result T E) (old new : Draft) where
  abbrev Comes : List Operand → Type 0
  Comes items = (world : World) (o : Outcome) → IsAskedOf question world → OfPlace question.filter place world o → ListHas question.filter left items world o

  pub ok_never : (items : List Operand) → Comes items → length items ≡ 0 → (middle : Draft) → GrowsBy old middle (SqlNode.LookUp LookUp.Never ∷ []) [] []
      → OnOk r (Puts question middle new (OfPlace question.filter (place + 1)) (IsInForm Form.Code)) → OnOk r (Puts question old new (OfPlace question.filter place) (IsInForm Form.Code))
  ok_never [] comes none middle grows put =
      where_ok (never_put question place left old middle new left_source left_kind comes (by_node old middle (SqlNode.LookUp LookUp.Never) refl grows)) r put
  ok_never (item ∷ items) comes none middle grows put = absurd (omega (arith, none))

  pub ok_truth_list : (items : List Operand) → Comes items → 0 < length items → (bound : Operand) → bound.source ≡ Source.Bound old.depth → bound.kind ≡ Kind.Value SqlType.Truth → bound.range ≡ left.range
      → (binding opened body shut : Draft) → GrowsBy old binding (SqlNode.Let old.depth 1 ∷ []) [] [] → IsDeeper binding opened 1 → Puts question opened body (EqualCodesOrNull question.filter bound items) AsCode
      → shut.tree ≡ body.tree → shut.members.items ≡ body.members.items → shut.depth + 1 ≡ body.depth → OnOk r (Puts question shut new (OfPlace question.filter (place + 1)) (IsInForm Form.Code))
      → OnOk r (Puts question old new (OfPlace question.filter place) (IsInForm Form.Code))
  ok_truth_list [] comes some bound source kind range binding opened body shut grows deeper inner tree_is members_are depth_is put = absurd (omega (arith, some))
  ok_truth_list (item ∷ items) comes some bound source kind range binding opened body shut grows deeper inner tree_is members_are depth_is put =
      let deep : opened.depth ≡ binding.depth + 1 = deeper.depth in
      let same : binding.depth ≡ old.depth = grows.depth in
      let grown : body.depth ≡ opened.depth = inner.grows.depth in
      let depth : opened.depth ≡ old.depth + 1 = omega (arith, deep, same) in
      let shut_depth : shut.depth ≡ old.depth = omega (arith, depth, grown, depth_is) in
      where_ok (truth_list_put question place left bound item items old opened body shut new left_source left_kind source kind range comes
      (ap (λ (t : SqlTree). t.nodes.items) deeper.tree ∙ grows.nodes_are) (ap (λ (t : SqlTree). t.paths.items) deeper.tree ∙ grows.paths_are ∙ append-nil old.tree.paths.items)
      (ap (λ (t : SqlTree). t.parameters.items) deeper.tree ∙ grows.parameters_are ∙ append-nil old.tree.parameters.items) (deeper.members ∙ grows.members) depth inner tree_is members_are shut_depth) r put
