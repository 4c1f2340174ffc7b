-- What the functions return that put comparisons by their codes, and flags.
use Rattle.sql_forms.proofs.Common.{◌≡◌, ◌≢◌, ◌+◌, ◌∷◌, [], ℕ, List, None, Some, Result, OnOk, length, refl, sym, ap, subst, slice_get, Filter, NodeKind, HasKind, Range, ComparisonOperator, IsTableBesideNull, IsTableOfComparison, LookUp, Digit, SqlNode, SqlType, Draft, Operand, Kind, Lifted, Form, FlagsHave, CodeHas, ComparisonHas, FaultyHave, IsFaulty, IsFaultyKind, NoTruth, Grows, GrowsBy, AllHave, IsLifted, IsOpened, faults_front, AsCode, FaultyOrNull, IsPlainValue, AreCompared, OperandHas, PutsPath, AreRanges, OfPlace, Puts, PutsAll, Question, by_node, on_both, on_ok, Source}
use Rattle.sql_forms.specs.Forms.{IsInForm}
use Rattle.sql_outcomes.specs.private.ValueForms.{Itself, OrTruth}
use Rattle.sql_outcomes.specs.private.FaultySides.{IsCoded}
use Rattle.sql_forms.proofs.answers.MemberAnswers.{after_nothing}
use Rattle.sql_forms.proofs.puts.CodesPut.{truth_after_null, truth_before_null, truths_put}
use Rattle.sql_forms.proofs.puts.ComparedCodePut.{as_code_put, compared_code_put, only_code_put}
use Rattle.sql_forms.proofs.puts.FaultyComparisonsPut.{truth_code_put}
use Rattle.sql_forms.proofs.puts.FlagsPut.{any_item_put, flags_put}
use Rattle.sql_forms.proofs.lets.LiftedPut.{closed}

no_plain : (kind : Kind) → kind ≡ Kind.Value SqlType.Truth → IsPlainValue kind → ⊥
no_plain (Kind.Value SqlType.Truth) is plain = plain
no_plain Kind.Null is plain = plain
no_plain Kind.Structured is plain = plain
no_plain (Kind.Value type) is plain = let e : Kind.Value type ≡ Kind.Value SqlType.Truth = is in absurd (cc)

no_null : (kind : Kind) → kind ≡ Kind.Null → IsPlainValue kind → ⊥
no_null (Kind.Value type) is plain = let e : Kind.Value type ≡ Kind.Null = is in absurd (cc)
no_null _ is plain = plain

-- a truth value that may be a fault has a code
pub faulty_coded : (filter : Filter) (ranges : List Range) (operand : Operand) → operand.kind ≡ Kind.Value SqlType.Truth → IsFaulty filter ranges operand → IsCoded filter operand.source
faulty_coded filter ranges operand truth faulty = subst (λ (k : Kind). IsFaultyKind filter ranges operand k) truth faulty

-- what has a code is a node, or is bound
pub not_coded : (filter : Filter) (source : Source) → IsCoded filter source → ((place : ℕ) → source ≢ Source.Node place) → ((level : ℕ) → source ≢ Source.Bound level) → ⊥
not_coded filter (Source.Node place) coded no_node no_bound = no_node place refl
not_coded filter (Source.Bound level) coded no_node no_bound = no_bound level refl
not_coded filter source coded no_node no_bound = coded

-- what is compared with a truth value and is none is null
pub null_after_truth : (left right : Kind) → AreCompared left right → left ≡ Kind.Value SqlType.Truth → right ≢ Kind.Value SqlType.Truth → right ≡ Kind.Null
null_after_truth left Kind.Null compared truth other = refl
null_after_truth left Kind.Structured compared truth other = absurd (subst (λ (k : Kind). AreCompared k Kind.Structured) truth compared)
null_after_truth left (Kind.Value type) compared truth other =
    let same : SqlType.Truth ≡ type = subst (λ (k : Kind). AreCompared k (Kind.Value type)) truth compared in
    absurd (other (ap (λ (t : SqlType). Kind.Value t) (sym same)))

pub null_before_truth : (left right : Kind) → AreCompared left right → left ≢ Kind.Value SqlType.Truth → right ≡ Kind.Value SqlType.Truth → left ≡ Kind.Null
null_before_truth Kind.Null right compared other truth = refl
null_before_truth Kind.Structured right compared other truth = absurd (subst (λ (k : Kind). AreCompared Kind.Structured k) truth compared)
null_before_truth (Kind.Value type) right compared other truth =
    let same : type ≡ SqlType.Truth = subst (λ (k : Kind). AreCompared (Kind.Value type) k) truth compared in
    absurd (other (ap (λ (t : SqlType). Kind.Value t) same))

-- ---- comparisons

module _ (question : Question) (operator : ComparisonOperator) (left right : Operand) {T E : Type 0} (r : Result T E) (old new : Draft) where
  abbrev Faulty : Type 0
  Faulty = Puts question old new (FaultyHave question.filter operator left right) (IsInForm Form.Code)

  abbrev Coded : Type 0
  Coded = Puts question old new (FaultyOrNull question.filter operator left right) AsCode

  pub ok_only_code : OnOk r Coded → OnOk r Faulty
  ok_only_code put = on_ok r Coded Faulty (λ p. only_code_put question operator left right old new p) put

  module _ (table : LookUp) (middle : Draft) (grows : GrowsBy old middle (SqlNode.LookUp table ∷ []) [] []) where
    pub ok_truths : IsTableOfComparison table operator → left.kind ≡ Kind.Value SqlType.Truth → right.kind ≡ Kind.Value SqlType.Truth → (next : Draft)
        → Puts question middle next (CodeHas question.filter left.source) (IsInForm Form.Code) → OnOk r (Puts question next new (CodeHas question.filter right.source) (IsInForm Form.Code)) → OnOk r Coded
    ok_truths law left_truth right_truth next first put =
        on_ok r (Puts question next new (CodeHas question.filter right.source) (IsInForm Form.Code)) Coded
        (λ p. as_code_put question operator left right (no_plain left.kind left_truth) old new
        (truths_put question operator left right table old middle next new law left_truth right_truth (by_node old middle (SqlNode.LookUp table) refl grows) first p)) put

    pub ok_before_null : IsTableBesideNull table operator → left.kind ≡ Kind.Value SqlType.Truth → right.kind ≡ Kind.Null → OnOk r (Puts question middle new (CodeHas question.filter left.source) (IsInForm Form.Code)) → OnOk r Coded
    ok_before_null law truth kind put =
        on_ok r (Puts question middle new (CodeHas question.filter left.source) (IsInForm Form.Code)) Coded
        (λ p. as_code_put question operator left right (no_plain left.kind truth) old new
        (truth_before_null question operator left right table old middle new law truth kind (by_node old middle (SqlNode.LookUp table) refl grows) p)) put

    pub ok_after_null : IsTableBesideNull table operator → left.kind ≡ Kind.Null → right.kind ≡ Kind.Value SqlType.Truth → OnOk r (Puts question middle new (CodeHas question.filter right.source) (IsInForm Form.Code)) → OnOk r Coded
    ok_after_null law kind truth put =
        on_ok r (Puts question middle new (CodeHas question.filter right.source) (IsInForm Form.Code)) Coded
        (λ p. as_code_put question operator left right (no_null left.kind kind) old new
        (truth_after_null question operator left right table old middle new law kind truth (by_node old middle (SqlNode.LookUp table) refl grows) p)) put

  -- the faults first
  pub ok_compared_code : (first second : Operand) (lifted : Lifted) → IsLifted (left ∷ right ∷ []) old.depth lifted → slice_get lifted.inner.items 0 ≡ Some first → slice_get lifted.inner.items 1 ≡ Some second → NoTruth left
      → NoTruth right → (opened fronted coding body : Draft) → IsOpened lifted old opened → Grows opened fronted (faults_front None lifted.level lifted.bound.items) → GrowsBy fronted coding (SqlNode.TruthCode ∷ []) [] []
      → Puts question coding body (ComparisonHas question.filter operator first second) (OrTruth Itself) → OnOk r (PutsAll question (closed body (length lifted.bound.items)) new (AllHave question.filter lifted.bound.items) (length lifted.bound.items))
      → OnOk r (lifted.bound.items ≡ [] → Grows (closed body (length lifted.bound.items)) new []) → OnOk r Coded
  ok_compared_code first second lifted is_lifted at_first at_second no_left no_right opened fronted coding body is_opened front grows put values idle =
      on_both r (PutsAll question (closed body (length lifted.bound.items)) new (AllHave question.filter lifted.bound.items) (length lifted.bound.items)) (lifted.bound.items ≡ [] → Grows (closed body (length lifted.bound.items)) new []) Coded
      (λ v i. compared_code_put question operator left right first second lifted old is_lifted at_first at_second no_left no_right opened fronted body new is_opened v i front
      (truth_code_put question operator left right first second fronted coding body (by_node fronted coding SqlNode.TruthCode refl grows) put)) values idle

-- ---- flags

module _ (question : Question) {T E : Type 0} (r : Result T E) where
  pub ok_flags : (left right : Operand) (old middle next new : Draft) → GrowsBy old middle (SqlNode.HasBits ∷ []) [] [] → Puts question middle next (OperandHas question.filter left) Itself
      → OnOk r (Puts question next new (OperandHas question.filter right) Itself) → OnOk r (Puts question old new (FlagsHave question.filter left right) Itself)
  ok_flags left right old middle next new grows first put =
      on_ok r (Puts question next new (OperandHas question.filter right) Itself) (Puts question old new (FlagsHave question.filter left right) Itself)
      (λ p. flags_put question left right old middle next new (by_node old middle SqlNode.HasBits refl grows) first p) put

  pub ok_any_item : (ranges : List Range) → AreRanges question ranges → (place : ℕ) → HasKind question.filter.list place NodeKind.AnyItem → (path : ℕ) (d0 d1 d2 d3 new : Draft) → PutsPath question d0 d1 (place + 1) path
      → GrowsBy d1 d2 (SqlNode.Compare ComparisonOperator.Gt SqlType.Whole ∷ []) [] [] → GrowsBy d2 d3 (SqlNode.Count path ∷ []) [] [] → OnOk r (GrowsBy d3 new (SqlNode.Number Digit.Zero ∷ []) [] [])
      → OnOk r (Puts question d0 new (OfPlace question.filter place) (IsInForm Form.Truth))
  ok_any_item ranges are place here path d0 d1 d2 d3 new leads compare_grows count_grows put =
      on_ok r (GrowsBy d3 new (SqlNode.Number Digit.Zero ∷ []) [] []) (Puts question d0 new (OfPlace question.filter place) (IsInForm Form.Truth))
      (λ g. after_nothing question d0 d1 new (OfPlace question.filter place) (IsInForm Form.Truth) leads.grows
      (any_item_put question ranges are place here path d1 d2 d3 new leads.leads (by_node d1 d2 (SqlNode.Compare ComparisonOperator.Gt SqlType.Whole) refl compare_grows)
      (by_node d2 d3 (SqlNode.Count path) refl count_grows) (by_node d3 new (SqlNode.Number Digit.Zero) refl g))) put
