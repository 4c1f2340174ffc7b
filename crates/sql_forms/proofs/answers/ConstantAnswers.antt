-- Whether all items so far are values that the filter itself has.
use Rattle.sql_forms.proofs.Common.{◌≡◌, ◌≢◌, ◌<◌, ◌+◌, ◌==◌, [], ◌∷◌, ℕ, List, Bool, true, false, not, Some, length, take, refl, sym, ap, subst, ◌∙◌, arith, slice_get, AllByRecursion, take-length, slice_get_within, LiteralKind, Filter, CheckedNode, NodeKind, there_found, Range, SqlType, Operand, Source, Kind, IsSide, IsSideBy, AreBeside, AreConstants, IsNeverNull, AreCompared, IsPut, IsTested}
use Rattle.sql_forms.proofs.answers.LoopAnswers.{take_none}
use Rattle.sql_outcomes.proofs.nodes.Constants.{literal_given, number_given, one_of_all}
use Rattle.sql_outcomes.proofs.outcomes.Elements.{at_all}
use Rattle.sql_outcomes.proofs.outcomes.TestedBoth.{tested_put}

-- where the answer is still true: the left side is a value that is no truth value, and no item before the index is null
pub record ConstantsSoFar (filter : Filter) (left : Operand) (items : List Operand) (all : Bool) (n : ℕ) : Type 0 where
  pub value : all ≡ true → (type : SqlType) × (left.kind ≡ Kind.Value type) × (type ≢ SqlType.Truth)
  pub given : all ≡ true → AllByRecursion (IsNeverNull filter) (take n items)
  pub kinds : all ≡ true → AllByRecursion (λ (item : Operand). item.kind ≢ Kind.Null) (take n items)

module _ (filter : Filter) (left : Operand) (items : List Operand) where
  pub constants_start : (all : Bool) → (all ≡ true → (type : SqlType) × (left.kind ≡ Kind.Value type) × (type ≢ SqlType.Truth)) → ConstantsSoFar filter left items all 0
  constants_start all value = record {
    value = value;
    given = λ is. subst (AllByRecursion (IsNeverNull filter)) (sym (take_none items)) tt;
    kinds = λ is. subst (AllByRecursion (λ (item : Operand). item.kind ≢ Kind.Null)) (sym (take_none items)) tt;
  }

  pub constants_more : (all next : Bool) (n : ℕ) (x : Operand) → slice_get items n ≡ Some x → (next ≡ true → (all ≡ true) × IsNeverNull filter x × (x.kind ≢ Kind.Null)) → ConstantsSoFar filter left items all n
      → ConstantsSoFar filter left items next (n + 1)
  constants_more all next n x at holds so = record {
    value = λ is. so.value (holds is).0;
    given = λ is. one_of_all (IsNeverNull filter) items n x at (so.given (holds is).0) (holds is).1;
    kinds = λ is. one_of_all (λ (item : Operand). item.kind ≢ Kind.Null) items n x at (so.kinds (holds is).0) (holds is).2;
  }

  pub constants_end : (all : Bool) → all ≡ true → 0 < length items → ConstantsSoFar filter left items all (length items) → AreConstants filter left items
  constants_end all is some so =
      let value = so.value is in
      record {
        type_of = value.0;
        left_is = value.1;
        no_truth = value.2;
        some = some;
        given = subst (AllByRecursion (IsNeverNull filter)) (take-length items) (so.given is);
        kinds = subst (AllByRecursion (λ (item : Operand). item.kind ≢ Kind.Null)) (take-length items) (so.kinds is);
      }

-- ---- one item

module _ (filter : Filter) (ranges : List Range) (place : ℕ) (items : List Operand) (sides : AllByRecursion (IsSide filter ranges place) items) (n : ℕ) (x : Operand) (at : slice_get items n ≡ Some x) where
  -- a number of an enumeration
  pub constant_number : (number : ℕ) → x.source ≡ Source.Number number → IsNeverNull filter x
  constant_number number source = number_given filter ranges x number source

  -- a literal that is not null
  pub constant_literal : (node_place : ℕ) (found : CheckedNode) (kind : LiteralKind) (value : ℕ) → x.source ≡ Source.Node node_place → slice_get filter.list.nodes node_place ≡ Some found
      → found.kind ≡ NodeKind.Literal kind value → x.kind ≢ Kind.Null → IsNeverNull filter x
  constant_literal node_place found kind value source found_at is other =
      let side : IsSideBy filter ranges place x (Source.Node node_place) = subst (IsSideBy filter ranges place x) source (at_all (IsSide filter ranges place) items n x sides at) in
      literal_given filter ranges x node_place kind value source side.0
      (there_found (λ (f : CheckedNode). f.kind ≡ NodeKind.Literal kind value) (slice_get filter.list.nodes node_place) found found_at is) other

-- ---- what may be put

compared_value : (type : SqlType) (kind : Kind) → AreCompared (Kind.Value type) kind → kind ≢ Kind.Null → kind ≡ Kind.Value type
compared_value type Kind.Null compared other = absurd (other refl)
compared_value type (Kind.Value own) compared other = ap Kind.Value (sym compared)
compared_value type Kind.Structured compared other = absurd compared

module _ (filter : Filter) (ranges : List Range) (left : Operand) (items : List Operand) (constants : AreConstants filter left items) (beside : AreBeside filter ranges left items) where
  value_put : (x : Operand) → x.kind ≡ Kind.Value constants.type_of → IsTested filter ranges x → IsPut filter ranges x
  value_put x is tested = tested_put filter ranges x (λ same. let e : Kind.Value constants.type_of ≡ Kind.Structured = sym is ∙ same in absurd (cc)) tested

  pub left_put : IsPut filter ranges left
  left_put = value_put left constants.left_is beside.left_tested

  module _ (n : ℕ) (x : Operand) (at : slice_get items n ≡ Some x) where
    pub item_value : x.kind ≡ Kind.Value constants.type_of
    item_value =
        compared_value constants.type_of x.kind
        (subst (λ (k : Kind). AreCompared k x.kind) constants.left_is (at_all (λ (item : Operand). AreCompared left.kind item.kind) items n x beside.compared at))
        (at_all (λ (item : Operand). item.kind ≢ Kind.Null) items n x constants.kinds at)

    pub item_put : IsPut filter ranges x
    item_put = value_put x item_value (at_all (IsTested filter ranges) items n x beside.tested at)

-- ---- what was asked of one item

pub no_null_item : (kind : Kind) (null_it : Bool) → (kind ≡ Kind.Null → null_it ≡ true) → not null_it ≡ true → kind ≢ Kind.Null
no_null_item kind null_it reported other same = let clash : false ≡ true = sym (ap not (reported same)) ∙ other in absurd (cc)

pub some_items : (items : List Operand) (empty : Bool) → empty ≡ (length items == 0) → not empty ≡ true → 0 < length items
some_items [] empty reported other = let clash : false ≡ true = sym (ap not reported) ∙ other in absurd (cc)
some_items (item ∷ items) empty reported other = omega arith

pub constant_inside : (filter : Filter) (ranges : List Range) (place : ℕ) (items : List Operand) → AllByRecursion (IsSide filter ranges place) items → (n : ℕ) (x : Operand) → slice_get items n ≡ Some x
    → (node_place : ℕ) → x.source ≡ Source.Node node_place → node_place < length filter.list.nodes
constant_inside filter ranges place items sides n x at node_place source =
    let side : IsSideBy filter ranges place x (Source.Node node_place) = subst (IsSideBy filter ranges place x) source (at_all (IsSide filter ranges place) items n x sides at) in
    slice_get_within filter.list.nodes node_place side.0.node side.0.at
