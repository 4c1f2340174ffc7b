-- What the calls that look at a node say of its index.
use Rattle.sql_forms.proofs.Common.{◌≡◌, ◌≢◌, ◌<◌, ◌∙◌, ℕ, Bool, true, false, List, Some, length, refl, sym, subst, arith, IsSomeAnd, slice_get, Filter, CheckedNode, NodeKind, found_there, inside, some_there, there_found, HasKind, IsQuietKind, Range, BinaryOperator, LogicalOperator, SqlType, Operand, Kind, IsChain, IsConnective, IsSide, kind_of_type, IsTested, AreRanges, IsBooleanAt, IsFaultless, IsPlainAt, IsTruthAt, IsTruthKind, Question}
use Rattle.sql_outcomes.proofs.nodes.ComparisonPlaces.{side_faultless, side_tested}
use Rattle.sql_forms.proofs.puts.FormsPut.{range_there}

-- ---- indices

pub truth_inside : (filter : Filter) (place : ℕ) → IsTruthAt filter place → place < length filter.list.nodes
truth_inside filter place truth = inside (λ (n : CheckedNode). IsTruthKind (kind_of_type n.edm_type)) filter.list.nodes place truth

pub truth_ranged : (question : Question) (ranges : List Range) → AreRanges question ranges → (place : ℕ) → IsTruthAt question.filter place → place < length ranges
truth_ranged question ranges are place truth =
    let here : place < length question.filter.list.nodes = truth_inside question.filter place truth in
    let many : length ranges ≡ length question.filter.list.nodes = are.count in
    omega (arith, here, many)

-- ---- kinds

pub kind_here : (filter : Filter) (place : ℕ) (found : CheckedNode) → slice_get filter.list.nodes place ≡ Some found → (kind : NodeKind) → found.kind ≡ kind → HasKind filter.list place kind
kind_here filter place found at kind is = there_found (λ (n : CheckedNode). n.kind ≡ kind) (slice_get filter.list.nodes place) found at is

pub connective_here : (filter : Filter) (place : ℕ) (found : CheckedNode) → slice_get filter.list.nodes place ≡ Some found → (connective : LogicalOperator) → found.kind ≡ NodeKind.Binary (BinaryOperator.Logical connective)
    → IsConnective filter place connective
connective_here filter place found at connective is =
    there_found (λ (n : CheckedNode). (operator : BinaryOperator) × (n.kind ≡ NodeKind.Binary operator) × (operator ≡ BinaryOperator.Logical connective)) (slice_get filter.list.nodes place) found at
    (BinaryOperator.Logical connective, is, refl)

-- what kind of values the node has, as `kind` says
pub kind_there : (filter : Filter) (place : ℕ) (reported kind : Kind) → IsSomeAnd (slice_get filter.list.nodes place) (λ n. reported ≡ kind_of_type n.edm_type) → reported ≡ kind
    → IsSomeAnd (slice_get filter.list.nodes place) (λ n. kind_of_type n.edm_type ≡ kind)
kind_there filter place reported kind reports is =
    let here = some_there (λ (n : CheckedNode). reported ≡ kind_of_type n.edm_type) (slice_get filter.list.nodes place) reports in
    there_found (λ (n : CheckedNode). kind_of_type n.edm_type ≡ kind) (slice_get filter.list.nodes place) here.0 here.1.0 (sym here.1.1 ∙ is)

truth_only : (kind : Kind) → IsTruthKind kind → kind ≢ Kind.Null → kind ≡ Kind.Value SqlType.Truth
truth_only (Kind.Value SqlType.Truth) is other = refl
truth_only Kind.Null is other = absurd (other refl)
truth_only kind is other = absurd is

-- a truth value that is not of type Null
pub boolean_there : (filter : Filter) (place : ℕ) (reported : Kind) → IsSomeAnd (slice_get filter.list.nodes place) (λ n. reported ≡ kind_of_type n.edm_type) → reported ≢ Kind.Null → IsTruthAt filter place
    → IsBooleanAt filter place
boolean_there filter place reported reports other truth =
    let here = some_there (λ (n : CheckedNode). reported ≡ kind_of_type n.edm_type) (slice_get filter.list.nodes place) reports in
    let is = found_there (λ (n : CheckedNode). IsTruthKind (kind_of_type n.edm_type)) (slice_get filter.list.nodes place) here.0 here.1.0 truth in
    there_found (λ (n : CheckedNode). kind_of_type n.edm_type ≡ Kind.Value SqlType.Truth) (slice_get filter.list.nodes place) here.0 here.1.0
    (truth_only (kind_of_type here.0.edm_type) is (λ null. other (here.1.1 ∙ null)))

pub boolean_of : (filter : Filter) (place : ℕ) (found : CheckedNode) → slice_get filter.list.nodes place ≡ Some found → IsBooleanAt filter place → kind_of_type found.edm_type ≡ Kind.Value SqlType.Truth
boolean_of filter place found at boolean = found_there (λ (n : CheckedNode). kind_of_type n.edm_type ≡ Kind.Value SqlType.Truth) (slice_get filter.list.nodes place) found at boolean

-- the kind of a node that is found
pub kind_found : (filter : Filter) (place : ℕ) (found : CheckedNode) → slice_get filter.list.nodes place ≡ Some found → (reported : Kind) → IsSomeAnd (slice_get filter.list.nodes place) (λ n. reported ≡ kind_of_type n.edm_type)
    → reported ≡ kind_of_type found.edm_type
kind_found filter place found at reported reports = found_there (λ (n : CheckedNode). reported ≡ kind_of_type n.edm_type) (slice_get filter.list.nodes place) found at reports

-- a node of a kind of truth values is one
pub truth_at : (filter : Filter) (place : ℕ) (reported : Kind) → IsSomeAnd (slice_get filter.list.nodes place) (λ n. reported ≡ kind_of_type n.edm_type) → IsTruthKind reported → IsTruthAt filter place
truth_at filter place reported reports is =
    let here = some_there (λ (n : CheckedNode). reported ≡ kind_of_type n.edm_type) (slice_get filter.list.nodes place) reports in
    there_found (λ (n : CheckedNode). IsTruthKind (kind_of_type n.edm_type)) (slice_get filter.list.nodes place) here.0 here.1.0 (subst IsTruthKind here.1.1 is)

-- ---- faults, as `may_fault` says

pub faultless_there : (ranges : List Range) (place : ℕ) (reported : Bool) → IsSomeAnd (slice_get ranges place) (λ range. reported ≡ range.may_fault) → reported ≡ false → IsFaultless ranges place
faultless_there ranges place reported reports is =
    let here = some_there (λ (r : Range). reported ≡ r.may_fault) (slice_get ranges place) reports in
    there_found (λ (r : Range). r.may_fault ≡ false) (slice_get ranges place) here.0 here.1.0 (sym here.1.1 ∙ is)

-- a truth value that is to evaluate to no fault, and a node that cannot
pub plain_faultless : (question : Question) (ranges : List Range) → AreRanges question ranges → (place : ℕ) (found : CheckedNode) → slice_get question.filter.list.nodes place ≡ Some found
    → IsPlainAt question.filter ranges place → kind_of_type found.edm_type ≡ Kind.Value SqlType.Truth → IsFaultless ranges place
plain_faultless question ranges are place found at plain is =
    let range = range_there question ranges are place found at in
    there_found (λ (r : Range). r.may_fault ≡ false) (slice_get ranges place) range.0 range.1 (plain found range.0 at range.1 is)

pub quiet_faultless : (question : Question) (ranges : List Range) → AreRanges question ranges → (place : ℕ) (found : CheckedNode) → slice_get question.filter.list.nodes place ≡ Some found → IsQuietKind found.kind
    → IsFaultless ranges place
quiet_faultless question ranges are place found at quiet =
    let range = range_there question ranges are place found at in
    there_found (λ (r : Range). r.may_fault ≡ false) (slice_get ranges place) range.0 range.1 (are.plain place found range.0 at range.1 quiet)

pub record FaultThere (ranges : List Range) (place : ℕ) : Type 0 where
  pub range : Range
  pub at : slice_get ranges place ≡ Some range
  pub faults : range.may_fault ≡ true

pub fault_there : (ranges : List Range) (place : ℕ) (reported : Bool) → IsSomeAnd (slice_get ranges place) (λ range. reported ≡ range.may_fault) → reported ≡ true → FaultThere ranges place
fault_there ranges place reported reports is =
    let here = some_there (λ (r : Range). reported ≡ r.may_fault) (slice_get ranges place) reports in
    record {
      range = here.0;
      at = here.1.0;
      faults = sym here.1.1 ∙ is;
    }

-- ---- sides of a node that evaluates to no fault

pub plain_side : (question : Question) (ranges : List Range) → AreRanges question ranges → (place : ℕ) (operand : Operand) → IsFaultless ranges place → IsSide question.filter ranges place operand
    → IsTested question.filter ranges operand
plain_side question ranges are place operand faultless is = side_tested question.filter ranges place operand is (λ truth. side_faultless question ranges are place operand faultless is)

-- ---- a connective that is one

pub chain_is : (question : Question) (place : ℕ) (terms : List ℕ) (connective own : LogicalOperator) → connective ≡ own → IsChain question connective place terms → IsChain question own place terms
chain_is question place terms connective own is chain = subst (λ (c : LogicalOperator). IsChain question c place terms) is chain
