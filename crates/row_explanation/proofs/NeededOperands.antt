-- Which logical operators around a node need the operand in which it lies.
use Rattle.std.proofs.Common.{◌≡◌, ◌≢◌, ◌∙◌, ◌<◌, ◌≤◌, ◌+◌, ℕ, Bool, true, false, Option, Some, None, Result, Ok, Err, refl, slice_get, subst, sym, arith}
use Rattle.std.specs.Prelude.{IfOk, IsSomeAnd}
use Rattle.std.specs.declared.alloc.AllocError.{AllocError}
use Rattle.edm_values.specs.MomentParts.{MomentParts}
use Rattle.edm_values.specs.declared.datum.Datum.{Datum}
use Rattle.edm_values.specs.declared.datum.Datum.TheVariants as datum
use Rattle.edm_entities.specs.Row.{Row}
use Rattle.odata_syntax.specs.declared.binary_operator.BinaryOperator.{BinaryOperator}
use Rattle.odata_syntax.specs.declared.binary_operator.LogicalOperator.{LogicalOperator}
use Rattle.odata_checked_filter.specs.FlatTree.{FlatTree}
use Rattle.odata_checked_filter.specs.declared.checked_node.CheckedNode.{CheckedNode}
use Rattle.odata_checked_filter.specs.declared.checked_node.NodeKind.{NodeKind}
use Rattle.row_explanation.specs.NodeReports.{DecidesHere, IsDecidedAround, IsInSecond, IsUndecidedAround, UndecidedHere, decides_by}

-- a value that is no truth value decides no operator
pub other_decides_none : (value : Datum) (operator : LogicalOperator) → ((truth : Bool) → ¬ (value ≡ datum.Bool truth)) → false ≡ decides_by value operator
other_decides_none datum.Null operator other = refl
other_decides_none (datum.Bool truth) operator other = absurd (other truth refl)
other_decides_none (datum.Int number) operator other = refl
other_decides_none (datum.Text text) operator other = refl
other_decides_none (datum.Date date) operator other = refl
other_decides_none (datum.Moment moment) operator other = refl
other_decides_none (datum.Guid guid) operator other = refl
other_decides_none (datum.Enum number) operator other = refl
other_decides_none (datum.Record slots) operator other = refl
other_decides_none (datum.Sparse slots) operator other = refl
other_decides_none (datum.List members) operator other = refl

none_there : {X : Type 0} (P : X → Type 0) (held : Option X) → None ≡ held → IsSomeAnd held P → ⊥
none_there P None none holds = holds
none_there P (Some x) none holds = cc

-- what is said of the node that is found
of_found : {X : Type 0} (P : X → Type 0) (held : Option X) (found : X) → Some found ≡ held → IsSomeAnd held P → P found
of_found P (Some x) found here holds = let same : x ≡ found = cc in subst P same holds
of_found P None found here holds = absurd holds

module _ (row : Row) (moment : MomentParts) (list : FlatTree) (outer index : ℕ) where
  abbrev IsLogicalBefore : LogicalOperator → CheckedNode → Type 0
  IsLogicalBefore operator found = (found.kind ≡ NodeKind.Binary (BinaryOperator.Logical operator)) × (index < found.stop)

  abbrev StopsBefore : CheckedNode → Type 0
  StopsBefore first = first.stop ≤ index

  pub in_second : (operator : LogicalOperator) (node first : CheckedNode) → outer < index → Some node ≡ slice_get list.nodes outer → Some first ≡ slice_get list.nodes (outer + 1)
      → node.kind ≡ NodeKind.Binary (BinaryOperator.Logical operator) → index < node.stop → first.stop ≤ index → IsInSecond list outer index operator
  in_second operator node first after here next kind before past = record {
    after = after;
    before_end = subst (λ (o : Option CheckedNode). IsSomeAnd o (IsLogicalBefore operator)) here (kind, before);
    after_first = subst (λ (o : Option CheckedNode). IsSomeAnd o StopsBefore) next past;
  }

  pub decided_around : (operator : LogicalOperator) (answer : Result Bool AllocError) → IsInSecond list outer index operator
      → IfOk answer (λ is. is ≡ true → DecidesHere row moment list (outer + 1) operator) → IfOk answer (λ is. is ≡ true → IsDecidedAround row moment list outer index)
  decided_around operator (Ok is) lies decides = λ holds. (operator, lies, decides holds)
  decided_around operator (Err fault) lies decides = tt

  -- a node has one kind
  one_operator : (operator other : LogicalOperator) (node : CheckedNode) → Some node ≡ slice_get list.nodes outer → node.kind ≡ NodeKind.Binary (BinaryOperator.Logical operator)
      → IsInSecond list outer index other → operator ≡ other
  one_operator operator other node here kind lies =
      let found = of_found (IsLogicalBefore other) (slice_get list.nodes outer) node here lies.before_end in
      let kinds : NodeKind.Binary (BinaryOperator.Logical operator) ≡ NodeKind.Binary (BinaryOperator.Logical other) = sym kind ∙ found.0 in
      cc

  pub undecided_around : (operator : LogicalOperator) (node : CheckedNode) (answer : Result Bool AllocError) → Some node ≡ slice_get list.nodes outer
      → node.kind ≡ NodeKind.Binary (BinaryOperator.Logical operator) → IfOk answer (λ is. is ≡ false → UndecidedHere row moment list (outer + 1) operator)
      → IfOk answer (λ is. is ≡ false → IsUndecidedAround row moment list outer index)
  undecided_around operator node (Ok is) here kind undecided = λ holds other lies.
      subst (λ (o : LogicalOperator). UndecidedHere row moment list (outer + 1) o) (one_operator operator other node here kind lies) (undecided holds)
  undecided_around operator node (Err fault) here kind undecided = tt

  -- no operator around, by what stands there

  pub none_at_outer : None ≡ slice_get list.nodes outer → IsUndecidedAround row moment list outer index
  none_at_outer none operator lies = absurd (none_there (IsLogicalBefore operator) (slice_get list.nodes outer) none lies.before_end)

  pub none_at_next : None ≡ slice_get list.nodes (outer + 1) → IsUndecidedAround row moment list outer index
  none_at_next none operator lies = absurd (none_there StopsBefore (slice_get list.nodes (outer + 1)) none lies.after_first)

  pub none_by_kind : (node : CheckedNode) → Some node ≡ slice_get list.nodes outer → ((operator : LogicalOperator) → node.kind ≢ NodeKind.Binary (BinaryOperator.Logical operator))
      → IsUndecidedAround row moment list outer index
  none_by_kind node here other operator lies = absurd (other operator (of_found (IsLogicalBefore operator) (slice_get list.nodes outer) node here lies.before_end).0)

  pub none_in_first : (first : CheckedNode) → Some first ≡ slice_get list.nodes (outer + 1) → index < first.stop → IsUndecidedAround row moment list outer index
  none_in_first first next before operator lies =
      let past : first.stop ≤ index = of_found StopsBefore (slice_get list.nodes (outer + 1)) first next lies.after_first in
      absurd (omega arith)

  pub none_past_end : (node : CheckedNode) → Some node ≡ slice_get list.nodes outer → node.stop ≤ index → IsUndecidedAround row moment list outer index
  none_past_end node here past operator lies =
      let found = of_found (IsLogicalBefore operator) (slice_get list.nodes outer) node here lies.before_end in
      let before : index < node.stop = found.1 in
      absurd (omega arith)
