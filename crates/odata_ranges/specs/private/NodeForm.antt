-- For private clauses: nodes by how the range of each is made.
use Rattle.std.specs.Prelude.{◌≡◌, ◌+◌, ℕ, List, Some, false, length, slice_get}
use Rattle.odata_checked_filter.specs.Filter.{Filter, IsFilter}
use Rattle.odata_checked_filter.specs.declared.checked_node.CheckedNode.{CheckedNode}
use Rattle.odata_checked_filter.specs.declared.checked_node.NodeKind.{NodeKind}
use Rattle.odata_ranges.specs.Faults.{AreQuiet, AreReportedFrom, MakesNone}
use Rattle.odata_ranges.specs.Ranges.{AreRangesFrom, IsRangeAt}
use Rattle.odata_ranges.specs.declared.node_form.NodeForm.{NodeForm}
use Rattle.odata_ranges.specs.declared.range.Range.{Range}

abbrev pub form_of : NodeKind → NodeForm
form_of (NodeKind.Literal kind value) = NodeForm.Leaf
form_of NodeKind.It = NodeForm.Leaf
form_of (NodeKind.Property slot) = NodeForm.Leaf
form_of (NodeKind.Variable level) = NodeForm.Leaf
form_of NodeKind.Now = NodeForm.Leaf
form_of (NodeKind.Member slot) = NodeForm.Step slot
form_of NodeKind.Count = NodeForm.One
form_of NodeKind.AnyItem = NodeForm.One
form_of NodeKind.Neg = NodeForm.One
form_of NodeKind.Not = NodeForm.One
form_of NodeKind.InList = NodeForm.List
form_of (NodeKind.Call function) = NodeForm.Call function
form_of _ = NodeForm.Two

-- the node stands at the index of a filter's list, and is of the form
pub record HasForm (filter : Filter) (place : ℕ) (node : CheckedNode) (form : NodeForm) : Type 0 where
  pub right : IsFilter filter
  pub at : slice_get filter.list.nodes place ≡ Some node
  pub is : form_of node.kind ≡ form

-- there are as many ranges as nodes, and those after the index are right
pub record AreKnownAfter (filter : Filter) (place : ℕ) (ranges : List Range) : Type 0 where
  pub as_many : length ranges ≡ length filter.list.nodes
  pub after : AreRangesFrom filter (place + 1) ranges
  pub reported : AreReportedFrom filter (place + 1) ranges

-- the range holds what comes of the node there; where no node below evaluates to a fault, this one does only if it
-- makes one; `$it` is not null
pub record IsOwnRange (filter : Filter) (ranges : List Range) (place : ℕ) (node : CheckedNode) (range : Range) : Type 0 where
  pub right : IsRangeAt filter place range
  pub quiet : MakesNone node.kind node.edm_type → AreQuiet ranges (place + 1) node.stop → range.may_fault ≡ false
  pub entity : node.kind ≡ NodeKind.It → range.may_be_null ≡ false
