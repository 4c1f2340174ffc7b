-- For private clauses: what a walk stores of a node.
use Rattle.std.specs.Prelude.{◌≡◌, List, [], ℕ, ℤ, Bool, true, false, None, Some, slice_get}
use Rattle.edm_values.specs.declared.primitive.PrimitiveType.{PrimitiveType}
use Rattle.edm_values.specs.declared.value.Value.{Value}
use Rattle.odata_text.specs.declared.span.Span.{Span}
use Rattle.odata_signatures.specs.declared.edm_type.EdmType.{EdmType}
use Rattle.odata_signatures.specs.declared.edm_type.ValueType.{ValueType}
use Rattle.odata_signatures.specs.declared.refusal.TypeFaultCode.{TypeFaultCode}
use Rattle.odata_checked_filter.specs.declared.checked_node.CheckedNode.{CheckedNode}
use Rattle.odata_checked_filter.specs.declared.checked_node.NodeKind.{NodeKind}
use Rattle.odata_checked_filter.specs.FlatTree.{FlatTree}
use Rattle.odata_checked_filter.specs.ListChanges.{node_put, number_put, with_value}
use Rattle.odata_typing.specs.declared.in_list.ItemsFit.{ItemsFit}
use Rattle.odata_typing.specs.declared.check_context.Judged.{Judged}
use Rattle.odata_typing.specs.declared.judged_list.Walk.{Walk}

-- the node that is put for one that was judged
abbrev pub checked : Judged → NodeKind → EdmType → CheckedNode
checked judged kind edm_type =
    record { kind = kind; span = judged.node.now.span; edm_type = edm_type; stop = judged.stop }

-- the walk before the first node
abbrev pub walk_over : FlatTree → Walk
walk_over list = record { list = list; fault = None; navigates = false }

-- the walk with that node and its text at their index
abbrev pub walk_put : Walk → Judged → NodeKind → EdmType → List ℕ → Walk
walk_put walk judged kind edm_type text =
    record walk { list = node_put walk.list judged.number (checked judged kind edm_type) text }

-- with a fault
abbrev pub walk_refused : Walk → Span → TypeFaultCode → Walk
walk_refused walk span code = record walk { fault = Some (record { code = code; span = span }) }

-- the type of a truth value
abbrev pub truth_type : EdmType
truth_type = EdmType.Single (ValueType.Prim PrimitiveType.Bool)

-- with the node of a list whose items fit, or with the fault that one does not
abbrev pub list_put : Walk → Judged → ItemsFit → Walk
list_put walk judged ItemsFit.All = walk_put walk judged NodeKind.InList truth_type []
list_put walk judged ItemsFit.Refused = walk_refused walk judged.node.now.span TypeFaultCode.OperandTypes
list_put walk judged ItemsFit.Unknown = walk_refused walk judged.node.now.span TypeFaultCode.UnknownEnum
list_put walk judged ItemsFit.OutOfMemory = walk

-- with a number as the value of the String literal whose node stands at that index, unless an allocation failed
abbrev pub IsNumberPut : Walk → ℕ → ℤ → Walk → Bool → Type 0
IsNumberPut old place number new true =
    (found : CheckedNode) → slice_get old.list.nodes place ≡ Some found
    → new ≡ record old { list = number_put old.list place found number }
IsNumberPut old place number new false = new ≡ old

-- and then with the node of that kind, of a truth value
abbrev pub IsReadPut : Walk → Judged → NodeKind → ℕ → ℤ → Walk → Bool → Type 0
IsReadPut old judged kind place number new true =
    (mid : Walk) × IsNumberPut old place number mid true × (new ≡ walk_put mid judged kind truth_type [])
IsReadPut old judged kind place number new false = new ≡ old

-- with a value after the others, unless an allocation failed
abbrev pub IsPutIn : Walk → Value → Walk → Bool → Type 0
IsPutIn old value new true = new ≡ record old { list = with_value old.list value }
IsPutIn old value new false = new ≡ old
