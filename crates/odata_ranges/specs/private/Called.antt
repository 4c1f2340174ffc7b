-- For private clauses: a range of what a function evaluates to.
use Rattle.std.specs.Prelude.{◌≡◌, false}
use Rattle.odata_checked_filter.specs.declared.checked_node.NodeKind.{NodeKind}
use Rattle.odata_ranges.specs.private.FunctionRanges.{CalledWithin}
use Rattle.odata_ranges.specs.Faults.{MakesNone}
use Rattle.odata_ranges.specs.declared.range.Range.{Range}
use Rattle.odata_signatures.specs.declared.edm_type.EdmType.{EdmType}
use Rattle.odata_signatures.specs.declared.function.Function.{Function}

-- it holds that, of arguments within two ranges, and has faults only where the function may make one of values
pub record IsCalledRange (function : Function) (first second range : Range) : Type 0 where
  pub within : CalledWithin function first second range
  pub quiet : (type : EdmType) → MakesNone (NodeKind.Call function) type → range.may_fault ≡ false
