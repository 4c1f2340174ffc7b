-- A call gives at most one outcome of the values of its arguments.
use Rattle.std.proofs.Common.{List, Bool, true, false}
use Rattle.edm_values.specs.MomentParts.{MomentParts}
use Rattle.edm_values.specs.Val.{Val, null}
use Rattle.odata_signatures.specs.declared.function.Function.{Function}
use Rattle.odata_filter_operations.specs.CallGives.{CallGives, UnlessNull, has_null}
use Rattle.odata_filter_operations.specs.FunctionGives.{FunctionGives}
use Rattle.odata_filter_operations.specs.Outcome.{Outcome, gives}
use Rattle.odata_meaning.proofs.meaning.FunctionLaws.{FunctionGives-one}
use Rattle.odata_meaning.specs.private.LawsBelow.{OneEach}
use Rattle.odata_meaning.proofs.meaning.OneStep.{AtMostOne, same_one}

UnlessNull-one : (is_null : Bool) (Gives : Outcome → Type 0) → AtMostOne Gives → AtMostOne (UnlessNull is_null Gives)
UnlessNull-one true Gives one a b p q = same_one (gives null) a b p q
UnlessNull-one false Gives one a b p q = one a b p q

pub CallGives-one : OneEach → (now : MomentParts) (function : Function) (values : List Val) → AtMostOne (CallGives now function values)
CallGives-one known now function values = UnlessNull-one (has_null values) (FunctionGives now function values) (FunctionGives-one known now function values)
