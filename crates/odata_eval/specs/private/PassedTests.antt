-- For private clauses: values in slots that pass tests.
use Rattle.std.specs.Prelude.{◌≡◌, List, Some, slice_get}
use Rattle.edm_values.specs.PlainVal.{plain_val}
use Rattle.edm_values.specs.Val.{Val}
use Rattle.edm_values.specs.declared.value.Value.{Value}
use Rattle.odata_eval.specs.TrueWhere.{Passes}
use Rattle.odata_eval.specs.declared.value_tests.SlotSieve.{SlotSieve}

-- the test passes the value in its slot
pub record PassesAt (slots : List Value) (test : SlotSieve) : Type 0 where
  pub value : Value
  pub there : slice_get slots test.slot ≡ Some value
  pub val : Val
  pub plain : plain_val value ≡ Some val
  pub passes : Passes test.sieve val
