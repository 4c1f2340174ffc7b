use Rattle.std.proofs.Common.{Some, ap}
use Rattle.edm_values.specs.PlainVal.{plain_val}
use Rattle.odata_filter_operations.specs.CalculationGives.{number_val}
use Rattle.odata_eval.proofs.walking.KeptValues.{kept_value}
use Rattle.odata_eval.proofs.kept_operands.found_number_at.Goals as goal

pub kept_number-requires : goal.kept_number-requires
kept_number-requires c = (Some c.in-Int.field-0, ap plain_val c.in-Int.is)

pub returns-in-Int-clause-answers : goal.returns-in-Int-clause-answers
returns-in-Int-clause-answers c =
    kept_value c.args.context.now c.args.place c.in-Some.value.now c.in-Some.ensures.answers (number_val c.kept_number.result) c.kept_number.ensures

pub returns-in-Int-clause-leaf : goal.returns-in-Int-clause-leaf
returns-in-Int-clause-leaf c = c.in-Some.ensures.leaf
