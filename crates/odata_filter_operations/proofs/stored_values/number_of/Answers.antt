use Rattle.odata_filter_operations.proofs.values.OneReading.{null_if_no_number}
use Rattle.odata_filter_operations.proofs.stored_values.number_of.Goals as goal

pub returns-in_default : goal.returns-in_default
returns-in_default c = λ reading.
    let number = c.requires reading in
    null_if_no_number reading c.args.value.now number.0 number.1 c.in_default.not-Int
