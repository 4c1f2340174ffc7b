use Rattle.odata_filter_operations.proofs.values.OneReading.{null_if_no_truth}
use Rattle.odata_filter_operations.proofs.stored_values.truth_of.Goals as goal

pub returns-in_default : goal.returns-in_default
returns-in_default c = λ reading.
    let truth = c.requires reading in
    null_if_no_truth reading c.args.value.now truth.0 truth.1 c.in_default.not-Bool
