use Rattle.odata_filter_operations.proofs.operators.compare_numbers.Goals as goal

pub returns : goal.returns
returns c = c.compare_values.ensures tt tt
