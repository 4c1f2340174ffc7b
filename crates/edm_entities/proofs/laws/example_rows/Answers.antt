use Rattle.edm_entities.proofs.FitLemmas.ExampleRows.{item_row_fits, inactive_row_fits_nothing}
use Rattle.edm_entities.proofs.laws.example_rows.Goals as goal

pub returns-clause-fits : goal.returns-clause-fits
returns-clause-fits c = item_row_fits

pub returns-clause-fits_nothing : goal.returns-clause-fits_nothing
returns-clause-fits_nothing c = inactive_row_fits_nothing
