use Rattle.odata_functions.proofs.Calendar.{date_there, epoch, one_date}
use Rattle.odata_functions.proofs.function_laws.day_numbers_have_one_date.Goals as goal

pub returns-clause-one : goal.returns-clause-one
returns-clause-one c = one_date

pub returns-clause-there : goal.returns-clause-there
returns-clause-there c = date_there

pub returns-clause-epoch : goal.returns-clause-epoch
returns-clause-epoch c = epoch
