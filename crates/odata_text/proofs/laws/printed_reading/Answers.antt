use Rattle.odata_text.proofs.readings.Prints.{prints-list}
use Rattle.odata_text.proofs.laws.printed_reading.Goals as goal

pub returns : goal.returns
returns c = prints-list
