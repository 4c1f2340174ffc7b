use Rattle.odata_text.proofs.readings.Prints.{prints-tokens}
use Rattle.odata_text.proofs.printing_laws.printed_list_of_any_length.Goals as goal

pub returns : goal.returns
returns c = prints-tokens
