use Rattle.odata_text.proofs.readings.OneReading.{one_list_of}
use Rattle.odata_text.proofs.printing_laws.one_list_of_any_length.Goals as goal

pub returns : goal.returns
returns c = one_list_of
