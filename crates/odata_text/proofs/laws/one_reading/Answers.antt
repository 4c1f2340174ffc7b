use Rattle.odata_text.proofs.readings.OneReading.{no_list, one_fault, one_list}
use Rattle.odata_text.proofs.laws.one_reading.Goals as goal

pub returns : goal.returns
returns c = record { fault = one_fault; list = one_list; not_both = λ text fault pieces faulty list. no_list text fault faulty pieces list }
