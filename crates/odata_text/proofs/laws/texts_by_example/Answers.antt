use Rattle.odata_text.proofs.Common.{inr, fraction_filter, run_on_filter, LeftOutLiteral, RunOn}
use Rattle.odata_text.proofs.readings.Examples.{enumeration_list, fraction_fault, guid_list, moment_list, plain_list, run_on_fault}
use Rattle.odata_text.proofs.readings.OneReading.{no_list}
use Rattle.odata_text.proofs.laws.texts_by_example.Goals as goal

pub returns : goal.returns
returns c =
    record {
      plain = plain_list;
      moment = moment_list;
      guid = guid_list;
      enumeration = enumeration_list;
      fraction = inr fraction_fault;
      no_fraction = no_list fraction_filter (LeftOutLiteral (record { start = 0; stop = 3 })) (inr fraction_fault);
      run_on = inr run_on_fault;
      no_run_on = no_list run_on_filter (RunOn (record { start = 0; stop = 3 })) (inr run_on_fault);
    }
