use Rattle.odata_text.proofs.canonical.LowerCase.{lowered-word}
use Rattle.odata_text.proofs.printing_laws.words_in_lower_case.Goals as goal

pub returns : goal.returns
returns c = lowered-word
