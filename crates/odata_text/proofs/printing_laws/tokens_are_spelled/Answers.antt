use Rattle.odata_text.proofs.readings.Scans.{text_tokens}
use Rattle.odata_text.proofs.printing_laws.tokens_are_spelled.Goals as goal

pub returns : goal.returns
returns c = text_tokens
