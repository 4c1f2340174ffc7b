use Rattle.odata_text.proofs.Common.{refl}
use Rattle.odata_text.proofs.readings.Scanners.{one_further}
use Rattle.odata_text.proofs.scanner.Scanner.take.Goals as goal

pub returns-clause-finds : goal.returns-clause-finds
returns-clause-finds c = one_further c.args.self.now _ refl refl c.requires.gap c.requires.token
