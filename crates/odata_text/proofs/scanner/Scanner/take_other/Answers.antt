use Rattle.odata_text.proofs.Common.{length, refl}
use Rattle.odata_text.proofs.readings.Scanners.{first_fault}
use Rattle.odata_text.proofs.scanner.Scanner.take_other.Goals as goal

pub returns-in-Err-clause-finds : goal.returns-in-Err-clause-finds
returns-in-Err-clause-finds c = record {
  same = refl;
  first = λ list has. first_fault c.args.self.now list c.args.start c.in-Err.fault c.requires.reading c.requires.gap (c.in-Err.ensures.fault (length list)) has;
}
