use Rattle.odata_text.proofs.Common.{arith, IsCharBoundary-start}
use Rattle.odata_text.proofs.scanner.Scanner.new.Goals as goal

pub returns-clause-reading : goal.returns-clause-reading
returns-clause-reading c =
    let begins = IsCharBoundary-start c.args.text.now c.utf8.text in
    record { short = c.if-text-gt-TEXT_LIMIT.false; few = omega arith; order = omega arith; begins = begins; ends = begins }
