-- What is said where a line did not come.
use Rattle.std.proofs.Common.{ℕ, List, ◌++◌, Option}
use Rattle.line_filter.specs.Kept.{StopsWithin}
use Rattle.line_filter.specs.LineItems.{LineJudge, lines}
use Rattle.line_filter.specs.Lines.{lines_of}
use Rattle.line_filter.specs.LineStreams.{LacksLine}

module _ {F : Type 0} (judge : LineJudge F) (bytes waiting : List ℕ) (known : Option (List ℕ)) where
  pub LacksLine-within : (text rest : List ℕ) (number : ℕ) → LacksLine judge bytes waiting known (text ++ rest) number → StopsWithin (lines judge bytes) text
  LacksLine-within text rest number lacks = record {
    before = lacks.before;
    after = lines_of (waiting ++ lacks.rest);
    tally = lacks.tally;
    unwritten = rest;
    whole = lacks.lines;
    passes = lacks.passes;
  }
