use Rattle.std.proofs.Common.{◌≡◌, ◌-◌, length}
use Rattle.odata_text.specs.Scanning.{IsReading, text_of}
use Rattle.odata_syntax.specs.private.ListSteps.{IsSteadyState}
use Rattle.odata_syntax.proofs.text_trees.Runs.{HasTaken}
use Rattle.odata_syntax.proofs.parser.text_parser.take_text.Given as goal

-- the machine has taken what the scanner has read of its text
abbrev pub invariant-loop-scanner : goal.invariant-loop-scanner
invariant-loop-scanner l = record {
  reading : IsReading l.scanner;
  text : text_of l.scanner ≡ text_of l.fn.scanner;
  steady : IsSteadyState l.state;
  taken : HasTaken l.scanner l.state l.depth.opens l.depth.closes;
}

abbrev pub decreases-loop-scanner : goal.decreases-loop-scanner
decreases-loop-scanner l = length (text_of l.scanner) - l.scanner.stop
