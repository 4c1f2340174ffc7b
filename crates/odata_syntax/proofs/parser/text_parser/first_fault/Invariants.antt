use Rattle.std.proofs.Common.{◌≡◌, ◌-◌, List, length}
use Rattle.odata_text.specs.Scanning.{HasRead, IsReading, text_of}
use Rattle.odata_text.specs.TokenModel.{TokenModel}
use Rattle.odata_syntax.proofs.text_trees.Runs.{HasLater}
use Rattle.odata_syntax.proofs.parser.text_parser.first_fault.Given as goal

abbrev pub invariant-loop-scanner : goal.invariant-loop-scanner
invariant-loop-scanner l = record {
  reading : IsReading l.scanner;
  text : text_of l.scanner ≡ text_of l.fn.scanner;
  later : (list : List TokenModel) → HasRead l.fn.scanner list → HasLater l.scanner list;
}

abbrev pub decreases-loop-scanner : goal.decreases-loop-scanner
decreases-loop-scanner l = length (text_of l.scanner) - l.scanner.stop
