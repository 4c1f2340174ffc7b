use Rattle.odata_text.proofs.Common.{◌-◌, length, token_models}
use Rattle.odata_text.specs.Scanning.{text_of}
use Rattle.odata_text.proofs.readings.Scanners.{IsCollected}
use Rattle.odata_text.proofs.scan.all_tokens.Given as goal

abbrev pub invariant-loop-tokens : goal.invariant-loop-tokens
invariant-loop-tokens l = IsCollected (text_of l.fn.scanner) l.scanner (token_models l.tokens.items)

abbrev pub decreases-loop-tokens : goal.decreases-loop-tokens
decreases-loop-tokens l = length (text_of l.scanner) - l.scanner.stop
