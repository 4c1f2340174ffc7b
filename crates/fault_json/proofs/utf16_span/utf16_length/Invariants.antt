use Rattle.fault_json.proofs.Utf16.{IsCountSoFar}
use Rattle.fault_json.proofs.utf16_span.utf16_length.Given as goal

abbrev pub invariant-loop-character : goal.invariant-loop-character
invariant-loop-character l = IsCountSoFar l.text l.character-iterator.rest.now l.units
