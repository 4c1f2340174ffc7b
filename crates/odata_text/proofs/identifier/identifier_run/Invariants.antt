use Rattle.odata_text.proofs.characters.Identifiers.{IsRunSoFar}
use Rattle.odata_text.proofs.identifier.identifier_run.Given as goal

abbrev pub invariant-loop-character : goal.invariant-loop-character
invariant-loop-character l = IsRunSoFar l.rest l.character-iterator.rest.now l.length
