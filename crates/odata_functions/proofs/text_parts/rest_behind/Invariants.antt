use Rattle.odata_functions.proofs.texts.Offsets.{IsRead}
use Rattle.odata_functions.proofs.text_parts.rest_behind.Given as goal

abbrev pub invariant-loop : goal.invariant-loop
invariant-loop l = IsRead l.text l.rest.rest.now l.counter
