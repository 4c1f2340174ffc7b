use Rattle.odata_text.proofs.spellings.Quotes.{IsQuotedSoFar}
use Rattle.odata_text.proofs.quoted.string_length.Given as goal

abbrev pub invariant-loop-i : goal.invariant-loop-i
invariant-loop-i l = IsQuotedSoFar l.rest l.i l.quoted l.length
