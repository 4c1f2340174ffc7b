use Rattle.odata_text.proofs.Common.{IsNumeral, take_rest, IsIntSpelling, Sign}
use Rattle.odata_text.proofs.spellings.Patterns.{marked-pair, marked-reach}
use Rattle.odata_text.proofs.spellings.Reaches.{IntParts, SignedPair, int-from_parts, numeral-none, numeral-run, parts-from_int}
use Rattle.odata_text.proofs.spellings.Sequences.{reach-as, reach-either}
use Rattle.odata_text.proofs.number.int_length.Goals as goal

pub returns : goal.returns
returns c =
    let signed' =
    marked-reach Sign (IsNumeral 10) SignedPair numeral-none (marked-pair Sign (IsNumeral 10)) (λ xs pair. pair) c.args.rest.now _ _ _ _ (take_rest c.args.rest.now c.pattern_length-sign.result)
    c.pattern_length-sign.ensures (numeral-run _ _ c.digit_run-behind.ensures.value) c.both_length-signed.ensures in
    reach-as IntParts IsIntSpelling c.longer.result c.args.rest.now int-from_parts parts-from_int
    (reach-either (IsNumeral 10) SignedPair c.args.rest.now _ _ _ (numeral-run _ _ c.digit_run-plain.ensures.value) signed' c.longer.ensures)
