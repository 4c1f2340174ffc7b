use Rattle.odata_text.proofs.Common.{take_rest, IsIntSpelling, IsExponent, ExponentMark}
use Rattle.odata_text.proofs.spellings.Decimals.{exponent-pair}
use Rattle.odata_text.proofs.spellings.Patterns.{either-byte, marked-reach}
use Rattle.odata_text.proofs.decimal.exponent_length.Goals as goal

pub returns : goal.returns
returns c =
    marked-reach ExponentMark IsIntSpelling IsExponent (λ int. int.1) (λ b power mark int. (either-byte b 101 69 mark, int)) exponent-pair c.args.rest.now _ _ _ _ (take_rest c.args.rest.now c.pattern_length-mark.result)
    c.pattern_length-mark.ensures c.int_length-power.ensures c.both_length.ensures
