use Rattle.odata_text.proofs.Common.{IsNumeral, take_rest, IsFraction, Dot, eqb-true}
use Rattle.odata_text.proofs.spellings.Decimals.{fraction-pair}
use Rattle.odata_text.proofs.spellings.Patterns.{marked-reach}
use Rattle.odata_text.proofs.spellings.Reaches.{numeral-none, numeral-run}
use Rattle.odata_text.proofs.decimal.fraction_length.Goals as goal

pub returns : goal.returns
returns c =
    marked-reach Dot (IsNumeral 10) IsFraction numeral-none (λ b digits dot numeral. (eqb-true b 46 dot, numeral)) fraction-pair c.args.rest.now _ _ _ _ (take_rest c.args.rest.now c.pattern_length-dot.result)
    c.pattern_length-dot.ensures (numeral-run _ _ c.digit_run-digits.ensures.value) c.both_length.ensures
