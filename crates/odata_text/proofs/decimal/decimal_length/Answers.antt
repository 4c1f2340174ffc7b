use Rattle.odata_text.proofs.Common.{take_rest, IsIntSpelling, IsDecimals}
use Rattle.odata_text.proofs.spellings.Decimals.{int_decimals}
use Rattle.odata_text.proofs.spellings.Sequences.{pair-reach}
use Rattle.odata_text.proofs.decimal.decimal_length.Goals as goal

pub returns : goal.returns
returns c =
    pair-reach IsIntSpelling IsDecimals int_decimals c.args.rest.now _ _ _ _ (take_rest c.args.rest.now c.int_length-whole.result)
    c.int_length-whole.ensures c.decimals_length-decimals.ensures c.both_length.ensures
