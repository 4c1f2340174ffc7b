use Rattle.odata_text.proofs.Common.{◌⊎◌, ℕ, List, take_rest, IsExponent, IsFraction, FollowedBy}
use Rattle.odata_text.proofs.spellings.Decimals.{fraction_exponent}
use Rattle.odata_text.proofs.spellings.Sequences.{pair-reach, reach-either}
use Rattle.odata_text.proofs.decimal.decimals_length.Goals as goal

abbrev IsPower : List ℕ → Type 0
IsPower xs = IsExponent xs ⊎ FollowedBy IsFraction IsExponent xs

pub returns : goal.returns
returns c =
    let both =
    pair-reach IsFraction IsExponent fraction_exponent c.args.rest.now _ _ _ _ (take_rest c.args.rest.now c.fraction_length-fraction.result)
    c.fraction_length-fraction.ensures c.exponent_length-behind.ensures c.both_length-both.ensures in
    let power = reach-either IsExponent (FollowedBy IsFraction IsExponent) c.args.rest.now _ _ c.longer.result c.exponent_length.ensures both c.longer.ensures in
    reach-either IsFraction IsPower c.args.rest.now _ _ _ c.fraction_length-fraction.ensures power c.longer-2.ensures
