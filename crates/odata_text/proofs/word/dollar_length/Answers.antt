use Rattle.odata_text.proofs.Common.{arith, subst, IsReach, IsIdentifier, IsByte}
use Rattle.odata_text.proofs.spellings.Parts.{byte-boundary, mark_name}
use Rattle.odata_text.proofs.spellings.Sequences.{pair-reach}
use Rattle.odata_text.proofs.word.dollar_length.Goals as goal

pub range_from-requires : goal.range_from-requires
range_from-requires c =
    let mark = subst (IsReach (IsByte 36) c.byte_length-mark.result) c.as_bytes.ensures.value c.byte_length-mark.ensures in
    λ some. byte-boundary 36 c.byte_length-mark.result c.args.rest.now c.utf8.rest (omega arith) mark some

pub returns : goal.returns
returns c =
    pair-reach (IsByte 36) IsIdentifier mark_name c.args.rest.now _ _ _ _ c.range_from.ensures.value
    (subst (IsReach (IsByte 36) c.byte_length-mark.result) c.as_bytes.ensures.value c.byte_length-mark.ensures) c.identifier_length-name.ensures.reach c.both_length.ensures
