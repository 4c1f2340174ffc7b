use Rattle.std.specs.Int.{cast_unsigned, w64}
use Rattle.odata_functions.proofs.SharedBits.{bits_reported}
use Rattle.odata_functions.proofs.laws.bits_are_decided.Goals as goal

pub returns : goal.returns
returns c = λ value flags. bits_reported (cast_unsigned w64 value) (cast_unsigned w64 flags) 64
