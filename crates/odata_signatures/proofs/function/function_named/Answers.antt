use Rattle.std.proofs.Common.{arith}
use Rattle.std.specs.Str.{str_to_ascii_lowercase}
use Rattle.odata_signatures.proofs.functions.Names.{nowhere}
use Rattle.odata_signatures.proofs.function.function_named.Goals as goal

pub returns-clause-none : goal.returns-clause-none
returns-clause-none c =
    nowhere (str_to_ascii_lowercase c.args.name.now) (λ k other below. c.loop-function.invariant k other (omega (arith, below, c.loop-function-test.false)))
