use Rattle.std.proofs.Common.{rules}
use Rattle.std.proofs.lemmas.Int.{to_z-of_z}
use Rattle.std.specs.Int.{w64}
use Rattle.spare_values.proofs.written.put_number.Goals as goal

pub returns-in-Int : goal.returns-in-Int
returns-in-Int c = rw (to_z-of_z w64 c.args.number c.ranges.number) (search rules)
