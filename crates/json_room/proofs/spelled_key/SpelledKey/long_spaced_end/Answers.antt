use Rattle.std.proofs.Common.{sym, ◌∙◌, arith}
use Rattle.json_room.proofs.Standing.{key_before_space}
use Rattle.json_room.proofs.spelled_key.SpelledKey.long_spaced_end.Goals as goal

pub returns-clause-name : goal.returns-clause-name
returns-clause-name c = key_before_space c.args.line.now c.args.place c.in-Some.end c.args.self.now c.in-Some.ensures.name (sym c.byte.ensures.here ∙ c.if-byte-ne32.false)
