use Rattle.std.proofs.Common.{subst, sym, arith}
use Rattle.odata_functions.specs.private.Blanks.{SpellsBlank}
use Rattle.odata_functions.proofs.texts.Blanks.{last_one, last_three, last_two}
use Rattle.odata_functions.proofs.white_space.end_width.Goals as goal

pub returns-then-is_blank : goal.returns-then-is_blank
returns-then-is_blank c = λ some. record { within = omega arith; blank = subst SpellsBlank (sym (last_one c.args.bytes.now (omega arith))) (c.is_blank.ensures c.if-is_blank.true) }

pub returns-then-is_blank_pair : goal.returns-then-is_blank_pair
returns-then-is_blank_pair c = λ some. record { within = omega arith; blank = subst SpellsBlank (sym (last_two c.args.bytes.now (omega arith))) (c.is_blank_pair.ensures c.if-is_blank_pair.true) }

pub returns-then-is_blank_triple : goal.returns-then-is_blank_triple
returns-then-is_blank_triple c = λ some. record { within = omega arith; blank = subst SpellsBlank (sym (last_three c.args.bytes.now (omega arith))) (c.is_blank_triple.ensures c.if-is_blank_triple.true) }
