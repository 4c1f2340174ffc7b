use Rattle.std.proofs.Common.{arith}
use Rattle.std.proofs.lemmas.Grind.{common_steps}
use Rattle.collection_reader.specs.private.ValueName.{after_letter}
use Rattle.collection_reader.proofs.value_name.after_letter.Goals as goal

pub returns-then-offset-eq0 : goal.returns-then-offset-eq0
unfolding after_letter
returns-then-offset-eq0 c = grind (arith, common_steps)

pub returns-then-byte_at-letter : goal.returns-then-byte_at-letter
unfolding after_letter
returns-then-byte_at-letter c = grind (arith, common_steps)

pub returns-then-is_escape : goal.returns-then-is_escape
unfolding after_letter
returns-then-is_escape c = grind (arith, common_steps)

pub returns-else-is_escape : goal.returns-else-is_escape
unfolding after_letter
returns-else-is_escape c = grind (arith, common_steps)
