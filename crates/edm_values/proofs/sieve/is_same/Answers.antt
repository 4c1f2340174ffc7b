use Rattle.std.proofs.Common.{◌≡◌, length, ap, arith}
use Rattle.edm_values.proofs.SameTexts.{same_characters, same_test}
use Rattle.edm_values.proofs.sieve.is_same.Goals as goal

pub returns : goal.returns
returns c = same_test c.args.text.now c.args.other.now c.eq.result c.utf8.text c.utf8.other c.eq.ensures

pub returns-then-text-other : goal.returns-then-text-other
returns-then-text-other c = (
  λ is. cc,
  λ same.
      let one : length c.args.text.now ≡ length c.args.other.now = ap length (same_characters c.args.text.now c.args.other.now c.utf8.text c.utf8.other same) in
      absurd (omega (arith, one)),
)
