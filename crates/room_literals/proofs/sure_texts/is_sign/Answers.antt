use Rattle.std.proofs.Common.{inl, inr}
use Rattle.std.proofs.lemmas.Bool.{eqb-true}
use Rattle.room_literals.proofs.sure_texts.is_sign.Goals as goal

pub returns-then-byte-eq43 : goal.returns-then-byte-eq43
returns-then-byte-eq43 c _ = inl c.if-byte-eq43.true

pub returns : goal.returns
returns c done = inr (eqb-true _ _ done)
