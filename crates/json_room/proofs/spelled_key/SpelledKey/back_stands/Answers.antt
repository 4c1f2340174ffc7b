use Rattle.std.proofs.Common.{◌≤◌, List, ℕ, length, ap, ◌∙◌, subst, arith}
use Rattle.json_room.specs.Keys.{name_with_colon}
use Rattle.json_room.specs.private.SpelledKey.{StandsByte}
use Rattle.json_room.proofs.spelled_key.SpelledKey.back_stands.Goals as goal

pub returns-then-self-le16 : goal.returns-then-self-le16
returns-then-self-le16 c _ k from inside =
    let short : c.self.inside.length ≤ 16 = c.if-self-le16.true in
    absurd (omega (arith, from, inside, short, c.self.invariant.long, ap (λ (n : List ℕ). length (name_with_colon n)) c.self.view_is))

pub returns : goal.returns
returns c done k from =
    subst (λ (w : List ℕ). StandsByte c.args.line.now c.args.place w k) (c.with_colon-spelled.ensures.named ∙ ap name_with_colon c.self.view_is) (c.word_stands.ensures.stands done k from)
