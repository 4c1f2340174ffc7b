use Rattle.std.proofs.Common.{ℕ, List, subst}
use Rattle.json_room.specs.Keys.{spaced_name}
use Rattle.json_room.specs.private.SpelledKey.{StandsByte}
use Rattle.json_room.proofs.KeysStand.{spaced_feeds_not, whole_stands}
use Rattle.json_room.proofs.spelled_key.SpelledKey.spaced_front_stands.Goals as goal

pub returns-clause-stands : goal.returns-clause-stands
returns-clause-stands c done =
    let r = c.bytes-bytes.ensures in
    let a = c.self.inside in
    let is = c.self.invariant in
    let line = c.args.line.now in
    let i = c.args.place in
    subst (λ (n : List ℕ). (k : ℕ) → StandsByte line i (spaced_name n) k) c.self.view_is
    (whole_stands line c.bytes-bytes.result.now r.front r.line_feed r.room i (spaced_name a.key) a.spaced_front a.spaced_mask c.requires (spaced_feeds_not a.key is.plain) is.spaced (c.are_front.ensures.same done) (c.are_front.ensures.never done))
