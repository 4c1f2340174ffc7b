use Rattle.std.proofs.Common.{ℕ, List, subst}
use Rattle.json_room.specs.Keys.{name_with_colon}
use Rattle.json_room.specs.private.SpelledKey.{StandsByte}
use Rattle.json_room.proofs.KeysStand.{name_feeds_not, whole_stands}
use Rattle.json_room.proofs.spelled_key.SpelledKey.front_stands.Goals as goal

pub returns-clause-stands : goal.returns-clause-stands
returns-clause-stands c done =
    let r = c.bytes-bytes.ensures in
    let a = c.self.inside in
    let is = c.self.invariant in
    let line = c.args.line.now in
    let i = c.args.place in
    subst (λ (n : List ℕ). (k : ℕ) → StandsByte line i (name_with_colon n) k) c.self.view_is
    (whole_stands line c.bytes-bytes.result.now r.front r.line_feed r.room i (name_with_colon a.key) a.front a.mask c.requires (name_feeds_not a.key is.plain) is.front (c.are_front.ensures.same done) (c.are_front.ensures.never done))
