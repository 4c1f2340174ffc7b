use Rattle.std.proofs.Common.{◌≡◌, ◌+◌, ◌≤◌, List, ℕ, length, get_or, sym, ap, ◌∙◌, subst, arith}
use Rattle.json.specs.Written.{PlainBetween}
use Rattle.json_room.specs.Keys.{quoted_name}
use Rattle.json_room.specs.private.Lexemes.{BeginsKey, PassesSpaces, StandsAt}
use Rattle.json_room.specs.private.SpelledKey.{StandsByte}
use Rattle.json_room.proofs.KeysStand.{quoted_feeds_not, stands_by_bytes}
use Rattle.json_room.proofs.RoomLemmas.{other_default}
use Rattle.json_room.proofs.Standing.{spaced_key_stands}
use Rattle.json_room.proofs.spelled_key.SpelledKey.end_before_blanks.Goals as goal

-- the name in its quotes stands there
quoted_stands : (d : List ℕ) (i : ℕ) (name q : List ℕ) → i ≤ length d → PlainBetween name 0 (length name) → q ≡ quoted_name name → ((k : ℕ) → 0 ≤ k → StandsByte d i q k) → StandsAt d i q
quoted_stands d i name q begins plain is bytes =
    subst (λ (w : List ℕ). StandsAt d i w) (sym is)
    (stands_by_bytes d i (quoted_name name) begins (quoted_feeds_not name plain) (λ k. subst (λ (w : List ℕ). StandsByte d i w k) is (bytes k (omega arith))))

pub overflow_add-place : goal.overflow_add-place
overflow_add-place c =
    let q = c.quoted-quoted in
    let stands = quoted_stands c.args.line.now c.args.place c.self.inside.key q.result.now c.requires q.ensures.plain q.ensures.quoted (c.word_stands.ensures.stands c.if-not-word_stands.false) in
    omega (arith, stands.within, c.word_stands.ensures.short)

pub past_blanks-colon-requires : goal.past_blanks-colon-requires
past_blanks-colon-requires c =
    let q = c.quoted-quoted in
    let stands = quoted_stands c.args.line.now c.args.place c.self.inside.key q.result.now c.requires q.ensures.plain q.ensures.quoted (c.word_stands.ensures.stands c.if-not-word_stands.false) in
    stands.within

pub returns-clause-name : goal.returns-clause-name
returns-clause-name c =
    let d = c.args.line.now in
    let i = c.args.place in
    let k = c.past_blanks-colon.result in
    let q = c.quoted-quoted in
    let name = c.self.inside.key in
    let stands : StandsAt d i (quoted_name name) =
    subst (λ (w : List ℕ). StandsAt d i w) q.ensures.quoted (quoted_stands d i name q.result.now c.requires q.ensures.plain q.ensures.quoted (c.word_stands.ensures.stands c.if-not-word_stands.false)) in
    let spaces : PassesSpaces d (i + length (quoted_name name)) k = subst (λ (w : List ℕ). PassesSpaces d (i + length w) k) q.ensures.quoted c.past_blanks-colon.ensures in
    let colon : get_or d k 10 ≡ 58 = sym c.byte.ensures.here ∙ c.if-byte-ne58.false in
    subst (λ (n : List ℕ). BeginsKey d i n (k + 1)) c.self.view_is (spaced_key_stands d i k name q.ensures.plain stands spaces colon)

pub returns-clause-further : goal.returns-clause-further
returns-clause-further c = omega (arith, c.past_blanks-colon.ensures.bounds.0)
