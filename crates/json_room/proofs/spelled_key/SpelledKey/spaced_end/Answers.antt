use Rattle.std.proofs.Common.{◌≡◌, ◌+◌, ◌≤◌, List, ℕ, length, ap, ◌∙◌, subst, arith}
use Rattle.json.specs.Written.{PlainBetween}
use Rattle.json_room.specs.Keys.{name_with_colon, spaced_name}
use Rattle.json_room.specs.private.Lexemes.{BeginsKey, StandsAt}
use Rattle.json_room.specs.private.SpelledKey.{StandsByte}
use Rattle.json_room.proofs.KeysStand.{name_feeds_not, space_stands, spaced_name_stands, stands_by_bytes}
use Rattle.json_room.proofs.Standing.{key_before_space, key_stands}
use Rattle.json_room.proofs.spelled_key.SpelledKey.spaced_end.Goals as goal

-- where the name stands with a space after its colon, it stands without
name_stands : (d : List ℕ) (i : ℕ) (name : List ℕ) → i ≤ length d → PlainBetween name 0 (length name) → ((k : ℕ) → StandsByte d i (spaced_name name) k) → StandsAt d i (name_with_colon name)
name_stands d i name begins plain all =
    stands_by_bytes d i (name_with_colon name) begins (name_feeds_not name plain) (spaced_name_stands d i name all)

pub overflow_add-result : goal.overflow_add-result
overflow_add-result c =
    let name = c.args.self.now in
    let plain : PlainBetween name 0 (length name) = subst (λ (n : List ℕ). PlainBetween n 0 (length n)) c.self.view_is c.self.invariant.plain in
    let stands = name_stands c.args.line.now c.args.place name c.requires plain (c.spaced_front_stands.ensures.stands c.if-spaced_front_stands.true) in
    let long : c.self.inside.spaced_length ≡ length (name_with_colon name) + 1 = c.self.invariant.spaced_long ∙ ap (λ (n : List ℕ). length (name_with_colon n) + 1) c.self.view_is in
    omega (arith, stands.within, long, c.spaced_front_stands.ensures.short)

pub returns-then-spaced_front_stands-clause-name : goal.returns-then-spaced_front_stands-clause-name
returns-then-spaced_front_stands-clause-name c =
    let d = c.args.line.now in
    let i = c.args.place in
    let name = c.args.self.now in
    let plain : PlainBetween name 0 (length name) = subst (λ (n : List ℕ). PlainBetween n 0 (length n)) c.self.view_is c.self.invariant.plain in
    let all = c.spaced_front_stands.ensures.stands c.if-spaced_front_stands.true in
    let stands = name_stands d i name c.requires plain all in
    let long : c.self.inside.spaced_length ≡ length (name_with_colon name) + 1 = c.self.invariant.spaced_long ∙ ap (λ (n : List ℕ). length (name_with_colon n) + 1) c.self.view_is in
    let same : i + length (name_with_colon name) + 1 ≡ i + c.self.inside.spaced_length = omega (arith, long) in
    subst (BeginsKey d i name) same (key_before_space d i (i + length (name_with_colon name)) name (key_stands d i name plain stands) (space_stands d i name all))

pub returns-then-spaced_front_stands-clause-further : goal.returns-then-spaced_front_stands-clause-further
returns-then-spaced_front_stands-clause-further c = omega (arith, c.self.invariant.spaced_long)
