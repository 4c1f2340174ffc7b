use Rattle.std.proofs.Common.{◌+◌, ◌<◌, ◌≤◌, List, ℕ, length, sym, ap, ◌∙◌, subst, ⊎_elim, arith}
use Rattle.std.proofs.lemmas.Bool.{cases_lt}
use Rattle.json.specs.Written.{PlainBetween}
use Rattle.json_room.specs.Keys.{name_with_colon}
use Rattle.json_room.specs.private.Lexemes.{BeginsKey, StandsAt}
use Rattle.json_room.specs.private.SpelledKey.{StandsByte}
use Rattle.json_room.proofs.KeysStand.{name_feeds_not, some_bytes, stands_by_bytes}
use Rattle.json_room.proofs.Standing.{key_stands}
use Rattle.json_room.proofs.spelled_key.SpelledKey.long_end.Goals as goal

-- the name stands there, by its first bytes and those after them
name_stands : (d : List ℕ) (i : ℕ) (name : List ℕ) → i ≤ length d → PlainBetween name 0 (length name) → ((k : ℕ) → k < 16 → StandsByte d i (name_with_colon name) k) → ((k : ℕ) → 16 ≤ k → StandsByte d i (name_with_colon name) k)
    → StandsAt d i (name_with_colon name)
name_stands d i name begins plain front back =
    stands_by_bytes d i (name_with_colon name) begins (name_feeds_not name plain) (λ k. ⊎_elim (λ low. front k low) (λ high. back k high) (cases_lt k 16))

pub overflow_add-result : goal.overflow_add-result
overflow_add-result c =
    let d = c.args.line.now in
    let i = c.args.place in
    let plain : PlainBetween c.args.self.now 0 (length c.args.self.now) = subst (λ (n : List ℕ). PlainBetween n 0 (length n)) c.self.view_is c.self.invariant.plain in
    let stands = name_stands d i c.args.self.now c.requires plain (c.first_stand.ensures.stands c.if-not-first_stand.false) (c.back_stands.ensures c.if-not-back_stands.false) in
    let long = c.self.invariant.long ∙ ap (λ (n : List ℕ). length (name_with_colon n)) c.self.view_is in
    omega (arith, stands.within, long, c.first_stand.ensures.short)

pub returns-clause-name : goal.returns-clause-name
returns-clause-name c =
    let d = c.args.line.now in
    let i = c.args.place in
    let name = c.args.self.now in
    let plain : PlainBetween name 0 (length name) = subst (λ (n : List ℕ). PlainBetween n 0 (length n)) c.self.view_is c.self.invariant.plain in
    let stands = name_stands d i name c.requires plain (c.first_stand.ensures.stands c.if-not-first_stand.false) (c.back_stands.ensures c.if-not-back_stands.false) in
    let long = c.self.invariant.long ∙ ap (λ (n : List ℕ). length (name_with_colon n)) c.self.view_is in
    subst (λ n. BeginsKey d i name (i + n)) (sym long) (key_stands d i name plain stands)

pub returns-clause-further : goal.returns-clause-further
returns-clause-further c = omega (arith, c.self.invariant.long, some_bytes c.self.inside.key)
