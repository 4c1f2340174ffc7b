use Rattle.std.proofs.Common.{◌+◌, List, ℕ, length, sym, ap, ◌∙◌, subst, arith}
use Rattle.json.specs.Written.{PlainBetween}
use Rattle.json_room.specs.Keys.{name_with_colon}
use Rattle.json_room.specs.private.Lexemes.{BeginsKey}
use Rattle.json_room.proofs.KeysStand.{name_feeds_not, some_bytes, stands_by_bytes}
use Rattle.json_room.proofs.Standing.{key_stands}
use Rattle.json_room.proofs.spelled_key.SpelledKey.end.Goals as goal

pub overflow_add-result : goal.overflow_add-result
overflow_add-result c =
    let name = c.args.self.now in
    let plain : PlainBetween name 0 (length name) = subst (λ (n : List ℕ). PlainBetween n 0 (length n)) c.self.view_is c.self.invariant.plain in
    let stands = stands_by_bytes c.args.line.now c.args.place (name_with_colon name) c.requires (name_feeds_not name plain) (c.front_stands.ensures.stands c.if-front_stands.true) in
    let long = c.self.invariant.long ∙ ap (λ (n : List ℕ). length (name_with_colon n)) c.self.view_is in
    omega (arith, stands.within, long, c.front_stands.ensures.short)

pub returns-then-front_stands-clause-name : goal.returns-then-front_stands-clause-name
returns-then-front_stands-clause-name c =
    let d = c.args.line.now in
    let i = c.args.place in
    let name = c.args.self.now in
    let plain : PlainBetween name 0 (length name) = subst (λ (n : List ℕ). PlainBetween n 0 (length n)) c.self.view_is c.self.invariant.plain in
    let stands = stands_by_bytes d i (name_with_colon name) c.requires (name_feeds_not name plain) (c.front_stands.ensures.stands c.if-front_stands.true) in
    let long = c.self.invariant.long ∙ ap (λ (n : List ℕ). length (name_with_colon n)) c.self.view_is in
    subst (λ n. BeginsKey d i name (i + n)) (sym long) (key_stands d i name plain stands)

pub returns-then-front_stands-clause-further : goal.returns-then-front_stands-clause-further
returns-then-front_stands-clause-further c = omega (arith, c.self.invariant.long, some_bytes c.self.inside.key)
