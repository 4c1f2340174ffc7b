use Rattle.std.proofs.Common.{◌≡◌, ◌+◌, ◌<◌, List, ℕ, length, get_or, sym, ap, ◌∙◌, subst, arith}
use Rattle.std.proofs.lemmas.Simd.{get_or-chunk, get_or-replicate}
use Rattle.json_room.specs.Keys.{name_with_colon}
use Rattle.json_room.specs.private.SpelledKey.{StandsByte}
use Rattle.json_room.proofs.KeysStand.{bytes_stand, name_feeds_not}
use Rattle.json_room.proofs.spelled_key.SpelledKey.first_stand.Goals as goal

pub returns-clause-stands : goal.returns-clause-stands
returns-clause-stands c done =
    let r = c.bytes-bytes.ensures in
    let b = c.bytes-bytes.result.now in
    let a = c.self.inside in
    let i = c.args.place in
    let s = c.with_colon-spelled.result.now in
    let w = name_with_colon a.key in
    let is = c.self.invariant in
    let there : (k : ℕ) → k < 16 → k < length w → get_or b (i + k) 0 ≡ get_or w k 0 =
    λ k few inside. let at : 0 + k ≡ k = omega arith in
    sym (get_or-chunk i 16 b k 0 few) ∙ c.are_front.ensures.same done k few (get_or-replicate 16 k 255 0 few) ∙ get_or-chunk 0 16 s k 0 few ∙ ap (λ (j : ℕ). get_or s j 0) at ∙ ap (λ (l : List ℕ). get_or l k 0) c.with_colon-spelled.ensures.named in
    subst (λ (n : List ℕ). (k : ℕ) → k < 16 → StandsByte c.args.line.now i (name_with_colon n) k) c.self.view_is
    (bytes_stand c.args.line.now b r.front r.line_feed r.room i 16 w c.requires (name_feeds_not a.key is.plain) there)
