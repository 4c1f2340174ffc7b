use Rattle.std.proofs.Common.{◌≡◌, ◌⊎◌, ◌<◌, ℕ, List, ◌++◌, get_or, string_bytes, sym, ap, ◌∙◌, subst, arith}
use Rattle.json.specs.Written.{PlainBetween}
use Rattle.json_room.specs.private.Escapes.{ReportsTo}
use Rattle.json_room.proofs.ReportedLemmas.{plain_reported}
use Rattle.json_room.proofs.decoded_texts.report_plain.Goals as goal

pub returns-in-Ok : goal.returns-in-Ok
returns-in-Ok c =
    let d = c.args.quoted.now in
    let i = c.args.place in
    let reported = string_bytes c.args.reported.now in
    let run = c.plain_end-end in
    let j = run.result in
    let same = c.as_bytes-bytes.ensures.value in
    let further : i < j = omega (arith, run.ensures.bounds.0, c.if-end-place.false) in
    let plain_there : PlainBetween d i j = subst (λ (t : List ℕ). PlainBetween t i j) same run.ensures.plain in
    let ended : (get_or d j 32 ≡ 34) ⊎ (get_or d j 32 ≡ 92) =
    subst (λ (x : ℕ). (x ≡ 34) ⊎ (x ≡ 92)) (c.byte_at.ensures ∙ ap (λ t. get_or t j 32) same) (c.ends_plain.ensures c.if-not-ends_plain.false) in
    subst (λ (more : List ℕ). ReportsTo d reported i more j) (sym (c.in-Ok.ensures.bytes ∙ ap (λ l. reported ++ l) c.range.ensures.value))
    (plain_reported d reported i j further plain_there ended)
