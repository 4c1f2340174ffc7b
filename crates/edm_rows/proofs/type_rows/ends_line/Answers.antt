use Rattle.std.proofs.Common.{◌≡◌, ℕ, length, subst, rules}
use Rattle.json_room.proofs.LexemeLemmas.{stay}
use Rattle.json_room.specs.LexemesAt.{PassesSpaces}
use Rattle.edm_rows.proofs.type_rows.ends_line.Goals as goal

pub returns-then-end-count : goal.returns-then-end-count
returns-then-end-count c _ =
    let line = c.args.line.now in
    let end = c.args.end in
    let same : end ≡ length line = search rules in
    subst (λ (to : ℕ). PassesSpaces line end to) same (stay line end c.requires)

pub returns : goal.returns
returns c done =
    let line = c.args.line.now in
    let same : c.past_blanks.result ≡ length line = search rules in
    subst (λ (to : ℕ). PassesSpaces line c.args.end to) same c.past_blanks.ensures
