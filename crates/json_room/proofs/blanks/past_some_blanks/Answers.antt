use Rattle.std.proofs.Common.{rules, ◌≡◌, ◌<◌, length, get_or, true, sym, ap, ◌∙◌}
use Rattle.std.proofs.lemmas.List.{get_or_default}
use Rattle.json.specs.Word.{is_space}
use Rattle.json_room.proofs.LexemeLemmas.{one_more_space, stay}
use Rattle.json_room.proofs.blanks.past_some_blanks.Goals as goal

pub loop-place-init : goal.loop-place-init
loop-place-init c = stay c.args.line.now c.args.from c.requires

pub loop-place-preserved : goal.loop-place-preserved
loop-place-preserved c =
    let l = c.loop-place in
    let d = c.args.line.now in
    let within : l.place < length d = search rules in
    let white : is_space (get_or d l.place 32) ≡ true = ap is_space (sym (get_or_default d l.place 10 32 within) ∙ sym c.byte.ensures.here) ∙ c.is_blank.ensures (search rules) in
    one_more_space d c.args.from l.place within white l.invariant
