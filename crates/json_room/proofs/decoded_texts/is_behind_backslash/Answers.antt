use Rattle.std.proofs.Common.{◌≡◌, ◌-◌, get_or, sym, ap, ◌∙◌, arith}
use Rattle.std.proofs.lemmas.Bool.{eqb-false}
use Rattle.json_room.proofs.decoded_texts.is_behind_backslash.Goals as goal

pub returns-then-place-eq0 : goal.returns-then-place-eq0
returns-then-place-eq0 c _ k e is = let none : ⊥ = omega arith in none

pub returns : goal.returns
returns c differs k e is =
    let same : k ≡ c.args.place - 1 = omega arith in
    eqb-false _ 92 differs (ap (λ j. get_or c.args.bytes.now j 0) (sym same) ∙ is)
