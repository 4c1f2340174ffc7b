use Rattle.std.proofs.Common.{◌≡◌, ◌-◌, ◌+◌, List, ℕ, take, drop, ap, sym, ◌∙◌, arith, length-drop}
use Rattle.std.proofs.lemmas.List.{drop-drop}
use Rattle.std.proofs.Math.Seq.{drop-paste, take-paste}
use Rattle.std.specs.List.{copy_within}
use Rattle.collection_reader.proofs.lines_in_place.move_back.Goals as goal

pub returns-clause-moved : goal.returns-clause-moved
returns-clause-moved c =
    let bytes = c.args.bytes.now in
    ap (take (c.args.to + (c.args.end - c.args.from))) c.copy_within.ensures.after
    ∙ take-paste bytes c.args.to (drop c.args.from bytes) (c.args.end - c.args.from) (omega (arith, c.requires.order.0, c.requires.order.1, c.requires.order.2))
    (omega (arith, length-drop c.args.from bytes, c.requires.order.2))

pub returns-clause-rest : goal.returns-clause-rest
returns-clause-rest c =
    let bytes = c.args.bytes.now in
    let n = c.args.end - c.args.from in
    let moved = copy_within bytes c.args.from c.args.end c.args.to in
    let past : (c.args.to + n) + (c.args.from - c.args.to) ≡ c.args.end = omega (arith, c.requires.order.0, c.requires.order.1) in
    let same = drop-paste bytes c.args.to (drop c.args.from bytes) n (omega (arith, c.requires.order.0, c.requires.order.1, c.requires.order.2))
    (omega (arith, length-drop c.args.from bytes, c.requires.order.2)) in
    ap (drop c.args.end) c.copy_within.ensures.after ∙ ap (λ (k : ℕ). drop k moved) (sym past) ∙ sym (drop-drop (c.args.from - c.args.to) (c.args.to + n) moved)
    ∙ ap (drop (c.args.from - c.args.to)) same ∙ drop-drop (c.args.from - c.args.to) (c.args.to + n) bytes ∙ ap (λ (k : ℕ). drop k bytes) past
