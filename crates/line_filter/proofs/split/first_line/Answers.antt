use Rattle.std.proofs.Common.{◌∷◌, ◌+◌, length, take, sym, ap, ◌∙◌, arith, le_refl, drop_of_length-le}
use Rattle.std.proofs.lemmas.List.{take_rest}
use Rattle.line_filter.specs.Lines.{lines_of}
use Rattle.line_filter.proofs.LineLaws.Split.{lines_of-line, lines_of-last}
use Rattle.line_filter.proofs.split.first_line.Goals as goal

pub returns-in-Some-clause-lines : goal.returns-in-Some-clause-lines
returns-in-Some-clause-lines c =
    let bytes = c.args.bytes.now in
    let end = c.in-Some.end in
    let found = c.in-Some.ensures in
    lines_of-line bytes end found.0.high (λ j below is. found.0.before j (omega arith) below is) found.1
    ∙ ap (λ rest. take end bytes ∷ lines_of rest) (sym (take_rest bytes (end + 1)))

pub returns-in-None-clause-lines : goal.returns-in-None-clause-lines
returns-in-None-clause-lines c =
    let bytes = c.args.bytes.now in
    lines_of-last bytes c.requires (λ j below is. c.in-None.ensures j (omega arith) below is)
    ∙ ap (λ rest. bytes ∷ lines_of rest) (sym (take_rest bytes (length bytes) ∙ drop_of_length-le bytes (le_refl (length bytes))))
