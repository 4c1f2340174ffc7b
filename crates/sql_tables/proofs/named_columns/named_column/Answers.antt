use Rattle.std.proofs.Common.{ℕ, List, ◌++◌, ◌∙◌, ◌∷◌, lit<, sym, ap}
use Rattle.std.proofs.lemmas.Str.Pattern.{strip_prefix_char}
use Rattle.sql_tables.proofs.TableLines.{named_after}
use Rattle.sql_tables.proofs.named_columns.named_column.Goals as goal

pub returns-in-Some : goal.returns-in-Some
returns-in-Some c =
    let property = c.args.property.now in
    let begins = rw c.in-Some.is at c.strip_prefix.ensures.cases in
    let cut = begins.1.1 ∙ ap (λ (xs : List ℕ). property ++ xs) (sym begins.2) in
    named_after property c.args.line.now c.in-Some.rest.now c.strip_prefix-in-Some.result cut
    (strip_prefix_char 61 c.in-Some.rest.now c.strip_prefix-in-Some.result c.strip_prefix-in-Some.ensures.cases (lit< tt))

pub returns-in-None : goal.returns-in-None
returns-in-None c = λ other is. let lacks = rw c.in-None.is at c.strip_prefix.ensures.cases in lacks (61 ∷ other) is
