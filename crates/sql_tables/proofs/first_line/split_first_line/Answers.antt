use Rattle.std.proofs.Common.{lit<, sym}
use Rattle.std.proofs.lemmas.Str.Pattern.{split_once_first}
use Rattle.sql_tables.proofs.TableLines.{after-alone, first-alone}
use Rattle.sql_tables.proofs.first_line.split_first_line.Goals as goal

pub returns-in-Some-clause-first : goal.returns-in-Some-clause-first
returns-in-Some-clause-first c =
    let cut = rw c.in-Some.is at (split_once_first 10 c.args.text.now c.split_once.result c.split_once.ensures.cases (lit< tt)) in
    cut.1

pub returns-in-Some-clause-after : goal.returns-in-Some-clause-after
returns-in-Some-clause-after c =
    let cut = rw c.in-Some.is at (split_once_first 10 c.args.text.now c.split_once.result c.split_once.ensures.cases (lit< tt)) in
    cut.2

pub returns-in-None-clause-first : goal.returns-in-None-clause-first
returns-in-None-clause-first c =
    let whole = rw c.in-None.is at (split_once_first 10 c.args.text.now c.split_once.result c.split_once.ensures.cases (lit< tt)) in
    sym (first-alone c.args.text.now whole)

pub returns-in-None-clause-after : goal.returns-in-None-clause-after
returns-in-None-clause-after c =
    let whole = rw c.in-None.is at (split_once_first 10 c.args.text.now c.split_once.result c.split_once.ensures.cases (lit< tt)) in
    sym (after-alone c.args.text.now whole)
