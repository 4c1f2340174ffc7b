use Rattle.std.proofs.Common.{◌∙◌, ap, lit<, rules}
use Rattle.std.proofs.lemmas.Str.Pattern.{split_parts}
use Rattle.sql_tables.specs.Lines.{lines_of}
use Rattle.sql_tables.proofs.TableLines.{last_here, last_none, left_all, left_here, left_on, lines-alone, lines-first}
use Rattle.sql_tables.proofs.named_columns.column_for.Goals as goal

pub loop-line-init : goal.loop-line-init
loop-line-init c = (search rules, left_all c.args.property.now c.args.lines.now)

pub loop-line-preserved : goal.loop-line-preserved
loop-line-preserved c =
    let parts = rw c.in-Some.is at (split_parts 10 c.loop-line.rest.now c.split_once.result c.split_once.ensures.cases (lit< tt)) in
    let cut = ap lines_of parts.0 ∙ lines-first c.in-Some.line.now c.in-Some.after.now parts.1 in (
      search rules,
      left_on c.args.property.now c.args.lines.now c.loop-line.rest.now c.in-Some.line.now c.in-Some.after.now cut c.loop-line.invariant.1 c.in-None.ensures,
    )

pub returns-in-Some-named_column : goal.returns-in-Some-named_column
returns-in-Some-named_column c =
    let parts = rw c.in-Some.is at (split_parts 10 c.loop-line.rest.now c.split_once.result c.split_once.ensures.cases (lit< tt)) in
    let cut = ap lines_of parts.0 ∙ lines-first c.in-Some.line.now c.in-Some.after.now parts.1 in
    left_here c.args.property.now c.args.lines.now c.loop-line.rest.now c.in-Some.line.now c.in-Some.after.now cut c.loop-line.invariant.1 c.in-Some-named_column.column.now
    c.in-Some-named_column.ensures

pub returns-in-Some-named_column-2 : goal.returns-in-Some-named_column-2
returns-in-Some-named_column-2 c =
    let rest = c.loop-line.rest.now in
    let plain = rw c.in_default.is at (split_parts 10 rest c.split_once.result c.split_once.ensures.cases (lit< tt)) in
    last_here c.args.property.now c.args.lines.now rest (lines-alone rest plain) c.loop-line.invariant.1 c.in-Some-named_column-2.column.now c.in-Some-named_column-2.ensures

pub returns-in-None-named_column : goal.returns-in-None-named_column
returns-in-None-named_column c =
    let rest = c.loop-line.rest.now in
    let plain = rw c.in_default.is at (split_parts 10 rest c.split_once.result c.split_once.ensures.cases (lit< tt)) in
    last_none c.args.property.now c.args.lines.now rest (lines-alone rest plain) c.loop-line.invariant.1 c.in-None-named_column.ensures
