use Rattle.std.proofs.Common.{◌∙◌, ap, lit<, rules}
use Rattle.std.proofs.lemmas.Str.Pattern.{split_parts}
use Rattle.csdl_schema.specs.SchemaModel.{properties_at}
use Rattle.sql_tables.specs.Lines.{lines_of}
use Rattle.sql_tables.proofs.TableLines.{known_all, known_end, known_last, known_on, lines-alone, lines-first}
use Rattle.sql_tables.proofs.known_lines.are_known.Goals as goal

pub loop-line-init : goal.loop-line-init
loop-line-init c = (search rules, known_all (properties_at c.args.schema.now c.args.id) c.args.lines.now)

pub loop-line-preserved : goal.loop-line-preserved
loop-line-preserved c =
    let parts = rw c.in-Some.is at (split_parts 10 c.loop-line.rest.now c.split_once.result c.split_once.ensures.cases (lit< tt)) in
    let cut = ap lines_of parts.0 ∙ lines-first c.in-Some.line.now c.in-Some.after.now parts.1 in
    let known = c.is_known.ensures.0 c.if-not-is_known.false in (
      search rules,
      known_on (properties_at c.args.schema.now c.args.id) c.args.lines.now c.loop-line.rest.now c.in-Some.line.now c.in-Some.after.now cut c.loop-line.invariant.1 known,
    )

pub returns-then-not-is_known : goal.returns-then-not-is_known
returns-then-not-is_known c =
    let parts = rw c.in-Some.is at (split_parts 10 c.loop-line.rest.now c.split_once.result c.split_once.ensures.cases (lit< tt)) in
    let cut = ap lines_of parts.0 ∙ lines-first c.in-Some.line.now c.in-Some.after.now parts.1 in
    known_end (properties_at c.args.schema.now c.args.id) c.args.lines.now c.loop-line.rest.now c.in-Some.line.now c.in-Some.after.now cut c.loop-line.invariant.1 c.is_known.result c.is_known.ensures
    c.if-not-is_known.true

pub returns : goal.returns
returns c =
    let rest = c.loop-line.rest.now in
    let plain = rw c.in_default.is at (split_parts 10 rest c.split_once.result c.split_once.ensures.cases (lit< tt)) in
    known_last (properties_at c.args.schema.now c.args.id) c.args.lines.now rest (lines-alone rest plain) c.loop-line.invariant.1 c.is_known-2.result c.is_known-2.ensures
