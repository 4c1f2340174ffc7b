use Rattle.std.proofs.Common.{◌≡◌, ◌∙◌, Bool, true, false, Err, Some, ap, sym}
use Rattle.std.proofs.lemmas.Result.{err_from_is_err_and}
use Rattle.sql_tables.specs.Forms.{form_numbered}
use Rattle.report_calls.proofs.SqlSteps.{no_now, table_sql}
use Rattle.report_calls.proofs.sql_calls.conditions_by.Goals as goal

pub returns-in_err-now : goal.returns-in_err-now
returns-in_err-now c =
    let exit = err_from_is_err_and c.from_residual.result c.from_residual.ensures.1 in
    rw (exit.1 ∙ ap Err exit.2)
    (no_now c.args.checked.now c.args.form c.args.how.now c.split_first_line.result.0.now c.in_err-now.field-0.0 c.split_first_line.ensures.first c.in_err-now.ensures)

pub returns-then-by_columns : goal.returns-then-by_columns
returns-then-by_columns c =
    let numbered : form_numbered c.args.form ≡ Some (c.in-Some.dialect, true) = sym c.form_of.ensures ∙ c.in-Some.is ∙ ap (λ (b : Bool). Some (c.in-Some.dialect, b)) c.if-by_columns.true in
    table_sql c.args.checked.now c.args.form c.args.how.now c.split_first_line.result.0.now c.split_first_line.result.1.now c.in-Some.dialect true c.in_ok-now.now c.column_conditions.result c.in_dialect.result numbered
    c.split_first_line.ensures.first c.split_first_line.ensures.after c.in_ok-now.ensures c.column_conditions.ensures c.in_dialect.ensures

pub returns-else-by_columns : goal.returns-else-by_columns
returns-else-by_columns c =
    let numbered : form_numbered c.args.form ≡ Some (c.in-Some.dialect, false) = sym c.form_of.ensures ∙ c.in-Some.is ∙ ap (λ (b : Bool). Some (c.in-Some.dialect, b)) c.if-by_columns.false in
    table_sql c.args.checked.now c.args.form c.args.how.now c.split_first_line.result.0.now c.split_first_line.result.1.now c.in-Some.dialect false c.in_ok-now.now c.document_conditions.result c.in_dialect-else-by_columns.result numbered
    c.split_first_line.ensures.first c.split_first_line.ensures.after c.in_ok-now.ensures c.document_conditions.ensures c.in_dialect-else-by_columns.ensures
