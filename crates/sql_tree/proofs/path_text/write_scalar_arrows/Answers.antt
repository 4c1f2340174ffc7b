use Rattle.std.proofs.Common.{◌∙◌, List, sym, ap, string_bytes}
use Rattle.std.specs.Prelude.{codes}
use Rattle.sql_tree.specs.PathText.{arrow_text, arrows_text, scalar_arrows}
use Rattle.sql_tree.specs.TableModel.{table_in}
use Rattle.sql_tree.specs.declared.json_path.Step.{Step}
use Rattle.sql_tree.proofs.Steps.{scalar_last}
use Rattle.sql_tree.proofs.Written.{written_more}
use Rattle.sql_tree.proofs.path_text.write_scalar_arrows.Goals as goal

pub returns-in_ok-write_arrows-in-Some : goal.returns-in_ok-write_arrows-in-Some
returns-in_ok-write_arrows-in-Some c =
    let table = table_in c.args.table.now in
    let before = c.in-Some.before.now in
    let last = c.in-Some.last.now in
    written_more c.write_arrow.result (string_bytes c.args.out.now) (string_bytes c.write_arrows.new.out) (string_bytes c.write_arrow.new.out) (arrows_text table before) (arrow_text table (codes "->>") last)
    (scalar_arrows table c.args.steps.now) c.write_arrow.ensures c.in_ok-write_arrows-in-Some.ensures
    (sym (scalar_last table before last) ∙ ap (λ (ss : List Step). scalar_arrows table ss) (sym c.in-Some.ensures.cases.0))
