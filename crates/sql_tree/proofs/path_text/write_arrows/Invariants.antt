use Rattle.std.proofs.Common.{◌≡◌, ◌++◌, drop, string_bytes}
use Rattle.sql_tree.specs.PathText.{arrows_text}
use Rattle.sql_tree.specs.TableModel.{table_in}
use Rattle.sql_tree.proofs.path_text.write_arrows.Given as goal

abbrev pub invariant-loop-step : goal.invariant-loop-step
invariant-loop-step l =
    string_bytes l.out ++ arrows_text (table_in l.table) (drop l.step-index l.steps)
    ≡ string_bytes l.fn.out ++ arrows_text (table_in l.table) l.steps
