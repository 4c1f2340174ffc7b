use Rattle.std.proofs.Common.{◌≡◌, ◌++◌, drop, string_bytes}
use Rattle.sql_tree.specs.PathText.{dots_text}
use Rattle.sql_tree.specs.TableModel.{table_in}
use Rattle.sql_tree.proofs.path_text.write_dots.Given as goal

abbrev pub invariant-loop-step : goal.invariant-loop-step
invariant-loop-step l =
    string_bytes l.out ++ dots_text (table_in l.table) (drop l.step-index l.steps)
    ≡ string_bytes l.fn.out ++ dots_text (table_in l.table) l.steps
