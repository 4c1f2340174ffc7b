use Rattle.std.proofs.Common.{◌∙◌, sym, ap}
use Rattle.sql_tree.specs.FunctionPieces.{sqlite_function}
use Rattle.sql_tree.specs.declared.sql_node.SqlFunction.{SqlFunction}
use Rattle.sql_tree.proofs.functions.sqlite_time_pieces.Goals as goal

pub returns-in-Instant : goal.returns-in-Instant
returns-in-Instant c = record { texts = c.one-in-Instant.ensures.texts ∙ ap (λ (f : SqlFunction). sqlite_function f) (sym c.in-Instant.is) }
