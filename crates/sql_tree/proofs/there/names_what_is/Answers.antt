use Rattle.std.proofs.Common.{◌∙◌, subst}
use Rattle.std.specs.List.{AllByRecursion}
use Rattle.sql_tree.specs.Shapes.{IsThere}
use Rattle.sql_tree.specs.TableModel.{table_in}
use Rattle.sql_tree.proofs.Shapes.{shaped_whole}
use Rattle.sql_tree.proofs.there.names_what_is.Goals as goal

pub returns-clause-whole : goal.returns-clause-whole
returns-clause-whole c = λ holds dialect t nodes shaped.
    let paths = c.args.tree.now.paths.items in
    shaped_whole dialect (table_in c.args.table.now) paths t shaped
    (subst (AllByRecursion (IsThere (table_in c.args.table.now) paths)) (c.as_slice.ensures.value ∙ nodes) (c.are_there.ensures.0 holds))
