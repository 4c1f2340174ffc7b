use Rattle.sql_tree.proofs.PlainNames.{names_are_plain}
use Rattle.sql_tree.proofs.TreeReading.{balanced}
use Rattle.sql_tree.proofs.laws.texts_are_balanced.Goals as goal

pub returns-clause-texts : goal.returns-clause-texts
returns-clause-texts c = λ document dialect table paths t stands whole. balanced dialect table (names_are_plain document table stands) paths t whole

pub returns-clause-names : goal.returns-clause-names
returns-clause-names c = λ document table stands. names_are_plain document table stands
