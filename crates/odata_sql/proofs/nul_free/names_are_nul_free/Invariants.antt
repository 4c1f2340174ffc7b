use Rattle.sql_tree.proofs.Elements.{LeftAll}
use Rattle.sql_meaning.specs.ParameterGives.{HoldsNul}
use Rattle.odata_sql.proofs.nul_free.names_are_nul_free.Given as goal

abbrev pub invariant-loop-at : goal.invariant-loop-at
invariant-loop-at l = LeftAll (λ name. ¬ HoldsNul name.now) l.names l.at
