use Rattle.sql_tree.proofs.Elements.{LeftAll}
use Rattle.odata_sql.specs.Refusals.{HasNoNul}
use Rattle.odata_sql.proofs.nul_free.values_are_nul_free.Given as goal

abbrev pub invariant-loop-value : goal.invariant-loop-value
invariant-loop-value l = LeftAll HasNoNul l.values l.value-index
