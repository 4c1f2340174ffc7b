use Rattle.std.proofs.Common.{◌≤◌, ℕ}
use Rattle.odata_syntax.specs.Tree.{Tree}
use Rattle.csdl_schema.specs.SchemaModel.{slots_of, type_name_at}
use Rattle.odata_signatures.specs.NeededPaths.{VariablePaths}
use Rattle.odata_signatures.specs.Typed.{Scope}
use Rattle.odata_checked_filter.specs.private.Layout.{Lies}
use Rattle.odata_checked_filter.specs.private.NeededPaths.{IsPathEnd, LeadThere, nodes_in}
use Rattle.odata_checked_filter.proofs.needed_paths.expand_path.Given as goal

-- what the path needs up to the current step is put, and it ends there
abbrev pub invariant-loop-at : goal.invariant-loop-at
invariant-loop-at l = record {
  above : l.place ≤ l.at;
  within : l.at ≤ l.bottom;
  ends : (scope : Scope) (paths : VariablePaths) (stop : ℕ) (tree : Tree) → Lies l.context.schema.now l.context.filtered_type scope l.context.list.now l.at stop tree
      → LeadThere l.fn.expansion scope paths (nodes_in l.variables)
      → IsPathEnd (slots_of l.context.schema.now) (type_name_at l.context.schema.now l.context.filtered_type) scope paths l.fn.expansion l.expansion l.at tree l.end;
}

abbrev pub decreases-loop-at : goal.decreases-loop-at
decreases-loop-at l = l.at
