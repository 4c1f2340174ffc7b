use Rattle.std.proofs.Common.{◌≡◌, ◌≤◌, ℕ, string_bytes}
use Rattle.odata_syntax.specs.Tree.{Tree}
use Rattle.odata_signatures.specs.NeededPaths.{VariablePaths, path_of}
use Rattle.odata_signatures.specs.Typed.{Scope}
use Rattle.odata_checked_filter.specs.PropertyPaths.{path_text}
use Rattle.odata_checked_filter.specs.private.LambdaLines.{StandsBetween}
use Rattle.odata_checked_filter.specs.private.PropertyPaths.{AreBound, bound_in}
use Rattle.odata_checked_filter.proofs.property_paths.path_at.Given as goal

-- the text so far is that of the path up to the current step
abbrev pub invariant-loop-at : goal.invariant-loop-at
invariant-loop-at l = record {
  above : l.place ≤ l.at;
  within : l.at ≤ l.bottom;
  written : (scope : Scope) (paths : VariablePaths) (stop : ℕ) (tree : Tree) → StandsBetween l.context.list.now l.at stop tree → AreBound scope paths (bound_in l.variables)
      → string_bytes l.text ≡ path_text (path_of scope paths tree);
}

abbrev pub decreases-loop-at : goal.decreases-loop-at
decreases-loop-at l = l.at
