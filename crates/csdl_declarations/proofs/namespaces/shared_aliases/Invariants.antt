use Rattle.std.proofs.Common.{◌≡◌, ℕ, List, drop}
use Rattle.indexmap.specs.IndexMap.{get_by_text}
use Rattle.csdl_declarations.specs.Faults.{alias_count}
use Rattle.csdl_declarations.specs.private.DocumentView.{members_of, is_shared_count}
use Rattle.csdl_declarations.proofs.Aliases.{shared_after}
use Rattle.csdl_declarations.proofs.namespaces.shared_aliases.Given as goal

-- what is noted so far and the aliases of the rest say it of all
abbrev pub invariant-loop-schema : goal.invariant-loop-schema
invariant-loop-schema l =
    (asked : List ℕ)
    → shared_after (get_by_text l.shared asked) (alias_count (members_of (drop l.schema-index l.schemas)) asked) ≡ is_shared_count (alias_count (members_of l.schemas) asked)
