-- The tree of a node that is none of a literal, of a form by the node's kind.
use Rattle.sql_outcomes.proofs.Common.{◌≡◌, ℕ, Some, slice_get, node, Scope, Filter, IsFilter, CheckedNode, NodeKind, StandsIn, tree_found}
use Rattle.filter_context.proofs.Operands.{IsOther}
use Rattle.filter_context.proofs.Parts.{CasesOf}
use Rattle.odata_ranges.proofs.Forms.{by_kind}

pub by_node : (filter : Filter) → IsFilter filter → (place : ℕ) (found : CheckedNode) → slice_get filter.list.nodes place ≡ Some found → (kind : NodeKind) → IsOther kind → found.kind ≡ kind
    → (P : Type 0) → ((scope : Scope) → CasesOf kind (λ s. (stop from to : ℕ) → StandsIn filter scope place stop (node from to s) → P)) → P
by_node filter right place found at kind other is P cases =
    let there = tree_found filter right place found at kind other is in
    by_kind filter there.scope place found at kind is (λ s t. P) (cases there.scope) there.stop there.part there.stands
