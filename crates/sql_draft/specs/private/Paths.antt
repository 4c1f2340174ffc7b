-- Paths of names and members, and where they lead.
use Rattle.std.specs.Prelude.{◌≡◌, ◌<◌, ◌≤◌, ◌⊎◌, ◌+◌, ℕ, List, IsSomeAnd, slice_get}
use Rattle.edm_entities.specs.Row.{value_of}
use Rattle.edm_values.specs.Val.{Val}
use Rattle.odata_checked_filter.specs.Filter.{Filter}
use Rattle.odata_checked_filter.specs.declared.checked_node.NodeKind.{NodeKind}
use Rattle.odata_filter_operations.specs.Outcome.{gives}
use Rattle.sql_meaning.specs.PlaceGives.{BaseGives, StepsGive}
use Rattle.sql_tree.specs.declared.json_path.Base.{Base}
use Rattle.sql_tree.specs.declared.json_path.Step.{Step}
use Rattle.sql_draft.specs.declared.draft.Draft.{Draft}
use Rattle.sql_draft.specs.World.{IsWorldOf, OfPlace, Question, World}

-- the node at the index is a member of what stands after it
abbrev pub IsMemberAt : Filter → ℕ → Type 0
IsMemberAt filter place =
    IsSomeAnd (slice_get filter.list.nodes place) (λ node. (slot : ℕ) × (node.kind ≡ NodeKind.Member slot))

-- a node with which a path begins: the entity, a property of it, or a range variable
abbrev pub IsBottom : NodeKind → Type 0
IsBottom NodeKind.It = Unit {0}
IsBottom (NodeKind.Property slot) = Unit {0}
IsBottom (NodeKind.Variable level) = Unit {0}
IsBottom kind = ⊥

-- the path of the node at an index begins with that node, from which members lead up to it
pub record IsBottomOf (filter : Filter) (place lowest : ℕ) : Type 0 where
  pub after : place ≤ lowest
  pub members : (k : ℕ) → place ≤ k → k < lowest → IsMemberAt filter k
  pub bottom : IsSomeAnd (slice_get filter.list.nodes lowest) (λ node. IsBottom node.kind)

-- the node at an index is the first step from the row: a property, or a member of `$it`
abbrev pub IsFirstStep : Filter → ℕ → ℕ → Type 0
IsFirstStep filter lowest first =
    ((first ≡ lowest) × IsSomeAnd (slice_get filter.list.nodes lowest)
    (λ node. (slot : ℕ) × (node.kind ≡ NodeKind.Property slot)))
    ⊎ ((first + 1 ≡ lowest) × IsMemberAt filter first
    × IsSomeAnd (slice_get filter.list.nodes lowest) (λ node. node.kind ≡ NodeKind.It))

-- what a step goes from: what the node after it evaluates to, and the row's entity after the lowest node
abbrev pub BelowHas : Filter → ℕ → ℕ → World → Val → Type 0
BelowHas filter lowest at world v =
    ((at ≤ lowest) × OfPlace filter at world (gives v)) ⊎ ((lowest < at) × (v ≡ value_of world.row))

-- where range variables stand at these levels, the steps from the base lead to what the next step goes from
abbrev pub StepsLead : Question → List ℕ → Base → List Step → ℕ → ℕ → Type 0
StepsLead question levels base steps lowest at =
    (draft : Draft) (world : World) (v : Val) → draft.members.items ≡ levels → IsWorldOf question draft world
    → BelowHas question.filter lowest at world v
    → (b : Val) × BaseGives world.asked world.bound base b × StepsGive world.asked.schema steps b v
