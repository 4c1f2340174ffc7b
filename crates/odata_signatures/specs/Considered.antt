-- Which nodes of a tree are judged, and in which scope (OData URL Conventions 4.01, section 5.1.1.13).
use Rattle.std.specs.Prelude.{◌≡◌, ◌⊎◌, ℕ, List, [], ◌∷◌}
use Rattle.odata_syntax.specs.Spans.{children_of}
use Rattle.odata_syntax.specs.Tree.{Shape, Tree, lambda, shape_of}
use Rattle.csdl_schema.specs.ExprType.{ExprType, SingleType, single}
use Rattle.csdl_schema.specs.SchemaModel.{Slots}
use Rattle.odata_signatures.specs.Typed.{BindsVariable, IsTyped, Scope, Typed, with_variable}

-- the tree itself, in its scope
abbrev pub IsItself : Scope → Tree → Scope → Tree → Type 0
IsItself scope tree at part = (at ≡ scope) × (part ≡ tree)

-- one of these trees, in the scope
abbrev pub IsAmong : Scope → List Tree → Scope → Tree → Type 0
IsAmong scope [] at part = ⊥
IsAmong scope (tree ∷ more) at part = IsItself scope tree at part ⊎ IsAmong scope more at part

-- the children of a node that stand in its own scope: all but the body of a lambda operator
abbrev pub children_in_scope : Shape → List Tree
children_in_scope (lambda quantifier base variable body) = base ∷ []
children_in_scope shape = children_of shape

-- the body of a lambda operator that binds its variable, in the scope with that variable
pub record IsBodyInScope
    (scope : Scope) (variable : List ℕ) (Base : ExprType → Type 0) (body : Tree) (at : Scope)
    (part : Tree) : Type 0 where
  pub member_type : SingleType
  pub binds : BindsVariable scope variable Base member_type
  pub itself : IsItself (with_variable scope variable (single member_type)) body at part

-- the body of a node, if it is judged, and the scope that it is judged in
abbrev pub IsConsideredBody : Slots → List ℕ → Scope → Shape → Scope → Tree → Type 0
IsConsideredBody slots root scope (lambda quantifier base variable body) at part =
    IsBodyInScope scope variable (Typed slots root scope base) body at part
IsConsideredBody slots root scope _ at part = ⊥

-- a child of a node that is judged, and the scope that it is judged in
abbrev pub IsConsideredChild : Slots → List ℕ → Scope → Shape → Scope → Tree → Type 0
IsConsideredChild slots root scope shape at child =
    IsAmong scope (children_in_scope shape) at child ⊎ IsConsideredBody slots root scope shape at child

-- of a tree in a scope, a node that is judged, and the scope that it is judged in: the tree itself, or such a node of a
-- considered child
pub data IsConsidered (slots : Slots) (root : List ℕ) : Scope → Tree → Scope → Tree → Type 0 where
  considers_itself : {scope : Scope} {tree : Tree} → IsConsidered slots root scope tree scope tree
  considers_below :
      {scope inner at : Scope} {tree child part : Tree}
      → IsConsideredChild slots root scope (shape_of tree) inner child
      → IsConsidered slots root inner child at part
      → IsConsidered slots root scope tree at part

-- each considered child of a tree has a type
abbrev pub ChildrenTyped : Slots → List ℕ → Scope → Tree → Type 0
ChildrenTyped slots root scope tree =
    (at : Scope) (child : Tree) → IsConsideredChild slots root scope (shape_of tree) at child
    → IsTyped slots root at child
