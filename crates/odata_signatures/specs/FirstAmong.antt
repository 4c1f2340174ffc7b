-- The first fault among trees in one scope, and among the children of a node (OData URL Conventions 4.01, section
-- 5.1.1).
use Rattle.std.specs.Prelude.{◌≤◌, ℕ, List}
use Rattle.odata_syntax.specs.Tree.{Tree, shape_of, start_of}
use Rattle.csdl_schema.specs.SchemaModel.{Slots}
use Rattle.odata_signatures.specs.declared.refusal.TypeFault.{TypeFault}
use Rattle.odata_signatures.specs.Considered.{IsConsideredChild}
use Rattle.odata_signatures.specs.FirstUntypable.{IsFirstUntypable, IsUntypable}
use Rattle.odata_signatures.specs.Typed.{Scope}

-- each untypable node of the tree starts at k or later
abbrev pub StartFrom : Slots → List ℕ → Scope → Tree → ℕ → Type 0
StartFrom slots root scope tree k =
    (at : Scope) (other : Tree) → IsUntypable slots root scope tree at other → k ≤ start_of other

-- of the untypable nodes below a node, each in the scope that it is judged in, the one that starts first
pub record IsFirstBelow
    (slots : Slots) (root : List ℕ) (scope : Scope) (tree : Tree) (fault : TypeFault) : Type 0 where
  pub at : Scope
  pub child : Tree
  pub is : IsConsideredChild slots root scope (shape_of tree) at child
  pub found : IsFirstUntypable slots root at child fault
  pub others :
      (inner : Scope) (other : Tree) → IsConsideredChild slots root scope (shape_of tree) inner other
      → StartFrom slots root inner other fault.span.start
