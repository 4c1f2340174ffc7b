-- The first fault among trees in one scope, and among the children of a node (OData URL Conventions 4.01, section
-- 5.1.1).
use Rattle.std.specs.Prelude.{ℕ, List}
use Rattle.odata_syntax.specs.Tree.{Tree}
use Rattle.csdl_schema.specs.SchemaModel.{Slots}
use Rattle.odata_signatures.specs.declared.refusal.TypeFault.{TypeFault}
use Rattle.odata_signatures.specs.Considered.{IsAmong}
use Rattle.odata_signatures.specs.FirstUntypable.{IsFirstUntypable}
use Rattle.odata_signatures.specs.Typed.{Scope}
use Rattle.odata_signatures.specs.FirstAmong.{StartFrom}

-- of the untypable nodes of trees in one scope the one that starts first
pub record IsFirstAmong
    (slots : Slots) (root : List ℕ) (scope : Scope) (trees : List Tree) (fault : TypeFault) : Type 0 where
  pub tree : Tree
  pub among : IsAmong scope trees scope tree
  pub found : IsFirstUntypable slots root scope tree fault
  pub others :
      (at : Scope) (other : Tree) → IsAmong scope trees at other → StartFrom slots root at other fault.span.start
