-- Trees whose nodes have the same types, as that of a text and of its canonical text (OData URL Conventions 4.01,
-- section 5.1.1).
use Rattle.std.specs.Prelude.{◌↔◌, ℕ, List, [], ◌∷◌}
use Rattle.odata_syntax.specs.Tree.{Tree}
use Rattle.csdl_schema.specs.ExprType.{ExprType}
use Rattle.csdl_schema.specs.SchemaModel.{Slots}
use Rattle.odata_signatures.specs.Typed.{Scope, Typed}

-- each type of one node is one of the other, in every scope
abbrev pub HaveSameTypes : Slots → List ℕ → Tree → Tree → Type 0
HaveSameTypes slots root first second =
    (scope : Scope) (type : ExprType) → Typed slots root scope first type ↔ Typed slots root scope second type

-- of as many nodes, the n-th have the same types
abbrev pub HaveSameTypesByNumber : Slots → List ℕ → List Tree → List Tree → Type 0
HaveSameTypesByNumber slots root [] [] = Unit {0}
HaveSameTypesByNumber slots root (first ∷ firsts) (second ∷ seconds) =
    HaveSameTypes slots root first second × HaveSameTypesByNumber slots root firsts seconds
HaveSameTypesByNumber slots root _ _ = ⊥
