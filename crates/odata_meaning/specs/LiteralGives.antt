-- What a literal evaluates to (OData URL Conventions 4.01, section 5.1.1.14).
use Rattle.std.specs.Prelude.{ℕ, List}
use Rattle.csdl_schema.specs.SchemaModel.{Slots}
use Rattle.odata_syntax.specs.declared.node.LiteralKind.{LiteralKind}
use Rattle.odata_signatures.specs.LiteralValue.{LiteralValue}
use Rattle.odata_filter_operations.specs.Outcome.{Outcome, GivesSome}

-- its value, if it has one
abbrev pub LiteralGives : Slots → LiteralKind → List ℕ → Outcome → Type 0
LiteralGives slots kind spelling = GivesSome (LiteralValue slots kind spelling)
