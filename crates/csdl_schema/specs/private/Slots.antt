-- Slots along a chain of bases, as the code finds them; for private clauses.
use Rattle.std.specs.Prelude.{◌≡◌, ℕ, ◌+◌, ◌++◌, List, Option, Some, None, nat_eq, option_map, option_and_then, position, slice_get}
use Rattle.std.specs.Cmp.Lexicographic.{pointwise}
use Rattle.csdl_schema.specs.declared.chain.Chain.{Chain}
use Rattle.csdl_schema.specs.SchemaModel.{PropertyModel}
use Rattle.csdl_schema.specs.private.Placed.{PlacedType, PlacedBody, placed_structured, placed_enumeration, placed_definition, own_at}
use Rattle.csdl_schema.specs.private.SchemaView.{chain_in}

abbrev pub if_structured : PlacedBody → Option PlacedBody
if_structured (placed_structured is_entity base own) = Some (placed_structured is_entity base own)
if_structured (placed_enumeration e) = None
if_structured (placed_definition p) = None

abbrev pub structured_in : List PlacedType → ℕ → Option PlacedBody
structured_in types n = option_and_then (λ t. if_structured t.body) (slice_get types n)

abbrev pub own_slot_in : List PlacedType → List Chain → ℕ → List ℕ → Option ℕ
own_slot_in types chains n name =
    option_map (λ i. (chain_in chains n).inherited + i) (position (λ e. pointwise nat_eq name e.0) (own_at types n))

-- some properties go before all others of a list
abbrev pub BeginsWith : List PropertyModel → List PropertyModel → Type 0
BeginsWith properties front = (rest : List PropertyModel) × (properties ≡ front ++ rest)
