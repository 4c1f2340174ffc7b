-- A slot of the row that a node of a filter names is one of its type's.
use Rattle.std.proofs.Common.{◌≡◌, ◌<◌, ◌+◌, inl, inr, ℕ, List, Bool, true, false, IfSome, Option, Some, None, length, option_and_then, slice_get, refl, sym, subst}
use Rattle.std.proofs.lemmas.Bool.{false≢true}
use Rattle.csdl_schema.specs.SchemaModel.{properties_at}
use Rattle.odata_signatures.specs.Laws.{OneType}
use Rattle.odata_checked_filter.specs.Filter.{Filter, IsFilter}
use Rattle.odata_checked_filter.specs.declared.checked_node.CheckedNode.{CheckedNode}
use Rattle.odata_checked_filter.specs.declared.checked_node.NodeKind.{NodeKind}
use Rattle.odata_ranges.proofs.PropertyOwners.{property_owned}
use Rattle.sql_draft.proofs.RowPaths.{it_owned}
use Rattle.odata_sql.specs.Refusals.{AreBelow, is_it, is_it_there, it_at, own_slot, own_slot_at}

it_kind : (kind : NodeKind) → is_it kind ≡ true → kind ≡ NodeKind.It
it_kind NodeKind.It is = refl
it_kind _ is = absurd (false≢true is)

it_found : (found : Option CheckedNode) → is_it_there found ≡ true → (node : CheckedNode) × (found ≡ Some node) × (node.kind ≡ NodeKind.It)
it_found None is = absurd (false≢true is)
it_found (Some node) is = (node, refl, it_kind node.kind is)

module _ (types : OneType) (filter : Filter) (right : IsFilter filter) (place : ℕ) where
  abbrev many : ℕ
  many = length (properties_at filter.schema filter.filtered)

  abbrev IsWithin : Option ℕ → Type 0
  IsWithin slot = IfSome slot (λ n. n < many)

  -- a step, after which `$it` comes or does not
  of_step : (node : CheckedNode) → slice_get filter.list.nodes place ≡ Some node → (slot : ℕ) → node.kind ≡ NodeKind.Member slot → (before_it : Bool) → it_at filter.list.nodes (place + 1) ≡ before_it
      → IsWithin (own_slot (NodeKind.Member slot) before_it)
  of_step node at slot is true it =
      let next = it_found (slice_get filter.list.nodes (place + 1)) it in
      (it_owned types filter right place node next.0 at next.1 next.2 slot is).slot_in node slot at (inr is)
  of_step node at slot is false it = tt

  of_kind : (node : CheckedNode) → slice_get filter.list.nodes place ≡ Some node → (kind : NodeKind) → node.kind ≡ kind → IsWithin (own_slot kind (it_at filter.list.nodes (place + 1)))
  of_kind node at (NodeKind.Property slot) is = (property_owned filter right place node at slot is).slot_in node slot at (inl is)
  of_kind node at (NodeKind.Member slot) is = of_step node at slot is (it_at filter.list.nodes (place + 1)) refl
  of_kind node at _ is = tt

  of_found : (found : Option CheckedNode) → slice_get filter.list.nodes place ≡ found → IsWithin (option_and_then (λ node. own_slot node.kind (it_at filter.list.nodes (place + 1))) found)
  of_found None at = tt
  of_found (Some node) at = of_kind node at node.kind refl

  pub own_within : IsWithin (own_slot_at filter.list.nodes place)
  own_within = of_found (slice_get filter.list.nodes place) refl

pub own_columns : OneType → (filter : Filter) (columns : List (List ℕ)) → IsFilter filter → length columns ≡ length (properties_at filter.schema filter.filtered) → AreBelow (length columns) filter.list.nodes
own_columns types filter columns right as_many = subst (λ (count : ℕ). AreBelow count filter.list.nodes) (sym as_many) (λ place. own_within types filter right place)
