-- Paths that begin with the row: with a property of it, or with a member of `$it`.
use Rattle.std.proofs.Common.{◌≡◌, ◌⊎◌, inl, inr, ◌<◌, ◌≤◌, ◌+◌, [], ℕ, List, Some, length, refl, sym, ap, subst, ◌∙◌, arith}
use Rattle.std.specs.Prelude.{IsSomeAnd, slice_get}
use Rattle.std.proofs.lemmas.Bool.{cases_lt}
use Rattle.csdl_schema.specs.ExprType.{single, structured}
use Rattle.csdl_schema.specs.SchemaModel.{properties_at, slot_named, slots_of, type_name_at}
use Rattle.odata_syntax.specs.Tree.{Tree}
use Rattle.odata_signatures.specs.Laws.{OneType}
use Rattle.odata_signatures.specs.Typed.{Scope, Typed}
use Rattle.odata_checked_filter.specs.Filter.{Filter, IsFilter}
use Rattle.odata_checked_filter.specs.private.Layout.{Lies}
use Rattle.odata_checked_filter.specs.declared.checked_node.CheckedNode.{CheckedNode}
use Rattle.odata_checked_filter.specs.declared.checked_node.NodeKind.{NodeKind}
use Rattle.odata_checked_filter.proofs.flat.Lying.{stands_lie}
use Rattle.odata_checked_filter.proofs.flat.Numbered.{numbered}
use Rattle.odata_checked_filter.proofs.flat.Places.{same_found}
use Rattle.odata_checked_filter.proofs.needed.Kinds.{step_there}
use Rattle.odata_checked_filter.proofs.needed.Steps.{slot_below}
use Rattle.filter_context.proofs.Parts.{found_there, some_there}
use Rattle.odata_ranges.specs.Owners.{BelongsTo, IsOwnerAt, NamesProperty, NamesSlotOf}
use Rattle.odata_ranges.proofs.PropertyOwners.{property_owned}
use Rattle.sql_tree.specs.declared.json_path.Base.{Base}
use Rattle.sql_draft.specs.private.Paths.{IsBottomOf, IsFirstStep, IsMemberAt, StepsLead}
use Rattle.sql_draft.specs.World.{Question}
use Rattle.odata_ranges.proofs.Holding.{same_owner}
use Rattle.sql_draft.proofs.PathsPut.{document_leads, it_leads, of_it_leads, property_leads}
use Rattle.odata_ranges.proofs.Layouts.{by_kind}

-- ---- what names properties

pub member_names : (filter : Filter) (place : ℕ) → IsMemberAt filter place → NamesProperty filter place
member_names filter place is =
    let there = some_there (λ (node : CheckedNode). (slot : ℕ) × (node.kind ≡ NodeKind.Member slot)) (slice_get filter.list.nodes place) is in
    record { found = there.0; at = there.1.0; slot = there.1.1.0; names = inr there.1.1.1 }

property_names : (filter : Filter) (place : ℕ) → IsSomeAnd (slice_get filter.list.nodes place) (λ node. (slot : ℕ) × (node.kind ≡ NodeKind.Property slot)) → NamesProperty filter place
property_names filter place is =
    let there = some_there (λ (node : CheckedNode). (slot : ℕ) × (node.kind ≡ NodeKind.Property slot)) (slice_get filter.list.nodes place) is in
    record { found = there.0; at = there.1.0; slot = there.1.1.0; names = inl there.1.1.1 }

pub row_first : (filter : Filter) (lowest first : ℕ) → IsFirstStep filter lowest first → NamesProperty filter first
row_first filter lowest first (inl is) = subst (NamesProperty filter) (sym is.0) (property_names filter lowest is.1)
row_first filter lowest first (inr is) = member_names filter first is.1

module _ (filter : Filter) (place lowest : ℕ) (is : IsBottomOf filter place lowest) where
  -- all nodes above the lowest
  pub names_above : (k : ℕ) → place ≤ k → k < lowest → NamesProperty filter k
  names_above k after below = member_names filter k (is.members k after below)

  -- all up to the first step
  pub names_up_to : (first : ℕ) → IsFirstStep filter lowest first → (k : ℕ) → place ≤ k → k < first + 1 → NamesProperty filter k
  names_up_to first (inl step) k after below = by (cases_lt k lowest)
    where
      by : (k < lowest) ⊎ (lowest ≤ k) → NamesProperty filter k
      by (inl above) = names_above k after above
      by (inr beyond) =
          let at_first : first ≡ lowest = step.0 in
          let same : lowest ≡ k = omega (arith, beyond, below, at_first) in
          subst (NamesProperty filter) same (property_names filter lowest step.1)
  names_up_to first (inr step) k after below =
      let next : first + 1 ≡ lowest = step.0 in
      names_above k after (omega (arith, below, next))

  -- those before it
  pub names_before : (first : ℕ) → IsFirstStep filter lowest first → (k : ℕ) → place ≤ k → k < first → NamesProperty filter k
  names_before first step k after below = names_up_to first step k after (omega (arith, below))

-- ---- a member of `$it`

same_slot : (a b : ℕ) → NodeKind.Member a ≡ NodeKind.Member b → a ≡ b
same_slot a b e = cc

module _ (types : OneType) (filter : Filter) (right : IsFilter filter) (first : ℕ) (found bottom : CheckedNode) (found_at : slice_get filter.list.nodes first ≡ Some found)
    (bottom_at : slice_get filter.list.nodes (first + 1) ≡ Some bottom) (bottom_is : bottom.kind ≡ NodeKind.It) where
  it_typed : (scope : Scope) (stop : ℕ) (tree : Tree) → Lies filter.schema filter.filtered scope filter.list (first + 1) stop tree
      → Typed (slots_of filter.schema) (type_name_at filter.schema filter.filtered) scope tree (single (structured (type_name_at filter.schema filter.filtered)))
  it_typed scope stop tree stands =
      by_kind filter scope (first + 1) bottom bottom_at NodeKind.It bottom_is
      (λ j t. Typed (slots_of filter.schema) (type_name_at filter.schema filter.filtered) scope t (single (structured (type_name_at filter.schema filter.filtered))))
      (λ j from to standing. refl)
      stop tree stands

  pub it_owned : (slot : ℕ) → found.kind ≡ NodeKind.Member slot → IsOwnerAt filter first filter.filtered
  it_owned slot kind_is = record {
    of_tree = λ scope stop tree stands.
        let step = step_there filter.schema filter.filtered scope filter.list first stop slot tree found (stands_lie filter.schema filter.filtered scope filter.list first stop tree stands) found_at kind_is in
        subst (λ (t : Tree). BelongsTo (slots_of filter.schema) (type_name_at filter.schema filter.filtered) scope t (type_name_at filter.schema filter.filtered)) (sym step.is)
        (it_typed scope stop step.base step.base_stands);
    slot_in = λ other k other_at names.
        let here : other ≡ found = same_found (slice_get filter.list.nodes first) other found other_at found_at in
        elim names [
          | inl property ↦ (let apart : NodeKind.Property k ≡ NodeKind.Member slot = sym property ∙ ap (λ (f : CheckedNode). f.kind) here ∙ kind_is in absurd (cc))
          | inr member_is ↦ (
              let same : k ≡ slot = same_slot k slot (sym member_is ∙ ap (λ (f : CheckedNode). f.kind) here ∙ kind_is) in
              let there = numbered filter first found right found_at in
              let step = step_there filter.schema filter.filtered there.scope filter.list first there.stop slot there.part found there.stands found_at kind_is in
              let owner : step.owner ≡ type_name_at filter.schema filter.filtered = same_owner step.owner (type_name_at filter.schema filter.filtered)
              (types (slots_of filter.schema) (type_name_at filter.schema filter.filtered) there.scope step.base (single (structured step.owner)) (single (structured (type_name_at filter.schema filter.filtered)))
              step.base_typed (it_typed there.scope there.stop step.base step.base_stands)) in
              subst (λ (n : ℕ). n < length (properties_at filter.schema filter.filtered)) (sym same)
              (slot_below (properties_at filter.schema filter.filtered) step.asked slot (slot_of_owner step.owner step.asked owner step.named))
              )
        ];
  }
    where
      slot_of_owner : (owner asked : List ℕ) → owner ≡ type_name_at filter.schema filter.filtered → slot_named ((slots_of filter.schema).properties owner) asked ≡ Some slot
          → slot_named (properties_at filter.schema filter.filtered) asked ≡ Some slot
      slot_of_owner owner asked same named = subst (λ (n : List ℕ). slot_named ((slots_of filter.schema).properties n) asked ≡ Some slot) same named

-- ---- where they lead

module _ (types : OneType) (question : Question) (right : IsFilter question.filter) (levels : List ℕ) (place lowest first : ℕ) (is : IsBottomOf question.filter place lowest)
    (step : IsFirstStep question.filter lowest first) where
  pub document_from_row : StepsLead question levels Base.Document [] lowest (first + 1)
  document_from_row = by step
    where
      by : IsFirstStep question.filter lowest first → StepsLead question levels Base.Document [] lowest (first + 1)
      by (inl held) =
          let there = some_there (λ (node : CheckedNode). (slot : ℕ) × (node.kind ≡ NodeKind.Property slot)) (slice_get question.filter.list.nodes lowest) held.1 in
          subst (λ (k : ℕ). StepsLead question levels Base.Document [] lowest (k + 1)) (sym held.0) (document_leads question levels lowest there.0 there.1.0)
      by (inr held) =
          let there = some_there (λ (node : CheckedNode). node.kind ≡ NodeKind.It) (slice_get question.filter.list.nodes lowest) held.2 in
          subst (λ (k : ℕ). StepsLead question levels Base.Document [] lowest k) (sym held.0) (it_leads question levels lowest there.0 there.1.0 there.1.1)

  pub column_from_row : (slot : ℕ) → IsSomeAnd (slice_get question.filter.list.nodes first) (λ node. NamesSlotOf node.kind slot) → StepsLead question levels (Base.Column slot) [] lowest first
  column_from_row slot names = by step
    where
      here : (node : CheckedNode) × ((slice_get question.filter.list.nodes first ≡ Some node) × NamesSlotOf node.kind slot)
      here = some_there (λ (node : CheckedNode). NamesSlotOf node.kind slot) (slice_get question.filter.list.nodes first) names

      by : IsFirstStep question.filter lowest first → StepsLead question levels (Base.Column slot) [] lowest first
      by (inl held) =
          let bottom = found_there (λ (node : CheckedNode). (k : ℕ) × (node.kind ≡ NodeKind.Property k)) (slice_get question.filter.list.nodes first) here.0 here.1.0
          (subst (λ (k : ℕ). IsSomeAnd (slice_get question.filter.list.nodes k) (λ node. (j : ℕ) × (node.kind ≡ NodeKind.Property j))) (sym held.0) held.1) in
          let kind_is : here.0.kind ≡ NodeKind.Property slot = elim here.1.1 [
            | inl property ↦ property
            | inr member_is ↦ (let apart : NodeKind.Property bottom.0 ≡ NodeKind.Member slot = sym bottom.1 ∙ member_is in absurd (cc))
          ] in
          property_leads types question levels place lowest first slot question.filter.filtered here.0 is here.1.0 kind_is (property_owned question.filter right first here.0 here.1.0 slot kind_is) held.0
      by (inr held) =
          let own = found_there (λ (node : CheckedNode). (k : ℕ) × (node.kind ≡ NodeKind.Member k)) (slice_get question.filter.list.nodes first) here.0 here.1.0 held.1 in
          let kind_is : here.0.kind ≡ NodeKind.Member slot = elim here.1.1 [
            | inl property ↦ (let apart : NodeKind.Property slot ≡ NodeKind.Member own.0 = sym property ∙ own.1 in absurd (cc))
            | inr member_is ↦ member_is
          ] in
          let it = some_there (λ (node : CheckedNode). node.kind ≡ NodeKind.It) (slice_get question.filter.list.nodes lowest) held.2 in
          let it_at : slice_get question.filter.list.nodes (first + 1) ≡ Some it.0 = subst (λ (k : ℕ). slice_get question.filter.list.nodes k ≡ Some it.0) (sym held.0) it.1.0 in
          of_it_leads types question levels place lowest first slot question.filter.filtered here.0 is here.1.0 it.0 it.1.0 it.1.1 kind_is
          (it_owned types question.filter right first here.0 it.0 here.1.0 it_at it.1.1 slot kind_is) held.0
