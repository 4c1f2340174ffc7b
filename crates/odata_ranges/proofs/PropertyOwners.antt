-- Properties of the code, and the types that own them.
use Rattle.odata_ranges.proofs.Common.{◌≡◌, ◌∙◌, inl, inr, ℕ, ◌<◌, ◌+◌, List, Option, Some, None, length, slice_get, refl, sym, ap, subst, IfSome, single, structured, PropertyModel, SchemaModel, properties_at, slots_of, type_name_at, Tree, EdmType, ValueType, OneType, Scope, Typed, Filter, IsFilter, CheckedNode, NodeKind, numbered, same_found, BelongsTo, IsOwnerAt, NamesSlotOf}
use Rattle.csdl_schema.specs.PropertyView.{IsReadAs}
use Rattle.csdl_schema.specs.declared.property.Property.{Property}
use Rattle.odata_checked_filter.proofs.needed.Kinds.{IsStepThere, property_there, step_there}
use Rattle.odata_checked_filter.proofs.needed.Paths.{IsOwner, owner_there}
use Rattle.odata_checked_filter.proofs.needed.Steps.{slot_below}
use Rattle.odata_ranges.proofs.Forms.{lies}
use Rattle.odata_ranges.proofs.Layouts.{inside_there}
use Rattle.std.specs.Prelude.{IfNone}

pub read_there : (schema other : SchemaModel) (id same_id slot : ℕ) (p : PropertyModel) (property : Property) → schema ≡ other → id ≡ same_id
    → IfSome (slice_get (properties_at schema id) slot) (λ q. IsReadAs schema q property) → slice_get (properties_at other same_id) slot ≡ Some p → IsReadAs other p property
read_there schema other id same_id slot p property same is_id read found =
    let by_id = subst (λ (n : ℕ). IfSome (slice_get (properties_at schema n) slot) (λ q. IsReadAs schema q property)) is_id read in
    let moved = subst (λ (s : SchemaModel). IfSome (slice_get (properties_at s same_id) slot) (λ q. IsReadAs s q property)) same by_id in
    subst (λ (o : Option PropertyModel). IfSome o (λ q. IsReadAs other q property)) found moved

-- ---- owners

module _ (filter : Filter) (is : IsFilter filter) (place : ℕ) (found : CheckedNode) (at : slice_get filter.list.nodes place ≡ Some found) where
  -- the node of a step has another after it
  pub step_inside : (slot : ℕ) → found.kind ≡ NodeKind.Member slot → place + 1 < length filter.list.nodes
  step_inside slot kind_is =
      let there = numbered filter place found is at in
      let step = step_there filter.schema filter.filtered there.scope filter.list place there.stop slot there.part found there.stands at kind_is in
      inside_there filter there.scope (place + 1) there.stop step.base step.base_stands

  pub property_slot : (slot : ℕ) → found.kind ≡ NodeKind.Property slot → slot < length (properties_at filter.schema filter.filtered)
  property_slot slot kind_is =
      let there = numbered filter place found is at in
      let property = property_there filter.schema filter.filtered there.scope filter.list place there.stop slot there.part found there.stands at kind_is in
      slot_below (properties_at filter.schema filter.filtered) property.asked slot property.named

  module _ (types : OneType) (behind : CheckedNode) (behind_at : slice_get filter.list.nodes (place + 1) ≡ Some behind) where
    step_owner : (scope : Scope) (stop slot : ℕ) (tree : Tree) (step : IsStepThere filter.schema filter.filtered scope filter.list place stop slot tree)
        → IsOwner filter.schema slot step.owner behind.edm_type
    step_owner scope stop slot tree step = owner_there types filter.schema filter.filtered scope filter.list place stop slot tree behind step behind_at

    pub step_type : (slot : ℕ) → found.kind ≡ NodeKind.Member slot → (id : ℕ) × (behind.edm_type ≡ EdmType.Single (ValueType.Structured id))
    step_type slot kind_is =
        let there = numbered filter place found is at in
        let step = step_there filter.schema filter.filtered there.scope filter.list place there.stop slot there.part found there.stands at kind_is in
        let owner = step_owner there.scope there.stop slot there.part step in
        (owner.id, owner.type_is)

    pub step_owned : (slot id : ℕ) → found.kind ≡ NodeKind.Member slot → behind.edm_type ≡ EdmType.Single (ValueType.Structured id) → IsOwnerAt filter place id
    step_owned slot id kind_is type_is = record {
      of_tree = λ scope stop tree stands.
          let step = step_there filter.schema filter.filtered scope filter.list place stop slot tree found (lies filter scope place stop tree stands) at kind_is in
          let owner = step_owner scope stop slot tree step in
          let same : owner.id ≡ id = cc (owner.type_is, type_is) in
          subst (λ (t : Tree). BelongsTo (slots_of filter.schema) (type_name_at filter.schema filter.filtered) scope t (type_name_at filter.schema id)) (sym step.is)
          (subst (λ (name : List ℕ). Typed (slots_of filter.schema) (type_name_at filter.schema filter.filtered) scope step.base (single (structured name)))
          (owner.owner_is ∙ ap (type_name_at filter.schema) same) step.base_typed);
      slot_in = λ other k other_at names.
          let here : other ≡ found = same_found (slice_get filter.list.nodes place) other found other_at at in
          elim names [
            | inl property ↦ (let apart : NodeKind.Property k ≡ NodeKind.Member slot = sym property ∙ ap (λ (f : CheckedNode). f.kind) here ∙ kind_is in absurd (cc))
            | inr member_is ↦ (
                let same : k ≡ slot = cc (member_is, ap (λ (f : CheckedNode). f.kind) here, kind_is) in
                let there = numbered filter place found is at in
                let step = step_there filter.schema filter.filtered there.scope filter.list place there.stop slot there.part found there.stands at kind_is in
                let owner = step_owner there.scope there.stop slot there.part step in
                let same_owner : owner.id ≡ id = cc (owner.type_is, type_is) in
                subst (λ (n : ℕ). n < length (properties_at filter.schema id)) (sym same)
                (subst (λ (n : ℕ). slot < length (properties_at filter.schema n)) same_owner owner.slot_in)
                )
          ];
    }

  pub property_owned : (slot : ℕ) → found.kind ≡ NodeKind.Property slot → IsOwnerAt filter place filter.filtered
  property_owned slot kind_is = record {
    of_tree = λ scope stop tree stands.
        let property = property_there filter.schema filter.filtered scope filter.list place stop slot tree found (lies filter scope place stop tree stands) at kind_is in
        subst (λ (t : Tree). BelongsTo (slots_of filter.schema) (type_name_at filter.schema filter.filtered) scope t (type_name_at filter.schema filter.filtered)) (sym property.is) refl;
    slot_in = λ other k other_at names.
        let here : other ≡ found = same_found (slice_get filter.list.nodes place) other found other_at at in
        elim names [
          | inl property ↦ (
              let same : k ≡ slot = cc (property, ap (λ (f : CheckedNode). f.kind) here, kind_is) in
              subst (λ (n : ℕ). n < length (properties_at filter.schema filter.filtered)) (sym same) (property_slot slot kind_is)
              )
          | inr member_is ↦ (let apart : NodeKind.Member k ≡ NodeKind.Property slot = sym member_is ∙ ap (λ (f : CheckedNode). f.kind) here ∙ kind_is in absurd (cc))
        ];
  }

pub named_property : (kind : NodeKind) (slot : ℕ) → NamesSlotOf kind slot → ((k : ℕ) → kind ≡ NodeKind.Member k → ⊥) → kind ≡ NodeKind.Property slot
named_property kind slot (inl is) other = is
named_property kind slot (inr is) other = absurd (other slot is)

pub named_member : (kind : NodeKind) (slot held : ℕ) → NamesSlotOf kind slot → kind ≡ NodeKind.Member held → kind ≡ NodeKind.Member slot
named_member kind slot held (inl is) member_is = let apart : NodeKind.Property slot ≡ NodeKind.Member held = sym is ∙ member_is in absurd (cc)
named_member kind slot held (inr is) member_is = is

-- what is said of none holds where there is nothing
pub if_none : (o : Option ℕ) (P : Type 0) → ((x : ℕ) → o ≡ Some x → ⊥) → IfNone o P → P
if_none None P nothing none = none
if_none (Some x) P nothing none = absurd (nothing x refl)
