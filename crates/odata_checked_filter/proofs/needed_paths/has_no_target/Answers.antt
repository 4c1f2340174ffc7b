use Rattle.std.proofs.Common.{◌≡◌, ℕ, ap, false, is_some, refl, subst, sym, ◌∙◌}
use Rattle.csdl_schema.specs.SchemaModel.{SchemaModel}
use Rattle.odata_checked_filter.specs.declared.checked_node.NodeKind.{NodeKind}
use Rattle.odata_checked_filter.specs.private.NeededPaths.{IsWithoutTarget}
use Rattle.odata_checked_filter.proofs.needed_paths.has_no_target.Goals as goal

-- nothing else is a property of the filtered type
no_property : (schema : SchemaModel) (n : ℕ) (kind : NodeKind) → ((slot : ℕ) → kind ≡ NodeKind.Property slot → ⊥) → IsWithoutTarget schema n kind false
no_property schema n (NodeKind.Property slot) other = absurd (other slot refl)
no_property schema n _ other = refl

pub property-property-requires : goal.property-property-requires
property-property-requires c = c.requires c.in-Property.slot c.in-Property.is

pub returns-in-Property : goal.returns-in-Property
returns-in-Property c =
    subst (λ (k : NodeKind). IsWithoutTarget c.args.context.now.schema.now c.args.context.now.filtered_type k c.is_none.result) (sym c.in-Property.is)
    (c.property-property.result.now, c.property-property.ensures, ap is_some (sym c.target.ensures) ∙ c.is_none.ensures)

pub returns-in_default : goal.returns-in_default
returns-in_default c = no_property c.args.context.now.schema.now c.args.context.now.filtered_type c.args.kind c.in_default.not-Property
