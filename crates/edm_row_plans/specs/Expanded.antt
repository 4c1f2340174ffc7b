-- What a walk over a row that is expanded looks at (OData JSON Format 4.01, sections 4.5 and 8; CSDL JSON 4.01, section
-- 7).
use Rattle.std.specs.Prelude.{ℕ, List, ◌&&◌, Bool, true, false, not, Option, Some, None}
use Rattle.csdl_schema.specs.ExpansionView.{StepModel, paths_at}
use Rattle.csdl_schema.specs.SchemaModel.{SchemaModel, Slots, expanded, slots_of}
use Rattle.csdl_schema.specs.declared.property.PropertyKind.{PropertyKind}
use Rattle.csdl_schema.specs.declared.property.PropertyKind.TheVariants as kind
pub use Rattle.edm_row_plans.specs.ExpandedNodes.{node_behind, target_if}
use Rattle.edm_row_plans.specs.declared.wanted.Wanted.{Wanted}
use Rattle.edm_row_plans.specs.declared.wanted.Wanted.TheVariants.{Prim, Enum, Complex}

-- the types of a schema, where what stands after a node of an expansion is expanded
abbrev pub slots_at : SchemaModel → List StepModel → Option ℕ → Slots
slots_at schema steps node = expanded (slots_of schema) (paths_at steps node)

abbrev pub wanted_target : Option ℕ → Option Wanted
wanted_target None = None
wanted_target (Some t) = Some (Complex t)

-- what a property of that kind is read as, if it navigates to that target
abbrev pub wanted_with : PropertyKind → Option ℕ → Option Wanted
wanted_with (kind.Prim p) target = Some (Prim p)
wanted_with (kind.Enum e) target = Some (Enum e)
wanted_with (kind.Complex t) target = Some (Complex t)
wanted_with kind.Opaque target = None
wanted_with kind.Navigation target = wanted_target target

-- the property is a navigation property
abbrev pub navigates : PropertyKind → Bool
navigates (kind.Prim p) = false
navigates (kind.Enum e) = false
navigates (kind.Complex t) = false
navigates kind.Opaque = false
navigates kind.Navigation = true

-- whether the items of a collection may be null
abbrev pub may_hold_null : PropertyKind → Bool → Bool
may_hold_null of nullable = nullable && not (navigates of)
