-- Types that were looked up once for all rows, by what is expanded in these.
use Rattle.std.specs.Prelude.{◌≡◌, ℕ, List, [], Option, Some, length, map, slice_get, IfSome}
use Rattle.csdl_schema.specs.ExpansionView.{StepModel, paths_at}
use Rattle.csdl_schema.specs.PropertyView.{IsReadAs, target_of}
use Rattle.csdl_schema.specs.SchemaModel.{SchemaModel, HasDistinctNames, HoldsType, properties_at}
use Rattle.csdl_schema.specs.declared.property.Property.{Property}
use Rattle.edm_row_plans.specs.ExpandedNodes.{node_behind, target_if}
use Rattle.edm_row_plans.specs.declared.row_plan.RowPlan.{RowPlan}
use Rattle.edm_row_plans.specs.declared.type_plan.SlotPlan.{SlotPlan}
use Rattle.edm_row_plans.specs.declared.type_plan.TypePlan.{TypePlan}

-- the property at a slot of a type has that name, and is read as that
abbrev pub IsSlotNamed : SchemaModel → ℕ → List ℕ → ℕ → Property → Type 0
IsSlotNamed schema id name slot property =
    (slice_get (map (λ p. p.name) (properties_at schema id)) slot ≡ Some name)
    × IfSome (slice_get (properties_at schema id) slot) (λ p. IsReadAs schema p property)

-- the target of a property, if the path to a node is expanded
abbrev pub target_at : List StepModel → Option ℕ → Property → Option ℕ
target_at steps node property = target_if (paths_at steps node []) (target_of property)

-- it is a slot of a type after a node: its property, which has a name, the node after that, and the target, if the
-- property navigates and is expanded
pub record IsSlotPlan
    (schema : SchemaModel) (steps : List StepModel) (id : ℕ) (node : Option ℕ) (slot : ℕ) (plan : SlotPlan)
    : Type 0 where
  pub name : List ℕ
  pub named : IsSlotNamed schema id name slot plan.property
  pub behind : plan.node ≡ node_behind steps node name
  pub leads : plan.target ≡ target_at steps plan.node plan.property

-- they are the slots of a type after a node
pub record ArePlanned
    (schema : SchemaModel) (steps : List StepModel) (id : ℕ) (node : Option ℕ) (slots : List SlotPlan) : Type 0 where
  pub count : length slots ≡ length (properties_at schema id)
  pub each : (slot : ℕ) → IfSome (slice_get slots slot) (IsSlotPlan schema steps id node slot)

-- the slots of a type, whose names are distinct
pub record IsPlan (schema : SchemaModel) (steps : List StepModel) (plan : TypePlan) : Type 0 where
  pub distinct : HasDistinctNames (properties_at schema plan.type_id)
  pub planned : ArePlanned schema steps plan.type_id plan.node plan.slots.items

-- of each of these types
abbrev pub ArePlans : SchemaModel → List StepModel → List TypePlan → Type 0
ArePlans schema steps plans = (place : ℕ) → IfSome (slice_get plans place) (IsPlan schema steps)

-- the schema has the type that rows are of, and those that were looked up are as it says
pub record IsPlanOf (schema : SchemaModel) (plan : RowPlan) : Type 0 where
  pub held : HoldsType schema plan.type_id
  pub plans : ArePlans schema plan.expansion plan.plans.items
