use Rattle.std.proofs.Common.{◌≡◌, ◌∷◌, [], ℕ, List, IsSome, slice_get, subst, refl, arith}
use Rattle.csdl_schema.specs.ExpansionView.{LeadsTo}
use Rattle.csdl_schema.specs.SchemaModel.{properties_at}
use Rattle.odata_checked_filter.specs.Stands.{variable_names}
use Rattle.odata_checked_filter.specs.private.NeededPaths.{IsTargetAt, Puts, nodes_in}
use Rattle.odata_checked_filter.proofs.flat.Places.{same_found}
use Rattle.odata_checked_filter.proofs.flat.Standing.{lies_within}
use Rattle.odata_checked_filter.proofs.needed.Kinds.{other_there, property_there, variable_there}
use Rattle.odata_checked_filter.proofs.needed.Levels.{as_many_nodes, level_within}
use Rattle.odata_checked_filter.proofs.needed.Paths.{other_end, property_end, variable_end}
use Rattle.odata_checked_filter.proofs.needed.StepRows.{no_step}
use Rattle.odata_checked_filter.proofs.needed.Steps.{slot_below}
use Rattle.odata_checked_filter.proofs.needed_paths.expand_base.Goals as goal

-- the text of a node is that of its shape
pub text-name-requires : goal.text-name-requires
text-name-requires c =
    let r = c.requires.stands in
    lies_within c.args.context.now.schema.now c.args.context.now.filtered_type r.scope c.args.context.now.list.now c.args.place r.stop r.tree r.stands

pub node-requires : goal.node-requires
node-requires c =
    let r = c.requires.stands in
    lies_within c.args.context.now.schema.now c.args.context.now.filtered_type r.scope c.args.context.now.list.now c.args.place r.stop r.tree r.stands

pub property-requires : goal.property-requires
property-requires c =
    let r = c.requires.stands in
    let schema = c.args.context.now.schema.now in
    let n = c.args.context.now.filtered_type in
    let list = c.args.context.now.list.now in
    let there = property_there schema n r.scope list c.args.place r.stop c.in-Property.slot r.tree c.node.result r.stands c.node.ensures c.in-Property.is in
    slot_below (properties_at schema n) there.asked c.in-Property.slot there.named

pub step_to-requires : goal.step_to-requires
step_to-requires c = ([], refl)

pub returns-in_ok-node-in-Property : goal.returns-in_ok-node-in-Property
returns-in_ok-node-in-Property c scope paths stop tree stands lead =
    let schema = c.args.context.now.schema.now in
    let n = c.args.context.now.filtered_type in
    let list = c.args.context.now.list.now in
    let slot = c.in-Property.slot in
    let there = property_there schema n scope list c.args.place stop slot tree c.node.result stands c.node.ensures c.in-Property.is in
    let text = c.text-name.result.now in
    let named : text ≡ there.asked = same_found (slice_get list.texts c.args.place) text there.asked c.text-name.ensures there.text_at in
    let target = c.target-target.result in
    let at : IsTargetAt schema n slot target = record { property = c.property.result.now; read = c.property.ensures; target_is = c.target-target.ensures } in
    let new = c.step_to.new.expansion in
    let after = c.in_ok-node-in-Property.node in
    let leads = subst (λ (name : List ℕ). LeadsTo new (name ∷ []) after) named (c.in_ok-node-in-Property.ensures.leads [] refl) in
    let puts = subst (λ (name : List ℕ). Puts c.args.expansion.now new (λ put. IsSome target × (put ≡ name ∷ []))) named (c.in_ok-node-in-Property.ensures.puts [] refl) in
    property_end schema n scope list paths c.args.expansion.now new c.args.place slot after tree target there at leads puts

pub variable_node-requires : goal.variable_node-requires
variable_node-requires c =
    let r = c.requires.stands in
    let list = c.args.context.now.list.now in
    let there = variable_there c.args.context.now.schema.now c.args.context.now.filtered_type r.scope list c.args.place r.stop c.in-Variable.level r.tree c.node.result r.stands c.node.ensures c.in-Variable.is in
    let within = level_within (variable_names r.scope) there.asked c.in-Variable.level there.bound in
    let many = as_many_nodes c.args.expansion.now r.scope r.paths (nodes_in c.args.variables.now) r.lead in
    omega (arith, within, many)

pub returns-in-Variable : goal.returns-in-Variable
returns-in-Variable c scope paths stop tree stands lead =
    let schema = c.args.context.now.schema.now in
    let n = c.args.context.now.filtered_type in
    let list = c.args.context.now.list.now in
    let there = variable_there schema n scope list c.args.place stop c.in-Variable.level tree c.node.result stands c.node.ensures c.in-Variable.is in
    variable_end schema n scope list paths c.args.expansion.now c.args.place c.in-Variable.level c.variable_node.result tree (nodes_in c.args.variables.now) there lead c.variable_node.ensures

pub returns-in_default : goal.returns-in_default
returns-in_default c scope paths stop tree stands lead =
    let schema = c.args.context.now.schema.now in
    let n = c.args.context.now.filtered_type in
    let list = c.args.context.now.list.now in
    other_end schema n scope list paths c.args.expansion.now c.args.place tree
    (other_there schema n scope list c.args.place stop tree c.node.result stands c.node.ensures (no_step list c.args.place c.node.result c.node.ensures c.requires.base) c.in_default.not-Property c.in_default.not-Variable)
