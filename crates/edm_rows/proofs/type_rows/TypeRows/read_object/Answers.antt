use Rattle.std.proofs.Common.{◌≡◌, ◌≢◌, rules, List, Some, refl, sym, subst, ◌∙◌}
use Rattle.csdl_schema.specs.SchemaModel.{SchemaModel, properties_at}
use Rattle.edm_rows.specs.private.Passed.{IsRowValue}
use Rattle.edm_row_plans.specs.Expanded.{slots_at}
use Rattle.edm_row_plans.specs.Plans.{IsPlanOf}
use Rattle.edm_rows.specs.RowsOfType.{RowsOfType}
use Rattle.edm_rows.specs.declared.row_types.RowType.{RowType}
use Rattle.edm_rows.specs.private.HeldRows.{AreTypesOf, HasFirstType, ReadsRowAt, rows_seen}
use Rattle.edm_rows.specs.private.LookedUp.{AreKnown}
use Rattle.edm_rows.specs.declared.kept_leaf.Taken.{Taken}
use Rattle.edm_rows.specs.declared.kept_leaf.Taken.TheVariants.{Broken, Put, Rejected}
use Rattle.edm_values.specs.declared.value.Value.{Value}
use Rattle.edm_rows.proofs.RowsRead.{by_way, item_left_out, item_taken, whole_unless}
use Rattle.edm_rows.proofs.RowsStay.{reader_stays}
use Rattle.edm_rows.proofs.TypesChanged.{first_distinct, first_id}
use Rattle.edm_rows.proofs.type_rows.TypeRows.read_object.Goals as goal

pub take_row-taken-requires-clause-first : goal.take_row-taken-requires-clause-first
take_row-taken-requires-clause-first c =
    let rows = c.self.inside in
    let held = c.self.invariant.ready (search rules) in
    subst (λ (l : List RowType). HasFirstType rows.plan l) (sym c.as_slice.ensures.value) held.0.first

pub take_row-taken-requires-clause-plan : goal.take_row-taken-requires-clause-plan
take_row-taken-requires-clause-plan c = subst (λ s. IsPlanOf s c.self.inside.plan) (sym c.schema.ensures) c.self.invariant.is_plan

pub take_row-taken-requires-clause-row : goal.take_row-taken-requires-clause-row
take_row-taken-requires-clause-row c =
    let rows = c.self.inside in
    let held = c.self.invariant.ready (search rules) in
    subst (λ s. IsRowValue (slots_at s rows.plan.expansion (Some 0)) (properties_at s rows.plan.type_id) rows.row) (sym c.schema.ensures) held.1

pub keep_noted-requires : goal.keep_noted-requires
keep_noted-requires c = subst (λ s. AreKnown s c.self.inside.known) (sym c.schema-2.ensures) c.self.invariant.known

pub invariant_of-self : goal.invariant_of-self
invariant_of-self c =
    let rows = c.self.inside in
    let there = c.schema.ensures in
    let held = c.self.invariant.ready (search rules) in
    let row = c.keep_if.new.row in
    reader_stays rows c.self.invariant c.keep_noted.new.cache c.keep_noted.new.known row (subst (λ s. AreKnown s c.keep_noted.new.known) c.schema-2.ensures c.keep_noted.ensures) c.is_whole_row-self-inside.result held.0
    (λ whole. subst (λ s. IsRowValue (slots_at s rows.plan.expansion (Some 0)) (properties_at s rows.plan.type_id) row) there
    (subst (λ v. IsRowValue (slots_at c.schema.result.now rows.plan.expansion (Some 0)) (properties_at c.schema.result.now rows.plan.type_id) v) (sym (c.keep_if.ensures whole))
    (c.take_row-taken.ensures.conforms (c.is_whole_row-self-inside.ensures.whole whole))))

pub returns-clause-object : goal.returns-clause-object
returns-clause-object c =
    let rows = c.self.inside in
    let text = c.args.text.now in
    let place = c.args.place in
    let there = c.schema.ensures in
    let held = c.self.invariant.ready (search rules) in
    let plan = subst (λ s. IsPlanOf s rows.plan) (sym there) c.self.invariant.is_plan in
    let types = subst (λ s. AreTypesOf s rows.plan rows.types.items) (sym there) held.0 in
    let ready = c.is_whole_row-self-inside.result in
    let row = c.take_row-taken.new.row in
    let taken = c.take_row-taken.result in
    let seen : (Value → SchemaModel → RowsOfType) = λ v s. record (rows_seen rows) { schema = s; is_ready = ready; value = v } in
    let distinct = first_distinct c.schema.result.now rows.plan rows.types.items types in
    let same : (taken ≢ Broken → row ≡ c.keep_if.new.row) = λ other. sym (c.keep_if.ensures (whole_unless ready taken c.is_whole_row-self-inside.ensures.broken other)) in
    let Reads : (Taken → Value → Type 0) = λ way v. ReadsRowAt c.args.depth text place (seen v c.schema.result.now) way in
    subst (λ s. ReadsRowAt c.args.depth text place (seen c.keep_if.new.row s) taken) there
    (by_way (λ way. Reads way c.keep_if.new.row) taken
    (λ to is. subst (Reads (Put to)) (same (λ broken. let put : Put to ≡ Broken = sym is ∙ broken in cc))
    (item_taken _ row c.take_row-taken.result place to ready text rows.types.items c.args.depth c.take_row-taken.ensures.row c.new.ensures c.as_slice.ensures.value refl plan.held distinct (λ type at. first_id c.schema.result.now rows.plan rows.types.items type at types) is))
    (λ to is. subst (Reads (Rejected to)) (same (λ broken. let rejected : Rejected to ≡ Broken = sym is ∙ broken in cc))
    (item_left_out _ row c.take_row-taken.result place to ready text rows.types.items c.args.depth c.take_row-taken.ensures.row c.new.ensures c.as_slice.ensures.value refl plan.held distinct is)) tt tt)
