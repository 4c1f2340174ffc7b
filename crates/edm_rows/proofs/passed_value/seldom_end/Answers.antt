use Rattle.std.proofs.Common.{IfSome, sym, subst}
use Rattle.csdl_schema.specs.ExprType.{primitive, single}
use Rattle.edm_values.specs.declared.primitive.PrimitiveType.TheVariants as prim
use Rattle.edm_rows.specs.private.Passed.{FitsSome}
use Rattle.edm_rows.specs.declared.row_types.Task.TheVariants as task
use Rattle.json_room.specs.ValueStands.{ValueStands}
use Rattle.edm_rows.specs.private.Held.{type_of}
use Rattle.edm_rows.specs.private.RowSlots.{kinds_of}
use Rattle.edm_rows.specs.private.Contexts.{PassesValue, slots_behind_node}
use Rattle.edm_rows.proofs.Values.{single_held, some_by}
use Rattle.edm_rows.proofs.passed_value.seldom_end.Goals as goal

pub returns-in-Any-clause-passed : goal.returns-in-Any-clause-passed
returns-in-Any-clause-passed c =
    subst (λ k. IfSome c.any_value_end.result (PassesValue c.args.context.now c.args.slot.now k c.args.cache.now.depth c.args.place)) (sym c.in-Any.is) c.any_value_end.ensures

pub returns-then-byte-eq110-clause-passed : goal.returns-then-byte-eq110-clause-passed
returns-then-byte-eq110-clause-passed c =
    let context = c.args.context.now in
    let slot = c.args.slot.now in
    let slots = slots_behind_node context slot.node in
    let kinds = kinds_of context.schema.now context.plan.now.plans.items slot in
    let depth = c.args.cache.now.depth in
    let may = slot.is_nullable in
    let type = single (type_of kinds c.args.task) in
    some_by c.nullable_end.result (λ to. ValueStands depth context.line c.args.place to (FitsSome slots may may type)) (PassesValue context slot c.args.task depth c.args.place)
    (λ to reads. single_held slots kinds may slot.item depth context.line c.args.place c.args.task to c.in_default.not-Items c.in_default.not-Any reads) (c.nullable_end.ensures slots (type_of kinds c.args.task) depth)
