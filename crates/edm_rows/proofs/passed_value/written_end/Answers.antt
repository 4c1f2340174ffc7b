use Rattle.std.proofs.Common.{◌≡◌, ◌<◌, ℕ, List, IfSome, subst}
use Rattle.std.specs.Str.{IsUtf8}
use Rattle.csdl_schema.specs.ExprType.{enumeration, primitive, single}
use Rattle.json_room.specs.private.Lexemes.{IsTextAt}
use Rattle.edm_values.specs.declared.primitive.PrimitiveType.TheVariants as prim
use Rattle.edm_rows.specs.private.Passed.{FitsSomeHowever}
use Rattle.edm_rows.specs.declared.row_types.Task.TheVariants as task
use Rattle.json_room.specs.ValueStands.{ValueStands}
use Rattle.edm_rows.specs.private.RowSlots.{kinds_of, name_at}
use Rattle.edm_rows.specs.private.Contexts.{slots_behind_node}
use Rattle.json_room.proofs.Places.{both_some}
use Rattle.edm_rows.proofs.Values.{primitive_as, task_held, text_held}
use Rattle.edm_rows.proofs.passed_value.written_end.Goals as goal

pub returns-in-Text-clause-passed : goal.returns-in-Text-clause-passed
returns-in-Text-clause-passed c =
    let context = c.args.context.now in
    let slot = c.args.slot.now in
    let slots = slots_behind_node context slot.node in
    let depth = c.args.cache.now.depth in
    let d = context.line in
    let i = c.args.place in
    task_held slots (kinds_of context.schema.now context.plan.now.plans.items slot) slot.is_nullable slot.item depth d i c.args.task task.Text (primitive prim.String) c.escaped_text_end.result c.in-Text.is (λ json fits. fits)
    (both_some c.escaped_text_end.result (λ to. i < to) (λ to. (s : List ℕ) × IsTextAt d i s to × IsUtf8 s) (λ to. ValueStands depth d i to (FitsSomeHowever slots (single (primitive prim.String))))
    (λ to further text. text_held slots depth d i to text.0 further text.1 text.2) c.escaped_text_end.ensures.further c.escaped_text_end.ensures.text)

pub returns-in-Number-clause-passed : goal.returns-in-Number-clause-passed
returns-in-Number-clause-passed c =
    let context = c.args.context.now in
    let slot = c.args.slot.now in
    let slots = slots_behind_node context slot.node in
    task_held slots (kinds_of context.schema.now context.plan.now.plans.items slot) slot.is_nullable slot.item c.args.cache.now.depth context.line c.args.place c.args.task task.Number (primitive slot.prim) c.number_end.result c.in-Number.is
    (λ json fits. fits) (c.number_end.ensures slots c.args.cache.now.depth)

pub returns-in-Date-clause-passed : goal.returns-in-Date-clause-passed
returns-in-Date-clause-passed c =
    let context = c.args.context.now in
    let slot = c.args.slot.now in
    let slots = slots_behind_node context slot.node in
    let depth = c.args.cache.now.depth in
    let type : slot.prim ≡ prim.Date = primitive_as context.plan.now.plans.items slot c.args.task task.Date c.requires.slot c.requires.task c.in-Date.is (λ e. absurd (cc)) in
    task_held slots (kinds_of context.schema.now context.plan.now.plans.items slot) slot.is_nullable slot.item depth context.line c.args.place c.args.task task.Date (primitive prim.Date) c.literal_end.result c.in-Date.is (λ json fits. fits)
    (subst (λ p. IfSome c.literal_end.result (λ to. ValueStands depth context.line c.args.place to (FitsSomeHowever slots (single (primitive p))))) type (c.literal_end.ensures slots depth))

pub returns-in-Moment-clause-passed : goal.returns-in-Moment-clause-passed
returns-in-Moment-clause-passed c =
    let context = c.args.context.now in
    let slot = c.args.slot.now in
    let slots = slots_behind_node context slot.node in
    let depth = c.args.cache.now.depth in
    let type : slot.prim ≡ prim.DateTimeOffset = primitive_as context.plan.now.plans.items slot c.args.task task.Moment c.requires.slot c.requires.task c.in-Moment.is (λ e. absurd (cc)) in
    task_held slots (kinds_of context.schema.now context.plan.now.plans.items slot) slot.is_nullable slot.item depth context.line c.args.place c.args.task task.Moment (primitive prim.DateTimeOffset) c.literal_end-in-Moment.result c.in-Moment.is (λ json fits. fits)
    (subst (λ p. IfSome c.literal_end-in-Moment.result (λ to. ValueStands depth context.line c.args.place to (FitsSomeHowever slots (single (primitive p))))) type (c.literal_end-in-Moment.ensures slots depth))

pub returns-in-Guid-clause-passed : goal.returns-in-Guid-clause-passed
returns-in-Guid-clause-passed c =
    let context = c.args.context.now in
    let slot = c.args.slot.now in
    let slots = slots_behind_node context slot.node in
    let depth = c.args.cache.now.depth in
    let type : slot.prim ≡ prim.Guid = primitive_as context.plan.now.plans.items slot c.args.task task.Guid c.requires.slot c.requires.task c.in-Guid.is (λ e. absurd (cc)) in
    task_held slots (kinds_of context.schema.now context.plan.now.plans.items slot) slot.is_nullable slot.item depth context.line c.args.place c.args.task task.Guid (primitive prim.Guid) c.literal_end-in-Guid.result c.in-Guid.is (λ json fits. fits)
    (subst (λ p. IfSome c.literal_end-in-Guid.result (λ to. ValueStands depth context.line c.args.place to (FitsSomeHowever slots (single (primitive p))))) type (c.literal_end-in-Guid.ensures slots depth))

pub returns-in-Member-clause-passed : goal.returns-in-Member-clause-passed
returns-in-Member-clause-passed c =
    let context = c.args.context.now in
    let slot = c.args.slot.now in
    let slots = slots_behind_node context slot.node in
    task_held slots (kinds_of context.schema.now context.plan.now.plans.items slot) slot.is_nullable slot.item c.args.cache.now.depth context.line c.args.place c.args.task task.Member
    (enumeration (name_at context.schema.now slot.member_of)) c.member_text_end.result c.in-Member.is (λ json fits. fits) (c.member_text_end.ensures.read c.args.cache.now.depth)
