use Rattle.std.proofs.Common.{◌≡◌, refl, sym, ap}
use Rattle.csdl_schema.specs.ExprType.{primitive}
use Rattle.edm_values.specs.declared.primitive.PrimitiveType.TheVariants as prim
use Rattle.edm_rows.specs.declared.row_types.Task.TheVariants as task
use Rattle.edm_rows.specs.private.RowSlots.{kinds_of}
use Rattle.edm_rows.specs.private.Contexts.{slots_behind_node}
use Rattle.edm_rows.specs.private.KeptRows.{names_passed}
use Rattle.edm_rows.proofs.FilledValues.{leaf_filled, member_text_filled}
use Rattle.edm_rows.proofs.Values.{primitive_as}
use Rattle.edm_rows.proofs.kept_tree.fill_leaf.Goals as goal

pub returns-in-Number-clause-filled : goal.returns-in-Number-clause-filled
returns-in-Number-clause-filled c =
    let context = c.args.context.now in
    let slot = c.args.slot.now in
    leaf_filled (slots_behind_node context slot.node) (names_passed context) (kinds_of context.schema.now context.plan.now.plans.items slot) slot.is_nullable slot.item c.args.cache.now.depth context.line c.args.place c.take_number.new.value c.args.task task.Number slot.prim c.take_number.result c.in-Number.is
    ((λ e. absurd (cc)), (λ e. absurd (cc))) refl c.take_number.ensures

pub returns-in-Text-clause-filled : goal.returns-in-Text-clause-filled
returns-in-Text-clause-filled c =
    let context = c.args.context.now in
    let slot = c.args.slot.now in
    leaf_filled (slots_behind_node context slot.node) (names_passed context) (kinds_of context.schema.now context.plan.now.plans.items slot) slot.is_nullable slot.item c.args.cache.now.depth context.line c.args.place c.take_any_text.new.value c.args.task task.Text prim.String c.take_any_text.result c.in-Text.is
    ((λ e. absurd (cc)), (λ e. absurd (cc))) refl c.take_any_text.ensures.taken

pub returns-in-Date-clause-filled : goal.returns-in-Date-clause-filled
returns-in-Date-clause-filled c =
    let context = c.args.context.now in
    let slot = c.args.slot.now in
    let known : slot.prim ≡ prim.Date = primitive_as context.plan.now.plans.items slot c.args.task task.Date c.requires.slot c.requires.task c.in-Date.is (λ e. absurd (cc)) in
    leaf_filled (slots_behind_node context slot.node) (names_passed context) (kinds_of context.schema.now context.plan.now.plans.items slot) slot.is_nullable slot.item c.args.cache.now.depth context.line c.args.place c.take_literal.new.value c.args.task task.Date slot.prim c.take_literal.result c.in-Date.is
    ((λ e. absurd (cc)), (λ e. absurd (cc))) (ap primitive (sym known)) c.take_literal.ensures.taken

pub returns-in-Moment-clause-filled : goal.returns-in-Moment-clause-filled
returns-in-Moment-clause-filled c =
    let context = c.args.context.now in
    let slot = c.args.slot.now in
    let known : slot.prim ≡ prim.DateTimeOffset = primitive_as context.plan.now.plans.items slot c.args.task task.Moment c.requires.slot c.requires.task c.in-Moment.is (λ e. absurd (cc)) in
    leaf_filled (slots_behind_node context slot.node) (names_passed context) (kinds_of context.schema.now context.plan.now.plans.items slot) slot.is_nullable slot.item c.args.cache.now.depth context.line c.args.place c.take_literal-in-Moment.new.value c.args.task task.Moment slot.prim c.take_literal-in-Moment.result c.in-Moment.is
    ((λ e. absurd (cc)), (λ e. absurd (cc))) (ap primitive (sym known)) c.take_literal-in-Moment.ensures.taken

pub returns-in-Guid-clause-filled : goal.returns-in-Guid-clause-filled
returns-in-Guid-clause-filled c =
    let context = c.args.context.now in
    let slot = c.args.slot.now in
    let known : slot.prim ≡ prim.Guid = primitive_as context.plan.now.plans.items slot c.args.task task.Guid c.requires.slot c.requires.task c.in-Guid.is (λ e. absurd (cc)) in
    leaf_filled (slots_behind_node context slot.node) (names_passed context) (kinds_of context.schema.now context.plan.now.plans.items slot) slot.is_nullable slot.item c.args.cache.now.depth context.line c.args.place c.take_literal-in-Guid.new.value c.args.task task.Guid slot.prim c.take_literal-in-Guid.result c.in-Guid.is
    ((λ e. absurd (cc)), (λ e. absurd (cc))) (ap primitive (sym known)) c.take_literal-in-Guid.ensures.taken

pub returns-in-Member-clause-filled : goal.returns-in-Member-clause-filled
returns-in-Member-clause-filled c =
    let context = c.args.context.now in
    let slot = c.args.slot.now in
    member_text_filled (slots_behind_node context slot.node) (names_passed context) (kinds_of context.schema.now context.plan.now.plans.items slot) slot.is_nullable slot.item c.args.cache.now.depth context.line c.args.place c.take_member.new.value c.args.task c.take_member.result c.in-Member.is
    c.take_member.ensures.taken
