use Rattle.edm_rows.specs.private.RowSlots.{kinds_of}
use Rattle.edm_rows.specs.private.Contexts.{slots_behind_node}
use Rattle.edm_rows.specs.private.KeptRows.{names_passed}
use Rattle.edm_rows.proofs.FilledValues.{null_filled_to, unseen_filled}
use Rattle.edm_rows.proofs.kept_tree.fill_seldom.Goals as goal

pub returns-in-Any-clause-filled : goal.returns-in-Any-clause-filled
returns-in-Any-clause-filled c =
    let context = c.args.context.now in
    let slot = c.args.slot.now in
    unseen_filled (slots_behind_node context slot.node) (names_passed context) (kinds_of context.schema.now context.plan.now.plans.items slot) slot.is_nullable slot.item c.args.cache.now.depth context.line c.args.place c.fill_unseen.new.value c.args.task c.fill_unseen.result c.in-Any.is
    c.fill_unseen.ensures.null c.fill_unseen.ensures.passed

pub returns-then-byte-eq110-clause-filled : goal.returns-then-byte-eq110-clause-filled
returns-then-byte-eq110-clause-filled c =
    let context = c.args.context.now in
    let slot = c.args.slot.now in
    null_filled_to (slots_behind_node context slot.node) (names_passed context) (kinds_of context.schema.now context.plan.now.plans.items slot) slot.is_nullable slot.item c.args.cache.now.depth context.line c.args.place c.fill_null.new.value c.args.task c.fill_null.result
    (c.in_default.not-Items, c.in_default.not-Any) c.fill_null.ensures.taken c.fill_null.ensures.may_be
