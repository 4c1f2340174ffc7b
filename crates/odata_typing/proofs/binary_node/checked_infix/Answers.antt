use Rattle.std.proofs.Common.{◌∙◌, ◌+◌, ap, arith, rules, subst, SFits, ℕ, ℤ, slice_get, w64}
use Rattle.std.proofs.lemmas.Int.{to_z-of_z}
use Rattle.std.proofs.lemmas.Option.{slice_get_within}
use Rattle.odata_typing.specs.private.Rows.{quoted_in}
use Rattle.odata_typing.specs.private.Walks.{IsReadPut}
use Rattle.odata_typing.proofs.placed.Between.{infix_left, infix_right, infix_unknown, infix_unread, two_children}
use Rattle.odata_typing.proofs.binary_node.checked_infix.Goals as goal

pub returns-in-Neither : goal.returns-in-Neither
returns-in-Neither c = λ l r over.
    let context = c.args.context.now in
    let schema = context.schema.now in
    let judged = c.args.judged.now in
    let old = c.args.walk.now in
    let two = two_children context old judged l r over in
    let middle = c.stop_at-right.ensures two.left.found two.left.at ∙ two.left.last in
    let at_right = ap (slice_get old.list.nodes) middle ∙ two.right.at in
    let quoted_right = c.quoted_at-2.ensures two.right.found at_right ∙ ap (λ (k : ℕ). quoted_in old.list k two.right.found) middle in
    infix_unread c.laws_below.ensures context judged old c.put_typed.new.self c.args.kind l r c.put_typed.result c.requires.kind c.requires.ready two (record { left = c.type_at.result.now; right = c.type_at-2.result.now; left_quoted = c.quoted_at.result; right_quoted = c.quoted_at-2.result })
    (c.type_at.ensures two.left.found two.left.at) (c.type_at-2.ensures two.right.found at_right)
    (c.quoted_at.ensures two.left.found two.left.at) quoted_right
    c.infix_type-edm_type.result c.reason_of-code.result
    (rw c.in-Neither.is at c.operand_read-read.ensures) (c.reason_of-code.ensures schema)
    (record { typed = c.infix_type-edm_type.ensures.typed; there = c.infix_type-edm_type.ensures.there; none = c.infix_type-edm_type.ensures.none })
    (record { some = c.put_typed.ensures.some; put_is = c.put_typed.ensures.put; none = c.put_typed.ensures.none; refused_is = c.put_typed.ensures.refused })

pub put_read-requires : goal.put_read-requires
put_read-requires c =
    let given = c.requires.operands in
    let context = c.args.context.now in
    let judged = c.args.judged.now in
    let old = c.args.walk.now in
    let two = two_children context old judged given.0 given.1 given.2 in
    let order = c.requires.ready.order in
    let inside = c.requires.ready.inside in
    record {
      place = omega arith;
      literal = slice_get_within old.list.nodes (judged.number + 1) two.left.found two.left.at;
    }

pub returns-in-Left : goal.returns-in-Left
returns-in-Left c = λ l r over.
    let fits : SFits w64 c.in-Left.number = search rules in
    let context = c.args.context.now in
    let schema = context.schema.now in
    let judged = c.args.judged.now in
    let old = c.args.walk.now in
    let two = two_children context old judged l r over in
    let middle = c.stop_at-right.ensures two.left.found two.left.at ∙ two.left.last in
    let at_right = ap (slice_get old.list.nodes) middle ∙ two.right.at in
    let quoted_right = c.quoted_at-2.ensures two.right.found at_right ∙ ap (λ (k : ℕ). quoted_in old.list k two.right.found) middle in
    infix_left c.laws_below.ensures context judged old c.put_read.new.walk c.args.kind l r c.put_read.result c.requires.kind c.requires.ready two (record { left = c.type_at.result.now; right = c.type_at-2.result.now; left_quoted = c.quoted_at.result; right_quoted = c.quoted_at-2.result })
    (c.type_at.ensures two.left.found two.left.at) (c.type_at-2.ensures two.right.found at_right)
    (c.quoted_at.ensures two.left.found two.left.at) quoted_right
    c.in-Left.number (rw c.in-Left.is at c.operand_read-read.ensures)
    (subst (λ (n : ℤ). IsReadPut old judged c.args.kind (judged.number + 1) n c.put_read.new.walk c.put_read.result) (to_z-of_z w64 c.in-Left.number fits) c.put_read.ensures)

pub put_read-requires-in-Right : goal.put_read-requires-in-Right
put_read-requires-in-Right c =
    let given = c.requires.operands in
    let context = c.args.context.now in
    let judged = c.args.judged.now in
    let old = c.args.walk.now in
    let two = two_children context old judged given.0 given.1 given.2 in
    let order = c.requires.ready.order in
    let inside = c.requires.ready.inside in
    let middle = c.stop_at-right.ensures two.left.found two.left.at ∙ two.left.last in
    record {
      place = omega arith;
      literal = slice_get_within old.list.nodes c.stop_at-right.result two.right.found (ap (slice_get old.list.nodes) middle ∙ two.right.at);
    }

pub returns-in-Right : goal.returns-in-Right
returns-in-Right c = λ l r over.
    let fits : SFits w64 c.in-Right.number = search rules in
    let context = c.args.context.now in
    let schema = context.schema.now in
    let judged = c.args.judged.now in
    let old = c.args.walk.now in
    let two = two_children context old judged l r over in
    let middle = c.stop_at-right.ensures two.left.found two.left.at ∙ two.left.last in
    let at_right = ap (slice_get old.list.nodes) middle ∙ two.right.at in
    let quoted_right = c.quoted_at-2.ensures two.right.found at_right ∙ ap (λ (k : ℕ). quoted_in old.list k two.right.found) middle in
    infix_right c.laws_below.ensures context judged old c.put_read-in-Right.new.walk c.args.kind l r c.put_read-in-Right.result c.requires.kind c.requires.ready two (record { left = c.type_at.result.now; right = c.type_at-2.result.now; left_quoted = c.quoted_at.result; right_quoted = c.quoted_at-2.result })
    (c.type_at.ensures two.left.found two.left.at) (c.type_at-2.ensures two.right.found at_right)
    (c.quoted_at.ensures two.left.found two.left.at) quoted_right
    c.stop_at-right.result c.in-Right.number middle (rw c.in-Right.is at c.operand_read-read.ensures)
    (subst (λ (n : ℤ). IsReadPut old judged c.args.kind c.stop_at-right.result n c.put_read-in-Right.new.walk c.put_read-in-Right.result) (to_z-of_z w64 c.in-Right.number fits) c.put_read-in-Right.ensures)

pub returns-in-Unknown : goal.returns-in-Unknown
returns-in-Unknown c = λ l r over.
    let context = c.args.context.now in
    let schema = context.schema.now in
    let judged = c.args.judged.now in
    let old = c.args.walk.now in
    let two = two_children context old judged l r over in
    let middle = c.stop_at-right.ensures two.left.found two.left.at ∙ two.left.last in
    let at_right = ap (slice_get old.list.nodes) middle ∙ two.right.at in
    let quoted_right = c.quoted_at-2.ensures two.right.found at_right ∙ ap (λ (k : ℕ). quoted_in old.list k two.right.found) middle in
    infix_unknown c.laws_below.ensures context judged old c.refuse.new.self c.args.kind l r c.refuse.result c.requires.kind c.requires.ready two (record { left = c.type_at.result.now; right = c.type_at-2.result.now; left_quoted = c.quoted_at.result; right_quoted = c.quoted_at-2.result })
    (c.type_at.ensures two.left.found two.left.at) (c.type_at-2.ensures two.right.found at_right)
    (c.quoted_at.ensures two.left.found two.left.at) quoted_right
    (rw c.in-Unknown.is at c.operand_read-read.ensures) c.refuse.ensures.stops c.refuse.ensures.fault
