use Rattle.std.proofs.lemmas.Bool.{false≢true}
use Rattle.std.proofs.Common.{◌≡◌, ◌↔◌, ◌∙◌, Bool, true, false, refl, sym, subst, arith}
use Rattle.std.specs.Prelude.{IsTrue}
use Rattle.edm_entities.specs.private.TapeNodes.{IsReadWithin}
use Rattle.edm_entities.proofs.TapeLemmas.Reads.{number_read, array_as, array_unread, object_as, object_unread, scalar_read, all_read, not_all_read, too_deep, last_read, next_unread, next_read, last_member_read, next_member_unread, next_member_read}
use Rattle.edm_entities.proofs.tape_node.+read.Goals as goal

pub is_read-returns-in-Some : goal.is_read-returns-in-Some
is_read-returns-in-Some t c = λ value begins.
    subst (λ (b : Bool). IsTrue b ↔ IsReadWithin c.args.depth value) (sym c.is_some.ensures)
    (number_read c.args.depth value c.in-Some.text.now c.number_of_text.result (c.in-Some.ensures value begins) c.number_of_text.ensures)

pub is_read-returns-then-depth-gt0 : goal.is_read-returns-then-depth-gt0
is_read-returns-then-depth-gt0 t c = λ value begins.
    let held = c.in-Some-items.ensures value begins in
    array_as c.args.depth value held.0 c.are_read.result held.1 c.if-depth-gt0.true (c.are_read.ensures held.0 held.2)

pub is_read-returns-else-depth-gt0 : goal.is_read-returns-else-depth-gt0
is_read-returns-else-depth-gt0 t c = λ value begins.
    let held = c.in-Some-items.ensures value begins in
    too_deep c.args.depth value
    (λ read. array_unread c.args.depth held.0 (λ some. omega (arith, some, c.if-depth-gt0.false)) (subst (IsReadWithin c.args.depth) held.1 read)) (omega (arith, c.if-depth-gt0.false))

pub is_read-returns-then-depth-gt0-2 : goal.is_read-returns-then-depth-gt0-2
is_read-returns-then-depth-gt0-2 t c = λ value begins.
    let held = c.in-Some-members.ensures value begins in
    object_as c.args.depth value held.0 c.are_members_read.result held.1 c.if-depth-gt0-2.true (c.are_members_read.ensures held.0 held.2)

pub is_read-returns-else-depth-gt0-2 : goal.is_read-returns-else-depth-gt0-2
is_read-returns-else-depth-gt0-2 t c = λ value begins.
    let held = c.in-Some-members.ensures value begins in
    too_deep c.args.depth value
    (λ read. object_unread c.args.depth held.0 (λ some. omega (arith, some, c.if-depth-gt0-2.false)) (subst (IsReadWithin c.args.depth) held.1 read)) (omega (arith, c.if-depth-gt0-2.false))

pub is_read-returns-in-None : goal.is_read-returns-in-None
is_read-returns-in-None t c = λ value begins.
    all_read (scalar_read c.args.depth value (c.in_default.ensures value begins) (sym (c.in_default-items.ensures value begins)) (sym (c.in-None.ensures value begins)))

pub are_read-items-init : goal.are_read-items-init
are_read-items-init t c = λ values held. (values, held, (λ read. read, λ read. read))

pub are_read-returns-then-not-is_read : goal.are_read-returns-then-not-is_read
are_read-returns-then-not-is_read t c = λ values held.
    let so = c.items.invariant values held in
    let one = c.in-Some.ensures.value so.0 so.1 in
    let other : ¬ (IsReadWithin c.args.depth one.0) = λ read. false≢true (sym c.if-not-is_read.true ∙ (c.is_read.ensures one.0 one.3).1 read) in
    not_all_read (next_unread c.args.depth values so.0 so.2 one.0 one.1 one.2 other)

pub are_read-items-preserved : goal.are_read-items-preserved
are_read-items-preserved t c = λ values held.
    let so = c.items.invariant values held in
    let one = c.in-Some.ensures.value so.0 so.1 in
    let read = (c.is_read.ensures one.0 one.3).0 c.if-not-is_read.false in
    (one.1, one.4, next_read c.args.depth values so.0 so.2 one.0 one.1 one.2 read)

pub are_read-returns : goal.are_read-returns
are_read-returns t c = λ values held.
    let so = c.items.invariant values held in
    all_read (last_read c.args.depth values so.0 so.2 (c.in_default.ensures.value so.0 so.1))

pub are_members_read-members-init : goal.are_members_read-members-init
are_members_read-members-init t c = λ values held. (values, held, (λ read. read, λ read. read))

pub are_members_read-returns-then-not-is_read : goal.are_members_read-returns-then-not-is_read
are_members_read-returns-then-not-is_read t c = λ values held.
    let so = c.members.invariant values held in
    let one = c.in-Some.ensures.value so.0 so.1 in
    let other : ¬ (IsReadWithin c.args.depth one.0) = λ read. false≢true (sym c.if-not-is_read.true ∙ (c.is_read.ensures one.0 one.3).1 read) in
    not_all_read (next_member_unread c.args.depth values so.0 so.2 _ one.0 one.1 one.2 other)

pub are_members_read-members-preserved : goal.are_members_read-members-preserved
are_members_read-members-preserved t c = λ values held.
    let so = c.members.invariant values held in
    let one = c.in-Some.ensures.value so.0 so.1 in
    let read = (c.is_read.ensures one.0 one.3).0 c.if-not-is_read.false in
    (one.1, one.4, next_member_read c.args.depth values so.0 so.2 _ one.0 one.1 one.2 read)

pub are_members_read-returns : goal.are_members_read-returns
are_members_read-returns t c = λ values held.
    let so = c.members.invariant values held in
    all_read (last_member_read c.args.depth values so.0 so.2 (c.in_default.ensures.value so.0 so.1))
