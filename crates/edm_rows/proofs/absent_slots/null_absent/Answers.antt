use Rattle.std.proofs.Common.{◌≡◌, ◌%◌, ◌^◌, ◌<◌, ℕ, length, get_or, Option, Some, IfSome, slice_get, nat_eq, refl, ap, sym, subst, arith}
use Rattle.std.specs.Int.{bit_at}
use Rattle.std.proofs.lemmas.Option.{slice_get-get_or, slice_get_read}
use Rattle.edm_rows.specs.declared.row_types.RowSlot.{RowSlot}
use Rattle.edm_rows.proofs.UnseenNull.{NullsBelow, fills_unseen, nulls_next, nulls_none}
use Rattle.edm_rows.proofs.absent_slots.null_absent.Goals as goal

pub loop-slot-init : goal.loop-slot-init
loop-slot-init g c = nulls_none (g.M.SeenSlots.bits c.args.seen) c.args.values.now

pub null_unseen-requires : goal.null_unseen-requires
null_unseen-requires g c =
    let l = c.loop-slot in
    let rows = c.args.plan.now.slots.items in
    let slot = c.index.result.now in
    let less : l.slot < length rows = omega arith in
    let at : slice_get rows l.slot ≡ Some slot = slice_get_read rows (length rows) l.slot slot refl less c.index.ensures in
    let mark = subst (λ (o : Option RowSlot). IfSome o (λ s. (s.index ≡ l.slot) × (s.bit ≡ 2 ^ (s.index % 64)))) at (c.requires.marks.each l.slot) in
    record { within = omega (arith, mark.0, less, c.requires.marks.room); bit = mark.1 }

pub loop-slot-preserved : goal.loop-slot-preserved
loop-slot-preserved g c =
    let l = c.loop-slot in
    let rows = c.args.plan.now.slots.items in
    let seen = g.M.SeenSlots.bits c.args.seen in
    let slot = c.index.result.now in
    let w = get_or l.values l.slot c.index-values-slot.result in
    let less : l.slot < length rows = omega arith in
    let within : l.slot < length l.values = omega (arith, l.auto.values, c.requires.as_many, less) in
    let at : slice_get rows l.slot ≡ Some slot = slice_get_read rows (length rows) l.slot slot refl less c.index.ensures in
    let there : slice_get l.values l.slot ≡ Some w = slice_get-get_or l.values l.slot c.index-values-slot.result within in
    let mark = subst (λ (o : Option RowSlot). IfSome o (λ s. (s.index ≡ l.slot) × (s.bit ≡ 2 ^ (s.index % 64)))) at (c.requires.marks.each l.slot) in
    nulls_next seen l.slot c.args.values.now l.values c.null_unseen.new.value w there within l.invariant (λ none. c.null_unseen.ensures.null (ap (λ (b : ℕ). nat_eq b 1) (subst (λ (k : ℕ). bit_at seen k ≡ 0) (sym mark.0) none)))
    (λ one. c.null_unseen.ensures.stays (ap (λ (b : ℕ). nat_eq b 1) (subst (λ (k : ℕ). bit_at seen k ≡ 1) (sym mark.0) one)))

pub returns-clause-fills : goal.returns-clause-fills
returns-clause-fills g c _ =
    let rows = c.args.plan.now.slots.items in
    let seen = g.M.SeenSlots.bits c.args.seen in
    let end : c.loop-slot.slot ≡ length rows = omega arith in
    fills_unseen c.args.plan.now seen c.args.values.now c.loop-slot.values (λ k inside. (c.are_all_but.ensures.0 c.if-not-are_all_but.false k (omega (arith, inside, c.requires.marks.room))).0 (c.requires.marks.all k inside)) (subst (λ n. NullsBelow seen n c.args.values.now c.loop-slot.values) end c.loop-slot.invariant)
