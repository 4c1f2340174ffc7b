use Rattle.std.proofs.Common.{◌≡◌, ◌<◌, length, Some, true, slice_get, refl, arith}
use Rattle.std.proofs.lemmas.Option.{slice_get_read}
use Rattle.edm_rows.proofs.SlotMarks.{set_as_was, set_mapped}
use Rattle.edm_rows.proofs.TypesChanged.{same_type, slot_as}
use Rattle.edm_rows.proofs.slot_marks.keep_slot.Goals as goal

pub returns-then-slot-len-clause-same : goal.returns-then-slot-len-clause-same
returns-then-slot-len-clause-same c =
    let of = c.args.of.now in
    let slots = of.slots.items in
    let s = c.index_mut.result.now in
    let less : c.args.slot < length slots = omega arith in
    let at : slice_get slots c.args.slot ≡ Some s = slice_get_read slots (length slots) c.args.slot s refl less c.index_mut.ensures.value in
    same_type of _ c.args.slot s true s.sieve at refl refl refl refl refl refl refl

pub returns-then-slot-len-clause-kept : goal.returns-then-slot-len-clause-kept
returns-then-slot-len-clause-kept c = set_mapped (λ s. s.is_kept) c.args.of.now.slots.items c.args.slot (slot_as c.index_mut.result.now true c.index_mut.result.now.sieve)

pub returns-then-slot-len-clause-sieves : goal.returns-then-slot-len-clause-sieves
returns-then-slot-len-clause-sieves c =
    let slots = c.args.of.now.slots.items in
    let s = c.index_mut.result.now in
    let less : c.args.slot < length slots = omega arith in
    let at : slice_get slots c.args.slot ≡ Some s = slice_get_read slots (length slots) c.args.slot s refl less c.index_mut.ensures.value in
    set_as_was (λ x. x.sieve) slots c.args.slot (slot_as s true s.sieve) s at refl
