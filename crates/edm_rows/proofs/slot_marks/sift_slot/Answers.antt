use Rattle.std.proofs.Common.{◌≡◌, ◌<◌, ◌≤◌, length, Some, slice_get, slice_set, refl, sym, ap, ◌∙◌, arith}
use Rattle.std.proofs.lemmas.List.{length-map}
use Rattle.std.proofs.lemmas.Option.{slice_get_read}
use Rattle.edm_rows.specs.RowsOfType.{sieve_put}
use Rattle.edm_rows.specs.declared.row_types.RowSlot.{RowSlot}
use Rattle.edm_rows.specs.private.HeldRows.{sieves_of}
use Rattle.edm_rows.proofs.SlotMarks.{mapped_at, set_as_was, set_mapped, sifted_past, sifted_there}
use Rattle.edm_rows.proofs.TypesChanged.{same_type}
use Rattle.edm_rows.proofs.slot_marks.sift_slot.Goals as goal

pub returns-then-slot-len-clause-same : goal.returns-then-slot-len-clause-same
returns-then-slot-len-clause-same c =
    let of = c.args.of.now in
    let slots = of.slots.items in
    let s = c.index_mut.result.now in
    let less : c.args.slot < length slots = omega arith in
    let at : slice_get slots c.args.slot ≡ Some s = slice_get_read slots (length slots) c.args.slot s refl less c.index_mut.ensures.value in
    same_type of _ c.args.slot s s.is_kept (sieve_put s.sieve c.args.sieve) at (ap (λ (x : RowSlot). slice_set slots c.args.slot x) c.put_sieve.ensures) refl refl refl refl refl refl

pub returns-then-slot-len-clause-kept : goal.returns-then-slot-len-clause-kept
returns-then-slot-len-clause-kept c =
    let slots = c.args.of.now.slots.items in
    let s = c.index_mut.result.now in
    let less : c.args.slot < length slots = omega arith in
    let at : slice_get slots c.args.slot ≡ Some s = slice_get_read slots (length slots) c.args.slot s refl less c.index_mut.ensures.value in
    set_as_was (λ x. x.is_kept) slots c.args.slot c.put_sieve.new.slot s at (ap (λ (x : RowSlot). x.is_kept) c.put_sieve.ensures)

pub returns-then-slot-len-clause-sieves : goal.returns-then-slot-len-clause-sieves
returns-then-slot-len-clause-sieves c =
    let of = c.args.of.now in
    let slots = of.slots.items in
    let s = c.index_mut.result.now in
    let less : c.args.slot < length slots = omega arith in
    let at : slice_get slots c.args.slot ≡ Some s = slice_get_read slots (length slots) c.args.slot s refl less c.index_mut.ensures.value in
    set_mapped (λ x. x.sieve) slots c.args.slot c.put_sieve.new.slot ∙ ap (λ (x : RowSlot). slice_set (sieves_of of) c.args.slot x.sieve) c.put_sieve.ensures
    ∙ sifted_there (sieves_of of) c.args.slot s.sieve c.args.sieve (mapped_at (λ x. x.sieve) slots c.args.slot s at)

pub returns-else-slot-len-clause-sieves : goal.returns-else-slot-len-clause-sieves
returns-else-slot-len-clause-sieves c =
    let of = c.args.of.now in
    let long : length (sieves_of of) ≡ length of.slots.items = length-map of.slots.items (λ (s : RowSlot). s.sieve) in
    let past : length of.slots.items ≤ c.args.slot = omega arith in
    sym (sifted_past (sieves_of of) c.args.slot c.args.sieve (omega (arith, long, past)))
