use Rattle.std.proofs.Common.{◌≡◌, ◌≢◌, ◌+◌, ◌<◌, ℕ, List, Bool, length, Some, true, false, slice_get, sym, ap, ◌∙◌, subst, arith}
use Rattle.std.proofs.lemmas.List.{length-map, length-set}
use Rattle.std.proofs.lemmas.Option.{slice_get_within}
use Rattle.edm_rows.specs.declared.row_types.RowSlot.{RowSlot}
use Rattle.edm_rows.specs.private.HeldRows.{keeps_of}
use Rattle.edm_rows.proofs.SlotMarks.{marked_below}
use Rattle.edm_rows.proofs.TypesChanged.{same_both}
use Rattle.edm_rows.proofs.slot_marks.keep_slots.Goals as goal

pub loop-slot-preserved : goal.loop-slot-preserved
loop-slot-preserved c =
    let l = c.loop-slot in
    let now = c.keep_slot.new.of in (
      same_both c.args.of.now l.of now l.invariant.0 c.keep_slot.ensures.same,
      ap length c.keep_slot.ensures.kept ∙ length-set (keeps_of l.of) l.slot true ∙ l.invariant.1,
      c.keep_slot.ensures.sieves ∙ l.invariant.2,
      subst (λ (m : List Bool). (k : ℕ) → k < l.slot + 1 → slice_get m k ≢ Some false) (sym c.keep_slot.ensures.kept) (marked_below (keeps_of l.of) l.slot l.invariant.3),
    )

pub returns-clause-kept : goal.returns-clause-kept
returns-clause-kept c slot unmarked =
    let l = c.loop-slot in
    let within = slice_get_within (keeps_of l.of) slot false unmarked in
    let long : length (keeps_of l.of) ≡ length c.args.of.now.slots.items = l.invariant.1 ∙ length-map c.args.of.now.slots.items (λ (s : RowSlot). s.is_kept) in
    l.invariant.3 slot (omega (arith, within, long)) unmarked
