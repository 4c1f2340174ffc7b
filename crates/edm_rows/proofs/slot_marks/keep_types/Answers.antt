use Rattle.std.proofs.Common.{◌≡◌, ◌≢◌, ◌⊎◌, ⊎_elim, ◌<◌, ◌≤◌, ℕ, length, map, Some, false, IfSome, slice_get, refl, ◌∙◌, arith}
use Rattle.std.proofs.lemmas.Bool.{cases_lt}
use Rattle.std.proofs.lemmas.Option.{slice_get_read}
use Rattle.edm_rows.specs.private.HeldRows.{keeps_of, sieves_of}
use Rattle.edm_rows.proofs.Indexes.{past_end}
use Rattle.edm_rows.proofs.SlotMarks.{set_as_was}
use Rattle.edm_rows.proofs.TypesKept.{all_same, one_changed, one_further, same_count}
use Rattle.edm_rows.proofs.slot_marks.keep_types.Goals as goal

pub loop-place-init : goal.loop-place-init
loop-place-init c = (all_same c.args.types.now.items, refl, λ k less. absurd (omega (arith, less)))

pub loop-place-preserved : goal.loop-place-preserved
loop-place-preserved c =
    let l = c.loop-place in
    let now = l.types.items in
    let s = c.index_mut.result.now in
    let new = c.keep_slots.new.of in
    let less : l.place < length now = omega (arith, same_count c.args.types.now.items now l.invariant.0) in
    let at : slice_get now l.place ≡ Some s = slice_get_read now (length now) l.place s refl less c.index_mut.ensures.value in (
      one_changed c.args.types.now.items now l.place s new at c.keep_slots.ensures.same l.invariant.0,
      set_as_was sieves_of now l.place new s at c.keep_slots.ensures.sieves ∙ l.invariant.1,
      one_further (λ t. (slot : ℕ) → slice_get (keeps_of t) slot ≢ Some false) now l.place new less l.invariant.2 c.keep_slots.ensures.kept,
    )

pub returns-clause-kept : goal.returns-clause-kept
returns-clause-kept c place =
    let l = c.loop-place in
    let now = l.types.items in
    let count = same_count c.args.types.now.items now l.invariant.0 in
    ⊎_elim (λ less. l.invariant.2 place (omega (arith, less, count))) (λ past. past_end (λ t. (slot : ℕ) → slice_get (keeps_of t) slot ≢ Some false) now place (omega (arith, past))) (cases_lt place (length now))
