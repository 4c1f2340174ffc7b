use Rattle.std.proofs.Common.{◌≡◌, ◌<◌, length, Some, slice_get, refl, subst, arith}
use Rattle.std.proofs.lemmas.Option.{slice_get_read}
use Rattle.std.specs.Vec.{with_item}
use Rattle.edm_rows.specs.RowsOfType.{RowsOfType, sifted}
use Rattle.edm_rows.specs.private.HeldRows.{rows_seen}
use Rattle.edm_rows.proofs.RowsStay.{rows_sifted, rows_stay}
use Rattle.edm_rows.proofs.type_rows.TypeRows.sift.Goals as goal

pub invariant_of-self : goal.invariant_of-self
invariant_of-self c =
    let rows = c.self.inside in
    let types = rows.types.items in
    let old = c.index_mut.result.now in
    let less : 0 < length types = omega arith in
    let at : slice_get types 0 ≡ Some old = slice_get_read types (length types) 0 old refl less c.index_mut.ensures.value in
    rows_stay rows c.self.invariant old c.sift_slot.new.of at c.sift_slot.ensures.same (with_item rows.types 0 c.sift_slot.new.of) refl

pub returns-then-len-gt0 : goal.returns-then-len-gt0
returns-then-len-gt0 c =
    let rows = c.self.inside in
    let types = rows.types.items in
    let old = c.index_mut.result.now in
    let less : 0 < length types = omega arith in
    let at : slice_get types 0 ≡ Some old = slice_get_read types (length types) 0 old refl less c.index_mut.ensures.value in
    subst (λ (m : RowsOfType). rows_seen (record rows { types = with_item rows.types 0 c.sift_slot.new.of }) ≡ record m { sieves = sifted m.sieves c.args.slot c.args.sieve }) c.self.view_is
    (rows_sifted rows c.self.invariant old c.sift_slot.new.of at c.sift_slot.ensures.same (with_item rows.types 0 c.sift_slot.new.of) refl c.args.slot c.args.sieve c.sift_slot.ensures.kept c.sift_slot.ensures.sieves)
