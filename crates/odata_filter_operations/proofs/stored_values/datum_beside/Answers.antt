use Rattle.std.proofs.Common.{◌≡◌, Some, length, refl, slice_get, subst, sym}
use Rattle.std.proofs.lemmas.Option.{slice_get_read}
use Rattle.edm_values.specs.declared.datum.Datum.TheVariants as datum
use Rattle.edm_values.specs.declared.value.Value.{Value}
use Rattle.odata_filter_operations.specs.DatumView.{IsDatumOf}
use Rattle.odata_filter_operations.proofs.values.Beside.{found_beside, never_beside, none_beside, null_datum}
use Rattle.odata_filter_operations.proofs.stored_values.datum_beside.Goals as goal

pub returns-then-one-slot : goal.returns-then-one-slot
returns-then-one-slot c =
    let held = c.args.held.now in
    let one = c.index-held-place.result in
    let at : slice_get held c.loop-place.place ≡ Some one = slice_get_read held (length held) c.loop-place.place one refl c.loop-place-test.true c.index-held-place.is in
    subst (λ (v : Value). IsDatumOf v c.datum_of.result) (sym (found_beside held c.args.slot c.loop-place.place c.loop-place.invariant one at c.if-one-slot.true)) c.datum_of.ensures

pub loop-place-preserved : goal.loop-place-preserved
loop-place-preserved c =
    let held = c.args.held.now in
    let one = c.index-held-place.result in
    let at : slice_get held c.loop-place.place ≡ Some one = slice_get_read held (length held) c.loop-place.place one refl c.loop-place-test.true c.index-held-place.is in
    none_beside held c.args.slot c.loop-place.place c.loop-place.invariant one at c.if-one-slot.false

pub returns : goal.returns
returns c =
    let held = c.args.held.now in
    subst (λ (v : Value). IsDatumOf v datum.Null) (sym (never_beside held c.args.slot c.loop-place.place c.loop-place.invariant c.loop-place-test.false)) null_datum
