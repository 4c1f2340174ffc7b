use Rattle.std.proofs.Common.{◌≡◌, ◌≢◌, ◌<◌, ℕ, List, length, map, Some, IfSome, slice_get, refl, sym, ap, ◌∙◌, subst, arith}
use Rattle.std.proofs.lemmas.Option.{slice_get_read}
use Rattle.csdl_schema.specs.SchemaModel.{HasDistinctNames, properties_at}
use Rattle.edm_rows.specs.private.HeldRows.{sieves_of}
use Rattle.edm_rows.specs.private.KeptRows.{names_unkept_in}
use Rattle.edm_rows.proofs.Indexes.{each_at}
use Rattle.edm_rows.proofs.SlotMarks.{set_as_was}
use Rattle.edm_rows.proofs.TypesKept.{all_same, none_unkept, one_changed, one_further, same_count, same_ids, unkept_after, unkept_before}
use Rattle.edm_rows.proofs.slot_marks.keep_name_in.Goals as goal

pub loop-place-init : goal.loop-place-init
loop-place-init c = (all_same c.args.types.now.items, refl, λ k less. absurd (omega (arith, less)), λ other differs. ((λ un. un), (λ un. un)))

pub keep_name-requires : goal.keep_name-requires
keep_name-requires c =
    let l = c.loop-place in
    let s = c.index_mut.result.now in
    let less : l.place < length l.types.items = omega (arith, same_count c.args.types.now.items l.types.items l.invariant.0) in
    let at : slice_get l.types.items l.place ≡ Some s = slice_get_read l.types.items (length l.types.items) l.place s refl less c.index_mut.ensures.value in
    let was = same_ids c.args.types.now.items l.types.items l.invariant.0 l.place s at in
    subst (λ (i : ℕ). HasDistinctNames (properties_at c.args.schema.now i)) (sym was.2) (each_at (λ k t. HasDistinctNames (properties_at c.args.schema.now t.type_id)) c.args.types.now.items l.place was.0 c.requires was.1)

pub loop-place-preserved : goal.loop-place-preserved
loop-place-preserved c =
    let l = c.loop-place in
    let schema = c.args.schema.now in
    let name = c.args.name.now in
    let now = l.types.items in
    let s = c.index_mut.result.now in
    let new = c.keep_name.new.of in
    let less : l.place < length now = omega (arith, same_count c.args.types.now.items now l.invariant.0) in
    let at : slice_get now l.place ≡ Some s = slice_get_read now (length now) l.place s refl less c.index_mut.ensures.value in
    let same = c.keep_name.ensures.same in
    let kept = subst (λ (i : ℕ). ¬ names_unkept_in (properties_at schema i) new.slots.items name) (sym same.type_id) c.keep_name.ensures.named in (
      one_changed c.args.types.now.items now l.place s new at same l.invariant.0,
      set_as_was sieves_of now l.place new s at c.keep_name.ensures.sieves ∙ l.invariant.1,
      one_further (λ t. ¬ names_unkept_in (properties_at schema t.type_id) t.slots.items name) now l.place new less l.invariant.2 kept,
      λ other differs.
          let both = c.keep_name.ensures.others other differs in
          let before = l.invariant.3 other differs in (
            (λ un. before.0 (unkept_before schema now l.place s new at same.type_id other both.0 un)),
            (λ un. unkept_after schema now l.place s new at same.type_id other both.1 (before.1 un)),
          ),
    )

pub returns-clause-named : goal.returns-clause-named
returns-clause-named c =
    let l = c.loop-place in
    let count = same_count c.args.types.now.items l.types.items l.invariant.0 in
    none_unkept c.args.schema.now l.types.items c.args.name.now (λ j less. l.invariant.2 j (omega (arith, less, count)))
