use Rattle.std.proofs.Common.{◌≡◌, ◌-◌, suc, ◌∙◌, true, false, length, map, drop, sym, ap, arith, String, Global, string_bytes}
use Rattle.std.proofs.Math.Seq.{drop-length}
use Rattle.std.specs.List.{list_any}
use Rattle.std.specs.Map.{keys_of}
use Rattle.csdl_schema.specs.declared.property.Property.{Property}
use Rattle.csdl_schema.specs.BaseFaults.{lesser_name, first_name}
use Rattle.csdl_schema.specs.private.Placed.{entry_view, owns_at, names_owned}
use Rattle.csdl_schema.specs.private.PlacedView.{placed_of}
use Rattle.csdl_schema.proofs.Entries.{as_many_keys, entry_named, key_read}
use Rattle.csdl_schema.proofs.Walks.{names_from, owned_step}
use Rattle.csdl_schema.proofs.property_names.first_owned.Goals as goal

pub loop-slot-init : goal.loop-slot-init
loop-slot-init c =
    let types = placed_of c.args.types.now in
    let places = c.args.places.now in
    let es = c.args.properties.now.entries in
    let names = c.as_slice-names.result.now in
    let keys : names ≡ keys_of es = c.as_slice-names.ensures ∙ c.keys.ensures.rest ∙ ap keys_of c.as_slice.ensures.entries in
    let many : length names ≡ length es = as_many_keys es names keys in
    (omega (arith, many), ap (λ rest. first_name (names_owned types places (map (λ e. e.0) (map entry_view rest)))) (sym (ap (λ n. drop n es) many ∙ drop-length es)))

pub bounds-names-slot : goal.bounds-names-slot
bounds-names-slot c =
    let es = c.args.properties.now.entries in
    let names = c.as_slice-names.result.now in
    let keys : names ≡ keys_of es = c.as_slice-names.ensures ∙ c.keys.ensures.rest ∙ ap keys_of c.as_slice.ensures.entries in
    let many : length names ≡ length es = as_many_keys es names keys in
    omega (arith, many, c.loop-slot.invariant.0, c.loop-slot-test.true)

pub loop-slot-preserved-then-is_owned : goal.loop-slot-preserved-then-is_owned
loop-slot-preserved-then-is_owned c =
    let types = placed_of c.args.types.now in
    let places = c.args.places.now in
    let es = c.args.properties.now.entries in
    let p = c.loop-slot.slot - 1 in
    let name = c.index-names-slot.result in
    let keys : c.as_slice-names.result.now ≡ keys_of es = c.as_slice-names.ensures ∙ c.keys.ensures.rest ∙ ap keys_of c.as_slice.ensures.entries in
    let entry = entry_named es p name (key_read es c.as_slice-names.result.now keys p name (omega (arith, c.loop-slot.invariant.0, c.loop-slot-test.true)) c.index-names-slot.is) in
    let e : String Global × Property = (name, entry.0) in
    let past : c.loop-slot.slot ≡ suc p = omega (arith, c.loop-slot-test.true) in
    let owned : list_any (owns_at types (string_bytes name)) places ≡ true =
    ap (λ n. list_any (owns_at types n) places) (sym c.as_str-name.ensures.value) ∙ sym c.is_owned.ensures ∙ c.if-is_owned.true in (
      omega (arith, c.loop-slot.invariant.0),
      c.lesser_name-first.ensures
          ∙ (λ j. lesser_name (c.as_str-name.ensures.value j) ((c.loop-slot.invariant.1 ∙ ap (λ k. first_name (names_owned types places (names_from k es))) past) j))
          ∙ sym (owned_step types places es p e true entry.1 owned),
    )

pub loop-slot-preserved : goal.loop-slot-preserved
loop-slot-preserved c =
    let types = placed_of c.args.types.now in
    let places = c.args.places.now in
    let es = c.args.properties.now.entries in
    let p = c.loop-slot.slot - 1 in
    let name = c.index-names-slot.result in
    let keys : c.as_slice-names.result.now ≡ keys_of es = c.as_slice-names.ensures ∙ c.keys.ensures.rest ∙ ap keys_of c.as_slice.ensures.entries in
    let entry = entry_named es p name (key_read es c.as_slice-names.result.now keys p name (omega (arith, c.loop-slot.invariant.0, c.loop-slot-test.true)) c.index-names-slot.is) in
    let e : String Global × Property = (name, entry.0) in
    let past : c.loop-slot.slot ≡ suc p = omega (arith, c.loop-slot-test.true) in
    let owned : list_any (owns_at types (string_bytes name)) places ≡ false =
    ap (λ n. list_any (owns_at types n) places) (sym c.as_str-name.ensures.value) ∙ sym c.is_owned.ensures ∙ c.if-is_owned.false in (
      omega (arith, c.loop-slot.invariant.0),
      c.loop-slot.invariant.1
          ∙ ap (λ k. first_name (names_owned types places (names_from k es))) past
          ∙ sym (owned_step types places es p e false entry.1 owned),
    )
