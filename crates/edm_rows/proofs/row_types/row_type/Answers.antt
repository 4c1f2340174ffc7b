use Rattle.std.proofs.Common.{◌≡◌, false, true≢false, ℕ, ◌+◌, ◌<◌, ◌^◌, [], ◌∷◌, ◌++◌, length, map, None, Some, IfSome, slice_get, refl, sym, ap, ◌∙◌, subst, arith}
use Rattle.std.specs.Int.{bit_at}
use Rattle.std.specs.Prelude.{bit_or}
use Rattle.std.proofs.lemmas.Grind.{common_steps}
use Rattle.std.proofs.lemmas.Nat.Bits.{bit_at-zero}
use Rattle.std.proofs.lemmas.Option.{slice_get_read}
use Rattle.csdl_schema.specs.SchemaModel.{properties_at}
use Rattle.edm_values.specs.declared.value.Value.{Null}
use Rattle.edm_row_plans.specs.Expanded.{slots_at}
use Rattle.edm_row_plans.specs.Plans.{IsPlan}
use Rattle.edm_entities.specs.Row.{val_of}
use Rattle.edm_rows.specs.private.Passed.{MayBeAbsent}
use Rattle.edm_rows.proofs.RowLemmas.Passes.{slot_seen}
use Rattle.edm_rows.proofs.Indexes.{each_at}
use Rattle.edm_rows.proofs.RowLemmas.Plans.{slot_planned}
use Rattle.edm_rows.specs.declared.row_types.RowSlot.{RowSlot}
use Rattle.edm_rows.specs.declared.row_types.RowType.{RowType}
use Rattle.edm_rows.specs.private.RowSlots.{IsFresh, IsRowSlot, IsRowType}
use Rattle.edm_rows.specs.private.RowTypes.{HasRecord}
use Rattle.seen_slots.specs.SlotBits.{bits_of}
use Rattle.edm_rows.proofs.RowLemmas.RowTypes.{each_push, long_push, none_each}
use Rattle.edm_rows.proofs.SeenBits.{all_more, optional_more}
use Rattle.edm_rows.proofs.RowLemmas.SlotsFilled.{row_slot_of}
use Rattle.edm_rows.proofs.row_types.row_type.Goals.{else-may_be_absent, then-may_be_absent}
use Rattle.edm_rows.proofs.row_types.row_type.Goals as goal

pub slot_name-name-requires : goal.slot_name-name-requires
slot_name-name-requires c =
    let plans = c.args.plan.now.plans.items in
    let of = c.index-of.result.now in
    let at : slice_get plans c.args.place ≡ Some of = slice_get_read plans (length plans) c.args.place of refl c.requires.place c.index-of.ensures in
    let is : IsPlan c.args.schema.now c.args.plan.now.expansion of = each_at (λ _. IsPlan c.args.schema.now c.args.plan.now.expansion) plans c.args.place of c.requires.plans at in
    omega (arith, is.planned.count)

pub loop-index-init : goal.loop-index-init
loop-index-init c =
    let schema = c.args.schema.now in
    let steps = c.args.plan.now.expansion in
    let plans = c.args.plan.now.plans.items in
    let of = c.index-of.result.now in
    let names = map (λ p. p.name) (properties_at schema of.type_id) in
    let Q : (ℕ → RowSlot → Type 0) = λ k slot. IfSome (slice_get of.slots.items k) (λ p. IsRowSlot schema steps plans k p slot) in (
      ap length c.new-slots.ensures.items,
      subst (λ items. (k : ℕ) → IfSome (slice_get items k) (Q k)) (sym c.new-slots.ensures.items) (none_each Q),
      λ k is. absurd (omega (arith, is, ap (λ n. bit_at n k) c.none-optional.ensures, bit_at-zero k)),
      subst (λ items. (k : ℕ) → IfSome (slice_get items k) IsFresh) (sym c.new-slots.ensures.items) (none_each (λ k. IsFresh)),
      subst (λ items. (k : ℕ) → IfSome (slice_get items k) (λ slot. slice_get names k ≡ Some slot.key)) (sym c.new-slots.ensures.items) (none_each (λ k (slot : RowSlot). slice_get names k ≡ Some slot.key)),
      λ k less. absurd (omega (arith, less)),
    )

pub loop-index-preserved : goal.loop-index-preserved
loop-index-preserved c =
    let l = c.loop-index in
    let schema = c.args.schema.now in
    let steps = c.args.plan.now.expansion in
    let plans = c.args.plan.now.plans.items in
    let of = c.index-of.result.now in
    let ps = properties_at schema of.type_id in
    let names = map (λ p. p.name) ps in
    let one = c.index-one.result.now in
    let slot = c.in-Some.slot in
    let name = c.slot_name-name.result.now in
    let Q : (ℕ → RowSlot → Type 0) = λ k s. IfSome (slice_get of.slots.items k) (λ p. IsRowSlot schema steps plans k p s) in
    let at_of : slice_get plans c.args.place ≡ Some of = slice_get_read plans (length plans) c.args.place of refl c.requires.place c.index-of.ensures in
    let is : IsPlan schema steps of = each_at (λ _. IsPlan schema steps) plans c.args.place of c.requires.plans at_of in
    let at : slice_get of.slots.items l.index ≡ Some one = slice_get_read of.slots.items (length of.slots.items) l.index one refl (omega arith) c.index-one.ensures in
    let planned = slot_planned schema steps of l.index one is at in
    let row : IsRowSlot schema steps plans l.index one slot =
    row_slot_of schema steps plans one slot name l.index of.type_id of.node planned c.in-Some.ensures.made (subst (λ ps. HasRecord ps one) c.as_slice.ensures.value (c.has_record.ensures c.if-not-has_record.false)) in
    let here : Q (length l.slots.items) slot =
    subst (λ n. Q n slot) (sym l.invariant.0) (subst (λ o. IfSome o (λ p. IsRowSlot schema steps plans l.index p slot)) (sym at) row) in
    let N : (ℕ → RowSlot → Type 0) = λ k s. slice_get names k ≡ Some s.key in
    let called : N (length l.slots.items) slot = subst (λ k. N k slot) (sym l.invariant.0) (c.slot_name-name.ensures ∙ ap Some (sym c.in-Some.ensures.made.named)) in
    let May : (ℕ → Type 0) = λ k. IfSome (slice_get ps k) (MayBeAbsent (slots_at schema steps of.node)) in
    let optional : ((k : ℕ) → bit_at (bits_of c.if-may_be_absent.optional.words) k ≡ 1 → May k) = elim c.if-may_be_absent.branch [
      | then-may_be_absent w ↦
          subst (λ n. (k : ℕ) → bit_at n k ≡ 1 → May k) (sym (ap (λ s. bits_of s.words) w.optional-is ∙ w.mark-then-may_be_absent.ensures ∙ ap (λ (i : ℕ). bit_or (bits_of l.optional.words) (2 ^ i)) row.index_is))
          (optional_more May (bits_of l.optional.words) l.index l.invariant.2
          (slot_seen schema steps of l.index one None (val_of Null) planned (c.may_be_absent.ensures schema (slots_at schema steps one.node) planned.leads w.if-may_be_absent.true)))
      | else-may_be_absent w ↦ subst (λ n. (k : ℕ) → bit_at n k ≡ 1 → May k) (sym (ap (λ s. bits_of s.words) w.optional-is)) l.invariant.2
    ] in
    let pushed : c.push.new.self.items ≡ l.slots.items ++ slot ∷ [] = grind (arith, common_steps) in (
      ap length pushed ∙ long_push l.slots.items slot ∙ omega (arith, l.invariant.0),
      subst (λ items. (k : ℕ) → IfSome (slice_get items k) (Q k)) (sym pushed) (each_push Q l.slots.items slot l.invariant.1 here),
      optional,
      subst (λ items. (k : ℕ) → IfSome (slice_get items k) IsFresh) (sym pushed) (each_push (λ k. IsFresh) l.slots.items slot l.invariant.3 c.in-Some.ensures.fresh),
      subst (λ items. (k : ℕ) → IfSome (slice_get items k) (N k)) (sym pushed) (each_push N l.slots.items slot l.invariant.4 called),
      subst (λ n. (k : ℕ) → k < l.index + 1 → bit_at n k ≡ 1) (sym (c.mark.ensures ∙ ap (λ (i : ℕ). bit_or (bits_of l.all.words) (2 ^ i)) row.index_is)) (all_more (bits_of l.all.words) l.index l.invariant.5),
    )

pub returns-clause-planned : goal.returns-clause-planned
returns-clause-planned c =
    let l = c.loop-index in
    let schema = c.args.schema.now in
    let steps = c.args.plan.now.expansion in
    let plans = c.args.plan.now.plans.items in
    let of = c.index-of.result.now in
    let at_of : slice_get plans c.args.place ≡ Some of = slice_get_read plans (length plans) c.args.place of refl c.requires.place c.index-of.ensures in
    let is : IsPlan schema steps of = each_at (λ _. IsPlan schema steps) plans c.args.place of c.requires.plans at_of in
    let all_long : length l.slots.items ≡ length of.slots.items = omega (arith, l.invariant.0) in
    let type : RowType = record {
      type_id = of.type_id;
      node = of.node;
      slots = l.slots;
      all = l.all;
      optional = l.optional;
      all_few = false;
      order = c.args.order;
    } in
    subst (λ o. IfSome o (λ p. IsRowType schema steps plans p type)) (sym at_of) (record {
      is_plan = is;
      of_type = (refl, refl);
      count = all_long;
      few = omega (arith, all_long);
      order = c.requires.order;
      each = l.invariant.1;
      named = l.invariant.4;
      all = λ k inside. l.invariant.5 k (omega (arith, inside, l.invariant.0));
      few_each = λ e. absurd (true≢false (sym e));
      optional = l.invariant.2;
    })

pub returns-clause-fresh : goal.returns-clause-fresh
returns-clause-fresh c = c.loop-index.invariant.3
