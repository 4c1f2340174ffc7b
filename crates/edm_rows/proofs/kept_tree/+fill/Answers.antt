use Rattle.std.proofs.Common.{◌≡◌, inl, inr, ◌+◌, ◌-◌, ◌<◌, ◌≤◌, ℕ, length, get_or, slice_get, slice_set, drop, Some, Ok, IfSome, refl, sym, ap, ◌∙◌, subst, rules, arith}
use Rattle.std.proofs.lemmas.Option.{slice_get_read}
use Rattle.csdl_schema.specs.ExprType.{primitive}
use Rattle.std.proofs.lemmas.List.{length-set, take_at}
use Rattle.edm_values.specs.declared.primitive.PrimitiveType.TheVariants as prim
use Rattle.json_room.proofs.RoomLemmas.{other_default, within_byte}
use Rattle.edm_values.specs.declared.value.Value.{List as ListOf, Record as RecordOf}
use Rattle.edm_rows.specs.declared.members.After.{After}
use Rattle.edm_rows.specs.declared.row_types.RowType.{RowType}
use Rattle.edm_rows.specs.declared.row_types.Task.TheVariants as task
use Rattle.edm_rows.specs.private.Filled.{FilledRead, FilledUpTo, FillsItems, FillsMembers, FillsSlot, FillsSlots, FillsValue, IsAmongTypes}
use Rattle.edm_rows.specs.private.Held.{IsSingle}
use Rattle.edm_rows.specs.private.Members.{EndsMember}
use Rattle.edm_rows.specs.private.RowSlots.{HasPrimitive, IsTypeOf, kinds_of}
use Rattle.edm_rows.specs.private.Contexts.{FindsMember, PassesValue, slots_behind_node}
use Rattle.edm_rows.specs.private.KeptRows.{names_passed}
use Rattle.edm_rows.proofs.FilledMembers.{brace_conforms, empty_conforms, filled_brace, filled_comma, filled_empty, filled_none, filled_other}
use Rattle.edm_rows.proofs.FilledSteps.{no_slot_in, slot_bounds, slot_filled_read, slot_found_in}
use Rattle.edm_rows.proofs.FilledValues.{filled_behind, leaf_filled, list_bracket, list_comma, list_filled, list_start, no_list, none_alone, one_alone, put_leaf, record_filled}
use Rattle.edm_rows.proofs.NextMembers.{as_many}
use Rattle.edm_rows.proofs.ContextLemmas.{room_of, type_there}
use Rattle.edm_rows.proofs.UnseenNull.{type_marks}
use Rattle.edm_rows.proofs.Values.{items_single, primitive_as, record_slot, some_by}
use Rattle.edm_rows.proofs.kept_tree.+fill.Goals as goal

-- ---- values that are seen at once

pub fill_value-returns-in-None-clause-filled : goal.fill_value-returns-in-None-clause-filled
fill_value-returns-in-None-clause-filled g t c =
    subst (λ n. IfSome c.fill_other.result (FillsValue c.args.context.now c.args.slot.now c.args.task n c.fill_other.new.value c.args.place)) c.fill_sure.ensures.depth c.fill_other.ensures.filled

pub fill_sure-take_digits-requires : goal.fill_sure-take_digits-requires
fill_sure-take_digits-requires g t c =
    let has : HasPrimitive c.args.slot.now.prim c.args.slot.now.sure task.Number = primitive_as c.args.context.now.plan.now.plans.items c.args.slot.now c.args.task task.Number c.requires.slot c.requires.task c.in-Number.is (λ e. absurd (cc)) in
    search rules

pub fill_sure-returns-in-Number-clause-filled : goal.fill_sure-returns-in-Number-clause-filled
fill_sure-returns-in-Number-clause-filled g t c =
    let context = c.args.context.now in
    let slot = c.args.slot.now in
    let line = context.line in
    let puts = put_leaf line (primitive slot.prim) slot.sieve c.args.value.now c.take_digits.new.value c.args.place c.take_digits.result c.put_end.result c.put_end.ensures c.take_digits.ensures in
    leaf_filled (slots_behind_node context slot.node) (names_passed context) (kinds_of context.schema.now context.plan.now.plans.items slot) slot.is_nullable slot.item c.args.cache.now.depth line c.args.place c.take_digits.new.value c.args.task task.Number slot.prim c.put_end.result c.in-Number.is
    ((λ e. absurd (cc)), (λ e. absurd (cc))) refl puts

pub fill_sure-returns-in-Truth-clause-filled : goal.fill_sure-returns-in-Truth-clause-filled
fill_sure-returns-in-Truth-clause-filled g t c =
    let context = c.args.context.now in
    let slot = c.args.slot.now in
    let line = context.line in
    let puts = put_leaf line (primitive prim.Bool) slot.sieve c.args.value.now c.take_truth.new.value c.args.place c.take_truth.result c.put_end-in-Truth.result c.put_end-in-Truth.ensures c.take_truth.ensures in
    leaf_filled (slots_behind_node context slot.node) (names_passed context) (kinds_of context.schema.now context.plan.now.plans.items slot) slot.is_nullable slot.item c.args.cache.now.depth line c.args.place c.take_truth.new.value c.args.task task.Truth prim.Bool c.put_end-in-Truth.result c.in-Truth.is
    ((λ e. absurd (cc)), (λ e. absurd (cc))) refl puts

pub fill_sure-returns-in-Text-clause-filled : goal.fill_sure-returns-in-Text-clause-filled
fill_sure-returns-in-Text-clause-filled g t c =
    let context = c.args.context.now in
    let slot = c.args.slot.now in
    let line = context.line in
    let puts = put_leaf line (primitive prim.String) slot.sieve c.args.value.now c.take_text.new.value c.args.place c.take_text.result c.put_end-in-Text.result c.put_end-in-Text.ensures c.take_text.ensures in
    leaf_filled (slots_behind_node context slot.node) (names_passed context) (kinds_of context.schema.now context.plan.now.plans.items slot) slot.is_nullable slot.item c.args.cache.now.depth line c.args.place c.take_text.new.value c.args.task task.Text prim.String c.put_end-in-Text.result c.in-Text.is
    ((λ e. absurd (cc)), (λ e. absurd (cc))) refl puts

pub fill_sure-fill_record-requires : goal.fill_sure-fill_record-requires
fill_sure-fill_record-requires g t c =
    let item : c.args.slot.now.item ≡ task.Record = record_slot c.args.slot.now c.args.task c.requires.task c.in-Record.is in
    search rules

pub fill_sure-returns-in-Record-clause-filled : goal.fill_sure-returns-in-Record-clause-filled
fill_sure-returns-in-Record-clause-filled g t c =
    subst (λ k. IfSome c.fill_record.result (FillsValue c.args.context.now c.args.slot.now k c.args.cache.now.depth c.fill_record.new.value c.args.place)) (sym c.in-Record.is) c.fill_record.ensures.filled

pub fill_sure-fill_list-requires : goal.fill_sure-fill_list-requires
fill_sure-fill_list-requires g t c =
    let item : IsSingle c.args.slot.now.item = items_single c.args.slot.now c.args.task c.requires.task c.in-Items.is in
    search rules

pub fill_sure-returns-in-Items-clause-filled : goal.fill_sure-returns-in-Items-clause-filled
fill_sure-returns-in-Items-clause-filled g t c =
    subst (λ k. IfSome c.fill_list.result (FillsValue c.args.context.now c.args.slot.now k c.args.cache.now.depth c.fill_list.new.value c.args.place)) (sym c.in-Items.is) c.fill_list.ensures.filled

-- ---- white space

pub fill_other-returns-then-place-from-clause-filled : goal.fill_other-returns-then-place-from-clause-filled
fill_other-returns-then-place-from-clause-filled g t c =
    let context = c.args.context.now in
    let slot = c.args.slot.now in
    let depth = c.args.cache.now.depth in
    let place = c.past_blanks-place.result in
    some_by c.fill_seldom.result (FillsValue context slot c.args.task depth c.fill_seldom.new.value place) (FillsValue context slot c.args.task depth c.fill_seldom.new.value c.args.from)
    (λ to value. filled_behind context slot c.args.task depth c.fill_seldom.new.value c.args.from place to c.past_blanks-place.ensures value) c.fill_seldom.ensures.filled

pub fill_other-returns-in-Some-clause-filled : goal.fill_other-returns-in-Some-clause-filled
fill_other-returns-in-Some-clause-filled g t c =
    filled_behind c.args.context.now c.args.slot.now c.args.task c.args.cache.now.depth c.fill_sure.new.value c.args.from c.past_blanks-place.result c.in-Some.end c.past_blanks-place.ensures c.in-Some.ensures.filled

pub fill_other-returns-in-None-clause-filled : goal.fill_other-returns-in-None-clause-filled
fill_other-returns-in-None-clause-filled g t c =
    let context = c.args.context.now in
    let slot = c.args.slot.now in
    let depth = c.args.cache.now.depth in
    let place = c.past_blanks-place.result in
    let v = c.fill_seldom-in-None.new.value in
    some_by c.fill_seldom-in-None.result (FillsValue context slot c.args.task depth v place) (FillsValue context slot c.args.task depth v c.args.from)
    (λ to value. filled_behind context slot c.args.task depth v c.args.from place to c.past_blanks-place.ensures value)
    (subst (λ n. IfSome c.fill_seldom-in-None.result (FillsValue context slot c.args.task n v place)) c.fill_sure.ensures.depth c.fill_seldom-in-None.ensures.filled)

-- ---- objects

pub fill_record-fill_members-end-requires : goal.fill_record-fill_members-end-requires
fill_record-fill_members-end-requires g t c =
    let context = c.args.context.now in
    let slot = c.args.slot.now in
    let type : RowType = get_or context.types.now slot.record c.index-context-slot.result in
    let at : slice_get context.types.now slot.record ≡ Some type =
    slice_get_read context.types.now (length context.types.now) slot.record c.index-context-slot.result refl (omega (arith, c.requires.context.0.count, (c.requires.slot.leads c.requires.item).within)) c.index-context-slot.is
    ∙ ap Some c.index-context-slot.is in
    let there = type_there context.schema.now context.plan.now.expansion context.plan.now.plans.items context.types.now slot type c.requires.context.0 (c.requires.slot.leads c.requires.item) at in
    let plan : IsTypeOf context.schema.now context.plan.now.expansion context.plan.now.plans.items type = (there.plan, there.is) in
    let here = sym c.byte.ensures.here ∙ c.if-byte-ne123.false in
    let within : c.args.place + 1 ≤ length context.line = omega (arith, within_byte context.line c.args.place 123 here (λ e. omega arith)) in
    let room = room_of context g.M.SeenSlots.most slot.record type c.requires.rooms at in
    let among : IsAmongTypes context type = (slot.record, at) in
    search rules

pub fill_record-returns-in-Ok-Some-clause-filled : goal.fill_record-returns-in-Ok-Some-clause-filled
fill_record-returns-in-Ok-Some-clause-filled g t c =
    let context = c.args.context.now in
    let slot = c.args.slot.now in
    let type : RowType = get_or context.types.now slot.record c.index-context-slot.result in
    let d = context.line in
    let i = c.args.place in
    let depth = c.args.cache.now.depth in
    let at : slice_get context.types.now slot.record ≡ Some type =
    slice_get_read context.types.now (length context.types.now) slot.record c.index-context-slot.result refl (omega (arith, c.requires.context.0.count, (c.requires.slot.leads c.requires.item).within)) c.index-context-slot.is
    ∙ ap Some c.index-context-slot.is in
    let there = type_there context.schema.now context.plan.now.expansion context.plan.now.plans.items context.types.now slot type c.requires.context.0 (c.requires.slot.leads c.requires.item) at in
    let here = sym c.byte.ensures.here ∙ c.if-byte-ne123.false in
    let values = c.fill_members-end.new.values in
    let few = rw c.in-Ok-Some.field-0-is at c.in-Ok-Some.ensures.few in
    let value = c.put_few.new.value in
    some_by c.fill_members-end.result (FillsMembers context type (depth - 1) values.items (i + 1)) (FillsValue context slot task.Record depth value i)
    (λ to members. record_filled context slot type there values value (inr (c.in-Ok-Some.held, c.put_few.ensures, few)) depth i to (omega arith) (within_byte d i 123 here (λ e. omega arith)) (other_default d i 123 here (λ e. omega arith)) members) c.fill_members-end.ensures.filled

pub fill_record-returns-in-Ok-None-clause-filled : goal.fill_record-returns-in-Ok-None-clause-filled
fill_record-returns-in-Ok-None-clause-filled g t c =
    let context = c.args.context.now in
    let slot = c.args.slot.now in
    let type : RowType = get_or context.types.now slot.record c.index-context-slot.result in
    let d = context.line in
    let i = c.args.place in
    let depth = c.args.cache.now.depth in
    let at : slice_get context.types.now slot.record ≡ Some type =
    slice_get_read context.types.now (length context.types.now) slot.record c.index-context-slot.result refl (omega (arith, c.requires.context.0.count, (c.requires.slot.leads c.requires.item).within)) c.index-context-slot.is
    ∙ ap Some c.index-context-slot.is in
    let there = type_there context.schema.now context.plan.now.expansion context.plan.now.plans.items context.types.now slot type c.requires.context.0 (c.requires.slot.leads c.requires.item) at in
    let here = sym c.byte.ensures.here ∙ c.if-byte-ne123.false in
    let values = c.fill_members-end.new.values in
    let now = c.take_few.new.values in
    let same : now ≡ values = c.in-Ok-None.ensures.many (ap Ok c.in-Ok-None.field-0-is) in
    some_by c.fill_members-end.result (FillsMembers context type (depth - 1) values.items (i + 1)) (FillsValue context slot task.Record depth (RecordOf now) i)
    (λ to members. record_filled context slot type there values (RecordOf now) (inl (ap RecordOf same)) depth i to (omega arith) (within_byte d i 123 here (λ e. omega arith)) (other_default d i 123 here (λ e. omega arith)) members) c.fill_members-end.ensures.filled

-- ---- arrays

pub fill_list-fill_items-end-requires : goal.fill_list-fill_items-end-requires
fill_list-fill_items-end-requires g t c =
    let here = sym c.byte.ensures.here ∙ c.if-byte-ne91.false in
    let within : c.args.place + 1 ≤ length c.args.context.now.line = omega (arith, within_byte c.args.context.now.line c.args.place 91 here (λ e. omega arith)) in
    search rules

pub fill_list-returns-clause-filled : goal.fill_list-returns-clause-filled
fill_list-returns-clause-filled g t c =
    let context = c.args.context.now in
    let slot = c.args.slot.now in
    let d = context.line in
    let i = c.args.place in
    let depth = c.args.cache.now.depth in
    let here = sym c.byte.ensures.here ∙ c.if-byte-ne91.false in
    let items = c.fill_items-end.new.items in
    some_by c.fill_items-end.result (FillsItems context slot (depth - 1) items.items (i + 1)) (FillsValue context slot task.Items depth (ListOf items) i)
    (λ to read. list_filled context slot items depth i to (omega arith) (within_byte d i 91 here (λ e. omega arith)) (other_default d i 91 here (λ e. omega arith)) read) c.fill_items-end.ensures.filled

-- ---- items

pub fill_items-returns-then-byte-eq93-clause-filled : goal.fill_items-returns-then-byte-eq93-clause-filled
fill_items-returns-then-byte-eq93-clause-filled g t c =
    let context = c.args.context.now in
    let slot = c.args.slot.now in
    let place = c.past_blanks-place.result in
    let here = sym c.byte.ensures.here ∙ c.if-byte-eq93.true in
    subst (λ vs. FillsItems context slot c.args.cache.now.depth vs c.args.from (place + 1)) (sym c.cut.ensures)
    (no_list context slot c.args.cache.now.depth c.args.from place c.args.items.now.items (within_byte context.line place 93 here (λ e. omega arith)) (other_default context.line place 93 here (λ e. omega arith)) c.past_blanks-place.ensures)

pub fill_items-items-init : goal.fill_items-items-init
fill_items-items-init g t c = (
  refl,
  list_start c.args.context.now c.args.slot.now c.args.cache.now.depth c.args.from c.past_blanks-place.result c.args.items.now.items c.past_blanks-place.ensures,
  omega arith,
  none_alone c.args.context.now c.args.slot.now c.args.items.now.items,
)

pub fill_items-items-preserved : goal.fill_items-items-preserved
fill_items-items-preserved g t c =
    let l = c.items in
    let context = c.args.context.now in
    let slot = c.args.slot.now in
    let d = context.line in
    let depth = c.args.cache.now.depth in
    let held = c.has_item.new.items.items in
    let v = c.fill_value.new.value in
    let within : l.count < length held = c.has_item.ensures.room c.if-not-has_item.false in
    let comma = c.past_blanks-place-in-items.result in
    let here = sym c.byte-in-items.ensures.here ∙ c.in-44.is in (
      c.fill_value.ensures.depth ∙ l.invariant.0,
      list_comma context slot c.requires.single depth c.args.from l.place c.in-Some.end l.items.items held l.count v c.has_item.ensures.kept within comma c.past_blanks-place-in-44.result l.invariant.1
          (subst (λ n. FillsValue context slot slot.item n v l.place c.in-Some.end) l.invariant.0 c.in-Some.ensures.filled) c.past_blanks-place-in-items.ensures
          (within_byte d comma 44 here (λ e. omega arith)) (other_default d comma 44 here (λ e. omega arith)) c.past_blanks-place-in-44.ensures,
      omega (arith, length-set held l.count v, within),
      one_alone context slot c.requires.single depth c.args.from l.place c.in-Some.end l.items.items held l.count v c.has_item.ensures.kept within l.invariant.3
          (subst (λ n. FillsValue context slot slot.item n v l.place c.in-Some.end) l.invariant.0 c.in-Some.ensures.filled),
    )

pub fill_items-returns-in-93-clause-filled : goal.fill_items-returns-in-93-clause-filled
fill_items-returns-in-93-clause-filled g t c =
    let l = c.items in
    let context = c.args.context.now in
    let slot = c.args.slot.now in
    let d = context.line in
    let depth = c.args.cache.now.depth in
    let held = c.has_item.new.items.items in
    let v = c.fill_value.new.value in
    let within : l.count < length held = c.has_item.ensures.room c.if-not-has_item.false in
    let bracket = c.past_blanks-place-in-items.result in
    let here = sym c.byte-in-items.ensures.here ∙ c.in-93.is in
    subst (λ vs. FillsItems context slot depth vs c.args.from (bracket + 1)) (sym c.cut-in-93.ensures)
    (list_bracket context slot c.requires.single depth c.args.from l.place c.in-Some.end l.items.items held l.count v c.has_item.ensures.kept within bracket l.invariant.1 l.invariant.3
    (subst (λ n. FillsValue context slot slot.item n v l.place c.in-Some.end) l.invariant.0 c.in-Some.ensures.filled) c.past_blanks-place-in-items.ensures
    (within_byte d bracket 93 here (λ e. omega arith)) (other_default d bracket 93 here (λ e. omega arith)))

-- ---- members

pub fill_found-returns-in_default-clause-filled : goal.fill_found-returns-in_default-clause-filled
fill_found-returns-in_default-clause-filled g t c from so_far _ =
    let a = c.args in
    filled_other a.context.now a.plan.now a.cache.now.depth from a.so_far.now.place a.found.place (g.M.SeenSlots.bits a.so_far.now.seen) a.values.now.items so_far (no_slot_in a.context.now a.plan.now a.cache.now.depth a.so_far.now.place a.found c.in_default.is c.requires.found)

pub fill_found-fill_slot-requires : goal.fill_found-fill_slot-requires
fill_found-fill_slot-requires g t c =
    let a = c.args in
    let f = slot_found_in a.context.now c.requires.plan.0 a.plan.now a.cache.now.depth a.so_far.now.place a.found c.in-Some.slot c.in-Some.is c.requires.plan.1 c.requires.found in
    let agrees = f.agrees in
    let of_task = f.task in
    let within = f.names.bounds.1 in
    search rules

pub fill_found-index_mut-requires : goal.fill_found-index_mut-requires
fill_found-index_mut-requires g t c =
    let a = c.args in
    let f = slot_found_in a.context.now c.requires.plan.0 a.plan.now a.cache.now.depth a.so_far.now.place a.found c.in-Some.slot c.in-Some.is c.requires.plan.1 c.requires.found in
    omega (arith, f.within, c.requires.long, as_many a.context.now.schema.now a.context.now.plan.now.expansion a.context.now.plan.now.plans.items c.requires.plan.0 a.plan.now c.requires.plan.1)

pub fill_found-read_slot-requires : goal.fill_found-read_slot-requires
fill_found-read_slot-requires g t c =
    let a = c.args in
    let f = slot_found_in a.context.now c.requires.plan.0 a.plan.now a.cache.now.depth a.so_far.now.place a.found c.in-Some.slot c.in-Some.is c.requires.plan.1 c.requires.found in
    let mark = f.mark g.M.SeenSlots.most c.requires.room in
    search rules

pub fill_found-returns-in-Some-fill_slot-clause-filled : goal.fill_found-returns-in-Some-fill_slot-clause-filled
fill_found-returns-in-Some-fill_slot-clause-filled g t c from so_far _ =
    let a = c.args in
    let f = slot_found_in a.context.now c.requires.plan.0 a.plan.now a.cache.now.depth a.so_far.now.place a.found c.in-Some.slot c.in-Some.is c.requires.plan.1 c.requires.found in
    let new = c.read_slot.new.self in
    let put = slice_set a.values.now.items c.in-Some.slot.now.index c.fill_slot.new.value in
    subst (λ (k : ℕ). FilledRead a.context.now a.plan.now a.cache.now.depth from k (g.M.SeenSlots.bits new.seen) put) (sym c.read_slot.ensures.place)
    (subst (λ (k : ℕ). FilledRead a.context.now a.plan.now a.cache.now.depth from c.in-Some-fill_slot.end k put) (sym c.read_slot.ensures.seen)
    (slot_filled_read a.context.now c.requires.plan.0 a.plan.now a.cache.now.depth from a.so_far.now.place a.found.place c.in-Some-fill_slot.end (g.M.SeenSlots.bits a.so_far.now.seen) c.in-Some.slot.now a.values.now.items c.fill_slot.new.value c.requires.plan.1 c.requires.among f so_far c.in-Some-fill_slot.ensures.filled))

pub fill_found-returns-in-Some-fill_slot-clause-further : goal.fill_found-returns-in-Some-fill_slot-clause-further
fill_found-returns-in-Some-fill_slot-clause-further g t c _ =
    let a = c.args in
    let f = slot_found_in a.context.now c.requires.plan.0 a.plan.now a.cache.now.depth a.so_far.now.place a.found c.in-Some.slot c.in-Some.is c.requires.plan.1 c.requires.found in
    let further = slot_bounds a.context.now c.in-Some.slot.now a.cache.now.depth c.fill_slot.new.value a.found.place c.in-Some-fill_slot.end c.in-Some-fill_slot.ensures.filled in
    (omega (arith, f.names.bounds.0, further, c.read_slot.ensures.place), subst (λ (k : ℕ). k < 1024) (sym c.read_slot.ensures.order) f.order)

pub fill_slot-returns-in-Some-clause-filled : goal.fill_slot-returns-in-Some-clause-filled
fill_slot-returns-in-Some-clause-filled g t c =
    let context = c.args.context.now in
    let slot = c.args.slot.now in
    let v = c.put_filler.new.value in
    let takes = c.in-Some.ensures in
    some_by c.value_end.result (PassesValue context slot slot.task c.args.cache.now.depth c.args.place) (FillsSlot context slot c.args.cache.now.depth v c.args.place)
    (λ to passes. (inr (takes.0, passes), takes.1 v c.put_filler.ensures (slots_behind_node context slot.node) (kinds_of context.schema.now context.plan.now.plans.items slot))) c.value_end.ensures.passed

pub fill_slot-returns-in-None-clause-filled : goal.fill_slot-returns-in-None-clause-filled
fill_slot-returns-in-None-clause-filled g t c =
    let context = c.args.context.now in
    let slot = c.args.slot.now in
    let v = c.fill_value.new.value in
    some_by c.fill_value.result (FillsValue context slot slot.task c.args.cache.now.depth v c.args.place) (FillsSlot context slot c.args.cache.now.depth v c.args.place)
    (λ to fills. (inl fills.0, fills.1)) c.fill_value.ensures.filled

pub fill_members-members-init : goal.fill_members-members-init
fill_members-members-init g t c =
    let context = c.args.context.now in
    let type = c.args.plan.now in
    let fitted = c.fit_count.ensures c.if-not-fit_count.false in
    let long : length c.fit_count.new.values.items ≡ length c.args.plan.now.slots.items = omega (arith, fitted) in (
      refl,
      c.requires.plan.1.order,
      subst (λ k. FilledUpTo context type c.args.cache.now.depth c.args.from c.past_blanks-first.result k c.fit_count.new.values.items) (sym c.none.ensures)
          (filled_none context type c.args.cache.now.depth c.args.from c.past_blanks-first.result c.fit_count.new.values.items c.past_blanks-first.ensures (long ∙ as_many context.schema.now context.plan.now.expansion context.plan.now.plans.items c.requires.plan.0 type c.requires.plan.1)),
      long,
    )

pub fill_members-fill_found-requires : goal.fill_members-fill_found-requires
fill_members-fill_found-requires g t c =
    let l = c.members in
    let finds = subst (λ n. FindsMember c.args.context.now c.args.plan.now n l.so_far.place c.in-Some.found) (sym c.next_member.ensures.depth) c.in-Some.ensures.found in
    let order = l.invariant.1 in
    let long = l.invariant.3 in
    search rules

pub fill_members-members-preserved : goal.fill_members-members-preserved
fill_members-members-preserved g t c =
    let l = c.members in
    let context = c.args.context.now in
    let type = c.args.plan.now in
    let depth = c.args.cache.now.depth in
    let read = c.fill_found.new.so_far in
    let values = c.fill_found.new.values.items in
    let now = c.next_member.ensures.depth ∙ l.invariant.0 in
    let up_to = subst (λ n. FilledUpTo context type n c.args.from l.so_far.place (g.M.SeenSlots.bits l.so_far.seen) l.values.items) (sym now) l.invariant.2 in
    let read_to = subst (λ n. FilledRead context type n c.args.from read.place (g.M.SeenSlots.bits read.seen) values) now (c.fill_found.ensures.filled c.args.from up_to c.if-not-fill_found.false) in
    let ends : EndsMember context.line read.place (After.Comma c.in-Some-Comma.next) = subst (EndsMember context.line read.place) c.in-Some-Comma.field-0-is c.in-Some-Comma.ensures in (
      c.fill_found.ensures.depth ∙ now,
      (c.fill_found.ensures.further c.if-not-fill_found.false).1,
      filled_comma context type depth c.args.from read.place c.in-Some-Comma.next (g.M.SeenSlots.bits read.seen) values read_to ends,
      c.fill_found.ensures.long ∙ l.invariant.3,
    )

pub fill_members-members-smaller : goal.fill_members-members-smaller
fill_members-members-smaller g t c =
    let read = c.fill_found.new.so_far in
    let ends : EndsMember c.args.context.now.line read.place (After.Comma c.in-Some-Comma.next) = subst (EndsMember c.args.context.now.line read.place) c.in-Some-Comma.field-0-is c.in-Some-Comma.ensures in
    omega (arith, (c.fill_found.ensures.further c.if-not-fill_found.false).0, ends.0, ends.1)

pub fill_members-returns-then-ends_object-clause-filled : goal.fill_members-returns-then-ends_object-clause-filled
fill_members-returns-then-ends_object-clause-filled g t c =
    let context = c.args.context.now in
    let type = c.args.plan.now in
    let d = context.line in
    let brace = c.past_blanks-first.result in
    let here = sym c.byte.ensures.here ∙ c.if-byte-eq125.true in
    let within = within_byte d brace 125 here (λ e. omega arith) in
    let count = as_many context.schema.now context.plan.now.expansion context.plan.now.plans.items c.requires.plan.0 type c.requires.plan.1 in
    let fitted = c.fit_count.ensures c.if-not-fit_count.false in
    let long : length c.fit_count.new.values.items ≡ length c.args.plan.now.slots.items = omega (arith, fitted) in
    let old = c.fit_count.new.values in
    let new = c.ends_object.new.values in
    let back = c.as_mut_slice.ensures in
    let fills = subst (λ k. FillsSlots type k old.items new) c.none.ensures (subst (λ vs. FillsSlots type (g.M.SeenSlots.bits c.none.result) vs new) back.value (c.ends_object.ensures.fills c.if-ends_object.true)) in
    let as_long : length new ≡ old.len = fills.long ∙ sym (ap length back.value) ∙ back.len in
    subst (λ vs. FillsMembers context type c.args.cache.now.depth vs c.args.from (brace + 1)) (sym (take_at new (drop (length new) old.items) old.len as_long)) (
      (omega (arith, c.past_blanks-first.ensures.bounds.0), omega (arith, within)),
      filled_empty context type c.args.cache.now.depth c.requires.plan.1.optional count 0 old.items new fills (long ∙ count) refl c.args.from brace c.past_blanks-first.ensures within (other_default d brace 125 here (λ e. omega arith)),
      empty_conforms context type c.args.cache.now.depth c.requires.plan.1.optional count 0 old.items new fills (long ∙ count) refl,
    )

pub fill_members-returns-then-ends_object-2-clause-filled : goal.fill_members-returns-then-ends_object-2-clause-filled
fill_members-returns-then-ends_object-2-clause-filled g t c =
    let l = c.members in
    let context = c.args.context.now in
    let type = c.args.plan.now in
    let depth = c.args.cache.now.depth in
    let read = c.fill_found.new.so_far in
    let old = c.fill_found.new.values in
    let new = c.ends_object-in-Some-Brace.new.values in
    let back = c.as_mut_slice-in-Some-Brace.ensures in
    let count = as_many context.schema.now context.plan.now.expansion context.plan.now.plans.items c.requires.plan.0 type c.requires.plan.1 in
    let now = c.next_member.ensures.depth ∙ l.invariant.0 in
    let up_to = subst (λ n. FilledUpTo context type n c.args.from l.so_far.place (g.M.SeenSlots.bits l.so_far.seen) l.values.items) (sym now) l.invariant.2 in
    let read_to = subst (λ n. FilledRead context type n c.args.from read.place (g.M.SeenSlots.bits read.seen) old.items) now (c.fill_found.ensures.filled c.args.from up_to c.if-not-fill_found.false) in
    let ends : EndsMember context.line read.place (After.Brace c.in-Some-Brace.next) = subst (EndsMember context.line read.place) c.in-Some-Brace.field-0-is c.in-Some-Brace.ensures in
    let fills = subst (λ vs. FillsSlots type (g.M.SeenSlots.bits read.seen) vs new) back.value (c.ends_object-in-Some-Brace.ensures.fills c.if-ends_object-2.true) in
    let as_long : length new ≡ old.len = fills.long ∙ sym (ap length back.value) ∙ back.len in
    subst (λ vs. FillsMembers context type depth vs c.args.from c.in-Some-Brace.next) (sym (take_at new (drop (length new) old.items) old.len as_long)) (
      (omega (arith, read_to.members.bounds.0, ends.0), ends.1),
      filled_brace context type depth c.requires.plan.1.optional count (g.M.SeenSlots.bits read.seen) old.items new fills (c.fill_found.ensures.long ∙ l.invariant.3 ∙ count) c.args.from read.place c.in-Some-Brace.next read_to ends,
      brace_conforms context type depth c.requires.plan.1.optional count (g.M.SeenSlots.bits read.seen) old.items new fills (c.fill_found.ensures.long ∙ l.invariant.3 ∙ count) c.args.from read.place read_to,
    )

pub fill_members-after_member-requires : goal.fill_members-after_member-requires
fill_members-after_member-requires g t c =
    let l = c.members in
    let now = c.next_member.ensures.depth ∙ l.invariant.0 in
    let up_to = subst (λ n. FilledUpTo c.args.context.now c.args.plan.now n c.args.from l.so_far.place (g.M.SeenSlots.bits l.so_far.seen) l.values.items) (sym now) l.invariant.2 in
    (c.fill_found.ensures.filled c.args.from up_to c.if-not-fill_found.false).members.bounds.1

pub fill_members-ends_object-requires : goal.fill_members-ends_object-requires
fill_members-ends_object-requires g t c =
    let context = c.args.context.now in
    let marks = type_marks context.schema.now context.plan.now.expansion context.plan.now.plans.items c.requires.plan.0 c.args.plan.now g.M.SeenSlots.most c.requires.plan.1 c.requires.room in
    let fitted = c.fit_count.ensures c.if-not-fit_count.false in
    let long : length c.fit_count.new.values.items ≡ length c.args.plan.now.slots.items = omega (arith, fitted) in
    search rules

pub fill_members-ends_object-requires-in-Some-Brace : goal.fill_members-ends_object-requires-in-Some-Brace
fill_members-ends_object-requires-in-Some-Brace g t c =
    let context = c.args.context.now in
    let marks = type_marks context.schema.now context.plan.now.expansion context.plan.now.plans.items c.requires.plan.0 c.args.plan.now g.M.SeenSlots.most c.requires.plan.1 c.requires.room in
    let long = c.fill_found.ensures.long ∙ c.members.invariant.3 in
    search rules
