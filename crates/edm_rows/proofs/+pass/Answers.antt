use Rattle.std.proofs.Common.{◌≡◌, ◌+◌, ◌-◌, ◌^◌, ◌<◌, ◌≤◌, ℕ, List, length, get_or, slice_get, Option, option_map, Bor, Some, IfSome, IsSome, refl, sym, ap, ◌∙◌, subst, rules, arith}
use Rattle.std.proofs.lemmas.Option.{slice_get_read}
use Rattle.std.specs.Prelude.{bit_or}
use Rattle.std.specs.Str.{IsUtf8}
use Rattle.json.specs.Token.{Token}
use Rattle.serde_json.specs.Read.{number_of}
use Rattle.csdl_schema.specs.ExprType.{enumeration, primitive, single}
use Rattle.csdl_schema.specs.SchemaModel.{slots_of}
use Rattle.enumeration_texts.specs.EnumerationTexts.{IsMemberTextAt}
use Rattle.json_room.proofs.LexemeLemmas.{stay}
use Rattle.json_room.specs.WholeNumbers.{IsWhole}
use Rattle.json_room.specs.private.Lexemes.{IsTextAt}
use Rattle.json_room.specs.Lexemes.{StandsTo}
use Rattle.json_room.proofs.RoomLemmas.{other_default, within_byte}
use Rattle.edm_values.specs.declared.primitive.PrimitiveType.TheVariants as prim
use Rattle.edm_rows.specs.private.Passed.{FitsSomeHowever}
use Rattle.edm_rows.specs.declared.members.After.{After}
use Rattle.edm_rows.specs.declared.row_types.RowSlot.{RowSlot}
use Rattle.edm_rows.specs.declared.row_types.RowType.{RowType}
use Rattle.edm_rows.specs.declared.row_types.Task.TheVariants as task
use Rattle.json_room.specs.ValueStands.{ValueStands}
use Rattle.edm_rows.specs.private.Held.{IsSingle}
use Rattle.edm_rows.specs.private.Members.{EndsMember}
use Rattle.edm_rows.specs.private.RowSlots.{HasPrimitive, IsTypeOf, kinds_of, name_at}
use Rattle.json_room.proofs.Places.{any_json, any_number, both_some, token_to}
use Rattle.edm_rows.specs.private.Contexts.{FindsSlot, PassesItems, PassesMembers, PassesValue, slots_behind_node}
use Rattle.edm_rows.proofs.ContextLemmas.{ContextUpTo, Joined, held_bracket, held_comma, held_start, items_held, joined_as, joined_other, joined_slot, no_items_held, mark_found, value_found, record_held, room_of, context_comma, context_empty, context_over, context_start, type_there, value_behind}
use Rattle.edm_rows.proofs.SeenBits.{unseen_optional}
use Rattle.edm_rows.proofs.Values.{date_to, digits_held, guid_to, items_single, known_held, moment_to, primitive_as, record_slot, some_by, task_held, text_held, truth_held}
use Rattle.edm_rows.proofs.+pass.Goals.{members::pass_members-in-Some-slot+in-Some-value_end, members::pass_members-in-None}
use Rattle.edm_rows.proofs.+pass.Goals as goal

-- ---- values that are seen at once

pub passed_value::sure_end-returns-in-Text-clause-passed : goal.passed_value::sure_end-returns-in-Text-clause-passed
passed_value::sure_end-returns-in-Text-clause-passed g t c =
    let context = c.args.context.now in
    let slot = c.args.slot.now in
    let slots = slots_behind_node context slot.node in
    let depth = c.args.cache.now.depth in
    let d = context.line in
    let i = c.args.place in
    task_held slots (kinds_of context.schema.now context.plan.now.plans.items slot) slot.is_nullable slot.item depth d i c.args.task task.Text (primitive prim.String) c.text_end.result c.in-Text.is (λ json fits. fits)
    (both_some c.text_end.result (λ to. i < to) (λ to. (s : List ℕ) × IsTextAt d i s to × IsUtf8 s) (λ to. ValueStands depth d i to (FitsSomeHowever slots (single (primitive prim.String))))
    (λ to further text. text_held slots depth d i to text.0 further text.1 text.2) c.text_end.ensures.further c.text_end.ensures.text)

pub passed_value::sure_end-returns-in-Number-clause-passed : goal.passed_value::sure_end-returns-in-Number-clause-passed
passed_value::sure_end-returns-in-Number-clause-passed g t c =
    let context = c.args.context.now in
    let slot = c.args.slot.now in
    let slots = slots_behind_node context slot.node in
    let depth = c.args.cache.now.depth in
    let d = context.line in
    let i = c.args.place in
    let has : HasPrimitive slot.prim slot.sure task.Number = primitive_as context.plan.now.plans.items slot c.args.task task.Number c.requires.slot c.requires.task c.in-Number.is (λ e. absurd (cc)) in
    task_held slots (kinds_of context.schema.now context.plan.now.plans.items slot) slot.is_nullable slot.item depth d i c.args.task task.Number (primitive slot.prim) c.digits_up_to.result c.in-Number.is (λ json fits. fits)
    (some_by c.digits_up_to.result (λ to. (s : List ℕ) × StandsTo d i (Token.number s) to × ((n : ℕ) × IsWhole s n × (n < 10 ^ slot.sure))) (λ to. ValueStands depth d i to (FitsSomeHowever slots (single (primitive slot.prim))))
    (λ to found. digits_held slots slot.prim depth d i to found.0 found.2.0 found.1 found.2.1 (has found.2.0 found.2.2)) c.digits_up_to.ensures)

pub passed_value::sure_end-returns-in-Some-clause-passed : goal.passed_value::sure_end-returns-in-Some-clause-passed
passed_value::sure_end-returns-in-Some-clause-passed g t c =
    let context = c.args.context.now in
    let slot = c.args.slot.now in
    let slots = slots_behind_node context slot.node in
    let depth = c.args.cache.now.depth in
    task_held slots (kinds_of context.schema.now context.plan.now.plans.items slot) slot.is_nullable slot.item depth context.line c.args.place c.args.task task.Truth (primitive prim.Bool) (Some c.in-Some.end) c.in-Truth.is
    (λ json fits. fits) (truth_held slots depth context.line c.args.place c.in-Some.end _ c.in-Some.ensures)

pub passed_value::sure_end-returns-in-Date-clause-passed : goal.passed_value::sure_end-returns-in-Date-clause-passed
passed_value::sure_end-returns-in-Date-clause-passed g t c =
    let context = c.args.context.now in
    let slot = c.args.slot.now in
    let slots = slots_behind_node context slot.node in
    task_held slots (kinds_of context.schema.now context.plan.now.plans.items slot) slot.is_nullable slot.item c.args.cache.now.depth context.line c.args.place c.args.task task.Date (primitive prim.Date) c.day_end.result c.in-Date.is
    (λ json fits. fits) (date_to slots c.args.cache.now.depth context.line c.args.place c.day_end.result c.day_end.ensures)

pub passed_value::sure_end-returns-in-Moment-clause-passed : goal.passed_value::sure_end-returns-in-Moment-clause-passed
passed_value::sure_end-returns-in-Moment-clause-passed g t c =
    let context = c.args.context.now in
    let slot = c.args.slot.now in
    let slots = slots_behind_node context slot.node in
    task_held slots (kinds_of context.schema.now context.plan.now.plans.items slot) slot.is_nullable slot.item c.args.cache.now.depth context.line c.args.place c.args.task task.Moment (primitive prim.DateTimeOffset) c.moment_end.result
    c.in-Moment.is (λ json fits. fits) (moment_to slots c.args.cache.now.depth context.line c.args.place c.moment_end.result c.moment_end.ensures)

pub passed_value::sure_end-returns-in-Guid-clause-passed : goal.passed_value::sure_end-returns-in-Guid-clause-passed
passed_value::sure_end-returns-in-Guid-clause-passed g t c =
    let context = c.args.context.now in
    let slot = c.args.slot.now in
    let slots = slots_behind_node context slot.node in
    task_held slots (kinds_of context.schema.now context.plan.now.plans.items slot) slot.is_nullable slot.item c.args.cache.now.depth context.line c.args.place c.args.task task.Guid (primitive prim.Guid) c.guid_end.result c.in-Guid.is
    (λ json fits. fits) (guid_to slots c.args.cache.now.depth context.line c.args.place c.guid_end.result c.guid_end.ensures)

pub passed_value::sure_end-returns-in-Member-clause-passed : goal.passed_value::sure_end-returns-in-Member-clause-passed
passed_value::sure_end-returns-in-Member-clause-passed g t c =
    let context = c.args.context.now in
    let schema = context.schema.now in
    let slot = c.args.slot.now in
    let slots = slots_behind_node context slot.node in
    task_held slots (kinds_of schema context.plan.now.plans.items slot) slot.is_nullable slot.item c.args.cache.now.depth context.line c.args.place c.args.task task.Member (enumeration (name_at schema slot.member_of)) c.text_end-in-Member.result
    c.in-Member.is (λ json fits. fits)
    (some_by c.text_end-in-Member.result (IsMemberTextAt schema slot.member_of context.line c.args.place) (λ to. ValueStands c.args.cache.now.depth context.line c.args.place to (FitsSomeHowever (slots_of schema) (single (enumeration (name_at schema slot.member_of)))))
    (λ to found. known_held schema slot.member_of c.args.cache.now.depth context.line c.args.place to found) (c.text_end-in-Member.ensures schema c.requires.context.1.texts))

pub passed_value::sure_end-record_end-requires : goal.passed_value::sure_end-record_end-requires
passed_value::sure_end-record_end-requires g t c =
    let item : c.args.slot.now.item ≡ task.Record = record_slot c.args.slot.now c.args.task c.requires.task c.in-Record.is in
    search rules

pub passed_value::sure_end-returns-in-Record-clause-passed : goal.passed_value::sure_end-returns-in-Record-clause-passed
passed_value::sure_end-returns-in-Record-clause-passed g t c =
    subst (λ k. IfSome c.record_end.result (PassesValue c.args.context.now c.args.slot.now k c.args.cache.now.depth c.args.place)) (sym c.in-Record.is) c.record_end.ensures.passed

pub passed_value::sure_end-array_end-requires : goal.passed_value::sure_end-array_end-requires
passed_value::sure_end-array_end-requires g t c =
    let item : IsSingle c.args.slot.now.item = items_single c.args.slot.now c.args.task c.requires.task c.in-Items.is in
    search rules

pub passed_value::sure_end-returns-in-Items-clause-passed : goal.passed_value::sure_end-returns-in-Items-clause-passed
passed_value::sure_end-returns-in-Items-clause-passed g t c =
    subst (λ k. IfSome c.array_end.result (PassesValue c.args.context.now c.args.slot.now k c.args.cache.now.depth c.args.place)) (sym c.in-Items.is) c.array_end.ensures.passed

pub passed_value::sure_end-returns-in-Any-clause-passed : goal.passed_value::sure_end-returns-in-Any-clause-passed
passed_value::sure_end-returns-in-Any-clause-passed g t c =
    let d = c.args.context.now.line in
    let i = c.args.place in
    let depth = c.args.cache.now.depth in
    subst (λ k. IfSome c.any_number_end.result (PassesValue c.args.context.now c.args.slot.now k depth i)) (sym c.in-Any.is)
    (some_by c.any_number_end.result (λ to. (s : List ℕ) × StandsTo d i (Token.number s) to × IsSome (number_of s)) (λ to. ValueStands depth d i to any_json)
    (λ to stands. token_to depth d i to (Token.number stands.0) any_json stands.1 (any_number stands.0 stands.2)) c.any_number_end.ensures)

-- ---- objects and arrays

pub passed_value::record_end-pass_members-end-requires : goal.passed_value::record_end-pass_members-end-requires
passed_value::record_end-pass_members-end-requires g t c =
    let context = c.args.context.now in
    let slot = c.args.slot.now in
    let type : RowType = get_or context.types.now slot.record c.index-context-slot.result in
    let at : slice_get context.types.now slot.record ≡ Some type =
    slice_get_read context.types.now (length context.types.now) slot.record c.index-context-slot.result refl (omega (arith, c.requires.context.0.count, (c.requires.slot.leads c.requires.item).within)) c.index-context-slot.is
    ∙ ap Some c.index-context-slot.is in
    let there = type_there context.schema.now context.plan.now.expansion context.plan.now.plans.items context.types.now slot type c.requires.context.0 (c.requires.slot.leads c.requires.item) at in
    let plan : IsTypeOf context.schema.now context.plan.now.expansion context.plan.now.plans.items type = (there.plan, there.is) in
    let here = sym c.byte.ensures.here ∙ c.if-byte-ne123.false in
    let within : c.args.place + 1 ≤ length context.line = omega (arith, within_byte context.line c.args.place 123 here (λ e. omega arith)) in
    let room = room_of context g.M.SeenSlots.most slot.record type c.requires.rooms at in
    search rules

pub passed_value::record_end-returns-clause-passed : goal.passed_value::record_end-returns-clause-passed
passed_value::record_end-returns-clause-passed g t c =
    let context = c.args.context.now in
    let slot = c.args.slot.now in
    let type : RowType = get_or context.types.now slot.record c.index-context-slot.result in
    let d = context.line in
    let i = c.args.place in
    let depth = c.args.cache.now.depth in
    let at : slice_get context.types.now slot.record ≡ Some type =
    slice_get_read context.types.now (length context.types.now) slot.record c.index-context-slot.result refl (omega (arith, c.requires.context.0.count, (c.requires.slot.leads c.requires.item).within)) c.index-context-slot.is
    ∙ ap Some c.index-context-slot.is in
    let there = type_there context.schema.now context.plan.now.expansion context.plan.now.plans.items context.types.now slot type c.requires.context.0 (c.requires.slot.leads c.requires.item) at in
    let here = sym c.byte.ensures.here ∙ c.if-byte-ne123.false in
    some_by c.pass_members-end.result (PassesMembers context type (depth - 1) (i + 1)) (PassesValue context slot task.Record depth i)
    (λ to members. record_held context slot type depth i to there (omega arith) (within_byte d i 123 here (λ e. omega arith)) (other_default d i 123 here (λ e. omega arith)) members) c.pass_members-end.ensures.passed

pub passed_value::array_end-returns-then-byte-eq93-clause-passed : goal.passed_value::array_end-returns-then-byte-eq93-clause-passed
passed_value::array_end-returns-then-byte-eq93-clause-passed g t c =
    let context = c.args.context.now in
    let slot = c.args.slot.now in
    let d = context.line in
    let i = c.args.place in
    let depth = c.args.cache.now.depth in
    let here = sym c.byte.ensures.here ∙ c.if-byte-ne91.false in
    let close = sym c.byte-2.ensures.here ∙ c.if-byte-eq93.true in
    let within = within_byte d (i + 1) 93 close (λ e. omega arith) in
    let two : i + 1 + 1 ≡ i + 2 = omega arith in
    subst (PassesValue context slot task.Items depth i) two (items_held context slot depth i (i + 1 + 1) (omega arith) (within_byte d i 91 here (λ e. omega arith)) (other_default d i 91 here (λ e. omega arith))
    (no_items_held context slot (depth - 1) (i + 1) (i + 1) within (other_default d (i + 1) 93 close (λ e. omega arith)) (stay d (i + 1) (omega arith))))

pub passed_value::array_end-returns-clause-passed : goal.passed_value::array_end-returns-clause-passed
passed_value::array_end-returns-clause-passed g t c =
    let context = c.args.context.now in
    let slot = c.args.slot.now in
    let d = context.line in
    let i = c.args.place in
    let depth = c.args.cache.now.depth in
    let here = sym c.byte.ensures.here ∙ c.if-byte-ne91.false in
    some_by c.items_end-end.result (PassesItems context slot (depth - 1) (i + 1)) (PassesValue context slot task.Items depth i)
    (λ to items. items_held context slot depth i to (omega arith) (within_byte d i 91 here (λ e. omega arith)) (other_default d i 91 here (λ e. omega arith)) items) c.items_end-end.ensures.passed

-- ---- items

pub passed_value::items_end-returns-then-byte-eq93-clause-passed : goal.passed_value::items_end-returns-then-byte-eq93-clause-passed
passed_value::items_end-returns-then-byte-eq93-clause-passed g t c =
    let d = c.args.context.now.line in
    let place = c.past_blanks-place.result in
    let here = sym c.byte.ensures.here ∙ c.if-byte-eq93.true in
    no_items_held c.args.context.now c.args.slot.now c.args.cache.now.depth c.args.from place (within_byte d place 93 here (λ e. omega arith)) (other_default d place 93 here (λ e. omega arith)) c.past_blanks-place.ensures

pub passed_value::items_end-items-init : goal.passed_value::items_end-items-init
passed_value::items_end-items-init g t c = (refl, held_start c.args.context.now c.args.slot.now c.args.cache.now.depth c.args.from c.past_blanks-place.result c.past_blanks-place.ensures)

pub passed_value::other_end-returns-in-Some-clause-passed : goal.passed_value::other_end-returns-in-Some-clause-passed
passed_value::other_end-returns-in-Some-clause-passed g t c =
    value_behind c.args.context.now c.args.slot.now c.args.task c.args.cache.now.depth c.args.from c.past_blanks-place.result c.in-Some.end c.past_blanks-place.ensures c.in-Some.ensures.passed

pub passed_value::value_end-returns-in-None-clause-passed : goal.passed_value::value_end-returns-in-None-clause-passed
passed_value::value_end-returns-in-None-clause-passed g t c =
    subst (λ n. IfSome c.other_end.result (PassesValue c.args.context.now c.args.slot.now c.args.task n c.args.place)) c.sure_end.ensures.depth c.other_end.ensures.passed

pub passed_value::items_end-items-preserved : goal.passed_value::items_end-items-preserved
passed_value::items_end-items-preserved g t c =
    let l = c.items in
    let context = c.args.context.now in
    let slot = c.args.slot.now in
    let d = context.line in
    let depth = c.args.cache.now.depth in
    let comma = c.past_blanks-place-in-items.result in
    let here = sym c.byte-in-items.ensures.here ∙ c.in-44.is in (
      c.value_end.ensures.depth ∙ l.invariant.0,
      held_comma context slot depth c.args.from l.place c.in-Some.end comma c.past_blanks-place-in-44.result c.requires.single l.invariant.1
          (subst (λ n. PassesValue context slot slot.item n l.place c.in-Some.end) l.invariant.0 c.in-Some.ensures.passed) c.past_blanks-place-in-items.ensures
          (within_byte d comma 44 here (λ e. omega arith)) (other_default d comma 44 here (λ e. omega arith)) c.past_blanks-place-in-44.ensures,
    )

pub passed_value::items_end-returns-in-93-clause-passed : goal.passed_value::items_end-returns-in-93-clause-passed
passed_value::items_end-returns-in-93-clause-passed g t c =
    let l = c.items in
    let context = c.args.context.now in
    let slot = c.args.slot.now in
    let d = context.line in
    let depth = c.args.cache.now.depth in
    let bracket = c.past_blanks-place-in-items.result in
    let here = sym c.byte-in-items.ensures.here ∙ c.in-93.is in
    held_bracket context slot depth c.args.from l.place c.in-Some.end bracket c.requires.single l.invariant.1
    (subst (λ n. PassesValue context slot slot.item n l.place c.in-Some.end) l.invariant.0 c.in-Some.ensures.passed) c.past_blanks-place-in-items.ensures
    (within_byte d bracket 93 here (λ e. omega arith)) (other_default d bracket 93 here (λ e. omega arith))

-- ---- members

pub members::pass_members-returns-then-are_all_but-clause-passed : goal.members::pass_members-returns-then-are_all_but-clause-passed
members::pass_members-returns-then-are_all_but-clause-passed g t c =
    let context = c.args.context.now in
    let d = context.line in
    let brace = c.past_blanks-place.result in
    let here = sym c.byte.ensures.here ∙ c.if-byte-eq125.true in
    context_empty context c.requires.plan.0 c.args.plan.now c.args.cache.now.depth c.args.from brace c.requires.plan.1 (λ k inside. unseen_optional _ c.none-seen.ensures k ((c.are_all_but.ensures.0 c.if-are_all_but.true k (omega (arith, inside, c.requires.room))).0 (c.requires.plan.1.all k inside))) c.past_blanks-place.ensures (within_byte d brace 125 here (λ e. omega arith))
    (other_default d brace 125 here (λ e. omega arith))

pub members::pass_members-members-init : goal.members::pass_members-members-init
members::pass_members-members-init g t c = (
  refl,
  c.requires.plan.1.order,
  subst (ContextUpTo c.args.context.now c.args.plan.now c.args.cache.now.depth c.args.from c.past_blanks-place.result) (sym c.none-seen.ensures)
      (context_start c.args.context.now c.args.plan.now c.args.cache.now.depth c.args.from c.past_blanks-place.result c.past_blanks-place.ensures),
)

pub members::pass_members-members-preserved : goal.members::pass_members-members-preserved
members::pass_members-members-preserved g t c =
    let l = c.members in
    let context = c.args.context.now in
    let type = c.args.plan.now in
    let depth = c.args.cache.now.depth in
    let from = c.args.from in
    let m = c.match-found in
    let found = c.in-Some.found in
    let Finds : (Option (Bor RowSlot) → Type 0) = λ o. FindsSlot context type l.cache.depth l.place (option_map (λ s. s.now) o) found.place in
    let back = c.next_member.ensures.depth ∙ l.invariant.0 in
    let joined : Joined context type depth from m.place (g.M.SeenSlots.bits m.seen) m.order m.cache.depth =
    elim m.branch [
      | members::pass_members-in-Some-slot+in-Some-value_end w ↦
          joined_as context type depth from w.in-Some-value_end.end m.place (bit_or (g.M.SeenSlots.bits l.seen) (2 ^ w.in-Some-slot.slot.now.index)) (g.M.SeenSlots.bits m.seen) w.in-Some-slot.slot.now.order m.order w.value_end.new.cache.depth m.cache.depth
          w.place-is (ap g.M.SeenSlots.bits w.seen-is ∙ w.mark.ensures) w.order-is (ap (λ k. k.depth) w.cache-is)
          (joined_slot context c.requires.plan.0 type depth from l.place found.place w.in-Some-value_end.end (g.M.SeenSlots.bits l.seen) l.cache.depth c.next_member.new.cache.depth w.value_end.new.cache.depth w.in-Some-slot.slot.now c.requires.plan.1
          (subst Finds w.in-Some-slot.is c.in-Some.ensures.found) l.invariant.2 back w.in-Some-value_end.ensures.passed w.value_end.ensures.depth)
      | members::pass_members-in-None w ↦
          joined_as context type depth from found.place m.place (g.M.SeenSlots.bits l.seen) (g.M.SeenSlots.bits m.seen) l.order m.order c.next_member.new.cache.depth m.cache.depth w.place-is (ap g.M.SeenSlots.bits w.seen-is) w.order-is (ap (λ k. k.depth) w.cache-is)
          (joined_other context type depth from l.place found.place (g.M.SeenSlots.bits l.seen) l.order l.cache.depth c.next_member.new.cache.depth (subst Finds w.in-None.is c.in-Some.ensures.found) l.invariant.2 l.invariant.0 back l.invariant.1)
    ] in
    let ends : EndsMember context.line m.place (After.Comma c.in-Some-Comma.next) = subst (EndsMember context.line m.place) c.in-Some-Comma.field-0-is c.in-Some-Comma.ensures in
    (joined.same, joined.fits, context_comma context type depth from m.place c.in-Some-Comma.next (g.M.SeenSlots.bits m.seen) joined.read ends)

pub members::pass_members-returns-then-are_all_but-2-clause-passed : goal.members::pass_members-returns-then-are_all_but-2-clause-passed
members::pass_members-returns-then-are_all_but-2-clause-passed g t c =
    let l = c.members in
    let context = c.args.context.now in
    let type = c.args.plan.now in
    let depth = c.args.cache.now.depth in
    let from = c.args.from in
    let m = c.match-found in
    let found = c.in-Some.found in
    let Finds : (Option (Bor RowSlot) → Type 0) = λ o. FindsSlot context type l.cache.depth l.place (option_map (λ s. s.now) o) found.place in
    let back = c.next_member.ensures.depth ∙ l.invariant.0 in
    let joined : Joined context type depth from m.place (g.M.SeenSlots.bits m.seen) m.order m.cache.depth =
    elim m.branch [
      | members::pass_members-in-Some-slot+in-Some-value_end w ↦
          joined_as context type depth from w.in-Some-value_end.end m.place (bit_or (g.M.SeenSlots.bits l.seen) (2 ^ w.in-Some-slot.slot.now.index)) (g.M.SeenSlots.bits m.seen) w.in-Some-slot.slot.now.order m.order w.value_end.new.cache.depth m.cache.depth
          w.place-is (ap g.M.SeenSlots.bits w.seen-is ∙ w.mark.ensures) w.order-is (ap (λ k. k.depth) w.cache-is)
          (joined_slot context c.requires.plan.0 type depth from l.place found.place w.in-Some-value_end.end (g.M.SeenSlots.bits l.seen) l.cache.depth c.next_member.new.cache.depth w.value_end.new.cache.depth w.in-Some-slot.slot.now c.requires.plan.1
          (subst Finds w.in-Some-slot.is c.in-Some.ensures.found) l.invariant.2 back w.in-Some-value_end.ensures.passed w.value_end.ensures.depth)
      | members::pass_members-in-None w ↦
          joined_as context type depth from found.place m.place (g.M.SeenSlots.bits l.seen) (g.M.SeenSlots.bits m.seen) l.order m.order c.next_member.new.cache.depth m.cache.depth w.place-is (ap g.M.SeenSlots.bits w.seen-is) w.order-is (ap (λ k. k.depth) w.cache-is)
          (joined_other context type depth from l.place found.place (g.M.SeenSlots.bits l.seen) l.order l.cache.depth c.next_member.new.cache.depth (subst Finds w.in-None.is c.in-Some.ensures.found) l.invariant.2 l.invariant.0 back l.invariant.1)
    ] in
    let ends : EndsMember context.line m.place (After.Brace c.in-Some-Brace.next) = subst (EndsMember context.line m.place) c.in-Some-Brace.field-0-is c.in-Some-Brace.ensures in
    context_over context c.requires.plan.0 type depth from m.place c.in-Some-Brace.next (g.M.SeenSlots.bits m.seen) c.requires.plan.1 (λ k inside. (c.are_all_but-in-Some-Brace.ensures.0 c.if-are_all_but-2.true k (omega (arith, inside, c.requires.room))).0 (c.requires.plan.1.all k inside)) (omega (arith, joined.read.members.bounds.0, ends.0)) joined.read ends

pub members::pass_members-mark-requires : goal.members::pass_members-mark-requires
members::pass_members-mark-requires g t c =
    let context = c.args.context.now in
    let found = c.in-Some.found in
    let Finds : (Option (Bor RowSlot) → Type 0) = λ o. FindsSlot context c.args.plan.now c.members.cache.depth c.members.place (option_map (λ s. s.now) o) found.place in
    let mark = mark_found context c.requires.plan.0 c.args.plan.now c.members.cache.depth c.members.place found.place g.M.SeenSlots.most c.in-Some-slot.slot.now c.requires.plan.1 c.requires.room (subst Finds c.in-Some-slot.is c.in-Some.ensures.found) in
    search rules

pub members::pass_members-value_end-requires : goal.members::pass_members-value_end-requires
members::pass_members-value_end-requires g t c =
    let context = c.args.context.now in
    let found = c.in-Some.found in
    let Finds : (Option (Bor RowSlot) → Type 0) = λ o. FindsSlot context c.args.plan.now c.members.cache.depth c.members.place (option_map (λ s. s.now) o) found.place in
    let asked = value_found context c.requires.plan.0 c.args.plan.now c.members.cache.depth c.members.place found.place c.in-Some-slot.slot.now c.requires.plan.1 (subst Finds c.in-Some-slot.is c.in-Some.ensures.found) in
    search rules

pub passed_value::array_end-items_end-end-requires : goal.passed_value::array_end-items_end-end-requires
passed_value::array_end-items_end-end-requires g t c =
    let context = c.args.context.now in
    let here = sym c.byte.ensures.here ∙ c.if-byte-ne91.false in
    let within : c.args.place + 1 ≤ length context.line = omega (arith, within_byte context.line c.args.place 91 here (λ e. omega arith)) in
    search rules
