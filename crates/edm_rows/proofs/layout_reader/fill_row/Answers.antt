use Rattle.std.proofs.Common.{rules, ◌≡◌, ◌+◌, ◌<◌, length, get_or, Some, IfSome, slice_get, Vec, Global, sym, ◌∙◌, subst, arith}
use Rattle.std.proofs.lemmas.Option.{slice_get-get_or}
use Rattle.json_room.proofs.RoomLemmas.{other_default, within_byte}
use Rattle.edm_values.specs.declared.value.Value.{Value, Record}
use Rattle.edm_rows.specs.private.Filled.{FillsMembers}
use Rattle.edm_rows.specs.private.LayoutRows.{FillsRow}
use Rattle.edm_rows.proofs.ContextLemmas.{room_of, room_of_many, room_said}
use Rattle.edm_rows.proofs.NextMembers.{at_within}
use Rattle.edm_rows.proofs.RowSteps.{root_first}
use Rattle.edm_rows.proofs.RowsFilled.{row_filled}
use Rattle.edm_rows.proofs.layout_reader.fill_row.Goals.{then-plan, else-plan}
use Rattle.edm_rows.proofs.layout_reader.fill_row.Goals as goal

pub fill_members-filled-requires : goal.fill_members-filled-requires
fill_members-filled-requires c =
    let context = c.args.context.now in
    let line = context.line in
    let begin = c.past_blanks-begin.result in
    let type = get_or context.types.now 0 c.index-context-0.result in
    let at : slice_get context.types.now 0 ≡ Some type = slice_get-get_or context.types.now 0 c.index-context-0.result (at_within context.types.now 0 c.requires.first.type c.requires.first.at) in
    let root = root_first context type at c.requires.context c.requires.first c.requires.plan in
    let is : get_or line begin 10 ≡ 123 = sym c.byte.ensures.here ∙ c.if-byte-ne123.false in
    let within : begin < length line = within_byte line begin 123 is (λ e. omega arith) in
    let rooms = room_said context c.requires.context 0 type at c.if-plan.true in
    record { context = c.requires.context; rooms = rooms; plan = (root.plan, root.is); among = (0, at); room = room_of context 64 0 type rooms at; within = omega (arith, within) }

pub fill_members-filled-requires-else-plan : goal.fill_members-filled-requires-else-plan
fill_members-filled-requires-else-plan c =
    let context = c.args.context.now in
    let line = context.line in
    let begin = c.past_blanks-begin.result in
    let type = get_or context.types.now 0 c.index-context-0.result in
    let at : slice_get context.types.now 0 ≡ Some type = slice_get-get_or context.types.now 0 c.index-context-0.result (at_within context.types.now 0 c.requires.first.type c.requires.first.at) in
    let root = root_first context type at c.requires.context c.requires.first c.requires.plan in
    let is : get_or line begin 10 ≡ 123 = sym c.byte.ensures.here ∙ c.if-byte-ne123.false in
    let within : begin < length line = within_byte line begin 123 is (λ e. omega arith) in
    let rooms = room_of_many context c.requires.context in
    record { context = c.requires.context; rooms = rooms; plan = (root.plan, root.is); among = (0, at); room = room_of context 1024 0 type rooms at; within = omega (arith, within) }

pub returns-in-Some-filled : goal.returns-in-Some-filled
returns-in-Some-filled c done =
    let context = c.args.context.now in
    let line = context.line in
    let begin = c.past_blanks-begin.result in
    let type = get_or context.types.now 0 c.index-context-0.result in
    let at : slice_get context.types.now 0 ≡ Some type = slice_get-get_or context.types.now 0 c.index-context-0.result (at_within context.types.now 0 c.requires.first.type c.requires.first.at) in
    let root = root_first context type at c.requires.context c.requires.first c.requires.plan in
    let is : get_or line begin 10 ≡ 123 = sym c.byte.ensures.here ∙ c.if-byte-ne123.false in
    let within : begin < length line = within_byte line begin 123 is (λ e. omega arith) in
    let opens : get_or line begin 32 ≡ 123 = other_default line begin 123 is (λ e. omega arith) in
    let end = c.in-Some-filled.end in
    let Fills : (Vec Value Global → Type 0) = λ values. FillsMembers context type context.depth values.items (begin + 1) end in
    let by : (values : Vec Value Global) → c.if-plan.row ≡ Record values → Fills values → FillsRow context c.if-plan.row = λ values is_record fills.
    row_filled context type c.if-plan.row values begin end root c.requires.depth is_record c.past_blanks-begin.ensures within opens fills (c.ends_line.ensures done) in
    elim c.if-plan.branch [
      | then-plan w ↦ by w.fill_members-filled.new.values (search rules)
          (subst (λ o. IfSome o (FillsMembers context type context.depth w.fill_members-filled.new.values.items (begin + 1))) (sym w.filled-is ∙ c.in-Some-filled.is) w.fill_members-filled.ensures.filled)
      | else-plan w ↦ by w.fill_members-filled-else-plan.new.values (search rules)
          (subst (λ o. IfSome o (FillsMembers context type context.depth w.fill_members-filled-else-plan.new.values.items (begin + 1))) (sym w.filled-is ∙ c.in-Some-filled.is) w.fill_members-filled-else-plan.ensures.filled)
    ]
