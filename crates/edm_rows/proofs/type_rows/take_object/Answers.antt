use Rattle.std.proofs.Common.{◌≡◌, List, drop, length, get_or, Some, slice_get, sym, ap, ◌∙◌, subst}
use Rattle.std.proofs.lemmas.List.{take_at}
use Rattle.std.proofs.lemmas.Option.{slice_get-get_or}
use Rattle.edm_values.specs.declared.value.Value.{Value}
use Rattle.edm_rows.specs.private.KeptRows.{RowConforms, root_properties, root_slots}
use Rattle.edm_rows.proofs.KeptSlots.{held_long}
use Rattle.edm_rows.proofs.NextMembers.{at_within}
use Rattle.edm_rows.proofs.ContextLemmas.{room_of, room_of_many, room_said}
use Rattle.edm_rows.proofs.RowSteps.{root_first}
use Rattle.edm_rows.proofs.RowsRead.{members_back}
use Rattle.edm_rows.proofs.type_rows.take_object.Goals as goal

pub take_members-requires-clause-plan : goal.take_members-requires-clause-plan
take_members-requires-clause-plan c =
    let context = c.args.context.now in
    let type = get_or context.types.now 0 c.index-context-0.result in
    let at : slice_get context.types.now 0 ≡ Some type = slice_get-get_or context.types.now 0 c.index-context-0.result (at_within context.types.now 0 c.requires.first.type c.requires.first.at) in
    root_first context type at c.requires.context c.requires.first c.requires.plan

pub take_members-requires-clause-rooms : goal.take_members-requires-clause-rooms
take_members-requires-clause-rooms c =
    let context = c.args.context.now in
    let type = get_or context.types.now 0 c.index-context-0.result in
    let at : slice_get context.types.now 0 ≡ Some type = slice_get-get_or context.types.now 0 c.index-context-0.result (at_within context.types.now 0 c.requires.first.type c.requires.first.at) in
    room_said context c.requires.context 0 type at c.if-plan.true

pub take_members-requires-clause-room : goal.take_members-requires-clause-room
take_members-requires-clause-room c =
    let context = c.args.context.now in
    let type = get_or context.types.now 0 c.index-context-0.result in
    let at : slice_get context.types.now 0 ≡ Some type = slice_get-get_or context.types.now 0 c.index-context-0.result (at_within context.types.now 0 c.requires.first.type c.requires.first.at) in
    room_of context 64 0 type (room_said context c.requires.context 0 type at c.if-plan.true) at

pub take_members-requires-else-plan-clause-plan : goal.take_members-requires-else-plan-clause-plan
take_members-requires-else-plan-clause-plan c =
    let context = c.args.context.now in
    let type = get_or context.types.now 0 c.index-context-0.result in
    let at : slice_get context.types.now 0 ≡ Some type = slice_get-get_or context.types.now 0 c.index-context-0.result (at_within context.types.now 0 c.requires.first.type c.requires.first.at) in
    root_first context type at c.requires.context c.requires.first c.requires.plan

pub take_members-requires-else-plan-clause-rooms : goal.take_members-requires-else-plan-clause-rooms
take_members-requires-else-plan-clause-rooms c =
    let context = c.args.context.now in
    let type = get_or context.types.now 0 c.index-context-0.result in
    let at : slice_get context.types.now 0 ≡ Some type = slice_get-get_or context.types.now 0 c.index-context-0.result (at_within context.types.now 0 c.requires.first.type c.requires.first.at) in
    room_of_many context c.requires.context

pub take_members-requires-else-plan-clause-room : goal.take_members-requires-else-plan-clause-room
take_members-requires-else-plan-clause-room c =
    let context = c.args.context.now in
    let type = get_or context.types.now 0 c.index-context-0.result in
    let at : slice_get context.types.now 0 ≡ Some type = slice_get-get_or context.types.now 0 c.index-context-0.result (at_within context.types.now 0 c.requires.first.type c.requires.first.at) in
    room_of context 1024 0 type (room_of_many context c.requires.context) at

pub returns-then-plan-clause-read : goal.returns-then-plan-clause-read
returns-then-plan-clause-read c =
    let context = c.args.context.now in
    let type = get_or context.types.now 0 c.index-context-0.result in
    let at : slice_get context.types.now 0 ≡ Some type = slice_get-get_or context.types.now 0 c.index-context-0.result (at_within context.types.now 0 c.requires.first.type c.requires.first.at) in
    let new = c.take_members.new.values in
    let long : length c.args.values.now.items ≡ c.args.values.now.len = sym (ap length c.as_mut_slice.ensures.value) ∙ c.as_mut_slice.ensures.len in (
      type,
      at,
      members_back context type new (drop (length new) c.args.values.now.items) c.args.values.now.len c.args.from c.take_members.result
          (λ whole. held_long _ (root_properties context) new (c.take_members.ensures.conforms whole).1 ∙ sym (held_long _ (root_properties context) c.args.values.now.items c.requires.conforms.1) ∙ long) c.take_members.ensures.read,
    )

pub returns-then-plan-clause-conforms : goal.returns-then-plan-clause-conforms
returns-then-plan-clause-conforms c whole =
    let context = c.args.context.now in
    let new = c.take_members.new.values in
    let conforms = c.take_members.ensures.conforms whole in
    let long : length c.args.values.now.items ≡ c.args.values.now.len = sym (ap length c.as_mut_slice.ensures.value) ∙ c.as_mut_slice.ensures.len in
    let as_long : length new ≡ c.args.values.now.len = held_long _ (root_properties context) new conforms.1 ∙ sym (held_long _ (root_properties context) c.args.values.now.items c.requires.conforms.1) ∙ long in
    subst (λ (l : List Value). RowConforms (root_slots context) (root_properties context) l) (sym (take_at new (drop (length new) c.args.values.now.items) c.args.values.now.len as_long)) conforms

pub returns-else-plan-clause-read : goal.returns-else-plan-clause-read
returns-else-plan-clause-read c =
    let context = c.args.context.now in
    let type = get_or context.types.now 0 c.index-context-0.result in
    let at : slice_get context.types.now 0 ≡ Some type = slice_get-get_or context.types.now 0 c.index-context-0.result (at_within context.types.now 0 c.requires.first.type c.requires.first.at) in
    let new = c.take_members-else-plan.new.values in
    let long : length c.args.values.now.items ≡ c.args.values.now.len = sym (ap length c.as_mut_slice-else-plan.ensures.value) ∙ c.as_mut_slice-else-plan.ensures.len in (
      type,
      at,
      members_back context type new (drop (length new) c.args.values.now.items) c.args.values.now.len c.args.from c.take_members-else-plan.result
          (λ whole. held_long _ (root_properties context) new (c.take_members-else-plan.ensures.conforms whole).1 ∙ sym (held_long _ (root_properties context) c.args.values.now.items c.requires.conforms.1) ∙ long) c.take_members-else-plan.ensures.read,
    )

pub returns-else-plan-clause-conforms : goal.returns-else-plan-clause-conforms
returns-else-plan-clause-conforms c whole =
    let context = c.args.context.now in
    let new = c.take_members-else-plan.new.values in
    let conforms = c.take_members-else-plan.ensures.conforms whole in
    let long : length c.args.values.now.items ≡ c.args.values.now.len = sym (ap length c.as_mut_slice-else-plan.ensures.value) ∙ c.as_mut_slice-else-plan.ensures.len in
    let as_long : length new ≡ c.args.values.now.len = held_long _ (root_properties context) new conforms.1 ∙ sym (held_long _ (root_properties context) c.args.values.now.items c.requires.conforms.1) ∙ long in
    subst (λ (l : List Value). RowConforms (root_slots context) (root_properties context) l) (sym (take_at new (drop (length new) c.args.values.now.items) c.args.values.now.len as_long)) conforms
