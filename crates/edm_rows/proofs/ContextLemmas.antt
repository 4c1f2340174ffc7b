-- Arrays and objects that a context's types hold to theirs.
use Rattle.std.specs.Int.{bit_at}
use Rattle.std.specs.Prelude.{bit_or}
use Rattle.std.proofs.Common.{◌≡◌, ◌⊎◌, ℕ, zero, suc, ◌+◌, ◌-◌, ◌^◌, ◌<◌, ◌≤◌, List, [], ◌∷◌, length, get_or, true, false, Option, None, Some, IfSome, slice_get, refl, sym, ap, ◌∙◌, subst, arith}
use Rattle.serde_json.specs.Data.{Items, object}
use Rattle.csdl_schema.specs.ExpansionView.{StepModel}
use Rattle.csdl_schema.specs.ExprType.{single, collection, structured}
use Rattle.csdl_schema.specs.SchemaModel.{SchemaModel, HasDistinctNames, properties_at, type_name_at}
use Rattle.json_room.specs.private.Lexemes.{PassesSpaces}
use Rattle.edm_values.specs.Val.{no_items as no_values}
use Rattle.edm_row_plans.specs.declared.type_plan.TypePlan.{TypePlan}
use Rattle.edm_rows.specs.private.Passed.{FitSomeItems, FitSomeSlots, FitsSome}
use Rattle.edm_rows.proofs.RowLemmas.Passes.{array_some, item_some, object_some}
use Rattle.edm_rows.proofs.SlotsHeld.{slot_within}
use Rattle.edm_rows.specs.declared.members.After.{After}
use Rattle.edm_rows.specs.declared.passed_value.ReadContext.{ReadContext}
use Rattle.edm_rows.specs.declared.row_types.RowSlot.{RowSlot}
use Rattle.edm_rows.specs.declared.row_types.RowType.{RowType}
use Rattle.edm_rows.specs.declared.row_types.Task.{Task}
use Rattle.edm_rows.specs.declared.row_types.Task.TheVariants.{Items as ItemsTask, Record as RecordTask}
use Rattle.edm_rows.specs.private.Held.{IsHeldTo, IsSingle, type_of}
use Rattle.edm_rows.specs.private.Members.{EndsMember, NamesSlot, PassesOther}
use Rattle.edm_rows.specs.private.RowSlots.{AreFew, AreRowTypes, IsRowType, IsSlotOf, IsTaskOf, LeadsTo, id_at, kinds_of, name_at}
use Rattle.edm_rows.specs.private.SeenSlots.{HasMark, HaveRoom}
use Rattle.seen_slots.specs.SlotBits.{bits_of}
use Rattle.edm_rows.specs.private.Contexts.{FindsSlot, IsContext, PassesItems, PassesMembers, PassesValue, slots_behind_node}
use Rattle.edm_rows.proofs.NextMembers.{as_many, at_within, property_fits, slot_there, some_there}
use Rattle.json_room.proofs.Places.{ItemsUpTo, array_to, item_and_bracket, item_and_comma, items_begin, no_items_read, object_to, reads_behind}
use Rattle.edm_rows.proofs.RowLemmas.RowTypes.{of_single}
use Rattle.edm_rows.proofs.SeenMembers.{SeenRead, SeenUpTo, seen_brace, seen_comma, seen_empty, seen_none, seen_other, seen_slot}

-- the type at the index of a slot's records is that of the plan there
pub record IsTypeThere (schema : SchemaModel) (steps : List StepModel) (plans : List TypePlan) (slot : RowSlot) (type : RowType) : Type 0 where
  pub plan : TypePlan
  pub is : IsRowType schema steps plans plan type
  pub behind : type.node ≡ slot.node
  pub id_is : id_at plans slot.record ≡ Some type.type_id

pub type_there : (schema : SchemaModel) (steps : List StepModel) (plans : List TypePlan) (types : List RowType) (slot : RowSlot) (type : RowType) → AreRowTypes schema steps plans types → LeadsTo plans slot
    → slice_get types slot.record ≡ Some type → IsTypeThere schema steps plans slot type
type_there schema steps plans types slot type are leads at =
    let each = subst (λ o. IfSome o (λ t. IfSome (slice_get plans slot.record) (λ p. IsRowType schema steps plans p t))) at (are.each slot.record) in
    go (slice_get plans slot.record) refl leads.behind each
  where
    id_there : (ps : List TypePlan) (n : ℕ) (p : TypePlan) → slice_get ps n ≡ Some p → id_at ps n ≡ Some p.type_id
    id_there [] zero p is = absurd (cc)
    id_there [] (suc n) p is = absurd (cc)
    id_there (q ∷ ps) zero p is = let same : q ≡ p = cc in ap (λ (r : TypePlan). Some r.type_id) same
    id_there (q ∷ ps) (suc n) p is = id_there ps n p is

    none_there : (ps : List TypePlan) (n : ℕ) → n < length ps → slice_get ps n ≡ None → ⊥
    none_there [] n within is = omega (arith, within)
    none_there (q ∷ ps) zero within is = cc
    none_there (q ∷ ps) (suc n) within is = none_there ps n (omega (arith, within)) is

    go : (o : Option TypePlan) → slice_get plans slot.record ≡ o → IfSome o (λ p. p.node ≡ slot.node) → IfSome o (λ p. IsRowType schema steps plans p type) → IsTypeThere schema steps plans slot type
    go None e behind is = absurd (none_there plans slot.record leads.within e)
    go (Some p) e behind is = record { plan = p; is = is; behind = is.of_type.1 ∙ behind; id_is = id_there plans slot.record p e ∙ ap Some (sym is.of_type.0) }

-- what an object's members are held to, its value is
pub record_held : (context : ReadContext) (slot : RowSlot) (type : RowType) (depth from to : ℕ) → IsTypeThere context.schema.now context.plan.now.expansion context.plan.now.plans.items slot type → 0 < depth → from < length context.line
    → get_or context.line from 32 ≡ 123 → PassesMembers context type (depth - 1) (from + 1) to → PassesValue context slot RecordTask depth from to
record_held context slot type depth from to there some within is members =
    let schema = context.schema.now in
    let steps = context.plan.now.expansion in
    let name = (kinds_of schema context.plan.now.plans.items slot).record_type in
    let named : name ≡ type_name_at schema type.type_id = ap (name_at schema) there.id_is in
    let distinct : HasDistinctNames (properties_at schema type.type_id) = subst (λ id. HasDistinctNames (properties_at schema id)) (sym there.is.of_type.0) there.is.is_plan.distinct in
    object_to depth context.line from to (λ found. FitSomeSlots (slots_behind_node context type.node) (properties_at schema type.type_id) (object found))
    (FitsSome (slots_behind_node context slot.node) slot.is_nullable slot.is_nullable (single (structured name))) some within is
    (λ found fits.
    subst (λ n. FitsSome (slots_behind_node context n) slot.is_nullable slot.is_nullable (single (structured name)) (object found)) there.behind
    (subst (λ s. FitsSome (slots_behind_node context type.node) slot.is_nullable slot.is_nullable (single (structured s)) (object found)) (sym named)
    (object_some schema steps type.node type.type_id found distinct fits slot.is_nullable)))
    members.0 members.1

-- and an array by its items
pub items_held : (context : ReadContext) (slot : RowSlot) (depth from to : ℕ) → 0 < depth → from < length context.line → get_or context.line from 32 ≡ 91 → PassesItems context slot (depth - 1) (from + 1) to
    → PassesValue context slot ItemsTask depth from to
items_held context slot depth from to some within is items =
    let slots = slots_behind_node context slot.node in
    let type = type_of (kinds_of context.schema.now context.plan.now.plans.items slot) slot.item in
    array_to depth context.line from to (FitSomeItems slots slot.is_nullable type) (FitsSome slots false slot.is_nullable (collection type)) some within is
    (λ jsons fits. array_some slots slot.is_nullable type jsons fits) items.0 items.1

-- and one that has none
pub no_items_held : (context : ReadContext) (slot : RowSlot) (depth from bracket : ℕ) → bracket < length context.line → get_or context.line bracket 32 ≡ 93 → PassesSpaces context.line from bracket → PassesItems context slot depth from (bracket + 1)
no_items_held context slot depth from bracket within is passed =
    let slots = slots_behind_node context slot.node in
    let type = type_of (kinds_of context.schema.now context.plan.now.plans.items slot) slot.item in (
      (omega (arith, passed.bounds.0), omega (arith, within)),
      no_items_read depth context.line from bracket (FitSomeItems slots slot.is_nullable type) passed within is (no_values, tt),
    )

-- ---- items one after another

-- the items before an offset where one may begin are held to the type of a slot's items
abbrev pub HeldUpTo : ReadContext → RowSlot → ℕ → ℕ → ℕ → Type 0
HeldUpTo context slot depth from place =
    ItemsUpTo depth context.line from place (FitSomeItems (slots_behind_node context slot.node) slot.is_nullable (type_of (kinds_of context.schema.now context.plan.now.plans.items slot) slot.item))

pub held_start : (context : ReadContext) (slot : RowSlot) (depth from place : ℕ) → PassesSpaces context.line from place → HeldUpTo context slot depth from place
held_start context slot depth from place passed =
    items_begin depth context.line from place (FitSomeItems (slots_behind_node context slot.node) slot.is_nullable (type_of (kinds_of context.schema.now context.plan.now.plans.items slot) slot.item)) passed (no_values, tt)

pub held_comma : (context : ReadContext) (slot : RowSlot) (depth from place end comma next : ℕ) → IsSingle slot.item → HeldUpTo context slot depth from place → PassesValue context slot slot.item depth place end → PassesSpaces context.line end comma
    → comma < length context.line → get_or context.line comma 32 ≡ 44 → PassesSpaces context.line (comma + 1) next → HeldUpTo context slot depth from next
held_comma context slot depth from place end comma next some so_far value passed within is more =
    let slots = slots_behind_node context slot.node in
    let kinds = kinds_of context.schema.now context.plan.now.plans.items slot in
    let P : (Items → Type 0) = FitSomeItems slots slot.is_nullable (type_of kinds slot.item) in
    item_and_comma depth context.line from place end comma next P P (IsHeldTo slots kinds slot.is_nullable slot.item slot.item)
    (λ found json fits held. item_some slots slot.is_nullable (type_of kinds slot.item) found json fits (of_single slots kinds slot.is_nullable slot.item slot.item json some held)) so_far value passed within is more

pub held_bracket : (context : ReadContext) (slot : RowSlot) (depth from place end bracket : ℕ) → IsSingle slot.item → HeldUpTo context slot depth from place → PassesValue context slot slot.item depth place end → PassesSpaces context.line end bracket
    → bracket < length context.line → get_or context.line bracket 32 ≡ 93 → PassesItems context slot depth from (bracket + 1)
held_bracket context slot depth from place end bracket some so_far value passed within is =
    let slots = slots_behind_node context slot.node in
    let kinds = kinds_of context.schema.now context.plan.now.plans.items slot in
    let P : (Items → Type 0) = FitSomeItems slots slot.is_nullable (type_of kinds slot.item) in (
      (omega (arith, so_far.bounds.0, value.bounds.0, passed.bounds.0), omega (arith, within)),
      item_and_bracket depth context.line from place end bracket P P (IsHeldTo slots kinds slot.is_nullable slot.item slot.item)
          (λ found json fits held. item_some slots slot.is_nullable (type_of kinds slot.item) found json fits (of_single slots kinds slot.is_nullable slot.item slot.item json some held)) so_far value passed within is,
    )

-- ---- words with room for the slots of all types

module _ (context : ReadContext) (is : IsContext context) where
  -- a type, and the plan that it is made of
  of_plan : (place : ℕ) (type : RowType) → slice_get context.types.now place ≡ Some type
      → (plan : TypePlan) × (slice_get context.plan.now.plans.items place ≡ Some plan) × IsRowType context.schema.now context.plan.now.expansion context.plan.now.plans.items plan type
  of_plan place type at =
      let plans = context.plan.now.plans.items in
      let p = some_there plans place (omega (arith, is.0.count, at_within context.types.now place type at)) in
      let both = subst (λ o. IfSome o (λ t. IfSome (slice_get plans place) (λ q. IsRowType context.schema.now context.plan.now.expansion plans q t))) at (is.0.each place) in
      (p.0, p.1, subst (λ o. IfSome o (λ q. IsRowType context.schema.now context.plan.now.expansion plans q type)) p.1 both)

  each_room : (words place : ℕ) (o : Option RowType) → slice_get context.types.now place ≡ o → ((type : RowType) → slice_get context.types.now place ≡ Some type → length type.slots.items ≤ words)
      → IfSome o (λ type. length type.slots.items ≤ words)
  each_room words place None at room = tt
  each_room words place (Some type) at room = room type at

  pub room_of_many : HaveRoom 1024 context
  room_of_many place = each_room 1024 place (slice_get context.types.now place) refl (λ type at. let made = of_plan place type at in made.2.few)

  pub room_of_few : AreFew context.plan.now.plans.items → HaveRoom 64 context
  room_of_few few place =
      each_room 64 place (slice_get context.types.now place) refl
      (λ type at.
      let made = of_plan place type at in
      let small = subst (λ o. IfSome o (λ plan. length plan.slots.items ≤ 64)) made.1 (few place) in
      omega (arith, made.2.count, small))

  -- by what a type says of all
  pub room_said : (place : ℕ) (type : RowType) → slice_get context.types.now place ≡ Some type → type.all_few ≡ true → HaveRoom 64 context
  room_said place type at said = room_of_few ((of_plan place type at).2.few_each said)

-- that of one
pub room_of : (context : ReadContext) (words place : ℕ) (type : RowType) → HaveRoom words context → slice_get context.types.now place ≡ Some type → length type.slots.items ≤ words
room_of context words place type rooms at = subst (λ o. IfSome o (λ t. length t.slots.items ≤ words)) at (rooms place)

-- ---- white space, and members

pub value_behind : (context : ReadContext) (slot : RowSlot) (task : Task) (depth from place to : ℕ) → PassesSpaces context.line from place → PassesValue context slot task depth place to → PassesValue context slot task depth from to
value_behind context slot task depth from place to passed value =
    reads_behind depth context.line from place to (IsHeldTo (slots_behind_node context slot.node) (kinds_of context.schema.now context.plan.now.plans.items slot) slot.is_nullable slot.item task) passed value

-- the members before an offset, of which these slots were seen; the same up to where the value of one ends
abbrev pub ContextUpTo : ReadContext → RowType → ℕ → ℕ → ℕ → ℕ → Type 0
ContextUpTo context type depth from place seen = SeenUpTo (slots_behind_node context type.node) (properties_at context.schema.now type.type_id) depth context.line from place seen

abbrev pub ContextRead : ReadContext → RowType → ℕ → ℕ → ℕ → ℕ → Type 0
ContextRead context type depth from end seen = SeenRead (slots_behind_node context type.node) (properties_at context.schema.now type.type_id) depth context.line from end seen

-- a member of a slot of the type
pub slot_seen_read : (context : ReadContext) (plan : TypePlan) (type : RowType) (depth from place value end seen index : ℕ) (slot : RowSlot) → IsRowType context.schema.now context.plan.now.expansion context.plan.now.plans.items plan type
    → slice_get type.slots.items index ≡ Some slot → NamesSlot context.line (properties_at context.schema.now type.type_id) place index value → ContextUpTo context type depth from place seen
    → PassesValue context slot slot.task depth value end → ContextRead context type depth from end (bit_or seen (2 ^ slot.index))
slot_seen_read context plan type depth from place value end seen index slot is at (name, named, name_at_slot) so_far reads =
    let schema = context.schema.now in
    let steps = context.plan.now.expansion in
    let ps = properties_at schema type.type_id in
    let slots = slots_behind_node context type.node in
    let made = slot_there schema steps context.plan.now.plans.items plan type index slot is at in
    subst (λ (k : ℕ). ContextRead context type depth from end (bit_or seen (2 ^ k))) (sym made.row.index_is)
    (seen_slot slots ps depth context.line from place value end seen index name
    (IsHeldTo (slots_behind_node context slot.node) (kinds_of schema context.plan.now.plans.items slot) slot.is_nullable slot.item slot.task)
    (subst (λ id. HasDistinctNames (properties_at schema id)) (sym is.of_type.0) is.is_plan.distinct) (slot_within ps index name name_at_slot) name_at_slot
    (λ json held. property_fits schema steps plan type index made.slot_plan context.plan.now.plans.items is made.planned (Some json) (made.row.fits json held)) so_far named reads)

-- a brace after the last one
pub context_over : (context : ReadContext) (plan : TypePlan) (type : RowType) (depth from end next seen : ℕ) → IsRowType context.schema.now context.plan.now.expansion context.plan.now.plans.items plan type → ((k : ℕ) → k < length type.slots.items → (bit_at seen k ≡ 1) ⊎ (bit_at (bits_of type.optional.words) k ≡ 1))
    → from < next → ContextRead context type depth from end seen → EndsMember context.line end (After.Brace next) → PassesMembers context type depth from next
context_over context plan type depth from end next seen is all further read ends =
    let schema = context.schema.now in
    let ps = properties_at schema type.type_id in
    let count = as_many schema context.plan.now.expansion context.plan.now.plans.items plan type is in (
      (further, ends.1),
      seen_brace (slots_behind_node context type.node) ps depth context.line from end next seen (bits_of type.optional.words) (λ k inside. all k (subst (λ n. k < n) (sym count) inside)) is.optional read ends,
    )

pub context_empty : (context : ReadContext) (plan : TypePlan) (type : RowType) (depth from brace : ℕ) → IsRowType context.schema.now context.plan.now.expansion context.plan.now.plans.items plan type → ((k : ℕ) → k < length type.slots.items → bit_at (bits_of type.optional.words) k ≡ 1)
    → PassesSpaces context.line from brace → brace < length context.line → get_or context.line brace 32 ≡ 125 → PassesMembers context type depth from (brace + 1)
context_empty context plan type depth from brace is all passed within closes =
    let ps = properties_at context.schema.now type.type_id in
    let count = as_many context.schema.now context.plan.now.expansion context.plan.now.plans.items plan type is in (
      (omega (arith, passed.bounds.0), omega (arith, within)),
      seen_empty (slots_behind_node context type.node) ps depth context.line from brace (bits_of type.optional.words) (λ k inside. all k (subst (λ n. k < n) (sym count) inside)) is.optional passed within closes,
    )

pub context_start : (context : ReadContext) (type : RowType) (depth from place : ℕ) → PassesSpaces context.line from place → ContextUpTo context type depth from place 0
context_start context type depth from place passed = seen_none (slots_behind_node context type.node) (properties_at context.schema.now type.type_id) depth context.line from place passed

-- a member of no slot
pub other_seen_read : (context : ReadContext) (type : RowType) (depth from place end seen : ℕ) → ContextUpTo context type depth from place seen → PassesOther depth context.line (properties_at context.schema.now type.type_id) place end
    → ContextRead context type depth from end seen
other_seen_read context type depth from place end seen so_far other = seen_other (slots_behind_node context type.node) (properties_at context.schema.now type.type_id) depth context.line from place end seen so_far other

pub context_comma : (context : ReadContext) (type : RowType) (depth from end next seen : ℕ) → ContextRead context type depth from end seen → EndsMember context.line end (After.Comma next) → ContextUpTo context type depth from next seen
context_comma context type depth from end next seen read ends = seen_comma (slots_behind_node context type.node) (properties_at context.schema.now type.type_id) depth context.line from end next seen read ends

-- ---- what a member leaves, of whatever kind it was

-- where it ends, which slots were seen, where the order after it is kept, and how deep values may nest
pub record Joined (context : ReadContext) (type : RowType) (depth from place seen order now : ℕ) : Type 0 where
  pub read : ContextRead context type depth from place seen
  pub fits : order < 1024
  pub same : now ≡ depth

pub joined_as : (context : ReadContext) (type : RowType) (depth from p place s seen o order n now : ℕ) → place ≡ p → seen ≡ s → order ≡ o → now ≡ n → Joined context type depth from p s o n → Joined context type depth from place seen order now
joined_as context type depth from p place s seen o order n now same_place same_seen same_order same_now joined =
    record {
      read = subst (λ k. ContextRead context type depth from k seen) (sym same_place) (subst (λ k. ContextRead context type depth from p k) (sym same_seen) joined.read);
      fits = subst (λ k. k < 1024) (sym same_order) joined.fits;
      same = same_now ∙ joined.same;
    }

pub joined_slot : (context : ReadContext) (plan : TypePlan) (type : RowType) (depth from place value end seen before now after : ℕ) (slot : RowSlot) → IsRowType context.schema.now context.plan.now.expansion context.plan.now.plans.items plan type
    → FindsSlot context type before place (Some slot) value → ContextUpTo context type depth from place seen → now ≡ depth → PassesValue context slot slot.task now value end → after ≡ now
    → Joined context type depth from end (bit_or seen (2 ^ slot.index)) slot.order after
joined_slot context plan type depth from place value end seen before now after slot is found so_far same reads kept =
    record {
      read = slot_seen_read context plan type depth from place value end seen found.0 slot is found.1 found.2 so_far (subst (λ n. PassesValue context slot slot.task n value end) same reads);
      fits = (slot_there context.schema.now context.plan.now.expansion context.plan.now.plans.items plan type found.0 slot is found.1).row.order;
      same = kept ∙ same;
    }

pub joined_other : (context : ReadContext) (type : RowType) (depth from place end seen order before now : ℕ) → FindsSlot context type before place None end → ContextUpTo context type depth from place seen → before ≡ depth → now ≡ depth → order < 1024
    → Joined context type depth from end seen order now
joined_other context type depth from place end seen order before now found so_far was same fits =
    record { read = other_seen_read context type depth from place end seen so_far (subst (λ n. FindsSlot context type n place None end) was found); fits = fits; same = same }

-- the mark of a slot that was found
pub mark_found : (context : ReadContext) (plan : TypePlan) (type : RowType) (before place value most : ℕ) (slot : RowSlot) → IsRowType context.schema.now context.plan.now.expansion context.plan.now.plans.items plan type → length type.slots.items ≤ most
    → FindsSlot context type before place (Some slot) value → HasMark most slot
mark_found context plan type before place value most slot is room found =
    let made = (slot_there context.schema.now context.plan.now.expansion context.plan.now.plans.items plan type found.0 slot is found.1).row in
    let within : found.0 < length type.slots.items = at_within type.slots.items found.0 slot found.1 in
    record { within = omega (arith, made.index_is, within, room); bit = made.bit }

-- what is asked of its value
pub value_found : (context : ReadContext) (plan : TypePlan) (type : RowType) (before place value : ℕ) (slot : RowSlot) → IsRowType context.schema.now context.plan.now.expansion context.plan.now.plans.items plan type
    → FindsSlot context type before place (Some slot) value → IsSlotOf context.plan.now.plans.items slot × IsTaskOf slot slot.task × (value ≤ length context.line)
value_found context plan type before place value slot is found =
    let row = (slot_there context.schema.now context.plan.now.expansion context.plan.now.plans.items plan type found.0 slot is found.1).row in
    (row.agrees, row.task, found.2.1.bounds.1)
