-- For private clauses: what a walk over a line looks at, and what it passes.
use Rattle.std.specs.Prelude.{◌≡◌, ℕ, Option, None, Some, option_map, slice_get}
use Rattle.json.specs.Lex.{fresh, after_value}
use Rattle.serde_json.specs.Data.{object}
use Rattle.csdl_schema.specs.SchemaModel.{Slots, properties_at}
use Rattle.edm_row_plans.specs.Expanded.{slots_at}
use Rattle.edm_rows.specs.private.Passed.{FitSomeItems, FitSomeSlots}
use Rattle.json_room.specs.private.ItemTokens.{ReadsItems, ReadsMembers}
use Rattle.json_room.specs.Lexemes.{tokens_at}
use Rattle.edm_rows.specs.declared.passed_value.ReadContext.{ReadContext}
use Rattle.edm_rows.specs.declared.members.Found.{Found}
use Rattle.edm_rows.specs.declared.row_types.RowSlot.{RowSlot}
use Rattle.edm_rows.specs.declared.row_types.RowType.{RowType}
use Rattle.edm_rows.specs.declared.row_types.Task.{Task}
use Rattle.json_room.specs.ValueStands.{ValueStands}
use Rattle.json_room.specs.private.ValuesStand.{PassesTo}
use Rattle.edm_rows.specs.private.Held.{IsHeldTo, type_of}
use Rattle.edm_rows.specs.private.LookedUp.{AreKnown}
use Rattle.edm_rows.specs.private.Members.{NamesSlot, PassesOther}
use Rattle.edm_rows.specs.private.RowSlots.{AreRowTypes, kinds_of}

-- the types are those of a plan, and the texts are of their enumerations
abbrev pub IsContext : ReadContext → Type 0
IsContext context =
    AreRowTypes context.schema.now context.plan.now.expansion context.plan.now.plans.items context.types.now
    × AreKnown context.schema.now context.known.now

-- the types of the schema, where what stands after a node is expanded
abbrev pub slots_behind_node : ReadContext → Option ℕ → Slots
slots_behind_node context node = slots_at context.schema.now context.plan.now.expansion node

-- a slot's value, or an item of it, stands from one offset to the other, nested no deeper than that, and is held to the
-- task
abbrev pub PassesValue : ReadContext → RowSlot → Task → ℕ → ℕ → ℕ → Type 0
PassesValue context slot task depth from to =
    ValueStands depth context.line from to (IsHeldTo (slots_behind_node context slot.node)
    (kinds_of context.schema.now context.plan.now.plans.items slot) slot.is_nullable slot.item task)

-- after an opening bracket the items of a slot's array stand from one offset to the other, with the closing one
abbrev pub PassesItems : ReadContext → RowSlot → ℕ → ℕ → ℕ → Type 0
PassesItems context slot depth from to =
    PassesTo context.line from to
    × ReadsItems depth (tokens_at fresh context.line from) (tokens_at after_value context.line to)
    (FitSomeItems (slots_behind_node context slot.node) slot.is_nullable
    (type_of (kinds_of context.schema.now context.plan.now.plans.items slot) slot.item))

-- after an opening brace the members of an object of a type stand from one offset to the other, with the closing one
abbrev pub PassesMembers : ReadContext → RowType → ℕ → ℕ → ℕ → Type 0
PassesMembers context type depth from to =
    PassesTo context.line from to
    × ReadsMembers depth (tokens_at fresh context.line from) (tokens_at after_value context.line to)
    (λ found. FitSomeSlots (slots_behind_node context type.node) (properties_at context.schema.now type.type_id)
    (object found))

-- the next member of an object of a type: the slot of its name, which is one of the type's, and the offset of its
-- value; or a name that no slot has, and the offset after the value
abbrev pub FindsSlot : ReadContext → RowType → ℕ → ℕ → Option RowSlot → ℕ → Type 0
FindsSlot context type depth from (Some slot) to =
    (index : ℕ) × (slice_get type.slots.items index ≡ Some slot)
    × NamesSlot context.line (properties_at context.schema.now type.type_id) from index to
FindsSlot context type depth from None to =
    PassesOther depth context.line (properties_at context.schema.now type.type_id) from to

abbrev pub FindsMember : ReadContext → RowType → ℕ → ℕ → Found → Type 0
FindsMember context type depth from found = FindsSlot context type depth from (option_map
    (λ s. s.now) found.slot) found.place
