-- Values that are filled where they are, by the offsets where their JSON stands.
use Rattle.std.proofs.Common.{◌≡◌, ℕ, ◌+◌, ◌-◌, ◌<◌, List, [], ◌∷◌, ◌++◌, length, map, take, slice_set, get_or, Bool, false, true, Option, None, Some, IfSome, Vec, Global, refl, sym, ap, ◌∙◌, subst, arith}
use Rattle.serde_json.specs.Data.{Data, Items as Jsons, array, no_items, item, null as json_null, object, string as json_string}
use Rattle.serde_json.specs.Find.{get}
use Rattle.serde_json.specs.Read.{converted, of_json}
use Rattle.json.specs.Json.{value as json_value}
use Rattle.json.specs.Token.{null as null_token}
use Rattle.csdl_schema.specs.ExprType.{SingleType, collection, enumeration, primitive, single, structured}
use Rattle.csdl_schema.specs.SchemaModel.{HasDistinctNames, Slots, properties_at, type_name_at}
use Rattle.edm_values.specs.declared.primitive.PrimitiveType.{PrimitiveType}
use Rattle.edm_values.specs.declared.primitive.PrimitiveType.TheVariants as prim
use Rattle.edm_values.specs.declared.sieve.Sieve.{Sieve}
use Rattle.edm_entities.specs.private.Walk.{IsRecordOf}
use Rattle.edm_values.specs.Val.{FieldVal, Val, fields}
use Rattle.edm_values.specs.declared.value.Value.{Value, Null, List as ListOf}
use Rattle.edm_entities.specs.Fits.{FitsFound, FitsType}
use Rattle.edm_entities.specs.Row.{field_by_name, val_of}
use Rattle.json_room.specs.private.ItemTokens.{append_items}
use Rattle.edm_rows.specs.Alike.{AreAlike, Names, alike_records}
use Rattle.edm_rows.specs.private.KeptRows.{names_passed}
use Rattle.edm_rows.specs.private.Passed.{FitSlotsBut, FitsHoweverNullable, FitsSlotBut}
use Rattle.edm_rows.proofs.LeavesKept.{text_is}
use Rattle.edm_rows.proofs.RowLemmas.Passing.{record_seen, seen_record}
use Rattle.edm_rows.proofs.Values.{text_fits}
use Rattle.edm_rows.proofs.ValuesBut.{but_push, filled_but, list_but, of_but}
use Rattle.edm_entities.proofs.SlotLemmas.ReadEntities.{val_of-Record}
use Rattle.spare_values.specs.StoredTexts.{HoldsText}
use Rattle.std.proofs.lemmas.Str.{IsUtf8-nil}
use Rattle.json_room.proofs.Tokens.{null_token as null_read}
use Rattle.edm_entities.specs.private.Walk.{FitList, FitSlots, FitsSlot, HoldInItems}
use Rattle.edm_rows.proofs.RowLemmas.Leaves.{not_null_fits}
use Rattle.edm_rows.proofs.RowLemmas.Parts.{fit_push, list_held, record_held}
use Rattle.std.proofs.lemmas.List.{take_more_set}
use Rattle.json.specs.Lex.{after_value}
use Rattle.edm_rows.proofs.Indexes.{take_none}
use Rattle.edm_entities.proofs.SlotLemmas.EachSlot.{holds_push, list_held as list_holds, member_holds, null_holds, primitive_holds, slots_held}
use Rattle.edm_entities.proofs.SlotLemmas.FewSlots.{record_held as few_held, record_val}
use Rattle.edm_entities.proofs.SlotLemmas.FoundWalk.{val_of-Null}
use Rattle.edm_entities.proofs.SlotLemmas.SlotsByName.{as_many}
use Rattle.json_room.specs.private.Lexemes.{PassesSpaces}
use Rattle.json_room.specs.Lexemes.{StandsTo, tokens_at}
use Rattle.edm_rows.specs.declared.kept_leaf.Taken.{Taken}
use Rattle.edm_rows.specs.declared.kept_leaf.Taken.TheVariants.{Put}
use Rattle.edm_rows.specs.declared.passed_value.ReadContext.{ReadContext}
use Rattle.edm_rows.specs.declared.row_types.RowSlot.{RowSlot}
use Rattle.edm_rows.specs.declared.row_types.RowType.{RowType}
use Rattle.edm_rows.specs.declared.row_types.Task.{Task}
use Rattle.json_room.specs.ValueStands.{ValueStands}
use Rattle.edm_rows.specs.declared.row_types.Task.TheVariants.{Text, Number, Truth, Date, Moment, Guid, Member, Record, Items, Any}
use Rattle.edm_rows.specs.private.Filled.{AreFilled, AreFilledBut, FillsItems, FillsMembers, FillsValue, IsFilledIn, IsFilledInBut, TakesFiller}
use Rattle.spare_values.specs.Fillers.{HoldsNoItems}
use Rattle.spare_values.specs.declared.spares.Filler.TheVariants as filler
use Rattle.edm_rows.specs.private.Held.{FilledAs, FilledBut, IsFilled, IsFilledBut, IsSingle, Kinds, type_of}
use Rattle.json_room.proofs.Places.{ItemsUpTo, array_to, begins_at, item_and_bracket, item_and_comma, items_begin, no_items_read, object_to, reads_behind, reads_to_as}
use Rattle.edm_rows.specs.private.KeptLeaves.{PutsLeaf, PutsMember, TakesLeaf}
use Rattle.edm_rows.specs.private.RowSlots.{kinds_of, name_at}
use Rattle.edm_rows.specs.private.Contexts.{slots_behind_node}
use Rattle.edm_rows.proofs.ContextLemmas.{IsTypeThere}

-- ---- values without parts

-- what was put stands there
pub put_leaf : (line : List ℕ) (type : SingleType) (sieve : Sieve) (old new : Value) (place : ℕ) (taken : Taken) (o : Option ℕ) → IfSome o (λ to. taken ≡ Put to) → TakesLeaf line type sieve old new place taken → IfSome o (PutsLeaf line type new place)
put_leaf line type sieve old new place taken None put takes = tt
put_leaf line type sieve old new place taken (Some to) put takes = subst (TakesLeaf line type sieve old new place) put takes

module _ (slots : Slots) (kinds : Kinds) (nullable : Bool) (inner : Task) where
  primitive_filled : (type : PrimitiveType) (v : Value) (json : Data) → FitsHoweverNullable slots (single (primitive type)) v json → IsFilled slots nullable nullable (single (primitive type)) v json
  primitive_filled type v json fits =
      let t = single (primitive type) in
      (fits nullable, primitive_holds slots type json v (not_null_fits json (val_of v slots.properties t) (λ found. FitsType slots false t found (val_of v slots.properties t)) (fits false)))

  member_filled : (name : List ℕ) (v : Value) (json : Data) → FitsHoweverNullable slots (single (enumeration name)) v json → IsFilled slots nullable nullable (single (enumeration name)) v json
  member_filled name v json fits =
      let t = single (enumeration name) in
      (fits nullable, member_holds slots name json v (not_null_fits json (val_of v slots.properties t) (λ found. FitsType slots false t found (val_of v slots.properties t)) (fits false)))

  null_filled : (type : SingleType) (v : Value) → nullable ≡ true → v ≡ Null → IsFilled slots nullable nullable (single type) v json_null
  null_filled type v may same =
      ((may, ap (λ (w : Value). val_of w slots.properties (single type)) same ∙ val_of-Null slots (single type)), null_holds slots (single type) v same)

  -- a single task's value
  single_filled : (task : Task) (v : Value) (json : Data) → IsSingle task → IsFilled slots nullable nullable (single (type_of kinds task)) v json → FilledAs slots kinds nullable inner task v json
  single_filled Text v json some fits = fits
  single_filled Number v json some fits = fits
  single_filled Truth v json some fits = fits
  single_filled Date v json some fits = fits
  single_filled Moment v json some fits = fits
  single_filled Guid v json some fits = fits
  single_filled Member v json some fits = fits
  single_filled Record v json some fits = fits
  single_filled Items v json some fits = absurd (some.0 refl)
  single_filled Any v json some fits = absurd (some.1 refl)

  -- and the other way
  pub of_filled : (task : Task) (v : Value) (json : Data) → IsSingle task → FilledAs slots kinds nullable inner task v json → IsFilled slots nullable nullable (single (type_of kinds task)) v json
  of_filled Text v json some fits = fits
  of_filled Number v json some fits = fits
  of_filled Truth v json some fits = fits
  of_filled Date v json some fits = fits
  of_filled Moment v json some fits = fits
  of_filled Guid v json some fits = fits
  of_filled Member v json some fits = fits
  of_filled Record v json some fits = fits
  of_filled Items v json some fits = absurd (some.0 refl)
  of_filled Any v json some fits = absurd (some.1 refl)

  -- null, where it may be
  pub null_of_task : (task : Task) (v : Value) → IsSingle task → nullable ≡ true → v ≡ Null → FilledAs slots kinds nullable inner task v json_null
  null_of_task task v some may is = single_filled task v json_null some (null_filled (type_of kinds task) v may is)

  -- an empty text
  pub empty_text : (v : Value) → HoldsText v [] → FilledAs slots kinds nullable inner Text v (json_string [])
  empty_text v holds = primitive_filled prim.String v (json_string []) (λ b. text_fits prim.String [] (val_of v slots.properties (single (primitive prim.String))) (text_is v [] holds IsUtf8-nil slots (single (primitive prim.String))))

  -- no items
  pub no_items_filled : (v : Value) → HoldsNoItems v → FilledAs slots kinds nullable inner Items v (array no_items)
  no_items_filled v (items, is, none) =
      let type = type_of kinds inner in
      subst (λ (w : Value). IsFilled slots false nullable (collection type) w (array no_items)) (sym is)
      (list_held slots nullable type items no_items (subst (λ vs. FitList slots nullable type no_items vs) (sym none) tt), list_holds slots type items (subst (HoldInItems slots type) (sym none) refl))

module _ (slots : Slots) (Passed : Names) (kinds : Kinds) (nullable : Bool) (inner : Task) (depth : ℕ) (line : List ℕ) (from : ℕ) (v : Value) where
  -- what stands there, alike to what is seen of it, and that it is of some JSON
  abbrev Fills : Task → ℕ → Type 0
  Fills task to = ValueStands depth line from to (FilledBut slots Passed kinds nullable inner task v) × ((json : Data) × FilledAs slots kinds nullable inner task v json)

  -- where it is the value of the JSON
  fills_as : (task : Task) (to : ℕ) → ValueStands depth line from to (FilledAs slots kinds nullable inner task v) × ((json : Data) × FilledAs slots kinds nullable inner task v json) → Fills task to
  fills_as task to fills =
      (reads_to_as depth line from to (FilledAs slots kinds nullable inner task v) (FilledBut slots Passed kinds nullable inner task v) (λ json filled. filled_but slots Passed kinds nullable inner task v json filled) fills.0, fills.1)

  pub leaf_filled : (task known : Task) (type : PrimitiveType) (o : Option ℕ) → task ≡ known → IsSingle known → type_of kinds known ≡ primitive type → IfSome o (PutsLeaf line (primitive type) v from)
      → IfSome o (λ to. ValueStands depth line from to (FilledBut slots Passed kinds nullable inner task v) × ((json : Data) × FilledAs slots kinds nullable inner task v json))
  leaf_filled task known type None is some of puts = tt
  leaf_filled task known type (Some to) is some of puts =
      let filled : (json : Data) → FitsHoweverNullable slots (single (primitive type)) v json → FilledAs slots kinds nullable inner known v json = λ json fits.
      single_filled slots kinds nullable inner known v json some (subst (λ t. IsFilled slots nullable nullable (single t) v json) (sym of) (primitive_filled slots kinds nullable inner type v json fits)) in
      subst (λ t. Fills t to) (sym is)
      (fills_as known to (reads_to_as depth line from to (FitsHoweverNullable slots (single (primitive type)) v) (FilledAs slots kinds nullable inner known v) filled (puts.1 slots depth), (puts.0.0, filled puts.0.0 (puts.0.1 slots))))

  pub member_text_filled : (task : Task) (o : Option ℕ) → task ≡ Member → IfSome o (PutsMember line slots kinds.enumeration v from)
      → IfSome o (λ to. ValueStands depth line from to (FilledBut slots Passed kinds nullable inner task v) × ((json : Data) × FilledAs slots kinds nullable inner task v json))
  member_text_filled task None is puts = tt
  member_text_filled task (Some to) is puts =
      subst (λ t. Fills t to) (sym is) (fills_as Member to (
        reads_to_as depth line from to (FitsHoweverNullable slots (single (enumeration kinds.enumeration)) v) (FilledAs slots kinds nullable inner Member v) (λ json fits. member_filled slots kinds nullable inner kinds.enumeration v json fits) (puts.1 depth),
        (puts.0.0, member_filled slots kinds nullable inner kinds.enumeration v puts.0.0 puts.0.1),
      ))

  pub null_filled_to : (task : Task) (o : Option ℕ) → IsSingle task → IfSome o (StandsTo line from null_token) → IfSome o (λ to. (nullable ≡ true) × (v ≡ Null))
      → IfSome o (λ to. ValueStands depth line from to (FilledBut slots Passed kinds nullable inner task v) × ((json : Data) × FilledAs slots kinds nullable inner task v json))
  null_filled_to task None some stands is = tt
  null_filled_to task (Some to) some stands is =
      let filled : FilledAs slots kinds nullable inner task v json_null = null_of_task slots kinds nullable inner task v some is.0 is.1 in
      fills_as task to (
        record {
          bounds = stands.bounds;
          reads = λ turn may_begin here. record {
            json = json_null;
            is_read = ap (λ ts. converted of_json (json_value depth ts)) (begins_at line from to null_token turn may_begin stands here) ∙ null_read depth (tokens_at after_value line to);
            holds = filled;
          };
        },
        (json_null, filled),
      )

  pub unseen_filled : (task : Task) (o : Option ℕ) → task ≡ Any → v ≡ Null → IfSome o (λ to. ValueStands depth line from to (λ json. Unit {0}))
      → IfSome o (λ to. ValueStands depth line from to (FilledBut slots Passed kinds nullable inner task v) × ((json : Data) × FilledAs slots kinds nullable inner task v json))
  unseen_filled task None is null reads = tt
  unseen_filled task (Some to) is null reads = subst (λ t. Fills t to) (sym is) (reads_to_as depth line from to (λ json. Unit {0}) (FilledBut slots Passed kinds nullable inner Any v) (λ json _. null) reads, (json_null, null))

-- ---- values without heap

module _ (slot : RowSlot) (unkept : slot.is_kept ≡ false) where
  pub takes_null : IsSingle slot.task → slot.is_nullable ≡ true → TakesFiller slot filler.Null
  takes_null some may = (unkept, λ v is slots kinds. (json_null, null_of_task slots kinds slot.is_nullable slot.item slot.task v some may is))

  pub takes_no_items : slot.task ≡ Items → TakesFiller slot filler.NoItems
  takes_no_items many = (
    unkept,
    λ v none slots kinds. (array no_items, subst (λ t. FilledAs slots kinds slot.is_nullable slot.item t v (array no_items)) (sym many) (no_items_filled slots kinds slot.is_nullable slot.item v none)),
  )

  pub takes_empty : slot.task ≡ Text → TakesFiller slot filler.EmptyText
  takes_empty text = (
    unkept,
    λ v empty slots kinds. (json_string [], subst (λ t. FilledAs slots kinds slot.is_nullable slot.item t v (json_string [])) (sym text) (empty_text slots kinds slot.is_nullable slot.item v empty)),
  )

-- ---- records

module _ (context : ReadContext) (slot : RowSlot) (type : RowType) (there : IsTypeThere context.schema.now context.plan.now.expansion context.plan.now.plans.items slot type) (values : Vec Value Global) where
  filled_record : (value : Value) → IsRecordOf values value → (found : _) → FitSlots (slots_behind_node context type.node) (object found) (properties_at context.schema.now type.type_id) values.items
      → IsFilledIn context slot Record value (object found)
  filled_record value is found fits =
      let schema = context.schema.now in
      let steps = context.plan.now.expansion in
      let name = (kinds_of schema context.plan.now.plans.items slot).record_type in
      let own = type_name_at schema type.type_id in
      let named : name ≡ own = ap (name_at schema) there.id_is in
      let distinct : HasDistinctNames (properties_at schema type.type_id) = subst (λ id. HasDistinctNames (properties_at schema id)) (sym there.is.of_type.0) there.is.is_plan.distinct in
      let here = slots_behind_node context type.node in
      let long = as_many (FitsSlot here (λ n. get n (object found))) (here.properties own) values.items fits in
      subst (λ n. IsFilled (slots_behind_node context n) slot.is_nullable slot.is_nullable (single (structured name)) value (object found)) there.behind
      (subst (λ s. IsFilled here slot.is_nullable slot.is_nullable (single (structured s)) value (object found)) (sym named) (
        subst (λ (v : Val). FitsFound (Some (object found)) slot.is_nullable v (λ json. FitsType here slot.is_nullable (single (structured own)) json v)) (sym (record_val here own values long value is))
            (record_held schema steps type.node type.type_id values found distinct fits slot.is_nullable),
        few_held here own values long value is (slots_held here own (λ n. get n (object found)) values fits),
      ))

  -- a record whose values are alike to what is seen of the members
  filled_record_but : (value : Value) → IsRecordOf values value → (found : _) → FitSlotsBut (slots_behind_node context type.node) (names_passed context) (object found) (properties_at context.schema.now type.type_id) values.items
      → IsFilledInBut context slot Record value (object found)
  filled_record_but value is found fits =
      let schema = context.schema.now in
      let Passed : Names = names_passed context in
      let name = (kinds_of schema context.plan.now.plans.items slot).record_type in
      let own = type_name_at schema type.type_id in
      let named : name ≡ own = ap (name_at schema) there.id_is in
      let ps = properties_at schema type.type_id in
      let distinct : HasDistinctNames ps = subst (λ id. HasDistinctNames (properties_at schema id)) (sym there.is.of_type.0) there.is.is_plan.distinct in
      let here = slots_behind_node context type.node in
      let long = as_many (FitsSlotBut here Passed (λ n. get n (object found))) ps values.items fits in
      let seen = seen_record here Passed (λ n. get n (object found)) ps values.items distinct fits in
      let stored : List ℕ → FieldVal = field_by_name here.properties ps (map val_of values.items) in
      let shown : List ℕ → FieldVal = field_by_name here.properties ps seen.seens in
      let same : val_of value here.properties (single (structured own)) ≡ fields stored = record_val here own values long value is ∙ val_of-Record here (single (structured own)) values in
      subst (λ n. IsFilledBut (slots_behind_node context n) Passed slot.is_nullable slot.is_nullable (single (structured name)) value (object found)) there.behind
      (subst (λ s. IsFilledBut here Passed slot.is_nullable slot.is_nullable (single (structured s)) value (object found)) (sym named) (
        fields shown,
        record_seen here Passed (object found) ps values.items refl seen,
        subst (λ (v : Val). AreAlike Passed v (fields shown)) (sym same) (alike_records stored shown seen.agrees),
      ))

  pub record_filled : (value : Value) → IsRecordOf values value → (depth from to : ℕ) → 0 < depth → from < length context.line → get_or context.line from 32 ≡ 123
      → FillsMembers context type (depth - 1) values.items (from + 1) to → FillsValue context slot Record depth value from to
  record_filled value is depth from to some within opens members = (
    object_to depth context.line from to (λ found. FitSlotsBut (slots_behind_node context type.node) (names_passed context) (object found) (properties_at context.schema.now type.type_id) values.items) (IsFilledInBut context slot Record value) some within opens
        (filled_record_but value is) members.0 members.1,
    (object members.2.0, filled_record value is members.2.0 members.2.1),
  )

-- ---- lists

module _ (context : ReadContext) (slot : RowSlot) where
  abbrev node_slots : Slots
  node_slots = slots_behind_node context slot.node

  abbrev item_type : SingleType
  item_type = type_of (kinds_of context.schema.now context.plan.now.plans.items slot) slot.item

  filled_list : (items : Vec Value Global) (jsons : Jsons) → AreFilled (slots_behind_node context slot.node) slot.is_nullable (type_of (kinds_of context.schema.now context.plan.now.plans.items slot) slot.item) items.items jsons
      → IsFilledIn context slot Items (ListOf items) (array jsons)
  filled_list items jsons fits = (list_held node_slots slot.is_nullable item_type items jsons fits.0, list_holds node_slots item_type items fits.1)

  pub list_filled : (items : Vec Value Global) (depth from to : ℕ) → 0 < depth → from < length context.line → get_or context.line from 32 ≡ 91 → FillsItems context slot (depth - 1) items.items (from + 1) to → FillsValue context slot Items depth (ListOf items) from to
  list_filled items depth from to some within is read = (
    array_to depth context.line from to (AreFilledBut node_slots (names_passed context) slot.is_nullable item_type items.items) (IsFilledInBut context slot Items (ListOf items)) some within is (list_but node_slots (names_passed context) slot.is_nullable item_type items)
        read.0 read.1,
    (array read.2.0, filled_list items read.2.0 read.2.1),
  )

  -- ---- items one after another

  none_filled : (items : List Value) → items ≡ [] → AreFilled (slots_behind_node context slot.node) slot.is_nullable (type_of (kinds_of context.schema.now context.plan.now.plans.items slot) slot.item) items no_items
  none_filled items none = (subst (λ vs. FitList node_slots slot.is_nullable item_type no_items vs) (sym none) tt, subst (HoldInItems node_slots item_type) (sym none) refl)

  none_but : (items : List Value) → items ≡ [] → AreFilledBut (slots_behind_node context slot.node) (names_passed context) slot.is_nullable (type_of (kinds_of context.schema.now context.plan.now.plans.items slot) slot.item) items no_items
  none_but items none = subst (λ vs. AreFilledBut node_slots (names_passed context) slot.is_nullable item_type vs no_items) (sym none) tt

  one_more : (IsSingle slot.item) → (found : Jsons) (json : Data) (items : List Value) (v : Value) → AreFilled (slots_behind_node context slot.node) slot.is_nullable (type_of (kinds_of context.schema.now context.plan.now.plans.items slot) slot.item) items found
      → IsFilledIn context slot slot.item v json
      → AreFilled (slots_behind_node context slot.node) slot.is_nullable (type_of (kinds_of context.schema.now context.plan.now.plans.items slot) slot.item) (items ++ v ∷ []) (append_items found (item json no_items))
  one_more some found json items v fits here =
      let is = of_filled node_slots (kinds_of context.schema.now context.plan.now.plans.items slot) slot.is_nullable slot.item slot.item v json some here in
      (fit_push node_slots slot.is_nullable item_type found items json v fits.0 is.0, holds_push node_slots item_type items v fits.1 is.1)

  -- the first items before an offset are those that were read
  abbrev pub ListUpTo : ℕ → ℕ → ℕ → List Value → Type 0
  ListUpTo depth from place items =
      ItemsUpTo depth context.line from place (AreFilledBut (slots_behind_node context slot.node) (names_passed context) slot.is_nullable (type_of (kinds_of context.schema.now context.plan.now.plans.items slot) slot.item) items)

  -- and are those of some items
  abbrev pub ItemsAlone : List Value → Type 0
  ItemsAlone items = (jsons : Jsons) × AreFilled (slots_behind_node context slot.node) slot.is_nullable (type_of (kinds_of context.schema.now context.plan.now.plans.items slot) slot.item) items jsons

  pub list_start : (depth from place : ℕ) (items : List Value) → PassesSpaces context.line from place → ListUpTo depth from place (take 0 items)
  list_start depth from place items passed = items_begin depth context.line from place (AreFilledBut node_slots (names_passed context) slot.is_nullable item_type (take 0 items)) passed (none_but (take 0 items) (take_none items))

  pub none_alone : (items : List Value) → ItemsAlone (take 0 items)
  none_alone items = (no_items, none_filled (take 0 items) (take_none items))

  module _ (some : IsSingle slot.item) (depth from place end : ℕ) (before held : List Value) (count : ℕ) (v : Value) (kept : take count held ≡ take count before) (within : count < length held) where
    pushed : take (count + 1) (slice_set held count v) ≡ take count before ++ v ∷ []
    pushed = take_more_set held count v within ∙ ap (λ vs. vs ++ v ∷ []) kept

    more : (found : Jsons) (json : Data) → AreFilledBut (slots_behind_node context slot.node) (names_passed context) slot.is_nullable (type_of (kinds_of context.schema.now context.plan.now.plans.items slot) slot.item) (take count before) found
        → IsFilledInBut context slot slot.item v json
        → AreFilledBut (slots_behind_node context slot.node) (names_passed context) slot.is_nullable (type_of (kinds_of context.schema.now context.plan.now.plans.items slot) slot.item) (take (count + 1) (slice_set held count v)) (append_items found (item json no_items))
    more found json filled here =
        let is = of_but node_slots (names_passed context) (kinds_of context.schema.now context.plan.now.plans.items slot) slot.is_nullable slot.item slot.item v json some here in
        subst (λ vs. AreFilledBut node_slots (names_passed context) slot.is_nullable item_type vs (append_items found (item json no_items))) (sym pushed)
        (but_push node_slots (names_passed context) slot.is_nullable item_type (take count before) found v json filled is)

    pub list_comma : (comma next : ℕ) → ListUpTo depth from place (take count before) → FillsValue context slot slot.item depth v place end → PassesSpaces context.line end comma → comma < length context.line → get_or context.line comma 32 ≡ 44 → PassesSpaces context.line (comma + 1) next
        → ListUpTo depth from next (take (count + 1) (slice_set held count v))
    list_comma comma next so_far value passed inside is more_spaces =
        item_and_comma depth context.line from place end comma next (AreFilledBut node_slots (names_passed context) slot.is_nullable item_type (take count before))
        (AreFilledBut node_slots (names_passed context) slot.is_nullable item_type (take (count + 1) (slice_set held count v))) (IsFilledInBut context slot slot.item v) more so_far value.0 passed inside is more_spaces

    pub one_alone : ItemsAlone (take count before) → FillsValue context slot slot.item depth v place end → ItemsAlone (take (count + 1) (slice_set held count v))
    one_alone alone value =
        let json = value.1.0 in (
          append_items alone.0 (item json no_items),
          subst (λ vs. AreFilled node_slots slot.is_nullable item_type vs (append_items alone.0 (item json no_items))) (sym pushed) (one_more some alone.0 json (take count before) v alone.1 value.1.1),
        )

    pub list_bracket : (bracket : ℕ) → ListUpTo depth from place (take count before) → ItemsAlone (take count before) → FillsValue context slot slot.item depth v place end → PassesSpaces context.line end bracket → bracket < length context.line
        → get_or context.line bracket 32 ≡ 93 → FillsItems context slot depth (take (count + 1) (slice_set held count v)) from (bracket + 1)
    list_bracket bracket so_far alone value passed inside is = (
      (omega (arith, so_far.bounds.0, value.0.bounds.0, passed.bounds.0), omega (arith, inside)),
      item_and_bracket depth context.line from place end bracket (AreFilledBut node_slots (names_passed context) slot.is_nullable item_type (take count before))
          (AreFilledBut node_slots (names_passed context) slot.is_nullable item_type (take (count + 1) (slice_set held count v))) (IsFilledInBut context slot slot.item v) more so_far value.0 passed inside is,
      one_alone alone value,
    )

  pub no_list : (depth from bracket : ℕ) (items : List Value) → bracket < length context.line → get_or context.line bracket 32 ≡ 93 → PassesSpaces context.line from bracket → FillsItems context slot depth (take 0 items) from (bracket + 1)
  no_list depth from bracket items within is passed = (
    (omega (arith, passed.bounds.0), omega (arith, within)),
    no_items_read depth context.line from bracket (AreFilledBut node_slots (names_passed context) slot.is_nullable item_type (take 0 items)) passed within is (none_but (take 0 items) (take_none items)),
    none_alone items,
  )

-- ---- white space

pub filled_behind : (context : ReadContext) (slot : RowSlot) (task : Task) (depth : ℕ) (v : Value) (from place to : ℕ) → PassesSpaces context.line from place → FillsValue context slot task depth v place to → FillsValue context slot task depth v from to
filled_behind context slot task depth v from place to passed value = (reads_behind depth context.line from place to (IsFilledInBut context slot task v) passed value.0, value.1)
