-- A row that is the whole line, and an entity of it.
use Rattle.std.proofs.Common.{◌≡◌, ◌≢◌, ⊎_elim, ◌++◌, take, ℕ, zero, suc, ◌+◌, ◌-◌, ◌<◌, List, [], ◌∷◌, length, get_or, arith, Bool, true, false, Option, Some, Vec, Global, IfSome, map, slice_get, refl, sym, ap, ◌∙◌, subst}
use Rattle.std.proofs.lemmas.List.{take_at}
use Rattle.std.specs.List.{AllByRecursion}
use Rattle.json.specs.Json.{value as json_value}
use Rattle.json.specs.Lex.{after_value, fresh}
use Rattle.std.specs.Str.{IsUtf8}
use Rattle.serde_json.specs.Data.{Data, Members, object}
use Rattle.serde_json.specs.Find.{get, get_member}
use Rattle.serde_json.specs.Read.{converted, of_json, read}
use Rattle.json_room.proofs.LexemeLemmas.{ends_at_end, none_left}
use Rattle.json_room.specs.private.Lexemes.{PassesSpaces}
use Rattle.json_room.specs.Lexemes.{tokens_at}
use Rattle.csdl_schema.specs.ExpansionView.{StepModel}
use Rattle.csdl_schema.specs.ExprType.{single, structured}
use Rattle.csdl_schema.specs.SchemaModel.{HasDistinctNames, HoldsType, PropertyModel, SchemaModel, properties_at, slots_behind, slots_of, type_name_at}
use Rattle.edm_values.specs.SieveMeaning.{Rejects}
use Rattle.edm_values.specs.Val.{FieldVal, Val, fields, present}
use Rattle.edm_values.specs.declared.value.Value.{Value, Record}
use Rattle.edm_row_plans.specs.Expanded.{slots_at}
use Rattle.edm_entities.specs.Fits.{FitsProperty}
use Rattle.edm_entities.specs.Row.{IsEntity, expanded_by, field_by_name, row_with, val_of}
use Rattle.edm_rows.specs.RowReading.{IsLineBut, Names}
use Rattle.edm_rows.specs.private.Passed.{FitSlotsBut, IsRowValue, every_name}
use Rattle.edm_rows.specs.Alike.{AreAlike, alike_records}
use Rattle.edm_rows.proofs.AlikeValues.{alike_but}
use Rattle.edm_rows.proofs.SlotMarks.{IsUnmarked, mapped_at}
use Rattle.edm_rows.proofs.TypesKept.{by_marks}
use Rattle.edm_rows.proofs.RowLemmas.Passing.{record_seen, seen_record}
use Rattle.json_room.specs.private.ItemTokens.{ReadsMembers}
use Rattle.json_room.proofs.Tokens.{whole_read}
use Rattle.edm_entities.proofs.SlotLemmas.ReadEntities.{is_entity, val_of-Record}
use Rattle.json_room.specs.ValueStands.{ValueStands}
use Rattle.edm_rows.specs.RowItems.{IsJsonBut, IsJsonLeftOut}
use Rattle.edm_rows.specs.RowsOfType.{IsLeftOut, RowsOfType, TypeMarks, names_unkept, row_held}
use Rattle.edm_rows.specs.declared.kept_leaf.Taken.{Taken}
use Rattle.edm_rows.specs.declared.kept_leaf.Taken.TheVariants.{Broken, Nothing, Put, Rejected}
use Rattle.edm_rows.specs.declared.passed_value.ReadContext.{ReadContext}
use Rattle.json_room.proofs.Places.{object_to, reads_to_as, spaces_at}
use Rattle.json_room.specs.private.ValuesStand.{PassesTo}
use Rattle.edm_rows.specs.declared.row_types.RowSlot.{RowSlot}
use Rattle.edm_rows.specs.declared.row_types.RowType.{RowType}
use Rattle.edm_rows.specs.private.HeldRows.{IsTakenWhole, IsTakenWithin, ReadsRowAt, TakesMembers, TakesObject, first_slots, keeps_of, marks_at, marks_of}
use Rattle.edm_rows.specs.private.KeptRows.{IsRowRejected, ReadsRow, TakesFound, TakesRow, names_left, names_unkept_in, names_unkept_of, root_properties}
use Rattle.edm_rows.proofs.TypesChanged.{first_slots_are}

module _ (schema : SchemaModel) (id : ℕ) (steps : List StepModel) (held : HoldsType schema id) (distinct : HasDistinctNames (properties_at schema id)) where
  -- a value that fits some object whole is an entity
  pub value_entity : (value : Value) → IsRowValue (slots_at schema steps (Some 0)) (properties_at schema id) value → IsEntity (row_with schema id steps value)
  value_entity value is = subst (λ (v : Value). IsEntity (row_with schema id steps v)) (sym is.1) (is_entity schema id steps (object is.2.0) is.0 held distinct refl is.2.1)

  pub json_but : (Passed : Names) (found : Members) (values : Vec Value Global) → FitSlotsBut (slots_at schema steps (Some 0)) Passed (object found) (properties_at schema id) values.items
      → IsJsonBut (object found) Passed (row_with schema id steps (Record values))
  json_but Passed found values but =
      let slots = expanded_by schema steps in
      let ps = properties_at schema id in
      let json = object found in
      let seen = seen_record slots Passed (λ name. get name json) ps values.items distinct but in
      let whole : List ℕ → FieldVal = field_by_name slots.properties ps seen.seens in
      let kept : List ℕ → FieldVal = field_by_name slots.properties ps (map val_of values.items) in
      record {
        whole = fields whole;
        fits = record_seen slots Passed json ps values.items refl seen;
        alike =
            subst (λ (v : Val). AreAlike Passed v (fields whole)) (sym (val_of-Record (slots_of schema) (single (structured (type_name_at schema id))) values))
            (alike_records kept whole seen.agrees);
      }

-- what holds of each property holds of one of them
at_slot : (P Q : PropertyModel → Type 0) (R : Type 0) (ps : List PropertyModel) (n : ℕ) (name : List ℕ) → AllByRecursion P ps → IfSome (slice_get ps n) Q → slice_get (map (λ p. p.name) ps) n ≡ Some name
    → ((p : PropertyModel) → p.name ≡ name → P p → Q p → R) → R
at_slot P Q R [] n name all here at by = absurd (cc)
at_slot P Q R (p ∷ ps) zero name all here at by = by p (cc) all.0 here
at_slot P Q R (p ∷ ps) (suc n) name all here at by = at_slot P Q R ps n name all.1 here at by

sieve_at : (rows : List RowSlot) (n : ℕ) (s : RowSlot) → slice_get rows n ≡ Some s → slice_get (map (λ r. r.sieve) rows) n ≡ Some s.sieve
sieve_at [] n s at = absurd (cc)
sieve_at (r ∷ rows) zero s at = let same : r ≡ s = cc in ap (λ (x : RowSlot). Some x.sieve) same
sieve_at (r ∷ rows) (suc n) s at = sieve_at rows n s at

-- JSON of which a value is rejected
pub json_left_out : (context : ReadContext) (kept : List TypeMarks) (is_ready : Bool) (value : Value) (slots : List RowSlot) (found : Members) → HasDistinctNames (root_properties context) → IsRowRejected context slots found
    → IsJsonLeftOut (object found) (record { schema = context.schema.now; type_id = context.plan.now.type_id; expansion = context.plan.now.expansion; is_whole = context.plan.now.is_whole; kept = kept; sieves = map (λ s. s.sieve) slots; is_ready = is_ready; value = value })
json_left_out context kept is_ready value slots found distinct rejected =
    let props = slots_at context.schema.now context.plan.now.expansion (Some 0) in
    let ps = root_properties context in
    let json = object found in
    let seen = seen_record props every_name (λ name. get name json) ps rejected.fits.0 distinct rejected.fits.1 in
    let whole : List ℕ → FieldVal = field_by_name props.properties ps seen.seens in
    let fits = record_seen props every_name json ps rejected.fits.0 refl seen in
    let held = at_slot (λ p. FitsProperty (slots_behind props p.name) p.nullable p.type_of (get p.name json) (whole p.name))
    (λ p. FitsProperty (slots_behind props p.name) p.nullable p.type_of (Some rejected.json) (whole rejected.name) → (v : Val) × (whole rejected.name ≡ present v) × Rejects rejected.slot.sieve v)
    ((v : Val) × (whole rejected.name ≡ present v) × Rejects rejected.slot.sieve v) ps rejected.slot.index rejected.name fits.each_fits (rejected.rejected.1 (whole rejected.name)) rejected.named
    (λ p named here by. by (subst (λ (o : Option Data). FitsProperty (slots_behind props p.name) p.nullable p.type_of o (whole rejected.name)) (ap (λ (n : List ℕ). get_member n found) named ∙ rejected.is_found)
    (subst (λ (n : List ℕ). FitsProperty (slots_behind props p.name) p.nullable p.type_of (get p.name json) (whole n)) named here))) in
    record {
      whole = whole;
      fits = fits;
      slot = rejected.slot.index;
      name = rejected.name;
      named = rejected.named;
      sieve = rejected.slot.sieve;
      is_sieve = sieve_at slots rejected.slot.index rejected.slot rejected.is_slot;
      value = held.0;
      held = held.1;
      rejected = held.2;
    }

-- values that are written back over as many
pub members_back : (context : ReadContext) (type : RowType) (values rest : List Value) (count from : ℕ) (taken : Taken) → (taken ≢ Broken → length values ≡ count) → TakesRow context type values from taken → TakesRow context type (take count (values ++ rest)) from taken
members_back context type values rest count from Nothing long took = tt
members_back context type values rest count from Broken long took = tt
members_back context type values rest count from (Put to) long took =
    subst (λ (l : List Value). ReadsRow context type false l from to) (sym (take_at values rest count (long (λ e. absurd (cc))))) took
members_back context type values rest count from (Rejected to) long took =
    subst (λ (l : List Value). ReadsRow context type true l from to) (sym (take_at values rest count (long (λ e. absurd (cc))))) took

-- ---- a row that begins at an offset

-- an object whose members are so
pub object_at : (context : ReadContext) (P : Members → Type 0) (place to : ℕ) → place < length context.line → get_or context.line place 32 ≡ 123
    → PassesTo context.line (place + 1) to × ReadsMembers context.depth (tokens_at fresh context.line (place + 1)) (tokens_at after_value context.line to) P
    → ValueStands (context.depth + 1) context.line place to (λ json. (found : Members) × (json ≡ object found) × P found)
object_at context P place to within opens reads =
    let same : context.depth ≡ context.depth + 1 - 1 = omega arith in
    object_to (context.depth + 1) context.line place to P (λ json. (found : Members) × (json ≡ object found) × P found) (omega arith) within opens
    (λ found holds. (found, refl, holds)) reads.0
    (subst (λ (d : ℕ). ReadsMembers d (tokens_at fresh context.line (place + 1)) (tokens_at after_value context.line to) P) same reads.1)

pub object_taken : (context : ReadContext) (row : Value) (values : Vec Value Global) (place : ℕ) (taken : Taken) → row ≡ Record values → place < length context.line → get_or context.line place 32 ≡ 123
    → TakesMembers context values.items (place + 1) taken → TakesObject context row place taken
object_taken context row values place Nothing is within opens took = tt
object_taken context row values place Broken is within opens took = tt
object_taken context row values place (Put to) is within opens took = (values, is, (took.0, took.1, object_at context (TakesFound context took.0 false values.items) place to within opens took.2))
object_taken context row values place (Rejected to) is within opens took = (values, is, (took.0, took.1, object_at context (TakesFound context took.0 true values.items) place to within opens took.2))

-- ---- the reader of these rows

-- what a context's reader stands for, whose types and whose row are these
abbrev rows_on : ReadContext → List RowType → Bool → Value → RowsOfType
rows_on context types is_ready row = record {
  schema = context.schema.now;
  type_id = context.plan.now.type_id;
  expansion = context.plan.now.expansion;
  is_whole = context.plan.now.is_whole;
  kept = marks_of types;
  sieves = map (λ s. s.sieve) (first_slots types);
  is_ready = is_ready;
  value = row;
}

-- what became of an item
module _ (context : ReadContext) (row : Value) (taken : Taken) (place to : ℕ) (is_ready : Bool) (text : List ℕ) (types : List RowType) (depth : ℕ) (took : TakesObject context row place taken) (same : context.line ≡ text) (are : context.types.now ≡ types) (as_deep : context.depth ≡ depth)
    (held : HoldsType context.schema.now context.plan.now.type_id) (distinct : HasDistinctNames (root_properties context)) where
  item_as : (P Q : Data → Type 0) → ((json : Data) → P json → Q json) → ValueStands (context.depth + 1) context.line place to P → ValueStands (depth + 1) text place to Q
  item_as P Q by reads =
      let there = subst (λ (l : List ℕ). ValueStands (depth + 1) l place to P) same (subst (λ (d : ℕ). ValueStands (d + 1) context.line place to P) as_deep reads) in
      reads_to_as (depth + 1) text place to P Q by there

  pub item_taken : ((type : RowType) → slice_get types 0 ≡ Some type → type.type_id ≡ context.plan.now.type_id) → taken ≡ Taken.Put to
      → ValueStands (depth + 1) text place to (λ json. IsJsonBut json (names_unkept (rows_on context types is_ready row)) (row_held (rows_on context types is_ready row)))
  item_taken first is =
      let there = subst (TakesObject context row place) is took in
      let values = there.0 in
      let type = there.2.0 in
      let at = subst (λ (l : List RowType). slice_get l 0 ≡ Some type) are there.2.1 in
      let Fewer : Names = names_left context type.slots.items in
      let All : Names = names_unkept (rows_on context types is_ready row) in
      let own : ((name : List ℕ) → names_unkept_in (root_properties context) type.slots.items name → All name) = λ name un. (0, marks_at type, mapped_at marks_at types 0 type at, subst (λ (i : ℕ). IsUnmarked (properties_at context.schema.now i) (keeps_of type) name) (sym (first type at)) un) in
      let more : ((name : List ℕ) → Fewer name → All name) = λ name. ⊎_elim (own name) (λ passed. by_marks context.schema.now types name (subst (λ (l : List RowType). names_unkept_of context.schema.now l name) are passed)) in
      let Kept : (Value → Data → Type 0) = λ v json. IsJsonBut json All (row_with context.schema.now context.plan.now.type_id context.plan.now.expansion v) in
      item_as (λ json. (found : Members) × (json ≡ object found) × TakesFound context type false values.items found) (Kept row)
      (λ json reads.
      let but = json_but context.schema.now context.plan.now.type_id context.plan.now.expansion held distinct Fewer reads.0 values reads.2 in
      let wider : Kept (Record values) (object reads.0) = record { whole = but.whole; fits = but.fits; alike = alike_but Fewer All more _ _ but.alike } in
      subst (λ (j : Data). Kept row j) (sym reads.1) (subst (λ (v : Value). Kept v (object reads.0)) (sym there.1) wider))
      there.2.2

  pub item_left_out : taken ≡ Taken.Rejected to → ValueStands (depth + 1) text place to (λ json. IsJsonLeftOut json (rows_on context types is_ready row))
  item_left_out is =
      let there = subst (TakesObject context row place) is took in
      let values = there.0 in
      let type = there.2.0 in
      let first = ap first_slots (sym are) ∙ first_slots_are context.types.now type there.2.1 in
      let kept = marks_of types in
      let Out : (List RowSlot → Data → Type 0) = λ slots json. IsJsonLeftOut json (record { schema = context.schema.now; type_id = context.plan.now.type_id; expansion = context.plan.now.expansion; is_whole = context.plan.now.is_whole; kept = kept; sieves = map (λ s. s.sieve) slots; is_ready = is_ready; value = row }) in
      item_as (λ json. (found : Members) × (json ≡ object found) × TakesFound context type true values.items found) (λ json. Out (first_slots types) json)
      (λ json reads.
      let out = json_left_out context kept is_ready row type.slots.items reads.0 distinct reads.2 in
      subst (λ (j : Data). Out (first_slots types) j) (sym reads.1) (subst (λ (l : List RowSlot). Out l (object reads.0)) (sym first) out))
      there.2.2

-- what holds of each way that a row may be taken, holds of what was taken
pub by_way : (P : Taken → Type 0) (taken : Taken) → ((to : ℕ) → taken ≡ Put to → P (Put to)) → ((to : ℕ) → taken ≡ Rejected to → P (Rejected to)) → P Nothing → P Broken → P taken
by_way P Nothing put rejected none broken = none
by_way P Broken put rejected none broken = broken
by_way P (Put to) put rejected none broken = put to refl
by_way P (Rejected to) put rejected none broken = rejected to refl

-- a row that is not broken is whole
pub whole_unless : (is_whole : Bool) (taken : Taken) → (is_whole ≡ false → taken ≡ Broken) → taken ≢ Broken → is_whole ≡ true
whole_unless true taken broken other = refl
whole_unless false taken broken other = absurd (other (broken refl))

-- ---- the whole line

-- a value that is the whole text, but for white space
pub whole_value : (text : List ℕ) (begin to : ℕ) (P : Data → Type 0) → PassesSpaces text 0 begin → PassesSpaces text to (length text) → ValueStands 127 text begin to P → (json : Data) × (read text ≡ Some json) × P json
whole_value text begin to P passed last stands =
    let over = ends_at_end text to (length text) last refl in
    let is = stands.reads fresh refl (record { ends = over.ends; no_colon = over.no_colon }) in
    let started = ap (λ ts. converted of_json (json_value 127 ts)) (sym (spaces_at fresh text 0 begin passed)) in
    let ended : tokens_at after_value text to ≡ [] = none_left after_value text to (length text) refl last refl in
    (is.json, whole_read text is.json (started ∙ is.is_read ∙ ap (λ left. Some (is.json, left)) ended), is.holds)

module _ (text : List ℕ) (begin to : ℕ) (rows : RowsOfType) (taken : Taken) (utf8 : IsUtf8 text) (passed : PassesSpaces text 0 begin) (last : IsTakenWhole text taken) (reads : ReadsRowAt 126 text begin rows taken) where
  pub line_kept : taken ≡ Taken.Put to → IsLineBut text (names_unkept rows) (row_held rows)
  line_kept is =
      let whole = whole_value text begin to (λ json. IsJsonBut json (names_unkept rows) (row_held rows)) passed (subst (IsTakenWhole text) is last) (subst (ReadsRowAt 126 text begin rows) is reads) in
      let of_json = whole.2 in
      record { json = whole.0; is_json = (utf8, whole.1); whole = of_json.whole; fits = of_json.fits; alike = of_json.alike }

  pub line_left_out : taken ≡ Taken.Rejected to → IsLeftOut text rows
  line_left_out is =
      let whole = whole_value text begin to (λ json. IsJsonLeftOut json rows) passed (subst (IsTakenWhole text) is last) (subst (ReadsRowAt 126 text begin rows) is reads) in
      let out = whole.2 in
      record {
        json = whole.0;
        is_json = (utf8, whole.1);
        whole = out.whole;
        fits = out.fits;
        slot = out.slot;
        name = out.name;
        named = out.named;
        sieve = out.sieve;
        is_sieve = out.is_sieve;
        value = out.value;
        held = out.held;
        rejected = out.rejected;
      }

-- what was read ends within the text
pub ends_within : (depth : ℕ) (text : List ℕ) (place : ℕ) (rows : RowsOfType) (taken : Taken) → ReadsRowAt depth text place rows taken → IsTakenWithin text taken
ends_within depth text place rows Nothing reads = tt
ends_within depth text place rows Broken reads = tt
ends_within depth text place rows (Put to) reads = reads.bounds.1
ends_within depth text place rows (Rejected to) reads = reads.bounds.1
