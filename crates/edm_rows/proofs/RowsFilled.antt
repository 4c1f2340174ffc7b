-- A row that is the whole line, all of whose values are filled.
use Rattle.std.proofs.Common.{◌≡◌, ◌+◌, ◌<◌, ℕ, List, length, get_or, false, Option, Some, Vec, Global, sym, ap, ◌∙◌, subst}
use Rattle.std.specs.Str.{IsUtf8}
use Rattle.json.specs.Lex.{fresh, after_value}
use Rattle.serde_json.specs.Data.{Data, Members, object}
use Rattle.serde_json.specs.Read.{read}
use Rattle.json_room.specs.private.Lexemes.{PassesSpaces}
use Rattle.json_room.specs.Lexemes.{tokens_at}
use Rattle.csdl_schema.specs.ExprType.{single, structured}
use Rattle.csdl_schema.specs.SchemaModel.{HasDistinctNames, HoldsType, properties_at, type_name_at}
use Rattle.edm_values.specs.declared.value.Value.{Value, Record}
use Rattle.edm_entities.specs.Row.{IsEntity, row_with, slots_for, value_of}
use Rattle.json_room.specs.private.ItemTokens.{ReadsMembers}
use Rattle.edm_rows.specs.RowLayout.{IsRowOfLine}
use Rattle.edm_rows.specs.declared.passed_value.ReadContext.{ReadContext}
use Rattle.edm_rows.specs.declared.row_types.RowType.{RowType}
use Rattle.edm_rows.specs.private.Contexts.{slots_behind_node}
use Rattle.edm_rows.specs.private.Filled.{FillsMembers}
use Rattle.json_room.specs.ValueStands.{ValueStands}
use Rattle.edm_rows.specs.private.KeptRows.{IsRootType, RowConforms, names_passed, root_properties}
use Rattle.edm_rows.specs.private.Passed.{FitSlotsBut}
use Rattle.edm_rows.proofs.AlikeFits.{fits_alike}
use Rattle.edm_rows.specs.private.LayoutRows.{FillsRow}
use Rattle.edm_rows.proofs.RowsRead.{json_but, object_at, value_entity, whole_value}

-- the members of the object that is the whole line
pub row_filled : (context : ReadContext) (type : RowType) (row : Value) (values : Vec Value Global) (begin to : ℕ) → IsRootType context type → context.depth ≡ 126 → row ≡ Record values → PassesSpaces context.line 0 begin → begin < length context.line
    → get_or context.line begin 32 ≡ 123 → FillsMembers context type context.depth values.items (begin + 1) to → PassesSpaces context.line to (length context.line) → FillsRow context row
row_filled context type row values begin to root depth is passed within opens members last =
    let schema = context.schema.now in
    let line = context.line in
    let Fit : (Option ℕ → ℕ → Members → Type 0) = λ node id found. FitSlotsBut (slots_behind_node context node) (names_passed context) (object found) (properties_at schema id) values.items in
    let Alone : (Option ℕ → ℕ → Type 0) = λ node id. RowConforms (slots_behind_node context node) (properties_at schema id) values.items in
    let Members_at : (Option ℕ → ℕ → Type 0) = λ node id. ReadsMembers context.depth (tokens_at fresh line (begin + 1)) (tokens_at after_value line to) (Fit node id) in
    let Fits = Fit (Some 0) context.plan.now.type_id in
    let Whole : (Data → Type 0) = λ json. (found : Members) × (json ≡ object found) × Fits found in
    let there : Members_at (Some 0) context.plan.now.type_id = subst (Members_at (Some 0)) root.type_id (subst (λ node. Members_at node type.type_id) root.node members.1) in
    let alone : Alone (Some 0) context.plan.now.type_id = subst (Alone (Some 0)) root.type_id (subst (λ node. Alone node type.type_id) root.node members.2) in
    let reads : ValueStands (context.depth + 1) line begin to Whole = object_at context Fits begin to within opens (members.0, there) in
    let json = whole_value line begin to Whole passed last (subst (λ (d : ℕ). ValueStands (d + 1) line begin to Whole) depth reads) in
    record { values = values; is_record = is; found = json.2.0; is_read = json.1 ∙ ap Some json.2.1; fits = json.2.2; conforms = alone }

-- ---- the entity of it

module _ (context : ReadContext) (row : Value) (held : HoldsType context.schema.now context.plan.now.type_id) (distinct : HasDistinctNames (root_properties context)) (fills : FillsRow context row) where
  pub filled_entity : IsEntity (row_with context.schema.now context.plan.now.type_id context.plan.now.expansion row)
  filled_entity = value_entity context.schema.now context.plan.now.type_id context.plan.now.expansion held distinct row (fills.values, fills.is_record, fills.conforms)

  -- where nothing is passed over, what the line has fits the row
  pub filled_line : ((name : List ℕ) → ¬ names_passed context name) → (line : List ℕ) → IsUtf8 line → context.line ≡ line → IsRowOfLine line (row_with context.schema.now context.plan.now.type_id context.plan.now.expansion row)
  filled_line none line utf8 same =
      let schema = context.schema.now in
      let id = context.plan.now.type_id in
      let steps = context.plan.now.expansion in
      let json = object fills.found in
      let filled = row_with schema id steps (Record fills.values) in
      let but = json_but schema id steps held distinct (names_passed context) fills.found fills.values fills.fits in
      subst (λ (v : Value). IsRowOfLine line (row_with schema id steps v)) (sym fills.is_record) (record {
        json = json;
        is_json = (utf8, ap read (sym same) ∙ fills.is_read);
        fits = fits_alike (names_passed context) none (slots_for filled) false (single (structured (type_name_at schema id))) json (value_of filled) but.whole but.alike but.fits;
      })
