-- The members of an object that fill the slots of a record.
use Rattle.std.proofs.Common.{◌≡◌, ◌⊎◌, inl, inr, ⊎_elim, ℕ, zero, suc, ◌+◌, ◌^◌, ◌<◌, ◌≤◌, List, [], ◌∷◌, length, map, slice_get, slice_set, get_or, Bool, true, false, Option, None, Some, IfSome, refl, sym, ◌∙◌, subst, arith}
use Rattle.std.specs.Int.{bit_at}
use Rattle.std.specs.Prelude.{bit_or, replicate}
use Rattle.std.proofs.lemmas.Bool.{cases_lt, true≢false}
use Rattle.serde_json.specs.Data.{Data, Members, no_members, object, put}
use Rattle.csdl_schema.specs.SchemaModel.{HasDistinctNames, PropertyModel, Slots, properties_at, slots_behind}
use Rattle.edm_values.specs.declared.value.Value.{Value, Null}
use Rattle.edm_entities.specs.Row.{ValAtType, val_of}
use Rattle.edm_rows.specs.Alike.{Names}
use Rattle.edm_rows.specs.private.KeptRows.{RowConforms, names_passed}
use Rattle.edm_rows.specs.private.KeptSoFar.{SameMarks}
use Rattle.edm_rows.specs.private.Passed.{FitSlotsBut, FitsSeen, FitsSomeProperty, MayBeAbsent, SeenAlike, SlotsSoFarBut}
use Rattle.json_room.specs.private.ItemTokens.{ReadsMembers}
use Rattle.edm_rows.specs.private.SlotsSoFar.{HoldEachSoFar, HoldsSoFar, SlotsSoFar}
use Rattle.edm_entities.specs.private.Walk.{FitsSlot, HoldEach, HoldsInSlot}
use Rattle.std.proofs.lemmas.List.{length-set}
use Rattle.json.specs.Lex.{fresh, after_value}
use Rattle.edm_rows.proofs.RowLemmas.Passing.{others_passed, passed_set, passed_start}
use Rattle.edm_rows.proofs.SlotsHeld.{found_in, slot_set, slots_start}
use Rattle.edm_entities.proofs.SlotLemmas.EachSlot.{null_in_slot}
use Rattle.json_room.specs.private.Lexemes.{PassesSpaces}
use Rattle.json_room.specs.Lexemes.{tokens_at}
use Rattle.edm_rows.specs.declared.members.After.{After}
use Rattle.edm_rows.specs.declared.passed_value.ReadContext.{ReadContext}
use Rattle.edm_rows.specs.declared.row_types.RowType.{RowType}
use Rattle.edm_rows.specs.private.Filled.{FilledRead, FilledUpTo, FillsSlots}
use Rattle.json_room.specs.ValueStands.{ValueStands}
use Rattle.json_room.specs.private.ValuesStand.{NamesTo}
use Rattle.edm_rows.specs.private.Members.{EndsMember, PassesOther}
use Rattle.seen_slots.specs.SlotBits.{bits_of}
use Rattle.edm_rows.specs.private.Contexts.{slots_behind_node}
use Rattle.edm_rows.proofs.KeptMembers.{marks_more, no_marks, none_long, two_bits}
use Rattle.edm_rows.proofs.KeptSlots.{kept_over}
use Rattle.json_room.proofs.Places.{brace_then, comma_then, member_then, members_begin, no_members_read}

-- ---- at the end each slot was filled, or is null and may be

over_slot : (slots : Slots) (found : List ℕ → Option Data) (p : PropertyModel) (b : Bool) (v w : Value) → (b ≡ true → Some w ≡ Some v) → (b ≡ false → MayBeAbsent slots p × (Some w ≡ Some Null)) → HoldsSoFar slots found p b v → FitsSlot slots found p w
over_slot slots found p true v w same absent fits = let one : Some w ≡ Some v = same refl in let two : w ≡ v = cc in subst (FitsSlot slots found p) (sym two) fits
over_slot slots found p false v w same absent none =
    let may = absent refl in
    let null : w ≡ Null = let one : Some w ≡ Some Null = may.1 in cc in
    subst (FitsSlot slots found p) (sym null)
    (subst (λ (o : Option Data). FitsSeen (slots_behind slots p.name) p.nullable p.type_of o (val_of Null)) (sym none) may.0, null_in_slot (slots_behind slots p.name) p.type_of Null refl)

pub filled_over : (slots : Slots) (found : List ℕ → Option Data) (ps : List PropertyModel) (filled : List Bool) (old new : List Value) → length new ≡ length ps
    → ((k : ℕ) → get_or filled k false ≡ true → slice_get new k ≡ slice_get old k)
    → ((k : ℕ) → get_or filled k false ≡ false → IfSome (slice_get ps k) (λ p. MayBeAbsent slots p × (slice_get new k ≡ Some Null))) → HoldEachSoFar (HoldsSoFar slots found) ps filled old → HoldEach (FitsSlot slots found) ps new
filled_over slots found [] filled old [] long same absent hold = tt
filled_over slots found [] filled old (w ∷ new) long same absent hold = absurd (omega (arith, long))
filled_over slots found (p ∷ ps) filled old [] long same absent hold = absurd (omega (arith, long))
filled_over slots found (p ∷ ps) [] old (w ∷ new) long same absent hold = absurd hold
filled_over slots found (p ∷ ps) (b ∷ filled) [] (w ∷ new) long same absent hold = absurd hold
filled_over slots found (p ∷ ps) (b ∷ filled) (v ∷ old) (w ∷ new) long same absent hold = (
  over_slot slots found p b v w (same 0) (absent 0) hold.0,
  filled_over slots found ps filled old new (omega (arith, long)) (λ k. same (suc k)) (λ k. absent (suc k)) hold.1,
)

past_end : {X : Type 0} (P : X → Type 0) (xs : List X) (k : ℕ) → length xs ≤ k → IfSome (slice_get xs k) P
past_end P [] zero past = tt
past_end P [] (suc k) past = tt
past_end P (x ∷ xs) zero past = absurd (omega (arith, past))
past_end P (x ∷ xs) (suc k) past = past_end P xs k (omega (arith, past))

-- a value that fits as a property, if one does
some_seen : (slots : Slots) (json : Data) (o : Option PropertyModel) → IfSome o (λ p. FitsSomeProperty (slots_behind slots p.name) p.nullable p.type_of (Some json))
    → (seen : ValAtType) × IfSome o (λ p. FitsSeen (slots_behind slots p.name) p.nullable p.type_of (Some json) seen)
some_seen slots json None some = (val_of Null, tt)
some_seen slots json (Some p) some = (some.0, some.1)

module _ (context : ReadContext) (type : RowType) (depth : ℕ) where
  abbrev slots : Slots
  slots = slots_behind_node context type.node

  abbrev ps : List PropertyModel
  ps = properties_at context.schema.now type.type_id

  abbrev Passed : Names
  Passed = names_passed context

  -- what was found among members so far, of which these slots were filled
  abbrev SoFar : List Bool → List Value → Members → Type 0
  SoFar filled values found = SlotsSoFarBut (slots_behind_node context type.node) (names_passed context) (properties_at context.schema.now type.type_id) found filled values

  pub filled_none : (from place : ℕ) (values : List Value) → PassesSpaces context.line from place → length values ≡ length (properties_at context.schema.now type.type_id) → FilledUpTo context type depth from place 0 values
  filled_none from place values passed long =
      let n = length (properties_at context.schema.now type.type_id) in
      record {
        filled = replicate n false;
        long = none_long n;
        marks = no_marks n;
        members = members_begin depth context.line from place (SoFar (replicate n false) values) passed (passed_start slots Passed ps n (replicate n false) values refl (omega arith) long);
        alone = (no_members, slots_start slots ps n (replicate n false) values refl (omega arith) long);
      }

  -- a member of a slot
  module _ (from place value end seen index : ℕ) (name : List ℕ) (values : List Value) (v : Value) (distinct : HasDistinctNames (properties_at context.schema.now type.type_id)) (within : index < length (properties_at context.schema.now type.type_id))
      (named : slice_get (map (λ p. p.name) (properties_at context.schema.now type.type_id)) index ≡ Some name) (json : Data)
      (fits : IfSome (slice_get (properties_at context.schema.now type.type_id) index) (λ p. FitsSeen (slots_behind (slots_behind_node context type.node) p.name) p.nullable p.type_of (Some json) (val_of v)))
      (holds : IfSome (slice_get (properties_at context.schema.now type.type_id) index) (λ p. HoldsInSlot (slots_behind (slots_behind_node context type.node) p.name) p.type_of v))
      (so_far : FilledUpTo context type depth from place seen values) (names : NamesTo context.line place name value) where
    read_on : (Q : Data → Type 0)
        → ((found : Members) (found_json : Data) → SoFar so_far.filled values found → Q found_json → SoFar (slice_set so_far.filled index true) (slice_set values index v) (put name found_json found))
        → ValueStands depth context.line value end Q → FilledRead context type depth from end (bit_or seen (2 ^ index)) (slice_set values index v)
    read_on Q by reads =
        let filled = slice_set so_far.filled index true in
        record {
          filled = filled;
          long = length-set so_far.filled index true ∙ so_far.long;
          marks = marks_more seen index so_far.filled (omega (arith, within, so_far.long)) so_far.marks;
          members = member_then depth context.line from place value end name (SoFar so_far.filled values) (SoFar filled (slice_set values index v)) Q by so_far.members names reads;
          alone = (put name json so_far.alone.0, slot_set slots so_far.alone.0 name json ps so_far.filled values index v distinct named fits holds so_far.alone.1);
        }

    -- whose value is alike to what is seen of it
    pub filled_slot : (Q : Data → Type 0)
        → ((found_json : Data) → Q found_json → (seen_as : ValAtType) × IfSome (slice_get (properties_at context.schema.now type.type_id) index) (λ p. FitsSeen (slots_behind (slots_behind_node context type.node) p.name) p.nullable p.type_of (Some found_json) seen_as)
        × IfSome (slice_get (properties_at context.schema.now type.type_id) index) (λ p. SeenAlike (slots_behind (slots_behind_node context type.node) p.name) (names_passed context) p.type_of (val_of v) seen_as))
        → ValueStands depth context.line value end Q → FilledRead context type depth from end (bit_or seen (2 ^ index)) (slice_set values index v)
    filled_slot Q alike =
        read_on Q (λ found found_json hold is.
        let seen_as = alike found_json is in
        passed_set slots Passed found name found_json ps so_far.filled values index v seen_as.0 distinct named seen_as.1 (inr seen_as.2) hold)

    -- or whose value is passed
    pub passed_slot : (Q : Data → Type 0) → names_passed context name
        → ((found_json : Data) → Q found_json → IfSome (slice_get (properties_at context.schema.now type.type_id) index) (λ p. FitsSomeProperty (slots_behind (slots_behind_node context type.node) p.name) p.nullable p.type_of (Some found_json)))
        → ValueStands depth context.line value end Q → FilledRead context type depth from end (bit_or seen (2 ^ index)) (slice_set values index v)
    passed_slot Q passed some =
        read_on Q (λ found found_json hold is.
        let seen_as = some_seen slots found_json (slice_get ps index) (some found_json is) in
        passed_set slots Passed found name found_json ps so_far.filled values index v seen_as.0 distinct named seen_as.1 (inl passed) hold)

  -- a member of no slot
  pub filled_other : (from place end seen : ℕ) (values : List Value) → FilledUpTo context type depth from place seen values → PassesOther depth context.line (properties_at context.schema.now type.type_id) place end → FilledRead context type depth from end seen values
  filled_other from place end seen values so_far (name, value, named, others, reads) =
      record {
        filled = so_far.filled;
        long = so_far.long;
        marks = so_far.marks;
        members = member_then depth context.line from place value end name (SoFar so_far.filled values) (SoFar so_far.filled values) (λ json. Unit {0})
            (λ found json hold _. others_passed slots Passed found name json ps so_far.filled values others hold) so_far.members named reads;
        alone = so_far.alone;
      }

  pub filled_comma : (from end next seen : ℕ) (values : List Value) → FilledRead context type depth from end seen values → EndsMember context.line end (After.Comma next) → FilledUpTo context type depth from next seen values
  filled_comma from end next seen values read ends =
      record {
        filled = read.filled;
        long = read.long;
        marks = read.marks;
        members = comma_then depth context.line from end next (SoFar read.filled values) read.members ends;
        alone = read.alone;
      }

  -- ---- at the brace

  module _ (may : (k : ℕ) → bit_at (bits_of type.optional.words) k ≡ 1 → IfSome (slice_get (properties_at context.schema.now type.type_id) k) (MayBeAbsent (slots_behind_node context type.node)))
      (as_many : length type.slots.items ≡ length (properties_at context.schema.now type.type_id)) (seen : ℕ) (old new : List Value) (fills : FillsSlots type seen old new) (long : length old ≡ length (properties_at context.schema.now type.type_id)) where
    absent_at : (k : ℕ) → bit_at seen k ≡ 0 → IfSome (slice_get (properties_at context.schema.now type.type_id) k) (λ p. MayBeAbsent (slots_behind_node context type.node) p × (slice_get new k ≡ Some Null))
    absent_at k none =
        ⊎_elim (λ inside.
        let there : k < length type.slots.items = omega (arith, inside, as_many) in
        with_null (slice_get ps k) (⊎_elim (λ was. absurd (omega (arith, none, was))) (λ optional. may k optional) (fills.may k there)) (fills.nulls k there none))
        (λ past. past_end (λ p. MayBeAbsent slots p × (slice_get new k ≡ Some Null)) ps k past) (cases_lt k (length ps))
      where
        with_null : (o : Option PropertyModel) → IfSome o (MayBeAbsent slots) → slice_get new k ≡ Some Null → IfSome o (λ p. MayBeAbsent slots p × (slice_get new k ≡ Some Null))
        with_null None a null = tt
        with_null (Some p) a null = (a, null)

    -- the same, or its name is passed over
    absent_or_passed : (k : ℕ) → bit_at seen k ≡ 0
        → IfSome (slice_get (properties_at context.schema.now type.type_id) k) (λ p. MayBeAbsent (slots_behind_node context type.node) p × (names_passed context p.name ⊎ (slice_get new k ≡ Some Null)))
    absent_or_passed k none = either (slice_get ps k) (absent_at k none)
      where
        either : (o : Option PropertyModel) → IfSome o (λ p. MayBeAbsent slots p × (slice_get new k ≡ Some Null)) → IfSome o (λ p. MayBeAbsent slots p × (Passed p.name ⊎ (slice_get new k ≡ Some Null)))
        either None both = tt
        either (Some p) both = (both.0, inr both.1)

    module _ (filled : List Bool) (marks : SameMarks seen filled) (as_long : length filled ≡ length (properties_at context.schema.now type.type_id)) where
      set_bit : (k : ℕ) → get_or filled k false ≡ true → bit_at seen k ≡ 1
      set_bit k is = ⊎_elim (λ none. absurd (true≢false (sym is ∙ marks.not_set k none))) (λ one. one) (two_bits seen k)

      no_bit : (k : ℕ) → k < length (properties_at context.schema.now type.type_id) → get_or filled k false ≡ false → bit_at seen k ≡ 0
      no_bit k inside is = ⊎_elim (λ none. none) (λ one. absurd (true≢false (sym (marks.set k one (omega (arith, inside, as_long))) ∙ is))) (two_bits seen k)

      -- the values fit what was found, but for what is passed over
      filled_but : (found : Members) → SoFar filled old found → FitSlotsBut (slots_behind_node context type.node) (names_passed context) (object found) (properties_at context.schema.now type.type_id) new
      filled_but found hold =
          kept_over slots Passed (found_in found) ps filled old new (fills.long ∙ long) (λ k is. fills.stay k (set_bit k is))
          (λ k is. ⊎_elim (λ inside. absent_or_passed k (no_bit k inside is)) (λ past. past_end (λ p. MayBeAbsent slots p × (Passed p.name ⊎ (slice_get new k ≡ Some Null))) ps k past) (cases_lt k (length ps))) hold

      -- those that fit some members alone fit some object
      filled_alone : (found : Members) → SlotsSoFar (slots_behind_node context type.node) (properties_at context.schema.now type.type_id) found filled old → RowConforms (slots_behind_node context type.node) (properties_at context.schema.now type.type_id) new
      filled_alone found hold = (
        found,
        filled_over slots (found_in found) ps filled old new (fills.long ∙ long) (λ k is. fills.stay k (set_bit k is))
            (λ k is. ⊎_elim (λ inside. absent_at k (no_bit k inside is)) (λ past. past_end (λ p. MayBeAbsent slots p × (slice_get new k ≡ Some Null)) ps k past) (cases_lt k (length ps))) hold,
      )

    pub filled_brace : (from end next : ℕ) → FilledRead context type depth from end seen old → EndsMember context.line end (After.Brace next)
        → ReadsMembers depth (tokens_at fresh context.line from) (tokens_at after_value context.line next)
        (λ found. FitSlotsBut (slots_behind_node context type.node) (names_passed context) (object found) (properties_at context.schema.now type.type_id) new)
    filled_brace from end next read ends =
        brace_then depth context.line from end next (SoFar read.filled old) (λ found. FitSlotsBut slots Passed (object found) ps new) (λ found hold. filled_but read.filled read.marks read.long found hold) read.members ends

    pub brace_conforms : (from end : ℕ) → FilledRead context type depth from end seen old → RowConforms (slots_behind_node context type.node) (properties_at context.schema.now type.type_id) new
    brace_conforms from end read = filled_alone read.filled read.marks read.long read.alone.0 read.alone.1

    -- where no member stands
    module _ (none : seen ≡ 0) where
      abbrev none_filled : List Bool
      none_filled = replicate (length (properties_at context.schema.now type.type_id)) false

      none_marked : SameMarks seen (replicate (length (properties_at context.schema.now type.type_id)) false)
      none_marked = subst (λ n. SameMarks n none_filled) (sym none) (no_marks (length ps))

      pub filled_empty : (from brace : ℕ) → PassesSpaces context.line from brace → brace < length context.line → get_or context.line brace 32 ≡ 125
          → ReadsMembers depth (tokens_at fresh context.line from) (tokens_at after_value context.line (brace + 1))
          (λ found. FitSlotsBut (slots_behind_node context type.node) (names_passed context) (object found) (properties_at context.schema.now type.type_id) new)
      filled_empty from brace passed within is =
          no_members_read depth context.line from brace (SoFar none_filled old) (λ found. FitSlotsBut slots Passed (object found) ps new) passed within is
          (λ found hold. filled_but none_filled none_marked (none_long (length ps)) found hold) (passed_start slots Passed ps (length ps) none_filled old refl (omega arith) long)

      pub empty_conforms : RowConforms (slots_behind_node context type.node) (properties_at context.schema.now type.type_id) new
      empty_conforms = filled_alone none_filled none_marked (none_long (length ps)) no_members (slots_start slots ps (length ps) none_filled old refl (omega arith) long)
