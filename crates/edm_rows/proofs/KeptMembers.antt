-- The members of a row, of which those that are kept were put into its slots.
use Rattle.std.proofs.Common.{◌≡◌, ◌≢◌, ◌⊎◌, inl, inr, ⊎_elim, ℕ, zero, suc, ◌+◌, ◌-◌, ◌^◌, ◌<◌, ◌≤◌, List, [], ◌∷◌, length, map, slice_get, slice_set, get_or, Bool, true, false, Option, None, Some, IfSome, refl, sym, ap, ◌∙◌, subst, arith}
use Rattle.std.specs.Int.{bit_at}
use Rattle.std.specs.Prelude.{MatchBool, bit_or, max, replicate}
use Rattle.std.proofs.lemmas.Bool.{cases_lt, true≢false}
use Rattle.std.proofs.lemmas.Nat.Bits.{bit_at-lt, bit_at-pow_other, bit_at-pow_same, bit_at-zero, bit_at_or}
use Rattle.serde_json.specs.Data.{Data, Members, object, put}
use Rattle.serde_json.proofs.Views.{get_member-put, get_member-put_other}
use Rattle.csdl_schema.specs.SchemaModel.{HasDistinctNames, PropertyModel, Slots, slots_behind}
use Rattle.edm_values.specs.declared.value.Value.{Value, Null}
use Rattle.edm_rows.specs.RowReading.{Names}
use Rattle.edm_entities.specs.Row.{ValAtType, field_of, val_of}
use Rattle.edm_rows.specs.private.Passed.{FitSlotsBut, FitsSeen, FitsSomeProperty, MayBeAbsent, SeenAlike, SlotsSoFarBut, every_name}
use Rattle.json_room.specs.private.ItemTokens.{ReadsMembers}
use Rattle.edm_rows.proofs.AlikeValues.{fields_but}
use Rattle.edm_rows.proofs.RowLemmas.Passing.{all_passed, others_passed, passed_set, passed_start}
use Rattle.std.proofs.lemmas.List.{length-set}
use Rattle.json.specs.Lex.{fresh, after_value}
use Rattle.edm_rows.proofs.SlotsHeld.{apart, found_in, mark_set}
use Rattle.json_room.specs.private.Lexemes.{PassesSpaces}
use Rattle.json_room.specs.Lexemes.{tokens_at}
use Rattle.edm_rows.specs.declared.members.After.{After}
use Rattle.edm_rows.specs.declared.passed_value.ReadContext.{ReadContext}
use Rattle.edm_rows.specs.declared.row_types.RowSlot.{RowSlot}
use Rattle.json_room.specs.ValueStands.{ValueStands}
use Rattle.json_room.specs.private.ValuesStand.{NamesTo}
use Rattle.edm_rows.specs.private.KeptRows.{IsRejectedIn, IsRowRejected, IsTakenAs, names_left, names_passed, root_properties, root_slots}
use Rattle.edm_rows.specs.private.KeptSoFar.{FillsAbsent, KeptRead, KeptUpTo, RejectedSoFar, SameMarks, SoFar}
use Rattle.edm_rows.specs.private.Members.{EndsMember, PassesOther}
use Rattle.edm_rows.proofs.KeptSlots.{kept_over, passed_more, slot_stays}
use Rattle.json_room.proofs.Places.{brace_then, comma_then, member_then, members_begin, no_members_read}

-- ---- names and marks

-- two slots have two names
names_apart : (ps : List PropertyModel) (i j : ℕ) (a b : List ℕ) → HasDistinctNames ps → slice_get (map (λ p. p.name) ps) i ≡ Some a → slice_get (map (λ p. p.name) ps) j ≡ Some b → i ≢ j → a ≢ b
names_apart [] i j a b distinct at_a at_b other = absurd (cc)
names_apart (p ∷ ps) zero zero a b distinct at_a at_b other = absurd (other refl)
names_apart (p ∷ ps) zero (suc j) a b distinct at_a at_b other = let named : p.name ≡ a = cc in λ same. apart b p.name ps j distinct.0 at_b (named ∙ same)
names_apart (p ∷ ps) (suc i) zero a b distinct at_a at_b other = let named : p.name ≡ b = cc in λ same. apart a p.name ps i distinct.0 at_a (named ∙ sym same)
names_apart (p ∷ ps) (suc i) (suc j) a b distinct at_a at_b other = names_apart ps i j a b distinct.1 at_a at_b (λ same. other (ap suc same))

item_at : {X : Type 0} (xs : List X) (n : ℕ) → n < length xs → (x : X) × (slice_get xs n ≡ Some x)
item_at [] n within = absurd (omega (arith, within))
item_at (x ∷ xs) zero within = (x, refl)
item_at (x ∷ xs) (suc n) within = item_at xs n (omega (arith, within))

pub two_bits : (n k : ℕ) → (bit_at n k ≡ 0) ⊎ (bit_at n k ≡ 1)
two_bits n k = ⊎_elim (λ low. inl (omega (arith, low))) (λ high. inr (omega (arith, high, bit_at-lt n k))) (cases_lt (bit_at n k) 1)

pub same_number : (i j : ℕ) → (i ≡ j) ⊎ (i ≢ j)
same_number i j = ⊎_elim (λ low. inr (λ e. omega arith)) (λ high. ⊎_elim (λ low. inr (λ e. omega arith)) (λ at. inl (omega (arith, high, at))) (cases_lt j i)) (cases_lt i j)

set_other : (filled : List Bool) (n k : ℕ) → k ≢ n → get_or (slice_set filled n true) k false ≡ get_or filled k false
set_other [] n k other = refl
set_other (b ∷ filled) zero zero other = absurd (other refl)
set_other (b ∷ filled) zero (suc k) other = refl
set_other (b ∷ filled) (suc n) zero other = refl
set_other (b ∷ filled) (suc n) (suc k) other = set_other filled n k (λ same. other (ap suc same))

bit_more : (seen index k : ℕ) → bit_at (bit_or seen (2 ^ index)) k ≡ max (bit_at seen k) (bit_at (2 ^ index) k)
bit_more seen index k = bit_at_or seen (2 ^ index) k

pub bit_stays : (seen index k : ℕ) → bit_at seen k ≡ 1 → bit_at (bit_or seen (2 ^ index)) k ≡ 1
bit_stays seen index k is = omega (arith, bit_more seen index k, is, bit_at-lt (2 ^ index) k)

pub bit_set : (seen index : ℕ) → bit_at (bit_or seen (2 ^ index)) index ≡ 1
bit_set seen index = omega (arith, bit_more seen index index, bit_at-pow_same index, bit_at-lt seen index)

pub marks_more : (seen index : ℕ) (filled : List Bool) → index < length filled → SameMarks seen filled → SameMarks (bit_or seen (2 ^ index)) (slice_set filled index true)
marks_more seen index filled within same =
    record {
      set = λ k is inside. ⊎_elim (λ here. subst (λ i. get_or (slice_set filled index true) i false ≡ true) (sym here) (mark_set filled index within))
          (λ other. set_other filled index k other ∙ same.set k (old k other is) (omega (arith, inside, length-set filled index true))) (same_number k index);
      not_set = λ k is. ⊎_elim (λ here. absurd (omega (arith, is, ap (λ i. bit_at (bit_or seen (2 ^ index)) i) here, bit_set seen index)))
          (λ other. set_other filled index k other ∙ same.not_set k (omega (arith, bit_more seen index k, is))) (same_number k index);
    }
  where
    old : (k : ℕ) → k ≢ index → bit_at (bit_or seen (2 ^ index)) k ≡ 1 → bit_at seen k ≡ 1
    old k other is = omega (arith, bit_more seen index k, bit_at-pow_other index k other, is)

pub none_long : (n : ℕ) → length (replicate n false) ≡ n
none_long zero = refl
none_long (suc n) = ap suc (none_long n)

pub none_set : (n k : ℕ) → get_or (replicate n false) k false ≡ false
none_set zero k = refl
none_set (suc n) zero = refl
none_set (suc n) (suc k) = none_set n k

pub no_marks : (n : ℕ) → SameMarks 0 (replicate n false)
no_marks n = record { set = λ k is inside. absurd (omega (arith, is, bit_at-zero k)); not_set = λ k is. none_set n k }

-- ---- the members so far

module _ (context : ReadContext) (rows : List RowSlot) where
  abbrev slots : Slots
  slots = root_slots context

  abbrev ps : List PropertyModel
  ps = root_properties context

  abbrev Unkept : Names
  Unkept = names_left context rows

  pub kept_none : (from place : ℕ) (values : List Value) → PassesSpaces context.line from place → length values ≡ length (root_properties context) → KeptUpTo context rows from place 0 false values
  kept_none from place values passed long =
      let n = length (root_properties context) in
      record {
        filled = replicate n false;
        long = none_long n;
        marks = no_marks n;
        members = members_begin context.depth context.line from place (SoFar context rows false 0 (replicate n false) values) passed (passed_start slots Unkept ps n (replicate n false) values refl (omega arith) long);
      }

  -- ---- one member more

  module _ (distinct : HasDistinctNames (root_properties context)) (from place value end seen : ℕ) (slot : RowSlot) (name : List ℕ) (is_slot : slice_get rows slot.index ≡ Some slot) (named : slice_get (map (λ p. p.name) (root_properties context)) slot.index ≡ Some name)
      (names : NamesTo context.line place name value) (within : slot.index < length (root_properties context)) where
    abbrev more : ℕ
    more = bit_or seen (2 ^ slot.index)

    behind : (is_left_out next : Bool) (old new : List Value) (Q : Data → Type 0)
        → ((filled : List Bool) (found : Members) (json : Data) → SoFar context rows is_left_out seen filled old found → Q json → SoFar context rows next more (slice_set filled slot.index true) new (put name json found))
        → KeptUpTo context rows from place seen is_left_out old → ValueStands context.depth context.line value end Q → KeptRead context rows from end more next new
    behind is_left_out next old new Q by so_far reads =
        let filled = slice_set so_far.filled slot.index true in
        record {
          filled = filled;
          long = length-set so_far.filled slot.index true ∙ so_far.long;
          marks = marks_more seen slot.index so_far.filled (omega (arith, within, so_far.long)) so_far.marks;
          members = member_then context.depth context.line from place value end name (SoFar context rows is_left_out seen so_far.filled old) (SoFar context rows next more filled new) Q (λ found json holds is. by so_far.filled found json holds is) so_far.members names reads;
        }

    seen_at : (json : Data) (o : Option PropertyModel) → IfSome o (λ p. FitsSomeProperty (slots_behind (root_slots context) p.name) p.nullable p.type_of (Some json))
        → (seen_as : ValAtType) × IfSome o (λ p. FitsSeen (slots_behind (root_slots context) p.name) p.nullable p.type_of (Some json) seen_as)
    seen_at json None some = (val_of Null, tt)
    seen_at json (Some p) some = (some.0, some.1)

    -- the value that was rejected is another slot's
    rejected_stays : (found : Members) (json : Data) → (slot.is_kept ≡ true → bit_at seen slot.index ≡ 0) → RejectedSoFar context rows seen found → RejectedSoFar context rows more (put name json found)
    rejected_stays found json not_yet before =
        let other : slot.index ≢ before.slot.index = λ same.
        let one : Some slot ≡ Some before.slot = sym is_slot ∙ ap (slice_get rows) same ∙ before.is_slot in
        let kept : slot.is_kept ≡ true = let is : slot ≡ before.slot = cc in ap (λ (s : RowSlot). s.is_kept) is ∙ before.is_kept in
        omega (arith, not_yet kept, ap (bit_at seen) same, before.was_seen) in
        record {
          slot = before.slot;
          is_slot = before.is_slot;
          is_kept = before.is_kept;
          was_seen = bit_stays seen slot.index before.slot.index before.was_seen;
          name = before.name;
          named = before.named;
          json = before.json;
          is_found = get_member-put_other before.name name json found (λ same. names_apart ps slot.index before.slot.index name before.name distinct named before.named other (sym same)) ∙ before.is_found;
          rejected = before.rejected;
        }

    -- a value that is passed once another was rejected
    pub passed_left_out : (values : List Value) → (slot.is_kept ≡ true → bit_at seen slot.index ≡ 0) → KeptUpTo context rows from place seen true values
        → ValueStands context.depth context.line value end (λ json. IfSome (slice_get (root_properties context) slot.index) (λ p. FitsSomeProperty (slots_behind (root_slots context) p.name) p.nullable p.type_of (Some json))) → KeptRead context rows from end more true values
    passed_left_out values not_yet =
        behind true true values values (λ json. IfSome (slice_get (root_properties context) slot.index) (λ p. FitsSomeProperty (slots_behind (root_slots context) p.name) p.nullable p.type_of (Some json)))
        (λ filled found json so_far fits.
        let seen_as = seen_at json (slice_get ps slot.index) fits in (
          (slice_set so_far.0.0 slot.index Null, passed_set slots every_name found name json ps filled so_far.0.0 slot.index Null seen_as.0 distinct named seen_as.1 (inl tt) so_far.0.1),
          rejected_stays found json not_yet so_far.1,
        ))

    -- a value that is passed because its slot is not kept
    pub passed_unkept : (values : List Value) → slot.is_kept ≡ false → length values ≡ length (root_properties context) → KeptUpTo context rows from place seen false values
        → ValueStands context.depth context.line value end (λ json. IfSome (slice_get (root_properties context) slot.index) (λ p. FitsSomeProperty (slots_behind (root_slots context) p.name) p.nullable p.type_of (Some json))) → KeptRead context rows from end more false values
    passed_unkept values unkept long =
        let there = item_at values slot.index (omega (arith, within, long)) in
        behind false false values values (λ json. IfSome (slice_get (root_properties context) slot.index) (λ p. FitsSomeProperty (slots_behind (root_slots context) p.name) p.nullable p.type_of (Some json)))
        (λ filled found json so_far fits.
        let seen_as = seen_at json (slice_get ps slot.index) fits in
        subst (λ vs. SlotsSoFarBut slots Unkept ps (put name json found) (slice_set filled slot.index true) vs) (slot_stays values slot.index there.0 there.1)
        (passed_set slots Unkept found name json ps filled values slot.index there.0 seen_as.0 distinct named seen_as.1 (inl (inl (slot.index, kept_is rows slot.index slot is_slot unkept, named))) so_far))
      where
        kept_is : (rs : List RowSlot) (n : ℕ) (s : RowSlot) → slice_get rs n ≡ Some s → s.is_kept ≡ false → slice_get (map (λ s. s.is_kept) rs) n ≡ Some false
        kept_is [] n s at is = absurd (cc)
        kept_is (r ∷ rs) zero s at is = let same : r ≡ s = cc in ap (λ (x : RowSlot). Some x.is_kept) same ∙ ap Some is
        kept_is (r ∷ rs) (suc n) s at is = kept_is rs n s at is

    alike_at : (v : Value) (seen_as : ValAtType) (o : Option PropertyModel) → IfSome o (λ p. SeenAlike (slots_behind slots p.name) (names_passed context) p.type_of (val_of v) seen_as) → IfSome o (λ p. SeenAlike slots Unkept p.type_of (val_of v) seen_as)
    alike_at v seen_as None alike = tt
    alike_at v seen_as (Some p) alike = fields_but (names_passed context) Unkept (λ n passed. inr passed) (field_of slots.properties p.type_of (val_of v)) (field_of slots.properties p.type_of seen_as) alike

    -- a value that is put into its slot
    pub taken : (values : List Value) (v : Value) → KeptUpTo context rows from place seen false values
        → ValueStands context.depth context.line value end (IsTakenAs context slot (val_of v))
        → KeptRead context rows from end more false (slice_set values slot.index v)
    taken values v =
        behind false false values (slice_set values slot.index v) (IsTakenAs context slot (val_of v))
        (λ filled found json so_far takes. passed_set slots Unkept found name json ps filled values slot.index v takes.0 distinct named takes.1 (inr (alike_at v takes.0 (slice_get ps slot.index) takes.2)) so_far)

    -- a value that is rejected
    pub rejected_now : (values : List Value) → slot.is_kept ≡ true → KeptUpTo context rows from place seen false values → ValueStands context.depth context.line value end (IsRejectedIn context slot slot.sieve) → KeptRead context rows from end more true values
    rejected_now values kept =
        behind false true values values (IsRejectedIn context slot slot.sieve)
        (λ filled found json so_far is. (
          (
            slice_set values slot.index Null,
            passed_set slots every_name found name json ps filled values slot.index Null is.0.0 distinct named is.0.1 (inl tt) (passed_more slots Unkept every_name (found_in found) ps filled values (λ n _. tt) so_far),
          ),
          record {
            slot = slot;
            is_slot = is_slot;
            is_kept = kept;
            was_seen = bit_set seen slot.index;
            name = name;
            named = named;
            json = json;
            is_found = get_member-put name json found;
            rejected = is;
          },
        ))

  -- a member of no slot
  pub other_taken : (from place end seen : ℕ) (is_left_out : Bool) (values : List Value) → KeptUpTo context rows from place seen is_left_out values → PassesOther context.depth context.line (root_properties context) place end → KeptRead context rows from end seen is_left_out values
  other_taken from place end seen is_left_out values so_far (name, value, named, others, reads) =
      record {
        filled = so_far.filled;
        long = so_far.long;
        marks = so_far.marks;
        members = member_then context.depth context.line from place value end name (SoFar context rows is_left_out seen so_far.filled values) (SoFar context rows is_left_out seen so_far.filled values) (λ json. Unit {0})
            (λ found json holds _. stays is_left_out so_far.filled found json holds) so_far.members named reads;
      }
    where
      stays : (b : Bool) (filled : List Bool) (found : Members) (json : Data) → SoFar context rows b seen filled values found → SoFar context rows b seen filled values (put name json found)
      stays true filled found json (passed, before) = (
        (passed.0, others_passed slots every_name found name json ps filled passed.0 others passed.1),
        record {
          slot = before.slot;
          is_slot = before.is_slot;
          is_kept = before.is_kept;
          was_seen = before.was_seen;
          name = before.name;
          named = before.named;
          json = before.json;
          is_found = get_member-put_other before.name name json found (λ same. apart before.name name ps before.slot.index others before.named (sym same)) ∙ before.is_found;
          rejected = before.rejected;
        },
      )
      stays false filled found json hold = others_passed slots Unkept found name json ps filled values others hold

  pub kept_comma : (from end next seen : ℕ) (is_left_out : Bool) (values : List Value) → KeptRead context rows from end seen is_left_out values → EndsMember context.line end (After.Comma next) → KeptUpTo context rows from next seen is_left_out values
  kept_comma from end next seen is_left_out values read ends =
      record { filled = read.filled; long = read.long; marks = read.marks; members = comma_then context.depth context.line from end next (SoFar context rows is_left_out seen read.filled values) read.members ends }

  -- ---- at the brace

  past_end : {X : Type 0} (P : X → Type 0) (xs : List X) (k : ℕ) → length xs ≤ k → IfSome (slice_get xs k) P
  past_end P [] zero past = tt
  past_end P [] (suc k) past = tt
  past_end P (x ∷ xs) zero past = absurd (omega (arith, past))
  past_end P (x ∷ xs) (suc k) past = past_end P xs k (omega (arith, past))

  -- what the members that were found are, once the slots that were not seen are null
  abbrev Last : Bool → List Value → Members → Type 0
  Last b new found = MatchBool b (IsRowRejected context rows found) (FitSlotsBut (root_slots context) (names_left context rows) (object found) (root_properties context) new)

  last_found : (seen : ℕ) (filled : List Bool) (is_left_out : Bool) (old new : List Value) → length rows ≡ length (root_properties context) → FillsAbsent context rows seen old new → length filled ≡ length (root_properties context) → SameMarks seen filled
      → (found : Members) → SoFar context rows is_left_out seen filled old found → Last is_left_out new found
  last_found seen filled is_left_out old new as_many fills long marks found holds = last is_left_out found holds
    where
      bit_of : (k : ℕ) → k < length ps → get_or filled k false ≡ true → bit_at seen k ≡ 1
      bit_of k inside is = ⊎_elim (λ none. absurd (true≢false (sym is ∙ marks.not_set k none))) (λ one. one) (two_bits seen k)

      no_bit : (k : ℕ) → k < length ps → get_or filled k false ≡ false → bit_at seen k ≡ 0
      no_bit k inside is = ⊎_elim (λ none. none) (λ one. absurd (true≢false (sym (marks.set k one (omega (arith, inside, long))) ∙ is))) (two_bits seen k)

      settled : (k : ℕ) → (get_or filled k false ≡ true) ⊎ IfSome (slice_get ps k) (MayBeAbsent slots)
      settled k =
          ⊎_elim (λ inside. ⊎_elim (λ none. inr (fills.may k inside none)) (λ one. inl (marks.set k one (omega (arith, inside, long)))) (two_bits seen k))
          (λ past. inr (past_end (MayBeAbsent slots) ps k past)) (cases_lt k (length ps))

      kept_or_not : (k : ℕ) → k < length rows → (slice_get (map (λ s. s.is_kept) rows) k ≡ Some true) ⊎ (slice_get (map (λ s. s.is_kept) rows) k ≡ Some false)
      kept_or_not k inside = go rows k inside
        where
          go : (rs : List RowSlot) (n : ℕ) → n < length rs → (slice_get (map (λ s. s.is_kept) rs) n ≡ Some true) ⊎ (slice_get (map (λ s. s.is_kept) rs) n ≡ Some false)
          go [] n less = absurd (omega (arith, less))
          go (r ∷ rs) zero less = bool r.is_kept
            where
              bool : (b : Bool) → (Some b ≡ Some true) ⊎ (Some b ≡ Some false)
              bool true = inl refl
              bool false = inr refl
          go (r ∷ rs) (suc n) less = go rs n (omega (arith, less))

      absent_at : (k : ℕ) → get_or filled k false ≡ false → IfSome (slice_get ps k) (λ p. MayBeAbsent slots p × (Unkept p.name ⊎ (slice_get new k ≡ Some Null)))
      absent_at k is =
          ⊎_elim (λ inside.
          let none = no_bit k inside is in
          ⊎_elim (λ kept. with_null (slice_get ps k) (fills.may k inside none) (fills.absent_null k none kept)) (λ unkept. with_name (fills.may k inside none) unkept) (kept_or_not k (omega (arith, inside, as_many))))
          (λ past. past_end _ ps k past) (cases_lt k (length ps))
        where
          with_null : (o : Option PropertyModel) → IfSome o (MayBeAbsent slots) → slice_get new k ≡ Some Null → IfSome o (λ p. MayBeAbsent slots p × (Unkept p.name ⊎ (slice_get new k ≡ Some Null)))
          with_null None a null = tt
          with_null (Some p) a null = (a, inr null)

          name_of : (qs : List PropertyModel) (n : ℕ) (p : PropertyModel) → slice_get qs n ≡ Some p → slice_get (map (λ q. q.name) qs) n ≡ Some p.name
          name_of [] n p at = absurd (cc)
          name_of (q ∷ qs) zero p at = let same : q ≡ p = cc in ap (λ (x : PropertyModel). Some x.name) same
          name_of (q ∷ qs) (suc n) p at = name_of qs n p at

          with_name : IfSome (slice_get ps k) (MayBeAbsent slots) → slice_get (map (λ s. s.is_kept) rows) k ≡ Some false → IfSome (slice_get ps k) (λ p. MayBeAbsent slots p × (Unkept p.name ⊎ (slice_get new k ≡ Some Null)))
          with_name a unkept = go (slice_get ps k) refl a
            where
              go : (o : Option PropertyModel) → slice_get ps k ≡ o → IfSome o (MayBeAbsent slots) → IfSome o (λ p. MayBeAbsent slots p × (Unkept p.name ⊎ (slice_get new k ≡ Some Null)))
              go None at may_absent = tt
              go (Some p) at may_absent = (may_absent, inl (inl (k, unkept, name_of ps k p at)))

      last : (b : Bool) (found : Members) → SoFar context rows b seen filled old found → Last b new found
      last true found (passed, before) =
          record {
            fits = (passed.0, all_passed slots every_name (found_in found) ps filled passed.0 (λ _. tt) settled passed.1);
            slot = before.slot;
            is_slot = before.is_slot;
            name = before.name;
            named = before.named;
            json = before.json;
            is_found = before.is_found;
            rejected = before.rejected;
          }
      last false found hold = kept_over slots Unkept (found_in found) ps filled old new fills.long (λ k is. same_slot k is) absent_at hold
        where
          same_slot : (k : ℕ) → get_or filled k false ≡ true → slice_get new k ≡ slice_get old k
          same_slot k is = fills.seen_stay k (⊎_elim (λ none. absurd (true≢false (sym is ∙ marks.not_set k none))) (λ one. one) (two_bits seen k))

  pub kept_brace : (from end next seen : ℕ) (is_left_out : Bool) (old new : List Value) → length rows ≡ length (root_properties context) → FillsAbsent context rows seen old new → KeptRead context rows from end seen is_left_out old → EndsMember context.line end (After.Brace next)
      → ReadsMembers context.depth (tokens_at fresh context.line from) (tokens_at after_value context.line next)
      (λ found. MatchBool is_left_out (IsRowRejected context rows found) (FitSlotsBut (root_slots context) (names_left context rows) (object found) (root_properties context) new))
  kept_brace from end next seen is_left_out old new as_many fills read ends =
      brace_then context.depth context.line from end next (SoFar context rows is_left_out seen read.filled old) (Last is_left_out new)
      (λ found holds. last_found seen read.filled is_left_out old new as_many fills read.long read.marks found holds) read.members ends

  -- a brace where no member stands
  pub kept_empty : (from brace : ℕ) (old new : List Value) → length rows ≡ length (root_properties context) → FillsAbsent context rows 0 old new → length old ≡ length (root_properties context) → PassesSpaces context.line from brace
      → brace < length context.line → get_or context.line brace 32 ≡ 125 → ReadsMembers context.depth (tokens_at fresh context.line from) (tokens_at after_value context.line (brace + 1))
      (λ found. MatchBool false (IsRowRejected context rows found) (FitSlotsBut (root_slots context) (names_left context rows) (object found) (root_properties context) new))
  kept_empty from brace old new as_many fills long passed within closes =
      let n = length (root_properties context) in
      let filled = replicate n false in
      no_members_read context.depth context.line from brace (SoFar context rows false 0 filled old) (Last false new) passed within closes
      (λ found holds. last_found 0 filled false old new as_many fills (none_long n) (no_marks n) found holds)
      (passed_start slots Unkept ps n filled old refl (omega arith) long)
