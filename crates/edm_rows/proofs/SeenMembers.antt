-- The members of an object of a type: which slots were seen, and that they fit.
use Rattle.std.proofs.Common.{◌≡◌, ◌≢◌, ◌⊎◌, ⊎_elim, inl, inr, ℕ, zero, suc, ◌+◌, ◌^◌, ◌<◌, ◌≤◌, List, [], ◌∷◌, length, map, slice_get, slice_set, get_or, Bool, true, false, Option, None, Some, IfSome, refl, sym, ap, ◌∙◌, subst, arith}
use Rattle.std.specs.Int.{bit_at}
use Rattle.std.specs.Prelude.{bit_or, max, replicate}
use Rattle.std.proofs.lemmas.Bool.{cases_lt}
use Rattle.std.proofs.lemmas.Nat.Bits.{bit_at-pow_other, bit_at-zero, bit_at_or}
use Rattle.serde_json.specs.Data.{Data, object}
use Rattle.csdl_schema.specs.SchemaModel.{PropertyModel, Slots, HasDistinctNames, slots_behind}
use Rattle.json_room.specs.private.Lexemes.{PassesSpaces}
use Rattle.json_room.specs.Lexemes.{tokens_at}
use Rattle.edm_values.specs.Val.{null}
use Rattle.edm_values.specs.declared.value.Value.{Null}
use Rattle.edm_rows.specs.private.Passed.{FitSomeSlots, FitsSeen, FitsSomeProperty, MayBeAbsent, PassedSoFar, every_name}
use Rattle.json_room.specs.private.ItemTokens.{ReadsMembers}
use Rattle.edm_rows.proofs.RowLemmas.Passing.{all_passed, others_passed, passed_set, passed_start, some_values}
use Rattle.std.proofs.lemmas.List.{length-set}
use Rattle.json.specs.Lex.{fresh, after_value}
use Rattle.edm_rows.proofs.SlotsHeld.{found_in, mark_kept, mark_set}
use Rattle.edm_rows.specs.declared.members.After.{After}
use Rattle.json_room.specs.ValueStands.{ValueStands}
use Rattle.json_room.specs.private.ValuesStand.{NamesTo, MembersRead, MembersUpTo}
use Rattle.edm_rows.specs.private.Members.{EndsMember, PassesOther}
use Rattle.json_room.proofs.Places.{brace_then, comma_then, member_then, members_begin, no_members_read}

-- the slot of each bit that is set was filled
abbrev pub AreMarked : ℕ → List Bool → Type 0
AreMarked seen filled = (k : ℕ) → bit_at seen k ≡ 1 → get_or filled k false ≡ true

module _ (slots : Slots) (ps : List PropertyModel) (depth : ℕ) (line : List ℕ) (from : ℕ) where
  -- the members before an offset, of which these slots were seen
  pub record SeenUpTo (place seen : ℕ) : Type 0 where
    pub filled : List Bool
    pub long : length filled ≡ length ps
    pub marks : AreMarked seen filled
    pub members : MembersUpTo depth line from place (λ found. PassedSoFar slots ps found filled)

  -- the same up to where the value of one ends
  pub record SeenRead (end seen : ℕ) : Type 0 where
    pub filled : List Bool
    pub long : length filled ≡ length ps
    pub marks : AreMarked seen filled
    pub members : MembersRead depth line from end (λ found. PassedSoFar slots ps found filled)

  none_long : (n : ℕ) → length (replicate n false) ≡ n
  none_long zero = refl
  none_long (suc n) = ap suc (none_long n)

  pub seen_none : (place : ℕ) → PassesSpaces line from place → SeenUpTo place 0
  seen_none place passed =
      let values = some_values ps in
      let filled = replicate (length ps) false in
      record {
        filled = filled;
        long = none_long (length ps);
        marks = λ k is. absurd (omega (arith, is, bit_at-zero k));
        members = members_begin depth line from place (λ found. PassedSoFar slots ps found filled) passed
            (values.0, passed_start slots every_name ps (length ps) filled values.0 refl (omega arith) values.1);
      }

  -- a bit more
  marked : (seen index : ℕ) (filled : List Bool) → index < length filled → AreMarked seen filled → AreMarked (bit_or seen (2 ^ index)) (slice_set filled index true)
  marked seen index filled within marks k is =
      ⊎_elim (λ here. subst (λ i. get_or (slice_set filled index true) i false ≡ true) (sym here) (mark_set filled index within))
      (λ other. let bit : bit_at seen k ≡ 1 = old other in mark_kept filled index k (marks k bit)) (same k index)
    where
      same : (i j : ℕ) → (i ≡ j) ⊎ (i ≢ j)
      same i j = ⊎_elim (λ low. inr (λ e. omega arith)) (λ high. ⊎_elim (λ low. inr (λ e. omega arith)) (λ at. inl (omega (arith, high, at))) (cases_lt j i)) (cases_lt i j)

      old : k ≢ index → bit_at seen k ≡ 1
      old other =
          let least : bit_at (2 ^ index) k ≡ 0 = bit_at-pow_other index k other in
          let both : max (bit_at seen k) (bit_at (2 ^ index) k) ≡ 1 = sym (bit_at_or seen (2 ^ index) k) ∙ is in
          omega (arith, least, both)

  -- a member of a slot
  pub seen_slot : (place value end seen index : ℕ) (name : List ℕ) (Q : Data → Type 0) → HasDistinctNames ps → index < length ps → slice_get (map (λ p. p.name) ps) index ≡ Some name
      → ((json : Data) → Q json → IfSome (slice_get ps index) (λ p. FitsSomeProperty (slots_behind slots p.name) p.nullable p.type_of (Some json)))
      → SeenUpTo place seen → NamesTo line place name value → ValueStands depth line value end Q → SeenRead end (bit_or seen (2 ^ index))
  seen_slot place value end seen index name Q distinct within at fits so_far named reads =
      record {
        filled = slice_set so_far.filled index true;
        long = length-set so_far.filled index true ∙ so_far.long;
        marks = marked seen index so_far.filled (omega (arith, so_far.long, within)) so_far.marks;
        members = member_then depth line from place value end name (λ found. PassedSoFar slots ps found so_far.filled) (λ found. PassedSoFar slots ps found (slice_set so_far.filled index true)) Q
            (λ found json holds here.
            let seen_as = seen_at json (slice_get ps index) (fits json here) in (
              slice_set holds.0 index Null,
              passed_set slots every_name found name json ps so_far.filled holds.0 index Null seen_as.0 distinct at seen_as.1 (inl tt) holds.1,
            ))
            so_far.members named reads;
      }
    where
      seen_at : (json : Data) (o : Option PropertyModel) → IfSome o (λ p. FitsSomeProperty (slots_behind slots p.name) p.nullable p.type_of (Some json))
          → (seen : _) × IfSome o (λ p. FitsSeen (slots_behind slots p.name) p.nullable p.type_of (Some json) seen)
      seen_at json None some = (λ types type. null, tt)
      seen_at json (Some p) some = (some.0, some.1)

  -- a member of no slot
  pub seen_other : (place end seen : ℕ) → SeenUpTo place seen → PassesOther depth line ps place end → SeenRead end seen
  seen_other place end seen so_far (name, value, named, others, reads) =
      record {
        filled = so_far.filled;
        long = so_far.long;
        marks = so_far.marks;
        members = member_then depth line from place value end name (λ found. PassedSoFar slots ps found so_far.filled) (λ found. PassedSoFar slots ps found so_far.filled) (λ json. Unit {0})
            (λ found json holds _. (holds.0, others_passed slots every_name found name json ps so_far.filled holds.0 others holds.1)) so_far.members named reads;
      }

  pub seen_comma : (end next seen : ℕ) → SeenRead end seen → EndsMember line end (After.Comma next) → SeenUpTo next seen
  seen_comma end next seen read ends =
      record {
        filled = read.filled;
        long = read.long;
        marks = read.marks;
        members = comma_then depth line from end next (λ found. PassedSoFar slots ps found read.filled) read.members ends;
      }

  past_end : {X : Type 0} (P : X → Type 0) (xs : List X) (k : ℕ) → length xs ≤ k → IfSome (slice_get xs k) P
  past_end P [] zero past = tt
  past_end P [] (suc k) past = tt
  past_end P (x ∷ xs) zero past = absurd (omega (arith, past))
  past_end P (x ∷ xs) (suc k) past = past_end P xs k (omega (arith, past))

  settled : (seen optional : ℕ) (filled : List Bool) → ((k : ℕ) → k < length ps → (bit_at seen k ≡ 1) ⊎ (bit_at optional k ≡ 1)) → ((k : ℕ) → bit_at optional k ≡ 1 → IfSome (slice_get ps k) (MayBeAbsent slots)) → AreMarked seen filled
      → (k : ℕ) → (get_or filled k false ≡ true) ⊎ IfSome (slice_get ps k) (MayBeAbsent slots)
  settled seen optional filled all may marks k =
      ⊎_elim (λ within. ⊎_elim (λ is. inl (marks k is)) (λ is. inr (may k is)) (all k within))
      (λ past. inr (past_end (MayBeAbsent slots) ps k past)) (cases_lt k (length ps))

  -- at the brace each slot was seen, or may be absent
  pub seen_brace : (end next seen optional : ℕ) → ((k : ℕ) → k < length ps → (bit_at seen k ≡ 1) ⊎ (bit_at optional k ≡ 1)) → ((k : ℕ) → bit_at optional k ≡ 1 → IfSome (slice_get ps k) (MayBeAbsent slots))
      → SeenRead end seen → EndsMember line end (After.Brace next) → ReadsMembers depth (tokens_at fresh line from) (tokens_at after_value line next) (λ found. FitSomeSlots slots ps (object found))
  seen_brace end next seen optional all may read ends =
      brace_then depth line from end next (λ found. PassedSoFar slots ps found read.filled) (λ found. FitSomeSlots slots ps (object found))
      (λ found holds. (holds.0, all_passed slots every_name (found_in found) ps read.filled holds.0 (λ _. tt) (settled seen optional read.filled all may read.marks) holds.1)) read.members ends

  -- where no member stands, each slot may be absent
  pub seen_empty : (brace optional : ℕ) → ((k : ℕ) → k < length ps → bit_at optional k ≡ 1) → ((k : ℕ) → bit_at optional k ≡ 1 → IfSome (slice_get ps k) (MayBeAbsent slots)) → PassesSpaces line from brace → brace < length line
      → get_or line brace 32 ≡ 125 → ReadsMembers depth (tokens_at fresh line from) (tokens_at after_value line (brace + 1)) (λ found. FitSomeSlots slots ps (object found))
  seen_empty brace optional all may passed within is =
      let values = some_values ps in
      let filled = replicate (length ps) false in
      no_members_read depth line from brace (λ found. PassedSoFar slots ps found filled) (λ found. FitSomeSlots slots ps (object found)) passed within is
      (λ found holds. (
        holds.0,
        all_passed slots every_name (found_in found) ps filled holds.0 (λ _. tt)
            (λ k. inr (⊎_elim (λ inside. may k (all k inside)) (λ past. past_end (MayBeAbsent slots) ps k past) (cases_lt k (length ps)))) holds.1,
      )) (values.0, passed_start slots every_name ps (length ps) filled values.0 refl (omega arith) values.1)
