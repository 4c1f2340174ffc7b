-- Steps of the walk that puts items as lines.
use Rattle.std.proofs.Common.{◌≡◌, ℕ, ◌+◌, ◌<◌, ◌≤◌, List, [], ◌∷◌, ◌++◌, Bool, true, false, Option, None, Some, Result, Ok, Err, length, get_or, inl, inr, refl, sym, subst, ap, ◌∙◌, arith}
use Rattle.std.specs.Prelude.{codes, IfOk, IfSome, is_some, option_map}
use Rattle.std.specs.declared.alloc.AllocError.{AllocError}
use Rattle.std.proofs.lemmas.List.{append-nil, append_assoc}
use Rattle.json.specs.Lex.{fresh, after_value}
use Rattle.serde_json.specs.Data.{Data, Items, Members, array, put}
use Rattle.serde_json.specs.Find.{get_member}
use Rattle.serde_json.specs.View.{items_of}
use Rattle.serde_json.proofs.Views.{get_member-put, get_member-put_other}
use Rattle.json_room.specs.Lexemes.{tokens_at}
use Rattle.json_room.specs.ValueStands.{ValueStands}
use Rattle.json_room.specs.private.Lexemes.{PassesSpaces}
use Rattle.json_room.specs.private.ItemTokens.{ReadsMembers}
use Rattle.json_room.specs.private.ValuesStand.{MembersRead, MembersUpTo}
use Rattle.json_room.proofs.Places.{array_to, brace_then, comma_then, member_then}
use Rattle.collection_items.specs.ItemLines.{AreItemLines, HasItemLines, StandsBetween, line_between, lines_between}
use Rattle.collection_items.specs.JudgedItems.{HasValue}
use Rattle.collection_items.specs.private.DocumentWalk.{EndsPair, HasLines, IsPutArray, NamesMember, PassesValue, PutsArray, PutsMembers, PutsValue}
use Rattle.collection_items.specs.declared.collection_lines.MemberValue.{MemberValue}
use Rattle.collection_items.specs.declared.document_walk.After.{After}
use Rattle.collection_items.specs.declared.document_walk.MemberName.{MemberName}
use Rattle.collection_items.proofs.WalkSteps.{JudgedUpTo, whole_object}

pub no_truth : false ≡ true → ⊥
no_truth is = cc

-- the items before an offset where one may begin, of which the lines were put
pub record PutUpTo (text : List ℕ) (from place : ℕ) (lines : List ℕ) : Type 0 where
  pub places : List (ℕ × ℕ)
  pub up_to : JudgedUpTo (StandsBetween text) text from place places
  pub are_lines : lines ≡ lines_between text places

-- a value between two offsets, as what is said of an item
pub stands_between : (text : List ℕ) (from to : ℕ) → ValueStands 125 text from to (λ json. Unit {0})
    → ValueStands 125 text from to (λ json. StandsBetween text json (from, to))
stands_between text from to stands = record {
  bounds = stands.bounds;
  reads = λ turn begins here.
      let read = stands.reads turn begins here in
      record {
        json = read.json;
        is_read = read.is_read;
        holds = record {
          within = stands.bounds;
          turn = turn;
          begins = begins;
          reads = record { json = read.json; is_read = read.is_read; holds = refl };
        };
      };
}

-- one more line
pub lines_snoc : (text : List ℕ) (places : List (ℕ × ℕ)) (bounds : ℕ × ℕ)
    → lines_between text (places ++ bounds ∷ []) ≡ lines_between text places ++ line_between text bounds
lines_snoc text [] bounds = append-nil (line_between text bounds)
lines_snoc text (p ∷ ps) bounds =
    ap (λ (rest : List ℕ). line_between text p ++ rest) (lines_snoc text ps bounds)
    ∙ sym (append_assoc (line_between text p) (lines_between text ps) (line_between text bounds))

-- ---- members, and the lines of the last one of the name `value`

-- what is said of a value follows from what was
pub stands_as : (depth : ℕ) (text : List ℕ) (from to : ℕ) (P Q : Data → Type 0) → ((json : Data) → P json → Q json) → ValueStands depth text from to P → ValueStands depth text from to Q
stands_as depth text from to P Q goes stands = record {
  bounds = stands.bounds;
  reads = λ turn begins here.
      let read = stands.reads turn begins here in
      record { json = read.json; is_read = read.is_read; holds = goes read.json read.holds };
}

-- an array whose lines were put
pub array_put : (text : List ℕ) (from to : ℕ) (lines : List ℕ) → from < length text → get_or text from 32 ≡ 91 → PutsArray text (from + 1) lines to
    → PutsValue text from lines (record { end = to; has_array = true })
array_put text from to lines within opens put =
    let judged = put.array in
    array_to 126 text from to (λ found. found ≡ items_of judged.items) (λ json. true ≡ true → IsPutArray text lines json) (omega arith) within opens
    (λ found is _. record { items = judged.items; is_array = ap array is; are_lines = (put.places, judged.judged, put.are_lines) }) judged.bounds judged.read

-- a value without lines
pub nothing_put : (text : List ℕ) (from to : ℕ) (lines : List ℕ) → ValueStands 126 text from to (λ json. Unit {0}) → PutsValue text from lines (record { end = to; has_array = false })
nothing_put text from to lines stands =
    stands_as 126 text from to (λ json. Unit {0}) (λ json. false ≡ true → IsPutArray text lines json) (λ json _ is. absurd (no_truth is)) stands

-- the value of a member of the name `value`, and of another one
pub put_passes : (text : List ℕ) (member : MemberName) (had : Bool) (old new : List ℕ) (answer : Result (Option MemberValue) AllocError) → member.is_value ≡ true
    → IfOk answer (λ value. IfSome value (PutsValue text member.place new)) → IfOk answer (λ value. IfSome value (PassesValue text member had old new))
put_passes text member had old new (Ok (Some value)) is puts =
    stands_as 126 text member.place value.end (λ json. value.has_array ≡ true → IsPutArray text new json) _ (λ json put has. inl (is, put has)) puts
put_passes text member had old new (Ok None) is puts = tt
put_passes text member had old new (Err fault) is puts = tt

pub pass_stays : (text : List ℕ) (member : MemberName) (had : Bool) (old : List ℕ) (end : ℕ) → member.is_value ≡ false → ValueStands 126 text member.place end (λ json. Unit {0})
    → PassesValue text member had old old (record { end = end; has_array = had })
pass_stays text member had old end other stands =
    stands_as 126 text member.place end (λ json. Unit {0}) _ (λ json _ has. inr (other, has, refl)) stands

-- what is none after a map was none before
pub none_of : {A B : Type 0} (f : A → B) (o : Option A) (p : Option B) → is_some o ≡ false → option_map f o ≡ p → p ≡ None
none_of f None p is same = sym same
none_of f (Some x) p is same = cc

module _ (text : List ℕ) (from : ℕ) where
  -- one more member
  pub lines_after : (place : ℕ) (member : MemberName) (had : Bool) (old new : List ℕ) (value : MemberValue) → MembersUpTo 126 text from place (HasLines text had old) → NamesMember text place member
      → PassesValue text member had old new value → MembersRead 126 text from value.end (HasLines text value.has_array new)
  lines_after place member had old new value so_far named passes =
      member_then 126 text from place member.place value.end named.name (HasLines text had old) (HasLines text value.has_array new) _
      (λ found d before leaves has. elim (leaves has) [
        | inl own ↦ (
          own.1.items,
          subst (λ (name : List ℕ). HasValue (array (items_of own.1.items)) (put name d found)) (sym (named.is own.0)) (get_member-put (codes "value") d found ∙ ap Some own.1.is_array),
          own.1.are_lines,
        )
        | inr other ↦
            let earlier = before other.1 in (
              earlier.0,
              get_member-put_other (codes "value") named.name d found (λ same. named.is_not other.0 (sym same)) ∙ earlier.1,
              subst (λ (lines : List ℕ). AreItemLines text earlier.0 lines) (sym other.2) earlier.2,
            )
      ])
      so_far named.names passes

  pub lines_then_comma : (end next : ℕ) (has : Bool) (lines : List ℕ) → MembersRead 126 text from end (HasLines text has lines) → EndsPair text end (After.Comma next)
      → MembersUpTo 126 text from next (HasLines text has lines)
  lines_then_comma end next has lines read ends = comma_then 126 text from end next (HasLines text has lines) read ends

  pub lines_then_brace : (end next : ℕ) (has : Bool) (lines : List ℕ) → has ≡ true → MembersRead 126 text from end (HasLines text has lines) → EndsPair text end (After.Close next) → PutsMembers text from lines next
  lines_then_brace end next has lines is read ends = record {
    within = ends.1;
    read = brace_then 126 text from end next (HasLines text has lines) (HasLines text true lines) (λ found holds _. holds is) read ends;
  }

-- the whole document
pub document_lines : (text : List ℕ) (root last : ℕ) (lines : List ℕ) → PassesSpaces text 0 root → root < length text → get_or text root 32 ≡ 123 → PutsMembers text (root + 1) lines last
    → PassesSpaces text last (length text) → HasItemLines text lines
document_lines text root last lines passed within opens put ends =
    let whole = whole_object text root last (HasLines text true lines) passed within opens put.read ends in
    let has = whole.2 refl in
    (has.0, (whole.0, whole.1, has.1), has.2)
