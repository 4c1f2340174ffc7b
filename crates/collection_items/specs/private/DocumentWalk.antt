-- For private clauses: a walk over a document, around the items of its member `value`.
use Rattle.std.specs.Prelude.{◌≡◌, ◌≢◌, ◌⊎◌, ℕ, ◌<◌, ◌≤◌, List, length, get_or, Bool, true, false, None, Some, codes}
use Rattle.json.specs.Json.{after_end_array, read_key}
use Rattle.json.specs.Lex.{fresh, after_value, after_comma}
use Rattle.serde_json.specs.Data.{Data, Members, array}
use Rattle.serde_json.specs.View.{items_of}
use Rattle.json_room.specs.Lexemes.{EndsHere, tokens_at}
use Rattle.json_room.specs.ValueStands.{ValueStands}
use Rattle.json_room.specs.private.ItemTokens.{ReadsItems, ReadsMembers}
use Rattle.json_room.specs.private.ValuesStand.{PassesTo, NamesTo, MembersUpTo}
use Rattle.collection_items.specs.ItemLines.{AreItemLines, StandsBetween, lines_between}
use Rattle.collection_items.specs.JudgedItems.{AreJudged, HasValue}
use Rattle.collection_items.specs.declared.collection_lines.MemberValue.{MemberValue}
use Rattle.collection_items.specs.declared.document_walk.After.{After}
use Rattle.collection_items.specs.declared.document_walk.After.TheVariants.{Close, Comma}
use Rattle.collection_items.specs.declared.document_walk.MemberName.{MemberName}

-- a member's name stands there, and its value from the other offset on; whether the name is `value`
pub record NamesMember (text : List ℕ) (from : ℕ) (member : MemberName) : Type 0 where
  pub name : List ℕ
  pub names : NamesTo text from name member.place
  pub is : member.is_value ≡ true → name ≡ codes "value"
  pub is_not : member.is_value ≡ false → name ≢ codes "value"

-- after members of whatever names one of the name `value` has an array, whose bracket stands there
pub record FindsArray (text : List ℕ) (from bracket : ℕ) : Type 0 where
  pub key : ℕ
  pub members : MembersUpTo 126 text from key (λ found. Unit {0})
  pub names : NamesTo text key (codes "value") bracket
  pub opens : (bracket < length text) × (get_or text bracket 32 ≡ 91)

-- after a bracket stand an array's items, with the closing one; of each that is said
pub record JudgesArray {K : Type 0} (judge : Data → K → Type 0) (text : List ℕ) (from : ℕ) (answers : List K) (to : ℕ)
    : Type 0 where
  pub items : List Data
  pub bounds : PassesTo text from to
  pub read : ReadsItems 125 (tokens_at fresh text from) (tokens_at after_value text to)
      (λ found. found ≡ items_of items)
  pub judged : AreJudged judge items answers

-- the same, where the lines of the items were put
pub record PutsArray (text : List ℕ) (from : ℕ) (lines : List ℕ) (to : ℕ) : Type 0 where
  pub places : List (ℕ × ℕ)
  pub array : JudgesArray (StandsBetween text) text from places to
  pub are_lines : lines ≡ lines_between text places

-- where an item ends at an offset, a comma or the array's bracket is passed up to the other
abbrev pub EndsItem : List ℕ → ℕ → After → Type 0
EndsItem text end (Comma next) =
    (end < next) × (next ≤ length text) × EndsHere text end
    × (tokens_at after_comma text next ≡ tokens_at after_value text end)
EndsItem text end (Close next) =
    (end < next) × (next ≤ length text) × EndsHere text end
    × (after_end_array (tokens_at after_value text end) ≡ Some (tokens_at after_value text next))

-- the same of a member and the object's brace
abbrev pub EndsPair : List ℕ → ℕ → After → Type 0
EndsPair text end (Comma next) =
    (end < next) × (next ≤ length text) × EndsHere text end
    × (tokens_at after_comma text next ≡ tokens_at after_value text end)
EndsPair text end (Close next) =
    (end < next) × (next ≤ length text) × EndsHere text end
    × (read_key (tokens_at after_value text end) ≡ Some (None, tokens_at after_value text next))

-- the value is an array, and the lines are those of its items
pub record IsPutArray (text lines : List ℕ) (json : Data) : Type 0 where
  pub items : List Data
  pub is_array : json ≡ array (items_of items)
  pub are_lines : AreItemLines text items lines

-- the value of a member of the name `value` stands there; if it is an array, its lines were put
abbrev pub PutsValue : List ℕ → ℕ → List ℕ → MemberValue → Type 0
PutsValue text from lines value =
    ValueStands 126 text from value.end (λ json. value.has_array ≡ true → IsPutArray text lines json)

-- the value of a member stands there; where there are lines afterwards they are its own, by its name, or those before
abbrev pub PassesValue : List ℕ → MemberName → Bool → List ℕ → List ℕ → MemberValue → Type 0
PassesValue text member had old new value =
    ValueStands 126 text member.place value.end (λ json. value.has_array ≡ true
    → ((member.is_value ≡ true) × IsPutArray text new json)
    ⊎ ((member.is_value ≡ false) × (had ≡ true) × (new ≡ old)))

-- where there are lines, they are those of the array that is the last member of the name `value`
abbrev pub HasLines : List ℕ → Bool → List ℕ → Members → Type 0
HasLines text has lines found =
    has ≡ true → (items : List Data) × HasValue (array (items_of items)) found × AreItemLines text items lines

-- an object's members stand there, with its brace, and there are such lines
pub record PutsMembers (text : List ℕ) (from : ℕ) (lines : List ℕ) (to : ℕ) : Type 0 where
  pub within : to ≤ length text
  pub read : ReadsMembers 126 (tokens_at fresh text from) (tokens_at after_value text to) (HasLines text true lines)
