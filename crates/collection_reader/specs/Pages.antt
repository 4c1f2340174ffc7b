-- A document that is a collection, by the texts of its items and what stands around them (OData JSON Format 4.01,
-- section 13; RFC 8259, sections 2 and 5).
use Rattle.std.specs.Prelude.{◌≡◌, ◌==◌, ◌||◌, ◌⊎◌, ℕ, List, [], ◌∷◌, ◌++◌, Bool, false, true, if◌then◌else◌, IsUtf8, flat_map, map}
use Rattle.std.specs.List.{AllPass}
use Rattle.serde_json.specs.Data.{Data, null}
use Rattle.collection_items.specs.ItemLines.{in_line}
use Rattle.collection_items.specs.JudgedItems.{IsArrayIn}

-- white space between tokens
abbrev pub is_blank : ℕ → Bool
is_blank byte = byte == 32 || byte == 9 || byte == 10 || byte == 13

abbrev pub IsBlank : List ℕ → Type 0
IsBlank text = AllPass is_blank text

-- a line feed or a carriage return
abbrev pub is_feed : ℕ → Bool
is_feed byte = byte == 10 || byte == 13

-- No string of a JSON text has one of these (RFC 8259, section 7): of what follows outside of strings, within one, and
-- after a backslash in one.
abbrev mutual
  pub is_unbroken : List ℕ → Bool
  is_unbroken [] = true
  is_unbroken (byte ∷ text) = if byte == 34 then is_unbroken_within text else is_unbroken text

  pub is_unbroken_within : List ℕ → Bool
  is_unbroken_within [] = true
  is_unbroken_within (byte ∷ text) =
      if byte == 34 then is_unbroken text else if byte == 92 then is_unbroken_escaped text
      else if is_feed byte then false else is_unbroken_within text

  pub is_unbroken_escaped : List ℕ → Bool
  is_unbroken_escaped [] = true
  is_unbroken_escaped (byte ∷ text) = if is_feed byte then false else is_unbroken_within text

-- it begins with a byte that is no blank
abbrev pub BeginsItem : List ℕ → Type 0
BeginsItem [] = ⊥
BeginsItem (byte ∷ text) = is_blank byte ≡ false

-- the text of an item: it begins with no blank, and none of its strings has a line feed or a carriage return
abbrev pub IsItemText : List ℕ → Type 0
IsItemText text = BeginsItem text × (is_unbroken text ≡ true)

-- What stands after an item, up to the bracket: blanks; or, where items of these texts follow, blanks, a comma (44),
-- blanks, the next text and what stands after that.
abbrev pub AreAfter : List (List ℕ) → List ℕ → Type 0
AreAfter [] after = IsBlank after
AreAfter (text ∷ texts) after =
    (blanks : List ℕ) × (before : List ℕ) × (later : List ℕ) × IsBlank blanks × IsBlank before × IsItemText text
    × (after ≡ blanks ++ 44 ∷ (before ++ (text ++ later))) × AreAfter texts later

-- what stands between the brackets of an array of items with these texts
abbrev pub AreBetween : List (List ℕ) → List ℕ → Type 0
AreBetween [] between = IsBlank between
AreBetween (text ∷ texts) between =
    (before : List ℕ) × (later : List ℕ) × IsBlank before × IsItemText text
    × (between ≡ before ++ (text ++ later)) × AreAfter texts later

-- the text `null`
abbrev pub null_text : List ℕ
null_text = 110 ∷ 117 ∷ 108 ∷ 108 ∷ []

-- the text is a JSON object in UTF-8 whose member `value` is an array of these items
abbrev pub IsArrayOf : List ℕ → List Data → Type 0
IsArrayOf text items = IsUtf8 text × IsArrayIn text items

-- The document is cut into a front that ends with a bracket (91), what stands between, and a back that begins with the
-- closing one (93). Nothing between them makes it a collection of nothing, and `null` one of that item.
pub record IsCutAt (document front between back : List ℕ) : Type 0 where
  pub whole : document ≡ front ++ (between ++ back)
  pub opens : (start : List ℕ) × (front ≡ start ++ 91 ∷ [])
  pub closes : (rest : List ℕ) × (back ≡ 93 ∷ rest)
  pub without : IsArrayOf (front ++ back) []
  pub with_null : IsArrayOf (front ++ (null_text ++ back)) (null ∷ [])

-- the document is cut around items of these texts
pub record HasItemTexts (document : List ℕ) (texts : List (List ℕ)) : Type 0 where
  pub front : List ℕ
  pub between : List ℕ
  pub back : List ℕ
  pub cut : IsCutAt document front between back
  pub are_between : AreBetween texts between

-- a text as a line, with its line feed (10)
abbrev pub line_of : List ℕ → List ℕ
line_of text = map in_line text ++ 10 ∷ []

-- each of the texts as a line
abbrev pub lines_of : List (List ℕ) → List ℕ
lines_of texts = flat_map line_of texts

-- the lines are those of the texts of a document's items
pub record AreItemLinesOf (document lines : List ℕ) : Type 0 where
  pub texts : List (List ℕ)
  pub are_texts : HasItemTexts document texts
  pub are_lines : lines ≡ lines_of texts

-- The first bytes of one more item stand there, and the lines end with them and with the byte 255, which no text in
-- UTF-8 has.
pub record EndsWithin (more lines : List ℕ) : Type 0 where
  pub skipped : List ℕ
  pub begun : List ℕ
  pub rest : List ℕ
  pub after : List ℕ
  pub stands : more ≡ skipped ++ (begun ++ rest)
  pub ends : lines ≡ map in_line begun ++ 255 ∷ after

-- The lines are those of texts that stand in the document after a bracket (91) as an array's items do, and end within
-- the next; or there is no such bracket, and no text.
pub record BreaksOff (document lines : List ℕ) : Type 0 where
  pub front : List ℕ
  pub between : List ℕ
  pub more : List ℕ
  pub texts : List (List ℕ)
  pub end : List ℕ
  pub whole : document ≡ front ++ (between ++ more)
  pub opens : ((start : List ℕ) × (front ≡ start ++ 91 ∷ [])) ⊎ (texts ≡ [])
  pub are_between : AreBetween texts between
  pub breaks : EndsWithin more end
  pub are_lines : lines ≡ lines_of texts ++ end
