-- For private clauses: texts of enumerations as they are stored from row to row.
use Rattle.std.specs.Prelude.{◌≡◌, ℕ, ◌+◌, ◌<◌, List, [], ◌∷◌, length, take, get_or, Option, None, Some, IfSome, slice_get}
use Rattle.csdl_schema.specs.SchemaModel.{SchemaModel}
use Rattle.json.specs.Written.{PlainBetween}
use Rattle.enumeration_texts.specs.EnumerationTexts.{IsOfEnumeration}
use Rattle.enumeration_texts.specs.declared.known_texts.KnownText.{KnownText}

-- the bytes of a stored text
abbrev pub text_of : KnownText → List ℕ
text_of known = take known.length known.front

-- a text before others, after the id of its enumeration; where it has none they alone
abbrev pub with_text : Option ℕ → List ℕ → List (ℕ × List ℕ) → List (ℕ × List ℕ)
with_text None text more = more
with_text (Some id) text more = (id, text) ∷ more

-- all texts that are stored
abbrev pub stored_texts : List KnownText → List (ℕ × List ℕ)
stored_texts [] = []
stored_texts (known ∷ more) = with_text known.id (text_of known) (stored_texts more)

-- it is a text of the enumeration with its id, if it has one
abbrev pub IsOfItsOwn : SchemaModel → KnownText → Type 0
IsOfItsOwn schema known = (id : ℕ) → known.id ≡ Some id → IsOfEnumeration schema id (text_of known)

-- a text of some enumeration, without escapes, with the quote (34) after it; all bits of the mask are set at these bytes
pub record IsSpelled (known : KnownText) : Type 0 where
  pub enumeration : ℕ
  pub is_of : known.id ≡ Some enumeration
  pub plain : PlainBetween known.front 0 known.length
  pub quote : get_or known.front known.length 0 ≡ 34
  pub mask : (k : ℕ) → k < known.length + 1 → get_or known.mask k 0 ≡ 255
  pub long : length known.front ≡ 16

-- each of these that is shorter than 16 bytes; where no text is stored the length is 16
abbrev pub AreSpelled : List KnownText → Type 0
AreSpelled stored = (index : ℕ) → IfSome (slice_get stored index) (λ known. known.length < 16 → IsSpelled known)
