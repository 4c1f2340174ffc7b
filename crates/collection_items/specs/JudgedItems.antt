-- The items of a collection, and whether each is kept (OData JSON Format 4.01, section 13).
use Rattle.std.specs.Prelude.{◌≡◌, ◌⊎◌, ℕ, List, [], ◌∷◌, Bool, Option, Some, None, IsUtf8, codes, option_and_then}
use Rattle.serde_json.specs.Data.{Data, Items, Members, array, object}
use Rattle.serde_json.specs.Find.{as_array, get, get_member}
use Rattle.serde_json.specs.Read.{read}
use Rattle.serde_json.specs.View.{items_of}

-- what may be said of an item, whether it is kept or left out
abbrev pub ItemJudge : Type 1
ItemJudge = Data → Bool → Type 0

-- what is said afterwards could be said before
abbrev pub SaysNoMore : ItemJudge → ItemJudge → Type 0
SaysNoMore old new = (json : Data) (kept : Bool) → new json kept → old json kept

-- as many answers as items, each of which is said of its item
abbrev pub AreJudged : {K : Type 0} → (Data → K → Type 0) → List Data → List K → Type 0
AreJudged judge [] [] = Unit {0}
AreJudged judge [] (said ∷ answers) = ⊥
AreJudged judge (json ∷ items) [] = ⊥
AreJudged judge (json ∷ items) (said ∷ answers) = judge json said × AreJudged judge items answers

-- the last member of that name is this value
abbrev pub HasValue : Data → Members → Type 0
HasValue json found = get_member (codes "value") found ≡ Some json

-- the text is a JSON object whose member `value` is an array of these items
abbrev pub IsArrayIn : List ℕ → List Data → Type 0
IsArrayIn text items = (found : Members) × (read text ≡ Some (object found)) × HasValue (array (items_of items)) found

-- the array that a JSON object has as its member `value`
abbrev pub array_of : Data → Option Items
array_of json = option_and_then as_array (get (codes "value") json)

-- the bytes are no JSON text, or that of a value without such an array
abbrev pub IsNoArrayIn : List ℕ → Type 0
IsNoArrayIn bytes =
    (IsUtf8 bytes → read bytes ≡ None) ⊎ ((json : Data) × (read bytes ≡ Some json) × (array_of json ≡ None))
