-- The array that is the member `value` of a text.
use Rattle.std.proofs.Common.{◌≡◌, ◌≢◌, ◌⊎◌, ⊎_elim, ℕ, List, [], ◌∷◌, length, Bool, true, false, None, Some, refl, ap, ◌∙◌, arith, get_or, ◌==◌}
use Rattle.std.proofs.lemmas.Bool.{cases_Bool, cond-false, cond-true, ne_eqb}
use Rattle.std.proofs.lemmas.Str.{IsUtf8-from_is_utf8, is_utf8-from_IsUtf8}
use Rattle.std.specs.Prelude.{IsUtf8, is_some, option_and_then}
use Rattle.std.specs.Str.{is_utf8}
use Rattle.serde_json.specs.Data.{Data, array, boolean, null, number, object, string}
use Rattle.serde_json.specs.Find.{as_null}
use Rattle.serde_json.specs.Read.{read}
use Rattle.serde_json.specs.View.{items_view, view}
use Rattle.serde_json.specs.declared.value.Value.{Value}
use Rattle.collection_items.specs.JudgedItems.{array_of}
use Rattle.collection_reader.specs.private.EnvelopeTest.{array_in, has_array, is_null, is_only_null}

-- a text that was read
pub array_read : (text : List ℕ) (json : Data) → IsUtf8 text → read text ≡ Some json → array_in text ≡ array_of json
unfolding array_in
array_read text json utf8 is =
    cond-true (is_utf8 text) (option_and_then array_of (read text)) None (is_utf8-from_IsUtf8 text utf8) ∙ ap (option_and_then array_of) is

-- one that is none
pub no_array : (text : List ℕ) → (IsUtf8 text → read text ≡ None) → array_in text ≡ None
unfolding array_in
no_array text none =
    ⊎_elim
    (λ yes. cond-true (is_utf8 text) (option_and_then array_of (read text)) None yes ∙ ap (option_and_then array_of) (none (IsUtf8-from_is_utf8 text yes)))
    (λ no. cond-false (is_utf8 text) (option_and_then array_of (read text)) None no)
    (cases_Bool (is_utf8 text))

pub has_none : (has_null : Bool) → has_array None has_null ≡ false
has_none true = refl
has_none false = refl

-- items that are not one
pub not_one : (values : List Value) → length values ≢ 1 → is_only_null (Some (items_view values)) ≡ false
not_one [] other = refl
not_one (v ∷ []) other = absurd (other refl)
not_one (v ∷ w ∷ values) other = refl

null_said : (d : Data) → is_some (as_null d) ≡ is_null d
null_said null = refl
null_said (boolean b) = refl
null_said (number n) = refl
null_said (string t) = refl
null_said (array js) = refl
null_said (object ms) = refl

-- the one item
pub one_of_one : (values : List Value) (v : Value) (is : Bool) → length values ≡ 1 → v ≡ get_or values 0 v → is ≡ is_some (as_null (view v))
    → is ≡ is_only_null (Some (items_view values))
one_of_one [] v is long here said = absurd (omega arith)
one_of_one (w ∷ []) v is long here said = said ∙ null_said (view v) ∙ ap (λ (x : Value). is_null (view x)) here
one_of_one (w ∷ x ∷ values) v is long here said = absurd (omega arith)

-- no items
pub said_empty : (values : List Value) → (length values == 0) ≡ has_array (Some (items_view values)) false
said_empty [] = refl
said_empty (v ∷ values) = ne_eqb (length (v ∷ values)) 0 (λ e. absurd (omega arith))
