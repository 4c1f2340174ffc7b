-- The slot of a name and the property of that name.
use Rattle.odata_typing.proofs.Common.{◌≡◌, ap, ◌∙◌, ℕ, ◌<◌, ◌≤◌, List, length, Bool, Some, None, slice_get, position, arith, position_or_len, slice_get_past, PropertyModel, slot_named, property_named}
use Rattle.std.proofs.lemmas.Bool.Decides.{nat_tests}
use Rattle.std.proofs.lemmas.List.Folds.{find_at}
use Rattle.std.specs.Cmp.Lexicographic.{pointwise}
use Rattle.std.specs.Prelude.{nat_eq}

slot_found : {X : Type 0} (p : X → Bool) (xs : List X) (k : ℕ) → position p xs ≡ Some k → (position_or_len p xs ≡ k) × (k < length xs)
slot_found p xs k found = grind (arith, nat_tests)

slot_missing : {X : Type 0} (p : X → Bool) (xs : List X) → position p xs ≡ None → length xs ≤ position_or_len p xs
slot_missing p xs none = grind (arith, nat_tests)

pub slot_below : (properties : List PropertyModel) (asked : List ℕ) (k : ℕ) → slot_named properties asked ≡ Some k → k < length properties
slot_below properties asked k found = (slot_found (λ (p : PropertyModel). pointwise nat_eq asked p.name) properties k found).1

-- the property of a name stands at the slot of that name
pub property_at :
    (properties : List PropertyModel) (asked : List ℕ) (k : ℕ) → slot_named properties asked ≡ Some k → property_named properties asked ≡ slice_get properties k
property_at properties asked k found =
    let test : PropertyModel → Bool = λ (p : PropertyModel). pointwise nat_eq asked p.name in
    find_at test properties ∙ ap (λ (i : ℕ). slice_get properties i) (slot_found test properties k found).0

pub property_none : (properties : List PropertyModel) (asked : List ℕ) → slot_named properties asked ≡ None → property_named properties asked ≡ None
property_none properties asked none =
    let test : PropertyModel → Bool = λ (p : PropertyModel). pointwise nat_eq asked p.name in
    find_at test properties ∙ slice_get_past properties (position_or_len test properties) (slot_missing test properties none)
