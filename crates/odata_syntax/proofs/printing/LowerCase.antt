-- A text without capital letters is its own lower case.
use Rattle.std.specs.Char.{is_ascii_uppercase, to_ascii_lowercase}
use Rattle.std.specs.List.{list_any}
use Rattle.std.specs.Str.{str_to_ascii_lowercase}
use Rattle.std.proofs.Common.{◌≡◌, ℕ, false, List, [], ◌∷◌, arith, refl, ◌∙◌, ap}
use Rattle.std.proofs.lemmas.Bool.{or_parts}
use Rattle.std.proofs.lemmas.Bool.Decides.{nat_tests}

lower_byte : (b : ℕ) → is_ascii_uppercase b ≡ false → to_ascii_lowercase b ≡ b
lower_byte b small = grind (arith, nat_tests)

pub already_lower : (text : List ℕ) → list_any is_ascii_uppercase text ≡ false → str_to_ascii_lowercase text ≡ text
already_lower [] none = refl
already_lower (b ∷ bs) none =
    let parts = or_parts (is_ascii_uppercase b) _ none in
    ap (λ (c : ℕ). c ∷ str_to_ascii_lowercase bs) (lower_byte b parts.0) ∙ ap (λ (cs : List ℕ). b ∷ cs) (already_lower bs parts.1)
