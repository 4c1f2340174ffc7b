-- Texts of the same characters are the same.
use Rattle.std.proofs.Common.{◌≡◌, ◌↔◌, ℕ, Bool, true, false, IsTrue, nat_eq, List, refl, sym, ap, ◌∙◌}
use Rattle.std.proofs.Math.Utf8.{encodes}
use Rattle.std.proofs.lemmas.Str.{encodes-chars}
use Rattle.std.specs.Cmp.Lexicographic.{pointwise, same_text, other_text}
use Rattle.std.specs.Str.{IsUtf8, chars}

pub same_characters : (s t : List ℕ) → IsUtf8 s → IsUtf8 t → chars s ≡ chars t → s ≡ t
same_characters s t of_s of_t e = sym (encodes-chars s of_s) ∙ ap encodes e ∙ encodes-chars t of_t

-- what a test of the bytes says of the characters
pub same_test : (s t : List ℕ) (b : Bool) → IsUtf8 s → IsUtf8 t → b ≡ pointwise nat_eq s t → IsTrue b ↔ (chars s ≡ chars t)
same_test s t true of_s of_t reported = (λ is. ap chars (same_text s t reported), λ same. refl)
same_test s t false of_s of_t reported = (λ is. cc, λ same. absurd (other_text s t reported (same_characters s t of_s of_t same)))
