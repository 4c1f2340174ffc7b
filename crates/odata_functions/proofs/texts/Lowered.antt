-- The lower case of a text, byte by byte.
use Rattle.std.proofs.Common.{◌≡◌, ◌↔◌, ℕ, ◌+◌, ◌/◌, ◌%◌, ◌≤◌, ◌<◌, Bool, true, false, List, [], ◌∷◌, ◌++◌, map, arith, refl, sym, ap, subst, ◌∙◌}
use Rattle.std.specs.Prelude.{◌&&◌}
use Rattle.std.proofs.Math.Utf8.{encode, encodes, scalar, scalars}
use Rattle.std.proofs.lemmas.List.{map-append}
use Rattle.std.proofs.lemmas.Str.{IsUtf8-append, IsUtf8-encode, IsUtf8-from_ascii, IsUtf8-nil, chars-append, encodes-chars, scalars-chars}
use Rattle.std.proofs.lemmas.Str.Ascii.{IsAscii-cons, IsAscii-nil, lowercase_ascii, lowercase_is}
use Rattle.std.specs.Char.{IsScalar, to_ascii_lowercase}
use Rattle.std.specs.Str.{IsUtf8, chars}
use Rattle.odata_functions.specs.Texts.{HasStart}
use Rattle.odata_functions.proofs.Encodings.{Form, form, one, two, three, four}
use Rattle.odata_functions.proofs.texts.Characters.{bytes_split}
use Rattle.odata_functions.proofs.texts.Letters.{lower_text}
use Rattle.odata_functions.specs.LowerCase.{in_lower_case}

both_true : (a b : Bool) → (a && b) ≡ true → (a ≡ true) × (b ≡ true)
both_true true true are = (refl, refl)
both_true true false are = absurd (cc)
both_true false b are = absurd (cc)

-- bytes beyond ASCII stay
stays : (b : ℕ) → 128 ≤ b → to_ascii_lowercase b ≡ b
stays b beyond = let is = lowercase_is b in is.2 (omega arith)

two_stay : (a b : ℕ) → 128 ≤ a → 128 ≤ b → map to_ascii_lowercase (a ∷ b ∷ []) ≡ a ∷ b ∷ []
two_stay a b p q = let x = stays a p in let y = stays b q in cc

three_stay : (a b c : ℕ) → 128 ≤ a → 128 ≤ b → 128 ≤ c → map to_ascii_lowercase (a ∷ b ∷ c ∷ []) ≡ a ∷ b ∷ c ∷ []
three_stay a b c p q r = let x = stays a p in let y = stays b q in let z = stays c r in cc

four_stay : (a b c d : ℕ) → 128 ≤ a → 128 ≤ b → 128 ≤ c → 128 ≤ d → map to_ascii_lowercase (a ∷ b ∷ c ∷ d ∷ []) ≡ a ∷ b ∷ c ∷ d ∷ []
four_stay a b c d p q r t = let x = stays a p in let y = stays b q in let z = stays c r in let w = stays d t in cc

-- what stays is the text that it was
stays_text : (c : ℕ) → IsScalar c → (bytes : List ℕ) → encode c ≡ bytes → map to_ascii_lowercase bytes ≡ bytes → IsUtf8 (map to_ascii_lowercase (encode c))
stays_text c scalar bytes e same = subst IsUtf8 (e ∙ sym same ∙ ap (map to_ascii_lowercase) (sym e)) (IsUtf8-encode c scalar)

lowered_form : (c : ℕ) → IsScalar c → Form c → IsUtf8 (map to_ascii_lowercase (encode c))
lowered_form c scalar (one below e) =
    let small : to_ascii_lowercase c < 128 = lowercase_ascii c below in
    subst IsUtf8 (ap (map to_ascii_lowercase) (sym e))
    (IsUtf8-from_ascii (to_ascii_lowercase c ∷ []) (IsAscii-cons (to_ascii_lowercase c) [] small IsAscii-nil))
lowered_form c scalar (two above below e) =
    stays_text c scalar ((192 + c / 64) ∷ (128 + c % 64) ∷ []) e (two_stay (192 + c / 64) (128 + c % 64) (omega arith) (omega arith))
lowered_form c scalar (three above below e) =
    stays_text c scalar ((224 + c / 64 / 64) ∷ (128 + c / 64 % 64) ∷ (128 + c % 64) ∷ []) e
    (three_stay (224 + c / 64 / 64) (128 + c / 64 % 64) (128 + c % 64) (omega arith) (omega arith) (omega arith))
lowered_form c scalar (four above e) =
    stays_text c scalar ((240 + c / 64 / 64 / 64) ∷ (128 + c / 64 / 64 % 64) ∷ (128 + c / 64 % 64) ∷ (128 + c % 64) ∷ []) e
    (four_stay (240 + c / 64 / 64 / 64) (128 + c / 64 / 64 % 64) (128 + c / 64 % 64) (128 + c % 64) (omega arith) (omega arith) (omega arith) (omega arith))

lowered_all : (cs : List ℕ) → scalars cs ≡ true → IsUtf8 (map to_ascii_lowercase (encodes cs))
lowered_all [] are = IsUtf8-nil
lowered_all (c ∷ cs) are =
    let both = both_true (scalar c) (scalars cs) are in
    subst IsUtf8 (sym (map-append to_ascii_lowercase (encode c) (encodes cs)))
    (IsUtf8-append (map to_ascii_lowercase (encode c)) (map to_ascii_lowercase (encodes cs)) (lowered_form c both.0 (form c)) (lowered_all cs both.1))

-- the text in lower case begins so as its bytes do
pub lower_start : (s t : List ℕ) → IsUtf8 s → IsUtf8 t → HasStart (map to_ascii_lowercase s) t ↔ HasStart (chars (in_lower_case s)) (chars t)
lower_start s t of_s of_t =
    let spelled : encodes (chars s) ≡ s = encodes-chars s of_s in
    let lowered : IsUtf8 (map to_ascii_lowercase s) = subst (λ (bs : List ℕ). IsUtf8 (map to_ascii_lowercase bs)) spelled (lowered_all (chars s) (scalars-chars s of_s)) in
    let characters : chars (map to_ascii_lowercase s) ≡ map to_ascii_lowercase (chars s) = lower_text s (map to_ascii_lowercase s) of_s lowered refl in
    let same : in_lower_case s ≡ map to_ascii_lowercase s = ap encodes (sym characters) ∙ encodes-chars (map to_ascii_lowercase s) lowered in (
      (λ (rest, e). (chars rest, ap chars (same ∙ e) ∙ chars-append t rest of_t)),
      (λ (rest, e).
          (encodes rest, bytes_split (map to_ascii_lowercase s) (chars t) rest lowered (ap chars (sym same) ∙ e) ∙ ap (λ (x : List ℕ). x ++ encodes rest) (encodes-chars t of_t))),
    )
