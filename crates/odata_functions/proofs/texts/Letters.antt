-- Letters in one case, byte by byte.
use Rattle.std.proofs.Common.{◌≡◌, ℕ, ◌+◌, ◌/◌, ◌%◌, ◌≤◌, ◌<◌, List, [], ◌∷◌, ◌++◌, map, arith, refl, sym, ap, ◌∙◌}
use Rattle.std.proofs.Math.Utf8.{encode, encodes}
use Rattle.std.proofs.lemmas.List.{map-append}
use Rattle.std.proofs.lemmas.Str.{chars_from_encodes, encodes-chars, encode_ascii}
use Rattle.std.proofs.lemmas.Str.Ascii.{lowercase_ascii, lowercase_is, uppercase_ascii, uppercase_is}
use Rattle.std.specs.Char.{to_ascii_lowercase, to_ascii_uppercase}
use Rattle.std.specs.Str.{IsUtf8, chars}
use Rattle.odata_functions.proofs.Encodings.{Form, form, one, two, three, four}

-- a change of ASCII bytes to ASCII bytes that leaves the others
module _ (change : ℕ → ℕ) (ascii : (c : ℕ) → c < 128 → change c < 128) (beyond : (c : ℕ) → 128 ≤ c → change c ≡ c) where
  same_byte : (k : ℕ) → 128 ≤ k → k ≡ change k
  same_byte k h = sym (beyond k h)

  two_same : (a b : ℕ) → 128 ≤ a → 128 ≤ b → a ∷ b ∷ [] ≡ map change (a ∷ b ∷ [])
  two_same a b p q = let x = same_byte a p in let y = same_byte b q in cc

  three_same : (a b c : ℕ) → 128 ≤ a → 128 ≤ b → 128 ≤ c → a ∷ b ∷ c ∷ [] ≡ map change (a ∷ b ∷ c ∷ [])
  three_same a b c p q r = let x = same_byte a p in let y = same_byte b q in let z = same_byte c r in cc

  four_same : (a b c d : ℕ) → 128 ≤ a → 128 ≤ b → 128 ≤ c → 128 ≤ d → a ∷ b ∷ c ∷ d ∷ [] ≡ map change (a ∷ b ∷ c ∷ d ∷ [])
  four_same a b c d p q r t = let x = same_byte a p in let y = same_byte b q in let z = same_byte c r in let w = same_byte d t in cc

  changed_form : (c : ℕ) → Form c → encode (change c) ≡ map change (encode c)
  changed_form c (one below e) = encode_ascii (change c) (ascii c below) ∙ ap (map change) (sym e)
  changed_form c (two above below e) =
      ap encode (beyond c above) ∙ e ∙ two_same (192 + c / 64) (128 + c % 64) (omega arith) (omega arith) ∙ ap (map change) (sym e)
  changed_form c (three above below e) =
      let big : 128 ≤ c = omega arith in
      ap encode (beyond c big) ∙ e
      ∙ three_same (224 + c / 64 / 64) (128 + c / 64 % 64) (128 + c % 64) (omega arith) (omega arith) (omega arith) ∙ ap (map change) (sym e)
  changed_form c (four above e) =
      let big : 128 ≤ c = omega arith in
      ap encode (beyond c big) ∙ e
      ∙ four_same (240 + c / 64 / 64 / 64) (128 + c / 64 / 64 % 64) (128 + c / 64 % 64) (128 + c % 64) (omega arith) (omega arith) (omega arith) (omega arith)
      ∙ ap (map change) (sym e)

  changed_all : (cs : List ℕ) → encodes (map change cs) ≡ map change (encodes cs)
  changed_all [] = refl
  changed_all (c ∷ cs) =
      ap (λ (x : List ℕ). x ++ encodes (map change cs)) (changed_form c (form c))
      ∙ ap (λ (x : List ℕ). map change (encode c) ++ x) (changed_all cs)
      ∙ sym (map-append change (encode c) (encodes cs))

  pub changed_text : (s t : List ℕ) → IsUtf8 s → IsUtf8 t → t ≡ map change s → chars t ≡ map change (chars s)
  changed_text s t of_s of_t e =
      sym (chars_from_encodes (map change (chars s)) t of_t (changed_all (chars s) ∙ ap (map change) (encodes-chars s of_s) ∙ sym e))

lower_beyond : (c : ℕ) → 128 ≤ c → to_ascii_lowercase c ≡ c
lower_beyond c h = let is = lowercase_is c in is.2 (omega arith)

upper_beyond : (c : ℕ) → 128 ≤ c → to_ascii_uppercase c ≡ c
upper_beyond c h = let is = uppercase_is c in is.2 (omega arith)

pub lower_text : (s t : List ℕ) → IsUtf8 s → IsUtf8 t → t ≡ map to_ascii_lowercase s → chars t ≡ map to_ascii_lowercase (chars s)
lower_text = changed_text to_ascii_lowercase lowercase_ascii lower_beyond

pub upper_text : (s t : List ℕ) → IsUtf8 s → IsUtf8 t → t ≡ map to_ascii_uppercase s → chars t ≡ map to_ascii_uppercase (chars s)
upper_text = changed_text to_ascii_uppercase uppercase_ascii upper_beyond
