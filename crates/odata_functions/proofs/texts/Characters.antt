-- Where bytes are split, their characters are, and the other way round.
use Rattle.std.proofs.Common.{◌≡◌, ℕ, ◌≤◌, List, [], ◌∷◌, ◌++◌, length, take, arith, refl, sym, ap, subst, ◌∙◌}
use Rattle.std.proofs.Math.Seq.{take-append_seam}
use Rattle.std.proofs.Math.Utf8.{encode, encodes}
use Rattle.std.proofs.lemmas.List.{append-nil}
use Rattle.std.proofs.lemmas.Str.{encodes-append, encodes-chars, chars-nil, chars_past_char, IsUtf8-take, IsUtf8-encode, IsCharBoundary-at_seam}
use Rattle.std.specs.Char.{IsScalar}
use Rattle.std.specs.Str.{IsUtf8, chars}

pub bytes_split : (s cs ds : List ℕ) → IsUtf8 s → chars s ≡ cs ++ ds → s ≡ encodes cs ++ encodes ds
bytes_split s cs ds of_s e = sym (encodes-chars s of_s) ∙ ap encodes e ∙ encodes-append cs ds

-- what stands before a text in a text is one
pub front_utf8 : (s xs ys : List ℕ) → IsUtf8 s → s ≡ xs ++ ys → IsUtf8 ys → IsUtf8 xs
front_utf8 s xs ys of_s e of_ys =
    subst IsUtf8 (ap (take (length xs)) e ∙ take-append_seam xs ys) (IsUtf8-take s (length xs) of_s (IsCharBoundary-at_seam s xs ys e of_ys))

pub one_char : (c : ℕ) → IsScalar c → chars (encode c) ≡ c ∷ []
one_char c scalar =
    chars_past_char (encode c) [] c (IsUtf8-encode c scalar) (sym (append-nil (encode c))) ∙ ap (λ (cs : List ℕ). c ∷ cs) chars-nil

-- of two splits of one list, the front that is no longer is the front of the other
pub front_of_front : (xs ys zs ws : List ℕ) → xs ++ ys ≡ zs ++ ws → length xs ≤ length zs → (more : List ℕ) × (zs ≡ xs ++ more)
front_of_front [] ys zs ws e h = (zs, refl)
front_of_front (x ∷ xs) ys [] ws e h = absurd (omega arith)
front_of_front (x ∷ xs) ys (z ∷ zs) ws e h =
    let behind : xs ++ ys ≡ zs ++ ws = cc in
    let same : x ≡ z = cc in
    let shorter : length xs ≤ length zs = omega arith in
    let rest = front_of_front xs ys zs ws behind shorter in
    let is : zs ≡ xs ++ rest.0 = rest.1 in
    (rest.0, ap (λ (k : ℕ). k ∷ zs) (sym same) ∙ ap (λ (l : List ℕ). x ∷ l) is)
