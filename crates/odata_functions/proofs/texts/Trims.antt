-- A text without the white space at its ends.
use Rattle.std.proofs.Common.{◌≡◌, ℕ, ◌-◌, ◌≤◌, ◌<◌, Bool, true, false, not, IsTrue, List, [], ◌∷◌, ◌++◌, length, take, drop, arith, refl, sym, ap, subst, ◌∙◌}
use Rattle.std.proofs.Math.Seq.{drop-append_seam, take-append_seam}
use Rattle.std.proofs.Math.Utf8.{encode}
use Rattle.std.proofs.lemmas.List.{length-append, take-append-drop}
use Rattle.std.proofs.lemmas.Str.{chars-append, chars-nil, chars_from_encodes, chars_past_char, IsCharBoundary-at_seam, IsCharBoundary-from_take, IsUtf8-drop, IsUtf8-encode}
use Rattle.std.specs.Char.{is_not_whitespace, is_whitespace}
use Rattle.std.specs.Str.{IsCharBoundary, IsTrimEnd, IsTrimStart, IsUtf8, NoCharPasses, NonePass, chars}
use Rattle.odata_functions.specs.Texts.{IsBlank, IsTrimmed}
use Rattle.odata_functions.proofs.texts.Characters.{front_utf8, one_char}

blank : (b : Bool) → not b ≡ false → IsTrue b
blank true e = refl
blank false e = cc

dark : (b : Bool) → not b ≡ true → ¬ IsTrue b
dark true e is = cc
dark false e is = cc

all_blank : (cs : List ℕ) → NonePass is_not_whitespace cs → IsBlank cs
all_blank [] none = tt
all_blank (c ∷ cs) (here, more) = (blank (is_whitespace c) here, all_blank cs more)

blank_text : (bs : List ℕ) → IsUtf8 bs → NoCharPasses is_not_whitespace bs → IsBlank (chars bs)
blank_text bs of_bs (cs, is, none) = subst IsBlank (chars_from_encodes cs bs of_bs is) (all_blank cs none)

nothing_spelled : (xs : List ℕ) → length xs ≡ 0 → chars xs ≡ []
nothing_spelled [] e = chars-nil
nothing_spelled (x ∷ xs) e = absurd (omega arith)

some_bytes : (xs more : List ℕ) (c : ℕ) → chars xs ≡ c ∷ more → 0 < length xs
some_bytes [] more c e = absurd (let none : c ∷ more ≡ [] = sym e ∙ chars-nil in cc)
some_bytes (x ∷ xs) more c e = omega arith

last_or : ℕ → List ℕ → ℕ
last_or d [] = d
last_or d (x ∷ xs) = last_or x xs

last_or-snoc : (xs : List ℕ) (d c : ℕ) → last_or d (xs ++ c ∷ []) ≡ c
unfolding last_or
last_or-snoc [] d c = refl
last_or-snoc (x ∷ xs) d c = last_or-snoc xs x c

one_last : (xs ys : List ℕ) (c d : ℕ) → xs ++ c ∷ [] ≡ ys ++ d ∷ [] → c ≡ d
one_last xs ys c d e = sym (last_or-snoc xs 0 c) ∙ ap (last_or 0) e ∙ last_or-snoc ys 0 d

no_snoc : (more : List ℕ) (c : ℕ) → ¬ ([] ≡ more ++ c ∷ [])
no_snoc [] c e = cc
no_snoc (x ∷ more) c e = cc

some_of_last : (xs more : List ℕ) (c : ℕ) → chars xs ≡ more ++ c ∷ [] → 0 < length xs
some_of_last [] more c e = absurd (no_snoc more c (sym chars-nil ∙ e))
some_of_last (x ∷ xs) more c e = omega arith

pub start_split : (s r : List ℕ) → IsTrimStart s r → (front : List ℕ) × (s ≡ front ++ r) × NoCharPasses is_not_whitespace front
start_split s r (m, is, none, first, size) = (take m s, sym (take-append-drop m s) ∙ ap (λ (x : List ℕ). take m s ++ x) (sym is), none)

pub end_split : (r q : List ℕ) → IsTrimEnd r q → (behind : List ℕ) × (r ≡ q ++ behind) × NoCharPasses is_not_whitespace behind
end_split r q (n, is, none, last, size, within) = (drop n r, sym (take-append-drop n r) ∙ ap (λ (x : List ℕ). x ++ drop n r) (sym is), none)

-- so many bytes stand before the rest, and so many are what is left of it
pub from_rest : (s r : List ℕ) → IsTrimStart s r → drop (length s - length r) s ≡ r
from_rest s r start =
    let (front, of_text, none) = start_split s r start in
    let size : length s - length r ≡ length front = omega (arith, ap length of_text ∙ length-append front r) in
    ap (λ (n : ℕ). drop n s) size ∙ ap (drop (length front)) of_text ∙ drop-append_seam front r

pub to_end : (r q : List ℕ) → IsTrimEnd r q → take (length q) r ≡ q
to_end r q end =
    let (behind, of_rest, none) = end_split r q end in
    ap (take (length q)) of_rest ∙ take-append_seam q behind

pub boundary_of_rest : (s r : List ℕ) → IsUtf8 r → IsTrimStart s r → IsCharBoundary s (length s - length r)
boundary_of_rest s r of_r start =
    let (front, of_text, none) = start_split s r start in
    let size : length front ≡ length s - length r = omega (arith, ap length of_text ∙ length-append front r) in
    subst (IsCharBoundary s) size (IsCharBoundary-at_seam s front r of_text of_r)

pub boundary_of_end : (r q : List ℕ) → IsUtf8 r → IsUtf8 q → IsTrimEnd r q → IsCharBoundary r (length q)
boundary_of_end r q of_r of_q end =
    let (behind, of_rest, none) = end_split r q end in
    let size : length q ≤ length r = omega (arith, ap length of_rest ∙ length-append q behind) in
    IsCharBoundary-from_take r (length q) of_r size (subst IsUtf8 (sym (to_end r q end)) of_q)

-- the text, what is left of it at its start, and what is left of this at its end
module _ (s r q : List ℕ) (of_s : IsUtf8 s) (of_r : IsUtf8 r) (of_q : IsUtf8 q) where
  first_dark : IsTrimStart s r → (c : ℕ) (more : List ℕ) → chars r ≡ c ∷ more → ¬ IsTrue (is_whitespace c)
  first_dark (m, is, none, (rest, first), size) c more e =
      let (d, dark_d, split, scalar) = first (some_bytes r more c e) in
      let both : c ∷ more ≡ d ∷ chars rest = sym e ∙ chars_past_char r rest d of_r split in
      let same : d ≡ c = cc in
      dark (is_whitespace c) (subst (λ (k : ℕ). is_not_whitespace k ≡ true) same dark_d)

  last_dark : IsTrimEnd r q → (c : ℕ) (more : List ℕ) → chars q ≡ more ++ c ∷ [] → ¬ IsTrue (is_whitespace c)
  last_dark (n, is, none, last, size, within) c more e =
      let (d, front, dark_d, split, scalar) = last (some_of_last q more c e) in
      let of_front = front_utf8 q front (encode d) of_q split (IsUtf8-encode d scalar) in
      let spelled : chars q ≡ chars front ++ d ∷ [] = ap chars split ∙ chars-append front (encode d) of_front ∙ ap (λ (x : List ℕ). chars front ++ x) (one_char d scalar) in
      let same = one_last (chars front) more d c (sym spelled ∙ e) in
      dark (is_whitespace c) (subst (λ (k : ℕ). is_not_whitespace k ≡ true) same dark_d)

  pub trimmed : IsTrimStart s r → IsTrimEnd r q → IsTrimmed (chars s) (chars q)
  trimmed start end =
      let (front, of_text, none_front) = start_split s r start in
      let (behind, of_rest, none_behind) = end_split r q end in
      let of_front = front_utf8 s front r of_s of_text of_r in
      let of_behind = subst IsUtf8 (ap (drop (length q)) of_rest ∙ drop-append_seam q behind) (IsUtf8-drop r (length q) of_r (boundary_of_end r q of_r of_q end)) in
      let characters : chars r ≡ chars q ++ chars behind = ap chars of_rest ∙ chars-append q behind of_q in
      record {
        before = chars front;
        behind = chars behind;
        split = ap chars of_text ∙ chars-append front r of_front ∙ ap (λ (x : List ℕ). chars front ++ x) characters;
        blank_before = blank_text front of_front none_front;
        blank_behind = blank_text behind of_behind none_behind;
        first = λ c more e. first_dark start c (more ++ chars behind) (characters ∙ ap (λ (x : List ℕ). x ++ chars behind) e);
        last = λ c more e. last_dark end c more e;
      }
