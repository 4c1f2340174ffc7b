-- The byte after so many characters.
use Rattle.std.proofs.Common.{◌≡◌, ℕ, ◌+◌, ◌-◌, ◌≤◌, true, false, Option, Some, None, MatchOption, is_some, List, [], ◌∷◌, ◌++◌, length, take, drop, arith, refl, sym, ap, subst, ◌∙◌, append_assoc}
use Rattle.std.proofs.Math.Seq.{take-append_seam, take-length, drop-append_seam, drop-length}
use Rattle.std.proofs.Math.Utf8.{encode}
use Rattle.std.proofs.lemmas.List.{append-nil, drop_all, length-append, length-drop, length-take-le, take-append-drop, take_all}
use Rattle.std.proofs.lemmas.Str.{chars-append, chars-IsAscii, chars-nil, chars_past_char, encodes-chars, IsCharBoundary-at_seam, IsCharBoundary-end, IsCharBoundary-from_take, IsUtf8-drop, IsUtf8-from_ascii, IsUtf8-nil, IsUtf8-past_char, length-le-encodes}
use Rattle.std.specs.Str.{IsAscii, IsCharBoundary, IsUtf8, chars}
use Rattle.odata_functions.specs.private.Cuts.{IsOffset, IsRemaining}
use Rattle.odata_functions.proofs.texts.Characters.{front_utf8}

no_items : (xs : List ℕ) → length xs ≡ 0 → xs ≡ []
no_items [] e = refl
no_items (x ∷ xs) e = absurd (omega arith)

-- so many characters have been read, and the rest is left
pub record IsRead (text rest : List ℕ) (count : ℕ) : Type 0 where
  pub front : List ℕ
  pub split : text ≡ front ++ rest
  pub rest_utf8 : IsUtf8 rest
  pub counted : length (chars front) ≡ count

pub none_read : (text : List ℕ) → IsUtf8 text → IsRead text text 0
none_read text of_text = record { front = []; split = refl; rest_utf8 = of_text; counted = ap length chars-nil }

module _ (text : List ℕ) (of_text : IsUtf8 text) where
  apart : (rest : List ℕ) (count : ℕ) (r : IsRead text rest count) → chars text ≡ chars r.front ++ chars rest
  apart rest count r = ap chars r.split ∙ chars-append r.front rest (front_utf8 text r.front rest of_text r.split r.rest_utf8)

  -- one more
  pub one_read : (rest more : List ℕ) (count c : ℕ) → IsRead text rest count → rest ≡ encode c ++ more → IsRead text more (count + 1)
  one_read rest more count c r e =
      let of_more : IsUtf8 more = IsUtf8-past_char rest more c r.rest_utf8 e in
      let longer : text ≡ (r.front ++ encode c) ++ more = r.split ∙ ap (λ (x : List ℕ). r.front ++ x) e ∙ sym (append_assoc r.front (encode c) more) in
      let of_front = front_utf8 text (r.front ++ encode c) more of_text longer of_more in
      let with_more : chars text ≡ chars (r.front ++ encode c) ++ chars more = ap chars longer ∙ chars-append (r.front ++ encode c) more of_front in
      let sizes : length (chars r.front) + length (chars rest) ≡ length (chars (r.front ++ encode c)) + length (chars more) =
      sym (length-append (chars r.front) (chars rest)) ∙ ap length (sym (apart rest count r) ∙ with_more) ∙ length-append (chars (r.front ++ encode c)) (chars more) in
      let step : length (chars rest) ≡ length (c ∷ chars more) = ap length (chars_past_char rest more c r.rest_utf8 e) in
      let counted = r.counted in
      record { front = r.front ++ encode c; split = longer; rest_utf8 = of_more; counted = omega arith }

  pub read_rest : (rest : List ℕ) (count : ℕ) → IsRead text rest count → IsRemaining text rest count
  read_rest rest count r = record {
    front = r.front;
    split = r.split;
    rest_utf8 = r.rest_utf8;
    front_chars = sym (subst (λ (n : ℕ). take n (chars text) ≡ chars r.front) r.counted
        (ap (take (length (chars r.front))) (apart rest count r) ∙ take-append_seam (chars r.front) (chars rest)));
    rest_chars = sym (subst (λ (n : ℕ). drop n (chars text) ≡ chars rest) r.counted
        (ap (drop (length (chars r.front))) (apart rest count r) ∙ drop-append_seam (chars r.front) (chars rest)));
  }

  -- nothing is left, and so many or more were asked for
  pub all_read : (rest : List ℕ) (count most : ℕ) → IsRead text rest count → length rest ≡ 0 → count ≤ most → IsRemaining text [] most
  all_read rest count most r empty less =
      let none = no_items rest empty in
      let whole : length (chars text) ≤ most = omega (arith, ap length (apart rest count r) ∙ length-append (chars r.front) (chars rest), r.counted, ap (λ (l : List ℕ). length (chars l)) none ∙ ap length chars-nil) in
      record {
        front = text;
        split = sym (append-nil text);
        rest_utf8 = IsUtf8-nil;
        front_chars = sym (take_all most (chars text) whole);
        rest_chars = chars-nil ∙ sym (drop_all most (chars text) whole);
      }

  -- the same of what `next` answered
  pub next_read : (rest more : List ℕ) (count : ℕ) (read : Option ℕ) (None' : Type 0) → IsRead text rest count
      → MatchOption read None' (λ c. rest ≡ encode c ++ more) → is_some read ≡ true → IsRead text more (count + 1)
  next_read rest more count None None' r steps some = cc
  next_read rest more count (Some c) None' r steps some = one_read rest more count c r steps

  pub rest_offset : (rest : List ℕ) (count : ℕ) → IsRemaining text rest count → IsOffset text count (length text - length rest)
  rest_offset rest count r =
      let size : length text - length rest ≡ length r.front = omega (arith, ap length r.split ∙ length-append r.front rest) in
      subst (IsOffset text count) (sym size) (record {
        boundary = IsCharBoundary-at_seam text r.front rest r.split r.rest_utf8;
        front_chars = ap chars (ap (take (length r.front)) r.split ∙ take-append_seam r.front rest) ∙ r.front_chars;
        rest_chars = ap chars (ap (drop (length r.front)) r.split ∙ drop-append_seam r.front rest) ∙ r.rest_chars;
      })

  -- no text has more characters than bytes
  pub all_before : (count : ℕ) → length text ≤ count → IsOffset text count (length text)
  all_before count small =
      let fewer : length (chars text) ≤ count = omega (arith, small, length-le-encodes (chars text), ap length (encodes-chars text of_text)) in
      record {
        boundary = IsCharBoundary-end text;
        front_chars = ap chars (take-length text) ∙ sym (take_all count (chars text) fewer);
        rest_chars = ap chars (drop-length text) ∙ chars-nil ∙ sym (drop_all count (chars text) fewer);
      }

  -- each character of ASCII is a byte
  pub plain_before : (count : ℕ) → count ≤ length text → IsAscii (take count text) → IsOffset text count count
  plain_before count within plain =
      let front = take count text in
      let rest = drop count text in
      let boundary : IsCharBoundary text count = IsCharBoundary-from_take text count of_text within (IsUtf8-from_ascii front plain) in
      let same : length text - length rest ≡ count = omega (arith, within, length-drop count text) in
      subst (IsOffset text count) same (rest_offset rest count (read_rest rest count (record {
        front = front;
        split = sym (take-append-drop count text);
        rest_utf8 = IsUtf8-drop text count of_text boundary;
        counted = ap length (chars-IsAscii front plain) ∙ length-take-le count text within;
      })))

pub nothing_left : (rest : List ℕ) (read : Option ℕ) (Same : Type 0) (P : ℕ → Type 0) → MatchOption read ((length rest ≡ 0) × Same) P
    → is_some read ≡ false → length rest ≡ 0
nothing_left rest None Same P steps none = steps.0
nothing_left rest (Some c) Same P steps none = cc

-- a list that is turned so that a part after comes first
pub turned : (s : List ℕ) (offset : ℕ) → take (length s - offset) (drop offset s ++ take offset s) ≡ drop offset s
turned s offset =
    ap (λ (n : ℕ). take n (drop offset s ++ take offset s)) (sym (length-drop offset s)) ∙ take-append_seam (drop offset s) (take offset s)
