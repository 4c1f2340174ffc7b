-- Texts that are passed piece by piece.
use Rattle.std.proofs.Common.{◌≡◌, ◌≢◌, ◌⊎◌, ℕ, zero, suc, ◌+◌, ◌-◌, ◌*◌, ◌<◌, ◌≤◌, ◌==◌, ◌||◌, List, [], ◌∷◌, ◌++◌, length, take, drop, get_or, cond, true, false, Option, Some, None, option_and_then, inl, inr, refl, sym, ap, ap₂, ◌∙◌, subst, ⊎_elim, arith, append_assoc}
use Rattle.std.proofs.lemmas.Bool.{cases_lt, cond-false, ne_eqb, not-true, or_parts, true≢false}
use Rattle.std.proofs.lemmas.Bool.Decides.{nat_tests}
use Rattle.std.proofs.lemmas.List.{append-nil, drop_more, get_or_default}
use Rattle.std.proofs.lemmas.Str.{IsCharBoundary-after_ascii, IsCharBoundary-before_ascii, IsUtf8-append, IsUtf8-between, IsUtf8-encode, IsUtf8-from_ascii, IsUtf8-nil}
use Rattle.std.proofs.lemmas.Str.Ascii.{IsAscii-cons, IsAscii-nil}
use Rattle.std.specs.Char.{InScalarRange, IsScalar, digit_value, encode_utf8}
use Rattle.std.specs.Str.{IsCharBoundary, IsUtf8}
use Rattle.json.specs.Lex.{Lexeme, between, in_string, lex, string_token, token}
use Rattle.json.specs.Run.{is_plain}
use Rattle.json.specs.Text.{after_backslash, after_high, code_unit, content, is_high_surrogate, is_low_surrogate, plain, prepend, short_escape}
use Rattle.json.specs.Token.{string}
use Rattle.json.specs.Written.{PlainBetween}
use Rattle.json_room.specs.LexemesAt.{IsTextAt}
use Rattle.json_room.proofs.EscapeLemmas.{after_backslash_passed, after_other_passed, quote_passed}
use Rattle.json_room.proofs.LexemeLemmas.{from_byte, within_byte as byte_within}
use Rattle.json_room.proofs.RoomLemmas.{within_byte as stands_within}
use Rattle.json_room.specs.private.PassedTexts.{IsShortEscape, PassedUpTo, PassesEscape, PlainUpTo}

-- ---- what a text stands for, by what it begins with

none_before : (rest : Option (List ℕ)) → prepend [] rest ≡ rest
none_before None = refl
none_before (Some s) = refl

both_before : (one other : List ℕ) (rest : Option (List ℕ)) → prepend one (prepend other rest) ≡ prepend (one ++ other) rest
both_before one other None = refl
both_before one other (Some s) = ap Some (sym (append_assoc one other s))

quote_ends : (xs : List ℕ) → content plain (34 ∷ xs) ≡ Some []
unfolding content
quote_ends xs = refl

backslash_begins : (xs : List ℕ) → content plain (92 ∷ xs) ≡ content after_backslash xs
unfolding content
backslash_begins xs = refl

escape_begins : (x character : ℕ) (xs : List ℕ) → (x == 117) ≡ false → short_escape x ≡ Some character → content after_backslash (x ∷ xs) ≡ prepend (character ∷ []) (content plain xs)
unfolding content
escape_begins x character xs other reported = cond-false _ _ _ other ∙ ap (λ o. option_and_then (λ c. prepend (c ∷ []) (content plain xs)) o) reported

-- four digits that write a number
abbrev of_unit : List ℕ → ℕ → Option (List ℕ)
of_unit xs u = cond (is_high_surrogate u) (content (after_high u) xs) (cond (is_low_surrogate u) None (prepend (encode_utf8 u) (content plain xs)))

unit_begins : (a b c d : ℕ) (xs : List ℕ) → content after_backslash (117 ∷ a ∷ b ∷ c ∷ d ∷ xs) ≡ option_and_then (of_unit xs) (code_unit a b c d)
unfolding content
unit_begins a b c d xs = refl

plain_begins : (x : ℕ) (xs : List ℕ) → is_plain x ≡ true → content plain (x ∷ xs) ≡ prepend (x ∷ []) (content plain xs)
unfolding content
plain_begins x xs is =
    let none = or_parts ((x == 34) || (x == 92)) _ (not-true _ is) in
    let tests = or_parts (x == 34) _ none.0 in
    cond-false _ _ _ tests.0 ∙ cond-false _ _ _ tests.1 ∙ cond-false _ _ _ none.1

-- ---- runs of plain bytes

plain_at : (d : List ℕ) (i n : ℕ) → i + suc n ≤ length d → PlainBetween d i (i + suc n) → is_plain (get_or d i 32) ≡ true
plain_at d i n within plain_there = ap is_plain (sym (get_or_default d i 0 32 (omega (arith, within)))) ∙ plain_there i (omega arith) (omega arith)

run_content : (d : List ℕ) (i n : ℕ) → i + n ≤ length d → PlainBetween d i (i + n) → content plain (drop i d) ≡ prepend (take n (drop i d)) (content plain (drop (i + n) d))
run_content d i zero within plain_there = let same : i ≡ i + 0 = omega arith in ap (λ k. content plain (drop k d)) same ∙ sym (none_before (content plain (drop (i + 0) d)))
run_content d i (suc n) within plain_there =
    let x = get_or d i 32 in
    let here : drop i d ≡ x ∷ drop (i + 1) d = from_byte d i x (omega (arith, within)) refl in
    let same : i + 1 + n ≡ i + suc n = omega arith in
    ap (content plain) here ∙ plain_begins x (drop (i + 1) d) (plain_at d i n within plain_there)
    ∙ ap (prepend (x ∷ [])) (run_content d (i + 1) n (omega (arith, within)) (λ k low high. plain_there k (omega (arith, low)) (omega (arith, high, same))))
    ∙ both_before (x ∷ []) (take n (drop (i + 1) d)) (content plain (drop (i + 1 + n) d))
    ∙ ap₂ (λ l k. prepend (take (suc n) l) (content plain (drop k d))) (sym here) same

no_quote : (x : ℕ) → is_plain x ≡ true → x ≢ 34
no_quote x is e = let quote : is_plain 34 ≡ true = sym (ap is_plain e) ∙ is in true≢false (sym quote)

no_backslash : (x : ℕ) → is_plain x ≡ true → x ≢ 92
no_backslash x is e = let backslash : is_plain 92 ≡ true = sym (ap is_plain e) ∙ is in true≢false (sym backslash)

run_passed : (d : List ℕ) (i n : ℕ) → i + n ≤ length d → PlainBetween d i (i + n) → lex in_string (drop (i + n) d) ≡ lex in_string (drop i d)
run_passed d i zero within plain_there = let same : i + 0 ≡ i = omega arith in ap (λ k. lex in_string (drop k d)) same
run_passed d i (suc n) within plain_there =
    let here = plain_at d i n within plain_there in
    let same : i + 1 + n ≡ i + suc n = omega arith in
    subst (λ k. lex in_string (drop k d) ≡ lex in_string (drop (i + 1) d)) same (run_passed d (i + 1) n (omega (arith, within)) (λ k low high. plain_there k (omega (arith, low)) (omega (arith, high, same))))
    ∙ after_other_passed d i (omega (arith, within)) (no_quote _ here) (no_backslash _ here)

stop_within : (d : List ℕ) (j : ℕ) → (get_or d j 32 ≡ 34) ⊎ (get_or d j 32 ≡ 92) → j < length d
stop_within d j (inl e) = byte_within d j 34 e (λ no. omega arith)
stop_within d j (inr e) = byte_within d j 92 e (λ no. omega arith)

stop_is_ascii : (x : ℕ) → (x ≡ 34) ⊎ (x ≡ 92) → x < 128
stop_is_ascii x (inl e) = omega arith
stop_is_ascii x (inr e) = omega arith

-- ---- escapes of one byte

one_escape : (x n character : ℕ) → x ≡ n → short_escape n ≡ Some character → character < 128 → n < 128 → n ≢ 117 → n ≢ 10 → IsShortEscape x
one_escape x n character same stands_for reported_ascii ascii no_unit no_line_feed =
    subst IsShortEscape (sym same) (record { character = character; stands_for = stands_for; reported_ascii = reported_ascii; ascii = ascii; no_unit = no_unit; no_line_feed = no_line_feed })

pub is_short : (x : ℕ) → ((x ≡ 34) ⊎ ((x ≡ 47) ⊎ ((x ≡ 92) ⊎ ((x ≡ 98) ⊎ ((x ≡ 102) ⊎ ((x ≡ 110) ⊎ ((x ≡ 114) ⊎ (x ≡ 116)))))))) → IsShortEscape x
unfolding short_escape
is_short x (inl e) = one_escape x 34 34 e refl (omega arith) (omega arith) (λ e. omega (arith, e)) (λ e. omega (arith, e))
is_short x (inr (inl e)) = one_escape x 47 47 e refl (omega arith) (omega arith) (λ e. omega (arith, e)) (λ e. omega (arith, e))
is_short x (inr (inr (inl e))) = one_escape x 92 92 e refl (omega arith) (omega arith) (λ e. omega (arith, e)) (λ e. omega (arith, e))
is_short x (inr (inr (inr (inl e)))) = one_escape x 98 8 e refl (omega arith) (omega arith) (λ e. omega (arith, e)) (λ e. omega (arith, e))
is_short x (inr (inr (inr (inr (inl e))))) = one_escape x 102 12 e refl (omega arith) (omega arith) (λ e. omega (arith, e)) (λ e. omega (arith, e))
is_short x (inr (inr (inr (inr (inr (inl e)))))) = one_escape x 110 10 e refl (omega arith) (omega arith) (λ e. omega (arith, e)) (λ e. omega (arith, e))
is_short x (inr (inr (inr (inr (inr (inr (inl e))))))) = one_escape x 114 13 e refl (omega arith) (omega arith) (λ e. omega (arith, e)) (λ e. omega (arith, e))
is_short x (inr (inr (inr (inr (inr (inr (inr e))))))) = one_escape x 116 9 e refl (omega arith) (omega arith) (λ e. omega (arith, e)) (λ e. omega (arith, e))

pub short_passes : (d : List ℕ) (i : ℕ) → i < length d → IsShortEscape (get_or d i 0) → PassesEscape d i (i + 1)
short_passes d i within short =
    let same : i + 1 - 1 ≡ i = omega arith in
    let one = short.character ∷ [] in
    record {
      bounds = (omega arith, omega (arith, within));
      last = subst (λ k. get_or d k 0 < 128) (sym same) short.ascii;
      bytes = one;
      utf8 = IsUtf8-from_ascii one (IsAscii-cons short.character [] short.reported_ascii IsAscii-nil);
      stands_for = ap (content after_backslash) (drop_more d i 0 within) ∙ escape_begins (get_or d i 0) short.character (drop (i + 1) d) (ne_eqb (get_or d i 0) 117 short.no_unit) short.stands_for;
      digits = λ k low high. absurd (omega (arith, low, high));
    }

-- ---- escapes of four digits

no_high : (unit : ℕ) → InScalarRange unit → is_high_surrogate unit ≡ false
no_high unit scalar = grind arith

no_low : (unit : ℕ) → InScalarRange unit → is_low_surrogate unit ≡ false
no_low unit scalar = grind arith

four_after : (d : List ℕ) (i : ℕ) → i + 4 ≤ length d → drop i d ≡ get_or d i 0 ∷ get_or d (i + 1) 0 ∷ get_or d (i + 2) 0 ∷ get_or d (i + 3) 0 ∷ drop (i + 4) d
four_after d i room =
    let two : i + 1 + 1 ≡ i + 2 = omega arith in
    let three : i + 2 + 1 ≡ i + 3 = omega arith in
    let four : i + 3 + 1 ≡ i + 4 = omega arith in
    drop_more d i 0 (omega (arith, room)) ∙ ap (λ l. get_or d i 0 ∷ l)
    (drop_more d (i + 1) 0 (omega (arith, room)) ∙ ap (λ k. get_or d (i + 1) 0 ∷ drop k d) two ∙ ap (λ l. get_or d (i + 1) 0 ∷ l)
    (drop_more d (i + 2) 0 (omega (arith, room)) ∙ ap (λ k. get_or d (i + 2) 0 ∷ drop k d) three ∙ ap (λ l. get_or d (i + 2) 0 ∷ l)
    (drop_more d (i + 3) 0 (omega (arith, room)) ∙ ap (λ k. get_or d (i + 3) 0 ∷ drop k d) four)))

of_four : (P : ℕ → Type 0) (i : ℕ) → P i → P (i + 1) → P (i + 2) → P (i + 3) → (k : ℕ) → i ≤ k → k < i + 4 → P k
of_four P i none one two three k low high =
    ⊎_elim
    (λ below. ⊎_elim (λ first. let same : i ≡ k = omega (arith, low, first) in subst P same none) (λ second. let same : i + 1 ≡ k = omega (arith, second, below) in subst P same one) (cases_lt k (i + 1)))
    (λ above. ⊎_elim (λ third. let same : i + 2 ≡ k = omega (arith, above, third) in subst P same two) (λ last. let same : i + 3 ≡ k = omega (arith, last, high) in subst P same three) (cases_lt k (i + 3)))
    (cases_lt k (i + 2))

pub unit_passes : (d : List ℕ) (i unit : ℕ) → i + 4 ≤ length d → code_unit (get_or d i 0) (get_or d (i + 1) 0) (get_or d (i + 2) 0) (get_or d (i + 3) 0) ≡ Some unit → IsScalar unit → InScalarRange unit → PlainBetween d i (i + 4) → get_or d (i + 3) 0 < 128
    → (j : ℕ) → j + 1 ≡ i → get_or d j 0 ≡ 117 → PassesEscape d j (i + 4)
unit_passes d i unit room digits scalar range plain_there ascii j next lower_u =
    let last : i + 4 - 1 ≡ i + 3 = omega arith in
    let rest = drop (i + 4) d in
    let four = get_or d i 0 ∷ get_or d (i + 1) 0 ∷ get_or d (i + 2) 0 ∷ get_or d (i + 3) 0 ∷ rest in
    let begins : drop j d ≡ 117 ∷ four = drop_more d j 0 (omega (arith, next, room)) ∙ ap₂ (λ x k. x ∷ drop k d) lower_u next ∙ ap (λ l. 117 ∷ l) (four_after d i room) in
    record {
      bounds = (omega (arith, next), room);
      last = subst (λ k. get_or d k 0 < 128) (sym last) ascii;
      bytes = encode_utf8 unit;
      utf8 = IsUtf8-encode unit scalar;
      stands_for = ap (content after_backslash) begins ∙ unit_begins _ _ _ _ rest ∙ ap (option_and_then (of_unit rest)) digits ∙ cond-false _ _ _ (no_high unit range) ∙ cond-false _ _ _ (no_low unit range);
      digits = λ k low high. plain_there k (omega (arith, low, next)) high;
    }

-- a plain byte stands within the line
pub plain_inside : (d : List ℕ) (i x : ℕ) → x ≡ get_or d i 10 → is_plain x ≡ true → (i < length d) × (x ≡ get_or d i 0)
plain_inside d i x here plain_there =
    let feed : is_plain 10 ≡ false = refl in
    let within : i < length d = stands_within d i x (sym here) (λ e. true≢false (sym plain_there ∙ ap is_plain e ∙ feed)) in
    (within, here ∙ sym (get_or_default d i 0 10 within))

pub unit_is : (a b c d first second third last : ℕ) → first ≡ digit_value a → second ≡ digit_value b → third ≡ digit_value c → last ≡ digit_value d → first < 16 → second < 16 → third < 16 → last < 16
    → code_unit a b c d ≡ Some (first * 4096 + second * 256 + third * 16 + last)
unfolding code_unit
unit_is a b c d first second third last one two three four h1 h2 h3 h4 = rw (← one, ← two, ← three, ← four) (grind (arith, nat_tests))

pub four_plain : (d : List ℕ) (i : ℕ) → is_plain (get_or d i 0) ≡ true → is_plain (get_or d (i + 1) 0) ≡ true → is_plain (get_or d (i + 2) 0) ≡ true → is_plain (get_or d (i + 3) 0) ≡ true → PlainBetween d i (i + 4)
four_plain d i none one two three = of_four (λ k. is_plain (get_or d k 0) ≡ true) i none one two three

module _ (d : List ℕ) (utf8 : IsUtf8 d) where
  -- after the opening quote
  pub begun : (i : ℕ) → i < length d → get_or d i 32 ≡ 34 → PassedUpTo d i (i + 1)
  begun i within opened =
      let low : get_or d i 0 < 128 = omega (arith, get_or_default d i 0 32 within, opened) in
      record {
        bounds = (omega arith, omega (arith, within));
        boundary = IsCharBoundary-after_ascii d i utf8 within low;
        passed = [];
        utf8 = IsUtf8-nil;
        content_is = sym (none_before (content plain (drop (i + 1) d)));
        goes_on = refl;
      }

  -- a plain run, up to a quote or a backslash
  pub run_up_to : (i at : ℕ) → PlainUpTo d i at → (get_or d at 32 ≡ 34) ⊎ (get_or d at 32 ≡ 92) → PassedUpTo d i at
  run_up_to i at up ended =
      ⊎_elim (λ further. longer further) (λ none. let same : up.start ≡ at = omega (arith, none, up.bounds.0) in subst (PassedUpTo d i) same up.passed) (cases_lt up.start at)
    where
      longer : up.start < at → PassedUpTo d i at
      longer further =
          let before = up.passed in
          let n = at - up.start in
          let there : up.start + n ≡ at = omega (arith, further) in
          let run = take n (drop up.start d) in
          let plain_run = subst (PlainBetween d up.start) (sym there) up.plain_there in
          let room : up.start + n ≤ length d = omega (arith, there, up.bounds.1) in
          let within = stop_within d at ended in
          let boundary : IsCharBoundary d at = IsCharBoundary-before_ascii d at within (omega (arith, stop_is_ascii (get_or d at 32) ended, get_or_default d at 0 32 within)) in
          record {
            bounds = (omega (arith, before.bounds.0, further), up.bounds.1);
            boundary = boundary;
            passed = before.passed ++ run;
            utf8 = IsUtf8-append before.passed run before.utf8 (IsUtf8-between d up.start at utf8 up.bounds.0 before.boundary boundary);
            content_is = before.content_is ∙ ap (prepend before.passed) (run_content d up.start n room plain_run) ∙ both_before before.passed run (content plain (drop (up.start + n) d)) ∙ ap (λ k. prepend (before.passed ++ run) (content plain (drop k d))) there;
            goes_on = ap (λ k. lex in_string (drop k d)) (sym there) ∙ run_passed d up.start n room plain_run ∙ before.goes_on;
          }

  -- an escape
  pub escape_up_to : (i at next : ℕ) → PassedUpTo d i at → get_or d at 32 ≡ 92 → PassesEscape d (at + 1) next → PassedUpTo d i next
  escape_up_to i at next before backslash escape =
      let inside : at < length d = omega (arith, escape.bounds.0, escape.bounds.1) in
      let first : at + 1 + 1 ≡ at + 2 = omega arith in
      let n = next - (at + 2) in
      let there : at + 2 + n ≡ next = omega (arith, escape.bounds.0) in
      let digits : PlainBetween d (at + 2) (at + 2 + n) = subst (PlainBetween d (at + 2)) (sym there) (subst (λ k. PlainBetween d k next) first escape.digits) in
      let back : next - 1 + 1 ≡ next = omega (arith, escape.bounds.0) in
      let here : content plain (drop at d) ≡ prepend escape.bytes (content plain (drop next d)) = ap (content plain) (from_byte d at 92 inside backslash) ∙ backslash_begins (drop (at + 1) d) ∙ escape.stands_for in
      record {
        bounds = (omega (arith, before.bounds.0, escape.bounds.0), escape.bounds.1);
        boundary = subst (IsCharBoundary d) back (IsCharBoundary-after_ascii d (next - 1) utf8 (omega (arith, escape.bounds.0, escape.bounds.1)) escape.last);
        passed = before.passed ++ escape.bytes;
        utf8 = IsUtf8-append before.passed escape.bytes before.utf8 escape.utf8;
        content_is = before.content_is ∙ ap (prepend before.passed) here ∙ both_before before.passed escape.bytes (content plain (drop next d));
        goes_on = ap (λ k. lex in_string (drop k d)) (sym there) ∙ run_passed d (at + 2) n (omega (arith, there, escape.bounds.1)) digits ∙ after_backslash_passed d at inside backslash ∙ before.goes_on;
      }

  text_there : (xs s : List ℕ) (ls : List Lexeme) → content plain xs ≡ Some s → lex in_string xs ≡ ls → lex between (34 ∷ xs) ≡ token (string s) ∷ ls
  unfolding lex
  text_there xs s ls is passed = ap₂ (λ o l. token (string_token o) ∷ l) is passed

  -- up to the closing quote
  pub closed : (i at : ℕ) → get_or d i 32 ≡ 34 → (up : PassedUpTo d i at) → at < length d → get_or d at 32 ≡ 34 → IsTextAt d i up.passed (at + 1)
  closed i at opened up within quote =
      let rest = ap (content plain) (from_byte d at 34 within quote) ∙ quote_ends (drop (at + 1) d) in
      let some : content plain (drop (i + 1) d) ≡ Some up.passed = up.content_is ∙ ap (prepend up.passed) rest ∙ ap Some (append-nil up.passed) in
      let ended : lex in_string (drop (i + 1) d) ≡ lex between (drop (at + 1) d) = sym up.goes_on ∙ ap (lex in_string) (from_byte d at 34 within quote) ∙ quote_passed (drop (at + 1) d) in
      record {
        within = omega (arith, within);
        lexed = ap (lex between) (from_byte d i 34 (omega (arith, up.bounds.0, within)) opened) ∙ text_there (drop (i + 1) d) up.passed (lex between (drop (at + 1) d)) some ended;
      }

-- where it begins, after an escape and at the next stop
pub run_further : (d : List ℕ) (i start at : ℕ) → PassedUpTo d i start → start ≤ at → at ≤ length d → PlainBetween d start at → PlainUpTo d i at
run_further d i start at passed order within plain_there = record { start = start; passed = passed; bounds = (order, within); plain_there = plain_there }
