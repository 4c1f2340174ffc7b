-- Lemmas on texts with escapes that are decoded piece by piece.
use Rattle.std.proofs.Common.{◌≡◌, ◌⊎◌, ℕ, suc, ◌+◌, ◌-◌, ◌<◌, ◌≤◌, List, [], ◌∷◌, ◌++◌, length, take, drop, get_or, true, false, cond, ◌==◌, ◌||◌, nat_lt, Option, None, Some, option_and_then, inl, inr, refl, sym, ap, ◌∙◌, subst, arith, append_assoc}
use Rattle.std.proofs.lemmas.Bool.{cond-false, ne_eqb, not-true, or_parts}
use Rattle.std.proofs.lemmas.List.{append-nil, drop-drop, drop_more, get_or_default, take-append-drop}
use Rattle.std.proofs.lemmas.Str.{IsCharBoundary-after_ascii, IsCharBoundary-before_ascii, encode_ascii}
use Rattle.std.specs.Char.{InScalarRange, encode_utf8}
use Rattle.std.specs.Str.{IsUtf8, IsCharBoundary}
use Rattle.json.specs.Run.{is_plain}
use Rattle.json.specs.Text.{code_unit, content, plain, after_backslash, after_high, is_high_surrogate, is_low_surrogate, prepend, short_escape}
use Rattle.json.specs.Written.{PlainBetween}
use Rattle.json_room.specs.private.Escapes.{EscapesAt, ReportsTo, reported_and_rest}
use Rattle.json_room.proofs.LexemeLemmas.{taken_plain, within_byte}

-- ---- what a text begins with, and what follows it

pub nothing_before : (rest : Option (List ℕ)) → prepend [] rest ≡ rest
nothing_before None = refl
nothing_before (Some s) = refl

one_behind_other : (one other : List ℕ) (rest : Option (List ℕ)) → prepend one (prepend other rest) ≡ prepend (one ++ other) rest
one_behind_other one other None = refl
one_behind_other one other (Some s) = ap Some (sym (append_assoc one other s))

at_quote : (xs : List ℕ) → content plain (34 ∷ xs) ≡ Some []
unfolding content
at_quote xs = refl

at_backslash : (xs : List ℕ) → content plain (92 ∷ xs) ≡ content after_backslash xs
unfolding content
at_backslash xs = refl

at_plain : (x : ℕ) (xs : List ℕ) → (x == 34) ≡ false → (x == 92) ≡ false → nat_lt x 32 ≡ false → content plain (x ∷ xs) ≡ prepend (x ∷ []) (content plain xs)
unfolding content
at_plain x xs quote backslash control = cond-false _ _ _ quote ∙ cond-false _ _ _ backslash ∙ cond-false _ _ _ control

at_byte : (x : ℕ) (xs : List ℕ) → (x == 117) ≡ false → content after_backslash (x ∷ xs) ≡ option_and_then (λ c. prepend (c ∷ []) (content plain xs)) (short_escape x)
unfolding content
at_byte x xs other = cond-false _ _ _ other

-- four digits, of which u is what they write
abbrev of_unit : List ℕ → ℕ → Option (List ℕ)
of_unit xs u = cond (is_high_surrogate u) (content (after_high u) xs) (cond (is_low_surrogate u) None (prepend (encode_utf8 u) (content plain xs)))

at_digits : (a b c d : ℕ) (xs : List ℕ) → content after_backslash (117 ∷ a ∷ b ∷ c ∷ d ∷ xs) ≡ option_and_then (of_unit xs) (code_unit a b c d)
unfolding content
at_digits a b c d xs = refl

-- ---- one escape

-- a backslash and one byte
pub byte_escapes : (d : List ℕ) (i character : ℕ) → i < length d → (get_or d i 0 ≡ 117 → ⊥) → short_escape (get_or d i 0) ≡ Some character → character < 128 → get_or d i 0 < 128
    → EscapesAt d i character (i + 1)
byte_escapes d i character within other reported ascii last =
    let there : i + 1 - 1 ≡ i = omega arith in
    let rest = content plain (drop (i + 1) d) in
    record {
      bounds = (omega arith, omega arith);
      last = subst (λ k. get_or d k 0 < 128) (sym there) last;
      stands_for = ap (content after_backslash) (drop_more d i 0 within) ∙ at_byte (get_or d i 0) (drop (i + 1) d) (ne_eqb _ 117 other)
          ∙ ap (λ o. option_and_then (λ c. prepend (c ∷ []) rest) o) reported ∙ ap (λ l. prepend l rest) (sym (encode_ascii character ascii));
    }

no_high : (unit : ℕ) → InScalarRange unit → is_high_surrogate unit ≡ false
no_high unit scalar = grind arith

no_low : (unit : ℕ) → InScalarRange unit → is_low_surrogate unit ≡ false
no_low unit scalar = grind arith

byte_and_rest : (d : List ℕ) (j k : ℕ) → k ≡ j + 1 → j < length d → drop j d ≡ get_or d j 0 ∷ drop k d
byte_and_rest d j k next within = drop_more d j 0 within ∙ ap (λ n. get_or d j 0 ∷ drop n d) (sym next)

five_bytes : (d : List ℕ) (i : ℕ) → i + 5 ≤ length d
    → drop i d ≡ get_or d i 0 ∷ get_or d (i + 1) 0 ∷ get_or d (i + 1 + 1) 0 ∷ get_or d (i + 1 + 2) 0 ∷ get_or d (i + 1 + 3) 0 ∷ drop (i + 5) d
five_bytes d i room =
    byte_and_rest d i (i + 1) refl (omega arith) ∙ ap (λ l. get_or d i 0 ∷ l)
    (byte_and_rest d (i + 1) (i + 1 + 1) refl (omega arith) ∙ ap (λ l. get_or d (i + 1) 0 ∷ l)
    (byte_and_rest d (i + 1 + 1) (i + 1 + 2) (omega arith) (omega arith) ∙ ap (λ l. get_or d (i + 1 + 1) 0 ∷ l)
    (byte_and_rest d (i + 1 + 2) (i + 1 + 3) (omega arith) (omega arith) ∙ ap (λ l. get_or d (i + 1 + 2) 0 ∷ l)
    (byte_and_rest d (i + 1 + 3) (i + 5) (omega arith) (omega arith)))))

-- four digits that write no surrogate
pub unit_escapes : (d : List ℕ) (i unit : ℕ) → i + 5 ≤ length d → get_or d i 0 ≡ 117
    → code_unit (get_or d (i + 1) 0) (get_or d (i + 1 + 1) 0) (get_or d (i + 1 + 2) 0) (get_or d (i + 1 + 3) 0) ≡ Some unit
    → InScalarRange unit → get_or d (i + 1 + 3) 0 < 128 → EscapesAt d i unit (i + 5)
unit_escapes d i unit room lower_u digits scalar last =
    let there : i + 5 - 1 ≡ i + 1 + 3 = omega arith in
    let rest = drop (i + 5) d in
    let four = get_or d (i + 1) 0 ∷ get_or d (i + 1 + 1) 0 ∷ get_or d (i + 1 + 2) 0 ∷ get_or d (i + 1 + 3) 0 ∷ rest in
    record {
      bounds = (omega arith, room);
      last = subst (λ k. get_or d k 0 < 128) (sym there) last;
      stands_for = ap (content after_backslash) (five_bytes d i room) ∙ ap (λ x. content after_backslash (x ∷ four)) lower_u ∙ at_digits _ _ _ _ rest
          ∙ ap (option_and_then (of_unit rest)) digits ∙ cond-false _ _ _ (no_high unit scalar) ∙ cond-false _ _ _ (no_low unit scalar);
    }

-- an escape stands for its character
pub escape_reported : (d reported : List ℕ) (i j character : ℕ) → IsUtf8 d → i < length d → get_or d i 0 ≡ 92 → EscapesAt d (i + 1) character j
    → ReportsTo d reported i (reported ++ encode_utf8 character) j
escape_reported d reported i j character utf8 within backslash escapes =
    let back : j - 1 + 1 ≡ j = omega (arith, escapes.bounds.0) in
    let here : drop i d ≡ 92 ∷ drop (i + 1) d = drop_more d i 0 within ∙ ap (λ x. x ∷ drop (i + 1) d) backslash in
    record {
      bounds = (omega (arith, escapes.bounds.0), escapes.bounds.1);
      boundary = subst (IsCharBoundary d) back (IsCharBoundary-after_ascii d (j - 1) utf8 (omega (arith, escapes.bounds.0, escapes.bounds.1)) escapes.last);
      same = ap (prepend reported) (ap (content plain) here ∙ at_backslash (drop (i + 1) d) ∙ escapes.stands_for)
          ∙ one_behind_other reported (encode_utf8 character) (content plain (drop j d));
    }

-- ---- what stands for itself

plain_byte : (x : ℕ) (xs : List ℕ) → is_plain x ≡ true → content plain (x ∷ xs) ≡ prepend (x ∷ []) (content plain xs)
plain_byte x xs is =
    let none = or_parts ((x == 34) || (x == 92)) _ (not-true _ is) in
    let tests = or_parts (x == 34) _ none.0 in
    at_plain x xs tests.0 tests.1 none.1

plain_run : (run rest : List ℕ) → PlainBetween run 0 (length run) → content plain (run ++ rest) ≡ prepend run (content plain rest)
plain_run [] rest all = sym (nothing_before (content plain rest))
plain_run (x ∷ run) rest all =
    plain_byte x (run ++ rest) (all 0 (omega arith) (omega arith))
    ∙ ap (prepend (x ∷ [])) (plain_run run rest (λ k low high. all (suc k) (omega arith) (omega arith)))
    ∙ one_behind_other (x ∷ []) run (content plain rest)

stop_within : (d : List ℕ) (j : ℕ) → (get_or d j 32 ≡ 34) ⊎ (get_or d j 32 ≡ 92) → j < length d
stop_within d j (inl e) = within_byte d j 34 e (λ no. omega arith)
stop_within d j (inr e) = within_byte d j 92 e (λ no. omega arith)

stop_is_ascii : (x : ℕ) → (x ≡ 34) ⊎ (x ≡ 92) → x < 128
stop_is_ascii x (inl e) = omega arith
stop_is_ascii x (inr e) = omega arith

-- bytes that are plain up to a quote or a backslash stand for themselves
pub plain_reported : (d reported : List ℕ) (i j : ℕ) → i < j → PlainBetween d i j → (get_or d j 32 ≡ 34) ⊎ (get_or d j 32 ≡ 92) → ReportsTo d reported i (reported ++ take (j - i) (drop i d)) j
plain_reported d reported i j further plain_there ended =
    let n = j - i in
    let run = take n (drop i d) in
    let there : i + n ≡ j = omega arith in
    let within : j < length d = stop_within d j ended in
    let all : PlainBetween run 0 (length run) = taken_plain d i n (omega arith) (subst (PlainBetween d i) (sym there) plain_there) in
    let parts : drop i d ≡ run ++ drop j d = sym (take-append-drop n (drop i d)) ∙ ap (λ l. run ++ l) (drop-drop n i d ∙ ap (λ k. drop k d) there) in
    record {
      bounds = (further, omega arith);
      boundary = IsCharBoundary-before_ascii d j within (omega (arith, stop_is_ascii (get_or d j 32) ended, get_or_default d j 0 32 within));
      same = ap (prepend reported) (ap (content plain) parts ∙ plain_run run (drop j d) all) ∙ one_behind_other reported run (content plain (drop j d));
    }

-- at the closing quote all is decoded
pub all_reported : (d reported : List ℕ) (i : ℕ) → i < length d → get_or d i 0 ≡ 34 → reported_and_rest reported d i ≡ Some reported
all_reported d reported i within closed =
    let here : drop i d ≡ 34 ∷ drop (i + 1) d = drop_more d i 0 within ∙ ap (λ x. x ∷ drop (i + 1) d) closed in
    ap (prepend reported) (ap (content plain) here ∙ at_quote (drop (i + 1) d)) ∙ ap Some (append-nil reported)
