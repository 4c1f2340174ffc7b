-- Lemmas on lexemes of a text without escapes.
use Rattle.std.proofs.Common.{◌≡◌, ◌⊎◌, ℕ, ◌+◌, ◌-◌, ◌<◌, ◌≤◌, List, [], ◌∷◌, ◌++◌, length, take, drop, get_or, Bool, true, false, cond, ◌||◌, ◌==◌, None, Some, option_and_then, inl, inr, refl, sym, ap, ap₂, ◌∙◌, subst, arith, length-take-le, length-drop, lt_of_not-le}
use Rattle.std.proofs.lemmas.Bool.{true≢false, and_parts, cases_Bool, eqb-true, leb-true, ne_eqb}
use Rattle.std.proofs.lemmas.List.{drop_more, drop_all, take-append-drop, drop-drop, get_or-drop, get_or-take, get_or_past, get_or_default}
use Rattle.std.proofs.lemmas.List.Sums.{prefix_len_is}
use Rattle.std.specs.Char.{is_ascii_digit}
use Rattle.std.specs.List.{prefix_len}
use Rattle.json.specs.Token.{Token, begin_object, end_object, begin_array, end_array, key, string, number, boolean, null, bad}
use Rattle.json.specs.Text.{content, plain}
use Rattle.json.specs.Word.{is_operator, is_space, head, ends_word, word, after_digits, after_whole, after_fraction, after_exponent, after_number}
use Rattle.json.specs.Lex.{Lexeme, token, colon, string_token, Place, fresh, after_value, after_comma, after_key, may_begin, may_close, if_allowed, begins_colon, between, in_string, lex, punctuate}
use Rattle.json.specs.Print.{IsNumber, escape}
use Rattle.json.specs.Run.{is_plain}
use Rattle.json.specs.Written.{PlainBetween}
use Rattle.json.proofs.Printed.Numbers.{in_word-ended, lex-number}
use Rattle.json.proofs.Printed.Plain.{escape_on_plain}
use Rattle.json.proofs.Printed.Strings.{content-escape, lex-escape}
use Rattle.json_room.specs.private.Lexemes.{BeginsToken, DigitsBetween, EndsValue, PassesSpaces}
use Rattle.json_room.specs.TokenReading.{tokens_left}

-- ---- bytes at offsets

pub from_byte : (d : List ℕ) (i x : ℕ) → i < length d → get_or d i 32 ≡ x → drop i d ≡ x ∷ drop (i + 1) d
from_byte d i x within is = drop_more d i 32 within ∙ ap (λ y. y ∷ drop (i + 1) d) is

pub first_byte : (d : List ℕ) (i : ℕ) → head (drop i d) ≡ get_or d i 32
first_byte d i = let same : i + 0 ≡ i = omega arith in get_or-drop i d 0 32 ∙ ap (λ k. get_or d k 32) same

pub within_byte : (d : List ℕ) (i x : ℕ) → get_or d i 32 ≡ x → (x ≡ 32 → ⊥) → i < length d
within_byte d i x is other = lt_of_not-le (λ past. other (sym is ∙ get_or_past d i 32 past))

-- ---- white space

space_skipped : (x : ℕ) (xs : List ℕ) → (x ≡ 32) ⊎ ((x ≡ 9) ⊎ ((x ≡ 10) ⊎ (x ≡ 13))) → lex between (x ∷ xs) ≡ lex between xs
unfolding lex
space_skipped x xs (inl e) = ap (λ y. lex between (y ∷ xs)) e
space_skipped x xs (inr (inl e)) = ap (λ y. lex between (y ∷ xs)) e
space_skipped x xs (inr (inr (inl e))) = ap (λ y. lex between (y ∷ xs)) e
space_skipped x xs (inr (inr (inr e))) = ap (λ y. lex between (y ∷ xs)) e

which_space : (x : ℕ) → is_space x ≡ true → (x ≡ 32) ⊎ ((x ≡ 9) ⊎ ((x ≡ 10) ⊎ (x ≡ 13)))
which_space x h = grind arith

pub space_passed : (d : List ℕ) (i : ℕ) → i < length d → is_space (get_or d i 32) ≡ true → lex between (drop (i + 1) d) ≡ lex between (drop i d)
space_passed d i within h =
    sym (ap (lex between) (from_byte d i _ within refl) ∙ space_skipped (get_or d i 32) (drop (i + 1) d) (which_space _ h))

-- ---- texts

pub taken_plain : (d : List ℕ) (i n : ℕ) → i + n ≤ length d → PlainBetween d i (i + n) → PlainBetween (take n (drop i d)) 0 (length (take n (drop i d)))
taken_plain d i n room h k low high =
    let short : length (take n (drop i d)) ≡ n = length-take-le n (drop i d) (omega (arith, length-drop i d)) in
    let there : get_or (take n (drop i d)) k 0 ≡ get_or d (i + k) 0 = get_or-take n (drop i d) k 0 (omega arith) ∙ get_or-drop i d k 0 in
    ap is_plain there ∙ h (i + k) (omega arith) (omega arith)

pub quoted_lexed : (s r : List ℕ) → escape s ≡ s → lex between (34 ∷ (s ++ 34 ∷ r)) ≡ token (string s) ∷ lex between r
unfolding lex
quoted_lexed s r same =
    ap₂ (λ o l. token (string_token o) ∷ l) (ap (λ e. content plain (e ++ 34 ∷ r)) (sym same) ∙ content-escape s r)
    (ap (λ e. lex in_string (e ++ 34 ∷ r)) (sym same) ∙ lex-escape s r)

pub text_lexed : (d : List ℕ) (i j : ℕ) → i < length d → get_or d i 32 ≡ 34 → i + 1 ≤ j → j < length d → get_or d j 32 ≡ 34 → PlainBetween d (i + 1) j
    → lex between (drop i d) ≡ token (string (take (j - (i + 1)) (drop (i + 1) d))) ∷ lex between (drop (j + 1) d)
text_lexed d i j within opened order last closed between_them =
    let n = j - (i + 1) in
    let s = take n (drop (i + 1) d) in
    let there : i + 1 + n ≡ j = omega arith in
    let same : escape s ≡ s = escape_on_plain true s (taken_plain d (i + 1) n (omega arith) (subst (PlainBetween d (i + 1)) (sym there) between_them)) in
    let tail : drop (i + 1) d ≡ s ++ 34 ∷ drop (j + 1) d =
    sym (take-append-drop n (drop (i + 1) d)) ∙ ap (λ l. s ++ l) (drop-drop n (i + 1) d ∙ ap (λ k. drop k d) there ∙ from_byte d j 34 last closed) in
    ap (lex between) (from_byte d i 34 within opened ∙ ap (λ l. 34 ∷ l) tail) ∙ quoted_lexed s (drop (j + 1) d) same

-- ---- what ends a value

pub comma_passed : (xs : List ℕ) → punctuate after_comma (lex between xs) ≡ punctuate after_value (lex between (44 ∷ xs))
unfolding lex punctuate
comma_passed xs = refl

pub comma_no_colon : (xs : List ℕ) → begins_colon (lex between (44 ∷ xs)) ≡ false
unfolding lex
comma_no_colon xs = refl

pub brace_no_colon : (xs : List ℕ) → begins_colon (lex between (125 ∷ xs)) ≡ false
unfolding lex
brace_no_colon xs = refl

pub bracket_no_colon : (xs : List ℕ) → begins_colon (lex between (93 ∷ xs)) ≡ false
unfolding lex
bracket_no_colon xs = refl

either_ends : (x : ℕ) → (is_operator x || is_space x) ≡ true → (d : List ℕ) (i : ℕ) → get_or d i 32 ≡ x → ends_word (drop i d) ≡ true
either_ends x h d i is = ap (λ y. is_operator y || is_space y) (first_byte d i ∙ is) ∙ h

space_ends : (x : ℕ) → is_space x ≡ true → (is_operator x || is_space x) ≡ true
space_ends x h = grind arith

pub word_ends : (d : List ℕ) (i j x : ℕ) → PassesSpaces d i j → get_or d j 32 ≡ x → (is_operator x || is_space x) ≡ true → ends_word (drop i d) ≡ true
word_ends d i j x passed is h = go passed.some
  where
    go : (j ≡ i) ⊎ (is_space (get_or d i 32) ≡ true) → ends_word (drop i d) ≡ true
    go (inl e) = either_ends x h d i (ap (λ k. get_or d k 32) (sym e) ∙ is)
    go (inr s) = either_ends (get_or d i 32) (space_ends (get_or d i 32) s) d i refl

-- ---- tokens where a value may begin, and where an object or an array may close

allowed : (b : Bool) (t : Token) (k : Place → List Token) (next : Place) → b ≡ true → if_allowed b t k next ≡ t ∷ k next
allowed b t k next e = ap (λ x. if_allowed x t k next) e

pub begins_text : (p : Place) (s : List ℕ) (ls : List Lexeme) → may_begin p ≡ true → begins_colon ls ≡ false → punctuate p (token (string s) ∷ ls) ≡ string s ∷ punctuate after_value ls
unfolding punctuate
begins_text p s ls may none = rw none (allowed (may_begin p) (string s) (λ next. punctuate next ls) after_value may)

pub begins_key : (p : Place) (s : List ℕ) (xs : List ℕ) → may_begin p ≡ true → punctuate p (token (string s) ∷ lex between (58 ∷ xs)) ≡ key s ∷ punctuate fresh (lex between xs)
unfolding lex punctuate
begins_key p s xs may = allowed (may_begin p) (key s) (λ next. punctuate next (colon ∷ lex between xs)) after_key may

pub begins_number : (p : Place) (s : List ℕ) (ls : List Lexeme) → may_begin p ≡ true → punctuate p (token (number s) ∷ ls) ≡ number s ∷ punctuate after_value ls
unfolding punctuate
begins_number p s ls may = allowed (may_begin p) (number s) (λ next. punctuate next ls) after_value may

pub begins_true : (p : Place) (r : List ℕ) → may_begin p ≡ true → ends_word r ≡ true → punctuate p (lex between (116 ∷ 114 ∷ 117 ∷ 101 ∷ r)) ≡ boolean true ∷ punctuate after_value (lex between r)
unfolding lex word punctuate
begins_true p r may ends =
    ap₂ (λ b l. punctuate p (token (cond b (boolean true) bad) ∷ l)) ends (in_word-ended r ends)
    ∙ allowed (may_begin p) (boolean true) (λ next. punctuate next (lex between r)) after_value may

pub begins_false : (p : Place) (r : List ℕ) → may_begin p ≡ true → ends_word r ≡ true → punctuate p (lex between (102 ∷ 97 ∷ 108 ∷ 115 ∷ 101 ∷ r)) ≡ boolean false ∷ punctuate after_value (lex between r)
unfolding lex word punctuate
begins_false p r may ends =
    ap₂ (λ b l. punctuate p (token (cond b (boolean false) bad) ∷ l)) ends (in_word-ended r ends)
    ∙ allowed (may_begin p) (boolean false) (λ next. punctuate next (lex between r)) after_value may

pub begins_null : (p : Place) (r : List ℕ) → may_begin p ≡ true → ends_word r ≡ true → punctuate p (lex between (110 ∷ 117 ∷ 108 ∷ 108 ∷ r)) ≡ null ∷ punctuate after_value (lex between r)
unfolding lex word punctuate
begins_null p r may ends =
    ap₂ (λ b l. punctuate p (token (cond b null bad) ∷ l)) ends (in_word-ended r ends)
    ∙ allowed (may_begin p) null (λ next. punctuate next (lex between r)) after_value may

pub opens_object : (p : Place) (xs : List ℕ) → may_begin p ≡ true → punctuate p (lex between (123 ∷ xs)) ≡ begin_object ∷ punctuate fresh (lex between xs)
unfolding lex punctuate
opens_object p xs may = allowed (may_begin p) begin_object (λ next. punctuate next (lex between xs)) fresh may

pub opens_array : (p : Place) (xs : List ℕ) → may_begin p ≡ true → punctuate p (lex between (91 ∷ xs)) ≡ begin_array ∷ punctuate fresh (lex between xs)
unfolding lex punctuate
opens_array p xs may = allowed (may_begin p) begin_array (λ next. punctuate next (lex between xs)) fresh may

pub closes_object : (p : Place) (xs : List ℕ) → may_close p ≡ true → punctuate p (lex between (125 ∷ xs)) ≡ end_object ∷ punctuate after_value (lex between xs)
unfolding lex punctuate
closes_object p xs may = allowed (may_close p) end_object (λ next. punctuate next (lex between xs)) after_value may

pub closes_array : (p : Place) (xs : List ℕ) → may_close p ≡ true → punctuate p (lex between (93 ∷ xs)) ≡ end_array ∷ punctuate after_value (lex between xs)
unfolding lex punctuate
closes_array p xs may = allowed (may_close p) end_array (λ next. punctuate next (lex between xs)) after_value may

-- ---- numbers

-- digits, of which the first is not 0, are a number
digits_are_number : (s : List ℕ) → 0 < length s → ((k : ℕ) → k < length s → is_ascii_digit (get_or s k 0) ≡ true) → (head s == 48) ≡ false → IsNumber s
unfolding after_number
digits_are_number [] some digits first = absurd (omega arith)
digits_are_number (x ∷ xs) some digits first =
    let low : 48 ≤ x = leb-true 48 x (and_parts _ _ (digits 0 (omega arith))).0 in
    let unsigned : (x == 45) ≡ false = ne_eqb x 45 (λ e. omega arith) in
    let all : prefix_len is_ascii_digit (x ∷ xs) ≡ length (x ∷ xs) = prefix_len_is is_ascii_digit (x ∷ xs) (length (x ∷ xs)) 0 (omega arith) digits (λ l. absurd (omega arith)) in
    ap (λ b. option_and_then after_exponent (option_and_then after_fraction (after_whole (cond b xs (x ∷ xs))))) unsigned
    ∙ ap (λ b. option_and_then after_exponent (option_and_then after_fraction (cond b (Some xs) (after_digits (x ∷ xs))))) first
    ∙ ap (λ n. option_and_then after_exponent (option_and_then after_fraction (cond (n == 0) None (Some (drop n (x ∷ xs)))))) all
    ∙ ap (λ b. option_and_then after_exponent (option_and_then after_fraction (cond b None (Some (drop (length (x ∷ xs)) (x ∷ xs)))))) (ne_eqb (length (x ∷ xs)) 0 (λ e. omega arith))
    ∙ ap (λ r. option_and_then after_exponent (after_fraction r)) (drop_all (length (x ∷ xs)) (x ∷ xs) (omega arith))

abbrev pub EachDigit : List ℕ → Type 0
EachDigit s = (k : ℕ) → k < length s → is_ascii_digit (get_or s k 0) ≡ true

one_zero : (s : List ℕ) → get_or s 0 0 ≡ 48 → length s ≡ 1 → IsNumber s
unfolding after_number
one_zero [] starts one = absurd (omega (arith, one))
one_zero (x ∷ []) starts one = ap (λ y. after_number (y ∷ [])) starts
one_zero (x ∷ y ∷ ys) starts one = absurd (omega (arith, one))

-- digits alone
whole_number : (s : List ℕ) → EachDigit s → 0 < length s → (get_or s 0 0 ≡ 48 → length s ≡ 1) → IsNumber s
whole_number s each some starts =
    let lead : head s ≡ get_or s 0 0 = sym (get_or_default s 0 0 32 some) in
    elim (cases_Bool (head s == 48)) [
      | inl is ↦ let first = sym lead ∙ eqb-true (head s) 48 is in one_zero s first (starts first)
      | inr none ↦ digits_are_number s some each none
    ]

-- the bytes from one offset to the other
abbrev pub cut : List ℕ → ℕ → ℕ → List ℕ
cut d i j = take (j - i) (drop i d)

pub cut_long : (d : List ℕ) (i j : ℕ) → i ≤ j → j ≤ length d → length (cut d i j) ≡ j - i
cut_long d i j order room = length-take-le (j - i) (drop i d) (omega (arith, room, order, length-drop i d))

pub cut_digits : (d : List ℕ) (i j : ℕ) → i ≤ j → j ≤ length d → DigitsBetween d i j → EachDigit (cut d i j)
cut_digits d i j order room digits k l =
    let few : k < j - i = omega (arith, l, cut_long d i j order room) in
    ap is_ascii_digit (get_or-take (j - i) (drop i d) k 0 few ∙ get_or-drop i d k 0) ∙ digits (i + k) (omega arith) (omega (arith, few))

pub first_cut : (d : List ℕ) (i p : ℕ) → i < p → p ≤ length d → get_or (cut d i p) 0 0 ≡ get_or d i 0
first_cut d i p order room =
    let same : i + 0 ≡ i = omega arith in
    get_or-take (p - i) (drop i d) 0 0 (omega arith) ∙ get_or-drop i d 0 0 ∙ ap (λ k. get_or d k 0) same

-- digits from one offset to the other, of which the first is 0 only where it is the only one, are a number
pub cut_number : (d : List ℕ) (i j : ℕ) → i < j → j ≤ length d → DigitsBetween d i j → (get_or d i 0 ≡ 48 → j ≡ i + 1) → IsNumber (cut d i j)
cut_number d i j order room digits starts =
    let long = cut_long d i j (omega arith) room in
    whole_number (cut d i j) (cut_digits d i j (omega arith) room digits) (omega (arith, long)) (λ is. omega (arith, long, starts (sym (first_cut d i j order room) ∙ is)))

pub number_begins : (d : List ℕ) (i j : ℕ) (s : List ℕ) (next : ℕ) (turn : Place) → i ≤ j → s ≡ take (j - i) (drop i d) → IsNumber s → EndsValue d j next turn
    → BeginsToken d i (number s) next turn
number_begins d i j s next turn order is counts ended =
    let there : i + (j - i) ≡ j = omega arith in
    let parts : drop i d ≡ s ++ drop j d =
    sym (take-append-drop (j - i) (drop i d)) ∙ ap (λ r. take (j - i) (drop i d) ++ r) (drop-drop (j - i) i d ∙ ap (λ k. drop k d) there) ∙ ap (λ n. n ++ drop j d) (sym is) in
    let read : lex between (drop i d) ≡ token (number s) ∷ lex between (drop j d) = ap (lex between) parts ∙ lex-number s (drop j d) counts ended.ends in
    record {
      within = ended.within;
      begins = λ p may. ap (punctuate p) read ∙ begins_number p s (lex between (drop j d)) may ∙ ap (λ ts. number s ∷ ts) (sym ended.left);
    }

-- ---- closing braces and brackets, which differ by one bit

-- ---- offsets

pub one_more_space : (d : List ℕ) (i j : ℕ) → j < length d → is_space (get_or d j 32) ≡ true → PassesSpaces d i j → PassesSpaces d i (j + 1)
one_more_space d i j within white passed =
    record { bounds = (omega (arith, passed.bounds.0), omega arith); same = space_passed d j within white ∙ passed.same; some = inr (go passed.some) }
  where
    go : (j ≡ i) ⊎ (is_space (get_or d i 32) ≡ true) → is_space (get_or d i 32) ≡ true
    go (inl e) = ap (λ k. is_space (get_or d k 32)) (sym e) ∙ white
    go (inr s) = s

pub ends_at_end : (d : List ℕ) (i j : ℕ) → PassesSpaces d i j → j ≡ length d → EndsValue d i j after_value
unfolding lex
ends_at_end d i j passed over =
    let none : drop j d ≡ [] = drop_all j d (omega arith) in
    let same : lex between (drop i d) ≡ lex between [] = sym passed.same ∙ ap (lex between) none in
    record {
      within = passed.bounds.1;
      left = ap (punctuate after_value) passed.same;
      no_colon = ap begins_colon same;
      ends = word_ends d i j 32 passed (get_or_past d j 32 (omega arith)) refl;
    }

pub ends_at_comma : (d : List ℕ) (i j : ℕ) → PassesSpaces d i j → j < length d → get_or d j 32 ≡ 44 → EndsValue d i (j + 1) after_comma
ends_at_comma d i j passed within is =
    let there : lex between (44 ∷ drop (j + 1) d) ≡ lex between (drop i d) = sym (ap (lex between) (from_byte d j 44 within is)) ∙ passed.same in
    record {
      within = omega arith;
      left = comma_passed (drop (j + 1) d) ∙ ap (punctuate after_value) there;
      no_colon = sym (ap begins_colon there) ∙ comma_no_colon (drop (j + 1) d);
      ends = word_ends d i j 44 passed is refl;
    }

pub ends_at_close : (d : List ℕ) (i j x : ℕ) → PassesSpaces d i j → j < length d → get_or d j 32 ≡ x → (x ≡ 125) ⊎ (x ≡ 93) → EndsValue d i j after_value
ends_at_close d i j x passed within is which = go which
  where
    by : (y : ℕ) → x ≡ y → ((xs : List ℕ) → begins_colon (lex between (y ∷ xs)) ≡ false) → (is_operator y || is_space y) ≡ true → EndsValue d i j after_value
    by y e none ends =
        let there : lex between (y ∷ drop (j + 1) d) ≡ lex between (drop i d) = sym (ap (lex between) (from_byte d j y within (is ∙ e))) ∙ passed.same in
        record {
          within = passed.bounds.1;
          left = ap (punctuate after_value) passed.same;
          no_colon = sym (ap begins_colon there) ∙ none (drop (j + 1) d);
          ends = word_ends d i j y passed (is ∙ e) ends;
        }

    go : (x ≡ 125) ⊎ (x ≡ 93) → EndsValue d i j after_value
    go (inl e) = by 125 e brace_no_colon refl
    go (inr e) = by 93 e bracket_no_colon refl

-- ---- where a text is read on

lex_none : lex between [] ≡ []
unfolding lex
lex_none = refl

none_after : (turn : Place) → may_close turn ≡ true → punctuate turn [] ≡ []
unfolding punctuate
none_after fresh may = refl
none_after after_value may = refl
none_after after_comma may = absurd (true≢false (sym may))
none_after after_key may = absurd (true≢false (sym may))

pub none_left : (turn : Place) (d : List ℕ) (i j : ℕ) → may_close turn ≡ true → PassesSpaces d i j → j ≡ length d → tokens_left turn (drop i d) ≡ []
none_left turn d i j may passed over =
    ap (punctuate turn) (sym passed.same ∙ ap (lex between) (drop_all j d (omega arith)) ∙ lex_none) ∙ none_after turn may

-- where no white space is passed
pub stay : (d : List ℕ) (i : ℕ) → i ≤ length d → PassesSpaces d i i
stay d i within = record { bounds = (omega arith, within); same = refl; some = inl refl }

pub opened_there : (turn : Place) (d : List ℕ) (i j x : ℕ) (t : Token) → may_begin turn ≡ true → PassesSpaces d i j → j < length d → get_or d j 32 ≡ x
    → ((p : Place) (xs : List ℕ) → may_begin p ≡ true → punctuate p (lex between (x ∷ xs)) ≡ t ∷ punctuate fresh (lex between xs))
    → tokens_left turn (drop i d) ≡ t ∷ tokens_left fresh (drop (j + 1) d)
opened_there turn d i j x t may passed within is opens =
    ap (punctuate turn) (sym passed.same ∙ ap (lex between) (from_byte d j x within is)) ∙ opens turn (drop (j + 1) d) may
