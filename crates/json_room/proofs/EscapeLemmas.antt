-- Lemmas on texts with escapes: what is read of a quoted piece is read of all that begins with it.
use Rattle.std.proofs.Common.{◌≡◌, ℕ, zero, suc, ◌+◌, ◌-◌, ◌<◌, ◌≤◌, List, [], ◌∷◌, ◌++◌, length, take, drop, get_or, Bool, true, false, cond, ◌==◌, ◌&&◌, nat_lt, Option, None, Some, option_and_then, refl, sym, ap, ap₂, ◌∙◌, arith, length-drop}
use Rattle.std.proofs.lemmas.Bool.{eqb-true, ne_eqb, true≢false}
use Rattle.std.proofs.lemmas.List.{drop-drop, get_or-drop, get_or_default, take-append-drop}
use Rattle.std.proofs.lemmas.Option.{none-some}
use Rattle.std.specs.Char.{encode_utf8}
use Rattle.memchr.specs.Find.{Nowhere, Passes, is_byte}
use Rattle.json.specs.Token.{Token, string}
use Rattle.json.specs.Text.{Within, plain, after_backslash, after_u, after_high, content, prepend, short_escape, code_unit, is_high_surrogate, is_low_surrogate, surrogate_pair}
use Rattle.json.specs.Word.{is_operator, is_space}
use Rattle.json.specs.Lex.{Lexeme, Mode, in_escape, operator, other, space, token, string_token, fresh, between, in_string, lex, lex_byte, begins_colon, place_token, punctuate, tokens}
use Rattle.json_room.specs.private.Lexemes.{ClosesText, IsTextAt}
use Rattle.json_room.proofs.LexemeLemmas.{from_byte}

-- ---- contents

-- what one text has for its content, the other has too
abbrev Keeps : Within → List ℕ → List ℕ → Type 0
Keeps w xs ys = (t : List ℕ) → content w xs ≡ Some t → content w ys ≡ Some t

either : (b : Bool) (p q p' q' : Option (List ℕ)) (s : List ℕ) → (p ≡ Some s → p' ≡ Some s) → (q ≡ Some s → q' ≡ Some s) → cond b p q ≡ Some s → cond b p' q' ≡ Some s
either true p q p' q' s one two is = one is
either false p q p' q' s one two is = two is

chosen : (o : Option ℕ) (f g : ℕ → Option (List ℕ)) (s : List ℕ) → ((u : ℕ) → f u ≡ Some s → g u ≡ Some s) → option_and_then f o ≡ Some s → option_and_then g o ≡ Some s
chosen None f g s by is = is
chosen (Some u) f g s by is = by u is

prepended : (bytes : List ℕ) (o p : Option (List ℕ)) (s : List ℕ) → ((t : List ℕ) → o ≡ Some t → p ≡ Some t) → prepend bytes o ≡ Some s → prepend bytes p ≡ Some s
prepended bytes None p s by is = absurd (none-some s is)
prepended bytes (Some t) p s by is = ap (prepend bytes) (by t refl) ∙ is

plain_kept : (x : ℕ) (xs ys : List ℕ) → Keeps after_backslash xs ys → Keeps plain xs ys → Keeps plain (x ∷ xs) (x ∷ ys)
unfolding content
plain_kept x xs ys escaped more s is =
    either (x == 34) _ _ _ _ s (λ e. e)
    (λ e. either (x == 92) _ _ _ _ s (escaped s)
    (λ f. either (nat_lt x 32) _ _ _ _ s (λ g. g) (λ g. prepended (x ∷ []) _ _ s more g) f) e) is

backslash_kept : (x : ℕ) (xs ys : List ℕ) → Keeps after_u xs ys → Keeps plain xs ys → Keeps after_backslash (x ∷ xs) (x ∷ ys)
unfolding content
backslash_kept x xs ys unit more s is =
    either (x == 117) _ _ _ _ s (unit s) (λ e. chosen (short_escape x) _ _ s (λ u f. prepended (u ∷ []) _ _ s more f) e) is

unit_kept : (a b c d : ℕ) (xs ys : List ℕ) → ((h : ℕ) → Keeps (after_high h) xs ys) → Keeps plain xs ys → Keeps after_u (a ∷ b ∷ c ∷ d ∷ xs) (a ∷ b ∷ c ∷ d ∷ ys)
unfolding content
unit_kept a b c d xs ys high more s is =
    chosen (code_unit a b c d) _ _ s
    (λ u e. either (is_high_surrogate u) _ _ _ _ s (high u s) (λ f. either (is_low_surrogate u) _ _ _ _ s (λ g. g) (λ g. prepended (encode_utf8 u) _ _ s more g) f) e) is

high_kept : (h p u a b c d : ℕ) (xs ys : List ℕ) → Keeps plain xs ys → Keeps (after_high h) (p ∷ u ∷ a ∷ b ∷ c ∷ d ∷ xs) (p ∷ u ∷ a ∷ b ∷ c ∷ d ∷ ys)
unfolding content
high_kept h p u a b c d xs ys more s is =
    either ((p == 92) && (u == 117)) _ _ _ _ s
    (λ e. chosen (code_unit a b c d) _ _ s (λ l f. either (is_low_surrogate l) _ _ _ _ s (λ g. prepended (encode_utf8 (surrogate_pair h l)) _ _ s more g) (λ g. g) f) e) (λ e. e) is

pub content_longer : (w : Within) (xs r : List ℕ) → Keeps w xs (xs ++ r)
unfolding content
content_longer plain [] r s is = absurd (none-some s is)
content_longer plain (x ∷ xs) r s is = plain_kept x xs (xs ++ r) (content_longer after_backslash xs r) (content_longer plain xs r) s is
content_longer after_backslash [] r s is = absurd (none-some s is)
content_longer after_backslash (x ∷ xs) r s is = backslash_kept x xs (xs ++ r) (content_longer after_u xs r) (content_longer plain xs r) s is
content_longer after_u [] r s is = absurd (none-some s is)
content_longer after_u (a ∷ []) r s is = absurd (none-some s is)
content_longer after_u (a ∷ b ∷ []) r s is = absurd (none-some s is)
content_longer after_u (a ∷ b ∷ c ∷ []) r s is = absurd (none-some s is)
content_longer after_u (a ∷ b ∷ c ∷ d ∷ xs) r s is = unit_kept a b c d xs (xs ++ r) (λ h. content_longer (after_high h) xs r) (content_longer plain xs r) s is
content_longer (after_high h) [] r s is = absurd (none-some s is)
content_longer (after_high h) (p ∷ []) r s is = absurd (none-some s is)
content_longer (after_high h) (p ∷ u ∷ []) r s is = absurd (none-some s is)
content_longer (after_high h) (p ∷ u ∷ a ∷ []) r s is = absurd (none-some s is)
content_longer (after_high h) (p ∷ u ∷ a ∷ b ∷ []) r s is = absurd (none-some s is)
content_longer (after_high h) (p ∷ u ∷ a ∷ b ∷ c ∷ []) r s is = absurd (none-some s is)
content_longer (after_high h) (p ∷ u ∷ a ∷ b ∷ c ∷ d ∷ xs) r s is = high_kept h p u a b c d xs (xs ++ r) (content_longer plain xs r) s is

-- ---- what is passed within a text

pub quote_passed : (xs : List ℕ) → lex in_string (34 ∷ xs) ≡ lex between xs
unfolding lex
quote_passed xs = refl

pub pair_passed : (y : ℕ) (xs : List ℕ) → lex in_string (92 ∷ y ∷ xs) ≡ lex in_string xs
unfolding lex
pair_passed y xs = refl

pub last_passed : lex in_string (92 ∷ []) ≡ lex in_string []
unfolding lex
last_passed = refl

pub byte_passed : (x : ℕ) (xs : List ℕ) → (x == 34) ≡ false → (x == 92) ≡ false → lex in_string (x ∷ xs) ≡ lex in_string xs
unfolding lex
byte_passed x xs quote backslash = rw quote (rw backslash (go (is_operator x) (is_space x)))
  where
    go : (o s : Bool) → lex_byte in_string (cond o operator (cond s space other)) x xs (λ next. lex next xs) ≡ lex in_string xs
    go true s = refl
    go false true = refl
    go false false = refl

-- ---- a text in its quotes

-- the text that tokens begin with
abbrev first_text : List Token → Option (List ℕ)
first_text (string s ∷ ts) = Some s
first_text ts = None

first_reported : (o : Option (List ℕ)) (ls : List Lexeme) (reported : List ℕ) (rest : List Token) → punctuate fresh (token (string_token o) ∷ ls) ≡ string reported ∷ rest → o ≡ Some reported
unfolding punctuate
first_reported None ls reported rest is = ap first_text is
first_reported (Some s) ls reported rest is = go (begins_colon ls) (ap first_text is)
  where
    go : (b : Bool) → first_text (place_token fresh (string s) b (λ next. punctuate next ls)) ≡ Some reported → Some s ≡ Some reported
    go true e = absurd (none-some reported e)
    go false e = e

quoted_reported : (xs reported : List ℕ) (rest : List Token) → tokens (34 ∷ xs) ≡ string reported ∷ rest → content plain xs ≡ Some reported
unfolding lex
quoted_reported xs reported rest is = first_reported (content plain xs) (lex in_string xs) reported rest is

pub piece_reported : (q reported : List ℕ) (rest : List Token) → get_or q 0 32 ≡ 34 → tokens q ≡ string reported ∷ rest → content plain (drop 1 q) ≡ Some reported
piece_reported [] reported rest opened is = let no : ⊥ = omega (arith, opened) in absurd no
piece_reported (x ∷ xs) reported rest opened is = quoted_reported xs reported rest (ap (λ y. tokens (y ∷ xs)) (sym opened) ∙ is)

-- the content of what is quoted is the content there
content_there : (d : List ℕ) (i j : ℕ) (reported : List ℕ) → i < length d → i < j → get_or d i 32 ≡ 34 → content plain (drop 1 (take (j - i) (drop i d))) ≡ Some reported → content plain (drop (i + 1) d) ≡ Some reported
content_there d i j reported within order opened is =
    let m = j - (i + 1) in
    let xs = drop (i + 1) d in
    let long : j - i ≡ suc m = omega arith in
    let piece : drop 1 (take (j - i) (drop i d)) ≡ take m xs = ap₂ (λ n l. drop 1 (take n l)) long (from_byte d i 34 within opened) in
    ap (content plain) (sym (take-append-drop m xs)) ∙ content_longer plain (take m xs) (drop m xs) reported (ap (content plain) (sym piece) ∙ is)

text_there : (xs reported : List ℕ) (ls : List Lexeme) → content plain xs ≡ Some reported → lex in_string xs ≡ ls → lex between (34 ∷ xs) ≡ token (string reported) ∷ ls
unfolding lex
text_there xs reported ls is passed = ap₂ (λ o l. token (string_token o) ∷ l) is passed

pub escaped_text : (d : List ℕ) (i j : ℕ) (reported : List ℕ) → i < length d → get_or d i 32 ≡ 34 → ClosesText d (i + 1) j
    → content plain (drop 1 (take (j + 1 - i) (drop i d))) ≡ Some reported → IsTextAt d i reported (j + 1)
escaped_text d i j reported within opened closed is =
    let some = content_there d i (j + 1) reported within (omega (arith, closed.bounds.0)) opened is in
    record {
      within = omega (arith, closed.bounds.1);
      lexed = ap (lex between) (from_byte d i 34 within opened) ∙ text_there (drop (i + 1) d) reported (lex between (drop (j + 1) d)) some closed.passed;
    }

-- ---- offsets within a text

pub after_backslash_passed : (d : List ℕ) (i : ℕ) → i < length d → get_or d i 32 ≡ 92 → lex in_string (drop (i + 2) d) ≡ lex in_string (drop i d)
after_backslash_passed d i within is = go (drop (i + 1) d) (drop_more_two d i) (from_byte d i 92 within is)
  where
    go : (ys : List ℕ) → drop (i + 2) d ≡ drop 1 ys → drop i d ≡ 92 ∷ ys → lex in_string (drop (i + 2) d) ≡ lex in_string (drop i d)
    go [] rest here = ap (lex in_string) rest ∙ sym (ap (lex in_string) here ∙ last_passed)
    go (y ∷ ys) rest here = ap (lex in_string) rest ∙ sym (ap (lex in_string) here ∙ pair_passed y ys)

    drop_more_two : (d : List ℕ) (i : ℕ) → drop (i + 2) d ≡ drop 1 (drop (i + 1) d)
    drop_more_two d i = let same : i + 1 + 1 ≡ i + 2 = omega arith in sym (drop-drop 1 (i + 1) d ∙ ap (λ k. drop k d) same)

pub after_other_passed : (d : List ℕ) (i : ℕ) → i < length d → (get_or d i 32 ≡ 34 → ⊥) → (get_or d i 32 ≡ 92 → ⊥) → lex in_string (drop (i + 1) d) ≡ lex in_string (drop i d)
after_other_passed d i within quote backslash =
    sym (ap (lex in_string) (from_byte d i _ within refl) ∙ byte_passed (get_or d i 32) (drop (i + 1) d) (ne_eqb _ 34 quote) (ne_eqb _ 92 backslash))

-- ---- a quote with no backslash before it

-- within a text, or after a backslash in it
abbrev mode_in : Bool → Mode
mode_in true = in_escape
mode_in false = in_string

escape_passed : (x : ℕ) (xs : List ℕ) → lex in_escape (x ∷ xs) ≡ lex in_string xs
unfolding lex
escape_passed x xs = refl

backslash_passed : (xs : List ℕ) → lex in_string (92 ∷ xs) ≡ lex in_escape xs
unfolding lex
backslash_passed xs = refl

string_passed : (x : ℕ) (xs : List ℕ) (ls : List Lexeme) → (x ≡ 34 → ⊥) → (x ≡ 92 → lex in_escape xs ≡ ls) → lex in_string xs ≡ ls → lex in_string (x ∷ xs) ≡ ls
string_passed x xs ls quote escaped plain_there = by (x == 92) refl
  where
    by : (b : Bool) → b ≡ (x == 92) → lex in_string (x ∷ xs) ≡ ls
    by true e =
        let is : x ≡ 92 = eqb-true x 92 (sym e) in
        ap (λ y. lex in_string (y ∷ xs)) is ∙ backslash_passed xs ∙ escaped is
    by false e = byte_passed x xs (ne_eqb x 34 quote) (sym e) ∙ plain_there

not_first : (n : ℕ) → (n ≡ 0 → ⊥) → 0 < n
not_first zero further = absurd (further refl)
not_first (suc n) further = omega arith

closed_run : (escaped : Bool) (xs : List ℕ) (n : ℕ) → n < length xs → get_or xs n 0 ≡ 34 → ((k : ℕ) → k < n → get_or xs k 0 ≡ 34 → ⊥)
    → ((k : ℕ) → suc k ≡ n → get_or xs k 0 ≡ 92 → ⊥) → (escaped ≡ true → 0 < n) → lex (mode_in escaped) xs ≡ lex between (drop (suc n) xs)
closed_run escaped [] n within here none last some = let no : ⊥ = omega arith in absurd no
closed_run true (x ∷ xs) zero within here none last some = let no : ⊥ = omega (arith, some refl) in absurd no
closed_run false (x ∷ xs) zero within here none last some = ap (λ y. lex in_string (y ∷ xs)) here ∙ quote_passed xs
closed_run true (x ∷ xs) (suc n) within here none last some =
    escape_passed x xs
    ∙ closed_run false xs n (omega arith) here (λ k below is. none (suc k) (omega arith) is) (λ k e is. last (suc k) (ap suc e) is) (λ e. absurd (true≢false (sym e)))
closed_run false (x ∷ xs) (suc n) within here none last some =
    string_passed x xs (lex between (drop (suc n) xs)) (λ is. none 0 (omega arith) is)
    (λ is. closed_run true xs n (omega arith) here (λ k below e. none (suc k) (omega arith) e) (λ k e there. last (suc k) (ap suc e) there) (λ _. not_first n (λ e. last 0 (ap suc (sym e)) is)))
    (closed_run false xs n (omega arith) here (λ k below is. none (suc k) (omega arith) is) (λ k e is. last (suc k) (ap suc e) is) (λ e. absurd (true≢false (sym e))))

pub closed_at_once : (d xs : List ℕ) (i n : ℕ) → i ≤ length d → xs ≡ drop i d → n < length xs → Nowhere (Passes (is_byte 34) xs) 0 n → Passes (is_byte 34) xs n
    → ((k : ℕ) → suc k ≡ n → get_or xs k 0 ≡ 92 → ⊥) → ClosesText d i (i + n)
closed_at_once d xs i n room is within none found last =
    let long : length xs ≡ length d - i = ap length is ∙ length-drop i d in
    let there : i + n < length d = omega arith in
    let quote : get_or xs n 0 ≡ 34 = eqb-true _ 34 found in
    let same : i + suc n ≡ i + n + 1 = omega arith in
    record {
      bounds = (omega arith, there);
      is_quote = sym (get_or_default d (i + n) 0 32 there) ∙ sym (get_or-drop i d n 0) ∙ ap (λ t. get_or t n 0) (sym is) ∙ quote;
      passed = ap (lex in_string) (sym is) ∙ closed_run false xs n within quote (λ k below e. none k (omega arith) below (ap (λ y. y == 34) e)) last (λ e. absurd (true≢false (sym e)))
          ∙ ap (λ t. lex between (drop (suc n) t)) is ∙ ap (lex between) (drop-drop (suc n) i d ∙ ap (λ k. drop k d) same);
    }
