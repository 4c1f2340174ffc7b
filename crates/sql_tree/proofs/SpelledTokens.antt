-- The strings among the tokens of a text are bytes of characters where the text is.
use Rattle.std.proofs.Common.{◌≡◌, ℕ, zero, suc, List, [], ◌∷◌, Bool, true, false, cond, ◌==◌, Option, Some, None, refl, subst, arith}
use Rattle.std.specs.List.{AllByRecursion}
use Rattle.std.specs.Str.{continuation_len}
use Rattle.std.proofs.lemmas.Bool.{eqb-true}
use Rattle.json.specs.Text.{content, plain}
use Rattle.json.specs.Token.{Token}
use Rattle.json.specs.Word.{after_number, head, ends_word, is_operator, is_space, number_before, word}
use Rattle.json.specs.Lex.{Class, Lexeme, Mode, Place, token, comma, colon, quote, backslash, operator, space, other, class, operator_lexeme, string_token, between, in_word, in_string, in_escape, lex_byte, lex, fresh, after_value, after_comma, after_key, begins_colon, if_allowed, may_begin, may_close, place_token, punctuate, tokens}
use Rattle.sql_tree.proofs.Spelled.{IsSpelled}
use Rattle.sql_tree.proofs.SpelledContent.{SpelledIf, string_spelled}

abbrev pub IsTokenSpelled : Token → Type 0
IsTokenSpelled Token.begin_object = Unit {0}
IsTokenSpelled Token.end_object = Unit {0}
IsTokenSpelled Token.begin_array = Unit {0}
IsTokenSpelled Token.end_array = Unit {0}
IsTokenSpelled (Token.key s) = IsSpelled 0 s
IsTokenSpelled (Token.string s) = IsSpelled 0 s
IsTokenSpelled (Token.number s) = Unit {0}
IsTokenSpelled (Token.boolean b) = Unit {0}
IsTokenSpelled Token.null = Unit {0}
IsTokenSpelled Token.bad = Unit {0}

abbrev pub AreTokensSpelled : List Token → Type 0
AreTokensSpelled = AllByRecursion IsTokenSpelled

abbrev IsLexemeSpelled : Lexeme → Type 0
IsLexemeSpelled (token t) = IsTokenSpelled t
IsLexemeSpelled comma = Unit {0}
IsLexemeSpelled colon = Unit {0}

abbrev AreLexemesSpelled : List Lexeme → Type 0
AreLexemesSpelled = AllByRecursion IsLexemeSpelled

-- ---- one lexeme

either : (test : Bool) (x y : Token) → IsTokenSpelled x → IsTokenSpelled y → IsTokenSpelled (cond test x y)
either true x y one two = one
either false x y one two = two

number_spelled : (text : List ℕ) (after : Option (List ℕ)) → IsTokenSpelled (number_before text after)
number_spelled text None = tt
number_spelled text (Some rest) = either (ends_word rest) _ Token.bad tt tt

word_spelled : (text : List ℕ) → IsTokenSpelled (word text)
unfolding word
word_spelled text =
    either (head text == 116) _ _ (either _ (Token.boolean true) Token.bad tt tt)
    (either (head text == 102) _ _ (either _ (Token.boolean false) Token.bad tt tt)
    (either (head text == 110) _ _ (either _ Token.null Token.bad tt tt) (number_spelled text (after_number text))))

string_token_spelled : (found : Option (List ℕ)) → SpelledIf 0 found → IsTokenSpelled (string_token found)
string_token_spelled None spelled = tt
string_token_spelled (Some s) spelled = spelled

either_lexeme : (test : Bool) (x y : Lexeme) → IsLexemeSpelled x → IsLexemeSpelled y → IsLexemeSpelled (cond test x y)
either_lexeme true x y one two = one
either_lexeme false x y one two = two

operator_spelled : (b : ℕ) → IsLexemeSpelled (operator_lexeme b)
operator_spelled b =
    either_lexeme (b == 123) (token Token.begin_object) _ tt (either_lexeme (b == 125) (token Token.end_object) _ tt (either_lexeme (b == 91) (token Token.begin_array) _ tt
    (either_lexeme (b == 93) (token Token.end_array) _ tt (either_lexeme (b == 44) comma colon tt tt))))

-- ---- lexemes

byte_spelled : (mode : Mode) (c : Class) (b : ℕ) (bs : List ℕ) (more : Mode → List Lexeme) → (c ≡ quote → SpelledIf 0 (content plain bs)) → ((next : Mode) → AreLexemesSpelled (more next))
    → AreLexemesSpelled (lex_byte mode c b bs more)
byte_spelled between quote b bs more found later = (string_token_spelled (content plain bs) (found refl), later in_string)
byte_spelled between backslash b bs more found later = (tt, later in_word)
byte_spelled between operator b bs more found later = (operator_spelled b, later between)
byte_spelled between space b bs more found later = later between
byte_spelled between other b bs more found later = (word_spelled (b ∷ bs), later in_word)
byte_spelled in_word quote b bs more found later = later in_word
byte_spelled in_word backslash b bs more found later = later in_word
byte_spelled in_word operator b bs more found later = (operator_spelled b, later between)
byte_spelled in_word space b bs more found later = later between
byte_spelled in_word other b bs more found later = later in_word
byte_spelled in_string quote b bs more found later = later between
byte_spelled in_string backslash b bs more found later = later in_escape
byte_spelled in_string operator b bs more found later = later in_string
byte_spelled in_string space b bs more found later = later in_string
byte_spelled in_string other b bs more found later = later in_string
byte_spelled in_escape c b bs more found later = later in_string

no_quote : (slash operates spaces : Bool) → cond slash backslash (cond operates operator (cond spaces space other)) ≡ quote → ⊥
no_quote true operates spaces same = cc
no_quote false true spaces same = cc
no_quote false false true same = cc
no_quote false false false same = cc

is_quote : (b : ℕ) → class b ≡ quote → b ≡ 34
is_quote b same = by (b == 34) refl same
  where
    by : (test : Bool) → (b == 34) ≡ test → cond test quote (cond (b == 92) backslash (cond (is_operator b) operator (cond (is_space b) space other))) ≡ quote → b ≡ 34
    by true test same = eqb-true b 34 test
    by false test same = absurd (no_quote (b == 92) (is_operator b) (is_space b) same)

-- how many bytes that end a character come after a byte
abbrev after_byte : ℕ → ℕ → ℕ
after_byte zero b = continuation_len b
after_byte (suc n) b = n

goes_on : (n b : ℕ) (bs : List ℕ) → IsSpelled n (b ∷ bs) → IsSpelled (after_byte n b) bs
goes_on zero b bs spelled = spelled
goes_on (suc n) b bs spelled = spelled.1

after_quote : (n b : ℕ) (bs : List ℕ) → IsSpelled n (b ∷ bs) → b ≡ 34 → IsSpelled 0 bs
after_quote zero b bs spelled same = subst (λ c. IsSpelled (continuation_len c) bs) same spelled
after_quote (suc n) b bs spelled same = absurd (omega (arith, spelled.0, same))

lex_spelled : (mode : Mode) (n : ℕ) (text : List ℕ) → IsSpelled n text → AreLexemesSpelled (lex mode text)
unfolding lex
lex_spelled mode n [] spelled = tt
lex_spelled mode n (b ∷ bs) spelled =
    byte_spelled mode (class b) b bs (λ next. lex next bs) (λ same. string_spelled bs (after_quote n b bs spelled (is_quote b same))) (λ next. lex_spelled next (after_byte n b) bs (goes_on n b bs spelled))

-- ---- tokens

allowed_spelled : (test : Bool) (t : Token) (more : Place → List Token) (next : Place) → IsTokenSpelled t → ((p : Place) → AreTokensSpelled (more p)) → AreTokensSpelled (if_allowed test t more next)
allowed_spelled true t more next spelled later = (spelled, later next)
allowed_spelled false t more next spelled later = (tt, tt)

placed_spelled : (p : Place) (t : Token) (before_colon : Bool) (more : Place → List Token) → IsTokenSpelled t → ((next : Place) → AreTokensSpelled (more next)) → AreTokensSpelled (place_token p t before_colon more)
placed_spelled p Token.begin_object before_colon more spelled later = allowed_spelled (may_begin p) Token.begin_object more fresh tt later
placed_spelled p Token.end_object before_colon more spelled later = allowed_spelled (may_close p) Token.end_object more after_value tt later
placed_spelled p Token.begin_array before_colon more spelled later = allowed_spelled (may_begin p) Token.begin_array more fresh tt later
placed_spelled p Token.end_array before_colon more spelled later = allowed_spelled (may_close p) Token.end_array more after_value tt later
placed_spelled p (Token.key s) before_colon more spelled later = (tt, tt)
placed_spelled p (Token.string s) true more spelled later = allowed_spelled (may_begin p) (Token.key s) more after_key spelled later
placed_spelled p (Token.string s) false more spelled later = allowed_spelled (may_begin p) (Token.string s) more after_value spelled later
placed_spelled p (Token.number s) before_colon more spelled later = allowed_spelled (may_begin p) (Token.number s) more after_value tt later
placed_spelled p (Token.boolean b) before_colon more spelled later = allowed_spelled (may_begin p) (Token.boolean b) more after_value tt later
placed_spelled p Token.null before_colon more spelled later = allowed_spelled (may_begin p) Token.null more after_value tt later
placed_spelled p Token.bad before_colon more spelled later = (tt, tt)

punctuated_spelled : (p : Place) (ls : List Lexeme) → AreLexemesSpelled ls → AreTokensSpelled (punctuate p ls)
unfolding punctuate
punctuated_spelled fresh [] spelled = tt
punctuated_spelled after_value [] spelled = tt
punctuated_spelled after_comma [] spelled = (tt, tt)
punctuated_spelled after_key [] spelled = (tt, tt)
punctuated_spelled fresh (token t ∷ ls) spelled = placed_spelled fresh t (begins_colon ls) (λ next. punctuate next ls) spelled.0 (λ next. punctuated_spelled next ls spelled.1)
punctuated_spelled after_value (token t ∷ ls) spelled = placed_spelled after_value t (begins_colon ls) (λ next. punctuate next ls) spelled.0 (λ next. punctuated_spelled next ls spelled.1)
punctuated_spelled after_comma (token t ∷ ls) spelled = placed_spelled after_comma t (begins_colon ls) (λ next. punctuate next ls) spelled.0 (λ next. punctuated_spelled next ls spelled.1)
punctuated_spelled after_key (token t ∷ ls) spelled = placed_spelled after_key t (begins_colon ls) (λ next. punctuate next ls) spelled.0 (λ next. punctuated_spelled next ls spelled.1)
punctuated_spelled fresh (comma ∷ ls) spelled = (tt, tt)
punctuated_spelled after_value (comma ∷ ls) spelled = punctuated_spelled after_comma ls spelled.1
punctuated_spelled after_comma (comma ∷ ls) spelled = (tt, tt)
punctuated_spelled after_key (comma ∷ ls) spelled = (tt, tt)
punctuated_spelled fresh (colon ∷ ls) spelled = (tt, tt)
punctuated_spelled after_value (colon ∷ ls) spelled = (tt, tt)
punctuated_spelled after_comma (colon ∷ ls) spelled = (tt, tt)
punctuated_spelled after_key (colon ∷ ls) spelled = punctuated_spelled fresh ls spelled.1

pub tokens_spelled : (text : List ℕ) → IsSpelled 0 text → AreTokensSpelled (tokens text)
tokens_spelled text spelled = punctuated_spelled fresh (lex between text) (lex_spelled between 0 text spelled)
