-- Texts whose tokens or first fault are known.
use Rattle.odata_text.proofs.Common.{map, ◌++◌, TextFault, IsFaultAt, text_limit, length, ◌≤◌, ◌≡◌, ℕ, nat_lt, Bool, true, List, [], ◌∷◌, codes, pos, inl, inr, arith, refl, sym, All, digit_value, list_all, AllDigits, and_parts, ltb-true, All-cons, All-nil, hex_bytes, IsIntSpelling, class_of, ArePrintable, Print, IsFormed, Spells, fraction_filter, run_on_filter, IsFaultBehind, IsTokenList, Space, LeftOutLiteral, RunOn, Token, LeftOut, Number, TokenKind, Word, Int, Moment, Guid, Str, EnumLit}
use Rattle.odata_text.specs.TokenExamples.{enumeration_filter, enumeration_tokens, guid_filter, guid_tokens, moment_filter, moment_tokens, plain_filter, plain_tokens}
use Rattle.odata_text.proofs.characters.IdentifierBytes.{ascii-identifier, is_ascii_name, run-names}
use Rattle.odata_text.proofs.readings.Places.{run_on}
use Rattle.odata_text.proofs.readings.Prints.{prints-list}
use Rattle.odata_text.proofs.spellings.Words.{word-one}
use Rattle.odata_text.proofs.machine.Longest.{longest-dead}

word : (name : List ℕ) → is_ascii_name name ≡ true → Spells Word name
word name is = word-one name (ascii-identifier name is)

one : IsIntSpelling (codes "1")
one = (pos 1, inr (inr ((omega arith, (omega arith, tt)), refl)))

blank : All (λ b. class_of b ≡ Space) (32 ∷ [])
unfolding class_of
blank = All-cons (λ b. class_of b ≡ Space) 32 [] refl (All-nil (λ b. class_of b ≡ Space))

none : All (λ b. class_of b ≡ Space) []
none = All-nil (λ b. class_of b ≡ Space)

-- a token with a blank after it, or nothing
abbrev with_blank : TokenKind → List ℕ → Print
with_blank kind text = record { kind = kind; text = text; gap = 32 ∷ [] }

abbrev without_blank : TokenKind → List ℕ → Print
without_blank kind text = record { kind = kind; text = text; gap = [] }

-- words, each with a blank after it, before others
words_then : (names : List (List ℕ)) (prints : List Print) → list_all is_ascii_name names ≡ true → ArePrintable prints → ArePrintable (map (with_blank Word) names ++ prints)
words_then [] prints all more = more
words_then (name ∷ names) prints all more = let parts = and_parts (is_ascii_name name) (list_all is_ascii_name names) all in (word name parts.0, (blank, (refl, words_then names prints parts.1 more)))

-- the last of them
alone : (kind : TokenKind) (text : List ℕ) → Spells kind text → ArePrintable (without_blank kind text ∷ [])
alone kind text spelled = (spelled, (none, (tt, tt)))

abbrev last_prints : List Print
last_prints = map (with_blank Word) (codes "and" ∷ codes "Name" ∷ codes "eq" ∷ []) ++ without_blank Str (codes "'a'") ∷ []

last_printable : ArePrintable last_prints
last_printable = words_then (codes "and" ∷ codes "Name" ∷ codes "eq" ∷ []) (without_blank Str (codes "'a'") ∷ []) refl (alone Str (codes "'a'") (97 ∷ [], refl))

abbrev first_words : List (List ℕ)
first_words = codes "Active" ∷ codes "and" ∷ codes "ID" ∷ codes "eq" ∷ []

plain_printable : ArePrintable (map (with_blank Word) first_words ++ with_blank Int (codes "1") ∷ last_prints)
plain_printable = words_then first_words (with_blank Int (codes "1") ∷ last_prints) refl (one, (blank, (refl, last_printable)))

pub plain_list : IsTokenList plain_filter plain_tokens
plain_list = prints-list (map (with_blank Word) first_words ++ with_blank Int (codes "1") ∷ last_prints) plain_printable (omega arith) (omega arith)

-- a fault at the very beginning
first_fault : (text : List ℕ) (fault : TextFault) → length text ≤ text_limit → IsFaultAt text 0 0 fault → IsFaultBehind text fault
first_fault text fault short at = record {
  short = short;
  before = [];
  few = omega arith;
  tokens = tt;
  place = 0;
  gap = record { order = omega arith; within = omega arith; white = λ i low high. absurd (omega arith) };
  fault_at = at;
}

pub run_on_fault : IsFaultBehind run_on_filter (RunOn (record { start = 0; stop = 3 }))
unfolding lib.Utf8.encode
run_on_fault =
    first_fault run_on_filter (RunOn (record { start = 0; stop = 3 })) (omega arith)
    (refl, run_on run_on_filter 0 1 2 Int (longest-dead (Token Int) run_on_filter 1 (omega arith) one (λ more. refl)) refl (sym (run-names (codes "st") refl)) (omega arith))

moment : Spells Moment (codes "2020-01-01T00:00Z")
moment = record {
  date = codes "2020-01-01";
  letter = 84;
  clock = codes "00:00";
  seconds = [];
  offset = codes "Z";
  spelled = refl;
  is_date = (2020, 1, 1, omega arith, omega arith, omega arith, refl);
  is_letter = inl refl;
  is_clock = (0, 0, omega arith, omega arith, refl);
  is_seconds = inl refl;
  is_offset = inl refl;
}

pub moment_list : IsTokenList moment_filter moment_tokens
moment_list =
    prints-list (with_blank Word (codes "Changed") ∷ with_blank Word (codes "gt") ∷ without_blank Moment (codes "2020-01-01T00:00Z") ∷ [])
    (words_then (codes "Changed" ∷ codes "gt" ∷ []) (without_blank Moment (codes "2020-01-01T00:00Z") ∷ []) refl (alone Moment (codes "2020-01-01T00:00Z") moment)) (omega arith) (omega arith)

abbrev is_hex : ℕ → Bool
is_hex c = nat_lt (digit_value c) 16

all-digits : (ds : List ℕ) → list_all is_hex ds ≡ true → AllDigits 16 ds
all-digits [] all = tt
all-digits (d ∷ ds) all = let parts = and_parts (is_hex d) (list_all is_hex ds) all in (ltb-true (digit_value d) 16 parts.0, all-digits ds parts.1)

abbrev guid_digits : List ℕ
guid_digits = codes "1234567e123412341234123456789012"

guid : Spells Guid (codes "1234567e-1234-1234-1234-123456789012")
guid = (hex_bytes guid_digits, record { digits = guid_digits; all_digits = all-digits guid_digits refl; count = refl; spelled = refl; value = refl })

pub guid_list : IsTokenList guid_filter guid_tokens
guid_list =
    prints-list (with_blank Word (codes "ID") ∷ with_blank Word (codes "eq") ∷ without_blank Guid (codes "1234567e-1234-1234-1234-123456789012") ∷ [])
    (words_then (codes "ID" ∷ codes "eq" ∷ []) (without_blank Guid (codes "1234567e-1234-1234-1234-123456789012") ∷ []) refl (alone Guid (codes "1234567e-1234-1234-1234-123456789012") guid)) (omega arith) (omega arith)

enumeration : Spells EnumLit (codes "a.b'x'")
enumeration = record {
  front = codes "a.b";
  back = codes "'x'";
  whole = refl;
  is_front = record {
    word = record {
      part = codes "a";
      more = codes "b" ∷ [];
      identifier = ascii-identifier (codes "a") refl;
      identifiers = (ascii-identifier (codes "b") refl, tt);
      whole = refl;
    };
    dotted = omega arith;
  };
  is_back = (codes "x", refl);
}

pub enumeration_list : IsTokenList enumeration_filter enumeration_tokens
enumeration_list = prints-list (without_blank EnumLit enumeration_filter ∷ []) (alone EnumLit enumeration_filter enumeration) (omega arith) (omega arith)

fraction : IsFormed (LeftOut Number) fraction_filter
fraction = record { front = codes "1"; back = codes ".5"; whole = refl; is_front = one; is_back = inl (refl, (omega arith, (omega arith, tt))) }

pub fraction_fault : IsFaultBehind fraction_filter (LeftOutLiteral (record { start = 0; stop = 3 }))
fraction_fault =
    first_fault fraction_filter (LeftOutLiteral (record { start = 0; stop = 3 })) (omega arith)
    (refl, record { kind = Number; order = omega arith; longest = longest-dead (LeftOut Number) fraction_filter 3 (omega arith) fraction (λ more. absurd (omega arith)) })
