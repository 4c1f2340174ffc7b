-- The content of a string of JSON is bytes of characters where its text is.
use Rattle.std.proofs.Common.{◌≡◌, ◌⊎◌, inl, inr, ℕ, zero, suc, ◌+◌, ◌*◌, ◌<◌, ◌≤◌, List, [], ◌∷◌, Bool, true, false, cond, ◌||◌, ◌&&◌, ◌==◌, Option, Some, None, option_and_then, nat_lt, refl, subst, arith}
use Rattle.std.specs.Char.{digit_value, encode_utf8, is_digit}
use Rattle.std.specs.Str.{continuation_len}
use Rattle.std.proofs.lemmas.Bool.{and_parts, eqb-true, ltb-true, or_cases, ne_eqb}
use Rattle.json.specs.Text.{Within, plain, after_backslash, after_u, after_high, code_unit, short_escape, is_high_surrogate, is_low_surrogate, surrogate_pair, prepend, content}
use Rattle.sql_tree.proofs.Spelled.{IsSpelled}
use Rattle.sql_tree.proofs.SpelledTexts.{character_more, one_less, one_more}

abbrev pub SpelledIf : ℕ → Option (List ℕ) → Type 0
SpelledIf n None = Unit {0}
SpelledIf n (Some s) = IsSpelled n s

-- ---- what is put before the rest

byte_put : (n m b : ℕ) (rest : Option (List ℕ)) → ((s : List ℕ) → IsSpelled m s → IsSpelled n (b ∷ s)) → SpelledIf m rest → SpelledIf n (prepend (b ∷ []) rest)
byte_put n m b None more spelled = tt
byte_put n m b (Some s) more spelled = more s spelled

character_put : (c : ℕ) (rest : Option (List ℕ)) → SpelledIf 0 rest → SpelledIf 0 (prepend (encode_utf8 c) rest)
character_put c None spelled = tt
character_put c (Some s) spelled = character_more c s spelled

-- ---- a byte outside of escapes

begun : (quote slash control : Bool) (b : ℕ) (rest escaped : Option (List ℕ)) → (slash ≡ true → SpelledIf 0 escaped) → SpelledIf (continuation_len b) rest
    → SpelledIf 0 (cond quote (Some []) (cond slash escaped (cond control None (prepend (b ∷ []) rest))))
begun true slash control b rest escaped back more = tt
begun false true control b rest escaped back more = back refl
begun false false true b rest escaped back more = tt
begun false false false b rest escaped back more = byte_put 0 (continuation_len b) b rest (λ s spelled. spelled) more

gone_on : (quote slash control : Bool) (n b : ℕ) (rest escaped : Option (List ℕ)) → quote ≡ false → slash ≡ false → control ≡ false → 128 ≤ b → SpelledIf n rest
    → SpelledIf (suc n) (cond quote (Some []) (cond slash escaped (cond control None (prepend (b ∷ []) rest))))
gone_on true slash control n b rest escaped q s c past more = absurd (cc)
gone_on false true control n b rest escaped q s c past more = absurd (cc)
gone_on false false true n b rest escaped q s c past more = absurd (cc)
gone_on false false false n b rest escaped q s c past more = byte_put (suc n) n b rest (λ s spelled. (past, spelled)) more

no_control : (b : ℕ) → 128 ≤ b → nat_lt b 32 ≡ false
no_control b past = grind arith

plain_byte : (n b : ℕ) (bs : List ℕ) (rest escaped : Option (List ℕ)) → IsSpelled n (b ∷ bs) → ((m : ℕ) → IsSpelled m bs → SpelledIf m rest) → (IsSpelled 0 bs → SpelledIf 0 escaped)
    → SpelledIf n (cond (b == 34) (Some []) (cond (b == 92) escaped (cond (nat_lt b 32) None (prepend (b ∷ []) rest))))
plain_byte zero b bs rest escaped spelled more back =
    begun (b == 34) (b == 92) (nat_lt b 32) b rest escaped (λ same. back (subst (λ c. IsSpelled (continuation_len c) bs) (eqb-true b 92 same) spelled)) (more (continuation_len b) spelled)
plain_byte (suc n) b bs rest escaped spelled more back =
    let past = spelled.0 in
    gone_on (b == 34) (b == 92) (nat_lt b 32) n b rest escaped (ne_eqb b 34 (omega (arith, past))) (ne_eqb b 92 (omega (arith, past))) (no_control b past) past (more n spelled.1)

-- ---- escapes

abbrev AreAscii : ℕ → Option ℕ → Type 0
AreAscii b None = Unit {0}
AreAscii b (Some c) = (b < 128) × (c < 128)

chosen : (test : Bool) (b c : ℕ) (other : Option ℕ) → (test ≡ true → (b < 128) × (c < 128)) → AreAscii b other → AreAscii b (cond test (Some c) other)
chosen true b c other ascii more = ascii refl
chosen false b c other ascii more = more

one_of : (b c : ℕ) → c < 128 → (b == c) ≡ true → b < 128
one_of b c ascii same = let is : b ≡ c = eqb-true b c same in omega arith

itself : (b : ℕ) → (((b == 34) || (b == 92)) || (b == 47)) ≡ true → (b < 128) × (b < 128)
itself b test = let below = by (or_cases ((b == 34) || (b == 92)) (b == 47) test) in (below, below)
  where
    by_two : ((b == 34) ≡ true) ⊎ ((b == 92) ≡ true) → b < 128
    by_two (inl same) = one_of b 34 (omega arith) same
    by_two (inr same) = one_of b 92 (omega arith) same

    by : (((b == 34) || (b == 92)) ≡ true) ⊎ ((b == 47) ≡ true) → b < 128
    by (inl other) = by_two (or_cases (b == 34) (b == 92) other)
    by (inr same) = one_of b 47 (omega arith) same

short_ascii : (b : ℕ) → AreAscii b (short_escape b)
unfolding short_escape
short_ascii b =
    chosen (((b == 34) || (b == 92)) || (b == 47)) b b _ (itself b)
    (chosen (b == 98) b 8 _ (λ same. (one_of b 98 (omega arith) same, omega arith))
    (chosen (b == 102) b 12 _ (λ same. (one_of b 102 (omega arith) same, omega arith))
    (chosen (b == 110) b 10 _ (λ same. (one_of b 110 (omega arith) same, omega arith))
    (chosen (b == 114) b 13 _ (λ same. (one_of b 114 (omega arith) same, omega arith))
    (chosen (b == 116) b 9 None (λ same. (one_of b 116 (omega arith) same, omega arith)) tt)))))

short_put : (b : ℕ) (bs : List ℕ) (found : Option ℕ) (rest : Option (List ℕ)) → AreAscii b found → IsSpelled 0 (b ∷ bs) → (IsSpelled 0 bs → SpelledIf 0 rest)
    → SpelledIf 0 (option_and_then (λ c. prepend (c ∷ []) rest) found)
short_put b bs None rest ascii spelled more = tt
short_put b bs (Some c) rest ascii spelled more = byte_put 0 0 c rest (λ s. one_more c s ascii.1) (more (one_less b bs ascii.0 spelled))

slash_byte : (is_u : Bool) (b : ℕ) (bs : List ℕ) (rest unit : Option (List ℕ)) → (b == 117) ≡ is_u → IsSpelled 0 (b ∷ bs) → (IsSpelled 0 bs → SpelledIf 0 rest) → (IsSpelled 0 bs → SpelledIf 0 unit)
    → SpelledIf 0 (cond is_u unit (option_and_then (λ c. prepend (c ∷ []) rest) (short_escape b)))
slash_byte true b bs rest unit test spelled more units = units (one_less b bs (one_of b 117 (omega arith) test) spelled)
slash_byte false b bs rest unit test spelled more units = short_put b bs (short_escape b) rest (short_ascii b) spelled more

hex_ascii : (b : ℕ) → is_digit b 16 ≡ true → b < 128
hex_ascii b test = let small = ltb-true _ 16 test in grind arith

abbrev HexIf : ℕ → ℕ → ℕ → ℕ → Option ℕ → Type 0
HexIf a b c d None = Unit {0}
HexIf a b c d (Some u) = (a < 128) × (b < 128) × (c < 128) × (d < 128)

unit_ascii : (a b c d : ℕ) → HexIf a b c d (code_unit a b c d)
unfolding code_unit
unit_ascii a b c d = by (((is_digit a 16 && is_digit b 16) && is_digit c 16) && is_digit d 16) (digit_value a * 4096 + digit_value b * 256 + digit_value c * 16 + digit_value d) refl
  where
    by : (test : Bool) (u : ℕ) → (((is_digit a 16 && is_digit b 16) && is_digit c 16) && is_digit d 16) ≡ test → HexIf a b c d (cond test (Some u) None)
    by true u test =
        let fourth = and_parts ((is_digit a 16 && is_digit b 16) && is_digit c 16) (is_digit d 16) test in
        let third = and_parts (is_digit a 16 && is_digit b 16) (is_digit c 16) fourth.0 in
        let second = and_parts (is_digit a 16) (is_digit b 16) third.0 in
        (hex_ascii a second.0, hex_ascii b second.1, hex_ascii c third.1, hex_ascii d fourth.1)
    by false u test = tt

four_less : (a b c d : ℕ) (bs : List ℕ) → a < 128 → b < 128 → c < 128 → d < 128 → IsSpelled 0 (a ∷ b ∷ c ∷ d ∷ bs) → IsSpelled 0 bs
four_less a b c d bs one two three four spelled =
    one_less d bs four (one_less c (d ∷ bs) three (one_less b (c ∷ d ∷ bs) two (one_less a (b ∷ c ∷ d ∷ bs) one spelled)))

unit_chosen : (high low : Bool) (u : ℕ) (rest pair : Option (List ℕ)) → SpelledIf 0 rest → SpelledIf 0 pair
    → SpelledIf 0 (cond high pair (cond low None (prepend (encode_utf8 u) rest)))
unit_chosen true low u rest pair more paired = paired
unit_chosen false true u rest pair more paired = tt
unit_chosen false false u rest pair more paired = character_put u rest more

unit_bytes : (a b c d : ℕ) (bs : List ℕ) (found : Option ℕ) (rest : Option (List ℕ)) (pair : ℕ → Option (List ℕ)) → HexIf a b c d found → IsSpelled 0 (a ∷ b ∷ c ∷ d ∷ bs)
    → (IsSpelled 0 bs → SpelledIf 0 rest) → ((u : ℕ) → IsSpelled 0 bs → SpelledIf 0 (pair u))
    → SpelledIf 0 (option_and_then (λ u. cond (is_high_surrogate u) (pair u) (cond (is_low_surrogate u) None (prepend (encode_utf8 u) rest))) found)
unit_bytes a b c d bs None rest pair ascii spelled more paired = tt
unit_bytes a b c d bs (Some u) rest pair ascii spelled more paired =
    let after = four_less a b c d bs ascii.0 ascii.1 ascii.2 ascii.3 spelled in
    unit_chosen (is_high_surrogate u) (is_low_surrogate u) u rest (pair u) (more after) (paired u after)

low_chosen : (low : Bool) (c : ℕ) (rest : Option (List ℕ)) → SpelledIf 0 rest → SpelledIf 0 (cond low (prepend (encode_utf8 c) rest) None)
low_chosen true c rest more = character_put c rest more
low_chosen false c rest more = tt

pair_bytes : (marked : Bool) (h s u a b c d : ℕ) (bs : List ℕ) (found : Option ℕ) (rest : Option (List ℕ)) → ((s == 92) && (u == 117)) ≡ marked → HexIf a b c d found
    → IsSpelled 0 (s ∷ u ∷ a ∷ b ∷ c ∷ d ∷ bs) → (IsSpelled 0 bs → SpelledIf 0 rest)
    → SpelledIf 0 (cond marked (option_and_then (λ l. cond (is_low_surrogate l) (prepend (encode_utf8 (surrogate_pair h l)) rest) None) found) None)
pair_bytes false h s u a b c d bs found rest test ascii spelled more = tt
pair_bytes true h s u a b c d bs None rest test ascii spelled more = tt
pair_bytes true h s u a b c d bs (Some l) rest test ascii spelled more =
    let marks = and_parts (s == 92) (u == 117) test in
    let begun = one_less u (a ∷ b ∷ c ∷ d ∷ bs) (one_of u 117 (omega arith) marks.1) (one_less s (u ∷ a ∷ b ∷ c ∷ d ∷ bs) (one_of s 92 (omega arith) marks.0) spelled) in
    low_chosen (is_low_surrogate l) (surrogate_pair h l) rest (more (four_less a b c d bs ascii.0 ascii.1 ascii.2 ascii.3 begun))

-- ---- contents

-- how many bytes that end a character come first
abbrev first_of : Within → ℕ → ℕ
first_of plain n = n
first_of after_backslash n = 0
first_of after_u n = 0
first_of (after_high h) n = 0

content_spelled : (w : Within) (n : ℕ) (text : List ℕ) → IsSpelled (first_of w n) text → SpelledIf (first_of w n) (content w text)
unfolding content
content_spelled plain n [] spelled = tt
content_spelled plain n (b ∷ bs) spelled =
    plain_byte n b bs (content plain bs) (content after_backslash bs) spelled (λ m later. content_spelled plain m bs later) (λ later. content_spelled after_backslash 0 bs later)
content_spelled after_backslash n [] spelled = tt
content_spelled after_backslash n (b ∷ bs) spelled =
    slash_byte (b == 117) b bs (content plain bs) (content after_u bs) refl spelled (λ later. content_spelled plain 0 bs later) (λ later. content_spelled after_u 0 bs later)
content_spelled after_u n [] spelled = tt
content_spelled after_u n (a ∷ []) spelled = tt
content_spelled after_u n (a ∷ b ∷ []) spelled = tt
content_spelled after_u n (a ∷ b ∷ c ∷ []) spelled = tt
content_spelled after_u n (a ∷ b ∷ c ∷ d ∷ bs) spelled =
    unit_bytes a b c d bs (code_unit a b c d) (content plain bs) (λ u. content (after_high u) bs) (unit_ascii a b c d) spelled
    (λ later. content_spelled plain 0 bs later) (λ u later. content_spelled (after_high u) 0 bs later)
content_spelled (after_high h) n [] spelled = tt
content_spelled (after_high h) n (s ∷ []) spelled = tt
content_spelled (after_high h) n (s ∷ u ∷ []) spelled = tt
content_spelled (after_high h) n (s ∷ u ∷ a ∷ []) spelled = tt
content_spelled (after_high h) n (s ∷ u ∷ a ∷ b ∷ []) spelled = tt
content_spelled (after_high h) n (s ∷ u ∷ a ∷ b ∷ c ∷ []) spelled = tt
content_spelled (after_high h) n (s ∷ u ∷ a ∷ b ∷ c ∷ d ∷ bs) spelled =
    pair_bytes ((s == 92) && (u == 117)) h s u a b c d bs (code_unit a b c d) (content plain bs) refl (unit_ascii a b c d) spelled (λ later. content_spelled plain 0 bs later)

pub string_spelled : (text : List ℕ) → IsSpelled 0 text → SpelledIf 0 (content plain text)
string_spelled text spelled = content_spelled plain 0 text spelled
