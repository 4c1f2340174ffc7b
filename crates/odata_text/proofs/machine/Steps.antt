-- Single steps of the machine.
use Rattle.odata_text.proofs.Common.{◌≡◌, ◌⊎◌, inl, inr, ⊎_elim, ℕ, ◌≤◌, ◌==◌, ◌||◌, Bool, true, false, List, [], ◌∷◌, ◌++◌, map, arith, refl, ◌∙◌, ap, fold, is_ascii_digit, is_ascii_hexdigit, list_all, IsNumeral, and_parts, cases_Bool, cond-true, cond-false, eqb-true, false≢true, nat_tests, fold-append, quoted_after, PassesTests, passes, ByteTest, Digit, HexDigit, Hyphen, Dot, Sign, TimeMark, OffsetMark, ExponentMark, Quoted, Before, Closed, Over, Colon, Open}
use Rattle.odata_text.specs.declared.token.TokenKind.TheVariants.{Colon as ColonToken}
use Rattle.odata_text.proofs.characters.IdentifierBytes.{is_part_byte, is_word_start}
use Rattle.odata_text.proofs.spellings.Patterns.{either-byte}
use Rattle.odata_text.proofs.spellings.Reaches.{numeral-digits, numeral-none}
use Rattle.odata_text.proofs.machine.States.{Letter, AnE, AHexLetter, ATime, AZulu, APlain, Sort, ADigit, ALetter, ADot, AHyphen, AMark, AnyOther, State, Start, Name, Lead, Text, enter, is_quote, letter_of, quoted_by, sort_of, step}

-- What a byte is to the machine.

pub digit-sort : (b : ℕ) → is_ascii_digit b ≡ true → sort_of b ≡ ADigit
digit-sort b digit = grind (arith, nat_tests)

pub letter-sort : (b : ℕ) → is_part_byte b ≡ true → is_ascii_digit b ≡ false → sort_of b ≡ ALetter (letter_of b)
letter-sort b part digit =
    let quote : (b == 39) ≡ false = grind (arith, nat_tests) in
    cond-false (b == 39) _ _ quote ∙ cond-false (is_ascii_digit b) _ _ digit ∙ cond-true (is_part_byte b) _ _ part

pub past-sort : (b : ℕ) → 128 ≤ b → sort_of b ≡ ALetter APlain
past-sort b far = grind (arith, nat_tests)

pub hex-sorts : (b : ℕ) → is_ascii_hexdigit b ≡ true → (sort_of b ≡ ADigit) ⊎ ((sort_of b ≡ ALetter AnE) ⊎ (sort_of b ≡ ALetter AHexLetter))
hex-sorts b hex =
    ⊎_elim
    (λ digit. inl (digit-sort b digit))
    (λ letter.
    let part : is_part_byte b ≡ true = grind (arith, nat_tests) in
    let sort = letter-sort b part letter in
    ⊎_elim
    (λ e. inr (inl (sort ∙ ap ALetter (cond-true ((b == 101) || (b == 69)) _ _ e))))
    (λ other. inr (inr (sort ∙ ap ALetter (cond-false ((b == 101) || (b == 69)) _ _ other ∙ cond-true (is_ascii_hexdigit b) _ _ hex))))
    (cases_Bool ((b == 101) || (b == 69))))
    (cases_Bool (is_ascii_digit b))

pub quote-sort : (b : ℕ) → is_quote (sort_of b) ≡ (b == 39)
quote-sort b = grind (arith, nat_tests)

-- Bytes that keep a state.

pub stays : (p : ℕ → Bool) (q : State) (xs : List ℕ) → ((b : ℕ) → p b ≡ true → step q b ≡ q) → list_all p xs ≡ true → fold step q xs ≡ q
stays p q [] kept all = refl
stays p q (b ∷ bs) kept all = let parts = and_parts (p b) (list_all p bs) all in ap (λ (s : State). fold step s bs) (kept b parts.0) ∙ stays p q bs kept parts.1

pub digit-goes : (q next : State) → enter q ADigit ≡ next → (b : ℕ) → is_ascii_digit b ≡ true → step q b ≡ next
digit-goes q next goes b digit = ap (enter q) (digit-sort b digit) ∙ goes

pub part-kept : (q : State) → enter q ADigit ≡ q → ((l : Letter) → enter q (ALetter l) ≡ q) → (b : ℕ) → is_part_byte b ≡ true → step q b ≡ q
part-kept q by_digit by_letter b part =
    ⊎_elim
    (λ digit. ap (enter q) (digit-sort b digit) ∙ by_digit)
    (λ other. ap (enter q) (letter-sort b part other) ∙ by_letter (letter_of b))
    (cases_Bool (is_ascii_digit b))

pub name-starts : (b : ℕ) → is_word_start b ≡ true → step Start b ≡ Name
name-starts b start =
    let part : is_part_byte b ≡ true = grind (arith, nat_tests) in
    let digit : is_ascii_digit b ≡ false = grind (arith, nat_tests) in
    ap (enter Start) (letter-sort b part digit)

-- Pieces one after another.

pub goes-both : (p q : State) (xs front back : List ℕ) → xs ≡ front ++ back → fold step p front ≡ q → fold step p xs ≡ fold step q back
goes-both p q xs front back whole first =
    ap (fold step p) whole ∙ fold-append step p front back ∙ ap (λ (s : State). fold step s back) first

-- digits, from one state on into another
pub goes-digits : (q next : State) (ds : List ℕ) → enter q ADigit ≡ next → enter next ADigit ≡ next → IsNumeral 10 ds → fold step q ds ≡ next
goes-digits q next [] goes kept numeral = absurd (numeral-none numeral)
goes-digits q next (d ∷ ds) goes kept numeral =
    let all = and_parts (is_ascii_digit d) (list_all is_ascii_digit ds) (numeral-digits (d ∷ ds) numeral) in
    ap (λ (s : State). fold step s ds) (digit-goes q next goes d all.0) ∙ stays is_ascii_digit next ds (digit-goes next next kept) all.1

-- Texts in quotes.

text-step : (quoted : Quoted) (b : ℕ) → quoted_by quoted (is_quote (sort_of b)) ≡ quoted_after quoted b
text-step Before b = ap (quoted_by Before) (quote-sort b)
text-step Open b = ap (quoted_by Open) (quote-sort b)
text-step Closed b = ap (quoted_by Closed) (quote-sort b)
text-step Over b = refl

pub goes-text : (lead : Lead) (quoted : Quoted) (xs : List ℕ) → fold step (Text lead quoted) xs ≡ Text lead (fold quoted_after quoted xs)
goes-text lead quoted [] = refl
goes-text lead quoted (b ∷ bs) = ap (λ (q : Quoted). fold step (Text lead q) bs) (text-step quoted b) ∙ goes-text lead (quoted_after quoted b) bs

-- Patterns.

-- a test that bytes of one sort pass
abbrev pub is_plain : ByteTest → Bool
is_plain HexDigit = false
is_plain Sign = false
is_plain _ = true

abbrev pub test_sort : ByteTest → Sort
test_sort Digit = ADigit
test_sort Hyphen = AHyphen
test_sort Colon = AMark ColonToken
test_sort Dot = ADot
test_sort TimeMark = ALetter ATime
test_sort OffsetMark = ALetter AZulu
test_sort ExponentMark = ALetter AnE
test_sort _ = AnyOther

-- one of two bytes of a sort
either-sort : (b c d : ℕ) (sort : Sort) → ((b == c) || (b == d)) ≡ true → sort_of c ≡ sort → sort_of d ≡ sort → sort_of b ≡ sort
either-sort b c d sort passed one two = ⊎_elim (λ first. ap sort_of first ∙ one) (λ second. ap sort_of second ∙ two) (either-byte b c d passed)

passes-sort : (test : ByteTest) (b : ℕ) → is_plain test ≡ true → passes test b ≡ true → sort_of b ≡ test_sort test
passes-sort Digit b plain passed = digit-sort b passed
passes-sort Hyphen b plain passed = ap sort_of (eqb-true b 45 passed)
passes-sort Colon b plain passed = ap sort_of (eqb-true b 58 passed)
passes-sort Dot b plain passed = ap sort_of (eqb-true b 46 passed)
passes-sort TimeMark b plain passed = either-sort b 84 116 (ALetter ATime) passed refl refl
passes-sort OffsetMark b plain passed = either-sort b 90 122 (ALetter AZulu) passed refl refl
passes-sort ExponentMark b plain passed = either-sort b 101 69 (ALetter AnE) passed refl refl
passes-sort _ b plain passed = absurd (false≢true plain)

pub goes-fits : (tests : List ByteTest) (q : State) (xs : List ℕ) → list_all is_plain tests ≡ true → PassesTests tests xs → fold step q xs ≡ fold enter q (map test_sort tests)
goes-fits [] q [] plain fits = refl
goes-fits [] q (b ∷ bs) plain fits = absurd fits
goes-fits (test ∷ tests) q [] plain fits = absurd fits
goes-fits (test ∷ tests) q (b ∷ bs) plain fits =
    let parts = and_parts (is_plain test) (list_all is_plain tests) plain in
    ap (λ (s : Sort). fold step (enter q s) bs) (passes-sort test b parts.0 fits.0) ∙ goes-fits tests (enter q (test_sort test)) bs parts.1 fits.1
