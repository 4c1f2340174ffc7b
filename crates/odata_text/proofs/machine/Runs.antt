-- Where the machine ends on a piece of each form.
use Rattle.odata_text.proofs.Common.{FollowedBy, AllOf, ◌≡◌, ◌⊎◌, inl, inr, ⊎_elim, ℕ, min, ◌+◌, ◌<◌, ◌≤◌, Bool, true, false, List, [], ◌∷◌, ◌++◌, drop, Some, arith, refl, ◌∙◌, ap, fold, list_all, and_parts, eqb-true, false≢true, or_cases, IsGuidSpelling, IsIntSpelling, IsNumeral, is_ascii_digit, IsMomentSpelling, IsOffsetSpelling, IsSecondsSpelling, IsStringSpelling, with_doubled_quotes, IsIdentifier, IsDecimals, IsExponent, IsFraction, PassesTests, passes, IsFormed, dotted_parts, ByteTest, HexDigit, Hyphen, TimeMark, OffsetMark, Form, Token, LeftOut, Number, TimeOfDay, Closed, Word, Dollar, Int, Date, Moment, Guid, Str, EnumLit}
use Rattle.odata_text.specs.declared.byte_test.ByteTest.TheVariants.{Sign as SignTest}
use Rattle.odata_text.specs.declared.form.LeftOutKind.TheVariants.{Quoted}
use Rattle.odata_text.specs.declared.quoted.Quoted.TheVariants.{Open as Opened}
use Rattle.odata_text.proofs.spellings.Reaches.{int-by_form}
use Rattle.odata_text.proofs.spellings.Guids.{fits-guid, guid_pattern}
use Rattle.odata_text.proofs.characters.Identifiers.{identifier-nonempty}
use Rattle.odata_text.proofs.characters.IdentifierBytes.{identifier-part, identifier-start, is_part_byte}
use Rattle.odata_text.proofs.spellings.Parts.{left_out-identifier}
use Rattle.odata_text.proofs.spellings.Patterns.{either-byte}
use Rattle.odata_text.proofs.spellings.Quotes.{open-with_doubled_quotes}
use Rattle.odata_text.proofs.spellings.Words.{DotAndWord, dotted-pair, word-cases}
use Rattle.odata_text.proofs.spellings.Times.{is_seconds_byte, clock_pattern, date_pattern, fits-clock, fits-date, fits-marked, offset-fits, parts-from_moment, seconds-bytes}
use Rattle.odata_text.proofs.machine.States.{Letter, AnE, AHexLetter, ADigit, ALetter, AHyphen, State, Start, Text, Sign, SignedDigits, Pointed, Powered, Digits, PowerDigits, PowerHyphen, OneHyphen, TwoHyphens, Hexes, Clock, Timed, Ahead, Name, Dotted, Dollared, Lead, Bare, Named, Qualified, enter, form_at, run, step}
use Rattle.odata_text.proofs.machine.Steps.{digit-goes, goes-both, goes-digits, goes-fits, goes-text, hex-sorts, name-starts, part-kept, stays}

-- Words.

part-run : (q : State) (xs : List ℕ) → enter q ADigit ≡ q → ((l : Letter) → enter q (ALetter l) ≡ q) → IsIdentifier xs → fold step q xs ≡ q
part-run q xs by_digit by_letter identifier = stays is_part_byte q xs (part-kept q by_digit by_letter) (identifier-part xs identifier)

dotted-run : (part : List ℕ) (more : List (List ℕ)) → IsIdentifier part → AllOf IsIdentifier more → fold step Dotted (dotted_parts part more) ≡ Dotted
dotted-run part [] identifier all = part-run Dotted part refl (λ l. refl) identifier
dotted-run part (next ∷ more) identifier all =
    goes-both Dotted Dotted (dotted_parts part (next ∷ more)) part (46 ∷ dotted_parts next more) refl (part-run Dotted part refl (λ l. refl) identifier)
    ∙ dotted-run next more all.0 all.1

pub identifier-run : (xs : List ℕ) → IsIdentifier xs → run xs ≡ Name
identifier-run [] identifier = let some = identifier-nonempty [] identifier in absurd (omega arith)
identifier-run (b ∷ bs) identifier =
    let parts = and_parts (is_part_byte b) (list_all is_part_byte bs) (identifier-part (b ∷ bs) identifier) in
    ap (λ (s : State). fold step s bs) (name-starts b (identifier-start (b ∷ bs) identifier)) ∙ stays is_part_byte Name bs (part-kept Name refl (λ l. refl)) parts.1

-- a word of several parts
pair-run : (xs : List ℕ) → FollowedBy IsIdentifier DotAndWord xs → run xs ≡ Dotted
pair-run xs pair =
    let dot = pair.is_back in
    let word = dot.is_back in
    goes-both Start Name xs pair.front pair.back pair.whole (identifier-run pair.front pair.is_front)
    ∙ goes-both Name Dotted pair.back dot.front dot.back dot.whole (ap (fold step Name) dot.is_front)
    ∙ ap (fold step Dotted) word.whole ∙ dotted-run word.part word.more word.identifier word.identifiers

-- Texts in quotes, after what the state has read.

pub text-run : (q : State) (lead : Lead) (xs : List ℕ) → step q 39 ≡ Text lead Opened → IsStringSpelling xs → fold step q xs ≡ Text lead Closed
text-run q lead xs opens spelled =
    let behind = with_doubled_quotes spelled.0 ++ 39 ∷ [] in
    ap (fold step q) spelled.1
    ∙ ap (λ (s : State). fold step s behind) opens
    ∙ goes-text lead Opened behind
    ∙ ap (Text lead) (open-with_doubled_quotes spelled.0 (39 ∷ []))

-- Numbers.

-- a whole number ends in one of two states
int-run : (xs : List ℕ) → IsIntSpelling xs → (run xs ≡ SignedDigits) ⊎ (run xs ≡ Digits)
int-run =
    int-by_form (λ xs. (run xs ≡ SignedDigits) ⊎ (run xs ≡ Digits))
    (λ ds numeral. inr (goes-digits Start Digits ds refl refl numeral))
    (λ ds numeral. inl (goes-digits Sign SignedDigits ds refl refl numeral))
    (λ ds numeral. inl (goes-digits Sign SignedDigits ds refl refl numeral))

fraction-run : (q : State) (xs : List ℕ) → step q 46 ≡ Pointed → IsFraction xs → fold step q xs ≡ Pointed
fraction-run q [] dot fraction = absurd fraction
fraction-run q (b ∷ digits) dot fraction =
    ap (λ (c : ℕ). fold step (step q c) digits) fraction.0 ∙ ap (λ (s : State). fold step s digits) dot ∙ goes-digits Pointed Pointed digits refl refl fraction.1

power-run : (q : State) (xs : List ℕ) → step q 101 ≡ Powered → step q 69 ≡ Powered → IsExponent xs → fold step q xs ≡ Powered
power-run q [] small big exponent = absurd exponent
power-run q (b ∷ power) small big exponent =
    ap (λ (s : State). fold step s power) (⊎_elim (λ is. ap (step q) is ∙ small) (λ is. ap (step q) is ∙ big) exponent.0)
    ∙ int-by_form (λ ys. fold step Powered ys ≡ Powered) digits digits digits power exponent.1
  where
    digits : (ds : List ℕ) → IsNumeral 10 ds → fold step Powered ds ≡ Powered
    digits ds numeral = goes-digits Powered Powered ds refl refl numeral

-- after digits alone an `e` may belong to a Guid
digits-power : (xs : List ℕ) → IsExponent xs → form_at (fold step Digits xs) ≡ Some (LeftOut Number)
digits-power [] exponent = absurd exponent
digits-power (b ∷ power) exponent =
    ap (λ (s : State). form_at (fold step s power)) (⊎_elim (λ small. ap (step Digits) small) (λ big. ap (step Digits) big) exponent.0)
    ∙ int-by_form (λ ys. form_at (fold step PowerDigits ys) ≡ Some (LeftOut Number))
    (λ ds numeral. ap form_at (goes-digits PowerDigits PowerDigits ds refl refl numeral))
    (λ ds numeral. ap form_at (goes-digits Powered Powered ds refl refl numeral))
    (λ ds numeral. ap form_at (goes-digits PowerHyphen PowerHyphen ds refl refl numeral)) power exponent.1

decimals-run : (q : State) (xs : List ℕ) → step q 46 ≡ Pointed → ((ys : List ℕ) → IsExponent ys → form_at (fold step q ys) ≡ Some (LeftOut Number)) → IsDecimals xs
    → form_at (fold step q xs) ≡ Some (LeftOut Number)
decimals-run q xs dot power (inl fraction) = ap form_at (fraction-run q xs dot fraction)
decimals-run q xs dot power (inr (inl exponent)) = power xs exponent
decimals-run q xs dot power (inr (inr pair)) =
    ap form_at (goes-both q Pointed xs pair.front pair.back pair.whole (fraction-run q pair.front dot pair.is_front) ∙ power-run Pointed pair.back refl refl pair.is_back)

-- after a whole number
number-run : (front back : List ℕ) → (run front ≡ SignedDigits) ⊎ (run front ≡ Digits) → IsDecimals back → form_at (run (front ++ back)) ≡ Some (LeftOut Number)
number-run front back (inl signed') decimals =
    ap form_at (goes-both Start SignedDigits (front ++ back) front back refl signed') ∙ decimals-run SignedDigits back refl (λ ys exponent. ap form_at (power-run SignedDigits ys refl refl exponent)) decimals
number-run front back (inr digits) decimals =
    ap form_at (goes-both Start Digits (front ++ back) front back refl digits) ∙ decimals-run Digits back refl digits-power decimals

-- Dates and times.

seconds-run : (q : State) (xs : List ℕ) → step q 46 ≡ q → step q 58 ≡ q → enter q ADigit ≡ q → IsSecondsSpelling xs → fold step q xs ≡ q
seconds-run q xs dot colon digit seconds = stays is_seconds_byte q xs kept (seconds-bytes xs seconds)
  where
    kept : (b : ℕ) → is_seconds_byte b ≡ true → step q b ≡ q
    kept b passed =
        ⊎_elim
        (λ is. digit-goes q q digit b is)
        (λ mark. ⊎_elim (λ is. ap (step q) is ∙ dot) (λ is. ap (step q) is ∙ colon) (either-byte b 46 58 mark))
        (or_cases (is_ascii_digit b) _ passed)

offset-run : (xs : List ℕ) → IsOffsetSpelling xs → form_at (fold step Timed xs) ≡ Some (Token Moment)
offset-run xs offset = ⊎_elim (λ mark. ap form_at (goes-fits (OffsetMark ∷ []) Timed xs refl mark)) (λ ahead. sign xs ahead) (offset-fits xs offset)
  where
    sign : (ys : List ℕ) → PassesTests (SignTest ∷ clock_pattern) ys → form_at (fold step Timed ys) ≡ Some (Token Moment)
    sign [] fits = absurd fits
    sign (b ∷ clock) fits =
        let ahead : step Timed b ≡ Ahead = ⊎_elim (λ plus. ap (step Timed) plus) (λ minus. ap (step Timed) minus) (either-byte b 43 45 fits.0) in
        ap (λ (s : State). form_at (fold step s clock)) ahead ∙ ap form_at (goes-fits clock_pattern Ahead clock refl fits.1)

moment-run : (xs : List ℕ) → IsMomentSpelling xs → form_at (run xs) ≡ Some (Token Moment)
moment-run xs moment =
    let pair = parts-from_moment xs moment in
    let timed = pair.is_back in
    let zoned = timed.is_back in
    ap form_at (goes-both Start TwoHyphens xs pair.front pair.back pair.whole (goes-fits date_pattern Start pair.front refl (fits-date pair.front pair.is_front))
    ∙ goes-both TwoHyphens Timed pair.back timed.front timed.back timed.whole (goes-fits (TimeMark ∷ clock_pattern) TwoHyphens timed.front refl (fits-marked timed.front timed.is_front))
    ∙ goes-both Timed Timed timed.back zoned.front zoned.back zoned.whole (seconds-run Timed zoned.front refl refl refl zoned.is_front))
    ∙ offset-run zoned.back zoned.is_back

-- Guids: how many hyphens there are at least, four where only a Guid can end.

abbrev level : State → ℕ
level Digits = 1
level PowerDigits = 1
level Name = 1
level OneHyphen = 2
level PowerHyphen = 2
level TwoHyphens = 3
level Hexes = 4
level _ = 0

abbrev level_after : ℕ → ByteTest → ℕ
level_after n Hyphen = min 4 (n + 1)
level_after n _ = n

abbrev is_guid_test : ByteTest → Bool
is_guid_test HexDigit = true
is_guid_test Hyphen = true
is_guid_test _ = false

-- a hexadecimal digit, an `e` or another hexadecimal letter loses no hyphen
level-hex : (q : State) → (level q ≤ level (enter q ADigit)) × (level q ≤ level (enter q (ALetter AnE))) × (level q ≤ level (enter q (ALetter AHexLetter)))
level-hex Start = (omega arith, omega arith, omega arith)
level-hex _ = (omega arith, omega arith, omega arith)

level-hyphen : (q : State) → 0 < level q → min 4 (level q + 1) ≤ level (enter q AHyphen)
level-hyphen Start some = absurd (omega arith)
level-hyphen _ some = omega arith

level-step : (test : ByteTest) (b n : ℕ) (q : State) → is_guid_test test ≡ true → passes test b ≡ true → 0 < n → n ≤ level q → level_after n test ≤ level (step q b)
level-step HexDigit b n q known passed some below =
    let kept = level-hex q in
    ⊎_elim (λ is. rw is (omega arith)) (λ other. ⊎_elim (λ is. rw is (omega arith)) (λ is. rw is (omega arith)) other) (hex-sorts b passed)
level-step Hyphen b n q known passed some below =
    let up = level-hyphen q (omega arith) in
    let is = eqb-true b 45 passed in
    rw is (omega arith)
level-step _ b n q known passed some below = absurd (false≢true known)

level-fits : (tests : List ByteTest) (xs : List ℕ) (n : ℕ) (q : State) → list_all is_guid_test tests ≡ true → PassesTests tests xs → 0 < n → n ≤ level q
    → fold level_after n tests ≤ level (fold step q xs)
level-fits [] [] n q known fits some below = below
level-fits [] (b ∷ bs) n q known fits some below = absurd fits
level-fits (test ∷ tests) [] n q known fits some below = absurd fits
level-fits (test ∷ tests) (b ∷ bs) n q known fits some below =
    let parts = and_parts (is_guid_test test) (list_all is_guid_test tests) known in
    level-fits tests bs (level_after n test) (step q b) parts.1 fits.1 (more test n some) (level-step test b n q parts.0 fits.0 some below)
  where
    more : (t : ByteTest) (k : ℕ) → 0 < k → 0 < level_after k t
    more Hyphen k some = omega arith
    more _ k some = some

level-guid : (q : State) → 4 ≤ level q → q ≡ Hexes
level-guid Hexes top = refl
level-guid _ top = absurd (omega arith)

guid-run : (xs : List ℕ) → IsGuidSpelling xs → run xs ≡ Hexes
guid-run xs guid = first xs (fits-guid xs guid)
  where
    first : (ys : List ℕ) → PassesTests guid_pattern ys → run ys ≡ Hexes
    first [] fits = absurd fits
    first (b ∷ bs) fits =
        let start : 1 ≤ level (step Start b) =
        ⊎_elim (λ is. rw is (omega arith)) (λ other. ⊎_elim (λ is. rw is (omega arith)) (λ is. rw is (omega arith)) other) (hex-sorts b fits.0) in
        level-guid (fold step (step Start b) bs) (level-fits (drop 1 guid_pattern) bs 1 (step Start b) refl fits.1 (omega arith) start)

-- Every form.

pub reads : (form : Form) (xs : List ℕ) → IsFormed form xs → form_at (run xs) ≡ Some form
reads (Token Word) xs formed = ⊎_elim (λ identifier. ap form_at (identifier-run xs identifier)) (λ pair. ap form_at (pair-run xs pair)) (word-cases xs formed)
reads (Token Dollar) xs formed =
    ap form_at (goes-both Start Dollared xs formed.front formed.back formed.whole (ap run formed.is_front)
    ∙ part-run Dollared formed.back refl (λ l. refl) formed.is_back)
reads (Token Int) xs formed = ⊎_elim (λ signed'. ap form_at signed') (λ digits. ap form_at digits) (int-run xs formed)
reads (Token Date) xs formed = ap form_at (goes-fits date_pattern Start xs refl (fits-date xs formed))
reads (Token Moment) xs formed = moment-run xs formed
reads (Token Guid) xs formed = ap form_at (guid-run xs formed)
reads (Token Str) xs formed = ap form_at (text-run Start Bare xs refl formed)
reads (Token EnumLit) xs formed =
    ap form_at (goes-both Start Dotted xs formed.front formed.back formed.whole (pair-run formed.front (dotted-pair formed.front formed.is_front))
    ∙ text-run Dotted Qualified formed.back refl formed.is_back)
reads (Token _) xs formed = ap (λ (ys : List ℕ). form_at (run ys)) formed
reads (LeftOut Number) xs formed = ap (λ (ys : List ℕ). form_at (run ys)) formed.whole ∙ number-run formed.front formed.back (int-run formed.front formed.is_front) formed.is_back
reads (LeftOut TimeOfDay) xs formed =
    ap form_at (goes-both Start Clock xs formed.front formed.back formed.whole (goes-fits clock_pattern Start formed.front refl (fits-clock formed.front formed.is_front))
    ∙ seconds-run Clock formed.back refl refl refl formed.is_back)
reads (LeftOut Quoted) xs formed =
    ap form_at (goes-both Start Name xs formed.front formed.back formed.whole (identifier-run formed.front (left_out-identifier formed.front formed.is_front)) ∙ text-run Name Named formed.back refl formed.is_back)
