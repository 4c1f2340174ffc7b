-- Plain tokens: what ends a word, digits, a text in quotes and a mark.
use Rattle.std.proofs.lemmas.List.{drop_more}
use Rattle.odata_text.proofs.Common.{◌≡◌, inl, ⊎_elim, ℕ, ◌+◌, ◌-◌, ◌<◌, ◌≤◌, ◌==◌, ◌||◌, not, Bool, true, false, List, [], ◌∷◌, suc, length, get_or, take, drop, arith, refl, sym, ◌∙◌, ap, subst, IsUtf8, IsCharBoundary, fold, slice_range, list_all, is_ascii_digit, and_from, and_parts, or_cases, both_ways, not-false, eqb-true, false≢true, false_from_ne_true, or_left, cond-false, nat_tests, agree_below_at, list_all-from_AllPass, All-from_get_or, length-drop, length-take-le, get_or-take, get_or-drop, fold_more, identifier_run, is_undelimited, IsLongest, Spells, Token, TokenKind, Word, Int, Str, Open, Closed, Before, quoted_after}
use Rattle.odata_text.specs.Tokens.{RunsOn}
use Rattle.odata_text.specs.private.Lengths.{quoted_of}
use Rattle.odata_text.specs.private.PlainTokens.{IsRun, IsTokenBetween, is_first_byte, is_name_byte, number_goes_on, word_goes_on}
use Rattle.odata_text.proofs.characters.IdentifierBytes.{ascii-identifier, is_ascii_name, run-nothing, run-outside}
use Rattle.odata_text.proofs.spellings.Quotes.{spelling-from_closed}
use Rattle.odata_text.proofs.spellings.Reaches.{digits-numeral, int-from_parts}
use Rattle.odata_text.proofs.machine.Longest.{longest-dead}
use Rattle.odata_text.proofs.machine.Runs.{identifier-run, text-run}
use Rattle.odata_text.proofs.machine.States.{State, Start, Whole, Text, Digits, Name, Bare, is_dead, quoted_by, run, step}
use Rattle.odata_text.proofs.machine.Steps.{goes-digits, quote-sort}
use Rattle.odata_text.proofs.readings.Places.{boundary-behind}

-- The bytes between two offsets.

-- the bytes so far pass the test
pub record PassesUpTo (test : ℕ → Bool) (bytes : List ℕ) (from to : ℕ) : Type 0 where
  pub order : from ≤ to
  pub within : to ≤ length bytes
  pub each : (i : ℕ) → from ≤ i → i < to → test (get_or bytes i 0) ≡ true

run-slice : (p : ℕ → Bool) (xs : List ℕ) (from to : ℕ) → IsRun p xs from to → list_all p (slice_range xs from to) ≡ true
run-slice p xs from to run =
    let order = run.order in
    let within = run.within in
    let room = length-drop from xs in
    let size = length-take-le (to - from) (drop from xs) (omega arith) in
    list_all-from_AllPass p (slice_range xs from to) (All-from_get_or (λ b. p b ≡ true) (slice_range xs from to) 0 (λ i inside.
    let here : i < to - from = omega arith in
    ap p (get_or-take (to - from) (drop from xs) i 0 here ∙ get_or-drop from xs i 0) ∙ run.each (from + i) (omega arith) (omega arith)))

first-slice : (xs : List ℕ) (from to : ℕ) → from < to → to ≤ length xs → slice_range xs from to ≡ get_or xs from 0 ∷ slice_range xs (from + 1) to
first-slice xs from to some within =
    let count : to - from ≡ suc (to - (from + 1)) = omega arith in
    ap (take (to - from)) (drop_more xs from 0 (omega arith)) ∙ ap (λ (k : ℕ). take k (get_or xs from 0 ∷ drop (from + 1) xs)) count

-- What the machine does with the byte after a token.

dead-after_name : (b : ℕ) → is_name_byte b ≡ false → word_goes_on b ≡ false → is_dead (step Name b) ≡ true
dead-after_name b name longer =
    let ascii : b < 128 = grind (arith, nat_tests) in
    ⊎_elim
    (λ is. absurd (both_ways _ name is))
    (λ other. ⊎_elim (λ is. absurd (both_ways _ longer is)) (λ dead. dead) (or_cases (word_goes_on b) _ other))
    (or_cases (is_name_byte b) _ (agree_below_at (λ c. is_name_byte c || (word_goes_on c || is_dead (step Name c))) (λ c. true) 128 b refl ascii))

number-ascii : (b : ℕ) → number_goes_on b ≡ false → b < 128
number-ascii b stops = grind (arith, nat_tests)

number-name : (b : ℕ) → number_goes_on b ≡ false → is_name_byte b ≡ false
number-name b stops = false_from_ne_true (is_name_byte b) (λ name. both_ways _ stops (or_left (is_name_byte b) _ name))

dead-after_digits : (b : ℕ) → number_goes_on b ≡ false → is_dead (step Digits b) ≡ true
dead-after_digits b stops =
    ⊎_elim
    (λ is. absurd (both_ways _ stops is))
    (λ dead. dead)
    (or_cases (number_goes_on b) _ (agree_below_at (λ c. number_goes_on c || is_dead (step Digits c)) (λ c. true) 128 b refl (number-ascii b stops)))

dead-after_text : (b : ℕ) → (b == 39) ≡ false → is_dead (step (Text Bare Closed) b) ≡ true
dead-after_text b other = ap (λ (quote : Bool). is_dead (Text Bare (quoted_by Closed quote))) (quote-sort b ∙ other)

-- a token of which the machine says so
token-between : (text : List ℕ) (start stop : ℕ) (kind : TokenKind) → start ≤ stop → stop ≤ length text → Spells kind (slice_range text start stop)
    → (stop < length text → is_dead (step (run (slice_range text start stop)) (get_or text stop 0)) ≡ true) → (RunsOn kind (drop stop text) → ⊥) → IsTokenBetween text kind start stop
token-between text start stop kind order within spelled dead ends =
    let room = length-drop start text in
    let next : start + (stop - start) ≡ stop = omega arith in
    let byte : get_or (drop start text) (stop - start) 0 ≡ get_or text stop 0 = get_or-drop start text (stop - start) 0 ∙ ap (λ (k : ℕ). get_or text k 0) next in
    record {
      longest = record {
        order = order;
        longest = longest-dead (Token kind) (drop start text) (stop - start) (omega arith) spelled (λ more. ap (λ (b : ℕ). is_dead (step (run (slice_range text start stop)) b)) byte ∙ dead (omega arith));
        bytes = refl;
      };
      ends = ends;
    }

-- Words.

pub word-token : (text : List ℕ) (start stop : ℕ) → start < length text → is_first_byte (get_or text start 0) ≡ true → IsRun is_name_byte text (start + 1) stop
    → (stop < length text → word_goes_on (get_or text stop 0) ≡ false) → IsTokenBetween text Word start stop
word-token text start stop inside first names ends =
    let order = names.order in
    let within = names.within in
    let name : is_ascii_name (slice_range text start stop) ≡ true =
    ap is_ascii_name (first-slice text start stop (omega arith) within) ∙ and_from (is_first_byte (get_or text start 0)) _ first (run-slice is_name_byte text (start + 1) stop names) in
    let identifier = ascii-identifier (slice_range text start stop) name in
    token-between text start stop Word (omega arith) within (record { part = slice_range text start stop; more = []; identifier = identifier; identifiers = tt; whole = refl })
    (λ more. ap (λ (q : State). is_dead (step q (get_or text stop 0))) (identifier-run (slice_range text start stop) identifier) ∙ dead-after_name (get_or text stop 0) (names.stops more) (ends more))
    (λ runs. absurd (false≢true runs.0))

-- Digits.

no_run : (rest : List ℕ) → (0 < length rest → (get_or rest 0 0 < 128) × (is_name_byte (get_or rest 0 0) ≡ false)) → identifier_run rest ≡ 0
no_run [] first = run-nothing
no_run (b ∷ more) first = let outside = first (omega arith) in run-outside b more outside.0 outside.1

pub number-token : (text : List ℕ) (start stop : ℕ) → start < length text → is_ascii_digit (get_or text start 0) ≡ true → IsRun is_ascii_digit text (start + 1) stop
    → (stop < length text → number_goes_on (get_or text stop 0) ≡ false) → IsTokenBetween text Int start stop
number-token text start stop inside first digits ends =
    let order = digits.order in
    let within = digits.within in
    let parts = first-slice text start stop (omega arith) within in
    let size = ap length parts in
    let all : list_all is_ascii_digit (slice_range text start stop) ≡ true =
    ap (list_all is_ascii_digit) parts ∙ and_from (is_ascii_digit (get_or text start 0)) _ first (run-slice is_ascii_digit text (start + 1) stop digits) in
    let numeral = digits-numeral (slice_range text start stop) (omega arith) all in
    token-between text start stop Int (omega arith) within (int-from_parts (slice_range text start stop) (inl numeral))
    (λ more. ap (λ (q : State). is_dead (step q (get_or text stop 0))) (goes-digits Start Digits (slice_range text start stop) refl refl numeral) ∙ dead-after_digits (get_or text stop 0) (ends more))
    (λ runs.
    let none = no_run (drop stop text) (λ some.
    let room = length-drop stop text in
    let end = ends (omega arith) in
    let zero : stop + 0 ≡ stop = omega arith in
    let byte : get_or (drop stop text) 0 0 ≡ get_or text stop 0 = get_or-drop stop text 0 0 ∙ ap (λ (k : ℕ). get_or text k 0) zero in
    (subst (λ (b : ℕ). b < 128) (sym byte) (number-ascii (get_or text stop 0) end), ap is_name_byte byte ∙ number-name (get_or text stop 0) end)) in
    let some = runs.1 in
    absurd (omega arith))

-- Texts in quotes.

unquoted : (xs : List ℕ) → list_all (λ b. not (b == 39)) xs ≡ true → fold quoted_after Open xs ≡ Open
unquoted [] all = refl
unquoted (b ∷ bs) all =
    let parts = and_parts (not (b == 39)) _ all in
    let other : (b == 39) ≡ false = grind (arith, nat_tests) in
    ap (λ (q : _). fold quoted_after q bs) (cond-false (b == 39) Closed Open other) ∙ unquoted bs parts.1

pub text-token : (text : List ℕ) (start last : ℕ) → start < length text → get_or text start 0 ≡ 39 → IsRun (λ b. not (b == 39)) text (start + 1) last → last < length text
    → (last + 1 < length text → (get_or text (last + 1) 0 == 39) ≡ false) → IsTokenBetween text Str start (last + 1)
text-token text start last inside first body here ends =
    let order = body.order in
    let room = length-drop start text in
    let open' : quoted_of (slice_range text start last) ≡ Open =
    ap quoted_of (first-slice text start last (omega arith) (omega arith) ∙ ap (λ (b : ℕ). b ∷ slice_range text (start + 1) last) first) ∙ unquoted (slice_range text (start + 1) last) (run-slice _ text (start + 1) last body) in
    let next : start + (last - start) ≡ last = omega arith in
    let quote : get_or (drop start text) (last - start) 0 ≡ 39 =
    get_or-drop start text (last - start) 0 ∙ ap (λ (k : ℕ). get_or text k 0) next ∙ eqb-true (get_or text last 0) 39 (not-false (get_or text last 0 == 39) (body.stops here)) in
    let count : last + 1 - start ≡ last - start + 1 = omega arith in
    let closed : quoted_of (slice_range text start (last + 1)) ≡ Closed =
    ap (λ (k : ℕ). quoted_of (take k (drop start text))) count ∙ fold_more quoted_after Before (drop start text) (last - start) 0 (omega arith) ∙ ap (λ (b : ℕ). quoted_after (quoted_of (slice_range text start last)) b) quote ∙ ap (λ (q : _). quoted_after q 39) open' in
    let spelled = spelling-from_closed (slice_range text start (last + 1)) closed in
    token-between text start (last + 1) Str (omega arith) (omega arith) spelled
    (λ more. ap (λ (q : State). is_dead (step q (get_or text (last + 1) 0))) (text-run Start Bare (slice_range text start (last + 1)) refl spelled) ∙ dead-after_text (get_or text (last + 1) 0) (ends more))
    (λ runs. absurd (false≢true runs.0))

-- Marks.

pub mark-token : (b : ℕ) (kind : TokenKind) → Spells kind (b ∷ []) → step Start b ≡ Whole kind → is_undelimited kind ≡ false → (rest : List ℕ) → IsTokenBetween (b ∷ rest) kind 0 1
mark-token b kind spelled reads delimited rest =
    token-between (b ∷ rest) 0 1 kind (omega arith) (omega arith) spelled (λ more. ap (λ (q : State). is_dead (step q (get_or (b ∷ rest) 1 0))) reads) (λ runs. absurd (both_ways _ delimited runs.0))

pub mark-at : (text : List ℕ) (start : ℕ) (kind : TokenKind) → start < length text → ((rest : List ℕ) → IsTokenBetween (get_or text start 0 ∷ rest) kind 0 1) → IsTokenBetween text kind start (start + 1)
mark-at text start kind inside all =
    let token = all (drop (start + 1) text) in
    let one : 1 ≡ start + 1 - start = omega arith in
    record {
      longest = record {
        order = omega arith;
        longest = subst (λ (k : ℕ). IsLongest (Token kind) k (drop start text)) one (subst (IsLongest (Token kind) 1) (sym (drop_more text start 0 inside)) token.longest.longest);
        bytes = refl;
      };
      ends = token.ends;
    }

-- Where a token stops.

pub boundary-token : (text : List ℕ) (start stop : ℕ) (kind : TokenKind) → IsUtf8 text → IsCharBoundary text start → IsTokenBetween text kind start stop → IsCharBoundary text stop
boundary-token text start stop kind utf8 boundary token =
    let order = token.longest.order in
    let next : start + (stop - start) ≡ stop = omega arith in
    subst (IsCharBoundary text) next (boundary-behind text start (stop - start) kind utf8 boundary token.longest.longest)
