-- No reader of the family finds another filter than the one that is found.
use Rattle.std.specs.List.{after_first, filter, list_any, position_or_len, slice_split}
use Rattle.std.specs.Str.{chars, is_utf8}
use Rattle.std.proofs.lemmas.Bool.{and_from, and_right, both_ways, cond-false, cond-true, or_left, or_right}
use Rattle.std.proofs.lemmas.List.Folds.{list_any_at}
use Rattle.std.proofs.lemmas.List.Splits.{slice_split_first, slice_split_none}
use Rattle.std.proofs.lemmas.List.Sums.{fails_before_first}
use Rattle.odata_queries.proofs.Common.{◌≡◌, ◌⊎◌, ⊎_elim, ℕ, ◌+◌, ◌-◌, ◌<◌, ◌≤◌, ◌==◌, ◌||◌, ◌&&◌, Bool, true, false, not, cond, List, [], ◌∷◌, length, get_or, Option, Some, zero, suc, arith, refl, sym, ◌∙◌, ap, subst, cases_lt, name_of, is_filter, option_start, options_of}
use Rattle.odata_queries.specs.Disguise.{decoded_once, has_filter_word, hides_filter, is_disguised, is_silent, is_system_option, open_text, part_hides, shows_decoded, shows_filter}
use Rattle.odata_queries.specs.Query.{decoded_name, is_refused_word, is_reserved}
use Rattle.odata_queries.specs.Find.{FoundModel, IsFoundIn, found_in}
use Rattle.odata_queries.specs.Readers.{FindsFilter, IsReader, Reader, TakesForFilter, characters_for, decoded_by, parts_for}
use Rattle.odata_queries.proofs.queries.Finds.{one_found}
use Rattle.odata_queries.proofs.readers.Words.{word-found}

-- a text that has the name as a word for some reader shows the filter
text-shows : (passes : Bool) (text : List ℕ) → is_utf8 text ≡ true → has_filter_word (cond passes (filter (λ c. not (is_silent c)) (chars text)) (chars text)) ≡ true → shows_filter text ≡ true
unfolding shows_filter
text-shows true text utf8 word = and_from (is_utf8 text) _ utf8 (or_right (has_filter_word (chars text)) _ word)
text-shows false text utf8 word = and_from (is_utf8 text) _ utf8 (or_left (has_filter_word (chars text)) _ word)

-- a name that shows the filter as some reader decodes it, hides it
decoded-hides : (once twice long : Bool) (part : List ℕ)
    → shows_filter (cond once (name_of part) (cond twice (decoded_once long (name_of part)) (decoded_once long (decoded_once long (name_of part))))) ≡ true → hides_filter part ≡ true
unfolding hides_filter shows_decoded
decoded-hides true twice long part shows = or_left _ (shows_decoded true (name_of part)) (or_left (shows_filter (name_of part)) (shows_decoded false (name_of part)) shows)
decoded-hides false true true part shows = or_right (shows_filter (name_of part) || shows_decoded false (name_of part)) _ (or_left (shows_filter (decoded_once true (name_of part))) _ shows)
decoded-hides false false true part shows = or_right (shows_filter (name_of part) || shows_decoded false (name_of part)) _ (or_right (shows_filter (decoded_once true (name_of part))) _ shows)
decoded-hides false true false part shows = or_left _ (shows_decoded true (name_of part)) (or_right (shows_filter (name_of part)) _ (or_left (shows_filter (decoded_once false (name_of part))) _ shows))
decoded-hides false false false part shows = or_left _ (shows_decoded true (name_of part)) (or_right (shows_filter (name_of part)) _ (or_right (shows_filter (decoded_once false (name_of part))) _ shows))

pub taken-hides : (reader : Reader) (part : List ℕ) → IsReader reader → TakesForFilter reader part → hides_filter part ≡ true
taken-hides reader part is takes =
    let text = decoded_by reader (name_of part) in
    let word : has_filter_word (characters_for reader text) ≡ true = word-found reader.apart is.apart (characters_for reader text) takes.name takes.filter takes.stands in
    decoded-hides (reader.times == 0) (reader.times == 1) reader.long part (text-shows reader.passes text takes.text word)

-- Parts.

some-hides : (semicolons urls : Bool) (text : List ℕ) (number : ℕ) → number < length (slice_split (λ b. (semicolons && b == 59) || (urls && b == 63)) text)
    → hides_filter (get_or (slice_split (λ b. (semicolons && b == 59) || (urls && b == 63)) text) number []) ≡ true → part_hides semicolons urls text ≡ true
unfolding part_hides
some-hides semicolons urls text number inside hides =
    list_any_at hides_filter (slice_split (λ b. (semicolons && b == 59) || (urls && b == 63)) text) number [] inside hides

-- where some part hides the filter, an option other than the filter is disguised
other-disguised : (semicolons urls system : Bool) (text : List ℕ) → part_hides semicolons (urls && system) text ≡ true
    → (part_hides false false text || part_hides true false text || (system && (part_hides false true text || part_hides true true text))) ≡ true
other-disguised true false system text some = or_left _ _ (or_right (part_hides false false text) _ some)
other-disguised false false system text some = or_left _ _ (or_left (part_hides false false text) _ some)
other-disguised true true true text some = or_right (part_hides false false text || part_hides true false text) _ (or_right (part_hides false true text) _ some)
other-disguised false true true text some = or_right (part_hides false false text || part_hides true false text) _ (or_left (part_hides false true text) _ some)
other-disguised true true false text some = or_left _ _ (or_right (part_hides false false text) _ some)
other-disguised false true false text some = or_left _ _ (or_left (part_hides false false text) _ some)

-- a part after the first hides the filter, so one after the first `;` does
later-hides : (text : List ℕ) (number : ℕ) → suc number < length (slice_split (λ b. b == 59) text)
    → hides_filter (get_or (slice_split (λ b. b == 59) text) (suc number) []) ≡ true → list_any hides_filter (slice_split (λ b. b == 59) (after_first (λ b. b == 59) text)) ≡ true
later-hides text number inside hides = ⊎_elim
    (λ cut.
    let first = slice_split_first (λ b. b == 59) text 0 cut in
    list_any_at hides_filter (slice_split (λ b. b == 59) (after_first (λ b. b == 59) text)) number [] (omega (arith, ap length first)) (ap (λ (parts : List (List ℕ)). hides_filter (get_or parts (suc number) [])) (sym first) ∙ hides))
    (λ none. absurd (omega (arith, ap length (slice_split_none (λ b. b == 59) text (λ k d below. fails_before_first (λ b. b == 59) text k d (omega arith))))))
    (cases_lt (position_or_len (λ b. b == 59) text) (length text))

or-false : (b : Bool) → b ≡ (b || false)
or-false true = refl
or-false false = refl

pub at-semicolons : ◌≡◌ {A = ℕ → Bool} (λ b. b == 59) (λ b. (b == 59) || false)
at-semicolons = λ i b. or-false (b == 59) i

own-later : (semicolons urls : Bool) → urls ≡ false → (text : List ℕ) (number : ℕ) → suc number < length (slice_split (λ b. (semicolons && b == 59) || (urls && b == 63)) text)
    → hides_filter (get_or (slice_split (λ b. (semicolons && b == 59) || (urls && b == 63)) text) (suc number) []) ≡ true → part_hides true false (after_first (λ b. b == 59) text) ≡ true
unfolding part_hides
own-later semicolons true none text number inside hides = absurd (both_ways true none refl)
own-later false false none text number inside hides =
    let whole : length (slice_split (λ b. (false && b == 59) || (false && b == 63)) text) ≡ 1 = ap length (slice_split_none (λ b. (false && b == 59) || (false && b == 63)) text (λ k d below. refl)) in
    absurd (omega arith)
own-later true false none text number inside hides =
    subst (λ (p : ℕ → Bool). suc number < length (slice_split p text) → hides_filter (get_or (slice_split p text) (suc number) []) ≡ true → list_any hides_filter (slice_split p (after_first (λ b. b == 59) text)) ≡ true) at-semicolons (later-hides text number) inside hides

-- Queries.

pub own-disguised : (piece : List ℕ) → is_filter piece ≡ true → is_disguised piece ≡ part_hides true false (after_first (λ b. b == 59) (open_text piece))
own-disguised piece own = cond-true (is_filter piece) _ _ own

pub other-is_disguised : (piece : List ℕ) → is_filter piece ≡ false
    → is_disguised piece ≡ (part_hides false false (open_text piece) || part_hides true false (open_text piece) || (is_system_option piece && (part_hides false true (open_text piece) || part_hides true true (open_text piece))))
other-is_disguised piece other = cond-false (is_filter piece) _ _ other

-- a reader of the family finds a filter only where the one that is found begins
pub no_other : (query : List ℕ) (found : Option FoundModel) (reader : Reader) (option part : ℕ) → IsFoundIn query found → IsReader reader → FindsFilter reader query option part
    → (part ≡ 0) × (found ≡ Some (found_in (get_or (options_of query) option []) (option_start (options_of query) option)))
no_other query found reader option part asked is finds = by (is_filter piece) refl
  where
    piece : List ℕ
    piece = get_or (options_of query) option []

    hides : hides_filter (get_or (parts_for reader piece) part []) ≡ true
    hides = taken-hides reader (get_or (parts_for reader piece) part []) is finds.takes

    clear : is_disguised piece ≡ false
    clear = (asked.clear.clear option [] finds.option_within).undisguised

    no_urls : is_filter piece ≡ true → (reader.urls && is_system_option piece) ≡ false
    no_urls own = and_right reader.urls (is_system_option piece) (ap (λ (b : Bool). not b && (is_reserved (decoded_name piece) || is_refused_word (decoded_name piece))) own)

    first : is_filter piece ≡ true → (n : ℕ) → n < length (parts_for reader piece) → hides_filter (get_or (parts_for reader piece) n []) ≡ true → n ≡ 0
    first own zero inside shows = refl
    first own (suc n) inside shows = absurd (both_ways (is_disguised piece) clear (own-disguised piece own ∙ own-later reader.semicolons (reader.urls && is_system_option piece) (no_urls own) (open_text piece) n inside shows))

    by : (b : Bool) → is_filter piece ≡ b → (part ≡ 0) × (found ≡ Some (found_in piece (option_start (options_of query) option)))
    by true own = (
      first own part finds.part_within hides,
      one_found query found (Some (found_in piece (option_start (options_of query) option))) asked (record { clear = asked.clear; has = (option, record { within = finds.option_within; filter = own; gives = refl }) }),
    )
    by false other = absurd (both_ways (is_disguised piece) clear (other-is_disguised piece other ∙ other-disguised reader.semicolons reader.urls (is_system_option piece) (open_text piece) (some-hides reader.semicolons (reader.urls && is_system_option piece) (open_text piece) part finds.part_within hides)))
