-- Each disguise is a filter for some reader of the family.
use Rattle.std.specs.List.{after_first, before_first, filter, position_or_len, slice_split}
use Rattle.std.proofs.lemmas.Bool.{and_parts, and_right, both_ways, or_cases, or_from}
use Rattle.std.specs.Str.{chars, is_utf8}
use Rattle.std.proofs.lemmas.List.{drop_all}
use Rattle.std.proofs.lemmas.Str.{chars-nil}
use Rattle.std.proofs.lemmas.List.Folds.{Any-from_list_any}
use Rattle.std.proofs.lemmas.List.Splits.{slice_split_first}
use Rattle.odata_queries.proofs.Common.{◌≡◌, ◌⊎◌, inl, inr, ⊎_elim, ℕ, ◌+◌, ◌<◌, ◌≤◌, ◌==◌, ◌||◌, ◌&&◌, Bool, true, false, not, List, [], ◌∷◌, zero, suc, length, get_or, get_or_default, arith, refl, sym, ◌∙◌, ap, subst, cases_lt, is_filter, list_all, options_of}
use Rattle.odata_queries.specs.Query.{is_filter_name, name_of}
use Rattle.odata_queries.specs.Disguise.{has_filter_word, hides_filter, is_disguised, is_silent, is_system_option, open_text, part_hides, shows_filter, words_of}
use Rattle.odata_queries.specs.Readers.{FindsFilter, IsReader, Reader, TakesForFilter}
use Rattle.odata_queries.proofs.readers.Found.{at-semicolons, other-is_disguised, own-disguised}
use Rattle.odata_queries.proofs.readers.Read.{hidden-taken, reader-of}
use Rattle.odata_queries.proofs.readers.Skips.{escape-free}

-- some reader of the family finds a filter in this part
abbrev IsRead : List ℕ → ℕ → ℕ → Type 0
IsRead query option part = (reader : Reader) × IsReader reader × FindsFilter reader query option part

-- the parts of an option for a reader that splits so
abbrev parts : Bool → Bool → List ℕ → List (List ℕ)
parts semicolons urls text = slice_split (λ b. (semicolons && b == 59) || (urls && b == 63)) text

read-part : (semicolons urls second : Bool) (query : List ℕ) (option part : ℕ) → option < length (options_of query) → (urls && is_system_option (get_or (options_of query) option [])) ≡ second
    → part < length (parts semicolons second (open_text (get_or (options_of query) option []))) → hides_filter (get_or (parts semicolons second (open_text (get_or (options_of query) option []))) part []) ≡ true → IsRead query option part
read-part semicolons urls second query option part within same inside hides =
    let text : List ℕ = open_text (get_or (options_of query) option []) in
    let taken = hidden-taken semicolons urls (get_or (parts semicolons second text) part []) hides in
    let reader : Reader = reader-of semicolons urls taken.0 taken.1 taken.2 in (
      reader,
      record { times = taken.3; apart = λ c marks. marks },
      record {
        option_within = within;
        part_within = subst (λ (b : Bool). part < length (parts semicolons b text)) (sym same) inside;
        takes = subst (λ (b : Bool). TakesForFilter reader (get_or (parts semicolons b text) part [])) (sym same) taken.4;
      },
    )

-- a part that hides the filter, by its number
some-part : (semicolons urls : Bool) (text : List ℕ) → part_hides semicolons urls text ≡ true → (part : ℕ) × (part < length (parts semicolons urls text)) × (hides_filter (get_or (parts semicolons urls text) part []) ≡ true)
unfolding part_hides
some-part semicolons urls text some =
    let any = Any-from_list_any hides_filter (parts semicolons urls text) some in
    (any.0, any.2, ap hides_filter (get_or_default (parts semicolons urls text) any.0 [] any.1 any.2 ∙ any.3) ∙ any.4)

other-read : (query : List ℕ) (option : ℕ) → option < length (options_of query) → (semicolons urls second : Bool) → (urls && is_system_option (get_or (options_of query) option [])) ≡ second
    → part_hides semicolons second (open_text (get_or (options_of query) option [])) ≡ true → (part : ℕ) × IsRead query option part
other-read query option within semicolons urls second same some =
    let part = some-part semicolons second (open_text (get_or (options_of query) option [])) some in
    (part.0, read-part semicolons urls second query option part.0 within same part.1 part.2)

-- nothing hides no filter
empty-name : name_of [] ≡ []
unfolding name_of
empty-name = refl

empty-word : has_filter_word [] ≡ false
unfolding has_filter_word words_of name_of is_filter_name
empty-word = refl

empty-shows : shows_filter [] ≡ false
unfolding shows_filter
empty-shows = and_right (is_utf8 []) (has_filter_word (chars []) || has_filter_word (filter (λ c. not (is_silent c)) (chars []))) (or_from (has_filter_word (chars [])) (has_filter_word (filter (λ c. not (is_silent c)) (chars [])))
    (ap has_filter_word chars-nil ∙ empty-word)
    (ap (λ (cs : List ℕ). has_filter_word (filter (λ c. not (is_silent c)) cs)) chars-nil ∙ empty-word))

nothing-hides : hides_filter [] ≡ false
nothing-hides = sym (escape-free [] (ap (list_all (λ b. not (b == 37))) empty-name)) ∙ ap shows_filter empty-name ∙ empty-shows

-- a part after the first `;` is a later part
own-part : (text : List ℕ) → part_hides true false (after_first (λ b. b == 59) text) ≡ true → (part : ℕ) × (suc part < length (parts true false text)) × (hides_filter (get_or (parts true false text) (suc part) []) ≡ true)
own-part text some =
    let part = some-part true false (after_first (λ b. b == 59) text) some in
    by (cases_lt (position_or_len (λ b. b == 59) text) (length text)) part.0 part.1 part.2
  where
    by : (position_or_len (λ b. b == 59) text < length text) ⊎ (length text ≤ position_or_len (λ b. b == 59) text) → (n : ℕ) → n < length (parts true false (after_first (λ b. b == 59) text))
        → hides_filter (get_or (parts true false (after_first (λ b. b == 59) text)) n []) ≡ true → (part : ℕ) × (suc part < length (parts true false text)) × (hides_filter (get_or (parts true false text) (suc part) []) ≡ true)
    by (inl cut) n inside hides =
        let first : parts true false text ≡ before_first (λ b. b == 59) text ∷ parts true false (after_first (λ b. b == 59) text) =
        subst (λ (p : ℕ → Bool). slice_split p text ≡ before_first (λ b. b == 59) text ∷ slice_split p (after_first (λ b. b == 59) text)) at-semicolons (slice_split_first (λ b. b == 59) text 0 cut) in
        (n, omega (arith, ap length first), ap (λ (xs : List (List ℕ)). hides_filter (get_or xs (suc n) [])) first ∙ hides)
    by (inr whole) n inside hides =
        let empty : after_first (λ b. b == 59) text ≡ [] = drop_all (position_or_len (λ b. b == 59) text + 1) text (omega arith) in
        absurd (none n (subst (λ (xs : List ℕ). n < length (parts true false xs)) empty inside) (ap (λ (xs : List ℕ). hides_filter (get_or (parts true false xs) n [])) (sym empty) ∙ hides))
      where
        none : (n : ℕ) → n < length (parts true false []) → hides_filter (get_or (parts true false []) n []) ≡ true → ⊥
        none zero inside hides = both_ways (hides_filter []) nothing-hides hides
        none (suc n) inside hides = absurd (omega arith)

-- what is disguised, some reader of the family finds, elsewhere than plainly there
pub disguised_read : (query : List ℕ) (option : ℕ) → option < length (options_of query) → is_disguised (get_or (options_of query) option []) ≡ true
    → (reader : Reader) × (part : ℕ) × IsReader reader × FindsFilter reader query option part × (is_filter (get_or (options_of query) option []) ≡ true → 0 < part)
disguised_read query option within disguised = by (is_filter piece) refl
  where
    piece : List ℕ
    piece = get_or (options_of query) option []

    text : List ℕ
    text = open_text piece

    apart : is_filter piece ≡ false → (part : ℕ) × IsRead query option part → (reader : Reader) × (part : ℕ) × IsReader reader × FindsFilter reader query option part × (is_filter piece ≡ true → 0 < part)
    apart other (part, read) = (read.0, part, read.1, read.2, λ own. absurd (both_ways (is_filter piece) other own))

    by : (b : Bool) → is_filter piece ≡ b → (reader : Reader) × (part : ℕ) × IsReader reader × FindsFilter reader query option part × (is_filter piece ≡ true → 0 < part)
    by true own =
        let part = own-part text (sym (own-disguised piece own) ∙ disguised) in
        let read = read-part true false false query option (suc part.0) within refl part.1 part.2 in
        (read.0, suc part.0, read.1, read.2, λ is. omega arith)
    by false other = apart other (⊎_elim
        (λ plain. ⊎_elim (other-read query option within false false false refl) (other-read query option within true false false refl) (or_cases (part_hides false false text) (part_hides true false text) plain))
        (λ urls.
        let parts_of = and_parts (is_system_option piece) _ urls in
        ⊎_elim (other-read query option within false true true parts_of.0) (other-read query option within true true true parts_of.0) (or_cases (part_hides false true text) (part_hides true true text) parts_of.1))
        (or_cases (part_hides false false text || part_hides true false text) (is_system_option piece && (part_hides false true text || part_hides true true text)) (sym (other-is_disguised piece other) ∙ disguised)))
