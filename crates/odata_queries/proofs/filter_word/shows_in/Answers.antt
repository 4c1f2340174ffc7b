use Rattle.std.specs.List.{filter, list_any}
use Rattle.std.specs.Str.{chars}
use Rattle.std.proofs.lemmas.Bool.{or_left}
use Rattle.odata_queries.proofs.Common.{◌≡◌, ◌∙◌, ◌==◌, ◌||◌, Bool, true, false, not, List, ℕ, map, ap, sym, is_filter_name, list_all, name_of}
use Rattle.odata_queries.specs.Disguise.{bare, has_filter_word, is_silent, seen, words_of}
use Rattle.odata_queries.proofs.readers.Skips.{none-at, silent-free}
use Rattle.odata_queries.proofs.filter_word.shows_in.Goals as goal

abbrev audible : List ℕ → List ℕ
audible characters = filter (λ c. not (is_silent c)) characters

-- the words that were searched are those of the characters, as bytes
searched : (found : Bool) (bytes items characters : List ℕ) → bytes ≡ items → items ≡ map seen characters → found ≡ list_any (λ word. is_filter_name (bare (name_of word))) (words_of bytes) → found ≡ has_filter_word characters
unfolding has_filter_word
searched found bytes items characters same is has = has ∙ ap (λ (bs : List ℕ). list_any (λ word. is_filter_name (bare (name_of word))) (words_of bs)) (same ∙ is)

found-all : (found : Bool) (characters : List ℕ) → found ≡ has_filter_word characters → found ≡ true → true ≡ (has_filter_word characters || has_filter_word (audible characters))
found-all found characters has is = sym (or_left (has_filter_word characters) (has_filter_word (audible characters)) (sym has ∙ is))

found-none : (found : Bool) (bytes characters : List ℕ) → found ≡ has_filter_word characters → found ≡ false → bytes ≡ map seen characters → list_all (λ b. not (b == 0)) bytes ≡ true → false ≡ (has_filter_word characters || has_filter_word (audible characters))
found-none found bytes characters has is same none = sym is ∙ has ∙ silent-free characters (sym (ap (list_all (λ b. not (b == 0))) same) ∙ none)

found-audible : (first found : Bool) (characters : List ℕ) → first ≡ has_filter_word characters → first ≡ false → found ≡ has_filter_word (audible characters) → found ≡ (has_filter_word characters || has_filter_word (audible characters))
found-audible first found characters has is other = other ∙ ap (λ (b : Bool). b || has_filter_word (audible characters)) (sym is ∙ has)

pub returns-then-has_filter_word : goal.returns-then-has_filter_word
returns-then-has_filter_word c =
    found-all _ (chars c.args.text.now) (searched _ _ _ _ c.as_slice-bytes.ensures.value c.in_ok-all.ensures c.has_filter_word.ensures) c.if-has_filter_word.true

pub returns-then-not-has_byte : goal.returns-then-not-has_byte
returns-then-not-has_byte c =
    found-none _ c.as_slice-bytes.result.now (chars c.args.text.now) (searched _ _ _ _ c.as_slice-bytes.ensures.value c.in_ok-all.ensures c.has_filter_word.ensures) c.if-has_filter_word.false
    (c.as_slice-bytes.ensures.value ∙ c.in_ok-all.ensures) (none-at 0 c.as_slice-bytes.result.now (sym c.has_byte.ensures ∙ c.if-not-has_byte.true))

pub returns : goal.returns
returns c =
    found-audible _ _ (chars c.args.text.now) (searched _ _ _ _ c.as_slice-bytes.ensures.value c.in_ok-all.ensures c.has_filter_word.ensures) c.if-has_filter_word.false
    (searched _ _ _ (audible (chars c.args.text.now)) c.as_slice.ensures.value c.in_ok-audible.ensures c.has_filter_word-shows.ensures)
