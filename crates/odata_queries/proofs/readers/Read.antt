-- What is disguised, some reader of the family takes for a filter.
use Rattle.std.specs.Char.{is_ascii_whitespace}
use Rattle.std.specs.List.{before_first, filter, list_any, onto_first, position_or_len, prefix_len, slice_split, suffix_len}
use Rattle.std.specs.Prelude.{nat_lt, reverse}
use Rattle.std.specs.Str.{chars, is_utf8}
use Rattle.std.proofs.lemmas.Bool.{and_from, and_parts, both_ways, cond-false, cond-true, eqb-true, or_cases, or_left, or_right}
use Rattle.std.proofs.lemmas.Bool.Decides.{nat_tests}
use Rattle.std.proofs.lemmas.List.{get_or-drop, get_or-reverse, length-reverse, take-append-drop, take_all}
use Rattle.std.proofs.lemmas.List.Sums.{AllPass-from_list_all, list_all-from_AllPass, passes_at_first, prefix_len-le-length, prefix_len_passes, split_at_first}
use Rattle.odata_queries.proofs.Common.{◌≡◌, ◌⊎◌, inl, inr, ⊎_elim, ℕ, ◌+◌, ◌<◌, ◌≤◌, ◌-◌, ◌==◌, ◌||◌, ◌&&◌, Bool, true, false, not, cond, List, [], ◌∷◌, ◌++◌, suc, length, length-drop, map, take, drop, get_or, append_assoc, append-nil, arith, refl, sym, ◌∙◌, ap, subst, agree_below, agree_below_at, cases_lt, list_all, is_filter_name, name_of}
use Rattle.odata_queries.specs.Disguise.{bare, decoded_once, has_filter_word, hides_filter, is_back, is_front, is_mark, is_silent, seen, shows_decoded, shows_filter, words_of}
use Rattle.odata_queries.specs.Readers.{BeginsWord, EndsWord, Reader, StandsIn, TakesForFilter, characters_for, decoded_by}
use Rattle.odata_queries.proofs.readers.Cuts.{first-part}
use Rattle.odata_queries.proofs.readers.Words.{equals, mark, opening, plain, plain-name}

-- Parts of a list.

abbrev Ends : (ℕ → Bool) → List ℕ → Type 0
Ends p after = (after ≡ []) ⊎ ((c : ℕ) × (rest : List ℕ) × (after ≡ c ∷ rest) × (p c ≡ true))

abbrev Begins : (ℕ → Bool) → List ℕ → Type 0
Begins p before = (before ≡ []) ⊎ ((rest : List ℕ) × (c : ℕ) × (before ≡ rest ++ c ∷ []) × (p c ≡ true))

-- a list goes on from what stands before its first element that passes
first-stands : (p : ℕ → Bool) (xs : List ℕ) → (after : List ℕ) × (xs ≡ before_first p xs ++ after) × Ends p after
first-stands p xs = ⊎_elim
    (λ inside. (get_or xs (position_or_len p xs) 0 ∷ drop (position_or_len p xs + 1) xs, split_at_first p xs 0 inside, inr (get_or xs (position_or_len p xs) 0, drop (position_or_len p xs + 1) xs, refl, passes_at_first p xs 0 inside)))
    (λ whole. ([], sym (append-nil (before_first p xs) ∙ take_all (position_or_len p xs) xs whole), inl refl))
    (cases_lt (position_or_len p xs) (length xs))

-- where q holds of a part after the first, it stands after an element at which the list is cut
abbrev LaterPart : (ℕ → Bool) → (List ℕ → Bool) → List ℕ → Type 0
LaterPart p q xs = (rest : List ℕ) × (c : ℕ) × (word : List ℕ) × (after : List ℕ) × (xs ≡ (rest ++ c ∷ []) ++ (word ++ after)) × (p c ≡ true) × Ends p after × (q word ≡ true)

longer : (p : ℕ → Bool) (q : List ℕ → Bool) (x : ℕ) (xs : List ℕ) → LaterPart p q xs → LaterPart p q (x ∷ xs)
longer p q x xs (rest, c, word, after, is, cuts, ends, holds) = (x ∷ rest, c, word, after, ap (λ (l : List ℕ). x ∷ l) is, cuts, ends, holds)

some-part : (p : ℕ → Bool) (q : List ℕ → Bool) (xs : List ℕ) → list_any q (slice_split p xs) ≡ true → (q (before_first p xs) ≡ true) ⊎ (list_any q (drop 1 (slice_split p xs)) ≡ true)
some-part p q xs some =
    let first = first-part p xs in
    ⊎_elim (λ own. inl own) (λ others. inr (ap (λ (parts : List (List ℕ)). list_any q (drop 1 parts)) first.1 ∙ others))
    (or_cases (q (before_first p xs)) (list_any q first.0) (sym (ap (list_any q) first.1) ∙ some))

later-stands : (p : ℕ → Bool) (q : List ℕ → Bool) (xs : List ℕ) → list_any q (drop 1 (slice_split p xs)) ≡ true → LaterPart p q xs
later-stands p q [] some = absurd (both_ways _ refl some)
later-stands p q (x ∷ xs) some = by (p x) refl (later-stands p q xs)
  where
    by : (b : Bool) → p x ≡ b → (list_any q (drop 1 (slice_split p xs)) ≡ true → LaterPart p q xs) → LaterPart p q (x ∷ xs)
    by true cuts further =
        let cut = sym (ap (λ b. list_any q (drop 1 (cond b ([] ∷ slice_split p xs) (onto_first x (slice_split p xs))))) cuts) ∙ some in
        ⊎_elim
        (λ own. let first = first-stands p xs in ([], x, before_first p xs, first.0, ap (λ (l : List ℕ). x ∷ l) first.1, cuts, first.2, own))
        (λ others. longer p q x xs (further others))
        (some-part p q xs cut)
    by false goes further =
        let first = first-part p xs in
        let cut = sym (ap (λ b. list_any q (drop 1 (cond b ([] ∷ slice_split p xs) (onto_first x (slice_split p xs))))) goes) ∙ some in
        longer p q x xs (further (ap (λ (parts : List (List ℕ)). list_any q (drop 1 parts)) first.1 ∙ sym (ap (λ (parts : List (List ℕ)). list_any q (drop 1 (onto_first x parts))) first.1) ∙ cut))

-- where q holds of a part, it stands between such elements or the ends
part-stands : (p : ℕ → Bool) (q : List ℕ → Bool) (xs : List ℕ) → list_any q (slice_split p xs) ≡ true
    → (before : List ℕ) × (word : List ℕ) × (after : List ℕ) × (xs ≡ before ++ (word ++ after)) × Begins p before × Ends p after × (q word ≡ true)
part-stands p q xs some = ⊎_elim
    (λ own. let first = first-stands p xs in ([], before_first p xs, first.0, first.1, inl refl, first.2, own))
    (λ others. let part = later-stands p q xs others in (part.0 ++ part.1 ∷ [], part.2, part.3, part.4, inr (part.0, part.1, refl, part.5), part.6, part.7))
    (some-part p q xs some)

-- a front that passes, and all of it
all-prefix : (p : ℕ → Bool) (xs : List ℕ) → list_all p (take (prefix_len p xs) xs) ≡ true
all-prefix p [] = refl
all-prefix p (x ∷ xs) = by (p x) refl (all-prefix p xs)
  where
    by : (b : Bool) → p x ≡ b → list_all p (take (prefix_len p xs) xs) ≡ true → list_all p (take (cond (p x) (1 + prefix_len p xs) 0) (x ∷ xs)) ≡ true
    by false stops rest = ap (λ b. list_all p (take (cond {A = ℕ} b (1 + prefix_len p xs) 0) (x ∷ xs))) stops
    by true goes rest =
        let more : 1 + prefix_len p xs ≡ suc (prefix_len p xs) = omega arith in
        ap (λ b. list_all p (take (cond {A = ℕ} b (1 + prefix_len p xs) 0) (x ∷ xs))) goes ∙ ap (λ n. list_all p (take n (x ∷ xs))) more ∙ and_from (p x) _ goes rest

-- a back that passes, and all of it
all-suffix : (p : ℕ → Bool) (xs : List ℕ) → list_all p (drop (length xs - suffix_len p xs) xs) ≡ true
all-suffix p xs = list_all-from_AllPass p (drop (length xs - suffix_len p xs) xs) (λ k d below.
    let long = length-reverse xs in
    let within = prefix_len-le-length p (reverse xs) in
    let left = length-drop (length xs - suffix_len p xs) xs in
    let index : length xs - 1 - (suffix_len p xs - 1 - k) ≡ length xs - suffix_len p xs + k = omega arith in
    ap p (get_or-drop (length xs - suffix_len p xs) xs k d)
    ∙ ap (λ n. p (get_or xs n d)) (sym index)
    ∙ sym (ap p (get_or-reverse xs (suffix_len p xs - 1 - k) d (omega arith)))
    ∙ prefix_len_passes p (reverse xs) (suffix_len p xs - 1 - k) d (omega arith))

-- a name between what is taken off
bare-stands : (name : List ℕ) → (front : List ℕ) × (back : List ℕ) × (name ≡ front ++ (bare name ++ back)) × (list_all opening front ≡ true) × (list_all is_ascii_whitespace back ≡ true)
bare-stands name =
    let rest : List ℕ = drop (prefix_len opening name) name in
    let kept : ℕ = length rest - suffix_len is_ascii_whitespace rest in (
      take (prefix_len opening name) name,
      drop kept rest,
      sym (take-append-drop (prefix_len opening name) name) ∙ ap (λ (l : List ℕ). take (prefix_len opening name) name ++ l) (sym (take-append-drop kept rest)),
      all-prefix opening name,
      all-suffix is_ascii_whitespace rest,
    )

-- Characters behind bytes.

map-parts : (xs ys zs : List ℕ) → map seen xs ≡ ys ++ zs → (us : List ℕ) × (vs : List ℕ) × (xs ≡ us ++ vs) × (map seen us ≡ ys) × (map seen vs ≡ zs)
map-parts xs [] zs same = ([], xs, refl, refl, same)
map-parts [] (y ∷ ys) zs same = absurd (omega (arith, ap length same))
map-parts (x ∷ xs) (y ∷ ys) zs same =
    let rest = map-parts xs ys zs (ap (drop 1) same) in (
      x ∷ rest.0,
      rest.1,
      ap (λ (l : List ℕ). x ∷ l) rest.2,
      (λ i. ap (λ (l : List ℕ). get_or l 0 0) same i ∷ rest.3 i),
      rest.4,
    )

-- what is said of a byte, of its character
from-seen : (q r : ℕ → Bool) → agree_below (λ c. not (q (seen c)) || r c) (λ c. true) 128 ≡ true → ((c : ℕ) → is_silent c ≡ true → q 0 ≡ true → r c ≡ true) → ((c : ℕ) → is_back c ≡ true → q 32 ≡ true → r c ≡ true) → q 128 ≡ false → (c : ℕ) → q (seen c) ≡ true → r c ≡ true
from-seen q r near silent back far c holds = ⊎_elim
    (λ below. implied _ _ (agree_below_at (λ x. not (q (seen x)) || r x) (λ x. true) 128 c near below) holds)
    (λ beyond. by (is_silent c) refl (is_back c) refl beyond)
    (cases_lt c 128)
  where
    implied : (a b : Bool) → (not a || b) ≡ true → a ≡ true → b ≡ true
    implied true b e yields = e
    implied false b e yields = absurd (both_ways _ refl yields)

    by : (s : Bool) → is_silent c ≡ s → (b : Bool) → is_back c ≡ b → 128 ≤ c → r c ≡ true
    by true quiet b is beyond = silent c quiet (sym (ap q (cond-true (is_silent c) 0 _ quiet)) ∙ holds)
    by false loud true off beyond = back c off (sym (ap q (cond-false (is_silent c) 0 _ loud ∙ cond-true (is_back c) 32 _ off)) ∙ holds)
    by false loud false keeps beyond =
        let past : nat_lt c 128 ≡ false = grind (arith, nat_tests) in
        absurd (both_ways (q 128) far (sym (ap q (cond-false (is_silent c) 0 _ loud ∙ cond-false (is_back c) 32 _ keeps ∙ cond-false (nat_lt c 128) c 128 past)) ∙ holds))

all-from-seen : (q r : ℕ → Bool) → ((c : ℕ) → q (seen c) ≡ true → r c ≡ true) → (xs : List ℕ) → list_all q (map seen xs) ≡ true → list_all r xs ≡ true
all-from-seen q r more [] all = refl
all-from-seen q r more (x ∷ xs) all =
    let parts = and_parts (q (seen x)) (list_all q (map seen xs)) all in
    and_from (r x) (list_all r xs) (more x parts.0) (all-from-seen q r more xs parts.1)

front-seen : (c : ℕ) → opening (seen c) ≡ true → is_front c ≡ true
front-seen = from-seen opening is_front refl (λ c silent opens. absurd (both_ways _ refl opens)) (λ c back space. or_left (is_back c) (c == 91) back) refl

back-seen : (c : ℕ) → is_ascii_whitespace (seen c) ≡ true → is_back c ≡ true
back-seen = from-seen is_ascii_whitespace is_back refl (λ c silent space. absurd (both_ways _ refl space)) (λ c back space. back) refl

mark-seen : (c : ℕ) → mark (seen c) ≡ true → is_mark c ≡ true
mark-seen = from-seen mark is_mark refl (λ c silent marks. or_left _ _ (or_left _ _ (or_left (is_silent c) (c == 59) silent))) (λ c back marks. absurd (both_ways _ refl marks)) refl

equals-seen : (c : ℕ) → equals (seen c) ≡ true → equals c ≡ true
equals-seen = from-seen equals equals refl (λ c silent equal. absurd (both_ways _ refl equal)) (λ c back equal. absurd (both_ways _ refl equal)) refl

same-seen : (c : ℕ) → plain (seen c) ≡ true → (seen c == c) ≡ true
same-seen = from-seen plain (λ c. seen c == c) refl (λ c silent own. absurd (both_ways _ refl own)) (λ c back own. absurd (both_ways _ refl own)) refl

own-name : (xs : List ℕ) → list_all plain (map seen xs) ≡ true → map seen xs ≡ xs
own-name [] all = refl
own-name (x ∷ xs) all =
    let parts = and_parts (plain (seen x)) (list_all plain (map seen xs)) all in
    (λ i. eqb-true (seen x) x (same-seen x parts.0) i ∷ own-name xs parts.1 i)

single : (m : ℕ) (xs : List ℕ) → map seen xs ≡ m ∷ [] → (c : ℕ) × (xs ≡ c ∷ []) × (seen c ≡ m)
single m [] same = absurd (omega (arith, ap length same))
single m (c ∷ []) same = (c, refl, ap (λ (l : List ℕ). get_or l 0 0) same)
single m (c ∷ d ∷ xs) same = absurd (omega (arith, ap length same))

none : (xs : List ℕ) → map seen xs ≡ [] → xs ≡ []
none [] same = refl
none (x ∷ xs) same = absurd (omega (arith, ap length same))

first-of : (m : ℕ) (rest xs : List ℕ) → map seen xs ≡ m ∷ rest → (c : ℕ) × (others : List ℕ) × (xs ≡ c ∷ others) × (seen c ≡ m)
first-of m rest [] same = absurd (omega (arith, ap length same))
first-of m rest (c ∷ xs) same = (c, xs, refl, ap (λ (l : List ℕ). get_or l 0 0) same)

begins-word : (before xs : List ℕ) → map seen xs ≡ before → Begins mark before → BeginsWord is_mark xs
begins-word before xs same (inl empty) = inl (none xs (same ∙ empty))
begins-word before xs same (inr (rest, m, is, marks)) =
    let parts = map-parts xs rest (m ∷ []) (same ∙ is) in
    let last = single m parts.1 parts.4 in
    inr (parts.0, last.0, parts.2 ∙ ap (λ (l : List ℕ). parts.0 ++ l) last.1, mark-seen last.0 (ap mark last.2 ∙ marks))

ends-word : (rest after xs : List ℕ) → map seen xs ≡ rest ++ after → Ends equals rest → Ends mark after → EndsWord is_mark xs
ends-word rest after xs same (inr (m, others, is, equal)) marked =
    let first = first-of m (others ++ after) xs (same ∙ ap (λ (l : List ℕ). l ++ after) is) in
    inr (first.0, first.1, first.2, or_right (is_mark first.0) (first.0 == 61) (equals-seen first.0 (ap equals first.3 ∙ equal)))
ends-word rest after xs same (inl empty) (inl last) = inl (none xs (same ∙ ap (λ (l : List ℕ). l ++ after) empty ∙ last))
ends-word rest after xs same (inl empty) (inr (m, others, is, marks)) =
    let first = first-of m others xs (same ∙ ap (λ (l : List ℕ). l ++ after) empty ∙ is) in
    inr (first.0, first.1, first.2, or_left (is_mark first.0) (first.0 == 61) (mark-seen first.0 (ap mark first.3 ∙ marks)))

-- Words.

abbrev Standing : List ℕ → Type 0
Standing characters = (name : List ℕ) × (is_filter_name name ≡ true) × StandsIn is_mark characters name

regrouped : (before front name back rest after : List ℕ) → before ++ (((front ++ (name ++ back)) ++ rest) ++ after) ≡ before ++ (front ++ (name ++ (back ++ (rest ++ after))))
regrouped before front name back rest after = ap (λ (l : List ℕ). before ++ l) (
    append_assoc (front ++ (name ++ back)) rest after
    ∙ append_assoc front (name ++ back) (rest ++ after)
    ∙ ap (λ (l : List ℕ). front ++ l) (append_assoc name back (rest ++ after)))

-- a word of the bytes is one of the characters
word-stands : (characters before word after : List ℕ) → map seen characters ≡ before ++ (word ++ after) → Begins mark before → Ends mark after → is_filter_name (bare (name_of word)) ≡ true → Standing characters
unfolding name_of
word-stands characters before word after whole begins ends is =
    let name : List ℕ = bare (name_of word) in
    let named = first-stands equals word in
    let own = bare-stands (name_of word) in
    let bytes : map seen characters ≡ before ++ (own.0 ++ (name ++ (own.1 ++ (named.0 ++ after)))) =
    whole ∙ ap (λ (l : List ℕ). before ++ (l ++ after)) (named.1 ∙ ap (λ (l : List ℕ). l ++ named.0) own.2) ∙ regrouped before own.0 name own.1 named.0 after in
    let one = map-parts characters before (own.0 ++ (name ++ (own.1 ++ (named.0 ++ after)))) bytes in
    let two = map-parts one.1 own.0 (name ++ (own.1 ++ (named.0 ++ after))) one.4 in
    let three = map-parts two.1 name (own.1 ++ (named.0 ++ after)) two.4 in
    let four = map-parts three.1 own.1 (named.0 ++ after) three.4 in
    let same : three.0 ≡ name = sym (own-name three.0 (ap (list_all plain) three.3 ∙ plain-name name is)) ∙ three.3 in (
      three.0,
      ap is_filter_name same ∙ is,
      record {
        before = one.0;
        front = two.0;
        back = four.0;
        after = four.1;
        whole = one.2 ∙ ap (λ (l : List ℕ). one.0 ++ l) (two.2 ∙ ap (λ (l : List ℕ). two.0 ++ l) (three.2 ∙ ap (λ (l : List ℕ). three.0 ++ l) four.2));
        begins = begins-word before one.0 one.3 begins;
        in_front = all-from-seen opening is_front front-seen two.0 (ap (list_all opening) two.3 ∙ own.3);
        in_back = all-from-seen is_ascii_whitespace is_back back-seen four.0 (ap (list_all is_ascii_whitespace) four.3 ∙ own.4);
        ends = ends-word named.0 after four.1 four.4 named.2 ends;
      },
    )

found-stands : (characters : List ℕ) → has_filter_word characters ≡ true → Standing characters
unfolding has_filter_word words_of
found-stands characters found =
    let part = part-stands mark (λ word. is_filter_name (bare (name_of word))) (map seen characters) found in
    word-stands characters part.0 part.1 part.2 part.3 part.4 part.5 part.6

-- Readers.

-- a reader of the family, by its choices
abbrev pub reader-of : Bool → Bool → ℕ → Bool → Bool → Reader
reader-of semicolons urls times long passes = record { semicolons = semicolons; urls = urls; times = times; long = long; passes = passes; apart = is_mark }

abbrev Shown : List ℕ → Type 0
Shown text = (passes : Bool) × Standing (cond passes (filter (λ c. not (is_silent c)) (chars text)) (chars text))

text-stands : (text : List ℕ) → shows_filter text ≡ true → (is_utf8 text ≡ true) × (Shown text)
unfolding shows_filter
text-stands text shows =
    let parts = and_parts (is_utf8 text) (has_filter_word (chars text) || has_filter_word (filter (λ c. not (is_silent c)) (chars text))) shows in
    let shown : Shown text = ⊎_elim
    (λ all. (false, found-stands (chars text) all))
    (λ audible. (true, found-stands (filter (λ c. not (is_silent c)) (chars text)) audible))
    (or_cases (has_filter_word (chars text)) (has_filter_word (filter (λ c. not (is_silent c)) (chars text))) parts.1) in
    (parts.0, shown)

-- some reader of the family that splits so takes the part for a filter
abbrev pub Taken : Bool → Bool → List ℕ → Type 0
Taken semicolons urls part = (times : ℕ) × (long : Bool) × (passes : Bool) × (times ≤ 2) × TakesForFilter (reader-of semicolons urls times long passes) part

-- what the reader takes, by the text that it decodes
taken : (reader : Reader) (part text : List ℕ) (passes : Bool) → reader.apart ≡ is_mark → reader.passes ≡ passes → decoded_by reader (name_of part) ≡ text → is_utf8 text ≡ true
    → Standing (cond passes (filter (λ c. not (is_silent c)) (chars text)) (chars text)) → TakesForFilter reader part
taken reader part text passes apart same is utf8 (name, named, stands) = record {
  text = ap is_utf8 is ∙ utf8;
  name = name;
  filter = named;
  stands = subst (λ (p : ℕ → Bool). StandsIn p (characters_for reader (decoded_by reader (name_of part))) name) (sym apart)
      (subst (λ (t : List ℕ). StandsIn is_mark (characters_for reader t) name) (sym is)
      (subst (λ (b : Bool). StandsIn is_mark (cond b (filter (λ c. not (is_silent c)) (chars text)) (chars text)) name) (sym same) stands));
}

as-it-stands : (semicolons urls : Bool) (part : List ℕ) → shows_filter (name_of part) ≡ true → Taken semicolons urls part
as-it-stands semicolons urls part shows =
    let read = text-stands (name_of part) shows in
    let shown = read.1 in
    (0, false, shown.0, omega arith, taken (reader-of semicolons urls 0 false shown.0) part (name_of part) shown.0 refl refl refl read.0 shown.1)

decoded : (semicolons urls long : Bool) (part : List ℕ) → shows_decoded long (name_of part) ≡ true → Taken semicolons urls part
unfolding shows_decoded
decoded semicolons urls long part shows = ⊎_elim
    (λ once.
    let read = text-stands (decoded_once long (name_of part)) once in
    let shown = read.1 in
    (1, long, shown.0, omega arith, taken (reader-of semicolons urls 1 long shown.0) part (decoded_once long (name_of part)) shown.0 refl refl refl read.0 shown.1))
    (λ twice.
    let read = text-stands (decoded_once long (decoded_once long (name_of part))) twice in
    let shown = read.1 in
    (2, long, shown.0, omega arith, taken (reader-of semicolons urls 2 long shown.0) part (decoded_once long (decoded_once long (name_of part))) shown.0 refl refl refl read.0 shown.1))
    (or_cases (shows_filter (decoded_once long (name_of part))) (shows_filter (decoded_once long (decoded_once long (name_of part)))) shows)

pub hidden-taken : (semicolons urls : Bool) (part : List ℕ) → hides_filter part ≡ true → Taken semicolons urls part
unfolding hides_filter
hidden-taken semicolons urls part hides = ⊎_elim
    (λ short. ⊎_elim (as-it-stands semicolons urls part) (decoded semicolons urls false part) (or_cases (shows_filter (name_of part)) (shows_decoded false (name_of part)) short))
    (decoded semicolons urls true part)
    (or_cases (shows_filter (name_of part) || shows_decoded false (name_of part)) (shows_decoded true (name_of part)) hides)
