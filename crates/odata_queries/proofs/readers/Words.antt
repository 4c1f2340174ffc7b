-- A name that stands as a word for some reader is a word for the search of disguises.
use Rattle.std.specs.Char.{is_ascii_whitespace, to_ascii_lowercase}
use Rattle.std.specs.List.{before_first, list_any, suffix_len}
use Rattle.std.specs.Prelude.{codes, nat_lt}
use Rattle.std.specs.Str.{str_eq_ignore_ascii_case}
use Rattle.std.proofs.lemmas.Bool.{and_from, and_parts, both_ways, cond-false, cond-true, eqb-true, or_cases}
use Rattle.std.proofs.lemmas.List.{map-append}
use Rattle.std.proofs.lemmas.List.Folds.{list_all-append, list_all-map}
use Rattle.std.proofs.lemmas.Slice.Eq.{bytes_eq-Decides}
use Rattle.std.proofs.lemmas.Str.Ascii.{lowercase_is}
use Rattle.odata_queries.proofs.Common.{◌≡◌, ◌⊎◌, inl, inr, ⊎_elim, ℕ, ◌<◌, ◌==◌, ◌||◌, ◌&&◌, Bool, true, false, not, cond, List, [], ◌∷◌, ◌++◌, ◌-◌, take, length, map, append_assoc, append-nil, arith, refl, sym, ◌∙◌, ap, subst, agree_below_at, cases_lt, list_all, is_filter_name, name_of}
use Rattle.odata_queries.specs.Disguise.{bare, has_filter_word, is_back, is_front, is_mark, is_silent, seen, words_of}
use Rattle.odata_queries.specs.Readers.{BeginsWord, EndsWord, StandsIn}
use Rattle.odata_queries.proofs.readers.Cuts.{any-after, any-first, before-at, before-past, drop-front, take-back}

-- Bytes.

abbrev pub mark : ℕ → Bool
mark b = b == 0 || b == 59 || b == 38 || b == 63

abbrev pub equals : ℕ → Bool
equals b = b == 61

abbrev pub opening : ℕ → Bool
opening b = is_ascii_whitespace b || b == 91

-- neither a mark nor a `=`
abbrev kept : ℕ → Bool
kept b = not (mark b) && not (equals b)

-- a character of ASCII that is its own byte, and that nothing takes off
abbrev pub plain : ℕ → Bool
plain c = nat_lt c 128 && ((seen c == c) && (kept c && not (opening c)))

fails : (b : Bool) → not b ≡ true → b ≡ false
fails false e = refl
fails true e = sym e

weaker : (p q : ℕ → Bool) (xs : List ℕ) → ((x : ℕ) → p x ≡ true → q x ≡ true) → list_all p xs ≡ true → list_all q xs ≡ true
weaker p q [] more all = refl
weaker p q (x ∷ xs) more all =
    let parts = and_parts (p x) (list_all p xs) all in
    and_from (q x) (list_all q xs) (more x parts.0) (weaker p q xs more parts.1)

-- what holds of the bytes of characters
seen-all : (p q : ℕ → Bool) (xs : List ℕ) → ((x : ℕ) → p x ≡ true → q (seen x) ≡ true) → list_all p xs ≡ true → list_all q (map seen xs) ≡ true
seen-all p q xs more all = list_all-map q seen xs ∙ weaker p (λ x. q (seen x)) xs more all

-- Characters that are taken off.

seen-back : (c : ℕ) → is_back c ≡ true → seen c ≡ 32
seen-back c back =
    let loud = fails (is_silent c) (and_parts (not (is_silent c)) _ back).0 in
    cond-false (is_silent c) 0 (cond (is_back c) 32 (cond (nat_lt c 128) c 128)) loud ∙ cond-true (is_back c) 32 (cond (nat_lt c 128) c 128) back

seen-front : (c : ℕ) → is_front c ≡ true → (seen c ≡ 32) ⊎ (seen c ≡ 91)
seen-front c front = ⊎_elim (λ back. inl (seen-back c back)) (λ bracket. inr (ap seen (eqb-true c 91 bracket))) (or_cases (is_back c) (c == 91) front)

-- Names.

plain-lower : (c : ℕ) → plain (to_ascii_lowercase c) ≡ true → plain c ≡ true
plain-lower c lower = ⊎_elim
    (λ below. implied _ _ (agree_below_at (λ x. not (plain (to_ascii_lowercase x)) || plain x) (λ x. true) 128 c refl below) lower)
    (λ far. subst (λ (x : ℕ). plain x ≡ true) ((lowercase_is c).2 (omega arith)) lower)
    (cases_lt c 128)
  where
    implied : (a b : Bool) → (not a || b) ≡ true → a ≡ true → b ≡ true
    implied true b e holds = e
    implied false b e holds = absurd (both_ways _ refl holds)

plain-word : (word name : List ℕ) → list_all plain word ≡ true → map to_ascii_lowercase word ≡ word → str_eq_ignore_ascii_case name word ≡ true → list_all plain name ≡ true
plain-word word name all low same =
    let lower : map to_ascii_lowercase name ≡ word = (bytes_eq-Decides (map to_ascii_lowercase name) (map to_ascii_lowercase word)).0 same ∙ low in
    weaker (λ x. plain (to_ascii_lowercase x)) plain name plain-lower (sym (list_all-map plain to_ascii_lowercase name) ∙ ap (list_all plain) lower ∙ all)

pub plain-name : (name : List ℕ) → is_filter_name name ≡ true → list_all plain name ≡ true
unfolding is_filter_name
plain-name name is = ⊎_elim
    (plain-word (codes "filter") name refl refl)
    (plain-word (codes "$filter") name refl refl)
    (or_cases (str_eq_ignore_ascii_case name (codes "filter")) (str_eq_ignore_ascii_case name (codes "$filter")) is)

no-name : is_filter_name [] ≡ false
unfolding is_filter_name
no-name = refl

seen-plain : (name : List ℕ) → list_all plain name ≡ true → map seen name ≡ name
seen-plain [] all = refl
seen-plain (c ∷ name) all =
    let parts = and_parts (plain c) (list_all plain name) all in
    let own = and_parts (seen c == c) _ (and_parts (nat_lt c 128) _ parts.0).1 in
    ap (λ (x : ℕ). x ∷ map seen name) (eqb-true (seen c) c own.0) ∙ ap (λ (xs : List ℕ). c ∷ xs) (seen-plain name parts.1)

plain-kept : (c : ℕ) → plain c ≡ true → kept c ≡ true
plain-kept c is = (and_parts (kept c) _ (and_parts (seen c == c) _ (and_parts (nat_lt c 128) _ is).1).1).0

plain-closed : (c : ℕ) → plain c ≡ true → not (opening c) ≡ true
plain-closed c is = (and_parts (kept c) _ (and_parts (seen c == c) _ (and_parts (nat_lt c 128) _ is).1).1).1

-- Words.

neither : (a b : Bool) → not (a || b) ≡ true → not a ≡ true
neither true b e = e
neither false b e = refl

-- what is left of a name between what is taken off
bare-name : (front name back : List ℕ) → list_all opening front ≡ true → list_all plain name ≡ true → (name ≡ [] → ⊥) → list_all is_ascii_whitespace back ≡ true → bare (front ++ (name ++ back)) ≡ name
bare-name front [] back opens all some spaces = absurd (some refl)
bare-name front (c ∷ name) back opens all some spaces =
    let first = (and_parts (plain c) (list_all plain name) all).0 in
    let rest = drop-front opening front c (name ++ back) opens (fails (opening c) (plain-closed c first)) in
    let closed = weaker plain (λ x. not (is_ascii_whitespace x)) (c ∷ name) (λ x is. not-space x (plain-closed x is)) all in
    ap (λ (r : List ℕ). take (length r - suffix_len is_ascii_whitespace r) r) rest ∙ take-back is_ascii_whitespace (c ∷ name) back closed spaces
  where
    not-space : (x : ℕ) → not (opening x) ≡ true → not (is_ascii_whitespace x) ≡ true
    not-space x shut = neither (is_ascii_whitespace x) (x == 91) shut

-- nothing of what ends a word belongs to its name
after-name : (after : List ℕ) → EndsWord mark after → name_of (before_first mark after) ≡ []
unfolding name_of
after-name after (inl none) = ap (λ (xs : List ℕ). before_first equals (before_first mark xs)) none
after-name after (inr (c, rest, is, ends)) =
    ap (λ (xs : List ℕ). before_first equals (before_first mark xs)) is ∙ by (mark c) refl ends
  where
    by : (b : Bool) → mark c ≡ b → (mark c || c == 61) ≡ true → before_first equals (before_first mark (c ∷ rest)) ≡ []
    by true marks e = ap (before_first equals) (before-at mark c rest marks)
    by false marks e =
        let same : (c == 61) ≡ true = sym (ap (λ (b : Bool). b || c == 61) marks) ∙ e in
        ap (before_first equals) (before-past mark (c ∷ []) rest (and_from (not (mark c)) true (ap not marks) refl)) ∙ before-at equals c (before_first mark rest) same

-- a name with what is taken off round it, up to the end, a mark or `=`, is a word
name-found : (front name back after : List ℕ) → list_all opening front ≡ true → list_all kept front ≡ true → is_filter_name name ≡ true → list_all is_ascii_whitespace back ≡ true → list_all kept back ≡ true → EndsWord mark after
    → list_any (λ word. is_filter_name (bare (name_of word))) (words_of ((front ++ (name ++ back)) ++ after)) ≡ true
unfolding words_of name_of
name-found front name back after opens front_kept is spaces back_kept ends =
    let all = plain-name name is in
    let word : List ℕ = front ++ (name ++ back) in
    let whole : list_all kept word ≡ true =
    list_all-append kept front (name ++ back) ∙ and_from _ _ front_kept (list_all-append kept name back ∙ and_from _ _ (weaker plain kept name plain-kept all) back_kept) in
    let unmarked = weaker kept (λ x. not (mark x)) word (λ x k. (and_parts (not (mark x)) (not (equals x)) k).0) whole in
    let unequal = weaker kept (λ x. not (equals x)) word (λ x k. (and_parts (not (mark x)) (not (equals x)) k).1) whole in
    let first : name_of (before_first mark (word ++ after)) ≡ word =
    ap name_of (before-past mark word after unmarked) ∙ before-past equals word (before_first mark after) unequal ∙ ap (λ (xs : List ℕ). word ++ xs) (after-name after ends) ∙ append-nil word in
    let named : bare (name_of (before_first mark (word ++ after))) ≡ name =
    ap bare first ∙ bare-name front name back opens all (λ empty. both_ways _ (ap is_filter_name empty ∙ no-name) is) spaces in
    any-first mark (λ w. is_filter_name (bare (name_of w))) (word ++ after) (ap is_filter_name named ∙ is)

seen-mark : (c : ℕ) → is_mark c ≡ true → mark (seen c) ≡ true
seen-mark c is = by (is_silent c) refl is
  where
    sign : ((c == 59 || c == 38) ≡ true) ⊎ ((c == 63) ≡ true) → mark (seen c) ≡ true
    sign (inr question) = ap (λ (x : ℕ). mark (seen x)) (eqb-true c 63 question)
    sign (inl others) = ⊎_elim (λ semicolon. ap (λ (x : ℕ). mark (seen x)) (eqb-true c 59 semicolon)) (λ ampersand. ap (λ (x : ℕ). mark (seen x)) (eqb-true c 38 ampersand)) (or_cases (c == 59) (c == 38) others)

    by : (b : Bool) → is_silent c ≡ b → is_mark c ≡ true → mark (seen c) ≡ true
    by true silent e = ap mark (cond-true (is_silent c) 0 (cond (is_back c) 32 (cond (nat_lt c 128) c 128)) silent)
    by false loud e =
        let others : (c == 59 || c == 38 || c == 63) ≡ true = sym (ap (λ (b : Bool). b || c == 59 || c == 38 || c == 63) loud) ∙ e in
        sign (or_cases (c == 59 || c == 38) (c == 63) others)

seen-ends : (apart : ℕ → Bool) → ((c : ℕ) → apart c ≡ true → is_mark c ≡ true) → (after : List ℕ) → EndsWord apart after → EndsWord mark (map seen after)
seen-ends apart marks after (inl none) = inl (ap (map seen) none)
seen-ends apart marks after (inr (c, rest, is, ends)) = inr (
  seen c,
  map seen rest,
  ap (map seen) is,
  ⊎_elim
      (λ cuts. ap (λ (b : Bool). b || seen c == 61) (seen-mark c (marks c cuts)))
      (λ equal. ap (λ (x : ℕ). mark (seen x) || seen x == 61) (eqb-true c 61 equal))
      (or_cases (apart c) (c == 61) ends),
)

abbrev found-in : List ℕ → Bool
found-in bytes = list_any (λ word. is_filter_name (bare (name_of word))) (words_of bytes)

found-after : (front : List ℕ) (m : ℕ) (rest : List ℕ) → mark m ≡ true → found-in rest ≡ true → found-in (front ++ m ∷ rest) ≡ true
unfolding words_of
found-after front m rest marks found = any-after mark (λ word. is_filter_name (bare (name_of word))) front m rest marks found

-- the name stands as a word for some reader, so it does for the search
pub word-found : (apart : ℕ → Bool) → ((c : ℕ) → apart c ≡ true → is_mark c ≡ true) → (characters name : List ℕ) → is_filter_name name ≡ true → StandsIn apart characters name → has_filter_word characters ≡ true
unfolding has_filter_word
word-found apart marks characters name is stands = ap found-in whole ∙ behind stands.begins
  where
    front : List ℕ
    front = map seen stands.front

    back : List ℕ
    back = map seen stands.back

    after : List ℕ
    after = map seen stands.after

    own : map seen name ≡ name
    own = seen-plain name (plain-name name is)

    whole : map seen characters ≡ map seen stands.before ++ ((front ++ (name ++ back)) ++ after)
    whole =
        ap (map seen) stands.whole
        ∙ map-append seen stands.before (stands.front ++ (name ++ (stands.back ++ stands.after)))
        ∙ ap (λ (xs : List ℕ). map seen stands.before ++ xs) (map-append seen stands.front (name ++ (stands.back ++ stands.after))
        ∙ ap (λ (xs : List ℕ). front ++ xs) (map-append seen name (stands.back ++ stands.after) ∙ ap (λ (xs : List ℕ). xs ++ map seen (stands.back ++ stands.after)) own
        ∙ ap (λ (xs : List ℕ). name ++ xs) (map-append seen stands.back stands.after) ∙ sym (append_assoc name back after))
        ∙ sym (append_assoc front (name ++ back) after))

    word : found-in ((front ++ (name ++ back)) ++ after) ≡ true
    word = name-found front name back after
        (seen-all is_front opening stands.front (λ c off. opens_at c (seen-front c off)) stands.in_front)
        (seen-all is_front kept stands.front (λ c off. keep c (seen-front c off)) stands.in_front)
        is
        (seen-all is_back is_ascii_whitespace stands.back (λ c off. ap is_ascii_whitespace (seen-back c off)) stands.in_back)
        (seen-all is_back kept stands.back (λ c off. ap kept (seen-back c off)) stands.in_back)
        (seen-ends apart marks stands.after stands.ends)
      where
        opens_at : (c : ℕ) → (seen c ≡ 32) ⊎ (seen c ≡ 91) → opening (seen c) ≡ true
        opens_at c (inl space) = ap opening space
        opens_at c (inr bracket) = ap opening bracket

        keep : (c : ℕ) → (seen c ≡ 32) ⊎ (seen c ≡ 91) → kept (seen c) ≡ true
        keep c (inl space) = ap kept space
        keep c (inr bracket) = ap kept bracket

    behind : BeginsWord apart stands.before → found-in (map seen stands.before ++ ((front ++ (name ++ back)) ++ after)) ≡ true
    behind (inl none) = ap (λ (xs : List ℕ). found-in (map seen xs ++ ((front ++ (name ++ back)) ++ after))) none ∙ word
    behind (inr (rest, c, ends, cuts)) =
        ap (λ (xs : List ℕ). found-in (map seen xs ++ ((front ++ (name ++ back)) ++ after))) ends
        ∙ ap (λ (xs : List ℕ). found-in (xs ++ ((front ++ (name ++ back)) ++ after))) (map-append seen rest (c ∷ []))
        ∙ ap found-in (append_assoc (map seen rest) (seen c ∷ []) ((front ++ (name ++ back)) ++ after))
        ∙ found-after (map seen rest) (seen c) ((front ++ (name ++ back)) ++ after) (seen-mark c (marks c cuts)) word
