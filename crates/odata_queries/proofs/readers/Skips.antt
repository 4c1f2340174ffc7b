-- What the search for disguises leaves out: names without escapes are not decoded, texts without silent characters not
-- searched twice.
use Rattle.std.specs.List.{filter, position_or_len}
use Rattle.std.specs.Prelude.{nat_lt, slice_index}
use Rattle.std.specs.Char.{is_digit}
use Rattle.std.proofs.lemmas.Bool.{and_parts, cond-true, ltb-false}
use Rattle.std.proofs.lemmas.List.Sums.{fails_before_first, list_all-from_AllPass}
use Rattle.percent_encoding.proofs.PercentLemmas.{percent_decode-nil, percent_decode_not_percent}
use Rattle.odata_queries.proofs.Common.{◌≡◌, ℕ, ◌<◌, ◌≤◌, ◌==◌, ◌||◌, ◌&&◌, ◌≢◌, Bool, true, false, not, cond, List, [], ◌∷◌, length, map, arith, refl, sym, ◌∙◌, ap, both_ways, list_all, name_of, percent_decode}
use Rattle.odata_queries.specs.Disguise.{decoded_once, has_filter_word, hides_filter, is_long_escape, is_silent, seen, shortened, shows_decoded, shows_filter}

fails : (b : Bool) → not b ≡ true → b ≡ false
fails false e = refl
fails true e = sym e

twice : (b : Bool) → b ≡ (b || b)
twice true = refl
twice false = refl

-- a byte that stands nowhere
pub none-at : (mark : ℕ) (bytes : List ℕ) → nat_lt (position_or_len (λ b. b == mark) bytes) (length bytes) ≡ false → list_all (λ b. not (b == mark)) bytes ≡ true
none-at mark bytes none =
    let all : length bytes ≤ position_or_len (λ b. b == mark) bytes = ltb-false (position_or_len (λ b. b == mark) bytes) (length bytes) none in
    list_all-from_AllPass (λ b. not (b == mark)) bytes (λ k d below. ap not (fails_before_first (λ b. b == mark) bytes k d (omega arith)))

-- Escapes.

undecoded : (text : List ℕ) → list_all (λ b. not (b == 37)) text ≡ true → percent_decode text ≡ text
undecoded [] none = percent_decode-nil
undecoded (b ∷ text) none =
    let parts = and_parts (not (b == 37)) _ none in
    percent_decode_not_percent b text (λ same. both_ways (b == 37) (fails (b == 37) parts.0) (ap (λ (x : ℕ). x == 37) same)) ∙ ap (λ (xs : List ℕ). b ∷ xs) (undecoded text parts.1)

unshortened : (text : List ℕ) → list_all (λ b. not (b == 37)) text ≡ true → shortened 0 text ≡ text
unfolding shortened
unshortened [] none = refl
unshortened (b ∷ text) none =
    let parts = and_parts (not (b == 37)) _ none in
    let short : is_long_escape (b ∷ text) ≡ false =
    ap (λ (t : Bool). t && slice_index (b ∷ text) 1 == 117 && slice_index (b ∷ text) 2 == 48 && slice_index (b ∷ text) 3 == 48 && is_digit (slice_index (b ∷ text) 4) 16 && is_digit (slice_index (b ∷ text) 5) 16) (fails (b == 37) parts.0) in
    ap (λ (t : Bool). b ∷ shortened (cond {A = ℕ} t 3 0) text) short ∙ ap (λ (xs : List ℕ). b ∷ xs) (unshortened text parts.1)

kept-once : (long : Bool) (text : List ℕ) → list_all (λ b. not (b == 37)) text ≡ true → decoded_once long text ≡ text
kept-once false text none = undecoded text none
kept-once true text none = ap percent_decode (unshortened text none) ∙ undecoded text none

-- a name without escapes is searched as it stands
pub escape-free : (part : List ℕ) → list_all (λ b. not (b == 37)) (name_of part) ≡ true → shows_filter (name_of part) ≡ hides_filter part
unfolding hides_filter shows_decoded
escape-free part none =
    let short = kept-once false (name_of part) none in
    let long = kept-once true (name_of part) none in
    all (shows_filter (name_of part)) _ _ _ _
    (ap shows_filter (sym short)) (ap shows_filter (sym (ap (decoded_once false) short ∙ short)))
    (ap shows_filter (sym long)) (ap shows_filter (sym (ap (decoded_once true) long ∙ long)))
  where
    same : (s : Bool) → s ≡ (s || (s || s) || (s || s))
    same true = refl
    same false = refl

    all : (s a b c d : Bool) → s ≡ a → s ≡ b → s ≡ c → s ≡ d → s ≡ (s || (a || b) || (c || d))
    all s a b c d is_a is_b is_c is_d =
        same s
        ∙ ap (λ (x : Bool). s || (x || s) || (s || s)) is_a
        ∙ ap (λ (x : Bool). s || (a || x) || (s || s)) is_b
        ∙ ap (λ (x : Bool). s || (a || b) || (x || s)) is_c
        ∙ ap (λ (x : Bool). s || (a || b) || (c || x)) is_d

-- Silent characters.

audible : (characters : List ℕ) → list_all (λ b. not (b == 0)) (map seen characters) ≡ true → filter (λ c. not (is_silent c)) characters ≡ characters
audible [] none = refl
audible (c ∷ characters) none =
    let parts = and_parts (not (seen c == 0)) _ none in
    ap (λ (t : Bool). cond t (c ∷ filter (λ x. not (is_silent x)) characters) (filter (λ x. not (is_silent x)) characters)) (loud (is_silent c) refl parts.0) ∙ ap (λ (xs : List ℕ). c ∷ xs) (audible characters parts.1)
  where
    loud : (b : Bool) → is_silent c ≡ b → not (seen c == 0) ≡ true → not (is_silent c) ≡ true
    loud false is e = ap not is
    loud true is e = absurd (both_ways (seen c == 0) (fails (seen c == 0) e) (ap (λ (x : ℕ). x == 0) (cond-true (is_silent c) 0 _ is)))

-- characters none of which is silent are searched once
pub silent-free : (characters : List ℕ) → list_all (λ b. not (b == 0)) (map seen characters) ≡ true
    → has_filter_word characters ≡ (has_filter_word characters || has_filter_word (filter (λ c. not (is_silent c)) characters))
silent-free characters none = twice (has_filter_word characters) ∙ ap (λ (xs : List ℕ). has_filter_word characters || has_filter_word xs) (sym (audible characters none))
