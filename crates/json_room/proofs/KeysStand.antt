-- Names that stand in a line, byte by byte.
use Rattle.std.proofs.Common.{◌≡◌, ◌≢◌, ℕ, zero, suc, ◌+◌, ◌-◌, ◌%◌, ◌<◌, ◌≤◌, List, [], ◌∷◌, ◌++◌, length, take, drop, get_or, bit_and, false, refl, sym, ap, ◌∙◌, subst, arith, Fits, w8, ⊎_elim, length-append}
use Rattle.std.proofs.lemmas.List.{get_or_append_left, get_or_at}
use Rattle.std.proofs.lemmas.Nat.{and_mask}
use Rattle.std.proofs.lemmas.Simd.{Each1-get_or, get_or-chunk, get_or-zip2}
use lib.Lanes.{Each1, chunk, zip2}
use Rattle.std.proofs.lemmas.Bool.{cases_lt, true≢false}
use Rattle.std.specs.List.{AllByRecursion}
use Rattle.json.specs.Run.{is_plain}
use Rattle.json.specs.Written.{PlainBetween}
use Rattle.json_room.specs.Keys.{name_with_colon, quoted_name, spaced_name}
use Rattle.json_room.specs.private.Lexemes.{StandsAt}
use Rattle.json_room.proofs.LexemeLemmas.{from_byte}
use Rattle.json_room.specs.SpelledKey.{IsFront}
use Rattle.json_room.specs.private.SpelledKey.{StandsByte}
use Rattle.json_room.proofs.RoomLemmas.{byte_reported, other_default, other_run_within, within_byte}

-- a word without LF, each of whose bytes stands there
abbrev pub NoFeed : List ℕ → Type 0
NoFeed w = (k : ℕ) → k < length w → get_or w k 0 ≢ 10

bytes_joined : (d : List ℕ) (i : ℕ) (w : List ℕ) → NoFeed w → ((k : ℕ) → StandsByte d i w k) → drop i d ≡ w ++ drop (i + length w) d
bytes_joined d i [] none stands = let same : i ≡ i + 0 = omega arith in ap (λ k. drop k d) same
bytes_joined d i (x ∷ w) none stands =
    let here : i + 0 ≡ i = omega arith in
    let first : get_or d i 10 ≡ x = ap (λ k. get_or d k 10) (sym here) ∙ stands 0 (omega arith) in
    let within = within_byte d i x first (none 0 (omega arith)) in
    let there : i + 1 + length w ≡ i + suc (length w) = omega arith in
    from_byte d i x within (other_default d i x first (none 0 (omega arith)))
    ∙ ap (λ l. x ∷ l) (bytes_joined d (i + 1) w (λ k l. none (suc k) (omega (arith, l)))
    (λ k l. let next : i + 1 + k ≡ i + suc k = omega arith in ap (λ j. get_or d j 10) next ∙ stands (suc k) (omega (arith, l)))
    ∙ ap (λ k. w ++ drop k d) there)

last_within : (d : List ℕ) (i : ℕ) (w : List ℕ) → i ≤ length d → NoFeed w → ((k : ℕ) → StandsByte d i w k) → i + length w ≤ length d
last_within d i [] begins none stands = omega (arith, begins)
last_within d i (x ∷ w) begins none stands =
    let within = within_byte d (i + length w) (get_or (x ∷ w) (length w) 0) (stands (length w) (omega arith)) (none (length w) (omega arith)) in
    omega (arith, within)

pub stands_by_bytes : (d : List ℕ) (i : ℕ) (w : List ℕ) → i ≤ length d → NoFeed w → ((k : ℕ) → StandsByte d i w k) → StandsAt d i w
stands_by_bytes d i w begins none stands = record { within = last_within d i w begins none stands; is = bytes_joined d i w none stands }

-- ---- no byte of a name with its quotes and its colon is an LF

abbrev pub EachOther : List ℕ → Type 0
EachOther w = AllByRecursion (λ x. x ≢ 10) w

pub each_at : (w : List ℕ) → EachOther w → NoFeed w
each_at [] each k l = absurd (omega (arith, l))
each_at (x ∷ w) each zero l = each.0
each_at (x ∷ w) each (suc k) l = each_at w each.1 k (omega (arith, l))

each_joined : (v w : List ℕ) → EachOther v → EachOther w → EachOther (v ++ w)
each_joined [] w first more = more
each_joined (x ∷ v) w first more = (first.0, each_joined v w first.1 more)

plain_each : (s : List ℕ) → PlainBetween s 0 (length s) → EachOther s
plain_each [] plain = tt
plain_each (x ∷ s) plain =
    let none : is_plain 10 ≡ false = refl in
    (λ is. true≢false (sym (plain 0 (omega arith) (omega arith)) ∙ ap is_plain is ∙ none), plain_each s (λ k from to. plain (suc k) (omega arith) (omega (arith, to))))

pub quoted_feeds_not : (name : List ℕ) → PlainBetween name 0 (length name) → NoFeed (quoted_name name)
quoted_feeds_not name plain =
    each_at (quoted_name name) ((λ e. omega (arith, e)), each_joined name (34 ∷ []) (plain_each name plain) ((λ e. omega (arith, e)), tt))

pub name_feeds_not : (name : List ℕ) → PlainBetween name 0 (length name) → NoFeed (name_with_colon name)
name_feeds_not name plain =
    each_at (name_with_colon name)
    (each_joined (quoted_name name) (58 ∷ []) ((λ e. omega (arith, e)), each_joined name (34 ∷ []) (plain_each name plain) ((λ e. omega (arith, e)), tt)) ((λ e. omega (arith, e)), tt))

pub spaced_feeds_not : (name : List ℕ) → PlainBetween name 0 (length name) → NoFeed (spaced_name name)
spaced_feeds_not name plain =
    each_at (spaced_name name)
    (each_joined (name_with_colon name) (32 ∷ [])
    (each_joined (quoted_name name) (58 ∷ []) ((λ e. omega (arith, e)), each_joined name (34 ∷ []) (plain_each name plain) ((λ e. omega (arith, e)), tt)) ((λ e. omega (arith, e)), tt))
    ((λ e. omega (arith, e)), tt))

pub some_bytes : (name : List ℕ) → 0 < length (name_with_colon name)
some_bytes name = omega arith

-- ---- a space after the colon

pub spaced_long : (name : List ℕ) → length (spaced_name name) ≡ length (name_with_colon name) + 1
spaced_long name = length-append (name_with_colon name) (32 ∷ [])

-- where all of it stands, the name stands up to its colon, and a space after that
pub spaced_name_stands : (d : List ℕ) (i : ℕ) (name : List ℕ) → ((k : ℕ) → StandsByte d i (spaced_name name) k) → (k : ℕ) → StandsByte d i (name_with_colon name) k
spaced_name_stands d i name stands k inside =
    stands k (omega (arith, inside, spaced_long name)) ∙ get_or_append_left (name_with_colon name) (32 ∷ []) 0 k inside

pub space_stands : (d : List ℕ) (i : ℕ) (name : List ℕ) → ((k : ℕ) → StandsByte d i (spaced_name name) k) → get_or d (i + length (name_with_colon name)) 10 ≡ 32
space_stands d i name stands =
    stands (length (name_with_colon name)) (omega (arith, spaced_long name)) ∙ get_or_at (name_with_colon name) 32 [] 0 (length (name_with_colon name)) refl

-- ---- bytes that a vector test compared

-- bytes that are a word's, none of which is an LF, stand in the line
pub bytes_stand : (line b : List ℕ) (front : take (length line) b ≡ line) (feed : get_or b (length line) 0 ≡ 10) (room : length line + 64 ≤ length b) (place n : ℕ) (w : List ℕ)
    → place ≤ length line → NoFeed w → ((k : ℕ) → k < n → k < length w → get_or b (place + k) 0 ≡ get_or w k 0) → (k : ℕ) → k < n → StandsByte line place w k
bytes_stand line b front feed room place n w begins none there k few inside =
    let within : place + suc k ≤ length line = other_run_within line b front feed room place (place + suc k) begins (λ j from to is.
    let same : place + (j - place) ≡ j = omega (arith, from) in
    let inside' : j - place < length w = omega (arith, from, to, inside) in
    none (j - place) inside' (sym (there (j - place) (omega (arith, from, to, few)) inside') ∙ ap (λ m. get_or b m 0) same ∙ is)) in
    sym (byte_reported line b front feed room (place + k) (omega (arith, within))) ∙ there k few inside

and_byte : (x : ℕ) → x < 256 → bit_and x 255 ≡ x
and_byte x low = let small : x % 256 ≡ x = omega (arith, low) in and_mask x 8 ∙ small

-- a byte that is compared where a mask has all bits
pub masked_lane : (lanes mask front : List ℕ) → length lanes ≡ 16 → Each1 (Fits w8) lanes → length mask ≡ 16 → zip2 bit_and lanes mask ≡ front → (k : ℕ) → k < 16 → get_or mask k 0 ≡ 255 → get_or lanes k 0 ≡ get_or front k 0
masked_lane lanes mask front long fits count same k few bits =
    let x = get_or lanes k 0 in
    let low : Fits w8 x = Each1-get_or (Fits w8) lanes k 0 (omega (arith, long, few)) fits in
    sym (and_byte x low.fits) ∙ ap (bit_and x) (sym bits) ∙ sym (get_or-zip2 bit_and lanes mask k 0 0 0 (omega (arith, long, few)) (omega (arith, count, few))) ∙ ap (λ (l : List ℕ). get_or l k 0) same

-- nor has one of them a bit where a mask has none
and_zero : (x : ℕ) → bit_and x 0 ≡ 0
and_zero x = let none : x % 1 ≡ 0 = omega arith in and_mask x 0 ∙ none

pub unmasked_lane : (lanes mask front : List ℕ) → length lanes ≡ 16 → length mask ≡ 16 → zip2 bit_and lanes mask ≡ front → get_or mask 0 0 ≡ 0 → get_or front 0 0 ≡ 0
unmasked_lane lanes mask front long count same none =
    sym (ap (λ (l : List ℕ). get_or l 0 0) same) ∙ get_or-zip2 bit_and lanes mask 0 0 0 0 (omega (arith, long)) (omega (arith, count)) ∙ ap (bit_and (get_or lanes 0 0)) none ∙ and_zero (get_or lanes 0 0)

-- ---- a word that is compared at once

-- one of more than sixteen bytes never compares
at_most : (w f m : List ℕ) → IsFront w f m → (get_or m 0 0 ≡ 0 → get_or f 0 0 ≡ 0) → length w ≤ 16
at_most w f m is never =
    ⊎_elim (λ many. let none = is.never many in
    let e : 1 ≡ 0 = sym none.1 ∙ never none.0 in
    absurd (omega (arith, e))) (λ few. few) (cases_lt 16 (length w))

-- so all of it stands there
pub whole_stands : (line b : List ℕ) (begin : take (length line) b ≡ line) (feed : get_or b (length line) 0 ≡ 10) (room : length line + 64 ≤ length b) (place : ℕ) (w f m : List ℕ) → place ≤ length line → NoFeed w → IsFront w f m
    → ((k : ℕ) → k < 16 → get_or m k 0 ≡ 255 → get_or (chunk place 16 b) k 0 ≡ get_or f k 0) → (get_or m 0 0 ≡ 0 → get_or f 0 0 ≡ 0) → (k : ℕ) → StandsByte line place w k
whole_stands line b begin feed room place w f m begins none is same never k inside =
    let few = at_most w f m is never in
    let there : (j : ℕ) → j < 16 → j < length w → get_or b (place + j) 0 ≡ get_or w j 0 =
    λ j low within. sym (get_or-chunk place 16 b j 0 low) ∙ same j low (is.bits few j within) ∙ is.bytes few j within in
    bytes_stand line b begin feed room place 16 w begins none there k (omega (arith, inside, few)) inside

-- what is compared with a word is made of its bytes
pub front_of_word : (w s f m : List ℕ) (n : ℕ) → s ≡ w → n ≡ length s → (length s ≤ 16 → (k : ℕ) → k < length s → get_or f k 0 ≡ get_or s k 0) → (16 < length s → get_or f 0 0 ≡ 1)
    → (n ≤ 16 → (k : ℕ) → k < n → get_or m k 0 ≡ 255) → (16 < n → get_or m 0 0 ≡ 0) → IsFront w f m
front_of_word w s f m n is long bytes other bits none =
    subst (λ (x : List ℕ). IsFront x f m) is (record {
      bytes = bytes;
      bits = λ few k inside. bits (omega (arith, few, long)) k (omega (arith, inside, long));
      never = λ many. (none (omega (arith, many, long)), other many);
    })

-- and with a space after it
pub front_of_spaced : (w s f m : List ℕ) (n : ℕ) → s ≡ w → n ≡ length s + 1 → (length s < 16 → (k : ℕ) → k < length s → get_or f k 0 ≡ get_or s k 0) → (length s < 16 → get_or f (length s) 0 ≡ 32)
    → (16 ≤ length s → get_or f 0 0 ≡ 1) → (n ≤ 16 → (k : ℕ) → k < n → get_or m k 0 ≡ 255) → (16 < n → get_or m 0 0 ≡ 0) → IsFront (w ++ 32 ∷ []) f m
front_of_spaced w s f m n is long bytes space other bits none =
    let count : length (s ++ 32 ∷ []) ≡ length s + 1 = length-append s (32 ∷ []) in
    subst (λ (x : List ℕ). IsFront (x ++ 32 ∷ []) f m) is (record {
      bytes = λ few k inside.
          let short : length s < 16 = omega (arith, few, count) in
          ⊎_elim (λ low. bytes short k low ∙ sym (get_or_append_left s (32 ∷ []) 0 k low))
          (λ high. let last : k ≡ length s = omega (arith, high, inside, count) in
          ap (λ (j : ℕ). get_or f j 0) last ∙ space short ∙ sym (get_or_at s 32 [] 0 (length s) refl) ∙ sym (ap (λ (j : ℕ). get_or (s ++ 32 ∷ []) j 0) last)) (cases_lt k (length s));
      bits = λ few k inside. bits (omega (arith, few, count, long)) k (omega (arith, inside, count, long));
      never = λ many. (none (omega (arith, many, count, long)), other (omega (arith, many, count)));
    })
