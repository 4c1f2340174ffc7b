-- White space at the ends of a text, by its bytes.
use Rattle.std.proofs.Common.{◌≡◌, ◌+◌, ◌-◌, ◌≤◌, ◌<◌, ◌∙◌, ◌++◌, ℕ, suc, List, [], ◌∷◌, length, take, drop, get_or, ap, arith, refl, subst, sym}
use Rattle.std.proofs.Math.ListN.{drop_of_length-le}
use Rattle.std.proofs.Math.Seq.{drop-cons, drop-length, take-add, take-length}
use Rattle.std.proofs.Math.Utf8.{encode}
use Rattle.std.proofs.lemmas.List.{append-nil, drop-append-le, drop-drop, length-drop, length-take-le, take-append-drop, take-take}
use Rattle.std.proofs.lemmas.Str.{IsCharBoundary-end, IsCharBoundary-from_drop, IsCharBoundary-from_take, IsCharBoundary-start, IsUtf8-encode, IsUtf8-past_char, NoCharPasses-append, NoCharPasses-nil}
use Rattle.std.specs.Char.{is_not_whitespace}
use Rattle.std.specs.Str.{IsTrimEnd, IsTrimStart, IsUtf8, NoCharPasses}
use Rattle.odata_functions.specs.private.Blanks.{BeginsBlank, EndsBlank, IsBlankEnd, IsBlankStart, SpellsBlank}
use Rattle.odata_functions.proofs.texts.Characters.{front_utf8}

-- one character is no other
one_blank : (bytes : List ℕ) → SpellsBlank bytes → NoCharPasses is_not_whitespace bytes
one_blank bytes spells = (spells.character ∷ [], append-nil (encode spells.character) ∙ sym spells.spelled, (spells.blank, tt))

-- ---- at the start

pub none_at_start : (text : List ℕ) → IsUtf8 text → IsBlankStart text 0
none_at_start text of_text = record { within = omega arith; blank = NoCharPasses-nil is_not_whitespace; rest_utf8 = of_text; boundary = IsCharBoundary-start text of_text }

pub more_at_start : (text : List ℕ) (at width : ℕ) → IsBlankStart text at → BeginsBlank (drop at text) width → IsBlankStart text (at + width)
more_at_start text at width before begins =
    let rest = drop at text in
    let spells = begins.blank in
    let split : rest ≡ encode spells.character ++ drop width rest = sym (take-append-drop width rest) ∙ ap (λ (x : List ℕ). x ++ drop width rest) spells.spelled in
    let within : at + width ≤ length text = omega (arith, before.within, begins.within, length-drop at text) in
    let rest_utf8 : IsUtf8 (drop (at + width) text) = subst IsUtf8 (drop-drop width at text) (IsUtf8-past_char rest (drop width rest) spells.character before.rest_utf8 split) in
    record {
      within = within;
      blank = subst (NoCharPasses is_not_whitespace) (sym (take-add at width text)) (NoCharPasses-append is_not_whitespace (take at text) (take width rest) before.blank (one_blank (take width rest) spells));
      rest_utf8 = rest_utf8;
      boundary = IsCharBoundary-from_drop text (at + width) within rest_utf8;
    }

-- what std takes off after that
pub start_after : (text rest : List ℕ) (count : ℕ) → IsBlankStart text count → IsTrimStart (drop count text) rest → IsTrimStart text rest
start_after text rest count before (m, is, none, first, size) = (
  count + m,
  is ∙ drop-drop m count text,
  subst (NoCharPasses is_not_whitespace) (sym (take-add count m text)) (NoCharPasses-append is_not_whitespace (take count text) (take m (drop count text)) before.blank none),
  first,
  omega (arith, size, length-drop count text),
)

-- ---- at the end

pub none_at_end : (text : List ℕ) → IsUtf8 text → IsBlankEnd text (length text)
none_at_end text of_text = record {
  within = omega arith;
  blank = subst (NoCharPasses is_not_whitespace) (sym (drop-length text)) (NoCharPasses-nil is_not_whitespace);
  front_utf8 = subst IsUtf8 (sym (take-length text)) of_text;
  boundary = IsCharBoundary-end text;
}

-- a text is what stands before that byte, and what stands after it
cut : (text : List ℕ) (at : ℕ) → text ≡ take at text ++ drop at text
cut text at = sym (take-append-drop at text)

pub more_at_end : (text : List ℕ) (at width : ℕ) → IsUtf8 text → IsBlankEnd text at → EndsBlank (take at text) width → IsBlankEnd text (at - width)
more_at_end text at width of_text before ends =
    let front = take at text in
    let size : length front ≡ at = length-take-le at text before.within in
    let same : length front - width ≡ at - width = ap (λ (k : ℕ). k - width) size in
    let spells : SpellsBlank (drop (at - width) front) = subst (λ (k : ℕ). SpellsBlank (drop k front)) same ends.blank in
    let shorter : at - width ≤ length front = omega (arith, size) in
    let back : drop (at - width) text ≡ drop (at - width) front ++ drop at text = ap (drop (at - width)) (cut text at) ∙ drop-append-le (at - width) front (drop at text) shorter in
    let within : at - width ≤ length text = omega (arith, before.within) in
    let utf8 : IsUtf8 (take (at - width) text) = subst IsUtf8 (take-take (at - width) at text (omega arith))
    (front_utf8 front (take (at - width) front) (drop (at - width) front) before.front_utf8 (cut front (at - width))
    (subst IsUtf8 (sym spells.spelled) (IsUtf8-encode spells.character spells.scalar))) in
    record {
      within = within;
      blank = subst (NoCharPasses is_not_whitespace) (sym back)
          (NoCharPasses-append is_not_whitespace (drop (at - width) front) (drop at text) (one_blank (drop (at - width) front) spells) before.blank);
      front_utf8 = utf8;
      boundary = IsCharBoundary-from_take text (at - width) of_text within utf8;
    }

-- what std takes off after that
pub end_after : (text front : List ℕ) (at : ℕ) → IsBlankEnd text at → IsTrimEnd (take at text) front → IsTrimEnd text front
end_after text front at before (n, is, none, last, size, within) =
    let before_size : length (take at text) ≡ at = length-take-le at text before.within in
    let inside : n ≤ at = omega (arith, within, before_size) in
    let back : drop n text ≡ drop n (take at text) ++ drop at text = ap (drop n) (cut text at) ∙ drop-append-le n (take at text) (drop at text) within in (
      n,
      is ∙ take-take n at text inside,
      subst (NoCharPasses is_not_whitespace) (sym back) (NoCharPasses-append is_not_whitespace (drop n (take at text)) (drop at text) none before.blank),
      last,
      size,
      omega (arith, inside, before.within),
    )

-- ---- the first bytes of a list, and the last

pub first_one : (l : List ℕ) → 1 ≤ length l → take 1 l ≡ get_or l 0 0 ∷ []
first_one [] some = absurd (omega (arith, some))
first_one (x ∷ more) some = refl

pub first_two : (l : List ℕ) → 2 ≤ length l → take 2 l ≡ get_or l 0 0 ∷ get_or l 1 0 ∷ []
first_two [] some = absurd (omega (arith, some))
first_two (x ∷ []) some = absurd (omega (arith, some))
first_two (x ∷ y ∷ more) some = refl

pub first_three : (l : List ℕ) → 3 ≤ length l → take 3 l ≡ get_or l 0 0 ∷ get_or l 1 0 ∷ get_or l 2 0 ∷ []
first_three [] some = absurd (omega (arith, some))
first_three (x ∷ []) some = absurd (omega (arith, some))
first_three (x ∷ y ∷ []) some = absurd (omega (arith, some))
first_three (x ∷ y ∷ z ∷ more) some = refl

pub last_one : (l : List ℕ) → 1 ≤ length l → drop (length l - 1) l ≡ get_or l (length l - 1) 0 ∷ []
last_one l some =
    drop-cons l (length l - 1) 0 (omega (arith, some)) ∙ ap (λ (more : List ℕ). get_or l (length l - 1) 0 ∷ more) (drop_of_length-le l {i = suc (length l - 1)} (omega (arith, some)))

next_last : (l : List ℕ) (k : ℕ) → suc k ≤ length l → drop (length l - suc k) l ≡ get_or l (length l - suc k) 0 ∷ drop (length l - k) l
next_last l k some =
    let next : suc (length l - suc k) ≡ length l - k = omega (arith, some) in
    drop-cons l (length l - suc k) 0 (omega (arith, some)) ∙ ap (λ (n : ℕ). get_or l (length l - suc k) 0 ∷ drop n l) next

pub last_two : (l : List ℕ) → 2 ≤ length l → drop (length l - 2) l ≡ get_or l (length l - 2) 0 ∷ get_or l (length l - 1) 0 ∷ []
last_two l some = next_last l 1 some ∙ ap (λ (more : List ℕ). get_or l (length l - 2) 0 ∷ more) (last_one l (omega (arith, some)))

pub last_three : (l : List ℕ) → 3 ≤ length l → drop (length l - 3) l ≡ get_or l (length l - 3) 0 ∷ get_or l (length l - 2) 0 ∷ get_or l (length l - 1) 0 ∷ []
last_three l some = next_last l 2 some ∙ ap (λ (more : List ℕ). get_or l (length l - 3) 0 ∷ more) (last_two l (omega (arith, some)))
