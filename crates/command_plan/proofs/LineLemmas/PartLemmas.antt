-- The part of a file that a text asks for.
use Rattle.std.proofs.Common.{◌≡◌, ◌≢◌, ◌∙◌, ◌==◌, ◌+◌, ◌<◌, ◌≤◌, ◌^◌, ℕ, Bool, true, false, not, ◌&&◌, List, [], ◌∷◌, Option, None, Some, IsSome, IfNone, IfSome, is_some, length, drop, drop_of_length-le, map, refl, sym, ap, subst, arith}
use Rattle.std.specs.Borrow.{Bor}
use Rattle.std.proofs.lemmas.Bool.{false≢true, true≢false}
use Rattle.std.specs.List.{after_first, before_first, position_or_len}
use Rattle.std.specs.Str.Parse.{IsNumeral, digits_value, without_leading_plus}
use Rattle.clap.specs.Words.{Text}
use Rattle.line_filter.specs.declared.part.Part.{Part}
use Rattle.command_plan.specs.PartTexts.{IsNoPart, IsNumberText, IsPartText, is_one_file}
use Rattle.command_plan.specs.Requests.{AsksForPart}

-- where a part is asked for, and it lacks no lines, these are there
pub lines_there : {X : Type 0} (o : Option X) (b : Bool) → (is_some o && not b) ≡ false → IsSome o → b ≡ true
lines_there None b none some = absurd (false≢true some)
lines_there (Some x) true none some = refl
lines_there (Some x) false none some = absurd (true≢false none)

-- a part is there where a text asks for one
pub asked_for : (text : Option Text) (part : Option Part) → AsksForPart text part → is_some part ≡ true → IsSome text
asked_for None part asks some = absurd (false≢true (sym (ap is_some asks) ∙ some))
asked_for (Some text) part asks some = refl

-- what was read of a text as a number
pub number_read : (text : Text) (number : ℕ) → IsNumeral 10 (without_leading_plus text) → digits_value 10 (without_leading_plus text) < 2 ^ 32
    → number ≡ digits_value 10 (without_leading_plus text) → IsNumberText text number
number_read text number digits fits value =
    record { digits = digits; value = sym value; fits = subst (λ (n : ℕ). n < 2 ^ 32) (sym value) fits }

pub number_unread : (text : Text) → ¬ (IsNumeral 10 (without_leading_plus text) × (digits_value 10 (without_leading_plus text) < 2 ^ 32))
    → (number : ℕ) → ¬ IsNumberText text number
number_unread text refused number is = refused (is.digits, subst (λ (n : ℕ). n < 2 ^ 32) (sym is.value) is.fits)

-- a text is one number
one_number : (text : Text) (m n : ℕ) → IsNumberText text m → IsNumberText text n → m ≡ n
one_number text m n first second = sym first.value ∙ second.value

-- the part of two numbers that were read
pub part_read : (text : Text) (number count : ℕ) → IsNumberText (before_first (λ b. b == 47) text) number → IsNumberText (after_first (λ b. b == 47) text) count
    → (part : Option Part) → (IsSome part → (1 ≤ number) × (number ≤ count)) → IfSome part (λ p. (p.number ≡ number) × (p.count ≡ count))
    → IfSome part (λ p. IsPartText text p.number p.count)
part_read text number count first second None within same = tt
part_read text number count first second (Some part) within same = record {
  number_text = subst (IsNumberText (before_first (λ b. b == 47) text)) (sym same.0) first;
  count_text = subst (IsNumberText (after_first (λ b. b == 47) text)) (sym same.1) second;
  first = part.first;
  last = part.last;
}

pub no_part_read : (text : Text) (number count : ℕ) → IsNumberText (before_first (λ b. b == 47) text) number → IsNumberText (after_first (λ b. b == 47) text) count
    → (part : Option Part) → ((1 ≤ number) × (number ≤ count) → IsSome part) → IfNone part (IsNoPart text)
no_part_read text number count first second (Some part) made = tt
no_part_read text number count first second None made =
    λ m n is. let e = one_number (before_first (λ b. b == 47) text) m number is.number_text first in
    let f = one_number (after_first (λ b. b == 47) text) n count is.count_text second in
    false≢true (made (subst (λ (k : ℕ). 1 ≤ k) e is.first, subst (λ (k : ℕ). number ≤ k) f (subst (λ (k : ℕ). k ≤ n) e is.last)))

lit_none : {P : Type 0} → 0 < 0 → P
lit_none less = absurd (omega (arith, less))

-- there is no slash
pub no_slash : (text : Text) → position_or_len (λ b. b == 47) text ≡ length text → IsNoPart text
no_slash text none number count is =
    let past : drop (length text + 1) text ≡ [] = drop_of_length-le text {i = length text + 1} (omega arith) in
    let empty : after_first (λ b. b == 47) text ≡ [] = ap (λ (k : ℕ). drop (k + 1) text) none ∙ past in
    let there : IsNumberText [] count = subst (λ (l : Text). IsNumberText l count) empty is.count_text in
    lit_none there.digits.0

-- no number stands before the slash, or after it
pub no_number_before : (text : Text) → ((number : ℕ) → ¬ IsNumberText (before_first (λ b. b == 47) text) number) → IsNoPart text
no_number_before text none number count is = none number is.number_text

pub no_number_after : (text : Text) → ((number : ℕ) → ¬ IsNumberText (after_first (λ b. b == 47) text) number) → IsNoPart text
no_number_after text none number count is = none count is.count_text

-- other than one file
pub no_one_file : (files : List (Bor Text)) → length files ≢ 1 → is_one_file (map (λ s. s.now) files) ≡ false
no_one_file [] other = refl
no_one_file (first ∷ []) other = absurd (other refl)
no_one_file (first ∷ second ∷ files) other = refl
