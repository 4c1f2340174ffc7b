-- What stands in a line, by what stands at the front of the bytes that it is the front of.
use Rattle.std.proofs.Common.{◌≡◌, ◌≢◌, ℕ, ◌+◌, ◌-◌, ◌<◌, ◌≤◌, List, [], ◌∷◌, ◌++◌, length, take, drop, get_or, Bool, true, false, refl, sym, ap, ◌∙◌, subst, ⊎_elim, arith, length-take-le, length-drop, lt_of_not-le}
use Rattle.std.proofs.lemmas.Bool.{cases_lt, true≢false}
use Rattle.std.proofs.lemmas.List.{drop-drop, get_or-drop, get_or-take, get_or_default, get_or_past, take-append-drop, take-take}
use Rattle.std.specs.Char.{is_ascii_digit}
use Rattle.json.specs.Run.{is_plain}
use Rattle.json.specs.Written.{PlainBetween}
use Rattle.json.specs.Lex.{after_value}
use Rattle.json_room.specs.private.Lexemes.{DigitsBetween, EndsValue, StandsAt}
use Rattle.json_room.specs.Lexemes.{EndsHere}

module _ (line bytes : List ℕ) (front : take (length line) bytes ≡ line) (feed : get_or bytes (length line) 0 ≡ 10) (room : length line + 64 ≤ length bytes) where
  pub same_byte : (k : ℕ) → k < length line → get_or bytes k 0 ≡ get_or line k 0
  same_byte k within = sym (get_or-take (length line) bytes k 0 within) ∙ ap (λ (l : List ℕ). get_or l k 0) front

  -- up to the line's end the bytes are the line's and its LF
  pub byte_reported : (k : ℕ) → k ≤ length line → get_or bytes k 0 ≡ get_or line k 10
  byte_reported k within =
      ⊎_elim (λ inside. same_byte k inside ∙ get_or_default line k 0 10 inside)
      (λ past. let same : k ≡ length line = omega (arith, past, within) in ap (λ j. get_or bytes j 0) same ∙ feed ∙ sym (get_or_past line k 10 (omega (arith, past)))) (cases_lt k (length line))

  -- no run of bytes that are no LF goes past the line's end
  run_within : (p : ℕ → Bool) (i j : ℕ) → p 10 ≡ false → i ≤ length line → ((k : ℕ) → i ≤ k → k < j → p (get_or bytes k 0) ≡ true) → j ≤ length line
  run_within p i j stops begins run =
      ⊎_elim (λ over. absurd (true≢false (sym (run (length line) begins over) ∙ ap p feed ∙ stops))) (λ within. within) (cases_lt (length line) j)

  pub plain_within : (i j : ℕ) → i ≤ length line → PlainBetween bytes i j → j ≤ length line
  plain_within i j begins plain = run_within is_plain i j refl begins plain

  pub plain_here : (i j : ℕ) → j ≤ length line → PlainBetween bytes i j → PlainBetween line i j
  plain_here i j within plain k from to = ap is_plain (sym (same_byte k (omega (arith, to, within)))) ∙ plain k from to

  pub digits_within : (i j : ℕ) → i ≤ length line → DigitsBetween bytes i j → j ≤ length line
  digits_within i j begins digits = run_within is_ascii_digit i j refl begins digits

  pub digits_here : (i j : ℕ) → j ≤ length line → DigitsBetween bytes i j → DigitsBetween line i j
  digits_here i j within digits k from to = ap is_ascii_digit (sym (same_byte k (omega (arith, to, within)))) ∙ digits k from to

-- where what follows ends a value, none was passed
pub ends_here : (line : List ℕ) (place : ℕ) → place ≤ length line → EndsHere line place → EndsValue line place place after_value
ends_here line place within here = record { within = within; left = refl; no_colon = here.no_colon; ends = here.ends }

-- a byte that is no LF stands within the line
pub within_byte : (d : List ℕ) (i x : ℕ) → get_or d i 10 ≡ x → (x ≡ 10 → ⊥) → i < length d
within_byte d i x is other = lt_of_not-le (λ past. other (sym is ∙ get_or_past d i 10 past))

pub other_default : (d : List ℕ) (i x : ℕ) → get_or d i 10 ≡ x → (x ≡ 10 → ⊥) → get_or d i 32 ≡ x
other_default d i x is other = sym (get_or_default d i 10 32 (within_byte d i x is other)) ∙ is

-- so does a digit
pub digit_within : (d : List ℕ) (i x : ℕ) → get_or d i 10 ≡ x → is_ascii_digit x ≡ true → i < length d
digit_within d i x is digit =
    let none : is_ascii_digit 10 ≡ false = refl in
    within_byte d i x is (λ e. true≢false (sym digit ∙ ap is_ascii_digit e ∙ none))

-- nor does a run of other bytes than LF
module _ (line bytes : List ℕ) (front : take (length line) bytes ≡ line) (feed : get_or bytes (length line) 0 ≡ 10) (room : length line + 64 ≤ length bytes) where
  pub other_run_within : (i j : ℕ) → i ≤ length line → ((k : ℕ) → i ≤ k → k < j → get_or bytes k 0 ≢ 10) → j ≤ length line
  other_run_within i j begins run = ⊎_elim (λ over. absurd (run (length line) begins over feed)) (λ within. within) (cases_lt (length line) j)
