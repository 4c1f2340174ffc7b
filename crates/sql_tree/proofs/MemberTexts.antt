-- Names and numbers of members, one after another.
use Rattle.std.proofs.Common.{◌≡◌, ◌<◌, ℕ, zero, suc, ◌+◌, List, [], ◌∷◌, ◌++◌, drop, length, Option, Some, refl, sym, ap, ◌∙◌, arith, append_assoc}
use Rattle.std.specs.Prelude.{slice_get, codes}
use Rattle.std.specs.Fmt.{signed_decimal}
use Rattle.edm_enumerations.specs.EnumerationModel.{MemberModel}
use Rattle.sql_tree.specs.LeafText.{cases_text, more_names, more_numbers, names_text, numbers_text}
use Rattle.sql_tree.specs.private.LeafText.{case_piece, name_piece, number_piece}

-- what is still to be written from an index on
abbrev pub rest_names : ℕ → List MemberModel → List ℕ
rest_names zero ms = names_text ms
rest_names (suc k) ms = more_names ms

abbrev pub rest_numbers : ℕ → List MemberModel → List ℕ
rest_numbers zero ms = numbers_text ms
rest_numbers (suc k) ms = more_numbers ms

name_first : (k : ℕ) (m : MemberModel) (ms : List MemberModel) → rest_names k (m ∷ ms) ≡ name_piece k (Some m) ++ more_names ms
name_first zero m ms = ap (λ (xs : List ℕ). codes "'" ++ xs) (sym (append_assoc m.name (codes "'") (more_names ms))) ∙ sym (append_assoc (codes "'") (m.name ++ codes "'") (more_names ms))
name_first (suc k) m ms = ap (λ (xs : List ℕ). codes ", '" ++ xs) (sym (append_assoc m.name (codes "'") (more_names ms))) ∙ sym (append_assoc (codes ", '") (m.name ++ codes "'") (more_names ms))

number_first : (k : ℕ) (m : MemberModel) (ms : List MemberModel) → rest_numbers k (m ∷ ms) ≡ number_piece k (Some m) ++ more_numbers ms
number_first zero m ms = refl
number_first (suc k) m ms = sym (append_assoc (codes ", ") (signed_decimal m.number) (more_numbers ms))

case_first : (m : MemberModel) (ms : List MemberModel) → cases_text (m ∷ ms) ≡ case_piece (Some m) ++ cases_text ms
case_first m ms =
    ap (λ (xs : List ℕ). codes " WHEN '" ++ (m.name ++ xs)) (sym (append_assoc (codes "' THEN ") (signed_decimal m.number) (cases_text ms)))
    ∙ ap (λ (xs : List ℕ). codes " WHEN '" ++ xs) (sym (append_assoc m.name (codes "' THEN " ++ signed_decimal m.number) (cases_text ms)))
    ∙ sym (append_assoc (codes " WHEN '") (m.name ++ (codes "' THEN " ++ signed_decimal m.number)) (cases_text ms))

next_names : (k : ℕ) (ms : List MemberModel) → more_names ms ≡ rest_names (k + 1) ms
next_names k ms = let e : suc k ≡ k + 1 = omega arith in ap (λ (n : ℕ). rest_names n ms) e

next_numbers : (k : ℕ) (ms : List MemberModel) → more_numbers ms ≡ rest_numbers (k + 1) ms
next_numbers k ms = let e : suc k ≡ k + 1 = omega arith in ap (λ (n : ℕ). rest_numbers n ms) e

-- the members from one on
from_place : (ms : List MemberModel) (k : ℕ) → k < length ms → (m : MemberModel) × (slice_get ms k ≡ Some m) × (drop k ms ≡ m ∷ drop (k + 1) ms)
from_place [] k below = absurd (omega (arith, below))
from_place (m ∷ ms) zero below = (m, refl, refl)
from_place (m ∷ ms) (suc k) below =
    let rest = from_place ms k (omega arith) in
    let e : suc (k + 1) ≡ suc k + 1 = omega arith in
    (rest.0, rest.1, rest.2 ∙ ap (λ (n : ℕ). rest.0 ∷ drop n (m ∷ ms)) e)

-- one member more is written
pub name_step : (before after total : List ℕ) (ms : List MemberModel) (k : ℕ) → k < length ms → after ≡ before ++ name_piece k (slice_get ms k)
    → before ++ rest_names k (drop k ms) ≡ total → after ++ rest_names (k + 1) (drop (k + 1) ms) ≡ total
name_step before after total ms k below is so_far =
    let from = from_place ms k below in
    let later = rest_names (k + 1) (drop (k + 1) ms) in
    let step : rest_names k (drop k ms) ≡ name_piece k (slice_get ms k) ++ later =
    ap (rest_names k) from.2 ∙ name_first k from.0 (drop (k + 1) ms) ∙ ap (λ (xs : List ℕ). name_piece k (Some from.0) ++ xs) (next_names k (drop (k + 1) ms))
    ∙ ap (λ (o : Option MemberModel). name_piece k o ++ later) (sym from.1) in
    ap (λ (xs : List ℕ). xs ++ later) is ∙ append_assoc before (name_piece k (slice_get ms k)) later ∙ ap (λ (xs : List ℕ). before ++ xs) (sym step) ∙ so_far

pub number_step : (before after total : List ℕ) (ms : List MemberModel) (k : ℕ) → k < length ms → after ≡ before ++ number_piece k (slice_get ms k)
    → before ++ rest_numbers k (drop k ms) ≡ total → after ++ rest_numbers (k + 1) (drop (k + 1) ms) ≡ total
number_step before after total ms k below is so_far =
    let from = from_place ms k below in
    let later = rest_numbers (k + 1) (drop (k + 1) ms) in
    let step : rest_numbers k (drop k ms) ≡ number_piece k (slice_get ms k) ++ later =
    ap (rest_numbers k) from.2 ∙ number_first k from.0 (drop (k + 1) ms) ∙ ap (λ (xs : List ℕ). number_piece k (Some from.0) ++ xs) (next_numbers k (drop (k + 1) ms))
    ∙ ap (λ (o : Option MemberModel). number_piece k o ++ later) (sym from.1) in
    ap (λ (xs : List ℕ). xs ++ later) is ∙ append_assoc before (number_piece k (slice_get ms k)) later ∙ ap (λ (xs : List ℕ). before ++ xs) (sym step) ∙ so_far

pub case_step : (before after total : List ℕ) (ms : List MemberModel) (k : ℕ) → k < length ms → after ≡ before ++ case_piece (slice_get ms k)
    → before ++ cases_text (drop k ms) ≡ total → after ++ cases_text (drop (k + 1) ms) ≡ total
case_step before after total ms k below is so_far =
    let from = from_place ms k below in
    let later = cases_text (drop (k + 1) ms) in
    let step : cases_text (drop k ms) ≡ case_piece (slice_get ms k) ++ later =
    ap cases_text from.2 ∙ case_first from.0 (drop (k + 1) ms) ∙ ap (λ (o : Option MemberModel). case_piece o ++ later) (sym from.1) in
    ap (λ (xs : List ℕ). xs ++ later) is ∙ append_assoc before (case_piece (slice_get ms k)) later ∙ ap (λ (xs : List ℕ). before ++ xs) (sym step) ∙ so_far
