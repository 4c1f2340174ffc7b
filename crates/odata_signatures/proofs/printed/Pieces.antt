-- The pieces of an enumeration's text, without the spaces round them, stand for the same number.
use Rattle.std.proofs.Common.{◌≡◌, ◌≢◌, inl, inr, ℕ, suc, ℤ, ◌==◌, ◌||◌, ◌&&◌, Bool, true, false, cond, List, [], ◌∷◌, ◌++◌, length, refl, sym, ◌∙◌, ap, subst, pos, arith}
use Rattle.std.specs.Prelude.{if◌then◌else◌}
use Rattle.std.specs.Int.{int_bit_or, w64}
use Rattle.std.specs.List.{onto_first}
use Rattle.std.proofs.Math.Bool.{and-false}
use Rattle.std.proofs.lemmas.Bool.{cases_Bool, cond-false, cond-true, eqb-true, ne_eqb}
use Rattle.std.proofs.lemmas.List.Splits.{slice_split-cons_no, slice_split-cons_yes}
use Rattle.edm_enumerations.specs.EnumerationModel.{EnumerationModel}
use Rattle.edm_enumerations.specs.EnumerationValue.{EnumerationValue, JoinsTo, NameOrNumber, pieces_of}
use Rattle.edm_enumerations.specs.Spaces.{onto_kept, without_outer_spaces, without_trailing_spaces}
use Rattle.odata_text.specs.LiteralSpelling.{is_piece_end, trimmed_pieces}
use Rattle.odata_signatures.proofs.printed.Values.{HaveSameValues}

-- ---- a text without the spaces round its pieces

-- nothing but spaces stands before the next comma or the end
abbrev is_end : List ℕ → Bool
is_end [] = true
is_end (b ∷ bs) = (b == 44) || ((b == 32) && is_end bs)

abbrev is_dropped : Bool → ℕ → List ℕ → Bool
is_dropped before b bs = (b == 32) && (before || is_end bs)

abbrev pub trimmed : Bool → List ℕ → List ℕ
trimmed before [] = []
trimmed before (b ∷ bs) = if is_dropped before b bs then trimmed before bs else b ∷ trimmed (b == 44) bs

longer : (bs : List ℕ) (c : ℕ) → (length (bs ++ c ∷ []) == 0) ≡ false
longer [] c = refl
longer (b ∷ bs) c = ne_eqb (length (b ∷ (bs ++ c ∷ []))) 0 (λ none. omega arith)

end_before : (bs : List ℕ) → is_piece_end (bs ++ 39 ∷ []) ≡ is_end bs
end_before [] = refl
end_before (b ∷ bs) = rw (longer bs 39, and-false (b == 39), end_before bs) refl

cond-append : (c : Bool) (x y z : List ℕ) → cond c (x ++ z) (y ++ z) ≡ cond c x y ++ z
cond-append true x y z = refl
cond-append false x y z = refl

-- before the last quote
pub trimmed_quoted : (before : Bool) (xs : List ℕ) → trimmed_pieces before (xs ++ 39 ∷ []) ≡ trimmed before xs ++ 39 ∷ []
trimmed_quoted before [] = refl
trimmed_quoted before (b ∷ bs) =
    rw (end_before bs, trimmed_quoted before bs, trimmed_quoted (b == 44) bs)
    (cond-append (is_dropped before b bs) (trimmed before bs) (b ∷ trimmed (b == 44) bs) (39 ∷ []))

cut_comma : (before : Bool) (b : ℕ) (bs : List ℕ) → (b == 44) ≡ true → trimmed before (b ∷ bs) ≡ b ∷ trimmed true bs
cut_comma before b bs holds =
    let no_space : (b == 32) ≡ false = (let e : b ≡ 44 = eqb-true b 44 holds in rw e refl) in
    let kept : is_dropped before b bs ≡ false = rw no_space refl in
    cond-false (is_dropped before b bs) (trimmed before bs) (b ∷ trimmed (b == 44) bs) kept ∙ ap (λ (t : Bool). b ∷ trimmed t bs) holds

cut_kept : (before : Bool) (b : ℕ) (bs : List ℕ) → (b == 44) ≡ false → is_dropped before b bs ≡ false → trimmed before (b ∷ bs) ≡ b ∷ trimmed false bs
cut_kept before b bs fails kept = cond-false (is_dropped before b bs) (trimmed before bs) (b ∷ trimmed (b == 44) bs) kept ∙ ap (λ (t : Bool). b ∷ trimmed t bs) fails

cut_dropped : (before : Bool) (b : ℕ) (bs : List ℕ) → is_dropped before b bs ≡ true → trimmed before (b ∷ bs) ≡ trimmed before bs
cut_dropped before b bs dropped = cond-true (is_dropped before b bs) (trimmed before bs) (b ∷ trimmed (b == 44) bs) dropped

-- ---- pieces that are alike

abbrev Pieces : Type 0
Pieces = List (List ℕ)

-- the same but for outer spaces, one by one
abbrev AreAlike : Pieces → Pieces → Type 0
AreAlike [] [] = Unit {0}
AreAlike (p ∷ ps) (q ∷ qs) = (without_outer_spaces p ≡ without_outer_spaces q) × AreAlike ps qs
AreAlike _ _ = ⊥

-- the same of one piece or more, whose first may have trailing spaces alone or, after a comma, outer ones
abbrev FirstAlike : Bool → Pieces → Pieces → Type 0
FirstAlike true (p ∷ ps) (q ∷ qs) = (without_outer_spaces p ≡ without_outer_spaces q) × AreAlike ps qs
FirstAlike false (p ∷ ps) (q ∷ qs) = (without_trailing_spaces p ≡ without_trailing_spaces q) × AreAlike ps qs
FirstAlike _ _ _ = ⊥

pub all_alike : (ps qs : Pieces) → FirstAlike true ps qs → AreAlike ps qs
all_alike (p ∷ ps) (q ∷ qs) is = is
all_alike [] [] is = absurd is
all_alike [] (q ∷ qs) is = absurd is
all_alike (p ∷ ps) [] is = absurd is

onto_trailing : (b : ℕ) (ps qs : Pieces) → FirstAlike false ps qs → FirstAlike false (onto_first b ps) (onto_first b qs)
onto_trailing b (p ∷ ps) (q ∷ qs) is = (ap (onto_kept b) is.0, is.1)
onto_trailing b [] [] is = absurd is
onto_trailing b [] (q ∷ qs) is = absurd is
onto_trailing b (p ∷ ps) [] is = absurd is

-- before a byte that is no space nothing leads
no_lead : (b : ℕ) (p : List ℕ) → (b == 32) ≡ false → without_outer_spaces (b ∷ p) ≡ onto_kept b (without_trailing_spaces p)
no_lead b p fails = rw fails refl

onto_outer : (b : ℕ) (ps qs : Pieces) → (b == 32) ≡ false → FirstAlike false ps qs → FirstAlike true (onto_first b ps) (onto_first b qs)
onto_outer b (p ∷ ps) (q ∷ qs) fails is = (no_lead b p fails ∙ ap (onto_kept b) is.0 ∙ sym (no_lead b q fails), is.1)
onto_outer b [] [] fails is = absurd is
onto_outer b [] (q ∷ qs) fails is = absurd is
onto_outer b (p ∷ ps) [] fails is = absurd is

one_lead : (b : ℕ) (p : List ℕ) → (b == 32) ≡ true → without_outer_spaces (b ∷ p) ≡ without_outer_spaces p
one_lead b p holds = rw holds refl

onto_lead : (b : ℕ) (ps qs : Pieces) → (b == 32) ≡ true → FirstAlike true ps qs → FirstAlike true (onto_first b ps) qs
onto_lead b (p ∷ ps) (q ∷ qs) holds is = (one_lead b p holds ∙ is.0, is.1)
onto_lead b [] [] holds is = absurd is
onto_lead b [] (q ∷ qs) holds is = absurd is
onto_lead b (p ∷ ps) [] holds is = absurd is

-- the first piece is of spaces alone
abbrev FirstBlank : Pieces → Type 0
FirstBlank [] = ⊥
FirstBlank (p ∷ ps) = without_trailing_spaces p ≡ []

one_blank : (b : ℕ) (p : List ℕ) → (b == 32) ≡ true → without_trailing_spaces p ≡ [] → onto_kept b (without_trailing_spaces p) ≡ []
one_blank b p holds blank = rw (blank, holds) refl

onto_blank : (b : ℕ) (ps : Pieces) → (b == 32) ≡ true → FirstBlank ps → FirstBlank (onto_first b ps)
onto_blank b [] holds is = absurd is
onto_blank b (p ∷ ps) holds is = one_blank b p holds is

onto_trail : (b : ℕ) (ps qs : Pieces) → (b == 32) ≡ true → FirstBlank ps → FirstAlike false ps qs → FirstAlike false (onto_first b ps) qs
onto_trail b (p ∷ ps) (q ∷ qs) holds blank is = (one_blank b p holds blank ∙ sym blank ∙ is.0, is.1)
onto_trail b [] [] holds blank is = absurd is
onto_trail b [] (q ∷ qs) holds blank is = absurd is
onto_trail b (p ∷ ps) [] holds blank is = absurd is

-- ---- the pieces of a text and of the trimmed one

-- two of them, by equal ones
by_equal : (before : Bool) (ps qs rs ts : Pieces) → ps ≡ rs → qs ≡ ts → FirstAlike before rs ts → FirstAlike before ps qs
by_equal before ps qs rs ts e f is = rw (e, f) is

other_or : (a b : Bool) → a ≡ false → (a || b) ≡ true → b ≡ true
other_or a b fails is = rw fails at is

left_and : (a b : Bool) → (a && b) ≡ true → a ≡ true
left_and true b is = refl
left_and false b is = is

right_and : (a b : Bool) → (a && b) ≡ true → b ≡ true
right_and true b is = is
right_and false true is = refl
right_and false false is = is

blank : (xs : List ℕ) → is_end xs ≡ true → FirstBlank (pieces_of xs)
blank [] end = refl
blank (b ∷ bs) end = elim (cases_Bool (b == 44)) [
  | inl holds ↦ subst FirstBlank (sym (slice_split-cons_yes (λ (c : ℕ). c == 44) b bs holds)) refl
  | inr fails ↦
      let spaces : ((b == 32) && is_end bs) ≡ true = other_or (b == 44) ((b == 32) && is_end bs) fails end in
      subst FirstBlank (sym (slice_split-cons_no (λ (c : ℕ). c == 44) b bs fails))
      (onto_blank b (pieces_of bs) (left_and (b == 32) (is_end bs) spaces) (blank bs (right_and (b == 32) (is_end bs) spaces)))
]

-- after a comma
comma_alike : (before : Bool) (b : ℕ) (bs : List ℕ) → (b == 44) ≡ true → FirstAlike true (pieces_of bs) (pieces_of (trimmed true bs))
    → FirstAlike before (pieces_of (b ∷ bs)) (pieces_of (trimmed before (b ∷ bs)))
comma_alike before b bs holds more =
    by_equal before (pieces_of (b ∷ bs)) (pieces_of (trimmed before (b ∷ bs))) ([] ∷ pieces_of bs) ([] ∷ pieces_of (trimmed true bs))
    (slice_split-cons_yes (λ (c : ℕ). c == 44) b bs holds)
    (ap pieces_of (cut_comma before b bs holds) ∙ slice_split-cons_yes (λ (c : ℕ). c == 44) b (trimmed true bs) holds)
    (first_nothing before (pieces_of bs) (pieces_of (trimmed true bs)) (all_alike (pieces_of bs) (pieces_of (trimmed true bs)) more))
  where
    first_nothing : (t : Bool) (ps qs : Pieces) → AreAlike ps qs → FirstAlike t ([] ∷ ps) ([] ∷ qs)
    first_nothing true ps qs is = (refl, is)
    first_nothing false ps qs is = (refl, is)

-- a byte that stays
kept_alike : (before : Bool) (b : ℕ) (bs : List ℕ) → (b == 44) ≡ false → is_dropped before b bs ≡ false
    → FirstAlike before (onto_first b (pieces_of bs)) (onto_first b (pieces_of (trimmed false bs)))
    → FirstAlike before (pieces_of (b ∷ bs)) (pieces_of (trimmed before (b ∷ bs)))
kept_alike before b bs fails kept more =
    by_equal before (pieces_of (b ∷ bs)) (pieces_of (trimmed before (b ∷ bs))) (onto_first b (pieces_of bs)) (onto_first b (pieces_of (trimmed false bs)))
    (slice_split-cons_no (λ (c : ℕ). c == 44) b bs fails)
    (ap pieces_of (cut_kept before b bs fails kept) ∙ slice_split-cons_no (λ (c : ℕ). c == 44) b (trimmed false bs) fails)
    more

-- a space that goes
dropped_alike : (before : Bool) (b : ℕ) (bs : List ℕ) → (b == 44) ≡ false → is_dropped before b bs ≡ true
    → FirstAlike before (onto_first b (pieces_of bs)) (pieces_of (trimmed before bs))
    → FirstAlike before (pieces_of (b ∷ bs)) (pieces_of (trimmed before (b ∷ bs)))
dropped_alike before b bs fails dropped more =
    by_equal before (pieces_of (b ∷ bs)) (pieces_of (trimmed before (b ∷ bs))) (onto_first b (pieces_of bs)) (pieces_of (trimmed before bs))
    (slice_split-cons_no (λ (c : ℕ). c == 44) b bs fails) (ap pieces_of (cut_dropped before b bs dropped)) more

pub pieces_alike : (before : Bool) (xs : List ℕ) → FirstAlike before (pieces_of xs) (pieces_of (trimmed before xs))
pieces_alike true [] = (refl, tt)
pieces_alike false [] = (refl, tt)
pieces_alike true (b ∷ bs) = elim (cases_Bool (b == 44)) [
  | inl comma ↦ comma_alike true b bs comma (pieces_alike true bs)
  | inr fails ↦ elim (cases_Bool (b == 32)) [
    | inl space ↦
        let dropped : is_dropped true b bs ≡ true = rw space refl in
        dropped_alike true b bs fails dropped (onto_lead b (pieces_of bs) (pieces_of (trimmed true bs)) space (pieces_alike true bs))
    | inr plain ↦
        let kept : is_dropped true b bs ≡ false = rw plain refl in
        kept_alike true b bs fails kept (onto_outer b (pieces_of bs) (pieces_of (trimmed false bs)) plain (pieces_alike false bs))
  ]
]
pieces_alike false (b ∷ bs) = elim (cases_Bool (b == 44)) [
  | inl comma ↦ comma_alike false b bs comma (pieces_alike true bs)
  | inr fails ↦ elim (cases_Bool (is_dropped false b bs)) [
    | inl dropped ↦
        let space : (b == 32) ≡ true = left_and (b == 32) (false || is_end bs) dropped in
        let end : is_end bs ≡ true = right_and (b == 32) (false || is_end bs) dropped in
        dropped_alike false b bs fails dropped (onto_trail b (pieces_of bs) (pieces_of (trimmed false bs)) space (blank bs end) (pieces_alike false bs))
    | inr kept ↦ kept_alike false b bs fails kept (onto_trailing b (pieces_of bs) (pieces_of (trimmed false bs)) (pieces_alike false bs))
  ]
]

-- ---- their number

back_alike : (ps qs : Pieces) → AreAlike ps qs → AreAlike qs ps
back_alike [] [] is = tt
back_alike (p ∷ ps) (q ∷ qs) is = (sym is.0, back_alike ps qs is.1)
back_alike [] (q ∷ qs) is = absurd is
back_alike (p ∷ ps) [] is = absurd is

as_many : (ps qs : Pieces) → AreAlike ps qs → length ps ≡ length qs
as_many [] [] is = refl
as_many (p ∷ ps) (q ∷ qs) is = ap suc (as_many ps qs is.1)
as_many [] (q ∷ qs) is = absurd is
as_many (p ∷ ps) [] is = absurd is

joins : (e : EnumerationModel) (ps qs : Pieces) (k n : ℤ) → AreAlike ps qs → JoinsTo e ps k n → JoinsTo e qs k n
joins e [] [] k n is joined = joined
joins e (p ∷ ps) (q ∷ qs) k n is joined =
    let P : List ℕ → Type 0 = λ (s : List ℕ). (s ≢ []) × NameOrNumber e s joined.0 in
    (joined.0, subst P is.0 joined.1, joins e ps qs (int_bit_or w64 k joined.0) n is.1 joined.2)
joins e [] (q ∷ qs) k n is joined = absurd is
joins e (p ∷ ps) [] k n is joined = absurd is

valued : (e : EnumerationModel) (a b : List ℕ) (n : ℤ) → AreAlike (pieces_of a) (pieces_of b) → EnumerationValue e a n → EnumerationValue e b n
valued e a b n is value = record {
  joined = joins e (pieces_of a) (pieces_of b) (pos 0) n is value.joined;
  one_piece = λ plain. sym (as_many (pieces_of a) (pieces_of b) is) ∙ value.one_piece plain;
}

pub same_numbers : (e : EnumerationModel) (inner : List ℕ) → HaveSameValues (EnumerationValue e) inner (trimmed true inner)
same_numbers e inner =
    let are : AreAlike (pieces_of inner) (pieces_of (trimmed true inner)) =
    all_alike (pieces_of inner) (pieces_of (trimmed true inner)) (pieces_alike true inner) in
    record {
      to = λ n value. valued e inner (trimmed true inner) n are value;
      from = λ n value. valued e (trimmed true inner) inner n (back_alike (pieces_of inner) (pieces_of (trimmed true inner)) are) value;
    }
