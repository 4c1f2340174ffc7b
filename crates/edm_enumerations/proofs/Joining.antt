-- Pieces between commas, and the numbers that they are joined to.
use Rattle.std.proofs.Common.{◌≡◌, ◌≢◌, inl, inr, ℕ, zero, suc, ◌<◌, ℤ, pos, List, [], ◌∷◌, ◌++◌, length, get_or, arith, refl, sym, ◌∙◌, subst, Option, Some, None, IfSome, MatchOption, true}
use Rattle.std.specs.Int.{w64, int_bit_or}
use Rattle.std.specs.List.{onto_first}
use Rattle.std.proofs.lemmas.Bool.Decides.{eqb_tells}
use Rattle.edm_values.specs.declared.primitive.PrimitiveType.{PrimitiveType}
use Rattle.edm_values.specs.IntLiteral.{IntValue}
use Rattle.edm_values.specs.NumberTypes.{IsNumberType, IsNumberOf}
use Rattle.edm_enumerations.specs.EnumerationModel.{EnumerationModel, number_in}
use Rattle.edm_enumerations.specs.EnumerationValue.{EnumerationValue, JoinsTo, PieceNumber, pieces_of}
use Rattle.edm_enumerations.specs.Spaces.{without_outer_spaces}
use Rattle.edm_enumerations.proofs.Ranges.{or_within, zero_within}

-- ---- pieces

-- a text without a comma is one piece
pub pieces-alone : (text : List ℕ) → ((i : ℕ) → i < length text → get_or text i 0 ≢ 44) → pieces_of text ≡ text ∷ []
pieces-alone [] none = refl
pieces-alone (c ∷ cs) none =
    elim (eqb_tells c 44) [
      | inl same ↦ absurd (none 0 (omega arith) same.1)
      | inr other ↦ rw (other.0, pieces-alone cs (λ i below. none (suc i) (omega arith))) refl
    ]

-- the first piece ends at the first comma
pub pieces-first : (piece behind : List ℕ) → ((i : ℕ) → i < length piece → get_or piece i 0 ≢ 44) → pieces_of (piece ++ 44 ∷ behind) ≡ piece ∷ pieces_of behind
pieces-first [] behind none = refl
pieces-first (c ∷ cs) behind none =
    elim (eqb_tells c 44) [
      | inl same ↦ absurd (none 0 (omega arith) same.1)
      | inr other ↦ rw (other.0, pieces-first cs behind (λ i below. none (suc i) (omega arith))) refl
    ]

put_on : (c : ℕ) (ps : List (List ℕ)) → 0 < length (onto_first c ps)
put_on c [] = omega arith
put_on c (p ∷ ps) = omega arith

some_piece : (text : List ℕ) → 0 < length (pieces_of text)
some_piece [] = omega arith
some_piece (c ∷ cs) =
    elim (eqb_tells c 44) [
      | inl same ↦ rw same.0 (omega arith)
      | inr other ↦ rw other.0 (put_on c (pieces_of cs))
    ]

as_many : (c : ℕ) (ps : List (List ℕ)) → 0 < length ps → length (onto_first c ps) ≡ length ps
as_many c [] some = absurd (omega arith)
as_many c (p ∷ ps) some = refl

comma_behind : (c : ℕ) (cs : List ℕ) (i : ℕ) → i < length (c ∷ cs) → get_or (c ∷ cs) i 0 ≡ 44 → c ≢ 44 → (j : ℕ) × (j < length cs) × (get_or cs j 0 ≡ 44)
comma_behind c cs zero below is other = absurd (other is)
comma_behind c cs (suc i) below is other = (i, omega arith, is)

-- with a comma there are two pieces or more
pub pieces-several : (text : List ℕ) (i : ℕ) → i < length text → get_or text i 0 ≡ 44 → 1 < length (pieces_of text)
pieces-several [] i below is = absurd (omega arith)
pieces-several (c ∷ cs) i below is =
    elim (eqb_tells c 44) [
      | inl same ↦ rw same.0 (let some : 0 < length (pieces_of cs) = some_piece cs in omega arith)
      | inr other ↦
          let behind = comma_behind c cs i below is other.1 in
          let several : 1 < length (pieces_of cs) = pieces-several cs behind.0 behind.1 behind.2 in
          rw (other.0, as_many c (pieces_of cs) (some_piece cs)) several
    ]

-- ---- one value

module _ (one_number : (text : List ℕ) (m n : ℤ) → IntValue text m → IntValue text n → m ≡ n) where
  same_named : (o : Option ℤ) (text : List ℕ) (type : PrimitiveType) (m n : ℤ) → MatchOption o (IntValue text m × IsNumberOf type m) (λ k. k ≡ m)
      → MatchOption o (IntValue text n × IsNumberOf type n) (λ k. k ≡ n) → m ≡ n
  same_named None text type m n first second = one_number text m n first.0 second.0
  same_named (Some k) text type m n first second = sym first ∙ second

  pub PieceNumber-same : (e : EnumerationModel) (piece : List ℕ) (m n : ℤ) → PieceNumber e piece m → PieceNumber e piece n → m ≡ n
  PieceNumber-same e piece m n first second =
      same_named (number_in e.members (without_outer_spaces piece)) (without_outer_spaces piece) e.underlying m n first.1 second.1

  pub JoinsTo-same : (e : EnumerationModel) (pieces : List (List ℕ)) (so_far m n : ℤ) → JoinsTo e pieces so_far m → JoinsTo e pieces so_far n → m ≡ n
  JoinsTo-same e [] so_far m n first second = sym first ∙ second
  JoinsTo-same e (piece ∷ pieces) so_far m n first second =
      JoinsTo-same e pieces (int_bit_or w64 so_far first.0) m n first.2
      (subst (λ (k : ℤ). JoinsTo e pieces (int_bit_or w64 so_far k) n) (sym (PieceNumber-same e piece first.0 second.0 first.1 second.1)) second.2)

-- ---- the pieces that are left

-- from the number so far, the pieces that are left are joined to what all are joined to
pub record IsJoinedSoFar (e : EnumerationModel) (text rest : List ℕ) (so_far : ℤ) : Type 0 where
  pub joins : (n : ℤ) → JoinsTo e (pieces_of rest) so_far n → JoinsTo e (pieces_of text) (pos 0) n
  pub only : (n : ℤ) → JoinsTo e (pieces_of text) (pos 0) n → JoinsTo e (pieces_of rest) so_far n
  pub within : IsNumberOf e.underlying so_far

-- at first all pieces are left
pub joined_none : (e : EnumerationModel) (text : List ℕ) → IsNumberType e.underlying → IsJoinedSoFar e text text (pos 0)
joined_none e text is = record { joins = λ n h. h; only = λ n h. h; within = zero_within e.underlying is }

module _ (e : EnumerationModel) (text rest piece : List ℕ) (pieces : List (List ℕ)) (so_far : ℤ) (s : IsJoinedSoFar e text rest so_far) (cut : pieces_of rest ≡ piece ∷ pieces) where
  left : (n : ℤ) → JoinsTo e (pieces_of text) (pos 0) n → JoinsTo e (piece ∷ pieces) so_far n
  left n whole = subst (λ ps. JoinsTo e ps so_far n) cut (s.only n whole)

  -- a piece without a number leaves none for the text
  pub joined_nowhere : ((k : ℤ) → ¬ (PieceNumber e piece k)) → (n : ℤ) → ¬ (JoinsTo e (pieces_of text) (pos 0) n)
  joined_nowhere none n whole = none (left n whole).0 (left n whole).1

  module _ (m : ℤ) (is : PieceNumber e piece m) (only : (k : ℤ) → PieceNumber e piece k → m ≡ k) where
    pub joined_all : (n : ℤ) → JoinsTo e pieces (int_bit_or w64 so_far m) n → JoinsTo e (pieces_of text) (pos 0) n
    joined_all n behind = s.joins n (subst (λ ps. JoinsTo e ps so_far n) (sym cut) (m, is, behind))

    pub joined_behind : (n : ℤ) → JoinsTo e (pieces_of text) (pos 0) n → JoinsTo e pieces (int_bit_or w64 so_far m) n
    joined_behind n whole =
        subst (λ k. JoinsTo e pieces (int_bit_or w64 so_far k) n) (sym (only (left n whole).0 (left n whole).1)) (left n whole).2

-- one piece more is joined
pub joined_more : (e : EnumerationModel) (text rest piece behind : List ℕ) (so_far m : ℤ) → IsJoinedSoFar e text rest so_far → pieces_of rest ≡ piece ∷ pieces_of behind
    → PieceNumber e piece m → ((k : ℤ) → PieceNumber e piece k → m ≡ k) → IsNumberOf e.underlying m → IsJoinedSoFar e text behind (int_bit_or w64 so_far m)
joined_more e text rest piece behind so_far m s cut is only within = record {
  joins = joined_all e text rest piece (pieces_of behind) so_far s cut m is only;
  only = joined_behind e text rest piece (pieces_of behind) so_far s cut m is only;
  within = or_within e.underlying so_far m s.within within;
}

-- what all pieces are joined to is the text's value, where there may be as many
pub joined_value : (e : EnumerationModel) (text : List ℕ) (o : Option ℤ) → IfSome o (JoinsTo e (pieces_of text) (pos 0))
    → (¬ (e.is_flags ≡ true) → length (pieces_of text) ≡ 1) → IfSome o (EnumerationValue e text)
joined_value e text None joined one = tt
joined_value e text (Some n) joined one = record { joined = joined; one_piece = one }
