-- What is left of the text between the quotes of an enumeration literal, piece by piece.
use Rattle.std.proofs.Common.{◌≡◌, ◌≢◌, refl, sym, ap, ◌∙◌, subst, inl, inr, ℕ, ◌==◌, ◌||◌, List, [], ◌∷◌, ◌++◌, Bool, true, false, cond, length, map, suc, eqb-true, arith}
use Rattle.std.specs.List.{AllByRecursion, onto_first}
use Rattle.std.proofs.lemmas.Bool.Decides.{eqb_tells}
use Rattle.edm_enumerations.specs.EnumerationValue.{pieces_of}
use Rattle.edm_enumerations.specs.Spaces.{onto_kept, without_outer_spaces, without_trailing_spaces}
use Rattle.odata_text.specs.LiteralSpelling.{enumeration_spelling, is_piece_end, trimmed_pieces}
use Rattle.odata_signatures.specs.EnumerationSpelling.{SpelledByPieces, joined_by_commas}

-- a text that the last quote ends
abbrev trimmed : Bool → List ℕ → List ℕ
trimmed before text = trimmed_pieces before (text ++ 39 ∷ [])

-- the pieces of a text that goes on in the first of them
abbrev trailed : List (List ℕ) → List (List ℕ)
trailed [] = []
trailed (piece ∷ pieces) = without_trailing_spaces piece ∷ map without_outer_spaces pieces

abbrev is_nothing : List ℕ → Bool
is_nothing [] = true
is_nothing (c ∷ cs) = false

-- nothing but spaces stands in the first piece
abbrev ends_at_once : List (List ℕ) → Bool
ends_at_once [] = true
ends_at_once (piece ∷ pieces) = is_nothing (without_trailing_spaces piece)

-- ---- there is a first piece

record HasFirst (pieces : List (List ℕ)) : Type 0 where
  pub piece : List ℕ
  pub more : List (List ℕ)
  pub is : pieces ≡ piece ∷ more

has_first : (text : List ℕ) → HasFirst (pieces_of text)
has_first [] = record { piece = []; more = []; is = refl }
has_first (c ∷ cs) = by (c == 44) (has_first cs)
  where
    by : (b : Bool) → HasFirst (pieces_of cs) → HasFirst (cond b ([] ∷ pieces_of cs) (onto_first c (pieces_of cs)))
    by true first = record { piece = []; more = pieces_of cs; is = refl }
    by false first = record { piece = c ∷ first.piece; more = first.more; is = ap (onto_first c) first.is }

-- ---- a character before what is kept of a piece

kept_space : (kept : List ℕ) → is_nothing (onto_kept 32 kept) ≡ is_nothing kept
kept_space [] = refl
kept_space (d ∷ ds) = refl

kept_other : (c : ℕ) (kept : List ℕ) → (c == 32) ≡ false → onto_kept c kept ≡ c ∷ kept
kept_other c [] other = rw other refl
kept_other c (d ∷ ds) other = refl

-- ---- where a piece ends

some_length : (cs : List ℕ) → (length (cs ++ 39 ∷ []) == 0) ≡ false
some_length [] = refl
some_length (c ∷ cs) = by (length (c ∷ (cs ++ 39 ∷ [])) == 0) refl
  where
    by : (b : Bool) → (length (c ∷ (cs ++ 39 ∷ [])) == 0) ≡ b → b ≡ false
    by false is = refl
    by true is = absurd (let none : suc (length (cs ++ 39 ∷ [])) ≡ 0 = eqb-true (suc (length (cs ++ 39 ∷ []))) 0 is in omega (arith, none))

module _ (cs : List ℕ) (first : HasFirst (pieces_of cs)) (before : is_piece_end (cs ++ 39 ∷ []) ≡ ends_at_once (pieces_of cs)) where
  end_known : is_piece_end (cs ++ 39 ∷ []) ≡ is_nothing (without_trailing_spaces first.piece)
  end_known = before ∙ ap ends_at_once first.is

  end_quote : is_piece_end (39 ∷ (cs ++ 39 ∷ [])) ≡ ends_at_once (onto_first 39 (pieces_of cs))
  end_quote =
      ap (λ (b : Bool). b || false) (some_length cs)
      ∙ sym (ap (λ (ps : List (List ℕ)). ends_at_once (onto_first 39 ps)) first.is ∙ ap is_nothing (kept_other 39 (without_trailing_spaces first.piece) refl))

  end_space : is_piece_end (32 ∷ (cs ++ 39 ∷ [])) ≡ ends_at_once (onto_first 32 (pieces_of cs))
  end_space =
      end_known
      ∙ sym (kept_space (without_trailing_spaces first.piece))
      ∙ sym (ap (λ (ps : List (List ℕ)). ends_at_once (onto_first 32 ps)) first.is)

  end_other : (c : ℕ) → (c == 44) ≡ false → (c == 39) ≡ false → (c == 32) ≡ false → is_piece_end (c ∷ (cs ++ 39 ∷ [])) ≡ ends_at_once (onto_first c (pieces_of cs))
  end_other c comma quote space =
      rw (comma, quote, space) refl
      ∙ sym (ap (λ (ps : List (List ℕ)). ends_at_once (onto_first c ps)) first.is ∙ ap is_nothing (kept_other c (without_trailing_spaces first.piece) space))

end_is : (text : List ℕ) → is_piece_end (text ++ 39 ∷ []) ≡ ends_at_once (pieces_of text)
end_is [] = refl
end_is (c ∷ cs) =
    elim (eqb_tells c 44) [
      | inl comma ↦ subst (λ (k : ℕ). is_piece_end (k ∷ (cs ++ 39 ∷ [])) ≡ ends_at_once (pieces_of (k ∷ cs))) (sym comma.1) refl
      | inr no_comma ↦
          elim (eqb_tells c 39) [
            | inl quote ↦ subst (λ (k : ℕ). is_piece_end (k ∷ (cs ++ 39 ∷ [])) ≡ ends_at_once (pieces_of (k ∷ cs))) (sym quote.1) (end_quote cs (has_first cs) (end_is cs))
            | inr no_quote ↦
                elim (eqb_tells c 32) [
                  | inl space ↦ subst (λ (k : ℕ). is_piece_end (k ∷ (cs ++ 39 ∷ [])) ≡ ends_at_once (pieces_of (k ∷ cs))) (sym space.1) (end_space cs (has_first cs) (end_is cs))
                  | inr no_space ↦
                      end_other cs (has_first cs) (end_is cs) c no_comma.0 no_quote.0 no_space.0
                      ∙ sym (ap (λ (b : Bool). ends_at_once (cond b ([] ∷ pieces_of cs) (onto_first c (pieces_of cs)))) no_comma.0)
                ]
          ]
    ]

-- ---- the pieces

joined_front : (c : ℕ) (piece : List ℕ) (pieces : List (List ℕ)) → c ∷ joined_by_commas (piece ∷ pieces) ≡ joined_by_commas ((c ∷ piece) ∷ pieces)
joined_front c piece [] = refl
joined_front c piece (next ∷ pieces) = refl

-- what is said of a text, after a comma or at the beginning, and within a piece
record IsTrimmed (text : List ℕ) : Type 0 where
  pub fresh : trimmed true text ≡ joined_by_commas (map without_outer_spaces (pieces_of text)) ++ 39 ∷ []
  pub within : trimmed false text ≡ joined_by_commas (trailed (pieces_of text)) ++ 39 ∷ []

module _ (cs : List ℕ) (first : HasFirst (pieces_of cs)) (rest : IsTrimmed cs) where
  abbrev piece : List ℕ
  piece = first.piece

  abbrev others : List (List ℕ)
  others = map without_outer_spaces first.more

  rest_fresh : trimmed true cs ≡ joined_by_commas (without_outer_spaces piece ∷ others) ++ 39 ∷ []
  rest_fresh = rest.fresh ∙ ap (λ (ps : List (List ℕ)). joined_by_commas (map without_outer_spaces ps) ++ 39 ∷ []) first.is

  rest_within : trimmed false cs ≡ joined_by_commas (without_trailing_spaces piece ∷ others) ++ 39 ∷ []
  rest_within = rest.within ∙ ap (λ (ps : List (List ℕ)). joined_by_commas (trailed ps) ++ 39 ∷ []) first.is

  at_comma : IsTrimmed (44 ∷ cs)
  at_comma = record {
    fresh =
        ap (λ (bs : List ℕ). 44 ∷ bs) rest_fresh
        ∙ sym (ap (λ (ps : List (List ℕ)). joined_by_commas (map without_outer_spaces ([] ∷ ps)) ++ 39 ∷ []) first.is);
    within =
        ap (λ (bs : List ℕ). 44 ∷ bs) rest_fresh
        ∙ sym (ap (λ (ps : List (List ℕ)). joined_by_commas (trailed ([] ∷ ps)) ++ 39 ∷ []) first.is);
  }

  within_space : (kept : List ℕ) → trimmed false cs ≡ joined_by_commas (kept ∷ others) ++ 39 ∷ []
      → cond (is_nothing kept) (trimmed false cs) (32 ∷ trimmed false cs) ≡ joined_by_commas (onto_kept 32 kept ∷ others) ++ 39 ∷ []
  within_space [] is = is
  within_space (d ∷ ds) is = ap (λ (bs : List ℕ). 32 ∷ bs) is ∙ ap (λ (bs : List ℕ). bs ++ 39 ∷ []) (joined_front 32 (d ∷ ds) others)

  at_space : IsTrimmed (32 ∷ cs)
  at_space = record {
    fresh = rest_fresh ∙ sym (ap (λ (ps : List (List ℕ)). joined_by_commas (map without_outer_spaces (onto_first 32 ps)) ++ 39 ∷ []) first.is);
    within =
        ap (λ (b : Bool). cond b (trimmed false cs) (32 ∷ trimmed false cs)) (end_is cs ∙ ap ends_at_once first.is)
        ∙ within_space (without_trailing_spaces piece) rest_within
        ∙ sym (ap (λ (ps : List (List ℕ)). joined_by_commas (trailed (onto_first 32 ps)) ++ 39 ∷ []) first.is);
  }

  module _ (c : ℕ) (no_comma : (c == 44) ≡ false) (no_space : (c == 32) ≡ false) where
    step : (before : Bool) → trimmed before (c ∷ cs) ≡ c ∷ trimmed false cs
    step before = rw (no_space, no_comma) refl

    pieces : pieces_of (c ∷ cs) ≡ (c ∷ piece) ∷ first.more
    pieces = ap (λ (b : Bool). cond b ([] ∷ pieces_of cs) (onto_first c (pieces_of cs))) no_comma ∙ ap (onto_first c) first.is

    outer : without_outer_spaces (c ∷ piece) ≡ c ∷ without_trailing_spaces piece
    outer = rw no_space (kept_other c (without_trailing_spaces piece) no_space)

    kept : c ∷ (joined_by_commas (without_trailing_spaces piece ∷ others) ++ 39 ∷ []) ≡ joined_by_commas ((c ∷ without_trailing_spaces piece) ∷ others) ++ 39 ∷ []
    kept = ap (λ (bs : List ℕ). bs ++ 39 ∷ []) (joined_front c (without_trailing_spaces piece) others)

    at_other : IsTrimmed (c ∷ cs)
    at_other = record {
      fresh =
          step true
          ∙ ap (λ (bs : List ℕ). c ∷ bs) rest_within
          ∙ kept
          ∙ ap (λ (p : List ℕ). joined_by_commas (p ∷ others) ++ 39 ∷ []) (sym outer)
          ∙ sym (ap (λ (ps : List (List ℕ)). joined_by_commas (map without_outer_spaces ps) ++ 39 ∷ []) pieces);
      within =
          step false
          ∙ ap (λ (bs : List ℕ). c ∷ bs) rest_within
          ∙ kept
          ∙ ap (λ (p : List ℕ). joined_by_commas (p ∷ others) ++ 39 ∷ []) (sym (kept_other c (without_trailing_spaces piece) no_space))
          ∙ sym (ap (λ (ps : List (List ℕ)). joined_by_commas (trailed ps) ++ 39 ∷ []) pieces);
    }

is_trimmed : (text : List ℕ) → IsTrimmed text
is_trimmed [] = record { fresh = refl; within = refl }
is_trimmed (c ∷ cs) =
    elim (eqb_tells c 44) [
      | inl comma ↦ subst (λ (k : ℕ). IsTrimmed (k ∷ cs)) (sym comma.1) (at_comma cs (has_first cs) (is_trimmed cs))
      | inr no_comma ↦
          elim (eqb_tells c 32) [
            | inl space ↦ subst (λ (k : ℕ). IsTrimmed (k ∷ cs)) (sym space.1) (at_space cs (has_first cs) (is_trimmed cs))
            | inr no_space ↦ at_other cs (has_first cs) (is_trimmed cs) c no_comma.0 no_space.0
          ]
    ]

-- ---- past the name

past_name : (called text : List ℕ) → AllByRecursion (λ c. c ≢ 39) called → enumeration_spelling (called ++ 39 ∷ text) ≡ called ++ 39 ∷ trimmed_pieces true text
past_name [] text none = refl
past_name (c ∷ cs) text none =
    elim (eqb_tells c 39) [
      | inl quote ↦ absurd (none.0 quote.1)
      | inr other ↦ rw other.0 (ap (λ (bs : List ℕ). c ∷ bs) (past_name cs text none.1))
    ]

pub spelled_by_pieces : SpelledByPieces
spelled_by_pieces called text none =
    past_name called (text ++ 39 ∷ []) none ∙ ap (λ (bs : List ℕ). called ++ 39 ∷ bs) (is_trimmed text).fresh
