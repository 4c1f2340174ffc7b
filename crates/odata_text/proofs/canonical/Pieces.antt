-- Enumeration literals without the spaces round their pieces.
use Rattle.std.proofs.lemmas.Bool.{cond_both, not-true}
use Rattle.odata_text.proofs.Common.{cond-true, cond-false, list_all, ◌≡◌, ⊎_elim, ℕ, ◌==◌, ◌||◌, ◌&&◌, Bool, true, false, cond, List, [], ◌∷◌, ◌++◌, length, arith, refl, sym, ◌∙◌, ap, subst, and_left, and_parts, both_ways, cases_Bool, eqb-true, ne_eqb, IsStringSpelling, with_doubled_quotes, enumeration_spelling, FollowedBy, IsDottedWord}
use Rattle.odata_text.specs.LiteralSpelling.{is_piece_end, trimmed_pieces}
use Rattle.odata_text.proofs.spellings.Parts.{dotted-unquoted, is_unquoted}

-- What is left is spelled as a text in quotes.

record IsQuoted (xs : List ℕ) : Type 0 where
  value : List ℕ
  is : xs ≡ with_doubled_quotes value ++ 39 ∷ []

trimmed-quoted : (before : Bool) (value : List ℕ) → IsQuoted (trimmed_pieces before (with_doubled_quotes value ++ 39 ∷ []))
trimmed-quoted before [] = record { value = []; is = refl }
trimmed-quoted before (b ∷ bs) =
    ⊎_elim
    (λ quote.
    let more = trimmed-quoted false bs in
    subst (λ (c : ℕ). IsQuoted (trimmed_pieces before (with_doubled_quotes (c ∷ bs) ++ 39 ∷ []))) (sym (eqb-true b 39 quote))
    (record { value = 39 ∷ more.value; is = ap (λ (ys : List ℕ). 39 ∷ 39 ∷ ys) more.is }))
    (λ plain.
    let more = trimmed-quoted (b == 44) bs in
    rw plain
    (cond_both ((b == 32) && (before || is_piece_end (with_doubled_quotes bs ++ 39 ∷ []))) _ _ IsQuoted
    (λ dropped. trimmed-quoted before bs)
    (λ kept. record { value = b ∷ more.value; is = rw plain (ap (λ (ys : List ℕ). b ∷ ys) more.is) })))
    (cases_Bool (b == 39))

-- up to the first quote nothing is left out
enumeration-past : (word ys : List ℕ) → list_all is_unquoted word ≡ true → enumeration_spelling (word ++ 39 ∷ ys) ≡ word ++ 39 ∷ trimmed_pieces true ys
enumeration-past [] ys none = refl
enumeration-past (b ∷ word) ys none =
    let parts = and_parts (is_unquoted b) (list_all is_unquoted word) none in
    let plain : (b == 39) ≡ false = not-true (b == 39) parts.0 in
    let more = enumeration-past word ys parts.1 in
    rw plain (ap (λ (xs : List ℕ). b ∷ xs) more)

pub trimmed-enumeration : (text : List ℕ) → FollowedBy IsDottedWord IsStringSpelling text → FollowedBy IsDottedWord IsStringSpelling (enumeration_spelling text)
trimmed-enumeration text pair =
    let quoted = trimmed-quoted true pair.is_back.0 in
    record {
      front = pair.front;
      back = 39 ∷ with_doubled_quotes quoted.value ++ 39 ∷ [];
      whole = ap enumeration_spelling (pair.whole ∙ ap (λ (ys : List ℕ). pair.front ++ ys) pair.is_back.1)
          ∙ enumeration-past pair.front (with_doubled_quotes pair.is_back.0 ++ 39 ∷ []) (dotted-unquoted pair.front pair.is_front)
          ∙ ap (λ (ys : List ℕ). pair.front ++ 39 ∷ ys) quoted.is;
      is_front = pair.is_front;
      is_back = (quoted.value, refl);
    }

-- Nothing more is left out of what is left.

-- whether the byte in front is left out
abbrev is_dropped : Bool → ℕ → List ℕ → Bool
is_dropped before b bs = (b == 32) && (before || is_piece_end bs)

step-dropped : (before : Bool) (b : ℕ) (bs : List ℕ) → is_dropped before b bs ≡ true → trimmed_pieces before (b ∷ bs) ≡ trimmed_pieces before bs
step-dropped before b bs dropped = cond-true (is_dropped before b bs) (trimmed_pieces before bs) (b ∷ trimmed_pieces (b == 44) bs) dropped

step-kept : (before : Bool) (b : ℕ) (bs : List ℕ) → is_dropped before b bs ≡ false → trimmed_pieces before (b ∷ bs) ≡ b ∷ trimmed_pieces (b == 44) bs
step-kept before b bs kept = cond-false (is_dropped before b bs) (trimmed_pieces before bs) (b ∷ trimmed_pieces (b == 44) bs) kept

nonempty : (b : ℕ) (bs : List ℕ) → (length (b ∷ bs) == 0) ≡ false
nonempty b bs = ne_eqb (length (b ∷ bs)) 0 (λ none. omega arith)

end-nonempty : (bs : List ℕ) → is_piece_end bs ≡ true → (length bs == 0) ≡ false
end-nonempty [] ends = absurd (both_ways false refl ends)
end-nonempty (b ∷ bs) ends = nonempty b bs

trimmed-empty : (bs : List ℕ) → (length (trimmed_pieces false bs) == 0) ≡ (length bs == 0)
trimmed-empty [] = refl
trimmed-empty (b ∷ bs) =
    ⊎_elim
    (λ dropped.
    let ends = (and_parts (b == 32) (is_piece_end bs) dropped).1 in
    rw dropped (trimmed-empty bs ∙ end-nonempty bs ends ∙ sym (nonempty b bs)))
    (λ kept. rw kept (nonempty b (trimmed_pieces (b == 44) bs) ∙ sym (nonempty b bs)))
    (cases_Bool (is_dropped false b bs))

space-end : (b : ℕ) (bs : List ℕ) → b ≡ 32 → is_piece_end (b ∷ bs) ≡ is_piece_end bs
space-end b bs space = subst (λ (c : ℕ). is_piece_end (c ∷ bs) ≡ is_piece_end bs) (sym space) refl

comma-end : (b : ℕ) (bs : List ℕ) → (b == 44) ≡ true → is_piece_end (b ∷ bs) ≡ true
comma-end b bs comma = ap (λ (t : Bool). t || (((b == 39) && (length bs == 0)) || ((b == 32) && is_piece_end bs))) comma

kept-end : (b : ℕ) (bs : List ℕ) → is_piece_end (trimmed_pieces false bs) ≡ is_piece_end bs → is_piece_end (b ∷ trimmed_pieces (b == 44) bs) ≡ is_piece_end (b ∷ bs)
kept-end b bs same =
    ⊎_elim
    (λ comma. comma-end b (trimmed_pieces (b == 44) bs) comma ∙ sym (comma-end b bs comma))
    (λ other.
    ap (λ (t : Bool). is_piece_end (b ∷ trimmed_pieces t bs)) other
    ∙ (λ i. (b == 44) || (((b == 39) && trimmed-empty bs i) || ((b == 32) && same i))))
    (cases_Bool (b == 44))

trimmed-end : (bs : List ℕ) → is_piece_end (trimmed_pieces false bs) ≡ is_piece_end bs
trimmed-end [] = refl
trimmed-end (b ∷ bs) =
    ⊎_elim
    (λ dropped.
    let space = (and_parts (b == 32) (is_piece_end bs) dropped).0 in
    ap is_piece_end (step-dropped false b bs dropped) ∙ trimmed-end bs ∙ sym (space-end b bs (eqb-true b 32 space)))
    (λ kept. ap is_piece_end (step-kept false b bs kept) ∙ kept-end b bs (trimmed-end bs))
    (cases_Bool (is_dropped false b bs))

-- a byte that was kept is kept again
kept-again : (before : Bool) (b : ℕ) (bs : List ℕ) → is_dropped before b bs ≡ false → is_dropped before b (trimmed_pieces (b == 44) bs) ≡ false
kept-again before b bs kept =
    ⊎_elim
    (λ space.
    let other : (b == 44) ≡ false = ap (λ (c : ℕ). c == 44) (eqb-true b 32 space) in
    ap (λ (t : Bool). is_dropped before b (trimmed_pieces t bs)) other
    ∙ ap (λ (t : Bool). (b == 32) && (before || t)) (trimmed-end bs) ∙ kept)
    (λ other. and_left (b == 32) (before || is_piece_end (trimmed_pieces (b == 44) bs)) other)
    (cases_Bool (b == 32))

trimmed-again : (before : Bool) (bs : List ℕ) → trimmed_pieces before (trimmed_pieces before bs) ≡ trimmed_pieces before bs
trimmed-again before [] = refl
trimmed-again before (b ∷ bs) =
    ⊎_elim
    (λ dropped. ap (trimmed_pieces before) (step-dropped before b bs dropped) ∙ trimmed-again before bs ∙ sym (step-dropped before b bs dropped))
    (λ kept.
    ap (trimmed_pieces before) (step-kept before b bs kept)
    ∙ step-kept before b (trimmed_pieces (b == 44) bs) (kept-again before b bs kept)
    ∙ ap (λ (xs : List ℕ). b ∷ xs) (trimmed-again (b == 44) bs)
    ∙ sym (step-kept before b bs kept))
    (cases_Bool (is_dropped before b bs))

behind-quote : (t : Bool) (bs : List ℕ) → enumeration_spelling (enumeration_spelling bs) ≡ enumeration_spelling bs
    → cond t (trimmed_pieces true (cond t (trimmed_pieces true bs) (enumeration_spelling bs))) (enumeration_spelling (cond t (trimmed_pieces true bs) (enumeration_spelling bs))) ≡ cond t (trimmed_pieces true bs) (enumeration_spelling bs)
behind-quote true bs again = trimmed-again true bs
behind-quote false bs again = again

pub enumeration-again : (bs : List ℕ) → enumeration_spelling (enumeration_spelling bs) ≡ enumeration_spelling bs
enumeration-again [] = refl
enumeration-again (b ∷ bs) = ap (λ (xs : List ℕ). b ∷ xs) (behind-quote (b == 39) bs (enumeration-again bs))
