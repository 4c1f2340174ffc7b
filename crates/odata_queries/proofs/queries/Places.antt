-- Where the pieces of a query stand in it.
use Rattle.std.specs.List.{join_with_byte}
use Rattle.std.specs.Prelude.{slice_range}
use Rattle.std.proofs.lemmas.List.{drop-append-le, drop_all}
use Rattle.std.proofs.lemmas.List.Splits.{join_with_byte-slice_split}
use Rattle.std.proofs.lemmas.List.Sums.{sum_by-cons}
use Rattle.odata_queries.proofs.Common.{◌≡◌, ◌⊎◌, ⊎_elim, ℕ, ◌+◌, ◌-◌, ◌<◌, ◌≤◌, zero, suc, List, [], ◌∷◌, ◌++◌, length, length-append, length-drop, append-nil, append_assoc, take, drop, drop-drop, drop_at, take_at, get_or, Some, true, arith, refl, sym, ◌∙◌, ap, subst, cases_lt, percent_decode, is_filter, option_start, options_of, value_of}
use Rattle.odata_queries.specs.Find.{FoundModel, IsFoundIn, IsPlaced, found_in}
use Rattle.odata_queries.proofs.queries.QueryLoops.{name-room, next-room}

drop-past : (xs ys : List ℕ) (n : ℕ) → drop (length xs + n) (xs ++ ys) ≡ drop n ys
drop-past xs ys n = sym (drop-drop n (length xs) (xs ++ ys)) ∙ ap (drop n) (drop_at xs ys (length xs) refl)

marked : (piece rest : List ℕ) → piece ++ 38 ∷ rest ≡ (piece ++ 38 ∷ []) ++ rest
marked piece rest = rw append_assoc refl

-- from where a piece begins, the pieces joined go on with it
stands : (pieces : List (List ℕ)) (n : ℕ) → n < length pieces → (rest : List ℕ) × (drop (option_start pieces n) (join_with_byte 38 pieces) ≡ get_or pieces n [] ++ rest)
stands [] n inside = absurd (omega arith)
stands (piece ∷ []) zero inside = ([], sym (append-nil piece))
stands (piece ∷ []) (suc n) inside = absurd (omega arith)
stands (piece ∷ next ∷ more) zero inside = (38 ∷ join_with_byte 38 (next ∷ more), refl)
stands (piece ∷ next ∷ more) (suc n) inside =
    let further = stands (next ∷ more) n (omega arith) in
    let mark = length-append piece (38 ∷ []) in
    let sum = sum_by-cons (λ (p : List ℕ). length p + 1) piece (take n (next ∷ more)) in
    let begins : option_start (piece ∷ next ∷ more) (suc n) ≡ length (piece ++ 38 ∷ []) + option_start (next ∷ more) n = omega arith in (
      further.0,
      ap (λ (k : ℕ). drop k (piece ++ 38 ∷ join_with_byte 38 (next ∷ more))) begins
          ∙ ap (drop (length (piece ++ 38 ∷ []) + option_start (next ∷ more) n)) (marked piece (join_with_byte 38 (next ∷ more)))
          ∙ drop-past (piece ++ 38 ∷ []) (join_with_byte 38 (next ∷ more)) (option_start (next ∷ more) n)
          ∙ further.1,
    )

stands-in : (query : List ℕ) (n : ℕ) → n < length (options_of query) → (rest : List ℕ) × (drop (option_start (options_of query) n) query ≡ get_or (options_of query) n [] ++ rest)
stands-in query n inside =
    subst (λ (bytes : List ℕ). (rest : List ℕ) × (drop (option_start (options_of query) n) bytes ≡ get_or (options_of query) n [] ++ rest)) (join_with_byte-slice_split 38 query) (stands (options_of query) n inside)

-- what a list ends in, by its length
ending : (xs : List ℕ) (k : ℕ) → drop (length xs - length (drop k xs)) xs ≡ drop k xs
ending xs k = ⊎_elim
    (λ (inside : k < length xs). let size = length-drop k xs in let same : length xs - length (drop k xs) ≡ k = omega arith in ap (λ (n : ℕ). drop n xs) same)
    (λ (past : length xs ≤ k). let size = length-drop k xs in drop_all (length xs - length (drop k xs)) xs (omega arith) ∙ sym (drop_all k xs past))
    (cases_lt k (length xs))

value-ends : (piece : List ℕ) → drop (length piece - length (value_of piece)) piece ≡ value_of piece
unfolding value_of
value-ends piece = ending piece _

piece-there : (query piece rest : List ℕ) (start : ℕ) → drop start query ≡ piece ++ rest → slice_range query start (start + length piece) ≡ piece
piece-there query piece rest start there =
    let size : start + length piece - start ≡ length piece = omega arith in
    ap (λ (n : ℕ). take n (drop start query)) size ∙ ap (take (length piece)) there ∙ take_at piece rest (length piece) refl

value-there : (query piece rest : List ℕ) (start : ℕ) → drop start query ≡ piece ++ rest → slice_range query (start + length piece - length (value_of piece)) (start + length piece) ≡ value_of piece
value-there query piece rest start there =
    let room = name-room piece in
    let before = length piece - length (value_of piece) in
    let at : start + length piece - length (value_of piece) ≡ start + before = omega arith in
    let size : start + length piece - (start + length piece - length (value_of piece)) ≡ length (value_of piece) = omega arith in
    let from : drop (start + before) query ≡ value_of piece ++ rest = sym (drop-drop before start query) ∙ ap (drop before) there ∙ drop-append-le before piece rest (omega arith) ∙ ap (λ (xs : List ℕ). xs ++ rest) (value-ends piece) in
    ap (λ (n : ℕ). take n (drop (start + length piece - length (value_of piece)) query)) size
    ∙ ap (λ (n : ℕ). take (length (value_of piece)) (drop n query)) at
    ∙ ap (take (length (value_of piece))) from
    ∙ take_at (value_of piece) rest (length (value_of piece)) refl

placed-at : (query : List ℕ) (number : ℕ) → number < length (options_of query) → is_filter (get_or (options_of query) number []) ≡ true → IsPlaced query (found_in (get_or (options_of query) number []) (option_start (options_of query) number))
unfolding found_in
placed-at query number inside filter =
    let piece = get_or (options_of query) number [] in
    let start = option_start (options_of query) number in
    let there = stands-in query number inside in
    let room = name-room piece in
    record {
      within = next-room query piece (take number (options_of query)) number start refl (record { within = inside; before = refl; at = refl });
      ends = refl;
      after = omega arith;
      order = omega arith;
      filter = ap is_filter (piece-there query piece there.0 start there.1) ∙ filter;
      text = ap percent_decode (value-there query piece there.0 start there.1);
    }

pub found_placed : (query : List ℕ) (found : FoundModel) → IsFoundIn query (Some found) → IsPlaced query found
found_placed query found asked =
    let at = asked.has.1 in
    subst (IsPlaced query) (sym at.gives) (placed-at query asked.has.0 at.within at.filter)
