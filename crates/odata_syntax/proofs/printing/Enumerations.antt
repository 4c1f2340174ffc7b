-- Enumeration literals, piece by piece.
use Rattle.std.specs.List.{list_any}
use Rattle.std.proofs.Common.{cond, ◌≡◌, ◌≢◌, ℕ, zero, suc, ◌<◌, ◌==◌, ◌||◌, ◌&&◌, Bool, true, false, List, [], ◌∷◌, ◌++◌, length, get_or, replicate, arith, refl, sym, ◌∙◌, ap, subst, append_assoc, length-append}
use Rattle.std.proofs.lemmas.Bool.{or_parts, and_left, and_right, cond-false, cond-true, ne_eqb}
use Rattle.std.proofs.Math.ListN.{get_or-append}
use Rattle.odata_text.specs.LiteralSpelling.{enumeration_spelling, is_piece_end, trimmed_pieces}

-- the byte is nowhere in the list
abbrev pub Lacks : ℕ → List ℕ → Type 0
Lacks b xs = (i : ℕ) → i < length xs → get_or xs i 0 ≢ b

lacks-first : (b x : ℕ) (xs : List ℕ) → Lacks b (x ∷ xs) → (x == b) ≡ false
lacks-first b x xs lacks = ne_eqb x b (lacks 0 (omega arith))

lacks-rest : (b x : ℕ) (xs : List ℕ) → Lacks b (x ∷ xs) → Lacks b xs
lacks-rest b x xs lacks = λ i inside. lacks (suc i) (omega arith)

-- the byte does not end the list
abbrev pub EndsOtherwise : ℕ → List ℕ → Type 0
EndsOtherwise b xs = (front : List ℕ) → xs ≢ front ++ b ∷ []

ends-rest : (b x : ℕ) (xs : List ℕ) → EndsOtherwise b (x ∷ xs) → EndsOtherwise b xs
ends-rest b x xs ends = λ front here. ends (x ∷ front) (ap (λ (ys : List ℕ). x ∷ ys) here)

-- The first quote.

pub no_quote : (text : List ℕ) → Lacks 39 text → enumeration_spelling text ≡ text
no_quote [] lacks = refl
no_quote (b ∷ bs) lacks =
    ap (λ (xs : List ℕ). b ∷ xs) (cond-false (b == 39) (trimmed_pieces true bs) (enumeration_spelling bs) (lacks-first 39 b bs lacks) ∙ no_quote bs (lacks-rest 39 b bs lacks))

pub past_quote : (word rest : List ℕ) → Lacks 39 word → enumeration_spelling (word ++ 39 ∷ rest) ≡ word ++ 39 ∷ trimmed_pieces true rest
past_quote [] rest lacks = refl
past_quote (b ∷ word) rest lacks =
    ap (λ (xs : List ℕ). b ∷ xs)
    (cond-false (b == 39) (trimmed_pieces true (word ++ 39 ∷ rest)) (enumeration_spelling (word ++ 39 ∷ rest)) (lacks-first 39 b word lacks)
    ∙ past_quote word rest (lacks-rest 39 b word lacks))

-- No space at all.

spaceless_pieces : (before : Bool) (text : List ℕ) → list_any (λ b. b == 32) text ≡ false → trimmed_pieces before text ≡ text
spaceless_pieces before [] none = refl
spaceless_pieces before (b ∷ bs) none =
    let parts = or_parts (b == 32) _ none in
    cond-false ((b == 32) && (before || is_piece_end bs)) (trimmed_pieces before bs) (b ∷ trimmed_pieces (b == 44) bs) (and_left (b == 32) _ parts.0)
    ∙ ap (λ (xs : List ℕ). b ∷ xs) (spaceless_pieces (b == 44) bs parts.1)

either : (quote : Bool) (xs ys zs : List ℕ) → xs ≡ zs → ys ≡ zs → cond quote xs ys ≡ zs
either true xs ys zs first second = first
either false xs ys zs first second = second

pub spaceless : (text : List ℕ) → list_any (λ b. b == 32) text ≡ false → enumeration_spelling text ≡ text
spaceless [] none = refl
spaceless (b ∷ bs) none =
    let parts = or_parts (b == 32) _ none in
    ap (λ (xs : List ℕ). b ∷ xs) (either (b == 39) (trimmed_pieces true bs) (enumeration_spelling bs) bs (spaceless_pieces true bs parts.1) (spaceless bs parts.1))

-- Spaces round a piece.

kept : (before : Bool) (b : ℕ) (bs : List ℕ) → ((b == 32) && (before || is_piece_end bs)) ≡ false → trimmed_pieces before (b ∷ bs) ≡ b ∷ trimmed_pieces (b == 44) bs
kept before b bs keeps = cond-false ((b == 32) && (before || is_piece_end bs)) (trimmed_pieces before bs) (b ∷ trimmed_pieces (b == 44) bs) keeps

kept_plain : (before : Bool) (b : ℕ) (bs : List ℕ) → (b == 32) ≡ false → (b == 44) ≡ false → trimmed_pieces before (b ∷ bs) ≡ b ∷ trimmed_pieces false bs
kept_plain before b bs solid plain = kept before b bs (and_left (b == 32) (before || is_piece_end bs) solid) ∙ ap (λ (t : Bool). b ∷ trimmed_pieces t bs) plain

leading : (n : ℕ) (bs : List ℕ) → trimmed_pieces true (replicate n 32 ++ bs) ≡ trimmed_pieces true bs
leading zero bs = refl
leading (suc n) bs = leading n bs

spaces_end : (n : ℕ) (bs : List ℕ) → is_piece_end bs ≡ true → is_piece_end (replicate n 32 ++ bs) ≡ true
spaces_end zero bs ends = ends
spaces_end (suc n) bs ends = spaces_end n bs ends

trailing : (n : ℕ) (bs : List ℕ) → is_piece_end bs ≡ true → trimmed_pieces false (replicate n 32 ++ bs) ≡ trimmed_pieces false bs
trailing zero bs ends = refl
trailing (suc n) bs ends =
    cond-true (is_piece_end (replicate n 32 ++ bs)) (trimmed_pieces false (replicate n 32 ++ bs)) (32 ∷ trimmed_pieces false (replicate n 32 ++ bs)) (spaces_end n bs ends)
    ∙ trailing n bs ends

no_end : (x : ℕ) (rest : List ℕ) → (x == 44) ≡ false → (length rest == 0) ≡ false → ((x == 32) && is_piece_end rest) ≡ false → is_piece_end (x ∷ rest) ≡ false
no_end x rest comma last space = (λ i. comma i || (((x == 39) && last i) || space i)) ∙ none (x == 39)
  where
    none : (t : Bool) → (false || ((t && false) || false)) ≡ false
    none true = refl
    none false = refl

nonempty : (xs more : List ℕ) → 0 < length more → (length (xs ++ more) == 0) ≡ false
nonempty xs more some = let size = length-append xs more in ne_eqb (length (xs ++ more)) 0 (λ none. omega arith)

-- a piece goes on before a byte that is no space
goes_on : (x : ℕ) (xs more : List ℕ) → Lacks 44 (x ∷ xs) → EndsOtherwise 32 (x ∷ xs) → 0 < length more → is_piece_end (x ∷ (xs ++ more)) ≡ false
goes_on x [] more lacks ends some =
    no_end x more (lacks-first 44 x [] lacks) (nonempty [] more some)
    (and_left (x == 32) (is_piece_end more) (ne_eqb x 32 (λ here. ends [] (ap (λ (b : ℕ). b ∷ []) here))))
goes_on x (y ∷ ys) more lacks ends some =
    no_end x (y ∷ (ys ++ more)) (lacks-first 44 x (y ∷ ys) lacks) (nonempty (y ∷ ys) more some)
    (and_right (x == 32) (is_piece_end (y ∷ (ys ++ more))) (goes_on y ys more (lacks-rest 44 x (y ∷ ys) lacks) (ends-rest 32 x (y ∷ ys) ends) some))

-- a byte of a piece is kept, if its piece goes on after it
kept_inside : (x : ℕ) (rest : List ℕ) → (x == 44) ≡ false → ((x == 32) && is_piece_end rest) ≡ false → trimmed_pieces false (x ∷ rest) ≡ x ∷ trimmed_pieces false rest
kept_inside x rest plain keeps = kept false x rest keeps ∙ ap (λ (t : Bool). x ∷ trimmed_pieces t rest) plain

solid : (xs more : List ℕ) → Lacks 44 xs → EndsOtherwise 32 xs → 0 < length more → trimmed_pieces false (xs ++ more) ≡ xs ++ trimmed_pieces false more
solid [] more lacks ends some = refl
solid (x ∷ []) more lacks ends some =
    kept_inside x more (lacks-first 44 x [] lacks) (and_left (x == 32) (is_piece_end more) (ne_eqb x 32 (λ here. ends [] (ap (λ (b : ℕ). b ∷ []) here))))
solid (x ∷ (y ∷ ys)) more lacks ends some =
    let rest_lacks = lacks-rest 44 x (y ∷ ys) lacks in
    let rest_ends = ends-rest 32 x (y ∷ ys) ends in
    kept_inside x (y ∷ (ys ++ more)) (lacks-first 44 x (y ∷ ys) lacks) (and_right (x == 32) (is_piece_end (y ∷ (ys ++ more))) (goes_on y ys more rest_lacks rest_ends some))
    ∙ ap (λ (zs : List ℕ). x ∷ zs) (solid (y ∷ ys) more rest_lacks rest_ends some)

-- what a piece is within its spaces
pub record IsTrimmed (piece result : List ℕ) : Type 0 where
  pub before : ℕ
  pub behind : ℕ
  pub parts : piece ≡ replicate before 32 ++ (result ++ replicate behind 32)
  pub first : (rest : List ℕ) → result ++ replicate behind 32 ≢ 32 ∷ rest
  pub last : EndsOtherwise 32 result

lacks-behind : (b : ℕ) (xs ys : List ℕ) → Lacks b (xs ++ ys) → Lacks b ys
lacks-behind b [] ys lacks = lacks
lacks-behind b (x ∷ xs) ys lacks = lacks-behind b xs ys (lacks-rest b x (xs ++ ys) lacks)

lacks-front : (b : ℕ) (xs ys : List ℕ) → Lacks b (xs ++ ys) → Lacks b xs
lacks-front b xs ys lacks = λ i inside here. lacks i (let size = length-append xs ys in omega arith) (get_or-append xs ys 0 i inside ∙ here)

piece_within : (result : List ℕ) (behind byte : ℕ) (more : List ℕ) → ((rest : List ℕ) → result ++ replicate behind 32 ≢ 32 ∷ rest) → EndsOtherwise 32 result → Lacks 44 result
    → (byte == 32) ≡ false → is_piece_end (byte ∷ more) ≡ true → trimmed_pieces true (result ++ (replicate behind 32 ++ (byte ∷ more))) ≡ result ++ trimmed_pieces false (byte ∷ more)
piece_within [] behind byte more first last lacks other ends =
    leading behind (byte ∷ more)
    ∙ kept true byte more (and_left (byte == 32) true other)
    ∙ sym (kept false byte more (and_left (byte == 32) (is_piece_end more) other))
piece_within (x ∷ xs) behind byte more first last lacks other ends =
    let no_space : (x == 32) ≡ false = ne_eqb x 32 (λ here. first (xs ++ replicate behind 32) (ap (λ (b : ℕ). b ∷ (xs ++ replicate behind 32)) here)) in
    let size = length-append (replicate behind 32) (byte ∷ more) in
    kept_plain true x (xs ++ (replicate behind 32 ++ (byte ∷ more))) no_space (lacks-first 44 x xs lacks)
    ∙ ap (λ (zs : List ℕ). x ∷ zs)
    (solid xs (replicate behind 32 ++ (byte ∷ more)) (lacks-rest 44 x xs lacks) (ends-rest 32 x xs last) (omega arith)
    ∙ ap (λ (zs : List ℕ). xs ++ zs) (trailing behind (byte ∷ more) ends))

-- a piece before its end
pub trimmed_piece : (piece result : List ℕ) (byte : ℕ) (more : List ℕ) → IsTrimmed piece result → Lacks 44 piece → (byte == 32) ≡ false → is_piece_end (byte ∷ more) ≡ true
    → trimmed_pieces true (piece ++ (byte ∷ more)) ≡ result ++ trimmed_pieces false (byte ∷ more)
trimmed_piece piece result byte more is lacks other ends =
    let spaces = replicate is.behind 32 in
    let inner : Lacks 44 (result ++ spaces) = lacks-behind 44 (replicate is.before 32) (result ++ spaces) (subst (Lacks 44) is.parts lacks) in
    ap (λ (xs : List ℕ). trimmed_pieces true (xs ++ (byte ∷ more))) is.parts
    ∙ ap (trimmed_pieces true) (append_assoc (replicate is.before 32) (result ++ spaces) (byte ∷ more) ∙ ap (λ (xs : List ℕ). replicate is.before 32 ++ xs) (append_assoc result spaces (byte ∷ more)))
    ∙ leading is.before (result ++ (spaces ++ (byte ∷ more)))
    ∙ piece_within result is.behind byte more is.first is.last (lacks-front 44 result spaces inner) other ends

-- a last piece without its quote

no_last : (x : ℕ) (xs : List ℕ) → Lacks 44 (x ∷ xs) → EndsOtherwise 39 (x ∷ xs) → is_piece_end (x ∷ xs) ≡ false
no_last x [] lacks ends =
    (λ i. lacks-first 44 x [] lacks i || ((ne_eqb x 39 (λ here. ends [] (ap (λ (b : ℕ). b ∷ []) here)) i && true) || ((x == 32) && false))) ∙ none (x == 32)
  where
    none : (t : Bool) → (false || ((false && true) || (t && false))) ≡ false
    none true = refl
    none false = refl
no_last x (y ∷ ys) lacks ends =
    no_end x (y ∷ ys) (lacks-first 44 x (y ∷ ys) lacks) (nonempty [] (y ∷ ys) (omega arith))
    (and_right (x == 32) (is_piece_end (y ∷ ys)) (no_last y ys (lacks-rest 44 x (y ∷ ys) lacks) (ends-rest 39 x (y ∷ ys) ends)))

unended : (xs : List ℕ) → Lacks 44 xs → EndsOtherwise 39 xs → trimmed_pieces false xs ≡ xs
unended [] lacks ends = refl
unended (x ∷ []) lacks ends = kept_inside x [] (lacks-first 44 x [] lacks) (and_right (x == 32) false refl)
unended (x ∷ (y ∷ ys)) lacks ends =
    let rest_lacks = lacks-rest 44 x (y ∷ ys) lacks in
    let rest_ends = ends-rest 39 x (y ∷ ys) ends in
    kept_inside x (y ∷ ys) (lacks-first 44 x (y ∷ ys) lacks) (and_right (x == 32) (is_piece_end (y ∷ ys)) (no_last y ys rest_lacks rest_ends))
    ∙ ap (λ (zs : List ℕ). x ∷ zs) (unended (y ∷ ys) rest_lacks rest_ends)

unended_within : (result : List ℕ) → ((rest : List ℕ) → result ≢ 32 ∷ rest) → Lacks 44 result → EndsOtherwise 39 result → trimmed_pieces true result ≡ result
unended_within [] first lacks ends = refl
unended_within (x ∷ xs) first lacks ends =
    kept_plain true x xs (ne_eqb x 32 (λ here. first xs (ap (λ (b : ℕ). b ∷ xs) here))) (lacks-first 44 x xs lacks)
    ∙ ap (λ (zs : List ℕ). x ∷ zs) (unended xs (lacks-rest 44 x xs lacks) (ends-rest 39 x xs ends))

pub last_piece : (rest result : List ℕ) (n : ℕ) → rest ≡ replicate n 32 ++ result → ((more : List ℕ) → result ≢ 32 ∷ more) → Lacks 44 rest → EndsOtherwise 39 result → trimmed_pieces true rest ≡ result
last_piece rest result n parts first lacks ends =
    ap (trimmed_pieces true) parts ∙ leading n result
    ∙ unended_within result first (lacks-behind 44 (replicate n 32) result (subst (Lacks 44) parts lacks)) ends

-- One space more.

replicate-append : (n : ℕ) (xs : List ℕ) → replicate n 32 ++ (32 ∷ xs) ≡ 32 ∷ (replicate n 32 ++ xs)
replicate-append zero xs = refl
replicate-append (suc n) xs = ap (λ (ys : List ℕ). 32 ∷ ys) (replicate-append n xs)

pub one_more_leading : (n : ℕ) (text rest behind : List ℕ) → text ≡ replicate n 32 ++ rest → rest ≡ 32 ∷ behind → text ≡ replicate (suc n) 32 ++ behind
one_more_leading n text rest behind passed cut = passed ∙ ap (λ (xs : List ℕ). replicate n 32 ++ xs) cut ∙ replicate-append n behind

pub one_more_trailing : (n : ℕ) (text rest front : List ℕ) → text ≡ rest ++ replicate n 32 → rest ≡ front ++ 32 ∷ [] → text ≡ front ++ replicate (suc n) 32
one_more_trailing n text rest front passed cut = passed ∙ ap (λ (xs : List ℕ). xs ++ replicate n 32) cut ∙ append_assoc front (32 ∷ []) (replicate n 32)

-- What has been pushed.

trimmed_of : (piece inner result : List ℕ) (n m : ℕ) → piece ≡ replicate n 32 ++ inner → ((rest : List ℕ) → inner ≢ 32 ∷ rest) → inner ≡ result ++ replicate m 32 → EndsOtherwise 32 result → IsTrimmed piece result
trimmed_of piece inner result n m front first back last = record {
  before = n;
  behind = m;
  parts = front ∙ ap (λ (xs : List ℕ). replicate n 32 ++ xs) back;
  first = λ rest here. first rest (back ∙ here);
  last = last;
}

-- a piece and its comma
pub pushed_piece : (all out one two rest piece behind inner result : List ℕ) (n m : ℕ) → all ≡ out ++ trimmed_pieces true rest → rest ≡ piece ++ 44 ∷ behind → Lacks 44 piece
    → piece ≡ replicate n 32 ++ inner → ((more : List ℕ) → inner ≢ 32 ∷ more) → inner ≡ result ++ replicate m 32 → EndsOtherwise 32 result
    → one ≡ out ++ result → two ≡ one ++ 44 ∷ [] → all ≡ two ++ trimmed_pieces true behind
pushed_piece all out one two rest piece behind inner result n m whole cut lacks front first back last pushed comma =
    whole
    ∙ ap (λ (xs : List ℕ). out ++ trimmed_pieces true xs) cut
    ∙ ap (λ (xs : List ℕ). out ++ xs) (trimmed_piece piece result 44 behind (trimmed_of piece inner result n m front first back last) lacks refl refl)
    ∙ sym (append_assoc out result (44 ∷ trimmed_pieces true behind))
    ∙ sym (append_assoc (out ++ result) (44 ∷ []) (trimmed_pieces true behind))
    ∙ sym (ap (λ (xs : List ℕ). xs ++ trimmed_pieces true behind) (comma ∙ ap (λ (xs : List ℕ). xs ++ 44 ∷ []) pushed))

-- the last piece and the closing quote
pub pushed_last : (all out one two rest inner piece result : List ℕ) (n m : ℕ) → all ≡ out ++ trimmed_pieces true rest → Lacks 44 rest
    → rest ≡ replicate n 32 ++ inner → ((more : List ℕ) → inner ≢ 32 ∷ more) → inner ≡ piece ++ 39 ∷ [] → piece ≡ result ++ replicate m 32 → EndsOtherwise 32 result
    → one ≡ out ++ result → two ≡ one ++ 39 ∷ [] → two ≡ all
pushed_last all out one two rest inner piece result n m whole lacks front first quoted back last pushed quote =
    let cut : rest ≡ (replicate n 32 ++ piece) ++ 39 ∷ [] = front ∙ ap (λ (xs : List ℕ). replicate n 32 ++ xs) quoted ∙ sym (append_assoc (replicate n 32) piece (39 ∷ [])) in
    let is = trimmed_of (replicate n 32 ++ piece) piece result n m refl (λ more here. first (more ++ 39 ∷ []) (quoted ∙ ap (λ (xs : List ℕ). xs ++ 39 ∷ []) here)) back last in
    let inside = lacks-front 44 (replicate n 32 ++ piece) (39 ∷ []) (subst (Lacks 44) cut lacks) in
    sym (whole
    ∙ ap (λ (xs : List ℕ). out ++ trimmed_pieces true xs) cut
    ∙ ap (λ (xs : List ℕ). out ++ xs) (trimmed_piece (replicate n 32 ++ piece) result 39 [] is inside refl refl)
    ∙ sym (append_assoc out result (39 ∷ []))
    ∙ sym (quote ∙ ap (λ (xs : List ℕ). xs ++ 39 ∷ []) pushed))

-- a last piece without one
pub pushed_rest : (all out one rest inner : List ℕ) (n : ℕ) → all ≡ out ++ trimmed_pieces true rest → Lacks 44 rest
    → rest ≡ replicate n 32 ++ inner → ((more : List ℕ) → inner ≢ 32 ∷ more) → EndsOtherwise 39 inner → one ≡ out ++ inner → one ≡ all
pushed_rest all out one rest inner n whole lacks front first last pushed =
    pushed ∙ ap (λ (xs : List ℕ). out ++ xs) (sym (last_piece rest inner n front first lacks last)) ∙ sym whole

-- the word, the opening quote and the pieces
pub quoted_pushed : (out one two three text word pieces : List ℕ) → enumeration_spelling text ≡ word ++ 39 ∷ pieces → one ≡ out ++ word → two ≡ one ++ 39 ∷ [] → three ≡ two ++ pieces → three ≡ out ++ enumeration_spelling text
quoted_pushed out one two three text word pieces whole pushed quote more =
    more
    ∙ ap (λ (xs : List ℕ). xs ++ pieces) (quote ∙ ap (λ (xs : List ℕ). xs ++ 39 ∷ []) pushed)
    ∙ append_assoc (out ++ word) (39 ∷ []) pieces
    ∙ append_assoc out word (39 ∷ pieces)
    ∙ ap (λ (xs : List ℕ). out ++ xs) (sym whole)
