-- The last element of a list is the first of the list turned round.
use Rattle.std.proofs.Common.{◌≡◌, refl, ap, sym, ◌∙◌, ◌-◌, List, [], ◌∷◌, ◌++◌, reverse, length, length-append, slice_get, Option, None, Some, arith}
use Rattle.std.proofs.lemmas.List.{reverse-append, reverse-reverse}

abbrev pub head_of : {X : Type 0} → List X → Option X
head_of [] = None
head_of (x ∷ xs) = Some x

get_seam : {X : Type 0} (xs : List X) (x : X) → slice_get (xs ++ x ∷ []) (length xs) ≡ Some x
get_seam [] x = refl
get_seam (y ∷ xs) x = get_seam xs x

get_end : {X : Type 0} (xs : List X) (x : X) → slice_get (xs ++ x ∷ []) (length (xs ++ x ∷ []) - 1) ≡ Some x
get_end xs x =
    let at : length (xs ++ x ∷ []) - 1 ≡ length xs = omega (arith, length-append xs (x ∷ [])) in
    ap (λ k. slice_get (xs ++ x ∷ []) k) at ∙ get_seam xs x

last_back : {X : Type 0} (ys : List X) → slice_get (reverse ys) (length (reverse ys) - 1) ≡ head_of ys
last_back [] = refl
last_back (y ∷ ys) =
    let turned : reverse (y ∷ ys) ≡ reverse ys ++ y ∷ [] = reverse-append (y ∷ []) ys in
    ap (λ k. slice_get k (length k - 1)) turned ∙ get_end (reverse ys) y

pub last_head : {X : Type 0} (xs : List X) → slice_get xs (length xs - 1) ≡ head_of (reverse xs)
last_head xs = ap (λ k. slice_get k (length k - 1)) (sym (reverse-reverse xs)) ∙ last_back (reverse xs)
