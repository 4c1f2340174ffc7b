-- Parentheses that are open at once.
use Rattle.std.proofs.Common.{◌≡◌, refl, subst, sym, ℕ, ◌+◌, ◌≤◌, ◌<◌, List, [], ◌∷◌, ◌++◌, Bool, true, false, cond, length, take, arith, append_assoc}
use Rattle.std.specs.Prelude.{nat_le}
use Rattle.std.proofs.lemmas.Bool.{leb-true, leb-false}
use Rattle.std.proofs.lemmas.List.{append-nil, take_all, take-append-le, length-append}
use Rattle.std.proofs.lemmas.List.Sums.{sum_by-append}
use Rattle.odata_text.specs.TokenModel.{TokenModel}
use Rattle.odata_syntax.specs.Front.{IsShallow, close_count, closes, depth_limit, open_count, opens}

-- counts with one more token
pub open_count-snoc : (xs : List TokenModel) (p : TokenModel) → open_count (xs ++ (p ∷ [])) ≡ open_count xs + cond (opens p.kind) 1 0
open_count-snoc xs p =
    let sum : open_count (xs ++ (p ∷ [])) ≡ open_count xs + (0 + cond (opens p.kind) 1 0) = sum_by-append (λ k. cond (opens k.kind) 1 0) xs (p ∷ []) in
    omega arith

pub close_count-snoc : (xs : List TokenModel) (p : TokenModel) → close_count (xs ++ (p ∷ [])) ≡ close_count xs + cond (closes p.kind) 1 0
close_count-snoc xs p =
    let sum : close_count (xs ++ (p ∷ [])) ≡ close_count xs + (0 + cond (closes p.kind) 1 0) = sum_by-append (λ k. cond (closes k.kind) 1 0) xs (p ∷ []) in
    omega arith

-- all of the tokens are within the limit
pub shallow-whole : (xs : List TokenModel) → IsShallow xs → open_count xs ≤ close_count xs + depth_limit
shallow-whole xs s =
    let same : take (length xs) xs ≡ xs = take_all (length xs) xs (omega arith) in
    let P : List TokenModel → Type 0 = λ k. open_count k ≤ close_count k + depth_limit in
    subst P same (s.within (length xs))

within_at : (b : Bool) (xs : List TokenModel) (p : TokenModel) (n : ℕ) → nat_le n (length xs) ≡ b → IsShallow xs → open_count xs + cond (opens p.kind) 1 0 ≤ close_count xs + depth_limit → open_count (take n (xs ++ (p ∷ []))) ≤ close_count (take n (xs ++ (p ∷ []))) + depth_limit
within_at true xs p n h s more =
    let le : n ≤ length xs = leb-true n (length xs) h in
    let same : take n (xs ++ (p ∷ [])) ≡ take n xs = take-append-le n xs (p ∷ []) le in
    let P : List TokenModel → Type 0 = λ k. open_count k ≤ close_count k + depth_limit in
    subst P (sym same) (s.within n)
within_at false xs p n h s more =
    let gt : length xs < n = leb-false n (length xs) h in
    let long : length (xs ++ (p ∷ [])) ≡ length xs + 1 = length-append xs (p ∷ []) in
    let same : take n (xs ++ (p ∷ [])) ≡ xs ++ (p ∷ []) = take_all n (xs ++ (p ∷ [])) (omega arith) in
    let opened = open_count-snoc xs p in
    let closed = close_count-snoc xs p in
    let P : List TokenModel → Type 0 = λ k. open_count k ≤ close_count k + depth_limit in
    subst P (sym same) (omega arith)

-- one more token, while there is room for it
pub shallow-snoc : (xs : List TokenModel) (p : TokenModel) → IsShallow xs → open_count xs + cond (opens p.kind) 1 0 ≤ close_count xs + depth_limit → IsShallow (xs ++ (p ∷ []))
shallow-snoc xs p s more = record { within = λ n. within_at (nat_le n (length xs)) xs p n refl s more }

pub shallow-nil : IsShallow []
shallow-nil =
    record {
      within = λ n.
          let same : take {A = TokenModel} n [] ≡ [] = take_all n [] (omega arith) in
          rw same (omega arith);
    }

-- tokens without a `(`
abbrev pub HasNoOpen : List TokenModel → Type 0
HasNoOpen [] = Unit {0}
HasNoOpen (p ∷ ps) = (opens p.kind ≡ false) × HasNoOpen ps

-- make nothing deeper
pub shallow-append : (xs ys : List TokenModel) → IsShallow xs → HasNoOpen ys → IsShallow (xs ++ ys)
shallow-append xs [] s none = rw (append-nil xs) s
shallow-append xs (p ∷ ps) s none =
    let whole = shallow-whole xs s in
    let here : open_count xs + cond (opens p.kind) 1 0 ≤ close_count xs + depth_limit = rw none.0 (omega arith) in
    let inner : IsShallow ((xs ++ (p ∷ [])) ++ ps) = shallow-append (xs ++ (p ∷ [])) ps (shallow-snoc xs p s here) none.1 in
    rw append_assoc at inner
