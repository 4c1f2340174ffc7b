-- A token that is too deep is a `(`, with as many open before it as may be.
use Rattle.std.proofs.Common.{◌≡◌, refl, subst, sym, ◌∙◌, ℕ, ◌+◌, ◌≤◌, ◌<◌, List, [], ◌∷◌, ◌++◌, Bool, true, false, cond, length, take, arith}
use Rattle.std.specs.Prelude.{nat_le}
use Rattle.std.proofs.lemmas.Bool.{leb-true, leb-false}
use Rattle.std.proofs.lemmas.List.{take_all, take-append-le, take_at}
use Rattle.odata_text.specs.declared.span.Span.{Span}
use Rattle.odata_text.specs.TokenModel.{TokenModel}
use Rattle.odata_syntax.specs.Front.{IsFront, IsShallow, IsWideFront, close_count, depth_limit, open_count, opens}
use Rattle.odata_syntax.specs.Parse.{IsFirstDeep}
use Rattle.odata_syntax.specs.private.Machine.{start}
use Rattle.odata_syntax.proofs.machine.Complete.{derived_finishes}
use Rattle.odata_syntax.proofs.machine.Depth.{shallow-snoc, shallow-whole}
use Rattle.odata_syntax.proofs.machine.Fronts.{run_front}
use Rattle.odata_syntax.proofs.machine.Run.{run-front}

-- a wide front that is nowhere too deep is a front
wide-shallow : (ts : List TokenModel) → IsWideFront ts → IsShallow ts → IsFront ts
wide-shallow ts wide shallow =
    let ends = derived_finishes wide.derived in
    let first = run-front ts wide.more start ends.ended ends.taken in
    run_front ts first.0 first.1 shallow

-- beginnings of tokens that are nowhere too deep are so
shallow_at : (b : Bool) (xs ys : List TokenModel) (n : ℕ) → nat_le n (length xs) ≡ b → IsShallow (xs ++ ys) → open_count (take n xs) ≤ close_count (take n xs) + depth_limit
shallow_at true xs ys n h s =
    let le : n ≤ length xs = leb-true n (length xs) h in
    let same : take n (xs ++ ys) ≡ take n xs = take-append-le n xs ys le in
    let P : List TokenModel → Type 0 = λ k. open_count k ≤ close_count k + depth_limit in
    subst P same (s.within n)
shallow_at false xs ys n h s =
    let gt : length xs < n = leb-false n (length xs) h in
    let all : take n xs ≡ xs = take_all n xs (omega arith) in
    let front : take (length xs) (xs ++ ys) ≡ xs = take_at xs ys (length xs) refl in
    let P : List TokenModel → Type 0 = λ k. open_count k ≤ close_count k + depth_limit in
    subst P (front ∙ sym all) (s.within (length xs))

shallow-front : (xs ys : List TokenModel) → IsShallow (xs ++ ys) → IsShallow xs
shallow-front xs ys s = record { within = λ n. shallow_at (nat_le n (length xs)) xs ys n refl s }

-- where one more `(` is too many, there is no room left
room_at : (b : Bool) (xs : List TokenModel) (p : TokenModel) → nat_le (open_count xs + 1) (close_count xs + depth_limit) ≡ b → opens p.kind ≡ true → IsShallow xs → ¬ IsShallow (xs ++ (p ∷ [])) → open_count xs ≡ close_count xs + depth_limit
room_at true xs p room h s deep =
    let le : open_count xs + 1 ≤ close_count xs + depth_limit = leb-true (open_count xs + 1) (close_count xs + depth_limit) room in
    let more : open_count xs + cond (opens p.kind) 1 0 ≤ close_count xs + depth_limit = rw h le in
    absurd (deep (shallow-snoc xs p s more))
room_at false xs p room h s deep =
    let gt : close_count xs + depth_limit < open_count xs + 1 = leb-false (open_count xs + 1) (close_count xs + depth_limit) room in
    let whole : open_count xs ≤ close_count xs + depth_limit = shallow-whole xs s in
    omega arith

full_at : (b : Bool) (xs : List TokenModel) (p : TokenModel) → opens p.kind ≡ b → IsShallow xs → ¬ IsShallow (xs ++ (p ∷ [])) → (opens p.kind ≡ true) × (open_count xs ≡ close_count xs + depth_limit)
full_at true xs p h s deep = (h, room_at (nat_le (open_count xs + 1) (close_count xs + depth_limit)) xs p refl h s deep)
full_at false xs p h s deep =
    let whole : open_count xs ≤ close_count xs + depth_limit = shallow-whole xs s in
    let more : open_count xs + cond (opens p.kind) 1 0 ≤ close_count xs + depth_limit = rw h (omega arith) in
    absurd (deep (shallow-snoc xs p s more))

pub deep_opens : (ts : List TokenModel) (span : Span) (fault : IsFirstDeep ts span) → (opens fault.token.kind ≡ true) × (open_count fault.before ≡ close_count fault.before + depth_limit)
deep_opens ts span fault =
    let all : List TokenModel = fault.before ++ (fault.token ∷ []) in
    let shallow = shallow-front fault.before fault.front.more fault.front.shallow in
    full_at (opens fault.token.kind) fault.before fault.token refl shallow (λ deep. fault.deep (wide-shallow all fault.wide deep))
