-- Runs of the machine over lists put together.
use Rattle.std.proofs.Common.{◌≡◌, refl, List, [], ◌∷◌, ◌++◌, Option, Some, None, ap, ◌∙◌}
use Rattle.std.specs.Prelude.{option_and_then}
use Rattle.odata_text.specs.TokenModel.{TokenModel}
use Rattle.odata_syntax.specs.private.Machine.{Machine, run, step}

-- the second list is run after the first
pub run-append : (xs ys : List TokenModel) (m : Machine) → run (xs ++ ys) m ≡ option_and_then (λ n. run ys n) (run xs m)
run-append [] ys m = refl
run-append (x ∷ xs) ys m =
    elim (step m x) as (λ o. option_and_then (λ n. run (xs ++ ys) n) o ≡ option_and_then (λ n. run ys n) (option_and_then (λ n. run xs n) o)) [ None ↦ refl | Some n ↦ run-append xs ys n ]

pub run_then : (xs ys : List TokenModel) (m n : Machine) (k : Option Machine) → run xs m ≡ Some n → run ys n ≡ k → run (xs ++ ys) m ≡ k
run_then xs ys m n k first second = run-append xs ys m ∙ ap (λ o. option_and_then (λ j. run ys j) o) first ∙ second

-- a token before the others
pub run_cons : (p : TokenModel) (ps : List TokenModel) (m n : Machine) (k : Option Machine) → step m p ≡ Some n → run ps n ≡ k → run (p ∷ ps) m ≡ k
run_cons p ps m n k first rest = ap (λ o. option_and_then (λ j. run ps j) o) first ∙ rest

and_then-Some : (o : Option Machine) → option_and_then (λ n. Some n) o ≡ o
and_then-Some None = refl
and_then-Some (Some n) = refl

-- one token
pub run_one : (p : TokenModel) (m : Machine) → run (p ∷ []) m ≡ step m p
run_one p m = and_then-Some (step m p)

-- one more token
pub run-snoc : (xs : List TokenModel) (p : TokenModel) (m n : Machine) → run xs m ≡ Some n → run (xs ++ (p ∷ [])) m ≡ step n p
run-snoc xs p m n e = run_then xs (p ∷ []) m n (step n p) e (run_one p n)

some_before : (o : Option Machine) (ys : List TokenModel) (n : Machine) → option_and_then (λ k. run ys k) o ≡ Some n → (k : Machine) × (o ≡ Some k)
some_before None ys n e = absurd (cc)
some_before (Some k) ys n e = (k, refl)

-- what is taken whole has each beginning taken
pub run-front : (xs ys : List TokenModel) (m n : Machine) → run (xs ++ ys) m ≡ Some n → (k : Machine) × (run xs m ≡ Some k)
run-front xs ys m n e = some_before (run xs m) ys n (rw run-append at e)
