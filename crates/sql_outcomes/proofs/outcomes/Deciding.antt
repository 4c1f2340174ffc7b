-- The least decision is that of the first member that decides.
use Rattle.sql_outcomes.proofs.Common.{◌≡◌, ◌<◌, ℕ, ◌+◌, ◌*◌, ℤ, ◌≤ℤ◌, List, [], ◌∷◌, Bool, false, Option, Some, None, refl, sym, ap, arith, pos, int_lt, AllByRecursion, ints, Outcome, LeastOf, decision_at, least}
use Rattle.std.specs.Prelude.{if◌then◌else◌}

-- what is decided at each member, the first of which is at an index
abbrev pub decisions_from : ℕ → List (Option ℕ) → List Outcome
decisions_from place [] = []
decisions_from place (d ∷ ds) = decision_at place d ∷ decisions_from (place + 1) ds

-- at the first member that decides
abbrev pub first_from : ℕ → List (Option ℕ) → Option ℤ
first_from place [] = None
first_from place (Some d ∷ ds) = Some (pos (8 * place + d))
first_from place (None ∷ ds) = first_from (place + 1) ds

-- a code, if there is one, is less than 8
abbrev pub IsDigit : Option ℕ → Type 0
IsDigit None = Unit {0}
IsDigit (Some d) = d < 8

abbrev NotBefore : ℕ → Option ℤ → Type 0
NotBefore place None = Unit {0}
NotBefore place (Some n) = pos (8 * place) ≤ℤ n

later : (place : ℕ) (o : Option ℤ) → NotBefore (place + 1) o → NotBefore place o
later place None is = tt
later place (Some n) is = omega (arith, ints)

not_before : (place : ℕ) (ds : List (Option ℕ)) → NotBefore place (first_from place ds)
not_before place [] = tt
not_before place (Some d ∷ ds) = omega (arith, ints)
not_before place (None ∷ ds) = later place (first_from (place + 1) ds) (not_before (place + 1) ds)

least_here : (place d : ℕ) (rest : Option ℤ) → d < 8 → NotBefore (place + 1) rest → Some (pos (8 * place + d)) ≡ Some (least (pos (8 * place + d)) rest)
least_here place d None below is = refl
least_here place d (Some m) below is =
    let e : int_lt m (pos (8 * place + d)) ≡ false = grind (arith, ints) in
    ap (λ (b : Bool). Some (if b then m else pos (8 * place + d))) (sym e)

pub least_first : (place : ℕ) (ds : List (Option ℕ)) → AllByRecursion IsDigit ds → LeastOf (decisions_from place ds) (first_from place ds)
least_first place [] digits = refl
least_first place (Some d ∷ ds) digits = (
  first_from (place + 1) ds,
  least_first (place + 1) ds digits.1,
  least_here place d (first_from (place + 1) ds) digits.0 (not_before (place + 1) ds),
)
least_first place (None ∷ ds) digits = least_first (place + 1) ds digits.1
