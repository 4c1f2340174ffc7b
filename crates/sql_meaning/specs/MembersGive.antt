-- What comes of an expression over the members of a collection: `EXISTS`, and the least value.
use Rattle.std.specs.Prelude.{◌≡◌, ℕ, ◌+◌, ◌*◌, ℤ, pos, List, [], ◌∷◌, Bool, true, false, Option, Some, None, IsSomeAnd, int_lt, slice_get, if◌then◌else◌}
use Rattle.edm_values.specs.Val.{Val, null, boolean, whole}
use Rattle.odata_syntax.specs.declared.node.Quantifier.{Quantifier}
use Rattle.odata_syntax.specs.declared.node.Quantifier.TheVariants.{Any, All}
use Rattle.odata_filter_operations.specs.Outcome.{Outcome, gives}

-- what comes of a body at each of the members, the first of which is at an index
abbrev pub AtEach : (ℕ → Val → Outcome → Type 0) → ℕ → List Val → List Outcome → Type 0
AtEach Body place [] outcomes = outcomes ≡ []
AtEach Body place (v ∷ vs) [] = ⊥
AtEach Body place (v ∷ vs) (o ∷ os) = Body place v o × AtEach Body (place + 1) vs os

-- truth values and nulls, and whether one of them is true
abbrev pub SomeTrue : List Outcome → Bool → Type 0
SomeTrue [] answer = answer ≡ false
SomeTrue (gives (boolean true) ∷ os) answer = (rest : Bool) × SomeTrue os rest × (answer ≡ true)
SomeTrue (gives (boolean false) ∷ os) answer = SomeTrue os answer
SomeTrue (gives null ∷ os) answer = SomeTrue os answer
SomeTrue (o ∷ os) answer = ⊥

abbrev pub least : ℤ → Option ℤ → ℤ
least n None = n
least n (Some m) = if int_lt m n then m else n

-- numbers and nulls, and the least number, None where there is none
abbrev pub LeastOf : List Outcome → Option ℤ → Type 0
LeastOf [] answer = answer ≡ None
LeastOf (gives (whole n) ∷ os) answer = (rest : Option ℤ) × LeastOf os rest × (answer ≡ Some (least n rest))
LeastOf (gives null ∷ os) answer = LeastOf os answer
LeastOf (o ∷ os) answer = ⊥

-- what each code decides, None for one that does not: true and faults decide `any`, all but true decide `all`
abbrev pub decisions : Quantifier → List (Option ℕ)
decisions Any = None ∷ Some 1 ∷ None ∷ Some 3 ∷ Some 4 ∷ []
decisions All = Some 0 ∷ None ∷ Some 0 ∷ Some 3 ∷ Some 4 ∷ []

-- eight times an index, and what is decided there; null for nothing
abbrev pub decision_at : ℕ → Option ℕ → Outcome
decision_at place (Some code) = gives (whole (pos (8 * place + code)))
decision_at place None = gives null

-- of the code of a body at a member
abbrev pub DecidedGives : Quantifier → ℕ → Outcome → Outcome → Type 0
DecidedGives quantifier place (gives (whole (pos code))) o =
    IsSomeAnd (slice_get (decisions quantifier) code) (λ decided. o ≡ decision_at place decided)
DecidedGives quantifier place _ o = ⊥
