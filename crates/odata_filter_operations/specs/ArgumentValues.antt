-- What goes on with the values of a function's arguments, by their kinds (OData URL Conventions 4.01, section 5.1.1.4).
use Rattle.std.specs.Prelude.{ℕ, ℤ, List, [], ◌∷◌}
use Rattle.edm_values.specs.Civil.{Date}
use Rattle.edm_values.specs.MomentParts.{MomentParts}
use Rattle.edm_values.specs.Val.{Val, whole, text, date, moment}
use Rattle.odata_filter_operations.specs.Outcome.{Outcome}

-- no argument
abbrev pub OfNone : (Outcome → Type 0) → List Val → Outcome → Type 0
OfNone Gives [] o = Gives o
OfNone Gives (v ∷ more) o = ⊥

-- a text
abbrev pub OfText : (List ℕ → Outcome → Type 0) → List Val → Outcome → Type 0
OfText Gives (text t ∷ []) o = Gives t o
OfText Gives values o = ⊥

-- two texts
abbrev pub OfTexts : (List ℕ → List ℕ → Outcome → Type 0) → List Val → Outcome → Type 0
OfTexts Gives (text s ∷ text t ∷ []) o = Gives s t o
OfTexts Gives values o = ⊥

-- a text and a number, or a text and two numbers
abbrev pub OfTextAndNumbers :
    (List ℕ → ℤ → Outcome → Type 0) → (List ℕ → ℤ → ℤ → Outcome → Type 0) → List Val → Outcome → Type 0
OfTextAndNumbers OfOne OfTwo (text t ∷ whole n ∷ []) o = OfOne t n o
OfTextAndNumbers OfOne OfTwo (text t ∷ whole n ∷ whole m ∷ []) o = OfTwo t n m o
OfTextAndNumbers OfOne OfTwo values o = ⊥

-- a moment
abbrev pub OfMoment : (MomentParts → Outcome → Type 0) → List Val → Outcome → Type 0
OfMoment Gives (moment m ∷ []) o = Gives m o
OfMoment Gives values o = ⊥

-- a date, or the date of a moment in its own offset
abbrev pub OfDate : (Date → Outcome → Type 0) → List Val → Outcome → Type 0
OfDate Gives (date d ∷ []) o = Gives d o
OfDate Gives (moment m ∷ []) o = Gives m.civil.date o
OfDate Gives values o = ⊥
