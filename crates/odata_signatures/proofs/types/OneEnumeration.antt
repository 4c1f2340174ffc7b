-- Two enumerations with one name are one.
use Rattle.std.proofs.Common.{◌≡◌, sym, ◌∙◌, ap, ℕ, Bool, IsTrue, List, eqb}
use Rattle.std.proofs.lemmas.Bool.{eq-eqb, eqb-true}

-- equal numbers have equal names, and equal names equal numbers
pub same_id : (test : Bool) (left right : ℕ) (name : ℕ → List ℕ) → test ≡ eqb left right → (name left ≡ name right → left ≡ right)
    → (IsTrue test → name left ≡ name right) × (name left ≡ name right → IsTrue test)
same_id test left right name is only =
    (λ holds. ap name (eqb-true left right (sym is ∙ holds)), λ same. is ∙ eq-eqb left right (only same))
