-- The combinators of outcomes leave at most one outcome.
use Rattle.std.proofs.Common.{◌≡◌, sym, ◌∙◌, ap, subst}
use Rattle.edm_values.specs.Val.{Val}
use Rattle.csdl_schema.specs.ExprType.{ExprType}
use Rattle.odata_filter_operations.specs.LeftFirst.{Then, After}
use Rattle.odata_meaning.specs.OperatorGives.{InType}
use Rattle.odata_filter_operations.specs.Outcome.{Outcome, gives, overflow, divides_by_zero, GivesSome}

-- no two outcomes
abbrev pub AtMostOne : (Outcome → Type 0) → Type 0
AtMostOne P = (a b : Outcome) → P a → P b → a ≡ b

pub same_one : (c a b : Outcome) → a ≡ c → b ≡ c → a ≡ b
same_one c a b is_a is_b = is_a ∙ sym is_b

pub GivesSome-one : (P : Val → Type 0) → ((v w : Val) → P v → P w → v ≡ w) → AtMostOne (GivesSome P)
GivesSome-one P one (gives v) (gives w) of_v of_w = ap gives (one v w of_v of_w)
GivesSome-one P one (gives v) overflow of_v none = absurd none
GivesSome-one P one (gives v) divides_by_zero of_v none = absurd none
GivesSome-one P one overflow b none of_b = absurd none
GivesSome-one P one divides_by_zero b none of_b = absurd none

pub Then-one : (first : Outcome) (Goes : Val → Outcome → Type 0) → ((v : Val) → AtMostOne (Goes v)) → AtMostOne (Then first Goes)
Then-one (gives v) Goes one a b of_a of_b = one v a b of_a of_b
Then-one overflow Goes one a b of_a of_b = same_one overflow a b of_a of_b
Then-one divides_by_zero Goes one a b of_a of_b = same_one divides_by_zero a b of_a of_b

-- what follows the one first outcome
pub After-follows : (Operand : Outcome → Type 0) (Goes : Val → Outcome → Type 0) (first o : Outcome)
    → AtMostOne Operand → Operand first → After Operand Goes o → Then first Goes o
After-follows Operand Goes first o one is_first after =
    subst (λ (f : Outcome). Then f Goes o) (one after.0 first after.1.0 is_first) after.1.1

pub After-one : (Operand : Outcome → Type 0) (Goes : Val → Outcome → Type 0)
    → AtMostOne Operand → ((v : Val) → AtMostOne (Goes v)) → AtMostOne (After Operand Goes)
After-one Operand Goes one each a b of_a of_b =
    Then-one of_a.0 Goes each a b of_a.1.1 (After-follows Operand Goes of_a.0 b one of_a.1.0 of_b)

-- what is computed in the one type of its node
pub InType-one : (NodeTyped : ExprType → Type 0) (Gives : ExprType → Outcome → Type 0)
    → ((s t : ExprType) → NodeTyped s → NodeTyped t → s ≡ t) → ((t : ExprType) → AtMostOne (Gives t)) → AtMostOne (InType NodeTyped Gives)
InType-one NodeTyped Gives one each a b of_a of_b =
    each of_a.0 a b of_a.2 (subst (λ (t : ExprType). Gives t b) (one of_b.0 of_a.0 of_b.1 of_a.1) of_b.2)
