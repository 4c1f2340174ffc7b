-- Truth values of SQL: operators take them, and conditions that are true exactly where something holds are joined.
use Rattle.sql_outcomes.proofs.Common.{◌≡◌, ◌⊎◌, inl, inr, Bool, true, false, Option, Some, None, refl, sym, ◌∙◌, boolean, Outcome, gives, and3, or3, OfTruth, truth}
use Rattle.sql_outcomes.specs.TrueWhere.{IsTrueWhere}
use Rattle.sql_outcomes.proofs.outcomes.Apart.{false_true, none_true}

-- an operator takes a truth value
pub of_truth : (t : Option Bool) (Goes : Option Bool → Outcome → Type 0) (o : Outcome) → Goes t o → OfTruth Goes (truth t) o
of_truth None Goes o given = given
of_truth (Some b) Goes o given = given

-- ---- where logic on three values is true

pub and3_out : (s t : Option Bool) → and3 s t ≡ Some true → (s ≡ Some true) × (t ≡ Some true)
and3_out (Some true) (Some true) is = (refl, refl)
and3_out (Some false) (Some false) is = (is, is)
and3_out (Some false) None is = (is, absurd (false_true is))
and3_out None (Some false) is = (absurd (false_true is), is)
and3_out None None is = (is, is)
and3_out (Some true) _ is = (refl, is)
and3_out _ (Some true) is = (is, refl)

pub and3_into : (s t : Option Bool) → s ≡ Some true → t ≡ Some true → and3 s t ≡ Some true
and3_into (Some true) (Some true) p q = refl
and3_into (Some false) (Some true) p q = p
and3_into None (Some false) p q = q
and3_into (Some true) _ p q = q
and3_into (Some false) _ p q = p
and3_into None _ p q = p

pub or3_out : (s t : Option Bool) → or3 s t ≡ Some true → (s ≡ Some true) ⊎ (t ≡ Some true)
or3_out (Some true) t is = inl refl
or3_out (Some false) None is = inr is
or3_out None None is = inl is
or3_out _ (Some true) is = inr refl
or3_out _ (Some false) is = inl is

pub or3_into : (s t : Option Bool) → (s ≡ Some true) ⊎ (t ≡ Some true) → or3 s t ≡ Some true
or3_into (Some true) (Some true) either = refl
or3_into (Some false) (Some true) either = refl
or3_into (Some false) None (inl is) = absurd (false_true is)
or3_into None (Some true) either = refl
or3_into None (Some false) (inr is) = absurd (false_true is)
or3_into None None (inl is) = is
or3_into None None (inr is) = is
or3_into (Some true) _ either = refl
or3_into _ (Some false) (inl is) = is
or3_into (Some false) _ (inr is) = is

-- ---- conditions

either_of : (P Q S T : Type 0) → (P → S) → (Q → T) → P ⊎ Q → S ⊎ T
either_of P Q S T f g (inl p) = inl (f p)
either_of P Q S T f g (inr q) = inr (g q)

pub kept_and : (P Q R : Type 0) (x y : Outcome) → (R → P × Q) → (P → Q → R) → IsTrueWhere P x → IsTrueWhere Q y
    → (s : Option Bool) × (t : Option Bool) × (x ≡ truth s) × (y ≡ truth t) × IsTrueWhere R (truth (and3 s t))
kept_and P Q R x y parts joined left right = (
  left.0,
  right.0,
  left.1,
  right.1,
  (
    and3 left.0 right.0,
    refl,
    (
      λ is. joined (left.2.0 (and3_out left.0 right.0 is).0) (right.2.0 (and3_out left.0 right.0 is).1),
      λ r. and3_into left.0 right.0 (left.2.1 (parts r).0) (right.2.1 (parts r).1),
    ),
  ),
)

pub kept_or : (P Q R : Type 0) (x y : Outcome) → (R → P ⊎ Q) → (P ⊎ Q → R) → IsTrueWhere P x → IsTrueWhere Q y
    → (s : Option Bool) × (t : Option Bool) × (x ≡ truth s) × (y ≡ truth t) × IsTrueWhere R (truth (or3 s t))
kept_or P Q R x y part joined left right = (
  left.0,
  right.0,
  left.1,
  right.1,
  (
    or3 left.0 right.0,
    refl,
    (
      λ is. joined (either_of (left.0 ≡ Some true) (right.0 ≡ Some true) P Q left.2.0 right.2.0 (or3_out left.0 right.0 is)),
      λ r. or3_into left.0 right.0 (either_of P Q (left.0 ≡ Some true) (right.0 ≡ Some true) left.2.1 right.2.1 (part r)),
    ),
  ),
)

-- a truth value that is what the filter evaluates to is true exactly there
pub true_where : (t : Option Bool) (o : Outcome) → truth t ≡ o → IsTrueWhere (o ≡ gives (boolean true)) (truth t)
true_where (Some true) o is = (Some true, refl, (λ same. sym is, λ other. refl))
true_where (Some false) o is = (Some false, refl, (λ same. absurd (false_true same), λ other. absurd (cc (is ∙ other))))
true_where None o is = (None, refl, (λ same. absurd (none_true same), λ other. absurd (cc (is ∙ other))))
