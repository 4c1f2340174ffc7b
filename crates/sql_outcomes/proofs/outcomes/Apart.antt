-- Small facts: what is not the same, and what stays of a fault or of true.
use Rattle.sql_outcomes.proofs.Common.{BoundValue, IsFault, IsOfKind, IsTrue, Kind, List, LogicalOperator, None, Outcome, Some, Val, boolean, chained, false, fault_else, gives, inl, inr, length, null, refl, slice_get, true, without_fault, ℤ, ◌++◌, ◌∷◌, ◌≡◌, ◌≢◌, ◌⊎◌, []}

pub null_or_not : (v : Val) → (v ≡ null) ⊎ (v ≢ null)
null_or_not null = inl refl
null_or_not v = inr (λ is. cc)

pub false_true : Some false ≡ Some true → ⊥
false_true is = cc

pub none_true : None ≡ Some true → ⊥
none_true is = cc

pub null_kind : (kind : Kind) → IsOfKind kind null
null_kind Kind.Null = refl
null_kind _ = tt

pub is_faulted : (o : Outcome) → IsFault o → without_fault o ≡ gives null
is_faulted (gives v) fault = absurd fault
is_faulted _ fault = refl

pub stays_fault : (f rest : Outcome) → IsFault f → fault_else f rest ≡ f
stays_fault (gives v) rest fault = absurd fault
stays_fault _ rest fault = refl

pub no_number : (z : ℤ) → None ≡ Some z → ⊥
no_number z none = cc

pub true_stays : (es : List Outcome) → chained LogicalOperator.Or (gives (boolean true)) es ≡ gives (boolean true)
true_stays [] = refl
true_stays (e ∷ es) = true_stays es

pub at_end : (bound rest : List BoundValue) (b : BoundValue) → slice_get (bound ++ b ∷ rest) (length bound) ≡ Some b
at_end [] rest b = refl
at_end (c ∷ bound) rest b = at_end bound rest b

pub no_truth : IsTrue false → ⊥
no_truth is = cc
