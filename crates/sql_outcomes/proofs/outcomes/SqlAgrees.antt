-- The laws of what SQL makes of truth values and of values that are not null.
use Rattle.sql_outcomes.proofs.Common.{◌≡◌, ◌≢◌, ◌⊎◌, ◌∙◌, inl, inr, Bool, true, false, Option, Some, None, refl, sym, StrictlyGives, IsEnough, Val, boolean, null, CompareGives, ComparesTrue, Outcome, gives, ComparisonOperator, LogicalOperator, and3, or3, truth}
use Rattle.sql_outcomes.specs.Connected.{connected}
use Rattle.sql_outcomes.specs.TrueWhere.{IsTrueWhere}
use Rattle.sql_outcomes.specs.SqlAgrees.{BothFalse, BothTrue, ChainsRegroup, ConnectedIs, CountsAgree, EnoughCompare, OneFalse, OneTrue, OppositesDiffer}
use Rattle.sql_outcomes.proofs.outcomes.ChainValues.{and_is_false, and_is_true, code_in, connective_is, grouped, or_is_false, or_is_true}
use Rattle.sql_outcomes.proofs.outcomes.ComparedValues.{kept_where, one_given_reports, order_reports}
use Rattle.sql_outcomes.proofs.outcomes.Comparisons.{StrictReports, reports, strict_of_values}
use Rattle.sql_outcomes.proofs.outcomes.FunctionsMade.{is_index_of, is_length}
use Rattle.sql_outcomes.proofs.outcomes.OppositeComparisons.{opposite_answer}
use Rattle.sql_outcomes.proofs.outcomes.Truths.{and3_into, and3_out, or3_into, or3_out}

-- ---- connectives

pub connected_is : ConnectedIs
connected_is connective a b o is_a is_b given = connective_is connective a b o (code_in a is_a) (code_in b is_b) given

pub chains_regroup : ChainsRegroup
chains_regroup connective a b c is_a is_b is_c = grouped connective a b c (code_in a is_a) (code_in b is_b) (code_in c is_c)

same_truth : (a b : Option Bool) → truth a ≡ truth b → a ≡ b
same_truth None None is = refl
same_truth (Some a) (Some b) is = cc
same_truth _ _ is = absurd (cc)

-- a condition that is true exactly where the fact holds
true_so : (P : Type 0) (s : Option Bool) → IsTrueWhere P (truth s) → (s ≡ Some true → P) × (P → s ≡ Some true)
true_so P s is = let same = same_truth s is.0 is.1 in (λ so. is.2.0 (sym same ∙ so), λ p. same ∙ is.2.1 p)

both_so : (P Q R : Type 0) (s t : Option Bool) → (R → P × Q) × (P → Q → R) → IsTrueWhere P (truth s) → IsTrueWhere Q (truth t) → IsTrueWhere R (truth (and3 s t))
both_so P Q R s t joined left right =
    let l = true_so P s left in
    let r = true_so Q t right in
    (and3 s t, refl, (λ is. joined.1 (l.0 (and3_out s t is).0) (r.0 (and3_out s t is).1), λ held. and3_into s t (l.1 (joined.0 held).0) (r.1 (joined.0 held).1)))

one_so : (P Q R : Type 0) (s t : Option Bool) → (R → P ⊎ Q) × (P ⊎ Q → R) → IsTrueWhere P (truth s) → IsTrueWhere Q (truth t) → IsTrueWhere R (truth (or3 s t))
one_so P Q R s t joined left right =
    let l = true_so P s left in
    let r = true_so Q t right in (
      or3 s t,
      refl,
      (
        λ is. joined.1 (elim (or3_out s t is) [ inl here ↦ inl (l.0 here) | inr there ↦ inr (r.0 there) ]),
        λ held. or3_into s t (elim (joined.0 held) [ inl here ↦ inl (l.1 here) | inr there ↦ inr (r.1 there) ]),
      ),
    )

pub both_true : BothTrue
both_true a b s t is_a is_b left right =
    both_so (a ≡ gives (boolean true)) (b ≡ gives (boolean true)) (connected LogicalOperator.And a b ≡ gives (boolean true)) s t (and_is_true a b (code_in a is_a) (code_in b is_b)) left right

pub both_false : BothFalse
both_false a b s t is_a is_b left right =
    both_so (a ≡ gives (boolean false)) (b ≡ gives (boolean false)) (connected LogicalOperator.Or a b ≡ gives (boolean false)) s t (or_is_false a b (code_in a is_a) (code_in b is_b)) left right

pub one_true : OneTrue
one_true v b s t is_a is_b left right =
    one_so (gives v ≡ gives (boolean true)) (b ≡ gives (boolean true)) (connected LogicalOperator.Or (gives v) b ≡ gives (boolean true)) s t
    (or_is_true (gives v) b (code_in (gives v) is_a) (code_in b is_b) tt) left right

pub one_false : OneFalse
one_false v b s t is_a is_b left right =
    one_so (gives v ≡ gives (boolean false)) (b ≡ gives (boolean false)) (connected LogicalOperator.And (gives v) b ≡ gives (boolean false)) s t
    (and_is_false (gives v) b (code_in (gives v) is_a) (code_in b is_b) tt) left right

-- ---- comparisons

module _ (l r : Val) (o : Outcome) (left right : Bool) (l_given : left ≡ false → l ≢ null) (r_given : right ≡ false → r ≢ null) where
  one_of : (left ≡ false) ⊎ (right ≡ false) → (l ≢ null) ⊎ (r ≢ null)
  one_of (inl is) = inl (l_given is)
  one_of (inr is) = inr (r_given is)

  said : (operator : ComparisonOperator) → StrictReports operator l r o → (t : Option Bool) × StrictlyGives operator l r (truth t) × IsTrueWhere (o ≡ gives (boolean true)) (truth t)
  said operator reported = (reported.strict, reported.gives_strict, kept_where reported.strict o (truth reported.strict) refl reported.is_same)

  by_operator : (operator : ComparisonOperator) → IsEnough operator left right → CompareGives operator l r o
      → (t : Option Bool) × StrictlyGives operator l r (truth t) × IsTrueWhere (o ≡ gives (boolean true)) (truth t)
  by_operator ComparisonOperator.Gt enough given = said ComparisonOperator.Gt (order_reports ComparisonOperator.Gt l r o tt given)
  by_operator ComparisonOperator.Lt enough given = said ComparisonOperator.Lt (order_reports ComparisonOperator.Lt l r o tt given)
  by_operator ComparisonOperator.Ne enough given = said ComparisonOperator.Ne (strict_of_values ComparisonOperator.Ne l r o (l_given enough.0) (r_given enough.1) given)
  by_operator ComparisonOperator.Eq enough given = said ComparisonOperator.Eq (one_given_reports ComparisonOperator.Eq l r o (λ is. cc) (one_of enough) given)
  by_operator ComparisonOperator.Ge enough given = said ComparisonOperator.Ge (one_given_reports ComparisonOperator.Ge l r o (λ is. cc) (one_of enough) given)
  by_operator ComparisonOperator.Le enough given = said ComparisonOperator.Le (one_given_reports ComparisonOperator.Le l r o (λ is. cc) (one_of enough) given)

pub enough_compare : EnoughCompare
enough_compare operator l r o left right enough l_given r_given given = by_operator l r o left right l_given r_given operator enough given

pub opposites_differ : OppositesDiffer
opposites_differ operator other l r o are here there given =
    let t = reports (ComparesTrue operator l r) o given.1 in (t.answer, t.is, opposite_answer operator other are l r o here there given)

-- ---- functions

pub counts_agree : CountsAgree
counts_agree operands = (is_length operands, is_index_of operands)
