use Rattle.std.proofs.Common.{ℤ, subst, sym, w64}
use mir.Val.{to_z, of_z}
use Rattle.std.proofs.lemmas.Int.{to_z-of_z}
use Rattle.edm_values.specs.Val.{whole}
use Rattle.edm_values.specs.declared.sieve.Sieve.{Sieve}
use Rattle.odata_syntax.specs.declared.binary_operator.ComparisonOperator.{ComparisonOperator}
use Rattle.odata_eval.specs.private.ValueTests.{Decides}
use Rattle.odata_eval.proofs.walking.SievedComparisons.{eq_affirmed, eq_refuted, ge_affirmed, ge_refuted, greatest, le_affirmed, le_refuted, least, ne_affirmed, ne_refuted}
use Rattle.odata_eval.proofs.value_tests.number_sieve.Goals as goal

pub returns-in-Eq : goal.returns-in-Eq
returns-in-Eq c =
    subst (λ (m : ℤ). Decides c.args.comparison (whole c.args.n) (Sieve.Within m m)) (sym (to_z-of_z w64 c.args.n c.ranges.n))
    (subst (λ (o : ComparisonOperator). Decides o (whole c.args.n) (Sieve.Within c.args.n c.args.n)) (sym c.in-Eq.is) (record { refutes = eq_refuted c.args.n; affirms = eq_affirmed c.args.n }))

pub returns-in-Ne : goal.returns-in-Ne
returns-in-Ne c =
    subst (λ (m : ℤ). Decides c.args.comparison (whole c.args.n) (Sieve.Besides m)) (sym (to_z-of_z w64 c.args.n c.ranges.n))
    (subst (λ (o : ComparisonOperator). Decides o (whole c.args.n) (Sieve.Besides c.args.n)) (sym c.in-Ne.is) (record { refutes = ne_refuted c.args.n; affirms = ne_affirmed c.args.n }))

pub returns-in-Ge : goal.returns-in-Ge
returns-in-Ge c =
    subst (λ (m : ℤ). Decides c.args.comparison (whole c.args.n) (Sieve.Within m greatest)) (sym (to_z-of_z w64 c.args.n c.ranges.n))
    (subst (λ (o : ComparisonOperator). Decides o (whole c.args.n) (Sieve.Within c.args.n greatest)) (sym c.in-Ge.is) (record { refutes = ge_refuted c.args.n; affirms = ge_affirmed c.args.n greatest }))

pub returns-in-Le : goal.returns-in-Le
returns-in-Le c =
    subst (λ (m : ℤ). Decides c.args.comparison (whole c.args.n) (Sieve.Within least m)) (sym (to_z-of_z w64 c.args.n c.ranges.n))
    (subst (λ (o : ComparisonOperator). Decides o (whole c.args.n) (Sieve.Within least c.args.n)) (sym c.in-Le.is) (record { refutes = le_refuted c.args.n; affirms = le_affirmed least c.args.n }))

pub returns-in-Gt : goal.returns-in-Gt
returns-in-Gt c =
    subst (λ (m : ℤ). Decides c.args.comparison (whole m) c.sieve_above.result) (to_z-of_z w64 c.args.n c.ranges.n)
    (subst (λ (o : ComparisonOperator). Decides o (whole (to_z w64 (of_z w64 c.args.n))) c.sieve_above.result) (sym c.in-Gt.is) c.sieve_above.ensures)

pub returns-in-Lt : goal.returns-in-Lt
returns-in-Lt c =
    subst (λ (m : ℤ). Decides c.args.comparison (whole m) c.sieve_below.result) (to_z-of_z w64 c.args.n c.ranges.n)
    (subst (λ (o : ComparisonOperator). Decides o (whole (to_z w64 (of_z w64 c.args.n))) c.sieve_below.result) (sym c.in-Lt.is) c.sieve_below.ensures)
