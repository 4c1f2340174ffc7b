use Rattle.std.proofs.Common.{◌≡◌, ℤ, pos, ◌-ℤ◌, sym, ap, ◌∙◌, subst, w64}
use Rattle.std.proofs.lemmas.Int.{to_z-of_z}
use mir.Val.{SFits}
use Rattle.edm_values.specs.Val.{whole}
use Rattle.edm_values.specs.declared.sieve.Sieve.{Sieve}
use Rattle.odata_syntax.specs.declared.binary_operator.ComparisonOperator.{ComparisonOperator}
use Rattle.odata_eval.specs.private.ValueTests.{Decides}
use Rattle.odata_eval.proofs.walking.SievedComparisons.{least, lt_decided}
use Rattle.odata_eval.proofs.value_tests.sieve_below.Goals as goal

pub returns : goal.returns
returns c =
    let found = c.in-Some.ensures in
    let is : c.in-Some.high ≡ c.args.n -ℤ pos 1 = found.1 ∙ ap (λ (k : ℤ). k -ℤ pos 1) (to_z-of_z w64 c.args.n c.ranges.n) in
    subst (λ (m : ℤ). Decides ComparisonOperator.Lt (whole c.args.n) (Sieve.Within least m)) (sym (to_z-of_z w64 c.in-Some.high (subst (SFits w64) (sym found.1) found.0))) (lt_decided c.args.n c.in-Some.high is)
