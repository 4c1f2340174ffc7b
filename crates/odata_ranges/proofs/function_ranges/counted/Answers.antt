use Rattle.odata_ranges.proofs.Common.{inl, inr, pos, ◌≤ℤ◌, arith, w32, FitsSigned, ints, by_lt_z, Int32, unbounded}
use Rattle.odata_ranges.proofs.Calculations.{true_false}
use Rattle.odata_ranges.proofs.Counts.{number_within}
use Rattle.odata_ranges.proofs.function_ranges.counted.Goals as goal

pub returns-clause-bounded : goal.returns-clause-bounded
returns-clause-bounded c =
    elim c.least-most.ensures.one [
      | inl top ↦ elim c.least-first.ensures.one [
        | inl is ↦ record { ordered = omega (arith, ints); low = (omega (arith, ints), omega (arith, ints)); high = (omega (arith, ints), omega (arith, ints)) }
        | inr is ↦ record { ordered = omega (arith, ints); low = (omega (arith, ints), omega (arith, ints)); high = (omega (arith, ints), omega (arith, ints)) }
      ]
      | inr top ↦ elim c.least-first.ensures.one [
        | inl is ↦ record { ordered = omega (arith, ints); low = (omega (arith, ints), omega (arith, ints)); high = (omega (arith, ints), omega (arith, ints)) }
        | inr is ↦ record { ordered = omega (arith, ints); low = (omega (arith, ints), omega (arith, ints)); high = (omega (arith, ints), omega (arith, ints)) }
      ]
    ]

pub returns-clause-within : goal.returns-clause-within
returns-clause-within c = λ n o from up_to given.
    let top : FitsSigned w32 n → n ≤ℤ c.least-most.result = λ fits.
    elim c.least-most.ensures.one [
      | inl is ↦ omega (arith, ints, fits)
      | inr is ↦ by_lt_z c.args.high unbounded (λ below. let few = up_to below in omega (arith, ints, few)) (λ beyond. omega (arith, ints, beyond))
    ] in
    number_within Int32 _ n o (λ fits. let most = top fits in (omega (arith, ints, from), omega (arith, ints, most)))
    (λ safe. by_lt_z (pos 2147483647) c.args.high
    (λ above. absurd (true_false c.exceeds_int32.result (c.exceeds_int32.ensures.1 (omega (arith, ints, above))) safe))
    (λ below. let few = up_to (omega (arith, ints, below)) in omega (arith, ints, from, few)))
    given
