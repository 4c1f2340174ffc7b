use Rattle.odata_ranges.proofs.Common.{inl, inr, arith, ints}
use Rattle.odata_ranges.proofs.function_ranges.joined.Goals as goal

pub returns-clause-bounded : goal.returns-clause-bounded
returns-clause-bounded c =
    elim c.least-first_low.ensures.one [
      | inl is ↦ record { ordered = omega (arith, ints); low = (omega (arith, ints), omega (arith, ints)); high = (omega (arith, ints), omega (arith, ints)) }
      | inr is ↦ record { ordered = omega (arith, ints); low = (omega (arith, ints), omega (arith, ints)); high = (omega (arith, ints), omega (arith, ints)) }
    ]

pub returns-clause-counts : goal.returns-clause-counts
returns-clause-counts c = λ m n of_first of_second.
    let least = c.added-low.ensures.least m n (omega (arith, ints, of_first.0)) (omega (arith, ints, of_second.0)) in (
      omega (arith, ints, least),
      λ bounded. let most = c.added-high.ensures.most (omega (arith, ints, bounded)) m n
          (λ b. let few = of_first.1 (omega (arith, ints, b)) in omega (arith, ints, few))
          (λ b. let few = of_second.1 (omega (arith, ints, b)) in omega (arith, ints, few)) in omega (arith, ints, most),
    )
