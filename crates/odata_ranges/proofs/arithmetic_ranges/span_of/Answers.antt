use Rattle.odata_ranges.proofs.Common.{inl, inr, arith, ints}
use Rattle.odata_ranges.proofs.arithmetic_ranges.span_of.Goals as goal

pub returns-clause-least : goal.returns-clause-least
returns-clause-least c = (omega (arith, ints), omega (arith, ints), omega (arith, ints), omega (arith, ints))

pub returns-clause-greatest : goal.returns-clause-greatest
returns-clause-greatest c = (omega (arith, ints), omega (arith, ints), omega (arith, ints), omega (arith, ints))

pub returns-clause-one : goal.returns-clause-one
returns-clause-one c = (
  elim c.least-3.ensures.one [
    | inl of_both ↦ elim c.least.ensures.one [
      | inl is ↦ inl (omega (arith, ints, of_both, is))
      | inr is ↦ inr (inl (omega (arith, ints, of_both, is)))
    ]
    | inr of_both ↦ elim c.least-2.ensures.one [
      | inl is ↦ inr (inr (inl (omega (arith, ints, of_both, is))))
      | inr is ↦ inr (inr (inr (omega (arith, ints, of_both, is))))
    ]
  ],
  elim c.greatest-3.ensures.one [
    | inl of_both ↦ elim c.greatest.ensures.one [
      | inl is ↦ inl (omega (arith, ints, of_both, is))
      | inr is ↦ inr (inl (omega (arith, ints, of_both, is)))
    ]
    | inr of_both ↦ elim c.greatest-2.ensures.one [
      | inl is ↦ inr (inr (inl (omega (arith, ints, of_both, is))))
      | inr is ↦ inr (inr (inr (omega (arith, ints, of_both, is))))
    ]
  ],
)
