use Rattle.odata_ranges.proofs.Common.{inl, inr, arith, ints}
use Rattle.odata_ranges.proofs.arithmetic_ranges.lowest_remainder.Goals as goal

pub returns-then-low-lt0 : goal.returns-then-low-lt0
returns-then-low-lt0 c = λ a r from near. elim near.2 [ inl above ↦ elim c.greatest.ensures.one [ inl is ↦ omega (arith, ints) | inr is ↦ omega (arith, ints) ] | inr below ↦ elim c.greatest.ensures.one [ inl is ↦ omega (arith, ints) | inr is ↦ omega (arith, ints) ] ]

pub returns-else-low-lt0 : goal.returns-else-low-lt0
returns-else-low-lt0 c = λ a r from near. elim near.2 [ inl above ↦ omega (arith, ints) | inr below ↦ omega (arith, ints) ]
