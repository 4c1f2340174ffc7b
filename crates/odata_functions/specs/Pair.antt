-- Two values as an operator compares them.
use Rattle.std.specs.Prelude.{◌≡◌}
use Rattle.edm_values.specs.Val.{Val, null, boolean, whole, text, date, moment, guid, member}
use Rattle.odata_functions.specs.Comparison.{AreEqual, IsGreater}
use Rattle.odata_functions.specs.declared.pair.Pair.{Pair}
use Rattle.odata_functions.specs.declared.pair.Pair.TheVariants.{Nulls, Bools, Ints, Texts, Dates, Moments, Guids, Enums, Unlike}

-- the pair is of these two values; of two that are unlike, that they are not equal and the left one is not greater
abbrev pub IsPairOf : Pair → Val → Val → Type 0
IsPairOf Nulls v w = (v ≡ null) × (w ≡ null)
IsPairOf (Bools a b) v w = (v ≡ boolean a) × (w ≡ boolean b)
IsPairOf (Ints a b) v w = (v ≡ whole a) × (w ≡ whole b)
IsPairOf (Texts a b) v w = (v ≡ text a.now) × (w ≡ text b.now)
IsPairOf (Dates a b) v w = (v ≡ date a.now) × (w ≡ date b.now)
IsPairOf (Moments a b) v w = (v ≡ moment a.now) × (w ≡ moment b.now)
IsPairOf (Guids a b) v w = (v ≡ guid a.now) × (w ≡ guid b.now)
IsPairOf (Enums a b) v w = (v ≡ member a) × (w ≡ member b)
IsPairOf Unlike v w = ¬ (AreEqual v w) × ¬ (IsGreater v w)
