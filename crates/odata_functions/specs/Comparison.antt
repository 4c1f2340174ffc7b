-- When a comparison is true (OData URL Conventions 4.01, sections 5.1.1.1.1 to 5.1.1.1.6).
use Rattle.std.specs.Prelude.{◌≡◌, ◌⊎◌, ◌<ℤ◌, true, false, ℕ, List}
use Rattle.std.specs.Ordering.{nat_cmp}
use Rattle.std.specs.Cmp.Lexicographic.{slice_cmp}
use Rattle.std.specs.declared.cmp.Ordering.{Ordering}
use Rattle.std.specs.declared.cmp.Ordering.TheVariants.{Greater}
use Rattle.std.specs.Str.{chars}
use Rattle.edm_values.specs.Civil.{epoch_day}
use Rattle.edm_values.specs.Instant.{instant}
use Rattle.edm_values.specs.Val.{Val, null, boolean, whole, text, date, moment, guid, member}
use Rattle.odata_syntax.specs.declared.binary_operator.ComparisonOperator.{ComparisonOperator}
use Rattle.odata_syntax.specs.declared.binary_operator.ComparisonOperator.TheVariants.{Eq, Ne, Gt, Ge, Lt, Le}

-- the order of two texts: the first characters that differ decide, by their scalar values, and else the lengths
abbrev pub text_cmp : List ℕ → List ℕ → Ordering
text_cmp s t = slice_cmp nat_cmp (chars s) (chars t)

-- null equals itself and nothing else; dates are equal by day, moments by instant, texts by characters
abbrev pub AreEqual : Val → Val → Type 0
AreEqual null null = Unit {0}
AreEqual (boolean a) (boolean b) = a ≡ b
AreEqual (whole a) (whole b) = a ≡ b
AreEqual (text a) (text b) = chars a ≡ chars b
AreEqual (date a) (date b) = epoch_day a ≡ epoch_day b
AreEqual (moment a) (moment b) = instant a ≡ instant b
AreEqual (guid a) (guid b) = a ≡ b
AreEqual (member a) (member b) = a ≡ b
AreEqual _ _ = ⊥

-- true is greater than false; null is greater than nothing, and nothing than null
abbrev pub IsGreater : Val → Val → Type 0
IsGreater (boolean a) (boolean b) = (a ≡ true) × (b ≡ false)
IsGreater (whole a) (whole b) = b <ℤ a
IsGreater (text a) (text b) = text_cmp a b ≡ Greater
IsGreater (date a) (date b) = epoch_day b <ℤ epoch_day a
IsGreater (moment a) (moment b) = instant b <ℤ instant a
IsGreater _ _ = ⊥

-- the comparison of these two values is true; it is false where it is not
abbrev pub ComparesTrue : ComparisonOperator → Val → Val → Type 0
ComparesTrue Eq v w = AreEqual v w
ComparesTrue Ne v w = ¬ (AreEqual v w)
ComparesTrue Gt v w = IsGreater v w
ComparesTrue Ge v w = IsGreater v w ⊎ AreEqual v w
ComparesTrue Lt v w = IsGreater w v
ComparesTrue Le v w = IsGreater w v ⊎ AreEqual v w
