-- Comparisons are true or not, whatever the values.
use Rattle.std.proofs.Common.{◌≡◌, ◌↔◌, ◌⊎◌, inl, inr, ℤ, Bool, true, false, IsTrue, nat_eq, arith, refl, ap, ⊎_elim, ◌<ℤ◌}
use Rattle.std.proofs.lemmas.Bool.Decides.{Decides-int_eq}
use Rattle.std.proofs.lemmas.Int.{ints, by_lt_z}
use Rattle.std.specs.Cmp.Lexicographic.{pointwise, bytes_decides}
use Rattle.std.specs.Ordering.{int_eq, is_gt}
use Rattle.std.specs.Str.{chars}
use Rattle.edm_values.specs.Civil.{epoch_day}
use Rattle.edm_values.specs.Instant.{instant}
use Rattle.edm_values.specs.Val.{Val, null, boolean, whole, text, date, moment, guid, member}
use Rattle.edm_values.specs.declared.datum.Datum.{Datum}
use Rattle.edm_values.specs.declared.datum.Datum.TheVariants as datum
use Rattle.odata_functions.specs.Comparable.{AreComparableBy, HaveEquality, HaveOrder}
use Rattle.odata_functions.specs.Comparison.{AreEqual, IsGreater, ComparesTrue, text_cmp}
use Rattle.odata_functions.specs.DatumVal.{Reading, datum_val}
use Rattle.odata_syntax.specs.declared.binary_operator.ComparisonOperator.{ComparisonOperator}
use Rattle.odata_syntax.specs.declared.binary_operator.ComparisonOperator.TheVariants.{Eq, Ne, Gt, Ge, Lt, Le}
use Rattle.odata_functions.proofs.TextOrder.{only_greater}

-- a fact that a test shows
abbrev pub Reported : Type 0 → Type 0
Reported P = (answer : Bool) × (IsTrue answer ↔ P)

pub never : {P : Type 0} → (P → ⊥) → Reported P
never none = (false, (λ is. cc, λ p. absurd (none p)))

reported_not : {P : Type 0} → Reported P → Reported (¬ P)
reported_not (true, is) = never (λ none. none (is.0 refl))
reported_not (false, is) = (true, (λ e. λ p. cc (is.1 p), λ none. refl))

reported_or : {P Q : Type 0} → Reported P → Reported Q → Reported (P ⊎ Q)
reported_or (true, is) other = (true, (λ e. inl (is.0 refl), λ p. refl))
reported_or (false, is) (true, is_other) = (true, (λ e. inr (is_other.0 refl), λ p. refl))
reported_or (false, is) (false, is_other) = (false, (λ e. cc, λ either. ⊎_elim is.1 is_other.1 either))

below : (a b : ℤ) → Reported (a <ℤ b)
below a b = by_lt_z a b (λ less. (true, (λ is. less, λ p. refl))) (λ more. never (λ less. omega (arith, ints)))

same_truth : (a b : Bool) → Reported (a ≡ b)
same_truth true true = (true, (λ is. refl, λ e. refl))
same_truth false false = (true, (λ is. refl, λ e. refl))
same_truth true false = never (λ e. cc)
same_truth false true = never (λ e. cc)

equal_reported : (v w : Val) → Reported (AreEqual v w)
equal_reported null null = (true, (λ is. tt, λ p. refl))
equal_reported (boolean a) (boolean b) = same_truth a b
equal_reported (whole a) (whole b) = (int_eq a b, Decides-int_eq a b)
equal_reported (text a) (text b) = (pointwise nat_eq (chars a) (chars b), bytes_decides (chars a) (chars b))
equal_reported (date a) (date b) = (int_eq (epoch_day a) (epoch_day b), Decides-int_eq (epoch_day a) (epoch_day b))
equal_reported (moment a) (moment b) = (int_eq (instant a) (instant b), Decides-int_eq (instant a) (instant b))
equal_reported (guid a) (guid b) = (pointwise nat_eq a b, bytes_decides a b)
equal_reported (member a) (member b) = (int_eq a b, Decides-int_eq a b)
equal_reported _ _ = never (λ p. p)

greater_truth : (a b : Bool) → Reported ((a ≡ true) × (b ≡ false))
greater_truth true false = (true, (λ is. (refl, refl), λ p. refl))
greater_truth true true = never (λ p. cc (p.1))
greater_truth false b = never (λ p. cc (p.0))

greater_reported : (v w : Val) → Reported (IsGreater v w)
greater_reported (boolean a) (boolean b) = greater_truth a b
greater_reported (whole a) (whole b) = below b a
greater_reported (text a) (text b) = (is_gt (text_cmp a b), (λ is. only_greater (text_cmp a b) is, λ greater. ap is_gt greater))
greater_reported (date a) (date b) = below (epoch_day b) (epoch_day a)
greater_reported (moment a) (moment b) = below (instant b) (instant a)
greater_reported _ _ = never (λ p. p)

pub comparison_reported : (operator : ComparisonOperator) (v w : Val) → Reported (ComparesTrue operator v w)
comparison_reported Eq v w = equal_reported v w
comparison_reported Ne v w = reported_not (equal_reported v w)
comparison_reported Gt v w = greater_reported v w
comparison_reported Ge v w = reported_or (greater_reported v w) (equal_reported v w)
comparison_reported Lt v w = greater_reported w v
comparison_reported Le v w = reported_or (greater_reported w v) (equal_reported v w)

-- whether values are comparable does not hang on how records and lists are read
module _ (l r k s : Reading) where
  same_equality : (left right : Datum) → HaveEquality (datum_val l left) (datum_val r right) → HaveEquality (datum_val k left) (datum_val s right)
  same_equality datum.Null datum.Null h = h
  same_equality (datum.Bool a) (datum.Bool b) h = h
  same_equality (datum.Int a) (datum.Int b) h = h
  same_equality (datum.Text a) (datum.Text b) h = h
  same_equality (datum.Date a) (datum.Date b) h = h
  same_equality (datum.Moment a) (datum.Moment b) h = h
  same_equality (datum.Guid a) (datum.Guid b) h = h
  same_equality (datum.Enum a) (datum.Enum b) h = h
  same_equality (datum.Record a) (datum.Record b) h = h
  same_equality (datum.Sparse a) (datum.Sparse b) h = h
  same_equality (datum.List a) (datum.List b) h = h
  same_equality _ _ h = h

  same_order : (left right : Datum) → HaveOrder (datum_val l left) (datum_val r right) → HaveOrder (datum_val k left) (datum_val s right)
  same_order datum.Null datum.Null h = h
  same_order (datum.Bool a) (datum.Bool b) h = h
  same_order (datum.Int a) (datum.Int b) h = h
  same_order (datum.Text a) (datum.Text b) h = h
  same_order (datum.Date a) (datum.Date b) h = h
  same_order (datum.Moment a) (datum.Moment b) h = h
  same_order (datum.Guid a) (datum.Guid b) h = h
  same_order (datum.Enum a) (datum.Enum b) h = h
  same_order (datum.Record a) (datum.Record b) h = h
  same_order (datum.Sparse a) (datum.Sparse b) h = h
  same_order (datum.List a) (datum.List b) h = h
  same_order _ _ h = h

  pub same_comparable : (operator : ComparisonOperator) (left right : Datum)
      → AreComparableBy operator (datum_val l left) (datum_val r right) → AreComparableBy operator (datum_val k left) (datum_val s right)
  same_comparable Eq left right h = same_equality left right h
  same_comparable Ne left right h = same_equality left right h
  same_comparable Gt left right h = same_order left right h
  same_comparable Ge left right h = same_order left right h
  same_comparable Lt left right h = same_order left right h
  same_comparable Le left right h = same_order left right h
