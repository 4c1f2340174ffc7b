-- What an operator takes leaves at most one outcome.
use Rattle.std.proofs.Common.{◌≡◌, ◌<◌, ◌+◌, ◌*◌, ◌^◌, ℕ, zero, suc, ℤ, inl, inr, Bool, true, false, Option, Some, None, refl, sym, ap, subst, ◌∙◌, arith}
use Rattle.std.specs.Prelude.{IsSomeAnd, IsTrue, List, pos, FitsSigned, slice_get}
use Rattle.std.specs.Int.{w64, cast_signed, cast_unsigned, bit_at}
use Rattle.std.proofs.Math.Facts.{Fits-of_z}
use Rattle.std.proofs.lemmas.Int.{to_z-of_z}
use Rattle.std.proofs.lemmas.Nat.Bits.{bit_at-lt, same_from_bits_below}
use Rattle.edm_values.specs.NumberTypes.{IsNumberOf}
use Rattle.edm_values.specs.Val.{Val, null, boolean, whole, member}
use Rattle.edm_values.specs.declared.primitive.PrimitiveType.{PrimitiveType}
use Rattle.odata_functions.specs.Arithmetic.{MakesNumber}
use Rattle.odata_functions.specs.Bits.{HasBits, IsBitOf}
use Rattle.odata_functions.specs.Division.{IsDivision}
use Rattle.odata_functions.specs.Texts.{IsPlaceOf}
use Rattle.odata_syntax.specs.declared.binary_operator.ArithmeticOperator.{ArithmeticOperator}
use Rattle.odata_syntax.specs.declared.binary_operator.ComparisonOperator.{ComparisonOperator}
use Rattle.odata_filter_operations.specs.CompareGives.{GivesTruth, IsWhether}
use Rattle.odata_filter_operations.specs.Outcome.{Outcome, gives, overflow, divides_by_zero}
use Rattle.odata_meaning.specs.OneOutcome.{ValuesHaveOneOutcome}
use Rattle.sql_tree.specs.TableDigits.{digits_of}
use Rattle.sql_tree.specs.declared.look_up.LookUp.{LookUp}
use Rattle.sql_tree.specs.declared.sql_node.SqlType.{SqlType}
use Rattle.sql_meaning.specs.Codes.{DigitGives, OneLooked, TwoLooked}
use Rattle.sql_meaning.specs.FaultsGive.{FaultOfCode}
use Rattle.sql_meaning.specs.Operands.{BothNumbers, OfMember, OfNumber, OfTruth, OfValue, Over}
use Rattle.sql_meaning.specs.SqlTypeHolds.{OfType}
use Rattle.sql_meaning.specs.OperatorsGive.{ChoiceGives, FirstGiven, GivesBits, GivesHasBits, GivesInRange, GivesIsNull, GivesWhole, GivesWithin64, StrictlyGives}

-- a relation to outcomes has one at most
abbrev pub AtMostOne : (Outcome → Type 0) → Type 0
AtMostOne Gives = (a b : Outcome) → Gives a → Gives b → a ≡ b

pub same_one : (c a b : Outcome) → a ≡ c → b ≡ c → a ≡ b
same_one c a b p q = p ∙ sym q

-- what the layers below say of the same values
pub record OneEach : Type 0 where
  pub values : ValuesHaveOneOutcome
  pub place : (text part : List ℕ) (n m : ℤ) → IsPlaceOf text part n → IsPlaceOf text part m → n ≡ m

-- two numbers have one quotient and one remainder
pub record OneDivision : Type 0 where
  pub quotient : (a b q r p s : ℤ) → IsDivision a b q r → IsDivision a b p s → q ≡ p
  pub remainder : (a b q r p s : ℤ) → IsDivision a b q r → IsDivision a b p s → r ≡ s

-- ---- operands

pub Over-one : (Operand : Outcome → Type 0) (Goes : Outcome → Outcome → Type 0) → AtMostOne Operand → ((x : Outcome) → AtMostOne (Goes x))
    → AtMostOne (Over Operand Goes)
Over-one Operand Goes one each a b p q = each p.0 a b p.2 (subst (λ (x : Outcome). Goes x b) (one q.0 p.0 q.1 p.1) q.2)

pub OfTruth-one : (Goes : Option Bool → Outcome → Type 0) → ((t : Option Bool) → AtMostOne (Goes t)) → (x : Outcome) → AtMostOne (OfTruth Goes x)
OfTruth-one Goes one (gives null) a b p q = one None a b p q
OfTruth-one Goes one (gives (boolean t)) a b p q = one (Some t) a b p q
OfTruth-one Goes one _ a b p q = absurd p

pub OfNumber-one : (Goes : Option ℤ → Outcome → Type 0) → ((n : Option ℤ) → AtMostOne (Goes n)) → (x : Outcome) → AtMostOne (OfNumber Goes x)
OfNumber-one Goes one (gives null) a b p q = one None a b p q
OfNumber-one Goes one (gives (whole n)) a b p q = one (Some n) a b p q
OfNumber-one Goes one _ a b p q = absurd p

pub OfMember-one : (Goes : Option ℤ → Outcome → Type 0) → ((n : Option ℤ) → AtMostOne (Goes n)) → (x : Outcome) → AtMostOne (OfMember Goes x)
OfMember-one Goes one (gives null) a b p q = one None a b p q
OfMember-one Goes one (gives (member n)) a b p q = one (Some n) a b p q
OfMember-one Goes one _ a b p q = absurd p

pub OfValue-one : (Goes : Val → Outcome → Type 0) → ((v : Val) → AtMostOne (Goes v)) → (x : Outcome) → AtMostOne (OfValue Goes x)
OfValue-one Goes one (gives v) a b p q = one v a b p q
OfValue-one Goes one overflow a b p q = absurd p
OfValue-one Goes one divides_by_zero a b p q = absurd p

pub BothNumbers-one : (m n : Option ℤ) (Goes : ℤ → ℤ → Outcome → Type 0) → ((x y : ℤ) → AtMostOne (Goes x y)) → AtMostOne (BothNumbers m n Goes)
BothNumbers-one (Some x) (Some y) Goes one a b p q = one x y a b p q
BothNumbers-one (Some x) None Goes one a b p q = same_one (gives null) a b p q
BothNumbers-one None n Goes one a b p q = same_one (gives null) a b p q

pub IsSomeAnd-one : {T : Type 0} (found : Option T) (P : T → Outcome → Type 0) → ((x : T) → AtMostOne (P x)) → AtMostOne (λ o. IsSomeAnd found (λ x. P x o))
IsSomeAnd-one None P one a b p q = absurd p
IsSomeAnd-one (Some x) P one a b p q = one x a b p q

pub OfType-one : (type : SqlType) (Goes : Val → Outcome → Type 0) → ((v : Val) → AtMostOne (Goes v)) → (v : Val) → AtMostOne (OfType type Goes v)
OfType-one type Goes one v a b p q = one v a b p.1 q.1

-- ---- operators

false-true : IsTrue false → ⊥
false-true same = cc

IsWhether-one : (Fact : Type 0) (v w : Val) → IsWhether Fact v → IsWhether Fact w → v ≡ w
IsWhether-one Fact (boolean true) (boolean true) p q = refl
IsWhether-one Fact (boolean true) (boolean false) p q = absurd (false-true (q.1 (p.0 refl)))
IsWhether-one Fact (boolean false) (boolean true) p q = absurd (false-true (p.1 (q.0 refl)))
IsWhether-one Fact (boolean false) (boolean false) p q = refl
IsWhether-one Fact (boolean b) _ p q = absurd q
IsWhether-one Fact _ w p q = absurd p

GivesTruth-one : (Fact : Type 0) → AtMostOne (GivesTruth Fact)
GivesTruth-one Fact (gives v) (gives w) p q = ap gives (IsWhether-one Fact v w p q)
GivesTruth-one Fact (gives v) overflow p q = absurd q
GivesTruth-one Fact (gives v) divides_by_zero p q = absurd q
GivesTruth-one Fact overflow b p q = absurd p
GivesTruth-one Fact divides_by_zero b p q = absurd p

pub MakesNumber-one : OneDivision → (operator : ArithmeticOperator) (a b n m : ℤ) → MakesNumber operator a b n → MakesNumber operator a b m → n ≡ m
MakesNumber-one divided ArithmeticOperator.Add a b n m p q = p ∙ sym q
MakesNumber-one divided ArithmeticOperator.Sub a b n m p q = p ∙ sym q
MakesNumber-one divided ArithmeticOperator.Mul a b n m p q = p ∙ sym q
MakesNumber-one divided ArithmeticOperator.Div a b n m p q = divided.quotient a b n p.0 m q.0 p.1 q.1
MakesNumber-one divided ArithmeticOperator.Mod a b n m p q = divided.remainder a b p.0 n q.0 m p.1 q.1

pub GivesWithin64-one : OneDivision → (operator : ArithmeticOperator) (x y : ℤ) → AtMostOne (GivesWithin64 operator x y)
GivesWithin64-one divided operator x y a b p q =
    p.3 ∙ ap (λ (n : ℤ). gives (whole n)) (MakesNumber-one divided operator x y p.0 q.0 p.1 q.1) ∙ sym q.3

pub GivesWhole-one : OneDivision → (operator : ArithmeticOperator) (x y : ℤ) → AtMostOne (GivesWhole operator x y)
GivesWhole-one divided operator x y a b p q =
    p.4 ∙ ap (λ (n : ℤ). gives (whole n)) (MakesNumber-one divided operator x y p.2 q.2 p.3 q.3) ∙ sym q.4

pub GivesInRange-one : (type : PrimitiveType) (n : Option ℤ) → AtMostOne (GivesInRange type n)
GivesInRange-one type None a b p q = same_one (gives null) a b p q
GivesInRange-one type (Some n) a b p q = GivesTruth-one (IsNumberOf type n) a b p q

one_bit : (x y : ℕ) → x < 2 → y < 2 → (x ≡ 1 → y ≡ 1) → (y ≡ 1 → x ≡ 1) → x ≡ y
one_bit zero zero below beside there back = refl
one_bit zero (suc y) below beside there back = let e : 0 ≡ 1 = back (omega arith) in absurd (omega (arith, e))
one_bit (suc x) zero below beside there back = let e : 0 ≡ 1 = there (omega arith) in absurd (omega (arith, e))
one_bit (suc x) (suc y) below beside there back = omega arith

unsigned_below : (n : ℤ) → FitsSigned w64 n → cast_unsigned w64 n < 2 ^ 64
unsigned_below n within = (Fits-of_z {w = w64} {z = n} within).fits

-- a number is known by its bits
same_bits : (n m : ℤ) → FitsSigned w64 n → FitsSigned w64 m → ((k : ℕ) → k < 64 → IsBitOf n k → IsBitOf m k)
    → ((k : ℕ) → k < 64 → IsBitOf m k → IsBitOf n k) → n ≡ m
same_bits n m of_n of_m there back =
    sym (to_z-of_z w64 n of_n)
    ∙ ap (cast_signed w64) (same_from_bits_below 64 (cast_unsigned w64 n) (cast_unsigned w64 m) (unsigned_below n of_n) (unsigned_below m of_m)
    (λ k below. one_bit (bit_at (cast_unsigned w64 n) k) (bit_at (cast_unsigned w64 m) k) (bit_at-lt (cast_unsigned w64 n) k)
    (bit_at-lt (cast_unsigned w64 m) k) (there k below) (back k below)))
    ∙ to_z-of_z w64 m of_m

pub GivesBits-one : (x y : ℤ) → AtMostOne (GivesBits x y)
GivesBits-one x y a b p q =
    p.3 ∙ ap (λ (n : ℤ). gives (whole n))
    (same_bits p.0 q.0 p.1 q.1 (λ k below is. (q.2 k below).1 ((p.2 k below).0 is)) (λ k below is. (p.2 k below).1 ((q.2 k below).0 is)))
    ∙ sym q.3

pub GivesHasBits-one : (x y : ℤ) → AtMostOne (GivesHasBits x y)
GivesHasBits-one x y = GivesTruth-one (HasBits x y)

pub GivesIsNull-one : (v : Val) → AtMostOne (GivesIsNull v)
GivesIsNull-one null a b p q = same_one (gives (boolean true)) a b p q
GivesIsNull-one _ a b p q = same_one (gives (boolean false)) a b p q

pub StrictlyGives-one : OneEach → (operator : ComparisonOperator) (l r : Val) → AtMostOne (StrictlyGives operator l r)
StrictlyGives-one known operator null r a b p q = same_one (gives null) a b p q
StrictlyGives-one known operator l null a b p q = same_one (gives null) a b p q
StrictlyGives-one known operator l r a b p q = known.values.compared operator l r a b p q

pub ChoiceGives-one : (t : Option Bool) (first second : Outcome) → AtMostOne (ChoiceGives t first second)
ChoiceGives-one (Some true) first second a b p q = same_one first a b p q
ChoiceGives-one (Some false) first second a b p q = same_one second a b p q
ChoiceGives-one None first second a b p q = same_one second a b p q

pub FirstGiven-one : (first second : Outcome) → AtMostOne (FirstGiven first second)
FirstGiven-one (gives null) second a b p q = same_one second a b p q
FirstGiven-one first second a b p q = same_one first a b p q

-- ---- faults and tables

same_pos : (a b : ℕ) (n : ℤ) → n ≡ pos a → n ≡ pos b → a ≡ b
same_pos a b n is_a is_b = cc

three_four : (n : ℤ) → n ≡ pos 3 → n ≡ pos 4 → ⊥
three_four n three four = omega (arith, same_pos 3 4 n three four)

pub FaultOfCode-one : (x : Outcome) → AtMostOne (FaultOfCode x)
FaultOfCode-one (gives null) a b p q = same_one (gives null) a b p q
FaultOfCode-one (gives (whole n)) a b (inl p) (inl q) = same_one overflow a b p.1 q.1
FaultOfCode-one (gives (whole n)) a b (inl p) (inr q) = absurd (three_four n p.0 q.0)
FaultOfCode-one (gives (whole n)) a b (inr p) (inl q) = absurd (three_four n q.0 p.0)
FaultOfCode-one (gives (whole n)) a b (inr p) (inr q) = same_one divides_by_zero a b p.1 q.1
FaultOfCode-one _ a b p q = absurd p

same_digit : (x y : ℕ) (found : Option ℕ) → found ≡ Some x → found ≡ Some y → x ≡ y
same_digit x y found is_x is_y = cc

DigitGives-one : (table : LookUp) (place : ℕ) → AtMostOne (DigitGives table place)
DigitGives-one table place a b p q =
    p.2 ∙ ap (λ (d : ℕ). gives (whole (pos d))) (same_digit p.0 q.0 (slice_get (digits_of table) place) p.1 q.1) ∙ sym q.2

pub OneLooked-one : (table : LookUp) (x : Outcome) → AtMostOne (OneLooked table x)
OneLooked-one table (gives (whole (pos n))) a b p q = DigitGives-one table n a b p.1 q.1
OneLooked-one table _ a b p q = absurd p

pub TwoLooked-one : (table : LookUp) (x y : Outcome) → AtMostOne (TwoLooked table x y)
TwoLooked-one table (gives (whole (pos n))) (gives (whole (pos m))) a b p q = DigitGives-one table (5 * n + m) a b p.2 q.2
TwoLooked-one table _ _ a b p q = absurd p
