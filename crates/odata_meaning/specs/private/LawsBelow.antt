-- What the laws of the layers below say, together. Private clauses alone cite these.
use Rattle.std.specs.Prelude.{◌≡◌, ◌↔◌, ℕ, ℤ, List, Bool, IsTrue, Option, Some, Result, length, IfSome}
use Rattle.edm_values.specs.Civil.{Date, epoch_day}
use Rattle.edm_values.specs.GuidLiteral.{GuidValue}
use Rattle.edm_values.specs.MomentLiteral.{MomentValue}
use Rattle.edm_values.specs.MomentParts.{IsMoment, MomentParts}
use Rattle.edm_values.specs.NumberTypes.{IsNumberOf, IsNumberType}
use Rattle.edm_values.specs.Val.{Val}
use Rattle.edm_values.specs.declared.primitive.PrimitiveType.{PrimitiveType}
use Rattle.odata_functions.specs.Arithmetic.{ArithmeticGives, NegationGives}
use Rattle.odata_functions.specs.Bits.{HasBits}
use Rattle.odata_functions.specs.Comparison.{ComparesTrue}
use Rattle.odata_functions.specs.Promotion.{IsPromoted, negation_type, promotion}
use Rattle.odata_functions.specs.Gregorian.{IsDateOf}
use Rattle.odata_functions.specs.Texts.{HasEnd, HasPart, HasStart, IsPlaceOf, IsTrimmed}
use Rattle.odata_functions.specs.declared.arithmetic.ArithFault.{ArithFault}
use Rattle.odata_syntax.specs.declared.binary_operator.ArithmeticOperator.{ArithmeticOperator}
use Rattle.odata_syntax.specs.declared.binary_operator.ComparisonOperator.{ComparisonOperator}
use Rattle.odata_signatures.specs.Functions.{IsNamed}
use Rattle.odata_signatures.specs.declared.function.Function.{Function}
use Rattle.csdl_schema.specs.SchemaModel.{Slots}
use Rattle.odata_signatures.specs.QuotedNumber.{IsQuotedNumber}
use Rattle.odata_signatures.specs.Unread.{TextsApart}
use Rattle.odata_signatures.specs.Laws.{OneLiteralValue, OneType, QuotingIsText}

-- what makes outcomes the only ones
pub record OneEach : Type 0 where
  pub values : OneLiteralValue
  pub types : OneType
  pub answer : (operator : ArithmeticOperator) (kind : PrimitiveType) (left right : Option ℤ)
      (x y : Result (Option ℤ) ArithFault)
      → ArithmeticGives operator kind left right x → ArithmeticGives operator kind left right y → x ≡ y
  pub negation : (kind : PrimitiveType) (operand : Option ℤ) (x y : Result (Option ℤ) ArithFault)
      → NegationGives kind operand x → NegationGives kind operand y → x ≡ y
  pub place : (text part : List ℕ) (n m : ℤ) → IsPlaceOf text part n → IsPlaceOf text part m → n ≡ m
  pub trimmed : (text part other : List ℕ) → IsTrimmed text part → IsTrimmed text other → part ≡ other
  pub dates : (number y y' : ℤ) (m m' d d' : ℕ) → IsDateOf number y m d → IsDateOf number y' m' d' → (y ≡ y') × (m ≡ m')
      × (d ≡ d')
  pub names : (f g : Function) (text : List ℕ) → IsNamed f text → IsNamed g text → f ≡ g
  pub numbers : (slots : Slots) (name spelling : List ℕ) (m n : ℤ) → IsQuotedNumber slots name spelling m
      → IsQuotedNumber slots name spelling n → m ≡ n

-- what parts literals that are read from those that are not
pub record ReadLaws : Type 0 where
  pub types : OneType
  pub quotes : QuotingIsText
  pub apart : TextsApart

-- what gives outcomes
pub record SomeEach : Type 0 where
  pub decided : (operator : ComparisonOperator) (v w : Val) → (answer : Bool)
      × (IsTrue answer ↔ ComparesTrue operator v w)
  pub answer : (operator : ArithmeticOperator) (kind : PrimitiveType) (left right : Option ℤ) → IsPromoted kind
      → (x : Result (Option ℤ) ArithFault) × ArithmeticGives operator kind left right x
  pub negation : (kind : PrimitiveType) (operand : Option ℤ) → IsPromoted kind
      → (x : Result (Option ℤ) ArithFault) × NegationGives kind operand x
  pub part : (text part : List ℕ) → (answer : Bool) × (IsTrue answer ↔ HasPart text part)
  pub start : (text part : List ℕ) → (answer : Bool) × (IsTrue answer ↔ HasStart text part)
  pub end : (text part : List ℕ) → (answer : Bool) × (IsTrue answer ↔ HasEnd text part)
  pub place : (text part : List ℕ) → (n : ℤ) × IsPlaceOf text part n
  pub trimmed : (text : List ℕ) → (part : List ℕ) × IsTrimmed text part
  pub dates : (date : Date) → IsDateOf (epoch_day date) date.year date.month date.day
  pub moments : (text : List ℕ) (m : MomentParts) → MomentValue text m → IsMoment m.civil m.offset_minutes
  pub guids : (text bytes : List ℕ) → GuidValue text bytes → length bytes ≡ 16
  pub bits : (value flags : ℤ) → (answer : Bool) × (IsTrue answer ↔ HasBits value flags)
  pub reads : ReadLaws

-- where operands lie
pub record Promotes : Type 0 where
  pub left : (l t : PrimitiveType) (r : Option PrimitiveType) (n : ℤ) → IsNumberType l
      → IfSome r IsNumberType → promotion (Some l) r ≡ Some t → IsNumberOf l n → IsNumberOf t n
  pub right : (l : Option PrimitiveType) (r t : PrimitiveType) (n : ℤ) → IfSome l IsNumberType
      → IsNumberType r → promotion l (Some r) ≡ Some t → IsNumberOf r n → IsNumberOf t n
  pub negation : (o t : PrimitiveType) (n : ℤ) → IsNumberType o → negation_type (Some o) ≡ Some t
      → IsNumberOf o n → IsNumberOf t n
  pub three : (l r : Option PrimitiveType) (t : PrimitiveType) → promotion l r ≡ Some t → IsPromoted t
