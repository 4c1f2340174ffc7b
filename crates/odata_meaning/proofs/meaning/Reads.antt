-- A String literal that is read goes with the other side by its number alone.
use Rattle.std.proofs.Common.{◌≡◌, ◌∙◌, refl, sym, subst, ℕ, ℤ, List, Option, Some, None}
use Rattle.edm_values.specs.Val as val
use Rattle.csdl_schema.specs.ExprType.{ExprType, single, enumeration}
use Rattle.csdl_schema.specs.SchemaModel.{Slots}
use Rattle.edm_entities.specs.HasType.{HasType}
use Rattle.odata_syntax.specs.declared.binary_operator.ComparisonOperator.{ComparisonOperator}
use Rattle.odata_syntax.specs.Tree.{Tree}
use Rattle.odata_syntax.specs.declared.binary_operator.BinaryOperator.{BinaryOperator}
use Rattle.odata_signatures.specs.ComparableTypes.{AreComparable}
use Rattle.odata_signatures.specs.ExprTypes.{boolean_type, string_type}
use Rattle.odata_signatures.specs.HasTyped.{AreFlags}
use Rattle.odata_signatures.specs.OperatorTyped.{OperatorByTypes, IsEquality}
use Rattle.odata_signatures.specs.QuotedNumber.{ResolvedNumber}
use Rattle.odata_signatures.specs.Reads.{OfEquality, ReadsNumber}
use Rattle.odata_signatures.specs.Sides.{quoted_text}
use Rattle.odata_signatures.specs.Typed.{Scope, Typed}
use Rattle.odata_meaning.specs.private.LawsBelow.{ReadLaws}
use Rattle.odata_meaning.proofs.meaning.TypeValues.{member_has}

-- an enumeration, and a text that is resolved by it
pub record IsBeside (type : ExprType) (quoted : Option (List ℕ)) : Type 0 where
  pub name : List ℕ
  pub spelling : List ℕ
  pub type_is : type ≡ single (enumeration name)
  pub quotes : quoted ≡ Some spelling

pub beside : (slots : Slots) (type : ExprType) (quoted : Option (List ℕ)) (n : ℤ) → ResolvedNumber slots type quoted n → IsBeside type quoted
beside slots (single (enumeration name)) (Some spelling) n number = record { name = name; spelling = spelling; type_is = refl; quotes = refl }
beside slots (single (enumeration name)) None n number = absurd number
beside slots _ quoted n number = absurd number

string_unread : (slots : Slots) (type : ExprType) (quoted : Option (List ℕ)) (n : ℤ) → type ≡ string_type → ¬ ResolvedNumber slots type quoted n
string_unread slots type quoted n is number = subst (λ (t : ExprType). ResolvedNumber slots t quoted n) is number

-- the number is a value of the enumeration
pub read_has : (slots : Slots) (type : ExprType) (quoted : Option (List ℕ)) (n : ℤ) → ResolvedNumber slots type quoted n → HasType slots type (val.member n)
read_has slots (single (enumeration name)) (Some spelling) n number = member_has slots name n number.within
read_has slots (single (enumeration name)) None n number = absurd number
read_has slots _ quoted n number = absurd number

-- which is compared with its like
pub number_comparable : (slots : Slots) (type : ExprType) (quoted : Option (List ℕ)) (n : ℤ) → ResolvedNumber slots type quoted n → AreComparable type type
number_comparable slots (single (enumeration name)) (Some spelling) n number = refl
number_comparable slots (single (enumeration name)) None n number = absurd number
number_comparable slots _ quoted n number = absurd number

pub number_flags : (slots : Slots) (type : ExprType) (quoted : Option (List ℕ)) (n : ℤ) → ResolvedNumber slots type quoted n → AreFlags type type
number_flags slots (single (enumeration name)) (Some spelling) n number = refl
number_flags slots (single (enumeration name)) None n number = absurd number
number_flags slots _ quoted n number = absurd number

pub equality_typed : (operator : BinaryOperator) (left right type : ExprType) → IsEquality operator → AreComparable left right → type ≡ boolean_type → OperatorByTypes operator left right type
equality_typed (BinaryOperator.Comparison ComparisonOperator.Eq) left right type equality comparable is = (comparable, is)
equality_typed (BinaryOperator.Comparison ComparisonOperator.Ne) left right type equality comparable is = (comparable, is)
equality_typed _ left right type equality comparable is = absurd equality

equality_compares : (operator : BinaryOperator) (left right type : ExprType) → IsEquality operator → OperatorByTypes operator left right type → AreComparable left right
equality_compares (BinaryOperator.Comparison ComparisonOperator.Eq) left right type equality typed = typed.0
equality_compares (BinaryOperator.Comparison ComparisonOperator.Ne) left right type equality typed = typed.0
equality_compares _ left right type equality typed = absurd equality

module _ (laws : ReadLaws) (slots : Slots) (root : List ℕ) (scope : Scope) where
  -- a text that is resolved by an enumeration is compared by no type
  pub right_apart : (left right : Tree) (s t : ExprType) (n : ℤ) → Typed slots root scope left s → Typed slots root scope right t
      → ReadsNumber slots (Typed slots root scope left) right n → ¬ AreComparable s t
  right_apart left right s t n of_left of_right reads comparable =
      let same : reads.type_of ≡ s = laws.types slots root scope left reads.type_of s reads.beside of_left in
      let is = beside slots reads.type_of (quoted_text right) n reads.number in
      let text : t ≡ string_type = laws.quotes slots root scope right is.spelling t is.quotes of_right in
      (laws.apart ComparisonOperator.Eq is.name).0
      (subst (λ (u : ExprType). AreComparable (single (enumeration is.name)) u) text (subst (λ (u : ExprType). AreComparable u t) (sym same ∙ is.type_is) comparable))

  pub left_apart : (left right : Tree) (s t : ExprType) (n : ℤ) → Typed slots root scope left s → Typed slots root scope right t
      → ReadsNumber slots (Typed slots root scope right) left n → ¬ AreComparable s t
  left_apart left right s t n of_left of_right reads comparable =
      let same : reads.type_of ≡ t = laws.types slots root scope right reads.type_of t reads.beside of_right in
      let is = beside slots reads.type_of (quoted_text left) n reads.number in
      let text : s ≡ string_type = laws.quotes slots root scope left is.spelling s is.quotes of_left in
      (laws.apart ComparisonOperator.Eq is.name).1
      (subst (λ (u : ExprType). AreComparable u (single (enumeration is.name))) text (subst (λ (u : ExprType). AreComparable s u) (sym same ∙ is.type_is) comparable))

  pub flags_apart : (left right : Tree) (s t : ExprType) (n : ℤ) → Typed slots root scope left s → Typed slots root scope right t
      → ReadsNumber slots (Typed slots root scope left) right n → ¬ AreFlags s t
  flags_apart left right s t n of_left of_right reads flags =
      let same : reads.type_of ≡ s = laws.types slots root scope left reads.type_of s reads.beside of_left in
      let is = beside slots reads.type_of (quoted_text right) n reads.number in
      let text : t ≡ string_type = laws.quotes slots root scope right is.spelling t is.quotes of_right in
      (laws.apart ComparisonOperator.Eq is.name).2
      (subst (λ (u : ExprType). AreFlags (single (enumeration is.name)) u) text (subst (λ (u : ExprType). AreFlags u t) (sym same ∙ is.type_is) flags))

  -- of two sides one is read at most
  pub one_side : (left right : Tree) (s : ExprType) (m n : ℤ) → Typed slots root scope left s
      → ReadsNumber slots (Typed slots root scope left) right m → ResolvedNumber slots s (quoted_text right) m
  one_side left right s m n of_left reads =
      subst (λ (u : ExprType). ResolvedNumber slots u (quoted_text right) m) (laws.types slots root scope left reads.type_of s reads.beside of_left) reads.number

  pub not_both : (left right : Tree) (s t : ExprType) (m n : ℤ) → Typed slots root scope left s → Typed slots root scope right t
      → ResolvedNumber slots t (quoted_text left) n → ¬ ReadsNumber slots (Typed slots root scope left) right m
  not_both left right s t m n of_left of_right number reads =
      let is = beside slots t (quoted_text left) n number in
      let text : s ≡ string_type = laws.quotes slots root scope left is.spelling s is.quotes of_left in
      string_unread slots s (quoted_text right) m text (one_side left right s m n of_left reads)

  -- an operator whose operands go together by their types reads none of them
  pub right_unread : (operator : BinaryOperator) (left right : Tree) (s t type : ExprType) → Typed slots root scope left s → Typed slots root scope right t
      → OperatorByTypes operator s t type → (n : ℤ) → ¬ ReadsNumber slots (OfEquality operator (Typed slots root scope left)) right n
  right_unread operator left right s t type of_left of_right typed n reads =
      right_apart left right s t n of_left of_right (record { type_of = reads.type_of; beside = reads.beside.1; number = reads.number })
      (equality_compares operator s t type reads.beside.0 typed)

  pub left_unread : (operator : BinaryOperator) (left right : Tree) (s t type : ExprType) → Typed slots root scope left s → Typed slots root scope right t
      → OperatorByTypes operator s t type → (n : ℤ) → ¬ ReadsNumber slots (OfEquality operator (Typed slots root scope right)) left n
  left_unread operator left right s t type of_left of_right typed n reads =
      left_apart left right s t n of_left of_right (record { type_of = reads.type_of; beside = reads.beside.1; number = reads.number })
      (equality_compares operator s t type reads.beside.0 typed)

  pub other_unread : (operator : BinaryOperator) (left right : Tree) (s t : ExprType) (n : ℤ) → Typed slots root scope left s → Typed slots root scope right t
      → ResolvedNumber slots t (quoted_text left) n → (m : ℤ) → ¬ ReadsNumber slots (OfEquality operator (Typed slots root scope left)) right m
  other_unread operator left right s t n of_left of_right number m reads =
      not_both left right s t m n of_left of_right number (record { type_of = reads.type_of; beside = reads.beside.1; number = reads.number })
