-- Two filters of items.
use Rattle.std.proofs.Common.{◌≡◌, refl, sym, subst, inl, inr, Some, None, pos, [], ◌∷◌, FitsSigned, w32, w64, lit<, rules}
use Rattle.std.proofs.lemmas.Int.{fits_signed_from_abs}
use Rattle.std.specs.Prelude.{IsUtf8, codes}
use Rattle.std.specs.Str.Parse.{IsNumeral}
use Rattle.edm_values.specs.IntLiteral.{IntValue}
use Rattle.csdl_schema.specs.ExprType.{ExprType, single, primitive}
use Rattle.edm_values.specs.declared.primitive.PrimitiveType.{PrimitiveType}
use Rattle.odata_signatures.specs.ComparableTypes.{AreComparable}
use Rattle.odata_signatures.specs.ExprTypes.{boolean_type, string_type}
use Rattle.odata_syntax.specs.declared.binary_operator.BinaryOperator.{BinaryOperator}
use Rattle.odata_syntax.specs.declared.binary_operator.ComparisonOperator.{ComparisonOperator}
use Rattle.odata_signatures.specs.OperatorTyped.{OperatorTyped}
use Rattle.odata_signatures.specs.Side.{quoting}
use Rattle.odata_signatures.specs.Laws.{ItemFilterTyped, MixedFilterUntyped, item_slots}

-- Edm.Int32
abbrev int32 : ExprType
int32 = single (primitive PrimitiveType.Int32)

numeral : IsNumeral 10 (codes "1")
numeral = search rules

one : IntValue (codes "1") (pos 1)
one = (inr (inr (numeral, refl)), fits_signed_from_abs w64 (pos 1) (lit< tt))

one_fits : FitsSigned w32 (pos 1)
one_fits = fits_signed_from_abs w32 (pos 1) (lit< tt)

letter : IsUtf8 (97 ∷ [])
unfolding lib.Utf8.encode
letter = (97 ∷ [], (refl, refl))

pub item_filter_typed : ItemFilterTyped
item_filter_typed = record {
  left = boolean_type;
  right = boolean_type;
  left_typed = record {
    left = boolean_type;
    right = boolean_type;
    left_typed = refl;
    right_typed = record {
      left = int32;
      right = int32;
      left_typed = refl;
      right_typed = (pos 1, one, (PrimitiveType.Int32, inl (one_fits, refl), refl));
      makes = inl (inl (tt, tt), refl);
    };
    makes = inl (inl refl, inl refl, refl);
  };
  right_typed = record {
    left = string_type;
    right = string_type;
    left_typed = refl;
    right_typed = (97 ∷ [], (refl, letter), refl);
    makes = inl (inr refl, refl);
  };
  makes = inl (inl refl, inl refl, refl);
}

named_one : (a b : ExprType) → Some a ≡ Some b → a ≡ b
named_one a b same = cc

apart : AreComparable int32 string_type → ⊥
apart compared = elim compared [ inl numbers ↦ absurd numbers.1 | inr same ↦ (let e : PrimitiveType.Int32 ≡ PrimitiveType.String = same in cc) ]

-- by their types, and as no enumeration literal without its type
pub mixed_filter_untyped : MixedFilterUntyped
mixed_filter_untyped type typed =
    let P : ExprType → Type 0 = λ (t : ExprType). OperatorTyped item_slots (BinaryOperator.Comparison ComparisonOperator.Eq) (quoting None t) (quoting (Some (codes "'a'")) typed.right) type in
    let Q : ExprType → Type 0 = λ (t : ExprType). OperatorTyped item_slots (BinaryOperator.Comparison ComparisonOperator.Eq) (quoting None int32) (quoting (Some (codes "'a'")) t) type in
    let made : OperatorTyped item_slots (BinaryOperator.Comparison ComparisonOperator.Eq) (quoting None int32) (quoting (Some (codes "'a'")) string_type) type =
    subst Q typed.right_typed.2 (subst P (sym (named_one int32 typed.left typed.left_typed)) typed.makes) in
    elim made [ inl compared ↦ apart compared.0 | inr read ↦ elim read.0.1 [ inl none ↦ absurd none.1 | inr none ↦ absurd none.1 ] ]
