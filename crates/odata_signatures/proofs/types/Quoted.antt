-- A String literal stands for one number of an enumeration at most.
use Rattle.std.proofs.Common.{◌≡◌, ◌∙◌, sym, subst, ℕ, ℤ, List, [], ◌∷◌, ◌++◌, Option, Some, None}
use Rattle.std.proofs.lemmas.List.{append_cancel_right}
use Rattle.edm_values.specs.StringLiteral.{quote}
use Rattle.edm_enumerations.specs.EnumerationModel.{EnumerationModel}
use Rattle.edm_enumerations.specs.EnumerationValue.{EnumerationValue}
use Rattle.csdl_schema.specs.EnumerationText.{IsValueIn}
use Rattle.csdl_schema.specs.SchemaModel.{Slots}
use Rattle.odata_signatures.specs.QuotedNumber.{IsQuotedNumber}

after_one : (a b : ℕ) (xs ys : List ℕ) → a ∷ xs ≡ b ∷ ys → xs ≡ ys
after_one a b xs ys same = cc

one_inner : (spelling x y : List ℕ) → spelling ≡ quote ∷ x ++ quote ∷ [] → spelling ≡ quote ∷ y ++ quote ∷ [] → x ≡ y
one_inner spelling x y p q = append_cancel_right x y (quote ∷ []) (after_one quote quote (x ++ quote ∷ []) (y ++ quote ∷ []) (sym p ∙ q))

number_one : ((e : EnumerationModel) (text : List ℕ) (m n : ℤ) → EnumerationValue e text m → EnumerationValue e text n → m ≡ n)
    → (e : Option EnumerationModel) (text : List ℕ) (m n : ℤ) → IsValueIn e text m → IsValueIn e text n → m ≡ n
number_one one None text m n p q = absurd p
number_one one (Some e) text m n p q = one e text m n p q

pub one_number : ((e : EnumerationModel) (text : List ℕ) (m n : ℤ) → EnumerationValue e text m → EnumerationValue e text n → m ≡ n)
    → (slots : Slots) (name spelling : List ℕ) (m n : ℤ) → IsQuotedNumber slots name spelling m → IsQuotedNumber slots name spelling n → m ≡ n
one_number one slots name spelling m n p q =
    let same : q.inner ≡ p.inner = one_inner spelling q.inner p.inner q.spelled p.spelled in
    number_one one (slots.enumerations name) p.inner m n p.value (subst (λ (text : List ℕ). IsValueIn (slots.enumerations name) text n) same q.value)
