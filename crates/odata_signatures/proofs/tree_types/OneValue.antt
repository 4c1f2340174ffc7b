-- A literal has at most one value.
use Rattle.std.proofs.Common.{◌≡◌, refl, sym, ◌∙◌, ap, subst, ℕ, ℤ, length, List, [], ◌∷◌, ◌++◌, Bool, true, false, Option, Some, None, arith}
use Rattle.std.specs.Str.{str_to_ascii_lowercase}
use Rattle.std.specs.Prelude.{codes}
use Rattle.std.proofs.lemmas.Slice.Eq.{bytes_eq-Decides}
use Rattle.edm_enumerations.specs.EnumerationModel.{EnumerationModel}
use Rattle.edm_enumerations.specs.EnumerationValue.{EnumerationValue}
use Rattle.edm_values.specs.Civil as civil
use Rattle.edm_values.specs.DateLiteral.{DateValue}
use Rattle.edm_values.specs.GuidLiteral.{GuidValue}
use Rattle.edm_values.specs.IntLiteral.{IntValue}
use Rattle.edm_values.specs.MomentLiteral.{MomentValue}
use Rattle.edm_values.specs.MomentParts.{MomentParts}
use Rattle.edm_values.specs.StringLiteral.{StringValue, quote}
use Rattle.edm_values.specs.Val.{Val, null, boolean, whole, date, moment, guid, member, text}
use Rattle.csdl_schema.specs.EnumerationText.{IsValueIn}
use Rattle.csdl_schema.specs.SchemaModel.{Slots}
use Rattle.odata_syntax.specs.declared.node.LiteralKind.{LiteralKind}
use Rattle.odata_signatures.specs.LiteralValue.{BooleanValue, EnumerationLiteral, IsNameAndText, LiteralValue}
use Rattle.odata_signatures.proofs.tree_types.OneType.{one_enumeration, one_name}

-- a text has at most one value of each kind
pub record OneValue : Type 0 where
  pub int : (text : List ℕ) (m n : ℤ) → IntValue text m → IntValue text n → m ≡ n
  pub date : (text : List ℕ) (a b : civil.Date) → DateValue text a → DateValue text b → a ≡ b
  pub moment : (text : List ℕ) (a b : MomentParts) → MomentValue text a → MomentValue text b → a ≡ b
  pub guid : (text a b : List ℕ) → GuidValue text a → GuidValue text b → a ≡ b
  pub string : (text a b : List ℕ) → StringValue text a → StringValue text b → a ≡ b
  pub enumeration : (e : EnumerationModel) (text : List ℕ) (m n : ℤ) → EnumerationValue e text m → EnumerationValue e text n → m ≡ n

-- no spelling is `true` and `false`
two_words : (spelling : List ℕ) → BooleanValue spelling true → BooleanValue spelling false → ⊥
two_words spelling p q =
    let as_true = (bytes_eq-Decides (str_to_ascii_lowercase spelling) (str_to_ascii_lowercase (codes "true"))).0 p in
    let as_false = (bytes_eq-Decides (str_to_ascii_lowercase spelling) (str_to_ascii_lowercase (codes "false"))).0 q in
    let same : ◌≡◌ {A = ℕ} 4 5 = ap length (sym as_true ∙ as_false) in
    omega arith

BooleanValue-one : (spelling : List ℕ) (x y : Bool) → BooleanValue spelling x → BooleanValue spelling y → x ≡ y
BooleanValue-one spelling true true p q = refl
BooleanValue-one spelling false false p q = refl
BooleanValue-one spelling true false p q = absurd (two_words spelling p q)
BooleanValue-one spelling false true p q = absurd (two_words spelling q p)

-- after one front stands one text
same_rest : (a x y : List ℕ) → a ++ x ≡ a ++ y → x ≡ y
same_rest [] x y same = same
same_rest (c ∷ a) x y same = let rest : a ++ x ≡ a ++ y = cc in same_rest a x y rest

never : (x : List ℕ) (c : ℕ) → [] ≡ x ++ c ∷ [] → ⊥
never [] c same = cc
never (d ∷ x) c same = cc

pub same_front : (x y : List ℕ) (c : ℕ) → x ++ c ∷ [] ≡ y ++ c ∷ [] → x ≡ y
same_front [] [] c same = refl
same_front [] (d ∷ y) c same = let e : ◌≡◌ {A = List ℕ} [] (y ++ c ∷ []) = cc in absurd (never y c e)
same_front (d ∷ x) [] c same = let e : ◌≡◌ {A = List ℕ} [] (x ++ c ∷ []) = cc in absurd (never x c e)
same_front (d ∷ x) (e ∷ y) c same =
    let h : d ≡ e = cc in
    let rest : x ++ c ∷ [] ≡ y ++ c ∷ [] = cc in
    rw (h, same_front x y c rest) refl

pub one_text : (spelling a b x y : List ℕ) → IsNameAndText spelling a x → IsNameAndText spelling b y → x ≡ y
one_text spelling a b x y p q =
    let names : a ≡ b = one_name spelling a b x y p q in
    let P : List ℕ → Type 0 = λ (n : List ℕ). spelling ≡ n ++ (quote ∷ x ++ quote ∷ []) in
    let quoted : quote ∷ x ++ quote ∷ [] ≡ quote ∷ y ++ quote ∷ [] = same_rest b _ _ (sym (subst P names p.spelled) ∙ q.spelled) in
    let inner : x ++ quote ∷ [] ≡ y ++ quote ∷ [] = cc in
    same_front x y quote inner

number_one : OneValue → (e : Option EnumerationModel) (inner : List ℕ) (m n : ℤ) → IsValueIn e inner m → IsValueIn e inner n → m ≡ n
number_one values None inner m n p q = absurd p
number_one values (Some e) inner m n p q = values.enumeration e inner m n p q

member_one : OneValue → (slots : Slots) (spelling a b : List ℕ) (m n : ℤ) → EnumerationLiteral slots spelling a m → EnumerationLiteral slots spelling b n → m ≡ n
member_one values slots spelling a b m n x y =
    let enumerations : a ≡ b = one_enumeration slots spelling a b m n x y in
    let texts : x.inner ≡ y.inner = one_text spelling x.asked y.asked x.inner y.inner x.split y.split in
    let P : List ℕ → Type 0 = λ (q : List ℕ). IsValueIn (slots.enumerations q) x.inner m in
    let Q : List ℕ → Type 0 = λ (t : List ℕ). IsValueIn (slots.enumerations b) t m in
    number_one values (slots.enumerations b) y.inner m n (subst Q texts (subst P enumerations x.names.value)) y.names.value

pub one_literal_value :
    OneValue → (slots : Slots) (kind : LiteralKind) (spelling : List ℕ) (v w : Val) → LiteralValue slots kind spelling v → LiteralValue slots kind spelling w → v ≡ w
one_literal_value values slots LiteralKind.Null spelling null null p q = refl
one_literal_value values slots LiteralKind.Bool spelling (boolean x) (boolean y) p q = ap boolean (BooleanValue-one spelling x y p q)
one_literal_value values slots LiteralKind.Int spelling (whole x) (whole y) p q = ap whole (values.int spelling x y p q)
one_literal_value values slots LiteralKind.Date spelling (date x) (date y) p q = ap date (values.date spelling x y p q)
one_literal_value values slots LiteralKind.Moment spelling (moment x) (moment y) p q = ap moment (values.moment spelling x y p q)
one_literal_value values slots LiteralKind.Guid spelling (guid x) (guid y) p q = ap guid (values.guid spelling x y p q)
one_literal_value values slots LiteralKind.Str spelling (text x) (text y) p q = ap text (values.string spelling x y p.0 q.0)
one_literal_value values slots LiteralKind.EnumLit spelling (member x) (member y) p q =
    ap member (member_one values slots spelling p.0 q.0 x y p.1 q.1)
one_literal_value values slots LiteralKind.Null spelling null _ p q = absurd q
one_literal_value values slots LiteralKind.Bool spelling (boolean x) _ p q = absurd q
one_literal_value values slots LiteralKind.Int spelling (whole x) _ p q = absurd q
one_literal_value values slots LiteralKind.Date spelling (date x) _ p q = absurd q
one_literal_value values slots LiteralKind.Moment spelling (moment x) _ p q = absurd q
one_literal_value values slots LiteralKind.Guid spelling (guid x) _ p q = absurd q
one_literal_value values slots LiteralKind.Str spelling (text x) _ p q = absurd q
one_literal_value values slots LiteralKind.EnumLit spelling (member x) _ p q = absurd q
one_literal_value values slots _ spelling _ _ p q = absurd p
