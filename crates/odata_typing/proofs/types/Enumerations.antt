-- Enumeration literals: their parts, and the enumeration that they name.
use Rattle.odata_typing.proofs.Common.{◌≡◌, ◌≢◌, refl, sym, ap, ◌∙◌, subst, ℕ, ℤ, zero, suc, ◌<◌, Bool, true, false, IsTrue, FitsSigned, IfNone, IfSome, List, [], ◌∷◌, ◌++◌, Option, Some, None, get_or, length, arith, none-some, same_Some, AllByRecursion, HoldsEnumeration, IsEnumerationByName, SchemaModel, enumeration_at, enumeration_named, is_enumeration, is_kind_at, place_if, slots_of, type_name_at, OneNameAndText}
use Rattle.std.proofs.Common.{option_map}
use Rattle.std.specs.Int.{cast_signed as to_z, cast_unsigned as of_z, w64}
use Rattle.std.proofs.lemmas.Int.{ints, to_z-of_z}
use Rattle.std.specs.Option.{option_and_then}
use Rattle.edm_values.specs.StringLiteral.{quote}
use Rattle.edm_values.specs.NumberTypes.{IsNumberOf}
use Rattle.edm_values.specs.Val.{member}
use Rattle.edm_values.specs.declared.primitive.PrimitiveType.{PrimitiveType}
use Rattle.edm_values.specs.declared.primitive.PrimitiveType.TheVariants as type
use Rattle.edm_enumerations.specs.EnumerationModel.{EnumerationModel}
use Rattle.edm_values.specs.declared.value.Value as code
use Rattle.csdl_schema.specs.EnumerationText.{IsValueIn, IsOfUnderlying}
use Rattle.odata_syntax.specs.declared.node.LiteralKind.{LiteralKind}
use Rattle.odata_signatures.specs.declared.edm_type.EdmType.{EdmType}
use Rattle.odata_typing.specs.declared.enumeration_literal.EnumerationNumber.{EnumerationNumber}
use Rattle.odata_signatures.specs.declared.edm_type.ValueType.{ValueType}
use Rattle.odata_typing.specs.private.Answer.{IsReading}
use Rattle.odata_signatures.specs.LiteralValue.{EnumerationLiteral, IsNameAndText, NamesNumber}

-- ---- quotes

-- no byte of a text is a quote
abbrev pub HasNoQuote : List ℕ → Type 0
HasNoQuote xs = (i : ℕ) → i < length xs → get_or xs i 0 ≢ quote

pub unquoted_all : (xs : List ℕ) → HasNoQuote xs → AllByRecursion (λ b. b ≢ quote) xs
unquoted_all [] none = tt
unquoted_all (x ∷ xs) none = (none 0 (omega arith), unquoted_all xs (λ i below. none (suc i) (omega arith)))

pub unquoted_each : (xs : List ℕ) → AllByRecursion (λ b. b ≢ quote) xs → HasNoQuote xs
unquoted_each [] all i below = absurd (omega arith)
unquoted_each (x ∷ xs) all zero below = all.0
unquoted_each (x ∷ xs) all (suc i) below = unquoted_each xs all.1 i (omega arith)

pub name_and_text : (spelling asked quoted inner : List ℕ) → spelling ≡ asked ++ (quote ∷ quoted) → HasNoQuote asked → quoted ≡ inner ++ quote ∷ []
    → IsNameAndText spelling asked inner
name_and_text spelling asked quoted inner cut none ends = record {
  spelled = cut ∙ ap (λ (t : List ℕ). asked ++ (quote ∷ t)) ends;
  unquoted = unquoted_all asked none;
}

-- ---- the enumeration that goes by a name

record IsPlaced (b : Bool) (k n : ℕ) : Type 0 where
  holds : IsTrue b
  same : k ≡ n

placed : (b : Bool) (k n : ℕ) → place_if b k ≡ Some n → IsPlaced b k n
placed true k n is = record { holds = refl; same = cc }
placed false k n is = cc

placed_by : (schema : SchemaModel) (o : Option ℕ) (n : ℕ) → option_and_then (λ k. place_if (is_kind_at is_enumeration schema k) k) o ≡ Some n
    → HoldsEnumeration schema n
placed_by schema None n is = cc
placed_by schema (Some k) n is =
    let p = placed (is_kind_at is_enumeration schema k) k n is in
    subst (HoldsEnumeration schema) p.same p.holds

pub held_by_name : (schema : SchemaModel) (asked : List ℕ) (o : Option ℕ) (n : ℕ) → o ≡ enumeration_named schema asked → o ≡ Some n → HoldsEnumeration schema n
held_by_name schema asked o n named is =
    let P : Option ℕ → Type 0 = λ (x : Option ℕ). x ≡ Some n in
    placed_by schema _ n (subst P named is)

-- the name goes for the enumeration at the index
pub named_at : (schema : SchemaModel) (asked : List ℕ) (o : Option ℕ) (id : ℕ) → o ≡ enumeration_named schema asked → o ≡ Some id
    → (slots_of schema).enumeration_names asked ≡ Some (type_name_at schema id)
named_at schema asked o id named is = ap (option_map (type_name_at schema)) (sym named ∙ is)

pub unnamed : (schema : SchemaModel) (asked inner : List ℕ) (o : Option ℕ) → o ≡ enumeration_named schema asked → o ≡ None
    → (qualified : List ℕ) (n : ℤ) → ¬ NamesNumber (slots_of schema) asked inner qualified n
unnamed schema asked inner o named is qualified n names =
    none-some qualified (ap (option_map (type_name_at schema)) (sym is ∙ named) ∙ names.named)

pub value_by_name : (schema : SchemaModel) (id : ℕ) (inner : List ℕ) (n : ℤ) → IsEnumerationByName schema id
    → IsValueIn (enumeration_at schema id) inner n → IsValueIn ((slots_of schema).enumerations (type_name_at schema id)) inner n
value_by_name schema id inner n same value = subst (λ e. IsValueIn e inner n) same value

pub valueless : (schema : SchemaModel) (asked inner : List ℕ) (o : Option ℕ) (id : ℕ) (found : Option ℤ) → o ≡ enumeration_named schema asked → o ≡ Some id
    → IsEnumerationByName schema id → ((n : ℤ) → IsValueIn (enumeration_at schema id) inner n → found ≡ Some n) → found ≡ None
    → (qualified : List ℕ) (n : ℤ) → ¬ NamesNumber (slots_of schema) asked inner qualified n
valueless schema asked inner o id found named is same only none qualified n names =
    let q : qualified ≡ type_name_at schema id = same_Some qualified (type_name_at schema id) (sym names.named ∙ named_at schema asked o id named is) in
    let P : List ℕ → Type 0 = λ (x : List ℕ). IsValueIn ((slots_of schema).enumerations x) inner n in
    let value : IsValueIn (enumeration_at schema id) inner n = subst (λ e. IsValueIn e inner n) (sym same) (subst P q names.value) in
    none-some n (sym none ∙ only n value)

-- the name and the text of a literal are those that were cut
pub cut_names : OneNameAndText → (schema : SchemaModel) (spelling asked inner : List ℕ) (qualified : List ℕ) (n : ℤ) → IsNameAndText spelling asked inner
    → EnumerationLiteral (slots_of schema) spelling qualified n → NamesNumber (slots_of schema) asked inner qualified n
cut_names one schema spelling asked inner qualified n split literal =
    let a : literal.asked ≡ asked = (one spelling literal.asked asked literal.inner inner literal.split split).0 in
    let b : literal.inner ≡ inner = (one spelling literal.asked asked literal.inner inner literal.split split).1 in
    let P : List ℕ → Type 0 = λ (x : List ℕ). NamesNumber (slots_of schema) x literal.inner qualified n in
    let Q : List ℕ → Type 0 = λ (x : List ℕ). NamesNumber (slots_of schema) asked x qualified n in
    subst Q b (subst P a literal.names)

pub literal_some : (schema : SchemaModel) (spelling asked inner : List ℕ) (found : Option EnumerationNumber) → IsNameAndText spelling asked inner
    → IfSome found (λ f. NamesNumber (slots_of schema) asked inner (type_name_at schema f.enumeration) f.number)
    → IfSome found (λ f. EnumerationLiteral (slots_of schema) spelling (type_name_at schema f.enumeration) f.number)
literal_some schema spelling asked inner (Some f) split names = record { asked = asked; inner = inner; split = split; names = names }
literal_some schema spelling asked inner None split names = tt

pub literal_none : OneNameAndText → (schema : SchemaModel) (spelling asked inner : List ℕ) (found : Option EnumerationNumber) → IsNameAndText spelling asked inner
    → IfNone found ((qualified : List ℕ) (n : ℤ) → ¬ NamesNumber (slots_of schema) asked inner qualified n)
    → IfNone found ((qualified : List ℕ) (n : ℤ) → ¬ EnumerationLiteral (slots_of schema) spelling qualified n)
literal_none one schema spelling asked inner (Some f) split none = tt
literal_none one schema spelling asked inner None split none = λ qualified n literal. none qualified n (cut_names one schema spelling asked inner qualified n split literal)

-- ---- as a value

-- a number of an enumeration fits the code's numbers
number_fits : (p : PrimitiveType) (n : ℤ) → IsNumberOf p n → FitsSigned w64 n
number_fits type.Byte n is = omega (arith, ints)
number_fits type.SByte n is = omega (arith, ints)
number_fits type.Int16 n is = omega (arith, ints)
number_fits type.Int32 n is = omega (arith, ints)
number_fits type.Int64 n is = is
number_fits _ n is = absurd is

pub within_fits : (e : Option EnumerationModel) (n : ℤ) → IsOfUnderlying e n → FitsSigned w64 n
within_fits None n is = absurd is
within_fits (Some e) n is = number_fits e.underlying n is

-- the number of a text in the enumeration that goes by a name, as the code holds it
pub names_held : (schema : SchemaModel) (asked inner : List ℕ) (o : Option ℕ) (id : ℕ) (n : ℤ) → o ≡ enumeration_named schema asked → o ≡ Some id
    → IsEnumerationByName schema id → IsValueIn (enumeration_at schema id) inner n → IsOfUnderlying (enumeration_at schema id) n
    → NamesNumber (slots_of schema) asked inner (type_name_at schema id) (to_z w64 (of_z w64 n))
names_held schema asked inner o id n named is same value within =
    let held : to_z w64 (of_z w64 n) ≡ n = to_z-of_z w64 n (within_fits (enumeration_at schema id) n within) in
    rw held (record {
      named = named_at schema asked o id named is;
      value = value_by_name schema id inner n same value;
      within = subst (λ e. IsOfUnderlying e n) same within;
    })

-- a literal's number as the code holds it
reads_enumeration : (schema : SchemaModel) (spelling : List ℕ) (id : ℕ) (n : ℤ) → EnumerationLiteral (slots_of schema) spelling (type_name_at schema id) n
    → IsReading schema LiteralKind.EnumLit spelling (code.Enum n) (EdmType.Single (ValueType.Enum id))
reads_enumeration schema spelling id n literal = record {
  value_of = record { val = member n; plain = refl; value_of = (type_name_at schema id, literal) };
  typed = (type_name_at schema id, n, literal, refl);
}

-- the same of a literal that was read
pub reads_member : (schema : SchemaModel) (spelling : List ℕ) (id : ℕ) (n : ℤ) → EnumerationLiteral (slots_of schema) spelling (type_name_at schema id) n
    → IsReading schema LiteralKind.EnumLit spelling (code.Enum (to_z w64 (of_z w64 n))) (EdmType.Single (ValueType.Enum id))
reads_member schema spelling id n literal =
    let held : to_z w64 (of_z w64 n) ≡ n = to_z-of_z w64 n (within_fits ((slots_of schema).enumerations (type_name_at schema id)) n literal.names.within) in
    rw held (reads_enumeration schema spelling id n literal)
