-- A literal and its canonical spelling have one value and one type.
use Rattle.std.proofs.Common.{◌≡◌, refl, sym, ap, ◌∙◌, subst, ℕ, ℤ, IsTrue, List, [], ◌∷◌, bytes_eq}
use Rattle.std.specs.Str.{str_to_ascii_lowercase}
use Rattle.std.proofs.lemmas.Str.Ascii.{lowercase-lowercase}
use Rattle.edm_values.specs.DateLiteral.{DateValue}
use Rattle.edm_values.specs.GuidLiteral.{GuidValue, guid_spelling}
use Rattle.edm_values.specs.IntLiteral.{IntValue, int_spelling}
use Rattle.edm_values.specs.MomentLiteral.{MomentValue, moment_spelling}
use Rattle.edm_values.specs.Val.{Val, null, boolean, whole, date, moment, guid, member}
use Rattle.edm_values.specs.Val as val
use Rattle.odata_text.specs.LiteralSpelling.{IsSpellingOf, enumeration_spelling}
use Rattle.odata_syntax.specs.NormalForm.{literal_token}
use Rattle.odata_syntax.specs.declared.node.LiteralKind.{LiteralKind}
use Rattle.csdl_schema.specs.ExprType.{ExprType}
use Rattle.csdl_schema.specs.SchemaModel.{Slots}
use Rattle.odata_signatures.specs.LiteralValue.{BooleanValue, EnumerationLiteral, LiteralTyped, LiteralValue, TextValue, truth_word}
use Rattle.odata_signatures.proofs.printed.Enumerations.{enumeration_from, enumeration_to}
use Rattle.odata_signatures.proofs.printed.Values.{AreKept, HaveSameValues, kept_values}

-- what is known of the values of literals
pub record LiteralFacts : Type 0 where
  pub ints : AreKept IntValue int_spelling
  pub moments : AreKept MomentValue moment_spelling
  pub guids : AreKept GuidValue guid_spelling

lowered_again : (text : List ℕ) → str_to_ascii_lowercase (str_to_ascii_lowercase text) ≡ str_to_ascii_lowercase text
lowered_again [] = refl
lowered_again (b ∷ bs) = λ i. lowercase-lowercase b i ∷ lowered_again bs i

-- a word in lower case is read as the word is
same_words : (text spelling : List ℕ) → spelling ≡ str_to_ascii_lowercase text → HaveSameValues BooleanValue text spelling
same_words text spelling is =
    let lower : str_to_ascii_lowercase spelling ≡ str_to_ascii_lowercase text = ap str_to_ascii_lowercase is ∙ lowered_again text in
    record {
      to = λ b value. (let P : List ℕ → Type 0 = λ (t : List ℕ). IsTrue (bytes_eq t (str_to_ascii_lowercase (truth_word b))) in subst P (sym lower) value);
      from = λ b value. (let P : List ℕ → Type 0 = λ (t : List ℕ). IsTrue (bytes_eq t (str_to_ascii_lowercase (truth_word b))) in subst P lower value);
    }

unchanged : {V : Type 0} (IsValue : List ℕ → V → Type 0) (text spelling : List ℕ) → spelling ≡ text → HaveSameValues IsValue text spelling
unchanged IsValue text spelling same = record {
  to = λ v value. subst (λ (t : List ℕ). IsValue t v) (sym same) value;
  from = λ v value. subst (λ (t : List ℕ). IsValue t v) same value;
}

-- the enumeration and the number of a literal
pub record IsMember (slots : Slots) (text : List ℕ) (named : List ℕ × ℤ) : Type 0 where
  pub literal : EnumerationLiteral slots text named.0 named.1

same_members : (slots : Slots) (text spelling : List ℕ) → spelling ≡ enumeration_spelling text → HaveSameValues (IsMember slots) text spelling
same_members slots text spelling is = record {
  to = λ named value. subst (λ (t : List ℕ). IsMember slots t named) (sym is) (record { literal = enumeration_to slots text named.0 named.1 value.literal });
  from = λ named value.
      let here : IsMember slots (enumeration_spelling text) named = subst (λ (t : List ℕ). IsMember slots t named) is value in
      record { literal = enumeration_from slots text named.0 named.1 here.literal };
}

-- what both have in common, by kind
abbrev pub AreAlike : Slots → LiteralKind → List ℕ → List ℕ → Type 0
AreAlike slots LiteralKind.Null text spelling = Unit {0}
AreAlike slots LiteralKind.Bool text spelling = HaveSameValues BooleanValue text spelling
AreAlike slots LiteralKind.Int text spelling = HaveSameValues IntValue text spelling
AreAlike slots LiteralKind.Date text spelling = HaveSameValues DateValue text spelling
AreAlike slots LiteralKind.Moment text spelling = HaveSameValues MomentValue text spelling
AreAlike slots LiteralKind.Guid text spelling = HaveSameValues GuidValue text spelling
AreAlike slots LiteralKind.Str text spelling = HaveSameValues TextValue text spelling
AreAlike slots LiteralKind.EnumLit text spelling = HaveSameValues (IsMember slots) text spelling

pub alike : LiteralFacts → (slots : Slots) (kind : LiteralKind) (text spelling : List ℕ) → IsSpellingOf (literal_token kind) text spelling → AreAlike slots kind text spelling
alike facts slots LiteralKind.Null text spelling is = tt
alike facts slots LiteralKind.Bool text spelling is = same_words text spelling is
alike facts slots LiteralKind.Int text spelling is = kept_values IntValue int_spelling facts.ints text spelling is
alike facts slots LiteralKind.Date text spelling is = unchanged DateValue text spelling is
alike facts slots LiteralKind.Moment text spelling is = kept_values MomentValue moment_spelling facts.moments text spelling is
alike facts slots LiteralKind.Guid text spelling is = kept_values GuidValue guid_spelling facts.guids text spelling is
alike facts slots LiteralKind.Str text spelling is = unchanged TextValue text spelling is
alike facts slots LiteralKind.EnumLit text spelling is = same_members slots text spelling is

-- ---- values

pub value_to : (slots : Slots) (kind : LiteralKind) (text spelling : List ℕ) (v : Val) → AreAlike slots kind text spelling → LiteralValue slots kind text v → LiteralValue slots kind spelling v
value_to slots LiteralKind.Null text spelling null are value = tt
value_to slots LiteralKind.Bool text spelling (boolean b) are value = are.to b value
value_to slots LiteralKind.Int text spelling (whole n) are value = are.to n value
value_to slots LiteralKind.Date text spelling (date d) are value = are.to d value
value_to slots LiteralKind.Moment text spelling (moment m) are value = are.to m value
value_to slots LiteralKind.Guid text spelling (guid bytes) are value = are.to bytes value
value_to slots LiteralKind.Str text spelling (val.text bytes) are value = are.to bytes value
value_to slots LiteralKind.EnumLit text spelling (member n) are value =
    let found = are.to (value.0, n) (record { literal = value.1 }) in (value.0, found.literal)
value_to slots _ text spelling _ are value = absurd value

pub value_from : (slots : Slots) (kind : LiteralKind) (text spelling : List ℕ) (v : Val) → AreAlike slots kind text spelling → LiteralValue slots kind spelling v → LiteralValue slots kind text v
value_from slots LiteralKind.Null text spelling null are value = tt
value_from slots LiteralKind.Bool text spelling (boolean b) are value = are.from b value
value_from slots LiteralKind.Int text spelling (whole n) are value = are.from n value
value_from slots LiteralKind.Date text spelling (date d) are value = are.from d value
value_from slots LiteralKind.Moment text spelling (moment m) are value = are.from m value
value_from slots LiteralKind.Guid text spelling (guid bytes) are value = are.from bytes value
value_from slots LiteralKind.Str text spelling (val.text bytes) are value = are.from bytes value
value_from slots LiteralKind.EnumLit text spelling (member n) are value =
    let found = are.from (value.0, n) (record { literal = value.1 }) in (value.0, found.literal)
value_from slots _ text spelling _ are value = absurd value

-- ---- types

pub typed_to : (slots : Slots) (kind : LiteralKind) (text spelling : List ℕ) (type : ExprType) → AreAlike slots kind text spelling → LiteralTyped slots kind text type → LiteralTyped slots kind spelling type
typed_to slots LiteralKind.Null text spelling type are typed = typed
typed_to slots LiteralKind.Bool text spelling type are typed = (typed.0, are.to typed.0 typed.1, typed.2)
typed_to slots LiteralKind.Int text spelling type are typed = (typed.0, are.to typed.0 typed.1, typed.2)
typed_to slots LiteralKind.Date text spelling type are typed = (typed.0, are.to typed.0 typed.1, typed.2)
typed_to slots LiteralKind.Moment text spelling type are typed = (typed.0, are.to typed.0 typed.1, typed.2)
typed_to slots LiteralKind.Guid text spelling type are typed = (typed.0, are.to typed.0 typed.1, typed.2)
typed_to slots LiteralKind.Str text spelling type are typed = (typed.0, are.to typed.0 typed.1, typed.2)
typed_to slots LiteralKind.EnumLit text spelling type are typed =
    let found = are.to (typed.0, typed.1) (record { literal = typed.2 }) in (typed.0, typed.1, found.literal, typed.3)

pub typed_from : (slots : Slots) (kind : LiteralKind) (text spelling : List ℕ) (type : ExprType) → AreAlike slots kind text spelling → LiteralTyped slots kind spelling type → LiteralTyped slots kind text type
typed_from slots LiteralKind.Null text spelling type are typed = typed
typed_from slots LiteralKind.Bool text spelling type are typed = (typed.0, are.from typed.0 typed.1, typed.2)
typed_from slots LiteralKind.Int text spelling type are typed = (typed.0, are.from typed.0 typed.1, typed.2)
typed_from slots LiteralKind.Date text spelling type are typed = (typed.0, are.from typed.0 typed.1, typed.2)
typed_from slots LiteralKind.Moment text spelling type are typed = (typed.0, are.from typed.0 typed.1, typed.2)
typed_from slots LiteralKind.Guid text spelling type are typed = (typed.0, are.from typed.0 typed.1, typed.2)
typed_from slots LiteralKind.Str text spelling type are typed = (typed.0, are.from typed.0 typed.1, typed.2)
typed_from slots LiteralKind.EnumLit text spelling type are typed =
    let found = are.from (typed.0, typed.1) (record { literal = typed.2 }) in (typed.0, typed.1, found.literal, typed.3)
