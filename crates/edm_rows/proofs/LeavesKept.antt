-- Values without parts that are put into a row's slots, or are rejected.
use Rattle.std.proofs.Common.{◌≡◌, ℕ, ℤ, ◌<◌, List, Bool, Some, refl, sym, ap, ◌∙◌, subst, rules}
use Rattle.std.specs.Str.{IsUtf8}
use Rattle.json.specs.Token.{Token}
use Rattle.serde_json.specs.Data.{Num, boolean, number, string}
use Rattle.serde_json.specs.Find.{as_integer}
use Rattle.serde_json.specs.Read.{number_of}
use Rattle.csdl_schema.specs.EnumerationText.{IsOfUnderlying, IsValueIn}
use Rattle.csdl_schema.specs.ExprType.{ExprType, SingleType, single, enumeration, primitive}
use Rattle.csdl_schema.specs.SchemaModel.{Slots}
use Rattle.edm_values.specs.NumberTypes.{IsNumberOf}
use Rattle.edm_values.specs.SieveMeaning.{Rejects}
use Rattle.edm_values.specs.Val.{Val, text, whole}
use Rattle.edm_values.specs.Val as val
use Rattle.edm_values.specs.declared.primitive.PrimitiveType.{PrimitiveType}
use Rattle.edm_values.specs.declared.primitive.PrimitiveType.TheVariants as prim
use Rattle.edm_values.specs.declared.sieve.Sieve.{Sieve}
use Rattle.edm_values.specs.declared.value.Value.{Value, Bool as BoolValue, Enum, Int, the_lemmas}
use Rattle.edm_entities.specs.FitsPrimitive.{FitsPrimitive, IsTextValue}
use Rattle.edm_entities.specs.Row.{val_of}
use Rattle.edm_rows.specs.private.Passed.{FitsSomeHowever, FitsHoweverNullable}
use Rattle.edm_entities.proofs.FitLemmas.Numbers.{none_some, val_of-Enum, val_of-Text}
use Rattle.spare_values.specs.StoredTexts.{HoldsText}
use Rattle.json_room.proofs.Tokens.{boolean_token, number_token, string_token}
use Rattle.json_room.specs.private.Lexemes.{IsTextAt}
use Rattle.json_room.specs.Lexemes.{StandsTo}
use Rattle.json_room.proofs.Standing.{string_stands}
use Rattle.json_room.specs.ValueStands.{ValueStands}
use Rattle.edm_rows.specs.private.KeptLeaves.{IsLeafRejected, PutsLeaf, PutsMember}
use Rattle.json_room.proofs.Places.{reads_to_as, token_to}
use Rattle.edm_rows.proofs.Values.{number_fits, text_fits}

pub val_of-Int : (slots : Slots) (type : ExprType) (n : ℤ) → val_of (Int n) slots.properties type ≡ whole n
val_of-Int slots type n = search (rules, the_lemmas)

val_of-Bool : (slots : Slots) (type : ExprType) (b : Bool) → val_of (BoolValue b) slots.properties type ≡ val.boolean b
val_of-Bool slots type b = search (rules, the_lemmas)

-- a text is the value of its bytes
pub text_is : (v : Value) (s : List ℕ) → HoldsText v s → IsUtf8 s → (slots : Slots) (type : ExprType) → IsTextValue prim.String s (val_of v slots.properties type)
text_is v s holds utf8 slots type =
    (utf8, ap (λ (w : Value). val_of w slots.properties type) holds.1 ∙ val_of-Text slots type holds.0 ∙ ap text holds.2)

-- ---- what was written fits some JSON

number_as : (type : PrimitiveType) (m : Num) (n : ℤ) (v : Value) → as_integer m ≡ Some n → IsNumberOf type n → v ≡ Int n → (slots : Slots) → FitsHoweverNullable slots (single (primitive type)) v (number m)
number_as type m n v is of same slots nullable =
    subst (FitsPrimitive type (number m)) (sym (ap (λ (w : Value). val_of w slots.properties (single (primitive type))) same ∙ val_of-Int slots (single (primitive type)) n)) (number_fits type m n is of)

truth_as : (b : Bool) (v : Value) → v ≡ BoolValue b → (slots : Slots) → FitsHoweverNullable slots (single (primitive prim.Bool)) v (boolean b)
truth_as b v same slots nullable = (b, refl, ap (λ (w : Value). val_of w slots.properties (single (primitive prim.Bool))) same ∙ val_of-Bool slots (single (primitive prim.Bool)) b)

literal_as : (type : PrimitiveType) (s : List ℕ) (v : Value) → ((slots : Slots) → IsTextValue type s (val_of v slots.properties (single (primitive type)))) → (slots : Slots) → FitsHoweverNullable slots (single (primitive type)) v (string s)
literal_as type s v is slots nullable = text_fits type s (val_of v slots.properties (single (primitive type))) (is slots)

-- ---- a value of a primitive type that a token is

module _ (line : List ℕ) (from to : ℕ) (v : Value) where
  pub number_puts : (type : PrimitiveType) (s : List ℕ) (m : Num) (n : ℤ) → StandsTo line from (Token.number s) to → number_of s ≡ Some m → as_integer m ≡ Some n → IsNumberOf type n → v ≡ Int n → PutsLeaf line (primitive type) v from to
  number_puts type s m n stands read is of same =
      let fits = number_as type m n v is of same in (
        (number m, fits),
        λ slots depth. token_to depth line from to (Token.number s) (FitsHoweverNullable slots (single (primitive type)) v) stands (record { json = number m; is_read = λ d rest. number_token s m read d rest; no_null = refl; holds = fits slots }),
      )

  pub truth_puts : (b : Bool) → StandsTo line from (Token.boolean b) to → v ≡ BoolValue b → PutsLeaf line (primitive prim.Bool) v from to
  truth_puts b stands same =
      let fits = truth_as b v same in (
        (boolean b, fits),
        λ slots depth. token_to depth line from to (Token.boolean b) (FitsHoweverNullable slots (single (primitive prim.Bool)) v) stands (record { json = boolean b; is_read = λ d rest. boolean_token b d rest; no_null = refl; holds = fits slots }),
      )

  pub literal_puts : (type : PrimitiveType) (s : List ℕ) → from < to → IsTextAt line from s to → ((slots : Slots) → IsTextValue type s (val_of v slots.properties (single (primitive type)))) → PutsLeaf line (primitive type) v from to
  literal_puts type s further stands is =
      let fits = literal_as type s v is in (
        (string s, fits),
        λ slots depth.
            token_to depth line from to (Token.string s) (FitsHoweverNullable slots (single (primitive type)) v) (string_stands line from to s further stands.within stands.lexed)
            (record { json = string s; is_read = λ d rest. string_token s d rest; no_null = refl; holds = fits slots }),
      )

-- a member of an enumeration
pub member_puts : (slots : Slots) (name s : List ℕ) (line : List ℕ) (from to : ℕ) (n : ℤ) → from < to → IsTextAt line from s to → IsValueIn (slots.enumerations name) s n → IsOfUnderlying (slots.enumerations name) n → PutsMember line slots name (Enum n) from to
member_puts slots name s line from to n further stands value within =
    let fits : FitsHoweverNullable slots (single (enumeration name)) (Enum n) (string s) = λ nullable. (s, refl, (n, value, within, val_of-Enum slots (single (enumeration name)) n)) in (
      (string s, fits),
      λ depth.
          token_to depth line from to (Token.string s) (FitsHoweverNullable slots (single (enumeration name)) (Enum n)) (string_stands line from to s further stands.within stands.lexed)
          (record { json = string s; is_read = λ d rest. string_token s d rest; no_null = refl; holds = fits }),
    )

-- ---- what is put fits

however : (slots : Slots) (depth : ℕ) (line : List ℕ) (type : SingleType) (v : Value) (from to : ℕ) → ValueStands depth line from to (FitsHoweverNullable slots (single type) v) → ValueStands depth line from to (FitsSomeHowever slots (single type))
however slots depth line type v from to = reads_to_as depth line from to (FitsHoweverNullable slots (single type) v) (FitsSomeHowever slots (single type)) (λ json fits nullable. (val_of v slots.properties (single type), fits nullable))

pub leaf_fits : (slots : Slots) (depth : ℕ) (line : List ℕ) (type : SingleType) (v : Value) (from to : ℕ) → PutsLeaf line type v from to → ValueStands depth line from to (FitsSomeHowever slots (single type))
leaf_fits slots depth line type v from to puts = however slots depth line type v from to (puts.1 slots depth)

pub member_fits : (slots : Slots) (name : List ℕ) (depth : ℕ) (line : List ℕ) (v : Value) (from to : ℕ) → PutsMember line slots name v from to → ValueStands depth line from to (FitsSomeHowever slots (single (enumeration name)))
member_fits slots name depth line v from to puts = however slots depth line (enumeration name) v from to (puts.1 depth)

-- ---- JSON of a primitive type has one value

same_some : {A : Type 0} (a b : A) → Some a ≡ Some b → a ≡ b
same_some a b same = cc

number_unique : (type : PrimitiveType) (m : Num) (n : ℤ) (v : Val) → as_integer m ≡ Some n → FitsPrimitive type (number m) v → v ≡ whole n
number_unique prim.Bool m n v is fits = absurd (none_some fits.1)
number_unique prim.Byte m n v is fits = fits.3 ∙ ap whole (same_some fits.0 n (sym fits.1 ∙ is))
number_unique prim.SByte m n v is fits = fits.3 ∙ ap whole (same_some fits.0 n (sym fits.1 ∙ is))
number_unique prim.Int16 m n v is fits = fits.3 ∙ ap whole (same_some fits.0 n (sym fits.1 ∙ is))
number_unique prim.Int32 m n v is fits = fits.3 ∙ ap whole (same_some fits.0 n (sym fits.1 ∙ is))
number_unique prim.Int64 m n v is fits = fits.3 ∙ ap whole (same_some fits.0 n (sym fits.1 ∙ is))
number_unique prim.String m n v is fits = absurd (none_some fits.1)
number_unique prim.Date m n v is fits = absurd (none_some fits.1)
number_unique prim.DateTimeOffset m n v is fits = absurd (none_some fits.1)
number_unique prim.Guid m n v is fits = absurd (none_some fits.1)

-- ---- a value that is rejected

module _ (line : List ℕ) (from to : ℕ) (sieve : Sieve) (slots : Slots) (depth : ℕ) where
  pub number_rejected : (type : PrimitiveType) (s : List ℕ) (m : Num) (n : ℤ) → StandsTo line from (Token.number s) to → number_of s ≡ Some m → as_integer m ≡ Some n → IsNumberOf type n → Rejects sieve (whole n)
      → ValueStands depth line from to (IsLeafRejected slots (primitive type) sieve)
  number_rejected type s m n stands read is of rejects =
      token_to depth line from to (Token.number s) (IsLeafRejected slots (primitive type) sieve) stands
      (record {
        json = number m;
        is_read = λ d rest. number_token s m read d rest;
        no_null = refl;
        holds = (λ nullable. (whole n, number_fits type m n is of), λ nullable v fits. subst (Rejects sieve) (sym (number_unique type m n v is fits)) rejects);
      })

  pub truth_rejected : (b : Bool) → StandsTo line from (Token.boolean b) to → Rejects sieve (val.boolean b) → ValueStands depth line from to (IsLeafRejected slots (primitive prim.Bool) sieve)
  truth_rejected b stands rejects =
      token_to depth line from to (Token.boolean b) (IsLeafRejected slots (primitive prim.Bool) sieve) stands
      (record {
        json = boolean b;
        is_read = λ d rest. boolean_token b d rest;
        no_null = refl;
        holds = (λ nullable. (val.boolean b, (b, refl, refl)), λ nullable v fits. subst (Rejects sieve) (sym (fits.2 ∙ ap val.boolean (same_some fits.0 b (sym fits.1)))) rejects);
      })

  pub text_rejected : (s : List ℕ) → from < to → IsTextAt line from s to → IsUtf8 s → Rejects sieve (text s) → ValueStands depth line from to (IsLeafRejected slots (primitive prim.String) sieve)
  text_rejected s further stands utf8 rejects =
      token_to depth line from to (Token.string s) (IsLeafRejected slots (primitive prim.String) sieve) (string_stands line from to s further stands.within stands.lexed)
      (record {
        json = string s;
        is_read = λ d rest. string_token s d rest;
        no_null = refl;
        holds = (λ nullable. (text s, (s, refl, (utf8, refl))), λ nullable v fits. subst (Rejects sieve) (sym (fits.2.1 ∙ ap text (same_some fits.0 s (sym fits.1)))) rejects);
      })
