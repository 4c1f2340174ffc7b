-- Values without parts that are held to their types by the offsets where they stand.
use Rattle.std.proofs.Common.{◌≡◌, ◌≢◌, inl, inr, ℕ, ℤ, pos, ◌<◌, List, Bool, true, Option, None, Some, IfSome, refl, sym, ap, ◌∙◌, subst}
use Rattle.std.specs.Str.{IsUtf8}
use Rattle.json.specs.Json.{value as json_value}
use Rattle.json.specs.Token.{Token}
use Rattle.json.specs.Lex.{after_value}
use Rattle.serde_json.specs.Data.{Num, unsigned, boolean, number, null, string}
use Rattle.serde_json.specs.Find.{as_integer}
use Rattle.serde_json.specs.Read.{converted, number_of, of_json}
use Rattle.json_room.specs.WholeNumbers.{IsWhole}
use Rattle.json_room.specs.private.Lexemes.{IsTextAt}
use Rattle.json_room.specs.Lexemes.{StandsTo, tokens_at}
use Rattle.json_room.proofs.Standing.{string_stands}
use Rattle.csdl_schema.specs.ExprType.{SingleType, single, enumeration, primitive}
use Rattle.csdl_schema.specs.SchemaModel.{SchemaModel, Slots, slots_of, type_name_at}
use Rattle.edm_values.specs.Civil.{Date as CivilDate}
use Rattle.edm_values.specs.DateLiteral.{DateValue}
use Rattle.edm_values.specs.GuidLiteral.{GuidValue}
use Rattle.edm_values.specs.MomentLiteral.{MomentValue}
use Rattle.edm_values.specs.MomentParts.{MomentParts}
use Rattle.edm_values.specs.NumberTypes.{IsNumberOf}
use Rattle.edm_values.specs.Val.{Val, text, whole}
use Rattle.edm_values.specs.Val as val
use Rattle.edm_values.specs.declared.primitive.PrimitiveType.{PrimitiveType}
use Rattle.edm_values.specs.declared.primitive.PrimitiveType.TheVariants as prim
use Rattle.edm_row_plans.specs.declared.type_plan.TypePlan.{TypePlan}
use Rattle.enumeration_texts.specs.EnumerationTexts.{IsMemberTextAt}
use Rattle.edm_entities.specs.FitsPrimitive.{FitsPrimitive, IsMemberText, IsTextValue}
use Rattle.edm_rows.specs.private.Passed.{FitsSome, FitsSomeHowever}
use Rattle.json_room.proofs.Tokens.{boolean_token, null_token, number_token, string_token}
use Rattle.edm_rows.specs.declared.row_types.RowSlot.{RowSlot}
use Rattle.edm_rows.specs.declared.row_types.Task.{Task}
use Rattle.edm_rows.specs.declared.row_types.Task.TheVariants.{Text, Number, Truth, Date, Moment, Guid, Member, Record, Items, Any}
use Rattle.room_literals.specs.SureTexts.{IsLiteralAt}
use Rattle.json_room.specs.ValueStands.{ValueStands}
use Rattle.edm_rows.specs.private.Held.{IsHeldTo, IsIntegerText, IsSingle, Kinds, type_of}
use Rattle.json_room.proofs.Places.{begins_at, reads_to_as, token_to}
use Rattle.edm_rows.specs.private.RowSlots.{HasPrimitive, IsSlotOf, IsTaskOf, name_at}

-- ---- tokens of a type

pub text_held : (slots : Slots) (depth : ℕ) (line : List ℕ) (from to : ℕ) (s : List ℕ) → from < to → IsTextAt line from s to → IsUtf8 s
    → ValueStands depth line from to (FitsSomeHowever slots (single (primitive prim.String)))
text_held slots depth line from to s further stands utf8 =
    token_to depth line from to (Token.string s) (FitsSomeHowever slots (single (primitive prim.String))) (string_stands line from to s further stands.within stands.lexed)
    (record { json = string s; is_read = λ d rest. string_token s d rest; no_null = refl; holds = λ nullable. (text s, (s, refl, (utf8, refl))) })

pub truth_held : (slots : Slots) (depth : ℕ) (line : List ℕ) (from to : ℕ) (b : Bool) → StandsTo line from (Token.boolean b) to
    → ValueStands depth line from to (FitsSomeHowever slots (single (primitive prim.Bool)))
truth_held slots depth line from to b stands =
    token_to depth line from to (Token.boolean b) (FitsSomeHowever slots (single (primitive prim.Bool))) stands
    (record { json = boolean b; is_read = λ d rest. boolean_token b d rest; no_null = refl; holds = λ nullable. (val.boolean b, (b, refl, refl)) })

pub number_fits : (type : PrimitiveType) (m : Num) (n : ℤ) → as_integer m ≡ Some n → IsNumberOf type n → FitsPrimitive type (number m) (whole n)
number_fits prim.Bool m n is of = absurd of
number_fits prim.Byte m n is of = (n, is, of, refl)
number_fits prim.SByte m n is of = (n, is, of, refl)
number_fits prim.Int16 m n is of = (n, is, of, refl)
number_fits prim.Int32 m n is of = (n, is, of, refl)
number_fits prim.Int64 m n is of = (n, is, of, refl)
number_fits prim.String m n is of = absurd of
number_fits prim.Date m n is of = absurd of
number_fits prim.DateTimeOffset m n is of = absurd of
number_fits prim.Guid m n is of = absurd of

pub number_held : (slots : Slots) (type : PrimitiveType) (depth : ℕ) (line : List ℕ) (from to : ℕ) (s : List ℕ) (m : Num) (n : ℤ) → StandsTo line from (Token.number s) to → number_of s ≡ Some m → as_integer m ≡ Some n
    → IsNumberOf type n → ValueStands depth line from to (FitsSomeHowever slots (single (primitive type)))
number_held slots type depth line from to s m n stands read is of =
    token_to depth line from to (Token.number s) (FitsSomeHowever slots (single (primitive type))) stands
    (record { json = number m; is_read = λ d rest. number_token s m read d rest; no_null = refl; holds = λ nullable. (whole n, number_fits type m n is of) })

pub digits_held : (slots : Slots) (type : PrimitiveType) (depth : ℕ) (line : List ℕ) (from to : ℕ) (s : List ℕ) (n : ℕ) → StandsTo line from (Token.number s) to → IsWhole s n → IsNumberOf type (pos n)
    → ValueStands depth line from to (FitsSomeHowever slots (single (primitive type)))
digits_held slots type depth line from to s n stands is of = number_held slots type depth line from to s (unsigned n) (pos n) stands is.read refl of

pub integer_held : (slots : Slots) (type : PrimitiveType) (depth : ℕ) (line : List ℕ) (from to : ℕ) (s : List ℕ) (n : ℤ) → StandsTo line from (Token.number s) to → IsIntegerText type s n
    → ValueStands depth line from to (FitsSomeHowever slots (single (primitive type)))
integer_held slots type depth line from to s n stands is = number_held slots type depth line from to s is.0 n stands is.1 is.2 is.3

-- a text of a literal
pub text_fits : (type : PrimitiveType) (s : List ℕ) (v : Val) → IsTextValue type s v → FitsPrimitive type (string s) v
text_fits prim.Bool s v is = absurd is
text_fits prim.Byte s v is = absurd is
text_fits prim.SByte s v is = absurd is
text_fits prim.Int16 s v is = absurd is
text_fits prim.Int32 s v is = absurd is
text_fits prim.Int64 s v is = absurd is
text_fits prim.String s v is = (s, refl, is)
text_fits prim.Date s v is = (s, refl, is)
text_fits prim.DateTimeOffset s v is = (s, refl, is)
text_fits prim.Guid s v is = (s, refl, is)

pub literal_held : (slots : Slots) (type : PrimitiveType) (depth : ℕ) (line : List ℕ) (from to : ℕ) (s : List ℕ) (v : Val) → from < to → IsTextAt line from s to → IsTextValue type s v
    → ValueStands depth line from to (FitsSomeHowever slots (single (primitive type)))
literal_held slots type depth line from to s v further stands is =
    token_to depth line from to (Token.string s) (FitsSomeHowever slots (single (primitive type))) (string_stands line from to s further stands.within stands.lexed)
    (record { json = string s; is_read = λ d rest. string_token s d rest; no_null = refl; holds = λ nullable. (v, text_fits type s v is) })

-- a literal that stands there, if one does
pub literal_to : (slots : Slots) (type : PrimitiveType) (depth : ℕ) (line : List ℕ) (from : ℕ) (IsLiteral : List ℕ → Type 0) (o : Option ℕ) → ((s : List ℕ) → IsLiteral s → (v : Val) × IsTextValue type s v) → IfSome o (IsLiteralAt line from IsLiteral)
    → IfSome o (λ to. ValueStands depth line from to (FitsSomeHowever slots (single (primitive type))))
literal_to slots type depth line from IsLiteral None by at = tt
literal_to slots type depth line from IsLiteral (Some to) by at = let value = by at.text at.is in literal_held slots type depth line from to at.text value.0 at.further at.stands value.1

pub date_to : (slots : Slots) (depth : ℕ) (line : List ℕ) (from : ℕ) (o : Option ℕ) → IfSome o (IsLiteralAt line from (λ text. (d : CivilDate) × DateValue text d)) → IfSome o (λ to. ValueStands depth line from to (FitsSomeHowever slots (single (primitive prim.Date))))
date_to slots depth line from o = literal_to slots prim.Date depth line from (λ text. (d : CivilDate) × DateValue text d) o (λ s is. (val.date is.0, (is.0, is.1, refl)))

pub moment_to : (slots : Slots) (depth : ℕ) (line : List ℕ) (from : ℕ) (o : Option ℕ) → IfSome o (IsLiteralAt line from (λ text. (m : MomentParts) × MomentValue text m)) → IfSome o (λ to. ValueStands depth line from to (FitsSomeHowever slots (single (primitive prim.DateTimeOffset))))
moment_to slots depth line from o = literal_to slots prim.DateTimeOffset depth line from (λ text. (m : MomentParts) × MomentValue text m) o (λ s is. (val.moment is.0, (is.0, is.1, refl)))

pub guid_to : (slots : Slots) (depth : ℕ) (line : List ℕ) (from : ℕ) (o : Option ℕ) → IfSome o (IsLiteralAt line from (λ text. (g : List ℕ) × GuidValue text g)) → IfSome o (λ to. ValueStands depth line from to (FitsSomeHowever slots (single (primitive prim.Guid))))
guid_to slots depth line from o = literal_to slots prim.Guid depth line from (λ text. (g : List ℕ) × GuidValue text g) o (λ s is. (val.guid is.0, (is.0, is.1, refl)))

pub member_held : (slots : Slots) (name : List ℕ) (depth : ℕ) (line : List ℕ) (from to : ℕ) (s : List ℕ) (v : Val) → from < to → IsTextAt line from s to → IsMemberText (slots.enumerations name) s v
    → ValueStands depth line from to (FitsSomeHowever slots (single (enumeration name)))
member_held slots name depth line from to s v further stands is =
    token_to depth line from to (Token.string s) (FitsSomeHowever slots (single (enumeration name))) (string_stands line from to s further stands.within stands.lexed)
    (record { json = string s; is_read = λ d rest. string_token s d rest; no_null = refl; holds = λ nullable. (v, (s, refl, is)) })

-- a text that was found to be one of its enumeration
pub known_held : (schema : SchemaModel) (id : Option ℕ) (depth : ℕ) (line : List ℕ) (from to : ℕ) → IsMemberTextAt schema id line from to
    → ValueStands depth line from to (FitsSomeHowever (slots_of schema) (single (enumeration (name_at schema id))))
known_held schema id depth line from to is =
    subst (λ (o : Option ℕ). ValueStands depth line from to (FitsSomeHowever (slots_of schema) (single (enumeration (name_at schema o))))) (sym is.is_of)
    (member_held (slots_of schema) (type_name_at schema is.enumeration) depth line from to is.text (val.member is.is_one.0) is.further is.stands (is.is_one.0, is.is_one.1, is.is_one.2, refl))

-- null, where it may be
pub null_held : (slots : Slots) (nullable : Bool) (type : SingleType) (depth : ℕ) (line : List ℕ) (from to : ℕ) → nullable ≡ true → StandsTo line from Token.null to
    → ValueStands depth line from to (FitsSome slots nullable nullable (single type))
null_held slots nullable type depth line from to may stands =
    record {
      bounds = stands.bounds;
      reads = λ turn may_begin here. record {
        json = null;
        is_read = ap (λ ts. converted of_json (json_value depth ts)) (begins_at line from to Token.null turn may_begin stands here) ∙ null_token depth (tokens_at after_value line to);
        holds = (val.null, (may, refl));
      };
    }

-- ---- what a task holds to

module _ (slots : Slots) (kinds : Kinds) (nullable : Bool) (inner : Task) (depth : ℕ) (line : List ℕ) (from : ℕ) where
  -- of a single value, or an item, that is the value of a type
  pub single_held : (task : Task) (to : ℕ) → task ≢ Items → task ≢ Any → ValueStands depth line from to (FitsSome slots nullable nullable (single (type_of kinds task)))
      → ValueStands depth line from to (IsHeldTo slots kinds nullable inner task)
  single_held Text to many any reads = reads
  single_held Number to many any reads = reads
  single_held Truth to many any reads = reads
  single_held Date to many any reads = reads
  single_held Moment to many any reads = reads
  single_held Guid to many any reads = reads
  single_held Member to many any reads = reads
  single_held Record to many any reads = reads
  single_held Items to many any reads = absurd (many refl)
  single_held Any to many any reads = absurd (any refl)

  pub however_held : (type : SingleType) (to : ℕ) → ValueStands depth line from to (FitsSomeHowever slots (single type)) → ValueStands depth line from to (FitsSome slots nullable nullable (single type))
  however_held type to reads = reads_to_as depth line from to (FitsSomeHowever slots (single type)) (FitsSome slots nullable nullable (single type)) (λ json fits. fits nullable) reads

  -- where the task is known
  pub task_held : (task known : Task) (type : SingleType) (o : Option ℕ) → task ≡ known → ((json : _) → FitsSome slots nullable nullable (single type) json → IsHeldTo slots kinds nullable inner known json)
      → IfSome o (λ to. ValueStands depth line from to (FitsSomeHowever slots (single type))) → IfSome o (λ to. ValueStands depth line from to (IsHeldTo slots kinds nullable inner task))
  task_held task known type None is by reads = tt
  task_held task known type (Some to) is by reads =
      subst (λ t. ValueStands depth line from to (IsHeldTo slots kinds nullable inner t)) (sym is)
      (reads_to_as depth line from to (FitsSomeHowever slots (single type)) (IsHeldTo slots kinds nullable inner known) (λ json fits. by json (fits nullable)) reads)

-- ---- options

pub some_by : {V : Type 0} (o : Option V) (P Q : V → Type 0) → ((v : V) → P v → Q v) → IfSome o P → IfSome o Q
some_by None P Q by holds = tt
some_by (Some v) P Q by holds = by v holds

-- ---- the task of a slot's values

pub record_slot : (slot : RowSlot) (task : Task) → IsTaskOf slot task → task ≡ Record → slot.item ≡ Record
record_slot slot task (inl same) is = sym same.1 ∙ is
record_slot slot task (inr both) is = let wrong : Items ≡ Record = sym both.0 ∙ is in absurd (cc)

pub items_single : (slot : RowSlot) (task : Task) → IsTaskOf slot task → task ≡ Items → IsSingle slot.item
items_single slot task (inl same) is = absurd (same.0 is)
items_single slot task (inr both) is = both.1

-- a task of a single value has its primitive type
pub primitive_as : (plans : List TypePlan) (slot : RowSlot) (task known : Task) → IsSlotOf plans slot → IsTaskOf slot task → task ≡ known → known ≢ Items → HasPrimitive slot.prim slot.sure known
primitive_as plans slot task known is (inl same) at apart = subst (HasPrimitive slot.prim slot.sure) (sym same.1 ∙ at) is.primitive
primitive_as plans slot task known is (inr both) at apart = absurd (apart (sym at ∙ both.0))
