-- For private clauses: what a value of a line is held to where it stands.
use Rattle.std.specs.Prelude.{◌≡◌, ◌≢◌, ℕ, ℤ, List, Bool, false, Some}
use Rattle.serde_json.specs.Data.{Data, Num}
use Rattle.serde_json.specs.Find.{as_integer}
use Rattle.serde_json.specs.Read.{number_of}
use Rattle.edm_values.specs.NumberTypes.{IsNumberOf}
use Rattle.csdl_schema.specs.ExprType.{ExprType, SingleType, single, collection, primitive, enumeration, structured}
use Rattle.csdl_schema.specs.SchemaModel.{Slots}
use Rattle.edm_values.specs.declared.primitive.PrimitiveType.{PrimitiveType}
use Rattle.edm_values.specs.declared.primitive.PrimitiveType.TheVariants as prim
use Rattle.edm_values.specs.declared.value.Value.{Value, Null}
use Rattle.edm_values.specs.Val.{Val}
use Rattle.edm_rows.specs.Alike.{AreAlike, Names}
use Rattle.edm_rows.specs.private.Passed.{FitsSome, FitsNullable}
use Rattle.edm_entities.specs.Fits.{FitsFound, FitsType}
use Rattle.edm_entities.specs.HoldsEachSlot.{HoldsEachSlot}
use Rattle.edm_entities.specs.Row.{val_of}
use Rattle.edm_rows.specs.declared.row_types.Task.{Task}
use Rattle.edm_rows.specs.declared.row_types.Task.TheVariants.{Text, Number, Truth, Date, Moment, Guid, Member, Record, Items, Any}

-- what a slot says of its values besides its task: the type of its numbers and literals, the name of its enumeration,
-- and the name of its records' type
pub record Kinds : Type 0 where
  pub primitive : PrimitiveType
  pub enumeration : List ℕ
  pub record_type : List ℕ

-- the type of one value that is passed by a task; texts stand for those that have none of their own
abbrev pub type_of : Kinds → Task → SingleType
type_of kinds Text = primitive prim.String
type_of kinds Number = primitive kinds.primitive
type_of kinds Truth = primitive prim.Bool
type_of kinds Date = primitive prim.Date
type_of kinds Moment = primitive prim.DateTimeOffset
type_of kinds Guid = primitive prim.Guid
type_of kinds Member = enumeration kinds.enumeration
type_of kinds Record = structured kinds.record_type
type_of kinds Items = primitive prim.String
type_of kinds Any = primitive prim.String

-- JSON that a task holds to: some value fits it, or the value of an array, or nothing is asked of it. A single value,
-- or an item, may be null if that is so of the slot
abbrev pub IsHeldTo : Slots → Kinds → Bool → Task → Task → Data → Type 0
IsHeldTo slots kinds nullable inner Any json = Unit {0}
IsHeldTo slots kinds nullable inner Items json = FitsSome slots false nullable (collection (type_of kinds inner)) json
IsHeldTo slots kinds nullable inner task json = FitsSome slots nullable nullable (single (type_of kinds task)) json

-- a value of that type that is read of JSON, which may be null if `takes`; each record in it holds one value for each
-- slot
abbrev pub IsFilled : Slots → Bool → Bool → ExprType → Value → Data → Type 0
IsFilled slots takes nullable type value json =
    FitsNullable slots takes nullable type value json × HoldsEachSlot value slots type

-- the value that a task reads of JSON; null where nothing is asked of it
abbrev pub FilledAs : Slots → Kinds → Bool → Task → Task → Value → Data → Type 0
FilledAs slots kinds nullable inner Any value json = value ≡ Null
FilledAs slots kinds nullable inner Items value json =
    IsFilled slots false nullable (collection (type_of kinds inner)) value json
FilledAs slots kinds nullable inner task value json =
    IsFilled slots nullable nullable (single (type_of kinds task)) value json

-- the type of all that a task reads
abbrev pub read_type : Kinds → Task → Task → ExprType
read_type kinds inner Items = collection (type_of kinds inner)
read_type kinds inner task = single (type_of kinds task)

-- a value of that type that is seen of JSON, which may be null if `takes`
abbrev pub IsSeenOf : Slots → Bool → Bool → ExprType → Val → Data → Type 0
IsSeenOf slots takes nullable type seen json =
    FitsFound (Some json) takes seen (λ found. FitsType slots nullable type found seen)

-- the value that is seen by a task; none where nothing is asked of the JSON
abbrev pub IsSeenAs : Slots → Kinds → Bool → Task → Task → Val → Data → Type 0
IsSeenAs slots kinds nullable inner Any seen json = ⊥
IsSeenAs slots kinds nullable inner Items seen json =
    IsSeenOf slots false nullable (collection (type_of kinds inner)) seen json
IsSeenAs slots kinds nullable inner task seen json =
    IsSeenOf slots nullable nullable (single (type_of kinds task)) seen json

-- some value is seen of the JSON, to which the stored one is alike but for what is passed over
abbrev pub IsFilledBut : Slots → Names → Bool → Bool → ExprType → Value → Data → Type 0
IsFilledBut slots Passed takes nullable type value json =
    (seen : Val) × IsSeenOf slots takes nullable type seen json
    × AreAlike Passed (val_of value slots.properties type) seen

-- the same of the value that a task reads
abbrev pub FilledBut : Slots → Names → Kinds → Bool → Task → Task → Value → Data → Type 0
FilledBut slots Passed kinds nullable inner Any value json = value ≡ Null
FilledBut slots Passed kinds nullable inner Items value json =
    IsFilledBut slots Passed false nullable (collection (type_of kinds inner)) value json
FilledBut slots Passed kinds nullable inner task value json =
    IsFilledBut slots Passed nullable nullable (single (type_of kinds task)) value json

-- a task of a value by itself
abbrev pub IsSingle : Task → Type 0
IsSingle task = (task ≢ Items) × (task ≢ Any)

-- a task of values without parts, if they are looked at
abbrev pub IsLeaf : Task → Type 0
IsLeaf task = (task ≢ Record) × (task ≢ Items)

-- a number as it is written, whose value is a whole number of a type
abbrev pub IsIntegerText : PrimitiveType → List ℕ → ℤ → Type 0
IsIntegerText type s n = (m : Num) × (number_of s ≡ Some m) × (as_integer m ≡ Some n) × IsNumberOf type n
