-- What is made of collections, and of an enumeration's values, as what these stand for.
use Rattle.std.proofs.Common.{◌≡◌, ℕ, zero, suc, List, [], ◌∷◌, map, subst}
use Rattle.edm_values.specs.declared.datum.Datum.{Datum}
use Rattle.edm_values.specs.declared.datum.Datum.TheVariants as datum
use Rattle.edm_values.specs.declared.value.Value.{Value}
use Rattle.csdl_schema.specs.ExprType.{ExprType, SingleType, collection, enumeration, null_type, single}
use Rattle.csdl_schema.specs.SchemaModel.{Slots}
use Rattle.edm_entities.specs.HasType.{AllHaveType, HasType}
use Rattle.edm_entities.specs.Row.{items_of, val_of}
use Rattle.odata_functions.specs.Comparable.{HaveEquality}
use Rattle.odata_functions.specs.DatumVal.{datum_val}
use Rattle.odata_syntax.specs.declared.binary_operator.ComparisonOperator.{ComparisonOperator}
use Rattle.odata_signatures.specs.CollectionTyped.{IsComparableWithMembers}
use Rattle.odata_signatures.specs.HasTyped.{AreFlags}
use Rattle.odata_filter_operations.specs.LambdaGives.{InGives}
use Rattle.odata_filter_operations.specs.Outcome.{Outcome}
use Rattle.odata_filter_operations.specs.DatumView.{reading_at}
use Rattle.odata_filter_operations.specs.Collections.{IsOfEnumeration, MayBeAmong, MayBeMember}
use Rattle.odata_meaning.proofs.meaning.Kinds.{comparable_values}

-- ---- `in` before a path: the members are of the type that the left side is compared with

members_compared : (slots : Slots) (type : ExprType) (member : SingleType) (left : Datum) (held : List Value) → IsComparableWithMembers type (collection member)
    → HasType slots type (datum_val (reading_at slots type) left) → AllHaveType slots member (items_of slots.properties member (map val_of held)) → MayBeMember slots type member left held
members_compared slots type member left [] alike of_left all k found at = absurd (cc)
members_compared slots type member left (v ∷ more) alike of_left all zero found at =
    let is : v ≡ found = cc in
    subst (λ (w : Value). HaveEquality (datum_val (reading_at slots type) left) (val_of w slots.properties (single member))) is
    (comparable_values slots ComparisonOperator.Eq type (single member) (datum_val (reading_at slots type) left) (val_of v slots.properties (single member)) alike of_left all.0)
members_compared slots type member left (v ∷ more) alike of_left all (suc k) found at =
    members_compared slots type member left more alike of_left all.1 k found at

pub path_compared : (slots : Slots) (type : ExprType) (member : SingleType) (left path : Datum) → IsComparableWithMembers type (collection member)
    → HasType slots type (datum_val (reading_at slots type) left) → HasType slots (collection member) (datum_val (reading_at slots (collection member)) path)
    → MayBeAmong slots type member left path
path_compared slots type member left datum.Null alike of_left of_path = tt
path_compared slots type member left (datum.List held) alike of_left of_path = members_compared slots type member left held.now alike of_left of_path
path_compared slots type member left _ alike of_left of_path = absurd of_path

-- so are those of a path, whatever its type
pub some_compared : (slots : Slots) (type path_type : ExprType) (left path : Datum) → IsComparableWithMembers type path_type
    → HasType slots type (datum_val (reading_at slots type) left) → HasType slots path_type (datum_val (reading_at slots path_type) path)
    → (slots : Slots) × (type : ExprType) × (member : SingleType) × MayBeAmong slots type member left path
some_compared slots type (collection member) left path alike of_left of_path = (slots, type, member, path_compared slots type member left path alike of_left of_path)
some_compared slots type _ left path alike of_left of_path = absurd alike

-- and what is said of a collection is said of the path
pub path_gives : (slots : Slots) (type path_type : ExprType) (left path : Datum) (o : Outcome) → IsComparableWithMembers type path_type
    → HasType slots type (datum_val (reading_at slots type) left) → HasType slots path_type (datum_val (reading_at slots path_type) path)
    → ((member : SingleType) → MayBeAmong slots type member left path
    → InGives (datum_val (reading_at slots type) left) (datum_val (reading_at slots (collection member)) path) o)
    → InGives (datum_val (reading_at slots type) left) (datum_val (reading_at slots path_type) path) o
path_gives slots type (collection member) left path o alike of_left of_path given = given member (path_compared slots type member left path alike of_left of_path)
path_gives slots type _ left path o alike of_left of_path given = absurd alike

-- ---- `has`

enumeration_has : (slots : Slots) (name : List ℕ) (made : Datum) → HasType slots (single (enumeration name)) (datum_val (reading_at slots (single (enumeration name))) made)
    → IsOfEnumeration made
enumeration_has slots name datum.Null has = tt
enumeration_has slots name (datum.Enum n) has = tt
enumeration_has slots name _ has = absurd has

null_has : (slots : Slots) (made : Datum) → HasType slots null_type (datum_val (reading_at slots null_type) made) → IsOfEnumeration made
null_has slots datum.Null has = tt
null_has slots _ has = absurd has

pub flags_are : (slots : Slots) (s t : ExprType) (left right : Datum) → AreFlags s t → HasType slots s (datum_val (reading_at slots s) left)
    → HasType slots t (datum_val (reading_at slots t) right) → IsOfEnumeration left × IsOfEnumeration right
flags_are slots null_type null_type left right are of_left of_right = (null_has slots left of_left, null_has slots right of_right)
flags_are slots null_type (single (enumeration b)) left right are of_left of_right = (null_has slots left of_left, enumeration_has slots b right of_right)
flags_are slots (single (enumeration a)) null_type left right are of_left of_right = (enumeration_has slots a left of_left, null_has slots right of_right)
flags_are slots (single (enumeration a)) (single (enumeration b)) left right are of_left of_right =
    (enumeration_has slots a left of_left, enumeration_has slots b right of_right)
flags_are slots _ _ left right are of_left of_right = absurd are
