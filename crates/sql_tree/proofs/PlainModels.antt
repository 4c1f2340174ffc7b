-- The names of slots and of members are without quotes where those of the types' own properties and members are.
use Rattle.std.proofs.Common.{ℕ, zero, suc, List, [], ◌∷◌, ◌++◌, length, map, Bool, true, false, cond, Option, Some, None, option_and_then, unwrap_or, slice_get, nat_eq}
use Rattle.std.specs.List.{AllByRecursion}
use Rattle.std.specs.Cmp.Lexicographic.{pointwise}
use Rattle.edm_enumerations.specs.EnumerationModel.{MemberModel}
use Rattle.csdl_schema.specs.EnumerationText.{members_in}
use Rattle.csdl_schema.specs.SchemaModel.{ModelBody, PropertyModel, TypeModel, base_properties, body_properties, enumeration_of_body, enumeration_type, properties_at, properties_within, structured_type, type_called, type_definition, type_name_at, type_properties}
use Rattle.sql_tree.specs.Parentheses.{AreNamesPlain, HasNoQuote}
use Rattle.sql_tree.specs.TableModel.{TableModel}

abbrev pub AreSlotsPlain : List PropertyModel → Type 0
AreSlotsPlain = AllByRecursion (λ p. HasNoQuote p.name)

abbrev pub AreMembersPlain : List MemberModel → Type 0
AreMembersPlain = AllByRecursion (λ m. HasNoQuote m.name)

-- the names that a type declares itself
abbrev pub IsBodyPlain : ModelBody → Type 0
IsBodyPlain (structured_type is_entity base own) = AreSlotsPlain own
IsBodyPlain (enumeration_type e) = AreMembersPlain e.members
IsBodyPlain (type_definition p) = Unit {0}

abbrev pub AreTypesPlain : List TypeModel → Type 0
AreTypesPlain = AllByRecursion (λ t. IsBodyPlain t.body)

abbrev IsTypePlain : Option TypeModel → Type 0
IsTypePlain None = Unit {0}
IsTypePlain (Some t) = IsBodyPlain t.body

-- ---- slots

both_plain : (xs ys : List PropertyModel) → AreSlotsPlain xs → AreSlotsPlain ys → AreSlotsPlain (xs ++ ys)
both_plain [] ys one other = other
both_plain (x ∷ xs) ys one other = (one.0, both_plain xs ys one.1 other)

called_or : (test : Bool) (t : TypeModel) (other : Option TypeModel) → IsBodyPlain t.body → IsTypePlain other → IsTypePlain (cond test (Some t) other)
called_or true t other here later = here
called_or false t other here later = later

called_plain : (types : List TypeModel) (asked : List ℕ) → AreTypesPlain types → IsTypePlain (type_called types asked)
called_plain [] asked plain = tt
called_plain (t ∷ ts) asked plain = called_or (pointwise nat_eq t.name asked) t (type_called ts asked) plain.0 (called_plain ts asked plain.1)

base_plain : (inherited : List ℕ → List PropertyModel) (base : Option (List ℕ)) → ((name : List ℕ) → AreSlotsPlain (inherited name)) → AreSlotsPlain (base_properties inherited base)
base_plain inherited None plain = tt
base_plain inherited (Some base) plain = plain base

body_slots_plain : (inherited : List ℕ → List PropertyModel) (body : ModelBody) → ((name : List ℕ) → AreSlotsPlain (inherited name)) → IsBodyPlain body → AreSlotsPlain (body_properties inherited body)
body_slots_plain inherited (structured_type is_entity base own) plain here = both_plain (base_properties inherited base) own (base_plain inherited base plain) here
body_slots_plain inherited (enumeration_type e) plain here = tt
body_slots_plain inherited (type_definition p) plain here = tt

type_slots_plain : (inherited : List ℕ → List PropertyModel) (t : Option TypeModel) → ((name : List ℕ) → AreSlotsPlain (inherited name)) → IsTypePlain t → AreSlotsPlain (type_properties inherited t)
type_slots_plain inherited None plain here = tt
type_slots_plain inherited (Some t) plain here = body_slots_plain inherited t.body plain here

slots_plain : (n : ℕ) (types : List TypeModel) → AreTypesPlain types → (asked : List ℕ) → AreSlotsPlain (properties_within n types asked)
slots_plain zero types plain asked = tt
slots_plain (suc n) types plain asked = type_slots_plain (properties_within n types) (type_called types asked) (slots_plain n types plain) (called_plain types asked plain)

name_plain : (ps : List PropertyModel) (slot : ℕ) → AreSlotsPlain ps → HasNoQuote (unwrap_or (slice_get (map (λ p. p.name) ps) slot) [])
name_plain [] slot plain = tt
name_plain (p ∷ ps) zero plain = plain.0
name_plain (p ∷ ps) (suc slot) plain = name_plain ps slot plain.1

-- ---- members

body_members_plain : (body : ModelBody) → IsBodyPlain body → AreMembersPlain (members_in (enumeration_of_body body))
body_members_plain (structured_type is_entity base own) plain = tt
body_members_plain (enumeration_type e) plain = plain
body_members_plain (type_definition p) plain = tt

members_plain : (types : List TypeModel) (n : ℕ) → AreTypesPlain types → AreMembersPlain (members_in (option_and_then (λ t. enumeration_of_body t.body) (slice_get types n)))
members_plain [] n plain = tt
members_plain (t ∷ ts) zero plain = body_members_plain t.body plain.0
members_plain (t ∷ ts) (suc n) plain = members_plain ts n plain.1

pub names_plain : (table : TableModel) → AreTypesPlain table.schema.types → AreNamesPlain table
names_plain table plain =
    let types = table.schema.types in
    record {
      steps = λ step. name_plain (properties_at table.schema step.owner) step.slot (slots_plain (length types) types plain (type_name_at table.schema step.owner));
      members = λ id. members_plain types id plain;
    }
