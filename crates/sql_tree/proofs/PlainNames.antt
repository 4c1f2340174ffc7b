-- The names of a schema that a document declares have no quotes: each is an identifier, or the document has a fault.
use Rattle.std.proofs.Common.{◌≡◌, ℕ, List, [], ◌∷◌, ◌++◌, map, Bool, true, false, cond, Option, Some, None, is_some, chars, codes, nat_eq, nat_lt, not, Ordering, Less, Equal, Greater, refl, sym, subst}
use Rattle.std.specs.List.{AllByRecursion, flat_map}
use Rattle.std.specs.Ordering.{match_ordering, nat_cmp}
use Rattle.std.specs.Cmp.Lexicographic.{pointwise, slice_cmp}
use Rattle.std.proofs.lemmas.Bool.{and_parts}
use Rattle.serde_json.specs.Data as serde
use Rattle.serde_json.specs.Data.{Data}
use Rattle.edm_values.specs.declared.primitive.PrimitiveType.{PrimitiveType}
use Rattle.odata_text.specs.Identifier.{is_identifier}
use Rattle.csdl_declarations.specs.Declarations.{TypeDeclaration, full_name, in_name_order, put_type, type_count, type_in, types_among, types_declared, types_in, types_in_order}
use Rattle.csdl_declarations.specs.DeclaredType.{DeclaredType, PropertyDeclaration, TypeBody, body_of_kind, declared_property, declared_type, declared_types, definition, enumeration, structured}
use Rattle.csdl_declarations.specs.EnumerationDeclaration.{declared_member, member_faults, member_number, number_of, underlying_of}
use Rattle.csdl_declarations.specs.Fault.{Fault, not_object, too_large, unless, version}
use Rattle.csdl_declarations.specs.Faults.{body_faults, declaration_faults, is_property, is_version, kind_faults, namespace_faults, object_faults, property_faults, type_faults, type_limit}
use Rattle.csdl_declarations.specs.Members.{declared_among, declared_in, is_object, is_read_over, text_at}
use Rattle.csdl_declarations.specs.TypeKind.{is_other_kind, kind_of_text}
use Rattle.csdl_schema.specs.BaseFaults.{all_base_faults}
use Rattle.csdl_schema.specs.Document.{StandsFor, document_faults}
use Rattle.csdl_schema.specs.Resolution.{body_model, property_of, type_model}
use Rattle.csdl_schema.specs.SchemaModel.{SchemaModel}
use Rattle.sql_tree.specs.Parentheses.{AreNamesPlain, HasNoQuote}
use Rattle.sql_tree.specs.TableModel.{TableModel}
use Rattle.sql_tree.proofs.PlainModels.{AreMembersPlain, AreSlotsPlain, AreTypesPlain, IsBodyPlain, names_plain}
use Rattle.sql_tree.proofs.QuoteFree.{quote_free}
use Rattle.sql_tree.proofs.Spelled.{AreMembersSpelled, AreNamesSpelled, IsSpelled}
use Rattle.sql_tree.proofs.SpelledJson.{names_spelled}

-- ---- no faults

first_none : {X : Type 0} (xs ys : List X) → xs ++ ys ≡ [] → xs ≡ []
first_none [] ys none = refl
first_none (x ∷ xs) ys none = absurd (cc)

rest_none : {X : Type 0} (xs ys : List X) → xs ++ ys ≡ [] → ys ≡ []
rest_none [] ys none = none
rest_none (x ∷ xs) ys none = absurd (cc)

passes : (test : Bool) (fault : Fault) → unless test fault ≡ [] → test ≡ true
passes true fault none = refl
passes false fault none = absurd (cc)

-- ---- the members of an object

abbrev IsMemberSpelled : List ℕ × Data → Type 0
IsMemberSpelled m = IsSpelled 0 m.0 × AreNamesSpelled m.1

kept_or : (test : Bool) (m : List ℕ × Data) (later : List (List ℕ × Data)) → IsMemberSpelled m → AllByRecursion IsMemberSpelled later → AllByRecursion IsMemberSpelled (cond test later (m ∷ later))
kept_or true m later here all = all
kept_or false m later here all = (here, all)

among_spelled : (ms : serde.Members) → AreMembersSpelled ms → AllByRecursion IsMemberSpelled (declared_among ms)
among_spelled serde.no_members spelled = tt
among_spelled (serde.member k d ms) spelled = kept_or (is_read_over k) (k, d) (declared_among ms) (spelled.0, spelled.1) (among_spelled ms spelled.2)

declared_spelled : (d : Data) → AreNamesSpelled d → AllByRecursion IsMemberSpelled (declared_in d)
declared_spelled serde.null spelled = tt
declared_spelled (serde.boolean b) spelled = tt
declared_spelled (serde.number n) spelled = tt
declared_spelled (serde.string s) spelled = tt
declared_spelled (serde.array ds) spelled = tt
declared_spelled (serde.object ms) spelled = among_spelled ms spelled

-- ---- the types of a document

abbrev IsTypeSpelled : TypeDeclaration → Type 0
IsTypeSpelled t = AreNamesSpelled t.body

abbrev AreTypesSpelled : List TypeDeclaration → Type 0
AreTypesSpelled = AllByRecursion IsTypeSpelled

type_or : (test : Bool) (t : TypeDeclaration) (later : List TypeDeclaration) → IsTypeSpelled t → AreTypesSpelled later → AreTypesSpelled (cond test later (t ∷ later))
type_or true t later here all = all
type_or false t later here all = (here, all)

types_among_spelled : (namespace : List ℕ) (alias : Option (List ℕ)) (ms : List (List ℕ × Data)) → AllByRecursion IsMemberSpelled ms → AreTypesSpelled (types_among namespace alias ms)
types_among_spelled namespace alias [] spelled = tt
types_among_spelled namespace alias (m ∷ ms) spelled =
    type_or (is_other_kind m.1) (type_in namespace alias m) (types_among namespace alias ms) spelled.0.1 (types_among_spelled namespace alias ms spelled.1)

both_spelled : (ts us : List TypeDeclaration) → AreTypesSpelled ts → AreTypesSpelled us → AreTypesSpelled (ts ++ us)
both_spelled [] us one other = other
both_spelled (t ∷ ts) us one other = (one.0, both_spelled ts us one.1 other)

schemas_spelled : (schemas : List (List ℕ × Data)) → AllByRecursion IsMemberSpelled schemas → AreTypesSpelled (flat_map types_in schemas)
schemas_spelled [] spelled = tt
schemas_spelled (m ∷ ms) spelled =
    both_spelled (types_in m) (flat_map types_in ms) (types_among_spelled m.0 _ (declared_in m.1) (declared_spelled m.1 spelled.0.1)) (schemas_spelled ms spelled.1)

put_spelled : (t : TypeDeclaration) (us : List TypeDeclaration) → IsTypeSpelled t → AreTypesSpelled us → AreTypesSpelled (put_type t us)
put_spelled t [] here spelled = (here, tt)
put_spelled t (u ∷ us) here spelled = by (slice_cmp nat_cmp (full_name t) (full_name u)) (put_spelled t us here spelled.1)
  where
    by : (o : Ordering) → AreTypesSpelled (put_type t us) → AreTypesSpelled (match_ordering o (t ∷ u ∷ us) (t ∷ us) (u ∷ put_type t us))
    by Less more = (here, spelled)
    by Equal more = (here, spelled.1)
    by Greater more = (spelled.0, more)

ordered_spelled : (ts : List TypeDeclaration) → AreTypesSpelled ts → AreTypesSpelled (in_name_order ts)
ordered_spelled [] spelled = tt
ordered_spelled (t ∷ ts) spelled = put_spelled t (in_name_order ts) spelled.0 (ordered_spelled ts spelled.1)

-- ---- what a type declares

properties_plain : (owner : List ℕ) (ms : List (List ℕ × Data)) → flat_map (property_faults owner) ms ≡ [] → AllByRecursion IsMemberSpelled ms
    → AllByRecursion (λ p. HasNoQuote p.name) (map declared_property ms)
properties_plain owner [] none spelled = tt
properties_plain owner (m ∷ ms) none spelled =
    let fine = passes (is_property m) _ (first_none (property_faults owner m) (flat_map (property_faults owner) ms) none) in
    (quote_free m.0 spelled.0.0 (and_parts (is_identifier (chars m.0)) _ fine).0, properties_plain owner ms (rest_none (property_faults owner m) (flat_map (property_faults owner) ms) none) spelled.1)

is_named : {X : Type 0} (test : Bool) (number : Option X) → is_some (cond test number None) ≡ true → test ≡ true
is_named true number some = refl
is_named false number some = absurd (cc)

members_plain : (owner : List ℕ) (type : PrimitiveType) (ms : List (List ℕ × Data)) → flat_map (member_faults owner type) ms ≡ [] → AllByRecursion IsMemberSpelled ms
    → AreMembersPlain (map (declared_member type) ms)
members_plain owner type [] none spelled = tt
members_plain owner type (m ∷ ms) none spelled =
    let fine = passes (is_some (member_number type m)) _ (first_none (member_faults owner type m) (flat_map (member_faults owner type) ms) none) in
    (quote_free m.0 spelled.0.0 (is_named (is_identifier (chars m.0)) (number_of type m.1) fine), members_plain owner type ms (rest_none (member_faults owner type m) (flat_map (member_faults owner type) ms) none) spelled.1)

abbrev IsDeclaredPlain : TypeBody → Type 0
IsDeclaredPlain (structured is_entity base properties) = AllByRecursion (λ p. HasNoQuote p.name) properties
IsDeclaredPlain (enumeration e) = AreMembersPlain e.members
IsDeclaredPlain (definition underlying) = Unit {0}

either : {A : Type 0} (test : Bool) (x y : A) (P : A → Type 0) → P x → P y → P (cond test x y)
either true x y P one two = one
either false x y P one two = two

-- by the text of its kind
body_plain : (text : Option (List ℕ)) (owner : List ℕ) (d : Data) → AreNamesSpelled d → kind_faults (kind_of_text text) owner d ≡ [] → IsDeclaredPlain (body_of_kind (kind_of_text text) d)
body_plain None owner d spelled = λ none. tt
body_plain (Some text) owner d spelled =
    either (pointwise nat_eq text (codes "EntityType")) _ _ (λ k. kind_faults k owner d ≡ [] → IsDeclaredPlain (body_of_kind k d))
    (λ none. properties_plain owner (declared_in d) (rest_none (unless _ _) _ none) (declared_spelled d spelled))
    (either (pointwise nat_eq text (codes "ComplexType")) _ _ (λ k. kind_faults k owner d ≡ [] → IsDeclaredPlain (body_of_kind k d))
    (λ none. properties_plain owner (declared_in d) (rest_none (unless _ _) _ none) (declared_spelled d spelled))
    (either (pointwise nat_eq text (codes "EnumType")) _ _ (λ k. kind_faults k owner d ≡ [] → IsDeclaredPlain (body_of_kind k d))
    (λ none. members_plain owner (underlying_of d) (declared_in d) (rest_none (unless _ _) _ none) (declared_spelled d spelled))
    (either (pointwise nat_eq text (codes "TypeDefinition")) _ _ (λ k. kind_faults k owner d ≡ [] → IsDeclaredPlain (body_of_kind k d)) (λ none. tt) (λ none. tt))))

declared_plain : (ts : List TypeDeclaration) → flat_map type_faults ts ≡ [] → AreTypesSpelled ts → AllByRecursion (λ t. IsDeclaredPlain t.body) (map declared_type ts)
declared_plain [] none spelled = tt
declared_plain (t ∷ ts) none spelled =
    let own : body_faults (full_name t) t.body ≡ [] = rest_none (unless _ _) _ (first_none (type_faults t) (flat_map type_faults ts) none) in
    (body_plain (text_at (codes "$Kind") t.body) (full_name t) t.body spelled.0 own, declared_plain ts (rest_none (type_faults t) (flat_map type_faults ts) none) spelled.1)

-- ---- the schema

slots_plain : (all : List DeclaredType) (ps : List PropertyDeclaration) → AllByRecursion (λ p. HasNoQuote p.name) ps → AreSlotsPlain (map (property_of all) ps)
slots_plain all [] plain = tt
slots_plain all (p ∷ ps) plain = (plain.0, slots_plain all ps plain.1)

model_plain : (all : List DeclaredType) (body : TypeBody) → IsDeclaredPlain body → IsBodyPlain (body_model all body)
model_plain all (structured is_entity base properties) plain = slots_plain all properties plain
model_plain all (enumeration e) plain = plain
model_plain all (definition underlying) plain = tt

models_plain : (all ts : List DeclaredType) → AllByRecursion (λ t. IsDeclaredPlain t.body) ts → AreTypesPlain (map (type_model all) ts)
models_plain all [] plain = tt
models_plain all (t ∷ ts) plain = (model_plain all t.body plain.0, models_plain all ts plain.1)

object_faultless : (test : Bool) (faults : List Fault) → cond test faults (not_object ∷ []) ≡ [] → faults ≡ []
object_faultless true faults none = none
object_faultless false faults none = absurd (cc)

types_faultless : (json : Data) → document_faults json ≡ [] → flat_map type_faults (types_in_order json) ≡ []
types_faultless json none =
    let declared = first_none (declaration_faults json) (all_base_faults (declared_types json)) none in
    let object = object_faultless (is_object json) (object_faults json) declared in
    let schemas = rest_none (unless (is_version (text_at (codes "$Version") json)) version) _ object in
    let few = rest_none (flat_map (namespace_faults (declared_in json)) (declared_in json)) _ schemas in
    rest_none (unless (not (nat_lt type_limit (type_count json))) too_large) (flat_map type_faults (types_in_order json)) few

pub names_are_plain : (document : List ℕ) (table : TableModel) → StandsFor document table.schema → AreNamesPlain table
names_are_plain document table stands =
    let json = stands.json in
    let spelled = ordered_spelled (types_declared json) (schemas_spelled (declared_in json) (declared_spelled json (names_spelled document json stands.is_json.0 stands.is_json.1))) in
    let declared = declared_plain (types_in_order json) (types_faultless json stands.faultless) spelled in
    names_plain table (subst (λ (s : SchemaModel). AreTypesPlain s.types) (sym stands.is_declared) (models_plain (declared_types json) (declared_types json) declared))
