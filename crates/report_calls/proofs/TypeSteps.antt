-- Steps of the lines of types.
use Rattle.std.proofs.Common.{◌≡◌, ◌∙◌, ℕ, zero, suc, ◌+◌, ◌<◌, ◌≤◌, List, [], ◌∷◌, ◌++◌, Bool, true, false, IsTrue, Option, None, Some, refl, sym, ap, subst, arith, codes, map, take, length, slice_get, option_and_then, append_assoc, append-nil}
use Rattle.std.proofs.lemmas.Grind.{flat_map-append}
use Rattle.std.proofs.lemmas.List.{take_all}
use Rattle.std.specs.List.{flat_map}
use Rattle.std.specs.Prelude.{IfSome, ◌↔◌, if◌then◌else◌, unwrap_or}
use Rattle.csdl_schema.specs.declared.property.Property.{Property}
use Rattle.csdl_schema.specs.declared.property.PropertyKind.{PropertyKind}
use Rattle.csdl_schema.specs.declared.property.PropertyKind.TheVariants.{Prim, Enum, Complex, Opaque, Navigation}
use Rattle.csdl_schema.specs.PropertyView.{IsReadAs, LeadsWithin, PointsWithin, target_of, type_of_kind}
use Rattle.csdl_schema.specs.SchemaModel.{HoldsType, ModelBody, PropertyModel, SchemaModel, TypeModel, structured_type, enumeration_type, type_definition, body_passes, name_if, name_in, name_of_kind, type_name_at, is_entity_type, is_enumeration, is_structured, is_kind_at, properties_at, properties_in, IsEntityAt}
use Rattle.report_calls.specs.TypeLines.{body_lines, item_text, kind_word, lines_at, lines_of_found, not_read, nullable_word, of_items, property_line, schema_lines, type_lines, words_of_type}
use Rattle.report_calls.specs.private.TypeLines.{kind_item, kind_line, kind_words}

-- ---- texts one after the other

pub joined_3 : (a b c d : List ℕ) → ((a ++ b) ++ c) ++ d ≡ a ++ (b ++ (c ++ d))
joined_3 a b c d = append_assoc (a ++ b) c d ∙ append_assoc a b (c ++ d)

pub joined_4 : (a b c d e : List ℕ) → (((a ++ b) ++ c) ++ d) ++ e ≡ a ++ (b ++ (c ++ (d ++ e)))
joined_4 a b c d e = append_assoc ((a ++ b) ++ c) d e ∙ joined_3 a b c (d ++ e)

-- ---- names by index

name_if_passes : (test : ModelBody → Bool) (t : TypeModel) → IsTrue (test t.body) → name_if test t ≡ Some t.name
name_if_passes test t passes = ap (λ (b : Bool). if b then Some t.name else None) passes

name_found : (test : ModelBody → Bool) (types : List TypeModel) (n : ℕ) → IsTrue (body_passes test (slice_get types n))
    → option_and_then (name_if test) (slice_get types n) ≡ Some (name_in (map (λ (t : TypeModel). t.name) types) n)
name_found test [] n there = let no : false ≡ true = there in absurd (cc)
name_found test (t ∷ ts) zero there = name_if_passes test t there
name_found test (t ∷ ts) (suc n) there = name_found test ts n there

-- the name of a type that is there is that at its index
named_at : (test : ModelBody → Bool) (schema : SchemaModel) (n : ℕ) → IsTrue (is_kind_at test schema n) → unwrap_or (name_of_kind test schema n) not_read ≡ type_name_at schema n
named_at test schema n there = ap (λ (o : Option (List ℕ)). unwrap_or o not_read) (name_found test schema.types n there)

-- an entity type is structured
structured_body : (body : ModelBody) → IsTrue (is_entity_type body) → IsTrue (is_structured body)
structured_body (structured_type is_entity base own) entity = refl
structured_body (enumeration_type e) entity = let no : false ≡ true = entity in absurd (cc)
structured_body (type_definition p) entity = let no : false ≡ true = entity in absurd (cc)

structured_found : (found : Option TypeModel) → IsTrue (body_passes is_entity_type found) → IsTrue (body_passes is_structured found)
structured_found None entity = let no : false ≡ true = entity in absurd (cc)
structured_found (Some t) entity = structured_body t.body entity

-- ---- the type of a property

item_is : (schema : SchemaModel) (kind : PropertyKind) (target : Option ℕ) (many : Bool) → PointsWithin schema kind → LeadsWithin schema kind target
    → kind_item schema kind target ≡ item_text (type_of_kind (type_name_at schema) kind target many)
item_is schema (Prim p) target true there leads = refl
item_is schema (Prim p) target false there leads = refl
item_is schema (Enum id) target true there leads = named_at is_enumeration schema id there
item_is schema (Enum id) target false there leads = named_at is_enumeration schema id there
item_is schema (Complex id) target true there leads = named_at is_structured schema id there
item_is schema (Complex id) target false there leads = named_at is_structured schema id there
item_is schema Opaque target many there leads = refl
item_is schema Navigation None many there leads = refl
item_is schema Navigation (Some id) true there leads = named_at is_structured schema id (structured_found (slice_get schema.types id) leads)
item_is schema Navigation (Some id) false there leads = named_at is_structured schema id (structured_found (slice_get schema.types id) leads)

words_are : (name_at : ℕ → List ℕ) (kind : PropertyKind) (target : Option ℕ) (many : Bool) → kind_words kind target ≡ words_of_type (type_of_kind name_at kind target many)
words_are name_at (Prim p) target true = refl
words_are name_at (Prim p) target false = refl
words_are name_at (Enum id) target true = refl
words_are name_at (Enum id) target false = refl
words_are name_at (Complex id) target true = refl
words_are name_at (Complex id) target false = refl
words_are name_at Opaque target many = refl
words_are name_at Navigation None many = refl
words_are name_at Navigation (Some id) true = refl
words_are name_at Navigation (Some id) false = refl

item_read : (schema : SchemaModel) (d : PropertyModel) (p : Property) → IsReadAs schema d p → kind_item schema p.kind (target_of p) ≡ item_text d.type_of
item_read schema d p read = item_is schema p.kind (target_of p) p.many read.there read.leads ∙ ap item_text read.type_of

words_read : (schema : SchemaModel) (d : PropertyModel) (p : Property) → IsReadAs schema d p → kind_words p.kind (target_of p) ≡ words_of_type d.type_of
words_read schema d p read = words_are (type_name_at schema) p.kind (target_of p) p.many ∙ ap words_of_type read.type_of

abbrev joined : (name item words : List ℕ) (many nullable : Bool) → List ℕ
joined name item words many nullable = codes "  " ++ (name ++ (32 ∷ (of_items many item ++ (nullable_word nullable ++ (words ++ 10 ∷ [])))))

joined_same : (n n' i i' w w' : List ℕ) (m m' z z' : Bool) → n ≡ n' → i ≡ i' → w ≡ w' → m ≡ m' → z ≡ z' → joined n i w m z ≡ joined n' i' w' m' z'
joined_same n n' i i' w w' m m' z z' of_n of_i of_w of_m of_z =
    ap (λ (x : List ℕ). joined x i w m z) of_n
    ∙ ap (λ (x : List ℕ). joined n' x w m z) of_i
    ∙ ap (λ (x : List ℕ). joined n' i' x m z) of_w
    ∙ ap (λ (x : Bool). joined n' i' w' x z) of_m
    ∙ ap (λ (x : Bool). joined n' i' w' m' x) of_z

-- the line of a property that is read as declared
pub line_read : (schema : SchemaModel) (d : PropertyModel) (p : Property) (name : List ℕ) → IsReadAs schema d p → d.name ≡ name → kind_line schema name p ≡ property_line d
line_read schema d p name read named =
    joined_same name d.name (kind_item schema p.kind (target_of p)) (item_text d.type_of) (kind_words p.kind (target_of p)) (words_of_type d.type_of) p.many d.many p.nullable d.nullable
    (sym named) (item_read schema d p read) (words_read schema d p read) read.many read.nullable

-- ---- the lines of properties, slot by slot

-- the property at a slot, with its line
taken_more : (schema : SchemaModel) (ps : List PropertyModel) (slot : ℕ) (name : List ℕ) (p : Property) → slice_get (map (λ (q : PropertyModel). q.name) ps) slot ≡ Some name
    → IfSome (slice_get ps slot) (λ d. IsReadAs schema d p)
    → (d : PropertyModel) × (kind_line schema name p ≡ property_line d) × (take (suc slot) ps ≡ take slot ps ++ d ∷ [])
taken_more schema [] slot name p at read = let none : None ≡ Some name = at in absurd (cc)
taken_more schema (d ∷ ps) zero name p at read =
    let some : Some d.name ≡ Some name = at in let same : d.name ≡ name = cc in (d, line_read schema d p name read same, refl)
taken_more schema (q ∷ ps) (suc slot) name p at read =
    let more = taken_more schema ps slot name p at read in
    (more.0, more.1, ap (λ (xs : List PropertyModel). q ∷ xs) more.2)

-- a line more
pub line_more : (schema : SchemaModel) (ps : List PropertyModel) (slot : ℕ) (name before text text' : List ℕ) (p : Property) → slice_get (map (λ (q : PropertyModel). q.name) ps) slot ≡ Some name
    → IfSome (slice_get ps slot) (λ d. IsReadAs schema d p) → text ≡ before ++ flat_map property_line (take slot ps) → text' ≡ text ++ kind_line schema name p
    → text' ≡ before ++ flat_map property_line (take (slot + 1) ps)
line_more schema ps slot name before text text' p at read is more =
    let step = taken_more schema ps slot name p at read in
    let on : slot + 1 ≡ suc slot = omega arith in
    let front : take (slot + 1) ps ≡ take slot ps ++ step.0 ∷ [] = ap (λ (k : ℕ). take k ps) on ∙ step.2 in
    let one : flat_map property_line (step.0 ∷ []) ≡ property_line step.0 = append-nil (property_line step.0) in
    let all : flat_map property_line (take (slot + 1) ps) ≡ flat_map property_line (take slot ps) ++ property_line step.0 =
    ap (flat_map property_line) front ∙ flat_map-append property_line (take slot ps) (step.0 ∷ []) ∙ ap (λ (t : List ℕ). flat_map property_line (take slot ps) ++ t) one in
    more ∙ ap (λ (t : List ℕ). t ++ kind_line schema name p) is ∙ ap (λ (t : List ℕ). (before ++ flat_map property_line (take slot ps)) ++ t) step.1
    ∙ append_assoc before (flat_map property_line (take slot ps)) (property_line step.0) ∙ ap (λ (t : List ℕ). before ++ t) (sym all)

pub lines_all : (ps : List PropertyModel) (slots : ℕ) (before text : List ℕ) → length ps ≤ slots → text ≡ before ++ flat_map property_line (take slots ps) → text ≡ before ++ flat_map property_line ps
lines_all ps slots before text all is = is ∙ ap (λ (qs : List PropertyModel). before ++ flat_map property_line qs) (take_all slots ps all)

-- ---- the lines of types, index by index

type_taken : (ts : List TypeModel) (n : ℕ) (t : TypeModel) → slice_get ts n ≡ Some t → take (suc n) ts ≡ take n ts ++ t ∷ []
type_taken [] n t at = let none : None ≡ Some t = at in absurd (cc)
type_taken (u ∷ ts) zero t at = let some : Some u ≡ Some t = at in let same : u ≡ t = cc in ap (λ (v : TypeModel). v ∷ []) same
type_taken (u ∷ ts) (suc n) t at = ap (λ (xs : List TypeModel). u ∷ xs) (type_taken ts n t at)

past : (ts : List TypeModel) (n : ℕ) → slice_get ts n ≡ None → ¬ (n < length ts)
past [] n at inside = omega arith
past (t ∷ ts) zero at inside = let some : Some t ≡ None = at in absurd (cc)
past (t ∷ ts) (suc n) at inside = past ts n at (omega arith)

no_body : (schema : SchemaModel) (name : List ℕ) (body : ModelBody) → ¬ IsTrue (is_structured body) → body_lines schema name body ≡ []
no_body schema name (structured_type is_entity base own) other = absurd (other refl)
no_body schema name (enumeration_type e) other = refl
no_body schema name (type_definition p) other = refl

found_more : (schema : SchemaModel) (n : ℕ) (found : Option TypeModel) (text text' : List ℕ) → slice_get schema.types n ≡ found → text ≡ flat_map (type_lines schema) (take n schema.types)
    → n < length schema.types → text' ≡ text ++ lines_of_found schema found → text' ≡ flat_map (type_lines schema) (take (n + 1) schema.types)
found_more schema n None text text' at is inside more = absurd (past schema.types n at inside)
found_more schema n (Some t) text text' at is inside more =
    let on : n + 1 ≡ suc n = omega arith in
    let front : take (n + 1) schema.types ≡ take n schema.types ++ t ∷ [] = ap (λ (k : ℕ). take k schema.types) on ∙ type_taken schema.types n t at in
    let all : flat_map (type_lines schema) (take (n + 1) schema.types) ≡ flat_map (type_lines schema) (take n schema.types) ++ type_lines schema t =
    ap (flat_map (type_lines schema)) front ∙ flat_map-append (type_lines schema) (take n schema.types) (t ∷ [])
    ∙ ap (λ (l : List ℕ). flat_map (type_lines schema) (take n schema.types) ++ l) (append-nil (type_lines schema t)) in
    more ∙ ap (λ (l : List ℕ). l ++ type_lines schema t) is ∙ sym all

-- the lines of one type more
pub type_more : (schema : SchemaModel) (n : ℕ) (text text' : List ℕ) → n < length schema.types → text ≡ flat_map (type_lines schema) (take n schema.types) → text' ≡ text ++ lines_at schema n
    → text' ≡ flat_map (type_lines schema) (take (n + 1) schema.types)
type_more schema n text text' inside is more = found_more schema n (slice_get schema.types n) text text' refl is inside more

-- a type of another kind has no lines
no_lines : (schema : SchemaModel) (found : Option TypeModel) → ¬ IsTrue (body_passes is_structured found) → lines_of_found schema found ≡ []
no_lines schema None other = refl
no_lines schema (Some t) other = no_body schema t.name t.body other

pub nothing_more : (schema : SchemaModel) (n : ℕ) (text : List ℕ) → ¬ HoldsType schema n → text ≡ text ++ lines_at schema n
nothing_more schema n text other =
    sym (append-nil text) ∙ ap (λ (l : List ℕ). text ++ l) (sym (no_lines schema (slice_get schema.types n) other))

pub types_all : (schema : SchemaModel) (n : ℕ) (text : List ℕ) → length schema.types ≤ n → text ≡ flat_map (type_lines schema) (take n schema.types) → text ≡ schema_lines schema
types_all schema n text all is = is ∙ ap (flat_map (type_lines schema)) (take_all n schema.types all)

-- ---- the first line of a type

same_bool : (a b : Bool) → (IsTrue a ↔ IsTrue b) → a ≡ b
same_bool true true same = refl
same_bool false false same = refl
same_bool true false same = let no : false ≡ true = same.0 refl in absurd (cc)
same_bool false true same = let no : false ≡ true = same.1 refl in absurd (cc)

abbrev headed : SchemaModel → Bool → (name at : List ℕ) → List ℕ
headed schema entity name at = kind_word entity ++ (name ++ (10 ∷ flat_map property_line (properties_in schema.types at)))

headed_same : (schema : SchemaModel) (e e' : Bool) (n n' a a' : List ℕ) → e ≡ e' → n ≡ n' → a ≡ a' → headed schema e n a ≡ headed schema e' n' a'
headed_same schema e e' n n' a a' of_e of_n of_a =
    ap (λ (x : Bool). headed schema x n a) of_e
    ∙ ap (λ (x : List ℕ). headed schema e' x a) of_n
    ∙ ap (λ (x : List ℕ). headed schema e' n' x) of_a

head_body : (schema : SchemaModel) (type_name : List ℕ) (body : ModelBody) (at : List ℕ) (entity : Bool) (name : List ℕ) → IsTrue (is_structured body) → (IsTrue entity ↔ IsTrue (is_entity_type body))
    → (if is_structured body then Some type_name else None) ≡ Some at → name ≡ unwrap_or (if is_structured body then Some type_name else None) []
    → body_lines schema type_name body ≡ headed schema entity name at
head_body schema type_name (structured_type is_entity base own) at entity name there same named is =
    let found : Some type_name ≡ Some at = named in
    let at_is : type_name ≡ at = cc in
    let name_is : name ≡ type_name = is in
    headed_same schema is_entity entity type_name name type_name at (sym (same_bool entity is_entity same)) (sym name_is) at_is
head_body schema type_name (enumeration_type e) at entity name there same named is = let no : false ≡ true = there in absurd (cc)
head_body schema type_name (type_definition p) at entity name there same named is = let no : false ≡ true = there in absurd (cc)

head_found : (schema : SchemaModel) (found : Option TypeModel) (at : List ℕ) (entity : Bool) (name : List ℕ) → IsTrue (body_passes is_structured found)
    → (IsTrue entity ↔ IsTrue (body_passes is_entity_type found)) → option_and_then (name_if is_structured) found ≡ Some at → name ≡ unwrap_or (option_and_then (name_if is_structured) found) []
    → lines_of_found schema found ≡ headed schema entity name at
head_found schema None at entity name there same named is = let no : false ≡ true = there in absurd (cc)
head_found schema (Some t) at entity name there same named is = head_body schema t.name t.body at entity name there same named is

-- the lines of a type are its first one, and those of its properties
pub type_headed : (schema : SchemaModel) (n : ℕ) (entity : Bool) (name : List ℕ) → HoldsType schema n → (IsTrue entity ↔ IsEntityAt schema n) → name ≡ unwrap_or (name_of_kind is_structured schema n) []
    → kind_word entity ++ (name ++ (10 ∷ flat_map property_line (properties_at schema n))) ≡ lines_at schema n
type_headed schema n entity name there same is =
    sym (head_found schema (slice_get schema.types n) (type_name_at schema n) entity name there same (name_found is_structured schema.types n there) is)
