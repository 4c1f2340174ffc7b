-- Laws of the reading of documents, over lists alone.
use Rattle.std.proofs.Common.{◌≡◌, ◌≢◌, ℕ, suc, ◌+◌, ◌<◌, List, [], ◌∷◌, ◌++◌, length, get_or, map, drop, Bor, String, Global, Option, Some, None, IfSome, Ordering, Less, Equal, Greater, Bool, true, false, cond, nat_eq, is_eq, refl, sym, ap, subst, ◌∙◌, string_bytes, add-one, string_cmp, codes, not, nat_lt, if◌then◌else◌}
use Rattle.std.proofs.Math.Seq.{drop-cons}
use Rattle.std.specs.Ordering.{nat_cmp, ordering_reverse, match_ordering}
use Rattle.std.specs.List.{AllByRecursion, flat_map}
use Rattle.std.specs.List.Sorted.{IsStrictlySortedBy}
use Rattle.std.specs.Map.{keys_of}
use Rattle.std.specs.BTreeMap as tree
use Rattle.std.specs.Cmp.Lexicographic.{pointwise, slice_cmp}
use Rattle.std.proofs.lemmas.Cmp.{nat_list_cmp_total}
use Rattle.std.proofs.lemmas.Slice.Eq.{bytes_eq-Decides}
use Rattle.std.proofs.lemmas.Map.Text.{is_eq-slice_cmp}
use Rattle.std.proofs.lemmas.Map.Lookups.{exact_bytes}
use Rattle.serde_json.specs.Data.{Data, Members, member}
use Rattle.serde_json.specs.View.{members_view}
use Rattle.serde_json.proofs.Views.{Entry}
use Rattle.csdl_declarations.specs.declared.declaration.Declaration.{Declaration}
use Rattle.csdl_declarations.specs.Members.{is_object, text_at, declared_in, is_read_over, declared_among, declared_of}
use Rattle.csdl_declarations.specs.DeclaredType.{PropertyDeclaration, DeclaredType, declared_property, declared_type, declared_types}
use Rattle.csdl_declarations.specs.Declarations.{TypeDeclaration, types_in_order, type_count, full_name, put_type}
use Rattle.csdl_declarations.specs.Fault.{Fault, version, not_object, too_large, unless}
use Rattle.csdl_declarations.specs.FaultView.{IsFirstOf}
use Rattle.csdl_declarations.specs.Faults.{is_version, namespace_faults, type_faults, object_faults, declaration_faults}
use Rattle.csdl_declarations.specs.private.DocumentView.{AreNamesInOrder, AreNamed, types_of, declaration_view}

-- ---- names in order

abbrev pub AllAbove : List ℕ → List (List ℕ) → Type 0
AllAbove first names = AllByRecursion (λ y. slice_cmp nat_cmp first y ≡ Less) names

pub declared_above : (b : Bool) (first k : List ℕ) (d : Data) (rest : List (List ℕ × Data)) → slice_cmp nat_cmp first k ≡ Less → AllAbove first (map (λ m. m.0) rest)
    → AllAbove first (map (λ m. m.0) (cond b rest ((k, d) ∷ rest)))
declared_above true first k d rest below above = above
declared_above false first k d rest below above = (below, above)

below_declared : (first : List ℕ) (es : List Entry) → AllByRecursion (λ y. slice_cmp nat_cmp first (string_bytes y) ≡ Less) (keys_of es)
    → AllAbove first (map (λ m. m.0) (declared_among (members_view es)))
below_declared first [] h = tt
below_declared first (e ∷ es) h = declared_above (is_read_over (string_bytes e.0)) first _ _ _ h.0 (below_declared first es h.1)

pub declared_first : (b : Bool) (k : List ℕ) (d : Data) (rest : List (List ℕ × Data)) → AllAbove k (map (λ m. m.0) rest) → AreNamesInOrder rest → AreNamesInOrder (cond b rest ((k, d) ∷ rest))
unfolding IsStrictlySortedBy
declared_first true k d rest above ordered = ordered
declared_first false k d rest above ordered = (above, ordered)

-- the members of a map that declare something have rising names
pub declared_in_order : (es : List Entry) → IsStrictlySortedBy string_cmp (keys_of es) → AreNamesInOrder (declared_among (members_view es))
unfolding IsStrictlySortedBy
declared_in_order [] h = tt
declared_in_order (e ∷ es) h = declared_first (is_read_over (string_bytes e.0)) _ _ _ (below_declared (string_bytes e.0) es h.0) (declared_in_order es h.1)

-- a member whose name is not read over is declared before the others
pub declared_kept : (name k : List ℕ) (d : Data) (ms : Members) → name ≡ k → is_read_over name ≡ false → declared_among (member k d ms) ≡ (name, d) ∷ declared_among ms
declared_kept name k d ms same kept =
    ap (λ b. if b then declared_among ms else ((k, d) ∷ declared_among ms)) (ap is_read_over (sym same) ∙ kept)
    ∙ ap (λ n. (n, d) ∷ declared_among ms) (sym same)

-- ---- faults

-- a refusal that reports the first of some faults
pub reports_first : (reported : Option Fault) (fault : Fault) (faults later : List Fault) → IfSome reported (λ t. t ≡ fault) → faults ≡ fault ∷ later → IsFirstOf faults reported
reports_first None fault faults later is first = tt
reports_first (Some t) fault faults later is first = (later, first ∙ ap (λ f. f ∷ later) (sym is))

-- the first of some faults is that of more
pub first_of_more : (reported : Option Fault) (faults more : List Fault) → IsFirstOf faults reported → IsFirstOf (faults ++ more) reported
first_of_more None faults more h = tt
first_of_more (Some t) faults more h = (h.0 ++ more, ap (λ fs. fs ++ more) h.1)

-- ---- names

pub unequal_later : (xs ys : List ℕ) → slice_cmp nat_cmp xs ys ≡ Less → pointwise nat_eq ys xs ≡ false
unequal_later xs ys below = sym (is_eq-slice_cmp ys xs) ∙ ap is_eq (nat_list_cmp_total.antisymm ys xs ∙ ap ordering_reverse below)

pub equal_itself : (xs : List ℕ) → pointwise nat_eq xs xs ≡ true
equal_itself xs = (bytes_eq-Decides xs xs).1 refl

-- ---- one step of a walk

-- the rest at an index begins with the item there
pub at_index : {X : Type 0} (xs : List X) (i : ℕ) (x : X) → i < length xs → x ≡ get_or xs i x → drop i xs ≡ x ∷ drop (i + 1) xs
at_index xs i x within is = rw (add-one, drop-cons xs i x within) (ap (λ y. y ∷ drop (suc i) xs) (sym is))

-- a fault of the first item is the first of all that are left
pub found_among : {X : Type 0} (faults : X → List Fault) (reported : Option Fault) (x : X) (rest : List X) (all : List Fault) → flat_map faults (x ∷ rest) ≡ all
    → IsFirstOf (faults x) reported → IsFirstOf all reported
found_among faults reported x rest all same h =
    let P : List Fault → Type 0 = λ fs. IsFirstOf fs reported in
    subst P same (first_of_more reported (faults x) (flat_map faults rest) h)

-- where a test fails, its fault is the first
pub unless_first : (b : Bool) (fault : Fault) (reported : Option Fault) → b ≡ false → IfSome reported (λ t. t ≡ fault) → IsFirstOf (unless b fault) reported
unless_first b fault reported fails is = reports_first reported fault (unless b fault) [] is (ap (λ v. unless v fault) fails)

pub unless_none : (b : Bool) (fault : Fault) → b ≡ true → unless b fault ≡ []
unless_none b fault holds = ap (λ v. unless v fault) holds

-- past an item without faults the others are left
pub faultless_step : {X : Type 0} (faults : X → List Fault) (x : X) (rest : List X) (all : List Fault) → faults x ≡ [] → flat_map faults (x ∷ rest) ≡ all → flat_map faults rest ≡ all
faultless_step faults x rest all none same = ap (λ fs. fs ++ flat_map faults rest) (sym none) ∙ same

-- ---- members

pub none_in_order : (o : Option Members) → o ≡ None → AreNamesInOrder (declared_of o)
unfolding IsStrictlySortedBy
none_in_order o none = subst (λ p. AreNamesInOrder (declared_of p)) (sym none) tt

-- ---- properties in order

property_names : (ms : List (List ℕ × Data)) → map (λ p. p.name) (map declared_property ms) ≡ map (λ m. m.0) ms
property_names [] = refl
property_names (m ∷ ms) = ap (λ rest. m.0 ∷ rest) (property_names ms)

-- declared properties are in order where their members are
pub in_order : (ps : List PropertyDeclaration) (ms : List (List ℕ × Data)) → ps ≡ map declared_property ms → AreNamesInOrder ms
    → IsStrictlySortedBy (slice_cmp nat_cmp) (map (λ p. p.name) ps)
in_order ps ms same ordered =
    let P : List (List ℕ) → Type 0 = λ names. IsStrictlySortedBy (slice_cmp nat_cmp) names in
    subst P (sym (ap (map (λ p. p.name)) same ∙ property_names ms)) ordered

type_names : (ts : List TypeDeclaration) → map (λ t. t.name) (map declared_type ts) ≡ map full_name ts
type_names [] = refl
type_names (t ∷ ts) = ap (λ rest. full_name t ∷ rest) (type_names ts)

-- the types of a document are in order
pub types_rise : (d : Data) (ts : List DeclaredType) → ts ≡ declared_types d → IsStrictlySortedBy (slice_cmp nat_cmp) (map full_name (types_in_order d))
    → IsStrictlySortedBy (slice_cmp nat_cmp) (map (λ t. t.name) ts)
types_rise d ts same rising =
    let P : List (List ℕ) → Type 0 = λ names. IsStrictlySortedBy (slice_cmp nat_cmp) names in
    subst P (sym (ap (map (λ t. t.name)) same ∙ type_names (types_in_order d))) rising

given_name : (namespace name : List ℕ) → namespace ++ 46 ∷ name ≢ []
given_name [] name same = cc
given_name (x ∷ xs) name same = cc

names_given : (ts : List TypeDeclaration) → AllByRecursion (λ t. t.name ≢ []) (map declared_type ts)
names_given [] = tt
names_given (t ∷ ts) = (given_name t.namespace t.name, names_given ts)

-- the types of a document have names
pub types_given : (d : Data) (ts : List DeclaredType) → ts ≡ declared_types d → AllByRecursion (λ t. t.name ≢ []) ts
types_given d ts same =
    let P : List DeclaredType → Type 0 = λ us. AllByRecursion (λ t. t.name ≢ []) us in
    subst P (sym same) (names_given (types_in_order d))

-- what holds of each item and of one more
pub each_pushed : {X : Type 0} (P : X → Type 0) (xs : List X) (x : X) → AllByRecursion P xs → P x → AllByRecursion P (xs ++ x ∷ [])
each_pushed P [] x all last = (last, tt)
each_pushed P (y ∷ ys) x all last = (all.0, each_pushed P ys x all.1 last)

-- ---- types by name

abbrev pub Named : Type 0
Named = String Global × Bor Declaration

abbrev pub insert_type : List Named → String Global → Bor Declaration → List Named
insert_type = tree.insert_entry string_cmp

put_at : (o : Ordering) (e : Named) (es : List Named) (k : String Global) (v : Bor Declaration) → slice_cmp nat_cmp (string_bytes k) (string_bytes e.0) ≡ o
    → string_bytes k ≡ full_name (declaration_view v.now) → AreNamed (e ∷ es) → AreNamed (insert_type es k v)
    → AreNamed (match_ordering o ((k, v) ∷ e ∷ es) ((e.0, v) ∷ es) (e ∷ insert_type es k v))
put_at Less e es k v is named all later = (named, all)
put_at Equal e es k v is named all later = (sym (exact_bytes (string_bytes k) (string_bytes e.0) is) ∙ named, all.1)
put_at Greater e es k v is named all later = (all.0, later)

-- an inserted declaration is kept by its whole name
pub named_put : (es : List Named) (k : String Global) (v : Bor Declaration) → string_bytes k ≡ full_name (declaration_view v.now) → AreNamed es → AreNamed (insert_type es k v)
named_put [] k v named all = (named, tt)
named_put (e ∷ es) k v named all = put_at _ e es k v refl named all (named_put es k v named all.1)

types_match : (o : Ordering) (a b c : List Named) → types_of (match_ordering o a b c) ≡ match_ordering o (types_of a) (types_of b) (types_of c)
types_match Less a b c = refl
types_match Equal a b c = refl
types_match Greater a b c = refl

-- an insertion is that of the definitions
pub types_put : (es : List Named) (k : String Global) (v : Bor Declaration) → string_bytes k ≡ full_name (declaration_view v.now) → AreNamed es
    → types_of (insert_type es k v) ≡ put_type (declaration_view v.now) (types_of es)
types_put [] k v named all = refl
types_put (e ∷ es) k v named all =
    types_match (slice_cmp nat_cmp (string_bytes k) (string_bytes e.0)) _ _ _
    ∙ ap (λ rest. match_ordering (slice_cmp nat_cmp (string_bytes k) (string_bytes e.0)) (declaration_view v.now ∷ types_of (e ∷ es)) (declaration_view v.now ∷ types_of es) (declaration_view e.1.now ∷ rest)) (types_put es k v named all.1)
    ∙ (λ j. match_ordering (slice_cmp nat_cmp (named j) (all.0 j)) (declaration_view v.now ∷ types_of (e ∷ es)) (declaration_view v.now ∷ types_of es) (declaration_view e.1.now ∷ put_type (declaration_view v.now) (types_of es)))

-- ---- a document's faults, stage by stage

abbrev pub type_stage : Data → List Fault
type_stage d = flat_map type_faults (types_in_order d)

abbrev pub count_stage : Data → List Fault
count_stage d = unless (not (nat_lt 4096 (type_count d))) too_large ++ type_stage d

abbrev pub namespace_stage : Data → List Fault
namespace_stage d = flat_map (namespace_faults (declared_in d)) (declared_in d) ++ count_stage d

pub from_version : (d : Data) (b : Bool) → is_object d ≡ true → is_version (text_at (codes "$Version") d) ≡ b → declaration_faults d ≡ unless b version ++ namespace_stage d
from_version d b object is = ap (λ v. if v then object_faults d else (not_object ∷ [])) object ∙ ap (λ v. unless v version ++ namespace_stage d) is

pub version_first : (d : Data) → is_object d ≡ true → is_version (text_at (codes "$Version") d) ≡ false → (later : List Fault) × (declaration_faults d ≡ version ∷ later)
version_first d object is = (namespace_stage d, from_version d false object is)

pub from_count : (d : Data) (b : Bool) → is_object d ≡ true → is_version (text_at (codes "$Version") d) ≡ true → flat_map (namespace_faults (declared_in d)) (declared_in d) ≡ []
    → nat_lt 4096 (type_count d) ≡ b → declaration_faults d ≡ unless (not b) too_large ++ type_stage d
from_count d b object is none count =
    from_version d true object is ∙ ap (λ fs. fs ++ count_stage d) none ∙ ap (λ v. unless (not v) too_large ++ type_stage d) count

pub count_first : (d : Data) → is_object d ≡ true → is_version (text_at (codes "$Version") d) ≡ true → flat_map (namespace_faults (declared_in d)) (declared_in d) ≡ []
    → nat_lt 4096 (type_count d) ≡ true → (later : List Fault) × (declaration_faults d ≡ too_large ∷ later)
count_first d object is none count = (type_stage d, from_count d true object is none count)
