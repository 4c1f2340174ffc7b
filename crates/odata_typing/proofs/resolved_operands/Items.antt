-- The items of a list after an operand of an enumeration.
use Rattle.odata_typing.proofs.Common.{◌≡◌, refl, sym, subst, inl, inr, ◌⊎◌, ℕ, List, [], ◌∷◌, ◌++◌, Tree, trees_of_list, ExprType, single, enumeration, SchemaModel, Slots, boolean_type, string_type, IsResolvedBy, LacksNumber, Side, quoting, expr_type, OneLacksNumber, BeforeList, quoted_text, sides_of, AreTyped, Scope, Typed, FlatTree, CheckedNode, LawsBelow, AreInRow, quoted_in}
use Rattle.odata_syntax.specs.declared.binary_operator.ComparisonOperator.{ComparisonOperator}
use Rattle.odata_signatures.specs.CollectionTyped.{InListTyped, IsCollection, IsItemFor}
use Rattle.odata_signatures.specs.ComparableTypes.{AreComparable}
use Rattle.odata_typing.specs.declared.in_list.ItemsFit.{ItemsFit}
use Rattle.odata_typing.specs.private.Items.{AllItemsFor, AreItemsFit, AreItemsPut, AreItemsRead, IsItemPut, IsItemRead, IsUnreadLeft, OneLacks, worse_fit}
use Rattle.odata_typing.proofs.resolved_operands.Numbers.{is_read, reading}

-- ---- one item

-- one that goes by its type
pub unread_fit : (slots : Slots) (left : ExprType) (item : Side) → ¬ IsResolvedBy left item.quoted → AreComparable left item.type_of → AreItemsFit slots left (item ∷ []) ItemsFit.All
unread_fit slots left item unread comparable =
    ((inl comparable, tt), (λ lacks. elim lacks [ inl one ↦ unread one.read | inr none ↦ none ]))

pub unread_refused : (slots : Slots) (left : ExprType) (item : Side) → ¬ IsResolvedBy left item.quoted → ¬ AreComparable left item.type_of → AreItemsFit slots left (item ∷ []) ItemsFit.Refused
unread_refused slots left item unread differ = (
  (λ all. elim all.0 [ inl comparable ↦ differ comparable | inr number ↦ unread (is_read slots left item.quoted number.0 number.1) ]),
  (λ lacks. elim lacks [ inl one ↦ unread one.read | inr none ↦ none ]),
)

-- ---- items, and one more

beside_more : (slots : Slots) (left : ExprType) (items : List Side) (item : Side) → AllItemsFor slots left items → AllItemsFor slots left (item ∷ []) → AllItemsFor slots left (items ++ item ∷ [])
beside_more slots left [] item all one = one
beside_more slots left (x ∷ items) item all one = (all.0, beside_more slots left items item all.1 one)

resolved_front : (slots : Slots) (left : ExprType) (items : List Side) (item : Side) → AllItemsFor slots left (items ++ item ∷ []) → AllItemsFor slots left items × AllItemsFor slots left (item ∷ [])
resolved_front slots left [] item all = (tt, all)
resolved_front slots left (x ∷ items) item all =
    let more = resolved_front slots left items item all.1 in ((all.0, more.0), more.1)

lacks_front : (slots : Slots) (left : ExprType) (items : List Side) (item : Side) → OneLacks slots left (items ++ item ∷ []) → OneLacks slots left items ⊎ OneLacks slots left (item ∷ [])
lacks_front slots left [] item lacks = inr lacks
lacks_front slots left (x ∷ items) item (inl one) = inl (inl one)
lacks_front slots left (x ∷ items) item (inr more) = elim (lacks_front slots left items item more) [ inl front ↦ inl (inr front) | inr last ↦ inr last ]

front_lacks : (slots : Slots) (left : ExprType) (items : List Side) (item : Side) → OneLacks slots left items → OneLacks slots left (items ++ item ∷ [])
front_lacks slots left [] item lacks = absurd lacks
front_lacks slots left (x ∷ items) item (inl one) = inl one
front_lacks slots left (x ∷ items) item (inr more) = inr (front_lacks slots left items item more)

last_lacks : (slots : Slots) (left : ExprType) (items : List Side) (item : Side) → OneLacks slots left (item ∷ []) → OneLacks slots left (items ++ item ∷ [])
last_lacks slots left [] item lacks = lacks
last_lacks slots left (x ∷ items) item lacks = inr (last_lacks slots left items item lacks)

neither_lacks : (slots : Slots) (left : ExprType) (items : List Side) (item : Side) → ¬ OneLacks slots left items → ¬ OneLacks slots left (item ∷ []) → ¬ OneLacks slots left (items ++ item ∷ [])
neither_lacks slots left items item front last lacks = elim (lacks_front slots left items item lacks) [ inl one ↦ front one | inr one ↦ last one ]

pub fit_more : (slots : Slots) (left : ExprType) (items : List Side) (item : Side) (fit own : ItemsFit) → AreItemsFit slots left items fit → AreItemsFit slots left (item ∷ []) own
    → AreItemsFit slots left (items ++ item ∷ []) (worse_fit fit own)
fit_more slots left items item ItemsFit.All ItemsFit.All a b = (beside_more slots left items item a.0 b.0, neither_lacks slots left items item a.1 b.1)
fit_more slots left items item ItemsFit.All ItemsFit.Refused a b = ((λ all. b.0 (resolved_front slots left items item all).1), neither_lacks slots left items item a.1 b.1)
fit_more slots left items item ItemsFit.All ItemsFit.Unknown a b = last_lacks slots left items item b
fit_more slots left items item ItemsFit.All ItemsFit.OutOfMemory a b = tt
fit_more slots left items item ItemsFit.Refused ItemsFit.Unknown a b = last_lacks slots left items item b
fit_more slots left items item ItemsFit.Refused ItemsFit.OutOfMemory a b = tt
fit_more slots left items item ItemsFit.Refused _ a b = ((λ all. a.0 (resolved_front slots left items item all).0), neither_lacks slots left items item a.1 b.1)
fit_more slots left items item ItemsFit.Unknown own a b = front_lacks slots left items item a
fit_more slots left items item ItemsFit.OutOfMemory own a b = tt

-- ---- items that are read, and one more

item_moved : (slots : Slots) (schema : SchemaModel) (left : ExprType) (found : CheckedNode) (old new then : FlatTree) (from place : ℕ) → from ≡ place → new ≡ old
    → IsItemRead slots left (quoting (quoted_in new place found) (expr_type schema found.edm_type)) new place found then
    → IsItemRead slots left (quoting (quoted_in old from found) (expr_type schema found.edm_type)) old from found then
item_moved slots schema left found old new then from place at same read =
    subst (λ (k : ℕ). IsItemRead slots left (quoting (quoted_in old k found) (expr_type schema found.edm_type)) old k found then) (sym at)
    (subst (λ (list : FlatTree). IsItemRead slots left (quoting (quoted_in list place found) (expr_type schema found.edm_type)) list place found then) same read)

read_front : (slots : Slots) (schema : SchemaModel) (left : ExprType) (nodes seen : List CheckedNode) (found : CheckedNode) (old new then : FlatTree) (from place : ℕ)
    → AreInRow nodes seen from place
    → AreItemsRead slots schema left old from seen new
    → IsItemRead slots left (quoting (quoted_in new place found) (expr_type schema found.edm_type)) new place found then
    → AreItemsRead slots schema left old from (seen ++ found ∷ []) then
read_front slots schema left nodes [] found old new then from place at same read =
    (then, item_moved slots schema left found old new then from place at same read, refl)
read_front slots schema left nodes (s ∷ seen) found old new then from place row are read =
    (are.0, are.1, read_front slots schema left nodes seen found are.0 new then s.stop place row.2 are.2 read)

pub read_more : (slots : Slots) (schema : SchemaModel) (left : ExprType) (nodes seen : List CheckedNode) (found : CheckedNode) (old new then : FlatTree) (from place : ℕ) (fit own : ItemsFit)
    → AreInRow nodes seen from place
    → AreItemsPut slots schema left old from seen new fit
    → IsItemPut slots left (quoting (quoted_in new place found) (expr_type schema found.edm_type)) new place found then own
    → AreItemsPut slots schema left old from (seen ++ found ∷ []) then (worse_fit fit own)
read_more slots schema left nodes seen found old new then from place ItemsFit.All ItemsFit.All row are is = read_front slots schema left nodes seen found old new then from place row are is
read_more slots schema left nodes seen found old new then from place ItemsFit.All _ row are is = tt
read_more slots schema left nodes seen found old new then from place ItemsFit.Refused ItemsFit.All row are is = tt
read_more slots schema left nodes seen found old new then from place ItemsFit.Refused _ row are is = tt
read_more slots schema left nodes seen found old new then from place ItemsFit.Unknown own row are is = tt
read_more slots schema left nodes seen found old new then from place ItemsFit.OutOfMemory own row are is = tt

-- ---- what is lacking

pub one_lacks : (slots : Slots) (left : ExprType) (trees : List Tree) (types : List ExprType) → OneLacks slots left (sides_of (trees_of_list trees) types)
    → OneLacksNumber slots left (trees_of_list trees)
one_lacks slots left [] types lacks = absurd lacks
one_lacks slots left (tree ∷ trees) [] lacks = absurd lacks
one_lacks slots left (tree ∷ trees) (type ∷ types) lacks = elim lacks [ inl one ↦ inl one | inr more ↦ inr (one_lacks slots left trees types more) ]

pub lacks_one : (slots : Slots) (root : List ℕ) (scope : Scope) (left : ExprType) (trees : List Tree) (types : List ExprType) → AreTyped slots root scope (trees_of_list trees) types
    → OneLacksNumber slots left (trees_of_list trees) → OneLacks slots left (sides_of (trees_of_list trees) types)
lacks_one slots root scope left [] types typed lacks = absurd lacks
lacks_one slots root scope left (tree ∷ trees) [] typed lacks = absurd typed
lacks_one slots root scope left (tree ∷ trees) (type ∷ types) typed lacks = elim lacks [
  | inl one ↦ inl one
  | inr more ↦ inr (lacks_one slots root scope left trees types typed.1 more)
]

pub unread_lacks_none : (slots : Slots) (left : ExprType) (trees : List Tree) → IsUnreadLeft left → ¬ OneLacksNumber slots left (trees_of_list trees)
unread_lacks_none slots left [] unread lacks = lacks
unread_lacks_none slots left (tree ∷ trees) unread lacks = elim lacks [
  | inl one ↦ unread (quoted_text tree) one.read
  | inr more ↦ unread_lacks_none slots left trees unread more
]

-- ---- the types

pub numbered_typed : (slots : Slots) (l : Tree) (left : ExprType) (trees : List Tree) (types : List ExprType) → ¬ IsCollection left
    → AllItemsFor slots left (sides_of (trees_of_list trees) types) → BeforeList (InListTyped slots) l (trees_of_list trees) left types boolean_type
numbered_typed slots l left trees types other beside = (other, beside, refl)

item_untyped : (laws : LawsBelow) (slots : Slots) (root : List ℕ) (scope : Scope) (left : ExprType) (tree : Tree) (type : ExprType) → Typed slots root scope tree type
    → LacksNumber slots left (quoted_text tree) → ¬ IsItemFor slots left (quoting (quoted_text tree) type)
item_untyped laws slots root scope left tree type typed lacks (inl comparable) =
    let is = reading left (quoted_text tree) lacks.read in
    let same : type ≡ string_type = laws.quotes slots root scope tree is.spelling type is.quotes typed in
    (laws.apart ComparisonOperator.Eq is.name).0
    (subst (λ (t : ExprType). AreComparable (single (enumeration is.name)) t) same (subst (λ (t : ExprType). AreComparable t type) is.type_is comparable))
item_untyped laws slots root scope left tree type typed lacks (inr number) = lacks.none number

-- next to a text that stands for no number nothing is typed
lacks_untyped : (laws : LawsBelow) (slots : Slots) (root : List ℕ) (scope : Scope) (left : ExprType) (trees : List Tree) (types : List ExprType)
    → AreTyped slots root scope (trees_of_list trees) types → OneLacks slots left (sides_of (trees_of_list trees) types)
    → ¬ AllItemsFor slots left (sides_of (trees_of_list trees) types)
lacks_untyped laws slots root scope left [] types typed lacks beside = lacks
lacks_untyped laws slots root scope left (tree ∷ trees) [] typed lacks beside = lacks
lacks_untyped laws slots root scope left (tree ∷ trees) (type ∷ types) typed lacks beside = elim lacks [
  | inl one ↦ item_untyped laws slots root scope left tree type typed.0 one beside.0
  | inr more ↦ lacks_untyped laws slots root scope left trees types typed.1 more beside.1
]

pub unknown_untyped : (laws : LawsBelow) (slots : Slots) (root : List ℕ) (scope : Scope) (l : Tree) (left : ExprType) (trees : List Tree) (types : List ExprType) (type : ExprType)
    → AreTyped slots root scope (trees_of_list trees) types → OneLacks slots left (sides_of (trees_of_list trees) types)
    → ¬ BeforeList (InListTyped slots) l (trees_of_list trees) left types type
unknown_untyped laws slots root scope l left trees types type typed lacks makes = lacks_untyped laws slots root scope left trees types typed lacks makes.1
