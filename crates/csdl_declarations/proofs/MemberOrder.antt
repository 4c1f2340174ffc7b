-- Members of JSON that was read are in the byte order of their names, and so are the declared types and their
-- properties.
use Rattle.std.proofs.Common.{◌≡◌, ℕ, List, [], ◌∷◌, ◌++◌, map, Option, Some, None, IfSome, option_map, option_and_then, Ordering, Less, Equal, Greater, Bool, true, false, cond, refl, ap, subst, ◌∙◌}
use Rattle.std.specs.Ordering.{nat_cmp, ordering_reverse, match_ordering}
use Rattle.std.specs.List.{AllByRecursion, flat_map}
use Rattle.std.specs.List.Sorted.{IsStrictlySortedBy}
use Rattle.std.specs.Cmp.Lexicographic.{slice_cmp}
use Rattle.std.proofs.lemmas.Cmp.{nat_list_cmp_total}
use Rattle.json.specs.Lex.{tokens}
use Rattle.json.specs.Json as json
use Rattle.serde_json.specs.Data.{Num, Data, null, boolean, number, string, array, object, Items, Members, no_members, member, put}
use Rattle.serde_json.specs.Read.{number_of, of_json, of_items, of_members, max_depth, read}
use Rattle.csdl_declarations.specs.declared.type_kind.TypeKind.{TypeKind}
use Rattle.csdl_declarations.specs.declared.type_kind.TypeKind.TheVariants as kind
use Rattle.csdl_declarations.specs.Members.{is_read_over, declared_among, declared_in, DeclaresInOrder}
use Rattle.csdl_declarations.specs.TypeKind.{is_other_kind, type_kind_in}
use Rattle.csdl_declarations.specs.Declarations.{TypeDeclaration, full_name, type_in, types_among, types_in, types_declared, put_type, in_name_order, types_in_order}
use Rattle.csdl_declarations.specs.DeclaredType.{body_of_kind, declared_type, declared_types, IsBodyInOrder, AreInOrder}
use Rattle.csdl_declarations.specs.private.DocumentView.{AreNamesInOrder}
use Rattle.csdl_declarations.proofs.Reading.{AllAbove, declared_above, declared_first, in_order, types_given, types_rise}
use Rattle.csdl_declarations.proofs.NameOrder.{by_name}

-- ---- members in order

abbrev IsBelow : List ℕ → Members → Type 0
IsBelow first no_members = Unit {0}
IsBelow first (member k d ms) = (slice_cmp nat_cmp first k ≡ Less) × IsBelow first ms

-- the names of an object's members rise, and so in each member that is an object
abbrev mutual
  IsOrdered : Data → Type 0
  IsOrdered null = Unit {0}
  IsOrdered (boolean b) = Unit {0}
  IsOrdered (number n) = Unit {0}
  IsOrdered (string s) = Unit {0}
  IsOrdered (array ds) = Unit {0}
  IsOrdered (object ms) = AreOrdered ms

  AreOrdered : Members → Type 0
  AreOrdered no_members = Unit {0}
  AreOrdered (member k d ms) = IsBelow k ms × (IsOrdered d × AreOrdered ms)

put_below : (first k : List ℕ) (d : Data) (ms : Members) → slice_cmp nat_cmp first k ≡ Less → IsBelow first ms → IsBelow first (put k d ms)
put_below first k d no_members below all = (below, tt)
put_below first k d (member l e ms) below all = by (slice_cmp nat_cmp k l) (put_below first k d ms below all.1)
  where
    by : (o : Ordering) → IsBelow first (put k d ms) → IsBelow first (match_ordering o (member k d (member l e ms)) (member l d ms) (member l e (put k d ms)))
    by Less later = (below, all)
    by Equal later = all
    by Greater later = (all.0, later)

-- what is below a name is below those above it
lower : (m n : List ℕ) (ms : Members) → slice_cmp nat_cmp m n ≡ Less → IsBelow n ms → IsBelow m ms
lower m n no_members below all = tt
lower m n (member k d ms) below all = (nat_list_cmp_total.trans m n k below all.0, lower m n ms below all.1)

put_ordered : (k : List ℕ) (d : Data) (ms : Members) → IsOrdered d → AreOrdered ms → AreOrdered (put k d ms)
put_ordered k d no_members here all = (tt, (here, tt))
put_ordered k d (member l e ms) here all = by (slice_cmp nat_cmp k l) refl (put_ordered k d ms here all.1.1)
  where
    by : (o : Ordering) → slice_cmp nat_cmp k l ≡ o → AreOrdered (put k d ms) → AreOrdered (match_ordering o (member k d (member l e ms)) (member l d ms) (member l e (put k d ms)))
    by Less is later = ((is, lower k l ms is all.0), (here, all))
    by Equal is later = (all.0, (here, all.1.1))
    by Greater is later = (put_below l k d ms (nat_list_cmp_total.antisymm l k ∙ ap ordering_reverse is) all.0, (all.1.0, later))

-- ---- JSON that was read

each_number : (o : Option Num) → IfSome (option_map number o) IsOrdered
each_number None = tt
each_number (Some n) = tt

each_array : (o : Option Items) → IfSome (option_map array o) IsOrdered
each_array None = tt
each_array (Some ds) = tt

each_object : (o : Option Members) → IfSome o AreOrdered → IfSome (option_map object o) IsOrdered
each_object None h = tt
each_object (Some ms) h = h

then_members : (o : Option Data) (f : Data → Option Members) → IfSome o IsOrdered → ((d : Data) → IsOrdered d → IfSome (f d) AreOrdered) → IfSome (option_and_then f o) AreOrdered
then_members None f h further = tt
then_members (Some d) f h further = further d h

mutual
  ordered_value : (j : json.Json) → IfSome (of_json j) IsOrdered
  ordered_value json.null = tt
  ordered_value (json.boolean b) = tt
  ordered_value (json.number s) = each_number (number_of s)
  ordered_value (json.string s) = tt
  ordered_value (json.array js) = each_array (of_items js)
  ordered_value (json.object ms) = each_object (of_members ms no_members) (ordered_members ms no_members tt)

  ordered_members : (ms : json.Members) (found : Members) → AreOrdered found → IfSome (of_members ms found) AreOrdered
  ordered_members json.no_members found ordered = ordered
  ordered_members (json.member k j ms) found ordered =
      then_members (of_json j) (λ d. of_members ms (put k d found)) (ordered_value j) (λ d here. ordered_members ms (put k d found) (put_ordered k d found here ordered))

ordered_read : (text : List ℕ) (d : Data) → read text ≡ Some d → IsOrdered d
ordered_read text d is = subst (λ o. IfSome o IsOrdered) is (each (option_and_then (λ p. json.if_last p.0 p.1) (json.value max_depth (tokens text))))
  where
    each : (o : Option json.Json) → IfSome (option_and_then of_json o) IsOrdered
    each None = tt
    each (Some j) = ordered_value j

-- ---- declared members

above_among : (first : List ℕ) (ms : Members) → IsBelow first ms → AllAbove first (map (λ m. m.0) (declared_among ms))
above_among first no_members h = tt
above_among first (member k d ms) h = declared_above (is_read_over k) first k d (declared_among ms) h.0 (above_among first ms h.1)

names_among : (ms : Members) → AreOrdered ms → AreNamesInOrder (declared_among ms)
unfolding IsStrictlySortedBy
names_among no_members h = tt
names_among (member k d ms) h = declared_first (is_read_over k) k d (declared_among ms) (above_among k ms h.0) (names_among ms h.1.1)

names_in : (d : Data) → IsOrdered d → AreNamesInOrder (declared_in d)
unfolding IsStrictlySortedBy
names_in null h = tt
names_in (boolean b) h = tt
names_in (number n) h = tt
names_in (string s) h = tt
names_in (array ds) h = tt
names_in (object ms) h = names_among ms h

abbrev AllOrdered : List (List ℕ × Data) → Type 0
AllOrdered ms = AllByRecursion (λ m. IsOrdered m.1) ms

values_among : (ms : Members) → AreOrdered ms → AllOrdered (declared_among ms)
values_among no_members h = tt
values_among (member k d ms) h = by (is_read_over k) (values_among ms h.1.1)
  where
    by : (b : Bool) → AllOrdered (declared_among ms) → AllOrdered (cond b (declared_among ms) ((k, d) ∷ declared_among ms))
    by true later = later
    by false later = (h.1.0, later)

values_in : (d : Data) → IsOrdered d → AllOrdered (declared_in d)
values_in null h = tt
values_in (boolean b) h = tt
values_in (number n) h = tt
values_in (string s) h = tt
values_in (array ds) h = tt
values_in (object ms) h = values_among ms h

-- ---- types

abbrev AreTypesOrdered : List TypeDeclaration → Type 0
AreTypesOrdered ts = AllByRecursion (λ t. IsOrdered t.body) ts

types_among_ordered : (namespace : List ℕ) (alias : Option (List ℕ)) (ms : List (List ℕ × Data)) → AllOrdered ms → AreTypesOrdered (types_among namespace alias ms)
types_among_ordered namespace alias [] all = tt
types_among_ordered namespace alias (m ∷ ms) all = by (is_other_kind m.1) (types_among_ordered namespace alias ms all.1)
  where
    by : (b : Bool) → AreTypesOrdered (types_among namespace alias ms) → AreTypesOrdered (cond b (types_among namespace alias ms) (type_in namespace alias m ∷ types_among namespace alias ms))
    by true later = later
    by false later = (all.0, later)

both_ordered : (ts us : List TypeDeclaration) → AreTypesOrdered ts → AreTypesOrdered us → AreTypesOrdered (ts ++ us)
both_ordered [] us here there = there
both_ordered (t ∷ ts) us here there = (here.0, both_ordered ts us here.1 there)

types_of_schemas : (ms : List (List ℕ × Data)) → AllOrdered ms → AreTypesOrdered (flat_map types_in ms)
types_of_schemas [] all = tt
types_of_schemas (m ∷ ms) all =
    both_ordered (types_in m) (flat_map types_in ms) (types_among_ordered m.0 _ (declared_in m.1) (values_in m.1 all.0)) (types_of_schemas ms all.1)

put_type_ordered : (t : TypeDeclaration) (us : List TypeDeclaration) → IsOrdered t.body → AreTypesOrdered us → AreTypesOrdered (put_type t us)
put_type_ordered t [] here all = (here, tt)
put_type_ordered t (u ∷ us) here all = by (slice_cmp nat_cmp (full_name t) (full_name u)) (put_type_ordered t us here all.1)
  where
    by : (o : Ordering) → AreTypesOrdered (put_type t us) → AreTypesOrdered (match_ordering o (t ∷ u ∷ us) (t ∷ us) (u ∷ put_type t us))
    by Less later = (here, all)
    by Equal later = (here, all.1)
    by Greater later = (all.0, later)

in_name_order_ordered : (ts : List TypeDeclaration) → AreTypesOrdered ts → AreTypesOrdered (in_name_order ts)
in_name_order_ordered [] all = tt
in_name_order_ordered (t ∷ ts) all = put_type_ordered t (in_name_order ts) all.0 (in_name_order_ordered ts all.1)

-- ---- what objects declare

pub namespaces_ordered : (text : List ℕ) (d : Data) → read text ≡ Some d → DeclaresInOrder d
namespaces_ordered text d is = names_in d (ordered_read text d is)

each_schema : (ms : List (List ℕ × Data)) → AllOrdered ms → AllByRecursion (λ m. DeclaresInOrder m.1) ms
each_schema [] all = tt
each_schema (m ∷ ms) all = (names_in m.1 all.0, each_schema ms all.1)

pub schemas_ordered : (text : List ℕ) (d : Data) → read text ≡ Some d → AllByRecursion (λ m. DeclaresInOrder m.1) (declared_in d)
schemas_ordered text d is = each_schema (declared_in d) (values_in d (ordered_read text d is))

each_type : (ts : List TypeDeclaration) → AreTypesOrdered ts → AllByRecursion (λ t. DeclaresInOrder t.body) ts
each_type [] all = tt
each_type (t ∷ ts) all = (names_in t.body all.0, each_type ts all.1)

pub members_ordered : (text : List ℕ) (d : Data) → read text ≡ Some d → AllByRecursion (λ t. DeclaresInOrder t.body) (types_declared d)
members_ordered text d is = each_type (types_declared d) (types_of_schemas (declared_in d) (values_in d (ordered_read text d is)))

-- ---- properties

body_ordered : (d : Data) (o : Option TypeKind) → IsOrdered d → IsBodyInOrder (body_of_kind o d)
body_ordered d (Some kind.Entity) h = in_order _ (declared_in d) refl (names_in d h)
body_ordered d (Some kind.Complex) h = in_order _ (declared_in d) refl (names_in d h)
body_ordered d (Some kind.Enumeration) h = tt
body_ordered d (Some kind.Definition) h = tt
body_ordered d None h = tt

bodies_ordered : (ts : List TypeDeclaration) → AreTypesOrdered ts → AllByRecursion (λ t. IsBodyInOrder t.body) (map declared_type ts)
bodies_ordered [] all = tt
bodies_ordered (t ∷ ts) all = (body_ordered t.body (type_kind_in t.body) all.0, bodies_ordered ts all.1)

pub types_ordered : (text : List ℕ) (d : Data) → read text ≡ Some d → AreInOrder (declared_types d)
types_ordered text d is = record {
  given = types_given d (declared_types d) refl;
  names = types_rise d (declared_types d) refl (by_name (types_declared d)).rising;
  properties = bodies_ordered (types_in_order d) (in_name_order_ordered (types_declared d) (types_of_schemas (declared_in d) (values_in d (ordered_read text d is))));
}
