-- What asks for a collection or for flags has an outcome of values of its operands' types.
use Rattle.std.proofs.Common.{◌≡◌, ℕ, List, length, Bool, true, false, Option, Some, None, refl, sym, subst, inl, inr}
use Rattle.std.specs.Prelude.{pos}
use Rattle.edm_values.specs.MomentParts.{MomentParts}
use Rattle.edm_values.specs.Val.{Val, null, boolean, member, fields, items, Vals, no_items, item}
use Rattle.edm_values.specs.declared.primitive.PrimitiveType.{PrimitiveType}
use Rattle.csdl_schema.specs.ExprType.{ExprType, null_type, single, collection, SingleType, enumeration, primitive}
use Rattle.csdl_schema.specs.SchemaModel.{Slots}
use Rattle.edm_entities.specs.HasType.{AllHaveType, HasType}
use Rattle.odata_functions.specs.Bits.{HasBits}
use Rattle.odata_syntax.specs.declared.binary_operator.ComparisonOperator.{ComparisonOperator}
use Rattle.odata_signatures.specs.CollectionTyped.{AnyItemTyped, CountTyped, IsCollection, IsComparableWithMembers}
use Rattle.odata_signatures.specs.ComparableTypes.{AreComparable}
use Rattle.odata_signatures.specs.ExprTypes.{IsBooleanOrNull, boolean_type}
use Rattle.odata_signatures.specs.HasTyped.{AreFlags}
use Rattle.odata_syntax.specs.Spans.{list_of_trees}
use Rattle.odata_syntax.specs.Tree.{Tree, Trees, no_trees, more_trees}
use Rattle.odata_syntax.specs.declared.node.Quantifier.{Quantifier}
use Rattle.odata_filter_operations.specs.CollectionGives.{AnyItemGives, CountGives, members_of}
use Rattle.odata_filter_operations.specs.CompareGives.{CompareGives}
use Rattle.odata_meaning.specs.Environment.{Environment}
use Rattle.odata_filter_operations.specs.HasGives.{HasGives}
use Rattle.odata_filter_operations.specs.LambdaGives.{InGives, ItemsGive, MembersGive}
use Rattle.odata_filter_operations.specs.LeftFirst.{After}
use Rattle.odata_meaning.specs.Means.{ItemMeans}
use Rattle.odata_meaning.specs.OneByOne.{GoesOn, ItemAlone, ItemsGo, MembersGo}
use Rattle.odata_filter_operations.specs.Outcome.{Outcome, gives}
use Rattle.odata_filter_operations.specs.QuantifierGives.{undecided_val}
use Rattle.odata_filter_operations.specs.TruthGives.{truth_val}
use Rattle.odata_meaning.proofs.meaning.AllTrees.{AllTrees}
use Rattle.odata_meaning.proofs.meaning.Ends.{Ends, after_ends}
use Rattle.odata_meaning.proofs.meaning.CompareEnds.{compare_ends}
use Rattle.odata_meaning.proofs.meaning.FunctionEnds.{truth_given}
use Rattle.odata_meaning.proofs.meaning.Kinds.{IsTruth, truth_of}
use Rattle.odata_meaning.specs.private.LawsBelow.{SomeEach}
use Rattle.odata_meaning.proofs.meaning.NumberComes.{number_given}
use Rattle.odata_meaning.proofs.meaning.OneByOne.{items_both, members_both}
use Rattle.odata_meaning.proofs.meaning.SameGives.{Both}
use Rattle.odata_meaning.proofs.meaning.TypeValues.{IsOfKind, list_form, member_kind, members, null_has, null_value, truth_has}

pub of_type : (slots : Slots) (given type : ExprType) (Gives : Outcome → Type 0) → type ≡ given → Ends slots given Gives → Ends slots type Gives
of_type slots given type Gives same ends = subst (λ (t : ExprType). Ends slots t Gives) (sym same) ends

pub both_ends : (slots : Slots) (type : ExprType) (P Q : Outcome → Type 0) → Both P Q → Ends slots type Q → Ends slots type P
both_ends slots type P Q same ends = (ends.0, ((same ends.0).1 ends.1.0, ends.1.1))

-- a value of a collection's type
abbrev IsListOrNull : Val → Type 0
IsListOrNull null = Unit {0}
IsListOrNull (items values) = Unit {0}
IsListOrNull _ = ⊥

is_list : (slots : Slots) (base : ExprType) (v : Val) → IsCollection base → HasType slots base v → IsListOrNull v
is_list slots (collection m) v is has =
    elim (list_form slots m v has) [
      | inl is_null ↦ rw is_null tt
      | inr list_is ↦ (let v_is : v ≡ items list_is.0 = list_is.1 in rw v_is tt)
    ]
is_list slots _ v is has = absurd is

-- ---- how many members

members_counted : SomeEach → (slots : Slots) (v : Val) → IsListOrNull v → Ends slots (single (primitive PrimitiveType.Int64)) (CountGives v)
members_counted some slots null is = (gives null, (refl, null_has slots (single (primitive PrimitiveType.Int64))))
members_counted some slots (items values) is = number_given some slots PrimitiveType.Int64 tt (pos (length (members_of values)))
members_counted some slots _ is = absurd is

pub count_ends : SomeEach → (slots : Slots) (base type : ExprType) (v : Val) → CountTyped base type → HasType slots base v → Ends slots type (CountGives v)
count_ends some slots base type v typed has =
    of_type slots (single (primitive PrimitiveType.Int64)) type (CountGives v) typed.1 (members_counted some slots v (is_list slots base v typed.0 has))

members_there : (slots : Slots) (v : Val) → IsListOrNull v → Ends slots boolean_type (AnyItemGives v)
members_there slots null is = (gives null, (refl, null_has slots boolean_type))
members_there slots (items no_items) is = (gives (boolean false), (refl, truth_has slots false))
members_there slots (items (item v more)) is = (gives (boolean true), (refl, truth_has slots true))
members_there slots _ is = absurd is

pub any_item_ends : (slots : Slots) (base type : ExprType) (v : Val) → AnyItemTyped base type → HasType slots base v → Ends slots type (AnyItemGives v)
any_item_ends slots base type v typed has = of_type slots boolean_type type (AnyItemGives v) typed.1 (members_there slots v (is_list slots base v typed.0 has))

-- ---- flags

-- a number of an enumeration, or null
abbrev IsFlags : Val → Type 0
IsFlags null = Unit {0}
IsFlags (member n) = Unit {0}
IsFlags _ = ⊥

kind_flags : (v : Val) → IsOfKind members v → IsFlags v
kind_flags null is = tt
kind_flags (member n) is = tt
kind_flags (fields held) is = absurd is
kind_flags (items vs) is = absurd is
kind_flags _ is = absurd (cc)

null_flags : (slots : Slots) (v : Val) → HasType slots null_type v → IsFlags v
null_flags slots v has = rw (null_value slots v has) tt

member_flags : (slots : Slots) (name : List ℕ) (v : Val) → HasType slots (single (enumeration name)) v → IsFlags v
member_flags slots name v has = kind_flags v (member_kind slots name v has)

flags_values : (slots : Slots) (left right : ExprType) (l r : Val) → AreFlags left right → HasType slots left l → HasType slots right r → IsFlags l × IsFlags r
flags_values slots null_type null_type l r are of_l of_r = (null_flags slots l of_l, null_flags slots r of_r)
flags_values slots null_type (single (enumeration b)) l r are of_l of_r = (null_flags slots l of_l, member_flags slots b r of_r)
flags_values slots (single (enumeration a)) null_type l r are of_l of_r = (member_flags slots a l of_l, null_flags slots r of_r)
flags_values slots (single (enumeration a)) (single (enumeration b)) l r are of_l of_r = (member_flags slots a l of_l, member_flags slots b r of_r)
flags_values slots _ _ l r are of_l of_r = absurd are

flags_end : SomeEach → (slots : Slots) (l r : Val) → IsFlags l → IsFlags r → Ends slots boolean_type (HasGives l r)
flags_end some slots null null p q = (gives null, (refl, null_has slots boolean_type))
flags_end some slots null (member b) p q = (gives null, (refl, null_has slots boolean_type))
flags_end some slots (member a) null p q = (gives null, (refl, null_has slots boolean_type))
flags_end some slots (member a) (member b) p q = truth_given slots (HasBits a b) (some.bits a b)
flags_end some slots null _ p q = absurd q
flags_end some slots (member a) _ p q = absurd q
flags_end some slots _ r p q = absurd p

pub has_ends : SomeEach → (slots : Slots) (left right type : ExprType) (l r : Val) → AreFlags left right × (type ≡ boolean_type) → HasType slots left l → HasType slots right r
    → Ends slots type (HasGives l r)
has_ends some slots left right type l r typed of_l of_r =
    let flags = flags_values slots left right l r typed.0 of_l of_r in
    of_type slots boolean_type type (HasGives l r) typed.1 (flags_end some slots l r flags.0 flags.1)

-- ---- members and items one by one

truth_goes : (slots : Slots) (quantifier : Quantifier) (More : Outcome → Type 0) (truth : Option Bool) → Ends slots boolean_type More
    → Ends slots boolean_type (GoesOn quantifier More (truth_val truth))
truth_goes slots Quantifier.Any More (Some true) ends = (gives (boolean true), (refl, truth_has slots true))
truth_goes slots Quantifier.All More (Some false) ends = (gives (boolean false), (refl, truth_has slots false))
truth_goes slots Quantifier.All More None ends = (gives (boolean false), (refl, truth_has slots false))
truth_goes slots _ More _ ends = ends

pub goes_on_ends : (slots : Slots) (quantifier : Quantifier) (More : Outcome → Type 0) (v : Val) → IsTruth v → Ends slots boolean_type More
    → Ends slots boolean_type (GoesOn quantifier More v)
goes_on_ends slots quantifier More v truth ends =
    subst (λ (w : Val). Ends slots boolean_type (GoesOn quantifier More w)) (sym truth.1) (truth_goes slots quantifier More truth.0 ends)

pub undecided_typed : (slots : Slots) (quantifier : Quantifier) → HasType slots boolean_type (undecided_val quantifier)
undecided_typed slots Quantifier.Any = truth_has slots false
undecided_typed slots Quantifier.All = truth_has slots true

module _ (slots : Slots) (quantifier : Quantifier) (Body : Val → Outcome → Type 0) (m : SingleType) (body : ExprType) (truth : IsBooleanOrNull body)
    (each : (v : Val) → HasType slots (single m) v → Ends slots body (Body v)) where
  members_go_end : (values : Vals) → AllHaveType slots m values → Ends slots boolean_type (MembersGo quantifier Body values)
  members_go_end no_items all = (gives (undecided_val quantifier), (refl, undecided_typed slots quantifier))
  members_go_end (item v more) all =
      after_ends slots slots body boolean_type (Body v) (GoesOn quantifier (MembersGo quantifier Body more)) (each v all.0)
      (λ w has. goes_on_ends slots quantifier (MembersGo quantifier Body more) w (truth_of slots body w truth has) (members_go_end more all.1))

  members_end : (values : Vals) → AllHaveType slots m values → Ends slots boolean_type (MembersGive quantifier Body values)
  members_end values all =
      both_ends slots boolean_type (MembersGive quantifier Body values) (MembersGo quantifier Body values) (members_both quantifier Body values) (members_go_end values all)

-- ---- by their indexes

pub in_path_ends : SomeEach → (slots : Slots) (left path type : ExprType) (l v : Val) → IsComparableWithMembers left path × (type ≡ boolean_type) → HasType slots left l → HasType slots path v
    → Ends slots type (InGives l v)
in_path_ends some slots left (collection m) type l v typed of_l has =
    elim (list_form slots m v has) [
      | inl is_null ↦ rw is_null (gives null, (refl, null_has slots type))
      | inr list_is ↦
          let values : Vals = list_is.0 in
          let v_is : v ≡ items values = list_is.1 in
          subst (λ (w : Val). Ends slots type (InGives l w)) (sym v_is)
          (of_type slots boolean_type type (InGives l (items values)) typed.1
          (members_end slots Quantifier.Any (CompareGives ComparisonOperator.Eq l) m boolean_type (inl refl)
          (λ w of_w. compare_ends some slots ComparisonOperator.Eq left (single m) boolean_type l w (typed.0, refl) of_l of_w) values list_is.2))
    ]
in_path_ends some slots left _ type l v typed of_l has = absurd typed.0

-- an item has an outcome of a type that is compared with that on the left
abbrev pub ItemEnds : Slots → ExprType → (Outcome → Type 0) → Type 0
ItemEnds slots left Item = (type : ExprType) × AreComparable left type × Ends slots type Item

items_go_end : SomeEach → (slots : Slots) (Item : Tree → Outcome → Type 0) (left : ExprType) (l : Val) (trees : Trees) → HasType slots left l
    → AllTrees (λ tree. ItemEnds slots left (Item tree)) trees → Ends slots boolean_type (ItemsGo Item l trees)
items_go_end some slots Item left l no_trees of_l all = (gives (boolean false), (refl, truth_has slots false))
items_go_end some slots Item left l (more_trees tree more) of_l all =
    let Equal : Val → Outcome → Type 0 = CompareGives ComparisonOperator.Eq l in
    let first = all.0 in
    after_ends slots slots boolean_type boolean_type (After (Item tree) Equal) (GoesOn Quantifier.Any (ItemsGo Item l more))
    (after_ends slots slots first.0 boolean_type (Item tree) Equal first.2
    (λ w of_w. compare_ends some slots ComparisonOperator.Eq left first.0 boolean_type l w (first.1, refl) of_l of_w))
    (λ w has. goes_on_ends slots Quantifier.Any (ItemsGo Item l more) w (truth_of slots boolean_type w (inl refl) has)
    (items_go_end some slots Item left l more of_l all.1))

pub in_list_ends : SomeEach → (slots held : Slots) (root : List ℕ) (now : MomentParts) (entity : Val) (environment : Environment) (OtherSide : ExprType → Type 0) (left : ExprType) (l : Val) (trees : Trees)
    (type : ExprType) → type ≡ boolean_type → HasType held left l → AllTrees (λ tree. ItemEnds held left (ItemAlone slots root now entity environment OtherSide tree)) trees
    → Ends held type (ItemsGive l (length (list_of_trees trees)) (ItemMeans slots root now entity environment OtherSide trees))
in_list_ends some slots held root now entity environment OtherSide left l trees type is of_l all =
    let Given : Outcome → Type 0 = ItemsGive l (length (list_of_trees trees)) (ItemMeans slots root now entity environment OtherSide trees) in
    of_type held boolean_type type Given is
    (both_ends held boolean_type Given (ItemsGo (ItemAlone slots root now entity environment OtherSide) l trees) (items_both slots root now entity environment OtherSide l trees)
    (items_go_end some held (ItemAlone slots root now entity environment OtherSide) left l trees of_l all))
