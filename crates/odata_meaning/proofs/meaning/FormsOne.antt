-- What asks for a collection or for flags gives at most one outcome.
use Rattle.std.proofs.Common.{◌≡◌, ℕ, List, length, subst, true, false}
use Rattle.std.specs.Prelude.{pos}
use Rattle.edm_values.specs.MomentParts.{MomentParts}
use Rattle.edm_values.specs.Val.{Val, null, boolean, member, items, Vals, no_items, item}
use Rattle.edm_values.specs.declared.primitive.PrimitiveType.{PrimitiveType}
use Rattle.csdl_schema.specs.ExprType.{ExprType, SingleType, collection, single}
use Rattle.csdl_schema.specs.SchemaModel.{Slots}
use Rattle.odata_functions.specs.Bits.{HasBits}
use Rattle.odata_syntax.specs.declared.binary_operator.ComparisonOperator.{ComparisonOperator}
use Rattle.odata_syntax.specs.Spans.{list_of_trees}
use Rattle.odata_syntax.specs.Tree.{Tree, Trees, no_trees, more_trees}
use Rattle.odata_syntax.specs.declared.node.Quantifier.{Quantifier}
use Rattle.odata_filter_operations.specs.CollectionGives.{AnyItemGives, CountGives, members_of}
use Rattle.odata_filter_operations.specs.CompareGives.{CompareGives}
use Rattle.odata_meaning.specs.Environment.{Environment}
use Rattle.odata_filter_operations.specs.HasGives.{HasGives}
use Rattle.odata_filter_operations.specs.LambdaGives.{InGives, ItemsGive, LambdaGives, MembersGive}
use Rattle.odata_filter_operations.specs.LeftFirst.{After}
use Rattle.odata_meaning.specs.Means.{ItemMeans}
use Rattle.odata_meaning.specs.OneByOne.{GoesOn, ItemAlone, ItemsGo, MembersGo}
use Rattle.odata_filter_operations.specs.Outcome.{Outcome, gives}
use Rattle.odata_filter_operations.specs.QuantifierGives.{undecided_val}
use Rattle.odata_meaning.proofs.meaning.AllTrees.{AllTrees}
use Rattle.odata_meaning.specs.private.LawsBelow.{OneEach}
use Rattle.odata_meaning.proofs.meaning.NumberComes.{GivesNumber-one}
use Rattle.odata_meaning.proofs.meaning.OneByOne.{items_both, members_both}
use Rattle.odata_meaning.proofs.meaning.OneLeaf.{CompareGives-one, GivesTruth-one}
use Rattle.odata_meaning.proofs.meaning.OneStep.{AtMostOne, After-one, same_one}
use Rattle.odata_meaning.proofs.meaning.SameGives.{Both}

both_one : (P Q : Outcome → Type 0) → Both P Q → AtMostOne Q → AtMostOne P
both_one P Q same one a b p q = one a b ((same a).0 p) ((same b).0 q)

pub CountGives-one : OneEach → (v : Val) → AtMostOne (CountGives v)
CountGives-one known null a b p q = same_one (gives null) a b p q
CountGives-one known (items values) a b p q = GivesNumber-one known PrimitiveType.Int64 (pos (length (members_of values))) a b p q
CountGives-one known _ a b p q = absurd p

pub AnyItemGives-one : (v : Val) → AtMostOne (AnyItemGives v)
AnyItemGives-one null a b p q = same_one (gives null) a b p q
AnyItemGives-one (items no_items) a b p q = same_one (gives (boolean false)) a b p q
AnyItemGives-one (items (item v more)) a b p q = same_one (gives (boolean true)) a b p q
AnyItemGives-one _ a b p q = absurd p

pub HasGives-one : (l r : Val) → AtMostOne (HasGives l r)
HasGives-one null null a b p q = same_one (gives null) a b p q
HasGives-one null (member y) a b p q = same_one (gives null) a b p q
HasGives-one (member x) null a b p q = same_one (gives null) a b p q
HasGives-one (member x) (member y) a b p q = GivesTruth-one (HasBits x y) a b p q
HasGives-one _ _ a b p q = absurd p

-- ---- members and items one by one

GoesOn-one : (quantifier : Quantifier) (More : Outcome → Type 0) (v : Val) → AtMostOne More → AtMostOne (GoesOn quantifier More v)
GoesOn-one Quantifier.Any More (boolean true) one a b p q = same_one (gives (boolean true)) a b p q
GoesOn-one Quantifier.Any More (boolean false) one a b p q = one a b p q
GoesOn-one Quantifier.Any More null one a b p q = one a b p q
GoesOn-one Quantifier.All More (boolean true) one a b p q = one a b p q
GoesOn-one Quantifier.All More (boolean false) one a b p q = same_one (gives (boolean false)) a b p q
GoesOn-one Quantifier.All More null one a b p q = same_one (gives (boolean false)) a b p q
GoesOn-one _ More _ one a b p q = absurd p

MembersGo-one : (quantifier : Quantifier) (Body : Val → Outcome → Type 0) (values : Vals) → ((v : Val) → AtMostOne (Body v)) → AtMostOne (MembersGo quantifier Body values)
MembersGo-one quantifier Body no_items one a b p q = same_one (gives (undecided_val quantifier)) a b p q
MembersGo-one quantifier Body (item v more) one a b p q =
    After-one (Body v) (GoesOn quantifier (MembersGo quantifier Body more)) (one v)
    (λ w. GoesOn-one quantifier (MembersGo quantifier Body more) w (MembersGo-one quantifier Body more one)) a b p q

ItemsGo-one : (Item : Tree → Outcome → Type 0) (l : Val) (trees : Trees) → AllTrees (λ tree. AtMostOne (Item tree)) trees → AtMostOne (ItemsGo Item l trees)
ItemsGo-one Item l no_trees one a b p q = same_one (gives (undecided_val Quantifier.Any)) a b p q
ItemsGo-one Item l (more_trees tree more) one a b p q =
    After-one (After (Item tree) (CompareGives ComparisonOperator.Eq l)) (GoesOn Quantifier.Any (ItemsGo Item l more))
    (After-one (Item tree) (CompareGives ComparisonOperator.Eq l) one.0 (CompareGives-one ComparisonOperator.Eq l))
    (λ w. GoesOn-one Quantifier.Any (ItemsGo Item l more) w (ItemsGo-one Item l more one.1)) a b p q

-- ---- by their indexes

MembersGive-one : (quantifier : Quantifier) (Body : Val → Outcome → Type 0) (values : Vals) → ((v : Val) → AtMostOne (Body v)) → AtMostOne (MembersGive quantifier Body values)
MembersGive-one quantifier Body values one =
    both_one (MembersGive quantifier Body values) (MembersGo quantifier Body values) (members_both quantifier Body values) (MembersGo-one quantifier Body values one)

pub LambdaGives-one : (quantifier : Quantifier) (BaseTyped : ExprType → Type 0) (Body : ExprType → Val → Outcome → Type 0) (v : Val)
    → ((s t : ExprType) → BaseTyped s → BaseTyped t → s ≡ t) → ((type : ExprType) (w : Val) → AtMostOne (Body type w)) → AtMostOne (LambdaGives quantifier BaseTyped Body v)
LambdaGives-one quantifier BaseTyped Body null types one a b p q = same_one (gives null) a b p q
LambdaGives-one quantifier BaseTyped Body (items values) types one a b p q =
    let collections : collection q.0 ≡ collection p.0 = types (collection q.0) (collection p.0) q.1 p.1 in
    let same : q.0 ≡ p.0 = cc in
    MembersGive-one quantifier (Body (single p.0)) values (one (single p.0)) a b p.2
    (subst (λ (t : SingleType). MembersGive quantifier (Body (single t)) values b) same q.2)
LambdaGives-one quantifier BaseTyped Body _ types one a b p q = absurd p

pub InGives-one : (l v : Val) → AtMostOne (InGives l v)
InGives-one l null a b p q = same_one (gives null) a b p q
InGives-one l (items values) a b p q =
    MembersGive-one Quantifier.Any (CompareGives ComparisonOperator.Eq l) values (CompareGives-one ComparisonOperator.Eq l) a b p q
InGives-one l _ a b p q = absurd p

pub ItemsGive-one : (slots : Slots) (root : List ℕ) (now : MomentParts) (entity : Val) (environment : Environment) (OtherSide : ExprType → Type 0) (l : Val) (trees : Trees)
    → AllTrees (λ tree. AtMostOne (ItemAlone slots root now entity environment OtherSide tree)) trees
    → AtMostOne (ItemsGive l (length (list_of_trees trees)) (ItemMeans slots root now entity environment OtherSide trees))
ItemsGive-one slots root now entity environment OtherSide l trees one =
    both_one (ItemsGive l (length (list_of_trees trees)) (ItemMeans slots root now entity environment OtherSide trees))
    (ItemsGo (ItemAlone slots root now entity environment OtherSide) l trees)
    (items_both slots root now entity environment OtherSide l trees) (ItemsGo-one (ItemAlone slots root now entity environment OtherSide) l trees one)
