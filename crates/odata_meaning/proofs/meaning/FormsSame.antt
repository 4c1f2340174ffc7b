-- What asks for members or items gives the same of those with the same outcomes.
use Rattle.std.proofs.Common.{ℕ, List, length}
use Rattle.edm_values.specs.MomentParts.{MomentParts}
use Rattle.edm_values.specs.Val.{Val, null, items, Vals, no_items, item}
use Rattle.csdl_schema.specs.ExprType.{ExprType, collection, single}
use Rattle.csdl_schema.specs.SchemaModel.{Slots}
use Rattle.odata_syntax.specs.declared.binary_operator.ComparisonOperator.{ComparisonOperator}
use Rattle.odata_syntax.specs.Spans.{list_of_trees}
use Rattle.odata_syntax.specs.Tree.{Tree, Trees, no_trees, more_trees}
use Rattle.odata_syntax.specs.declared.node.Quantifier.{Quantifier}
use Rattle.odata_filter_operations.specs.CompareGives.{CompareGives}
use Rattle.odata_meaning.specs.Environment.{Environment}
use Rattle.odata_filter_operations.specs.LambdaGives.{ItemsGive, LambdaGives, MembersGive}
use Rattle.odata_filter_operations.specs.LeftFirst.{After}
use Rattle.odata_meaning.specs.Means.{ItemMeans}
use Rattle.odata_meaning.specs.OneByOne.{GoesOn, ItemAlone, ItemsGo, MembersGo}
use Rattle.odata_filter_operations.specs.Outcome.{Outcome}
use Rattle.odata_meaning.proofs.meaning.AllTrees.{AllPaired}
use Rattle.odata_meaning.proofs.meaning.OneByOne.{goes_both, items_both, members_both}
use Rattle.odata_meaning.proofs.meaning.SameGives.{Both, BothTyped, Goes, after_both, both, in_turn, itself, there, turned}

members_go_same : (quantifier : Quantifier) (B C : Val → Outcome → Type 0) (values : Vals) → ((v : Val) → Both (B v) (C v))
    → Both (MembersGo quantifier B values) (MembersGo quantifier C values)
members_go_same quantifier B C no_items same = itself (MembersGo quantifier B no_items)
members_go_same quantifier B C (item v more) same =
    after_both (B v) (C v) (GoesOn quantifier (MembersGo quantifier B more)) (GoesOn quantifier (MembersGo quantifier C more)) (same v)
    (λ w. goes_both quantifier (MembersGo quantifier B more) (MembersGo quantifier C more) w (members_go_same quantifier B C more same))

members_same : (quantifier : Quantifier) (B C : Val → Outcome → Type 0) (values : Vals) → ((v : Val) → Both (B v) (C v))
    → Both (MembersGive quantifier B values) (MembersGive quantifier C values)
members_same quantifier B C values same =
    in_turn (MembersGive quantifier B values) (MembersGo quantifier B values) (MembersGive quantifier C values) (members_both quantifier B values)
    (in_turn (MembersGo quantifier B values) (MembersGo quantifier C values) (MembersGive quantifier C values) (members_go_same quantifier B C values same)
    (turned (MembersGive quantifier C values) (MembersGo quantifier C values) (members_both quantifier C values)))

lambda_goes : (quantifier : Quantifier) (N M : ExprType → Type 0) (B C : ExprType → Val → Outcome → Type 0) (v : Val)
    → ((type : ExprType) → N type → M type) → ((type : ExprType) (w : Val) → Both (B type w) (C type w)) → Goes (LambdaGives quantifier N B v) (LambdaGives quantifier M C v)
lambda_goes quantifier N M B C null typed same o is = is
lambda_goes quantifier N M B C (items values) typed same o (type, is, given) = (
  type,
  typed (collection type) is,
  there (MembersGive quantifier (B (single type)) values) (MembersGive quantifier (C (single type)) values)
      (members_same quantifier (B (single type)) (C (single type)) values (same (single type))) o given,
)
lambda_goes quantifier N M B C _ typed same o is = absurd is

pub lambda_both : (quantifier : Quantifier) (N M : ExprType → Type 0) (B C : ExprType → Val → Outcome → Type 0) (v : Val)
    → BothTyped N M → ((type : ExprType) (w : Val) → Both (B type w) (C type w)) → Both (LambdaGives quantifier N B v) (LambdaGives quantifier M C v)
lambda_both quantifier N M B C v typed same =
    both (LambdaGives quantifier N B v) (LambdaGives quantifier M C v)
    (lambda_goes quantifier N M B C v (λ type. (typed type).0) same)
    (lambda_goes quantifier M N C B v (λ type. (typed type).1) (λ type w. turned (B type w) (C type w) (same type w)))

items_go_same : (Item Also : Tree → Outcome → Type 0) (l : Val) (trees others : Trees) → AllPaired (λ tree other. Both (Item tree) (Also other)) trees others
    → Both (ItemsGo Item l trees) (ItemsGo Also l others)
items_go_same Item Also l no_trees no_trees same = itself (ItemsGo Item l no_trees)
items_go_same Item Also l (more_trees tree more) (more_trees other others) same =
    let Equal : Val → Outcome → Type 0 = CompareGives ComparisonOperator.Eq l in
    after_both (After (Item tree) Equal) (After (Also other) Equal)
    (GoesOn Quantifier.Any (ItemsGo Item l more)) (GoesOn Quantifier.Any (ItemsGo Also l others))
    (after_both (Item tree) (Also other) Equal Equal same.0 (λ w. itself (Equal w)))
    (λ w. goes_both Quantifier.Any (ItemsGo Item l more) (ItemsGo Also l others) w (items_go_same Item Also l more others same.1))
items_go_same Item Also l _ _ same = absurd same

module _ (slots : Slots) (root : List ℕ) (now : MomentParts) (entity : Val) (environment : Environment) (OtherSide Other : ExprType → Type 0) (l : Val) where
  abbrev Item : (ExprType → Type 0) → Tree → Outcome → Type 0
  Item Left = ItemAlone slots root now entity environment Left

  abbrev Given : (ExprType → Type 0) → Trees → Outcome → Type 0
  Given Left trees = ItemsGive l (length (list_of_trees trees)) (ItemMeans slots root now entity environment Left trees)

  pub items_same : (trees others : Trees) → AllPaired (λ tree other. Both (Item OtherSide tree) (Item Other other)) trees others → Both (Given OtherSide trees) (Given Other others)
  items_same trees others same =
      in_turn (Given OtherSide trees) (ItemsGo (Item OtherSide) l trees) (Given Other others) (items_both slots root now entity environment OtherSide l trees)
      (in_turn (ItemsGo (Item OtherSide) l trees) (ItemsGo (Item Other) l others) (Given Other others) (items_go_same (Item OtherSide) (Item Other) l trees others same)
      (turned (Given Other others) (ItemsGo (Item Other) l others) (items_both slots root now entity environment Other l others)))
