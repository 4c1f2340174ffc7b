-- What the items of a list cost that have been asked for, and what is due for the others.
use Rattle.std.proofs.Common.{◌≡◌, ◌<◌, ◌+◌, ◌∙◌, ℕ, ℤ, zero, suc, [], ◌∷◌, true, false, refl, sym, subst, inl, inr, arith}
use Rattle.edm_values.specs.Val.{Val, boolean, member, text}
use Rattle.csdl_schema.specs.ExprType.{ExprType, collection}
use Rattle.csdl_schema.specs.SchemaModel.{slots_of, type_name_at}
use Rattle.edm_entities.specs.Row.{value_of}
use Rattle.odata_syntax.specs.declared.binary_operator.ComparisonOperator.{ComparisonOperator}
use Rattle.odata_filter_operations.specs.CompareGives.{CompareGives}
use Rattle.odata_filter_operations.specs.LambdaGives.{ItemsGive}
use Rattle.odata_filter_operations.specs.LeftFirst.{After}
use Rattle.odata_filter_operations.specs.Outcome.{Outcome, gives, overflow, divides_by_zero}
use Rattle.odata_filter_operations.specs.QuantifierGives.{Passes}
use Rattle.odata_signatures.specs.CollectionTyped.{IsCollection, IsItemFor}
use Rattle.odata_signatures.specs.ExprTypes.{boolean_type}
use Rattle.odata_syntax.specs.Tree.{Tree, Trees, in_list, more_trees, no_trees, node}
use Rattle.odata_syntax.specs.declared.node.Quantifier.{Quantifier}
use Rattle.odata_signatures.specs.Sides.{side_of}
use Rattle.odata_meaning.specs.Costs.{CostAfter, CostThen, CostsExactly, ItemsCost, OthersCost, item_cost}
use Rattle.odata_filter_operations.specs.TextCosts.{comparison_cost}
use Rattle.odata_meaning.specs.Means.{ItemMeans}
use Rattle.filter_context.specs.private.EvalContext.{EndsOnceHere, MeansHere, StandsHere, TypedHere}
use Rattle.filter_context.specs.private.ContextModel.{ContextModel, environment_of}
use Rattle.odata_eval.specs.private.Spending.{CostsHere}
use Rattle.odata_eval.proofs.spending.Splits.{follows}
use Rattle.filter_context.proofs.Operands.{AloneHere}

module _ (context : ContextModel) where
  -- what items cost from the first on, after a left value
  abbrev pub ItemsCostHere : (ExprType → Type 0) → Val → Trees → ℕ → Type 0
  ItemsCostHere = ItemsCost (slots_of context.row.schema) (type_name_at context.row.schema context.row.type_id) context.moment (value_of context.row) (environment_of context)

  -- what an item evaluates to, compared with it
  abbrev pub ComparedHere : (ExprType → Type 0) → Val → Tree → Outcome → Type 0
  ComparedHere OtherSide l item = After (AloneHere context OtherSide item) (CompareGives ComparisonOperator.Eq l)

  -- ---- an item compared evaluates to one outcome: that of a list of it alone

  abbrev ItemAt : (ExprType → Type 0) → Tree → ℕ → Outcome → Type 0
  ItemAt OtherSide item =
      ItemMeans (slots_of context.row.schema) (type_name_at context.row.schema context.row.type_id) context.moment (value_of context.row) (environment_of context) OtherSide (more_trees item no_trees)

  abbrev AloneGives : (ExprType → Type 0) → Val → Tree → Outcome → Type 0
  AloneGives OtherSide l item = ItemsGive l 1 (ItemAt OtherSide item)

  decides_alone : (OtherSide : ExprType → Type 0) (l : Val) (item : Tree) → ComparedHere OtherSide l item (gives (boolean true)) → AloneGives OtherSide l item (gives (boolean true))
  decides_alone OtherSide l item compared = inl (record { place = 0; here = (gives (boolean true), (compared, refl)); earlier = λ k before. absurd (omega (arith, before)) })

  passes_at : (OtherSide : ExprType → Type 0) (l : Val) (item : Tree) → ComparedHere OtherSide l item (gives (boolean false)) → (k : ℕ) → k < 1
      → Passes Quantifier.Any (After (ItemAt OtherSide item k) (CompareGives ComparisonOperator.Eq l))
  passes_at OtherSide l item compared zero within = (boolean false, compared, tt)
  passes_at OtherSide l item compared (suc k) within = absurd (omega (arith, within))

  passes_alone : (OtherSide : ExprType → Type 0) (l : Val) (item : Tree) → ComparedHere OtherSide l item (gives (boolean false)) → AloneGives OtherSide l item (gives (boolean false))
  passes_alone OtherSide l item compared = inr (record { each = passes_at OtherSide l item compared; is = refl })

  value_alone : (OtherSide : ExprType → Type 0) (l w : Val) (item : Tree) (o : Outcome) → AloneHere context OtherSide item (gives w) → CompareGives ComparisonOperator.Eq l w o → AloneGives OtherSide l item o
  value_alone OtherSide l w item (gives (boolean true)) alone compares = decides_alone OtherSide l item (gives w, (alone, compares))
  value_alone OtherSide l w item (gives (boolean false)) alone compares = passes_alone OtherSide l item (gives w, (alone, compares))
  value_alone OtherSide l w item _ alone compares = absurd compares.1

  alone_gives : (OtherSide : ExprType → Type 0) (l : Val) (item : Tree) (o : Outcome) → ComparedHere OtherSide l item o → AloneGives OtherSide l item o
  alone_gives OtherSide l item o (gives w, (alone, compares)) = value_alone OtherSide l w item o alone compares
  alone_gives OtherSide l item o (overflow, (alone, same)) =
      subst (λ (p : Outcome). AloneGives OtherSide l item p) (sym same)
      (inl (record { place = 0; here = (overflow, ((overflow, (alone, refl)), refl)); earlier = λ k before. absurd (omega (arith, before)) }))
  alone_gives OtherSide l item o (divides_by_zero, (alone, same)) =
      subst (λ (p : Outcome). AloneGives OtherSide l item p) (sym same)
      (inl (record { place = 0; here = (divides_by_zero, ((divides_by_zero, (alone, refl)), refl)); earlier = λ k before. absurd (omega (arith, before)) }))

  -- a value beside which an item may stand is none of a collection
  beside_single : (left : ExprType) (item : Tree) (type : ExprType) → IsItemFor (slots_of context.row.schema) left (side_of item type) → ¬ (IsCollection left)
  beside_single (collection of) item type (inl comparable) is = comparable
  beside_single (collection of) item type (inr number) is = number.1
  beside_single _ item type beside is = is

  -- a left side, its value, and an item of a type that may stand beside it
  pub record SideItem (left : Tree) (l : Val) (item : Tree) : Type 0 where
    pub left_type : ExprType
    pub left_typed : TypedHere context left left_type
    pub left_means : MeansHere context left (gives l)
    pub item_type : ExprType
    pub item_typed : TypedHere context item item_type
    pub beside : IsItemFor (slots_of context.row.schema) left_type (side_of item item_type)

  pub one_compared : EndsOnceHere context → (left : Tree) (l : Val) (item : Tree) → SideItem left l item → (o p : Outcome)
      → ComparedHere (TypedHere context left) l item o → ComparedHere (TypedHere context left) l item p → o ≡ p
  one_compared ends left l item side o p of_o of_p =
      let alone = node 0 0 (in_list left (more_trees item no_trees)) in
      let once = ends alone boolean_type (record {
        left = side.left_type;
        items = side.item_type ∷ [];
        left_typed = side.left_typed;
        items_typed = (side.item_typed, tt);
        makes = (beside_single side.left_type item side.item_type side.beside, (side.beside, tt), refl);
      }) in
      let first : MeansHere context alone o = (gives l, (side.left_means, alone_gives (TypedHere context left) l item o of_o)) in
      let second : MeansHere context alone p = (gives l, (side.left_means, alone_gives (TypedHere context left) l item p of_p)) in
      once.only o first ∙ sym (once.only p second)

  -- a fault of an item is its only outcome
  pub alone_faults : EndsOnceHere context → (left : Tree) (l : Val) (item : Tree) → SideItem left l item → (o p : Outcome) → AloneHere context (TypedHere context left) item o
      → AloneHere context (TypedHere context left) item p → ((n : ℤ) → p ≡ gives (member n) → ⊥) → o ≡ p
  alone_faults ends left l item side o p of_o (inl read) never = absurd (never read.0 read.2)
  alone_faults ends left l item side o p (inl read) (inr alone) never = absurd (alone.0 read.0 read.1)
  alone_faults ends left l item side o p (inr first) (inr second) never =
      let once = ends item side.item_type side.item_typed in
      once.only o first.1 ∙ sym (once.only p second.1)

  -- ---- what is due

  -- the left side's cost, what items have cost so far, and what the others are asked for
  pub record ItemsDue (place n : ℕ) (IsPaid : ℕ → Type 0) (left : Tree) (l : Val) (items : Trees) : Type 0 where
    pub stop : ℕ
    pub stands : StandsHere context (place + 1) stop left
    pub own : ℕ
    pub costs : CostsHere context left own
    pub paid : ℕ
    pub due : ℕ
    pub sum : n ≡ own + (paid + due)
    pub is_paid : IsPaid paid
    pub asked : ItemsCostHere (TypedHere context left) l items due

  pub due_first : (place stop n : ℕ) (IsPaid : ℕ → Type 0) (left : Tree) (l : Val) (items : Trees) → StandsHere context (place + 1) stop left → IsPaid 0
      → ((o : Outcome) → MeansHere context left o → o ≡ gives l)
      → CostAfter (MeansHere context left) (CostsHere context left) (λ v. ItemsCostHere (TypedHere context left) v items) n → ItemsDue place n IsPaid left l items
  due_first place stop n IsPaid left l items stands none_paid only after = record {
    stop = stop;
    stands = stands;
    own = after.own;
    costs = after.costs;
    paid = 0;
    due = after.rest;
    sum = let sum = after.sum in omega (arith, sum);
    is_paid = none_paid;
    asked = follows after.outcome (gives l) (λ v. ItemsCostHere (TypedHere context left) v items) after.rest (only after.outcome after.is) after.follows;
  }

  -- what is due of one item, of its comparison, and of the others
  pub record ItemDue (place n : ℕ) (IsPaid : ℕ → Type 0) (left : Tree) (l : Val) (item : Tree) (more : Trees) (v : Val) : Type 0 where
    pub stop : ℕ
    pub stands : StandsHere context (place + 1) stop left
    pub own : ℕ
    pub costs : CostsHere context left own
    pub paid : ℕ
    pub is_paid : IsPaid paid
    pub item_own : ℕ
    pub item_costs : CostsHere context item item_own
    pub later : ℕ
    pub sum : n ≡ own + (paid + (item_cost (environment_of context) + (item_own + (comparison_cost l v + later))))
    pub outcome : Outcome
    pub compared : ComparedHere (TypedHere context left) l item outcome
    pub follows_item : CostThen outcome (OthersCost Quantifier.Any (ItemsCostHere (TypedHere context left) l more)) later

  due_sum : (n own paid due first more item_own rest compared later : ℕ) → n ≡ own + (paid + due) → due ≡ first + more → more ≡ item_own + rest → rest ≡ compared + later
      → n ≡ own + (paid + (first + (item_own + (compared + later))))
  due_sum n own paid due first more item_own rest compared later a b c d = omega (arith, a, b, c, d)

  -- a number of an enumeration costs nothing beside any value
  beside_number : (l : Val) (n : ℤ) → comparison_cost l (member n) ≡ 0
  beside_number (text t) n = refl
  beside_number _ n = refl

  gives_value : (v w : Val) → gives v ≡ gives w → v ≡ w
  gives_value v w same = cc

  -- the values of an item cost the same beside the left one
  alone_costs : EndsOnceHere context → (left : Tree) (l : Val) (item : Tree) → SideItem left l item → (w v : Val) → AloneHere context (TypedHere context left) item (gives w)
      → AloneHere context (TypedHere context left) item (gives v) → comparison_cost l w ≡ comparison_cost l v
  alone_costs ends left l item side w v (inl read) (inl other) =
      let is : w ≡ member read.0 = gives_value w (member read.0) read.2 in
      let too : v ≡ member other.0 = gives_value v (member other.0) other.2 in
      subst (λ (k : Val). comparison_cost l k ≡ comparison_cost l v) (sym is)
      (subst (λ (k : Val). comparison_cost l (member read.0) ≡ comparison_cost l k) (sym too) (beside_number l read.0 ∙ sym (beside_number l other.0)))
  alone_costs ends left l item side w v (inl read) (inr alone) = absurd (alone.0 read.0 read.1)
  alone_costs ends left l item side w v (inr alone) (inl read) = absurd (alone.0 read.0 read.1)
  alone_costs ends left l item side w v (inr alone) (inr other) =
      let once = ends item side.item_type side.item_typed in
      let is : w ≡ v = gives_value w v (once.only (gives w) alone.1 ∙ sym (once.only (gives v) other.1)) in
      subst (λ (k : Val). comparison_cost l w ≡ comparison_cost l k) is refl

  abbrev pub AfterItem : (ExprType → Type 0) → Val → Trees → Val → ℕ → Type 0
  AfterItem OtherSide l more w = CostAfter (CompareGives ComparisonOperator.Eq l w) (CostsExactly (comparison_cost l w)) (OthersCost Quantifier.Any (ItemsCostHere OtherSide l more))

  module _ (ends : EndsOnceHere context) (place n : ℕ) (IsPaid : ℕ → Type 0) (left : Tree) (l : Val) (item : Tree) (more : Trees) (v : Val)
      (alone : AloneHere context (TypedHere context left) item (gives v)) (side : SideItem left l item) (it : ItemsDue place n IsPaid left l (more_trees item more)) where
    item_due_after : (item_own rest all : ℕ) (p : Outcome) → AloneHere context (TypedHere context left) item p → CostsHere context item item_own → CostThen p (AfterItem (TypedHere context left) l more) rest
        → all ≡ item_own + rest → it.due ≡ item_cost (environment_of context) + all → ItemDue place n IsPaid left l item more v
    item_due_after item_own rest all (gives w) is item_costs goes sum first =
        let cost : goes.own ≡ comparison_cost l v = goes.costs ∙ alone_costs ends left l item side w v is alone in
        let rest_is : rest ≡ comparison_cost l v + goes.rest = subst (λ (k : ℕ). rest ≡ k + goes.rest) cost goes.sum in
        record {
          stop = it.stop;
          stands = it.stands;
          own = it.own;
          costs = it.costs;
          paid = it.paid;
          is_paid = it.is_paid;
          item_own = item_own;
          item_costs = item_costs;
          later = goes.rest;
          sum = due_sum n it.own it.paid it.due (item_cost (environment_of context)) all item_own rest (comparison_cost l v) goes.rest it.sum first sum rest_is;
          outcome = goes.outcome;
          compared = (gives w, (is, goes.is));
          follows_item = goes.follows;
        }
    item_due_after item_own rest all overflow is item_costs goes sum first =
        let never : gives v ≡ overflow = alone_faults ends left l item side (gives v) overflow alone is (λ k no. cc) in
        absurd (cc)
    item_due_after item_own rest all divides_by_zero is item_costs goes sum first =
        let never : gives v ≡ divides_by_zero = alone_faults ends left l item side (gives v) divides_by_zero alone is (λ k no. cc) in
        absurd (cc)

    pub item_due : ItemDue place n IsPaid left l item more v
    item_due =
        let after = it.asked.1 in
        item_due_after after.own after.rest it.asked.0 after.outcome after.is after.costs after.follows after.sum it.asked.2
