-- What `in` before a list evaluates to, item after item from the left.
use Rattle.std.proofs.Common.{◌≡◌, ◌∙◌, ℕ, zero, suc, ◌<◌, ◌≤◌, ◌+◌, List, [], ◌∷◌, Bool, true, false, Some, Ok, length, refl, sym, subst, inl, inr, arith}
use Rattle.std.specs.Prelude.{Contains, IsTrue, ◌↔◌}
use Rattle.std.specs.List.{AllByRecursion}
use Rattle.edm_values.specs.Val.{Val, boolean, member}
use Rattle.edm_values.specs.declared.datum.Datum.{Datum}
use Rattle.edm_values.specs.declared.datum.Datum.TheVariants as datum
use Rattle.odata_syntax.specs.Spans.{list_of_trees}
use Rattle.odata_syntax.specs.Tree.{Tree, Trees, in_list, more_trees, no_trees, node}
use Rattle.odata_syntax.specs.declared.node.Quantifier.{Quantifier}
use Rattle.csdl_schema.specs.ExprType.{ExprType}
use Rattle.csdl_schema.specs.SchemaModel.{slots_of, type_name_at}
use Rattle.edm_entities.specs.HasType.{HasType}
use Rattle.edm_entities.specs.Row.{value_of}
use Rattle.odata_functions.specs.Comparable.{HaveEquality}
use Rattle.odata_functions.specs.Comparison.{AreEqual}
use Rattle.odata_functions.specs.DatumVal.{Reading, datum_val}
use Rattle.odata_syntax.specs.declared.binary_operator.ComparisonOperator.{ComparisonOperator}
use Rattle.odata_signatures.specs.CollectionTyped.{IsItemFor}
use Rattle.odata_signatures.specs.QuotedNumber.{ResolvedNumber}
use Rattle.odata_signatures.specs.Laws.{OneType}
use Rattle.odata_signatures.specs.Sides.{quoted_text, side_of, sides_of}
use Rattle.odata_checked_filter.specs.Calls.{TakesMemory}
use Rattle.odata_checked_filter.specs.Stands.{SideBySide}
use Rattle.odata_checked_filter.specs.private.Stands.{ItemsStand}
use Rattle.odata_checked_filter.specs.declared.checked_node.NodeKind.{NodeKind}
use Rattle.odata_filter_operations.specs.declared.eval_fault.EvalFault.{EvalFault}
use Rattle.odata_filter_operations.specs.CompareGives.{CompareGives}
use Rattle.odata_meaning.specs.Environment.{scope_of}
use Rattle.odata_filter_operations.specs.LambdaGives.{ItemsGive}
use Rattle.odata_filter_operations.specs.LeftFirst.{After}
use Rattle.odata_meaning.specs.Means.{ItemMeans}
use Rattle.odata_filter_operations.specs.Outcome.{Outcome, divides_by_zero, gives, overflow}
use Rattle.odata_filter_operations.specs.QuantifierGives.{Passes, QuantifierGives}
use Rattle.odata_filter_operations.specs.FaultView.{fault_outcome}
use Rattle.odata_filter_operations.specs.DatumView.{reading_at}
use Rattle.filter_context.specs.private.Place.{HasKind, IsRightOf, IsStopOf, OperandStands, PartStands}
use Rattle.filter_context.specs.private.EvalContext.{EndsOnceHere, MeansHere, OperandHere, StandsHere, TypedHere}
use Rattle.filter_context.specs.private.ContextModel.{ContextModel, environment_of}
use Rattle.odata_filter_operations.specs.Reports.{Reports}
use Rattle.odata_eval.specs.private.WalkAnswer.{AnswersDatum}
use Rattle.filter_context.specs.private.AnswersAtPlace.{AnswersAtPlace}
use Rattle.odata_meaning.proofs.meaning.Kinds.{comparable_values}
use Rattle.odata_meaning.proofs.meaning.Reads.{number_comparable, read_has}
use Rattle.odata_eval.proofs.walking.CallSteps.{behind_first}
use Rattle.odata_eval.proofs.walking.Compared.{ComparedAnyhow}
use Rattle.odata_meaning.specs.Costs.{CostAfter, OthersCost, item_cost}
use Rattle.odata_filter_operations.specs.TextCosts.{comparison_cost}
use Rattle.odata_eval.specs.private.Spending.{CostsHere}
use Rattle.odata_eval.proofs.spending.Items.{ComparedHere, ItemDue, ItemsCostHere, ItemsDue, SideItem, due_first, item_due, one_compared}
use Rattle.odata_eval.proofs.spending.Splits.{follows}
use Rattle.filter_context.proofs.Parts.{by_kind}
use Rattle.filter_context.proofs.Operands.{AloneHere, HasNone, resolved_here, resolved_operand, resolved_reports, no_number}
use Rattle.filter_context.proofs.Extents.{further, items_further_in, operand_further, operand_stops_there, stops_here, stops_there}
use Rattle.filter_context.proofs.Spines.{TypedAll, child_takes, first_child, has_type}
use Rattle.odata_eval.proofs.walking.WalkValues.{value_has}

-- the first index passes, and so do the later ones
earlier_passes : (At : ℕ → Outcome → Type 0) (count : ℕ) → Passes Quantifier.Any (At 0) → ((k : ℕ) → k < count → Passes Quantifier.Any (At (suc k)))
    → (k : ℕ) → k < suc count → Passes Quantifier.Any (At k)
earlier_passes At count first later zero before = first
earlier_passes At count first later (suc k) before = later k (omega arith)

-- what the first index does not decide, the later ones decide
pub later_places : (count : ℕ) (At : ℕ → Outcome → Type 0) (o : Outcome) → Passes Quantifier.Any (At 0)
    → QuantifierGives Quantifier.Any count (λ k. At (suc k)) o → QuantifierGives Quantifier.Any (suc count) At o
later_places count At o first (inl decides) = inl (record {
  place = suc decides.place;
  here = decides.here;
  earlier = λ k before. earlier_passes At decides.place first decides.earlier k before;
})
later_places count At o first (inr passes) = inr (record { each = earlier_passes At count first passes.each; is = passes.is })

paid_sum : (n own paid first item_own compared later : ℕ) → n ≡ own + (paid + (first + (item_own + (compared + later)))) → n ≡ own + (paid + (first + (item_own + compared)) + later)
paid_sum n own paid first item_own compared later sum = omega (arith, sum)

module _ (context : ContextModel) where
  -- the outcomes of the items beside an operand, by their indexes
  abbrev pub ItemHere : (ExprType → Type 0) → Trees → ℕ → Outcome → Type 0
  ItemHere OtherSide items = ItemMeans (slots_of context.row.schema) (type_name_at context.row.schema context.row.type_id) context.moment (value_of context.row) (environment_of context) OtherSide items

  abbrev pub ItemsHere : (ExprType → Type 0) → Val → Trees → Outcome → Type 0
  ItemsHere OtherSide l items = ItemsGive l (length (list_of_trees items)) (ItemHere OtherSide items)

  -- the value on the left, at the type of that
  abbrev pub left_at : Datum → ExprType → Val
  left_at left type = datum_val (reading_at (slots_of context.row.schema) type) left

  abbrev AllItemsFor : ExprType → Trees → List ExprType → Type 0
  AllItemsFor left items types = AllByRecursion (IsItemFor (slots_of context.row.schema) left) (sides_of items types)

  -- what stands for items beside operands of some types
  abbrev pub ListedHere : (ExprType → Type 0) → ℕ → ℕ → Trees → Type 0
  ListedHere = ItemsStand context.row.schema context.row.type_id (scope_of (environment_of context)) context.list

  pub listed_further : (OtherSide : ExprType → Type 0) (i j : ℕ) (items : Trees) → ListedHere OtherSide i j items → i ≤ j
  listed_further OtherSide i j items = items_further_in context.row.schema context.row.type_id context.list (scope_of (environment_of context)) i j OtherSide items

  pub no_more_listed : (OtherSide : ExprType → Type 0) (i j : ℕ) (tree : Tree) (more : Trees) → ListedHere OtherSide i j (more_trees tree more) → ¬ (i ≡ j)
  no_more_listed OtherSide i j tree more stand same =
      let a : i < stand.middle = operand_further context i stand.middle tree (resolved_here context OtherSide tree i stand.middle stand.left) in
      let b : stand.middle ≤ j = listed_further OtherSide stand.middle j more stand.right in
      omega arith

  -- the rest stands from where the first item stops
  pub rest_listed : (OtherSide : ExprType → Type 0) (i j stop : ℕ) (tree : Tree) (more : Trees) → IsStopOf context.list i stop → ListedHere OtherSide i j (more_trees tree more) → ListedHere OtherSide stop j more
  rest_listed OtherSide i j stop tree more stops stand =
      let same : stand.middle ≡ stop = operand_stops_there context i stand.middle stop tree (resolved_here context OtherSide tree i stand.middle stand.left) stops in
      subst (λ (m : ℕ). ListedHere OtherSide m j more) same stand.right

  -- a tree of `in` before a list
  pub record ListThere (place stop : ℕ) (tree : Tree) : Type 0 where
    pub left : Tree
    pub items : Trees
    pub sides : SideBySide (λ middle. StandsHere context (place + 1) middle left) (λ middle. ListedHere (TypedHere context left) middle stop items)
    pub typed : (type : ExprType) → TypedHere context tree type → (s : ExprType) × (types : List ExprType) × (TypedHere context left s × TypedAll context items types × AllItemsFor s items types)
    pub takes : (child : Tree) → Contains (list_of_trees items) child → TakesMemory child → TakesMemory tree
    pub means : (o : Outcome) → After (MeansHere context left) (λ l. ItemsHere (TypedHere context left) l items) o → MeansHere context tree o
    pub costs : (n : ℕ) → CostsHere context tree n → CostAfter (MeansHere context left) (CostsHere context left) (λ l. ItemsCostHere context (TypedHere context left) l items) n

  -- each tree that stands there is one
  abbrev pub AreLists : ℕ → Type 0
  AreLists place = HasNone context place × ((stop : ℕ) (tree : Tree) → StandsHere context place stop tree → ListThere place stop tree)

  pub lists_there : (place : ℕ) → HasKind context.list place NodeKind.InList → AreLists place
  lists_there place here = (
    no_number context place NodeKind.InList tt here,
    by_kind context place NodeKind.InList here (λ stop tree. ListThere place stop tree)
        (λ a items stop from to stands. record {
          left = a;
          items = items;
          sides = record { middle = stands.children.middle; left = stands.children.left; right = stands.children.right };
          typed = λ type typed. (typed.left, typed.items, (typed.left_typed, typed.items_typed, typed.makes.1));
          takes = λ child among. child_takes (node from to (in_list a items)) child (behind_first a child (list_of_trees items) among);
          means = λ o given. given;
          costs = λ n costs. costs;
        }),
  )

  -- of a tree, the items from an index on: the left side has been answered, and no earlier item is equal to it; so many
  -- as IsPaid says have been paid for these
  pub record ItemsLeft (place own at : ℕ) (IsPaid : ℕ → Type 0) (left : Datum) (tree : Tree) : Type 0 where
    pub left_tree : Tree
    pub left_type : ExprType
    pub left_typed : TypedHere context left_tree left_type
    pub left_has : HasType (slots_of context.row.schema) left_type (left_at left left_type)
    pub items : Trees
    pub types : List ExprType
    pub stand : ListedHere (TypedHere context left_tree) at own items
    pub typed : TypedAll context items types
    pub beside : AllItemsFor left_type items types
    pub takes : (child : Tree) → Contains (list_of_trees items) child → TakesMemory child → TakesMemory tree
    pub goes : (o : Outcome) → ItemsHere (TypedHere context left_tree) (left_at left left_type) items o → MeansHere context tree o
    pub left_means : MeansHere context left_tree (gives (left_at left left_type))
    pub due : (n : ℕ) → CostsHere context tree n → ItemsDue context place n IsPaid left_tree (left_at left left_type) items

  -- whatever tree stands there
  pub record ListLeft (place own at : ℕ) (IsPaid : ℕ → Type 0) (left : Datum) : Type 0 where
    pub behind : place < at
    pub within : at ≤ own
    pub none : HasNone context place
    pub of_tree : (stop : ℕ) (tree : Tree) (type : ExprType) → StandsHere context place stop tree → TypedHere context tree type → ItemsLeft place own at IsPaid left tree

  -- what stands at an index stops after it
  pub stop_further : (at stop : ℕ) → OperandStands context at → IsStopOf context.list at stop → at < stop
  stop_further at stop operand is_stop =
      let same : operand.stop ≡ stop = operand_stops_there context at operand.stop stop operand.tree operand.stands is_stop in
      let later : at < operand.stop = operand_further context at operand.stop operand.tree operand.stands in
      omega arith

  module _ (place : ℕ) (are : AreLists place) where
    pub items_there : PartStands context place → (first : ℕ) × IsRightOf context.list place first
    items_there part =
        let it = are.1 part.stop part.tree part.stands in
        (it.sides.middle, stops_here context (place + 1) it.sides.middle it.left it.sides.left)

    module _ (own : ℕ) (is_own : IsStopOf context.list place own) (at : ℕ) (is_at : IsRightOf context.list place at) (left : Datum)
        (first : AnswersDatum context (place + 1) (Ok left)) (ends : EndsOnceHere context) (part : PartStands context place) (IsPaid : ℕ → Type 0) (none_paid : IsPaid 0) where
      -- at the beginning these are all items
      all_items : (stop : ℕ) (tree : Tree) (type : ExprType) → StandsHere context place stop tree → TypedHere context tree type → ItemsLeft place own at IsPaid left tree
      all_items stop tree type stands typed =
          let it = are.1 stop tree stands in
          let sides = it.typed type typed in
          let e : stop ≡ own = stops_there context place stop own tree stands is_own in
          let f : it.sides.middle ≡ at = stops_there context (place + 1) it.sides.middle at it.left it.sides.left is_at in
          let l = left_at left sides.0 in
          let first_is : MeansHere context it.left (gives l) = first.of_tree it.sides.middle it.left sides.0 it.sides.left sides.2.0 in
          record {
            left_tree = it.left;
            left_type = sides.0;
            left_typed = sides.2.0;
            left_has = value_has context ends it.left sides.0 l sides.2.0 first_is;
            items = it.items;
            types = sides.1;
            stand = subst (λ (j : ℕ). ListedHere (TypedHere context it.left) at j it.items) e (subst (λ (i : ℕ). ListedHere (TypedHere context it.left) i stop it.items) f it.sides.right);
            typed = sides.2.1;
            beside = sides.2.2;
            takes = it.takes;
            goes = λ o given. it.means o (gives l, (first_is, given));
            left_means = first_is;
            due = λ n costs.
                due_first context place it.sides.middle n IsPaid it.left l it.items it.sides.left none_paid
                (λ o of_o. let once = ends it.left sides.0 sides.2.0 in once.only o of_o ∙ sym (once.only (gives l) first_is)) (it.costs n costs);
          }

      pub list_begins : ListLeft place own at IsPaid left
      list_begins =
          let typed = has_type context place part.stop part.tree part.stands in
          let all = all_items part.stop part.tree typed.0 part.stands typed.1 in
          let it = are.1 part.stop part.tree part.stands in
          let f : it.sides.middle ≡ at = stops_there context (place + 1) it.sides.middle at it.left it.sides.left is_at in
          let g : place + 1 < it.sides.middle = further context (place + 1) it.sides.middle it.left it.sides.left in
          record {
            behind = omega arith;
            within = listed_further (TypedHere context all.left_tree) at own all.items all.stand;
            none = are.0;
            of_tree = all_items;
          }

  module _ (place own at : ℕ) (IsPaid : ℕ → Type 0) (left : Datum) (rest : ListLeft place own at IsPaid left) where
    item_stands : (OtherSide : ExprType → Type 0) (items : Trees) → ListedHere OtherSide at own items → ¬ (at ≡ own) → OperandStands context at
    item_stands OtherSide no_trees stand further = absurd (further stand)
    item_stands OtherSide (more_trees item more) stand further = resolved_operand context OtherSide item at stand.middle stand.left

    -- the next item
    pub next_item : PartStands context place → ¬ (at ≡ own) → OperandStands context at
    next_item part further =
        let typed = has_type context place part.stop part.tree part.stands in
        let it = rest.of_tree part.stop part.tree typed.0 part.stands typed.1 in
        item_stands (TypedHere context it.left_tree) it.items it.stand further

    -- no item is left
    none_left : (OtherSide : ExprType → Type 0) (l : Val) (items : Trees) → ListedHere OtherSide at own items → at ≡ own → ItemsHere OtherSide l items (gives (boolean false))
    none_left OtherSide l no_trees stand end = inr (record { each = λ k within. absurd (omega (arith, within)); is = refl })
    none_left OtherSide l (more_trees item more) stand end = absurd (no_more_listed OtherSide at own item more stand end)

    pub no_item : at ≡ own → AnswersDatum context place (Ok (datum.Bool false))
    no_item end = record {
      of_tree = λ stop tree type stands typed.
          let it = rest.of_tree stop tree type stands typed in
          it.goes (gives (boolean false)) (none_left (TypedHere context it.left_tree) (left_at left it.left_type) it.items it.stand end);
      of_number = λ number stop tree type there. absurd (rest.none number stop tree there);
    }

    -- a fault of the next item is the outcome
    item_fault : (fault : EvalFault) (OtherSide : ExprType → Type 0) (left_type : ExprType) (whole item : Tree) (more : Trees) → (TakesMemory item → TakesMemory whole)
        → ((o : Outcome) → ItemsHere OtherSide (left_at left left_type) (more_trees item more) o → MeansHere context whole o)
        → Reports (TakesMemory item) (AloneHere context OtherSide item) (fault_outcome fault) → Reports (TakesMemory whole) (MeansHere context whole) (fault_outcome fault)
    item_fault EvalFault.Overflow OtherSide left_type whole item more takes goes is =
        goes overflow (inl (record { place = 0; here = (overflow, ((overflow, (is, refl)), refl)); earlier = λ k before. absurd (omega (arith, before)) }))
    item_fault EvalFault.DivideByZero OtherSide left_type whole item more takes goes is =
        goes divides_by_zero (inl (record { place = 0; here = (divides_by_zero, ((divides_by_zero, (is, refl)), refl)); earlier = λ k before. absurd (omega (arith, before)) }))
    item_fault EvalFault.Memory OtherSide left_type whole item more takes goes is = takes is

    faults_of : (fault : EvalFault) (left_tree : Tree) (left_type : ExprType) (whole : Tree) (items : Trees) (types : List ExprType) → ListedHere (TypedHere context left_tree) at own items
        → TypedAll context items types → ¬ (at ≡ own) → ((child : Tree) → Contains (list_of_trees items) child → TakesMemory child → TakesMemory whole)
        → ((o : Outcome) → ItemsHere (TypedHere context left_tree) (left_at left left_type) items o → MeansHere context whole o)
        → AnswersAtPlace context at (λ type. fault_outcome fault) → Reports (TakesMemory whole) (MeansHere context whole) (fault_outcome fault)
    faults_of fault left_tree left_type whole no_trees types stand typed further takes goes faults = absurd (further stand)
    faults_of fault left_tree left_type whole (more_trees item more) [] stand typed further takes goes faults = absurd typed
    faults_of fault left_tree left_type whole (more_trees item more) (t ∷ types) stand typed further takes goes faults =
        item_fault fault (TypedHere context left_tree) left_type whole item more (takes item (first_child item (list_of_trees more))) goes
        (resolved_reports context (TypedHere context left_tree) item at stand.middle t (λ type. fault_outcome fault) stand.left typed.0 faults)

    pub item_faults : ¬ (at ≡ own) → (fault : EvalFault) → AnswersAtPlace context at (λ type. fault_outcome fault) → AnswersAtPlace context place (λ type. fault_outcome fault)
    item_faults further fault faults = record {
      of_tree = λ stop tree type stands typed.
          let it = rest.of_tree stop tree type stands typed in
          faults_of fault it.left_tree it.left_type tree it.items it.types it.stand it.typed further it.takes it.goes faults;
      of_number = λ number stop tree type there. absurd (rest.none number stop tree there);
    }

    -- the next item with its value, what is due of it, and what its comparison costs
    pub record NextDue (n cost : ℕ) : Type 0 where
      pub left_tree : Tree
      pub left_val : Val
      pub tree : Tree
      pub more : Trees
      pub value : Val
      pub last : ℕ
      pub stands : OperandHere context at last tree
      pub cost_is : cost ≡ comparison_cost left_val value
      pub due : ItemDue context place n IsPaid left_tree left_val tree more value

    -- after one that is equal nothing is due
    pub record EqualDue (n cost : ℕ) : Type 0 where
      pub next : NextDue n cost
      pub none : next.due.later ≡ 0

    module _ (types_one : OneType) (item : Datum) (answers : AnswersAtPlace context at (λ type. Some (gives (left_at item type)))) (remains : ¬ (at ≡ own)) where
      -- the next item, with its type and its value
      record NextItem (left_tree : Tree) (left_type : ExprType) (whole : Tree) : Type 0 where
        tree : Tree
        more : Trees
        type_of : ExprType
        types : List ExprType
        stand : ListedHere (TypedHere context left_tree) at own (more_trees tree more)
        means : AloneHere context (TypedHere context left_tree) tree (gives (left_at item type_of))
        equality : HaveEquality (left_at left left_type) (left_at item type_of)
        typed : TypedAll context more types
        beside : AllItemsFor left_type more types
        takes : (child : Tree) → Contains (list_of_trees more) child → TakesMemory child → TakesMemory whole
        goes : (o : Outcome) → ItemsHere (TypedHere context left_tree) (left_at left left_type) (more_trees tree more) o → MeansHere context whole o
        side : SideItem context left_tree (left_at left left_type) tree
        due : (n : ℕ) → CostsHere context whole n → ItemsDue context place n IsPaid left_tree (left_at left left_type) (more_trees tree more)

      -- by its number, or by its type, it is compared with the left value
      item_equality : EndsOnceHere context → (left_tree : Tree) (s : ExprType) (l : Val) (tree : Tree) (t : ExprType) (v : Val) → TypedHere context left_tree s
          → HasType (slots_of context.row.schema) s l → TypedHere context tree t → IsItemFor (slots_of context.row.schema) s (side_of tree t)
          → AloneHere context (TypedHere context left_tree) tree (gives v) → HaveEquality l v
      item_equality ends left_tree s l tree t v left_typed has typed beside (inl read) =
          let slots = slots_of context.row.schema in
          let root = type_name_at context.row.schema context.row.type_id in
          let reads = read.1 in
          let number = subst (λ (u : ExprType). ResolvedNumber slots u (quoted_text tree) read.0)
          (types_one slots root (scope_of (environment_of context)) left_tree reads.type_of s reads.beside left_typed) reads.number in
          let given : gives v ≡ gives (member read.0) = read.2 in
          let is : v ≡ member read.0 = cc in
          subst (λ (w : Val). HaveEquality l w) (sym is)
          (comparable_values slots ComparisonOperator.Eq s s l (member read.0) (number_comparable slots s (quoted_text tree) read.0 number) has (read_has slots s (quoted_text tree) read.0 number))
      item_equality ends left_tree s l tree t v left_typed has typed (inl comparable) (inr alone) =
          comparable_values (slots_of context.row.schema) ComparisonOperator.Eq s t l v comparable has (value_has context ends tree t v typed alone.1)
      item_equality ends left_tree s l tree t v left_typed has typed (inr number) (inr alone) =
          absurd (alone.0 number.0 (record { type_of = s; beside = left_typed; number = number.1 }))

      next_of : EndsOnceHere context → (left_tree : Tree) (left_type : ExprType) (whole : Tree) (items : Trees) (types : List ExprType) → TypedHere context left_tree left_type
          → HasType (slots_of context.row.schema) left_type (left_at left left_type)
          → ListedHere (TypedHere context left_tree) at own items → TypedAll context items types → AllItemsFor left_type items types
          → ((child : Tree) → Contains (list_of_trees items) child → TakesMemory child → TakesMemory whole)
          → ((o : Outcome) → ItemsHere (TypedHere context left_tree) (left_at left left_type) items o → MeansHere context whole o)
          → MeansHere context left_tree (gives (left_at left left_type)) → ((n : ℕ) → CostsHere context whole n → ItemsDue context place n IsPaid left_tree (left_at left left_type) items) → NextItem left_tree left_type whole
      next_of ends left_tree left_type whole no_trees types left_typed has stand typed beside takes goes left_means due = absurd (remains stand)
      next_of ends left_tree left_type whole (more_trees tree more) [] left_typed has stand typed beside takes goes left_means due = absurd typed
      next_of ends left_tree left_type whole (more_trees tree more) (t ∷ types) left_typed has stand typed beside takes goes left_means due =
          let is : AloneHere context (TypedHere context left_tree) tree (gives (left_at item t)) =
          resolved_reports context (TypedHere context left_tree) tree at stand.middle t (λ type. Some (gives (left_at item type))) stand.left typed.0 answers in
          record {
            tree = tree;
            more = more;
            type_of = t;
            types = types;
            stand = stand;
            means = is;
            equality = item_equality ends left_tree left_type (left_at left left_type) tree t (left_at item t) left_typed has typed.0 beside.0 is;
            typed = typed.1;
            beside = beside.1;
            takes = λ child among. takes child (behind_first tree child (list_of_trees more) among);
            goes = goes;
            side = record { left_type = left_type; left_typed = left_typed; left_means = left_means; item_type = t; item_typed = typed.0; beside = beside.0 };
            due = due;
          }

      next_in : EndsOnceHere context → (whole : Tree) (it : ItemsLeft place own at IsPaid left whole) → NextItem it.left_tree it.left_type whole
      next_in ends whole it = next_of ends it.left_tree it.left_type whole it.items it.types it.left_typed it.left_has it.stand it.typed it.beside it.takes it.goes it.left_means it.due

      -- it may be compared with the left value
      pub may_compare_item : EndsOnceHere context → ComparedAnyhow → PartStands context place → (l r : Reading) → HaveEquality (datum_val l left) (datum_val r item)
      may_compare_item ends anyhow part l r =
          let slots = slots_of context.row.schema in
          let typed = has_type context place part.stop part.tree part.stands in
          let it = rest.of_tree part.stop part.tree typed.0 part.stands typed.1 in
          let next = next_in ends part.tree it in
          anyhow ComparisonOperator.Eq left item (reading_at slots it.left_type) (reading_at slots next.type_of) l r next.equality

      module _ (ends : EndsOnceHere context) (cost : ℕ) (costs_so : (l r : Reading) → cost ≡ comparison_cost (datum_val l left) (datum_val r item)) where
        -- what is due of the next item
        due_in : (whole left_tree : Tree) (left_type : ExprType) (next : NextItem left_tree left_type whole) (n : ℕ) → CostsHere context whole n
            → ItemDue context place n IsPaid left_tree (left_at left left_type) next.tree next.more (left_at item next.type_of)
        due_in whole left_tree left_type next n costs =
            item_due context ends place n IsPaid left_tree (left_at left left_type) next.tree next.more (left_at item next.type_of) next.means next.side (next.due n costs)

        cost_at : (s t : ExprType) → cost ≡ comparison_cost (left_at left s) (left_at item t)
        cost_at s t = costs_so (reading_at (slots_of context.row.schema) s) (reading_at (slots_of context.row.schema) t)

        due_of : (whole : Tree) (it : ItemsLeft place own at IsPaid left whole) (n : ℕ) → CostsHere context whole n → NextDue n cost
        due_of whole it n costs =
            let next = next_in ends whole it in
            record {
              left_tree = it.left_tree;
              left_val = left_at left it.left_type;
              tree = next.tree;
              more = next.more;
              value = left_at item next.type_of;
              last = next.stand.middle;
              stands = resolved_here context (TypedHere context it.left_tree) next.tree at next.stand.middle next.stand.left;
              cost_is = cost_at it.left_type next.type_of;
              due = due_in whole it.left_tree it.left_type next n costs;
            }

        pub next_due : (last : ℕ) (whole : Tree) (n : ℕ) → StandsHere context place last whole → CostsHere context whole n → NextDue n cost
        next_due last whole n stands costs =
            let has = has_type context place last whole stands in
            due_of whole (rest.of_tree last whole has.0 stands has.1) n costs

      module _ (ends : EndsOnceHere context) (answer : Bool) (compared : (l r : Reading) → IsTrue answer ↔ AreEqual (datum_val l left) (datum_val r item)) where
        abbrev compared_at : (s t : ExprType) → IsTrue answer ↔ AreEqual (left_at left s) (left_at item t)
        compared_at s t = compared (reading_at (slots_of context.row.schema) s) (reading_at (slots_of context.row.schema) t)

        -- an equal item decides
        pub item_equals : answer ≡ true → AnswersDatum context place (Ok (datum.Bool true))
        item_equals so = record {
          of_tree = λ stop tree type stands typed.
              let it = rest.of_tree stop tree type stands typed in
              let next = next_in ends tree it in
              let l = left_at left it.left_type in
              let v = left_at item next.type_of in
              let equal : AreEqual l v = (compared_at it.left_type next.type_of).0 so in
              next.goes (gives (boolean true)) (inl (record {
                place = 0;
                here = (gives (boolean true), ((gives v, (next.means, (next.equality, ((λ yes. equal), (λ same. refl))))), refl));
                earlier = λ k before. absurd (omega (arith, before));
              }));
          of_number = λ number stop tree type there. absurd (rest.none number stop tree there);
        }

        -- one that differs does not, and the others are left
        differs_here : (OtherSide : ExprType → Type 0) (l v : Val) (tree : Tree) (more : Trees) → AloneHere context OtherSide tree (gives v) → HaveEquality l v → ¬ (AreEqual l v)
            → After (ItemHere OtherSide (more_trees tree more) 0) (CompareGives ComparisonOperator.Eq l) (gives (boolean false))
        differs_here OtherSide l v tree more means equality differs = (gives v, (means, (equality, ((λ no. absurd (cc)), (λ same. absurd (differs same))))))

        passes_item : (OtherSide : ExprType → Type 0) (l v : Val) (tree : Tree) (more : Trees) → AloneHere context OtherSide tree (gives v) → HaveEquality l v → ¬ (AreEqual l v)
            → Passes Quantifier.Any (After (ItemHere OtherSide (more_trees tree more) 0) (CompareGives ComparisonOperator.Eq l))
        passes_item OtherSide l v tree more means equality differs = (boolean false, differs_here OtherSide l v tree more means equality differs, tt)

        module _ (cost : ℕ) (costs_so : (l r : Reading) → cost ≡ comparison_cost (datum_val l left) (datum_val r item)) (IsPaidNow : ℕ → Type 0)
            (pays : (last : ℕ) (tree : Tree) (paid own_cost : ℕ) → OperandHere context at last tree
            → CostsHere context tree own_cost → IsPaid paid → IsPaidNow (paid + (item_cost (environment_of context) + (own_cost + cost)))) where
          -- so it has been paid for
          whole_due : (whole left_tree : Tree) (left_type : ExprType) (next : NextItem left_tree left_type whole)
              → ComparedHere context (TypedHere context left_tree) (left_at left left_type) next.tree (gives (boolean false))
              → (n : ℕ) → CostsHere context whole n → ItemsDue context place n IsPaidNow left_tree (left_at left left_type) next.more
          whole_due whole left_tree left_type next differs n costs =
              let l = left_at left left_type in
              let it = due_in ends cost costs_so whole left_tree left_type next n costs in
              let first = item_cost (environment_of context) in
              let same = one_compared context ends left_tree l next.tree next.side it.outcome (gives (boolean false)) it.compared differs in
              let sum : n ≡ it.own + (it.paid + (first + (it.item_own + (cost + it.later)))) =
              subst (λ (k : ℕ). n ≡ it.own + (it.paid + (first + (it.item_own + (k + it.later))))) (sym (cost_at ends cost costs_so left_type next.type_of)) it.sum in
              record {
                stop = it.stop;
                stands = it.stands;
                own = it.own;
                costs = it.costs;
                paid = it.paid + (first + (it.item_own + cost));
                due = it.later;
                sum = paid_sum n it.own it.paid first it.item_own cost it.later sum;
                is_paid = pays next.stand.middle next.tree it.paid it.item_own (resolved_here context (TypedHere context left_tree) next.tree at next.stand.middle next.stand.left) it.item_costs it.is_paid;
                asked = follows it.outcome (gives (boolean false)) (OthersCost Quantifier.Any (ItemsCostHere context (TypedHere context left_tree) l next.more)) it.later same it.follows_item;
              }

        pub item_differs : answer ≡ false → PartStands context place → (stop : ℕ) → IsStopOf context.list at stop → (cost : ℕ)
            → ((l r : Reading) → cost ≡ comparison_cost (datum_val l left) (datum_val r item)) → (IsPaidNow : ℕ → Type 0)
            → ((last : ℕ) (tree : Tree) (paid own_cost : ℕ) → OperandHere context at last tree
            → CostsHere context tree own_cost → IsPaid paid → IsPaidNow (paid + (item_cost (environment_of context) + (own_cost + cost))))
            → ListLeft place own stop IsPaidNow left
        item_differs so part stop is_stop cost costs_so IsPaidNow pays =
            let has = has_type context place part.stop part.tree part.stands in
            let there = rest.of_tree part.stop part.tree has.0 part.stands has.1 in
            let found = next_in ends part.tree there in
            let OtherSide : ExprType → Type 0 = TypedHere context there.left_tree in
            let first = resolved_here context OtherSide found.tree at found.stand.middle found.stand.left in
            let middle_is : found.stand.middle ≡ stop = operand_stops_there context at found.stand.middle stop found.tree first is_stop in
            let later : at < found.stand.middle = operand_further context at found.stand.middle found.tree first in
            let over : stop ≤ own = listed_further OtherSide stop own found.more (rest_listed OtherSide at own stop found.tree found.more is_stop found.stand) in
            record {
              behind = let before : place < at = rest.behind in omega arith;
              within = over;
              none = rest.none;
              of_tree = λ j tree type stands typed.
                  let it = rest.of_tree j tree type stands typed in
                  let next = next_in ends tree it in
                  let l = left_at left it.left_type in
                  let v = left_at item next.type_of in
                  let differs : ¬ (AreEqual l v) = λ same. let e : answer ≡ true = (compared_at it.left_type next.type_of).1 same in cc in
                  record {
                    left_tree = it.left_tree;
                    left_type = it.left_type;
                    left_typed = it.left_typed;
                    left_has = it.left_has;
                    items = next.more;
                    types = next.types;
                    stand = rest_listed (TypedHere context it.left_tree) at own stop next.tree next.more is_stop next.stand;
                    typed = next.typed;
                    beside = next.beside;
                    takes = next.takes;
                    left_means = it.left_means;
                    due = whole_due cost costs_so IsPaidNow pays tree it.left_tree it.left_type next (differs_here (TypedHere context it.left_tree) l v next.tree next.more next.means next.equality differs);
                    goes = λ o given. next.goes o (later_places (length (list_of_trees next.more)) (λ k. After (ItemHere (TypedHere context it.left_tree) (more_trees next.tree next.more) k) (CompareGives ComparisonOperator.Eq l)) o
                        (passes_item (TypedHere context it.left_tree) l v next.tree next.more next.means next.equality differs) given);
                  };
            }

        -- an equal one asks for no more
        pub equal_due : answer ≡ true → (cost : ℕ) → ((l r : Reading) → cost ≡ comparison_cost (datum_val l left) (datum_val r item))
            → (last : ℕ) (whole : Tree) (n : ℕ) → StandsHere context place last whole → CostsHere context whole n → EqualDue n cost
        unfolding due_of due_in
        equal_due so cost costs_so last whole n stands costs =
            let has = has_type context place last whole stands in
            let it = rest.of_tree last whole has.0 stands has.1 in
            let next = next_in ends whole it in
            let l = left_at left it.left_type in
            let v = left_at item next.type_of in
            let equal : AreEqual l v = (compared_at it.left_type next.type_of).0 so in
            let due = due_in ends cost costs_so whole it.left_tree it.left_type next n costs in
            let yes : ComparedHere context (TypedHere context it.left_tree) l next.tree (gives (boolean true)) = (gives v, (next.means, (next.equality, ((λ yes. equal), (λ same. refl))))) in
            let same = one_compared context ends it.left_tree l next.tree next.side due.outcome (gives (boolean true)) due.compared yes in
            record {
              next = due_of ends cost costs_so whole it n costs;
              none = follows due.outcome (gives (boolean true)) (OthersCost Quantifier.Any (ItemsCostHere context (TypedHere context it.left_tree) l next.more)) due.later same due.follows_item;
            }
