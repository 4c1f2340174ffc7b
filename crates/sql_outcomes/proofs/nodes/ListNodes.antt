-- What `in` before a list evaluates to, by what its left side and its items do.
use Rattle.sql_outcomes.proofs.Common.{◌≡◌, inl, inr, ◌<◌, ◌≤◌, ◌+◌, ◌∷◌, ◌↔◌, [], ℕ, zero, suc, List, Bool, true, false, IsTrue, None, length, refl, sym, subst, ◌∙◌, arith, AllByRecursion, IsMoment, Val, boolean, member, ExprType, SchemaModel, Slots, slots_of, type_name_at, HasType, value_of, Tree, Trees, in_list, more_trees, no_trees, node, ComparisonOperator, LogicalOperator, Quantifier, AreComparableBy, ComparesTrue, IsItemFor, ResolvedNumber, OneType, ReadsNumber, quoted_text, side_of, sides_of, AreTyped, Scope, Typed, ItemsStand, Stands, CheckedNode, NodeKind, EndsOnceOnEntities, scope_of, ItemMeans, GivesMember, OperandGives, HasKind, comparable_values, CompareGives, ItemsGive, After, Then, Outcome, gives, overflow, divides_by_zero, DecisionGives, IsUndecided, Passes, QuantifierGives, Range, Operand, Source, AreAlong, chained, FaultyHave, HasOrCode, NoTruth, carrier_in, fault_else, AreItemsOf, EachCompared, ListHas, any_of, Fits, IsNodeOperand, IsSideAt, AreRanges, IsAskedOf, OfPlace, Question, World, MeansOf, means_of, by_kind, stop_is}
use Rattle.sql_outcomes.proofs.outcomes.Apart.{true_stays}
use Rattle.odata_syntax.specs.Spans.{list_of_trees}
use Rattle.odata_meaning.proofs.meaning.Reads.{number_comparable, read_has}
use Rattle.sql_outcomes.proofs.outcomes.Comparisons.{compared_truth}
use Rattle.sql_outcomes.proofs.nodes.Sides.{IsEither, OneNumber, SideComes, beside_found, node_comes, side_cases, side_comes, side_some}
use Rattle.sql_outcomes.proofs.nodes.TypedValues.{has_type}
use Rattle.sql_outcomes.proofs.nodes.Along.{items_along, too_many}

-- a comparison is true or it is not
abbrev pub Decided : Type 0
Decided = (operator : ComparisonOperator) (l r : Val) → (answer : Bool) × (IsTrue answer ↔ ComparesTrue operator l r)

-- ---- what a chain of `or` makes

overflow_stays : (es : List Outcome) → chained LogicalOperator.Or overflow es ≡ overflow
overflow_stays [] = refl
overflow_stays (e ∷ es) = overflow_stays es

by_zero_stays : (es : List Outcome) → chained LogicalOperator.Or divides_by_zero es ≡ divides_by_zero
by_zero_stays [] = refl
by_zero_stays (e ∷ es) = by_zero_stays es

-- one that decides is what all evaluate to
decides_all : (e o : Outcome) (es : List Outcome) → Then e (DecisionGives Quantifier.Any) o → o ≡ any_of (e ∷ es)
decides_all (gives (boolean true)) o es is = is ∙ sym (true_stays es)
decides_all overflow o es is = is ∙ sym (overflow_stays es)
decides_all divides_by_zero o es is = is ∙ sym (by_zero_stays es)
decides_all (gives _) o es is = absurd is

-- false decides nothing
false_first : (b : Bool) (es : List Outcome) → IsUndecided Quantifier.Any (boolean b) → any_of es ≡ any_of (gives (boolean b) ∷ es)
false_first true es is = absurd is
false_first false es is = refl

passes_first : (p : Outcome) (l v : Val) (es : List Outcome) → Then p (CompareGives ComparisonOperator.Eq l) (gives v) → IsUndecided Quantifier.Any v → any_of es ≡ any_of (gives v ∷ es)
passes_first (gives w) l v es given undecided =
    let b = compared_truth ComparisonOperator.Eq l w (gives v) given in
    let same : v ≡ boolean b.0 = cc b.1 in
    subst (λ (x : Val). any_of es ≡ any_of (gives x ∷ es)) (sym same) (false_first b.0 es (subst (IsUndecided Quantifier.Any) same undecided))
passes_first overflow l v es given undecided = let e : gives v ≡ overflow = given in absurd (cc)
passes_first divides_by_zero l v es given undecided = let e : gives v ≡ divides_by_zero = given in absurd (cc)

-- ---- the items

module _ (question : Question) (types : OneType) (ends : EndsOnceOnEntities) (is_moment : IsMoment question.now.civil question.now.offset_minutes) (one : OneNumber) (decided : Decided)
    (world : World) (seen : IsAskedOf question world) (ranges : List Range) (are : AreRanges question ranges) (left : Operand) (left_outcome : Outcome)
    (left_has : HasOrCode question.filter left.kind left.source world left_outcome) (left_fits : (v : Val) → left_outcome ≡ gives v → Fits left v)
    (left_plain : NoTruth left → carrier_in left ≡ None → (v : Val) × (left_outcome ≡ gives v)) (left_tree : Tree) (left_type : ExprType)
    (left_typed : Typed (slots_of question.filter.schema) (type_name_at question.filter.schema question.filter.filtered) (scope_of world.environment) left_tree left_type)
    (left_means : MeansOf question world seen left_tree left_outcome) where
  abbrev slots : Slots
  slots = slots_of question.filter.schema

  abbrev root : List ℕ
  root = type_name_at question.filter.schema question.filter.filtered

  abbrev scope : Scope
  scope = scope_of world.environment

  abbrev OtherSide : ExprType → Type 0
  OtherSide = Typed slots root scope left_tree

  abbrev Item : Tree → Outcome → Type 0
  Item tree = OperandGives (ReadsNumber slots OtherSide tree) (MeansOf question world seen tree)

  abbrev ItemOf : Trees → ℕ → Outcome → Type 0
  ItemOf trees = ItemMeans slots root world.now (value_of world.row) world.environment OtherSide trees

  abbrev Equal : Val → Val → Outcome → Type 0
  Equal = CompareGives ComparisonOperator.Eq

  one_type : (s t : ExprType) → OtherSide s → OtherSide t → s ≡ t
  one_type s t p q = types slots root scope left_tree s t p q

  -- ---- one item

  abbrev Side : ℕ → Operand → Type 0
  Side = IsSideAt question.filter ranges

  abbrev Either : Tree → ℕ → ℕ → Operand → Type 0
  Either tree at stop item = IsEither question.filter ranges scope OtherSide tree at stop item

  item_comes : (at stop : ℕ) (item : Operand) (tree : Tree) → Either tree at stop item → (p : Outcome) → Item tree p → SideComes question.filter item world p
  item_comes at stop item tree either p of_item = side_comes question ranges are ends is_moment world seen one OtherSide one_type tree at stop item either p of_item

  -- it evaluates to something
  -- and is comparable with the left side
  of_schema : (type : ExprType) (v : Val) → HasType (slots_of world.row.schema) type v → HasType slots type v
  of_schema type v of_type = subst (λ (s : SchemaModel). HasType (slots_of s) type v) seen.row_is.schema_is of_type

  left_of : (l : Val) → left_outcome ≡ gives l → HasType slots left_type l
  left_of l same = of_schema left_type l (has_type question ends is_moment world seen left_tree left_type l left_typed (subst (MeansOf question world seen left_tree) same left_means))

  alike : (type : ExprType) (tree : Tree) → IsItemFor slots left_type (side_of tree type) → Typed slots root scope tree type → (p : Outcome) → Item tree p → (l v : Val) → left_outcome ≡ gives l
      → p ≡ gives v → AreComparableBy ComparisonOperator.Eq l v
  alike type tree beside typed p (inl read) l v is_l is_v =
      let number : ResolvedNumber slots left_type (quoted_text tree) read.0 =
      subst (λ (t : ExprType). ResolvedNumber slots t (quoted_text tree) read.0) (one_type read.1.type_of left_type read.1.beside left_typed) read.1.number in
      let gives_it : p ≡ gives (member read.0) = read.2 in
      let is : member read.0 ≡ v = cc (gives_it, is_v) in
      comparable_values slots ComparisonOperator.Eq left_type left_type l v (number_comparable slots left_type (quoted_text tree) read.0 number) (left_of l is_l)
      (subst (HasType slots left_type) is (read_has slots left_type (quoted_text tree) read.0 number))
  alike type tree (inl beside) typed p (inr plain) l v is_l is_v =
      comparable_values slots ComparisonOperator.Eq left_type type l v beside (left_of l is_l)
      (of_schema type v (has_type question ends is_moment world seen tree type v typed (subst (MeansOf question world seen tree) is_v plain.1)))
  alike type tree (inr beside) typed p (inr plain) l v is_l is_v = absurd (plain.0 beside.0 (record { type_of = left_type; beside = left_typed; number = beside.1 }))

  given_some : (lo p : Outcome) → ((l v : Val) → lo ≡ gives l → p ≡ gives v → AreComparableBy ComparisonOperator.Eq l v) → (e : Outcome) × Then lo (λ l. Then p (Equal l)) e
  given_some (gives l) (gives v) comparable = let answer = decided ComparisonOperator.Eq l v in (gives (boolean answer.0), (comparable l v refl refl, answer.1))
  given_some (gives l) overflow comparable = (overflow, refl)
  given_some (gives l) divides_by_zero comparable = (divides_by_zero, refl)
  given_some overflow p comparable = (overflow, refl)
  given_some divides_by_zero p comparable = (divides_by_zero, refl)

  compared_item : (item : Operand) (p : Outcome) → SideComes question.filter item world p → (e : Outcome) → Then left_outcome (λ l. Then p (Equal l)) e
      → (f : FaultyHave question.filter ComparisonOperator.Eq left item world e) × (f.left_outcome ≡ left_outcome)
  compared_item item p come e given = (
    record {
      left_outcome = left_outcome;
      right_outcome = p;
      left_has = left_has;
      right_has = come.has;
      left_fits = left_fits;
      right_fits = come.fits;
      left_plain = left_plain;
      right_plain = come.plain;
      given = given;
    },
    refl,
  )

  -- ---- all of them

  abbrev Along : ℕ → ℕ → List Operand → Type 0
  Along = AreAlong question.filter Side

  abbrev StandAll : ℕ → ℕ → Trees → Type 0
  StandAll = ItemsStand question.filter.schema question.filter.filtered scope question.filter.list OtherSide

  onward_items : (at stop : ℕ) (trees : Trees) → StandAll at stop trees → at ≤ stop
  onward_items at stop no_trees stand = let same : at ≡ stop = stand in omega (arith, same)
  onward_items at stop (more_trees tree more) stand =
      let here : at < stand.middle = (beside_found question.filter scope OtherSide tree at stand.middle stand.left).further in
      let next : stand.middle ≤ stop = onward_items stand.middle stop more stand.right in
      omega (arith, here, next)

  too_few : (at stop : ℕ) (tree : Tree) (more : Trees) → StandAll at stop (more_trees tree more) → at ≡ stop → ⊥
  too_few at stop tree more stand same =
      let here : at < stand.middle = (beside_found question.filter scope OtherSide tree at stand.middle stand.left).further in
      let next : stand.middle ≤ stop = onward_items stand.middle stop more stand.right in
      absurd (omega (arith, here, next, same))

  -- the trees of the items, which stand there one after another
  pub record Listed (at stop : ℕ) (trees : Trees) (given_types : List ExprType) (items : List Operand) : Type 0 where
    pub stand : StandAll at stop trees
    pub typed : AreTyped slots root scope trees given_types
    pub beside : AllByRecursion (IsItemFor slots left_type) (sides_of trees given_types)
    pub along : Along at stop items

  -- the first of them, and the others
  record FirstListed (at stop : ℕ) (tree : Tree) (more : Trees) (type : ExprType) (given_types : List ExprType) (item : Operand) (items : List Operand) : Type 0 where
    middle : ℕ
    either : Either tree at middle item
    typed : Typed slots root scope tree type
    beside : IsItemFor slots left_type (side_of tree type)
    others : Listed middle stop more given_types items

  first_listed : (at stop : ℕ) (tree : Tree) (more : Trees) (type : ExprType) (given_types : List ExprType) (item : Operand) (items : List Operand)
      → Listed at stop (more_trees tree more) (type ∷ given_types) (item ∷ items) → FirstListed at stop tree more type given_types item items
  first_listed at stop tree more type given_types item items all =
      let along : Along at stop (item ∷ items) = all.along in
      let stand = all.stand in
      let first = beside_found question.filter scope OtherSide tree at stand.middle stand.left in
      let own : first.found ≡ along.0 = cc (first.at, along.1) in
      let stops : along.0.stop ≡ stand.middle = subst (λ (f : CheckedNode). f.stop ≡ stand.middle) own first.stops in
      record {
        middle = stand.middle;
        either = side_cases question.filter ranges scope OtherSide tree at stand.middle item along.3 stand.left;
        typed = all.typed.0;
        beside = all.beside.0;
        others = record {
          stand = stand.right;
          typed = all.typed.1;
          beside = all.beside.1;
          along = subst (λ (k : ℕ). Along k stop items) stops along.4;
        };
      }

  -- each is compared with the left side, whatever comes of it
  record AllCompared (items : List Operand) : Type 0 where
    es : List Outcome
    each : EachCompared question.filter left left_outcome items world es

  all_compared : (at stop : ℕ) (trees : Trees) (given_types : List ExprType) (items : List Operand) → Listed at stop trees given_types items → AllCompared items
  all_compared at stop no_trees given_types [] all = record { es = []; each = refl }
  all_compared at stop no_trees given_types (item ∷ items) all = absurd (too_many question.filter Side at stop item items all.along all.stand)
  all_compared at stop (more_trees tree more) given_types [] all = absurd (too_few at stop tree more all.stand all.along)
  all_compared at stop (more_trees tree more) [] (item ∷ items) all = absurd all.typed
  all_compared at stop (more_trees tree more) (type ∷ given_types) (item ∷ items) all =
      let f = first_listed at stop tree more type given_types item items all in
      let rest = all_compared f.middle stop more given_types items f.others in
      let p = side_some question ranges are ends is_moment world seen one OtherSide one_type tree at f.middle item f.either in
      let e = given_some left_outcome p.0 (λ l v is_l is_v. alike type tree f.beside f.typed p.0 p.1 l v is_l is_v) in
      let c = compared_item item p.0 (item_comes at f.middle item tree f.either p.0 p.1) e.0 e.1 in
      record { es = e.0 ∷ rest.es; each = (c.0, c.1, rest.each) }

  -- of a value on the left: the first that decides, or false
  module _ (l : Val) (is_left : left_outcome ≡ gives l) where
    of_left : (p e : Outcome) → Then p (Equal l) e → Then left_outcome (λ x. Then p (Equal x)) e
    of_left p e given = subst (λ (lo : Outcome). Then lo (λ x. Then p (Equal x)) e) (sym is_left) given

    record Walked (items : List Operand) (o : Outcome) : Type 0 where
      all : AllCompared items
      is : o ≡ any_of all.es

    abbrev EqualAt : Trees → ℕ → Outcome → Type 0
    EqualAt trees k = After (ItemOf trees k) (Equal l)

    -- by the first item, where the others are walked
    one_walked : (at stop : ℕ) (tree : Tree) (more : Trees) (type : ExprType) (given_types : List ExprType) (item : Operand) (items : List Operand) (o : Outcome)
        → FirstListed at stop tree more type given_types item items → (QuantifierGives Quantifier.Any (length (list_of_trees more)) (EqualAt more) o → Walked items o)
        → QuantifierGives Quantifier.Any (length (list_of_trees (more_trees tree more))) (EqualAt (more_trees tree more)) o → Walked (item ∷ items) o
    one_walked at stop tree more type given_types item items o f next either = by either
      where
        compared : (p e : Outcome) → Item tree p → Then p (Equal l) e → (g : FaultyHave question.filter ComparisonOperator.Eq left item world e) × (g.left_outcome ≡ left_outcome)
        compared p e of_item given = compared_item item p (item_comes at f.middle item tree f.either p of_item) e (of_left p e given)

        -- it is decided here
        here : After (EqualAt (more_trees tree more) zero) (DecisionGives Quantifier.Any) o → Walked (item ∷ items) o
        here (e, (of_item, decision)) =
            let rest = all_compared f.middle stop more given_types items f.others in
            let c = compared of_item.0 e of_item.1.0 of_item.1.1 in
            record { all = record { es = e ∷ rest.es; each = (c.0, c.1, rest.each) }; is = decides_all e o rest.es decision }

        -- it is not
        further : Passes Quantifier.Any (EqualAt (more_trees tree more) zero) → Walked items o → Walked (item ∷ items) o
        further passes rest =
            let of_item : After (ItemOf (more_trees tree more) zero) (Equal l) (gives passes.0) = passes.1 in
            let c = compared of_item.0 (gives passes.0) of_item.1.0 of_item.1.1 in
            record { all = record { es = gives passes.0 ∷ rest.all.es; each = (c.0, c.1, rest.all.each) }; is = rest.is ∙ passes_first of_item.0 l passes.0 rest.all.es of_item.1.1 passes.2 }

        at_place : (k : ℕ) → After (EqualAt (more_trees tree more) k) (DecisionGives Quantifier.Any) o → ((j : ℕ) → j < k → Passes Quantifier.Any (EqualAt (more_trees tree more) j)) → Walked (item ∷ items) o
        at_place zero decision earlier = here decision
        at_place (suc k) decision earlier =
            further (earlier zero (omega arith)) (next (inl (record { place = k; here = decision; earlier = λ j before. earlier (suc j) (omega (arith, before)) })))

        by : QuantifierGives Quantifier.Any (length (list_of_trees (more_trees tree more))) (EqualAt (more_trees tree more)) o → Walked (item ∷ items) o
        by (inl decides) = at_place decides.place decides.here decides.earlier
        by (inr passes) = further (passes.each zero (omega arith)) (next (inr (record { each = λ j before. passes.each (suc j) (omega (arith, before)); is = passes.is })))

    walked : (at stop : ℕ) (trees : Trees) (given_types : List ExprType) (items : List Operand) (o : Outcome) → Listed at stop trees given_types items
        → QuantifierGives Quantifier.Any (length (list_of_trees trees)) (EqualAt trees) o → Walked items o
    walked at stop no_trees given_types [] o all (inl decides) = absurd decides.here.1.0.1.0
    walked at stop no_trees given_types [] o all (inr passes) = record { all = record { es = []; each = refl }; is = passes.is }
    walked at stop no_trees given_types (item ∷ items) o all either = absurd (too_many question.filter Side at stop item items all.along all.stand)
    walked at stop (more_trees tree more) given_types [] o all either = absurd (too_few at stop tree more all.stand all.along)
    walked at stop (more_trees tree more) [] (item ∷ items) o all either = absurd all.typed
    walked at stop (more_trees tree more) (type ∷ given_types) (item ∷ items) o all either =
        let f = first_listed at stop tree more type given_types item items all in
        one_walked at stop tree more type given_types item items o f (walked f.middle stop more given_types items o f.others) either

  -- all items, whatever the left side evaluates to
  pub items_come : (at stop : ℕ) (trees : Trees) (given_types : List ExprType) (items : List Operand) (o : Outcome) → Listed at stop trees given_types items
      → Then left_outcome (λ l. ItemsGive l (length (list_of_trees trees)) (ItemOf trees)) o → ListHas question.filter left items world o
  items_come at stop trees given_types items o all given = by left_outcome refl given
    where
      of_all : (some : AllCompared items) → o ≡ fault_else left_outcome (any_of some.es) → ListHas question.filter left items world o
      of_all some is = record {
        left_outcome = left_outcome;
        left_has = left_has;
        left_fits = left_fits;
        left_plain = left_plain;
        outcomes = some.es;
        each = some.each;
        is = is;
      }

      by : (lo : Outcome) → left_outcome ≡ lo → Then lo (λ l. ItemsGive l (length (list_of_trees trees)) (ItemOf trees)) o → ListHas question.filter left items world o
      by (gives l) same goes =
          let w = walked l same at stop trees given_types items o all goes in
          of_all w.all (subst (λ (x : Outcome). o ≡ fault_else x (any_of w.all.es)) (sym same) w.is)
      by _ same goes =
          let some = all_compared at stop trees given_types items all in
          of_all some (subst (λ (x : Outcome). o ≡ fault_else x (any_of some.es)) (sym same) goes)

-- ---- the node

module _ (question : Question) (types : OneType) (ends : EndsOnceOnEntities) (is_moment : IsMoment question.now.civil question.now.offset_minutes) (one : OneNumber) (decided : Decided)
    (ranges : List Range) (are : AreRanges question ranges) (place : ℕ) (left : Operand) (left_source : left.source ≡ Source.Node (place + 1))
    (left_is : IsNodeOperand question.filter ranges left (place + 1)) (items : List Operand) (world : World) (o : Outcome) (seen : IsAskedOf question world) where
  abbrev StandsHere : ℕ → Tree → Type 0
  StandsHere = Stands question.filter.schema question.filter.filtered (scope_of world.environment) question.filter.list place

  there : AreItemsOf question.filter ranges place items → (left_tree : Tree) (trees : Trees) (stop from to : ℕ) → (stands : StandsHere stop (node from to (in_list left_tree trees)))
      → MeansOf question world seen (node from to (in_list left_tree trees)) o → ListHas question.filter left items world o
  there are_items left_tree trees stop from to stands (lo, (means, goes)) =
      items_come question types ends is_moment one decided world seen ranges are left lo left_comes.has left_comes.fits left_comes.plain left_tree stands.top.typed.left stands.top.typed.left_typed means
      stands.children.middle stop trees stands.top.typed.items items o
      (record { stand = stands.children.right; typed = stands.top.typed.items_typed; beside = stands.top.typed.makes.1; along = along }) goes
    where
      left_comes : SideComes question.filter left world lo
      left_comes = node_comes question ranges are ends is_moment world seen (place + 1) stands.children.middle left left_tree (record { source = left_source; is = left_is }) stands.children.left lo means

      stops : left_is.node.stop ≡ stands.children.middle
      stops = stop_is question.filter.schema question.filter.filtered (scope_of world.environment) question.filter.list (place + 1) left_is.node left_is.at stands.children.middle left_tree stands.children.left

      along : AreAlong question.filter (IsSideAt question.filter ranges) stands.children.middle stop items
      along =
          subst (λ (j : ℕ). AreAlong question.filter (IsSideAt question.filter ranges) j stop items) stops
          (subst (λ (j : ℕ). AreAlong question.filter (IsSideAt question.filter ranges) left_is.node.stop j items) stands.top.last (items_along question.filter ranges place items are_items stands.top.found left_is.node stands.top.stands_at left_is.at))

  pub list_comes : HasKind question.filter.list place NodeKind.InList → AreItemsOf question.filter ranges place items → OfPlace question.filter place world o → ListHas question.filter left items world o
  list_comes here are_items has =
      by_kind question.filter.schema question.filter.filtered (scope_of world.environment) question.filter.list place NodeKind.InList here
      (λ stop tree. MeansOf question world seen tree o → ListHas question.filter left items world o)
      (λ left_tree trees stop from to stands means. there are_items left_tree trees stop from to stands means)
      has.1.stop has.0 has.1.stands (means_of question world seen has.0 o has.2)
