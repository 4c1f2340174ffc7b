-- What `in` before a list and calls evaluate to lies within the ranges that are made for them.
use Rattle.odata_ranges.proofs.Common.{◌≡◌, inl, inr, ℕ, zero, suc, ◌<◌, ◌≤◌, ◌+◌, List, [], ◌∷◌, Bool, true, false, Some, length, slice_get, refl, sym, subst, arith, IsSomeAnd, Date, Val, null, whole, text, date, moment, PrimitiveType, Tree, Trees, call, in_list, more_trees, no_trees, node, Any, ExprType, single, primitive, Slots, slots_of, type_name_at, HasType, ComparesTrue, Eq, IsNamed, Function, expr_type, Filter, AllStand, ChildrenStand, ItemsStand, AllLie, Lies, CheckedNode, NodeKind, stands_lie, lies_nonempty, Scope, TypedEndsOnce, scope_of, ArgumentsMean, ItemMeans, some_there, CallGives, UnlessNull, has_null, CompareGives, FunctionGives, ItemsGive, After, Then, Outcome, gives, overflow, divides_by_zero, AreWithin, CalledWithin, IsSpellable, AreRangesFrom, HoldsRange, IsContextOf, MeansIn, CheckContext, IsValueWithin, IsWithin, Range, AllPlaced, Covers, CoversLine}
use Rattle.odata_syntax.specs.Spans.{list_of_trees}
use Rattle.filter_context.proofs.Extents.{all_further_in, further_in}
use Rattle.odata_ranges.proofs.Forms.{StandsIn, TypedIn, holds_by, lies, stop_there, top_node, type_there, value_has}
use Rattle.odata_ranges.proofs.Layouts.{stop_there as stop_lies}
use Rattle.odata_ranges.proofs.Holding.{FaultsWithin, after_within, faults_pass}
use Rattle.odata_ranges.proofs.HoldingTwo.{compare_faults, member_faults, quantified_within}
use Rattle.odata_ranges.proofs.StandingLies.{all_lie, items_lie, resolved_lies}

after_faults : (result : Range) (Operand : Outcome → Type 0) (Goes : Val → Outcome → Type 0) (x : Outcome) → ((y : Outcome) → Operand y → FaultsWithin result y)
    → ((v : Val) → Goes v x → FaultsWithin result x) → After Operand Goes x → FaultsWithin result x
after_faults result Operand Goes x faults goes given = by given.0 given.1.0 given.1.1
  where
    by : (y : Outcome) → Operand y → Then y Goes x → FaultsWithin result x
    by (gives v) is then = goes v then
    by overflow is then = subst (FaultsWithin result) (sym then) (faults overflow is)
    by divides_by_zero is then = subst (FaultsWithin result) (sym then) (faults divides_by_zero is)

-- ---- trees in line

module _ (filter : Filter) (ranges : List Range) (first : ℕ) (known : AreRangesFrom filter first ranges) (flags : Range) where
  -- what stands after the first of them
  pub next_placed : (scope : Scope) (i middle : ℕ) (tree : Tree) (more : Trees) → Lies filter.schema filter.filtered scope filter.list i middle tree
      → IsSomeAnd (slice_get filter.list.nodes i) (λ found. AllPlaced filter.list ranges (Covers flags) found.stop more)
      → AllPlaced filter.list ranges (Covers flags) middle more
  next_placed scope i middle tree more stands placed =
      let there = some_there (λ found. AllPlaced filter.list ranges (Covers flags) found.stop more) (slice_get filter.list.nodes i) placed in
      subst (λ (m : ℕ). AllPlaced filter.list ranges (Covers flags) m more) (stop_lies filter scope i there.0 there.1.0 middle tree stands) there.1.1

  -- the range of the first of them
  pub placed_range : (i : ℕ) → first ≤ i → IsSomeAnd (slice_get ranges i) (Covers flags)
      → (range : Range) × (slice_get ranges i ≡ Some range) × Covers flags range × HoldsRange filter i range
  placed_range i from placed =
      let there = some_there (Covers flags) (slice_get ranges i) placed in
      (there.0, there.1.0, there.1.1, (known i there.0 from there.1.0).holds)

  module _ (context : CheckContext) (is : IsContextOf filter context) (result : Range) (passes : flags.may_fault ≡ true → result.may_fault ≡ true) where
    pub tree_faults : (i middle : ℕ) (tree : Tree) (x : Outcome) → first ≤ i → StandsIn filter (scope_of context.environment) i middle tree
        → IsSomeAnd (slice_get ranges i) (Covers flags) → MeansIn filter context tree x → FaultsWithin result x
    tree_faults i middle tree x from stands placed means =
        let there = placed_range i from placed in
        faults_pass there.0 result x (λ may. passes (there.2.fault may)) (there.3 context tree middle x is stands means)

    pub item_faults : (OtherSide : ExprType → Type 0) (i j : ℕ) (trees : Trees) (k : ℕ) (x : Outcome) → first ≤ i
        → ItemsStand filter.schema filter.filtered (scope_of context.environment) filter.list OtherSide i j trees → AllPlaced filter.list ranges (Covers flags) i trees
        → ItemMeans (slots_of filter.schema) (type_name_at filter.schema filter.filtered) context.now context.entity context.environment OtherSide trees k x → FaultsWithin result x
    item_faults OtherSide i j no_trees k x from stand placed given = absurd given
    item_faults OtherSide i j (more_trees tree more) zero x from stand placed given = elim given [
      | inl read ↦ member_faults result read.0 x read.2
      | inr unread ↦ elim stand.left [
        | inl number ↦ absurd (unread.0 number.0 number.1)
        | inr alone ↦ tree_faults i stand.middle tree x from alone.1 placed.0 unread.1
      ]
    ]
    item_faults OtherSide i j (more_trees tree more) (suc k) x from stand placed given =
        let scope = scope_of context.environment in
        let there = resolved_lies filter.schema filter.filtered scope filter.list OtherSide tree (λ a b. StandsIn filter scope a b tree) i stand.middle (lies filter scope i stand.middle tree) stand.left in
        let onward = lies_nonempty filter.schema filter.filtered scope filter.list i stand.middle tree there in
        item_faults OtherSide stand.middle j more k x (omega (arith, from, onward)) stand.right (next_placed scope i stand.middle tree more there placed.1) given

    -- what the trees evaluate to, each a value
    abbrev pub ValuesOf : Trees → List Val → Type 0
    ValuesOf no_trees [] = Unit {0}
    ValuesOf (more_trees tree more) (v ∷ values) = MeansIn filter context tree (gives v) × ValuesOf more values
    ValuesOf _ _ = ⊥

    pub arguments_within : (i j : ℕ) (trees : Trees) (o : Outcome) (Goes : List Val → Outcome → Type 0) → first ≤ i
        → AllStand filter.schema filter.filtered (scope_of context.environment) filter.list i j trees → AllPlaced filter.list ranges (Covers flags) i trees
        → ((values : List Val) → ValuesOf trees values → Goes values o → IsWithin result o)
        → ArgumentsMean (slots_of filter.schema) (type_name_at filter.schema filter.filtered) context.now context.entity context.environment trees Goes o → IsWithin result o
    arguments_within i j no_trees o Goes from stand placed goes given = goes [] tt given
    arguments_within i j (more_trees tree more) o Goes from stand placed goes given =
        let onward = further_in filter.schema filter.filtered filter.list (scope_of context.environment) i stand.middle tree stand.left in
        after_within result (MeansIn filter context tree) (λ v. ArgumentsMean (slots_of filter.schema) (type_name_at filter.schema filter.filtered) context.now context.entity context.environment more (λ values. Goes (v ∷ values))) o (λ x means. tree_faults i stand.middle tree x from stand.left placed.0 means)
        (λ v means later. arguments_within stand.middle j more o (λ values. Goes (v ∷ values)) (omega (arith, from, onward)) stand.right
        (next_placed (scope_of context.environment) i stand.middle tree more (lies filter (scope_of context.environment) i stand.middle tree stand.left) placed.1)
        (λ values are given_all. goes (v ∷ values) (means, are) given_all) later)
        given

    pub null_among : (i j : ℕ) (trees : Trees) (values : List Val) → first ≤ i
        → AllStand filter.schema filter.filtered (scope_of context.environment) filter.list i j trees → AllPlaced filter.list ranges (Covers flags) i trees
        → ValuesOf trees values → has_null values ≡ true → flags.may_be_null ≡ true
    null_among i j no_trees [] from stand placed are none = absurd (cc)
    null_among i j no_trees (v ∷ values) from stand placed are none = absurd are
    null_among i j (more_trees tree more) [] from stand placed are none = absurd are
    null_among i j (more_trees tree more) (null ∷ values) from stand placed are none =
        let there = placed_range i from placed.0 in
        there.2.null (there.3 context tree stand.middle (gives null) is stand.left are.0)
    null_among i j (more_trees tree more) (_ ∷ values) from stand placed are none =
        let onward = further_in filter.schema filter.filtered filter.list (scope_of context.environment) i stand.middle tree stand.left in
        null_among stand.middle j more values (omega (arith, from, onward)) stand.right
        (next_placed (scope_of context.environment) i stand.middle tree more (lies filter (scope_of context.environment) i stand.middle tree stand.left) placed.1) are.1 none

-- ---- in before a list

module _ (filter : Filter) (place : ℕ) (found : CheckedNode) (at : slice_get filter.list.nodes place ≡ Some found) (ranges : List Range)
    (known : AreRangesFrom filter (place + 1) ranges) (flags result : Range) (covers : CoversLine filter ranges flags (place + 1) found.stop)
    (passes : flags.may_fault ≡ true → result.may_fault ≡ true) where
  list_given : (context : CheckContext) → IsContextOf filter context → (s from to : ℕ) (left : Tree) (listed : Trees) (o : Outcome)
      → StandsIn filter (scope_of context.environment) place s (node from to (in_list left listed)) → MeansIn filter context (node from to (in_list left listed)) o
      → IsWithin result o
  list_given context is s from to left listed o stands given =
      let scope = scope_of context.environment in
      let same : found.stop ≡ s = stop_there filter scope place found at s (node from to (in_list left listed)) stands in
      let all : ChildrenStand filter.schema filter.filtered scope filter.list (place + 1) found.stop (in_list left listed) =
      subst (λ (m : ℕ). ChildrenStand filter.schema filter.filtered scope filter.list (place + 1) m (in_list left listed)) (sym same) stands.children in
      let lying : AllLie filter.schema filter.filtered scope filter.list (place + 1) found.stop (more_trees left listed) =
      record {
        middle = all.middle;
        left = stands_lie filter.schema filter.filtered scope filter.list (place + 1) all.middle left all.left;
        right = items_lie filter.schema filter.filtered scope filter.list (TypedIn filter scope left) all.middle found.stop listed all.right;
      } in
      let placed = covers scope (more_trees left listed) lying in
      let onward = further_in filter.schema filter.filtered filter.list scope (place + 1) all.middle left all.left in
      let Item : ℕ → Outcome → Type 0 = ItemMeans (slots_of filter.schema) (type_name_at filter.schema filter.filtered) context.now context.entity context.environment (TypedIn filter scope left) listed in
      after_within result (MeansIn filter context left) (λ l. ItemsGive l (length (list_of_trees listed)) Item) o
      (λ x means. tree_faults filter ranges (place + 1) known flags context is result passes (place + 1) all.middle left x (omega arith) all.left placed.0 means)
      (λ l means goes. quantified_within result Any (length (list_of_trees listed)) (λ k. After (Item k) (CompareGives Eq l)) o
      (λ k x item. after_faults result (Item k) (CompareGives Eq l) x
      (λ y means_y. item_faults filter ranges (place + 1) known flags context is result passes (TypedIn filter scope left) all.middle found.stop listed k y (omega (arith, onward)) all.right
      (next_placed filter ranges (place + 1) known flags scope (place + 1) all.middle left listed (lies filter scope (place + 1) all.middle left all.left) placed.1) means_y)
      (λ v compared. compare_faults result (ComparesTrue Eq l v) x compared.1) item)
      goes)
      given

  pub list_holds : found.kind ≡ NodeKind.InList → HoldsRange filter place result
  list_holds kind_is = holds_by filter place found at result NodeKind.InList kind_is
      (λ left listed context is s from to o stands given. list_given context is s from to left listed o stands given)

-- ---- calls

spellable : (slots : Slots) (type : ExprType) (v : Val) → HasType slots type v → IsSpellable v
spellable slots (single (primitive PrimitiveType.String)) (text s) has = has
spellable slots (single (primitive PrimitiveType.Date)) (date d) has = has
spellable slots (single (primitive PrimitiveType.DateTimeOffset)) (moment m) has = has
spellable slots _ (text s) has = absurd has
spellable slots _ (date d) has = absurd has
spellable slots _ (moment m) has = absurd has
spellable slots _ _ has = tt

value_wider : (base result : Range) (v : Val) → (base.may_be_null ≡ true → result.may_be_null ≡ true) → result.low ≡ base.low → result.high ≡ base.high
    → IsValueWithin base v → IsValueWithin result v
value_wider base result null nulls low high within = nulls within
value_wider base result (whole n) nulls low high within = rw (low, high) within
value_wider base result (text s) nulls low high within = rw (low, high) within
value_wider base result _ nulls low high within = tt

pub wider_within : (base result : Range) (o : Outcome) → (base.may_fault ≡ true → result.may_fault ≡ true) → (base.may_be_null ≡ true → result.may_be_null ≡ true)
    → result.low ≡ base.low → result.high ≡ base.high → IsWithin base o → IsWithin result o
wider_within base result (gives v) faults nulls low high within = value_wider base result v nulls low high within
wider_within base result _ faults nulls low high within = faults within

module _ (ends : TypedEndsOnce) (filter : Filter) (place : ℕ) (found : CheckedNode) (at : slice_get filter.list.nodes place ≡ Some found) (ranges : List Range)
    (known : AreRangesFrom filter (place + 1) ranges) (flags result : Range) (covers : CoversLine filter ranges flags (place + 1) found.stop)
    (passes : flags.may_fault ≡ true → result.may_fault ≡ true) where
  argument_within : (context : CheckContext) → IsContextOf filter context → (i middle : ℕ) (tree : Tree) (range : Range) (v : Val) → place + 1 ≤ i
      → StandsIn filter (scope_of context.environment) i middle tree → slice_get ranges i ≡ Some range → MeansIn filter context tree (gives v)
      → IsSpellable v × IsValueWithin range v
  argument_within context is i middle tree range v from stands range_at means =
      let top = top_node filter (scope_of context.environment) i middle tree stands in
      let typed = type_there filter (scope_of context.environment) i top.0 top.1 middle tree stands in (
        spellable (slots_of filter.schema) (expr_type filter.schema top.0.edm_type) v
            (value_has ends filter context is tree (expr_type filter.schema top.0.edm_type) v typed means),
        (known i range from range_at).holds context tree middle (gives v) is stands means,
      )

  values_within : (context : CheckContext) → (is : IsContextOf filter context) → (arguments : Trees) (values : List Val) (first second : Range) → slice_get ranges (place + 1) ≡ Some first
      → ((one : CheckedNode) → slice_get filter.list.nodes (place + 1) ≡ Some one → one.stop < found.stop → slice_get ranges one.stop ≡ Some second)
      → AllStand filter.schema filter.filtered (scope_of context.environment) filter.list (place + 1) found.stop arguments
      → ValuesOf filter ranges (place + 1) known flags context is result passes arguments values → AreWithin first second values
  values_within context is no_trees [] first second first_at second_at stand are = tt
  values_within context is (more_trees tree no_trees) (v ∷ []) first second first_at second_at stand are =
      argument_within context is (place + 1) stand.middle tree first v (omega arith) stand.left first_at are.0
  values_within context is (more_trees tree (more_trees other more)) (v ∷ w ∷ values) first second first_at second_at stand are =
      let scope = scope_of context.environment in
      let top = top_node filter scope (place + 1) stand.middle tree stand.left in
      let same : top.0.stop ≡ stand.middle = stop_there filter scope (place + 1) top.0 top.1 stand.middle tree stand.left in
      let further = further_in filter.schema filter.filtered filter.list scope (place + 1) stand.middle tree stand.left in
      let next = further_in filter.schema filter.filtered filter.list scope stand.middle stand.right.middle other stand.right.left in
      let last = all_further_in filter.schema filter.filtered filter.list scope stand.right.middle found.stop more stand.right.right in
      let before : top.0.stop < found.stop = omega (arith, same, next, last) in (
        argument_within context is (place + 1) stand.middle tree first v (omega arith) stand.left first_at are.0,
        argument_within context is stand.middle stand.right.middle other second w (omega (arith, further)) stand.right.left
            (subst (λ (m : ℕ). slice_get ranges m ≡ Some second) same (second_at top.0 top.1 before)) are.1.0,
      )
  values_within context is (more_trees tree no_trees) (v ∷ w ∷ values) first second first_at second_at stand are = absurd are.1
  values_within context is (more_trees tree (more_trees other more)) (v ∷ []) first second first_at second_at stand are = absurd are.1
  values_within context is _ _ first second first_at second_at stand are = absurd are

  given_within : (context : CheckContext) → (is : IsContextOf filter context) → (function : Function) (arguments : Trees) (values : List Val) (first second base : Range) (o : Outcome) (nulls : Bool)
      → has_null values ≡ nulls → (flags.may_be_null ≡ true → result.may_be_null ≡ true)
      → CalledWithin function first second base → (IsWithin base o → IsWithin result o)
      → AllStand filter.schema filter.filtered (scope_of context.environment) filter.list (place + 1) found.stop arguments
      → AllPlaced filter.list ranges (Covers flags) (place + 1) arguments
      → ValuesOf filter ranges (place + 1) known flags context is result passes arguments values → AreWithin first second values
      → UnlessNull nulls (FunctionGives context.now function values) o → IsWithin result o
  given_within context is function arguments values first second base o true none null_passes called wider stand placed are within given =
      subst (IsWithin result) (sym given)
      (null_passes (null_among filter ranges (place + 1) known flags context is result passes (place + 1) found.stop arguments values (omega arith) stand placed are none))
  given_within context is function arguments values first second base o false none null_passes called wider stand placed are within given =
      wider (called context.now values o within given)

  pub call_holds : ((f g : Function) (name : List ℕ) → IsNamed f name → IsNamed g name → f ≡ g) → (function : Function) (first second base : Range) → found.kind ≡ NodeKind.Call function
      → slice_get ranges (place + 1) ≡ Some first
      → ((one : CheckedNode) → slice_get filter.list.nodes (place + 1) ≡ Some one → one.stop < found.stop → slice_get ranges one.stop ≡ Some second)
      → CalledWithin function first second base → ((o : Outcome) → IsWithin base o → IsWithin result o) → (flags.may_be_null ≡ true → result.may_be_null ≡ true)
      → HoldsRange filter place result
  call_holds one function first second base kind_is first_at second_at called wider null_passes = holds_by filter place found at result (NodeKind.Call function) kind_is
      (λ asked arguments named later context is s from to o stands_there given.
      let scope = scope_of context.environment in
      let stops : found.stop ≡ s = stop_there filter scope place found at s (node from to (call asked arguments)) stands_there in
      let all : AllStand filter.schema filter.filtered scope filter.list (place + 1) found.stop arguments =
      subst (λ (m : ℕ). AllStand filter.schema filter.filtered scope filter.list (place + 1) m arguments) (sym stops) stands_there.children in
      let placed = covers scope arguments (all_lie filter.schema filter.filtered scope filter.list (place + 1) found.stop arguments all) in
      let same : given.function ≡ function = one given.function function asked given.named named in
      let meant = subst (λ (f : Function). ArgumentsMean (slots_of filter.schema) (type_name_at filter.schema filter.filtered) context.now context.entity context.environment arguments
      (CallGives context.now f) o) same given.given in
      arguments_within filter ranges (place + 1) known flags context is result passes (place + 1) found.stop arguments o (CallGives context.now function) (omega arith) all placed
      (λ values are goes. given_within context is function arguments values first second base o (has_null values) refl null_passes called (wider o) all placed are
      (values_within context is arguments values first second first_at second_at all are) goes)
      meant)
