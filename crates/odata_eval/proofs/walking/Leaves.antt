-- What a node without operands evaluates to: the value that is stored for it.
use Rattle.std.proofs.Common.{◌≡◌, ◌∙◌, ◌+◌, ℕ, ◌<◌, ◌≤◌, [], ◌∷◌, arith, inl, inr, refl, subst, sym, ℤ, List, MatchOption, Option, Some, length, ap, rules}
use Rattle.std.specs.Prelude.{IsSomeAnd, slice_get, string_bytes}
use Rattle.std.proofs.lemmas.Option.{slice_get_within}
use Rattle.edm_values.specs.PlainVal.{plain_val}
use Rattle.edm_values.specs.Val.{Val, null, boolean, whole, text, date, moment, guid, member}
use Rattle.edm_values.specs.declared.value.Value.{Value, Null, Bool, Int, Text, Date, Moment, Guid, Enum, Record', Sparse', List', the_lemmas}
use Rattle.odata_syntax.specs.Tree.{Tree, Trees, literal, more_trees, name, no_trees, node}
use Rattle.odata_syntax.specs.declared.node.LiteralKind.{LiteralKind}
use Rattle.csdl_schema.specs.ExprType.{ExprType}
use Rattle.csdl_schema.specs.SchemaModel.{Slots, properties_at, slots_of}
use Rattle.edm_entities.specs.Row.{val_of, value_of}
use Rattle.odata_signatures.specs.Typed.{PropertyTyped, variable_type}
use Rattle.odata_checked_filter.specs.declared.checked_node.NodeKind.{NodeKind}
use Rattle.odata_checked_filter.specs.Stands.{HasOwnValue, IsValueOf}
use Rattle.odata_meaning.specs.Environment.{scope_of, variable_value}
use Rattle.odata_meaning.specs.NameGives.{FoundGives}
use Rattle.odata_filter_operations.specs.Outcome.{Outcome, gives}
use Rattle.filter_context.specs.Frames.{StandsAtLevel, names_of}
use Rattle.filter_context.specs.private.Place.{HasKind, IsRightOf, IsStopOf, OperandStands}
use Rattle.filter_context.specs.private.EvalContext.{HoldsAt, MeansHere, NumberHere, StandsHere, TypedHere}
use Rattle.filter_context.specs.private.ContextModel.{ContextModel, environment_of}
use Rattle.odata_eval.specs.private.WalkAnswer.{AnswersKept}
use Rattle.odata_signatures.specs.Functions.{IsNamed, row_of}
use Rattle.odata_signatures.specs.declared.function.Function.{Function}
use Rattle.odata_signatures.specs.CallTyped.{CallTyped}
use Rattle.odata_filter_operations.specs.CallGives.{CallGives}
use Rattle.filter_context.proofs.Extents.{stops_here}
use Rattle.filter_context.proofs.Operands.{NumberThere, no_number, number_there, one_kind, tree_of_kind}
use Rattle.filter_context.proofs.Parts.{by_kind, found_there, inside, kind_there}
use Rattle.filter_context.proofs.Spines.{MeanAll, TypedAll, only_now}
use Rattle.odata_eval.proofs.walking.SlotValue.{named_within, slot_value}
use Rattle.filter_context.proofs.Variables.{level_below, unbound, variable_gives}

-- a value without parts stands for the same at each type
pub plain_is : (slots : Slots) (type : ExprType) (value : Value) (v : Val) → plain_val value ≡ Some v → val_of value slots.properties type ≡ v
plain_is slots type Null v is = let same : val_of Null slots.properties type ≡ null = search (rules, the_lemmas) in cc
plain_is slots type (Bool b) v is = let same : val_of (Bool b) slots.properties type ≡ boolean b = search (rules, the_lemmas) in cc
plain_is slots type (Int n) v is = let same : val_of (Int n) slots.properties type ≡ whole n = search (rules, the_lemmas) in cc
plain_is slots type (Text s) v is = let same : val_of (Text s) slots.properties type ≡ text (string_bytes s) = search (rules, the_lemmas) in cc
plain_is slots type (Date d) v is = let same : val_of (Date d) slots.properties type ≡ date d = search (rules, the_lemmas) in cc
plain_is slots type (Moment m) v is = let same : val_of (Moment m) slots.properties type ≡ moment m = search (rules, the_lemmas) in cc
plain_is slots type (Guid g) v is = let same : val_of (Guid g) slots.properties type ≡ guid g = search (rules, the_lemmas) in cc
plain_is slots type (Enum n) v is = let same : val_of (Enum n) slots.properties type ≡ member n = search (rules, the_lemmas) in cc
plain_is slots type (Record' shape all) v is = absurd (cc)
plain_is slots type (Sparse' shape all) v is = absurd (cc)
plain_is slots type (List' shape all) v is = absurd (cc)

module _ (context : ContextModel) (place : ℕ) where
  -- a literal has a value: its own, or its number
  own_value : (values : List Value) (slots : Slots) (k : LiteralKind) (spelling : List ℕ) (kind : LiteralKind) (value : ℕ)
      → HasOwnValue values slots (literal k spelling) (NodeKind.Literal kind value) → IsSomeAnd (slice_get values value) (IsValueOf slots k spelling)
  own_value values slots k spelling kind value has = has

  pub literal_own : (kind : LiteralKind) (value : ℕ) → HasKind context.list place (NodeKind.Literal kind value) → (k : LiteralKind) (spelling : List ℕ) (stop from to : ℕ)
      → StandsHere context place stop (node from to (literal k spelling)) → IsSomeAnd (slice_get context.list.values value) (IsValueOf (slots_of context.row.schema) k spelling)
  literal_own kind value here k spelling stop from to stands =
      own_value context.list.values (slots_of context.row.schema) k spelling kind value
      (subst (λ (l : NodeKind). HasOwnValue context.list.values (slots_of context.row.schema) (literal k spelling) l)
      (found_there (λ found. found.kind ≡ NodeKind.Literal kind value) (slice_get context.list.nodes place) stands.top.found stands.top.stands_at here) stands.top.valued)

  same_literal : (kind : LiteralKind) (value : ℕ) → HasKind context.list place (NodeKind.Literal kind value) → (number : ℤ) (stop : ℕ) → (there : NumberThere context number place stop)
      → there.value ≡ value
  same_literal kind value here number stop there =
      let same : NodeKind.Literal kind value ≡ NodeKind.Literal LiteralKind.Str there.value =
      one_kind (slice_get context.list.nodes place) (NodeKind.Literal kind value) (NodeKind.Literal LiteralKind.Str there.value) here there.here in
      cc

  pub literal_within : (kind : LiteralKind) (value : ℕ) → HasKind context.list place (NodeKind.Literal kind value) → OperandStands context place → value < length context.list.values
  literal_within kind value here operand = elim operand.stands [
    | inl stands ↦
        by_kind context place (NodeKind.Literal kind value) here (λ stop tree. value < length context.list.values)
        (λ k spelling stop from to stands.
        inside (IsValueOf (slots_of context.row.schema) k spelling) context.list.values value (literal_own kind value here k spelling stop from to stands))
        operand.stop operand.tree stands
    | inr number ↦
        let there = number_there context number.0 place operand.stop operand.tree number.1 in
        subst (λ (k : ℕ). k < length context.list.values) (same_literal kind value here number.0 operand.stop there)
        (slice_get_within context.list.values there.value (Enum number.0) there.at)
  ]

  -- a number that stands there is the value there
  pub number_held : (kind : LiteralKind) (value : ℕ) → HasKind context.list place (NodeKind.Literal kind value) → (v : Value) → slice_get context.list.values value ≡ Some v
      → (number : ℤ) (stop : ℕ) (tree : Tree) → NumberHere context number place stop tree → v ≡ Enum number
  number_held kind value here v at number stop tree stands =
      let there = number_there context number place stop tree stands in
      let same : there.value ≡ value = same_literal kind value here number stop there in
      let held : Some v ≡ Some (Enum number) = sym at ∙ ap (slice_get context.list.values) (sym same) ∙ there.at in
      cc

  -- the number that is answered
  number_answers : (kind : LiteralKind) (value : ℕ) → HasKind context.list place (NodeKind.Literal kind value) → (v : Value) → slice_get context.list.values value ≡ Some v
      → (number : ℤ) (stop : ℕ) (tree : Tree) (type : ExprType) → NumberHere context number place stop tree
      → Some (gives (val_of v (slots_of context.row.schema).properties type)) ≡ Some (gives (member number))
  number_answers kind value here v at number stop tree type stands =
      ap (λ (w : Value). Some (gives (val_of w (slots_of context.row.schema).properties type))) (number_held kind value here v at number stop tree stands)
      ∙ ap (λ (w : Val). Some (gives w)) (plain_is (slots_of context.row.schema) type (Enum number) (member number) refl)

  pub literal_answers : (kind : LiteralKind) (value : ℕ) → HasKind context.list place (NodeKind.Literal kind value) → (v : Value) → slice_get context.list.values value ≡ Some v
      → AnswersKept context place v
  literal_answers kind value here v at = record {
    of_tree = λ stop tree type stands typed.
        by_kind context place (NodeKind.Literal kind value) here (λ stop tree. MeansHere context tree (gives (val_of v (slots_of context.row.schema).properties type)))
        (λ k spelling stop from to stands.
        let read : IsValueOf (slots_of context.row.schema) k spelling v =
        found_there (IsValueOf (slots_of context.row.schema) k spelling) (slice_get context.list.values value) v at (literal_own kind value here k spelling stop from to stands) in
        rw (plain_is (slots_of context.row.schema) type v read.val read.plain) read.value_of)
        stop tree stands;
    of_number = number_answers kind value here v at;
  }

  pub it_answers : HasKind context.list place NodeKind.It → AnswersKept context place context.row.value
  it_answers here = record {
    of_tree = λ stop tree type stands typed.
        by_kind context place NodeKind.It here (λ stop tree. (t : ExprType) → TypedHere context tree t → MeansHere context tree (gives (val_of context.row.value (slots_of context.row.schema).properties t)))
        (λ stop from to stands t typed. ap (λ (s : ExprType). gives (val_of context.row.value (slots_of context.row.schema).properties s)) typed)
        stop tree stands type typed;
    of_number = λ number stop tree type there. absurd (no_number context place NodeKind.It tt here number stop tree there);
  }

  -- `now()` has no argument
  now_means : (arguments : Trees) (types : List ExprType) (o : Outcome) → length types ≤ 0 → TypedAll context arguments types → CallGives context.moment Function.Now [] o
      → MeanAll context arguments (CallGives context.moment Function.Now) o
  now_means no_trees types o few typed given = given
  now_means (more_trees argument more) [] o few typed given = absurd typed
  now_means (more_trees argument more) (type ∷ types) o few typed given = absurd (omega arith)

  pub now_takes : (asked : List ℕ) (types : List ExprType) (type : ExprType) → IsNamed Function.Now asked → CallTyped asked types type → length types ≤ 0
  now_takes asked types type named called =
      let is : called.function ≡ Function.Now = only_now called.function (called.named ∙ sym named) in
      let most : length types ≤ length (row_of Function.Now).arguments =
      subst (λ (f : Function). length types ≤ length (row_of f).arguments) is called.typed.count.most in
      most

  pub now_answers : HasKind context.list place NodeKind.Now → (v : Value) → v ≡ Moment context.moment → AnswersKept context place v
  now_answers here v is = record {
    of_tree = λ stop tree type stands typed.
        by_kind context place NodeKind.Now here (λ stop tree. (t : ExprType) → TypedHere context tree t → MeansHere context tree (gives (val_of v (slots_of context.row.schema).properties t)))
        (λ asked arguments named stop from to stands t typed. record {
          function = Function.Now;
          named = named;
          given = now_means arguments typed.types _ (now_takes asked typed.types t named typed.call_typed) typed.arguments_typed
              (ap gives (plain_is (slots_of context.row.schema) t v (moment context.moment) (ap plain_val is)));
        })
        stop tree stands type typed;
    of_number = λ number stop tree type there. absurd (no_number context place NodeKind.Now tt here number stop tree there);
  }

  pub property_within : (slot : ℕ) → HasKind context.list place (NodeKind.Property slot) → OperandStands context place → slot < length (properties_at context.row.schema context.row.type_id)
  property_within slot here operand =
      let part = tree_of_kind context place (NodeKind.Property slot) tt here operand in
      by_kind context place (NodeKind.Property slot) here (λ stop tree. slot < length (properties_at context.row.schema context.row.type_id))
      (λ asked stop from to stands.
      named_within asked (properties_at context.row.schema context.row.type_id) slot (kind_there context place (NodeKind.Property slot) here stop from to (name asked) stands).1)
      part.stop part.tree part.stands

  -- it has no children
  property_stops : (slot : ℕ) → HasKind context.list place (NodeKind.Property slot) → OperandStands context place → IsStopOf context.list place (place + 1)
  property_stops slot here operand =
      let part = tree_of_kind context place (NodeKind.Property slot) tt here operand in
      by_kind context place (NodeKind.Property slot) here (λ stop tree. IsStopOf context.list place (place + 1))
      (λ asked stop from to stands.
      let e : place + 1 ≡ stop = stands.children in
      subst (λ (k : ℕ). IsStopOf context.list place k) (sym e) (stops_here context place stop (node from to (name asked)) stands))
      part.stop part.tree part.stands

  pub variable_within : (level : ℕ) → HasKind context.list place (NodeKind.Variable level) → OperandStands context place → level < length (names_of (environment_of context))
  variable_within level here operand =
      let part = tree_of_kind context place (NodeKind.Variable level) tt here operand in
      by_kind context place (NodeKind.Variable level) here (λ stop tree. level < length (names_of (environment_of context)))
      (λ asked stop from to stands.
      level_below (names_of (environment_of context)) asked level (kind_there context place (NodeKind.Variable level) here stop from to (name asked) stands))
      part.stop part.tree part.stands

  pub variable_answers : (level : ℕ) → HasKind context.list place (NodeKind.Variable level) → (v : Value) → StandsAtLevel (slots_of context.row.schema) (environment_of context) level v → AnswersKept context place v
  variable_answers level here v at = record {
    of_tree = λ stop tree type stands typed.
        by_kind context place (NodeKind.Variable level) here (λ stop tree. (t : ExprType) → TypedHere context tree t → MeansHere context tree (gives (val_of v (slots_of context.row.schema).properties t)))
        (λ asked stop from to stands t typed.
        variable_gives (slots_of context.row.schema) (variable_type (scope_of (environment_of context)) asked) (variable_value (environment_of context) asked) (value_of context.row) asked
        (PropertyTyped (properties_at context.row.schema context.row.type_id) asked t) t v
        (at.holds asked (kind_there context place (NodeKind.Variable level) here stop from to (name asked) stands)) typed)
        stop tree stands type typed;
    of_number = λ number stop tree type there. absurd (no_number context place (NodeKind.Variable level) tt here number stop tree there);
  }

  pub property_answers : (slot : ℕ) → HasKind context.list place (NodeKind.Property slot) → (v : Value) → HoldsAt context.row slot v → AnswersKept context place v
  property_answers slot here v holds = record {
    of_tree = λ stop tree type stands typed.
        by_kind context place (NodeKind.Property slot) here (λ stop tree. (t : ExprType) → TypedHere context tree t → MeansHere context tree (gives (val_of v (slots_of context.row.schema).properties t)))
        (λ asked stop from to stands t typed.
        let kind = kind_there context place (NodeKind.Property slot) here stop from to (name asked) stands in
        let none = unbound (environment_of context) asked kind.0 in
        subst (λ (w : Option Val). FoundGives w (value_of context.row) asked (gives (val_of v (slots_of context.row.schema).properties t))) (sym none.0)
        (slot_value context.row slot v asked t holds kind.1
        (subst (λ (u : Option ExprType). MatchOption u (PropertyTyped (properties_at context.row.schema context.row.type_id) asked t) (λ w. t ≡ w)) none.1 typed)))
        stop tree stands type typed;
    of_number = λ number stop tree type there. absurd (no_number context place (NodeKind.Property slot) tt here number stop tree there);
  }

-- what stands after a property that is a first child
pub property_right : (context : ContextModel) (place slot : ℕ) → HasKind context.list (place + 1) (NodeKind.Property slot) → OperandStands context (place + 1) → IsRightOf context.list place (place + 2)
property_right context place slot here operand =
    let e : place + 1 + 1 ≡ place + 2 = omega arith in
    subst (λ (k : ℕ). IsRightOf context.list place k) e (property_stops context (place + 1) slot here operand)
