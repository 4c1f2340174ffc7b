-- What a lambda operator evaluates to, from what its base and its body evaluate to.
use Rattle.std.proofs.Common.{◌≡◌, ◌∙◌, ℕ, ◌<◌, ◌+◌, Bor, List, [], ◌∷◌, Bool, Option, Some, Result, Ok, Err, map, slice_get, refl, sym, ap, subst, arith}
use Rattle.std.specs.Prelude.{IsSomeAnd}
use Rattle.std.specs.List.{AllByRecursion}
use Rattle.edm_values.specs.Val.{Vals, item, null}
use Rattle.edm_values.specs.declared.datum.Datum.{Datum}
use Rattle.edm_values.specs.declared.datum.Datum.TheVariants as datum
use Rattle.edm_values.specs.declared.value.Value.{Value}
use Rattle.odata_syntax.specs.Tree.{Tree, node, lambda}
use Rattle.odata_syntax.specs.declared.node.Quantifier.{Quantifier}
use Rattle.csdl_schema.specs.ExprType.{ExprType, SingleType, collection, single}
use Rattle.csdl_schema.specs.SchemaModel.{SchemaModel, Slots, slots_of, type_name_at}
use Rattle.edm_entities.specs.HasType.{AllHaveType, HasType}
use Rattle.edm_entities.specs.Row.{items_of, val_of, value_of}
use Rattle.odata_functions.specs.DatumVal.{datum_val}
use Rattle.odata_signatures.specs.TypeView.{expr_type, single_type}
use Rattle.odata_signatures.specs.declared.edm_type.EdmType.{EdmType}
use Rattle.odata_signatures.specs.declared.edm_type.ValueType.{ValueType}
use Rattle.odata_signatures.specs.Laws.{OneType}
use Rattle.odata_signatures.specs.Typed.{Scope, Typed, with_variable}
use Rattle.odata_checked_filter.specs.Calls.{TakesMemory}
use Rattle.odata_checked_filter.specs.Stands.{Stands}
use Rattle.odata_checked_filter.specs.declared.checked_node.CheckedNode.{CheckedNode}
use Rattle.odata_checked_filter.specs.declared.checked_node.NodeKind.{NodeKind}
use Rattle.odata_meaning.specs.Environment.{bound_over, scope_of}
use Rattle.odata_meaning.specs.Means.{Means}
use Rattle.odata_meaning.specs.OneByOne.{MembersGo}
use Rattle.odata_filter_operations.specs.Outcome.{Outcome, gives}
use Rattle.odata_filter_operations.specs.TruthGives.{truth_val}
use Rattle.odata_filter_operations.specs.declared.eval_fault.EvalFault.{EvalFault}
use Rattle.filter_context.specs.declared.frames.RangeVariable.{RangeVariable}
use Rattle.odata_filter_operations.specs.DatumView.{answer_outcome, reading_at}
use Rattle.odata_eval.specs.private.Lambda.{AnswersMembers, BodyIsThere, BodyMeans, IsOverMembers, IsVariableOf, Suits, body_scope, type_of_variable, vals_of}
use Rattle.filter_context.specs.private.Place.{HasKind, IsRightOf, PartStands}
use Rattle.filter_context.specs.private.EvalContext.{EndsOnceHere, MeansHere, StandsHere, TypedHere}
use Rattle.filter_context.specs.private.ContextModel.{ContextModel, environment_of}
use Rattle.odata_filter_operations.specs.Reports.{Reports}
use Rattle.odata_eval.specs.private.WalkAnswer.{AnswersDatum, AnswersTruth}
use Rattle.odata_meaning.proofs.meaning.OneByOne.{members_one_by_one}
use Rattle.filter_context.proofs.Children.{body_stands}
use Rattle.filter_context.proofs.Operands.{no_number}
use Rattle.filter_context.proofs.Parts.{by_kind, found_there, some_there, reports_there, there_found}
use Rattle.filter_context.proofs.Extents.{further, stops_here, stops_there}
use Rattle.filter_context.proofs.Spines.{child_takes, second_child}
use Rattle.odata_eval.proofs.walking.WalkValues.{value_has}

-- ---- collections of the code

-- a type of the code that stands for a collection's
pub record CollectionIs (schema : SchemaModel) (edm_type : EdmType) (type : SingleType) : Type 0 where
  pub member : ValueType
  pub is : edm_type ≡ EdmType.Collection member
  pub stands_for : single_type schema member ≡ type

collection_is : (schema : SchemaModel) (edm_type : EdmType) (type : SingleType) → expr_type schema edm_type ≡ collection type → CollectionIs schema edm_type type
collection_is schema (EdmType.Collection member) type is = record { member = member; is = refl; stands_for = cc }
collection_is schema (EdmType.Single member) type is = absurd (cc)
collection_is schema EdmType.Null type is = absurd (cc)

-- the members of a value that has a collection's type
pub vals_same : (slots : Slots) (type : SingleType) (members : List Value) → vals_of slots (single type) members ≡ items_of slots.properties type (map val_of members)
vals_same slots type [] = refl
vals_same slots type (value ∷ more) = ap (λ (rest : Vals). item (val_of value slots.properties (single type)) rest) (vals_same slots type more)

all_suit : (slots : Slots) (type : SingleType) (members : List Value) → AllHaveType slots type (items_of slots.properties type (map val_of members))
    → AllByRecursion (λ (v : Value). HasType slots (single type) (val_of v slots.properties (single type))) members
all_suit slots type [] all = tt
all_suit slots type (value ∷ more) all = (all.0, all_suit slots type more all.1)

-- a value of a collection's type that is no list is null
pub null_otherwise : (slots : Slots) (type : SingleType) (base : Datum) → HasType slots (collection type) (datum_val (reading_at slots (collection type)) base)
    → ((held : Bor (List Value)) → base ≡ datum.List held → ⊥) → base ≡ datum.Null
null_otherwise slots type datum.Null has other = refl
null_otherwise slots type (datum.List held) has other = absurd (other held refl)
null_otherwise slots type _ has other = absurd has

-- the type of a node there
found_typed : (context : ContextModel) (place stop : ℕ) (tree : Tree) → StandsHere context place stop tree
    → (found : CheckedNode) × ((slice_get context.list.nodes place ≡ Some found) × TypedHere context tree (expr_type context.row.schema found.edm_type))
found_typed context place stop (node from to shape) stands = (stands.top.found, (stands.top.stands_at, stands.top.typed))

module _ (types : OneType) (context : ContextModel) (place : ℕ) (quantifier : Quantifier) (here : HasKind context.list place (NodeKind.Lambda quantifier)) where
  -- the base's node says the type of the collection
  base_is : (stop : ℕ) (base : Tree) (type : SingleType) → StandsHere context (place + 1) stop base → TypedHere context base (collection type)
      → IsSomeAnd (slice_get context.list.nodes (place + 1)) (λ (found : CheckedNode). CollectionIs context.row.schema found.edm_type type)
  base_is stop base type stands typed =
      let found = found_typed context (place + 1) stop base stands in
      there_found (λ (f : CheckedNode). CollectionIs context.row.schema f.edm_type type) (slice_get context.list.nodes (place + 1)) found.0 found.1.0
      (collection_is context.row.schema found.0.edm_type type
      (types (slots_of context.row.schema) (type_name_at context.row.schema context.row.type_id) (scope_of (environment_of context)) base (expr_type context.row.schema found.0.edm_type) (collection type) found.1.1 typed))

  pub over_members : PartStands context place → IsOverMembers context.list place
  over_members part =
      by_kind context place (NodeKind.Lambda quantifier) here (λ stop tree. IsOverMembers context.list place)
      (λ base variable body stop from to stands.
      let is = some_there (λ (f : CheckedNode). CollectionIs context.row.schema f.edm_type stands.top.typed.member_type) (slice_get context.list.nodes (place + 1))
      (base_is stands.children.middle base stands.top.typed.member_type stands.children.left stands.top.typed.binds.over) in
      there_found (λ (f : CheckedNode). (member : ValueType) × (f.edm_type ≡ EdmType.Collection member)) (slice_get context.list.nodes (place + 1)) is.0 is.1.0 (is.1.1.member, is.1.1.is))
      part.stop part.tree part.stands

  pub body_place : PartStands context place → (right : ℕ) × IsRightOf context.list place right
  body_place part =
      by_kind context place (NodeKind.Lambda quantifier) here (λ stop tree. (right : ℕ) × IsRightOf context.list place right)
      (λ base variable body stop from to stands. (stands.children.middle, stops_here context (place + 1) stands.children.middle base stands.children.left))
      part.stop part.tree part.stands

  pub body_behind : (right : ℕ) → IsRightOf context.list place right → PartStands context place → place < right
  body_behind right is_right part =
      by_kind context place (NodeKind.Lambda quantifier) here (λ stop tree. place < right)
      (λ base asked body stop from to stands.
      let e : stands.children.middle ≡ right = stops_there context (place + 1) stands.children.middle right base stands.children.left is_right in
      let f : place + 1 < stands.children.middle = further context (place + 1) stands.children.middle base stands.children.left in
      omega arith)
      part.stop part.tree part.stands

  module _ (variable : RangeVariable) (is_variable : IsVariableOf context.list place variable) where
    -- the variable has that name and that type
    pub record IsNamed (asked : List ℕ) (type : SingleType) : Type 0 where
      pub name_same : variable.name.now ≡ asked
      pub type_same : type_of_variable context variable ≡ single type

    pub is_named : (stop from to : ℕ) (base : Tree) (asked : List ℕ) (body : Tree) → StandsHere context place stop (node from to (lambda quantifier base asked body))
        → (type : SingleType) → TypedHere context base (collection type) → IsNamed asked type
    is_named stop from to base asked body stands type typed =
        let named : Some asked ≡ Some variable.name.now = sym stands.top.text_at ∙ is_variable.name_is in
        let there = some_there (λ (f : CheckedNode). CollectionIs context.row.schema f.edm_type type) (slice_get context.list.nodes (place + 1))
        (base_is stands.children.middle base type stands.children.left typed) in
        let same : there.0.edm_type ≡ EdmType.Collection is_variable.member =
        found_there (λ (f : CheckedNode). f.edm_type ≡ EdmType.Collection is_variable.member) (slice_get context.list.nodes (place + 1)) there.0 there.1.0 is_variable.base_is in
        let kinds : EdmType.Collection there.1.1.member ≡ EdmType.Collection is_variable.member = sym there.1.1.is ∙ same in
        let member : there.1.1.member ≡ is_variable.member = cc in
        record {
          name_same = cc;
          type_same = ap (expr_type context.row.schema) is_variable.type_is ∙ ap (λ (m : ValueType). single (single_type context.row.schema m)) (sym member) ∙ ap single there.1.1.stands_for;
        }

    -- the body over members, with a variable of that name and that type
    abbrev Over : List ℕ → ExprType → Tree → List Value → Outcome → Type 0
    Over name t body members =
        MembersGo quantifier (λ v. Means (slots_of context.row.schema) (type_name_at context.row.schema context.row.type_id) context.moment (value_of context.row) (bound_over (environment_of context) name t v) body)
        (vals_of (slots_of context.row.schema) t members)

    as_named : (asked : List ℕ) (type : SingleType) (body : Tree) → IsNamed asked type → (members : List Value) (o : Outcome)
        → MembersGo quantifier (BodyMeans context variable body) (vals_of (slots_of context.row.schema) (type_of_variable context variable) members) o
        → MembersGo quantifier (λ v. Means (slots_of context.row.schema) (type_name_at context.row.schema context.row.type_id) context.moment (value_of context.row) (bound_over (environment_of context) asked (single type) v) body)
        (items_of (slots_of context.row.schema).properties type (map val_of members)) o
    as_named asked type body named members o goes =
        subst (λ (vals : Vals). MembersGo quantifier (λ v. Means (slots_of context.row.schema) (type_name_at context.row.schema context.row.type_id) context.moment (value_of context.row) (bound_over (environment_of context) asked (single type) v) body) vals o)
        (vals_same (slots_of context.row.schema) type members)
        (subst (λ (t : ExprType). Over asked t body members o) named.type_same (subst (λ (n : List ℕ). Over n (type_of_variable context variable) body members o) named.name_same goes))

    module _ (right : ℕ) (is_right : IsRightOf context.list place right) where
      -- the body stands after the base, in the scope with the variable
      pub in_scope : (P : Scope → Type 0) (asked : List ℕ) (type : SingleType) → IsNamed asked type
          → P (with_variable (scope_of (environment_of context)) asked (single type)) → P (body_scope context variable)
      in_scope P asked type named holds =
          subst (λ (n : List ℕ). P (with_variable (scope_of (environment_of context)) n (type_of_variable context variable))) (sym named.name_same)
          (subst (λ (t : ExprType). P (with_variable (scope_of (environment_of context)) asked t)) (sym named.type_same) holds)

      pub body_there : PartStands context place → BodyIsThere context variable right
      body_there part =
          by_kind context place (NodeKind.Lambda quantifier) here (λ stop tree. BodyIsThere context variable right)
          (λ base asked body stop from to stands.
          let typed = stands.top.typed in
          let behind = body_stands context.row.schema context.row.type_id (scope_of (environment_of context)) context.list stands.children.middle stop base asked body stands.children.right in
          record {
            stop = stop;
            body = body;
            stands = in_scope (λ (s : Scope). Stands context.row.schema context.row.type_id s context.list right stop body) asked behind.member_type
                (is_named stop from to base asked body stands behind.member_type behind.binds.over)
                (subst (λ (m : ℕ). Stands context.row.schema context.row.type_id (with_variable (scope_of (environment_of context)) asked (single behind.member_type)) context.list m stop body)
                (stops_there context (place + 1) stands.children.middle right base stands.children.left is_right) behind.body);
            type_of = typed.body;
            typed = in_scope (λ (s : Scope). Typed (slots_of context.row.schema) (type_name_at context.row.schema context.row.type_id) s body typed.body) asked typed.member_type
                (is_named stop from to base asked body stands typed.member_type typed.binds.over) typed.body_typed;
            truth = typed.truth;
          })
          part.stop part.tree part.stands

      -- the members are of the variable's type
      pub members_suit : EndsOnceHere context → (held : Bor (List Value)) → AnswersDatum context (place + 1) (Ok (datum.List held)) → PartStands context place
          → AllByRecursion (Suits context variable) held.now
      members_suit ends held first part =
          by_kind context place (NodeKind.Lambda quantifier) here (λ stop tree. AllByRecursion (Suits context variable) held.now)
          (λ base asked body stop from to stands.
          let typed = stands.top.typed in
          let slots = slots_of context.row.schema in
          let named = is_named stop from to base asked body stands typed.member_type typed.binds.over in
          subst (λ (t : ExprType). AllByRecursion (λ (v : Value). HasType slots t (val_of v slots.properties t)) held.now) (sym named.type_same)
          (all_suit slots typed.member_type held.now
          (value_has context ends base (collection typed.member_type) (datum_val (reading_at slots (collection typed.member_type)) (datum.List held)) typed.binds.over
          (first.of_tree stands.children.middle base (collection typed.member_type) stands.children.left typed.binds.over))))
          part.stop part.tree part.stands

      -- what comes of the members is what the operator evaluates to
      module _ (held : Bor (List Value)) (first : AnswersDatum context (place + 1) (Ok (datum.List held))) where
        members_report : (answer : Result (Option Bool) EvalFault) → AnswersMembers context right quantifier variable held.now answer → (stop from to : ℕ) (base : Tree) (asked : List ℕ) (body : Tree)
            → StandsHere context place stop (node from to (lambda quantifier base asked body)) → (type : ExprType) → TypedHere context (node from to (lambda quantifier base asked body)) type
            → Reports (TakesMemory (node from to (lambda quantifier base asked body))) (MeansHere context (node from to (lambda quantifier base asked body))) (answer_outcome truth_val answer)
        members_report answer answers stop from to base asked body stands type typed =
            let slots = slots_of context.row.schema in
            let root = type_name_at context.row.schema context.row.type_id in
            let behind = body_stands context.row.schema context.row.type_id (scope_of (environment_of context)) context.list stands.children.middle stop base asked body stands.children.right in
            let whole = node from to (lambda quantifier base asked body) in
            let named = is_named stop from to base asked body stands typed.member_type typed.binds.over in
            reports_there (answer_outcome truth_val answer) (TakesMemory body) (TakesMemory whole)
            (MembersGo quantifier (BodyMeans context variable body) (vals_of slots (type_of_variable context variable) held.now)) (MeansHere context whole)
            (child_takes whole body (second_child base body []))
            (λ o goes. (
              gives (datum_val (reading_at slots (collection typed.member_type)) (datum.List held)),
              (
                first.of_tree stands.children.middle base (collection typed.member_type) stands.children.left typed.binds.over,
                (
                  typed.member_type,
                  typed.binds.over,
                  (members_one_by_one slots root context.moment (value_of context.row) (environment_of context) quantifier asked (single typed.member_type) body (items_of slots.properties typed.member_type (map val_of held.now)) o).1
                      (as_named asked typed.member_type body named held.now o goes),
                ),
              ),
            ))
            (answers.of_body stop body typed.body
            (in_scope (λ (s : Scope). Stands context.row.schema context.row.type_id s context.list right stop body) asked behind.member_type
            (is_named stop from to base asked body stands behind.member_type behind.binds.over)
            (subst (λ (m : ℕ). Stands context.row.schema context.row.type_id (with_variable (scope_of (environment_of context)) asked (single behind.member_type)) context.list m stop body)
            (stops_there context (place + 1) stands.children.middle right base stands.children.left is_right) behind.body))
            (in_scope (λ (s : Scope). Typed slots root s body typed.body) asked typed.member_type named typed.body_typed))

        pub truth_answers : (truth : Option Bool) → AnswersMembers context right quantifier variable held.now (Ok truth) → AnswersTruth context place (Ok truth)
        truth_answers truth answers = record {
          of_tree = λ stop tree type stands typed.
              by_kind context place (NodeKind.Lambda quantifier) here (λ stop tree. TypedHere context tree type → MeansHere context tree (gives (truth_val truth)))
              (λ base asked body stop from to stands typed. members_report (Ok truth) answers stop from to base asked body stands type typed)
              stop tree stands typed;
          of_number = λ number stop tree type there. absurd (no_number context place (NodeKind.Lambda quantifier) tt here number stop tree there);
        }

        pub fault_answers : (fault : EvalFault) → AnswersMembers context right quantifier variable held.now (Err fault) → AnswersDatum context place (Err fault)
        fault_answers fault answers = record {
          of_tree = λ stop tree type stands typed.
              by_kind context place (NodeKind.Lambda quantifier) here (λ stop tree. TypedHere context tree type → Reports (TakesMemory tree) (MeansHere context tree) (answer_outcome truth_val (Err fault)))
              (λ base asked body stop from to stands typed. members_report (Err fault) answers stop from to base asked body stands type typed)
              stop tree stands typed;
          of_number = λ number stop tree type there. absurd (no_number context place (NodeKind.Lambda quantifier) tt here number stop tree there);
        }

  -- over null it is null
  pub null_answers : EndsOnceHere context → (base : Datum) → AnswersDatum context (place + 1) (Ok base) → ((held : Bor (List Value)) → base ≡ datum.List held → ⊥) → AnswersDatum context place (Ok datum.Null)
  null_answers ends value first other = record {
    of_tree = λ stop tree type stands typed.
        by_kind context place (NodeKind.Lambda quantifier) here (λ stop tree. TypedHere context tree type → MeansHere context tree (gives null))
        (λ base asked body stop from to stands typed.
        let slots = slots_of context.row.schema in
        let means = first.of_tree stands.children.middle base (collection typed.member_type) stands.children.left typed.binds.over in
        let is : value ≡ datum.Null =
        null_otherwise slots typed.member_type value
        (value_has context ends base (collection typed.member_type) (datum_val (reading_at slots (collection typed.member_type)) value) typed.binds.over means) other in
        (gives null, (subst (λ (d : Datum). MeansHere context base (gives (datum_val (reading_at slots (collection typed.member_type)) d))) is means, refl)))
        stop tree stands typed;
    of_number = λ number stop tree type there. absurd (no_number context place (NodeKind.Lambda quantifier) tt here number stop tree there);
  }
