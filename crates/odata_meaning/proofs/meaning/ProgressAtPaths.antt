-- A tree that has a type has an outcome on values in which all is expanded that it needs.
use Rattle.std.proofs.Common.{◌≡◌, ◌++◌, refl, sym, subst, inl, inr, ℕ, List, [], ◌∷◌, true, Option, Some, None, length}
use Rattle.std.specs.Prelude.{unwrap_or}
use Rattle.edm_values.specs.MomentParts.{IsMoment, MomentParts}
use Rattle.edm_values.specs.Val.{Val, null, items, Vals, no_items, item}
use Rattle.edm_values.specs.declared.primitive.PrimitiveType.{PrimitiveType}
use Rattle.odata_syntax.specs.Spans.{list_of_trees}
use Rattle.odata_syntax.specs.Tree.{Tree, node, literal, it, name, count, negation, logical_not, binary, in_list, in_path, call, any_item, lambda, Trees, no_trees, more_trees}
use Rattle.odata_syntax.specs.Tree as tree
use Rattle.odata_syntax.specs.declared.node.Quantifier.{Quantifier}
use Rattle.csdl_schema.specs.ExprType.{ExprType, single, collection, SingleType, enumeration, structured}
use Rattle.csdl_schema.specs.PathSet.{PathSet, PropertyPath}
use Rattle.csdl_schema.specs.SchemaModel.{Slots}
use Rattle.odata_signatures.specs.ExprTypes.{IsBooleanOrNull, boolean_type, number_or_null}
use Rattle.odata_signatures.specs.OperatorTyped.{OperatorByTypes, NegationTyped, OperatorTyped}
use Rattle.odata_signatures.specs.Side.{Side}
use Rattle.odata_syntax.specs.declared.binary_operator.BinaryOperator.{BinaryOperator}
use Rattle.odata_signatures.specs.NeededPaths.{IsNeeded, IsNeededAmong, StepNeeds, VariablePaths, path_of, variable_path}
use Rattle.odata_signatures.specs.Typed.{AreTyped, OperandTyped, StepTyped, Typed, variable_type}
use Rattle.odata_filter_operations.specs.CalculationGives.{NegatedGives}
use Rattle.odata_filter_operations.specs.CallGives.{CallGives}
use Rattle.odata_filter_operations.specs.CollectionGives.{AnyItemGives, CountGives}
use Rattle.odata_meaning.specs.EndsOnceAtPaths.{TypedEndsOnceAtPaths}
use Rattle.odata_meaning.specs.Environment.{Environment, bound_over, scope_of, variable_value}
use Rattle.odata_filter_operations.specs.LambdaGives.{InGives, ItemsGive, LambdaGives, MembersGive}
use Rattle.odata_filter_operations.specs.LeftFirst.{After}
use Rattle.odata_meaning.specs.Means.{ItemMeans, Means}
use Rattle.odata_meaning.specs.NameGives.{StepGives}
use Rattle.odata_meaning.specs.OneByOne.{GoesOn, MembersGo}
use Rattle.odata_meaning.specs.OperatorGives.{InType}
use Rattle.odata_filter_operations.specs.Outcome.{Outcome, gives}
use Rattle.odata_filter_operations.specs.QuantifierGives.{undecided_val}
use Rattle.odata_filter_operations.specs.TruthGives.{NotGives}
use Rattle.odata_meaning.specs.TypesAtPaths.{AllHaveTypeAt, AreFittingAt, HasTypeAt}
use Rattle.odata_meaning.proofs.meaning.AllTrees.{AllTyped}
use Rattle.odata_meaning.proofs.meaning.AtPaths.{EndsAt, IsFlat, after_at, ends_at, flat_ends, found_at, shallow, shallow_ends, step_at, typed_at, variable_fits_at}
use Rattle.odata_meaning.proofs.meaning.CallEnds.{call_ends}
use Rattle.odata_meaning.proofs.meaning.Ends.{Ends, after_ends}
use Rattle.odata_meaning.proofs.meaning.FormsEnd.{any_item_ends, both_ends, count_ends, goes_on_ends, in_list_ends, in_path_ends, of_type, undecided_typed}
use Rattle.odata_meaning.proofs.meaning.Kinds.{truth_of}
use Rattle.odata_meaning.specs.private.LawsBelow.{OneEach, Promotes, SomeEach}
use Rattle.odata_meaning.proofs.meaning.Numbers.{negated_value}
use Rattle.odata_meaning.proofs.meaning.OneByOne.{members_both}
use Rattle.odata_meaning.proofs.meaning.OneMeaning.{Means-one}
use Rattle.odata_meaning.proofs.meaning.Progress.{ReadsHave, behind_arguments, binary_ends, flags_ends, in_type, items_end, literal_ends, negation_ends, not_ends}

-- ---- what operators make is flat

flat_same : (given type : ExprType) → type ≡ given → IsFlat given → IsFlat type
flat_same given type same flat = subst (λ (t : ExprType). IsFlat t) (sym same) flat

flat_number : (number : Option PrimitiveType) → IsFlat (number_or_null number)
flat_number None = tt
flat_number (Some p) = tt

flat_by_types : (operator : BinaryOperator) (left right type : ExprType) → OperatorByTypes operator left right type → IsFlat type
flat_by_types (BinaryOperator.Logical logical) left right type typed = flat_same boolean_type type typed.2 tt
flat_by_types (BinaryOperator.Comparison comparison) left right type typed = flat_same boolean_type type typed.1 tt
flat_by_types (BinaryOperator.Arithmetic arithmetic) left right type typed = flat_same _ type typed.type_is (flat_number _)

flat_operator : (slots : Slots) (operator : BinaryOperator) (left right : Side) (type : ExprType) → OperatorTyped slots operator left right type → IsFlat type
flat_operator slots operator left right type (inl plain) = flat_by_types operator left.type_of right.type_of type plain
flat_operator slots operator left right type (inr read) = flat_same boolean_type type read.1 tt

-- a number that is read is of its enumeration, whatever records hold
reads_have : (slots : Slots) → ReadsHave slots (shallow slots)
reads_have slots (single (enumeration of)) (Some spelling) n number = number.within
reads_have slots (single (enumeration of)) None n number = absurd number
reads_have slots _ quoted n number = absurd number

module _ (slots : Slots) (needed : PathSet) where
  -- ---- over the members of a collection

  module _ (path : PropertyPath) (quantifier : Quantifier) (Body : Val → Outcome → Type 0) (m : SingleType) (body : ExprType) (truth : IsBooleanOrNull body)
      (each : (v : Val) → HasTypeAt slots needed path (single m) v → Ends (shallow slots) body (Body v)) where
    members_go_at : (values : Vals) → AllHaveTypeAt slots needed path m values → Ends (shallow slots) boolean_type (MembersGo quantifier Body values)
    members_go_at no_items all = (gives (undecided_val quantifier), (refl, undecided_typed (shallow slots) quantifier))
    members_go_at (item v more) all =
        after_ends (shallow slots) (shallow slots) body boolean_type (Body v) (GoesOn quantifier (MembersGo quantifier Body more)) (each v all.0)
        (λ w has. goes_on_ends (shallow slots) quantifier (MembersGo quantifier Body more) w (truth_of (shallow slots) body w truth has) (members_go_at more all.1))

    members_at : (values : Vals) → AllHaveTypeAt slots needed path m values → Ends (shallow slots) boolean_type (MembersGive quantifier Body values)
    members_at values all =
        both_ends (shallow slots) boolean_type (MembersGive quantifier Body values) (MembersGo quantifier Body values) (members_both quantifier Body values) (members_go_at values all)

  lambda_at : (path : PropertyPath) (quantifier : Quantifier) (BaseTyped : ExprType → Type 0) (Body : ExprType → Val → Outcome → Type 0) (m : SingleType) (body type : ExprType) (v : Val)
      → BaseTyped (collection m) → IsBooleanOrNull body → type ≡ boolean_type → HasTypeAt slots needed path (collection m) v
      → ((w : Val) → HasTypeAt slots needed path (single m) w → Ends (shallow slots) body (Body (single m) w)) → Ends (shallow slots) type (LambdaGives quantifier BaseTyped Body v)
  lambda_at path quantifier BaseTyped Body m body type null over truth is has each = (gives null, (refl, tt))
  lambda_at path quantifier BaseTyped Body m body type (items values) over truth is has each =
      let ends = of_type (shallow slots) boolean_type type (MembersGive quantifier (Body (single m)) values) is (members_at path quantifier (Body (single m)) m body truth each values has) in
      (ends.0, ((m, over, ends.1.0), ends.1.1))
  lambda_at path quantifier BaseTyped Body m body type _ over truth is has each = absurd has

  -- ---- a step

  member_at : (before : PropertyPath) (base : ExprType) (Base : ExprType → Type 0) (v : Val) (asked : List ℕ) (type : ExprType) → Base base
      → StepTyped slots asked base type → HasTypeAt slots needed before base v
      → ((path : PropertyPath) → StepNeeds slots Base before asked path → needed path ≡ true) → EndsAt slots needed (before ++ asked ∷ []) type (StepGives v asked)
  member_at before (single (structured owner)) Base v asked type is_base typed has covered =
      step_at slots needed before owner v asked type has typed
      (λ navigates. covered (before ++ asked ∷ []) (record { owner = owner; base_typed = is_base; navigates = navigates; path_is = refl }))
  member_at before _ Base v asked type is_base typed has covered = absurd typed

module _ (some : SomeEach) (promotes : Promotes) (slots : Slots) (needed : PathSet) (root : List ℕ) (now : MomentParts) (entity : Val)
    (is_moment : IsMoment now.civil now.offset_minutes) (conforms : HasTypeAt slots needed [] (single (structured root)) entity) where
  -- all is there that the tree needs
  abbrev HasNeeded : Environment → VariablePaths → Tree → Type 0
  HasNeeded environment paths tree = (path : PropertyPath) → IsNeeded slots root (scope_of environment) paths tree path → needed path ≡ true

  abbrev HasNeededAmong : Environment → VariablePaths → Trees → Type 0
  HasNeededAmong environment paths trees = (path : PropertyPath) → IsNeededAmong slots root (scope_of environment) paths trees path → needed path ≡ true

  mutual
    pub tree_at : (environment : Environment) (paths : VariablePaths) → AreFittingAt slots needed environment paths → (tree : Tree) (type : ExprType)
        → Typed slots root (scope_of environment) tree type → HasNeeded environment paths tree
        → EndsAt slots needed (path_of (scope_of environment) paths tree) type (Means slots root now entity environment tree)
    tree_at environment paths fitting (node start stop (literal kind spelling)) type typed covered =
        ends_at slots needed [] type (Means slots root now entity environment (node start stop (literal kind spelling))) (literal_ends some slots kind spelling type typed)
    tree_at environment paths fitting (node start stop it) type typed covered = (gives entity, (refl, typed_at slots needed [] (single (structured root)) type entity typed conforms))
    tree_at environment paths fitting (node start stop (name asked)) type typed covered =
        found_at slots needed root entity asked type (variable_type (scope_of environment) asked) (variable_value environment asked)
        (unwrap_or (variable_path (scope_of environment) paths asked) (asked ∷ [])) conforms (variable_fits_at slots needed environment paths asked fitting) typed
        (λ free navigates. covered (asked ∷ []) (record { free = free; navigates = navigates; path_is = refl }))
    tree_at environment paths fitting (node start stop (tree.member base asked)) type typed covered =
        let before : PropertyPath = path_of (scope_of environment) paths base in
        after_at slots needed before (before ++ asked ∷ []) typed.operand type (Means slots root now entity environment base) (λ v. StepGives v asked)
        (tree_at environment paths fitting base typed.operand typed.operand_typed (λ path is. covered path (inl is)))
        (λ v has. member_at slots needed before typed.operand (Typed slots root (scope_of environment) base) v asked type typed.operand_typed typed.makes has (λ path is. covered path (inr is)))
    tree_at environment paths fitting (node start stop (count base)) type typed covered =
        flat_ends slots needed [] type (After (Means slots root now entity environment base) CountGives) (flat_same _ type typed.makes.1 tt)
        (after_ends (shallow slots) (shallow slots) typed.operand type (Means slots root now entity environment base) CountGives
        (shallow_ends slots needed (path_of (scope_of environment) paths base) typed.operand (Means slots root now entity environment base)
        (tree_at environment paths fitting base typed.operand typed.operand_typed covered)) (λ v is. count_ends some (shallow slots) typed.operand type v typed.makes is))
    tree_at environment paths fitting (node start stop (negation operand)) type typed covered =
        let NodeTyped : ExprType → Type 0 = OperandTyped (Typed slots root (scope_of environment) operand) NegationTyped in
        flat_ends slots needed [] type (After (Means slots root now entity environment operand) (λ v. InType NodeTyped (λ t. NegatedGives t v)))
        (flat_same _ type typed.makes.type_is (flat_number _))
        (after_ends (shallow slots) (shallow slots) typed.operand type (Means slots root now entity environment operand) (λ v. InType NodeTyped (λ t. NegatedGives t v))
        (shallow_ends slots needed (path_of (scope_of environment) paths operand) typed.operand (Means slots root now entity environment operand)
        (tree_at environment paths fitting operand typed.operand typed.operand_typed covered))
        (λ v has. in_type (shallow slots) NodeTyped (λ t. NegatedGives t v) type typed
        (negation_ends some (shallow slots) type v (negated_value promotes (shallow slots) typed.operand type v typed.makes has))))
    tree_at environment paths fitting (node start stop (logical_not operand)) type typed covered =
        flat_ends slots needed [] type (After (Means slots root now entity environment operand) NotGives) (flat_same boolean_type type typed.makes.1 tt)
        (after_ends (shallow slots) (shallow slots) typed.operand type (Means slots root now entity environment operand) NotGives
        (shallow_ends slots needed (path_of (scope_of environment) paths operand) typed.operand (Means slots root now entity environment operand)
        (tree_at environment paths fitting operand typed.operand typed.operand_typed covered)) (λ v has. not_ends (shallow slots) typed.operand type v typed.makes has))
    tree_at environment paths fitting (node start stop (binary operator left right)) type typed covered =
        flat_ends slots needed [] type (Means slots root now entity environment (node start stop (binary operator left right))) (flat_operator slots operator _ _ type typed.makes)
        (binary_ends some promotes slots (shallow slots) (reads_have slots) root (scope_of environment) operator left right
        (Means slots root now entity environment left) (Means slots root now entity environment right) type typed
        (shallow_ends slots needed (path_of (scope_of environment) paths left) typed.left (Means slots root now entity environment left)
        (tree_at environment paths fitting left typed.left typed.left_typed (λ path is. covered path (inl is))))
        (shallow_ends slots needed (path_of (scope_of environment) paths right) typed.right (Means slots root now entity environment right)
        (tree_at environment paths fitting right typed.right typed.right_typed (λ path is. covered path (inr is)))))
    tree_at environment paths fitting (node start stop (tree.has left right)) type typed covered =
        flat_ends slots needed [] type (Means slots root now entity environment (node start stop (tree.has left right))) (flat_same boolean_type type typed.makes.1 tt)
        (flags_ends some slots (shallow slots) (reads_have slots) root (scope_of environment) left right
        (Means slots root now entity environment left) (Means slots root now entity environment right) type typed
        (shallow_ends slots needed (path_of (scope_of environment) paths left) typed.left (Means slots root now entity environment left)
        (tree_at environment paths fitting left typed.left typed.left_typed (λ path is. covered path (inl is))))
        (shallow_ends slots needed (path_of (scope_of environment) paths right) typed.right (Means slots root now entity environment right)
        (tree_at environment paths fitting right typed.right typed.right_typed (λ path is. covered path (inr is)))))
    tree_at environment paths fitting (node start stop (in_list left listed)) type typed covered =
        let Given : Val → Outcome → Type 0 = λ l. ItemsGive l (length (list_of_trees listed)) (ItemMeans slots root now entity environment (Typed slots root (scope_of environment) left) listed) in
        flat_ends slots needed [] type (After (Means slots root now entity environment left) Given) (flat_same boolean_type type typed.makes.2 tt)
        (after_ends (shallow slots) (shallow slots) typed.left type (Means slots root now entity environment left) Given
        (shallow_ends slots needed (path_of (scope_of environment) paths left) typed.left (Means slots root now entity environment left)
        (tree_at environment paths fitting left typed.left typed.left_typed (λ path is. covered path (inl is))))
        (λ l of_l. in_list_ends some slots (shallow slots) root now entity environment (Typed slots root (scope_of environment) left) typed.left l listed type typed.makes.2 of_l
        (items_end some slots (shallow slots) (reads_have slots) root now entity environment left typed.left typed.left_typed listed typed.items typed.items_typed typed.makes.1
        (trees_at environment paths fitting listed typed.items typed.items_typed (λ path is. covered path (inr is))))))
    tree_at environment paths fitting (node start stop (in_path left source)) type typed covered =
        let Given : Val → Outcome → Type 0 = λ l. After (Means slots root now entity environment source) (InGives l) in
        flat_ends slots needed [] type (After (Means slots root now entity environment left) Given) (flat_same boolean_type type typed.makes.1 tt)
        (after_ends (shallow slots) (shallow slots) typed.left type (Means slots root now entity environment left) Given
        (shallow_ends slots needed (path_of (scope_of environment) paths left) typed.left (Means slots root now entity environment left)
        (tree_at environment paths fitting left typed.left typed.left_typed (λ path is. covered path (inl is))))
        (λ l of_l. after_ends (shallow slots) (shallow slots) typed.right type (Means slots root now entity environment source) (InGives l)
        (shallow_ends slots needed (path_of (scope_of environment) paths source) typed.right (Means slots root now entity environment source)
        (tree_at environment paths fitting source typed.right typed.right_typed (λ path is. covered path (inr is))))
        (λ v of_v. in_path_ends some (shallow slots) typed.left typed.right type l v typed.makes of_l of_v)))
    tree_at environment paths fitting (node start stop (call asked arguments)) type typed covered =
        let called = typed.call_typed in
        let ends = behind_arguments slots (shallow slots) root now entity environment arguments typed.types type (CallGives now called.function)
        (trees_at environment paths fitting arguments typed.types typed.arguments_typed covered)
        (λ values have. call_ends some (shallow slots) now is_moment called.function typed.types type values called.typed have) in
        flat_ends slots needed [] type (Means slots root now entity environment (node start stop (call asked arguments))) (flat_same _ type called.typed.gives tt)
        (ends.0, (record { function = called.function; named = called.named; given = ends.1.0 }, ends.1.1))
    tree_at environment paths fitting (node start stop (any_item base)) type typed covered =
        flat_ends slots needed [] type (After (Means slots root now entity environment base) AnyItemGives) (flat_same boolean_type type typed.makes.1 tt)
        (after_ends (shallow slots) (shallow slots) typed.operand type (Means slots root now entity environment base) AnyItemGives
        (shallow_ends slots needed (path_of (scope_of environment) paths base) typed.operand (Means slots root now entity environment base)
        (tree_at environment paths fitting base typed.operand typed.operand_typed covered)) (λ v is. any_item_ends (shallow slots) typed.operand type v typed.makes is))
    tree_at environment paths fitting (node start stop (lambda quantifier base variable body)) type typed covered =
        let before : PropertyPath = path_of (scope_of environment) paths base in
        let BaseTyped : ExprType → Type 0 = Typed slots root (scope_of environment) base in
        let Body : ExprType → Val → Outcome → Type 0 = λ t v. Means slots root now entity (bound_over environment variable t v) body in
        after_at slots needed before [] (collection typed.member_type) type (Means slots root now entity environment base) (LambdaGives quantifier BaseTyped Body)
        (tree_at environment paths fitting base (collection typed.member_type) typed.binds.over (λ path is. covered path (inl is)))
        (λ v is. flat_ends slots needed [] type (LambdaGives quantifier BaseTyped Body v) (flat_same boolean_type type typed.makes tt)
        (lambda_at slots needed before quantifier BaseTyped Body typed.member_type typed.body type v typed.binds.over typed.truth typed.makes is
        (λ w of_w. shallow_ends slots needed (path_of (scope_of (bound_over environment variable (single typed.member_type) w)) (before ∷ paths) body) typed.body (Means slots root now entity (bound_over environment variable (single typed.member_type) w) body)
        (tree_at (bound_over environment variable (single typed.member_type) w) (before ∷ paths) (of_w, fitting) body typed.body typed.body_typed (λ path is. covered path (inr (record { member_type = typed.member_type; binds = typed.binds; body_needs = is })))))))

    -- each of trees one after another
    trees_at : (environment : Environment) (paths : VariablePaths) → AreFittingAt slots needed environment paths → (trees : Trees) (types : List ExprType)
        → AreTyped slots root (scope_of environment) trees types → HasNeededAmong environment paths trees
        → AllTyped (λ tree type. Ends (shallow slots) type (Means slots root now entity environment tree)) trees types
    trees_at environment paths fitting no_trees [] typed covered = tt
    trees_at environment paths fitting (more_trees tree more) (type ∷ types) typed covered = (
      shallow_ends slots needed (path_of (scope_of environment) paths tree) type (Means slots root now entity environment tree)
          (tree_at environment paths fitting tree type typed.0 (λ path is. covered path (inl is))),
      trees_at environment paths fitting more types typed.1 (λ path is. covered path (inr is)),
    )
    trees_at environment paths fitting _ _ typed covered = absurd typed

pub ends_once_at : OneEach → SomeEach → Promotes → TypedEndsOnceAtPaths
ends_once_at one some promotes slots needed root now entity environment paths tree type is_moment conforms fitting typed covered =
    let ends = tree_at some promotes slots needed root now entity is_moment conforms environment paths fitting tree type typed covered in
    record {
      outcome = ends.0;
      related = ends.1.0;
      of_type = ends.1.1;
      only = λ other of_other. Means-one one slots root now entity environment tree other ends.0 of_other ends.1.0;
    }
