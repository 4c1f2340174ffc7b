-- A tree, its normal form and the tree of its printed text have the same outcomes.
use Rattle.std.proofs.Common.{◌≡◌, ◌↔◌, ℕ, List, ◌∷◌, Option, length, sym, subst}
use Rattle.edm_values.specs.MomentParts.{MomentParts}
use Rattle.edm_values.specs.Val as val
use Rattle.edm_values.specs.Val.{Val}
use Rattle.csdl_schema.specs.ExprType.{ExprType}
use Rattle.csdl_schema.specs.SchemaModel.{Slots}
use Rattle.odata_text.specs.LiteralSpelling.{IsLiteralSpelling}
use Rattle.odata_text.specs.TokenModel.{TokenModel}
use Rattle.odata_text.specs.TokenSequence.{AreTokensOf}
use Rattle.odata_syntax.specs.CanonicalText.{IsCanonicalText}
use Rattle.odata_syntax.specs.Grammar.{Derives, or_level}
use Rattle.odata_syntax.specs.NormalForm.{AreNormalForms, IsNormalForm, IsNormalShape, bare, bare_shape, bare_trees, literal_token}
use Rattle.odata_syntax.specs.Parse.{IsExpression}
use Rattle.odata_syntax.specs.ReadBack.{IsReadBack}
use Rattle.odata_syntax.specs.Spans.{list_of_trees}
use Rattle.odata_syntax.specs.Tree.{Shape, Tree, any_item, binary, call, count, has, in_list, in_path, it, lambda, literal, logical_not, member, name, negation, node}
use Rattle.odata_syntax.specs.Tree.{Trees, no_trees, more_trees}
use Rattle.odata_syntax.specs.declared.binary_operator.BinaryOperator.{BinaryOperator}
use Rattle.odata_syntax.specs.declared.node.LiteralKind.{LiteralKind}
use Rattle.odata_syntax.specs.declared.node.Quantifier.{Quantifier}
use Rattle.odata_signatures.specs.LiteralValue.{LiteralValue}
use Rattle.odata_signatures.specs.OperatorTyped.{NegationTyped, OperatorTyped}
use Rattle.odata_signatures.specs.Side.{Side, quoting}
use Rattle.odata_signatures.specs.Reads.{OfEquality, ReadsNumber}
use Rattle.odata_signatures.specs.Sides.{Between, quoted_text}
use Rattle.odata_signatures.specs.Typed.{OperandTyped, OperandsTyped, Scope, Typed}
use Rattle.odata_filter_operations.specs.CalculationGives.{NegatedGives}
use Rattle.odata_filter_operations.specs.CallGives.{CallGives}
use Rattle.odata_filter_operations.specs.CollectionGives.{AnyItemGives, CountGives}
use Rattle.odata_meaning.specs.Environment.{Environment, bound_over, scope_of}
use Rattle.odata_filter_operations.specs.HasGives.{HasGives}
use Rattle.odata_filter_operations.specs.LambdaGives.{InGives, ItemsGive, LambdaGives}
use Rattle.odata_filter_operations.specs.LeftFirst.{After}
use Rattle.odata_meaning.specs.Means.{ArgumentsMean, ItemMeans, Means, ShapeMeans}
use Rattle.odata_meaning.specs.NameGives.{StepGives}
use Rattle.odata_meaning.specs.OneByOne.{ItemAlone}
use Rattle.odata_meaning.specs.OperatorGives.{InType, SidesGive}
use Rattle.odata_filter_operations.specs.Outcome.{Outcome}
use Rattle.odata_meaning.specs.ReadGives.{GivesMember, OperandGives}
use Rattle.odata_meaning.specs.SameMeaning.{HaveOneMeaning, NormalFormsKeepOutcomes, CanonicalTextsKeepOutcomes}
use Rattle.odata_filter_operations.specs.TruthGives.{NotGives}
use Rattle.odata_meaning.proofs.meaning.AllTrees.{AllPaired}
use Rattle.odata_meaning.proofs.meaning.FormsSame.{items_same, lambda_both}
use Rattle.odata_meaning.proofs.meaning.SameGives.{Both, BothTyped, after_both, equality_both, in_turn, in_type_both, itself, operand_both, operands_both, reads_both, sides_both, some_both, turned, unless_both}

-- what normal forms and places leave as it is
pub record KeptForms : Type 0 where
  pub values : (slots : Slots) (kind : LiteralKind) (text spelling : List ℕ) (v : Val) → IsLiteralSpelling (literal_token kind) text spelling
      → LiteralValue slots kind text v ↔ LiteralValue slots kind spelling v
  pub types : (slots : Slots) (root : List ℕ) (scope : Scope) (tree normal : Tree) (type : ExprType) → IsNormalForm tree normal
      → Typed slots root scope tree type ↔ Typed slots root scope normal type
  pub places : (slots : Slots) (root : List ℕ) (scope : Scope) (tree : Tree) (type : ExprType)
      → Typed slots root scope tree type ↔ Typed slots root scope (bare tree) type
  pub quotes : (tree normal : Tree) → IsNormalForm tree normal → quoted_text tree ≡ quoted_text normal
  pub quotes_bare : (tree : Tree) → quoted_text tree ≡ quoted_text (bare tree)

-- trees that quote the same, one by one
abbrev QuoteAlike : Trees → Trees → Type 0
QuoteAlike = AllPaired (λ tree other. quoted_text tree ≡ quoted_text other)

-- what is made of two sides is made of sides that quote the same
made_on : (Makes : Side → Side → ExprType → Type 0) (l r m s : Tree) (a b type : ExprType) → quoted_text l ≡ quoted_text m → quoted_text r ≡ quoted_text s
    → Between Makes l r a b type → Between Makes m s a b type
made_on Makes l r m s a b type left right made =
    subst (λ (quoted : Option (List ℕ)). Makes (quoting (quoted_text m) a) (quoting quoted b) type) right
    (subst (λ (quoted : Option (List ℕ)). Makes (quoting quoted a) (quoting (quoted_text r) b) type) left made)

module _ (kept : KeptForms) (slots : Slots) (root : List ℕ) (now : MomentParts) (entity : Val) where
  abbrev M : Environment → Tree → Outcome → Type 0
  M = Means slots root now entity

  abbrev S : Environment → Shape → Outcome → Type 0
  S = ShapeMeans slots root now entity

  abbrev T : Environment → Tree → ExprType → Type 0
  T environment = Typed slots root (scope_of environment)

  abbrev A : Environment → Trees → (List Val → Outcome → Type 0) → Outcome → Type 0
  A = ArgumentsMean slots root now entity

  -- each has the same outcomes as the one at its index
  abbrev Paired : Environment → Trees → Trees → Type 0
  Paired environment = AllPaired (λ tree other. Both (M environment tree) (M environment other))

  module _ (environment : Environment) where
    -- of operands with the same outcomes and types a node evaluates to the same
    member_same : (base other : Tree) (asked : List ℕ) → Both (M environment base) (M environment other) → Both (S environment (member base asked)) (S environment (member other asked))
    member_same base other asked same =
        after_both (M environment base) (M environment other) (λ v. StepGives v asked) (λ v. StepGives v asked) same (λ v. itself (StepGives v asked))

    count_same : (base other : Tree) → Both (M environment base) (M environment other) → Both (S environment (count base)) (S environment (count other))
    count_same base other same = after_both (M environment base) (M environment other) CountGives CountGives same (λ v. itself (CountGives v))

    any_item_same : (base other : Tree) → Both (M environment base) (M environment other) → Both (S environment (any_item base)) (S environment (any_item other))
    any_item_same base other same = after_both (M environment base) (M environment other) AnyItemGives AnyItemGives same (λ v. itself (AnyItemGives v))

    negation_same : (operand other : Tree) → Both (M environment operand) (M environment other) → BothTyped (T environment operand) (T environment other)
        → Both (S environment (negation operand)) (S environment (negation other))
    negation_same operand other same typed =
        let N : ExprType → Type 0 = OperandTyped (T environment operand) NegationTyped in
        let K : ExprType → Type 0 = OperandTyped (T environment other) NegationTyped in
        after_both (M environment operand) (M environment other)
        (λ v. InType N (λ type. NegatedGives type v)) (λ v. InType K (λ type. NegatedGives type v)) same
        (λ v. in_type_both N K (λ type. NegatedGives type v) (operand_both (T environment operand) (T environment other) NegationTyped typed))

    not_same : (operand other : Tree) → Both (M environment operand) (M environment other) → Both (S environment (logical_not operand)) (S environment (logical_not other))
    not_same operand other same = after_both (M environment operand) (M environment other) NotGives NotGives same (λ v. itself (NotGives v))

    -- operands that evaluate to the same beside operands of the same types
    operand_same : (B C : ExprType → Type 0) (tree other : Tree) → BothTyped B C → quoted_text tree ≡ quoted_text other → Both (M environment tree) (M environment other)
        → Both (OperandGives (ReadsNumber slots B tree) (M environment tree)) (OperandGives (ReadsNumber slots C other) (M environment other))
    operand_same B C tree other typed quotes same =
        unless_both (ReadsNumber slots B tree) (ReadsNumber slots C other) GivesMember GivesMember (M environment tree) (M environment other)
        (reads_both slots B C tree other typed quotes) (λ n. itself (GivesMember n)) same

    binary_same : (operator : BinaryOperator) (l r m s : Tree) → Both (M environment l) (M environment m) → Both (M environment r) (M environment s)
        → BothTyped (T environment l) (T environment m) → BothTyped (T environment r) (T environment s) → quoted_text l ≡ quoted_text m → quoted_text r ≡ quoted_text s
        → Both (S environment (binary operator l r)) (S environment (binary operator m s))
    binary_same operator l r m s left right left_typed right_typed left_quotes right_quotes =
        let N : ExprType → Type 0 = OperandsTyped (T environment l) (T environment r) (Between (OperatorTyped slots operator) l r) in
        let K : ExprType → Type 0 = OperandsTyped (T environment m) (T environment s) (Between (OperatorTyped slots operator) m s) in
        let nodes : BothTyped N K =
        operands_both (T environment l) (T environment m) (T environment r) (T environment s) (Between (OperatorTyped slots operator) l r) (Between (OperatorTyped slots operator) m s)
        left_typed right_typed (λ a b type. (made_on (OperatorTyped slots operator) l r m s a b type left_quotes right_quotes, made_on (OperatorTyped slots operator) m s l r a b type (sym left_quotes) (sym right_quotes))) in
        sides_both operator N K
        (OperandGives (ReadsNumber slots (OfEquality operator (T environment r)) l) (M environment l)) (OperandGives (ReadsNumber slots (OfEquality operator (T environment s)) m) (M environment m))
        (OperandGives (ReadsNumber slots (OfEquality operator (T environment l)) r) (M environment r)) (OperandGives (ReadsNumber slots (OfEquality operator (T environment m)) s) (M environment s))
        nodes
        (operand_same (OfEquality operator (T environment r)) (OfEquality operator (T environment s)) l m (equality_both operator (T environment r) (T environment s) right_typed) left_quotes left)
        (operand_same (OfEquality operator (T environment l)) (OfEquality operator (T environment m)) r s (equality_both operator (T environment l) (T environment m) left_typed) right_quotes right)

    -- of two operands that are both evaluated
    two_same : (Gives : Val → Val → Outcome → Type 0) (l r m s : Tree) → Both (M environment l) (M environment m) → Both (M environment r) (M environment s)
        → Both (After (M environment l) (λ v. After (M environment r) (Gives v))) (After (M environment m) (λ v. After (M environment s) (Gives v)))
    two_same Gives l r m s left right =
        after_both (M environment l) (M environment m) (λ v. After (M environment r) (Gives v)) (λ v. After (M environment s) (Gives v)) left
        (λ v. after_both (M environment r) (M environment s) (Gives v) (Gives v) right (λ w. itself (Gives v w)))

    has_same : (l r m s : Tree) → Both (M environment l) (M environment m) → Both (M environment r) (M environment s) → BothTyped (T environment l) (T environment m) → quoted_text r ≡ quoted_text s
        → Both (S environment (has l r)) (S environment (has m s))
    has_same l r m s left right left_typed right_quotes =
        let Operand : Outcome → Type 0 = OperandGives (ReadsNumber slots (T environment l) r) (M environment r) in
        let Other : Outcome → Type 0 = OperandGives (ReadsNumber slots (T environment m) s) (M environment s) in
        after_both (M environment l) (M environment m) (λ v. After Operand (HasGives v)) (λ v. After Other (HasGives v)) left
        (λ v. after_both Operand Other (HasGives v) (HasGives v) (operand_same (T environment l) (T environment m) r s left_typed right_quotes right) (λ w. itself (HasGives v w)))

    -- items that evaluate to the same beside operands of the same types
    items_read : (B C : ExprType → Type 0) (items others : Trees) → BothTyped B C → Paired environment items others → QuoteAlike items others
        → AllPaired (λ tree other. Both (ItemAlone slots root now entity environment B tree) (ItemAlone slots root now entity environment C other)) items others
    items_read B C no_trees no_trees typed paired alike = tt
    items_read B C (more_trees tree more) (more_trees other others) typed paired alike = (
      operand_same B C tree other typed alike.0 paired.0,
      items_read B C more others typed paired.1 alike.1,
    )
    items_read B C no_trees (more_trees other others) typed paired alike = absurd paired
    items_read B C (more_trees tree more) no_trees typed paired alike = absurd paired

    in_list_same : (left other : Tree) (items others : Trees) → Both (M environment left) (M environment other) → BothTyped (T environment left) (T environment other)
        → Paired environment items others → QuoteAlike items others
        → Both (S environment (in_list left items)) (S environment (in_list other others))
    in_list_same left other items others same typed paired alike =
        after_both (M environment left) (M environment other)
        (λ l. ItemsGive l (length (list_of_trees items)) (ItemMeans slots root now entity environment (T environment left) items))
        (λ l. ItemsGive l (length (list_of_trees others)) (ItemMeans slots root now entity environment (T environment other) others)) same
        (λ l. items_same slots root now entity environment (T environment left) (T environment other) l items others (items_read (T environment left) (T environment other) items others typed paired alike))

    -- the body evaluates to the same with each value of the variable
    lambda_same : (quantifier : Quantifier) (base other : Tree) (variable : List ℕ) (body else_body : Tree)
        → Both (M environment base) (M environment other) → BothTyped (T environment base) (T environment other)
        → ((type : ExprType) (v : Val) → Both (M (bound_over environment variable type v) body) (M (bound_over environment variable type v) else_body))
        → Both (S environment (lambda quantifier base variable body)) (S environment (lambda quantifier other variable else_body))
    lambda_same quantifier base other variable body else_body same typed bodies =
        let B : ExprType → Val → Outcome → Type 0 = λ type v. M (bound_over environment variable type v) body in
        let C : ExprType → Val → Outcome → Type 0 = λ type v. M (bound_over environment variable type v) else_body in
        after_both (M environment base) (M environment other) (LambdaGives quantifier (T environment base) B) (LambdaGives quantifier (T environment other) C) same
        (λ v. lambda_both quantifier (T environment base) (T environment other) B C v typed bodies)

    arguments_same : (items others : Trees) (Goes : List Val → Outcome → Type 0) → Paired environment items others → Both (A environment items Goes) (A environment others Goes)
    arguments_same no_trees no_trees Goes same = itself (A environment no_trees Goes)
    arguments_same (more_trees tree more) (more_trees other others) Goes same =
        after_both (M environment tree) (M environment other) (λ v. A environment more (λ values. Goes (v ∷ values))) (λ v. A environment others (λ values. Goes (v ∷ values))) same.0
        (λ v. arguments_same more others (λ values. Goes (v ∷ values)) same.1)
    arguments_same _ _ Goes same = absurd same

    call_same : (asked : List ℕ) (items others : Trees) → Paired environment items others → Both (S environment (call asked items)) (S environment (call asked others))
    call_same asked items others same o = (
      λ means. record { function = means.function; named = means.named; given = (arguments_same items others (CallGives now means.function) same o).0 means.given },
      λ means. record { function = means.function; named = means.named; given = (arguments_same items others (CallGives now means.function) same o).1 means.given },
    )

    -- trees quote what their normal forms do, and what they do without places
    alike_normal : (items rest : Trees) → AreNormalForms items rest → QuoteAlike items rest
    alike_normal no_trees rest is = subst (λ (ts : Trees). QuoteAlike no_trees ts) (sym is) tt
    alike_normal (more_trees tree more) rest (t, ts, tree_is, more_are, is) =
        subst (λ (us : Trees). QuoteAlike (more_trees tree more) us) (sym is) (kept.quotes tree t tree_is, alike_normal more ts more_are)

    alike_bare : (items : Trees) → QuoteAlike items (bare_trees items)
    alike_bare no_trees = tt
    alike_bare (more_trees tree more) = (kept.quotes_bare tree, alike_bare more)

    -- the shape is that
    at_shape : (shape known other : Shape) → other ≡ known → Both (S environment shape) (S environment known) → Both (S environment shape) (S environment other)
    at_shape shape known other is same = subst (λ (s : Shape). Both (S environment shape) (S environment s)) (sym is) same

    types_kept : (tree normal : Tree) → IsNormalForm tree normal → BothTyped (T environment tree) (T environment normal)
    types_kept tree normal is type = kept.types slots root (scope_of environment) tree normal type is

    -- places do not matter
    types_bare : (tree : Tree) → BothTyped (T environment tree) (T environment (bare tree))
    types_bare tree type = kept.places slots root (scope_of environment) tree type

  mutual
    normal_same : (environment : Environment) (tree normal : Tree) → IsNormalForm tree normal → Both (M environment tree) (M environment normal)
    normal_same environment (node start stop shape) normal (other, is_shape, is) =
        subst (λ (n : Tree). Both (M environment (node start stop shape)) (M environment n)) (sym is) (normal_shape_same environment shape other is_shape)

    normal_shape_same : (environment : Environment) (shape other : Shape) → IsNormalShape shape other → Both (S environment shape) (S environment other)
    normal_shape_same environment (literal kind text) other (spelling, spelled, is) =
        at_shape environment (literal kind text) (literal kind spelling) other is
        (some_both (LiteralValue slots kind text) (LiteralValue slots kind spelling) (λ v. kept.values slots kind text spelling v spelled))
    normal_shape_same environment it other is = at_shape environment it it other is (itself (S environment it))
    normal_shape_same environment (name asked) other is = at_shape environment (name asked) (name asked) other is (itself (S environment (name asked)))
    normal_shape_same environment (member base asked) other (b, base_is, is) =
        at_shape environment (member base asked) (member b asked) other is (member_same environment base b asked (normal_same environment base b base_is))
    normal_shape_same environment (count base) other (b, base_is, is) =
        at_shape environment (count base) (count b) other is (count_same environment base b (normal_same environment base b base_is))
    normal_shape_same environment (negation operand) other (n, operand_is, is) =
        at_shape environment (negation operand) (negation n) other is
        (negation_same environment operand n (normal_same environment operand n operand_is) (types_kept environment operand n operand_is))
    normal_shape_same environment (logical_not operand) other (n, operand_is, is) =
        at_shape environment (logical_not operand) (logical_not n) other is (not_same environment operand n (normal_same environment operand n operand_is))
    normal_shape_same environment (binary operator left right) other (l, r, left_is, right_is, is) =
        at_shape environment (binary operator left right) (binary operator l r) other is
        (binary_same environment operator left right l r (normal_same environment left l left_is) (normal_same environment right r right_is)
        (types_kept environment left l left_is) (types_kept environment right r right_is) (kept.quotes left l left_is) (kept.quotes right r right_is))
    normal_shape_same environment (has left right) other (l, r, left_is, right_is, is) =
        at_shape environment (has left right) (has l r) other is
        (has_same environment left right l r (normal_same environment left l left_is) (normal_same environment right r right_is)
        (types_kept environment left l left_is) (kept.quotes right r right_is))
    normal_shape_same environment (in_list left items) other (l, rest, left_is, items_are, is) =
        at_shape environment (in_list left items) (in_list l rest) other is
        (in_list_same environment left l items rest (normal_same environment left l left_is) (types_kept environment left l left_is)
        (normal_trees_same environment items rest items_are) (alike_normal environment items rest items_are))
    normal_shape_same environment (in_path left path) other (l, p, left_is, path_is, is) =
        at_shape environment (in_path left path) (in_path l p) other is
        (two_same environment InGives left path l p (normal_same environment left l left_is) (normal_same environment path p path_is))
    normal_shape_same environment (call asked arguments) other (rest, items_are, is) =
        at_shape environment (call asked arguments) (call asked rest) other is (call_same environment asked arguments rest (normal_trees_same environment arguments rest items_are))
    normal_shape_same environment (any_item base) other (b, base_is, is) =
        at_shape environment (any_item base) (any_item b) other is (any_item_same environment base b (normal_same environment base b base_is))
    normal_shape_same environment (lambda quantifier base variable body) other (b, e, base_is, body_is, is) =
        at_shape environment (lambda quantifier base variable body) (lambda quantifier b variable e) other is
        (lambda_same environment quantifier base b variable body e (normal_same environment base b base_is) (types_kept environment base b base_is)
        (λ type v. normal_same (bound_over environment variable type v) body e body_is))

    normal_trees_same : (environment : Environment) (items rest : Trees) → AreNormalForms items rest → Paired environment items rest
    normal_trees_same environment no_trees rest is = subst (λ (ts : Trees). Paired environment no_trees ts) (sym is) tt
    normal_trees_same environment (more_trees tree more) rest (t, ts, tree_is, more_are, is) =
        subst (λ (us : Trees). Paired environment (more_trees tree more) us) (sym is) (normal_same environment tree t tree_is, normal_trees_same environment more ts more_are)

  mutual
    bare_same : (environment : Environment) (tree : Tree) → Both (M environment tree) (M environment (bare tree))
    bare_same environment (node start stop shape) = bare_shape_same environment shape

    bare_shape_same : (environment : Environment) (shape : Shape) → Both (S environment shape) (S environment (bare_shape shape))
    bare_shape_same environment (member base asked) = member_same environment base (bare base) asked (bare_same environment base)
    bare_shape_same environment (count base) = count_same environment base (bare base) (bare_same environment base)
    bare_shape_same environment (negation operand) = negation_same environment operand (bare operand) (bare_same environment operand) (types_bare environment operand)
    bare_shape_same environment (logical_not operand) = not_same environment operand (bare operand) (bare_same environment operand)
    bare_shape_same environment (binary operator left right) =
        binary_same environment operator left right (bare left) (bare right) (bare_same environment left) (bare_same environment right)
        (types_bare environment left) (types_bare environment right) (kept.quotes_bare left) (kept.quotes_bare right)
    bare_shape_same environment (has left right) =
        has_same environment left right (bare left) (bare right) (bare_same environment left) (bare_same environment right) (types_bare environment left) (kept.quotes_bare right)
    bare_shape_same environment (in_list left items) =
        in_list_same environment left (bare left) items (bare_trees items) (bare_same environment left) (types_bare environment left) (bare_trees_same environment items)
        (alike_bare environment items)
    bare_shape_same environment (in_path left path) =
        two_same environment InGives left path (bare left) (bare path) (bare_same environment left) (bare_same environment path)
    bare_shape_same environment (call asked arguments) = call_same environment asked arguments (bare_trees arguments) (bare_trees_same environment arguments)
    bare_shape_same environment (any_item base) = any_item_same environment base (bare base) (bare_same environment base)
    bare_shape_same environment (lambda quantifier base variable body) =
        lambda_same environment quantifier base (bare base) variable body (bare body) (bare_same environment base) (types_bare environment base)
        (λ type v. bare_same (bound_over environment variable type v) body)
    bare_shape_same environment _ = λ o. (λ is. is, λ is. is)

    bare_trees_same : (environment : Environment) (items : Trees) → Paired environment items (bare_trees items)
    bare_trees_same environment no_trees = tt
    bare_trees_same environment (more_trees tree more) = (bare_same environment tree, bare_trees_same environment more)

  again_same : (environment : Environment) (tree normal again : Tree) → IsNormalForm tree normal → bare again ≡ bare normal → Both (M environment tree) (M environment again)
  again_same environment tree normal again is same =
      in_turn (M environment tree) (M environment normal) (M environment again) (normal_same environment tree normal is)
      (in_turn (M environment normal) (M environment (bare normal)) (M environment again) (bare_same environment normal)
      (turned (M environment again) (M environment (bare normal)) (subst (λ (t : Tree). Both (M environment again) (M environment t)) same (bare_same environment again))))

pub normal_forms_same : KeptForms → NormalFormsKeepOutcomes
normal_forms_same kept tree normal is slots root now entity environment = normal_same kept slots root now entity environment tree normal is

pub read_back_same : KeptForms → (tree normal again : Tree) → IsNormalForm tree normal → bare again ≡ bare normal → HaveOneMeaning tree again
read_back_same kept tree normal again is same slots root now entity environment = again_same kept slots root now entity environment tree normal again is same

-- ---- the tree of a printed text

abbrev pub ReadsBack : Type 0
ReadsBack = (tree : Tree) (text : List ℕ) → IsExpression tree → IsCanonicalText tree text → IsReadBack tree text

abbrev pub OneList : Type 0
OneList = (text : List ℕ) (first second : List TokenModel) → AreTokensOf text first → AreTokensOf text second → first ≡ second

abbrev pub OneTreeOf : Type 0
OneTreeOf = (ts : List TokenModel) (tree other : Tree) → Derives or_level ts tree → Derives or_level ts other → tree ≡ other

pub printed_same : KeptForms → ReadsBack → OneList → OneTreeOf → CanonicalTextsKeepOutcomes
printed_same kept reads one_list one_tree tree again printed expression canonical has_tree =
    let read = reads tree printed expression canonical in
    let of_text : AreTokensOf printed has_tree.models = record { tokens = has_tree.tokens.tokens; ends = has_tree.tokens.ends } in
    let same : read.tokens ≡ has_tree.models = one_list printed read.tokens has_tree.models read.list of_text in
    let is_again : read.again ≡ again =
    one_tree has_tree.models read.again again (subst (λ (ts : List TokenModel). Derives or_level ts read.again) same read.derived) has_tree.parse.derived in
    read_back_same kept tree canonical.normal again canonical.is_normal
    (subst (λ (t : Tree). bare t ≡ bare canonical.normal) is_again (read.same canonical.normal canonical.is_normal))
