-- A tree has at most one outcome.
use Rattle.std.proofs.Common.{◌≡◌, ℕ, ℤ, List, [], ◌∷◌, Option, Some, None, length, subst, inl, inr}
use Rattle.edm_values.specs.Val as val
use Rattle.edm_values.specs.Val.{Val}
use Rattle.edm_values.specs.MomentParts.{MomentParts}
use Rattle.odata_syntax.specs.Spans.{list_of_trees}
use Rattle.odata_syntax.specs.Tree.{Shape, Tree, any_item, binary, call, count, has, in_list, in_path, it, lambda, literal, logical_not, member, name, negation, node}
use Rattle.odata_syntax.specs.Tree.{Trees, no_trees, more_trees}
use Rattle.csdl_schema.specs.ExprType.{ExprType, single, enumeration}
use Rattle.csdl_schema.specs.SchemaModel.{Slots}
use Rattle.odata_signatures.specs.LiteralValue.{LiteralValue}
use Rattle.odata_signatures.specs.declared.function.Function.{Function}
use Rattle.odata_signatures.specs.OperatorTyped.{NegationTyped, OperatorTyped}
use Rattle.odata_syntax.specs.declared.binary_operator.BinaryOperator.{BinaryOperator}
use Rattle.odata_signatures.specs.QuotedNumber.{ResolvedNumber}
use Rattle.odata_signatures.specs.Reads.{OfEquality, ReadsNumber}
use Rattle.odata_signatures.specs.Sides.{Between, quoted_text}
use Rattle.odata_signatures.specs.Typed.{OperandTyped, OperandsTyped, Typed}
use Rattle.odata_filter_operations.specs.CalculationGives.{NegatedGives}
use Rattle.odata_filter_operations.specs.CallGives.{CallGives}
use Rattle.odata_filter_operations.specs.CollectionGives.{AnyItemGives, CountGives}
use Rattle.odata_meaning.specs.Environment.{Environment, bound_over, scope_of, variable_value}
use Rattle.odata_filter_operations.specs.HasGives.{HasGives}
use Rattle.odata_filter_operations.specs.LambdaGives.{InGives, ItemsGive, LambdaGives}
use Rattle.odata_filter_operations.specs.LeftFirst.{After}
use Rattle.odata_meaning.specs.Means.{ArgumentsMean, ItemMeans, Means, ShapeMeans}
use Rattle.odata_meaning.specs.NameGives.{StepGives}
use Rattle.odata_meaning.specs.OneByOne.{ItemAlone}
use Rattle.odata_meaning.specs.OperatorGives.{InType, OperatorGives, SidesGive}
use Rattle.odata_filter_operations.specs.Outcome.{Outcome, gives}
use Rattle.odata_meaning.specs.ReadGives.{GivesMember, OperandGives, UnlessRead}
use Rattle.odata_filter_operations.specs.TruthGives.{NotGives}
use Rattle.odata_meaning.proofs.meaning.AllTrees.{AllTrees}
use Rattle.odata_meaning.proofs.meaning.CallLaws.{CallGives-one}
use Rattle.odata_meaning.proofs.meaning.FormsOne.{AnyItemGives-one, CountGives-one, HasGives-one, InGives-one, ItemsGive-one, LambdaGives-one}
use Rattle.odata_meaning.specs.private.LawsBelow.{OneEach}
use Rattle.odata_meaning.proofs.meaning.OneLeaf.{OperatorGives-one, FoundGives-one, NegatedGives-one, NotGives-one, StepGives-one}
use Rattle.odata_meaning.proofs.meaning.OneStep.{AtMostOne, GivesSome-one, After-one, InType-one, same_one}

-- after arguments each of which has at most one outcome
ArgumentsMean-one : (slots : Slots) (root : List ℕ) (now : MomentParts) (entity : Val) (environment : Environment) (arguments : Trees) (Goes : List Val → Outcome → Type 0)
    → AllTrees (λ tree. AtMostOne (Means slots root now entity environment tree)) arguments → ((values : List Val) → AtMostOne (Goes values))
    → AtMostOne (ArgumentsMean slots root now entity environment arguments Goes)
ArgumentsMean-one slots root now entity environment no_trees Goes all one = one []
ArgumentsMean-one slots root now entity environment (more_trees tree more) Goes all one =
    After-one (Means slots root now entity environment tree)
    (λ v. ArgumentsMean slots root now entity environment more (λ values. Goes (v ∷ values)))
    all.0 (λ v. ArgumentsMean-one slots root now entity environment more (λ values. Goes (v ∷ values)) all.1 (λ values. one (v ∷ values)))

-- what is given of one number at most, or else
UnlessRead-one : (Reads : ℤ → Type 0) (Given : ℤ → Outcome → Type 0) (Else : Outcome → Type 0) → ((m n : ℤ) → Reads m → Reads n → m ≡ n) → ((n : ℤ) → AtMostOne (Given n)) → AtMostOne Else
    → AtMostOne (UnlessRead Reads Given Else)
UnlessRead-one Reads Given Else one each other a b (inl (m, of_m, p)) (inl (n, of_n, q)) = each m a b p (subst (λ (k : ℤ). Given k b) (one n m of_n of_m) q)
UnlessRead-one Reads Given Else one each other a b (inl (m, of_m, p)) (inr (none, q)) = absurd (none m of_m)
UnlessRead-one Reads Given Else one each other a b (inr (none, p)) (inl (n, of_n, q)) = absurd (none n of_n)
UnlessRead-one Reads Given Else one each other a b (inr (none, p)) (inr (also, q)) = other a b p q

-- a text stands for one number of an enumeration at most
ResolvedNumber-one : OneEach → (slots : Slots) (type : ExprType) (quoted : Option (List ℕ)) (m n : ℤ) → ResolvedNumber slots type quoted m → ResolvedNumber slots type quoted n → m ≡ n
ResolvedNumber-one known slots (single (enumeration named)) (Some spelling) m n p q = known.numbers slots named spelling m n p q
ResolvedNumber-one known slots (single (enumeration named)) None m n p q = absurd p
ResolvedNumber-one known slots _ quoted m n p q = absurd p

ReadsNumber-one : OneEach → (slots : Slots) (OtherSide : ExprType → Type 0) (tree : Tree) → ((s t : ExprType) → OtherSide s → OtherSide t → s ≡ t)
    → (m n : ℤ) → ReadsNumber slots OtherSide tree m → ReadsNumber slots OtherSide tree n → m ≡ n
ReadsNumber-one known slots OtherSide tree one m n p q =
    ResolvedNumber-one known slots p.type_of (quoted_text tree) m n p.number
    (subst (λ (t : ExprType). ResolvedNumber slots t (quoted_text tree) n) (one q.type_of p.type_of q.beside p.beside) q.number)

OperandGives-one : (known : OneEach) (slots : Slots) (OtherSide : ExprType → Type 0) (tree : Tree) (Alone : Outcome → Type 0) → ((s t : ExprType) → OtherSide s → OtherSide t → s ≡ t) → AtMostOne Alone
    → AtMostOne (OperandGives (ReadsNumber slots OtherSide tree) Alone)
OperandGives-one known slots OtherSide tree Alone one alone =
    UnlessRead-one (ReadsNumber slots OtherSide tree) GivesMember Alone (ReadsNumber-one known slots OtherSide tree one) (λ n. same_one (gives (val.member n))) alone

SidesGive-one : (known : OneEach) (operator : BinaryOperator) (N : ExprType → Type 0) (Left Right : Outcome → Type 0) → ((s t : ExprType) → N s → N t → s ≡ t) → AtMostOne Left → AtMostOne Right
    → AtMostOne (SidesGive operator N Left Right)
SidesGive-one known operator N Left Right one left right =
    After-one Left (λ l. OperatorGives operator N l Right) left (λ l. OperatorGives-one known operator N l Right one right)

module _ (known : OneEach) (slots : Slots) (root : List ℕ) (now : MomentParts) (entity : Val) where
  mutual
    pub Means-one : (environment : Environment) (tree : Tree) → AtMostOne (Means slots root now entity environment tree)
    Means-one environment (node start stop shape) = ShapeMeans-one environment shape

    pub ShapeMeans-one : (environment : Environment) (shape : Shape) → AtMostOne (ShapeMeans slots root now entity environment shape)
    ShapeMeans-one environment (literal kind spelling) = GivesSome-one (LiteralValue slots kind spelling) (known.values slots kind spelling)
    ShapeMeans-one environment it = λ a b p q. same_one (gives entity) a b p q
    ShapeMeans-one environment (name word) = FoundGives-one (variable_value environment word) entity word
    ShapeMeans-one environment (member base word) =
        After-one (Means slots root now entity environment base) (λ v. StepGives v word) (Means-one environment base) (λ v. StepGives-one v word)
    ShapeMeans-one environment (count base) =
        After-one (Means slots root now entity environment base) CountGives (Means-one environment base) (CountGives-one known)
    ShapeMeans-one environment (negation operand) =
        let NodeTyped : ExprType → Type 0 = OperandTyped (Typed slots root (scope_of environment) operand) NegationTyped in
        After-one (Means slots root now entity environment operand) (λ v. InType NodeTyped (λ type. NegatedGives type v))
        (Means-one environment operand)
        (λ v. InType-one NodeTyped (λ type. NegatedGives type v)
        (λ s t p q. known.types slots root (scope_of environment) (node 0 0 (negation operand)) s t p q) (λ type. NegatedGives-one known type v))
    ShapeMeans-one environment (logical_not operand) =
        After-one (Means slots root now entity environment operand) NotGives (Means-one environment operand) NotGives-one
    ShapeMeans-one environment (binary operator left right) =
        let L : ExprType → Type 0 = Typed slots root (scope_of environment) left in
        let R : ExprType → Type 0 = Typed slots root (scope_of environment) right in
        let N : ExprType → Type 0 = OperandsTyped L R (Between (OperatorTyped slots operator) left right) in
        let Left : Outcome → Type 0 = Means slots root now entity environment left in
        let Right : Outcome → Type 0 = Means slots root now entity environment right in
        let one : (s t : ExprType) → N s → N t → s ≡ t = λ s t p q. known.types slots root (scope_of environment) (node 0 0 (binary operator left right)) s t p q in
        SidesGive-one known operator N (OperandGives (ReadsNumber slots (OfEquality operator R) left) Left) (OperandGives (ReadsNumber slots (OfEquality operator L) right) Right) one
        (OperandGives-one known slots (OfEquality operator R) left Left (λ s t p q. known.types slots root (scope_of environment) right s t p.1 q.1) (Means-one environment left))
        (OperandGives-one known slots (OfEquality operator L) right Right (λ s t p q. known.types slots root (scope_of environment) left s t p.1 q.1) (Means-one environment right))
    ShapeMeans-one environment (has left right) =
        let L : ExprType → Type 0 = Typed slots root (scope_of environment) left in
        let Left : Outcome → Type 0 = Means slots root now entity environment left in
        let Right : Outcome → Type 0 = Means slots root now entity environment right in
        let Operand : Outcome → Type 0 = OperandGives (ReadsNumber slots L right) Right in
        After-one Left (λ l. After Operand (HasGives l)) (Means-one environment left)
        (λ l. After-one Operand (HasGives l)
        (OperandGives-one known slots L right Right (λ s t p q. known.types slots root (scope_of environment) left s t p q) (Means-one environment right)) (HasGives-one l))
    ShapeMeans-one environment (in_list left items) =
        let L : ExprType → Type 0 = Typed slots root (scope_of environment) left in
        After-one (Means slots root now entity environment left)
        (λ l. ItemsGive l (length (list_of_trees items)) (ItemMeans slots root now entity environment L items))
        (Means-one environment left) (λ l. ItemsGive-one slots root now entity environment L l items (items_one environment left items))
    ShapeMeans-one environment (in_path left path) =
        After-one (Means slots root now entity environment left) (λ l. After (Means slots root now entity environment path) (InGives l))
        (Means-one environment left)
        (λ l. After-one (Means slots root now entity environment path) (InGives l) (Means-one environment path) (InGives-one l))
    ShapeMeans-one environment (call asked arguments) = λ a b p q.
        let same : q.function ≡ p.function = known.names q.function p.function asked q.named p.named in
        ArgumentsMean-one slots root now entity environment arguments (CallGives now p.function) (all_one environment arguments) (CallGives-one known now p.function) a b p.given
        (subst (λ (f : Function). ArgumentsMean slots root now entity environment arguments (CallGives now f) b) same q.given)
    ShapeMeans-one environment (any_item base) =
        After-one (Means slots root now entity environment base) AnyItemGives (Means-one environment base) AnyItemGives-one
    ShapeMeans-one environment (lambda quantifier base variable body) =
        let BaseTyped : ExprType → Type 0 = Typed slots root (scope_of environment) base in
        After-one (Means slots root now entity environment base)
        (LambdaGives quantifier BaseTyped (λ type v. Means slots root now entity (bound_over environment variable type v) body))
        (Means-one environment base)
        (λ v. LambdaGives-one quantifier BaseTyped (λ type w. Means slots root now entity (bound_over environment variable type w) body) v
        (λ s t p q. known.types slots root (scope_of environment) base s t p q) (λ type w. Means-one (bound_over environment variable type w) body))

    all_one : (environment : Environment) (arguments : Trees) → AllTrees (λ tree. AtMostOne (Means slots root now entity environment tree)) arguments
    all_one environment no_trees = tt
    all_one environment (more_trees tree more) = (Means-one environment tree, all_one environment more)

    -- each item beside the operand on the left
    pub items_one : (environment : Environment) (left : Tree) (items : Trees)
        → AllTrees (λ tree. AtMostOne (ItemAlone slots root now entity environment (Typed slots root (scope_of environment) left) tree)) items
    items_one environment left no_trees = tt
    items_one environment left (more_trees tree more) = (
      OperandGives-one known slots (Typed slots root (scope_of environment) left) tree (Means slots root now entity environment tree)
          (λ s t p q. known.types slots root (scope_of environment) left s t p q) (Means-one environment tree),
      items_one environment left more,
    )
