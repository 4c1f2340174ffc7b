-- Members and items taken one by one evaluate to the same (OData URL Conventions 4.01, section 5.1.1.13).
use Rattle.std.specs.Prelude.{◌≡◌, ◌↔◌, ℕ, List, true, false, length}
use Rattle.edm_values.specs.MomentParts.{MomentParts}
use Rattle.edm_values.specs.Val.{Val, null, boolean, Vals, no_items, item}
use Rattle.csdl_schema.specs.ExprType.{ExprType}
use Rattle.csdl_schema.specs.SchemaModel.{Slots}
use Rattle.odata_syntax.specs.declared.binary_operator.ComparisonOperator.TheVariants.{Eq}
use Rattle.odata_syntax.specs.Spans.{list_of_trees}
use Rattle.odata_syntax.specs.Tree.{Tree, Trees, no_trees, more_trees}
use Rattle.odata_syntax.specs.declared.node.Quantifier.{Quantifier}
use Rattle.odata_syntax.specs.declared.node.Quantifier.TheVariants.{Any, All}
use Rattle.odata_filter_operations.specs.CompareGives.{CompareGives}
use Rattle.odata_meaning.specs.Environment.{Environment, bound_over, scope_of}
use Rattle.odata_filter_operations.specs.LambdaGives.{ItemsGive, MembersGive}
use Rattle.odata_filter_operations.specs.LeftFirst.{After}
use Rattle.odata_meaning.specs.Means.{ItemMeans, Means}
use Rattle.odata_filter_operations.specs.Outcome.{Outcome, gives}
use Rattle.odata_filter_operations.specs.QuantifierGives.{undecided_val}
use Rattle.odata_meaning.specs.ReadGives.{OperandGives}
use Rattle.odata_signatures.specs.Reads.{ReadsNumber}
use Rattle.odata_signatures.specs.Typed.{Typed}

-- a value of the body decides, or what follows goes on
abbrev pub GoesOn : Quantifier → (Outcome → Type 0) → Val → Outcome → Type 0
GoesOn Any More (boolean true) o = o ≡ gives (boolean true)
GoesOn Any More (boolean false) o = More o
GoesOn Any More null o = More o
GoesOn All More (boolean true) o = More o
GoesOn All More (boolean false) o = o ≡ gives (boolean false)
GoesOn All More null o = o ≡ gives (boolean false)
GoesOn quantifier More _ o = ⊥

-- `any` or `all` of a body over members, from the first one on
abbrev pub MembersGo : Quantifier → (Val → Outcome → Type 0) → Vals → Outcome → Type 0
MembersGo quantifier Body no_items o = o ≡ gives (undecided_val quantifier)
MembersGo quantifier Body (item v more) o = After (Body v) (GoesOn quantifier (MembersGo quantifier Body more)) o

-- whether one of the items of a list is equal to a value, from the first one on
abbrev pub ItemsGo : (Tree → Outcome → Type 0) → Val → Trees → Outcome → Type 0
ItemsGo Item l no_trees o = o ≡ gives (undecided_val Any)
ItemsGo Item l (more_trees tree more) o =
    After (After (Item tree) (CompareGives Eq l)) (GoesOn Any (ItemsGo Item l more)) o

-- the same is said by indexes: of a body over the members of a collection
abbrev pub MembersOneByOne : Type 0
MembersOneByOne =
    (slots : Slots) (root : List ℕ) (now : MomentParts) (entity : Val) (environment : Environment)
    (quantifier : Quantifier) (variable : List ℕ) (type : ExprType) (body : Tree) (values : Vals) (o : Outcome)
    → MembersGive quantifier (λ v. Means slots root now entity (bound_over environment variable type v) body) values o
    ↔ MembersGo quantifier (λ v. Means slots root now entity (bound_over environment variable type v) body) values o

-- of members that are compared with a value
abbrev pub ComparedOneByOne : Type 0
ComparedOneByOne =
    (l : Val) (values : Vals) (o : Outcome)
    → MembersGive Any (CompareGives Eq l) values o ↔ MembersGo Any (CompareGives Eq l) values o

-- one item, where the left operand is of one of these types
abbrev pub ItemAlone :
    Slots → List ℕ → MomentParts → Val → Environment → (ExprType → Type 0) → Tree → Outcome → Type 0
ItemAlone slots root now entity environment OtherSide tree =
    OperandGives (ReadsNumber slots OtherSide tree) (Means slots root now entity environment tree)

-- of the items of a list
abbrev pub ItemsOneByOne : Type 0
ItemsOneByOne =
    (slots : Slots) (root : List ℕ) (now : MomentParts) (entity : Val) (environment : Environment)
    (left : Tree) (l : Val) (items : Trees) (o : Outcome)
    → ItemsGive l (length (list_of_trees items))
    (ItemMeans slots root now entity environment (Typed slots root (scope_of environment) left) items) o
    ↔ ItemsGo (ItemAlone slots root now entity environment (Typed slots root (scope_of environment) left)) l items o
