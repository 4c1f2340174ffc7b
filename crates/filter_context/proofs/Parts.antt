-- What stands at an index, by the kind of its node.
use Rattle.std.proofs.Common.{◌≡◌, ℕ, ◌<◌, List, Option, Some, None, length, refl, sym, subst}
use Rattle.std.specs.Prelude.{IfSome, IsSomeAnd, slice_get}
use Rattle.std.proofs.lemmas.Option.{slice_get_within}
use Rattle.odata_syntax.specs.Tree.{Shape, Tree, Trees, any_item, binary, call, count, has, in_list, in_path, it, lambda, literal, logical_not, member, name, negation, node}
use Rattle.odata_syntax.specs.declared.node.LiteralKind.{LiteralKind}
use Rattle.csdl_schema.specs.SchemaModel.{Slots, slots_of, type_name_at}
use Rattle.odata_signatures.specs.Functions.{IsNamed}
use Rattle.odata_signatures.specs.declared.function.Function.{Function}
use Rattle.odata_signatures.specs.TypeView.{expr_type}
use Rattle.odata_checked_filter.specs.declared.checked_node.CheckedNode.{CheckedNode}
use Rattle.odata_checked_filter.specs.declared.checked_node.NodeKind.{NodeKind}
use Rattle.odata_checked_filter.specs.Stands.{IsKindOf}
use Rattle.odata_signatures.specs.Typed.{Scope}
use Rattle.odata_meaning.specs.Environment.{scope_of}
use Rattle.odata_filter_operations.specs.Outcome.{Outcome}
use Rattle.filter_context.specs.private.Place.{HasKind, PartStands}
use Rattle.filter_context.specs.private.EvalContext.{StandsHere, TypedHere}
use Rattle.filter_context.specs.private.ContextModel.{ContextModel, environment_of}
use Rattle.odata_filter_operations.specs.Reports.{Reports}

-- a fact of what is held, and back
pub found_there : {X : Type 0} (P : X → Type 0) (held : Option X) (x : X) → held ≡ Some x → IsSomeAnd held P → P x
found_there {X = X} P held x is holds = subst (λ (o : Option X). IsSomeAnd o P) is holds

pub there_found : {X : Type 0} (P : X → Type 0) (held : Option X) (x : X) → held ≡ Some x → P x → IsSomeAnd held P
there_found {X = X} P held x is holds = subst (λ (o : Option X). IsSomeAnd o P) (sym is) holds

pub some_there : {X : Type 0} (P : X → Type 0) (held : Option X) → IsSomeAnd held P → (x : X) × ((held ≡ Some x) × P x)
some_there P (Some x) holds = (x, (refl, holds))
some_there P None holds = absurd holds

-- what follows from the fact
pub goes_there : {X : Type 0} (held : Option X) (P Q : X → Type 0) → ((x : X) → P x → Q x) → IsSomeAnd held P → IsSomeAnd held Q
goes_there (Some x) P Q goes holds = goes x holds
goes_there None P Q goes holds = absurd holds

-- so of what may be held
pub some_weaker : {X : Type 0} {P Q : X → Type 0} (held : Option X) → ((x : X) → P x → Q x) → IfSome held P → IfSome held Q
some_weaker (Some x) goes holds = goes x holds
some_weaker None goes holds = tt

-- what holds anyway
pub some_always : {X P : Type 0} (held : Option X) → P → IfSome held (λ x. P)
some_always (Some x) holds = holds
some_always None holds = tt

-- what is reported of a part is reported of the whole
pub reports_there : (reported : Option Outcome) (WalkOperand Whole : Type 0) (P Q : Outcome → Type 0) → (WalkOperand → Whole) → ((o : Outcome) → P o → Q o)
    → Reports WalkOperand P reported → Reports Whole Q reported
reports_there (Some o) WalkOperand Whole P Q takes goes is = goes o is
reports_there None WalkOperand Whole P Q takes goes is = takes is

pub some_reports : (reported : Option Outcome) (Takes : Type 0) (P : Outcome → Type 0) → IsSomeAnd reported P → Reports Takes P reported
some_reports (Some o) Takes P is = is
some_reports None Takes P is = absurd is

pub inside : {X : Type 0} (P : X → Type 0) (xs : List X) (k : ℕ) → IsSomeAnd (slice_get xs k) P → k < length xs
inside P xs k holds = let there = some_there P (slice_get xs k) holds in slice_get_within xs k there.0 there.1.0

-- what is to be shown of the forms that a node of the kind stands for
abbrev pub CasesOf : NodeKind → (Shape → Type 0) → Type 0
CasesOf (NodeKind.Literal kind value) P = (k : LiteralKind) (spelling : List ℕ) → P (literal k spelling)
CasesOf NodeKind.It P = P it
CasesOf (NodeKind.Property slot) P = (asked : List ℕ) → P (name asked)
CasesOf (NodeKind.Variable level) P = (asked : List ℕ) → P (name asked)
CasesOf (NodeKind.Member slot) P = (base : Tree) (asked : List ℕ) → P (member base asked)
CasesOf NodeKind.Count P = (base : Tree) → P (count base)
CasesOf NodeKind.Neg P = (operand : Tree) → P (negation operand)
CasesOf NodeKind.Not P = (operand : Tree) → P (logical_not operand)
CasesOf NodeKind.Has P = (left right : Tree) → P (has left right)
CasesOf NodeKind.InList P = (left : Tree) (items : Trees) → P (in_list left items)
CasesOf NodeKind.InPath P = (left path : Tree) → P (in_path left path)
CasesOf (NodeKind.Call function) P = (asked : List ℕ) (arguments : Trees) → IsNamed function asked → ¬ (function ≡ Function.Now) → P (call asked arguments)
CasesOf NodeKind.Now P = (asked : List ℕ) (arguments : Trees) → IsNamed Function.Now asked → P (call asked arguments)
CasesOf NodeKind.AnyItem P = (base : Tree) → P (any_item base)
CasesOf (NodeKind.Lambda quantifier) P = (base : Tree) (asked : List ℕ) (body : Tree) → P (lambda quantifier base asked body)
CasesOf (NodeKind.Binary operator) P = (left right : Tree) → P (binary operator left right)

by_case : (slots : Slots) (root : List ℕ) (scope : Scope) (P : Shape → Type 0) (shape : Shape) (kind : NodeKind)
    → IsKindOf slots root scope shape kind → CasesOf kind P → P shape
by_case slots root scope P (literal k spelling) (NodeKind.Literal kind value) is cases = cases k spelling
by_case slots root scope P it kind is cases = subst (λ (k : NodeKind). CasesOf k P) is cases
by_case slots root scope P (name asked) (NodeKind.Property slot) is cases = cases asked
by_case slots root scope P (name asked) (NodeKind.Variable level) is cases = cases asked
by_case slots root scope P (member base asked) (NodeKind.Member slot) is cases = cases base asked
by_case slots root scope P (count base) kind is cases = subst (λ (k : NodeKind). CasesOf k P) is cases base
by_case slots root scope P (negation operand) kind is cases = subst (λ (k : NodeKind). CasesOf k P) is cases operand
by_case slots root scope P (logical_not operand) kind is cases = subst (λ (k : NodeKind). CasesOf k P) is cases operand
by_case slots root scope P (binary operator left right) kind is cases = subst (λ (k : NodeKind). CasesOf k P) is cases left right
by_case slots root scope P (has left right) kind is cases = subst (λ (k : NodeKind). CasesOf k P) is cases left right
by_case slots root scope P (in_list left items) kind is cases = subst (λ (k : NodeKind). CasesOf k P) is cases left items
by_case slots root scope P (in_path left path) kind is cases = subst (λ (k : NodeKind). CasesOf k P) is cases left path
by_case slots root scope P (any_item base) kind is cases = subst (λ (k : NodeKind). CasesOf k P) is cases base
by_case slots root scope P (lambda quantifier base asked body) kind is cases = subst (λ (k : NodeKind). CasesOf k P) is cases base asked body
by_case slots root scope P (call asked arguments) (NodeKind.Call function) is cases = cases asked arguments is.0 is.1
by_case slots root scope P (call asked arguments) NodeKind.Now is cases = cases asked arguments is
by_case slots root scope P _ _ is cases = absurd is

module _ (context : ContextModel) (place : ℕ) where
  -- the kind is that of the node there
  pub kind_there : (kind : NodeKind) → HasKind context.list place kind → (stop from to : ℕ) (shape : Shape) → StandsHere context place stop (node from to shape)
      → IsKindOf (slots_of context.row.schema) (type_name_at context.row.schema context.row.type_id) (scope_of (environment_of context)) shape kind
  kind_there kind here stop from to shape stands =
      subst (λ (k : NodeKind). IsKindOf (slots_of context.row.schema) (type_name_at context.row.schema context.row.type_id) (scope_of (environment_of context)) shape k)
      (found_there (λ found. found.kind ≡ kind) (slice_get context.list.nodes place) stands.top.found stands.top.stands_at here)
      stands.top.kind

  -- so the tree there is of one form
  pub by_kind : (kind : NodeKind) → HasKind context.list place kind → (P : ℕ → Tree → Type 0)
      → CasesOf kind (λ s. (stop from to : ℕ) → StandsHere context place stop (node from to s) → P stop (node from to s))
      → (stop : ℕ) (tree : Tree) → StandsHere context place stop tree → P stop tree
  by_kind kind here P cases stop (node from to shape) stands =
      by_case (slots_of context.row.schema) (type_name_at context.row.schema context.row.type_id) (scope_of (environment_of context))
      (λ (s : Shape). (stop from to : ℕ) → StandsHere context place stop (node from to s) → P stop (node from to s)) shape kind
      (kind_there kind here stop from to shape stands) cases stop from to stands

  -- and it has the type that the node there says
  pub type_there : (found : CheckedNode) → slice_get context.list.nodes place ≡ Some found → (stop : ℕ) (tree : Tree) → StandsHere context place stop tree
      → TypedHere context tree (expr_type context.row.schema found.edm_type)
  type_there found at stop (node from to shape) stands =
      let same : Some stands.top.found ≡ Some found = cc (stands.top.stands_at, at) in
      let is : stands.top.found ≡ found = cc in
      subst (λ (f : CheckedNode). TypedHere context (node from to shape) (expr_type context.row.schema f.edm_type)) is stands.top.typed

  pub stands_inside : (stop : ℕ) (tree : Tree) → StandsHere context place stop tree → place < length context.list.nodes
  stands_inside stop (node from to shape) stands = slice_get_within context.list.nodes place stands.top.found stands.top.stands_at

  pub part_inside : PartStands context place → place < length context.list.nodes
  part_inside part = stands_inside part.stop part.tree part.stands
