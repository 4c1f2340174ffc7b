-- Where no node of the parts leads over a navigation property, none of the whole does.
use Rattle.odata_typing.proofs.Common.{◌≡◌, inl, inr, subst, sym, ℕ, Some, List, [], ◌∷◌, ◌∙◌, none-some, Tree, call, in_list, lambda, name, node, trees_of_list, Quantifier, ExprType, SingleType, collection, single, structured, Slots, Scope, Typed, variable_type, with_variable, IsInfix, infix_shape, unary_shape, IsIdle, LawsBelow, AllByRecursion}
use Rattle.odata_syntax.specs.Tree.{member}
use Rattle.csdl_schema.specs.PathSet.{PropertyPath}
use Rattle.odata_signatures.specs.NeededPaths.{IsNeededAmong, Navigates, VariablePaths}
use Rattle.odata_checked_filter.specs.declared.checked_node.NodeKind.{NodeKind}
use Rattle.odata_typing.specs.declared.unary_node.Unary.{Unary}

-- each of the trees is idle
abbrev pub AreIdle : Slots → List ℕ → Scope → List Tree → Type 0
AreIdle slots root scope = AllByRecursion (IsIdle slots root scope)

pub idle_among : (slots : Slots) (root : List ℕ) (scope : Scope) (trees : List Tree) (paths : VariablePaths) (path : PropertyPath) → AreIdle slots root scope trees → ¬ IsNeededAmong slots root scope paths (trees_of_list trees) path
idle_among slots root scope [] paths path idle needed = needed
idle_among slots root scope (tree ∷ trees) paths path idle (inl first) = idle.0 paths path first
idle_among slots root scope (tree ∷ trees) paths path idle (inr more) = idle_among slots root scope trees paths path idle.1 more

pub idle_over : (slots : Slots) (root : List ℕ) (scope : Scope) (start stop : ℕ) (unary : Unary) (operand : Tree) → IsIdle slots root scope operand → IsIdle slots root scope (node start stop (unary_shape unary operand))
idle_over slots root scope start stop Unary.Negation operand idle = idle
idle_over slots root scope start stop _ operand idle = idle

pub idle_between : (slots : Slots) (root : List ℕ) (scope : Scope) (start stop : ℕ) (form : NodeKind) (l r : Tree) → IsInfix form → IsIdle slots root scope l → IsIdle slots root scope r → IsIdle slots root scope (node start stop (infix_shape form l r))
idle_between slots root scope start stop (NodeKind.Binary operator) l r is left right paths path needed = elim needed [ inl of_left ↦ left paths path of_left | inr of_right ↦ right paths path of_right ]
idle_between slots root scope start stop NodeKind.Has l r is left right paths path needed = elim needed [ inl of_left ↦ left paths path of_left | inr of_right ↦ right paths path of_right ]
idle_between slots root scope start stop NodeKind.InPath l r is left right paths path needed = elim needed [ inl of_left ↦ left paths path of_left | inr of_right ↦ right paths path of_right ]
idle_between slots root scope start stop _ l r is left right paths path needed = absurd is

pub idle_list : (slots : Slots) (root : List ℕ) (scope : Scope) (start stop : ℕ) (l : Tree) (items : List Tree) → IsIdle slots root scope l → AreIdle slots root scope items → IsIdle slots root scope (node start stop (in_list l (trees_of_list items)))
idle_list slots root scope start stop l items left idle paths path (inl needed) = left paths path needed
idle_list slots root scope start stop l items left idle paths path (inr needed) = idle_among slots root scope items paths path idle needed

pub idle_call : (slots : Slots) (root : List ℕ) (scope : Scope) (start stop : ℕ) (asked : List ℕ) (arguments : List Tree) → AreIdle slots root scope arguments → IsIdle slots root scope (node start stop (call asked (trees_of_list arguments)))
idle_call slots root scope start stop asked arguments idle paths path needed = idle_among slots root scope arguments paths path idle needed

-- a name of no navigation property
pub idle_name : (slots : Slots) (root : List ℕ) (scope : Scope) (start stop : ℕ) (asked : List ℕ) → ¬ Navigates (slots.properties root) asked → IsIdle slots root scope (node start stop (name asked))
idle_name slots root scope start stop asked none paths path needed = none needed.navigates

-- a variable
pub idle_bound : (slots : Slots) (root : List ℕ) (scope : Scope) (start stop : ℕ) (asked : List ℕ) (type : ExprType) → variable_type scope asked ≡ Some type → IsIdle slots root scope (node start stop (name asked))
idle_bound slots root scope start stop asked type bound paths path needed = none-some type (sym needed.free ∙ bound)

-- a step to none
pub idle_step : (laws : LawsBelow) (slots : Slots) (root : List ℕ) (scope : Scope) (start stop : ℕ) (base : Tree) (asked owner : List ℕ) → Typed slots root scope base (single (structured owner)) → ¬ Navigates (slots.properties owner) asked → IsIdle slots root scope base → IsIdle slots root scope (node start stop (member base asked))
idle_step laws slots root scope start stop base asked owner typed none idle paths path (inl needed) = idle paths path needed
idle_step laws slots root scope start stop base asked owner typed none idle paths path (inr step) =
    let same : step.owner ≡ owner = cc (laws.one_type slots root scope base (single (structured step.owner)) (single (structured owner)) step.base_typed typed) in
    none (subst (λ (o : List ℕ). Navigates (slots.properties o) asked) same step.navigates)

-- a lambda operator whose body is idle in the one scope that it is judged in
pub idle_lambda :
    (laws : LawsBelow) (slots : Slots) (root : List ℕ) (scope : Scope) (start stop : ℕ) (quantifier : Quantifier) (base : Tree) (variable : List ℕ) (body : Tree) (member_type : SingleType)
    → Typed slots root scope base (collection member_type)
    → IsIdle slots root scope base
    → IsIdle slots root (with_variable scope variable (single member_type)) body
    → IsIdle slots root scope (node start stop (lambda quantifier base variable body))
idle_lambda laws slots root scope start stop quantifier base variable body member_type typed idle inner paths path (inl needed) = idle paths path needed
idle_lambda laws slots root scope start stop quantifier base variable body member_type typed idle inner paths path (inr needs) =
    let same : needs.member_type ≡ member_type = cc (laws.one_type slots root scope base (collection needs.member_type) (collection member_type) needs.binds.over typed) in
    let I : SingleType → Type 0 = λ (m : SingleType). IsIdle slots root (with_variable scope variable (single m)) body in
    subst I (sym same) inner _ path needs.body_needs
