-- A tree's normal form, and the tree without its positions, need the paths that the tree needs.
use Rattle.std.proofs.Common.{◌≡◌, ◌∙◌, ◌⊎◌, ◌↔◌, refl, sym, ap, subst, inl, inr, ℕ, List, [], ◌∷◌, ◌++◌, Option}
use Rattle.std.specs.Prelude.{unwrap_or}
use Rattle.odata_syntax.specs.NormalForm.{AreNormalForms, IsNormalForm, bare, bare_trees}
use Rattle.odata_syntax.specs.Tree.{Shape, Tree, Trees, any_item, binary, call, count, has, in_list, in_path, it, lambda, literal, logical_not, member, more_trees, name, negation, no_trees, node}
use Rattle.csdl_schema.specs.ExprType.{ExprType, collection, single, structured}
use Rattle.csdl_schema.specs.PathSet.{PropertyPath}
use Rattle.csdl_schema.specs.SchemaModel.{Slots}
use Rattle.odata_signatures.specs.NeededPaths.{BodyNeeds, IsNeeded, IsNeededAmong, StepNeeds, VariablePaths, path_of}
use Rattle.odata_signatures.specs.SamePaths.{NeedSamePaths}
use Rattle.odata_signatures.specs.Typed.{Scope, Typed, with_variable}
use Rattle.odata_signatures.proofs.printed.Literals.{LiteralFacts}
use Rattle.odata_signatures.proofs.printed.Places.{bare_from, bare_to}
use Rattle.odata_signatures.proofs.printed.Types.{made, types_from, types_to}

-- ---- each way

itself : (P : Type 0) → P ↔ P
itself P = (λ is. is, λ is. is)

turned : (P Q : Type 0) → P ↔ Q → Q ↔ P
turned P Q same = (same.1, same.0)

in_turn : (P Q R : Type 0) → P ↔ Q → Q ↔ R → P ↔ R
in_turn P Q R first second = (λ is. second.0 (first.0 is), λ is. first.1 (second.1 is))

either_goes : (P Q P' Q' : Type 0) → (P → P') → (Q → Q') → P ⊎ Q → P' ⊎ Q'
either_goes P Q P' Q' first second (inl is) = inl (first is)
either_goes P Q P' Q' first second (inr is) = inr (second is)

either_same : (P Q P' Q' : Type 0) → P ↔ P' → Q ↔ Q' → (P ⊎ Q) ↔ (P' ⊎ Q')
either_same P Q P' Q' first second = (either_goes P Q P' Q' first.0 second.0, either_goes P' Q' P Q first.1 second.1)

-- ---- steps and bodies

step_goes : (slots : Slots) (Base Other : ExprType → Type 0) (before after : PropertyPath) (asked : List ℕ) (path : PropertyPath)
    → ((type : ExprType) → Base type → Other type) → before ≡ after → StepNeeds slots Base before asked path → StepNeeds slots Other after asked path
step_goes slots Base Other before after asked path carry same needs = record {
  owner = needs.owner;
  base_typed = carry (single (structured needs.owner)) needs.base_typed;
  navigates = needs.navigates;
  path_is = needs.path_is ∙ ap (λ (start : PropertyPath). start ++ asked ∷ []) same;
}

step_same : (slots : Slots) (Base Other : ExprType → Type 0) (before after : PropertyPath) (asked : List ℕ) (path : PropertyPath)
    → ((type : ExprType) → Base type ↔ Other type) → before ≡ after → StepNeeds slots Base before asked path ↔ StepNeeds slots Other after asked path
step_same slots Base Other before after asked path typed same = (
  step_goes slots Base Other before after asked path (λ type. (typed type).0) same,
  step_goes slots Other Base after before asked path (λ type. (typed type).1) (sym same),
)

body_goes : (scope : Scope) (variable : List ℕ) (Base Other : ExprType → Type 0) (Body Also : Scope → Type 0)
    → ((type : ExprType) → Base type → Other type) → ((at : Scope) → Body at → Also at) → BodyNeeds scope variable Base Body → BodyNeeds scope variable Other Also
body_goes scope variable Base Other Body Also carry bodies needs = record {
  member_type = needs.member_type;
  binds = record { over = carry (collection needs.member_type) needs.binds.over; fresh = needs.binds.fresh };
  body_needs = bodies (with_variable scope variable (single needs.member_type)) needs.body_needs;
}

body_same : (scope : Scope) (variable : List ℕ) (Base Other : ExprType → Type 0) (Body Also : Scope → Type 0)
    → ((type : ExprType) → Base type ↔ Other type) → ((at : Scope) → Body at ↔ Also at) → BodyNeeds scope variable Base Body ↔ BodyNeeds scope variable Other Also
body_same scope variable Base Other Body Also typed bodies = (
  body_goes scope variable Base Other Body Also (λ type. (typed type).0) (λ at. (bodies at).0),
  body_goes scope variable Other Base Also Body (λ type. (typed type).1) (λ at. (bodies at).1),
)

-- ---- the path of an expression

-- what is at one path, by the shape
path_by : (scope : Scope) (paths : VariablePaths) (start stop : ℕ) (other shape : Shape) (normal : Tree) (path : PropertyPath)
    → normal ≡ node start stop other → other ≡ shape → path ≡ path_of scope paths (node start stop shape) → path ≡ path_of scope paths normal
path_by scope paths start stop other shape normal path is same found =
    found ∙ sym (ap (path_of scope paths) (made start stop other shape normal is same))

path_normal : (scope : Scope) (paths : VariablePaths) (tree normal : Tree) → IsNormalForm tree normal → path_of scope paths tree ≡ path_of scope paths normal
path_normal scope paths (node start stop (literal kind text)) normal is = path_by scope paths start stop is.0 (literal kind is.1.0) normal [] is.2 is.1.2 refl
path_normal scope paths (node start stop it) normal is = path_by scope paths start stop is.0 it normal [] is.2 is.1 refl
path_normal scope paths (node start stop (name asked)) normal is =
    path_by scope paths start stop is.0 (name asked) normal (path_of scope paths (node start stop (name asked))) is.2 is.1 refl
path_normal scope paths (node start stop (member base asked)) normal is =
    path_by scope paths start stop is.0 (member is.1.0 asked) normal (path_of scope paths base ++ asked ∷ []) is.2 is.1.2
    (ap (λ (before : PropertyPath). before ++ asked ∷ []) (path_normal scope paths base is.1.0 is.1.1))
path_normal scope paths (node start stop (count base)) normal is = path_by scope paths start stop is.0 (count is.1.0) normal [] is.2 is.1.2 refl
path_normal scope paths (node start stop (negation operand)) normal is = path_by scope paths start stop is.0 (negation is.1.0) normal [] is.2 is.1.2 refl
path_normal scope paths (node start stop (logical_not operand)) normal is = path_by scope paths start stop is.0 (logical_not is.1.0) normal [] is.2 is.1.2 refl
path_normal scope paths (node start stop (binary operator left right)) normal is =
    path_by scope paths start stop is.0 (binary operator is.1.0 is.1.1) normal [] is.2 is.1.4 refl
path_normal scope paths (node start stop (has left right)) normal is = path_by scope paths start stop is.0 (has is.1.0 is.1.1) normal [] is.2 is.1.4 refl
path_normal scope paths (node start stop (in_list left items)) normal is = path_by scope paths start stop is.0 (in_list is.1.0 is.1.1) normal [] is.2 is.1.4 refl
path_normal scope paths (node start stop (in_path left path)) normal is = path_by scope paths start stop is.0 (in_path is.1.0 is.1.1) normal [] is.2 is.1.4 refl
path_normal scope paths (node start stop (call asked arguments)) normal is = path_by scope paths start stop is.0 (call asked is.1.0) normal [] is.2 is.1.2 refl
path_normal scope paths (node start stop (any_item base)) normal is = path_by scope paths start stop is.0 (any_item is.1.0) normal [] is.2 is.1.2 refl
path_normal scope paths (node start stop (lambda quantifier base variable body)) normal is =
    path_by scope paths start stop is.0 (lambda quantifier is.1.0 variable is.1.1) normal [] is.2 is.1.4 refl

path_bare : (scope : Scope) (paths : VariablePaths) (tree : Tree) → path_of scope paths tree ≡ path_of scope paths (bare tree)
path_bare scope paths (node start stop (literal kind text)) = refl
path_bare scope paths (node start stop it) = refl
path_bare scope paths (node start stop (name asked)) = refl
path_bare scope paths (node start stop (member base asked)) = ap (λ (before : PropertyPath). before ++ asked ∷ []) (path_bare scope paths base)
path_bare scope paths (node start stop (count base)) = refl
path_bare scope paths (node start stop (negation operand)) = refl
path_bare scope paths (node start stop (logical_not operand)) = refl
path_bare scope paths (node start stop (binary operator left right)) = refl
path_bare scope paths (node start stop (has left right)) = refl
path_bare scope paths (node start stop (in_list left items)) = refl
path_bare scope paths (node start stop (in_path left path)) = refl
path_bare scope paths (node start stop (call asked arguments)) = refl
path_bare scope paths (node start stop (any_item base)) = refl
path_bare scope paths (node start stop (lambda quantifier base variable body)) = refl

-- ---- what is needed

module _ (slots : Slots) (root : List ℕ) where
  abbrev N : Scope → VariablePaths → Tree → PropertyPath → Type 0
  N = IsNeeded slots root

  abbrev A : Scope → VariablePaths → Trees → PropertyPath → Type 0
  A = IsNeededAmong slots root

  abbrev T : Scope → Tree → ExprType → Type 0
  T = Typed slots root

  -- what is needed of operands that need the same
  two_same : (scope : Scope) (paths : VariablePaths) (left right l r : Tree) (path : PropertyPath)
      → N scope paths left path ↔ N scope paths l path → N scope paths right path ↔ N scope paths r path
      → (N scope paths left path ⊎ N scope paths right path) ↔ (N scope paths l path ⊎ N scope paths r path)
  two_same scope paths left right l r path first second =
      either_same (N scope paths left path) (N scope paths right path) (N scope paths l path) (N scope paths r path) first second

  member_same : (scope : Scope) (paths : VariablePaths) (base other : Tree) (asked : List ℕ) (path : PropertyPath)
      → N scope paths base path ↔ N scope paths other path → ((type : ExprType) → T scope base type ↔ T scope other type)
      → path_of scope paths base ≡ path_of scope paths other
      → (N scope paths base path ⊎ StepNeeds slots (T scope base) (path_of scope paths base) asked path)
      ↔ (N scope paths other path ⊎ StepNeeds slots (T scope other) (path_of scope paths other) asked path)
  member_same scope paths base other asked path same typed before =
      either_same (N scope paths base path) (StepNeeds slots (T scope base) (path_of scope paths base) asked path)
      (N scope paths other path) (StepNeeds slots (T scope other) (path_of scope paths other) asked path) same
      (step_same slots (T scope base) (T scope other) (path_of scope paths base) (path_of scope paths other) asked path typed before)

  -- a body needs the same where its variable goes over the same path
  lambda_same : (scope : Scope) (paths : VariablePaths) (base other : Tree) (variable : List ℕ) (body also : Tree) (path : PropertyPath)
      → N scope paths base path ↔ N scope paths other path → ((type : ExprType) → T scope base type ↔ T scope other type)
      → path_of scope paths base ≡ path_of scope paths other
      → ((at : Scope) (wider : VariablePaths) → N at wider body path ↔ N at wider also path)
      → (N scope paths base path ⊎ BodyNeeds scope variable (T scope base) (λ at. N at (path_of scope paths base ∷ paths) body path))
      ↔ (N scope paths other path ⊎ BodyNeeds scope variable (T scope other) (λ at. N at (path_of scope paths other ∷ paths) also path))
  lambda_same scope paths base other variable body also path same typed before bodies =
      let B : Scope → Type 0 = λ at. N at (path_of scope paths base ∷ paths) body path in
      let C : Scope → Type 0 = λ at. N at (path_of scope paths other ∷ paths) also path in
      let in_body : (at : Scope) → B at ↔ C at =
      λ at. subst (λ (over : PropertyPath). B at ↔ N at (over ∷ paths) also path) before (bodies at (path_of scope paths base ∷ paths)) in
      either_same (N scope paths base path) (BodyNeeds scope variable (T scope base) B) (N scope paths other path) (BodyNeeds scope variable (T scope other) C) same
      (body_same scope variable (T scope base) (T scope other) B C typed in_body)

  -- the normal form is a node of that shape
  at_shape : (scope : Scope) (paths : VariablePaths) (P : Type 0) (start stop : ℕ) (other shape : Shape) (normal : Tree) (path : PropertyPath)
      → normal ≡ node start stop other → other ≡ shape → P ↔ N scope paths (node start stop shape) path → P ↔ N scope paths normal path
  at_shape scope paths P start stop other shape normal path is same needs =
      subst (λ (t : Tree). P ↔ N scope paths t path) (sym (made start stop other shape normal is same)) needs

  module _ (facts : LiteralFacts) where
    types_kept : (scope : Scope) (tree normal : Tree) → IsNormalForm tree normal → (type : ExprType) → T scope tree type ↔ T scope normal type
    types_kept scope tree normal is type = (types_to facts slots root scope tree normal type is, types_from facts slots root scope tree normal type is)

    mutual
      pub needs_normal : (scope : Scope) (paths : VariablePaths) (tree normal : Tree) (path : PropertyPath) → IsNormalForm tree normal
          → N scope paths tree path ↔ N scope paths normal path
      needs_normal scope paths (node start stop (literal kind text)) normal path is =
          at_shape scope paths ⊥ start stop is.0 (literal kind is.1.0) normal path is.2 is.1.2 (itself ⊥)
      needs_normal scope paths (node start stop it) normal path is = at_shape scope paths ⊥ start stop is.0 it normal path is.2 is.1 (itself ⊥)
      needs_normal scope paths (node start stop (name asked)) normal path is =
          at_shape scope paths (N scope paths (node start stop (name asked)) path) start stop is.0 (name asked) normal path is.2 is.1
          (itself (N scope paths (node start stop (name asked)) path))
      needs_normal scope paths (node start stop (member base asked)) normal path is =
          at_shape scope paths (N scope paths (node start stop (member base asked)) path) start stop is.0 (member is.1.0 asked) normal path is.2 is.1.2
          (member_same scope paths base is.1.0 asked path (needs_normal scope paths base is.1.0 path is.1.1) (types_kept scope base is.1.0 is.1.1)
          (path_normal scope paths base is.1.0 is.1.1))
      needs_normal scope paths (node start stop (count base)) normal path is =
          at_shape scope paths (N scope paths base path) start stop is.0 (count is.1.0) normal path is.2 is.1.2 (needs_normal scope paths base is.1.0 path is.1.1)
      needs_normal scope paths (node start stop (negation operand)) normal path is =
          at_shape scope paths (N scope paths operand path) start stop is.0 (negation is.1.0) normal path is.2 is.1.2 (needs_normal scope paths operand is.1.0 path is.1.1)
      needs_normal scope paths (node start stop (logical_not operand)) normal path is =
          at_shape scope paths (N scope paths operand path) start stop is.0 (logical_not is.1.0) normal path is.2 is.1.2 (needs_normal scope paths operand is.1.0 path is.1.1)
      needs_normal scope paths (node start stop (binary operator left right)) normal path is =
          at_shape scope paths (N scope paths left path ⊎ N scope paths right path) start stop is.0 (binary operator is.1.0 is.1.1) normal path is.2 is.1.4
          (two_same scope paths left right is.1.0 is.1.1 path (needs_normal scope paths left is.1.0 path is.1.2) (needs_normal scope paths right is.1.1 path is.1.3))
      needs_normal scope paths (node start stop (has left right)) normal path is =
          at_shape scope paths (N scope paths left path ⊎ N scope paths right path) start stop is.0 (has is.1.0 is.1.1) normal path is.2 is.1.4
          (two_same scope paths left right is.1.0 is.1.1 path (needs_normal scope paths left is.1.0 path is.1.2) (needs_normal scope paths right is.1.1 path is.1.3))
      needs_normal scope paths (node start stop (in_list left items)) normal path is =
          at_shape scope paths (N scope paths left path ⊎ A scope paths items path) start stop is.0 (in_list is.1.0 is.1.1) normal path is.2 is.1.4
          (either_same (N scope paths left path) (A scope paths items path) (N scope paths is.1.0 path) (A scope paths is.1.1 path)
          (needs_normal scope paths left is.1.0 path is.1.2) (among_normal scope paths items is.1.1 path is.1.3))
      needs_normal scope paths (node start stop (in_path left base)) normal path is =
          at_shape scope paths (N scope paths left path ⊎ N scope paths base path) start stop is.0 (in_path is.1.0 is.1.1) normal path is.2 is.1.4
          (two_same scope paths left base is.1.0 is.1.1 path (needs_normal scope paths left is.1.0 path is.1.2) (needs_normal scope paths base is.1.1 path is.1.3))
      needs_normal scope paths (node start stop (call asked arguments)) normal path is =
          at_shape scope paths (A scope paths arguments path) start stop is.0 (call asked is.1.0) normal path is.2 is.1.2 (among_normal scope paths arguments is.1.0 path is.1.1)
      needs_normal scope paths (node start stop (any_item base)) normal path is =
          at_shape scope paths (N scope paths base path) start stop is.0 (any_item is.1.0) normal path is.2 is.1.2 (needs_normal scope paths base is.1.0 path is.1.1)
      needs_normal scope paths (node start stop (lambda quantifier base variable body)) normal path is =
          at_shape scope paths (N scope paths (node start stop (lambda quantifier base variable body)) path) start stop is.0 (lambda quantifier is.1.0 variable is.1.1) normal path is.2 is.1.4
          (lambda_same scope paths base is.1.0 variable body is.1.1 path (needs_normal scope paths base is.1.0 path is.1.2) (types_kept scope base is.1.0 is.1.2)
          (path_normal scope paths base is.1.0 is.1.2) (λ at wider. needs_normal at wider body is.1.1 path is.1.3))

      among_normal : (scope : Scope) (paths : VariablePaths) (trees normals : Trees) (path : PropertyPath) → AreNormalForms trees normals
          → A scope paths trees path ↔ A scope paths normals path
      among_normal scope paths no_trees normals path are = subst (λ (ts : Trees). ⊥ ↔ A scope paths ts path) (sym are) (itself ⊥)
      among_normal scope paths (more_trees tree trees) normals path are =
          subst (λ (ts : Trees). (N scope paths tree path ⊎ A scope paths trees path) ↔ A scope paths ts path) (sym are.4)
          (either_same (N scope paths tree path) (A scope paths trees path) (N scope paths are.0 path) (A scope paths are.1 path)
          (needs_normal scope paths tree are.0 path are.2) (among_normal scope paths trees are.1 path are.3))

  types_bare : (scope : Scope) (tree : Tree) (type : ExprType) → T scope tree type ↔ T scope (bare tree) type
  types_bare scope tree type = (bare_to slots root scope tree type, bare_from slots root scope tree type)

  mutual
    pub needs_bare : (scope : Scope) (paths : VariablePaths) (tree : Tree) (path : PropertyPath) → N scope paths tree path ↔ N scope paths (bare tree) path
    needs_bare scope paths (node start stop (literal kind text)) path = itself ⊥
    needs_bare scope paths (node start stop it) path = itself ⊥
    needs_bare scope paths (node start stop (name asked)) path = itself (N scope paths (node start stop (name asked)) path)
    needs_bare scope paths (node start stop (member base asked)) path =
        member_same scope paths base (bare base) asked path (needs_bare scope paths base path) (types_bare scope base) (path_bare scope paths base)
    needs_bare scope paths (node start stop (count base)) path = needs_bare scope paths base path
    needs_bare scope paths (node start stop (negation operand)) path = needs_bare scope paths operand path
    needs_bare scope paths (node start stop (logical_not operand)) path = needs_bare scope paths operand path
    needs_bare scope paths (node start stop (binary operator left right)) path =
        two_same scope paths left right (bare left) (bare right) path (needs_bare scope paths left path) (needs_bare scope paths right path)
    needs_bare scope paths (node start stop (has left right)) path =
        two_same scope paths left right (bare left) (bare right) path (needs_bare scope paths left path) (needs_bare scope paths right path)
    needs_bare scope paths (node start stop (in_list left items)) path =
        either_same (N scope paths left path) (A scope paths items path) (N scope paths (bare left) path) (A scope paths (bare_trees items) path)
        (needs_bare scope paths left path) (among_bare scope paths items path)
    needs_bare scope paths (node start stop (in_path left base)) path =
        two_same scope paths left base (bare left) (bare base) path (needs_bare scope paths left path) (needs_bare scope paths base path)
    needs_bare scope paths (node start stop (call asked arguments)) path = among_bare scope paths arguments path
    needs_bare scope paths (node start stop (any_item base)) path = needs_bare scope paths base path
    needs_bare scope paths (node start stop (lambda quantifier base variable body)) path =
        lambda_same scope paths base (bare base) variable body (bare body) path (needs_bare scope paths base path) (types_bare scope base) (path_bare scope paths base)
        (λ at wider. needs_bare at wider body path)

    among_bare : (scope : Scope) (paths : VariablePaths) (trees : Trees) (path : PropertyPath) → A scope paths trees path ↔ A scope paths (bare_trees trees) path
    among_bare scope paths no_trees path = itself ⊥
    among_bare scope paths (more_trees tree trees) path =
        either_same (N scope paths tree path) (A scope paths trees path) (N scope paths (bare tree) path) (A scope paths (bare_trees trees) path)
        (needs_bare scope paths tree path) (among_bare scope paths trees path)

pub same_paths : LiteralFacts → (tree normal again : Tree) → IsNormalForm tree normal → bare again ≡ bare normal → NeedSamePaths tree again
same_paths facts tree normal again is same slots root scope paths path =
    let P : Tree → Type 0 = λ (t : Tree). IsNeeded slots root scope paths t path in
    in_turn (P tree) (P normal) (P again) (needs_normal slots root facts scope paths tree normal path is)
    (in_turn (P normal) (P (bare normal)) (P again) (needs_bare slots root scope paths normal path)
    (turned (P again) (P (bare normal)) (subst (λ (t : Tree). P again ↔ P t) same (needs_bare slots root scope paths again path))))
