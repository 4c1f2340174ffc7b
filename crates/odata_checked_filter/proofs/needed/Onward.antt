-- One step of the walk over trees one after another, by the class of the current node.
use Rattle.std.proofs.Common.{◌≡◌, ◌⊎◌, ℕ, zero, suc, max, ◌+◌, ◌<◌, List, [], ◌∷◌, Some, slice_get, refl, sym, subst, inl, inr, arith}
use Rattle.odata_syntax.specs.Tree.{Tree, member, name, node}
use Rattle.csdl_schema.specs.ExpansionView.{StepModel}
use Rattle.csdl_schema.specs.PathSet.{PropertyPath}
use Rattle.csdl_schema.specs.SchemaModel.{SchemaModel, slots_of, type_name_at}
use Rattle.odata_signatures.specs.NeededPaths.{IsNeeded, VariablePaths}
use Rattle.odata_signatures.specs.Typed.{Scope}
use Rattle.odata_checked_filter.specs.FlatTree.{FlatTree}
use Rattle.odata_checked_filter.specs.private.Layout.{Lies}
use Rattle.odata_checked_filter.specs.declared.checked_node.CheckedNode.{CheckedNode}
use Rattle.odata_checked_filter.specs.declared.needed_paths.ListContext.{ListContext}
use Rattle.odata_checked_filter.specs.declared.needed_paths.NeedClass.{NeedClass}
use Rattle.odata_checked_filter.specs.private.NeededPaths.{AreTreesThere, IsTreeThere, LambdaNeeds, NeedsAmong, NeedsOnWay, Puts, StandInLine, base_of, need_class, steps_of}
use Rattle.odata_checked_filter.proofs.flat.Standing.{lies_last}
use Rattle.odata_checked_filter.proofs.needed.Heads.{IsHead, IsLambdaTree, IsWay, head_of}
use Rattle.odata_checked_filter.proofs.needed.Lines.{IsLeft, left_on, line_front, needs_by_children, one_line}
use Rattle.odata_checked_filter.proofs.needed.Sets.{lead_still, puts_nothing}
use Rattle.odata_checked_filter.proofs.needed.Ways.{base_needed, base_stands, needs_way, way_needed}

module _ (schema : SchemaModel) (n : ℕ) (scope : Scope) (list : FlatTree) (paths : VariablePaths) (old : List StepModel) (stop : ℕ) (trees : List Tree) where
  abbrev Left : List StepModel → ℕ → Type 0
  Left now place = IsLeft schema n scope list paths old now place stop trees

  abbrev Need : Tree → PropertyPath → Type 0
  Need tree path = IsNeeded (slots_of schema) (type_name_at schema n) scope paths tree path

  abbrev Among : List Tree → PropertyPath → Type 0
  Among ts path = NeedsAmong (slots_of schema) (type_name_at schema n) scope paths ts path

  abbrev Way : Tree → PropertyPath → Type 0
  Way tree path = NeedsOnWay (slots_of schema) (type_name_at schema n) scope paths tree path

  -- the first of those that are left
  pub first_left : (now : List StepModel) (place : ℕ) (left : IsLeft schema n scope list paths old now place stop trees) → place < stop → IsHead schema n scope list place stop left.rest
  first_left now place left before = head_of schema n scope list place stop left.rest left.line before

  -- past a lambda operator, which was put whole
  pub past_lambda : (now next : List StepModel) (place : ℕ) (left : IsLeft schema n scope list paths old now place stop trees) (first : IsHead schema n scope list place stop left.rest)
      (found : CheckedNode) → slice_get list.nodes place ≡ Some found → (operator : IsLambdaTree schema n scope list place first.middle first.tree)
      → Puts now next (LambdaNeeds (slots_of schema) (type_name_at schema n) scope paths operator.base operator.variable operator.body) → Left next found.stop
  past_lambda now next place left first found at operator puts =
      let whole = subst (λ (t : Tree). (path : PropertyPath) → Need t path → LambdaNeeds (slots_of schema) (type_name_at schema n) scope paths operator.base operator.variable operator.body path ⊎ Among [] path)
      (sym operator.is) (λ path need. inl need) in
      let parts = subst (λ (t : Tree). (path : PropertyPath) → LambdaNeeds (slots_of schema) (type_name_at schema n) scope paths operator.base operator.variable operator.body path ⊎ Among [] path → Need t path)
      (sym operator.is) (λ path either. elim either [ inl need ↦ need | inr none ↦ absurd none ]) in
      let line = subst (λ (k : ℕ). StandInLine schema n scope list k stop first.more) (sym (lies_last schema n scope list place first.middle first.tree found first.stands at)) first.behind in
      left_on schema n scope list paths old stop trees now next place found.stop left first.tree first.more []
      (LambdaNeeds (slots_of schema) (type_name_at schema n) scope paths operator.base operator.variable operator.body) first.is puts whole parts line

  -- past the steps of a path, up to what stands before the first of them
  way_base : (place middle : ℕ) (tree : Tree) → Lies schema n scope list place middle tree → IsWay schema n scope list place middle tree → (steps_of tree ≡ 0)
      → middle ≡ place + 1
  way_base place middle (node start end (name asked)) stands way none = way
  way_base place middle (node start end (member base asked)) stands way none = absurd (omega (arith, none))
  way_base place middle (node start end shape) stands way none = absurd way

  no_base : (place middle : ℕ) (tree : Tree) (path : PropertyPath) → IsWay schema n scope list place middle tree → steps_of tree ≡ 0 → Need tree path → Way tree path
  no_base place middle (node start end (name asked)) path way none need = need
  no_base place middle (node start end (member base asked)) path way none need = absurd (omega (arith, none))
  no_base place middle (node start end shape) path way none need = absurd way

  pub past_name : (now next : List StepModel) (place : ℕ) (left : IsLeft schema n scope list paths old now place stop trees) (first : IsHead schema n scope list place stop left.rest)
      → IsWay schema n scope list place first.middle first.tree → steps_of first.tree ≡ 0 → Puts now next (Way first.tree) → Left next (place + 1)
  past_name now next place left first way none puts =
      left_on schema n scope list paths old stop trees now next place (place + 1) left first.tree first.more [] (Way first.tree) first.is puts
      (λ path need. inl (no_base place first.middle first.tree path way none need))
      (λ path either. elim either [ inl here ↦ way_needed (slots_of schema) (type_name_at schema n) scope paths first.tree path here | inr nothing ↦ absurd nothing ])
      (subst (λ (k : ℕ). StandInLine schema n scope list k stop first.more) (way_base place first.middle first.tree first.stands way none) first.behind)

  pub past_steps : (now next : List StepModel) (place : ℕ) (left : IsLeft schema n scope list paths old now place stop trees) (first : IsHead schema n scope list place stop left.rest)
      → Puts now next (Way first.tree) → Left next (place + steps_of first.tree)
  past_steps now next place left first puts =
      let base = base_of first.tree in
      let line : StandInLine schema n scope list (place + steps_of first.tree) first.middle (base ∷ []) =
      one_line schema n scope list (place + steps_of first.tree) first.middle base (base_stands schema n scope list place first.middle first.tree first.stands) in
      left_on schema n scope list paths old stop trees now next place (place + steps_of first.tree) left first.tree first.more (base ∷ []) (Way first.tree) first.is puts
      (λ path need. elim (needs_way (slots_of schema) (type_name_at schema n) scope paths first.tree path need) [ inl here ↦ inl here | inr rest ↦ inr (inl rest) ])
      (λ path either. elim either [
        | inl here ↦ way_needed (slots_of schema) (type_name_at schema n) scope paths first.tree path here
        | inr rest ↦ elim rest [ inl of_base ↦ base_needed (slots_of schema) (type_name_at schema n) scope paths first.tree path of_base | inr nothing ↦ absurd nothing ]
      ])
      (line_front schema n scope list (place + steps_of first.tree) first.middle stop (base ∷ []) first.more line first.behind)

  -- either of them
  pub past_way : (now next : List StepModel) (place : ℕ) (left : IsLeft schema n scope list paths old now place stop trees) (first : IsHead schema n scope list place stop left.rest)
      → IsWay schema n scope list place first.middle first.tree → (base : ℕ) → base ≡ place + steps_of first.tree → Puts now next (Way first.tree) → Left next (max base (place + 1))
  past_way now next place left first way base begins puts = by (steps_of first.tree) refl
    where
      by : (k : ℕ) → steps_of first.tree ≡ k → Left next (max base (place + 1))
      by zero none = let same : place + 1 ≡ max base (place + 1) = omega (arith, begins, none) in subst (Left next) same (past_name now next place left first way none puts)
      by (suc k) some = let same : place + steps_of first.tree ≡ max base (place + 1) = omega (arith, begins, some) in subst (Left next) same (past_steps now next place left first puts)

  -- past a node whose children need what it needs
  pub past_node : (now : List StepModel) (place : ℕ) (left : IsLeft schema n scope list paths old now place stop trees) (first : IsHead schema n scope list place stop left.rest)
      (found : CheckedNode) → slice_get list.nodes place ≡ Some found → need_class found.kind ≡ NeedClass.Children → Left now (place + 1)
  past_node now place left first found at class = by first.tree first.stands first.is
    where
      by : (tree : Tree) → Lies schema n scope list place first.middle tree → left.rest ≡ tree ∷ first.more → Left now (place + 1)
      by (node start end shape) stands is =
          let below = needs_by_children schema n scope list paths place first.middle start end shape found stands at class in
          left_on schema n scope list paths old stop trees now now place (place + 1) left (node start end shape) first.more below.children (λ path. ⊥) is (puts_nothing now)
          (λ path need. inr (below.forth path need))
          (λ path either. elim either [ inl none ↦ absurd none | inr need ↦ below.back path need ])
          (line_front schema n scope list (place + 1) first.middle stop below.children first.more below.line first.behind)

-- the tree at the current node, in a scope that is known to be there
pub tree_now : (context : ListContext) (old now : List StepModel) (nodes : List ℕ) (from place stop : ℕ) (there : AreTreesThere context old nodes from stop)
    → IsLeft context.schema.now context.filtered_type there.scope context.list.now there.paths old now place stop there.trees → place < stop
    → IsTreeThere context now nodes place
tree_now context old now nodes from place stop there left before =
    let first = head_of context.schema.now context.filtered_type there.scope context.list.now place stop left.rest left.line before in
    let lead = lead_still old now there.scope there.paths nodes left.leads there.lead in
    record { scope = there.scope; paths = there.paths; stop = first.middle; tree = first.tree; stands = first.stands; lead = lead }
