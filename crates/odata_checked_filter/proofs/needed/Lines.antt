-- Trees one after another, from their first node on: what they need.
use Rattle.std.proofs.Common.{◌≡◌, ◌⊎◌, ℕ, ◌+◌, ◌<◌, ◌≤◌, List, [], ◌∷◌, ◌++◌, Bool, true, false, cond, Some, None, length, slice_get, nat_eq, refl, sym, ap, subst, inl, inr, arith}
use Rattle.odata_syntax.specs.Spans.{list_of_trees}
use Rattle.odata_syntax.specs.Tree.{Shape, Tree, Trees, any_item, binary, call, count, has, in_list, in_path, it, lambda, literal, logical_not, member, more_trees, name, negation, no_trees, node}
use Rattle.std.specs.Cmp.Lexicographic.{pointwise}
use Rattle.csdl_schema.specs.ExpansionView.{LeadsTo, StepModel, paths_in}
use Rattle.csdl_schema.specs.ExprType.{ExprType}
use Rattle.csdl_schema.specs.PathSet.{PropertyPath}
use Rattle.csdl_schema.specs.SchemaModel.{PropertyModel, SchemaModel, Slots, slots_of, type_name_at}
use Rattle.odata_signatures.specs.NeededPaths.{IsNeeded, IsNeededAmong, VariablePaths}
use Rattle.odata_signatures.specs.Typed.{Scope, Typed, variable_type}
use Rattle.odata_checked_filter.specs.FlatTree.{FlatTree}
use Rattle.odata_checked_filter.specs.Levels.{level_named}
use Rattle.odata_checked_filter.specs.private.Layout.{AllLie, Lies}
use Rattle.odata_checked_filter.specs.Stands.{IsMemberNode, IsNameNode, variable_names}
use Rattle.odata_checked_filter.specs.declared.checked_node.CheckedNode.{CheckedNode}
use Rattle.odata_checked_filter.specs.declared.checked_node.NodeKind.{NodeKind}
use Rattle.odata_checked_filter.specs.declared.needed_paths.NeedClass.{NeedClass}
use Rattle.odata_checked_filter.specs.private.NeededPaths.{NeedsAmong, Puts, StandInLine, need_class}
use Rattle.odata_checked_filter.proofs.flat.Children.{one_there, two_there}
use Rattle.odata_checked_filter.proofs.flat.Places.{same_found}
use Rattle.odata_checked_filter.proofs.flat.Standing.{lies_nonempty}

-- ---- what trees need

module _ (slots : Slots) (root : List ℕ) (scope : Scope) (paths : VariablePaths) where
  pub need_front : (first behind : List Tree) (path : PropertyPath) → NeedsAmong slots root scope paths first path ⊎ NeedsAmong slots root scope paths behind path
      → NeedsAmong slots root scope paths (first ++ behind) path
  need_front [] behind path (inl none) = absurd none
  need_front [] behind path (inr need) = need
  need_front (t ∷ ts) behind path (inl (inl need)) = inl need
  need_front (t ∷ ts) behind path (inl (inr need)) = inr (need_front ts behind path (inl need))
  need_front (t ∷ ts) behind path (inr need) = inr (need_front ts behind path (inr need))

  pub front_need : (first behind : List Tree) (path : PropertyPath) → NeedsAmong slots root scope paths (first ++ behind) path
      → NeedsAmong slots root scope paths first path ⊎ NeedsAmong slots root scope paths behind path
  front_need [] behind path need = inr need
  front_need (t ∷ ts) behind path (inl need) = inl (inl need)
  front_need (t ∷ ts) behind path (inr need) = elim (front_need ts behind path need) [ inl here ↦ inl (inr here) | inr there ↦ inr there ]

  pub among_list : (trees : Trees) (path : PropertyPath) → IsNeededAmong slots root scope paths trees path → NeedsAmong slots root scope paths (list_of_trees trees) path
  among_list no_trees path need = absurd need
  among_list (more_trees tree trees) path (inl need) = inl need
  among_list (more_trees tree trees) path (inr need) = inr (among_list trees path need)

  pub list_among : (trees : Trees) (path : PropertyPath) → NeedsAmong slots root scope paths (list_of_trees trees) path → IsNeededAmong slots root scope paths trees path
  list_among no_trees path need = absurd need
  list_among (more_trees tree trees) path (inl need) = inl need
  list_among (more_trees tree trees) path (inr need) = inr (list_among trees path need)

-- ---- lines

module _ (schema : SchemaModel) (n : ℕ) (scope : Scope) (list : FlatTree) where
  pub line_onward : (i j : ℕ) (trees : List Tree) → StandInLine schema n scope list i j trees → i ≤ j
  line_onward i j [] line = omega (arith, line)
  line_onward i j (tree ∷ trees) line =
      let before : i < line.0 = lies_nonempty schema n scope list i line.0 tree line.1 in
      let behind : line.0 ≤ j = line_onward line.0 j trees line.2 in
      omega (arith, before, behind)

  pub line_front : (i m j : ℕ) (first behind : List Tree) → StandInLine schema n scope list i m first → StandInLine schema n scope list m j behind
      → StandInLine schema n scope list i j (first ++ behind)
  line_front i m j [] behind line more = subst (λ (k : ℕ). StandInLine schema n scope list k j behind) (sym line) more
  line_front i m j (tree ∷ first) behind line more = (line.0, line.1, line_front line.0 m j first behind line.2 more)

  pub one_line : (i j : ℕ) (tree : Tree) → Lies schema n scope list i j tree → StandInLine schema n scope list i j (tree ∷ [])
  one_line i j tree stands = (j, stands, refl)

  pub all_line : (i j : ℕ) (trees : Trees) → AllLie schema n scope list i j trees → StandInLine schema n scope list i j (list_of_trees trees)
  all_line i j no_trees stand = stand
  all_line i j (more_trees tree trees) stand = (stand.middle, stand.left, all_line stand.middle j trees stand.right)

  -- ---- a node that needs what its children need

  -- they stand after it, and need what it needs
  pub record NeedsByChildren (paths : VariablePaths) (i j : ℕ) (tree : Tree) : Type 0 where
    pub children : List Tree
    pub line : StandInLine schema n scope list (i + 1) j children
    pub forth : (path : PropertyPath) → IsNeeded (slots_of schema) (type_name_at schema n) scope paths tree path
        → NeedsAmong (slots_of schema) (type_name_at schema n) scope paths children path
    pub back : (path : PropertyPath) → NeedsAmong (slots_of schema) (type_name_at schema n) scope paths children path
        → IsNeeded (slots_of schema) (type_name_at schema n) scope paths tree path

not_member : (slots : Slots) (Base : ExprType → Type 0) (asked : List ℕ) (k : NodeKind) → IsMemberNode slots Base asked k → need_class k ≡ NeedClass.Children → ⊥
not_member slots Base asked (NodeKind.Member slot) is class = cc
not_member slots Base asked _ is class = is

-- a name that has no slot is a variable's
variable_at : (properties : List PropertyModel) (names : List (List ℕ)) (asked : List ℕ) (k : NodeKind) → IsNameNode properties names asked k → need_class k ≡ NeedClass.Children
    → (level : ℕ) × (level_named names asked ≡ Some level)
variable_at properties names asked (NodeKind.Variable level) is class = (level, is)
variable_at properties names asked (NodeKind.Property slot) is class = absurd (cc)
variable_at properties names asked _ is class = absurd is

pub some_variable : (scope : Scope) (asked : List ℕ) (level : ℕ) → level_named (variable_names scope) asked ≡ Some level → variable_type scope asked ≡ None → ⊥
some_variable [] asked level named free = cc
some_variable (v ∷ scope) asked level named free = by (pointwise nat_eq asked v.name) refl (some_variable scope asked level) named
  where
    by : (b : Bool) → pointwise nat_eq asked v.name ≡ b → (level_named (variable_names scope) asked ≡ Some level → variable_type scope asked ≡ None → ⊥)
        → cond b (Some (length (variable_names scope))) (level_named (variable_names scope) asked) ≡ Some level → ⊥
    by true is outer at = let none : Some v.type_of ≡ None = rw is at free in cc
    by false is outer at = outer at (rw is at free)

module _ (schema : SchemaModel) (n : ℕ) (scope : Scope) (list : FlatTree) (paths : VariablePaths) where
  one_child : (i j : ℕ) (tree child : Tree) → Lies schema n scope list (i + 1) j child
      → ((path : PropertyPath) → IsNeeded (slots_of schema) (type_name_at schema n) scope paths tree path → IsNeeded (slots_of schema) (type_name_at schema n) scope paths child path)
      → ((path : PropertyPath) → IsNeeded (slots_of schema) (type_name_at schema n) scope paths child path → IsNeeded (slots_of schema) (type_name_at schema n) scope paths tree path)
      → NeedsByChildren schema n scope list paths i j tree
  one_child i j tree child stands forth back = record {
    children = child ∷ [];
    line = one_line schema n scope list (i + 1) j child stands;
    forth = λ path need. inl (forth path need);
    back = λ path need. elim need [ inl here ↦ back path here | inr none ↦ absurd none ];
  }

  two_children : (i m j : ℕ) (tree left right : Tree) → Lies schema n scope list (i + 1) m left → Lies schema n scope list m j right
      → ((path : PropertyPath) → IsNeeded (slots_of schema) (type_name_at schema n) scope paths tree path
      → IsNeeded (slots_of schema) (type_name_at schema n) scope paths left path ⊎ IsNeeded (slots_of schema) (type_name_at schema n) scope paths right path)
      → ((path : PropertyPath) → IsNeeded (slots_of schema) (type_name_at schema n) scope paths left path ⊎ IsNeeded (slots_of schema) (type_name_at schema n) scope paths right path
      → IsNeeded (slots_of schema) (type_name_at schema n) scope paths tree path)
      → NeedsByChildren schema n scope list paths i j tree
  two_children i m j tree left right first second forth back = record {
    children = left ∷ right ∷ [];
    line = (m, first, (j, second, refl));
    forth = λ path need. elim (forth path need) [ inl here ↦ inl here | inr there ↦ inr (inl there) ];
    back = λ path need. elim need [ inl here ↦ back path (inl here) | inr there ↦ elim there [ inl second_here ↦ back path (inr second_here) | inr none ↦ absurd none ] ];
  }

  pub needs_by_children : (i j start stop : ℕ) (shape : Shape) (found : CheckedNode) → Lies schema n scope list i j (node start stop shape) → slice_get list.nodes i ≡ Some found
      → need_class found.kind ≡ NeedClass.Children → NeedsByChildren schema n scope list paths i j (node start stop shape)
  needs_by_children i j start stop shape found stands at class =
      by shape stands (subst (λ (f : CheckedNode). need_class f.kind ≡ NeedClass.Children) (sym (same_found (slice_get list.nodes i) stands.top.found found stands.top.stands_at at)) class)
    where
      by : (shape : Shape) (stands : Lies schema n scope list i j (node start stop shape)) → need_class stands.top.found.kind ≡ NeedClass.Children
          → NeedsByChildren schema n scope list paths i j (node start stop shape)
      by (literal kind spelling) stands class = record { children = []; line = stands.children; forth = λ path need. need; back = λ path need. need }
      by it stands class = record { children = []; line = stands.children; forth = λ path need. need; back = λ path need. need }
      by (name asked) stands class =
          let level = variable_at ((slots_of schema).properties (type_name_at schema n)) (variable_names scope) asked stands.top.found.kind stands.top.kind class in
          record { children = []; line = stands.children; forth = λ path need. some_variable scope asked level.0 level.1 need.free; back = λ path need. absurd need }
      by (member base asked) stands class = absurd (not_member (slots_of schema) (Typed (slots_of schema) (type_name_at schema n) scope base) asked stands.top.found.kind stands.top.kind class)
      by (count base) stands class = one_child i j (node start stop (count base)) base (one_there schema n scope list (i + 1) j base stands.children) (λ path need. need) (λ path need. need)
      by (negation operand) stands class = one_child i j (node start stop (negation operand)) operand (one_there schema n scope list (i + 1) j operand stands.children) (λ path need. need) (λ path need. need)
      by (logical_not operand) stands class =
          one_child i j (node start stop (logical_not operand)) operand (one_there schema n scope list (i + 1) j operand stands.children) (λ path need. need) (λ path need. need)
      by (binary operator left right) stands class =
          let both = two_there schema n scope list (i + 1) j left right stands.children in
          two_children i both.middle j (node start stop (binary operator left right)) left right both.left both.right (λ path need. need) (λ path need. need)
      by (has left right) stands class =
          let both = two_there schema n scope list (i + 1) j left right stands.children in
          two_children i both.middle j (node start stop (has left right)) left right both.left both.right (λ path need. need) (λ path need. need)
      by (in_list left items) stands class = record {
        children = left ∷ list_of_trees items;
        line = (stands.children.middle, stands.children.left, all_line schema n scope list stands.children.middle j items stands.children.right);
        forth = λ path need. elim need [ inl here ↦ inl here | inr there ↦ inr (among_list (slots_of schema) (type_name_at schema n) scope paths items path there) ];
        back = λ path need. elim need [ inl here ↦ inl here | inr there ↦ inr (list_among (slots_of schema) (type_name_at schema n) scope paths items path there) ];
      }
      by (in_path left collection) stands class =
          let both = two_there schema n scope list (i + 1) j left collection stands.children in
          two_children i both.middle j (node start stop (in_path left collection)) left collection both.left both.right (λ path need. need) (λ path need. need)
      by (call asked arguments) stands class = record {
        children = list_of_trees arguments;
        line = all_line schema n scope list (i + 1) j arguments stands.children;
        forth = λ path need. among_list (slots_of schema) (type_name_at schema n) scope paths arguments path need;
        back = λ path need. list_among (slots_of schema) (type_name_at schema n) scope paths arguments path need;
      }
      by (any_item base) stands class = one_child i j (node start stop (any_item base)) base (one_there schema n scope list (i + 1) j base stands.children) (λ path need. need) (λ path need. need)
      by (lambda quantifier base variable body) stands class = let is : need_class stands.top.found.kind ≡ NeedClass.Lambda = ap need_class stands.top.kind in absurd (cc)

-- ---- what is left of a line on the way

-- trees from an index on, with which what is in the set by now makes what the whole needs
pub record IsLeft
    (schema : SchemaModel) (n : ℕ) (scope : Scope) (list : FlatTree) (paths : VariablePaths) (old now : List StepModel) (place stop : ℕ) (trees : List Tree) : Type 0 where
  pub rest : List Tree
  pub line : StandInLine schema n scope list place stop rest
  pub forth : (path : PropertyPath) → (paths_in now path ≡ true) ⊎ NeedsAmong (slots_of schema) (type_name_at schema n) scope paths rest path
      → (paths_in old path ≡ true) ⊎ NeedsAmong (slots_of schema) (type_name_at schema n) scope paths trees path
  pub back : (path : PropertyPath) → (paths_in old path ≡ true) ⊎ NeedsAmong (slots_of schema) (type_name_at schema n) scope paths trees path
      → (paths_in now path ≡ true) ⊎ NeedsAmong (slots_of schema) (type_name_at schema n) scope paths rest path
  pub leads : (path : PropertyPath) (node : ℕ) → LeadsTo old path node → LeadsTo now path node

module _ (schema : SchemaModel) (n : ℕ) (scope : Scope) (list : FlatTree) (paths : VariablePaths) (old : List StepModel) (stop : ℕ) (trees : List Tree) where
  abbrev Among : List Tree → PropertyPath → Type 0
  Among ts path = NeedsAmong (slots_of schema) (type_name_at schema n) scope paths ts path

  pub left_begin : (from : ℕ) → StandInLine schema n scope list from stop trees → IsLeft schema n scope list paths old old from stop trees
  left_begin from line = record { rest = trees; line = line; forth = λ path either. either; back = λ path either. either; leads = λ path node leads. leads }

  -- past the first of them: a part of what it needs is put into the set, and trees that replace it need the other part
  pub left_on : (now next : List StepModel) (place onward : ℕ) (left : IsLeft schema n scope list paths old now place stop trees) (tree : Tree) (more front : List Tree) (P : PropertyPath → Type 0)
      → left.rest ≡ tree ∷ more → Puts now next P
      → ((path : PropertyPath) → IsNeeded (slots_of schema) (type_name_at schema n) scope paths tree path → P path ⊎ NeedsAmong (slots_of schema) (type_name_at schema n) scope paths front path)
      → ((path : PropertyPath) → P path ⊎ NeedsAmong (slots_of schema) (type_name_at schema n) scope paths front path → IsNeeded (slots_of schema) (type_name_at schema n) scope paths tree path)
      → StandInLine schema n scope list onward stop (front ++ more) → IsLeft schema n scope list paths old next onward stop trees
  left_on now next place onward left tree more front P is puts parts whole line = record {
    rest = front ++ more;
    line = line;
    forth = λ path either. left.forth path (subst (λ (ts : List Tree). (paths_in now path ≡ true) ⊎ Among ts path) (sym is) (before path either));
    back = λ path either. after path (subst (λ (ts : List Tree). (paths_in now path ≡ true) ⊎ Among ts path) is (left.back path either));
    leads = λ path node leads. puts.leads path node (left.leads path node leads);
  }
    where
      before : (path : PropertyPath) → (paths_in next path ≡ true) ⊎ Among (front ++ more) path → (paths_in now path ≡ true) ⊎ Among (tree ∷ more) path
      before path (inl in_next) = elim ((puts.has path).0 in_next) [ inl in_now ↦ inl in_now | inr here ↦ inr (inl (whole path (inl here))) ]
      before path (inr need) =
          elim (front_need (slots_of schema) (type_name_at schema n) scope paths front more path need) [ inl here ↦ inr (inl (whole path (inr here))) | inr there ↦ inr (inr there) ]

      after : (path : PropertyPath) → (paths_in now path ≡ true) ⊎ Among (tree ∷ more) path → (paths_in next path ≡ true) ⊎ Among (front ++ more) path
      after path (inl in_now) = inl ((puts.has path).1 (inl in_now))
      after path (inr (inl need)) = elim (parts path need) [
        | inl here ↦ inl ((puts.has path).1 (inr here))
        | inr there ↦ inr (need_front (slots_of schema) (type_name_at schema n) scope paths front more path (inl there))
      ]
      after path (inr (inr need)) = inr (need_front (slots_of schema) (type_name_at schema n) scope paths front more path (inr need))

  -- at the end
  none_left : (place : ℕ) (rest : List Tree) → StandInLine schema n scope list place stop rest → stop ≤ place → rest ≡ []
  none_left place [] line past = refl
  none_left place (tree ∷ rest) line past =
      let before : place < line.0 = lies_nonempty schema n scope list place line.0 tree line.1 in
      let behind : line.0 ≤ stop = line_onward schema n scope list line.0 stop rest line.2 in
      absurd (omega (arith, before, behind, past))

  pub left_over : (now : List StepModel) (place : ℕ) → IsLeft schema n scope list paths old now place stop trees → stop ≤ place
      → Puts old now (NeedsAmong (slots_of schema) (type_name_at schema n) scope paths trees)
  left_over now place left past =
      let none = none_left place left.rest left.line past in
      record {
        has = λ path. (
          (λ in_now. left.forth path (inl in_now)),
          (λ either. elim (subst (λ (ts : List Tree). (paths_in now path ≡ true) ⊎ Among ts path) none (left.back path either)) [ inl in_now ↦ in_now | inr nothing ↦ absurd nothing ]),
        );
        leads = left.leads;
      }
