-- What is still to be made of a normal form. For private clauses.
use Rattle.std.specs.Prelude.{◌≡◌, ℕ, suc, ◌*◌, ◌<◌, List, [], ◌∷◌, map, reverse, sum_by}
use Rattle.odata_text.specs.LiteralSpelling.{IsLiteralSpelling}
use Rattle.odata_syntax.specs.NormalForm.{AreNormalForms, IsNormalForm, literal_token}
use Rattle.odata_syntax.specs.Tree.{Shape, Tree, Trees, any_item, binary, call, count, has, in_list, in_path, it, lambda, literal, logical_not, member, more_trees, name, negation, no_trees, shape_of}
use Rattle.odata_syntax.specs.TreeView.{tree_of, trees_of}
use Rattle.odata_syntax.specs.declared.normal_form.Task.{Task}
use Rattle.odata_syntax.specs.declared.normal_form.Task.TheVariants.{Items, Over, Whole}
use Rattle.odata_syntax.specs.declared.syntax_list.SyntaxKind.{SyntaxKind}
use Rattle.odata_syntax.specs.private.Weights.{tree_weight, trees_weight}

-- the children of a form, in the order of the text
abbrev pub children_of : Shape → Trees
children_of (literal kind text) = no_trees
children_of it = no_trees
children_of (name text) = no_trees
children_of (member base text) = more_trees base no_trees
children_of (count base) = more_trees base no_trees
children_of (negation operand) = more_trees operand no_trees
children_of (logical_not operand) = more_trees operand no_trees
children_of (binary operator left right) = more_trees left (more_trees right no_trees)
children_of (has left right) = more_trees left (more_trees right no_trees)
children_of (in_list left items) = more_trees left items
children_of (in_path left path) = more_trees left (more_trees path no_trees)
children_of (call text arguments) = arguments
children_of (any_item base) = more_trees base no_trees
children_of (lambda quantifier base variable body) = more_trees base (more_trees body no_trees)

-- what a form is in a list of nodes, and how many items it has there
abbrev pub shape_kind : Shape → SyntaxKind
shape_kind (literal kind text) = SyntaxKind.Lit kind
shape_kind it = SyntaxKind.It
shape_kind (name text) = SyntaxKind.Name
shape_kind (member base text) = SyntaxKind.Member
shape_kind (count base) = SyntaxKind.Count
shape_kind (negation operand) = SyntaxKind.Neg
shape_kind (logical_not operand) = SyntaxKind.Not
shape_kind (binary operator left right) = SyntaxKind.Binary operator
shape_kind (has left right) = SyntaxKind.Has
shape_kind (in_list left items) = SyntaxKind.InList
shape_kind (in_path left path) = SyntaxKind.InPath
shape_kind (call text arguments) = SyntaxKind.Call
shape_kind (any_item base) = SyntaxKind.AnyItem
shape_kind (lambda quantifier base variable body) = SyntaxKind.Lambda quantifier

abbrev pub count_trees : Trees → ℕ
count_trees no_trees = 0
count_trees (more_trees tree trees) = suc (count_trees trees)

abbrev pub item_count : Shape → ℕ
item_count (in_list left items) = count_trees items
item_count (call text arguments) = count_trees arguments
item_count _ = 0

-- the spelling or the name in the normal form of a form; nothing in others
abbrev pub IsNormalText : Shape → List ℕ → Type 0
IsNormalText (literal kind spelled) text = IsLiteralSpelling (literal_token kind) spelled text
IsNormalText (name asked) text = text ≡ asked
IsNormalText (member base asked) text = text ≡ asked
IsNormalText (call asked arguments) text = text ≡ asked
IsNormalText (lambda quantifier base variable body) text = text ≡ variable
IsNormalText _ text = text ≡ []

-- trees on a stack, each over those before it
abbrev pub stacked : Trees → List Tree → List Tree
stacked no_trees earlier = earlier
stacked (more_trees tree trees) earlier = stacked trees (tree ∷ earlier)

-- the normal forms of a tree's children were made, over these trees
pub record HasChildren (tree : Tree) (made earlier : List Tree) : Type 0 where
  pub normals : Trees
  pub are_normal : AreNormalForms (children_of (shape_of tree)) normals
  pub are_made : made ≡ stacked normals earlier

-- the normal form of a tree was put over these trees
pub record IsPutOver (tree : Tree) (earlier made : List Tree) : Type 0 where
  pub normal : Tree
  pub is_normal : IsNormalForm tree normal
  pub is_made : made ≡ normal ∷ earlier

-- what is wanted: the normal form of a tree, those of items, and that of a tree whose children's were made
pub data Wanted : Type 0 where
  whole : Tree → Wanted
  items : Trees → Wanted
  over : Tree → Wanted

-- with the trees that were made, what is wanted, the first one first, ends in the normal form of a root
abbrev pub IsReady : List Wanted → List Tree → Tree → Type 0
IsReady [] made root = IsPutOver root [] made
IsReady (whole tree ∷ more) made root = (normal : Tree) → IsNormalForm tree normal → IsReady more (normal ∷ made) root
IsReady (items trees ∷ more) made root =
    (normals : Trees) → AreNormalForms trees normals → IsReady more (stacked normals made) root
IsReady (over tree ∷ more) made root =
    (earlier : List Tree) × HasChildren tree made earlier
    × ((normal : Tree) → IsNormalForm tree normal → IsReady more (normal ∷ earlier) root)

-- what the children of a form want
abbrev pub children_wanted : Shape → List Wanted
children_wanted (literal kind text) = []
children_wanted it = []
children_wanted (name text) = []
children_wanted (member base text) = whole base ∷ []
children_wanted (count base) = whole base ∷ []
children_wanted (negation operand) = whole operand ∷ []
children_wanted (logical_not operand) = whole operand ∷ []
children_wanted (binary operator left right) = whole left ∷ (whole right ∷ [])
children_wanted (has left right) = whole left ∷ (whole right ∷ [])
children_wanted (in_list left trees) = whole left ∷ (items trees ∷ [])
children_wanted (in_path left path) = whole left ∷ (whole path ∷ [])
children_wanted (call text arguments) = items arguments ∷ []
children_wanted (any_item base) = whole base ∷ []
children_wanted (lambda quantifier base variable body) = whole base ∷ (whole body ∷ [])

-- what items want, and what is wanted after them
abbrev pub items_wanted : Trees → List Wanted → List Wanted
items_wanted no_trees more = more
items_wanted (more_trees tree trees) more = whole tree ∷ (items trees ∷ more)

-- what tasks of the code want, of which the last one is done first
abbrev pub wanted : Task → Wanted
wanted (Whole there) = whole (tree_of there.now)
wanted (Items those) = items (trees_of those.now)
wanted (Over there) = over (tree_of there.now)

abbrev pub all_wanted : List Task → List Wanted
all_wanted tasks = reverse (map wanted tasks)

-- how much there is to make
abbrev pub wanted_weight : Wanted → ℕ
wanted_weight (whole tree) = 2 * tree_weight tree
wanted_weight (items trees) = 2 * trees_weight trees
wanted_weight (over tree) = 1

abbrev pub work : List Wanted → ℕ
work more = sum_by wanted_weight more

-- one of what is wanted was made, or what that needs is wanted first
pub record IsMade (before : List Wanted) (old : List Tree) (after : List Wanted) (new : List Tree) : Type 0 where
  pub ready : (root : Tree) → IsReady before old root → IsReady after new root
  pub lighter : work after < work before
