-- How many trees there are, and one more item of a list or a call.
use Rattle.std.proofs.Common.{◌≡◌, refl, ap, sym, ◌∙◌, ℕ, suc, ◌+◌, ◌-◌, ◌<◌, ◌≤◌, List, [], ◌∷◌, ◌++◌, reverse, take, drop, length, length-drop, Some, arith}
use Rattle.std.proofs.lemmas.List.{length-reverse, reverse-append}
use Rattle.std.specs.Str.{str_to_ascii_lowercase}
use Rattle.odata_text.specs.declared.span.Span.{Span}
use Rattle.odata_syntax.specs.declared.parser.state.Bracket.{Bracket}
use Rattle.odata_syntax.specs.declared.parser.state.Frame.{Frame}
use Rattle.odata_syntax.specs.declared.syntax_list.SyntaxKind.{SyntaxKind}
use Rattle.odata_syntax.specs.declared.syntax_list.SyntaxNode.{SyntaxNode}
use Rattle.odata_syntax.specs.private.Machine.{arguments_from, comma_at, enclosure, items_behind, machine_at, operand}
use Rattle.odata_syntax.specs.private.MachineView.{stack_of, trees_outside, waiting_of}
use Rattle.odata_syntax.specs.private.ListSteps.{operand_count, operands_count}
use Rattle.odata_syntax.specs.PostOrder.{Texts, child_count, last_tree, last_trees, tree_count, tree_count_back, trees_back, trees_before, trees_in, trees_left}
use Rattle.odata_syntax.specs.Tree.{Tree}
use Rattle.odata_syntax.proofs.lists.Pushed.{operands_push}

-- As many trees as are counted.

length_before : (trees : List Tree) → length (trees_before trees) ≡ length trees - 1
length_before [] = refl
length_before (tree ∷ trees) = omega arith

length_left : (kind : SyntaxKind) (items : ℕ) (trees : List Tree) → length (trees_left kind items trees) ≡ length trees - child_count kind items
length_left (SyntaxKind.Lit kind) items trees = omega arith
length_left SyntaxKind.It items trees = omega arith
length_left SyntaxKind.Name items trees = omega arith
length_left SyntaxKind.Member items trees = length_before trees
length_left SyntaxKind.Count items trees = length_before trees
length_left SyntaxKind.Neg items trees = length_before trees
length_left SyntaxKind.Not items trees = length_before trees
length_left (SyntaxKind.Binary operator) items trees = omega (arith, length_before trees, length_before (trees_before trees))
length_left SyntaxKind.Has items trees = omega (arith, length_before trees, length_before (trees_before trees))
length_left SyntaxKind.InList items trees = omega (arith, length_before (drop items trees), length-drop items trees)
length_left SyntaxKind.InPath items trees = omega (arith, length_before trees, length_before (trees_before trees))
length_left SyntaxKind.Call items trees = length-drop items trees
length_left SyntaxKind.AnyItem items trees = length_before trees
length_left (SyntaxKind.Lambda quantifier) items trees = omega (arith, length_before trees, length_before (trees_before trees))

pub length_back : (texts : Texts) (back : List SyntaxNode) → length (trees_back texts back) ≡ tree_count_back back
length_back texts [] = refl
length_back texts (n ∷ earlier) =
    let left = length_left n.kind n.count (trees_back texts earlier) in
    let before = length_back texts earlier in
    omega arith

pub trees_length : (texts : Texts) (nodes : List SyntaxNode) → length (trees_in texts nodes) ≡ tree_count nodes
trees_length texts nodes = length_back texts (reverse nodes)

-- No more trees than nodes.

count_within : (back : List SyntaxNode) → tree_count_back back ≤ length back
count_within [] = omega arith
count_within (n ∷ earlier) = let before = count_within earlier in omega arith

pub fewer_trees : (nodes : List SyntaxNode) → tree_count nodes ≤ length nodes
fewer_trees nodes = let within = count_within (reverse nodes) in let size = length-reverse nodes in omega arith

-- the operands of the last frame are some of the nodes
pub frame_within : (frames rest : List Frame) (frame : Frame) (nodes : List SyntaxNode) → frames ≡ rest ++ frame ∷ [] → operands_count (reverse frames) + 1 ≡ tree_count nodes → operand_count frame < length nodes
frame_within frames rest frame nodes is whole =
    let within = fewer_trees nodes in
    let size = ap (λ (fs : List Frame). operands_count (reverse fs)) is ∙ operands_push rest frame in
    omega arith

-- One more item.

pub some_tree : (texts : Texts) (nodes : List SyntaxNode) (k : ℕ) → k + 1 ≡ tree_count nodes → 0 < length (trees_in texts nodes)
some_tree texts nodes k whole = let size = trees_length texts nodes in omega arith

pub drop_more : (count : ℕ) (all : List Tree) → 0 < length all → drop (count + 1) all ≡ drop count (trees_before all)
drop_more count [] some = absurd (omega arith)
drop_more count (tree ∷ trees) some = let next : count + 1 ≡ suc count = omega arith in ap (λ (k : ℕ). drop k (tree ∷ trees)) next

pub items_more : (count : ℕ) (all : List Tree) → 0 < length all → last_trees (count + 1) all ≡ last_trees count (trees_before all) ++ last_tree all ∷ []
items_more count [] some = absurd (omega arith)
items_more count (tree ∷ trees) some =
    let next : count + 1 ≡ suc count = omega arith in
    ap (λ (k : ℕ). reverse (take k (tree ∷ trees))) next ∙ reverse-append (tree ∷ []) (take count trees)

abbrev pub list_frame : ℕ → ℕ → Frame
list_frame start count = Frame.Open (Bracket.List start count)

abbrev pub call_frame : ℕ → Span → ℕ → Frame
call_frame start name count = Frame.Open (Bracket.Call start name count)

pub list_comma : (texts : Texts) (rest : List Frame) (start count : ℕ) (all : List Tree) → 0 < length all
    → comma_at (waiting_of texts (list_frame start count) (trees_before all) ∷ stack_of texts rest (trees_outside (list_frame start count) (trees_before all))) (last_tree all)
    ≡ Some (machine_at (waiting_of texts (list_frame start (count + 1)) all ∷ stack_of texts rest (trees_outside (list_frame start (count + 1)) all)) operand)
list_comma texts rest start count all some =
    ap (λ (xs : List Tree). Some (machine_at (enclosure (items_behind (last_tree (drop count (trees_before all))) xs) ∷ stack_of texts rest (trees_before (drop count (trees_before all)))) operand)) (sym (items_more count all some))
    ∙ ap (λ (ys : List Tree). Some (machine_at (enclosure (items_behind (last_tree ys) (last_trees (count + 1) all)) ∷ stack_of texts rest (trees_before ys)) operand)) (sym (drop_more count all some))

pub call_comma : (texts : Texts) (rest : List Frame) (start : ℕ) (name : Span) (count : ℕ) (all : List Tree) → 0 < length all
    → comma_at (waiting_of texts (call_frame start name count) (trees_before all) ∷ stack_of texts rest (trees_outside (call_frame start name count) (trees_before all))) (last_tree all)
    ≡ Some (machine_at (waiting_of texts (call_frame start name (count + 1)) all ∷ stack_of texts rest (trees_outside (call_frame start name (count + 1)) all)) operand)
call_comma texts rest start name count all some =
    ap (λ (xs : List Tree). Some (machine_at (enclosure (arguments_from start (str_to_ascii_lowercase (texts name)) xs) ∷ stack_of texts rest (drop count (trees_before all))) operand)) (sym (items_more count all some))
    ∙ ap (λ (ys : List Tree). Some (machine_at (enclosure (arguments_from start (str_to_ascii_lowercase (texts name)) (last_trees (count + 1) all)) ∷ stack_of texts rest ys) operand)) (sym (drop_more count all some))
