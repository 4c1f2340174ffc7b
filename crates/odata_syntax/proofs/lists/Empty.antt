-- A list or a call that holds an item is not closed as an empty one.
use Rattle.std.proofs.Common.{◌≡◌, refl, ap, ◌∙◌, ℕ, ◌<◌, ◌≤◌, List, [], ◌∷◌, ◌++◌, reverse, take, drop, length, Option, None, arith}
use Rattle.std.proofs.lemmas.List.{length-reverse, length-take-le}
use Rattle.std.specs.Str.{str_to_ascii_lowercase}
use Rattle.odata_text.specs.declared.span.Span.{Span}
use Rattle.odata_syntax.specs.declared.parser.state.Frame.{Frame}
use Rattle.odata_syntax.specs.declared.syntax_list.SyntaxNode.{SyntaxNode}
use Rattle.odata_syntax.specs.Tree.{Tree}
use Rattle.odata_syntax.specs.PostOrder.{Texts, last_tree, last_trees, trees_in}
use Rattle.odata_syntax.specs.private.Machine.{Waiting, arguments_from, close_empty, closed_with, empty_tree, items_behind}
use Rattle.odata_syntax.specs.private.MachineView.{stack_of, trees_outside}
use Rattle.odata_syntax.specs.private.ListSteps.{IsExpecting, operand_count, operands_count}
use Rattle.odata_syntax.proofs.lists.Counts.{call_frame, list_frame, trees_length}
use Rattle.odata_syntax.proofs.lists.Pushed.{operands_push, stack_push}

no_empty_list : (left : Tree) (items : List Tree) (stop : ℕ) → 0 < length items → empty_tree (items_behind left items) stop ≡ None
no_empty_list left [] stop some = absurd (omega arith)
no_empty_list left (item ∷ items) stop some = refl

no_empty_call : (start : ℕ) (text : List ℕ) (items : List Tree) (stop : ℕ) → 0 < length items → empty_tree (arguments_from start text items) stop ≡ None
no_empty_call start text [] stop some = absurd (omega arith)
no_empty_call start text (item ∷ items) stop some = refl

-- the items of the last frame are there
items_there :
    (texts : Texts) (frames front : List Frame) (frame : Frame) (nodes : List SyntaxNode) (count : ℕ)
    → frames ≡ front ++ frame ∷ []
    → count ≤ operand_count frame
    → IsExpecting frames nodes
    → 0 < count
    → 0 < length (last_trees count (trees_in texts nodes))
items_there texts frames front frame nodes count is within expecting some =
    let whole = ap (λ (fs : List Frame). operands_count (reverse fs)) is ∙ operands_push front frame in
    let counted = expecting.whole in
    let size = trees_length texts nodes in
    let taken : length (take count (trees_in texts nodes)) ≡ count = length-take-le count (trees_in texts nodes) (omega arith) in
    let turned = length-reverse (take count (trees_in texts nodes)) in
    omega arith

pub list_refused :
    (texts : Texts) (frames front : List Frame) (nodes : List SyntaxNode) (start count stop : ℕ)
    → frames ≡ front ++ list_frame start count ∷ []
    → IsExpecting frames nodes
    → 0 < count
    → close_empty (stack_of texts frames (trees_in texts nodes)) stop ≡ None
list_refused texts frames front nodes start count stop is expecting some =
    let trees = trees_in texts nodes in
    ap (λ (fs : List Frame). close_empty (stack_of texts fs trees) stop) is
    ∙ ap (λ (ws : List Waiting). close_empty ws stop) (stack_push texts front (list_frame start count) trees)
    ∙ ap (λ (o : Option Tree). closed_with (stack_of texts front (trees_outside (list_frame start count) trees)) o)
    (no_empty_list (last_tree (drop count trees)) (last_trees count trees) stop (items_there texts frames front (list_frame start count) nodes count is (omega arith) expecting some))

pub call_refused :
    (texts : Texts) (frames front : List Frame) (nodes : List SyntaxNode) (start : ℕ) (name : Span) (count stop : ℕ)
    → frames ≡ front ++ call_frame start name count ∷ []
    → IsExpecting frames nodes
    → 0 < count
    → close_empty (stack_of texts frames (trees_in texts nodes)) stop ≡ None
call_refused texts frames front nodes start name count stop is expecting some =
    let trees = trees_in texts nodes in
    ap (λ (fs : List Frame). close_empty (stack_of texts fs trees) stop) is
    ∙ ap (λ (ws : List Waiting). close_empty ws stop) (stack_push texts front (call_frame start name count) trees)
    ∙ ap (λ (o : Option Tree). closed_with (stack_of texts front (trees_outside (call_frame start name count) trees)) o)
    (no_empty_call start (str_to_ascii_lowercase (texts name)) (last_trees count trees) stop (items_there texts frames front (call_frame start name count) nodes count is (omega arith) expecting some))
