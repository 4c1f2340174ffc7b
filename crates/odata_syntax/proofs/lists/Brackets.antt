-- A comma and a closing parenthesis.
use Rattle.std.proofs.Common.{◌≡◌, ap, sym, subst, ◌∙◌, ℕ, ◌+◌, ◌<◌, List, [], ◌∷◌, ◌++◌, reverse, drop, length, Some}
use Rattle.std.proofs.lemmas.List.{reverse-append}
use Rattle.std.specs.Str.{str_to_ascii_lowercase}
use Rattle.odata_text.specs.declared.span.Span.{Span}
use Rattle.odata_syntax.specs.declared.parser.state.Frame.{Frame}
use Rattle.odata_syntax.specs.declared.parser.state.Stage.{Stage}
use Rattle.odata_syntax.specs.declared.parser.state.State.{State}
use Rattle.odata_syntax.specs.declared.syntax_list.SyntaxKind.{SyntaxKind}
use Rattle.odata_syntax.specs.declared.syntax_list.SyntaxNode.{SyntaxNode}
use Rattle.odata_syntax.specs.private.Machine.{Machine, Waiting, close_at, closed, comma_at, machine_at, operand}
use Rattle.odata_syntax.specs.private.MachineView.{AreStarts, IsStart, machine_of, stack_of, trees_outside, waiting_of}
use Rattle.odata_syntax.specs.private.ListSteps.{HasRead, read_tree, waiting_behind}
use Rattle.odata_syntax.specs.PostOrder.{Texts, last_tree, last_trees, trees_before, trees_in, trees_with}
use Rattle.odata_syntax.specs.Tree.{Tree, call, in_list, node, trees_of_list}
use Rattle.odata_syntax.specs.private.PlaceGrowth.{no_place}
use Rattle.odata_syntax.proofs.lists.Counts.{call_frame, drop_more, items_more, list_frame, some_tree}
use Rattle.odata_syntax.proofs.lists.Pushed.{machine_by, machine_with, stack_push, trees_push, wait_machine}

-- where the last frame's own operand starts
first_start : (frames rest : List Frame) (frame : Frame) (trees : List Tree) → frames ≡ rest ++ frame ∷ [] → AreStarts (reverse frames) trees → IsStart frame trees
first_start frames rest frame trees is starts =
    let turned : reverse frames ≡ frame ∷ reverse rest = ap (λ (fs : List Frame). reverse fs) is ∙ reverse-append rest (frame ∷ []) in
    (subst (λ (fs : List Frame). AreStarts fs trees) turned starts).0

-- A comma.

pub comma_step : (texts : Texts) (old new : State) (rest : List Frame) (frame next : Frame)
    → old.frames.items ≡ rest ++ frame ∷ [] → HasRead old.frames.items old.nodes.items
    → new.nodes ≡ old.nodes → new.stage ≡ Stage.Operand → new.frames.items ≡ rest ++ next ∷ []
    → ((all : List Tree) → 0 < length all → comma_at (waiting_of texts frame (trees_before all) ∷ stack_of texts rest (trees_outside frame (trees_before all))) (last_tree all)
    ≡ Some (machine_at (waiting_of texts next all ∷ stack_of texts rest (trees_outside next all)) operand))
    → comma_at (waiting_behind texts old) (read_tree texts old) ≡ Some (machine_of texts new)
comma_step texts old new rest frame next is has nodes at waits comma =
    let trees = trees_in texts old.nodes.items in
    ap (λ (fs : List Frame). comma_at (stack_of texts fs (trees_before trees)) (last_tree trees)) is
    ∙ ap (λ (ws : List Waiting). comma_at ws (last_tree trees)) (stack_push texts rest frame (trees_before trees))
    ∙ comma trees (some_tree texts old.nodes.items _ has.whole)
    ∙ sym (ap (λ (m : Machine). Some m) (wait_machine texts rest old new next nodes at waits))

-- A closing parenthesis.

pub close_step : (texts : Texts) (old new : State) (rest : List Frame) (frame : Frame) (n : SyntaxNode) (stop : ℕ)
    → old.frames.items ≡ rest ++ frame ∷ [] → HasRead old.frames.items old.nodes.items
    → new.frames.items ≡ rest → new.stage ≡ Stage.Closed → new.nodes.items ≡ old.nodes.items ++ n ∷ []
    → ((all : List Tree) → 0 < length all → IsStart frame (trees_before all) → close_at (waiting_of texts frame (trees_before all) ∷ stack_of texts rest (trees_outside frame (trees_before all))) (last_tree all) stop
    ≡ Some (machine_at (stack_of texts rest (trees_before (trees_with texts n all))) (closed (last_tree (trees_with texts n all)))))
    → close_at (waiting_behind texts old) (read_tree texts old) stop ≡ Some (machine_of texts new)
close_step texts old new rest frame n stop is has frames at nodes close =
    let trees = trees_in texts old.nodes.items in
    ap (λ (fs : List Frame). close_at (stack_of texts fs (trees_before trees)) (last_tree trees) stop) is
    ∙ ap (λ (ws : List Waiting). close_at ws (last_tree trees) stop) (stack_push texts rest frame (trees_before trees))
    ∙ close trees (some_tree texts old.nodes.items _ has.whole) (first_start old.frames.items rest frame (trees_before trees) is (has.starts texts))
    ∙ sym (ap (λ (m : Machine). Some m)
    (ap (λ (fs : List Frame). machine_by texts fs new.stage new.nodes.items) frames
    ∙ ap (λ (s : Stage). machine_by texts rest s new.nodes.items) at
    ∙ ap (λ (ns : List SyntaxNode). machine_by texts rest Stage.Closed ns) nodes
    ∙ ap (λ (ts : List Tree). machine_with texts rest Stage.Closed ts) (trees_push texts old.nodes.items n)))

pub list_close : (texts : Texts) (rest : List Frame) (start stop count : ℕ) (text : Span) (all : List Tree) → 0 < length all → IsStart (list_frame start count) (trees_before all)
    → close_at (waiting_of texts (list_frame start count) (trees_before all) ∷ stack_of texts rest (trees_outside (list_frame start count) (trees_before all))) (last_tree all) stop
    ≡ Some (machine_at (stack_of texts rest (trees_before (trees_with texts (record { kind = SyntaxKind.InList; span = record { start = start; stop = stop }; text = text; count = count + 1; place = no_place }) all)))
    (closed (last_tree (trees_with texts (record { kind = SyntaxKind.InList; span = record { start = start; stop = stop }; text = text; count = count + 1; place = no_place }) all))))
list_close texts rest start stop count text all some starts =
    ap (λ (s : ℕ). Some (machine_at (stack_of texts rest (trees_before (drop count (trees_before all)))) (closed (node s stop (in_list (last_tree (drop count (trees_before all))) (trees_of_list (last_trees count (trees_before all) ++ last_tree all ∷ []))))))) (sym starts)
    ∙ ap (λ (xs : List Tree). Some (machine_at (stack_of texts rest (trees_before (drop count (trees_before all)))) (closed (node start stop (in_list (last_tree (drop count (trees_before all))) (trees_of_list xs)))))) (sym (items_more count all some))
    ∙ ap (λ (ys : List Tree). Some (machine_at (stack_of texts rest (trees_before ys)) (closed (node start stop (in_list (last_tree ys) (trees_of_list (last_trees (count + 1) all))))))) (sym (drop_more count all some))

pub call_close : (texts : Texts) (rest : List Frame) (start stop count : ℕ) (name : Span) (all : List Tree) → 0 < length all → IsStart (call_frame start name count) (trees_before all)
    → close_at (waiting_of texts (call_frame start name count) (trees_before all) ∷ stack_of texts rest (trees_outside (call_frame start name count) (trees_before all))) (last_tree all) stop
    ≡ Some (machine_at (stack_of texts rest (trees_before (trees_with texts (record { kind = SyntaxKind.Call; span = record { start = start; stop = stop }; text = name; count = count + 1; place = no_place }) all)))
    (closed (last_tree (trees_with texts (record { kind = SyntaxKind.Call; span = record { start = start; stop = stop }; text = name; count = count + 1; place = no_place }) all))))
call_close texts rest start stop count name all some starts =
    ap (λ (xs : List Tree). Some (machine_at (stack_of texts rest (drop count (trees_before all))) (closed (node start stop (call (str_to_ascii_lowercase (texts name)) (trees_of_list xs)))))) (sym (items_more count all some))
    ∙ ap (λ (ys : List Tree). Some (machine_at (stack_of texts rest ys) (closed (node start stop (call (str_to_ascii_lowercase (texts name)) (trees_of_list (last_trees (count + 1) all))))))) (sym (drop_more count all some))
