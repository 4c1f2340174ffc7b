-- The operand that grows, over the list.
use Rattle.std.proofs.Common.{◌≡◌, ap, sym, ◌∙◌, ◌≤◌, List, [], ◌∷◌, ◌++◌, Option, None, Some, IfNone}
use Rattle.std.proofs.lemmas.Option.{none-some}
use Rattle.odata_syntax.specs.declared.parser.state.Frame.{Frame}
use Rattle.odata_syntax.specs.declared.parser.state.Pending.{Pending}
use Rattle.odata_syntax.specs.declared.parser.state.State.{State}
use Rattle.odata_syntax.specs.Grammar.{Level}
use Rattle.odata_syntax.specs.PostOrder.{Texts, last_tree, trees_before, trees_in}
use Rattle.odata_syntax.specs.Tree.{Tree}
use Rattle.odata_syntax.specs.private.Machine.{IsHeld, Waiting, join_operation, operation_level, reduce, reduction_at}
use Rattle.odata_syntax.specs.private.MachineView.{operation_of, stack_of, trees_outside}
use Rattle.odata_syntax.specs.private.ListSteps.{HasRead, read_tree, reduction_of, waiting_behind}
use Rattle.odata_syntax.proofs.lists.Pushed.{stack_push}
use Rattle.odata_syntax.proofs.machine.Reading.{reduce-held, reduce-joined}

-- an operation that is closed is joined with what has been read
pub join_reduced :
    (texts : Texts) (level : Level) (before popped joined : State) (pending : Pending)
    → before.frames.items ≡ popped.frames.items ++ Frame.Pending pending ∷ []
    → popped.nodes ≡ before.nodes
    → level ≤ operation_level (operation_of pending (trees_before (trees_in texts before.nodes.items)))
    → read_tree texts joined ≡ join_operation (operation_of pending (trees_before (trees_in texts popped.nodes.items))) (read_tree texts popped)
    → trees_before (trees_in texts joined.nodes.items) ≡ trees_outside (Frame.Pending pending) (trees_before (trees_in texts popped.nodes.items))
    → joined.frames ≡ popped.frames
    → reduce level (waiting_behind texts joined) (read_tree texts joined) ≡ reduce level (waiting_behind texts before) (read_tree texts before)
join_reduced texts level before popped joined pending is nodes closed read waiting frames =
    let trees = trees_in texts before.nodes.items in
    ap (λ k. reduce level (stack_of texts k.items (trees_before (trees_in texts joined.nodes.items))) (read_tree texts joined)) frames
    ∙ ap (λ (ts : List Tree). reduce level (stack_of texts popped.frames.items ts) (read_tree texts joined)) waiting
    ∙ ap (λ (t : Tree). reduce level (stack_of texts popped.frames.items (trees_outside (Frame.Pending pending) (trees_before (trees_in texts popped.nodes.items)))) t) read
    ∙ ap (λ k. reduce level (stack_of texts popped.frames.items (trees_outside (Frame.Pending pending) (trees_before (trees_in texts k.items)))) (join_operation (operation_of pending (trees_before (trees_in texts k.items))) (last_tree (trees_in texts k.items)))) nodes
    ∙ sym (ap (λ (fs : List Frame). reduce level (stack_of texts fs (trees_before trees)) (last_tree trees)) is
    ∙ ap (λ (ws : List Waiting). reduce level ws (last_tree trees)) (stack_push texts popped.frames.items (Frame.Pending pending) (trees_before trees))
    ∙ reduce-joined level (operation_of pending (trees_before trees)) (stack_of texts popped.frames.items (trees_outside (Frame.Pending pending) (trees_before trees))) (last_tree trees) closed)

-- where nothing more is closed, it has grown
pub held_reduced :
    (texts : Texts) (level : Level) (before after : State)
    → IsHeld level (waiting_behind texts before)
    → after.frames.items ≡ before.frames.items
    → after.nodes ≡ before.nodes
    → reduction_of texts after ≡ reduce level (waiting_behind texts before) (read_tree texts before)
held_reduced texts level before after held frames nodes =
    ap (λ (fs : List Frame). reduction_at (stack_of texts fs (trees_before (trees_in texts after.nodes.items))) (last_tree (trees_in texts after.nodes.items))) frames
    ∙ ap (λ k. reduction_at (stack_of texts before.frames.items (trees_before (trees_in texts k.items))) (last_tree (trees_in texts k.items))) nodes
    ∙ sym (reduce-held level (waiting_behind texts before) (read_tree texts before) held)

-- what has been read is read still where its frame is current
pub read_popped :
    (before popped : State) (pending : Pending)
    → before.frames.items ≡ popped.frames.items ++ Frame.Pending pending ∷ []
    → popped.nodes ≡ before.nodes
    → HasRead before.frames.items before.nodes.items
    → HasRead (popped.frames.items ++ Frame.Pending pending ∷ []) popped.nodes.items
read_popped before popped pending is nodes read =
    rw (← is, nodes) read

-- where nothing is closed
pub when_none : {X : Type 0} (o : Option X) (P : Type 0) → o ≡ None → IfNone o P → P
when_none None P is held = held
when_none (Some x) P is held = absurd (none-some x (sym is))
