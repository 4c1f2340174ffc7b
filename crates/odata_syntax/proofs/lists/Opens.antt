-- An opening parenthesis where an operand is expected.
use Rattle.std.proofs.Common.{◌≡◌, refl, ap, sym, subst, ◌∙◌, ℕ, ◌+◌, ◌-◌, List, [], ◌∷◌, ◌++◌, reverse, length, slice_get, None, arith}
use Rattle.std.proofs.lemmas.Option.{none-some}
use Rattle.odata_syntax.specs.declared.parser.state.Bracket.{Bracket}
use Rattle.odata_syntax.specs.declared.parser.state.Frame.{Frame}
use Rattle.odata_syntax.specs.declared.parser.state.Pending.{Pending}
use Rattle.odata_syntax.specs.declared.parser.state.Stage.{Stage}
use Rattle.odata_syntax.specs.declared.parser.state.State.{State}
use Rattle.odata_syntax.specs.declared.syntax_list.SyntaxNode.{SyntaxNode}
use Rattle.odata_syntax.specs.private.Machine.{Waiting, enclosure, group_from, machine_at, open_at, operand}
use Rattle.odata_syntax.specs.private.MachineView.{AreStarts, IsStart, machine_of, stack_in, stack_of}
use Rattle.odata_syntax.specs.private.ListSteps.{IsExpecting, IsSteady, IsSteadyState, operands_count, waiting_now}
use Rattle.odata_syntax.specs.PostOrder.{Texts, tree_count, trees_before, trees_in}
use Rattle.odata_syntax.specs.Tree.{Tree}
use Rattle.odata_syntax.proofs.lists.Last.{head_of, last_head}
use Rattle.odata_syntax.proofs.lists.Pushed.{operands_push, stack_push, starts_push, wait_expecting, wait_machine}

abbrev pub in_frame : ℕ → Frame
in_frame start = Frame.Pending (Pending.In start)

abbrev pub empty_list : ℕ → Frame
empty_list start = Frame.Open (Bracket.List start 0)

abbrev pub group_frame : ℕ → Frame
group_frame start = Frame.Open (Bracket.Group start)

-- the list of an `in` holds the operand before it, as the `in` did
pub list_expecting : (front : List Frame) (nodes : List SyntaxNode) (start : ℕ) → IsExpecting (front ++ in_frame start ∷ []) nodes → IsExpecting (front ++ empty_list start ∷ []) nodes
list_expecting front nodes start expecting =
    let whole : 1 + operands_count (reverse front) ≡ tree_count nodes = rw operands_push at expecting.whole in
    record {
      fed = expecting.fed;
      whole = rw operands_push whole;
      starts = λ texts.
          let own : IsStart (in_frame start) (trees_in texts nodes) × AreStarts (reverse front) (trees_before (trees_in texts nodes)) = rw starts_push at (expecting.starts texts) in
          rw starts_push own;
    }

-- the machine that has opened it
pub list_opened :
    (texts : Texts) (old new : State) (front : List Frame) (start at : ℕ)
    → old.frames.items ≡ front ++ in_frame start ∷ []
    → new.nodes ≡ old.nodes
    → new.stage ≡ Stage.Operand
    → new.frames.items ≡ front ++ empty_list start ∷ []
    → machine_of texts new ≡ machine_at (open_at (waiting_now texts old) at) operand
list_opened texts old new front start at is nodes stage waits =
    let trees = trees_in texts old.nodes.items in
    wait_machine texts front old new (empty_list start) nodes stage waits
    ∙ sym (ap (λ (fs : List Frame). machine_at (open_at (stack_of texts fs trees) at) operand) is
    ∙ ap (λ (ws : List Waiting). machine_at (open_at ws at) operand) (stack_push texts front (in_frame start) trees))

-- a group has no operand
pub group_expecting : (frames : List Frame) (nodes : List SyntaxNode) (start : ℕ) → IsExpecting frames nodes → IsExpecting (frames ++ group_frame start ∷ []) nodes
group_expecting frames nodes start expecting =
    let whole = expecting.whole in
    wait_expecting frames (frames ++ group_frame start ∷ []) nodes (group_frame start) refl expecting.fed (omega arith) (λ texts. tt) (λ texts. expecting.starts texts)

pub group_opened :
    (texts : Texts) (old new : State) (start : ℕ)
    → ((trees : List Tree) → open_at (stack_of texts old.frames.items trees) start ≡ enclosure (group_from start) ∷ stack_of texts old.frames.items trees)
    → new.nodes ≡ old.nodes
    → new.stage ≡ Stage.Operand
    → new.frames.items ≡ old.frames.items ++ group_frame start ∷ []
    → machine_of texts new ≡ machine_at (open_at (waiting_now texts old) start) operand
group_opened texts old new start other nodes stage waits =
    wait_machine texts old.frames.items old new (group_frame start) nodes stage waits
    ∙ ap (λ (ws : List Waiting). machine_at ws operand) (sym (other (trees_in texts old.nodes.items)))

-- a state that expects an operand
pub operand_steady : (frames : List Frame) (nodes : List SyntaxNode) (s : State) → s.stage ≡ Stage.Operand → s.frames.items ≡ frames → s.nodes.items ≡ nodes → IsExpecting frames nodes → IsSteadyState s
operand_steady frames nodes s stage is_frames is_nodes expecting =
    let own : IsExpecting s.frames.items nodes = subst (λ (fs : List Frame). IsExpecting fs nodes) (sym is_frames) expecting in
    let whole : IsExpecting s.frames.items s.nodes.items = subst (λ (ns : List SyntaxNode). IsExpecting s.frames.items ns) (sym is_nodes) own in
    subst (λ (at : Stage). IsSteady at s.frames.items s.nodes.items) (sym stage) whole

pub list_steady :
    (old new : State) (front : List Frame) (start : ℕ)
    → old.frames.items ≡ front ++ in_frame start ∷ []
    → IsExpecting old.frames.items old.nodes.items
    → new.nodes ≡ old.nodes
    → new.stage ≡ Stage.Operand
    → new.frames.items ≡ front ++ empty_list start ∷ []
    → IsSteadyState new
list_steady old new front start is expecting nodes stage waits =
    let before : IsExpecting (front ++ in_frame start ∷ []) old.nodes.items = subst (λ (fs : List Frame). IsExpecting fs old.nodes.items) is expecting in
    operand_steady (front ++ empty_list start ∷ []) old.nodes.items new stage waits (ap (λ k. k.items) nodes) (list_expecting front old.nodes.items start before)

pub group_steady :
    (old new : State) (start : ℕ)
    → IsExpecting old.frames.items old.nodes.items
    → new.nodes ≡ old.nodes
    → new.stage ≡ Stage.Operand
    → new.frames.items ≡ old.frames.items ++ group_frame start ∷ []
    → IsSteadyState new
group_steady old new start expecting nodes stage waits =
    operand_steady (old.frames.items ++ group_frame start ∷ []) old.nodes.items new stage waits (ap (λ k. k.items) nodes) (group_expecting old.frames.items old.nodes.items start expecting)

none_group : (texts : Texts) (back : List Frame) (trees : List Tree) (start : ℕ) → head_of back ≡ None → open_at (stack_in texts back trees) start ≡ enclosure (group_from start) ∷ stack_in texts back trees
none_group texts [] trees start e = refl
none_group texts (f ∷ back) trees start e = absurd (none-some f (sym e))

-- where no frame is open, a group is opened
pub opens_first : (texts : Texts) (frames : List Frame) (trees : List Tree) (start : ℕ) → slice_get frames (length frames - 1) ≡ None → open_at (stack_of texts frames trees) start ≡ enclosure (group_from start) ∷ stack_of texts frames trees
opens_first texts frames trees start at = none_group texts (reverse frames) trees start (sym (last_head frames) ∙ at)
