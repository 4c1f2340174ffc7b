-- One more node, and one more frame.
use Rattle.std.proofs.Common.{◌≡◌, ap, ◌∙◌, ◌+◌, ◌-◌, ◌≤◌, List, [], ◌∷◌, ◌++◌, reverse, Option, Some, arith}
use Rattle.std.proofs.lemmas.List.{reverse-append}
use Rattle.odata_syntax.specs.declared.parser.state.Frame.{Frame}
use Rattle.odata_syntax.specs.declared.parser.state.Stage.{Stage}
use Rattle.odata_syntax.specs.declared.parser.state.State.{State}
use Rattle.odata_syntax.specs.declared.parser.state.Step.{Step}
use Rattle.odata_syntax.specs.declared.syntax_list.SyntaxNode.{SyntaxNode}
use Rattle.odata_syntax.specs.private.Machine.{Machine, machine_at}
use Rattle.odata_syntax.specs.private.MachineView.{AreStarts, IsStart, expected_of, machine_of, stack_in, stack_of, trees_outside, trees_waiting, waiting_of}
use Rattle.odata_syntax.specs.private.ListSteps.{HasRead, IfTaken, IsExpecting, IsNotRefused, IsStepTo, operand_count, operands_count}
use Rattle.odata_syntax.specs.PostOrder.{AreFed, AreFedBack, Texts, child_count, tree_count, tree_count_back, trees_back, trees_before, trees_in, trees_left, trees_with}
use Rattle.odata_syntax.specs.Tree.{Tree}

pub trees_push : (texts : Texts) (nodes : List SyntaxNode) (n : SyntaxNode) → trees_in texts (nodes ++ n ∷ []) ≡ trees_with texts n (trees_in texts nodes)
trees_push texts nodes n = ap (λ k. trees_back texts k) (reverse-append nodes (n ∷ []))

pub stack_push : (texts : Texts) (frames : List Frame) (frame : Frame) (trees : List Tree) → stack_of texts (frames ++ frame ∷ []) trees ≡ waiting_of texts frame trees ∷ stack_of texts frames (trees_outside frame trees)
stack_push texts frames frame trees = ap (λ k. stack_in texts k trees) (reverse-append frames (frame ∷ []))

pub count_push : (nodes : List SyntaxNode) (n : SyntaxNode) → tree_count (nodes ++ n ∷ []) ≡ tree_count nodes - child_count n.kind n.count + 1
count_push nodes n = ap (λ k. tree_count_back k) (reverse-append nodes (n ∷ []))

pub operands_push : (frames : List Frame) (frame : Frame) → operands_count (reverse (frames ++ frame ∷ [])) ≡ operand_count frame + operands_count (reverse frames)
operands_push frames frame = ap (λ k. operands_count k) (reverse-append frames (frame ∷ []))

pub fed_push : (nodes : List SyntaxNode) (n : SyntaxNode) → AreFed (nodes ++ n ∷ []) ≡ ((child_count n.kind n.count ≤ tree_count nodes) × AreFed nodes)
fed_push nodes n = ap (λ k. AreFedBack k) (reverse-append nodes (n ∷ []))

pub starts_push : (frames : List Frame) (frame : Frame) (trees : List Tree) → AreStarts (reverse (frames ++ frame ∷ [])) trees ≡ (IsStart frame trees × AreStarts (reverse frames) (trees_outside frame trees))
starts_push frames frame trees = ap (λ k. AreStarts k trees) (reverse-append frames (frame ∷ []))

-- a node after its children: an operand has been read
pub put_read :
    (frames : List Frame) (nodes new : List SyntaxNode) (n : SyntaxNode)
    → new ≡ nodes ++ n ∷ []
    → AreFed nodes
    → operands_count (reverse frames) + child_count n.kind n.count ≡ tree_count nodes
    → ((texts : Texts) → AreStarts (reverse frames) (trees_left n.kind n.count (trees_in texts nodes)))
    → HasRead frames new
put_read frames nodes new n is fed whole starts =
    rw is
    (record {
      fed = rw fed_push ((omega arith, fed));
      whole = rw count_push (omega arith);
      starts = λ texts. rw trees_push (starts texts);
    })

-- one more frame: an operand is expected
pub wait_expecting :
    (frames new : List Frame) (nodes : List SyntaxNode) (frame : Frame)
    → new ≡ frames ++ frame ∷ []
    → AreFed nodes
    → operand_count frame + operands_count (reverse frames) ≡ tree_count nodes
    → ((texts : Texts) → IsStart frame (trees_in texts nodes))
    → ((texts : Texts) → AreStarts (reverse frames) (trees_outside frame (trees_in texts nodes)))
    → IsExpecting new nodes
wait_expecting frames new nodes frame is fed whole start starts =
    rw is
    (record {
      fed = fed;
      whole = rw operands_push whole;
      starts = λ texts. rw starts_push ((start texts, starts texts));
    })

-- what is taken is the machine's own step
pub step_to : (s : Step) (P : Type 0) (next : Option Machine) (m : Machine) → IsNotRefused s → IfTaken s P → (P → next ≡ Some m) → IsStepTo s next m
step_to Step.Taken P next m not put to = to put
step_to Step.Refused P next m not put to = absurd not
step_to Step.OutOfMemory P next m not put to = tt

pub taken_to : (s : Step) (P Q : Type 0) → IfTaken s P → (P → Q) → IfTaken s Q
taken_to Step.Taken P Q put to = to put
taken_to Step.Refused P Q put to = tt
taken_to Step.OutOfMemory P Q put to = tt

-- the machine by the parts of the state
abbrev pub machine_by : Texts → List Frame → Stage → List SyntaxNode → Machine
machine_by texts frames stage nodes =
    machine_at (stack_of texts frames (trees_waiting stage (trees_in texts nodes)))
    (expected_of texts stage (trees_in texts nodes))

abbrev pub machine_with : Texts → List Frame → Stage → List Tree → Machine
machine_with texts frames stage trees =
    machine_at (stack_of texts frames (trees_waiting stage trees)) (expected_of texts stage trees)

-- the machine after a frame is put
pub wait_machine :
    (texts : Texts) (frames : List Frame) (old new : State) (frame : Frame)
    → new.nodes ≡ old.nodes
    → new.stage ≡ Stage.Operand
    → new.frames.items ≡ frames ++ frame ∷ []
    → machine_of texts new ≡ machine_at (waiting_of texts frame (trees_in texts old.nodes.items) ∷ stack_of texts frames (trees_outside frame (trees_in texts old.nodes.items))) (expected_of texts Stage.Operand [])
wait_machine texts frames old new frame nodes at waits =
    ap (λ k. machine_by texts new.frames.items new.stage k.items) nodes
    ∙ ap (λ k. machine_by texts new.frames.items k old.nodes.items) at
    ∙ ap (λ k. machine_by texts k Stage.Operand old.nodes.items) waits
    ∙ ap (λ k. machine_at k (expected_of texts Stage.Operand [])) (stack_push texts frames frame (trees_in texts old.nodes.items))

-- a node that replaces the last one, of the same kind: what has been read is read still
pub read_again :
    (frames : List Frame) (nodes front new : List SyntaxNode) (n m : SyntaxNode)
    → nodes ≡ front ++ n ∷ []
    → new ≡ front ++ m ∷ []
    → m.kind ≡ n.kind
    → m.count ≡ n.count
    → HasRead frames nodes
    → HasRead frames new
read_again frames nodes front new n m is put kind items read =
    let fed : AreFed (front ++ n ∷ []) = rw is at read.fed in
    let parts : (child_count n.kind n.count ≤ tree_count front) × AreFed front = rw fed_push at fed in
    let whole : operands_count (reverse frames) + 1 ≡ tree_count (front ++ n ∷ []) = rw is at read.whole in
    let counted : operands_count (reverse frames) + 1 ≡ tree_count front - child_count n.kind n.count + 1 = rw count_push at whole in
    let starts : (texts : Texts) → AreStarts (reverse frames) (trees_before (trees_in texts (front ++ n ∷ []))) = rw is at read.starts in
    rw put
    (record {
      fed = rw (fed_push, kind, items) parts;
      whole = rw (count_push, kind, items) counted;
      starts = λ texts.
          let own : AreStarts (reverse frames) (trees_left n.kind n.count (trees_in texts front)) = rw trees_push at (starts texts) in
          rw (trees_push, kind, items) own;
    })
