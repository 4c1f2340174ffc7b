-- What the parser's steps make of its state. For private clauses.
use Rattle.std.specs.Prelude.{◌≡◌, ℕ, ◌+◌, List, [], ◌∷◌, reverse, Option, None, Some}
use Rattle.odata_syntax.specs.declared.parser.state.Bracket.{Bracket}
use Rattle.odata_syntax.specs.declared.parser.state.Frame.{Frame}
use Rattle.odata_syntax.specs.declared.parser.state.Pending.{Pending}
use Rattle.odata_syntax.specs.declared.parser.state.Stage.{Stage}
use Rattle.odata_syntax.specs.declared.parser.state.State.{State}
use Rattle.odata_syntax.specs.declared.parser.state.Step.{Step}
use Rattle.odata_syntax.specs.declared.syntax_list.SyntaxNode.{SyntaxNode}
use Rattle.odata_syntax.specs.private.Machine.{Machine, Reduction, Waiting}
use Rattle.odata_syntax.specs.private.MachineView.{AreStarts, stack_of}
use Rattle.odata_syntax.specs.PostOrder.{AreFed, Texts, last_tree, tree_count, trees_before, trees_in}
use Rattle.odata_syntax.specs.Tree.{Tree}

-- P, where the token was taken
abbrev pub IfTaken : Step → Type 0 → Type 0
IfTaken Step.Taken P = P
IfTaken Step.Refused P = Unit {0}
IfTaken Step.OutOfMemory P = Unit {0}

-- it may only have been taken, or memory was short
abbrev pub IsNotRefused : Step → Type 0
IsNotRefused Step.Taken = Unit {0}
IsNotRefused Step.Refused = ⊥
IsNotRefused Step.OutOfMemory = Unit {0}

-- the machine that follows, if there is one
abbrev pub IsStepTo : Step → Option Machine → Machine → Type 0
IsStepTo Step.Taken next m = next ≡ Some m
IsStepTo Step.Refused next m = next ≡ None
IsStepTo Step.OutOfMemory next m = Unit {0}

-- the same of the tree at the end
abbrev pub IsEndOf : Step → Option Tree → Tree → Type 0
IsEndOf Step.Taken end tree = end ≡ Some tree
IsEndOf Step.Refused end tree = end ≡ None
IsEndOf Step.OutOfMemory end tree = Unit {0}

-- it has no operand before it
abbrev pub IsSign : Pending → Type 0
IsSign (Pending.Binary operator start) = ⊥
IsSign (Pending.Has start) = ⊥
IsSign (Pending.In start) = ⊥
IsSign (Pending.Minus start) = Unit {0}
IsSign (Pending.Not start) = Unit {0}

-- how many trees a frame has before the operand that is read
abbrev pub operand_count : Frame → ℕ
operand_count (Frame.Pending (Pending.Binary operator start)) = 1
operand_count (Frame.Pending (Pending.Has start)) = 1
operand_count (Frame.Pending (Pending.In start)) = 1
operand_count (Frame.Pending (Pending.Minus start)) = 0
operand_count (Frame.Pending (Pending.Not start)) = 0
operand_count (Frame.Open (Bracket.Group start)) = 0
operand_count (Frame.Open (Bracket.List start items)) = items + 1
operand_count (Frame.Open (Bracket.Call start text items)) = items
operand_count (Frame.Open (Bracket.Body quantifier start text)) = 1

abbrev pub operands_count : List Frame → ℕ
operands_count [] = 0
operands_count (frame ∷ frames) = operand_count frame + operands_count frames

-- an operand is expected: each node has its children, each tree so far belongs to a frame, and each frame says where
-- its own operand starts
pub record IsExpecting (frames : List Frame) (nodes : List SyntaxNode) : Type 0 where
  pub fed : AreFed nodes
  pub whole : operands_count (reverse frames) ≡ tree_count nodes
  pub starts : (texts : Texts) → AreStarts (reverse frames) (trees_in texts nodes)

-- an operand has been read: the same, but for the last tree, which is that one
pub record HasRead (frames : List Frame) (nodes : List SyntaxNode) : Type 0 where
  pub fed : AreFed nodes
  pub whole : operands_count (reverse frames) + 1 ≡ tree_count nodes
  pub starts : (texts : Texts) → AreStarts (reverse frames) (trees_before (trees_in texts nodes))

-- the state between two tokens
abbrev pub IsSteady : Stage → List Frame → List SyntaxNode → Type 0
IsSteady Stage.Operand frames nodes = IsExpecting frames nodes
IsSteady Stage.Closed frames nodes = HasRead frames nodes
IsSteady Stage.Path frames nodes = HasRead frames nodes
IsSteady (Stage.NameOrCall span text) frames nodes = IsExpecting frames nodes
IsSteady Stage.Segment frames nodes = HasRead frames nodes
IsSteady (Stage.MemberOrLambda quantifier stop text) frames nodes = HasRead frames nodes
IsSteady (Stage.Variable quantifier) frames nodes = HasRead frames nodes
IsSteady (Stage.Colon quantifier text) frames nodes = HasRead frames nodes

abbrev pub IsSteadyState : State → Type 0
IsSteadyState s = IsSteady s.stage s.frames.items s.nodes.items

-- what waits where an operand is expected, and where one has been read
abbrev pub waiting_now : Texts → State → List Waiting
waiting_now texts s = stack_of texts s.frames.items (trees_in texts s.nodes.items)

abbrev pub waiting_behind : Texts → State → List Waiting
waiting_behind texts s = stack_of texts s.frames.items (trees_before (trees_in texts s.nodes.items))

-- the operand that has been read
abbrev pub read_tree : Texts → State → Tree
read_tree texts s = last_tree (trees_in texts s.nodes.items)

-- what waits still, and the operand that has grown
abbrev pub reduction_of : Texts → State → Reduction
reduction_of texts s = record { waiting = waiting_behind texts s; tree = read_tree texts s }
