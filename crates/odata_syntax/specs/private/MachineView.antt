-- The machine on lists that the code's machine stands for. For private clauses.
use Rattle.std.specs.Prelude.{◌≡◌, ℕ, List, [], ◌∷◌, reverse, drop, Option, None}
use Rattle.std.specs.Str.{str_to_ascii_lowercase}
use Rattle.odata_text.specs.TokenModel.{TokenModel}
use Rattle.odata_syntax.specs.declared.parser.state.Bracket.{Bracket}
use Rattle.odata_syntax.specs.declared.parser.state.Frame.{Frame}
use Rattle.odata_syntax.specs.declared.parser.state.Pending.{Pending}
use Rattle.odata_syntax.specs.declared.parser.state.Stage.{Stage}
use Rattle.odata_syntax.specs.declared.parser.state.State.{State}
use Rattle.odata_syntax.specs.private.Machine.{Operation, binary_behind, has_behind, in_behind, minus_from, not_from, Enclosure, group_from, items_behind, arguments_from, body_behind, Waiting, operation, enclosure, Expected, operand, closed, path, name_or_call, segment, member_or_lambda, variable, colon, Machine, machine_at}
use Rattle.odata_syntax.specs.PostOrder.{Texts, last_tree, last_trees, trees_before, trees_in}
use Rattle.odata_syntax.specs.Tree.{Tree, start_of}
use Rattle.odata_syntax.specs.Parse.{IsSpanOf}
use Rattle.odata_syntax.specs.declared.syntax_fault.SyntaxFault.{SyntaxFault}

-- what waits, by what the code has of it and the trees before the operand that is read
abbrev pub operation_of : Pending → List Tree → Operation
operation_of (Pending.Binary operator start) trees = binary_behind operator (last_tree trees)
operation_of (Pending.Has start) trees = has_behind (last_tree trees)
operation_of (Pending.In start) trees = in_behind (last_tree trees)
operation_of (Pending.Minus start) trees = minus_from start
operation_of (Pending.Not start) trees = not_from start

abbrev pub enclosure_of : Texts → Bracket → List Tree → Enclosure
enclosure_of texts (Bracket.Group start) trees = group_from start
enclosure_of texts (Bracket.List start items) trees =
    items_behind (last_tree (drop items trees)) (last_trees items trees)
enclosure_of texts (Bracket.Call start text items) trees =
    arguments_from start (str_to_ascii_lowercase (texts text)) (last_trees items trees)
enclosure_of texts (Bracket.Body quantifier start text) trees = body_behind quantifier (last_tree trees) (texts text)

abbrev pub waiting_of : Texts → Frame → List Tree → Waiting
waiting_of texts (Frame.Pending w) trees = operation (operation_of w trees)
waiting_of texts (Frame.Open b) trees = enclosure (enclosure_of texts b trees)

-- the trees that are none of its operands
abbrev pub trees_outside : Frame → List Tree → List Tree
trees_outside (Frame.Pending (Pending.Binary operator start)) trees = trees_before trees
trees_outside (Frame.Pending (Pending.Has start)) trees = trees_before trees
trees_outside (Frame.Pending (Pending.In start)) trees = trees_before trees
trees_outside (Frame.Pending (Pending.Minus start)) trees = trees
trees_outside (Frame.Pending (Pending.Not start)) trees = trees
trees_outside (Frame.Open (Bracket.Group start)) trees = trees
trees_outside (Frame.Open (Bracket.List start items)) trees = trees_before (drop items trees)
trees_outside (Frame.Open (Bracket.Call start text items)) trees = drop items trees
trees_outside (Frame.Open (Bracket.Body quantifier start text)) trees = trees_before trees

-- the innermost frame comes first
abbrev pub stack_in : Texts → List Frame → List Tree → List Waiting
stack_in texts [] trees = []
stack_in texts (frame ∷ outer) trees =
    waiting_of texts frame trees ∷ stack_in texts outer (trees_outside frame trees)

-- the last frame is the innermost
abbrev pub stack_of : Texts → List Frame → List Tree → List Waiting
stack_of texts frames trees = stack_in texts (reverse frames) trees

abbrev pub expected_of : Texts → Stage → List Tree → Expected
expected_of texts Stage.Operand trees = operand
expected_of texts Stage.Closed trees = closed (last_tree trees)
expected_of texts Stage.Path trees = path (last_tree trees)
expected_of texts (Stage.NameOrCall span text) trees = name_or_call span.start span.stop (texts text)
expected_of texts Stage.Segment trees = segment (last_tree trees)
expected_of texts (Stage.MemberOrLambda quantifier stop text) trees =
    member_or_lambda quantifier (last_tree trees) stop (texts text)
expected_of texts (Stage.Variable quantifier) trees = variable quantifier (last_tree trees)
expected_of texts (Stage.Colon quantifier text) trees = colon quantifier (last_tree trees) (texts text)

-- the trees but the operand that has been read
abbrev pub trees_waiting : Stage → List Tree → List Tree
trees_waiting Stage.Operand trees = trees
trees_waiting Stage.Closed trees = trees_before trees
trees_waiting Stage.Path trees = trees_before trees
trees_waiting (Stage.NameOrCall span text) trees = trees
trees_waiting Stage.Segment trees = trees_before trees
trees_waiting (Stage.MemberOrLambda quantifier stop text) trees = trees_before trees
trees_waiting (Stage.Variable quantifier) trees = trees_before trees
trees_waiting (Stage.Colon quantifier text) trees = trees_before trees

abbrev pub machine_of : Texts → State → Machine
machine_of texts s =
    machine_at (stack_of texts s.frames.items (trees_waiting s.stage (trees_in texts s.nodes.items)))
    (expected_of texts s.stage (trees_in texts s.nodes.items))

-- where the operand before it starts is as the frame says
abbrev pub IsStart : Frame → List Tree → Type 0
IsStart (Frame.Pending (Pending.Binary operator start)) trees = start ≡ start_of (last_tree trees)
IsStart (Frame.Pending (Pending.Has start)) trees = start ≡ start_of (last_tree trees)
IsStart (Frame.Pending (Pending.In start)) trees = start ≡ start_of (last_tree trees)
IsStart (Frame.Pending (Pending.Minus start)) trees = Unit {0}
IsStart (Frame.Pending (Pending.Not start)) trees = Unit {0}
IsStart (Frame.Open (Bracket.Group start)) trees = Unit {0}
IsStart (Frame.Open (Bracket.List start items)) trees = start ≡ start_of (last_tree (drop items trees))
IsStart (Frame.Open (Bracket.Call start text items)) trees = Unit {0}
IsStart (Frame.Open (Bracket.Body quantifier start text)) trees = start ≡ start_of (last_tree trees)

abbrev pub AreStarts : List Frame → List Tree → Type 0
AreStarts [] trees = Unit {0}
AreStarts (frame ∷ outer) trees = IsStart frame trees × AreStarts outer (trees_outside frame trees)

-- what a refusal of a step says: it has no next machine, and the span is the token's
abbrev pub Refuses : Option Machine → TokenModel → SyntaxFault → Type 0
Refuses next p (SyntaxFault.Unexpected span) = IsSpanOf p span × (next ≡ None)
Refuses next p (SyntaxFault.TooDeep span) = ⊥
Refuses next p SyntaxFault.Memory = Unit {0}

-- what a refusal at the end of a text of this length says
abbrev pub RefusesEnd : Option Tree → ℕ → SyntaxFault → Type 0
RefusesEnd tree len (SyntaxFault.Unexpected span) = (span.start ≡ len) × (span.stop ≡ len) × (tree ≡ None)
RefusesEnd tree len (SyntaxFault.TooDeep span) = ⊥
RefusesEnd tree len SyntaxFault.Memory = Unit {0}
