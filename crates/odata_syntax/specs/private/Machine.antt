-- The parser's steps, on lists. For private clauses: no public one cites it.
use Rattle.std.specs.Prelude.{ℕ, suc, ◌<◌, List, [], ◌∷◌, ◌++◌, if◌then◌else◌, nat_le, ◌==◌, ◌||◌, codes, Option, Some, None, option_and_then}
use Rattle.std.specs.List.{list_any}
use Rattle.std.specs.Str.{str_eq_ignore_ascii_case, str_to_ascii_lowercase}
use Rattle.odata_syntax.specs.declared.binary_operator.BinaryOperator.{BinaryOperator}
use Rattle.odata_syntax.specs.declared.binary_operator.LogicalOperator.{LogicalOperator}
use Rattle.odata_syntax.specs.declared.binary_operator.ComparisonOperator.{ComparisonOperator}
use Rattle.odata_syntax.specs.declared.binary_operator.ArithmeticOperator.{ArithmeticOperator}
use Rattle.odata_syntax.specs.declared.node.LiteralKind.{LiteralKind}
use Rattle.odata_syntax.specs.declared.node.Quantifier.{Quantifier}
use Rattle.odata_text.specs.declared.token.TokenKind.{TokenKind}
use Rattle.odata_syntax.specs.declared.parser.operand.Start.{Start}
use Rattle.odata_syntax.specs.declared.parser.next_operator.Next.{Next}
use Rattle.odata_syntax.specs.declared.parser.path.Segment.{Segment}
use Rattle.odata_text.specs.TokenModel.{TokenModel}
use Rattle.odata_syntax.specs.Tree.{Tree, any_item, call, count, in_list, it, lambda, literal, logical_not, member, name, negation, node, shape_of, start_of, stop_of, trees_of_list}
use Rattle.odata_syntax.specs.Grammar.{Level, or_level, unary_level, primary_level, base_level, path_level, operator_level, binary_tree, has_tree, in_path_tree, token_tree, tree_to}

-- What waits.

-- an operation that waits for its last operand: an operator, `has` or `in` with the operand before it, or a sign by its
-- offset
pub data Operation : Type 0 where
  binary_behind : BinaryOperator → Tree → Operation
  has_behind : Tree → Operation
  in_behind : Tree → Operation
  minus_from : ℕ → Operation
  not_from : ℕ → Operation

-- an open parenthesis with what stands before it: of a group, of the list of an `in` and of a call with the items so
-- far, of a lambda expression
pub data Enclosure : Type 0 where
  group_from : ℕ → Enclosure
  items_behind : Tree → List Tree → Enclosure
  arguments_from : ℕ → List ℕ → List Tree → Enclosure
  body_behind : Quantifier → Tree → List ℕ → Enclosure

pub data Waiting : Type 0 where
  operation : Operation → Waiting
  enclosure : Enclosure → Waiting

-- what may come next: an operand; an operator, an end or a closing parenthesis after a tree; the same or a `/` after
-- a path; the same or a `(` after a name (from, to and spelling); a segment after a `/`; what may come after a path
-- or a `(` after `any` or `all` (to and spelling); a variable or `)` after that `(`; a colon after the variable
pub data Expected : Type 0 where
  operand : Expected
  closed : Tree → Expected
  path : Tree → Expected
  name_or_call : ℕ → ℕ → List ℕ → Expected
  segment : Tree → Expected
  member_or_lambda : Quantifier → Tree → ℕ → List ℕ → Expected
  variable : Quantifier → Tree → Expected
  colon : Quantifier → Tree → List ℕ → Expected

-- the machine between two tokens, the innermost waiting first
pub record Machine : Type 0 where
  pub waiting : List Waiting
  pub expected : Expected

abbrev pub machine_at : List Waiting → Expected → Machine
machine_at waiting expected = record { waiting = waiting; expected = expected }

-- What tokens say.

-- the word that begins an operand
unfoldable pub word_start : List ℕ → Start
word_start text =
    if str_eq_ignore_ascii_case text (codes "true") || str_eq_ignore_ascii_case text (codes "false")
    then Start.Lit LiteralKind.Bool
    else if str_eq_ignore_ascii_case text (codes "null") then Start.Lit LiteralKind.Null
    else if str_eq_ignore_ascii_case text (codes "not") then Start.Not
    else Start.Name

unfoldable pub dollar_start : List ℕ → Option Start
dollar_start text = if str_eq_ignore_ascii_case text (codes "$it") then Some Start.It else None

abbrev pub start_of_kind : TokenKind → List ℕ → Option Start
start_of_kind TokenKind.Word text = Some (word_start text)
start_of_kind TokenKind.Dollar text = dollar_start text
start_of_kind TokenKind.Int text = Some (Start.Lit LiteralKind.Int)
start_of_kind TokenKind.Date text = Some (Start.Lit LiteralKind.Date)
start_of_kind TokenKind.Moment text = Some (Start.Lit LiteralKind.Moment)
start_of_kind TokenKind.Guid text = Some (Start.Lit LiteralKind.Guid)
start_of_kind TokenKind.Str text = Some (Start.Lit LiteralKind.Str)
start_of_kind TokenKind.EnumLit text = Some (Start.Lit LiteralKind.EnumLit)
start_of_kind TokenKind.Open text = Some Start.Open
start_of_kind TokenKind.Close text = Some Start.Close
start_of_kind TokenKind.Minus text = Some Start.Minus
start_of_kind TokenKind.Comma text = None
start_of_kind TokenKind.Slash text = None
start_of_kind TokenKind.Colon text = None

-- the word that stands after an operand
unfoldable pub word_next : List ℕ → Option Next
word_next text =
    if str_eq_ignore_ascii_case text (codes "or") then Some (Next.Operator (BinaryOperator.Logical LogicalOperator.Or))
    else if str_eq_ignore_ascii_case text (codes "and") then Some (Next.Operator (BinaryOperator.Logical LogicalOperator.And))
    else if str_eq_ignore_ascii_case text (codes "eq") then Some (Next.Operator (BinaryOperator.Comparison ComparisonOperator.Eq))
    else if str_eq_ignore_ascii_case text (codes "ne") then Some (Next.Operator (BinaryOperator.Comparison ComparisonOperator.Ne))
    else if str_eq_ignore_ascii_case text (codes "gt") then Some (Next.Operator (BinaryOperator.Comparison ComparisonOperator.Gt))
    else if str_eq_ignore_ascii_case text (codes "ge") then Some (Next.Operator (BinaryOperator.Comparison ComparisonOperator.Ge))
    else if str_eq_ignore_ascii_case text (codes "lt") then Some (Next.Operator (BinaryOperator.Comparison ComparisonOperator.Lt))
    else if str_eq_ignore_ascii_case text (codes "le") then Some (Next.Operator (BinaryOperator.Comparison ComparisonOperator.Le))
    else if str_eq_ignore_ascii_case text (codes "add") then Some (Next.Operator (BinaryOperator.Arithmetic ArithmeticOperator.Add))
    else if str_eq_ignore_ascii_case text (codes "sub") then Some (Next.Operator (BinaryOperator.Arithmetic ArithmeticOperator.Sub))
    else if str_eq_ignore_ascii_case text (codes "mul") then Some (Next.Operator (BinaryOperator.Arithmetic ArithmeticOperator.Mul))
    else if str_eq_ignore_ascii_case text (codes "div") then Some (Next.Operator (BinaryOperator.Arithmetic ArithmeticOperator.Div))
    else if str_eq_ignore_ascii_case text (codes "mod") then Some (Next.Operator (BinaryOperator.Arithmetic ArithmeticOperator.Mod))
    else if str_eq_ignore_ascii_case text (codes "has") then Some Next.Has
    else if str_eq_ignore_ascii_case text (codes "in") then Some Next.In
    else None

abbrev pub next_of_kind : TokenKind → List ℕ → Option Next
next_of_kind TokenKind.Word text = word_next text
next_of_kind TokenKind.Close text = Some Next.Close
next_of_kind TokenKind.Comma text = Some Next.Comma
next_of_kind _ text = None

-- the segment of a path that stands after a `/`
unfoldable pub word_segment : List ℕ → Segment
word_segment text =
    if str_eq_ignore_ascii_case text (codes "any") then Segment.Lambda Quantifier.Any
    else if str_eq_ignore_ascii_case text (codes "all") then Segment.Lambda Quantifier.All
    else Segment.Name

unfoldable pub dollar_segment : List ℕ → Option Segment
dollar_segment text = if str_eq_ignore_ascii_case text (codes "$count") then Some Segment.Count else None

abbrev pub segment_of_kind : TokenKind → List ℕ → Option Segment
segment_of_kind TokenKind.Word text = Some (word_segment text)
segment_of_kind TokenKind.Dollar text = dollar_segment text
segment_of_kind _ text = None

-- Levels, and what is joined.

-- how tightly an operation holds the operand before it
abbrev pub operation_level : Operation → Level
operation_level (binary_behind operator left) = operator_level operator
operation_level (has_behind left) = primary_level
operation_level (in_behind left) = primary_level
operation_level (minus_from start) = unary_level
operation_level (not_from start) = unary_level

-- the level of the operand that it waits for
abbrev pub operand_level : Operation → Level
operand_level (binary_behind operator left) = suc (operator_level operator)
operand_level (has_behind left) = base_level
operand_level (in_behind left) = path_level
operand_level (minus_from start) = unary_level
operand_level (not_from start) = unary_level

-- the level of the operand that is expected
abbrev pub expected_level : List Waiting → Level
expected_level [] = or_level
expected_level (operation w ∷ below) = operand_level w
expected_level (enclosure e ∷ below) = or_level

-- an operation with the operand that it has waited for
abbrev pub join_operation : Operation → Tree → Tree
join_operation (binary_behind operator left) right = binary_tree operator left right
join_operation (has_behind left) right = has_tree left right
join_operation (in_behind left) right = in_path_tree left right
join_operation (minus_from start) right = node start (stop_of right) (negation right)
join_operation (not_from start) right = node start (stop_of right) (logical_not right)

-- what waits still, and the operand that has grown
pub record Reduction : Type 0 where
  pub waiting : List Waiting
  pub tree : Tree

abbrev pub reduction_at : List Waiting → Tree → Reduction
reduction_at waiting tree = record { waiting = waiting; tree = tree }

-- an operator of this level joins nothing that waits
abbrev pub IsHeld : Level → List Waiting → Type 0
IsHeld level [] = Unit {0}
IsHeld level (operation w ∷ below) = operation_level w < level
IsHeld level (enclosure e ∷ below) = Unit {0}

-- the operand before an operator of this level: what waits and binds as tightly is joined
abbrev pub reduce : Level → List Waiting → Tree → Reduction
reduce level [] tree = reduction_at [] tree
reduce level (operation w ∷ below) tree =
    if nat_le level (operation_level w) then reduce level below (join_operation w tree)
    else reduction_at (operation w ∷ below) tree
reduce level (enclosure e ∷ below) tree = reduction_at (enclosure e ∷ below) tree

-- Where an operand is expected.

-- the tree that ends with the `)` of a list or a call that holds nothing
abbrev pub empty_tree : Enclosure → ℕ → Option Tree
empty_tree (items_behind left []) stop = Some (node (start_of left) stop (in_list left (trees_of_list [])))
empty_tree (arguments_from start text []) stop = Some (node start stop (call text (trees_of_list [])))
empty_tree _ stop = None

abbrev pub closed_with : List Waiting → Option Tree → Option Machine
closed_with waiting None = None
closed_with waiting (Some tree) = Some (machine_at waiting (closed tree))

abbrev pub close_empty : List Waiting → ℕ → Option Machine
close_empty (enclosure e ∷ below) stop = closed_with below (empty_tree e stop)
close_empty _ stop = None

-- `(` opens the list of an `in`, else a group
abbrev pub open_at : List Waiting → ℕ → List Waiting
open_at (operation (in_behind left) ∷ below) start = enclosure (items_behind left []) ∷ below
open_at waiting start = enclosure (group_from start) ∷ waiting

-- after `in` stands no literal, and no name of a call; after `has` no sign
abbrev pub take_literal : List Waiting → TokenModel → LiteralKind → Option Machine
take_literal waiting p kind =
    if nat_le (expected_level waiting) base_level
    then Some (machine_at waiting (closed (token_tree p (literal kind p.text)))) else None

abbrev pub take_name : List Waiting → TokenModel → Machine
take_name waiting p =
    machine_at waiting (if nat_le (expected_level waiting) base_level then name_or_call p.start p.stop p.text
    else path (token_tree p (name p.text)))

abbrev pub take_sign : List Waiting → Operation → Option Machine
take_sign waiting w =
    if nat_le (expected_level waiting) unary_level then Some (machine_at (operation w ∷ waiting) operand) else None

abbrev pub take_start : List Waiting → TokenModel → Option Start → Option Machine
take_start waiting p None = None
take_start waiting p (Some (Start.Lit kind)) = take_literal waiting p kind
take_start waiting p (Some Start.It) = Some (machine_at waiting (path (token_tree p it)))
take_start waiting p (Some Start.Name) = Some (take_name waiting p)
take_start waiting p (Some Start.Minus) = take_sign waiting (minus_from p.start)
take_start waiting p (Some Start.Not) = take_sign waiting (not_from p.start)
take_start waiting p (Some Start.Open) = Some (machine_at (open_at waiting p.start) operand)
take_start waiting p (Some Start.Close) = close_empty waiting p.stop

-- After an operand.

-- an operation waits with what has been read
abbrev pub wait_behind : Operation → List Waiting → Machine
wait_behind w waiting = machine_at (operation w ∷ waiting) operand

-- the tree that ends with the `)` of an enclosure
abbrev pub enclosure_tree : Enclosure → Tree → ℕ → Tree
enclosure_tree (group_from start) tree stop = node start stop (shape_of tree)
enclosure_tree (items_behind left items) tree stop =
    node (start_of left) stop (in_list left (trees_of_list (items ++ (tree ∷ []))))
enclosure_tree (arguments_from start text items) tree stop =
    node start stop (call text (trees_of_list (items ++ (tree ∷ []))))
enclosure_tree (body_behind quantifier base text) tree stop =
    node (start_of base) stop (lambda quantifier base text tree)

abbrev pub close_at : List Waiting → Tree → ℕ → Option Machine
close_at (enclosure e ∷ below) tree stop = Some (machine_at below (closed (enclosure_tree e tree stop)))
close_at _ tree stop = None

-- a comma after an item of a list or a call
abbrev pub comma_at : List Waiting → Tree → Option Machine
comma_at (enclosure (items_behind left items) ∷ below) tree =
    Some (machine_at (enclosure (items_behind left (items ++ (tree ∷ []))) ∷ below) operand)
comma_at (enclosure (arguments_from start text items) ∷ below) tree =
    Some (machine_at (enclosure (arguments_from start text (items ++ (tree ∷ []))) ∷ below) operand)
comma_at _ tree = None

abbrev pub take_reduced : Next → Reduction → ℕ → Option Machine
take_reduced (Next.Operator operator) r stop = Some (wait_behind (binary_behind operator r.tree) r.waiting)
take_reduced Next.Has r stop = Some (wait_behind (has_behind r.tree) r.waiting)
take_reduced Next.In r stop = Some (wait_behind (in_behind r.tree) r.waiting)
take_reduced Next.Close r stop = close_at r.waiting r.tree stop
take_reduced Next.Comma r stop = comma_at r.waiting r.tree

-- how tightly what stands after an operand binds
abbrev pub next_level : Next → Level
next_level (Next.Operator operator) = operator_level operator
next_level Next.Has = primary_level
next_level Next.In = primary_level
next_level Next.Close = or_level
next_level Next.Comma = or_level

abbrev pub take_next : List Waiting → Tree → ℕ → Option Next → Option Machine
take_next waiting tree stop None = None
take_next waiting tree stop (Some next) = take_reduced next (reduce (next_level next) waiting tree) stop

-- after a path a `/` too
abbrev pub take_behind_path : List Waiting → Tree → TokenModel → TokenKind → Option Machine
take_behind_path waiting tree p TokenKind.Slash = Some (machine_at waiting (segment tree))
take_behind_path waiting tree p kind = take_next waiting tree p.stop (next_of_kind kind p.text)

-- after the name of a path's start a `(` too, and after `any` and `all`
abbrev pub take_behind_name : List Waiting → ℕ → ℕ → List ℕ → TokenModel → TokenKind → Option Machine
take_behind_name waiting start stop text p TokenKind.Open =
    Some (machine_at (enclosure (arguments_from start (str_to_ascii_lowercase text) []) ∷ waiting) operand)
take_behind_name waiting start stop text p kind =
    take_behind_path waiting (node start stop (name text)) p kind

abbrev pub take_behind_word : List Waiting → Quantifier → Tree → ℕ → List ℕ → TokenModel → TokenKind → Option Machine
take_behind_word waiting quantifier base stop text p TokenKind.Open =
    Some (machine_at waiting (variable quantifier base))
take_behind_word waiting quantifier base stop text p kind =
    take_behind_path waiting (node (start_of base) stop (member base text)) p kind

-- Within a path.

abbrev pub take_segment : List Waiting → Tree → TokenModel → Option Segment → Option Machine
take_segment waiting base p None = None
take_segment waiting base p (Some Segment.Count) = Some (machine_at waiting (closed (tree_to base p (count base))))
take_segment waiting base p (Some (Segment.Lambda quantifier)) =
    Some (machine_at waiting (member_or_lambda quantifier base p.stop p.text))
take_segment waiting base p (Some Segment.Name) =
    Some (machine_at waiting (path (tree_to base p (member base p.text))))

-- `)` after the `(` of `any`, not of `all`
abbrev pub take_no_variable : List Waiting → Quantifier → Tree → ℕ → Option Machine
take_no_variable waiting Quantifier.Any base stop =
    Some (machine_at waiting (closed (node (start_of base) stop (any_item base))))
take_no_variable waiting Quantifier.All base stop = None

-- a dot (46) is in no variable
abbrev pub take_variable : List Waiting → Quantifier → Tree → TokenModel → TokenKind → Option Machine
take_variable waiting quantifier base p TokenKind.Close = take_no_variable waiting quantifier base p.stop
take_variable waiting quantifier base p TokenKind.Word =
    if list_any (λ b. b == 46) p.text then None else Some (machine_at waiting (colon quantifier base p.text))
take_variable waiting quantifier base p _ = None

abbrev pub take_colon : List Waiting → Quantifier → Tree → List ℕ → TokenKind → Option Machine
take_colon waiting quantifier base text TokenKind.Colon =
    Some (machine_at (enclosure (body_behind quantifier base text) ∷ waiting) operand)
take_colon waiting quantifier base text _ = None

-- The machine.

abbrev pub step_at : Expected → List Waiting → TokenModel → Option Machine
step_at operand waiting p = take_start waiting p (start_of_kind p.kind p.text)
step_at (closed tree) waiting p = take_next waiting tree p.stop (next_of_kind p.kind p.text)
step_at (path tree) waiting p = take_behind_path waiting tree p p.kind
step_at (name_or_call start stop text) waiting p = take_behind_name waiting start stop text p p.kind
step_at (segment base) waiting p = take_segment waiting base p (segment_of_kind p.kind p.text)
step_at (member_or_lambda quantifier base stop text) waiting p =
    take_behind_word waiting quantifier base stop text p p.kind
step_at (variable quantifier base) waiting p = take_variable waiting quantifier base p p.kind
step_at (colon quantifier base text) waiting p = take_colon waiting quantifier base text p.kind

-- one more token
abbrev pub step : Machine → TokenModel → Option Machine
step m p = step_at m.expected m.waiting p

-- the machine after these tokens
abbrev pub run : List TokenModel → Machine → Option Machine
run [] m = Some m
run (p ∷ ps) m = option_and_then (λ n. run ps n) (step m p)

-- before the first token
abbrev pub start : Machine
start = machine_at [] operand

-- after the last token nothing may be open
abbrev pub whole_at : List Waiting → Tree → Option Tree
whole_at [] tree = Some tree
whole_at _ tree = None

abbrev pub finish_reduced : Reduction → Option Tree
finish_reduced r = whole_at r.waiting r.tree

abbrev pub finish_at : Expected → List Waiting → Option Tree
finish_at (closed tree) waiting = finish_reduced (reduce or_level waiting tree)
finish_at (path tree) waiting = finish_reduced (reduce or_level waiting tree)
finish_at (name_or_call start stop text) waiting =
    finish_reduced (reduce or_level waiting (node start stop (name text)))
finish_at (member_or_lambda quantifier base stop text) waiting =
    finish_reduced (reduce or_level waiting (node (start_of base) stop (member base text)))
finish_at _ waiting = None

abbrev pub finish : Machine → Option Tree
finish m = finish_at m.expected m.waiting
