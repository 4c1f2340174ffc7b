-- What the machine has read of an operand, and how it goes on.
use Rattle.std.proofs.Common.{◌≡◌, ◌≢◌, refl, ap, ℕ, ◌≤◌, ◌<◌, Bool, true, List, [], ◌∷◌, Some, arith}
use Rattle.std.specs.Prelude.{◌&&◌, leb, ltb}
use Rattle.std.proofs.lemmas.Bool.{and_parts, le-leb, leb-true, lt-leb, ltb-true}
use Rattle.odata_syntax.specs.declared.binary_operator.BinaryOperator.{BinaryOperator}
use Rattle.odata_syntax.specs.declared.node.Quantifier.{Quantifier}
use Rattle.odata_text.specs.declared.token.TokenKind.{TokenKind}
use Rattle.odata_syntax.specs.declared.parser.next_operator.Next.{Next}
use Rattle.odata_text.specs.TokenModel.{TokenModel}
use Rattle.odata_syntax.specs.Tree.{Tree, node, member, name, start_of}
use Rattle.odata_syntax.specs.Grammar.{Level, or_level, unary_level, primary_level, operator_level}
use Rattle.odata_syntax.specs.private.Machine.{Operation, binary_behind, has_behind, in_behind, minus_from, not_from, Waiting, operation, enclosure, Expected, closed, path, name_or_call, segment, member_or_lambda, machine_at, reduction_at, next_of_kind, operation_level, operand_level, expected_level, join_operation, IsHeld, reduce, take_next, take_behind_path, take_behind_name, take_behind_word, step_at, finish_at, finish_reduced}
use Rattle.odata_syntax.proofs.machine.Operators.{operator_passes, operators}

-- an operand has been read, and nothing of it waits
pub data IsRead : Expected → Tree → Type 0 where
  closed_read : {tree : Tree} → IsRead (closed tree) tree
  path_read : {tree : Tree} → IsRead (path tree) tree
  name_read : {start stop : ℕ} {text : List ℕ} → IsRead (name_or_call start stop text) (node start stop (name text))
  word_read :
      {quantifier : Quantifier} {base : Tree} {stop : ℕ} {text : List ℕ}
      → IsRead (member_or_lambda quantifier base stop text) (node (start_of base) stop (member base text))

-- and a `/` may go on with it
pub data IsPathRead : Expected → Tree → Type 0 where
  open_path : {tree : Tree} → IsPathRead (path tree) tree
  open_name : {start stop : ℕ} {text : List ℕ} → IsPathRead (name_or_call start stop text) (node start stop (name text))
  open_word :
      {quantifier : Quantifier} {base : Tree} {stop : ℕ} {text : List ℕ}
      → IsPathRead (member_or_lambda quantifier base stop text) (node (start_of base) stop (member base text))

pub path_is_read : {e : Expected} {tree : Tree} → IsPathRead e tree → IsRead e tree
path_is_read open_path = path_read
path_is_read open_name = name_read
path_is_read open_word = word_read

-- what stands after an operand is taken after each of these
behind_path : (kind : TokenKind) (ws : List Waiting) (tree : Tree) (p : TokenModel) (next : Next) → next_of_kind kind p.text ≡ Some next → take_behind_path ws tree p kind ≡ take_next ws tree p.stop (Some next)
behind_path TokenKind.Slash ws tree p next e = absurd (cc)
behind_path kind ws tree p next e = ap (λ o. take_next ws tree p.stop o) e

behind_name : (kind : TokenKind) (ws : List Waiting) (start stop : ℕ) (text : List ℕ) (p : TokenModel) (next : Next) → next_of_kind kind p.text ≡ Some next → take_behind_name ws start stop text p kind ≡ take_next ws (node start stop (name text)) p.stop (Some next)
behind_name TokenKind.Open ws start stop text p next e = absurd (cc)
behind_name TokenKind.Slash ws start stop text p next e = absurd (cc)
behind_name kind ws start stop text p next e = ap (λ o. take_next ws (node start stop (name text)) p.stop o) e

behind_word : (kind : TokenKind) (ws : List Waiting) (quantifier : Quantifier) (base : Tree) (stop : ℕ) (text : List ℕ) (p : TokenModel) (next : Next) → next_of_kind kind p.text ≡ Some next → take_behind_word ws quantifier base stop text p kind ≡ take_next ws (node (start_of base) stop (member base text)) p.stop (Some next)
behind_word TokenKind.Open ws quantifier base stop text p next e = absurd (cc)
behind_word TokenKind.Slash ws quantifier base stop text p next e = absurd (cc)
behind_word kind ws quantifier base stop text p next e = ap (λ o. take_next ws (node (start_of base) stop (member base text)) p.stop o) e

pub read_step : {e : Expected} {tree : Tree} → IsRead e tree → (ws : List Waiting) (p : TokenModel) (next : Next) → next_of_kind p.kind p.text ≡ Some next → step_at e ws p ≡ take_next ws tree p.stop (Some next)
read_step (closed_read {tree = tree}) ws p next e = ap (λ o. take_next ws tree p.stop o) e
read_step (path_read {tree = tree}) ws p next e = behind_path p.kind ws tree p next e
read_step (name_read {start = start} {stop = stop} {text = text}) ws p next e = behind_name p.kind ws start stop text p next e
read_step (word_read {quantifier = quantifier} {base = base} {stop = stop} {text = text}) ws p next e = behind_word p.kind ws quantifier base stop text p next e

pub read_finish : {e : Expected} {tree : Tree} → IsRead e tree → (ws : List Waiting) → finish_at e ws ≡ finish_reduced (reduce or_level ws tree)
read_finish closed_read ws = refl
read_finish path_read ws = refl
read_finish name_read ws = refl
read_finish word_read ws = refl

-- a `/` after a path
pub slash_step : {e : Expected} {tree : Tree} → IsPathRead e tree → (ws : List Waiting) (p : TokenModel) → p.kind ≡ TokenKind.Slash → step_at e ws p ≡ Some (machine_at ws (segment tree))
slash_step (open_path {tree = tree}) ws p k = ap (λ o. take_behind_path ws tree p o) k
slash_step (open_name {start = start} {stop = stop} {text = text}) ws p k = ap (λ o. take_behind_name ws start stop text p o) k
slash_step (open_word {quantifier = quantifier} {base = base} {stop = stop} {text = text}) ws p k = ap (λ o. take_behind_word ws quantifier base stop text p o) k

-- Levels.

abbrev is_bound : Next → Bool
is_bound (Next.Operator operator) = leb or_level (operator_level operator) && ltb (operator_level operator) unary_level
is_bound _ = true

pub operator_level-bounds : (operator : BinaryOperator) → (or_level ≤ operator_level operator) × (operator_level operator < unary_level)
unfolding operators
operator_level-bounds operator =
    let parts = and_parts (leb or_level (operator_level operator)) (ltb (operator_level operator) unary_level) (operator_passes is_bound refl operator) in (
      leb-true or_level (operator_level operator) parts.0,
      ltb-true (operator_level operator) unary_level parts.1,
    )

pub operation_level-bounds : (w : Operation) → (or_level ≤ operation_level w) × (operation_level w ≤ primary_level)
operation_level-bounds (binary_behind operator left) = let bounds = operator_level-bounds operator in (bounds.0, omega arith)
operation_level-bounds (has_behind left) = (omega arith, omega arith)
operation_level-bounds (in_behind left) = (omega arith, omega arith)
operation_level-bounds (minus_from from) = (omega arith, omega arith)
operation_level-bounds (not_from from) = (omega arith, omega arith)

-- where an operand of a level may stand, an operator of that level that has its own form to its left joins nothing
held_operation : (level : Level) (w : Operation) → operand_level w ≤ level → level ≢ unary_level → operation_level w < level
held_operation level (binary_behind operator left) h apart = h
held_operation level (has_behind left) h apart = omega arith
held_operation level (in_behind left) h apart = omega arith
held_operation level (minus_from from) h apart = omega arith
held_operation level (not_from from) h apart = omega arith

pub held_at : (level : Level) (ws : List Waiting) → expected_level ws ≤ level → level ≢ unary_level → IsHeld level ws
held_at level [] h apart = tt
held_at level (operation w ∷ below) h apart = held_operation level w h apart
held_at level (enclosure e ∷ below) h apart = tt

-- nothing is joined
pub reduce-held : (level : Level) (ws : List Waiting) (tree : Tree) → IsHeld level ws → reduce level ws tree ≡ reduction_at ws tree
reduce-held level [] tree h = refl
reduce-held level (operation w ∷ below) tree h = rw (lt-leb level (operation_level w) h) refl
reduce-held level (enclosure e ∷ below) tree h = refl

-- the innermost is joined
pub reduce-joined : (level : Level) (w : Operation) (below : List Waiting) (tree : Tree) → level ≤ operation_level w → reduce level (operation w ∷ below) tree ≡ reduce level below (join_operation w tree)
reduce-joined level w below tree h = rw (le-leb level (operation_level w) h) refl
