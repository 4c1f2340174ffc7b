-- From wherever the machine is, some tokens without a `(` complete an expression.
use Rattle.std.proofs.Common.{◌≡◌, refl, ap, ◌∙◌, ℕ, zero, suc, List, [], ◌∷◌, false, cond, Option, Some}
use Rattle.std.specs.Prelude.{nat_le, codes, option_and_then}
use Rattle.std.proofs.lemmas.Option.{option_and_then_some}
use Rattle.odata_syntax.specs.declared.node.Quantifier.{Quantifier}
use Rattle.odata_text.specs.declared.token.TokenKind.{TokenKind}
use Rattle.odata_syntax.specs.declared.parser.next_operator.Next.{Next}
use Rattle.odata_text.specs.TokenModel.{TokenModel}
use Rattle.odata_syntax.specs.Tree.{Tree, name, member}
use Rattle.odata_syntax.specs.Grammar.{base_level, or_level, token_tree, tree_to}
use Rattle.odata_syntax.specs.Front.{opens}
use Rattle.odata_syntax.specs.private.Machine.{Expected, Machine, Operation, Waiting, body_behind, closed, colon, enclosure, enclosure_tree, expected_level, finish, finish_reduced, join_operation, machine_at, member_or_lambda, name_or_call, operand, operation, path, run, segment, step, take_reduced, variable, word_segment, word_start}
use Rattle.odata_syntax.proofs.machine.Depth.{HasNoOpen}
use Rattle.odata_syntax.proofs.machine.Reading.{IsRead, closed_read, name_read, operation_level-bounds, path_is_read, path_read, read_finish, read_step, reduce-joined, word_read}
use Rattle.odata_syntax.proofs.machine.Complete.{name_stage}

-- the tree after these tokens
abbrev pub outcome : List TokenModel → Machine → Option Tree
outcome ts m = option_and_then (λ n. finish n) (run ts m)

outcome-cons : (p : TokenModel) (ps : List TokenModel) (m n : Machine) → step m p ≡ Some n → outcome (p ∷ ps) m ≡ outcome ps n
outcome-cons p ps m n e = ap (λ o. option_and_then (λ k. finish k) (option_and_then (λ j. run ps j) o)) e

-- some tokens that complete an expression
pub record IsViable (m : Machine) : Type 0 where
  pub more : List TokenModel
  pub tree : Tree
  pub ends : outcome more m ≡ Some tree
  pub no_open : HasNoOpen more

viable_cons : (p : TokenModel) (m n : Machine) → step m p ≡ Some n → opens p.kind ≡ false → IsViable n → IsViable m
viable_cons p m n e shut v =
    record { more = p ∷ v.more; tree = v.tree; ends = outcome-cons p v.more m n e ∙ v.ends; no_open = (shut, v.no_open) }

-- `)`, as often as parentheses are open
bracket : TokenModel
bracket = record { kind = TokenKind.Close; start = 0; stop = 0; text = [] }

brackets : ℕ → List TokenModel
brackets zero = []
brackets (suc n) = bracket ∷ brackets n

brackets_no_open : (n : ℕ) → HasNoOpen (brackets n)
unfolding brackets bracket
brackets_no_open zero = tt
brackets_no_open (suc n) = (refl, brackets_no_open n)

open_brackets : List Waiting → ℕ
open_brackets [] = 0
open_brackets (operation w ∷ below) = open_brackets below
open_brackets (enclosure e ∷ below) = suc (open_brackets below)

-- to `)` and to the end an operation is as if it had been joined
outcome-joined : (n : ℕ) (w : Operation) (below : List Waiting) (tree : Tree) → outcome (brackets n) (machine_at (operation w ∷ below) (closed tree)) ≡ outcome (brackets n) (machine_at below (closed (join_operation w tree)))
unfolding brackets bracket
outcome-joined zero w below tree =
    let bounds = operation_level-bounds w in
    ap finish_reduced (reduce-joined or_level w below tree bounds.0)
outcome-joined (suc n) w below tree =
    let bounds = operation_level-bounds w in
    ap (λ r. option_and_then (λ k. finish k) (option_and_then (λ j. run (brackets n) j) (take_reduced Next.Close r 0))) (reduce-joined or_level w below tree bounds.0)

closed_ends : (ws : List Waiting) (tree : Tree) → (root : Tree) × (outcome (brackets (open_brackets ws)) (machine_at ws (closed tree)) ≡ Some root)
unfolding open_brackets brackets bracket
closed_ends [] tree = (tree, refl)
closed_ends (operation w ∷ below) tree =
    let inner = closed_ends below (join_operation w tree) in
    (inner.0, outcome-joined (open_brackets below) w below tree ∙ inner.1)
closed_ends (enclosure e ∷ below) tree = closed_ends below (enclosure_tree e tree 0)

outcome-read : {e : Expected} {tree : Tree} → IsRead e tree → (ws : List Waiting) (n : ℕ) → outcome (brackets n) (machine_at ws e) ≡ outcome (brackets n) (machine_at ws (closed tree))
unfolding brackets bracket
outcome-read r ws zero = read_finish r ws
outcome-read r ws (suc n) = ap (λ o. option_and_then (λ k. finish k) (option_and_then (λ j. run (brackets n) j) o)) (read_step r ws bracket Next.Close refl)

read_viable : {e : Expected} {tree : Tree} → IsRead e tree → (ws : List Waiting) → IsViable (machine_at ws e)
read_viable {tree = tree} r ws =
    let closing = closed_ends ws tree in
    record {
      more = brackets (open_brackets ws);
      tree = closing.0;
      ends = outcome-read r ws (open_brackets ws) ∙ closing.1;
      no_open = brackets_no_open (open_brackets ws);
    }

-- a word, and a colon
word : TokenModel
word = record { kind = TokenKind.Word; start = 0; stop = 0; text = codes "a" }

mark : TokenModel
mark = record { kind = TokenKind.Colon; start = 0; stop = 0; text = [] }

operand_viable : (ws : List Waiting) → IsViable (machine_at ws operand)
unfolding word word_start
operand_viable ws =
    let stage : Expected = cond (nat_le (expected_level ws) base_level) (name_or_call word.start word.stop word.text) (path (token_tree word (name word.text))) in
    viable_cons word (machine_at ws operand) (machine_at ws stage) refl refl (read_viable (path_is_read (name_stage (nat_le (expected_level ws) base_level) word)) ws)

segment_viable : (base : Tree) (ws : List Waiting) → IsViable (machine_at ws (segment base))
unfolding word word_segment
segment_viable base ws =
    viable_cons word (machine_at ws (segment base)) (machine_at ws (path (tree_to base word (member base word.text)))) refl refl (read_viable path_read ws)

colon_viable : (quantifier : Quantifier) (base : Tree) (text : List ℕ) (ws : List Waiting) → IsViable (machine_at ws (colon quantifier base text))
unfolding mark
colon_viable quantifier base text ws =
    let opened : List Waiting = enclosure (body_behind quantifier base text) ∷ ws in
    viable_cons mark (machine_at ws (colon quantifier base text)) (machine_at opened operand) refl refl (operand_viable opened)

variable_viable : (quantifier : Quantifier) (base : Tree) (ws : List Waiting) → IsViable (machine_at ws (variable quantifier base))
unfolding word
variable_viable quantifier base ws =
    viable_cons word (machine_at ws (variable quantifier base)) (machine_at ws (colon quantifier base word.text)) refl refl (colon_viable quantifier base word.text ws)

viable_at : (e : Expected) (ws : List Waiting) → IsViable (machine_at ws e)
viable_at operand ws = operand_viable ws
viable_at (closed tree) ws = read_viable closed_read ws
viable_at (path tree) ws = read_viable path_read ws
viable_at (name_or_call start stop text) ws = read_viable name_read ws
viable_at (segment base) ws = segment_viable base ws
viable_at (member_or_lambda quantifier base stop text) ws = read_viable word_read ws
viable_at (variable quantifier base) ws = variable_viable quantifier base ws
viable_at (colon quantifier base text) ws = colon_viable quantifier base text ws

pub viable : (m : Machine) → IsViable m
viable m = viable_at m.expected m.waiting

-- the machine after them
pub record IsEnded (ts : List TokenModel) (m : Machine) (tree : Tree) : Type 0 where
  pub ended : Machine
  pub taken : run ts m ≡ Some ended
  pub finished : finish ended ≡ Some tree

pub outcome_ended : (ts : List TokenModel) (m : Machine) (tree : Tree) → outcome ts m ≡ Some tree → IsEnded ts m tree
outcome_ended ts m tree e =
    option_and_then_some {P = IsEnded ts m tree} (λ n. finish n) (run ts m) tree e (λ n taken rest. record { ended = n; taken = taken; finished = rest })
