-- Tokens that are such as a readable tree's pieces derive a tree that is the same without its positions.
use Rattle.std.proofs.Common.{◌≡◌, inl, inr, ℕ, zero, suc, ◌+◌, ◌-◌, ◌<◌, ◌≤◌, ◌==◌, nat_lt, Bool, true, false, cond, IsTrue, List, [], ◌∷◌, ◌++◌, length, codes, arith, refl, sym, ◌∙◌, ap, subst, add-zero, add-suc, append_assoc, ◌⊎◌, ⊎_elim}
use Rattle.std.specs.List.{list_any}
use Rattle.std.specs.Str.{str_to_ascii_lowercase}
use Rattle.std.proofs.lemmas.Bool.{cases_Bool, ltb-false, ltb-true}
use Rattle.std.proofs.lemmas.Slice.Eq.{bytes_eq-Decides}
use Rattle.odata_text.specs.Printing.{Print, print_tokens}
use Rattle.odata_text.specs.TokenModel.{TokenModel}
use Rattle.odata_text.specs.declared.token.TokenKind.{TokenKind}
use Rattle.odata_syntax.specs.declared.binary_operator.BinaryOperator.{BinaryOperator}
use Rattle.odata_syntax.specs.declared.node.LiteralKind.{LiteralKind}
use Rattle.odata_syntax.specs.declared.node.Quantifier.{Quantifier}
use Rattle.odata_syntax.specs.CanonicalText.{shape_level, tree_level}
use Rattle.odata_syntax.specs.Grammar.{Derives, DerivesFurther, DerivesItems, Level, base_level, binary_tree, derives_any_item, derives_binary, derives_call, derives_count, derives_group, derives_has, derives_in_list, derives_in_path, derives_it, derives_lambda, derives_literal, derives_member, derives_name, derives_negation, derives_not, function_name, has_tree, in_path_tree, looser, negation_tree, not_tree, no_further, no_items, one_further, open_path_level, operator_level, or_level, path_level, primary_level, some_items, tree_between, tree_to, unary_level}
use Rattle.odata_syntax.specs.Lexeme.{IsName, IsOperator, IsQuantifier, IsVariable, SpellsDollar, SpellsLiteral, SpellsWord, operator_word, quantifier_word, reserved_words, same_word}
use Rattle.odata_syntax.specs.NormalForm.{bare, bare_trees, literal_token}
use Rattle.odata_syntax.specs.Tree.{Shape, Tree, Trees, any_item, binary, call, count, has, in_list, in_path, it, lambda, literal, logical_not, member, more_trees, name, negation, no_trees, node, shape_of}
use Rattle.odata_syntax.proofs.machine.Reading.{operator_level-bounds}
use Rattle.odata_syntax.proofs.printing.Pieces.{close_piece, further_pieces, group_pieces, open_piece, piece, pieces, shape_pieces, slash_piece, space, trees_pieces}
use Rattle.odata_syntax.proofs.printing.Readable.{AreReadable, IsReadable, IsReadableShape, IsTextOfRole}

-- Tokens such as pieces.

-- first a token such as the piece, then the rest
pub record IsLikeFirst (p : Print) (Rest : List TokenModel → Type 0) (ts : List TokenModel) : Type 0 where
  pub token : TokenModel
  pub rest : List TokenModel
  pub split : ts ≡ token ∷ rest
  pub kind : token.kind ≡ p.kind
  pub text : token.text ≡ p.text
  pub more : Rest rest

abbrev pub AreLike : List Print → List TokenModel → Type 0
AreLike [] ts = ts ≡ []
AreLike (p ∷ ps) ts = IsLikeFirst p (AreLike ps) ts

pub printed_like : (from : ℕ) (prints : List Print) → AreLike prints (print_tokens from prints)
printed_like from [] = refl
printed_like from (p ∷ ps) = record {
  token = record { kind = p.kind; start = from; stop = from + length p.text; text = p.text };
  rest = print_tokens (from + length p.text + length p.gap) ps;
  split = refl;
  kind = refl;
  text = refl;
  more = printed_like (from + length p.text + length p.gap) ps;
}

-- Levels.

looser_by : (k : ℕ) (level : Level) {ts : List TokenModel} {tree : Tree} → Derives (level + k) ts tree → Derives level ts tree
looser_by zero level d = rw add-zero at d
looser_by (suc k) level {ts} {tree} d =
    let inner : Derives (suc (level + k)) ts tree = rw add-suc at d in
    looser_by k level (looser inner)

pub at_level : (level tighter : Level) {ts : List TokenModel} {tree : Tree} → level ≤ tighter → Derives tighter ts tree → Derives level ts tree
at_level level tighter {ts} {tree} le d =
    let sum : tighter ≡ level + (tighter - level) = omega arith in
    looser_by (tighter - level) level (subst (λ (n : ℕ). Derives n ts tree) sum d)

-- Roles.

literal_like : (kind : LiteralKind) (t u : TokenModel) → u.kind ≡ literal_token kind → u.text ≡ t.text → SpellsLiteral kind t → SpellsLiteral kind u
literal_like LiteralKind.Null t u kind text is = record { of_kind = kind; spelled = subst (λ (xs : List ℕ). IsTrue (same_word xs (codes "null"))) (sym text) is.spelled }
literal_like LiteralKind.Bool t u kind text (inl is) = inl (record { of_kind = kind; spelled = subst (λ (xs : List ℕ). IsTrue (same_word xs (codes "true"))) (sym text) is.spelled })
literal_like LiteralKind.Bool t u kind text (inr is) = inr (record { of_kind = kind; spelled = subst (λ (xs : List ℕ). IsTrue (same_word xs (codes "false"))) (sym text) is.spelled })
literal_like LiteralKind.Int t u kind text is = record { of_kind = kind }
literal_like LiteralKind.Date t u kind text is = record { of_kind = kind }
literal_like LiteralKind.Moment t u kind text is = record { of_kind = kind }
literal_like LiteralKind.Guid t u kind text is = record { of_kind = kind }
literal_like LiteralKind.Str t u kind text is = record { of_kind = kind }
literal_like LiteralKind.EnumLit t u kind text is = record { of_kind = kind }

-- a word is spelled by itself
itself : (word : List ℕ) → IsTrue (same_word word word)
itself word = (bytes_eq-Decides (str_to_ascii_lowercase word) (str_to_ascii_lowercase word)).1 refl

word_like : (word : List ℕ) (u : TokenModel) → u.kind ≡ TokenKind.Word → u.text ≡ word → SpellsWord word u
word_like word u kind text = record { of_kind = kind; spelled = subst (λ (xs : List ℕ). IsTrue (same_word xs word)) (sym text) (itself word) }

dollar_like : (word : List ℕ) (u : TokenModel) → u.kind ≡ TokenKind.Dollar → u.text ≡ word → SpellsDollar word u
dollar_like word u kind text = record { of_kind = kind; spelled = subst (λ (xs : List ℕ). IsTrue (same_word xs word)) (sym text) (itself word) }

operator_like : (operator : BinaryOperator) (u : TokenModel) → u.kind ≡ TokenKind.Word → u.text ≡ operator_word operator → IsOperator operator u
operator_like operator u kind text = record { word = word_like (operator_word operator) u kind text }

quantifier_like : (quantifier : Quantifier) (u : TokenModel) → u.kind ≡ TokenKind.Word → u.text ≡ quantifier_word quantifier → IsQuantifier quantifier u
quantifier_like Quantifier.Any u kind text = record { word = word_like (codes "any") u kind text }
quantifier_like Quantifier.All u kind text = record { word = word_like (codes "all") u kind text }

name_like : (text : List ℕ) (u : TokenModel) → IsTextOfRole IsName text → u.kind ≡ TokenKind.Word → u.text ≡ text → IsName u
name_like text u is kind same = record { of_kind = kind; free = subst (λ (xs : List ℕ). ¬ (IsTrue (list_any (same_word xs) reserved_words))) (is.text_is ∙ sym same) is.role.free }

variable_like : (text : List ℕ) (u : TokenModel) → IsTextOfRole IsVariable text → u.kind ≡ TokenKind.Word → u.text ≡ text → IsVariable u
variable_like text u is kind same = record { of_kind = kind; undotted = subst (λ (xs : List ℕ). list_any (λ (b : ℕ). b == 46) xs ≡ false) (is.text_is ∙ sym same) is.role.undotted }

-- Trees.

-- tokens of which a front derives such a tree, and the rest is such as the pieces after it
pub record IsReadAgain (level : Level) (tree : Tree) (behind : List Print) (ts : List TokenModel) : Type 0 where
  pub own : List TokenModel
  pub rest : List TokenModel
  pub split : ts ≡ own ++ rest
  pub again : Tree
  pub derived : Derives level own again
  pub same : bare again ≡ bare tree
  pub like : AreLike behind rest

record AreItemsAgain (trees : Trees) (behind : List Print) (ts : List TokenModel) : Type 0 where
  own : List TokenModel
  rest : List TokenModel
  split : ts ≡ own ++ rest
  again : Trees
  derived : DerivesItems own again
  same : bare_trees again ≡ bare_trees trees
  like : AreLike behind rest

record IsFurtherAgain (trees : Trees) (behind : List Print) (ts : List TokenModel) : Type 0 where
  own : List TokenModel
  rest : List TokenModel
  split : ts ≡ own ++ rest
  again : Trees
  derived : DerivesFurther own again
  same : bare_trees again ≡ bare_trees trees
  like : AreLike behind rest

-- whatever stands after them
abbrev CanBeRead : Level → Tree → (List ℕ → List Print → List Print) → Type 0
CanBeRead level tree inner = (gap : List ℕ) (behind : List Print) (ts : List TokenModel) → AreLike (inner gap behind) ts → IsReadAgain level tree behind ts

-- one token, and what is such as the rest
read_one : (level : Level) (tree again : Tree) (p : Print) (behind : List Print) (ts : List TokenModel) (first : IsLikeFirst p (AreLike behind) ts) → Derives level (first.token ∷ []) again → bare again ≡ bare tree → IsReadAgain level tree behind ts
read_one level tree again p behind ts first derived same = record { own = first.token ∷ []; rest = first.rest; split = first.split; again = again; derived = derived; same = same; like = first.more }

bare_group : (tree : Tree) (start stop : ℕ) → bare (node start stop (shape_of tree)) ≡ bare tree
bare_group (node a b shape) start stop = refl

read_group : (needed : Level) (tree : Tree) (inner : List ℕ → List Print → List Print) → (needed ≤ base_level) ⊎ (needed ≤ tree_level tree) → CanBeRead (tree_level tree) tree inner → or_level ≤ tree_level tree
    → CanBeRead needed tree (group_pieces needed (tree_level tree) inner)
read_group needed tree inner room can one gap behind ts like =
    ⊎_elim
    (λ grouped. closed (subst (λ (t : Bool). AreLike (cond t (open_piece ∷ inner [] (close_piece gap ∷ behind)) (inner gap behind)) ts) grouped like) grouped)
    (λ alone.
    let own = can gap behind ts (subst (λ (t : Bool). AreLike (cond t (open_piece ∷ inner [] (close_piece gap ∷ behind)) (inner gap behind)) ts) alone like) in
    let level : needed ≤ tree_level tree = ltb-false (tree_level tree) needed alone in
    record { own = own.own; rest = own.rest; split = own.split; again = own.again; derived = at_level needed (tree_level tree) level own.derived; same = own.same; like = own.like })
    (cases_Bool (nat_lt (tree_level tree) needed))
  where
    closed : AreLike (open_piece ∷ inner [] (close_piece gap ∷ behind)) ts → nat_lt (tree_level tree) needed ≡ true → IsReadAgain needed tree behind ts
    closed first grouped =
        let within = can [] (close_piece gap ∷ behind) first.rest first.more in
        let last = within.like in
        let below : tree_level tree < needed = ltb-true (tree_level tree) needed grouped in
        record {
          own = first.token ∷ (within.own ++ (last.token ∷ []));
          rest = last.rest;
          split = first.split ∙ ap (λ (xs : List TokenModel). first.token ∷ xs) (within.split ∙ ap (λ (xs : List TokenModel). within.own ++ xs) last.split ∙ sym (append_assoc within.own (last.token ∷ []) last.rest));
          again = node first.token.start last.token.stop (shape_of within.again);
          derived = at_level needed base_level (⊎_elim (λ low. low) (λ high. absurd (omega arith)) room)
              (derives_group (record { of_kind = first.kind }) (at_level or_level (tree_level tree) one within.derived) (record { of_kind = last.kind }));
          same = bare_group within.again first.token.start last.token.stop ∙ within.same;
          like = last.more;
        }

shape-some : (shape : Shape) → 1 ≤ shape_level shape
shape-some (literal kind text) = omega arith
shape-some it = omega arith
shape-some (name text) = omega arith
shape-some (member base text) = omega arith
shape-some (count base) = omega arith
shape-some (negation operand) = omega arith
shape-some (logical_not operand) = omega arith
shape-some (binary operator left right) = (operator_level-bounds operator).0
shape-some (has left right) = omega arith
shape-some (in_list left items) = omega arith
shape-some (in_path left path) = omega arith
shape-some (call text arguments) = omega arith
shape-some (any_item base) = omega arith
shape-some (lambda quantifier base variable body) = omega arith

pub some_level : (tree : Tree) → or_level ≤ tree_level tree
some_level (node start stop shape) = shape-some shape

-- a front, a token, and a front of the rest
split_two : (own own' last : List TokenModel) (t : TokenModel) {ts rest more : List TokenModel} → ts ≡ own ++ rest → rest ≡ t ∷ more → more ≡ own' ++ last → ts ≡ (own ++ (t ∷ own')) ++ last
split_two own own' last t first second third =
    first ∙ ap (λ (xs : List TokenModel). own ++ xs) (second ∙ ap (λ (xs : List TokenModel). t ∷ xs) third) ∙ sym (append_assoc own (t ∷ own') last)

-- a token, and a front of the rest
split_one : (own last : List TokenModel) (t : TokenModel) {ts more : List TokenModel} → ts ≡ t ∷ more → more ≡ own ++ last → ts ≡ (t ∷ own) ++ last
split_one own last t first second = first ∙ ap (λ (xs : List TokenModel). t ∷ xs) second

-- a front and a token after it
split_last : (own last : List TokenModel) (t : TokenModel) {ts rest : List TokenModel} → ts ≡ own ++ rest → rest ≡ t ∷ last → ts ≡ (own ++ (t ∷ [])) ++ last
split_last own last t first second = first ∙ ap (λ (xs : List TokenModel). own ++ xs) second ∙ sym (append_assoc own (t ∷ []) last)

mutual
  pub read_tree : (tree : Tree) → IsReadable tree → CanBeRead (tree_level tree) tree (pieces tree)
  read_tree (node start stop shape) readable gap behind ts like = read_shape start stop shape readable gap behind ts like

  read_shape : (start stop : ℕ) (shape : Shape) → IsReadableShape shape → CanBeRead (shape_level shape) (node start stop shape) (shape_pieces shape)
  read_shape start stop (literal kind text) readable gap behind ts like =
      read_one base_level (node start stop (literal kind text)) (node like.token.start like.token.stop (literal kind like.token.text)) (piece (literal_token kind) text gap) behind ts like
      (derives_literal (record { spelled = literal_like kind readable.token like.token like.kind (like.text ∙ sym readable.text_is) readable.role.spelled }))
      (ap (λ (xs : List ℕ). node 0 0 (literal kind xs)) like.text)
  read_shape start stop it readable gap behind ts like =
      read_one open_path_level (node start stop it) (node like.token.start like.token.stop it) (piece TokenKind.Dollar (codes "$it") gap) behind ts like
      (derives_it (dollar_like (codes "$it") like.token like.kind like.text)) refl
  read_shape start stop (name text) readable gap behind ts like =
      read_one open_path_level (node start stop (name text)) (node like.token.start like.token.stop (name like.token.text)) (piece TokenKind.Word text gap) behind ts like
      (derives_name (name_like text like.token readable like.kind like.text)) (ap (λ (xs : List ℕ). node 0 0 (name xs)) like.text)
  read_shape start stop (member base text) readable gap behind ts like =
      let b = read_tree base readable.0 [] (slash_piece ∷ (piece TokenKind.Word text gap ∷ behind)) ts like in
      let s = b.like in
      let w = s.more in
      record {
        own = b.own ++ (s.token ∷ (w.token ∷ []));
        rest = w.rest;
        split = split_two b.own (w.token ∷ []) w.rest s.token b.split s.split w.split;
        again = tree_to b.again w.token (member b.again w.token.text);
        derived = derives_member (at_level open_path_level (tree_level base) readable.1 b.derived) (record { of_kind = s.kind }) (record { of_kind = w.kind });
        same = λ i. node 0 0 (member (b.same i) (w.text i));
        like = w.more;
      }
  read_shape start stop (count base) readable gap behind ts like =
      let b = read_tree base readable.0 [] (slash_piece ∷ (piece TokenKind.Dollar (codes "$count") gap ∷ behind)) ts like in
      let s = b.like in
      let w = s.more in
      record {
        own = b.own ++ (s.token ∷ (w.token ∷ []));
        rest = w.rest;
        split = split_two b.own (w.token ∷ []) w.rest s.token b.split s.split w.split;
        again = tree_to b.again w.token (count b.again);
        derived = derives_count (at_level open_path_level (tree_level base) readable.1 b.derived) (record { of_kind = s.kind }) (dollar_like (codes "$count") w.token w.kind w.text);
        same = λ i. node 0 0 (count (b.same i));
        like = w.more;
      }
  read_shape start stop (negation operand) readable gap behind ts like =
      let o = read_group unary_level operand (pieces operand) (inl (omega arith)) (read_tree operand readable) (some_level operand) gap behind like.rest like.more in
      record {
        own = like.token ∷ o.own;
        rest = o.rest;
        split = split_one o.own o.rest like.token like.split o.split;
        again = negation_tree like.token o.again;
        derived = derives_negation (record { of_kind = like.kind }) o.derived;
        same = λ i. node 0 0 (negation (o.same i));
        like = o.like;
      }
  read_shape start stop (logical_not operand) readable gap behind ts like =
      let o = read_group unary_level operand (pieces operand) (inl (omega arith)) (read_tree operand readable) (some_level operand) gap behind like.rest like.more in
      record {
        own = like.token ∷ o.own;
        rest = o.rest;
        split = split_one o.own o.rest like.token like.split o.split;
        again = not_tree like.token o.again;
        derived = derives_not (word_like (codes "not") like.token like.kind like.text) o.derived;
        same = λ i. node 0 0 (logical_not (o.same i));
        like = o.like;
      }
  read_shape start stop (binary operator left right) readable gap behind ts like =
      let low = operator_level-bounds operator in
      let l = read_group (operator_level operator) left (pieces left) (inl (omega arith)) (read_tree left readable.0) (some_level left) space
      (piece TokenKind.Word (operator_word operator) space ∷ group_pieces (suc (operator_level operator)) (tree_level right) (pieces right) gap behind) ts like in
      let w = l.like in
      let r = read_group (suc (operator_level operator)) right (pieces right) (inl (omega arith)) (read_tree right readable.1) (some_level right) gap behind w.rest w.more in
      record {
        own = l.own ++ (w.token ∷ r.own);
        rest = r.rest;
        split = split_two l.own r.own r.rest w.token l.split w.split r.split;
        again = binary_tree operator l.again r.again;
        derived = derives_binary l.derived (operator_like operator w.token w.kind w.text) r.derived;
        same = λ i. node 0 0 (binary operator (l.same i) (r.same i));
        like = r.like;
      }
  read_shape start stop (has left right) readable gap behind ts like =
      let l = read_group primary_level left (pieces left) (inl (omega arith)) (read_tree left readable.0) (some_level left) space
      (piece TokenKind.Word (codes "has") space ∷ group_pieces base_level (tree_level right) (pieces right) gap behind) ts like in
      let w = l.like in
      let r = read_group base_level right (pieces right) (inl (omega arith)) (read_tree right readable.1) (some_level right) gap behind w.rest w.more in
      record {
        own = l.own ++ (w.token ∷ r.own);
        rest = r.rest;
        split = split_two l.own r.own r.rest w.token l.split w.split r.split;
        again = has_tree l.again r.again;
        derived = derives_has l.derived (word_like (codes "has") w.token w.kind w.text) r.derived;
        same = λ i. node 0 0 (has (l.same i) (r.same i));
        like = r.like;
      }
  read_shape start stop (in_list left items) readable gap behind ts like =
      let l = read_group primary_level left (pieces left) (inl (omega arith)) (read_tree left readable.0) (some_level left) space
      (piece TokenKind.Word (codes "in") space ∷ (open_piece ∷ trees_pieces items (close_piece gap ∷ behind))) ts like in
      let w = l.like in
      let o = w.more in
      let is = read_items items readable.1 (close_piece gap ∷ behind) o.rest o.more in
      let c = is.like in
      record {
        own = l.own ++ (w.token ∷ (o.token ∷ (is.own ++ (c.token ∷ []))));
        rest = c.rest;
        split = split_two l.own (o.token ∷ (is.own ++ (c.token ∷ []))) c.rest w.token l.split w.split (split_one (is.own ++ (c.token ∷ [])) c.rest o.token o.split (split_last is.own c.rest c.token is.split c.split));
        again = tree_to l.again c.token (in_list l.again is.again);
        derived = derives_in_list l.derived (word_like (codes "in") w.token w.kind w.text) (record { of_kind = o.kind }) is.derived (record { of_kind = c.kind });
        same = λ i. node 0 0 (in_list (l.same i) (is.same i));
        like = c.more;
      }
  read_shape start stop (in_path left path) readable gap behind ts like =
      let l = read_group primary_level left (pieces left) (inl (omega arith)) (read_tree left readable.0) (some_level left) space
      (piece TokenKind.Word (codes "in") space ∷ group_pieces path_level (tree_level path) (pieces path) gap behind) ts like in
      let w = l.like in
      let r = read_group path_level path (pieces path) (inr readable.2) (read_tree path readable.1) (some_level path) gap behind w.rest w.more in
      record {
        own = l.own ++ (w.token ∷ r.own);
        rest = r.rest;
        split = split_two l.own r.own r.rest w.token l.split w.split r.split;
        again = in_path_tree l.again r.again;
        derived = derives_in_path l.derived (word_like (codes "in") w.token w.kind w.text) r.derived;
        same = λ i. node 0 0 (in_path (l.same i) (r.same i));
        like = r.like;
      }
  read_shape start stop (call text arguments) readable gap behind ts like =
      let o = like.more in
      let is = read_items arguments readable.1 (close_piece gap ∷ behind) o.rest o.more in
      let c = is.like in
      record {
        own = like.token ∷ (o.token ∷ (is.own ++ (c.token ∷ [])));
        rest = c.rest;
        split = split_one (o.token ∷ (is.own ++ (c.token ∷ []))) c.rest like.token like.split (split_one (is.own ++ (c.token ∷ [])) c.rest o.token o.split (split_last is.own c.rest c.token is.split c.split));
        again = tree_between like.token c.token (call (function_name like.token) is.again);
        derived = derives_call (name_like text like.token readable.0 like.kind like.text) (record { of_kind = o.kind }) is.derived (record { of_kind = c.kind });
        same = λ i. node 0 0 (call ((ap str_to_ascii_lowercase like.text ∙ readable.2) i) (is.same i));
        like = c.more;
      }
  read_shape start stop (any_item base) readable gap behind ts like =
      let b = read_tree base readable.0 [] (slash_piece ∷ (piece TokenKind.Word (codes "any") [] ∷ (open_piece ∷ (close_piece gap ∷ behind)))) ts like in
      let s = b.like in
      let q = s.more in
      let o = q.more in
      let c = o.more in
      record {
        own = b.own ++ (s.token ∷ (q.token ∷ (o.token ∷ (c.token ∷ []))));
        rest = c.rest;
        split = split_two b.own (q.token ∷ (o.token ∷ (c.token ∷ []))) c.rest s.token b.split s.split (split_one (o.token ∷ (c.token ∷ [])) c.rest q.token q.split (split_one (c.token ∷ []) c.rest o.token o.split c.split));
        again = tree_to b.again c.token (any_item b.again);
        derived = derives_any_item (at_level open_path_level (tree_level base) readable.1 b.derived) (record { of_kind = s.kind }) (quantifier_like Quantifier.Any q.token q.kind q.text) (record { of_kind = o.kind }) (record { of_kind = c.kind });
        same = λ i. node 0 0 (any_item (b.same i));
        like = c.more;
      }
  read_shape start stop (lambda quantifier base variable body) readable gap behind ts like =
      let b = read_tree base readable.0 []
      (slash_piece ∷ (piece TokenKind.Word (quantifier_word quantifier) [] ∷ (open_piece ∷ (piece TokenKind.Word variable [] ∷ (piece TokenKind.Colon (58 ∷ []) [] ∷ pieces body [] (close_piece gap ∷ behind))))))
      ts like in
      let s = b.like in
      let q = s.more in
      let o = q.more in
      let v = o.more in
      let k = v.more in
      let e = read_tree body readable.3 [] (close_piece gap ∷ behind) k.rest k.more in
      let c = e.like in
      record {
        own = b.own ++ (s.token ∷ (q.token ∷ (o.token ∷ (v.token ∷ (k.token ∷ (e.own ++ (c.token ∷ [])))))));
        rest = c.rest;
        split = split_two b.own (q.token ∷ (o.token ∷ (v.token ∷ (k.token ∷ (e.own ++ (c.token ∷ [])))))) c.rest s.token b.split s.split
            (split_one (o.token ∷ (v.token ∷ (k.token ∷ (e.own ++ (c.token ∷ []))))) c.rest q.token q.split
            (split_one (v.token ∷ (k.token ∷ (e.own ++ (c.token ∷ [])))) c.rest o.token o.split
            (split_one (k.token ∷ (e.own ++ (c.token ∷ []))) c.rest v.token v.split
            (split_one (e.own ++ (c.token ∷ [])) c.rest k.token k.split (split_last e.own c.rest c.token e.split c.split)))));
        again = tree_to b.again c.token (lambda quantifier b.again v.token.text e.again);
        derived = derives_lambda (at_level open_path_level (tree_level base) readable.1 b.derived) (record { of_kind = s.kind }) (quantifier_like quantifier q.token q.kind q.text) (record { of_kind = o.kind })
            (variable_like variable v.token readable.2 v.kind v.text) (record { of_kind = k.kind }) (at_level or_level (tree_level body) (some_level body) e.derived) (record { of_kind = c.kind });
        same = λ i. node 0 0 (lambda quantifier (b.same i) (v.text i) (e.same i));
        like = c.more;
      }

  read_items : (trees : Trees) → AreReadable trees → (behind : List Print) (ts : List TokenModel) → AreLike (trees_pieces trees behind) ts → AreItemsAgain trees behind ts
  read_items no_trees readable behind ts like = record { own = []; rest = ts; split = refl; again = no_trees; derived = no_items; same = refl; like = like }
  read_items (more_trees tree trees) readable behind ts like =
      let t = read_tree tree readable.0 [] (further_pieces trees behind) ts like in
      let f = read_further trees readable.1 behind t.rest t.like in
      record {
        own = t.own ++ f.own;
        rest = f.rest;
        split = t.split ∙ ap (λ (xs : List TokenModel). t.own ++ xs) f.split ∙ sym (append_assoc t.own f.own f.rest);
        again = more_trees t.again f.again;
        derived = some_items (at_level or_level (tree_level tree) (some_level tree) t.derived) f.derived;
        same = λ i. more_trees (t.same i) (f.same i);
        like = f.like;
      }

  read_further : (trees : Trees) → AreReadable trees → (behind : List Print) (ts : List TokenModel) → AreLike (further_pieces trees behind) ts → IsFurtherAgain trees behind ts
  read_further no_trees readable behind ts like = record { own = []; rest = ts; split = refl; again = no_trees; derived = no_further; same = refl; like = like }
  read_further (more_trees tree trees) readable behind ts like =
      let t = read_tree tree readable.0 [] (further_pieces trees behind) like.rest like.more in
      let f = read_further trees readable.1 behind t.rest t.like in
      record {
        own = like.token ∷ (t.own ++ f.own);
        rest = f.rest;
        split = split_one (t.own ++ f.own) f.rest like.token like.split (t.split ∙ ap (λ (xs : List TokenModel). t.own ++ xs) f.split ∙ sym (append_assoc t.own f.own f.rest));
        again = more_trees t.again f.again;
        derived = one_further (record { of_kind = like.kind }) (at_level or_level (tree_level tree) (some_level tree) t.derived) f.derived;
        same = λ i. more_trees (t.same i) (f.same i);
        like = f.like;
      }
