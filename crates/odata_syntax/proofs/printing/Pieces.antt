-- A tree as the pieces that are printed, each with the white space after it, before what stands after them.
use Rattle.std.proofs.Common.{◌≡◌, ℕ, suc, nat_lt, Bool, true, false, cond, List, [], ◌∷◌, ◌++◌, codes, refl, sym, ◌∙◌, ap, append_assoc}
use Rattle.odata_text.specs.Printing.{Print, print_text}
use Rattle.odata_text.specs.declared.token.TokenKind.{TokenKind}
use Rattle.odata_syntax.specs.CanonicalText.{further_text, grouped, shape_text, tree_level, tree_text, trees_text}
use Rattle.odata_syntax.specs.Grammar.{Level, base_level, operator_level, path_level, primary_level, unary_level}
use Rattle.odata_syntax.specs.Lexeme.{operator_word, quantifier_word}
use Rattle.odata_syntax.specs.NormalForm.{literal_token}
use Rattle.odata_syntax.specs.Tree.{Shape, Tree, Trees, any_item, binary, call, count, has, in_list, in_path, it, lambda, literal, logical_not, member, more_trees, name, negation, no_trees, node}

abbrev pub piece : TokenKind → List ℕ → List ℕ → Print
piece kind text gap = record { kind = kind; text = text; gap = gap }

abbrev pub open_piece : Print
open_piece = piece TokenKind.Open (40 ∷ []) []

abbrev pub close_piece : List ℕ → Print
close_piece gap = piece TokenKind.Close (41 ∷ []) gap

abbrev pub slash_piece : Print
slash_piece = piece TokenKind.Slash (47 ∷ []) []

abbrev pub space : List ℕ
space = 32 ∷ []

-- pieces with white space after them and more pieces after that, in parentheses where their position needs them
abbrev pub group_pieces : Level → Level → (List ℕ → List Print → List Print) → List ℕ → List Print → List Print
group_pieces needed own inner gap behind = cond (nat_lt own needed) (open_piece ∷ inner [] (close_piece gap ∷ behind)) (inner gap behind)

abbrev mutual
  pub pieces : Tree → List ℕ → List Print → List Print
  pieces (node start stop shape) gap behind = shape_pieces shape gap behind

  pub shape_pieces : Shape → List ℕ → List Print → List Print
  shape_pieces (literal kind text) gap behind = piece (literal_token kind) text gap ∷ behind
  shape_pieces it gap behind = piece TokenKind.Dollar (codes "$it") gap ∷ behind
  shape_pieces (name text) gap behind = piece TokenKind.Word text gap ∷ behind
  shape_pieces (member base text) gap behind = pieces base [] (slash_piece ∷ (piece TokenKind.Word text gap ∷ behind))
  shape_pieces (count base) gap behind = pieces base [] (slash_piece ∷ (piece TokenKind.Dollar (codes "$count") gap ∷ behind))
  shape_pieces (negation operand) gap behind =
      piece TokenKind.Minus (45 ∷ []) space ∷ group_pieces unary_level (tree_level operand) (λ g b. pieces operand g b) gap behind
  shape_pieces (logical_not operand) gap behind =
      piece TokenKind.Word (codes "not") space ∷ group_pieces unary_level (tree_level operand) (λ g b. pieces operand g b) gap behind
  shape_pieces (binary operator left right) gap behind =
      group_pieces (operator_level operator) (tree_level left) (λ g b. pieces left g b) space
      (piece TokenKind.Word (operator_word operator) space
      ∷ group_pieces (suc (operator_level operator)) (tree_level right) (λ g b. pieces right g b) gap behind)
  shape_pieces (has left right) gap behind =
      group_pieces primary_level (tree_level left) (λ g b. pieces left g b) space
      (piece TokenKind.Word (codes "has") space ∷ group_pieces base_level (tree_level right) (λ g b. pieces right g b) gap behind)
  shape_pieces (in_list left items) gap behind =
      group_pieces primary_level (tree_level left) (λ g b. pieces left g b) space
      (piece TokenKind.Word (codes "in") space ∷ (open_piece ∷ trees_pieces items (close_piece gap ∷ behind)))
  shape_pieces (in_path left path) gap behind =
      group_pieces primary_level (tree_level left) (λ g b. pieces left g b) space
      (piece TokenKind.Word (codes "in") space ∷ group_pieces path_level (tree_level path) (λ g b. pieces path g b) gap behind)
  shape_pieces (call text arguments) gap behind =
      piece TokenKind.Word text [] ∷ (open_piece ∷ trees_pieces arguments (close_piece gap ∷ behind))
  shape_pieces (any_item base) gap behind =
      pieces base [] (slash_piece ∷ (piece TokenKind.Word (codes "any") [] ∷ (open_piece ∷ (close_piece gap ∷ behind))))
  shape_pieces (lambda quantifier base variable body) gap behind =
      pieces base []
      (slash_piece ∷ (piece TokenKind.Word (quantifier_word quantifier) [] ∷ (open_piece ∷ (piece TokenKind.Word variable []
      ∷ (piece TokenKind.Colon (58 ∷ []) [] ∷ pieces body [] (close_piece gap ∷ behind))))))

  pub trees_pieces : Trees → List Print → List Print
  trees_pieces no_trees behind = behind
  trees_pieces (more_trees tree trees) behind = pieces tree [] (further_pieces trees behind)

  pub further_pieces : Trees → List Print → List Print
  further_pieces no_trees behind = behind
  further_pieces (more_trees tree trees) behind = piece TokenKind.Comma (44 ∷ []) [] ∷ pieces tree [] (further_pieces trees behind)

-- Their text is the tree's.

-- the text of pieces that are put together with what is after them
abbrev IsPrinted : (List ℕ → List Print → List Print) → List ℕ → Type 0
IsPrinted inner text = (gap : List ℕ) (behind : List Print) → print_text (inner gap behind) ≡ text ++ (gap ++ print_text behind)

front : (p : Print) (rest : List Print) → print_text (p ∷ rest) ≡ p.text ++ (p.gap ++ print_text rest)
front p rest = append_assoc p.text p.gap (print_text rest)

group-text : (needed own : Level) (inner : List ℕ → List Print → List Print) (text : List ℕ) → IsPrinted inner text → IsPrinted (group_pieces needed own inner) (grouped needed own text)
group-text needed own inner text printed gap behind = cases (nat_lt own needed)
  where
    cases : (t : Bool) → print_text (cond t (open_piece ∷ inner [] (close_piece gap ∷ behind)) (inner gap behind)) ≡ cond t (40 ∷ (text ++ 41 ∷ [])) text ++ (gap ++ print_text behind)
    cases true =
        ap (λ (xs : List ℕ). 40 ∷ xs)
        (printed [] (close_piece gap ∷ behind)
        ∙ ap (λ (xs : List ℕ). text ++ xs) (front (close_piece gap) behind)
        ∙ sym (append_assoc text (41 ∷ []) (gap ++ print_text behind)))
    cases false = printed gap behind

-- two operands with a word between them
two : (needed : Level) (left : Tree) (other : Level) (right : Tree) (word gap : List ℕ) (behind : List Print) → IsPrinted (pieces left) (tree_text left) → IsPrinted (pieces right) (tree_text right)
    → print_text (group_pieces needed (tree_level left) (pieces left) space (piece TokenKind.Word word space ∷ group_pieces other (tree_level right) (pieces right) gap behind))
    ≡ (grouped needed (tree_level left) (tree_text left) ++ (32 ∷ (word ++ (32 ∷ grouped other (tree_level right) (tree_text right))))) ++ (gap ++ print_text behind)
two needed left other right word gap behind l r =
    let first = grouped needed (tree_level left) (tree_text left) in
    let second = grouped other (tree_level right) (tree_text right) in
    let tail = gap ++ print_text behind in
    group-text needed (tree_level left) (pieces left) (tree_text left) l space (piece TokenKind.Word word space ∷ group_pieces other (tree_level right) (pieces right) gap behind)
    ∙ ap (λ (xs : List ℕ). first ++ (32 ∷ xs))
    (front (piece TokenKind.Word word space) (group_pieces other (tree_level right) (pieces right) gap behind)
    ∙ ap (λ (xs : List ℕ). word ++ (32 ∷ xs)) (group-text other (tree_level right) (pieces right) (tree_text right) r gap behind)
    ∙ sym (append_assoc word (32 ∷ second) tail))
    ∙ sym (append_assoc first (32 ∷ (word ++ (32 ∷ second))) tail)

mutual
  pub text-pieces : (tree : Tree) → IsPrinted (pieces tree) (tree_text tree)
  text-pieces (node start stop shape) gap behind = shape_text-pieces shape gap behind

  shape_text-pieces : (shape : Shape) → IsPrinted (shape_pieces shape) (shape_text shape)
  shape_text-pieces (literal kind text) gap behind = front (piece (literal_token kind) text gap) behind
  shape_text-pieces it gap behind = front (piece TokenKind.Dollar (codes "$it") gap) behind
  shape_text-pieces (name text) gap behind = front (piece TokenKind.Word text gap) behind
  shape_text-pieces (member base text) gap behind =
      text-pieces base [] (slash_piece ∷ (piece TokenKind.Word text gap ∷ behind))
      ∙ ap (λ (xs : List ℕ). tree_text base ++ (47 ∷ xs)) (front (piece TokenKind.Word text gap) behind)
      ∙ sym (append_assoc (tree_text base) (47 ∷ text) (gap ++ print_text behind))
  shape_text-pieces (count base) gap behind =
      text-pieces base [] (slash_piece ∷ (piece TokenKind.Dollar (codes "$count") gap ∷ behind))
      ∙ ap (λ (xs : List ℕ). tree_text base ++ (47 ∷ xs)) (front (piece TokenKind.Dollar (codes "$count") gap) behind)
      ∙ sym (append_assoc (tree_text base) (47 ∷ codes "$count") (gap ++ print_text behind))
  shape_text-pieces (negation operand) gap behind =
      ap (λ (xs : List ℕ). 45 ∷ (32 ∷ xs)) (group-text unary_level (tree_level operand) (pieces operand) (tree_text operand) (text-pieces operand) gap behind)
  shape_text-pieces (logical_not operand) gap behind =
      ap (λ (xs : List ℕ). codes "not " ++ xs) (group-text unary_level (tree_level operand) (pieces operand) (tree_text operand) (text-pieces operand) gap behind)
  shape_text-pieces (binary operator left right) gap behind =
      two (operator_level operator) left (suc (operator_level operator)) right (operator_word operator) gap behind (text-pieces left) (text-pieces right)
  shape_text-pieces (has left right) gap behind = two primary_level left base_level right (codes "has") gap behind (text-pieces left) (text-pieces right)
  shape_text-pieces (in_list left items) gap behind =
      let word = piece TokenKind.Word (codes "in") space in
      let list = trees_pieces items (close_piece gap ∷ behind) in
      group-text primary_level (tree_level left) (pieces left) (tree_text left) (text-pieces left) space (word ∷ (open_piece ∷ list))
      ∙ ap (λ (xs : List ℕ). grouped primary_level (tree_level left) (tree_text left) ++ (codes " in " ++ (40 ∷ xs)))
      (trees_text-pieces items (close_piece gap ∷ behind) ∙ ap (λ (xs : List ℕ). trees_text items ++ xs) (front (close_piece gap) behind)
      ∙ sym (append_assoc (trees_text items) (41 ∷ []) (gap ++ print_text behind)))
      ∙ sym (append_assoc (grouped primary_level (tree_level left) (tree_text left)) (codes " in " ++ (40 ∷ (trees_text items ++ 41 ∷ []))) (gap ++ print_text behind))
  shape_text-pieces (in_path left path) gap behind = two primary_level left path_level path (codes "in") gap behind (text-pieces left) (text-pieces path)
  shape_text-pieces (call text arguments) gap behind =
      front (piece TokenKind.Word text []) (open_piece ∷ trees_pieces arguments (close_piece gap ∷ behind))
      ∙ ap (λ (xs : List ℕ). text ++ (40 ∷ xs))
      (trees_text-pieces arguments (close_piece gap ∷ behind) ∙ ap (λ (xs : List ℕ). trees_text arguments ++ xs) (front (close_piece gap) behind)
      ∙ sym (append_assoc (trees_text arguments) (41 ∷ []) (gap ++ print_text behind)))
      ∙ sym (append_assoc text (40 ∷ (trees_text arguments ++ 41 ∷ [])) (gap ++ print_text behind))
  shape_text-pieces (any_item base) gap behind =
      text-pieces base [] (slash_piece ∷ (piece TokenKind.Word (codes "any") [] ∷ (open_piece ∷ (close_piece gap ∷ behind))))
      ∙ sym (append_assoc (tree_text base) (47 ∷ codes "any()") (gap ++ print_text behind))
  shape_text-pieces (lambda quantifier base variable body) gap behind =
      let word = quantifier_word quantifier in
      let inner = pieces body [] (close_piece gap ∷ behind) in
      let tail = gap ++ print_text behind in
      text-pieces base [] (slash_piece ∷ (piece TokenKind.Word word [] ∷ (open_piece ∷ (piece TokenKind.Word variable [] ∷ (piece TokenKind.Colon (58 ∷ []) [] ∷ inner)))))
      ∙ ap (λ (xs : List ℕ). tree_text base ++ (47 ∷ xs))
      (front (piece TokenKind.Word word []) (open_piece ∷ (piece TokenKind.Word variable [] ∷ (piece TokenKind.Colon (58 ∷ []) [] ∷ inner)))
      ∙ ap (λ (xs : List ℕ). word ++ (40 ∷ xs))
      (front (piece TokenKind.Word variable []) (piece TokenKind.Colon (58 ∷ []) [] ∷ inner)
      ∙ ap (λ (xs : List ℕ). variable ++ (58 ∷ xs)) (text-pieces body [] (close_piece gap ∷ behind) ∙ ap (λ (xs : List ℕ). tree_text body ++ xs) (front (close_piece gap) behind)
      ∙ sym (append_assoc (tree_text body) (41 ∷ []) tail))
      ∙ sym (append_assoc variable (58 ∷ (tree_text body ++ 41 ∷ [])) tail))
      ∙ sym (append_assoc word (40 ∷ (variable ++ (58 ∷ (tree_text body ++ 41 ∷ [])))) tail))
      ∙ sym (append_assoc (tree_text base) (47 ∷ (word ++ (40 ∷ (variable ++ (58 ∷ (tree_text body ++ 41 ∷ [])))))) tail)

  trees_text-pieces : (trees : Trees) (behind : List Print) → print_text (trees_pieces trees behind) ≡ trees_text trees ++ print_text behind
  trees_text-pieces no_trees behind = refl
  trees_text-pieces (more_trees tree trees) behind =
      text-pieces tree [] (further_pieces trees behind)
      ∙ ap (λ (xs : List ℕ). tree_text tree ++ xs) (further_text-pieces trees behind)
      ∙ sym (append_assoc (tree_text tree) (further_text trees) (print_text behind))

  further_text-pieces : (trees : Trees) (behind : List Print) → print_text (further_pieces trees behind) ≡ further_text trees ++ print_text behind
  further_text-pieces no_trees behind = refl
  further_text-pieces (more_trees tree trees) behind =
      ap (λ (xs : List ℕ). 44 ∷ xs)
      (text-pieces tree [] (further_pieces trees behind)
      ∙ ap (λ (xs : List ℕ). tree_text tree ++ xs) (further_text-pieces trees behind)
      ∙ sym (append_assoc (tree_text tree) (further_text trees) (print_text behind)))
