-- The pieces of a readable tree may be printed one after another.
use Rattle.std.proofs.Common.{◌≡◌, ℕ, suc, ◌<◌, ◌==◌, not, nat_lt, Bool, true, false, cond, List, [], ◌∷◌, ◌++◌, length, codes, arith, refl, subst}
use Rattle.std.specs.Prelude.{All, ◌&&◌, ltb}
use Rattle.std.specs.Char.{is_ascii_alphabetic}
use Rattle.std.specs.List.{list_all}
use Rattle.std.proofs.lemmas.Bool.{and_parts, ltb-true}
use Rattle.std.proofs.lemmas.List.Elements.{All-cons, All-nil}
use Rattle.odata_text.specs.ByteClass.{class_of}
use Rattle.odata_text.specs.Identifier.{IsIdentifier}
use Rattle.odata_text.specs.Printing.{ArePrintable, MayFollow, Print, is_separator, print_text}
use Rattle.odata_text.specs.Spelling.{Spells}
use Rattle.odata_text.specs.declared.byte_class.ByteClass.TheVariants.{Space}
use Rattle.odata_text.specs.declared.token.TokenKind.{TokenKind}
use Rattle.odata_text.specs.declared.token.TokenKind.TheVariants.{Int, Open, Close, Comma, Slash, Colon}
use Rattle.odata_syntax.specs.declared.binary_operator.BinaryOperator.{BinaryOperator}
use Rattle.odata_syntax.specs.declared.node.LiteralKind.{LiteralKind}
use Rattle.odata_syntax.specs.declared.node.Quantifier.{Quantifier}
use Rattle.odata_syntax.specs.declared.parser.next_operator.Next.{Next}
use Rattle.odata_syntax.specs.CanonicalText.{tree_level}
use Rattle.odata_syntax.specs.Grammar.{Level, base_level, operator_level, path_level, primary_level, unary_level}
use Rattle.odata_syntax.specs.Lexeme.{IsLiteral, operator_word, quantifier_word}
use Rattle.odata_syntax.specs.NormalForm.{literal_token}
use Rattle.odata_syntax.specs.Tree.{Shape, Tree, Trees, any_item, binary, call, count, has, in_list, in_path, it, lambda, literal, logical_not, member, more_trees, name, negation, no_trees, node}
use Rattle.odata_syntax.proofs.machine.Operators.{next_word, operator_passes, operators}
use Rattle.odata_syntax.proofs.normal_forms.NormalDerived.{kind_of_literal}
use Rattle.odata_syntax.proofs.printing.Pieces.{close_piece, further_pieces, group_pieces, open_piece, piece, pieces, shape_pieces, slash_piece, space, trees_pieces}
use Rattle.odata_syntax.proofs.printing.Readable.{AreReadable, IsReadable, IsReadableShape, IsTextOfRole}

-- letters are an identifier
abbrev pub LettersAreIdentifiers : Type 0
LettersAreIdentifiers = (name : List ℕ) → 0 < length name → list_all is_ascii_alphabetic name ≡ true → IsIdentifier name

letters_word : LettersAreIdentifiers → (name : List ℕ) → 0 < length name → list_all is_ascii_alphabetic name ≡ true → Spells TokenKind.Word name
letters_word law word some letters = record { part = word; more = []; identifier = law word some letters; identifiers = tt; whole = refl }

letters_dollar : LettersAreIdentifiers → (name : List ℕ) → 0 < length name → list_all is_ascii_alphabetic name ≡ true → Spells TokenKind.Dollar (36 ∷ name)
letters_dollar law word some letters = record { front = 36 ∷ []; back = word; whole = refl; is_front = refl; is_back = law word some letters }

abbrev has_letters : Next → Bool
has_letters next = ltb 0 (length (next_word next)) && list_all is_ascii_alphabetic (next_word next)

operator_spelled : LettersAreIdentifiers → (operator : BinaryOperator) → Spells TokenKind.Word (operator_word operator)
unfolding operators next_word
operator_spelled law operator =
    let word = operator_word operator in
    let parts = and_parts (ltb 0 (length word)) (list_all is_ascii_alphabetic word) (operator_passes has_letters refl operator) in
    letters_word law word (ltb-true 0 (length word) parts.0) parts.1

quantifier_spelled : LettersAreIdentifiers → (quantifier : Quantifier) → Spells TokenKind.Word (quantifier_word quantifier)
quantifier_spelled law Quantifier.Any = letters_word law (codes "any") (omega arith) refl
quantifier_spelled law Quantifier.All = letters_word law (codes "all") (omega arith) refl

-- White space, and what may follow.

abbrev IsWhite : List ℕ → Type 0
IsWhite gap = All (λ b. class_of b ≡ Space) gap

white_space : IsWhite space
unfolding class_of
white_space = All-cons (λ b. class_of b ≡ Space) 32 [] refl (All-nil (λ b. class_of b ≡ Space))

pub white_none : IsWhite []
white_none = All-nil (λ b. class_of b ≡ Space)

-- what may stand after a number may stand after any token
abbrev Follows : List ℕ → Type 0
Follows rest = MayFollow Int rest

follows_any : (kind : TokenKind) (rest : List ℕ) → Follows rest → MayFollow kind rest
follows_any kind [] follows = tt
follows_any Int (b ∷ more) follows = follows
follows_any Open (b ∷ more) follows = refl
follows_any Close (b ∷ more) follows = refl
follows_any Comma (b ∷ more) follows = refl
follows_any Slash (b ∷ more) follows = refl
follows_any Colon (b ∷ more) follows = refl
follows_any kind (b ∷ more) follows = (and_parts (is_separator b) (not (b == 58)) follows).0

follows_open : (rest : List ℕ) → MayFollow Open rest
follows_open [] = tt
follows_open (b ∷ more) = refl

follows_comma : (rest : List ℕ) → MayFollow Comma rest
follows_comma [] = tt
follows_comma (b ∷ more) = refl

follows_slash : (rest : List ℕ) → MayFollow Slash rest
follows_slash [] = tt
follows_slash (b ∷ more) = refl

follows_colon : (rest : List ℕ) → MayFollow Colon rest
follows_colon [] = tt
follows_colon (b ∷ more) = refl

-- Pieces.

one : (kind : TokenKind) (text gap : List ℕ) (behind : List Print) → Spells kind text → IsWhite gap → Follows (gap ++ print_text behind) → ArePrintable behind → ArePrintable (piece kind text gap ∷ behind)
one kind text gap behind spelled white follows rest = (spelled, (white, (follows_any kind (gap ++ print_text behind) follows, rest)))

opened : (behind : List Print) → ArePrintable behind → ArePrintable (open_piece ∷ behind)
opened behind rest = (refl, (white_none, (follows_open (print_text behind), rest)))

slashed : (behind : List Print) → ArePrintable behind → ArePrintable (slash_piece ∷ behind)
slashed behind rest = (refl, (white_none, (follows_slash (print_text behind), rest)))

closed : (gap : List ℕ) (behind : List Print) → IsWhite gap → Follows (gap ++ print_text behind) → ArePrintable behind → ArePrintable (close_piece gap ∷ behind)
closed gap behind = one Close (41 ∷ []) gap behind refl

-- pieces that may be printed before any that may follow
abbrev CanBePrinted : (List ℕ → List Print → List Print) → Type 0
CanBePrinted inner = (gap : List ℕ) (behind : List Print) → IsWhite gap → Follows (gap ++ print_text behind) → ArePrintable behind → ArePrintable (inner gap behind)

group_printable : (needed own : Level) (inner : List ℕ → List Print → List Print) → CanBePrinted inner → CanBePrinted (group_pieces needed own inner)
group_printable needed own inner can gap behind white follows rest = cases (nat_lt own needed)
  where
    cases : (t : Bool) → ArePrintable (cond t (open_piece ∷ inner [] (close_piece gap ∷ behind)) (inner gap behind))
    cases true = opened (inner [] (close_piece gap ∷ behind)) (can [] (close_piece gap ∷ behind) white_none refl (closed gap behind white follows rest))
    cases false = can gap behind white follows rest

-- a word between two operands
worded : LettersAreIdentifiers → (word : List ℕ) (needed other : Level) (left right : Tree) → Spells TokenKind.Word word → CanBePrinted (pieces left) → CanBePrinted (pieces right)
    → CanBePrinted (λ gap behind. group_pieces needed (tree_level left) (pieces left) space (piece TokenKind.Word word space ∷ group_pieces other (tree_level right) (pieces right) gap behind))
worded law word needed other left right spelled l r gap behind white follows rest =
    group_printable needed (tree_level left) (pieces left) l space (piece TokenKind.Word word space ∷ group_pieces other (tree_level right) (pieces right) gap behind) white_space refl
    (one TokenKind.Word word space (group_pieces other (tree_level right) (pieces right) gap behind) spelled white_space refl (group_printable other (tree_level right) (pieces right) r gap behind white follows rest))

literal_spelled : (kind : LiteralKind) (text : List ℕ) → IsTextOfRole (IsLiteral kind) text → Spells (literal_token kind) text
literal_spelled kind text is =
    subst (Spells (literal_token kind)) is.text_is
    (subst (λ (k : TokenKind). Spells k is.token.text) (kind_of_literal kind is.token is.role.spelled) is.spelled)

word_spelled : (text : List ℕ) {own : List ℕ} (kind : TokenKind) → kind ≡ TokenKind.Word → own ≡ text → Spells kind own → Spells TokenKind.Word text
word_spelled text {own} kind is same spelled = subst (Spells TokenKind.Word) same (subst (λ (k : TokenKind). Spells k own) is spelled)

-- after an item stands a comma, or what is after the list
further_follows : (trees : Trees) (behind : List Print) → Follows (print_text behind) → Follows (print_text (further_pieces trees behind))
further_follows no_trees behind follows = follows
further_follows (more_trees tree trees) behind follows = refl

mutual
  pub printable : LettersAreIdentifiers → (tree : Tree) → IsReadable tree → CanBePrinted (pieces tree)
  printable law (node start stop shape) readable gap behind white follows rest = shape_printable law shape readable gap behind white follows rest

  shape_printable : LettersAreIdentifiers → (shape : Shape) → IsReadableShape shape → CanBePrinted (shape_pieces shape)
  shape_printable law (literal kind text) readable gap behind white follows rest = one (literal_token kind) text gap behind (literal_spelled kind text readable) white follows rest
  shape_printable law it readable gap behind white follows rest = one TokenKind.Dollar (codes "$it") gap behind (letters_dollar law (codes "it") (omega arith) refl) white follows rest
  shape_printable law (name text) readable gap behind white follows rest = one TokenKind.Word text gap behind (word_spelled text readable.token.kind readable.role.of_kind readable.text_is readable.spelled) white follows rest
  shape_printable law (member base text) readable gap behind white follows rest =
      printable law base readable.0 [] (slash_piece ∷ (piece TokenKind.Word text gap ∷ behind)) white_none refl
      (slashed (piece TokenKind.Word text gap ∷ behind) (one TokenKind.Word text gap behind (word_spelled text readable.2.token.kind readable.2.role.of_kind readable.2.text_is readable.2.spelled) white follows rest))
  shape_printable law (count base) readable gap behind white follows rest =
      printable law base readable.0 [] (slash_piece ∷ (piece TokenKind.Dollar (codes "$count") gap ∷ behind)) white_none refl
      (slashed (piece TokenKind.Dollar (codes "$count") gap ∷ behind) (one TokenKind.Dollar (codes "$count") gap behind (letters_dollar law (codes "count") (omega arith) refl) white follows rest))
  shape_printable law (negation operand) readable gap behind white follows rest =
      one TokenKind.Minus (45 ∷ []) space (group_pieces unary_level (tree_level operand) (pieces operand) gap behind) refl white_space refl
      (group_printable unary_level (tree_level operand) (pieces operand) (printable law operand readable) gap behind white follows rest)
  shape_printable law (logical_not operand) readable gap behind white follows rest =
      one TokenKind.Word (codes "not") space (group_pieces unary_level (tree_level operand) (pieces operand) gap behind) (letters_word law (codes "not") (omega arith) refl) white_space refl
      (group_printable unary_level (tree_level operand) (pieces operand) (printable law operand readable) gap behind white follows rest)
  shape_printable law (binary operator left right) readable gap behind white follows rest =
      worded law (operator_word operator) (operator_level operator) (suc (operator_level operator)) left right (operator_spelled law operator) (printable law left readable.0) (printable law right readable.1) gap behind white follows rest
  shape_printable law (has left right) readable gap behind white follows rest =
      worded law (codes "has") primary_level base_level left right (letters_word law (codes "has") (omega arith) refl) (printable law left readable.0) (printable law right readable.1) gap behind white follows rest
  shape_printable law (in_list left items) readable gap behind white follows rest =
      group_printable primary_level (tree_level left) (pieces left) (printable law left readable.0) space (piece TokenKind.Word (codes "in") space ∷ (open_piece ∷ trees_pieces items (close_piece gap ∷ behind))) white_space refl
      (one TokenKind.Word (codes "in") space (open_piece ∷ trees_pieces items (close_piece gap ∷ behind)) (letters_word law (codes "in") (omega arith) refl) white_space refl
      (opened (trees_pieces items (close_piece gap ∷ behind)) (trees_printable law items readable.1 (close_piece gap ∷ behind) refl (closed gap behind white follows rest))))
  shape_printable law (in_path left path) readable gap behind white follows rest =
      worded law (codes "in") primary_level path_level left path (letters_word law (codes "in") (omega arith) refl) (printable law left readable.0) (printable law path readable.1) gap behind white follows rest
  shape_printable law (call text arguments) readable gap behind white follows rest =
      one TokenKind.Word text [] (open_piece ∷ trees_pieces arguments (close_piece gap ∷ behind)) (word_spelled text readable.0.token.kind readable.0.role.of_kind readable.0.text_is readable.0.spelled) white_none refl
      (opened (trees_pieces arguments (close_piece gap ∷ behind)) (trees_printable law arguments readable.1 (close_piece gap ∷ behind) refl (closed gap behind white follows rest)))
  shape_printable law (any_item base) readable gap behind white follows rest =
      printable law base readable.0 [] (slash_piece ∷ (piece TokenKind.Word (codes "any") [] ∷ (open_piece ∷ (close_piece gap ∷ behind)))) white_none refl
      (slashed (piece TokenKind.Word (codes "any") [] ∷ (open_piece ∷ (close_piece gap ∷ behind)))
      (one TokenKind.Word (codes "any") [] (open_piece ∷ (close_piece gap ∷ behind)) (letters_word law (codes "any") (omega arith) refl) white_none refl
      (opened (close_piece gap ∷ behind) (closed gap behind white follows rest))))
  shape_printable law (lambda quantifier base variable body) readable gap behind white follows rest =
      let inner = pieces body [] (close_piece gap ∷ behind) in
      let colon = piece TokenKind.Colon (58 ∷ []) [] in
      let bound = piece TokenKind.Word variable [] in
      let word = piece TokenKind.Word (quantifier_word quantifier) [] in
      let spelled = word_spelled variable readable.2.token.kind readable.2.role.of_kind readable.2.text_is readable.2.spelled in
      printable law base readable.0 [] (slash_piece ∷ (word ∷ (open_piece ∷ (bound ∷ (colon ∷ inner))))) white_none refl
      (slashed (word ∷ (open_piece ∷ (bound ∷ (colon ∷ inner))))
      (one TokenKind.Word (quantifier_word quantifier) [] (open_piece ∷ (bound ∷ (colon ∷ inner))) (quantifier_spelled law quantifier) white_none refl
      (opened (bound ∷ (colon ∷ inner))
      (spelled, (white_none, (refl, (refl, (white_none, (follows_colon (print_text inner), printable law body readable.3 [] (close_piece gap ∷ behind) white_none refl (closed gap behind white follows rest))))))))))

  trees_printable : LettersAreIdentifiers → (trees : Trees) → AreReadable trees → (behind : List Print) → Follows (print_text behind) → ArePrintable behind → ArePrintable (trees_pieces trees behind)
  trees_printable law no_trees readable behind follows rest = rest
  trees_printable law (more_trees tree trees) readable behind follows rest =
      printable law tree readable.0 [] (further_pieces trees behind) white_none (further_follows trees behind follows) (further_printable law trees readable.1 behind follows rest)

  further_printable : LettersAreIdentifiers → (trees : Trees) → AreReadable trees → (behind : List Print) → Follows (print_text behind) → ArePrintable behind → ArePrintable (further_pieces trees behind)
  further_printable law no_trees readable behind follows rest = rest
  further_printable law (more_trees tree trees) readable behind follows rest = (
    refl,
    (
      white_none,
      (
        follows_comma (print_text (pieces tree [] (further_pieces trees behind))),
        printable law tree readable.0 [] (further_pieces trees behind) white_none (further_follows trees behind follows) (further_printable law trees readable.1 behind follows rest),
      ),
    ),
  )
