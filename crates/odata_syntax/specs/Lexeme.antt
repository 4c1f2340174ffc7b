-- What a token says in an expression (OData ABNF 4.01, section 4).
use Rattle.std.specs.Prelude.{◌≡◌, ◌⊎◌, ℕ, List, [], ◌∷◌, ◌==◌, Bool, false, IsTrue, codes}
use Rattle.std.specs.List.{list_any}
use Rattle.std.specs.Str.{str_eq_ignore_ascii_case}
use Rattle.odata_syntax.specs.declared.binary_operator.BinaryOperator.{BinaryOperator}
use Rattle.odata_syntax.specs.declared.binary_operator.LogicalOperator.{LogicalOperator}
use Rattle.odata_syntax.specs.declared.binary_operator.ComparisonOperator.{ComparisonOperator}
use Rattle.odata_syntax.specs.declared.binary_operator.ArithmeticOperator.{ArithmeticOperator}
use Rattle.odata_syntax.specs.declared.node.LiteralKind.{LiteralKind}
use Rattle.odata_syntax.specs.declared.node.Quantifier.{Quantifier}
use Rattle.odata_text.specs.declared.token.TokenKind.{TokenKind}
use Rattle.odata_text.specs.TokenModel.{TokenModel}

-- two texts are equal in all but the case of ASCII letters
abbrev pub same_word : List ℕ → List ℕ → Bool
same_word = str_eq_ignore_ascii_case

-- the token is of this kind
pub record IsA (kind : TokenKind) (p : TokenModel) : Type 0 where
  pub of_kind : p.kind ≡ kind

-- the token is this word
pub record SpellsWord (word : List ℕ) (p : TokenModel) : Type 0 where
  pub of_kind : p.kind ≡ TokenKind.Word
  pub spelled : IsTrue (same_word p.text word)

-- the token is this word after a `$`
pub record SpellsDollar (word : List ℕ) (p : TokenModel) : Type 0 where
  pub of_kind : p.kind ≡ TokenKind.Dollar
  pub spelled : IsTrue (same_word p.text word)

-- the word of an operator (URL Conventions 4.01, 5.1.1.1 and 5.1.1.2)
abbrev pub operator_word : BinaryOperator → List ℕ
operator_word (BinaryOperator.Logical LogicalOperator.Or) = codes "or"
operator_word (BinaryOperator.Logical LogicalOperator.And) = codes "and"
operator_word (BinaryOperator.Comparison ComparisonOperator.Eq) = codes "eq"
operator_word (BinaryOperator.Comparison ComparisonOperator.Ne) = codes "ne"
operator_word (BinaryOperator.Comparison ComparisonOperator.Gt) = codes "gt"
operator_word (BinaryOperator.Comparison ComparisonOperator.Ge) = codes "ge"
operator_word (BinaryOperator.Comparison ComparisonOperator.Lt) = codes "lt"
operator_word (BinaryOperator.Comparison ComparisonOperator.Le) = codes "le"
operator_word (BinaryOperator.Arithmetic ArithmeticOperator.Add) = codes "add"
operator_word (BinaryOperator.Arithmetic ArithmeticOperator.Sub) = codes "sub"
operator_word (BinaryOperator.Arithmetic ArithmeticOperator.Mul) = codes "mul"
operator_word (BinaryOperator.Arithmetic ArithmeticOperator.Div) = codes "div"
operator_word (BinaryOperator.Arithmetic ArithmeticOperator.Mod) = codes "mod"

pub record IsOperator (operator : BinaryOperator) (p : TokenModel) : Type 0 where
  pub word : SpellsWord (operator_word operator) p

-- the word of a lambda operator (URL Conventions 4.01, 5.1.1.13)
abbrev pub quantifier_word : Quantifier → List ℕ
quantifier_word Quantifier.Any = codes "any"
quantifier_word Quantifier.All = codes "all"

pub record IsQuantifier (quantifier : Quantifier) (p : TokenModel) : Type 0 where
  pub word : SpellsWord (quantifier_word quantifier) p

-- the token is a literal of this kind (URL Conventions 4.01, 5.1.1.14; ABNF 4.01, section 7)
abbrev pub SpellsLiteral : LiteralKind → TokenModel → Type 0
SpellsLiteral LiteralKind.Null p = SpellsWord (codes "null") p
SpellsLiteral LiteralKind.Bool p = SpellsWord (codes "true") p ⊎ SpellsWord (codes "false") p
SpellsLiteral LiteralKind.Int p = IsA TokenKind.Int p
SpellsLiteral LiteralKind.Date p = IsA TokenKind.Date p
SpellsLiteral LiteralKind.Moment p = IsA TokenKind.Moment p
SpellsLiteral LiteralKind.Guid p = IsA TokenKind.Guid p
SpellsLiteral LiteralKind.Str p = IsA TokenKind.Str p
SpellsLiteral LiteralKind.EnumLit p = IsA TokenKind.EnumLit p

pub record IsLiteral (kind : LiteralKind) (p : TokenModel) : Type 0 where
  pub spelled : SpellsLiteral kind p

-- the words that are no name where an operand is expected
abbrev pub reserved_words : List (List ℕ)
reserved_words = codes "true" ∷ codes "false" ∷ codes "null" ∷ codes "not" ∷ []

-- a word that stands for a property, a variable or a function where an operand is expected
pub record IsName (p : TokenModel) : Type 0 where
  pub of_kind : p.kind ≡ TokenKind.Word
  pub free : ¬ IsTrue (list_any (same_word p.text) reserved_words)

-- a word without a dot (46), which a lambda operator may bind, whatever the word
pub record IsVariable (p : TokenModel) : Type 0 where
  pub of_kind : p.kind ≡ TokenKind.Word
  pub undotted : list_any (λ b. b == 46) p.text ≡ false
