-- The tree that is read of a canonical text.
use Rattle.std.proofs.Common.{◌≡◌, ◌↔◌, sym, subst, ℕ, List, [], length}
use Rattle.odata_text.specs.TokenModel.{TokenModel}
use Rattle.odata_text.specs.TokenSequence.{AreTextTokens, AreTokensOf}
use Rattle.odata_text.specs.Tokens.{IsTokenList}
use Rattle.odata_syntax.specs.CanonicalText.{IsCanonicalText}
use Rattle.odata_syntax.specs.Grammar.{Derives, or_level}
use Rattle.odata_syntax.specs.NormalForm.{bare}
use Rattle.odata_syntax.specs.Parse.{IsExpression}
use Rattle.odata_syntax.specs.ReadBack.{IsReadBack}
use Rattle.odata_syntax.specs.Tree.{Tree}
use Rattle.csdl_schema.specs.SchemaModel.{Slots}
use Rattle.odata_signatures.specs.HasTyping.{HasTree, HasTyping}
use Rattle.odata_signatures.specs.PreOrder.{pre_order}
use Rattle.odata_signatures.specs.SameTypes.{HaveSameTypes, HaveSameTypesByNumber}
use Rattle.odata_signatures.proofs.printed.Literals.{LiteralFacts}
use Rattle.odata_signatures.proofs.printed.Nodes.{same_by_number, same_types}

-- what is known of texts, tokens and trees
pub record ReadingFacts : Type 0 where
  pub literals : LiteralFacts
  pub back : (tree : Tree) (text : List ℕ) → IsExpression tree → IsCanonicalText tree text → IsReadBack tree text
  pub list : (text : List ℕ) (first second : List TokenModel) → AreTokensOf text first → AreTokensOf text second → first ≡ second
  pub spelled : (text : List ℕ) (list : List TokenModel) → IsTokenList text list → AreTextTokens 0 (length text) list
  pub tree : (ts : List TokenModel) (a b : Tree) → Derives or_level ts a → Derives or_level ts b → a ≡ b

expression : ReadingFacts → (text : List ℕ) (tree : Tree) → HasTree text tree → IsExpression tree
expression facts text tree has = record {
  tokens = has.models;
  length = length text;
  of_text = facts.spelled text has.models has.tokens;
  parsed = has.parse;
}

-- it is the normal form of the tree that was printed, but for positions
pub read_again : ReadingFacts → (printed : List ℕ) (tree again : Tree) → IsExpression tree → (is : IsCanonicalText tree printed) → HasTree printed again → bare again ≡ bare is.normal
read_again facts printed tree again of_tree is other =
    let back = facts.back tree printed of_tree is in
    let tokens : other.models ≡ back.tokens =
    facts.list printed other.models back.tokens (record { tokens = other.tokens.tokens; ends = other.tokens.ends }) back.list in
    let P : List TokenModel → Type 0 = λ (ts : List TokenModel). Derives or_level ts again in
    let same : again ≡ back.again = facts.tree back.tokens again back.again (subst P tokens other.parse.derived) back.derived in
    subst (λ (t : Tree). bare t ≡ bare is.normal) (sym same) (back.same is.normal is.is_normal)

pub printed_nodes : ReadingFacts → (slots : Slots) (root printed : List ℕ) (tree again : Tree) → IsExpression tree → IsCanonicalText tree printed → HasTree printed again
    → HaveSameTypesByNumber slots root (pre_order tree) (pre_order again)
printed_nodes facts slots root printed tree again of_tree is other =
    same_by_number facts.literals slots root tree is.normal again is.is_normal (read_again facts printed tree again of_tree is other)

pub printed_filters : ReadingFacts → (slots : Slots) (root text printed : List ℕ) (tree again : Tree) → HasTree text tree → IsCanonicalText tree printed → HasTree printed again
    → HasTyping slots root text tree ↔ HasTyping slots root printed again
printed_filters facts slots root text printed tree again has is other =
    let same : HaveSameTypes slots root tree again = same_types facts.literals slots root tree is.normal again is.is_normal (read_again facts printed tree again (expression facts text tree has) is other) in (
      λ typing. record { has_tree = other; type_of = typing.type_of; typed = (same [] typing.type_of).0 typing.typed; truth = typing.truth },
      λ typing. record { has_tree = has; type_of = typing.type_of; typed = (same [] typing.type_of).1 typing.typed; truth = typing.truth },
    )
