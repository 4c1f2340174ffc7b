-- What a canonical text is read back as (OData URL Conventions 4.01, section 5.1.1).
use Rattle.std.specs.Prelude.{◌≡◌, ◌≤◌, ℕ, List, length}
use Rattle.odata_text.specs.TokenModel.{TokenModel}
use Rattle.odata_text.specs.TokenSequence.{AreTokensOf}
use Rattle.odata_text.specs.Tokens.{IsTokenList, text_limit, token_limit}
use Rattle.odata_syntax.specs.CanonicalText.{IsCanonicalText}
use Rattle.odata_syntax.specs.Front.{IsShallow}
use Rattle.odata_syntax.specs.Grammar.{Derives, or_level}
use Rattle.odata_syntax.specs.NormalForm.{IsNormalForm, bare}
use Rattle.odata_syntax.specs.Tree.{Tree}

-- the text has tokens, they are a tree and nowhere too deep, that tree is the normal form of the one printed but for
-- offsets, and it is printed as the same text; within the limits of a text the tokens are what is read of it
pub record IsReadBack (tree : Tree) (text : List ℕ) : Type 0 where
  pub tokens : List TokenModel
  pub again : Tree
  pub list : AreTokensOf text tokens
  pub derived : Derives or_level tokens again
  pub shallow : IsShallow tokens
  pub same : (normal : Tree) → IsNormalForm tree normal → bare again ≡ bare normal
  pub prints : IsCanonicalText again text
  pub read : length text ≤ text_limit → length tokens ≤ token_limit → IsTokenList text tokens
