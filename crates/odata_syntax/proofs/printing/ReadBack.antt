-- A canonical text is read back as the normal form.
use Rattle.std.proofs.Common.{◌≡◌, ◌↔◌, ℕ, List, [], ◌++◌, sym, ◌∙◌, ap, subst, append-nil}
use Rattle.odata_text.specs.Printing.{ArePrintable, Print, print_text, print_tokens}
use Rattle.odata_text.specs.TokenModel.{TokenModel}
use Rattle.odata_text.specs.TokenSequence.{AreTokensOf}
use Rattle.odata_syntax.specs.CanonicalText.{IsCanonicalText, tree_level, tree_text}
use Rattle.odata_syntax.specs.Front.{IsShallow}
use Rattle.odata_syntax.specs.Grammar.{Derives, or_level}
use Rattle.odata_syntax.specs.NormalForm.{IsNormalForm, bare}
use Rattle.odata_syntax.specs.Parse.{IsExpression}
use Rattle.odata_syntax.specs.ReadBack.{IsReadBack}
use Rattle.odata_syntax.specs.Tree.{Tree}
use Rattle.odata_syntax.proofs.normal_forms.NormalDerived.{normal_expression}
use Rattle.odata_syntax.proofs.normal_forms.NormalTrees.{AreSpellings, normal-again, normal-as, normal-one}
use Rattle.odata_syntax.proofs.printing.Again.{at_level, printed_like, read_tree, some_level}
use Rattle.odata_syntax.proofs.printing.BareTexts.{same-text}
use Rattle.odata_syntax.proofs.printing.Pieces.{pieces, text-pieces}
use Rattle.odata_syntax.proofs.printing.Printable.{LettersAreIdentifiers, printable, white_none}
use Rattle.odata_syntax.proofs.printing.Readable.{LowersWords, readable, spelled_tokens}
use Rattle.odata_syntax.proofs.printing.Shallow.{printed_shallow}

-- what is known of texts, from the crate of tokens
pub record AreTexts : Type 0 where
  pub spellings : AreSpellings
  pub lowers : LowersWords
  pub letters : LettersAreIdentifiers
  pub printed : (prints : List Print) → ArePrintable prints → AreTokensOf (print_text prints) (print_tokens 0 prints)
  pub one : (text : List ℕ) (a b : List TokenModel) → AreTokensOf text a → AreTokensOf text b → a ≡ b

-- the tokens of an expression's text, and the tree that they derive
pub record IsReadAs (tree : Tree) (text : List ℕ) : Type 0 where
  pub tokens : List TokenModel
  pub again : Tree
  pub list : AreTokensOf text tokens
  pub derived : Derives or_level tokens again
  pub shallow : IsShallow tokens
  pub same : bare again ≡ bare tree

pub text_read : AreTexts → (tree : Tree) → IsExpression tree → IsReadAs tree (tree_text tree)
text_read law tree is =
    let can = readable law.lowers is.parsed.derived (spelled_tokens 0 is.length is.tokens is.of_text) in
    let prints = pieces tree [] [] in
    let list = law.printed prints (printable law.letters tree can [] [] white_none tt tt) in
    let text : print_text prints ≡ tree_text tree = text-pieces tree [] [] ∙ append-nil (tree_text tree) in
    let read = read_tree tree can [] [] (print_tokens 0 prints) (printed_like 0 prints) in
    let all : print_tokens 0 prints ≡ read.own = read.split ∙ ap (λ (xs : List TokenModel). read.own ++ xs) read.like ∙ append-nil read.own in
    record {
      tokens = print_tokens 0 prints;
      again = read.again;
      list = subst (λ (xs : List ℕ). AreTokensOf xs (print_tokens 0 prints)) text list;
      derived = subst (λ (xs : List TokenModel). Derives or_level xs read.again) (sym all) (at_level or_level (tree_level tree) (some_level tree) read.derived);
      shallow = printed_shallow is.tokens tree is.parsed.derived is.parsed.shallow;
      same = read.same;
    }

pub read_back : AreTexts → (tree : Tree) (text : List ℕ) → IsExpression tree → IsCanonicalText tree text → IsReadBack tree text
read_back law tree text is canonical =
    let n = canonical.normal in
    let read = text_read law n (normal_expression law.spellings tree n is canonical.is_normal) in
    let list = subst (λ (xs : List ℕ). AreTokensOf xs read.tokens) (sym canonical.printed) read.list in
    record {
      tokens = read.tokens;
      again = read.again;
      list = list;
      derived = read.derived;
      shallow = read.shallow;
      same = λ normal form. read.same ∙ ap bare (normal-one law.spellings tree n normal canonical.is_normal form);
      prints = record {
        normal = read.again;
        is_normal = normal-as read.again n read.same (normal-again law.spellings tree n canonical.is_normal);
        printed = canonical.printed ∙ sym (same-text read.again n read.same);
      };
      read = λ short few. record { short = short; few = few; tokens = list.tokens; ends = list.ends };
    }

pub one_text : AreSpellings → (tree : Tree) (a b : List ℕ) → IsCanonicalText tree a → IsCanonicalText tree b → a ≡ b
one_text law tree a b first second = first.printed ∙ ap tree_text (normal-one law tree first.normal second.normal first.is_normal second.is_normal) ∙ sym second.printed

-- tokens are one expression at most
abbrev pub OneTree : Type 0
OneTree = (ts : List TokenModel) (tree other : Tree) → Derives or_level ts tree → Derives or_level ts other → tree ≡ other

same_bare : AreTexts → OneTree → (m n : Tree) → IsExpression m → IsExpression n → tree_text m ≡ tree_text n → bare m ≡ bare n
same_bare law one m n m_is n_is same =
    let a = text_read law m m_is in
    let b = text_read law n n_is in
    let lists : a.tokens ≡ b.tokens = law.one (tree_text n) a.tokens b.tokens (subst (λ (xs : List ℕ). AreTokensOf xs a.tokens) same a.list) b.list in
    let trees : a.again ≡ b.again = one b.tokens a.again b.again (subst (λ (ts : List TokenModel). Derives or_level ts a.again) lists a.derived) b.derived in
    sym a.same ∙ ap bare trees ∙ b.same

pub alike : AreTexts → OneTree → (a b m n : Tree) (s t : List ℕ) → IsExpression a → IsExpression b → IsCanonicalText a s → IsCanonicalText b t → IsNormalForm a m → IsNormalForm b n → (s ≡ t) ↔ (bare m ≡ bare n)
alike law one a b m n s t a_is b_is first second m_is n_is =
    let am : s ≡ tree_text m = first.printed ∙ ap tree_text (normal-one law.spellings a first.normal m first.is_normal m_is) in
    let bn : t ≡ tree_text n = second.printed ∙ ap tree_text (normal-one law.spellings b second.normal n second.is_normal n_is) in (
      (λ same. same_bare law one m n (normal_expression law.spellings a m a_is m_is) (normal_expression law.spellings b n b_is n_is) (sym am ∙ same ∙ bn)),
      (λ same. am ∙ same-text m n same ∙ sym bn),
    )
