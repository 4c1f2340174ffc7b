-- What is known of a derived tree: its names and literals are spelled, and its paths are paths.
use Rattle.std.proofs.Common.{◌≡◌, ℕ, ◌≤◌, Bool, IsTrue, ◌||◌, List, [], ◌∷◌, ◌++◌, arith, refl, sym, subst}
use Rattle.std.specs.List.{AllByRecursion as AllOf, list_any}
use Rattle.std.specs.Str.{str_to_ascii_lowercase}
use Rattle.odata_text.specs.Spelling.{IsWordSpelling, Spells}
use Rattle.odata_text.specs.TokenModel.{TokenModel}
use Rattle.odata_text.specs.declared.token.TokenKind.{TokenKind}
use Rattle.odata_syntax.specs.CanonicalText.{tree_level}
use Rattle.odata_syntax.specs.Grammar.{Derives, DerivesFurther, DerivesItems, Level, derives_any_item, derives_binary, derives_call, derives_count, derives_group, derives_has, derives_in_list, derives_in_path, derives_it, derives_lambda, derives_literal, derives_member, derives_name, derives_negation, derives_not, function_name, looser, no_further, no_items, one_further, open_path_level, path_level, some_items}
use Rattle.odata_syntax.specs.Lexeme.{IsA, IsLiteral, IsName, IsVariable, reserved_words, same_word}
use Rattle.odata_text.specs.TokenSequence.{AreTextTokens}
use Rattle.odata_syntax.specs.Tree.{Shape, Tree, Trees, any_item, binary, call, count, has, in_list, in_path, it, lambda, literal, logical_not, member, more_trees, name, negation, no_trees, node, shape_of}
use Rattle.odata_syntax.proofs.machine.Reading.{operator_level-bounds}
use Rattle.odata_syntax.proofs.normal_forms.NormalDerived.{lower-word, lowered-again}

-- some token of this role has the text, and is spelled by its kind
pub record IsTextOfRole (Role : TokenModel → Type 0) (text : List ℕ) : Type 0 where
  pub token : TokenModel
  pub role : Role token
  pub text_is : token.text ≡ text
  pub spelled : Spells token.kind token.text

abbrev mutual
  pub IsReadable : Tree → Type 0
  IsReadable (node start stop shape) = IsReadableShape shape

  pub IsReadableShape : Shape → Type 0
  IsReadableShape (literal kind text) = IsTextOfRole (IsLiteral kind) text
  IsReadableShape it = Unit {0}
  IsReadableShape (name text) = IsTextOfRole IsName text
  IsReadableShape (member base text) = IsReadable base × (open_path_level ≤ tree_level base) × IsTextOfRole (IsA TokenKind.Word) text
  IsReadableShape (count base) = IsReadable base × (open_path_level ≤ tree_level base)
  IsReadableShape (negation operand) = IsReadable operand
  IsReadableShape (logical_not operand) = IsReadable operand
  IsReadableShape (binary operator left right) = IsReadable left × IsReadable right
  IsReadableShape (has left right) = IsReadable left × IsReadable right
  IsReadableShape (in_list left items) = IsReadable left × AreReadable items
  IsReadableShape (in_path left path) = IsReadable left × IsReadable path × (path_level ≤ tree_level path)
  IsReadableShape (call text arguments) = IsTextOfRole IsName text × AreReadable arguments × (str_to_ascii_lowercase text ≡ text)
  IsReadableShape (any_item base) = IsReadable base × (open_path_level ≤ tree_level base)
  IsReadableShape (lambda quantifier base variable body) =
      IsReadable base × (open_path_level ≤ tree_level base) × IsTextOfRole IsVariable variable × IsReadable body

  pub AreReadable : Trees → Type 0
  AreReadable no_trees = Unit {0}
  AreReadable (more_trees tree trees) = IsReadable tree × AreReadable trees

-- Each token is spelled by its kind.

abbrev pub AreSpelled : List TokenModel → Type 0
AreSpelled = AllOf (λ (t : TokenModel). Spells t.kind t.text)

pub spelled_tokens : (from len : ℕ) (ts : List TokenModel) → AreTextTokens from len ts → AreSpelled ts
spelled_tokens from len [] of_text = tt
spelled_tokens from len (t ∷ ts) of_text = (of_text.0.spelled, spelled_tokens t.stop len ts of_text.1)

in_front : (ts us : List TokenModel) → AreSpelled (ts ++ us) → AreSpelled ts
in_front [] us all = tt
in_front (t ∷ ts) us all = (all.0, in_front ts us all.1)

at_back : (ts us : List TokenModel) → AreSpelled (ts ++ us) → AreSpelled us
at_back [] us all = all
at_back (t ∷ ts) us all = at_back ts us all.1

-- A path's level is its tree's.

pub tall : {level : Level} {ts : List TokenModel} {tree : Tree} → Derives level ts tree → path_level ≤ level → level ≤ tree_level tree
tall (looser {level} d) high = let inner = tall d (omega arith) in omega arith
tall (derives_binary {operator} l o r) high = let low = operator_level-bounds operator in absurd (omega arith)
tall (derives_negation m d) high = absurd (omega arith)
tall (derives_not w d) high = absurd (omega arith)
tall (derives_has l w r) high = absurd (omega arith)
tall (derives_in_list l w o d c) high = absurd (omega arith)
tall (derives_in_path l w r) high = absurd (omega arith)
tall (derives_literal l) high = absurd (omega arith)
tall (derives_call n o d c) high = absurd (omega arith)
tall (derives_group o d c) high = absurd (omega arith)
tall (derives_count d s w) high = omega arith
tall (derives_any_item d s q o c) high = omega arith
tall (derives_lambda d s q o v k e c) high = omega arith
tall (derives_it w) high = omega arith
tall (derives_name n) high = omega arith
tall (derives_member d s w) high = omega arith

-- Trees.

of_role : (Role : TokenModel → Type 0) (t : TokenModel) → Role t → Spells t.kind t.text → IsTextOfRole Role t.text
of_role Role t role spelled = record { token = t; role = role; text_is = refl; spelled = spelled }

-- a word in lower case is a word
abbrev pub LowersWords : Type 0
LowersWords = (word : List ℕ) → IsWordSpelling word → IsWordSpelling (str_to_ascii_lowercase word)

-- so a name is one
lower-free : (text : List ℕ) (words : List (List ℕ)) → list_any (same_word (str_to_ascii_lowercase text)) words ≡ list_any (same_word text) words
lower-free text [] = refl
lower-free text (word ∷ words) = λ i. lower-word text word i || lower-free text words i

lower-name : LowersWords → (t : TokenModel) → IsName t → Spells t.kind t.text → IsTextOfRole IsName (function_name t)
lower-name law t n spelled = record {
  token = record { kind = TokenKind.Word; start = t.start; stop = t.stop; text = function_name t };
  role = record { of_kind = refl; free = subst (λ (b : Bool). ¬ (IsTrue b)) (sym (lower-free t.text reserved_words)) n.free };
  text_is = refl;
  spelled = law t.text (subst (λ (k : TokenKind). Spells k t.text) n.of_kind spelled);
}

regrouped : (tree : Tree) → IsReadable tree → IsReadableShape (shape_of tree)
regrouped (node start stop shape) readable = readable

mutual
  pub readable : LowersWords → {level : Level} {ts : List TokenModel} {tree : Tree} → Derives level ts tree → AreSpelled ts → IsReadable tree
  readable law (looser d) all = readable law d all
  readable law (derives_binary {operator} {ls} {rs} {t} l o r) all = (readable law l (in_front ls (t ∷ rs) all), readable law r (at_back ls (t ∷ rs) all).1)
  readable law (derives_negation m d) all = readable law d all.1
  readable law (derives_not w d) all = readable law d all.1
  readable law (derives_has {ls} {rs} {t} l w r) all = (readable law l (in_front ls (t ∷ rs) all), readable law r (at_back ls (t ∷ rs) all).1)
  readable law (derives_in_list {ls} {is} {t} {first} {last} l w o d c) all =
      (readable law l (in_front ls (t ∷ (first ∷ (is ++ (last ∷ [])))) all), readable_items law d (in_front is (last ∷ []) (at_back ls (t ∷ (first ∷ (is ++ (last ∷ [])))) all).1.1))
  readable law (derives_in_path {ls} {rs} {t} l w r) all = (readable law l (in_front ls (t ∷ rs) all), readable law r (at_back ls (t ∷ rs) all).1, tall r (omega arith))
  readable law (derives_literal {kind} {t} l) all = of_role (IsLiteral kind) t l all.0
  readable law (derives_call {is} {t} {first} {last} n o d c) all = (lower-name law t n all.0, readable_items law d (in_front is (last ∷ []) all.1.1), lowered-again t.text)
  readable law (derives_group {ts} {first} {last} {tree} o d c) all = regrouped tree (readable law d (in_front ts (last ∷ []) all.1))
  readable law (derives_count {bs} {slash} {t} d s w) all = (readable law d (in_front bs (slash ∷ (t ∷ [])) all), tall d (omega arith))
  readable law (derives_any_item {bs} {slash} {t} {first} {last} d s q o c) all = (readable law d (in_front bs (slash ∷ (t ∷ (first ∷ (last ∷ [])))) all), tall d (omega arith))
  readable law (derives_lambda {quantifier} {bs} {ts} {slash} {t} {first} {variable} {colon} {last} d s q o v k e c) all =
      let rest = at_back bs (slash ∷ (t ∷ (first ∷ (variable ∷ (colon ∷ (ts ++ (last ∷ []))))))) all in (
        readable law d (in_front bs (slash ∷ (t ∷ (first ∷ (variable ∷ (colon ∷ (ts ++ (last ∷ []))))))) all),
        tall d (omega arith),
        of_role IsVariable variable v rest.1.1.1.0,
        readable law e (in_front ts (last ∷ []) rest.1.1.1.1.1),
      )
  readable law (derives_it w) all = tt
  readable law (derives_name {t} n) all = of_role IsName t n all.0
  readable law (derives_member {bs} {slash} {t} d s w) all =
      (readable law d (in_front bs (slash ∷ (t ∷ [])) all), tall d (omega arith), of_role (IsA TokenKind.Word) t w (at_back bs (slash ∷ (t ∷ [])) all).1.0)

  readable_items : LowersWords → {ts : List TokenModel} {trees : Trees} → DerivesItems ts trees → AreSpelled ts → AreReadable trees
  readable_items law no_items all = tt
  readable_items law (some_items {ts} {rs} d f) all = (readable law d (in_front ts rs all), readable_further law f (at_back ts rs all))

  readable_further : LowersWords → {ts : List TokenModel} {trees : Trees} → DerivesFurther ts trees → AreSpelled ts → AreReadable trees
  readable_further law no_further all = tt
  readable_further law (one_further {comma} {ts} {rs} k d f) all = (readable law d (in_front ts rs all.1), readable_further law f (at_back ts rs all.1))
