-- A tree has at most one normal form, which is its own, and depends on places in its places alone.
use Rattle.std.proofs.Common.{◌≡◌, ℕ, List, refl, sym, ◌∙◌, ap, subst}
use Rattle.odata_text.specs.LiteralSpelling.{IsLiteralSpelling}
use Rattle.odata_text.specs.Spelling.{Spells}
use Rattle.odata_text.specs.declared.token.TokenKind.{TokenKind}
use Rattle.odata_syntax.specs.NormalForm.{AreNormalForms, IsNormalForm, IsNormalShape, bare, bare_shape, bare_trees, literal_token}
use Rattle.odata_syntax.specs.Tree.{Shape, Tree, Trees, any_item, binary, call, count, has, in_list, in_path, it, lambda, literal, logical_not, member, more_trees, name, negation, no_trees, node, start_of, stop_of}

-- what is known of canonical spellings
pub record AreSpellings : Type 0 where
  pub one : (kind : TokenKind) (text first second : List ℕ) → IsLiteralSpelling kind text first → IsLiteralSpelling kind text second → first ≡ second
  pub spelled : (kind : TokenKind) (text spelling : List ℕ) → Spells kind text → IsLiteralSpelling kind text spelling → Spells kind spelling
  pub again : (kind : TokenKind) (text spelling : List ℕ) → IsLiteralSpelling kind text spelling → IsLiteralSpelling kind spelling spelling

-- places are kept

pub start-kept : (tree normal : Tree) → IsNormalForm tree normal → start_of normal ≡ start_of tree
start-kept (node start stop shape) normal is = ap start_of is.2

pub stop-kept : (tree normal : Tree) → IsNormalForm tree normal → stop_of normal ≡ stop_of tree
stop-kept (node start stop shape) normal is = ap stop_of is.2

-- at most one

mutual
  pub normal-one : AreSpellings → (tree a b : Tree) → IsNormalForm tree a → IsNormalForm tree b → a ≡ b
  normal-one law (node start stop shape) a b first second = first.2 ∙ ap (node start stop) (shape-one law shape first.0 second.0 first.1 second.1) ∙ sym second.2

  shape-one : AreSpellings → (shape a b : Shape) → IsNormalShape shape a → IsNormalShape shape b → a ≡ b
  shape-one law (literal kind text) a b f s = f.2 ∙ ap (literal kind) (law.one (literal_token kind) text f.0 s.0 f.1 s.1) ∙ sym s.2
  shape-one law it a b f s = f ∙ sym s
  shape-one law (name text) a b f s = f ∙ sym s
  shape-one law (member base text) a b f s = f.2 ∙ ap (λ (x : Tree). member x text) (normal-one law base f.0 s.0 f.1 s.1) ∙ sym s.2
  shape-one law (count base) a b f s = f.2 ∙ ap count (normal-one law base f.0 s.0 f.1 s.1) ∙ sym s.2
  shape-one law (negation operand) a b f s = f.2 ∙ ap negation (normal-one law operand f.0 s.0 f.1 s.1) ∙ sym s.2
  shape-one law (logical_not operand) a b f s = f.2 ∙ ap logical_not (normal-one law operand f.0 s.0 f.1 s.1) ∙ sym s.2
  shape-one law (binary operator left right) a b f s =
      f.4 ∙ (λ i. binary operator (normal-one law left f.0 s.0 f.2 s.2 i) (normal-one law right f.1 s.1 f.3 s.3 i)) ∙ sym s.4
  shape-one law (has left right) a b f s = f.4 ∙ (λ i. has (normal-one law left f.0 s.0 f.2 s.2 i) (normal-one law right f.1 s.1 f.3 s.3 i)) ∙ sym s.4
  shape-one law (in_list left items) a b f s = f.4 ∙ (λ i. in_list (normal-one law left f.0 s.0 f.2 s.2 i) (trees-one law items f.1 s.1 f.3 s.3 i)) ∙ sym s.4
  shape-one law (in_path left path) a b f s = f.4 ∙ (λ i. in_path (normal-one law left f.0 s.0 f.2 s.2 i) (normal-one law path f.1 s.1 f.3 s.3 i)) ∙ sym s.4
  shape-one law (call text arguments) a b f s = f.2 ∙ ap (call text) (trees-one law arguments f.0 s.0 f.1 s.1) ∙ sym s.2
  shape-one law (any_item base) a b f s = f.2 ∙ ap any_item (normal-one law base f.0 s.0 f.1 s.1) ∙ sym s.2
  shape-one law (lambda quantifier base variable body) a b f s =
      f.4 ∙ (λ i. lambda quantifier (normal-one law base f.0 s.0 f.2 s.2 i) variable (normal-one law body f.1 s.1 f.3 s.3 i)) ∙ sym s.4

  trees-one : AreSpellings → (trees a b : Trees) → AreNormalForms trees a → AreNormalForms trees b → a ≡ b
  trees-one law no_trees a b f s = f ∙ sym s
  trees-one law (more_trees tree trees) a b f s = f.4 ∙ (λ i. more_trees (normal-one law tree f.0 s.0 f.2 s.2 i) (trees-one law trees f.1 s.1 f.3 s.3 i)) ∙ sym s.4

-- its own

mutual
  pub normal-again : AreSpellings → (tree normal : Tree) → IsNormalForm tree normal → IsNormalForm normal normal
  normal-again law (node start stop shape) normal is =
      subst (λ (n : Tree). IsNormalForm n n) (sym is.2) (is.0, shape-again law shape is.0 is.1, refl)

  shape-again : AreSpellings → (shape normal : Shape) → IsNormalShape shape normal → IsNormalShape normal normal
  shape-again law (literal kind text) normal is = subst (λ (n : Shape). IsNormalShape n n) (sym is.2) (is.0, law.again (literal_token kind) text is.0 is.1, refl)
  shape-again law it normal is = subst (λ (n : Shape). IsNormalShape n n) (sym is) refl
  shape-again law (name text) normal is = subst (λ (n : Shape). IsNormalShape n n) (sym is) refl
  shape-again law (member base text) normal is = subst (λ (n : Shape). IsNormalShape n n) (sym is.2) (is.0, normal-again law base is.0 is.1, refl)
  shape-again law (count base) normal is = subst (λ (n : Shape). IsNormalShape n n) (sym is.2) (is.0, normal-again law base is.0 is.1, refl)
  shape-again law (negation operand) normal is = subst (λ (n : Shape). IsNormalShape n n) (sym is.2) (is.0, normal-again law operand is.0 is.1, refl)
  shape-again law (logical_not operand) normal is = subst (λ (n : Shape). IsNormalShape n n) (sym is.2) (is.0, normal-again law operand is.0 is.1, refl)
  shape-again law (binary operator left right) normal is =
      subst (λ (n : Shape). IsNormalShape n n) (sym is.4) (is.0, is.1, normal-again law left is.0 is.2, normal-again law right is.1 is.3, refl)
  shape-again law (has left right) normal is =
      subst (λ (n : Shape). IsNormalShape n n) (sym is.4) (is.0, is.1, normal-again law left is.0 is.2, normal-again law right is.1 is.3, refl)
  shape-again law (in_list left items) normal is =
      subst (λ (n : Shape). IsNormalShape n n) (sym is.4) (is.0, is.1, normal-again law left is.0 is.2, trees-again law items is.1 is.3, refl)
  shape-again law (in_path left path) normal is =
      subst (λ (n : Shape). IsNormalShape n n) (sym is.4) (is.0, is.1, normal-again law left is.0 is.2, normal-again law path is.1 is.3, refl)
  shape-again law (call text arguments) normal is = subst (λ (n : Shape). IsNormalShape n n) (sym is.2) (is.0, trees-again law arguments is.0 is.1, refl)
  shape-again law (any_item base) normal is = subst (λ (n : Shape). IsNormalShape n n) (sym is.2) (is.0, normal-again law base is.0 is.1, refl)
  shape-again law (lambda quantifier base variable body) normal is =
      subst (λ (n : Shape). IsNormalShape n n) (sym is.4) (is.0, is.1, normal-again law base is.0 is.2, normal-again law body is.1 is.3, refl)

  trees-again : AreSpellings → (trees normal : Trees) → AreNormalForms trees normal → AreNormalForms normal normal
  trees-again law no_trees normal is = subst (λ (n : Trees). AreNormalForms n n) (sym is) refl
  trees-again law (more_trees tree trees) normal is =
      subst (λ (n : Trees). AreNormalForms n n) (sym is.4) (is.0, is.1, normal-again law tree is.0 is.2, trees-again law trees is.1 is.3, refl)

-- without places

mutual
  pub normal-bare : (tree normal : Tree) → IsNormalForm tree normal → IsNormalForm (bare tree) (bare normal)
  normal-bare (node start stop shape) normal is = (bare_shape is.0, shape-bare shape is.0 is.1, ap bare is.2)

  shape-bare : (shape normal : Shape) → IsNormalShape shape normal → IsNormalShape (bare_shape shape) (bare_shape normal)
  shape-bare (literal kind text) normal is = (is.0, is.1, ap bare_shape is.2)
  shape-bare it normal is = ap bare_shape is
  shape-bare (name text) normal is = ap bare_shape is
  shape-bare (member base text) normal is = (bare is.0, normal-bare base is.0 is.1, ap bare_shape is.2)
  shape-bare (count base) normal is = (bare is.0, normal-bare base is.0 is.1, ap bare_shape is.2)
  shape-bare (negation operand) normal is = (bare is.0, normal-bare operand is.0 is.1, ap bare_shape is.2)
  shape-bare (logical_not operand) normal is = (bare is.0, normal-bare operand is.0 is.1, ap bare_shape is.2)
  shape-bare (binary operator left right) normal is = (bare is.0, bare is.1, normal-bare left is.0 is.2, normal-bare right is.1 is.3, ap bare_shape is.4)
  shape-bare (has left right) normal is = (bare is.0, bare is.1, normal-bare left is.0 is.2, normal-bare right is.1 is.3, ap bare_shape is.4)
  shape-bare (in_list left items) normal is = (bare is.0, bare_trees is.1, normal-bare left is.0 is.2, trees-bare items is.1 is.3, ap bare_shape is.4)
  shape-bare (in_path left path) normal is = (bare is.0, bare is.1, normal-bare left is.0 is.2, normal-bare path is.1 is.3, ap bare_shape is.4)
  shape-bare (call text arguments) normal is = (bare_trees is.0, trees-bare arguments is.0 is.1, ap bare_shape is.2)
  shape-bare (any_item base) normal is = (bare is.0, normal-bare base is.0 is.1, ap bare_shape is.2)
  shape-bare (lambda quantifier base variable body) normal is = (bare is.0, bare is.1, normal-bare base is.0 is.2, normal-bare body is.1 is.3, ap bare_shape is.4)

  trees-bare : (trees normal : Trees) → AreNormalForms trees normal → AreNormalForms (bare_trees trees) (bare_trees normal)
  trees-bare no_trees normal is = ap bare_trees is
  trees-bare (more_trees tree trees) normal is = (bare is.0, bare_trees is.1, normal-bare tree is.0 is.2, trees-bare trees is.1 is.3, ap bare_trees is.4)

-- trees that are one without their positions have one normal form without its positions
pub same-normal : AreSpellings → (a b m n : Tree) → bare a ≡ bare b → IsNormalForm a m → IsNormalForm b n → bare m ≡ bare n
same-normal law a b m n same first second =
    normal-one law (bare b) (bare m) (bare n) (subst (λ (t : Tree). IsNormalForm t (bare m)) same (normal-bare a m first)) (normal-bare b n second)

-- A tree that is a normal form without its positions is its own normal form.

mutual
  own-normal : (tree : Tree) → IsNormalForm (bare tree) (bare tree) → IsNormalForm tree tree
  own-normal (node start stop shape) is =
      let same : bare_shape shape ≡ is.0 = let e = is.2 in cc in
      (shape, own-shape shape is.0 same is.1, refl)

  own-shape : (shape other : Shape) → bare_shape shape ≡ other → IsNormalShape (bare_shape shape) other → IsNormalShape shape shape
  own-shape (literal kind text) other same is =
      let e = same ∙ is.2 in
      let text_is : is.0 ≡ text = cc in
      (text, subst (IsLiteralSpelling (literal_token kind) text) text_is is.1, refl)
  own-shape it other same is = refl
  own-shape (name text) other same is = refl
  own-shape (member base text) other same is = let e = same ∙ is.2 in let b : is.0 ≡ bare base = cc in (base, own-normal base (subst (IsNormalForm (bare base)) b is.1), refl)
  own-shape (count base) other same is = let e = same ∙ is.2 in let b : is.0 ≡ bare base = cc in (base, own-normal base (subst (IsNormalForm (bare base)) b is.1), refl)
  own-shape (negation operand) other same is = let e = same ∙ is.2 in let b : is.0 ≡ bare operand = cc in (operand, own-normal operand (subst (IsNormalForm (bare operand)) b is.1), refl)
  own-shape (logical_not operand) other same is = let e = same ∙ is.2 in let b : is.0 ≡ bare operand = cc in (operand, own-normal operand (subst (IsNormalForm (bare operand)) b is.1), refl)
  own-shape (binary operator left right) other same is =
      let e = same ∙ is.4 in
      let l : is.0 ≡ bare left = cc in
      let r : is.1 ≡ bare right = cc in
      (left, right, own-normal left (subst (IsNormalForm (bare left)) l is.2), own-normal right (subst (IsNormalForm (bare right)) r is.3), refl)
  own-shape (has left right) other same is =
      let e = same ∙ is.4 in
      let l : is.0 ≡ bare left = cc in
      let r : is.1 ≡ bare right = cc in
      (left, right, own-normal left (subst (IsNormalForm (bare left)) l is.2), own-normal right (subst (IsNormalForm (bare right)) r is.3), refl)
  own-shape (in_list left items) other same is =
      let e = same ∙ is.4 in
      let l : is.0 ≡ bare left = cc in
      let r : is.1 ≡ bare_trees items = cc in
      (left, items, own-normal left (subst (IsNormalForm (bare left)) l is.2), own-trees items (subst (AreNormalForms (bare_trees items)) r is.3), refl)
  own-shape (in_path left path) other same is =
      let e = same ∙ is.4 in
      let l : is.0 ≡ bare left = cc in
      let r : is.1 ≡ bare path = cc in
      (left, path, own-normal left (subst (IsNormalForm (bare left)) l is.2), own-normal path (subst (IsNormalForm (bare path)) r is.3), refl)
  own-shape (call text arguments) other same is =
      let e = same ∙ is.2 in
      let r : is.0 ≡ bare_trees arguments = cc in
      (arguments, own-trees arguments (subst (AreNormalForms (bare_trees arguments)) r is.1), refl)
  own-shape (any_item base) other same is = let e = same ∙ is.2 in let b : is.0 ≡ bare base = cc in (base, own-normal base (subst (IsNormalForm (bare base)) b is.1), refl)
  own-shape (lambda quantifier base variable body) other same is =
      let e = same ∙ is.4 in
      let l : is.0 ≡ bare base = cc in
      let r : is.1 ≡ bare body = cc in
      (base, body, own-normal base (subst (IsNormalForm (bare base)) l is.2), own-normal body (subst (IsNormalForm (bare body)) r is.3), refl)

  own-trees : (trees : Trees) → AreNormalForms (bare_trees trees) (bare_trees trees) → AreNormalForms trees trees
  own-trees no_trees is = refl
  own-trees (more_trees tree trees) is =
      let e = is.4 in
      let l : is.0 ≡ bare tree = cc in
      let r : is.1 ≡ bare_trees trees = cc in
      (tree, trees, own-normal tree (subst (IsNormalForm (bare tree)) l is.2), own-trees trees (subst (AreNormalForms (bare_trees trees)) r is.3), refl)

pub normal-as : (a b : Tree) → bare a ≡ bare b → IsNormalForm b b → IsNormalForm a a
normal-as a b same is = own-normal a (subst (λ (t : Tree). IsNormalForm t t) (sym same) (normal-bare b b is))
