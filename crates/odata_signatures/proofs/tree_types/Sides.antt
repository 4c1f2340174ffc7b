-- What a node asks of its sides, carried over to trees of the same types that quote the same.
use Rattle.std.proofs.Common.{◌≡◌, refl, sym, ap, ◌∙◌, subst, ℕ, List, [], ◌∷◌, Option}
use Rattle.odata_syntax.specs.NormalForm.{AreNormalForms, IsNormalForm, bare, bare_trees}
use Rattle.odata_syntax.specs.Tree.{Shape, Tree, Trees, any_item, binary, call, count, has, in_list, in_path, it, lambda, literal, logical_not, member, more_trees, name, negation, no_trees, node}
use Rattle.odata_syntax.specs.declared.node.LiteralKind.{LiteralKind}
use Rattle.csdl_schema.specs.ExprType.{ExprType}
use Rattle.odata_signatures.specs.Side.{Side, quoting}
use Rattle.odata_signatures.specs.Sides.{BeforeList, Between, quoted_text, sides_of}

-- trees one after another that quote the same
abbrev pub QuoteAlike : Trees → Trees → Type 0
QuoteAlike no_trees no_trees = Unit {0}
QuoteAlike (more_trees tree trees) (more_trees other others) = (quoted_text tree ≡ quoted_text other) × QuoteAlike trees others
QuoteAlike _ _ = ⊥

same_sides : (trees others : Trees) (types : List ExprType) → QuoteAlike trees others → sides_of trees types ≡ sides_of others types
same_sides no_trees no_trees types alike = refl
same_sides (more_trees tree trees) (more_trees other others) [] alike = refl
same_sides (more_trees tree trees) (more_trees other others) (type ∷ types) alike =
    ap (λ (quoted : Option (List ℕ)). quoting quoted type ∷ sides_of trees types) alike.0
    ∙ ap (λ (sides : List Side). quoting (quoted_text other) type ∷ sides) (same_sides trees others types alike.1)
same_sides no_trees (more_trees other others) types alike = absurd alike
same_sides (more_trees tree trees) no_trees types alike = absurd alike

pub between_carried : (Makes : Side → Side → ExprType → Type 0) (left right other another : Tree) (l r type : ExprType)
    → quoted_text left ≡ quoted_text other → quoted_text right ≡ quoted_text another → Between Makes left right l r type
    → Between Makes other another l r type
between_carried Makes left right other another l r type first second makes =
    subst (λ (quoted : Option (List ℕ)). Makes (quoting (quoted_text other) l) (quoting quoted r) type) second
    (subst (λ (quoted : Option (List ℕ)). Makes (quoting quoted l) (quoting (quoted_text right) r) type) first makes)

pub list_carried : (Makes : Side → List Side → ExprType → Type 0) (left other : Tree) (items others : Trees) (l : ExprType) (types : List ExprType) (type : ExprType)
    → quoted_text left ≡ quoted_text other → QuoteAlike items others → BeforeList Makes left items l types type
    → BeforeList Makes other others l types type
list_carried Makes left other items others l types type first alike makes =
    subst (λ (sides : List Side). Makes (quoting (quoted_text other) l) sides type) (same_sides items others types alike)
    (subst (λ (quoted : Option (List ℕ)). Makes (quoting quoted l) (sides_of items types) type) first makes)

-- ---- without places

quoted_literal : (start stop : ℕ) (kind : LiteralKind) (text : List ℕ) → quoted_text (node start stop (literal kind text)) ≡ quoted_text (node 0 0 (literal kind text))
quoted_literal start stop LiteralKind.Str text = refl
quoted_literal start stop _ text = refl

pub quoted_bare : (tree : Tree) → quoted_text tree ≡ quoted_text (bare tree)
quoted_bare (node start stop (literal kind text)) = quoted_literal start stop kind text
quoted_bare (node start stop it) = refl
quoted_bare (node start stop (name text)) = refl
quoted_bare (node start stop (member base text)) = refl
quoted_bare (node start stop (count base)) = refl
quoted_bare (node start stop (negation operand)) = refl
quoted_bare (node start stop (logical_not operand)) = refl
quoted_bare (node start stop (binary operator left right)) = refl
quoted_bare (node start stop (has left right)) = refl
quoted_bare (node start stop (in_list left items)) = refl
quoted_bare (node start stop (in_path left path)) = refl
quoted_bare (node start stop (call text arguments)) = refl
quoted_bare (node start stop (any_item base)) = refl
quoted_bare (node start stop (lambda quantifier base variable body)) = refl

pub alike_bare : (trees : Trees) → QuoteAlike trees (bare_trees trees)
alike_bare no_trees = tt
alike_bare (more_trees tree trees) = (quoted_bare tree, alike_bare trees)

pub turned : (trees others : Trees) → QuoteAlike trees others → QuoteAlike others trees
turned no_trees no_trees alike = tt
turned (more_trees tree trees) (more_trees other others) alike = (sym alike.0, turned trees others alike.1)
turned no_trees (more_trees other others) alike = absurd alike
turned (more_trees tree trees) no_trees alike = absurd alike

-- ---- in normal form

normal_literal : (start stop : ℕ) (kind : LiteralKind) (text : List ℕ) (normal : Tree) → IsNormalForm (node start stop (literal kind text)) normal
    → quoted_text (node start stop (literal kind text)) ≡ quoted_text normal
normal_literal start stop LiteralKind.Str text normal is =
    let same : is.0 ≡ literal LiteralKind.Str text = is.1.2 ∙ ap (λ (spelling : List ℕ). literal LiteralKind.Str spelling) is.1.1.is in
    sym (ap quoted_text (is.2 ∙ ap (λ (shape : Shape). node start stop shape) same))
normal_literal start stop LiteralKind.Null text normal is = sym (ap quoted_text (is.2 ∙ ap (λ (shape : Shape). node start stop shape) is.1.2))
normal_literal start stop LiteralKind.Bool text normal is = sym (ap quoted_text (is.2 ∙ ap (λ (shape : Shape). node start stop shape) is.1.2))
normal_literal start stop LiteralKind.Int text normal is = sym (ap quoted_text (is.2 ∙ ap (λ (shape : Shape). node start stop shape) is.1.2))
normal_literal start stop LiteralKind.Date text normal is = sym (ap quoted_text (is.2 ∙ ap (λ (shape : Shape). node start stop shape) is.1.2))
normal_literal start stop LiteralKind.Moment text normal is = sym (ap quoted_text (is.2 ∙ ap (λ (shape : Shape). node start stop shape) is.1.2))
normal_literal start stop LiteralKind.Guid text normal is = sym (ap quoted_text (is.2 ∙ ap (λ (shape : Shape). node start stop shape) is.1.2))
normal_literal start stop LiteralKind.EnumLit text normal is = sym (ap quoted_text (is.2 ∙ ap (λ (shape : Shape). node start stop shape) is.1.2))

-- what the normal form quotes, by its shape
by_shape : (start stop : ℕ) (other shape : Shape) (normal : Tree) → normal ≡ node start stop other → other ≡ shape → quoted_text (node start stop shape) ≡ quoted_text normal
by_shape start stop other shape normal is same = sym (ap quoted_text (is ∙ ap (λ (s : Shape). node start stop s) same))

pub quoted_normal : (tree normal : Tree) → IsNormalForm tree normal → quoted_text tree ≡ quoted_text normal
quoted_normal (node start stop (literal kind text)) normal is = normal_literal start stop kind text normal is
quoted_normal (node start stop it) normal is = by_shape start stop is.0 it normal is.2 is.1
quoted_normal (node start stop (name text)) normal is = by_shape start stop is.0 (name text) normal is.2 is.1
quoted_normal (node start stop (member base text)) normal is = by_shape start stop is.0 (member is.1.0 text) normal is.2 is.1.2
quoted_normal (node start stop (count base)) normal is = by_shape start stop is.0 (count is.1.0) normal is.2 is.1.2
quoted_normal (node start stop (negation operand)) normal is = by_shape start stop is.0 (negation is.1.0) normal is.2 is.1.2
quoted_normal (node start stop (logical_not operand)) normal is = by_shape start stop is.0 (logical_not is.1.0) normal is.2 is.1.2
quoted_normal (node start stop (binary operator left right)) normal is = by_shape start stop is.0 (binary operator is.1.0 is.1.1) normal is.2 is.1.4
quoted_normal (node start stop (has left right)) normal is = by_shape start stop is.0 (has is.1.0 is.1.1) normal is.2 is.1.4
quoted_normal (node start stop (in_list left items)) normal is = by_shape start stop is.0 (in_list is.1.0 is.1.1) normal is.2 is.1.4
quoted_normal (node start stop (in_path left path)) normal is = by_shape start stop is.0 (in_path is.1.0 is.1.1) normal is.2 is.1.4
quoted_normal (node start stop (call text arguments)) normal is = by_shape start stop is.0 (call text is.1.0) normal is.2 is.1.2
quoted_normal (node start stop (any_item base)) normal is = by_shape start stop is.0 (any_item is.1.0) normal is.2 is.1.2
quoted_normal (node start stop (lambda quantifier base variable body)) normal is = by_shape start stop is.0 (lambda quantifier is.1.0 variable is.1.1) normal is.2 is.1.4

pub alike_normal : (trees normals : Trees) → AreNormalForms trees normals → QuoteAlike trees normals
alike_normal no_trees normals are = subst (λ (ts : Trees). QuoteAlike no_trees ts) (sym are) tt
alike_normal (more_trees tree trees) normals are =
    subst (λ (ts : Trees). QuoteAlike (more_trees tree trees) ts) (sym are.4) (quoted_normal tree are.0 are.2, alike_normal trees are.1 are.3)
