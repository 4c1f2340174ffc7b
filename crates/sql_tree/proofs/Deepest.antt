-- How deeply the trees nest that stand one after another.
use Rattle.std.proofs.Common.{◌≡◌, ◌∙◌, ◌<◌, ◌≤◌, ◌+◌, ◌-◌, ◌^◌, ◌++◌, ℕ, List, [], ◌∷◌, Option, Some, None, take, reverse, refl, sym, ap, subst, append-nil, append_assoc, arith}
use Rattle.std.specs.Option.{option_to_list}
use Rattle.std.specs.Prelude.{MatchOption, max, min}
use Rattle.std.proofs.lemmas.List.{reverse-append}
use Rattle.sql_tree.specs.ParserDepth.{kept_symbols, own_of_field, own_of_function, own_symbols, symbols_among, symbols_of}
use Rattle.sql_tree.specs.TableModel.{TableModel}
use Rattle.sql_tree.specs.Term.{Term, Terms, term, no_terms, more_terms, nodes_of, nodes_of_all}
use Rattle.sql_tree.specs.TreeText.{AreWhole, IsWhole, count_of}
use Rattle.sql_tree.specs.declared.dialect.Dialect.{Dialect}
use Rattle.edm_values.specs.declared.primitive.PrimitiveType.{PrimitiveType}
use Rattle.sql_tree.specs.declared.sql_node.FieldType.{FieldType}
use Rattle.sql_tree.specs.declared.sql_node.SqlFunction.{SqlFunction}
use Rattle.sql_tree.specs.declared.sql_node.SqlNode.{SqlNode}
use Rattle.sql_tree.specs.declared.json_path.Path.{Path}
use Rattle.sql_tree.specs.private.Depths.{AreDepths, joined}

-- ---- what a number is taken from

last_there : (depth : ℕ) (below new : List ℕ) (x : ℕ) → x ∷ reverse new ≡ depth ∷ below → (x ≡ depth) × (reverse new ≡ below)
last_there depth below new x same = (cc, cc)

pub taken : (all new : List ℕ) (x : ℕ) → all ≡ new ++ x ∷ [] → (depth : ℕ) (below : List ℕ) → reverse all ≡ depth ∷ below → (x ≡ depth) × (reverse new ≡ below)
taken all new x items depth below is = last_there depth below new x (sym (reverse-append new (x ∷ [])) ∙ ap reverse (sym items) ∙ is)

pub pushed : (all old : List ℕ) (x : ℕ) → all ≡ old ++ x ∷ [] → reverse all ≡ x ∷ reverse old
pushed all old x items = ap reverse items ∙ reverse-append old (x ∷ [])

pub nothing_taken : (o : Option ℕ) (all new : List ℕ) (n m : ℕ) → o ≡ None → all ≡ new ++ option_to_list o → MatchOption o ((n ≡ 0) × (m ≡ 0)) (λ _. m + 1 ≡ n) → new ≡ take (n - 1) all → all ≡ []
nothing_taken None all new n m is items cases rest =
    let zero : n ≡ 0 = cases.0 in
    let before : n - 1 ≡ 0 = omega arith in
    items ∙ append-nil new ∙ rest ∙ ap (λ (k : ℕ). take k all) before
nothing_taken (Some x) all new n m is items cases rest = cc

pub empty_none : (all : List ℕ) → all ≡ [] → (depth : ℕ) (below : List ℕ) → reverse all ≡ depth ∷ below → ⊥
empty_none all none depth below is = let both : [] ≡ depth ∷ below = sym (ap reverse none) ∙ is in cc

-- ---- the symbols of a node itself

field_fits : (type : FieldType) → own_of_field type ≤ 37
field_fits (FieldType.Prim PrimitiveType.Guid) = omega arith
field_fits (FieldType.Prim _) = omega arith
field_fits (FieldType.Enum id) = omega arith

function_fits : (function : SqlFunction) → own_of_function function ≤ 37
function_fits SqlFunction.Instant = omega arith
function_fits SqlFunction.OffsetMinutes = omega arith
function_fits SqlFunction.Second = omega arith
function_fits SqlFunction.StartsWith = omega arith
function_fits SqlFunction.EndsWith = omega arith
function_fits SqlFunction.RestFrom = omega arith
function_fits SqlFunction.PartFrom = omega arith
function_fits SqlFunction.Trim = omega arith
function_fits _ = omega arith

own_fits : (node : SqlNode) → own_symbols node ≤ 37
own_fits (SqlNode.Field path type) = field_fits type
own_fits (SqlNode.Exists path level) = omega arith
own_fits (SqlNode.Least path level) = omega arith
own_fits (SqlNode.Count path) = omega arith
own_fits (SqlNode.IsMissing path) = omega arith
own_fits (SqlNode.Function function) = function_fits function
own_fits _ = omega arith

-- ---- the children of a node

-- so many of its children have ended; the numbers are of those left, and of what comes after
pub record IsPartway (node : SqlNode) (children rest : Terms) (done deepest : ℕ) (depths : List ℕ) : Type 0 where
  pub left : Terms
  pub counted : count_of left + done ≡ count_of children
  pub fits : deepest ≤ 2 ^ 64 - 1
  pub most : min (max deepest (symbols_among node done left)) (2 ^ 64 - 1) ≡ min (symbols_of (term node children)) (2 ^ 64 - 1)
  pub are : AreDepths depths (joined left rest)

pub none_done : (node : SqlNode) (children rest : Terms) (depths : List ℕ) → AreDepths depths (joined children rest) → IsPartway node children rest 0 (own_symbols node) depths
none_done node children rest depths are = record {
  left = children;
  counted = omega arith;
  fits = omega (arith, own_fits node);
  most = refl;
  are = are;
}

-- a child more, of so many symbols, beside which so many are kept
with_child : (before kept symbols after depth here : ℕ) → depth ≡ min symbols (2 ^ 64 - 1) → here ≡ min (kept + depth) (2 ^ 64 - 1)
    → min (max (max before here) after) (2 ^ 64 - 1) ≡ min (max before (max (kept + symbols) after)) (2 ^ 64 - 1)
with_child before kept symbols after depth here is sum = omega (arith, is, sum)

module _ (node : SqlNode) (children rest : Terms) (done deepest depth here : ℕ) (within : done < count_of children) (sum : here ≡ min (kept_symbols node done + depth) (2 ^ 64 - 1)) where
  next_left : (left : Terms) (depths new : List ℕ) → ((d : ℕ) (below : List ℕ) → depths ≡ d ∷ below → (depth ≡ d) × (new ≡ below)) → count_of left + done ≡ count_of children
      → deepest ≤ 2 ^ 64 - 1 → min (max deepest (symbols_among node done left)) (2 ^ 64 - 1) ≡ min (symbols_of (term node children)) (2 ^ 64 - 1) → AreDepths depths (joined left rest)
      → IsPartway node children rest (done + 1) (max deepest here) new
  next_left no_terms depths new takes counted fits most are = absurd (omega (arith, counted, within))
  next_left (more_terms first more) [] new takes counted fits most are = absurd are
  next_left (more_terms first more) (d ∷ below) new takes counted fits most are =
      let both = takes d below refl in
      record {
        left = more;
        counted = omega (arith, counted);
        fits = omega (arith, fits, sum);
        most = with_child deepest (kept_symbols node done) (symbols_of first) (symbols_among node (done + 1) more) depth here (both.0 ∙ are.0) sum ∙ most;
        are = subst (λ (ds : List ℕ). AreDepths ds (joined more rest)) (sym both.1) are.1;
      }

  pub one_done : (depths new : List ℕ) → ((d : ℕ) (below : List ℕ) → depths ≡ d ∷ below → (depth ≡ d) × (new ≡ below)) → IsPartway node children rest done deepest depths
      → IsPartway node children rest (done + 1) (max deepest here) new
  one_done depths new takes is = next_left is.left depths new takes is.counted is.fits is.most is.are

-- no child is left
none_more : (node : SqlNode) (children rest : Terms) (done deepest : ℕ) (left : Terms) (depths : List ℕ) → count_of left ≡ 0 → deepest ≤ 2 ^ 64 - 1
    → min (max deepest (symbols_among node done left)) (2 ^ 64 - 1) ≡ min (symbols_of (term node children)) (2 ^ 64 - 1) → AreDepths depths (joined left rest)
    → (deepest ≡ min (symbols_of (term node children)) (2 ^ 64 - 1)) × AreDepths depths rest
none_more node children rest done deepest no_terms depths none fits most are =
    let alone : deepest ≡ min (max deepest 0) (2 ^ 64 - 1) = omega (arith, fits) in
    (alone ∙ most, are)
none_more node children rest done deepest (more_terms first more) depths none fits most are = absurd (omega (arith, none))

pub all_done : (node : SqlNode) (children rest : Terms) (done deepest : ℕ) (depths : List ℕ) → count_of children ≤ done → IsPartway node children rest done deepest depths
    → (deepest ≡ min (symbols_of (term node children)) (2 ^ 64 - 1)) × AreDepths depths rest
all_done node children rest done deepest depths past is =
    let counted = is.counted in
    none_more node children rest done deepest is.left depths (omega (arith, counted, past)) is.fits is.most is.are

-- ---- terms one after another

joined_nodes : (first more : Terms) → nodes_of_all (joined first more) ≡ nodes_of_all first ++ nodes_of_all more
joined_nodes no_terms more = refl
joined_nodes (more_terms first rest) more =
    ap (λ (nodes : List SqlNode). nodes_of first ++ nodes) (joined_nodes rest more) ∙ sym (append_assoc (nodes_of first) (nodes_of_all rest) (nodes_of_all more))

module _ (table : TableModel) (paths : List Path) where
  joined_whole : (first more : Terms) → AreWhole Dialect.Sqlite table paths first → AreWhole Dialect.Sqlite table paths more → AreWhole Dialect.Sqlite table paths (joined first more)
  joined_whole no_terms more whole others = others
  joined_whole (more_terms first rest) more whole others = (whole.0, joined_whole rest more whole.1 others)

  -- whatever trees the nodes are of
  abbrev pub AreCounted : List SqlNode → List ℕ → Type 0
  AreCounted nodes depths = (terms : Terms) → nodes ≡ nodes_of_all terms → AreWhole Dialect.Sqlite table paths terms → AreDepths depths terms

  pub none_counted : (nodes : List SqlNode) (depths : List ℕ) → nodes ≡ [] → depths ≡ [] → AreCounted nodes depths
  none_counted nodes depths no_nodes no_depths no_terms is whole = subst (λ (ds : List ℕ). AreDepths ds no_terms) (sym no_depths) tt
  none_counted nodes depths no_nodes no_depths (more_terms (term node children) rest) is whole = let both : [] ≡ node ∷ (nodes_of_all children ++ nodes_of_all rest) = sym no_nodes ∙ is in absurd (cc)

  -- a node before these, after the numbers of its children have been taken
  pub one_counted : (node : SqlNode) (nodes : List SqlNode) (depth : ℕ) (depths new : List ℕ) → AreCounted nodes depths
      → ((children rest : Terms) → IsWhole Dialect.Sqlite table paths (term node children) → AreDepths depths (joined children rest) → (depth ≡ min (symbols_of (term node children)) (2 ^ 64 - 1)) × AreDepths new rest)
      → AreCounted (node ∷ nodes) (depth ∷ new)
  one_counted node nodes depth depths new counted takes no_terms is whole = let none : node ∷ nodes ≡ [] = is in absurd (cc)
  one_counted node nodes depth depths new counted takes (more_terms (term own children) rest) is whole =
      let both : node ∷ nodes ≡ own ∷ (nodes_of_all children ++ nodes_of_all rest) = is in
      let same : own ≡ node = cc in
      let after : nodes ≡ nodes_of_all children ++ nodes_of_all rest = cc in
      let first : IsWhole Dialect.Sqlite table paths (term node children) = subst (λ (n : SqlNode). IsWhole Dialect.Sqlite table paths (term n children)) same whole.0 in
      let inner : AreDepths depths (joined children rest) = counted (joined children rest) (after ∙ sym (joined_nodes children rest)) (joined_whole children rest first.3 whole.1) in
      subst (λ (n : SqlNode). AreDepths (depth ∷ new) (more_terms (term n children) rest)) (sym same) (takes children rest first inner)

  of_first : (depths : List ℕ) (t : Term) → AreDepths depths (more_terms t no_terms) → (depth : ℕ) (new : List ℕ) → ((d : ℕ) (below : List ℕ) → depths ≡ d ∷ below → (depth ≡ d) × (new ≡ below)) → depth ≡ min (symbols_of t) (2 ^ 64 - 1)
  of_first [] t are depth new takes = absurd are
  of_first (d ∷ below) t are depth new takes = (takes d below refl).0 ∙ are.0

  pub whole_counted : (nodes : List SqlNode) (depths : List ℕ) (t : Term) → nodes ≡ nodes_of t → IsWhole Dialect.Sqlite table paths t → AreCounted nodes depths
      → (depth : ℕ) (new : List ℕ) → ((d : ℕ) (below : List ℕ) → depths ≡ d ∷ below → (depth ≡ d) × (new ≡ below)) → depth ≡ min (symbols_of t) (2 ^ 64 - 1)
  whole_counted nodes depths t is whole counted = of_first depths t (counted (more_terms t no_terms) (is ∙ sym (append-nil (nodes_of t))) (whole, tt))
