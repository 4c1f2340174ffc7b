-- A tree has no more nodes than tokens.
use Rattle.std.proofs.Common.{◌≡◌, ℕ, ◌+◌, ◌≤◌, List, [], ◌∷◌, ◌++◌, length, length-append, arith}
use Rattle.odata_syntax.specs.Grammar.{Derives, DerivesFurther, DerivesItems, Level, derives_any_item, derives_binary, derives_call, derives_count, derives_group, derives_has, derives_in_list, derives_in_path, derives_it, derives_lambda, derives_literal, derives_member, derives_name, derives_negation, derives_not, looser, no_further, no_items, one_further, some_items}
use Rattle.odata_text.specs.TokenModel.{TokenModel}
use Rattle.odata_text.specs.Tokens.{token_limit}
use Rattle.odata_syntax.specs.Tree.{Tree, Trees, node, shape_of}
use Rattle.odata_signatures.specs.HasTyping.{HasTree}
use Rattle.odata_signatures.specs.PreOrder.{nodes_among, nodes_below, pre_order}

-- a node, and those below it
size_of : (tree : Tree) → length (pre_order tree) ≡ length (nodes_below (shape_of tree)) + 1
size_of (node start stop shape) = omega arith

-- the nodes of two parts, whose tokens stand in this order with others between
size_of_two : {X Y : Type 0} (first second : List X) (ls rs : List Y) → length first ≤ length ls → length second ≤ length rs → length (first ++ second) ≤ length ls + length rs
size_of_two first second ls rs a b = omega (arith, length-append first second, a, b)

mutual
  pub nodes_of_tokens : (level : Level) (ts : List TokenModel) (tree : Tree) → Derives level ts tree → length (pre_order tree) ≤ length ts
  nodes_of_tokens level ts tree (looser {ts = us} {tree = t} derived) = nodes_of_tokens _ us t derived
  nodes_of_tokens level ts tree (derives_binary {ls = ls} {rs = rs} {t = t} {left = left} {right = right} l is r) =
      let a : length (pre_order left) ≤ length ls = nodes_of_tokens _ ls left l in
      let b : length (pre_order right) ≤ length rs = nodes_of_tokens _ rs right r in
      omega (arith, size_of_two (pre_order left) (pre_order right) ls rs a b, length-append ls (t ∷ rs))
  nodes_of_tokens level ts tree (derives_negation {ts = us} {operand = operand} is d) =
      let a : length (pre_order operand) ≤ length us = nodes_of_tokens _ us operand d in
      omega arith
  nodes_of_tokens level ts tree (derives_not {ts = us} {operand = operand} is d) =
      let a : length (pre_order operand) ≤ length us = nodes_of_tokens _ us operand d in
      omega arith
  nodes_of_tokens level ts tree (derives_has {ls = ls} {rs = rs} {t = t} {left = left} {right = right} l is r) =
      let a : length (pre_order left) ≤ length ls = nodes_of_tokens _ ls left l in
      let b : length (pre_order right) ≤ length rs = nodes_of_tokens _ rs right r in
      omega (arith, size_of_two (pre_order left) (pre_order right) ls rs a b, length-append ls (t ∷ rs))
  nodes_of_tokens level ts tree (derives_in_list {ls = ls} {is = is} {t = t} {first = first} {last = last} {left = left} {items = items} l w opened ds closed) =
      let a : length (pre_order left) ≤ length ls = nodes_of_tokens _ ls left l in
      let b : length (nodes_among items) ≤ length is = nodes_of_items is items ds in
      omega (arith, size_of_two (pre_order left) (nodes_among items) ls is a b, length-append ls (t ∷ first ∷ (is ++ (last ∷ []))), length-append is (last ∷ []))
  nodes_of_tokens level ts tree (derives_in_path {ls = ls} {rs = rs} {t = t} {left = left} {path = path} l is r) =
      let a : length (pre_order left) ≤ length ls = nodes_of_tokens _ ls left l in
      let b : length (pre_order path) ≤ length rs = nodes_of_tokens _ rs path r in
      omega (arith, size_of_two (pre_order left) (pre_order path) ls rs a b, length-append ls (t ∷ rs))
  nodes_of_tokens level ts tree (derives_literal is) = omega arith
  nodes_of_tokens level ts tree (derives_call {is = is} {last = last} {arguments = arguments} n opened ds closed) =
      let b : length (nodes_among arguments) ≤ length is = nodes_of_items is arguments ds in
      omega (arith, length-append is (last ∷ []))
  nodes_of_tokens level ts tree (derives_group {ts = us} {last = last} {tree = t} opened d closed) =
      let a : length (pre_order t) ≤ length us = nodes_of_tokens _ us t d in
      omega (arith, size_of t, length-append us (last ∷ []))
  nodes_of_tokens level ts tree (derives_count {bs = bs} {slash = slash} {t = t} {base = base} d s w) =
      let a : length (pre_order base) ≤ length bs = nodes_of_tokens _ bs base d in
      omega (arith, length-append bs (slash ∷ t ∷ []))
  nodes_of_tokens level ts tree (derives_any_item {bs = bs} {slash = slash} {t = t} {first = first} {last = last} {base = base} d s q opened closed) =
      let a : length (pre_order base) ≤ length bs = nodes_of_tokens _ bs base d in
      omega (arith, length-append bs (slash ∷ t ∷ first ∷ last ∷ []))
  nodes_of_tokens level ts tree (derives_lambda {bs = bs} {ts = us} {slash = slash} {t = t} {first = first} {variable = v} {colon = c} {last = last} {base = base} {body = body} d s q opened is k inner closed) =
      let a : length (pre_order base) ≤ length bs = nodes_of_tokens _ bs base d in
      let b : length (pre_order body) ≤ length us = nodes_of_tokens _ us body inner in
      omega (arith, size_of_two (pre_order base) (pre_order body) bs us a b, length-append bs (slash ∷ t ∷ first ∷ v ∷ c ∷ (us ++ (last ∷ []))), length-append us (last ∷ []))
  nodes_of_tokens level ts tree (derives_it is) = omega arith
  nodes_of_tokens level ts tree (derives_name is) = omega arith
  nodes_of_tokens level ts tree (derives_member {bs = bs} {slash = slash} {t = t} {base = base} d s is) =
      let a : length (pre_order base) ≤ length bs = nodes_of_tokens _ bs base d in
      omega (arith, length-append bs (slash ∷ t ∷ []))

  nodes_of_items : (ts : List TokenModel) (items : Trees) → DerivesItems ts items → length (nodes_among items) ≤ length ts
  nodes_of_items ts items no_items = omega arith
  nodes_of_items ts items (some_items {ts = us} {rs = rs} {tree = tree} {rest = rest} d later) =
      let a : length (pre_order tree) ≤ length us = nodes_of_tokens _ us tree d in
      let b : length (nodes_among rest) ≤ length rs = nodes_of_further rs rest later in
      omega (arith, size_of_two (pre_order tree) (nodes_among rest) us rs a b, length-append us rs)

  nodes_of_further : (ts : List TokenModel) (items : Trees) → DerivesFurther ts items → length (nodes_among items) ≤ length ts
  nodes_of_further ts items no_further = omega arith
  nodes_of_further ts items (one_further {ts = us} {rs = rs} {tree = tree} {rest = rest} c d later) =
      let a : length (pre_order tree) ≤ length us = nodes_of_tokens _ us tree d in
      let b : length (nodes_among rest) ≤ length rs = nodes_of_further rs rest later in
      omega (arith, size_of_two (pre_order tree) (nodes_among rest) us rs a b, length-append us rs)

pub few_nodes : (text : List ℕ) (tree : Tree) → HasTree text tree → length (pre_order tree) ≤ token_limit
few_nodes text tree has_tree =
    let nodes : length (pre_order tree) ≤ length has_tree.models = nodes_of_tokens _ has_tree.models tree has_tree.parse.derived in
    let few : length has_tree.models ≤ token_limit = has_tree.tokens.few in
    omega arith
