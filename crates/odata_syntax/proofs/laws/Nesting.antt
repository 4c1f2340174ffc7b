-- The spans of the nodes of a tree: one holds another, or they share no byte.
use Rattle.std.proofs.Common.{◌≡◌, refl, subst, sym, ◌∙◌, ℕ, ◌≤◌, ◌<◌, List, [], ◌∷◌, ◌++◌, ◌⊎◌, inl, inr, arith}
use Rattle.std.specs.List.{AllByRecursion, Contains}
use Rattle.std.proofs.lemmas.List.Elements.{All-contains, All-from_recursion}
use Rattle.odata_text.specs.TokenModel.{TokenModel}
use Rattle.odata_syntax.specs.Tree.{Tree, Trees, shape_of, start_of, stop_of}
use Rattle.odata_text.specs.TokenSequence.{AreTextTokens}
use Rattle.odata_syntax.specs.Parse.{IsExpression}
use Rattle.odata_syntax.specs.Grammar.{Derives, DerivesFurther, DerivesItems, Level, derives_any_item, derives_binary, derives_call, derives_count, derives_group, derives_has, derives_in_list, derives_in_path, derives_it, derives_lambda, derives_literal, derives_member, derives_name, derives_negation, derives_not, looser, no_further, no_items, one_further, some_items}
use Rattle.odata_syntax.specs.Spans.{HoldsSpan, IsWithin, SharesNoByte, children_of, in_child, is_root, list_of_trees}

mutual
  -- a node takes a byte or more, and its children stand one after another in it
  data IsNested : Tree → Type 0 where
    nested :
        {tree : Tree}
        → start_of tree < stop_of tree
        → AreNested (start_of tree) (stop_of tree) (children_of (shape_of tree))
        → IsNested tree

  -- trees one after another between two offsets
  data AreNested : ℕ → ℕ → List Tree → Type 0 where
    no_more : {from to : ℕ} → from ≤ to → AreNested from to []
    one_more :
        {from to : ℕ} {tree : Tree} {more : List Tree}
        → from ≤ start_of tree
        → IsNested tree
        → AreNested (stop_of tree) to more
        → AreNested from to (tree ∷ more)

nested_solid : {tree : Tree} → IsNested tree → start_of tree < stop_of tree
nested_solid (nested solid inner) = solid

nested_children : {tree : Tree} → IsNested tree → AreNested (start_of tree) (stop_of tree) (children_of (shape_of tree))
nested_children (nested solid inner) = inner

-- so they do between wider offsets
wider : {from to : ℕ} {trees : List Tree} → AreNested from to trees → (before behind : ℕ) → before ≤ from → to ≤ behind → AreNested before behind trees
wider (no_more le) before behind h k = no_more (omega arith)
wider (one_more {tree = tree} le n more) before behind h k = one_more (omega arith) n (wider more (stop_of tree) behind (omega arith) k)

-- Derived trees.

-- a tree between two offsets
record Nests (from to : ℕ) (tree : Tree) : Type 0 where
  starts : from ≤ start_of tree
  stops : stop_of tree ≤ to
  solid : start_of tree < stop_of tree
  inner : AreNested (start_of tree) (stop_of tree) (children_of (shape_of tree))

-- a list of tokens and those after it
record Parts (from to : ℕ) (ls rs : List TokenModel) : Type 0 where
  middle : ℕ
  before : AreTextTokens from middle ls
  behind : AreTextTokens middle to rs

text_parts : (from to : ℕ) (ls rs : List TokenModel) → AreTextTokens from to (ls ++ rs) → Parts from to ls rs
text_parts from to [] rs h = record { middle = from; before = omega arith; behind = h }
text_parts from to (t ∷ ls) rs h =
    let p = text_parts t.stop to ls rs h.1 in
    record { middle = p.middle; before = (h.0, p.before); behind = p.behind }

text_order : (from to : ℕ) (ts : List TokenModel) → AreTextTokens from to ts → from ≤ to
text_order from to [] h = h
text_order from to (t ∷ ts) h =
    let rest = text_order t.stop to ts h.1 in
    let order = h.0.order in
    let solid = h.0.solid in
    omega arith

-- one token
token_nests : (from to : ℕ) (t : TokenModel) (tree : Tree) → AreTextTokens from to (t ∷ []) → start_of tree ≡ t.start → stop_of tree ≡ t.stop → children_of (shape_of tree) ≡ [] → Nests from to tree
token_nests from to t tree h starts stops none =
    let order = h.0.order in
    let solid = h.0.solid in
    let le : t.stop ≤ to = h.1 in
    let place : start_of tree ≤ stop_of tree = omega arith in
    record {
      starts = omega arith;
      stops = omega arith;
      solid = omega arith;
      inner = subst (λ (k : List Tree). AreNested (start_of tree) (stop_of tree) k) (sym none) (no_more place);
    }

-- two trees with a token between them
between_nests : (from to : ℕ) (ls rs : List TokenModel) (t : TokenModel) (left right tree : Tree) → AreTextTokens from to (ls ++ (t ∷ rs)) → ((a b : ℕ) → AreTextTokens a b ls → Nests a b left) → ((a b : ℕ) → AreTextTokens a b rs → Nests a b right) → start_of tree ≡ start_of left → stop_of tree ≡ stop_of right → children_of (shape_of tree) ≡ left ∷ right ∷ [] → Nests from to tree
between_nests from to ls rs t left right tree h l r starts stops children =
    let p = text_parts from to ls (t ∷ rs) h in
    let first = l from p.middle p.before in
    let order = p.behind.0.order in
    let solid = p.behind.0.solid in
    let second = r t.stop to p.behind.1 in
    let gap : stop_of left ≤ start_of right = omega (arith, first.stops, second.starts) in
    let both : AreNested (start_of left) (stop_of right) (left ∷ right ∷ []) = one_more (omega arith) (nested first.solid first.inner) (one_more gap (nested second.solid second.inner) (no_more (omega arith))) in
    let placed : AreNested (start_of tree) (stop_of tree) (left ∷ right ∷ []) = wider both (start_of tree) (stop_of tree) (omega arith) (omega arith) in
    record {
      starts = omega (arith, first.starts);
      stops = omega (arith, second.stops);
      solid = omega (arith, first.solid, second.solid);
      inner = subst (λ (k : List Tree). AreNested (start_of tree) (stop_of tree) k) (sym children) placed;
    }

-- a sign and a tree
sign_nests : (from to : ℕ) (t : TokenModel) (ts : List TokenModel) (child tree : Tree) → AreTextTokens from to (t ∷ ts) → ((a b : ℕ) → AreTextTokens a b ts → Nests a b child) → start_of tree ≡ t.start → stop_of tree ≡ stop_of child → children_of (shape_of tree) ≡ child ∷ [] → Nests from to tree
sign_nests from to t ts child tree h inner starts stops children =
    let order = h.0.order in
    let solid = h.0.solid in
    let n = inner t.stop to h.1 in
    let placed : AreNested (start_of tree) (stop_of tree) (child ∷ []) = one_more (omega (arith, n.starts)) (nested n.solid n.inner) (no_more (omega arith)) in
    record {
      starts = omega arith;
      stops = omega (arith, n.stops);
      solid = omega (arith, n.starts, n.solid);
      inner = subst (λ (k : List Tree). AreNested (start_of tree) (stop_of tree) k) (sym children) placed;
    }

-- a tree, and more tokens with trees between some of them, up to a last one
ended_nests : (from to : ℕ) (ls rs : List TokenModel) (last : TokenModel) (left tree : Tree) (more : List Tree) → AreTextTokens from to (ls ++ (rs ++ (last ∷ []))) → ((a b : ℕ) → AreTextTokens a b ls → Nests a b left) → ((a b : ℕ) → AreTextTokens a b rs → AreNested a b more) → start_of tree ≡ start_of left → stop_of tree ≡ last.stop → children_of (shape_of tree) ≡ left ∷ more → Nests from to tree
ended_nests from to ls rs last left tree more h l r starts stops children =
    let p = text_parts from to ls (rs ++ (last ∷ [])) h in
    let q = text_parts p.middle to rs (last ∷ []) p.behind in
    let first = l from p.middle p.before in
    let order = q.behind.0.order in
    let solid = q.behind.0.solid in
    let le : last.stop ≤ to = q.behind.1 in
    let middle = text_order p.middle q.middle rs q.before in
    let later : AreNested (stop_of left) (stop_of tree) more = wider (r p.middle q.middle q.before) (stop_of left) (stop_of tree) (omega (arith, first.stops)) (omega arith) in
    let placed : AreNested (start_of tree) (stop_of tree) (left ∷ more) = one_more (omega arith) (nested first.solid first.inner) later in
    record {
      starts = omega (arith, first.starts);
      stops = omega arith;
      solid = omega (arith, first.solid, first.stops);
      inner = subst (λ (k : List Tree). AreNested (start_of tree) (stop_of tree) k) (sym children) placed;
    }

-- no trees between tokens
none_nested : (ts : List TokenModel) (a b : ℕ) → AreTextTokens a b ts → AreNested a b []
none_nested ts a b h = no_more (text_order a b ts h)

-- tokens from a first to a last, with trees between them
enclosed_nests : (from to : ℕ) (first last : TokenModel) (rs : List TokenModel) (tree : Tree) (trees : List Tree) → AreTextTokens from to (first ∷ (rs ++ (last ∷ []))) → ((a b : ℕ) → AreTextTokens a b rs → AreNested a b trees) → start_of tree ≡ first.start → stop_of tree ≡ last.stop → children_of (shape_of tree) ≡ trees → Nests from to tree
enclosed_nests from to first last rs tree trees h r starts stops children =
    let order = h.0.order in
    let solid = h.0.solid in
    let q = text_parts first.stop to rs (last ∷ []) h.1 in
    let last_order = q.behind.0.order in
    let last_solid = q.behind.0.solid in
    let le : last.stop ≤ to = q.behind.1 in
    let middle = text_order first.stop q.middle rs q.before in
    let placed : AreNested (start_of tree) (stop_of tree) trees = wider (r first.stop q.middle q.before) (start_of tree) (stop_of tree) (omega arith) (omega arith) in
    record {
      starts = omega arith;
      stops = omega arith;
      solid = omega arith;
      inner = subst (λ (k : List Tree). AreNested (start_of tree) (stop_of tree) k) (sym children) placed;
    }

-- the children of a tree that is nested between two offsets
inner_nested : (a b : ℕ) (tree : Tree) → Nests a b tree → AreNested a b (children_of (shape_of tree))
inner_nested a b tree n = wider n.inner a b n.starts n.stops

-- a token before trees
behind_token : (t : TokenModel) (ts : List TokenModel) (trees : List Tree) → ((a b : ℕ) → AreTextTokens a b ts → AreNested a b trees) → (a b : ℕ) → AreTextTokens a b (t ∷ ts) → AreNested a b trees
behind_token t ts trees r a b h =
    let order = h.0.order in
    let solid = h.0.solid in
    wider (r t.stop b h.1) a b (omega arith) (omega arith)

one_nested : (a b : ℕ) (tree : Tree) → Nests a b tree → AreNested a b (tree ∷ [])
one_nested a b tree n = one_more n.starts (nested n.solid n.inner) (no_more n.stops)

-- a tree and trees after it
joined_nested : (ts rs : List TokenModel) (tree : Tree) (more : List Tree) → ((a b : ℕ) → AreTextTokens a b ts → Nests a b tree) → ((a b : ℕ) → AreTextTokens a b rs → AreNested a b more) → (a b : ℕ) → AreTextTokens a b (ts ++ rs) → AreNested a b (tree ∷ more)
joined_nested ts rs tree more l r a b h =
    let p = text_parts a b ts rs h in
    let n = l a p.middle p.before in
    one_more n.starts (nested n.solid n.inner) (wider (r p.middle b p.behind) (stop_of tree) b n.stops (omega arith))

mutual
  derived_nests : {level : Level} {ts : List TokenModel} {tree : Tree} → Derives level ts tree → (from to : ℕ) → AreTextTokens from to ts → Nests from to tree
  derived_nests (looser d) from to h = derived_nests d from to h
  derived_nests (derives_binary {ls = ls} {rs = rs} {t = t} {left = left} {right = right} dl o dr) from to h =
      between_nests from to ls rs t left right _ h (λ a b k. derived_nests dl a b k) (λ a b k. derived_nests dr a b k) refl refl refl
  derived_nests (derives_negation {t = t} {ts = ts} {operand = child} a d) from to h =
      sign_nests from to t ts child _ h (λ x y k. derived_nests d x y k) refl refl refl
  derived_nests (derives_not {t = t} {ts = ts} {operand = child} s d) from to h =
      sign_nests from to t ts child _ h (λ x y k. derived_nests d x y k) refl refl refl
  derived_nests (derives_has {ls = ls} {rs = rs} {t = t} {left = left} {right = right} dl s dr) from to h =
      between_nests from to ls rs t left right _ h (λ a b k. derived_nests dl a b k) (λ a b k. derived_nests dr a b k) refl refl refl
  derived_nests (derives_in_list {ls = ls} {is = is} {t = t} {first = first} {last = last} {left = left} {items = items} dl s a ds b) from to h =
      ended_nests from to ls (t ∷ first ∷ is) last left _ (list_of_trees items) h (λ x y k. derived_nests dl x y k)
      (behind_token t (first ∷ is) (list_of_trees items) (behind_token first is (list_of_trees items) (λ x y k. items_nested ds x y k))) refl refl refl
  derived_nests (derives_in_path {ls = ls} {rs = rs} {t = t} {left = left} {path = right} dl s dr) from to h =
      between_nests from to ls rs t left right _ h (λ a b k. derived_nests dl a b k) (λ a b k. derived_nests dr a b k) refl refl refl
  derived_nests (derives_literal {t = t} l) from to h = token_nests from to t _ h refl refl refl
  derived_nests (derives_call {is = is} {t = t} {first = first} {last = last} {arguments = arguments} n a ds b) from to h =
      enclosed_nests from to t last (first ∷ is) _ (list_of_trees arguments) h (behind_token first is (list_of_trees arguments) (λ x y k. items_nested ds x y k)) refl refl refl
  derived_nests (derives_group {ts = ts} {first = first} {last = last} {tree = tree} a d b) from to h =
      enclosed_nests from to first last ts _ (children_of (shape_of tree)) h (λ x y k. inner_nested x y tree (derived_nests d x y k)) refl refl refl
  derived_nests (derives_count {bs = bs} {slash = slash} {t = t} {base = base} d s c) from to h =
      ended_nests from to bs (slash ∷ []) t base _ [] h (λ x y k. derived_nests d x y k) (none_nested (slash ∷ [])) refl refl refl
  derived_nests (derives_any_item {bs = bs} {slash = slash} {t = t} {first = first} {last = last} {base = base} d s q a b) from to h =
      ended_nests from to bs (slash ∷ t ∷ first ∷ []) last base _ [] h (λ x y k. derived_nests d x y k) (none_nested (slash ∷ t ∷ first ∷ [])) refl refl refl
  derived_nests (derives_lambda {bs = bs} {ts = ts} {slash = slash} {t = t} {first = first} {variable = v} {colon = c} {last = last} {base = base} {body = body} d s q a i k inner b) from to h =
      ended_nests from to bs (slash ∷ t ∷ first ∷ v ∷ c ∷ ts) last base _ (body ∷ []) h (λ x y e. derived_nests d x y e)
      (behind_token slash (t ∷ first ∷ v ∷ c ∷ ts) (body ∷ []) (behind_token t (first ∷ v ∷ c ∷ ts) (body ∷ []) (behind_token first (v ∷ c ∷ ts) (body ∷ []) (behind_token v (c ∷ ts) (body ∷ []) (behind_token c ts (body ∷ []) (λ x y e. one_nested x y body (derived_nests inner x y e))))))) refl refl refl
  derived_nests (derives_it {t = t} i) from to h = token_nests from to t _ h refl refl refl
  derived_nests (derives_name {t = t} n) from to h = token_nests from to t _ h refl refl refl
  derived_nests (derives_member {bs = bs} {slash = slash} {t = t} {base = base} d s a) from to h =
      ended_nests from to bs (slash ∷ []) t base _ [] h (λ x y k. derived_nests d x y k) (none_nested (slash ∷ [])) refl refl refl

  items_nested : {is : List TokenModel} {items : Trees} → DerivesItems is items → (from to : ℕ) → AreTextTokens from to is → AreNested from to (list_of_trees items)
  items_nested no_items from to h = no_more h
  items_nested (some_items {ts = ts} {rs = rs} {tree = tree} {rest = rest} d later) from to h =
      joined_nested ts rs tree (list_of_trees rest) (λ x y k. derived_nests d x y k) (λ x y k. further_nested later x y k) from to h

  further_nested : {rs : List TokenModel} {rest : Trees} → DerivesFurther rs rest → (from to : ℕ) → AreTextTokens from to rs → AreNested from to (list_of_trees rest)
  further_nested no_further from to h = no_more h
  further_nested (one_further {comma = comma} {ts = ts} {rs = rs} {tree = tree} {rest = rest} c d later) from to h =
      behind_token comma (ts ++ rs) (tree ∷ list_of_trees rest) (joined_nested ts rs tree (list_of_trees rest) (λ x y k. derived_nests d x y k) (λ x y k. further_nested later x y k)) from to h

expression_nested : (tree : Tree) → IsExpression tree → IsNested tree
expression_nested tree e =
    let n = derived_nests e.parsed.derived 0 e.length e.of_text in
    nested n.solid n.inner

-- What follows of two nodes.

-- a child stands within its node
record Child (from to : ℕ) (tree : Tree) : Type 0 where
  starts : from ≤ start_of tree
  stops : stop_of tree ≤ to
  nests : IsNested tree

last_stop : {from to : ℕ} {trees : List Tree} → AreNested from to trees → from ≤ to
last_stop (no_more le) = le
last_stop (one_more {tree = tree} le n more) =
    let rest = last_stop more in
    let solid = nested_solid n in
    omega arith

wider_child : (a b from to : ℕ) (trees : List Tree) → a ≤ from → to ≤ b → AllByRecursion (Child from to) trees → AllByRecursion (Child a b) trees
wider_child a b from to [] h k all = tt
wider_child a b from to (tree ∷ trees) h k all =
    let starts = all.0.starts in
    let stops = all.0.stops in
    (record { starts = omega arith; stops = omega arith; nests = all.0.nests }, wider_child a b from to trees h k all.1)

nested_all : {from to : ℕ} {trees : List Tree} → AreNested from to trees → AllByRecursion (Child from to) trees
nested_all (no_more le) = tt
nested_all {from = from} {to = to} (one_more {tree = tree} {more = more} le n later) =
    let solid = nested_solid n in
    (record { starts = le; stops = last_stop later; nests = n }, wider_child from to (stop_of tree) to more (omega arith) (omega arith) (nested_all later))

child_of : (tree child : Tree) → IsNested tree → Contains (children_of (shape_of tree)) child → Child (start_of tree) (stop_of tree) child
child_of tree child n c =
    All-contains (Child (start_of tree) (stop_of tree)) (children_of (shape_of tree)) child (All-from_recursion (Child (start_of tree) (stop_of tree)) (children_of (shape_of tree)) (nested_all (nested_children n))) c

-- a node's span holds those of its descendants
record Held (outer inner : Tree) : Type 0 where
  holds : HoldsSpan outer inner
  nests : IsNested inner

held : {inner outer : Tree} → IsWithin inner outer → IsNested outer → Held outer inner
held is_root n = record { holds = record { starts = omega arith; stops = omega arith }; nests = n }
held {outer = outer} (in_child {child = child} c w) n =
    let k = child_of outer child n c in
    let rest = held w k.nests in
    let starts = k.starts in
    let stops = k.stops in
    let inner_starts = rest.holds.starts in
    let inner_stops = rest.holds.stops in
    record { holds = record { starts = omega arith; stops = omega arith }; nests = rest.nests }

-- one of some trees
IsAmong : Tree → List Tree → Type 0
IsAmong x [] = ⊥
IsAmong x (y ∷ ys) = (y ≡ x) ⊎ IsAmong x ys

among_later : (y : Tree) (xs ys : List Tree) → AllByRecursion (λ x. IsAmong x ys) xs → AllByRecursion (λ x. IsAmong x (y ∷ ys)) xs
unfolding IsAmong
among_later y [] ys all = tt
among_later y (x ∷ xs) ys all = (inr all.0, among_later y xs ys all.1)

all_among : (xs : List Tree) → AllByRecursion (λ x. IsAmong x xs) xs
unfolding IsAmong
all_among [] = tt
all_among (x ∷ xs) = (inl refl, among_later x xs xs (all_among xs))

among : (xs : List Tree) (x : Tree) → Contains xs x → IsAmong x xs
among xs x c = All-contains (λ y. IsAmong y xs) xs x (All-from_recursion (λ y. IsAmong y xs) xs (all_among xs)) c

-- two of them are the same or share no byte
behind_all : (from to : ℕ) (trees : List Tree) (x : Tree) → AllByRecursion (Child from to) trees → IsAmong x trees → from ≤ start_of x
unfolding IsAmong
behind_all from to [] x all h = absurd h
behind_all from to (y ∷ ys) x all (inl e) = subst (λ (k : Tree). from ≤ start_of k) e all.0.starts
behind_all from to (y ∷ ys) x all (inr h) = behind_all from to ys x all.1 h

Apart : Tree → Tree → Type 0
Apart x y = (x ≡ y) ⊎ SharesNoByte x y

two_apart : {from to : ℕ} {trees : List Tree} → AreNested from to trees → (x y : Tree) → IsAmong x trees → IsAmong y trees → Apart x y
unfolding IsAmong Apart
two_apart (no_more le) x y h k = absurd h
two_apart (one_more le n later) x y (inl e) (inl f) = inl (sym e ∙ f)
two_apart {to = to} (one_more {tree = tree} {more = more} le n later) x y (inl e) (inr k) =
    let after : stop_of tree ≤ start_of y = behind_all (stop_of tree) to more y (nested_all later) k in
    inr (inl (subst (λ (z : Tree). stop_of z ≤ start_of y) e after))
two_apart {to = to} (one_more {tree = tree} {more = more} le n later) x y (inr h) (inl f) =
    let after : stop_of tree ≤ start_of x = behind_all (stop_of tree) to more x (nested_all later) h in
    inr (inr (subst (λ (z : Tree). stop_of z ≤ start_of x) f after))
two_apart (one_more le n later) x y (inr h) (inr k) = two_apart later x y h k

-- what two trees hold shares no byte if they do not
apart_within : (x y a b : Tree) → SharesNoByte x y → HoldsSpan x a → HoldsSpan y b → SharesNoByte a b
apart_within x y a b (inl le) h k = let hs = h.stops in let ks = k.starts in inl (omega arith)
apart_within x y a b (inr le) h k = let hs = h.starts in let ks = k.stops in inr (omega arith)

apart_child : {b tree : Tree} → IsWithin b tree → (a x : Tree) → IsNested tree → Contains (children_of (shape_of tree)) x → IsWithin a x → ¬ IsWithin a b → (IsNested x → IsWithin b x → SharesNoByte a b) → SharesNoByte a b
unfolding Apart
apart_child is_root a x n c v outside inside = absurd (outside (in_child c v))
apart_child {b = b} {tree = tree} (in_child {child = y} d u) a x n c v outside inside =
    let kx = child_of tree x n c in
    let ky = child_of tree y n d in
    elim (two_apart (nested_children n) x y (among (children_of (shape_of tree)) x c) (among (children_of (shape_of tree)) y d)) [
      | inl e ↦ inside kx.nests (subst (λ (k : Tree). IsWithin b k) (sym e) u)
      | inr s ↦ apart_within x y a b s (held v kx.nests).holds (held u ky.nests).holds
    ]

apart : {a tree : Tree} → IsWithin a tree → (b : Tree) → IsNested tree → IsWithin b tree → ¬ IsWithin a b → ¬ IsWithin b a → SharesNoByte a b
apart is_root b n w outside beyond = absurd (beyond w)
apart {a = a} {tree = tree} (in_child {child = x} c v) b n w outside beyond =
    apart_child w a x n c v outside (λ k u. apart v b k u outside beyond)

pub expression_holds : (tree outer inner : Tree) → IsExpression tree → IsWithin outer tree → IsWithin inner outer → HoldsSpan outer inner
expression_holds tree outer inner e w v = (held v (held w (expression_nested tree e)).nests).holds

pub expression_solid : (tree part : Tree) → IsExpression tree → IsWithin part tree → start_of part < stop_of part
expression_solid tree part e w = nested_solid (held w (expression_nested tree e)).nests

pub expression_apart : (tree a b : Tree) → IsExpression tree → IsWithin a tree → IsWithin b tree → ¬ IsWithin a b → ¬ IsWithin b a → SharesNoByte a b
expression_apart tree a b e w v outside beyond = apart w b (expression_nested tree e) v outside beyond

pub expression_children : (tree parent a b : Tree) → IsExpression tree → IsWithin parent tree → Contains (children_of (shape_of parent)) a → Contains (children_of (shape_of parent)) b → (a ≡ b) ⊎ SharesNoByte a b
unfolding Apart
expression_children tree parent a b e w c d =
    two_apart (nested_children (held w (expression_nested tree e)).nests) a b (among (children_of (shape_of parent)) a c) (among (children_of (shape_of parent)) b d)

none_split : (before : List Tree) (x : Tree) (after : List Tree) → ¬ ([] ≡ before ++ (x ∷ after))
none_split [] x after same = cc
none_split (b ∷ before) x after same = cc

-- trees one after another: each stops before those after it start
later_behind :
    {from to : ℕ} {trees : List Tree}
    → AreNested from to trees
    → (before : List Tree) (x : Tree) (after : List Tree) (y : Tree)
    → trees ≡ before ++ (x ∷ after)
    → IsAmong y after
    → stop_of x ≤ start_of y
later_behind (no_more le) before x after y split h = absurd (none_split before x after split)
later_behind {to = to} (one_more {tree = tree} {more = more} le n later) [] x after y split h =
    let same : tree ≡ x = cc in
    let rest : more ≡ after = cc in
    let behind : stop_of tree ≤ start_of y =
    behind_all (stop_of tree) to more y (nested_all later) (subst (λ (ts : List Tree). IsAmong y ts) (sym rest) h) in
    subst (λ (t : Tree). stop_of t ≤ start_of y) same behind
later_behind (one_more {tree = tree} {more = more} le n later) (b ∷ before) x after y split h =
    let rest : more ≡ before ++ (x ∷ after) = cc in
    later_behind later before x after y rest h

pub expression_in_order :
    (tree parent a b : Tree) (before after : List Tree)
    → IsExpression tree
    → IsWithin parent tree
    → children_of (shape_of parent) ≡ before ++ (a ∷ after)
    → Contains after b
    → stop_of a ≤ start_of b
expression_in_order tree parent a b before after e w split c =
    later_behind (nested_children (held w (expression_nested tree e)).nests) before a after b split (among after b c)
