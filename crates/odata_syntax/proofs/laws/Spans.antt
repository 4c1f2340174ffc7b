-- The tokens that the nodes of a derived tree take in.
use Rattle.std.proofs.Common.{◌≡◌, refl, ap, sym, ◌∙◌, ℕ, ◌<◌, List, [], ◌∷◌, ◌++◌, length, append_assoc}
use Rattle.std.specs.List.{AllByRecursion}
use Rattle.std.proofs.lemmas.List.{append-nil}
use Rattle.std.proofs.lemmas.List.Elements.{All-contains, All-from_recursion, recursion_from_All, Contains-get_or}
use Rattle.odata_text.specs.TokenModel.{TokenModel}
use Rattle.odata_syntax.specs.Tree.{Tree, Trees, shape_of, start_of, stop_of}
use Rattle.odata_syntax.specs.Grammar.{Derives, DerivesFurther, DerivesItems, Level, derives_any_item, derives_binary, derives_call, derives_count, derives_group, derives_has, derives_in_list, derives_in_path, derives_it, derives_lambda, derives_literal, derives_member, derives_name, derives_negation, derives_not, looser, no_further, no_items, one_further, some_items}
use Rattle.odata_syntax.specs.Spans.{IsSpanned, IsSpannedWithin, IsWithin, children_of, in_child, is_root, list_of_trees}

one_token : (t : TokenModel) (tree : Tree) → start_of tree ≡ t.start → stop_of tree ≡ t.stop → IsSpanned (t ∷ []) tree
one_token t tree starts stops = record { first = t; later = []; begins = refl; starts = starts; earlier = []; last = t; ends = refl; stops = stops }

-- two trees with a token between them
between : (ls rs : List TokenModel) (t : TokenModel) (left right whole : Tree) → IsSpanned ls left → IsSpanned rs right → start_of whole ≡ start_of left → stop_of whole ≡ stop_of right → IsSpanned (ls ++ (t ∷ rs)) whole
between ls rs t left right whole l r starts stops =
    record {
      first = l.first;
      later = l.later ++ (t ∷ rs);
      begins = ap (λ k. k ++ (t ∷ rs)) l.begins;
      starts = starts ∙ l.starts;
      earlier = ls ++ (t ∷ r.earlier);
      last = r.last;
      ends = ap (λ k. ls ++ (t ∷ k)) r.ends ∙ sym (append_assoc ls (t ∷ r.earlier) (r.last ∷ []));
      stops = stops ∙ r.stops;
    }

-- a token before a tree
behind_token : (t : TokenModel) (ts : List TokenModel) (child whole : Tree) → IsSpanned ts child → start_of whole ≡ t.start → stop_of whole ≡ stop_of child → IsSpanned (t ∷ ts) whole
behind_token t ts child whole s starts stops =
    record { first = t; later = ts; begins = refl; starts = starts; earlier = t ∷ s.earlier; last = s.last; ends = ap (λ k. t ∷ k) s.ends; stops = stops ∙ s.stops }

-- a tree, and tokens up to a last one
to_last : (ls mid : List TokenModel) (last : TokenModel) (left whole : Tree) → IsSpanned ls left → start_of whole ≡ start_of left → stop_of whole ≡ last.stop → IsSpanned (ls ++ (mid ++ (last ∷ []))) whole
to_last ls mid last left whole l starts stops =
    record {
      first = l.first;
      later = l.later ++ (mid ++ (last ∷ []));
      begins = ap (λ k. k ++ (mid ++ (last ∷ []))) l.begins;
      starts = starts ∙ l.starts;
      earlier = ls ++ mid;
      last = last;
      ends = sym (append_assoc ls mid (last ∷ []));
      stops = stops;
    }

-- tokens from a first to a last
first_to_last : (first : TokenModel) (mid : List TokenModel) (last : TokenModel) (whole : Tree) → start_of whole ≡ first.start → stop_of whole ≡ last.stop → IsSpanned (first ∷ (mid ++ (last ∷ []))) whole
first_to_last first mid last whole starts stops =
    record { first = first; later = mid ++ (last ∷ []); begins = refl; starts = starts; earlier = first ∷ mid; last = last; ends = refl; stops = stops }

pub derived_spanned : {level : Level} {ts : List TokenModel} {tree : Tree} → Derives level ts tree → IsSpanned ts tree
derived_spanned (looser d) = derived_spanned d
derived_spanned (derives_binary {ls = ls} {rs = rs} {t = t} {left = left} {right = right} dl o dr) = between ls rs t left right _ (derived_spanned dl) (derived_spanned dr) refl refl
derived_spanned (derives_negation {t = t} {ts = ts} {operand = child} a d) = behind_token t ts child _ (derived_spanned d) refl refl
derived_spanned (derives_not {t = t} {ts = ts} {operand = child} s d) = behind_token t ts child _ (derived_spanned d) refl refl
derived_spanned (derives_has {ls = ls} {rs = rs} {t = t} {left = left} {right = right} dl s dr) = between ls rs t left right _ (derived_spanned dl) (derived_spanned dr) refl refl
derived_spanned (derives_in_list {ls = ls} {is = is} {t = t} {first = first} {last = last} {left = left} dl s a ds b) = to_last ls (t ∷ first ∷ is) last left _ (derived_spanned dl) refl refl
derived_spanned (derives_in_path {ls = ls} {rs = rs} {t = t} {left = left} {path = right} dl s dr) = between ls rs t left right _ (derived_spanned dl) (derived_spanned dr) refl refl
derived_spanned (derives_literal {t = t} l) = one_token t _ refl refl
derived_spanned (derives_call {is = is} {t = t} {first = first} {last = last} n a ds b) = first_to_last t (first ∷ is) last _ refl refl
derived_spanned (derives_group {ts = ts} {first = first} {last = last} a d b) = first_to_last first ts last _ refl refl
derived_spanned (derives_count {bs = bs} {slash = slash} {t = t} {base = base} d s c) = to_last bs (slash ∷ []) t base _ (derived_spanned d) refl refl
derived_spanned (derives_any_item {bs = bs} {slash = slash} {t = t} {first = first} {last = last} {base = base} d s q a b) = to_last bs (slash ∷ t ∷ first ∷ []) last base _ (derived_spanned d) refl refl
derived_spanned (derives_lambda {bs = bs} {ts = ts} {slash = slash} {t = t} {first = first} {variable = v} {colon = c} {last = last} {base = base} d s q a i k inner b) = to_last bs (slash ∷ t ∷ first ∷ v ∷ c ∷ ts) last base _ (derived_spanned d) refl refl
derived_spanned (derives_it {t = t} i) = one_token t _ refl refl
derived_spanned (derives_name {t = t} n) = one_token t _ refl refl
derived_spanned (derives_member {bs = bs} {slash = slash} {t = t} {base = base} d s a) = to_last bs (slash ∷ []) t base _ (derived_spanned d) refl refl

-- each node of a tree takes in some of the tokens
abbrev Holds : List TokenModel → Tree → Type 0
Holds ts tree = (part : Tree) → IsWithin part tree → IsSpannedWithin ts part

abbrev AllHold : List TokenModel → List Tree → Type 0
AllHold ts trees = AllByRecursion (Holds ts) trees

whole : (ts : List TokenModel) (tree : Tree) → IsSpanned ts tree → IsSpannedWithin ts tree
whole ts tree s = record { before = []; own = ts; behind = []; split = sym (append-nil ts); spanned = s }

-- so do its children and itself
held_children : (ts : List TokenModel) (tree : Tree) → IsSpanned ts tree → AllHold ts (children_of (shape_of tree)) → Holds ts tree
held_children ts tree s all part is_root = whole ts tree s
held_children ts tree s all part (in_child {child = child} c w) =
    All-contains (Holds ts) (children_of (shape_of tree)) child (All-from_recursion (Holds ts) (children_of (shape_of tree)) all) c part w

children_held : (ts : List TokenModel) (tree : Tree) → Holds ts tree → AllHold ts (children_of (shape_of tree))
children_held ts tree h =
    recursion_from_All (Holds ts) (children_of (shape_of tree))
    (λ (k : ℕ) (d : Tree) (le : k < length (children_of (shape_of tree))). λ part w. h part (in_child (Contains-get_or (children_of (shape_of tree)) k d le) w))

-- more tokens on either side
in_front : (ls rs : List TokenModel) (tree : Tree) → Holds ls tree → Holds (ls ++ rs) tree
in_front ls rs tree h part w =
    let s = h part w in
    record { before = s.before; own = s.own; behind = s.behind ++ rs; split = ap (λ k. k ++ rs) s.split ∙ append_assoc s.before (s.own ++ s.behind) rs ∙ ap (λ k. s.before ++ k) (append_assoc s.own s.behind rs); spanned = s.spanned }

in_back : (ls rs : List TokenModel) (tree : Tree) → Holds rs tree → Holds (ls ++ rs) tree
in_back ls rs tree h part w =
    let s = h part w in
    record { before = ls ++ s.before; own = s.own; behind = s.behind; split = ap (λ k. ls ++ k) s.split ∙ sym (append_assoc ls s.before (s.own ++ s.behind)); spanned = s.spanned }

all_in_front : (ls rs : List TokenModel) (trees : List Tree) → AllHold ls trees → AllHold (ls ++ rs) trees
all_in_front ls rs [] all = tt
all_in_front ls rs (tree ∷ trees) all = (in_front ls rs tree all.0, all_in_front ls rs trees all.1)

all_in_back : (ls rs : List TokenModel) (trees : List Tree) → AllHold rs trees → AllHold (ls ++ rs) trees
all_in_back ls rs [] all = tt
all_in_back ls rs (tree ∷ trees) all = (in_back ls rs tree all.0, all_in_back ls rs trees all.1)

-- tokens between others
all_between : (before ts behind : List TokenModel) (trees : List Tree) → AllHold ts trees → AllHold (before ++ (ts ++ behind)) trees
all_between before ts behind trees all = all_in_back before (ts ++ behind) trees (all_in_front ts behind trees all)

mutual
  pub derived_held : {level : Level} {ts : List TokenModel} {tree : Tree} → Derives level ts tree → Holds ts tree
  derived_held (looser d) = derived_held d
  derived_held (derives_binary {ls = ls} {rs = rs} {t = t} {left = left} {right = right} dl o dr) =
      held_children _ _ (derived_spanned (derives_binary dl o dr)) (in_front ls (t ∷ rs) left (derived_held dl), (in_back ls (t ∷ rs) right (in_back (t ∷ []) rs right (derived_held dr)), tt))
  derived_held (derives_negation {t = t} {ts = ts} {operand = child} a d) =
      held_children _ _ (derived_spanned (derives_negation a d)) (in_back (t ∷ []) ts child (derived_held d), tt)
  derived_held (derives_not {t = t} {ts = ts} {operand = child} s d) =
      held_children _ _ (derived_spanned (derives_not s d)) (in_back (t ∷ []) ts child (derived_held d), tt)
  derived_held (derives_has {ls = ls} {rs = rs} {t = t} {left = left} {right = right} dl s dr) =
      held_children _ _ (derived_spanned (derives_has dl s dr)) (in_front ls (t ∷ rs) left (derived_held dl), (in_back ls (t ∷ rs) right (in_back (t ∷ []) rs right (derived_held dr)), tt))
  derived_held (derives_in_list {ls = ls} {is = is} {t = t} {first = first} {last = last} {left = left} {items = items} dl s a ds b) =
      held_children _ _ (derived_spanned (derives_in_list dl s a ds b))
      (in_front ls (t ∷ first ∷ (is ++ (last ∷ []))) left (derived_held dl), all_in_back ls (t ∷ first ∷ (is ++ (last ∷ []))) (list_of_trees items) (all_between (t ∷ first ∷ []) is (last ∷ []) (list_of_trees items) (items_held ds)))
  derived_held (derives_in_path {ls = ls} {rs = rs} {t = t} {left = left} {path = right} dl s dr) =
      held_children _ _ (derived_spanned (derives_in_path dl s dr)) (in_front ls (t ∷ rs) left (derived_held dl), (in_back ls (t ∷ rs) right (in_back (t ∷ []) rs right (derived_held dr)), tt))
  derived_held (derives_literal l) = held_children _ _ (derived_spanned (derives_literal l)) tt
  derived_held (derives_call {is = is} {t = t} {first = first} {last = last} {arguments = arguments} n a ds b) =
      held_children _ _ (derived_spanned (derives_call n a ds b)) (all_between (t ∷ first ∷ []) is (last ∷ []) (list_of_trees arguments) (items_held ds))
  derived_held (derives_group {ts = ts} {first = first} {last = last} {tree = tree} a d b) =
      held_children _ _ (derived_spanned (derives_group a d b)) (all_between (first ∷ []) ts (last ∷ []) (children_of (shape_of tree)) (children_held ts tree (derived_held d)))
  derived_held (derives_count {bs = bs} {slash = slash} {t = t} {base = base} d s c) =
      held_children _ _ (derived_spanned (derives_count d s c)) (in_front bs (slash ∷ t ∷ []) base (derived_held d), tt)
  derived_held (derives_any_item {bs = bs} {slash = slash} {t = t} {first = first} {last = last} {base = base} d s q a b) =
      held_children _ _ (derived_spanned (derives_any_item d s q a b)) (in_front bs (slash ∷ t ∷ first ∷ last ∷ []) base (derived_held d), tt)
  derived_held (derives_lambda {bs = bs} {ts = ts} {slash = slash} {t = t} {first = first} {variable = v} {colon = c} {last = last} {base = base} {body = body} d s q a i k inner b) =
      held_children _ _ (derived_spanned (derives_lambda d s q a i k inner b))
      (in_front bs (slash ∷ t ∷ first ∷ v ∷ c ∷ (ts ++ (last ∷ []))) base (derived_held d), (in_back bs (slash ∷ t ∷ first ∷ v ∷ c ∷ (ts ++ (last ∷ []))) body (in_back (slash ∷ t ∷ first ∷ v ∷ c ∷ []) (ts ++ (last ∷ [])) body (in_front ts (last ∷ []) body (derived_held inner))), tt))
  derived_held (derives_it i) = held_children _ _ (derived_spanned (derives_it i)) tt
  derived_held (derives_name n) = held_children _ _ (derived_spanned (derives_name n)) tt
  derived_held (derives_member {bs = bs} {slash = slash} {t = t} {base = base} d s a) =
      held_children _ _ (derived_spanned (derives_member d s a)) (in_front bs (slash ∷ t ∷ []) base (derived_held d), tt)

  items_held : {is : List TokenModel} {items : Trees} → DerivesItems is items → AllHold is (list_of_trees items)
  items_held no_items = tt
  items_held (some_items {ts = ts} {rs = rs} {tree = tree} {rest = rest} d later) =
      (in_front ts rs tree (derived_held d), all_in_back ts rs (list_of_trees rest) (further_held later))

  further_held : {rs : List TokenModel} {rest : Trees} → DerivesFurther rs rest → AllHold rs (list_of_trees rest)
  further_held no_further = tt
  further_held (one_further {comma = comma} {ts = ts} {rs = rs} {tree = tree} {rest = rest} c d later) =
      (in_back (comma ∷ []) (ts ++ rs) tree (in_front ts rs tree (derived_held d)), all_in_back (comma ∷ []) (ts ++ rs) (list_of_trees rest) (all_in_back ts rs (list_of_trees rest) (further_held later)))

pub within_spanned : {level : Level} {ts : List TokenModel} {tree : Tree} → Derives level ts tree → (part : Tree) → IsWithin part tree → IsSpannedWithin ts part
within_spanned d part w = derived_held d part w
