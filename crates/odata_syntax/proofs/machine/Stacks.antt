-- What waits, with the tokens that it has taken, and the operand that grows.
use Rattle.std.proofs.Common.{◌≡◌, refl, ap, subst, sym, ◌∙◌, ℕ, zero, suc, ◌+◌, ◌-◌, ◌≤◌, ◌<◌, List, [], ◌∷◌, ◌++◌, Bool, true, false, cond, Some, arith, add-zero, add-suc, append_assoc}
use Rattle.std.specs.Prelude.{nat_le, codes}
use Rattle.std.proofs.lemmas.Bool.{leb-true, leb-false}
use Rattle.std.proofs.lemmas.List.{append-nil}
use Rattle.std.proofs.lemmas.Option.{same_Some}
use Rattle.odata_syntax.specs.declared.binary_operator.BinaryOperator.{BinaryOperator}
use Rattle.odata_syntax.specs.declared.node.Quantifier.{Quantifier}
use Rattle.odata_text.specs.declared.token.TokenKind.{TokenKind}
use Rattle.odata_text.specs.TokenModel.{TokenModel}
use Rattle.odata_syntax.specs.Tree.{Tree, Trees, call, in_list, more_trees, no_trees, node, trees_of_list}
use Rattle.odata_syntax.specs.Spans.{list_of_trees}
use Rattle.odata_syntax.specs.Lexeme.{IsA, IsName, IsOperator, IsQuantifier, IsVariable, SpellsWord}
use Rattle.odata_syntax.specs.Grammar.{Derives, DerivesFurther, DerivesItems, Level, base_level, derives_binary, derives_call, derives_group, derives_has, derives_in_list, derives_in_path, derives_lambda, derives_negation, derives_not, function_name, looser, no_further, no_items, one_further, open_path_level, operator_level, or_level, path_level, primary_level, some_items, tree_to}
use Rattle.odata_syntax.specs.private.Machine.{Enclosure, Operation, Reduction, Waiting, arguments_from, binary_behind, body_behind, empty_tree, enclosure, enclosure_tree, expected_level, group_from, has_behind, in_behind, items_behind, join_operation, minus_from, not_from, operand_level, operation, operation_level, reduce, reduction_at}
use Rattle.odata_syntax.proofs.machine.Reading.{operator_level-bounds}

-- a tree of a level is one of each looser level
looser_by : (k : ℕ) (level : Level) {ts : List TokenModel} {tree : Tree} → Derives (level + k) ts tree → Derives level ts tree
looser_by zero level d = rw add-zero at d
looser_by (suc k) level {ts} {tree} d =
    let inner : Derives (suc (level + k)) ts tree = rw add-suc at d in
    looser_by k level (looser inner)

at_looser_level : (level tighter : Level) {ts : List TokenModel} {tree : Tree} → level ≤ tighter → Derives tighter ts tree → Derives level ts tree
at_looser_level level tighter {ts} {tree} le d =
    let sum : tighter ≡ level + (tighter - level) = omega arith in
    let P : ℕ → Type 0 = λ n. Derives n ts tree in
    looser_by (tighter - level) level (subst P sum d)

-- Items.

-- items so far, each with the comma after it
pub data ItemsBefore : List TokenModel → List Tree → Type 0 where
  none_before : ItemsBefore [] []
  one_before :
      {is ts : List TokenModel} {items : List Tree} {tree : Tree} {comma : TokenModel}
      → ItemsBefore is items
      → Derives or_level ts tree
      → IsA TokenKind.Comma comma
      → ItemsBefore (is ++ (ts ++ (comma ∷ []))) (items ++ (tree ∷ []))

pub trees_of_list-of_trees : (trees : Trees) → trees_of_list (list_of_trees trees) ≡ trees
trees_of_list-of_trees no_trees = refl
trees_of_list-of_trees (more_trees tree more) = ap (λ k. more_trees tree k) (trees_of_list-of_trees more)

-- and one more, with further ones
items_derived : {is : List TokenModel} {items : List Tree} → ItemsBefore is items → {own rs : List TokenModel} {tree : Tree} {rest : Trees} → Derives or_level own tree → DerivesFurther rs rest → DerivesItems (is ++ (own ++ rs)) (trees_of_list (items ++ (tree ∷ list_of_trees rest)))
items_derived none_before {own} {rs} {tree} {rest} d later =
    let P : Trees → Type 0 = λ k. DerivesItems (own ++ rs) (more_trees tree k) in
    subst P (sym (trees_of_list-of_trees rest)) (some_items d later)
items_derived (one_before {is = is} {ts = ts} {items = items} {tree = before} {comma = comma} b e c) {own} {rs} {tree} {rest} d later =
    let inner = items_derived b e (one_further c d later) in
    let P : List TokenModel → Type 0 = λ k. DerivesItems k (trees_of_list (items ++ (before ∷ (tree ∷ list_of_trees rest)))) in
    let tokens : is ++ (ts ++ (comma ∷ (own ++ rs))) ≡ (is ++ (ts ++ (comma ∷ []))) ++ (own ++ rs) = sym (append_assoc is (ts ++ (comma ∷ [])) (own ++ rs) ∙ ap (λ k. is ++ k) (append_assoc ts (comma ∷ []) (own ++ rs))) in
    let Q : List Tree → Type 0 = λ k. DerivesItems ((is ++ (ts ++ (comma ∷ []))) ++ (own ++ rs)) (trees_of_list k) in
    let trees : items ++ (before ∷ (tree ∷ list_of_trees rest)) ≡ (items ++ (before ∷ [])) ++ (tree ∷ list_of_trees rest) = sym (append_assoc items (before ∷ []) (tree ∷ list_of_trees rest)) in
    subst Q trees (subst P tokens inner)

items_closed : {is own : List TokenModel} {items : List Tree} {tree : Tree} → ItemsBefore is items → Derives or_level own tree → DerivesItems (is ++ own) (trees_of_list (items ++ (tree ∷ [])))
items_closed {is} {own} {items} {tree} b d =
    let P : List TokenModel → Type 0 = λ k. DerivesItems (is ++ k) (trees_of_list (items ++ (tree ∷ []))) in
    subst P (append-nil own) (items_derived b d no_further)

no_end : (items : List Tree) (tree : Tree) → items ++ (tree ∷ []) ≡ [] → ⊥
no_end [] tree e = cc
no_end (x ∷ items) tree e = cc

no_items_before : {is : List TokenModel} {items : List Tree} → ItemsBefore is items → items ≡ [] → is ≡ []
no_items_before none_before e = refl
no_items_before (one_before {items = items} {tree = tree} b d c) e = absurd (no_end items tree e)

-- What waits, with the tokens that it has taken.

pub data IsOperation : Operation → List TokenModel → Type 0 where
  is_binary :
      {operator : BinaryOperator} {ls : List TokenModel} {t : TokenModel} {left : Tree}
      → Derives (operator_level operator) ls left
      → IsOperator operator t
      → IsOperation (binary_behind operator left) (ls ++ (t ∷ []))
  is_has :
      {ls : List TokenModel} {t : TokenModel} {left : Tree}
      → Derives primary_level ls left
      → SpellsWord (codes "has") t
      → IsOperation (has_behind left) (ls ++ (t ∷ []))
  is_in :
      {ls : List TokenModel} {t : TokenModel} {left : Tree}
      → Derives primary_level ls left
      → SpellsWord (codes "in") t
      → IsOperation (in_behind left) (ls ++ (t ∷ []))
  is_minus : {t : TokenModel} → IsA TokenKind.Minus t → IsOperation (minus_from t.start) (t ∷ [])
  is_not : {t : TokenModel} → SpellsWord (codes "not") t → IsOperation (not_from t.start) (t ∷ [])

-- with the operand that it waits for
operation_derived : {w : Operation} {us own : List TokenModel} {tree : Tree} → IsOperation w us → Derives (operand_level w) own tree → Derives (operation_level w) (us ++ own) (join_operation w tree)
operation_derived (is_binary dl o) d = rw append_assoc (derives_binary dl o d)
operation_derived (is_has dl s) d = rw append_assoc (derives_has dl s d)
operation_derived (is_in dl s) d = rw append_assoc (derives_in_path dl s d)
operation_derived (is_minus a) d = derives_negation a d
operation_derived (is_not s) d = derives_not s d

pub data IsEnclosure : Enclosure → List TokenModel → Type 0 where
  is_group : {t : TokenModel} → IsA TokenKind.Open t → IsEnclosure (group_from t.start) (t ∷ [])
  is_items :
      {ls is : List TokenModel} {t first : TokenModel} {left : Tree} {items : List Tree}
      → Derives primary_level ls left
      → SpellsWord (codes "in") t
      → IsA TokenKind.Open first
      → ItemsBefore is items
      → IsEnclosure (items_behind left items) (ls ++ (t ∷ first ∷ is))
  is_call :
      {is : List TokenModel} {t first : TokenModel} {items : List Tree}
      → IsName t
      → IsA TokenKind.Open first
      → ItemsBefore is items
      → IsEnclosure (arguments_from t.start (function_name t) items) (t ∷ first ∷ is)
  is_body :
      {quantifier : Quantifier} {bs : List TokenModel} {slash t first v c : TokenModel} {base : Tree}
      → Derives open_path_level bs base
      → IsA TokenKind.Slash slash
      → IsQuantifier quantifier t
      → IsA TokenKind.Open first
      → IsVariable v
      → IsA TokenKind.Colon c
      → IsEnclosure (body_behind quantifier base v.text) (bs ++ (slash ∷ t ∷ first ∷ v ∷ c ∷ []))

abbrev pub enclosure_level : Enclosure → Level
enclosure_level (group_from from) = base_level
enclosure_level (items_behind left items) = primary_level
enclosure_level (arguments_from from text items) = base_level
enclosure_level (body_behind quantifier base text) = path_level

pub enclosure_level-bounds : (e : Enclosure) → (primary_level ≤ enclosure_level e) × (enclosure_level e ≤ path_level)
enclosure_level-bounds (group_from from) = (omega arith, omega arith)
enclosure_level-bounds (items_behind left items) = (omega arith, omega arith)
enclosure_level-bounds (arguments_from from text items) = (omega arith, omega arith)
enclosure_level-bounds (body_behind quantifier base text) = (omega arith, omega arith)

regroup_items : (ls is own : List TokenModel) (t first last : TokenModel) → ls ++ (t ∷ (first ∷ ((is ++ own) ++ (last ∷ [])))) ≡ (ls ++ (t ∷ (first ∷ is))) ++ (own ++ (last ∷ []))
regroup_items ls is own t first last = simp append_assoc

-- with what stands within it, and `)`
pub enclosure_derived : {e : Enclosure} {us own : List TokenModel} {tree : Tree} {last : TokenModel} → IsEnclosure e us → Derives or_level own tree → IsA TokenKind.Close last → Derives (enclosure_level e) (us ++ (own ++ (last ∷ []))) (enclosure_tree e tree last.stop)
enclosure_derived (is_group a) d b = derives_group a d b
enclosure_derived {own = own} {tree = tree} {last = last} (is_items {ls = ls} {is = is} {t = t} {first = first} {left = left} {items = items} dl s a before) d b =
    let P : List TokenModel → Type 0 = λ k. Derives primary_level k (tree_to left last (in_list left (trees_of_list (items ++ (tree ∷ []))))) in
    subst P (regroup_items ls is own t first last) (derives_in_list dl s a (items_closed before d) b)
enclosure_derived {own = own} {tree = tree} {last = last} (is_call {is = is} {t = t} {first = first} {items = items} n a before) d b =
    let P : List TokenModel → Type 0 = λ k. Derives base_level k (node t.start last.stop (call (function_name t) (trees_of_list (items ++ (tree ∷ []))))) in
    subst P (regroup_items [] is own t first last) (derives_call n a (items_closed before d) b)
enclosure_derived (is_body dp s q a i k) d b = rw append_assoc (derives_lambda dp s q a i k d b)

regroup_empty : (ls is : List TokenModel) (t first last : TokenModel) → is ≡ [] → ls ++ (t ∷ (first ∷ (last ∷ []))) ≡ (ls ++ (t ∷ (first ∷ is))) ++ (last ∷ [])
regroup_empty ls is t first last e = rw (e, append_assoc) refl

-- with nothing within it
empty_list : (items : List Tree) {left : Tree} {ls is : List TokenModel} {t first last : TokenModel} {tree : Tree} → Derives primary_level ls left → SpellsWord (codes "in") t → IsA TokenKind.Open first → ItemsBefore is items → IsA TokenKind.Close last → empty_tree (items_behind left items) last.stop ≡ Some tree → Derives primary_level ((ls ++ (t ∷ first ∷ is)) ++ (last ∷ [])) tree
empty_list [] {left} {ls} {is} {t} {first} {last} {tree} dl s a before b e =
    let whole : Tree = tree_to left last (in_list left no_trees) in
    let P : List TokenModel → Type 0 = λ k. Derives primary_level k whole in
    let Q : Tree → Type 0 = λ k. Derives primary_level ((ls ++ (t ∷ first ∷ is)) ++ (last ∷ [])) k in
    subst Q (same_Some whole tree e) (subst P (regroup_empty ls is t first last (no_items_before before refl)) (derives_in_list dl s a no_items b))
empty_list (x ∷ items) dl s a before b e = absurd (cc)

empty_call : (items : List Tree) {is : List TokenModel} {t first last : TokenModel} {tree : Tree} → IsName t → IsA TokenKind.Open first → ItemsBefore is items → IsA TokenKind.Close last → empty_tree (arguments_from t.start (function_name t) items) last.stop ≡ Some tree → Derives base_level ((t ∷ first ∷ is) ++ (last ∷ [])) tree
empty_call [] {is} {t} {first} {last} {tree} n a before b e =
    let whole : Tree = node t.start last.stop (call (function_name t) no_trees) in
    let P : List TokenModel → Type 0 = λ k. Derives base_level k whole in
    let Q : Tree → Type 0 = λ k. Derives base_level ((t ∷ first ∷ is) ++ (last ∷ [])) k in
    subst Q (same_Some whole tree e) (subst P (regroup_empty [] is t first last (no_items_before before refl)) (derives_call n a no_items b))
empty_call (x ∷ items) n a before b e = absurd (cc)

pub empty_derived : {e : Enclosure} {us : List TokenModel} {tree : Tree} {last : TokenModel} → IsEnclosure e us → IsA TokenKind.Close last → empty_tree e last.stop ≡ Some tree → Derives (enclosure_level e) (us ++ (last ∷ [])) tree
empty_derived (is_group a) b e = absurd (cc)
empty_derived (is_items {items = items} dl s a before) b e = empty_list items dl s a before b e
empty_derived (is_call {items = items} n a before) b e = empty_call items n a before b e
empty_derived (is_body dp s q a i k) b e = absurd (cc)

pub data IsStack : List Waiting → List TokenModel → Type 0 where
  bottom : IsStack [] []
  above :
      {below : List Waiting} {ts us : List TokenModel} {w : Operation}
      → IsStack below ts
      → IsOperation w us
      → expected_level below ≤ operation_level w
      → IsStack (operation w ∷ below) (ts ++ us)
  within :
      {below : List Waiting} {ts us : List TokenModel} {e : Enclosure}
      → IsStack below ts
      → IsEnclosure e us
      → expected_level below ≤ enclosure_level e
      → IsStack (enclosure e ∷ below) (ts ++ us)

pub expected_level-bound : (ws : List Waiting) → expected_level ws ≤ path_level
expected_level-bound [] = omega arith
expected_level-bound (operation (binary_behind operator left) ∷ below) = let bounds = operator_level-bounds operator in omega arith
expected_level-bound (operation (has_behind left) ∷ below) = omega arith
expected_level-bound (operation (in_behind left) ∷ below) = omega arith
expected_level-bound (operation (minus_from from) ∷ below) = omega arith
expected_level-bound (operation (not_from from) ∷ below) = omega arith
expected_level-bound (enclosure e ∷ below) = omega arith

-- what a tighter operator does not close waits for an operand that may be its
operand_level-held : (w : Operation) (level : Level) → operation_level w < level → level ≤ primary_level → operand_level w ≤ level
operand_level-held (binary_behind operator left) level h le = h
operand_level-held (has_behind left) level h le = absurd (omega arith)
operand_level-held (in_behind left) level h le = absurd (omega arith)
operand_level-held (minus_from from) level h le = omega arith
operand_level-held (not_from from) level h le = omega arith

-- what an operator of this level finds: what waits is looser, and the operand is derived at the level
pub record Growth (level : Level) (r : Reduction) (ts : List TokenModel) : Type 0 where
  pub before : List TokenModel
  pub own : List TokenModel
  pub split : ts ≡ before ++ own
  pub stacked : IsStack r.waiting before
  pub outer : expected_level r.waiting ≤ level
  pub derived : Derives level own r.tree

grown_along : (level : Level) (r : Reduction) (ts us : List TokenModel) → us ≡ ts → Growth level r ts → Growth level r us
grown_along level r ts us e g = record { before = g.before; own = g.own; split = e ∙ g.split; stacked = g.stacked; outer = g.outer; derived = g.derived }

grown_if : (level : Level) (b : Bool) (x y : Reduction) (ts : List TokenModel) → (b ≡ true → Growth level x ts) → (b ≡ false → Growth level y ts) → Growth level (cond b x y) ts
grown_if level true x y ts f g = f refl
grown_if level false x y ts f g = g refl

pub grow : {ws : List Waiting} {ts : List TokenModel} → IsStack ws ts → (level tight : Level) (own : List TokenModel) (tree : Tree) → or_level ≤ level → level ≤ primary_level → expected_level ws ≤ tight → level ≤ tight → Derives tight own tree → Growth level (reduce level ws tree) (ts ++ own)
grow bottom level tight own tree one most outer_le level_le d =
    record { before = []; own = own; split = refl; stacked = bottom; outer = one; derived = at_looser_level level tight level_le d }
grow (above {below = below} {ts = ts} {us = us} {w = w} s o le) level tight own tree one most outer_le level_le d =
    let inner : Derives (operand_level w) own tree = at_looser_level (operand_level w) tight outer_le d in
    let whole : Derives (operation_level w) (us ++ own) (join_operation w tree) = operation_derived o inner in
    grown_if level (nat_le level (operation_level w)) (reduce level below (join_operation w tree)) (reduction_at (operation w ∷ below) tree) ((ts ++ us) ++ own)
    (λ (h : nat_le level (operation_level w) ≡ true). grown_along level (reduce level below (join_operation w tree)) (ts ++ (us ++ own)) ((ts ++ us) ++ own) (append_assoc ts us own) (grow s level (operation_level w) (us ++ own) (join_operation w tree) one most le (leb-true level (operation_level w) h) whole))
    (λ (h : nat_le level (operation_level w) ≡ false).
    let looser_one : operation_level w < level = leb-false level (operation_level w) h in
    record { before = ts ++ us; own = own; split = refl; stacked = above s o le; outer = operand_level-held w level looser_one most; derived = at_looser_level level tight level_le d })
grow (within {ts = ts} {us = us} s e le) level tight own tree one most outer_le level_le d =
    record { before = ts ++ us; own = own; split = refl; stacked = within s e le; outer = one; derived = at_looser_level level tight level_le d }
