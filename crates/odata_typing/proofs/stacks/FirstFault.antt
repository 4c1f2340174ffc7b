-- The first fault of a run is that of its tree, whatever nodes follow.
use Rattle.odata_typing.proofs.Common.{◌≡◌, refl, ap, sym, subst, ◌∙◌, inl, inr, ◌⊎◌, ℕ, zero, suc, ◌+◌, ◌-◌, ◌<◌, ◌≤◌, List, [], ◌∷◌, ◌++◌, reverse, take, drop, length, length-append, length-drop, arith, append_assoc, drop-append-le, drop-drop, nil_from_length, reverse-append, AreFedBack, Texts, child_count, last_tree, shape_over, tree_count_back, trees_back, trees_with, IsWithin, children_of, Tree, lambda, node, Quantifier, SyntaxNode, collection, Slots, children_in_scope, IsFirstUntypable, FirstBelow, TypedIsClear, IsTyped, Scope, TypeFault}
use Rattle.std.proofs.lemmas.Bool.{cases_lt}
use Rattle.odata_syntax.specs.Parse.{IsExpression}
use Rattle.odata_syntax.specs.declared.syntax_list.SyntaxKind.{SyntaxKind}
use Rattle.odata_typing.specs.private.SpanLaws.{SpanLaws}
use Rattle.odata_typing.proofs.stacks.Stacks.{BodiesBegin, IfLambda, NoneBegins, begin_of, onward, roots_from}
use Rattle.odata_typing.proofs.stacks.Children.{children_over, left_over, roots_count, trees_count}
use Rattle.odata_typing.proofs.stacks.InOrder.{first_of_children}
use Rattle.odata_typing.proofs.stacks.Onward.{each_drop, each_take, each_turned, earlier_fed, earlier_of, stays_within, within_whole}
use Rattle.odata_typing.proofs.untypable.Untypable.{AllTyped, IsBodiless, below_node, one_of}

-- one of the trees has the fault as its first; those before it have types, and begin no body but for the first one
pub record HasFirst
    (Begins : ℕ → Type 0) (slots : Slots) (root : List ℕ) (scope : Scope) (fault : TypeFault) (roots : List ℕ) (trees : List Tree)
    : Type 0 where
  pub newer : List Tree
  pub tree : Tree
  pub older : List Tree
  pub split : trees ≡ newer ++ (tree ∷ older)
  pub found : IsFirstUntypable slots root scope tree fault
  pub typed : AllTyped slots root scope older
  pub apart : NoneBegins Begins (drop (length newer) roots)

-- of some of the trees and a new one that replaces the others
pub none_after : (Begins : ℕ → Type 0) (added m : ℕ) (roots : List ℕ) → NoneBegins Begins roots → NoneBegins Begins (added ∷ drop (suc m) roots)
none_after Begins added m [] none = tt
none_after Begins added zero (root ∷ []) none = tt
none_after Begins added zero (root ∷ (before ∷ more)) none = none
none_after Begins added (suc m) (root ∷ []) none = tt
none_after Begins added (suc m) (root ∷ (before ∷ more)) none = none_after Begins added m (before ∷ more) none.1

-- the trees that a node takes, where these are more than the newer ones, and those that it leaves
take_past : (newer : List Tree) (tree : Tree) (older : List Tree) (count m : ℕ) → count ≡ suc (length newer + m) → take count (newer ++ (tree ∷ older)) ≡ newer ++ (tree ∷ take m older)
take_past [] tree older count m is =
    let e : count ≡ suc m = omega arith in
    ap (λ (k : ℕ). take k (tree ∷ older)) e
take_past (x ∷ newer) tree older count m is =
    let e : count ≡ suc (suc (length newer + m)) = omega arith in
    ap (λ (k : ℕ). take k (x ∷ (newer ++ (tree ∷ older)))) e
    ∙ ap (λ (ts : List Tree). x ∷ ts) (take_past newer tree older (suc (length newer + m)) m refl)

drop_past : (newer : List Tree) (tree : Tree) (older : List Tree) (count m : ℕ) → count ≡ suc (length newer + m) → drop count (newer ++ (tree ∷ older)) ≡ drop m older
drop_past [] tree older count m is =
    let e : count ≡ suc m = omega arith in
    ap (λ (k : ℕ). drop k (tree ∷ older)) e
drop_past (x ∷ newer) tree older count m is =
    let e : count ≡ suc (suc (length newer + m)) = omega arith in
    ap (λ (k : ℕ). drop k (x ∷ (newer ++ (tree ∷ older)))) e
    ∙ drop_past newer tree older (suc (length newer + m)) m refl

-- likewise of roots
drop_further : (roots : List ℕ) (i count m : ℕ) → count ≡ suc (i + m) → drop count roots ≡ drop (suc m) (drop i roots)
drop_further roots i count m is =
    let e : count ≡ i + suc m = omega arith in
    ap (λ (k : ℕ). drop k roots) e ∙ sym (drop-drop (suc m) i roots)

-- in the order of the text
turned_past : (newer : List Tree) (tree : Tree) (taken : List Tree) → reverse (newer ++ (tree ∷ taken)) ≡ reverse taken ++ (tree ∷ reverse newer)
turned_past newer tree taken =
    reverse-append newer (tree ∷ taken)
    ∙ ap (λ (ts : List Tree). ts ++ reverse newer) (reverse-append (tree ∷ []) taken)
    ∙ append_assoc (reverse taken) (tree ∷ []) (reverse newer)

-- what is not a lambda expression has no body, and all its children stand in its scope
abbrev IsPlain : SyntaxKind → Type 0
IsPlain kind = IfLambda kind ⊥

plain_bodiless :
    (slots : Slots) (root : List ℕ) (scope : Scope) (kind : SyntaxKind) (text : List ℕ) (items : ℕ) (trees : List Tree)
    → IsPlain kind
    → IsBodiless slots root scope (shape_over kind text items trees)
plain_bodiless slots root scope (SyntaxKind.Lambda quantifier) text items trees plain = absurd plain
plain_bodiless slots root scope kind text items trees plain = λ at body is. is

plain_children : (kind : SyntaxKind) (text : List ℕ) (items : ℕ) (trees : List Tree) → IsPlain kind → children_in_scope (shape_over kind text items trees) ≡ children_of (shape_over kind text items trees)
plain_children (SyntaxKind.Lambda quantifier) text items trees plain = absurd plain
plain_children kind text items trees plain = refl

plain_or_lambda : (kind : SyntaxKind) → IsPlain kind ⊎ ((quantifier : Quantifier) × (kind ≡ SyntaxKind.Lambda quantifier))
plain_or_lambda (SyntaxKind.Lambda quantifier) = inr (quantifier, refl)
plain_or_lambda kind = inl tt

-- the tree with the fault is the body of no lambda expression
pub not_a_body : (Begins : ℕ → Type 0) (from : ℕ) (roots : List ℕ) → 2 ≤ length roots → Begins (begin_of from roots) → ¬ NoneBegins Begins roots
not_a_body Begins from [] enough begins none = absurd (omega arith)
not_a_body Begins from (root ∷ []) enough begins none = absurd (omega arith)
not_a_body Begins from (root ∷ (before ∷ more)) enough begins none = none.0 begins

module _ (spans : SpanLaws) (clear : TypedIsClear) (below : FirstBelow) (Begins : ℕ → Type 0) (slots : Slots) (root : List ℕ) (scope : Scope) (whole : Tree) (from : ℕ) (names : Texts)
    (fault : TypeFault) (e : IsExpression whole) where
  -- a base that has an untypable node has no type, so the body over it is not judged
  first_of_base :
      (start stop : ℕ) (quantifier : Quantifier) (variable : List ℕ) (base body : Tree)
      → IsFirstUntypable slots root scope base fault
      → IsFirstUntypable slots root scope (node start stop (lambda quantifier base variable body)) fault
  first_of_base start stop quantifier variable base body found =
      below slots root scope (node start stop (lambda quantifier base variable body)) fault
      (below_node slots root scope (node start stop (lambda quantifier base variable body)) fault
      (λ at part is. clear slots root scope base found.at found.part (collection is.member_type, is.binds.over) found.untypable)
      (one_of slots root scope base fault found))

  -- the tree of a node over these trees
  abbrev tree_over : SyntaxNode → SyntaxKind → List Tree → Tree
  tree_over n kind trees = node n.span.start n.span.stop (shape_over kind (names n.text) n.count trees)

  -- one more node, over the tree with the fault, newer ones and older ones
  module _ (n : SyntaxNode) (newer : List Tree) (tree : Tree) (older : List Tree) (roots : List ℕ)
      (enough : child_count n.kind n.count ≤ length (newer ++ (tree ∷ older))) (beside : length roots ≡ length (newer ++ (tree ∷ older)))
      (within : IsWithin (tree_over n n.kind (newer ++ (tree ∷ older))) whole) (begins : IfLambda n.kind (Begins (begin_of from roots)))
      (none : NoneBegins Begins (drop (length newer) roots)) (typed : AllTyped slots root scope older) (found : IsFirstUntypable slots root scope tree fault) where
    -- a lambda expression takes it as its base
    lambda_takes : (quantifier : Quantifier) → n.kind ≡ SyntaxKind.Lambda quantifier → length newer < 2 → IsFirstUntypable slots root scope (tree_over n n.kind (newer ++ (tree ∷ older))) fault
    lambda_takes quantifier is few =
        subst (λ (k : SyntaxKind). IsFirstUntypable slots root scope (tree_over n k (newer ++ (tree ∷ older))) fault) (sym is) (by newer few none)
      where
        two : 2 ≤ length roots
        two = let count : child_count n.kind n.count ≡ 2 = ap (λ (k : SyntaxKind). child_count k n.count) is in omega arith

        by : (first : List Tree) → length first < 2 → NoneBegins Begins (drop (length first) roots)
            → IsFirstUntypable slots root scope (tree_over n (SyntaxKind.Lambda quantifier) (first ++ (tree ∷ older))) fault
        by [] few none = absurd (not_a_body Begins from roots two (subst (λ (k : SyntaxKind). IfLambda k (Begins (begin_of from roots))) is begins) none)
        by (body ∷ []) few none = first_of_base n.span.start n.span.stop quantifier (names n.text) tree body found
        by (body ∷ (other ∷ first)) few none = absurd (omega arith)

    -- so does any other node
    plain_takes : (m : ℕ) → IsPlain n.kind → child_count n.kind n.count ≡ suc (length newer + m) → IsFirstUntypable slots root scope (tree_over n n.kind (newer ++ (tree ∷ older))) fault
    plain_takes m plain count =
        let trees = newer ++ (tree ∷ older) in
        let children : children_of (shape_over n.kind (names n.text) n.count trees) ≡ reverse (take m older) ++ (tree ∷ reverse newer) =
        children_over n.kind (names n.text) n.count trees enough
        ∙ ap (λ (ts : List Tree). reverse ts) (take_past newer tree older (child_count n.kind n.count) m count)
        ∙ turned_past newer tree (take m older) in
        first_of_children spans clear below slots root scope whole (tree_over n n.kind trees) (reverse (take m older)) tree (reverse newer) fault
        e within
        (plain_bodiless slots root scope n.kind (names n.text) n.count trees plain)
        (plain_children n.kind (names n.text) n.count trees plain)
        children
        (each_turned (IsTyped slots root scope) (take m older) (each_take (IsTyped slots root scope) m older typed))
        found

    takes_first : length newer < child_count n.kind n.count → IsFirstUntypable slots root scope (tree_over n n.kind (newer ++ (tree ∷ older))) fault
    takes_first few = elim (plain_or_lambda n.kind) [
      | inl plain ↦ plain_takes (child_count n.kind n.count - suc (length newer)) plain (omega arith)
      | inr is ↦ let two : child_count n.kind n.count ≡ 2 = ap (λ (k : SyntaxKind). child_count k n.count) is.1 in lambda_takes is.0 is.1 (omega arith)
    ]

    one_onward : (added : ℕ) → HasFirst Begins slots root scope fault (added ∷ drop (child_count n.kind n.count) roots) (trees_with names n (newer ++ (tree ∷ older)))
    one_onward added =
        let count = child_count n.kind n.count in
        let trees = newer ++ (tree ∷ older) in
        let own = tree_over n n.kind trees in
        elim (cases_lt (length newer) count) [
          | inl few ↦
              let m = count - suc (length newer) in
              let is : count ≡ suc (length newer + m) = omega arith in
              record {
                newer = [];
                tree = own;
                older = drop m older;
                split = ap (λ (ts : List Tree). own ∷ ts) (left_over n.kind n.count trees ∙ drop_past newer tree older count m is);
                found = takes_first few;
                typed = each_drop (IsTyped slots root scope) m older typed;
                apart = subst (λ (rs : List ℕ). NoneBegins Begins (added ∷ rs)) (sym (drop_further roots (length newer) count m is)) (none_after Begins added m (drop (length newer) roots) none);
              }
          | inr many ↦
              let left : length (drop count newer) ≡ length newer - count = length-drop count newer in
              let same : drop (length (drop count newer)) (drop count roots) ≡ drop (length newer) roots =
              drop-drop (length (drop count newer)) count roots ∙ ap (λ (k : ℕ). drop k roots) (omega arith) in
              record {
                newer = own ∷ drop count newer;
                tree = tree;
                older = older;
                split = ap (λ (ts : List Tree). own ∷ ts) (left_over n.kind n.count trees ∙ drop-append-le count newer (tree ∷ older) many);
                found = found;
                typed = typed;
                apart = subst (λ (rs : List ℕ). NoneBegins Begins rs) (sym same) none;
              }
        ]

  -- at the end the whole is the tree with the fault
  at_end : (roots : List ℕ) (trees : List Tree) → length trees ≡ 1 → HasFirst Begins slots root scope fault roots trees → IsFirstUntypable slots root scope (last_tree trees) fault
  at_end roots trees one has =
      let count : length trees ≡ length has.newer + length (has.tree ∷ has.older) =
      ap (λ (ts : List Tree). length ts) has.split ∙ length-append has.newer (has.tree ∷ has.older) in
      let alone : has.newer ≡ [] = nil_from_length has.newer (omega arith) in
      subst (λ (t : Tree). IsFirstUntypable slots root scope t fault)
      (sym (ap (λ (ts : List Tree). last_tree ts) has.split ∙ ap (λ (ts : List Tree). last_tree (ts ++ (has.tree ∷ has.older))) alone)) has.found

  -- whatever nodes follow up to a whole tree, its first untypable node is this one
  fault_onward :
      (later earlier : List SyntaxNode)
      → AreFedBack (onward later earlier)
      → tree_count_back (onward later earlier) ≡ 1
      → IsWithin (last_tree (trees_back names (onward later earlier))) whole
      → BodiesBegin Begins from (onward later earlier)
      → HasFirst Begins slots root scope fault (roots_from from earlier) (trees_back names earlier)
      → IsFirstUntypable slots root scope (last_tree (trees_back names (onward later earlier))) fault
  fault_onward [] earlier fed one within bodies has = at_end (roots_from from earlier) (trees_back names earlier) (trees_count names earlier ∙ one) has
  fault_onward (n ∷ later) earlier fed one within bodies has =
      let trees = trees_back names earlier in
      let roots = roots_from from earlier in
      let count : length trees ≡ tree_count_back earlier = trees_count names earlier in
      let fits : child_count n.kind n.count ≤ tree_count_back earlier = (earlier_fed later (n ∷ earlier) fed).0 in
      let parts = stays_within names later (n ∷ earlier) fed one in
      let inside : IsWithin (tree_over n n.kind trees) whole = within_whole parts.0 within in
      let begins : IfLambda n.kind (Begins (begin_of from roots)) = (earlier_of (BodiesBegin Begins from) (λ m ns begin. begin.1) later (n ∷ earlier) bodies).0 in
      let roots_are : length roots ≡ tree_count_back earlier = roots_count from earlier in
      let enough : child_count n.kind n.count ≤ length trees = omega arith in
      let beside : length roots ≡ length trees = omega arith in
      let next : HasFirst Begins slots root scope fault (roots_from from (n ∷ earlier)) (trees_back names (n ∷ earlier)) =
      subst (λ (ts : List Tree). HasFirst Begins slots root scope fault ((from + length earlier) ∷ drop (child_count n.kind n.count) roots) (trees_with names n ts)) (sym has.split)
      (one_onward n has.newer has.tree has.older roots
      (subst (λ (ts : List Tree). child_count n.kind n.count ≤ length ts) has.split enough) (subst (λ (ts : List Tree). length roots ≡ length ts) has.split beside)
      (subst (λ (ts : List Tree). IsWithin (tree_over n n.kind ts) whole) has.split inside) begins has.apart has.typed has.found (from + length earlier)) in
      fault_onward later (n ∷ earlier) fed one within bodies next

  -- the newest tree of a run has a first untypable node, and the older ones have types
  pub first_fault :
      (later earlier : List SyntaxNode) (tree : Tree) (older : List Tree)
      → AreFedBack (onward later earlier)
      → tree_count_back (onward later earlier) ≡ 1
      → IsWithin (last_tree (trees_back names (onward later earlier))) whole
      → BodiesBegin Begins from (onward later earlier)
      → NoneBegins Begins (roots_from from earlier)
      → trees_back names earlier ≡ tree ∷ older
      → AllTyped slots root scope older
      → IsFirstUntypable slots root scope tree fault
      → IsFirstUntypable slots root scope (last_tree (trees_back names (onward later earlier))) fault
  first_fault later earlier tree older fed one within bodies none trees typed found =
      fault_onward later earlier fed one within bodies
      (record { newer = []; tree = tree; older = older; split = trees; found = found; typed = typed; apart = none })
