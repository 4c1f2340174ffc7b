-- The nodes of a list from one index up to another, the last one first.
use Rattle.odata_typing.proofs.Common.{◌≡◌, refl, ap, sym, ◌∙◌, subst, inl, inr, ℕ, zero, suc, ◌+◌, ◌-◌, ◌<◌, ◌≤◌, List, [], ◌∷◌, ◌++◌, Some, reverse, take, drop, length, length-drop, get_or, slice_get, arith, append_assoc, drop-drop, drop-take, get_or-drop, length-reverse, length-take-le, reverse-append, take-append-drop, take-take, take_more, get_or_from_slice_get, slice_get_cases, slice_get_within, nodes_before, AreFedBack, SyntaxNode, slice_range}
use Rattle.odata_typing.proofs.stacks.Stacks.{onward, run_before}

-- with the first node after them
pub run_more :
    (nodes : List SyntaxNode) (from index : ℕ) (n : SyntaxNode)
    → from ≤ index
    → slice_get nodes index ≡ Some n
    → run_before nodes from (index + 1) ≡ n ∷ run_before nodes from index
run_more nodes from index n order at =
    let inside : index < length nodes = slice_get_within nodes index n at in
    let m = index - from in
    let more : index + 1 - from ≡ m + 1 = omega arith in
    let count : length (drop from nodes) ≡ length nodes - from = length-drop from nodes in
    let here : get_or (drop from nodes) m n ≡ n =
    get_or-drop from nodes m n ∙ ap (λ (k : ℕ). get_or nodes k n) (omega arith) ∙ get_or_from_slice_get nodes index n n at in
    ap (λ (k : ℕ). reverse (take k (drop from nodes))) more
    ∙ ap (λ (ns : List SyntaxNode). reverse ns) (take_more (drop from nodes) m n (omega arith))
    ∙ reverse-append (take m (drop from nodes)) (get_or (drop from nodes) m n ∷ [])
    ∙ ap (λ (x : SyntaxNode). x ∷ reverse (take m (drop from nodes))) here

-- what holds of no nodes, and of one more node of a run that is fed wherever it holds of those before, holds of the run
pub run_each :
    (nodes : List SyntaxNode) (from stop : ℕ) (P : List SyntaxNode → Type 0)
    → P []
    → ((index : ℕ) (n : SyntaxNode) → from ≤ index → index < stop → slice_get nodes index ≡ Some n → AreFedBack (n ∷ run_before nodes from index)
    → P (run_before nodes from index) → P (n ∷ run_before nodes from index))
    → from ≤ stop
    → stop ≤ length nodes
    → AreFedBack (run_before nodes from stop)
    → P (run_before nodes from stop)
run_each nodes from stop P none more order inside fed =
    let at : from + (stop - from) ≡ stop = omega arith in
    subst (λ (k : ℕ). P (run_before nodes from k)) at (by (stop - from) (omega arith) (subst (λ (k : ℕ). AreFedBack (run_before nodes from k)) (sym at) fed))
  where
    by : (m : ℕ) → from + m ≤ stop → AreFedBack (run_before nodes from (from + m)) → P (run_before nodes from (from + m))
    by zero before fed =
        let empty : from + zero - from ≡ 0 = omega arith in
        subst P (sym (ap (λ (k : ℕ). reverse (take k (drop from nodes))) empty)) none
    by (suc m) before fed = elim (slice_get_cases nodes (from + m)).1 [
      | inl x ↦
          let next : run_before nodes from (from + suc m) ≡ x.0 ∷ run_before nodes from (from + m) =
          ap (λ (k : ℕ). run_before nodes from k) (omega arith) ∙ run_more nodes from (from + m) x.0 (omega arith) x.2 in
          let all : AreFedBack (x.0 ∷ run_before nodes from (from + m)) = subst (λ (ns : List SyntaxNode). AreFedBack ns) next fed in
          subst P (sym next) (more (from + m) x.0 (omega arith) (omega arith) x.2 all (by m (omega arith) all.1))
      | inr y ↦ let past : length nodes ≤ from + m = y.0 in absurd (omega arith)
    ]

-- in two parts
range_joined : (nodes : List SyntaxNode) (from middle stop : ℕ) → from ≤ middle → middle ≤ stop → slice_range nodes from middle ++ slice_range nodes middle stop ≡ slice_range nodes from stop
range_joined nodes from middle stop first second =
    let a = middle - from in
    let b = stop - middle in
    let xs = drop from nodes in
    let sum : stop - from ≡ a + b = omega arith in
    let front : take a (take (a + b) xs) ≡ take a xs = take-take a (a + b) xs (omega arith) in
    let back : drop a (take (a + b) xs) ≡ take b (drop middle nodes) =
    drop-take a b xs ∙ ap (λ (ns : List SyntaxNode). take b ns) (drop-drop a from nodes ∙ ap (λ (k : ℕ). drop k nodes) (omega arith)) in
    ap (λ (ns : List SyntaxNode). ns ++ take b (drop middle nodes)) (sym front)
    ∙ ap (λ (ns : List SyntaxNode). take a (take (a + b) xs) ++ ns) (sym back)
    ∙ take-append-drop a (take (a + b) xs)
    ∙ ap (λ (k : ℕ). take k xs) (sym sum)

pub run_joined : (nodes : List SyntaxNode) (from middle stop : ℕ) → from ≤ middle → middle ≤ stop → run_before nodes from stop ≡ run_before nodes middle stop ++ run_before nodes from middle
run_joined nodes from middle stop first second =
    ap (λ (ns : List SyntaxNode). reverse ns) (sym (range_joined nodes from middle stop first second))
    ∙ reverse-append (slice_range nodes from middle) (slice_range nodes middle stop)

-- all nodes before an index
pub run_all : (nodes : List SyntaxNode) (index : ℕ) → run_before nodes 0 index ≡ nodes_before nodes index
run_all nodes index =
    let all : index - 0 ≡ index = omega arith in
    ap (λ (k : ℕ). reverse (take k nodes)) all

pub before_more : (nodes : List SyntaxNode) (index : ℕ) (n : SyntaxNode) → slice_get nodes index ≡ Some n → nodes_before nodes (index + 1) ≡ n ∷ nodes_before nodes index
before_more nodes index n at =
    sym (run_all nodes (index + 1))
    ∙ run_more nodes 0 index n (omega arith) at
    ∙ ap (λ (ns : List SyntaxNode). n ∷ ns) (run_all nodes index)

pub before_joined : (nodes : List SyntaxNode) (from index : ℕ) → from ≤ index → nodes_before nodes index ≡ run_before nodes from index ++ nodes_before nodes from
before_joined nodes from index order =
    sym (run_all nodes index) ∙ run_joined nodes 0 from index (omega arith) order
    ∙ ap (λ (ns : List SyntaxNode). run_before nodes from index ++ ns) (run_all nodes from)

pub run_length : (nodes : List SyntaxNode) (from index : ℕ) → from ≤ index → index ≤ length nodes → length (run_before nodes from index) ≡ index - from
run_length nodes from index order inside =
    let count : length (drop from nodes) ≡ length nodes - from = length-drop from nodes in
    length-reverse (take (index - from) (drop from nodes)) ∙ length-take-le (index - from) (drop from nodes) (omega arith)

pub before_length : (nodes : List SyntaxNode) (index : ℕ) → index ≤ length nodes → length (nodes_before nodes index) ≡ index
before_length nodes index inside = length-reverse (take index nodes) ∙ length-take-le index nodes inside

-- nodes and those that follow them
pub onward_is : (later earlier : List SyntaxNode) → onward later earlier ≡ reverse later ++ earlier
onward_is [] earlier = refl
onward_is (n ∷ later) earlier =
    onward_is later (n ∷ earlier)
    ∙ sym (append_assoc (reverse later) (n ∷ []) earlier)
    ∙ ap (λ (ns : List SyntaxNode). ns ++ earlier) (sym (reverse-append (n ∷ []) later))

pub onward_run : (nodes : List SyntaxNode) (from index stop : ℕ) → from ≤ index → index ≤ stop → onward (slice_range nodes index stop) (run_before nodes from index) ≡ run_before nodes from stop
onward_run nodes from index stop first second =
    onward_is (slice_range nodes index stop) (run_before nodes from index) ∙ sym (run_joined nodes from index stop first second)
