-- A list that is fed is fed at each node.
use Rattle.std.proofs.Common.{◌≡◌, subst, sym, ℕ, ◌+◌, ◌<◌, ◌≤◌, List, [], ◌∷◌, ◌++◌, drop, get_or, length, reverse, take}
use Rattle.std.proofs.lemmas.List.{reverse-append, take-append-drop, take_more}
use Rattle.odata_syntax.specs.declared.syntax_list.SyntaxNode.{SyntaxNode}
use Rattle.odata_syntax.specs.PostOrder.{AreFed, AreFedBack, child_count, tree_count}
use Rattle.odata_syntax.proofs.lists.Pushed.{fed_push}

later_fed : (later back : List SyntaxNode) → AreFedBack (later ++ back) → AreFedBack back
later_fed [] back fed = fed
later_fed (n ∷ later) back fed = later_fed later back fed.1

front_fed : (front later : List SyntaxNode) → AreFed (front ++ later) → AreFed front
front_fed front later fed =
    later_fed (reverse later) (reverse front) (subst (λ (ns : List SyntaxNode). AreFedBack ns) (reverse-append front later) fed)

-- the next node has its children before it
pub next_fed : (nodes : List SyntaxNode) (k : ℕ) (d : SyntaxNode) → AreFed nodes → k < length nodes → child_count (get_or nodes k d).kind (get_or nodes k d).count ≤ tree_count (take k nodes)
next_fed nodes k d fed inside =
    let split : nodes ≡ take (k + 1) nodes ++ drop (k + 1) nodes = sym (take-append-drop (k + 1) nodes) in
    let until : AreFed (take (k + 1) nodes) = front_fed (take (k + 1) nodes) (drop (k + 1) nodes) (subst (λ (ns : List SyntaxNode). AreFed ns) split fed) in
    let more : AreFed (take k nodes ++ get_or nodes k d ∷ []) = subst (λ (ns : List SyntaxNode). AreFed ns) (take_more nodes k d inside) until in
    let parts : (child_count (get_or nodes k d).kind (get_or nodes k d).count ≤ tree_count (take k nodes)) × AreFed (take k nodes) = rw fed_push at more in
    parts.0
