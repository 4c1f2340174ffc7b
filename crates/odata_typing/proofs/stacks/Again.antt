-- Two readings of one node of the list say the same.
use Rattle.odata_typing.proofs.Common.{◌≡◌, sym, subst, ◌∙◌, ℕ, ◌+◌, ◌-◌, ◌<◌, ◌≤◌, Bool, length, same_Some, number_at, places_of, IsTextRange, text_in, Tree, lambda, node, Quantifier, SyntaxNode, Judged, CheckContext, Walk, IsJudged, IsNodeJudged, IsStanding, IsNodeAt, name_of, scope_of}
use Rattle.odata_syntax.specs.declared.syntax_list.SyntaxKind.{SyntaxKind}
use Rattle.odata_typing.specs.private.LambdaNode.{IsLambdaReady}

same_node : (context : CheckContext) (index : ℕ) (a b : Judged) → IsNodeAt context index a → IsNodeAt context index b → a.node.now ≡ b.node.now
same_node context index a b x y = same_Some a.node.now b.node.now (sym x.at ∙ y.at)

-- a lambda operator that can be judged by the one reading can be by the other
pub ready_again :
    (context : CheckContext) (walk : Walk) (from index : ℕ) (a b : Judged) (quantifier : Quantifier) (base : Tree)
    → IsNodeAt context index b
    → IsLambdaReady context walk from index a quantifier base
    → IsLambdaReady context walk from index b quantifier base
ready_again context walk from index a b quantifier base at ready =
    let node_is : a.node.now ≡ b.node.now = same_node context index a b ready.at at in
    let number_is : a.number ≡ b.number = ready.at.number ∙ sym at.number in
    let stop_is : a.stop ≡ b.stop = ready.at.stop ∙ sym at.stop in
    let Order : ℕ → ℕ → Type 0 = λ (i j : ℕ). i < j in
    let Base : ℕ → Type 0 = λ (i : ℕ). IsStanding context.schema.now context.filtered_type (scope_of context) walk (i + 1) (number_at (places_of context.nodes.now) (index - 1)) base in
    record {
      context_is = ready.context_is;
      at = at;
      lambda_is = subst (λ (n : SyntaxNode). n.kind ≡ SyntaxKind.Lambda quantifier) node_is ready.lambda_is;
      ready = record {
        ready = ready.ready.ready;
        order = subst (λ (j : ℕ). Order b.number j) stop_is (subst (λ (i : ℕ). Order i a.stop) number_is ready.ready.order);
        inside = subst (λ (j : ℕ). j ≤ length walk.list.nodes) stop_is ready.ready.inside;
      };
      text = subst (λ (n : SyntaxNode). IsTextRange context.text.now n.text) node_is ready.text;
      base_stands = subst Base number_is ready.base_stands;
      body = ready.body;
      body_stop = ready.body_stop ∙ stop_is;
    }

-- and what is judged of it is the same
pub judged_again :
    (context : CheckContext) (index : ℕ) (a b : Judged) (quantifier : Quantifier) (base body : Tree) (old new : Walk) (result : Bool)
    → IsNodeAt context index a
    → IsNodeAt context index b
    → IsNodeJudged context b (lambda quantifier base (name_of context b) body) old new result
    → IsNodeJudged context a (lambda quantifier base (name_of context a) body) old new result
judged_again context index a b quantifier base body old new result x y judged =
    let Is : ℕ → ℕ → SyntaxNode → Type 0 = λ (i j : ℕ) (n : SyntaxNode).
    IsJudged context.schema.now context.filtered_type (scope_of context) i j (node n.span.start n.span.stop (lambda quantifier base (text_in context.text.now n.text) body)) old new result in
    let first : Is a.number b.stop b.node.now = subst (λ (i : ℕ). Is i b.stop b.node.now) (y.number ∙ sym x.number) judged in
    let second : Is a.number a.stop b.node.now = subst (λ (j : ℕ). Is a.number j b.node.now) (y.stop ∙ sym x.stop) first in
    subst (λ (n : SyntaxNode). Is a.number a.stop n) (sym (same_node context index a b x y)) second
