-- The node of a lambda operator, put over its base and its body.
use Rattle.odata_typing.proofs.Common.{◌≡◌, ◌∙◌, refl, ap, subst, ℕ, List, Bool, true, false, Some, slice_get, Tree, lambda, Quantifier, collection, IsBooleanOrNull, expr_type, single_type, BindsVariable, Typed, CheckedNode, Judged, CheckContext, Walk, IsNodeJudged, LawsBelow, IsNodeReady, name_of, scope_of, truth_type, walk_put, walk_refused}
use Rattle.odata_signatures.specs.declared.edm_type.EdmType.{EdmType}
use Rattle.odata_signatures.specs.declared.refusal.TypeFaultCode.{TypeFaultCode}
use Rattle.odata_checked_filter.specs.declared.checked_node.NodeKind.{NodeKind}
use Rattle.odata_typing.specs.private.LambdaNode.{IsOverBody}
use Rattle.odata_typing.proofs.bodies.Faults.{refused_body}
use Rattle.odata_typing.proofs.flat.Closing.{put_changed, refused_tree, root_in, slots_in}
use Rattle.odata_typing.proofs.flat.Idle.{idle_lambda}
use Rattle.odata_typing.proofs.flat.Kept.{same_more}

module _ (laws : LawsBelow) (context : CheckContext) (judged : Judged) (old new : Walk) (quantifier : Quantifier) (base body : Tree) (result : Bool)
    (ready : IsNodeReady context old judged) (over : IsOverBody context old judged base body) where
  -- the base has the type of a collection
  over_typed : Typed (slots_in context) (root_in context) (scope_of context) base (collection (single_type context.schema.now over.member))
  over_typed =
      subst (λ (t : EdmType). Typed (slots_in context) (root_in context) (scope_of context) base (expr_type context.schema.now t)) over.base_type over.base_stands.typed

  pub lambda_put :
      (text : List ℕ)
      → IsBooleanOrNull (expr_type context.schema.now over.body_stands.found.edm_type)
      → result ≡ true
      → text ≡ name_of context judged
      → new ≡ walk_put old judged (NodeKind.Lambda quantifier) truth_type text
      → IsNodeJudged context judged (lambda quantifier base (name_of context judged) body) old new result
  lambda_put text truth goes_on same is =
      let schema = context.schema.now in
      let scope = scope_of context in
      let variable = name_of context judged in
      let span = judged.node.now.span in
      let m = single_type schema over.member in
      let binds : BindsVariable scope variable (Typed (slots_in context) (root_in context) scope base) m = record { over = over_typed; fresh = over.fresh } in
      put_changed context judged laws old old new (lambda quantifier base variable body) (NodeKind.Lambda quantifier) truth_type result ready (same_more old judged.number judged.stop) ready.ready.fresh goes_on
      (subst (λ (t : List ℕ). new ≡ walk_put old judged (NodeKind.Lambda quantifier) truth_type t) same is)
      tt refl tt
      (record { member_type = m; body = expr_type schema over.body_stands.found.edm_type; binds = binds; body_typed = over.body_stands.typed; truth = truth; makes = refl })
      (record {
        middle = over.middle;
        left = over.base_stands.stands;
        right = record {
          middle = judged.stop;
          left = record { member_type = m; binds = binds; body = over.body_stands.stands };
          right = refl;
        };
      })
      (λ idle. idle_lambda laws (slots_in context) (root_in context) scope span.start span.stop quantifier base variable body m over_typed (over.base_stands.idle idle) (over.body_stands.idle idle))

  pub lambda_refused :
      ¬ IsBooleanOrNull (expr_type context.schema.now over.body_stands.found.edm_type)
      → result ≡ false
      → new ≡ walk_refused old judged.node.now.span TypeFaultCode.BodyNotBoolean
      → IsNodeJudged context judged (lambda quantifier base (name_of context judged) body) old new result
  lambda_refused other stops is =
      refused_tree context judged old old new (lambda quantifier base (name_of context judged) body) TypeFaultCode.BodyNotBoolean result stops is
      (refused_body laws (slots_in context) (root_in context) (scope_of context) quantifier (name_of context judged) base body (single_type context.schema.now over.member) over_typed
      judged.node.now.span (expr_type context.schema.now over.body_stands.found.edm_type) over.fresh over.body_stands.typed other)

-- the type that the code finds where the base stops is the body's
pub body_type :
    (context : CheckContext) (judged : Judged) (walk : Walk) (base body : Tree) (over : IsOverBody context walk judged base body) (middle : ℕ) (type : EdmType)
    → middle ≡ over.base_stands.found.stop
    → ((found : CheckedNode) → slice_get walk.list.nodes middle ≡ Some found → type ≡ found.edm_type)
    → type ≡ over.body_stands.found.edm_type
body_type context judged walk base body over middle type stops at =
    at over.body_stands.found (ap (slice_get walk.list.nodes) (stops ∙ over.base_stands.last) ∙ over.body_stands.at)
