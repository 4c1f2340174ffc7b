-- Nodes of calls.
use Rattle.odata_typing.proofs.Common.{◌≡◌, ◌∙◌, refl, ap, subst, ℕ, ◌+◌, List, [], ◌∷◌, Bool, true, false, map, take, zero, suc, Tree, call, trees_of_list, ExprType, SchemaModel, IsTypeThere, expr_type, code_of_call, CheckedNode, IsCallNode, Judged, CheckContext, Walk, IsNodeJudged, LawsBelow, IsNodeReady, scope_of, walk_put, walk_refused}
use Rattle.odata_signatures.specs.CallTyped.{CallReason, CallTyped, FunctionTyped}
use Rattle.odata_signatures.specs.Functions.{IsNamed}
use Rattle.odata_signatures.specs.declared.call.CallFault.{CallFault}
use Rattle.odata_signatures.specs.declared.edm_type.EdmType.{EdmType}
use Rattle.odata_signatures.specs.declared.function.Function.{Function}
use Rattle.odata_signatures.specs.declared.refusal.TypeFaultCode.{TypeFaultCode}
use Rattle.odata_checked_filter.specs.declared.checked_node.NodeKind.{NodeKind}
use Rattle.odata_typing.proofs.calls.FewArguments.{reason_by_first, typed_by_first, untyped_by_first}
use Rattle.odata_typing.proofs.flat.Closing.{put_changed, refused_tree, root_in, slots_in}
use Rattle.odata_typing.proofs.flat.Idle.{idle_call}
use Rattle.odata_typing.proofs.flat.Kept.{same_more}
use Rattle.odata_typing.proofs.placed.Rows.{IsRowOf, types_of}
use Rattle.odata_typing.proofs.untypable.Several.{refused_call}

-- the types of the code, by name, of the first nodes
named_first : (schema : SchemaModel) (k : ℕ) (row : List CheckedNode) → map (expr_type schema) (take k (map (λ found. found.edm_type) row)) ≡ take k (types_of schema row)
named_first schema zero row = refl
named_first schema (suc k) [] = refl
named_first schema (suc k) (found ∷ row) = ap (λ (types : List ExprType). expr_type schema found.edm_type ∷ types) (named_first schema k row)

pub first_of_row : (schema : SchemaModel) (types : List EdmType) (row : List CheckedNode) → types ≡ take 4 (map (λ found. found.edm_type) row) → map (expr_type schema) types ≡ take 4 (types_of schema row)
first_of_row schema types row same = ap (map (expr_type schema)) same ∙ named_first schema 4 row

module _ (laws : LawsBelow) (context : CheckContext) (judged : Judged) (old new : Walk) (asked : List ℕ) (arguments : List Tree) (row : List CheckedNode) (types : List EdmType) (result : Bool)
    (ready : IsNodeReady context old judged)
    (is : IsRowOf context.schema.now context.filtered_type (scope_of context) old arguments (judged.number + 1) judged.stop row)
    (first : types ≡ take 4 (map (λ found. found.edm_type) row)) where
  pub called :
      (function : Function) (kind : NodeKind) (type : EdmType)
      → IsNamed function asked
      → FunctionTyped function (map (expr_type context.schema.now) types) (expr_type context.schema.now type)
      → IsTypeThere context.schema.now type
      → IsCallNode asked kind
      → result ≡ true
      → new ≡ walk_put old judged kind type []
      → IsNodeJudged context judged (call asked (trees_of_list arguments)) old new result
  called function kind type named makes there of_kind goes_on put =
      let schema = context.schema.now in
      let span = judged.node.now.span in
      let makes_first : FunctionTyped function (take 4 (types_of schema row)) (expr_type schema type) = subst (λ (ts : List ExprType). FunctionTyped function ts (expr_type schema type)) (first_of_row schema types row first) makes in
      put_changed context judged laws old old new (call asked (trees_of_list arguments)) kind type result ready (same_more old judged.number judged.stop) ready.ready.fresh goes_on put there of_kind tt
      (record {
        types = types_of schema row;
        arguments_typed = is.typed;
        call_typed = record { function = function; named = named; typed = typed_by_first function (types_of schema row) (expr_type schema type) makes_first };
      })
      is.stand
      (λ idle. idle_call (slots_in context) (root_in context) (scope_of context) span.start span.stop asked arguments (is.idle idle))

  pub uncalled :
      (fault : CallFault) (code : TypeFaultCode)
      → ((type : ExprType) → ¬ CallTyped asked (map (expr_type context.schema.now) types) type)
      → CallReason asked (map (expr_type context.schema.now) types) fault
      → code ≡ code_of_call fault
      → result ≡ false
      → new ≡ walk_refused old judged.node.now.span code
      → IsNodeJudged context judged (call asked (trees_of_list arguments)) old new result
  uncalled fault code none reason same stops refused =
      let schema = context.schema.now in
      let all : List ExprType = types_of schema row in
      let by_first = first_of_row schema types row first in
      refused_tree context judged old old new (call asked (trees_of_list arguments)) code result stops refused
      (refused_call laws (slots_in context) (root_in context) (scope_of context) judged.node.now.span asked arguments all fault code is.typed is.each
      (untyped_by_first asked all (subst (λ (ts : List ExprType). (type : ExprType) → ¬ CallTyped asked ts type) by_first none))
      (reason_by_first asked all fault (subst (λ (ts : List ExprType). CallReason asked ts fault) by_first reason)) same)
