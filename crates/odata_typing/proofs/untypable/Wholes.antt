-- The walk over all nodes of a context.
use Rattle.odata_typing.proofs.Common.{◌≡◌, refl, replicate, ◌∙◌, sym, ap, subst, ℕ, ◌-◌, ◌<◌, List, [], Bool, Option, Some, IfErr, IfOk, IfSome, Result, Ok, Err, length, slice_get, length-replicate, slice_get_within, number_at, places_of, stop_at, Tree, HoldsType, SchemaModel, slots_of, type_name_at, IsBooleanOrNull, expr_type, FewNodes, Scope, TypeFault, FlatTree, tree_of_nodes, nothing_yet, with_room, CheckedNode, CheckContext, Walk, IsJudged, IsPut, IsStanding, IsTreeJudged, LawsBelow, IsReady, IsContext, run_tree, whole_tree, scope_of}
use Rattle.odata_signatures.specs.HasTyping.{HasTree, HasTyping}
use Rattle.odata_signatures.specs.declared.refusal.Refusal.{Refusal}
use Rattle.odata_signatures.specs.declared.refusal.TypeFaultCode.{TypeFaultCode}
use Rattle.odata_checked_filter.specs.Laws.{OneTree}
use Rattle.odata_typing.specs.private.Answer.{IsTypeRefusal}
use Rattle.odata_typing.specs.private.Checker.{IsRefusedFor, IsWalked}
use Rattle.odata_typing.proofs.untypable.Checks.{not_boolean, type_none, type_refusal, whole_filter, whole_idle, whole_stands, whole_typing}
use Rattle.odata_typing.proofs.stacks.Contexts.{whole_is}

-- a list with room for the nodes of a text
pub room_made :
    (old new : FlatTree) (text : List ℕ) (count : ℕ)
    → new ≡ with_room old text count
    → (new.source ≡ text) × (length new.nodes ≡ count) × (length new.texts ≡ length new.nodes)
room_made old new text count is =
    let IsMade : FlatTree → Type 0 = λ (list : FlatTree). (list.source ≡ text) × (length list.nodes ≡ count) × (length list.texts ≡ length list.nodes) in
    let nodes : length (replicate count nothing_yet) ≡ count = length-replicate count nothing_yet in
    let empty : List ℕ = [] in
    subst IsMade (sym is) (refl, nodes, length-replicate count empty ∙ sym nodes)

-- in all places, without variables
pub whole_judged :
    (context : CheckContext) (old new : Walk) (result : Bool)
    → IsContext context
    → scope_of context ≡ []
    → IsTreeJudged context (number_at (places_of context.nodes.now) (length context.nodes.now - 1)) (stop_at (places_of context.nodes.now) (length context.nodes.now - 1)) (run_tree context 0 (length context.nodes.now)) old new result
    → IsJudged context.schema.now context.filtered_type [] 0 (length context.nodes.now) (whole_tree context) old new result
whole_judged context old new result is none judged =
    let n = context.filtered_type in
    let schema = context.schema.now in
    let at_scope = subst (λ (scope : Scope). IsJudged schema n scope (number_at (places_of context.nodes.now) (length context.nodes.now - 1)) (stop_at (places_of context.nodes.now) (length context.nodes.now - 1)) (run_tree context 0 (length context.nodes.now)) old new result) none judged in
    let at_start = subst (λ (i : ℕ). IsJudged schema n [] i (stop_at (places_of context.nodes.now) (length context.nodes.now - 1)) (run_tree context 0 (length context.nodes.now)) old new result) is.places.root at_scope in
    let at_stop = subst (λ (j : ℕ). IsJudged schema n [] 0 j (run_tree context 0 (length context.nodes.now)) old new result) is.places.whole at_start in
    subst (λ (tree : Tree). IsJudged schema n [] 0 (length context.nodes.now) tree old new result) (whole_is context) at_stop

-- it stands in the whole list
pub whole_put :
    (context : CheckContext) (old new : Walk)
    → IsReady context old
    → IsPut context.schema.now context.filtered_type [] 0 (length context.nodes.now) (whole_tree context) old new
    → IsStanding context.schema.now context.filtered_type [] new 0 (length new.list.nodes) (whole_tree context)
whole_put context old new ready put =
    subst (λ (j : ℕ). IsStanding context.schema.now context.filtered_type [] new 0 j (whole_tree context)) (sym (put.kept.count ∙ ready.count)) put.stands

pub some_place : (context : CheckContext) (walk : Walk) (stop : ℕ) (tree : Tree) → IsStanding context.schema.now context.filtered_type [] walk 0 stop tree → 0 < length walk.list.nodes
some_place context walk stop tree stands = slice_get_within walk.list.nodes 0 stands.found stands.at

-- ---- what is returned

-- a whole of another type than true, false or null
pub no_truth :
    (schema : SchemaModel) (n : ℕ) (tree : Tree) (walk : Walk) (len : ℕ) (fault : TypeFault)
    → IsStanding schema n [] walk 0 (length walk.list.nodes) tree
    → fault ≡ record { code = TypeFaultCode.NotBoolean; span = record { start = 0; stop = len } }
    → ((found : CheckedNode) → slice_get walk.list.nodes 0 ≡ Some found → ¬ IsBooleanOrNull (expr_type schema found.edm_type))
    → IsTypeRefusal (slots_of schema) (type_name_at schema n) tree len (Refusal.Typing fault)
no_truth schema n tree walk len fault stands is other = not_boolean schema n tree walk len (Refusal.Typing fault) stands (other stands.found stands.at) (ap Refusal.Typing is)

pub first_fault : (fault : Option TypeFault) (f : TypeFault) (P : TypeFault → Type 0) → fault ≡ Some f → IfSome fault P → P f
first_fault fault f P is some = let is_some : IfSome (Some f) P = subst (λ (o : Option TypeFault). IfSome o P) is some in is_some

module _ {A : Type 0} (one : OneTree) (schema : SchemaModel) (n : ℕ) (text : List ℕ) (tree : Tree) (w : Walk) where
  pub walked_ok :
      FewNodes → HoldsType schema n → HasTree text tree
      → (r : Result A Refusal)
      → IfOk r (λ _. IsStanding schema n [] w 0 (length w.list.nodes) tree)
      → IfOk r (λ _. (found : CheckedNode) → slice_get w.list.nodes 0 ≡ Some found → IsBooleanOrNull (expr_type schema found.edm_type))
      → IfOk r (λ _. IsWalked schema n w)
  walked_ok few held has_tree (Ok _) stands truth = record {
    stands = whole_stands one schema n w tree stands;
    filter = λ expansion expands. whole_filter one schema n w tree stands few text expansion held has_tree (truth stands.found stands.at) expands;
    idle = whole_idle one schema n w tree stands;
  }
  walked_ok few held has_tree (Err refusal) stands truth = tt

  pub typing_ok :
      HasTree text tree
      → (r : Result A Refusal)
      → IfOk r (λ _. IsStanding schema n [] w 0 (length w.list.nodes) tree)
      → IfOk r (λ _. (found : CheckedNode) → slice_get w.list.nodes 0 ≡ Some found → IsBooleanOrNull (expr_type schema found.edm_type))
      → IfOk r (λ _. HasTyping (slots_of schema) (type_name_at schema n) text (tree_of_nodes w.list))
  typing_ok has_tree (Ok _) stands truth = whole_typing one schema n w tree stands text has_tree (truth stands.found stands.at)
  typing_ok has_tree (Err refusal) stands truth = tt

  pub refused_err :
      LawsBelow → HasTree text tree → ((other : Tree) → HasTree text other → other ≡ tree)
      → (r : Result A Refusal)
      → IfErr r (IsTypeRefusal (slots_of schema) (type_name_at schema n) tree (length text))
      → IfErr r (IsRefusedFor schema n text)
  refused_err laws has_tree only (Ok _) is = tt
  refused_err laws has_tree only (Err refusal) is = record {
    why = type_refusal (slots_of schema) (type_name_at schema n) text tree refusal has_tree is;
    none = type_none laws (slots_of schema) (type_name_at schema n) text tree refusal only is;
  }
