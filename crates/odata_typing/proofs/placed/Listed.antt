-- Nodes of `in` before a list.
use Rattle.odata_typing.proofs.Common.{◌≡◌, ◌∙◌, refl, sym, ap, subst, inl, inr, ℕ, ◌<◌, ◌+◌, ◌↔◌, List, [], ◌∷◌, Bool, true, false, None, IsTrue, arith, Tree, in_list, trees_of_list, ExprType, boolean_type, Side, expr_type, OperandReason, OneLacksNumber, BeforeList, sides_of, Typed, CheckedNode, ItemsStand, Stands, Judged, CheckContext, Walk, AreChildren, IsNodeJudged, IsStanding, StandInRow, LawsBelow, AreInRow, AreTypesThere, row_sides, IsNodeReady, scope_of, list_put, truth_type, walk_put, walk_refused}
use Rattle.odata_signatures.specs.CollectionTyped.{InListTyped, IsCollection}
use Rattle.odata_signatures.specs.declared.edm_type.EdmType.{EdmType}
use Rattle.odata_signatures.specs.declared.refusal.TypeFaultCode.{TypeFaultCode}
use Rattle.odata_checked_filter.specs.declared.checked_node.NodeKind.{NodeKind}
use Rattle.odata_typing.specs.declared.in_list.ItemsFit.{ItemsFit}
use Rattle.odata_typing.specs.private.Items.{AllItemsFor, AreItemsFit, AreItemsPut, AreListFit, IsUnreadLeft, OneLacks}
use Rattle.odata_typing.proofs.flat.Closing.{put_changed, refused_tree, root_in, slots_in, unjudged}
use Rattle.odata_typing.proofs.flat.Idle.{idle_list}
use Rattle.odata_typing.proofs.flat.Kept.{IsOnward, kept_wider, same_more}
use Rattle.odata_typing.proofs.resolved_operands.Items.{lacks_one, numbered_typed, one_lacks, unknown_untyped, unread_lacks_none}
use Rattle.odata_typing.proofs.placed.ItemsGiven.{items_alone, items_given}
use Rattle.odata_typing.proofs.placed.Rows.{IsRowOf, row_of, types_of}
use Rattle.odata_typing.proofs.untypable.Several.{refused_items}

-- the operand before the list, and the nodes of its items
pub record IsListed (context : CheckContext) (walk : Walk) (judged : Judged) (l : Tree) (items : List Tree) : Type 0 where
  pub middle : ℕ
  pub left : IsStanding context.schema.now context.filtered_type (scope_of context) walk (judged.number + 1) middle l
  pub stand : StandInRow context.schema.now context.filtered_type (scope_of context) walk items middle judged.stop
  pub row : List CheckedNode
  pub is : IsRowOf context.schema.now context.filtered_type (scope_of context) walk items middle judged.stop row

pub listed : (context : CheckContext) (walk : Walk) (judged : Judged) (l : Tree) (items : List Tree) → AreChildren context walk judged (l ∷ items) → IsListed context walk judged l items
listed context walk judged l items over =
    let of = row_of context.schema.now context.filtered_type (scope_of context) walk items over.middle judged.stop over.right in
    record { middle = over.middle; left = over.left; stand = over.right; row = of.0; is = of.1 }

-- what a test says
pub not_true : (b : Bool) → b ≡ false → ¬ IsTrue b
not_true b same is = cc

stops_else : (result : Bool) (P : Type 0) → IsTrue result ↔ P → ¬ P → result ≡ false
stops_else true P is none = absurd (none (is.0 refl))
stops_else false P is none = refl

module _ (laws : LawsBelow) (context : CheckContext) (judged : Judged) (old new : Walk) (l : Tree) (items : List Tree) (result : Bool)
    (ready : IsNodeReady context old judged) (list : IsListed context old judged l items) where
  abbrev left_type : ExprType
  left_type = expr_type context.schema.now list.left.found.edm_type

  abbrev item_types : List ExprType
  item_types = types_of context.schema.now list.row

  put_items :
      (mid : Walk)
      → IsOnward judged.number judged.stop old mid
      → mid.fault ≡ None
      → result ≡ true
      → new ≡ walk_put mid judged NodeKind.InList truth_type []
      → Stands context.schema.now context.filtered_type (scope_of context) mid.list (judged.number + 1) list.middle l
      → ItemsStand context.schema.now context.filtered_type (scope_of context) mid.list (Typed (slots_in context) (root_in context) (scope_of context) l) list.middle judged.stop (trees_of_list items)
      → BeforeList (InListTyped (slots_in context)) l (trees_of_list items) left_type item_types boolean_type
      → IsNodeJudged context judged (in_list l (trees_of_list items)) old new result
  put_items mid onward fresh goes_on is first stand makes =
      let span = judged.node.now.span in
      put_changed context judged laws old mid new (in_list l (trees_of_list items)) NodeKind.InList truth_type result ready onward fresh goes_on is tt refl tt
      (record { left = left_type; items = item_types; left_typed = list.left.typed; items_typed = list.is.typed; makes = makes })
      (record { middle = list.middle; left = first; right = stand })
      (λ idle. idle_list (slots_in context) (root_in context) (scope_of context) span.start span.stop l items (list.left.idle (onward.navigates idle)) (list.is.idle (onward.navigates idle)))

  refuse_items :
      (mid : Walk) (code : TypeFaultCode)
      → result ≡ false
      → new ≡ walk_refused mid judged.node.now.span code
      → ((type : ExprType) → ¬ BeforeList (InListTyped (slots_in context)) l (trees_of_list items) left_type item_types type)
      → OperandReason (OneLacksNumber (slots_in context) left_type (trees_of_list items)) code
      → IsNodeJudged context judged (in_list l (trees_of_list items)) old new result
  refuse_items mid code stops is none reason =
      refused_tree context judged old mid new (in_list l (trees_of_list items)) code result stops is
      (refused_items laws (slots_in context) (root_in context) (scope_of context) judged.node.now.span code l items left_type item_types list.left.typed list.is.typed list.is.each none reason)

  -- after an operand of no enumeration
  pub judged_unnumbered :
      (fit : ItemsFit)
      → IsUnreadLeft left_type
      → AreListFit (slots_in context) left_type (row_sides context.schema.now old.list list.middle list.row) fit
      → IsTrue result ↔ (fit ≡ ItemsFit.All)
      → new ≡ list_put old judged fit
      → IsNodeJudged context judged (in_list l (trees_of_list items)) old new result
  judged_unnumbered ItemsFit.All unread fits goes_on is =
      let beside : AllItemsFor (slots_in context) left_type (sides_of (trees_of_list items) item_types) = subst (λ (sides : List Side). AllItemsFor (slots_in context) left_type sides) list.is.sides fits.1 in
      put_items old (same_more old judged.number judged.stop) ready.ready.fresh (goes_on.1 refl) is list.left.stands
      (items_alone laws context.schema.now context.filtered_type (scope_of context) l left_type list.left.typed old.list list.middle judged.stop items unread list.is.stand)
      (fits.0, beside, refl)
  judged_unnumbered ItemsFit.Refused unread fits goes_on is =
      refuse_items old TypeFaultCode.OperandTypes (stops_else result _ goes_on (λ same. cc)) is
      (λ type makes. fits (makes.0, subst (λ (sides : List Side). AllItemsFor (slots_in context) left_type sides) (sym list.is.sides) makes.1))
      (inr (unread_lacks_none (slots_in context) left_type items unread, refl))
  judged_unnumbered ItemsFit.Unknown unread fits goes_on is = absurd fits
  judged_unnumbered ItemsFit.OutOfMemory unread fits goes_on is = absurd fits

  -- after one of an enumeration, where the items that are read have been given their numbers
  pub judged_numbered :
      (mid : Walk) (fit : ItemsFit)
      → ¬ IsCollection left_type
      → AreItemsFit (slots_in context) left_type (row_sides context.schema.now old.list list.middle list.row) fit
      → AreItemsPut (slots_in context) context.schema.now left_type old.list list.middle list.row mid.list fit
      → mid ≡ record old { list = mid.list }
      → IsTrue result ↔ (fit ≡ ItemsFit.All)
      → new ≡ list_put mid judged fit
      → IsNodeJudged context judged (in_list l (trees_of_list items)) old new result
  judged_numbered mid ItemsFit.All single fits puts same goes_on is =
      let schema = context.schema.now in
      let n = context.filtered_type in
      let scope = scope_of context in
      let slots = slots_in context in
      let beside : AllItemsFor slots left_type (sides_of (trees_of_list items) item_types) = subst (λ (sides : List Side). AllItemsFor slots left_type sides) list.is.sides fits.0 in
      let given = items_given laws schema n scope l left_type list.left.typed old mid.list list.middle judged.stop items list.row list.stand list.is.in_row puts in
      let order : judged.number + 1 < list.middle = list.left.order in
      put_items mid
      (record {
        kept = kept_wider list.middle judged.stop judged.number judged.stop old.list mid.list (omega arith) (omega arith) given.1;
        navigates = λ idle. sym (ap (λ (w : Walk). w.navigates) same) ∙ idle;
      })
      (ap (λ (w : Walk). w.fault) same ∙ ready.ready.fresh) (goes_on.1 refl) is
      (laws.kept schema n scope old.list mid.list list.middle judged.stop (judged.number + 1) list.middle l given.1 (inl (omega arith)) list.left.stands)
      given.0
      (numbered_typed slots l left_type items item_types single beside)
  judged_numbered mid ItemsFit.Refused single fits puts same goes_on is =
      let slots = slots_in context in
      refuse_items mid TypeFaultCode.OperandTypes (stops_else result _ goes_on (λ same. cc)) is
      (λ type makes. fits.0 (subst (λ (sides : List Side). AllItemsFor slots left_type sides) (sym list.is.sides) makes.1))
      (inr ((λ lacks. fits.1 (subst (λ (sides : List Side). OneLacks slots left_type sides) (sym list.is.sides) (lacks_one slots (root_in context) (scope_of context) left_type items item_types list.is.typed lacks))), refl))
  judged_numbered mid ItemsFit.Unknown single fits puts same goes_on is =
      let slots = slots_in context in
      let lacks : OneLacks slots left_type (sides_of (trees_of_list items) item_types) = subst (λ (sides : List Side). OneLacks slots left_type sides) list.is.sides fits in
      refuse_items mid TypeFaultCode.UnknownEnum (stops_else result _ goes_on (λ same. cc)) is
      (λ type makes. unknown_untyped laws slots (root_in context) (scope_of context) l left_type items item_types type list.is.typed lacks makes)
      (inl (one_lacks slots left_type items item_types lacks, refl))
  judged_numbered mid ItemsFit.OutOfMemory single fits puts same goes_on is =
      unjudged context judged old new (in_list l (trees_of_list items)) result (stops_else result _ goes_on (λ same. cc))
      (ap (λ (w : Walk). w.fault) is ∙ ap (λ (w : Walk). w.fault) same ∙ ready.ready.fresh)

  -- the same by the type and the index that the code has
  module _ (left : EdmType) (start : ℕ) (fit : ItemsFit) (same : left ≡ list.left.found.edm_type) (at : start ≡ list.middle) where
    by_code : (F : EdmType → ℕ → Type 0) → F left start → F list.left.found.edm_type list.middle
    by_code F here = subst (λ (k : ℕ). F list.left.found.edm_type k) at (subst (λ (t : EdmType). F t start) same here)

    pub unnumbered_code :
        IsUnreadLeft (expr_type context.schema.now left)
        → ((row : List CheckedNode) → AreInRow old.list.nodes row start judged.stop → AreListFit (slots_in context) (expr_type context.schema.now left) (row_sides context.schema.now old.list start row) fit)
        → IsTrue result ↔ (fit ≡ ItemsFit.All)
        → new ≡ list_put old judged fit
        → IsNodeJudged context judged (in_list l (trees_of_list items)) old new result
    unnumbered_code unread fits =
        let schema = context.schema.now in
        judged_unnumbered fit (by_code (λ (t : EdmType) (k : ℕ). IsUnreadLeft (expr_type schema t)) unread)
        (by_code (λ (t : EdmType) (k : ℕ). (row : List CheckedNode) → AreInRow old.list.nodes row k judged.stop → AreListFit (slots_in context) (expr_type schema t) (row_sides schema old.list k row) fit) fits list.row list.is.in_row)

    pub numbered_code :
        (mid : Walk)
        → ¬ IsCollection (expr_type context.schema.now left)
        → ((row : List CheckedNode) → AreInRow old.list.nodes row start judged.stop → AreItemsFit (slots_in context) (expr_type context.schema.now left) (row_sides context.schema.now old.list start row) fit)
        → ((row : List CheckedNode) → AreInRow old.list.nodes row start judged.stop → AreItemsPut (slots_in context) context.schema.now (expr_type context.schema.now left) old.list start row mid.list fit)
        → mid ≡ record old { list = mid.list }
        → IsTrue result ↔ (fit ≡ ItemsFit.All)
        → new ≡ list_put mid judged fit
        → IsNodeJudged context judged (in_list l (trees_of_list items)) old new result
    numbered_code mid single fits puts =
        let schema = context.schema.now in
        judged_numbered mid fit (by_code (λ (t : EdmType) (k : ℕ). ¬ IsCollection (expr_type schema t)) single)
        (by_code (λ (t : EdmType) (k : ℕ). (row : List CheckedNode) → AreInRow old.list.nodes row k judged.stop → AreItemsFit (slots_in context) (expr_type schema t) (row_sides schema old.list k row) fit) fits list.row list.is.in_row)
        (by_code (λ (t : EdmType) (k : ℕ). (row : List CheckedNode) → AreInRow old.list.nodes row k judged.stop → AreItemsPut (slots_in context) schema (expr_type schema t) old.list k row mid.list fit) puts list.row list.is.in_row)

-- the nodes of the items, from the index that the code has
pub row_there :
    (context : CheckContext) (walk : Walk) (judged : Judged) (l : Tree) (items : List Tree) (list : IsListed context walk judged l items) (start : ℕ)
    → start ≡ list.middle
    → (row : List CheckedNode) × AreInRow walk.list.nodes row start judged.stop × AreTypesThere context.schema.now row
row_there context walk judged l items list start at =
    (list.row, subst (λ (k : ℕ). AreInRow walk.list.nodes list.row k judged.stop) (sym at) list.is.in_row, list.is.there)
