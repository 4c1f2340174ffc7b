-- Loops over the items of a list.
use Rattle.odata_typing.proofs.Common.{◌≡◌, ◌∙◌, refl, sym, ap, subst, inr, ℕ, ◌<◌, ◌≤◌, ◌+◌, List, [], ◌∷◌, ◌++◌, Option, Some, slice_get, arith, ExprType, SchemaModel, Slots, Side, quoting, expr_type, CheckedNode, FlatTree, IsKeptOutside, Walk, AreInRow, AreTypesThere, quoted_beside, quoted_in, row_sides}
use Rattle.odata_signatures.specs.CollectionTyped.{IsItemFor}
use Rattle.odata_signatures.specs.ComparableTypes.{AreComparable}
use Rattle.odata_typing.specs.declared.in_list.ItemsFit.{ItemsFit}
use Rattle.odata_typing.specs.private.Items.{AllItemsFor, AreItemsFit, AreItemsPut, IsItemPut, IsUnreadLeft, worse_fit}
use Rattle.odata_typing.proofs.resolved_operands.Items.{fit_more, read_more, unread_fit, unread_refused}
use Rattle.odata_typing.proofs.flat.Kept.{kept_on, kept_wider, same_kept}
use Rattle.odata_typing.proofs.placed.Loops.{IsNext, IsSeen, next_of, seen_all, seen_more, sides_more, types_next}
use Rattle.odata_typing.proofs.placed.Rows.{joined_rows, one_row, row_onward}

-- what has been found of the items seen
pub record SeenItems
    (slots : Slots) (schema : SchemaModel) (left : ExprType) (list : FlatTree) (first place last : ℕ) (seen : List CheckedNode) (fit : ItemsFit) : Type 0 where
  pub rest : List CheckedNode
  pub is : IsSeen list.nodes seen rest first place last
  pub there : AreTypesThere schema rest
  pub fits : AreItemsFit slots left (row_sides schema list first seen) fit

module _ (slots : Slots) (schema : SchemaModel) (left : ExprType) (list : FlatTree) (first last : ℕ) where
  pub items_none : (row : List CheckedNode) → AreInRow list.nodes row first last → AreTypesThere schema row → SeenItems slots schema left list first first last [] ItemsFit.All
  items_none row are there = record { rest = row; is = record { before = refl; after = are }; there = there; fits = (tt, λ lacks. lacks) }

  pub next_item : (place : ℕ) (seen : List CheckedNode) (fit : ItemsFit) (items : SeenItems slots schema left list first place last seen fit) → place < last → IsNext list.nodes items.rest place last
  next_item place seen fit items inside = next_of list.nodes items.rest place last items.is.after inside

  items_more :
      (place : ℕ) (seen : List CheckedNode) (fit own : ItemsFit) (items : SeenItems slots schema left list first place last seen fit) (next : IsNext list.nodes items.rest place last)
      → AreItemsFit slots left (quoting (quoted_in list place next.found) (expr_type schema next.found.edm_type) ∷ []) own
      → SeenItems slots schema left list first next.found.stop last (seen ++ next.found ∷ []) (worse_fit fit own)
  items_more place seen fit own items next fits = record {
    rest = next.more;
    is = seen_more list.nodes seen items.rest first place last items.is next;
    there = (types_next schema list.nodes items.rest place last next items.there).1;
    fits = subst (λ (all : List Side). AreItemsFit slots left all (worse_fit fit own)) (sym (sides_more schema list seen next.found first place items.is.before))
        (fit_more slots left (row_sides schema list first seen) (quoting (quoted_in list place next.found) (expr_type schema next.found.edm_type)) fit own items.fits fits);
  }

  -- all of them have been seen
  pub items_all :
      (place : ℕ) (seen row : List CheckedNode) (fit : ItemsFit)
      → SeenItems slots schema left list first place last seen fit
      → last ≤ place
      → AreInRow list.nodes row first last
      → seen ≡ row
  items_all place seen row fit items past are = seen_all list.nodes seen items.rest row first place last items.is past are

  pub all_fit :
      (place : ℕ) (seen row : List CheckedNode) (fit : ItemsFit)
      → SeenItems slots schema left list first place last seen fit
      → last ≤ place
      → AreInRow list.nodes row first last
      → AreItemsFit slots left (row_sides schema list first row) fit
  all_fit place seen row fit items past are =
      subst (λ (nodes : List CheckedNode). AreItemsFit slots left (row_sides schema list first nodes) fit) (items_all place seen row fit items past are) items.fits

-- ---- items of which those that are read have been given their numbers

pub record PutSoFar
    (slots : Slots) (schema : SchemaModel) (left : ExprType) (old new : Walk) (first place last : ℕ) (fit : ItemsFit) : Type 0 where
  pub seen : List CheckedNode
  pub items : SeenItems slots schema left old.list first place last seen fit
  pub read : AreItemsPut slots schema left old.list first seen new.list fit
  pub kept : IsKeptOutside first place old.list new.list
  pub put : new ≡ record old { list = new.list }

module _ (slots : Slots) (schema : SchemaModel) (left : ExprType) (old : Walk) (first last : ℕ) where
  pub put_none : (row : List CheckedNode) → AreInRow old.list.nodes row first last → AreTypesThere schema row → PutSoFar slots schema left old old first first last ItemsFit.All
  put_none row are there =
      record { seen = []; items = items_none slots schema left old.list first last row are there; read = refl; kept = same_kept first first old.list; put = refl }

  -- the next item stands as it did
  pub next_at : (new : Walk) (place : ℕ) (fit : ItemsFit) (so_far : PutSoFar slots schema left old new first place last fit) (next : IsNext old.list.nodes so_far.items.rest place last)
      → slice_get new.list.nodes place ≡ Some next.found
  next_at new place fit so_far next = so_far.kept.nodes place (inr (omega arith)) ∙ next.at

  quoted_then : (new : Walk) (place : ℕ) (fit : ItemsFit) (found : CheckedNode) → (so_far : PutSoFar slots schema left old new first place last fit) → quoted_in new.list place found ≡ quoted_in old.list place found
  quoted_then new place fit found so_far = ap (λ (text : Option (List ℕ)). quoted_beside found.kind text) (so_far.kept.texts place (inr (omega arith)))

  -- it may have been given its number
  pub put_more :
      (new then : Walk) (place : ℕ) (fit own : ItemsFit)
      → (so_far : PutSoFar slots schema left old new first place last fit)
      → (next : IsNext old.list.nodes so_far.items.rest place last)
      → AreItemsFit slots left (quoting (quoted_in new.list place next.found) (expr_type schema next.found.edm_type) ∷ []) own
      → IsItemPut slots left (quoting (quoted_in new.list place next.found) (expr_type schema next.found.edm_type)) new.list place next.found then.list own
      → IsKeptOutside place (place + 1) new.list then.list
      → then ≡ record new { list = then.list }
      → PutSoFar slots schema left old then first next.found.stop last (worse_fit fit own)
  put_more new then place fit own so_far next fits is_put kept is_then =
      let same : quoting (quoted_in new.list place next.found) (expr_type schema next.found.edm_type) ≡ quoting (quoted_in old.list place next.found) (expr_type schema next.found.edm_type) =
      ap (λ (q : Option (List ℕ)). quoting q (expr_type schema next.found.edm_type)) (quoted_then new place fit next.found so_far) in
      let order : place < next.found.stop = next.order in
      let begun : first ≤ place = row_onward old.list.nodes so_far.seen first place so_far.items.is.before in
      record {
        seen = so_far.seen ++ next.found ∷ [];
        items = items_more slots schema left old.list first last place so_far.seen fit own so_far.items next (subst (λ (s : Side). AreItemsFit slots left (s ∷ []) own) same fits);
        read = read_more slots schema left old.list.nodes so_far.seen next.found old.list new.list then.list first place fit own so_far.items.is.before so_far.read is_put;
        kept = kept_on first next.found.stop old.list new.list then.list
            (kept_wider first place first next.found.stop old.list new.list (omega arith) (omega arith) so_far.kept)
            (kept_wider place (place + 1) first next.found.stop new.list then.list begun (omega arith) kept);
        put = is_then ∙ ap (λ (w : Walk). record w { list = then.list }) so_far.put;
      }

  pub put_all :
      (new : Walk) (place : ℕ) (fit : ItemsFit) (row : List CheckedNode)
      → PutSoFar slots schema left old new first place last fit
      → last ≤ place
      → AreInRow old.list.nodes row first last
      → AreItemsPut slots schema left old.list first row new.list fit
  put_all new place fit row so_far past are =
      subst (λ (seen : List CheckedNode). AreItemsPut slots schema left old.list first seen new.list fit)
      (items_all slots schema left old.list first last place so_far.seen row fit so_far.items past are) so_far.read

-- ---- items that go by their types

module _ (slots : Slots) (schema : SchemaModel) (left : ExprType) (list : FlatTree) (first last : ℕ) where
  pub fit_on :
      (place : ℕ) (seen : List CheckedNode) (items : SeenItems slots schema left list first place last seen ItemsFit.All) (next : IsNext list.nodes items.rest place last)
      → IsUnreadLeft left
      → AreComparable left (expr_type schema next.found.edm_type)
      → SeenItems slots schema left list first next.found.stop last (seen ++ next.found ∷ []) ItemsFit.All
  fit_on place seen items next unread comparable =
      let side : Side = quoting (quoted_in list place next.found) (expr_type schema next.found.edm_type) in
      items_more slots schema left list first last place seen ItemsFit.All ItemsFit.All items next (unread_fit slots left side (unread side.quoted) comparable)

  -- the rest of the sides of a row, after those seen
  sides_split : (seen more : List CheckedNode) (found : CheckedNode) (from place : ℕ) → AreInRow list.nodes seen from place
      → AllItemsFor slots left (row_sides schema list from (seen ++ found ∷ more)) → AllItemsFor slots left (quoting (quoted_in list place found) (expr_type schema found.edm_type) ∷ [])
  sides_split [] more found from place are all =
      (subst (λ (k : ℕ). IsItemFor slots left (quoting (quoted_in list k found) (expr_type schema found.edm_type))) are all.0, tt)
  sides_split (s ∷ seen) more found from place are all = sides_split seen more found s.stop place are.2 all.1

  -- one that is not comparable may not stand there
  pub fit_not :
      (place : ℕ) (seen row : List CheckedNode) (items : SeenItems slots schema left list first place last seen ItemsFit.All) (next : IsNext list.nodes items.rest place last)
      → IsUnreadLeft left
      → ¬ AreComparable left (expr_type schema next.found.edm_type)
      → AreInRow list.nodes row first last
      → ¬ AllItemsFor slots left (row_sides schema list first row)
  fit_not place seen row items next unread differ are all =
      let side : Side = quoting (quoted_in list place next.found) (expr_type schema next.found.edm_type) in
      let whole = joined_rows list.nodes seen (next.found ∷ next.more) first place last items.is.before (next.at, next.order, next.after) in
      let same : row ≡ seen ++ next.found ∷ next.more = one_row list.nodes row (seen ++ next.found ∷ next.more) first last are whole in
      (unread_refused slots left side (unread side.quoted) differ).0
      (sides_split seen next.more next.found first place items.is.before
      (subst (λ (r : List CheckedNode). AllItemsFor slots left (row_sides schema list first r)) same all))
