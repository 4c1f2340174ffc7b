-- What stands for the items of a list: each that is read has been given its number.
use Rattle.odata_typing.proofs.Common.{◌≡◌, ◌∙◌, sym, ap, subst, inl, inr, ℕ, ◌<◌, ◌≤◌, ◌+◌, List, [], ◌∷◌, Option, Some, slice_get, arith, same_Some, Tree, trees_of_list, ExprType, SchemaModel, slots_of, type_name_at, IsResolvedBy, ResolvedNumber, Side, quoting, expr_type, quoted_text, Scope, Typed, CheckedNode, FlatTree, IsKeptOutside, AllStand, ResolvedStands, ItemsStand, Stands, Walk, IsStanding, StandInRow, LawsBelow, AreInRow, quoted_in}
use Rattle.odata_typing.specs.private.Items.{AreItemsRead, IsItemRead, IsUnreadLeft}
use Rattle.odata_typing.proofs.resolved_operands.Given.{number_changes, number_given}
use Rattle.odata_typing.proofs.resolved_operands.Numbers.{reads_none}
use Rattle.odata_typing.proofs.flat.Kept.{IsOnward, kept_on, kept_wider, same_kept, standing_kept}
use Rattle.odata_typing.proofs.placed.Quoted.{quoted_standing}
use Rattle.odata_typing.proofs.placed.Rows.{row_of, row_onward}

-- trees one after another stand still where the list has changed before them
row_after :
    (laws : LawsBelow) (schema : SchemaModel) (n : ℕ) (scope : Scope) (i j : ℕ) (old new : Walk) (trees : List Tree) (from to : ℕ)
    → IsOnward i j old new
    → j ≤ from
    → StandInRow schema n scope old trees from to
    → StandInRow schema n scope new trees from to
row_after laws schema n scope i j old new [] from to onward after stand = stand
row_after laws schema n scope i j old new (tree ∷ trees) from to onward after stand =
    let order : from < stand.middle = stand.left.order in
    record {
      middle = stand.middle;
      left = standing_kept laws schema n scope i j old new onward from stand.middle tree (inr after) stand.left;
      right = row_after laws schema n scope i j old new trees stand.middle to onward (omega arith) stand.right;
    }

nodes_after : (i j from to : ℕ) (old new : FlatTree) (row : List CheckedNode) → IsKeptOutside i j old new → j ≤ from → AreInRow old.nodes row from to → AreInRow new.nodes row from to
nodes_after i j from to old new [] kept after are = are
nodes_after i j from to old new (found ∷ row) kept after are =
    let order : from < found.stop = are.1 in
    (kept.nodes from (inr after) ∙ are.0, are.1, nodes_after i j found.stop to old new row kept (omega arith) are.2)

module _ (laws : LawsBelow) (schema : SchemaModel) (n : ℕ) (scope : Scope) (l : Tree) (left : ExprType)
    (left_typed : Typed (slots_of schema) (type_name_at schema n) scope l left) where
  abbrev ResolvedLeft : ExprType → Type 0
  ResolvedLeft = Typed (slots_of schema) (type_name_at schema n) scope l

  one_left : (t : ExprType) → ResolvedLeft t → t ≡ left
  one_left t typed = laws.one_type (slots_of schema) (type_name_at schema n) scope l t left typed left_typed

  -- after an operand that resolves nothing, each by itself
  pub items_alone : (list : FlatTree) (i j : ℕ) (trees : List Tree) → IsUnreadLeft left → AllStand schema n scope list i j (trees_of_list trees)
      → ItemsStand schema n scope list ResolvedLeft i j (trees_of_list trees)
  items_alone list i j [] unread stand = stand
  items_alone list i j (tree ∷ trees) unread stand = record {
    middle = stand.middle;
    left = inr (reads_none (slots_of schema) ResolvedLeft left tree one_left (unread (quoted_text tree)), stand.left);
    right = items_alone list stand.middle j trees unread stand.right;
  }

  -- one of them that may have been given its number, up to the list in which the others have been given theirs
  one_changes : (old mid : FlatTree) (i : ℕ) (found : CheckedNode) (side : Side) → IsItemRead (slots_of schema) left side old i found mid → IsKeptOutside i (i + 1) old mid
  one_changes old mid i found side (inl read) = subst (λ (list : FlatTree). IsKeptOutside i (i + 1) old list) (sym read.2) (number_changes old i found read.0)
  one_changes old mid i found side (inr none) = subst (λ (list : FlatTree). IsKeptOutside i (i + 1) old list) (sym none.1) (same_kept i (i + 1) old)

  one_stands : (walk : Walk) (mid new : FlatTree) (i m j : ℕ) (tree : Tree) (found : CheckedNode) (quoted : Option (List ℕ)) (type : ExprType)
      → IsStanding schema n scope walk i m tree
      → slice_get walk.list.nodes i ≡ Some found
      → quoted ≡ quoted_text tree
      → IsItemRead (slots_of schema) left (quoting quoted type) walk.list i found mid
      → IsKeptOutside m j mid new
      → ResolvedStands schema n scope new ResolvedLeft tree (λ a b. Stands schema n scope new a b tree) i m
  one_stands walk mid new i m j tree found quoted type first at quotes (inl read) kept =
      let number : ResolvedNumber (slots_of schema) left (quoted_text tree) read.0 = subst (λ (q : Option (List ℕ)). ResolvedNumber (slots_of schema) left q read.0) quotes read.1 in
      inl (
        read.0,
        record { type_of = left; beside = left_typed; number = number },
        number_given schema n scope walk.list new i m m j tree found left read.0 number at (subst (λ (list : FlatTree). IsKeptOutside m j list new) read.2 kept) first.order first.stands,
      )
  one_stands walk mid new i m j tree found quoted type first at quotes (inr none) kept =
      let there = subst (λ (list : FlatTree). Stands schema n scope list i m tree) (sym none.1) first.stands in
      inr (
        reads_none (slots_of schema) ResolvedLeft left tree one_left (subst (λ (q : Option (List ℕ)). ¬ IsResolvedBy left q) quotes none.0),
        laws.kept schema n scope mid new m j i m tree kept (inl (omega arith)) there,
      )

  stands_onward : (walk : Walk) (trees : List Tree) (i j : ℕ) → StandInRow schema n scope walk trees i j → i ≤ j
  stands_onward walk trees i j stand = let of = row_of schema n scope walk trees i j stand in row_onward walk.list.nodes of.0 i j of.1.in_row

  pub items_given : (walk : Walk) (new : FlatTree) (i j : ℕ) (trees : List Tree) (row : List CheckedNode)
      → StandInRow schema n scope walk trees i j
      → AreInRow walk.list.nodes row i j
      → AreItemsRead (slots_of schema) schema left walk.list i row new
      → ItemsStand schema n scope new ResolvedLeft i j (trees_of_list trees) × IsKeptOutside i j walk.list new
  items_given walk new i j [] [] stand row read = (stand, subst (λ (list : FlatTree). IsKeptOutside i j walk.list list) (sym read) (same_kept i j walk.list))
  items_given walk new i j [] (found ∷ more) stand row read =
      let same : i ≡ j = stand in
      let order : i < found.stop = row.1 in
      let onward : found.stop ≤ j = row_onward walk.list.nodes more found.stop j row.2 in
      absurd (omega arith)
  items_given walk new i j (tree ∷ trees) [] stand row read =
      let same : i ≡ j = row in
      let order : i < stand.middle = stand.left.order in
      let onward : stand.middle ≤ j = stands_onward walk trees stand.middle j stand.right in
      absurd (omega arith)
  items_given walk new i j (tree ∷ trees) (found ∷ more) stand row read =
      let m = stand.middle in
      let first : IsStanding schema n scope walk i m tree = stand.left in
      let mid : FlatTree = read.0 in
      let then : Walk = record walk { list = mid } in
      let same : found ≡ first.found = same_Some found first.found (sym row.0 ∙ first.at) in
      let stop : found.stop ≡ m = ap (λ (f : CheckedNode). f.stop) same ∙ first.last in
      let order : i < m = first.order in
      let changes : IsKeptOutside i (i + 1) walk.list mid = one_changes walk.list mid i found (quoting (quoted_in walk.list i found) (expr_type schema found.edm_type)) read.1 in
      let onward : IsOnward i (i + 1) walk then = record { kept = changes; navigates = λ idle. idle } in
      let rest = items_given then new m j trees more (row_after laws schema n scope i (i + 1) walk then trees m j onward (omega arith) stand.right)
      (nodes_after i (i + 1) m j walk.list mid more changes (omega arith) (subst (λ (k : ℕ). AreInRow walk.list.nodes more k j) stop row.2))
      (subst (λ (k : ℕ). AreItemsRead (slots_of schema) schema left mid k more new) stop read.2) in
      let later : m ≤ j = stands_onward walk trees m j stand.right in (
        record {
          middle = m;
          left = one_stands walk mid new i m j tree found (quoted_in walk.list i found) (expr_type schema found.edm_type) first row.0
              (quoted_standing schema n scope walk.list i m tree found first.stands row.0) read.1 rest.1;
          right = rest.0;
        },
        kept_on i j walk.list mid new (kept_wider i (i + 1) i j walk.list mid (omega arith) (omega arith) changes) (kept_wider m j i j mid new (omega arith) (omega arith) rest.1),
      )
