-- What stands beside an operand, as trees or as items of a list lies as the trees do.
use Rattle.odata_ranges.proofs.Common.{ℕ, ℤ, inl, inr, Tree, Trees, node, literal, more_trees, no_trees, LiteralKind, ExprType, SchemaModel, FlatTree, AllStand, ItemsStand, NumberStands, ResolvedStands, Stands, AllLie, Lies, stands_lie, Scope}

number_lies :
    (schema : SchemaModel) (n : ℕ) (scope : Scope) (list : FlatTree) (number : ℤ) (i j : ℕ) (tree : Tree)
    → NumberStands schema n scope list number i j tree
    → Lies schema n scope list i j tree
number_lies schema n scope list number i j (node start stop (literal LiteralKind.Str spelling)) stands =
    let top = stands.top in
    record {
      top = record {
        found = top.found;
        stands_at = top.stands_at;
        text_at = top.text_at;
        kind = top.kind;
        valued = tt;
        starts = top.starts;
        stops = top.stops;
        last = top.last;
        typed = top.typed;
      };
      children = stands.children;
    }
number_lies schema n scope list number i j _ stands = absurd stands

pub resolved_lies :
    (schema : SchemaModel) (n : ℕ) (scope : Scope) (list : FlatTree) (OtherSide : ExprType → Type 0) (tree : Tree) (Alone : ℕ → ℕ → Type 0) (i j : ℕ)
    → (Alone i j → Lies schema n scope list i j tree)
    → ResolvedStands schema n scope list OtherSide tree Alone i j
    → Lies schema n scope list i j tree
resolved_lies schema n scope list OtherSide tree Alone i j lies (inl read) = number_lies schema n scope list read.0 i j tree read.2
resolved_lies schema n scope list OtherSide tree Alone i j lies (inr alone) = lies alone.1

pub all_lie :
    (schema : SchemaModel) (n : ℕ) (scope : Scope) (list : FlatTree) (i j : ℕ) (trees : Trees)
    → AllStand schema n scope list i j trees
    → AllLie schema n scope list i j trees
all_lie schema n scope list i j no_trees stand = stand
all_lie schema n scope list i j (more_trees tree trees) stand =
    record {
      middle = stand.middle;
      left = stands_lie schema n scope list i stand.middle tree stand.left;
      right = all_lie schema n scope list stand.middle j trees stand.right;
    }

pub items_lie :
    (schema : SchemaModel) (n : ℕ) (scope : Scope) (list : FlatTree) (OtherSide : ExprType → Type 0) (i j : ℕ) (items : Trees)
    → ItemsStand schema n scope list OtherSide i j items
    → AllLie schema n scope list i j items
items_lie schema n scope list OtherSide i j no_trees stand = stand
items_lie schema n scope list OtherSide i j (more_trees tree trees) stand =
    let m = stand.middle in
    record {
      middle = m;
      left = resolved_lies schema n scope list OtherSide tree (λ a b. Stands schema n scope list a b tree) i m (stands_lie schema n scope list i m tree) stand.left;
      right = items_lie schema n scope list OtherSide m j trees stand.right;
    }
