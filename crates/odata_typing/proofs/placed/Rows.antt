-- Trees one after another, by their nodes.
use Rattle.odata_typing.proofs.Common.{◌≡◌, ◌∙◌, refl, sym, ap, subst, ℕ, ◌<◌, ◌≤◌, List, [], ◌∷◌, false, Option, map, arith, ◌++◌, same_Some, AllByRecursion, Tree, trees_of_list, ExprType, SchemaModel, slots_of, type_name_at, Side, quoting, expr_type, quoted_text, sides_of, AreTyped, IsTyped, Scope, CheckedNode, AllStand, Walk, IsStanding, StandInRow, AreInRow, AreTypesThere, quoted_in, row_sides}
use Rattle.odata_typing.proofs.flat.Idle.{AreIdle}
use Rattle.odata_typing.proofs.placed.Quoted.{quoted_standing}

-- the types of nodes
abbrev pub types_of : SchemaModel → List CheckedNode → List ExprType
types_of schema row = map (λ found. expr_type schema found.edm_type) row

-- the nodes of trees that stand one after another
pub record IsRowOf (schema : SchemaModel) (n : ℕ) (scope : Scope) (walk : Walk) (trees : List Tree) (i j : ℕ) (row : List CheckedNode) : Type 0 where
  pub in_row : AreInRow walk.list.nodes row i j
  pub there : AreTypesThere schema row
  pub typed : AreTyped (slots_of schema) (type_name_at schema n) scope (trees_of_list trees) (types_of schema row)
  pub each : AllByRecursion (IsTyped (slots_of schema) (type_name_at schema n) scope) trees
  pub stand : AllStand schema n scope walk.list i j (trees_of_list trees)
  pub sides : row_sides schema walk.list i row ≡ sides_of (trees_of_list trees) (types_of schema row)
  pub idle : walk.navigates ≡ false → AreIdle (slots_of schema) (type_name_at schema n) scope trees

pub row_of :
    (schema : SchemaModel) (n : ℕ) (scope : Scope) (walk : Walk) (trees : List Tree) (i j : ℕ)
    → StandInRow schema n scope walk trees i j
    → (row : List CheckedNode) × IsRowOf schema n scope walk trees i j row
row_of schema n scope walk [] i j stand = ([], record { in_row = stand; there = tt; typed = tt; each = tt; stand = stand; sides = refl; idle = λ idle. tt })
row_of schema n scope walk (tree ∷ trees) i j stand =
    let first : IsStanding schema n scope walk i stand.middle tree = stand.left in
    let found = first.found in
    let more = row_of schema n scope walk trees stand.middle j stand.right in
    let row : List CheckedNode = more.0 in
    let rest : IsRowOf schema n scope walk trees stand.middle j row = more.1 in
    let from : stand.middle ≡ found.stop = sym first.last in
    let sides : row_sides schema walk.list found.stop row ≡ sides_of (trees_of_list trees) (types_of schema row) =
    subst (λ (k : ℕ). row_sides schema walk.list k row ≡ sides_of (trees_of_list trees) (types_of schema row)) from rest.sides in
    let quoted : quoted_in walk.list i found ≡ quoted_text tree = quoted_standing schema n scope walk.list i stand.middle tree found first.stands first.at in (
      found ∷ row,
      record {
        in_row = (first.at, subst (λ (k : ℕ). i < k) from first.order, subst (λ (k : ℕ). AreInRow walk.list.nodes row k j) from rest.in_row);
        there = (first.there, rest.there);
        typed = (first.typed, rest.typed);
        each = ((expr_type schema found.edm_type, first.typed), rest.each);
        stand = record { middle = stand.middle; left = first.stands; right = rest.stand };
        sides = ap (λ (q : Option (List ℕ)). quoting q (expr_type schema found.edm_type) ∷ row_sides schema walk.list found.stop row) quoted
            ∙ ap (λ (more : List Side). quoting (quoted_text tree) (expr_type schema found.edm_type) ∷ more) sides;
        idle = λ idle. (first.idle idle, rest.idle idle);
      },
    )

-- they lead onward
pub row_onward : (nodes row : List CheckedNode) (i j : ℕ) → AreInRow nodes row i j → i ≤ j
row_onward nodes [] i j are = let e : i ≡ j = are in omega arith
row_onward nodes (found ∷ row) i j are =
    let first : i < found.stop = are.1 in
    let more : found.stop ≤ j = row_onward nodes row found.stop j are.2 in
    omega arith

-- one row after another
pub joined_rows : (nodes seen rest : List CheckedNode) (from place last : ℕ) → AreInRow nodes seen from place → AreInRow nodes rest place last → AreInRow nodes (seen ++ rest) from last
joined_rows nodes [] rest from place last are more = subst (λ (k : ℕ). AreInRow nodes rest k last) (sym are) more
joined_rows nodes (s ∷ seen) rest from place last are more = (are.0, are.1, joined_rows nodes seen rest s.stop place last are.2 more)

-- from one index up to another there is one row
pub one_row : (nodes row other : List CheckedNode) (i j : ℕ) → AreInRow nodes row i j → AreInRow nodes other i j → row ≡ other
one_row nodes [] [] i j a b = refl
one_row nodes [] (found ∷ other) i j a b = let e : i ≡ j = a in let x : i < found.stop = b.1 in let y : found.stop ≤ j = row_onward nodes other found.stop j b.2 in absurd (omega arith)
one_row nodes (found ∷ row) [] i j a b = let e : i ≡ j = b in let x : i < found.stop = a.1 in let y : found.stop ≤ j = row_onward nodes row found.stop j a.2 in absurd (omega arith)
one_row nodes (found ∷ row) (other ∷ more) i j a b =
    let same : found ≡ other = same_Some found other (sym a.0 ∙ b.0) in
    let again : AreInRow nodes more found.stop j = subst (λ (f : CheckedNode). AreInRow nodes more f.stop j) (sym same) b.2 in
    ap (λ (f : CheckedNode). f ∷ row) same ∙ ap (λ (rest : List CheckedNode). other ∷ rest) (one_row nodes row more found.stop j a.2 again)
