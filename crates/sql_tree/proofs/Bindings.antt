-- The pieces of bound values and of lists, by their indices.
use Rattle.std.proofs.Common.{◌≡◌, ◌≤◌, ◌<◌, ℕ, zero, suc, ◌+◌, ◌-◌, ◌++◌, Bool, length, refl, ap, ◌∙◌, arith}
use Rattle.std.specs.Prelude.{codes}
use Rattle.sql_tree.specs.FixedPieces.{collation}
use Rattle.sql_tree.specs.NodePieces.{binding_pieces, item_pieces, let_end, let_pieces, list_pieces, name_of_bound}
use Rattle.sql_tree.specs.private.PiecesView.{piece_at}
use Rattle.sql_tree.specs.declared.dialect.Dialect.{Dialect}

-- ---- bound values

pub length_bindings : (dialect : Dialect) (first level more : ℕ) → length (binding_pieces dialect first level more) ≡ more + 1
length_bindings dialect first level zero = refl
length_bindings dialect first level (suc more) = omega (arith, length_bindings dialect first (level + 1) more)

pub length_let : (dialect : Dialect) (level count : ℕ) → 0 < length (let_pieces dialect level count) → length (let_pieces dialect level count) ≡ count + 1 + 1
length_let dialect level zero some = absurd (omega (arith, some))
length_let dialect level (suc more) some = omega (arith, length_bindings dialect level level more)

binding_before : (dialect : Dialect) (first level more k : ℕ) → k < more
    → piece_at (binding_pieces dialect first level more) k ≡ name_of_bound (level + k) ++ codes ", "
binding_before dialect first level zero k below = absurd (omega (arith, below))
binding_before dialect first level (suc more) zero below =
    let e : level ≡ level + 0 = omega arith in
    ap (λ (n : ℕ). name_of_bound n ++ codes ", ") e
binding_before dialect first level (suc more) (suc k) below =
    let e : level + 1 + k ≡ level + suc k = omega arith in
    binding_before dialect first (level + 1) more k (omega arith) ∙ ap (λ (n : ℕ). name_of_bound n ++ codes ", ") e

binding_last : (dialect : Dialect) (first level more : ℕ)
    → piece_at (binding_pieces dialect first level more) more ≡ name_of_bound (level + more) ++ let_end dialect first
binding_last dialect first level zero =
    let e : level ≡ level + 0 = omega arith in
    ap (λ (n : ℕ). name_of_bound n ++ let_end dialect first) e
binding_last dialect first level (suc more) =
    let e : level + 1 + more ≡ level + suc more = omega arith in
    binding_last dialect first (level + 1) more ∙ ap (λ (n : ℕ). name_of_bound n ++ let_end dialect first) e

pub value_before : (dialect : Dialect) (level count done : ℕ) → 2 ≤ done → done ≤ count
    → piece_at (let_pieces dialect level count) done ≡ name_of_bound (level + (done - 2)) ++ codes ", "
value_before dialect level zero done two few = absurd (omega arith)
value_before dialect level (suc more) zero two few = absurd (omega arith)
value_before dialect level (suc more) (suc zero) two few = absurd (omega arith)
value_before dialect level (suc more) (suc (suc k)) two few =
    let e : level + k ≡ level + (suc (suc k) - 2) = omega arith in
    binding_before dialect level level more k (omega arith) ∙ ap (λ (n : ℕ). name_of_bound n ++ codes ", ") e

pub value_last : (dialect : Dialect) (level count done : ℕ) → 2 ≤ done → done ≡ count + 1
    → piece_at (let_pieces dialect level count) done ≡ name_of_bound (level + (done - 2)) ++ let_end dialect level
value_last dialect level zero done two last = absurd (omega arith)
value_last dialect level (suc more) zero two last = absurd (omega arith)
value_last dialect level (suc more) (suc zero) two last = absurd (omega arith)
value_last dialect level (suc more) (suc (suc k)) two last =
    let same : k ≡ more = omega arith in
    let e : level + more ≡ level + (suc (suc k) - 2) = omega arith in
    ap (λ (n : ℕ). piece_at (binding_pieces dialect level level more) n) same ∙ binding_last dialect level level more
    ∙ ap (λ (n : ℕ). name_of_bound n ++ let_end dialect level) e

pub body_end : (dialect : Dialect) (level count : ℕ) → 1 < length (let_pieces dialect level count)
    → piece_at (let_pieces dialect level count) 1 ≡ codes " FROM (SELECT "
body_end dialect level zero some = absurd (omega (arith, some))
body_end dialect level (suc more) some = refl

-- ---- lists

length_items : (more : ℕ) → length (item_pieces more) ≡ more + 1
length_items zero = refl
length_items (suc more) = omega (arith, length_items more)

pub length_list : (dialect : Dialect) (collated : Bool) (count : ℕ) → 0 < length (list_pieces dialect collated count)
    → length (list_pieces dialect collated count) ≡ count + 1 + 1
length_list dialect collated zero some = absurd (omega (arith, some))
length_list dialect collated (suc more) some = omega (arith, length_items more)

item_before : (more k : ℕ) → k < more → piece_at (item_pieces more) k ≡ codes ", "
item_before zero k below = absurd (omega (arith, below))
item_before (suc more) zero below = refl
item_before (suc more) (suc k) below = item_before more k (omega arith)

item_last : (more : ℕ) → piece_at (item_pieces more) more ≡ codes "))"
item_last zero = refl
item_last (suc more) = item_last more

pub left_end : (dialect : Dialect) (collated : Bool) (count : ℕ) → 1 < length (list_pieces dialect collated count)
    → piece_at (list_pieces dialect collated count) 1 ≡ collation dialect collated ++ codes " IN ("
left_end dialect collated zero some = absurd (omega (arith, some))
left_end dialect collated (suc more) some = refl

pub comma_after : (dialect : Dialect) (collated : Bool) (count done : ℕ) → 2 ≤ done → done ≤ count
    → piece_at (list_pieces dialect collated count) done ≡ codes ", "
comma_after dialect collated zero done two few = absurd (omega arith)
comma_after dialect collated (suc more) zero two few = absurd (omega arith)
comma_after dialect collated (suc more) (suc zero) two few = absurd (omega arith)
comma_after dialect collated (suc more) (suc (suc k)) two few = item_before more k (omega arith)

pub list_end : (dialect : Dialect) (collated : Bool) (count done : ℕ) → 2 ≤ done → done ≡ count + 1
    → piece_at (list_pieces dialect collated count) done ≡ codes "))"
list_end dialect collated zero done two last = absurd (omega arith)
list_end dialect collated (suc more) zero two last = absurd (omega arith)
list_end dialect collated (suc more) (suc zero) two last = absurd (omega arith)
list_end dialect collated (suc more) (suc (suc k)) two last =
    let same : k ≡ more = omega arith in
    ap (λ (n : ℕ). piece_at (item_pieces more) n) same ∙ item_last more
