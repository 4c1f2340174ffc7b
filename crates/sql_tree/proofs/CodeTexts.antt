-- The pieces of tables of codes, and columns by their slots.
use Rattle.std.proofs.Common.{◌≡◌, ◌∙◌, ◌≤◌, ◌<◌, ℕ, zero, suc, List, [], ◌∷◌, ◌++◌, Some, Bor, length, map, refl, ap, subst, arith, append-nil, append_assoc, slice_get}
use Rattle.std.specs.Prelude.{codes, unwrap_or}
use Rattle.sql_tree.specs.NodePieces.{digit_end, digit_start, pieces_for_codes, place_cast}
use Rattle.sql_tree.specs.private.PiecesView.{piece_at}
use Rattle.sql_tree.specs.TableDigits.{arity_of_table, table_text}
use Rattle.sql_tree.specs.TableModel.{HasColumn, column_name, storage_in}
use Rattle.sql_tree.specs.declared.dialect.Dialect.{Dialect}
use Rattle.sql_tree.specs.declared.look_up.LookUp.{LookUp}
use Rattle.sql_tree.specs.declared.storage.Storage.{Storage}
use Rattle.sql_tree.proofs.Arities.{table_length}

-- ---- tables

at_end : (dialect : Dialect) (table : LookUp) → piece_at (pieces_for_codes dialect table (arity_of_table table)) (arity_of_table table) ≡ digit_end dialect
at_end dialect LookUp.Not = refl
at_end dialect LookUp.And = refl
at_end dialect LookUp.Or = refl
at_end dialect LookUp.Equal = refl
at_end dialect LookUp.NotEqual = refl
at_end dialect LookUp.Greater = refl
at_end dialect LookUp.AtLeast = refl
at_end dialect LookUp.Less = refl
at_end dialect LookUp.AtMost = refl
at_end dialect LookUp.IsNull = refl
at_end dialect LookUp.IsNotNull = refl
at_end dialect LookUp.Never = refl

pub code_end : (dialect : Dialect) (table : LookUp) (done : ℕ) → arity_of_table table ≤ done → done < length (pieces_for_codes dialect table (arity_of_table table))
    → piece_at (pieces_for_codes dialect table (arity_of_table table)) done ≡ digit_end dialect
code_end dialect table done all few =
    let long = table_length dialect table in
    let same : done ≡ arity_of_table table = omega (arith, all, few, long) in
    ap (λ (n : ℕ). piece_at (pieces_for_codes dialect table (arity_of_table table)) n) same ∙ at_end dialect table

one_start : (dialect : Dialect) (table : LookUp) (rest : List ℕ) → (rest ≡ []) → digit_start dialect table ++ rest ≡ digit_start dialect table
one_start dialect table rest none = ap (λ (xs : List ℕ). digit_start dialect table ++ xs) none ∙ append-nil (digit_start dialect table)

two_start : (dialect : Dialect) (table : LookUp) (rest : List ℕ) → (rest ≡ codes "5 * ") → digit_start dialect table ++ rest ≡ digit_start dialect table ++ codes "5 * "
two_start dialect table rest five = ap (λ (xs : List ℕ). digit_start dialect table ++ xs) five

-- the start of a table that takes two codes multiplies the first
pub code_start : (dialect : Dialect) (table : LookUp) (rest : List ℕ) → (arity_of_table table ≡ 2 → rest ≡ codes "5 * ") → ((arity_of_table table ≡ 2 → ⊥) → rest ≡ [])
    → digit_start dialect table ++ rest ≡ piece_at (pieces_for_codes dialect table (arity_of_table table)) 0
code_start dialect LookUp.Not rest two one = one_start dialect LookUp.Not rest (one (λ e. cc))
code_start dialect LookUp.And rest two one = two_start dialect LookUp.And rest (two refl)
code_start dialect LookUp.Or rest two one = two_start dialect LookUp.Or rest (two refl)
code_start dialect LookUp.Equal rest two one = two_start dialect LookUp.Equal rest (two refl)
code_start dialect LookUp.NotEqual rest two one = two_start dialect LookUp.NotEqual rest (two refl)
code_start dialect LookUp.Greater rest two one = two_start dialect LookUp.Greater rest (two refl)
code_start dialect LookUp.AtLeast rest two one = two_start dialect LookUp.AtLeast rest (two refl)
code_start dialect LookUp.Less rest two one = two_start dialect LookUp.Less rest (two refl)
code_start dialect LookUp.AtMost rest two one = two_start dialect LookUp.AtMost rest (two refl)
code_start dialect LookUp.IsNull rest two one = one_start dialect LookUp.IsNull rest (one (λ e. cc))
code_start dialect LookUp.IsNotNull rest two one = one_start dialect LookUp.IsNotNull rest (one (λ e. cc))
code_start dialect LookUp.Never rest two one = one_start dialect LookUp.Never rest (one (λ e. cc))

-- the digits between quotes, and what a dialect has after them
pub digits_joined : (dialect : Dialect) (table : LookUp) (written place : List ℕ) → written ≡ table_text table → place ≡ place_cast dialect
    → (codes "CAST(substr('" ++ (written ++ codes "'")) ++ place ≡ digit_start dialect table
digits_joined dialect table written place digits_are place_is =
    append_assoc (codes "CAST(substr('") (written ++ codes "'") place
    ∙ ap (λ (xs : List ℕ). codes "CAST(substr('" ++ xs) (append_assoc written (codes "'") place)
    ∙ ap (λ (xs : List ℕ). codes "CAST(substr('" ++ (xs ++ (codes "'" ++ place))) digits_are
    ∙ ap (λ (xs : List ℕ). codes "CAST(substr('" ++ (table_text table ++ (codes "'" ++ xs))) place_is

-- ---- columns

map_long : (names : List (Bor (List ℕ))) → length (map (λ name. name.now) names) ≡ length names
map_long [] = refl
map_long (name ∷ names) = let rest = map_long names in omega (arith, rest)

pub column_within : (storage : Storage) (names : Bor (List (Bor (List ℕ)))) (slot : ℕ) → storage ≡ Storage.Columns names → HasColumn (storage_in storage) slot → slot < length names.now
column_within storage names slot is has =
    let within : slot < length (map (λ (name : Bor (List ℕ)). name.now) names.now) = subst (λ (s : Storage). HasColumn (storage_in s) slot) is has in
    let long = map_long names.now in
    omega (arith, within, long)

same_name : (name other : Bor (List ℕ)) → Some name ≡ Some other → name ≡ other
same_name name other is = cc

named_there : (names : List (Bor (List ℕ))) (slot : ℕ) (name : Bor (List ℕ)) → slice_get names slot ≡ Some name → unwrap_or (slice_get (map (λ n. n.now) names) slot) [] ≡ name.now
named_there [] slot name found = absurd (cc)
named_there (first ∷ names) zero name found = ap (λ (n : Bor (List ℕ)). n.now) (same_name first name found)
named_there (first ∷ names) (suc slot) name found = named_there names slot name found

pub column_named : (storage : Storage) (names : Bor (List (Bor (List ℕ)))) (slot : ℕ) (name : Bor (List ℕ)) → storage ≡ Storage.Columns names → slice_get names.now slot ≡ Some name
    → column_name (storage_in storage) slot ≡ name.now
column_named storage names slot name is found = ap (λ (s : Storage). column_name (storage_in s) slot) is ∙ named_there names.now slot name found
