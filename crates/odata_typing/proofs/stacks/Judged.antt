-- What has been judged of a run: its trees, each over its root's nodes. Of trees and of roots the last comes first.
use Rattle.odata_typing.proofs.Common.{refl, sym, subst, inl, ℕ, zero, suc, ◌≤◌, List, [], ◌∷◌, ◌++◌, reverse, take, drop, arith, reverse-append, AreBefore, AreSideBySide, number_at, stop_at, Tree, Place, SchemaModel, slots_of, type_name_at, expr_type, Scope, Walk, IsStanding, StandInRow, LawsBelow}
use Rattle.odata_typing.proofs.flat.Kept.{IsOnward, standing_kept}
use Rattle.odata_typing.proofs.untypable.Untypable.{AllTyped}

abbrev pub AreJudged : SchemaModel → ℕ → Scope → Walk → List Place → List ℕ → List Tree → Type 0
AreJudged schema n scope walk places [] [] = Unit {0}
AreJudged schema n scope walk places (root ∷ roots) (tree ∷ trees) =
    IsStanding schema n scope walk (number_at places root) (stop_at places root) tree
    × AreJudged schema n scope walk places roots trees
AreJudged schema n scope walk places _ _ = ⊥

pub judged_take :
    (schema : SchemaModel) (n : ℕ) (scope : Scope) (walk : Walk) (places : List Place) (count : ℕ) (roots : List ℕ) (trees : List Tree)
    → AreJudged schema n scope walk places roots trees
    → AreJudged schema n scope walk places (take count roots) (take count trees)
judged_take schema n scope walk places zero roots trees judged = tt
judged_take schema n scope walk places (suc count) [] [] judged = tt
judged_take schema n scope walk places (suc count) (root ∷ roots) (tree ∷ trees) judged =
    (judged.0, judged_take schema n scope walk places count roots trees judged.1)
judged_take schema n scope walk places (suc count) _ _ judged = absurd judged

pub judged_drop :
    (schema : SchemaModel) (n : ℕ) (scope : Scope) (walk : Walk) (places : List Place) (count : ℕ) (roots : List ℕ) (trees : List Tree)
    → AreJudged schema n scope walk places roots trees
    → AreJudged schema n scope walk places (drop count roots) (drop count trees)
judged_drop schema n scope walk places zero roots trees judged = judged
judged_drop schema n scope walk places (suc count) [] [] judged = tt
judged_drop schema n scope walk places (suc count) (root ∷ roots) (tree ∷ trees) judged =
    judged_drop schema n scope walk places count roots trees judged.1
judged_drop schema n scope walk places (suc count) _ _ judged = absurd judged

-- all of them have types
pub judged_typed :
    (schema : SchemaModel) (n : ℕ) (scope : Scope) (walk : Walk) (places : List Place) (roots : List ℕ) (trees : List Tree)
    → AreJudged schema n scope walk places roots trees
    → AllTyped (slots_of schema) (type_name_at schema n) scope trees
judged_typed schema n scope walk places [] [] judged = tt
judged_typed schema n scope walk places (root ∷ roots) (tree ∷ trees) judged =
    ((expr_type schema judged.0.found.edm_type, judged.0.typed), judged_typed schema n scope walk places roots trees judged.1)
judged_typed schema n scope walk places _ _ judged = absurd judged

-- trees side by side stand in a row, in the order of the text
row_push :
    (schema : SchemaModel) (n : ℕ) (scope : Scope) (walk : Walk) (trees : List Tree) (tree : Tree) (from middle to : ℕ)
    → StandInRow schema n scope walk trees from middle
    → IsStanding schema n scope walk middle to tree
    → StandInRow schema n scope walk (trees ++ tree ∷ []) from to
row_push schema n scope walk [] tree from middle to row standing = record {
  middle = to;
  left = subst (λ (k : ℕ). IsStanding schema n scope walk k to tree) (sym row) standing;
  right = refl;
}
row_push schema n scope walk (first ∷ trees) tree from middle to row standing = record {
  middle = row.middle;
  left = row.left;
  right = row_push schema n scope walk trees tree row.middle middle to row.right standing;
}

pub judged_row :
    (schema : SchemaModel) (n : ℕ) (scope : Scope) (walk : Walk) (places : List Place) (from to : ℕ) (roots : List ℕ) (trees : List Tree)
    → AreSideBySide places from to roots
    → AreJudged schema n scope walk places roots trees
    → StandInRow schema n scope walk (reverse trees) from to
judged_row schema n scope walk places from to [] [] beside judged = beside
judged_row schema n scope walk places from to (root ∷ roots) (tree ∷ trees) beside judged =
    let standing : IsStanding schema n scope walk (number_at places root) to tree =
    subst (λ (k : ℕ). IsStanding schema n scope walk (number_at places root) k tree) beside.0 judged.0 in
    subst (λ (ts : List Tree). StandInRow schema n scope walk ts from to) (sym (reverse-append (tree ∷ []) trees))
    (row_push schema n scope walk (reverse trees) tree from (number_at places root) to
    (judged_row schema n scope walk places from (number_at places root) roots trees beside.1 judged.1) standing)
judged_row schema n scope walk places from to _ _ beside judged = absurd judged

-- trees before the nodes that change stand there still
pub judged_kept :
    LawsBelow → (schema : SchemaModel) (n : ℕ) (scope : Scope) (old new : Walk) (places : List Place) (i j to : ℕ) (roots : List ℕ) (trees : List Tree)
    → IsOnward i j old new
    → to ≤ i
    → AreBefore places to roots
    → AreJudged schema n scope old places roots trees
    → AreJudged schema n scope new places roots trees
judged_kept laws schema n scope old new places i j to [] [] onward le before judged = tt
judged_kept laws schema n scope old new places i j to (root ∷ roots) (tree ∷ trees) onward le before judged =
    let stop : stop_at places root ≤ to = before.0 in (
      standing_kept laws schema n scope i j old new onward (number_at places root) (stop_at places root) tree (inl (omega arith)) judged.0,
      judged_kept laws schema n scope old new places i j (number_at places root) roots trees onward (omega arith) before.1 judged.1,
    )
judged_kept laws schema n scope old new places i j to _ _ onward le before judged = absurd judged
