-- A row that is asked, with what is around an expression of the filter and of SQL there.
use Rattle.std.specs.Prelude.{◌≡◌, ◌++◌, ℕ, List}
use Rattle.odata_filter_operations.specs.Outcome.{Outcome}
use Rattle.sql_meaning.specs.SqlMeans.{AllMean}
use Rattle.sql_meaning.specs.Table.{BoundValue}
use Rattle.sql_tree.specs.Shapes.{AreShaped}
use Rattle.sql_tree.specs.Term.{Terms, nodes_of_all}
use Rattle.sql_tree.specs.TreeText.{count_of}
use Rattle.sql_draft.specs.declared.draft.Draft.{Draft}
use Rattle.sql_draft.specs.Growth.{Grows}
use Rattle.sql_draft.specs.World.{IsWorldOf, Question, World}

-- the world within, where these are bound too
abbrev pub extended : World → List BoundValue → World
extended world more = record world { bound = world.bound ++ more }

-- so many terms are added, one after another, that evaluate to what there is of them
pub record PutsAll (question : Question) (old new : Draft) (Outcomes : World → List Outcome → Type 0) (count : ℕ) :
    Type 0 where
  pub terms : Terms
  pub counted : count_of terms ≡ count
  pub shaped : AreShaped terms
  pub grows : Grows old new (nodes_of_all terms)
  pub says :
      (world : World) (os : List Outcome) → IsWorldOf question new world → Outcomes world os
      → AllMean world.asked world.bound terms os
