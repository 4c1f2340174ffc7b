-- Paths of names and members, and where they lead.
use Rattle.std.specs.Prelude.{◌≡◌, ◌<◌, ℕ, [], IsSomeAnd, length, slice_get}
use Rattle.edm_values.specs.Val.{Val}
use Rattle.odata_filter_operations.specs.Outcome.{gives}
use Rattle.sql_meaning.specs.PlaceGives.{PlaceGives}
use Rattle.sql_meaning.specs.Table.{Asked, Bound}
use Rattle.sql_draft.specs.declared.draft.Draft.{Draft}
use Rattle.sql_draft.specs.Growth.{Grows, IsFront}
use Rattle.sql_draft.specs.World.{IsWorldOf, OfPlace, Question, World}

-- ---- the nodes of a path

-- ---- where paths lead

-- the path of the number is one of the draft's, and leads to the value that the node there has, whatever more is bound
pub record IsPathTo (question : Question) (draft : Draft) (place number : ℕ) : Type 0 where
  pub within : number < length draft.tree.paths.items
  pub says :
      (later : Draft) (world : World) (v : Val) → IsFront draft.tree.paths.items later.tree.paths.items
      → later.members.items ≡ draft.members.items → IsWorldOf question later world
      → OfPlace question.filter place world (gives v)
      → PlaceGives world.asked world.bound number v

-- a path is added, which leads there
pub record PutsPath (question : Question) (old new : Draft) (place number : ℕ) : Type 0 where
  pub grows : Grows old new []
  pub leads : IsPathTo question new place number

-- a path is added, which leads to the member that is bound at the level
pub record PutsMemberPath (old new : Draft) (level number : ℕ) : Type 0 where
  pub grows : Grows old new []
  pub within : number < length new.tree.paths.items
  pub says :
      (asked : Asked) (bound : Bound) (v : Val) → IsFront new.tree.paths.items asked.paths
      → IsSomeAnd (slice_get bound level) (λ b. b.value ≡ gives v) → PlaceGives asked bound number v
