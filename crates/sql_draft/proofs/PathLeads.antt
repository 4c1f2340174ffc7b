-- Paths that lead on where more is put, or bound.
use Rattle.std.proofs.Common.{◌≡◌, ◌<◌, ◌+◌, ◌∙◌, [], ℕ, List, length, length-append, append-nil, refl, sym, ap, arith}
use Rattle.edm_values.specs.Val.{Val}
use Rattle.odata_filter_operations.specs.Outcome.{gives}
use Rattle.sql_meaning.specs.PlaceGives.{PlaceGives}
use Rattle.sql_tree.specs.declared.sql_node.SqlNode.{SqlNode}
use Rattle.sql_tree.specs.declared.json_path.Path.{Path}
use Rattle.sql_draft.specs.declared.draft.Draft.{Draft}
use Rattle.sql_draft.specs.Growth.{Grows, IsFront}
use Rattle.sql_draft.specs.Paths.{IsPathTo}
use Rattle.sql_draft.specs.World.{IsWorldOf, OfPlace, Question, World}
use Rattle.sql_draft.proofs.Composing.{front_of_front}

own_front : (xs : List Path) → IsFront xs xs
own_front xs = ([], sym (append-nil xs))

module _ (question : Question) (old : Draft) (place number : ℕ) (leads : IsPathTo question old place number) where
  pub path_says : (world : World) (v : Val) → IsWorldOf question old world → OfPlace question.filter place world (gives v) → PlaceGives world.asked world.bound number v
  path_says world v is has = leads.says old world v (own_front old.tree.paths.items) refl is has

  pub path_later : (later : Draft) → IsFront old.tree.paths.items later.tree.paths.items → later.members.items ≡ old.members.items → IsPathTo question later place number
  path_later later front members =
      let many : length later.tree.paths.items ≡ length old.tree.paths.items + length front.0 = ap length front.1 ∙ length-append old.tree.paths.items front.0 in
      let within : number < length old.tree.paths.items = leads.within in
      record {
        within = omega (arith, many, within);
        says = λ last world v more same is has.
            leads.says last world v (front_of_front old.tree.paths.items later.tree.paths.items last.tree.paths.items front more) (same ∙ members) is has;
      }

  pub path_on : (new : Draft) (nodes : List SqlNode) → Grows old new nodes → IsPathTo question new place number
  path_on new nodes grows = path_later new grows.paths grows.members
