-- What is put of a whole filter says of each row what it should.
use Rattle.std.proofs.Common.{◌≡◌, [], ℕ, List, Some, None, length, refl, sym, ap, ◌∙◌, append-nil}
use Rattle.std.specs.Prelude.{slice_get}
use Rattle.edm_entities.specs.Row.{Row}
use Rattle.odata_checked_filter.specs.Filter.{IsFilter, tree_of_filter}
use Rattle.odata_filter_operations.specs.Outcome.{Outcome}
use Rattle.sql_meaning.specs.OneMeaning.{HaveOneMeaning}
use Rattle.odata_sql.specs.Conditions.{SaysOfEach, asked_of}
use Rattle.sql_draft.specs.declared.draft.Draft.{Draft}
use Rattle.sql_draft.specs.World.{IsWorldOf, OfPlace, Puts, Question, World}

none_some : (level : ℕ) → None ≡ Some level → ⊥
none_some level is = cc

module _ (question : Question) (old new : Draft) (right : IsFilter question.filter) (no_depth : old.depth ≡ 0) (no_members : old.members.items ≡ []) where
  -- the world of a row, with no variables
  abbrev world_of : Row → World
  world_of row = record {
    row = row;
    now = question.now;
    environment = [];
    asked = asked_of row question.now new.tree.paths.items new.tree.parameters.items;
    bound = [];
  }

  pub says_of_each : (Form Holds : Outcome → Outcome → Type 0) → HaveOneMeaning → ((o x : Outcome) → Form o x → Holds o x)
      → (put : Puts question old new (OfPlace question.filter 0) Form)
      → SaysOfEach question.filter question.now new.tree.paths.items new.tree.parameters.items put.t Holds
  says_of_each Form Holds one form put row o is_row means =
      let world = world_of row in
      let is_world : IsWorldOf question new world = record {
        seen = record { row_is = is_row; moment_is = refl; fitting = tt; kept = tt };
        schema_is = refl;
        type_is = refl;
        entity_is = refl;
        now_is = refl;
        paths = ([], sym (append-nil new.tree.paths.items));
        parameters = ([], sym (append-nil new.tree.parameters.items));
        depth = sym (put.grows.depth ∙ no_depth);
        as_many = ap length (put.grows.members ∙ no_members);
        members = λ k level variable at there.
            absurd (none_some level (ap (λ (ls : List ℕ). slice_get ls k) (sym (put.grows.members ∙ no_members)) ∙ at));
      } in
      let there : OfPlace question.filter 0 world o = (tree_of_filter question.filter, record { stop = length question.filter.list.nodes; stands = right.stands }, means) in
      let m = put.says world o is_world there in
      record { outcome = m.0; related = m.1; holds = form o m.0 m.2; only = λ other of_other. one world.asked [] put.t other m.0 of_other m.1 }
