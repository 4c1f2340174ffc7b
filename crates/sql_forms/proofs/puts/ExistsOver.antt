-- `EXISTS` over a body that evaluates to truth values at the members of a collection.
use Rattle.sql_forms.proofs.Common.{Has, ◌≡◌, ◌++◌, ◌∷◌, [], ℕ, List, Bool, Option, map, refl, sym, ap, subst, ◌∙◌, append-nil, Val, boolean, Outcome, gives, AtEach, bound_member, truth, SqlMeans, Term, no_terms, more_terms, nodes_of, term, SqlNode, Draft, Grows, AreMembers, IsPathTo, path_says, IsShaped, OfPlace, Puts, Question, World, IsWorldOf, world_before}
use Rattle.sql_outcomes.proofs.outcomes.Quantified.{any_true, some_true}

-- what the body evaluates to at the members, and what comes of that by the form
pub record SomeTrue (question : Question) (collection : ℕ) (t : Term) (Form : Outcome → Outcome → Type 0) (world : World) (o : Outcome) : Type 0 where
  pub c : Val
  pub members : List Val
  pub has : OfPlace question.filter collection world (gives c)
  pub are : AreMembers c members
  pub ts : List (Option Bool)
  pub at_each : AtEach (λ k v. SqlMeans world.asked (world.bound ++ bound_member k v ∷ []) t) 0 members (map truth ts)
  pub form : Form o (gives (boolean (any_true ts)))

pub exists_over : (question : Question) (collection path level : ℕ) (old new : Draft) (t : Term) → IsShaped t → level ≡ old.depth → IsPathTo question old collection path
    → Grows old new (SqlNode.Exists path level ∷ nodes_of t) → (Over : Has) (Form : Outcome → Outcome → Type 0)
    → ((world : World) (o : Outcome) → IsWorldOf question new world → Over world o → SomeTrue question collection t Form world o) → Puts question old new Over Form
exists_over question collection path level old new t shaped level_is leads grows Over Form comes = record {
  t = term (SqlNode.Exists path level) (more_terms t no_terms);
  shaped = (refl, (shaped, tt));
  grows = subst (Grows old new) (ap (λ (ns : List SqlNode). SqlNode.Exists path level ∷ ns) (sym (append-nil (nodes_of t)))) grows;
  says = λ world o is has.
      let before = world_before question old new (SqlNode.Exists path level ∷ nodes_of t) world grows is in
      let m = comes world o is has in (
        gives (boolean (any_true m.ts)),
        (
          level_is ∙ sym before.depth,
          (m.c, m.members, map truth m.ts, path_says question old collection path leads world m.c before m.has, m.are, m.at_each, (any_true m.ts, some_true m.ts, refl)),
        ),
        m.form,
      );
}
