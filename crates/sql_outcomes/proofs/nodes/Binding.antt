-- Terms over bound values, and over members.
use Rattle.sql_outcomes.proofs.Common.{Grows, ◌≡◌, ◌++◌, ◌∷◌, [], ◌+◌, ℕ, List, Option, Some, None, map, length, refl, sym, ap, subst, ◌∙◌, append_assoc, append-nil, length-append, IsSomeAnd, slice_get, Outcome, gives, AllMean, SqlMeans, Bound, BoundValue, bound_value, term, no_terms, more_terms, nodes_of, nodes_of_all, SqlNode, Parameter, Path, SqlTree, Draft, IsFront, Has, IsWorldOf, Puts, PutsAll, Question, StandsAt, World, extended, AreNumbered, parameters_of, front_of_front, grows_then, world_before, numbered_both}
use Rattle.odata_meaning.specs.Environment.{Bound as Variable}
use Rattle.odata_checked_filter.proofs.flat.Places.{get_front}
use Rattle.std.proofs.lemmas.List.{length-map}

-- what is bound stays where it is
pub stays : (bound more : Bound) (level : ℕ) (b : BoundValue) → slice_get bound level ≡ Some b → slice_get (bound ++ more) level ≡ Some b
stays bound more level b is = get_front bound more level b is

pub at_last : {A : Type 0} (xs : List A) (x : A) → slice_get (xs ++ x ∷ []) (length xs) ≡ Some x
at_last [] x = refl
at_last (y ∷ xs) x = at_last xs x

pub same_front : {A : Type 0} {xs ys : List A} → xs ≡ ys → IsFront ys xs
same_front {A} {xs} {ys} same = ([], same ∙ sym (append-nil ys))

pub found : (o : Option BoundValue) (P : BoundValue → Type 0) → IsSomeAnd o P → (b : BoundValue) × (o ≡ Some b) × P b
found None P is = absurd is
found (Some b) P is = (b, refl, is)

stands_within : (bound more : Bound) (level : ℕ) (variable : Variable) → StandsAt bound level variable → StandsAt (bound ++ more) level variable
stands_within bound more level variable is =
    let b = found (slice_get bound level) (λ b. b.value ≡ gives variable.value) is in
    subst (λ (o : Option BoundValue). IsSomeAnd o (λ b. b.value ≡ gives variable.value)) (sym (stays bound more level b.0 b.1)) b.2

-- a draft beside itself
pub nothing : (draft : Draft) → Grows draft draft []
nothing draft = record {
  nodes_are = sym (append-nil draft.tree.nodes.items);
  paths = ([], sym (append-nil draft.tree.paths.items));
  parameters = ([], sym (append-nil draft.tree.parameters.items));
  numbered = refl;
  members = refl;
  depth = refl;
}

-- the world within a draft that binds more
pub world_within : (question : Question) (outer inner : Draft) (world : World) (more : List BoundValue)
    → IsFront inner.tree.paths.items outer.tree.paths.items → IsFront inner.tree.parameters.items outer.tree.parameters.items
    → inner.members.items ≡ outer.members.items → inner.depth ≡ outer.depth + length more
    → IsWorldOf question outer world → IsWorldOf question inner (extended world more)
world_within question outer inner world more paths parameters members depth is = record {
  seen = record { row_is = is.seen.row_is; moment_is = is.seen.moment_is; fitting = is.seen.fitting; kept = is.seen.kept };
  schema_is = is.schema_is;
  type_is = is.type_is;
  entity_is = is.entity_is;
  now_is = is.now_is;
  paths = front_of_front inner.tree.paths.items outer.tree.paths.items world.asked.paths paths is.paths;
  parameters = front_of_front inner.tree.parameters.items outer.tree.parameters.items world.asked.parameters parameters is.parameters;
  depth = length-append world.bound more ∙ ap (λ (n : ℕ). n + length more) is.depth ∙ sym depth;
  as_many = ap length members ∙ is.as_many;
  members = λ k level variable at there.
      stands_within world.bound more level variable (is.members k level variable (ap (λ (ls : List ℕ). slice_get ls k) (sym members) ∙ at) there);
}

module _ (question : Question) where
  -- ---- terms one after another

  pub puts_none : (old : Draft) (Outcomes : World → List Outcome → Type 0) → ((world : World) (os : List Outcome) → Outcomes world os → os ≡ []) → PutsAll question old old Outcomes 0
  puts_none old Outcomes none = record {
    terms = no_terms;
    counted = refl;
    shaped = tt;
    grows = nothing old;
    says = λ world os is has. none world os has;
  }

  pub puts_more : (count : ℕ) (old middle new : Draft) (First : Has) (Rest Outcomes : World → List Outcome → Type 0)
      → Puts question old middle First (λ o x. x ≡ o) → PutsAll question middle new Rest count
      → ((world : World) (os : List Outcome) → IsWorldOf question new world → Outcomes world os
      → (o : Outcome) × (more : List Outcome) × First world o × Rest world more × (os ≡ o ∷ more))
      → PutsAll question old new Outcomes (count + 1)
  puts_more count old middle new First Rest Outcomes first rest goes = record {
    terms = more_terms first.t rest.terms;
    counted = ap (λ (n : ℕ). n + 1) rest.counted;
    shaped = (first.shaped, rest.shaped);
    grows = grows_then old middle new (nodes_of first.t) (nodes_of_all rest.terms) first.grows rest.grows;
    says = λ world os is has.
        let g = goes world os is has in
        let before = world_before question middle new (nodes_of_all rest.terms) world rest.grows is in
        let m = first.says world g.0 before g.2 in
        let first_means : SqlMeans world.asked world.bound first.t g.0 = subst (SqlMeans world.asked world.bound first.t) m.2 m.1 in
        subst (AllMean world.asked world.bound (more_terms first.t rest.terms)) (sym g.4) (first_means, rest.says world g.1 is g.3);
  }

  -- ---- a body over bound values

  pub puts_let : (level count : ℕ) (old opened body shut new : Draft) (Values : World → List Outcome → Type 0) (Inner Outcomes : Has) (InnerForm Form : Outcome → Outcome → Type 0)
      → level ≡ old.depth
      → opened.tree.nodes.items ≡ old.tree.nodes.items ++ SqlNode.Let level count ∷ []
      → opened.tree.paths.items ≡ old.tree.paths.items → opened.tree.parameters.items ≡ old.tree.parameters.items
      → opened.members.items ≡ old.members.items → opened.depth ≡ old.depth + count
      → Puts question opened body Inner InnerForm
      → shut.tree ≡ body.tree → shut.members.items ≡ body.members.items → shut.depth ≡ old.depth
      → PutsAll question shut new Values count
      → ((world : World) (o : Outcome) → IsWorldOf question new world → Outcomes world o
      → (os : List Outcome) × Values world os × (length os ≡ count) × (i : Outcome) × Inner (extended world (map bound_value os)) i × ((x : Outcome) → InnerForm i x → Form o x))
      → Puts question old new Outcomes Form
  puts_let level count old opened body shut new Values Inner Outcomes InnerForm Form level_is nodes paths parameters members depth inner tree_is shut_members shut_depth values goes = record {
    t = term (SqlNode.Let level count) (more_terms inner.t values.terms);
    shaped = (ap (λ (n : ℕ). n + 1) values.counted, (inner.shaped, values.shaped));
    grows = record {
      nodes_are =
          values.grows.nodes_are
          ∙ ap (λ (ns : List SqlNode). ns ++ nodes_of_all values.terms) (ap (λ (tree : SqlTree). tree.nodes.items) tree_is ∙ inner.grows.nodes_are ∙ ap (λ (ns : List SqlNode). ns ++ nodes_of inner.t) nodes)
          ∙ ap (λ (ns : List SqlNode). ns ++ nodes_of_all values.terms) (append_assoc old.tree.nodes.items (SqlNode.Let level count ∷ []) (nodes_of inner.t))
          ∙ append_assoc old.tree.nodes.items (SqlNode.Let level count ∷ nodes_of inner.t) (nodes_of_all values.terms);
      paths = front_of_front old.tree.paths.items shut.tree.paths.items new.tree.paths.items (subst (λ (ps : List Path). IsFront ps shut.tree.paths.items) paths (subst (IsFront opened.tree.paths.items) (sym tree_paths) inner.grows.paths)) values.grows.paths;
      parameters = front_of_front old.tree.parameters.items shut.tree.parameters.items new.tree.parameters.items (subst (λ (ps : List Parameter). IsFront ps shut.tree.parameters.items) parameters (subst (IsFront opened.tree.parameters.items) (sym tree_parameters) inner.grows.parameters)) values.grows.parameters;
      numbered = numbered_both (length old.tree.parameters.items) (length shut.tree.parameters.items) (length new.tree.parameters.items) (nodes_of inner.t) (nodes_of_all values.terms)
          (subst (λ (ps : List Parameter). AreNumbered (length ps) (parameters_of (nodes_of inner.t)) (length shut.tree.parameters.items)) parameters
          (subst (λ (ps : List Parameter). AreNumbered (length opened.tree.parameters.items) (parameters_of (nodes_of inner.t)) (length ps)) (sym tree_parameters) inner.grows.numbered))
          values.grows.numbered;
      members = values.grows.members ∙ shut_members ∙ inner.grows.members ∙ members;
      depth = values.grows.depth ∙ shut_depth;
    };
    says = λ world o is has.
        let g = goes world o is has in
        let before = world_before question shut new (nodes_of_all values.terms) world values.grows is in
        let counted : length (map bound_value g.0) ≡ count = length-map g.0 bound_value ∙ g.2 in
        let inside = world_within question shut body world (map bound_value g.0) (same_front tree_paths) (same_front tree_parameters)
        (sym shut_members) (inner.grows.depth ∙ depth ∙ ap (λ (n : ℕ). n + count) (sym shut_depth) ∙ ap (λ (n : ℕ). shut.depth + n) (sym counted)) before in
        let m = inner.says (extended world (map bound_value g.0)) g.3 inside g.4 in
        (m.0, (g.0, values.says world g.0 is g.1, g.2, level_is ∙ sym (is.depth ∙ values.grows.depth ∙ shut_depth), m.1), g.5 m.0 m.2);
  }
    where
      tree_paths : shut.tree.paths.items ≡ body.tree.paths.items
      tree_paths = ap (λ (tree : SqlTree). tree.paths.items) tree_is

      tree_parameters : shut.tree.parameters.items ≡ body.tree.parameters.items
      tree_parameters = ap (λ (tree : SqlTree). tree.parameters.items) tree_is
