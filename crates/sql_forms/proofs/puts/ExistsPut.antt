-- What is put inside of `EXISTS`: the world at a member, and what its operand evaluates to there.
use Rattle.sql_forms.proofs.Common.{Has, ◌≡◌, ◌+◌, ◌++◌, ◌∷◌, [], ℕ, List, Some, length, refl, sym, ap, subst, ◌∙◌, append_assoc, arith, slice_get, Val, Filter, there_found, Outcome, gives, PlaceGives, BoundValue, bound_member, nodes_of, AreNumbered, parameters_of, SqlNode, SqlType, SqlTree, Draft, Operand, Source, Kind, Grows, IsDeeper, IsFront, IsOfKind, IsOfType, IsAtPath, IsMemberOperand, SourceHas, PutsMemberPath, IsWorldOf, Puts, Question, World, extended, front_of_front, grows_then, numbered_both, world_before}
use Rattle.sql_outcomes.proofs.nodes.Binding.{at_last, same_front, world_within}

pub at_path_has : (filter : Filter) (path : ℕ) (kind : Kind) (source : Source) (world : World) (v : Val) → IsAtPath path kind source → PlaceGives world.asked world.bound path v → IsOfKind kind v
    → SourceHas filter source world (gives v)
at_path_has filter path (Kind.Value type) (Source.Field number value_type) world v at there is = (v, subst (λ (k : ℕ). PlaceGives world.asked world.bound k v) (sym at.0) there, subst (λ (t : SqlType). IsOfType t v) at.1 is, refl)
at_path_has filter path Kind.Structured (Source.Place number) world v at there is = (v, subst (λ (k : ℕ). PlaceGives world.asked world.bound k v) (sym at) there, refl)
at_path_has filter path kind source world v at there is = absurd at

-- what grows by an `EXISTS`, and the world at a member within it
pub record InExists (question : Question) (member : Operand) (path : ℕ) (old inner new : Draft) (nodes : List SqlNode) : Type 0 where
  pub grows : Grows old new (SqlNode.Exists path old.depth ∷ nodes)
  pub inside : (world : World) → IsWorldOf question new world → (k : ℕ) (v : Val) → IsWorldOf question inner (extended world (bound_member k v ∷ []))
  pub member_has : (world : World) → IsWorldOf question new world → (k : ℕ) (v : Val) → IsOfKind member.kind v → SourceHas question.filter member.source (extended world (bound_member k v ∷ [])) (gives v)

module _ (question : Question) (member : Operand) (collection path number : ℕ) (old m1 m2 m3 m4 new : Draft) (member_path : PutsMemberPath old m1 old.depth number)
    (member_is : IsMemberOperand question.filter collection number member) (exists_grows : Grows m1 m2 (SqlNode.Exists path old.depth ∷ [])) (deeper : IsDeeper m2 m3 1) (Inside : Has)
    (AsForm : Outcome → Outcome → Type 0) (put : Puts question m3 m4 Inside AsForm) (tree_is : new.tree ≡ m4.tree) (members_are : new.members.items ≡ m4.members.items)
    (depth_is : new.depth + 1 ≡ m4.depth) where
  first_grows : Grows old m2 (SqlNode.Exists path old.depth ∷ [])
  first_grows = grows_then old m1 m2 [] (SqlNode.Exists path old.depth ∷ []) member_path.grows exists_grows

  shut_depth : new.depth ≡ old.depth
  shut_depth =
      let inner : m4.depth ≡ m3.depth = put.grows.depth in
      let deep : m3.depth ≡ m2.depth + 1 = deeper.depth in
      let outer : m2.depth ≡ old.depth = first_grows.depth in
      omega (arith, depth_is, inner, deep, outer)

  all_grows : Grows old new (SqlNode.Exists path old.depth ∷ nodes_of put.t)
  all_grows = record {
    nodes_are =
        ap (λ (tree : SqlTree). tree.nodes.items) tree_is ∙ put.grows.nodes_are
        ∙ ap (λ (ns : List SqlNode). ns ++ nodes_of put.t) (ap (λ (tree : SqlTree). tree.nodes.items) deeper.tree ∙ first_grows.nodes_are)
        ∙ append_assoc old.tree.nodes.items (SqlNode.Exists path old.depth ∷ []) (nodes_of put.t);
    paths =
        subst (λ (tree : SqlTree). IsFront old.tree.paths.items tree.paths.items) (sym tree_is)
        (front_of_front old.tree.paths.items m3.tree.paths.items m4.tree.paths.items (subst (λ (tree : SqlTree). IsFront old.tree.paths.items tree.paths.items) (sym deeper.tree) first_grows.paths) put.grows.paths);
    parameters =
        subst (λ (tree : SqlTree). IsFront old.tree.parameters.items tree.parameters.items) (sym tree_is)
        (front_of_front old.tree.parameters.items m3.tree.parameters.items m4.tree.parameters.items
        (subst (λ (tree : SqlTree). IsFront old.tree.parameters.items tree.parameters.items) (sym deeper.tree) first_grows.parameters) put.grows.parameters);
    numbered =
        subst (λ (tree : SqlTree). AreNumbered (length old.tree.parameters.items) (parameters_of (SqlNode.Exists path old.depth ∷ nodes_of put.t)) (length tree.parameters.items)) (sym tree_is)
        (numbered_both (length old.tree.parameters.items) (length m3.tree.parameters.items) (length m4.tree.parameters.items) (SqlNode.Exists path old.depth ∷ []) (nodes_of put.t)
        (subst (λ (tree : SqlTree). AreNumbered (length old.tree.parameters.items) (parameters_of (SqlNode.Exists path old.depth ∷ [])) (length tree.parameters.items)) (sym deeper.tree) first_grows.numbered) put.grows.numbered);
    members = members_are ∙ put.grows.members ∙ deeper.members ∙ first_grows.members;
    depth = shut_depth;
  }

  module _ (world : World) (is : IsWorldOf question new world) where
    before : IsWorldOf question old world
    before = world_before question old new (SqlNode.Exists path old.depth ∷ nodes_of put.t) world all_grows is

    abbrev at_member_of : ℕ → Val → World
    at_member_of k v = extended world (bound_member k v ∷ [])

    inside : (k : ℕ) (v : Val) → IsWorldOf question m4 (at_member_of k v)
    inside k v =
        world_within question new m4 world (bound_member k v ∷ []) (same_front (ap (λ (tree : SqlTree). tree.paths.items) tree_is)) (same_front (ap (λ (tree : SqlTree). tree.parameters.items) tree_is))
        (sym members_are) (sym depth_is) is

    member_paths : (k : ℕ) (v : Val) → IsFront m1.tree.paths.items world.asked.paths
    member_paths k v =
        front_of_front m1.tree.paths.items m3.tree.paths.items world.asked.paths (subst (λ (tree : SqlTree). IsFront m1.tree.paths.items tree.paths.items) (sym deeper.tree) exists_grows.paths)
        (front_of_front m3.tree.paths.items m4.tree.paths.items world.asked.paths put.grows.paths (inside k v).paths)

    at_level : (k : ℕ) (v : Val) → slice_get (world.bound ++ bound_member k v ∷ []) old.depth ≡ Some (bound_member k v)
    at_level k v = ap (λ (level : ℕ). slice_get (world.bound ++ bound_member k v ∷ []) level) (sym before.depth) ∙ at_last world.bound (bound_member k v)

    member_has : (k : ℕ) (v : Val) → IsOfKind member.kind v → SourceHas question.filter member.source (at_member_of k v) (gives v)
    member_has k v kind =
        at_path_has question.filter number member.kind member.source (at_member_of k v) v member_is.at
        (member_path.says world.asked (world.bound ++ bound_member k v ∷ []) v (member_paths k v)
        (there_found (λ (b : BoundValue). b.value ≡ gives v) (slice_get (world.bound ++ bound_member k v ∷ []) old.depth) (bound_member k v) (at_level k v) refl)) kind

  pub in_exists : InExists question member path old m4 new (nodes_of put.t)
  in_exists = record { grows = all_grows; inside = λ world is k v. inside world is k v; member_has = λ world is k v kind. member_has world is k v kind }
