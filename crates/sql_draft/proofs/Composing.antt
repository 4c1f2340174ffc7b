-- Terms put together of terms.
use Rattle.std.proofs.Common.{◌≡◌, ◌++◌, ◌∷◌, [], ℕ, List, Result, Ok, Err, OnOk, length, refl, sym, ap, subst, ◌∙◌, append-nil, append_assoc, ◌+◌, length-append, arith}
use Rattle.std.specs.Prelude.{slice_get}
use Rattle.odata_filter_operations.specs.Outcome.{Outcome}
use Rattle.sql_meaning.specs.SqlMeans.{NodeMeans, SqlMeans}
use Rattle.sql_meaning.specs.Table.{Asked, Bound}
use Rattle.sql_tree.specs.Shapes.{arity}
use Rattle.sql_tree.specs.Term.{Term, term, no_terms, more_terms, nodes_of}
use Rattle.sql_tree.specs.declared.sql_node.SqlNode.{SqlNode}
use Rattle.sql_tree.specs.declared.parameter.Parameter.{Parameter}
use Rattle.sql_tree.specs.declared.json_path.Path.{Path}
use Rattle.sql_draft.specs.declared.draft.Draft.{Draft}
use Rattle.sql_draft.specs.Growth.{Grows, GrowsBy, IsFront}
use Rattle.sql_tree.specs.Numbered.{AreNumbered, named_by, parameters_of}
use Rattle.sql_draft.specs.World.{Has, IsWorldOf, Puts, Question, World}

-- ---- growth

pub front_of_front : {A : Type 0} (xs ys zs : List A) → IsFront xs ys → IsFront ys zs → IsFront xs zs
front_of_front {A} xs ys zs front later =
    (front.0 ++ later.0, later.1 ∙ ap (λ (l : List A). l ++ later.0) front.1 ∙ append_assoc xs front.0 later.0)

parameters_append : (xs ys : List SqlNode) → parameters_of (xs ++ ys) ≡ parameters_of xs ++ parameters_of ys
parameters_append [] ys = refl
parameters_append (node ∷ xs) ys =
    ap (λ (ps : List ℕ). named_by node ++ ps) (parameters_append xs ys) ∙ sym (append_assoc (named_by node) (parameters_of xs) (parameters_of ys))

numbered_then : (a b c : ℕ) (xs ys : List ℕ) → AreNumbered a xs b → AreNumbered b ys c → AreNumbered a (xs ++ ys) c
numbered_then a b c [] ys first second = subst (λ (n : ℕ). AreNumbered n ys c) first second
numbered_then a b c (x ∷ xs) ys first second = (first.0, numbered_then (a + 1) b c xs ys first.1 second)

pub numbered_both : (a b c : ℕ) (xs ys : List SqlNode) → AreNumbered a (parameters_of xs) b → AreNumbered b (parameters_of ys) c
    → AreNumbered a (parameters_of (xs ++ ys)) c
numbered_both a b c xs ys first second =
    subst (λ (ps : List ℕ). AreNumbered a ps c) (sym (parameters_append xs ys)) (numbered_then a b c (parameters_of xs) (parameters_of ys) first second)

pub no_more : (first : ℕ) → AreNumbered first [] (first + 0)
no_more first = let same : first + 0 ≡ first = omega arith in same

-- a node that is no parameter
no_parameter : (first : ℕ) (node : SqlNode) → named_by node ≡ [] → AreNumbered first (parameters_of (node ∷ [])) (first + 0)
no_parameter first node plain = subst (λ (ps : List ℕ). AreNumbered first (ps ++ []) (first + 0)) (sym plain) (no_more first)

pub grows_then : (old middle new : Draft) (first second : List SqlNode) → Grows old middle first → Grows middle new second → Grows old new (first ++ second)
grows_then old middle new first second a b = record {
  nodes_are = b.nodes_are ∙ ap (λ (ns : List SqlNode). ns ++ second) a.nodes_are ∙ append_assoc old.tree.nodes.items first second;
  paths = front_of_front old.tree.paths.items middle.tree.paths.items new.tree.paths.items a.paths b.paths;
  parameters = front_of_front old.tree.parameters.items middle.tree.parameters.items new.tree.parameters.items a.parameters b.parameters;
  numbered = numbered_both (length old.tree.parameters.items) (length middle.tree.parameters.items) (length new.tree.parameters.items) first second a.numbered b.numbered;
  members = b.members ∙ a.members;
  depth = b.depth ∙ a.depth;
}

-- of what is added in one step
pub grown : (old new : Draft) (nodes : List SqlNode) (paths : List Path) (parameters : List Parameter)
    → AreNumbered (length old.tree.parameters.items) (parameters_of nodes) (length old.tree.parameters.items + length parameters)
    → GrowsBy old new nodes paths parameters → Grows old new nodes
grown old new nodes paths parameters numbered grows = record {
  nodes_are = grows.nodes_are;
  paths = (paths, grows.paths_are);
  parameters = (parameters, grows.parameters_are);
  numbered = subst (λ (n : ℕ). AreNumbered (length old.tree.parameters.items) (parameters_of nodes) n)
      (sym (ap length grows.parameters_are ∙ length-append old.tree.parameters.items parameters)) numbered;
  members = grows.members;
  depth = grows.depth;
}

pub by_node : (old new : Draft) (node : SqlNode) → named_by node ≡ [] → GrowsBy old new (node ∷ []) [] [] → Grows old new (node ∷ [])
by_node old new node plain grows = grown old new (node ∷ []) [] [] (no_parameter (length old.tree.parameters.items) node plain) grows

-- a world of the later draft is one of the earlier
pub world_before : (question : Question) (old new : Draft) (nodes : List SqlNode) (world : World) → Grows old new nodes
    → IsWorldOf question new world → IsWorldOf question old world
world_before question old new nodes world grows is = record {
  seen = is.seen;
  schema_is = is.schema_is;
  type_is = is.type_is;
  entity_is = is.entity_is;
  now_is = is.now_is;
  paths = front_of_front old.tree.paths.items new.tree.paths.items world.asked.paths grows.paths is.paths;
  parameters = front_of_front old.tree.parameters.items new.tree.parameters.items world.asked.parameters grows.parameters is.parameters;
  depth = is.depth ∙ grows.depth;
  as_many = ap length (sym grows.members) ∙ is.as_many;
  members = λ k level variable at there. is.members k level variable (ap (λ (ls : List ℕ). slice_get ls k) grows.members ∙ at) there;
}

-- ---- terms

module _ (question : Question) where
  pub puts_leaf : (node : SqlNode) → arity node ≡ 0 → (old new : Draft) (Outcomes : Has) (Form : Outcome → Outcome → Type 0) → Grows old new (node ∷ [])
      → ((world : World) (o : Outcome) → IsWorldOf question new world → Outcomes world o
      → (x : Outcome) × NodeMeans world.asked world.bound node no_terms x × Form o x)
      → Puts question old new Outcomes Form
  puts_leaf node many old new Outcomes Form grows means = record { t = term node no_terms; shaped = (sym many, tt); grows = grows; says = means }

  -- one child: what comes of its outcome is what the whole says
  pub puts_one : (node : SqlNode) → arity node ≡ 1 → (Op : Outcome → Outcome → Type 0) (old middle new : Draft) (Inner Outcomes : Has) (InnerForm Form : Outcome → Outcome → Type 0)
      → ((asked : Asked) (bound : Bound) (a : Term) (x y : Outcome) → SqlMeans asked bound a x → Op x y → NodeMeans asked bound node (more_terms a no_terms) y)
      → Grows old middle (node ∷ []) → Puts question middle new Inner InnerForm
      → ((world : World) (o : Outcome) → IsWorldOf question new world → Outcomes world o
      → (i : Outcome) × Inner world i × ((x : Outcome) → InnerForm i x → (y : Outcome) × Op x y × Form o y))
      → Puts question old new Outcomes Form
  puts_one node many Op old middle new Inner Outcomes InnerForm Form means grows inner goes = record {
    t = term node (more_terms inner.t no_terms);
    shaped = (sym many, (inner.shaped, tt));
    grows = subst (Grows old new) (ap (λ (ns : List SqlNode). node ∷ ns) (sym (append-nil (nodes_of inner.t)))) (grows_then old middle new (node ∷ []) (nodes_of inner.t) grows inner.grows);
    says = λ world o is has.
        let g = goes world o is has in
        let m = inner.says world g.0 is g.1 in
        let r = g.2 m.0 m.2 in
        (r.0, means world.asked world.bound inner.t m.0 r.0 m.1 r.1, r.2);
  }

  -- two children
  pub puts_two : (node : SqlNode) → arity node ≡ 2 → (Op : Outcome → Outcome → Outcome → Type 0) (old middle next new : Draft) (Left Right Outcomes : Has)
      (LeftForm RightForm Form : Outcome → Outcome → Type 0)
      → ((asked : Asked) (bound : Bound) (a b : Term) (x y z : Outcome) → SqlMeans asked bound a x → SqlMeans asked bound b y → Op x y z
      → NodeMeans asked bound node (more_terms a (more_terms b no_terms)) z)
      → Grows old middle (node ∷ []) → Puts question middle next Left LeftForm → Puts question next new Right RightForm
      → ((world : World) (o : Outcome) → IsWorldOf question new world → Outcomes world o
      → (l : Outcome) × (r : Outcome) × Left world l × Right world r × ((x y : Outcome) → LeftForm l x → RightForm r y → (z : Outcome) × Op x y z × Form o z))
      → Puts question old new Outcomes Form
  puts_two node many Op old middle next new Left Right Outcomes LeftForm RightForm Form means grows left right goes = record {
    t = term node (more_terms left.t (more_terms right.t no_terms));
    shaped = (sym many, (left.shaped, (right.shaped, tt)));
    grows = subst (Grows old new) (ap (λ (ns : List SqlNode). node ∷ ns) (ap (λ (ns : List SqlNode). nodes_of left.t ++ ns) (sym (append-nil (nodes_of right.t)))))
        (grows_then old middle new (node ∷ []) (nodes_of left.t ++ nodes_of right.t) grows
        (grows_then middle next new (nodes_of left.t) (nodes_of right.t) left.grows right.grows));
    says = λ world o is has.
        let g = goes world o is has in
        let before = world_before question next new (nodes_of right.t) world right.grows is in
        let m = left.says world g.0 before g.2 in
        let n = right.says world g.1 is g.3 in
        let r = g.4 m.0 n.0 m.2 n.2 in
        (r.0, means world.asked world.bound left.t right.t m.0 n.0 r.0 m.1 n.1 r.1, r.2);
  }

  -- three children
  pub puts_three : (node : SqlNode) → arity node ≡ 3 → (Op : Outcome → Outcome → Outcome → Outcome → Type 0) (old middle next last new : Draft) (First Second Third Outcomes : Has)
      (FirstForm SecondForm ThirdForm Form : Outcome → Outcome → Type 0)
      → ((asked : Asked) (bound : Bound) (a b c : Term) (x y z w : Outcome) → SqlMeans asked bound a x → SqlMeans asked bound b y → SqlMeans asked bound c z → Op x y z w
      → NodeMeans asked bound node (more_terms a (more_terms b (more_terms c no_terms))) w)
      → Grows old middle (node ∷ []) → Puts question middle next First FirstForm → Puts question next last Second SecondForm → Puts question last new Third ThirdForm
      → ((world : World) (o : Outcome) → IsWorldOf question new world → Outcomes world o
      → (p : Outcome) × (q : Outcome) × (r : Outcome) × First world p × Second world q × Third world r
      × ((x y z : Outcome) → FirstForm p x → SecondForm q y → ThirdForm r z → (w : Outcome) × Op x y z w × Form o w))
      → Puts question old new Outcomes Form
  puts_three node many Op old middle next last new First Second Third Outcomes FirstForm SecondForm ThirdForm Form means grows first second third goes = record {
    t = term node (more_terms first.t (more_terms second.t (more_terms third.t no_terms)));
    shaped = (sym many, (first.shaped, (second.shaped, (third.shaped, tt))));
    grows = subst (Grows old new)
        (ap (λ (ns : List SqlNode). node ∷ (nodes_of first.t ++ (nodes_of second.t ++ ns))) (sym (append-nil (nodes_of third.t))))
        (grows_then old middle new (node ∷ []) (nodes_of first.t ++ (nodes_of second.t ++ nodes_of third.t)) grows
        (grows_then middle next new (nodes_of first.t) (nodes_of second.t ++ nodes_of third.t) first.grows
        (grows_then next last new (nodes_of second.t) (nodes_of third.t) second.grows third.grows)));
    says = λ world o is has.
        let g = goes world o is has in
        let before_last = world_before question last new (nodes_of third.t) world third.grows is in
        let before_next = world_before question next last (nodes_of second.t) world second.grows before_last in
        let m = first.says world g.0 before_next g.3 in
        let n = second.says world g.1 before_last g.4 in
        let k = third.says world g.2 is g.5 in
        let r = g.6 m.0 n.0 k.0 m.2 n.2 k.2 in
        (r.0, means world.asked world.bound first.t second.t third.t m.0 n.0 k.0 r.0 m.1 n.1 k.1 r.1, r.2);
  }

  -- another form of the same, by what is known of the outcomes
  pub puts_as : (old new : Draft) (Inner Outcomes : Has) (InnerForm Form : Outcome → Outcome → Type 0) → Puts question old new Inner InnerForm
      → ((world : World) (o : Outcome) → IsWorldOf question new world → Outcomes world o
      → (i : Outcome) × Inner world i × ((x : Outcome) → InnerForm i x → Form o x))
      → Puts question old new Outcomes Form
  puts_as old new Inner Outcomes InnerForm Form inner goes = record {
    t = inner.t;
    shaped = inner.shaped;
    grows = inner.grows;
    says = λ world o is has.
        let g = goes world o is has in
        let m = inner.says world g.0 is g.1 in
        (m.0, m.1, g.2 m.0 m.2);
  }

-- ---- results

pub on_ok : {T E : Type 0} (r : Result T E) (P Q : Type 0) → (P → Q) → OnOk r P → OnOk r Q
on_ok (Ok v) P Q goes is = goes is
on_ok (Err e) P Q goes is = tt

pub on_both : {T E : Type 0} (r : Result T E) (P Q R : Type 0) → (P → Q → R) → OnOk r P → OnOk r Q → OnOk r R
on_both (Ok v) P Q R goes p q = goes p q
on_both (Err e) P Q R goes p q = tt
