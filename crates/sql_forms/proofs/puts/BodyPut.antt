-- What is put over each member of a collection: `EXISTS` over bodies that evaluate to truth values.
use Rattle.sql_forms.proofs.Common.{◌≡◌, ◌+◌, ◌++◌, ◌∷◌, [], ℕ, suc, List, Bool, true, false, Option, Some, None, length, map, refl, sym, ap, subst, ◌∙◌, arith, slice_get, AllByRecursion, Val, boolean, slots_of, HasType, Tree, Quantifier, Filter, found_there, Outcome, gives, IsKept, AtEach, truth, NodeMeans, SqlMeans, Asked, Bound, bound_member, Term, no_terms, more_terms, nodes_of, SqlNode, SqlTree, Draft, Grows, IsFront, AtMembers, IsBodyOf, OfTree, OverHas, PutsBody, at_member, IsPathTo, Has, IsWorldOf, OfPlace, Puts, Question, Says, World, grows_then, puts_one, AreNumbered, parameters_of, arity}
use Rattle.sql_outcomes.specs.private.ValueForms.{Itself}
use Rattle.sql_outcomes.proofs.outcomes.Apart.{false_true, none_true}
use Rattle.odata_signatures.specs.Typed.{Variable as RangeVariable}
use Rattle.sql_outcomes.proofs.nodes.MemberWorlds.{world_at_member}
use Rattle.sql_outcomes.proofs.outcomes.Quantified.{any_true}
use Rattle.sql_forms.proofs.puts.ExistsOver.{exists_over}

-- ---- a body among drafts

no_end : (ys : List ℕ) (y : ℕ) → [] ≡ ys ++ y ∷ [] → ⊥
no_end [] y is = cc
no_end (z ∷ ys) y is = cc

pub init_same : (xs ys : List ℕ) (x y : ℕ) → xs ++ x ∷ [] ≡ ys ++ y ∷ [] → xs ≡ ys
init_same [] [] x y is = refl
init_same [] (z ∷ ys) x y is = let rest : [] ≡ ys ++ y ∷ [] = cc in absurd (no_end ys y rest)
init_same (z ∷ xs) [] x y is = let rest : xs ++ x ∷ [] ≡ [] = cc in absurd (no_end xs x (sym rest))
init_same (z ∷ xs) (w ∷ ys) x y is =
    let first : z ≡ w = cc in
    let rest : xs ++ x ∷ [] ≡ ys ++ y ∷ [] = cc in
    ap (λ (v : ℕ). v ∷ xs) first ∙ ap (λ (vs : List ℕ). w ∷ vs) (init_same xs ys x y rest)

module _ (question : Question) where
  pub body_grows : (old new : Draft) (Outcomes : Has) (Form : Outcome → Outcome → Type 0) (b : PutsBody question old new Outcomes Form) → Grows old new (nodes_of b.put.t)
  body_grows old new Outcomes Form b = record {
    nodes_are = ap (λ (tree : SqlTree). tree.nodes.items) (sym b.ends.tree) ∙ b.put.grows.nodes_are ∙ ap (λ (tree : SqlTree). tree.nodes.items ++ nodes_of b.put.t) b.begins.tree;
    paths = subst (λ (tree : SqlTree). IsFront tree.paths.items new.tree.paths.items) b.begins.tree (subst (λ (tree : SqlTree). IsFront b.before.tree.paths.items tree.paths.items) b.ends.tree b.put.grows.paths);
    parameters = subst (λ (tree : SqlTree). IsFront tree.parameters.items new.tree.parameters.items) b.begins.tree
        (subst (λ (tree : SqlTree). IsFront b.before.tree.parameters.items tree.parameters.items) b.ends.tree b.put.grows.parameters);
    numbered = subst (λ (tree : SqlTree). AreNumbered (length tree.parameters.items) (parameters_of (nodes_of b.put.t)) (length new.tree.parameters.items)) b.begins.tree
        (subst (λ (tree : SqlTree). AreNumbered (length b.before.tree.parameters.items) (parameters_of (nodes_of b.put.t)) (length tree.parameters.items)) b.ends.tree b.put.grows.numbered);
    members = init_same new.members.items old.members.items new.depth old.depth (sym b.ends.members ∙ b.put.grows.members ∙ b.begins.members);
    depth = (let same : new.depth + 1 ≡ old.depth + 1 = sym b.ends.depth ∙ b.put.grows.depth ∙ b.begins.depth in omega (arith, same));
  }

  -- a node more around a body
  pub body_after : (node : SqlNode) → arity node ≡ 1 → (Op : Outcome → Outcome → Type 0) (old middle new : Draft) (Outcomes : Has) (Inner Form : Outcome → Outcome → Type 0)
      → ((asked : Asked) (bound : Bound) (a : Term) (x y : Outcome) → SqlMeans asked bound a x → Op x y → NodeMeans asked bound node (more_terms a no_terms) y)
      → Grows old middle (node ∷ []) → ((o x : Outcome) → Inner o x → (y : Outcome) × Op x y × Form o y) → PutsBody question middle new Outcomes Inner → PutsBody question old new Outcomes Form
  body_after node many Op old middle new Outcomes Inner Form means grows goes b = record {
    before = record b.before { tree = old.tree };
    after = b.after;
    begins = record {
      tree = refl;
      members = b.begins.members ∙ ap (λ (xs : List ℕ). xs ++ middle.depth ∷ []) grows.members ∙ ap (λ (n : ℕ). old.members.items ++ n ∷ []) grows.depth;
      depth = b.begins.depth ∙ ap (λ (n : ℕ). n + 1) grows.depth;
    };
    ends = b.ends;
    put =
        puts_one question node many Op (record b.before { tree = old.tree }) b.before b.after Outcomes Outcomes Inner Form means
        (record {
          nodes_are = ap (λ (tree : SqlTree). tree.nodes.items) b.begins.tree ∙ grows.nodes_are;
          paths = subst (λ (tree : SqlTree). IsFront old.tree.paths.items tree.paths.items) (sym b.begins.tree) grows.paths;
          parameters = subst (λ (tree : SqlTree). IsFront old.tree.parameters.items tree.parameters.items) (sym b.begins.tree) grows.parameters;
          numbered = subst (λ (tree : SqlTree). AreNumbered (length old.tree.parameters.items) (parameters_of (node ∷ [])) (length tree.parameters.items)) (sym b.begins.tree) grows.numbered;
          members = refl;
          depth = refl;
        })
        b.put (λ world o is has. (o, has, goes o));
  }

-- ---- truth values that are true together

pub record AreAlikeTruths (a t : Option Bool) : Type 0 where
  pub into : t ≡ Some true → a ≡ Some true
  pub out : a ≡ Some true → t ≡ Some true

abbrev pub AllAlike : (Option Bool → Option Bool) → List (Option Bool) → List (Option Bool) → Type 0
AllAlike f [] [] = Unit {0}
AllAlike f (u ∷ us) (t ∷ ts) = AreAlikeTruths (f u) t × AllAlike f us ts
AllAlike f us ts = ⊥

one_alike : (a t : Option Bool) (bs ts : List (Option Bool)) → AreAlikeTruths a t → any_true ts ≡ any_true bs → any_true (t ∷ ts) ≡ any_true (a ∷ bs)
one_alike (Some true) (Some true) bs ts alike rest = refl
one_alike (Some true) (Some false) bs ts alike rest = absurd (false_true (alike.out refl))
one_alike (Some true) None bs ts alike rest = absurd (none_true (alike.out refl))
one_alike (Some false) (Some true) bs ts alike rest = absurd (false_true (alike.into refl))
one_alike None (Some true) bs ts alike rest = absurd (none_true (alike.into refl))
one_alike _ _ bs ts alike rest = rest

pub same_any : (f : Option Bool → Option Bool) (us ts : List (Option Bool)) → AllAlike f us ts → any_true ts ≡ any_true (map f us)
same_any f [] [] alike = refl
same_any f [] (t ∷ ts) alike = absurd alike
same_any f (u ∷ us) [] alike = absurd alike
same_any f (u ∷ us) (t ∷ ts) alike = one_alike (f u) t (map f us) ts alike.0 (same_any f us ts alike.1)

-- ---- bodies at the members

-- the body evaluates to these truth values at the members
pub record AreTruthsAt (At : ℕ → Outcome → Type 0) (members : List Val) (us : List (Option Bool)) : Type 0 where
  pub many : length us ≡ length members
  pub each : (k : ℕ) (u : Option Bool) → slice_get us k ≡ Some u → At k (truth u)

-- whether what is made of a truth value of the body is true at some member
pub record SomeHas (filter : Filter) (f : Option Bool → Option Bool) (place body : ℕ) (world : World) (o : Outcome) : Type 0 where
  pub quantifier : Quantifier
  pub whole : Outcome
  pub over : OverHas filter quantifier place world whole
  pub is_body : over.body ≡ body
  pub us : List (Option Bool)
  pub truths : AreTruthsAt (AtMembers filter over.body over.tree world over.variable over.members) over.members us
  pub is : o ≡ gives (boolean (any_true (map f us)))

module _ (question : Question) (new after : Draft) (ends : IsBodyOf new after) (body : ℕ) (F : Outcome → Outcome → Type 0) (f : Option Bool → Option Bool) (t : Term)
    (says : Says question after (OfPlace question.filter body) F t) (truths : (u : Option Bool) (x : Outcome) → F (truth u) x → (s : Option Bool) × (x ≡ truth s) × AreAlikeTruths (f u) s)
    (world : World) (is : IsWorldOf question new world) (tree : Tree) (variable : RangeVariable) where
  abbrev Body : ℕ → Val → Outcome → Type 0
  Body place v = SqlMeans world.asked (world.bound ++ bound_member place v ∷ []) t

  record Bodies (start : ℕ) (vs : List Val) (us : List (Option Bool)) : Type 0 where
    ts : List (Option Bool)
    at_each : AtEach Body start vs (map truth ts)
    alike : AllAlike f us ts

  bodies : (start : ℕ) (vs : List Val) (us : List (Option Bool)) → length us ≡ length vs
      → ((k : ℕ) (v : Val) (u : Option Bool) → slice_get vs k ≡ Some v → slice_get us k ≡ Some u → OfTree question.filter body tree (at_member world variable (start + k) v) (truth u))
      → AllByRecursion (λ (v : Val). HasType (slots_of world.row.schema) variable.type_of v) vs → AllByRecursion (λ (v : Val). IsKept (slots_of world.row.schema) variable.type_of v) vs → Bodies start vs us
  bodies start [] [] many each typed kept = record { ts = []; at_each = refl; alike = tt }
  bodies start [] (u ∷ us) many each typed kept = absurd (cc)
  bodies start (v ∷ vs) [] many each typed kept = absurd (cc)
  bodies start (v ∷ vs) (u ∷ us) many each typed kept =
      let fewer : length us ≡ length vs = cc in
      let no_more : start + 0 ≡ start = omega arith in
      let here : OfTree question.filter body tree (at_member world variable start v) (truth u) =
      subst (λ (k : ℕ). OfTree question.filter body tree (at_member world variable k v) (truth u)) no_more (each 0 v u refl refl) in
      let inside = world_at_member question new after ends world variable start v typed.0 kept.0 is in
      let m = says (at_member world variable start v) (truth u) inside (tree, here.0, here.1) in
      let s = truths u m.0 m.2 in
      let rest = bodies (start + 1) vs us fewer (λ k w x at_v at_u.
      let next : start + suc k ≡ start + 1 + k = omega arith in
      subst (λ (n : ℕ). OfTree question.filter body tree (at_member world variable n w) (truth x)) next (each (suc k) w x at_v at_u)) typed.1 kept.1 in
      record { ts = s.0 ∷ rest.ts; at_each = (subst (Body start v) s.1 m.1, rest.at_each); alike = (s.2, rest.alike) }

module _ (question : Question) (f : Option Bool → Option Bool) (F : Outcome → Outcome → Type 0)
    (truths : (u : Option Bool) (x : Outcome) → F (truth u) x → (s : Option Bool) × (x ≡ truth s) × AreAlikeTruths (f u) s) (place body path level : ℕ) (old middle new : Draft) (level_is : level ≡ old.depth)
    (grows : Grows old middle (SqlNode.Exists path level ∷ [])) (leads : IsPathTo question old (place + 1) path) (b : PutsBody question middle new (OfPlace question.filter body) F) where
  all_grows : Grows old new (SqlNode.Exists path level ∷ nodes_of b.put.t)
  all_grows = grows_then old middle new (SqlNode.Exists path level ∷ []) (nodes_of b.put.t) grows (body_grows question middle new (OfPlace question.filter body) F b)

  at_place : (world : World) (o : Outcome) (has : SomeHas question.filter f place body world o) (k : ℕ) (v : Val) (u : Option Bool) → slice_get has.over.members k ≡ Some v → slice_get has.us k ≡ Some u
      → OfTree question.filter body has.over.tree (at_member world has.over.variable (0 + k) v) (truth u)
  at_place world o has k v u at_v at_u =
      let same : k ≡ 0 + k = omega arith in
      subst (λ (n : ℕ). OfTree question.filter body has.over.tree (at_member world has.over.variable n v) (truth u)) same
      (subst (λ (n : ℕ). OfTree question.filter n has.over.tree (at_member world has.over.variable k v) (truth u)) has.is_body
      (found_there (λ (w : Val). OfTree question.filter has.over.body has.over.tree (at_member world has.over.variable k w) (truth u)) (slice_get has.over.members k) v at_v (has.truths.each k u at_u)))

  pub exists_put : Puts question old new (SomeHas question.filter f place body) Itself
  exists_put = exists_over question (place + 1) path level old new b.put.t b.put.shaped level_is leads all_grows (SomeHas question.filter f place body) Itself
      (λ world o is has.
      let found = bodies question new b.after b.ends body F f b.put.t b.put.says truths world is has.over.tree has.over.variable 0 has.over.members has.us has.truths.many (at_place world o has) has.over.typed has.over.kept in
      record { c = has.over.collection; members = has.over.members; has = has.over.has; are = has.over.are; ts = found.ts; at_each = found.at_each; form = ap (λ (answer : Bool). gives (boolean answer)) (same_any f has.us found.ts found.alike) ∙ sym has.is })
