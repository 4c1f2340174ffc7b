-- Worlds at the members of collections, and what a lambda operator evaluates to by what its body does there.
use Rattle.sql_outcomes.proofs.Common.{◌≡◌, ◌⊎◌, inl, inr, ◌<◌, ◌≤◌, ◌+◌, ◌++◌, ◌∷◌, [], ℕ, zero, suc, List, Some, None, length, reverse, refl, sym, ap, subst, ◌∙◌, arith, length-append, slice_get, AllByRecursion, cases_lt, length-reverse, reverse-append, IsMoment, Val, Vals, item, items, no_items, null, ExprType, SingleType, collection, single, SchemaModel, Slots, slots_of, type_name_at, AllHaveType, HasType, value_of, Tree, lambda, node, Quantifier, OneType, Scope, Typed, Stands, CheckedNode, NodeKind, EndsOnceOnEntities, bound_over, scope_of, Means, HasKind, body_stands, goes_there, there_found, members_of, LambdaGives, MemberGives, Then, Outcome, gives, QuantifierGives, undecided_val, AreKept, IsKept, ComesKept, IsPathType, BoundValue, bound_member, SqlTree, Draft, IsFront, AtMembers, ComesToOne, IsBodyOf, IsStopAt, LambdaHas, OfTree, at_member, IsAskedOf, IsWorldOf, OfPlace, Question, StandsAt, World, MeansOf, means_in, means_of, by_kind}
use Rattle.odata_signatures.specs.Typed.{Variable as RangeVariable}
use Rattle.odata_meaning.specs.Environment.{Bound as Variable}
use Rattle.sql_outcomes.proofs.nodes.Binding.{at_last, found, stays}
use Rattle.sql_outcomes.proofs.nodes.TypedValues.{has_type}
use Rattle.sql_outcomes.proofs.nodes.WorldNodes.{ends_there}
use Rattle.sql_outcomes.proofs.outcomes.Elements.{at_all}

-- names and paths evaluate to values as rows keep them
abbrev pub PathsAreKept : Question → Type 0
PathsAreKept question =
    (world : World) (seen : IsAskedOf question world) (tree : Tree) (type : ExprType) (o : Outcome) → IsPathType type
    → Typed (slots_of question.filter.schema) (type_name_at question.filter.schema question.filter.filtered) (scope_of world.environment) tree type
    → MeansOf question world seen tree o → ComesKept (slots_of world.row.schema) type o

-- ---- the world at a member

before_last : {A : Type 0} (xs : List A) (x : A) (k : ℕ) → k < length xs → slice_get (xs ++ x ∷ []) k ≡ slice_get xs k
before_last [] x k below = absurd (omega (arith, below))
before_last (y ∷ xs) x zero below = refl
before_last (y ∷ xs) x (suc k) below = let e : k < length xs = omega (arith, below) in before_last xs x k e

past_last : {A : Type 0} (xs : List A) (x y : A) (k : ℕ) → length xs ≤ k → slice_get (xs ++ x ∷ []) k ≡ Some y → (k ≡ length xs) × (x ≡ y)
past_last [] x y zero beyond is = (refl, (let same : Some x ≡ Some y = is in cc))
past_last [] x y (suc k) beyond is = let none : None ≡ Some y = is in absurd (cc)
past_last (z ∷ xs) x y zero beyond is = absurd (omega (arith, beyond))
past_last (z ∷ xs) x y (suc k) beyond is =
    let further : length xs ≤ k = omega (arith, beyond) in
    let p = past_last xs x y k further is in
    let count : k ≡ length xs = p.0 in
    (omega (arith, count), p.1)

module _ (question : Question) (outer inner : Draft) (is_body : IsBodyOf outer inner) (world : World) (variable : RangeVariable) (place : ℕ) (v : Val)
    (typed : HasType (slots_of world.row.schema) variable.type_of v) (kept : IsKept (slots_of world.row.schema) variable.type_of v) (is : IsWorldOf question outer world) where
  many : length (reverse world.environment) ≡ length outer.members.items
  many = length-reverse world.environment ∙ sym is.as_many

  stands_further : (level : ℕ) (other : Variable) → StandsAt world.bound level other → StandsAt (world.bound ++ bound_member place v ∷ []) level other
  stands_further level other at =
      let b = found (slice_get world.bound level) (λ (c : BoundValue). c.value ≡ gives other.value) at in
      there_found (λ (c : BoundValue). c.value ≡ gives other.value) (slice_get (world.bound ++ bound_member place v ∷ []) level) b.0 (stays world.bound (bound_member place v ∷ []) level b.0 b.1) b.2

  -- the variables around stand where they did, and this one at the new level
  stand : (k level : ℕ) (other : Variable) → slice_get inner.members.items k ≡ Some level
      → slice_get (reverse (record { variable = variable; value = v } ∷ world.environment)) k ≡ Some other → StandsAt (world.bound ++ bound_member place v ∷ []) level other
  stand k level other at there = by (cases_lt k (length outer.members.items))
    where
      at_inner : slice_get (outer.members.items ++ outer.depth ∷ []) k ≡ Some level
      at_inner = ap (λ (xs : List ℕ). slice_get xs k) (sym is_body.members) ∙ at

      there_inner : slice_get (reverse world.environment ++ record { variable = variable; value = v } ∷ []) k ≡ Some other
      there_inner = ap (λ (xs : List Variable). slice_get xs k) (sym (reverse-append (record { variable = variable; value = v } ∷ []) world.environment)) ∙ there

      by : (k < length outer.members.items) ⊎ (length outer.members.items ≤ k) → StandsAt (world.bound ++ bound_member place v ∷ []) level other
      by (inl below) =
          let also : k < length (reverse world.environment) = omega (arith, below, many) in
          stands_further level other
          (is.members k level other (sym (before_last outer.members.items outer.depth k below) ∙ at_inner)
          (sym (before_last (reverse world.environment) (record { variable = variable; value = v }) k also) ∙ there_inner))
      by (inr beyond) =
          let also : length (reverse world.environment) ≤ k = omega (arith, beyond, many) in
          let l = past_last outer.members.items outer.depth level k beyond at_inner in
          let o = past_last (reverse world.environment) (record { variable = variable; value = v }) other k also there_inner in
          let depth : length world.bound ≡ level = is.depth ∙ l.1 in
          there_found (λ (c : BoundValue). c.value ≡ gives other.value) (slice_get (world.bound ++ bound_member place v ∷ []) level) (bound_member place v)
          (ap (λ (n : ℕ). slice_get (world.bound ++ bound_member place v ∷ []) n) (sym depth) ∙ at_last world.bound (bound_member place v))
          (ap (λ (w : Variable). gives w.value) o.1)

  pub world_at_member : IsWorldOf question inner (at_member world variable place v)
  world_at_member = record {
    seen = record { row_is = is.seen.row_is; moment_is = is.seen.moment_is; fitting = (typed, is.seen.fitting); kept = (kept, is.seen.kept) };
    schema_is = is.schema_is;
    type_is = is.type_is;
    entity_is = is.entity_is;
    now_is = is.now_is;
    paths = subst (λ (tree : SqlTree). IsFront tree.paths.items world.asked.paths) (sym is_body.tree) is.paths;
    parameters = subst (λ (tree : SqlTree). IsFront tree.parameters.items world.asked.parameters) (sym is_body.tree) is.parameters;
    depth = length-append world.bound (bound_member place v ∷ []) ∙ ap (λ (n : ℕ). n + 1) is.depth ∙ sym is_body.depth;
    as_many = ap length is_body.members ∙ length-append outer.members.items (outer.depth ∷ []) ∙ one_more;
    members = stand;
  }
    where
      one_more : length outer.members.items + 1 ≡ length (record { variable = variable; value = v } ∷ world.environment)
      one_more = let count : length outer.members.items ≡ length world.environment = is.as_many in omega (arith, count)

-- ---- what a lambda operator evaluates to

map_places : (quantifier : Quantifier) (count : ℕ) (At Other : ℕ → Outcome → Type 0) (o : Outcome) → ((k : ℕ) (p : Outcome) → At k p → Other k p)
    → QuantifierGives quantifier count At o → QuantifierGives quantifier count Other o
map_places quantifier count At Other o goes (inl decides) = inl (record {
  place = decides.place;
  here = (decides.here.0, (goes decides.place decides.here.0 decides.here.1.0, decides.here.1.1));
  earlier = λ k before. let p = decides.earlier k before in (p.0, goes k (gives p.0) p.1, p.2);
})
map_places quantifier count At Other o goes (inr passes) = inr (record {
  each = λ k below. let p = passes.each k below in (p.0, goes k (gives p.0) p.1, p.2);
  is = passes.is;
})

pub all_typed : (schema : SchemaModel) (type : SingleType) (values : Vals) → AllHaveType (slots_of schema) type values → AllByRecursion (λ (v : Val). HasType (slots_of schema) (single type) v) (members_of values)
all_typed schema type no_items all = tt
all_typed schema type (item v values) all = (all.0, all_typed schema type values all.1)

all_kept : (schema : SchemaModel) (type : SingleType) (values : Vals) → AreKept (slots_of schema) type values → AllByRecursion (λ (v : Val). IsKept (slots_of schema) (single type) v) (members_of values)
all_kept schema type no_items all = tt
all_kept schema type (item v values) all = (all.0, all_kept schema type values all.1)

module _ (question : Question) (types : OneType) (ends : EndsOnceOnEntities) (is_moment : IsMoment question.now.civil question.now.offset_minutes) (paths : PathsAreKept question)
    (quantifier : Quantifier) (place : ℕ) (here : HasKind question.filter.list place (NodeKind.Lambda quantifier)) (world : World) (seen : IsAskedOf question world) where
  abbrev slots : Slots
  slots = slots_of question.filter.schema

  abbrev root : List ℕ
  root = type_name_at question.filter.schema question.filter.filtered

  abbrev scope : Scope
  scope = scope_of world.environment

  module _ (o : Outcome) (stop from to : ℕ) (base : Tree) (asked : List ℕ) (body : Tree)
      (stands : Stands question.filter.schema question.filter.filtered scope question.filter.list place stop (node from to (lambda quantifier base asked body))) where
    abbrev member_type : SingleType
    member_type = stands.top.typed.member_type

    over : Typed slots root scope base (collection member_type)
    over = stands.top.typed.binds.over

    abbrev middle : ℕ
    middle = stands.children.middle

    abbrev variable : RangeVariable
    variable = record { name = asked; type_of = single member_type }

    stops : IsStopAt question.filter (place + 1) middle
    stops = base_stop base stands.children.left
      where
        base_stop : (tree : Tree) → Stands question.filter.schema question.filter.filtered scope question.filter.list (place + 1) middle tree → IsStopAt question.filter (place + 1) middle
        base_stop (node start end shape) standing =
            there_found (λ (n : CheckedNode). n.stop ≡ middle) (slice_get question.filter.list.nodes (place + 1)) standing.top.found standing.top.stands_at standing.top.last

    of_base : (v : Val) → MeansOf question world seen base (gives v) → OfPlace question.filter (place + 1) world (gives v)
    of_base v means = (base, record { stop = middle; stands = stands.children.left }, means_in question world seen base (gives v) means)

    standing : Stands question.filter.schema question.filter.filtered (variable ∷ scope) question.filter.list middle stop body
    standing =
        let within = body_stands question.filter.schema question.filter.filtered scope question.filter.list middle stop base asked body stands.children.right in
        let here_type : within.member_type ≡ member_type =
        cc (types slots root scope base (collection within.member_type) (collection member_type) within.binds.over over) in
        subst (λ (t : SingleType). Stands question.filter.schema question.filter.filtered (record { name = asked; type_of = single t } ∷ scope) question.filter.list middle stop body) here_type within.body

    -- the body at a member
    body_at : (type : SingleType) → Typed slots root scope base (collection type) → (k : ℕ) (v : Val) (p : Outcome)
        → Means slots root world.now (value_of world.row) (bound_over world.environment asked (single type) v) body p → OfTree question.filter middle body (at_member world variable k v) p
    body_at type typed k v p means =
        let same : type ≡ member_type = cc (types slots root scope base (collection type) (collection member_type) typed over) in (
          record { stop = stop; stands = standing },
          subst (λ (n : ℕ). Means (slots_of world.row.schema) (type_name_at world.row.schema n) world.now (value_of world.row) (bound_over world.environment asked (single member_type) v) body p) (sym seen.row_is.type_is)
              (subst (λ (s : SchemaModel). Means (slots_of s) (type_name_at s question.filter.filtered) world.now (value_of world.row) (bound_over world.environment asked (single member_type) v) body p) (sym seen.row_is.schema_is)
              (subst (λ (t : SingleType). Means slots root world.now (value_of world.row) (bound_over world.environment asked (single t) v) body p) same means)),
        )

    each_one : (k : ℕ) (v : Val) → HasType (slots_of world.row.schema) (single member_type) v → IsKept (slots_of world.row.schema) (single member_type) v
        → ComesToOne (OfTree question.filter middle body (at_member world variable k v))
    each_one k v typed kept = of_tree body standing
      where
        of_tree : (tree : Tree) → Stands question.filter.schema question.filter.filtered (variable ∷ scope) question.filter.list middle stop tree
            → ComesToOne (OfTree question.filter middle tree (at_member world variable k v))
        of_tree (node start end shape) there =
            let e = ends_there question ends is_moment (at_member world variable k v) (record { row_is = seen.row_is; moment_is = seen.moment_is; fitting = (typed, seen.fitting); kept = (kept, seen.kept) }) middle there.top.found there.top.stands_at stop (node start end shape) there in
            record { outcome = e.outcome; related = (record { stop = stop; stands = there }, e.related); only = λ other has. e.only other has.1 }

    over_value : (v : Val) → MeansOf question world seen base (gives v) → HasType (slots_of world.row.schema) (collection member_type) v → IsKept (slots_of world.row.schema) (collection member_type) v
        → LambdaGives quantifier (Typed slots root scope base) (λ type w. Means slots root world.now (value_of world.row) (bound_over world.environment asked type w) body) v o
        → LambdaHas question.filter quantifier place world o
    over_value null means has kept given = record {
      whole_outcome = gives (undecided_val quantifier);
      over = record {
        body = middle;
        is_body = stops;
        tree = body;
        variable = variable;
        collection = null;
        members = [];
        has = of_base null means;
        are = refl;
        typed = tt;
        kept = tt;
        each = λ k v at. let none : None ≡ Some v = at in absurd (cc);
        given = inr (record { each = λ k below. absurd (omega (arith, below)); is = refl });
      };
      is = given;
    }
    over_value (items values) means has kept given = record {
      whole_outcome = o;
      over = record {
        body = middle;
        is_body = stops;
        tree = body;
        variable = variable;
        collection = items values;
        members = members_of values;
        has = of_base (items values) means;
        are = refl;
        typed = all_typed world.row.schema member_type values has;
        kept = all_kept world.row.schema member_type values kept.1;
        each = λ k v at.
            each_one k v (at_all (λ (w : Val). HasType (slots_of world.row.schema) (single member_type) w) (members_of values) k v (all_typed world.row.schema member_type values has) at)
            (at_all (λ (w : Val). IsKept (slots_of world.row.schema) (single member_type) w) (members_of values) k v (all_kept world.row.schema member_type values kept.1) at);
        given =
            map_places quantifier (length (members_of values))
            (MemberGives (λ w. Means slots root world.now (value_of world.row) (bound_over world.environment asked (single given.0) w) body) values)
            (AtMembers question.filter middle body world variable (members_of values)) o
            (λ k p at. goes_there (slice_get (members_of values) k) (λ (w : Val). Means slots root world.now (value_of world.row) (bound_over world.environment asked (single given.0) w) body p)
            (λ (w : Val). OfTree question.filter middle body (at_member world variable k w) p) (λ w means_w. body_at given.0 given.1 k w p means_w) at) given.2;
      };
      is = refl;
    }
    over_value _ means has kept given = absurd given

    lambda_there : MeansOf question world seen (node from to (lambda quantifier base asked body)) o → LambdaHas question.filter quantifier place world o
    lambda_there means =
        let kept = paths world seen base (collection member_type) means.0 tt over means.1.0 in
        let base_means : MeansOf question world seen base (gives kept.0) = subst (MeansOf question world seen base) kept.1 means.1.0 in
        over_value kept.0 base_means (has_type question ends is_moment world seen base (collection member_type) kept.0 over base_means) kept.2
        (subst
        (λ (first : Outcome). Then first (LambdaGives quantifier (Typed slots root scope base) (λ type w. Means slots root world.now (value_of world.row) (bound_over world.environment asked type w) body)) o)
        kept.1 means.1.1)

  pub lambda_comes : (o : Outcome) → OfPlace question.filter place world o → LambdaHas question.filter quantifier place world o
  lambda_comes o has =
      by_kind question.filter.schema question.filter.filtered scope question.filter.list place (NodeKind.Lambda quantifier) here
      (λ stop tree. MeansOf question world seen tree o → LambdaHas question.filter quantifier place world o)
      (λ base asked body stop from to stands means. lambda_there o stop from to base asked body stands means)
      has.1.stop has.0 has.1.stands (means_of question world seen has.0 o has.2)
