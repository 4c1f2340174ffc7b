-- An operator over operands some of which a `Let` binds.
use Rattle.sql_forms.proofs.Common.{◌≡◌, ◌++◌, ◌∷◌, [], ◌+◌, ◌-◌, ℕ, suc, List, Option, Some, None, map, length, refl, sym, ap, subst, ◌∙◌, append-nil, arith, Outcome, SqlMeans, Bound, BoundValue, bound_value, Term, nodes_of, Carrier, SqlNode, Path, Parameter, Draft, Lifted, Operand, Grows, IsFront, IsOpened, faults_front, first_fault, let_nodes, Has, IsWorldOf, Puts, PutsAll, Question, World, extended, front_of_front, grows_then, world_before, AreNumbered, parameters_of}
use Rattle.sql_outcomes.specs.private.ValueForms.{Itself}
use Rattle.sql_outcomes.proofs.nodes.Binding.{puts_let}
use Rattle.sql_outcomes.proofs.outcomes.CodeTables.{coded, Coded}
use Rattle.sql_outcomes.proofs.outcomes.FaultFronts.{after_faults, carried_faults, coded_faults, fronts_written, faults_shaped}

-- the outcome itself
abbrev pub Same : Outcome → Outcome → Type 0
Same o f = o ≡ f

pub same_coded : (o f : Outcome) → Same o f → Coded o (coded f)
same_coded o f same = ap coded (sym same)

-- the draft with so many fewer bound
abbrev pub closed : Draft → ℕ → Draft
closed draft count = record draft { depth = draft.depth - count }

module _ (question : Question) where
  -- ---- faults of those that are bound, before what comes of the others

  -- the operands are bound from the level on, and this comes of their faults and of what is put for the others
  pub record Bindings (operands : List Operand) (level : ℕ) (Inner : Has) (InnerForm Shown Into : Outcome → Outcome → Type 0) (world : World) (o : Outcome) : Type 0 where
    pub before : List BoundValue
    pub os : List Outcome
    pub bound_are : world.bound ≡ before ++ (map bound_value os ++ [])
    pub level_is : level ≡ length before
    pub as_many : length os ≡ length operands
    pub inner : Outcome
    pub has : Inner world inner
    pub goes : (x : Outcome) → InnerForm inner x → (rest : Outcome) × Shown rest x × Into o (first_fault operands os rest)

  module _ (operands : List Operand) (level : ℕ) (opened fronted body : Draft) (Inner : Has) (InnerForm : Outcome → Outcome → Type 0) where
    pub front_grows : (carrier : Option Carrier) (t : Term) → Grows opened fronted (faults_front carrier level operands) → Grows fronted body (nodes_of t)
        → Grows opened body (nodes_of (after_faults carrier level operands t))
    front_grows carrier t front grows =
        subst (Grows opened body) (fronts_written carrier level operands t) (grows_then opened fronted body (faults_front carrier level operands) (nodes_of t) front grows)

    pub carried_put : (carrier : Carrier) → Grows opened fronted (faults_front (Some carrier) level operands) → Puts question fronted body Inner InnerForm
        → Puts question opened body (Bindings operands level Inner InnerForm Itself Same) Itself
    carried_put carrier front inner = record {
      t = after_faults (Some carrier) level operands inner.t;
      shaped = faults_shaped (Some carrier) level operands inner.t inner.shaped;
      grows = front_grows (Some carrier) inner.t front inner.grows;
      says = λ world o is has.
          let m = inner.says world has.inner is has.has in
          let g = has.goes m.0 m.2 in
          let there : SqlMeans world.asked (has.before ++ (map bound_value has.os ++ [])) inner.t g.0 =
          subst (λ (bs : Bound). SqlMeans world.asked bs inner.t g.0) has.bound_are (subst (SqlMeans world.asked world.bound inner.t) g.1 m.1) in
          let whole = carried_faults world.asked carrier has.before [] level operands has.os inner.t g.0 has.level_is has.as_many there in (
            first_fault operands has.os g.0,
            subst (λ (bs : Bound). SqlMeans world.asked bs (after_faults (Some carrier) level operands inner.t) (first_fault operands has.os g.0)) (sym has.bound_are) whole,
            sym g.2,
          );
    }

    pub coded_put : (Into Form : Outcome → Outcome → Type 0) → ((o f : Outcome) → Into o f → Form o (coded f)) → Grows opened fronted (faults_front None level operands)
        → Puts question fronted body Inner InnerForm → Puts question opened body (Bindings operands level Inner InnerForm Coded Into) Form
    coded_put Into Form shows front inner = record {
      t = after_faults None level operands inner.t;
      shaped = faults_shaped None level operands inner.t inner.shaped;
      grows = front_grows None inner.t front inner.grows;
      says = λ world o is has.
          let m = inner.says world has.inner is has.has in
          let g = has.goes m.0 m.2 in
          let there : SqlMeans world.asked (has.before ++ (map bound_value has.os ++ [])) inner.t (coded g.0) =
          subst (λ (bs : Bound). SqlMeans world.asked bs inner.t (coded g.0)) has.bound_are (subst (SqlMeans world.asked world.bound inner.t) g.1 m.1) in
          let whole = coded_faults world.asked has.before [] level operands has.os inner.t g.0 has.level_is has.as_many there in (
            coded (first_fault operands has.os g.0),
            subst (λ (bs : Bound). SqlMeans world.asked bs (after_faults None level operands inner.t) (coded (first_fault operands has.os g.0))) (sym has.bound_are) whole,
            shows o (first_fault operands has.os g.0) g.2,
          );
    }

  -- ---- the `Let`

  module _ (lifted : Lifted) (old opened body new : Draft) (Inner Outcomes : Has) (InnerForm Form : Outcome → Outcome → Type 0) (level_is : lifted.level ≡ old.depth)
      (is_opened : IsOpened lifted old opened) (inner : Puts question opened body Inner InnerForm) where
    -- nothing is bound
    pub let_none : lifted.bound.items ≡ [] → Grows (closed body (length lifted.bound.items)) new []
        → ((world : World) (o : Outcome) → IsWorldOf question new world → Outcomes world o → (i : Outcome) × Inner world i × ((x : Outcome) → InnerForm i x → Form o x))
        → Puts question old new Outcomes Form
    let_none none shut goes = record {
      t = inner.t;
      shaped = inner.shaped;
      grows = record {
        nodes_are = shut.nodes_are ∙ append-nil body.tree.nodes.items ∙ inner.grows.nodes_are ∙ ap (λ (ns : List SqlNode). ns ++ nodes_of inner.t) opened_nodes;
        paths = front_of_front old.tree.paths.items body.tree.paths.items new.tree.paths.items (subst (λ (ps : List Path). IsFront ps body.tree.paths.items) is_opened.paths_are inner.grows.paths) shut.paths;
        parameters = front_of_front old.tree.parameters.items body.tree.parameters.items new.tree.parameters.items
            (subst (λ (ps : List Parameter). IsFront ps body.tree.parameters.items) is_opened.parameters_are inner.grows.parameters) shut.parameters;
        numbered = subst (λ (n : ℕ). AreNumbered (length old.tree.parameters.items) (parameters_of (nodes_of inner.t)) n) (sym shut.numbered)
            (subst (λ (ps : List Parameter). AreNumbered (length ps) (parameters_of (nodes_of inner.t)) (length body.tree.parameters.items)) is_opened.parameters_are inner.grows.numbered);
        members = shut.members ∙ inner.grows.members ∙ is_opened.members;
        depth = shut.depth ∙ less ∙ inner.grows.depth ∙ is_opened.depth ∙ no_more;
      };
      says = λ world o is has.
          let g = goes world o is has in
          let before = world_before question (closed body (length lifted.bound.items)) new [] world shut is in
          let of_body : IsWorldOf question body world = record {
            seen = before.seen;
            schema_is = before.schema_is;
            type_is = before.type_is;
            entity_is = before.entity_is;
            now_is = before.now_is;
            paths = before.paths;
            parameters = before.parameters;
            depth = before.depth ∙ less;
            as_many = before.as_many;
            members = before.members;
          } in
          let m = inner.says world g.0 of_body g.1 in
          (m.0, m.1, g.2 m.0 m.2);
    }
      where
        empty : length lifted.bound.items ≡ 0
        empty = ap length none

        less : body.depth - length lifted.bound.items ≡ body.depth
        less = omega (arith, empty)

        no_more : old.depth + length lifted.bound.items ≡ old.depth
        no_more = omega (arith, empty)

        opened_nodes : opened.tree.nodes.items ≡ old.tree.nodes.items
        opened_nodes = is_opened.nodes_are ∙ ap (λ (n : ℕ). old.tree.nodes.items ++ let_nodes lifted.level n) empty ∙ append-nil old.tree.nodes.items

    -- some are bound
    pub let_some : (first : Operand) (rest : List Operand) → lifted.bound.items ≡ first ∷ rest → (Values : World → List Outcome → Type 0)
        → PutsAll question (closed body (length lifted.bound.items)) new Values (length lifted.bound.items)
        → ((world : World) (o : Outcome) → IsWorldOf question new world → Outcomes world o
        → (os : List Outcome) × Values world os × (length os ≡ length lifted.bound.items) × (i : Outcome) × Inner (extended world (map bound_value os)) i × ((x : Outcome) → InnerForm i x → Form o x))
        → Puts question old new Outcomes Form
    let_some first rest some Values values goes =
        puts_let question lifted.level (length lifted.bound.items) old opened body (closed body (length lifted.bound.items)) new Values Inner Outcomes InnerForm Form level_is opened_nodes
        is_opened.paths_are is_opened.parameters_are is_opened.members is_opened.depth inner refl refl shut_depth values goes
      where
        count : length lifted.bound.items ≡ suc (length rest)
        count = ap length some

        opened_nodes : opened.tree.nodes.items ≡ old.tree.nodes.items ++ SqlNode.Let lifted.level (length lifted.bound.items) ∷ []
        opened_nodes =
            is_opened.nodes_are ∙ ap (λ (n : ℕ). old.tree.nodes.items ++ let_nodes lifted.level n) count
            ∙ ap (λ (n : ℕ). old.tree.nodes.items ++ SqlNode.Let lifted.level n ∷ []) (sym count)

        shut_depth : body.depth - length lifted.bound.items ≡ old.depth
        shut_depth = let within : body.depth ≡ old.depth + length lifted.bound.items = inner.grows.depth ∙ is_opened.depth in omega (arith, within)
