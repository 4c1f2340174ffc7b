-- Nodes of an expansion, and the paths that lead to them.
use Rattle.std.proofs.Common.{◌≡◌, ℕ, zero, suc, ◌+◌, ◌-◌, ◌<◌, ◌≤◌, ◌⊎◌, ◌↔◌, List, [], ◌∷◌, ◌++◌, Bool, true, false, true≢false, ◌&&◌, cond, Option, Some, None, inl, inr, option_map, map, length, get_or, slice_get, nat_eq, nat_lt, ltb-true, ltb-false, refl, sym, ap, ◌∙◌, subst, arith, eqb-true, append-nil}
use Rattle.std.proofs.lemmas.Option.{slice_get-map, slice_get_read}
use Rattle.std.specs.Cmp.Lexicographic.{pointwise, bytes_decides, pointwise_decides}
use Rattle.odata_expansion.specs.PathSet.{PropertyPath, Covers, is_path}
use Rattle.odata_expansion.specs.ExpansionView.{StepModel, goes_on, next_from, next_node, is_needed_step, is_needed_at, paths_at, paths_in, LeadsTo, node_at}
use Rattle.odata_expansion.specs.declared.steps.Step.{Step}
use Rattle.odata_expansion.specs.private.StepView.{AreSteps, LeadsBack, onto, step_model}

-- ---- truth values

pub both_true : (a b : Bool) → (a && b) ≡ true → (a ≡ true) × (b ≡ true)
both_true true b is = (refl, is)
both_true false b is = absurd (cc)

pub same_truth : (a b : Bool) → (a ≡ true → b ≡ true) → (b ≡ true → a ≡ true) → a ≡ b
same_truth true b to from = sym (to refl)
same_truth false true to from = from refl
same_truth false false to from = refl

pub not_both : (a : Bool) → a ≡ false → a ≡ true → ⊥
not_both a off on = absurd (cc)

-- ---- paths as lists

pub path_decides : (p q : PropertyPath) → (is_path p q ≡ true → p ≡ q) × (p ≡ q → is_path p q ≡ true)
path_decides = pointwise_decides bytes_decides

pub onto_twice : (names path rest : PropertyPath) → onto (onto names path) rest ≡ onto path (names ++ rest)
onto_twice [] path rest = refl
onto_twice (name ∷ names) path rest = onto_twice names (name ∷ path) rest

pub onto_back : (path : PropertyPath) → onto (onto path []) [] ≡ path
onto_back path = onto_twice path [] [] ∙ append-nil path

pub onto-append : (names path rest : PropertyPath) → onto names (path ++ rest) ≡ onto names path ++ rest
onto-append [] path rest = refl
onto-append (name ∷ names) path rest = onto-append names (name ∷ path) rest

-- ---- steps

-- a step that is found stands in its place, starts from the node and has the name
pub record IsFound (k : ℕ) (steps : List StepModel) (node : ℕ) (name : List ℕ) (next : ℕ) : Type 0 where
  pub index : ℕ
  pub step : StepModel
  pub stands_at : slice_get steps index ≡ Some step
  pub leads : next ≡ suc (k + index)
  pub starts : step.before ≡ node
  pub named : step.name ≡ name

pub found_at : (k : ℕ) (steps : List StepModel) (node : ℕ) (name : List ℕ) (next : ℕ) → next_from k steps node name ≡ Some next → IsFound k steps node name next
found_at k [] node name next is = absurd (cc)
found_at k (s ∷ steps) node name next is = by (goes_on s node name) refl is (found_at (suc k) steps node name next)
  where
    by : (b : Bool) → goes_on s node name ≡ b → cond b (Some (suc k)) (next_from (suc k) steps node name) ≡ Some next
        → (next_from (suc k) steps node name ≡ Some next → IsFound (suc k) steps node name next) → IsFound k (s ∷ steps) node name next
    by true goes here further =
        let parts = both_true (nat_eq s.before node) (pointwise nat_eq s.name name) goes in
        let one : suc k ≡ next = cc in
        record { index = 0; step = s; stands_at = refl; leads = omega arith; starts = eqb-true _ _ parts.0; named = (bytes_decides s.name name).0 parts.1 }
    by false goes there further =
        let later = further there in
        record { index = suc later.index; step = later.step; stands_at = later.stands_at; leads = omega (arith, later.leads); starts = later.starts; named = later.named }

pub within_list : {X : Type 0} (xs : List X) (i : ℕ) (x : X) → slice_get xs i ≡ Some x → i < length xs
within_list [] i x is = absurd (cc)
within_list (y ∷ xs) zero x is = omega arith
within_list (y ∷ xs) (suc i) x is = omega (arith, within_list xs i x is)

pub item_there : {X : Type 0} (xs : List X) (i : ℕ) → i < length xs → (x : X) × (slice_get xs i ≡ Some x)
item_there [] i within = absurd (omega arith)
item_there (y ∷ xs) zero within = (y, refl)
item_there (y ∷ xs) (suc i) within = item_there xs i (omega arith)

-- a step leads to a node that is there
pub next_within : (steps : List StepModel) (node : ℕ) (name : List ℕ) (next : ℕ) → next_node steps node name ≡ Some next → next ≤ length steps
next_within steps node name next is =
    let found = found_at 0 steps node name next is in
    let there = within_list steps found.index found.step found.stands_at in
    omega (arith, found.leads, there)

-- ---- nodes

abbrev pub needed_if : List StepModel → Option ℕ → Bool
needed_if steps None = false
needed_if steps (Some node) = is_needed_at steps node

-- a path is in the set if it leads to a node that is needed
pub paths_by_node : (steps : List StepModel) (o : Option ℕ) (path : PropertyPath) → paths_at steps o path ≡ needed_if steps (node_at steps o path)
paths_by_node steps None path = refl
paths_by_node steps (Some node) [] = refl
paths_by_node steps (Some node) (name ∷ path) = paths_by_node steps (next_node steps node name) path

pub node_at-append : (steps : List StepModel) (o : Option ℕ) (path rest : PropertyPath) → node_at steps o (path ++ rest) ≡ node_at steps (node_at steps o path) rest
node_at-append steps None path rest = refl
node_at-append steps (Some node) [] rest = refl
node_at-append steps (Some node) (name ∷ path) rest = node_at-append steps (next_node steps node name) path rest

pub node_at-end : (steps : List StepModel) (o : Option ℕ) → node_at steps o [] ≡ o
node_at-end steps None = refl
node_at-end steps (Some node) = refl

-- a path with one step more
pub node_at-step : (steps : List StepModel) (o : Option ℕ) (path : PropertyPath) (name : List ℕ) (node : ℕ) → node_at steps o path ≡ Some node
    → node_at steps o (path ++ name ∷ []) ≡ next_node steps node name
node_at-step steps o path name node is =
    node_at-append steps o path (name ∷ []) ∙ ap (λ at. node_at steps at (name ∷ [])) is ∙ node_at-end steps (next_node steps node name)

-- ---- the way back

pub leads_back : (steps : List StepModel) (seen : PropertyPath) (node : ℕ) (path : PropertyPath) (last : ℕ) → LeadsBack steps seen node → node_at steps (Some node) path ≡ Some last
    → LeadsBack steps (onto path seen) last
leads_back steps seen node [] last back is = let same : node ≡ last = cc in subst (LeadsBack steps seen) same back
leads_back steps seen node (name ∷ path) last back is = by (next_node steps node name) refl is (λ next. leads_back steps (name ∷ seen) next path last)
  where
    by : (o : Option ℕ) → next_node steps node name ≡ o → node_at steps o path ≡ Some last
        → ((next : ℕ) → LeadsBack steps (name ∷ seen) next → node_at steps (Some next) path ≡ Some last → LeadsBack steps (onto path (name ∷ seen)) last)
        → LeadsBack steps (onto path (name ∷ seen)) last
    by None none there further = absurd (cc)
    by (Some next) found there further =
        let at = found_at 0 steps node name next found in
        let leads : next ≡ suc at.index = omega (arith, at.leads) in
        let back_there : LeadsBack steps seen at.step.before = subst (LeadsBack steps seen) (sym at.starts) back in
        further next (record { k = at.index; step = at.step; stands_at = at.stands_at; leads = leads; named = at.named; before = back_there }) there

pub path_leads_back : (steps : List StepModel) (path : PropertyPath) (node : ℕ) → LeadsTo steps path node → LeadsBack steps (onto path []) node
path_leads_back steps path node leads = leads_back steps [] 0 path node refl leads

one_way_back : (steps : List StepModel) (xs ys : PropertyPath) (node : ℕ) → LeadsBack steps xs node → LeadsBack steps ys node → xs ≡ ys
one_way_back steps [] [] node a b = refl
one_way_back steps [] (y ∷ ys) node a b = let none : 0 ≡ suc b.k = sym a ∙ b.leads in absurd (cc)
one_way_back steps (x ∷ xs) [] node a b = let none : 0 ≡ suc a.k = sym b ∙ a.leads in absurd (cc)
one_way_back steps (x ∷ xs) (y ∷ ys) node a b =
    let indexes : suc a.k ≡ suc b.k = sym a.leads ∙ b.leads in
    let index : a.k ≡ b.k = cc in
    let steps_same : Some a.step ≡ Some b.step = sym a.stands_at ∙ ap (slice_get steps) index ∙ b.stands_at in
    let same : a.step ≡ b.step = cc in
    let name : x ≡ y = sym a.named ∙ ap (λ s. s.name) same ∙ b.named in
    let rest : xs ≡ ys = one_way_back steps xs ys b.step.before (subst (λ (s : StepModel). LeadsBack steps xs s.before) same a.before) b.before in
    λ j. name j ∷ rest j

-- one path leads to a node
pub one_path : (steps : List StepModel) (p q : PropertyPath) (node : ℕ) → LeadsTo steps p node → LeadsTo steps q node → p ≡ q
one_path steps p q node a b =
    sym (onto_back p)
    ∙ ap (λ names. onto names []) (one_way_back steps (onto p []) (onto q []) node (path_leads_back steps p node a) (path_leads_back steps q node b))
    ∙ onto_back q

-- a path leads to each node
pub path_to : (steps : List StepModel) → AreSteps steps → (fuel node : ℕ) → node ≤ fuel → node ≤ length steps → (path : PropertyPath) × LeadsTo steps path node
path_to steps kept fuel zero small within = ([], refl)
path_to steps kept zero (suc k) small within = absurd (omega arith)
path_to steps kept (suc fuel) (suc k) small within =
    let at : (step : StepModel) × (slice_get steps k ≡ Some step) = item_there steps k (omega arith) in
    let below : at.0.before ≤ k = kept.starts k at.0 at.1 in
    let way = path_to steps kept fuel at.0.before (omega arith) (omega arith) in
    (way.0 ++ at.0.name ∷ [], node_at-step steps (Some 0) way.0 at.0.name at.0.before way.1 ∙ kept.found k at.0 at.1)

-- what a further name leads to from the node of a path that is found backward
pub next_on : (steps : List StepModel) (o : Option ℕ) (names : PropertyPath) (name : List ℕ) → o ≡ node_at steps (Some 0) (onto names [])
    → node_at steps o (name ∷ []) ≡ node_at steps (Some 0) (onto (name ∷ names) [])
next_on steps o names name is =
    ap (λ at. node_at steps at (name ∷ [])) is
    ∙ sym (node_at-append steps (Some 0) (onto names []) (name ∷ []))
    ∙ ap (node_at steps (Some 0)) (sym (onto-append names [] (name ∷ [])))

-- ---- nodes of other steps

pub step_got : (steps : List Step) (k : ℕ) (step : Step) → k < length steps → step ≡ get_or steps k step → slice_get (map step_model steps) k ≡ Some (step_model step)
step_got steps k step within is = slice_get-map step_model steps k ∙ ap (option_map step_model) (slice_get_read steps (length steps) k step refl within is)

-- a path is in the set if its node is needed
pub path_needed : (own : List StepModel) (o : Option ℕ) (path : PropertyPath) → o ≡ node_at own (Some 0) path → needed_if own o ≡ paths_in own path
path_needed own o path is = ap (needed_if own) is ∙ sym (paths_by_node own (Some 0) path)

-- ---- all paths

pub not_covered : (own other : List StepModel) → AreSteps other → (node : ℕ) → node ≤ length other → is_needed_at other node ≡ true
    → ((names : PropertyPath) → LeadsBack other names node → false ≡ paths_in own (onto names [])) → Covers (paths_in own) (paths_in other) → ⊥
not_covered own other kept node within needed outside all =
    let enough : node ≤ node = omega arith in
    let way = path_to other kept node node enough within in
    let inside : paths_in other way.0 ≡ true = paths_by_node other (Some 0) way.0 ∙ ap (needed_if other) way.1 ∙ needed in
    let out : false ≡ paths_in own way.0 = outside (onto way.0 []) (path_leads_back other way.0 node way.1) ∙ ap (paths_in own) (onto_back way.0) in
    not_both (paths_in own way.0) (sym out) (all way.0 inside)

pub all_covered : (own other : List StepModel)
    → ((k : ℕ) → k < length other → is_needed_at other (suc k) ≡ true → (names : PropertyPath) → LeadsBack other names (suc k) → paths_in own (onto names []) ≡ true)
    → Covers (paths_in own) (paths_in other)
all_covered own other all path inside = by (node_at other (Some 0) path) refl (sym (paths_by_node other (Some 0) path) ∙ inside)
  where
    there : (o : Option StepModel) (k : ℕ) → slice_get other k ≡ o → is_needed_step o ≡ true → k < length other
    there None k is needed = absurd (true≢false (sym needed))
    there (Some step) k is needed = within_list other k step is

    by : (o : Option ℕ) → node_at other (Some 0) path ≡ o → needed_if other o ≡ true → paths_in own path ≡ true
    by None is needed = absurd (true≢false (sym needed))
    by (Some zero) is needed = absurd (true≢false (sym needed))
    by (Some (suc k)) is needed =
        ap (paths_in own) (sym (onto_back path)) ∙ all k (there (slice_get other k) k refl needed) needed (onto path []) (path_leads_back other path (suc k) is)

-- the paths to the first nodes are in the set, if they are in the other
abbrev pub AreIn : List StepModel → List StepModel → ℕ → Type 0
AreIn own other count =
    (k : ℕ) → k < count → is_needed_at other (suc k) ≡ true → (names : PropertyPath) → LeadsBack other names (suc k) → paths_in own (onto names []) ≡ true

-- and that to the next one
pub one_more_in : (own other : List StepModel) (count next : ℕ) → next ≡ count + 1 → AreIn own other count
    → (is_needed_at other next ≡ true → (names : PropertyPath) → LeadsBack other names next → true ≡ paths_in own (onto names [])) → AreIn own other next
one_more_in own other count next is before here k below needed names back = by (nat_lt k count) refl
  where
    by : (b : Bool) → nat_lt k count ≡ b → paths_in own (onto names []) ≡ true
    by true less = before k (ltb-true k count less) needed names back
    by false more =
        let least : count ≤ k = ltb-false k count more in
        let same : suc k ≡ next = omega arith in
        sym (here (subst (λ n. is_needed_at other n ≡ true) same needed) names (subst (LeadsBack other names) same back))

pub truth_of : (b : Bool) → (b ≡ false → ⊥) → b ≡ true
truth_of true some = refl
truth_of false some = absurd (some refl)

-- a path with a further name leads on
pub leads_on : (steps : List StepModel) (path : PropertyPath) (node : ℕ) (name : List ℕ) (next : ℕ) → LeadsTo steps path node → next_node steps node name ≡ Some next
    → LeadsTo steps (path ++ name ∷ []) next
leads_on steps path node name next leads is = node_at-step steps (Some 0) path name node leads ∙ is

-- a path leads to a node within the steps
pub leads_within : (steps : List StepModel) (o : Option ℕ) (path : PropertyPath) (node : ℕ) → ((start : ℕ) → o ≡ Some start → start ≤ length steps)
    → node_at steps o path ≡ Some node → node ≤ length steps
leads_within steps None path node within leads = absurd (cc)
leads_within steps (Some start) [] node within leads = let same : start ≡ node = cc in subst (λ n. n ≤ length steps) same (within start refl)
leads_within steps (Some start) (name ∷ path) node within leads =
    leads_within steps (next_node steps start name) path node (λ next is. next_within steps start name next is) leads

pub reached_within : (steps : List StepModel) (path : PropertyPath) (node : ℕ) → LeadsTo steps path node → node ≤ length steps
reached_within steps path node leads = leads_within steps (Some 0) path node (λ start is. let same : 0 ≡ start = cc in subst (λ n. n ≤ length steps) same (omega arith)) leads

-- ---- paths that lead back in both

-- names that lead back from a node lead to it
pub back_leads : (steps : List StepModel) → AreSteps steps → (names : PropertyPath) (node : ℕ) → LeadsBack steps names node → node_at steps (Some 0) (onto names []) ≡ Some node
back_leads steps kept [] node back = ap Some (sym back)
back_leads steps kept (name ∷ names) node back =
    let before : node_at steps (Some 0) (onto names []) ≡ Some back.step.before = back_leads steps kept names back.step.before back.before in
    let leads : next_node steps back.step.before name ≡ Some (suc back.k) =
    subst (λ (n : List ℕ). next_node steps back.step.before n ≡ Some (suc back.k)) back.named (kept.found back.k back.step back.stands_at) in
    sym (next_on steps (Some back.step.before) names name (sym before)) ∙ node_at-end steps (next_node steps back.step.before name) ∙ leads ∙ ap Some (sym back.leads)

-- names and what is left of them lead back from nodes of the one steps just where they do from nodes of the other
pub record IsBeside (own other : List StepModel) (names : PropertyPath) (own_node node beside : ℕ) : Type 0 where
  pub rest : PropertyPath
  pub back : LeadsBack other rest beside
  pub same : LeadsBack own names own_node ↔ LeadsBack own rest node

-- no names lead back from the start
pub nothing_back : (steps : List StepModel) (rest : PropertyPath) (node : ℕ) → node ≡ 0 → LeadsBack steps rest node → rest ≡ []
nothing_back steps [] node start back = refl
nothing_back steps (name ∷ rest) node start back = let none : 0 ≡ suc back.k = sym start ∙ back.leads in absurd (cc)

-- a step back in both
module _ (own other : List StepModel) (names : PropertyPath) (own_node node beside k j : ℕ) (step other_step : StepModel) where
  -- the first name is that of the step
  record IsStepBack (steps : List StepModel) (rest : PropertyPath) (taken : StepModel) : Type 0 where
    pub left : PropertyPath
    pub is : rest ≡ taken.name ∷ left
    pub before : LeadsBack steps left taken.before

  step_back : (steps : List StepModel) (i at : ℕ) (taken : StepModel) (rest : PropertyPath) → at ≡ suc i → slice_get steps i ≡ Some taken → LeadsBack steps rest at → IsStepBack steps rest taken
  step_back steps i at taken [] is found back = let none : 0 ≡ suc i = sym back ∙ is in absurd (cc)
  step_back steps i at taken (name ∷ rest) is found back =
      let indexes : suc back.k ≡ suc i = sym back.leads ∙ is in
      let index : back.k ≡ i = cc in
      let both : Some back.step ≡ Some taken = sym back.stands_at ∙ ap (slice_get steps) index ∙ found in
      let same : back.step ≡ taken = cc in
      let named : name ≡ taken.name = sym back.named ∙ ap (λ s. s.name) same in
      record { left = rest; is = ap (λ n. n ∷ rest) named; before = subst (λ (s : StepModel). LeadsBack steps rest s.before) same back.before }

  -- where the names of the steps differ the other's path does not lead back
  pub apart_back : IsBeside own other names own_node node beside → node ≡ suc k → slice_get own k ≡ Some step → beside ≡ suc j → slice_get other j ≡ Some other_step
      → (step.name ≡ other_step.name → ⊥) → LeadsBack own names own_node → ⊥
  apart_back at is found other_is other_found differ back =
      let there = step_back other j beside other_step at.rest other_is other_found at.back in
      let here = step_back own k node step at.rest is found (at.same.0 back) in
      let lists : step.name ∷ here.left ≡ other_step.name ∷ there.left = sym here.is ∙ there.is in
      let same : step.name ≡ other_step.name = cc in
      differ same

  -- where they are the same what is left leads back from the nodes that the steps start from
  pub both_back : IsBeside own other names own_node node beside → node ≡ suc k → slice_get own k ≡ Some step → beside ≡ suc j → slice_get other j ≡ Some other_step
      → step.name ≡ other_step.name → IsBeside own other names own_node step.before other_step.before
  both_back at is found other_is other_found named =
      let there = step_back other j beside other_step at.rest other_is other_found at.back in
      let onward : LeadsBack own names own_node → LeadsBack own there.left step.before = λ back.
      let here = step_back own k node step at.rest is found (at.same.0 back) in
      let lists : step.name ∷ here.left ≡ other_step.name ∷ there.left = sym here.is ∙ there.is in
      let same : here.left ≡ there.left = cc in
      subst (λ (left : PropertyPath). LeadsBack own left step.before) same here.before in
      let backward : LeadsBack own there.left step.before → LeadsBack own names own_node = λ before.
      let whole : LeadsBack own (step.name ∷ there.left) node = record { k = k; step = step; stands_at = found; leads = is; named = refl; before = before } in
      let rest : step.name ∷ there.left ≡ at.rest = ap (λ n. n ∷ there.left) named ∙ sym there.is in
      at.same.1 (subst (λ (left : PropertyPath). LeadsBack own left node) rest whole) in
      record { rest = there.left; back = there.before; same = (onward, backward) }

-- at the start of either the paths are the same where both are there
pub ended_back : (own other : List StepModel) (names : PropertyPath) (own_node node beside : ℕ) → IsBeside own other names own_node node beside
    → (node ≡ 0) ⊎ (beside ≡ 0) → (node ≡ beside) ↔ LeadsBack own names own_node
ended_back own other names own_node node beside at start =
    let to : node ≡ beside → LeadsBack own names own_node = λ same.
    let zero_too : beside ≡ 0 = elim start [ inl here ↦ sym same ∙ here | inr there ↦ there ] in
    let none = nothing_back other at.rest beside zero_too at.back in
    at.same.1 (subst (λ (rest : PropertyPath). LeadsBack own rest node) (sym none) (same ∙ zero_too)) in
    let from : LeadsBack own names own_node → node ≡ beside = λ back. elim start [
      | inl here ↦
          let none = nothing_back own at.rest node here (at.same.0 back) in
          here ∙ sym (subst (λ (rest : PropertyPath). LeadsBack other rest beside) none at.back)
      | inr there ↦
          let none = nothing_back other at.rest beside there at.back in
          subst (λ (rest : PropertyPath). LeadsBack own rest node) none (at.same.0 back) ∙ sym there
    ] in
    (to, from)

-- ---- a path among the steps of another set

-- a needed node that has the path puts it into the set
pub found_path : (own : List StepModel) → AreSteps own → (names : PropertyPath) (node : ℕ) → is_needed_at own node ≡ true → LeadsBack own names node → true ≡ paths_in own (onto names [])
found_path own kept names node needed back =
    sym needed ∙ path_needed own (Some node) (onto names []) (sym (back_leads own kept names node back))

-- where no needed node has it, the path is not in the set
pub missed_path : (own : List StepModel) (names : PropertyPath) → ((k : ℕ) → k < length own → is_needed_at own (suc k) ≡ true → LeadsBack own names (suc k) → ⊥) → false ≡ paths_in own (onto names [])
missed_path own names none = by (node_at own (Some 0) (onto names [])) refl
  where
    off : (b : Bool) → (b ≡ true → ⊥) → false ≡ b
    off true is = absurd (is refl)
    off false is = refl

    by : (o : Option ℕ) → node_at own (Some 0) (onto names []) ≡ o → false ≡ paths_in own (onto names [])
    by None is = path_needed own None (onto names []) (sym is)
    by (Some zero) is = path_needed own (Some 0) (onto names []) (sym is)
    by (Some (suc k)) is =
        let within : suc k ≤ length own = reached_within own (onto names []) (suc k) is in
        let back : LeadsBack own names (suc k) = subst (λ (n : PropertyPath). LeadsBack own n (suc k)) (onto_back names) (path_leads_back own (onto names []) (suc k) is) in
        off (is_needed_at own (suc k)) (λ needed. none k (omega (arith, within)) needed back) ∙ path_needed own (Some (suc k)) (onto names []) (sym is)
