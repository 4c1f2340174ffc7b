-- A step more, and a node that is marked: what they change of the set.
use Rattle.std.proofs.Common.{◌≡◌, ◌⊎◌, ℕ, zero, suc, ◌+◌, ◌-◌, ◌<◌, ◌≤◌, string_bytes, map, get_or, slice_set, List, [], ◌∷◌, ◌++◌, Bool, true, false, ◌||◌, cond, Option, Some, None, length, slice_get, nat_eq, refl, sym, ap, ◌∙◌, subst, arith, eqb-true, eq-eqb, ne_eqb, inl, inr}
use Rattle.std.proofs.lemmas.Cmp.{nat_list_eq_equiv}
use Rattle.std.proofs.lemmas.List.{length-append, map_push}
use Rattle.odata_expansion.specs.PathSet.{PropertyPath, is_path, with_path}
use Rattle.odata_expansion.specs.ExpansionView.{StepModel, goes_on, next_from, next_node, is_needed_step, is_needed_at, paths_at, paths_in, LeadsTo, KeepsPaths, node_at}
use Rattle.odata_expansion.specs.declared.steps.Step.{Step}
use Rattle.odata_expansion.specs.private.StepView.{AreSteps, IsStep, mark_step, marked, step_model}
use Rattle.odata_expansion.proofs.Nodes.{same_truth, path_decides, found_at, within_list, next_within, needed_if, paths_by_node, one_path}

-- ---- truth values

or_true : (b : Bool) → true ≡ (b || true)
or_true true = refl
or_true false = refl

or_false : (b : Bool) → b ≡ (b || false)
or_false true = refl
or_false false = refl

same_number : (n : ℕ) → nat_eq n n ≡ true
same_number n = eq-eqb n n refl

next_numbers : (m i : ℕ) → nat_eq m i ≡ nat_eq (suc m) (suc i)
next_numbers m i = same_truth (nat_eq m i) (nat_eq (suc m) (suc i))
    (λ is. eq-eqb (suc m) (suc i) (ap suc (eqb-true m i is)))
    (λ is. let above : suc m ≡ suc i = eqb-true (suc m) (suc i) is in let same : m ≡ i = cc in eq-eqb m i same)

not_zero : (m : ℕ) → nat_eq (suc m) 0 ≡ false
not_zero m = ne_eqb (suc m) 0 (λ is. absurd (cc))

zero_not : (i : ℕ) → nat_eq 0 (suc i) ≡ false
zero_not i = ne_eqb 0 (suc i) (λ is. absurd (cc))

-- ---- a mark

next_from-marked : (i k : ℕ) (steps : List StepModel) (node : ℕ) (name : List ℕ) → next_from k (mark_step i steps) node name ≡ next_from k steps node name
next_from-marked i k [] node name = refl
next_from-marked zero k (s ∷ steps) node name = refl
next_from-marked (suc i) k (s ∷ steps) node name = ap (cond (goes_on s node name) (Some (suc k))) (next_from-marked i (suc k) steps node name)

node_at-marked : (i : ℕ) (steps : List StepModel) (o : Option ℕ) (path : PropertyPath) → node_at (mark_step i steps) o path ≡ node_at steps o path
node_at-marked i steps None path = refl
node_at-marked i steps (Some node) [] = refl
node_at-marked i steps (Some node) (name ∷ path) =
    ap (λ o. node_at (mark_step i steps) o path) (next_from-marked i 0 steps node name) ∙ node_at-marked i steps (next_node steps node name) path

flag-marked : (i m : ℕ) (steps : List StepModel) → i < length steps → is_needed_step (slice_get (mark_step i steps) m) ≡ (is_needed_step (slice_get steps m) || nat_eq m i)
flag-marked i m [] within = absurd (omega arith)
flag-marked zero zero (s ∷ steps) within = or_true s.needed ∙ ap (λ b. s.needed || b) (sym (same_number 0))
flag-marked zero (suc m) (s ∷ steps) within = or_false (is_needed_step (slice_get steps m)) ∙ ap (λ b. is_needed_step (slice_get steps m) || b) (sym (not_zero m))
flag-marked (suc i) zero (s ∷ steps) within = or_false s.needed ∙ ap (λ b. s.needed || b) (sym (zero_not i))
flag-marked (suc i) (suc m) (s ∷ steps) within = flag-marked i m steps (omega arith) ∙ ap (λ b. is_needed_step (slice_get steps m) || b) (next_numbers m i)

needed-marked : (i m : ℕ) (steps : List StepModel) → i < length steps → is_needed_at (mark_step i steps) m ≡ (is_needed_at steps m || nat_eq m (suc i))
needed-marked i zero steps within = sym (zero_not i)
needed-marked i (suc m) steps within = flag-marked i m steps within ∙ ap (λ b. is_needed_step (slice_get steps m) || b) (next_numbers m i)

-- the path to the node that is marked is in the set, and no other is in it that was not
pub paths-marked : (i : ℕ) (steps : List StepModel) (added : PropertyPath) → i < length steps → LeadsTo steps added (suc i)
    → (asked : PropertyPath) → paths_in (mark_step i steps) asked ≡ (paths_in steps asked || is_path added asked)
paths-marked i steps added within leads asked =
    paths_by_node (mark_step i steps) (Some 0) asked
    ∙ ap (needed_if (mark_step i steps)) (node_at-marked i steps (Some 0) asked)
    ∙ by (node_at steps (Some 0) asked) refl
  where
    by : (o : Option ℕ) → node_at steps (Some 0) asked ≡ o → needed_if (mark_step i steps) o ≡ (paths_in steps asked || is_path added asked)
    by None none =
        let outside : paths_in steps asked ≡ false = paths_by_node steps (Some 0) asked ∙ ap (needed_if steps) none in
        let other : is_path added asked ≡ false = same_truth (is_path added asked) false
        (λ same. let found : Some (suc i) ≡ None = sym leads ∙ ap (node_at steps (Some 0)) ((path_decides added asked).0 same) ∙ none in absurd (cc)) (λ off. absurd (cc)) in
        rw (outside, other) refl
    by (Some m) is =
        let before : paths_in steps asked ≡ is_needed_at steps m = paths_by_node steps (Some 0) asked ∙ ap (needed_if steps) is in
        let there : nat_eq m (suc i) ≡ is_path added asked = same_truth (nat_eq m (suc i)) (is_path added asked)
        (λ same. (path_decides added asked).1 (one_path steps added asked m (leads ∙ ap Some (sym (eqb-true m (suc i) same))) is))
        (λ same. let node : Some m ≡ Some (suc i) = sym is ∙ ap (node_at steps (Some 0)) (sym ((path_decides added asked).0 same)) ∙ leads in
        let number : m ≡ suc i = cc in subst (λ n. nat_eq n (suc i) ≡ true) (sym number) (same_number (suc i))) in
        needed-marked i m steps within ∙ (λ j. sym before j || there j)

get-marked : (i k : ℕ) (steps : List StepModel) (step : StepModel) → slice_get (mark_step i steps) k ≡ Some step
    → (old : StepModel) × ((slice_get steps k ≡ Some old) × ((old.before ≡ step.before) × (old.name ≡ step.name)))
get-marked i k [] step is = absurd (cc)
get-marked zero zero (s ∷ steps) step is =
    let same : record { before = s.before; name = s.name; needed = true } ≡ step = cc in (s, (refl, (ap (λ t. t.before) same, ap (λ t. t.name) same)))
get-marked zero (suc k) (s ∷ steps) step is = (step, (is, (refl, refl)))
get-marked (suc i) zero (s ∷ steps) step is = (step, (is, (refl, refl)))
get-marked (suc i) (suc k) (s ∷ steps) step is = get-marked i k steps step is

pub steps-marked : (i : ℕ) (steps : List StepModel) → AreSteps steps → AreSteps (mark_step i steps)
steps-marked i steps kept = record {
  starts = λ k step is. let old = get-marked i k steps step is in subst (λ n. n ≤ k) old.1.1.0 (kept.starts k old.0 old.1.0);
  found = λ k step is. let old = get-marked i k steps step is in
      next_from-marked i 0 steps step.before step.name ∙ (λ j. next_node steps (sym old.1.1.0 j) (sym old.1.1.1 j)) ∙ kept.found k old.0 old.1.0;
}

-- ---- a step more

kept_found : (k : ℕ) (steps more : List StepModel) (node : ℕ) (name : List ℕ) (next : ℕ) → next_from k steps node name ≡ Some next → next_from k (steps ++ more) node name ≡ Some next
kept_found k [] more node name next is = absurd (cc)
kept_found k (s ∷ steps) more node name next is = by (goes_on s node name) is (kept_found (suc k) steps more node name next)
  where
    by : (b : Bool) → cond b (Some (suc k)) (next_from (suc k) steps node name) ≡ Some next
        → (next_from (suc k) steps node name ≡ Some next → next_from (suc k) (steps ++ more) node name ≡ Some next)
        → cond b (Some (suc k)) (next_from (suc k) (steps ++ more) node name) ≡ Some next
    by true here further = here
    by false there further = further there

new_found : (k : ℕ) (steps : List StepModel) (s : StepModel) (node : ℕ) (name : List ℕ) → next_from k steps node name ≡ None
    → next_from k (steps ++ s ∷ []) node name ≡ cond (goes_on s node name) (Some (suc (k + length steps))) None
new_found k [] s node name none = let same : suc k ≡ suc (k + 0) = omega arith in ap (λ n. cond (goes_on s node name) (Some n) None) same
new_found k (t ∷ steps) s node name none = by (goes_on t node name) none (new_found (suc k) steps s node name)
  where
    by : (b : Bool) → cond b (Some (suc k)) (next_from (suc k) steps node name) ≡ None
        → (next_from (suc k) steps node name ≡ None → next_from (suc k) (steps ++ s ∷ []) node name ≡ cond (goes_on s node name) (Some (suc (suc k + length steps))) None)
        → cond b (Some (suc k)) (next_from (suc k) (steps ++ s ∷ []) node name) ≡ cond (goes_on s node name) (Some (suc (k + suc (length steps)))) None
    by true here further = absurd (cc)
    by false there further =
        let same : suc (suc k + length steps) ≡ suc (k + suc (length steps)) = omega arith in
        further there ∙ ap (λ n. cond (goes_on s node name) (Some n) None) same

-- no step starts from a node that no step leads to
none_past : (steps : List StepModel) (node : ℕ) (name : List ℕ) → ((k : ℕ) (step : StepModel) → slice_get steps k ≡ Some step → step.before < node) → next_node steps node name ≡ None
none_past steps node name all = by (next_node steps node name) refl
  where
    by : (o : Option ℕ) → next_node steps node name ≡ o → o ≡ None
    by None none = refl
    by (Some next) is =
        let found = found_at 0 steps node name next is in
        let below : found.step.before < node = all found.index found.step found.stands_at in
        let same : found.step.before ≡ node = found.starts in
        absurd (omega arith)

get-pushed : {X : Type 0} (xs : List X) (y : X) (k : ℕ) (x : X) → slice_get (xs ++ y ∷ []) k ≡ Some x → (slice_get xs k ≡ Some x) ⊎ ((k ≡ length xs) × (x ≡ y))
get-pushed [] y zero x is = let same : x ≡ y = cc in inr (refl, same)
get-pushed [] y (suc k) x is = absurd (cc)
get-pushed (z ∷ xs) y zero x is = inl is
get-pushed (z ∷ xs) y (suc k) x is = by (get-pushed xs y k x is)
  where
    by : (slice_get xs k ≡ Some x) ⊎ ((k ≡ length xs) × (x ≡ y)) → (slice_get xs k ≡ Some x) ⊎ ((suc k ≡ suc (length xs)) × (x ≡ y))
    by (inl before) = inl before
    by (inr last) = inr (ap suc last.0, last.1)

get-front : {X : Type 0} (xs ys : List X) (k : ℕ) → k < length xs → slice_get (xs ++ ys) k ≡ slice_get xs k
get-front [] ys k within = absurd (omega arith)
get-front (x ∷ xs) ys zero within = refl
get-front (x ∷ xs) ys (suc k) within = get-front xs ys k (omega arith)

get-last : {X : Type 0} (xs : List X) (y : X) → slice_get (xs ++ y ∷ []) (length xs) ≡ Some y
get-last [] y = refl
get-last (x ∷ xs) y = get-last xs y

-- a further step, not marked, where none of its name starts from its node
module _ (steps : List StepModel) (s : StepModel) (kept : AreSteps steps) (within : s.before ≤ length steps) (unmarked : s.needed ≡ false)
    (fresh : next_node steps s.before s.name ≡ None) where
  abbrev pub more : List StepModel
  more = steps ++ s ∷ []

  starts_below : (k : ℕ) (step : StepModel) → slice_get more k ≡ Some step → step.before < suc (length steps)
  starts_below k step is = by (get-pushed steps s k step is)
    where
      by : (slice_get steps k ≡ Some step) ⊎ ((k ≡ length steps) × (step ≡ s)) → step.before < suc (length steps)
      by (inl before) =
          let below : step.before ≤ k = kept.starts k step before in
          let there = within_list steps k step before in omega arith
      by (inr last) = let same : step.before ≡ s.before = ap (λ t. t.before) last.1 in omega arith

  itself : goes_on s s.before s.name ≡ true
  itself = rw (same_number s.before, nat_list_eq_equiv.refl s.name) refl

  pub next-pushed : next_node more s.before s.name ≡ Some (suc (length steps))
  next-pushed =
      let none : suc (0 + length steps) ≡ suc (length steps) = omega arith in
      new_found 0 steps s s.before s.name fresh ∙ ap (λ b. cond b (Some (suc (0 + length steps))) None) itself ∙ ap Some none

  behind_new : (path : PropertyPath) → paths_at more (Some (suc (length steps))) path ≡ false
  behind_new [] = ap is_needed_step (get-last steps s) ∙ unmarked
  behind_new (name ∷ path) = ap (λ o. paths_at more o path) (none_past more (suc (length steps)) name starts_below)

  same_from : (node : ℕ) (path : PropertyPath) → node ≤ length steps → paths_at more (Some node) path ≡ paths_at steps (Some node) path
  same_from zero [] small = refl
  same_from (suc k) [] small = ap is_needed_step (get-front steps (s ∷ []) k (omega arith))
  same_from node (name ∷ path) small = by (next_node steps node name) refl (λ next. same_from next path)
    where
      new : (b : Bool) → paths_at more (cond b (Some (suc (0 + length steps))) None) path ≡ false
      new true = let none : suc (0 + length steps) ≡ suc (length steps) = omega arith in ap (λ n. paths_at more (Some n) path) none ∙ behind_new path
      new false = refl

      by : (o : Option ℕ) → next_node steps node name ≡ o → ((next : ℕ) → next ≤ length steps → paths_at more (Some next) path ≡ paths_at steps (Some next) path)
          → paths_at more (next_node more node name) path ≡ paths_at steps (next_node steps node name) path
      by (Some next) is further =
          ap (λ o. paths_at more o path) (kept_found 0 steps (s ∷ []) node name next is)
          ∙ further next (next_within steps node name next is)
          ∙ ap (λ o. paths_at steps o path) (sym is)
      by None none further =
          ap (λ o. paths_at more o path) (new_found 0 steps s node name none) ∙ new (goes_on s node name) ∙ ap (λ o. paths_at steps o path) (sym none)

  leads_still : (o : Option ℕ) (path : PropertyPath) (node : ℕ) → node_at steps o path ≡ Some node → node_at more o path ≡ Some node
  leads_still None path node is = absurd (cc)
  leads_still (Some start) [] node is = is
  leads_still (Some start) (name ∷ path) node is = by (next_node steps start name) refl is (λ next. leads_still (Some next) path node)
    where
      by : (o : Option ℕ) → next_node steps start name ≡ o → node_at steps o path ≡ Some node
          → ((next : ℕ) → node_at steps (Some next) path ≡ Some node → node_at more (Some next) path ≡ Some node)
          → node_at more (next_node more start name) path ≡ Some node
      by None none there further = absurd (cc)
      by (Some next) found there further = ap (λ o. node_at more o path) (kept_found 0 steps (s ∷ []) start name next found) ∙ further next there

  pub pushed_keeps : KeepsPaths steps more
  pushed_keeps = record {
    same = λ path. same_from 0 path (omega arith);
    leads = leads_still (Some 0);
  }

  pub steps-pushed : AreSteps more
  steps-pushed = record {
    starts = λ k step is. starts_at k step (get-pushed steps s k step is);
    found = λ k step is. found_still k step (get-pushed steps s k step is);
  }
    where
      starts_at : (k : ℕ) (step : StepModel) → (slice_get steps k ≡ Some step) ⊎ ((k ≡ length steps) × (step ≡ s)) → step.before ≤ k
      starts_at k step (inl before) = kept.starts k step before
      starts_at k step (inr last) = let same : step.before ≡ s.before = ap (λ t. t.before) last.1 in let at : k ≡ length steps = last.0 in omega arith

      found_still : (k : ℕ) (step : StepModel) → (slice_get steps k ≡ Some step) ⊎ ((k ≡ length steps) × (step ≡ s)) → next_node more step.before step.name ≡ Some (suc k)
      found_still k step (inl before) = kept_found 0 steps (s ∷ []) step.before step.name (suc k) (kept.found k step before)
      found_still k step (inr last) =
          (λ j. next_node more (last.1 j).before (last.1 j).name) ∙ next-pushed ∙ ap (λ n. Some (suc n)) (sym last.0)

-- ---- the whole of `add`

-- a mark at the node to which a path leads puts this path into the set
pub path_added : (steps : List StepModel) (path : PropertyPath) (node : ℕ) → node ≤ length steps → LeadsTo steps path node
    → (asked : PropertyPath) → paths_in (marked node steps) asked ≡ with_path (paths_in steps) path asked
path_added steps [] node within leads asked = let start : 0 ≡ node = cc in subst (λ n. paths_in (marked n steps) asked ≡ paths_in steps asked) start refl
path_added steps (name ∷ path) zero within leads asked = absurd (none_back steps path leads)
  where
    none_back : (steps : List StepModel) (path : PropertyPath) → LeadsTo steps (name ∷ path) 0 → ⊥
    none_back steps path leads = let same = one_path steps (name ∷ path) [] 0 leads refl in absurd (cc)
path_added steps (name ∷ path) (suc i) within leads asked = paths-marked i steps (name ∷ path) (omega arith) leads asked

-- the set after a step is the set before
pub kept_twice : (a b c : List StepModel) → ((path : PropertyPath) → paths_in b path ≡ paths_in a path) → KeepsPaths b c → (path : PropertyPath) → paths_in c path ≡ paths_in a path
kept_twice a b c same kept path = kept.same path ∙ same path

abbrev pub with_same : (a b : List StepModel) → ((path : PropertyPath) → paths_in b path ≡ paths_in a path) → (added asked : PropertyPath)
    → with_path (paths_in b) added asked ≡ with_path (paths_in a) added asked
with_same a b same [] asked = same asked
with_same a b same (name ∷ added) asked = ap (λ t. t || is_path (name ∷ added) asked) (same asked)

-- ---- steps of the code

-- a step more, that is not marked
pub step_pushed : (xs ys : List Step) (step : Step) (old : List StepModel) (name : List ℕ) → ys ≡ xs ++ step ∷ [] → map step_model xs ≡ old → string_bytes step.name ≡ name
    → map step_model ys ≡ old ++ record { before = step.before; name = name; needed = step.needed } ∷ []
step_pushed xs ys step old name is same named =
    ap (map step_model) is ∙ map_push step_model xs step ∙ (λ j. same j ++ record { before = step.before; name = named j; needed = step.needed } ∷ [])

-- what comes of it
pub record IsGrown (old new : List StepModel) (node : ℕ) (name : List ℕ) : Type 0 where
  pub steps : AreSteps new
  pub step : IsStep new node name (length new)
  pub kept : KeepsPaths old new

pub grown : (old new : List StepModel) (node : ℕ) (name : List ℕ) → AreSteps old → node ≤ length old → next_node old node name ≡ None
    → new ≡ old ++ record { before = node; name = name; needed = false } ∷ [] → IsGrown old new node name
grown old new node name kept within fresh is =
    let s : StepModel = record { before = node; name = name; needed = false } in
    let many : length (old ++ s ∷ []) ≡ suc (length old) = omega (arith, length-append old (s ∷ [])) in
    subst (λ (steps : List StepModel). IsGrown old steps node name) (sym is) (record {
      steps = steps-pushed old s kept within refl fresh;
      step = record { leads = next-pushed old s kept within refl fresh ∙ ap Some (sym many); within = omega arith };
      kept = pushed_keeps old s kept within refl fresh;
    })

pub mark_set : (xs : List Step) (i : ℕ) (step : Step) → i < length xs → step ≡ get_or xs i step
    → map step_model (slice_set xs i (record { before = step.before; name = step.name; needed = true })) ≡ mark_step i (map step_model xs)
mark_set [] i step within is = absurd (omega arith)
mark_set (x ∷ xs) zero step within is = ap (λ (s : Step). record { before = s.before; name = string_bytes s.name; needed = true } ∷ map step_model xs) is
mark_set (x ∷ xs) (suc i) step within is = ap (λ steps. step_model x ∷ steps) (mark_set xs i step (omega arith) is)

-- a mark leads nowhere else
pub marked_leads : (node : ℕ) (steps : List StepModel) (path : PropertyPath) (other : ℕ) → LeadsTo steps path other → LeadsTo (marked node steps) path other
marked_leads zero steps path other leads = leads
marked_leads (suc i) steps path other leads = node_at-marked i steps (Some 0) path ∙ leads

pub marked_at : (node : ℕ) (steps : List StepModel) → 0 < node → mark_step (node - 1) steps ≡ marked node steps
marked_at zero steps some = absurd (omega arith)
marked_at (suc k) steps some = let same : suc k - 1 ≡ k = omega arith in ap (λ i. mark_step i steps) same
