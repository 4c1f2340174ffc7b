-- What the bodies of a lambda evaluate to, member by member.
use Rattle.sql_forms.proofs.Common.{◌≡◌, ◌+◌, ◌∷◌, [], ℕ, zero, suc, List, Some, None, length, refl, ap, subst, arith, IsSomeAnd, slice_get, Val, Quantifier, goes_there, Outcome, AtMembers, OfTree, OverHas, at_member, Question, World, sym, ◌∙◌, slots_of, HasType, IsKept, IsAskedOf, IsStopAt, CheckedNode, some_there, found_there}
use Rattle.sql_outcomes.proofs.outcomes.Elements.{at_all}

-- the outcomes of the body at the members
pub record AreOutcomesAt (At : ℕ → Outcome → Type 0) (members : List Val) (ps : List Outcome) : Type 0 where
  pub many : length ps ≡ length members
  pub each : (k : ℕ) (p : Outcome) → slice_get ps k ≡ Some p → At k p

module _ (question : Question) (quantifier : Quantifier) (place : ℕ) (world : World) (o : Outcome) (over : OverHas question.filter quantifier place world o) where
  abbrev At : ℕ → Outcome → Type 0
  At = AtMembers question.filter over.body over.tree world over.variable over.members

  -- the world at a member is one of the question
  pub inside_member : IsAskedOf question world → (k : ℕ) (v : Val) → slice_get over.members k ≡ Some v → IsAskedOf question (at_member world over.variable k v)
  inside_member seen k v at_v = record {
    row_is = seen.row_is;
    moment_is = seen.moment_is;
    fitting = (at_all (λ (w : Val). HasType (slots_of world.row.schema) over.variable.type_of w) over.members k v over.typed at_v, seen.fitting);
    kept = (at_all (λ (w : Val). IsKept (slots_of world.row.schema) over.variable.type_of w) over.members k v over.kept at_v, seen.kept);
  }

  -- the body stands where what is before it stops
  pub body_is : (body : ℕ) → IsStopAt question.filter (place + 1) body → over.body ≡ body
  body_is body stops =
      let mine = some_there (λ (n : CheckedNode). n.stop ≡ body) (slice_get question.filter.list.nodes (place + 1)) stops in
      sym (found_there (λ (n : CheckedNode). n.stop ≡ over.body) (slice_get question.filter.list.nodes (place + 1)) mine.0 mine.1.0 over.is_body) ∙ mine.1.1

  record OutcomesFrom (start : ℕ) (vs : List Val) : Type 0 where
    ps : List Outcome
    many : length ps ≡ length vs
    each : (k : ℕ) (p : Outcome) → slice_get ps k ≡ Some p → IsSomeAnd (slice_get vs k) (λ v. OfTree question.filter over.body over.tree (at_member world over.variable (start + k) v) p)

  one_more : (start : ℕ) (v : Val) (vs : List Val) (p : Outcome) → OfTree question.filter over.body over.tree (at_member world over.variable start v) p → OutcomesFrom (start + 1) vs → OutcomesFrom start (v ∷ vs)
  one_more start v vs p here rest = record { ps = p ∷ rest.ps; many = ap suc rest.many; each = by }
    where
      by : (k : ℕ) (x : Outcome) → slice_get (p ∷ rest.ps) k ≡ Some x
          → IsSomeAnd (slice_get (v ∷ vs) k) (λ w. OfTree question.filter over.body over.tree (at_member world over.variable (start + k) w) x)
      by zero x at =
          let same : p ≡ x = cc at in
          let no_more : start ≡ start + 0 = omega arith in
          subst (λ (y : Outcome). OfTree question.filter over.body over.tree (at_member world over.variable (start + 0) v) y) same
          (subst (λ (n : ℕ). OfTree question.filter over.body over.tree (at_member world over.variable n v) p) no_more here)
      by (suc k) x at =
          let next : start + 1 + k ≡ start + suc k = omega arith in
          goes_there (slice_get vs k) (λ (w : Val). OfTree question.filter over.body over.tree (at_member world over.variable (start + 1 + k) w) x)
          (λ (w : Val). OfTree question.filter over.body over.tree (at_member world over.variable (start + suc k) w) x)
          (λ w has. subst (λ (n : ℕ). OfTree question.filter over.body over.tree (at_member world over.variable n w) x) next has) (rest.each k x at)

  outcomes_from : (start : ℕ) (vs : List Val) → ((k : ℕ) (v : Val) → slice_get vs k ≡ Some v → slice_get over.members (start + k) ≡ Some v) → OutcomesFrom start vs
  outcomes_from start [] placed = record { ps = []; many = refl; each = λ k p at. let none : None ≡ Some p = at in absurd (cc) }
  outcomes_from start (v ∷ vs) placed =
      let no_more : start + 0 ≡ start = omega arith in
      let here : slice_get over.members start ≡ Some v = subst (λ (n : ℕ). slice_get over.members n ≡ Some v) no_more (placed 0 v refl) in
      let one = over.each start v here in
      one_more start v vs one.outcome one.related
      (outcomes_from (start + 1) vs (λ k w at.
      let next : start + suc k ≡ start + 1 + k = omega arith in
      subst (λ (n : ℕ). slice_get over.members n ≡ Some w) next (placed (suc k) w at)))

  pub outcomes : (ps : List Outcome) × AreOutcomesAt At over.members ps
  outcomes =
      let all = outcomes_from 0 over.members (λ k v at. let same : k ≡ 0 + k = omega arith in subst (λ (n : ℕ). slice_get over.members n ≡ Some v) same at) in (
        all.ps,
        record {
          many = all.many;
          each = λ k p at.
              let same : 0 + k ≡ k = omega arith in
              goes_there (slice_get over.members k) (λ (w : Val). OfTree question.filter over.body over.tree (at_member world over.variable (0 + k) w) p)
              (λ (w : Val). OfTree question.filter over.body over.tree (at_member world over.variable k w) p)
              (λ w has. subst (λ (n : ℕ). OfTree question.filter over.body over.tree (at_member world over.variable n w) p) same has) (all.each k p at);
        },
      )
