-- What is put over operands some of which a `Let` binds, with the faults of the operands first or without them.
use Rattle.sql_forms.proofs.Common.{◌≡◌, ◌++◌, ◌∷◌, [], ◌+◌, ◌-◌, List, map, length, refl, sym, ap, subst, ◌∙◌, append-nil, arith, Outcome, BoundValue, bound_value, Draft, Lifted, Operand, Grows, AllHave, ArePlain, IsLifted, IsOpened, chosen, chosen_of, faults_of, Has, IsWorldOf, Puts, PutsAll, Question, World, extended}
use Rattle.sql_outcomes.proofs.outcomes.LiftedFaults.{lifted_faults}
use Rattle.sql_forms.proofs.lets.LiftedPut.{Bindings, closed, let_none, let_some}
use Rattle.sql_outcomes.proofs.outcomes.LiftedValues.{as_many, chosen_have}
use Rattle.sql_outcomes.proofs.outcomes.Elements.{none_left}

module _ (question : Question) (operands : List Operand) (lifted : Lifted) (old : Draft) (is_lifted : IsLifted operands old.depth lifted) where
  -- the world of the body, where the operands evaluate to these
  abbrev pub in_body : World → List Outcome → World
  in_body world os = extended world (map bound_value (chosen_of is_lifted.choices os))

  -- what operands evaluate to, and what of them in the body
  pub record BodyGiven (Inner : Has) (InnerForm Form : Outcome → Outcome → Type 0) (world : World) (o : Outcome) : Type 0 where
    pub os : List Outcome
    pub have : AllHave question.filter operands world os
    pub inner : Outcome
    pub has : Inner (in_body world os) inner
    pub goes : (x : Outcome) → InnerForm inner x → Form o x

  -- likewise, where the first fault of an operand comes first
  pub record FaultsGiven (Inner : Has) (InnerForm Shown Into : Outcome → Outcome → Type 0) (world : World) (o : Outcome) : Type 0 where
    pub os : List Outcome
    pub have : AllHave question.filter operands world os
    pub plain : ArePlain operands os
    pub inner : Outcome
    pub has : Inner (in_body world os) inner
    pub goes : (x : Outcome) → InnerForm inner x → (rest : Outcome) × Shown rest x × Into o (faults_of os rest)

  module _ (opened body new : Draft) (is_opened : IsOpened lifted old opened) (values : PutsAll question (closed body (length lifted.bound.items)) new (AllHave question.filter lifted.bound.items) (length lifted.bound.items))
      (idle : lifted.bound.items ≡ [] → Grows (closed body (length lifted.bound.items)) new []) where
    module _ (Inner Outcomes : Has) (InnerForm Form : Outcome → Outcome → Type 0) (put : Puts question opened body Inner InnerForm)
        (given : (world : World) (o : Outcome) → old.depth ≡ length world.bound → IsWorldOf question new world → Outcomes world o → BodyGiven Inner InnerForm Form world o) where
      depth_same : new.depth ≡ old.depth
      depth_same =
          let within : body.depth ≡ old.depth + length lifted.bound.items = put.grows.depth ∙ is_opened.depth in
          let closed_depth : new.depth ≡ body.depth - length lifted.bound.items = values.grows.depth in
          omega (arith, within, closed_depth)

      module _ (world : World) (o : Outcome) (is : IsWorldOf question new world) (has : Outcomes world o) where
        of_world : BodyGiven Inner InnerForm Form world o
        of_world = given world o (sym (is.depth ∙ depth_same)) is has

        abbrev outcomes : List Outcome
        outcomes = chosen_of is_lifted.choices of_world.os

        all_have : AllHave question.filter lifted.bound.items world outcomes
        all_have =
            subst (λ (bs : List Operand). AllHave question.filter bs world outcomes) (sym is_lifted.bound)
            (chosen_have question.filter world is_lifted.choices operands of_world.os is_lifted.are of_world.have)

        count : length outcomes ≡ length lifted.bound.items
        count = as_many question.filter world lifted.bound.items outcomes all_have

        -- nothing is bound
        alone : lifted.bound.items ≡ [] → Inner world of_world.inner
        alone none =
            subst (λ (bs : List BoundValue). Inner (record world { bound = bs }) of_world.inner) (append-nil world.bound)
            (subst (λ (os : List Outcome). Inner (extended world (map bound_value os)) of_world.inner) (none_left outcomes (count ∙ ap length none)) of_world.has)

      by_count : (bound : List Operand) → lifted.bound.items ≡ bound → Puts question old new Outcomes Form
      by_count [] none =
          let_none question lifted old opened body new Inner Outcomes InnerForm Form is_lifted.level_is is_opened put none (idle none)
          (λ world o is has. let g = of_world world o is has in (g.inner, alone world o is has none, g.goes))
      by_count (operand ∷ operands) some =
          let_some question lifted old opened body new Inner Outcomes InnerForm Form is_lifted.level_is is_opened put operand operands some (AllHave question.filter lifted.bound.items) values
          (λ world o is has. let g = of_world world o is has in (outcomes world o is has, all_have world o is has, count world o is has, g.inner, g.has, g.goes))

      pub lifted_put : Puts question old new Outcomes Form
      lifted_put = by_count lifted.bound.items refl

    -- ---- faults first

    module _ (Inner Outcomes : Has) (InnerForm Shown Into Form : Outcome → Outcome → Type 0)
        (put : Puts question opened body (Bindings question lifted.bound.items lifted.level Inner InnerForm Shown Into) Form)
        (given : (world : World) (o : Outcome) → old.depth ≡ length world.bound → IsWorldOf question new world → Outcomes world o → FaultsGiven Inner InnerForm Shown Into world o) where
      bindings : (world : World) (o : Outcome) → old.depth ≡ length world.bound → (g : FaultsGiven Inner InnerForm Shown Into world o)
          → Bindings question lifted.bound.items lifted.level Inner InnerForm Shown Into (in_body world g.os) o
      bindings world o at g =
          subst (λ (bs : List Operand). Bindings question bs lifted.level Inner InnerForm Shown Into (in_body world g.os) o) (sym is_lifted.bound)
          (record {
            before = world.bound;
            os = chosen_of is_lifted.choices g.os;
            bound_are = ap (λ (bs : List BoundValue). world.bound ++ bs) (sym (append-nil (map bound_value (chosen_of is_lifted.choices g.os))));
            level_is = is_lifted.level_is ∙ at;
            as_many = as_many question.filter world (chosen is_lifted.choices operands) (chosen_of is_lifted.choices g.os)
                (chosen_have question.filter world is_lifted.choices operands g.os is_lifted.are g.have);
            inner = g.inner;
            has = g.has;
            goes = λ x form.
                let r = g.goes x form in
                (r.0, r.1, subst (Into o) (sym (lifted_faults is_lifted.choices operands g.os r.0 is_lifted.are (as_many question.filter world operands g.os g.have) g.plain)) r.2);
          })

      pub faults_put : Puts question old new Outcomes Form
      faults_put =
          lifted_put (Bindings question lifted.bound.items lifted.level Inner InnerForm Shown Into) Outcomes Form Form put
          (λ world o at is has.
          let g = given world o at is has in
          record { os = g.os; have = g.have; inner = o; has = bindings world o at g; goes = λ x form. form })
