-- What is put for a call evaluates to what the call does: the first fault of its arguments, or what the function makes.
use Rattle.sql_forms.proofs.Common.{◌≡◌, ◌∷◌, [], ◌+◌, ℕ, List, Bool, true, false, Some, None, length, map, sym, subst, ◌∙◌, IsMoment, Val, null, OneType, NodeKind, EndsOnceOnEntities, HasKind, Outcome, Range, IsNamed, Function, nodes_of, Carrier, Draft, Lifted, Operand, AreArgumentsOf, AreOfKinds, CalledHas, IsFirstWithin, IsLooselyWithin, Grows, AllHave, AreChosen, IsLifted, IsOpened, bound_operand, faults_front, faults_of, within_let, AreRanges, IsAskedOf, IsWorldOf, OfPlace, Puts, PutsAll, Question, World, grows_then}
use Rattle.sql_outcomes.specs.private.ValueForms.{Itself}
use Rattle.sql_outcomes.proofs.nodes.CallNodes.{CallComes, call_comes, first_of, kinds_of, unfaulted, value_or_null}
use Rattle.sql_outcomes.proofs.outcomes.LiftedFaults.{lifted_values}
use Rattle.sql_outcomes.proofs.outcomes.CodeTables.{Coded}
use Rattle.sql_forms.proofs.lets.LiftedPut.{Same, carried_put, closed, coded_put, same_coded}
use Rattle.sql_outcomes.proofs.outcomes.LiftedValues.{as_many, body_have}
use Rattle.sql_forms.proofs.lets.LiftedWhole.{FaultsGiven, faults_put, in_body, lifted_put}

-- ---- operands in the body are of the kinds and ranges of those outside

kinds_in : (level : ℕ) (choices : List Bool) (operands : List Operand) (values : List Val) → AreChosen choices operands → AreOfKinds operands values → AreOfKinds (within_let level choices operands) values
kinds_in level [] [] values are kinds = kinds
kinds_in level [] (operand ∷ operands) values are kinds = absurd are
kinds_in level (true ∷ choices) [] values are kinds = absurd are
kinds_in level (false ∷ choices) [] values are kinds = absurd are
kinds_in level (true ∷ choices) (operand ∷ operands) [] are kinds = absurd kinds
kinds_in level (false ∷ choices) (operand ∷ operands) [] are kinds = absurd kinds
kinds_in level (true ∷ choices) (operand ∷ operands) (v ∷ values) are kinds = (kinds.0, kinds_in (level + 1) choices operands values are kinds.1)
kinds_in level (false ∷ choices) (operand ∷ operands) (v ∷ values) are kinds = (kinds.0, kinds_in level choices operands values are.1 kinds.1)

same_bounds : (operand : Operand) (level : ℕ) (v : Val) → IsLooselyWithin operand.range v → IsLooselyWithin (bound_operand level operand).range v
same_bounds operand level null within = tt
same_bounds operand level _ within = within

first_in : (level : ℕ) (choices : List Bool) (operands : List Operand) (values : List Val) → AreChosen choices operands → IsFirstWithin operands values → IsFirstWithin (within_let level choices operands) values
first_in level [] [] values are within = within
first_in level [] (operand ∷ operands) values are within = absurd are
first_in level (true ∷ choices) [] values are within = absurd are
first_in level (false ∷ choices) [] values are within = absurd are
first_in level (true ∷ choices) (operand ∷ operands) [] are within = within
first_in level (false ∷ choices) (operand ∷ operands) [] are within = within
first_in level (true ∷ choices) (operand ∷ operands) (v ∷ values) are within = same_bounds operand level v within
first_in level (false ∷ choices) (operand ∷ operands) (v ∷ values) are within = within

module _ (question : Question) (types : OneType) (ends : EndsOnceOnEntities) (is_moment : IsMoment question.now.civil question.now.offset_minutes)
    (one_name : (f g : Function) (asked : List ℕ) → IsNamed f asked → IsNamed g asked → f ≡ g) (ranges : List Range) (are : AreRanges question ranges) (place : ℕ) (function : Function)
    (here : HasKind question.filter.list place (NodeKind.Call function)) (operands : List Operand) (arguments : AreArgumentsOf question.filter ranges place operands)
    (lifted : Lifted) (old : Draft) (is_lifted : IsLifted operands old.depth lifted) where
  -- what the call evaluates to in the body, once the faults of its arguments are out of it
  module _ (world : World) (seen : IsAskedOf question world) (o : Outcome) (at : old.depth ≡ length world.bound) (come : CallComes question types ends is_moment world seen ranges are function operands o) where
    inner_called : CalledHas question.filter function lifted.inner.items (in_body question operands lifted old is_lifted world come.all.os) come.inner
    inner_called =
        subst (λ (xs : List Operand). CalledHas question.filter function xs (in_body question operands lifted old is_lifted world come.all.os) come.inner) (sym is_lifted.inner)
        (record {
          values = map value_or_null come.all.os;
          have =
              subst (AllHave question.filter (within_let old.depth is_lifted.choices operands) (in_body question operands lifted old is_lifted world come.all.os))
              (lifted_values is_lifted.choices operands come.all.os is_lifted.are (as_many question.filter world operands come.all.os come.all.have) come.all.plain ∙ unfaulted come.all.os)
              (body_have question.filter world old.depth is_lifted.choices operands come.all.os at is_lifted.are come.all.have);
          kinds = kinds_in old.depth is_lifted.choices operands (map value_or_null come.all.os) is_lifted.are (kinds_of operands come.all.os come.all.fit);
          within = first_in old.depth is_lifted.choices operands (map value_or_null come.all.os) is_lifted.are (first_of operands come.all.os come.all.fit);
          given = come.given;
        })

    -- with their faults first
    pub of_call : (InnerForm Shown : Outcome → Outcome → Type 0) → ((x : Outcome) → InnerForm come.inner x → Shown come.inner x)
        → FaultsGiven question operands lifted old is_lifted (CalledHas question.filter function lifted.inner.items) InnerForm Shown Same world o
    of_call InnerForm Shown shows = record {
      os = come.all.os;
      have = come.all.have;
      plain = come.all.plain;
      inner = come.inner;
      has = inner_called;
      goes = λ x form. (come.inner, shows x form, come.is);
    }

  module _ (opened fronted body new : Draft) (is_opened : IsOpened lifted old opened)
      (values : PutsAll question (closed body (length lifted.bound.items)) new (AllHave question.filter lifted.bound.items) (length lifted.bound.items))
      (idle : lifted.bound.items ≡ [] → Grows (closed body (length lifted.bound.items)) new []) where
    -- with a carrier
    pub call_put : (carrier : Carrier) → Grows opened fronted (faults_front (Some carrier) lifted.level lifted.bound.items) → Puts question fronted body (CalledHas question.filter function lifted.inner.items) Itself
        → Puts question old new (OfPlace question.filter place) Itself
    call_put carrier front put =
        faults_put question operands lifted old is_lifted opened body new is_opened values idle (CalledHas question.filter function lifted.inner.items) (OfPlace question.filter place) Itself Itself Same Itself
        (carried_put question lifted.bound.items lifted.level opened fronted body (CalledHas question.filter function lifted.inner.items) Itself carrier front put)
        (λ world o at is has.
        of_call world is.seen o at (call_comes question types ends is_moment world is.seen ranges are one_name place function operands here arguments o has) Itself Itself (λ x form. form))

    -- by its code
    pub call_code_put : Grows opened fronted (faults_front None lifted.level lifted.bound.items) → Puts question fronted body (CalledHas question.filter function lifted.inner.items) Coded
        → Puts question old new (OfPlace question.filter place) Coded
    call_code_put front put =
        faults_put question operands lifted old is_lifted opened body new is_opened values idle (CalledHas question.filter function lifted.inner.items) (OfPlace question.filter place) Coded Coded Same Coded
        (coded_put question lifted.bound.items lifted.level opened fronted body (CalledHas question.filter function lifted.inner.items) Coded Same Coded same_coded front put)
        (λ world o at is has.
        of_call world is.seen o at (call_comes question types ends is_moment world is.seen ranges are one_name place function operands here arguments o has) Coded Coded (λ x form. form))

    -- where no argument is a fault
    module _ (plain : (world : World) (o : Outcome) (is : IsWorldOf question new world) → OfPlace question.filter place world o → (come : CallComes question types ends is_moment world is.seen ranges are function operands o)
        → faults_of come.all.os come.inner ≡ come.inner) where
      pub call_plain_put : Grows opened fronted [] → Puts question fronted body (CalledHas question.filter function lifted.inner.items) Itself → Puts question old new (OfPlace question.filter place) Itself
      call_plain_put front put =
          lifted_put question operands lifted old is_lifted opened body new is_opened values idle (CalledHas question.filter function lifted.inner.items) (OfPlace question.filter place) Itself Itself
          (record { t = put.t; shaped = put.shaped; grows = grows_then opened fronted body [] (nodes_of put.t) front put.grows; says = put.says })
          (λ world o at is has.
          let come = call_comes question types ends is_moment world is.seen ranges are one_name place function operands here arguments o has in
          record {
            os = come.all.os;
            have = come.all.have;
            inner = come.inner;
            has = inner_called world is.seen o at come;
            goes = λ x form. form ∙ sym (come.is ∙ plain world o is has come);
          })
