-- What the functions return that put calls.
use Rattle.sql_forms.proofs.Common.{◌≡◌, ◌⊎◌, inl, inr, ◌<ℤ◌, ◌++◌, ◌∷◌, ◌∙◌, [], ℕ, pos, List, Bool, true, false, Option, Some, None, Result, OnOk, length, refl, sym, ap, subst, append-nil, IfNone, IfSome, slice_get, IsMoment, Val, null, whole, PrimitiveType, IsFilter, CheckedNode, NodeKind, found_there, some_there, EndsOnceOnEntities, HasKind, OneType, Outcome, gives, ArithFault, IsWithin, Range, IsNamed, row_of, Function, code_of_truth, truth, Carrier, SqlFunction, SqlNode, Draft, Operand, Kind, Lifted, Form, AreArgumentsOf, CalledHas, FunctionHas, IsCarriedFunction, IsCounting, IsSqlFunctionOf, IsTimeFunction, IsUnbound, IsUncounted, carried_nodes, Grows, GrowsBy, kind_of_type, type_of_primitive, AllHave, IsLifted, IsOpened, carried_front, faults_front, faults_of, AreRanges, IsPlainAt, IsTruthAt, IsTruthKind, IsAskedOf, OfPlace, Puts, PutsAll, Question, World, by_node, on_both, puts_one, where_ok}
use Rattle.sql_forms.specs.Forms.{IsInForm}
use Rattle.sql_outcomes.specs.private.ValueForms.{Itself}
use Rattle.sql_forms.proofs.answers.MemberAnswers.{after_nothing}
use Rattle.sql_outcomes.proofs.nodes.CallKinds.{IsTruthFunction, call_kind, called_truth, gives_truth, no_fault_first, plain_first, text_value, times_uncarried, truth_function, uncarried}
use Rattle.sql_outcomes.proofs.nodes.CallNodes.{CallComes}
use Rattle.sql_outcomes.proofs.outcomes.CodeTables.{coded, Coded}
use Rattle.sql_outcomes.proofs.outcomes.FunctionsMade.{IsOfRange, counting, no_count, small_count}
use Rattle.sql_outcomes.proofs.outcomes.LiftedValues.{as_many}
use Rattle.sql_forms.proofs.puts.CallPut.{call_code_put, call_plain_put, call_put}
use Rattle.sql_forms.proofs.puts.CalledPut.{counted_put, plain_put, value_carried}
use Rattle.sql_forms.proofs.puts.FaultyComparisonsPut.{code_is, truth_code_node}
use Rattle.sql_forms.proofs.puts.FormsPut.{range_there}
use Rattle.sql_forms.proofs.lets.LiftedPut.{closed}

-- a value, where there can be no fault
value_in : (range : Range) (o : Outcome) → IsWithin range o → range.may_fault ≡ false → (v : Val) × (o ≡ gives v)
value_in range (gives v) within plain = (v, refl)
value_in range _ within plain = let clash : true ≡ false = sym within ∙ plain in absurd (cc)

-- ---- functions of operands

counts_or_not : (f : Function) → IsCounting f ⊎ (IsCounting f → ⊥)
counts_or_not Function.Length = inl tt
counts_or_not Function.IndexOf = inl tt
counts_or_not _ = inr (λ counts. counts)

-- a count that cannot lie outside its type, or none at all
abbrev pub IsSmall : Function → List Operand → Type 0
IsSmall function operands = (IsCounting function → ⊥) ⊎ ((range : Range) × IsOfRange range operands × (pos 2_147_483_647 <ℤ range.high → ⊥))

pub small_of : (function : Function) (operands : List Operand) (first : Operand) → slice_get operands 0 ≡ Some first → (pos 2_147_483_647 <ℤ first.range.high → ⊥) → IsSmall function operands
small_of function [] first at small = (let none : None ≡ Some first = at in absurd (cc))
small_of function (operand ∷ operands) first at small =
    let same : operand ≡ first = cc at in
    inr (first.range, ap (λ (o : Operand). o.range) same, small)

module _ (question : Question) (function : Function) (operands : List Operand) (small : IsSmall function operands) where
  -- what the function of SQL makes is what the filter's does
  module _ (sql : SqlFunction) (is_sql : IsSqlFunctionOf function operands sql) where
    same_made : (world : World) (x o : Outcome) (has : CalledHas question.filter function operands world o) → (is_sql world.now has.values o has.kinds has.given).0 ≡ x → x ≡ o
    same_made world x o has is =
        let f = is_sql world.now has.values o has.kinds has.given in
        sym is ∙ by f.0 f.2 small has
      where
        by : (y : Outcome) → IsUncounted function has.values y o → IsSmall function operands → CalledHas question.filter function operands world o → y ≡ o
        by y u (inl none) held = no_count function has.values y o none u
        by y u (inr few) held = counted y u few (counts_or_not function)
          where
            counted : (z : Outcome) → IsUncounted function has.values z o → (range : Range) × IsOfRange range operands × (pos 2_147_483_647 <ℤ range.high → ⊥) → IsCounting function ⊎ (IsCounting function → ⊥) → z ≡ o
            counted z u few (inl counts) = small_count few.0 few.2 operands has.values z o few.1 has.within (counting function has.values z o counts u)
            counted z u few (inr none) = no_count function has.values z o none u

    called_put : (old new : Draft) → Puts question old new (FunctionHas question.filter sql operands) Itself → Puts question old new (CalledHas question.filter function operands) Itself
    called_put old new put = plain_put question function sql operands is_sql same_made old new put

    -- a value, of what can be carried
    carried_value : IsCarriedFunction function → (world : World) (o : Outcome) → CalledHas question.filter function operands world o → (v : Val) × (o ≡ gives v)
    carried_value carried world o has = by (counts_or_not function)
      where
        of_count : (x : Outcome) → x ≡ o → IsUnbound has.values x o → (v : Val) × (o ≡ gives v)
        of_count x same (inl none) = (null, none.1)
        of_count x same (inr count) = (whole count.0, sym same ∙ count.1)

        by : IsCounting function ⊎ (IsCounting function → ⊥) → (v : Val) × (o ≡ gives v)
        by (inl counts) =
            let f = is_sql world.now has.values o has.kinds has.given in
            of_count f.0 (same_made world f.0 o has refl) (counting function has.values f.0 o counts f.2)
        by (inr none) = text_value world.now function has.values o carried none has.given

  pub ok_called : {T E : Type 0} (r : Result T E) (carrier : Option Carrier) → IfSome carrier (λ c. IsCarriedFunction function) → (old middle new : Draft) → Grows old middle (carried_nodes carrier)
      → OnOk r ((sql : SqlFunction) × IsSqlFunctionOf function operands sql × Puts question middle new (FunctionHas question.filter sql operands) Itself)
      → OnOk r (Puts question old new (CalledHas question.filter function operands) Itself)
  ok_called r (Some carrier) carried old middle new grows put =
      where_ok (λ (p : (sql : SqlFunction) × IsSqlFunctionOf function operands sql × Puts question middle new (FunctionHas question.filter sql operands) Itself). value_carried question carrier (CalledHas question.filter function operands) old middle new (carried_value p.0 p.1 carried) grows (called_put p.0 p.1 middle new p.2)) r put
  ok_called r None carried old middle new grows put =
      where_ok (λ (p : (sql : SqlFunction) × IsSqlFunctionOf function operands sql × Puts question middle new (FunctionHas question.filter sql operands) Itself). after_nothing question old middle new (CalledHas question.filter function operands) Itself grows (called_put p.0 p.1 middle new p.2)) r put

-- a count that may lie outside its type
module _ (question : Question) (function : Function) (operands : List Operand) (counts : IsCounting function) where
  pub ok_counted : {T E : Type 0} (r : Result T E) (level : ℕ) (old d1 d2 d3 d4 d5 d6 d7 d8 new : Draft) → level ≡ old.depth → GrowsBy old d1 (SqlNode.Let level 1 ∷ []) [] []
      → GrowsBy d1 d2 (SqlNode.Case ∷ []) [] [] → GrowsBy d2 d3 (SqlNode.Not ∷ []) [] [] → GrowsBy d3 d4 (SqlNode.Within PrimitiveType.Int32 ∷ []) [] [] → GrowsBy d4 d5 (SqlNode.Bound level ∷ []) [] []
      → GrowsBy d5 d6 (SqlNode.Fault Carrier.Number ArithFault.Overflow ∷ []) [] [] → GrowsBy d6 d7 (SqlNode.Carried Carrier.Number ∷ []) [] [] → GrowsBy d7 d8 (SqlNode.Bound level ∷ []) [] []
      → OnOk r ((sql : SqlFunction) × IsSqlFunctionOf function operands sql × Puts question d8 new (FunctionHas question.filter sql operands) Itself)
      → OnOk r (Puts question old new (CalledHas question.filter function operands) Itself)
  ok_counted r level old d1 d2 d3 d4 d5 d6 d7 d8 new is g1 g2 g3 g4 g5 g6 g7 g8 put =
      where_ok (λ (p : (sql : SqlFunction) × IsSqlFunctionOf function operands sql × Puts question d8 new (FunctionHas question.filter sql operands) Itself). counted_put question function p.0 operands counts p.1 Carrier.Number old d1 d2 d3 d4 d5 d6 d7 d8 new
      (g1.nodes_are ∙ ap (λ (n : ℕ). old.tree.nodes.items ++ SqlNode.Let n 1 ∷ []) is) (g1.paths_are ∙ append-nil old.tree.paths.items) (g1.parameters_are ∙ append-nil old.tree.parameters.items) g1.members g1.depth
      (by_node d1 d2 SqlNode.Case refl g2) (by_node d2 d3 SqlNode.Not refl g3) (by_node d3 d4 (SqlNode.Within PrimitiveType.Int32) refl g4) (bound_there d4 d5 g5)
      (by_node d5 d6 (SqlNode.Fault Carrier.Number ArithFault.Overflow) refl g6) (by_node d6 d7 (SqlNode.Carried Carrier.Number) refl g7) (bound_there d7 d8 g8) p.2) r put
    where
      bound_there : (from to : Draft) → GrowsBy from to (SqlNode.Bound level ∷ []) [] [] → Grows from to (SqlNode.Bound old.depth ∷ [])
      bound_there from to grows = subst (λ (n : ℕ). Grows from to (SqlNode.Bound n ∷ [])) is (by_node from to (SqlNode.Bound level) refl grows)

-- ---- the call at an index

module _ (question : Question) (types : OneType) (ends : EndsOnceOnEntities) (is_moment : IsMoment question.now.civil question.now.offset_minutes)
    (one_name : (f g : Function) (asked : List ℕ) → IsNamed f asked → IsNamed g asked → f ≡ g) (ranges : List Range) (are : AreRanges question ranges) (right : IsFilter question.filter) (place : ℕ) (function : Function)
    (here : HasKind question.filter.list place (NodeKind.Call function)) (operands : List Operand) (arguments : AreArgumentsOf question.filter ranges place operands)
    (lifted : Lifted) (old : Draft) (is_lifted : IsLifted operands old.depth lifted) where
  node_kind : (n : CheckedNode) → slice_get question.filter.list.nodes place ≡ Some n → kind_of_type n.edm_type ≡ Kind.Value (type_of_primitive (row_of function).gives)
  node_kind n at = call_kind question.filter right one_name place function here n at

  -- where nothing carries a fault, there is none
  no_faults : (IsCarriedFunction function → ⊥) → IsPlainAt question.filter ranges place → (world : World) (o : Outcome) (seen : IsAskedOf question world) → OfPlace question.filter place world o
      → (come : CallComes question types ends is_moment world seen ranges are function operands o) → faults_of come.all.os come.inner ≡ come.inner
  no_faults none plain world o seen has come = by (uncarried function none)
    where
      by : IsTruthFunction function ⊎ IsTimeFunction function → faults_of come.all.os come.inner ≡ come.inner
      by (inl is_truth) =
          let n = some_there (λ (found : CheckedNode). found.kind ≡ NodeKind.Call function) (slice_get question.filter.list.nodes place) here in
          let range = range_there question ranges are place n.0 n.1.0 in
          let v = value_in range.0 o (are.within place range.0 world o range.1 seen has) (plain n.0 range.0 n.1.0 range.1 (node_kind n.0 n.1.0 ∙ gives_truth function is_truth)) in
          no_fault_first come.all.os come.inner o v.0 come.is v.1
      by (inr is_time) = plain_first operands come.all.os come.inner (times_uncarried function operands is_time come.all.suit) come.all.plain (as_many question.filter world operands come.all.os come.all.have)

  is_truth_function : IsTruthAt question.filter place → IsTruthFunction function
  is_truth_function truth_at =
      let n = some_there (λ (found : CheckedNode). found.kind ≡ NodeKind.Call function) (slice_get question.filter.list.nodes place) here in
      let kind = found_there (λ (found : CheckedNode). IsTruthKind (kind_of_type found.edm_type)) (slice_get question.filter.list.nodes place) n.0 n.1.0 truth_at in
      truth_function function (subst IsTruthKind (node_kind n.0 n.1.0) kind)

  module _ {T E : Type 0} (r : Result T E) (opened fronted body new : Draft) (is_opened : IsOpened lifted old opened)
      (values : OnOk r (PutsAll question (closed body (length lifted.bound.items)) new (AllHave question.filter lifted.bound.items) (length lifted.bound.items)))
      (idle : OnOk r (lifted.bound.items ≡ [] → Grows (closed body (length lifted.bound.items)) new [])) where
    pub ok_call : (carrier : Option Carrier) → IfNone carrier (IsCarriedFunction function → ⊥) → IsPlainAt question.filter ranges place → Grows opened fronted (carried_front carrier lifted.level lifted.bound.items)
        → Puts question fronted body (CalledHas question.filter function lifted.inner.items) Itself → OnOk r (Puts question old new (OfPlace question.filter place) Itself)
    ok_call (Some carrier) none plain front put =
        on_both r (PutsAll question (closed body (length lifted.bound.items)) new (AllHave question.filter lifted.bound.items) (length lifted.bound.items)) (lifted.bound.items ≡ [] → Grows (closed body (length lifted.bound.items)) new [])
        (Puts question old new (OfPlace question.filter place) Itself)
        (λ v i. call_put question types ends is_moment one_name ranges are place function here operands arguments lifted old is_lifted opened fronted body new is_opened v i carrier front put) values idle
    ok_call None none plain front put =
        on_both r (PutsAll question (closed body (length lifted.bound.items)) new (AllHave question.filter lifted.bound.items) (length lifted.bound.items)) (lifted.bound.items ≡ [] → Grows (closed body (length lifted.bound.items)) new [])
        (Puts question old new (OfPlace question.filter place) Itself)
        (λ v i. call_plain_put question types ends is_moment one_name ranges are place function here operands arguments lifted old is_lifted opened fronted body new is_opened v i
        (λ world o is has come. no_faults none plain world o is.seen has come) front put) values idle

    -- by its code
    pub ok_call_code : IsTruthAt question.filter place → Grows opened fronted (faults_front None lifted.level lifted.bound.items) → (coding : Draft) → GrowsBy fronted coding (SqlNode.TruthCode ∷ []) [] []
        → Puts question coding body (CalledHas question.filter function lifted.inner.items) Itself → OnOk r (Puts question old new (OfPlace question.filter place) (IsInForm Form.Code))
    ok_call_code truth_at front coding grows put =
        on_both r (PutsAll question (closed body (length lifted.bound.items)) new (AllHave question.filter lifted.bound.items) (length lifted.bound.items)) (lifted.bound.items ≡ [] → Grows (closed body (length lifted.bound.items)) new [])
        (Puts question old new (OfPlace question.filter place) (IsInForm Form.Code))
        (λ v i. call_code_put question types ends is_moment one_name ranges are place function here operands arguments lifted old is_lifted opened fronted body new is_opened v i front
        (puts_one question SqlNode.TruthCode refl (λ x y. (t : Option Bool) × (x ≡ truth t) × (y ≡ code_of_truth t)) fronted coding body (CalledHas question.filter function lifted.inner.items)
        (CalledHas question.filter function lifted.inner.items) Itself Coded truth_code_node (by_node fronted coding SqlNode.TruthCode refl grows) put
        (λ world o is has.
        let t = called_truth world.now function has.values o (is_truth_function truth_at) has.given in
        (o, has, λ x same. (code_of_truth t.0, (t.0, same ∙ t.1, refl), code_is t.0 ∙ ap coded (sym t.1)))))) values idle
