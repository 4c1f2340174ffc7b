-- What is put for a function over operands that are no faults, and for a count that may lie outside Int32.
use Rattle.sql_forms.proofs.Common.{◌≡◌, ◌++◌, ◌∷◌, [], ◌<◌, ◌+◌, ℕ, ℤ, List, Option, Some, length, map, refl, sym, ap, subst, ◌∙◌, arith, slice_get, MomentParts, Val, PrimitiveType, there_found, number_val, Outcome, gives, overflow, ArithFault, Function, SqlFunctionGives, AllMean, AreValues, NodeMeans, SqlMeans, Asked, Bound, BoundValue, bound_value, Terms, no_terms, more_terms, nodes_of_all, term, Carrier, SqlFunction, SqlNode, Draft, Operand, Source, CalledHas, FunctionHas, IsCounting, IsSqlFunctionOf, Grows, AllHave, SourceHas, Has, IsWorldOf, Puts, PutsAll, Question, World, grows_then, puts_as, puts_one, arity_of_function}
use Rattle.sql_outcomes.specs.private.ValueForms.{Itself}
use Rattle.sql_forms.proofs.puts.ArithmeticPut.{BoundedHas, bounded_put, fault_put}
use Rattle.sql_outcomes.proofs.nodes.Binding.{at_last as at_end, puts_let, puts_more, puts_none}
use Rattle.sql_outcomes.proofs.outcomes.FunctionsMade.{count_parts, counting}
use Rattle.sql_forms.proofs.puts.OperandsPut.{bound_put}
use Rattle.sql_outcomes.proofs.outcomes.Operators.{carried_means}

-- ---- a function over its operands

are_values : (values : List Val) → AreValues (map gives values) values
are_values [] = refl
are_values (v ∷ values) = (refl, are_values values)

-- of one term at least
function_means : (asked : Asked) (bound : Bound) (sql : SqlFunction) (terms : Terms) (v : Val) (values : List Val) (x : Outcome) → AllMean asked bound terms (gives v ∷ map gives values)
    → SqlFunctionGives asked.now sql (v ∷ values) x → NodeMeans asked bound (SqlNode.Function sql) terms x
function_means asked bound sql no_terms v values x all given = let none : gives v ∷ map gives values ≡ [] = all in absurd (cc)
function_means asked bound sql (more_terms first more) v values x all given =
    (gives v, all.0, (map gives values, all.1, (v ∷ values, (refl, are_values values), given)))

module _ (question : Question) where
  pub function_put : (sql : SqlFunction) (operands : List Operand) (old middle new : Draft) → 0 < length operands → length operands ≡ arity_of_function sql → Grows old middle (SqlNode.Function sql ∷ [])
      → PutsAll question middle new (AllHave question.filter operands) (length operands) → Puts question old new (FunctionHas question.filter sql operands) Itself
  function_put sql operands old middle new some many grows all = record {
    t = term (SqlNode.Function sql) all.terms;
    shaped = (all.counted ∙ many, all.shaped);
    grows = grows_then old middle new (SqlNode.Function sql ∷ []) (nodes_of_all all.terms) grows all.grows;
    says = λ world o is has.
        let means = all.says world (map gives has.0) is has.1 in
        let given : SqlFunctionGives world.asked.now sql has.0 o = subst (λ (m : MomentParts). SqlFunctionGives m sql has.0 o) (sym is.now_is) has.2 in
        (o, by_values world has.0 o operands some has.1 means given, refl);
  }
    where
      by_values : (world : World) (values : List Val) (o : Outcome) (ops : List Operand) → 0 < length ops → AllHave question.filter ops world (map gives values) → AllMean world.asked world.bound all.terms (map gives values)
          → SqlFunctionGives world.asked.now sql values o → NodeMeans world.asked world.bound (SqlNode.Function sql) all.terms o
      by_values world values o [] none have means given = absurd (omega (arith, none))
      by_values world [] o (operand ∷ ops) count have means given = absurd have
      by_values world (v ∷ values) o (operand ∷ ops) count have means given = function_means world.asked world.bound sql all.terms v values o means given

  -- ---- as it is

  module _ (function : Function) (sql : SqlFunction) (operands : List Operand) (is_sql : IsSqlFunctionOf function operands sql)
      (same : (world : World) (x o : Outcome) (has : CalledHas question.filter function operands world o) → (is_sql world.now has.values o has.kinds has.given).0 ≡ x → x ≡ o) where
    pub plain_put : (old new : Draft) → Puts question old new (FunctionHas question.filter sql operands) Itself → Puts question old new (CalledHas question.filter function operands) Itself
    plain_put old new put =
        puts_as question old new (FunctionHas question.filter sql operands) (CalledHas question.filter function operands) Itself Itself put
        (λ world o is has.
        let f = is_sql world.now has.values o has.kinds has.given in
        (f.0, (has.values, has.have, f.1), λ y form. form ∙ same world f.0 o has refl))

  -- a value, as its carrier has it
  pub value_carried : (carrier : Carrier) (Inner : Has) (old middle new : Draft) → ((world : World) (o : Outcome) → Inner world o → (v : Val) × (o ≡ gives v)) → Grows old middle (SqlNode.Carried carrier ∷ [])
      → Puts question middle new Inner Itself → Puts question old new Inner Itself
  value_carried carrier Inner old middle new values grows inner =
      puts_one question (SqlNode.Carried carrier) refl (λ x y. (v : Val) × (x ≡ gives v) × (y ≡ gives v)) old middle new Inner Inner Itself Itself
      (λ asked bound a x y means op. subst (NodeMeans asked bound (SqlNode.Carried carrier) (more_terms a no_terms)) (sym op.2) (carried_means asked bound carrier a op.0 (subst (SqlMeans asked bound a) op.1 means)))
      grows inner (λ world o is has. let v = values world o has in (o, has, λ x form. (gives v.0, (v.0, form ∙ v.1, refl), sym v.1)))

  -- ---- a count that is checked

  abbrev pub deeper : Draft → Draft
  deeper draft = record draft { depth = draft.depth + 1 }

  grows_deeper : (old new : Draft) (nodes : List SqlNode) → Grows old new nodes → Grows (deeper old) (deeper new) nodes
  grows_deeper old new nodes grows = record {
    nodes_are = grows.nodes_are;
    paths = grows.paths;
    parameters = grows.parameters;
    numbered = grows.numbered;
    members = grows.members;
    depth = ap (λ (n : ℕ). n + 1) grows.depth;
  }

  -- a number or null that is bound at the level
  abbrev NumberBound : ℕ → Has
  NumberBound level world o = (n : Option ℤ) × SourceHas question.filter (Source.Bound level) world (gives (number_val n)) × (o ≡ gives (number_val n))

  -- one value alone
  abbrev Alone : Has → World → List Outcome → Type 0
  Alone Value world os = (o : Outcome) × Value world o × (os ≡ o ∷ [])

  module _ (function : Function) (sql : SqlFunction) (operands : List Operand) (counts : IsCounting function) (is_sql : IsSqlFunctionOf function operands sql) where
    pub counted_put : (carrier : Carrier) (old d1 d2 d3 d4 d5 d6 d7 d8 new : Draft) → d1.tree.nodes.items ≡ old.tree.nodes.items ++ SqlNode.Let old.depth 1 ∷ [] → d1.tree.paths.items ≡ old.tree.paths.items
        → d1.tree.parameters.items ≡ old.tree.parameters.items → d1.members.items ≡ old.members.items → d1.depth ≡ old.depth
        → Grows d1 d2 (SqlNode.Case ∷ []) → Grows d2 d3 (SqlNode.Not ∷ []) → Grows d3 d4 (SqlNode.Within PrimitiveType.Int32 ∷ []) → Grows d4 d5 (SqlNode.Bound old.depth ∷ [])
        → Grows d5 d6 (SqlNode.Fault Carrier.Number ArithFault.Overflow ∷ []) → Grows d6 d7 (SqlNode.Carried carrier ∷ []) → Grows d7 d8 (SqlNode.Bound old.depth ∷ [])
        → Puts question d8 new (FunctionHas question.filter sql operands) Itself → Puts question old new (CalledHas question.filter function operands) Itself
    counted_put carrier old d1 d2 d3 d4 d5 d6 d7 d8 new nodes paths parameters members depth case_grows not_grows within_grows bound_grows fault_grows carried_grows again_grows put =
        puts_let question old.depth 1 old (deeper d1) (deeper d8) d8 new (Alone (FunctionHas question.filter sql operands)) (BoundedHas question PrimitiveType.Int32 (NumberBound old.depth)) (CalledHas question.filter function operands) Itself Itself
        refl nodes paths parameters members (ap (λ (n : ℕ). n + 1) depth) body refl refl depth_again
        (puts_more question 0 d8 new new (FunctionHas question.filter sql operands) (λ world os. os ≡ []) (Alone (FunctionHas question.filter sql operands)) put
        (puts_none question new (λ world os. os ≡ []) (λ world os is. is))
        (λ world os is has. (has.0, [], has.1, refl, has.2)))
        (λ world o is has.
        let f = is_sql world.now has.values o has.kinds has.given in
        let p = count_parts has.values f.0 o (counting function has.values f.0 o counts f.2) in
        let at : slice_get (world.bound ++ bound_value f.0 ∷ []) old.depth ≡ Some (bound_value f.0) = bound_there world is f.0 in (
          f.0 ∷ [],
          (f.0, (has.values, has.have, f.1), refl),
          refl,
          o,
          (
            p.number,
            p.inside,
            (
              p.number,
              there_found (λ (b : BoundValue). gives (number_val p.number) ≡ b.value) (slice_get (world.bound ++ bound_value f.0 ∷ []) old.depth) (bound_value f.0) at (sym p.is),
              refl,
            ),
            p.inside_given,
            p.given,
          ),
          λ x form. form,
        ))
      where
        depth_again : d8.depth ≡ old.depth
        depth_again = again_grows.depth ∙ carried_grows.depth ∙ fault_grows.depth ∙ bound_grows.depth ∙ within_grows.depth ∙ not_grows.depth ∙ case_grows.depth ∙ depth

        bound_there : (world : World) → IsWorldOf question new world → (x : Outcome) → slice_get (world.bound ++ bound_value x ∷ []) old.depth ≡ Some (bound_value x)
        bound_there world is x =
            ap (λ (k : ℕ). slice_get (world.bound ++ bound_value x ∷ []) k) (sym (is.depth ∙ put.grows.depth ∙ depth_again)) ∙ at_end world.bound (bound_value x)

        -- the number that is bound, or null
        number_put : (from to : Draft) → Grows from to (SqlNode.Bound old.depth ∷ []) → Puts question from to (NumberBound old.depth) Itself
        number_put from to grows =
            puts_as question from to (SourceHas question.filter (Source.Bound old.depth)) (NumberBound old.depth) Itself Itself (bound_put question from to old.depth grows)
            (λ world o is has. (gives (number_val has.0), has.1, λ x form. form ∙ sym has.2))

        body : Puts question (deeper d1) (deeper d8) (BoundedHas question PrimitiveType.Int32 (NumberBound old.depth)) Itself
        body =
            bounded_put question PrimitiveType.Int32 (NumberBound old.depth) (deeper d1) (deeper d2) (deeper d3) (deeper d4) (deeper d5) (deeper d6) (deeper d8)
            (grows_deeper d1 d2 (SqlNode.Case ∷ []) case_grows) (grows_deeper d2 d3 (SqlNode.Not ∷ []) not_grows) (grows_deeper d3 d4 (SqlNode.Within PrimitiveType.Int32 ∷ []) within_grows)
            (number_put (deeper d4) (deeper d5) (grows_deeper d4 d5 (SqlNode.Bound old.depth ∷ []) bound_grows))
            (fault_put question ArithFault.Overflow overflow (deeper d5) (deeper d6) (grows_deeper d5 d6 (SqlNode.Fault Carrier.Number ArithFault.Overflow ∷ []) fault_grows) refl)
            (value_carried carrier (NumberBound old.depth) (deeper d6) (deeper d7) (deeper d8) (λ world o has. (number_val has.0, has.2)) (grows_deeper d6 d7 (SqlNode.Carried carrier ∷ []) carried_grows)
            (number_put (deeper d7) (deeper d8) (grows_deeper d7 d8 (SqlNode.Bound old.depth ∷ []) again_grows)))
