-- What `not` evaluates to, by what its operand does, and its code.
use Rattle.sql_outcomes.proofs.Common.{◌≡◌, ◌+◌, [], ◌∷◌, ℕ, Bool, true, false, Option, Some, None, refl, sym, subst, boolean, Filter, NodeKind, one_there, scope_of, HasKind, Then, Outcome, gives, NotGives, not3, OneLooked, truth, IsTableOfNot, LookUp, SqlNode, Draft, Grows, IsAskedOf, OfPlace, Puts, Question, World, puts_one, MeansIn, by_kind}
use Rattle.sql_outcomes.specs.TrueWhere.{IsTrueWhere}
use Rattle.sql_outcomes.proofs.outcomes.ChainValues.{Code, IsValue, coded_in, is_false, is_null, is_true}
use Rattle.sql_outcomes.proofs.outcomes.CodeTables.{coded, looked_not, Coded}
use Rattle.sql_outcomes.proofs.outcomes.Operators.{looked_means}
use Rattle.sql_outcomes.specs.NodesGo.{Negates}

pub negates : (filter : Filter) (place : ℕ) → HasKind filter.list place NodeKind.Not → (world : World) (o : Outcome) → OfPlace filter place world o → Negates filter place world o
negates filter place here world o has =
    by_kind filter.schema filter.filtered (scope_of world.environment) filter.list place NodeKind.Not here (λ stop tree. MeansIn world tree o → Negates filter place world o)
    (λ operand stop from to stands means. record {
      operand = means.0;
      has = (operand, record { stop = stop; stands = one_there filter.schema filter.filtered (scope_of world.environment) filter.list (place + 1) stop operand stands.children }, means.1.0);
      given = means.1.1;
    })
    has.1.stop has.0 has.1.stands has.2

-- what `not` makes of an outcome with a code
abbrev pub negated : Outcome → Outcome
negated (gives (boolean true)) = gives (boolean false)
negated (gives (boolean false)) = gives (boolean true)
negated o = o

pub negated_is : (i o : Outcome) → Code i → Then i NotGives o → o ≡ negated i
negated_is _ o is_false given = given
negated_is _ o _ given = given

pub value_negated : (i : Outcome) → Code i → IsValue i → (s : Option Bool) × (i ≡ truth s) × (truth (not3 s) ≡ negated i)
value_negated _ is_false value = (Some false, refl, refl)
value_negated _ is_true value = (Some true, refl, refl)
value_negated _ is_null value = (None, refl, refl)
value_negated _ _ value = absurd value

pub false_of_true : (i : Outcome) → Code i → (i ≡ gives (boolean false) → negated i ≡ gives (boolean true)) × (negated i ≡ gives (boolean true) → i ≡ gives (boolean false))
false_of_true _ is_false = (λ is. refl, λ is. refl)
false_of_true _ _ = (λ is. absurd (cc), λ is. absurd (cc))

pub true_of_false : (i : Outcome) → Code i → (i ≡ gives (boolean true) → negated i ≡ gives (boolean false)) × (negated i ≡ gives (boolean false) → i ≡ gives (boolean true))
true_of_false _ is_true = (λ is. refl, λ is. refl)
true_of_false _ _ = (λ is. absurd (cc), λ is. absurd (cc))

-- true where another fact holds, which is the same
pub where_too : (P Q : Type 0) (x : Outcome) → (P → Q) → (Q → P) → IsTrueWhere P x → IsTrueWhere Q x
where_too P Q x f g is = (is.0, is.1, (λ t. f (is.2.0 t), λ q. is.2.1 (g q)))

module _ (question : Question) (place : ℕ) (here : HasKind question.filter.list place NodeKind.Not)
    (codes : (world : World) (o : Outcome) → IsAskedOf question world → OfPlace question.filter (place + 1) world o → Code o) where
  pub not_code_put : (old middle new : Draft) → IsTableOfNot LookUp.Not → Grows old middle (SqlNode.LookUp LookUp.Not ∷ []) → Puts question middle new (OfPlace question.filter (place + 1)) Coded
      → Puts question old new (OfPlace question.filter place) Coded
  not_code_put old middle new table grows inner =
      puts_one question (SqlNode.LookUp LookUp.Not) refl (OneLooked LookUp.Not) old middle new (OfPlace question.filter (place + 1)) (OfPlace question.filter place) Coded Coded
      (λ asked bound a x y one op. looked_means asked bound LookUp.Not a x y one op) grows inner
      (λ world o is has.
      let n = negates question.filter place here world o has in
      let code = codes world n.operand is.seen n.has in (
        n.operand,
        n.has,
        λ x same. (coded o, subst (λ (z : Outcome). OneLooked LookUp.Not z (coded o)) (sym same) (looked_not table n.operand o (coded_in n.operand code) n.given), refl),
      ))
