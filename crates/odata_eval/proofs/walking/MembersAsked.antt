-- What a lambda operator evaluates to over the members that have been asked so far.
use Rattle.std.proofs.Common.{◌≡◌, ℕ, ◌<◌, ◌≤◌, ◌+◌, List, [], ◌∷◌, Bool, true, false, not, Option, Some, None, Ok, Err, drop, get_or, length, refl, slice_get, suc, sym, ap, subst, zero}
use Rattle.std.specs.List.{AllByRecursion}
use Rattle.std.proofs.lemmas.List.{at_drop_all, at_drop_more}
use Rattle.edm_values.specs.Val.{boolean}
use Rattle.edm_values.specs.declared.value.Value.{Value}
use Rattle.odata_syntax.specs.Tree.{Tree}
use Rattle.odata_syntax.specs.declared.node.Quantifier.{Quantifier}
use Rattle.csdl_schema.specs.ExprType.{ExprType}
use Rattle.csdl_schema.specs.SchemaModel.{slots_of}
use Rattle.edm_entities.specs.Row.{val_of}
use Rattle.odata_checked_filter.specs.Calls.{TakesMemory}
use Rattle.odata_filter_operations.specs.LeftFirst.{After}
use Rattle.odata_meaning.specs.OneByOne.{GoesOn, MembersGo}
use Rattle.odata_filter_operations.specs.Outcome.{Outcome, gives}
use Rattle.odata_filter_operations.specs.QuantifierGives.{IsUndecided, undecided_val}
use Rattle.odata_filter_operations.specs.TruthGives.{truth_val}
use Rattle.odata_filter_operations.specs.FaultView.{fault_outcome}
use Rattle.odata_filter_operations.specs.declared.eval_fault.EvalFault.{EvalFault}
use Rattle.filter_context.specs.declared.frames.RangeVariable.{RangeVariable}
use Rattle.filter_context.specs.Frames.{frame_of}
use Rattle.odata_eval.specs.private.Lambda.{AnswersMembers, BodyIsThere, BodyMeans, BodyStands, BodyTyped, type_of_variable, vals_of}
use Rattle.filter_context.specs.private.Place.{TruthStands}
use Rattle.filter_context.specs.private.ContextModel.{ContextModel, with_frame}
use Rattle.odata_eval.specs.private.WalkAnswer.{AnswersTruth}
use Rattle.filter_context.specs.private.AnswersAtPlace.{AnswersAtPlace}
use Rattle.odata_meaning.proofs.meaning.OneByOne.{passes_on}
use Rattle.filter_context.proofs.Parts.{reports_there}
use Rattle.filter_context.proofs.Spines.{fault_stays}

-- ---- one value of the body

decides : (quantifier : Quantifier) (More : Outcome → Type 0) (truth : Option Bool) (other : Bool) → boolean other ≡ undecided_val quantifier
    → (IsUndecided quantifier (truth_val truth) → ⊥) → GoesOn quantifier More (truth_val truth) (gives (boolean (not other)))
decides Quantifier.Any More (Some true) false is decided = refl
decides Quantifier.Any More (Some true) true is decided = absurd (cc)
decides Quantifier.Any More (Some false) other is decided = absurd (decided tt)
decides Quantifier.Any More None other is decided = absurd (decided tt)
decides Quantifier.All More (Some true) other is decided = absurd (decided tt)
decides Quantifier.All More (Some false) true is decided = refl
decides Quantifier.All More (Some false) false is decided = absurd (cc)
decides Quantifier.All More None true is decided = refl
decides Quantifier.All More None false is decided = absurd (cc)

-- ---- the members

-- what each of them is, the one at an index is
pub each_is : (P : Value → Type 0) (members : List Value) (k : ℕ) (member : Value) → AllByRecursion P members → slice_get members k ≡ Some member → P member
each_is P [] k member all at = absurd (cc)
each_is P (first ∷ more) zero member all at = let is : first ≡ member = cc in subst P is all.0
each_is P (first ∷ more) (suc k) member all at = each_is P more k member all.1 at

-- ---- the body with the variable at a value

pub body_truth : (context : ContextModel) (variable : RangeVariable) (place : ℕ) (value : Value) → BodyIsThere context variable place → TruthStands (with_frame context (frame_of variable value)) place
body_truth context variable place value body = record { stop = body.stop; tree = body.body; stands = body.stands; type_of = body.type_of; typed = body.typed; allowed = body.truth }

-- ---- members one after another

module _ (context : ContextModel) (place : ℕ) (quantifier : Quantifier) (variable : RangeVariable) (members : List Value) where
  -- what members evaluate to
  abbrev pub GoOver : Tree → List Value → Outcome → Type 0
  GoOver body some = MembersGo quantifier (BodyMeans context variable body) (vals_of (slots_of context.row.schema) (type_of_variable context variable) some)

  -- what is left evaluates to is what all evaluate to
  pub record MembersLeft (index : ℕ) : Type 0 where
    pub of_body : (stop : ℕ) (body : Tree) (type : ExprType) → BodyStands context variable place stop body → BodyTyped context variable body type
        → (o : Outcome) → GoOver body (drop index members) o → GoOver body members o

  pub none_yet : MembersLeft 0
  none_yet = record { of_body = λ stop body type stands typed o goes. goes }

  module _ (index : ℕ) (left : MembersLeft index) (within : index < length members) (member : Value) where
    -- the member at an index and those after it
    member_first : get_or members index member ≡ member → (body : Tree) (o : Outcome) → GoOver body (member ∷ drop (index + 1) members) o → GoOver body (drop index members) o
    member_first is body o goes =
        let rest : drop index members ≡ get_or members index member ∷ drop (index + 1) members = at_drop_more (λ (xs : List Value). xs) members index member within in
        subst (λ (xs : List Value). GoOver body xs o) (sym rest) (subst (λ (v : Value). GoOver body (v ∷ drop (index + 1) members) o) (sym is) goes)

    module _ (is : get_or members index member ≡ member) where
      pub undecided_at : (truth : Option Bool) → AnswersTruth (with_frame context (frame_of variable member)) place (Ok truth) → IsUndecided quantifier (truth_val truth)
          → MembersLeft (index + 1)
      undecided_at truth answers undecided = record {
        of_body = λ stop body type stands typed o goes.
            left.of_body stop body type stands typed o
            (member_first is body o (gives (truth_val truth), (answers.of_tree stop body type stands typed, passes_on quantifier (GoOver body (drop (index + 1) members)) (truth_val truth) undecided o goes)));
      }

      pub decided_at : (truth : Option Bool) (other : Bool) → AnswersTruth (with_frame context (frame_of variable member)) place (Ok truth)
          → boolean other ≡ undecided_val quantifier → (IsUndecided quantifier (truth_val truth) → ⊥) → AnswersMembers context place quantifier variable members (Ok (Some (not other)))
      decided_at truth other answers is_other decided = record {
        of_body = λ stop body type stands typed.
            let o = gives (boolean (not other)) in
            left.of_body stop body type stands typed o
            (member_first is body o (gives (truth_val truth), (answers.of_tree stop body type stands typed, decides quantifier (GoOver body (drop (index + 1) members)) truth other is_other decided)));
      }

      pub fault_at : (fault : EvalFault) → AnswersAtPlace (with_frame context (frame_of variable member)) place (λ type. fault_outcome fault)
          → AnswersMembers context place quantifier variable members (Err fault)
      fault_at fault answers = record {
        of_body = λ stop body type stands typed.
            let More = GoOver body (drop (index + 1) members) in
            let v = val_of member (slots_of context.row.schema).properties (type_of_variable context variable) in
            reports_there (fault_outcome fault) (TakesMemory body) (TakesMemory body) (After (BodyMeans context variable body v) (GoesOn quantifier More)) (GoOver body members) (λ takes. takes)
            (λ o goes. left.of_body stop body type stands typed o (member_first is body o goes))
            (fault_stays fault (TakesMemory body) (TakesMemory body) (BodyMeans context variable body v) (GoesOn quantifier More) (λ takes. takes) (answers.of_tree stop body type stands typed));
      }

  -- no member decided
  pub all_undecided : (index : ℕ) → MembersLeft index → length members ≤ index → (other : Bool) → boolean other ≡ undecided_val quantifier
      → AnswersMembers context place quantifier variable members (Ok (Some other))
  all_undecided index left past other is = record {
    of_body = λ stop body type stands typed.
        let rest : drop index members ≡ [] = at_drop_all (λ (xs : List Value). xs) members index past in
        left.of_body stop body type stands typed (gives (boolean other))
        (subst (λ (xs : List Value). GoOver body xs (gives (boolean other))) (sym rest) (ap gives is));
  }
