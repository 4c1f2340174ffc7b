-- What a call evaluates to whose arguments are texts, where no value is made of these.
use Rattle.std.proofs.Common.{◌≡◌, ℕ, ◌+◌, List, [], ◌∷◌, refl, subst}
use Rattle.std.specs.Prelude.{string_bytes}
use Rattle.std.specs.declared.borrow.CowStr.TheVariants as cow
use Rattle.edm_values.specs.Val.{text}
use Rattle.edm_values.specs.declared.datum.Datum.{Datum}
use Rattle.edm_values.specs.declared.datum.Datum.TheVariants as datum
use Rattle.edm_values.specs.declared.value.Value.{Value, Text}
use Rattle.odata_signatures.specs.declared.function.Function.{Function}
use Rattle.odata_eval.specs.private.KeptOperands.{AnswersCall, AnswersLast, AnswersText}
use Rattle.filter_context.specs.private.Place.{HasCall, IsStopOf, PartStands}
use Rattle.filter_context.specs.private.EvalContext.{EndsOnceHere}
use Rattle.filter_context.specs.private.ContextModel.{ContextModel}
use Rattle.odata_eval.specs.private.WalkAnswer.{AnswersKept}
use Rattle.odata_eval.proofs.walking.CallSteps.{OneName, argument_stands, call_gives, first_argument}
use Rattle.odata_eval.proofs.walking.KeptValues.{kept_value}

-- a text as an argument
abbrev text_datum : List ℕ → Datum
text_datum given = datum.Text (cow.Borrowed (record { ref_ptr = (0, 0); now = given }))

-- a kept text is the text that is answered
pub kept_text : (context : ContextModel) (place : ℕ) (value : Value) (held : _) → value ≡ Text held → AnswersKept context place value → AnswersText context place (string_bytes held)
kept_text context place value held is kept =
    kept_value context place (Text held) (subst (AnswersKept context place) is kept) (text (string_bytes held)) refl

module _ (context : ContextModel) (names : OneName) (place : ℕ) (function : Function) (here : HasCall context.list place function) (own : ℕ) (is_own : IsStopOf context.list place own)
    (part : PartStands context place) where
  pub first_stands : PartStands context (place + 1)
  first_stands = argument_stands context names place function here own is_own (place + 1) [] part refl (first_argument context names place function here own is_own part)

  module _ (ends : EndsOnceHere context) where
    -- the only argument stops with the call
    pub only_text : (stop : ℕ) → IsStopOf context.list (place + 1) stop → stop ≡ own → (given : List ℕ) → AnswersText context (place + 1) given → AnswersCall context place function given
    only_text stop is_stop same given answers o gives =
        call_gives context names place function here own is_own ends (text_datum given ∷ [])
        (stop, is_stop, first_argument context names place function here own is_own part, answers, same) o (λ r. gives)

    module _ (second : ℕ) (is_second : IsStopOf context.list (place + 1) second) (further : ¬ (second ≡ own)) where
      pub second_stands : (given : List ℕ) → AnswersText context (place + 1) given → PartStands context second
      second_stands given answers =
          argument_stands context names place function here own is_own second (text_datum given ∷ []) part
          (second, is_second, first_argument context names place function here own is_own part, answers, refl) further

      -- so does the second and last one
      pub last_text : (stop : ℕ) → IsStopOf context.list second stop → stop ≡ own → (last : List ℕ) → AnswersText context second last → AnswersLast context place function last
      last_text stop is_stop same last answers given o first gives =
          call_gives context names place function here own is_own ends (text_datum given ∷ text_datum last ∷ [])
          (second, is_second, first_argument context names place function here own is_own part, first, (stop, is_stop, further, answers, same)) o (λ r. gives)
