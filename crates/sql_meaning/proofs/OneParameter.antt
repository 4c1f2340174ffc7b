-- A parameter stands for one value at most.
use Rattle.std.proofs.Common.{◌≡◌, ℕ, List, string_bytes, sym, ap, ◌∙◌}
use Rattle.edm_values.specs.Civil.{Date}
use Rattle.edm_values.specs.DateLiteral.{DateValue}
use Rattle.edm_values.specs.GuidLiteral.{GuidValue}
use Rattle.edm_values.specs.MomentLiteral.{MomentValue}
use Rattle.edm_values.specs.MomentParts.{MomentParts}
use Rattle.edm_values.specs.Val.{whole, text, date, moment, guid, member}
use Rattle.odata_filter_operations.specs.Outcome.{gives}
use Rattle.sql_tree.specs.declared.sql_node.SqlType.{SqlType}
use Rattle.sql_tree.specs.declared.parameter.Parameter.{Parameter}
use Rattle.sql_meaning.specs.ParameterGives.{ParameterGives}
use Rattle.sql_meaning.proofs.OneStep.{AtMostOne, same_one}

-- a text has one value of each kind
pub record OneLiteral : Type 0 where
  pub dates : (s : List ℕ) (a b : Date) → DateValue s a → DateValue s b → a ≡ b
  pub moments : (s : List ℕ) (a b : MomentParts) → MomentValue s a → MomentValue s b → a ≡ b
  pub guids : (s a b : List ℕ) → GuidValue s a → GuidValue s b → a ≡ b

pub ParameterGives-one : OneLiteral → (type : SqlType) (parameter : Parameter) → AtMostOne (ParameterGives type parameter)
ParameterGives-one one SqlType.Whole (Parameter.Whole n) a b p q = same_one (gives (whole n)) a b p q
ParameterGives-one one SqlType.Member (Parameter.Whole n) a b p q = same_one (gives (member n)) a b p q
ParameterGives-one one SqlType.Instant (Parameter.Instant n) a b p q = same_one (gives (whole n)) a b p q
ParameterGives-one one SqlType.Text (Parameter.Text t) a b p q = same_one (gives (text (string_bytes t))) a b p.1 q.1
ParameterGives-one one SqlType.Date (Parameter.Text t) a b p q =
    p.2 ∙ ap (λ (d : Date). gives (date d)) (one.dates (string_bytes t) p.0 q.0 p.1 q.1) ∙ sym q.2
ParameterGives-one one SqlType.Moment (Parameter.Text t) a b p q =
    p.2 ∙ ap (λ (m : MomentParts). gives (moment m)) (one.moments (string_bytes t) p.0 q.0 p.1 q.1) ∙ sym q.2
ParameterGives-one one SqlType.Guid (Parameter.Text t) a b p q =
    p.3 ∙ ap (λ (bytes : List ℕ). gives (guid bytes)) (one.guids (string_bytes t) p.0 q.0 p.1 q.1) ∙ sym q.3
ParameterGives-one one type parameter a b p q = absurd p
