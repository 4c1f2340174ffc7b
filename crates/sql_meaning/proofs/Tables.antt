-- The tables of the connectives at each two codes.
use Rattle.std.proofs.Common.{◌≡◌, ◌+◌, ◌*◌, Option, Some, None, Bool, true, false, refl, sym, ap, subst, ◌∙◌}
use Rattle.std.specs.Prelude.{slice_get}
use Rattle.edm_values.specs.Val.{Val, null, boolean, whole, text, date, moment, guid, member, fields, items}
use Rattle.odata_filter_operations.specs.LeftFirst.{After, Then}
use Rattle.odata_filter_operations.specs.Outcome.{Outcome, gives, overflow, divides_by_zero}
use Rattle.odata_filter_operations.specs.TruthGives.{JoinGives, LogicalGives}
use Rattle.odata_syntax.specs.declared.binary_operator.LogicalOperator.{LogicalOperator}
use Rattle.sql_tree.specs.TableDigits.{digits_of}
use Rattle.sql_tree.specs.declared.look_up.LookUp.{LookUp}
use Rattle.sql_meaning.specs.Codes.{IsCoded, code_of}
use Rattle.sql_meaning.specs.Tables.{IsTableOf}

-- what follows the one outcome of the right side
pub of_right : (right o : Outcome) (Goes : Val → Outcome → Type 0) → After (λ r. r ≡ right) Goes o → Then right Goes o
of_right right o Goes h = subst (λ r. Then r Goes o) h.1.0 h.1.1

-- an outcome that is known has its code
pub coded : (known o : Outcome) → o ≡ known → Some (code_of known) ≡ Some (code_of o)
coded known o h = ap (λ x. Some (code_of x)) (sym h)

-- what holds of the five outcomes that have codes holds of each of them
pub by_code : (P : Outcome → Type 0) → P (gives (boolean false)) → P (gives (boolean true)) → P (gives null) → P overflow → P divides_by_zero
    → (o : Outcome) → IsCoded o → P o
by_code P at_false at_true at_null at_overflow at_zero (gives (boolean false)) c = at_false
by_code P at_false at_true at_null at_overflow at_zero (gives (boolean true)) c = at_true
by_code P at_false at_true at_null at_overflow at_zero (gives null) c = at_null
by_code P at_false at_true at_null at_overflow at_zero overflow c = at_overflow
by_code P at_false at_true at_null at_overflow at_zero divides_by_zero c = at_zero
by_code P at_false at_true at_null at_overflow at_zero (gives (whole n)) c = absurd c
by_code P at_false at_true at_null at_overflow at_zero (gives (text s)) c = absurd c
by_code P at_false at_true at_null at_overflow at_zero (gives (date d)) c = absurd c
by_code P at_false at_true at_null at_overflow at_zero (gives (moment m)) c = absurd c
by_code P at_false at_true at_null at_overflow at_zero (gives (guid g)) c = absurd c
by_code P at_false at_true at_null at_overflow at_zero (gives (member n)) c = absurd c
by_code P at_false at_true at_null at_overflow at_zero (gives (fields f)) c = absurd c
by_code P at_false at_true at_null at_overflow at_zero (gives (items v)) c = absurd c

-- the table has the code of the outcome
abbrev At : LookUp → Outcome → Outcome → Outcome → Type 0
At table left right o = slice_get (digits_of table) (5 * code_of left + code_of right) ≡ Some (code_of o)

-- a left side whose row has one code, whatever the right side is
stays : (table : LookUp) (left known right o : Outcome) → At table left (gives (boolean false)) known → At table left (gives (boolean true)) known
    → At table left (gives null) known → At table left overflow known → At table left divides_by_zero known → IsCoded right → o ≡ known → At table left right o
stays table left known right o at_false at_true at_null at_overflow at_zero r is =
    by_code (λ x. At table left x known) at_false at_true at_null at_overflow at_zero right r ∙ coded known o is

-- a left side that does not decide, beside each right side
goes_on : (table : LookUp) (connective : LogicalOperator) (t : Option Bool) (left right o : Outcome)
    → ((x : Outcome) → IsCoded x → Then x (JoinGives connective t) o → At table left x o)
    → IsCoded right → After (λ y. y ≡ right) (JoinGives connective t) o → At table left right o
goes_on table connective t left right o each r h = each right r (of_right right o (JoinGives connective t) h)

and_true : (o x : Outcome) → IsCoded x → Then x (JoinGives LogicalOperator.And (Some true)) o → At LookUp.And (gives (boolean true)) x o
and_true o = by_code (λ x. Then x (JoinGives LogicalOperator.And (Some true)) o → At LookUp.And (gives (boolean true)) x o)
    (coded (gives (boolean false)) o) (coded (gives (boolean true)) o) (coded (gives null) o) (coded overflow o) (coded divides_by_zero o)

and_null : (o x : Outcome) → IsCoded x → Then x (JoinGives LogicalOperator.And None) o → At LookUp.And (gives null) x o
and_null o = by_code (λ x. Then x (JoinGives LogicalOperator.And None) o → At LookUp.And (gives null) x o)
    (coded (gives (boolean false)) o) (coded (gives null) o) (coded (gives null) o) (coded overflow o) (coded divides_by_zero o)

pub and_table : IsTableOf LookUp.And LogicalOperator.And
and_table left right o l r =
    by_code (λ x. Then x (λ v. LogicalGives LogicalOperator.And v (λ y. y ≡ right)) o → At LookUp.And x right o)
    (stays LookUp.And (gives (boolean false)) (gives (boolean false)) right o refl refl refl refl refl r)
    (goes_on LookUp.And LogicalOperator.And (Some true) (gives (boolean true)) right o (and_true o) r)
    (goes_on LookUp.And LogicalOperator.And None (gives null) right o (and_null o) r)
    (stays LookUp.And overflow overflow right o refl refl refl refl refl r)
    (stays LookUp.And divides_by_zero divides_by_zero right o refl refl refl refl refl r) left l

or_false : (o x : Outcome) → IsCoded x → Then x (JoinGives LogicalOperator.Or (Some false)) o → At LookUp.Or (gives (boolean false)) x o
or_false o = by_code (λ x. Then x (JoinGives LogicalOperator.Or (Some false)) o → At LookUp.Or (gives (boolean false)) x o)
    (coded (gives (boolean false)) o) (coded (gives (boolean true)) o) (coded (gives null) o) (coded overflow o) (coded divides_by_zero o)

or_null : (o x : Outcome) → IsCoded x → Then x (JoinGives LogicalOperator.Or None) o → At LookUp.Or (gives null) x o
or_null o = by_code (λ x. Then x (JoinGives LogicalOperator.Or None) o → At LookUp.Or (gives null) x o)
    (coded (gives null) o) (coded (gives (boolean true)) o) (coded (gives null) o) (coded overflow o) (coded divides_by_zero o)

pub or_table : IsTableOf LookUp.Or LogicalOperator.Or
or_table left right o l r =
    by_code (λ x. Then x (λ v. LogicalGives LogicalOperator.Or v (λ y. y ≡ right)) o → At LookUp.Or x right o)
    (goes_on LookUp.Or LogicalOperator.Or (Some false) (gives (boolean false)) right o (or_false o) r)
    (stays LookUp.Or (gives (boolean true)) (gives (boolean true)) right o refl refl refl refl refl r)
    (goes_on LookUp.Or LogicalOperator.Or None (gives null) right o (or_null o) r)
    (stays LookUp.Or overflow overflow right o refl refl refl refl refl r)
    (stays LookUp.Or divides_by_zero divides_by_zero right o refl refl refl refl refl r) left l
