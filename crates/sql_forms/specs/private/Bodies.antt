-- For private clauses: bodies that are put over the members of a collection.
use Rattle.std.specs.Prelude.{Bool, true, false, pos}
use Rattle.edm_values.specs.Val.{whole}
use Rattle.odata_syntax.specs.declared.node.Quantifier.{Quantifier}
use Rattle.odata_filter_operations.specs.Outcome.{Outcome, gives}
use Rattle.odata_filter_operations.specs.QuantifierGives.{undecided_val}
use Rattle.sql_meaning.specs.Codes.{code_of}
use Rattle.sql_draft.specs.declared.draft.Draft.{Draft}
use Rattle.sql_forms.specs.declared.terms.Form.{Form}
use Rattle.sql_draft.specs.World.{Has, Puts, Question}
use Rattle.sql_outcomes.specs.private.ItemValues.{IsBodyOf}

-- a body is put over a member of the next level, which says so of each
pub record PutsBody
    (question : Question) (old new : Draft) (Outcomes : Has) (Form : Outcome → Outcome → Type 0) : Type 0 where
  pub before : Draft
  pub after : Draft
  pub begins : IsBodyOf old before
  pub ends : IsBodyOf new after
  pub put : Puts question before after Outcomes Form

-- by its code, or as a condition that is true exactly where it is true
abbrev pub body_form : Bool → Form
body_form true = Form.Code
body_form false = Form.Keeps

-- the code of what a quantifier evaluates to where no member decides
abbrev pub coded_undecided : Quantifier → Outcome
coded_undecided quantifier = gives (whole (pos (code_of (gives (undecided_val quantifier)))))
