-- What the call of a schema's types borrows, and what it leaves.
use Rattle.std.specs.Prelude.{◌≡◌, ℕ, List, [], ◌∷◌}
use base.Fml.{Fml, fsep, feq, fex}
use denote.RawPtr.{Ptr}
use Rattle.odfilter_c.specs.Loans.{Loan, borrowed_handle, borrowed_buffer, borrowed_answer, left_buffer, left_answer, unless_null, holds, of_buffer}
use Rattle.call_handles.specs.declared.answer.Answer.{Answer}
use Rattle.odfilter_c.specs.declared.c_types.Buffer.{Buffer}
use Rattle.report_calls.specs.Reports.{ReportsTypes}

-- what `odfilter_types` borrows: a handle, a buffer and the answer
unfoldable pub borrowed_by_types : Loan → Ptr → Buffer → Ptr → Fml
borrowed_by_types l given text answer = fsep (borrowed_handle l given) (fsep (borrowed_buffer l text) (borrowed_answer l answer))

-- what it leaves: all unchanged and the status 1 where an address may not be null and is, else what `ReportsTypes` says
unfoldable pub left_by_types : Loan → Ptr → Buffer → Ptr → ℕ → Fml
left_by_types l given text answer result = unless_null (given ∷ answer ∷ [])
    (fsep (feq ℕ result 1) (borrowed_by_types l given text answer))
    (fex (List ℕ) (λ text'. fex Answer (λ answer'.
    fsep (left_buffer l text text') (fsep (left_answer l answer answer')
    (holds (of_buffer text.at text.length l.buffer text' ((answer' ≡ l.answer) × (result ≡ 1))
    (λ old new. ReportsTypes l.handle old new answer' result)))))))
