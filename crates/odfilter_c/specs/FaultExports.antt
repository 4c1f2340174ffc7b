-- What the call of a fault whole borrows, and what it leaves.
use Rattle.std.specs.Prelude.{◌≡◌, ℕ, List, [], ◌∷◌}
use base.Fml.{Fml, fsep, feq, fex}
use denote.RawPtr.{Ptr}
use Rattle.odfilter_c.specs.Loans.{Loan, borrowed_fault, borrowed_handle, borrowed_judge, borrowed_bytes, borrowed_buffer, borrowed_made, borrowed_answer, left_judge, left_buffer, left_made, left_answer, unless_null, holds, of_optional, of_buffer, of_bytes}
use Rattle.call_handles.specs.declared.answer.Answer.{Answer}
use Rattle.odfilter_c.specs.declared.c_types.Bytes.{Bytes}
use Rattle.odfilter_c.specs.declared.c_types.Buffer.{Buffer}
use Rattle.report_calls.specs.Sentences.{ReportsSentenceFor, ReportsSentence}

-- what `odfilter_fault_json` borrows: a handle, bytes, a buffer, a fault's answer and the answer
unfoldable pub borrowed_by_fault_json : Loan → Ptr → Bytes → Buffer → Ptr → Ptr → Fml
borrowed_by_fault_json l given text object fault answer =
    fsep (borrowed_handle l given) (fsep (borrowed_bytes l text) (fsep (borrowed_buffer l object)
    (fsep (borrowed_fault l fault) (borrowed_answer l answer))))

-- what it leaves: all unchanged and the status 1 where an address other than the type's is null, else what
-- `ReportsSentence` says, or with a type `ReportsSentenceFor`
unfoldable pub left_by_fault_json : Loan → Ptr → ℕ → Bytes → Buffer → Ptr → Ptr → ℕ → Fml
left_by_fault_json l given status text object fault answer result = unless_null (fault ∷ answer ∷ [])
    (fsep (feq ℕ result 1) (borrowed_by_fault_json l given text object fault answer))
    (fex (List ℕ) (λ object'. fex Answer (λ answer'.
    fsep (left_buffer l object object') (fsep (left_answer l answer answer')
    (holds (of_optional given
    (of_buffer object.at object.length l.buffer object' ((answer' ≡ l.answer) × (result ≡ 1))
    (λ old new. of_bytes text.at text.length l.bytes
    ((new ≡ old) × ((answer' ≡ l.answer) × (result ≡ 1)))
    (λ bytes. ReportsSentence status bytes old new l.fault answer' result)))
    (of_buffer object.at object.length l.buffer object' ((answer' ≡ l.answer) × (result ≡ 1))
    (λ old new. of_bytes text.at text.length l.bytes
    ((new ≡ old) × ((answer' ≡ l.answer) × (result ≡ 1)))
    (λ bytes. ReportsSentenceFor l.handle status bytes old new l.fault answer' result)))))))))
