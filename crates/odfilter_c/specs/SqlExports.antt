-- What the calls of conditions of SQL as a handle borrow, and what they leave.
use Rattle.std.specs.Prelude.{◌≡◌, ℕ, List, [], ◌∷◌}
use base.Fml.{Fml, fsep, feq, fex}
use denote.RawPtr.{Ptr}
use Rattle.odfilter_c.specs.Loans.{Loan, borrowed_handle, borrowed_bytes, borrowed_buffer, borrowed_made, borrowed_answer, left_buffer, left_made, left_answer, unless_null, holds, of_buffer, of_bytes}
use Rattle.call_handles.specs.declared.answer.Answer.{Answer}
use Rattle.odfilter_c.specs.declared.c_types.Bytes.{Bytes}
use Rattle.odfilter_c.specs.declared.c_types.Buffer.{Buffer}
use Rattle.call_handles.specs.declared.owned.Owned.{Owned}
use Rattle.report_calls.specs.SqlHandles.{MakesSql, ReportsStatement, ReportsValue}

-- what `odfilter_new_sql` borrows: a handle, bytes, the new handle's variable and the answer
unfoldable pub borrowed_by_new_sql : Loan → Ptr → Bytes → Ptr → Ptr → Fml
borrowed_by_new_sql l filter how conditions answer =
    fsep (borrowed_handle l filter) (fsep (borrowed_bytes l how) (fsep (borrowed_made l conditions) (borrowed_answer l answer)))

-- what it leaves: all unchanged and the status 1 where an address may not be null and is, else what `MakesSql` says
unfoldable pub left_by_new_sql : Loan → Ptr → ℕ → Bytes → Ptr → Ptr → ℕ → Fml
left_by_new_sql l filter form how conditions answer result = unless_null (filter ∷ conditions ∷ answer ∷ [])
    (fsep (feq ℕ result 1) (borrowed_by_new_sql l filter how conditions answer))
    (fex Owned (λ conditions'. fex Answer (λ answer'.
    fsep (left_made l conditions conditions') (fsep (left_answer l answer answer')
    (holds (of_bytes how.at how.length l.bytes ((conditions' ≡ l.made) × ((answer' ≡ l.answer) × (result ≡ 1)))
    (λ bytes. MakesSql l.handle form bytes conditions' answer' result)))))))

-- what `odfilter_sql_text` borrows: a handle, a buffer and the answer
unfoldable pub borrowed_by_sql_text : Loan → Ptr → Buffer → Ptr → Fml
borrowed_by_sql_text l conditions text answer =
    fsep (borrowed_handle l conditions) (fsep (borrowed_buffer l text) (borrowed_answer l answer))

-- what it leaves: all unchanged and the status 1 where an address may not be null and is, else what `ReportsStatement`
-- says
unfoldable pub left_by_sql_text : Loan → Ptr → ℕ → Buffer → Ptr → ℕ → Fml
left_by_sql_text l conditions which text answer result = unless_null (conditions ∷ answer ∷ [])
    (fsep (feq ℕ result 1) (borrowed_by_sql_text l conditions text answer))
    (fex (List ℕ) (λ text'. fex Answer (λ answer'.
    fsep (left_buffer l text text') (fsep (left_answer l answer answer')
    (holds (of_buffer text.at text.length l.buffer text' ((answer' ≡ l.answer) × (result ≡ 1))
    (λ old new. ReportsStatement l.handle which old new answer' result)))))))

-- what `odfilter_sql_value` borrows: a handle, a buffer and the answer
unfoldable pub borrowed_by_sql_value : Loan → Ptr → Buffer → Ptr → Fml
borrowed_by_sql_value l conditions text answer =
    fsep (borrowed_handle l conditions) (fsep (borrowed_buffer l text) (borrowed_answer l answer))

-- what it leaves: all unchanged and the status 1 where an address may not be null and is, else what `ReportsValue` says
unfoldable pub left_by_sql_value : Loan → Ptr → ℕ → ℕ → Buffer → Ptr → ℕ → Fml
left_by_sql_value l conditions which index text answer result = unless_null (conditions ∷ answer ∷ [])
    (fsep (feq ℕ result 1) (borrowed_by_sql_value l conditions text answer))
    (fex (List ℕ) (λ text'. fex Answer (λ answer'.
    fsep (left_buffer l text text') (fsep (left_answer l answer answer')
    (holds (of_buffer text.at text.length l.buffer text' ((answer' ≡ l.answer) × (result ≡ 1))
    (λ old new. ReportsValue l.handle which index old new answer' result)))))))
