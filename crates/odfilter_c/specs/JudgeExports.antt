-- What the calls of judges that have a filter of their own borrow, and what they leave.
use Rattle.std.specs.Prelude.{◌≡◌, ℕ, List, [], ◌∷◌}
use base.Fml.{Fml, fsep, feq, fex}
use denote.RawPtr.{Ptr}
use Rattle.odfilter_c.specs.Loans.{Loan, borrowed_handle, borrowed_judge, borrowed_bytes, borrowed_made, borrowed_answer, left_judge, left_made, left_answer, unless_null, holds, of_bytes}
use Rattle.call_handles.specs.declared.answer.Answer.{Answer}
use Rattle.odfilter_c.specs.declared.c_types.Bytes.{Bytes}
use Rattle.call_handles.specs.declared.handle.Handle.{Handle}
use Rattle.call_handles.specs.declared.owned.Owned.{Owned}
use Rattle.handle_calls.specs.RowReports.{MakesJudgeOf, JudgesNext}
use Rattle.handle_calls.specs.Shares.{Shares}

-- what `odfilter_new_judge_of` borrows: a handle and the new handle's variable
unfoldable pub borrowed_by_new_judge_of : Loan → Ptr → Ptr → Fml
borrowed_by_new_judge_of l filter judge = fsep (borrowed_handle l filter) (borrowed_made l judge)

-- what it leaves: all unchanged and the status 1 where an address may not be null and is, else what `MakesJudgeOf` says
unfoldable pub left_by_new_judge_of : Loan → Ptr → Ptr → ℕ → Fml
left_by_new_judge_of l filter judge result = unless_null (filter ∷ judge ∷ [])
    (fsep (feq ℕ result 1) (borrowed_by_new_judge_of l filter judge))
    (fex Owned (λ judge'.
    fsep (left_made l judge judge') (holds (MakesJudgeOf l.handle judge' result))))

-- what `odfilter_judge_next` borrows: a judge that may change, bytes and the answer
unfoldable pub borrowed_by_judge_next : Loan → Ptr → Bytes → Ptr → Fml
borrowed_by_judge_next l judge row answer = fsep (borrowed_judge l judge) (fsep (borrowed_bytes l row) (borrowed_answer l answer))

-- what it leaves: all unchanged and the status 1 where an address may not be null and is, else what `JudgesNext` says
unfoldable pub left_by_judge_next : Loan → Ptr → Bytes → Ptr → ℕ → Fml
left_by_judge_next l judge row answer result = unless_null (judge ∷ answer ∷ [])
    (fsep (feq ℕ result 1) (borrowed_by_judge_next l judge row answer))
    (fex Handle (λ judge'. fex Answer (λ answer'.
    fsep (left_judge l judge judge') (fsep (left_answer l answer answer')
    (holds (of_bytes row.at row.length l.bytes ((judge' ≡ l.judge) × ((answer' ≡ l.answer) × (result ≡ 1)))
    (λ bytes. JudgesNext l.judge judge' bytes answer' result)))))))

-- what `odfilter_share` borrows: a handle and the new handle's variable
unfoldable pub borrowed_by_share : Loan → Ptr → Ptr → Fml
borrowed_by_share l handle made = fsep (borrowed_handle l handle) (borrowed_made l made)

-- what it leaves: all unchanged and the status 1 where an address may not be null and is, else what `Shares` says
unfoldable pub left_by_share : Loan → Ptr → Ptr → ℕ → Fml
left_by_share l handle made result = unless_null (handle ∷ made ∷ [])
    (fsep (feq ℕ result 1) (borrowed_by_share l handle made))
    (fex Owned (λ made'.
    fsep (left_made l made made') (holds (Shares l.handle made' result))))
