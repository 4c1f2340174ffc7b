-- What each call borrows, and what it leaves.
use Rattle.std.specs.Prelude.{◌≡◌, ℕ, List, [], ◌∷◌}
use base.Fml.{Fml, fsep, feq, fex}
use denote.RawPtr.{Ptr}
use Rattle.odfilter_c.specs.Loans.{Loan, borrowed_fault, borrowed_handle, borrowed_judge, borrowed_bytes, borrowed_buffer, borrowed_made, borrowed_answer, left_judge, left_buffer, left_made, left_answer, unless_null, holds, of_optional, of_buffer, of_bytes}
use Rattle.call_handles.specs.declared.answer.Answer.{Answer}
use Rattle.odfilter_c.specs.declared.c_types.Bytes.{Bytes}
use Rattle.odfilter_c.specs.declared.c_types.Buffer.{Buffer}
use Rattle.call_handles.specs.declared.handle.Handle.{Handle}
use Rattle.call_handles.specs.declared.owned.Owned.{Owned}
use Rattle.handle_calls.specs.Reports.{ReadsSchema, FindsType, ChecksText, ChecksQuery, Frees}
use Rattle.report_calls.specs.Reports.{ReportsVersion, ReportsStatus, ReportsFault}
use Rattle.handle_calls.specs.RowReports.{ReportsNeed, MakesJudge, SetsBound, SetsMoment, JudgesOne, ReportsPath}

-- what `odfilter_read_schema` borrows: bytes, a buffer, the new handle's variable and the answer
unfoldable pub borrowed_by_read_schema : Loan → Bytes → Buffer → Ptr → Ptr → Fml
borrowed_by_read_schema l document names schema answer =
    fsep (borrowed_bytes l document) (fsep (borrowed_buffer l names) (fsep (borrowed_made l schema) (borrowed_answer l answer)))

-- what it leaves: all unchanged and the status 1 where an address may not be null and is, else what `ReadsSchema` says
unfoldable pub left_by_read_schema : Loan → Bytes → Buffer → Ptr → Ptr → ℕ → Fml
left_by_read_schema l document names schema answer result = unless_null (schema ∷ answer ∷ [])
    (fsep (feq ℕ result 1) (borrowed_by_read_schema l document names schema answer))
    (fex (List ℕ) (λ names'. fex Owned (λ schema'. fex Answer (λ answer'.
    fsep (left_buffer l names names') (fsep (left_made l schema schema') (fsep (left_answer l answer answer')
    (holds (of_buffer names.at names.length l.buffer names'
    ((schema' ≡ l.made) × ((answer' ≡ l.answer) × (result ≡ 1)))
    (λ old new. of_bytes document.at document.length l.bytes
    ((new ≡ old) × ((schema' ≡ l.made) × ((answer' ≡ l.answer) × (result ≡ 1))))
    (λ bytes. ReadsSchema bytes old new schema' answer' result))))))))))

-- what `odfilter_find_type` borrows: a handle, bytes and the new handle's variable
unfoldable pub borrowed_by_find_type : Loan → Ptr → Bytes → Ptr → Fml
borrowed_by_find_type l schema name made = fsep (borrowed_handle l schema) (fsep (borrowed_bytes l name) (borrowed_made l made))

-- what it leaves: all unchanged and the status 1 where an address may not be null and is, else what `FindsType` says
unfoldable pub left_by_find_type : Loan → Ptr → Bytes → Ptr → ℕ → Fml
left_by_find_type l schema name made result = unless_null (schema ∷ made ∷ [])
    (fsep (feq ℕ result 1) (borrowed_by_find_type l schema name made))
    (fex Owned (λ made'.
    fsep (left_made l made made')
    (holds (of_bytes name.at name.length l.bytes ((made' ≡ l.made) × (result ≡ 1))
    (λ bytes. FindsType l.handle bytes made' result)))))

-- what `odfilter_check` borrows: a handle, bytes, the new handle's variable and the answer
unfoldable pub borrowed_by_check : Loan → Ptr → Bytes → Ptr → Ptr → Fml
borrowed_by_check l given text made answer =
    fsep (borrowed_handle l given) (fsep (borrowed_bytes l text) (fsep (borrowed_made l made) (borrowed_answer l answer)))

-- what it leaves: all unchanged and the status 1 where an address may not be null and is, else what `ChecksText` says
unfoldable pub left_by_check : Loan → Ptr → Bytes → Ptr → Ptr → ℕ → Fml
left_by_check l given text made answer result = unless_null (given ∷ made ∷ answer ∷ [])
    (fsep (feq ℕ result 1) (borrowed_by_check l given text made answer))
    (fex Owned (λ made'. fex Answer (λ answer'.
    fsep (left_made l made made') (fsep (left_answer l answer answer')
    (holds (of_bytes text.at text.length l.bytes ((made' ≡ l.made) × ((answer' ≡ l.answer) × (result ≡ 1)))
    (λ bytes. ChecksText l.handle bytes made' answer' result)))))))

-- what `odfilter_check_query` borrows: a handle, bytes, the new handle's variable and the answer
unfoldable pub borrowed_by_check_query : Loan → Ptr → Bytes → Ptr → Ptr → Fml
borrowed_by_check_query l given query made answer =
    fsep (borrowed_handle l given) (fsep (borrowed_bytes l query) (fsep (borrowed_made l made) (borrowed_answer l answer)))

-- what it leaves: all unchanged and the status 1 where an address may not be null and is, else what `ChecksQuery` says
unfoldable pub left_by_check_query : Loan → Ptr → Bytes → Ptr → Ptr → ℕ → Fml
left_by_check_query l given query made answer result = unless_null (given ∷ made ∷ answer ∷ [])
    (fsep (feq ℕ result 1) (borrowed_by_check_query l given query made answer))
    (fex Owned (λ made'. fex Answer (λ answer'.
    fsep (left_made l made made') (fsep (left_answer l answer answer')
    (holds (of_bytes query.at query.length l.bytes ((made' ≡ l.made) × ((answer' ≡ l.answer) × (result ≡ 1)))
    (λ bytes. ChecksQuery l.handle bytes made' answer' result)))))))

-- what `odfilter_needs_moment` borrows: a handle and the answer
unfoldable pub borrowed_by_needs_moment : Loan → Ptr → Ptr → Fml
borrowed_by_needs_moment l filter answer = fsep (borrowed_handle l filter) (borrowed_answer l answer)

-- what it leaves: all unchanged and the status 1 where an address may not be null and is, else what `ReportsNeed` says
unfoldable pub left_by_needs_moment : Loan → Ptr → Ptr → ℕ → Fml
left_by_needs_moment l filter answer result = unless_null (filter ∷ answer ∷ [])
    (fsep (feq ℕ result 1) (borrowed_by_needs_moment l filter answer))
    (fex Answer (λ answer'.
    fsep (left_answer l answer answer') (holds (ReportsNeed l.handle answer' result))))

-- what `odfilter_new_judge` borrows: the new handle's variable
unfoldable pub borrowed_by_new_judge : Loan → Ptr → Fml
borrowed_by_new_judge l judge = borrowed_made l judge

-- what it leaves: all unchanged and the status 1 where an address may not be null and is, else what `MakesJudge` says
unfoldable pub left_by_new_judge : Loan → Ptr → ℕ → Fml
left_by_new_judge l judge result = unless_null (judge ∷ [])
    (fsep (feq ℕ result 1) (borrowed_by_new_judge l judge))
    (fex Owned (λ judge'.
    fsep (left_made l judge judge') (holds (MakesJudge judge' result))))

-- what `odfilter_set_moment` borrows: a judge that may change and bytes
unfoldable pub borrowed_by_set_moment : Loan → Ptr → Bytes → Fml
borrowed_by_set_moment l judge moment = fsep (borrowed_judge l judge) (borrowed_bytes l moment)

-- what it leaves: all unchanged and the status 1 where an address may not be null and is, else what `SetsMoment` says
unfoldable pub left_by_set_moment : Loan → Ptr → Bytes → ℕ → Fml
left_by_set_moment l judge moment result = unless_null (judge ∷ [])
    (fsep (feq ℕ result 1) (borrowed_by_set_moment l judge moment))
    (fex Handle (λ judge'.
    fsep (left_judge l judge judge')
    (holds (of_bytes moment.at moment.length l.bytes ((judge' ≡ l.judge) × (result ≡ 1))
    (λ bytes. SetsMoment l.judge judge' bytes result)))))

-- what `odfilter_set_bound` borrows: a judge that may change
unfoldable pub borrowed_by_set_bound : Loan → Ptr → Fml
borrowed_by_set_bound l judge = borrowed_judge l judge

-- what it leaves: all unchanged and the status 1 where an address may not be null and is, else what `SetsBound` says
unfoldable pub left_by_set_bound : Loan → Ptr → ℕ → ℕ → Fml
left_by_set_bound l judge most result = unless_null (judge ∷ [])
    (fsep (feq ℕ result 1) (borrowed_by_set_bound l judge))
    (fex Handle (λ judge'.
    fsep (left_judge l judge judge') (holds (SetsBound l.judge judge' most result))))

-- what `odfilter_judge` borrows: a handle, a judge that may change, bytes and the answer
unfoldable pub borrowed_by_judge : Loan → Ptr → Ptr → Bytes → Ptr → Fml
borrowed_by_judge l filter judge row answer =
    fsep (borrowed_handle l filter) (fsep (borrowed_judge l judge) (fsep (borrowed_bytes l row) (borrowed_answer l answer)))

-- what it leaves: all unchanged and the status 1 where an address may not be null and is, else what `JudgesOne` says
unfoldable pub left_by_judge : Loan → Ptr → Ptr → Bytes → Ptr → ℕ → Fml
left_by_judge l filter judge row answer result = unless_null (filter ∷ judge ∷ answer ∷ [])
    (fsep (feq ℕ result 1) (borrowed_by_judge l filter judge row answer))
    (fex Handle (λ judge'. fex Answer (λ answer'.
    fsep (left_judge l judge judge') (fsep (left_answer l answer answer')
    (holds (of_bytes row.at row.length l.bytes ((judge' ≡ l.judge) × ((answer' ≡ l.answer) × (result ≡ 1)))
    (λ bytes. JudgesOne l.handle l.judge judge' bytes answer' result)))))))

-- what `odfilter_path` borrows: a handle, a buffer and the answer
unfoldable pub borrowed_by_path : Loan → Ptr → Buffer → Ptr → Fml
borrowed_by_path l judge path answer = fsep (borrowed_handle l judge) (fsep (borrowed_buffer l path) (borrowed_answer l answer))

-- what it leaves: all unchanged and the status 1 where an address may not be null and is, else what `ReportsPath` says
unfoldable pub left_by_path : Loan → Ptr → Buffer → Ptr → ℕ → Fml
left_by_path l judge path answer result = unless_null (judge ∷ answer ∷ [])
    (fsep (feq ℕ result 1) (borrowed_by_path l judge path answer))
    (fex (List ℕ) (λ path'. fex Answer (λ answer'.
    fsep (left_buffer l path path') (fsep (left_answer l answer answer')
    (holds (of_buffer path.at path.length l.buffer path' ((answer' ≡ l.answer) × (result ≡ 1))
    (λ old new. ReportsPath l.handle old new answer' result)))))))

-- what `odfilter_free` borrows: a handle's variable
unfoldable pub borrowed_by_free : Loan → Ptr → Fml
borrowed_by_free l handle = borrowed_made l handle

-- what it leaves: all unchanged and the status 1 where an address may not be null and is, else what `Frees` says
unfoldable pub left_by_free : Loan → Ptr → ℕ → Fml
left_by_free l handle result = unless_null (handle ∷ [])
    (fsep (feq ℕ result 1) (borrowed_by_free l handle))
    (fex Owned (λ handle'.
    fsep (left_made l handle handle') (holds (Frees l.made handle' result))))

-- what `odfilter_version` borrows: a buffer and the answer
unfoldable pub borrowed_by_version : Loan → Buffer → Ptr → Fml
borrowed_by_version l text answer = fsep (borrowed_buffer l text) (borrowed_answer l answer)

-- what it leaves: all unchanged and the status 1 where an address may not be null and is, else what `ReportsVersion`
-- says
unfoldable pub left_by_version : Loan → Buffer → Ptr → ℕ → Fml
left_by_version l text answer result = unless_null (answer ∷ [])
    (fsep (feq ℕ result 1) (borrowed_by_version l text answer))
    (fex (List ℕ) (λ text'. fex Answer (λ answer'.
    fsep (left_buffer l text text') (fsep (left_answer l answer answer')
    (holds (of_buffer text.at text.length l.buffer text' ((answer' ≡ l.answer) × (result ≡ 1))
    (λ old new. ReportsVersion old new answer' result)))))))

-- what `odfilter_status_name` borrows: a buffer and the answer
unfoldable pub borrowed_by_status_name : Loan → Buffer → Ptr → Fml
borrowed_by_status_name l text answer = fsep (borrowed_buffer l text) (borrowed_answer l answer)

-- what it leaves: all unchanged and the status 1 where an address may not be null and is, else what `ReportsStatus`
-- says
unfoldable pub left_by_status_name : Loan → ℕ → Buffer → Ptr → ℕ → Fml
left_by_status_name l status text answer result = unless_null (answer ∷ [])
    (fsep (feq ℕ result 1) (borrowed_by_status_name l text answer))
    (fex (List ℕ) (λ text'. fex Answer (λ answer'.
    fsep (left_buffer l text text') (fsep (left_answer l answer answer')
    (holds (of_buffer text.at text.length l.buffer text' ((answer' ≡ l.answer) × (result ≡ 1))
    (λ old new. ReportsStatus status old new answer' result)))))))

-- what `odfilter_fault_name` borrows: a buffer and the answer
unfoldable pub borrowed_by_fault_name : Loan → Buffer → Ptr → Fml
borrowed_by_fault_name l text answer = fsep (borrowed_buffer l text) (borrowed_answer l answer)

-- what it leaves: all unchanged and the status 1 where an address may not be null and is, else what `ReportsFault` says
unfoldable pub left_by_fault_name : Loan → ℕ → ℕ → Buffer → Ptr → ℕ → Fml
left_by_fault_name l status fault text answer result = unless_null (answer ∷ [])
    (fsep (feq ℕ result 1) (borrowed_by_fault_name l text answer))
    (fex (List ℕ) (λ text'. fex Answer (λ answer'.
    fsep (left_buffer l text text') (fsep (left_answer l answer answer')
    (holds (of_buffer text.at text.length l.buffer text' ((answer' ≡ l.answer) × (result ≡ 1))
    (λ old new. ReportsFault status fault old new answer' result)))))))
