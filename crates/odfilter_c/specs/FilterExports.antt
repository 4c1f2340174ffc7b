-- What the calls of a filter, and of the one in a whole query, borrow, and what they leave.
use Rattle.std.specs.Prelude.{◌≡◌, ℕ, List, [], ◌∷◌}
use base.Fml.{Fml, fsep, feq, fex}
use denote.RawPtr.{Ptr}
use Rattle.odfilter_c.specs.Loans.{Loan, borrowed_fault, borrowed_handle, borrowed_judge, borrowed_bytes, borrowed_buffer, borrowed_made, borrowed_answer, left_judge, left_buffer, left_made, left_answer, unless_null, holds, of_optional, of_buffer, of_bytes}
use Rattle.call_handles.specs.declared.answer.Answer.{Answer}
use Rattle.odfilter_c.specs.declared.c_types.Bytes.{Bytes}
use Rattle.odfilter_c.specs.declared.c_types.Buffer.{Buffer}
use Rattle.call_handles.specs.declared.handle.Handle.{Handle}
use Rattle.call_handles.specs.declared.owned.Owned.{Owned}
use Rattle.handle_calls.specs.UrlCalls.{ChecksUrl}
use Rattle.handle_calls.specs.Reports.{ReportsCanonical, ReportsNodes}
use Rattle.report_calls.specs.Reports.{ReportsSql}
use Rattle.handle_calls.specs.Costs.{ReportsNodeCount, ReportsLambdaDepth, ReportsPaths}
use Rattle.report_calls.specs.Sentences.{ReportsSentenceFor, ReportsSentence}

-- what `odfilter_check_url` borrows: a handle, bytes, a buffer, the new handle's variable and the answer
unfoldable pub borrowed_by_check_url : Loan → Ptr → Bytes → Buffer → Ptr → Ptr → Fml
borrowed_by_check_url l given query text made answer =
    fsep (borrowed_handle l given) (fsep (borrowed_bytes l query) (fsep (borrowed_buffer l text)
    (fsep (borrowed_made l made) (borrowed_answer l answer))))

-- what it leaves: all unchanged and the status 1 where an address may not be null and is, else what `ChecksUrl` says
unfoldable pub left_by_check_url : Loan → Ptr → Bytes → Buffer → Ptr → Ptr → ℕ → Fml
left_by_check_url l given query text made answer result = unless_null (given ∷ made ∷ answer ∷ [])
    (fsep (feq ℕ result 1) (borrowed_by_check_url l given query text made answer))
    (fex (List ℕ) (λ text'. fex Owned (λ made'. fex Answer (λ answer'.
    fsep (left_buffer l text text') (fsep (left_made l made made') (fsep (left_answer l answer answer')
    (holds (of_buffer text.at text.length l.buffer text'
    ((made' ≡ l.made) × ((answer' ≡ l.answer) × (result ≡ 1)))
    (λ old new. of_bytes query.at query.length l.bytes
    ((new ≡ old) × ((made' ≡ l.made) × ((answer' ≡ l.answer) × (result ≡ 1))))
    (λ bytes. ChecksUrl l.handle bytes old new made' answer' result))))))))))

-- what `odfilter_sql` borrows: a handle, bytes, a buffer and the answer
unfoldable pub borrowed_by_sql : Loan → Ptr → Bytes → Buffer → Ptr → Fml
borrowed_by_sql l filter how text answer =
    fsep (borrowed_handle l filter) (fsep (borrowed_bytes l how) (fsep (borrowed_buffer l text) (borrowed_answer l answer)))

-- what it leaves: all unchanged and the status 1 where an address may not be null and is, else what `ReportsSql` says
unfoldable pub left_by_sql : Loan → Ptr → ℕ → Bytes → Buffer → Ptr → ℕ → Fml
left_by_sql l filter form how text answer result = unless_null (filter ∷ answer ∷ [])
    (fsep (feq ℕ result 1) (borrowed_by_sql l filter how text answer))
    (fex (List ℕ) (λ text'. fex Answer (λ answer'.
    fsep (left_buffer l text text') (fsep (left_answer l answer answer')
    (holds (of_buffer text.at text.length l.buffer text' ((answer' ≡ l.answer) × (result ≡ 1))
    (λ old new. of_bytes how.at how.length l.bytes
    ((new ≡ old) × ((answer' ≡ l.answer) × (result ≡ 1)))
    (λ bytes. ReportsSql l.handle form bytes old new answer' result))))))))

-- what `odfilter_canonical` borrows: a handle, a buffer and the answer
unfoldable pub borrowed_by_canonical : Loan → Ptr → Buffer → Ptr → Fml
borrowed_by_canonical l filter text answer = fsep (borrowed_handle l filter) (fsep (borrowed_buffer l text) (borrowed_answer l answer))

-- what it leaves: all unchanged and the status 1 where an address may not be null and is, else what `ReportsCanonical`
-- says
unfoldable pub left_by_canonical : Loan → Ptr → Buffer → Ptr → ℕ → Fml
left_by_canonical l filter text answer result = unless_null (filter ∷ answer ∷ [])
    (fsep (feq ℕ result 1) (borrowed_by_canonical l filter text answer))
    (fex (List ℕ) (λ text'. fex Answer (λ answer'.
    fsep (left_buffer l text text') (fsep (left_answer l answer answer')
    (holds (of_buffer text.at text.length l.buffer text' ((answer' ≡ l.answer) × (result ≡ 1))
    (λ old new. ReportsCanonical l.handle old new answer' result)))))))

-- what `odfilter_explain` borrows: a handle, a buffer and the answer
unfoldable pub borrowed_by_explain : Loan → Ptr → Buffer → Ptr → Fml
borrowed_by_explain l filter text answer = fsep (borrowed_handle l filter) (fsep (borrowed_buffer l text) (borrowed_answer l answer))

-- what it leaves: all unchanged and the status 1 where an address may not be null and is, else what `ReportsNodes` says
unfoldable pub left_by_explain : Loan → Ptr → Buffer → Ptr → ℕ → Fml
left_by_explain l filter text answer result = unless_null (filter ∷ answer ∷ [])
    (fsep (feq ℕ result 1) (borrowed_by_explain l filter text answer))
    (fex (List ℕ) (λ text'. fex Answer (λ answer'.
    fsep (left_buffer l text text') (fsep (left_answer l answer answer')
    (holds (of_buffer text.at text.length l.buffer text' ((answer' ≡ l.answer) × (result ≡ 1))
    (λ old new. ReportsNodes l.handle old new answer' result)))))))

-- what `odfilter_node_count` borrows: a handle and the answer
unfoldable pub borrowed_by_node_count : Loan → Ptr → Ptr → Fml
borrowed_by_node_count l filter answer = fsep (borrowed_handle l filter) (borrowed_answer l answer)

-- what it leaves: all unchanged and the status 1 where an address may not be null and is, else what `ReportsNodeCount`
-- says
unfoldable pub left_by_node_count : Loan → Ptr → Ptr → ℕ → Fml
left_by_node_count l filter answer result = unless_null (filter ∷ answer ∷ [])
    (fsep (feq ℕ result 1) (borrowed_by_node_count l filter answer))
    (fex Answer (λ answer'.
    fsep (left_answer l answer answer') (holds (ReportsNodeCount l.handle answer' result))))

-- what `odfilter_lambda_depth` borrows: a handle and the answer
unfoldable pub borrowed_by_lambda_depth : Loan → Ptr → Ptr → Fml
borrowed_by_lambda_depth l filter answer = fsep (borrowed_handle l filter) (borrowed_answer l answer)

-- what it leaves: all unchanged and the status 1 where an address may not be null and is, else what
-- `ReportsLambdaDepth` says
unfoldable pub left_by_lambda_depth : Loan → Ptr → Ptr → ℕ → Fml
left_by_lambda_depth l filter answer result = unless_null (filter ∷ answer ∷ [])
    (fsep (feq ℕ result 1) (borrowed_by_lambda_depth l filter answer))
    (fex Answer (λ answer'.
    fsep (left_answer l answer answer') (holds (ReportsLambdaDepth l.handle answer' result))))

-- what `odfilter_property_paths` borrows: a handle, a buffer and the answer
unfoldable pub borrowed_by_property_paths : Loan → Ptr → Buffer → Ptr → Fml
borrowed_by_property_paths l filter paths answer =
    fsep (borrowed_handle l filter) (fsep (borrowed_buffer l paths) (borrowed_answer l answer))

-- what it leaves: all unchanged and the status 1 where an address may not be null and is, else what `ReportsPaths` says
unfoldable pub left_by_property_paths : Loan → Ptr → Buffer → Ptr → ℕ → Fml
left_by_property_paths l filter paths answer result = unless_null (filter ∷ answer ∷ [])
    (fsep (feq ℕ result 1) (borrowed_by_property_paths l filter paths answer))
    (fex (List ℕ) (λ paths'. fex Answer (λ answer'.
    fsep (left_buffer l paths paths') (fsep (left_answer l answer answer')
    (holds (of_buffer paths.at paths.length l.buffer paths' ((answer' ≡ l.answer) × (result ≡ 1))
    (λ old new. ReportsPaths l.handle old new answer' result)))))))

-- what `odfilter_fault_text` borrows: a handle, bytes, a buffer, a fault's answer and the answer
unfoldable pub borrowed_by_fault_text : Loan → Ptr → Bytes → Buffer → Ptr → Ptr → Fml
borrowed_by_fault_text l given text sentence fault answer =
    fsep (borrowed_handle l given) (fsep (borrowed_bytes l text) (fsep (borrowed_buffer l sentence)
    (fsep (borrowed_fault l fault) (borrowed_answer l answer))))

-- what it leaves: all unchanged and the status 1 where an address other than the type's is null, else what
-- `ReportsSentence` says, or with a type `ReportsSentenceFor`
unfoldable pub left_by_fault_text : Loan → Ptr → ℕ → Bytes → Buffer → Ptr → Ptr → ℕ → Fml
left_by_fault_text l given status text sentence fault answer result = unless_null (fault ∷ answer ∷ [])
    (fsep (feq ℕ result 1) (borrowed_by_fault_text l given text sentence fault answer))
    (fex (List ℕ) (λ sentence'. fex Answer (λ answer'.
    fsep (left_buffer l sentence sentence') (fsep (left_answer l answer answer')
    (holds (of_optional given
    (of_buffer sentence.at sentence.length l.buffer sentence' ((answer' ≡ l.answer) × (result ≡ 1))
    (λ old new. of_bytes text.at text.length l.bytes
    ((new ≡ old) × ((answer' ≡ l.answer) × (result ≡ 1)))
    (λ bytes. ReportsSentence status bytes old new l.fault answer' result)))
    (of_buffer sentence.at sentence.length l.buffer sentence' ((answer' ≡ l.answer) × (result ≡ 1))
    (λ old new. of_bytes text.at text.length l.bytes
    ((new ≡ old) × ((answer' ≡ l.answer) × (result ≡ 1)))
    (λ bytes. ReportsSentenceFor l.handle status bytes old new l.fault answer' result)))))))))
