-- What the call that keeps lines borrows, and what it leaves.
use Rattle.std.specs.Prelude.{◌≡◌, ℕ, List, [], ◌∷◌}
use base.Fml.{Fml, fsep, feq, fex}
use denote.RawPtr.{Ptr}
use Rattle.odfilter_c.specs.Loans.{Loan, borrowed_handle, borrowed_judge, borrowed_bytes, borrowed_buffer, borrowed_answer, left_judge, left_buffer, left_answer, unless_null, holds, of_buffer, of_bytes}
use Rattle.call_handles.specs.declared.answer.Answer.{Answer}
use Rattle.odfilter_c.specs.declared.c_types.Bytes.{Bytes}
use Rattle.odfilter_c.specs.declared.c_types.Buffer.{Buffer}
use Rattle.call_handles.specs.declared.handle.Handle.{Handle}
use Rattle.handle_calls.specs.RowReports.{FiltersLines}

-- what `odfilter_filter_lines` borrows: a handle, a judge that may change, bytes, a buffer and the answer
unfoldable pub borrowed_by_filter_lines : Loan → Ptr → Ptr → Bytes → Buffer → Ptr → Fml
borrowed_by_filter_lines l filter judge rows kept answer =
    fsep (borrowed_handle l filter) (fsep (borrowed_judge l judge) (fsep (borrowed_bytes l rows)
    (fsep (borrowed_buffer l kept) (borrowed_answer l answer))))

-- what it leaves: all unchanged and the status 1 where an address may not be null and is, else what `FiltersLines` says
unfoldable pub left_by_filter_lines : Loan → Ptr → Ptr → Bytes → Buffer → Ptr → ℕ → Fml
left_by_filter_lines l filter judge rows kept answer result = unless_null (filter ∷ judge ∷ answer ∷ [])
    (fsep (feq ℕ result 1) (borrowed_by_filter_lines l filter judge rows kept answer))
    (fex Handle (λ judge'. fex (List ℕ) (λ kept'. fex Answer (λ answer'.
    fsep (left_judge l judge judge') (fsep (left_buffer l kept kept') (fsep (left_answer l answer answer')
    (holds (of_buffer kept.at kept.length l.buffer kept'
    ((judge' ≡ l.judge) × ((answer' ≡ l.answer) × (result ≡ 1)))
    (λ old new. of_bytes rows.at rows.length l.bytes
    ((judge' ≡ l.judge) × ((new ≡ old) × ((answer' ≡ l.answer) × (result ≡ 1))))
    (λ bytes. FiltersLines l.handle l.judge judge' bytes old new answer' result))))))))))
