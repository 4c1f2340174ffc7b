-- What a call of C borrows. Each address is null, or that of a value as a reference has it, borrowed for the call.
use Rattle.std.specs.Prelude.{◌≡◌, ◌<◌, ℕ, List, [], ◌∷◌, length}
use base.Fml.{Fml, Lft, GName, Share, ftrue, fsep, feq, fex, fres, fbor}
use denote.RattleType.{RattleType}
use denote.RawPtr.{Ptr, block_ptr, null_ptr, ptr_val, block_of, count_of}
use denote.Ref.{ShrRef, MutRef}
use denote.Slice.{ShrSlice, MutSlice, slice_val, finally}
use denote.Builtin.{u8}
use denote.Memory.{mem}
use denote.Lend.{Held}
use types.SemTy.{Body}
use mir.Syntax.{static}
use Rattle.std.specs.Ptr.{if_non_null}
use Rattle.call_handles.specs.declared.answer.Answer.{Answer}
use Rattle.odfilter_c.specs.declared.c_types.Bytes.{Bytes}
use Rattle.odfilter_c.specs.declared.c_types.Buffer.{Buffer}
use Rattle.call_handles.specs.declared.handle.Handle.{Handle}
use Rattle.call_handles.specs.declared.owned.Owned.{Owned}
use Rattle.call_handles.specs.contracts.answer.Answer.{the_row as AnswerRow}
use Rattle.call_handles.specs.contracts.handle.Handle.{the_row as HandleRow}
use Rattle.call_handles.specs.contracts.owned.Owned.{the_row as OwnedRow}

-- what stands in the memory that C passes by reference, with the names under which it may change, and for how long; it
-- says nothing of a call that borrows none of these
pub record Loan : Type 0 where
  pub lifetime : Lft
  pub share : Share
  pub handle : Handle
  pub bytes : List ℕ
  pub judge : Handle
  pub judge_name : GName
  pub buffer : List ℕ
  pub buffer_name : GName
  pub made : Owned
  pub made_name : GName
  pub answer : Answer
  pub answer_name : GName
  pub fault : Answer

-- a value that may change
abbrev pub borrowed_place : (R : RattleType) → Lft → GName → Ptr → R.Denot → Fml
borrowed_place R κ γ p x = if_non_null p ((MutRef static κ R).own_val
    (record { ref_ptr = (block_of p, count_of p); ghost_name = γ; now = x }) (ptr_val p ∷ []))

-- and what is left of it: the last value is x
abbrev pub left_place : (R : RattleType) → Lft → GName → Ptr → R.Denot → Fml
left_place R κ γ p x = fsep (fres γ (R.coded.code x)) (fbor κ (Body (mem R) (block_of p) (count_of p) γ))

-- a handle that is read
abbrev pub borrowed_handle : Loan → Ptr → Fml
borrowed_handle l p = if_non_null p ((ShrRef static l.lifetime HandleRow).own_val
    (record { ref_ptr = (block_of p, count_of p); now = l.handle }) (ptr_val p ∷ []))

-- bytes that are read
abbrev pub borrowed_bytes : Loan → Bytes → Fml
borrowed_bytes l s = if_non_null s.at ((ShrSlice static l.lifetime u8).own_val
    (record { ref_ptr = (block_of s.at, count_of s.at); now = l.bytes })
    (slice_val (block_of s.at, count_of s.at) s.length ∷ []))

-- a handle that may change
abbrev pub borrowed_judge : Loan → Ptr → Fml
borrowed_judge l p = borrowed_place HandleRow l.lifetime l.judge_name p l.judge

abbrev pub left_judge : Loan → Ptr → Handle → Fml
left_judge l p x = left_place HandleRow l.lifetime l.judge_name p x

-- buffers
abbrev pub borrowed_buffer : Loan → Buffer → Fml
borrowed_buffer l s = if_non_null s.at ((MutSlice static l.lifetime u8).own_val
    (record { ref_ptr = (block_of s.at, count_of s.at); ghost_name = l.buffer_name; now = l.buffer })
    (slice_val (block_of s.at, count_of s.at) s.length ∷ []))

abbrev pub left_buffer : Loan → Buffer → List ℕ → Fml
left_buffer l s xs = if_non_null s.at (fsep
    (fsep (finally u8 l.buffer_name xs) (feq ℕ (length xs) (length l.buffer)))
    (fbor l.lifetime (Held u8 (length l.buffer) (block_of s.at) (count_of s.at) l.buffer_name)))

-- the variable of a handle that is made
abbrev pub borrowed_made : Loan → Ptr → Fml
borrowed_made l p = borrowed_place OwnedRow l.lifetime l.made_name p l.made

abbrev pub left_made : Loan → Ptr → Owned → Fml
left_made l p x = left_place OwnedRow l.lifetime l.made_name p x

-- an answer
abbrev pub borrowed_answer : Loan → Ptr → Fml
borrowed_answer l p = borrowed_place AnswerRow l.lifetime l.answer_name p l.answer

abbrev pub left_answer : Loan → Ptr → Answer → Fml
left_answer l p x = left_place AnswerRow l.lifetime l.answer_name p x

-- an answer that is read
abbrev pub borrowed_fault : Loan → Ptr → Fml
borrowed_fault l p = if_non_null p ((ShrRef static l.lifetime AnswerRow).own_val
    (record { ref_ptr = (block_of p, count_of p); now = l.fault }) (ptr_val p ∷ []))

-- P of the bytes; at a null address they are an empty text, and with another length than 0 N holds
abbrev pub UnlessLong : ℕ → Type 0 → Type 0 → Type 0
UnlessLong count N P = (count ≡ 0 → P) × (0 < count → N)

abbrev pub of_bytes : Ptr → ℕ → List ℕ → Type 0 → (List ℕ → Type 0) → Type 0
of_bytes (block_ptr b o) count bytes N P = P bytes
of_bytes null_ptr count bytes N P = UnlessLong count N (P [])

-- P of a buffer and of what is written there; at a null address it has no bytes, and with another length than 0 N holds
abbrev pub of_buffer : Ptr → ℕ → List ℕ → List ℕ → Type 0 → (List ℕ → List ℕ → Type 0) → Type 0
of_buffer (block_ptr b o) count old new N P = P old new
of_buffer null_ptr count old new N P = UnlessLong count N ((last : List ℕ) × P [] last)

-- P, or N where the address is null
abbrev pub of_optional : Ptr → Type 0 → Type 0 → Type 0
of_optional (block_ptr b o) N P = P
of_optional null_ptr N P = N

-- F, or N where one of the addresses is null
abbrev pub unless_null : List Ptr → Fml → Fml → Fml
unless_null [] N F = F
unless_null (block_ptr b o ∷ ps) N F = unless_null ps N F
unless_null (null_ptr ∷ ps) N F = N

-- a fact
abbrev pub holds : Type 0 → Fml
holds φ = fex φ (λ _. ftrue)
