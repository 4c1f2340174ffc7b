-- How the reads of a run add up, and why no more is read.
use Rattle.std.proofs.Common.{◌≡◌, ℕ, ◌+◌, ◌≤◌, List, [], ◌++◌, length, Option, None, Some, IfSome, inl, inr, ◌⊎◌, refl, sym, ap, ◌∙◌, arith, length-append}
use Rattle.std.specs.Prelude.{◌↔◌}
use Rattle.std.specs.Io.KnownBytes.{Consumes, Keeps}
use Rattle.std.proofs.KnownBytes.{Consumes-nil, Consumes-trans}
use Rattle.line_filter.specs.declared.call_log.CallLog.{CallLog}
use Rattle.line_filter.specs.declared.line_reader.Course.{Course}
use Rattle.line_filter.specs.declared.line_reader.LineFault.{LineFault}
use Rattle.line_filter.specs.CallLogs.{after_work, after_failure, StaysWell}
use Rattle.line_filter.specs.LineSource.{LineSource}
use Rattle.line_filter.specs.LineStreams.{IsReadOut, WhyUnread}
use Rattle.line_filter.specs.private.Giving.{IsGoing}
use Rattle.line_filter.specs.private.Reading.{IsUnread, ReadsCounted, ReadsOn, ReadsWell}
use Rattle.line_filter.proofs.DeviceLaws.Called.{stays_well_refl, stays_well_trans, stays_well_by_work, fails_last_by_failure, fails_last_after}

-- a failed read took nothing
Consumes-kept_all : (a b : Option (List ℕ)) → Keeps a b → Consumes a b []
Consumes-kept_all None b kept = tt
Consumes-kept_all (Some x) None kept = absurd kept
Consumes-kept_all (Some x) (Some y) kept = sym kept

-- where no more bytes may be read, those that might came
counted_out : (a b : Option (List ℕ)) (bytes : List ℕ) (most left : ℕ) → Consumes a b bytes → length bytes + left ≡ most → left ≡ 0 → IfSome a (λ all. most ≤ length all)
counted_out None b bytes most left consumed counted none = tt
counted_out (Some x) None bytes most left consumed counted none = absurd consumed
counted_out (Some x) (Some y) bytes most left consumed counted none =
    let all : length x ≡ length bytes + length y = ap length consumed ∙ length-append bytes y in omega arith

module _ {R : Type 0} (calls : R → CallLog) (remaining : R → Option (List ℕ)) where
  counted_refl : (a b : LineSource R) → b.reader ≡ a.reader → b.unread ≡ a.unread → ReadsCounted remaining a b
  counted_refl a b reader unread = ([], rw reader (Consumes-nil (remaining a.reader)), omega (arith, unread))

  counted_trans : (a b c : LineSource R) → ReadsCounted remaining a b → ReadsCounted remaining b c → ReadsCounted remaining a c
  counted_trans a b c (xs, first, m) (ys, second, n) =
      (xs ++ ys, Consumes-trans _ _ _ xs ys first second, omega (arith, length-append xs ys))

  counted_read_out : (a b : LineSource R) → ReadsCounted remaining a b → b.unread ≡ 0 → IsReadOut remaining a b
  counted_read_out a b (bytes, consumed, counted) none =
      (none, counted_out (remaining a.reader) (remaining b.reader) bytes a.unread b.unread consumed counted none)

  -- ---- nothing was read

  pub reads_none : (a b : LineSource R) → b.reader ≡ a.reader → b.unread ≡ a.unread → ¬ IsUnread b → ReadsOn calls remaining a b
  reads_none a b reader unread not = record {
    counted = counted_refl a b reader unread;
    well = λ well. rw reader (stays_well_refl (calls a.reader));
    unread = λ is. absurd (not is);
  }

  pub reads_refl : (a : LineSource R) → ReadsOn calls remaining a a
  reads_refl a = record {
    counted = counted_refl a a refl refl;
    well = λ well. stays_well_refl (calls a.reader);
    unread = λ is. inr (stays_well_refl (calls a.reader), inr is);
  }

  -- as many bytes were read as may be
  pub reads_out : (a b : LineSource R) → b.reader ≡ a.reader → b.unread ≡ a.unread → a.unread ≡ 0 → ReadsOn calls remaining a b
  reads_out a b reader unread none =
      let stays : StaysWell (calls a.reader) (calls b.reader) = rw reader (stays_well_refl (calls a.reader)) in
      let counted = counted_refl a b reader unread in
      record {
        counted = counted;
        well = λ well. stays;
        unread = λ is. inr (stays, inl (counted_read_out a b counted (unread ∙ none)));
      }

  -- ---- one read

  pub reads_worked : (a b : LineSource R) → ReadsCounted remaining a b → calls b.reader ≡ after_work (calls a.reader) → ¬ IsUnread b → ReadsOn calls remaining a b
  reads_worked a b counted worked not = record {
    counted = counted;
    well = λ well. stays_well_by_work (calls a.reader) (calls b.reader) worked;
    unread = λ is. absurd (not is);
  }

  pub reads_failed : (a b : LineSource R) → Keeps (remaining a.reader) (remaining b.reader) → b.unread ≡ a.unread → calls b.reader ≡ after_failure (calls a.reader) → IsUnread b
      → ReadsOn calls remaining a b
  reads_failed a b kept unread failed is = record {
    counted = ([], Consumes-kept_all _ _ kept, omega (arith, unread));
    well = λ well. absurd (well is);
    unread = λ reported. inl (fails_last_by_failure (calls a.reader) (calls b.reader) failed);
  }

  -- ---- reads after others

  why_after : (a b c : LineSource R) → ReadsCounted remaining a c → StaysWell (calls a.reader) (calls b.reader) → (IsUnread b → IsUnread a) → WhyUnread calls remaining b c
      → WhyUnread calls remaining a c
  why_after a b c counted stays before (inl failed) = inl (fails_last_after (calls a.reader) (calls b.reader) (calls c.reader) stays failed)
  why_after a b c counted stays before (inr (well, inl out)) =
      inr (stays_well_trans (calls a.reader) (calls b.reader) (calls c.reader) stays well, inl (counted_read_out a c counted out.0))
  why_after a b c counted stays before (inr (well, inr reported)) =
      inr (stays_well_trans (calls a.reader) (calls b.reader) (calls c.reader) stays well, inr (before reported))

  -- only what was open was read
  pub reads_more : (a b c : LineSource R) → ReadsOn calls remaining a b → b.course ≡ Course.Open → ReadsOn calls remaining b c → ReadsOn calls remaining a c
  reads_more a b c first open_now second =
      let not : ¬ IsUnread b = λ is. cc in
      let stays = first.well not in
      let counted = counted_trans a b c first.counted second.counted in
      record {
        counted = counted;
        well = λ well. stays_well_trans (calls a.reader) (calls b.reader) (calls c.reader) stays (second.well well);
        unread = λ is. why_after a b c counted stays (λ reported. absurd (not reported)) (second.unread is);
      }

  given_why : (a b c : LineSource R) → c.reader ≡ b.reader → c.unread ≡ b.unread → WhyUnread calls remaining a b → WhyUnread calls remaining a c
  given_why a b c reader unread (inl failed) = inl (rw reader failed)
  given_why a b c reader unread (inr (well, inl out)) = inr (rw reader well, inl (unread ∙ out.0, out.1))
  given_why a b c reader unread (inr (well, inr reported)) = inr (rw reader well, inr reported)

  -- what comes next is given without a read
  pub reads_given : (a b c : LineSource R) → ReadsOn calls remaining a b → c.reader ≡ b.reader → c.unread ≡ b.unread → IsUnread c ↔ IsUnread b → ReadsOn calls remaining a c
  reads_given a b c first reader unread reported =
      let counted = counted_trans a b c first.counted (counted_refl b c reader unread) in
      let next : StaysWell (calls b.reader) (calls c.reader) = rw reader (stays_well_refl (calls b.reader)) in
      record {
        counted = counted;
        well = λ well. stays_well_trans (calls a.reader) (calls b.reader) (calls c.reader) (first.well (λ is. well (reported.1 is))) next;
        unread = λ is. given_why a b c reader unread (first.unread (reported.0 is));
      }

  -- ---- the reads of a run, line by line

  pub reads_well_refl : (a : LineSource R) → ReadsWell calls remaining a a
  reads_well_refl a = record { counted = counted_refl a a refl refl; well = stays_well_refl (calls a.reader); before = λ is. is }

  pub reads_well_more : (a b c : LineSource R) → ReadsWell calls remaining a b → ReadsOn calls remaining b c → ¬ IsUnread c → ReadsWell calls remaining a c
  reads_well_more a b c first second not = record {
    counted = counted_trans a b c first.counted second.counted;
    well = stays_well_trans (calls a.reader) (calls b.reader) (calls c.reader) first.well (second.well not);
    before = λ is. absurd (not is);
  }

  pub reads_on : (a b c : LineSource R) → ReadsWell calls remaining a b → ReadsOn calls remaining b c → ReadsOn calls remaining a c
  reads_on a b c first second =
      let counted = counted_trans a b c first.counted second.counted in
      record {
        counted = counted;
        well = λ well. stays_well_trans (calls a.reader) (calls b.reader) (calls c.reader) first.well (second.well well);
        unread = λ is. why_after a b c counted first.well first.before (second.unread is);
      }

-- where a line is given no read is reported as failed
going_course : (course : Course) → IsGoing course → course ≡ Course.Failed LineFault.Read → ⊥
going_course Course.Open going is = absurd cc
going_course Course.AtEnd going is = absurd cc
going_course (Course.Failed fault) going is = going

pub going_read : {R : Type 0} (source : LineSource R) → IsGoing source.course → ¬ IsUnread source
going_read source going is = going_course source.course going is

-- what was read was open at first
pub open_at : {R : Type 0} (first source : LineSource R) → (source ≡ first) ⊎ (first.course ≡ Course.Open) → source.course ≡ Course.Open → first.course ≡ Course.Open
open_at {R} first source (inl same) open_now = ap (λ (s : LineSource R). s.course) (sym same) ∙ open_now
open_at {R} first source (inr open_first) open_now = open_first
