-- What a reader of lines gives, by what it holds.
use Rattle.std.proofs.Common.{◌≡◌, ◌≢◌, ℕ, ◌+◌, ◌-◌, ◌<◌, ◌≤◌, List, [], ◌∷◌, ◌++◌, length, take, drop, None, Some, IfSome, Option, inl, inr, ◌⊎◌, refl, sym, ap, ◌∙◌, subst, arith, append-nil, length-drop, length-take-le}
use Rattle.std.specs.Io.KnownBytes.{Keeps, IsAtEnd, prepend_known}
use Rattle.std.proofs.KnownBytes.{Keeps-refl, Keeps-trans}
use Rattle.memchr.specs.Find.{NoneBefore, Passes, is_byte}
use Rattle.line_filter.specs.declared.line_reader.LineFault.{LineFault}
use Rattle.line_filter.specs.declared.line_reader.Course.{Course}
use Rattle.line_filter.specs.declared.line_reader.Next.{Next}
use Rattle.line_filter.specs.Lines.{longest_line}
use Rattle.line_filter.specs.LineSource.{LineSource, left_of, IsFirstLine, BeginsTooLong, IsNoWholeLine, WhereKnown, IsOver}
use Rattle.line_filter.specs.private.Giving.{IsLongBy, IsGoing, IsGiven, IsFault, Gives, GivesAgain, bytes_to_come}
use Rattle.line_filter.proofs.ReaderLaws.FirstLine.{first_by_feed, whole_by_feed, first_at_end}

-- what holds whatever the reader still has
known_both : (a : Option (List ℕ)) (ws rest : List ℕ) (P : List ℕ → List ℕ → Type 0) → ((more : List ℕ) → P (ws ++ more) (rest ++ more)) → WhereKnown (prepend_known ws a) (prepend_known rest a) P
known_both None ws rest P all = tt
known_both (Some more) ws rest P all = all more

known_one : (a : Option (List ℕ)) (ws : List ℕ) (P : List ℕ → Type 0) → ((more : List ℕ) → P (ws ++ more)) → IfSome (prepend_known ws a) P
known_one None ws P all = tt
known_one (Some more) ws P all = all more

-- what holds where the reader has nothing
known_last : (a : Option (List ℕ)) (ws : List ℕ) (P : List ℕ → List ℕ → Type 0) → IsAtEnd a → P ws [] → WhereKnown (prepend_known ws a) (prepend_known [] a) P
known_last None ws P end p = tt
known_last (Some more) ws P end p = subst (λ l. P (ws ++ l) l) (sym end) (subst (λ l. P l []) (sym (append-nil ws)) p)

module _ {R : Type 0} (remaining : R → Option (List ℕ)) (old new : LineSource R) (same : new.reader ≡ old.reader) where
  -- the first LF stands after so many bytes
  pub given_by_feed : (n : ℕ) → IsGoing new.course → new.unread ≡ old.unread → new.line ≡ take n old.waiting → new.waiting ≡ drop (n + 1) old.waiting → n ≤ longest_line
      → NoneBefore (Passes (is_byte 10) old.waiting) 0 (length old.waiting) n → Passes (is_byte 10) old.waiting n → IsGiven remaining old new
  given_by_feed n going unread line waiting short found is =
      let high = found.high in
      let known = remaining old.reader in
      let first = known_both known old.waiting (drop (n + 1) old.waiting) (λ bytes rest. IsFirstLine bytes (take n old.waiting) rest) (λ more. first_by_feed old.waiting more n found is) in
      let whole = known_both known old.waiting (drop (n + 1) old.waiting) (λ bytes rest. bytes ≡ take n old.waiting ++ 10 ∷ rest) (λ more. whole_by_feed old.waiting more n high is) in
      let long : length new.line ≡ n = ap length line ∙ length-take-le n old.waiting (omega arith) in
      let left : length new.waiting ≡ length old.waiting - (n + 1) = ap length waiting ∙ length-drop (n + 1) old.waiting in
      record {
        first = rw (same, line, waiting) first;
        short = omega arith;
        whole = inr (rw (same, line, waiting) whole);
        fewer = omega arith;
        going = going;
      }

  -- the reader is at its end
  pub given_at_end : new.unread ≡ old.unread → new.line ≡ old.waiting → new.waiting ≡ [] → new.course ≡ Course.AtEnd → 0 < length old.waiting → IsNoWholeLine old.waiting → IsAtEnd (remaining old.reader)
      → IsGiven remaining old new
  given_at_end unread line waiting course some unended end =
      let first = known_last (remaining old.reader) old.waiting (λ bytes rest. IsFirstLine bytes old.waiting rest) end (first_at_end old.waiting some unended.0) in
      let none : length new.waiting ≡ 0 = ap length waiting in
      let long : length new.line ≡ length old.waiting = ap length line in
      let bounded = unended.1 in
      record {
        first = rw (same, line, waiting) first;
        short = omega arith;
        whole = inl (course, waiting);
        fewer = omega arith;
        going = subst IsGoing (sym course) tt;
      }

  left_kept : new.waiting ≡ old.waiting → Keeps (left_of remaining old) (left_of remaining new)
  left_kept waiting = rw (same, waiting) (Keeps-refl (left_of remaining old))

  -- a fault that is reported, or reported again
  pub fault_reported : (fault : LineFault) → new.waiting ≡ old.waiting → new.course ≡ Course.Failed fault → (fault ≡ LineFault.TooLong → IsLongBy old.waiting)
      → (fault ≢ LineFault.TooLong → IsNoWholeLine old.waiting) → IsFault remaining old new fault
  fault_reported fault waiting course long unended = record {
    long = λ is. known_one (remaining old.reader) old.waiting BeginsTooLong (long is);
    held = unended;
    unended = λ not. subst IsNoWholeLine (sym waiting) (unended not);
    failed = course;
    left = left_kept waiting;
  }

-- ---- reads between what was left at first and what is given

to_come_trans : {R : Type 0} (a b c : LineSource R) → bytes_to_come b ≡ bytes_to_come a → bytes_to_come c < bytes_to_come b → bytes_to_come c < bytes_to_come a
to_come_trans a b c same fewer = omega (arith, same, fewer)

known_after : (a b c : Option (List ℕ)) (P : List ℕ → List ℕ → Type 0) → Keeps a b → WhereKnown b c P → WhereKnown a c P
known_after None b c P kept where_known = tt
known_after (Some x) None c P kept where_known = absurd kept
known_after (Some x) (Some y) None P kept where_known = absurd where_known
known_after (Some x) (Some y) (Some z) P kept where_known = subst (λ l. P l z) kept where_known

known_one_after : (a b : Option (List ℕ)) (P : List ℕ → Type 0) → Keeps a b → IfSome b P → IfSome a P
known_one_after None b P kept p = tt
known_one_after (Some x) None P kept p = absurd kept
known_one_after (Some x) (Some y) P kept p = subst P kept p

end_after : (a b : Option (List ℕ)) → Keeps a b → IsAtEnd b → IsAtEnd a
end_after None b kept end = tt
end_after (Some x) None kept end = absurd kept
end_after (Some x) (Some y) kept end = sym kept ∙ end

module _ {R : Type 0} (remaining : R → Option (List ℕ)) (a b c : LineSource R) (kept : Keeps (left_of remaining a) (left_of remaining b)) (same : bytes_to_come b ≡ bytes_to_come a) (held : IsNoWholeLine b.waiting → IsNoWholeLine a.waiting) where
  whole_after : IsOver c ⊎ WhereKnown (left_of remaining b) (left_of remaining c) (λ bytes rest. bytes ≡ c.line ++ 10 ∷ rest)
      → IsOver c ⊎ WhereKnown (left_of remaining a) (left_of remaining c) (λ bytes rest. bytes ≡ c.line ++ 10 ∷ rest)
  whole_after (inl end) = inl end
  whole_after (inr whole) = inr (known_after (left_of remaining a) (left_of remaining b) (left_of remaining c) (λ bytes rest. bytes ≡ c.line ++ 10 ∷ rest) kept whole)

  after_given : IsGiven remaining b c → IsGiven remaining a c
  after_given given = record {
    first = known_after (left_of remaining a) (left_of remaining b) (left_of remaining c) (λ bytes rest. IsFirstLine bytes c.line rest) kept given.first;
    short = given.short;
    whole = whole_after given.whole;
    fewer = to_come_trans a b c same given.fewer;
    going = given.going;
  }

  -- what was read first changes nothing of what is given
  pub Gives-after : (next : Next) → Gives remaining b c next → Gives remaining a c next
  Gives-after Next.Line given = after_given given
  Gives-after Next.Empty given = (after_given given.0, given.1)
  Gives-after Next.End end = record {
    none_left = end_after (left_of remaining a) (left_of remaining b) kept end.none_left;
    over = end.over;
    left = Keeps-trans (left_of remaining a) (left_of remaining b) (left_of remaining c) kept end.left;
  }
  Gives-after (Next.Fault fault) failed = record {
    long = λ is. known_one_after (left_of remaining a) (left_of remaining b) BeginsTooLong kept (failed.long is);
    held = λ not. held (failed.held not);
    unended = failed.unended;
    failed = failed.failed;
    left = Keeps-trans (left_of remaining a) (left_of remaining b) (left_of remaining c) kept failed.left;
  }

-- nothing is reported again of what is still open
pub GivesAgain-open : {R : Type 0} (source : LineSource R) (next : Next) → source.course ≡ Course.Open → GivesAgain source next
GivesAgain-open source next open_now = record {
  over = λ over. let end = over.0 in absurd cc;
  failed = λ fault failed. absurd cc;
}

-- after a fault but TooLong no whole line waits
pub not_ended : (fault : LineFault) (waiting : List ℕ) (course : Course) → course ≡ Course.Failed fault → (course ≡ Course.Failed LineFault.Read → IsNoWholeLine waiting)
    → (course ≡ Course.Failed LineFault.Memory → IsNoWholeLine waiting) → fault ≢ LineFault.TooLong → IsNoWholeLine waiting
not_ended LineFault.TooLong waiting course is read memory not = absurd (not refl)
not_ended LineFault.Read waiting course is read memory not = read is
not_ended LineFault.Memory waiting course is read memory not = memory is
