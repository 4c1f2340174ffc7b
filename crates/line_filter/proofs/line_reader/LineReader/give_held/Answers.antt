use Rattle.std.proofs.Common.{◌≡◌, ℕ, List, length, take, drop, ◌+◌, arith, ap, sym, ◌∙◌, subst, refl, le_refl}
use Rattle.memchr.specs.Find.{NoneBefore, Passes, is_byte}
use Rattle.line_filter.specs.LineSource.{LineSource}
use Rattle.line_filter.specs.private.Waits.{Waits}
use Rattle.line_filter.specs.declared.line_reader.Course.{Course}
use Rattle.line_filter.specs.private.Giving.{IsGoing, IsLongBy}
use Rattle.line_filter.proofs.ReaderLaws.FirstLine.{long_by}
use Rattle.line_filter.proofs.ReaderLaws.Giving.{given_by_feed, fault_reported}
use Rattle.line_filter.proofs.line_reader.LineReader.give_held.Goals as goal

pub invariant_of-self-in-None : goal.invariant_of-self-in-None
invariant_of-self-in-None g c =
    let ws = c.self.inside.buffer.waiting in
    let same : c.find_line_feed.new.self.waiting ≡ ws = ap (λ (w : Waits). w.waiting) c.find_line_feed.ensures.same in
    let long : IsLongBy ws = long_by ws (length ws) (le_refl (length ws)) (omega (arith, c.waiting.ensures, ap length same)) c.in-None.ensures.found in
    record { at_end = λ is. absurd cc; too_long = λ is. subst IsLongBy (sym same) long; not_read = λ is. absurd cc; not_held = λ is. absurd cc; bounded = c.self.invariant.bounded }

pub invariant_of-self-then-length-gt-LONGEST_LINE :
    goal.invariant_of-self-then-length-gt-LONGEST_LINE
invariant_of-self-then-length-gt-LONGEST_LINE g c =
    let ws = c.self.inside.buffer.waiting in
    let same : c.find_line_feed.new.self.waiting ≡ ws = ap (λ (w : Waits). w.waiting) c.find_line_feed.ensures.same in
    let found = c.in-Some.ensures.found in
    let high = found.0.high in
    let long : IsLongBy ws = long_by ws c.in-Some.length (omega arith) (omega arith) found.0.before in
    record { at_end = λ is. absurd cc; too_long = λ is. subst IsLongBy (sym same) long; not_read = λ is. absurd cc; not_held = λ is. absurd cc; bounded = c.self.invariant.bounded }

pub returns-in-None-clause-given : goal.returns-in-None-clause-given
returns-in-None-clause-given g c =
    let ws = c.self.inside.buffer.waiting in
    let same : c.find_line_feed.new.self.waiting ≡ ws = ap (λ (w : Waits). w.waiting) c.find_line_feed.ensures.same in
    let waits : ws ≡ c.args.self.now.waiting = ap (λ (s : LineSource g.row.R.Denot). s.waiting) c.self.view_is in
    let long : IsLongBy ws = long_by ws (length ws) (le_refl (length ws)) (omega (arith, c.waiting.ensures, ap length same)) c.in-None.ensures.found in
    (fault_reported g.R.Read.remaining c.args.self.now _ (ap (λ (s : LineSource g.row.R.Denot). s.reader) c.self.view_is) _ (same ∙ waits) refl (λ is. subst IsLongBy waits long) (λ not. absurd (not refl)), λ is. cc)

pub returns-then-length-gt-LONGEST_LINE-clause-given :
    goal.returns-then-length-gt-LONGEST_LINE-clause-given
returns-then-length-gt-LONGEST_LINE-clause-given g c =
    let ws = c.self.inside.buffer.waiting in
    let same : c.find_line_feed.new.self.waiting ≡ ws = ap (λ (w : Waits). w.waiting) c.find_line_feed.ensures.same in
    let waits : ws ≡ c.args.self.now.waiting = ap (λ (s : LineSource g.row.R.Denot). s.waiting) c.self.view_is in
    let found = c.in-Some.ensures.found in
    let high = found.0.high in
    let long : IsLongBy ws = long_by ws c.in-Some.length (omega arith) (omega arith) found.0.before in
    (fault_reported g.R.Read.remaining c.args.self.now _ (ap (λ (s : LineSource g.row.R.Denot). s.reader) c.self.view_is) _ (same ∙ waits) refl (λ is. subst IsLongBy waits long) (λ not. absurd (not refl)), λ is. cc)

pub returns-clause-given : goal.returns-clause-given
returns-clause-given g c =
    let ws = c.self.inside.buffer.waiting in
    let n = c.in-Some.length in
    let same : c.find_line_feed.new.self.waiting ≡ ws = ap (λ (w : Waits). w.waiting) c.find_line_feed.ensures.same in
    let waits : ws ≡ c.args.self.now.waiting = ap (λ (s : LineSource g.row.R.Denot). s.waiting) c.self.view_is in
    let found = c.in-Some.ensures.found in
    let course : c.self.inside.course ≡ Course.Open = ap (λ (s : LineSource g.row.R.Denot). s.course) c.self.view_is ∙ c.requires in
    let there = subst (λ (l : List ℕ). NoneBefore (Passes (is_byte 10) l) 0 (length l) n) waits found.0 in
    let is = subst (λ (l : List ℕ). Passes (is_byte 10) l n) waits found.1 in (
      given_by_feed g.R.Read.remaining c.args.self.now _ (ap (λ (s : LineSource g.row.R.Denot). s.reader) c.self.view_is) n (subst IsGoing (sym course) tt) (ap (λ (s : LineSource g.row.R.Denot). s.unread) c.self.view_is)
          (c.give_line.ensures.line ∙ ap (take n) (same ∙ waits)) (c.give_line.ensures.waiting ∙ ap (drop (n + 1)) (same ∙ waits)) (omega arith) there is,
      λ is. cc,
    )

pub returns-then-length-eq0-clause-given : goal.returns-then-length-eq0-clause-given
returns-then-length-eq0-clause-given g c =
    let ws = c.self.inside.buffer.waiting in
    let n = c.in-Some.length in
    let same : c.find_line_feed.new.self.waiting ≡ ws = ap (λ (w : Waits). w.waiting) c.find_line_feed.ensures.same in
    let waits : ws ≡ c.args.self.now.waiting = ap (λ (s : LineSource g.row.R.Denot). s.waiting) c.self.view_is in
    let found = c.in-Some.ensures.found in
    let course : c.self.inside.course ≡ Course.Open = ap (λ (s : LineSource g.row.R.Denot). s.course) c.self.view_is ∙ c.requires in
    let there = subst (λ (l : List ℕ). NoneBefore (Passes (is_byte 10) l) 0 (length l) n) waits found.0 in
    let is = subst (λ (l : List ℕ). Passes (is_byte 10) l n) waits found.1 in
    let given = c.give_line.ensures.line ∙ ap (take n) (same ∙ waits) in (
      (
        given_by_feed g.R.Read.remaining c.args.self.now _ (ap (λ (s : LineSource g.row.R.Denot). s.reader) c.self.view_is) n (subst IsGoing (sym course) tt) (ap (λ (s : LineSource g.row.R.Denot). s.unread) c.self.view_is)
            given (c.give_line.ensures.waiting ∙ ap (drop (n + 1)) (same ∙ waits)) (omega arith) there is,
        given ∙ ap (λ (k : ℕ). take k c.args.self.now.waiting) c.if-length-eq0.true,
      ),
      λ is. cc,
    )
