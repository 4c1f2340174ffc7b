use Rattle.std.proofs.Common.{◌≡◌, ◌≤◌, ◌+◌, ◌-◌, ℕ, List, length, arith, ap, sym, subst, rules, eqb-true}
use Rattle.std.proofs.lemmas.Bool.{and_parts, false≢true}
use Rattle.std.specs.Prelude.{slice_range}
use Rattle.memchr.specs.Find.{Nowhere, Passes, NoneBefore, is_byte}
use Rattle.line_filter.specs.private.Ascii.{AsciiBetween}
use Rattle.line_filter.specs.private.Waits.{Waits}
use Rattle.line_filter.proofs.BufferLaws.Ranges.{none_found, searched_to, found_first}
use Rattle.line_filter.proofs.buffer.Buffer.find_line_feed.Goals as goal

pub invariant_of-self : goal.invariant_of-self
invariant_of-self c =
    let b = c.self.inside in
    let i = c.self.invariant in
    let feed = c.in-Some.feed in
    let within : b.filled ≤ length b.bytes.items = search rules in
    let first = subst (λ (l : List ℕ). NoneBefore (Passes (is_byte 10) l) b.searched b.filled feed) c.as_slice.ensures.value c.in-Some.ensures.first.0 in
    let low = first.low in
    let high = first.high in
    record {
      line_in_order = i.line_in_order;
      line_within = i.line_within;
      started = omega (arith, i.started, low);
      in_order = omega (arith, high);
      within = i.within;
      bounded = i.bounded;
      none = searched_to b.bytes.items b.start b.searched b.filled i.started i.in_order within i.none feed first.before;
      ascii = λ seen.
          let parts = and_parts c.in-Some.is_ascii _ seen in
          let whole : b.searched ≡ b.start = eqb-true _ _ parts.1 in
          subst (λ k. AsciiBetween b.bytes.items k feed) whole
          (subst (λ (l : List ℕ). AsciiBetween l b.searched feed) c.as_slice.ensures.value (c.in-Some.ensures.ascii parts.0));
      line_ascii = i.line_ascii;
    }

pub invariant_of-self-in-None : goal.invariant_of-self-in-None
invariant_of-self-in-None c =
    let b = c.self.inside in
    let i = c.self.invariant in
    let within : b.filled ≤ length b.bytes.items = search rules in
    let none = subst (λ (l : List ℕ). Nowhere (Passes (is_byte 10) l) b.searched b.filled) c.as_slice.ensures.value c.in-None.ensures.first in
    record {
      line_in_order = i.line_in_order;
      line_within = i.line_within;
      started = omega (arith, i.started, i.in_order);
      in_order = omega arith;
      within = i.within;
      bounded = i.bounded;
      none = searched_to b.bytes.items b.start b.searched b.filled i.started i.in_order within i.none b.filled none;
      ascii = λ seen. absurd (false≢true seen);
      line_ascii = i.line_ascii;
    }

pub returns-in-Some-clause-found : goal.returns-in-Some-clause-found
returns-in-Some-clause-found c =
    let b = c.self.inside in
    let i = c.self.invariant in
    let within : b.filled ≤ length b.bytes.items = search rules in
    let is : slice_range b.bytes.items b.start b.filled ≡ c.args.self.now.waiting = ap (λ (w : Waits). w.waiting) c.self.view_is in
    let found = subst (λ (l : List ℕ). NoneBefore (Passes (is_byte 10) l) b.searched b.filled c.in-Some.feed × Passes (is_byte 10) l c.in-Some.feed) c.as_slice.ensures.value c.in-Some.ensures.first in
    subst (λ (l : List ℕ). NoneBefore (Passes (is_byte 10) l) 0 (length l) (c.in-Some.feed - b.start) × Passes (is_byte 10) l (c.in-Some.feed - b.start)) is
    (found_first b.bytes.items b.start b.searched b.filled i.started i.in_order within i.none c.in-Some.feed found.0 found.1)

pub returns-in-None-clause-found : goal.returns-in-None-clause-found
returns-in-None-clause-found c =
    let b = c.self.inside in
    let i = c.self.invariant in
    let within : b.filled ≤ length b.bytes.items = search rules in
    let is : slice_range b.bytes.items b.start b.filled ≡ c.args.self.now.waiting = ap (λ (w : Waits). w.waiting) c.self.view_is in
    let none = subst (λ (l : List ℕ). Nowhere (Passes (is_byte 10) l) b.searched b.filled) c.as_slice.ensures.value c.in-None.ensures.first in
    subst (λ (l : List ℕ). Nowhere (Passes (is_byte 10) l) 0 (length l)) is (none_found b.bytes.items b.start b.searched b.filled i.started i.in_order within i.none none)
