use Rattle.odata_ranges.proofs.Common.{◌≡◌, ◌<◌, ◌+◌, ◌-◌, ◌∙◌, ℕ, List, length, length-set, sym, ap, subst, arith, AreReportedFrom, ReportsFaults, AreRangesFrom, Range}
use Rattle.odata_ranges.proofs.Put.{none_after, none_reported, put_range, put_reported}
use Rattle.odata_ranges.proofs.QuietTypes.{all_quiet}
use Rattle.odata_ranges.proofs.ranges.ranges_of.Goals as goal

pub loop-place-init : goal.loop-place-init
loop-place-init c =
    let same : length c.nodes-count.result.now ≡ length c.args.checked.now.list.nodes = ap length c.nodes-count.ensures.same in
    let long : length c.in_ok-ranges.ranges.items ≡ length c.nodes-count.result.now = c.in_ok-ranges.ensures in
    record {
      as_many = long ∙ same;
      within = omega (arith, same);
      each = none_after c.args.checked.now c.in_ok-ranges.ranges.items (length c.nodes-count.result.now) (omega (arith, long));
      reported = none_reported c.args.checked.now c.in_ok-ranges.ranges.items (length c.nodes-count.result.now) (omega (arith, long));
    }

pub range_at-found-requires-clause-known : goal.range_at-found-requires-clause-known
range_at-found-requires-clause-known c =
    let l = c.loop-place in
    let filter = c.args.checked.now in
    let above : 0 < l.place = omega arith in
    let back : l.place ≡ l.place - 1 + 1 = omega arith in
    let after : AreRangesFrom filter (l.place - 1 + 1) l.ranges.items = subst (λ (n : ℕ). AreRangesFrom filter n l.ranges.items) back l.invariant.each in
    record {
      as_many = ap length c.as_slice.ensures.value ∙ l.invariant.as_many;
      after = subst (λ (rs : List Range). AreRangesFrom filter (l.place - 1 + 1) rs) (sym c.as_slice.ensures.value) after;
      reported = subst (λ (rs : List Range). AreReportedFrom filter (l.place - 1 + 1) rs) (sym c.as_slice.ensures.value)
          (subst (λ (n : ℕ). AreReportedFrom filter n l.ranges.items) back l.invariant.reported);
    }

pub loop-place-preserved : goal.loop-place-preserved
loop-place-preserved c =
    let l = c.loop-place in
    let filter = c.args.checked.now in
    let above : 0 < l.place = omega arith in
    let back : l.place ≡ l.place - 1 + 1 = omega arith in
    let after : AreRangesFrom filter (l.place - 1 + 1) l.ranges.items = subst (λ (n : ℕ). AreRangesFrom filter n l.ranges.items) back l.invariant.each in
    record {
      as_many = length-set l.ranges.items (l.place - 1) c.range_at-found.result ∙ l.invariant.as_many;
      within = omega (arith, l.invariant.within);
      each = put_range filter l.ranges.items (l.place - 1) c.range_at-found.result after c.range_at-found.ensures.right;
      reported = put_reported filter l.ranges.items (l.place - 1) c.range_at-found.result (subst (λ (n : ℕ). AreReportedFrom filter n l.ranges.items) back l.invariant.reported)
          (λ node at. subst (λ (rs : List Range). ReportsFaults rs (l.place - 1) node c.range_at-found.result) c.as_slice.ensures.value (c.range_at-found.ensures.reported node at));
    }

pub returns : goal.returns
returns c =
    let l = c.loop-place in
    let filter = c.args.checked.now in
    let none : l.place ≡ 0 = omega arith in
    let reported : AreReportedFrom filter 0 l.ranges.items = subst (λ (n : ℕ). AreReportedFrom filter n l.ranges.items) none l.invariant.reported in
    record {
      as_many = l.invariant.as_many;
      each = subst (λ (n : ℕ). AreRangesFrom filter n l.ranges.items) none l.invariant.each;
      reported = reported;
      quiet = all_quiet filter c.trees_have_one_type.ensures c.calls_have_one_type.ensures.named l.ranges.items reported c.nodes-count.ensures.right;
    }
