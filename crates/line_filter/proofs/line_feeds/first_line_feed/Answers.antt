use Rattle.std.proofs.Common.{◌≡◌, ◌≤◌, ◌+◌, ◌<◌, length, arith, eqb-true, leb-true}
use Rattle.std.proofs.lemmas.Bool.{and_parts}
use lib.Count.{count_trailing_zeros}
use Rattle.line_filter.proofs.FeedLemmas.{ascii_before, ascii_further, ascii_there, feed_there, feed_within, no_feed_before, no_feed_further, no_feed_there}
use Rattle.line_filter.proofs.line_feeds.first_line_feed.Goals as goal

pub loop-offset-init : goal.loop-offset-init
loop-offset-init c = (omega arith, c.requires.0, (λ k from to. absurd (omega (arith, from, to))), λ is k from to. absurd (omega (arith, from, to)))

pub loop-offset-preserved : goal.loop-offset-preserved
loop-offset-preserved c =
    let d = c.args.bytes.now in
    let l = c.loop-offset in
    let i = l.invariant in
    let room : l.offset + 64 ≤ length d = omega (arith, c.requires.1, i.1) in (
      omega (arith, i.0),
      omega (arith, i.1),
      no_feed_further d c.args.from l.offset (l.offset + 64) i.2 (no_feed_there d l.offset c.feeds_64-feeds.result room c.feeds_64-feeds.ensures (omega (arith, c.if-feeds-ne0.false))),
      λ seen.
          let parts = and_parts _ _ seen in
          ascii_further d c.args.from l.offset (l.offset + 64) (i.3 parts.0) (ascii_there d l.offset c.beyond_64-beyond.result room c.beyond_64-beyond.ensures (eqb-true _ _ parts.1)),
    )

pub returns-then-feeds-ne0-clause-first : goal.returns-then-feeds-ne0-clause-first
returns-then-feeds-ne0-clause-first c =
    let d = c.args.bytes.now in
    let l = c.loop-offset in
    let i = l.invariant in
    let m = c.feeds_64-feeds.result in
    let is = c.feeds_64-feeds.ensures in
    let some : 0 < m = omega (arith, c.if-feeds-ne0.true) in
    let room : l.offset + 64 ≤ length d = omega (arith, c.requires.1, i.1) in
    let few : count_trailing_zeros 64 m < 64 = feed_within d l.offset m room is some in (
      record {
        low = omega (arith, i.0);
        high = omega (arith, few, i.1);
        before = no_feed_further d c.args.from l.offset (l.offset + count_trailing_zeros 64 m) i.2 (no_feed_before d l.offset m room is some);
      },
      feed_there d l.offset m room is some,
    )

pub returns-then-feeds-ne0-clause-ascii : goal.returns-then-feeds-ne0-clause-ascii
returns-then-feeds-ne0-clause-ascii c seen =
    let d = c.args.bytes.now in
    let l = c.loop-offset in
    let i = l.invariant in
    let m = c.feeds_64-feeds.result in
    let n = count_trailing_zeros 64 m in
    let some : 0 < m = omega (arith, c.if-feeds-ne0.true) in
    let room : l.offset + 64 ≤ length d = omega (arith, c.requires.1, i.1) in
    let few : n < 64 = feed_within d l.offset m room c.feeds_64-feeds.ensures some in
    let parts = and_parts _ _ seen in
    let enough : n ≤ count_trailing_zeros 64 c.beyond_64-beyond.result = leb-true _ _ parts.1 in
    ascii_further d c.args.from l.offset (l.offset + n) (i.3 parts.0) (ascii_before d l.offset c.beyond_64-beyond.result room n c.beyond_64-beyond.ensures enough (omega (arith, few)))

pub returns-in-Some-clause-first : goal.returns-in-Some-clause-first
returns-in-Some-clause-first c =
    let i = c.loop-offset.invariant in
    let found = c.in-Some.ensures in
    let low = found.0.low in
    (record { low = omega (arith, i.0, low); high = found.0.high; before = no_feed_further c.args.bytes.now c.args.from c.loop-offset.offset c.in-Some.feed i.2 found.0.before }, found.1)

pub returns-in-None-clause-first : goal.returns-in-None-clause-first
returns-in-None-clause-first c = no_feed_further c.args.bytes.now c.args.from c.loop-offset.offset c.args.to c.loop-offset.invariant.2 c.in-None.ensures
