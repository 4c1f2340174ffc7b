use Rattle.line_filter.specs.ItemIndexes.{index_sieve, indexed_from}
use Rattle.line_filter.proofs.ItemLaws.Once.{IsJudged-once, StopsAt-once, StopsAt-never, Passes-one_tally, Passes-once}
use Rattle.line_filter.proofs.laws.items_stop_once.Goals as goal

pub returns-clause-stopped : goal.returns-clause-stopped
returns-clause-stopped g c items =
    let says = g.J.SaysOfItems.says c.args.judge.now in
    StopsAt-once (index_sieve says) (λ indexed. IsJudged-once says c.requires indexed.item) (indexed_from 0 items) _

pub returns-clause-filtered : goal.returns-clause-filtered
returns-clause-filtered g c items =
    let says = g.J.SaysOfItems.says c.args.judge.now in
    StopsAt-never (index_sieve says) (λ indexed. IsJudged-once says c.requires indexed.item) (indexed_from 0 items) _

pub returns-clause-kept : goal.returns-clause-kept
returns-clause-kept g c items text other m n p q =
    let says = g.J.SaysOfItems.says c.args.judge.now in (
      Passes-once (index_sieve says) (λ indexed. IsJudged-once says c.requires indexed.item) (indexed_from 0 items) text other m n p q,
      Passes-one_tally (index_sieve says) (λ indexed. IsJudged-once says c.requires indexed.item) (indexed_from 0 items) text other m n p q,
    )
