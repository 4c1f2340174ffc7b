use Rattle.std.proofs.Common.{◌≡◌, Err, Option, ℕ, ap, take, ◌∙◌, subst}
use Rattle.std.specs.Io.KnownBytes.{Consumes, IsAtEnd, Keeps}
use Rattle.std.specs.Prelude.{MatchOption}
use Rattle.std.proofs.lemmas.Result.{err_from_is_err_and}
use Rattle.collection_reader.proofs.ReaderLemmas.{given_then, kept_then}
use Rattle.collection_reader.proofs.item_reader.ItemReaderRead.read.Goals as goal

pub returns-in_err-count-clause-bytes : goal.returns-in_err-count-clause-bytes
returns-in_err-count-clause-bytes g c =
    let exit = err_from_is_err_and c.from_residual.result c.from_residual.ensures.1 in
    rw (exit.1 ∙ ap Err exit.2) (kept_then c.args.self.now c.loop.self c.read_once.new.self c.loop.invariant c.in_err-count.ensures.given)

pub returns-in-Some-clause-bytes : goal.returns-in-Some-clause-bytes
returns-in-Some-clause-bytes g c =
    let old = c.loop.self in
    let new = c.read_once.new.self in
    let given = subst (λ (o : Option ℕ). MatchOption o (Keeps old new) (λ count. Consumes old new (take count c.read_once.new.bytes) × (count ≡ 0 → IsAtEnd new))) c.in-Some.is c.in_ok-count.ensures.given in
    (given_then c.args.self.now old new _ c.loop.invariant given.0, λ none some. given.1 none)

pub returns-clause-bytes : goal.returns-clause-bytes
returns-clause-bytes g c = c.loop.invariant
