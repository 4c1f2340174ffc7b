use Rattle.std.proofs.Common.{◌≡◌, ◌-◌, ◌+◌, ◌≤◌, ℕ, sym, subst, arith, length-take-le}
use Rattle.collection_reader.specs.private.ItemText.{HasRoom, scanned}
use Rattle.collection_reader.specs.private.Written.{IsWritten}
use Rattle.collection_reader.proofs.WrittenLemmas.{begins, ended, passed_to}
use Rattle.collection_reader.proofs.lines_in_place.rewrite.Goals as goal

pub loop-from-init : goal.loop-from-init
loop-from-init c =
    let none : c.args.count - 0 ≡ c.args.count = omega arith in
    (omega arith, begins (scanned c.args.document.now) c.args.bytes.now, subst (HasRoom c.args.document.now) (sym none) c.requires.room)

pub take_one-window-requires-clause-room : goal.take_one-window-requires-clause-room
take_one-window-requires-clause-room c =
    let l = c.loop-from in
    let low = c.pass-from.ensures.within.0 in
    let left : 1 ≤ c.args.count - l.from = omega (arith, low, c.if-from-count.true) in
    let roomy = c.pass-from.ensures.room (c.args.count - l.from) l.invariant.2 in
    (omega (arith, roomy.0, left), omega (arith, roomy.1, left))

-- the bytes that are passed at once, and one more
pub loop-from-preserved-then-from-count : goal.loop-from-preserved-then-from-count
loop-from-preserved-then-from-count c =
    let l = c.loop-from in
    let (low, written, room) = l.invariant in
    let pass = c.pass-from in
    let taken = c.take_one-window in
    let first = c.args.bytes.now in
    let passed = passed_to (scanned c.args.document.now) first l.bytes (scanned l.document) (scanned pass.new.document) l.window.to l.window.kept l.from c.args.count pass.result written
    c.requires.within pass.ensures.within.0 (omega arith) pass.ensures.passed in
    let left : c.args.count - (pass.result + 1) + 1 ≤ c.args.count - l.from = omega arith in
    let roomy = pass.ensures.room (c.args.count - l.from) room in (
      omega arith,
      taken.ensures.written (scanned c.args.document.now) first passed,
      taken.ensures.room (c.args.count - (pass.result + 1)) (omega (arith, roomy.0, left), omega (arith, roomy.1, left)),
    )

-- the bytes that are passed at once are all
pub loop-from-preserved : goal.loop-from-preserved
loop-from-preserved c =
    let l = c.loop-from in
    let (low, written, room) = l.invariant in
    let pass = c.pass-from in
    let long = length-take-le c.args.count l.bytes (omega arith) in
    let high : pass.result ≤ c.args.count = omega (arith, long, pass.ensures.within.1) in
    let roomy = pass.ensures.room (c.args.count - l.from) room in (
      high,
      passed_to (scanned c.args.document.now) c.args.bytes.now l.bytes (scanned l.document) (scanned pass.new.document) l.window.to l.window.kept l.from c.args.count pass.result written
          c.requires.within pass.ensures.within.0 high pass.ensures.passed,
      (omega (arith, roomy.0, pass.ensures.within.0), omega (arith, roomy.1, pass.ensures.within.0)),
    )

pub returns-clause-put : goal.returns-clause-put
returns-clause-put c =
    let l = c.loop-from in
    let same : l.from ≡ c.args.count = omega (arith, l.invariant.0) in
    let written = subst (λ (k : ℕ). IsWritten (scanned c.args.document.now) c.args.bytes.now l.bytes (scanned l.document) l.window.to l.window.kept k) same l.invariant.1 in
    ended (scanned c.args.document.now) c.args.bytes.now l.bytes c.move_back.new.bytes (scanned l.document) l.window.to l.window.kept c.args.count c.move_back.result written c.move_back.ensures.moved

pub returns-clause-scanned : goal.returns-clause-scanned
returns-clause-scanned c =
    let l = c.loop-from in
    let same : l.from ≡ c.args.count = omega (arith, l.invariant.0) in
    let written = subst (λ (k : ℕ). IsWritten (scanned c.args.document.now) c.args.bytes.now l.bytes (scanned l.document) l.window.to l.window.kept k) same l.invariant.1 in
    written.is
