use Rattle.std.proofs.Common.{◌≡◌, ℕ, List, Option, take, ap, subst, ◌∙◌}
use Rattle.std.specs.Io.KnownBytes.{Consumes}
use Rattle.std.specs.Prelude.{option_map}
use Rattle.collection_reader.specs.private.ItemText.{Scanned, scanned, text_left}
use Rattle.collection_reader.proofs.ReaderLemmas.{given, kept}
use Rattle.collection_reader.proofs.item_reader.ItemReader.read_once.Goals as goal

pub returns-then-put-eq0-clause-given : goal.returns-then-put-eq0-clause-given
returns-then-put-eq0-clause-given g c =
    let left = g.R.Read.remaining c.self.inside.reader in
    let rest = g.R.Read.remaining c.read.new.self in
    let before = scanned c.reserve.new.self in
    let after = scanned c.rewrite-put.new.document in
    let whole : option_map (text_left before) left ≡ c.args.self.now = ap (λ (x : Scanned). option_map (text_left x) left) c.reserve.ensures.same ∙ c.self.view_is in
    let gave = given left rest before after (take c.in_ok-count.count c.read.new.buf) (take c.rewrite-put.result c.rewrite-put.new.bytes) c.in_ok-count.ensures.bytes.0
    c.rewrite-put.ensures.scanned c.rewrite-put.ensures.put in
    let new = option_map (text_left after) rest in
    let none = subst (λ (k : ℕ). Consumes (option_map (text_left before) left) new (take k c.rewrite-put.new.bytes)) c.if-put-eq0.true gave in
    kept c.args.self.now new (subst (λ (o : Option (List ℕ)). Consumes o new (take 0 c.rewrite-put.new.bytes)) whole none)

pub returns-clause-given : goal.returns-clause-given
returns-clause-given g c =
    let left = g.R.Read.remaining c.self.inside.reader in
    let rest = g.R.Read.remaining c.read.new.self in
    let before = scanned c.reserve.new.self in
    let after = scanned c.rewrite-put.new.document in
    let whole : option_map (text_left before) left ≡ c.args.self.now = ap (λ (x : Scanned). option_map (text_left x) left) c.reserve.ensures.same ∙ c.self.view_is in
    let gave = given left rest before after (take c.in_ok-count.count c.read.new.buf) (take c.rewrite-put.result c.rewrite-put.new.bytes) c.in_ok-count.ensures.bytes.0
    c.rewrite-put.ensures.scanned c.rewrite-put.ensures.put in (
      subst (λ (o : Option (List ℕ)). Consumes o (option_map (text_left after) rest) (take c.rewrite-put.result c.rewrite-put.new.bytes)) whole gave,
      λ zero. absurd (c.if-put-eq0.false zero),
    )
