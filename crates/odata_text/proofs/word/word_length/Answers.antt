use Rattle.odata_text.proofs.Common.{◌≡◌, ℕ, List, get_or, IsCharBoundary, arith, sym, ◌∙◌, ap, subst, IsCharBoundary-after_ascii, IsIdentifier, IsReach}
use Rattle.odata_text.proofs.spellings.Words.{reach-no_word, word-dot, word-more, word-start}
use Rattle.odata_text.proofs.word.word_length.Goals as goal

dot_at : (rest bytes : List ℕ) (n : ℕ) → bytes ≡ rest → get_or bytes n 0 ≡ 46 → get_or rest n 0 ≡ 46
dot_at rest bytes n same dot = sym (ap (λ (xs : List ℕ). get_or xs n 0) same) ∙ dot

pub returns-then-length-eq0-clause-reach : goal.returns-then-length-eq0-clause-reach
returns-then-length-eq0-clause-reach c =
    let none : c.identifier_length-length.result ≡ 0 = omega arith in
    reach-no_word c.args.rest.now (subst (λ (n : ℕ). IsReach IsIdentifier n c.args.rest.now) none c.identifier_length-length.ensures.reach)

pub loop-length-init : goal.loop-length-init
loop-length-init c = word-start c.args.rest.now c.identifier_length-length.result c.identifier_length-length.ensures.reach (omega arith) c.identifier_length-length.ensures.boundary

pub range_from-requires : goal.range_from-requires
range_from-requires c =
    let dot = dot_at c.args.rest.now c.as_bytes.result.now c.loop-length.length c.as_bytes.ensures.value c.if-as_bytes-length-eq46.true in
    λ some. IsCharBoundary-after_ascii c.args.rest.now c.loop-length.length c.utf8.rest c.loop-length-test.true (omega arith)

pub returns-then-part-eq0-clause-reach : goal.returns-then-part-eq0-clause-reach
returns-then-part-eq0-clause-reach c =
    let none : c.identifier_length-part.result ≡ 0 = omega arith in
    let behind = c.range_from.ensures.value in
    word-dot c.args.rest.now c.loop-length.length c.loop-length.invariant
    (subst (IsReach IsIdentifier 0) behind (subst (λ (n : ℕ). IsReach IsIdentifier n c.range_from.result.now) none c.identifier_length-part.ensures.reach))

pub loop-length-preserved : goal.loop-length-preserved
loop-length-preserved c =
    let p = c.identifier_length-part.result in
    let dot = dot_at c.args.rest.now c.as_bytes.result.now c.loop-length.length c.as_bytes.ensures.value c.if-as_bytes-length-eq46.true in
    let behind = c.range_from.ensures.value in
    word-more c.args.rest.now c.loop-length.length p c.loop-length.invariant c.loop-length-test.true dot
    (subst (IsReach IsIdentifier p) behind c.identifier_length-part.ensures.reach) (omega arith)
    (subst (λ (xs : List ℕ). IsCharBoundary xs p) behind c.identifier_length-part.ensures.boundary)
