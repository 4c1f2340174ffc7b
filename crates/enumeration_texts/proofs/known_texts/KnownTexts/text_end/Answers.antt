use Rattle.std.proofs.Common.{◌≡◌, ◌+◌, ◌<◌, List, Option, Some, IfSome, length, get_or, slice_get, refl, sym, subst, arith, rules}
use Rattle.std.proofs.lemmas.Option.{slice_get_read}
use Rattle.enumeration_texts.specs.EnumerationTexts.{AreOfEnumerations}
use Rattle.enumeration_texts.specs.declared.known_texts.KnownText.{KnownText}
use Rattle.enumeration_texts.specs.private.KnownTexts.{IsOfItsOwn, IsSpelled}
use Rattle.enumeration_texts.proofs.TextsStored.{own_each}
use Rattle.enumeration_texts.proofs.TextsStand.{text_is, text_stands}
use Rattle.enumeration_texts.proofs.known_texts.KnownTexts.text_end.Goals as goal

pub returns-then-are_front : goal.returns-then-are_front
returns-then-are_front c schema all =
    let line = c.args.line.now in
    let r = c.bytes-bytes.ensures in
    let b = c.bytes-bytes.result.now in
    let from = c.args.offset in
    let stored = c.as_slice-stored.result.now in
    let own = c.self.inside.stored.items in
    let n = c.index_of-index.result in
    let k = c.index-stored-index.result in
    let opens : get_or b from 0 ≡ 34 = omega arith in
    let few : k.length < 16 = c.if-known-lt-TOO_LONG.true in
    let read : slice_get stored n ≡ Some k = slice_get_read stored (length stored) n k refl (omega arith) c.index-stored-index.is in
    let at : slice_get own n ≡ Some k = subst (λ (ks : List KnownText). slice_get ks n ≡ Some k) c.as_slice-stored.ensures.value read in
    let spelled : k.length < 16 → IsSpelled k = subst (λ (o : Option KnownText). IfSome o (λ t. t.length < 16 → IsSpelled t)) at (c.self.invariant n) in
    let is_own : IsOfItsOwn schema k = subst (λ (o : Option KnownText). IfSome o (IsOfItsOwn schema)) at (own_each schema own (subst (AreOfEnumerations schema) (sym c.self.view_is) all) n) in
    let same : k.id ≡ c.args.id = search rules in
    let stands = text_stands k line b from r.front r.line_feed r.room c.requires opens few (spelled few) (c.are_front.ensures.same c.if-are_front.true) in
    text_is schema k c.args.id line from (from + k.length + 2) (omega arith) same (spelled few) is_own stands
