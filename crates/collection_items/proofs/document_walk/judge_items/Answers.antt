use Rattle.std.proofs.Common.{◌≡◌, ◌+◌, ◌<◌, ◌++◌, ◌∷◌, [], List, Bool, length, refl, sym, ◌∙◌, subst, arith}
use Rattle.std.proofs.lemmas.Grind.{common_steps}
use Rattle.serde_json.specs.View.{items_of}
use Rattle.json_room.proofs.RoomLemmas.{other_default, within_byte}
use Rattle.json_room.proofs.Places.{items_begin, no_items_read, reads_to_as}
use Rattle.collection_items.specs.private.DocumentWalk.{EndsItem, JudgesArray}
use Rattle.collection_items.specs.declared.document_walk.After.{After}
use Rattle.collection_items.proofs.WalkSteps.{JudgedUpTo, item_then_bracket, item_then_comma}
use Rattle.collection_items.proofs.document_walk.judge_items.Goals as goal

pub returns-then-byte-eq93 : goal.returns-then-byte-eq93
returns-then-byte-eq93 g c =
    let d = c.args.document.now in
    let says = g.J.JudgesItems.says c.args.judge.now in
    let place = c.past_blanks-place.result in
    let passed = c.past_blanks-place.ensures in
    let here = sym c.byte.ensures.here ∙ c.if-byte-eq93.true in
    let within : place < length d = within_byte d place 93 here (λ e. omega arith) in
    let none : JudgesArray says d c.args.from [] (place + 1) = record {
      items = [];
      bounds = (omega (arith, passed.bounds.0), omega (arith, within));
      read = no_items_read 125 d c.args.from place (λ found. found ≡ items_of []) passed within (other_default d place 93 here (λ e. omega arith)) refl;
      judged = tt;
    } in
    subst (λ (flags : List Bool). JudgesArray says d c.args.from flags (place + 1)) (sym c.requires.none) none

pub items-init : goal.items-init
items-init g c =
    let d = c.args.document.now in
    let says = g.J.JudgesItems.says c.args.judge.now in
    let place = c.past_blanks-place.result in
    let none : JudgedUpTo says d c.args.from place [] = record {
      items = [];
      up_to = items_begin 125 d c.args.from place (λ found. found ≡ items_of []) c.past_blanks-place.ensures refl;
      judged = tt;
    } in
    (subst (λ (flags : List Bool). JudgedUpTo says d c.args.from place flags) (sym c.requires.none) none, λ json kept said. said)

pub items-preserved : goal.items-preserved
items-preserved g c =
    let l = c.items in
    let d = c.args.document.now in
    let says = g.J.JudgesItems.says c.args.judge.now in
    let end = c.in-Some.end in
    let kept = c.in-Some.is_kept in
    let next = c.in-Some-Comma.next in
    let stands = reads_to_as 125 d l.place end (λ json. g.J.JudgesItems.says l.judge json kept) (λ json. says json kept) (λ json said. l.invariant.1 json kept said) c.in-Some.ensures.judged in
    let ends : EndsItem d end (After.Comma next) = subst (EndsItem d end) c.in-Some-Comma.field-0-is c.in-Some-Comma.ensures in
    let pushed : c.push.new.self.items ≡ l.flags.items ++ kept ∷ [] = grind (arith, common_steps) in (
      subst (λ (flags : List Bool). JudgedUpTo says d c.args.from next flags) (sym pushed) (item_then_comma says d c.args.from l.place end l.flags.items kept l.invariant.0 stands next ends),
      λ json b said. l.invariant.1 json b (c.item.ensures.same json b said),
    )

pub returns-in-Some-Close : goal.returns-in-Some-Close
returns-in-Some-Close g c =
    let l = c.items in
    let d = c.args.document.now in
    let says = g.J.JudgesItems.says c.args.judge.now in
    let end = c.in-Some.end in
    let kept = c.in-Some.is_kept in
    let next = c.in-Some-Close.next in
    let stands = reads_to_as 125 d l.place end (λ json. g.J.JudgesItems.says l.judge json kept) (λ json. says json kept) (λ json said. l.invariant.1 json kept said) c.in-Some.ensures.judged in
    let ends : EndsItem d end (After.Close next) = subst (EndsItem d end) c.in-Some-Close.field-0-is c.in-Some-Close.ensures in
    let pushed : c.push.new.self.items ≡ l.flags.items ++ kept ∷ [] = grind (arith, common_steps) in
    subst (λ (flags : List Bool). JudgesArray says d c.args.from flags next) (sym pushed) (item_then_bracket says d c.args.from l.place end l.flags.items kept l.invariant.0 stands next ends)

pub items-smaller : goal.items-smaller
items-smaller g c =
    let d = c.args.document.now in
    let end = c.in-Some.end in
    let ends : EndsItem d end (After.Comma c.in-Some-Comma.next) = subst (EndsItem d end) c.in-Some-Comma.field-0-is c.in-Some-Comma.ensures in
    let value = c.in-Some.ensures.judged.bounds in
    omega (arith, value.0, ends.0, ends.1)
