use Rattle.std.proofs.Common.{sym, ◌∙◌}
use Rattle.std.proofs.lemmas.List.{get_or_default}
use Rattle.json_room.proofs.EscapeLemmas.{after_backslash_passed, after_other_passed}
use Rattle.json_room.proofs.decoded_texts.past_byte.Goals as goal

pub returns-then-bytes-place-eq92-clause-passed : goal.returns-then-bytes-place-eq92-clause-passed
returns-then-bytes-place-eq92-clause-passed c =
    let d = c.args.bytes.now in
    let i = c.args.place in
    after_backslash_passed d i c.requires.within (sym (get_or_default d i 0 32 c.requires.within) ∙ c.if-bytes-place-eq92.true)

pub returns-else-bytes-place-eq92-clause-passed : goal.returns-else-bytes-place-eq92-clause-passed
returns-else-bytes-place-eq92-clause-passed c =
    let d = c.args.bytes.now in
    let i = c.args.place in
    after_other_passed d i c.requires.within c.requires.no_quote (λ e. c.if-bytes-place-eq92.false (get_or_default d i 0 32 c.requires.within ∙ e))
