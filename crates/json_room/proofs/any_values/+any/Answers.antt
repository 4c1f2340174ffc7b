use Rattle.std.proofs.Common.{◌+◌, ◌-◌, ◌<◌, ℕ, List, length, IsSome, sym, ◌∙◌, arith}
use Rattle.std.specs.Str.{IsUtf8}
use Rattle.json.specs.Token.{Token}
use Rattle.json.specs.Lex.{fresh, after_value}
use Rattle.serde_json.specs.Read.{number_of}
use Rattle.json_room.specs.private.Lexemes.{IsTextAt}
use Rattle.json_room.specs.Lexemes.{StandsTo, tokens_at}
use Rattle.json_room.proofs.RoomLemmas.{other_default, within_byte}
use Rattle.json_room.specs.private.ItemTokens.{ReadsItems, ReadsMembers}
use Rattle.json_room.specs.ValueStands.{ValueStands}
use Rattle.json_room.specs.private.ValuesStand.{PassesTo, PassesAnyMember}
use Rattle.json_room.proofs.Places.{some_by, any_boolean, any_json, any_null, any_number, array_to, both_some, item_and_bracket, item_and_comma, items_begin, member_and_brace, member_and_comma, members_begin, named_text, no_items_read, no_members_read, object_to, reads_behind, text_to, token_to}
use Rattle.json_room.proofs.any_values.+any.Invariants.{any_items, any_members}
use Rattle.json_room.proofs.any_values.+any.Goals as goal

-- ---- values

pub any_value_end-returns-in-34 : goal.any_value_end-returns-in-34
any_value_end-returns-in-34 t c =
    let d = c.args.line.now in
    let i = c.args.place in
    both_some c.any_text_end.result (λ to. i < to) (λ to. (s : List ℕ) × IsTextAt d i s to × IsUtf8 s) (λ to. ValueStands c.args.depth d i to any_json)
    (λ to further text. text_to c.args.depth d i to text.0 further text.1) c.any_text_end.ensures.further c.any_text_end.ensures.text

pub any_value_end-returns-in-Some : goal.any_value_end-returns-in-Some
any_value_end-returns-in-Some t c = token_to c.args.depth c.args.line.now c.args.place c.in-Some.end (Token.boolean _) any_json c.in-Some.ensures (any_boolean _)

pub any_value_end-returns-in-110 : goal.any_value_end-returns-in-110
any_value_end-returns-in-110 t c =
    let d = c.args.line.now in
    let i = c.args.place in
    some_by c.null_end.result (λ to. StandsTo d i Token.null to) (λ to. ValueStands c.args.depth d i to any_json) (λ to stands. any_null c.args.depth d i to stands) c.null_end.ensures

pub any_value_end-returns-else-depth-eq0 : goal.any_value_end-returns-else-depth-eq0
any_value_end-returns-else-depth-eq0 t c =
    let d = c.args.line.now in
    let i = c.args.place in
    let depth = c.args.depth in
    let here = sym c.byte.ensures.here ∙ c.in-91.is in
    let within : i < length d = within_byte d i 91 here (λ e. omega arith) in
    some_by c.items_end.result (λ to. PassesTo d (i + 1) to × ReadsItems (depth - 1) (tokens_at fresh d (i + 1)) (tokens_at after_value d to) any_items) (λ to. ValueStands depth d i to any_json)
    (λ to both. array_to depth d i to any_items any_json (omega arith) within (other_default d i 91 here (λ e. omega arith)) (λ jsons _. tt) both.0 both.1) c.items_end.ensures

pub any_value_end-returns-else-depth-eq0-2 : goal.any_value_end-returns-else-depth-eq0-2
any_value_end-returns-else-depth-eq0-2 t c =
    let d = c.args.line.now in
    let i = c.args.place in
    let depth = c.args.depth in
    let here = sym c.byte.ensures.here ∙ c.in-123.is in
    let within : i < length d = within_byte d i 123 here (λ e. omega arith) in
    some_by c.members_end.result (λ to. PassesTo d (i + 1) to × ReadsMembers (depth - 1) (tokens_at fresh d (i + 1)) (tokens_at after_value d to) any_members) (λ to. ValueStands depth d i to any_json)
    (λ to both. object_to depth d i to any_members any_json (omega arith) within (other_default d i 123 here (λ e. omega arith)) (λ found _. tt) both.0 both.1) c.members_end.ensures

pub any_value_end-returns-in_default : goal.any_value_end-returns-in_default
any_value_end-returns-in_default t c =
    let d = c.args.line.now in
    let i = c.args.place in
    some_by c.any_number_end.result (λ to. (s : List ℕ) × StandsTo d i (Token.number s) to × IsSome (number_of s)) (λ to. ValueStands c.args.depth d i to any_json)
    (λ to stands. token_to c.args.depth d i to (Token.number stands.0) any_json stands.1 (any_number stands.0 stands.2)) c.any_number_end.ensures

-- ---- items

pub items_end-returns-then-byte-eq93 : goal.items_end-returns-then-byte-eq93
items_end-returns-then-byte-eq93 t c =
    let d = c.args.line.now in
    let place = c.past_blanks-place.result in
    let passed = c.past_blanks-place.ensures in
    let here = sym c.byte.ensures.here ∙ c.if-byte-eq93.true in
    let within : place < length d = within_byte d place 93 here (λ e. omega arith) in (
      (omega (arith, passed.bounds.0), omega (arith, within)),
      no_items_read c.args.depth d c.args.from place any_items passed within (other_default d place 93 here (λ e. omega arith)) tt,
    )

pub items_end-items-init : goal.items_end-items-init
items_end-items-init t c = items_begin c.args.depth c.args.line.now c.args.from c.past_blanks-place.result any_items c.past_blanks-place.ensures tt

pub items_end-items-preserved : goal.items_end-items-preserved
items_end-items-preserved t c =
    let l = c.items in
    let d = c.args.line.now in
    let comma = c.past_blanks-place-in-Some.result in
    let here = sym c.byte-in-items.ensures.here ∙ c.in-44.is in
    item_and_comma c.args.depth d c.args.from l.place c.in-Some.end comma c.past_blanks-place-in-44.result any_items any_items any_json (λ _ _ _ _. tt) l.invariant c.in-Some.ensures c.past_blanks-place-in-Some.ensures
    (within_byte d comma 44 here (λ e. omega arith)) (other_default d comma 44 here (λ e. omega arith)) c.past_blanks-place-in-44.ensures

pub items_end-returns-in-93 : goal.items_end-returns-in-93
items_end-returns-in-93 t c =
    let l = c.items in
    let d = c.args.line.now in
    let bracket = c.past_blanks-place-in-Some.result in
    let passed = c.past_blanks-place-in-Some.ensures in
    let here = sym c.byte-in-items.ensures.here ∙ c.in-93.is in
    let within : bracket < length d = within_byte d bracket 93 here (λ e. omega arith) in (
      (omega (arith, l.invariant.bounds.0, c.in-Some.ensures.bounds.0, passed.bounds.0), omega (arith, within)),
      item_and_bracket c.args.depth d c.args.from l.place c.in-Some.end bracket any_items any_items any_json (λ _ _ _ _. tt) l.invariant c.in-Some.ensures passed within (other_default d bracket 93 here (λ e. omega arith)),
    )

-- ---- members

pub member_end-returns : goal.member_end-returns
member_end-returns t c =
    let d = c.args.line.now in
    let i = c.args.place in
    let colon = c.past_blanks-colon.result in
    let here = sym c.byte.ensures.here ∙ c.if-byte-ne58.false in
    let text = c.in-Some.ensures.text in
    let named = named_text d i c.in-Some.end colon text.0 c.in-Some.ensures.further text.1 c.past_blanks-colon.ensures (within_byte d colon 58 here (λ e. omega arith)) (other_default d colon 58 here (λ e. omega arith)) in
    some_by c.any_value_end.result (λ to. ValueStands c.args.depth d c.past_blanks.result to any_json) (λ to. PassesAnyMember c.args.depth d i to)
    (λ to reads. (text.0, colon + 1, named, reads_behind c.args.depth d (colon + 1) c.past_blanks.result to any_json c.past_blanks.ensures reads)) c.any_value_end.ensures

pub members_end-returns-then-byte-eq125 : goal.members_end-returns-then-byte-eq125
members_end-returns-then-byte-eq125 t c =
    let d = c.args.line.now in
    let place = c.past_blanks-place.result in
    let passed = c.past_blanks-place.ensures in
    let here = sym c.byte.ensures.here ∙ c.if-byte-eq125.true in
    let within : place < length d = within_byte d place 125 here (λ e. omega arith) in (
      (omega (arith, passed.bounds.0), omega (arith, within)),
      no_members_read c.args.depth d c.args.from place any_members any_members passed within (other_default d place 125 here (λ e. omega arith)) (λ _ _. tt) tt,
    )

pub members_end-members-init : goal.members_end-members-init
members_end-members-init t c = members_begin c.args.depth c.args.line.now c.args.from c.past_blanks-place.result any_members c.past_blanks-place.ensures tt

pub members_end-members-preserved : goal.members_end-members-preserved
members_end-members-preserved t c =
    let l = c.members in
    let d = c.args.line.now in
    let comma = c.past_blanks-place-in-Some.result in
    let m = c.in-Some.ensures in
    let here = sym c.byte-in-members.ensures.here ∙ c.in-44.is in
    member_and_comma c.args.depth d c.args.from l.place m.1 c.in-Some.end comma c.past_blanks-place-in-44.result m.0 any_members any_members any_json (λ _ _ _ _. tt) l.invariant m.2 m.3 c.past_blanks-place-in-Some.ensures
    (within_byte d comma 44 here (λ e. omega arith)) (other_default d comma 44 here (λ e. omega arith)) c.past_blanks-place-in-44.ensures

pub members_end-returns-in-125 : goal.members_end-returns-in-125
members_end-returns-in-125 t c =
    let l = c.members in
    let d = c.args.line.now in
    let brace = c.past_blanks-place-in-Some.result in
    let passed = c.past_blanks-place-in-Some.ensures in
    let m = c.in-Some.ensures in
    let here = sym c.byte-in-members.ensures.here ∙ c.in-125.is in
    let within : brace < length d = within_byte d brace 125 here (λ e. omega arith) in (
      (omega (arith, l.invariant.bounds.0, m.2.bounds.0, m.3.bounds.0, passed.bounds.0), omega (arith, within)),
      member_and_brace c.args.depth d c.args.from l.place m.1 c.in-Some.end brace m.0 any_members any_members any_members any_json (λ _ _ _ _. tt) (λ _ _. tt) l.invariant m.2 m.3 passed within
          (other_default d brace 125 here (λ e. omega arith)),
    )
