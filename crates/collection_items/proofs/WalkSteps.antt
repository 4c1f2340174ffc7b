-- Steps of the walk over a document: items and members, one after another.
use Rattle.std.proofs.Common.{◌≡◌, inl, inr, ℕ, ◌+◌, ◌<◌, ◌≤◌, List, [], ◌∷◌, ◌++◌, length, get_or, Bool, false, Some, refl, sym, ap, ◌∙◌, subst, arith}
use Rattle.std.specs.Prelude.{codes}
use Rattle.json.specs.Json.{value as json_value}
use Rattle.json.specs.Lex.{tokens, after_comma, after_value, fresh}
use Rattle.json.specs.Token.{begin_object}
use Rattle.serde_json.specs.Data.{Data, Items, Members, array, item, no_items, object}
use Rattle.serde_json.specs.Read.{converted, of_json, read}
use Rattle.serde_json.specs.View.{items_of}
use Rattle.serde_json.proofs.Views.{get_member-put, get_member-put_other}
use Rattle.json_room.proofs.LexemeLemmas.{none_left}
use Rattle.json_room.specs.private.Lexemes.{PassesSpaces}
use Rattle.json_room.specs.Lexemes.{EndsHere, tokens_at}
use Rattle.json_room.specs.ValueTokens.{Reads}
use Rattle.json_room.specs.private.ItemTokens.{ItemsLead, ReadsMembers, append_items}
use Rattle.json_room.proofs.Leads.{item_more, items_over}
use Rattle.json_room.proofs.Tokens.{object_reads, unclosed, whole_read}
use Rattle.json_room.specs.ValueStands.{ValueStands}
use Rattle.json_room.specs.private.ValuesStand.{NamesTo, MembersRead, MembersUpTo}
use Rattle.json_room.proofs.Places.{ItemsUpTo, array_ends, array_to, brace_then, close_ends, comma_ends, comma_then, member_then, object_ends, object_opened, spaces_at}
use Rattle.collection_items.specs.JudgedItems.{AreJudged, HasValue, IsArrayIn, ItemJudge}
use Rattle.collection_items.specs.private.DocumentWalk.{EndsItem, EndsPair, FindsArray, JudgesArray, NamesMember}
use Rattle.collection_items.specs.declared.document_walk.After.{After}
use Rattle.collection_items.specs.declared.document_walk.MemberName.{MemberName}

-- ---- what comes after an item or a member

pub comma_passed : (line : List ℕ) (end place next : ℕ) → PassesSpaces line end place → place < length line → get_or line place 32 ≡ 44 → PassesSpaces line (place + 1) next
    → (end < next) × (next ≤ length line) × EndsHere line end × (tokens_at after_comma line next ≡ tokens_at after_value line end)
comma_passed line end place next passed within is behind =
    let ended = comma_ends line end place passed within is in
    (omega (arith, passed.bounds.0, behind.bounds.0), behind.bounds.1, ended.0, spaces_at after_comma line (place + 1) next behind ∙ ended.1)

pub bracket_passed : (line : List ℕ) (end place : ℕ) → PassesSpaces line end place → place < length line → get_or line place 32 ≡ 93 → EndsItem line end (After.Close (place + 1))
bracket_passed line end place passed within is =
    (omega (arith, passed.bounds.0), omega (arith, within), close_ends line end place 93 passed within is (inr refl), array_ends after_value line end place refl passed within is)

pub brace_passed : (line : List ℕ) (end place : ℕ) → PassesSpaces line end place → place < length line → get_or line place 32 ≡ 125 → EndsPair line end (After.Close (place + 1))
brace_passed line end place passed within is =
    (omega (arith, passed.bounds.0), omega (arith, within), close_ends line end place 125 passed within is (inl refl), object_ends after_value line end place refl passed within is)

-- a name and its colon, with the white space after that
pub names_then : (line : List ℕ) (from : ℕ) (name : List ℕ) (to place : ℕ) → NamesTo line from name to → PassesSpaces line to place → NamesTo line from name place
names_then line from name to place names passed =
    record {
      bounds = (omega (arith, names.bounds.0, passed.bounds.0), passed.bounds.1);
      reads = λ turn may. names.reads turn may ∙ ap (λ ts. Some (Some name, ts)) (sym (spaces_at fresh line to place passed));
    }

-- ---- items and their answers

items_snoc : (items : List Data) (json : Data) → append_items (items_of items) (item json no_items) ≡ items_of (items ++ json ∷ [])
items_snoc [] json = refl
items_snoc (d ∷ ds) json = ap (item d) (items_snoc ds json)

judged_snoc : {K : Type 0} (judge : Data → K → Type 0) (items : List Data) (flags : List K) (json : Data) (kept : K) → AreJudged judge items flags → judge json kept → AreJudged judge (items ++ json ∷ []) (flags ++ kept ∷ [])
judged_snoc judge [] [] json kept are is = (is, tt)
judged_snoc judge [] (b ∷ bs) json kept are is = absurd are
judged_snoc judge (d ∷ ds) [] json kept are is = absurd are
judged_snoc judge (d ∷ ds) (b ∷ bs) json kept are is = (are.0, judged_snoc judge ds bs json kept are.1 is)

-- the items before an offset where one may begin, each judged
pub record JudgedUpTo {K : Type 0} (judge : Data → K → Type 0) (line : List ℕ) (from place : ℕ) (flags : List K) : Type 0 where
  pub items : List Data
  pub up_to : ItemsUpTo 125 line from place (λ found. found ≡ items_of items)
  pub judged : AreJudged judge items flags

module _ {K : Type 0} (judge : Data → K → Type 0) (line : List ℕ) (from place end : ℕ) (flags : List K) (kept : K) (so_far : JudgedUpTo judge line from place flags) (stands : ValueStands 125 line place end (λ json. judge json kept)) where
  -- the items up to the end of one more, if it may end there
  more : EndsHere line end → (items : List Data) × ItemsLead 125 (tokens_at fresh line from) (tokens_at after_value line end) (λ found. found ≡ items_of items) × AreJudged judge items (flags ++ kept ∷ [])
  more here =
      let up = so_far.up_to in
      let there : Reads 125 (tokens_at up.turn line place) (tokens_at after_value line end) (λ json. judge json kept) = stands.reads up.turn up.begins here in
      let is : Reads 125 (tokens_at up.turn line place) (tokens_at after_value line end) (λ json. json ≡ there.json) = record { json = there.json; is_read = there.is_read; holds = refl } in
      let items = so_far.items ++ there.json ∷ [] in (
        items,
        item_more 125 (tokens_at fresh line from) (tokens_at up.turn line place) (tokens_at after_value line end) (λ found. found ≡ items_of so_far.items) (λ json. json ≡ there.json) (λ found. found ≡ items_of items)
            (unclosed 125 (tokens_at up.turn line place) (tokens_at after_value line end) (λ json. json ≡ there.json) is)
            (λ found d before same. ap (λ (js : Items). append_items js (item d no_items)) before ∙ ap (λ (j : Data). append_items (items_of so_far.items) (item j no_items)) same ∙ items_snoc so_far.items there.json) is up.leads,
        judged_snoc judge so_far.items flags there.json kept so_far.judged there.holds,
      )

  pub item_then_comma : (next : ℕ) → EndsItem line end (After.Comma next) → JudgedUpTo judge line from next (flags ++ kept ∷ [])
  item_then_comma next (further, within, here, left) =
      let is = more here in
      record {
        items = is.0;
        up_to = record {
          bounds = (omega (arith, so_far.up_to.bounds.0, stands.bounds.0, further), within);
          turn = after_comma;
          begins = refl;
          leads = subst (λ ts. ItemsLead 125 (tokens_at fresh line from) ts (λ found. found ≡ items_of is.0)) (sym left) is.1;
        };
        judged = is.2;
      }

  pub item_then_bracket : (next : ℕ) → EndsItem line end (After.Close next) → JudgesArray judge line from (flags ++ kept ∷ []) next
  item_then_bracket next (further, within, here, closes) =
      let is = more here in
      record {
        items = is.0;
        bounds = (omega (arith, so_far.up_to.bounds.0, stands.bounds.0, further), within);
        read = items_over 125 (tokens_at fresh line from) (tokens_at after_value line end) (tokens_at after_value line next) (λ found. found ≡ items_of is.0) closes is.1;
        judged = is.2;
      }

-- ---- members

-- a member before that of the name `value`
pub member_passed : (line : List ℕ) (from place : ℕ) (member : MemberName) (end next : ℕ) → MembersUpTo 126 line from place (λ found. Unit {0}) → NamesMember line place member
    → ValueStands 126 line member.place end (λ json. Unit {0}) → EndsPair line end (After.Comma next) → MembersUpTo 126 line from next (λ found. Unit {0})
member_passed line from place member end next so_far named stands ends =
    comma_then 126 line from end next (λ found. Unit {0})
    (member_then 126 line from place member.place end named.name (λ found. Unit {0}) (λ found. Unit {0}) (λ json. Unit {0}) (λ found d p q. tt) so_far named.names stands) ends

-- a member after it
pub value_stays : (line : List ℕ) (from end next : ℕ) (member : MemberName) (last : ℕ) (json : Data) → MembersRead 126 line from end (HasValue json) → EndsPair line end (After.Comma next) → NamesMember line next member
    → member.is_value ≡ false → ValueStands 126 line member.place last (λ d. Unit {0}) → MembersRead 126 line from last (HasValue json)
value_stays line from end next member last json read ends named other stands =
    member_then 126 line from next member.place last named.name (HasValue json) (HasValue json) (λ d. Unit {0})
    (λ found d has _. get_member-put_other (codes "value") named.name d found (λ same. named.is_not other (sym same)) ∙ has)
    (comma_then 126 line from end next (HasValue json) read ends) named.names stands

pub value_last : (line : List ℕ) (from end next : ℕ) (json : Data) → MembersRead 126 line from end (HasValue json) → EndsPair line end (After.Close next)
    → ReadsMembers 126 (tokens_at fresh line from) (tokens_at after_value line next) (HasValue json)
value_last line from end next json read ends = brace_then 126 line from end next (HasValue json) (HasValue json) (λ found has. has) read ends

-- ---- the document

-- the member of the name `value`, up to its array's end
pub array_read : {K : Type 0} (judge : Data → K → Type 0) (line : List ℕ) (from bracket end : ℕ) (flags : List K) → FindsArray line from bracket → (judged : JudgesArray judge line (bracket + 1) flags end)
    → MembersRead 126 line from end (HasValue (array (items_of judged.items)))
array_read judge line from bracket end flags finds judged =
    let json = array (items_of judged.items) in
    let stands : ValueStands 126 line bracket end (λ d. d ≡ json) =
    array_to 126 line bracket end (λ found. found ≡ items_of judged.items) (λ d. d ≡ json) (omega arith) finds.opens.0 finds.opens.1 (λ found is. ap array is) judged.bounds judged.read in
    member_then 126 line from finds.key bracket end (codes "value") (λ found. Unit {0}) (HasValue json) (λ d. d ≡ json) (λ found d _ is. get_member-put (codes "value") d found ∙ ap Some is) finds.members finds.names stands

-- an object that is the whole text, but for white space
pub whole_object : (text : List ℕ) (begin end : ℕ) (P : Members → Type 0) → PassesSpaces text 0 begin → begin < length text → get_or text begin 32 ≡ 123 → ReadsMembers 126 (tokens_at fresh text (begin + 1)) (tokens_at after_value text end) P
    → PassesSpaces text end (length text) → (found : Members) × (read text ≡ Some (object found)) × P found
whole_object text begin end P passed within is members last =
    let Whole : (Data → Type 0) = λ json. (found : Members) × (json ≡ object found) × P found in
    let opened = object_opened fresh text begin refl within is in
    let whole : Reads 127 (begin_object ∷ tokens_at fresh text (begin + 1)) (tokens_at after_value text end) Whole =
    object_reads 127 (tokens_at fresh text (begin + 1)) (tokens_at after_value text end) P Whole (omega arith) (λ found holds. (found, refl, holds)) members in
    let started : tokens text ≡ begin_object ∷ tokens_at fresh text (begin + 1) = sym (spaces_at fresh text 0 begin passed) ∙ opened in
    let ended : tokens_at after_value text end ≡ [] = none_left after_value text end (length text) refl last refl in
    let text_read : read text ≡ Some whole.json =
    whole_read text whole.json (ap (λ ts. converted of_json (json_value 127 ts)) started ∙ whole.is_read ∙ ap (λ left. Some (whole.json, left)) ended) in
    (whole.holds.0, text_read ∙ ap Some whole.holds.1, whole.holds.2)

pub document_read : (line : List ℕ) (root last : ℕ) (items : List Data) → PassesSpaces line 0 root → root < length line → get_or line root 32 ≡ 123
    → ReadsMembers 126 (tokens_at fresh line (root + 1)) (tokens_at after_value line last) (HasValue (array (items_of items))) → PassesSpaces line last (length line) → IsArrayIn line items
document_read line root last items passed within opens members ends =
    let whole = whole_object line root last (HasValue (array (items_of items))) passed within opens members ends in
    (whole.0, whole.1, whole.2)
