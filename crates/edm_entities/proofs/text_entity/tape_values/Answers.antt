use Rattle.std.proofs.Common.{◌≡◌, ◌∙◌, ℕ, List, Option, Some, None, Err, refl, sym, ap, subst}
use Rattle.std.specs.Prelude.{IsSome}
use Rattle.json.specs.Find.{BeginsWith}
use Rattle.json.specs.Json.{Json, document}
use Rattle.json.specs.Lex.{tokens}
use Rattle.json.specs.Token.{Token}
use Rattle.serde_json.specs.Read.{max_depth, read}
use Rattle.csdl_schema.specs.JsonText.{IsJsonOf}
use Rattle.edm_entities.specs.private.TapeNodes.{IsReadWithin, data_on}
use Rattle.edm_entities.proofs.TapeLemmas.Texts.{no_document, read_document, unread_document}
use Rattle.edm_entities.proofs.text_entity.tape_values.Goals as goal

there : (o : Option Json) → IsSome o → (j : Json) × (o ≡ Some j)
there None some = absurd (cc)
there (Some j) some = (j, refl)

-- the text of a tape that is read is that of the data on it
is_read : (text : List ℕ) (tape node : List Token) → tape ≡ tokens text → IsSome (document text) → ((j : Json) → document text ≡ Some j → BeginsWith tape j) → node ≡ tape
    → ((j : Json) → BeginsWith node j → IsReadWithin max_depth j) → read text ≡ Some (data_on node)
is_read text tape node is some begins same within =
    let found = there (document text) some in
    let shallow = within found.0 (subst (λ (ts : List Token). BeginsWith ts found.0) (sym same) (begins found.0 found.1)) in
    subst (λ (ts : List Token). read text ≡ Some (data_on ts)) (sym (same ∙ is)) (read_document text found.0 found.1 shallow)

-- that of one that is not read is of no value
is_unread : (text : List ℕ) (tape : List Token) → IsSome (document text) → ((j : Json) → document text ≡ Some j → BeginsWith tape j)
    → ((j : Json) → BeginsWith tape j → ¬ (IsReadWithin max_depth j)) → read text ≡ None
is_unread text tape some begins other =
    let found = there (document text) some in
    unread_document text found.0 found.1 (other found.0 (begins found.0 found.1))

pub returns-in-Err-Invalid-clause-fault : goal.returns-in-Err-Invalid-clause-fault
returns-in-Err-Invalid-clause-fault c = λ utf8. no_document c.args.text.now (c.in-Err-Invalid.ensures.invalid (ap Err c.in-Err-Invalid.field-0-is))

pub returns-in-Some-clause-values : goal.returns-in-Some-clause-values
returns-in-Some-clause-values c =
    let made = c.in-Ok.ensures in
    let node = c.in-Some.ensures in
    c.node_values.ensures.values c.args.text.now (c.utf8.text, is_read c.args.text.now c.in-Ok.tape c.in-Some.node made.ok.0 made.ok.1 made.value node.node node.read)

pub returns-in-Some-clause-fault : goal.returns-in-Some-clause-fault
returns-in-Some-clause-fault c =
    let made = c.in-Ok.ensures in
    let node = c.in-Some.ensures in
    c.node_values.ensures.fault c.args.text.now (c.utf8.text, is_read c.args.text.now c.in-Ok.tape c.in-Some.node made.ok.0 made.ok.1 made.value node.node node.read)

pub returns-clause-fault : goal.returns-clause-fault
returns-clause-fault c = λ utf8. is_unread c.args.text.now c.in-Ok.tape c.in-Ok.ensures.ok.1 c.in-Ok.ensures.value (c.of_tape.ensures.unread (cc))
