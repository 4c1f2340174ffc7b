-- Worked documents.
use Rattle.std.proofs.Common.{◌≡◌, ℕ, zero, suc, ◌<◌, List, [], ◌∷◌, inr, Some, Bool, true, false, ◌&&◌, nat_lt, refl, chars, codes, lit≤, lit<, arith}
use Rattle.std.specs.List.{list_all}
use Rattle.std.specs.Str.{IsAscii}
use Rattle.std.proofs.lemmas.Bool.{false≢true}
use Rattle.std.proofs.lemmas.Bool.Decides.{nat_tests}
use Rattle.std.proofs.lemmas.Str.{IsUtf8-from_ascii, chars-IsAscii}
use Rattle.serde_json.specs.Data.{Data, array, object, string, no_items, member, no_members}
use Rattle.serde_json.specs.Read.{read}
use Rattle.serde_json.proofs.OnLiterals.{serde_json_on_literals}
use Rattle.unicode.proofs.CategoryComputing.{ucd_category}
use Rattle.odata_text.specs.Identifier.{begins_identifier, continues_identifier}
use Rattle.csdl_declarations.specs.Fault.{not_object}
use Rattle.csdl_schema.specs.Document.{StandsFor, IsFirstDocumentFault, declared_schema, document_faults}
use Rattle.csdl_schema.specs.Worked.{mini_text, mini_schema}

both : (a b : Bool) → (a && b) ≡ true → (a ≡ true) × (b ≡ true)
both true b h = (refl, h)
both false b h = absurd (false≢true h)

below : (x : ℕ) → nat_lt x 128 ≡ true → x < 128
below x h = grind (arith, nat_tests)

-- bytes that pass the test are ASCII
ascii_tested : (bs : List ℕ) → list_all (λ b. nat_lt b 128) bs ≡ true → IsAscii bs
ascii_tested [] h i = lit< tt
ascii_tested (x ∷ xs) h zero = below x (both (nat_lt x 128) _ h).0
ascii_tested (x ∷ xs) h (suc i) = ascii_tested xs (both (nat_lt x 128) _ h).1 i

abbrev mini_type : Data
mini_type =
    object (member (codes "$Kind") (string (codes "EntityType"))
    (member (codes "Active") (object (member (codes "$Type") (string (codes "Edm.Boolean")) no_members))
    (member (codes "ID") (object (member (codes "$Type") (string (codes "Edm.Int32")) no_members))
    (member (codes "Name") (object no_members) no_members))))

-- the members are in the order of names
abbrev mini_value : Data
mini_value =
    object (member (codes "$Version") (string (codes "4.01"))
    (member (codes "Mini") (object (member (codes "Item") mini_type no_members)) no_members))

array_reads : read (codes "[]") ≡ Some (array no_items)
unfolding serde_json_on_literals
array_reads = refl

pub array_refused : IsFirstDocumentFault (codes "[]") not_object
array_refused = inr (inr (lit≤ tt, array no_items, (IsUtf8-from_ascii (codes "[]") (ascii_tested (codes "[]") refl), array_reads), [], refl))

mini_reads : read mini_text ≡ Some mini_value
unfolding serde_json_on_literals
mini_reads = refl

mini_faultless : document_faults mini_value ≡ []
unfolding ucd_category begins_identifier continues_identifier
mini_faultless =
    let item : chars (codes "Item") ≡ codes "Item" = chars-IsAscii (codes "Item") (ascii_tested (codes "Item") refl) in
    let active : chars (codes "Active") ≡ codes "Active" = chars-IsAscii (codes "Active") (ascii_tested (codes "Active") refl) in
    let id : chars (codes "ID") ≡ codes "ID" = chars-IsAscii (codes "ID") (ascii_tested (codes "ID") refl) in
    let name : chars (codes "Name") ≡ codes "Name" = chars-IsAscii (codes "Name") (ascii_tested (codes "Name") refl) in
    rw (item, active, id, name) refl

mini_declared : mini_schema ≡ declared_schema mini_value
mini_declared = refl

pub mini_stands : StandsFor mini_text mini_schema
mini_stands = record { size = lit≤ tt; json = mini_value; is_json = (IsUtf8-from_ascii mini_text (ascii_tested mini_text refl), mini_reads); faultless = mini_faultless; is_declared = mini_declared }
