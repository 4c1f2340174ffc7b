-- A text is the JSON that its tape is, if that is read; else it is none.
use Rattle.std.proofs.lemmas.Bool.{false≢true}
use Rattle.std.proofs.Common.{◌≡◌, ◌≤◌, ◌∙◌, ℕ, List, [], ◌∷◌, Option, Some, None, option_and_then, option_map, refl, sym, ap, subst, arith}
use Rattle.std.specs.Prelude.{IsSome}
use Rattle.json.specs.Lex.{tokens}
use Rattle.json.specs.Token.{Token}
use Rattle.json.specs.Find.{BeginsWith}
use Rattle.json.specs.Json as json
use Rattle.json.specs.Tree.{depth}
use Rattle.json.proofs.Found.{Some_inj, not_found}
use Rattle.json.proofs.Nesting.{value-depth}
use Rattle.serde_json.specs.Data.{Data}
use Rattle.serde_json.specs.Read.{max_depth, of_json, read}
use Rattle.edm_entities.specs.private.TapeNodes.{IsReadWithin, data_on}
use Rattle.edm_entities.proofs.TapeLemmas.Shallow.{read_within}
use Rattle.edm_entities.proofs.TapeLemmas.Values.{read_as}

abbrev Parsed : Type 0
Parsed = Option (json.Json × List Token)

abbrev whole : Parsed → Option json.Json
whole o = option_and_then (λ p. json.if_last p.0 p.1) o

-- what is read at one depth is read at each that is no less
deeper : (text : List ℕ) (j : json.Json) (rest : List Token) → json.value max_depth (tokens text) ≡ Some (j, rest) → json.value json.max_depth (tokens text) ≡ Some (j, rest)
deeper text j rest is = read_within max_depth json.max_depth (tokens text) rest j is (omega (arith, value-depth max_depth (tokens text) rest j is))

-- a text that is no document is no JSON
pub no_document : (text : List ℕ) → json.document text ≡ None → read text ≡ None
no_document text none = by (json.value max_depth (tokens text)) refl
  where
    by : (o : Parsed) → json.value max_depth (tokens text) ≡ o → option_and_then of_json (whole o) ≡ None
    by None at = refl
    by (Some (j, [])) at = not_found j (sym none ∙ ap whole (deeper text j [] at))
    by (Some (j, t ∷ ts)) at = refl

last : (o : Parsed) (j : json.Json) → whole o ≡ Some j → o ≡ Some (j, [])
last None j is = not_found j is
last (Some (i, [])) j is = ap (λ (x : json.Json). Some (x, [])) (Some_inj i j is)
last (Some (i, t ∷ ts)) j is = not_found j is

-- a document that nests too deep, or has a number without a value, is no JSON
pub unread_document : (text : List ℕ) (j : json.Json) → json.document text ≡ Some j → ¬ (IsReadWithin max_depth j) → read text ≡ None
unread_document text j is other = by (json.value max_depth (tokens text)) refl
  where
    by : (o : Parsed) → json.value max_depth (tokens text) ≡ o → option_and_then of_json (whole o) ≡ None
    by None at = refl
    by (Some (i, t ∷ ts)) at = refl
    by (Some (i, [])) at = none (of_json i) refl
      where
        same : i ≡ j
        same = ap (λ (p : json.Json × List Token). p.0) (Some_inj _ _ (sym (deeper text i [] at) ∙ last _ j is))

        within : depth j ≤ max_depth
        within = subst (λ (x : json.Json). depth x ≤ max_depth) same (value-depth max_depth (tokens text) [] i at)

        none : (o : Option Data) → of_json i ≡ o → o ≡ None
        none None read_is = refl
        none (Some d) read_is = absurd (other (within, subst (λ (x : json.Json). IsSome (of_json x)) same (subst (λ (d : Option Data). IsSome d) (sym read_is) refl)))

-- a document that is read is the text of the data on the tape
pub read_document : (text : List ℕ) (j : json.Json) → json.document text ≡ Some j → IsReadWithin max_depth j → read text ≡ Some (data_on (tokens text))
read_document text j is within = by (of_json j) refl within.1
  where
    here : json.value json.max_depth (tokens text) ≡ Some (j, [])
    here = last _ j is

    shallow : json.value max_depth (tokens text) ≡ Some (j, [])
    shallow = read_within json.max_depth max_depth (tokens text) [] j here within.0

    by : (o : Option Data) → of_json j ≡ o → IsSome o → read text ≡ Some (data_on (tokens text))
    by None read_is some = absurd (false≢true some)
    by (Some d) read_is some =
        ap (λ (o : Parsed). option_and_then of_json (whole o)) shallow ∙ read_is
        ∙ ap Some (sym (read_as (tokens text) j d (json.max_depth, [], here) (omega (arith, within.0)) read_is).1)
