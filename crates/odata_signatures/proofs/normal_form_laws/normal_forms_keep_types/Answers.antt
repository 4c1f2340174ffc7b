use Rattle.odata_signatures.proofs.printed.Literals.{LiteralFacts, alike, value_from, value_to}
use Rattle.odata_signatures.proofs.printed.Nodes.{bare_by_number, normal_by_number}
use Rattle.odata_signatures.proofs.printed.Places.{bare_from, bare_to}
use Rattle.odata_signatures.proofs.printed.Types.{types_from, types_to}
use Rattle.odata_signatures.proofs.tree_types.Sides.{quoted_bare, quoted_normal}
use Rattle.odata_signatures.proofs.printed.Values.{guid_values, int_values, moment_values}
use Rattle.odata_signatures.proofs.normal_form_laws.normal_forms_keep_types.Goals as goal

pub returns-clause-values : goal.returns-clause-values
returns-clause-values c = λ slots kind text spelling v is.
    let facts : LiteralFacts = record {
      ints = int_values c.texts_have_one_value.ensures.int c.ints_read_back.ensures;
      moments = moment_values c.texts_have_one_value.ensures.moment c.moments_read_back.ensures.value;
      guids = guid_values c.texts_have_one_value.ensures.guid c.guids_read_back.ensures;
    } in
    let are = alike facts slots kind text spelling is.is in
    (λ value. value_to slots kind text spelling v are value, λ value. value_from slots kind text spelling v are value)

pub returns-clause-types : goal.returns-clause-types
returns-clause-types c = λ slots root scope tree normal type is.
    let facts : LiteralFacts = record {
      ints = int_values c.texts_have_one_value.ensures.int c.ints_read_back.ensures;
      moments = moment_values c.texts_have_one_value.ensures.moment c.moments_read_back.ensures.value;
      guids = guid_values c.texts_have_one_value.ensures.guid c.guids_read_back.ensures;
    } in
    (λ typed. types_to facts slots root scope tree normal type is typed, λ typed. types_from facts slots root scope tree normal type is typed)

pub returns-clause-places : goal.returns-clause-places
returns-clause-places c = λ slots root scope tree type.
    (λ typed. bare_to slots root scope tree type typed, λ typed. bare_from slots root scope tree type typed)

pub returns-clause-nodes : goal.returns-clause-nodes
returns-clause-nodes c =
    let facts : LiteralFacts = record {
      ints = int_values c.texts_have_one_value.ensures.int c.ints_read_back.ensures;
      moments = moment_values c.texts_have_one_value.ensures.moment c.moments_read_back.ensures.value;
      guids = guid_values c.texts_have_one_value.ensures.guid c.guids_read_back.ensures;
    } in normal_by_number facts

pub returns-clause-nodes_bare : goal.returns-clause-nodes_bare
returns-clause-nodes_bare c = bare_by_number

pub returns-clause-quotes : goal.returns-clause-quotes
returns-clause-quotes c = quoted_normal

pub returns-clause-quotes_bare : goal.returns-clause-quotes_bare
returns-clause-quotes_bare c = quoted_bare
