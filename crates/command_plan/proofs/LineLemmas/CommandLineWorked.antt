-- Worked command lines.
use Rattle.std.proofs.Common.{◌≡◌, [], ◌∷◌, false, true, Some, refl, codes}
use Rattle.clap.specs.Words.{fault_of, first_of}
use Rattle.clap.specs.declared.error.kind.ErrorKind.TheVariants as kind
use Rattle.clap.proofs.OnLiterals.{clap_on_literals}
use Rattle.command_plan.specs.CommandLine.{Enters, GivesNotOne, IsTaken, is_flag_set, option_value, verb_matches, odfilter_app}
use Rattle.command_plan.specs.declared.command_line.Verb.{Verb}
use Rattle.command_plan.specs.WorkedLines as worked

pub whole_taken : IsTaken worked.whole
unfolding clap_on_literals
whole_taken = refl

pub whole_schema : first_of (codes "schema") (verb_matches worked.whole) ≡ Some (codes "s")
unfolding clap_on_literals
whole_schema = refl

pub whole_type : first_of (codes "type") (verb_matches worked.whole) ≡ Some (codes "N.T")
unfolding clap_on_literals
whole_type = refl

pub whole_filter : first_of (codes "filter") (verb_matches worked.whole) ≡ Some (codes "true")
unfolding clap_on_literals
whole_filter = refl

pub whole_rows : first_of (codes "rows") (verb_matches worked.whole) ≡ Some (codes "r")
unfolding clap_on_literals
whole_rows = refl

pub whole_lines : is_flag_set Verb.Filter (codes "collection") (verb_matches worked.whole) ≡ false
unfolding clap_on_literals
whole_lines = refl

pub collection_taken : IsTaken worked.with_collection
unfolding clap_on_literals
collection_taken = refl

pub collection_set : is_flag_set Verb.Filter (codes "collection") (verb_matches worked.with_collection) ≡ true
unfolding clap_on_literals
collection_set = refl

pub query_taken : IsTaken worked.with_query
unfolding clap_on_literals
query_taken = refl

pub query_found : first_of (codes "query") (verb_matches worked.with_query) ≡ Some (codes "x")
unfolding clap_on_literals
query_found = refl

pub neither : GivesNotOne worked.without_filter
unfolding clap_on_literals
neither = record { is_taken = refl; lacks = λ one. one }

pub both : GivesNotOne worked.with_both
unfolding clap_on_literals
both = record { is_taken = refl; lacks = λ one. one }

pub no_schema : fault_of odfilter_app worked.without_schema ≡ kind.MissingRequiredArgument ∷ []
unfolding clap_on_literals
no_schema = refl

pub unknown_option : fault_of odfilter_app worked.with_unknown_option ≡ kind.UnknownArgument ∷ []
unfolding clap_on_literals
unknown_option = refl

pub version : fault_of odfilter_app worked.version_alone ≡ kind.DisplayVersion ∷ []
unfolding clap_on_literals
version = refl

pub no_version : fault_of odfilter_app worked.version_of_filter ≡ kind.UnknownArgument ∷ []
unfolding clap_on_literals
no_version = refl

pub help : fault_of odfilter_app worked.help_of_filter ≡ kind.DisplayHelp ∷ []
unfolding clap_on_literals
help = refl

pub check_taken : IsTaken worked.whole_check
unfolding clap_on_literals
check_taken = refl

pub check_enters : Enters worked.whole_check Verb.Check
unfolding clap_on_literals
check_enters = refl

pub check_filter : first_of (codes "filter") (verb_matches worked.whole_check) ≡ Some (codes "true")
unfolding clap_on_literals
check_filter = refl

pub check_rows : fault_of odfilter_app worked.check_with_rows ≡ kind.UnknownArgument ∷ []
unfolding clap_on_literals
check_rows = refl

pub check_now : fault_of odfilter_app worked.check_with_now ≡ kind.UnknownArgument ∷ []
unfolding clap_on_literals
check_now = refl

pub check_collection : fault_of odfilter_app worked.check_with_collection ≡ kind.UnknownArgument ∷ []
unfolding clap_on_literals
check_collection = refl

pub now_taken : IsTaken worked.with_now
unfolding clap_on_literals
now_taken = refl

pub now_found : first_of (codes "now") (verb_matches worked.with_now) ≡ Some (codes "m")
unfolding clap_on_literals
now_found = refl

pub explain_taken : IsTaken worked.whole_explain
unfolding clap_on_literals
explain_taken = refl

pub explain_enters : Enters worked.whole_explain Verb.Explain
unfolding clap_on_literals
explain_enters = refl

pub explain_query : first_of (codes "query") (verb_matches worked.whole_explain) ≡ Some (codes "x")
unfolding clap_on_literals
explain_query = refl

pub explain_row_taken : IsTaken worked.explain_with_row
unfolding clap_on_literals
explain_row_taken = refl

pub explain_rows : option_value Verb.Explain (codes "rows") (verb_matches worked.explain_with_row) ≡ Some (codes "r")
unfolding clap_on_literals
explain_rows = refl

pub explain_row : option_value Verb.Explain (codes "row") (verb_matches worked.explain_with_row) ≡ Some (codes "2")
unfolding clap_on_literals
explain_row = refl

pub explain_now : option_value Verb.Explain (codes "now") (verb_matches worked.explain_with_row) ≡ Some (codes "m")
unfolding clap_on_literals
explain_now = refl

pub explain_collection : fault_of odfilter_app worked.explain_with_collection ≡ kind.UnknownArgument ∷ []
unfolding clap_on_literals
explain_collection = refl

pub filter_row : fault_of odfilter_app worked.filter_with_row ≡ kind.UnknownArgument ∷ []
unfolding clap_on_literals
filter_row = refl
