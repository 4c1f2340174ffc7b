-- Worked command lines of `types`.
use Rattle.std.proofs.Common.{◌≡◌, [], ◌∷◌, Some, refl, codes}
use Rattle.clap.specs.Words.{fault_of, first_of}
use Rattle.clap.specs.declared.error.kind.ErrorKind.TheVariants as kind
use Rattle.clap.proofs.OnLiterals.{clap_on_literals}
use Rattle.command_plan.specs.CommandLine.{AskForTypes, GivesNotOne, odfilter_app, types_matches}
use Rattle.command_plan.specs.Requests.{format_asked}
use Rattle.command_plan.specs.declared.command_line.Format.{Format}
use Rattle.command_plan.specs.WorkedLines as worked

pub types_asked : AskForTypes worked.whole_types
unfolding clap_on_literals
types_asked = record { is_taken = refl; enter = refl }

pub types_schema : first_of (codes "schema") (types_matches worked.whole_types) ≡ Some (codes "s")
unfolding clap_on_literals
types_schema = refl

pub types_format : format_asked (first_of (codes "format") (types_matches worked.whole_types)) ≡ Some Format.Json
unfolding clap_on_literals
types_format = refl

pub types_no_plan : GivesNotOne worked.whole_types
unfolding clap_on_literals
types_no_plan = record { is_taken = refl; lacks = λ one. one }

pub types_no_schema : fault_of odfilter_app worked.types_alone ≡ kind.MissingRequiredArgument ∷ []
unfolding clap_on_literals
types_no_schema = refl

pub types_no_filter : fault_of odfilter_app worked.types_with_filter ≡ kind.UnknownArgument ∷ []
unfolding clap_on_literals
types_no_filter = refl
