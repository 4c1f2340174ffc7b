-- How the words of a command line ask a run to report.
use Rattle.std.specs.Prelude.{◌≡◌, ◌&&◌, ◌||◌, ◌⊎◌, List, [], Option, Some, None, codes, false, if◌then◌else◌, map, not}
use Rattle.std.specs.Prelude.{IsSome, IsSomeAnd, option_map, true, unwrap_or}
use Rattle.std.specs.Str.{bytes_eq}
use Rattle.clap.specs.Words.{Text, first_of}
use Rattle.line_filter.specs.declared.part.Part.{Part}
use Rattle.command_plan.specs.CommandLine.{AskForTypes, IsPlanOf, IsRefusedBy, is_flag_set, option_value}
use Rattle.command_plan.specs.CommandLine.{option_values, types_matches, verb_matches}
use Rattle.command_plan.specs.PartTexts.{IsNoPart, IsPartText, are_lines_of_a_file}
use Rattle.command_plan.specs.declared.command_line.Format.{Format}
use Rattle.command_plan.specs.declared.command_line.Format.TheVariants.{Json, Text as InText}
use Rattle.command_plan.specs.declared.command_line.Hints.{Hints}
use Rattle.command_plan.specs.declared.command_line.Hints.TheVariants.{Always, Auto, Never}
use Rattle.command_plan.specs.declared.command_line.Plan.{Plan}
use Rattle.command_plan.specs.declared.command_line.Request.{Request}
use Rattle.command_plan.specs.declared.command_line.RequestFault.{RequestFault}
use Rattle.command_plan.specs.declared.command_line.RunRequest.{RunRequest}
use Rattle.command_plan.specs.declared.command_line.TypesRequest.{TypesRequest}

-- when hints are wanted, by the value of `--hints`: `auto` without one, and none of them by any other word
abbrev pub hints_asked : Option Text → Option Hints
hints_asked None = Some Auto
hints_asked (Some text) =
    if bytes_eq text (codes "auto") then Some Auto
    else if bytes_eq text (codes "always") then Some Always
    else if bytes_eq text (codes "never") then Some Never else None

-- in which form, by the value of `--format`: `text` without one
abbrev pub format_asked : Option Text → Option Format
format_asked None = Some InText
format_asked (Some text) =
    if bytes_eq text (codes "text") then Some InText
    else if bytes_eq text (codes "json") then Some Json else None

-- the part that the value of `--part` asks for, none without one
abbrev pub AsksForPart : Option Text → Option Part → Type 0
AsksForPart None part = part ≡ None
AsksForPart (Some text) part = IsSomeAnd part (λ p. IsPartText text p.number p.count)

-- the words ask for this plan, for such reports of its run, for these files of rows, what becomes of rows at fault,
-- whether the entities of a collection are written, which row is explained, and for this part of the lines of one file
pub record IsRunOf (words : List Text) (request : RunRequest) : Type 0 where
  pub plan : IsPlanOf words request.plan
  pub hints : hints_asked (first_of (codes "hints") (verb_matches words)) ≡ Some request.hints
  pub format : format_asked (first_of (codes "format") (verb_matches words)) ≡ Some request.format
  pub rows : map (λ s. s.now) request.rows.items ≡ option_values request.plan.verb (codes "rows") (verb_matches words)
  pub count : request.count ≡ is_flag_set request.plan.verb (codes "count") (verb_matches words)
  pub is_lines : (request.plan.collection && (request.count || request.skip_faulty)) ≡ false
  pub skip_faulty : request.skip_faulty ≡ is_flag_set request.plan.verb (codes "skip-faulty") (verb_matches words)
  pub items : request.items ≡ is_flag_set request.plan.verb (codes "items") (verb_matches words)
  pub row : option_map (λ s. s.now) request.row ≡ option_value request.plan.verb (codes "row") (verb_matches words)
  pub has_items : (request.items && not request.plan.collection) ≡ false
  pub part : AsksForPart (option_value request.plan.verb (codes "part") (verb_matches words)) request.part
  pub part_of_lines : IsSome request.part
      → are_lines_of_a_file request.plan.collection (map (λ s. s.now) request.rows.items) ≡ true

-- the words ask for the types of this schema, and how they are reported
pub record IsTypesOf (words : List Text) (request : TypesRequest) : Type 0 where
  pub asks : AskForTypes words
  pub schema : request.schema.now ≡ unwrap_or (first_of (codes "schema") (types_matches words)) []
  pub hints : hints_asked (first_of (codes "hints") (types_matches words)) ≡ Some request.hints
  pub format : format_asked (first_of (codes "format") (types_matches words)) ≡ Some request.format

-- the words ask for that
abbrev pub IsRequestOf : List Text → Request → Type 0
IsRequestOf words (Request.Run run) = IsRunOf words run
IsRequestOf words (Request.Types types) = IsTypesOf words types

-- the words ask for a plan, of which P holds
abbrev pub HasPlan : List Text → (Plan → Type 0) → Type 0
HasPlan words P = (plan : Plan) × IsPlanOf words plan × P plan

-- why the words are no request: they ask for no plan; or for one or for types, and an option has another word; or for a
-- plan, and the rows are a collection and are to be counted or passed over as lines are, or are none and its entities
-- are to be written; or the part is none, or is one of other rows than the lines of one file
abbrev pub IsNoRequest : List Text → RequestFault → Type 0
IsNoRequest words (RequestFault.Plan fault) = IsRefusedBy words fault
IsNoRequest words RequestFault.Hints =
    HasPlan words (λ plan. hints_asked (first_of (codes "hints") (verb_matches words)) ≡ None)
    ⊎ (AskForTypes words × (hints_asked (first_of (codes "hints") (types_matches words)) ≡ None))
IsNoRequest words RequestFault.Format =
    HasPlan words (λ plan. format_asked (first_of (codes "format") (verb_matches words)) ≡ None)
    ⊎ (AskForTypes words × (format_asked (first_of (codes "format") (types_matches words)) ≡ None))
IsNoRequest words RequestFault.Collection =
    HasPlan words (λ plan. (plan.collection && (is_flag_set plan.verb (codes "count") (verb_matches words)
    || is_flag_set plan.verb (codes "skip-faulty") (verb_matches words))) ≡ true)
IsNoRequest words RequestFault.Items =
    HasPlan words (λ plan. (is_flag_set plan.verb (codes "items") (verb_matches words) && not plan.collection) ≡ true)
IsNoRequest words RequestFault.Part =
    HasPlan words (λ plan. IsSomeAnd (option_value plan.verb (codes "part") (verb_matches words)) IsNoPart)
IsNoRequest words RequestFault.PartOfRows =
    HasPlan words (λ plan. IsSome (option_value plan.verb (codes "part") (verb_matches words))
    × (are_lines_of_a_file plan.collection (option_values plan.verb (codes "rows") (verb_matches words)) ≡ false))
