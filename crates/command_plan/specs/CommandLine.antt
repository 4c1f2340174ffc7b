-- What the words of a command line ask for, by what `clap` makes of them.
use Rattle.std.specs.Prelude.{◌≡◌, ◌&&◌, ⊤, Bool, false, true, List, [], Option, Some, None, codes}
use Rattle.std.specs.Prelude.{if◌then◌else◌, option_map, unwrap_or}
use Rattle.std.specs.List.{list_any}
use Rattle.std.specs.Option.{option_map_or}
use Rattle.std.specs.Str.{bytes_eq}
use Rattle.clap.specs.Words.{App, Row, Rule, Text, IsAmong, all_of, fault_of, first_of, kind_of, one_of}
use Rattle.clap.specs.Words.{new_app, new_rule, subcommand_of, with_rule, with_subcommand}
use Rattle.clap.specs.declared.builder.action.ArgAction.TheVariants.{Append, Set, SetTrue}
use Rattle.command_plan.specs.declared.command_line.Plan.{Plan}
use Rattle.command_plan.specs.declared.command_line.PlanFault.{PlanFault}
use Rattle.command_plan.specs.declared.command_line.PlanFault.TheVariants.{Clap, OneOf, Memory}
use Rattle.command_plan.specs.declared.command_line.Verb.{Verb}
use Rattle.command_plan.specs.declared.command_line.Verb.TheVariants.{Check, Explain, Filter}

-- an option `--name TEXT`, which the words must have or may have
abbrev pub text_rule : Text → Bool → Rule
text_rule name required = record (new_rule name) {
  long = Some name;
  action = Some Set;
  value_names = 1;
  required = required;
}

-- a flag `--name`, which takes no text
abbrev pub flag_rule : Text → Rule
flag_rule name = record (new_rule name) { long = Some name; action = Some SetTrue }

-- with the options that say how a run reports
abbrev pub formed_app : App → App
formed_app app = with_rule (with_rule app (text_rule (codes "hints") false)) (text_rule (codes "format") false)

-- an option `--name TEXT`, which the words may have several times
abbrev pub repeated_rule : Text → Rule
repeated_rule name = record (new_rule name) { long = Some name; action = Some Append; value_names = 1 }

-- with the flags of runs over rows that may be at fault
abbrev pub counting_app : App → App
counting_app app = with_rule (with_rule app (flag_rule (codes "count"))) (flag_rule (codes "skip-faulty"))

-- a subcommand with the options of every verb
abbrev pub verb_app : Text → App
verb_app word = formed_app (with_rule (with_rule (with_rule (with_rule (new_app word)
    (text_rule (codes "schema") true)) (text_rule (codes "type") true))
    (text_rule (codes "filter") false)) (text_rule (codes "query") false))

-- the subcommands of verbs: `check`; `explain`, which may name a row and say what stands for now; and `filter`, which
-- may name its rows, say what stands for now, say that the rows are a collection and that its entities are written,
-- which part of the rows is read, and what becomes of those at fault
abbrev pub check_app : App
check_app = verb_app (codes "check")

abbrev pub explain_app : App
explain_app = with_rule (with_rule (with_rule (verb_app (codes "explain")) (text_rule (codes "rows") false))
    (text_rule (codes "row") false)) (text_rule (codes "now") false)

abbrev pub filter_app : App
filter_app = counting_app (with_rule (with_rule (with_rule (with_rule (with_rule (verb_app (codes "filter"))
    (repeated_rule (codes "rows"))) (text_rule (codes "now") false)) (flag_rule (codes "collection")))
    (flag_rule (codes "items"))) (text_rule (codes "part") false))

-- the subcommand `types`, which has a schema and no filter
abbrev pub types_app : App
types_app = formed_app (with_rule (new_app (codes "types")) (text_rule (codes "schema") true))

-- the subcommand of a verb, a row a verb
abbrev pub app_of_verb : Verb → App
app_of_verb Check = check_app
app_of_verb Explain = explain_app
app_of_verb Filter = filter_app

-- the command answers `--version`, which its subcommands do not
abbrev pub with_version : App → App
with_version a = record a { top = record a.top { has_version = true } }

-- the command requires one of its subcommands
abbrev pub with_required_subcommand : App → App
with_required_subcommand a = record a { top = record a.top { subcommand_required = true } }

-- the program's command, up to the subcommands that read no rows
abbrev pub rowless_app : App
rowless_app =
    with_subcommand
    (with_subcommand (with_required_subcommand (with_version (new_app (codes "odfilter")))) check_app.top)
    explain_app.top

-- and with the one that does, and `types`
abbrev pub odfilter_app : App
odfilter_app = with_subcommand (with_subcommand rowless_app filter_app.top) types_app.top

-- `clap` takes the words: no step of its reading fails
abbrev pub IsTaken : List Text → Type 0
IsTaken words = fault_of odfilter_app words ≡ []

-- the word of a verb
abbrev pub verb_word : Verb → Text
verb_word Check = codes "check"
verb_word Explain = codes "explain"
verb_word Filter = codes "filter"

-- the matches of the subcommand that was entered, option by option, if it is that of a verb
abbrev pub matches_if_verb : Option (Text × List Row) → List Row
matches_if_verb None = []
matches_if_verb (Some entered) =
    if bytes_eq entered.0 (codes "filter") then entered.1
    else if bytes_eq entered.0 (codes "check") then entered.1
    else if bytes_eq entered.0 (codes "explain") then entered.1 else []

-- what the words say after their verb, option by option
abbrev pub verb_matches : List Text → List Row
verb_matches words = matches_if_verb (subcommand_of odfilter_app words)

-- the matches of the subcommand that was entered, option by option, if it is the one of that name
abbrev pub matches_if : Text → Option (Text × List Row) → List Row
matches_if word None = []
matches_if word (Some entered) = if bytes_eq entered.0 word then entered.1 else []

-- what the words say after `types`, option by option
abbrev pub types_matches : List Text → List Row
types_matches words = matches_if (codes "types") (subcommand_of odfilter_app words)

-- `clap` takes the words, and they enter `types`
pub record AskForTypes (words : List Text) : Type 0 where
  pub is_taken : IsTaken words
  pub enter : option_map (λ entered. entered.0) (subcommand_of odfilter_app words) ≡ Some (codes "types")

-- the words enter the subcommand of the verb
abbrev pub Enters : List Text → Verb → Type 0
Enters words verb = option_map (λ entered. entered.0) (subcommand_of odfilter_app words) ≡ Some (verb_word verb)

-- the verb has an option of that name
abbrev pub has_option : Verb → Text → Bool
has_option verb name = list_any (λ rule. bytes_eq rule.id name) (app_of_verb verb).top.rules

-- the value that the words give an option, if the verb has it
abbrev pub option_value : Verb → Text → List Row → Option Text
option_value verb name found = if has_option verb name then first_of name found else None

-- all the values that the words give an option, if the verb has it
abbrev pub option_values : Verb → Text → List Row → List Text
option_values verb name found = if has_option verb name then unwrap_or (all_of name found) [] else []

-- the verb has the flag, and the words set it
abbrev pub is_flag_set : Verb → Text → List Row → Bool
is_flag_set verb name found =
    has_option verb name && option_map_or (λ text. bytes_eq text (codes "true")) (one_of name found) false

-- one of the two is there, and the other is not
abbrev pub IsOneOf : {X : Type 0} → Option X → Option X → Type 0
IsOneOf (Some filter) None = ⊤
IsOneOf None (Some query) = ⊤
IsOneOf _ _ = ⊥

-- the plan has the values of its verb's options; the empty text stands for a value that is not there
pub record HasValues (found : List Row) (plan : Plan) : Type 0 where
  pub exactly_one : IsOneOf plan.filter plan.query
  pub schema : plan.schema.now ≡ unwrap_or (first_of (codes "schema") found) []
  pub named : plan.named.now ≡ unwrap_or (first_of (codes "type") found) []
  pub filter : option_map (λ s. s.now) plan.filter ≡ first_of (codes "filter") found
  pub query : option_map (λ s. s.now) plan.query ≡ first_of (codes "query") found
  pub rows : option_map (λ s. s.now) plan.rows ≡ option_value plan.verb (codes "rows") found
  pub now : option_map (λ s. s.now) plan.now ≡ option_value plan.verb (codes "now") found
  pub collection : plan.collection ≡ is_flag_set plan.verb (codes "collection") found

-- the words ask for this plan
pub record IsPlanOf (words : List Text) (plan : Plan) : Type 0 where
  pub is_taken : IsTaken words
  pub enters : Enters words plan.verb
  pub values : HasValues (verb_matches words) plan

-- the options' values do not have exactly one of filter and query
abbrev pub LacksOneOf : List Row → Type 0
LacksOneOf found = ¬ IsOneOf (first_of (codes "filter") found) (first_of (codes "query") found)

-- `clap` takes the words, and not exactly one of filter and query is among them
pub record GivesNotOne (words : List Text) : Type 0 where
  pub is_taken : IsTaken words
  pub lacks : LacksOneOf (verb_matches words)

-- why the words ask for no plan; an error of `clap` has a kind that its reading of them gives
abbrev pub IsRefusedBy : List Text → PlanFault → Type 0
IsRefusedBy words (Clap e) = IsAmong (kind_of e) (fault_of odfilter_app words)
IsRefusedBy words OneOf = GivesNotOne words
IsRefusedBy words Memory = ⊤
