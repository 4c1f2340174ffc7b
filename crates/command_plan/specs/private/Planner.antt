-- What the steps of reading a command line say to one another. Private clauses alone cite these.
use Rattle.std.specs.Prelude.{◌≡◌, List, [], IsSomeAnd, Option, codes, false, map, option_map, unwrap_or}
use Rattle.clap.specs.Words.{App, Row, Text, app_of, first_of, kind_of}
use Rattle.clap.specs.declared.builder.command.Command.{Command}
use Rattle.clap.specs.declared.builder.command.Command.TheViews.{out-Command}
use Rattle.clap.specs.declared.error.Error.{Error}
use Rattle.clap.specs.declared.error.kind.ErrorKind.TheVariants.{OutOfMemory}
use Rattle.command_plan.specs.CommandLine.{AskForTypes, HasValues, IsPlanOf, LacksOneOf, is_flag_set, option_value}
use Rattle.command_plan.specs.CommandLine.{option_values, types_matches, verb_matches}
use Rattle.command_plan.specs.PartTexts.{IsNoPart}
use Rattle.command_plan.specs.declared.command_line.PlanFault.{PlanFault}
use Rattle.command_plan.specs.declared.command_line.PlanFault.TheVariants.{Clap, OneOf, Memory}
use Rattle.command_plan.specs.declared.command_line.Verb.{Verb}
use Rattle.command_plan.specs.declared.planner.Entered.{Entered}
use Rattle.command_plan.specs.declared.planner.Line.{Line}
use Rattle.command_plan.specs.declared.planner.TypesLine.{TypesLine}

-- `clap` reads the command as this one, and none of its options is global
pub record IsApp (app : App) (command : Command) : Type 0 where
  pub whole : app_of command ≡ app
  pub local : (out-Command command).has_globals ≡ false

-- the fault that an error of `clap` becomes
abbrev pub IsClapFault : Error → PlanFault → Type 0
IsClapFault error (Clap e) = (e ≡ error) × (kind_of e ≡ OutOfMemory → ⊥)
IsClapFault error OneOf = ⊥
IsClapFault error Memory = kind_of error ≡ OutOfMemory

-- the one fault after words that were taken
abbrev pub IsNotOneFault : List Row → PlanFault → Type 0
IsNotOneFault found OneOf = LacksOneOf found
IsNotOneFault found _ = ⊥

-- a line has the plan's values, and the texts that say how a run reports
pub record HasTexts (found : List Row) (line : Line) : Type 0 where
  pub plan : HasValues found line.plan
  pub hints : option_map (λ s. s.now) line.hints ≡ first_of (codes "hints") found
  pub format : option_map (λ s. s.now) line.format ≡ first_of (codes "format") found
  pub rows : map (λ s. s.now) line.rows.items ≡ option_values line.plan.verb (codes "rows") found
  pub count : line.count ≡ is_flag_set line.plan.verb (codes "count") found
  pub skip_faulty : line.skip_faulty ≡ is_flag_set line.plan.verb (codes "skip-faulty") found
  pub items : line.items ≡ is_flag_set line.plan.verb (codes "items") found
  pub row : option_map (λ s. s.now) line.row ≡ option_value line.plan.verb (codes "row") found
  pub part : option_map (λ s. s.now) line.part ≡ option_value line.plan.verb (codes "part") found

-- the line of a verb has these texts
abbrev pub HasVerbTexts : List Row → Entered → Type 0
HasVerbTexts found (Entered.Run line) = HasTexts found line
HasVerbTexts found (Entered.Types line) = ⊥

-- it is a line of that verb
abbrev pub HasVerb : Verb → Entered → Type 0
HasVerb verb (Entered.Run line) = line.plan.verb ≡ verb
HasVerb verb (Entered.Types line) = ⊥

-- a line of `types` has these texts
pub record HasTypesTexts (found : List Row) (line : TypesLine) : Type 0 where
  pub schema : line.schema.now ≡ unwrap_or (first_of (codes "schema") found) []
  pub hints : option_map (λ s. s.now) line.hints ≡ first_of (codes "hints") found
  pub format : option_map (λ s. s.now) line.format ≡ first_of (codes "format") found

-- the faults after words that were taken: not one of filter and query, or no memory for the line
abbrev pub IsNoLineFault : List Row → PlanFault → Type 0
IsNoLineFault found OneOf = LacksOneOf found
IsNoLineFault found Memory = Unit {0}
IsNoLineFault found (Clap error) = ⊥

-- the words are this line
pub record IsLineOf (words : List Text) (line : Line) : Type 0 where
  pub plan : IsPlanOf words line.plan
  pub hints : option_map (λ s. s.now) line.hints ≡ first_of (codes "hints") (verb_matches words)
  pub format : option_map (λ s. s.now) line.format ≡ first_of (codes "format") (verb_matches words)
  pub rows : map (λ s. s.now) line.rows.items ≡ option_values line.plan.verb (codes "rows") (verb_matches words)
  pub count : line.count ≡ is_flag_set line.plan.verb (codes "count") (verb_matches words)
  pub skip_faulty : line.skip_faulty ≡ is_flag_set line.plan.verb (codes "skip-faulty") (verb_matches words)
  pub items : line.items ≡ is_flag_set line.plan.verb (codes "items") (verb_matches words)
  pub row : option_map (λ s. s.now) line.row ≡ option_value line.plan.verb (codes "row") (verb_matches words)
  pub part : option_map (λ s. s.now) line.part ≡ option_value line.plan.verb (codes "part") (verb_matches words)

-- the words are this line of `types`
pub record IsTypesLineOf (words : List Text) (line : TypesLine) : Type 0 where
  pub asks : AskForTypes words
  pub texts : HasTypesTexts (types_matches words) line

-- the words are that line
abbrev pub IsEnteredBy : List Text → Entered → Type 0
IsEnteredBy words (Entered.Run line) = IsLineOf words line
IsEnteredBy words (Entered.Types line) = IsTypesLineOf words line

-- there is a text, and it asks for no part
abbrev pub AsksForNoPart : Option Text → Type 0
AsksForNoPart text = IsSomeAnd text IsNoPart
