-- The subcommand that a command line entered, and its plan.
use Rattle.std.proofs.Common.{◌≡◌, ◌∙◌, [], true, false, List, Option, None, Some, Result, Ok, Err, IfOk, MatchResult, inl, inr, refl, sym, subst, ap, codes, option_map, cond}
use Rattle.std.specs.Box.{box_value}
use Rattle.std.specs.Str.{bytes_eq}
use Rattle.std.proofs.lemmas.Slice.Eq.{bytes_eq-Decides}
use Rattle.clap.specs.declared.error.Error.{Error}
use Rattle.clap.specs.Words.{App, HasKind, HasMatchesOf, IsAmong, kind_of, Row, Text, app_of, fault_of, first_of, is_simple, is_simple_and_free, subcommand_name_of, subcommand_of, subcommand_rows, subcommand_rows_of}
use Rattle.clap.specs.declared.builder.command.Command.{Command}
use Rattle.clap.specs.declared.parser.matches.ArgMatches.{ArgMatches}
use Rattle.clap.specs.declared.parser.matches.ArgMatches.TheViews.{out-ArgMatches, out-SubCommand}
use Rattle.clap.proofs.OnLiterals.{clap_on_literals}
use Rattle.command_plan.specs.CommandLine.{GivesNotOne, HasValues, IsRefusedBy, IsTaken, LacksOneOf, is_flag_set, matches_if, matches_if_verb, odfilter_app, option_value, option_values, verb_matches, verb_word}
use Rattle.command_plan.specs.declared.command_line.PlanFault.{PlanFault}
use Rattle.command_plan.specs.declared.command_line.PlanFault.TheVariants.{Clap, Memory, OneOf}
use Rattle.command_plan.specs.declared.command_line.Verb.{Verb}
use Rattle.command_plan.specs.declared.planner.Entered.{Entered}
use Rattle.command_plan.specs.declared.planner.Entered.TheVariants.{Run, Types}
use Rattle.command_plan.specs.declared.planner.TypesLine.{TypesLine}
use Rattle.command_plan.specs.private.Planner.{HasTypesTexts, HasVerb, HasVerbTexts, IsApp, IsClapFault, IsEnteredBy, IsNoLineFault, IsTypesLineOf}

-- the program's command is one of those of which `clap` reports its matches and its faults
pub is_plain : is_simple odfilter_app ≡ true
unfolding clap_on_literals
is_plain = refl

pub is_free : is_simple_and_free odfilter_app ≡ true
unfolding clap_on_literals
is_free = refl

-- its name, beside its matches
name_beside : (m : ArgMatches) → subcommand_name_of m ≡ option_map (λ p. p.0) (subcommand_rows_of m)
name_beside m = elim (out-ArgMatches m).subcommand as (λ s. option_map (λ b. (out-SubCommand (box_value b)).name.now) s ≡ option_map (λ p. p.0) (subcommand_rows s)) [
  | None ↦ refl
  | Some b ↦ refl
]

both_found : (o : Option (Text × List Row)) (word : Text) (rows : List Row)
    → option_map (λ p. p.0) o ≡ Some word → option_map (λ p. p.1) o ≡ Some rows → o ≡ Some (word, rows)
both_found None word rows name found = cc
both_found (Some (w, rs)) word rows name found =
    let a : w ≡ word = cc in let b : rs ≡ rows = cc in rw (a, b) refl

pub entered_at : (words : List Text) (m : ArgMatches) (word : Text) (rows : List Row)
    → HasMatchesOf odfilter_app words m → subcommand_name_of m ≡ Some word → option_map (λ p. p.1) (subcommand_rows_of m) ≡ Some rows
    → subcommand_of odfilter_app words ≡ Some (word, rows)
entered_at words m word rows has name found =
    sym (has is_plain).1 ∙ both_found (subcommand_rows_of m) word rows (sym (name_beside m) ∙ name) found

-- what `clap` says of words that it takes
pub record IsRead (words : List Text) (m : ArgMatches) : Type 0 where
  pub taken : IsTaken words
  pub matches : HasMatchesOf odfilter_app words m

pub read_by : (command : Command) (words : List Text) (m : ArgMatches) → IsApp odfilter_app command
    → HasMatchesOf (app_of command) words m → (is_simple_and_free (app_of command) ≡ true → fault_of (app_of command) words ≡ [])
    → IsRead words m
read_by command words m app matches kinds = record {
  taken = subst (λ (a : App). fault_of a words ≡ []) app.whole (kinds (ap is_simple_and_free app.whole ∙ is_free));
  matches = subst (λ (a : App). HasMatchesOf a words m) app.whole matches;
}

-- words that `clap` refuses ask for no plan
pub refused_by : (command : Command) (words : List Text) (error : Error) (fault : PlanFault) → IsApp odfilter_app command
    → (is_simple_and_free (app_of command) ≡ true → HasKind (fault_of (app_of command) words) error) → IsClapFault error fault
    → IsRefusedBy words fault
refused_by command words error (Clap e) app kinds is =
    let has : HasKind (fault_of odfilter_app words) error =
    subst (λ (a : App). HasKind (fault_of a words) error) app.whole (kinds (ap is_simple_and_free app.whole ∙ is_free)) in
    elim has [
      | inl memory ↦ absurd (is.1 (ap kind_of is.0 ∙ memory))
      | inr among ↦ subst (λ x. IsAmong (kind_of x) (fault_of odfilter_app words)) (sym is.0) among
    ]
refused_by command words error OneOf app kinds is = absurd is
refused_by command words error Memory app kinds is = tt

-- a line of a verb's matches is one of the words
pub planned_by : (words : List Text) (verb : Verb) (rows : List Row) (result : Result Entered PlanFault)
    → IsTaken words → subcommand_of odfilter_app words ≡ Some (verb_word verb, rows) → matches_if_verb (Some (verb_word verb, rows)) ≡ rows
    → IfOk result (HasVerb verb) → MatchResult result (HasVerbTexts rows) (IsNoLineFault rows)
    → MatchResult result (IsEnteredBy words) (IsRefusedBy words)
planned_by words verb rows (Ok (Run line)) taken entered here is_verb texts =
    let found : verb_matches words ≡ rows = ap matches_if_verb entered ∙ here in
    record {
      plan = record {
        is_taken = taken;
        enters = ap (option_map (λ e. e.0)) entered ∙ ap (λ v. Some (verb_word v)) (sym is_verb);
        values = subst (λ r. HasValues r line.plan) (sym found) texts.plan;
      };
      hints = texts.hints ∙ ap (λ r. first_of (codes "hints") r) (sym found);
      format = texts.format ∙ ap (λ r. first_of (codes "format") r) (sym found);
      rows = texts.rows ∙ ap (λ r. option_values line.plan.verb (codes "rows") r) (sym found);
      count = texts.count ∙ ap (λ r. is_flag_set line.plan.verb (codes "count") r) (sym found);
      skip_faulty = texts.skip_faulty ∙ ap (λ r. is_flag_set line.plan.verb (codes "skip-faulty") r) (sym found);
      items = texts.items ∙ ap (λ r. is_flag_set line.plan.verb (codes "items") r) (sym found);
      row = texts.row ∙ ap (λ r. option_value line.plan.verb (codes "row") r) (sym found);
      part = texts.part ∙ ap (λ r. option_value line.plan.verb (codes "part") r) (sym found);
    }
planned_by words verb rows (Ok (Types line)) taken entered here is_verb texts = absurd is_verb
planned_by words verb rows (Err OneOf) taken entered here is_verb texts =
    record { is_taken = taken; lacks = subst LacksOneOf (sym (ap matches_if_verb entered ∙ here)) texts }
planned_by words verb rows (Err (Clap e)) taken entered here is_verb texts = absurd texts
planned_by words verb rows (Err Memory) taken entered here is_verb texts = tt

-- a line of the matches of `types` is one of the words
pub types_by : (words : List Text) (rows : List Row) (line : TypesLine)
    → IsTaken words → subcommand_of odfilter_app words ≡ Some (codes "types", rows) → matches_if (codes "types") (Some (codes "types", rows)) ≡ rows
    → HasTypesTexts rows line → IsTypesLineOf words line
types_by words rows line taken entered here texts =
    record {
      asks = record { is_taken = taken; enter = ap (option_map (λ e. e.0)) entered };
      texts = subst (λ r. HasTypesTexts r line) (sym (ap (matches_if (codes "types")) entered ∙ here)) texts;
    }

-- it has no plan
no_plan_of : (o : Option (Text × List Row)) → option_map (λ e. e.0) o ≡ Some (codes "types") → LacksOneOf (matches_if_verb o)
no_plan_of None enter = cc
no_plan_of (Some (word, rows)) enter =
    let is : word ≡ codes "types" = cc in
    rw is (λ one. one)

pub types_have_no_plan : (words : List Text) (line : TypesLine) → IsTypesLineOf words line → GivesNotOne words
types_have_no_plan words line is =
    record { is_taken = is.asks.is_taken; lacks = no_plan_of (subcommand_of odfilter_app words) is.asks.enter }

-- where this verb was not entered, the matches are those of another
passed_over : (entered : Text × List Row) (word : Text) (others : List Row)
    → (Some entered.0 ≡ Some word → ⊥) → others ≡ [] → cond (bytes_eq entered.0 word) entered.1 others ≡ []
passed_over entered word others other none =
    elim (bytes_eq entered.0 word) as (λ b. bytes_eq entered.0 word ≡ b → cond b entered.1 others ≡ []) [
      | true ↦ λ same. absurd (other (ap Some ((bytes_eq-Decides entered.0 word).0 same)))
      | false ↦ λ apart. none
    ] refl

-- where no verb was entered, there are no matches
pub none_entered : (o : Option (Text × List Row))
    → (option_map (λ p. p.0) o ≡ Some (codes "filter") → ⊥) → (option_map (λ p. p.0) o ≡ Some (codes "check") → ⊥)
    → (option_map (λ p. p.0) o ≡ Some (codes "explain") → ⊥) → matches_if_verb o ≡ []
none_entered None filter check explain = refl
none_entered (Some entered) filter check explain =
    passed_over entered (codes "filter") _ filter
    (passed_over entered (codes "check") _ check (passed_over entered (codes "explain") [] explain refl))

pub nothing_entered : (words : List Text) (m : ArgMatches) → HasMatchesOf odfilter_app words m
    → (subcommand_name_of m ≡ Some (codes "filter") → ⊥) → (subcommand_name_of m ≡ Some (codes "check") → ⊥)
    → (subcommand_name_of m ≡ Some (codes "explain") → ⊥) → LacksOneOf (matches_if_verb (subcommand_of odfilter_app words))
nothing_entered words m has filter check explain =
    let none : matches_if_verb (subcommand_rows_of m) ≡ [] =
    none_entered (subcommand_rows_of m) (λ same. filter (name_beside m ∙ same)) (λ same. check (name_beside m ∙ same)) (λ same. explain (name_beside m ∙ same)) in
    subst (λ o. LacksOneOf (matches_if_verb o)) (has is_plain).1 (subst LacksOneOf (sym none) (λ one. one))
