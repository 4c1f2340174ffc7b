-- What a command line asks for, from what `clap` found.
use Rattle.std.proofs.Common.{◌≡◌, ◌∙◌, ◌⊎◌, ℕ, length, inl, inr, [], true, false, List, Option, None, Some, refl, sym, subst, ap, ap₂, codes, map, option_map}
use Rattle.std.specs.Prelude.{◌||◌, is_some, unwrap_or}
use Rattle.std.proofs.Math.Bool.{beq}
use Rattle.std.specs.Borrow.{Bor}
use Rattle.clap.specs.Words.{AddsArg, App, Row, Rule, Text, all_of, first_of, first_value, items_of, matched_of, new_rule, raw_values, rows_of, rule_of, with_rule}
use Rattle.clap.specs.Simple.{app_of_fields}
use Rattle.clap.specs.declared.builder.action.ArgAction.{ArgAction}
use Rattle.clap.specs.declared.builder.arg.Arg.{Arg}
use Rattle.clap.specs.declared.builder.command.Command.{Command}
use Rattle.clap.specs.declared.builder.command.Command.TheViews.{out-Command}
use Rattle.clap.specs.declared.parser.matches.Found.{Found}
use Rattle.clap.proofs.WalkLemmas.{first_value-rows, raw_values-rows}
use Rattle.command_plan.specs.CommandLine.{IsOneOf, LacksOneOf, option_value, option_values, repeated_rule, text_rule}
use Rattle.command_plan.specs.declared.command_line.Verb.{Verb}
use Rattle.command_plan.specs.declared.command_line.Verb.TheVariants.{Explain, Filter}
use Rattle.command_plan.specs.private.Planner.{IsApp}

-- ---- a command grows

-- the texts at the top and the end of help change nothing
pub app_about : (c d : Command) (app : App) (text : _)
    → out-Command d ≡ record (out-Command c) { about = text } → IsApp app c → IsApp app d
app_about c d app text made is = record {
  whole = ap app_of_fields made ∙ is.whole;
  local = ap (λ f. f.has_globals) made ∙ is.local;
}

pub app_after_help : (c d : Command) (app : App) (text : _)
    → out-Command d ≡ record (out-Command c) { after_help = text } → IsApp app c → IsApp app d
app_after_help c d app text made is = record {
  whole = ap app_of_fields made ∙ is.whole;
  local = ap (λ f. f.has_globals) made ∙ is.local;
}

-- one more option
pub app_arg : (c d : Command) (a : Arg) (app : App) (rule : Rule)
    → rule_of a ≡ rule → a.global ≡ false → AddsArg c a d → IsApp app c → IsApp (with_rule app rule) d
app_arg c d a app rule same local added is = record {
  whole = added.shape local ∙ ap₂ with_rule is.whole same;
  local = added.globals ∙ (ap (λ b. b || a.global) is.local ∙ ap (λ b. false || b) local);
}

-- an option that the words must have
pub required_rule : (a b : Arg) (name : Text)
    → rule_of a ≡ text_rule name false → b ≡ record a { required = true } → rule_of b ≡ text_rule name true
required_rule a b name same made =
    ap rule_of made ∙ ap (λ (r : Rule). record r { required = true }) same

pub required_local : (a b : Arg) → a.global ≡ false → b ≡ record a { required = true } → b.global ≡ false
required_local a b local made = ap (λ (x : Arg). x.global) made ∙ local

-- an option that takes a text: a new argument, with its long name, one name of its value, its help, and its action
pub option_rule : (a b c d e : Arg) (name help : Bor Text) (action : ArgAction) (values : _)
    → rule_of a ≡ new_rule name.now → b ≡ record a { long = Some name } → c ≡ record b { val_names = values }
    → length (items_of values) ≡ 1 → d ≡ record c { help = Some help } → e ≡ record d { action = Some action }
    → rule_of e ≡ record (repeated_rule name.now) { action = Some action }
option_rule a b c d e name help action values is_new is_long is_named one is_helped acts =
    let is_long_rule = ap rule_of is_long ∙ ap (λ (r : Rule). record r { long = Some name.now }) is_new in
    let long_rule = record (new_rule name.now) { long = Some name.now } in
    let is_named_rule = ap rule_of is_named
    ∙ (ap (λ (r : Rule). record r { value_names = length (items_of values) }) is_long_rule
    ∙ ap (λ (n : ℕ). record long_rule { value_names = n }) one) in
    ap rule_of acts ∙ ap (λ (r : Rule). record r { action = Some action }) (ap rule_of is_helped ∙ is_named_rule)

pub option_local : (a b c d e : Arg) (name help : Bor Text) (action : ArgAction) (values : _)
    → a.global ≡ false → b ≡ record a { long = Some name } → c ≡ record b { val_names = values }
    → d ≡ record c { help = Some help } → e ≡ record d { action = Some action } → e.global ≡ false
option_local a b c d e name help action values local is_long is_named is_helped acts =
    let is_global = λ (x : Arg). x.global in
    ap is_global acts ∙ (ap is_global is_helped ∙ (ap is_global is_named ∙ (ap is_global is_long ∙ local)))

-- ---- the texts of options

-- the value that was found
pub text_found : (f : Found) (id : Text) (o : Option (Bor Text))
    → option_map (λ s. s.now) o ≡ first_value f id → option_map (λ s. s.now) o ≡ first_of id (rows_of f)
text_found f id o same = same ∙ first_value-rows f id

-- exactly one of two texts is there, or not
IsOneOf-apart : (o p : Option (Bor Text)) → beq (is_some o) (is_some p) ≡ true
    → ¬ IsOneOf (option_map (λ s. s.now) o) (option_map (λ s. s.now) p)
IsOneOf-apart None None same one = one
IsOneOf-apart (Some a) (Some b) same one = one
IsOneOf-apart None (Some b) same one = cc
IsOneOf-apart (Some a) None same one = cc

pub one_found : (o p : Option (Bor Text)) → beq (is_some o) (is_some p) ≡ false → IsOneOf o p
one_found None None apart = cc
one_found (Some a) (Some b) apart = cc
one_found None (Some b) apart = tt
one_found (Some a) None apart = tt

pub one_found-not : (f : Found) (o p : Option (Bor Text))
    → option_map (λ s. s.now) o ≡ first_value f (codes "filter")
    → option_map (λ s. s.now) p ≡ first_value f (codes "query")
    → beq (is_some o) (is_some p) ≡ true → LacksOneOf (rows_of f)
one_found-not f o p filter query same one =
    IsOneOf-apart o p same
    (subst (λ x. IsOneOf x (option_map (λ s. s.now) p)) (sym (text_found f (codes "filter") o filter))
    (subst (λ x. IsOneOf (first_of (codes "filter") (rows_of f)) x)
    (sym (text_found f (codes "query") p query)) one))

-- the value, or the empty text
pub text_or_empty : (f : Found) (id : Text) (o : Option (Bor Text)) (t other : Bor Text)
    → option_map (λ s. s.now) o ≡ first_value f id → t ≡ unwrap_or o other → other.now ≡ []
    → t.now ≡ unwrap_or (first_of id (rows_of f)) []
text_or_empty f id None t other same is empty =
    ap (λ s. s.now) is ∙ empty ∙ ap (λ o. unwrap_or o []) (text_found f id None same)
text_or_empty f id (Some x) t other same is empty =
    ap (λ s. s.now) is ∙ ap (λ o. unwrap_or o []) (text_found f id (Some x) same)

-- ---- the options that not every verb has

pub rows_of_filter : (found : List Row) → option_value Filter (codes "rows") found ≡ first_of (codes "rows") found
rows_of_filter found = refl

pub now_of_filter : (found : List Row) → option_value Filter (codes "now") found ≡ first_of (codes "now") found
now_of_filter found = refl

pub of_explain : (found : List Row) → (option_value Explain (codes "rows") found ≡ first_of (codes "rows") found)
    × (option_value Explain (codes "row") found ≡ first_of (codes "row") found) × (option_value Explain (codes "now") found ≡ first_of (codes "now") found)
of_explain found = (refl, refl, refl)

-- `filter` and `explain` have these
pub rows_given : (verb : Verb) (found : List Row) → (verb ≡ Filter) ⊎ (verb ≡ Explain) → option_value verb (codes "rows") found ≡ first_of (codes "rows") found
rows_given verb found (inl is) = rw is (rows_of_filter found)
rows_given verb found (inr is) = rw is ((of_explain found).0)

pub now_given : (verb : Verb) (found : List Row) → (verb ≡ Filter) ⊎ (verb ≡ Explain) → option_value verb (codes "now") found ≡ first_of (codes "now") found
now_given verb found (inl is) = rw is (now_of_filter found)
now_given verb found (inr is) = rw is ((of_explain found).2)

pub files_given : (verb : Verb) (found : List Row) → (verb ≡ Filter) ⊎ (verb ≡ Explain) → option_values verb (codes "rows") found ≡ unwrap_or (all_of (codes "rows") found) []
files_given verb found (inl is) = rw is refl
files_given verb found (inr is) = rw is refl

pub part_of_filter : (found : List Row) → option_value Filter (codes "part") found ≡ first_of (codes "part") found
part_of_filter found = refl

-- ---- the texts of an option that may be given several times

-- the values that were found, or none
pub files_found : (f : Found) (id : Text) (o : Option (Bor (List (Bor Text))))
    → option_map (λ s. map (λ v. v.now) s.now) o ≡ option_map raw_values (matched_of f id)
    → unwrap_or (option_map (λ s. map (λ v. v.now) s.now) o) [] ≡ unwrap_or (all_of id (rows_of f)) []
files_found f id o same = ap (λ o. unwrap_or o []) (same ∙ raw_values-rows f id)

-- what is not Some
pub none_left : {X : Type 0} (o : Option X) → ((x : X) → o ≡ Some x → ⊥) → o ≡ None
none_left None other = refl
none_left (Some x) other = absurd (other x refl)
