-- Worked command lines with options of reports and of rows.
use Rattle.std.proofs.Common.{◌≡◌, [], ◌∷◌, false, true, None, Some, refl, codes, lit<, lit≤}
use Rattle.clap.specs.Words.{all_of, first_of}
use Rattle.clap.proofs.OnLiterals.{clap_on_literals}
use Rattle.command_plan.specs.CommandLine.{IsTaken, is_flag_set, verb_matches}
use Rattle.command_plan.specs.PartTexts.{IsPartText}
use Rattle.command_plan.specs.Requests.{format_asked, hints_asked}
use Rattle.command_plan.specs.declared.command_line.Format.{Format}
use Rattle.command_plan.specs.declared.command_line.Hints.{Hints}
use Rattle.command_plan.specs.declared.command_line.Verb.{Verb}
use Rattle.command_plan.specs.WorkedLines as worked

pub reports_taken : IsTaken worked.with_reports
unfolding clap_on_literals
reports_taken = refl

pub reports_hints : hints_asked (first_of (codes "hints") (verb_matches worked.with_reports)) ≡ Some Hints.Never
unfolding clap_on_literals
reports_hints = refl

pub reports_format : format_asked (first_of (codes "format") (verb_matches worked.with_reports)) ≡ Some Format.Json
unfolding clap_on_literals
reports_format = refl

pub reports_rows : all_of (codes "rows") (verb_matches worked.with_reports) ≡ Some (codes "r" ∷ [])
unfolding clap_on_literals
reports_rows = refl

pub reports_more_taken : IsTaken worked.with_more_rows
unfolding clap_on_literals
reports_more_taken = refl

pub reports_more_rows : all_of (codes "rows") (verb_matches worked.with_more_rows) ≡ Some (codes "r" ∷ codes "q" ∷ [])
unfolding clap_on_literals
reports_more_rows = refl

pub reports_first_rows : first_of (codes "rows") (verb_matches worked.with_more_rows) ≡ Some (codes "r")
unfolding clap_on_literals
reports_first_rows = refl

pub reports_count : is_flag_set Verb.Filter (codes "count") (verb_matches worked.with_more_rows) ≡ true
unfolding clap_on_literals
reports_count = refl

pub reports_skip : is_flag_set Verb.Filter (codes "skip-faulty") (verb_matches worked.with_more_rows) ≡ true
unfolding clap_on_literals
reports_skip = refl

pub reports_check_taken : IsTaken worked.check_with_hints
unfolding clap_on_literals
reports_check_taken = refl

pub reports_no_hints : hints_asked (first_of (codes "hints") (verb_matches worked.check_with_hints)) ≡ None
unfolding clap_on_literals
reports_no_hints = refl

pub items_taken : IsTaken worked.with_items
unfolding clap_on_literals
items_taken = refl

pub items_set : is_flag_set Verb.Filter (codes "items") (verb_matches worked.with_items) ≡ true
unfolding clap_on_literals
items_set = refl

pub items_unset : is_flag_set Verb.Filter (codes "items") (verb_matches worked.with_collection) ≡ false
unfolding clap_on_literals
items_unset = refl

pub part_taken : IsTaken worked.with_part
unfolding clap_on_literals
part_taken = refl

pub part_text : first_of (codes "part") (verb_matches worked.with_part) ≡ Some (codes "2/4")
unfolding clap_on_literals
part_text = refl

pub part_is : IsPartText (codes "2/4") 2 4
part_is = record {
  number_text = record { digits = (lit< tt, (lit< tt, tt)); value = refl; fits = lit< tt };
  count_text = record { digits = (lit< tt, (lit< tt, tt)); value = refl; fits = lit< tt };
  first = lit≤ tt;
  last = lit≤ tt;
}
