use Rattle.std.proofs.Common.{map, refl, codes}
use Rattle.clap.specs.Words.{found_of, rows_of}
use Rattle.command_plan.specs.declared.command_line.Verb.{Verb}
use Rattle.command_plan.proofs.LineLemmas.Entered.{entered_at, nothing_entered, planned_by, read_by, refused_by, types_by}
use Rattle.command_plan.proofs.planner.read_line.Goals as goal

pub returns-in-Some : goal.returns-in-Some
returns-in-Some c =
    let words = map (λ s. s.now) c.args.words.now in
    let found = c.in-Ok-try_get_matches_from in
    let read = read_by c.in-Ok.command words found.matches c.in-Ok.ensures found.ensures.matches found.ensures.kinds in
    let rows = rows_of (found_of c.in-Some.inner.now) in
    planned_by words Verb.Filter rows c.line_of.result read.taken
    (entered_at words found.matches (codes "filter") rows read.matches (c.in-Some.ensures.found.0 refl) c.in-Some.ensures.rows)
    refl c.line_of.ensures.verb c.line_of.ensures.values

pub returns-in-Some-subcommand_matches : goal.returns-in-Some-subcommand_matches
returns-in-Some-subcommand_matches c =
    let words = map (λ s. s.now) c.args.words.now in
    let found = c.in-Ok-try_get_matches_from in
    let read = read_by c.in-Ok.command words found.matches c.in-Ok.ensures found.ensures.matches found.ensures.kinds in
    let rows = rows_of (found_of c.in-Some-subcommand_matches.inner.now) in
    planned_by words Verb.Check rows c.line_of-in-Some-subcommand_matches.result read.taken
    (entered_at words found.matches (codes "check") rows read.matches (c.in-Some-subcommand_matches.ensures.found.0 refl) c.in-Some-subcommand_matches.ensures.rows)
    refl c.line_of-in-Some-subcommand_matches.ensures.verb c.line_of-in-Some-subcommand_matches.ensures.values

pub returns-in-Some-subcommand_matches-2 : goal.returns-in-Some-subcommand_matches-2
returns-in-Some-subcommand_matches-2 c =
    let words = map (λ s. s.now) c.args.words.now in
    let found = c.in-Ok-try_get_matches_from in
    let read = read_by c.in-Ok.command words found.matches c.in-Ok.ensures found.ensures.matches found.ensures.kinds in
    let rows = rows_of (found_of c.in-Some-subcommand_matches-2.inner.now) in
    planned_by words Verb.Explain rows c.line_of-in-Some-subcommand_matches-2.result read.taken
    (entered_at words found.matches (codes "explain") rows read.matches (c.in-Some-subcommand_matches-2.ensures.found.0 refl) c.in-Some-subcommand_matches-2.ensures.rows)
    refl c.line_of-in-Some-subcommand_matches-2.ensures.verb c.line_of-in-Some-subcommand_matches-2.ensures.values

pub returns-in-Some-subcommand_matches-3 : goal.returns-in-Some-subcommand_matches-3
returns-in-Some-subcommand_matches-3 c =
    let words = map (λ s. s.now) c.args.words.now in
    let found = c.in-Ok-try_get_matches_from in
    let read = read_by c.in-Ok.command words found.matches c.in-Ok.ensures found.ensures.matches found.ensures.kinds in
    let rows = rows_of (found_of c.in-Some-subcommand_matches-3.inner.now) in
    types_by words rows c.types_of.result read.taken
    (entered_at words found.matches (codes "types") rows read.matches (c.in-Some-subcommand_matches-3.ensures.found.0 refl) c.in-Some-subcommand_matches-3.ensures.rows)
    refl c.types_of.ensures

pub returns : goal.returns
returns c =
    let words = map (λ s. s.now) c.args.words.now in
    let found = c.in-Ok-try_get_matches_from in
    let read = read_by c.in-Ok.command words found.matches c.in-Ok.ensures found.ensures.matches found.ensures.kinds in
    record {
      is_taken = read.taken;
      lacks = nothing_entered words found.matches read.matches
          (λ same. let no = c.in-None.ensures.found.1 same in cc)
          (λ same. let no = c.in-None-subcommand_matches.ensures.found.1 same in cc)
          (λ same. let no = c.in-None-subcommand_matches-2.ensures.found.1 same in cc);
    }

pub returns-in-Err-try_get_matches_from : goal.returns-in-Err-try_get_matches_from
returns-in-Err-try_get_matches_from c =
    refused_by c.in-Ok.command (map (λ s. s.now) c.args.words.now) c.in-Err-try_get_matches_from.error c.fault_of.result c.in-Ok.ensures
    c.in-Err-try_get_matches_from.ensures.kinds c.fault_of.ensures
