-- What a run over the rows of a plan answers.
use Rattle.std.proofs.Common.{◌≡◌, ◌∙◌, ℕ, List, [], ◌∷◌, ◌++◌, Bool, true, false, Option, None, Some, Result, Ok, Err, inl, inr, refl, sym, ap, subst, append-nil}
use Rattle.std.specs.Prelude.{IfOk, IfErr, IfSome, IsSomeAnd}
use Rattle.std.specs.Io.KnownBytes.{Appends, Keeps}
use Rattle.edm_values.specs.MomentParts.{MomentParts}
use Rattle.line_filter.specs.Growth.{Writes}
use Rattle.line_filter.specs.Kept.{LineClass, Items, Filters, Passes, Stops, StopsWithin}
use Rattle.line_filter.specs.ItemIndexes.{IndexedItem}
use Rattle.line_filter.specs.declared.judge.Judgment.{Judgment}
use Rattle.line_filter.specs.declared.run_stop.RunStop.{RunStop}
use Rattle.line_filter.specs.declared.tally.Tally.{Tally}
use Rattle.serde_json.specs.Data.{Data}
use Rattle.odata_checked_filter.specs.Filter.{Filter}
use Rattle.filter_runs.specs.Collection.{IsNoCollection, OfCollection, StopsCollection, entities_of}
use Rattle.row_judges.specs.RowJudgment.{rows_of}
use Rattle.filter_runs.specs.RunStops.{run_stop, StopsBy}
use Rattle.odata_filter.specs.Run.{BeginsAs, BeginsKept, ByFilter, FiltersAll, HoldsOfRows, IsReady, OfRows, OverRows, Status, StopsAtFault, Streams, streams, without_device, without_memory}
use Rattle.odata_filter.specs.private.RunFailures.{AnswerSays, FailureSays, IsUnwritten, IsReadWhole, StopsOver, status_of, status_of_rows}
use Rattle.row_judges.specs.declared.bad_row.BadRow.{BadRow}
use Rattle.command_plan.specs.declared.command_line.Plan.{Plan}
use Rattle.command_plan.specs.declared.command_line.Verb.{Verb}
use Rattle.odata_filter.specs.declared.command.failure.Failure.{Failure}
use Rattle.odata_filter.specs.declared.command.failure.Failure.TheVariants.{NotAMoment, OneOf, Schema, UnknownType, Query, NoOption, Refused, NoMoment, RowsFile, Rows}
use Rattle.filter_runs.specs.declared.run_fault.RunFault.{RunFault}
use Rattle.filter_runs.specs.declared.run_fault.RunFault.TheVariants.{Json, Row, Arithmetic, LineTooLong, NotACollection, Read, Write, Memory}

-- ---- a beginning was written

module _ {X F : Type 0} (items : Items X F) (text : List ℕ) where
  front_passed : (before after : List X) (tally : Tally) → items.all ≡ before ++ after → Passes items.sieve before text tally → StopsWithin items text
  front_passed before after tally whole passes = record {
    before = before;
    after = after;
    tally = tally;
    unwritten = [];
    whole = whole;
    passes = subst (λ t. Passes items.sieve before t tally) (sym (append-nil text)) passes;
  }

  within_all : (tally : Tally) → Filters items text tally → StopsWithin items text
  within_all tally filtered = front_passed items.all [] tally (sym (append-nil items.all)) filtered

  within_stop : (stop : RunStop F) → Stops items text stop → StopsWithin items text
  within_stop (RunStop.Fault line fault) stops = front_passed stops.before (stops.bad ∷ stops.after) stops.tally stops.whole stops.passes
  within_stop (RunStop.TooLong line) stops = front_passed stops.before (stops.bad ∷ stops.after) stops.tally stops.whole stops.passes
  within_stop (RunStop.Read line) stops = front_passed stops.before stops.after stops.tally stops.whole stops.passes
  within_stop RunStop.Write stops = stops
  within_stop (RunStop.Memory line) stops = front_passed stops.before stops.after stops.tally stops.whole stops.passes

  within_stops : (reported : Option (RunStop F)) → IsSomeAnd reported (Stops items text) → StopsWithin items text
  within_stops None stops = absurd stops
  within_stops (Some stop) stops = within_stop stop stops

-- ---- what was written

pub over_from : (rows : Option (Option (List ℕ))) (old new : Option (List ℕ)) (P Q : List ℕ → List ℕ → Type 0)
    → ((bytes text : List ℕ) → P bytes text → Q bytes text) → OverRows (streams rows old new) P → OverRows (streams rows old new) Q
over_from None old new P Q f held = held
over_from (Some None) old new P Q f held = tt
over_from (Some (Some bytes)) old new P Q f (text, wrote, said) = (text, wrote, f bytes text said)

-- of rows that were read whole
over_whole : (rows : Option (Option (List ℕ))) (old new : Option (List ℕ)) (bytes : List ℕ) (P : List ℕ → List ℕ → Type 0)
    → IsReadWhole rows bytes → Writes old new (P bytes) → OverRows (streams rows old new) P
over_whole None old new bytes P whole wrote = absurd whole
over_whole (Some None) old new bytes P whole wrote = tt
over_whole (Some (Some all)) old new bytes P whole wrote = subst (λ (b : List ℕ). Writes old new (P b)) whole wrote

whole_is : (rows : Option (Option (List ℕ))) (bytes : List ℕ) (P : List ℕ → Type 0) → IsReadWhole rows bytes → P bytes → IsSomeAnd rows (λ known. IfSome known P)
whole_is None bytes P whole p = absurd whole
whole_is (Some None) bytes P whole p = tt
whole_is (Some (Some all)) bytes P whole p = subst P whole p

wrote_none : (old new : Option (List ℕ)) (text : List ℕ) → Appends old new text → text ≡ [] → Keeps old new
wrote_none None new text wrote none = tt
wrote_none (Some x) None text wrote none = absurd wrote
wrote_none (Some x) (Some y) text wrote none = wrote ∙ ap (λ l. x ++ l) none ∙ append-nil x

-- rows of a collection were not read whole
unread_status : (plan : Plan) (document : List ℕ) (filter : Filter) (now : MomentParts) (s : Streams) (status : Status)
    → IsReady plan document filter now → IsUnwritten status → FailureSays status Verb.Filter plan document s
unread_status plan document filter now s without_device is_ready unread = (filter, now, is_ready)
unread_status plan document filter now s without_memory is_ready unread = tt
unread_status plan document filter now s _ is_ready unread = absurd unread

pub unread_says : (plan : Plan) (document : List ℕ) (filter : Filter) (now : MomentParts) (s : Streams) (failure : Failure)
    → IsReady plan document filter now → IsUnwritten (status_of failure) → FailureSays (status_of failure) Verb.Filter plan document s
unread_says plan document filter now s failure is_ready unread = unread_status plan document filter now s (status_of failure) is_ready unread

module _ (plan : Plan) (document : List ℕ) (filter : Filter) (now : MomentParts) (is_ready : IsReady plan document filter now) where
  by_filter : (P : List ℕ → List ℕ → Type 0) (Q : OfRows) (s : Streams)
      → ((bytes text : List ℕ) → P bytes text → HoldsOfRows plan.collection Q filter now bytes text) → OverRows s P → ByFilter Q plan document s
  by_filter P Q s f held = record {
    filter = filter;
    now = now;
    is_ready = is_ready;
    written = over_from s.rows s.old s.new P (HoldsOfRows plan.collection Q filter now) f held;
  }

  -- ---- each row is a line

  module _ (is_lines : plan.collection ≡ false) where
    of_lines : (Q : OfRows) (bytes text : List ℕ) → Q (List ℕ) (rows_of filter now bytes) text → HoldsOfRows plan.collection Q filter now bytes text
    of_lines Q bytes text q = subst (λ (b : Bool). HoldsOfRows b Q filter now bytes text) (sym is_lines) q

    abbrev SaysOfLines : List ℕ → List ℕ → RunFault → Type 0
    SaysOfLines bytes = StopsBy (rows_of filter now bytes)

    -- a row is the first at fault
    line_at_fault : (s : Streams) (fault : RunFault) (line : ℕ) (bad : BadRow) → run_stop fault ≡ Some (RunStop.Fault line bad) → OverRows s (λ bytes text. SaysOfLines bytes text fault)
        → ByFilter StopsAtFault plan document s
    line_at_fault s fault line bad reported held =
        by_filter (λ bytes text. SaysOfLines bytes text fault) StopsAtFault s
        (λ bytes text stops. of_lines StopsAtFault bytes text (line, LineClass.judged (Judgment.Fault bad), (λ sound. sound), subst (λ t. IsSomeAnd t (Stops (rows_of filter now bytes) text)) reported stops)) held

    line_failed : (s : Streams) (failure : Failure) → StopsOver SaysOfLines failure s → FailureSays (status_of failure) Verb.Filter plan document s
    line_failed s NotAMoment held = absurd held
    line_failed s NoMoment held = absurd held
    line_failed s OneOf held = absurd held
    line_failed s (Query fault) held = absurd held
    line_failed s NoOption held = absurd held
    line_failed s (Schema fault) held = absurd held
    line_failed s (UnknownType name) held = absurd held
    line_failed s (Refused fault) held = absurd held
    line_failed s (RowsFile name) held = (filter, now, is_ready)
    line_failed s (Rows (Json line)) held = inl (line_at_fault s (Json line) line BadRow.NotJson refl held)
    line_failed s (Rows (Row line fault)) held = inl (line_at_fault s (Row line fault) line (BadRow.NoEntity fault) refl held)
    line_failed s (Rows (Arithmetic line fault)) held = inl (line_at_fault s (Arithmetic line fault) line (BadRow.NoValue fault) refl held)
    line_failed s (Rows (LineTooLong line)) held =
        inl (by_filter (λ bytes text. SaysOfLines bytes text (LineTooLong line)) StopsAtFault s
        (λ bytes text stops. of_lines StopsAtFault bytes text (line, LineClass.too_long, (λ sound. sound), stops)) held)
    line_failed s (Rows NotACollection) held = inl (by_filter (λ bytes text. SaysOfLines bytes text NotACollection) StopsAtFault s (λ bytes text stops. absurd stops) held)
    line_failed s (Rows (Read line)) held = (filter, now, is_ready)
    line_failed s (Rows Write) held = (filter, now, is_ready)
    line_failed s (Rows (Memory line)) held = tt

    pub lines_say : (s : Streams) (answer : Result Tally Failure) → IfOk answer (λ tally. OverRows s (λ bytes text. Filters (rows_of filter now bytes) text tally))
        → IfErr answer (λ failure. StopsOver SaysOfLines failure s) → AnswerSays answer Verb.Filter plan document s
    lines_say s (Ok tally) held stopped =
        by_filter (λ bytes text. Filters (rows_of filter now bytes) text tally) FiltersAll s (λ bytes text filtered. of_lines FiltersAll bytes text (tally, filtered)) held
    lines_say s (Err failure) held stopped = line_failed s failure stopped

    pub lines_begin : (s : Streams) (answer : Result Tally Failure) → IfOk answer (λ tally. OverRows s (λ bytes text. Filters (rows_of filter now bytes) text tally))
        → IfErr answer (λ failure. StopsOver SaysOfLines failure s) → BeginsAs Verb.Filter plan document s
    lines_begin s (Ok tally) held stopped =
        inr (by_filter (λ bytes text. Filters (rows_of filter now bytes) text tally) BeginsKept s
        (λ bytes text filtered. of_lines BeginsKept bytes text (within_all (rows_of filter now bytes) text tally filtered)) held)
    lines_begin s (Err (Rows fault)) held stopped =
        inr (by_filter (λ bytes text. SaysOfLines bytes text fault) BeginsKept s
        (λ bytes text stops. of_lines BeginsKept bytes text (within_stops (rows_of filter now bytes) text (run_stop fault) stops)) stopped)
    lines_begin s (Err (RowsFile name)) held stopped = inl stopped
    lines_begin s (Err NotAMoment) held stopped = absurd stopped
    lines_begin s (Err NoMoment) held stopped = absurd stopped
    lines_begin s (Err OneOf) held stopped = absurd stopped
    lines_begin s (Err (Query fault)) held stopped = absurd stopped
    lines_begin s (Err NoOption) held stopped = absurd stopped
    lines_begin s (Err (Schema fault)) held stopped = absurd stopped
    lines_begin s (Err (UnknownType name)) held stopped = absurd stopped
    lines_begin s (Err (Refused fault)) held stopped = absurd stopped

  -- ---- the rows are a collection

  module _ (is_collection : plan.collection ≡ true) (rows : Option (Option (List ℕ))) (old new : Option (List ℕ)) (bytes : List ℕ) (whole : IsReadWhole rows bytes) where
    abbrev these : Streams
    these = streams rows old new

    of_indexed : (Q : OfRows) (all text : List ℕ) → OfCollection filter now all (λ items. Q (IndexedItem Data) items text) → HoldsOfRows plan.collection Q filter now all text
    of_indexed Q all text q = subst (λ (b : Bool). HoldsOfRows b Q filter now all text) (sym is_collection) q

    by_indexed : (Q : OfRows) → Writes old new (λ text. OfCollection filter now bytes (λ items. Q (IndexedItem Data) items text)) → ByFilter Q plan document these
    by_indexed Q wrote =
        by_filter (λ all text. OfCollection filter now all (λ items. Q (IndexedItem Data) items text)) Q these (of_indexed Q)
        (over_whole rows old new bytes (λ all text. OfCollection filter now all (λ items. Q (IndexedItem Data) items text)) whole wrote)

    -- an item is the first at fault
    item_at_fault : (fault : RunFault) (line : ℕ) (bad : BadRow) → run_stop fault ≡ Some (RunStop.Fault line bad) → Writes old new (λ text. OfCollection filter now bytes (λ items. StopsBy items text fault))
        → ByFilter StopsAtFault plan document these
    item_at_fault fault line bad reported (text, wrote, (items, is, stops)) =
        by_indexed StopsAtFault (text, wrote, (items, is, (line, LineClass.judged (Judgment.Fault bad), (λ sound. sound), subst (λ t. IsSomeAnd t (Stops (entities_of filter now items) text)) reported stops)))

    pub places_fail : (fault : RunFault) → Writes old new (λ text. StopsCollection filter now bytes text fault) → FailureSays (status_of_rows fault) Verb.Filter plan document these
    places_fail (Json line) (text, wrote, stops) = absurd stops
    places_fail (LineTooLong line) (text, wrote, stops) = absurd stops
    places_fail (Read line) (text, wrote, stops) = absurd stops
    places_fail (Row line fault) wrote = inl (item_at_fault (Row line fault) line (BadRow.NoEntity fault) refl wrote)
    places_fail (Arithmetic line fault) wrote = inl (item_at_fault (Arithmetic line fault) line (BadRow.NoValue fault) refl wrote)
    places_fail NotACollection (text, wrote, (none, empty)) = inr (record {
      has_filter = (filter, now, is_ready);
      asked = is_collection;
      is_none = whole_is rows bytes IsNoCollection whole none;
      nothing = wrote_none old new text wrote empty;
    })
    places_fail Write wrote = (filter, now, is_ready)
    places_fail (Memory line) wrote = tt

    pub places_done : (tally : Tally) → Writes old new (λ text. OfCollection filter now bytes (λ items. Filters items text tally)) → ByFilter FiltersAll plan document these
    places_done tally (text, wrote, (items, is, filtered)) = by_indexed FiltersAll (text, wrote, (items, is, (tally, filtered)))

    pub places_done-begin : (tally : Tally) → Writes old new (λ text. OfCollection filter now bytes (λ items. Filters items text tally)) → BeginsAs Verb.Filter plan document these
    places_done-begin tally (text, wrote, (items, is, filtered)) = inr (by_indexed BeginsKept (text, wrote, (items, is, within_all (entities_of filter now items) text tally filtered)))

    begun : (stop : RunStop BadRow) → Writes old new (λ text. OfCollection filter now bytes (λ items. Stops items text stop)) → BeginsAs Verb.Filter plan document these
    begun stop (text, wrote, (items, is, stops)) = inr (by_indexed BeginsKept (text, wrote, (items, is, within_stop (entities_of filter now items) text stop stops)))

    pub places_fail-begin : (fault : RunFault) → Writes old new (λ text. StopsCollection filter now bytes text fault) → BeginsAs Verb.Filter plan document these
    places_fail-begin (Json line) (text, wrote, stops) = absurd stops
    places_fail-begin (LineTooLong line) (text, wrote, stops) = absurd stops
    places_fail-begin (Read line) (text, wrote, stops) = absurd stops
    places_fail-begin (Row line fault) wrote = begun (RunStop.Fault line (BadRow.NoEntity fault)) wrote
    places_fail-begin (Arithmetic line fault) wrote = begun (RunStop.Fault line (BadRow.NoValue fault)) wrote
    places_fail-begin NotACollection (text, wrote, (none, empty)) = inl (wrote_none old new text wrote empty)
    places_fail-begin Write wrote = begun RunStop.Write wrote
    places_fail-begin (Memory line) (text, wrote, inl (zero, empty)) = inl (wrote_none old new text wrote empty)
    places_fail-begin (Memory line) (text, wrote, inr (items, is, stops)) =
        inr (by_indexed BeginsKept (text, wrote, (items, is, front_passed (entities_of filter now items) text stops.before (stops.here ∷ stops.after) stops.tally stops.whole stops.passes)))
