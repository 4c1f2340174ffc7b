-- What a run answers, by its first failure.
use Rattle.std.proofs.Common.{◌≡◌, ◌∙◌, ◌⊎◌, ◌≢◌, ℕ, List, [], ◌++◌, Option, None, Some, Result, Ok, Err, inl, inr, refl, sym, ap, subst, arith, append-nil}
use Rattle.std.specs.Borrow.{Bor}
use Rattle.std.specs.Prelude.{IfErr, IfSome, IsNone, MatchOption, OnOk, IsSomeAnd}
use Rattle.std.proofs.lemmas.Option.{none-some}
use Rattle.std.specs.Io.KnownBytes.{Appends, Keeps}
use Rattle.std.proofs.KnownBytes.{Keeps-trans, Appends-kept}
use Rattle.edm_values.specs.MomentLiteral.{MomentValue}
use Rattle.edm_values.specs.MomentParts.{MomentParts}
use Rattle.odata_queries.specs.Query.{IsQueryFault}
use Rattle.odata_queries.specs.declared.query_fault.QueryFault.{QueryFault}
use Rattle.odata_queries.specs.declared.query_fault.QueryFault.TheVariants as query
use Rattle.line_filter.specs.Growth.{Writes, WritesFront}
use Rattle.odata_filter.specs.Planned.{IsMomentText, IsPlanned}
use Rattle.command_plan.specs.declared.command_line.Verb.{Verb}
use Rattle.odata_filter.specs.private.RunFailures.{AnswerSays, BeginsText, FailureSays, GivesMoment, IsAnswerOf, IsAnswered, IsMomentUnlessAsked, IsReported, IsUnwritten, LacksFilter, ReadsNoRows, status_of, status_of_query, status_of_refusal}
use Rattle.odata_filter.specs.Run.{Answers, BeginsAs, BeginsBy, BeginsKept, HoldsOfRows, Completes, IsAccepted, IsFirstMoment, IsRefusedLine, NamesType, AsksFor, IsPlanFilter, IsReady, LacksMoment, HasNoFilter, Streams, streams, ReportsFilter, WroteNothing, OverRows, OfRows, ByFilter, FiltersAll, StopsAtFault, StopsAtRow, Status, complete, without_filter, without_plan, without_type, at_fault, without_device, without_memory, status_number, StatusSays, Begins}
use Rattle.csdl_schema.specs.SchemaModel.{SchemaModel, slots_of, type_name_at}
use Rattle.command_plan.specs.declared.command_line.Plan.{Plan}
use Rattle.odata_filter.specs.declared.command.failure.Failure.{Failure}
use Rattle.odata_signatures.specs.declared.refusal.Refusal.{Refusal}
use Rattle.odata_signatures.specs.declared.refusal.Refusal.TheVariants as refusal
use Rattle.odata_checked_filter.specs.Calls.{UsesNow}
use Rattle.odata_checked_filter.specs.Explanation.{IsExplanation}
use Rattle.odata_checked_filter.specs.Filter.{Filter, tree_of_filter}
use Rattle.odata_signatures.specs.HasTyping.{HasTyping, HasNoTyping, UnlessMemory}

-- ---- the plan's text is a filter, or is none

pub is_filter_of : (plan : Plan) (document : List ℕ) (schema : SchemaModel) (index : ℕ) (text : List ℕ) (filter : Filter)
    → NamesType plan document schema index → AsksFor plan text
    → filter.schema ≡ schema → filter.filtered ≡ index
    → HasTyping (slots_of filter.schema) (type_name_at filter.schema filter.filtered) text (tree_of_filter filter) → IsPlanFilter plan document filter
is_filter_of plan document schema index text filter names asked same at typed = record {
  names = subst (λ s. NamesType plan document s filter.filtered) (sym same) (subst (NamesType plan document schema) (sym at) names);
  text = text;
  asked = asked;
  typing = typed;
}

lacking_as : (plan : Plan) (document : List ℕ) (fault : Refusal) (P : Type 0)
    → (P → HasNoFilter plan document) → UnlessMemory fault P → LacksFilter (status_of_refusal fault) plan document
lacking_as plan document (refusal.Text fault) P none p = none p
lacking_as plan document (refusal.Syntax fault) P none p = none p
lacking_as plan document (refusal.Typing fault) P none p = none p
lacking_as plan document refusal.Memory P none p = tt

pub lacking : (plan : Plan) (document : List ℕ) (schema : SchemaModel) (index : ℕ) (text : List ℕ) (fault : Refusal)
    → NamesType plan document schema index → AsksFor plan text
    → UnlessMemory fault (HasNoTyping (slots_of schema) (type_name_at schema index) text) → LacksFilter (status_of_refusal fault) plan document
lacking plan document schema index text fault names asked none =
    lacking_as plan document fault (HasNoTyping (slots_of schema) (type_name_at schema index) text)
    (λ none. record {
      schema = schema;
      index = index;
      names = names;
      none = inl (text, asked, none);
    })
    none

-- ---- the plan's query has a fault, or no filter

query_given : (given : Option (Bor (List ℕ))) (query : Bor (List ℕ)) (P : List ℕ → Type 0) → given ≡ Some query → P query.now → IsSomeAnd given (λ q. P q.now)
query_given given query P is p = subst (λ g. IsSomeAnd g (λ q. P q.now)) (sym is) p

refused_query : (plan : Plan) (document : List ℕ) (schema : SchemaModel) (index : ℕ) (given : Bor (List ℕ)) (fault : QueryFault)
    → NamesType plan document schema index → plan.query ≡ Some given → IsQueryFault given.now fault → HasNoFilter plan document
refused_query plan document schema index given fault names is at = record {
  schema = schema;
  index = index;
  names = names;
  none = inr (query_given plan.query given (λ q. (f : QueryFault) × IsQueryFault q f) is (fault, at));
}

pub query_lacking : (plan : Plan) (document : List ℕ) (schema : SchemaModel) (index : ℕ) (given : Bor (List ℕ)) (fault : QueryFault)
    → NamesType plan document schema index → plan.query ≡ Some given → (fault ≢ query.Memory → IsQueryFault given.now fault)
    → LacksFilter (status_of_query fault) plan document
query_lacking plan document schema index given query.Memory names is at = tt
query_lacking plan document schema index given (query.BadEscape n) names is at = refused_query plan document schema index given _ names is (at (λ e. cc))
query_lacking plan document schema index given (query.NotUtf8 n) names is at = refused_query plan document schema index given _ names is (at (λ e. cc))
query_lacking plan document schema index given (query.Repeated n) names is at = refused_query plan document schema index given _ names is (at (λ e. cc))
query_lacking plan document schema index given (query.OtherOption n) names is at = refused_query plan document schema index given _ names is (at (λ e. cc))

-- where there is no filter, nothing was written
pub lacks_says : (status : Status) (verb : Verb) (plan : Plan) (document : List ℕ) (s : Streams)
    → LacksFilter status plan document → WroteNothing s → FailureSays status verb plan document s
lacks_says without_filter verb plan document s lacks wrote = (lacks, wrote)
lacks_says without_plan verb plan document s lacks wrote = (inr (inl lacks), wrote)
lacks_says without_memory verb plan document s lacks wrote = tt
lacks_says _ verb plan document s lacks wrote = absurd lacks

-- what was reported about the filter
unwritten_says : (status : Status) (verb : Verb) (plan : Plan) (document : List ℕ) (s : Streams) (filter : Filter)
    → ReadsNoRows verb → IsPlanFilter plan document filter → IsUnwritten status → FailureSays status verb plan document s
unwritten_says without_device Verb.Check plan document s filter reads_none is_filter unwritten = inl (filter, is_filter)
unwritten_says without_device Verb.Explain plan document s filter reads_none is_filter unwritten = inl (filter, is_filter)
unwritten_says without_device Verb.Filter plan document s filter reads_none is_filter unwritten = absurd reads_none
unwritten_says without_memory verb plan document s filter reads_none is_filter unwritten = tt
unwritten_says _ verb plan document s filter reads_none is_filter unwritten = absurd unwritten

pub accepted_says : {X : Type 0} (plan : Plan) (document : List ℕ) (s : Streams) (filter : Filter) (answer : Result X Failure)
    → IsPlanFilter plan document filter → OnOk answer (Writes s.old s.new (IsAccepted filter)) → IfErr answer (λ failure. IsUnwritten (status_of failure))
    → AnswerSays answer Verb.Check plan document s
accepted_says plan document s filter (Ok done) is_filter reported unwritten = record { filter = filter; is_filter = is_filter; written = reported }
accepted_says plan document s filter (Err failure) is_filter reported unwritten = unwritten_says (status_of failure) Verb.Check plan document s filter tt is_filter unwritten

pub explained_says : {X : Type 0} (plan : Plan) (document : List ℕ) (s : Streams) (filter : Filter) (answer : Result X Failure)
    → IsPlanFilter plan document filter → OnOk answer (Writes s.old s.new (IsExplanation filter)) → IfErr answer (λ failure. IsUnwritten (status_of failure))
    → AnswerSays answer Verb.Explain plan document s
explained_says plan document s filter (Ok done) is_filter reported unwritten = record { filter = filter; is_filter = is_filter; written = reported }
explained_says plan document s filter (Err failure) is_filter reported unwritten = unwritten_says (status_of failure) Verb.Explain plan document s filter tt is_filter unwritten

-- a beginning was written of what is reported about the filter
pub accepted_begins : (plan : Plan) (document : List ℕ) (s : Streams) (filter : Filter) → IsPlanFilter plan document filter
    → BeginsText (IsAccepted filter) s.old s.new → BeginsAs Verb.Check plan document s
accepted_begins plan document s filter is_filter (inl nothing) = inl nothing
accepted_begins plan document s filter is_filter (inr (text, is, front)) = inr (text, inl (filter, is_filter, is), front)

pub explained_begins : (plan : Plan) (document : List ℕ) (s : Streams) (filter : Filter) → IsPlanFilter plan document filter
    → BeginsText (IsExplanation filter) s.old s.new → BeginsAs Verb.Explain plan document s
explained_begins plan document s filter is_filter (inl nothing) = inl nothing
explained_begins plan document s filter is_filter (inr (text, is, front)) = inr (text, inl (filter, is_filter, is), front)

-- a whole text is a beginning of itself
pub whole_front : (a b : Option (List ℕ)) (text : List ℕ) → Appends a b text → WritesFront a b text
whole_front a b text wrote = (text, wrote, ([], sym (append-nil text)))

pub flushed_front : (a b c : Option (List ℕ)) (text : List ℕ) → Appends a b text → Keeps b c → WritesFront a c text
flushed_front a b c text wrote kept = whole_front a c text (Appends-kept a b c text wrote kept)

front_kept : (a b c : Option (List ℕ)) (text : List ℕ) → WritesFront a b text → Keeps b c → WritesFront a c text
front_kept a b c text (front, wrote, rest) kept = (front, Appends-kept a b c front wrote kept, rest)

pub begun_kept : (P : List ℕ → Type 0) (a b c : Option (List ℕ)) → BeginsText P a b → Keeps b c → BeginsText P a c
begun_kept P a b c (inl nothing) kept = inl (Keeps-trans a b c nothing kept)
begun_kept P a b c (inr (text, is, front)) kept = inr (text, is, front_kept a b c text front kept)

pub text_begins : (P : List ℕ → Type 0) (a b : Option (List ℕ)) (text : List ℕ) → P text → WritesFront a b text → BeginsText P a b
text_begins P a b text is front = inr (text, is, front)

-- a text was written of which P holds
pub writes_on : {X : Type 0} (answer : Result X Failure) (old new : Option (List ℕ)) (text : List ℕ) (P : List ℕ → Type 0)
    → OnOk answer (Appends old new text) → P text → OnOk answer (Writes old new P)
writes_on (Ok done) old new text P wrote is = (text, wrote, is)
writes_on (Err failure) old new text P wrote is = tt

-- ---- standard output was flushed

over_kept : (rows : Option (Option (List ℕ))) (a b c : Option (List ℕ)) (P : List ℕ → List ℕ → Type 0)
    → OverRows (streams rows a b) P → Keeps b c → OverRows (streams rows a c) P
over_kept None a b c P held kept = held
over_kept (Some None) a b c P held kept = tt
over_kept (Some (Some bytes)) a b c P (text, wrote, said) kept = (text, Appends-kept a b c text wrote kept, said)

by_filter_kept : (P : OfRows) (plan : Plan) (document : List ℕ) (rows : Option (Option (List ℕ))) (a b c : Option (List ℕ))
    → ByFilter P plan document (streams rows a b) → Keeps b c → ByFilter P plan document (streams rows a c)
by_filter_kept P plan document rows a b c by kept = record {
  filter = by.filter;
  now = by.now;
  is_ready = by.is_ready;
  written = over_kept rows a b c (HoldsOfRows plan.collection P by.filter by.now) by.written kept;
}

reported_kept : (Says : Filter → List ℕ → Type 0) (plan : Plan) (document : List ℕ) (rows : Option (Option (List ℕ))) (a b c : Option (List ℕ))
    → ReportsFilter Says plan document (streams rows a b) → Keeps b c → ReportsFilter Says plan document (streams rows a c)
reported_kept Says plan document rows a b c reports kept =
    let (text, wrote, is) = reports.written in
    record { filter = reports.filter; is_filter = reports.is_filter; written = (text, Appends-kept a b c text wrote kept, is) }

completes_kept : (verb : Verb) (plan : Plan) (document : List ℕ) (rows : Option (Option (List ℕ))) (a b c : Option (List ℕ))
    → Completes verb plan document (streams rows a b) → Keeps b c → Completes verb plan document (streams rows a c)
completes_kept Verb.Filter plan document rows a b c ends kept = by_filter_kept FiltersAll plan document rows a b c ends kept
completes_kept Verb.Check plan document rows a b c ends kept = reported_kept IsAccepted plan document rows a b c ends kept
completes_kept Verb.Explain plan document rows a b c ends kept = reported_kept IsExplanation plan document rows a b c ends kept

stops_kept : (verb : Verb) (plan : Plan) (document : List ℕ) (rows : Option (Option (List ℕ))) (a b c : Option (List ℕ))
    → StopsAtRow verb plan document (streams rows a b) → Keeps b c → StopsAtRow verb plan document (streams rows a c)
stops_kept Verb.Filter plan document rows a b c (inl stops) kept = inl (by_filter_kept StopsAtFault plan document rows a b c stops kept)
stops_kept Verb.Filter plan document rows a b c (inr none) kept = inr (record {
  has_filter = none.has_filter;
  asked = none.asked;
  is_none = none.is_none;
  nothing = Keeps-trans a b c none.nothing kept;
})
stops_kept Verb.Check plan document rows a b c stops kept = absurd stops
stops_kept Verb.Explain plan document rows a b c stops kept = absurd stops

failure_kept : (status : Status) (verb : Verb) (plan : Plan) (document : List ℕ) (rows : Option (Option (List ℕ))) (a b c : Option (List ℕ))
    → FailureSays status verb plan document (streams rows a b) → ¬ IsAnswerOf verb status → Keeps b c → StatusSays status verb plan document (streams rows a c)
failure_kept complete verb plan document rows a b c ends not kept = completes_kept verb plan document rows a b c ends kept
failure_kept without_filter Verb.Filter plan document rows a b c ends not kept = (ends.0, Keeps-trans a b c ends.1 kept)
failure_kept without_filter Verb.Check plan document rows a b c ends not kept = absurd (not (record { reads_none = tt; is_refusal = refl }))
failure_kept without_filter Verb.Explain plan document rows a b c ends not kept = absurd (not (record { reads_none = tt; is_refusal = refl }))
failure_kept without_plan verb plan document rows a b c ends not kept = (ends.0, Keeps-trans a b c ends.1 kept)
failure_kept without_type verb plan document rows a b c ends not kept = (ends.0, (ends.1.0, Keeps-trans a b c ends.1.1 kept))
failure_kept at_fault verb plan document rows a b c ends not kept = stops_kept verb plan document rows a b c ends kept
failure_kept without_device verb plan document rows a b c ends not kept = ends
failure_kept without_memory verb plan document rows a b c ends not kept = tt

begins_kept : (verb : Verb) (plan : Plan) (document : List ℕ) (rows : Option (Option (List ℕ))) (a b c : Option (List ℕ))
    → WroteNothing (streams rows a b) ⊎ BeginsBy verb plan document (streams rows a b) → Keeps b c
    → WroteNothing (streams rows a c) ⊎ BeginsBy verb plan document (streams rows a c)
begins_kept verb plan document rows a b c (inl none) kept = inl (Keeps-trans a b c none kept)
begins_kept Verb.Filter plan document rows a b c (inr by) kept = inr (by_filter_kept BeginsKept plan document rows a b c by kept)
begins_kept Verb.Check plan document rows a b c (inr (text, is, front)) kept = inr (text, is, front_kept a b c text front kept)
begins_kept Verb.Explain plan document rows a b c (inr (text, is, front)) kept = inr (text, is, front_kept a b c text front kept)

-- ---- by the plan's verb

pub says_as : {X : Type 0} (answer : Result X Failure) (verb : Verb) (plan : Plan) (document : List ℕ) (s : Streams)
    → plan.verb ≡ verb → AnswerSays answer verb plan document s → AnswerSays answer plan.verb plan document s
says_as answer verb plan document s is says = subst (λ (v : Verb). AnswerSays answer v plan document s) (sym is) says

pub begins_as : (verb : Verb) (plan : Plan) (document : List ℕ) (s : Streams)
    → plan.verb ≡ verb → BeginsAs verb plan document s → Begins plan document s
begins_as verb plan document s is begins = subst (λ (v : Verb). BeginsAs v plan document s) (sym is) begins

-- ---- a failure was reported

refusal_numbered : (status : Status) → status_number status ≡ 1 → status ≡ without_filter
refusal_numbered complete one = absurd (omega arith)
refusal_numbered without_filter one = refl
refusal_numbered without_plan one = absurd (omega arith)
refusal_numbered without_type one = absurd (omega arith)
refusal_numbered at_fault one = absurd (omega arith)
refusal_numbered without_device one = absurd (omega arith)
refusal_numbered without_memory one = absurd (omega arith)

pub answered : (verb : Verb) (status : Status) (number : ℕ) → ReadsNoRows verb → number ≡ status_number status → number ≡ 1
    → IsAnswerOf verb status
answered verb status number reads_none same one =
    record { reads_none = reads_none; is_refusal = refusal_numbered status (sym same ∙ one) }

-- no refusal is an answer where the verb reads rows
pub not_answered : (status : Status) → ¬ IsAnswerOf Verb.Filter status
not_answered status is = is.reads_none

pub answer_numbered : (verb : Verb) (status : Status) (number : ℕ) → number ≡ status_number status → IsAnswerOf verb status → number ≡ 1
answer_numbered verb status number same is = same ∙ ap status_number is.is_refusal

-- a failure to write is one of a device or of memory
pub unwritten_number : (status : Status) (number : ℕ) → number ≡ status_number status → IsUnwritten status → (number ≡ 5) ⊎ (number ≡ 6)
unwritten_number without_device number same unwritten = inl same
unwritten_number without_memory number same unwritten = inr same
unwritten_number _ number same unwritten = absurd unwritten

-- what a refusal says, as an answer
answer_says : (status : Status) (verb : Verb) (plan : Plan) (document : List ℕ) (s : Streams)
    → FailureSays status verb plan document s → IsAnswerOf verb status → HasNoFilter plan document × WroteNothing s
answer_says status verb plan document s says is = subst (λ st. FailureSays st verb plan document s) is.is_refusal says

refused_says : (verb : Verb) (plan : Plan) (document : List ℕ) (s : Streams) → ReadsNoRows verb → HasNoFilter plan document → Writes s.old s.new IsRefusedLine
    → StatusSays without_filter verb plan document s
refused_says Verb.Check plan document s reads_none none wrote = (none, wrote)
refused_says Verb.Explain plan document s reads_none none wrote = (none, wrote)
refused_says Verb.Filter plan document s reads_none none wrote = absurd reads_none

untold_says : (verb : Verb) (plan : Plan) (document : List ℕ) (s : Streams) → ReadsNoRows verb → HasNoFilter plan document
    → StatusSays without_device verb plan document s
untold_says Verb.Check plan document s reads_none none = inr none
untold_says Verb.Explain plan document s reads_none none = inr none
untold_says Verb.Filter plan document s reads_none none = absurd reads_none

refusal_begins : (verb : Verb) (plan : Plan) (document : List ℕ) (s : Streams) → ReadsNoRows verb → HasNoFilter plan document
    → (text : List ℕ) × IsRefusedLine text × WritesFront s.old s.new text → BeginsBy verb plan document s
refusal_begins Verb.Check plan document s reads_none none (text, is, front) = (text, inr (none, is), front)
refusal_begins Verb.Explain plan document s reads_none none (text, is, front) = (text, inr (none, is), front)
refusal_begins Verb.Filter plan document s reads_none none begun = absurd reads_none

kept_appends : (a b c : Option (List ℕ)) (text : List ℕ) → Keeps a b → Appends b c text → Appends a c text
kept_appends None b c text kept wrote = tt
kept_appends (Some x) None c text kept wrote = absurd kept
kept_appends (Some x) (Some y) None text kept wrote = absurd wrote
kept_appends (Some x) (Some y) (Some z) text kept wrote = wrote ∙ ap (λ l. l ++ text) kept

module _ (plan : Plan) (document : List ℕ) (rows : Option (Option (List ℕ))) (a b c : Option (List ℕ)) (reads_none : ReadsNoRows plan.verb) (none : HasNoFilter plan document)
    (kept : Keeps a b) where
  answer_begins : BeginsText IsRefusedLine b c → Begins plan document (streams rows a c)
  answer_begins (inl nothing) = inl (Keeps-trans a b c kept nothing)
  answer_begins (inr (text, is, (front, wrote, rest))) =
      inr (refusal_begins plan.verb plan document (streams rows a c) reads_none none (text, is, (front, kept_appends a b c front kept wrote, rest)))

  Answers-refused : (number : ℕ) → IsAnswered number b c → Answers number plan document (streams rows a c)
  Answers-refused number (inl (one, (text, wrote, is))) =
      let all = kept_appends a b c text kept wrote in
      record {
        status = without_filter;
        is_answer = one;
        says = refused_says plan.verb plan document (streams rows a c) reads_none none (text, all, is);
        begins = inr (refusal_begins plan.verb plan document (streams rows a c) reads_none none (text, is, whole_front a c text all));
      }
  Answers-refused number (inr (inl five, begun)) = record {
    status = without_device;
    is_answer = five;
    says = untold_says plan.verb plan document (streams rows a c) reads_none none;
    begins = answer_begins begun;
  }
  Answers-refused number (inr (inr six, begun)) = record { status = without_memory; is_answer = six; says = tt; begins = answer_begins begun }

pub Answers-reported : (number : ℕ) (status : Status) (plan : Plan) (document : List ℕ) (rows : Option (Option (List ℕ))) (a b c : Option (List ℕ))
    → FailureSays status plan.verb plan document (streams rows a b) → Begins plan document (streams rows a b)
    → IsReported number status plan.verb b c → Answers number plan document (streams rows a c)
Answers-reported number status plan document rows a b c says begins (inl (is, reported)) =
    let refused = answer_says status plan.verb plan document (streams rows a b) says is in
    Answers-refused plan document rows a b c is.reads_none refused.0 refused.1 number reported
Answers-reported number status plan document rows a b c says begins (inr (not, exact, kept)) = record {
  status = status;
  is_answer = exact;
  says = failure_kept status plan.verb plan document rows a b c says not kept;
  begins = begins_kept plan.verb plan document rows a b c begins kept;
}

-- ---- the moment that is given

pub moment_there : (given : Option (Bor (List ℕ))) (text : Bor (List ℕ)) (moment : MomentParts)
    → given ≡ Some text → MomentValue text.now moment → IfSome given (λ g. IsMomentText g.now)
moment_there given text moment is value = subst (λ g. IfSome g (λ t. IsMomentText t.now)) (sym is) (moment, value)

pub no_moment : (plan : Plan) (text : Bor (List ℕ))
    → plan.now ≡ Some text → ((moment : MomentParts) → MomentValue text.now moment → None ≡ Some moment) → ¬ IsPlanned plan
no_moment plan text is none planned =
    let there : IsMomentText text.now = subst (λ g. IfSome g (λ t. IsMomentText t.now)) is planned.moment in
    none-some there.0 (none there.0 there.1)

-- ---- the moment for a filter

-- where the given moment is the plan's, the one for the filter is that or the first
pub is_ready : (plan : Plan) (document : List ℕ) (filter : Filter) (given : Option MomentParts) (now : MomentParts)
    → GivesMoment plan given → IsMomentUnlessAsked filter given now → IsPlanFilter plan document filter → IsReady plan document filter now
is_ready plan document filter given now gives is is_filter = record { is_filter = is_filter; is_moment = moment_given plan.now given gives is }
  where
    moment_given : (text : Option (Bor (List ℕ))) (g : Option MomentParts)
        → MatchOption text (g ≡ None) (λ t. IsSomeAnd g (MomentValue t.now)) → IsMomentUnlessAsked filter g now
        → MatchOption text ((¬ UsesNow (tree_of_filter filter)) × IsFirstMoment now) (λ t. MomentValue t.now now)
    moment_given None None gives is = is
    moment_given None (Some moment) gives is = cc
    moment_given (Some t) (Some moment) gives is = subst (MomentValue t.now) (sym is) gives
    moment_given (Some t) None gives is = absurd gives

-- where none is given and the filter asks for it, the plan lacks it
pub lacks_moment : (plan : Plan) (document : List ℕ) (filter : Filter) (given : Option MomentParts)
    → GivesMoment plan given → given ≡ None → UsesNow (tree_of_filter filter) → IsPlanFilter plan document filter → LacksMoment plan document
lacks_moment plan document filter given gives none asks is_filter = record {
  filter = filter;
  is_filter = is_filter;
  asks = asks;
  none = not_given plan.now given gives none;
}
  where
    not_given : (text : Option (Bor (List ℕ))) (g : Option MomentParts)
        → MatchOption text (g ≡ None) (λ t. IsSomeAnd g (MomentValue t.now)) → g ≡ None → IsNone text
    not_given None g gives none = refl
    not_given (Some t) None gives none = absurd gives
    not_given (Some t) (Some moment) gives none = cc

-- so a run over its rows ends
pub without_moment : (plan : Plan) (document : List ℕ) (failure : Failure) (s : Streams)
    → failure ≡ Failure.NoMoment → LacksMoment plan document → WroteNothing s → FailureSays (status_of failure) Verb.Filter plan document s
without_moment plan document failure s is lacks wrote =
    subst (λ (f : Failure). FailureSays (status_of f) Verb.Filter plan document s) (sym is) (inr (inr lacks), wrote)
