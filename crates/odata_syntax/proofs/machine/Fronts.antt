-- Tokens that the machine takes are a front, and those at which it stops are none.
use Rattle.std.proofs.Common.{◌≡◌, ◌≢◌, refl, ap, subst, sym, ◌∙◌, ℕ, ◌+◌, ◌≤◌, List, [], ◌∷◌, ◌++◌, length, take, true, cond, Some, None, arith, inl, inr}
use Rattle.std.proofs.lemmas.List.{take_at}
use Rattle.std.proofs.lemmas.Option.{same_Some}
use Rattle.odata_text.specs.declared.span.Span.{Span}
use Rattle.odata_syntax.specs.declared.syntax_fault.SyntaxFault.{SyntaxFault}
use Rattle.odata_text.specs.TokenModel.{TokenModel}
use Rattle.odata_syntax.specs.Tree.{Tree}
use Rattle.odata_syntax.specs.Grammar.{or_level, Derives}
use Rattle.odata_syntax.specs.Front.{close_count, depth_limit, open_count, opens, IsShallow, IsFront, IsWideFront}
use Rattle.odata_syntax.specs.Parse.{IsParse, HasNoParse, IsFirstDeep, IsFirstWrong, IsSyntaxFault, IsUnended}
use Rattle.odata_syntax.specs.private.Machine.{Machine, run, step, start, finish}
use Rattle.odata_syntax.specs.private.MachineView.{RefusesEnd}
use Rattle.odata_syntax.specs.private.Stops.{IsOverfull, IsStuck, RefusesOneOf}
use Rattle.odata_syntax.proofs.laws.Faults.{fault_none}
use Rattle.odata_syntax.proofs.machine.Run.{run-snoc, run-front, run_then}
use Rattle.odata_syntax.proofs.machine.Complete.{derived_finishes}
use Rattle.odata_syntax.proofs.machine.Sound.{run_derived}
use Rattle.odata_syntax.proofs.machine.Depth.{close_count-snoc, open_count-snoc, shallow-append}
use Rattle.odata_syntax.proofs.machine.Tails.{outcome_ended, viable}
use Rattle.odata_syntax.proofs.machine.Loop.{opens_no_close}

-- what the machine ends with is the one tree
pub run_parsed : (ts : List TokenModel) (m : Machine) (tree : Tree) → run ts start ≡ Some m → finish m ≡ Some tree → IsShallow ts → IsParse ts tree
run_parsed ts m tree taken ended shallow = record { derived = run_derived ts m tree taken ended; shallow = shallow }

pub run_only : (ts : List TokenModel) (m : Machine) (tree : Tree) → run ts start ≡ Some m → finish m ≡ Some tree → (other : Tree) → Derives or_level ts other → other ≡ tree
run_only ts m tree taken ended other d =
    let ends = derived_finishes d in
    let same : ends.ended ≡ m = same_Some ends.ended m (sym ends.taken ∙ taken) in
    same_Some other tree (sym ends.finished ∙ ap finish same ∙ ended)

-- what the machine has taken begins an expression
pub run_wide : (ts : List TokenModel) (m : Machine) → run ts start ≡ Some m → IsWideFront ts
run_wide ts m taken =
    let v = viable m in
    let e = outcome_ended v.more m v.tree v.ends in
    record { more = v.more; tree = v.tree; derived = run_derived (ts ++ v.more) e.ended v.tree (run_then ts v.more start m (Some e.ended) taken e.taken) e.finished }

pub run_front : (ts : List TokenModel) (m : Machine) → run ts start ≡ Some m → IsShallow ts → IsFront ts
run_front ts m taken shallow =
    let v = viable m in
    let e = outcome_ended v.more m v.tree v.ends in
    record {
      more = v.more;
      tree = v.tree;
      derived = run_derived (ts ++ v.more) e.ended v.tree (run_then ts v.more start m (Some e.ended) taken e.taken) e.finished;
      shallow = shallow-append ts v.more shallow v.no_open;
    }

-- a token that it refuses begins none
stuck_wrong : (before : List TokenModel) (token : TokenModel) (m : Machine) → run before start ≡ Some m → step m token ≡ None → ¬ IsWideFront (before ++ (token ∷ []))
stuck_wrong before token m taken stuck front =
    let ends = derived_finishes front.derived in
    let first = run-front (before ++ (token ∷ [])) front.more start ends.ended ends.taken in
    let here : Some first.0 ≡ None = sym first.1 ∙ run-snoc before token start m taken ∙ stuck in
    absurd (cc)

first_stuck_wrong : (ts : List TokenModel) (span : Span) → IsStuck ts span → IsFirstWrong ts span
first_stuck_wrong ts span s =
    record {
      before = s.at.before;
      token = s.at.token;
      behind = s.at.behind;
      split = s.at.split;
      front = run_front s.at.before s.at.reached s.at.takes s.at.shallow;
      wrong = stuck_wrong s.at.before s.at.token s.at.reached s.at.takes s.stuck;
      spanned = s.at.spanned;
    }

-- a `(` that it takes and that is one too many
overfull_deep : (before : List TokenModel) (token : TokenModel) → opens token.kind ≡ true → open_count before ≡ close_count before + depth_limit → ¬ IsFront (before ++ (token ∷ []))
overfull_deep before token opening full front =
    let all : List TokenModel = before ++ (token ∷ []) in
    let same : take (length all) (all ++ front.more) ≡ all = take_at all front.more (length all) refl in
    let P : List TokenModel → Type 0 = λ k. open_count k ≤ close_count k + depth_limit in
    let within : open_count all ≤ close_count all + depth_limit = subst P same (front.shallow.within (length all)) in
    let opened : open_count all ≡ open_count before + 1 = open_count-snoc before token ∙ ap (λ b. open_count before + cond b 1 0) opening in
    let closed : close_count all ≡ close_count before + 0 = close_count-snoc before token ∙ ap (λ b. close_count before + cond b 1 0) (opens_no_close token.kind opening) in
    absurd (omega arith)

first_overfull_deep : (ts : List TokenModel) (span : Span) → IsOverfull ts span → IsFirstDeep ts span
first_overfull_deep ts span o =
    record {
      before = o.at.before;
      token = o.at.token;
      behind = o.at.behind;
      split = o.at.split;
      front = run_front o.at.before o.at.reached o.at.takes o.at.shallow;
      wide = run_wide (o.at.before ++ (o.at.token ∷ [])) o.next (run-snoc o.at.before o.at.token start o.at.reached o.at.takes ∙ o.taken);
      deep = overfull_deep o.at.before o.at.token o.opening o.full;
      spanned = o.at.spanned;
    }

-- the fault of a stop
pub stuck_fault : (ts : List TokenModel) (len : ℕ) (fault : SyntaxFault) → RefusesOneOf ts fault → fault ≢ SyntaxFault.Memory → IsSyntaxFault ts len fault
stuck_fault ts len (SyntaxFault.Unexpected span) s h = inl (first_stuck_wrong ts span s)
stuck_fault ts len (SyntaxFault.TooDeep span) s h = first_overfull_deep ts span s
stuck_fault ts len SyntaxFault.Memory s h = absurd (h refl)

pub stuck_none : (ts : List TokenModel) (fault : SyntaxFault) → RefusesOneOf ts fault → fault ≢ SyntaxFault.Memory → HasNoParse ts
stuck_none ts fault s h = fault_none ts 0 fault (stuck_fault ts 0 fault s h)

-- the fault of an end
ended_none : (ts : List TokenModel) (m : Machine) → run ts start ≡ Some m → finish m ≡ None → HasNoParse ts
ended_none ts m taken ended tree parse =
    let ends = derived_finishes parse.derived in
    let same : ends.ended ≡ m = same_Some ends.ended m (sym ends.taken ∙ taken) in
    let here : Some tree ≡ None = sym ends.finished ∙ ap finish same ∙ ended in
    absurd (cc)

pub unended_fault_at : (ts : List TokenModel) (m : Machine) (len : ℕ) (span : Span) → run ts start ≡ Some m → IsShallow ts → span.start ≡ len → span.stop ≡ len → finish m ≡ None → IsUnended ts len span
unended_fault_at ts m len span taken shallow starts stops none = record { front = run_front ts m taken shallow; none = ended_none ts m taken none; starts = starts; stops = stops }

pub unended_fault : (ts : List TokenModel) (m : Machine) (len : ℕ) (fault : SyntaxFault) → run ts start ≡ Some m → IsShallow ts → RefusesEnd (finish m) len fault → fault ≢ SyntaxFault.Memory → IsSyntaxFault ts len fault
unended_fault ts m len (SyntaxFault.Unexpected span) taken shallow r h = inr (unended_fault_at ts m len span taken shallow r.0 r.1 r.2)
unended_fault ts m len (SyntaxFault.TooDeep span) taken shallow r h = absurd r
unended_fault ts m len SyntaxFault.Memory taken shallow r h = absurd (h refl)

pub unended_none : (ts : List TokenModel) (m : Machine) (len : ℕ) (fault : SyntaxFault) → run ts start ≡ Some m → IsShallow ts → RefusesEnd (finish m) len fault → fault ≢ SyntaxFault.Memory → HasNoParse ts
unended_none ts m len fault taken shallow r h = fault_none ts len fault (unended_fault ts m len fault taken shallow r h)

-- tokens are at most one tree
pub derived_once : (ts : List TokenModel) (tree other : Tree) → Derives or_level ts tree → Derives or_level ts other → tree ≡ other
derived_once ts tree other d e =
    let ends = derived_finishes e in
    run_only ts ends.ended other ends.taken ends.finished tree d
