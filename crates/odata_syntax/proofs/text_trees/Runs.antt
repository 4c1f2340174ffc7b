-- The tokens of a text, read one after another, and the machine that takes them.
use Rattle.std.proofs.Common.{◌≡◌, refl, ap, sym, subst, ◌∙◌, ℕ, ◌+◌, ◌<◌, ◌≤◌, List, [], ◌∷◌, ◌++◌, cond, length, slice_range, Option, None, Some, IsCharBoundary, append-nil, append_assoc, arith}
use Rattle.std.proofs.lemmas.List.{length_push}
use Rattle.odata_text.specs.declared.text_fault.TextFault.{TextFault}
use Rattle.odata_text.specs.declared.scanner.Scanner.{Scanner}
use Rattle.odata_text.specs.declared.token.Token.{Token}
use Rattle.odata_text.specs.Scanning.{HasRead, IsFurther, IsReading, text_of, token_of}
use Rattle.odata_text.specs.TokenModel.{TokenModel, token_model}
use Rattle.odata_text.specs.Tokens.{IsTextFault, IsTokenList}
use Rattle.odata_syntax.specs.declared.parser.state.State.{State}
use Rattle.odata_syntax.specs.declared.parser.text_parser.TextOrSyntaxFault.{TextOrSyntaxFault}
use Rattle.odata_syntax.specs.declared.syntax_fault.SyntaxFault.{SyntaxFault}
use Rattle.odata_syntax.specs.Front.{close_count, closes, depth_limit, open_count, opens}
use Rattle.odata_syntax.specs.PostOrder.{Texts}
use Rattle.odata_syntax.specs.TextTree.{IsTextRange, text_in}
use Rattle.odata_syntax.specs.private.Machine.{Machine, run, start, step}
use Rattle.odata_syntax.specs.private.MachineView.{machine_of}
use Rattle.odata_syntax.specs.private.Stops.{IsReached, RefusesOneOf}
use Rattle.odata_syntax.specs.private.TextParser.{AreRangeTexts, BeginTokens, IsFirstAfter, IsRun, RefusesText, StopsText, TakesText}
use Rattle.odata_syntax.proofs.machine.Depth.{close_count-snoc, open_count-snoc, shallow-nil, shallow-snoc, shallow-whole}
use Rattle.odata_syntax.proofs.machine.Loop.{at_most_one, one_too_many, opens_no_close, room}
use Rattle.odata_syntax.proofs.machine.Run.{run-snoc}

-- The tokens so far.

-- the scanner has read some tokens and the machine has taken them, with so many parentheses opened and closed
pub record HasTaken (scanner : Scanner) (state : State) (opened closed : ℕ) : Type 0 where
  pub list : List TokenModel
  pub read : HasRead scanner list
  pub run : IsRun (text_of scanner) list state
  pub opens_is : opened ≡ open_count list
  pub closes_is : closed ≡ close_count list
  pub opens_within : opened ≤ length list
  pub closes_within : closed ≤ length list

pub taken_none : (scanner : Scanner) (state : State) → HasRead scanner [] → ((texts : Texts) → machine_of texts state ≡ start) → HasTaken scanner state 0 0
taken_none scanner state read begun = record {
  list = [];
  read = read;
  run = record { taken = λ texts are. ap (λ (m : Machine). Some m) (sym (begun texts)); shallow = shallow-nil };
  opens_is = refl;
  closes_is = refl;
  opens_within = omega arith;
  closes_within = omega arith;
}

-- nowhere too deep, so not here
pub taken_shallow : (scanner : Scanner) (state : State) (opened closed : ℕ) → HasTaken scanner state opened closed → opened ≤ closed + depth_limit
taken_shallow scanner state opened closed has = omega (arith, shallow-whole has.list has.run.shallow, has.opens_is, has.closes_is)

pub takes_all : (scanner : Scanner) (state : State) (opened closed : ℕ) (text : List ℕ) → text_of scanner ≡ text → HasTaken scanner state opened closed
    → ((list : List TokenModel) → HasRead scanner list → IsTokenList (text_of scanner) list) → TakesText text state
takes_all scanner state opened closed text same has all =
    subst (λ (t : List ℕ). TakesText t state) same (record { list = has.list; tokens = all has.list has.read; run = has.run })

-- One token more.

-- the scanner has read one token more, and this is it
pub record IsNextToken (old new : Scanner) (token : Token) : Type 0 where
  pub further : IsFurther old new
  pub reading : IsReading new
  pub is : token_model token ≡ token_of new

span_range : (old new : Scanner) (token : Token) → IsNextToken old new token → IsTextRange (text_of new) token.span
span_range old new token next =
    let start : token.span.start ≡ new.start = ap (λ (m : TokenModel). m.start) next.is in
    let stop : token.span.stop ≡ new.stop = ap (λ (m : TokenModel). m.stop) next.is in
    record {
      order = omega (arith, start, stop, next.reading.order);
      begins = subst (λ (k : ℕ). IsCharBoundary (text_of new) k) (sym start) next.reading.begins;
      ends = subst (λ (k : ℕ). IsCharBoundary (text_of new) k) (sym stop) next.reading.ends;
    }

-- its text is that of its span
pub named : (old new : Scanner) (token : Token) (texts : Texts) → IsNextToken old new token → AreRangeTexts (text_of new) texts → texts token.span ≡ token.text.now
named old new token texts next are =
    let start : token.span.start ≡ new.start = ap (λ (m : TokenModel). m.start) next.is in
    let stop : token.span.stop ≡ new.stop = ap (λ (m : TokenModel). m.stop) next.is in
    let text : token.text.now ≡ slice_range (text_of new) new.start new.stop = ap (λ (m : TokenModel). m.text) next.is in
    are token.span (span_range old new token next)
    ∙ ap (λ (k : ℕ). slice_range (text_of new) k token.span.stop) start
    ∙ ap (λ (k : ℕ). slice_range (text_of new) new.start k) stop
    ∙ sym text

-- what the machine makes of it, by the texts of the tokens before it
abbrev pub StepsTo : State → Token → (Texts → Option Machine) → Type 0
StepsTo state token next = (texts : Texts) → texts token.span ≡ token.text.now → step (machine_of texts state) (token_model token) ≡ next texts

-- the machine before it
before_it : (old new : Scanner) (state : State) (opened closed : ℕ) (token : Token) (texts : Texts) → (has : HasTaken old state opened closed) → IsNextToken old new token
    → AreRangeTexts (text_of new) texts → run has.list start ≡ Some (machine_of texts state)
before_it old new state opened closed token texts has next are =
    has.run.taken texts (subst (λ (t : List ℕ). AreRangeTexts t texts) next.further.text are)

pub taken_more : (old new : Scanner) (state after : State) (opened closed more_opened more_closed : ℕ) (token : Token) → HasTaken old state opened closed → IsNextToken old new token
    → StepsTo state token (λ (texts : Texts). Some (machine_of texts after))
    → more_opened ≡ opened + cond (opens token.kind) 1 0 → more_closed ≡ closed + cond (closes token.kind) 1 0 → more_opened ≤ more_closed + depth_limit
    → HasTaken new after more_opened more_closed
taken_more old new state after opened closed more_opened more_closed token has next steps is_opened is_closed fits =
    let p : TokenModel = token_of new in
    let kind : token.kind ≡ p.kind = ap (λ (m : TokenModel). m.kind) next.is in
    let size = length_push has.list p in
    let opened_more : open_count (has.list ++ p ∷ []) ≡ open_count has.list + cond (opens p.kind) 1 0 = open_count-snoc has.list p in
    let closed_more : close_count (has.list ++ p ∷ []) ≡ close_count has.list + cond (closes p.kind) 1 0 = close_count-snoc has.list p in
    let a_is : more_opened ≡ opened + cond (opens p.kind) 1 0 = is_opened ∙ ap (λ k. opened + cond (opens k) 1 0) kind in
    let b_is : more_closed ≡ closed + cond (closes p.kind) 1 0 = is_closed ∙ ap (λ k. closed + cond (closes k) 1 0) kind in
    let limit : open_count has.list + cond (opens p.kind) 1 0 ≤ (close_count has.list + cond (closes p.kind) 1 0) + depth_limit = omega (arith, fits, a_is, b_is, has.opens_is, has.closes_is) in
    let within : open_count has.list + cond (opens p.kind) 1 0 ≤ close_count has.list + depth_limit =
    room (opens p.kind) (closes p.kind) (open_count has.list) (close_count has.list) (shallow-whole has.list has.run.shallow) limit (opens_no_close p.kind) in
    record {
      list = has.list ++ p ∷ [];
      read = next.further.read has.list has.read;
      run = record {
        taken = λ texts are.
            run-snoc has.list p start (machine_of texts state) (before_it old new state opened closed token texts has next are)
            ∙ ap (step (machine_of texts state)) (sym next.is)
            ∙ steps texts (named old new token texts next are);
        shallow = shallow-snoc has.list p has.run.shallow within;
      };
      opens_is = omega (arith, opened_more, a_is, has.opens_is);
      closes_is = omega (arith, closed_more, b_is, has.closes_is);
      opens_within = omega (arith, size, a_is, at_most_one (opens p.kind), has.opens_within);
      closes_within = omega (arith, size, b_is, at_most_one (closes p.kind), has.closes_within);
    }

-- A token that is not taken.

-- the tokens of the text, and the machine at this one
abbrev reached_at : (old new : Scanner) (state : State) (opened closed : ℕ) (token : Token) → (has : HasTaken old state opened closed) → IsNextToken old new token
    → (later : List TokenModel) → IsReached ((has.list ++ token_of new ∷ []) ++ later) token.span
reached_at old new state opened closed token has next later = record {
  before = has.list;
  token = token_of new;
  behind = later;
  split = append_assoc has.list (token_of new ∷ []) later;
  reached = machine_of (text_in (text_of new)) state;
  takes = before_it old new state opened closed token (text_in (text_of new)) has next (λ range is. refl);
  shallow = has.run.shallow;
  spanned = record { start_is = ap (λ (m : TokenModel). m.start) next.is; stop_is = ap (λ (m : TokenModel). m.stop) next.is };
}

steps_here : (old new : Scanner) (state : State) (token : Token) (after : Texts → Option Machine) → IsNextToken old new token → StepsTo state token after
    → step (machine_of (text_in (text_of new)) state) (token_of new) ≡ after (text_in (text_of new))
steps_here old new state token after next steps =
    ap (step (machine_of (text_in (text_of new)) state)) (sym next.is) ∙ steps (text_in (text_of new)) (named old new token (text_in (text_of new)) next (λ range is. refl))

pub stops_refused : (old new : Scanner) (state : State) (opened closed : ℕ) (token : Token) (text : List ℕ) (result : TextOrSyntaxFault) → text_of new ≡ text
    → HasTaken old state opened closed → IsNextToken old new token → StepsTo state token (λ texts. None)
    → ((list : List TokenModel) → HasRead new list → IsFirstAfter (text_of new) list (SyntaxFault.Unexpected token.span) result)
    → StopsText text result
stops_refused old new state opened closed token text (TextOrSyntaxFault.Text fault) same has next steps first =
    subst (λ (t : List ℕ). IsTextFault t fault) same (first (has.list ++ token_of new ∷ []) (next.further.read has.list has.read))
stops_refused old new state opened closed token text (TextOrSyntaxFault.Syntax fault) same has next steps first = λ known.
    let found = first (has.list ++ token_of new ∷ []) (next.further.read has.list has.read) in
    let refused : RefusesOneOf ((has.list ++ token_of new ∷ []) ++ found.1.later) (SyntaxFault.Unexpected token.span) =
    record { at = reached_at old new state opened closed token has next found.1.later; stuck = steps_here old new state token (λ texts. None) next steps } in
    subst (λ (t : List ℕ). RefusesText t fault) same (record {
      list = (has.list ++ token_of new ∷ []) ++ found.1.later;
      tokens = found.1.tokens;
      refused = subst (λ (f : SyntaxFault). RefusesOneOf ((has.list ++ token_of new ∷ []) ++ found.1.later) f) (sym found.0) refused;
    })

pub stops_too_deep : (old new : Scanner) (state after : State) (opened closed more_opened more_closed : ℕ) (token : Token) (text : List ℕ) (result : TextOrSyntaxFault) → text_of new ≡ text
    → HasTaken old state opened closed → IsNextToken old new token → StepsTo state token (λ texts. Some (machine_of texts after))
    → more_opened ≡ opened + cond (opens token.kind) 1 0 → more_closed ≡ closed + cond (closes token.kind) 1 0 → more_closed + depth_limit < more_opened
    → ((list : List TokenModel) → HasRead new list → IsFirstAfter (text_of new) list (SyntaxFault.TooDeep token.span) result)
    → StopsText text result
stops_too_deep old new state after opened closed more_opened more_closed token text (TextOrSyntaxFault.Text fault) same has next steps is_opened is_closed deep first =
    subst (λ (t : List ℕ). IsTextFault t fault) same (first (has.list ++ token_of new ∷ []) (next.further.read has.list has.read))
stops_too_deep old new state after opened closed more_opened more_closed token text (TextOrSyntaxFault.Syntax fault) same has next steps is_opened is_closed deep first = λ known.
    let p : TokenModel = token_of new in
    let kind : token.kind ≡ p.kind = ap (λ (m : TokenModel). m.kind) next.is in
    let found = first (has.list ++ p ∷ []) (next.further.read has.list has.read) in
    let a_is : more_opened ≡ opened + cond (opens p.kind) 1 0 = is_opened ∙ ap (λ k. opened + cond (opens k) 1 0) kind in
    let b_is : more_closed ≡ closed + cond (closes p.kind) 1 0 = is_closed ∙ ap (λ k. closed + cond (closes k) 1 0) kind in
    let passed : (close_count has.list + cond (closes p.kind) 1 0) + depth_limit < open_count has.list + cond (opens p.kind) 1 0 = omega (arith, deep, a_is, b_is, has.opens_is, has.closes_is) in
    let facts = one_too_many (opens p.kind) (closes p.kind) (open_count has.list) (close_count has.list) (shallow-whole has.list has.run.shallow) passed in
    let refused : RefusesOneOf ((has.list ++ p ∷ []) ++ found.1.later) (SyntaxFault.TooDeep token.span) = record {
      at = reached_at old new state opened closed token has next found.1.later;
      next = machine_of (text_in (text_of new)) after;
      taken = steps_here old new state token (λ texts. Some (machine_of texts after)) next steps;
      opening = facts.0;
      full = facts.1;
    } in
    subst (λ (t : List ℕ). RefusesText t fault) same (record {
      list = (has.list ++ p ∷ []) ++ found.1.later;
      tokens = found.1.tokens;
      refused = subst (λ (f : SyntaxFault). RefusesOneOf ((has.list ++ p ∷ []) ++ found.1.later) f) (sym found.0) refused;
    })

-- The tokens after a fault of the tree.

-- the scanner has read these tokens, and some more
pub record HasLater (scanner : Scanner) (list : List TokenModel) : Type 0 where
  pub later : List TokenModel
  pub read : HasRead scanner (list ++ later)

pub later_none : (scanner : Scanner) (list : List TokenModel) → HasRead scanner list → HasLater scanner list
later_none scanner list read = record { later = []; read = subst (λ (ts : List TokenModel). HasRead scanner ts) (sym (append-nil list)) read }

pub later_more : (old new : Scanner) (list : List TokenModel) → IsFurther old new → HasLater old list → HasLater new list
later_more old new list further has = record {
  later = has.later ++ token_of new ∷ [];
  read = subst (λ (ts : List TokenModel). HasRead new ts) (append_assoc list has.later (token_of new ∷ [])) (further.read (list ++ has.later) has.read);
}

pub later_all : (scanner : Scanner) (list : List TokenModel) (text : List ℕ) → text_of scanner ≡ text → HasLater scanner list
    → ((all : List TokenModel) → HasRead scanner all → IsTokenList (text_of scanner) all) → BeginTokens text list
later_all scanner list text same has all =
    subst (λ (t : List ℕ). BeginTokens t list) same (record { later = has.later; tokens = all (list ++ has.later) has.read })

pub later_fault : (scanner : Scanner) (list : List TokenModel) (text : List ℕ) (fault : TextFault) → text_of scanner ≡ text → HasLater scanner list
    → ((all : List TokenModel) → HasRead scanner all → IsTextFault (text_of scanner) fault) → IsTextFault text fault
later_fault scanner list text fault same has found =
    subst (λ (t : List ℕ). IsTextFault t fault) same (found (list ++ has.later) has.read)

pub taken_fault : (scanner : Scanner) (state : State) (opened closed : ℕ) (text : List ℕ) (fault : TextFault) → text_of scanner ≡ text → HasTaken scanner state opened closed
    → ((all : List TokenModel) → HasRead scanner all → IsTextFault (text_of scanner) fault) → IsTextFault text fault
taken_fault scanner state opened closed text fault same has found =
    subst (λ (t : List ℕ). IsTextFault t fault) same (found has.list has.read)
