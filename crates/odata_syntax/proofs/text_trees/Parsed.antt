-- What a text's run says of its tree, and of its first fault.
use Rattle.std.proofs.Common.{◌≡◌, ◌≢◌, refl, ap, sym, subst, ◌∙◌, ℕ, List, length, None, Some, inl}
use Rattle.odata_text.specs.declared.text_fault.TextFault.{TextFault}
use Rattle.odata_text.specs.TokenModel.{TokenModel}
use Rattle.odata_text.specs.Tokens.{IsOverlong, IsTextFault, IsTokenList}
use Rattle.odata_syntax.specs.declared.parser.state.State.{State}
use Rattle.odata_syntax.specs.declared.parser.text_parser.TextOrSyntaxFault.{TextOrSyntaxFault}
use Rattle.odata_syntax.specs.declared.syntax_fault.SyntaxFault.{SyntaxFault}
use Rattle.odata_syntax.specs.Grammar.{Derives, or_level}
use Rattle.odata_syntax.specs.Parse.{IsParse}
use Rattle.odata_syntax.specs.PostOrder.{IsWholeTree, Texts}
use Rattle.odata_syntax.specs.TextTree.{AreTextRanges, HasNoTree, HasSyntaxFault, HasTree, IsFirstFault, listed_tree, text_in}
use Rattle.odata_syntax.specs.Tree.{Tree}
use Rattle.odata_syntax.specs.private.ListSteps.{read_tree}
use Rattle.odata_syntax.specs.private.Machine.{Machine, finish, run, start}
use Rattle.odata_syntax.specs.private.MachineView.{machine_of}
use Rattle.odata_syntax.specs.private.TextParser.{RefusesText, StopsText, TakesText}
use Rattle.odata_syntax.proofs.machine.Fronts.{run_only, run_parsed, stuck_fault, stuck_none, unended_fault, unended_none}
use Rattle.odata_syntax.proofs.text_trees.Ranges.{text_ranges}

-- a text has one token list at most, and no fault beside it
pub record IsOneReading (text : List ℕ) : Type 0 where
  pub list : (first second : List TokenModel) → IsTokenList text first → IsTokenList text second → first ≡ second
  pub not_both : (fault : TextFault) (list : List TokenModel) → IsTextFault text fault → IsTokenList text list → ⊥

-- The tree.

-- the machine has taken all tokens, and its end is this tree, whatever is said of ranges that it does not read
pub record IsTaken (text : List ℕ) (before after : State) : Type 0 where
  pub takes : TakesText text before
  pub ends : (texts : Texts) → finish (machine_of texts before) ≡ Some (read_tree texts after)

pub parsed_tree : (text : List ℕ) (before after : State) → IsTaken text before after → HasTree text (listed_tree text after.nodes.items)
parsed_tree text before after is = record {
  models = is.takes.list;
  tokens = is.takes.tokens;
  parse = run_parsed is.takes.list (machine_of (text_in text) before) (read_tree (text_in text) after)
      (is.takes.run.taken (text_in text) (λ range there. refl)) (is.ends (text_in text)) is.takes.run.shallow;
}

pub parsed_only : (text : List ℕ) (before after : State) → IsOneReading text → IsTaken text before after
    → (tree : Tree) → HasTree text tree → tree ≡ listed_tree text after.nodes.items
parsed_only text before after one is tree has =
    let same : has.models ≡ is.takes.list = one.list has.models is.takes.list has.tokens is.takes.tokens in
    run_only is.takes.list (machine_of (text_in text) before) (read_tree (text_in text) after)
    (is.takes.run.taken (text_in text) (λ range there. refl)) (is.ends (text_in text)) tree
    (subst (λ (ts : List TokenModel). Derives or_level ts tree) same has.parse.derived)

some_machine : (m n : Machine) → Some m ≡ Some n → m ≡ n
some_machine m n is = cc

some_tree : (t u : Tree) → Some t ≡ Some u → t ≡ u
some_tree t u is = cc

pub parsed_ranges : (text : List ℕ) (before after : State) → IsTaken text before after → IsWholeTree after.nodes.items → AreTextRanges text after.nodes.items
parsed_ranges text before after is whole = text_ranges text after.nodes.items whole (λ texts are.
    let machine : machine_of texts before ≡ machine_of (text_in text) before =
    some_machine (machine_of texts before) (machine_of (text_in text) before) (sym (is.takes.run.taken texts are) ∙ is.takes.run.taken (text_in text) (λ range there. refl)) in
    some_tree (read_tree texts after) (read_tree (text_in text) after) (sym (is.ends texts) ∙ ap finish machine ∙ is.ends (text_in text)))

-- The first fault.

pub overlong_fault : (text : List ℕ) (fault : TextFault) → IsOverlong text fault → IsFirstFault text (TextOrSyntaxFault.Text fault)
overlong_fault text fault long = inl long

pub overlong_none : (text : List ℕ) (fault : TextFault) → IsOneReading text → IsOverlong text fault → HasNoTree text
overlong_none text fault one long tree has = one.not_both fault has.models (inl long) has.tokens

pub stops_fault : (text : List ℕ) (fault : TextOrSyntaxFault) → StopsText text fault → IsFirstFault text fault
stops_fault text (TextOrSyntaxFault.Text fault) stops = stops
stops_fault text (TextOrSyntaxFault.Syntax fault) stops = λ known.
    let refuses = stops known in
    record { models = refuses.list; tokens = refuses.tokens; fault_of = stuck_fault refuses.list (length text) fault refuses.refused known }

pub stops_none : (text : List ℕ) (fault : TextOrSyntaxFault) → IsOneReading text → StopsText text fault → fault ≢ TextOrSyntaxFault.Syntax SyntaxFault.Memory → HasNoTree text
stops_none text (TextOrSyntaxFault.Text fault) one stops known tree has = one.not_both fault has.models stops has.tokens
stops_none text (TextOrSyntaxFault.Syntax fault) one stops known tree has =
    let other : fault ≢ SyntaxFault.Memory = λ is. known (ap TextOrSyntaxFault.Syntax is) in
    let refuses = stops other in
    let same : has.models ≡ refuses.list = one.list has.models refuses.list has.tokens refuses.tokens in
    stuck_none refuses.list fault refuses.refused other tree (subst (λ (ts : List TokenModel). IsParse ts tree) same has.parse)

-- one more token is wanted after the last
abbrev unended_at : List ℕ → SyntaxFault
unended_at text = SyntaxFault.Unexpected (record { start = length text; stop = length text })

pub unended_text : (text : List ℕ) (before : State) → TakesText text before → finish (machine_of (text_in text) before) ≡ None → IsFirstFault text (TextOrSyntaxFault.Syntax (unended_at text))
unended_text text before takes ends = λ known. record {
  models = takes.list;
  tokens = takes.tokens;
  fault_of = unended_fault takes.list (machine_of (text_in text) before) (length text) (unended_at text)
      (takes.run.taken (text_in text) (λ range there. refl)) takes.run.shallow (refl, refl, ends) known;
}

pub unended_no_tree : (text : List ℕ) (before : State) → IsOneReading text → TakesText text before → finish (machine_of (text_in text) before) ≡ None → HasNoTree text
unended_no_tree text before one takes ends tree has =
    let same : has.models ≡ takes.list = one.list has.models takes.list has.tokens takes.tokens in
    unended_none takes.list (machine_of (text_in text) before) (length text) (unended_at text)
    (takes.run.taken (text_in text) (λ range there. refl)) takes.run.shallow (refl, refl, ends) (λ is. absurd (cc)) tree
    (subst (λ (ts : List TokenModel). IsParse ts tree) same has.parse)
