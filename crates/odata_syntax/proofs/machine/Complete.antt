-- What the grammar derives, the machine takes.
use Rattle.std.proofs.Common.{◌≡◌, ◌≢◌, refl, ap, ◌∙◌, ℕ, suc, ◌≤◌, List, [], ◌∷◌, ◌++◌, Bool, true, false, cond, Option, Some, arith, append_assoc}
use Rattle.std.specs.Prelude.{nat_le, codes}
use Rattle.std.proofs.lemmas.Bool.{le-leb}
use Rattle.odata_syntax.specs.declared.node.LiteralKind.{LiteralKind}
use Rattle.odata_syntax.specs.declared.node.Quantifier.{Quantifier}
use Rattle.odata_text.specs.declared.token.TokenKind.{TokenKind}
use Rattle.odata_syntax.specs.declared.parser.operand.Start.{Start}
use Rattle.odata_syntax.specs.declared.parser.next_operator.Next.{Next}
use Rattle.odata_syntax.specs.declared.parser.path.Segment.{Segment}
use Rattle.odata_text.specs.TokenModel.{TokenModel}
use Rattle.odata_syntax.specs.Tree.{Tree, Trees, any_item, call, count, in_list, it, lambda, literal, member, more_trees, name, no_trees, node, shape_of, start_of, trees_of_list}
use Rattle.odata_syntax.specs.Spans.{list_of_trees}
use Rattle.odata_syntax.specs.Lexeme.{IsA, IsName, IsQuantifier, IsVariable, SpellsDollar}
use Rattle.odata_syntax.specs.Grammar.{Derives, DerivesFurther, DerivesItems, Level, base_level, binary_tree, derives_any_item, derives_binary, derives_call, derives_count, derives_group, derives_has, derives_in_list, derives_in_path, derives_it, derives_lambda, derives_literal, derives_member, derives_name, derives_negation, derives_not, function_name, has_tree, in_path_tree, looser, negation_tree, no_further, no_items, not_tree, one_further, open_path_level, operator_level, or_level, path_level, primary_level, some_items, token_tree, tree_between, tree_to, unary_level}
use Rattle.odata_syntax.specs.private.Machine.{Enclosure, Expected, Machine, Operation, Waiting, arguments_from, binary_behind, body_behind, close_empty, closed, colon, comma_at, enclosure, enclosure_tree, expected_level, finish, finish_reduced, group_from, has_behind, in_behind, items_behind, join_operation, machine_at, member_or_lambda, minus_from, name_or_call, next_level, next_of_kind, not_from, open_at, operand, operation, operation_level, path, reduce, reduction_at, run, segment, segment_of_kind, start, start_of_kind, step_at, take_behind_name, take_behind_word, take_colon, take_reduced, take_segment, take_sign, take_start, take_variable, variable, word_segment}
use Rattle.odata_syntax.proofs.machine.Run.{run_cons, run_one, run_then}
use Rattle.odata_syntax.proofs.machine.Lexemes.{close_found, comma_found, count_found, end_found, has_found, in_found, it_found, literal_found, minus_found, name_found, not_found, open_found, operator_found, quantifier_found, word_segment_found}
use Rattle.odata_syntax.proofs.machine.Stacks.{trees_of_list-of_trees}
use Rattle.odata_syntax.proofs.machine.Reading.{IsPathRead, IsRead, closed_read, held_at, open_name, open_path, open_word, operator_level-bounds, path_is_read, read_finish, read_step, reduce-held, reduce-joined, slash_step}

-- Paths: where an operand is expected, the machine takes one and waits for as much as before.
record PathCompletes (ts : List TokenModel) (tree : Tree) (ws : List Waiting) : Type 0 where
  ended : Expected
  taken : run ts (machine_at ws operand) ≡ Some (machine_at ws ended)
  read : IsPathRead ended tree

-- after a start
start_taken : (ws : List Waiting) (p : TokenModel) (s : Start) (next : Option Machine) → start_of_kind p.kind p.text ≡ Some s → take_start ws p (Some s) ≡ next → run (p ∷ []) (machine_at ws operand) ≡ next
start_taken ws p s next found e = run_one p (machine_at ws operand) ∙ ap (λ o. take_start ws p o) found ∙ e

pub name_stage : (b : Bool) (p : TokenModel) → IsPathRead (cond b (name_or_call p.start p.stop p.text) (path (token_tree p (name p.text)))) (token_tree p (name p.text))
name_stage true p = open_name
name_stage false p = open_path

-- after a segment that is a word
word_stage : Segment → TokenModel → Tree → Expected
word_stage Segment.Count p base = closed (tree_to base p (count base))
word_stage (Segment.Lambda quantifier) p base = member_or_lambda quantifier base p.stop p.text
word_stage Segment.Name p base = path (tree_to base p (member base p.text))

segment_taken : (ws : List Waiting) (p : TokenModel) (base : Tree) (s : Segment) → take_segment ws base p (Some s) ≡ Some (machine_at ws (word_stage s p base))
unfolding word_stage
segment_taken ws p base Segment.Count = refl
segment_taken ws p base (Segment.Lambda quantifier) = refl
segment_taken ws p base Segment.Name = refl

word_is_read : (b c : Bool) (p : TokenModel) (base : Tree) → IsPathRead (word_stage (cond b (Segment.Lambda Quantifier.Any) (cond c (Segment.Lambda Quantifier.All) Segment.Name)) p base) (tree_to base p (member base p.text))
unfolding word_stage
word_is_read true c p base = open_word
word_is_read false true p base = open_word
word_is_read false false p base = open_path

member_is_read : (p : TokenModel) (base : Tree) → IsPathRead (word_stage (word_segment p.text) p base) (tree_to base p (member base p.text))
unfolding word_segment
member_is_read p base = word_is_read _ _ p base

-- a path, then `/`
record SlashTaken (bs : List TokenModel) (slash : TokenModel) (base : Tree) (ws : List Waiting) : Type 0 where
  taken : (ps : List TokenModel) (next : Option Machine) → run ps (machine_at ws (segment base)) ≡ next → run (bs ++ (slash ∷ ps)) (machine_at ws operand) ≡ next

slash_taken : (bs : List TokenModel) (slash : TokenModel) (base : Tree) (ws : List Waiting) → PathCompletes bs base ws → IsA TokenKind.Slash slash → SlashTaken bs slash base ws
slash_taken bs slash base ws p a =
    record {
      taken = λ ps next e.
          run_then bs (slash ∷ ps) (machine_at ws operand) (machine_at ws p.ended) next p.taken
          (run_cons slash ps (machine_at ws p.ended) (machine_at ws (segment base)) next (slash_step p.read ws slash a.of_kind) e);
    }

-- a segment after it
segment_step : (ws : List Waiting) (p : TokenModel) (base : Tree) (s : Segment) → segment_of_kind p.kind p.text ≡ Some s → step_at (segment base) ws p ≡ Some (machine_at ws (word_stage s p base))
segment_step ws p base s found = ap (λ o. take_segment ws base p o) found ∙ segment_taken ws p base s

member_step : (ws : List Waiting) (p : TokenModel) (base : Tree) → IsA TokenKind.Word p → step_at (segment base) ws p ≡ Some (machine_at ws (word_stage (word_segment p.text) p base))
member_step ws p base a = segment_step ws p base (word_segment p.text) (word_segment_found a)

complete_path : {level : Level} {ts : List TokenModel} {tree : Tree} → Derives level ts tree → (ws : List Waiting) → open_path_level ≤ level → PathCompletes ts tree ws
complete_path (looser d) ws le = complete_path d ws (omega arith)
complete_path (derives_binary {operator = operator} dl o dr) ws le = let bounds = operator_level-bounds operator in absurd (omega arith)
complete_path (derives_it {t = t} i) ws le =
    record { ended = path (token_tree t it); taken = start_taken ws t Start.It (Some (machine_at ws (path (token_tree t it)))) (it_found i) refl; read = open_path }
complete_path (derives_name {t = t} n) ws le =
    let stage : Expected = cond (nat_le (expected_level ws) base_level) (name_or_call t.start t.stop t.text) (path (token_tree t (name t.text))) in
    record {
      ended = stage;
      taken = start_taken ws t Start.Name (Some (machine_at ws stage)) (name_found n) refl;
      read = name_stage (nat_le (expected_level ws) base_level) t;
    }
complete_path (derives_member {bs = bs} {slash = slash} {t = t} {base = base} d s a) ws le =
    let first = complete_path d ws (omega arith) in
    let behind = slash_taken bs slash base ws first s in
    let stage : Expected = word_stage (word_segment t.text) t base in
    record {
      ended = stage;
      taken = behind.taken (t ∷ []) (Some (machine_at ws stage)) (run_one t (machine_at ws (segment base)) ∙ member_step ws t base a);
      read = member_is_read t base;
    }
complete_path _ ws le = absurd (omega arith)

-- Expressions: where an operand of this level is expected, the machine takes the tokens, and to any looser operator it
-- is then as if the tree had just been read.
record Completes (level : Level) (ts : List TokenModel) (tree : Tree) (ws : List Waiting) : Type 0 where
  waits : List Waiting
  ended : Expected
  grown : Tree
  taken : run ts (machine_at ws operand) ≡ Some (machine_at waits ended)
  read : IsRead ended grown
  same : (looser_level : ℕ) → looser_level ≤ level → reduce looser_level waits grown ≡ reduce looser_level ws tree

path_completes : (level : Level) (ts : List TokenModel) (tree : Tree) (ws : List Waiting) → PathCompletes ts tree ws → Completes level ts tree ws
path_completes level ts tree ws p =
    record { waits = ws; ended = p.ended; grown = tree; taken = p.taken; read = path_is_read p.read; same = λ q le. refl }

closed_completes : (level : Level) (ts : List TokenModel) (tree : Tree) (ws : List Waiting) → run ts (machine_at ws operand) ≡ Some (machine_at ws (closed tree)) → Completes level ts tree ws
closed_completes level ts tree ws taken =
    record { waits = ws; ended = closed tree; grown = tree; taken = taken; read = closed_read; same = λ q le. refl }

-- a left operand, and what follows it
left_taken : (ls : List TokenModel) (t : TokenModel) (left : Tree) (ws : List Waiting) (next : Next) → Completes (next_level next) ls left ws → expected_level ws ≤ next_level next → next_level next ≢ unary_level → next_of_kind t.kind t.text ≡ Some next → (k : Machine) → take_reduced next (reduction_at ws left) t.stop ≡ Some k → (rs : List TokenModel) (end : Option Machine) → run rs k ≡ end → run (ls ++ (t ∷ rs)) (machine_at ws operand) ≡ end
left_taken ls t left ws next first held apart found k e rs end rest =
    let level : Level = next_level next in
    let reduced : reduce level first.waits first.grown ≡ reduction_at ws left = first.same level (omega arith) ∙ reduce-held level ws left (held_at level ws held apart) in
    let here : step_at first.ended first.waits t ≡ Some k = read_step first.read first.waits t next found ∙ ap (λ r. take_reduced next r t.stop) reduced ∙ e in
    run_then ls (t ∷ rs) (machine_at ws operand) (machine_at first.waits first.ended) end first.taken (run_cons t rs (machine_at first.waits first.ended) k end here rest)

-- an operation whose left operand has been read, and its right one
operation_completes : (level right_level : Level) (ls rs : List TokenModel) (t : TokenModel) (right whole : Tree) (ws : List Waiting) (w : Operation) → level ≤ operation_level w → level ≤ right_level → (second : Completes right_level rs right (operation w ∷ ws)) → run (ls ++ (t ∷ rs)) (machine_at ws operand) ≡ Some (machine_at second.waits second.ended) → join_operation w right ≡ whole → Completes level (ls ++ (t ∷ rs)) whole ws
operation_completes level right_level ls rs t right whole ws w within tighter second taken joined =
    record {
      waits = second.waits;
      ended = second.ended;
      grown = second.grown;
      taken = taken;
      read = second.read;
      same = λ q le.
          second.same q (omega arith) ∙ reduce-joined q w ws right (omega arith) ∙ ap (λ k. reduce q ws k) joined;
    }

-- what stands in parentheses, and `)`
close_taken : (ts : List TokenModel) (last : TokenModel) (e : Enclosure) (ws : List Waiting) (tree : Tree) → Completes or_level ts tree (enclosure e ∷ ws) → IsA TokenKind.Close last → run (ts ++ (last ∷ [])) (machine_at (enclosure e ∷ ws) operand) ≡ Some (machine_at ws (closed (enclosure_tree e tree last.stop)))
close_taken ts last e ws tree inner a =
    let reduced : reduce or_level inner.waits inner.grown ≡ reduction_at (enclosure e ∷ ws) tree = inner.same or_level (omega arith) in
    let end : Option Machine = Some (machine_at ws (closed (enclosure_tree e tree last.stop))) in
    let here : step_at inner.ended inner.waits last ≡ end = read_step inner.read inner.waits last Next.Close (end_found a) ∙ ap (λ r. take_reduced Next.Close r last.stop) reduced in
    run_then ts (last ∷ []) (machine_at (enclosure e ∷ ws) operand) (machine_at inner.waits inner.ended) end inner.taken (run_one last (machine_at inner.waits inner.ended) ∙ here)

-- what goes before items: a list and a call go on alike
record ItemForm : Type 0 where
  opened : List Tree → Enclosure
  whole : Trees → ℕ → Tree
  comma : (xs : List Tree) (ws : List Waiting) (tree : Tree) → comma_at (enclosure (opened xs) ∷ ws) tree ≡ Some (machine_at (enclosure (opened (xs ++ (tree ∷ []))) ∷ ws) operand)
  close : (xs : List Tree) (tree : Tree) (stop : ℕ) → enclosure_tree (opened xs) tree stop ≡ whole (trees_of_list (xs ++ (tree ∷ []))) stop
  empty : (ws : List Waiting) (stop : ℕ) → close_empty (enclosure (opened []) ∷ ws) stop ≡ Some (machine_at ws (closed (whole no_trees stop)))

abbrev list_form : Tree → ItemForm
list_form left =
    record {
      opened = λ xs. items_behind left xs;
      whole = λ items stop. node (start_of left) stop (in_list left items);
      comma = λ xs ws tree. refl;
      close = λ xs tree stop. refl;
      empty = λ ws stop. refl;
    }

abbrev call_form : ℕ → List ℕ → ItemForm
call_form place text =
    record {
      opened = λ xs. arguments_from place text xs;
      whole = λ items stop. node place stop (call text items);
      comma = λ xs ws tree. refl;
      close = λ xs tree stop. refl;
      empty = λ ws stop. refl;
    }

-- further items after those that have been read
FurtherCompletes : List TokenModel → Trees → Type 0
FurtherCompletes rs rest =
    (f : ItemForm) (ws : List Waiting) (xs : List Tree) (tree : Tree) (waits : List Waiting) (ended : Expected) (grown : Tree)
    → IsRead ended grown
    → reduce or_level waits grown ≡ reduction_at (enclosure (f.opened xs) ∷ ws) tree
    → (last : TokenModel) → IsA TokenKind.Close last
    → run (rs ++ (last ∷ [])) (machine_at waits ended) ≡ Some (machine_at ws (closed (f.whole (trees_of_list (xs ++ (tree ∷ list_of_trees rest))) last.stop)))

no_further_completes : FurtherCompletes [] no_trees
unfolding FurtherCompletes
no_further_completes f ws xs tree waits ended grown read reduced last a =
    let end : Machine = machine_at ws (closed (enclosure_tree (f.opened xs) tree last.stop)) in
    let here : step_at ended waits last ≡ Some end = read_step read waits last Next.Close (end_found a) ∙ ap (λ r. take_reduced Next.Close r last.stop) reduced in
    run_one last (machine_at waits ended) ∙ here ∙ ap (λ k. Some (machine_at ws (closed k))) (f.close xs tree last.stop)

further_completes : (comma : TokenModel) (ts rs : List TokenModel) (next : Tree) (rest : Trees) → IsA TokenKind.Comma comma → ((ws : List Waiting) → expected_level ws ≤ or_level → Completes or_level ts next ws) → FurtherCompletes rs rest → FurtherCompletes (comma ∷ (ts ++ rs)) (more_trees next rest)
unfolding FurtherCompletes
further_completes comma ts rs next rest c item later f ws xs tree waits ended grown read reduced last a =
    let ys : List Tree = xs ++ (tree ∷ []) in
    let opened : Machine = machine_at (enclosure (f.opened ys) ∷ ws) operand in
    let here : step_at ended waits comma ≡ Some opened = read_step read waits comma Next.Comma (comma_found c) ∙ ap (λ r. take_reduced Next.Comma r comma.stop) reduced ∙ f.comma xs ws tree in
    let inner = item (enclosure (f.opened ys) ∷ ws) (omega arith) in
    let end : Tree = f.whole (trees_of_list (ys ++ (next ∷ list_of_trees rest))) last.stop in
    let rest_taken = later f ws ys next inner.waits inner.ended inner.grown inner.read (inner.same or_level (omega arith)) last a in
    let both : run (ts ++ (rs ++ (last ∷ []))) opened ≡ Some (machine_at ws (closed end)) = run_then ts (rs ++ (last ∷ [])) opened (machine_at inner.waits inner.ended) (Some (machine_at ws (closed end))) inner.taken rest_taken in
    let joined : (ts ++ rs) ++ (last ∷ []) ≡ ts ++ (rs ++ (last ∷ [])) = append_assoc ts rs (last ∷ []) in
    let all : run ((ts ++ rs) ++ (last ∷ [])) opened ≡ Some (machine_at ws (closed end)) = ap (λ k. run k opened) joined ∙ both in
    run_cons comma ((ts ++ rs) ++ (last ∷ [])) (machine_at waits ended) opened (Some (machine_at ws (closed end))) here all
    ∙ ap (λ k. Some (machine_at ws (closed (f.whole (trees_of_list k) last.stop)))) (append_assoc xs (tree ∷ []) (next ∷ list_of_trees rest))

-- items in parentheses
ItemsComplete : List TokenModel → Trees → Type 0
ItemsComplete is items =
    (f : ItemForm) (ws : List Waiting) (last : TokenModel) → IsA TokenKind.Close last
    → run (is ++ (last ∷ [])) (machine_at (enclosure (f.opened []) ∷ ws) operand) ≡ Some (machine_at ws (closed (f.whole items last.stop)))

items_at : (is : List TokenModel) (items : Trees) → ItemsComplete is items → (f : ItemForm) (ws : List Waiting) (last : TokenModel) → IsA TokenKind.Close last → run (is ++ (last ∷ [])) (machine_at (enclosure (f.opened []) ∷ ws) operand) ≡ Some (machine_at ws (closed (f.whole items last.stop)))
unfolding ItemsComplete
items_at is items c = c

no_items_complete : ItemsComplete [] no_trees
unfolding ItemsComplete
no_items_complete f ws last a = start_taken (enclosure (f.opened []) ∷ ws) last Start.Close (Some (machine_at ws (closed (f.whole no_trees last.stop)))) (close_found a) (f.empty ws last.stop)

items_complete : (ts rs : List TokenModel) (tree : Tree) (rest : Trees) → ((ws : List Waiting) → expected_level ws ≤ or_level → Completes or_level ts tree ws) → FurtherCompletes rs rest → ItemsComplete (ts ++ rs) (more_trees tree rest)
unfolding FurtherCompletes ItemsComplete
items_complete ts rs tree rest item later f ws last a =
    let opened : Machine = machine_at (enclosure (f.opened []) ∷ ws) operand in
    let inner = item (enclosure (f.opened []) ∷ ws) (omega arith) in
    let rest_taken = later f ws [] tree inner.waits inner.ended inner.grown inner.read (inner.same or_level (omega arith)) last a in
    let end : Option Machine = Some (machine_at ws (closed (f.whole (trees_of_list (tree ∷ list_of_trees rest)) last.stop))) in
    let both : run (ts ++ (rs ++ (last ∷ []))) opened ≡ end = run_then ts (rs ++ (last ∷ [])) opened (machine_at inner.waits inner.ended) end inner.taken rest_taken in
    ap (λ k. run k opened) (append_assoc ts rs (last ∷ [])) ∙ both ∙ ap (λ k. Some (machine_at ws (closed (f.whole (more_trees tree k) last.stop)))) (trees_of_list-of_trees rest)

-- `(` where an operand without operators is expected
group_opened : (ws : List Waiting) (place : ℕ) → expected_level ws ≤ base_level → open_at ws place ≡ enclosure (group_from place) ∷ ws
group_opened [] place h = refl
group_opened (operation (in_behind left) ∷ below) place h = absurd (omega arith)
group_opened (operation (binary_behind operator left) ∷ below) place h = refl
group_opened (operation (has_behind left) ∷ below) place h = refl
group_opened (operation (minus_from from) ∷ below) place h = refl
group_opened (operation (not_from from) ∷ below) place h = refl
group_opened (enclosure e ∷ below) place h = refl

open_taken : (ws : List Waiting) (first : TokenModel) (ps : List TokenModel) (end : Option Machine) → IsA TokenKind.Open first → run ps (machine_at (open_at ws first.start) operand) ≡ end → run (first ∷ ps) (machine_at ws operand) ≡ end
open_taken ws first ps end a rest =
    run_cons first ps (machine_at ws operand) (machine_at (open_at ws first.start) operand) end (ap (λ o. take_start ws first o) (open_found a)) rest

group_taken : (ws : List Waiting) (first last : TokenModel) (ts : List TokenModel) (tree : Tree) → expected_level ws ≤ base_level → IsA TokenKind.Open first → IsA TokenKind.Close last → Completes or_level ts tree (enclosure (group_from first.start) ∷ ws) → run (first ∷ (ts ++ (last ∷ []))) (machine_at ws operand) ≡ Some (machine_at ws (closed (node first.start last.stop (shape_of tree))))
group_taken ws first last ts tree h a b inner =
    let end : Option Machine = Some (machine_at ws (closed (node first.start last.stop (shape_of tree)))) in
    let opened : run (ts ++ (last ∷ [])) (machine_at (open_at ws first.start) operand) ≡ end = ap (λ k. run (ts ++ (last ∷ [])) (machine_at k operand)) (group_opened ws first.start h) ∙ close_taken ts last (group_from first.start) ws tree inner b in
    open_taken ws first (ts ++ (last ∷ [])) end a opened

-- a name and `(`
call_taken : (ws : List Waiting) (t first : TokenModel) (ps : List TokenModel) (end : Option Machine) → expected_level ws ≤ base_level → IsName t → IsA TokenKind.Open first → run ps (machine_at (enclosure (arguments_from t.start (function_name t) []) ∷ ws) operand) ≡ end → run (t ∷ (first ∷ ps)) (machine_at ws operand) ≡ end
call_taken ws t first ps end h n a rest =
    let stage : Expected = name_or_call t.start t.stop t.text in
    let named : Machine = machine_at ws stage in
    let opened : Machine = machine_at (enclosure (arguments_from t.start (function_name t) []) ∷ ws) operand in
    let here : take_start ws t (Some Start.Name) ≡ Some named = rw (le-leb (expected_level ws) base_level h) refl in
    let there : step_at stage ws first ≡ Some opened = ap (λ k. take_behind_name ws t.start t.stop t.text first k) a.of_kind in
    run_cons t (first ∷ ps) (machine_at ws operand) named end (ap (λ o. take_start ws t o) (name_found n) ∙ here) (run_cons first ps named opened end there rest)

-- a sign
sign_taken : (ws : List Waiting) (t : TokenModel) (s : Start) (w : Operation) → start_of_kind t.kind t.text ≡ Some s → take_start ws t (Some s) ≡ take_sign ws w → expected_level ws ≤ unary_level → (ps : List TokenModel) (end : Option Machine) → run ps (machine_at (operation w ∷ ws) operand) ≡ end → run (t ∷ ps) (machine_at ws operand) ≡ end
sign_taken ws t s w found is_sign h ps end rest =
    let pushed : take_sign ws w ≡ Some (machine_at (operation w ∷ ws) operand) = rw (le-leb (expected_level ws) unary_level h) refl in
    run_cons t ps (machine_at ws operand) (machine_at (operation w ∷ ws) operand) end (ap (λ o. take_start ws t o) found ∙ is_sign ∙ pushed) rest

sign_completes : (ws : List Waiting) (t : TokenModel) (ts : List TokenModel) (child whole : Tree) (w : Operation) → unary_level ≤ operation_level w → (inner : Completes unary_level ts child (operation w ∷ ws)) → run (t ∷ ts) (machine_at ws operand) ≡ Some (machine_at inner.waits inner.ended) → join_operation w child ≡ whole → Completes unary_level (t ∷ ts) whole ws
sign_completes ws t ts child whole w within inner taken joined =
    record {
      waits = inner.waits;
      ended = inner.ended;
      grown = inner.grown;
      taken = taken;
      read = inner.read;
      same = λ q le. inner.same q le ∙ reduce-joined q w ws child (omega arith) ∙ ap (λ k. reduce q ws k) joined;
    }

literal_taken : (ws : List Waiting) (t : TokenModel) (kind : LiteralKind) → expected_level ws ≤ base_level → start_of_kind t.kind t.text ≡ Some (Start.Lit kind) → run (t ∷ []) (machine_at ws operand) ≡ Some (machine_at ws (closed (token_tree t (literal kind t.text))))
literal_taken ws t kind h found =
    start_taken ws t (Start.Lit kind) (Some (machine_at ws (closed (token_tree t (literal kind t.text))))) found (rw (le-leb (expected_level ws) base_level h) refl)

-- the ends of a path
count_taken : (ws : List Waiting) (t : TokenModel) (base : Tree) → SpellsDollar (codes "$count") t → run (t ∷ []) (machine_at ws (segment base)) ≡ Some (machine_at ws (closed (tree_to base t (count base))))
count_taken ws t base d = run_one t (machine_at ws (segment base)) ∙ ap (λ o. take_segment ws base t o) (count_found d)

quantifier_taken : (ws : List Waiting) (quantifier : Quantifier) (t first : TokenModel) (base : Tree) (ps : List TokenModel) (end : Option Machine) → IsQuantifier quantifier t → IsA TokenKind.Open first → run ps (machine_at ws (variable quantifier base)) ≡ end → run (t ∷ (first ∷ ps)) (machine_at ws (segment base)) ≡ end
quantifier_taken ws quantifier t first base ps end q a rest =
    let stage : Expected = member_or_lambda quantifier base t.stop t.text in
    let there : step_at stage ws first ≡ Some (machine_at ws (variable quantifier base)) = ap (λ k. take_behind_word ws quantifier base t.stop t.text first k) a.of_kind in
    run_cons t (first ∷ ps) (machine_at ws (segment base)) (machine_at ws stage) end (ap (λ o. take_segment ws base t o) (quantifier_found q)) (run_cons first ps (machine_at ws stage) (machine_at ws (variable quantifier base)) end there rest)

any_item_taken : (ws : List Waiting) (last : TokenModel) (base : Tree) → IsA TokenKind.Close last → run (last ∷ []) (machine_at ws (variable Quantifier.Any base)) ≡ Some (machine_at ws (closed (tree_to base last (any_item base))))
any_item_taken ws last base b = run_one last (machine_at ws (variable Quantifier.Any base)) ∙ ap (λ k. take_variable ws Quantifier.Any base last k) b.of_kind

word_taken : (ws : List Waiting) (quantifier : Quantifier) (base : Tree) (v : TokenModel) → IsVariable v → take_variable ws quantifier base v TokenKind.Word ≡ Some (machine_at ws (colon quantifier base v.text))
word_taken ws quantifier base v i = rw i.undotted refl

variable_taken : (ws : List Waiting) (quantifier : Quantifier) (base : Tree) (v c : TokenModel) (ps : List TokenModel) (end : Option Machine) → IsVariable v → IsA TokenKind.Colon c → run ps (machine_at (enclosure (body_behind quantifier base v.text) ∷ ws) operand) ≡ end → run (v ∷ (c ∷ ps)) (machine_at ws (variable quantifier base)) ≡ end
variable_taken ws quantifier base v c ps end i a rest =
    let bound : Machine = machine_at ws (colon quantifier base v.text) in
    let opened : Machine = machine_at (enclosure (body_behind quantifier base v.text) ∷ ws) operand in
    let here : step_at (variable quantifier base) ws v ≡ Some bound = ap (λ k. take_variable ws quantifier base v k) i.of_kind ∙ word_taken ws quantifier base v i in
    let there : step_at (colon quantifier base v.text) ws c ≡ Some opened = ap (λ k. take_colon ws quantifier base v.text k) a.of_kind in
    run_cons v (c ∷ ps) (machine_at ws (variable quantifier base)) bound end here (run_cons c ps bound opened end there rest)

mutual
  complete : {level : Level} {ts : List TokenModel} {tree : Tree} → Derives level ts tree → (ws : List Waiting) → expected_level ws ≤ level → Completes level ts tree ws
  complete (looser {level = level} d) ws held =
      let inner = complete d ws (omega arith) in
      record { waits = inner.waits; ended = inner.ended; grown = inner.grown; taken = inner.taken; read = inner.read; same = λ q le. inner.same q (omega arith) }
  complete (derives_binary {operator = operator} {ls = ls} {rs = rs} {t = t} {left = left} {right = right} dl o dr) ws held =
      let bounds = operator_level-bounds operator in
      let w : Operation = binary_behind operator left in
      let second = complete dr (operation w ∷ ws) (omega arith) in
      operation_completes (operator_level operator) (suc (operator_level operator)) ls rs t right (binary_tree operator left right) ws w (omega arith) (omega arith) second
      (left_taken ls t left ws (Next.Operator operator) (complete dl ws held) held (λ e. absurd (omega arith)) (operator_found o) (machine_at (operation w ∷ ws) operand) refl rs (Some (machine_at second.waits second.ended)) second.taken)
      refl
  complete (derives_negation {t = t} {ts = ts} {operand = child} a d) ws held =
      let w : Operation = minus_from t.start in
      let inner = complete d (operation w ∷ ws) (omega arith) in
      sign_completes ws t ts child (negation_tree t child) w (omega arith) inner (sign_taken ws t Start.Minus w (minus_found a) refl held ts (Some (machine_at inner.waits inner.ended)) inner.taken) refl
  complete (derives_not {t = t} {ts = ts} {operand = child} s d) ws held =
      let w : Operation = not_from t.start in
      let inner = complete d (operation w ∷ ws) (omega arith) in
      sign_completes ws t ts child (not_tree t child) w (omega arith) inner (sign_taken ws t Start.Not w (not_found s) refl held ts (Some (machine_at inner.waits inner.ended)) inner.taken) refl
  complete (derives_has {ls = ls} {rs = rs} {t = t} {left = left} {right = right} dl s dr) ws held =
      let w : Operation = has_behind left in
      let second = complete dr (operation w ∷ ws) (omega arith) in
      operation_completes primary_level base_level ls rs t right (has_tree left right) ws w (omega arith) (omega arith) second
      (left_taken ls t left ws Next.Has (complete dl ws held) held (λ e. absurd (omega arith)) (has_found s) (machine_at (operation w ∷ ws) operand) refl rs (Some (machine_at second.waits second.ended)) second.taken)
      refl
  complete (derives_in_path {ls = ls} {rs = rs} {t = t} {left = left} {path = right} dl s dr) ws held =
      let w : Operation = in_behind left in
      let second = complete dr (operation w ∷ ws) (omega arith) in
      operation_completes primary_level path_level ls rs t right (in_path_tree left right) ws w (omega arith) (omega arith) second
      (left_taken ls t left ws Next.In (complete dl ws held) held (λ e. absurd (omega arith)) (in_found s) (machine_at (operation w ∷ ws) operand) refl rs (Some (machine_at second.waits second.ended)) second.taken)
      refl
  complete (derives_in_list {ls = ls} {is = is} {t = t} {first = first} {last = last} {left = left} {items = items} dl s a ds b) ws held =
      let w : Operation = in_behind left in
      let whole : Tree = tree_to left last (in_list left items) in
      let end : Option Machine = Some (machine_at ws (closed whole)) in
      let inner = items_at is items (complete_items ds) (list_form left) ws last b in
      closed_completes primary_level (ls ++ (t ∷ (first ∷ (is ++ (last ∷ []))))) whole ws
      (left_taken ls t left ws Next.In (complete dl ws held) held (λ e. absurd (omega arith)) (in_found s) (machine_at (operation w ∷ ws) operand) refl (first ∷ (is ++ (last ∷ []))) end (open_taken (operation w ∷ ws) first (is ++ (last ∷ [])) end a inner))
  complete (derives_literal {kind = kind} {t = t} l) ws held =
      closed_completes base_level (t ∷ []) (token_tree t (literal kind t.text)) ws (literal_taken ws t kind held (literal_found l))
  complete (derives_call {is = is} {t = t} {first = first} {last = last} {arguments = arguments} n a ds b) ws held =
      let whole : Tree = tree_between t last (call (function_name t) arguments) in
      let inner = items_at is arguments (complete_items ds) (call_form t.start (function_name t)) ws last b in
      closed_completes base_level (t ∷ (first ∷ (is ++ (last ∷ [])))) whole ws (call_taken ws t first (is ++ (last ∷ [])) (Some (machine_at ws (closed whole))) held n a inner)
  complete (derives_group {ts = ts} {first = first} {last = last} {tree = tree} a d b) ws held =
      closed_completes base_level (first ∷ (ts ++ (last ∷ []))) (tree_between first last (shape_of tree)) ws
      (group_taken ws first last ts tree held a b (complete d (enclosure (group_from first.start) ∷ ws) (omega arith)))
  complete (derives_count {bs = bs} {slash = slash} {t = t} {base = base} d s c) ws held =
      let whole : Tree = tree_to base t (count base) in
      let behind = slash_taken bs slash base ws (complete_path d ws (omega arith)) s in
      closed_completes path_level (bs ++ (slash ∷ (t ∷ []))) whole ws (behind.taken (t ∷ []) (Some (machine_at ws (closed whole))) (count_taken ws t base c))
  complete (derives_any_item {bs = bs} {slash = slash} {t = t} {first = first} {last = last} {base = base} d s q a b) ws held =
      let whole : Tree = tree_to base last (any_item base) in
      let end : Option Machine = Some (machine_at ws (closed whole)) in
      let behind = slash_taken bs slash base ws (complete_path d ws (omega arith)) s in
      closed_completes path_level (bs ++ (slash ∷ (t ∷ (first ∷ (last ∷ []))))) whole ws
      (behind.taken (t ∷ (first ∷ (last ∷ []))) end (quantifier_taken ws Quantifier.Any t first base (last ∷ []) end q a (any_item_taken ws last base b)))
  complete (derives_lambda {quantifier = quantifier} {bs = bs} {ts = ts} {slash = slash} {t = t} {first = first} {variable = v} {colon = c} {last = last} {base = base} {body = body} d s q a i k inner b) ws held =
      let whole : Tree = tree_to base last (lambda quantifier base v.text body) in
      let end : Option Machine = Some (machine_at ws (closed whole)) in
      let behind = slash_taken bs slash base ws (complete_path d ws (omega arith)) s in
      let e : Enclosure = body_behind quantifier base v.text in
      let closing = close_taken ts last e ws body (complete inner (enclosure e ∷ ws) (omega arith)) b in
      closed_completes path_level (bs ++ (slash ∷ (t ∷ (first ∷ (v ∷ (c ∷ (ts ++ (last ∷ [])))))))) whole ws
      (behind.taken (t ∷ (first ∷ (v ∷ (c ∷ (ts ++ (last ∷ [])))))) end
      (quantifier_taken ws quantifier t first base (v ∷ (c ∷ (ts ++ (last ∷ [])))) end q a (variable_taken ws quantifier base v c (ts ++ (last ∷ [])) end i k closing)))
  complete (derives_it {t = t} i) ws held =
      path_completes open_path_level (t ∷ []) (token_tree t it) ws (complete_path (derives_it i) ws (omega arith))
  complete (derives_name {t = t} n) ws held =
      path_completes open_path_level (t ∷ []) (token_tree t (name t.text)) ws (complete_path (derives_name n) ws (omega arith))
  complete (derives_member {bs = bs} {slash = slash} {t = t} {base = base} d s a) ws held =
      path_completes open_path_level (bs ++ (slash ∷ (t ∷ []))) (tree_to base t (member base t.text)) ws (complete_path (derives_member d s a) ws (omega arith))

  complete_items : {is : List TokenModel} {items : Trees} → DerivesItems is items → ItemsComplete is items
  complete_items no_items = no_items_complete
  complete_items (some_items {ts = ts} {rs = rs} {tree = tree} {rest = rest} d later) =
      items_complete ts rs tree rest (λ ws held. complete d ws held) (complete_further later)

  complete_further : {rs : List TokenModel} {rest : Trees} → DerivesFurther rs rest → FurtherCompletes rs rest
  complete_further no_further = no_further_completes
  complete_further (one_further {comma = comma} {ts = ts} {rs = rs} {tree = tree} {rest = rest} c d later) =
      further_completes comma ts rs tree rest c (λ ws held. complete d ws held) (complete_further later)

-- the machine ends with the tree that is derived
pub record Finishes (ts : List TokenModel) (tree : Tree) : Type 0 where
  pub ended : Machine
  pub taken : run ts start ≡ Some ended
  pub finished : finish ended ≡ Some tree

pub derived_finishes : {ts : List TokenModel} {tree : Tree} → Derives or_level ts tree → Finishes ts tree
derived_finishes {ts} {tree} d =
    let whole = complete d [] (omega arith) in
    let same : reduce or_level whole.waits whole.grown ≡ reduction_at [] tree = whole.same or_level (omega arith) in
    record { ended = machine_at whole.waits whole.ended; taken = whole.taken; finished = read_finish whole.read whole.waits ∙ ap finish_reduced same }
