-- What the machine takes, the grammar derives.
use Rattle.std.proofs.Common.{◌≡◌, refl, ap, subst, sym, ◌∙◌, ◌≤◌, List, [], ◌∷◌, ◌++◌, Bool, true, false, cond, Option, Some, None, arith, append_assoc}
use Rattle.std.specs.Prelude.{nat_le, ◌==◌}
use Rattle.std.specs.List.{list_any}
use Rattle.std.proofs.lemmas.Bool.{leb-true}
use Rattle.std.proofs.lemmas.List.{append-nil}
use Rattle.std.proofs.lemmas.Option.{same_Some, option_and_then_some, cond_some}
use Rattle.odata_syntax.specs.declared.node.LiteralKind.{LiteralKind}
use Rattle.odata_syntax.specs.declared.node.Quantifier.{Quantifier}
use Rattle.odata_text.specs.declared.token.TokenKind.{TokenKind}
use Rattle.odata_syntax.specs.declared.parser.operand.Start.{Start}
use Rattle.odata_syntax.specs.declared.parser.next_operator.Next.{Next}
use Rattle.odata_syntax.specs.declared.parser.path.Segment.{Segment}
use Rattle.odata_text.specs.TokenModel.{TokenModel}
use Rattle.odata_syntax.specs.Tree.{Tree, any_item, count, it, literal, member, name}
use Rattle.odata_syntax.specs.Lexeme.{IsA, IsName, IsQuantifier, IsVariable}
use Rattle.odata_syntax.specs.Grammar.{Derives, Level, base_level, derives_any_item, derives_count, derives_it, derives_literal, derives_member, derives_name, function_name, open_path_level, or_level, primary_level, token_tree, tree_to, unary_level}
use Rattle.odata_syntax.specs.private.Machine.{Enclosure, Expected, Machine, Operation, Reduction, Waiting, arguments_from, binary_behind, body_behind, close_at, close_empty, closed, closed_with, colon, comma_at, empty_tree, enclosure, enclosure_tree, expected_level, finish, finish_at, finish_reduced, has_behind, in_behind, items_behind, machine_at, member_or_lambda, minus_from, name_or_call, next_level, next_of_kind, not_from, open_at, operand, operation, operation_level, path, reduce, run, segment, segment_of_kind, start, start_of_kind, step, step_at, take_behind_name, take_behind_path, take_behind_word, take_colon, take_literal, take_name, take_next, take_no_variable, take_reduced, take_segment, take_sign, take_start, take_variable, variable, whole_at}
use Rattle.odata_syntax.proofs.machine.Lexemes.{comma_spelled, count_spelled, close_spelled, end_spelled, has_spelled, in_spelled, it_spelled, literal_spelled, member_spelled, minus_spelled, name_spelled, not_spelled, open_spelled, operator_spelled, quantifier_spelled}
use Rattle.odata_syntax.proofs.machine.Reading.{operator_level-bounds}
use Rattle.odata_syntax.proofs.machine.Stacks.{above, bottom, empty_derived, enclosure_derived, enclosure_level, enclosure_level-bounds, expected_level-bound, grow, Growth, is_binary, is_body, is_call, is_group, is_has, is_in, is_items, is_minus, is_not, IsEnclosure, IsOperation, IsStack, none_before, one_before, within}

-- What the machine knows of the tokens that it has taken.

data StandsAt : Expected → List Waiting → List TokenModel → Type 0 where
  at_operand : {ws : List Waiting} {ts : List TokenModel} → IsStack ws ts → StandsAt operand ws ts
  at_closed :
      {ws : List Waiting} {ts own : List TokenModel} {tree : Tree} {tight : Level}
      → IsStack ws ts
      → Derives tight own tree
      → expected_level ws ≤ tight
      → primary_level ≤ tight
      → StandsAt (closed tree) ws (ts ++ own)
  at_path :
      {ws : List Waiting} {ts own : List TokenModel} {tree : Tree}
      → IsStack ws ts
      → Derives open_path_level own tree
      → StandsAt (path tree) ws (ts ++ own)
  at_name :
      {ws : List Waiting} {ts : List TokenModel} {t : TokenModel}
      → IsStack ws ts
      → IsName t
      → expected_level ws ≤ base_level
      → StandsAt (name_or_call t.start t.stop t.text) ws (ts ++ (t ∷ []))
  at_segment :
      {ws : List Waiting} {ts bs : List TokenModel} {slash : TokenModel} {base : Tree}
      → IsStack ws ts
      → Derives open_path_level bs base
      → IsA TokenKind.Slash slash
      → StandsAt (segment base) ws (ts ++ (bs ++ (slash ∷ [])))
  at_word :
      {ws : List Waiting} {ts bs : List TokenModel} {quantifier : Quantifier} {slash t : TokenModel} {base : Tree}
      → IsStack ws ts
      → Derives open_path_level bs base
      → IsA TokenKind.Slash slash
      → IsQuantifier quantifier t
      → StandsAt (member_or_lambda quantifier base t.stop t.text) ws (ts ++ (bs ++ (slash ∷ t ∷ [])))
  at_variable :
      {ws : List Waiting} {ts bs : List TokenModel} {quantifier : Quantifier} {slash t first : TokenModel} {base : Tree}
      → IsStack ws ts
      → Derives open_path_level bs base
      → IsA TokenKind.Slash slash
      → IsQuantifier quantifier t
      → IsA TokenKind.Open first
      → StandsAt (variable quantifier base) ws (ts ++ (bs ++ (slash ∷ t ∷ first ∷ [])))
  at_colon :
      {ws : List Waiting} {ts bs : List TokenModel} {quantifier : Quantifier} {slash t first v : TokenModel} {base : Tree}
      → IsStack ws ts
      → Derives open_path_level bs base
      → IsA TokenKind.Slash slash
      → IsQuantifier quantifier t
      → IsA TokenKind.Open first
      → IsVariable v
      → StandsAt (colon quantifier base v.text) ws (ts ++ (bs ++ (slash ∷ t ∷ first ∷ v ∷ [])))

pub Stands : Machine → List TokenModel → Type 0
Stands m ts = StandsAt m.expected m.waiting ts

stands_next : (m next : Machine) (ts : List TokenModel) → Some m ≡ Some next → StandsAt m.expected m.waiting ts → Stands next ts
unfolding Stands
stands_next m next ts e s = subst (λ (k : Machine). StandsAt k.expected k.waiting ts) (same_Some m next e) s

stands_along : (e : Expected) (ws : List Waiting) (ts us : List TokenModel) → ts ≡ us → StandsAt e ws ts → StandsAt e ws us
stands_along e ws ts us same s = subst (λ (k : List TokenModel). StandsAt e ws k) same s

stack_along : (ws : List Waiting) (ts us : List TokenModel) → ts ≡ us → IsStack ws ts → IsStack ws us
stack_along ws ts us same s = subst (λ (k : List TokenModel). IsStack ws k) same s

-- Where an operand is expected.

name_stands : (b : Bool) (ws : List Waiting) (ts : List TokenModel) (p : TokenModel) → nat_le (expected_level ws) base_level ≡ b → IsStack ws ts → IsName p → StandsAt (cond b (name_or_call p.start p.stop p.text) (path (token_tree p (name p.text)))) ws (ts ++ (p ∷ []))
name_stands true ws ts p h s n = at_name s n (leb-true (expected_level ws) base_level h)
name_stands false ws ts p h s n = at_path s (derives_name n)

open_stack : {ws : List Waiting} {ts : List TokenModel} (p : TokenModel) → IsStack ws ts → IsA TokenKind.Open p → IsStack (open_at ws p.start) (ts ++ (p ∷ []))
open_stack p bottom a = within bottom (is_group a) (omega arith)
open_stack p (above {below = below} {ts = ts} s (is_in {ls = ls} {t = t} {left = left} dl i) le) a =
    stack_along (enclosure (items_behind left []) ∷ below) (ts ++ (ls ++ (t ∷ p ∷ []))) ((ts ++ (ls ++ (t ∷ []))) ++ (p ∷ [])) (simp append_assoc) (within s (is_items dl i a none_before) le)
open_stack p (above s (is_binary {operator = operator} dl o) le) a = let bounds = operator_level-bounds operator in within (above s (is_binary dl o) le) (is_group a) (omega arith)
open_stack p (above s (is_has dl h) le) a = within (above s (is_has dl h) le) (is_group a) (omega arith)
open_stack p (above s (is_minus m) le) a = within (above s (is_minus m) le) (is_group a) (omega arith)
open_stack p (above s (is_not n) le) a = within (above s (is_not n) le) (is_group a) (omega arith)
open_stack p (within s e le) a = within (within s e le) (is_group a) (omega arith)

empty_stands : {below : List Waiting} {ts us : List TokenModel} {e : Enclosure} (p : TokenModel) (next : Machine) (o : Option Tree) → IsStack below ts → IsEnclosure e us → expected_level below ≤ enclosure_level e → IsA TokenKind.Close p → empty_tree e p.stop ≡ o → closed_with below o ≡ Some next → Stands next ((ts ++ us) ++ (p ∷ []))
empty_stands p next None s i le b found e = absurd (cc)
empty_stands {below} {ts} {us} {e = held} p next (Some tree) s i le b found e =
    let bounds = enclosure_level-bounds held in
    stands_next (machine_at below (closed tree)) next ((ts ++ us) ++ (p ∷ [])) e
    (stands_along (closed tree) below (ts ++ (us ++ (p ∷ []))) ((ts ++ us) ++ (p ∷ [])) (sym (append_assoc ts us (p ∷ []))) (at_closed s (empty_derived i b found) le bounds.0))

close_empty_stands : {ws : List Waiting} {ts : List TokenModel} (p : TokenModel) (next : Machine) → IsStack ws ts → IsA TokenKind.Close p → close_empty ws p.stop ≡ Some next → Stands next (ts ++ (p ∷ []))
close_empty_stands p next bottom b e = absurd (cc)
close_empty_stands p next (above s o le) b e = absurd (cc)
close_empty_stands p next (within {e = held} s i le) b e = empty_stands p next (empty_tree held p.stop) s i le b refl e

sign_stands : (ws : List Waiting) (ts : List TokenModel) (p : TokenModel) (w : Operation) (next : Machine) → IsStack ws ts → IsOperation w (p ∷ []) → unary_level ≤ operation_level w → take_sign ws w ≡ Some next → Stands next (ts ++ (p ∷ []))
sign_stands ws ts p w next s o level e =
    let parts = cond_some (nat_le (expected_level ws) unary_level) (machine_at (operation w ∷ ws) operand) next e in
    let held : expected_level ws ≤ unary_level = leb-true (expected_level ws) unary_level parts.0 in
    stands_next (machine_at (operation w ∷ ws) operand) next (ts ++ (p ∷ [])) (ap (λ k. Some k) parts.1) (at_operand (above s o (omega arith)))

literal_stands : (ws : List Waiting) (ts : List TokenModel) (p : TokenModel) (kind : LiteralKind) (next : Machine) → IsStack ws ts → start_of_kind p.kind p.text ≡ Some (Start.Lit kind) → take_literal ws p kind ≡ Some next → Stands next (ts ++ (p ∷ []))
literal_stands ws ts p kind next s found e =
    let m : Machine = machine_at ws (closed (token_tree p (literal kind p.text))) in
    let parts = cond_some (nat_le (expected_level ws) base_level) m next e in
    stands_next m next (ts ++ (p ∷ [])) (ap (λ k. Some k) parts.1) (at_closed s (derives_literal (literal_spelled p kind found)) (leb-true (expected_level ws) base_level parts.0) (omega arith))

start_stands : (ws : List Waiting) (ts : List TokenModel) (p : TokenModel) (o : Option Start) (next : Machine) → IsStack ws ts → start_of_kind p.kind p.text ≡ o → take_start ws p o ≡ Some next → Stands next (ts ++ (p ∷ []))
start_stands ws ts p None next s found e = absurd (cc)
start_stands ws ts p (Some (Start.Lit kind)) next s found e = literal_stands ws ts p kind next s found e
start_stands ws ts p (Some Start.It) next s found e =
    stands_next (machine_at ws (path (token_tree p it))) next (ts ++ (p ∷ [])) e (at_path s (derives_it (it_spelled p found)))
start_stands ws ts p (Some Start.Name) next s found e =
    stands_next (take_name ws p) next (ts ++ (p ∷ [])) e (name_stands (nat_le (expected_level ws) base_level) ws ts p refl s (name_spelled p found))
start_stands ws ts p (Some Start.Minus) next s found e = sign_stands ws ts p (minus_from p.start) next s (is_minus (minus_spelled p found)) (omega arith) e
start_stands ws ts p (Some Start.Not) next s found e = sign_stands ws ts p (not_from p.start) next s (is_not (not_spelled p found)) (omega arith) e
start_stands ws ts p (Some Start.Open) next s found e =
    stands_next (machine_at (open_at ws p.start) operand) next (ts ++ (p ∷ [])) e (at_operand (open_stack p s (open_spelled p found)))
start_stands ws ts p (Some Start.Close) next s found e = close_empty_stands p next s (close_spelled p found) e

-- After an operand.

close_stands : {ws : List Waiting} {before : List TokenModel} (own : List TokenModel) (tree : Tree) (p : TokenModel) (next : Machine) → IsStack ws before → Derives or_level own tree → IsA TokenKind.Close p → close_at ws tree p.stop ≡ Some next → Stands next ((before ++ own) ++ (p ∷ []))
close_stands own tree p next bottom d b e = absurd (cc)
close_stands own tree p next (above s o le) d b e = absurd (cc)
close_stands own tree p next (within {below = below} {ts = ts} {us = us} {e = held} s i le) d b e =
    let bounds = enclosure_level-bounds held in
    let whole : Tree = enclosure_tree held tree p.stop in
    stands_next (machine_at below (closed whole)) next (((ts ++ us) ++ own) ++ (p ∷ [])) e
    (stands_along (closed whole) below (ts ++ (us ++ (own ++ (p ∷ [])))) (((ts ++ us) ++ own) ++ (p ∷ [])) (simp append_assoc) (at_closed s (enclosure_derived i d b) le bounds.0))

regroup_comma : (ts ls is own : List TokenModel) (t first p : TokenModel) → ts ++ (ls ++ (t ∷ (first ∷ (is ++ (own ++ (p ∷ [])))))) ≡ ((ts ++ (ls ++ (t ∷ (first ∷ is)))) ++ own) ++ (p ∷ [])
regroup_comma ts ls is own t first p = simp append_assoc

comma_stands : {ws : List Waiting} {before : List TokenModel} (own : List TokenModel) (tree : Tree) (p : TokenModel) (next : Machine) → IsStack ws before → Derives or_level own tree → IsA TokenKind.Comma p → comma_at ws tree ≡ Some next → Stands next ((before ++ own) ++ (p ∷ []))
comma_stands own tree p next bottom d b e = absurd (cc)
comma_stands own tree p next (above s o le) d b e = absurd (cc)
comma_stands own tree p next (within s (is_group a) le) d b e = absurd (cc)
comma_stands own tree p next (within s (is_body dp sl q a i k) le) d b e = absurd (cc)
comma_stands own tree p next (within {below = below} {ts = ts} s (is_items {ls = ls} {is = is} {t = t} {first = first} {left = left} {items = items} dl i a items_before) le) d b e =
    let ws : List Waiting = enclosure (items_behind left (items ++ (tree ∷ []))) ∷ below in
    let all : List TokenModel = ((ts ++ (ls ++ (t ∷ (first ∷ is)))) ++ own) ++ (p ∷ []) in
    stands_next (machine_at ws operand) next all e
    (at_operand (stack_along ws (ts ++ (ls ++ (t ∷ (first ∷ (is ++ (own ++ (p ∷ []))))))) all (regroup_comma ts ls is own t first p) (within s (is_items dl i a (one_before items_before d b)) le)))
comma_stands own tree p next (within {below = below} {ts = ts} s (is_call {is = is} {t = t} {first = first} {items = items} n a items_before) le) d b e =
    let ws : List Waiting = enclosure (arguments_from t.start (function_name t) (items ++ (tree ∷ []))) ∷ below in
    let all : List TokenModel = ((ts ++ (t ∷ (first ∷ is))) ++ own) ++ (p ∷ []) in
    stands_next (machine_at ws operand) next all e
    (at_operand (stack_along ws (ts ++ (t ∷ (first ∷ (is ++ (own ++ (p ∷ [])))))) all (regroup_comma ts [] is own t first p) (within s (is_call n a (one_before items_before d b)) le)))

next_level-bounds : (next : Next) → (or_level ≤ next_level next) × (next_level next ≤ primary_level)
next_level-bounds (Next.Operator operator) = let bounds = operator_level-bounds operator in (bounds.0, omega arith)
next_level-bounds Next.Has = (omega arith, omega arith)
next_level-bounds Next.In = (omega arith, omega arith)
next_level-bounds Next.Close = (omega arith, omega arith)
next_level-bounds Next.Comma = (omega arith, omega arith)

wait_stands : (r : Reduction) (before own all : List TokenModel) (p : TokenModel) (w : Operation) (next : Machine) → all ≡ before ++ own → IsStack r.waiting before → IsOperation w (own ++ (p ∷ [])) → expected_level r.waiting ≤ operation_level w → Some (machine_at (operation w ∷ r.waiting) operand) ≡ Some next → Stands next (all ++ (p ∷ []))
wait_stands r before own all p w next split s o le e =
    let ws : List Waiting = operation w ∷ r.waiting in
    stands_next (machine_at ws operand) next (all ++ (p ∷ [])) e
    (at_operand (stack_along ws (before ++ (own ++ (p ∷ []))) (all ++ (p ∷ [])) (sym (ap (λ k. k ++ (p ∷ [])) split ∙ append_assoc before own (p ∷ []))) (above s o le)))

reduced_stands : (n : Next) (r : Reduction) (all : List TokenModel) (p : TokenModel) (next : Machine) → Growth (next_level n) r all → next_of_kind p.kind p.text ≡ Some n → take_reduced n r p.stop ≡ Some next → Stands next (all ++ (p ∷ []))
reduced_stands (Next.Operator operator) r all p next g found e =
    wait_stands r g.before g.own all p (binary_behind operator r.tree) next g.split g.stacked (is_binary g.derived (operator_spelled p operator found)) g.outer e
reduced_stands Next.Has r all p next g found e =
    wait_stands r g.before g.own all p (has_behind r.tree) next g.split g.stacked (is_has g.derived (has_spelled p found)) g.outer e
reduced_stands Next.In r all p next g found e =
    wait_stands r g.before g.own all p (in_behind r.tree) next g.split g.stacked (is_in g.derived (in_spelled p found)) g.outer e
reduced_stands Next.Close r all p next g found e =
    let P : List TokenModel → Type 0 = λ k. Stands next (k ++ (p ∷ [])) in
    subst P (sym g.split) (close_stands g.own r.tree p next g.stacked g.derived (end_spelled p found) e)
reduced_stands Next.Comma r all p next g found e =
    let P : List TokenModel → Type 0 = λ k. Stands next (k ++ (p ∷ [])) in
    subst P (sym g.split) (comma_stands g.own r.tree p next g.stacked g.derived (comma_spelled p found) e)

next_stands : (ws : List Waiting) (ts own : List TokenModel) (tree : Tree) (tight : Level) (p : TokenModel) (o : Option Next) (next : Machine) → IsStack ws ts → Derives tight own tree → expected_level ws ≤ tight → primary_level ≤ tight → next_of_kind p.kind p.text ≡ o → take_next ws tree p.stop o ≡ Some next → Stands next ((ts ++ own) ++ (p ∷ []))
next_stands ws ts own tree tight p None next s d outer tightest found e = absurd (cc)
next_stands ws ts own tree tight p (Some n) next s d outer tightest found e =
    let bounds = next_level-bounds n in
    let g = grow s (next_level n) tight own tree bounds.0 bounds.1 outer (omega arith) d in
    reduced_stands n (reduce (next_level n) ws tree) (ts ++ own) p next g found e

-- After a path, and within one.

path_stands : (kind : TokenKind) (ws : List Waiting) (ts own : List TokenModel) (tree : Tree) (p : TokenModel) (next : Machine) → p.kind ≡ kind → IsStack ws ts → Derives open_path_level own tree → take_behind_path ws tree p kind ≡ Some next → Stands next ((ts ++ own) ++ (p ∷ []))
path_stands TokenKind.Slash ws ts own tree p next k s d e =
    stands_next (machine_at ws (segment tree)) next ((ts ++ own) ++ (p ∷ [])) e
    (stands_along (segment tree) ws (ts ++ (own ++ (p ∷ []))) ((ts ++ own) ++ (p ∷ [])) (sym (append_assoc ts own (p ∷ []))) (at_segment s d (record { of_kind = k })))
path_stands kind ws ts own tree p next k s d e =
    let bound = expected_level-bound ws in
    next_stands ws ts own tree open_path_level p (next_of_kind kind p.text) next s d (omega arith) (omega arith) (ap (λ o. next_of_kind o p.text) k) e

call_stands : (ws : List Waiting) (ts : List TokenModel) (t p : TokenModel) (next : Machine) → p.kind ≡ TokenKind.Open → IsStack ws ts → IsName t → expected_level ws ≤ base_level → Some (machine_at (enclosure (arguments_from t.start (function_name t) []) ∷ ws) operand) ≡ Some next → Stands next ((ts ++ (t ∷ [])) ++ (p ∷ []))
call_stands ws ts t p next k s n le e =
    let opened : List Waiting = enclosure (arguments_from t.start (function_name t) []) ∷ ws in
    stands_next (machine_at opened operand) next ((ts ++ (t ∷ [])) ++ (p ∷ [])) e
    (at_operand (stack_along opened (ts ++ (t ∷ p ∷ [])) ((ts ++ (t ∷ [])) ++ (p ∷ [])) (sym (append_assoc ts (t ∷ []) (p ∷ []))) (within s (is_call n (record { of_kind = k }) none_before) le)))

named_stands : (kind : TokenKind) (ws : List Waiting) (ts : List TokenModel) (t p : TokenModel) (next : Machine) → p.kind ≡ kind → IsStack ws ts → IsName t → expected_level ws ≤ base_level → take_behind_name ws t.start t.stop t.text p kind ≡ Some next → Stands next ((ts ++ (t ∷ [])) ++ (p ∷ []))
named_stands TokenKind.Open ws ts t p next k s n le e = call_stands ws ts t p next k s n le e
named_stands kind ws ts t p next k s n le e = path_stands kind ws ts (t ∷ []) (token_tree t (name t.text)) p next k s (derives_name n) e

regroup_behind : (ts bs cs : List TokenModel) (p : TokenModel) → ts ++ (bs ++ (cs ++ (p ∷ []))) ≡ (ts ++ (bs ++ cs)) ++ (p ∷ [])
regroup_behind ts bs cs p = simp append_assoc

lambda_stands : (ws : List Waiting) (ts bs : List TokenModel) (quantifier : Quantifier) (slash t p : TokenModel) (base : Tree) (next : Machine) → p.kind ≡ TokenKind.Open → IsStack ws ts → Derives open_path_level bs base → IsA TokenKind.Slash slash → IsQuantifier quantifier t → Some (machine_at ws (variable quantifier base)) ≡ Some next → Stands next ((ts ++ (bs ++ (slash ∷ t ∷ []))) ++ (p ∷ []))
lambda_stands ws ts bs quantifier slash t p base next k s d a q e =
    let all : List TokenModel = (ts ++ (bs ++ (slash ∷ t ∷ []))) ++ (p ∷ []) in
    stands_next (machine_at ws (variable quantifier base)) next all e
    (stands_along (variable quantifier base) ws (ts ++ (bs ++ (slash ∷ t ∷ p ∷ []))) all (regroup_behind ts bs (slash ∷ t ∷ []) p) (at_variable s d a q (record { of_kind = k })))

word_stands : (kind : TokenKind) (ws : List Waiting) (ts bs : List TokenModel) (quantifier : Quantifier) (slash t p : TokenModel) (base : Tree) (next : Machine) → p.kind ≡ kind → IsStack ws ts → Derives open_path_level bs base → IsA TokenKind.Slash slash → IsQuantifier quantifier t → take_behind_word ws quantifier base t.stop t.text p kind ≡ Some next → Stands next ((ts ++ (bs ++ (slash ∷ t ∷ []))) ++ (p ∷ []))
word_stands TokenKind.Open ws ts bs quantifier slash t p base next k s d a q e = lambda_stands ws ts bs quantifier slash t p base next k s d a q e
word_stands kind ws ts bs quantifier slash t p base next k s d a q e =
    path_stands kind ws ts (bs ++ (slash ∷ t ∷ [])) (tree_to base t (member base t.text)) p next k s (derives_member d a (record { of_kind = q.word.of_kind })) e

segment_stands : (ws : List Waiting) (ts bs : List TokenModel) (slash p : TokenModel) (base : Tree) (o : Option Segment) (next : Machine) → IsStack ws ts → Derives open_path_level bs base → IsA TokenKind.Slash slash → segment_of_kind p.kind p.text ≡ o → take_segment ws base p o ≡ Some next → Stands next ((ts ++ (bs ++ (slash ∷ []))) ++ (p ∷ []))
segment_stands ws ts bs slash p base None next s d a found e = absurd (cc)
segment_stands ws ts bs slash p base (Some Segment.Count) next s d a found e =
    let whole : Tree = tree_to base p (count base) in
    let bound = expected_level-bound ws in
    let all : List TokenModel = (ts ++ (bs ++ (slash ∷ []))) ++ (p ∷ []) in
    stands_next (machine_at ws (closed whole)) next all e
    (stands_along (closed whole) ws (ts ++ (bs ++ (slash ∷ p ∷ []))) all (regroup_behind ts bs (slash ∷ []) p) (at_closed s (derives_count d a (count_spelled p found)) bound (omega arith)))
segment_stands ws ts bs slash p base (Some (Segment.Lambda quantifier)) next s d a found e =
    let all : List TokenModel = (ts ++ (bs ++ (slash ∷ []))) ++ (p ∷ []) in
    let stage : Expected = member_or_lambda quantifier base p.stop p.text in
    stands_next (machine_at ws stage) next all e
    (stands_along stage ws (ts ++ (bs ++ (slash ∷ p ∷ []))) all (regroup_behind ts bs (slash ∷ []) p) (at_word s d a (quantifier_spelled p quantifier found)))
segment_stands ws ts bs slash p base (Some Segment.Name) next s d a found e =
    let whole : Tree = tree_to base p (member base p.text) in
    let all : List TokenModel = (ts ++ (bs ++ (slash ∷ []))) ++ (p ∷ []) in
    stands_next (machine_at ws (path whole)) next all e
    (stands_along (path whole) ws (ts ++ (bs ++ (slash ∷ p ∷ []))) all (regroup_behind ts bs (slash ∷ []) p) (at_path s (derives_member d a (member_spelled p found))))

no_variable_stands : (quantifier : Quantifier) (ws : List Waiting) (ts bs : List TokenModel) (slash t first p : TokenModel) (base : Tree) (next : Machine) → p.kind ≡ TokenKind.Close → IsStack ws ts → Derives open_path_level bs base → IsA TokenKind.Slash slash → IsQuantifier quantifier t → IsA TokenKind.Open first → take_no_variable ws quantifier base p.stop ≡ Some next → Stands next ((ts ++ (bs ++ (slash ∷ t ∷ first ∷ []))) ++ (p ∷ []))
no_variable_stands Quantifier.All ws ts bs slash t first p base next k s d a q b e = absurd (cc)
no_variable_stands Quantifier.Any ws ts bs slash t first p base next k s d a q b e =
    let whole : Tree = tree_to base p (any_item base) in
    let bound = expected_level-bound ws in
    let all : List TokenModel = (ts ++ (bs ++ (slash ∷ t ∷ first ∷ []))) ++ (p ∷ []) in
    stands_next (machine_at ws (closed whole)) next all e
    (stands_along (closed whole) ws (ts ++ (bs ++ (slash ∷ t ∷ first ∷ p ∷ []))) all (regroup_behind ts bs (slash ∷ t ∷ first ∷ []) p) (at_closed s (derives_any_item d a q b (record { of_kind = k })) bound (omega arith)))

undotted_stands : (dotted : Bool) (ws : List Waiting) (ts bs : List TokenModel) (quantifier : Quantifier) (slash t first p : TokenModel) (base : Tree) (next : Machine) → list_any (λ b. b == 46) p.text ≡ dotted → p.kind ≡ TokenKind.Word → IsStack ws ts → Derives open_path_level bs base → IsA TokenKind.Slash slash → IsQuantifier quantifier t → IsA TokenKind.Open first → cond dotted None (Some (machine_at ws (colon quantifier base p.text))) ≡ Some next → Stands next ((ts ++ (bs ++ (slash ∷ t ∷ first ∷ []))) ++ (p ∷ []))
undotted_stands true ws ts bs quantifier slash t first p base next h k s d a q b e = absurd (cc)
undotted_stands false ws ts bs quantifier slash t first p base next h k s d a q b e =
    let all : List TokenModel = (ts ++ (bs ++ (slash ∷ t ∷ first ∷ []))) ++ (p ∷ []) in
    let stage : Expected = colon quantifier base p.text in
    stands_next (machine_at ws stage) next all e
    (stands_along stage ws (ts ++ (bs ++ (slash ∷ t ∷ first ∷ p ∷ []))) all (regroup_behind ts bs (slash ∷ t ∷ first ∷ []) p) (at_colon s d a q b (record { of_kind = k; undotted = h })))

variable_stands : (kind : TokenKind) (ws : List Waiting) (ts bs : List TokenModel) (quantifier : Quantifier) (slash t first p : TokenModel) (base : Tree) (next : Machine) → p.kind ≡ kind → IsStack ws ts → Derives open_path_level bs base → IsA TokenKind.Slash slash → IsQuantifier quantifier t → IsA TokenKind.Open first → take_variable ws quantifier base p kind ≡ Some next → Stands next ((ts ++ (bs ++ (slash ∷ t ∷ first ∷ []))) ++ (p ∷ []))
variable_stands TokenKind.Close ws ts bs quantifier slash t first p base next k s d a q b e = no_variable_stands quantifier ws ts bs slash t first p base next k s d a q b e
variable_stands TokenKind.Word ws ts bs quantifier slash t first p base next k s d a q b e = undotted_stands (list_any (λ b. b == 46) p.text) ws ts bs quantifier slash t first p base next refl k s d a q b e
variable_stands _ ws ts bs quantifier slash t first p base next k s d a q b e = absurd (cc)

colon_stands : (kind : TokenKind) (ws : List Waiting) (ts bs : List TokenModel) (quantifier : Quantifier) (slash t first v p : TokenModel) (base : Tree) (next : Machine) → p.kind ≡ kind → IsStack ws ts → Derives open_path_level bs base → IsA TokenKind.Slash slash → IsQuantifier quantifier t → IsA TokenKind.Open first → IsVariable v → take_colon ws quantifier base v.text kind ≡ Some next → Stands next ((ts ++ (bs ++ (slash ∷ t ∷ first ∷ v ∷ []))) ++ (p ∷ []))
colon_stands TokenKind.Colon ws ts bs quantifier slash t first v p base next k s d a q b i e =
    let opened : List Waiting = enclosure (body_behind quantifier base v.text) ∷ ws in
    let all : List TokenModel = (ts ++ (bs ++ (slash ∷ t ∷ first ∷ v ∷ []))) ++ (p ∷ []) in
    stands_next (machine_at opened operand) next all e
    (at_operand (stack_along opened (ts ++ (bs ++ (slash ∷ t ∷ first ∷ v ∷ p ∷ []))) all (regroup_behind ts bs (slash ∷ t ∷ first ∷ v ∷ []) p) (within s (is_body d a q b i (record { of_kind = k })) (expected_level-bound ws))))
colon_stands _ ws ts bs quantifier slash t first v p base next k s d a q b i e = absurd (cc)

-- The machine.

step_stands : {e : Expected} {ws : List Waiting} {ts : List TokenModel} → StandsAt e ws ts → (p : TokenModel) (next : Machine) → step_at e ws p ≡ Some next → Stands next (ts ++ (p ∷ []))
step_stands (at_operand {ws = ws} {ts = ts} s) p next e = start_stands ws ts p (start_of_kind p.kind p.text) next s refl e
step_stands (at_closed {ws = ws} {ts = ts} {own = own} {tree = tree} {tight = tight} s d outer tightest) p next e = next_stands ws ts own tree tight p (next_of_kind p.kind p.text) next s d outer tightest refl e
step_stands (at_path {ws = ws} {ts = ts} {own = own} {tree = tree} s d) p next e = path_stands p.kind ws ts own tree p next refl s d e
step_stands (at_name {ws = ws} {ts = ts} {t = t} s n le) p next e = named_stands p.kind ws ts t p next refl s n le e
step_stands (at_segment {ws = ws} {ts = ts} {bs = bs} {slash = slash} {base = base} s d a) p next e = segment_stands ws ts bs slash p base (segment_of_kind p.kind p.text) next s d a refl e
step_stands (at_word {ws = ws} {ts = ts} {bs = bs} {quantifier = quantifier} {slash = slash} {t = t} {base = base} s d a q) p next e = word_stands p.kind ws ts bs quantifier slash t p base next refl s d a q e
step_stands (at_variable {ws = ws} {ts = ts} {bs = bs} {quantifier = quantifier} {slash = slash} {t = t} {first = first} {base = base} s d a q b) p next e = variable_stands p.kind ws ts bs quantifier slash t first p base next refl s d a q b e
step_stands (at_colon {ws = ws} {ts = ts} {bs = bs} {quantifier = quantifier} {slash = slash} {t = t} {first = first} {v = v} {base = base} s d a q b i) p next e = colon_stands p.kind ws ts bs quantifier slash t first v p base next refl s d a q b i e

stands_step : (m : Machine) (ts : List TokenModel) → Stands m ts → (p : TokenModel) (next : Machine) → step m p ≡ Some next → Stands next (ts ++ (p ∷ []))
unfolding Stands
stands_step m ts s p next e = step_stands s p next e

-- more tokens
run_stands : (ps : List TokenModel) (m n : Machine) (ts : List TokenModel) → Stands m ts → run ps m ≡ Some n → Stands n (ts ++ ps)
run_stands [] m n ts s e =
    let same : m ≡ n = same_Some m n e in
    rw (append-nil ts) (subst (λ (k : Machine). Stands k ts) same s)
run_stands (p ∷ ps) m n ts s e =
    option_and_then_some {P = Stands n (ts ++ (p ∷ ps))} (λ k. run ps k) (step m p) n e
    (λ k taken rest.
    let inner : Stands n ((ts ++ (p ∷ [])) ++ ps) = run_stands ps k n (ts ++ (p ∷ [])) (stands_step m ts s p k taken) rest in
    rw append_assoc at inner)

-- at the bottom nothing has been taken
empty_stack : {ws : List Waiting} {ts : List TokenModel} → IsStack ws ts → ws ≡ [] → ts ≡ []
empty_stack bottom e = refl
empty_stack (above s o le) e = absurd (cc)
empty_stack (within s i le) e = absurd (cc)

whole_parts : (ws : List Waiting) (tree root : Tree) → whole_at ws tree ≡ Some root → (ws ≡ []) × (tree ≡ root)
whole_parts [] tree root e = (refl, same_Some tree root e)
whole_parts (w ∷ ws) tree root e = absurd (cc)

read_derived : (ws : List Waiting) (ts own : List TokenModel) (tree : Tree) (tight : Level) (root : Tree) → IsStack ws ts → Derives tight own tree → expected_level ws ≤ tight → primary_level ≤ tight → finish_reduced (reduce or_level ws tree) ≡ Some root → Derives or_level (ts ++ own) root
read_derived ws ts own tree tight root s d outer tightest e =
    let r : Reduction = reduce or_level ws tree in
    let g = grow s or_level tight own tree (omega arith) (omega arith) outer (omega arith) d in
    let parts = whole_parts r.waiting r.tree root e in
    let empty : g.before ≡ [] = empty_stack g.stacked parts.0 in
    let all : g.own ≡ ts ++ own = sym (g.split ∙ ap (λ k. k ++ g.own) empty) in
    let P : List TokenModel → Type 0 = λ k. Derives or_level k r.tree in
    let Q : Tree → Type 0 = λ k. Derives or_level (ts ++ own) k in
    subst Q parts.1 (subst P all g.derived)

finish_derived : {e : Expected} {ws : List Waiting} {ts : List TokenModel} → StandsAt e ws ts → (root : Tree) → finish_at e ws ≡ Some root → Derives or_level ts root
finish_derived (at_operand s) root e = absurd (cc)
finish_derived (at_closed {ws = ws} {ts = ts} {own = own} {tree = tree} {tight = tight} s d outer tightest) root e = read_derived ws ts own tree tight root s d outer tightest e
finish_derived (at_path {ws = ws} {ts = ts} {own = own} {tree = tree} s d) root e =
    let bound = expected_level-bound ws in
    read_derived ws ts own tree open_path_level root s d (omega arith) (omega arith) e
finish_derived (at_name {ws = ws} {ts = ts} {t = t} s n le) root e =
    let bound = expected_level-bound ws in
    read_derived ws ts (t ∷ []) (token_tree t (name t.text)) open_path_level root s (derives_name n) (omega arith) (omega arith) e
finish_derived (at_segment s d a) root e = absurd (cc)
finish_derived (at_word {ws = ws} {ts = ts} {bs = bs} {slash = slash} {t = t} {base = base} s d a q) root e =
    let bound = expected_level-bound ws in
    read_derived ws ts (bs ++ (slash ∷ t ∷ [])) (tree_to base t (member base t.text)) open_path_level root s (derives_member d a (record { of_kind = q.word.of_kind })) (omega arith) (omega arith) e
finish_derived (at_variable s d a q b) root e = absurd (cc)
finish_derived (at_colon s d a q b i) root e = absurd (cc)

stands_at_start : Stands start []
unfolding Stands
stands_at_start = at_operand bottom

-- what the machine ends with is derived
pub run_derived : (ts : List TokenModel) (m : Machine) (tree : Tree) → run ts start ≡ Some m → finish m ≡ Some tree → Derives or_level ts tree
unfolding Stands
run_derived ts m tree taken ended = finish_derived (run_stands ts start m [] stands_at_start taken) tree ended
