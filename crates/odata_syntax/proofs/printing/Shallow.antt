-- A canonical text has no more parentheses open at once than any tokens of which its tree is derived.
use Rattle.std.proofs.Common.{◌≡◌, inl, inr, ℕ, zero, suc, ◌+◌, ◌≤◌, nat_lt, Bool, true, false, cond, List, [], ◌∷◌, ◌++◌, length, take, arith, refl, sym, ◌∙◌, ap, subst, append_assoc, append-nil}
use Rattle.std.proofs.lemmas.Bool.Decides.{nat_tests}
use Rattle.std.proofs.lemmas.List.{take_all}
use Rattle.std.proofs.lemmas.List.Sums.{sum_by-cons}
use Rattle.odata_text.specs.Printing.{Print, print_tokens}
use Rattle.odata_text.specs.TokenModel.{TokenModel}
use Rattle.odata_text.specs.declared.token.TokenKind.{TokenKind}
use Rattle.odata_syntax.specs.declared.node.LiteralKind.{LiteralKind}
use Rattle.odata_syntax.specs.CanonicalText.{shape_level, tree_level}
use Rattle.odata_syntax.specs.Front.{IsShallow, close_count, closes, depth_limit, open_count, opens}
use Rattle.odata_syntax.specs.Grammar.{Derives, DerivesFurther, DerivesItems, Level, base_level, derives_any_item, derives_binary, derives_call, derives_count, derives_group, derives_has, derives_in_list, derives_in_path, derives_it, derives_lambda, derives_literal, derives_member, derives_name, derives_negation, derives_not, looser, no_further, no_items, one_further, open_path_level, operator_level, or_level, path_level, primary_level, some_items, unary_level}
use Rattle.odata_syntax.specs.Lexeme.{SpellsLiteral}
use Rattle.odata_syntax.specs.NormalForm.{literal_token}
use Rattle.odata_syntax.specs.Tree.{Shape, Tree, Trees, any_item, binary, call, count, has, in_list, in_path, it, lambda, literal, logical_not, member, more_trees, name, negation, no_trees, node, shape_of}
use Rattle.odata_syntax.proofs.printing.Again.{some_level}
use Rattle.odata_syntax.proofs.printing.Pieces.{close_piece, further_pieces, group_pieces, open_piece, pieces, shape_pieces, trees_pieces}
use Rattle.odata_syntax.proofs.printing.Readable.{tall}

-- Room for parentheses.

-- after a `(` one less may be opened
abbrev Behind : (ℕ → Type 0) → ℕ → Type 0
Behind P zero = ⊥
Behind P (suc k) = P k

-- after a token that opens or closes, or does neither
abbrev Left : Bool → Bool → (ℕ → Type 0) → ℕ → Type 0
Left true c P k = Behind P k
Left false true P k = P (suc k)
Left false false P k = P k

-- no beginning of the tokens has more than that many `(` without their `)`
abbrev Fits : List TokenModel → ℕ → Type 0
Fits [] k = Unit {0}
Fits (t ∷ ts) k = Left (opens t.kind) (closes t.kind) (λ j. Fits ts j) k

abbrev FitPieces : List Print → ℕ → Type 0
FitPieces [] k = Unit {0}
FitPieces (p ∷ ps) k = Left (opens p.kind) (closes p.kind) (λ j. FitPieces ps j) k

behind_then : (P Q : ℕ → Type 0) → ((j : ℕ) → P j → Q j) → (k : ℕ) → Behind P k → Behind Q k
behind_then P Q then zero h = h
behind_then P Q then (suc k) h = then k h

left_then : (o c : Bool) (P Q : ℕ → Type 0) → ((j : ℕ) → P j → Q j) → (k : ℕ) → Left o c P k → Left o c Q k
left_then true c P Q then k h = behind_then P Q then k h
left_then false true P Q then k h = then (suc k) h
left_then false false P Q then k h = then k h

-- the tokens of pieces have their parentheses
printed_fit : (ps : List Print) (from k : ℕ) → FitPieces ps k → Fits (print_tokens from ps) k
printed_fit [] from k h = tt
printed_fit (p ∷ ps) from k h =
    let behind = from + length p.text + length p.gap in
    left_then (opens p.kind) (closes p.kind) (λ j. FitPieces ps j) (λ j. Fits (print_tokens behind ps) j) (λ j g. printed_fit ps behind j g) k h

-- Room, and counts.

no_close : (kind : TokenKind) → opens kind ≡ true → closes kind ≡ false
no_close TokenKind.Open is = refl
no_close TokenKind.Word is = absurd (cc)
no_close TokenKind.Dollar is = absurd (cc)
no_close TokenKind.Int is = absurd (cc)
no_close TokenKind.Date is = absurd (cc)
no_close TokenKind.Moment is = absurd (cc)
no_close TokenKind.Guid is = absurd (cc)
no_close TokenKind.Str is = absurd (cc)
no_close TokenKind.EnumLit is = absurd (cc)
no_close TokenKind.Close is = absurd (cc)
no_close TokenKind.Comma is = absurd (cc)
no_close TokenKind.Slash is = absurd (cc)
no_close TokenKind.Colon is = absurd (cc)
no_close TokenKind.Minus is = absurd (cc)

more_open : (t : TokenModel) (ts : List TokenModel) → open_count (t ∷ ts) ≡ cond (opens t.kind) 1 0 + open_count ts
more_open t ts = sum_by-cons (λ (k : TokenModel). cond (opens k.kind) 1 0) t ts

more_close : (t : TokenModel) (ts : List TokenModel) → close_count (t ∷ ts) ≡ cond (closes t.kind) 1 0 + close_count ts
more_close t ts = sum_by-cons (λ (k : TokenModel). cond (closes k.kind) 1 0) t ts

-- every beginning opens no more than that many
abbrev IsWithin : List TokenModel → ℕ → Type 0
IsWithin ts k = (n : ℕ) → open_count (take n ts) ≤ close_count (take n ts) + k

-- what one more token adds to a beginning
stepped : (t : TokenModel) (ts : List TokenModel) (k n : ℕ) → IsWithin (t ∷ ts) k
    → cond (opens t.kind) 1 0 + open_count (take n ts) ≤ (cond (closes t.kind) 1 0 + close_count (take n ts)) + k
stepped t ts k n h =
    let whole : open_count (t ∷ take n ts) ≤ close_count (t ∷ take n ts) + k = h (suc n) in
    let o = more_open t (take n ts) in
    let c = more_close t (take n ts) in
    omega (arith, whole, o, c)

fits_within : (ts : List TokenModel) (k : ℕ) → IsWithin ts k → Fits ts k
fits_within [] k h = tt
fits_within (t ∷ ts) k h = by (opens t.kind) (closes t.kind) refl refl (λ j w. fits_within ts j w)
  where
    room : (k : ℕ) → ((n : ℕ) → 1 + open_count (take n ts) ≤ close_count (take n ts) + k) → ((j : ℕ) → IsWithin ts j → Fits ts j) → Behind (λ j. Fits ts j) k
    room zero more inner =
        let here = more 0 in
        let none : close_count (take {A = TokenModel} 0 ts) ≡ 0 = refl in
        absurd (omega (arith, here, none))
    room (suc j) more inner = inner j (λ n. let here = more n in omega (arith, here))

    step : (o c : Bool) → opens t.kind ≡ o → closes t.kind ≡ c → (n : ℕ) → cond o 1 0 + open_count (take n ts) ≤ (cond c 1 0 + close_count (take n ts)) + k
    step o c o_is c_is n =
        let P : Bool → Bool → Type 0 = λ a b. cond a 1 0 + open_count (take n ts) ≤ (cond b 1 0 + close_count (take n ts)) + k in
        subst (λ b. P o b) c_is (subst (λ a. P a (closes t.kind)) o_is (stepped t ts k n h))

    by : (o c : Bool) → opens t.kind ≡ o → closes t.kind ≡ c → ((j : ℕ) → IsWithin ts j → Fits ts j) → Left o c (λ j. Fits ts j) k
    by true c o_is c_is inner = room k (λ n. let more = step true false o_is (no_close t.kind o_is) n in omega (arith, more)) inner
    by false true o_is c_is inner = inner (suc k) (λ n. let more = step false true o_is c_is n in omega (arith, more))
    by false false o_is c_is inner = inner k (λ n. let more = step false false o_is c_is n in omega (arith, more))

within_fits : (ts : List TokenModel) (k : ℕ) → Fits ts k → IsWithin ts k
within_fits [] k h n =
    let same : take {A = TokenModel} n [] ≡ [] = take_all n [] (omega arith) in
    rw same (omega arith)
within_fits (t ∷ ts) k h zero = omega arith
within_fits (t ∷ ts) k h (suc n) =
    let o = more_open t (take n ts) in
    let c = more_close t (take n ts) in
    let more = by (opens t.kind) (closes t.kind) h (λ j g. within_fits ts j g n) in
    let whole : open_count (t ∷ take n ts) ≤ close_count (t ∷ take n ts) + k = omega (arith, o, c, more) in
    whole
  where
    room : (k : ℕ) → Behind (λ j. Fits ts j) k → ((j : ℕ) → Fits ts j → open_count (take n ts) ≤ close_count (take n ts) + j) → 1 + open_count (take n ts) ≤ close_count (take n ts) + k
    room zero g inner = absurd g
    room (suc j) g inner = let rest = inner j g in omega (arith, rest)

    by : (o c : Bool) → Left o c (λ j. Fits ts j) k → ((j : ℕ) → Fits ts j → open_count (take n ts) ≤ close_count (take n ts) + j) → cond o 1 0 + open_count (take n ts) ≤ (cond c 1 0 + close_count (take n ts)) + k
    by true true g inner = let rest = room k g inner in omega (arith, rest)
    by true false g inner = let rest = room k g inner in omega (arith, rest)
    by false true g inner = let rest = inner (suc k) g in omega (arith, rest)
    by false false g inner = let rest = inner k g in omega (arith, rest)

-- Tokens one by one.

skipped : (t : TokenModel) (ts : List TokenModel) (k : ℕ) (kind : TokenKind) → t.kind ≡ kind → opens kind ≡ false → closes kind ≡ false → Fits (t ∷ ts) k → Fits ts k
skipped t ts k kind is o c h =
    let P : Bool → Bool → Type 0 = λ a b. Left a b (λ j. Fits ts j) k in
    let shut : P false (closes t.kind) = subst (λ a. P a (closes t.kind)) (ap opens is ∙ o) h in
    subst (λ b. P false b) (ap closes is ∙ c) shut

opened : (t : TokenModel) (ts : List TokenModel) (k : ℕ) → t.kind ≡ TokenKind.Open → Fits (t ∷ ts) k → Behind (λ j. Fits ts j) k
opened t ts k is h = subst (λ a. Left a (closes t.kind) (λ j. Fits ts j) k) (ap opens is) h

closed : (t : TokenModel) (ts : List TokenModel) (k : ℕ) → t.kind ≡ TokenKind.Close → Fits (t ∷ ts) k → Fits ts (suc k)
closed t ts k is h =
    let P : Bool → Bool → Type 0 = λ a b. Left a b (λ j. Fits ts j) k in
    let shut : P false (closes t.kind) = subst (λ a. P a (closes t.kind)) (ap opens is) h in
    subst (λ b. P false b) (ap closes is) shut

literal_kind : (kind : LiteralKind) (t : TokenModel) → SpellsLiteral kind t → t.kind ≡ literal_token kind
literal_kind LiteralKind.Null t is = is.of_kind
literal_kind LiteralKind.Bool t (inl is) = is.of_kind
literal_kind LiteralKind.Bool t (inr is) = is.of_kind
literal_kind LiteralKind.Int t is = is.of_kind
literal_kind LiteralKind.Date t is = is.of_kind
literal_kind LiteralKind.Moment t is = is.of_kind
literal_kind LiteralKind.Guid t is = is.of_kind
literal_kind LiteralKind.Str t is = is.of_kind
literal_kind LiteralKind.EnumLit t is = is.of_kind

literal_opens : (kind : LiteralKind) → opens (literal_token kind) ≡ false
literal_opens LiteralKind.Null = refl
literal_opens LiteralKind.Bool = refl
literal_opens LiteralKind.Int = refl
literal_opens LiteralKind.Date = refl
literal_opens LiteralKind.Moment = refl
literal_opens LiteralKind.Guid = refl
literal_opens LiteralKind.Str = refl
literal_opens LiteralKind.EnumLit = refl

literal_closes : (kind : LiteralKind) → closes (literal_token kind) ≡ false
literal_closes LiteralKind.Null = refl
literal_closes LiteralKind.Bool = refl
literal_closes LiteralKind.Int = refl
literal_closes LiteralKind.Date = refl
literal_closes LiteralKind.Moment = refl
literal_closes LiteralKind.Guid = refl
literal_closes LiteralKind.Str = refl
literal_closes LiteralKind.EnumLit = refl

-- Trees.

abbrev Grouped : Bool → (ℕ → Type 0) → ℕ → Type 0
Grouped true P k = Behind P k
Grouped false P k = P k

-- with its parentheses, where the position needs a tighter level than its own
abbrev Placed : Level → Level → (ℕ → Type 0) → ℕ → Type 0
Placed needed own P k = Grouped (nat_lt own needed) P k

-- a tree's canonical text needs no more than that many
abbrev mutual
  FitTree : Tree → ℕ → Type 0
  FitTree (node start stop shape) k = FitShape shape k

  FitShape : Shape → ℕ → Type 0
  FitShape (literal kind text) k = Unit {0}
  FitShape it k = Unit {0}
  FitShape (name text) k = Unit {0}
  FitShape (member base text) k = FitTree base k
  FitShape (count base) k = FitTree base k
  FitShape (negation operand) k = Placed unary_level (tree_level operand) (λ j. FitTree operand j) k
  FitShape (logical_not operand) k = Placed unary_level (tree_level operand) (λ j. FitTree operand j) k
  FitShape (binary operator left right) k =
      Placed (operator_level operator) (tree_level left) (λ j. FitTree left j) k × Placed (suc (operator_level operator)) (tree_level right) (λ j. FitTree right j) k
  FitShape (has left right) k = Placed primary_level (tree_level left) (λ j. FitTree left j) k × Placed base_level (tree_level right) (λ j. FitTree right j) k
  FitShape (in_list left items) k = Placed primary_level (tree_level left) (λ j. FitTree left j) k × Behind (λ j. FitTrees items j) k
  FitShape (in_path left path) k = Placed primary_level (tree_level left) (λ j. FitTree left j) k × Placed path_level (tree_level path) (λ j. FitTree path j) k
  FitShape (call text arguments) k = Behind (λ j. FitTrees arguments j) k
  FitShape (any_item base) k = FitTree base k × Behind (λ j. Unit {0}) k
  FitShape (lambda quantifier base variable body) k = FitTree base k × Behind (λ j. FitTree body j) k

  FitTrees : Trees → ℕ → Type 0
  FitTrees no_trees k = Unit {0}
  FitTrees (more_trees tree trees) k = FitTree tree k × FitTrees trees k

-- More room is as good.

behind_more : (P : ℕ → Type 0) → ((j : ℕ) → P j → P (suc j)) → (k : ℕ) → Behind P k → Behind P (suc k)
behind_more P more zero h = absurd h
behind_more P more (suc k) h = more k h

placed_more : (needed own : Level) (P : ℕ → Type 0) → ((j : ℕ) → P j → P (suc j)) → (k : ℕ) → Placed needed own P k → Placed needed own P (suc k)
placed_more needed own P more k = by (nat_lt own needed)
  where
    by : (b : Bool) → Grouped b P k → Grouped b P (suc k)
    by true h = behind_more P more k h
    by false h = more k h

mutual
  tree_more : (tree : Tree) (k : ℕ) → FitTree tree k → FitTree tree (suc k)
  tree_more (node start stop shape) k h = shape_more shape k h

  shape_more : (shape : Shape) (k : ℕ) → FitShape shape k → FitShape shape (suc k)
  shape_more (literal kind text) k h = tt
  shape_more it k h = tt
  shape_more (name text) k h = tt
  shape_more (member base text) k h = tree_more base k h
  shape_more (count base) k h = tree_more base k h
  shape_more (negation operand) k h = placed_more unary_level (tree_level operand) (λ j. FitTree operand j) (λ j g. tree_more operand j g) k h
  shape_more (logical_not operand) k h = placed_more unary_level (tree_level operand) (λ j. FitTree operand j) (λ j g. tree_more operand j g) k h
  shape_more (binary operator left right) k h = (
    placed_more (operator_level operator) (tree_level left) (λ j. FitTree left j) (λ j g. tree_more left j g) k h.0,
    placed_more (suc (operator_level operator)) (tree_level right) (λ j. FitTree right j) (λ j g. tree_more right j g) k h.1,
  )
  shape_more (has left right) k h = (
    placed_more primary_level (tree_level left) (λ j. FitTree left j) (λ j g. tree_more left j g) k h.0,
    placed_more base_level (tree_level right) (λ j. FitTree right j) (λ j g. tree_more right j g) k h.1,
  )
  shape_more (in_list left items) k h = (
    placed_more primary_level (tree_level left) (λ j. FitTree left j) (λ j g. tree_more left j g) k h.0,
    behind_more (λ j. FitTrees items j) (λ j g. trees_more items j g) k h.1,
  )
  shape_more (in_path left path) k h = (
    placed_more primary_level (tree_level left) (λ j. FitTree left j) (λ j g. tree_more left j g) k h.0,
    placed_more path_level (tree_level path) (λ j. FitTree path j) (λ j g. tree_more path j g) k h.1,
  )
  shape_more (call text arguments) k h = behind_more (λ j. FitTrees arguments j) (λ j g. trees_more arguments j g) k h
  shape_more (any_item base) k h = (tree_more base k h.0, behind_more (λ j. Unit {0}) (λ j g. g) k h.1)
  shape_more (lambda quantifier base variable body) k h = (tree_more base k h.0, behind_more (λ j. FitTree body j) (λ j g. tree_more body j g) k h.1)

  trees_more : (trees : Trees) (k : ℕ) → FitTrees trees k → FitTrees trees (suc k)
  trees_more no_trees k h = tt
  trees_more (more_trees tree trees) k h = (tree_more tree k h.0, trees_more trees k h.1)

-- Levels.

no_lower : (own needed : ℕ) → needed ≤ own → nat_lt own needed ≡ false
no_lower own needed h = grind (arith, nat_tests)

lower_too : (own needed : ℕ) → nat_lt own needed ≡ true → nat_lt own (suc needed) ≡ true
lower_too own needed h = grind (arith, nat_tests)

-- as tight as needed, it stands without parentheses
stays : (needed own : Level) (P : ℕ → Type 0) (k : ℕ) → needed ≤ own → P k → Placed needed own P k
stays needed own P k tight h = subst (λ b. Grouped b P k) (sym (no_lower own needed tight)) h

stood : (needed own : Level) (P : ℕ → Type 0) (k : ℕ) → needed ≤ own → Placed needed own P k → P k
stood needed own P k tight h = subst (λ b. Grouped b P k) (no_lower own needed tight) h

-- what fits a tighter position fits a looser one
placed_looser : (level : Level) (tree : Tree) (k : ℕ) → Placed (suc level) (tree_level tree) (λ j. FitTree tree j) k → Placed level (tree_level tree) (λ j. FitTree tree j) k
placed_looser level tree k h = by (nat_lt (tree_level tree) level) (nat_lt (tree_level tree) (suc level)) refl refl h
  where
    out : (k : ℕ) → Behind (λ j. FitTree tree j) k → FitTree tree k
    out zero g = absurd g
    out (suc j) g = tree_more tree j g

    by : (a b : Bool) → nat_lt (tree_level tree) level ≡ a → nat_lt (tree_level tree) (suc level) ≡ b → Grouped b (λ j. FitTree tree j) k → Grouped a (λ j. FitTree tree j) k
    by true true a_is b_is g = g
    by true false a_is b_is g =
        let clash : true ≡ false = sym (lower_too (tree_level tree) level a_is) ∙ b_is in
        absurd (cc)
    by false true a_is b_is g = out k g
    by false false a_is b_is g = g

-- parentheses round a whole expression are those that its position may need
regrouped : (tree : Tree) (k : ℕ) → Behind (λ j. Placed or_level (tree_level tree) (λ i. FitTree tree i) j) k → Placed base_level (shape_level (shape_of tree)) (λ j. FitShape (shape_of tree) j) k
regrouped tree zero h = absurd h
regrouped (node start stop shape) (suc j) h = by (nat_lt (shape_level shape) base_level) (stood or_level (shape_level shape) (λ i. FitShape shape i) j (some_level (node start stop shape)) h)
  where
    by : (b : Bool) → FitShape shape j → Grouped b (λ i. FitShape shape i) (suc j)
    by true g = g
    by false g = shape_more shape j g

-- Derived trees.

-- whatever stands after them, tokens leave the room that they took
abbrev Leaves : List TokenModel → (ℕ → Type 0) → Type 0
Leaves ts P = (rest : List TokenModel) (k : ℕ) → Fits (ts ++ rest) k → P k × Fits rest k

-- a front of tokens, and the others
abbrev ParentedBy : List TokenModel → List TokenModel → List TokenModel → ℕ → Type 0
ParentedBy ls rs rest k = Fits (ls ++ (rs ++ rest)) k

parted : (ls rs rest : List TokenModel) (k : ℕ) → Fits ((ls ++ rs) ++ rest) k → ParentedBy ls rs rest k
parted ls rs rest k h = subst (λ (xs : List TokenModel). Fits xs k) (append_assoc ls rs rest) h

enclosed : (first last : TokenModel) (is : List TokenModel) (P : ℕ → Type 0) → first.kind ≡ TokenKind.Open → last.kind ≡ TokenKind.Close → Leaves is P → Leaves (first ∷ (is ++ (last ∷ []))) (λ k. Behind P k)
enclosed first last is P open_is close_is inner rest k h = by k (opened first ((is ++ (last ∷ [])) ++ rest) k open_is h)
  where
    by : (k : ℕ) → Behind (λ j. Fits ((is ++ (last ∷ [])) ++ rest) j) k → Behind P k × Fits rest k
    by zero g = absurd g
    by (suc j) g =
        let own = inner (last ∷ rest) j (parted is (last ∷ []) rest j g) in
        (own.0, closed last rest j close_is own.1)

-- a path that goes on needs no parentheses
path_stands : {bs : List TokenModel} {base : Tree} → Derives open_path_level bs base → (k : ℕ) → Placed open_path_level (tree_level base) (λ j. FitTree base j) k → FitTree base k
path_stands {bs} {base} d k h = stood open_path_level (tree_level base) (λ j. FitTree base j) k (tall d (omega arith)) h

mutual
  derived_fits : {level : Level} {ts : List TokenModel} {tree : Tree} → Derives level ts tree → Leaves ts (λ k. Placed level (tree_level tree) (λ j. FitTree tree j) k)
  derived_fits (looser {level} {ts} {tree} d) rest k h =
      let inner = derived_fits d rest k h in
      (placed_looser level tree k inner.0, inner.1)
  derived_fits (derives_binary {operator} {ls} {rs} {t} {left} {right} dl o dr) rest k h =
      let l = derived_fits dl ((t ∷ rs) ++ rest) k (parted ls (t ∷ rs) rest k h) in
      let r = derived_fits dr rest k (skipped t (rs ++ rest) k TokenKind.Word o.word.of_kind refl refl l.1) in
      let level = operator_level operator in
      (stays level level (λ j. FitShape (binary operator left right) j) k (omega arith) (l.0, r.0), r.1)
  derived_fits (derives_negation {t} {ts} m d) rest k h = derived_fits d rest k (skipped t (ts ++ rest) k TokenKind.Minus m.of_kind refl refl h)
  derived_fits (derives_not {t} {ts} w d) rest k h = derived_fits d rest k (skipped t (ts ++ rest) k TokenKind.Word w.of_kind refl refl h)
  derived_fits (derives_has {ls} {rs} {t} dl w dr) rest k h =
      let l = derived_fits dl ((t ∷ rs) ++ rest) k (parted ls (t ∷ rs) rest k h) in
      let r = derived_fits dr rest k (skipped t (rs ++ rest) k TokenKind.Word w.of_kind refl refl l.1) in
      ((l.0, r.0), r.1)
  derived_fits (derives_in_list {ls} {is} {t} {first} {last} {left} {items} dl w o d c) rest k h =
      let l = derived_fits dl ((t ∷ first ∷ (is ++ (last ∷ []))) ++ rest) k (parted ls (t ∷ first ∷ (is ++ (last ∷ []))) rest k h) in
      let behind = skipped t (first ∷ ((is ++ (last ∷ [])) ++ rest)) k TokenKind.Word w.of_kind refl refl l.1 in
      let r = enclosed first last is (λ j. FitTrees items j) o.of_kind c.of_kind (λ more j g. items_fit d more j g) rest k behind in
      ((l.0, r.0), r.1)
  derived_fits (derives_in_path {ls} {rs} {t} dl w dr) rest k h =
      let l = derived_fits dl ((t ∷ rs) ++ rest) k (parted ls (t ∷ rs) rest k h) in
      let r = derived_fits dr rest k (skipped t (rs ++ rest) k TokenKind.Word w.of_kind refl refl l.1) in
      ((l.0, r.0), r.1)
  derived_fits (derives_literal {kind} {t} l) rest k h = (tt, skipped t rest k (literal_token kind) (literal_kind kind t l.spelled) (literal_opens kind) (literal_closes kind) h)
  derived_fits (derives_call {is} {t} {first} {last} {arguments} n o d c) rest k h =
      enclosed first last is (λ j. FitTrees arguments j) o.of_kind c.of_kind (λ more j g. items_fit d more j g) rest k
      (skipped t (first ∷ ((is ++ (last ∷ [])) ++ rest)) k TokenKind.Word n.of_kind refl refl h)
  derived_fits (derives_group {ts} {first} {last} {tree} o d c) rest k h =
      let r = enclosed first last ts (λ j. Placed or_level (tree_level tree) (λ i. FitTree tree i) j) o.of_kind c.of_kind (λ more j g. derived_fits d more j g) rest k h in
      (regrouped tree k r.0, r.1)
  derived_fits (derives_count {bs} {slash} {t} {base} d s w) rest k h =
      let b = derived_fits d ((slash ∷ t ∷ []) ++ rest) k (parted bs (slash ∷ t ∷ []) rest k h) in
      (path_stands d k b.0, skipped t rest k TokenKind.Dollar w.of_kind refl refl (skipped slash (t ∷ rest) k TokenKind.Slash s.of_kind refl refl b.1))
  derived_fits (derives_any_item {bs} {slash} {t} {first} {last} {base} d s q o c) rest k h =
      let b = derived_fits d ((slash ∷ t ∷ first ∷ last ∷ []) ++ rest) k (parted bs (slash ∷ t ∷ first ∷ last ∷ []) rest k h) in
      let word = skipped slash (t ∷ first ∷ last ∷ rest) k TokenKind.Slash s.of_kind refl refl b.1 in
      let behind = skipped t (first ∷ last ∷ rest) k TokenKind.Word q.word.of_kind refl refl word in
      let r = enclosed first last [] (λ j. Unit {0}) o.of_kind c.of_kind (λ more j g. (tt, g)) rest k behind in
      ((path_stands d k b.0, r.0), r.1)
  derived_fits (derives_lambda {quantifier} {bs} {ts} {slash} {t} {first} {variable} {colon} {last} {base} {body} d s q o v i e c) rest k h =
      let tokens = ts ++ (last ∷ []) in
      let b = derived_fits d ((slash ∷ t ∷ first ∷ variable ∷ colon ∷ tokens) ++ rest) k (parted bs (slash ∷ t ∷ first ∷ variable ∷ colon ∷ tokens) rest k h) in
      let word = skipped slash (t ∷ first ∷ variable ∷ colon ∷ (tokens ++ rest)) k TokenKind.Slash s.of_kind refl refl b.1 in
      let behind = skipped t (first ∷ variable ∷ colon ∷ (tokens ++ rest)) k TokenKind.Word q.word.of_kind refl refl word in
      let r = enclosed first last (variable ∷ colon ∷ ts) (λ j. FitTree body j) o.of_kind c.of_kind (λ more j g.
      let bound = skipped variable (colon ∷ (ts ++ more)) j TokenKind.Word v.of_kind refl refl g in
      let inner = derived_fits e more j (skipped colon (ts ++ more) j TokenKind.Colon i.of_kind refl refl bound) in
      (stood or_level (tree_level body) (λ x. FitTree body x) j (some_level body) inner.0, inner.1)) rest k behind in
      ((path_stands d k b.0, r.0), r.1)
  derived_fits (derives_it {t} w) rest k h = (tt, skipped t rest k TokenKind.Dollar w.of_kind refl refl h)
  derived_fits (derives_name {t} n) rest k h = (tt, skipped t rest k TokenKind.Word n.of_kind refl refl h)
  derived_fits (derives_member {bs} {slash} {t} {base} d s w) rest k h =
      let b = derived_fits d ((slash ∷ t ∷ []) ++ rest) k (parted bs (slash ∷ t ∷ []) rest k h) in
      (path_stands d k b.0, skipped t rest k TokenKind.Word w.of_kind refl refl (skipped slash (t ∷ rest) k TokenKind.Slash s.of_kind refl refl b.1))

  items_fit : {is : List TokenModel} {items : Trees} → DerivesItems is items → Leaves is (λ k. FitTrees items k)
  items_fit no_items rest k h = (tt, h)
  items_fit (some_items {ts} {rs} {tree} d later) rest k h =
      let first = derived_fits d (rs ++ rest) k (parted ts rs rest k h) in
      let others = further_fit later rest k first.1 in
      ((stood or_level (tree_level tree) (λ j. FitTree tree j) k (some_level tree) first.0, others.0), others.1)

  further_fit : {is : List TokenModel} {items : Trees} → DerivesFurther is items → Leaves is (λ k. FitTrees items k)
  further_fit no_further rest k h = (tt, h)
  further_fit (one_further {comma} {ts} {rs} {tree} a d later) rest k h =
      let behind = skipped comma ((ts ++ rs) ++ rest) k TokenKind.Comma a.of_kind refl refl h in
      let first = derived_fits d (rs ++ rest) k (parted ts rs rest k behind) in
      let others = further_fit later rest k first.1 in
      ((stood or_level (tree_level tree) (λ j. FitTree tree j) k (some_level tree) first.0, others.0), others.1)

-- Printed trees.

-- pieces fit where what is after them does
abbrev CanBePrinted : (List ℕ → List Print → List Print) → ℕ → Type 0
CanBePrinted inner k = (gap : List ℕ) (behind : List Print) → FitPieces behind k → FitPieces (inner gap behind) k

-- pieces in parentheses, where their position needs them
group_fits : (needed : Level) (tree : Tree) (k : ℕ) → ((j : ℕ) → FitTree tree j → CanBePrinted (λ g b. pieces tree g b) j) → Placed needed (tree_level tree) (λ j. FitTree tree j) k
    → CanBePrinted (λ g b. group_pieces needed (tree_level tree) (λ x y. pieces tree x y) g b) k
group_fits needed tree k can placed gap behind h = by (nat_lt (tree_level tree) needed) placed
  where
    inside : (k : ℕ) → FitPieces behind k → Behind (λ j. FitTree tree j) k → Behind (λ j. FitPieces (pieces tree [] (close_piece gap ∷ behind)) j) k
    inside zero g fit = absurd fit
    inside (suc j) g fit = can j fit [] (close_piece gap ∷ behind) g

    by : (b : Bool) → Grouped b (λ j. FitTree tree j) k → FitPieces (cond b (open_piece ∷ pieces tree [] (close_piece gap ∷ behind)) (pieces tree gap behind)) k
    by true fit = inside k h fit
    by false fit = can k fit gap behind h

-- what stands in parentheses of its own
held : (P Q : ℕ → Type 0) (behind : List Print) (k : ℕ) → ((j : ℕ) → FitPieces behind (suc j) → P j → Q j) → Behind P k → FitPieces behind k → Behind Q k
held P Q behind zero can fit h = absurd fit
held P Q behind (suc j) can fit h = can j h fit

mutual
  pieces_fit : (tree : Tree) (k : ℕ) → FitTree tree k → CanBePrinted (λ g b. pieces tree g b) k
  pieces_fit (node start stop shape) k fit gap behind h = shape_fits shape k fit gap behind h

  shape_fits : (shape : Shape) (k : ℕ) → FitShape shape k → CanBePrinted (λ g b. shape_pieces shape g b) k
  shape_fits (literal kind text) k fit gap behind h =
      let P : Bool → Bool → Type 0 = λ a b. Left a b (λ j. FitPieces behind j) k in
      let shut : P false (closes (literal_token kind)) = subst (λ b. P false b) (sym (literal_closes kind)) h in
      subst (λ a. P a (closes (literal_token kind))) (sym (literal_opens kind)) shut
  shape_fits it k fit gap behind h = h
  shape_fits (name text) k fit gap behind h = h
  shape_fits (member base text) k fit gap behind h = pieces_fit base k fit [] _ h
  shape_fits (count base) k fit gap behind h = pieces_fit base k fit [] _ h
  shape_fits (negation operand) k fit gap behind h = group_fits unary_level operand k (λ j f g b x. pieces_fit operand j f g b x) fit gap behind h
  shape_fits (logical_not operand) k fit gap behind h = group_fits unary_level operand k (λ j f g b x. pieces_fit operand j f g b x) fit gap behind h
  shape_fits (binary operator left right) k fit gap behind h =
      group_fits (operator_level operator) left k (λ j f g b x. pieces_fit left j f g b x) fit.0 _ _
      (group_fits (suc (operator_level operator)) right k (λ j f g b x. pieces_fit right j f g b x) fit.1 gap behind h)
  shape_fits (has left right) k fit gap behind h =
      group_fits primary_level left k (λ j f g b x. pieces_fit left j f g b x) fit.0 _ _
      (group_fits base_level right k (λ j f g b x. pieces_fit right j f g b x) fit.1 gap behind h)
  shape_fits (in_list left items) k fit gap behind h =
      group_fits primary_level left k (λ j f g b x. pieces_fit left j f g b x) fit.0 _ _
      (held (λ j. FitTrees items j) (λ j. FitPieces (trees_pieces items (close_piece gap ∷ behind)) j) behind k (λ j x f. trees_fit items j (close_piece gap ∷ behind) f x) fit.1 h)
  shape_fits (in_path left path) k fit gap behind h =
      group_fits primary_level left k (λ j f g b x. pieces_fit left j f g b x) fit.0 _ _
      (group_fits path_level path k (λ j f g b x. pieces_fit path j f g b x) fit.1 gap behind h)
  shape_fits (call text arguments) k fit gap behind h =
      held (λ j. FitTrees arguments j) (λ j. FitPieces (trees_pieces arguments (close_piece gap ∷ behind)) j) behind k (λ j x f. trees_fit arguments j (close_piece gap ∷ behind) f x) fit h
  shape_fits (any_item base) k fit gap behind h = pieces_fit base k fit.0 [] _
      (held (λ j. Unit {0}) (λ j. FitPieces (close_piece gap ∷ behind) j) behind k (λ j x f. x) fit.1 h)
  shape_fits (lambda quantifier base variable body) k fit gap behind h = pieces_fit base k fit.0 [] _
      (held (λ j. FitTree body j) (λ j. FitPieces (pieces body [] (close_piece gap ∷ behind)) j) behind k (λ j x f. pieces_fit body j f [] (close_piece gap ∷ behind) x) fit.1 h)

  trees_fit : (trees : Trees) (k : ℕ) (behind : List Print) → FitTrees trees k → FitPieces behind k → FitPieces (trees_pieces trees behind) k
  trees_fit no_trees k behind fit h = h
  trees_fit (more_trees tree trees) k behind fit h = pieces_fit tree k fit.0 [] (further_pieces trees behind) (further_fits trees k behind fit.1 h)

  further_fits : (trees : Trees) (k : ℕ) (behind : List Print) → FitTrees trees k → FitPieces behind k → FitPieces (further_pieces trees behind) k
  further_fits no_trees k behind fit h = h
  further_fits (more_trees tree trees) k behind fit h = pieces_fit tree k fit.0 [] (further_pieces trees behind) (further_fits trees k behind fit.1 h)

-- the tokens of a derived tree's pieces are as shallow as those of which it is derived
pub printed_shallow : (ts : List TokenModel) (tree : Tree) → Derives or_level ts tree → IsShallow ts → IsShallow (print_tokens 0 (pieces tree [] []))
printed_shallow ts tree d shallow =
    let room : Fits ts depth_limit = fits_within ts depth_limit shallow.within in
    let own = derived_fits d [] depth_limit (subst (λ (xs : List TokenModel). Fits xs depth_limit) (sym (append-nil ts)) room) in
    let fit = stood or_level (tree_level tree) (λ j. FitTree tree j) depth_limit (some_level tree) own.0 in
    let printed = pieces_fit tree depth_limit fit [] [] tt in
    record { within = within_fits (print_tokens 0 (pieces tree [] [])) depth_limit (printed_fit (pieces tree [] []) 0 depth_limit printed) }
