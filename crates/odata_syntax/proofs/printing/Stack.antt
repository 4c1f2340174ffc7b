-- What waits while a tree is printed, step by step.
use Rattle.std.proofs.Common.{◌≡◌, ◌∙◌, ℕ, ◌+◌, ◌-◌, ◌<◌, List, [], ◌∷◌, ◌++◌, Option, Some, None, take, map, append-nil, append_assoc, false, refl, sym, subst, ap, arith}
use Rattle.std.specs.Prelude.{IfNone, MatchOption, nat_lt}
use Rattle.std.specs.List.{AllByRecursion}
use Rattle.std.specs.Option.{option_to_list}
use Rattle.std.proofs.lemmas.Bool.Decides.{nat_tests}
use Rattle.std.proofs.lemmas.List.Sums.{sum_by-append}
use Rattle.odata_syntax.specs.declared.printer.PrintTask.{PrintTask}
use Rattle.odata_syntax.specs.declared.printer.PrintTask.TheVariants.{Operand}
use Rattle.odata_syntax.specs.CanonicalText.{IsCanonicalText, tree_level, tree_text}
use Rattle.odata_syntax.specs.PrintedTree.{PrintedTrees}
use Rattle.odata_syntax.specs.Tree.{Tree}
use Rattle.odata_syntax.specs.private.Printer.{AllHaveTrees, ArePieceTexts, HasTrees, IsFrontOf, IsPending, IsPieceText, IsReady, Piece, Writes, operand, operand_text, piece_of, piece_weight, waiting, weight}

-- ---- texts of pieces

pub single : (piece : Piece) (text : List ℕ) → ArePieceTexts (piece ∷ []) text → IsPieceText piece text
single piece text are = subst (IsPieceText piece) (sym (are.whole ∙ ap (λ (t : List ℕ). t ++ are.back) are.is_front)) are.is_back

split_texts : (ps qs : List Piece) (text : List ℕ) → ArePieceTexts (ps ++ qs) text → IsFrontOf (ArePieceTexts qs) (ArePieceTexts ps) text
split_texts [] qs text are = record { front = text; back = []; is_front = are; is_back = refl; whole = sym (append-nil text) }
split_texts (p ∷ ps) qs text are =
    let inner = split_texts ps qs are.front are.is_front in
    record {
      front = inner.front;
      back = inner.back ++ are.back;
      is_front = inner.is_front;
      is_back = record { front = inner.back; back = are.back; is_front = inner.is_back; is_back = are.is_back; whole = refl };
      whole = are.whole ∙ ap (λ (t : List ℕ). t ++ are.back) inner.whole ∙ append_assoc inner.front inner.back are.back;
    }

join_texts : (ps qs : List Piece) (front back : List ℕ) → ArePieceTexts qs front → ArePieceTexts ps back → ArePieceTexts (ps ++ qs) (front ++ back)
join_texts [] qs front back first second =
    let same : front ++ back ≡ front = ap (λ (t : List ℕ). front ++ t) second ∙ append-nil front in
    subst (ArePieceTexts qs) (sym same) first
join_texts (p ∷ ps) qs front back first second = record {
  front = front ++ second.front;
  back = second.back;
  is_front = join_texts ps qs front second.front first second.is_front;
  is_back = second.is_back;
  whole = ap (λ (t : List ℕ). front ++ t) second.whole ∙ sym (append_assoc front second.front second.back);
}

regrouped : (a b c d : List ℕ) → (a ++ b) ++ (c ++ d) ≡ a ++ ((b ++ c) ++ d)
regrouped a b c d = simp append_assoc

-- ---- a step

pub step : (root : Piece) (text after : List ℕ) (old new : List Piece) (piece : Piece)
    → IsPending root text (old ++ piece ∷ []) → Writes piece text after old new → IsPending root after new
step root text after old new piece pending writes rest are =
    let cut = split_texts old writes.pieces rest (subst (λ (ps : List Piece). ArePieceTexts ps rest) writes.pushed are) in
    let one : ArePieceTexts (piece ∷ []) (writes.text ++ cut.front) =
    record { front = []; back = writes.text ++ cut.front; is_front = refl; is_back = writes.goes_on cut.front cut.is_front; whole = refl } in
    let all = join_texts old (piece ∷ []) (writes.text ++ cut.front) cut.back one cut.is_back in
    let same : after ++ rest ≡ text ++ ((writes.text ++ cut.front) ++ cut.back) =
    ap (λ (t : List ℕ). t ++ rest) writes.written ∙ ap (λ (t : List ℕ). (text ++ writes.text) ++ t) cut.whole
    ∙ regrouped text writes.text cut.front cut.back in
    subst (IsPieceText root) (sym same) (pending ((writes.text ++ cut.front) ++ cut.back) all)

-- one piece after others, and pieces after that
pub put_below : (old mid new : List Piece) (piece : Piece) (more : List Piece) → mid ≡ old ++ piece ∷ [] → new ≡ mid ++ more → new ≡ old ++ (piece ∷ more)
put_below old mid new piece more first rest = rest ∙ ap (λ (ps : List Piece). ps ++ more) first ∙ append_assoc old (piece ∷ []) more

-- ---- tasks

-- what `pop` says of what is left
emptied : {X : Type 0} (o : Option X) (all new : List X) (n m : ℕ) → MatchOption o ((n ≡ 0) × (m ≡ 0)) (λ _. m + 1 ≡ n) → new ≡ take (n - 1) all → IfNone o (new ≡ [])
emptied None all new n m cases rest =
    let zero : n ≡ 0 = cases.0 in
    let before : n - 1 ≡ 0 = omega arith in
    rest ∙ ap (λ (k : ℕ). take k all) before
emptied (Some x) all new n m cases rest = tt

all_joined : {X : Type 0} (P : X → Type 0) (xs ys : List X) → AllByRecursion P xs → AllByRecursion P ys → AllByRecursion P (xs ++ ys)
all_joined P [] ys first second = second
all_joined P (x ∷ xs) ys first second = (first.0, all_joined P xs ys first.1 second)

all_front : {X : Type 0} (P : X → Type 0) (xs ys : List X) → AllByRecursion P (xs ++ ys) → AllByRecursion P xs
all_front P [] ys all = tt
all_front P (x ∷ xs) ys all = (all.0, all_front P xs ys all.1)

last_of_all : {X : Type 0} (P : X → Type 0) (xs : List X) (x : X) → AllByRecursion P (xs ++ x ∷ []) → P x
last_of_all P [] x all = all.0
last_of_all P (y ∷ xs) x all = last_of_all P xs x all.1

module _ {N I : Type 0} (trees : PrintedTrees N I) where
  pub pieces_snoc : (tasks : List (PrintTask N I)) (task : PrintTask N I) → map (piece_of trees) (tasks ++ task ∷ []) ≡ map (piece_of trees) tasks ++ piece_of trees task ∷ []
  pieces_snoc [] task = refl
  pieces_snoc (x ∷ xs) task = ap (λ (ps : List Piece). piece_of trees x ∷ ps) (pieces_snoc xs task)

  -- one more task on the stack
  pub put_task : (old new : List (PrintTask N I)) (task : PrintTask N I) → new ≡ old ++ task ∷ []
      → map (piece_of trees) new ≡ map (piece_of trees) old ++ piece_of trees task ∷ []
  put_task old new task same = ap (map (piece_of trees)) same ∙ pieces_snoc old task

  -- one more task, and one that is next
  pub put_both : (old new : List (PrintTask N I)) (task next : PrintTask N I) → new ≡ old ++ task ∷ []
      → map (piece_of trees) (waiting new (Some next)) ≡ map (piece_of trees) old ++ (piece_of trees task ∷ piece_of trees next ∷ [])
  put_both old new task next same =
      put_below (map (piece_of trees) old) (map (piece_of trees) new) (map (piece_of trees) (waiting new (Some next))) (piece_of trees task)
      (piece_of trees next ∷ []) (put_task old new task same) (pieces_snoc new next)

  -- the last task is taken from the stack
  pub then_popped : (piece : Piece) (before after : List ℕ) (all new : List (PrintTask N I)) (o : Option (PrintTask N I)) → all ≡ new ++ option_to_list o
      → Writes piece before after (map (piece_of trees) all) (map (piece_of trees) all)
      → Writes piece before after (map (piece_of trees) all) (map (piece_of trees) (waiting new o))
  then_popped piece before after all new o same writes =
      subst (λ (ts : List (PrintTask N I)). Writes piece before after (map (piece_of trees) all) (map (piece_of trees) ts)) same writes

  -- their trees
  pub task_there : (old new : List (PrintTask N I)) (task : PrintTask N I) → new ≡ old ++ task ∷ [] → HasTrees trees task
      → AllHaveTrees trees old → AllHaveTrees trees new
  task_there old new task same there all =
      subst (AllHaveTrees trees) (sym same) (all_joined (HasTrees trees) old (task ∷ []) all (there, tt))

  pub next_ready : (tasks : List (PrintTask N I)) (next : PrintTask N I) → HasTrees trees next → AllHaveTrees trees tasks → IsReady trees tasks (Some next)
  next_ready tasks next there all = record { have = all_joined (HasTrees trees) tasks (next ∷ []) all (there, tt); none = tt }

  pub popped_ready : (all new : List (PrintTask N I)) (o : Option (PrintTask N I)) (n m : ℕ) → all ≡ new ++ option_to_list o
      → MatchOption o ((n ≡ 0) × (m ≡ 0)) (λ _. m + 1 ≡ n) → new ≡ take (n - 1) all → AllHaveTrees trees all → IsReady trees new o
  popped_ready all new o n m same cases rest have = record { have = subst (AllHaveTrees trees) same have; none = emptied o all new n m cases rest }

  -- the task that is next
  pub next_there : (tasks : List (PrintTask N I)) (task : PrintTask N I) → AllHaveTrees trees (waiting tasks (Some task)) → HasTrees trees task
  next_there tasks task have = last_of_all (HasTrees trees) tasks task have

  pub others_there : (tasks : List (PrintTask N I)) (task : PrintTask N I) → AllHaveTrees trees (waiting tasks (Some task)) → AllHaveTrees trees tasks
  others_there tasks task have = all_front (HasTrees trees) tasks (task ∷ []) have

  pub on_top : (root : Piece) (text : List ℕ) (tasks : List (PrintTask N I)) (task : PrintTask N I)
      → IsPending root text (map (piece_of trees) (waiting tasks (Some task))) → IsPending root text (map (piece_of trees) tasks ++ piece_of trees task ∷ [])
  on_top root text tasks task pending = subst (λ (ps : List Piece). IsPending root text ps) (pieces_snoc tasks task) pending

  pub lighter_than : (text after : List ℕ) (tasks : List (PrintTask N I)) (new : List Piece) (task : PrintTask N I)
      → Writes (piece_of trees task) text after (map (piece_of trees) tasks) new → weight new < weight (map (piece_of trees) (waiting tasks (Some task)))
  lighter_than text after tasks new task writes =
      let before : weight (map (piece_of trees) (waiting tasks (Some task))) ≡ weight (map (piece_of trees) tasks) + weight (piece_of trees task ∷ []) =
      ap weight (pieces_snoc tasks task) ∙ sum_by-append piece_weight (map (piece_of trees) tasks) (piece_of trees task ∷ []) in
      let now : weight new ≡ weight (map (piece_of trees) tasks) + weight writes.pieces =
      ap weight writes.pushed ∙ sum_by-append piece_weight (map (piece_of trees) tasks) writes.pieces in
      omega (arith, writes.lighter, before, now)

-- ---- the first part and the last

not_below_none : (n : ℕ) → nat_lt n 0 ≡ false
not_below_none n = grind (arith, nat_tests)

pub ungrouped : (tree : Tree) → operand_text 0 tree ≡ tree_text tree
ungrouped tree = let loose : nat_lt (tree_level tree) 0 ≡ false = not_below_none (tree_level tree) in rw loose refl

module _ {N I : Type 0} (trees : PrintedTrees N I) where
  pub begun : (root : N) (text : List ℕ) (tasks : List (PrintTask N I)) → text ≡ [] → tasks ≡ []
      → IsPending (operand 0 (trees.tree_of root)) text (map (piece_of trees) (waiting tasks (Some (Operand root 0))))
  begun root text tasks empty none rest are =
      let piece : Piece = operand 0 (trees.tree_of root) in
      let alone : IsPieceText piece rest =
      single piece rest (subst (λ (ts : List (PrintTask N I)). ArePieceTexts (map (piece_of trees) (waiting ts (Some (Operand root 0)))) rest) none are) in
      subst (λ (t : List ℕ). IsPieceText piece (t ++ rest)) (sym empty) alone

  pub begun_ready : (root : N) (tasks : List (PrintTask N I)) → tasks ≡ [] → trees.HasTree root → IsReady trees tasks (Some (Operand root 0))
  begun_ready root tasks none there = next_ready trees tasks (Operand root 0) there (subst (AllHaveTrees trees) (sym none) tt)

  pub ended : (tree : Tree) (text : List ℕ) (tasks : List (PrintTask N I)) (next : Option (PrintTask N I)) → next ≡ None → IsReady trees tasks next
      → IsPending (operand 0 tree) text (map (piece_of trees) (waiting tasks next)) → IsCanonicalText tree text
  ended tree text tasks None is ready pending =
      let empty : waiting tasks None ≡ [] = append-nil tasks ∙ ready.none in
      let last = pending [] (subst (λ (ts : List (PrintTask N I)). ArePieceTexts (map (piece_of trees) ts) []) (sym empty) refl) in
      record { normal = last.normal; is_normal = last.is_normal; printed = sym (append-nil text) ∙ last.printed ∙ ungrouped last.normal }
  ended tree text tasks (Some task) is ready pending = cc
