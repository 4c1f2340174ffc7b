-- How a tree is written, node by node.
use Rattle.std.proofs.Common.{◌≡◌, inl, inr, ◌<◌, ◌≤◌, ℕ, zero, suc, ◌+◌, ◌-◌, List, [], ◌∷◌, ◌++◌, drop, get_or, length, take, Option, Some, None, refl, sym, ap, subst, ◌∙◌, arith, append-nil, append_assoc, reverse}
use Rattle.std.specs.Option.{option_to_list}
use Rattle.std.specs.Prelude.{MatchOption}
use Rattle.std.proofs.lemmas.List.{drop_more, reverse-append}
use Rattle.sql_tree.specs.FixedPieces.{PieceTexts}
use Rattle.sql_tree.specs.NodePieces.{node_pieces}
use Rattle.sql_tree.specs.private.PiecesView.{piece_at}
use Rattle.sql_tree.specs.TableModel.{TableModel}
use Rattle.sql_tree.specs.Term.{Term, term, no_terms, more_terms, nodes_of, nodes_of_all}
use Rattle.sql_tree.specs.TreeText.{CountsFit, IsWhole, NamesWhatIs, text_of, woven}
use Rattle.sql_tree.specs.declared.dialect.Dialect.{Dialect}
use Rattle.sql_tree.specs.declared.printer_frames.Frame.{Frame}
use Rattle.sql_tree.specs.declared.sql_node.SqlNode.{SqlNode}
use Rattle.sql_tree.specs.declared.json_path.Path.{Path}
use Rattle.sql_tree.specs.private.SqlPrinter.{Adds, Completed, Expecting, GoesOn}

-- the pieces from one on
pieces_from : (pieces : PieceTexts) (k : ℕ) → k < length pieces → drop k pieces ≡ piece_at pieces k ∷ drop (suc k) pieces
pieces_from [] k below = absurd (omega (arith, below))
pieces_from (piece ∷ pieces) zero below = refl
pieces_from (piece ∷ pieces) (suc k) below = pieces_from pieces k (omega arith)

-- the last frame of a list is the first of those that wait
pub on_top : (old rest : List Frame) (frame : Frame) → old ≡ rest ++ frame ∷ [] → reverse old ≡ frame ∷ reverse rest
on_top old rest frame is = ap reverse is ∙ reverse-append rest (frame ∷ [])

-- the nodes from one on begin with it
pub from_node : (nodes items : List SqlNode) (k : ℕ) (node : SqlNode) → items ≡ nodes → k < length items → node ≡ get_or items k node → drop k nodes ≡ node ∷ drop (k + 1) nodes
from_node nodes items k node same below is =
    let there : drop k items ≡ node ∷ drop (k + 1) items = drop_more items k node below ∙ ap (λ (n : SqlNode). n ∷ drop (k + 1) items) (sym is) in
    subst (λ (ns : List SqlNode). drop k ns ≡ node ∷ drop (k + 1) ns) same there

-- where no frame is left to take, there was none
pub emptied : (o : Option Frame) (all new : List Frame) (n m : ℕ) → o ≡ None → all ≡ new ++ option_to_list o
    → MatchOption o ((n ≡ 0) × (m ≡ 0)) (λ _. m + 1 ≡ n) → new ≡ take (n - 1) all → new ≡ []
emptied None all new n m is items cases rest =
    let zero : n ≡ 0 = cases.0 in
    let before : n - 1 ≡ 0 = omega arith in
    rest ∙ ap (λ (k : ℕ). take k all) before
emptied (Some x) all new n m is items cases rest = cc

pub all_taken : (o : Option Frame) (all new : List Frame) (n m : ℕ) → o ≡ None → all ≡ new ++ option_to_list o
    → MatchOption o ((n ≡ 0) × (m ≡ 0)) (λ _. m + 1 ≡ n) → new ≡ take (n - 1) all → all ≡ new
all_taken None all new n m is items cases rest = items ∙ append-nil new
all_taken (Some x) all new n m is items cases rest = cc

-- a piece more is added
pub more_added : (before middle after text piece : List ℕ) (Left Next : List ℕ → Type 0) → Adds before middle text Left → after ≡ middle ++ piece
    → ((rest : List ℕ) → Left rest → (later : List ℕ) × (rest ≡ piece ++ later) × Next later) → Adds before after text Next
more_added before middle after text piece Left Next adds is goes =
    let g = goes adds.rest adds.left in
    record {
      added = adds.added ++ piece;
      rest = g.0;
      after_is = is ∙ ap (λ (xs : List ℕ). xs ++ piece) adds.after_is ∙ append_assoc before adds.added piece;
      text_is = adds.text_is ∙ ap (λ (xs : List ℕ). adds.added ++ xs) g.1 ∙ sym (append_assoc adds.added piece g.0);
      left = g.2;
    }

-- what is added twice
pub both_added : (before middle after text : List ℕ) (Left Next : List ℕ → Type 0) → Adds before middle text Left
    → ((rest : List ℕ) → Left rest → Adds middle after rest Next) → Adds before after text Next
both_added before middle after text Left Next adds goes =
    let a = goes adds.rest adds.left in
    record {
      added = adds.added ++ a.added;
      rest = a.rest;
      after_is = a.after_is ∙ ap (λ (xs : List ℕ). xs ++ a.added) adds.after_is ∙ append_assoc before adds.added a.added;
      text_is = adds.text_is ∙ ap (λ (xs : List ℕ). adds.added ++ xs) a.text_is ∙ sym (append_assoc adds.added a.added a.rest);
      left = a.left;
    }

module _ (dialect : Dialect) (table : TableModel) (paths : List Path) where
  -- the frame of a node after one child more
  abbrev next : Frame → Frame
  next frame = record { node = frame.node; done = frame.done + 1 }

  abbrev pieces_of : SqlNode → PieceTexts
  pieces_of node = node_pieces dialect table paths node

  -- the innermost node waits for a child that its text still lacks, and names what is there
  pub waits : (frame : Frame) (frames : List Frame) (nodes : List SqlNode) (text : List ℕ) → Completed dialect table paths (frame ∷ frames) nodes text
      → (frame.done + 1 < length (pieces_of frame.node)) × NamesWhatIs table paths frame.node × CountsFit frame.node
  waits frame frames nodes text (children, more, tail, is_nodes, is_text, counted, named, fit, whole, outer) = (omega arith, named, fit)

  -- the last child of the innermost node was written
  pub last_child : (frame : Frame) (frames : List Frame) (nodes : List SqlNode) (text : List ℕ)
      → Completed dialect table paths (frame ∷ frames) nodes text → length (pieces_of frame.node) ≤ frame.done + 2
      → (rest : List ℕ) × (text ≡ piece_at (pieces_of frame.node) (frame.done + 1) ++ rest) × Completed dialect table paths frames nodes rest
  last_child frame frames nodes text (no_terms, more, tail, is_nodes, is_text, counted, named, fit, whole, outer) few =
      let from = pieces_from (pieces_of frame.node) (frame.done + 1) (omega arith) in (
        tail,
        is_text ∙ ap (λ (ps : PieceTexts). woven dialect table paths ps no_terms ++ tail) from,
        subst (λ (ns : List SqlNode). Completed dialect table paths frames ns tail) (sym is_nodes) outer,
      )
  last_child frame frames nodes text (more_terms first others, more, tail, is_nodes, is_text, counted, named, fit, whole, outer) few =
      absurd (omega arith)

  -- another is to come
  pub next_child : (frame : Frame) (frames : List Frame) (nodes : List SqlNode) (text : List ℕ)
      → Completed dialect table paths (frame ∷ frames) nodes text → frame.done + 2 < length (pieces_of frame.node)
      → (rest : List ℕ) × (text ≡ piece_at (pieces_of frame.node) (frame.done + 1) ++ rest) × Expecting dialect table paths (next frame ∷ frames) nodes rest
  next_child frame frames nodes text (no_terms, more, tail, is_nodes, is_text, counted, named, fit, whole, outer) some = absurd (omega arith)
  next_child frame frames nodes text (more_terms first others, more, tail, is_nodes, is_text, counted, named, fit, whole, outer) some =
      let from = pieces_from (pieces_of frame.node) (frame.done + 1) (omega arith) in
      let piece = piece_at (pieces_of frame.node) (frame.done + 1) in
      let later = woven dialect table paths (drop (suc (frame.done + 1)) (pieces_of frame.node)) others in
      let child = text_of dialect table paths first in
      let rest : List ℕ = child ++ (later ++ tail) in
      let e : text ≡ (piece ++ (child ++ later)) ++ tail =
      is_text ∙ ap (λ (ps : PieceTexts). woven dialect table paths ps (more_terms first others) ++ tail) from in
      let n : nodes ≡ nodes_of first ++ (nodes_of_all others ++ more) = is_nodes ∙ append_assoc (nodes_of first) (nodes_of_all others) more in
      let d : suc (frame.done + 1) ≡ frame.done + 1 + 1 = omega arith in (
        rest,
        e ∙ append_assoc piece (child ++ later) tail ∙ ap (λ (xs : List ℕ). piece ++ xs) (append_assoc child later tail),
        (
          first,
          nodes_of_all others ++ more,
          later ++ tail,
          n,
          refl,
          whole.0,
          (others, more, tail, refl, ap (λ (k : ℕ). woven dialect table paths (drop k (pieces_of frame.node)) others ++ tail) d, omega arith, named, fit, whole.1, outer),
        ),
      )

  -- a node without children is read
  pub leaf_read : (frames : List Frame) (node : SqlNode) (nodes : List SqlNode) (text : List ℕ) → Expecting dialect table paths frames (node ∷ nodes) text
      → length (pieces_of node) ≡ 1
      → (rest : List ℕ) × (text ≡ piece_at (pieces_of node) 0 ++ rest) × Completed dialect table paths frames nodes rest
  leaf_read frames node nodes text (term top no_terms, more, tail, is_nodes, is_text, whole, outer) one =
      let same : node ≡ top = cc in
      let others : nodes ≡ more = cc in
      let from = pieces_from (pieces_of top) 0 (omega (arith, whole.0)) in (
        tail,
        is_text ∙ ap (λ (ps : PieceTexts). woven dialect table paths ps no_terms ++ tail) from ∙ ap (λ (n : SqlNode). piece_at (pieces_of n) 0 ++ tail) (sym same),
        subst (λ (ns : List SqlNode). Completed dialect table paths frames ns tail) (sym others) outer,
      )
  leaf_read frames node nodes text (term top (more_terms first others), more, tail, is_nodes, is_text, whole, outer) one =
      let same : node ≡ top = cc in
      let counted : length (pieces_of top) ≡ 1 = subst (λ (n : SqlNode). length (pieces_of n) ≡ 1) same one in
      absurd (omega (arith, whole.0))

  -- a node with children is read
  pub inner_read : (frames : List Frame) (node : SqlNode) (nodes : List SqlNode) (text : List ℕ) → Expecting dialect table paths frames (node ∷ nodes) text
      → 1 < length (pieces_of node)
      → (rest : List ℕ) × (text ≡ piece_at (pieces_of node) 0 ++ rest) × Expecting dialect table paths (record { node = node; done = 0 } ∷ frames) nodes rest
  inner_read frames node nodes text (term top no_terms, more, tail, is_nodes, is_text, whole, outer) some =
      let same : node ≡ top = cc in
      let counted : 1 < length (pieces_of top) = subst (λ (n : SqlNode). 1 < length (pieces_of n)) same some in
      absurd (omega (arith, whole.0))
  inner_read frames node nodes text (term top (more_terms first others), more, tail, is_nodes, is_text, whole, outer) some =
      let same : top ≡ node = cc in
      let behind : nodes ≡ (nodes_of first ++ nodes_of_all others) ++ more = cc in
      let from = pieces_from (pieces_of top) 0 (omega (arith, whole.0)) in
      let piece = piece_at (pieces_of top) 0 in
      let later = woven dialect table paths (drop 1 (pieces_of top)) others in
      let child = text_of dialect table paths first in
      let e : text ≡ (piece ++ (child ++ later)) ++ tail =
      is_text ∙ ap (λ (ps : PieceTexts). woven dialect table paths ps (more_terms first others) ++ tail) from in
      let frame : Frame = record { node = top; done = 0 } in
      let read : (rest : List ℕ) × (text ≡ piece_at (pieces_of top) 0 ++ rest) × Expecting dialect table paths (frame ∷ frames) nodes rest = (
        child ++ (later ++ tail),
        e ∙ append_assoc piece (child ++ later) tail ∙ ap (λ (xs : List ℕ). piece ++ xs) (append_assoc child later tail),
        (
          first,
          nodes_of_all others ++ more,
          later ++ tail,
          behind ∙ append_assoc (nodes_of first) (nodes_of_all others) more,
          refl,
          whole.3.0,
          (others, more, tail, refl, refl, omega (arith, whole.0), whole.1, whole.2, whole.3.1, outer),
        ),
      ) in
      subst (λ (n : SqlNode). (rest : List ℕ) × (text ≡ piece_at (pieces_of n) 0 ++ rest) × Expecting dialect table paths (record { node = n; done = 0 } ∷ frames) nodes rest) same read

  -- a node is to come: it has a text, names what is there and counts what fits
  to_come : (frames : List Frame) (node : SqlNode) (nodes : List SqlNode) (text : List ℕ) → GoesOn dialect table paths frames (node ∷ nodes) text
      → Expecting dialect table paths frames (node ∷ nodes) text
  to_come frames node nodes text goes = elim goes [ inl done ↦ absurd (let none = done.1 in cc) | inr expecting ↦ expecting ]

  first_fits : (frames : List Frame) (node : SqlNode) (nodes : List SqlNode) (text : List ℕ) → Expecting dialect table paths frames (node ∷ nodes) text
      → (0 < length (pieces_of node)) × NamesWhatIs table paths node × CountsFit node
  first_fits frames node nodes text (term top children, more, tail, is_nodes, is_text, whole, outer) =
      let same : top ≡ node = cc in
      let counted : 0 < length (pieces_of top) = omega (arith, whole.0) in
      subst (λ (n : SqlNode). (0 < length (pieces_of n)) × NamesWhatIs table paths n × CountsFit n) same (counted, whole.1, whole.2)

  pub fits : (frames : List Frame) (node : SqlNode) (nodes : List SqlNode) (out text : List ℕ) → Adds [] out text (GoesOn dialect table paths frames (node ∷ nodes))
      → (0 < length (pieces_of node)) × NamesWhatIs table paths node × CountsFit node
  fits frames node nodes out text adds = first_fits frames node nodes adds.rest (to_come frames node nodes adds.rest adds.left)

  -- a node without children is written, and what it ends
  pub leaf_read_there : (frames : List Frame) (node : SqlNode) (nodes : List SqlNode) (out now text : List ℕ)
      → Adds [] out text (GoesOn dialect table paths frames (node ∷ nodes)) → length (pieces_of node) ≡ 1 → now ≡ out ++ piece_at (pieces_of node) 0
      → Adds [] now text (Completed dialect table paths frames nodes)
  leaf_read_there frames node nodes out now text adds one is =
      more_added [] out now text (piece_at (pieces_of node) 0) (GoesOn dialect table paths frames (node ∷ nodes)) (Completed dialect table paths frames nodes) adds is
      (λ rest goes. leaf_read frames node nodes rest (to_come frames node nodes rest goes) one)

  -- one with children is begun
  pub inner_read_there : (frames : List Frame) (node : SqlNode) (nodes : List SqlNode) (out now text : List ℕ)
      → Adds [] out text (GoesOn dialect table paths frames (node ∷ nodes)) → 1 < length (pieces_of node) → now ≡ out ++ piece_at (pieces_of node) 0
      → Adds [] now text (GoesOn dialect table paths (record { node = node; done = 0 } ∷ frames) nodes)
  inner_read_there frames node nodes out now text adds some is =
      let read = more_added [] out now text (piece_at (pieces_of node) 0) (GoesOn dialect table paths frames (node ∷ nodes))
      (Expecting dialect table paths (record { node = node; done = 0 } ∷ frames) nodes) adds is
      (λ rest goes. inner_read frames node nodes rest (to_come frames node nodes rest goes) some) in
      record { added = read.added; rest = read.rest; after_is = read.after_is; text_is = read.text_is; left = inr read.left }

  -- the same of what is the same
  pub moved : (out other text : List ℕ) (frames waiting : List Frame) (nodes : List SqlNode) → out ≡ other → frames ≡ waiting
      → Adds [] other text (GoesOn dialect table paths waiting nodes) → Adds [] out text (GoesOn dialect table paths frames nodes)
  moved out other text frames waiting nodes same are adds =
      subst (λ (fs : List Frame). Adds [] out text (GoesOn dialect table paths fs nodes)) (sym are)
      (subst (λ (bytes : List ℕ). Adds [] bytes text (GoesOn dialect table paths waiting nodes)) (sym same) adds)

  -- nothing waits any more: all is written
  pub none_waits : (frames : List Frame) (nodes : List SqlNode) (text : List ℕ) → frames ≡ [] → Completed dialect table paths frames nodes text
      → GoesOn dialect table paths frames nodes text
  none_waits [] nodes text none done = inl (refl, done.0, done.1)
  none_waits (frame ∷ frames) nodes text none done = cc

  -- ---- the beginning and the end

  pub begun : (t : Term) (nodes : List SqlNode) → nodes ≡ nodes_of t → IsWhole dialect table paths t
      → Adds [] [] (text_of dialect table paths t) (GoesOn dialect table paths [] nodes)
  begun t nodes is whole = record {
    added = [];
    rest = text_of dialect table paths t;
    after_is = refl;
    text_is = refl;
    left = inr (t, [], [], is ∙ sym (append-nil (nodes_of t)), sym (append-nil (text_of dialect table paths t)), whole, (refl, refl));
  }

  no_node : (t : Term) (more : List SqlNode) → [] ≡ nodes_of t ++ more → ⊥
  no_node (term node children) more is = cc

  pub ended : (frames : List Frame) (out text : List ℕ) → Adds [] out text (GoesOn dialect table paths frames []) → out ≡ text
  ended frames out text adds =
      elim adds.left [
        | inl done ↦ adds.after_is ∙ sym (adds.text_is ∙ ap (λ (xs : List ℕ). adds.added ++ xs) done.2 ∙ append-nil adds.added)
        | inr expecting ↦ absurd (no_node expecting.0 expecting.1 expecting.3)
      ]
