-- The innermost frame, and what waits.
use Rattle.std.proofs.Common.{◌≡◌, refl, ap, sym, subst, ◌∙◌, ℕ, ◌-◌, ◌<◌, List, [], ◌∷◌, reverse, length, slice_get, None, Some}
use Rattle.std.proofs.lemmas.List.{reverse-reverse}
use Rattle.std.proofs.lemmas.Option.{same_Some, none-some}
use Rattle.odata_syntax.specs.Grammar.{Level}
use Rattle.odata_syntax.specs.PostOrder.{Texts}
use Rattle.odata_syntax.specs.Tree.{Tree}
use Rattle.odata_syntax.specs.declared.parser.state.Frame.{Frame}
use Rattle.odata_syntax.specs.declared.parser.state.Pending.{Pending}
use Rattle.odata_syntax.specs.private.Machine.{IsHeld, Waiting, enclosure, group_from, open_at, operation_level, whole_at}
use Rattle.odata_syntax.specs.private.MachineView.{operation_of, stack_in, stack_of, trees_outside, waiting_of}
use Rattle.odata_syntax.proofs.lists.Last.{head_of, last_head}

-- the frames begin with the last one
begins : (texts : Texts) (back : List Frame) (frame : Frame) (trees : List Tree) → head_of back ≡ Some frame → (outer : List Waiting) × (stack_in texts back trees ≡ waiting_of texts frame trees ∷ outer)
begins texts [] frame trees e = absurd (none-some frame e)
begins texts (f ∷ back) frame trees e =
    let same : f ≡ frame = same_Some f frame e in
    (stack_in texts back (trees_outside f trees), ap (λ k. waiting_of texts k trees ∷ stack_in texts back (trees_outside f trees)) same)

stack_begins : (texts : Texts) (frames : List Frame) (frame : Frame) (trees : List Tree) → slice_get frames (length frames - 1) ≡ Some frame → (outer : List Waiting) × (stack_of texts frames trees ≡ waiting_of texts frame trees ∷ outer)
stack_begins texts frames frame trees at = begins texts (reverse frames) frame trees (sym (last_head frames) ∙ at)

pub held_pending :
    (texts : Texts) (level : Level) (frames : List Frame) (pending : Pending) (trees : List Tree)
    → slice_get frames (length frames - 1) ≡ Some (Frame.Pending pending)
    → operation_level (operation_of pending trees) < level
    → IsHeld level (stack_of texts frames trees)
held_pending texts level frames pending trees at looser =
    let b = stack_begins texts frames (Frame.Pending pending) trees at in
    subst (IsHeld level) (sym b.1) looser

-- no `in`
abbrev pub IsOther : Frame → Type 0
IsOther (Frame.Pending (Pending.Binary operator start)) = Unit {0}
IsOther (Frame.Pending (Pending.Has start)) = Unit {0}
IsOther (Frame.Pending (Pending.In start)) = ⊥
IsOther (Frame.Pending (Pending.Minus start)) = Unit {0}
IsOther (Frame.Pending (Pending.Not start)) = Unit {0}
IsOther (Frame.Open bracket) = Unit {0}

open_other : (texts : Texts) (frame : Frame) (trees : List Tree) (outer : List Waiting) (start : ℕ) → IsOther frame → open_at (waiting_of texts frame trees ∷ outer) start ≡ enclosure (group_from start) ∷ (waiting_of texts frame trees ∷ outer)
open_other texts (Frame.Pending (Pending.Binary operator s)) trees outer start other = refl
open_other texts (Frame.Pending (Pending.Has s)) trees outer start other = refl
open_other texts (Frame.Pending (Pending.In s)) trees outer start other = absurd other
open_other texts (Frame.Pending (Pending.Minus s)) trees outer start other = refl
open_other texts (Frame.Pending (Pending.Not s)) trees outer start other = refl
open_other texts (Frame.Open bracket) trees outer start other = refl

pub opens_group :
    (texts : Texts) (frames : List Frame) (frame : Frame) (trees : List Tree) (start : ℕ)
    → slice_get frames (length frames - 1) ≡ Some frame
    → IsOther frame
    → open_at (stack_of texts frames trees) start ≡ enclosure (group_from start) ∷ stack_of texts frames trees
opens_group texts frames frame trees start at other =
    let b = stack_begins texts frames frame trees at in
    let P : List Waiting → Type 0 = λ (k : List Waiting). open_at k start ≡ enclosure (group_from start) ∷ k in
    subst P (sym b.1) (open_other texts frame trees b.0 start other)

-- where frames are open, there is no whole tree
empty_turned : (frames : List Frame) → reverse frames ≡ [] → frames ≡ []
empty_turned frames e = sym (reverse-reverse frames) ∙ ap (λ (fs : List Frame). reverse fs) e

whole_none : (texts : Texts) (back : List Frame) (trees : List Tree) (tree : Tree) → (back ≡ [] → ⊥) → whole_at (stack_in texts back trees) tree ≡ None
whole_none texts [] trees tree some = absurd (some refl)
whole_none texts (f ∷ back) trees tree some = refl

pub not_whole_some : (texts : Texts) (frames : List Frame) (trees : List Tree) (tree : Tree) → (frames ≡ [] → ⊥) → whole_at (stack_of texts frames trees) tree ≡ None
not_whole_some texts frames trees tree some = whole_none texts (reverse frames) trees tree (λ e. some (empty_turned frames e))
