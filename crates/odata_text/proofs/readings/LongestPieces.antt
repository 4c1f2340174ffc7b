-- The longest piece at the front of a text, from the length of the longest spelling of each form.
use Rattle.std.specs.List.{zip}
use Rattle.std.proofs.lemmas.List.{length-take, take_min}
use Rattle.std.proofs.lemmas.List.Elements.{All-contains, All-from_recursion, recursion_from_All}
use Rattle.odata_text.proofs.Common.{rules, AllOf, ◌≡◌, ℕ, min, ◌<◌, ◌≤◌, All, List, [], ◌∷◌, length, take, arith, sym, subst, Contains, IsReach, IsFormed, IsLongest, NoneSpelled, Form, Token, LeftOut, Number, TimeOfDay, Word, Dollar, Int, Date, Moment, Guid, Str, EnumLit, Close, Comma, Slash, Minus}
use Rattle.odata_text.specs.declared.token.TokenKind.TheVariants.{Open, Colon}
use Rattle.odata_text.specs.declared.form.LeftOutKind.TheVariants.{Quoted}
use Rattle.odata_text.proofs.machine.Longest.{formed-some}

-- all forms
abbrev pub forms : List Form
forms =
    Token Word ∷ Token Dollar ∷ Token Int ∷ Token Date ∷ Token Moment ∷ Token Guid ∷ Token Str ∷ Token EnumLit
    ∷ Token Open ∷ Token Close ∷ Token Comma ∷ Token Slash ∷ Token Colon ∷ Token Minus
    ∷ LeftOut Number ∷ LeftOut TimeOfDay ∷ LeftOut Quoted ∷ []

-- what holds of each of these holds of every form
each_form : (P : Form → Type 0) → AllOf P forms → (form : Form) → P form
each_form P (word, more) (Token Word) = word
each_form P (word, (dollar, (int, (date, (moment, (guid, (str, (enum, (open', (close, (comma, (slash, (colon, (minus, (number, (time, (quoted, none))))))))))))))))) (LeftOut Number) = number
each_form P (word, (dollar, (int, (date, (moment, (guid, (str, (enum, (open', (close, (comma, (slash, (colon, (minus, (number, (time, (quoted, none))))))))))))))))) _ = search rules

-- no form spells a beginning that is longer than the most
abbrev IsWithin : List ℕ → ℕ → Form → Type 0
IsWithin rest most form = (m : ℕ) → m ≤ length rest → IsFormed form (take m rest) → m ≤ most

-- a form and how long its longest spelling is
abbrev pub IsCandidate : List ℕ → Form × ℕ → Type 0
IsCandidate rest (form, n) = IsReach (IsFormed form) n rest

all_within : (fs : List Form) (ns : List ℕ) (rest : List ℕ) (most : ℕ) → length ns ≡ length fs → AllOf (IsCandidate rest) (zip fs ns) → AllOf (λ (other : Form × ℕ). other.1 ≤ most) (zip fs ns)
    → AllOf (IsWithin rest most) fs
all_within [] ns rest most size reaches below = tt
all_within (f ∷ fs) [] rest most size reaches below = absurd (omega arith)
all_within (f ∷ fs) (n ∷ ns) rest most size reaches below =
    ((λ m inside spelled. let reached = reaches.0.reaches m inside spelled in let least = below.0 in omega arith), all_within fs ns rest most (omega arith) reaches.1 below.1)

spelled_within : (rest ns : List ℕ) (best : Form × ℕ) → length ns ≡ length forms → AllOf (IsCandidate rest) (zip forms ns) → All (λ (other : Form × ℕ). other.1 ≤ best.1) (zip forms ns) → (form : Form) → IsWithin rest best.1 form
spelled_within rest ns best size reaches most =
    each_form (IsWithin rest best.1) (all_within forms ns rest best.1 size reaches (recursion_from_All (λ (other : Form × ℕ). other.1 ≤ best.1) (zip forms ns) most))

pub longest-best : (rest ns : List ℕ) (best : Form × ℕ) → length ns ≡ length forms → AllOf (IsCandidate rest) (zip forms ns) → Contains (zip forms ns) best → All (λ (other : Form × ℕ). other.1 ≤ best.1) (zip forms ns)
    → 0 < best.1 → IsLongest best.0 best.1 rest
longest-best rest ns best size reaches among most some =
    let reach = All-contains (IsCandidate rest) (zip forms ns) best (All-from_recursion (IsCandidate rest) (zip forms ns) reaches) among in
    record {
      within = reach.within;
      spelled = reach.found some;
      longest = λ form m within spelled. spelled_within rest ns best size reaches most form m within spelled;
    }

pub none-best : (rest ns : List ℕ) (best : Form × ℕ) → length ns ≡ length forms → AllOf (IsCandidate rest) (zip forms ns) → All (λ (other : Form × ℕ). other.1 ≤ best.1) (zip forms ns) → best.1 ≡ 0 → NoneSpelled rest
none-best rest ns best size reaches most none form m spelled =
    let some = formed-some form (take m rest) spelled in
    let taken = length-take m rest in
    let reached = spelled_within rest ns best size reaches most form (min m (length rest)) (omega arith) (subst (IsFormed form) (sym (take_min m rest)) spelled) in
    absurd (omega arith)
