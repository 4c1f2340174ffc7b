-- How writes and what is held back add up.
use Rattle.std.proofs.Common.{◌≡◌, ℕ, ◌-◌, List, [], ◌++◌, length, take, drop, Option, Result, Ok, Err, OnOk, OnErr, refl, sym, ap, ◌∙◌, subst, append_assoc, append-nil, take-append-drop}
use Rattle.std.proofs.lemmas.List.{take_rest}
use Rattle.std.specs.Io.KnownBytes.{Appends}
use Rattle.std.proofs.KnownBytes.{Appends-trans, Appends-nil}
use Rattle.line_filter.specs.Growth.{WritesFront}
use Rattle.line_filter.specs.private.HeldBack.{WritesBut}

-- a write took the first n of the rest
pub split_at : (whole done rest : List ℕ) (n : ℕ) → whole ≡ done ++ rest → whole ≡ (done ++ take n rest) ++ take (length rest - n) (drop n rest)
split_at whole done rest n e =
    e ∙ ap (λ l. done ++ l) (sym (take-append-drop n rest)) ∙ sym (append_assoc done (take n rest) (drop n rest))
    ∙ ap (λ l. (done ++ take n rest) ++ l) (sym (take_rest rest n))

-- a fact that holds of either answer
pub OnErr-from : {X E : Type 0} (r : Result X E) (P : Type 0) → P → OnErr r P
OnErr-from (Ok x) P p = tt
OnErr-from (Err e) P p = p

pub OnErr-map : {X E : Type 0} (r : Result X E) (P Q : Type 0) → (P → Q) → OnErr r P → OnErr r Q
OnErr-map (Ok x) P Q f p = tt
OnErr-map (Err e) P Q f p = f p

pub OnOk-map : {X E : Type 0} (r : Result X E) (P Q : Type 0) → (P → Q) → OnOk r P → OnOk r Q
OnOk-map (Ok x) P Q f p = f p
OnOk-map (Err e) P Q f p = tt

-- all of the first text was written, and of the second a beginning
pub WritesFront-after : (a b c : Option (List ℕ)) (first second : List ℕ) → Appends a b first → WritesFront b c second → WritesFront a c (first ++ second)
WritesFront-after a b c first second wrote (front, more, (rest, e)) =
    (first ++ front, Appends-trans a b c first front wrote more, (rest, ap (λ l. first ++ l) e ∙ sym (append_assoc first front rest)))

-- a beginning of a beginning
pub WritesFront-longer : (a b : Option (List ℕ)) (text more : List ℕ) → WritesFront a b text → WritesFront a b (text ++ more)
WritesFront-longer a b text more (front, wrote, (rest, e)) = (front, wrote, (rest ++ more, ap (λ l. l ++ more) e ∙ append_assoc front rest more))

pub WritesFront-none : (a : Option (List ℕ)) (text : List ℕ) → WritesFront a a text
WritesFront-none a text = ([], Appends-nil a, (text, refl))

-- what was held back was written
pub WritesBut-written : (a b c : Option (List ℕ)) (held text : List ℕ) → WritesBut a b held text → Appends b c held → Appends a c text
WritesBut-written a b c held text (front, wrote, e) more = subst (Appends a c) (sym e) (Appends-trans a b c front held wrote more)

pub WritesBut-failed : (a b c : Option (List ℕ)) (held text : List ℕ) → WritesBut a b held text → WritesFront b c held → WritesFront a c text
WritesBut-failed a b c held text (front, wrote, e) more = subst (WritesFront a c) (sym e) (WritesFront-after a b c front held wrote more)

pub WritesBut-grown : (a b : Option (List ℕ)) (held text more : List ℕ) → WritesBut a b held text → WritesBut a b (held ++ more) (text ++ more)
WritesBut-grown a b held text more (front, wrote, e) = (front, wrote, ap (λ l. l ++ more) e ∙ append_assoc front held more)

pub WritesBut-all : (a b : Option (List ℕ)) (held text : List ℕ) → Appends a b text → held ≡ [] → WritesBut a b held text
WritesBut-all a b held text wrote none = (text, wrote, sym (ap (λ l. text ++ l) none ∙ append-nil text))

pub WritesBut-none : (a : Option (List ℕ)) (held : List ℕ) → WritesBut a a held held
WritesBut-none a held = ([], Appends-nil a, refl)

-- two texts one after the other, held back at the end
pub held_both : (h₀ h₁ h₂ x y first second : List ℕ) → h₀ ++ x ≡ first ++ h₁ → h₁ ++ y ≡ second ++ h₂ → h₀ ++ (x ++ y) ≡ (first ++ second) ++ h₂
held_both h₀ h₁ h₂ x y first second e f =
    sym (append_assoc h₀ x y) ∙ ap (λ l. l ++ y) e ∙ append_assoc first h₁ y ∙ ap (λ l. first ++ l) f ∙ sym (append_assoc first second h₂)

-- nothing was written, and nothing more is held
pub WritesBut-same : (a : Option (List ℕ)) (held : List ℕ) → WritesBut a a held (held ++ [])
WritesBut-same a held = ([], Appends-nil a, append-nil held)

-- more text after a text whose end is held back
pub WritesBut-more : (a b c : Option (List ℕ)) (h₁ h₂ text more : List ℕ) → WritesBut a b h₁ text → WritesBut b c h₂ (h₁ ++ more) → WritesBut a c h₂ (text ++ more)
WritesBut-more a b c h₁ h₂ text more (first, wrote, e) (second, later, f) =
    (first ++ second, Appends-trans a b c first second wrote later, held_both [] h₁ h₂ text more first second e f)
