use Rattle.std.proofs.Common.{ℕ, [], ◌∷◌, refl, subst, sym}
use Rattle.odata_functions.specs.private.Blanks.{SpellsBlank}
use Rattle.odata_functions.proofs.white_space.is_blank.Goals as goal

pub returns-in-9 : goal.returns-in-9
unfolding lib.Utf8.encode
returns-in-9 c = λ yes. subst (λ (k : ℕ). SpellsBlank (k ∷ [])) (sym c.in-9.is) (record { character = 9; spelled = refl; blank = refl; scalar = refl })

pub returns-in-10 : goal.returns-in-10
unfolding lib.Utf8.encode
returns-in-10 c = λ yes. subst (λ (k : ℕ). SpellsBlank (k ∷ [])) (sym c.in-10.is) (record { character = 10; spelled = refl; blank = refl; scalar = refl })

pub returns-in-11 : goal.returns-in-11
unfolding lib.Utf8.encode
returns-in-11 c = λ yes. subst (λ (k : ℕ). SpellsBlank (k ∷ [])) (sym c.in-11.is) (record { character = 11; spelled = refl; blank = refl; scalar = refl })

pub returns-in-12 : goal.returns-in-12
unfolding lib.Utf8.encode
returns-in-12 c = λ yes. subst (λ (k : ℕ). SpellsBlank (k ∷ [])) (sym c.in-12.is) (record { character = 12; spelled = refl; blank = refl; scalar = refl })

pub returns-in-13 : goal.returns-in-13
unfolding lib.Utf8.encode
returns-in-13 c = λ yes. subst (λ (k : ℕ). SpellsBlank (k ∷ [])) (sym c.in-13.is) (record { character = 13; spelled = refl; blank = refl; scalar = refl })

pub returns-in-32 : goal.returns-in-32
unfolding lib.Utf8.encode
returns-in-32 c = λ yes. subst (λ (k : ℕ). SpellsBlank (k ∷ [])) (sym c.in-32.is) (record { character = 32; spelled = refl; blank = refl; scalar = refl })
