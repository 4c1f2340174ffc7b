use Rattle.std.proofs.Common.{◌≡◌, ℕ, [], ◌∷◌, arith, refl, subst, sym}
use Rattle.odata_functions.specs.private.Blanks.{SpellsBlank}
use Rattle.odata_functions.proofs.white_space.is_blank_pair.Goals as goal

pub returns-in-49797 : goal.returns-in-49797
unfolding lib.Utf8.encode
returns-in-49797 c = λ yes.
    let first : c.args.first ≡ 194 = omega arith in
    let second : c.args.second ≡ 133 = omega arith in
    subst (λ (k : ℕ). SpellsBlank (k ∷ c.args.second ∷ [])) (sym first)
    (subst (λ (k : ℕ). SpellsBlank (194 ∷ k ∷ [])) (sym second) (record { character = 133; spelled = refl; blank = refl; scalar = refl }))

pub returns-in-49824 : goal.returns-in-49824
unfolding lib.Utf8.encode
returns-in-49824 c = λ yes.
    let first : c.args.first ≡ 194 = omega arith in
    let second : c.args.second ≡ 160 = omega arith in
    subst (λ (k : ℕ). SpellsBlank (k ∷ c.args.second ∷ [])) (sym first)
    (subst (λ (k : ℕ). SpellsBlank (194 ∷ k ∷ [])) (sym second) (record { character = 160; spelled = refl; blank = refl; scalar = refl }))
