use Rattle.std.proofs.Common.{◌≡◌, ℕ, [], ◌∷◌, arith, refl, subst, sym}
use Rattle.odata_functions.specs.private.Blanks.{SpellsBlank}
use Rattle.odata_functions.proofs.white_space.is_blank_triple.Goals as goal

-- the bytes by what they are
three : (a b c x y z : ℕ) → a ≡ x → b ≡ y → c ≡ z → SpellsBlank (x ∷ y ∷ z ∷ []) → SpellsBlank (a ∷ b ∷ c ∷ [])
three a b c x y z of_a of_b of_c spells =
    subst (λ (k : ℕ). SpellsBlank (k ∷ b ∷ c ∷ [])) (sym of_a)
    (subst (λ (k : ℕ). SpellsBlank (x ∷ k ∷ c ∷ [])) (sym of_b) (subst (λ (k : ℕ). SpellsBlank (x ∷ y ∷ k ∷ [])) (sym of_c) spells))

pub returns-in-14785152 : goal.returns-in-14785152
unfolding lib.Utf8.encode
returns-in-14785152 c = λ yes.
    three c.args.first c.args.second c.args.third 225 154 128 (omega arith) (omega arith) (omega arith) (record { character = 5760; spelled = refl; blank = refl; scalar = refl })

pub returns-in-14844032 : goal.returns-in-14844032
unfolding lib.Utf8.encode
returns-in-14844032 c = λ yes.
    three c.args.first c.args.second c.args.third 226 128 128 (omega arith) (omega arith) (omega arith) (record { character = 8192; spelled = refl; blank = refl; scalar = refl })

pub returns-in-14844033 : goal.returns-in-14844033
unfolding lib.Utf8.encode
returns-in-14844033 c = λ yes.
    three c.args.first c.args.second c.args.third 226 128 129 (omega arith) (omega arith) (omega arith) (record { character = 8193; spelled = refl; blank = refl; scalar = refl })

pub returns-in-14844034 : goal.returns-in-14844034
unfolding lib.Utf8.encode
returns-in-14844034 c = λ yes.
    three c.args.first c.args.second c.args.third 226 128 130 (omega arith) (omega arith) (omega arith) (record { character = 8194; spelled = refl; blank = refl; scalar = refl })

pub returns-in-14844035 : goal.returns-in-14844035
unfolding lib.Utf8.encode
returns-in-14844035 c = λ yes.
    three c.args.first c.args.second c.args.third 226 128 131 (omega arith) (omega arith) (omega arith) (record { character = 8195; spelled = refl; blank = refl; scalar = refl })

pub returns-in-14844036 : goal.returns-in-14844036
unfolding lib.Utf8.encode
returns-in-14844036 c = λ yes.
    three c.args.first c.args.second c.args.third 226 128 132 (omega arith) (omega arith) (omega arith) (record { character = 8196; spelled = refl; blank = refl; scalar = refl })

pub returns-in-14844037 : goal.returns-in-14844037
unfolding lib.Utf8.encode
returns-in-14844037 c = λ yes.
    three c.args.first c.args.second c.args.third 226 128 133 (omega arith) (omega arith) (omega arith) (record { character = 8197; spelled = refl; blank = refl; scalar = refl })

pub returns-in-14844038 : goal.returns-in-14844038
unfolding lib.Utf8.encode
returns-in-14844038 c = λ yes.
    three c.args.first c.args.second c.args.third 226 128 134 (omega arith) (omega arith) (omega arith) (record { character = 8198; spelled = refl; blank = refl; scalar = refl })

pub returns-in-14844039 : goal.returns-in-14844039
unfolding lib.Utf8.encode
returns-in-14844039 c = λ yes.
    three c.args.first c.args.second c.args.third 226 128 135 (omega arith) (omega arith) (omega arith) (record { character = 8199; spelled = refl; blank = refl; scalar = refl })

pub returns-in-14844040 : goal.returns-in-14844040
unfolding lib.Utf8.encode
returns-in-14844040 c = λ yes.
    three c.args.first c.args.second c.args.third 226 128 136 (omega arith) (omega arith) (omega arith) (record { character = 8200; spelled = refl; blank = refl; scalar = refl })

pub returns-in-14844041 : goal.returns-in-14844041
unfolding lib.Utf8.encode
returns-in-14844041 c = λ yes.
    three c.args.first c.args.second c.args.third 226 128 137 (omega arith) (omega arith) (omega arith) (record { character = 8201; spelled = refl; blank = refl; scalar = refl })

pub returns-in-14844042 : goal.returns-in-14844042
unfolding lib.Utf8.encode
returns-in-14844042 c = λ yes.
    three c.args.first c.args.second c.args.third 226 128 138 (omega arith) (omega arith) (omega arith) (record { character = 8202; spelled = refl; blank = refl; scalar = refl })

pub returns-in-14844072 : goal.returns-in-14844072
unfolding lib.Utf8.encode
returns-in-14844072 c = λ yes.
    three c.args.first c.args.second c.args.third 226 128 168 (omega arith) (omega arith) (omega arith) (record { character = 8232; spelled = refl; blank = refl; scalar = refl })

pub returns-in-14844073 : goal.returns-in-14844073
unfolding lib.Utf8.encode
returns-in-14844073 c = λ yes.
    three c.args.first c.args.second c.args.third 226 128 169 (omega arith) (omega arith) (omega arith) (record { character = 8233; spelled = refl; blank = refl; scalar = refl })

pub returns-in-14844079 : goal.returns-in-14844079
unfolding lib.Utf8.encode
returns-in-14844079 c = λ yes.
    three c.args.first c.args.second c.args.third 226 128 175 (omega arith) (omega arith) (omega arith) (record { character = 8239; spelled = refl; blank = refl; scalar = refl })

pub returns-in-14844319 : goal.returns-in-14844319
unfolding lib.Utf8.encode
returns-in-14844319 c = λ yes.
    three c.args.first c.args.second c.args.third 226 129 159 (omega arith) (omega arith) (omega arith) (record { character = 8287; spelled = refl; blank = refl; scalar = refl })

pub returns-in-14909568 : goal.returns-in-14909568
unfolding lib.Utf8.encode
returns-in-14909568 c = λ yes.
    three c.args.first c.args.second c.args.third 227 128 128 (omega arith) (omega arith) (omega arith) (record { character = 12288; spelled = refl; blank = refl; scalar = refl })
