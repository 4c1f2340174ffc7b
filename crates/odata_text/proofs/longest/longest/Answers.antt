use Rattle.odata_text.proofs.Common.{ℕ, List, [], ◌∷◌, arith, refl, subst, IsReach}
use Rattle.odata_text.proofs.readings.LongestPieces.{longest-best, none-best}
use Rattle.odata_text.proofs.longest.longest.Goals as goal

pub returns-then-best-eq0 : goal.returns-then-best-eq0
returns-then-best-eq0 c =
    let same = c.as_bytes-bytes.ensures.value in
    let on : (P : List ℕ → Type 0) (n : ℕ) → IsReach P n c.as_bytes-bytes.result.now → IsReach P n c.args.rest.now = λ P n reach. subst (IsReach P n) same reach in
    none-best c.args.rest.now
    (c.word_length.result ∷ c.dollar_length.result ∷ c.int_length.result ∷ c.date_length.result ∷ c.moment_length.result ∷ c.guid_length.result ∷ c.string_length.result ∷ c.enum_length.result
    ∷ c.byte_length.result ∷ c.byte_length-2.result ∷ c.byte_length-3.result ∷ c.byte_length-4.result ∷ c.byte_length-5.result ∷ c.byte_length-6.result ∷ c.decimal_length.result ∷ c.time_of_day_length.result ∷ c.quoted_length.result ∷ [])
    c.best_of-best.result refl
    (c.word_length.ensures.reach, (c.dollar_length.ensures, (on _ _ c.int_length.ensures, (on _ _ c.date_length.ensures, (on _ _ c.moment_length.ensures, (on _ _ c.guid_length.ensures, (on _ _ c.string_length.ensures, (c.enum_length.ensures, (on _ _ c.byte_length.ensures, (on _ _ c.byte_length-2.ensures, (on _ _ c.byte_length-3.ensures, (on _ _ c.byte_length-4.ensures, (on _ _ c.byte_length-5.ensures, (on _ _ c.byte_length-6.ensures, (on _ _ c.decimal_length.ensures, (on _ _ c.time_of_day_length.ensures, (on _ _ c.quoted_length.ensures, tt)))))))))))))))))
    c.best_of-best.ensures.most c.if-best-eq0.true

pub returns : goal.returns
returns c =
    let same = c.as_bytes-bytes.ensures.value in
    let on : (P : List ℕ → Type 0) (n : ℕ) → IsReach P n c.as_bytes-bytes.result.now → IsReach P n c.args.rest.now = λ P n reach. subst (IsReach P n) same reach in
    longest-best c.args.rest.now
    (c.word_length.result ∷ c.dollar_length.result ∷ c.int_length.result ∷ c.date_length.result ∷ c.moment_length.result ∷ c.guid_length.result ∷ c.string_length.result ∷ c.enum_length.result
    ∷ c.byte_length.result ∷ c.byte_length-2.result ∷ c.byte_length-3.result ∷ c.byte_length-4.result ∷ c.byte_length-5.result ∷ c.byte_length-6.result ∷ c.decimal_length.result ∷ c.time_of_day_length.result ∷ c.quoted_length.result ∷ [])
    c.best_of-best.result refl
    (c.word_length.ensures.reach, (c.dollar_length.ensures, (on _ _ c.int_length.ensures, (on _ _ c.date_length.ensures, (on _ _ c.moment_length.ensures, (on _ _ c.guid_length.ensures, (on _ _ c.string_length.ensures, (c.enum_length.ensures, (on _ _ c.byte_length.ensures, (on _ _ c.byte_length-2.ensures, (on _ _ c.byte_length-3.ensures, (on _ _ c.byte_length-4.ensures, (on _ _ c.byte_length-5.ensures, (on _ _ c.byte_length-6.ensures, (on _ _ c.decimal_length.ensures, (on _ _ c.time_of_day_length.ensures, (on _ _ c.quoted_length.ensures, tt)))))))))))))))))
    c.best_of-best.ensures.among c.best_of-best.ensures.most (omega arith)
