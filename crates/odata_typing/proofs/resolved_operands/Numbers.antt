-- What a tree stands for by the type of the other operand.
use Rattle.odata_typing.proofs.Common.{◌≡◌, refl, subst, ℕ, ℤ, List, Option, Some, None, Tree, ExprType, single, enumeration, Slots, string_type, IsResolvedBy, ResolvedNumber, ReadsNone, quoted_text}

-- what stands for a number is read
pub is_read : (slots : Slots) (type : ExprType) (quoted : Option (List ℕ)) (n : ℤ) → ResolvedNumber slots type quoted n → IsResolvedBy type quoted
is_read slots (single (enumeration name)) (Some spelling) n number = tt
is_read slots (single (enumeration name)) None n number = absurd number
is_read slots _ quoted n number = absurd number

-- what is not read stands for none
pub reads_none : (slots : Slots) (ResolvedText : ExprType → Type 0) (type : ExprType) (tree : Tree) → ((t : ExprType) → ResolvedText t → t ≡ type)
    → ¬ IsResolvedBy type (quoted_text tree) → ReadsNone slots ResolvedText tree
reads_none slots ResolvedText type tree one unread n reads =
    unread (subst (λ (t : ExprType). IsResolvedBy t (quoted_text tree)) (one reads.type_of reads.beside) (is_read slots reads.type_of (quoted_text tree) n reads.number))

-- an enumeration, and a text that is resolved by it
pub record IsReading (type : ExprType) (quoted : Option (List ℕ)) : Type 0 where
  pub name : List ℕ
  pub spelling : List ℕ
  pub type_is : type ≡ single (enumeration name)
  pub quotes : quoted ≡ Some spelling

pub reading : (type : ExprType) (quoted : Option (List ℕ)) → IsResolvedBy type quoted → IsReading type quoted
reading (single (enumeration name)) (Some spelling) read = record { name = name; spelling = spelling; type_is = refl; quotes = refl }
reading (single (enumeration name)) None read = absurd read
reading _ quoted read = absurd read

-- a String resolves no text
pub string_unread : (quoted : Option (List ℕ)) → ¬ IsResolvedBy string_type quoted
string_unread quoted read = read
