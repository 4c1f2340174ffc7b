-- The tokens of a filter's text one after another (OData URL Conventions 4.01, section 5.1.1).
use Rattle.std.specs.Prelude.{◌≡◌, ℕ, ◌<◌, ◌≤◌, IsCharBoundary, List, [], ◌∷◌, ◌++◌, length, slice_range}
use Rattle.odata_text.specs.TokenModel.{TokenModel}
use Rattle.odata_text.specs.Tokens.{AreTokensFrom, IsTextFault, IsTokenList, end_of, text_limit, token_limit}
use Rattle.odata_text.specs.declared.scanner.Scanned.{Scanned}
use Rattle.odata_text.specs.declared.scanner.Scanned.TheVariants.{Token, End, Fault}
use Rattle.odata_text.specs.declared.scanner.Scanner.{Scanner}

-- the text that a scanner reads
abbrev pub text_of : Scanner → List ℕ
text_of s = s.text.now

-- the token that it read last
abbrev pub token_of : Scanner → TokenModel
token_of s = record { kind = s.kind; start = s.start; stop = s.stop; text = slice_range (text_of s) s.start s.stop }

-- its text and its tokens are within their limits, and its token lies between two characters
pub record IsReading (s : Scanner) : Type 0 where
  pub short : length (text_of s) ≤ text_limit
  pub few : s.count ≤ token_limit
  pub order : s.start ≤ s.stop
  pub begins : IsCharBoundary (text_of s) s.start
  pub ends : IsCharBoundary (text_of s) s.stop

-- it has read these tokens, the first of its text
pub record HasRead (s : Scanner) (list : List TokenModel) : Type 0 where
  pub tokens : AreTokensFrom (text_of s) 0 list
  pub stop : end_of 0 list ≡ s.stop
  pub count : length list ≡ s.count

-- it has read one token more
pub record IsFurther (old new : Scanner) : Type 0 where
  pub text : text_of new ≡ text_of old
  pub further : old.stop < new.stop
  pub read : (list : List TokenModel) → HasRead old list → HasRead new (list ++ token_of new ∷ [])

-- it stays where it is, and what it has read is the whole list of its text
pub record IsAtEnd (old new : Scanner) : Type 0 where
  pub same : new ≡ old
  pub all : (list : List TokenModel) → HasRead old list → IsTokenList (text_of old) list

-- it stays where it is, and its fault is the first of its text
pub record IsAtFault (old new : Scanner) : Type 0 where
  pub same : new ≡ record old { fault = new.fault }
  pub first : (list : List TokenModel) → HasRead old list → IsTextFault (text_of old) new.fault

-- what a scanner that looks for the next token finds
abbrev pub Finds : Scanner → Scanned → Scanner → Type 0
Finds old Token new = IsFurther old new
Finds old End new = IsAtEnd old new
Finds old Fault new = IsAtFault old new
