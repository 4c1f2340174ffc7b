-- A machine that reads the bytes of a piece from left to right: the state in which it ends gives the piece's form.
use Rattle.odata_text.proofs.Common.{ℕ, ◌==◌, ◌||◌, Bool, true, false, cond, List, Option, Some, None, fold, is_ascii_digit, is_ascii_hexdigit, Form, Token, LeftOut, Number, TimeOfDay, Quoted, Before, Closed, Over, TokenKind, Word, Dollar, Int, Date, Moment, Guid, Str, EnumLit, Close, Comma, Slash, Minus}
use Rattle.odata_text.specs.declared.token.TokenKind.TheVariants.{Open, Colon}
use Rattle.odata_text.specs.declared.form.LeftOutKind.TheVariants.{Quoted as LeftOutText}
use Rattle.odata_text.specs.declared.quoted.Quoted.TheVariants.{Open as Opened}
use Rattle.odata_text.proofs.characters.IdentifierBytes.{is_part_byte}

-- Bytes.

-- `e`, another hexadecimal letter, `t`, `z`, another byte that begins a word
pub data Letter : Type 0 where
  AnE : Letter
  AHexLetter : Letter
  ATime : Letter
  AZulu : Letter
  APlain : Letter

abbrev pub letter_of : ℕ → Letter
letter_of b =
    cond ((b == 101) || (b == 69)) AnE
    (cond (is_ascii_hexdigit b) AHexLetter
    (cond ((b == 84) || (b == 116)) ATime
    (cond ((b == 90) || (b == 122)) AZulu APlain)))

-- the bytes that the machine distinguishes
pub data Sort : Type 0 where
  ADigit : Sort
  ALetter : Letter → Sort
  ADot : Sort
  AHyphen : Sort
  APlus : Sort
  AQuote : Sort
  ADollar : Sort
  AMark : TokenKind → Sort
  AnyOther : Sort

abbrev pub sort_of : ℕ → Sort
sort_of b =
    cond (b == 39) AQuote
    (cond (is_ascii_digit b) ADigit
    (cond (is_part_byte b) (ALetter (letter_of b))
    (cond (b == 46) ADot
    (cond (b == 45) AHyphen
    (cond (b == 43) APlus
    (cond (b == 36) ADollar
    (cond (b == 40) (AMark Open)
    (cond (b == 41) (AMark Close)
    (cond (b == 44) (AMark Comma)
    (cond (b == 47) (AMark Slash)
    (cond (b == 58) (AMark Colon) AnyOther)))))))))))

-- States.

-- what stands before a text in quotes: nothing, a name or a dotted word
pub data Lead : Type 0 where
  Bare : Lead
  Named : Lead
  Qualified : Lead

abbrev pub lead_form : Lead → Form
lead_form Bare = Token Str
lead_form Named = LeftOut LeftOutText
lead_form Qualified = Token EnumLit

-- what has been read
pub data State : Type 0 where
  Start : State
  -- nothing that a form begins with
  Stuck : State
  -- a piece of the kind, which nothing goes on
  Whole : TokenKind → State
  -- a text in quotes after the lead, so far
  Text : Lead → Quoted → State
  Sign : State
  SignedDigits : State
  -- a number with a dot; with an `e` that is no byte of a Guid
  Pointed : State
  Powered : State
  Digits : State
  -- digits and an `e`; these, perhaps digits, and a hyphen
  PowerDigits : State
  PowerHyphen : State
  -- digits with one hyphen; with two
  OneHyphen : State
  TwoHyphens : State
  -- what only a Guid goes on with
  Hexes : State
  Clock : State
  -- a moment up to its time; up to the sign of its offset; up to the colon of that
  Timed : State
  Ahead : State
  AheadColon : State
  Name : State
  Dotted : State
  Dollared : State

abbrev pub is_quote : Sort → Bool
is_quote AQuote = true
is_quote _ = false

abbrev pub quoted_by : Quoted → Bool → Quoted
quoted_by Before quote = cond quote Opened Over
quoted_by Opened quote = cond quote Closed Opened
quoted_by Closed quote = cond quote Opened Over
quoted_by Over quote = Over

abbrev pub enter : State → Sort → State
enter Start ADigit = Digits
enter Start (ALetter _) = Name
enter Start AHyphen = Sign
enter Start APlus = Sign
enter Start AQuote = Text Bare Opened
enter Start ADollar = Dollared
enter Start (AMark kind) = Whole kind
enter (Text lead quoted) sort = Text lead (quoted_by quoted (is_quote sort))
enter Sign ADigit = SignedDigits
enter SignedDigits ADigit = SignedDigits
enter SignedDigits ADot = Pointed
enter SignedDigits (ALetter AnE) = Powered
enter Pointed ADigit = Pointed
enter Pointed (ALetter AnE) = Powered
enter Powered ADigit = Powered
enter Powered AHyphen = Powered
enter Powered APlus = Powered
enter Digits ADigit = Digits
enter Digits ADot = Pointed
enter Digits (ALetter AnE) = PowerDigits
enter Digits (ALetter AHexLetter) = Hexes
enter Digits AHyphen = OneHyphen
enter Digits (AMark Colon) = Clock
enter PowerDigits ADigit = PowerDigits
enter PowerDigits (ALetter AnE) = Hexes
enter PowerDigits (ALetter AHexLetter) = Hexes
enter PowerDigits AHyphen = PowerHyphen
enter PowerDigits APlus = Powered
enter PowerHyphen ADigit = PowerHyphen
enter PowerHyphen (ALetter AnE) = Hexes
enter PowerHyphen (ALetter AHexLetter) = Hexes
enter PowerHyphen AHyphen = Hexes
enter OneHyphen ADigit = OneHyphen
enter OneHyphen (ALetter AnE) = Hexes
enter OneHyphen (ALetter AHexLetter) = Hexes
enter OneHyphen AHyphen = TwoHyphens
enter TwoHyphens ADigit = TwoHyphens
enter TwoHyphens (ALetter AnE) = Hexes
enter TwoHyphens (ALetter AHexLetter) = Hexes
enter TwoHyphens (ALetter ATime) = Timed
enter TwoHyphens AHyphen = Hexes
enter Hexes ADigit = Hexes
enter Hexes (ALetter AnE) = Hexes
enter Hexes (ALetter AHexLetter) = Hexes
enter Hexes AHyphen = Hexes
enter Clock ADigit = Clock
enter Clock ADot = Clock
enter Clock (AMark Colon) = Clock
enter Timed ADigit = Timed
enter Timed ADot = Timed
enter Timed (AMark Colon) = Timed
enter Timed (ALetter AZulu) = Whole Moment
enter Timed AHyphen = Ahead
enter Timed APlus = Ahead
enter Ahead ADigit = Ahead
enter Ahead (AMark Colon) = AheadColon
enter AheadColon ADigit = AheadColon
enter Name ADigit = Name
enter Name (ALetter _) = Name
enter Name ADot = Dotted
enter Name AQuote = Text Named Opened
enter Name AHyphen = Hexes
enter Dotted ADigit = Dotted
enter Dotted (ALetter _) = Dotted
enter Dotted ADot = Dotted
enter Dotted AQuote = Text Qualified Opened
enter Dollared ADigit = Dollared
enter Dollared (ALetter _) = Dollared
enter _ _ = Stuck

abbrev pub step : State → ℕ → State
step state b = enter state (sort_of b)

abbrev pub run : List ℕ → State
run = fold step Start

-- the one form of the pieces that end so
abbrev pub form_at : State → Option Form
form_at (Whole kind) = Some (Token kind)
form_at (Text lead Closed) = Some (lead_form lead)
form_at Sign = Some (Token Minus)
form_at SignedDigits = Some (Token Int)
form_at Digits = Some (Token Int)
form_at Pointed = Some (LeftOut Number)
form_at Powered = Some (LeftOut Number)
form_at PowerDigits = Some (LeftOut Number)
form_at PowerHyphen = Some (LeftOut Number)
form_at TwoHyphens = Some (Token Date)
form_at Hexes = Some (Token Guid)
form_at Clock = Some (LeftOut TimeOfDay)
form_at AheadColon = Some (Token Moment)
form_at Name = Some (Token Word)
form_at Dotted = Some (Token Word)
form_at Dollared = Some (Token Dollar)
form_at _ = None

-- no form goes on
abbrev pub is_dead : State → Bool
is_dead Stuck = true
is_dead (Text _ Over) = true
is_dead _ = false
