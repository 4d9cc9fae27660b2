-- Bytes as text of XHTML, and such text read back.
use Rattle.std.specs.Prelude.{◌≡◌, ℕ, ◌+◌, ◌-◌, ◌*◌, ◌/◌, ◌%◌, ◌<◌, ◌==◌, ◌&&◌, ◌||◌, Bool, true, false, not, List, [], ◌∷◌, ◌++◌, Option, Some, None, codes, if◌then◌else◌, nat_le, nat_lt}
use Rattle.std.specs.List.{flat_map}

-- the signs of markup: & < > " '
abbrev pub is_sign : ℕ → Bool
is_sign byte = (byte == 38) || ((byte == 60) || ((byte == 62) || ((byte == 34) || (byte == 39))))

-- what is written as it is: a line feed, or printable and no sign of markup
abbrev pub is_plain : ℕ → Bool
is_plain byte = (byte == 10) || ((nat_le 32 byte && nat_le byte 126) && not (is_sign byte))

-- a number below 10,000 by its four digits
abbrev pub four_digits : ℕ → List ℕ
four_digits n = (48 + n / 1000) ∷ (48 + n / 100 % 10) ∷ (48 + n / 10 % 10) ∷ (48 + n % 10) ∷ []

-- the number of a byte; control characters have those of their pictures, which stand at 9216 and behind
abbrev pub byte_number : ℕ → ℕ
byte_number byte = if nat_lt byte 32 then 9216 + byte else byte

-- a byte by its number
abbrev pub numbered_byte : ℕ → List ℕ
numbered_byte byte = codes "&#" ++ four_digits (byte_number byte) ++ codes ";"

-- a byte as it is written
abbrev pub escaped_byte : ℕ → List ℕ
escaped_byte byte =
    if byte == 38 then codes "&amp;"
    else if byte == 60 then codes "&lt;"
    else if byte == 62 then codes "&gt;"
    else if byte == 34 then codes "&quot;"
    else if byte == 39 then codes "&apos;"
    else if is_plain byte then byte ∷ []
    else numbered_byte byte

-- bytes as they are written
abbrev pub escaped : List ℕ → List ℕ
escaped words = flat_map escaped_byte words

-- Reading back. The value of decimal digits behind some that were read.
abbrev pub digits_value : ℕ → List ℕ → ℕ
digits_value before [] = before
digits_value before (digit ∷ digits) = digits_value (10 * before + (digit - 48)) digits

-- the byte of a number
abbrev pub byte_of : ℕ → ℕ
byte_of number = if nat_le 9216 number then number - 9216 else number

-- the number of a name: its digits behind the sign of numbers
abbrev pub name_number : List ℕ → ℕ
name_number [] = 0
name_number (sign ∷ digits) = digits_value 0 digits

-- whether two names are one
abbrev pub is_name : List ℕ → List ℕ → Bool
is_name [] [] = true
is_name (a ∷ as_) (b ∷ bs) = (a == b) && is_name as_ bs
is_name one other = false

-- the byte that stands for what is between & and ;
abbrev pub meant : List ℕ → ℕ
meant name =
    if is_name name (codes "amp") then 38
    else if is_name name (codes "lt") then 60
    else if is_name name (codes "gt") then 62
    else if is_name name (codes "quot") then 34
    else if is_name name (codes "apos") then 39
    else byte_of (name_number name)

-- what a text says, behind what stands before it: nothing, or the front of a name
abbrev pub read : Option (List ℕ) → List ℕ → List ℕ
read before [] = []
read None (byte ∷ bytes) = if byte == 38 then read (Some []) bytes else byte ∷ read None bytes
read (Some name) (byte ∷ bytes) =
    if byte == 59 then meant name ∷ read None bytes else read (Some (name ++ byte ∷ [])) bytes

-- a text read back
abbrev pub unescaped : List ℕ → List ℕ
unescaped text = read None text

-- a byte
abbrev pub IsByte : ℕ → Type 0
IsByte byte = byte < 256

-- what stands in escaped text: printable and none of < > " ', or a line feed
abbrev pub IsWritable : ℕ → Type 0
IsWritable byte = (is_plain byte || (byte == 38)) ≡ true
