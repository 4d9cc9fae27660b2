-- Bytes that somebody handed in, in characters that print.
use Rattle.std.specs.Prelude.{ℕ, ◌&&◌, nat_le, nat_lt, if◌then◌else◌}

-- a byte, or a question mark if it is no character of ASCII or doesn't print
abbrev pub printable : ℕ → ℕ
printable byte = if nat_le 32 byte && nat_lt byte 127 then byte else 63
