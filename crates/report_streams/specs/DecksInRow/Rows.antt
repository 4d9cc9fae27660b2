-- What a row of readers has left.
use Rattle.std.specs.Prelude.{ℕ, ◌+◌, ◌*◌, suc, zero, List, [], ◌∷◌, Option, None, Some, length, get_or, ◌==◌, ◌-◌, ◌≤◌, if◌then◌else◌, take, MatchResult}
use Rattle.std.specs.Prelude.{Bool, true, false}
use Rattle.std.specs.declared.result.Result.{Result}
use Rattle.std.specs.Io.KnownBytes.{Consumes, Keeps, prepend_known}
use Rattle.report_streams.specs.DecksInRow.InRow.{behind_byte, left_of}
use Rattle.report_streams.specs.declared.decks_in_row.stand.Stand.{Stand}
use Rattle.report_streams.specs.declared.decks_in_row.stand.Stand.TheVariants.{HeldCr, InLine, LineStart}

-- whether the byte at a place begins a line, in bytes that stand here
abbrev pub begins_line : Stand → List ℕ → (place : ℕ) → Bool
begins_line LineStart bytes zero = true
begins_line HeldCr bytes zero = false
begins_line InLine bytes zero = false
begins_line stand bytes (suc before) = get_or bytes before 0 == 10

-- where the next byte stands behind one that was read: a CR that begins a line is held back
abbrev pub behind_read : (begins_line : Bool) → ℕ → Stand
behind_read true byte = if byte == 13 then HeldCr else behind_byte byte
behind_read false byte = behind_byte byte

-- whether the last line of a deck that ends there lacks its end
abbrev pub lacks_end : Stand → Bool
lacks_end LineStart = false
lacks_end HeldCr = false
lacks_end InLine = true

-- how many of the bytes that were read are given
abbrev pub given_of : ℕ → Stand → ℕ
given_of count LineStart = count
given_of count HeldCr = count - 1
given_of count InLine = count

-- what the deck that is being read has left, if there is one, and those behind it
abbrev pub left_behind : {R : Type 0} → (R → Option (List ℕ)) → Stand → Option R → List R → Option (List ℕ)
left_behind left stand None next = Some []
left_behind left stand (Some deck) next = left_of left stand (deck ∷ next)

-- the same behind a byte that was read and isn't given yet, if there is one
abbrev pub row_left : {R : Type 0} → (R → Option (List ℕ)) → (owed : Option ℕ) → Stand → Option R → List R → Option (List ℕ)
row_left left None stand deck next = left_behind left stand deck next
row_left left (Some byte) stand deck next = prepend_known (byte ∷ []) (left_behind left stand deck next)

-- a read gives the first bytes of those that were left, in the front of the buffer, or fails and leaves them
abbrev pub Gives : {E : Type 0} → (old new : Option (List ℕ)) → Result ℕ E → (buffer : List ℕ) → Type 0
Gives old new result buffer =
    MatchResult result (λ count. (count ≤ length buffer) × Consumes old new (take count buffer)) (λ _. Keeps old new)

-- how often the deck can be read again before a byte of it is given or its end is passed
abbrev pub reads_again : Stand → ℕ
reads_again HeldCr = 0
reads_again LineStart = 1
reads_again InLine = 1

-- how many reads are left before a byte is given or all decks are read
abbrev pub reads_left : {R : Type 0} → Stand → Option R → List R → ℕ
reads_left stand None next = 0
reads_left stand (Some deck) next = suc (reads_again stand + 2 * length next)
