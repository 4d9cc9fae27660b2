-- What a read leaves of decks in a row.
use Rattle.std.proofs.Common.{◌≡◌, ◌≢◌, ◌∙◌, ℕ, ◌-◌, suc, zero, ap, sym, refl, arith, Bool, true, false, ◌==◌, List, [], ◌∷◌, ◌++◌, length, get_or, map, drop, Option, Some, None, append_assoc, set, subst, take}
use Rattle.std.specs.Option.{IsSome, option_to_list}
use Rattle.std.specs.Prelude.{◌<◌, ◌≤◌, option_map}
use Rattle.std.specs.Io.KnownBytes.{Consumes, IsAtEnd, prepend_known}
use Rattle.std.proofs.lemmas.Bool.{eqb-true, false≢true}
use Rattle.std.proofs.lemmas.List.{take-take}
use Rattle.report_streams.specs.DecksInRow.InRow.{behind_byte, ended, in_row, known_behind, left_of}
use Rattle.report_streams.specs.DecksInRow.Rows.{begins_line, behind_read, given_of, lacks_end, left_behind}
use Rattle.report_streams.specs.declared.decks_in_row.stand.Stand.{Stand}
use Rattle.report_streams.specs.declared.decks_in_row.stand.Stand.TheVariants.{HeldCr, InLine, LineStart}

-- the CR that is held back there
abbrev held : Stand → List ℕ
held HeldCr = 13 ∷ []
held LineStart = []
held InLine = []

-- one byte that was read: what is given of it, and what isn't given is held back
record Step (stand : Stand) (byte : ℕ) (after : Stand) : Type 0 where
  given : List ℕ
  whole : given ++ held after ≡ byte ∷ []
  is : (more : List ℕ) → ended stand (byte ∷ more) ≡ held stand ++ (given ++ ended after more)
  begins : (bytes : List ℕ) → begins_line after bytes zero ≡ (byte == 10)
  taken : take (given_of 1 after) (byte ∷ []) ≡ given

step : (stand : Stand) (byte : ℕ) (is_cr is_end : Bool) → (byte == 13) ≡ is_cr → (byte == 10) ≡ is_end
    → Step stand byte (behind_read (begins_line stand (byte ∷ []) 0) byte)
step LineStart byte true true cr end = absurd (omega (arith, eqb-true byte 10 end, eqb-true byte 13 cr))
step LineStart byte true false cr end = rw cr (record {
  given = [];
  whole = ap (λ b. b ∷ []) (sym (eqb-true byte 13 cr));
  is = λ more. rw cr refl;
  begins = λ bytes. sym end;
  taken = refl;
})
step LineStart byte false true cr end = rw (cr, end) (record {
  given = byte ∷ [];
  whole = refl;
  is = λ more. rw (cr, end) refl;
  begins = λ bytes. sym end;
  taken = refl;
})
step LineStart byte false false cr end = rw (cr, end) (record {
  given = byte ∷ [];
  whole = refl;
  is = λ more. rw (cr, end) refl;
  begins = λ bytes. sym end;
  taken = refl;
})
step HeldCr byte is_cr true cr end = rw end (record {
  given = byte ∷ [];
  whole = refl;
  is = λ more. rw end refl;
  begins = λ bytes. sym end;
  taken = refl;
})
step HeldCr byte is_cr false cr end = rw end (record {
  given = byte ∷ [];
  whole = refl;
  is = λ more. rw end refl;
  begins = λ bytes. sym end;
  taken = refl;
})
step InLine byte is_cr true cr end = rw end (record {
  given = byte ∷ [];
  whole = refl;
  is = λ more. rw end refl;
  begins = λ bytes. sym end;
  taken = refl;
})
step InLine byte is_cr false cr end = rw end (record {
  given = byte ∷ [];
  whole = refl;
  is = λ more. rw end refl;
  begins = λ bytes. sym end;
  taken = refl;
})

taken_suc : (before count last : ℕ) (byte : ℕ) (bytes : List ℕ) → before ≡ last → count ≡ suc last
    → byte ∷ take before bytes ≡ take count (byte ∷ bytes)
taken_suc before count last byte bytes one more = rw (one, more) refl

-- of one byte more one more is given
taken_more : (last : ℕ) (stand : Stand) (byte : ℕ) (bytes : List ℕ)
    → byte ∷ take (given_of (suc last) stand) bytes ≡ take (given_of (suc (suc last)) stand) (byte ∷ bytes)
taken_more last LineStart byte bytes = refl
taken_more last HeldCr byte bytes = taken_suc (suc last - 1) (suc (suc last) - 1) last byte bytes (omega arith) (omega arith)
taken_more last InLine byte bytes = refl

-- the same of a byte and those behind it
more_read : (stand after end : Stand) (byte last : ℕ) (bytes rest : List ℕ) → Step stand byte after
    → ended after (bytes ++ rest) ≡ held after ++ (take (given_of (suc last) end) bytes ++ ended end rest)
    → ended stand (byte ∷ (bytes ++ rest)) ≡ held stand ++ (take (given_of (suc (suc last)) end) (byte ∷ bytes) ++ ended end rest)
more_read stand after end byte last bytes rest step below =
    step.is (bytes ++ rest)
    ∙ ap (λ text. held stand ++ (step.given ++ text)) below
    ∙ ap (λ text. held stand ++ text) (sym (append_assoc step.given (held after) (take (given_of (suc last) end) bytes ++ ended end rest))
    ∙ ap (λ text. text ++ (take (given_of (suc last) end) bytes ++ ended end rest)) step.whole
    ∙ ap (λ text. text ++ ended end rest) (taken_more last end byte bytes))

-- bytes that were read stay as they are; the last two of them say where the next byte stands, and whether the last one is held back
ended_read : (bytes : List ℕ) (last : ℕ) (stand : Stand) (rest : List ℕ) → length bytes ≡ suc last
    → ended stand (bytes ++ rest) ≡ held stand
    ++ (take (given_of (suc last) (behind_read (begins_line stand bytes last) (get_or bytes last 0))) bytes
    ++ ended (behind_read (begins_line stand bytes last) (get_or bytes last 0)) rest)
ended_read [] last stand rest size = absurd (omega (arith, size))
ended_read (byte ∷ []) zero stand rest size =
    (step stand byte (byte == 13) (byte == 10) refl refl).is rest
    ∙ ap (λ given. held stand ++ (given ++ ended (behind_read (begins_line stand (byte ∷ []) 0) byte) rest))
    (sym (step stand byte (byte == 13) (byte == 10) refl refl).taken)
ended_read (byte ∷ []) (suc last) stand rest size = absurd (omega (arith, size))
ended_read (byte ∷ next ∷ bytes) zero stand rest size = absurd (omega (arith, size))
ended_read (byte ∷ next ∷ bytes) (suc zero) stand rest size =
    more_read stand (behind_read (begins_line stand (byte ∷ []) 0) byte) (behind_read (byte == 10) next) byte 0 (next ∷ bytes) rest
    (step stand byte (byte == 13) (byte == 10) refl refl)
    (subst (λ (begins : Bool). ended (behind_read (begins_line stand (byte ∷ []) 0) byte) (next ∷ (bytes ++ rest))
    ≡ held (behind_read (begins_line stand (byte ∷ []) 0) byte)
    ++ (take (given_of 1 (behind_read begins next)) (next ∷ bytes) ++ ended (behind_read begins next) rest))
    ((step stand byte (byte == 13) (byte == 10) refl refl).begins (next ∷ bytes))
    (ended_read (next ∷ bytes) zero (behind_read (begins_line stand (byte ∷ []) 0) byte) rest (omega (arith, size))))
ended_read (byte ∷ next ∷ bytes) (suc (suc last)) stand rest size =
    more_read stand (behind_read (begins_line stand (byte ∷ []) 0) byte) _ byte (suc last) (next ∷ bytes) rest
    (step stand byte (byte == 13) (byte == 10) refl refl)
    (ended_read (next ∷ bytes) (suc last) (behind_read (begins_line stand (byte ∷ []) 0) byte) rest (omega (arith, size)))

held_none : (stand : Stand) → stand ≢ HeldCr → held stand ≡ []
held_none LineStart other = refl
held_none HeldCr other = absurd (other refl)
held_none InLine other = refl

-- a read of a deck is a read of the row
pub reads : (stand : Stand) (old new behind : Option (List ℕ)) (bytes : List ℕ) (count last : ℕ) → stand ≢ HeldCr → length bytes ≡ suc last
    → count ≡ suc last → Consumes old new bytes
    → Consumes (known_behind (option_map (ended stand) old) behind)
    (known_behind (option_map (ended (behind_read (begins_line stand bytes last) (get_or bytes last 0))) new) behind)
    (take (given_of count (behind_read (begins_line stand bytes last) (get_or bytes last 0))) bytes)
reads stand None new behind bytes count last other size all consumes = tt
reads stand (Some old) None behind bytes count last other size all consumes = absurd consumes
reads stand (Some old) (Some new) None bytes count last other size all consumes = tt
reads stand (Some old) (Some new) (Some behind) bytes count last other size all consumes = rw all
    (ap (λ text. ended stand text ++ behind) consumes
    ∙ ap (λ text. text ++ behind) (ended_read bytes last stand new size)
    ∙ ap (λ text. (text ++ (take (given_of (suc last) (behind_read (begins_line stand bytes last) (get_or bytes last 0))) bytes
    ++ ended (behind_read (begins_line stand bytes last) (get_or bytes last 0)) new)) ++ behind) (held_none stand other)
    ∙ append_assoc (take (given_of (suc last) (behind_read (begins_line stand bytes last) (get_or bytes last 0))) bytes)
    (ended (behind_read (begins_line stand bytes last) (get_or bytes last 0)) new) behind)

-- at the end of a deck its line end is left, if it has none
pub passes : (stand : Stand) (old new behind : Option (List ℕ)) → Consumes old new [] → IsAtEnd new
    → Consumes (known_behind (option_map (ended stand) old) behind) behind (ended stand [])
passes stand None new behind consumes ends = tt
passes stand (Some old) None behind consumes ends = absurd consumes
passes stand (Some old) (Some new) None consumes ends = tt
passes stand (Some old) (Some new) (Some behind) consumes ends = ap (λ text. ended stand text ++ behind) (consumes ∙ ends)

-- at the end of a deck whose last line has no end that is given
pub passes_line : (stand : Stand) (old new behind : Option (List ℕ)) (read bytes : List ℕ) → lacks_end stand ≡ true → read ≡ [] → bytes ≡ 10 ∷ []
    → Consumes old new read → IsAtEnd new → Consumes (known_behind (option_map (ended stand) old) behind) behind bytes
passes_line LineStart old new behind read bytes lacks none is consumes ends = absurd (false≢true lacks)
passes_line HeldCr old new behind read bytes lacks none is consumes ends = absurd (false≢true lacks)
passes_line InLine old new behind read bytes lacks none is consumes ends =
    rw is (passes InLine old new behind (subst (Consumes old new) none consumes) ends)

-- a CR that was held back comes before the byte that follows it
pub gives_cr : (byte : ℕ) (old new behind : Option (List ℕ)) → Consumes old new (byte ∷ [])
    → Consumes (known_behind (option_map (ended HeldCr) old) behind)
    (prepend_known (byte ∷ []) (known_behind (option_map (ended (behind_byte byte)) new) behind)) (13 ∷ [])
gives_cr byte None new behind consumes = tt
gives_cr byte (Some old) None behind consumes = absurd consumes
gives_cr byte (Some old) (Some new) None consumes = tt
gives_cr byte (Some old) (Some new) (Some behind) consumes = ap (λ text. ended HeldCr text ++ behind) consumes

pub first_is_set : (bytes : List ℕ) (byte : ℕ) → 0 < length bytes → take 1 (set bytes 0 byte) ≡ byte ∷ []
first_is_set [] byte some = absurd (omega (arith, some))
first_is_set (old ∷ bytes) byte some = refl

pub given_le : (count : ℕ) (stand : Stand) → given_of count stand ≤ count
given_le count LineStart = omega arith
given_le count HeldCr = omega arith
given_le count InLine = omega arith

-- of the front of a buffer the front is given
pub given_front : (count : ℕ) (stand : Stand) (buffer : List ℕ) → take (given_of count stand) (take count buffer) ≡ take (given_of count stand) buffer
given_front count stand buffer = take-take (given_of count stand) count buffer (given_le count stand)

-- a byte that was read is all that a buffer of one byte has
pub one_read : (bytes : List ℕ) (count : ℕ) → length bytes ≡ 1 → count ≢ 0 → take count bytes ≡ get_or bytes 0 0 ∷ []
one_read [] count size some = absurd (omega (arith, size))
one_read (byte ∷ bytes) zero size some = absurd (some refl)
one_read (byte ∷ []) (suc zero) size some = refl
one_read (byte ∷ []) (suc (suc count)) size some = refl
one_read (byte ∷ next ∷ bytes) (suc count) size some = absurd (omega (arith, size))

-- a byte that is owed comes first
pub gives_owed : (byte : ℕ) (left : Option (List ℕ)) → Consumes (prepend_known (byte ∷ []) left) left (byte ∷ [])
gives_owed byte None = tt
gives_owed byte (Some bytes) = refl

-- what readers that tell their bytes have left is the text of their decks in a row
pub left_in_row : {R : Type 0} (left : R → Option (List ℕ)) (decks : List R) (texts : List (List ℕ)) → map left decks ≡ map Some texts
    → left_of left LineStart decks ≡ Some (in_row texts)
left_in_row left [] [] known = refl
left_in_row left [] (text ∷ texts) known = absurd (omega (arith, ap length known))
left_in_row left (deck ∷ decks) [] known = absurd (omega (arith, ap length known))
left_in_row left (deck ∷ decks) (text ∷ texts) known =
    ap (λ one. known_behind (option_map (ended LineStart) one) (left_of left LineStart decks)) (first known)
    ∙ ap (known_behind (Some (ended LineStart text))) (left_in_row left decks texts (ap (drop 1) known))
  where
    first : (left deck ∷ map left decks ≡ Some text ∷ map Some texts) → left deck ≡ Some text
    first same = ap (λ all. get_or all 0 None) same

-- the first of readers and those behind it have left what all of them have
pub first_taken : {R : Type 0} (left : R → Option (List ℕ)) (first : Option R) (rest decks : List R) → (0 < length decks → IsSome first)
    → decks ≡ option_to_list first ++ rest → left_behind left LineStart first rest ≡ left_of left LineStart decks
first_taken left None rest [] some are = refl
first_taken left None rest (deck ∷ decks) some are = absurd (false≢true (some (omega arith)))
first_taken left (Some deck) rest decks some are = ap (left_of left LineStart) (sym are)
