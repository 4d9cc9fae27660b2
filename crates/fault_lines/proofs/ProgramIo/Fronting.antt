-- What is known of the front of an answer.
use Rattle.std.proofs.Common.{◌∙◌, ◌⊎◌, inl, inr, ℕ, List, ◌++◌, Option, None, Some, length, take, drop, ap, sym, subst, append_assoc, take-append-drop}
use Rattle.std.proofs.Math.Seq.{take-length}
use Rattle.std.specs.Io.KnownBytes.{Appends, append_known}
use Rattle.fault_lines.specs.ProgramIo.Fronts.{AppendsFront, WritesFront}

-- with the rest behind the front all bytes are written
rest_behind : (old new : Option (List ℕ)) (front rest : List ℕ) → Appends old new front → Appends old (append_known new rest) (front ++ rest)
rest_behind None new front rest taken = tt
rest_behind (Some held) None front rest taken = absurd taken
rest_behind (Some held) (Some holds) front rest taken = ap (λ l. l ++ rest) taken ∙ append_assoc held front rest

module _ {Writes : (old new : Option (List ℕ)) → Type 0} {old new : Option (List ℕ)} (bytes : List ℕ)
    (whole : (after : Option (List ℕ)) → Appends old after bytes → Writes old after) where
  -- the first of the bytes are the front of what is written where they all are
  pub front_of_first : (count : ℕ) → Appends old new (take count bytes) → WritesFront Writes old new
  front_of_first count taken = record {
    front = take count bytes;
    rest = drop count bytes;
    taken = taken;
    whole = whole (append_known new (drop count bytes))
        (subst (Appends old (append_known new (drop count bytes))) (take-append-drop count bytes)
        (rest_behind old new (take count bytes) (drop count bytes) taken));
  }

  -- so is the front of them
  pub front_of_bytes : AppendsFront old new bytes → WritesFront Writes old new
  front_of_bytes part = front_of_first part.count part.taken

  -- and they all are
  pub front_of_all : Appends old new bytes → WritesFront Writes old new
  front_of_all all = front_of_first (length bytes) (subst (Appends old new) (sym (take-length bytes)) all)

-- the front of one thing is that of another, where writing the one is writing the other
pub front_again : {One Other : (old new : Option (List ℕ)) → Type 0} {old new : Option (List ℕ)}
    → ((after : Option (List ℕ)) → One old after → Other old after) → WritesFront One old new → WritesFront Other old new
front_again {new = new} again part =
    record { front = part.front; rest = part.rest; taken = part.taken; whole = again (append_known new part.rest) part.whole }

-- nothing was written, or the front of another thing
pub none_or_front_again : {Nothing : Type 0} {One Other : (old new : Option (List ℕ)) → Type 0} {old new : Option (List ℕ)}
    → ((after : Option (List ℕ)) → One old after → Other old after) → Nothing ⊎ WritesFront One old new → Nothing ⊎ WritesFront Other old new
none_or_front_again again (inl none) = inl none
none_or_front_again again (inr part) = inr (front_again again part)
