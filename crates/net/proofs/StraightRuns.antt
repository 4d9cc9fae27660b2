-- Runs of wires from columns to wheels: a run that gets longer, and what is found by their places.
use Rattle.std.proofs.Common.{⊎_elim, ◌≡◌, ◌∙◌, ℕ, ◌+◌, ◌-◌, ◌<◌, ◌≤◌, ◌&&◌, ◌||◌, inl, inr, Bool, true, List, [], ◌∷◌, Option, Some, None, Vec, Global, IfSome, All, length, zero, suc, get_or, refl, sym, ap, subst, arith}
use Rattle.std.specs.Prelude.{◌==◌}
use Rattle.std.proofs.Math.ListN.{set}
use Rattle.std.proofs.lemmas.Bool.Decides.{nat_tests}
use Rattle.std.proofs.lemmas.List.{get_or_default}
use Rattle.std.specs.List.{list_any}
use Rattle.net.specs.Straight.{AreRunsOf, IsColumnToWheel, IsInside, IsRunWire, JoinsWire, is_in_run, is_straight}
use Rattle.std.proofs.lemmas.Bool.{and_from, and_parts, eq-eqb, or_cases, or_left, or_right}
use Rattle.net.specs.declared.straight.Straight.{Straight}

-- an element that passes a test more often
any-set : {X : Type 0} (p : X → Bool) (xs : List X) (i : ℕ) (y d : X) (more : Bool) → i < length xs → p y ≡ (p (get_or xs i d) || more)
    → list_any p (set xs i y) ≡ (list_any p xs || more)
any-set p [] i y d more low is = absurd (omega (arith, low))
any-set p (x ∷ xs) zero y d more low is = by (p x) (list_any p xs) more (p y) is where
  by : (a b m n : Bool) → n ≡ (a || m) → (n || b) ≡ ((a || b) || m)
  by a b m n e = grind (arith, nat_tests, e)
any-set p (x ∷ xs) (suc i) y d more low is =
    ap (λ b. p x || b) (any-set p xs i y d more (omega (arith, low)) is) ∙ by (p x) (list_any p xs) more where
      by : (a b m : Bool) → (a || (b || m)) ≡ ((a || b) || m)
      by a b m = grind (arith, nat_tests)

-- a run gets longer by a wire that lies beside its last one
longer : (column wheel first wheels count c w : ℕ) → ((first + count == column) && (wheels + count == wheel)) ≡ true
    → is_in_run c w (record { column = first; wheel = wheels; count = count + 1 })
    ≡ (is_in_run c w (record { column = first; wheel = wheels; count = count }) || ((c == column) && (w == wheel)))
longer column wheel first wheels count c w beside = grind (arith, nat_tests, beside)

pub joined : (runs : List Straight) (i : ℕ) (one run : Straight) (column wheel c w : ℕ) → i < length runs → one ≡ get_or runs i one
    → run ≡ get_or runs i run → ((one.column + one.count == column) && (one.wheel + one.count == wheel)) ≡ true
    → is_straight (set runs i (record { column = run.column; wheel = run.wheel; count = run.count + 1 })) c w
    ≡ (is_straight runs c w || ((c == column) && (w == wheel)))
joined runs i one run column wheel c w low is and_is on =
    any-set (is_in_run c w) runs i _ run ((c == column) && (w == wheel)) low
    (longer column wheel run.column run.wheel run.count c w
    (subst (λ (r : Straight). ((r.column + r.count == column) && (r.wheel + r.count == wheel)) ≡ true)
    (is ∙ get_or_default runs i one run low ∙ sym and_is) on)
    ∙ ap (λ (r : Straight). is_in_run c w r || ((c == column) && (w == wheel))) and_is)

-- Wires so far, told of by their places, and one more.
module _ (some more : ℕ → ℕ → Bool) (from to : ℕ) (one_more : (f t : ℕ) → more f t ≡ (some f t || ((f == from) && (t == to)))) where
  here : (m n : ℕ) → (m == n) ≡ true → m ≡ n
  here m n e = grind (arith, nat_tests, e)

  -- it leads from an exit that tells of cycles
  pub runs-past : (runs : List Straight) → 1024 ≤ from → AreRunsOf some runs → AreRunsOf more runs
  runs-past runs high before = record {
    inside = before.inside;
    wired = λ column wheel listed. one_more _ _ ∙ or_left _ _ (before.wired column wheel listed);
    only = λ f t on. ⊎_elim (before.only f t)
        (λ new. let same = here f from (and_parts (f == from) (t == to) new).0 in inl (omega (arith, same, high)))
        (or_cases (some f t) _ (sym (one_more f t) ∙ on));
  }

  -- it leads from a column to a wheel, and the runs have it
  pub runs-more : (old new : List Straight) → IsColumnToWheel from to → All IsInside new → JoinsWire (from - 80) (to - 1798) old new
      → AreRunsOf some old → AreRunsOf more new
  runs-more old new ends inside joins before = record {
    inside = inside;
    wired = λ column wheel listed. one_more _ _ ∙ ⊎_elim
        (λ was. or_left _ _ (before.wired column wheel was))
        (λ is. or_right (some (80 + column) (1798 + wheel)) _ (there column wheel is))
        (or_cases (is_straight old column wheel) _ (sym (joins column wheel) ∙ listed));
    only = λ f t on. ⊎_elim
        (λ was. ⊎_elim (λ high. inl high)
        (λ wire. inr (record { ends = wire.ends; listed = joins _ _ ∙ or_left _ _ wire.listed })) (before.only f t was))
        (λ is. inr (last f t (and_parts (f == from) (t == to) is)))
        (or_cases (some f t) _ (sym (one_more f t) ∙ on));
  }
    where
      there : (column wheel : ℕ) → ((column == from - 80) && (wheel == to - 1798)) ≡ true
          → ((80 + column == from) && (1798 + wheel == to)) ≡ true
      there column wheel is = let low = ends.column in let and_low = ends.wheel in grind (arith, nat_tests, is, low, and_low)

      last : (f t : ℕ) → ((f == from) ≡ true) × ((t == to) ≡ true) → IsRunWire new f t
      last f t is = rw (here f from is.0, here t to is.1) (record {
        ends = ends;
        listed = joins (from - 80) (to - 1798) ∙ or_right (is_straight old (from - 80) (to - 1798)) _
            (and_from _ _ (eq-eqb (from - 80) (from - 80) refl) (eq-eqb (to - 1798) (to - 1798) refl));
      })

-- runs that are found, of wires that are told of in another way
pub runs-alike : (one other : ℕ → ℕ → Bool) (found : Option (Vec Straight Global)) → ((f t : ℕ) → one f t ≡ other f t)
    → IfSome found (λ runs. AreRunsOf one runs.items) → IfSome found (λ runs. AreRunsOf other runs.items)
runs-alike one other None same are = are
runs-alike one other (Some runs) same are = record {
  inside = are.inside;
  wired = λ column wheel listed. sym (same _ _) ∙ are.wired column wheel listed;
  only = λ f t on. are.only f t (same f t ∙ on);
}
