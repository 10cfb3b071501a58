-- Threads in line: none, or one.
use Rattle.std.proofs.Common.{◌≡◌, ℕ, ◌+◌, ◌-◌, ◌<◌, ◌≤◌, List, [], ◌∷◌, arith, Option}
use Rattle.std.proofs.lemmas.Bool.{lt-leb}
use Rattle.rc_pikevm.specs.Passing.{IsLined}
use Rattle.rc_pikevm.specs.Readers.{reader_count}
use Rattle.rc_pikevm.specs.Sights.{Sight}
use Rattle.rc_pikevm.specs.Threads.{ThreadList, thread_of}
use Rattle.rc_pikevm.specs.declared.threads.BareThread.{BareThread}

module _ (s : Sight) (n hi width insertions : ℕ) (curr : ThreadList) (wide : curr.width ≡ width) (room : reader_count s.places < curr.room) where
  -- none is in line at any position
  pub no_line : (at : ℕ) → curr.items ≡ [] → IsLined s n hi width at insertions curr
  no_line at none = record {
    inside = rw none tt;
    width_is = wide;
    room = room;
    waiting = rw none (omega arith);
    within = λ x low some. absurd (let no : 0 < 0 = rw none at some in omega (arith, no));
    begun = rw none tt;
  }

  -- one is, and goes on at once
  pub one_in_line : (r : BareThread) (slots : List (Option ℕ)) → curr.items ≡ thread_of r slots ∷ [] → r.place < n → r.at ≤ hi →
      r.at - insertions ≤ r.start → IsLined s n hi width r.at insertions curr
  one_in_line r slots one place high start = record {
    inside = rw one ((place, omega arith, omega (arith, high)), tt);
    width_is = wide;
    room = room;
    waiting = rw (one, lt-leb (r.at + 1) r.at (omega arith)) (omega arith);
    within = λ x low some. absurd (let no : 0 + 0 < 0 + 0 = rw (one, lt-leb (x + 1) r.at (omega (arith, low))) at some in omega (arith, no));
    begun = rw one (start, tt);
  }
