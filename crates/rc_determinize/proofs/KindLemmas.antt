-- The laws of the steps of each kind.
use Rattle.std.proofs.Common.{◌≡◌, ℕ, ◌<◌, ◌≤◌, ◌⊎◌, ◌↔◌, Bool, true, false, List, [], ◌∷◌, length, Option, Some, inl, inr, ⊎_elim, refl, sym, subst, ap, ◌∙◌, arith}
use Rattle.rc_program.specs.Program.{Place, Way, stays, reads}
use Rattle.rc_program.specs.Laws.{IsClosed}
use Rattle.rc_program.proofs.PlaceLemmas.{goal_of}
use Rattle.rc_determinize.specs.Steps.{HasPlace, AreOnce, AreBelow, IsStep}
use Rattle.rc_determinize.specs.declared.sides.Seen.{Seen}
use Rattle.rc_determinize.specs.declared.sides.Sides.{Sides}
use Rattle.rc_determinize.specs.Sides.{holds_by, out_over, AreAlike}
use Rattle.rc_determinize.specs.States.{Setting, State, IsNext, root_if, is_match}
use Rattle.rc_determinize.specs.Steps.{HasWay}
use Rattle.rc_determinize.proofs.SidesLemmas.{alike_out}
use Rattle.rc_text.specs.declared.types.MatchKind.{MatchKind}
use Rattle.rc_text.specs.declared.types.MatchKind.TheVariants.{All as all_matches, LeftmostFirst as leftmost_first, LeftmostLongest as leftmost_longest}
use Rattle.rc_determinize.specs.Steps.{IsRising}
use Rattle.rc_determinize.specs.Sets.{ComesBy, IsLeastMatch, IsNextOfAll}
use Rattle.rc_determinize.specs.Kinds.{IsNextByOver, IsNextBy, longest, bound_of, IsListOf, KindLaw, TurnLaw}
use Rattle.rc_determinize.proofs.LimitLemmas as limit
use Rattle.rc_determinize.proofs.UnderLemmas.{out_under}
use Rattle.rc_determinize.proofs.LongestStepLemmas.{longest_step_law}

pub rising_once : (qs : List ℕ) → IsRising qs → AreOnce qs
rising_once [] h = tt
rising_once (q ∷ qs) h = ((λ k. let l = h.0 q k in absurd (omega (arith, l))), rising_once qs h.1)

alike_next : (g : Setting) (root b c : ℕ) (s s2 : State) → AreAlike g.places g.needs g.terminator b c → IsNext g root s (Some b) s2 → IsNext g root s (Some c) s2
alike_next g root b c s s2 a n = record {
  next = n.next;
  is_step = subst (λ o. IsStep o (is_match g.places) s.list n.next s2.matched) (alike_out g.places g.needs g.terminator b c s.beside a) n.is_step;
  goes_on = n.goes_on;
  joined = n.joined;
  beside = n.beside ∙ a.told_same;
}

alike_all : (g : Setting) (root b c : ℕ) (s s2 : State) → AreAlike g.places g.needs g.terminator b c → IsNextOfAll g root s (Some b) s2 →
    IsNextOfAll g root s (Some c) s2
alike_all g root b c s s2 a n =
    let e = alike_out g.places g.needs g.terminator b c s.beside a in
    record {
      list = λ q. subst (λ o. HasPlace q s2.list ↔ (((s2.goes_on ≡ true) × (q ≡ root)) ⊎ ((p : ℕ) × ComesBy o s.list p × HasWay (reads 1 q) (o p)))) e (n.list q);
      rising = n.rising;
      matched = subst (λ o. IsLeastMatch g.places (ComesBy o s.list) s2.matched) e n.matched;
      goes_on = n.goes_on;
      beside = n.beside ∙ a.told_same;
    }

alike : (kind : MatchKind) (g : Setting) (root b c : ℕ) (s t : State) → AreAlike g.places g.needs g.terminator b c →
    IsNextBy kind g root s (Some b) t → IsNextBy kind g root s (Some c) t
alike leftmost_first g root b c s t a n = alike_next g root b c s t a n
alike all_matches g root b c s t a n = alike_all g root b c s t a n
alike leftmost_longest g root b c s t a n = longest_step_law.alike g root b c s t a n

root_under : (b : Bool) (root n : ℕ) → root < n → AreBelow n (root_if b root)
root_under true root n h k i = ⊎_elim (λ e. subst (λ x. x < n) e h) (λ never. absurd never) i
root_under false root n h k i = absurd i

abbrev kind_of : Way → ℕ
kind_of (stays q) = 0
kind_of (reads n q) = 1

read_in : (n q : ℕ) (ws : List Way) → HasWay (reads n q) ws → HasPlace q (limit.read_by ws)
read_in n q [] h = absurd h
read_in n q (stays k ∷ ws) h = ⊎_elim (λ e. absurd (stays_reads e)) (λ z. read_in n q ws z) h
  where
    stays_reads : stays k ≡ reads n q → ⊥
    stays_reads e = let f : 0 ≡ 1 = ap (λ w. kind_of w) e in omega (arith, f)
read_in n q (reads m k ∷ ws) h = ⊎_elim (λ e. inl (ap (λ w. goal_of w) e)) (λ z. inr (read_in n q ws z)) h

inside : (kind : MatchKind) (places : List Place) (root : ℕ) (s t : State) (sides : Sides) → IsClosed places → root < length places →
    IsNextByOver kind places root s sides t → IsListOf kind (length places) t.list
inside leftmost_first places root s t sides closed rooted n =
    let f = limit.next_fits (out_over places s.beside sides) (is_match places) (length places)
    (out_under places closed (holds_by s.beside sides.near) sides.byte) n.is_step in
    (limit.once_kept n.joined f.0, limit.under_kept (length places) n.joined f.1 (root_under t.goes_on root (length places) rooted))
inside all_matches places root s t sides closed rooted n = (
  rising_once t.list n.rising,
  λ q h.
      ⊎_elim (λ x. subst (λ k. k < length places) (sym x.1) rooted)
      (λ x. out_under places closed (holds_by s.beside sides.near) sides.byte x.0 q (read_in 1 q _ x.2))
      ((n.list q).0 h),
)
inside leftmost_longest places root s t sides closed rooted n = longest_step_law.inside places root s t sides closed rooted n

below : (kind : MatchKind) (places : ℕ) (list : List ℕ) → IsListOf kind places list → AreBelow (bound_of kind places) list
below leftmost_first places list i = i.1
below all_matches places list i = i.1
below leftmost_longest places list i = longest_step_law.within places list i

short : (kind : MatchKind) (places : List Place) (root : ℕ) (s t : State) (sides : Sides) → IsClosed places → root < length places →
    IsNextByOver kind places root s sides t → length t.list ≤ longest kind (length places)
short leftmost_first places root s t sides closed rooted n =
    let f = inside leftmost_first places root s t sides closed rooted n in limit.short (length places) t.list f.0 f.1
short all_matches places root s t sides closed rooted n =
    let f = inside all_matches places root s t sides closed rooted n in limit.short (length places) t.list f.0 f.1
short leftmost_longest places root s t sides closed rooted n = longest_step_law.short places root s t sides closed rooted n

forgets : (kind : MatchKind) (places : List Place) (root : ℕ) (s t : State) (sides : Sides) (matched : Option ℕ) →
    IsNextByOver kind places root s sides t → IsNextByOver kind places root (record s { matched = matched }) sides t
forgets leftmost_first places root s t sides matched n =
    record { next = n.next; is_step = n.is_step; goes_on = n.goes_on; joined = n.joined; beside = n.beside }
forgets all_matches places root s t sides matched n =
    record { list = n.list; rising = n.rising; matched = n.matched; goes_on = n.goes_on; beside = n.beside }
forgets leftmost_longest places root s t sides matched n = longest_step_law.forgets places root s t sides matched n

tells : (kind : MatchKind) (places : List Place) (root : ℕ) (s t : State) (sides : Sides) →
    IsNextByOver kind places root s sides t → t.beside ≡ sides.far
tells leftmost_first places root s t sides n = n.beside
tells all_matches places root s t sides n = n.beside
tells leftmost_longest places root s t sides n = n.beside

pub kind_law : KindLaw
kind_law = record { alike = alike; inside = inside; below = below; short = short; forgets = forgets; tells = tells }

turned_next : (kind : MatchKind) (places : List Place) (root : ℕ) (s t : State) (sides : Sides) (far : Seen) →
    IsNextByOver kind places root s sides t → IsNextByOver kind places root s (record sides { far = far }) (record t { beside = far })
turned_next leftmost_first places root s t sides far n =
    record { next = n.next; is_step = n.is_step; goes_on = n.goes_on; joined = n.joined; beside = refl }
turned_next all_matches places root s t sides far n =
    record { list = n.list; rising = n.rising; matched = n.matched; goes_on = n.goes_on; beside = refl }
turned_next leftmost_longest places root s t sides far n =
    record { onward = n.onward; groups = n.groups; steps = n.steps; goes_on = n.goes_on; once = n.once; list = n.list; beside = refl }

pub turn_law : TurnLaw
turn_law = record {
  next = turned_next;
  prior = λ places roots s t sides far n.
      record { list = n.list; rising = n.rising; matched = n.matched; goes_on = n.goes_on; beside = refl };
}
