-- What a pass tells that ends at the first position at which a walk ends.
use Rattle.std.proofs.Common.{◌≡◌, ◌∙◌, ap, ℕ, ◌+◌, ◌*◌, ◌<◌, ◌≤◌, List, [], ◌∷◌, ◌++◌, length, map, Option, Some, None, IsTrue, is_some, true, true≢false, false, ⊎_elim, refl, sym, arith}
use Rattle.std.proofs.lemmas.Option.{none-some}
use Rattle.rc_walks.specs.Walks.{Pair}
use Rattle.rc_walks.specs.Tries.{walk_by}
use Rattle.rc_walks.specs.Threads.{IsFirstOf, over, found, passes, noted}
use Rattle.rc_walks.proofs.TryLemmas.{Finds, walk_by_finds}
use Rattle.rc_text.specs.Found.{Found}
use Rattle.rc_program.specs.Program.{place_at}
use Rattle.rc_program.specs.Answer as whole
use Rattle.rc_program.specs.Answer.{Search, only, last_of, answer, found as found_of}
use Rattle.rc_pikevm.specs.Sights.{Sight, sight_of, ends, next_of}
use Rattle.rc_program.specs.Greatest.{IsSpelledIn, greatest}
use Rattle.rc_program.proofs.GreatestLemmas.{greatest_none, spelled_within, answer_spelled, no_answer_no_span}
use Rattle.rc_program.proofs.AnswerLemmas.{last_start_of, start_within_last, start_to_last, match_place_is, walk_ends, answer_law}
use Rattle.rc_program.proofs.WayLemmas.{same_pair}
use Rattle.rc_pikevm.specs.Threads.{Thread}
use Rattle.rc_pikevm.specs.Trace.{Trace, note, done}
use Rattle.rc_pikevm.specs.Passing.{pending, AllIn, GivesTrace, Pending, Tells, best_of}
use Rattle.rc_pikevm.specs.declared.pass.Ending.{Ending}
use Rattle.rc_pikevm.proofs.SightLemmas.{last_pair, is_bounded}

module _ (s : Sight) where
  abbrev Ends : Pair → Type 0
  Ends n = IsTrue (ends s n)

  abbrev pub tried : Pair → Option (List Pair)
  tried n = walk_by (next_of s) (ends s) (length s.places * (s.hi + 1)) [] n

  pub tried_finds : (n : Pair) → n.1 ≤ s.hi → Finds (next_of s) Ends [] (n ∷ []) (tried n)
  tried_finds n h =
      walk_by_finds (next_of s) (ends s) same_pair (last_pair s) (length s.places) (s.hi + 1) (is_bounded s)
      (length s.places * (s.hi + 1)) [] n (omega arith) tt tt (omega arith)

  abbrev Gives : List (Trace × Pair) → Trace → Type 0
  Gives ts d = (t : Trace) × IsFirstOf (next_of s) Ends Trace (note s.places) [] (λ q. q ≡ Some d) ts (Some t)

  goes_by : (t : Trace × Pair) (ts : List (Trace × Pair)) (d : Trace) (o : Option (List Pair)) →
      Finds (next_of s) Ends [] (t.1 ∷ []) o → Gives ts d → Gives (t ∷ ts) d
  goes_by t ts d None h rest = (rest.0, passes t h rest.1)
  goes_by t ts d (Some w) h rest = (noted (note s.places) t.0 w, found t w h)

  -- where something was met, the threads that are left give something
  threads_give : (n lo top : ℕ) (ts : List Thread) (d : Trace) → top ≤ s.hi → AllIn n lo top ts → Gives (map pending ts ++ []) d
  threads_give n lo top [] d high all = (d, over refl)
  threads_give n lo top (t ∷ ts) d high all =
      goes_by (pending t) (map pending ts ++ []) d (tried (t.place, t.at)) (tried_finds (t.place, t.at) (omega (arith, all.0, high)))
      (threads_give n lo top ts d high all.1)

  module _ (width from last : ℕ) where
    tells_some : (r : Ending) (t : Trace) → GivesTrace s width from last (Some t) → Tells s from last (Some r)
    tells_some r t g = ⊎_elim (λ e. absurd (none-some t (sym e.0))) (λ m. (m.0, m.1, m.2, m.3, m.4)) g

    -- some start has a walk, where one has ended
    pub early_tells : (n lo top at : ℕ) (curr : List Thread) (best : Option Ending) (slots : List (Option ℕ)) → is_some best ≡ true → top ≤ s.hi →
        AllIn n lo top curr → ((o : Option Trace) → Pending s width last at curr best slots o → GivesTrace s width from last o) → Tells s from last best
    early_tells n lo top at curr None slots some high all law = absurd (true≢false (sym some))
    early_tells n lo top at curr (Some r) slots some high all law =
        let got = threads_give n lo top curr (done r.pattern r.start r.end slots) high all in tells_some r got.0 (law (Some got.0) (over got.1))

    -- what a whole pass gives tells it too
    pub whole_tells : (best : Option Ending) (slots : List (Option ℕ)) → GivesTrace s width from last (best_of best slots) → Tells s from last best
    whole_tells None slots g = ⊎_elim (λ n. n.1) (λ m. absurd (none-some _ m.6)) g
    whole_tells (Some r) slots g = tells_some r (done r.pattern r.start r.end slots) g

-- what is told of all starts of a search says whether something is spelled
module _ (s : Search) where
  spelled_there : (x : ℕ) (w : List Pair) → s.lo ≤ x → x ≤ last_start_of s → whole.IsFirstFrom s x w → IsSpelledIn s (found_of s (record { start = x; walk = w }))
  spelled_there x w low high first = record {
    is_start = start_within_last s x low (omega (arith, high));
    walk = w;
    is_walk = first.is_walk;
    pattern = match_place_is (only s.anchoring) (place_at s.places (last_of w).0) (walk_ends (whole.next_of s) (λ n. IsTrue (whole.ends s n)) first.is_walk);
    position = refl;
  }

  is_greatest : (o : Option Found) → greatest s ≡ o → (m : Found) → IsSpelledIn s m → is_some o ≡ true
  is_greatest None e m h = absurd ((greatest_none s).0 e m h)
  is_greatest (Some n) e m h = refl

  pub tells_greatest : (last : ℕ) (best : Option Ending) → last ≡ last_start_of s → Tells (sight_of s) s.lo last best → is_some best ≡ is_some (greatest s)
  tells_greatest last None e t =
      sym (ap is_some ((greatest_none s).1 (λ m h.
      let below : m.start < last_start_of s + 1 = start_to_last s m.start h.is_start in
      t m.start h.is_start.0 (omega (arith, below, e)) h.walk h.is_walk)))
  tells_greatest last (Some r) e t =
      sym (is_greatest (greatest s) refl (found_of s (record { start = t.0; walk = t.1 })) (spelled_there t.0 t.1 t.2 (omega (arith, t.3, e)) t.4))

  pub outside_greatest : s.hi < s.lo → false ≡ is_some (greatest s)
  outside_greatest h =
      sym (ap is_some ((greatest_none s).1 (λ m x. let w = spelled_within s m x in omega (arith, w.0, w.1, w.2, h))))

  -- where none is passed over, there is an answer exactly where something is spelled
  pub greatest_answer : s.passes_over ≡ false → is_some (greatest s) ≡ is_some (answer s)
  greatest_answer off = by_both (greatest s) (answer s) refl refl
    where
      by_both : (g a : Option Found) → greatest s ≡ g → answer s ≡ a → is_some g ≡ is_some a
      by_both None None e f = refl
      by_both (Some m) (Some n) e f = refl
      by_both None (Some n) e f = absurd ((greatest_none s).0 e n (answer_spelled s n f))
      by_both (Some m) None e f =
          absurd (none-some m (sym ((greatest_none s).1 (no_answer_no_span s off ((answer_law.answer_none s).0 f))) ∙ e))
