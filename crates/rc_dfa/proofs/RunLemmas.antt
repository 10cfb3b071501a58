-- The laws of runs.
use Rattle.std.proofs.Common.{◌≡◌, ℕ, ◌+◌, ◌<◌, ◌≤◌, ◌⊎◌, Bool, false, not, List, [], length, Option, Some, None, inl, inr, ⊎_elim, sym, subst, ap, ◌∙◌, refl, arith}
use Rattle.rc_text.specs.declared.types.MatchKind.{MatchKind}
use Rattle.rc_text.specs.declared.types.MatchKind.TheVariants.{All as all_matches, LeftmostFirst as leftmost_first, LeftmostLongest as leftmost_longest}
use Rattle.rc_text.specs.declared.types.Anchored.{Anchored}
use Rattle.rc_walks.specs.Walks.{Pair, IsIn}
use Rattle.rc_program.specs.Text.{Text, before_at}
use Rattle.rc_program.specs.Program.{ways}
use Rattle.rc_determinize.specs.Gives.{Gives}
use Rattle.rc_determinize.specs.Sides.{told_side}
use Rattle.rc_determinize.specs.LongestLaws.{IsRacing, GivesLongest}
use Rattle.rc_determinize.proofs.LongestStepLemmas.{longest_forward_law}
use Rattle.rc_determinize.specs.Sets.{Comes}
use Rattle.rc_determinize.specs.States.{Setting, IsSetting, State, IsInside, IsUnderWay, Stops, all_starts, best_at}
use Rattle.rc_determinize.specs.Spans.{IsLastSoFar}
use Rattle.rc_determinize.proofs.LawLemmas.{forward_law}
use Rattle.rc_dfa.specs.Machine.{Alphabet, bytes, symbols, Direction, forwards, backwards, Machine, IsMachine}
use Rattle.rc_dfa.specs.Runs.{RunEnd, met_last, stopped_at, MayReadSide, BeginsBy, at_bound, SearchEndsOver, SearchEnds, SearchEndsDownOver, SearchEndsDown, ran, unread}
use Rattle.rc_dfa.specs.Laws.{starts_of, position_of, IsUnread, RunLaw}
use Rattle.rc_dfa.proofs.AlphabetLemmas.{near_ahead, begins_ahead}
use Rattle.rc_dfa.proofs.StartLemmas.{IsRoot, some_root, stop_no_met, fewer_starts, starts_within}
use Rattle.rc_dfa.proofs.FirstLemmas as first
use Rattle.rc_dfa.proofs.GatherLemmas as gather
use Rattle.rc_dfa.proofs.LongestRunLemmas as longest
use Rattle.rc_dfa.proofs.DownLemmas as down
use Rattle.rc_dfa.proofs.StopLemmas as matched
use Rattle.rc_dfa.proofs.MetLemmas.{IsMetAt, end_met, runs_below, runs_low, comes_more, gives_met, reaches_met, gives_none, comes_within}

-- FORWARDS

module _ (a : Alphabet) (g : Setting) (entries : List ℕ) (ok : IsSetting g) (t : Text) (same : g.terminator ≡ t.terminator) (hi from : ℕ) (inside : IsInside t from hi)
    (anchored : Anchored) where
  abbrev machine : MatchKind → Machine
  machine kind = record { setting = g; entries = entries; direction = forwards kind; alphabet = a }

  abbrev Begun : MatchKind → State → Type 0
  Begun kind s = IsRoot (machine kind) anchored (told_side g.needs g.terminator (before_at t from)) from hi s

  begun_so : (kind : MatchKind) (s : State) → MayReadSide a (machine kind) (before_at t from) → BeginsBy a (machine kind) anchored (before_at t from) s →
      Begun kind s
  begun_so kind s may h = some_root a kind g entries anchored _ from hi s (begins_ahead a (machine kind) anchored t from s may h)

  -- walks may begin at a later position by the root 0 alone
  rooted_so : (kind : MatchKind) (s : State) → (b : Begun kind s) → (b.root ≡ 0) ⊎ (s.goes_on ≡ false)
  rooted_so kind s b = ⊎_elim (λ z. inl z) (λ z. inr (let f = b.is_first in f.goes_on ∙ ap (λ x. not x) z)) b.rooted

  begins_at : (bound : ℕ) (s : State) (b : Begun leftmost_first s) → IsUnderWay g t bound b.root (all_starts b.once b.root from bound) from s None
  begins_at bound s b = forward_law.begins_beside g t bound b.root from b.once s ok same b.is_first

  first_run : (earliest : Bool) (e : RunEnd) (r : Option Pair) → SearchEndsOver a (machine leftmost_first) t hi from anchored earliest e → e ≡ met_last r →
      (earliest ≡ false) ⊎ (r ≡ None) → Gives (ways g.places t hi) (Stops g.places) [] (starts_of (machine leftmost_first) anchored from hi) r
  first_run earliest e r (ran s may begins ends) is k =
      let b = begun_so leftmost_first s may begins in
      subst (λ o. Gives (ways g.places t hi) (Stops g.places) [] o r) (sym b.starts)
      (first.ends a g entries ok t same hi from b.root inside (all_starts b.once b.root from hi) s (begins_at hi s b) (rooted_so leftmost_first s b)
      earliest e r ends is k)
  first_run earliest e r (unread p q may) is k = absurd (stop_no_met is)

  last_run : (earliest : Bool) (e : RunEnd) (r : Option Pair) → SearchEndsOver a (machine all_matches) t hi from anchored earliest e → e ≡ met_last r →
      (earliest ≡ false) ⊎ (r ≡ None) → IsLastSoFar g t hi (starts_of (machine all_matches) anchored from hi) (hi + 1) (position_of r)
  last_run earliest e r (ran s may begins ends) is k =
      let b = begun_so all_matches s may begins in
      subst (λ o. IsLastSoFar g t hi o (hi + 1) (position_of r)) (sym b.starts)
      (gather.ends a g entries ok t same hi from b.root b.once inside s b.is_first b.rooted earliest e r ends is k)
  last_run earliest e r (unread p q may) is k = absurd (stop_no_met is)

  abbrev IsEnd : MatchKind → Pair → Type 0
  IsEnd kind n = Comes (ways g.places t hi) (starts_of (machine kind) anchored from hi) n × Stops g.places n

  first_met : (s : State) (n : Pair) → Begun leftmost_first s → IsMetAt (machine leftmost_first) t hi from s a n → IsEnd leftmost_first n
  first_met s n b w =
      let le = w.within in
      let high = inside.high in
      let low = runs_low (machine leftmost_first) t hi from s w.run in
      let near : IsInside t from n.1 = record { low = inside.low; high = omega (arith, le, high); bounded = inside.bounded } in
      let origin = all_starts b.once b.root from n.1 in
      let f = first.ends a g entries ok t same n.1 from b.root near origin s (begins_at n.1 s b) (rooted_so leftmost_first s b) false
      (met_last (best_at n.1 w.next.matched w.before)) (Some n)
      (at_bound w.state w.next (runs_below (machine leftmost_first) t hi from s w.run n.1 (omega arith)) w.may w.step)
      (ap (λ o. met_last (best_at n.1 o w.before)) w.matched) (inl refl) in
      let c = gives_met (ways g.places t n.1) (Stops g.places) origin n f in (
        subst (λ o. Comes (ways g.places t hi) o n) (sym b.starts)
            (comes_more g.places t n.1 hi ok.by_bytes le origin (all_starts b.once b.root from hi) (fewer_starts b.once b.root from n.1 hi low le) c.0),
        c.1,
      )

  -- the longest match; the machine is closed, and its entries are places

  abbrev Longest : Machine
  Longest = machine leftmost_longest

  racing_at : (bound : ℕ) (s : State) (b : Begun leftmost_longest s) → b.root < length g.places →
      IsRacing g t bound b.root (all_starts b.once b.root from bound) from s None
  racing_at bound s b placed = longest_forward_law.begins_beside g t bound b.root from b.once s ok placed same b.is_first

  longest_run : (earliest : Bool) (e : RunEnd) (r : Option Pair) → IsMachine Longest → SearchEndsOver a Longest t hi from anchored earliest e → e ≡ met_last r →
      (earliest ≡ false) ⊎ (r ≡ None) → GivesLongest (ways g.places t hi) (Stops g.places) (starts_of Longest anchored from hi) r
  longest_run earliest e r k (ran s may begins ends) is c =
      let p = longest.placed_root a g entries anchored _ from hi s k (begins_ahead a Longest anchored t from s may begins) in
      let b = p.0 in
      subst (λ o. GivesLongest (ways g.places t hi) (Stops g.places) o r) (sym b.starts)
      (longest.ends a g entries ok k.closed t same hi from b.root p.1 inside (all_starts b.once b.root from hi) s (racing_at hi s b p.1)
      (rooted_so leftmost_longest s b) earliest e r ends is c)
  longest_run earliest e r k (unread p q may) is c = absurd (stop_no_met is)

  longest_met : (s : State) (n : Pair) → IsMachine Longest → (b : Begun leftmost_longest s) → b.root < length g.places →
      IsMetAt Longest t hi from s a n → IsEnd leftmost_longest n
  longest_met s n k b placed w =
      let le = w.within in
      let high = inside.high in
      let low = runs_low Longest t hi from s w.run in
      let near : IsInside t from n.1 = record { low = inside.low; high = omega (arith, le, high); bounded = inside.bounded } in
      let origin = all_starts b.once b.root from n.1 in
      let f = longest.ends a g entries ok k.closed t same n.1 from b.root placed near origin s (racing_at n.1 s b placed) (rooted_so leftmost_longest s b) false
      (met_last (best_at n.1 w.next.matched w.before)) (Some n)
      (at_bound w.state w.next (runs_below Longest t hi from s w.run n.1 (omega arith)) w.may w.step)
      (ap (λ o. met_last (best_at n.1 o w.before)) w.matched) (inl refl) in
      let c = reaches_met (ways g.places t n.1) (Stops g.places) origin n origin (λ j i. i) f in (
        subst (λ o. Comes (ways g.places t hi) o n) (sym b.starts)
            (comes_more g.places t n.1 hi ok.by_bytes le origin (all_starts b.once b.root from hi) (fewer_starts b.once b.root from n.1 hi low le) c.0),
        c.1,
      )

  met_run : (kind : MatchKind) (earliest : Bool) (e : RunEnd) (n : Pair) → IsMachine (machine kind) → SearchEndsOver a (machine kind) t hi from anchored earliest e → e ≡ met_last (Some n) → IsEnd kind n
  met_run leftmost_first earliest e n k (ran s may begins ends) is =
      first_met s n (begun_so leftmost_first s may begins)
      (end_met (machine leftmost_first) t hi from s earliest e n ends is)
  met_run all_matches earliest e n k (ran s may begins ends) is =
      let b = begun_so all_matches s may begins in
      let w = end_met (machine all_matches) t hi from s earliest e n ends is in
      subst (λ o. Comes (ways g.places t hi) o n × Stops g.places n) (sym b.starts)
      (gather.meets a g entries ok t same hi from b.root b.once inside s b.is_first b.rooted n.1 n.0 w.state w.next w.before w.within w.run
      (near_ahead a (machine all_matches) t n.1 w.may w.state w.next w.step) w.matched)
  met_run leftmost_longest earliest e n k (ran s may begins ends) is =
      let p = longest.placed_root a g entries anchored _ from hi s k (begins_ahead a Longest anchored t from s may begins) in
      longest_met s n k p.0 p.1 (end_met Longest t hi from s earliest e n ends is)
  met_run kind earliest e n k (unread p q may) is = absurd (stop_no_met is)

  none_run : (kind : MatchKind) (earliest : Bool) (e : RunEnd) → IsMachine (machine kind) → SearchEndsOver a (machine kind) t hi from anchored earliest e → e ≡ met_last None → (n : Pair) →
      Comes (ways g.places t hi) (starts_of (machine kind) anchored from hi) n → ¬ Stops g.places n
  none_run leftmost_first earliest e k s is n c matched =
      gives_none g.places t hi ok.by_bytes (starts_of (machine leftmost_first) anchored from hi) (first_run earliest e None s is (inr refl)) n c matched
  none_run leftmost_longest earliest e k s is n c matched =
      gives_none g.places t hi ok.by_bytes (starts_of Longest anchored from hi) (longest_run earliest e None k s is (inr refl)) n c matched
  none_run all_matches earliest e k (ran s may begins ends) is n c matched =
      let b = begun_so all_matches s may begins in
      let le = gather.bounded a g entries ok t same hi from b.root b.once inside s b.is_first b.rooted earliest e ends is in
      let in_bound = comes_within g.places t hi (starts_of (machine all_matches) anchored from hi)
      (λ j i. starts_within b.once b.root from hi le j (subst (λ o. IsIn j o) b.starts i)) c in
      last_run earliest e None (ran s may begins ends) is (inr refl) n.1 (omega (arith, in_bound)) (n.0, c, matched)
  none_run all_matches earliest e k (unread p q may) is n c matched = stop_no_met is

-- in this direction
pub turned : (m : Machine) (d : Direction) → m.direction ≡ d → (P : Machine → Type 0) → P m → P (record m { direction = d })
turned m d e P h = subst (λ x. P (record m { direction = x })) e h

pub run_law : RunLaw
run_law = record {
  first = λ m t hi from anchored r k d same inside s.
      first_run m.alphabet m.setting m.entries k.setting t same hi from inside anchored false (met_last r) r
      (turned m (forwards leftmost_first) d (λ x. SearchEnds x t hi from anchored false (met_last r)) s) refl (inl refl);
  last = λ m t hi from anchored r k d same inside s.
      last_run m.alphabet m.setting m.entries k.setting t same hi from inside anchored false (met_last r) r
      (turned m (forwards all_matches) d (λ x. SearchEnds x t hi from anchored false (met_last r)) s) refl (inl refl);
  longest = λ m t hi from anchored r k d same inside s.
      longest_run m.alphabet m.setting m.entries k.setting t same hi from inside anchored false (met_last r) r (turned m (forwards leftmost_longest) d IsMachine k)
      (turned m (forwards leftmost_longest) d (λ x. SearchEnds x t hi from anchored false (met_last r)) s) refl (inl refl);
  met = λ kind m t hi from anchored earliest n k d same inside s.
      met_run m.alphabet m.setting m.entries k.setting t same hi from inside anchored kind earliest (met_last (Some n)) n (turned m (forwards kind) d IsMachine k)
      (turned m (forwards kind) d (λ x. SearchEnds x t hi from anchored earliest (met_last (Some n))) s) refl;
  none = λ kind m t hi from anchored earliest k d same inside s.
      none_run m.alphabet m.setting m.entries k.setting t same hi from inside anchored kind earliest (met_last None) (turned m (forwards kind) d IsMachine k)
      (turned m (forwards kind) d (λ x. SearchEnds x t hi from anchored earliest (met_last None)) s) refl;
  least = λ m t hi lo end anchored r k d same inside within s.
      down.least_run m.alphabet m.setting m.entries k.setting t same hi lo end inside within anchored false (met_last r) r
      (turned m backwards d (λ x. SearchEndsDown x t lo end anchored false (met_last r)) s) refl (inl refl);
  of_any = down.of_any;
  met_down = λ m t hi lo end anchored earliest x i k d same inside within s.
      down.met_run m.alphabet m.setting m.entries k.setting t same hi lo end inside within anchored earliest (met_last (Some (x, i))) (x, i)
      (turned m backwards d (λ y. SearchEndsDown y t lo end anchored earliest (met_last (Some (x, i)))) s) refl;
  none_down = λ m t hi lo end anchored earliest k d same inside within s.
      down.least_run m.alphabet m.setting m.entries k.setting t same hi lo end inside within anchored earliest (met_last None) None
      (turned m backwards d (λ x. SearchEndsDown x t lo end anchored earliest (met_last None)) s) refl (inr refl);
  stops = λ m t hi from anchored earliest p inside le s. stops_by m.alphabet m t hi from anchored earliest p inside le s;
  stops_down = λ m t hi lo end anchored earliest p inside below within s. stops_down_by m.alphabet m t hi lo end anchored earliest p inside below within s;
}
  where
    stops_by : (a : Alphabet) (m : Machine) (t : Text) (hi from : ℕ) (anchored : Anchored) (earliest : Bool) (p : ℕ) → IsInside t from hi → from ≤ hi →
        SearchEndsOver a m t hi from anchored earliest (stopped_at p) → (from ≤ p + 1) × (p ≤ hi) × IsUnread m t (λ y. (from ≤ y + 1) × (y < p)) p
    stops_by bytes m t hi from anchored earliest p inside le s = matched.stops m t hi from anchored earliest (stopped_at p) p inside le s refl
    stops_by symbols m t hi from anchored earliest p inside le s = absurd (matched.reads_all m t hi from anchored earliest (stopped_at p) p s refl)

    stops_down_by : (a : Alphabet) (m : Machine) (t : Text) (hi lo end : ℕ) (anchored : Anchored) (earliest : Bool) (p : ℕ) → IsInside t lo hi → lo ≤ end →
        end ≤ hi → SearchEndsDownOver a m t lo end anchored earliest (stopped_at p) → (lo ≤ p + 1) × (p ≤ end) × IsUnread m t (λ y. (p < y) × (y ≤ end)) p
    stops_down_by bytes m t hi lo end anchored earliest p inside below within s =
        matched.stops_down m t hi lo end anchored earliest (stopped_at p) p inside below within s refl
    stops_down_by symbols m t hi lo end anchored earliest p inside below within s =
        absurd (matched.reads_all_down m t lo end anchored earliest (stopped_at p) p s refl)
