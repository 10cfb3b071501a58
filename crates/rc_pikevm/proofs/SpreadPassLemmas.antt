-- The pass for the greatest span over all positions.
use Rattle.std.proofs.Common.{◌≡◌, ℕ, zero, suc, ◌+◌, ◌-◌, ◌*◌, ◌<◌, ◌≤◌, List, [], ◌∷◌, ◌++◌, length, map, min, inl, inr, ⊎_elim, sym, subst, ap, refl, arith, Option, Some, None, option_map, IsTrue}
use Rattle.std.proofs.lemmas.Bool.{cases_lt}
use Rattle.std.proofs.lemmas.Option.{none-some, same_Some}
use Rattle.rc_text.specs.Found.{Found}
use Rattle.rc_walks.specs.Walks.{IsWalk}
use Rattle.rc_program.specs.Program.{accept, place_at}
use Rattle.rc_program.specs.Answer.{Search, IsStart, next_of, ends}
use Rattle.rc_pikevm.specs.Sights.{Sight, sight_of}
use Rattle.rc_program.specs.Greatest.{greatest, IsSpelledIn, IsNoGreater}
use Rattle.rc_program.proofs.AnswerLemmas.{last_start_of, start_within_last, start_to_last}
use Rattle.rc_program.proofs.GreatestLemmas.{greatest_some, greatest_none, spelled_within}
use Rattle.rc_pikevm.specs.Threads.{Thread, ThreadList}
use Rattle.rc_pikevm.specs.Passing.{AllIn, AllFrom, IsLined, IsCounted}
use Rattle.rc_pikevm.specs.Spread.{running, SomeSpells, IsTop, Seeks, Offers, span_of, setting_out, starting, IsOrdered, IsCovering}
use Rattle.rc_pikevm.specs.declared.pass.Ending.{Ending}
use Rattle.rc_pikevm.proofs.SpreadLemmas.{top_back, no_greater_self}
use Rattle.rc_pikevm.proofs.SpreadStepLemmas.{starting_over}

pub counted_more : (a b : ℕ) (best : Option Ending) → a ≤ b → IsCounted a best → IsCounted b best
counted_more a b None h x = tt
counted_more a b (Some e) h x = omega (arith, h, x)

pub from_none : (x : ℕ) (ts : List Thread) → length ts ≡ 0 → AllFrom x ts
from_none x [] e = tt
from_none x (t ∷ ts) e = absurd (omega (arith, e))

none_in : (n lo hi : ℕ) (ts : List Thread) → AllIn n lo hi ts → hi < lo → ts ≡ []
none_in n lo hi [] all h = refl
none_in n lo hi (t ∷ ts) all h = absurd (omega (arith, h, all.0))

no_threads : (ts : List Thread) → length ts ≡ 0 → ts ≡ []
no_threads [] e = refl
no_threads (t ∷ ts) e = absurd (omega (arith, e))

best_alone : (s : Sight) (at : ℕ) (best : Option Ending) → Seeks s at [] [] [] best (option_map span_of best)
best_alone s at None = λ m h. ⊎_elim (λ never. never) (λ q. ⊎_elim (λ never. never) (λ e. none-some m e) q) h
best_alone s at (Some b) = (
  inr (inr refl),
  λ m h. ⊎_elim (λ never. absurd never)
      (λ q. ⊎_elim (λ never. absurd never) (λ e. subst (λ x. IsNoGreater x (span_of b)) (same_Some _ _ e) (no_greater_self (span_of b))) q) h,
)

module _ {s : Sight} {n hi from last : ℕ} where
  pub covering_turns : {at insertions insertions2 : ℕ} {curr next : ThreadList} {best best2 : Option Ending} →
      IsCovering s n hi from last at insertions curr best → at ≤ hi →
      ((o : Option Found) → Seeks s (at + 1) [] [] (map running next.items ++ starting (at + 1) last) best2 o →
      Seeks s at [] [] (map running curr.items ++ starting at last) best o) →
      IsLined s n hi 0 (at + 1) insertions2 next → IsOrdered (at + 1) next.items → IsCounted insertions2 best2 → insertions2 ≤ insertions + n →
      IsCovering s n hi from last (at + 1) insertions2 next best2
  covering_turns {at = at} p within turn lined ordered ended few = record {
    seeks = λ o x. p.seeks o (turn o x);
    lined = lined;
    ordered = ordered;
    ended = ended;
    few =
        let e : at + 1 - from ≡ suc (at - from) = omega (arith, p.reached) in
        let m : n * suc (at - from) ≡ n * (at - from) + n = omega arith in
        rw e (omega (arith, m, few, p.few));
    reached = omega (arith, p.reached);
    within = omega (arith, within);
  }

  -- nothing is left to go on
  pub covering_done : {at insertions : ℕ} {curr : ThreadList} {best : Option Ending} → IsCovering s n hi from last at insertions curr best →
      length curr.items ≡ 0 → last < at → IsTop (SomeSpells s [] (starting from last)) (option_map span_of best)
  covering_done {at = at} {curr = curr} {best = best} p none over =
      top_back (SomeSpells s [] (starting from last)) (Offers s from [] [] (starting from last) None) (option_map span_of best)
      (record {
        fewer = λ m h. ⊎_elim (λ never. absurd never) (λ q. ⊎_elim (λ a. a) (λ e. absurd (none-some m e)) q) h;
        enough = λ m h. (m, inr (inl h), no_greater_self m);
      })
      (p.seeks (option_map span_of best)
      (subst (λ ts. Seeks s at [] [] (map running ts ++ starting at last) best (option_map span_of best)) (sym (no_threads curr.items none))
      (subst (λ rs. Seeks s at [] [] rs best (option_map span_of best)) (sym (starting_over at last over)) (best_alone s at best))))

  -- all positions are done
  pub covering_ends : {at insertions : ℕ} {curr : ThreadList} {best : Option Ending} → IsCovering s n hi from last at insertions curr best →
      hi < at → last ≤ hi → IsTop (SomeSpells s [] (starting from last)) (option_map span_of best)
  covering_ends {at = at} {curr = curr} p past high =
      covering_done p (ap length (none_in n at (min hi (at + 3)) curr.items p.lined.inside (omega (arith, past)))) (omega (arith, past, high))

module _ (s : Search) where
  -- what a start from x on spells, the search spells
  spelled_by : (x count : ℕ) (m : Found) → ((y : ℕ) → x ≤ y → y < x + count → IsStart s y) → SomeSpells (sight_of s) [] (setting_out x count) m → IsSpelledIn s m
  spelled_by x zero m all h = absurd h
  spelled_by x (suc count) m all h =
      ⊎_elim
      (λ a. record {
        is_start = subst (IsStart s) (sym a.start) (all x (omega arith) (omega arith));
        walk = a.walk;
        is_walk = subst (λ y. IsWalk (next_of s) (λ n. IsTrue (ends s n)) [] ((0, y) ∷ []) a.walk) (sym a.start) a.is_walk;
        pattern = a.pattern;
        position = a.position;
      })
      (λ b. spelled_by (x + 1) count m (λ y l u. all y (omega (arith, l)) (omega (arith, u))) b) h

  spells_from : (x count : ℕ) (m : Found) → IsSpelledIn s m → x ≤ m.start → m.start < x + count → SomeSpells (sight_of s) [] (setting_out x count) m
  spells_from x zero m h low high = absurd (omega (arith, low, high))
  spells_from x (suc count) m h low high =
      ⊎_elim
      (λ l. inr (spells_from (x + 1) count m h (omega (arith, l)) (omega (arith, high))))
      (λ ge. let e : m.start ≡ x = omega (arith, low, ge) in inl (record {
        start = e;
        walk = h.walk;
        is_walk = (subst (λ y. IsWalk (next_of s) (λ n. IsTrue (ends s n)) [] ((0, y) ∷ []) h.walk) e h.is_walk);
        pattern = h.pattern;
        position = h.position;
      }))
      (cases_lt x m.start)

  top_greatest : (o : Option Found) → IsTop (IsSpelledIn s) o → o ≡ greatest s
  top_greatest None none = sym ((greatest_none s).1 none)
  top_greatest (Some m) top = sym ((greatest_some s m).1 (record { is_spelled = top.0; is_most = top.1 }))

  -- the pass over all starts gives the greatest
  pub covered_greatest : (last : ℕ) (o : Option Found) → last ≡ last_start_of s → s.lo ≤ s.hi → IsTop (SomeSpells (sight_of s) [] (starting s.lo last)) o →
      o ≡ greatest s
  covered_greatest last o is low top =
      top_greatest o (top_back (IsSpelledIn s) (SomeSpells (sight_of s) [] (starting s.lo last)) o
      (record {
        fewer = λ m h. spelled_by s.lo (last + 1 - s.lo) m (λ y l u. start_within_last s y l (omega (arith, u, is, l))) h;
        enough = λ m h. let t = start_to_last s m.start h.is_start in
            (m, spells_from s.lo (last + 1 - s.lo) m h h.is_start.0 (omega (arith, t, is, h.is_start.0)), no_greater_self m);
      }) top)

  -- no position lies within the bounds
  pub outside_greatest : s.hi < s.lo → None ≡ greatest s
  outside_greatest out = sym ((greatest_none s).1 (λ m h. let w = spelled_within s m h in omega (arith, out, w.0, w.1, w.2)))

module _ (s : Search) where
  -- what a walk that gives the greatest shows
  pub record IsFine (e : Ending) : Type 0 where
    pub spelled : IsSpelledIn s (span_of e)
    pub within : (s.lo ≤ e.start) × (e.start ≤ e.end) × (e.end ≤ s.hi)
    pub numbered : ((n p : ℕ) → place_at s.places n ≡ accept p → p ≤ 2147483646) → e.pattern ≤ 2147483646

  pub greatest_fine : (e : Ending) → Some (span_of e) ≡ greatest s → IsFine e
  greatest_fine e h =
      let g = (greatest_some s (span_of e)).0 (sym h) in
      record {
        spelled = g.is_spelled;
        within = spelled_within s (span_of e) g.is_spelled;
        numbered = λ f. f _ e.pattern g.is_spelled.pattern;
      }
