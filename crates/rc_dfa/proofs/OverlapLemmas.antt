-- What runs for `MatchKind::All` tell of walks at each position.
use Rattle.std.proofs.Common.{◌≡◌, ℕ, ◌≤◌, ◌↔◌, true, false, List, Option, None, ⊎_elim, sym, subst, ap, refl, arith}
use Rattle.rc_text.specs.declared.types.MatchKind.TheVariants.{All as all_matches}
use Rattle.rc_text.specs.declared.types.Anchored.{Anchored}
use Rattle.rc_text.specs.declared.types.Anchored.TheVariants.{No, Yes, Pattern}
use Rattle.rc_walks.specs.Walks.{Pair, IsIn}
use Rattle.rc_program.specs.Text.{Text, before_at, after_at}
use Rattle.rc_program.specs.Program.{Place, ways}
use Rattle.rc_determinize.specs.Sets.{Comes, ComesOver, EndsOver, IsLeastMatch, IsNextOfAllOver}
use Rattle.rc_determinize.specs.declared.sides.Sides.{Sides}
use Rattle.rc_determinize.specs.Sides.{told_side, sides_near}
use Rattle.rc_determinize.specs.States.{Setting, IsSetting, State, IsInside}
use Rattle.rc_determinize.proofs.TextLemmas.{near, told_after, near_told}
use Rattle.rc_dfa.specs.Machine.{Alphabet, bytes, symbols, Machine, forwards, Leads, LeadsOver, IsMachine, is_dead}
use Rattle.rc_dfa.specs.Runs.{stopped_at, MayReadSide, BeginsBy, RunsOver, Runs, SearchEndsOver, SearchEndsDownOver}
use Rattle.rc_dfa.specs.Laws.{starts_of, ComesOn, OverlapLaw, SymbolRunLaw}
use Rattle.rc_dfa.proofs.StopLemmas as matched
use Rattle.rc_dfa.proofs.GatherLemmas as gather
use Rattle.rc_dfa.proofs.MetLemmas.{comes_within}
use Rattle.rc_dfa.proofs.RunLemmas.{turned}
use Rattle.rc_dfa.proofs.AlphabetLemmas.{begins_ahead}
use Rattle.rc_dfa.proofs.StartLemmas.{some_root, starts_at, starts_within}

comes_on : (a : Alphabet) (m : Machine) (t : Text) (i : ℕ) → MayReadSide a m (after_at t i) → (s : State) (q : ℕ) (P : Type 0) →
    let g = m.setting in
    ComesOver g.places s (sides_near g.needs g.terminator (after_at t i) (told_side g.needs g.terminator (after_at t i))) q ↔ P → ComesOn a m (after_at t i) s q ↔ P
comes_on bytes m t i read s q P h =
    let g = m.setting in
    let e = told_after g.needs g.terminator t i read in
    subst (λ x. ComesOver g.places s x q ↔ P) (sym (near_told g.needs g.terminator (after_at t i) _ e e)) h
comes_on symbols m t i read s q P h = h

module _ (a : Alphabet) (g : Setting) (entries : List ℕ) where
  abbrev machine : Machine
  machine = record { setting = g; entries = entries; direction = forwards all_matches; alphabet = a }

  module _ (ok : IsSetting g) (t : Text) (same : g.terminator ≡ t.terminator) (hi from : ℕ) (inside : IsInside t from hi) (anchored : Anchored)
      (first s : State) (i : ℕ) (met : Option Pair) (may : MayReadSide a machine (before_at t from)) (begins : BeginsBy a machine anchored (before_at t from) first)
      (runs : RunsOver a machine t hi from first i s met) where
    comes : i ≤ hi → MayReadSide a machine (after_at t i) → (q : ℕ) →
        ComesOn a machine (after_at t i) s q ↔ Comes (ways g.places t hi) (starts_of machine anchored from hi) (q, i)
    comes le read q =
        let b = some_root a all_matches g entries anchored _ from hi first (begins_ahead a machine anchored t from first may begins) in
        subst (λ o. ComesOn a machine (after_at t i) s q ↔ Comes (ways g.places t hi) o (q, i)) (sym b.starts)
        (comes_on a machine t i read s q _
        (gather.comes_here a g entries ok t same hi from b.root b.once inside first b.is_first b.rooted i q s met
        (told_side g.needs g.terminator (after_at t i)) le runs))

    dies : is_dead s ≡ true → (q y : ℕ) → i ≤ y → ¬ Comes (ways g.places t hi) (starts_of machine anchored from hi) (q, y)
    dies dead q y le =
        let b = some_root a all_matches g entries anchored _ from hi first (begins_ahead a machine anchored t from first may begins) in
        subst (λ o. ¬ Comes (ways g.places t hi) o (q, y)) (sym b.starts)
        (gather.none_comes a g entries ok t same hi from b.root b.once inside first b.is_first b.rooted i s met runs dead q y le)

-- no walk comes to a position outside the bounds
starts_inside : (m : Machine) (anchored : Anchored) (from hi : ℕ) → from ≤ hi → (n : Pair) → IsIn n (starts_of m anchored from hi) → (from ≤ n.1) × (n.1 ≤ hi)
starts_inside m No from hi le n h = ((starts_at false 0 from hi n.0 n.1 h).1, starts_within false 0 from hi le n h)
starts_inside m Yes from hi le n h = ((starts_at true 0 from hi n.0 n.1 h).1, starts_within true 0 from hi le n h)
starts_inside m (Pattern p) from hi le n h =
    ⊎_elim (λ e. let f = ap (λ (k : Pair). k.1) e in (omega (arith, f), omega (arith, f, le))) (λ never. absurd never) h

within : (m : Machine) (t : Text) (hi from : ℕ) (anchored : Anchored) (q y : ℕ) → IsMachine m → from ≤ hi →
    Comes (ways m.setting.places t hi) (starts_of m anchored from hi) (q, y) → (from ≤ y) × (y ≤ hi)
within m t hi from anchored q y k le c =
    let places = m.setting.places in (
      gather.comes_behind (ways places t hi)
          (λ n j h. ⊎_elim (λ e. omega (arith, e)) (λ e. omega (arith, e)) (near places t hi (let ok = k.setting in ok.by_bytes) n j h))
          (starts_of m anchored from hi) from (λ n h. (starts_inside m anchored from hi le n h).0) c,
      comes_within places t hi (starts_of m anchored from hi) (λ n h. (starts_inside m anchored from hi le n h).1) c,
    )

unmet : (places : List Place) (s next : State) (sides : Sides) → IsNextOfAllOver places 0 s sides next → next.matched ≡ None →
    (q : ℕ) → ¬ EndsOver places s sides q
unmet places s next sides h none q ends =
    let least = subst (λ o. IsLeastMatch places (ComesOver places s sides) o) none h.matched in least q ends.0 ends.1

pub overlap_law : OverlapLaw
overlap_law = record {
  comes = λ m t hi from anchored first s i met k d same inside may begins runs le read q.
      let v = turned m (forwards all_matches) d in
      subst (λ x. ComesOn m.alphabet (record m { direction = x }) (after_at t i) s q ↔ Comes (ways m.setting.places t hi) (starts_of m anchored from hi) (q, i)) (sym d)
      (comes m.alphabet m.setting m.entries k.setting t same hi from inside anchored first s i met (v (λ x. MayReadSide x.alphabet x (before_at t from)) may)
      (v (λ x. BeginsBy x.alphabet x anchored (before_at t from) first) begins) (v (λ x. Runs x t hi from first i s met) runs) le
      (v (λ x. MayReadSide x.alphabet x (after_at t i)) read) q);
  dies = λ m t hi from anchored first s i met k d same inside may begins runs dead q y le.
      let v = turned m (forwards all_matches) d in
      dies m.alphabet m.setting m.entries k.setting t same hi from inside anchored first s i met (v (λ x. MayReadSide x.alphabet x (before_at t from)) may)
      (v (λ x. BeginsBy x.alphabet x anchored (before_at t from) first) begins) (v (λ x. Runs x t hi from first i s met) runs) dead q y le;
  within = within;
  unmet_over = λ m s next sides d h none q.
      unmet m.setting.places s next sides (turned m (forwards all_matches) d (λ x. LeadsOver x s sides next) h) none q;
  unmet = λ m s next beside d h none q.
      unmet m.setting.places s next _ (turned m (forwards all_matches) d (λ x. Leads x s beside next) h) none q;
}

pub symbol_run_law : SymbolRunLaw
symbol_run_law = record {
  reads_all = λ m t hi from anchored earliest p is s.
      matched.reads_all m t hi from anchored earliest (stopped_at p) p (subst (λ a. SearchEndsOver a m t hi from anchored earliest (stopped_at p)) is s) refl;
  reads_all_down = λ m t lo end anchored earliest p is s.
      matched.reads_all_down m t lo end anchored earliest (stopped_at p) p (subst (λ a. SearchEndsDownOver a m t lo end anchored earliest (stopped_at p)) is s) refl;
}
