-- The walks of a program are exactly for what its patterns spell.
use Rattle.std.proofs.Common.{◌≡◌, ◌≢◌, ℕ, suc, ◌+◌, ◌*◌, ◌<◌, ◌≤◌, ◌⊎◌, List, [], ◌∷◌, ◌++◌, length, inl, inr, ⊎_elim, sym, subst, ap, ◌∙◌, refl, arith, IsTrue, None, append_assoc, length-append}
use Rattle.std.specs.Prelude.{All}
use Rattle.std.specs.List.{AllByRecursion}
use Rattle.std.proofs.lemmas.Bool.{cases_lt}
use Rattle.std.proofs.lemmas.List.Elements.{All-head, All-tail}
use Rattle.rc_pattern.specs.Re.{Re}
use Rattle.rc_pattern.specs.WellFormed.{HasBounds, group_count}
use Rattle.rc_walks.specs.Walks.{Pair, IsWalk, stops, goes, EndsAt}
use Rattle.rc_walks.proofs.CutLemmas.{cut, leads_along}
use Rattle.rc_program.specs.Text.{Text}
use Rattle.rc_program.specs.Spells.{Spells, SpelledBy}
use Rattle.rc_program.specs.Program.{Place, choice, accept, place_at, ways, is_match_place, Part, dead, either, part, pattern_part, choice_of_patterns, program}
use Rattle.rc_program.specs.Answer.{last_of}
use Rattle.rc_program.specs.Laws.{IsWalkOf, ProgramLaw}
use Rattle.rc_program.proofs.WayLemmas.{same_pair}
use Rattle.rc_program.proofs.PlaceLemmas.{LiesInPart, part_is_own, part_sized, pattern_sized, AnyNumber}
use Rattle.rc_program.proofs.PartLemmas.{Leads, stays, steps, at_place, to_place, Stand, Stand-left, Stand-right, Stand-first, Stand-second, part_implements}

-- the place is the match place of pattern p
abbrev pub IsAccept : List Place → ℕ → Pair → Type 0
IsAccept prog p n = place_at prog n.0 ≡ accept p

-- a part from which the edges lead to the match places of the patterns alone
pub record Accepts (t : Text) (hi : ℕ) (a : Part) (R : ℕ → ℕ → ℕ → Type 0) : Type 0 where
  pub sized : (slots start next : ℕ) → length (a.places slots start next) ≡ a.size
  -- pattern p spells i to j
  pub enters : (prog : List Place) (slots start next : ℕ) → Stand prog start (a.places slots start next) →
      (p i j : ℕ) → R p i j → j ≤ hi →
      (end : Pair) × ((len : ℕ) × Leads (ways prog t hi) len (start, i) end) × IsAccept prog p end × (end.1 ≡ j)
  pub leaves : (prog : List Place) (slots start next : ℕ) → Stand prog start (a.places slots start next) →
      (p len i : ℕ) (end : Pair) → Leads (ways prog t hi) len (start, i) end → IsAccept prog p end → R p i end.1

no_choice : (ns : List ℕ) (p : ℕ) → choice ns ≢ accept p
no_choice ns p e = cc

accept_is : (p q : ℕ) → accept p ≡ accept q → p ≡ q
accept_is p q e = cc

module _ (t : Text) (hi : ℕ) where
  dead_accepts : Accepts t hi dead (λ p i j. ⊥)
  dead_accepts = record {
    sized = λ slots start next. refl;
    enters = λ prog slots start next st p i j never le. absurd never;
    leaves = λ prog slots start next st p len i end l e. none prog slots start next st p l e;
  }
    where
      none : (prog : List Place) (slots start next : ℕ) → Stand prog start (dead.places slots start next) → (p : ℕ) → {len i : ℕ} {end : Pair} →
          Leads (ways prog t hi) len (start, i) end → IsAccept prog p end → ⊥
      none prog slots start next st p (stays n) e = no_choice [] p (sym st.0 ∙ e)
      none prog slots start next st p {i = i} (steps n m k h l) e = at_place t hi prog start _ st.0 i m h

  either_accepts : (a b : Part) (R S : ℕ → ℕ → ℕ → Type 0) → Accepts t hi a R → Accepts t hi b S →
      Accepts t hi (either a b) (λ p i j. R p i j ⊎ S p i j)
  either_accepts a b R S x y = record {
    sized = λ slots start next. let l = length-append (a.places slots (start + 1) next) (b.places slots (start + 1 + a.size) next) in
        let h = x.sized slots (start + 1) next in let k = y.sized slots (start + 1 + a.size) next in omega (arith, l, h, k);
    enters = λ prog slots start next st p i j r le.
        ⊎_elim
        (λ u. let w = x.enters prog slots (start + 1) next (Stand-first prog a b slots start next st) p i j u le in
        (w.0, (suc w.1.0, steps (start, i) (start + 1, i) w.0 (to_place t hi prog start _ st.0 i (start + 1, i) (inl refl)) w.1.1), w.2, w.3))
        (λ u. let w = y.enters prog slots (start + 1 + a.size) next (Stand-second prog a b slots start next (x.sized slots (start + 1) next) st) p i j u le in
        (w.0, (suc w.1.0, steps (start, i) (start + 1 + a.size, i) w.0 (to_place t hi prog start _ st.0 i (start + 1 + a.size, i) (inr (inl refl))) w.1.1), w.2, w.3))
        r;
    leaves = λ prog slots start next st p len i end l e. leave prog slots start next st p l e;
  }
    where
      leave : (prog : List Place) (slots start next : ℕ) → Stand prog start ((either a b).places slots start next) → (p : ℕ) → {len i : ℕ} {end : Pair} →
          Leads (ways prog t hi) len (start, i) end → IsAccept prog p end → R p i end.1 ⊎ S p i end.1
      leave prog slots start next st p (stays n) e = absurd (no_choice _ p (sym st.0 ∙ e))
      leave prog slots start next st p {i = i} (steps {len = len} n m k h l) e =
          ⊎_elim
          (λ q. inl (x.leaves prog slots (start + 1) next (Stand-first prog a b slots start next st) p len i k
          (subst (λ z. Leads (ways prog t hi) len z k) (sym q) l) e))
          (λ u. ⊎_elim
          (λ q. inr (y.leaves prog slots (start + 1 + a.size) next (Stand-second prog a b slots start next (x.sized slots (start + 1) next) st) p len i k
          (subst (λ z. Leads (ways prog t hi) len z k) (sym q) l) e))
          (λ never. absurd never) u)
          (at_place t hi prog start _ st.0 i m h)

-- where such places stand, match places stand outside
outside : (prog : List Place) (start lo hi : ℕ) (qs : List Place) → Stand prog start qs → AllByRecursion (LiesInPart AnyNumber (λ p. ⊥) lo hi) qs →
    (n p : ℕ) → place_at prog n ≡ accept p → (n < start) ⊎ (start + length qs ≤ n)
outside prog start lo hi [] st inner n p e = ⊎_elim (λ l. inl l) (λ g. inr (omega (arith, g))) (cases_lt n start)
outside prog start lo hi (q ∷ qs) st inner n p e =
    ⊎_elim
    (λ l. ⊎_elim (λ k. inl k)
    (λ g. let same : n ≡ start = omega arith in
    absurd (subst (LiesInPart AnyNumber (λ p. ⊥) lo hi) (sym st.0 ∙ ap (place_at prog) (sym same) ∙ e) inner.0))
    (cases_lt n start))
    (λ g. inr (omega (arith, g)))
    (outside prog (suc start) lo hi qs st.1 inner.1 n p e)

-- where the part of a pattern with its match place stands, the part does
pub pattern_stands : (prog : List Place) (n s : ℕ) (h : Re) (slots start next : ℕ) → Stand prog start ((pattern_part n s h).places slots start next) →
    Stand prog start ((part h).places s start (start + (part h).size))
pattern_stands prog n s h slots start next st = Stand-left prog start ((part h).places s start (start + (part h).size)) (accept n ∷ []) st

-- and the match place is behind it
pub pattern_ends : (prog : List Place) (n s : ℕ) (h : Re) (slots start next : ℕ) → Stand prog start ((pattern_part n s h).places slots start next) →
    place_at prog (start + (part h).size) ≡ accept n
pattern_ends prog n s h slots start next st =
    subst (λ z. place_at prog (start + z) ≡ accept n) (part_sized h s start (start + (part h).size))
    (Stand-right prog start ((part h).places s start (start + (part h).size)) (accept n ∷ []) st).0

-- a pattern's match place isn't among its part's places
pub beyond_part : (prog : List Place) (s : ℕ) (h : Re) (start n p : ℕ) → Stand prog start ((part h).places s start (start + (part h).size)) →
    place_at prog n ≡ accept p → (n < start) ⊎ (start + (part h).size ≤ n)
beyond_part prog s h start n p st e =
    let own = part_is_own s h in
    subst (λ z. (n < start) ⊎ (start + z ≤ n)) (part_sized h s start (start + (part h).size))
    (outside prog start start (start + (part h).size + 1) ((part h).places s start (start + (part h).size)) st
    (own.sound start (start + (part h).size) start (start + (part h).size + 1) (omega arith) (omega arith) (omega arith, omega arith)) n p e)

-- what a pattern's part accepts
pub pattern_accepts : (t : Text) (hi n s : ℕ) (h : Re) → HasBounds h → Accepts t hi (pattern_part n s h) (λ p i j. (p ≡ n) × Spells t h i j)
pattern_accepts t hi n s h ok = record {
  sized = pattern_sized n s h;
  enters = λ prog slots start next st p i j r le.
      let body = pattern_stands prog n s h slots start next st in
      let last : Pair = (start + (part h).size, j) in
      let x = part_implements t hi h ok in (
        last,
        x.enters prog s start (start + (part h).size) body i j r.1 le last 0 (stays last),
        pattern_ends prog n s h slots start next st ∙ ap accept (sym r.0),
        refl,
      );
  leaves = λ prog slots start next st p len i end l e.
      let body = pattern_stands prog n s h slots start next st in
      let x = part_implements t hi h ok in
      let u = x.leaves prog s start (start + (part h).size) body len i end l (beyond_part prog s h start end.0 p body e) in
      arrives prog (start + (part h).size) (pattern_ends prog n s h slots start next st) p i u.leads e u.spells;
}
  where
    arrives : (prog : List Place) (last : ℕ) → place_at prog last ≡ accept n → (p i : ℕ) → {len at : ℕ} {end : Pair} →
        Leads (ways prog t hi) len (last, at) end → IsAccept prog p end → Spells t h i at → (p ≡ n) × Spells t h i end.1
    arrives prog last f p i (stays m) e r = (accept_is p n (sym e ∙ f), r)
    arrives prog last f p i {at = at} (steps m k z inside l) e r = absurd (at_place t hi prog last (accept n) f at k inside)

pub choice_accepts : (t : Text) (hi n s : ℕ) (hs : List Re) → All HasBounds hs → Accepts t hi (choice_of_patterns n s hs) (SpelledBy t n hs)
choice_accepts t hi n s [] ok = dead_accepts t hi
choice_accepts t hi n s (h ∷ hs) ok =
    either_accepts t hi (pattern_part n s h) (choice_of_patterns (n + 1) (s + 2 * group_count h) hs) _ _
    (pattern_accepts t hi n s h (All-head HasBounds h hs ok))
    (choice_accepts t hi (n + 1) (s + 2 * group_count h) hs (All-tail HasBounds h hs ok))

stand_at : (before : List Place) (x : Place) (xs : List Place) → place_at (before ++ x ∷ xs) (length before) ≡ x
stand_at [] x xs = refl
stand_at (b ∷ bs) x xs = stand_at bs x xs

-- a program stands in itself
pub stand_all : (before xs : List Place) → Stand (before ++ xs) (length before) xs
stand_all before [] = tt
stand_all before (x ∷ xs) =
    let len : length (before ++ x ∷ []) ≡ suc (length before) = length-append before (x ∷ []) ∙ omega arith in (
      stand_at before x xs,
      subst (λ z. Stand z (suc (length before)) xs) (append_assoc before (x ∷ []) xs)
          (subst (λ n. Stand ((before ++ x ∷ []) ++ xs) n xs) len (stand_all (before ++ x ∷ []) xs)),
    )

ends_at_last : (n : Pair) (w : List Pair) → EndsAt (n ∷ w) (last_of (n ∷ w))
ends_at_last n [] = refl
ends_at_last n (m ∷ w) = ends_at_last m w

ends_at_its_last : (ways : Pair → List Pair) (Ends : Pair → Type 0) {p f w : List Pair} → IsWalk ways Ends p f w → EndsAt w (last_of w)
ends_at_its_last ways Ends (stops k here fresh stop) = refl
ends_at_its_last ways Ends (goes {w = w} k here fresh rest) = ends_at_last k w

last_is : (w : List Pair) (e : Pair) → EndsAt w e → last_of w ≡ e
last_is [] e h = absurd h
last_is (n ∷ []) e h = h
last_is (n ∷ m ∷ w) e h = last_is (m ∷ w) e h

pub program_law : ProgramLaw
program_law hs t hi p i j ok le =
    ((λ w. from_walk w.0 w.1), (λ r. to_walk r))
  where
    from_walk : (w : List Pair) → IsWalkOf hs t hi p i j w → SpelledBy t 0 hs p i j
    from_walk w h =
        let r = leads_along (ways (program hs) t hi) (λ n. IsTrue (is_match_place None (place_at (program hs) n.0))) (last_of w) h.is_walk
        (ends_at_its_last (ways (program hs) t hi) (λ n. IsTrue (is_match_place None (place_at (program hs) n.0))) h.is_walk) in
        let from : (0, i) ≡ r.0 = ⊎_elim (λ e. e) (λ never. absurd never) r.1 in
        subst (λ z. SpelledBy t 0 hs p i z) h.position
        ((choice_accepts t hi 0 (2 * length hs) hs ok).leaves (program hs) 0 0 0 (stand_all [] (program hs)) p r.2.0 i (last_of w)
        (subst (λ z. Leads (ways (program hs) t hi) r.2.0 z (last_of w)) (sym from) r.2.1) h.pattern)

    to_walk : SpelledBy t 0 hs p i j → (w : List Pair) × IsWalkOf hs t hi p i j w
    to_walk r =
        let e = (choice_accepts t hi 0 (2 * length hs) hs ok).enters (program hs) 0 0 0 (stand_all [] (program hs)) p i j r le in
        let c = cut (ways (program hs) t hi) (λ n. IsTrue (is_match_place None (place_at (program hs) n.0))) same_pair e.1.1
        (ap (is_match_place None) e.2) in
        let l = last_is c.0 e.0 c.2 in (
          c.0,
          record {
            is_walk = c.1;
            pattern = ap (λ (n : Pair). place_at (program hs) n.0) l ∙ e.2;
            position = ap (λ (n : Pair). n.1) l ∙ e.3;
          },
        )
