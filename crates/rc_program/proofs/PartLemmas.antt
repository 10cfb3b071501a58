-- Each part of a program leads from its first place to the place after it exactly along what its pattern spells.
use Rattle.std.proofs.Common.{◌≡◌, ℕ, zero, suc, ◌+◌, ◌-◌, ◌*◌, ◌<◌, ◌≤◌, ◌⊎◌, List, [], ◌∷◌, ◌++◌, length, map, take, drop, inl, inr, ⊎_elim, sym, subst, ap, ap₂, ◌∙◌, refl, arith, Bool, true, false, IsTrue, Option, Some, None, if◌then◌else◌, slice_get, length-append, encode_utf8}
use Rattle.std.specs.Char.{IsScalar}
use Rattle.std.proofs.lemmas.Bool.{cases_lt}
use Rattle.std.proofs.lemmas.Bool.Decides.{nat_tests}
use Rattle.std.proofs.lemmas.List.{take_all}
use Rattle.std.proofs.lemmas.Option.{none-some}
use Rattle.rc_pattern.specs.declared.hir.Look.{Look}
use Rattle.rc_pattern.specs.Re.{Re, Range, empty, literal, byte_in, char_in, look, repeat, capture, cat, alt, none}
use Rattle.rc_pattern.specs.WellFormed.{HasBounds}
use Rattle.rc_walks.specs.Walks.{Pair, IsIn}
use Rattle.rc_program.specs.Scalars.{scalar_at}
use Rattle.rc_program.specs.Text.{Text, holds, ahead}
use Rattle.rc_program.specs.Spells.{Turns, Stands, Spells}
use Rattle.rc_program.specs.Program.{Place, choice, byte, scalar, guard, slot, Way, stays as Stays, reads, in_ranges, over_byte, over_scalar, ways_out, pair_at, place_at, ways, Part, one, pass, dead, then_part, either, optional, plus, body_or_out, copies, up_to, bytes_in_order, part}
use Rattle.rc_program.proofs.SideLemmas.{scalar_law, scalar_at-encode}
pub use Rattle.rc_walks.proofs.CutLemmas.{Leads, stays, steps}

-- the pairs to which the ways out of a place lead from position i
abbrev pub ways_of : Text → ℕ → Place → ℕ → List Pair
ways_of t hi q i = map (pair_at i) (ways_out (λ l. holds t l i) (ahead t hi i) q)

-- the places stand in the program from number `start` on
abbrev pub Stand : List Place → ℕ → List Place → Type 0
Stand prog start [] = Unit {0}
Stand prog start (q ∷ qs) = (place_at prog start ≡ q) × Stand prog (suc start) qs

pub Stand-left : (prog : List Place) (start : ℕ) (xs ys : List Place) → Stand prog start (xs ++ ys) → Stand prog start xs
Stand-left prog start [] ys h = tt
Stand-left prog start (x ∷ xs) ys h = (h.0, Stand-left prog (suc start) xs ys h.1)

pub Stand-right : (prog : List Place) (start : ℕ) (xs ys : List Place) → Stand prog start (xs ++ ys) → Stand prog (start + length xs) ys
Stand-right prog start [] ys h = let e : start ≡ start + 0 = omega arith in subst (λ s. Stand prog s ys) e h
Stand-right prog start (x ∷ xs) ys h =
    let e : suc start + length xs ≡ start + suc (length xs) = omega arith in
    subst (λ s. Stand prog s ys) e (Stand-right prog (suc start) xs ys h.1)

-- where a choice of two parts stands, the first one does
pub Stand-first : (prog : List Place) (a b : Part) (slots start next : ℕ) → Stand prog start ((either a b).places slots start next) →
    Stand prog (start + 1) (a.places slots (start + 1) next)
Stand-first prog a b slots start next st =
    let e : suc start ≡ start + 1 = omega arith in
    subst (λ s. Stand prog s (a.places slots (start + 1) next)) e
    (Stand-left prog (suc start) (a.places slots (start + 1) next) (b.places slots (start + 1 + a.size) next) st.1)

-- and so does the other
pub Stand-second : (prog : List Place) (a b : Part) (slots start next : ℕ) → length (a.places slots (start + 1) next) ≡ a.size →
    Stand prog start ((either a b).places slots start next) → Stand prog (start + 1 + a.size) (b.places slots (start + 1 + a.size) next)
Stand-second prog a b slots start next sized st =
    let e : suc start + length (a.places slots (start + 1) next) ≡ start + 1 + a.size = omega (arith, sized) in
    subst (λ s. Stand prog s (b.places slots (start + 1 + a.size) next)) e
    (Stand-right prog (suc start) (a.places slots (start + 1) next) (b.places slots (start + 1 + a.size) next) st.1)

drop-get : {X : Type 0} (xs : List X) (k : ℕ) (x : X) → slice_get xs k ≡ Some x → drop k xs ≡ x ∷ drop (suc k) xs
drop-get [] k x e = absurd (none-some x e)
drop-get (y ∷ ys) zero x e = cc
drop-get (y ∷ ys) (suc k) x e = drop-get ys k x e

drop-none : {X : Type 0} (xs : List X) (k : ℕ) → slice_get xs k ≡ None → drop k xs ≡ []
drop-none [] zero e = refl
drop-none [] (suc k) e = refl
drop-none (y ∷ ys) zero e = absurd (none-some y (sym e))
drop-none (y ∷ ys) (suc k) e = drop-none ys k e

nil_cons : (b : ℕ) (xs : List ℕ) → [] ≡ b ∷ xs → ⊥
nil_cons b xs e = cc

same_head : (a b : ℕ) (xs ys : List ℕ) → a ∷ xs ≡ b ∷ ys → a ≡ b
same_head a b xs ys e = cc

same_tail : (a b : ℕ) (xs ys : List ℕ) → a ∷ xs ≡ b ∷ ys → xs ≡ ys
same_tail a b xs ys e = cc

abbrev pub IsOutside : ℕ → ℕ → Pair → Type 0
IsOutside start size n = (n.0 < start) ⊎ (start + size ≤ n.0)

module _ (t : Text) (hi : ℕ) where
  -- What it is to leave a part: a position reached by R, and a shorter way on from the place after the part.
  pub record Leaves (prog : List Place) (next : ℕ) (R : ℕ → ℕ → Type 0) (len i : ℕ) (end : Pair) : Type 0 where
    pub at : ℕ
    pub spells : R i at
    pub left : ℕ
    pub less : left < len
    pub leads : Leads (ways prog t hi) left (next, at) end

  -- the part is for the pattern that spells R
  pub record Implements (a : Part) (R : ℕ → ℕ → Type 0) : Type 0 where
    pub sized : (slots start next : ℕ) → length (a.places slots start next) ≡ a.size
    pub rises : (i j : ℕ) → R i j → i ≤ j
    pub enters : (prog : List Place) (slots start next : ℕ) → Stand prog start (a.places slots start next) →
        (i j : ℕ) → R i j → j ≤ hi → (end : Pair) (len : ℕ) → Leads (ways prog t hi) len (next, j) end →
        (more : ℕ) × Leads (ways prog t hi) more (start, i) end
    pub leaves : (prog : List Place) (slots start next : ℕ) → Stand prog start (a.places slots start next) →
        (len i : ℕ) (end : Pair) → Leads (ways prog t hi) len (start, i) end → IsOutside start a.size end →
        Leaves prog next R len i end

  -- at a place with known ways
  pub at_place : (prog : List Place) (start : ℕ) (q : Place) → place_at prog start ≡ q → (i : ℕ) (m : Pair) →
      IsIn m (ways prog t hi (start, i)) → IsIn m (ways_of t hi q i)
  at_place prog start q e i m h = subst (λ x. IsIn m (ways_of t hi x i)) e h

  pub to_place : (prog : List Place) (start : ℕ) (q : Place) → place_at prog start ≡ q → (i : ℕ) (m : Pair) →
      IsIn m (ways_of t hi q i) → IsIn m (ways prog t hi (start, i))
  to_place prog start q e i m h = subst (λ x. IsIn m (ways_of t hi x i)) (sym e) h

  -- a part of one place that leads on by R
  one_place : (place : ℕ → ℕ → Place) (R : ℕ → ℕ → Type 0) → ((i j : ℕ) → R i j → i ≤ j) →
      ((slots next i j : ℕ) → R i j → j ≤ hi → IsIn (next, j) (ways_of t hi (place slots next) i)) →
      ((slots next i : ℕ) (m : Pair) → IsIn m (ways_of t hi (place slots next) i) → (j : ℕ) × ((next, j) ≡ m) × R i j) →
      Implements (one place) R
  one_place place R rises go back = record {
    sized = λ slots start next. refl;
    rises = rises;
    enters = λ prog slots start next st i j r le end len l.
        (suc len, steps (start, i) (next, j) end (to_place prog start _ st.0 i (next, j) (go slots next i j r le)) l);
    leaves = λ prog slots start next st len i end l out. leave prog slots start next st l out;
  }
    where
      leave : (prog : List Place) (slots start next : ℕ) → Stand prog start (place slots next ∷ []) → {len i : ℕ} {end : Pair} →
          Leads (ways prog t hi) len (start, i) end → IsOutside start 1 end → Leaves prog next R len i end
      leave prog slots start next st (stays n) out = absurd (⊎_elim (λ l. omega arith) (λ l. omega arith) out)
      leave prog slots start next st {i = i} (steps {len = len} n m k h l) out =
          let b = back slots next i m (at_place prog start _ st.0 i m h) in
          record { at = b.0; spells = b.2; left = len; less = omega arith; leads = subst (λ x. Leads (ways prog t hi) len x k) (sym b.1) l }

  pub then_implements : (a b : Part) (R S : ℕ → ℕ → Type 0) → Implements a R → Implements b S →
      Implements (then_part a b) (λ i j. (k : ℕ) × R i k × S k j)
  then_implements a b R S x y = record {
    sized = λ slots start next. length-append (a.places slots start (start + a.size)) (b.places slots (start + a.size) next)
        ∙ ap₂ (λ m n. m + n) (x.sized slots start (start + a.size)) (y.sized slots (start + a.size) next);
    rises = λ i j r. let p = x.rises i r.0 r.1 in let q = y.rises r.0 j r.2 in omega (arith, p, q);
    enters = λ prog slots start next st i j r le end len l.
        let q = y.rises r.0 j r.2 in
        let second = y.enters prog slots (start + a.size) next (behind prog slots start next st) r.0 j r.2 le end len l in
        x.enters prog slots start (start + a.size) (before prog slots start next st) i r.0 r.1 (omega (arith, q)) end second.0 second.1;
    leaves = λ prog slots start next st len i end l out.
        let u = x.leaves prog slots start (start + a.size) (before prog slots start next st) len i end l (⊎_elim (λ p. inl p) (λ p. inr (omega (arith, p))) out) in
        let v = y.leaves prog slots (start + a.size) next (behind prog slots start next st) u.left u.at end u.leads
        (⊎_elim (λ p. inl (omega (arith, p))) (λ p. inr (omega (arith, p))) out) in
        record { at = v.at; spells = (u.at, u.spells, v.spells); left = v.left; less = omega (arith, u.less, v.less); leads = v.leads };
  }
    where
      before : (prog : List Place) (slots start next : ℕ) → Stand prog start ((then_part a b).places slots start next) →
          Stand prog start (a.places slots start (start + a.size))
      before prog slots start next st = Stand-left prog start _ (b.places slots (start + a.size) next) st

      behind : (prog : List Place) (slots start next : ℕ) → Stand prog start ((then_part a b).places slots start next) →
          Stand prog (start + a.size) (b.places slots (start + a.size) next)
      behind prog slots start next st =
          subst (λ n. Stand prog (start + n) (b.places slots (start + a.size) next)) (x.sized slots start (start + a.size))
          (Stand-right prog start (a.places slots start (start + a.size)) (b.places slots (start + a.size) next) st)

  pub same_spelling : (a : Part) (R S : ℕ → ℕ → Type 0) → ((i j : ℕ) → R i j → S i j) → ((i j : ℕ) → S i j → R i j) →
      Implements a R → Implements a S
  same_spelling a R S to from x = record {
    sized = x.sized;
    rises = λ i j s. x.rises i j (from i j s);
    enters = λ prog slots start next st i j s. x.enters prog slots start next st i j (from i j s);
    leaves = λ prog slots start next st len i end l out.
        let u = x.leaves prog slots start next st len i end l out in
        record { at = u.at; spells = to i u.at u.spells; left = u.left; less = u.less; leads = u.leads };
  }

  pub either_implements : (a b : Part) (R S : ℕ → ℕ → Type 0) → Implements a R → Implements b S →
      Implements (either a b) (λ i j. R i j ⊎ S i j)
  either_implements a b R S x y = record {
    sized = λ slots start next. ap suc (length-append (a.places slots (start + 1) next) (b.places slots (start + 1 + a.size) next)
        ∙ ap₂ (λ m n. m + n) (x.sized slots (start + 1) next) (y.sized slots (start + 1 + a.size) next))
        ∙ (omega arith);
    rises = λ i j r. ⊎_elim (λ p. x.rises i j p) (λ p. y.rises i j p) r;
    enters = λ prog slots start next st i j r le end len l.
        ⊎_elim
        (λ p. let w = x.enters prog slots (start + 1) next (Stand-first prog a b slots start next st) i j p le end len l in
        (suc w.0, steps (start, i) (start + 1, i) end (to_place prog start _ st.0 i (start + 1, i) (inl refl)) w.1))
        (λ p. let w = y.enters prog slots (start + 1 + a.size) next (Stand-second prog a b slots start next (x.sized slots (start + 1) next) st) i j p le end len l in
        (suc w.0, steps (start, i) (start + 1 + a.size, i) end (to_place prog start _ st.0 i (start + 1 + a.size, i) (inr (inl refl))) w.1))
        r;
    leaves = λ prog slots start next st len i end l out. leave prog slots start next st l out;
  }
    where
      leave : (prog : List Place) (slots start next : ℕ) → Stand prog start ((either a b).places slots start next) → {len i : ℕ} {end : Pair} →
          Leads (ways prog t hi) len (start, i) end → IsOutside start (1 + (a.size + b.size)) end →
          Leaves prog next (λ i j. R i j ⊎ S i j) len i end
      leave prog slots start next st (stays n) out = absurd (⊎_elim (λ l. omega arith) (λ l. omega arith) out)
      leave prog slots start next st {i = i} (steps {len = len} n m k h l) out =
          ⊎_elim
          (λ e. let u = x.leaves prog slots (start + 1) next (Stand-first prog a b slots start next st) len i k
          (subst (λ z. Leads (ways prog t hi) len z k) (sym e) l)
          (⊎_elim (λ p. inl (omega (arith, p))) (λ p. inr (omega (arith, p))) out) in
          record { at = u.at; spells = inl u.spells; left = u.left; less = omega (arith, u.less); leads = u.leads })
          (λ q. ⊎_elim
          (λ e. let u = y.leaves prog slots (start + 1 + a.size) next (Stand-second prog a b slots start next (x.sized slots (start + 1) next) st) len i k
          (subst (λ z. Leads (ways prog t hi) len z k) (sym e) l)
          (⊎_elim (λ p. inl (omega (arith, p))) (λ p. inr (omega (arith, p))) out) in
          record { at = u.at; spells = inr u.spells; left = u.left; less = omega (arith, u.less); leads = u.leads })
          (λ never. absurd never) q)
          (at_place prog start _ st.0 i m h)

  body_in : (greedy : Bool) (body out i : ℕ) → IsIn (body, i) (ways_of t hi (body_or_out greedy body out) i)
  body_in true body out i = inl refl
  body_in false body out i = inr (inl refl)

  out_in : (greedy : Bool) (body out i : ℕ) → IsIn (out, i) (ways_of t hi (body_or_out greedy body out) i)
  out_in true body out i = inr (inl refl)
  out_in false body out i = inl refl

  body_or_out_cases : (greedy : Bool) (body out i : ℕ) (m : Pair) → IsIn m (ways_of t hi (body_or_out greedy body out) i) →
      ((body, i) ≡ m) ⊎ ((out, i) ≡ m)
  body_or_out_cases true body out i m h = ⊎_elim (λ e. inl e) (λ q. ⊎_elim (λ e. inr e) (λ never. absurd never) q) h
  body_or_out_cases false body out i m h = ⊎_elim (λ e. inr e) (λ q. ⊎_elim (λ e. inl e) (λ never. absurd never) q) h

  pub optional_implements : (greedy : Bool) (a : Part) (R : ℕ → ℕ → Type 0) → Implements a R →
      Implements (optional greedy a) (λ i j. (i ≡ j) ⊎ R i j)
  optional_implements greedy a R x = record {
    sized = λ slots start next. ap suc (x.sized slots (start + 1) next) ∙ (omega arith);
    rises = λ i j r. ⊎_elim (λ e. omega (arith, e)) (λ p. x.rises i j p) r;
    enters = λ prog slots start next st i j r le end len l.
        ⊎_elim
        (λ e. (
          suc len,
          steps (start, i) (next, i) end (to_place prog start _ st.0 i (next, i) (out_in greedy (start + 1) next i))
              (subst (λ z. Leads (ways prog t hi) len (next, z) end) (sym e) l),
        ))
        (λ p. let w = x.enters prog slots (start + 1) next (inner prog slots start next st) i j p le end len l in
        (suc w.0, steps (start, i) (start + 1, i) end (to_place prog start _ st.0 i (start + 1, i) (body_in greedy (start + 1) next i)) w.1))
        r;
    leaves = λ prog slots start next st len i end l out. leave prog slots start next st l out;
  }
    where
      inner : (prog : List Place) (slots start next : ℕ) → Stand prog start ((optional greedy a).places slots start next) →
          Stand prog (start + 1) (a.places slots (start + 1) next)
      inner prog slots start next st =
          let e : suc start ≡ start + 1 = omega arith in subst (λ s. Stand prog s (a.places slots (start + 1) next)) e st.1

      leave : (prog : List Place) (slots start next : ℕ) → Stand prog start ((optional greedy a).places slots start next) → {len i : ℕ} {end : Pair} →
          Leads (ways prog t hi) len (start, i) end → IsOutside start (1 + a.size) end →
          Leaves prog next (λ i j. (i ≡ j) ⊎ R i j) len i end
      leave prog slots start next st (stays n) out = absurd (⊎_elim (λ l. omega arith) (λ l. omega arith) out)
      leave prog slots start next st {i = i} (steps {len = len} n m k h l) out =
          ⊎_elim
          (λ e. let u = x.leaves prog slots (start + 1) next (inner prog slots start next st) len i k
          (subst (λ z. Leads (ways prog t hi) len z k) (sym e) l)
          (⊎_elim (λ p. inl (omega (arith, p))) (λ p. inr (omega (arith, p))) out) in
          record { at = u.at; spells = inr u.spells; left = u.left; less = omega (arith, u.less); leads = u.leads })
          (λ e. record { at = i; spells = inl refl; left = len; less = omega arith; leads = subst (λ z. Leads (ways prog t hi) len z k) (sym e) l })
          (body_or_out_cases greedy (start + 1) next i m (at_place prog start _ st.0 i m h))

  Turns-rises : (R : ℕ → ℕ → Type 0) → ((i j : ℕ) → R i j → i ≤ j) → (n i j : ℕ) → Turns R n i j → i ≤ j
  Turns-rises R rises zero i j e = omega (arith, e)
  Turns-rises R rises (suc n) i j h =
      let p = rises i h.0 h.1 in let q = Turns-rises R rises n h.0 j h.2 in omega (arith, p, q)

  pub plus_implements : (greedy : Bool) (a : Part) (R : ℕ → ℕ → Type 0) → Implements a R →
      Implements (plus greedy a) (λ i j. (n : ℕ) × Turns R (suc n) i j)
  plus_implements greedy a R x = record {
    sized = λ slots start next. length-append (a.places slots start (start + a.size)) (body_or_out greedy start next ∷ [])
        ∙ ap (λ n. n + 1) (x.sized slots start (start + a.size));
    rises = λ i j r. Turns-rises R x.rises (suc r.0) i j r.1;
    enters = λ prog slots start next st i j r le end len l. goes_in prog slots start next st j le end len l r.0 i r.1;
    leaves = λ prog slots start next st len i end l out. goes_out prog slots start next st end out len len i (omega arith) l;
  }
    where
      body : (prog : List Place) (slots start next : ℕ) → Stand prog start ((plus greedy a).places slots start next) →
          Stand prog start (a.places slots start (start + a.size))
      body prog slots start next st = Stand-left prog start _ (body_or_out greedy start next ∷ []) st

      loop : (prog : List Place) (slots start next : ℕ) → Stand prog start ((plus greedy a).places slots start next) →
          place_at prog (start + a.size) ≡ body_or_out greedy start next
      loop prog slots start next st =
          (subst (λ n. Stand prog (start + n) (body_or_out greedy start next ∷ [])) (x.sized slots start (start + a.size))
          (Stand-right prog start (a.places slots start (start + a.size)) (body_or_out greedy start next ∷ []) st)).0

      goes_in : (prog : List Place) (slots start next : ℕ) → Stand prog start ((plus greedy a).places slots start next) →
          (j : ℕ) → j ≤ hi → (end : Pair) (len : ℕ) → Leads (ways prog t hi) len (next, j) end →
          (n i : ℕ) → Turns R (suc n) i j → (more : ℕ) × Leads (ways prog t hi) more (start, i) end
      goes_in prog slots start next st j le end len l zero i h =
          x.enters prog slots start (start + a.size) (body prog slots start next st) i h.0 h.1 (omega (arith, h.2)) end (suc len)
          (steps (start + a.size, h.0) (next, h.0) end
          (to_place prog (start + a.size) _ (loop prog slots start next st) h.0 (next, h.0) (out_in greedy start next h.0))
          (subst (λ z. Leads (ways prog t hi) len (next, z) end) (sym h.2) l))
      goes_in prog slots start next st j le end len l (suc n) i h =
          let w = goes_in prog slots start next st j le end len l n h.0 h.2 in
          let up = Turns-rises R x.rises (suc n) h.0 j h.2 in
          x.enters prog slots start (start + a.size) (body prog slots start next st) i h.0 h.1 (omega (arith, up)) end (suc w.0)
          (steps (start + a.size, h.0) (start, h.0) end
          (to_place prog (start + a.size) _ (loop prog slots start next st) h.0 (start, h.0) (body_in greedy start next h.0)) w.1)

      at_loop : (prog : List Place) (slots start next : ℕ) → Stand prog start ((plus greedy a).places slots start next) →
          (fuel : ℕ) (end : Pair) → IsOutside start (a.size + 1) end →
          ((len i : ℕ) → len ≤ fuel → Leads (ways prog t hi) len (start, i) end →
          Leaves prog next (λ i j. (n : ℕ) × Turns R (suc n) i j) len i end) →
          {left c p : ℕ} → c ≡ start + a.size → left ≤ suc fuel → Leads (ways prog t hi) left (c, p) end →
          Leaves prog next (λ i j. (n : ℕ) × Turns R n i j) left p end
      at_loop prog slots start next st fuel end out ih e le (stays n) =
          absurd (⊎_elim (λ l. omega (arith, e)) (λ l. omega (arith, e)) out)
      at_loop prog slots start next st fuel end out ih {p = p} e le (steps {len = len} n m k h l) =
          ⊎_elim
          (λ q. let r = ih len p (omega arith) (subst (λ z. Leads (ways prog t hi) len z k) (sym q) l) in
          record { at = r.at; spells = (suc r.spells.0, r.spells.1); left = r.left; less = omega (arith, r.less); leads = r.leads })
          (λ q. record { at = p; spells = (0, refl); left = len; less = omega arith; leads = subst (λ z. Leads (ways prog t hi) len z k) (sym q) l })
          (body_or_out_cases greedy start next p m
          (at_place prog _ _ (ap (place_at prog) e ∙ loop prog slots start next st) p m h))

      goes_out : (prog : List Place) (slots start next : ℕ) → Stand prog start ((plus greedy a).places slots start next) →
          (end : Pair) → IsOutside start (a.size + 1) end → (fuel len i : ℕ) → len ≤ fuel → Leads (ways prog t hi) len (start, i) end →
          Leaves prog next (λ i j. (n : ℕ) × Turns R (suc n) i j) len i end
      goes_out prog slots start next st end out zero len i le l =
          let u = x.leaves prog slots start (start + a.size) (body prog slots start next st) len i end l
          (⊎_elim (λ p. inl p) (λ p. inr (omega (arith, p))) out) in
          absurd (omega (arith, u.less))
      goes_out prog slots start next st end out (suc fuel) len i le l =
          let u = x.leaves prog slots start (start + a.size) (body prog slots start next st) len i end l
          (⊎_elim (λ p. inl p) (λ p. inr (omega (arith, p))) out) in
          let r = at_loop prog slots start next st fuel end out (goes_out prog slots start next st end out fuel) refl (omega (arith, u.less)) u.leads in
          record { at = r.at; spells = (r.spells.0, (u.at, u.spells, r.spells.1)); left = r.left; less = omega (arith, u.less, r.less); leads = r.leads }

  pub copies_implements : (n : ℕ) (a b : Part) (R S : ℕ → ℕ → Type 0) → Implements a R → Implements b S →
      Implements (copies n a b) (λ i j. (k : ℕ) × Turns R n i k × S k j)
  copies_implements zero a b R S x y =
      same_spelling b S _ (λ i j s. (i, refl, s)) (λ i j s. subst (λ z. S z j) (sym s.1) s.2) y
  copies_implements (suc n) a b R S x y =
      same_spelling (copies (suc n) a b) _ _
      (λ i j s. (s.2.0, (s.0, s.1, s.2.1), s.2.2)) (λ i j s. (s.1.0, s.1.1, (s.0, s.1.2, s.2)))
      (then_implements a (copies n a b) R _ x (copies_implements n a b R S x y))

  pub pass_implements : Implements pass (λ i j. i ≡ j)
  pass_implements =
      one_place (λ slots next. choice (next ∷ [])) (λ i j. i ≡ j) (λ i j e. omega (arith, e))
      (λ slots next i j e le. inl (ap (λ (z : ℕ). (next, z)) e))
      (λ slots next i m h. ⊎_elim (λ e. (i, e, refl)) (λ never. absurd never) h)

  pub up_to_implements : (greedy : Bool) (n : ℕ) (a : Part) (R : ℕ → ℕ → Type 0) → Implements a R →
      Implements (up_to greedy n a) (λ i j. (k : ℕ) × (k ≤ n) × Turns R k i j)
  up_to_implements greedy zero a R x =
      same_spelling pass _ _ (λ i j e. (0, omega arith, e)) (λ i j s. none s.0 i j s.1 s.2) pass_implements
    where
      none : (k i j : ℕ) → k ≤ 0 → Turns R k i j → i ≡ j
      none zero i j le h = h
      none (suc k) i j le h = absurd (omega arith)
  up_to_implements greedy (suc n) a R x =
      same_spelling (up_to greedy (suc n) a) _ _
      (λ i j s. ⊎_elim (λ e. (0, omega arith, e)) (λ p. (suc p.2.0, omega (arith, p.2.1), (p.0, p.1, p.2.2))) s)
      (λ i j s. back s.0 i j s.1 s.2)
      (optional_implements greedy (then_part a (up_to greedy n a)) _ (then_implements a (up_to greedy n a) R _ x (up_to_implements greedy n a R x)))
    where
      back : (k i j : ℕ) → k ≤ suc n → Turns R k i j → (i ≡ j) ⊎ ((k : ℕ) × R i k × ((l : ℕ) × (l ≤ n) × Turns R l k j))
      back zero i j le h = inl h
      back (suc k) i j le h = inr (h.0, h.1, (k, omega arith, h.2))

  turns_join : (R : ℕ → ℕ → Type 0) (m n i k j : ℕ) → Turns R m i k → Turns R n k j → Turns R (m + n) i j
  turns_join R zero n i k j g h = let e : n ≡ 0 + n = omega arith in subst (λ c. Turns R c i j) e (subst (λ z. Turns R n z j) (sym g) h)
  turns_join R (suc m) n i k j g h =
      let e : suc (m + n) ≡ suc m + n = omega arith in
      subst (λ c. Turns R c i j) e (g.0, g.1, turns_join R m n g.0 k j g.2 h)

  turns_split : (R : ℕ → ℕ → Type 0) (m n i j : ℕ) → Turns R (m + n) i j → (k : ℕ) × Turns R m i k × Turns R n k j
  turns_split R zero n i j h = let e : 0 + n ≡ n = omega arith in (i, refl, subst (λ c. Turns R c i j) e h)
  turns_split R (suc m) n i j h =
      let e : suc m + n ≡ suc (m + n) = omega arith in
      let g : Turns R (suc (m + n)) i j = subst (λ c. Turns R c i j) e h in
      let r = turns_split R m n g.0 j g.2 in
      (r.0, (g.0, g.1, r.1), r.2)

  between_implements : (min max : ℕ) (greedy : Bool) (a : Part) (R : ℕ → ℕ → Type 0) → min ≤ max → Implements a R →
      Implements (copies min a (up_to greedy (max - min) a)) (λ i j. (n : ℕ) × (min ≤ n) × (n ≤ max) × Turns R n i j)
  between_implements min max greedy a R le x =
      same_spelling _ _ _
      (λ i j s. (min + s.2.0, omega arith, omega (arith, s.2.1), turns_join R min s.2.0 i s.0 j s.1 s.2.2))
      (λ i j s.
      let e : s.0 ≡ min + (s.0 - min) = omega (arith, s.1) in
      let r = turns_split R min (s.0 - min) i j (subst (λ c. Turns R c i j) e s.3) in
      (r.0, r.1, (s.0 - min, omega (arith, s.1, s.2), r.2)))
      (copies_implements min a (up_to greedy (max - min) a) R _ x (up_to_implements greedy (max - min) a R x))

  star_implements : (greedy : Bool) (a : Part) (R : ℕ → ℕ → Type 0) → Implements a R →
      Implements (optional greedy (plus greedy a)) (λ i j. (n : ℕ) × (0 ≤ n) × Unit {0} × Turns R n i j)
  star_implements greedy a R x =
      same_spelling _ _ _
      (λ i j s. ⊎_elim (λ e. (0, omega arith, tt, e)) (λ p. (suc p.0, omega arith, tt, p.1)) s)
      (λ i j s. back s.0 i j s.3)
      (optional_implements greedy (plus greedy a) _ (plus_implements greedy a R x))
    where
      back : (n i j : ℕ) → Turns R n i j → (i ≡ j) ⊎ ((n : ℕ) × Turns R (suc n) i j)
      back zero i j h = inl h
      back (suc n) i j h = inr (n, h)

  least_implements : (n : ℕ) (greedy : Bool) (a : Part) (R : ℕ → ℕ → Type 0) → Implements a R →
      Implements (copies n a (plus greedy a)) (λ i j. (m : ℕ) × (suc n ≤ m) × Unit {0} × Turns R m i j)
  least_implements n greedy a R x =
      same_spelling _ _ _
      (λ i j s. (n + suc s.2.0, omega arith, tt, turns_join R n (suc s.2.0) i s.0 j s.1 s.2.1))
      (λ i j s.
      let e : s.0 ≡ n + suc (s.0 - suc n) = omega (arith, s.1) in
      let r = turns_split R n (suc (s.0 - suc n)) i j (subst (λ c. Turns R c i j) e s.3) in
      (r.0, r.1, (s.0 - suc n, r.2)))
      (copies_implements n a (plus greedy a) R _ x (plus_implements greedy a R x))

  in_if : (b : Bool) (w : Way) (i : ℕ) (m : Pair) → IsIn m (map (pair_at i) (if b then w ∷ [] else [])) → (b ≡ true) × (pair_at i w ≡ m)
  in_if true w i m h = ⊎_elim (λ e. (refl, e)) (λ never. absurd never) h
  in_if false w i m h = absurd h

  if_in : (b : Bool) (w : Way) (i : ℕ) (m : Pair) → b ≡ true → pair_at i w ≡ m → IsIn m (map (pair_at i) (if b then w ∷ [] else []))
  if_in b w i m t e = rw t (inl e)

  -- the byte ahead, and those behind it
  ahead_step : (i b : ℕ) → slice_get t.content i ≡ Some b → i < hi → ahead t hi i ≡ b ∷ ahead t hi (i + 1)
  ahead_step i b e l =
      let n : hi - i ≡ suc (hi - (i + 1)) = omega (arith, l) in
      let next : suc i ≡ i + 1 = omega arith in
      ap₂ take n (drop-get t.content i b e) ∙ ap (λ k. b ∷ take (hi - (i + 1)) (drop k t.content)) next

  ahead_none : (i : ℕ) → slice_get t.content i ≡ None → ahead t hi i ≡ []
  ahead_none i e = ap (take (hi - i)) (drop-none t.content i e) ∙ take_all (hi - i) [] (omega arith)

  ahead_past : (i : ℕ) → hi ≤ i → ahead t hi i ≡ []
  ahead_past i l = let n : hi - i ≡ 0 = omega (arith, l) in ap (λ k. take k (drop i t.content)) n

  -- what stands ahead stands in the content
  ahead_first : (i b : ℕ) (xs : List ℕ) → ahead t hi i ≡ b ∷ xs → (slice_get t.content i ≡ Some b) × (ahead t hi (i + 1) ≡ xs)
  ahead_first i b xs e =
      ⊎_elim
      (λ l. byte_there (slice_get t.content i) refl l)
      (λ ge. absurd (nil_cons b xs (sym (ahead_past i ge) ∙ e)))
      (cases_lt i hi)
    where
      byte_there : (o : Option ℕ) → slice_get t.content i ≡ o → i < hi → (slice_get t.content i ≡ Some b) × (ahead t hi (i + 1) ≡ xs)
      byte_there None f l = absurd (nil_cons b xs (sym (ahead_none i f) ∙ e))
      byte_there (Some d) f l =
          let q : d ∷ ahead t hi (i + 1) ≡ b ∷ xs = sym (ahead_step i d f l) ∙ e in
          (f ∙ ap Some (same_head d b (ahead t hi (i + 1)) xs q), same_tail d b (ahead t hi (i + 1)) xs q)

  stands_end : (bs : List ℕ) (i j : ℕ) → Stands t.content bs i j → j ≡ i + length bs
  stands_end [] i j h = omega (arith, h)
  stands_end (b ∷ bs) i j h = let k = stands_end bs (i + 1) j h.1 in omega (arith, k)

  stands_ahead : (bs : List ℕ) (i j : ℕ) → Stands t.content bs i j → j ≤ hi → (rest : List ℕ) × (ahead t hi i ≡ bs ++ rest)
  stands_ahead [] i j h le = (ahead t hi i, refl)
  stands_ahead (b ∷ bs) i j h le =
      let k = stands_end bs (i + 1) j h.1 in
      let r = stands_ahead bs (i + 1) j h.1 le in
      (r.0, ahead_step i b h.0 (omega (arith, k, le)) ∙ ap (λ xs. b ∷ xs) r.1)

  ahead_stands : (bs rest : List ℕ) (i : ℕ) → ahead t hi i ≡ bs ++ rest → Stands t.content bs i (i + length bs)
  ahead_stands [] rest i e = omega arith
  ahead_stands (b ∷ bs) rest i e =
      let f = ahead_first i b (bs ++ rest) e in
      let n : i + 1 + length bs ≡ i + suc (length bs) = omega arith in
      (f.0, subst (λ j. Stands t.content bs (i + 1) j) n (ahead_stands bs rest (i + 1) f.1))

  abbrev Reads : List Range → ℕ → ℕ → Type 0
  Reads rs i j = (b : ℕ) × (slice_get t.content i ≡ Some b) × IsTrue (in_ranges rs b) × (j ≡ i + 1)

  class_implements : (rs : List Range) → Implements (one (λ slots. byte rs)) (Reads rs)
  class_implements rs =
      one_place (λ slots. byte rs) (Reads rs) (λ i j r. omega (arith, r.3))
      (λ slots next i j r le.
      let there = ahead_step i r.0 r.1 (omega (arith, r.3, le)) in
      subst (λ xs. IsIn (next, j) (map (pair_at i) (over_byte (λ b. if in_ranges rs b then reads 1 next ∷ [] else []) xs))) (sym there)
      (if_in (in_ranges rs r.0) (reads 1 next) i (next, j) r.2 (ap (λ (z : ℕ). (next, z)) (sym r.3))))
      (λ slots next i m h. read_back rs next i m (ahead t hi i) refl h)
    where
      read_back : (rs : List Range) (next i : ℕ) (m : Pair) (xs : List ℕ) → ahead t hi i ≡ xs →
          IsIn m (map (pair_at i) (over_byte (λ b. if in_ranges rs b then reads 1 next ∷ [] else []) xs)) →
          (j : ℕ) × ((next, j) ≡ m) × Reads rs i j
      read_back rs next i m [] e h = absurd h
      read_back rs next i m (b ∷ xs) e h =
          let p = in_if (in_ranges rs b) (reads 1 next) i m h in
          (i + 1, p.1, (b, (ahead_first i b xs e).0, p.0, refl))

  abbrev ReadsScalar : List Range → ℕ → ℕ → Type 0
  ReadsScalar rs i j = (c : ℕ) × IsScalar c × IsTrue (in_ranges rs c) × Stands t.content (encode_utf8 c) i j

  scalar_implements : (rs : List Range) → Implements (one (λ slots. scalar rs)) (ReadsScalar rs)
  scalar_implements rs =
      one_place (λ slots. scalar rs) (ReadsScalar rs) (λ i j r. let e = stands_end (encode_utf8 r.0) i j r.3 in omega (arith, e))
      (λ slots next i j r le.
      let there = stands_ahead (encode_utf8 r.0) i j r.3 le in
      let found = ap scalar_at there.1 ∙ scalar_at-encode r.0 there.0 r.1 in
      subst (λ o. IsIn (next, j) (map (pair_at i) (over_scalar rs next o))) (sym found)
      (if_in (in_ranges rs r.0) (reads (length (encode_utf8 r.0)) next) i (next, j) r.2
      (ap (λ (z : ℕ). (next, z)) (sym (stands_end (encode_utf8 r.0) i j r.3)))))
      (λ slots next i m h. read_back rs next i m (scalar_at (ahead t hi i)) refl h)
    where
      read_back : (rs : List Range) (next i : ℕ) (m : Pair) (o : Option (ℕ × ℕ)) → scalar_at (ahead t hi i) ≡ o →
          IsIn m (map (pair_at i) (over_scalar rs next o)) → (j : ℕ) × ((next, j) ≡ m) × ReadsScalar rs i j
      read_back rs next i m None e h = absurd h
      read_back rs next i m (Some s) e h =
          let p = in_if (in_ranges rs s.0) (reads s.1 next) i m h in
          let b = (scalar_law.begins (ahead t hi i) s.0 s.1).0 e in (
            i + s.1,
            p.1,
            (
              s.0,
              b.0,
              p.0,
              subst (λ n. Stands t.content (encode_utf8 s.0) i (i + n)) (sym b.1) (ahead_stands (encode_utf8 s.0) b.2.0 i b.2.1),
            ),
          )

  single_in : (b : ℕ) → in_ranges ((b, b) ∷ []) b ≡ true
  single_in b = grind (arith, nat_tests)

  single_is : (b x : ℕ) → in_ranges ((b, b) ∷ []) x ≡ true → x ≡ b
  single_is b x h = grind (arith, nat_tests)

  byte_implements : (b : ℕ) → Implements (one (λ slots. byte ((b, b) ∷ []))) (λ i j. (slice_get t.content i ≡ Some b) × (i + 1 ≡ j))
  byte_implements b =
      same_spelling _ _ _
      (λ i j s. (s.1 ∙ ap Some (single_is b s.0 s.2), sym s.3))
      (λ i j s. (b, s.0, single_in b, sym s.1))
      (class_implements ((b, b) ∷ []))

  bytes_implement : (b : ℕ) (bs : List ℕ) → Implements (bytes_in_order b bs) (Stands t.content (b ∷ bs))
  bytes_implement b [] = byte_implements b
  bytes_implement b (c ∷ cs) =
      same_spelling _ _ _
      (λ i j s. (s.1.0, subst (λ z. Stands t.content (c ∷ cs) z j) (sym s.1.1) s.2))
      (λ i j s. (i + 1, (s.0, refl), s.1))
      (then_implements _ (bytes_in_order c cs) _ _ (byte_implements b) (bytes_implement c cs))

  guard_implements : (l : Look) → Implements (one (λ slots. guard l)) (λ i j. IsTrue (holds t l i) × (i ≡ j))
  guard_implements l =
      one_place (λ slots. guard l) _ (λ i j r. omega (arith, r.1))
      (λ slots next i j r le. if_in (holds t l i) (Stays next) i (next, j) r.0 (ap (λ (z : ℕ). (next, z)) r.1))
      (λ slots next i m h. let p = in_if (holds t l i) (Stays next) i m h in (i, p.1, (p.0, refl)))

  slot_implements : (number : ℕ → ℕ) → Implements (one (λ slots. slot (number slots))) (λ i j. i ≡ j)
  slot_implements number =
      one_place (λ slots. slot (number slots)) _ (λ i j e. omega (arith, e))
      (λ slots next i j e le. inl (ap (λ (z : ℕ). (next, z)) e))
      (λ slots next i m h. ⊎_elim (λ e. (i, e, refl)) (λ never. absurd never) h)

  dead_implements : Implements dead (λ i j. ⊥)
  dead_implements =
      one_place (λ slots next. choice []) _ (λ i j never. absurd never) (λ slots next i j never le. absurd never) (λ slots next i m h. absurd h)

  -- the program's part of a pattern is exactly for what the pattern spells
  pub part_implements : (r : Re) → HasBounds r → Implements (part r) (Spells t r)
  part_implements empty ok = pass_implements
  part_implements (literal []) ok = pass_implements
  part_implements (literal (b ∷ bs)) ok = bytes_implement b bs
  part_implements (byte_in rs) ok = class_implements rs
  part_implements (char_in rs) ok = scalar_implements rs
  part_implements (look l) ok = guard_implements l
  part_implements (repeat zero None greedy a) ok = star_implements greedy (part a) _ (part_implements a ok)
  part_implements (repeat (suc n) None greedy a) ok = least_implements n greedy (part a) _ (part_implements a ok)
  part_implements (repeat min (Some max) greedy a) ok = between_implements min max greedy (part a) _ ok.0 (part_implements a ok.1)
  part_implements (capture n name a) ok =
      same_spelling _ _ _
      (λ i j s. subst (λ z. Spells t a z j) (sym s.1) (subst (λ z. Spells t a s.0 z) s.2.2 s.2.1))
      (λ i j s. (i, refl, (j, s, refl)))
      (then_implements _ _ _ _ (slot_implements (λ slots. slots + 2 * (n - 1)))
      (then_implements (part a) _ _ _ (part_implements a ok) (slot_implements (λ slots. slots + 2 * (n - 1) + 1))))
  part_implements (cat a b) ok = then_implements (part a) (part b) _ _ (part_implements a ok.0) (part_implements b ok.1)
  part_implements (alt a b) ok = either_implements (part a) (part b) _ _ (part_implements a ok.0) (part_implements b ok.1)
  part_implements none ok = dead_implements
