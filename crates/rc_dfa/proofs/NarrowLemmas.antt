-- A program whose other patterns have lost their match places.
use Rattle.std.proofs.Common.{◌≡◌, ℕ, zero, suc, ◌↔◌, Bool, true, false, List, [], ◌∷◌, map, Option, Some, None, IsTrue, nat_eq, if◌then◌else◌, sym, subst, ap, ◌∙◌, refl}
use Rattle.rc_pattern.specs.declared.hir.Look.{Look}
use Rattle.rc_program.specs.Text.{Text, holds, ahead}
use Rattle.rc_program.specs.Program.{Place, choice, byte, branch, scalar, guard, slot, accept, reads, pair_at, ways_out, place_at, ways, is_match_place}
use Rattle.rc_determinize.specs.Run.{Reaches, IsGoal}
use Rattle.rc_utf8.specs.Laws.{IsBytePlace}
use Rattle.rc_determinize.specs.Steps.{HasPlace, HasWay, IsRising}
use Rattle.rc_determinize.specs.declared.sides.Seen.{Seen}
use Rattle.rc_determinize.specs.declared.sides.Sides.{Sides}
use Rattle.rc_determinize.specs.Sides.{HasLook, holds_by}
use Rattle.rc_determinize.specs.States.{Setting, IsSetting, State}
use Rattle.rc_determinize.specs.Backward.{LeadsBy, LeadsOver, still_out, ReadsTo, IsFirstRoot, IsPriorOver, IsLastBeside, ReachesEnd}
use Rattle.rc_dfa.specs.Laws.{ReachesMatch}

-- the place, unless it is another pattern's match place
abbrev pub narrow : Option ℕ → Place → Place
narrow None place = place
narrow (Some p) (accept q) = if nat_eq q p then accept q else choice []
narrow (Some p) place = place

no_ways : (b : Bool) (q : ℕ) (test : Look → Bool) (bytes : List ℕ) → ways_out test bytes (if b then accept q else choice []) ≡ []
no_ways true q test bytes = refl
no_ways false q test bytes = refl

same_ways : (only : Option ℕ) (test : Look → Bool) (bytes : List ℕ) (place : Place) → ways_out test bytes (narrow only place) ≡ ways_out test bytes place
same_ways None test bytes place = refl
same_ways (Some p) test bytes (choice ns) = refl
same_ways (Some p) test bytes (byte rs n) = refl
same_ways (Some p) test bytes (branch ts) = refl
same_ways (Some p) test bytes (scalar rs n) = refl
same_ways (Some p) test bytes (guard l n) = refl
same_ways (Some p) test bytes (slot k n) = refl
same_ways (Some p) test bytes (accept q) = no_ways (nat_eq q p) q test bytes

that_match : (b : Bool) (q : ℕ) → is_match_place None (if b then accept q else choice []) ≡ b
that_match true q = refl
that_match false q = refl

same_match : (only : Option ℕ) (place : Place) → is_match_place None (narrow only place) ≡ is_match_place only place
same_match None place = refl
same_match (Some p) (choice ns) = refl
same_match (Some p) (byte rs n) = refl
same_match (Some p) (branch ts) = refl
same_match (Some p) (scalar rs n) = refl
same_match (Some p) (guard l n) = refl
same_match (Some p) (slot k n) = refl
same_match (Some p) (accept q) = that_match (nat_eq q p) q

still_bytes : (only : Option ℕ) (place : Place) → IsBytePlace place → IsBytePlace (narrow only place)
still_bytes None place h = h
still_bytes (Some p) (choice ns) h = h
still_bytes (Some p) (byte rs n) h = h
still_bytes (Some p) (branch ts) h = h
still_bytes (Some p) (scalar rs n) h = h
still_bytes (Some p) (guard l n) h = h
still_bytes (Some p) (slot k n) h = h
still_bytes (Some p) (accept q) h = by_test (nat_eq q p)
  where
    by_test : (b : Bool) → IsBytePlace (if b then accept q else choice [])
    by_test true = tt
    by_test false = tt

still_look : (only : Option ℕ) (l : Look) (place : Place) → HasLook l (narrow only place) → HasLook l place
still_look None l place h = h
still_look (Some p) l (choice ns) h = h
still_look (Some p) l (byte rs n) h = h
still_look (Some p) l (branch ts) h = h
still_look (Some p) l (scalar rs n) h = h
still_look (Some p) l (guard k n) h = h
still_look (Some p) l (slot k n) h = h
still_look (Some p) l (accept q) h = by_test (nat_eq q p) h
  where
    by_test : (b : Bool) → HasLook l (if b then accept q else choice []) → ⊥
    by_test true h = h
    by_test false h = h

narrow_dead : (only : Option ℕ) → choice [] ≡ narrow only (choice [])
narrow_dead None = refl
narrow_dead (Some p) = refl

placed : (only : Option ℕ) (places : List Place) (q : ℕ) → place_at (map (narrow only) places) q ≡ narrow only (place_at places q)
placed only [] q = narrow_dead only
placed only (p ∷ ps) zero = refl
placed only (p ∷ ps) (suc q) = placed only ps q

module _ (only : Option ℕ) (g : Setting) where
  abbrev pub narrowed : Setting
  narrowed = record g { places = map (narrow only) g.places }

  ways_are : (test : Look → Bool) (bytes : List ℕ) (q : ℕ) → ways_out test bytes (place_at narrowed.places q) ≡ ways_out test bytes (place_at g.places q)
  ways_are test bytes q = ap (λ p. ways_out test bytes p) (placed only g.places q) ∙ same_ways only test bytes (place_at g.places q)

  match_is : (q : ℕ) → is_match_place None (place_at narrowed.places q) ≡ is_match_place only (place_at g.places q)
  match_is q = ap (λ p. is_match_place None p) (placed only g.places q) ∙ same_match only (place_at g.places q)

  pub narrow_setting : IsSetting g → IsSetting narrowed
  narrow_setting ok = record {
    by_bytes = λ q. subst (λ p. IsBytePlace p) (sym (placed only g.places q)) (still_bytes only (place_at g.places q) (ok.by_bytes q));
    covers = let c = ok.covers in record {
      facts = λ q l h. c.facts q l (still_look only l (place_at g.places q) (subst (λ p. HasLook l p) (placed only g.places q) h));
      unicode = λ q l h. c.unicode q l (still_look only l (place_at g.places q) (subst (λ p. HasLook l p) (placed only g.places q) h));
    };
  }

  still_is : still_out g.places ≡ still_out narrowed.places
  still_is = λ i behind ahead q. sym (ways_are (holds_by behind ahead) [] q) i

  reads_is : (b q p : ℕ) → ReadsTo g.places b q p ≡ ReadsTo narrowed.places b q p
  reads_is b q p = λ i. HasWay (reads 1 p) (sym (ways_are (λ l. false) (b ∷ []) q) i)

  -- the steps are the same
  pub narrow_prior : (roots : List ℕ) (s s2 : State) (sides : Sides) → IsPriorOver g.places roots s sides s2 → IsPriorOver narrowed.places roots s sides s2
  narrow_prior roots s s2 sides n =
      let here : LeadsOver g.places s sides.near ≡ LeadsOver narrowed.places s sides.near = λ i. LeadsBy (still_is i sides.near s.beside) s.list in
      record {
        list = λ q. subst (λ (X : (ℕ → Type 0) × (ℕ → ℕ → Type 0)). HasPlace q s2.list ↔ ((b : ℕ) × (sides.byte ≡ Some b) × (p : ℕ) × X.1 b p × X.0 p))
            (λ i. (here i, λ b p. reads_is b q p i)) (n.list q);
        rising = n.rising;
        matched = subst (λ (X : ℕ → Type 0). IsFirstRoot X roots s2.matched) here n.matched;
        goes_on = n.goes_on;
        beside = n.beside;
      }

  -- what reaches a match place of theirs reaches one of the pattern
  pub reach_is : (t : Text) (hi end : ℕ) → ReachesEnd narrowed t hi end ≡ ReachesMatch only g t hi end
  reach_is t hi end = λ i y root. Reaches (ways_same i) (IsGoal (λ n. IsTrue (match_is n.0 i)) end) (root, y)
    where
      ways_same : ways narrowed.places t hi ≡ ways g.places t hi
      ways_same = λ i n. map (pair_at n.1) (ways_are (λ l. holds t l n.1) (ahead t hi n.1) n.0 i)

  -- at the end of a match of the pattern
  pub narrow_last : (facts : Seen) (s : State) → ((q : ℕ) → HasPlace q s.list ↔ IsTrue (is_match_place only (place_at g.places q))) → IsRising s.list →
      s.matched ≡ None → s.goes_on ≡ false → s.beside ≡ facts → IsLastBeside narrowed.places facts s
  narrow_last facts s same rising matched goes_on beside = record {
    list = λ q. let l = same q in ((λ h. match_is q ∙ l.0 h), (λ h. l.1 (sym (match_is q) ∙ h)));
    rising = rising;
    matched = matched;
    goes_on = goes_on;
    beside = beside;
  }
