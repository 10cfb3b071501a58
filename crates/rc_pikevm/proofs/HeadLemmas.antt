-- Places from which the byte that stands next lets no walk go on.
use Rattle.std.proofs.Common.{◌≡◌, ℕ, ◌+◌, ◌-◌, ◌<◌, ◌≤◌, ◌⊎◌, List, [], ◌∷◌, zero, suc, length, take, map, refl, sym, ap, ◌∙◌, inl, inr, ⊎_elim, arith, Bool, true, false, true≢false, IsTrue, Option, None, subst, ◌≢◌, Some, slice_get, slice_index, slice_index_or, slice_range, length-take}
use Rattle.std.specs.List.{Contains}
use Rattle.std.proofs.Math.Logic.{∥∥₁_elim}
use Rattle.std.proofs.lemmas.Bool.{cases_Bool}
use Rattle.std.proofs.lemmas.Bool.Decides.{nat_tests}
use Rattle.std.proofs.lemmas.Option.{none-some, same_Some}
use Rattle.rc_text.specs.Text.{Searched, high}
use Rattle.rc_text.proofs.Ranges.{get_or-slice_range, length-slice_range}
use Rattle.rc_walks.specs.Walks.{Pair, IsIn, IsWalk, stops, goes}
use Rattle.rc_program.specs.Text.{ahead, holds}
use Rattle.rc_program.specs.Program.{Place, byte, place_at, in_ranges, ways_out, pair_at}
use Rattle.rc_program.specs.Answer.{only}
use Rattle.rc_pattern.specs.declared.hir.Look.{Look}
use Rattle.rc_program.specs.Heads.{silent, Reaches, here, on, may_take, MayGoOn, TellsHeads}
use Rattle.rc_program.proofs.AnswerLemmas.{match_place_is}
use Rattle.rc_program.proofs.HeadsLemmas.{AllStay, IsReached, Taken, further, takes_or_stays}
use Rattle.rc_pikevm.specs.Sights.{Sight, IsUpTo, ends, ends_to, next_to}
use Rattle.rc_pikevm.specs.Moves.{IsSetting, seen_by}
use Rattle.rc_pikevm.specs.Near.{IsHere, seen_from}
use Rattle.rc_pikevm.specs.Windows.{IsWindow, IsBegun, IsAround}
use Rattle.rc_pikevm.specs.Alone.{IsDead}
use Rattle.rc_pikevm.specs.Entrances.{IsShut}
use Rattle.rc_pikevm.specs.declared.spot.Course.{Course}
use Rattle.rc_pikevm.specs.declared.spot.Spot.{Spot}
use Rattle.rc_pikevm.specs.declared.window.Window.{Window}
use Rattle.rc_pikevm.proofs.NearLemmas.{is_near}
use Rattle.rc_pikevm.proofs.SightLemmas.{ends_at, way_to}

first_take : (n : ℕ) (xs : List ℕ) → 0 < n → 0 < length xs → slice_get (take n xs) 0 ≡ Some (slice_index xs 0)
first_take zero xs some more = absurd (omega (arith, some))
first_take (suc n) [] some more = absurd (omega (arith, more))
first_take (suc n) (x ∷ xs) some more = refl

-- a place that doesn't take the byte ahead has no way out but those that read nothing
all_stay : (test : Look → Bool) (b : ℕ) (bs : List ℕ) (at : ℕ) (q : Place) → may_take q b ≡ false → AllStay q at (ways_out test (b ∷ bs) q)
all_stay test b bs at q e = ⊎_elim (λ t. absurd (true≢false (sym t ∙ e))) (λ stay. stay) (takes_or_stays test b bs at q)

module _ (limit : Option ℕ) (s : Sight) (p at b : ℕ) (bs : List ℕ) (le : IsUpTo at limit) (is : ahead s.text s.hi at ≡ b ∷ bs) where
  -- a walk by places reached from p comes to one that takes the byte ahead, before it can come past the position
  walk_takes : {passed from w : List Pair} → IsWalk (next_to limit s) (λ n. IsTrue (ends_to limit s n)) passed from w →
      ((n : Pair) → IsIn n from → IsReached s.places p at n) → Taken s.places p b
  walk_takes (stops n h fresh end) reached =
      let r = reached n h in
      let ends_here : IsTrue (ends s (r.0, at)) =
      sym (ends_at limit s (r.0, at) le) ∙ subst (λ (k : Pair). IsTrue (ends_to limit s k)) r.2 end in
      (r.0, r.1, ap (λ q. may_take q b) (match_place_is (only s.anchoring) (place_at s.places r.0) ends_here))
  walk_takes (goes n h fresh rest) reached =
      let r = reached n h in
      ⊎_elim (λ taken. (r.0, r.1, taken)) (λ stay. walk_takes rest (λ m i. onward_reached r.0 r.1 n r.2 stay m i)) (cases_Bool (may_take (place_at s.places r.0) b))
    where
      onward_reached : (q : ℕ) → Reaches s.places p q → (n : Pair) → n ≡ (q, at) → may_take (place_at s.places q) b ≡ false →
          (m : Pair) → IsIn m (next_to limit s n) → IsReached s.places p at m
      onward_reached q r n same stay m i =
          let j = subst (λ (xs : List ℕ). IsIn m (map (pair_at at) (ways_out (λ l. holds s.text l at) xs (place_at s.places q)))) is
          (way_to limit s (q, at) m (subst (λ (k : Pair). IsIn m (next_to limit s k)) same i)) in
          let k = all_stay (λ l. holds s.text l at) b bs at (place_at s.places q) stay m j in
          (k.0, further s.places k.0 r k.1, k.2)

-- no walk leads on over a byte over which none may go on from the place
pub byte_shut : (s : Sight) (p at b : ℕ) → slice_get (ahead s.text s.hi at) 0 ≡ Some b → ¬ MayGoOn s.places p b → IsShut s (p, at)
byte_shut s p at b stands none limit le passed v walk =
    let f = first_of (ahead s.text s.hi at) b stands in
    none ∣ walk_takes limit s p at b f.0 le f.1 walk (λ n i. ⊎_elim (λ e. (p, here, sym e)) (λ never. absurd never) i) ∣₁
  where
    first_of : (xs : List ℕ) (b : ℕ) → slice_get xs 0 ≡ Some b → (bs : List ℕ) × (xs ≡ b ∷ bs)
    first_of [] b e = absurd (none-some b e)
    first_of (x ∷ xs) b e = (xs, ap (λ y. y ∷ xs) (same_Some x b e))

-- the same of the byte that a spot shows
pub shown_shut : (spot : Spot) (text : Searched) (p : ℕ) → IsHere spot text → spot.at < spot.course.hi → 0 < length spot.after.now →
    ¬ MayGoOn (seen_from spot text).places p (slice_index spot.after.now 0) → IsShut (seen_from spot text) (p, spot.at)
shown_shut spot text p is_here below some none =
    byte_shut (seen_from spot text) p spot.at (slice_index spot.after.now 0)
    (sym is_here.near.next ∙ ap (λ hi. slice_get (take (hi - spot.at) spot.after.now) 0) (sym is_here.setting.bound)
    ∙ first_take (spot.course.hi - spot.at) spot.after.now (omega (arith, below)) some) none

module _ (course : Course) (text : Searched) (w : Window) (at end : ℕ) (setting : IsSetting course text) (window : IsWindow text w)
    (begun : IsBegun text at w) (around : (y : ℕ) → y ≤ end → IsAround text y w) (within : end ≤ course.hi) where
  window_fits : w.len ≤ length w.bytes
  window_fits =
      let e = ap (length {A = ℕ}) window.bytes in
      let few = length-take w.len w.bytes in
      let all = length-slice_range text.content w.start (w.start + w.len) (omega (arith, window.end)) in
      omega (arith, e, few, all)

  begun_later : (k : ℕ) → (w.start ≡ text.slice.start) ⊎ (w.start + 4 ≤ at) → (w.start ≡ text.slice.start) ⊎ (w.start + 4 ≤ at + k)
  begun_later k f = ⊎_elim (λ e. inl e) (λ h. inr (omega (arith, h))) f

  -- a byte of the window is the one that stands there
  pub window_byte : (k : ℕ) → at + k < end →
      slice_get (ahead (seen_by course text).text (seen_by course text).hi (at + k)) 0
      ≡ Some (slice_index (slice_range w.bytes (at - w.start) (end - w.start)) k)
  window_byte k below =
      let low : IsBegun text (at + k) w = record { below = omega (arith, begun.below); four = begun_later k begun.four } in
      let above = (around end (omega arith)).above in
      let near = is_near text (at + k) w window low (around (at + k) (omega (arith, below))) course.program.now (omega (arith, below, within, setting.bound)) in
      let skip : ℕ = at + k - w.start in
      let after = slice_range w.bytes skip w.len in
      let long = length-slice_range w.bytes skip w.len window_fits in
      let byte : slice_index after 0 ≡ slice_index (slice_range w.bytes (at - w.start) (end - w.start)) k =
      get_or-slice_range w.bytes skip w.len 0 0 (omega (arith, above, below, begun.below))
      ∙ ap (λ n. slice_index w.bytes n) (omega (arith, begun.below))
      ∙ sym (get_or-slice_range w.bytes (at - w.start) (end - w.start) k 0 (omega (arith, below, begun.below))) in
      sym near.next
      ∙ first_take (high text - (at + k)) after (omega (arith, below, within, setting.bound)) (omega (arith, long, above, below, begun.below))
      ∙ ap Some byte

  -- no walk leads on over it, where none may go on over it from the place
  pub barred_dead : (p k : ℕ) → at + k < end →
      ¬ MayGoOn (seen_by course text).places p (slice_index (slice_range w.bytes (at - w.start) (end - w.start)) k) → (passed : List Pair) →
      IsDead (seen_by course text) passed (p, at + k)
  barred_dead p k below none passed =
      byte_shut (seen_by course text) p (at + k) (slice_index (slice_range w.bytes (at - w.start) (end - w.start)) k) (window_byte k below) none None tt passed

-- none may go on over a byte of which the flag isn't set
pub unset_bars : (places : List Place) (p b : ℕ) (flags : List Bool) → TellsHeads places p flags → b < 256 → slice_index_or flags b false ≡ false →
    ¬ MayGoOn places p b
unset_bars places p b flags tells small unset may = true≢false (sym ((tells.exact b small).1 may) ∙ unset)

-- nothing else is reached from a place without ways that read nothing
stays_there : (places : List Place) {p q : ℕ} → silent (place_at places p) ≡ [] → Reaches places p q → q ≡ p
stays_there places none here = refl
stays_there places none (on m stands way) = let k = subst (λ ns. Contains ns m) none stands in absurd (omega (arith, k.1))

only_byte : (x b : ℕ) → in_ranges ((x, x) ∷ []) b ≡ true → b ≡ x
only_byte x b e = grind (arith, nat_tests)

-- none may go on over another byte from a place of one byte
pub other_bars : (places : List Place) (p x n b : ℕ) → place_at places p ≡ byte ((x, x) ∷ []) n → b ≢ x → ¬ MayGoOn places p b
other_bars places p x n b is other may =
    ∥∥₁_elim may (λ u v. absurd u)
    (λ w.
    let e = stays_there places (ap silent is) w.1 in
    other (only_byte x b (subst (λ q. IsTrue (may_take q b)) is (subst (λ q. IsTrue (may_take (place_at places q) b)) e w.2))))
