-- Where runs stop.
use Rattle.std.proofs.Common.{◌≡◌, ℕ, ◌+◌, ◌-◌, ◌<◌, ◌≤◌, Bool, true, false, true≢false, List, [], length, take, drop, Option, Some, None, IsTrue, slice_get, ⊎_elim, sym, subst, ap, ◌∙◌, refl, arith}
use Rattle.std.proofs.lemmas.Bool.{cases_lt, cases_eq, cases_Bool}
use Rattle.std.proofs.lemmas.Option.{none-some}
use Rattle.rc_text.specs.declared.types.Anchored.{Anchored}
use Rattle.rc_program.specs.Looks.{side_before, side_after}
use Rattle.rc_program.specs.Text.{Text, before_at, after_at}
use Rattle.rc_determinize.specs.declared.sides.Asked.{Asked}
use Rattle.rc_determinize.specs.Sides.{byte_of, IsReadable}
use Rattle.rc_determinize.specs.States.{State, IsInside}
use Rattle.rc_determinize.proofs.TextLemmas.{get_some, byte_ahead, byte_behind}
use Rattle.rc_dfa.specs.Machine.{bytes, symbols, Machine}
use Rattle.rc_dfa.specs.Runs.{RunEnd, met_last, stopped_at, idle_at, ahead_at, behind_at, MayRead}
use Rattle.rc_dfa.specs.Runs as runs
use Rattle.rc_dfa.specs.Laws.{IsUnread}
use Rattle.rc_dfa.proofs.StartLemmas.{has_met}

abbrev place_of : RunEnd → ℕ
place_of (met_last met) = 0
place_of (stopped_at p) = p
place_of (idle_at i) = 0

abbrev has_stopped : RunEnd → Bool
has_stopped (met_last met) = false
has_stopped (stopped_at p) = true
has_stopped (idle_at i) = false

same_stop : {p q : ℕ} → stopped_at p ≡ stopped_at q → p ≡ q
same_stop e = ap (λ r. place_of r) e

no_stop : {p : ℕ} {x : Option (ℕ × ℕ)} → met_last x ≡ stopped_at p → ⊥
no_stop e = true≢false (ap (λ r. has_met r) e)

no_rest : {i p : ℕ} → idle_at i ≡ stopped_at p → ⊥
no_rest e = true≢false (sym (ap (λ r. has_stopped r) e))

-- BYTES

none_taken : (xs : List ℕ) (n : ℕ) → n ≡ 0 → take n xs ≡ []
none_taken xs n e = ap (λ k. take k xs) e

-- a byte that stands ahead is the slice's
ahead_inside : (t : Text) (p b : ℕ) → t.slice_end ≤ length t.content → byte_of (after_at t p) ≡ Some b → (p < t.slice_end) × (slice_get t.content p ≡ Some b)
ahead_inside t p b bounded e =
    ⊎_elim
    (λ lt. let x = get_some t.content p (omega (arith, lt, bounded)) in
    (lt, x.1 ∙ sym (byte_ahead t p x.0 lt x.1) ∙ e))
    (λ ge. absurd (none-some b (sym (ap (λ bs. byte_of (side_after bs)) (none_taken (drop p t.content) (t.slice_end - p) (omega (arith, ge)))) ∙ e)))
    (cases_lt p t.slice_end)

behind_inside : (t : Text) (p b : ℕ) → p < length t.content → byte_of (before_at t (p + 1)) ≡ Some b → (t.slice_start ≤ p) × (slice_get t.content p ≡ Some b)
behind_inside t p b bounded e =
    ⊎_elim
    (λ lt. absurd (none-some b (sym (ap (λ bs. byte_of (side_before bs)) (none_taken (drop t.slice_start t.content) (p + 1 - t.slice_start) (omega (arith, lt)))) ∙ e)))
    (λ ge. let x = get_some t.content p bounded in (ge, x.1 ∙ sym (byte_behind t p x.0 ge x.1) ∙ e))
    (cases_lt p t.slice_start)

-- what can't be read is a byte, which is none of ASCII
not_read : (needs : Asked) (o : Option ℕ) → ¬ IsReadable needs o → (b : ℕ) × (o ≡ Some b) × (128 ≤ b) × IsTrue needs.unicode
not_read needs None h = absurd (h tt)
not_read needs (Some b) h =
    ⊎_elim
    (λ lt. absurd (h (λ u. lt)))
    (λ ge. ⊎_elim (λ u. (b, refl, ge, u)) (λ f. absurd (h (λ u. absurd (true≢false (sym u ∙ f))))) (cases_Bool needs.unicode))
    (cases_lt b 128)

-- what can be read is
is_read : (needs : Asked) (o : Option ℕ) (b : ℕ) → IsTrue needs.unicode → IsReadable needs o → o ≡ Some b → b < 128
is_read needs o b u h e = subst (λ x. IsReadable needs x) e h u

-- FORWARDS

module _ (m : Machine) (t : Text) (hi from : ℕ) (first : State) where
  -- each byte on the way was read
  all_read : {i : ℕ} {s : State} {met : Option (ℕ × ℕ)} → runs.RunsOver bytes m t hi from first i s met → (from ≤ i) × ((y : ℕ) → from ≤ y → y < i → MayRead m (ahead_at t y))
  all_read runs.begun = (omega arith, λ y a b. absurd (omega (arith, a, b)))
  all_read (runs.goes_on i s next r lt may step) =
      let v = all_read r in
      let low = v.0 in
      (omega (arith, low), λ y a b. ⊎_elim (λ e. subst (λ k. MayRead m (ahead_at t k)) (sym e) may) (λ ne. v.1 y a (omega (arith, b, ne))) (cases_eq y i))

  end_stop : (earliest : Bool) (e : RunEnd) (p : ℕ) → runs.EndsOver bytes m t hi from first earliest e → e ≡ stopped_at p →
      (from ≤ p) × (p ≤ hi) × (¬ MayRead m (ahead_at t p)) × ((y : ℕ) → from ≤ y → y < p → MayRead m (ahead_at t y))
  end_stop earliest e p (runs.at_bound s next r may step) is = absurd (no_stop is)
  end_stop earliest e p (runs.dead i s r d) is = absurd (no_stop is)
  end_stop earliest e p (runs.early i s t2 r) is = absurd (no_stop is)
  end_stop earliest e p (runs.rests i s r le d) is = absurd (no_rest is)
  end_stop earliest e p (runs.quit i s r le h) is =
      let v = all_read r in
      subst (λ k. (from ≤ k) × (k ≤ hi) × (¬ MayRead m (ahead_at t k)) × ((y : ℕ) → from ≤ y → y < k → MayRead m (ahead_at t y))) (same_stop is)
      (v.0, le, h, v.1)

pub stops : (m : Machine) (t : Text) (hi from : ℕ) (anchored : Anchored) (earliest : Bool) (e : RunEnd) (p : ℕ) → IsInside t from hi → from ≤ hi →
    runs.SearchEndsOver bytes m t hi from anchored earliest e → e ≡ stopped_at p → (from ≤ p + 1) × (p ≤ hi) × IsUnread m t (λ y. (from ≤ y + 1) × (y < p)) p
stops m t hi from anchored earliest e p inside le (runs.ran first may begins ends) is =
    let v = end_stop m t hi from first earliest e p ends is in
    let low = v.0 in let start = inside.low in
    let b = not_read m.setting.needs (ahead_at t p) v.2 in
    let here = ahead_inside t p b.0 inside.bounded b.1 in (
      omega (arith, low),
      v.1,
      record {
        unicode = b.3;
        inside = (omega (arith, low, start), here.0);
        byte = (b.0, here.1, b.2);
        first = λ y c r low2 high at. ⊎_elim
            (λ lt. let a = r.0 in let one : from ≡ y + 1 = omega (arith, a, lt) in
            is_read m.setting.needs (behind_at t from) c b.3 may (ap (λ k. behind_at t k) one ∙ byte_behind t y c low2 at))
            (λ ge. is_read m.setting.needs (ahead_at t y) c b.3 (v.3 y ge r.1) (byte_ahead t y c high at))
            (cases_lt y from);
      },
    )
stops m t hi from anchored earliest e p inside le (runs.unread q one h) is =
    let same = same_stop is in
    let b = not_read m.setting.needs (behind_at t from) h in
    let at : p + 1 ≡ from = omega (arith, one, same) in
    let high = inside.high in let bounded = inside.bounded in
    let here = behind_inside t p b.0 (omega (arith, at, le, high, bounded)) (ap (λ k. behind_at t k) at ∙ b.1) in (
      omega (arith, at),
      omega (arith, at, le),
      record {
        unicode = b.3;
        inside = (here.0, omega (arith, at, le, high));
        byte = (b.0, here.1, b.2);
        first = λ y c r low2 high2 is_at. let a = r.0 in let z = r.1 in absurd (omega (arith, a, z, at));
      },
    )

-- BACKWARDS

module _ (m : Machine) (t : Text) (lo end : ℕ) (first : State) where
  all_read_down : {i : ℕ} {s : State} {least : Option (ℕ × ℕ)} → runs.RunsDownOver bytes m t lo end first i s least →
      (i ≤ end) × ((y : ℕ) → i ≤ y → y < end → MayRead m (behind_at t (y + 1)))
  all_read_down runs.begun = (omega arith, λ y a b. absurd (omega (arith, a, b)))
  all_read_down (runs.goes_down i s next r le may step) =
      let v = all_read_down r in
      let high = v.0 in
      (omega (arith, high), λ y a b. ⊎_elim (λ e. subst (λ k. MayRead m (behind_at t (k + 1))) (sym e) may) (λ ne. v.1 y (omega (arith, a, ne)) b) (cases_eq y i))

  end_stop_down : (earliest : Bool) (e : RunEnd) (p : ℕ) → runs.EndsDownOver bytes m t lo end first earliest e → e ≡ stopped_at p →
      (lo ≤ p + 1) × (p + 1 ≤ end) × (¬ MayRead m (behind_at t (p + 1))) × ((y : ℕ) → p < y → y < end → MayRead m (behind_at t (y + 1)))
  end_stop_down earliest e p (runs.at_bound s next r may step) is = absurd (no_stop is)
  end_stop_down earliest e p (runs.dead i s r d) is = absurd (no_stop is)
  end_stop_down earliest e p (runs.early i s t2 r) is = absurd (no_stop is)
  end_stop_down earliest e p (runs.quit q s r le h) is =
      let v = all_read_down r in
      subst (λ k. (lo ≤ k + 1) × (k + 1 ≤ end) × (¬ MayRead m (behind_at t (k + 1))) × ((y : ℕ) → k < y → y < end → MayRead m (behind_at t (y + 1)))) (same_stop is)
      (le, v.0, h, λ y a b. v.1 y (omega (arith, a)) b)

pub stops_down : (m : Machine) (t : Text) (hi lo end : ℕ) (anchored : Anchored) (earliest : Bool) (e : RunEnd) (p : ℕ) → IsInside t lo hi → lo ≤ end → end ≤ hi →
    runs.SearchEndsDownOver bytes m t lo end anchored earliest e → e ≡ stopped_at p → (lo ≤ p + 1) × (p ≤ end) × IsUnread m t (λ y. (p < y) × (y ≤ end)) p
stops_down m t hi lo end anchored earliest e p inside below_end within (runs.ran first may begins ends) is =
    let v = end_stop_down m t lo end first earliest e p ends is in
    let below = v.1 in let high = inside.high in let bounded = inside.bounded in
    let b = not_read m.setting.needs (behind_at t (p + 1)) v.2 in
    let here = behind_inside t p b.0 (omega (arith, below, within, high, bounded)) b.1 in (
      v.0,
      omega (arith, below),
      record {
        unicode = b.3;
        inside = (here.0, omega (arith, below, within, high));
        byte = (b.0, here.1, b.2);
        first = λ y c r low2 high2 at. ⊎_elim
            (λ lt. is_read m.setting.needs (behind_at t (y + 1)) c b.3 (v.3 y r.0 lt) (byte_behind t y c low2 at))
            (λ ge. let le = r.1 in let one : end ≡ y = omega (arith, ge, le) in
            is_read m.setting.needs (ahead_at t end) c b.3 may (ap (λ k. ahead_at t k) one ∙ byte_ahead t y c high2 at))
            (cases_lt y end);
      },
    )
stops_down m t hi lo end anchored earliest e p inside below_end within (runs.unread h) is =
    let same = same_stop is in
    let b = not_read m.setting.needs (ahead_at t end) h in
    let here = ahead_inside t p b.0 inside.bounded (ap (λ k. ahead_at t k) (sym same) ∙ b.1) in (
      omega (arith, same, below_end),
      omega (arith, same),
      record {
        unicode = b.3;
        inside = (let low = inside.low in omega (arith, same, below_end, low), here.0);
        byte = (b.0, here.1, b.2);
        first = λ y c r low2 high2 at. let a = r.0 in let z = r.1 in absurd (omega (arith, a, z, same));
      },
    )

-- WHERE ALL IS READ

end_reads : (m : Machine) (t : Text) (hi from : ℕ) (first : State) (earliest : Bool) (e : RunEnd) (p : ℕ) →
    runs.EndsOver symbols m t hi from first earliest e → e ≡ stopped_at p → ⊥
end_reads m t hi from first earliest e p (runs.at_bound s next r may step) is = no_stop is
end_reads m t hi from first earliest e p (runs.dead i s r d) is = no_stop is
end_reads m t hi from first earliest e p (runs.early i s t2 r) is = no_stop is
end_reads m t hi from first earliest e p (runs.quit i s r le h) is = h tt
end_reads m t hi from first earliest e p (runs.rests i s r le d) is = no_rest is

pub reads_all : (m : Machine) (t : Text) (hi from : ℕ) (anchored : Anchored) (earliest : Bool) (e : RunEnd) (p : ℕ) →
    runs.SearchEndsOver symbols m t hi from anchored earliest e → e ≡ stopped_at p → ⊥
reads_all m t hi from anchored earliest e p (runs.ran first may begins ends) is = end_reads m t hi from first earliest e p ends is
reads_all m t hi from anchored earliest e p (runs.unread q one h) is = h tt

end_reads_down : (m : Machine) (t : Text) (lo end : ℕ) (first : State) (earliest : Bool) (e : RunEnd) (p : ℕ) →
    runs.EndsDownOver symbols m t lo end first earliest e → e ≡ stopped_at p → ⊥
end_reads_down m t lo end first earliest e p (runs.at_bound s next r may step) is = no_stop is
end_reads_down m t lo end first earliest e p (runs.dead i s r d) is = no_stop is
end_reads_down m t lo end first earliest e p (runs.early i s t2 r) is = no_stop is
end_reads_down m t lo end first earliest e p (runs.quit q s r le h) is = h tt

pub reads_all_down : (m : Machine) (t : Text) (lo end : ℕ) (anchored : Anchored) (earliest : Bool) (e : RunEnd) (p : ℕ) →
    runs.SearchEndsDownOver symbols m t lo end anchored earliest e → e ≡ stopped_at p → ⊥
reads_all_down m t lo end anchored earliest e p (runs.ran first may begins ends) is = end_reads_down m t lo end first earliest e p ends is
reads_all_down m t lo end anchored earliest e p (runs.unread h) is = h tt
