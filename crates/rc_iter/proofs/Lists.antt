-- What calls of `next` give, over whole lists of items.
use Rattle.std.proofs.Common.{◌≡◌, ℕ, ◌+◌, ◌-◌, ◌<◌, ◌≤◌, false, List, [], ◌∷◌, ◌++◌, length, map, Option, Some, None, Result, Ok, IfSome, refl, sym, ap, ◌∙◌, subst, arith}
use Rattle.std.specs.Bool.{MatchBool}
use Rattle.std.specs.Option.{option_map}
use Rattle.std.specs.Iterator.{Yields, YieldsThen}
use Rattle.std.proofs.lemmas.List.{append-nil}
use Rattle.std.proofs.lemmas.Option.{none-some, same_Some}
use Rattle.rc_text.specs.Text.{Searched, Keeps}
use Rattle.rc_text.specs.Found.{Found, HalfFound, half_of}
use Rattle.rc_text.specs.declared.types.MatchError.{MatchError}
use Rattle.rc_program.specs.Matches
use Rattle.rc_program.specs.Matches.{AreInOrder, AreMatches, begin_of, end_of}
use Rattle.rc_iter.specs.Finders.{Task, task_of, with_start, Calls, AnswersAs, limit, offset_of}
use Rattle.rc_iter.specs.Searchers.{Searching, next_by, halves_of, FindsAhead, GoesOn, IsPast}
use Rattle.rc_iter.specs.Halves.{HalvesLeft, GivesHalf, GivesNext, AreLeft, found_in, going, HalvesLaw}
use Rattle.rc_iter.proofs.Halved.{half_next_by}

-- inputs that are equal but for chunk and position have the same task
pub same_task : (s t : Searched) → Keeps s t → task_of t ≡ task_of s
same_task s t h = rw (h.content, h.span, h.slice, h.anchored, h.earliest) refl

-- what was found in the input from a start on
abbrev found_by : (Task → Option Found) → Task → ℕ → Option Found
found_by find t k = find (record t { span = record { start = k; end = t.span.end } })

-- a half that is given is the half of a match
from_half : (o : Option Found) (m : HalfFound) → Some m ≡ option_map half_of o → (n : Found) × (o ≡ Some n) × (m ≡ half_of n)
from_half None m e = absurd (none-some m (sym e))
from_half (Some n) m e = (n, refl, same_Some m (half_of n) e)

no_half : (o : Option Found) → None ≡ option_map half_of o → o ≡ None
no_half None e = refl
no_half (Some n) e = absurd (none-some (half_of n) e)

-- the matches that are left after a match
left_after : (find : Task → Option Found) (s j : Searching) (n : ℕ) (ms : List Found) → GoesOn s n j → AreLeft find j ms →
    AreMatches begin_of end_of (found_in find s.input) n (Some n) ms
left_after find s j n ms on left =
    let e : task_of j.input ≡ task_of (with_start s.input n) = same_task (with_start s.input n) j.input on.0 in
    let a : AreMatches begin_of end_of (found_by find (task_of (with_start s.input n))) n j.last ms =
    subst (λ t. AreMatches begin_of end_of (found_by find t) t.span.start j.last ms) e left in
    subst (λ o. AreMatches begin_of end_of (found_by find (task_of (with_start s.input n))) n o ms) on.1 a

-- where a searcher that went on stands
on_start : (s j : Searching) (n : ℕ) → GoesOn s n j → j.input.span.start ≡ n
on_start s j n on = ap (λ x. x.start) on.0.span

on_limit : (s j : Searching) (n : ℕ) → GoesOn s n j → limit j.input ≡ limit s.input
on_limit s j n on = ap (λ t. limit record s.input { content = t.content; span = t.span }) (same_task (with_start s.input n) j.input on.0)

on_past : (s j : Searching) (n : ℕ) → GoesOn s n j → IsPast j
on_past s j n on =
    let k = on_start s j n on in
    subst (λ o. IfSome o (λ l. l ≤ j.input.span.start)) (sym on.1) (omega (arith, k))

-- what was said of the last match, where it is known
at_last : (o : Option ℕ) (l k n : ℕ) → o ≡ Some l → l ≤ k → IfSome o (λ x. x ≤ k → x < n) → l < n
at_last o l k n is le h = subst (λ p. IfSome p (λ x. x ≤ k → x < n)) is h le

module _ {F I : Type 0} (searched : I → Searched) (g : Calls F I HalfFound) where
  given : (s : HalvesLeft F) (r : Option (Result HalfFound MatchError)) (t : HalvesLeft F) → s.is_done ≡ false →
      GivesNext searched g s r t → GivesHalf searched g s r t
  given s r t on h = subst (λ b. MatchBool b ((r ≡ None) × (t ≡ s)) (GivesHalf searched g s r t)) on h.0

  few_at : (items : List HalfFound) (s t : HalvesLeft F) → s.is_done ≡ false → s.searcher.last ≡ Some s.searcher.input.span.start →
      Yields (GivesNext searched g) s (map Ok items) t → length items ≤ limit s.searcher.input - s.searcher.input.span.start
  few_at [] s t on at ys = omega arith
  few_at (m ∷ items) s t on at (j, step, ys) =
      let h = given s (Some (Ok m)) j on step in
      let k = on_start s.searcher j.searcher m.offset h.leaves in
      let high = on_limit s.searcher j.searcher m.offset h.leaves in
      let rest = few_at items j t h.done (h.leaves.1 ∙ ap Some (sym k)) ys in
      let above = at_last s.searcher.last s.searcher.input.span.start s.searcher.input.span.start m.offset at (omega arith) h.rises in
      omega (arith, rest, k, high, above, h.within.2)

  few : (items : List HalfFound) (s t : HalvesLeft F) → s.is_done ≡ false → Yields (GivesNext searched g) s (map Ok items) t →
      length items ≤ limit s.searcher.input + 1 - s.searcher.input.span.start
  few [] s t on ys = omega arith
  few (m ∷ items) s t on (j, step, ys) =
      let h = given s (Some (Ok m)) j on step in
      let k = on_start s.searcher j.searcher m.offset h.leaves in
      let high = on_limit s.searcher j.searcher m.offset h.leaves in
      let rest = few_at items j t h.done (h.leaves.1 ∙ ap Some (sym k)) ys in
      omega (arith, rest, k, high, h.within.0, h.within.2)

  rise : (items : List HalfFound) (s t : HalvesLeft F) → s.is_done ≡ false → Yields (GivesNext searched g) s (map Ok items) t →
      AreInOrder offset_of offset_of (limit s.searcher.input) items
  rise [] s t on ys = tt
  rise (m ∷ []) s t on (j, step, ys) = let h = given s (Some (Ok m)) j on step in (h.within.1, h.within.2)
  rise (m ∷ n ∷ items) s t on (j, step, ys) =
      let h = given s (Some (Ok m)) j on step in
      let i = given j (Some (Ok n)) ys.0 h.done ys.1 in
      let k = on_start s.searcher j.searcher m.offset h.leaves in
      let above = at_last j.searcher.last m.offset j.searcher.input.span.start n.offset h.leaves.1 (omega (arith, k)) i.rises in
      (h.within.1, omega (arith, above), above, subst (λ x. AreInOrder offset_of offset_of x (n ∷ items)) (on_limit s.searcher j.searcher m.offset h.leaves) (rise (n ∷ items) j t h.done ys))

  -- halves that came, and what is left of the list
  record Begins (find : Task → Option Found) (s : HalvesLeft F) (items : List HalfFound) (t : HalvesLeft F) : Type 0 where
    pub ms : List Found
    pub are : items ≡ map half_of ms
    pub on : t.is_done ≡ false
    pub past : IsPast t.searcher
    pub exact : AnswersAs searched g (halves_of find) t.finder
    pub rest : (rest : List Found) → AreLeft find t.searcher rest → AreLeft find s.searcher (ms ++ rest)

  begins : (find : Task → Option Found) → FindsAhead find → (items : List HalfFound) (s t : HalvesLeft F) → AnswersAs searched g (halves_of find) s.finder → s.is_done ≡ false → IsPast s.searcher → Yields (GivesNext searched g) s (map Ok items) t →
      Begins find s items t
  begins find ahead [] s t answers on past e = record {
    ms = [];
    are = refl;
    on = subst (λ x. x.is_done ≡ false) e on;
    past = subst (λ x. IsPast x.searcher) e past;
    exact = subst (λ x. AnswersAs searched g (halves_of find) x.finder) e answers;
    rest = λ rest a. subst (λ x. AreLeft find x.searcher rest) (sym e) a;
  }
  begins find ahead (m ∷ items) s t answers on past (j, step, ys) =
      let h = given s (Some (Ok m)) j on step in
      let w = from_half (next_by begin_of end_of find s.searcher) m (h.exact (halves_of find) answers ∙ half_next_by find s.searcher ahead past) in
      let goes : GoesOn s.searcher w.0.end j.searcher = subst (λ x. GoesOn s.searcher x j.searcher) (ap (λ x. x.offset) w.2) h.leaves in
      let i = begins find ahead items j t (h.stays (halves_of find) answers) h.done (on_past s.searcher j.searcher m.offset h.leaves) ys in
      record {
        ms = w.0 ∷ i.ms;
        are = ap (λ x. x ∷ items) w.2 ∙ ap (λ l. half_of w.0 ∷ l) i.are;
        on = i.on;
        past = i.past;
        exact = i.exact;
        rest = λ rest a. Matches.goes_on w.0 w.1 (left_after find s.searcher j.searcher w.0.end (i.ms ++ rest) goes (i.rest rest a));
      }

  whole : (find : Task → Option Found) → FindsAhead find → (items : List HalfFound) (s t : HalvesLeft F) → AnswersAs searched g (halves_of find) s.finder → s.is_done ≡ false → IsPast s.searcher →
      YieldsThen (GivesNext searched g) s (map Ok items) None t →
      (ms : List Found) × (items ≡ map half_of ms) × AreLeft find s.searcher ms
  whole find ahead items s t answers on past (u, ys, step) =
      let b = begins find ahead items s u answers on past ys in
      let h = given u None t b.on step in
      let none = no_half (next_by begin_of end_of find u.searcher) (h.exact (halves_of find) b.exact ∙ half_next_by find u.searcher ahead b.past) in
      (b.ms, b.are, subst (λ l. AreLeft find s.searcher l) (append-nil b.ms) (b.rest [] (Matches.ends none)))

  pub halves_law : (s : Searching) (f : F) → HalvesLaw searched g s f
  halves_law s f = record {
    begin = λ find ahead answers past items t ys. let b = begins find ahead items (going s f) t answers refl past ys in (b.ms, b.are, b.rest);
    list = λ find ahead answers past items t ys. whole find ahead items (going s f) t answers refl past ys;
    rise = λ items t ys. rise items (going s f) t refl ys;
    few = λ items t ys. few items (going s f) t refl ys;
  }
