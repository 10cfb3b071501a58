-- What one run of a half tells.
use Rattle.std.proofs.Common.{◌≡◌, ℕ, ◌+◌, ◌<◌, ◌≤◌, Bool, true, false, true≢false, IsTrue, List, length, Option, Some, None, Result, IfOk, IfErr, sym, subst, ap, ◌∙◌, refl, arith, slice_get, ◌↔◌}
use Rattle.rc_text.specs.Text.{Searched, Keeps, low, high}
use Rattle.rc_text.specs.declared.types.Anchored.{Anchored}
use Rattle.rc_text.specs.declared.types.Anchored.TheVariants.{No, Yes, Pattern}
use Rattle.rc_text.specs.declared.types.MatchError as error
use Rattle.rc_text.specs.declared.types.MatchError.TheVariants as errors
use Rattle.rc_pattern.specs.Re.{Re}
use Rattle.rc_program.specs.Text.{Text}
use Rattle.rc_program.specs.Answer.{Search}
use Rattle.rc_program.specs.Sought.{text_of}
use Rattle.rc_determinize.specs.States.{IsInside}
use Rattle.rc_dfa.specs.Machine.{Machine, IsAsked}
use Rattle.rc_dfa.specs.Ended.{HasEnded, HasEndedDown, gave_up}
use Rattle.rc_dfa.specs.Reads.{HasEndedBelow}
use Rattle.rc_dfa.specs.Laws.{IsUnread}
use Rattle.rc_dfa.specs.declared.ended.Met.{Met}
use Rattle.rc_dfa.specs.declared.ended.Ended.{Ended}
use Rattle.rc_dfa.specs.declared.ended.Reading.{Reading}
use Rattle.rc_dfa.specs.declared.ended.Ended.TheVariants.{Found, Idle, Quit, GaveUp}
use Rattle.rc_dfa.proofs.ReadLemmas.{has_ended}
use Rattle.rc_dfa.proofs.RunLemmas.{run_law}
use Rattle.rc_dfa_search.specs.declared.search.Aim.{Aim}
use Rattle.rc_dfa_search.specs.Machines.{IsCase, entries_of}
use Rattle.rc_dfa_search.specs.Faults.{SpeaksOfUnicode, speaks_of_unicode, MayQuit, IsFault}
use Rattle.rc_dfa_search.specs.Aims
use Rattle.rc_dfa_search.specs.Aims.{AreHalvesOf, is_early, search_for, search_from}
use Rattle.rc_dfa_search.specs.Ends.{Asks, HasMet, HasMetDown, told_of}
use Rattle.rc_dfa_search.proofs.CaseLemmas.{length-entries, same_setting}
use Rattle.rc_dfa_search.proofs.UnreadLemmas.{unread_law}

-- THE SEARCH OF AN INPUT

pub asked_so : (m : Machine) (hs : List Re) (patterns : ℕ) (anchored : Anchored) → m.entries ≡ entries_of hs → patterns ≡ length hs → Asks patterns anchored →
    IsAsked m anchored
asked_so m hs patterns No e f a = tt
asked_so m hs patterns Yes e f a = tt
asked_so m hs patterns (Pattern p) e f a =
    let len = ap length e in let own = length-entries 0 hs in omega (arith, len, own, f, a)

pub case_from : (AreOf : Machine → Machine → Type 0) (aim : Aim) (hs : List Re) (terminator : ℕ) (s : Searched) (of : AreHalvesOf AreOf aim hs terminator) →
    (lo : ℕ) → low s ≤ lo → lo ≤ high s → Asks aim.patterns s.anchored → IsCase hs aim.kind of.ahead of.back s.anchored (search_from aim hs terminator s lo)
case_from AreOf aim hs terminator s of lo above le asks =
    let ms = of.machines in
    record {
      alphabet = of.alphabet;
      machines = ms;
      places = refl;
      anchoring = refl;
      inside = record { low = omega (arith, above); high = omega arith; bounded = omega arith };
      ordered = le;
      asked = asked_so of.ahead hs aim.patterns s.anchored (ap (λ (m : Machine). m.entries) ms.ahead) of.counted asks;
    }

pub case_of : (AreOf : Machine → Machine → Type 0) (aim : Aim) (hs : List Re) (terminator : ℕ) (s : Searched) (of : AreHalvesOf AreOf aim hs terminator) →
    low s ≤ high s → Asks aim.patterns s.anchored → IsCase hs aim.kind of.ahead of.back s.anchored (search_for aim hs terminator s)
case_of AreOf aim hs terminator s of le asks = case_from AreOf aim hs terminator s of (low s) (omega arith) le asks

-- where the shown chunk and the position alone change, the search is the same
pub kept_search : (aim : Aim) (hs : List Re) (terminator : ℕ) (a b : Searched) → Keeps a b → search_for aim hs terminator b ≡ search_for aim hs terminator a
kept_search aim hs terminator a b k = rw (k.content, k.span, k.slice, k.anchored) refl

pub kept_from : (aim : Aim) (hs : List Re) (terminator : ℕ) (a b : Searched) (lo : ℕ) → Keeps a b → search_from aim hs terminator b lo ≡ search_from aim hs terminator a lo
kept_from aim hs terminator a b lo k = ap (λ (q : Search). let r : Search = record q { lo = lo } in r) (kept_search aim hs terminator a b k)

-- from the lower bound on it is the whole search
pub kept_whole : (aim : Aim) (hs : List Re) (terminator : ℕ) (a b : Searched) (lo : ℕ) → Keeps a b → lo ≡ low a → search_from aim hs terminator b lo ≡ search_for aim hs terminator a
kept_whole aim hs terminator a b lo k is = kept_from aim hs terminator a b lo k ∙ ap (search_from aim hs terminator a) is

-- a pattern that is asked for, or is not
pub asks_so : (patterns : ℕ) (anchored given : Anchored) (b : Bool) → (IsTrue b ↔ Asks patterns given) → given ≡ anchored → b ≡ true → Asks patterns anchored
asks_so patterns anchored given b is same so = subst (Asks patterns) same (is.0 so)

pub asks_none : (patterns : ℕ) (anchored given : Anchored) (b : Bool) → (IsTrue b ↔ Asks patterns given) → given ≡ anchored → b ≡ false → ¬ Asks patterns anchored
asks_none patterns anchored given b is same so asks = true≢false (sym (is.1 (subst (Asks patterns) (sym same) asks)) ∙ so)

pub kept_text : (terminator : ℕ) (a b : Searched) → Keeps a b → text_of terminator b ≡ text_of terminator a
kept_text terminator a b k = rw (k.content, k.slice) refl

pub kept_high : (a b : Searched) → Keeps a b → high b ≡ high a
kept_high a b k = rw (k.content, k.span, k.slice) refl

pub kept_low : (a b : Searched) → Keeps a b → low b ≡ low a
kept_low a b k = rw (k.span, k.slice) refl

pub kept_same : (s : Searched) → Keeps s s
kept_same s = record { content = refl; span = refl; slice = refl; anchored = refl; earliest = refl }

pub kept_then : (a b c : Searched) → Keeps a b → Keeps b c → Keeps a c
kept_then a b c k l = record {
  content = l.content ∙ k.content;
  span = l.span ∙ k.span;
  slice = l.slice ∙ k.slice;
  anchored = l.anchored ∙ k.anchored;
  earliest = l.earliest ∙ k.earliest;
}

-- WHAT IS MET

-- how far a run looked is more than how it ended
pub ended_so : (AreOf : Machine → Machine → Type 0) (i : Searched) (anchored : Anchored) (from : ℕ) (earliest may_rest : Bool) (r : Reading) →
    ((m n : Machine) → AreOf m n → IsAsked m anchored → HasEndedBelow m (text_of m.setting.terminator i) (high i) from anchored earliest may_rest r.ended r.read) →
    (m n : Machine) → AreOf m n → IsAsked m anchored → HasEnded m (text_of m.setting.terminator i) (high i) from anchored earliest may_rest r.ended
ended_so AreOf i anchored from earliest may_rest r ended m n of asked =
    has_ended m (text_of m.setting.terminator i) (high i) from anchored earliest may_rest r.ended r.read (ended m n of asked)

pub told_met : (m : Machine) (t : Text) (hi from : ℕ) (anchored : Anchored) (early : Bool) (e : Ended) → HasEnded m t hi from anchored early false e →
    IfOk (told_of e) (HasMet m t hi from anchored early)
told_met m t hi from anchored early (Found None) h = h
told_met m t hi from anchored early (Found (Some met)) h = h
told_met m t hi from anchored early (Idle i) h = absurd (true≢false (sym h.0))
told_met m t hi from anchored early (Quit b p) h = tt
told_met m t hi from anchored early (GaveUp p memory) h = tt

pub told_met_down : (m : Machine) (t : Text) (lo end : ℕ) (anchored : Anchored) (early : Bool) (e : Ended) → HasEndedDown m t lo end anchored early e →
    IfOk (told_of e) (HasMetDown m t lo end anchored early)
told_met_down m t lo end anchored early (Found None) h = h
told_met_down m t lo end anchored early (Found (Some met)) h = h
told_met_down m t lo end anchored early (Idle i) h = absurd h
told_met_down m t lo end anchored early (Quit b p) h = tt
told_met_down m t lo end anchored early (GaveUp p memory) h = tt

-- WHY NOTHING IS TOLD

-- where it was given up, so it was: whether memory was refused is told
abbrev pub IfGivenUp : Ended → (Bool → Type 0) → Type 0
IfGivenUp e G = (memory : Bool) → gave_up e ≡ Some memory → G memory

same_byte : (bytes : List ℕ) (p b c : ℕ) → slice_get bytes p ≡ Some b → slice_get bytes p ≡ Some c → b ≡ c
same_byte bytes p b c e f = cc

may_quit : (hs : List Re) (s : Search) (m : Machine) (IsRead : ℕ → Type 0) (b p : ℕ) → (m.setting.needs.unicode ≡ true → SpeaksOfUnicode hs) →
    (m.setting.needs.unicode ≡ true → IsTrue (speaks_of_unicode s.places)) →
    slice_get s.text.content p ≡ Some b → (s.lo ≤ p + 1) × (p ≤ s.hi) → IsUnread m s.text IsRead p → MayQuit hs s b p
may_quit hs s m IsRead b p speaks placed there near u =
    let byte = u.byte in
    let large = byte.2 in
    let same = same_byte s.text.content p b byte.0 there byte.1 in
    record { unicode = speaks u.unicode; placed = placed u.unicode; large = omega (arith, large, same); there = there; inside = u.inside; near = near }

pub told_fault : (hs : List Re) (aim : Aim) (m n : Machine) (anchored : Anchored) (s : Search) (from : ℕ) (early : Bool) (G : Bool → Type 0) (e : Ended) →
    IsCase hs aim.kind m n anchored s → s.lo ≤ from → from ≤ s.hi → HasEnded m s.text s.hi from anchored early false e → IfGivenUp e G →
    IfErr (told_of e) (IsFault hs s G)
told_fault hs aim m n anchored s from early G (Found met) c low high h full = tt
told_fault hs aim m n anchored s from early G (Idle i) c low high h full = tt
told_fault hs aim m n anchored s from early G (Quit b p) c low high h full =
    let i = c.inside in
    let inside : IsInside s.text from s.hi = record { low = let l = i.low in omega (arith, l, low); high = i.high; bounded = i.bounded } in
    let stops = run_law.stops m s.text s.hi from anchored early p inside high h.1 in
    let near = stops.0 in
    may_quit hs s m (λ y. (from ≤ y + 1) × (y < p)) b p (unread_law.unicode hs aim.kind m n anchored s c)
    (unread_law.placed hs aim.kind m n anchored s c) h.0 (omega (arith, near, low), stops.1) stops.2
told_fault hs aim m n anchored s from early G (GaveUp p memory) c low high h full =
    (let near = h.0 in omega (arith, near, low), h.1, full memory refl)

pub told_fault_down : (hs : List Re) (aim : Aim) (m n : Machine) (anchored : Anchored) (s : Search) (from end : ℕ) (early : Bool) (G : Bool → Type 0) (e : Ended) →
    IsCase hs aim.kind m n anchored s → s.lo ≤ from → from ≤ end → end ≤ s.hi → HasEndedDown n s.text from end anchored early e → IfGivenUp e G →
    IfErr (told_of e) (IsFault hs s G)
told_fault_down hs aim m n anchored s from end early G (Found met) c low ordered high h full = tt
told_fault_down hs aim m n anchored s from end early G (Idle i) c low ordered high h full = tt
told_fault_down hs aim m n anchored s from end early G (Quit b p) c low ordered high h full =
    let i = c.inside in
    let inside : IsInside s.text from s.hi = record { low = let l = i.low in omega (arith, l, low); high = i.high; bounded = i.bounded } in
    let stops = run_law.stops_down n s.text s.hi from end anchored early p inside ordered high h.1 in
    let near = stops.0 in
    let far = stops.1 in
    may_quit hs s n (λ y. (p < y) × (y ≤ end)) b p
    (λ is. unread_law.unicode hs aim.kind m n anchored s c (ap (λ g. g.needs.unicode) (same_setting c) ∙ is))
    (λ is. unread_law.placed hs aim.kind m n anchored s c (ap (λ g. g.needs.unicode) (same_setting c) ∙ is)) h.0
    (omega (arith, near, low), omega (arith, far, high)) stops.2
told_fault_down hs aim m n anchored s from end early G (GaveUp p memory) c low ordered high h full =
    (let near = h.0 in omega (arith, near, low), let far = h.1 in omega (arith, far, high), full memory refl)

pub weaker_fault : (hs : List Re) (s : Search) (G G2 : Bool → Type 0) → ((memory : Bool) → G memory → G2 memory) → (e : error.MatchError) → IsFault hs s G e → IsFault hs s G2 e
weaker_fault hs s G G2 f (errors.Quit b p) h = h
weaker_fault hs s G G2 f (errors.GaveUp p memory) h = (h.0, h.1, f memory h.2)

-- IN CODE

module _ (AreOf : Machine → Machine → Type 0) (aim : Aim) (hs : List Re) (terminator : ℕ) (of : AreHalvesOf AreOf aim hs terminator) (s : Searched) (e : Ended)
    (told : Result (Option Met) error.MatchError) (is_told : told ≡ told_of e) (asks : Asks aim.patterns s.anchored) where
  abbrev Forwards : ℕ → Anchored → Bool → Type 0
  Forwards from anchored early = (m n : Machine) → AreOf m n → IsAsked m anchored → HasEnded m (text_of m.setting.terminator s) (high s) from anchored early false e

  abbrev Backwards : ℕ → ℕ → Anchored → Bool → Type 0
  Backwards from end anchored early = (m n : Machine) → AreOf m n → IsAsked n anchored → HasEndedDown n (text_of n.setting.terminator s) from end anchored early e

  ended : (from : ℕ) (anchored : Anchored) (early : Bool) → anchored ≡ s.anchored → early ≡ is_early aim → Forwards from anchored early →
      HasEnded of.ahead (text_of terminator s) (high s) from s.anchored (is_early aim) false e
  ended from anchored early same is_early h =
      let ms = of.machines in
      let now = subst (Forwards from s.anchored) is_early (subst (λ a. Forwards from a early) same h) of.ahead of.back of.are_of
      (asked_so of.ahead hs aim.patterns s.anchored (ap (λ (m : Machine). m.entries) ms.ahead) of.counted asks) in
      subst (λ x. HasEnded of.ahead (text_of x s) (high s) from s.anchored (Aims.is_early aim) false e) (ap (λ (m : Machine). m.setting.terminator) ms.ahead) now

  ended_down : (from end : ℕ) (anchored : Anchored) (early : Bool) → anchored ≡ s.anchored → early ≡ is_early aim → Backwards from end anchored early →
      HasEndedDown of.back (text_of terminator s) from end s.anchored (is_early aim) e
  ended_down from end anchored early same is_early h =
      let ms = of.machines in
      let now = subst (Backwards from end s.anchored) is_early (subst (λ a. Backwards from end a early) same h) of.ahead of.back of.are_of
      (asked_so of.back hs aim.patterns s.anchored (ap (λ (m : Machine). m.entries) ms.back) of.counted asks) in
      subst (λ x. HasEndedDown of.back (text_of x s) from end s.anchored (Aims.is_early aim) e) (ap (λ (m : Machine). m.setting.terminator) ms.back) now

  pub run_met : (from : ℕ) (anchored : Anchored) (early : Bool) → anchored ≡ s.anchored → early ≡ is_early aim → Forwards from anchored early →
      IfOk told (HasMet of.ahead (text_of terminator s) (high s) from s.anchored (is_early aim))
  run_met from anchored early same is h =
      subst (λ r. IfOk r (HasMet of.ahead (text_of terminator s) (high s) from s.anchored (is_early aim))) (sym is_told)
      (told_met of.ahead (text_of terminator s) (high s) from s.anchored (is_early aim) e (ended from anchored early same is h))

  pub run_fault : (G : Bool → Type 0) (from : ℕ) (anchored : Anchored) (early : Bool) → anchored ≡ s.anchored → early ≡ is_early aim → Forwards from anchored early →
      low s ≤ from → from ≤ high s → IfGivenUp e G → IfErr told (IsFault hs (search_for aim hs terminator s) G)
  run_fault G from anchored early same is h above below full =
      subst (λ r. IfErr r (IsFault hs (search_for aim hs terminator s) G)) (sym is_told)
      (told_fault hs aim of.ahead of.back s.anchored (search_for aim hs terminator s) from (is_early aim) G e
      (case_of AreOf aim hs terminator s of (omega (arith, above, below)) asks) above below (ended from anchored early same is h) full)

  pub run_met_down : (from end : ℕ) (anchored : Anchored) (early : Bool) → anchored ≡ s.anchored → early ≡ is_early aim → Backwards from end anchored early →
      IfOk told (HasMetDown of.back (text_of terminator s) from end s.anchored (is_early aim))
  run_met_down from end anchored early same is h =
      subst (λ r. IfOk r (HasMetDown of.back (text_of terminator s) from end s.anchored (is_early aim))) (sym is_told)
      (told_met_down of.back (text_of terminator s) from end s.anchored (is_early aim) e (ended_down from end anchored early same is h))

  pub run_fault_down : (G : Bool → Type 0) (from end : ℕ) (anchored : Anchored) (early : Bool) → anchored ≡ s.anchored → early ≡ is_early aim →
      Backwards from end anchored early → low s ≤ from → from ≤ end → end ≤ high s → IfGivenUp e G →
      IfErr told (IsFault hs (search_for aim hs terminator s) G)
  run_fault_down G from end anchored early same is h above ordered below full =
      subst (λ r. IfErr r (IsFault hs (search_for aim hs terminator s) G)) (sym is_told)
      (told_fault_down hs aim of.ahead of.back s.anchored (search_for aim hs terminator s) from end (is_early aim) G e
      (case_of AreOf aim hs terminator s of (omega (arith, above, ordered, below)) asks) above ordered below (ended_down from end anchored early same is h) full)
