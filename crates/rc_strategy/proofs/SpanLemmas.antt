-- What is known of matches before any search.
use Rattle.std.proofs.Common.{◌≡◌, ◌∙◌, ℕ, suc, ◌+◌, ◌-◌, ◌<◌, ◌≤◌, ◌⊎◌, inl, inr, ⊎_elim, Bool, true, false, true≢false, ◌&&◌, ◌||◌, List, [], ◌∷◌, ◌++◌, length, take, map, get_or, Option, Some, None, IsTrue, nat_lt, max, ap, ap₂, sym, subst, refl, arith}
use Rattle.std.specs.Prelude.{All}
use Rattle.std.specs.Option.{unwrap_or}
use Rattle.std.proofs.Math.Seq.{take-suc}
use Rattle.std.proofs.lemmas.Bool.{and_parts, ltb-true}
use Rattle.std.proofs.lemmas.List.{map-append, take_all}
use Rattle.std.proofs.lemmas.List.Elements.{All-cons, All-append, All-head, All-tail, All-weaker}
use Rattle.std.proofs.lemmas.Option.{none-some, same_Some}
use Rattle.std.specs.Option.{option_map}
use Rattle.rc_text.specs.Found.{Found, HalfFound, half_of}
use Rattle.rc_text.specs.Plain.{is_anchored}
use Rattle.rc_text.specs.Text.{Searched, low, high, slice_end}
use Rattle.rc_text.specs.declared.types.Anchored.{Anchored}
use Rattle.rc_text.specs.declared.types.Anchored.TheVariants.{No, Yes, Pattern}
use Rattle.rc_text.specs.declared.types.MatchKind.{MatchKind}
use Rattle.rc_text.specs.declared.types.MatchKind.TheVariants.{All as all_matches, LeftmostFirst as leftmost_first, LeftmostLongest as leftmost_longest}
use Rattle.rc_text.proofs.Ranges.{length-slice_range}
use Rattle.rc_pattern.specs.Re.{Re}
use Rattle.rc_pattern.specs.Properties.{both, minimum_len, maximum_len, begins_with_look, ends_with_look}
use Rattle.rc_pattern.specs.Meaning.{meaning}
use Rattle.rc_pattern.specs.WellFormed.{HasBounds}
use Rattle.rc_pattern.specs.declared.hir.Hir.{Hir}
use Rattle.rc_pattern.specs.declared.hir.Look.TheVariants.{Start, End}
use Rattle.rc_reach.specs.Laws.{greatest_len}
use Rattle.rc_program.specs.Looks.{side_after, side_before, is_edge}
use Rattle.rc_program.specs.Text.{Text, holds, behind, beyond}
use Rattle.rc_program.specs.Program.{Place, place_at, program, shown}
use Rattle.rc_program.specs.Spells.{SpelledBy}
use Rattle.rc_program.specs.Answer.{Search, IsStart}
use Rattle.rc_program.specs.Answer as answers
use Rattle.rc_program.specs.Greatest.{IsSpelledIn, HasNoSpan}
use Rattle.rc_program.specs.Kinds.{answer_by}
use Rattle.rc_program.specs.Sought.{anchoring_of, search_over}
use Rattle.rc_program.proofs.AnswerLemmas.{answer_law, match_place_is, walk_ends}
use Rattle.rc_program.proofs.KindLemmas.{kind_spelled}
use Rattle.rc_program.proofs.ReachLemmas.{longest_law}
use Rattle.rc_program.proofs.GreatestLemmas.{greatest_law, no_span_no_answer, spelled_within}
use Rattle.rc_program.proofs.GroupLemmas.{group_law}
use Rattle.rc_program.proofs.PropertyLemmas.{property_law}
use Rattle.rc_program.specs.Places.{places_of}
use Rattle.rc_pikevm_search.specs.Engine.{engine_search}
use Rattle.rc_pikevm_search.specs.declared.engine.Engine.{Engine}
use Rattle.rc_dfa_search.specs.Reverse.{EndsAtBound}
use Rattle.rc_strategy.specs.Lengths.{KeepsTo, Bounds, BoundsWalks, IsOneLength, either, begin_early, end_late, are_longer, are_shorter, must_fill, leave_none}
use Rattle.rc_strategy.specs.declared.lengths.Lengths.{Lengths}

-- WHERE IT COMES FROM

-- its properties bound a pattern
pub bounds_own : (h : Re) (k : Lengths) (o : Option ℕ) → o ≡ minimum_len h → k.least ≡ unwrap_or o 18446744073709551615 → k.greatest ≡ maximum_len h →
    k.begins ≡ begins_with_look h Start → k.ends ≡ ends_with_look h End → Bounds k h
bounds_own h k o is least greatest begins ends t i j spelled =
    let r = property_law.least t h i j spelled in
    let n : k.least ≡ r.0 = least ∙ ap (λ (q : Option ℕ). unwrap_or q 18446744073709551615) (is ∙ r.1) in
    let long = r.2 in
    record {
      least = omega (arith, n, long);
      greatest = λ n e. property_law.greatest t h i j n spelled (sym greatest ∙ e);
      begins = λ e. property_law.begins t h i j Start spelled (sym begins ∙ e);
      ends = λ e. property_law.ends t h i j End spelled (sym ends ∙ e);
    }

most_left : (o p : Option ℕ) (i j n : ℕ) → ((m : ℕ) → o ≡ Some m → j ≤ i + m) → both (λ m n. Some (max m n)) o p ≡ Some n → j ≤ i + n
most_left None p i j n h e = absurd (none-some n e)
most_left (Some a) None i j n h e = absurd (none-some n e)
most_left (Some a) (Some b) i j n h e = let l = h a refl in let f = same_Some (max a b) n e in omega (arith, l, f)

most_right : (o p : Option ℕ) (i j n : ℕ) → ((m : ℕ) → p ≡ Some m → j ≤ i + m) → both (λ m n. Some (max m n)) o p ≡ Some n → j ≤ i + n
most_right None p i j n h e = absurd (none-some n e)
most_right (Some a) None i j n h e = absurd (none-some n e)
most_right (Some a) (Some b) i j n h e = let l = h b refl in let f = same_Some (max a b) n e in omega (arith, l, f)

either_left : (a b : Lengths) (h : Re) → Bounds a h → Bounds (either a b) h
either_left a b h keep t i j spelled =
    let k = keep t i j spelled in let l = k.least in
    record {
      least = omega (arith, l);
      greatest = λ n e. most_left a.greatest b.greatest i j n k.greatest e;
      begins = λ e. k.begins (and_parts a.begins b.begins e).0;
      ends = λ e. k.ends (and_parts a.ends b.ends e).0;
    }

either_right : (a b : Lengths) (h : Re) → Bounds b h → Bounds (either a b) h
either_right a b h keep t i j spelled =
    let k = keep t i j spelled in let l = k.least in
    record {
      least = omega (arith, l);
      greatest = λ n e. most_right a.greatest b.greatest i j n k.greatest e;
      begins = λ e. k.begins (and_parts a.begins b.begins e).1;
      ends = λ e. k.ends (and_parts a.ends b.ends e).1;
    }

-- one more pattern is bound
-- one pattern more
longer : (hs : List Hir) (i : ℕ) (d : Hir) → i < length hs → map meaning (take (i + 1) hs) ≡ map meaning (take i hs) ++ meaning (get_or hs i d) ∷ []
longer hs i d inside =
    let one_more : i + 1 ≡ suc i = omega arith in
    ap (λ n. map meaning (take n hs)) one_more ∙ ap (map meaning) (take-suc hs i d inside) ∙ map-append meaning (take i hs) (get_or hs i d ∷ [])

pub bounds_more : (a b k : Lengths) (hs : List Hir) (i : ℕ) (d : Hir) → i < length hs → k ≡ either a b → Bounds b (meaning (get_or hs i d)) →
    All (Bounds a) (map meaning (take i hs)) → All (Bounds k) (map meaning (take (i + 1) hs))
bounds_more a b k hs i d inside is here all =
    subst (λ x. All (Bounds x) (map meaning (take (i + 1) hs))) (sym is)
    (subst (All (Bounds (either a b))) (sym (longer hs i d inside))
    (All-append (Bounds (either a b)) (map meaning (take i hs)) (meaning (get_or hs i d) ∷ [])
    (All-weaker (Bounds a) (Bounds (either a b)) (either_left a b) (map meaning (take i hs)) all)
    (All-cons (Bounds (either a b)) (meaning (get_or hs i d)) [] (either_right a b (meaning (get_or hs i d)) here) (λ k e l. absurd (omega (arith, l))))))

pub bounds_all : (k : Lengths) (hs : List Hir) (i : ℕ) → length hs ≤ i → All (Bounds k) (map meaning (take i hs)) → All (Bounds k) (map meaning hs)
bounds_all k hs i done all = subst (λ xs. All (Bounds k) (map meaning xs)) (take_all i hs done) all

-- the greatest length of the patterns, the last one counted in last
abbrev greater : Option ℕ → Option ℕ → Option ℕ
greater = both (λ m n. Some (max m n))

greater_again : (a b c : Option ℕ) → greater a (greater b c) ≡ greater (greater a b) c
greater_again None b c = refl
greater_again (Some k) None c = refl
greater_again (Some k) (Some l) None = refl
greater_again (Some k) (Some l) (Some m) = ap Some (omega arith)

one_greater : (o : Option ℕ) → greater o (Some 0) ≡ greater (Some 0) o
one_greater None = refl
one_greater (Some k) = ap Some (omega arith)

greatest_after : (hs : List Re) (h : Re) → greatest_len (hs ++ h ∷ []) ≡ greater (greatest_len hs) (maximum_len h)
greatest_after [] h = one_greater (maximum_len h)
greatest_after (r ∷ hs) h = ap (greater (maximum_len r)) (greatest_after hs h) ∙ greater_again (maximum_len r) (greatest_len hs) (maximum_len h)

pub greatest_more : (a b k : Lengths) (hs : List Hir) (i : ℕ) (d : Hir) → i < length hs → k ≡ either a b → b.greatest ≡ maximum_len (meaning (get_or hs i d)) →
    a.greatest ≡ greatest_len (map meaning (take i hs)) → k.greatest ≡ greatest_len (map meaning (take (i + 1) hs))
greatest_more a b k hs i d inside is own before =
    ap (λ (x : Lengths). x.greatest) is ∙ ap₂ greater before own
    ∙ sym (ap greatest_len (longer hs i d inside) ∙ greatest_after (map meaning (take i hs)) (meaning (get_or hs i d)))

pub greatest_all : (k : Lengths) (hs : List Hir) (i : ℕ) → length hs ≤ i → k.greatest ≡ greatest_len (map meaning (take i hs)) →
    k.greatest ≡ greatest_len (map meaning hs)
greatest_all k hs i done all = all ∙ ap (λ xs. greatest_len (map meaning xs)) (take_all i hs done)

-- a pattern of the list spells it
spelled_keeps : (k : Lengths) (t : Text) (n : ℕ) (hs : List Re) (p i j : ℕ) → All (Bounds k) hs → SpelledBy t n hs p i j → KeepsTo k t i j
spelled_keeps k t n [] p i j all h = absurd h
spelled_keeps k t n (r ∷ hs) p i j all (inl own) = All-head (Bounds k) r hs all t i j own.1
spelled_keeps k t n (r ∷ hs) p i j all (inr later) = spelled_keeps k t (n + 1) hs p i j (All-tail (Bounds k) r hs all) later

-- the walks of their program spell what the patterns spell
pub bounds_walks : (k : Lengths) (grouped : Bool) (hs : List Re) (places : List Place) → All HasBounds (shown grouped hs) → places ≡ program (shown grouped hs) → All (Bounds k) hs →
    BoundsWalks k places
bounds_walks k grouped hs places bounded same all s m here h =
    let r = (greatest_law.by_program (shown grouped hs) s m bounded (here ∙ same)).0 h in
    spelled_keeps k s.text 0 hs m.pattern m.start m.end all ((group_law.shown_spells s.text grouped 0 hs m.pattern m.start m.end).0 r.3)

-- WHAT IT LEAVES

edge_before : (bytes : List ℕ) → is_edge (side_before bytes) ≡ true → length bytes ≡ 0
edge_before [] e = refl
edge_before (b ∷ bs) e = absurd (true≢false (sym e))

edge_after : (bytes : List ℕ) → is_edge (side_after bytes) ≡ true → length bytes ≡ 0
edge_after [] e = refl
edge_after (b ∷ bs) e = absurd (true≢false (sym e))

-- where the start assertion holds, the slice starts
pub starts_at : (t : Text) (i : ℕ) → i ≤ length t.content → IsTrue (holds t Start i) → i ≤ t.slice_start
starts_at t i within h =
    let none = edge_before (behind t i) h in let long = length-slice_range t.content t.slice_start i within in omega (arith, none, long)

ends_at : (t : Text) (j : ℕ) → t.slice_end ≤ length t.content → IsTrue (holds t End j) → t.slice_end ≤ j
ends_at t j within h =
    let none = edge_after (beyond t j) h in let long = length-slice_range t.content j t.slice_end within in omega (arith, none, long)

or_parts : (a b : Bool) → (a || b) ≡ true → (a ≡ true) ⊎ (b ≡ true)
or_parts true b e = inl refl
or_parts false b e = inr e

shorter_so : (k : Lengths) (n : ℕ) → are_shorter k n ≡ true → (m : ℕ) × (k.greatest ≡ Some m) × (m < n)
shorter_so k n e = go k.greatest refl e
  where
    go : (o : Option ℕ) → k.greatest ≡ o → are_shorter (record k { greatest = o }) n ≡ true → (m : ℕ) × (k.greatest ≡ Some m) × (m < n)
    go None same f = absurd (true≢false (sym f))
    go (Some m) same f = (m, same, ltb-true m n f)

anchors : (a : Anchored) → is_anchored a ≡ true → IsTrue (answers.is_anchored (anchoring_of a))
anchors No e = e
anchors Yes e = e
anchors (Pattern p) e = e

module _ (k : Lengths) (places : List Place) (terminator : ℕ) (over : Bool) (s : Searched) (bound : BoundsWalks k places) where
  abbrev S : Search
  S = search_over places terminator over s

  -- what is known of a span that is spelled
  record Known (m : Found) : Type 0 where
    lower : low s ≤ m.start
    ordered : m.start ≤ m.end
    upper : m.end ≤ high s
    keeps : KeepsTo k S.text m.start m.end
    only : IsTrue (answers.is_anchored S.anchoring) → m.start ≡ low s

  known : (m : Found) → IsSpelledIn S m → Known m
  known m h =
      let w = spelled_within S m h in
      record { lower = w.0; ordered = w.1; upper = w.2; keeps = bound S m refl h; only = h.is_start.2 }

  begins_at : (m : Found) → Known m → k.begins ≡ true → m.start ≤ s.slice.start
  begins_at m n e =
      let above = n.upper in let up = n.ordered in
      let within : high s ≤ length s.content = omega arith in
      starts_at S.text m.start (omega (arith, above, up, within)) (n.keeps.begins e)

  finishes_at : (m : Found) → Known m → k.ends ≡ true → slice_end s ≤ m.end
  finishes_at m n e = ends_at S.text m.end (omega arith) (n.keeps.ends e)

  no_early : begin_early k s ≡ true → HasNoSpan S
  no_early e m h =
      let n = known m h in
      let p = and_parts k.begins (nat_lt s.slice.start (low s)) e in
      let b = begins_at m n p.0 in let l = n.lower in let late = ltb-true s.slice.start (low s) p.1 in
      omega (arith, b, l, late)

  no_late : end_late k s ≡ true → HasNoSpan S
  no_late e m h =
      let n = known m h in
      let p = and_parts k.ends (nat_lt (high s) (slice_end s)) e in
      let f = finishes_at m n p.0 in let u = n.upper in let early = ltb-true (high s) (slice_end s) p.1 in
      omega (arith, f, u, early)

  no_position : nat_lt (high s) (low s) ≡ true → HasNoSpan S
  no_position e m h =
      let n = known m h in
      let l = n.lower in let u = n.upper in let o = n.ordered in let past = ltb-true (high s) (low s) e in omega (arith, l, u, o, past)

  no_longer : are_longer k (high s - low s) ≡ true → HasNoSpan S
  no_longer e m h =
      let n = known m h in
      let l = n.lower in let u = n.upper in let least = n.keeps.least in let short = ltb-true (high s - low s) k.least e in
      omega (arith, l, u, least, short)

  begins_low : (m : Found) → Known m → (k.begins || is_anchored s.anchored) ≡ true → m.start ≤ low s
  begins_low m n e =
      ⊎_elim
      (λ b. let at = begins_at m n b in omega (arith, at))
      (λ a. let at = n.only (anchors s.anchored a) in omega (arith, at))
      (or_parts k.begins (is_anchored s.anchored) e)

  no_shorter : (must_fill k s && are_shorter k (high s - low s)) ≡ true → HasNoSpan S
  no_shorter e m h =
      let n = known m h in
      let p = and_parts (must_fill k s) (are_shorter k (high s - low s)) e in
      let q = and_parts k.ends (k.begins || is_anchored s.anchored) p.0 in
      let b = begins_low m n q.1 in
      let f = finishes_at m n q.0 in
      let g = shorter_so k (high s - low s) p.1 in
      let most : m.end ≤ m.start + g.0 = n.keeps.greatest g.0 g.1 in
      let less = g.2 in
      let last : high s ≤ slice_end s = omega arith in
      omega (arith, b, f, most, less, last)

  pub none_left : leave_none k s ≡ true → HasNoSpan S
  none_left e =
      ⊎_elim no_early
      (λ r. ⊎_elim
      (λ t. ⊎_elim no_position no_late (or_parts (nat_lt (high s) (low s)) (end_late k s) t))
      (λ u. ⊎_elim no_longer no_shorter (or_parts (are_longer k (high s - low s)) (must_fill k s && are_shorter k (high s - low s)) u))
      (or_parts (nat_lt (high s) (low s) || end_late k s) (are_longer k (high s - low s) || (must_fill k s && are_shorter k (high s - low s))) r))
      (or_parts (begin_early k s)
      ((nat_lt (high s) (low s) || end_late k s) || (are_longer k (high s - low s) || (must_fill k s && are_shorter k (high s - low s)))) e)

  -- where each begins with the slice, each begins at the lower bound
  pub begins_at_bound : k.begins ≡ true → (m : Found) → IsSpelledIn S m → m.start ≡ low s
  begins_at_bound e m h =
      let n = known m h in
      let b = begins_at m n e in let l = n.lower in
      omega (arith, b, l)

  -- where each ends with the slice, each ends at the upper bound
  pub ends_at_bound : k.ends ≡ true → EndsAtBound S
  ends_at_bound e m h =
      let n = known m h in
      let f = finishes_at m n e in let u = n.upper in
      let last : high s ≤ slice_end s = omega arith in
      omega (arith, f, u, last)

  -- where each is of one length, the start is known by the end
  pub by_length : (n : ℕ) → IsOneLength k n → (m : Found) → IsSpelledIn S m → (low s ≤ m.end - n) × (m.end - n ≤ m.end) × (m.end - n ≡ m.start)
  by_length n one m h =
      let a = known m h in
      let l = a.lower in let least = a.keeps.least in let most = a.keeps.greatest n one.1 in let is = one.0 in
      let start : m.end - n ≡ m.start = omega (arith, least, most, is) in (omega (arith, l, start), omega arith, start)

-- where nothing is spelled no start has a walk
no_walk_here : (s : Search) → HasNoSpan s → (y : ℕ) → IsStart s y → answers.HasNoWalkFrom s y
no_walk_here s none y start w h =
    none (answers.found s (record { start = y; walk = w })) (record {
      is_start = start;
      walk = w;
      is_walk = h;
      pattern = match_place_is (answers.only s.anchoring) (place_at s.places (answers.last_of w).0)
          (walk_ends (answers.next_of s) (λ n. IsTrue (answers.ends s n)) h);
      position = refl;
    })

-- where nothing is spelled there is no match of any kind
pub no_match : (kind : MatchKind) (s : Search) → HasNoSpan s → None ≡ answer_by kind s
no_match all_matches s none = sym ((greatest_law.none s).1 none)
no_match leftmost_longest s none = sym ((longest_law.answer_none s).1 (λ y h. inl (no_walk_here s none y h)))
no_match leftmost_first s none = sym ((answer_law.answer_none s).1 (no_span_no_answer s none))

-- so it is with an engine's search
pub early_none : (e : Engine) (k : Lengths) (s : Searched) (b : Bool) → BoundsWalks k (places_of e.program.places.items) → b ≡ leave_none k s → b ≡ true →
    None ≡ answer_by e.kind (engine_search e s)
early_none e k s b bound is so =
    no_match e.kind (engine_search e s)
    (none_left k (places_of e.program.places.items) e.program.terminator e.program.passes_over s bound (sym is ∙ so))

-- the match whose end is told, where each is of one length
abbrev pub of_length : ℕ → HalfFound → Found
of_length n h = record { pattern = h.pattern; start = h.offset - n; end = h.offset }

pub length_told : (e : Engine) (k : Lengths) (s : Searched) (n : ℕ) → BoundsWalks k (places_of e.program.places.items) → IsOneLength k n → (h : HalfFound) →
    Some h ≡ option_map half_of (answer_by e.kind (engine_search e s)) →
    (Some (of_length n h) ≡ answer_by e.kind (engine_search e s)) × (low s ≤ h.offset - n) × (h.offset - n ≤ h.offset)
length_told e k s n bound one h told = go (answer_by e.kind (engine_search e s)) refl told
  where
    go : (o : Option Found) → answer_by e.kind (engine_search e s) ≡ o → Some h ≡ option_map half_of (answer_by e.kind (engine_search e s)) →
        (Some (of_length n h) ≡ answer_by e.kind (engine_search e s)) × (low s ≤ h.offset - n) × (h.offset - n ≤ h.offset)
    go None is t = absurd (none-some h (sym (t ∙ ap (option_map half_of) is)))
    go (Some m) is t =
        let half : h ≡ half_of m = same_Some h (half_of m) (t ∙ ap (option_map half_of) is) in
        let b = by_length k (places_of e.program.places.items) e.program.terminator e.program.passes_over s bound n one m (kind_spelled e.kind (engine_search e s) m is) in
        subst (λ (x : HalfFound). (Some (of_length n x) ≡ answer_by e.kind (engine_search e s)) × (low s ≤ x.offset - n) × (x.offset - n ≤ x.offset)) (sym half)
        (ap (λ x. let f : Found = record { pattern = m.pattern; start = x; end = m.end } in Some f) b.2 ∙ sym is, b.0, b.1)
