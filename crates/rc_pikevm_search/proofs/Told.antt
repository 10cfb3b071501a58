-- What captures hold once the slots of a search stand in them.
use Rattle.std.proofs.Common.{◌≡◌, ◌∙◌, ◌+◌, ◌*◌, ◌<◌, ℕ, List, length, map, Option, Some, None, MatchOption, ⊎_elim, ap, sym, subst, arith, slice_index_or, slice_set, replicate, get_or-set_same, get_or-set_other, length-set, eq-eqb, ne_eqb}
use Rattle.std.specs.Prelude.{slice_get}
use Rattle.std.proofs.lemmas.Bool.{cases_eq}
use Rattle.std.proofs.lemmas.List.{length-replicate, get_or-replicate}
use Rattle.std.specs.List.{range_with_len}
use Rattle.std.specs.Option.{option_map}
use Rattle.std.proofs.lemmas.Option.{same_Some, none-some, slice_get-get_or}
use Rattle.std.proofs.lemmas.List.FromFn.{get_or-map-range_with_len, length-map-range_with_len}
use Rattle.rc_text.specs.Found.{Found}
use Rattle.rc_text.specs.declared.types.MatchKind.{MatchKind}
use Rattle.rc_text.specs.declared.types.MatchKind.TheVariants.{All as all_matches, LeftmostFirst as leftmost_first, LeftmostLongest as leftmost_longest}
use Rattle.rc_captures.specs.Captures.{captures_pattern, captures_slots}
use Rattle.rc_captures.specs.declared.captures.Captures.{Captures}
use Rattle.rc_program.specs.Answer.{Search, Chosen, chosen, answer, groups, found, slot_of, slots_of}
use Rattle.rc_program.specs.Greatest.{greatest}
use Rattle.rc_program.specs.Longest.{longest, longest_chosen, longest_groups}
use Rattle.rc_program.specs.Kinds.{answer_by}
use Rattle.rc_pikevm.specs.KindSlots.{slots_by, span_slots}
use Rattle.rc_pikevm_search.specs.Tells.{Tells, TellsOf, TellsSpan, TellsBy, span_slot}

slot_there : (f : ℕ → Option ℕ) (n k : ℕ) → k < n → slice_get (map f (range_with_len 0 n)) k ≡ Some (f k)
slot_there f n k l =
    slice_get-get_or (map f (range_with_len 0 n)) k None (omega (arith, length-map-range_with_len f 0 n))
    ∙ ap (λ x. Some x) (get_or-map-range_with_len f 0 n k k None l (omega arith))

tells_of : (s : Search) (o : Option Chosen) (caps : Captures) (p : Option ℕ) (before after : List (Option ℕ)) (n : ℕ) →
    p ≡ option_map (λ (m : Found). m.pattern) (option_map (found s) o) →
    MatchOption p (after ≡ before) (λ _. Some after ≡ option_map (slots_of s n) o) →
    captures_pattern caps ≡ p → captures_slots caps ≡ after → n ≡ length after → TellsOf s o caps
tells_of s None caps p before after n q m c w l = c ∙ q
tells_of s (Some x) caps None before after n q m c w l = absurd (none-some _ q)
tells_of s (Some x) caps (Some y) before after n q m c w l =
    let slots = same_Some after (slots_of s n x) m in
    record {
      pattern = c ∙ q;
      kept = λ k below _. ap (λ xs. slice_get xs k) (w ∙ slots) ∙ slot_there (slot_of s x) n k (omega (arith, l, below, ap length w));
    }

-- they hold the match of the search
pub tells : (s : Search) (caps : Captures) (p : Option ℕ) (before after : List (Option ℕ)) →
    p ≡ option_map (λ (m : Found). m.pattern) (answer s) →
    MatchOption p (after ≡ before) (λ _. Some after ≡ groups s (length before)) →
    captures_pattern caps ≡ p → captures_slots caps ≡ after → length after ≡ length before → Tells s caps
unfolding answer groups
tells s caps p before after q m c w l = tells_of s (chosen s) caps p before after (length before) q m c w (sym l)

-- they hold the longest match of the search
tells_longest : (s : Search) (caps : Captures) (p : Option ℕ) (before after : List (Option ℕ)) →
    p ≡ option_map (λ (m : Found). m.pattern) (longest s) →
    MatchOption p (after ≡ before) (λ _. Some after ≡ longest_groups s (length before)) →
    captures_pattern caps ≡ p → captures_slots caps ≡ after → length after ≡ length before → TellsOf s (longest_chosen s) caps
unfolding longest longest_groups
tells_longest s caps p before after q m c w l = tells_of s (longest_chosen s) caps p before after (length before) q m c w (sym l)

-- what stands in the slots of a match of which the whole alone is told
span_at : (m : Found) (n k : ℕ) → k < n → slice_index_or (span_slots n m) k None ≡ span_slot m k
span_at m n k l =
    let empty : List (Option ℕ) = replicate n None in
    let first = slice_set empty (2 * m.pattern) (Some m.start) in
    let wide : length empty ≡ n = length-replicate n None in
    let as_wide : length first ≡ length empty = length-set empty (2 * m.pattern) (Some m.start) in
    ⊎_elim
    (λ eq. rw (eq-eqb k (2 * m.pattern) eq)
    (get_or-set_other first (2 * m.pattern + 1) k (Some m.end) None (λ q. absurd (omega (arith, eq, q)))
    ∙ subst (λ x. slice_index_or first x None ≡ Some m.start) (sym eq) (get_or-set_same empty (2 * m.pattern) (Some m.start) None (omega (arith, eq, l, wide)))))
    (λ ne. rw (ne_eqb k (2 * m.pattern) ne) (⊎_elim
    (λ eq. rw (eq-eqb k (2 * m.pattern + 1) eq)
    (subst (λ x. slice_index_or (span_slots n m) x None ≡ Some m.end) (sym eq)
    (get_or-set_same first (2 * m.pattern + 1) (Some m.end) None (omega (arith, eq, l, wide, as_wide)))))
    (λ nf. rw (ne_eqb k (2 * m.pattern + 1) nf)
    (get_or-set_other first (2 * m.pattern + 1) k (Some m.end) None nf
    ∙ get_or-set_other empty (2 * m.pattern) k (Some m.start) None ne ∙ get_or-replicate n k None None l))
    (cases_eq k (2 * m.pattern + 1))))
    (cases_eq k (2 * m.pattern))

span_there : (m : Found) (n k : ℕ) → k < n → slice_get (span_slots n m) k ≡ Some (span_slot m k)
span_there m n k l =
    slice_get-get_or (span_slots n m) k None (omega (arith, l, length-span m n)) ∙ ap (λ x. Some x) (span_at m n k l)
  where
    length-span : (m : Found) (n : ℕ) → length (span_slots n m) ≡ n
    length-span m n =
        length-set (slice_set (replicate n None) (2 * m.pattern) (Some m.start)) (2 * m.pattern + 1) (Some m.end)
        ∙ length-set (replicate n None) (2 * m.pattern) (Some m.start) ∙ length-replicate n None

tells_span : (o : Option Found) (caps : Captures) (p : Option ℕ) (before after : List (Option ℕ)) (n : ℕ) →
    p ≡ option_map (λ (m : Found). m.pattern) o →
    MatchOption p (after ≡ before) (λ _. Some after ≡ option_map (span_slots n) o) →
    captures_pattern caps ≡ p → captures_slots caps ≡ after → n ≡ length after → TellsSpan o caps
tells_span None caps p before after n q s c w l = c ∙ q
tells_span (Some m) caps None before after n q s c w l = absurd (none-some _ q)
tells_span (Some m) caps (Some y) before after n q s c w l =
    let slots = same_Some after (span_slots n m) s in
    record {
      pattern = c ∙ q;
      kept = λ k below _. ap (λ xs. slice_get xs k) (w ∙ slots) ∙ span_there m n k (omega (arith, l, below, ap length w));
    }

-- they hold the match of a kind
pub tells_by : (kind : MatchKind) (s : Search) (caps : Captures) (p : Option ℕ) (before after : List (Option ℕ)) →
    p ≡ option_map (λ (m : Found). m.pattern) (answer_by kind s) →
    MatchOption p (after ≡ before) (λ _. Some after ≡ slots_by kind s (length before)) →
    captures_pattern caps ≡ p → captures_slots caps ≡ after → length after ≡ length before → TellsBy kind s caps
tells_by leftmost_first s caps p before after q m c w l = tells s caps p before after q m c w l
tells_by leftmost_longest s caps p before after q m c w l = tells_longest s caps p before after q m c w l
tells_by all_matches s caps p before after q m c w l = tells_span (greatest s) caps p before after (length before) q m c w (sym l)
