-- Only proofs use this file.
-- Lines that are all selected, or none of which is, where a test looks at the place of a line too.
use Rattle.std.proofs.Common.{ℕ, zero, suc, ◌≡◌, ◌<◌, ◌≤◌, ◌+◌, ◌-◌, ◌∙◌, ◌++◌, ◌∷◌, [], ◌&&◌, ◌⊎◌, inl, inr, Bool, false, true, List, Option, Some, None, IfSome, ap, ap₂, append_assoc, arith, cond, refl, sym, subst, length, nat_lt, take, drop, get_or, length-append, length-take-le}
use Rattle.std.specs.Prelude.{min, nat_le, slice_get}
use Rattle.std.specs.List.{filter, list_any, slice_range}
use Rattle.std.specs.Io.KnownBytes.{Consumes, Keeps}
use Rattle.std.proofs.Math.Seq.{drop-append_seam, take-append_seam}
use Rattle.std.proofs.Math.Nat.{le-max_right, min-eq_left, min-eq_right}
use Rattle.std.proofs.lemmas.Bool.{cases_lt, le-leb, lt-leb, lt-ltb}
use Rattle.std.proofs.lemmas.Option.{same_Some, slice_get-get_or}
use Rattle.std.proofs.lemmas.List.{take-append-drop}
use Rattle.std.proofs.lemmas.List.Elements.{filter-append}
use Rattle.rc_text.specs.declared.types.Span.{Span}
use Rattle.rc_text.proofs.Ranges.{length-slice_range}
use Rattle.grep_lines.specs.Ahead.{Stands, ahead, left_unread}
use Rattle.grep_lines.specs.Blocks.{AdvancesBy, AreAlike, IsBlockAt, IsUntaken, LeavesUnread, TakesLinesAt, marked_as, selected_in}
use Rattle.grep_lines.specs.Context.{Marked, Part, Prints, is_selected, marked}
use Rattle.grep_lines.specs.Lines.{AreLinesOf, lines}
use Rattle.grep_lines.specs.Pages.{AreLinesBefore, IsWhole}
use Rattle.grep_lines.specs.Touched.{are_from, behind, is_touched, left_at}
use Rattle.grep_lines.specs.declared.block.Block.{Block}
use Rattle.grep_lines.specs.declared.context.Extent.{Extent}
use Rattle.grep_lines.specs.declared.context.Progress.{Progress}
use Rattle.grep_lines.proofs.AdvanceLemmas.{selected_of}
use Rattle.grep_lines.proofs.ContextLemmas.{marked_none, prints_both}
use Rattle.grep_lines.proofs.LineLemmas.{parts}
use Rattle.grep_lines.proofs.PageLemmas.{Behind, behind as first_behind, line_stands, lines_append, whole_line}
use Rattle.grep_lines.proofs.PartLemmas.{size_of, whole_size}
use Rattle.grep_lines.proofs.ReadLemmas.{keeps_known, leaves_block, unread_on}
use Rattle.grep_lines.proofs.TouchedLemmas.{first_tells, left_again, left_touch}

-- ---- the lines of a page before a position

module _ (stop : ℕ) (picks : ℕ → List ℕ → Bool) (b : Bool) (page : List ℕ) (limit place : ℕ)
    (alike : (start end : ℕ) → start ≤ end → end < limit → AreLinesOf stop page start end → picks (place + start) (slice_range page start end) ≡ b) where
  line_alike : (front line rest : List ℕ) → IsWhole stop front → page ≡ front ++ (line ++ stop ∷ rest) → length front + length line < limit →
      picks (place + length front) line ≡ b
  line_alike front line rest w e near =
      let at = length front in
      let sized : at + length line - at ≡ length line = omega arith in
      let piece : slice_range page at (at + length line) ≡ line =
      ap (λ p. slice_range p at (at + length line)) e ∙ ap (λ n. take n (drop at (front ++ (line ++ stop ∷ rest)))) sized
      ∙ ap (take (length line)) (drop-append_seam front (line ++ stop ∷ rest)) ∙ take-append_seam line (stop ∷ rest) in
      subst (λ l. picks (place + at) l ≡ b) piece (alike at (at + length line) (omega arith) near (line_stands stop page front line rest w e))

  all_alike : (n : ℕ) (front xs tail : List ℕ) → length xs ≤ n → IsWhole stop front → IsWhole stop xs → page ≡ front ++ (xs ++ tail) → length front + length xs ≤ limit →
      AreAlike picks b (place + length front) (lines stop xs)
  all_alike n front [] tail short v w e fits = tt
  all_alike zero front (x ∷ xs) tail short v w e fits = absurd (omega (arith, short))
  all_alike (suc n) front (x ∷ xs) tail short v w e fits =
      let found = first_behind stop x xs w (parts stop (x ∷ xs)) in
      let line = found.0 in
      let rest = found.1 in
      let is : Behind stop (x ∷ xs) line rest = found.2 in
      let sized : length (x ∷ xs) ≡ length line + suc (length rest) = ap length is.split ∙ length-append line (stop ∷ rest) in
      let joined : page ≡ front ++ (line ++ stop ∷ (rest ++ tail)) =
      e ∙ ap (λ ys. front ++ (ys ++ tail)) is.split ∙ ap (λ ys. front ++ ys) (append_assoc line (stop ∷ rest) tail) in
      let later : page ≡ (front ++ (line ++ stop ∷ [])) ++ (rest ++ tail) =
      joined ∙ ap (λ ys. front ++ ys) (sym (append_assoc line (stop ∷ []) (rest ++ tail))) ∙ sym (append_assoc front (line ++ stop ∷ []) (rest ++ tail)) in
      let far : length (front ++ (line ++ stop ∷ [])) ≡ length front + (length line + 1) =
      length-append front (line ++ stop ∷ []) ∙ ap (λ k. length front + k) (length-append line (stop ∷ [])) in
      let again = all_alike n (front ++ (line ++ stop ∷ [])) rest tail (omega (arith, sized, short)) (whole_line stop front line) is.ended later (omega (arith, sized, far, fits)) in
      let first = line_alike front line (rest ++ tail) v joined (omega (arith, sized, fits)) in
      let next : place + length (front ++ (line ++ stop ∷ [])) ≡ place + length front + length line + 1 = omega (arith, far) in
      subst (AreAlike picks b (place + length front)) (sym is.first) (first, subst (λ k. AreAlike picks b k (lines stop rest)) next again)

  pub page_alike : (end count : ℕ) → AreLinesBefore stop page limit end count → end ≤ length page → AreAlike picks b place (lines stop (take end page))
  page_alike end count are within =
      let shown = take end page in
      subst (λ k. AreAlike picks b k (lines stop shown)) (omega arith)
      (all_alike (length shown) [] shown (drop end page) (omega arith) (λ k e. absurd (omega (arith, e))) are.whole (sym (take-append-drop end page))
      (omega (arith, length-take-le end page within, are.within)))

-- ---- what spans tell of lines

pub line_told : (place start end : ℕ) (s : Span) (spans : List Span) (page : List ℕ) (b : Bool) → slice_get spans 0 ≡ Some s → are_from 0 spans ≡ true → start ≤ end →
    end ≤ length page → place + start < behind s → nat_le s.start (place + end) ≡ b → is_touched spans (place + start) (slice_range page start end) ≡ b
line_told place start end s spans page b is ordered order within near e =
    first_tells (place + start) (slice_range page start end) s spans is ordered (subst (λ o. IfSome o (λ s. place + start < behind s)) (sym is) near)
    ∙ ap (nat_le s.start) (omega (arith, length-slice_range page start end within, order)) ∙ e

begins_before : (s : Span) → s.start < behind s
begins_before s = omega (arith, le-max_right s.end (s.start + 1))

-- lines that end before a span begins
pub none_touched : (place limit start end stop : ℕ) (s : Span) (spans : List Span) (page : List ℕ) → slice_get spans 0 ≡ Some s → are_from 0 spans ≡ true → limit ≤ s.start - place →
    limit ≤ length page → start ≤ end → end < limit → is_touched spans (place + start) (slice_range page start end) ≡ false
none_touched place limit start end stop s spans page is ordered far within order near =
    line_told place start end s spans page false is ordered order (omega (arith, within, near)) (omega (arith, begins_before s, far, order, near))
    (lt-leb s.start (place + end) (omega (arith, far, near)))

-- lines that begin no further than the last byte of a span, which begins before them
pub all_touched : (place limit last start end stop : ℕ) (s : Span) (spans : List Span) (page : List ℕ) → slice_get spans 0 ≡ Some s → are_from 0 spans ≡ true → s.start ≤ place →
    place + last < behind s → ((k : ℕ) → last ≤ k → k + 1 < limit → get_or page k 0 ≡ stop → ⊥) → limit ≤ length page → start ≤ end → end < limit →
    AreLinesOf stop page start end → is_touched spans (place + start) (slice_range page start end) ≡ true
all_touched place limit last start end stop s spans page is ordered before behind_it free within order near lines_of =
    line_told place start end s spans page true is ordered order (omega (arith, within, near)) (omega (arith, first (cases_lt last start), behind_it))
    (le-leb s.start (place + end) (omega (arith, before)))
  where
    first : (last < start) ⊎ (start ≤ last) → start ≤ last
    first (inr le) = le
    first (inl lt) =
        let k = start - 1 in
        let one : k + 1 ≡ start = omega (arith, lt) in
        absurd
        (free k (omega (arith, lt)) (omega (arith, one, order, near))
        (same_Some (get_or page k 0) stop (sym (slice_get-get_or page k 0 (omega (arith, one, order, near, within))) ∙ lines_of.before k one)))

pub none_of_min : (a b : ℕ) → min a b ≡ 0 → 0 < b → a ≡ 0
none_of_min a b none some = by (cases_lt b a)
  where
    by : (b < a) ⊎ (a ≤ b) → a ≡ 0
    by (inl lt) = absurd (omega (arith, some, sym (min-eq_right (omega (arith, lt))) ∙ none))
    by (inr le) = sym (min-eq_left le) ∙ none

-- those that are left tell the same
pub left_tell : (place p : ℕ) (line : List ℕ) (spans left : List Span) → place ≤ p → left ≡ left_at place spans → is_touched left p line ≡ is_touched spans p line
left_tell place p line spans left le is =
    sym (left_touch p line left) ∙ ap (λ l. is_touched (left_at p l) p line) is ∙ ap (λ l. is_touched l p line) (left_again place p spans le) ∙ left_touch p line spans

-- ---- lines that are marked alike

module _ (picks : ℕ → List ℕ → Bool) where
  passes : (b : Bool) (l : List ℕ) (most n place : ℕ) → picks place l ≡ b → cond b (suc n) 0 ≤ most → (picks place l && nat_lt 0 most) ≡ b
  passes true l most n place e fits = ap (λ c. c && nat_lt 0 most) e ∙ lt-ltb 0 most (omega (arith, fits))
  passes false l most n place e fits = ap (λ c. c && nat_lt 0 most) e

  marked_alike : (b : Bool) (most place : ℕ) (ls more : List (List ℕ)) → AreAlike picks b place ls → cond b (length ls) 0 ≤ most →
      marked picks most place (ls ++ more) ≡ marked_as b ls ++ marked picks (most - cond b (length ls) 0) (place + size_of ls) more
  unfolding size_of
  marked_alike b most place [] more alike fits = ap₂ (λ m p. marked picks m p more) (none b) (omega arith)
    where
      none : (b : Bool) → most ≡ most - cond b 0 0
      none true = omega arith
      none false = omega arith
  marked_alike b most place (l ∷ ls) more alike fits =
      let is : (picks place l && nat_lt 0 most) ≡ b = passes b l most (length ls) place alike.0 fits in
      ap (λ (c : Bool). record { line = l; selected = c } ∷ marked picks (cond c (most - 1) most) (place + length l + 1) (ls ++ more)) is
      ∙ ap (λ (ms : List Marked). record { line = l; selected = b } ∷ ms)
      (marked_alike b (cond b (most - 1) most) (place + length l + 1) ls more alike.1 (fewer b fits)
      ∙ ap₂ (λ m p. marked_as b ls ++ marked picks m p more) (left b) (omega arith))
    where
      fewer : (b : Bool) → cond b (suc (length ls)) 0 ≤ most → cond b (length ls) 0 ≤ cond b (most - 1) most
      fewer true h = omega (arith, h)
      fewer false h = omega arith

      left : (b : Bool) → cond b (most - 1) most - cond b (length ls) 0 ≡ most - cond b (suc (length ls)) 0
      left true = omega arith
      left false = omega arith

module _ (stop : ℕ) (e : Extent) (picks : ℕ → List ℕ → Bool) where
  -- a block of a page was taken
  pub takes_block : (p q : Progress) (a b : Option (List Part)) (count place : ℕ) (k : Block) (old new : Option (List ℕ)) → IsBlockAt stop picks place k →
      selected_in k ≤ e.most - count → AdvancesBy e p q a b (marked_as k.is_selected (lines stop k.text.now)) → Consumes old new k.text.now →
      count < e.most → (k.is_selected ≡ true → 0 < k.count → q.left ≡ e.after) →
      IfSome old (λ text. TakesLinesAt stop e picks p q a b count (selected_in k) place (length k.text.now) text new)
  takes_block p q a b count place k None new is fits told moved few left = tt
  takes_block p q a b count place k (Some text) None is fits told moved few left = absurd moved
  takes_block p q a b count place k (Some text) (Some rest) is fits told moved few left =
      let front = k.text.now in
      let ls = lines stop front in
      let size : selected_in k ≡ cond k.is_selected (length ls) 0 = ap (λ n. cond k.is_selected n 0) is.counted in
      record {
        rest = rest;
        known = refl;
        ms = marked_as k.is_selected ls;
        split =
            ap (λ zs. marked picks (e.most - count) place (lines stop zs)) moved
            ∙ ap (marked picks (e.most - count) place) (lines_append stop front rest is.whole)
            ∙ marked_alike picks k.is_selected (e.most - count) place ls (lines stop rest) is.alike (subst (λ n. n ≤ e.most - count) size fits)
            ∙ ap₂ (λ m p. marked_as k.is_selected ls ++ marked picks m p (lines stop rest)) (omega (arith, size)) (ap (λ n. place + n) (sym (whole_size stop front is.whole)));
        counted = selected_of k.is_selected ls ∙ sym size;
        told = told;
        unread =
            subst (λ n. LeavesUnread e p q (count + n) (marked_as k.is_selected ls)) (sym size)
            (leaves_block e p q count k.is_selected ls few (λ selected some. left selected (omega (arith, some, is.counted))));
      }

  module _ (p q : Progress) (a b : Option (List Part)) (count more place len : ℕ) where
    goes_on : (old : Option (List Part)) (mid left : Option (List ℕ)) (text : List ℕ) → Stands stop e picks p old a mid count place text →
        IfSome mid (λ rest. TakesLinesAt stop e picks p q a b count more place len rest left) → Stands stop e picks q old b left (count + more) (place + len) text
    goes_on old mid left text s t =
        let taken : TakesLinesAt stop e picks p q a b count more place len s.rest left =
        subst (λ o. IfSome o (λ rest. TakesLinesAt stop e picks p q a b count more place len rest left)) s.known t in
        let ms = marked picks (e.most - (count + more)) (place + len) (lines stop taken.rest) in
        record {
          rest = taken.rest;
          known = taken.known;
          parts = s.parts ++ taken.told.0;
          told = prints_both old a b s.parts taken.told.0 s.told taken.told.1;
          all =
              s.all ∙ ap (λ ns. s.parts ++ ahead e p ns) taken.split ∙ ap (λ ps. s.parts ++ ps) (taken.told.2 ms) ∙ sym (append_assoc s.parts taken.told.0 (ahead e q ms));
          counted =
              s.counted
              ∙ ap (λ ns. count + length (filter is_selected ns)) taken.split
              ∙ ap (λ ns. count + length ns) (filter-append is_selected taken.ms ms)
              ∙ ap (λ n. count + n) (length-append (filter is_selected taken.ms) (filter is_selected ms) ∙ ap (λ n. n + length (filter is_selected ms)) taken.counted)
              ∙ omega arith;
          unread =
              unread_on e p q (marked picks e.most 0 (lines stop text)) taken.ms (marked picks (e.most - count) place (lines stop s.rest)) ms count (count + more)
              taken.split (ap (λ n. count + n) taken.counted) taken.unread
              (λ enough. ap (λ k. list_any is_selected (marked picks k (place + len) (lines stop taken.rest))) (omega (arith, enough))
              ∙ marked_none picks (place + len) (lines stop taken.rest))
              s.unread;
        }

    -- what was printed goes on with what is to be printed behind the lines
    pub stands_behind : (old : Option (List Part)) (input mid left : Option (List ℕ)) → IfSome input (Stands stop e picks p old a mid count place) →
        IfSome mid (λ rest. TakesLinesAt stop e picks p q a b count more place len rest left) → IfSome input (Stands stop e picks q old b left (count + more) (place + len))
    stands_behind old None mid left s t = tt
    stands_behind old (Some text) mid left s t = goes_on old mid left text s t

-- nothing was taken
pub stands_still : (stop : ℕ) (e : Extent) (picks : ℕ → List ℕ → Bool) (p q : Progress) (old now new : Option (List Part)) (count place : ℕ) (input mid left : Option (List ℕ)) →
    IfSome input (Stands stop e picks p old now mid count place) → IsUntaken p q now new → Keeps mid left → IfSome input (Stands stop e picks q old new left count place)
stands_still stop e picks p q old now new count place None mid left s same kept = tt
stands_still stop e picks p q old now new count place (Some text) mid left s same kept =
    let ms = marked picks (e.most - count) place (lines stop s.rest) in
    record {
      rest = s.rest;
      known = keeps_known mid left s.rest s.known kept;
      parts = s.parts;
      told = subst (λ o. Prints old o s.parts) (sym same.unprinted) s.told;
      all = s.all ∙ ap (λ x. s.parts ++ ahead e x ms) (sym same.same);
      counted = s.counted;
      unread = λ when. s.unread when ∙ ap (λ (x : Progress). left_unread e x.left ms) (sym same.same);
    }
