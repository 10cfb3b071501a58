-- Only proofs use this file.
-- What is printed of whole lines that are all selected, or none of which is.
use Rattle.std.proofs.Common.{ℕ, suc, ◌≡◌, ◌<◌, ◌≤◌, ◌+◌, ◌-◌, ◌∙◌, ◌++◌, ◌∷◌, [], ◌&&◌, ◌⊎◌, Bool, false, true, List, Option, Some, None, IfSome, not, ap, ap₂, append_assoc, arith, cond, eq-eqb, refl, sym, subst, length, length-append, map, nat_lt, take, drop, get_or, get_or-drop, get_or-take, inl, inr, length-drop, length-take-le}
use Rattle.std.specs.List.{filter, list_any}
use Rattle.std.specs.Io.KnownBytes.{Consumes}
use Rattle.std.specs.Prelude.{Vec}
use Rattle.std.specs.declared.alloc.Global.{Global}
use Rattle.std.proofs.lemmas.Bool.{cases_lt, lt-ltb}
use Rattle.std.proofs.lemmas.List.{append-nil, drop-drop, get_or-append-add, take-append-drop, take_at, take_more}
use Rattle.std.proofs.lemmas.List.Elements.{filter-append}
use Rattle.grep_lines.specs.Ahead.{Advances, Flushes, IsSound, Stands, ahead, ahead_of, contents, plain}
use Rattle.grep_lines.specs.Blocks.{AdvancesBy, IsAtEnd, IsBlock, IsPrinting, IsTaking, TakesFront, TakesLines, is_unlike, marked_as, selected_in}
use Rattle.grep_lines.specs.Context.{HasLeft, IfRead, Marked, Part, Prints, gap, is_selected, line_of, marked, printed, selected_count, selected_parts, separator, size_of as bytes_of, unread}
use Rattle.grep_lines.specs.Lines.{lines}
use Rattle.grep_lines.specs.Pages.{IsWhole}
use Rattle.grep_lines.specs.Selected.{TakesLine}
use Rattle.grep_lines.specs.declared.block.Block.{Block}
use Rattle.grep_lines.specs.declared.context.Extent.{Extent}
use Rattle.grep_lines.specs.declared.context.PrintError.{PrintError}
use Rattle.grep_lines.specs.declared.context.PrintError.TheVariants.{Print, Read}
use Rattle.grep_lines.specs.declared.context.Progress.{Progress}
use Rattle.grep_lines.proofs.ContextLemmas.{ahead_selected, ahead_skipped, contents_length, marked_anywhere, marked_none, prints_both, prints_none}
use Rattle.grep_lines.proofs.LineLemmas.{HasNo, lines_cut}
use Rattle.grep_lines.proofs.PageLemmas.{lines_append, some_lines}
use Rattle.grep_lines.proofs.ReadLemmas.{leaves_block, leaves_both, leaves_line, left_none, unread_on}
use Rattle.grep_lines.proofs.StandsLemmas.{told_at_end}
use Rattle.grep_lines.proofs.PartLemmas.{size_of, whole_size}

-- ---- step by step

pub advances_none : (e : Extent) (p : Progress) (o : Option (List Part)) → AdvancesBy e p p o o []
advances_none e p o = ([], prints_none o, λ rest. refl)

pub advances_both : (e : Extent) (p q r : Progress) (a b c : Option (List Part)) (ms ns : List Marked) → AdvancesBy e p q a b ms → AdvancesBy e q r b c ns →
    AdvancesBy e p r a c (ms ++ ns)
advances_both e p q r a b c ms ns x y = (
  x.0 ++ y.0,
  prints_both a b c x.0 y.0 x.1 y.1,
  λ rest.
      ap (ahead e p) (append_assoc ms ns rest) ∙ x.2 (ns ++ rest) ∙ ap (λ ps. x.0 ++ ps) (y.2 rest) ∙ sym (append_assoc x.0 y.0 (ahead e r rest)),
)

-- ---- lines that are marked alike

none_kept : (p : List ℕ → Bool) (l : List ℕ) (ls : List (List ℕ)) → filter p (l ∷ ls) ≡ [] → (p l ≡ false) × (filter p ls ≡ [])
none_kept p l ls = at (p l)
  where
    at : (c : Bool) → cond c (l ∷ filter p ls) (filter p ls) ≡ [] → (c ≡ false) × (filter p ls ≡ [])
    at true e = absurd (omega (arith, ap length e))
    at false e = (refl, e)

unlike_not : (b c : Bool) → cond b (not c) c ≡ false → c ≡ b
unlike_not true true e = refl
unlike_not true false e = sym e
unlike_not false c e = e

module _ (picks : List ℕ → Bool) where
  passes : (b : Bool) (l : List ℕ) (most n : ℕ) → picks l ≡ b → cond b (suc n) 0 ≤ most → (picks l && nat_lt 0 most) ≡ b
  passes true l most n e fits = ap (λ c. c && nat_lt 0 most) e ∙ lt-ltb 0 most (omega (arith, fits))
  passes false l most n e fits = ap (λ c. c && nat_lt 0 most) e

  pub marked_block : (b : Bool) (most : ℕ) (ls more : List (List ℕ)) → filter (is_unlike b picks) ls ≡ [] → cond b (length ls) 0 ≤ most →
      marked (λ _. picks) most 0 (ls ++ more) ≡ marked_as b ls ++ marked (λ _. picks) (most - cond b (length ls) 0) 0 more
  marked_block b most [] more none fits = ap (λ n. marked (λ _. picks) n 0 more) (at b)
    where
      at : (b : Bool) → most ≡ most - cond b 0 0
      at true = omega arith
      at false = omega arith
  marked_block b most (l ∷ ls) more none fits =
      let parts = none_kept (is_unlike b picks) l ls none in
      let same : picks l ≡ b = unlike_not b (picks l) parts.0 in
      let is : (picks l && nat_lt 0 most) ≡ b = passes b l most (length ls) same fits in
      ap (λ (c : Bool). record { line = l; selected = c } ∷ marked (λ _. picks) (cond c (most - 1) most) (0 + length l + 1) (ls ++ more)) is
      ∙ ap (λ (ms : List Marked). record { line = l; selected = b } ∷ ms)
      (marked_anywhere picks (cond b (most - 1) most) (0 + length l + 1) 0 (ls ++ more)
      ∙ marked_block b (cond b (most - 1) most) ls more parts.1 (fewer b fits)
      ∙ ap (λ n. marked_as b ls ++ marked (λ _. picks) n 0 more) (left b))
    where
      fewer : (b : Bool) → cond b (suc (length ls)) 0 ≤ most → cond b (length ls) 0 ≤ cond b (most - 1) most
      fewer true h = omega (arith, h)
      fewer false h = omega arith

      left : (b : Bool) → cond b (most - 1) most - cond b (length ls) 0 ≡ most - cond b (suc (length ls)) 0
      left true = omega arith
      left false = omega arith

pub selected_of : (b : Bool) (ls : List (List ℕ)) → length (filter is_selected (marked_as b ls)) ≡ cond b (length ls) 0
selected_of true [] = refl
selected_of false [] = refl
selected_of true (l ∷ ls) = ap suc (selected_of true ls)
selected_of false (l ∷ ls) = selected_of false ls

-- ---- what is to be printed yet, behind them

module _ (e : Extent) where
  gap_none : (n : ℕ) → gap (Some n) n ≡ []
  gap_none n = ap (λ b. cond b [] (separator ∷ [])) (eq-eqb n n refl)

  -- selected lines are printed, one behind another
  ahead_chosen : (behind : Option ℕ) (left n p : ℕ) (l : List ℕ) (ls : List (List ℕ)) (rest : List Marked) →
      ahead_of e behind left n p [] (marked_as true (l ∷ ls) ++ rest)
      ≡ (gap behind n ++ selected_parts n p (l ∷ ls)) ++ ahead_of e (Some (n + length (l ∷ ls))) e.after (n + length (l ∷ ls)) (p + size_of (l ∷ ls)) [] rest
  unfolding size_of
  ahead_chosen behind left n p l [] rest =
      ahead_selected e behind left n p l rest
      ∙ ap (λ (q : ℕ). (gap behind n ++ selected_parts n p (l ∷ [])) ++ ahead_of e (Some (n + 1)) e.after (n + 1) q [] rest) (omega arith)
  ahead_chosen behind left n p l (k ∷ ls) rest =
      let put : List Part = line_of (record { number = n; place = p; selected = true; line = l }) ∷ [] in
      let more = selected_parts (n + 1) (p + length l + 1) (k ∷ ls) in
      let size = length (k ∷ ls) in
      let last : ℕ → ℕ → List Part = λ i j. ahead_of e (Some i) e.after i j [] rest in
      ahead_selected e behind left n p l (marked_as true (k ∷ ls) ++ rest)
      ∙ ap (λ ps. (gap behind n ++ put) ++ ps)
      (ahead_chosen (Some (n + 1)) e.after (n + 1) (p + length l + 1) k ls rest
      ∙ ap (λ ps. (ps ++ more) ++ last (n + 1 + size) (p + length l + 1 + size_of (k ∷ ls))) (gap_none (n + 1))
      ∙ ap₂ (λ i j. more ++ last i j) (omega arith) (omega arith))
      ∙ sym (append_assoc (gap behind n ++ put) more (last (n + suc size) (p + size_of (l ∷ k ∷ ls))))
      ∙ ap (λ ps. ps ++ last (n + suc size) (p + size_of (l ∷ k ∷ ls))) (append_assoc (gap behind n) put more)

  pub ahead_block : (behind : Option ℕ) (left n p : ℕ) (stop : ℕ) (text : List ℕ) (rest : List Marked) → 0 < length (lines stop text) → IsWhole stop text →
      ahead_of e behind left n p [] (marked_as true (lines stop text) ++ rest)
      ≡ (gap behind n ++ selected_parts n p (lines stop text))
      ++ ahead_of e (Some (n + length (lines stop text))) e.after (n + length (lines stop text)) (p + length text) [] rest
  ahead_block behind left n p stop text rest some w =
      at (lines stop text) some
      ∙ ap (λ k. (gap behind n ++ selected_parts n p (lines stop text)) ++ ahead_of e (Some (n + length (lines stop text))) e.after (n + length (lines stop text)) (p + k) [] rest)
      (sym (whole_size stop text w))
    where
      at : (ls : List (List ℕ)) → 0 < length ls →
          ahead_of e behind left n p [] (marked_as true ls ++ rest)
          ≡ (gap behind n ++ selected_parts n p ls) ++ ahead_of e (Some (n + length ls)) e.after (n + length ls) (p + size_of ls) [] rest
      at [] none = absurd (omega (arith, none))
      at (l ∷ ls) more = ahead_chosen behind left n p l ls rest

-- ---- the first line of whole ones

pub whole_drop : (stop n : ℕ) (xs : List ℕ) → IsWhole stop xs → IsWhole stop (drop n xs)
whole_drop stop n xs w k e = get_or-drop n xs k 0 ∙ w (n + k) (omega (arith, e, length-drop n xs))

pub first_cut : (stop : ℕ) (xs : List ℕ) (end : ℕ) → end < length xs → HasNo stop (take end xs) → get_or xs end 0 ≡ stop →
    lines stop xs ≡ take end xs ∷ lines stop (drop (end + 1) xs)
first_cut stop xs end within free is =
    ap (lines stop)
    (sym (take-append-drop (end + 1) xs) ∙ ap (λ ys. ys ++ drop (end + 1) xs) (take_more xs end 0 within ∙ ap (λ x. take end xs ++ x ∷ []) is)
    ∙ append_assoc (take end xs) (stop ∷ []) (drop (end + 1) xs))
    ∙ lines_cut stop (take end xs) (drop (end + 1) xs) free

-- a line ends where the next one begins
pub line_back : (stop : ℕ) (text : List ℕ) (end from : ℕ) → end ≤ length text → 0 < end → IsWhole stop (take end text) → from < end →
    ((k : ℕ) → from ≤ k → k < end - 1 → get_or text k 0 ≡ stop → ⊥) → length (lines stop (drop from text)) ≡ length (lines stop (drop end text)) + 1
line_back stop text end from within some w order none =
    let xs = drop from text in
    let n = end - 1 - from in
    let size : length xs ≡ length text - from = length-drop from text in
    let near : n < length xs = omega (arith, size, order, within) in
    let sized : length (take n xs) ≡ n = length-take-le n xs (omega (arith, near)) in
    let ended : get_or text (end - 1) 0 ≡ stop =
    sym (get_or-take end text (end - 1) 0 (omega (arith, some))) ∙ w (end - 1) (omega (arith, some, length-take-le end text within)) in
    let free : HasNo stop (take n xs) = λ k lt e.
    none (from + k) (omega arith) (omega (arith, lt, sized)) (sym (get_or-drop from text k 0) ∙ sym (get_or-take n xs k 0 (omega (arith, lt, sized))) ∙ e) in
    let is : get_or xs n 0 ≡ stop = get_or-drop from text n 0 ∙ ap (λ k. get_or text k 0) (omega (arith, order)) ∙ ended in
    let next : drop (n + 1) xs ≡ drop end text = drop-drop (n + 1) from text ∙ ap (λ k. drop k text) (omega (arith, order)) in
    ap length (first_cut stop xs n near free is ∙ ap (λ ys. take n xs ∷ lines stop ys) next) ∙ omega arith

-- where lines are left, some bytes are
pub some_before : (stop : ℕ) (text : List ℕ) (end count most : ℕ) → length (lines stop (drop end text)) ≡ count → count < most → most ≤ length (lines stop text) → 0 < end
some_before stop text end count most counted few many =
    elim (cases_lt 0 end) [
      | inl some ↦ some
      | inr none ↦
          let empty : end ≡ 0 = omega (arith, none) in
          absurd (omega (arith, few, many, subst (λ n. length (lines stop (drop n text)) ≡ count) empty counted))
    ]

-- where no line ends there is none
pub whole_none : (stop : ℕ) (xs : List ℕ) → IsWhole stop xs → ((k : ℕ) → k < length xs → get_or xs k 0 ≡ stop → ⊥) → xs ≡ []
whole_none stop [] w free = refl
whole_none stop (x ∷ xs) w free = absurd (free (length xs) (omega arith) (w (length xs) (omega arith)))

-- some lines have some bytes
pub some_bytes : (stop : ℕ) (xs : List ℕ) → 0 < length (lines stop xs) → 0 < length xs
some_bytes stop [] some = some
some_bytes stop (x ∷ xs) some = omega arith

-- ---- the lines of a page's front

module _ (stop : ℕ) (e : Extent) (picks : List ℕ → Bool) where
  pub front_of : (p q : Progress) (a b : Option (List Part)) (count : ℕ) (selected : Bool) (front : List ℕ) → IsWhole stop front →
      filter (is_unlike selected picks) (lines stop front) ≡ [] → cond selected (length (lines stop front)) 0 ≤ e.most - count →
      AdvancesBy e p q a b (marked_as selected (lines stop front)) → count < e.most → (selected ≡ true → 0 < length (lines stop front) → q.left ≡ e.after) →
      TakesFront stop e picks p q a b count (cond selected (length (lines stop front)) 0) front
  front_of p q a b count selected front w alike fits told few left = record {
    whole = w;
    ms = marked_as selected (lines stop front);
    split = λ rest.
        ap (marked (λ _. picks) (e.most - count) 0) (lines_append stop front rest w)
        ∙ marked_block picks selected (e.most - count) (lines stop front) (lines stop rest) alike fits
        ∙ ap (λ n. marked_as selected (lines stop front) ++ marked (λ _. picks) n 0 (lines stop rest)) (omega arith);
    counted = selected_of selected (lines stop front);
    told = told;
    unread = leaves_block e p q count selected (lines stop front) few left;
  }

  whole_both : (xs ys : List ℕ) → IsWhole stop xs → IsWhole stop ys → IsWhole stop (xs ++ ys)
  whole_both xs [] v w k last = subst (IsWhole stop) (sym (append-nil xs)) v k last
  whole_both xs (y ∷ ys) v w k last =
      let size = length-append xs (y ∷ ys) in
      ap (λ n. get_or (xs ++ y ∷ ys) n 0) (omega (arith, size, last)) ∙ get_or-append-add xs (y ∷ ys) (length ys) 0 ∙ w (length ys) (omega arith)

  pub front_both : (p q r : Progress) (a b c : Option (List Part)) (count m n : ℕ) (xs ys : List ℕ) → TakesFront stop e picks p q a b count m xs →
      TakesFront stop e picks q r b c (count + m) n ys → (count + (m + n) ≡ e.most → 0 < n) → TakesFront stop e picks p r a c count (m + n) (xs ++ ys)
  front_both p q r a b c count m n xs ys x y some = record {
    whole = whole_both xs ys x.whole y.whole;
    ms = x.ms ++ y.ms;
    split = λ rest.
        ap (λ zs. marked (λ _. picks) (e.most - count) 0 (lines stop zs)) (append_assoc xs ys rest) ∙ x.split (ys ++ rest)
        ∙ ap (λ ns. x.ms ++ ns) (y.split rest) ∙ sym (append_assoc x.ms y.ms (marked (λ _. picks) (e.most - (count + m + n)) 0 (lines stop rest)))
        ∙ ap (λ k. (x.ms ++ y.ms) ++ marked (λ _. picks) (e.most - k) 0 (lines stop rest)) (omega arith);
    counted = ap length (filter-append is_selected x.ms y.ms) ∙ length-append (filter is_selected x.ms) (filter is_selected y.ms) ∙ ap₂ ◌+◌ x.counted y.counted;
    told = advances_both e p q r a b c x.ms y.ms x.told y.told;
    unread = leaves_both e p q r (count + (m + n)) n x.ms y.ms some y.counted (λ enough. y.unread (omega (arith, enough)));
  }

  module _ (p q : Progress) (a b : Option (List Part)) (count more : ℕ) where
    pub lines_of : (old new : Option (List ℕ)) (front : List ℕ) → TakesFront stop e picks p q a b count more front → Consumes old new front →
        IfSome old (λ text. TakesLines stop e picks p q a b count more text new)
    lines_of None new front x moved = tt
    lines_of (Some text) None front x moved = absurd moved
    lines_of (Some text) (Some rest) front x moved = record {
      rest = rest;
      known = refl;
      ms = x.ms;
      split = ap (λ zs. marked (λ _. picks) (e.most - count) 0 (lines stop zs)) moved ∙ x.split rest;
      counted = x.counted;
      told = x.told;
      unread = x.unread;
    }

    -- what was printed goes on with what is to be printed behind the lines
    goes_on : (old : Option (List Part)) (mid left : Option (List ℕ)) (text : List ℕ) → Stands stop e (λ _. picks) p old a mid count 0 text →
        IfSome mid (λ rest. TakesLines stop e picks p q a b count more rest left) → Stands stop e (λ _. picks) q old b left (count + more) 0 text
    goes_on old mid left text s t =
        let taken : TakesLines stop e picks p q a b count more s.rest left = subst (λ o. IfSome o (λ rest. TakesLines stop e picks p q a b count more rest left)) s.known t in
        let ms = marked (λ _. picks) (e.most - (count + more)) 0 (lines stop taken.rest) in
        record {
          rest = taken.rest;
          known = taken.known;
          parts = s.parts ++ taken.told.0;
          told = prints_both old a b s.parts taken.told.0 s.told taken.told.1;
          all =
              s.all ∙ ap (λ ns. s.parts ++ ahead e p ns) taken.split ∙ ap (λ ps. s.parts ++ ps) (taken.told.2 ms) ∙ sym (append_assoc s.parts taken.told.0 (ahead e q ms));
          counted =
              s.counted
              ∙ ap (λ ns. count + length (filter is_selected ns)) taken.split
              ∙ ap (λ ns. count + length ns) (filter-append is_selected taken.ms ms)
              ∙ ap (λ n. count + n) (length-append (filter is_selected taken.ms) (filter is_selected ms) ∙ ap (λ n. n + length (filter is_selected ms)) taken.counted)
              ∙ omega arith;
          unread =
              unread_on e p q (marked (λ _. picks) e.most 0 (lines stop text)) taken.ms (marked (λ _. picks) (e.most - count) 0 (lines stop s.rest)) ms count (count + more)
              taken.split (ap (λ n. count + n) taken.counted) taken.unread
              (λ enough. ap (λ k. list_any is_selected (marked (λ _. picks) k 0 (lines stop taken.rest))) (omega (arith, enough))
              ∙ marked_none (λ _. picks) 0 (lines stop taken.rest))
              s.unread;
        }

    pub stands_on : (old : Option (List Part)) (input mid left : Option (List ℕ)) → IfSome input (Stands stop e (λ _. picks) p old a mid count 0) →
        IfSome mid (λ rest. TakesLines stop e picks p q a b count more rest left) → IfSome input (Stands stop e (λ _. picks) q old b left (count + more) 0)
    stands_on old None mid left s t = tt
    stands_on old (Some text) mid left s t = goes_on old mid left text s t

-- ---- from one step to the next

size_plain : (ls : List (List ℕ)) → size_of ls ≡ bytes_of (map plain ls)
unfolding size_of
size_plain [] = refl
size_plain (l ∷ ls) = ap (λ n. length l + 1 + n) (size_plain ls)

marked_append : (b : Bool) (ls ks : List (List ℕ)) → marked_as b (ls ++ ks) ≡ marked_as b ls ++ marked_as b ks
marked_append b [] ks = refl
marked_append b (l ∷ ls) ks = ap (λ (ms : List Marked). record { line = l; selected = b } ∷ ms) (marked_append b ls ks)

module _ (e : Extent) where
  -- the last lines were kept, and the others passed over
  pub advances_kept : (p q : Progress) (stop : ℕ) (text : List ℕ) (end : ℕ) (o : Option (List Part)) → p.left ≡ 0 → q.left ≡ p.left → q.behind ≡ p.behind →
      IsWhole stop (take end text) → e.before ≤ length (lines stop (drop end text)) → q.next ≡ p.next + length p.kept.items + length (lines stop (take end text)) →
      q.place ≡ p.place + bytes_of (map plain (contents p.kept.items)) + length (take end text) → contents q.kept.items ≡ lines stop (drop end text) →
      AdvancesBy e p q o o (marked_as false (lines stop text))
  advances_kept p q stop text end o idle left behind w few next place kept = (
    [],
    prints_none o,
    λ rest.
        let front = take end text in
        let back = drop end text in
        let ls = lines stop front in
        let ks = lines stop back in
        let split : lines stop text ≡ ls ++ ks = ap (lines stop) (sym (take-append-drop end text)) ∙ lines_append stop front back w in
        let size : length front ≡ bytes_of (map plain ls) = whole_size stop front w ∙ size_plain ls in
        ap (λ xs. ahead e p (marked_as false xs ++ rest)) split
        ∙ ap (λ ms. ahead e p (ms ++ rest)) (marked_append false ls ks)
        ∙ ap (ahead e p) (append_assoc (marked_as false ls) (marked_as false ks) rest)
        ∙ ap (λ n. ahead_of e p.behind n p.next p.place (contents p.kept.items) (map plain ls ++ (map plain ks ++ rest))) idle
        ∙ ahead_skipped e p.behind p.next p.place (contents p.kept.items) ls ks rest few
        ∙ ap₂ (λ i j. ahead_of e p.behind 0 i j ks rest) (omega (arith, next, contents_length p.kept.items)) (omega (arith, place, size))
        ∙ ap₂ (λ b n. ahead_of e b n q.next q.place ks rest) (sym behind) (sym (left ∙ idle))
        ∙ ap (λ xs. ahead_of e q.behind q.left q.next q.place xs rest) (sym kept),
  )

  -- selected lines were printed
  pub advances_printed : (p : Progress) (count : ℕ) (stop : ℕ) (text : List ℕ) (a b : Option (List Part)) → p.kept.items ≡ [] → 0 < count → IsWhole stop text →
      count ≡ length (lines stop text) → Prints a b (gap p.behind p.next ++ selected_parts p.next p.place (lines stop text)) →
      AdvancesBy e p (record p { next = p.next + count; place = p.place + length text; behind = Some (p.next + count); left = e.after }) a b (marked_as true (lines stop text))
  advances_printed p count stop text a b kept some w is told =
      let put = gap p.behind p.next ++ selected_parts p.next p.place (lines stop text) in (
        put,
        told,
        λ rest.
            ap (λ (vs : List (Vec ℕ Global)). ahead_of e p.behind p.left p.next p.place (contents vs) (marked_as true (lines stop text) ++ rest)) kept
            ∙ ahead_block e p.behind p.left p.next p.place stop text rest (omega (arith, some, is)) w
            ∙ ap (λ n. put ++ ahead_of e (Some (p.next + n)) e.after (p.next + n) (p.place + length text) [] rest) (sym is)
            ∙ sym (ap (λ (vs : List (Vec ℕ Global)). put ++ ahead_of e (Some (p.next + count)) e.after (p.next + count) (p.place + length text) (contents vs) rest) kept),
      )

  -- and the kept lines before them
  pub advances_flushed : (p q r : Progress) (a b c : Option (List Part)) (ls : List (List ℕ)) → 0 < length ls → Flushes e p q a b →
      AdvancesBy e q r b c (marked_as true ls) → AdvancesBy e p r a c (marked_as true ls)
  advances_flushed p q r a b c [] none f x = absurd (omega (arith, none))
  advances_flushed p q r a b c (l ∷ ls) some f x = (
    f.0 ++ x.0,
    prints_both a b c f.0 x.0 f.1 x.1,
    λ rest.
        f.2 (record { line = l; selected = true }) (marked_as true ls ++ rest) refl ∙ ap (λ ps. f.0 ++ ps) (x.2 rest) ∙ sym (append_assoc f.0 x.0 (ahead e r rest)),
  )

  module _ (stop : ℕ) (p q : Progress) (a b : Option (List Part)) (text left : List ℕ) where
    -- a line more was taken
    pub taking_more : (r : Progress) (c : Option (List Part)) (end : ℕ) → IsTaking stop e p q a b text left → end < length left → HasNo stop (take end left) →
        get_or left end 0 ≡ stop → Advances e q r b c (plain (take end left)) → IsTaking stop e p r a c text (drop (end + 1) left)
    taking_more r c end t within free is told =
        let line = take end left in
        let rest = drop (end + 1) left in
        record {
          firsts = t.firsts ++ line ∷ [];
          split = t.split ∙ ap (λ ls. t.firsts ++ ls) (first_cut stop left end within free is) ∙ sym (append_assoc t.firsts (line ∷ []) (lines stop rest));
          short = omega (arith, t.short, length-drop (end + 1) left);
          whole = whole_drop stop (end + 1) left t.whole;
          told =
              subst (AdvancesBy e p r a c) (sym (marked_append false t.firsts (line ∷ [])))
              (advances_both e p q r a b c (marked_as false t.firsts) (plain line ∷ []) t.told told);
        }

    -- the others were taken at once
    pub taking_all : (r : Progress) (c : Option (List Part)) → IsTaking stop e p q a b text left → AdvancesBy e q r b c (marked_as false (lines stop left)) →
        AdvancesBy e p r a c (marked_as false (lines stop text))
    taking_all r c t told =
        subst (AdvancesBy e p r a c) (sym (marked_append false t.firsts (lines stop left)) ∙ ap (marked_as false) (sym t.split))
        (advances_both e p q r a b c (marked_as false t.firsts) (marked_as false (lines stop left)) t.told told)

    -- or there are none
    pub taking_none : IsTaking stop e p q a b text left → ((k : ℕ) → k < length left → get_or left k 0 ≡ stop → ⊥) → AdvancesBy e p q a b (marked_as false (lines stop text))
    taking_none t free =
        taking_all q b t (subst (λ ls. AdvancesBy e q q b b (marked_as false ls)) (sym (ap (lines stop) (whole_none stop left t.whole free))) (advances_none e q b))

pub taking_first : (e : Extent) (stop : ℕ) (p : Progress) (a : Option (List Part)) (text : List ℕ) → IsWhole stop text → IsTaking stop e p p a a text text
taking_first e stop p a text w = record { firsts = []; split = refl; short = omega arith; whole = w; told = advances_none e p a }

-- ---- selected lines, one by one

module _ (stop first begin : ℕ) (text : List ℕ) where
  pub printing_first : (a b : Option (List Part)) → IsWhole stop text → b ≡ a → IsPrinting stop first begin text a b first begin text
  printing_first a b w same = record {
    parts = [];
    split = refl;
    told = subst (λ o. Prints a o []) (sym same) (prints_none a);
    short = omega arith;
    whole = w;
    numbered = refl;
    placed = refl;
  }

  module _ (a b : Option (List Part)) (number place : ℕ) (left : List ℕ) (i : IsPrinting stop first begin text a b number place left) where
    pub printing_more : (c : Option (List Part)) (end : ℕ) → end < length left → HasNo stop (take end left) → get_or left end 0 ≡ stop →
        Prints b c (line_of (record { number = number; place = place; selected = true; line = take end left }) ∷ []) →
        IsPrinting stop first begin text a c (number + 1) (place + (end + 1)) (drop (end + 1) left)
    printing_more c end within free is told =
        let line = take end left in
        let rest = drop (end + 1) left in
        let cut = first_cut stop left end within free is in
        let size : length line ≡ end = length-take-le end left (omega (arith, within)) in
        let put : List Part = line_of (record { number = number; place = place; selected = true; line = line }) ∷ [] in
        record {
          parts = i.parts ++ put;
          split =
              i.split ∙ ap (λ ls. i.parts ++ selected_parts number place ls) cut
              ∙ ap (λ n. i.parts ++ (put ++ selected_parts (number + 1) n (lines stop rest))) (omega (arith, size))
              ∙ sym (append_assoc i.parts put (selected_parts (number + 1) (place + (end + 1)) (lines stop rest)));
          told = prints_both a b c i.parts put i.told told;
          short = omega (arith, i.short, length-drop (end + 1) left);
          whole = whole_drop stop (end + 1) left i.whole;
          numbered = omega (arith, ap length cut, i.numbered);
          placed = omega (arith, i.placed, length-drop (end + 1) left, within);
        }

    pub printing_all : ((k : ℕ) → k < length left → get_or left k 0 ≡ stop → ⊥) → Prints a b (selected_parts first begin (lines stop text))
    printing_all free =
        subst (Prints a b)
        (sym (i.split ∙ ap (λ xs. i.parts ++ selected_parts number place (lines stop xs)) (whole_none stop left i.whole free) ∙ append-nil i.parts)) i.told

-- ---- one line of a reader

pub line_lines : (stop : ℕ) (e : Extent) (picks : List ℕ → Bool) (p q : Progress) (a b : Option (List Part)) (count more : ℕ) (line : List ℕ) (selected : Bool) (text : List ℕ)
    (left : Option (List ℕ)) → TakesLine stop text true line left → selected ≡ (picks line && nat_lt 0 (e.most - count)) → more ≡ cond selected 1 0 →
    Advances e p q a b (record { line = line; selected = selected }) → q.left ≡ cond selected e.after (p.left - 1) → (count ≡ e.most → 0 < p.left) →
    TakesLines stop e picks p q a b count more text left
line_lines stop e picks p q a b count more line selected text left taken chosen is told behind context =
    let rest = lines stop taken.0 in
    record {
      rest = taken.0;
      known = taken.1;
      ms = record { line = line; selected = selected } ∷ [];
      split =
          ap (marked (λ _. picks) (e.most - count) 0) taken.2
          ∙ ap (λ (c : Bool). record { line = line; selected = c } ∷ marked (λ _. picks) (cond c (e.most - count - 1) (e.most - count)) (0 + length line + 1) rest) (sym chosen)
          ∙ ap (λ (ms : List Marked). record { line = line; selected = selected } ∷ ms)
          (marked_anywhere picks (cond selected (e.most - count - 1) (e.most - count)) (0 + length line + 1) 0 rest ∙ ap (λ n. marked (λ _. picks) n 0 rest) (at selected is));
      counted = one selected is;
      told = told;
      unread = leaves_line e p q (count + more) line selected behind (λ none enough. context (omega (arith, enough, is ∙ ap (λ b. cond b 1 0) none)));
    }
  where
    at : (c : Bool) → more ≡ cond c 1 0 → cond c (e.most - count - 1) (e.most - count) ≡ e.most - (count + more)
    at true is = omega (arith, is)
    at false is = omega (arith, is)

    one : (c : Bool) → more ≡ cond c 1 0 → length {A = Marked} (cond c (record { line = line; selected = c } ∷ []) []) ≡ more
    one true is = sym is
    one false is = sym is

-- ---- a page

pub no_lines : (ls : List (List ℕ)) → length ls ≡ 0 → ls ≡ []
no_lines [] none = refl
no_lines (l ∷ ls) none = absurd (omega (arith, none))

pub page_front : (page xs ys rest : List ℕ) (n : ℕ) → page ≡ xs ++ (ys ++ rest) → n ≡ length xs + length ys → take n page ≡ xs ++ ys
page_front page xs ys rest n e size =
    ap (take n) (e ∙ sym (append_assoc xs ys rest)) ∙ take_at (xs ++ ys) rest n (omega (arith, size, length-append xs ys))

module _ (stop : ℕ) (e : Extent) (picks : List ℕ → Bool) where
  pub block_front : (p q : Progress) (a b : Option (List Part)) (count : ℕ) (k : Block) → IsBlock stop picks k → selected_in k ≤ e.most - count →
      AdvancesBy e p q a b (marked_as k.is_selected (lines stop k.text.now)) → count < e.most → (k.is_selected ≡ true → 0 < k.count → q.left ≡ e.after) →
      TakesFront stop e picks p q a b count (selected_in k) k.text.now
  block_front p q a b count k is fits told few left =
      subst (λ n. TakesFront stop e picks p q a b count (cond k.is_selected n 0) k.text.now) (sym is.counted)
      (front_of stop e picks p q a b count k.is_selected k.text.now is.whole is.alike
      (subst (λ n. cond k.is_selected n 0 ≤ e.most - count) is.counted fits) told few (λ selected some. left selected (omega (arith, some, is.counted))))

  module _ (p q : Progress) (a b : Option (List Part)) (count more : ℕ) (line : List ℕ) (selected : Bool) (left : Option (List ℕ)) where
    pub next_lines : (old : Option (List ℕ)) → IfSome old (λ text. TakesLine stop text true line left) → selected ≡ (picks line && nat_lt 0 (e.most - count)) →
        more ≡ cond selected 1 0 → Advances e p q a b (record { line = line; selected = selected }) → q.left ≡ cond selected e.after (p.left - 1) →
        (count ≡ e.most → 0 < p.left) → IfSome old (λ text. TakesLines stop e picks p q a b count more text left)
    next_lines None taken chosen is told behind context = tt
    next_lines (Some text) taken chosen is told behind context =
        line_lines stop e picks p q a b count more line selected text left taken chosen is told behind context

-- of lines in two blocks, no more than may be are selected, and the last one is in the second block
pub first_fewer : (count most first second : ℕ) → count < most → first + second ≤ most - count → (first + second ≡ most - count → 0 < second) → count + first < most
first_fewer count most first second few fits some = at (cases_lt (count + first) most)
  where
    at : (count + first < most) ⊎ (most ≤ count + first) → count + first < most
    at (inl lt) = lt
    at (inr le) = absurd (omega (arith, few, fits, le, some (omega (arith, few, fits, le))))

pub some_lines_in : (stop : ℕ) (xs : List ℕ) → 0 < length xs → 0 < length (lines stop xs)
some_lines_in stop [] some = absurd (omega (arith, some))
some_lines_in stop (x ∷ xs) some = some_lines stop x xs

-- ---- the end of a text

module _ (stop : ℕ) (e : Extent) (picks : List ℕ → Bool) (p q : Progress) (old now new : Option (List Part)) (count : ℕ) (left after : Option (List ℕ))
    (sound : IsSound e p) (over : IfSome left (λ text. IsAtEnd stop p q now new text after)) where
  ends_here : (o : Option (List ℕ)) → IfSome o (λ text. IsAtEnd stop p q now new text after) → IfSome o (λ rest. TakesLine stop rest false [] left)
  ends_here None h = tt
  ends_here (Some text) h = h.none

  printed_here : (text : List ℕ) → Stands stop e (λ _. picks) p old now left count 0 text → new ≡ now
  printed_here text s = (subst (λ o. IfSome o (λ text. IsAtEnd stop p q now new text after)) s.known over).unprinted

  left_here : (text : List ℕ) (s : Stands stop e (λ _. picks) p old now left count 0 text) → count ≡ selected_count stop (λ _. picks) e.most text →
      HasLeft stop after (unread stop e (λ _. picks) text)
  left_here text s counted =
      let is : IsAtEnd stop p q now new s.rest after = subst (λ o. IfSome o (λ text. IsAtEnd stop p q now new text after)) s.known over in
      (s.rest, is.kept, left_none stop (λ _. picks) e text s.rest p.left count 0 s.unread is.none counted)

  pub told_none : (input : Option (List ℕ)) → IfSome input (Stands stop e (λ _. picks) p old now left count 0) →
      (IfSome input (λ text. Prints old new (printed stop e (λ _. picks) text))) × (IfSome input (λ text. count ≡ selected_count stop (λ _. picks) e.most text))
      × (IfSome input (λ text. HasLeft stop after (unread stop e (λ _. picks) text)))
  told_none None s = (tt, tt, tt)
  told_none (Some text) s =
      let told = told_at_end stop e (λ _. picks) old p now count 0 (Some text) left left [] sound (ends_here left over) s in
      (subst (λ o. Prints old o (printed stop e (λ _. picks) text)) (sym (printed_here text s)) told.0, told.1, left_here text s told.1)

pub read_weaker : {P Q : Type 0} (e : PrintError) → IfRead e P → (P → Q) → IfRead e Q
read_weaker (Read fault) h weaker = weaker h
read_weaker (Print fault) h weaker = tt
