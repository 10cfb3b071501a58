-- Only proofs use this file.
-- Which lines are left to read.
use Rattle.std.proofs.Common.{ℕ, zero, suc, ◌≡◌, ◌<◌, ◌≤◌, ◌+◌, ◌-◌, ◌==◌, ◌∙◌, ◌++◌, ◌∷◌, [], ◌&&◌, ◌||◌, ◌⊎◌, inl, inr, Bool, false, true, List, Option, Some, None, IfSome, ap, append_assoc, arith, cond, eq-eqb, eqb-true, refl, sym, length, map, nat_lt, drop}
use Rattle.std.specs.List.{filter, list_any}
use Rattle.std.specs.Io.KnownBytes.{Keeps}
use Rattle.std.proofs.lemmas.Bool.{cases_lt, or_left, or_parts}
use Rattle.std.proofs.lemmas.List.Folds.{list_any-append}
use Rattle.std.proofs.lemmas.Option.{none-some}
use Rattle.grep_lines.specs.Ahead.{left_unread}
use Rattle.grep_lines.specs.Blocks.{LeavesUnread, marked_as}
use Rattle.grep_lines.specs.Context.{Marked, behind_printed, behind_selected, is_selected, line_in, marked, selected_count, unread}
use Rattle.grep_lines.specs.Lines.{lines}
use Rattle.grep_lines.specs.declared.context.Extent.{Extent}
use Rattle.grep_lines.specs.declared.context.Progress.{Progress}

-- ---- whether a line is selected

pub filter_none : (ms : List Marked) → list_any is_selected ms ≡ false → filter is_selected ms ≡ []
filter_none [] none = refl
filter_none (m ∷ ms) none =
    let parts = or_parts m.selected (list_any is_selected ms) none in
    ap (λ b. cond b (m ∷ filter is_selected ms) (filter is_selected ms)) parts.0 ∙ filter_none ms parts.1

any_of : (ms : List Marked) → 0 < length (filter is_selected ms) → list_any is_selected ms ≡ true
any_of ms some = at (list_any is_selected ms) refl
  where
    at : (b : Bool) → list_any is_selected ms ≡ b → list_any is_selected ms ≡ true
    at true is = is
    at false is = absurd (omega (arith, some, ap length (filter_none ms is)))

or_right : (x y : Bool) → y ≡ true → (x || y) ≡ true
or_right true y e = refl
or_right false y e = e

any_behind : (ms rest : List Marked) → list_any is_selected rest ≡ true → list_any is_selected (ms ++ rest) ≡ true
any_behind ms rest some = list_any-append is_selected ms rest ∙ or_right (list_any is_selected ms) (list_any is_selected rest) some

any_before : (ms rest : List Marked) → list_any is_selected ms ≡ true → list_any is_selected (ms ++ rest) ≡ true
any_before ms rest some = list_any-append is_selected ms rest ∙ or_left (list_any is_selected ms) (list_any is_selected rest) some

-- ---- the lines behind the last selected one

behind_more : (ms rest : List Marked) → list_any is_selected rest ≡ true → behind_selected (ms ++ rest) ≡ behind_selected rest
behind_more [] rest some = refl
behind_more (m ∷ ms) rest some =
    ap (λ b. cond b (behind_selected (ms ++ rest)) (m ∷ (ms ++ rest))) (any_behind (m ∷ ms) rest some) ∙ behind_more ms rest some

behind_none : (rest : List Marked) → list_any is_selected rest ≡ false → behind_selected rest ≡ rest
behind_none [] none = refl
behind_none (m ∷ rest) none = ap (λ b. cond b (behind_selected rest) (m ∷ rest)) none

behind_block : (ls : List (List ℕ)) (rest : List Marked) → list_any is_selected rest ≡ false → behind_selected (marked_as true ls ++ rest) ≡ rest
behind_block [] rest none = behind_none rest none
behind_block (l ∷ ls) rest none = behind_block ls rest none

-- ---- the lines that are left, from one step to the next

drop_one : (n : ℕ) (m : Marked) (ms : List Marked) → 0 < n → drop n (m ∷ ms) ≡ drop (n - 1) ms
drop_one zero m ms some = absurd (omega (arith, some))
drop_one (suc n) m ms some = ap (λ k. drop k ms) (omega arith)

drop_none : (n : ℕ) → drop {A = Marked} n [] ≡ []
drop_none zero = refl
drop_none (suc n) = refl

module _ (e : Extent) where
  unread_behind : (l k : ℕ) (ms rest : List Marked) → list_any is_selected rest ≡ true → left_unread e l (ms ++ rest) ≡ left_unread e k rest
  unread_behind l k ms rest some =
      ap (λ b. cond b (drop e.after (behind_selected (ms ++ rest))) (drop l (ms ++ rest))) (any_behind ms rest some)
      ∙ ap (drop e.after) (behind_more ms rest some)
      ∙ sym (ap (λ b. cond b (drop e.after (behind_selected rest)) (drop k rest)) some)

  unread_none : (l : ℕ) (rest : List Marked) → list_any is_selected rest ≡ false → left_unread e l rest ≡ drop l rest
  unread_none l rest none = ap (λ b. cond b (drop e.after (behind_selected rest)) (drop l rest)) none

  -- selected lines were printed at once
  pub leaves_block : (p q : Progress) (count : ℕ) (b : Bool) (ls : List (List ℕ)) → count < e.most → (b ≡ true → 0 < length ls → q.left ≡ e.after) →
      LeavesUnread e p q (count + cond b (length ls) 0) (marked_as b ls)
  leaves_block p q count true [] few left enough = absurd (omega (arith, few, enough))
  leaves_block p q count false ls few left enough = absurd (omega (arith, few, enough))
  leaves_block p q count true (l ∷ ls) few left enough = λ rest none.
      ap (drop e.after) (behind_block ls rest none) ∙ ap (λ n. drop n rest) (sym (left refl (omega arith)))

  -- lines were taken, and then others, of which one is selected if there are enough
  pub leaves_both : (p q r : Progress) (count n : ℕ) (xs ys : List Marked) → (count ≡ e.most → 0 < n) → length (filter is_selected ys) ≡ n →
      LeavesUnread e q r count ys → LeavesUnread e p r count (xs ++ ys)
  leaves_both p q r count n xs ys some counted leaves = λ enough rest none.
      let chosen : list_any is_selected (ys ++ rest) ≡ true = any_before ys rest (any_of ys (omega (arith, some enough, counted))) in
      ap (left_unread e p.left) (append_assoc xs ys rest) ∙ unread_behind p.left q.left xs (ys ++ rest) chosen ∙ leaves enough rest none

  -- a line was taken, which is selected or context
  pub leaves_line : (p q : Progress) (count : ℕ) (line : List ℕ) (b : Bool) → q.left ≡ cond b e.after (p.left - 1) → (b ≡ false → count ≡ e.most → 0 < p.left) →
      LeavesUnread e p q count (record { line = line; selected = b } ∷ [])
  leaves_line p q count line true left context = λ enough rest none.
      ap (drop e.after) (behind_none rest none) ∙ ap (λ n. drop n rest) (sym left)
  leaves_line p q count line false left context = λ enough rest none.
      let m : Marked = record { line = line; selected = false } in
      unread_none p.left (m ∷ rest) none ∙ drop_one p.left m rest (context refl enough) ∙ ap (λ n. drop n rest) (sym left)

  -- the lines that are left are still those behind the last printed one
  pub unread_on : (p q : Progress) (all ms mid next : List Marked) (count total : ℕ) → mid ≡ ms ++ next → count + length (filter is_selected ms) ≡ total →
      LeavesUnread e p q total ms → (total ≡ e.most → list_any is_selected next ≡ false) →
      ((count ≡ e.most) ⊎ (list_any is_selected mid ≡ true) → behind_printed e all ≡ left_unread e p.left mid) →
      (total ≡ e.most) ⊎ (list_any is_selected next ≡ true) → behind_printed e all ≡ left_unread e q.left next
  unread_on p q all ms mid next count total split counted leaves end before (inr some) =
      before (inr (ap (list_any is_selected) split ∙ any_behind ms next some)) ∙ ap (left_unread e p.left) split ∙ unread_behind p.left q.left ms next some
  unread_on p q all ms mid next count total split counted leaves end before (inl enough) =
      before (was (cases_lt 0 (length (filter is_selected ms)))) ∙ ap (left_unread e p.left) split ∙ leaves enough next (end enough)
      ∙ sym (unread_none q.left next (end enough))
    where
      was : (0 < length (filter is_selected ms)) ⊎ (length (filter is_selected ms) ≤ 0) → (count ≡ e.most) ⊎ (list_any is_selected mid ≡ true)
      was (inl some) = inr (ap (list_any is_selected) split ∙ any_before ms next (any_of ms some))
      was (inr none) = inl (omega (arith, none, enough, counted))

-- ---- where reading ends

module _ (stop : ℕ) (picks : ℕ → List ℕ → Bool) where
  lines_marked : (most place : ℕ) (ls : List (List ℕ)) → map line_in (marked picks most place ls) ≡ ls
  lines_marked most place [] = refl
  lines_marked most place (l ∷ ls) = ap (λ ks. l ∷ ks) (lines_marked (cond (picks place l && nat_lt 0 most) (most - 1) most) (place + length l + 1) ls)

  module _ (e : Extent) (text rest : List ℕ) (left count place : ℕ)
      (before : (count ≡ e.most) ⊎ (list_any is_selected (marked picks (e.most - count) place (lines stop rest)) ≡ true) →
      behind_printed e (marked picks e.most 0 (lines stop text)) ≡ left_unread e left (marked picks (e.most - count) place (lines stop rest))) where
    -- enough lines were selected, and those behind the last printed one are left
    pub left_enough : left ≡ 0 → count ≡ e.most → count ≡ selected_count stop picks e.most text → list_any is_selected (marked picks (e.most - count) place (lines stop rest)) ≡ false →
        lines stop rest ≡ unread stop e picks text
    left_enough idle enough counted none =
        sym
        (ap (λ b. cond b (map line_in (behind_printed e (marked picks e.most 0 (lines stop text)))) [])
        (eq-eqb (selected_count stop picks e.most text) e.most (sym counted ∙ enough))
        ∙ ap (map line_in) (before (inl enough) ∙ unread_none e left _ none ∙ ap (λ n. drop n (marked picks (e.most - count) place (lines stop rest))) idle)
        ∙ lines_marked (e.most - count) place (lines stop rest))

    -- no line is left
    pub left_none : lines stop rest ≡ [] → count ≡ selected_count stop picks e.most text → lines stop rest ≡ unread stop e picks text
    left_none ended counted = at (selected_count stop picks e.most text == e.most) refl
      where
        at : (b : Bool) → (selected_count stop picks e.most text == e.most) ≡ b → lines stop rest ≡ unread stop e picks text
        at false is = ended ∙ sym (ap (λ b. cond b (map line_in (behind_printed e (marked picks e.most 0 (lines stop text)))) []) is)
        at true is =
            ended
            ∙ sym
            (ap (λ b. cond b (map line_in (behind_printed e (marked picks e.most 0 (lines stop text)))) []) is
            ∙ ap (map line_in)
            (before (inl (counted ∙ eqb-true (selected_count stop picks e.most text) e.most is))
            ∙ ap (λ ls. left_unread e left (marked picks (e.most - count) place ls)) ended ∙ drop_none left))

-- ---- a reader that was left where it was

pub keeps_known : (mid left : Option (List ℕ)) (rest : List ℕ) → mid ≡ Some rest → Keeps mid left → left ≡ Some rest
keeps_known None left rest is kept = absurd (none-some rest is)
keeps_known (Some xs) None rest is kept = absurd kept
keeps_known (Some xs) (Some ys) rest is kept = ap Some kept ∙ is

pub keeps_all : (mid left : Option (List ℕ)) → Keeps mid left → IfSome mid (λ text. left ≡ Some text)
keeps_all None left kept = tt
keeps_all (Some xs) left kept = keeps_known (Some xs) left xs refl kept
