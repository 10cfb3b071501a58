-- Only proofs use this file.
-- Lines are read one after another, and what is printed of them goes on.
use Rattle.std.proofs.Common.{ℕ, ◌≡◌, ◌<◌, ◌≤◌, ◌+◌, ◌-◌, ◌∙◌, ◌++◌, ◌∷◌, [], ◌&&◌, ◌⊎◌, Bool, false, true, List, Option, Some, None, IfSome, ap, ap₂, append_assoc, arith, cond, refl, sym, subst, length, nat_lt}
use Rattle.std.specs.Prelude.{Vec}
use Rattle.std.specs.List.{filter, list_any}
use Rattle.std.specs.Io.KnownBytes.{Keeps}
use Rattle.std.specs.declared.alloc.Global.{Global}
use Rattle.std.proofs.lemmas.Bool.{ltb-true, true≢false}
use Rattle.std.proofs.lemmas.List.{append-nil}
use Rattle.grep_lines.specs.Lines.{lines}
use Rattle.grep_lines.specs.Selected.{TakesLine}
use Rattle.grep_lines.specs.Context.{HasLeft, Marked, Part, Prints, PrintsBeginning, behind_printed, is_selected, marked, printed, selected_count, separated, unread}
use Rattle.grep_lines.specs.Ahead.{Advances, IsSound, Stands, ahead, ahead_of, contents, left_unread}
use Rattle.grep_lines.specs.declared.context.Extent.{Extent}
use Rattle.grep_lines.specs.declared.context.Progress.{Progress}
use Rattle.grep_lines.proofs.ContextLemmas.{ahead_none, marked_anywhere, marked_none, prints_both, prints_none, shown_all}
use Rattle.grep_lines.proofs.ReadLemmas.{filter_none, keeps_known, leaves_line, left_enough, left_none, unread_on}

module _ (stop : ℕ) (e : Extent) (picks : ℕ → List ℕ → Bool) (old : Option (List Part)) where
  begins : (p : Progress) (text : List ℕ) → p.kept.items ≡ [] → p.next ≡ 1 → p.place ≡ 0 → p.left ≡ 0 → p.behind ≡ None →
      Stands stop e picks p old old (Some text) 0 0 text
  begins p text kept next place left behind =
      let all_left : marked picks e.most 0 (lines stop text) ≡ marked picks (e.most - 0) 0 (lines stop text) = ap (λ k. marked picks k 0 (lines stop text)) (omega arith) in
      let ms = marked picks (e.most - 0) 0 (lines stop text) in
      record {
        rest = text;
        known = refl;
        parts = [];
        told = prints_none old;
        all =
            ap (separated None) (shown_all e (marked picks e.most 0 (lines stop text))) ∙ ap (λ ns. ahead_of e None 0 1 0 [] ns) all_left
            ∙ ap (λ (b : Option ℕ). ahead_of e b 0 1 0 [] ms) (sym behind) ∙ ap (λ l. ahead_of e p.behind l 1 0 [] ms) (sym left)
            ∙ ap (λ n. ahead_of e p.behind p.left n 0 [] ms) (sym next)
            ∙ ap (λ n. ahead_of e p.behind p.left p.next n [] ms) (sym place)
            ∙ ap (λ (vs : List (Vec ℕ Global)). ahead_of e p.behind p.left p.next p.place (contents vs) ms) (sym kept);
        counted = ap (λ ns. length (filter is_selected ns)) all_left ∙ omega arith;
        unread = λ _. ap (behind_printed e) all_left ∙ ap (λ l. left_unread e l ms) (sym left);
      }

  pub stands_first : (p : Progress) (input : Option (List ℕ)) → p.kept.items ≡ [] → p.next ≡ 1 → p.place ≡ 0 → p.left ≡ 0 → p.behind ≡ None →
      IfSome input (Stands stop e picks p old old input 0 0)
  stands_first p None kept next place left behind = tt
  stands_first p (Some text) kept next place left behind = begins p text kept next place left behind

  module _ (p q : Progress) (now new : Option (List Part)) (count more at after : ℕ) (line : List ℕ) where
    left_most : (b : Bool) → more ≡ cond b (count + 1) count → cond b (e.most - count - 1) (e.most - count) ≡ e.most - more
    left_most true is = omega (arith, is)
    left_most false is = omega (arith, is)

    count_more : (b : Bool) (ms : List Marked) → more ≡ cond b (count + 1) count →
        count + length (filter is_selected (record { line = line; selected = b } ∷ ms)) ≡ more + length (filter is_selected ms)
    count_more true ms is = omega (arith, is)
    count_more false ms is = omega (arith, is)

    goes_on : (mid left : Option (List ℕ)) (text : List ℕ) (b : Bool) → Stands stop e picks p old now mid count at text →
        IfSome mid (λ rest. TakesLine stop rest true line left) → b ≡ (picks at line && nat_lt 0 (e.most - count)) → more ≡ cond b (count + 1) count → after ≡ at + length line + 1 →
        Advances e p q now new (record { line = line; selected = b }) → q.left ≡ cond b e.after (p.left - 1) → (count ≡ e.most → 0 < p.left) →
        Stands stop e picks q old new left more after text
    goes_on mid left text b s t passes is next a behind context =
        let taken : TakesLine stop s.rest true line left = subst (λ o. IfSome o (λ rest. TakesLine stop rest true line left)) s.known t in
        let ms = marked picks (e.most - more) after (lines stop taken.0) in
        let split : marked picks (e.most - count) at (lines stop s.rest) ≡ record { line = line; selected = b } ∷ ms =
        ap (marked picks (e.most - count) at) taken.2
        ∙ ap (λ (d : Bool). record { line = line; selected = d } ∷ marked picks (cond d (e.most - count - 1) (e.most - count)) (at + length line + 1) (lines stop taken.0)) (sym passes)
        ∙ ap₂ (λ k n. record { line = line; selected = b } ∷ marked picks k n (lines stop taken.0)) (left_most b is) (sym next) in
        record {
          rest = taken.0;
          known = taken.1;
          parts = s.parts ++ a.0;
          told = prints_both old now new s.parts a.0 s.told a.1;
          all =
              s.all ∙ ap (λ ns. s.parts ++ ahead e p ns) split ∙ ap (λ ps. s.parts ++ ps) (a.2 ms) ∙ sym (append_assoc s.parts a.0 (ahead e q ms));
          counted = s.counted ∙ ap (λ ns. count + length (filter is_selected ns)) split ∙ count_more b ms is;
          unread =
              unread_on e p q (marked picks e.most 0 (lines stop text)) (record { line = line; selected = b } ∷ []) (marked picks (e.most - count) at (lines stop s.rest)) ms
              count more split (count_more b [] is ∙ omega arith)
              (leaves_line e p q more line b behind (λ none enough. context (omega (arith, enough, is ∙ ap (λ c. cond c (count + 1) count) none))))
              (λ enough. ap (λ k. list_any is_selected (marked picks k after (lines stop taken.0))) (omega (arith, enough)) ∙ marked_none picks after (lines stop taken.0))
              s.unread;
        }

    pub stands_next : (input mid left : Option (List ℕ)) (b : Bool) → IfSome input (Stands stop e picks p old now mid count at) →
        IfSome mid (λ rest. TakesLine stop rest true line left) → b ≡ (picks at line && nat_lt 0 (e.most - count)) → more ≡ cond b (count + 1) count → after ≡ at + length line + 1 →
        Advances e p q now new (record { line = line; selected = b }) → q.left ≡ cond b e.after (p.left - 1) → (count ≡ e.most → 0 < p.left) →
        IfSome input (Stands stop e picks q old new left more after)
    stands_next None mid left b s t passes is next a behind context = tt
    stands_next (Some text) mid left b s t passes is next a behind context = goes_on mid left text b s t passes is next a behind context

  module _ (p : Progress) (now : Option (List Part)) (count at : ℕ) where
    kept_end : (left : ℕ) (vs : List (Vec ℕ Global)) → (0 < length vs → left ≡ 0) → ahead_of e p.behind left p.next p.place (contents vs) [] ≡ []
    kept_end left [] idle = refl
    kept_end left (v ∷ vs) idle =
        ap (λ l. ahead_of e p.behind l p.next p.place (contents (v ∷ vs)) []) (idle (omega arith)) ∙ ahead_none e p.behind p.next p.place (contents (v ∷ vs)) [] refl

    -- No more lines are printed.
    abbrev IsOver : List ℕ → Type 0
    IsOver rest = let ms = marked picks (e.most - count) at (lines stop rest) in (ahead e p ms ≡ []) × (filter is_selected ms ≡ [])

    at_end : (rest : List ℕ) → IsSound e p → lines stop rest ≡ [] → IsOver rest
    at_end rest sound none = (
      ap (λ ls. ahead e p (marked picks (e.most - count) at ls)) none ∙ kept_end p.left p.kept.items sound.idle,
      ap (λ ls. filter is_selected (marked picks (e.most - count) at ls)) none,
    )

    enough : (rest : List ℕ) → p.left ≡ 0 → count ≡ e.most → IsOver rest
    enough rest idle is =
        let none : list_any is_selected (marked picks (e.most - count) at (lines stop rest)) ≡ false =
        ap (λ k. list_any is_selected (marked picks k at (lines stop rest))) (omega (arith, is)) ∙ marked_none picks at (lines stop rest) in (
          ap (λ l. ahead_of e p.behind l p.next p.place (contents p.kept.items) (marked picks (e.most - count) at (lines stop rest))) idle
              ∙ ahead_none e p.behind p.next p.place (contents p.kept.items) (marked picks (e.most - count) at (lines stop rest)) none,
          filter_none (marked picks (e.most - count) at (lines stop rest)) none,
        )

    abbrev Told : List ℕ → Type 0
    Told text = Prints old now (printed stop e picks text) × (count ≡ selected_count stop picks e.most text)

    told_all : (left : Option (List ℕ)) (text : List ℕ) (s : Stands stop e picks p old now left count at text) → IsOver s.rest → Told text
    told_all left text s over = (
      subst (Prints old now) (sym (append-nil s.parts) ∙ sym (ap (λ ps. s.parts ++ ps) over.0) ∙ sym s.all) s.told,
      omega (arith, s.counted, ap length over.1),
    )

    ended : (left new : Option (List ℕ)) (line text : List ℕ) → IsSound e p → IfSome left (λ rest. TakesLine stop rest false line new) →
        Stands stop e picks p old now left count at text → Told text
    ended left new line text sound t s =
        told_all left text s (at_end s.rest sound (subst (λ o. IfSome o (λ rest. TakesLine stop rest false line new)) s.known t))

    -- reading stopped
    pub begun : (input left : Option (List ℕ)) → IfSome input (Stands stop e picks p old now left count at) → IfSome input (PrintsBeginning stop e picks old now)
    begun None left s = tt
    begun (Some text) left s = (s.parts, ahead e p (marked picks (e.most - count) at (lines stop s.rest)), s.all, s.told)

    -- the text's end was reached
    pub told_at_end : (input left new : Option (List ℕ)) (line : List ℕ) → IsSound e p → IfSome left (λ rest. TakesLine stop rest false line new) →
        IfSome input (Stands stop e picks p old now left count at) →
        (IfSome input (λ text. Prints old now (printed stop e picks text))) × (IfSome input (λ text. count ≡ selected_count stop picks e.most text))
    told_at_end None left new line sound t s = (tt, tt)
    told_at_end (Some text) left new line sound t s = let told = ended left new line text sound t s in (told.0, told.1)

    -- enough lines were selected
    pub told_enough : (input left : Option (List ℕ)) → p.left ≡ 0 → count ≡ e.most → IfSome input (Stands stop e picks p old now left count at) →
        (IfSome input (λ text. Prints old now (printed stop e picks text))) × (IfSome input (λ text. count ≡ selected_count stop picks e.most text))
    told_enough None left idle is s = (tt, tt)
    told_enough (Some text) left idle is s = let told = told_all left text s (enough s.rest idle is) in (told.0, told.1)

    -- the lines that are left then
    pub left_at_enough : (input left : Option (List ℕ)) → p.left ≡ 0 → count ≡ e.most → IfSome input (Stands stop e picks p old now left count at) →
        IfSome input (λ text. HasLeft stop left (unread stop e picks text))
    left_at_enough None left idle is s = tt
    left_at_enough (Some text) left idle is s = (
      s.rest,
      s.known,
      left_enough stop picks e text s.rest p.left count at s.unread idle is (told_all left text s (enough s.rest idle is)).1
          (ap (λ k. list_any is_selected (marked picks k at (lines stop s.rest))) (omega (arith, is)) ∙ marked_none picks at (lines stop s.rest)),
    )

    pub left_at_end : (input left new : Option (List ℕ)) (line : List ℕ) → IsSound e p → IfSome left (λ rest. TakesLine stop rest false line new) → Keeps left new →
        IfSome input (Stands stop e picks p old now left count at) → IfSome input (λ text. HasLeft stop new (unread stop e picks text))
    left_at_end None left new line sound t kept s = tt
    left_at_end (Some text) left new line sound t kept s = (
      s.rest,
      keeps_known left new s.rest s.known kept,
      left_none stop picks e text s.rest p.left count at s.unread (subst (λ o. IfSome o (λ rest. TakesLine stop rest false line new)) s.known t)
          (ended left new line text sound t s).1,
    )

-- where a test looks at the line alone, the place doesn't matter
module _ (stop : ℕ) (e : Extent) (picks : List ℕ → Bool) (p : Progress) (old now : Option (List Part)) (left : Option (List ℕ)) (count place : ℕ) where
  moved : (text : List ℕ) → Stands stop e (λ _. picks) p old now left count place text → Stands stop e (λ _. picks) p old now left count 0 text
  moved text s =
      let same = marked_anywhere picks (e.most - count) place 0 (lines stop s.rest) in
      record {
        rest = s.rest;
        known = s.known;
        parts = s.parts;
        told = s.told;
        all = s.all ∙ ap (λ ms. s.parts ++ ahead e p ms) same;
        counted = s.counted ∙ ap (λ ms. count + length (filter is_selected ms)) same;
        unread =
            subst
            (λ ms. (count ≡ e.most) ⊎ (list_any is_selected ms ≡ true) → behind_printed e (marked (λ _. picks) e.most 0 (lines stop text)) ≡ left_unread e p.left ms) same
            s.unread;
      }

  pub stands_anywhere : (input : Option (List ℕ)) → IfSome input (Stands stop e (λ _. picks) p old now left count place) →
      IfSome input (Stands stop e (λ _. picks) p old now left count 0)
  stands_anywhere None s = tt
  stands_anywhere (Some text) s = moved text s

-- no more lines are selected than may be
pub few_more : (most count more : ℕ) (x b : Bool) → count ≤ most → more ≡ cond b (count + 1) count → b ≡ (x && nat_lt 0 (most - count)) → more ≤ most
few_more most count more x false few is passes = omega (arith, few, is)
few_more most count more false true few is passes = absurd (true≢false passes)
few_more most count more true true few is passes = let some : 0 < most - count = ltb-true 0 (most - count) (sym passes) in omega (arith, some, is)
