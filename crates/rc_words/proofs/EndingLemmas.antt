-- Where words end, by the trie of their literals.
use Rattle.std.proofs.Common.{◌≡◌, ℕ, ◌+◌, ◌-◌, ◌<◌, ◌≤◌, List, length, take, drop, true, IsTrue, Some, None, sym, ap, subst, ◌∙◌, arith, inl, inr, slice_get}
use Rattle.std.proofs.lemmas.Bool.{cases_lt}
use Rattle.std.proofs.lemmas.List.{take_all, take-take}
use Rattle.rc_program.specs.Text.{Text, holds}
use Rattle.rc_needles.specs.declared.trie.Node.{Node}
use Rattle.rc_needles.specs.declared.hit.Hit.{Hit}
use Rattle.rc_needles.specs.Needles.{StandsWithin, find_needle, needle_at}
use Rattle.rc_needles.specs.Tables.{AreSome, numbered}
use Rattle.rc_needles.specs.Tries.{AreCarried, number_at, step, walk}
use Rattle.rc_needles.proofs.RelationLemmas.{get_some, none_to, range_of}
use Rattle.rc_needles.proofs.StartLemmas.{find_found, find_none}
use Rattle.rc_needles.proofs.TrieLemmas.{read_behind, walk_more}
use Rattle.rc_words.specs.Words.{Between, HasNoWord, IsEnded, IsOnlyWord, IsWord}
use Rattle.rc_words.specs.Endings.{MayEndAt}
use Rattle.rc_words.specs.declared.search.Ending.{Ending}
use Rattle.rc_words.specs.declared.search.Ending.TheVariants.{Nowhere, Once}

-- the first bytes of a literal that stands are those of the content from there on
first_bytes : (content needle : List ℕ) (hi i d : ℕ) → StandsWithin content hi needle i → d ≤ length needle →
    take d (drop i content) ≡ take d needle
first_bytes content needle hi i d s le =
    let r = (range_of content needle i (i + length needle) s.1).1 in
    let n : i + length needle - i ≡ length needle = omega arith in
    sym (take-take d (i + length needle - i) (drop i content) (omega (arith, le, n))) ∙ ap (take d) r

-- Each word that ends at `place` or earlier may end so.
abbrev pub Told : Between → Text → ℕ → ℕ → ℕ → Ending → Type 0
Told b t hi at place best = (j : ℕ) → j ≤ place → IsEnded b t hi at j → MayEndAt best j

-- the node to which the bytes from `at` on lead, up to `place`
abbrev pub IsNode : List Node → List ℕ → ℕ → ℕ → ℕ → Type 0
IsNode nodes content at place node = node ≡ walk nodes 1 (take (place - at) (drop at content))

module _ (b : Between) (t : Text) (hi at : ℕ) (some : AreSome b.needles) where
  -- a word is not empty
  some_long : (j : ℕ) → IsEnded b t hi at j → at < j
  some_long j e =
      let g = get_some b.needles e.number e.needle e.is in
      let long = some e.number g.0 in
      let same : length (numbered b.needles e.number) ≡ length e.needle = ap length g.1 in
      let end = e.end in
      omega (arith, long, same, end)

  pub told_none : Told b t hi at at Nowhere
  told_none j le e = let l = some_long j e in omega (arith, l, le)

  -- no word ends past the bound
  pub all_told : (place : ℕ) (best : Ending) → hi ≤ place → Told b t hi at place best → (j : ℕ) → IsEnded b t hi at j → MayEndAt best j
  all_told place best past told j e =
      let end = e.end in let fits = e.stands.0 in told j (omega (arith, end, fits, past)) e

  module _ (nodes : List Node) (carried : AreCarried nodes b.needles) where
    -- a word that ends here has a number there
    ends_here : (place node : ℕ) → IsNode nodes t.content at place node → IsEnded b t hi at place → number_at nodes node < length b.needles
    ends_here place node is e =
        let g = get_some b.needles e.number e.needle e.is in
        let c = carried e.number g.0 in
        let end = e.end in
        let d : place - at ≡ length e.needle = omega (arith, end) in
        let bytes : take (place - at) (drop at t.content) ≡ e.needle =
        ap (λ n. take n (drop at t.content)) d ∙ first_bytes t.content e.needle hi at (length e.needle) e.stands (omega arith)
        ∙ take_all (length e.needle) e.needle (omega arith) in
        let same : number_at nodes node ≡ number_at nodes (walk nodes 1 (numbered b.needles e.number)) =
        ap (number_at nodes) (is ∙ ap (walk nodes 1) (bytes ∙ sym g.1)) in
        let low = c.ends in
        let below = g.0 in
        omega (arith, same, low, below)

    -- the next byte leads on
    module _ (place node byte : ℕ) (low : at ≤ place) (is : IsNode nodes t.content at place node) (got : slice_get t.content place ≡ Some byte) where
      pub next_node : IsNode nodes t.content at (place + 1) (step nodes node byte)
      next_node =
          let r = read_behind t.content at place byte low got in
          let n : place - at + 1 ≡ place + 1 - at = omega (arith, low) in
          walk_more nodes (drop at t.content) (place - at) node byte r.0 r.1 is ∙ ap (λ d. walk nodes 1 (take d (drop at t.content))) n

      -- or no longer word begins so
      pub died : (best : Ending) → step nodes node byte ≡ 0 → Told b t hi at place best → (j : ℕ) → IsEnded b t hi at j → MayEndAt best j
      died best none told j e =
          elim (cases_lt place j) [
            | inl l ↦
                let g = get_some b.needles e.number e.needle e.is in
                let c = carried e.number g.0 in
                let end = e.end in
                let d : ℕ = place + 1 - at in
                let fits : d ≤ length e.needle = omega (arith, end, l, low) in
                let long : length (numbered b.needles e.number) ≡ length e.needle = ap length g.1 in
                absurd (c.lives d (omega (arith, fits, long))
                (ap (λ w. walk nodes 1 (take d w)) g.1 ∙ ap (walk nodes 1) (sym (first_bytes t.content e.needle hi at d e.stands fits)) ∙ sym next_node ∙ none))
            | inr m ↦ told j m e
          ]

      -- no word ends where the node has no number, or the assertion does not hold
      pub told_more : (best : Ending) → ¬ ((number_at nodes (step nodes node byte) < length b.needles) × (holds t b.behind (place + 1) ≡ true)) →
          Told b t hi at place best → Told b t hi at (place + 1) best
      told_more best never told j le e =
          elim (cases_lt place j) [
            | inl l ↦
                let here : j ≡ place + 1 = omega (arith, l, le) in
                let f : IsEnded b t hi at (place + 1) = subst (λ x. IsEnded b t hi at x) here e in
                absurd (never (ends_here (place + 1) (step nodes node byte) next_node f, f.behind))
            | inr m ↦ told j m e
          ]

      -- the first end
      pub told_once : Told b t hi at place Nowhere → Told b t hi at (place + 1) (Once (place + 1))
      told_once told j le e =
          elim (cases_lt place j) [
            | inl l ↦ omega (arith, l, le)
            | inr m ↦ absurd (told j m e)
          ]

-- No word begins from lo on before `at`.
abbrev pub NoneTo : Between → Text → ℕ → ℕ → ℕ → Type 0
NoneTo b t hi lo at = (x y : ℕ) → lo ≤ x → x < at → ¬ IsWord b t hi x y

-- no literal, no word
not_a_word : (b : Between) (t : Text) (hi x y : ℕ) → needle_at b.needles t.content hi x ≡ None → ¬ IsWord b t hi x y
not_a_word b t hi x y none w =
    let e = w.1 in none_to b.needles t.content hi x none e.number e.needle e.is e.stands

module _ (b : Between) (t : Text) (hi lo at : ℕ) (none : NoneTo b t hi lo at) where
  -- no literal occurs any more
  pub none_left : find_needle b.needles t.content at hi ≡ None → HasNoWord b t lo hi
  none_left gone x y low w =
      elim (cases_lt x at) [
        | inl l ↦ none x y low l w
        | inr g ↦ let fits = w.1.stands.0 in not_a_word b t hi x y (find_none b.needles t.content at hi gone x g (omega (arith, fits))) w
      ]

  module _ (hit : Hit) (found : find_needle b.needles t.content at hi ≡ Some hit) where
    -- none before the next literal
    none_before : (x y : ℕ) → lo ≤ x → x < hit.start → ¬ IsWord b t hi x y
    none_before x y low before w =
        elim (cases_lt x at) [
          | inl l ↦ none x y low l w
          | inr g ↦ not_a_word b t hi x y ((find_found b.needles t.content at hi hit found).none_before x g before) w
        ]

    -- nor there
    pub none_there : ((y : ℕ) → ¬ IsWord b t hi hit.start y) → NoneTo b t hi lo (hit.start + 1)
    none_there here x y low before w =
        elim (cases_lt x hit.start) [
          | inl l ↦ none_before x y low l w
          | inr g ↦ let same : x ≡ hit.start = omega (arith, before, g) in here y (subst (λ z. IsWord b t hi z y) same w)
        ]

    -- but one there
    pub one_there : (e : ℕ) → lo ≤ hit.start → IsTrue (holds t b.before hit.start) → IsEnded b t hi hit.start e →
        ((j : ℕ) → IsEnded b t hi hit.start j → j ≡ e) → IsOnlyWord b t lo hi hit.start e
    one_there e above before ended once = record {
      low = above;
      here = (before, ended);
      only = λ x y low le w.
          elim (cases_lt x hit.start) [
            | inl l ↦ absurd (none_before x y low l w)
            | inr g ↦
                let same : x ≡ hit.start = omega (arith, le, g) in
                (same, once y (subst (λ z. IsEnded b t hi z y) same w.1))
          ];
    }
