-- What a pattern of literals between two assertions spells.
use Rattle.std.proofs.Common.{◌≡◌, ◌↔◌, ℕ, zero, suc, ◌+◌, ◌≤◌, List, [], ◌∷◌, length, Bool, IsTrue, Some, All, sym, subst, ◌∙◌, refl, arith, inl, inr, slice_get}
use Rattle.std.proofs.lemmas.Option.{none-some, same_Some}
use Rattle.rc_text.specs.Text.{high}
use Rattle.rc_pattern.specs.Re.{Re, empty, literal, byte_in, char_in, look, repeat, capture, cat, alt, none}
use Rattle.rc_pattern.specs.WellFormed.{HasBounds}
use Rattle.rc_program.specs.Text.{Text, holds}
use Rattle.rc_program.specs.Spells.{Stands, Spells, SpelledBy}
use Rattle.rc_program.specs.Program.{program, shown}
use Rattle.rc_program.specs.Answer.{Search}
use Rattle.rc_program.specs.Sought.{search_over, text_of}
use Rattle.rc_program.proofs.GroupLemmas.{group_law}
use Rattle.rc_program.proofs.GreatestLemmas.{greatest_law}
use Rattle.rc_needles.proofs.RelationLemmas.{range_of}
use Rattle.rc_literals.specs.Literals.{literals_of}
use Rattle.rc_literals.proofs.WayLemmas.{alternation}
use Rattle.rc_literals.proofs.ExactLemmas.{IsList, one, many, literals_are}
use Rattle.rc_words.specs.Words.{AreBetween, Between, IsWord, SpellWords, ungrouped}

-- One of the literals stands from i to j.
record IsOneOf (content : List ℕ) (ws : List (List ℕ)) (i j : ℕ) : Type 0 where
  number : ℕ
  needle : List ℕ
  is : slice_get ws number ≡ Some needle
  stands : Stands content needle i j

one_of : (t : Text) (ws : List (List ℕ)) (i j : ℕ) → Spells t (alternation ws) i j → IsOneOf t.content ws i j
one_of t [] i j never = absurd never
one_of t (w ∷ ws) i j (inl s) = record { number = 0; needle = w; is = refl; stands = s }
one_of t (w ∷ ws) i j (inr s) =
    let r = one_of t ws i j s in record { number = suc r.number; needle = r.needle; is = r.is; stands = r.stands }

of_one : (t : Text) (ws : List (List ℕ)) (i j k : ℕ) (w : List ℕ) → slice_get ws k ≡ Some w → Stands t.content w i j → Spells t (alternation ws) i j
of_one t [] i j k w e s = absurd (none-some w e)
of_one t (v ∷ ws) i j zero w e s = inl (subst (λ x. Stands t.content x i j) (sym (same_Some v w e)) s)
of_one t (v ∷ ws) i j (suc k) w e s = inr (of_one t ws i j k w e s)

list_one : (t : Text) (h : Re) (ws : List (List ℕ)) (i j : ℕ) → IsList h ws → Spells t h i j → IsOneOf t.content ws i j
list_one t _ _ i j (one {w = w} some) s = record { number = 0; needle = w; is = refl; stands = s }
list_one t _ _ i j (many {ws = ws} some) s = one_of t ws i j s

one_list : (t : Text) (h : Re) (ws : List (List ℕ)) (i j k : ℕ) (v : List ℕ) → IsList h ws → slice_get ws k ≡ Some v → Stands t.content v i j → Spells t h i j
one_list t _ _ i j zero v (one {w = w} some) e s = subst (λ x. Stands t.content x i j) (sym (same_Some w v e)) s
one_list t _ _ i j (suc k) v (one {w = w} some) e s = absurd (none-some v e)
one_list t _ _ i j k v (many {ws = ws} some) e s = of_one t ws i j k v e s

-- a group spells what is inside
inside : (t : Text) (h : Re) (i j : ℕ) → Spells t h i j ↔ Spells t (ungrouped h) i j
inside t (capture n name a) i j = (λ s. s, λ s. s)
inside t empty i j = (λ s. s, λ s. s)
inside t (literal bs) i j = (λ s. s, λ s. s)
inside t (byte_in rs) i j = (λ s. s, λ s. s)
inside t (char_in rs) i j = (λ s. s, λ s. s)
inside t (look l) i j = (λ s. s, λ s. s)
inside t (repeat m n g a) i j = (λ s. s, λ s. s)
inside t (cat a b) i j = (λ s. s, λ s. s)
inside t (alt a b) i j = (λ s. s, λ s. s)
inside t none i j = (λ s. s, λ s. s)

record Split (t : Text) (a rest : Re) (i j : ℕ) : Type 0 where
  at : ℕ
  first : Spells t a i at
  second : Spells t rest at j

split : (t : Text) (a rest : Re) (i j : ℕ) → Spells t (cat a rest) i j → Split t a rest i j
split t a rest i j s = record { at = s.0; first = s.1; second = s.2 }

join : (t : Text) (a rest : Re) (i k j : ℕ) → Spells t a i k → Spells t rest k j → Spells t (cat a rest) i j
join t a rest i k j x y = (k, x, y)

module _ (t : Text) (b : Between) (inner : Re) (lists : literals_of (ungrouped inner) ≡ Some b.needles) where
  abbrev Whole : Re
  Whole = cat (look b.before) (cat inner (cat (look b.behind) empty))

  spells_word : (hi i j : ℕ) → j ≤ hi → Spells t Whole i j → IsWord b t hi i j
  spells_word hi i j le s =
      let p = split t (look b.before) (cat inner (cat (look b.behind) empty)) i j s in
      let q = split t inner (cat (look b.behind) empty) p.at j p.second in
      let r = split t (look b.behind) empty q.at j q.second in
      let at : p.at ≡ i = sym p.first.1 in
      let end : q.at ≡ j = r.first.1 ∙ r.second in
      let o = list_one t (ungrouped inner) b.needles p.at q.at (literals_are (ungrouped inner) b.needles lists) ((inside t inner p.at q.at).0 q.first) in
      let stands : Stands t.content o.needle i j =
      subst (λ x. Stands t.content o.needle x j) at (subst (λ y. Stands t.content o.needle p.at y) end o.stands) in
      let long : j ≡ i + length o.needle = (range_of t.content o.needle i j stands).0 in (
        p.first.0,
        record {
          number = o.number;
          needle = o.needle;
          is = o.is;
          stands = (omega (arith, long, le), subst (λ y. Stands t.content o.needle i y) long stands);
          end = long;
          behind = subst (λ y. IsTrue (holds t b.behind y)) end r.first.0;
        },
      )

  word_spells : (hi i j : ℕ) → IsWord b t hi i j → Spells t Whole i j
  word_spells hi i j w =
      let e = w.1 in
      let stands : Stands t.content e.needle i j = subst (λ y. Stands t.content e.needle i y) (sym e.end) e.stands.1 in
      join t (look b.before) (cat inner (cat (look b.behind) empty)) i i j (w.0, refl)
      (join t inner (cat (look b.behind) empty) i j j
      ((inside t inner i j).1 (one_list t (ungrouped inner) b.needles i j e.number e.needle (literals_are (ungrouped inner) b.needles lists) e.is stands))
      (join t (look b.behind) empty j j j (e.behind, refl) refl))

only_one : (t : Text) (h : Re) (p i j : ℕ) → SpelledBy t 0 (h ∷ []) p i j → (p ≡ 0) × Spells t h i j
only_one t h p i j (inl s) = s
only_one t h p i j (inr never) = absurd never

pub spell_words : (hs : List Re) (grouped : Bool) (terminator : ℕ) (b : Between) → All HasBounds (shown grouped hs) → AreBetween hs b →
    SpellWords (program (shown grouped hs)) terminator b
spell_words hs grouped terminator b bounds between over s m =
    let S : Search = search_over (program (shown grouped hs)) terminator over s in
    let t : Text = text_of terminator s in
    let by = greatest_law.by_program (shown grouped hs) S m bounds refl in
    let same = group_law.shown_spells t grouped 0 hs m.pattern m.start m.end in (
      λ h.
          let r = by.0 h in
          let o = only_one t (cat (look b.before) (cat between.inner (cat (look b.behind) empty))) m.pattern m.start m.end
          (subst (λ z. SpelledBy t 0 z m.pattern m.start m.end) between.is (same.0 r.3)) in
          (r.0, r.1, o.0, spells_word t b between.inner between.lists (high s) m.start m.end r.2 o.1),
      λ h.
          let w : IsWord b t (high s) m.start m.end = h.3 in
          let e = w.1 in
          let long = e.end in
          let fits = e.stands.0 in
          by.1 (
            h.0,
            h.1,
            omega (arith, long, fits),
            same.1 (subst (λ z. SpelledBy t 0 z m.pattern m.start m.end) (sym between.is)
                (inl (h.2, word_spells t b between.inner between.lists (high s) m.start m.end w))),
          ),
    )
