-- Symbols tell a step what stands on their sides, and lead by the columns of their bytes.
use Rattle.std.proofs.Common.{◌≡◌, ℕ, ◌+◌, ◌<◌, ◌≤◌, false, List, [], ◌∷◌, length, Option, Some, None, true, ◌⊎◌, ◌↔◌, sym, subst, ap, ap₂, ◌∙◌, refl}
use Rattle.std.specs.Option.{option_map}
use Rattle.std.proofs.lemmas.Bool.{lt-ltb, le-ltb}
use Rattle.std.proofs.lemmas.Option.{none-some, same_Some}
use Rattle.rc_text.specs.declared.types.MatchKind.{MatchKind}
use Rattle.rc_text.specs.declared.types.MatchKind.TheVariants.{All as all_matches, LeftmostFirst as leftmost_first, LeftmostLongest as leftmost_longest}
use Rattle.rc_program.specs.Looks.{Side, nothing, stands, is_word_byte, is_word_scalar}
use Rattle.rc_program.specs.Text.{Text, before_at, after_at}
use Rattle.rc_program.proofs.WordLemmas.{is_word_scalar-ascii}
use Rattle.rc_program.specs.Program.{Place, reads, ways_out, place_at}
use Rattle.rc_symbols.specs.Symbols.{Tag, tag_of, Symbol, IsSymbolAt}
use Rattle.rc_determinize.specs.declared.sides.Seen.{Seen}
use Rattle.rc_determinize.specs.declared.sides.Asked.{Asked}
use Rattle.rc_determinize.specs.declared.sides.Sides.{Sides}
use Rattle.rc_determinize.specs.Steps.{HasPlace, HasWay, IsStep}
use Rattle.rc_determinize.specs.Sides.{asked, seen_by, byte_of, side_of, told, told_side, holds_by, out_over, AreAlike}
use Rattle.rc_determinize.specs.States.{Setting, State, is_match, sides_ahead, sides_behind}
use Rattle.rc_determinize.specs.Sets.{ComesBy, IsLeastMatch}
use Rattle.rc_determinize.specs.Longest.{GroupSteps, groups_of}
use Rattle.rc_determinize.specs.Kinds.{IsNextByOver}
use Rattle.rc_determinize.specs.Backward.{ReadsTo, IsPriorOver}
use Rattle.rc_determinize.proofs.KindLemmas.{turn_law}
use Rattle.rc_determinize.proofs.TextLemmas.{byte_ahead, byte_behind}
use Rattle.rc_dfa.specs.Machine.{Direction, forwards, backwards, Machine, leads_over, LeadsOver}
use Rattle.rc_dfa.specs.Columns.{seen_tagged, told_tagged, sides_tagged, retagged, turned, ColumnLaw}

-- WHAT IS TOLD

seen_is : (terminator b : ℕ) (c : Option ℕ) → seen_by terminator (stands b c) ≡ seen_tagged terminator b (option_map is_word_scalar c)
seen_is terminator b None = refl
seen_is terminator b (Some c) = refl

told_is : (needs : Asked) (terminator : ℕ) (side : Side) (b : ℕ) (tag : Tag) → byte_of side ≡ Some b → tag ≡ tag_of side →
    told_side needs terminator side ≡ told_tagged needs terminator b tag
told_is needs terminator nothing b tag e f = absurd (none-some b e)
told_is needs terminator (stands x c) b tag e f =
    ap (λ k. asked needs k) (seen_is terminator x c) ∙ ap₂ (λ k l. told_tagged needs terminator k l) (same_Some x b e) (sym f)

abbrev sides_by : Option ℕ → Seen → Seen → Sides
sides_by b x z = record { byte = b; near = x; far = z }

module _ (g : Setting) (t : Text) (i : ℕ) (y : Symbol) (s : IsSymbolAt t i y) where
  byte_here : byte_of (after_at t i) ≡ Some y.byte
  byte_here = byte_ahead t i y.byte s.inside.1 s.byte

  byte_there : byte_of (before_at t (i + 1)) ≡ Some y.byte
  byte_there = byte_behind t i y.byte s.inside.0 s.byte

  opening : told_side g.needs g.terminator (after_at t i) ≡ told_tagged g.needs g.terminator y.byte y.opens
  opening = told_is g.needs g.terminator (after_at t i) y.byte y.opens byte_here s.opens

  shutting : told_side g.needs g.terminator (before_at t (i + 1)) ≡ told_tagged g.needs g.terminator y.byte y.shuts
  shutting = told_is g.needs g.terminator (before_at t (i + 1)) y.byte y.shuts byte_there s.shuts

  ahead : sides_ahead g t i ≡ sides_tagged g.needs g.terminator y.byte y.opens y.shuts
  ahead =
      ap (λ o. sides_by o (told_side g.needs g.terminator (after_at t i)) (told_side g.needs g.terminator (before_at t (i + 1)))) byte_here
      ∙ ap₂ (λ x z. sides_by (Some y.byte) x z) opening shutting

  behind : sides_behind g t i ≡ sides_tagged g.needs g.terminator y.byte y.shuts y.opens
  behind =
      ap (λ o. sides_by o (told_side g.needs g.terminator (before_at t (i + 1))) (told_side g.needs g.terminator (after_at t i))) byte_there
      ∙ ap₂ (λ x z. sides_by (Some y.byte) x z) shutting opening

ascii_told : (needs : Asked) (terminator b : ℕ) → b < 128 → told needs terminator (Some b) ≡ told_tagged needs terminator b (Some (is_word_byte b))
ascii_told needs terminator b l =
    told_is needs terminator (side_of (Some b)) b (Some (is_word_byte b)) refl (rw (lt-ltb b 128 l) (ap Some (sym (is_word_scalar-ascii b l))))

other_told : (needs : Asked) (terminator b : ℕ) → 128 ≤ b → told needs terminator (Some b) ≡ told_tagged needs terminator b None
other_told needs terminator b g = told_is needs terminator (side_of (Some b)) b None refl (rw (le-ltb b 128 g) refl)

-- bytes past ASCII that are alike tell the same with each tag
pub alike_told : (places : List Place) (needs : Asked) (terminator b c : ℕ) (tag : Tag) → AreAlike places needs terminator b c → 128 ≤ b → 128 ≤ c →
    told_tagged needs terminator b tag ≡ told_tagged needs terminator c tag
alike_told places needs terminator b c tag a k l =
    ap (λ x. retagged needs tag x) (sym (other_told needs terminator b k) ∙ a.told_same ∙ other_told needs terminator c l)

-- STEPS

next_same : (kind : MatchKind) (places : List Place) (root : ℕ) (s t : State) (x y : Sides) → out_over places s.beside x ≡ out_over places s.beside y →
    x.far ≡ y.far → IsNextByOver kind places root s x t → IsNextByOver kind places root s y t
next_same leftmost_first places root s t x y e f n = record {
  next = n.next;
  is_step = subst (λ o. IsStep o (is_match places) s.list n.next t.matched) e n.is_step;
  goes_on = n.goes_on;
  joined = n.joined;
  beside = n.beside ∙ f;
}
next_same all_matches places root s t x y e f n = record {
  list = λ q. subst (λ o. HasPlace q t.list ↔ (((t.goes_on ≡ true) × (q ≡ root)) ⊎ ((p : ℕ) × ComesBy o s.list p × HasWay (reads 1 q) (o p)))) e (n.list q);
  rising = n.rising;
  matched = subst (λ o. IsLeastMatch places (ComesBy o s.list) t.matched) e n.matched;
  goes_on = n.goes_on;
  beside = n.beside ∙ f;
}
next_same leftmost_longest places root s t x y e f n = record {
  onward = n.onward;
  groups = n.groups;
  steps = subst (λ o. GroupSteps o (is_match places) [] (groups_of (length places) s.list) n.onward t.matched) e n.steps;
  goes_on = n.goes_on;
  once = n.once;
  list = n.list;
  beside = n.beside ∙ f;
}

-- backwards, over a byte that is read alike
prior_same : (places : List Place) (roots : List ℕ) (s t : State) (b c : ℕ) (near far : Seen) → ((q p : ℕ) → ReadsTo places b q p ≡ ReadsTo places c q p) →
    IsPriorOver places roots s (sides_by (Some b) near far) t → IsPriorOver places roots s (sides_by (Some c) near far) t
prior_same places roots s t b c near far same n = record {
  list = λ q. let l = n.list q in (
    (λ h. let x = l.0 h in (
      c,
      refl,
      x.2,
      subst (λ (T : Type 0). T) (same q x.2) (subst (λ k. ReadsTo places k q x.2) (sym (same_Some b x.0 x.1)) x.3),
      x.4,
    )),
    (λ x. l.1 (
      b,
      refl,
      x.2,
      subst (λ (T : Type 0). T) (sym (same q x.2)) (subst (λ k. ReadsTo places k q x.2) (sym (same_Some c x.0 x.1)) x.3),
      x.4,
    )),
  );
  rising = n.rising;
  matched = n.matched;
  goes_on = n.goes_on;
  beside = n.beside;
}

alike_over : (d : Direction) (g : Setting) (entries : List ℕ) (b c : ℕ) (near far : Tag) (s next : State) → AreAlike g.places g.needs g.terminator b c →
    128 ≤ b → 128 ≤ c → leads_over d g.places entries s (sides_tagged g.needs g.terminator b near far) next →
    leads_over d g.places entries s (sides_tagged g.needs g.terminator c near far) next
alike_over (forwards kind) g entries b c near far s next a k l h =
    next_same kind g.places 0 s next _ _
    (ap (λ (x : Seen). λ (q : ℕ). ways_out (holds_by s.beside x) (b ∷ []) (place_at g.places q)) (alike_told g.places g.needs g.terminator b c near a k l)
    ∙ (λ i q. a.read_same q (holds_by s.beside (told_tagged g.needs g.terminator c near)) i))
    (alike_told g.places g.needs g.terminator b c far a k l) h
alike_over backwards g entries b c near far s next a k l h =
    prior_same g.places entries s next b c (told_tagged g.needs g.terminator c near) (told_tagged g.needs g.terminator c far)
    (λ q p. ap (λ ws. HasWay (reads 1 p) ws) (a.read_same q (λ l. false)))
    (subst (λ x. IsPriorOver g.places entries s x next)
    (ap₂ (λ x z. sides_by (Some b) x z) (alike_told g.places g.needs g.terminator b c near a k l) (alike_told g.places g.needs g.terminator b c far a k l)) h)

-- TURNS

keeps_far : (d : Direction) (places : List Place) (entries : List ℕ) (s t : State) (sides : Sides) → leads_over d places entries s sides t → t.beside ≡ sides.far
keeps_far (forwards leftmost_first) places entries s t sides n = n.beside
keeps_far (forwards all_matches) places entries s t sides n = n.beside
keeps_far (forwards leftmost_longest) places entries s t sides n = n.beside
keeps_far backwards places entries s t sides n = n.beside

turned_over : (d : Direction) (places : List Place) (entries : List ℕ) (s t : State) (sides : Sides) (far : Seen) → leads_over d places entries s sides t →
    leads_over d places entries s (record sides { far = far }) (record t { beside = far })
turned_over (forwards kind) places entries s t sides far n = turn_law.next kind places 0 s t sides far n
turned_over backwards places entries s t sides far n = turn_law.prior places entries s t sides far n

turns : (m : Machine) (b : ℕ) (near far : Tag) (s next : State) → LeadsOver m s (sides_tagged m.setting.needs m.setting.terminator b near None) next →
    LeadsOver m s (sides_tagged m.setting.needs m.setting.terminator b near far) (turned m.setting.needs far next)
turns m b near far s next h =
    let needs = m.setting.needs in
    let kept = keeps_far m.direction m.setting.places m.entries s next _ h in
    subst (λ x. LeadsOver m s (sides_tagged needs m.setting.terminator b near far) (record next { beside = x })) (sym (ap (λ x. retagged needs far x) kept))
    (turned_over m.direction m.setting.places m.entries s next _ (told_tagged needs m.setting.terminator b far) h)

pub column_law : ColumnLaw
column_law = record {
  ahead = ahead;
  behind = behind;
  ascii = λ needs terminator b l. ap (λ x. sides_by (Some b) x x) (ascii_told needs terminator b l);
  other = λ needs terminator b g. ap (λ x. sides_by (Some b) x x) (other_told needs terminator b g);
  alike = λ m b c near far s next a k l h. alike_over m.direction m.setting m.entries b c near far s next a k l h;
  turns = turns;
}
