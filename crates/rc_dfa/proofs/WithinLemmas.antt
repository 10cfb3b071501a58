-- The states of a machine hold places of its program, each once.
use Rattle.std.proofs.Common.{◌≡◌, ℕ, zero, suc, ◌<◌, List, [], ◌∷◌, length, Option, Some, None, IsTrue, false, true≢false, slice_get, inl, inr, ⊎_elim, sym, subst, ap, ◌∙◌, refl, ◌≤◌, arith}
use Rattle.std.proofs.lemmas.Bool.{cases_lt}
use Rattle.std.proofs.lemmas.Option.{none-some, same_Some}
use Rattle.rc_text.specs.declared.types.Anchored.{Anchored}
use Rattle.rc_text.specs.declared.types.Anchored.TheVariants.{No, Yes, Pattern}
use Rattle.rc_program.specs.Program.{Place, choice, place_at, is_match_place}
use Rattle.rc_program.proofs.WayLemmas.{past_places}
use Rattle.rc_determinize.specs.Steps.{HasPlace, AreOnce, AreBelow}
use Rattle.rc_text.specs.declared.types.MatchKind.{MatchKind}
use Rattle.rc_text.specs.declared.types.MatchKind.TheVariants.{All as all_matches, LeftmostFirst as leftmost_first, LeftmostLongest as leftmost_longest}
use Rattle.rc_determinize.specs.Kinds.{longest, IsListOf}
use Rattle.rc_determinize.specs.declared.sides.Seen.{Seen}
use Rattle.rc_determinize.specs.declared.sides.Sides.{Sides}
use Rattle.rc_determinize.specs.States.{Setting, State}
use Rattle.rc_determinize.proofs.LimitLemmas.{short}
use Rattle.rc_determinize.proofs.KindLemmas.{kind_law, rising_once}
use Rattle.rc_determinize.proofs.LawLemmas.{backward_law}
use Rattle.rc_dfa.specs.Machine.{Alphabet, Direction, forwards, backwards, Machine, leads_over, begins_beside, IsMachine}
use Rattle.rc_dfa.specs.Laws.{IsWithin, MachineLaw}
use Rattle.rc_dfa.proofs.LastLemmas.{accepts}

-- backwards
both : (a : Alphabet) (g : Setting) (entries : List ℕ) (s : State) → AreOnce s.list → AreBelow (length g.places) s.list →
    IsWithin (record { setting = g; entries = entries; direction = backwards; alphabet = a }) s
both a g entries s once below = record { places = (once, below); below = below; short = short (length g.places) s.list once below }

-- an entry is a place
pub entry_below : (m : Machine) (p entry : ℕ) → IsMachine m → slice_get m.entries p ≡ Some entry → entry < length m.setting.places
entry_below m p entry k e = k.entered entry (among m.entries p e)
  where
    among : (es : List ℕ) (i : ℕ) → slice_get es i ≡ Some entry → HasPlace entry es
    among [] zero e = absurd (none-some entry e)
    among [] (suc i) e = absurd (none-some entry e)
    among (x ∷ xs) zero e = inl (same_Some x entry e)
    among (x ∷ xs) (suc i) e = inr (among xs i e)

alone : (n root : ℕ) (list : List ℕ) → root < n → list ≡ root ∷ [] → AreBelow n list
alone n root list lt e = subst (λ l. AreBelow n l) (sym e) (λ q h. ⊎_elim (λ f. subst (λ k. k < n) f lt) (λ never. absurd never) h)

once_alone : (root : ℕ) (list : List ℕ) → list ≡ root ∷ [] → AreOnce list
once_alone root list e = subst (λ l. AreOnce l) (sym e) ((λ h. h), tt)

root_list : (kind : MatchKind) (n root : ℕ) (list : List ℕ) → root < n → list ≡ root ∷ [] → IsListOf kind n list
root_list leftmost_first n root list lt e = (once_alone root list e, alone n root list lt e)
root_list all_matches n root list lt e = (once_alone root list e, alone n root list lt e)
root_list leftmost_longest n root list lt e =
    record { groups = (root ∷ []) ∷ []; is_parted = e; once = ((λ h. h), tt); below = alone n root (root ∷ []) lt refl }

root_short : (kind : MatchKind) (n root : ℕ) (list : List ℕ) → root < n → list ≡ root ∷ [] → length list ≤ longest kind n
root_short leftmost_first n root list lt e = let l : length list ≡ 1 = ap (λ z. length z) e in omega (arith, l, lt)
root_short all_matches n root list lt e = let l : length list ≡ 1 = ap (λ z. length z) e in omega (arith, l, lt)
root_short leftmost_longest n root list lt e = let l : length list ≡ 1 = ap (λ z. length z) e in omega (arith, l, lt)

one_root : (a : Alphabet) (kind : MatchKind) (g : Setting) (entries : List ℕ) (root : ℕ) (s : State) → root < length g.places → s.list ≡ root ∷ [] →
    IsWithin (record { setting = g; entries = entries; direction = forwards kind; alphabet = a }) s
one_root a kind g entries root s lt e =
    let l = root_list kind (length g.places) root s.list lt e in
    record { places = l; below = kind_law.below kind (length g.places) s.list l; short = root_short kind (length g.places) root s.list lt e }

match_below : (places : List Place) (q : ℕ) (only : Option ℕ) → IsTrue (is_match_place only (place_at places q)) → q < length places
match_below places q only h = ⊎_elim (λ lt. lt)
    (λ ge. absurd (true≢false (sym h ∙ ap (is_match_place only) (past_places places q ge) ∙ no_place only)))
    (cases_lt q (length places))
  where
    no_place : (only : Option ℕ) → is_match_place only (choice []) ≡ false
    no_place None = refl
    no_place (Some p) = refl

begin_within : (a : Alphabet) (d : Direction) (g : Setting) (entries : List ℕ) (anchored : Anchored) (facts : Seen) (s : State) →
    let m : Machine = record { setting = g; entries = entries; direction = d; alphabet = a } in
    IsMachine m → begins_beside d g.places entries anchored facts s → IsWithin m s
begin_within a (forwards kind) g entries No facts s k h = one_root a kind g entries 0 s k.rooted h.list
begin_within a (forwards kind) g entries Yes facts s k h = one_root a kind g entries 0 s k.rooted h.list
begin_within a (forwards kind) g entries (Pattern p) facts s k h =
    let m : Machine = record { setting = g; entries = entries; direction = forwards kind; alphabet = a } in
    let f = h.2 in one_root a kind g entries h.0 s (entry_below m p h.0 k h.1) f.list
begin_within a backwards g entries No facts s k h =
    both a g entries s (rising_once s.list h.rising) (λ q z. match_below g.places q None ((h.list q).0 z))
begin_within a backwards g entries Yes facts s k h =
    both a g entries s (rising_once s.list h.rising) (λ q z. match_below g.places q None ((h.list q).0 z))
begin_within a backwards g entries (Pattern p) facts s k h =
    both a g entries s (rising_once s.list h.rising)
    (λ q z. match_below g.places q (Some p) ((accepts p (place_at g.places q)).1 ((h.list q).0 z)))

lead_within : (a : Alphabet) (d : Direction) (g : Setting) (entries : List ℕ) (s t : State) (sides : Sides) →
    let m : Machine = record { setting = g; entries = entries; direction = d; alphabet = a } in
    IsMachine m → leads_over d g.places entries s sides t → IsWithin m t
lead_within a (forwards kind) g entries s t sides k h =
    let i = kind_law.inside kind g.places 0 s t sides k.closed k.rooted h in
    record { places = i; below = kind_law.below kind (length g.places) t.list i; short = kind_law.short kind g.places 0 s t sides k.closed k.rooted h }
lead_within a backwards g entries s t sides k h =
    let i = backward_law.inside g.places entries s t sides h in
    both a g entries t i.0 i.1

pub machine_law : MachineLaw
machine_law = record {
  begins_beside = λ m anchored facts s k h. begin_within m.alphabet m.direction m.setting m.entries anchored facts s k h;
  leads_over = λ m s t sides k h. lead_within m.alphabet m.direction m.setting m.entries s t sides k h;
  begins = λ m anchored beside s k h. begin_within m.alphabet m.direction m.setting m.entries anchored _ s k h;
  leads = λ m s t beside k h. lead_within m.alphabet m.direction m.setting m.entries s t _ k h;
}
