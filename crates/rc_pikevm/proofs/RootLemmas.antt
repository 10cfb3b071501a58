-- What a thread gives that enters at a place which stands for place 0.
use Rattle.std.proofs.Common.{◌≡◌, ◌∙◌, ℕ, ◌≤◌, ◌⊎◌, List, [], ◌∷◌, ◌++◌, Option, Some, None, IsTrue, ⊎_elim, sym, subst, ap, refl}
use Rattle.std.proofs.Math.Logic.{∥∥₁_elim}
use Rattle.std.specs.List.{AllByRecursion}
use Rattle.std.proofs.lemmas.List.Elements.{All-nil, recursion_from_All}
use denote.Struct.Props.{props}
use Rattle.rc_walks.specs.Walks.{Pair, IsFirstWalk}
use Rattle.rc_walks.specs.Threads.{IsFirstOf, over, found, passes, noted}
use Rattle.rc_walks.proofs.CutLemmas.{first_is_one}
use Rattle.rc_walks.proofs.ThreadLemmas.{of_none, of_one}
use Rattle.rc_walks.proofs.TryLemmas.{Finds}
use Rattle.rc_program.specs.Columns.{column_at}
use Rattle.rc_program.specs.Program.{Place}
use Rattle.rc_program.specs.Laws.{IsChoice}
use Rattle.rc_pikevm.specs.Sights.{Sight, sight_of, ends, next_of, IsFirstFrom}
use Rattle.rc_pikevm.specs.Trace.{Trace, note, note_at}
use Rattle.rc_pikevm.specs.Passing.{Carries, CarriesTo}
use Rattle.rc_pikevm.specs.Roots.{StandsFor, StandsIn}
use Rattle.rc_pikevm.proofs.EarlyLemmas.{tried, tried_finds}
use Rattle.rc_text.specs.Text.{Searched, Keeps}
use Rattle.rc_program.specs.Programs.{search_of}
use Rattle.rc_program.specs.declared.program.Program.{Program}
use Rattle.rc_pikevm.specs.Moves.{seen}
use Rattle.rc_pikevm.proofs.KeptLemmas.{kept_seen}

-- place 0 stands for itself
pub stands_itself : (s : Sight) → StandsFor s 0
stands_itself s x = (λ v f. ∣ ([], All-nil (IsChoice s.places), f) ∣₁, λ none. none)

-- a pass by an input that shows the same sees it too
pub stands_kept : (p : Program) (a b : Searched) (root : ℕ) → Keeps a b → StandsIn (search_of p a) root → StandsFor (sight_of (seen p b)) root
stands_kept p a b root keeps stands = subst (λ s. StandsFor (sight_of s) root) (sym (kept_seen p keeps)) stands

-- nothing is noted at choices
noted_choice : (places : List Place) (h : Trace) (n : Pair) → IsChoice places n → note places h n ≡ h
noted_choice places h n c = ap (λ q. note_at (column_at places n.0) q h n.1) c.1

noted_behind : (places : List Place) (h : Trace) (u v : List Pair) → AllByRecursion (IsChoice places) u → noted (note places) h (u ++ v) ≡ noted (note places) h v
noted_behind places h [] v all = refl
noted_behind places h (n ∷ u) v all =
    ap (λ k. noted (note places) k (u ++ v)) (noted_choice places h n all.0) ∙ noted_behind places h u v all.1

module _ (s : Sight) (root : ℕ) (stands : StandsFor s root) where
  abbrev Ends : Pair → Type 0
  Ends n = IsTrue (ends s n)

  abbrev Given : (Option Trace → Type 0) → List (Trace × Pair) → Option Trace → Type 0
  Given Rest ts o = IsFirstOf (next_of s) Ends Trace (note s.places) [] Rest ts o

  same_noted : (h : Trace) (x : ℕ) (v w : List Pair) → IsFirstWalk (next_of s) Ends [] ((root, x) ∷ []) v → IsFirstFrom s x w →
      noted (note s.places) h w ≡ noted (note s.places) h v
  same_noted h x v w f g =
      ∥∥₁_elim ((stands x).0 v f) (hlevel props)
      (λ r. let one : w ≡ r.0 ++ v = first_is_one (next_of s) Ends [] ((0, x) ∷ []) w (r.0 ++ v) g r.2 in
      ap (noted (note s.places) h) one ∙ noted_behind s.places h r.0 v (recursion_from_All (IsChoice s.places) r.0 r.1))

  by_first : (Rest : Option Trace → Type 0) (h : Trace) (x : ℕ) (v : List Pair) (ts : List (Trace × Pair)) (o : Option (List Pair)) →
      IsFirstWalk (next_of s) Ends [] ((root, x) ∷ []) v → Finds (next_of s) Ends [] ((0, x) ∷ []) o →
      Given Rest ((h, (0, x)) ∷ ts) (Some (noted (note s.places) h v))
  by_first Rest h x v ts (Some w) f g =
      subst (λ t. Given Rest ((h, (0, x)) ∷ ts) (Some t)) (same_noted h x v w f g) (found (h, (0, x)) w g)
  by_first Rest h x v ts None f none =
      absurd (∥∥₁_elim ((stands x).0 v f) (hlevel props) (λ r. none (r.0 ++ v) r.2.is_walk))

  -- what the thread gives, one gives that enters at place 0
  given : (Rest : Option Trace → Type 0) (h : Trace) (x : ℕ) (ts : List (Trace × Pair)) (o : Option Trace) → x ≤ s.hi →
      Given Rest ((h, (root, x)) ∷ ts) o → Given Rest ((h, (0, x)) ∷ ts) o
  given Rest h x ts o within g =
      ⊎_elim
      (λ f. subst (Given Rest ((h, (0, x)) ∷ ts)) (sym f.2) (by_first Rest h x f.0 ts (tried s (0, x)) f.1 (tried_finds s (0, x) within)))
      (λ p. passes (h, (0, x)) ((stands x).1 p.0) p.1)
      (of_one (next_of s) Ends Trace (note s.places) g)

  pub carries_root : (h : Trace) (x : ℕ) (ts : List (Trace × Pair)) (best o : Option Trace) → x ≤ s.hi →
      Carries s x [] [] ((h, (root, x)) ∷ ts) best o → Carries s x [] [] ((h, (0, x)) ∷ ts) best o
  carries_root h x ts best o within c = over (given (λ q. q ≡ best) h x ts o within (of_none (next_of s) Ends Trace (note s.places) c))

-- so it does up to a limit, if it enters at place 0 itself
pub carries_root_to : (limit : Option ℕ) (s : Sight) (root : ℕ) → StandsFor s root → (limit ≡ None) ⊎ (root ≡ 0) →
    (h : Trace) (x : ℕ) (ts : List (Trace × Pair)) (best o : Option Trace) → x ≤ s.hi →
    CarriesTo limit s x [] [] ((h, (root, x)) ∷ ts) best o → CarriesTo limit s x [] [] ((h, (0, x)) ∷ ts) best o
carries_root_to limit s root stands free h x ts best o within c =
    ⊎_elim
    (λ e. subst (λ l. CarriesTo l s x [] [] ((h, (0, x)) ∷ ts) best o) (sym e)
    (carries_root s root stands h x ts best o within (subst (λ l. CarriesTo l s x [] [] ((h, (root, x)) ∷ ts) best o) e c)))
    (λ e. subst (λ r. CarriesTo limit s x [] [] ((h, (r, x)) ∷ ts) best o) e c) free
