-- The lists that are open, and what the reader keeps of them.
use Rattle.std.proofs.Common.{◌≡◌, ℕ, ◌≤◌, Bool, true, false, List, [], ◌∷◌, ◌++◌, Option, length, reverse, refl, ap, sym, subst, ◌∙◌, arith}
use Rattle.std.proofs.lemmas.List.{reverse-append, length-reverse}
use Rattle.std.specs.Borrow.{Bor}
use Rattle.rc_tokens.specs.Text.{Characters}
use Rattle.rc_full_lists.specs.declared.parts.Settings.{Settings}
use Rattle.rc_full_lists.specs.declared.parts.Part.{Part}
use Rattle.rc_full_lists.specs.declared.parts.Part.TheVariants as part
use Rattle.rc_full_lists.specs.declared.levels.Level as code
use Rattle.rc_full_lists.specs.declared.levels.Levels as codes
use Rattle.rc_full_lists.specs.declared.levels.Step.{Step}
use Rattle.rc_full_lists.specs.declared.levels.Step.TheVariants.{Goes, Ends}
use Rattle.rc_full_lists.specs.Openings.{Lead, nothing, hyphens, bracket, IsOpening, opening}
use Rattle.rc_full_lists.specs.Laws.{LeadHasCodes}
use Rattle.rc_full_lists.specs.Levels.{Level, Levels, at, around, Moves, item, operator, opens, closes, Fit, IsLevel, AreOuter, ClosesTo, StepsTo}
use Rattle.rc_full_lists.proofs.ShorterLemmas.{opening_shorter}

-- ---- what leads

lead_codes : (x u : Bool) (t v : Characters) (l : Option ℕ) → Lead x t l v → LeadHasCodes u l
lead_codes x u _ _ _ (nothing t h) = tt
lead_codes x true _ _ _ (hyphens t v w p r) = (refl, refl, omega arith, tt)
lead_codes x false _ _ _ (hyphens t v w p r) = (refl, refl, omega arith, tt)
lead_codes x true _ _ _ (bracket t v p) = (refl, refl, omega arith, tt)
lead_codes x false _ _ _ (bracket t v p) = (refl, refl, omega arith, tt)

pub opening_codes : (x u : Bool) (t v : Characters) (m : Bool) (l : Option ℕ) → IsOpening x t m l v → LeadHasCodes u l
opening_codes x u t v m l (opening _ a b _ _ _ p s k) = lead_codes x u b v l k

-- ---- the lists around

outer_length : (u : Bool) (cs : List (code.Level)) (ls : List Level) → AreOuter u cs ls → length cs ≡ length ls
outer_length u [] [] h = refl
outer_length u [] (l ∷ ls) h = absurd h
outer_length u (c ∷ cs) [] h = absurd h
outer_length u (c ∷ cs) (l ∷ ls) h = let e = outer_length u cs ls h.1 in omega (arith, e)

pub as_many : (u : Bool) (cs : List (code.Level)) (ls : List Level) → AreOuter u (reverse cs) ls → length cs ≡ length ls
as_many u cs ls h = sym (length-reverse cs) ∙ outer_length u (reverse cs) ls h

pub closes_to : (u : Bool) (l : Level) (ls : List Level) (t : Bor (List ℕ)) (all : List (code.Level)) (last : code.Level) (next : codes.Levels) →
    all ≡ next.outer.items ++ last ∷ [] → AreOuter u (reverse all) ls → ((m : Level) → IsLevel u last m → IsLevel u next.inner (around l m)) →
    ClosesTo u l ls t.now (Goes next t)
closes_to u l ls t all last next e h f = go ls (subst (λ x. AreOuter u x ls) (ap reverse e ∙ reverse-append next.outer.items (last ∷ [])) h)
  where
    go : (ms : List Level) → AreOuter u (last ∷ reverse next.outer.items) ms → ClosesTo u l ms t.now (Goes next t)
    go [] h = absurd h
    go (m ∷ ms) h = (record { inner = f m h.0; outer = h.1 }, refl)

pub closed_steps : (s : Settings) (fold : Bool) (limit : ℕ) (l : Level) (ls : List Level) (t : Characters) (v : Step) → Fit limit (l ∷ ls) →
    ClosesTo s.unicode l ls t v → StepsTo s fold limit (at l ls) part.Closes t v
closed_steps s fold limit l [] t (Ends class depth) fit (are, deep) = (refl, refl, are, deep)
closed_steps s fold limit l [] t (Goes next rest) fit h = absurd h
closed_steps s fold limit l (m ∷ ls) t (Ends class depth) fit h = absurd h
closed_steps s fold limit l (m ∷ ls) t (Goes next rest) (inner, (outer, more)) (are, same) = (
  at (around l m) ls,
  subst (λ x. Moves s fold (at l (m ∷ ls)) part.Closes t (at (around l m) ls) x) (sym same) (closes l m ls t),
  are,
  (omega (arith, inner, outer), more),
)

pub moves_shorter : (s : Settings) (fold : Bool) (ls after : Levels) (k : Part) (t u : Characters) → Moves s fold ls k t after u → length u ≤ length t
moves_shorter s fold _ _ _ _ _ (item l ls i t) = omega arith
moves_shorter s fold _ _ _ _ _ (operator l ls o t) = omega arith
moves_shorter s fold _ _ _ _ _ (opens l ls t u negated lead begins) = opening_shorter s.verbose t u negated lead begins
moves_shorter s fold _ _ _ _ _ (closes l m ls t) = omega arith
