-- The entries of patterns stand for the patterns: a walk of a pattern leads from the root where edges lead from its entry.
use Rattle.std.proofs.Common.{◌≡◌, ◌↔◌, ℕ, ◌+◌, ◌*◌, ◌<◌, ◌≤◌, List, [], length, get_or, false, Some, None, IsTrue, ⊎_elim, sym, subst, ap, ◌∙◌, refl, arith, eq-eqb}
use Rattle.std.proofs.lemmas.Bool.{cases_lt}
use Rattle.rc_text.specs.Found.{Found}
use Rattle.rc_pattern.specs.Re.{Re}
use Rattle.rc_walks.specs.Walks.{Pair}
use Rattle.rc_program.specs.Text.{Text}
use Rattle.rc_program.specs.Program.{Place, choice, accept, place_at, is_match_place, choice_of_patterns, program, entry}
use Rattle.rc_program.specs.Answer.{anywhere, Search, next_of, ends, only}
use Rattle.rc_program.specs.Laws.{IsClosed}
use Rattle.rc_program.specs.Greatest.{IsSpelledIn, AllowsPattern}
use Rattle.rc_program.proofs.AnswerLemmas.{walk_ends}
use Rattle.rc_program.proofs.PlaceLemmas.{program_is_closed, entry_below, length-program}
use Rattle.rc_program.proofs.PartLemmas.{Stand}
use Rattle.rc_program.proofs.WholeLemmas.{stand_all}
use Rattle.rc_program.proofs.EntryLemmas.{entry_law}
use Rattle.rc_program.proofs.GreatestLemmas.{other_ends}
use Rattle.rc_utf8.specs.Bytes.{bytes_of}
use Rattle.rc_utf8.specs.Laws.{by_bytes, IsBytePlace, IsWalkFrom}
use Rattle.rc_utf8.proofs.SpanLemmas.{places_kept, same_walks, same_spans}
use Rattle.rc_determinize.specs.Run.{Reaches, IsGoal}
use Rattle.rc_determinize.specs.Spans.{IsSpelled, AreRoots}
use Rattle.rc_dfa_search.specs.Machines.{entries_of}
use Rattle.rc_dfa_search.proofs.CaseLemmas.{length-entries, entry_index, places_by_bytes}
use Rattle.rc_dfa_search.proofs.ReverseWays.{MayEnd, LeadsTo, of_some, of_allowed, leads_onward, walk_leads_from, leads_walk, leads_past, enters, leaves}

module _ (hs : List Re) (t : Text) (hi : ℕ) where
  abbrev B : List Place
  B = bytes_of (program hs)

  choices_kept : (k : ℕ) (ns : List ℕ) → k < length (program hs) → place_at (program hs) k ≡ choice ns → place_at B k ≡ choice ns
  choices_kept k ns l e = places_kept (program hs) k l (subst IsBytePlace (sym e) tt) ∙ e

  -- from a pattern's entry edges lead to its own match place alone
  own_near : (k x p end : ℕ) → k < length hs → x ≤ hi → LeadsTo B t hi (Some p) end (entry hs k, x) → p ≡ k
  own_near k x p end l near r =
      let s : Search = record { places = program hs; text = t; lo = 0; hi = hi; anchoring = anywhere; passes_over = false } in
      let w = leads_walk B t hi (places_by_bytes (program hs)) p end (entry hs k, x) r in
      let plain : IsWalkFrom (by_bytes s) (entry hs k) x p end w.0 = record {
        is_walk = other_ends (next_of (by_bytes s)) (MayEnd B (Some p)) (MayEnd B None) w.1 (ap (is_match_place None) w.2);
        pattern = w.2;
        position = w.3;
      } in
      let v = (same_walks s (program_is_closed hs) (entry hs k) x p end (entry_below hs k) near).0 (w.0, plain) in
      same_accept p k (sym v.1.pattern ∙ entry_law.own hs t hi k x v.0 l v.1.is_walk)
    where
      same_accept : (i j : ℕ) → accept i ≡ accept j → i ≡ j
      same_accept i j e = cc

pub own : (hs : List Re) (t : Text) (hi k x p end : ℕ) → k < length hs → LeadsTo (bytes_of (program hs)) t hi (Some p) end (entry hs k, x) → p ≡ k
own hs t hi k x p end l r =
    let B = bytes_of (program hs) in
    ⊎_elim (λ past. own_near hs t x k x p end l (omega arith) (leads_past B t hi x _ (omega (arith, past)) refl r))
    (λ near. own_near hs t hi k x p end l near r) (cases_lt hi x)

whole_stands : (hs : List Re) →
    Stand (program hs) 0 ((choice_of_patterns 0 (2 * length hs) hs).places 0 0 0) × (0 + (choice_of_patterns 0 (2 * length hs) hs).size ≤ length (program hs))
whole_stands hs = (stand_all [] (program hs), let e = length-program hs in omega (arith, e))

-- edges lead from the root to the match place of a pattern exactly where they lead there from its entry
pub from_entry : (hs : List Re) (t : Text) (hi p x end : ℕ) →
    LeadsTo (bytes_of (program hs)) t hi (Some p) end (0, x)
    ↔ ((p < length hs) × LeadsTo (bytes_of (program hs)) t hi (Some p) end (entry hs p, x))
from_entry hs t hi p x end =
    let B = bytes_of (program hs) in (
      λ r. let k = leaves (program hs) B (choices_kept hs t hi) t hi x end (Some p) 0 0 0 0 (2 * length hs) hs (whole_stands hs) r in
          let same : p ≡ k.0 = own hs t hi k.0 x p end k.1 k.2 in
          (subst (λ i. i < length hs) (sym same) k.1, subst (λ i. LeadsTo B t hi (Some p) end (entry hs i, x)) (sym same) k.2),
      λ r. enters (program hs) B (choices_kept hs t hi) t hi x end (Some p) 0 0 0 0 (2 * length hs) hs (whole_stands hs) p r.0 r.1,
    )

module _ (hs : List Re) (s : Search) (is : s.places ≡ program hs) where
  abbrev T : Pair → List Pair
  T = next_of (by_bytes s)

  places_are : bytes_of (program hs) ≡ bytes_of s.places
  places_are = ap bytes_of (sym is)

  -- the same of the search's own places
  pub from_entry_of : (p x end : ℕ) →
      LeadsTo (bytes_of s.places) s.text s.hi (Some p) end (0, x)
      ↔ ((p < length hs) × LeadsTo (bytes_of s.places) s.text s.hi (Some p) end (entry hs p, x))
  from_entry_of p x end =
      subst (λ ps. LeadsTo ps s.text s.hi (Some p) end (0, x) ↔ ((p < length hs) × LeadsTo ps s.text s.hi (Some p) end (entry hs p, x)))
      places_are (from_entry hs s.text s.hi p x end)

  pub own_of : (k x p end : ℕ) → k < length hs → LeadsTo (bytes_of s.places) s.text s.hi (Some p) end (entry hs k, x) → p ≡ k
  own_of k x p end l r =
      own hs s.text s.hi k x p end l (subst (λ ps. LeadsTo ps s.text s.hi (Some p) end (entry hs k, x)) (sym places_are) r)

  -- the search allows walks of the pattern, and edges lead from the root to its match place
  abbrev pub LeadsFromRoot : ℕ → ℕ → ℕ → Type 0
  LeadsFromRoot p x e = AllowsPattern s p × LeadsTo (bytes_of s.places) s.text s.hi (Some p) e (0, x)

  pub spelled_root : (p x e : ℕ) → IsSpelled (by_bytes s) p x e ↔ LeadsFromRoot p x e
  spelled_root p x e =
      let B = bytes_of s.places in (
        λ h. (
          subst (λ q. IsTrue (is_match_place (only s.anchoring) q)) h.2 (walk_ends T (λ n. IsTrue (ends (by_bytes s) n)) h.1),
          walk_leads_from B s.text s.hi (MayEnd B (Some p)) (0, x) h.0 e
              (other_ends T (λ n. IsTrue (ends (by_bytes s) n)) (MayEnd B (Some p)) h.1
              (subst (λ q. IsTrue (is_match_place (Some p) q)) (sym h.2) (eq-eqb p p refl))) h.3,
        ),
        λ r. let w = leads_walk B s.text s.hi (places_by_bytes s.places) p e (0, x) r.1 in (
          w.0,
          other_ends T (MayEnd B (Some p)) (λ n. IsTrue (ends (by_bytes s) n)) w.1
              (subst (λ q. IsTrue (is_match_place (only s.anchoring) q)) (sym w.2) r.0),
          w.2,
          w.3,
        ),
      )

  abbrev Roots : List ℕ
  Roots = entries_of hs

  spelled_leads : (p x e : ℕ) → IsSpelled (by_bytes s) p x e →
      (p < length Roots) × Reaches T (IsGoal (λ n. IsTrue (ends (by_bytes s) n)) e) (get_or Roots p 0, x)
  spelled_leads p x e h =
      let o = (spelled_root p x e).0 h in
      let r = (from_entry_of p x e).0 o.1 in (
        subst (λ n. p < n) (sym (length-entries 0 hs)) r.0,
        subst (λ q. Reaches T (IsGoal (λ n. IsTrue (ends (by_bytes s) n)) e) (q, x)) (sym (entry_index hs p r.0))
            (of_allowed (bytes_of s.places) s.text s.hi (only s.anchoring) p e o.0 r.1),
      )

  leads_spelled : (p x e : ℕ) → (p < length Roots) × Reaches T (IsGoal (λ n. IsTrue (ends (by_bytes s) n)) e) (get_or Roots p 0, x) →
      IsSpelled (by_bytes s) p x e
  leads_spelled p x e h =
      let B = bytes_of s.places in
      let below : p < length hs = subst (λ n. p < n) (length-entries 0 hs) h.0 in
      let leads = subst (λ q. LeadsTo B s.text s.hi (only s.anchoring) e (q, x)) (entry_index hs p below) h.1 in
      let o = of_some B s.text s.hi (only s.anchoring) e leads in
      let same : o.0 ≡ p = own_of p x o.0 e below o.2 in
      (spelled_root p x e).1 (
        subst (λ q. AllowsPattern s q) same o.1,
        (from_entry_of p x e).1 (below, subst (λ q. LeadsTo B s.text s.hi (Some q) e (entry hs p, x)) same o.2),
      )

  -- a walk of a pattern leads from x to e where edges lead from its entry
  pub are_roots : AreRoots (by_bytes s) (entries_of hs)
  are_roots p x e = (spelled_leads p x e, leads_spelled p x e)

  -- and so over the program
  closed_so : IsClosed s.places
  closed_so = subst (λ ps. IsClosed ps) (sym is) (program_is_closed hs)

  abbrev span : ℕ → ℕ → ℕ → Found
  span p x e = record { pattern = p; start = x; end = e }

  to_span : (q : Search) (p x e : ℕ) → x ≤ q.hi → IsSpelled q p x e → IsSpelledIn (record q { lo = x }) (span p x e)
  to_span q p x e le h = record {
    is_start = (omega arith, le, λ t. refl);
    walk = h.0;
    is_walk = h.1;
    pattern = h.2;
    position = h.3;
  }

  pub spelled_alike : (p x e : ℕ) → x ≤ s.hi → IsSpelled (by_bytes s) p x e ↔ IsSpelled s p x e
  spelled_alike p x e le =
      let r = same_spans (record s { lo = x }) (span p x e) closed_so in (
        λ h. let k = r.0 (to_span (by_bytes s) p x e le h) in (k.walk, k.is_walk, k.pattern, k.position),
        λ h. let k = r.1 (to_span s p x e le h) in (k.walk, k.is_walk, k.pattern, k.position),
      )

-- a walk leads forward
pub spelled_onward : (s : Search) (p x e : ℕ) → IsSpelled s p x e → x ≤ e
spelled_onward s p x e h =
    leads_onward s.places s.text s.hi (λ n. IsTrue (ends s n)) e
    (walk_leads_from s.places s.text s.hi (λ n. IsTrue (ends s n)) (0, x) h.0 e h.1 h.3)
