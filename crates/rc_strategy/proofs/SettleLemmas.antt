-- A span that is spelled, by what is one fact: whether it is.
use Rattle.std.proofs.Common.{◌≡◌, ◌∙◌, ℕ, ◌<◌, ◌≤◌, ◌⊎◌, IsTrue, Bool, true, false, Option, Some, None, inl, inr, ⊎_elim, sym, subst, ap, refl, arith, eq-eqb}
use Rattle.std.proofs.lemmas.Bool.{cases_lt}
use denote.Struct.Props.{props}
use Rattle.rc_text.specs.Found.{Found}
use Rattle.rc_text.specs.declared.types.MatchKind.{MatchKind}
use Rattle.rc_walks.specs.Walks.{Pair}
use Rattle.rc_program.specs.Program.{place_at, is_match_place}
use Rattle.rc_program.specs.Answer.{Search, IsStart, ends, next_of, last_of, only, pattern_at}
use Rattle.rc_program.specs.Greatest.{IsSpelledIn, IsNoGreater, AllowsPattern, greatest}
use Rattle.rc_program.specs.Kinds.{IsAnswerWhere, answer_by}
use Rattle.rc_program.proofs.AnswerLemmas.{walk_ends, walk_within}
use Rattle.rc_program.proofs.GreatestLemmas.{greatest_law, spelled_within}
use Rattle.rc_strategy.specs.Narrow.{narrowed}
use Rattle.rc_strategy.proofs.NarrowLemmas.{narrows, that_place, ways_leave, widens}

-- a span that is spelled below a lesser bound is spelled
pub spelled_up_to : (s : Search) (e : ℕ) → e ≤ s.hi → (m : Found) → IsSpelledIn (record s { hi = e }) m → IsSpelledIn s m
spelled_up_to s e le m h =
    let start = h.is_start.1 in
    record {
      is_start = (h.is_start.0, omega (arith, start, le), h.is_start.2);
      walk = h.walk;
      is_walk =
          widens e (next_of s) (next_of (record s { hi = e })) (ways_leave s.places s.text e s.hi le) (λ n. IsTrue (ends s n)) (λ n. IsTrue (ends s n))
          (λ n x. x) h.is_walk;
      pattern = h.pattern;
      position = h.position;
    }

-- The pattern may be answered, and the greatest span of the search over this one alone, for its pattern alone, is this one.
pub record IsSettled (s : Search) (m : Found) : Type 0 where
  pub start : IsStart s m.start
  pub allows : AllowsPattern s m.pattern
  pub end : m.end ≤ s.hi
  pub is_most : greatest (narrowed s m) ≡ Some m

-- a match place at which walks of the pattern alone may end
its_place : (s : Search) (m n : Found) → IsSpelledIn (narrowed s m) n → n.pattern ≡ m.pattern
its_place s m n h =
    ap pattern_at (sym h.pattern ∙ that_place m.pattern (place_at s.places (last_of h.walk).0)
    (walk_ends (next_of (narrowed s m)) (λ k. IsTrue (ends (narrowed s m) k)) h.is_walk))

less_or_same : (x y : ℕ) → x ≤ y → (x < y) ⊎ (x ≡ y)
less_or_same x y l = ⊎_elim inl (λ ge. inr (omega (arith, l, ge))) (cases_lt x y)

module _ (s : Search) (m : Found) where
  slim : IsSpelledIn s m → IsSpelledIn (narrowed s m) m
  slim h =
      let w = spelled_within s m h in
      let within =
      walk_within s.places s.text s.hi (λ n. IsTrue (ends s n)) m.start h.is_walk
      (λ n i. ⊎_elim (λ (q : (0, m.start) ≡ n). let e : m.start ≡ n.1 = ap (λ (k : Pair). k.1) q in (omega (arith, e), omega (arith, e, w.1, w.2))) (λ never. absurd never) i) in
      record {
        is_start = (omega arith, w.1, λ _. refl);
        walk = h.walk;
        is_walk =
            narrows m.end (next_of s) (next_of (narrowed s m)) (ways_leave s.places s.text m.end s.hi w.2) (λ n. IsTrue (ends s n))
            (λ n. IsTrue (is_match_place (Some m.pattern) (place_at s.places n.0))) h.is_walk
            (λ k i. subst (λ x. k.1 ≤ x) h.position (within.0 k i).1)
            (subst (λ q. IsTrue (is_match_place (Some m.pattern) q)) (sym h.pattern) (eq-eqb m.pattern m.pattern refl));
        pattern = h.pattern;
        position = h.position;
      }

  most : IsSpelledIn (narrowed s m) m → greatest (narrowed s m) ≡ Some m
  most h =
      (greatest_law.some (narrowed s m) m).1 (record {
        is_spelled = h;
        is_most = λ n g.
            let w = spelled_within (narrowed s m) n g in
            let p : n.pattern ≡ m.pattern = its_place s m n g in
            no_greater n w.0 w.2 (g.is_start.2 refl) p;
      })
    where
      no_greater : (n : Found) → m.start ≤ n.start → n.end ≤ m.end → n.start ≡ m.start → n.pattern ≡ m.pattern → IsNoGreater n m
      no_greater n a b start p =
          ⊎_elim (λ (l : n.end < m.end). inl l) (λ (e : n.end ≡ m.end). inr (e, inr (start, omega (arith, p)))) (less_or_same n.end m.end b)

  -- a span that is spelled is settled
  pub settled : IsSpelledIn s m → IsSettled s m
  settled h =
      let w = spelled_within s m h in
      record {
        start = h.is_start;
        allows =
            subst (λ q. IsTrue (is_match_place (only s.anchoring) q)) h.pattern (walk_ends (next_of s) (λ n. IsTrue (ends s n)) h.is_walk);
        end = w.2;
        is_most = most (slim h);
      }

  -- one that is settled is spelled
  pub spelled_so : IsSettled s m → IsSpelledIn s m
  spelled_so h =
      let g = ((greatest_law.some (narrowed s m) m).0 h.is_most).is_spelled in
      record {
        is_start = h.start;
        walk = g.walk;
        is_walk =
            widens m.end (next_of s) (next_of (narrowed s m)) (ways_leave s.places s.text m.end s.hi h.end) (λ n. IsTrue (ends s n))
            (λ n. IsTrue (is_match_place (Some m.pattern) (place_at s.places n.0)))
            (λ n x. subst (λ q. IsTrue (is_match_place (only s.anchoring) q)) (sym (that_place m.pattern (place_at s.places n.0) x)) h.allows) g.is_walk;
        pattern = g.pattern;
        position = g.position;
      }

-- what says whether a search may answer so
abbrev pub SettledBy : Bool → MatchKind → Search → Option Found → Type 0
SettledBy true kind s None = answer_by kind s ≡ None
SettledBy true kind s (Some m) = IsSettled s m
SettledBy false kind s o = o ≡ answer_by kind s

pub settled_prop : (early : Bool) (kind : MatchKind) (s : Search) (o : Option Found) → IsProp (SettledBy early kind s o)
settled_prop true kind s None = hlevel props
settled_prop true kind s (Some m) = hlevel props
settled_prop false kind s o = hlevel props

pub settled_by : (early : Bool) (kind : MatchKind) (s : Search) (o : Option Found) → IsAnswerWhere early kind s o → SettledBy early kind s o
settled_by true kind s None h = h
settled_by true kind s (Some m) h = settled s m h
settled_by false kind s o h = h

pub answers_so : (early : Bool) (kind : MatchKind) (s : Search) (o : Option Found) → SettledBy early kind s o → IsAnswerWhere early kind s o
answers_so true kind s None h = h
answers_so true kind s (Some m) h = spelled_so s m h
answers_so false kind s o h = h
