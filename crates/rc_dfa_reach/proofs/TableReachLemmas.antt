-- What agrees below r looks the same to runs.
use Rattle.std.proofs.Common.{◌≡◌, ℕ, ◌+◌, ◌-◌, ◌<◌, ◌≤◌, List, [], ◌∷◌, take, sym, ap, ◌∙◌, refl, arith}
use Rattle.rc_program.specs.Looks.{side_after}
use Rattle.rc_program.specs.Text.{beyond, before_at, after_at}
use Rattle.rc_program.specs.Answer.{Search}
use Rattle.rc_determinize.specs.Sides.{byte_of}
use Rattle.rc_reach.specs.Settled.{AgreesBelow, IsInside}
use Rattle.rc_reach.proofs.AgreeLemmas.{before_same, seen_same, same_bound}
use Rattle.rc_reach.proofs.SideLemmas.{one, same_after}
use Rattle.rc_dfa.specs.Machine.{Alphabet, bytes, symbols}
use Rattle.rc_dfa_reach.specs.RunReach.{seen_to, LookSame, ReadsSame}
use Rattle.rc_dfa_reach.specs.RunReach.{TableReachLaw}
use Rattle.rc_dfa_reach.proofs.RunReachLemmas.{search_same, search_within}

byte_by_one : (xs : List ℕ) → byte_of (side_after xs) ≡ byte_of (side_after (take 1 xs))
byte_by_one [] = refl
byte_by_one (x ∷ xs) = refl

-- what is read is decided by bytes no nearer
seen_from : (a : Alphabet) (r : ℕ) → r ≤ seen_to a r
seen_from bytes r = omega arith
seen_from symbols r = omega arith

module _ (a : Alphabet) (s t : Search) (r : ℕ) (in1 : IsInside s) (in2 : IsInside t) (agrees : AgreesBelow (seen_to a r) s t) where
  ahead_same : (b : Alphabet) → b ≡ a → (p : ℕ) → p < r → ReadsSame b (after_at t.text p) (after_at s.text p)
  ahead_same bytes is p h =
      let far = seen_from a r in
      byte_by_one (beyond t.text p)
      ∙ ap (λ zs. byte_of (side_after zs)) (one (beyond t.text p) (beyond s.text p) (seen_to a r - p)
      (seen_same s t (seen_to a r) in1 in2 agrees p (omega (arith, h, far))) (omega (arith, h, far)))
      ∙ sym (byte_by_one (beyond s.text p))
  ahead_same symbols is p h =
      let far : seen_to a r ≡ r + 3 = ap (λ x. seen_to x r) (sym is) in
      same_after (beyond t.text p) (beyond s.text p) (seen_to a r - p) (seen_same s t (seen_to a r) in1 in2 agrees p (omega (arith, h, far))) (omega (arith, h, far))

  behind_same : (b : Alphabet) (p : ℕ) → p ≤ r → ReadsSame b (before_at t.text p) (before_at s.text p)
  behind_same bytes p h = let far = seen_from a r in ap byte_of (before_same s t (seen_to a r) in1 in2 agrees p (omega (arith, h, far)))
  behind_same symbols p h = let far = seen_from a r in before_same s t (seen_to a r) in1 in2 agrees p (omega (arith, h, far))

  pub look_same : LookSame a r s.text s.hi t.text t.hi
  look_same =
      let m = same_bound s t (seen_to a r) in1 in2 agrees in
      let far = seen_from a r in record {
        ahead = ahead_same a refl;
        behind = behind_same a;
        far = λ h. omega (arith, m, h, far);
        near = λ h. omega (arith, m, h, far);
      }

pub table_reach_law : TableReachLaw
table_reach_law = λ m s t from anchored earliest e r in1 in2 below ended agrees.
    search_same m s.text s.hi from anchored earliest e r t.text t.hi ended (search_within m s.text s.hi from anchored earliest e r below ended).0
    (look_same m.alphabet s t r in1 in2 agrees)
