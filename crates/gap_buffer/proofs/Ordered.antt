-- Matches in order: those that begin before a place come first.
use Rattle.std.proofs.Common.{ℕ, ◌≡◌, ◌≤◌, ◌∙◌, ◌++◌, ◌∷◌, [], Bool, false, true, List, Option, Some, ap, arith, cond, refl, subst, sym}
use Rattle.std.specs.List.{filter, last_or}
use Rattle.std.proofs.lemmas.List.{append-nil}
use Rattle.std.proofs.lemmas.List.Elements.{filter-append}
use Rattle.rc_text.specs.Found.{Found}
use Rattle.rc_program.specs.Matches.{AreInOrder, begin_of, end_of}

-- what comes last of matches in order is in order
after : (hi : ℕ) (xs ys : List Found) → AreInOrder begin_of end_of hi (xs ++ ys) → AreInOrder begin_of end_of hi ys
after hi [] ys o = o
after hi (x ∷ []) [] o = tt
after hi (x ∷ []) (y ∷ ys) o = o.3
after hi (x ∷ n ∷ xs) ys o = after hi (n ∷ xs) ys o.3

module _ (p : Found → Bool) (at hi : ℕ) (fails : (m : Found) → at ≤ m.start → p m ≡ false) where
  -- from a match on that begins at the place or later, none passes the test
  none_from : (m : Found) (ms : List Found) → AreInOrder begin_of end_of hi (m ∷ ms) → at ≤ m.start → filter p (m ∷ ms) ≡ []
  none_from m [] o le = ap (λ b. cond b (m ∷ []) []) (fails m le)
  none_from m (n ∷ ms) o le = ap (λ b. cond b (m ∷ filter p (n ∷ ms)) (filter p (n ∷ ms))) (fails m le) ∙ none_from n ms o.3 (omega (arith, o.0, o.1, le))

  -- so those that were looked at are all that pass
  pub passed : (all done rest : List Found) (m : Found) → AreInOrder begin_of end_of hi all → all ≡ done ++ m ∷ rest → at ≤ m.start →
      filter p done ≡ filter p all
  passed all done rest m o e le =
      let o' : AreInOrder begin_of end_of hi (done ++ m ∷ rest) = subst (AreInOrder begin_of end_of hi) e o in
      sym
      (ap (filter p) e ∙ filter-append p done (m ∷ rest) ∙ ap (λ zs. filter p done ++ zs) (none_from m rest (after hi done (m ∷ rest) o') le)
      ∙ append-nil (filter p done))

-- one more that passes, and one that does not
pub one_more : (p : Found → Bool) (done : List Found) (m : Found) → p m ≡ true → filter p (done ++ m ∷ []) ≡ filter p done ++ m ∷ []
one_more p done m passes = filter-append p done (m ∷ []) ∙ ap (λ b. filter p done ++ cond b (m ∷ []) []) passes

pub no_more : (p : Found → Bool) (done : List Found) (m : Found) → p m ≡ false → filter p (done ++ m ∷ []) ≡ filter p done
no_more p done m fails = filter-append p done (m ∷ []) ∙ ap (λ b. filter p done ++ cond b (m ∷ []) []) fails ∙ append-nil (filter p done)

-- the last of a list with one more
pub last_push : (o : Option Found) (ms : List Found) (m : Found) → last_or o (ms ++ m ∷ []) ≡ Some m
last_push o [] m = refl
last_push o (n ∷ ms) m = last_push (Some n) ms m
