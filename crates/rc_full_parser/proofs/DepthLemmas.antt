-- How deep a pattern is nested at least, and at most.
use Rattle.std.proofs.Common.{◌≡◌, ℕ, ◌-◌, ◌≤◌, Bool, List, [], ◌∷◌, Some, subst, arith}
use Rattle.std.proofs.lemmas.Option.{none-some}
use Rattle.rc_tokens.specs.Text.{Characters, ◌>>=◌}
use Rattle.rc_tokens.specs.Said as said
use Rattle.rc_parser.specs.Settings.{Settings}
use Rattle.rc_parser.specs.Pieces.{Subpattern, depth_limit}
use Rattle.rc_parser.specs.Grammar.{switched, add}
use Rattle.rc_parser.specs.Machine.{settled, take_said}
use Rattle.rc_parser.specs.Nesting.{body_depth, least_depth}
use Rattle.rc_parser.specs.declared.flags.Flags.{Flags}
use Rattle.rc_parser.proofs.DepthLemmas.{closed_grows, add_grows, deeper_depth, take_deeper, finish_deeper, WorkFits, settled_fits, take_fits, finish_within}
use Rattle.rc_class_sets.specs.Sets.{CodeSet}
use Rattle.rc_full_parser.specs.declared.marks.Piece.{Piece}
use Rattle.rc_full_parser.specs.Marks as mark
use Rattle.rc_full_parser.specs.Marks.{Mark}
use Rattle.rc_full_parser.specs.Pieces.{IsPiece, character, low_byte, high_byte, set, dot, asserts, IsListPart, list}
use Rattle.rc_full_parser.specs.Grammar.{flags}
use Rattle.rc_full_parser.specs.Machine.{State, state, place, appended, shut, Moves, Leads, ends, goes, start}
use Rattle.rc_full_parser.proofs.MachineLemmas.{took}

piece_within : (s : Settings) (f : Flags) (k : Piece) (q : Subpattern) → IsPiece s f k q → q.depth ≤ depth_limit s
piece_within s f _ _ (character c re is) = omega arith
piece_within s f _ _ (low_byte b re low is) = omega arith
piece_within s f _ _ (high_byte b high on) = omega arith
piece_within s f _ _ (set i re is) = omega arith
piece_within s f _ _ (dot has) = omega arith
piece_within s f _ _ (asserts a) = omega arith

list_within : (s : Settings) (f : Flags) (c : CodeSet) (d : ℕ) (q : Subpattern) → IsListPart s f c d q → q.depth ≤ depth_limit s
list_within s f _ _ _ (list c d re q is deep) = (deeper_depth s re (d - 1) q deep).1

module _ (s : Settings) where
  -- ---- no mark makes the pattern less deep

  taken_deeper : (k : said.Said) (m n : State) (x : Bool) (xs : List Bool) → (take_said s k m.work >>= λ v. Some (state v x xs)) ≡ Some n → least_depth m.work ≤ least_depth n.work
  taken_deeper k m n x xs h =
      let (w, is, same) = took s k m.work x xs n h in subst (λ y. least_depth m.work ≤ least_depth y.work) same (take_deeper s k m.work w is)

  shut_deeper : (m n : State) (xs : List Bool) → shut s m.work xs ≡ Some n → least_depth m.work ≤ least_depth n.work
  shut_deeper m n [] h = absurd (none-some n h)
  shut_deeper m n (x ∷ xs) h = taken_deeper said.Closes m n x xs h

  appended_deeper : (q : Subpattern) (m n : State) → appended q m ≡ n → least_depth m.work ≤ least_depth n.work
  appended_deeper q m n same =
      let l = settled m.work.last m.work.level in
      subst (λ y. least_depth m.work ≤ least_depth y.work) same (closed_grows (body_depth l) (body_depth (add q l)) m.work.outer (add_grows q l))

  moves_deeper : (k : Mark) (m n : State) (t u : Characters) → Moves s k m t n u → least_depth m.work ≤ least_depth n.work
  moves_deeper mark.bar m n t u (h, e) = taken_deeper said.Bar m n m.verbose m.around h
  moves_deeper mark.closes m n t u (h, e) = shut_deeper m n m.around h
  moves_deeper (mark.sets to) m n t u (h, e) = taken_deeper (said.Setting to.stated) m n (switched m.verbose to.ignore_whitespace) m.around h
  moves_deeper (mark.opens k x) m n t u (h, e) = taken_deeper (said.Opens k) m n (switched m.verbose x) (m.verbose ∷ m.around) h
  moves_deeper (mark.repeats b) m n t u (h, e) = taken_deeper (said.Repeats b) m n m.verbose m.around h
  moves_deeper mark.brackets m n t u (c, d, q, is, part, same) = appended_deeper q m n same
  moves_deeper (mark.stands k) m n t u (q, is, same, e) = appended_deeper q m n same

  pub leads_deeper : (m : State) (t : Characters) (p : Subpattern) → Leads s m t p → least_depth m.work ≤ p.depth
  leads_deeper _ _ _ (ends m t p gaps done) = finish_deeper s (settled m.work.last m.work.level) m.work.outer p done
  leads_deeper _ _ _ (goes m n t u v k p b moves l) =
      let here = moves_deeper k m n u v moves in let there = leads_deeper n v p l in omega (arith, here, there)

  -- ---- no part is deeper than the limit

  taken_fits : (k : said.Said) (m n : State) (x : Bool) (xs : List Bool) → WorkFits s m.work → (take_said s k m.work >>= λ v. Some (state v x xs)) ≡ Some n → WorkFits s n.work
  taken_fits k m n x xs fits h =
      let (w, is, same) = took s k m.work x xs n h in subst (λ y. WorkFits s y.work) same (take_fits s k m.work w fits is)

  shut_fits : (m n : State) (xs : List Bool) → WorkFits s m.work → shut s m.work xs ≡ Some n → WorkFits s n.work
  shut_fits m n [] fits h = absurd (none-some n h)
  shut_fits m n (x ∷ xs) fits h = taken_fits said.Closes m n x xs fits h

  appended_fits : (q : Subpattern) (m n : State) → q.depth ≤ depth_limit s → WorkFits s m.work → appended q m ≡ n → WorkFits s n.work
  appended_fits q m n small fits same =
      subst (λ y. WorkFits s y.work) same (settled_fits s m.work.last m.work.level (fits.1) (fits.0), small, fits.2)

  moves_fit : (k : Mark) (m n : State) (t u : Characters) → WorkFits s m.work → Moves s k m t n u → WorkFits s n.work
  moves_fit mark.bar m n t u fits (h, e) = taken_fits said.Bar m n m.verbose m.around fits h
  moves_fit mark.closes m n t u fits (h, e) = shut_fits m n m.around fits h
  moves_fit (mark.sets to) m n t u fits (h, e) = taken_fits (said.Setting to.stated) m n (switched m.verbose to.ignore_whitespace) m.around fits h
  moves_fit (mark.opens k x) m n t u fits (h, e) = taken_fits (said.Opens k) m n (switched m.verbose x) (m.verbose ∷ m.around) fits h
  moves_fit (mark.repeats b) m n t u fits (h, e) = taken_fits (said.Repeats b) m n m.verbose m.around fits h
  moves_fit mark.brackets m n t u fits (c, d, q, is, part, same) = appended_fits q m n (list_within s (flags (place m)) c d q part) fits same
  moves_fit (mark.stands k) m n t u fits (q, is, same, e) = appended_fits q m n (piece_within s (flags (place m)) k q is) fits same

  leads_within : (m : State) (t : Characters) (p : Subpattern) → WorkFits s m.work → Leads s m t p → p.depth ≤ depth_limit s
  leads_within _ _ _ fits (ends m t p gaps done) =
      finish_within s (settled m.work.last m.work.level) m.work.outer p (settled_fits s m.work.last m.work.level (fits.1) (fits.0)) done
  leads_within _ _ _ fits (goes m n t u v k p b moves l) = leads_within n v p (moves_fit k m n u v fits moves) l

  pub pattern_within : (t : Characters) (p : Subpattern) → Leads s (start s) t p → p.depth ≤ depth_limit s
  pattern_within t p l = leads_within (start s) t p ((omega arith, omega arith), tt, tt) l
