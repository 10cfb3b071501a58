-- A reader that takes the first mark, again and again, reads what the grammar reads.
use Rattle.std.proofs.Common.{◌≡◌, ◌⊎◌, inl, inr, ⊎_elim, ◌<◌, Bool, true, false, [], Some, None, length, refl, ap, sym, subst, ◌∙◌, arith}
use Rattle.std.proofs.lemmas.Option.{none-some, same_Some}
use Rattle.std.proofs.lemmas.List.{nil_from_length}
use Rattle.rc_pattern.specs.Re.{Re, empty}
use Rattle.rc_tokens.specs.Text.{Characters}
use Rattle.rc_tokens.specs.declared.refusal.Refusal.{Refusal}
use Rattle.rc_tokens.specs.declared.refusal.Refusal.TheVariants.{Memory, Syntax}
use Rattle.rc_tokens.proofs.StepLemmas.{pair_parts}
use Rattle.rc_parser.specs.Settings.{Settings}
use Rattle.rc_parser.specs.Pieces.{Subpattern, depth_limit}
use Rattle.rc_parser.specs.Machine.{settled, finish}
use Rattle.rc_parser.specs.Nesting.{least_depth}
use Rattle.rc_full_tokens.specs.Gaps.{Gaps, none, blank, comment, last_comment}
use Rattle.rc_full_lists.specs.Parts.{Passes}
use Rattle.rc_full_lists.specs.Read.{passed}
use Rattle.rc_full_lists.proofs.PartLemmas.{passes_there, passed_passes}
use Rattle.rc_full_lists.proofs.ListLemmas.{one_list_law}
use Rattle.rc_full_parser.specs.Marks as mark
use Rattle.rc_full_parser.specs.Marks.{Mark}
use Rattle.rc_full_parser.specs.Marked.{read_mark}
use Rattle.rc_full_parser.specs.Pieces.{IsListPart}
use Rattle.rc_full_parser.specs.Grammar as items
use Rattle.rc_full_parser.specs.Grammar.{flags, mark_settings, list_settings, Begins, fresh, Reads}
use Rattle.rc_full_parser.specs.Machine.{State, place, appended, take_mark, Moves, Leads, ends, goes, Steps, Refuses, start}
use Rattle.rc_full_parser.proofs.OneLemmas.{Front, front_of, begins_with, one_law}
use Rattle.rc_full_parser.proofs.PieceLemmas.{one_piece, one_list_part}
use Rattle.rc_full_parser.proofs.MachineLemmas.{marks_law}
use Rattle.rc_full_parser.proofs.DepthLemmas.{leads_deeper, pattern_within}

-- ---- gaps

gaps_again : (t u : Characters) → Gaps t u → Gaps u u
gaps_again _ _ (none t h) = none t h
gaps_again _ _ (blank c t u h g) = gaps_again t u g
gaps_again _ _ (comment line t u h g) = gaps_again t u g
gaps_again _ _ (last_comment line h) = none [] refl

passes_again : (x : Bool) (t u : Characters) → Passes x t u → Passes x u u
passes_again true t u g = gaps_again t u g
passes_again false t u e = refl

pub passed_again : (x : Bool) (t : Characters) → passed x (passed x t) ≡ passed x t
passed_again x t = sym (passes_there x (passed x t) (passed x t) (passes_again x t (passed x t) (passed_passes x t)))

nothing_passed : (x : Bool) → Passes x [] []
nothing_passed true = none [] refl
nothing_passed false = refl

pub not_memory : {P : Type 0} (e : Refusal) → (e ≡ Memory) ⊎ P → e ≡ Syntax → P
not_memory e h s = ⊎_elim (λ m. absurd (clash (sym s ∙ m))) (λ p. p) h
  where
    clash : ◌≡◌ {A = Refusal} Syntax Memory → ⊥
    clash x = cc

-- gaps that are passed over in part
passes_behind : (x : Bool) (t u f : Characters) → u ≡ passed x t → Passes x u f → Passes x t f
passes_behind x t u f e h =
    subst (λ y. Passes x t y) (sym (passes_there x u f h ∙ ap (passed x) e ∙ passed_again x t)) (passed_passes x t)

passes_on : (x : Bool) (t f : Characters) → Passes x t f → Passes x (passed x t) f
passes_on x t f h = subst (λ y. Passes x y f) (passes_there x t f h) (passes_again x t f h)

module _ (s : Settings) where
  leads_on : (m : State) (t : Characters) (p : Subpattern) → Leads s m t p → Leads s m (passed m.verbose t) p
  leads_on _ _ _ (ends m t p gaps done) = ends m (passed m.verbose t) p (passes_on m.verbose t [] gaps) done
  leads_on _ _ _ (goes m n t u v k p b moves l) = goes m n (passed m.verbose t) u v k p
      (record { front = b.front; gaps = passes_on m.verbose t b.front b.gaps; is_mark = b.is_mark }) moves l

  leads_behind : (m : State) (t u : Characters) (p : Subpattern) → u ≡ passed m.verbose t → Leads s m u p → Leads s m t p
  leads_behind _ t _ _ e (ends m u p gaps done) = ends m t p (passes_behind m.verbose t u [] e gaps) done
  leads_behind _ t _ _ e (goes m n u a v k p b moves l) = goes m n t a v k p
      (record { front = b.front; gaps = passes_behind m.verbose t u b.front e b.gaps; is_mark = b.is_mark }) moves l

  -- ---- the first mark

  abbrev pub Ended : State → Characters → Subpattern → Type 0
  Ended m t p = (passed m.verbose t ≡ []) × (finish s (settled m.work.last m.work.level) m.work.outer ≡ Some p)

  abbrev pub Went : State → Characters → Subpattern → Type 0
  Went m t p = (k : Mark) × (u : Characters) × (n : State) × (v : Characters) × Front s (place m) t k u × Moves s k m u n v × Leads s n v p

  pub leads_first : (m : State) (t : Characters) (p : Subpattern) → Leads s m t p → Ended m t p ⊎ Went m t p
  leads_first _ _ _ (ends m t p gaps done) = inl (sym (passes_there m.verbose t [] gaps), done)
  leads_first _ _ _ (goes m n t u v k p b moves l) = inr (k, u, n, v, front_of s (place m) t k u b, moves, l)

  pub no_front : (m : State) (t u : Characters) (k : Mark) → passed m.verbose t ≡ [] → Front s (place m) t k u → ⊥
  no_front m t u k nil f = none-some (k, u) (sym (ap (read_mark (mark_settings s (place m))) nil) ∙ f)

  one_taken : (k : Mark) (m a b : State) (t u w : Characters) → (take_mark s k m ≡ Some a) × (t ≡ u) → (take_mark s k m ≡ Some b) × (t ≡ w) → (a ≡ b) × (u ≡ w)
  one_taken k m a b t u w (h, e) (g, f) = (same_Some a b (sym h ∙ g), sym e ∙ f)

  one_move : (k : Mark) (m a b : State) (t u w : Characters) → Moves s k m t a u → Moves s k m t b w → (a ≡ b) × (u ≡ w)
  one_move mark.bar m a b t u w h g = one_taken mark.bar m a b t u w h g
  one_move mark.closes m a b t u w h g = one_taken mark.closes m a b t u w h g
  one_move (mark.sets to) m a b t u w h g = one_taken (mark.sets to) m a b t u w h g
  one_move (mark.opens k x) m a b t u w h g = one_taken (mark.opens k x) m a b t u w h g
  one_move (mark.repeats n) m a b t u w h g = one_taken (mark.repeats n) m a b t u w h g
  one_move mark.brackets m a b t u w (c, d, q, is, part, same) (c', d', q', is', part', same') =
      let f = flags (place m) in
      let (x, y, z) = one_list_law (list_settings s (place m)) f.case_insensitive t c c' d d' u w is is' in
      let there = subst (λ j. IsListPart s f j d' q) x (subst (λ j. IsListPart s f c j q) y part) in
      (sym same ∙ ap (λ q. appended q m) (one_list_part s f c' d' q q' there part') ∙ same', z)
  one_move (mark.stands k) m a b t u w (q, is, same, e) (q', is', same', e') =
      (sym same ∙ ap (λ q. appended q m) (one_piece s (flags (place m)) k q q' is is') ∙ same', sym e ∙ e')

  -- what leads on from there, where the first mark is known
  leads_next : (m n : State) (t u v : Characters) (k : Mark) (p : Subpattern) → Front s (place m) t k u → Moves s k m u n v → Leads s m t p → Leads s n v p
  leads_next m n t u v k p f moves l = ⊎_elim
      (λ (nil, _). absurd (no_front m t u k nil f))
      (λ (k', u', n', v', f', moves', l').
      let (same, rest) = pair_parts k' k u' u (sym f' ∙ f) in
      let (a, b) = one_move k m n' n u v' v (subst (λ x. Moves s x m u n' v') same (subst (λ x. Moves s k' m x n' v') rest moves')) moves in
      subst (λ x. Leads s x v p) a (subst (λ x. Leads s n' x p) b l'))
      (leads_first m t p l)

  -- ---- what is read of t is what is read of the text

  pub record Same (text : Characters) (m : State) (t : Characters) : Type 0 where
    pub gives : (p : Subpattern) → Leads s m t p → Leads s (start s) text p
    pub takes : (p : Subpattern) → Leads s (start s) text p → Leads s m t p

  pub same_start : (text t : Characters) → t ≡ passed s.ignore_whitespace text → Same text (start s) t
  same_start text t e = record {
    gives = λ p l. leads_behind (start s) text t p e l;
    takes = λ p l. subst (λ x. Leads s (start s) x p) (sym e) (leads_on (start s) text p l);
  }

  pub same_step : (text : Characters) (m n : State) (t v : Characters) → Same text m t → Steps s m t n v → Same text n v
  same_step text m n t v same (k, u, w, b, moves, e) = record {
    gives = λ p l. same.gives p (goes m n t u w k p b moves (leads_behind n w v p e l));
    takes = λ p l. subst (λ x. Leads s n x p) (sym e) (leads_on n w p (leads_next m n t u w k p (front_of s (place m) t k u b) moves (same.takes p l)));
  }

  pub same_end : (text : Characters) (m : State) (t : Characters) (p : Subpattern) → Same text m t → length t ≡ 0 →
      finish s (settled m.work.last m.work.level) m.work.outer ≡ Some p → Leads s (start s) text p
  same_end text m t p same nil done = same.gives p (ends m t p (subst (λ x. Passes m.verbose x []) (sym (nil_from_length t nil)) (nothing_passed m.verbose)) done)

  pub same_none : (text : Characters) (m : State) (t : Characters) → Same text m t → length t ≡ 0 →
      finish s (settled m.work.last m.work.level) m.work.outer ≡ None → (p : Subpattern) → Leads s (start s) text p → ⊥
  same_none text m t same nil fails p l = ⊎_elim (λ (_, done). none-some p (sym fails ∙ done))
      (λ (k, u, _, _, f, _, _). no_front m t u k (ap (passed m.verbose) (nil_from_length t nil) ∙ sym (passes_there m.verbose [] [] (nothing_passed m.verbose))) f) (leads_first m t p (same.takes p l))

  -- where the reader stops, nothing is read
  pub same_refuses : (text : Characters) (m : State) (t : Characters) → Same text m t → Refuses s m t → (p : Subpattern) → Leads s (start s) text p → ⊥
  same_refuses text m t same refuses p l = refuses p (same.takes p l) (pattern_within s text p l)

  -- ---- why it stops

  pub no_mark : (m : State) (t : Characters) → passed m.verbose t ≡ t → 0 < length t → read_mark (mark_settings s (place m)) t ≡ None → Refuses s m t
  no_mark m t here more fails p l within = ⊎_elim
      (λ (nil, _). omega (arith, more, ap length (sym here ∙ nil)))
      (λ (k, u, _, _, f, _, _). none-some (k, u) (sym (ap (read_mark (mark_settings s (place m))) here ∙ fails) ∙ f)) (leads_first m t p l)

  pub is_front : (m : State) (t u : Characters) (k : Mark) → passed m.verbose t ≡ t → read_mark (mark_settings s (place m)) t ≡ Some (k, u) → Front s (place m) t k u
  is_front m t u k here h = ap (read_mark (mark_settings s (place m))) here ∙ h

  pub no_move : (m : State) (t u : Characters) (k : Mark) → Front s (place m) t k u → ((r : State × Characters) → Moves s k m u r.0 r.1 → ⊥) → Refuses s m t
  no_move m t u k f never p l within = ⊎_elim
      (λ (nil, _). no_front m t u k nil f)
      (λ (k', u', n, v, f', moves, _).
      let (same, rest) = pair_parts k' k u' u (sym f' ∙ f) in
      never (n, v) (subst (λ x. Moves s x m u n v) same (subst (λ x. Moves s k' m x n v) rest moves))) (leads_first m t p l)

  pub too_deep : (m n : State) (t u v : Characters) (k : Mark) → Front s (place m) t k u → Moves s k m u n v → depth_limit s < least_depth n.work → Refuses s m t
  too_deep m n t u v k f moves deep p l within =
      let least = leads_deeper s n v p (leads_next m n t u v k p f moves l) in omega (arith, deep, least, within)

  pub is_step : (m n : State) (t u w v : Characters) (k : Mark) → Front s (place m) t k u → Moves s k m u n w → v ≡ passed n.verbose w → Steps s m t n v
  is_step m n t u w v k f moves e = (k, u, w, begins_with s (place m) t k u f, moves, e)

  -- ---- whole patterns

  pub reads_from_leads : (text : Characters) (p : Subpattern) → Leads s (start s) text p → Reads s text p.re
  reads_from_leads text p l = (marks_law s text p.re).1 (p.depth, l)

  pub nothing_read : (text : Characters) → ((p : Subpattern) → Leads s (start s) text p → ⊥) → (re : Re) → Reads s text re → ⊥
  nothing_read text never re r = let (depth, l) = (marks_law s text re).0 r in never (record { re = re; depth = depth }) l

  -- the empty text is read as the empty pattern
  pub empty_read : (re : Re) → Reads s [] re → re ≡ empty
  empty_read re r = one_law s [] re empty r
      (record { end = fresh s; is_read = items.ends (fresh s) [] (nothing_passed s.ignore_whitespace); depth = 0; is_whole = refl })
