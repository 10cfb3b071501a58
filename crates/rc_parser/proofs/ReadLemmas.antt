-- A reader that takes the first mark, again and again, reads what the grammar reads.
use Rattle.std.proofs.Common.{◌≡◌, ℕ, zero, suc, ◌<◌, ◌⊎◌, inl, inr, ⊎_elim, false, [], ◌∷◌, ◌++◌, Option, Some, None, length, refl, ap, sym, subst, ◌∙◌, arith}
use Rattle.std.proofs.lemmas.Option.{none-some, same_Some}
use Rattle.std.proofs.lemmas.List.{nil_from_length}
use Rattle.rc_pattern.specs.Re.{Re, empty}
use Rattle.rc_tokens.specs.Text.{Characters, ◌>>=◌}
use Rattle.rc_tokens.specs.Marks.{Mark, said, written, takes_more, AreMarks, BeginsWithMark}
use Rattle.rc_tokens.specs.Said.{Said}
use Rattle.rc_tokens.specs.Lexer.{lex}
use Rattle.rc_tokens.proofs.StepLemmas.{some_parts}
use Rattle.rc_tokens.proofs.SoundLemmas.{lex_sound, lex_shorter}
use Rattle.rc_tokens.proofs.AgainLemmas.{lex_again}
use Rattle.rc_parser.specs.Settings.{Settings, first_flags}
use Rattle.rc_parser.specs.Pieces.{Subpattern, leaf}
use Rattle.rc_parser.specs.Grammar.{marks, begin, reads, whole, Reads}
use Rattle.rc_parser.specs.Machine.{Work, settled, take_said, finish, run_marks, Has, fresh}
use Rattle.rc_parser.proofs.TreeLemmas.{body_run, bodies_of, no_operator}

lex_mark : (t : Characters) (k : Said) (u : Characters) → lex t ≡ Some (k, u) → BeginsWithMark t k u
lex_mark t k u h = lex_sound t k u h

mark_lex : (m : Mark) (u : Characters) (k : Said) → said m ≡ Some k → takes_more m u ≡ false → lex (written m ++ u) ≡ Some (k, u)
mark_lex m u k h e = lex_again (written m ++ u) k u (m, h, refl, e)

module _ (s : Settings) where
  -- the first token of what leads to p
  has_first : (w : Work) (t : Characters) (p : Subpattern) → Has s w t p →
      ((t ≡ []) × (finish s (settled w.last w.level) w.outer ≡ Some p))
      ⊎ ((k : Said) × (u : Characters) × (v : Work) × (lex t ≡ Some (k, u)) × (take_said s k w ≡ Some v) × Has s v u p)
  has_first w t p ([], is, h) = inl (is, h)
  has_first w t p (m ∷ ms, (u, is, alone, are), h) =
      let (k, is_token, more) = some_parts (said m) (λ k. take_said s k w >>= λ v. run_marks s v ms) p h in
      let (v, took, rest) = some_parts (take_said s k w) (λ v. run_marks s v ms) p more in
      inr (k, u, v, ap lex is ∙ mark_lex m u k is_token alone, took, (ms, are, rest))

  has_more : (w v : Work) (t : Characters) (k : Said) (u : Characters) (p : Subpattern) → lex t ≡ Some (k, u) → take_said s k w ≡ Some v → Has s v u p → Has s w t p
  has_more w v t k u p is_lex took (ms, are, h) =
      let (m, is_token, is, alone) = lex_mark t k u is_lex in (
        m ∷ ms,
        (u, is, alone, are),
        ap (λ o. o >>= λ k. take_said s k w >>= λ v. run_marks s v ms) is_token
            ∙ ap (λ o. o >>= λ v. run_marks s v ms) took ∙ h,
      )

  -- what is read of t from w is what was read of the whole text
  pub record Same (start : Work) (text : Characters) (w : Work) (t : Characters) : Type 0 where
    pub gives : (p : Subpattern) → Has s w t p → Has s start text p
    pub takes : (p : Subpattern) → Has s start text p → Has s w t p

  pub same_start : (w : Work) (t : Characters) → Same w t w t
  same_start w t = record { gives = λ p h. h; takes = λ p h. h }

  pub same_step : (start w v : Work) (text t u : Characters) (k : Said) → Same start text w t → lex t ≡ Some (k, u) → take_said s k w ≡ Some v →
      Same start text v u
  same_step start w v text t u k same is_lex took = record {
    gives = λ p h. same.gives p (has_more w v t k u p is_lex took h);
    takes = λ p h. ⊎_elim (λ (nil, _). absurd (none-some (k, u) (sym (ap lex nil) ∙ is_lex)))
        (λ (k', u', v', lexed, taken, more). next p k' u' v' (sym lexed ∙ is_lex) taken more) (has_first w t p (same.takes p h));
  }
    where
      next : (p : Subpattern) (k' : Said) (u' : Characters) (v' : Work) → ◌≡◌ {A = Option (Said × Characters)} (Some (k', u')) (Some (k, u)) → take_said s k' w ≡ Some v' →
          Has s v' u' p → Has s v u p
      next p k' u' v' e taken more =
          let both = same_Some (k', u') (k, u) e in
          let same_v : v' ≡ v = same_Some v' v (sym taken ∙ ap (λ (x : Said × Characters). take_said s x.0 w) both ∙ took) in
          subst (λ x. Has s x u p) same_v (subst (λ (x : Said × Characters). Has s v' x.1 p) both more)

  -- where the reader stops, nothing is read
  pub same_stuck : (start w : Work) (text t : Characters) → Same start text w t → lex t ≡ None → 0 < length t → (p : Subpattern) → ¬ Has s start text p
  same_stuck start w text t same is_lex long p h =
      ⊎_elim (λ (nil, _). omega (arith, long, ap length nil)) (λ (k, u, v, lexed, _, _). none-some (k, u) (sym is_lex ∙ lexed)) (has_first w t p (same.takes p h))

  pub same_refused : (start w : Work) (text t u : Characters) (k : Said) → Same start text w t → lex t ≡ Some (k, u) → take_said s k w ≡ None →
      (p : Subpattern) → ¬ Has s start text p
  same_refused start w text t u k same is_lex refused p h =
      ⊎_elim (λ (nil, _). none-some (k, u) (sym (ap lex nil) ∙ is_lex))
      (λ (k', u', v, lexed, taken, _). none-some v (sym refused
      ∙ ap (λ (x : Said × Characters). take_said s x.0 w) (sym (same_Some (k', u') (k, u) (sym lexed ∙ is_lex))) ∙ taken)) (has_first w t p (same.takes p h))

  pub same_end : (start w : Work) (text t : Characters) → Same start text w t → length t ≡ 0 → (p : Subpattern) →
      finish s (settled w.last w.level) w.outer ≡ Some p → Has s start text p
  same_end start w text t same nil p h = same.gives p ([], nil_from_length t nil, h)

  pub same_none : (start w : Work) (text t : Characters) → Same start text w t → length t ≡ 0 → finish s (settled w.last w.level) w.outer ≡ None →
      (p : Subpattern) → ¬ Has s start text p
  same_none start w text t same nil none p h =
      ⊎_elim (λ (_, done). none-some p (sym none ∙ done))
      (λ (k, u, v, lexed, _, _). none-some (k, u) (sym (ap lex (nil_from_length t nil)) ∙ lexed)) (has_first w t p (same.takes p h))

  pub has_from_reads : (t : Characters) (re : Re) → Reads s t re → (depth : ℕ) × Has s (fresh s) t (record { re = re; depth = depth })
  has_from_reads t re r = (
    r.depth,
    (
      marks r.body,
      r.is_written,
      body_run s r.body (begin (first_flags s) 0 []) ∙ ap (λ o. o >>= whole s) r.is_read ∙ r.is_whole,
    ),
  )

  pub reads_from_has : (t : Characters) (p : Subpattern) → Has s (fresh s) t p → Reads s t p.re
  reads_from_has t p (ms, are, h) =
      let (body, is) = no_operator [] ms (bodies_of s ms (begin (first_flags s) 0 []) None [] p h) in
      let run : run_marks s (fresh s) (marks body) ≡ Some p = ap (run_marks s (fresh s)) (sym is) ∙ h in
      let (end, is_read, is_whole) = some_parts (reads s (begin (first_flags s) 0 []) body) (whole s) p (sym (body_run s body (begin (first_flags s) 0 [])) ∙ run) in
      record { body = body; is_written = subst (λ x. AreMarks x t) is are; end = end; is_read = is_read; depth = p.depth; is_whole = is_whole }

  pub nothing_read : (t : Characters) → ((p : Subpattern) → Has s (fresh s) t p → ⊥) → (re : Re) → Reads s t re → ⊥
  nothing_read t never re r = let (d, h) = has_from_reads t re r in never (record { re = re; depth = d }) h

  -- by the number of characters: the marks are the same one after another
  has_one : (n : ℕ) (w : Work) (t : Characters) (p q : Subpattern) → length t < n → Has s w t p → Has s w t q → p ≡ q
  has_one zero w t p q b h g = absurd (omega (arith, b))
  has_one (suc n) w t p q b h g = ⊎_elim
      (λ (nil, done). ⊎_elim (λ (_, done'). same_Some p q (sym done ∙ done'))
      (λ (k, u, v, lexed, _, _). absurd (none-some (k, u) (sym (ap lex nil) ∙ lexed))) (has_first w t q g))
      (λ (k, u, v, lexed, taken, more). has_one n v u p q (omega (arith, b, lex_shorter t k u lexed)) more
      ((same_step w w v t t u k (same_start w t) lexed taken).takes q g)) (has_first w t p h)

  -- no text is read as two
  pub reads_one : (t : Characters) (a b : Re) → Reads s t a → Reads s t b → a ≡ b
  reads_one t a b x y =
      let (d, h) = has_from_reads t a x in let (e, g) = has_from_reads t b y in
      ap (λ (r : Subpattern). r.re) (has_one (suc (length t)) (fresh s) t (record { re = a; depth = d }) (record { re = b; depth = e }) (omega arith) h g)

  -- the empty text is read as the empty pattern
  pub empty_read : (re : Re) → Reads s [] re → re ≡ empty
  empty_read re r = reads_one [] re empty r (reads_from_has [] (leaf empty) ([], refl, refl))
