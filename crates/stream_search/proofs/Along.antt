-- The next matches of a list, in a content and in one that goes on from it.
use Rattle.std.proofs.Common.{◌≡◌, ◌∙◌, ℕ, ◌+◌, ◌<◌, ◌≤◌, true, false, List, [], ◌∷◌, ◌++◌, Option, Some, None, if◌then◌else◌, ⊎_elim, ap, append_assoc, arith, length, max, refl, subst, sym}
use Rattle.std.specs.Prelude.{IfSome}
use Rattle.std.proofs.lemmas.Bool.{cases_Bool}
use Rattle.std.proofs.lemmas.List.{append-nil}
use Rattle.rc_text.specs.Found.{Found}
use Rattle.rc_text.specs.declared.types.MatchKind.{MatchKind}
use Rattle.rc_program.specs.Answer.{Search}
use Rattle.rc_program.specs.Matches.{begin_of, end_of, is_again, next_match, unless_again}
use Rattle.rc_reach.specs.Live.{EndedBy, found_by}
use Rattle.api_meta.specs.Ahead.{AreNext}
use Rattle.api_meta.specs.Views.{regex_kind}
use Rattle.api_meta.specs.declared.regex.Regex.{Regex}
use Rattle.stream_search.specs.Searches.{TellsBefore, seeks}
use Rattle.stream_search.specs.Stepping.{found_from}
use Rattle.stream_search.specs.Streams.{IsStream, MayBecome}
use Rattle.stream_search.proofs.Kept.{told_before, told_behind}
use Rattle.stream_search.proofs.Nexts.{again_at, lies, plain, quiet, skipped, taken}
use Rattle.stream_search.proofs.Streaming.{moved_on, told_one}

-- how the next match comes about
data NextBy (find : ℕ → Option Found) (k : ℕ) (last : Option ℕ) (o : Option Found) : Type 0 where
  none : find k ≡ None → o ≡ None → NextBy find k last o
  fresh : (m : Found) → find k ≡ Some m → is_again begin_of end_of last m ≡ false → o ≡ Some m → NextBy find k last o
  again : (m : Found) → find k ≡ Some m → is_again begin_of end_of last m ≡ true → find (k + 1) ≡ o → NextBy find k last o

next_by : (find : ℕ → Option Found) (k : ℕ) (last : Option ℕ) (o : Option Found) → next_match begin_of end_of find k last ≡ o → NextBy find k last o
next_by find k last o e = by_found (find k) refl
  where
    by_found : (x : Option Found) → find k ≡ x → NextBy find k last o
    by_found None f = none f (sym e ∙ ap (unless_again begin_of end_of find k last) f)
    by_found (Some m) f =
        let step = ap (unless_again begin_of end_of find k last) f in
        ⊎_elim
        (λ a. again m f a (sym (step ∙ ap (λ b. if b then find (k + 1) else Some m) a) ∙ e))
        (λ n. fresh m f n (sym e ∙ step ∙ ap (λ b. if b then find (k + 1) else Some m) n))
        (cases_Bool (is_again begin_of end_of last m))

-- none isn't one
no_match : {A : Type 0} (m : Found) → Some m ≡ None → A
no_match m e = absurd (subst (λ o. IfSome o (λ _. ⊥)) (sym e) tt)

pub ended_later : (last : Option ℕ) (k j : ℕ) → EndedBy last k → k ≤ j → EndedBy last j
ended_later None k j ended far = tt
ended_later (Some l) k j ended far = omega (arith, ended, far)

module _ (kind : MatchKind) (s : Search) (content : List ℕ) where
  next_lies : (k : ℕ) (last : Option ℕ) (m : Found) → next_match begin_of end_of (found_by kind s content) k last ≡ Some m →
      (k ≤ m.start) × (m.start ≤ m.end) × (m.end ≤ length content)
  next_lies k last m e = by_way (next_by (found_by kind s content) k last (Some m) e)
    where
      by_way : NextBy (found_by kind s content) k last (Some m) → (k ≤ m.start) × (m.start ≤ m.end) × (m.end ≤ length content)
      by_way (none f n) = no_match m n
      by_way (fresh m1 f n is) = lies kind s content k m (f ∙ sym is)
      by_way (again m1 f a g) = let l = lies kind s content (k + 1) m g in let far = l.0 in (omega (arith, far), l.1, l.2)

  -- where such matches end
  pub along_lies : (b : ℕ) (ms : List Found) (k : ℕ) (last : Option ℕ) (j : ℕ) (l : Option ℕ) →
      AreNext (found_by kind s content) b ms k last j l → (k ≤ j) × (j ≤ max k (length content))
  along_lies b [] k last j l next = let e = next.0 in (omega (arith, e), omega (arith, e))
  along_lies b (m ∷ ms) k last j l next =
      let h = next_lies k last m next.0 in
      let rest = along_lies b ms m.end (Some m.end) j l next.2 in
      let a = rest.0 in
      let z = rest.1 in
      (omega (arith, a, h.0, h.1), omega (arith, z, h.0, h.1, h.2))

  -- none comes that begins behind the content
  pub none_comes : (b : ℕ) → length content < b → (k : ℕ) (last : Option ℕ) (o : Option Found) →
      next_match begin_of end_of (found_by kind s content) k last ≡ o → IfSome o (λ m. b ≤ m.start) → o ≡ None
  none_comes b far k last None e behind = refl
  none_comes b far k last (Some m) e behind =
      let h = next_lies k last m e in absurd (omega (arith, far, behind, h.1, h.2))

pub along_ended : (find : ℕ → Option Found) (b : ℕ) (ms : List Found) (k : ℕ) (last : Option ℕ) (j : ℕ) (l : Option ℕ) →
    EndedBy last k → AreNext find b ms k last j l → EndedBy l j
along_ended find b [] k last j l ended next =
    subst (λ x. EndedBy x j) (sym next.1) (subst (EndedBy last) (sym next.0) ended)
along_ended find b (m ∷ ms) k last j l ended next = along_ended find b ms m.end (Some m.end) j l (omega arith) next.2

abbrev pub Told : Regex → List ℕ → List Found → ℕ → Option ℕ → Type 0
Told r content told from last = IsStream (regex_kind r) (seeks r) content told true content 0 from last

-- matches that are the next ones of the content too are told of it
module _ (r : Regex) (content : List ℕ) (find : ℕ → Option Found) (b : ℕ)
    (step : (k : ℕ) (last : Option ℕ) (m : Found) → EndedBy last k → next_match begin_of end_of find k last ≡ Some m → m.start < b →
    next_match begin_of end_of (found_from r content) k last ≡ Some m) where
  pub told_along : (ms : List Found) (k : ℕ) (last : Option ℕ) (j : ℕ) (l : Option ℕ) → EndedBy last k → AreNext find b ms k last j l →
      (told : List Found) → Told r content told k last → Told r content (told ++ ms) j l
  told_along [] k last j l ended next told was =
      subst (λ x. Told r content x j l) (sym (append-nil told))
      (subst (λ x. Told r content told x l) (sym next.0) (subst (λ x. Told r content told k x) (sym next.1) was))
  told_along (m ∷ ms) k last j l ended next told was =
      let is = step k last m ended next.0 next.1 in
      let one : Told r content (told ++ m ∷ []) m.end (Some m.end) =
      told_one (regex_kind r) (seeks r) content told true content 0 k last was m
      (λ c same. subst (λ x. next_match begin_of end_of (found_from r x) k last ≡ Some m) (sym same) is) in
      subst (λ x. Told r content x j l) (append_assoc told (m ∷ []) ms)
      (told_along ms m.end (Some m.end) j l (omega arith) next.2 (told ++ m ∷ []) one)

-- ---- before a place the bytes tell all

module _ (r : Regex) (bytes : List ℕ) (b : ℕ) (known : TellsBefore r bytes b) (content : List ℕ) (goes : MayBecome false bytes content) where
  abbrev here : ℕ → Option Found
  here = found_from r bytes

  abbrev there : ℕ → Option Found
  there = found_from r content

  early : (k : ℕ) (m : Found) → here k ≡ Some m → m.start < b → there k ≡ Some m
  early k m found before = told_before r bytes b known k m found before content goes

  late : (k : ℕ) (o : Option Found) → here k ≡ o → IfSome o (λ m. b ≤ m.start) → k ≤ b → there k ≡ there b
  late k o found behind far = told_behind r bytes b known k o found behind far content goes

  -- the match before, found again at k
  stays_again : (k : ℕ) (last : Option ℕ) (m : Found) → EndedBy last k → here k ≡ Some m → is_again begin_of end_of last m ≡ true → k < b →
      next_match begin_of end_of there k last ≡ next_match begin_of end_of there (k + 1) last
  stays_again k last m ended found a before =
      let h = lies (regex_kind r) (seeks r) bytes k m found in
      let end = again_at last k m ended h.0 h.1 a in
      skipped (regex_kind r) (seeks r) content k last m ended (early k m found (omega (arith, h.1, end, before))) a

  pub next_early : (k : ℕ) (last : Option ℕ) (m : Found) → EndedBy last k → next_match begin_of end_of here k last ≡ Some m → m.start < b →
      next_match begin_of end_of there k last ≡ Some m
  next_early k last m ended e before = by_way (next_by here k last (Some m) e)
    where
      by_way : NextBy here k last (Some m) → next_match begin_of end_of there k last ≡ Some m
      by_way (none f n) = no_match m n
      by_way (fresh m1 f n is) =
          taken (regex_kind r) (seeks r) content k last m (early k m (f ∙ sym is) before)
          (subst (λ o. IfSome o (λ x. is_again begin_of end_of last x ≡ false)) (sym is) n)
      by_way (again m1 f a g) =
          let far = (lies (regex_kind r) (seeks r) bytes (k + 1) m g).0 in
          stays_again k last m1 ended f a (omega (arith, far, before))
          ∙ plain (regex_kind r) (seeks r) content k (k + 1) last (Some m) (early (k + 1) m g before) ended (omega arith)

  pub next_behind : (k : ℕ) (last : Option ℕ) (o : Option Found) → EndedBy last k → next_match begin_of end_of here k last ≡ o →
      IfSome o (λ m. b ≤ m.start) → k < b → next_match begin_of end_of there k last ≡ next_match begin_of end_of there b last
  next_behind k last o ended e behind before = by_way (next_by here k last o e)
    where
      by_way : NextBy here k last o → next_match begin_of end_of there k last ≡ next_match begin_of end_of there b last
      by_way (none f n) =
          quiet (regex_kind r) (seeks r) content k b last ended (omega (arith, before)) (late k None f tt (omega (arith, before)))
      by_way (fresh m1 f n is) =
          quiet (regex_kind r) (seeks r) content k b last ended (omega (arith, before))
          (late k (Some m1) f (subst (λ x. IfSome x (λ m. b ≤ m.start)) is behind) (omega (arith, before)))
      by_way (again m1 f a g) =
          stays_again k last m1 ended f a before
          ∙ quiet (regex_kind r) (seeks r) content (k + 1) b last (ended_later last k (k + 1) ended (omega arith)) (omega (arith, before))
          (late (k + 1) o g behind (omega (arith, before)))

  -- so the list of the content goes on from the place
  pub goes_behind : (told : List Found) (k : ℕ) (last : Option ℕ) (o : Option Found) → EndedBy last k → next_match begin_of end_of here k last ≡ o →
      IfSome o (λ m. b ≤ m.start) → k < b → Told r content told k last → Told r content told b last
  goes_behind told k last o ended e behind before was =
      moved_on (regex_kind r) (seeks r) content told true content 0 k last was b
      (λ c same. subst (λ x. next_match begin_of end_of (found_from r x) k last ≡ next_match begin_of end_of (found_from r x) b last) (sym same)
      (next_behind k last o ended e behind before))
