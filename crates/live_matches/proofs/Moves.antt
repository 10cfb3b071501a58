-- Entries before an edit stay, and those after it move with the text.
use Rattle.std.proofs.Common.{◌≡◌, ℕ, ◌+◌, ◌-◌, ◌≤◌, List, ◌++◌, length, take, drop, Option, Some, None, sym, ap, ◌∙◌, refl, subst, arith, take-add, length-take, length-append}
use Rattle.std.specs.Option.{option_map}
use Rattle.std.proofs.Math.Seq.{drop-append_seam, take-append-add}
use Rattle.std.proofs.lemmas.List.{drop-take, length-take-le}
use Rattle.std.proofs.lemmas.Option.{none-some, same_Some}
use Rattle.rc_text.specs.Found.{Found}
use Rattle.rc_text.specs.declared.types.MatchKind.{MatchKind}
use Rattle.rc_program.specs.Answer.{Search}
use Rattle.rc_program.specs.Matches.{begin_of, end_of}
use Rattle.rc_program.proofs.KindLemmas.{kinds_law}
use Rattle.rc_program.proofs.MatchLemmas.{IsAfterLast, LiesFrom, EndsAfter, next_lies}
use Rattle.rc_reach.specs.Edits.{match_further}
use Rattle.rc_reach.specs.Live.{found_by, over_content}
use Rattle.rc_reach.proofs.LiveLemmas.{further_by, moves}
use Rattle.rc_reach.proofs.EditLemmas as edits
use Rattle.live_matches.specs.Lists.{IsNextFixed, next_after, place_of}
use Rattle.live_matches.specs.Quiet.{BeginsBy}
use Rattle.live_matches.specs.Stretches.{IsQuiet}

-- ---- moved matches

none_of : (d : ℕ) (o : Option Found) → option_map (match_further d) o ≡ None → o ≡ None
none_of d None e = refl
none_of d (Some m) e = absurd (none-some (match_further d m) (sym e))

some_of : (d : ℕ) (o : Option Found) (m : Found) → option_map (match_further d) o ≡ Some m → (n : Found) × (o ≡ Some n) × (match_further d n ≡ m)
some_of d None m e = absurd (none-some m e)
some_of d (Some n) m e = (n, refl, same_Some (match_further d n) m e)

same_match : (m n : Found) → m.pattern ≡ n.pattern → m.start ≡ n.start → m.end ≡ n.end → m ≡ n
same_match m n p a b = rw (p, a, b) refl

same_further : (d : ℕ) (m n : Found) → match_further d m ≡ match_further d n → m ≡ n
same_further d m n e =
    let a = ap (λ (f : Found). f.start) e in
    let b = ap (λ (f : Found). f.end) e in
    same_match m n (ap (λ (f : Found). f.pattern) e) (omega (arith, a)) (omega (arith, b))

one_to_one : (d : ℕ) (o p : Option Found) → option_map (match_further d) o ≡ option_map (match_further d) p → o ≡ p
one_to_one d None p e = sym (none_of d p (sym e))
one_to_one d (Some m) p e =
    let r = some_of d p (match_further d m) (sym e) in
    ap Some (sym (same_further d r.0 m r.2)) ∙ sym r.1

begins_moved : (b z k : ℕ) (o : Option Found) → BeginsBy (k + b) (option_map (match_further b) o) → BeginsBy (k + z) (option_map (match_further z) o)
begins_moved b z k None h = tt
begins_moved b z k (Some m) h = omega (arith, h)

-- the second match is the first, moved with the text from b to z
pub record IsMoved (b z : ℕ) (m n : Found) : Type 0 where
  pub pattern : n.pattern ≡ m.pattern
  pub start : n.start + b ≡ m.start + z
  pub end : n.end + b ≡ m.end + z

module _ (kind : MatchKind) (s : Search) where
  after_last : (last : Option ℕ) → IsAfterLast (place_of last) last
  after_last None = tt
  after_last (Some p) = refl

  -- where the next match lies
  pub lies : (c : List ℕ) (last : Option ℕ) (m : Found) → next_after kind s c last ≡ Some m →
      LiesFrom begin_of end_of (found_by kind s c) 0 (length c) (kinds_law.within kind (over_content s c)) (place_of last) m
      × EndsAfter begin_of end_of (found_by kind s c) 0 (length c) (kinds_law.within kind (over_content s c)) last m
  lies c last m e =
      next_lies begin_of end_of (found_by kind s c) 0 (length c) (kinds_law.within kind (over_content s c)) (place_of last) last m (after_last last) e

  -- from the place b on, a content has what its rest has
  pub from_rest : (c : List ℕ) (b k : ℕ) → b ≤ length c → 4 ≤ k →
      next_after kind s c (Some (k + b)) ≡ option_map (match_further b) (next_after kind s (drop b c) (Some k))
  from_rest c b k inside far =
      edits.next_moved begin_of end_of (found_by kind s (drop b c)) (found_by kind s c) (match_further b) b 4 (moves b)
      (λ j h. further_by s (drop b c) c 0 b b refl (omega arith) (omega arith) inside kind j h) k (Some k) far

  pub found_rest : (c : List ℕ) (b k : ℕ) → b ≤ length c → 4 ≤ k →
      found_by kind s c (k + b) ≡ option_map (match_further b) (found_by kind s (drop b c) k)
  found_rest c b k inside far = further_by s (drop b c) c 0 b b refl (omega arith) (omega arith) inside kind k far

  -- ---- two contents that are the same from b and from z on

  module _ (c w : List ℕ) (b z : ℕ) (same : drop b c ≡ drop z w) (in_c : b ≤ length c) (in_w : z ≤ length w) where
    pub none_moved : (k : ℕ) → 4 ≤ k → next_after kind s c (Some (k + b)) ≡ None → next_after kind s w (Some (k + z)) ≡ None
    none_moved k far e =
        let t = none_of b (next_after kind s (drop b c) (Some k)) (sym (from_rest c b k in_c far) ∙ e) in
        from_rest w z k in_w far ∙ ap (option_map (match_further z)) (ap (λ r. next_after kind s r (Some k)) (sym same) ∙ t)

    pub next_moved : (k : ℕ) (m n : Found) → 4 ≤ k → IsMoved b z m n → next_after kind s c (Some (k + b)) ≡ Some m →
        next_after kind s w (Some (k + z)) ≡ Some n
    next_moved k m n far moved e =
        let r = some_of b (next_after kind s (drop b c) (Some k)) m (sym (from_rest c b k in_c far) ∙ e) in
        let a = ap (λ (f : Found). f.start) r.2 in
        let o = ap (λ (f : Found). f.end) r.2 in
        from_rest w z k in_w far ∙ ap (option_map (match_further z)) (ap (λ r. next_after kind s r (Some k)) (sym same) ∙ r.1)
        ∙ ap Some (same_match (match_further z r.0) n (ap (λ (f : Found). f.pattern) r.2 ∙ sym moved.pattern)
        (omega (arith, a, moved.start)) (omega (arith, o, moved.end)))

    -- a content that is like the second, and one that is like the first
    module _ (other : List ℕ) (r q : ℕ) (there : q + b ≡ r + z) (over : b ≤ r) (agree : take q other ≡ take q w) where
      abbrev like : List ℕ
      like = take b c ++ drop z other

      front : length (take b c) ≡ b
      front = length-take-le b c in_c

      room : z ≤ length other
      room =
          let cut = ap length agree in
          let l1 = length-take q other in
          let l2 = length-take q w in omega (arith, cut, l1, l2, in_w, there, over)

      like_rest : drop b like ≡ drop z other
      like_rest = ap (λ n. drop n like) (sym front) ∙ drop-append_seam (take b c) (drop z other)

      parts : take (r - b) (drop z other) ≡ take (r - b) (drop b c)
      parts =
          let n : q ≡ z + (r - b) = omega (arith, there, over) in
          sym (ap (λ i. drop z (take i other)) n ∙ drop-take z (r - b) other) ∙ ap (drop z) agree
          ∙ ap (λ i. drop z (take i w)) n ∙ drop-take z (r - b) w ∙ ap (take (r - b)) (sym same)

      like_first : take r like ≡ take r c
      like_first =
          let m : r ≡ b + (r - b) = omega (arith, over) in
          ap (λ i. take i like) (m ∙ ap (λ i. i + (r - b)) (sym front)) ∙ take-append-add (take b c) (drop z other) (r - b)
          ∙ ap (λ y. take b c ++ y) parts ∙ sym (ap (λ i. take i c) m ∙ take-add b (r - b) c)

      like_room : b ≤ length like
      like_room = let l = length-append (take b c) (drop z other) in omega (arith, l, front)

      -- no match begins between two places, if none does in the content that is like the first
      pub quiet_there : (j k : ℕ) → 4 ≤ j → BeginsBy (k + b) (found_by kind s like (j + b)) → BeginsBy (k + z) (found_by kind s other (j + z))
      quiet_there j k far begins =
          let rest : found_by kind s like (j + b) ≡ option_map (match_further b) (found_by kind s (drop z other) j) =
          found_rest like b j like_room far ∙ ap (λ t. option_map (match_further b) (found_by kind s t j)) like_rest in
          subst (BeginsBy (k + z)) (sym (found_rest other z j room far))
          (begins_moved b z k (found_by kind s (drop z other) j) (subst (BeginsBy (k + b)) rest begins))

      pub settled : (k : ℕ) → 4 ≤ k → IsNextFixed kind s c r (Some (k + b)) →
          next_after kind s other (Some (k + z)) ≡ next_after kind s w (Some (k + z))
      settled k far fixed =
          let rests : next_after kind s (drop z other) (Some k) ≡ next_after kind s (drop b c) (Some k) =
          one_to_one b (next_after kind s (drop z other) (Some k)) (next_after kind s (drop b c) (Some k))
          (sym (from_rest like b k like_room far ∙ ap (λ t. option_map (match_further b) (next_after kind s t (Some k))) like_rest)
          ∙ fixed like like_first ∙ from_rest c b k in_c far) in
          from_rest other z k room far ∙ ap (option_map (match_further z)) (rests ∙ ap (λ t. next_after kind s t (Some k)) same)
          ∙ sym (from_rest w z k in_w far)

    pub fixed_moved : (k r q : ℕ) → 4 ≤ k → q + b ≡ r + z → b ≤ r → IsNextFixed kind s c r (Some (k + b)) → IsNextFixed kind s w q (Some (k + z))
    fixed_moved k r q far there over fixed other agree = settled other r q there over agree k far fixed

    pub quiet_moved : (j k r q : ℕ) → 4 ≤ j → q + b ≡ r + z → b ≤ r → IsQuiet kind s c r (j + b) (k + b) → IsQuiet kind s w q (j + z) (k + z)
    quiet_moved j k r q far there over quiet other agree =
        quiet_there other r q there over agree j k far (quiet (like other r q there over agree) (like_first other r q there over agree))
