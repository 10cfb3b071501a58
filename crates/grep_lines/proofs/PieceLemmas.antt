-- Only proofs use this file.
-- Lines that are read piece by piece.
use Rattle.std.proofs.Common.{ℕ, suc, ◌≡◌, ◌<◌, ◌≤◌, ◌+◌, ◌-◌, ◌∙◌, ◌++◌, ◌∷◌, ◌⊎◌, inl, inr, [], true, List, Option, Some, None, IfSome, ap, append_assoc, arith, cond, refl, sym, subst, length, length-append, get_or, ne_eqb}
use Rattle.std.proofs.Math.ListN.{get_or-append}
use Rattle.std.proofs.lemmas.Bool.{cases_lt}
use Rattle.std.proofs.lemmas.List.{append-nil, get_or-append-add}
use Rattle.grep_lines.specs.Lines.{before_first, lines}
use Rattle.grep_lines.specs.Pieces.{BeginsLine, EndsNone, SplitsAt, TellsPiece, TellsRest}
use Rattle.grep_lines.specs.Selected.{TakesLine}
use Rattle.grep_lines.specs.declared.pieces.Behind.{Behind}
use Rattle.grep_lines.specs.declared.pieces.Behind.TheVariants.{End, More, Terminator}
use Rattle.grep_lines.specs.declared.pieces.Piece.{Piece}
use Rattle.grep_lines.proofs.LineLemmas.{lines_cut}

module _ (stop : ℕ) where
  -- no line ends in two pieces
  pub both_free : (xs ys : List ℕ) → EndsNone stop xs → EndsNone stop ys → EndsNone stop (xs ++ ys)
  both_free xs ys free more k lt is = at (cases_lt k (length xs))
    where
      at : (k < length xs) ⊎ (length xs ≤ k) → ⊥
      at (inl near) = free k near (sym (get_or-append xs ys 0 k near) ∙ is)
      at (inr far) =
          let there : length xs + (k - length xs) ≡ k = omega (arith, far) in
          more (k - length xs) (omega (arith, lt, far, length-append xs ys))
          (sym (get_or-append-add xs ys (k - length xs) 0) ∙ ap (λ n. get_or (xs ++ ys) n 0) there ∙ is)

  -- a text in which no line ends is one
  pub lines_whole : (xs : List ℕ) → EndsNone stop xs → 0 < length xs → lines stop xs ≡ xs ∷ []
  lines_whole [] free some = absurd (omega (arith, some))
  lines_whole (x ∷ []) free some =
      ap (λ c. cond c ([] ∷ lines stop []) (before_first x (lines stop []))) (ne_eqb x stop (free 0 (omega arith)))
  lines_whole (x ∷ y ∷ ys) free some =
      ap (λ c. cond c ([] ∷ lines stop (y ∷ ys)) (before_first x (lines stop (y ∷ ys)))) (ne_eqb x stop (free 0 (omega arith)))
      ∙ ap (before_first x) (lines_whole (y ∷ ys) (λ k lt. free (suc k) (omega (arith, lt))) (omega arith))

  -- a line that ends behind its bytes was taken
  module _ (text line rest : List ℕ) (left : Option (List ℕ)) (free : EndsNone stop line) (known : left ≡ Some rest) where
    pub takes_ended : text ≡ line ++ stop ∷ rest → TakesLine stop text true line left
    takes_ended split = (rest, known, ap (lines stop) split ∙ lines_cut stop line rest free)

    pub takes_last : text ≡ line → rest ≡ [] → 0 < length line → TakesLine stop text true line left
    takes_last split none some = (rest, known, ap (lines stop) split ∙ lines_whole line free some ∙ ap (λ ys. line ∷ lines stop ys) (sym none))

-- ---- what is told

split_both : (stop : ℕ) (text xs mid ys rest : List ℕ) (behind : Behind) → text ≡ xs ++ mid → SplitsAt stop mid ys rest behind → SplitsAt stop text (xs ++ ys) rest behind
split_both stop text xs mid ys rest More e f = e ∙ ap (λ zs. xs ++ zs) f ∙ sym (append_assoc xs ys rest)
split_both stop text xs mid ys rest Terminator e f = e ∙ ap (λ zs. xs ++ zs) f ∙ sym (append_assoc xs ys (stop ∷ rest))
split_both stop text xs mid ys rest End e f = (e ∙ ap (λ zs. xs ++ zs) f.0, f.1)

module _ (stop : ℕ) (a b c : List ℕ → Type 0) where
  -- nothing was told yet
  pub tells_none : (old : Option (List ℕ)) → ((bytes : List ℕ) → a bytes → b bytes) → IfSome old (λ text. TellsPiece stop a b text old (record { len = 0; behind = More }))
  tells_none None same = tt
  tells_none (Some text) same = record {
    piece = [];
    told = λ bytes h. subst b (sym (append-nil bytes)) (same bytes h);
    counted = refl;
    free = λ k lt. absurd (omega (arith, lt));
    rest = text;
    known = refl;
    split = refl;
  }

  module _ (mid left : Option (List ℕ)) (len : ℕ) (p : Piece) where
    more : (text : List ℕ) → TellsPiece stop a b text mid (record { len = len; behind = More }) → IfSome mid (λ text. TellsPiece stop b c text left p) →
        TellsPiece stop a c text left (record p { len = len + p.len })
    more text x next =
        let y : TellsPiece stop b c x.rest left p = subst (λ o. IfSome o (λ text. TellsPiece stop b c text left p)) x.known next in
        record {
          piece = x.piece ++ y.piece;
          told = λ bytes h. subst c (append_assoc bytes x.piece y.piece) (y.told (bytes ++ x.piece) (x.told bytes h));
          counted = omega (arith, x.counted, y.counted, length-append x.piece y.piece);
          free = both_free stop x.piece y.piece x.free y.free;
          rest = y.rest;
          known = y.known;
          split = split_both stop text x.piece x.rest y.piece y.rest p.behind x.split y.split;
        }

    -- one piece, and then another
    pub tells_more : (old : Option (List ℕ)) → IfSome old (λ text. TellsPiece stop a b text mid (record { len = len; behind = More })) →
        IfSome mid (λ text. TellsPiece stop b c text left p) → (sum : ℕ) → len + p.len ≡ sum → (behind : Behind) → p.behind ≡ behind →
        IfSome old (λ text. TellsPiece stop a c text left (record { len = sum; behind = behind }))
    tells_more None x next sum is behind last = tt
    tells_more (Some text) x next sum is behind last =
        subst (λ n. TellsPiece stop a c text left (record { len = n; behind = behind })) is
        (subst (λ k. TellsPiece stop a c text left (record { len = len + p.len; behind = k })) last (more text x next))

module _ (stop : ℕ) (a b : List ℕ → Type 0) (left : Option (List ℕ)) (len : ℕ) where
  -- the last piece was told
  pub tells_ended : (old : Option (List ℕ)) → IfSome old (λ text. TellsPiece stop a b text left (record { len = len; behind = Terminator })) →
      IfSome old (λ text. TellsRest stop a b text left len)
  tells_ended None x = tt
  tells_ended (Some text) x =
      record { piece = x.piece; told = x.told; counted = x.counted; free = x.free; rest = x.rest; known = x.known; split = inl x.split }

  pub tells_last : (old : Option (List ℕ)) → IfSome old (λ text. TellsPiece stop a b text left (record { len = len; behind = End })) →
      IfSome old (λ text. TellsRest stop a b text left len)
  tells_last None x = tt
  tells_last (Some text) x =
      record { piece = x.piece; told = x.told; counted = x.counted; free = x.free; rest = x.rest; known = x.known; split = inr x.split }

-- ---- a line that is begun

-- what else holds holds of known bytes
pub with_known : (old : Option (List ℕ)) (P : List ℕ → Type 0) (Q : Type 0) → IfSome old P → Q → IfSome old (λ text. P text × Q)
with_known None P Q h also = tt
with_known (Some text) P Q h also = (h, also)

module _ (stop : ℕ) where
  -- nothing was read yet
  pub begins_none : (old : Option (List ℕ)) (line : List ℕ) → line ≡ [] → IfSome old (λ text. BeginsLine stop text line old)
  begins_none None line none = tt
  begins_none (Some text) line none =
      subst (λ xs. BeginsLine stop text xs (Some text)) (sym none)
      (record { rest = text; known = refl; split = refl; free = λ k lt. absurd (omega (arith, lt)) })

  module _ (mid left : Option (List ℕ)) (line new : List ℕ) (p : Piece) where
    -- The bytes of a line, and a piece more.
    record Joined (text : List ℕ) (behind : Behind) : Type 0 where
      free : EndsNone stop new
      rest : List ℕ
      known : left ≡ Some rest
      split : SplitsAt stop text new rest behind

    join : (text : List ℕ) → BeginsLine stop text line mid → IfSome mid (λ text. TellsPiece stop (λ bytes. line ≡ bytes) (λ bytes. new ≡ bytes) text left p) →
        Joined text p.behind
    join text x next =
        let y : TellsPiece stop (λ bytes. line ≡ bytes) (λ bytes. new ≡ bytes) x.rest left p =
        subst (λ o. IfSome o (λ text. TellsPiece stop (λ bytes. line ≡ bytes) (λ bytes. new ≡ bytes) text left p)) x.known next in
        let is : new ≡ line ++ y.piece = y.told line refl in
        record {
          free = subst (EndsNone stop) (sym is) (both_free stop line y.piece x.free y.free);
          rest = y.rest;
          known = y.known;
          split = subst (λ xs. SplitsAt stop text xs y.rest p.behind) (sym is) (split_both stop text line x.rest y.piece y.rest p.behind x.split y.split);
        }

    module _ (old : Option (List ℕ)) (begun : IfSome old (λ text. BeginsLine stop text line mid))
        (told : IfSome mid (λ text. TellsPiece stop (λ bytes. line ≡ bytes) (λ bytes. new ≡ bytes) text left p)) where
      -- the line goes on
      pub begins_more : p.behind ≡ More → IfSome old (λ text. BeginsLine stop text new left)
      begins_more = at old begun
        where
          at : (o : Option (List ℕ)) → IfSome o (λ text. BeginsLine stop text line mid) → p.behind ≡ More → IfSome o (λ text. BeginsLine stop text new left)
          at None x is = tt
          at (Some text) x is =
              let j : Joined text More = subst (Joined text) is (join text x told) in
              record { rest = j.rest; known = j.known; split = j.split; free = j.free }

      -- it ends
      pub begins_ended : p.behind ≡ Terminator → IfSome old (λ text. TakesLine stop text true new left)
      begins_ended = at old begun
        where
          at : (o : Option (List ℕ)) → IfSome o (λ text. BeginsLine stop text line mid) → p.behind ≡ Terminator → IfSome o (λ text. TakesLine stop text true new left)
          at None x is = tt
          at (Some text) x is =
              let j : Joined text Terminator = subst (Joined text) is (join text x told) in
              takes_ended stop text new j.rest left j.free j.known j.split

      -- the text ends
      pub begins_last : p.behind ≡ End → 0 < length new → IfSome old (λ text. TakesLine stop text true new left)
      begins_last = at old begun
        where
          at : (o : Option (List ℕ)) → IfSome o (λ text. BeginsLine stop text line mid) → p.behind ≡ End → 0 < length new → IfSome o (λ text. TakesLine stop text true new left)
          at None x is some = tt
          at (Some text) x is some =
              let j : Joined text End = subst (Joined text) is (join text x told) in
              takes_last stop text new j.rest left j.free j.known j.split.0 j.split.1 some

  -- The line whose first bytes are held, and whose rest was told.
  module _ (a b : List ℕ → Type 0) (mid left : Option (List ℕ)) (line : List ℕ) (len : ℕ) where
    ended : (text xs ys rest : List ℕ) → EndsNone stop (line ++ ys) → left ≡ Some rest → 0 < length line → text ≡ line ++ xs →
        (xs ≡ ys ++ stop ∷ rest) ⊎ ((xs ≡ ys) × (rest ≡ [])) → TakesLine stop text true (line ++ ys) left
    ended text xs ys rest free known some split (inl cut) =
        takes_ended stop text (line ++ ys) rest left free known (split ∙ ap (λ zs. line ++ zs) cut ∙ sym (append_assoc line ys (stop ∷ rest)))
    ended text xs ys rest free known some split (inr last) =
        takes_last stop text (line ++ ys) rest left free known (split ∙ ap (λ zs. line ++ zs) last.0) last.1 (omega (arith, some, length-append line ys))

    pub takes_told : (old : Option (List ℕ)) → IfSome old (λ text. BeginsLine stop text line mid) → 0 < length line → a line →
        IfSome mid (λ text. TellsRest stop a b text left len) →
        IfSome old (λ text. (whole : List ℕ) × TakesLine stop text true whole left × (length line + len ≡ length whole) × b whole)
    takes_told None x some held told = tt
    takes_told (Some text) x some held told =
        let y : TellsRest stop a b x.rest left len = subst (λ o. IfSome o (λ text. TellsRest stop a b text left len)) x.known told in (
          line ++ y.piece,
          ended text x.rest y.piece y.rest (both_free stop line y.piece x.free y.free) y.known some x.split y.split,
          ap (λ n. length line + n) y.counted ∙ sym (length-append line y.piece),
          y.told line held,
        )
