-- The patterns of characters, sets and lists.
use Rattle.std.proofs.Common.{◌≡◌, ◌⊎◌, inl, inr, ⊎_elim, ℕ, ◌+◌, ◌-◌, ◌≤◌, nat_lt, Bool, true, false, List, [], ◌∷◌, Option, Some, None, Result, Ok, Err, ap, sym, subst, ◌∙◌, true≢false, arith}
use Rattle.std.proofs.lemmas.Option.{none-some, same_Some}
use Rattle.std.proofs.lemmas.Bool.{ltb-true}
use Rattle.std.specs.Result.{IsErrAnd}
use Rattle.rc_pattern.specs.Re.{Re, Range, look}
use Rattle.rc_pattern.specs.Meaning.{literal_of}
use Rattle.rc_pattern.specs.Dots.{dot_of}
use Rattle.rc_tokens.specs.Text.{Characters, ◌>>◌}
use Rattle.rc_tokens.specs.Said as sense
use Rattle.rc_tokens.specs.declared.tokens.Assertion.{Assertion}
use Rattle.rc_tokens.specs.declared.refusal.Refusal.{Refusal}
use Rattle.rc_tokens.specs.declared.refusal.Refusal.TheVariants.{Memory}
use Rattle.rc_tokens.specs.View.{IsResultOf}
use Rattle.rc_tokens.specs.declared.tokens.Escape.TheVariants as says
use Rattle.rc_tokens.proofs.StepLemmas.{guard_parts}
use Rattle.rc_parser.specs.Settings.{Settings}
use Rattle.rc_parser.specs.Pieces.{Subpattern, leaf, depth_limit, set_re, has_dot, dot_kind, look_of, sense_part}
use Rattle.rc_parser.specs.declared.flags.Flags.{Flags}
use Rattle.rc_class_sets.specs.Sets.{CodeSet, AreRangesOf}
use Rattle.rc_class_sets.proofs.RangeLemmas.{ranges_law}
use Rattle.rc_full_escapes.specs.declared.escapes.FullEscape.{FullEscape}
use Rattle.rc_full_escapes.specs.declared.escapes.FullEscape.TheVariants as escapes
use Rattle.rc_full_parser.specs.declared.marks.MarkSettings.{MarkSettings}
use Rattle.rc_full_lists.specs.declared.parts.Settings as lists
use Rattle.rc_full_lists.specs.declared.items.Item.{Item}
use Rattle.rc_full_lists.specs.Lists.{one, IsList}
use Rattle.rc_full_lists.proofs.ListLemmas.{one_list_law}
use Rattle.rc_full_lists.proofs.RefusalLemmas.{err_is}
use Rattle.rc_full_parser.specs.declared.marks.Piece.{Piece}
use Rattle.rc_full_parser.specs.declared.marks.Piece.TheVariants as piece
use Rattle.rc_full_parser.specs.View.{Gives}
use Rattle.rc_full_parser.specs.Marks.{Mark, piece_of, IsMark, branch, close, setting, capturing, naming, flagging, repeating, bracket, escaped, dot, caret, dollar, character}
use Rattle.rc_full_parser.specs.Marked.{read_mark}
use Rattle.rc_full_parser.specs.Pieces as pieces
use Rattle.rc_full_parser.specs.Pieces.{IsClass, folded_set, is_folded, is_high, IsCharacter, plain, cases, IsPiece, IsListPart, HasCodesOf, HasCodesAt}
use Rattle.rc_full_parser.proofs.MarkLemmas.{mark_sound}

-- the result of a definition that says what P says
pub gives_by : {A B : Type 0} (r : Result A Refusal) (o : Option B) (P : B → Type 0) (view : A → B) → ((b : B) → o ≡ Some b → P b) → (o ≡ None → (b : B) → P b → ⊥) →
    IsResultOf r o view → Gives r P view
gives_by (Ok a) o P view f g h = f (view a) h
gives_by (Err e) o P view f g h = ⊎_elim (λ m. inl m) (λ n. inr (g n)) h

pub gives_as : {A B : Type 0} (r : Result A Refusal) (P Q : B → Type 0) (view : A → B) → ((b : B) → P b → Q b) → ((b : B) → Q b → P b) → Gives r P view → Gives r Q view
gives_as (Ok a) P Q view f g h = f (view a) h
gives_as (Err e) P Q view f g h = ⊎_elim (λ m. inl m) (λ n. inr (λ b q. n b (g b q))) h

pub refused : {A B : Type 0} (r : Result A Refusal) (e : Refusal) (P : B → Type 0) (view : A → B) (N : Type 0) → IsErrAnd r (λ x. x ≡ e) → (e ≡ Memory) ⊎ N →
    (N → (b : B) → P b → ⊥) → Gives r P view
refused r e P view N is h f = err_is r e _ _ is (⊎_elim (λ m. inl m) (λ n. inr (f n)) h)

module _ (s : Settings) (f : Flags) where
  pub is_class : (p : CodeSet) (rs : List Range) (re : Re) → AreRangesOf f.unicode p rs → set_re s f rs ≡ Some re → IsClass s f p re
  is_class p rs re are h = record { ranges = rs; are_ranges = are; allowed = h }

  pub no_class : (p : CodeSet) (rs : List Range) → AreRangesOf f.unicode p rs → set_re s f rs ≡ None → (re : Re) → IsClass s f p re → ⊥
  no_class p rs are none re is =
      none-some re (sym none ∙ ap (set_re s f) (ranges_law f.unicode p rs is.ranges are is.are_ranges) ∙ is.allowed)

  pub no_set : (i : Item) (rs : List Range) → AreRangesOf f.unicode (folded_set s f i) rs → set_re s f rs ≡ None → (q : Subpattern) → IsPiece s f (piece.Set i) q → ⊥
  no_set i rs are none _ (pieces.set _ re is) = no_class (folded_set s f i) rs are none re is

  pub is_cases : (c : ℕ) (rs : List Range) (re : Re) → is_folded f c ≡ true → AreRangesOf f.unicode (folded_set s f (one c)) rs → set_re s f rs ≡ Some re → IsCharacter s f c re
  is_cases c rs re folded are h = cases c re folded (is_class (folded_set s f (one c)) rs re are h)

  pub no_cases : (c : ℕ) (rs : List Range) → is_folded f c ≡ true → AreRangesOf f.unicode (folded_set s f (one c)) rs → set_re s f rs ≡ None → (re : Re) → IsCharacter s f c re → ⊥
  no_cases c rs folded are none _ (plain _ single) = true≢false (sym folded ∙ single)
  no_cases c rs folded are none _ (cases _ re _ is) = no_class (folded_set s f (one c)) rs are none re is

  pub low_piece : (b : ℕ) (re : Re) → is_high f b ≡ false → IsCharacter s f b re → IsPiece s f (piece.Byte b) (leaf re)
  low_piece b re low is = pieces.low_byte b re low is

  pub no_low : (b : ℕ) → is_high f b ≡ false → ((re : Re) → IsCharacter s f b re → ⊥) → (q : Subpattern) → IsPiece s f (piece.Byte b) q → ⊥
  no_low b low never _ (pieces.low_byte _ re _ is) = never re is
  no_low b low never _ (pieces.high_byte _ high bytes) = true≢false (sym high ∙ low)

  pub high_piece : (b : ℕ) (re : Re) → is_high f b ≡ true → s.utf8 ≡ false → re ≡ literal_of (b ∷ []) → IsPiece s f (piece.Byte b) (leaf re)
  high_piece b re high bytes e = subst (λ x. IsPiece s f (piece.Byte b) (leaf x)) (sym e) (pieces.high_byte b high bytes)

  pub no_high : (b : ℕ) → is_high f b ≡ true → s.utf8 ≡ true → (q : Subpattern) → IsPiece s f (piece.Byte b) q → ⊥
  no_high b high utf8 _ (pieces.low_byte _ re low is) = true≢false (sym high ∙ low)
  no_high b high utf8 _ (pieces.high_byte _ _ bytes) = true≢false (sym utf8 ∙ bytes)

  pub character_piece : (c : ℕ) (re : Re) → IsCharacter s f c re → IsPiece s f (piece.Character c) (leaf re)
  character_piece c re is = pieces.character c re is

  pub dot_piece : (q : Subpattern) → sense_part s f sense.Dot ≡ Some q → IsPiece s f piece.Dot q
  dot_piece q h =
      let (has, same) = guard_parts (has_dot s f) (Some (leaf (dot_of (dot_kind s f)))) q h in
      subst (IsPiece s f piece.Dot) (same_Some (leaf (dot_of (dot_kind s f))) q same) (pieces.dot has)

  pub no_dot : sense_part s f sense.Dot ≡ None → (q : Subpattern) → IsPiece s f piece.Dot q → ⊥
  no_dot fails _ (pieces.dot has) = none-some (leaf (dot_of (dot_kind s f))) (sym fails ∙ ap (λ b. b >> Some (leaf (dot_of (dot_kind s f)))) has)

  pub assertion_piece : (a : Assertion) → IsPiece s f (piece.Asserts a) (leaf (look (look_of f a)))
  assertion_piece a = pieces.asserts a

  pub list_depth : (p : CodeSet) (d : ℕ) (q : Subpattern) → IsListPart s f p d q → d ≤ depth_limit s
  list_depth _ _ _ (pieces.list p d re q is deep) =
      let (less, _) = guard_parts (nat_lt (d - 1) (depth_limit s)) (Some (record { re = re; depth = d - 1 + 1 })) q deep in
      let l = ltb-true (d - 1) (depth_limit s) less in
      omega (arith, l)

  list_class : (p : CodeSet) (d : ℕ) (q : Subpattern) → IsListPart s f p d q → (re : Re) × IsClass s f p re
  list_class _ _ _ (pieces.list p d re q is deep) = (re, is)

  -- the list that stands there, and how it is nested
  abbrev pub Listed : lists.Settings → Characters → Subpattern × Characters → Type 0
  Listed ls text r = (p : CodeSet) × (d : ℕ) × IsList ls f.case_insensitive text p d r.1 × IsListPart s f p d r.0

  pub no_list : (ls : lists.Settings) (text rest : Characters) (p : CodeSet) (d : ℕ) (rs : List Range) → ls.unicode ≡ f.unicode → IsList ls f.case_insensitive text p d rest →
      AreRangesOf ls.unicode p rs → set_re s f rs ≡ None → (r : Subpattern × Characters) → Listed ls text r → ⊥
  no_list ls text rest p d rs on is are none r (q, e, is', part) =
      let (same, _, _) = one_list_law ls f.case_insensitive text p q d e rest r.1 is is' in
      let (re, class) = list_class q e r.0 part in
      no_class p rs (subst (λ u. AreRangesOf u p rs) on are) none re (subst (λ x. IsClass s f x re) (sym same) class)

-- ---- the codes of a piece

piece_codes : (unicode : Bool) (e : FullEscape) (k : Piece) → piece_of unicode e ≡ Some k → HasCodesOf unicode k
piece_codes unicode (escapes.Stated (says.Character c)) k h = subst (HasCodesOf unicode) (same_Some _ k h) tt
piece_codes unicode (escapes.Stated (says.Byte b)) k h = subst (HasCodesOf unicode) (same_Some _ k h) tt
piece_codes unicode (escapes.Stated (says.Perl p)) k h = subst (HasCodesOf unicode) (same_Some _ k h) tt
piece_codes unicode (escapes.Stated (says.Assertion a)) k h = subst (HasCodesOf unicode) (same_Some _ k h) tt
piece_codes unicode (escapes.Property p) k h =
    let (on, same) = guard_parts unicode _ k h in subst (HasCodesOf unicode) (same_Some _ k same) on

mark_codes : (s : MarkSettings) (t : Characters) (k : Mark) (u : Characters) → IsMark s t k u → HasCodesAt s.unicode k
mark_codes s _ _ _ (branch t) = tt
mark_codes s _ _ _ (close t) = tt
mark_codes s _ _ _ (setting f t to word full says) = tt
mark_codes s _ _ _ (capturing t other) = tt
mark_codes s _ _ _ (naming p text t word known) = tt
mark_codes s _ _ _ (flagging f t to word says) = tt
mark_codes s _ _ _ (repeating t u n m is) = tt
mark_codes s _ _ _ (bracket t) = tt
mark_codes s _ _ _ (escaped t u e k is says) = piece_codes s.unicode e k says
mark_codes s _ _ _ (dot t) = tt
mark_codes s _ _ _ (caret t) = tt
mark_codes s _ _ _ (dollar t) = tt
mark_codes s _ _ _ (character c t other) = tt

pub read_codes : (s : MarkSettings) (t : Characters) (k : Mark) (u : Characters) → read_mark s t ≡ Some (k, u) → HasCodesAt s.unicode k
read_codes s t k u h = mark_codes s t k u (mark_sound s t k u h)
