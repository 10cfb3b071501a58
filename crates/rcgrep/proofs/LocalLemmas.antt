-- Only proofs use this file.
-- What a pattern spells in a line of a text by itself, it spells in the text too.
use denote.Struct.Props.{props}
use Rattle.std.proofs.Common.{ℕ, zero, suc, ◌≡◌, ◌<◌, ◌≤◌, ◌+◌, ◌-◌, ◌∙◌, [], ◌∷◌, Bool, false, true, List, Option, Some, None, All, IfSome, IsTrue, not, ◌&&◌, ◌||◌, ap, ap₂, arith, min, refl, sym, subst, inl, inr, length, take, drop, get_or, get_or-take, length-take-le, length-drop, map, take_all, take-take, eq-eqb, true≢false}
use Rattle.std.specs.List.{slice_get, slice_range}
use Rattle.std.specs.Option.{is_some}
use Rattle.std.proofs.lemmas.Bool.{or_from, or_left, or_right}
use Rattle.std.proofs.lemmas.List.{drop-take, get_or-drop, length-take}
use Rattle.std.proofs.lemmas.List.Elements.{All-head, All-map, All-more, All-tail, All-weaker}
use Rattle.std.proofs.lemmas.Option.{get_or_from_slice_get, slice_get-get_or, slice_get_within}
use Rattle.std.proofs.Math.Logic.{∥∥₁_elim}
use Rattle.rc_text.specs.Found.{Found}
use Rattle.rc_text.specs.declared.types.MatchKind.TheVariants.{LeftmostFirst}
use Rattle.rc_text.specs.Text.{is_boundary}
use Rattle.rc_pattern.specs.Re.{Re, empty, literal, byte_in, char_in, look, repeat, capture, cat, alt, none}
use Rattle.rc_pattern.specs.Properties.{has_look, is_zero, look_number, minimum_len}
use Rattle.rc_pattern.specs.WellFormed.{HasBounds, IsWellFormed}
use Rattle.rc_pattern.specs.declared.hir.Hir.{Hir}
use Rattle.rc_pattern.specs.declared.hir.Look.{Look}
use Rattle.rc_pattern.specs.declared.hir.Look.TheVariants.{Start, End, StartLF, EndLF, StartCRLF, EndCRLF, WordAscii, WordAsciiNegate, WordUnicode, WordUnicodeNegate, WordStartAscii, WordEndAscii, WordStartUnicode, WordEndUnicode, WordStartHalfAscii, WordEndHalfAscii, WordStartHalfUnicode, WordEndHalfUnicode}
use Rattle.rc_pattern.specs.Meaning.{meaning}
use Rattle.rc_program.specs.Answer.{Search, IsPassed, answer, last_of}
use Rattle.rc_program.specs.Greatest.{IsSpelledIn}
use Rattle.rc_program.specs.Program.{shown}
use Rattle.rc_program.specs.Sought.{Sought, may_be_empty, passes_over, search_for}
use Rattle.rc_program.specs.Spells.{SpelledBy, Spells, Stands, Turns}
use Rattle.rc_program.specs.Text.{Text, holds}
use Rattle.rc_program.proofs.AnswerLemmas.{answer_law}
use Rattle.rc_program.proofs.GreatestLemmas.{greatest_law, spelled_within}
use Rattle.rc_program.proofs.GroupLemmas.{group_law, shown_all, without_groups_bounded}
use Rattle.rc_program.proofs.PropertyLemmas.{property_law}
use Rattle.api_meta.specs.Views.{regex_kind, sought}
use Rattle.api_meta.specs.declared.regex.Regex.{Regex}
use Rattle.rc_program.specs.Kinds.{answer_by}
use Rattle.rcgrep.specs.Picked.{has_match, is_picked}
use Rattle.grep_lines.specs.Lines.{AreLinesOf}
use Rattle.grep_lines.specs.Selected.{IsTurn}
use Rattle.rcgrep.specs.Local.{HasLineLooks, IsLineEnd, IsLineEndOf, IsLocal, IsLocalPattern, IsLocalRegex, LocalLaw, is_line_look, start_or}
use Rattle.rcgrep.proofs.LineLemmas.{same_holds}
use Rattle.regex_cursor.specs.Output.{whole}

-- n turns of what leads on alike, up to a place
turns_rise : (R : ℕ → ℕ → Type 0) → ((i j : ℕ) → R i j → i ≤ j) → (n i j : ℕ) → Turns R n i j → i ≤ j
turns_rise R rise zero i j e = omega (arith, e)
turns_rise R rise (suc n) i j t = omega (arith, rise i t.0 t.1, turns_rise R rise n t.0 j t.2)

turns_on : (R S : ℕ → ℕ → Type 0) (at size : ℕ) → ((i j : ℕ) → R i j → i ≤ j) → ((i j : ℕ) → j ≤ size → R i j → S (at + i) (at + j)) → (n i j : ℕ) → j ≤ size →
    Turns R n i j → Turns S n (at + i) (at + j)
turns_on R S at size rise on zero i j near e = ap (λ k. at + k) e
turns_on R S at size rise on (suc n) i j near t =
    (at + t.0, on i t.0 (omega (arith, near, turns_rise R rise n t.0 j t.2)) t.1, turns_on R S at size rise on n t.0 j near t.2)

spells_rise : (t : Text) (h : Re) (i j : ℕ) → Spells t h i j → i ≤ j
spells_rise t h i j s = let least = property_law.least t h i j s in omega (arith, least.2)

-- the bytes stand in a text as in a piece of it
pub stands_on : (xs ys : List ℕ) (at : ℕ) → ((k b : ℕ) → slice_get xs k ≡ Some b → slice_get ys (at + k) ≡ Some b) → (bs : List ℕ) (i j : ℕ) → Stands xs bs i j →
    Stands ys bs (at + i) (at + j)
stands_on xs ys at same [] i j e = ap (λ k. at + k) e
stands_on xs ys at same (b ∷ bs) i j s =
    let next : at + (i + 1) ≡ at + i + 1 = omega arith in
    (same i b s.0, subst (λ k. Stands ys bs k (at + j)) next (stands_on xs ys at same bs (i + 1) j s.1))

module _ (t u : Text) (at size : ℕ) (same : (k b : ℕ) → slice_get t.content k ≡ Some b → slice_get u.content (at + k) ≡ Some b)
    (looks : (l : Look) → IsTrue (is_line_look l) → (p : ℕ) → p ≤ size → holds t l p ≡ holds u l (at + p)) where
  spells_on : (h : Re) → HasLineLooks h → (i j : ℕ) → j ≤ size → Spells t h i j → Spells u h (at + i) (at + j)
  spells_on empty lines i j near e = ap (λ k. at + k) e
  spells_on (literal bs) lines i j near s = stands_on t.content u.content at same bs i j s
  spells_on (byte_in rs) lines i j near s = (s.0, same i s.0 s.1, s.2, omega (arith, s.3))
  spells_on (char_in rs) lines i j near s = (s.0, s.1, s.2, stands_on t.content u.content at same _ i j s.3)
  spells_on (look l) lines i j near s =
      let is = lines l (eq-eqb (look_number l) (look_number l) refl) in
      (sym (looks l is i (omega (arith, near, s.1))) ∙ s.0, ap (λ k. at + k) s.1)
  spells_on (repeat least most greedy a) lines i j near s =
      (s.0, s.1, s.2, turns_on (Spells t a) (Spells u a) at size (spells_rise t a) (spells_on a lines) s.0 i j near s.3)
  spells_on (capture n name a) lines i j near s = spells_on a lines i j near s
  spells_on (cat a rest) lines i j near s = (
    at + s.0,
    spells_on a (λ l h. lines l (or_left (has_look a l) (has_look rest l) h)) i s.0 (omega (arith, near, spells_rise t rest s.0 j s.2)) s.1,
    spells_on rest (λ l h. lines l (or_right (has_look a l) (has_look rest l) h)) s.0 j near s.2,
  )
  spells_on (alt a rest) lines i j near (inl s) = inl (spells_on a (λ l h. lines l (or_left (has_look a l) (has_look rest l) h)) i j near s)
  spells_on (alt a rest) lines i j near (inr s) = inr (spells_on rest (λ l h. lines l (or_right (has_look a l) (has_look rest l) h)) i j near s)
  spells_on none lines i j near s = absurd s

  spelled_on : (n : ℕ) (hs : List Re) → All IsLocalPattern hs → (p i j : ℕ) → j ≤ size → SpelledBy t n hs p i j → SpelledBy u n hs p (at + i) (at + j)
  spelled_on n [] local p i j near s = absurd s
  spelled_on n (h ∷ hs) local p i j near (inl s) = inl (s.0, spells_on h (All-head IsLocalPattern h hs local).looks i j near s.1)
  spelled_on n (h ∷ hs) local p i j near (inr s) = inr (spelled_on (n + 1) hs (All-tail IsLocalPattern h hs local) p i j near s)

-- ---- and what it spells in the text inside a line, it spells in the line by itself

stands_rise : (ys bs : List ℕ) (i j : ℕ) → Stands ys bs i j → i ≤ j
stands_rise ys [] i j e = omega (arith, e)
stands_rise ys (b ∷ bs) i j s = omega (arith, stands_rise ys bs (i + 1) j s.1)

module _ (t u : Text) (at size : ℕ) (same : (k b : ℕ) → at ≤ k → k < at + size → slice_get u.content k ≡ Some b → slice_get t.content (k - at) ≡ Some b)
    (looks : (l : Look) → IsTrue (is_line_look l) → (p : ℕ) → p ≤ size → holds t l p ≡ holds u l (at + p)) where
  stands_back : (bs : List ℕ) (i j : ℕ) → at ≤ i → j ≤ at + size → Stands u.content bs i j → Stands t.content bs (i - at) (j - at)
  stands_back [] i j from to e = ap (λ k. k - at) e
  stands_back (b ∷ bs) i j from to s =
      let order = stands_rise u.content bs (i + 1) j s.1 in
      let next : i + 1 - at ≡ i - at + 1 = omega (arith, from) in
      (same i b from (omega (arith, order, to)) s.0, subst (λ k. Stands t.content bs k (j - at)) next (stands_back bs (i + 1) j (omega (arith, from)) to s.1))

  turns_back : (R S : ℕ → ℕ → Type 0) → ((i j : ℕ) → R i j → i ≤ j) → ((i j : ℕ) → at ≤ i → j ≤ at + size → R i j → S (i - at) (j - at)) →
      (n i j : ℕ) → at ≤ i → j ≤ at + size → Turns R n i j → Turns S n (i - at) (j - at)
  turns_back R S rise back zero i j from to e = ap (λ k. k - at) e
  turns_back R S rise back (suc n) i j from to t =
      let first = rise i t.0 t.1 in
      (t.0 - at, back i t.0 from (omega (arith, to, turns_rise R rise n t.0 j t.2)) t.1, turns_back R S rise back n t.0 j (omega (arith, from, first)) to t.2)

  spells_back : (h : Re) → HasLineLooks h → (i j : ℕ) → at ≤ i → j ≤ at + size → Spells u h i j → Spells t h (i - at) (j - at)
  spells_back empty lines i j from to e = ap (λ k. k - at) e
  spells_back (literal bs) lines i j from to s = stands_back bs i j from to s
  spells_back (byte_in rs) lines i j from to s = (s.0, same i s.0 from (omega (arith, s.3, to)) s.1, s.2, omega (arith, s.3, from))
  spells_back (char_in rs) lines i j from to s = (s.0, s.1, s.2, stands_back _ i j from to s.3)
  spells_back (look l) lines i j from to s =
      let is = lines l (eq-eqb (look_number l) (look_number l) refl) in
      (looks l is (i - at) (omega (arith, s.1, to)) ∙ ap (holds u l) (omega (arith, from)) ∙ s.0, ap (λ k. k - at) s.1)
  spells_back (repeat least most greedy a) lines i j from to s =
      (s.0, s.1, s.2, turns_back (Spells u a) (Spells t a) (spells_rise u a) (spells_back a lines) s.0 i j from to s.3)
  spells_back (capture n name a) lines i j from to s = spells_back a lines i j from to s
  spells_back (cat a rest) lines i j from to s =
      let first = spells_rise u a i s.0 s.1 in (
        s.0 - at,
        spells_back a (λ l h. lines l (or_left (has_look a l) (has_look rest l) h)) i s.0 from (omega (arith, to, spells_rise u rest s.0 j s.2)) s.1,
        spells_back rest (λ l h. lines l (or_right (has_look a l) (has_look rest l) h)) s.0 j (omega (arith, from, first)) to s.2,
      )
  spells_back (alt a rest) lines i j from to (inl s) = inl (spells_back a (λ l h. lines l (or_left (has_look a l) (has_look rest l) h)) i j from to s)
  spells_back (alt a rest) lines i j from to (inr s) = inr (spells_back rest (λ l h. lines l (or_right (has_look a l) (has_look rest l) h)) i j from to s)
  spells_back none lines i j from to s = absurd s

  spelled_back : (n : ℕ) (hs : List Re) → All IsLocalPattern hs → (p i j : ℕ) → at ≤ i → j ≤ at + size → SpelledBy u n hs p i j → SpelledBy t n hs p (i - at) (j - at)
  spelled_back n [] local p i j from to s = absurd s
  spelled_back n (h ∷ hs) local p i j from to (inl s) = inl (s.0, spells_back h (All-head IsLocalPattern h hs local).looks i j from to s.1)
  spelled_back n (h ∷ hs) local p i j from to (inr s) = inr (spelled_back (n + 1) hs (All-tail IsLocalPattern h hs local) p i j from to s)

never_empty : (hs : List Re) → All IsLocalPattern hs → may_be_empty hs ≡ false
never_empty [] local = refl
never_empty (h ∷ hs) local =
    or_from (is_zero (minimum_len h)) (may_be_empty hs) (All-head IsLocalPattern h hs local).some (never_empty hs (All-tail IsLocalPattern h hs local))

none_of : (b c : Bool) → c ≡ false → (b && c) ≡ false
none_of true c e = e
none_of false c e = refl

-- the piece by itself has the assertions that its place in the text has
abbrev LooksOn : Sought → (piece text : List ℕ) (at : ℕ) → Type 0
LooksOn q piece text at = (l : Look) → IsTrue (is_line_look l) → (p : ℕ) → p ≤ length piece →
    holds (search_for q (whole piece)).text l p ≡ holds (search_for q (whole text)).text l (at + p)

module _ (q : Sought) (is : IsLocal q) where
  abbrev places : List Re
  places = shown q.grouped q.patterns

  bounds : All HasBounds places
  bounds = shown_all HasBounds without_groups_bounded q.grouped q.patterns is.bounded

  module _ (text piece : List ℕ) (at : ℕ) (short : length text < 18446744073709551616) (inside : at + length piece ≤ length text)
      (same : (k b : ℕ) → slice_get piece k ≡ Some b → slice_get text (at + k) ≡ Some b) (looks : LooksOn q piece text at) where
    -- a match in the piece is one in the text
    spelled_there : (m : Found) → IsSpelledIn (search_for q (whole piece)) m →
        IsSpelledIn (search_for q (whole text)) (record { pattern = m.pattern; start = at + m.start; end = at + m.end })
    spelled_there m h =
        let s = search_for q (whole piece) in
        let r = search_for q (whole text) in
        let near = spelled_within s m h in
        let parts = (greatest_law.by_program places s m bounds refl).0 h in
        let spelled = (group_law.shown_spells s.text q.grouped 0 q.patterns m.pattern m.start m.end).0 parts.3 in
        let on = spelled_on s.text r.text at (length piece) same looks 0 q.patterns is.local m.pattern m.start m.end (omega (arith, near.2)) spelled in
        (greatest_law.by_program places r (record { pattern = m.pattern; start = at + m.start; end = at + m.end }) bounds refl).1 (
          (omega arith, omega (arith, near.1, near.2, inside, short), λ e. absurd (true≢false (sym e))),
          parts.1,
          omega (arith, near.2, inside, short),
          (group_law.shown_spells r.text q.grouped 0 q.patterns m.pattern (at + m.start) (at + m.end)).1 on,
        )

  module _ (text piece : List ℕ) (at : ℕ) (short : at + length piece < 18446744073709551616)
      (same : (k b : ℕ) → at ≤ k → k < at + length piece → slice_get text k ≡ Some b → slice_get piece (k - at) ≡ Some b) (looks : LooksOn q piece text at) where
    -- a match in the text that lies in the piece is one of the piece
    spelled_here : (m : Found) → at ≤ m.start → m.end ≤ at + length piece → IsSpelledIn (search_for q (whole text)) m →
        IsSpelledIn (search_for q (whole piece)) (record { pattern = m.pattern; start = m.start - at; end = m.end - at })
    spelled_here m from to h =
        let s = search_for q (whole text) in
        let r = search_for q (whole piece) in
        let near = spelled_within s m h in
        let parts = (greatest_law.by_program places s m bounds refl).0 h in
        let spelled = (group_law.shown_spells s.text q.grouped 0 q.patterns m.pattern m.start m.end).0 parts.3 in
        let back = spelled_back r.text s.text at (length piece) same looks 0 q.patterns is.local m.pattern m.start m.end from to spelled in
        (greatest_law.by_program places r (record { pattern = m.pattern; start = m.start - at; end = m.end - at }) bounds refl).1 (
          (omega arith, omega (arith, near.1, from, to, short), λ e. absurd (true≢false (sym e))),
          parts.1,
          omega (arith, to, from, near.1, short),
          (group_law.shown_spells r.text q.grouped 0 q.patterns m.pattern (m.start - at) (m.end - at)).1 back,
        )

  module _ (text : List ℕ) where
    abbrev whole_search : Search
    whole_search = search_for q (whole text)

    never_over : passes_over q ≡ false
    never_over = none_of q.utf8_empty (may_be_empty q.patterns) (never_empty q.patterns is.local)

    unpassed : (m : Found) → IsSpelledIn whole_search m → ¬ IsPassed whole_search m.start
    unpassed m h (inl clear) = clear h.walk h.is_walk
    unpassed m h (inr p) = true≢false (sym (ap (λ b. not b || is_boundary text (last_of p.0).1) never_over) ∙ p.2)

    -- what begins before the answer is no match
    before_answer : (o : Option Found) → answer whole_search ≡ o → (m : Found) → IsSpelledIn whole_search m → m.start < start_or (length text) o → ⊥
    before_answer None e m h near = unpassed m h ((answer_law.answer_none whole_search).0 e m.start h.is_start)
    before_answer (Some n) e m h near =
        let told = (answer_law.answer_some whole_search n).0 e in
        let begins : told.0.start ≡ n.start = ap (λ (f : Found). f.start) told.2 in
        unpassed m h (told.1.none_before m.start h.is_start (omega (arith, begins, near)))

  module _ (text piece : List ℕ) (at : ℕ) (short : length text < 18446744073709551616) (inside : at + length piece ≤ length text)
      (near : at + length piece < start_or (length text) (answer (search_for q (whole text))))
      (same : (k b : ℕ) → slice_get piece k ≡ Some b → slice_get text (at + k) ≡ Some b) (looks : LooksOn q piece text at) where
    no_match : (o : Option Found) → answer (search_for q (whole piece)) ≡ o → is_some o ≡ false
    no_match None e = refl
    no_match (Some m) e =
        let spelled = greatest_law.answer_spelled (search_for q (whole piece)) m e in
        let within = spelled_within (search_for q (whole piece)) m spelled in
        absurd (before_answer text (answer (search_for q (whole text))) refl
        (record { pattern = m.pattern; start = at + m.start; end = at + m.end })
        (spelled_there text piece at short inside same looks m spelled) (omega (arith, near, within.1, within.2)))

-- the bytes of a piece are the text's
pub piece_same : (text : List ℕ) (start end : ℕ) → start ≤ end → end ≤ length text → (k b : ℕ) → slice_get (slice_range text start end) k ≡ Some b →
    slice_get text (start + k) ≡ Some b
piece_same text start end order inside k b e =
    let piece = slice_range text start end in
    let size : length piece ≡ end - start = length-take-le (end - start) (drop start text) (omega (arith, inside, length-drop start text)) in
    let below : k < length piece = slice_get_within piece k b e in
    let value : get_or text (start + k) 0 ≡ b =
    sym (get_or-drop start text k 0) ∙ sym (get_or-take (end - start) (drop start text) k 0 (omega (arith, size, below)))
    ∙ get_or_from_slice_get piece k b 0 e in
    slice_get-get_or text (start + k) 0 (omega (arith, size, below, inside)) ∙ ap Some value

begins_inside : (q : Sought) (text : List ℕ) (o : Option Found) → answer (search_for q (whole text)) ≡ o → start_or (length text) o ≤ length text
begins_inside q text None e = omega arith
begins_inside q text (Some m) e =
    let s = search_for q (whole text) in
    let within = spelled_within s m (greatest_law.answer_spelled s m e) in
    omega (arith, within.1, within.2)

-- what a search of the whole content sees
whole_text : (q : Sought) (content : List ℕ) → q.terminator ≡ 10 → length content < 18446744073709551616 →
    (search_for q (whole content)).text ≡ record { content = content; slice_start = 0; slice_end = length content; terminator = 10 }
whole_text q content ended short =
    let all : min 18446744073709551615 (length content) ≡ length content = omega (arith, short) in
    ap₂ (λ n t. let seen : Text = record { content = content; slice_start = 0; slice_end = n; terminator = t } in seen) all ended

pub local_law : LocalLaw
local_law q text start end is short order are near =
    let inside : end ≤ length text = omega (arith, near, begins_inside q text (answer (search_for q (whole text))) refl) in
    let piece = slice_range text start end in
    let size : start + length piece ≡ end = omega (arith, order, inside, length-drop start text, length-take-le (end - start) (drop start text) (omega (arith, inside, length-drop start text))) in
    let looks : LooksOn q piece text start = λ l line p within.
    ap (λ t. holds t l p) (whole_text q piece is.terminator (omega (arith, short, size, inside)))
    ∙ same_holds text start end order are p (omega (arith, size, within)) l line
    ∙ sym (ap (λ t. holds t l (start + p)) (whole_text q text is.terminator short)) in
    no_match q is text piece start short (omega (arith, size, inside)) (subst (λ n. n < start_or (length text) (answer (search_for q (whole text)))) (sym size) near)
    (piece_same text start end order inside) looks (answer (search_for q (whole piece))) refl

-- and where they stand there
piece_back : (text : List ℕ) (start end : ℕ) → start ≤ end → end ≤ length text → (k b : ℕ) → start ≤ k → k < start + length (slice_range text start end) →
    slice_get text k ≡ Some b → slice_get (slice_range text start end) (k - start) ≡ Some b
piece_back text start end order inside k b from to e =
    let piece = slice_range text start end in
    let size : length piece ≡ end - start = length-take-le (end - start) (drop start text) (omega (arith, inside, length-drop start text)) in
    let there : start + (k - start) ≡ k = omega (arith, from) in
    let value : get_or piece (k - start) 0 ≡ b =
    get_or-take (end - start) (drop start text) (k - start) 0 (omega (arith, from, to, size)) ∙ get_or-drop start text (k - start) 0 ∙ ap (λ n. get_or text n 0) there
    ∙ get_or_from_slice_get text k b 0 e in
    slice_get-get_or piece (k - start) 0 (omega (arith, from, to)) ∙ ap Some value

-- lines that the match lies in have one
lines_matched : (q : Sought) (text : List ℕ) (m : Found) (start end : ℕ) → IsLocal q → length text < 18446744073709551616 → answer (search_for q (whole text)) ≡ Some m →
    start ≤ m.start → m.end ≤ end → start ≤ end → AreLinesOf 10 text start end → is_some (answer (search_for q (whole (slice_range text start end)))) ≡ true
lines_matched q text m start end is short e from to order are =
    let inside : end < length text = slice_get_within text end 10 are.behind in
    let piece = slice_range text start end in
    let size : start + length piece ≡ end = omega (arith, order, length-drop start text, length-take-le (end - start) (drop start text) (omega (arith, inside, length-drop start text))) in
    let looks : LooksOn q piece text start = λ l line p within.
    ap (λ t. holds t l p) (whole_text q piece is.terminator (omega (arith, short, size, inside)))
    ∙ same_holds text start end order are p (omega (arith, size, within)) l line
    ∙ sym (ap (λ t. holds t l (start + p)) (whole_text q text is.terminator short)) in
    let spelled = spelled_here q is text piece start (omega (arith, size, inside, short)) (piece_back text start end order (omega (arith, inside))) looks m from
    (omega (arith, size, to)) (greatest_law.answer_spelled (search_for q (whole text)) m e) in
    at (record { pattern = m.pattern; start = m.start - start; end = m.end - start }) spelled (answer (search_for q (whole piece))) refl
  where
    at : (n : Found) → IsSpelledIn (search_for q (whole (slice_range text start end))) n → (o : Option Found) → answer (search_for q (whole (slice_range text start end))) ≡ o →
        is_some o ≡ true
    at n spelled None missing =
        absurd (unpassed q is (slice_range text start end) n spelled
        ((answer_law.answer_none (search_for q (whole (slice_range text start end)))).0 missing n.start spelled.is_start))
    at n spelled (Some k) there = refl

-- the lines of a part of a text are lines of the text
lines_of_part : (page : List ℕ) (reach start end : ℕ) → start ≤ end → end < reach → AreLinesOf 10 page start end → AreLinesOf 10 (take reach page) start end
lines_of_part page reach start end order near are = record {
  before = λ k e. byte_of_part k (omega (arith, e, order, near)) (are.before k e);
  behind = byte_of_part end near are.behind;
}
  where
    byte_of_part : (k : ℕ) → k < reach → slice_get page k ≡ Some 10 → slice_get (take reach page) k ≡ Some 10
    byte_of_part k near e =
        slice_get-get_or (take reach page) k 0 (omega (arith, near, slice_get_within page k 10 e, length-take reach page))
        ∙ ap Some (get_or-take reach page k 0 near ∙ get_or_from_slice_get page k 10 0 e)

-- the patterns so far
abbrev pub MeansLocal : Hir → Type 0
MeansLocal h = IsLocalPattern (meaning h)

pub local_more : (xs : List Hir) (i : ℕ) (x : Hir) → i < length xs → x ≡ get_or xs i x → All MeansLocal (take i xs) → MeansLocal x → All MeansLocal (take (i + 1) xs)
local_more xs i x inside is before here = All-more MeansLocal xs i x inside before (rw (sym is) here)

pub all_local : (xs : List Hir) (n : ℕ) → length xs ≤ n → All MeansLocal (take n xs) → All IsLocalPattern (map meaning xs)
all_local xs n done ok = All-map IsLocalPattern meaning xs (rw (take_all n xs done) at ok)

-- the patterns were built of such ones
pub built_local : (r : Regex) (hs : List Re) → regex_kind r ≡ LeftmostFirst → (sought r).terminator ≡ 10 → (sought r).patterns ≡ hs → All IsWellFormed hs →
    All IsLocalPattern hs → IsLocalRegex r
built_local r hs kind ended same ok local = record {
  kind = kind;
  local = record {
    bounded = subst (All HasBounds) (sym same) (All-weaker IsWellFormed HasBounds (λ h f. f.bounded) hs ok);
    local = subst (All IsLocalPattern) (sym same) local;
    terminator = ended;
  };
}

-- a piece of a part of a text is one of the text
piece_of_part : (page : List ℕ) (reach start end : ℕ) → start ≤ end → end ≤ reach → slice_range (take reach page) start end ≡ slice_range page start end
piece_of_part page reach start end order inside =
    let rest : reach ≡ start + (reach - start) = omega (arith, order, inside) in
    ap (take (end - start)) (ap (λ n. drop start (take n page)) rest ∙ drop-take start (reach - start) page)
    ∙ take-take (end - start) (reach - start) (drop start page) (omega (arith, inside))

pub picked_none : (b : Bool) → is_picked b false ≡ b
picked_none true = refl
picked_none false = refl

pub picked_some : (b : Bool) → is_picked b true ≡ not b
picked_some true = refl
picked_some false = refl

-- no line that ends before the match of a part of a page has a match
module _ (r : Regex) (page : List ℕ) (reach : ℕ) (inside : reach ≤ length page) (short : reach < 18446744073709551616) where
  abbrev first : ℕ
  first = start_or (length (take reach page)) (answer_by (regex_kind r) (search_for (sought r) (whole (take reach page))))

  unmatched_by : IsLocalRegex r → (start end : ℕ) → start ≤ end → AreLinesOf 10 page start end → end < first → has_match r (slice_range page start end) ≡ false
  unmatched_by is start end order are near =
      let text = take reach page in
      let size : length text ≡ reach = length-take-le reach page inside in
      let kinded : (s : Search) → answer_by (regex_kind r) s ≡ answer s = λ s. ap (λ k. answer_by k s) is.kind in
      let found = answer (search_for (sought r) (whole text)) in
      let before : end < start_or (length text) found =
      subst (λ o. end < start_or (length text) o) (kinded (search_for (sought r) (whole text))) near in
      let ends : end ≤ reach = omega (arith, size, before, begins_inside (sought r) text found refl) in
      ap is_some (kinded (search_for (sought r) (whole (slice_range page start end))))
      ∙ ap (λ piece. is_some (answer (search_for (sought r) (whole piece)))) (sym (piece_of_part page reach start end order ends))
      ∙ local_law (sought r) text start end is.local (omega (arith, size, short)) order
      (lines_of_part page reach start end order (omega (arith, size, before, begins_inside (sought r) text found refl)) are) before

  pub unmatched : ∥ IsLocalRegex r ∥₁ → (start end : ℕ) → start ≤ end → AreLinesOf 10 page start end → end < first → has_match r (slice_range page start end) ≡ false
  unmatched h start end order are near = ∥∥₁_elim h (hlevel props) (λ is. unmatched_by is start end order are near)

  -- a line in which that match lies has one
  turned_by : IsLocalRegex r → (m : Found) (start end : ℕ) → answer_by (regex_kind r) (search_for (sought r) (whole (take reach page))) ≡ Some m → start ≤ m.start →
      IsLineEndOf (take reach page) m.start m.end end → AreLinesOf 10 page start end → has_match r (slice_range page start end) ≡ true
  turned_by is m start end e from ends are =
      let text = take reach page in
      let size : length text ≡ reach = length-take-le reach page inside in
      let kinded : (s : Search) → answer_by (regex_kind r) s ≡ answer s = λ s. ap (λ k. answer_by k s) is.kind in
      let order : start ≤ end = omega (arith, from, ends.order) in
      let near : end < reach = omega (arith, size, ends.within) in
      ap is_some (kinded (search_for (sought r) (whole (slice_range page start end))))
      ∙ ap (λ piece. is_some (answer (search_for (sought r) (whole piece)))) (sym (piece_of_part page reach start end order (omega (arith, near))))
      ∙ lines_matched (sought r) text m start end is.local (omega (arith, size, short)) (sym (kinded (search_for (sought r) (whole text))) ∙ e) from ends.behind order
      (lines_of_part page reach start end order near are)

  pub turned : ∥ IsLocalRegex r ∥₁ → (m : Found) (start end : ℕ) → answer_by (regex_kind r) (search_for (sought r) (whole (take reach page))) ≡ Some m → start ≤ m.start →
      IsLineEndOf (take reach page) m.start m.end end → AreLinesOf 10 page start end → has_match r (slice_range page start end) ≡ true
  turned h m start end e from ends are = ∥∥₁_elim h (hlevel props) (λ is. turned_by is m start end e from ends are)

  pub turn_of : ∥ IsLocalRegex r ∥₁ → (b : Bool) (o : Option Found) → answer_by (regex_kind r) (search_for (sought r) (whole (take reach page))) ≡ o → (place : ℕ) →
      place ≡ start_or (length (take reach page)) o → (turn : Option ℕ) → IfSome turn (IsLineEnd (take reach page) o) →
      IfSome turn (IsTurn 10 (λ line. is_picked b (has_match r line)) b page place)
  turn_of h b o e place is None ends = tt
  turn_of h b None e place is (Some end) ends = absurd ends
  turn_of h b (Some m) e place is (Some end) ends =
      let text = take reach page in
      let size : length text ≡ reach = length-take-le reach page inside in
      let near : end < reach = omega (arith, size, ends.within) in
      record {
        behind = omega (arith, is, ends.order);
        within = omega (arith, near, inside);
        ended = sym (get_or-take reach page end 0 near) ∙ ends.ended;
        first = λ k from before ten. ends.first k (omega (arith, is, from)) before (get_or-take reach page k 0 (omega (arith, before, near)) ∙ ten);
        unlike = λ start from are. ap (is_picked b) (turned h m start end e (omega (arith, is, from)) ends are) ∙ picked_some b;
      }

  inside_by : IsLocalRegex r → first ≤ length page
  inside_by is =
      let text = take reach page in
      let s = search_for (sought r) (whole text) in
      let begins = begins_inside (sought r) text (answer_by (regex_kind r) s) (sym (ap (λ k. answer_by k s) is.kind)) in
      omega (arith, begins, length-take-le reach page inside, inside)

  pub first_inside : ∥ IsLocalRegex r ∥₁ → first ≤ length page
  first_inside h = ∥∥₁_elim h (hlevel props) inside_by

-- the four assertions that see where a text begins or ends aren't there
pub line_looks : (h : Re) → has_look h Start ≡ false → has_look h End ≡ false → has_look h StartCRLF ≡ false → has_look h EndCRLF ≡ false → HasLineLooks h
line_looks h a b c d Start is = absurd (true≢false (sym is ∙ a))
line_looks h a b c d End is = absurd (true≢false (sym is ∙ b))
line_looks h a b c d StartCRLF is = absurd (true≢false (sym is ∙ c))
line_looks h a b c d EndCRLF is = absurd (true≢false (sym is ∙ d))
line_looks h a b c d StartLF is = refl
line_looks h a b c d EndLF is = refl
line_looks h a b c d WordAscii is = refl
line_looks h a b c d WordAsciiNegate is = refl
line_looks h a b c d WordUnicode is = refl
line_looks h a b c d WordUnicodeNegate is = refl
line_looks h a b c d WordStartAscii is = refl
line_looks h a b c d WordEndAscii is = refl
line_looks h a b c d WordStartUnicode is = refl
line_looks h a b c d WordEndUnicode is = refl
line_looks h a b c d WordStartHalfAscii is = refl
line_looks h a b c d WordEndHalfAscii is = refl
line_looks h a b c d WordStartHalfUnicode is = refl
line_looks h a b c d WordEndHalfUnicode is = refl
