-- The search of a content from a place on, as a search of an input.
use Rattle.std.proofs.Common.{◌≡◌, ℕ, ◌+◌, ◌<◌, List, [], length, min, take, refl, sym, ap, ap₂, subst, ◌∙◌, arith}
use Rattle.std.proofs.Math.Seq.{take-length}
use Rattle.rc_text.specs.Text.{Keeps, KeepsText, Searched}
use Rattle.rc_text.specs.declared.types.Span.{Span}
use Rattle.rc_text.specs.declared.types.MatchKind.{MatchKind}
use Rattle.rc_program.specs.Answer.{Search}
use Rattle.rc_program.specs.Matches.{from_on}
use Rattle.rc_program.specs.Sought.{Sought, search_for}
use Rattle.rc_reach.specs.Fixed.{IsFixed}
use Rattle.rc_reach.specs.Live.{over_content}
use Rattle.rc_reach.specs.Partial.{IsPartial, Partial}
use Rattle.rc_reach.specs.Settled.{IsSettled}
use Rattle.live_matches.specs.Live.{Goes, IsOver, whole}

-- the search of a whole content is that of its input
pub whole_search : (q : Sought) (content : List ℕ) → length content + 1 < 18446744073709551616 →
    over_content (search_for q (whole [])) content ≡ search_for q (whole content)
whole_search q content fits =
    let a : length content ≡ min 18446744073709551615 (length content) = omega (arith, fits) in
    let b : length content ≡ min (min (length content) 18446744073709551615) (length content) = omega (arith, fits) in
    ap₂ (λ e h. record (search_for q (whole content)) {
      text = record (search_for q (whole content)).text { slice_end = e };
      hi = h;
    }) a b

-- the input, with another start of its span
restarted : (q : Sought) (s t : Searched) (at : ℕ) → KeepsText s t → t.span.start ≡ at → t.span.end ≡ s.span.end → t.slice ≡ s.slice →
    search_for q t ≡ from_on (search_for q s) at
restarted q s t at keeps start end slice = rw (keeps.content, keeps.anchored, start, end, slice) refl

pub over_kept : (s t : Searched) → Keeps s t → IsOver s → IsOver t
over_kept s t keeps over = record {
  same = λ q. searched q ∙ over.same q ∙ ap₂ (λ c at. from_on (search_for q (whole c)) at) (sym keeps.content) (sym (ap (λ (p : Span). p.start) keeps.span));
  room = rw (keeps.content, keeps.span) over.room;
}
  where
    searched : (q : Sought) → search_for q t ≡ search_for q s
    searched q = rw (keeps.content, keeps.anchored, keeps.span, keeps.slice) refl

pub goes_kept : (s t : Searched) → Keeps s t → Goes s t
goes_kept s t keeps = record {
  content = keeps.content;
  end = ap (λ (p : Span). p.end) keeps.span;
  slice = keeps.slice;
  anchored = keeps.anchored;
  earliest = keeps.earliest;
}

pub goes_on : (s t u : Searched) → Goes s t → Goes t u → Goes s u
goes_on s t u a b = record {
  content = b.content ∙ a.content;
  end = b.end ∙ a.end;
  slice = b.slice ∙ a.slice;
  anchored = b.anchored ∙ a.anchored;
  earliest = b.earliest ∙ a.earliest;
}

pub sought_from : (q : Sought) (s t : Searched) (at : ℕ) → IsOver s → length s.content + 1 < 18446744073709551616 →
    KeepsText s t → t.span.start ≡ at → t.span.end ≡ s.span.end → t.slice ≡ s.slice →
    search_for q t ≡ from_on (over_content (search_for q (whole [])) s.content) at
sought_from q s t at over fits keeps start end slice =
    restarted q s t at keeps start end slice ∙ ap (λ z. from_on z at) (over.same q)
    ∙ ap (λ z. from_on z at) (sym (whole_search q s.content fits))

-- what an input tells of each content that goes on from its own
pub told_from : (kind : MatchKind) (q : Sought) (s t : Searched) (content : List ℕ) (at : ℕ) (p : Partial) → IsOver s → s.content ≡ content →
    length s.content + 1 < 18446744073709551616 → KeepsText s t → t.span.start ≡ at → t.span.end ≡ s.span.end → t.slice ≡ s.slice →
    IsPartial kind (search_for q t) p → IsPartial kind (from_on (over_content (search_for q (whole [])) content) at) p
told_from kind q s t content at p over same fits keeps start end slice =
    subst (λ z. IsPartial kind z p)
    (sought_from q s t at over fits keeps start end slice ∙ ap (λ c. from_on (over_content (search_for q (whole [])) c) at) same)

-- what settles the answer in any text fixes what is found in a whole content
pub settled_fixed : (kind : MatchKind) (s : Search) (content : List ℕ) (r k : ℕ) →
    IsSettled kind r (from_on (over_content s content) k) → IsFixed kind s content r k
settled_fixed kind s content r k settled other agree =
    let ends = ap (take r) (take-length other) ∙ agree ∙ sym (ap (take r) (take-length content)) in
    settled (from_on (over_content s other) k)
    (record { lo = omega arith; hi = omega arith; slice_end = omega arith })
    (record {
      places = refl;
      terminator = refl;
      slice_start = refl;
      lo = refl;
      anchoring = refl;
      passes_over = refl;
      read = ends;
      seen = ends;
      content = agree;
    })
