-- Groups that a search of the kept bytes tells.
use Rattle.std.proofs.Common.{◌≡◌, ◌∙◌, ℕ, ◌+◌, ◌-◌, ◌≤◌, Bool, true, false, List, [], ◌++◌, drop, length, take, Option, Some, None, if◌then◌else◌, refl, sym, ap, subst, arith, length-drop, take-take}
use Rattle.std.specs.Option.{option_map}
use Rattle.std.specs.Prelude.{IfSome, MatchOption}
use Rattle.std.proofs.lemmas.List.{append-nil}
use Rattle.rc_text.specs.Found.{Found}
use Rattle.rc_text.specs.Text.{Searched}
use Rattle.rc_text.specs.declared.types.MatchKind.{MatchKind}
use Rattle.rc_captures.specs.Captures.{match_of}
use Rattle.rc_captures.specs.declared.captures.Captures.{Captures}
use Rattle.rc_program.specs.Answer.{Search}
use Rattle.rc_program.specs.Kinds.{answer_by}
use Rattle.rc_program.specs.Matches.{begin_of, end_of, from_on, is_again}
use Rattle.rc_program.specs.Sought.{search_for}
use Rattle.rc_pikevm_search.specs.Tells.{TellsBy}
use Rattle.rc_pikevm_search.specs.Walks.{again}
use Rattle.rc_reach.specs.Edits.{match_further}
use Rattle.rc_reach.specs.Live.{found_by, over_content}
use Rattle.rc_reach.specs.Settled.{AgreesBelow}
use Rattle.api_meta.specs.Reached.{TellsBelow}
use Rattle.api_meta.specs.Views.{regex_kind, sought as sought_of}
use Rattle.stream_search.specs.Groups.{AreOf, IsNext, TellsFrom, TellsKept, TellsNext, captures_further}
use Rattle.api_meta.specs.declared.regex.Regex.{Regex}
use Rattle.stream_search.specs.Searches.{IsFrom, seeks}
use Rattle.stream_search.specs.Searching.{Finds, HoldsRest, IsPlaced, Streaming, WasFed}
use Rattle.stream_search.specs.Streams.{MayBecome}
use Rattle.stream_search.proofs.Contents.{as_long, becomes, forgets, goes}
use Rattle.stream_search.proofs.Without.{groups_without, over_is}

-- ---- a text that goes on

take_less : (xs ys : List ℕ) (r q : ℕ) → r ≤ q → take q xs ≡ take q ys → take r xs ≡ take r ys
take_less xs ys r q h e = sym (take-take r q xs h) ∙ ap (take r) e ∙ take-take r q ys h

agrees_less : (s t : Search) (r q : ℕ) → r ≤ q → AgreesBelow q s t → AgreesBelow r s t
agrees_less s t r q h a = record {
  places = a.places;
  terminator = a.terminator;
  slice_start = a.slice_start;
  lo = a.lo;
  anchoring = a.anchoring;
  passes_over = a.passes_over;
  read = take_less (take t.hi t.text.content) (take s.hi s.text.content) r q h a.read;
  seen = take_less (take t.text.slice_end t.text.content) (take s.text.slice_end s.text.content) r q h a.seen;
  content = take_less t.text.content s.text.content r q h a.content;
}

-- captures of some bytes tell the groups of what these bytes become
groups_there : (kind : MatchKind) (s : Search) (is_finished : Bool) (bytes content : List ℕ) (at reach : ℕ) (caps : Captures) →
    (is_finished ≡ false → reach ≤ length bytes) → TellsBy kind (from_on (over_content s bytes) at) caps →
    TellsBelow kind reach (from_on (over_content s bytes) at) caps → MayBecome is_finished bytes content →
    TellsBy kind (from_on (over_content s content) at) caps
groups_there kind s true bytes content at reach caps few all below b = subst (λ c. TellsBy kind (from_on (over_content s c) at) caps) (sym b) all
groups_there kind s false bytes content at reach caps few all below b =
    let g = goes s bytes b.0 at in
    subst (λ c. TellsBy kind (from_on (over_content s c) at) caps) (sym b.1)
    (below (from_on (over_content s (bytes ++ b.0)) at) g.0
    (agrees_less (from_on (over_content s bytes) at) (from_on (over_content s (bytes ++ b.0)) at) reach (length bytes) (few refl) g.1))

-- and, further on, of a text with more bytes before them
groups_whole : (kind : MatchKind) (s : Search) (content : List ℕ) (gone at : ℕ) (caps : Captures) → gone ≤ length content → gone ≤ at + gone - 4 →
    TellsBy kind (from_on (over_content s (drop gone content)) at) caps →
    TellsBy kind (from_on (over_content s content) (at + gone)) (captures_further gone caps)
groups_whole kind s content gone at caps inside far tells =
    let l = length-drop gone content in
    let n = length (drop gone content) in
    subst (λ x. TellsBy kind x (captures_further gone caps)) (over_is s content (at + gone) (n + gone) (omega (arith, l, inside)))
    (groups_without kind s content gone at n caps inside far
    (subst (λ x. TellsBy kind x caps) (sym (over_is s (drop gone content) at n refl)) tells))

module _ (s : Streaming) (fed : List ℕ) (rest : HoldsRest fed s) (placed : IsPlaced s.gone (length s.kept) s.from s.last) (at : ℕ) (at_is : at ≡ s.from - s.gone) where
  abbrev kind : MatchKind
  kind = regex_kind s.regex

  abbrev sought : Search
  sought = seeks s.regex

  there : at + s.gone ≡ s.from
  there = let m = placed.margin in omega (arith, at_is, m)

  far : s.gone ≤ at + s.gone - 4
  far = let m = placed.margin in let t = there in omega (arith, m, t)

  kept_become : (content : List ℕ) → MayBecome s.is_finished fed content → MayBecome s.is_finished s.kept (drop s.gone content)
  kept_become content b =
      subst (λ k. MayBecome s.is_finished k (drop s.gone content)) (sym rest.kept_is) (becomes s.is_finished fed content s.gone rest.inside b)

  room : (content : List ℕ) → MayBecome s.is_finished fed content → s.gone ≤ length content
  room content b = let l = as_long s.is_finished fed content b in let i = rest.inside in omega (arith, l, i)

  groups : (caps : Captures) (reach : ℕ) → (s.is_finished ≡ false → reach ≤ length s.kept) → TellsBy kind (from_on (over_content sought s.kept) at) caps →
      TellsBelow kind reach (from_on (over_content sought s.kept) at) caps → TellsFrom s fed caps (λ _. s.from)
  groups caps reach few all below content b =
      subst (λ k. TellsBy kind (from_on (over_content sought content) k) (captures_further s.gone caps)) there
      (groups_whole kind sought content s.gone at caps (room content b) far
      (groups_there kind sought s.is_finished s.kept (drop s.gone content) at reach caps few all below (kept_become content b)))

  -- the match that the kept bytes have there
  match_is : (m : Found) → Finds s fed (Some m) → option_map (match_further s.gone) (found_by kind sought s.kept at) ≡ Some m
  match_is m finds =
      ap (λ k. option_map (match_further s.gone) (found_by kind sought k at)) rest.kept_is
      ∙ sym (forgets kind sought fed s.gone at rest.inside far) ∙ ap (found_by kind sought fed) there ∙ finds fed (itself s.is_finished)
    where
      itself : (f : Bool) → MayBecome f fed fed
      itself true = refl
      itself false = ([], sym (append-nil fed))

-- ---- of what a searcher holds: `s` as it is inside, `now` as contracts see it

module _ {s now : Streaming} (same : s ≡ now) (fed : List ℕ) (holds : HoldsRest fed now) (placed : IsPlaced s.gone (length s.kept) s.from s.last) where
  rest_inside : HoldsRest fed s
  rest_inside = subst (HoldsRest fed) (sym same) holds

  pub groups_now : (bytes : List ℕ) → bytes ≡ s.kept → (caps : Captures) (reach : ℕ) → (s.is_finished ≡ false → reach ≤ length bytes) →
      TellsBy (regex_kind s.regex) (from_on (over_content (seeks s.regex) bytes) (s.from - s.gone)) caps →
      TellsBelow (regex_kind s.regex) reach (from_on (over_content (seeks s.regex) bytes) (s.from - s.gone)) caps →
      TellsFrom now fed caps (λ _. now.from)
  groups_now bytes is caps reach few all below =
      subst (λ x. TellsFrom x fed caps (λ _. x.from)) same
      (groups s fed rest_inside placed (s.from - s.gone) refl caps reach (λ f. let h = few f in let l = ap length is in omega (arith, h, l))
      (subst (λ k. TellsBy (regex_kind s.regex) (from_on (over_content (seeks s.regex) k) (s.from - s.gone)) caps) is all)
      (subst (λ k. TellsBelow (regex_kind s.regex) reach (from_on (over_content (seeks s.regex) k) (s.from - s.gone)) caps) is below))

  pub match_now : (bytes : List ℕ) → bytes ≡ s.kept → (caps : Captures) →
      match_of caps ≡ found_by (regex_kind s.regex) (seeks s.regex) bytes (s.from - s.gone) → (m : Found) → Finds now fed (Some m) → AreOf now caps m
  match_now bytes is caps told m finds =
      subst (λ (x : Streaming). option_map (match_further x.gone) (match_of caps) ≡ Some m) same
      (ap (option_map (match_further s.gone)) (told ∙ ap (λ k. found_by (regex_kind s.regex) (seeks s.regex) k (s.from - s.gone)) is)
      ∙ match_is s fed rest_inside placed (s.from - s.gone) refl m (subst (λ x. Finds x fed (Some m)) (sym same) finds))

  -- the same, of a search by the regex of the searcher
  module _ (bytes : List ℕ) (is : bytes ≡ s.kept) (r : Regex) (of : r ≡ s.regex) (i : Searched) (seen : IsFrom bytes (s.from - s.gone) i) (caps : Captures) where
    over : search_for (sought_of r) i ≡ from_on (over_content (seeks s.regex) bytes) (s.from - s.gone)
    over = seen (sought_of r) ∙ ap (λ (x : Regex). from_on (over_content (seeks x) bytes) (s.from - s.gone)) of

    kinds : regex_kind r ≡ regex_kind s.regex
    kinds = ap regex_kind of

    pub groups_inside : (reach : ℕ) → (s.is_finished ≡ false → reach ≤ length bytes) → TellsBy (regex_kind r) (search_for (sought_of r) i) caps →
        TellsBelow (regex_kind r) reach (search_for (sought_of r) i) caps → TellsFrom now fed caps (λ _. now.from)
    groups_inside reach few all below =
        groups_now bytes is caps reach few
        (subst (λ k. TellsBy k (from_on (over_content (seeks s.regex) bytes) (s.from - s.gone)) caps) kinds
        (subst (λ x. TellsBy (regex_kind r) x caps) over all))
        (subst (λ k. TellsBelow k reach (from_on (over_content (seeks s.regex) bytes) (s.from - s.gone)) caps) kinds
        (subst (λ x. TellsBelow (regex_kind r) reach x caps) over below))

    pub match_inside : match_of caps ≡ answer_by (regex_kind r) (search_for (sought_of r) i) → (m : Found) → Finds now fed (Some m) → AreOf now caps m
    match_inside told m finds =
        match_now bytes is caps
        (told ∙ ap (λ k. answer_by k (search_for (sought_of r) i)) kinds ∙ ap (answer_by (regex_kind s.regex)) over) m finds

-- ---- in the kept bytes alone

pub here_inside : {s now : Streaming} → s ≡ now → (bytes : List ℕ) → bytes ≡ s.kept → (r : Regex) → r ≡ s.regex → (i : Searched) →
    IsFrom bytes (s.from - s.gone) i → (caps : Captures) → TellsBy (regex_kind r) (search_for (sought_of r) i) caps → TellsKept now caps
here_inside {s} {now} same bytes is r of i seen caps all =
    subst (λ x. TellsKept x caps) same (
      s.from - s.gone,
      subst (λ k. TellsBy (regex_kind s.regex) (from_on (over_content (seeks s.regex) k) (s.from - s.gone)) caps) is
          (subst (λ (x : Regex). TellsBy (regex_kind x) (from_on (over_content (seeks x) bytes) (s.from - s.gone)) caps) of
          (subst (λ x. TellsBy (regex_kind r) x caps) (seen (sought_of r)) all)),
    )

pub here_stays : (s t : Streaming) (caps : Captures) → t ≡ record s { from = t.from } → TellsKept t caps → TellsKept s caps
here_stays s t caps stays here = subst (λ x. TellsKept x caps) stays here

-- ---- where the next match is looked for

pub next_here : (s : Streaming) (fed : List ℕ) (m : Found) → Finds s fed (Some m) → is_again begin_of end_of s.last m ≡ false → IsNext s fed s.from
next_here s fed m finds fresh content b =
    ap (λ o. if again s.last o then s.from + 1 else s.from) (finds content b) ∙ ap (λ t. if t then s.from + 1 else s.from) fresh

pub next_later : (s : Streaming) (fed : List ℕ) (m : Found) → Finds s fed (Some m) → is_again begin_of end_of s.last m ≡ true → IsNext s fed (s.from + 1)
next_later s fed m finds again_is content b =
    ap (λ o. if again s.last o then s.from + 1 else s.from) (finds content b) ∙ ap (λ t. if t then s.from + 1 else s.from) again_is

-- the groups of the next match
pub groups_next : (s t : Streaming) (fed : List ℕ) (caps : Captures) → t ≡ record s { from = t.from } → IsNext s fed t.from →
    TellsFrom t fed caps (λ _. t.from) → TellsNext s fed caps
groups_next s t fed caps stays next tells content b =
    subst (λ k. TellsBy (regex_kind s.regex) (from_on (over_content (seeks s.regex) content) k) (captures_further s.gone caps)) (sym (next content b))
    (subst (λ x. TellsFrom x fed caps (λ _. t.from)) stays tells content b)

-- ---- what a search from there leaves

module _ (old s t : Streaming) (fed : List ℕ) (told : List Found) (was : WasFed fed told s) (stays : t ≡ record s { from = t.from }) where
  pub sought_at : (m : Found) → t.from ≡ s.from → IsNext old fed s.from → Finds s fed (Some m) →
      IsNext old fed t.from × HoldsRest fed t × Finds t fed (Some m)
  sought_at m same next finds =
      let stood : t ≡ s = stays ∙ ap (λ f. record s { from = f }) same in (
        subst (IsNext old fed) (sym same) next,
        subst (HoldsRest fed) (sym stood) (record { kept_is = was.kept_is; inside = was.inside }),
        subst (λ x. Finds x fed (Some m)) (sym stood) finds,
      )

  pub sought_later : IsNext old fed s.from → (o : Option Found) →
      IfSome o (λ m. (t.from ≡ s.from) × (s.from ≤ m.start) × (m.start ≤ m.end) × (m.end ≤ s.gone + length s.kept)) →
      MatchOption o (WasFed fed told t) (λ m. Finds s fed (Some m)) → IfSome o (λ m. IsNext old fed t.from × HoldsRest fed t × Finds t fed (Some m))
  sought_later next None lies tells = tt
  sought_later next (Some m) lies tells = sought_at m lies.0 next tells

-- after a match was told, the searcher stands at its end
pub told_at : {s now : Streaming} → s ≡ now → (fed : List ℕ) (all : List Found) (m : Found) (p q : ℕ) → p ≡ m.end → q ≡ m.end →
    WasFed fed all (record now { from = m.end; last = Some m.end }) → WasFed fed all (record s { from = p; last = Some q })
told_at {s} {now} same fed all m p q there last was =
    subst (λ x. WasFed fed all (record s { from = x; last = Some q })) (sym there)
    (subst (λ x. WasFed fed all (record s { from = m.end; last = Some x })) (sym last)
    (subst (λ (x : Streaming). WasFed fed all (record x { from = m.end; last = Some m.end })) (sym same) was))
