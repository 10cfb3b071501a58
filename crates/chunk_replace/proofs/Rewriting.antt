-- The replaced text, match by match.
use Rattle.std.proofs.Common.{◌≡◌, ◌≢◌, ◌∙◌, ℕ, List, [], ◌∷◌, ◌++◌, Bool, true, false, map, drop, Option, Some, None, Result, Ok, ap, subst, sym, refl, append_assoc, slice_range}
use Rattle.std.specs.Io.KnownBytes.{Appends}
use Rattle.std.specs.List.{flat_map}
use Rattle.rc_text.specs.Found.{Found}
use Rattle.rc_text.specs.declared.types.MatchKind.{MatchKind}
use Rattle.rc_text.specs.declared.types.MatchKind.TheVariants.{All as all_matches}
use Rattle.rc_captures.specs.Captures.{HasMatch}
use Rattle.rc_captures.specs.declared.captures.Captures.{Captures}
use Rattle.rc_program.specs.Answer.{Chosen, Search, found, last_of, pattern_of, slot_of}
use Rattle.rc_program.specs.Kinds.{matches_by_kind}
use Rattle.rc_program.specs.Matches.{from_on}
use Rattle.rc_pikevm_search.specs.Walks.{walks_left}
use Rattle.rc_pikevm_search.proofs.Walked.{walks_law}
use Rattle.std.specs.declared.alloc.AllocError.{AllocError}
use Rattle.api_meta.specs.Left.{GivesCaptures, HoldsNext, TellsWalk, captures_left, captures_regex, captures_walks, unless_done}
use Rattle.api_meta.specs.Views.{regex_kind, regex_names}
use Rattle.api_meta.specs.declared.iterators.CapturesMatches.{CapturesMatches}
use Rattle.regex_cursor.specs.Put.{AppendsBeginning, Puts}
use Rattle.chunk_replace.specs.Replaced.{replaced_from, replacement}
use Rattle.chunk_replace.specs.declared.template.Part.{Part}
use Rattle.chunk_replace.specs.Template.{Item, items_of}
use Rattle.chunk_replace.specs.Told.{searched, told, told_parts}
use Rattle.regex_cursor.proofs.Grown.{Appends-nil, Appends-trans}
use Rattle.regex_cursor.proofs.Puts.{begun, begun_less, begun_more, puts_as, puts_then}
use Rattle.chunk_replace.proofs.Groups.{items_told}

-- The text was put up to the place `from`; these matches are left of all.
pub record Rewrites (content : List ℕ) (by : Chosen → List ℕ) (all left : List Chosen) (from : ℕ) (a b : Option (List ℕ)) : Type 0 where
  pub done : List ℕ
  pub split : replaced_from content by 0 all ≡ done ++ replaced_from content by from left
  pub appended : Appends a b done

module _ (content : List ℕ) (by : Chosen → List ℕ) where
  pub rewrites_none : (all : List Chosen) (a : Option (List ℕ)) → Rewrites content by all all 0 a a
  rewrites_none all a = record { done = []; split = refl; appended = Appends-nil a }

  -- the first of the matches that are left
  step_split : (all left rest : List Chosen) (from : ℕ) (done : List ℕ) (c : Chosen) → left ≡ c ∷ rest →
      replaced_from content by 0 all ≡ done ++ replaced_from content by from left →
      replaced_from content by 0 all ≡ (done ++ (slice_range content from c.start ++ by c)) ++ replaced_from content by (last_of c.walk).1 rest
  step_split all left rest from done c e s =
      let gap = slice_range content from c.start in
      let others = replaced_from content by (last_of c.walk).1 rest in
      s ∙ ap (λ l. done ++ replaced_from content by from l) e ∙ ap (λ l. done ++ l) (sym (append_assoc gap (by c) others))
      ∙ sym (append_assoc done (gap ++ by c) others)

  -- one match more
  pub rewrites_more : (all left rest : List Chosen) (from : ℕ) (a b d : Option (List ℕ)) (c : Chosen) → left ≡ c ∷ rest → Rewrites content by all left from a b →
      Appends b d (slice_range content from c.start ++ by c) → Rewrites content by all rest (last_of c.walk).1 a d
  rewrites_more all left rest from a b d c e r q = record {
    done = r.done ++ (slice_range content from c.start ++ by c);
    split = step_split all left rest from r.done c e r.split;
    appended = Appends-trans a b d r.done (slice_range content from c.start ++ by c) r.appended q;
  }

  -- a beginning of one
  pub rewrites_begun : (all left rest : List Chosen) (from : ℕ) (a b d : Option (List ℕ)) (c : Chosen) → left ≡ c ∷ rest → Rewrites content by all left from a b →
      AppendsBeginning b d (slice_range content from c.start ++ by c) → AppendsBeginning a d (replaced_from content by 0 all)
  rewrites_begun all left rest from a b d c e r q =
      let one = slice_range content from c.start ++ by c in
      subst (AppendsBeginning a d) (sym (step_split all left rest from r.done c e r.split))
      (begun_less a d (r.done ++ one) (replaced_from content by (last_of c.walk).1 rest) (begun_more a b d r.done one r.appended q))

  -- nothing more
  pub rewrites_stopped : (all left : List Chosen) (from : ℕ) (a b : Option (List ℕ)) → Rewrites content by all left from a b →
      AppendsBeginning a b (replaced_from content by 0 all)
  rewrites_stopped all left from a b r = subst (AppendsBeginning a b) (sym r.split) (begun a b r.done (replaced_from content by from left) r.appended)

  -- the bytes after the last match
  pub rewrites_rest : {T E : Type 0} (r : Result T E) (all left : List Chosen) (from : ℕ) (a b d : Option (List ℕ)) → left ≡ [] → Rewrites content by all left from a b →
      Puts r b d (drop from content) → Puts r a d (replaced_from content by 0 all)
  rewrites_rest r all left from a b d e w p =
      puts_as r a d (w.done ++ drop from content) (replaced_from content by 0 all)
      (sym (w.split ∙ ap (λ l. w.done ++ replaced_from content by from l) e)) (puts_then r a b d w.done (drop from content) w.appended p)

-- The matches that are left are those of the walks that are left.
found_left : (done : Bool) (kind : MatchKind) (s : Search) (k : ℕ) (last : Option ℕ) → kind ≢ all_matches →
    map (found s) (unless_done done (walks_left kind s k last)) ≡ unless_done done (matches_by_kind kind s k last)
found_left true kind s k last e = refl
found_left false kind s k last e = walks_law kind s k last e

first_found : (s : Search) (ws rest : List Chosen) (w : Chosen) (ms others : List Found) (m : Found) → map (found s) ws ≡ ms → ws ≡ w ∷ rest → ms ≡ m ∷ others → m ≡ found s w
first_found s ws rest w ms others m e f g = let h : found s w ∷ map (found s) rest ≡ m ∷ others = ap (map (found s)) (sym f) ∙ e ∙ g in cc

-- What one match is replaced by.
pub record Steps {C : Type 0} (s t : CapturesMatches C) (all : Search) (caps : Captures) (m : Found) : Type 0 where
  pub walk : Chosen
  pub left : captures_walks s ≡ walk ∷ captures_walks t
  pub start : m.start ≡ walk.start
  pub end : m.end ≡ (last_of walk.walk).1
  pub told : (content : List ℕ) (items : List Item) → flat_map (told content caps) items ≡ replacement content (regex_names (captures_regex s)) all items walk

pub steps : {C : Type 0} (s t : CapturesMatches C) (all : Search) (k : ℕ) (caps : Captures) (m : Found) → regex_kind (captures_regex s) ≢ all_matches →
    searched s ≡ from_on all k → (h : HoldsNext s.seeker.seeker s.input caps t.seeker.seeker t.input) → m ≡ h.found → Steps s t all caps m
steps s t all k caps m kind same h is =
    let w : TellsWalk s.seeker.seeker s.input caps t.seeker.seeker t.input = h.tells kind in
    let f : h.found ≡ found (searched s) w.walk =
    first_found (searched s) (captures_walks s) (captures_walks t) w.walk (captures_left s) (captures_left t) h.found
    (found_left s.seeker.seeker.is_done (regex_kind (captures_regex s)) (searched s) s.input.span.start s.seeker.seeker.last kind) w.walks h.left in
    let has : HasMatch caps (pattern_of all w.walk) (slot_of all w.walk) = subst (λ x. HasMatch caps (pattern_of x w.walk) (slot_of x w.walk)) same w.told in
    record {
      walk = w.walk;
      left = w.walks;
      start = ap (λ (x : Found). x.start) (is ∙ f);
      end = ap (λ (x : Found). x.end) (is ∙ f);
      told = λ content items. items_told (regex_names (captures_regex s)) caps all w.walk h.kept.named h.kept.sized has content items;
    }

-- what was put for a match
pub one_bytes : (content other : List ℕ) (from start to : ℕ) (caps : Captures) (items : List Item) (by : List ℕ) → other ≡ content → start ≡ to →
    flat_map (told content caps) items ≡ by → slice_range other from start ++ flat_map (told other caps) items ≡ slice_range content from to ++ by
one_bytes content other from start to caps items by o e b =
    ap (λ l. slice_range l from start ++ flat_map (told l caps) items) o ∙ ap (λ n. slice_range content from n ++ flat_map (told content caps) items) e
    ∙ ap (λ l. slice_range content from to ++ l) b

-- What goes on match by match: what is left is of the same search, and the text was put with the matches so far replaced.
pub record Going {C : Type 0} (content : List ℕ) (items : List Item) (s t : CapturesMatches C) (from : ℕ) (a b : Option (List ℕ)) : Type 0 where
  pub regex : captures_regex t ≡ captures_regex s
  pub start : ℕ
  pub search : searched t ≡ from_on (searched s) start
  pub put : regex_kind (captures_regex s) ≢ all_matches →
      Rewrites content (replacement content (regex_names (captures_regex s)) (searched s) items) (captures_walks s) (captures_walks t) from a b

pub going_init : {C : Type 0} (content : List ℕ) (items : List Item) (s t : CapturesMatches C) (a : Option (List ℕ)) → t ≡ s → Going content items s t 0 a a
going_init {C} content items s t a e = record {
  regex = ap captures_regex e;
  start = s.input.span.start;
  search = ap searched e;
  put = λ kind.
      let by = replacement content (regex_names (captures_regex s)) (searched s) items in
      let P : CapturesMatches C → Type 0 = λ u. Rewrites content by (captures_walks s) (captures_walks u) 0 a a in
      subst P (sym e) (rewrites_none content by (captures_walks s) a);
}

-- captures that came hold the next match
pub holds_next : {C : Type 0} (s t : CapturesMatches C) (r : Result Captures AllocError) (caps : Captures) → r ≡ Ok caps →
    GivesCaptures s.seeker.seeker s.input (Some r) t.seeker.seeker t.input → HoldsNext s.seeker.seeker s.input caps t.seeker.seeker t.input
holds_next s t r caps e h = subst (λ y. GivesCaptures s.seeker.seeker s.input (Some y) t.seeker.seeker t.input) e h

-- its match is the captures' match
pub same_found : (o p : Option Found) (m n : Found) → o ≡ p → o ≡ Some m → p ≡ Some n → m ≡ n
same_found o p m n e f g = cc

module _ {C : Type 0} (content other : List ℕ) (parts : List Part) (s t u : CapturesMatches C) (from at : ℕ) (a b d : Option (List ℕ)) (caps : Captures) (m : Found)
    (going : Going content (flat_map items_of parts) s t from a b) (next : HoldsNext t.seeker.seeker t.input caps u.seeker.seeker u.input) (is : m ≡ next.found)
    (same : other ≡ content) (to : at ≡ m.start) where
  -- the next match's walk, and what it is replaced by
  one : regex_kind (captures_regex s) ≢ all_matches → Steps t u (searched s) caps m
  one kind = steps t u (searched s) going.start caps m (λ all. kind (sym (ap regex_kind going.regex) ∙ all)) going.search next is

  bytes : (kind : regex_kind (captures_regex s) ≢ all_matches) → slice_range other from at ++ told_parts other caps parts
      ≡ slice_range content from (one kind).walk.start ++ replacement content (regex_names (captures_regex s)) (searched s) (flat_map items_of parts) (one kind).walk
  bytes kind =
      let w = one kind in
      one_bytes content other from at w.walk.start caps (flat_map items_of parts) _ same (to ∙ w.start)
      (w.told content (flat_map items_of parts)
      ∙ ap (λ r. replacement content (regex_names r) (searched s) (flat_map items_of parts) w.walk) going.regex)

  pub going_more : (end : ℕ) → end ≡ m.end → Appends b d (slice_range other from at ++ told_parts other caps parts) →
      Going content (flat_map items_of parts) s u end a d
  going_more end ends p = record {
    regex = next.regex ∙ going.regex;
    start = next.start;
    search = next.search ∙ ap (λ x. from_on x next.start) going.search;
    put = λ kind.
        let by = replacement content (regex_names (captures_regex s)) (searched s) (flat_map items_of parts) in
        let w = one kind in
        let P : ℕ → Type 0 = λ n. Rewrites content by (captures_walks s) (captures_walks u) n a d in
        subst P (sym (ends ∙ w.end))
        (rewrites_more content by (captures_walks s) (captures_walks t) (captures_walks u) from a b d w.walk w.left (going.put kind)
        (subst (Appends b d) (bytes kind) p));
  }

  pub going_begun : AppendsBeginning b d (slice_range other from at ++ told_parts other caps parts) → regex_kind (captures_regex s) ≢ all_matches →
      AppendsBeginning a d
      (replaced_from content (replacement content (regex_names (captures_regex s)) (searched s) (flat_map items_of parts)) 0 (captures_walks s))
  going_begun p kind =
      let by = replacement content (regex_names (captures_regex s)) (searched s) (flat_map items_of parts) in
      let w = one kind in
      rewrites_begun content by (captures_walks s) (captures_walks t) (captures_walks u) from a b d w.walk w.left (going.put kind)
      (subst (AppendsBeginning b d) (bytes kind) p)

module _ {C : Type 0} (content : List ℕ) (items : List Item) (s t : CapturesMatches C) (from : ℕ) (a b : Option (List ℕ)) (going : Going content items s t from a b)
    (kind : regex_kind (captures_regex s) ≢ all_matches) where
  pub going_stopped : AppendsBeginning a b (replaced_from content (replacement content (regex_names (captures_regex s)) (searched s) items) 0 (captures_walks s))
  going_stopped =
      rewrites_stopped content (replacement content (regex_names (captures_regex s)) (searched s) items) (captures_walks s) (captures_walks t) from a b (going.put kind)

  -- no match is left
  pub going_rest : {T E : Type 0} (r : Result T E) (u : CapturesMatches C) (d : Option (List ℕ)) (other : List ℕ) → other ≡ content →
      GivesCaptures t.seeker.seeker t.input None u.seeker.seeker u.input → Puts r b d (drop from other) →
      Puts r a d (replaced_from content (replacement content (regex_names (captures_regex s)) (searched s) items) 0 (captures_walks s))
  going_rest r u d other same none p =
      rewrites_rest content (replacement content (regex_names (captures_regex s)) (searched s) items) r (captures_walks s) (captures_walks t) from a b d
      (none.1 (λ all. kind (sym (ap regex_kind going.regex) ∙ all))) (going.put kind) (puts_as r b d (drop from other) (drop from content) (ap (drop from) same) p)
