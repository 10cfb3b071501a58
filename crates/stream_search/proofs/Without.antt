-- Searches of a text, and of the same text without its first bytes.
use Rattle.std.proofs.Common.{◌≡◌, ◌∙◌, ◌+◌, ◌-◌, ◌≤◌, ℕ, List, ⊎_elim, ap, ap₂, arith, drop, take, length, min, refl, slice_range, subst, sym, length-drop, length-take, take-add}
use Rattle.std.specs.List.{slice_get}
use Rattle.std.specs.Option.{option_map}
use Rattle.std.proofs.lemmas.Bool.{cases_lt}
use Rattle.std.proofs.lemmas.List.{drop-drop}
use Rattle.rc_text.specs.declared.types.MatchKind.{MatchKind}
use Rattle.rc_text.specs.declared.types.MatchKind.TheVariants.{All as all_matches, LeftmostFirst as leftmost_first, LeftmostLongest as leftmost_longest}
use Rattle.rc_text.proofs.Ranges.{slice_get-slice_range}
use Rattle.rc_captures.specs.declared.captures.Captures.{Captures}
use Rattle.rc_program.specs.Answer.{Search, chosen}
use Rattle.rc_program.specs.Greatest.{greatest}
use Rattle.rc_program.specs.Kinds.{answer_by}
use Rattle.rc_program.specs.Longest.{longest_chosen}
use Rattle.rc_program.specs.Looks.{side_before}
use Rattle.rc_program.specs.Matches.{from_on}
use Rattle.rc_program.proofs.SideLemmas.{side_before-append}
use Rattle.rc_pikevm_search.specs.Tells.{TellsBy}
use Rattle.rc_reach.specs.Alike.{AreAlike}
use Rattle.rc_reach.specs.Edits.{match_further}
use Rattle.rc_reach.specs.Live.{over_content}
use Rattle.rc_reach.proofs.AlikeLemmas.{same_answer, same_chosen}
use Rattle.rc_reach.proofs.GreatestLemmas.{same_greatest}
use Rattle.rc_reach.proofs.KnownLemmas.{all_known, longest_known, whole_known}
use Rattle.rc_reach.proofs.LawLemmas.{all_stay, matches_stay}
use Rattle.rc_reach.proofs.LongestLemmas.{same_longest, same_longest_chosen}
use Rattle.stream_search.specs.Groups.{captures_further}
use Rattle.stream_search.proofs.Further.{tells_further}

-- the search of a content in a range
abbrev pub ranged : Search → List ℕ → ℕ → ℕ → Search
ranged s content at end = record (from_on (over_content s content) at) { hi = min end (length content) }

module _ (s : Search) (text : List ℕ) (d at end : ℕ) (inside : d ≤ length text) (far : 4 ≤ at) where
  abbrev rest : List ℕ
  rest = drop d text

  lengths : length rest + d ≡ length text
  lengths = let l = length-drop d text in omega (arith, l, inside)

  rests : (p : ℕ) → drop (p + d) text ≡ drop p rest
  rests p = ap (λ n. drop n text) (omega arith) ∙ sym (drop-drop p d text)

  ranges : (p e : ℕ) → slice_range text (p + d) (e + d) ≡ slice_range rest p e
  ranges p e = ap₂ (λ n xs. take n xs) (let z : (e + d) - (p + d) ≡ e - p = omega arith in z) (rests p)

  befores : (p : ℕ) → 4 ≤ p → p ≤ length rest → side_before (slice_range text 0 (p + d)) ≡ side_before (slice_range rest 0 p)
  befores p h low =
      let l = length-take p rest in
      ap (λ n. side_before (take n text)) (let z : (p + d) - 0 ≡ d + p = omega arith in z) ∙ ap side_before (take-add d p text)
      ∙ side_before-append (take d text) (take p rest) (omega (arith, l, h, low))
      ∙ ap (λ n. side_before (take n rest)) (let z : p ≡ p - 0 = omega arith in z)

  gets : (p : ℕ) → slice_get text (p + d) ≡ slice_get rest p
  gets p =
      let n2 : (p + d) + 0 ≡ p + d = omega arith in
      let n1 : p + 0 ≡ p = omega arith in
      let k : (p + 1) + d ≡ (p + d) + 1 = omega arith in
      sym (slice_get-slice_range text (p + d) ((p + d) + 1) 0 (omega arith) ∙ ap (slice_get text) n2)
      ∙ ap (λ e. slice_get (slice_range text (p + d) e) 0) (sym k) ∙ ap (λ xs. slice_get xs 0) (ranges p (p + 1))
      ∙ slice_get-slice_range rest p (p + 1) 0 (omega arith) ∙ ap (slice_get rest) n1

  alike : (r : ℕ) → AreAlike d 4 r (ranged s rest at end) (ranged s text (at + d) (end + d))
  alike r = record {
    places = refl;
    terminator = refl;
    anchoring = refl;
    passes_over = refl;
    lo = omega arith;
    above = omega (arith, far);
    bound = λ p a b. let l = lengths in ((λ z. omega (arith, z, l)), (λ z. omega (arith, z, l)));
    before = λ p a b z. befores p a (omega (arith, z));
    read = λ p a b z. let l = lengths in
        let hi : min (end + d) (length text) ≡ min end (length rest) + d = omega (arith, l) in
        ap (take (r - p)) (ap (slice_range text (p + d)) hi ∙ ranges p (min end (length rest)));
    seen = λ p a b z. ap (take (r - p)) (ap (slice_range text (p + d)) (sym lengths) ∙ ranges p (length rest));
    content = λ p a b z. gets p;
  }

  dropped : (kind : MatchKind) → answer_by kind (ranged s text (at + d) (end + d)) ≡ option_map (match_further d) (answer_by kind (ranged s rest at end))
  dropped leftmost_first =
      let r = length rest + 5 in
      same_answer (ranged s rest at end) (ranged s text (at + d) (end + d)) d 4 r (alike r) (omega arith) (all_known (ranged s rest at end) r (omega arith))
  dropped leftmost_longest =
      let r = length rest + 5 in
      same_longest (ranged s rest at end) (ranged s text (at + d) (end + d)) d 4 r (alike r) (omega arith)
      (longest_known (ranged s rest at end) r (omega arith))
  dropped all_matches =
      let r = length rest + 5 in
      same_greatest (ranged s rest at end) (ranged s text (at + d) (end + d)) d 4 r (alike r) (omega arith)
      (whole_known (ranged s rest at end) r (omega arith))

  groups_dropped : (kind : MatchKind) (caps : Captures) → TellsBy kind (ranged s rest at end) caps →
      TellsBy kind (ranged s text (at + d) (end + d)) (captures_further d caps)
  groups_dropped kind caps tells =
      let r = length rest + 5 in
      let a = ranged s rest at end in
      let b = ranged s text (at + d) (end + d) in
      tells_further d a b refl caps kind
      (λ _. same_chosen a b d 4 r (alike r) (omega arith) (all_known a r (omega arith)))
      (λ _. same_longest_chosen a b d 4 r (alike r) (omega arith) (longest_known a r (omega arith)))
      (λ _. same_greatest a b d 4 r (alike r) (omega arith) (whole_known a r (omega arith))) tells

-- what is more than four bytes before the range changes nothing
pub without : (kind : MatchKind) (s : Search) (text : List ℕ) (d at end : ℕ) → d ≤ length text → d ≤ at + d - 4 →
    answer_by kind (ranged s text (at + d) (end + d)) ≡ option_map (match_further d) (answer_by kind (ranged s (drop d text) at end))
without kind s text d at end inside far =
    ⊎_elim (λ none. let z : d ≡ 0 = omega (arith, none) in
    subst (λ n. answer_by kind (ranged s text (at + n) (end + n)) ≡ option_map (match_further n) (answer_by kind (ranged s (drop n text) at end))) (sym z)
    (ap₂ (λ a e. answer_by kind (ranged s text a e)) (let e : at + 0 ≡ at = omega arith in e) (let e : end + 0 ≡ end = omega arith in e)
    ∙ sym (matches_stay (answer_by kind (ranged s text at end)))))
    (λ some. dropped s text d at end inside (omega (arith, some, far)) kind)
    (cases_lt d 1)

-- nor the groups
pub groups_without : (kind : MatchKind) (s : Search) (text : List ℕ) (d at end : ℕ) (caps : Captures) → d ≤ length text → d ≤ at + d - 4 →
    TellsBy kind (ranged s (drop d text) at end) caps → TellsBy kind (ranged s text (at + d) (end + d)) (captures_further d caps)
groups_without kind s text d at end caps inside far tells =
    ⊎_elim (λ none. let z : d ≡ 0 = omega (arith, none) in
    subst (λ n. TellsBy kind (ranged s (drop n text) at end) caps → TellsBy kind (ranged s text (at + n) (end + n)) (captures_further n caps)) (sym z)
    (λ here. subst (λ x. TellsBy kind x (captures_further 0 caps))
    (ap₂ (λ a e. ranged s text a e) (let e : at ≡ at + 0 = omega arith in e) (let e : end ≡ end + 0 = omega arith in e))
    (tells_further 0 (ranged s text at end) (ranged s text at end) refl caps kind
    (λ _. sym (all_stay (chosen (ranged s text at end))))
    (λ _. sym (all_stay (longest_chosen (ranged s text at end))))
    (λ _. sym (matches_stay (greatest (ranged s text at end)))) here)) tells)
    (λ some. groups_dropped s text d at end inside (omega (arith, some, far)) kind caps tells)
    (cases_lt d 1)

-- the range of all bytes
pub over_is : (s : Search) (content : List ℕ) (at end : ℕ) → end ≡ length content → ranged s content at end ≡ from_on (over_content s content) at
over_is s content at end e =
    ap (λ h. let x = from_on (over_content s content) at in record x { hi = h }) (let m : min end (length content) ≡ length content = omega (arith, e) in m)
