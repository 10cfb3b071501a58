-- Two automata of the same patterns have the same machines, and the same classes of bytes.
use Rattle.std.proofs.Common.{◌≡◌, ◌∙◌, ℕ, zero, suc, ◌+◌, ◌<◌, Bool, true, false, List, length, slice_index, if◌then◌else◌, inl, inr, refl, sym, subst, ap, arith, IsTrue}
use Rattle.std.proofs.lemmas.Bool.{cases_lt}
use Rattle.std.proofs.lemmas.List.{ext_get_or}
use Rattle.rc_pattern.specs.Re.{Re}
use Rattle.rc_text.specs.declared.types.MatchKind.{MatchKind}
use Rattle.rc_program.specs.Program.{Place, program}
use Rattle.rc_utf8.specs.Bytes.{bytes_of}
use Rattle.rc_determinize.specs.declared.sides.Asked.{Asked}
use Rattle.rc_determinize.specs.Sides.{AreAsked}
use Rattle.rc_determinize.specs.Classes.{AreClasses, is_border}
use Rattle.rc_dfa.specs.Machine.{Alphabet, forwards, backwards, Machine}
use Rattle.rc_dfa.specs.Samples.{AreClassesBy, AreSamples}
use Rattle.rc_dfa_search.specs.Classes.{AreClassesOf}
use Rattle.rc_dfa_search.specs.Machines.{AreMachinesOver, machine_by}

same_bool : (a b : Bool) → (IsTrue a → IsTrue b) → (IsTrue b → IsTrue a) → a ≡ b
same_bool true true f g = refl
same_bool true false f g = sym (f refl)
same_bool false true f g = g refl
same_bool false false f g = refl

abbrev needs_by : Bool → Bool → Bool → Bool → Bool → Bool → Asked
needs_by e t l c w u = record { facts = record { edge = e; terminator = t; line_feed = l; carriage_return = c; word = w }; unicode = u }

-- the least of what covers a program's assertions is one
pub same_needs : (places : List Place) (a b : Asked) → AreAsked a places → AreAsked b places → a ≡ b
same_needs places a b h k =
    let x = h.least b k.covers in
    let y = k.least a h.covers in
    let e = same_bool a.facts.edge b.facts.edge x.edge y.edge in
    let t = same_bool a.facts.terminator b.facts.terminator x.terminator y.terminator in
    let l = same_bool a.facts.line_feed b.facts.line_feed x.line_feed y.line_feed in
    let c = same_bool a.facts.carriage_return b.facts.carriage_return x.carriage_return y.carriage_return in
    let w = same_bool a.facts.word b.facts.word x.word y.word in
    let u = same_bool a.unicode b.unicode x.unicode y.unicode in
    ap (λ v. needs_by v a.facts.terminator a.facts.line_feed a.facts.carriage_return a.facts.word a.unicode) e
    ∙ ap (λ v. needs_by b.facts.edge v a.facts.line_feed a.facts.carriage_return a.facts.word a.unicode) t
    ∙ ap (λ v. needs_by b.facts.edge b.facts.terminator v a.facts.carriage_return a.facts.word a.unicode) l
    ∙ ap (λ v. needs_by b.facts.edge b.facts.terminator b.facts.line_feed v a.facts.word a.unicode) c
    ∙ ap (λ v. needs_by b.facts.edge b.facts.terminator b.facts.line_feed b.facts.carriage_return v a.unicode) w
    ∙ ap (λ v. needs_by b.facts.edge b.facts.terminator b.facts.line_feed b.facts.carriage_return b.facts.word v) u

module _ (places : List Place) (needs : Asked) (terminator : ℕ) (xs ys : List ℕ) where
  -- byte by byte
  told_at : AreClasses places needs terminator xs → AreClasses places needs terminator ys → (b : ℕ) → b < 256 → slice_index xs b ≡ slice_index ys b
  told_at h k zero lt = h.first ∙ sym k.first
  told_at h k (suc b) lt =
      let step : ℕ → ℕ = λ c. if is_border places needs terminator b then c + 1 else c in
      let one : suc b ≡ b + 1 = omega arith in
      let same : slice_index xs (b + 1) ≡ slice_index ys (b + 1) =
      h.next b (omega (arith, lt)) ∙ ap step (told_at h k b (omega (arith, lt))) ∙ sym (k.next b (omega (arith, lt))) in
      subst (λ i. slice_index xs i ≡ slice_index ys i) (sym one) same

  pub same_classes : (t : Bool) → AreClassesBy t places needs terminator xs → AreClassesBy t places needs terminator ys → xs ≡ ys
  same_classes true h k =
      let size = h.size in ext_get_or 0 xs ys (h.size ∙ sym k.size) (λ b lt. told_at h k b (omega (arith, lt, size)))
  same_classes false h k =
      let size = h.size in
      ext_get_or 0 xs ys (h.size ∙ sym k.size)
      (λ b lt. h.own b (omega (arith, lt, size)) ∙ sym (k.own b (omega (arith, lt, size))))

-- there are as many classes as bytes that stand for one each
no_more : (classes xs ys : List ℕ) → AreSamples classes xs → AreSamples classes ys → length xs < length ys → ⊥
no_more classes xs ys h k lt =
    let own = k.own (length xs) lt in
    let low = h.all (slice_index ys (length xs)) own.0 in
    let same = own.1 in
    omega (arith, low, same)

pub same_count : (classes xs ys : List ℕ) → AreSamples classes xs → AreSamples classes ys → length xs ≡ length ys
same_count classes xs ys h k =
    elim (cases_lt (length xs) (length ys)) [
      | inl lt ↦ absurd (no_more classes xs ys h k lt)
      | inr ge ↦ elim (cases_lt (length ys) (length xs)) [
        | inl lt ↦ absurd (no_more classes ys xs k h lt)
        | inr le ↦ omega (arith, ge, le)
      ]
    ]

pub record AreSameMachines (a b c d : Machine) : Type 0 where
  pub ahead : a ≡ c
  pub back : b ≡ d

pub same_machines : (alphabet : Alphabet) (hs : List Re) (terminator : ℕ) (kind : MatchKind) (a b c d : Machine) → AreMachinesOver alphabet hs terminator kind a b →
    AreMachinesOver alphabet hs terminator kind c d →
    AreSameMachines a b c d
same_machines alphabet hs terminator kind a b c d h k =
    let same = same_needs (bytes_of (program hs)) h.needs k.needs h.are_needs k.are_needs in record {
      ahead = h.ahead ∙ ap (λ n. machine_by alphabet hs n terminator (forwards kind)) same ∙ sym k.ahead;
      back = h.back ∙ ap (λ n. machine_by alphabet hs n terminator backwards) same ∙ sym k.back;
    }

pub same_classes_of : (t : Bool) (hs : List Re) (terminator : ℕ) (xs ys : List ℕ) → AreClassesOf t hs terminator xs → AreClassesOf t hs terminator ys → xs ≡ ys
same_classes_of t hs terminator xs ys h k =
    let same = same_needs (bytes_of (program hs)) h.needs k.needs h.are_needs k.are_needs in
    same_classes (bytes_of (program hs)) k.needs terminator xs ys t
    (subst (λ n. AreClassesBy t (bytes_of (program hs)) n terminator xs) same h.told) k.told
