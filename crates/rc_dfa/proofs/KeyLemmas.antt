-- States are told apart by their keys.
use Rattle.std.proofs.Common.{◌≡◌, ℕ, Bool, true, false, is_some, List, Option, Some, None, refl, arith}
use Rattle.std.specs.Option.{unwrap_or}
use Rattle.rc_determinize.specs.declared.sides.Seen.{Seen}
use Rattle.rc_determinize.specs.States.{State}
use Rattle.rc_dfa.specs.Keys.{with_bit, facts_of, key_of}

bits_apart : (a b : Bool) (m n : ℕ) → with_bit a m ≡ with_bit b n → (a ≡ b) × (m ≡ n)
bits_apart true true m n e = (refl, omega arith)
bits_apart true false m n e = absurd (omega arith)
bits_apart false true m n e = absurd (omega arith)
bits_apart false false m n e = (refl, omega arith)

same_option : (o p : Option ℕ) → is_some o ≡ is_some p → unwrap_or o 0 ≡ unwrap_or p 0 → o ≡ p
same_option None None e f = refl
same_option None (Some b) e f = cc
same_option (Some a) None e f = cc
same_option (Some a) (Some b) e f = cc

record AreAlikeIn (s t : State) : Type 0 where
  edge : s.beside.edge ≡ t.beside.edge
  terminator : s.beside.terminator ≡ t.beside.terminator
  word : s.beside.word ≡ t.beside.word
  line_feed : s.beside.line_feed ≡ t.beside.line_feed
  carriage_return : s.beside.carriage_return ≡ t.beside.carriage_return
  letter : s.beside.letter ≡ t.beside.letter
  broken : s.beside.broken ≡ t.beside.broken
  goes_on : s.goes_on ≡ t.goes_on
  matched : is_some s.matched ≡ is_some t.matched

same_facts : (s t : State) → facts_of s ≡ facts_of t → AreAlikeIn s t
unfolding facts_of
same_facts s t e =
    let edge = bits_apart s.beside.edge t.beside.edge _ _ e in
    let terminator = bits_apart s.beside.terminator t.beside.terminator _ _ edge.1 in
    let word = bits_apart s.beside.word t.beside.word _ _ terminator.1 in
    let line_feed = bits_apart s.beside.line_feed t.beside.line_feed _ _ word.1 in
    let carriage_return = bits_apart s.beside.carriage_return t.beside.carriage_return _ _ line_feed.1 in
    let letter = bits_apart s.beside.letter t.beside.letter _ _ carriage_return.1 in
    let broken = bits_apart s.beside.broken t.beside.broken _ _ letter.1 in
    let goes_on = bits_apart s.goes_on t.goes_on _ _ broken.1 in
    let matched = bits_apart (is_some s.matched) (is_some t.matched) 0 0 goes_on.1 in
    record {
      edge = edge.0;
      terminator = terminator.0;
      word = word.0;
      line_feed = line_feed.0;
      carriage_return = carriage_return.0;
      letter = letter.0;
      broken = broken.0;
      goes_on = goes_on.0;
      matched = matched.0;
    }

make : List ℕ → Seen → Bool → Option ℕ → State
make list beside goes_on matched = record { list = list; beside = beside; goes_on = goes_on; matched = matched }

look : Bool → Bool → Bool → Bool → Bool → Bool → Bool → Seen
look edge terminator line_feed carriage_return word letter broken =
    record { edge = edge; terminator = terminator; line_feed = line_feed; carriage_return = carriage_return; word = word; letter = letter; broken = broken }

made : (s : State) → s
    ≡ make s.list
    (look s.beside.edge s.beside.terminator s.beside.line_feed s.beside.carriage_return s.beside.word s.beside.letter s.beside.broken) s.goes_on s.matched
unfolding make look
made s = refl

pub keys_apart : (s t : State) → key_of s ≡ key_of t → s ≡ t
keys_apart s t e =
    let facts : facts_of s ≡ facts_of t = cc in
    let list : s.list ≡ t.list = cc in
    let number : unwrap_or s.matched 0 ≡ unwrap_or t.matched 0 = cc in
    let a = same_facts s t facts in
    let matched = same_option s.matched t.matched a.matched number in
    cc (made s, made t, a.edge, a.terminator, a.line_feed, a.carriage_return, a.word, a.letter, a.broken, a.goes_on)
