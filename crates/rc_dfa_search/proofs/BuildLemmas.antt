-- What an automaton is made of.
use Rattle.std.proofs.Common.{◌≡◌, ℕ, ◌<◌, ◌≤◌, List, length, sym, subst, ap, arith, Bool}
use Rattle.std.proofs.lemmas.List.{length-map}
use Rattle.rc_text.specs.declared.types.MatchKind.{MatchKind}
use Rattle.rc_pattern.specs.Re.{Re}
use Rattle.rc_program.specs.Program.{Place, program}
use Rattle.rc_program.specs.Laws.{IsClosed}
use Rattle.rc_program.proofs.PlaceLemmas.{program_some, program_is_closed, entry_below}
use Rattle.rc_utf8.specs.Bytes.{bytes_of}
use Rattle.rc_utf8.specs.Places.{place_of, places_of}
use Rattle.rc_utf8.specs.declared.place.BytePlace as code
use Rattle.rc_utf8.proofs.SizeLemmas.{bytes_closed, bytes_longer}
use Rattle.rc_determinize.specs.Steps.{AreBelow}
use Rattle.rc_dfa.specs.declared.automaton.Automaton.{Automaton}
use Rattle.rc_dfa.specs.declared.automaton.Direction.TheVariants.{Backwards, Forwards}
use Rattle.rc_dfa.specs.Automata.{classes_of, machine_of, IsMadeOf}
use Rattle.rc_dfa_search.specs.Classes.{AreClassesOf}
use Rattle.rc_dfa_search.specs.Machines.{AreMachines, entries_of}
use Rattle.rc_dfa_search.proofs.CaseLemmas.{entry_of}

pub made_closed : (hs : List Re) (places : List Place) → places ≡ bytes_of (program hs) → IsClosed places
made_closed hs places e = subst (λ ps. IsClosed ps) (sym e) (bytes_closed (program hs) (program_is_closed hs))

made_long : (hs : List Re) (places : List code.BytePlace) → places_of places ≡ bytes_of (program hs) → length (program hs) ≤ length places
made_long hs places e =
    let longer = bytes_longer (program hs) in
    let len = ap length e in
    let same = length-map places place_of in
    omega (arith, longer, len, same)

pub made_rooted : (hs : List Re) (places : List code.BytePlace) → places_of places ≡ bytes_of (program hs) → 0 < length places
made_rooted hs places e = let long = made_long hs places e in let some = program_some hs in omega (arith, long, some)

pub made_entered : (hs : List Re) (places : List code.BytePlace) (entries : List ℕ) → places_of places ≡ bytes_of (program hs) → entries ≡ entries_of hs →
    AreBelow (length places) entries
made_entered hs places entries e f =
    subst (AreBelow (length places)) (sym f)
    (λ q h. let o = entry_of 0 hs q h in let below = entry_below hs o.0 in let same = o.2 in let long = made_long hs places e in omega (arith, long, below, same))

pub made : (hs : List Re) (terminator : ℕ) (kind : MatchKind) (byte_classes : Bool) (places : List Place) (entries : List ℕ) (a : Automaton) →
    places ≡ bytes_of (program hs) → entries ≡ entries_of hs → IsMadeOf places entries terminator kind byte_classes a →
    AreMachines hs terminator kind (machine_of a Forwards) (machine_of a Backwards)
made hs terminator kind byte_classes places entries a e f m =
    let own = subst (λ es. IsMadeOf (bytes_of (program hs)) es terminator kind byte_classes a) f
    (subst (λ ps. IsMadeOf ps entries terminator kind byte_classes a) e m) in
    record { needs = own.needs; are_needs = own.are_needs; ahead = own.machine Forwards; back = own.machine Backwards }

pub made_classes : (hs : List Re) (terminator : ℕ) (kind : MatchKind) (byte_classes : Bool) (places : List Place) (entries : List ℕ) (a : Automaton) →
    places ≡ bytes_of (program hs) → IsMadeOf places entries terminator kind byte_classes a → AreClassesOf byte_classes hs terminator (classes_of a)
made_classes hs terminator kind byte_classes places entries a e m =
    let own = subst (λ ps. IsMadeOf ps entries terminator kind byte_classes a) e m in
    record { needs = own.needs; are_needs = own.are_needs; told = own.classes }
