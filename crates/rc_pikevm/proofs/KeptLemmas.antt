-- A search is that of an input whose shown chunk and position alone have changed.
use Rattle.std.proofs.Common.{◌≡◌, ℕ, ◌+◌, ◌≤◌, refl, sym, ap, ◌∙◌, arith, inl, inr, ⊎_elim}
use Rattle.rc_text.specs.Text.{Searched, Keeps}
use Rattle.rc_program.specs.declared.program.Program.{Program}
use Rattle.rc_pikevm.specs.Sights.{sight_of}
use Rattle.rc_pikevm.specs.Moves.{seen, seen_by}
use Rattle.rc_pikevm.specs.Scratches.{IsSame}
use Rattle.rc_pikevm.specs.declared.scratch.Scratch.{Scratch}
use Rattle.rc_pikevm.specs.declared.spot.Course.{Course}
use Rattle.rc_pikevm.specs.Windows.{IsWindow, IsBegun, IsAround}
use Rattle.rc_pikevm.specs.declared.window.Window.{Window}

pub kept_seen : (p : Program) {a b : Searched} → Keeps a b → seen p b ≡ seen p a
kept_seen p k = rw (k.content, k.span, k.slice, k.anchored) refl

pub kept_seen_by : (c : Course) {a b : Searched} → Keeps a b → seen_by c b ≡ seen_by c a
kept_seen_by c k = ap sight_of (kept_seen c.program.now k)

pub kept_back : {a b : Searched} → Keeps a b → Keeps b a
kept_back k = record {
  content = sym k.content;
  span = sym k.span;
  slice = sym k.slice;
  anchored = sym k.anchored;
  earliest = sym k.earliest;
}

pub kept_then : {a b c : Searched} → Keeps a b → Keeps b c → Keeps a c
kept_then k l = record {
  content = l.content ∙ k.content;
  span = l.span ∙ k.span;
  slice = l.slice ∙ k.slice;
  anchored = l.anchored ∙ k.anchored;
  earliest = l.earliest ∙ k.earliest;
}

-- a window over the one is a window over the other
pub kept_window : {a b : Searched} {w : Window} → Keeps a b → IsWindow a w → IsWindow b w
kept_window k x = record {
  low = rw k.slice x.low;
  bytes = rw k.content x.bytes;
  end = rw (k.slice, k.content) x.end;
}

pub kept_begun : {a b : Searched} {at : ℕ} {w : Window} → Keeps a b → IsBegun a at w → IsBegun b at w
kept_begun k x = record { below = x.below; four = rw k.slice x.four }

pub kept_around : {a b : Searched} {at : ℕ} {w : Window} → Keeps a b → IsAround a at w → IsAround b at w
kept_around k x = record { above = x.above; four = rw (k.slice, k.content) x.four }

pub begun_later : {s : Searched} {at : ℕ} {w : Window} → IsBegun s at w → IsBegun s (at + 1) w
begun_later x = record { below = omega (arith, x.below); four = ⊎_elim (λ e. inl e) (λ l. inr (omega (arith, l))) x.four }

pub begun_from : {s : Searched} {at x : ℕ} {w : Window} → at ≤ x → IsBegun s at w → IsBegun s x w
begun_from low b = record { below = omega (arith, low, b.below); four = ⊎_elim (λ e. inl e) (λ l. inr (omega (arith, l, low))) b.four }

-- scratch memory that was kept twice
pub same_on : {a b c : Scratch} → IsSame a b → IsSame b c → IsSame a c
same_on s t = record {
  capacity = t.capacity ∙ s.capacity;
  room = t.room ∙ s.room;
  most = t.most ∙ s.most;
  width = t.width ∙ s.width;
}
