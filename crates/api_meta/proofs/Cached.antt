-- What caches of a regex serve.
use Rattle.std.proofs.Common.{◌≡◌, ℕ, ◌≤◌, List, sym, subst, ap, arith}
use Rattle.std.specs.Prelude.{is_some}
use Rattle.rc_captures.specs.Groups.{names_of}
use Rattle.rc_captures.specs.Names.{slot_len}
use Rattle.rc_program.specs.Columns.{row_width}
use Rattle.rc_program.specs.Places.{places_of}
use Rattle.rc_program.specs.Program.{Place, program, shown}
use Rattle.rc_pikevm.specs.Caches.{Made}
use Rattle.rc_settings.specs.Which.{is_grouped}
use Rattle.rc_settings.specs.Settings.{which_captures_of}
use Rattle.rc_strategy.specs.Caches.{IsCacheBy, IsCacheIn, IsSameCacheIn}
use Rattle.rc_strategy.specs.Plans.{LazyPlan}
use Rattle.rc_strategy.specs.declared.cache.Cache.{Cache}
use Rattle.rc_strategy.proofs.CacheLemmas.{made_by, serves_in, still_by}
use Rattle.api_meta.specs.Plans.{plan_by}
use Rattle.api_meta.specs.Views.{regex_names, regex_patterns, regex_settings}
use Rattle.api_meta.specs.declared.regex.Regex.{Regex}

module _ (r : Regex) where
  abbrev plan : LazyPlan
  plan = plan_by (regex_patterns r) (regex_settings r)

  abbrev places : List Place
  places = program (shown (is_grouped (which_captures_of (regex_settings r))) (regex_patterns r))

  -- those that its engines have
  abbrev own_places : List Place
  own_places = places_of r.engines.engine.program.places.items

  abbrev IsMade : ℕ → Cache → Type 0
  IsMade slots c = IsCacheBy places (row_width places slots) plan c

  own : (slots : ℕ) (c : Cache) → IsMade slots c → IsCacheBy own_places (row_width own_places slots) plan c
  own slots c i = subst (λ ps. IsCacheBy ps (row_width ps slots) plan c) (sym r.fits.placed) i

  made : (slots : ℕ) (c : Cache) → IsCacheBy own_places (row_width own_places slots) plan c → IsMade slots c
  made slots c i = subst (λ ps. IsCacheBy ps (row_width ps slots) plan c) r.fits.placed i

  -- a cache that its engines make was made for its patterns and settings,
  pub made_for : (c : Cache) → IsCacheIn r.engines (slot_len (names_of r.info)) c → is_some c.lazy ≡ is_some r.engines.lazy →
      is_some c.symbols ≡ is_some r.engines.symbols → IsMade (slot_len (regex_names r)) c
  made_for c i both more =
      subst (λ n. IsMade n c) (ap slot_len r.fits.named)
      (made (slot_len (names_of r.info)) c (made_by r.engines (slot_len (names_of r.info)) plan r.planned r.symbols c both more i))

  -- serves its engines with no more slots than it has,
  pub serves_for : (slots : ℕ) (c : Cache) → slots ≤ slot_len (regex_names r) → IsMade (slot_len (regex_names r)) c → IsCacheIn r.engines slots c
  serves_for slots c few i =
      let fewer : row_width places slots ≤ c.pass.columns = omega (arith, few, i.pass.2) in
      serves_in r.engines slots plan r.planned r.symbols c (own slots c (record { pass = (i.pass.0, i.pass.1, fewer); lazy = i.lazy; symbols = i.symbols }))

  -- and stays so
  pub stays_for : (c d : Cache) → IsMade (slot_len (regex_names r)) c → IsSameCacheIn r.engines c d → IsMade (slot_len (regex_names r)) d
  stays_for c d i s =
      made (slot_len (regex_names r)) d
      (still_by r.engines (slot_len (regex_names r)) plan r.planned r.symbols c d (own (slot_len (regex_names r)) c i) s)

  -- with the same room for a pass
  pub keeps_room : (c d : Cache) → IsSameCacheIn r.engines c d → d.pass.room ≡ c.pass.room
  keeps_room c d s = ap (λ (p : Made). p.room) s.pass
