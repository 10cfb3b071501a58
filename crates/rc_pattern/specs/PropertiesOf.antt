-- What `Hir::properties` answers.
use Rattle.std.specs.Prelude.{◌≡◌, true, false, Some, None}
use Rattle.rc_pattern.specs.Re.{Re}
use Rattle.rc_pattern.specs.Properties.{greatest_usize, minimum_len, maximum_len, explicit_captures_len, static_explicit_captures_len, has_look, begins_with_look, ends_with_look, is_plain}
use Rattle.rc_pattern.specs.LookSets.{HasOnly}
use Rattle.rc_pattern.specs.declared.hir.properties.Properties.{Properties}

-- these are the properties of the pattern
pub record IsPropertiesOf (h : Re) (p : Properties) : Type 0 where
  pub least : p.minimum_len ≡ minimum_len h
  pub greatest : p.maximum_len ≡ maximum_len h
  pub groups : p.explicit_captures_len ≡ explicit_captures_len h
  pub static_groups : p.static_explicit_captures_len ≡ static_explicit_captures_len h
  pub looks : HasOnly p.look_set (has_look h)
  pub first_looks : HasOnly p.look_prefix (begins_with_look h)
  pub last_looks : HasOnly p.look_suffix (ends_with_look h)
  pub plain : p.is_plain ≡ is_plain h

-- these are true of each pattern: its matches may have any length, and it may have any groups and assertions
pub record TellNothing (p : Properties) : Type 0 where
  pub least : p.minimum_len ≡ Some 0
  pub greatest : p.maximum_len ≡ None
  pub groups : p.explicit_captures_len ≡ greatest_usize
  pub static_groups : p.static_explicit_captures_len ≡ None
  pub looks : HasOnly p.look_set (λ k. true)
  pub first_looks : HasOnly p.look_prefix (λ k. false)
  pub last_looks : HasOnly p.look_suffix (λ k. false)
  pub plain : p.is_plain ≡ false
