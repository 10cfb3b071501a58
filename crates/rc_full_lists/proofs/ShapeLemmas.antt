-- The definitions of the reader of parts at a text of a known form.
use Rattle.std.proofs.Common.{◌≡◌, ℕ, [], ◌∷◌, None, ap}
use Rattle.rc_tokens.specs.Text.{Characters}
use Rattle.rc_full_lists.specs.declared.parts.Settings.{Settings}
use Rattle.rc_full_lists.specs.Read.{read_atom, atom_at}

pub atom_is : (s : Settings) (t : Characters) (c : ℕ) (rest : Characters) → t ≡ c ∷ rest → read_atom s t ≡ atom_at s c rest
atom_is s t c rest e = ap (read_atom s) e

pub atom_none : (s : Settings) (t : Characters) → t ≡ [] → read_atom s t ≡ None
atom_none s t e = ap (read_atom s) e
