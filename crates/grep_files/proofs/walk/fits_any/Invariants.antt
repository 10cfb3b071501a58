use Rattle.std.proofs.Common.{◌≡◌, drop}
use Rattle.grep_files.specs.Walks.{fits_any}
use Rattle.grep_files.proofs.walk.fits_any.Given as goal

-- the name fits none of the globs so far
abbrev pub invariant-loop-glob : goal.invariant-loop-glob
invariant-loop-glob l = fits_any l.globs l.name ≡ fits_any (drop l.glob-index l.globs) l.name
