-- What a refusal of a build prints and tells.
use Rattle.std.specs.Prelude.{ℕ, List, ◌++◌, codes, Option, Some, None}
use Rattle.std.specs.Fmt.{decimal}
use Rattle.rc_pattern.specs.declared.syntax.Error.{Error}
use Rattle.rc_settings.specs.declared.error.BuildError.{BuildError}
use Rattle.rc_settings.specs.declared.error.BuildError.TheVariants.{Syntax, IllFormed, SizeLimit, PlaceLimit, Memory, DfaSizeLimit, CacheTooSmall}

-- what `{}` writes of a refusal; nothing is said of the last two
abbrev pub line_of : BuildError → Option (List ℕ)
line_of (Syntax n e) = Some (codes "error parsing pattern " ++ decimal n)
line_of (IllFormed n) = Some (codes "error building NFA")
line_of (SizeLimit n) = Some (codes "error building NFA")
line_of PlaceLimit = Some (codes "error building NFA")
line_of Memory = Some (codes "out of memory")
line_of (DfaSizeLimit n) = None
line_of (CacheTooSmall m n) = None

-- the number of the text that isn't read
abbrev pub pattern_of : BuildError → Option ℕ
pattern_of (Syntax n e) = Some n
pattern_of (IllFormed n) = None
pattern_of (SizeLimit n) = None
pattern_of PlaceLimit = None
pattern_of Memory = None
pattern_of (DfaSizeLimit n) = None
pattern_of (CacheTooSmall m n) = None

-- the limit on the size of the patterns that was passed
abbrev pub size_limit_of : BuildError → Option ℕ
size_limit_of (Syntax n e) = None
size_limit_of (IllFormed n) = None
size_limit_of (SizeLimit n) = Some n
size_limit_of PlaceLimit = None
size_limit_of Memory = None
size_limit_of (DfaSizeLimit n) = None
size_limit_of (CacheTooSmall m n) = None

-- why the text isn't read
abbrev pub syntax_fault_of : BuildError → Option Error
syntax_fault_of (Syntax n e) = Some e
syntax_fault_of (IllFormed n) = None
syntax_fault_of (SizeLimit n) = None
syntax_fault_of PlaceLimit = None
syntax_fault_of Memory = None
syntax_fault_of (DfaSizeLimit n) = None
syntax_fault_of (CacheTooSmall m n) = None
