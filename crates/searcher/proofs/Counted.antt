-- There are as many patterns as texts that they were read from.
use Rattle.std.proofs.Common.{◌≡◌, ◌∙◌, ℕ, List, length}
use Rattle.std.proofs.lemmas.List.{length-map}
use Rattle.std.proofs.lemmas.Slice.Zip.{AllZip-long}
use Rattle.std.specs.Borrow.{Bor}
use Rattle.rc_pattern.specs.Re.{Re}
use Rattle.rc_parser.specs.Settings.{Settings}
use Rattle.rc_build.specs.TextRefusals.{AllRead, IsReadAs, texts_of}

pub as_many : (s : Settings) (texts : List (Bor (List ℕ))) (hs : List Re) → AllRead s (texts_of texts) hs → length hs ≡ length texts
as_many s texts hs r = AllZip-long (IsReadAs s) (texts_of texts) hs r ∙ length-map texts (λ x. x.now)
