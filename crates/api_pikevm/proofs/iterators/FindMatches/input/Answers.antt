use Rattle.std.proofs.Common.{ap, refl}
use Rattle.std.proofs.Props.{props}
use Rattle.api_pikevm.specs.Caches.{IsCacheFor}
use Rattle.api_pikevm.specs.Views.{sought}
use Rattle.api_pikevm.proofs.iterators.FindMatches.input.Goals as goal

-- an iterator with another input: its cache stays made for its `PikeVM`, however that was shown
pub returns : goal.returns
returns g c =
    let is_prop : IsProp (IsCacheFor (sought c.args.self.now.vm.now) c.args.self.now.cache.now) = hlevel props in
    ((refl, λ w. ap (λ made. record c.args.self.now { input = w; made = made }) (is_prop _ _)), record { kept = _; input = refl })
