use Rattle.std.proofs.Common.{◌≡◌, true, false}
use Rattle.hack_planner.proofs.member.fits.Goals as goal

pub returns-in-Ok : goal.returns-in-Ok
returns-in-Ok c = (
  λ t. let same : c.in-Ok.fits ≡ true = t in c.in-Ok.ensures.matches.0 (cc),
  λ m. let e = c.in-Ok.ensures.matches.1 m in cc,
)

pub returns-in-Err : goal.returns-in-Err
returns-in-Err c = (
  λ t. let e : false ≡ true = t in absurd (cc),
  λ m. let e = c.in-Err.ensures.matches.1 m in cc,
)
