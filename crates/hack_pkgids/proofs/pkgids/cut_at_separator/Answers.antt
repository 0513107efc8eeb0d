use Rattle.std.proofs.Common.{◌∙◌, ap, option_map}
use Rattle.hack_pkgids.specs.PackageSpecs.{is_byte}
use Rattle.hack_pkgids.specs.InternalSpecAnswers.{cut_by, earlier}
use Rattle.hack_pkgids.specs.Views.{pair_view}
use Rattle.hack_pkgids.proofs.TextLemmas.{parted-earlier}
use Rattle.hack_pkgids.proofs.pkgids.cut_at_separator.Goals as goal

pub returns : goal.returns
returns c =
    c.earlier.ensures
    ∙ ap (λ cut. earlier cut (option_map pair_view c.cut_at-2.result)) c.cut_at.ensures
    ∙ ap (λ cut. earlier (cut_by (is_byte 64) c.args.text.now) cut) c.cut_at-2.ensures
    ∙ parted-earlier c.args.text.now
