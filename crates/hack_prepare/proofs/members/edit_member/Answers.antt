use Rattle.hack_prepare.specs.Internal.{Only, HeldUnkept, HoldsText}
use Rattle.hack_prepare.specs.PreparedView.{member_manifest_view}
use Rattle.hack_prepare.proofs.StepLemmas.{step_given}
use Rattle.std.proofs.Common.{string_bytes}
use Rattle.hack_prepare.proofs.WriteLemmas.{dev-made, dev-or-not}
use Rattle.hack_prepare.proofs.members.edit_member.Goals as goal

pub returns-clause-step : goal.returns-clause-step
returns-clause-step g c =
    let at = Only c.args.member.now.path.now in
    step_given g.F.Files.tells (HeldUnkept c.args.manager.now c.args.member.now.path.now c.args.member.now.text.now) (HoldsText (member_manifest_view c.args.member.now)) at at c.args.manager.now c.replace.new.manager
    (g.F.Files.bytes_at c.args.files.now) (g.F.Files.bytes_at c.replace.new.files) (λ start holds _. holds) (λ q h. h) c.replace.ensures.step

pub returns-clause-traced : goal.returns-clause-traced
returns-clause-traced g c =
    dev-made g.F.Files.whole c.replace.result (member_manifest_view c.args.member.now) (string_bytes c.in_ok-text.text) c.as_str.result.now (g.F.Files.trace c.args.files.now) (g.F.Files.trace c.replace.new.files) (g.F.Files.bytes_at c.args.files.now) (g.F.Files.bytes_at c.replace.new.files)
    c.as_str.ensures.value c.in_ok-text.ensures.ok c.replace.ensures.traced

pub returns-clause-refused : goal.returns-clause-refused
returns-clause-refused g c =
    dev-or-not g.F.Files.whole c.replace.result (member_manifest_view c.args.member.now) (string_bytes c.in_ok-text.text) c.as_str.result.now (g.F.Files.trace c.args.files.now) (g.F.Files.trace c.replace.new.files) (g.F.Files.bytes_at c.args.files.now) (g.F.Files.bytes_at c.replace.new.files)
    c.as_str.ensures.value c.in_ok-text.ensures.ok c.replace.ensures.refused
