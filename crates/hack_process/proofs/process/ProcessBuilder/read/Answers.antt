use Rattle.std.proofs.Common.{◌≡◌, ◌∙◌, ap, subst, string_bytes, rules}
use Rattle.std.specs.Str.{IsUtf8}
use Rattle.std.proofs.lemmas.Str.{IsUtf8-string_bytes}
use Rattle.hack_process.specs.Calls.{answer_of}
use Rattle.hack_process.specs.Faults.{without_line_ends}
use Rattle.hack_process.proofs.process.ProcessBuilder.read.Goals as goal

pub returns-in-Ok-clause-ok : goal.returns-in-Ok-clause-ok
returns-in-Ok-clause-ok g c = λ told.
    let is : string_bytes c.in-Ok.text ≡ c.in_ok-called.called.stdout.items = search rules in (
      answer_of c.in_ok-called.called,
      (c.in_ok-called.ensures.success, subst IsUtf8 is (IsUtf8-string_bytes c.in-Ok.text), c.without_ends.ensures ∙ ap without_line_ends is),
      c.in_ok-called.ensures.ok told,
    )
