use Rattle.std.proofs.Common.{◌∙◌, ap, inl, inr, refl, sym}
use Rattle.std.specs.Option.{option_copied}
use Rattle.hack_base.proofs.StreamLemmas.{wrote}
use Rattle.hack_files.specs.Faults.{file_text}
use Rattle.hack_run.specs.Errors.{text_of}
use Rattle.hack_run.proofs.ErrorLemmas.{file_told, still_known}
use Rattle.hack_run.proofs.tell.tell_text.Goals as goal

pub returns-in-Some-clause-shown : goal.returns-in-Some-clause-shown
returns-in-Some-clause-shown g c =
    (file_text c.in-Some.failed.now, inl (file_told c.args.fault.now c.in-Some.failed.now c.in-Some.ensures), c.tell_fault.ensures.shown)

pub returns-in-Ok-clause-shown : goal.returns-in-Ok-clause-shown
returns-in-Ok-clause-shown g c =
    (_, inl (still_known (text_of c.args.fault.now) _ _ c.deref.ensures c.in-Ok.ensures.ok), wrote g.E.Sink _ _ _ c.error.result c.error.ensures.line c.error.ensures.front c.error.ensures.counted)

pub returns-in-Err-clause-shown : goal.returns-in-Err-clause-shown
returns-in-Err-clause-shown g c =
    (_, inr (sym (ap option_copied (sym c.in_default.is) ∙ c.failed_file.ensures), refl), wrote g.E.Sink _ _ _ c.error-in-Err.result c.error-in-Err.ensures.line c.error-in-Err.ensures.front c.error-in-Err.ensures.counted)
