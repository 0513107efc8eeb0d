-- The error of a command line that is refused.
use Rattle.std.proofs.Common.{◌≡◌, Err, IsErr, Ok, Result, subst, true}
use Rattle.std.specs.Prelude.{IfErr}
use Rattle.hack_base.specs.Streams.{Stream, WritesText}
use Rattle.hack_term.specs.Lines.{error_line}
use Rattle.hack_term.specs.declared.term.Coloring.{Coloring}
use Rattle.hack_words.specs.declared.cli.env.Env.{Env}
use Rattle.hack_run.specs.Errors.{SaysEnd}
use Rattle.hack_run.specs.Internal.{is_refusal}
use Rattle.hack_run.specs.Refusals.{WritesError}
use Rattle.hack_run.specs.declared.fault.RunFault.{RunFault}
use Rattle.hack_run.specs.declared.fault.RunFault.TheVariants as fault

-- no other line stands before that of such an error
alone : (fault : RunFault) (env : Env) (coloring : Coloring) (old new : Stream) → is_refusal fault ≡ true → SaysEnd (Err fault) env coloring old new → WritesError coloring old new
alone fault.Memory env coloring old new is h = (h.2.0, subst (λ (s : Stream). WritesText (error_line coloring h.2.0) s new) h.1 h.2.2)
alone (fault.Words w) env coloring old new is h = (h.2.0, subst (λ (s : Stream). WritesText (error_line coloring h.2.0) s new) h.1 h.2.2)
alone (fault.Context w) env coloring old new is h = absurd (cc)
alone (fault.Manifests w) env coloring old new is h = absurd (cc)
alone (fault.Plan w) env coloring old new is h = absurd (cc)
alone (fault.Process w) env coloring old new is h = absurd (cc)
alone fault.Unlisted env coloring old new is h = absurd (cc)
alone fault.Unprinted env coloring old new is h = absurd (cc)

pub refusal_told : (came : Result (Unit {0}) RunFault) (env : Env) (coloring : Coloring) (old new : Stream) → IsErr came → IfErr came (λ fault. is_refusal fault ≡ true) → SaysEnd came env coloring old new → WritesError coloring old new
refusal_told (Ok done) env coloring old new is refusal h = absurd (cc)
refusal_told (Err fault) env coloring old new is refusal h = alone fault env coloring old new refusal h
