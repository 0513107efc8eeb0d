-- Steps, one after the other.
use Rattle.std.specs.Prelude.{◌≡◌, List, [], ◌∷◌, ◌++◌, Option}
use Rattle.std.proofs.Common.{subst}
use Rattle.hack_partition.specs.declared.partition.Partition.{Partition}
use Rattle.hack_plan.specs.View.{PlanView}
use Rattle.hack_session.specs.declared.step.Handed.{Handed}
use Rattle.hack_starts.specs.Events.{Event}
use Rattle.hack_lanes.specs.Lanes.{Scene}
use Rattle.hack_side.specs.Turns.{RunsAll, RunsSerially}

runs-append : {S : Type 0} (did : List Event → S → S → Type 0) (piece : Option Partition) (plan : PlanView) (steps more : List Handed) (a b c : Scene S)
    → RunsAll did piece plan steps a b → RunsAll did piece plan more b c → RunsAll did piece plan (steps ++ more) a c
runs-append {S} did piece plan [] more a b c p q = subst (λ (s : Scene S). RunsAll did piece plan more s c) p q
runs-append did piece plan (h ∷ steps) more a b c p q = (p.0, p.1, runs-append did piece plan steps more p.0 b c p.2 q)

-- steps after others, of the same piece
pub runs_more : {S : Type 0} (did : List Event → S → S → Type 0) (piece other : Option Partition) (plan : PlanView) (steps more : List Handed) (a b c : Scene S) → other ≡ piece
    → RunsAll did piece plan steps a b → RunsAll did other plan more b c → RunsAll did piece plan (steps ++ more) a c
runs_more did piece other plan steps more a b c e p q =
    runs-append did piece plan steps more a b c p (subst (λ (o : Option Partition). RunsAll did o plan more b c) e q)

-- steps after others, nothing of which was started ahead
pub serially_more : {S : Type 0} (did : List Event → S → S → Type 0) (steps more : List Handed) (a b c : Scene S)
    → RunsSerially did steps a b → RunsSerially did more b c → RunsSerially did (steps ++ more) a c
serially_more {S} did [] more a b c p q = subst (λ (s : Scene S). RunsSerially did more s c) p q
serially_more did (h ∷ steps) more a b c p q = (p.0, p.1, serially_more did steps more p.0 b c p.2 q)
