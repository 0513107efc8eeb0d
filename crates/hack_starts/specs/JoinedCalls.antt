-- The calls of joined events.
use Rattle.std.specs.Prelude.{◌≡◌, List, [], ◌∷◌, ◌++◌}
use Rattle.std.proofs.Common.{refl, sym, ◌∙◌, ap, append_assoc, append-nil}
use Rattle.hack_process.specs.Calls.{Call}
use Rattle.hack_starts.specs.Events.{Event, Ran, Started, Ended, Told, Abandoned, Waited, calls_of}

-- without an event no call came
pub calls_none : (before : List Call) → before ≡ before ++ []
calls_none before = sym (append-nil before)

-- the calls of joined events are joined
pub calls_joined : (es more : List Event) → calls_of (es ++ more) ≡ calls_of es ++ calls_of more
calls_joined [] more = refl
calls_joined (Ran asked answer ∷ es) more = ap (λ (t : List Call). record { asked = asked; answer = answer } ∷ t) (calls_joined es more)
calls_joined (Started place number layout asked ∷ es) more = calls_joined es more
calls_joined (Ended place ∷ es) more = calls_joined es more
calls_joined (Told place asked answer ∷ es) more = ap (λ (t : List Call). record { asked = asked; answer = answer } ∷ t) (calls_joined es more)
calls_joined (Abandoned place ∷ es) more = calls_joined es more
calls_joined (Waited ended running ∷ es) more = calls_joined es more

-- the calls after some events and more of them
pub calls_more : (es more : List Event) (a b c : List Call) → b ≡ a ++ calls_of es → c ≡ b ++ calls_of more → c ≡ a ++ calls_of (es ++ more)
calls_more es more a b c p q =
    q ∙ ap (λ (l : List Call). l ++ calls_of more) p ∙ append_assoc a (calls_of es) (calls_of more)
    ∙ sym (ap (λ (l : List Call). a ++ l) (calls_joined es more))
