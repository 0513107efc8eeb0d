-- What happened between scenes, joined.
use Rattle.std.specs.Prelude.{List, [], ◌∷◌, ◌++◌}
use Rattle.std.proofs.Common.{refl, ◌∙◌, ap, subst}
use Rattle.hack_process.specs.Calls.{Call}
use Rattle.hack_starts.specs.Events.{Event, calls_of}
use Rattle.hack_starts.specs.JoinedCalls.{calls_joined}
use Rattle.hack_lanes.specs.Lanes.{Turn, State, Follows, Scene, Goes}

-- joined events follow the rules
pub follows_more : (turn : Turn) (a b c : State) (es more : List Event) → Follows turn a es b → Follows turn b more c → Follows turn a (es ++ more) c
follows_more turn a b c [] more p q = subst (λ (s : State). Follows turn s more c) p q
follows_more turn a b c (e ∷ es) more p q = (p.0, p.1, follows_more turn p.0 b c es more p.2 q)

-- nothing happened
pub goes_none : {S : Type 0} (did : List Event → S → S → Type 0) (a : Scene S) → did [] a.starts a.starts → Goes did [] a a
goes_none did a h = record { events = []; did_them = h; follows = refl; calls = refl; turn = refl }

-- what happened, and what happened after it
pub goes_more : {S : Type 0} (did : List Event → S → S → Type 0) (told more : List Call) (a b c : Scene S)
    → ((es fs : List Event) (x y z : S) → did es x y → did fs y z → did (es ++ fs) x z)
    → Goes did told a b → Goes did more b c → Goes did (told ++ more) a c
goes_more did told more a b c law p q = record {
  events = p.events ++ q.events;
  did_them = law p.events q.events a.starts b.starts c.starts p.did_them q.did_them;
  follows = follows_more a.turn a.state b.state c.state p.events q.events p.follows (subst (λ (t : Turn). Follows t b.state q.events c.state) p.turn q.follows);
  calls = calls_joined p.events q.events ∙ ap (λ (l : List Call). l ++ calls_of q.events) p.calls ∙ ap (λ (l : List Call). told ++ l) q.calls;
  turn = q.turn ∙ p.turn;
}

-- the same where the calls don't matter
pub course_after : {S : Type 0} (did : List Event → S → S → Type 0) (a b c : Scene S)
    → ((es fs : List Event) (x y z : S) → did es x y → did fs y z → did (es ++ fs) x z)
    → ((told : List Call) × Goes did told a b) → ((told : List Call) × Goes did told b c) → (told : List Call) × Goes did told a c
course_after did a b c law p q = (p.0 ++ q.0, goes_more did p.0 q.0 a b c law p.1 q.1)
