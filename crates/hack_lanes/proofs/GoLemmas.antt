-- What happened between scenes, one thing after another.
use Rattle.std.proofs.Common.{◌≡◌, ℕ, zero, suc, ◌<◌, ◌+◌, ◌*◌, ◌==◌, ◌||◌, ◌&&◌, cond, length, map, sym, List, [], ◌∷◌, ◌++◌, refl, ◌∙◌, ap, subst, append-nil, inl, inr}
use Rattle.std.specs.Prelude.{Contains, Result, Ok, Err, IfOk, OnErr, ◌⊎◌, Option, None, Some, slice_get, slice_set, option_map, Bool, true, false, not, IfSome, IsSomeAnd}
use Rattle.std.specs.List.{count_by}
use Rattle.std.proofs.lemmas.Bool.{eq-eqb}
use Rattle.std.proofs.lemmas.List.Folds.{fold-map, list_any-append}
use Rattle.std.proofs.lemmas.Result.{IfOk-weaker, on_err_weaker}
use Rattle.std.proofs.lemmas.List.{map-set, map-append, length-map}
use Rattle.std.proofs.lemmas.List.Elements.{Contains-get_or}
use Rattle.std.proofs.lemmas.Option.{slice_get-map, slice_get_within, get_or_from_slice_get}
use Rattle.hack_process.specs.Calls.{Asked, Answer, Call, answer_of}
use Rattle.hack_process.specs.declared.caller.Called.{Called}
use Rattle.hack_starts.specs.Events.{Event, Layout, Ran, Started, Ended, Waited, calls_of}
use Rattle.hack_lanes.specs.declared.job.Job.{Job}
use Rattle.hack_lanes.specs.declared.child.Child.{Child}
use Rattle.hack_lanes.specs.Views.{offer_of, pending_of}
use Rattle.hack_lanes.specs.Lanes.{Pending, is_free, is_pending, is_running, IsAwaited, IsUntold, IsWaitedFor, Turn, State, IsNew, Moves, Scene, Goes, MayGo}
use Rattle.hack_lanes.specs.JoinedScenes.{goes_more}

-- somebody was called, and nothing happened
pub goes_idle : {S : Type 0} (did : List Event → S → S → Type 0) (turn : Turn) (state : State) (s t : S) → did [] s t
    → Goes did [] (record { turn = turn; state = state; starts = s }) (record { turn = turn; state = state; starts = t })
goes_idle did turn state s t h = record { events = []; did_them = h; follows = refl; calls = refl; turn = refl }

-- one event
pub goes_one : {S : Type 0} (did : List Event → S → S → Type 0) (turn : Turn) (e : Event) (old new : State) (s t : S) → Moves turn old e new → did (e ∷ []) s t
    → Goes did (calls_of (e ∷ [])) (record { turn = turn; state = old; starts = s }) (record { turn = turn; state = new; starts = t })
goes_one did turn e old new s t p h = record { events = e ∷ []; did_them = h; follows = (new, p, refl); calls = refl; turn = refl }

-- the same where no call came of the second part
pub goes_on : {S : Type 0} (did : List Event → S → S → Type 0) (told : List Call) (a b c : Scene S)
    → ((es fs : List Event) (x y z : S) → did es x y → did fs y z → did (es ++ fs) x z)
    → Goes did told a b → Goes did [] b c → Goes did told a c
goes_on did told a b c law p q =
    subst (λ (l : List Call). Goes did l a c) (append-nil told) (goes_more did told [] a b c law p q)

-- after some events, a command was run to its end where none is pending
pub goes_run : {S E : Type 0} (did : List Event → S → S → Type 0) (turn : Turn) (state : State) (a : Scene S) (s t : S) (asked : Asked) (came : Result Called E)
    → ((es fs : List Event) (x y z : S) → did es x y → did fs y z → did (es ++ fs) x z)
    → Goes did [] a (record { turn = turn; state = state; starts = s }) → state.pending ≡ [] → IfSome turn.place (IsNew state.last)
    → IfOk came (λ (called : Called). did (Ran asked (answer_of called) ∷ []) s t)
    → IfOk came (λ (called : Called). Goes did (record { asked = asked; answer = answer_of called } ∷ []) a (record { turn = turn; state = state; starts = t }))
goes_run did turn state a s t asked came law p none new h =
    IfOk-weaker came (λ (called : Called). did (Ran asked (answer_of called) ∷ []) s t)
    (λ (called : Called). Goes did (record { asked = asked; answer = answer_of called } ∷ []) a (record { turn = turn; state = state; starts = t }))
    (λ (called : Called) (d : did (Ran asked (answer_of called) ∷ []) s t).
    goes_more did [] (record { asked = asked; answer = answer_of called } ∷ []) a (record { turn = turn; state = state; starts = s }) (record { turn = turn; state = state; starts = t }) law p
    (goes_one did turn (Ran asked (answer_of called)) state state s t (none, new, refl) d)) h

may_go : {S : Type 0} (did : List Event → S → S → Type 0) (turn : Turn) (state : State) (a : Scene S) (s t : S) (asked : Asked)
    → ((es fs : List Event) (x y z : S) → did es x y → did fs y z → did (es ++ fs) x z)
    → Goes did [] a (record { turn = turn; state = state; starts = s }) → state.pending ≡ [] → IfSome turn.place (IsNew state.last)
    → (did [] s t ⊎ ((answer : Answer) × did (Ran asked answer ∷ []) s t)) → MayGo did asked a (record { turn = turn; state = state; starts = t })
may_go did turn state a s t asked law p none new (inl d) =
    inl (goes_on did [] a (record { turn = turn; state = state; starts = s }) (record { turn = turn; state = state; starts = t }) law p (goes_idle did turn state s t d))
may_go did turn state a s t asked law p none new (inr d) =
    inr (
      d.0,
      goes_more did [] (record { asked = asked; answer = d.0 } ∷ []) a (record { turn = turn; state = state; starts = s }) (record { turn = turn; state = state; starts = t }) law p
          (goes_one did turn (Ran asked d.0) state state s t (none, new, refl) d.1),
    )

-- the same where memory was refused
pub goes_refused : {S E : Type 0} (did : List Event → S → S → Type 0) (turn : Turn) (state : State) (a : Scene S) (s t : S) (asked : Asked) (came : Result Called E)
    → ((es fs : List Event) (x y z : S) → did es x y → did fs y z → did (es ++ fs) x z)
    → Goes did [] a (record { turn = turn; state = state; starts = s }) → state.pending ≡ [] → IfSome turn.place (IsNew state.last)
    → OnErr came (did [] s t ⊎ ((answer : Answer) × did (Ran asked answer ∷ []) s t))
    → OnErr came (MayGo did asked a (record { turn = turn; state = state; starts = t }))
goes_refused did turn state a s t asked came law p none new h =
    on_err_weaker came (λ (d : did [] s t ⊎ ((answer : Answer) × did (Ran asked answer ∷ []) s t)). may_go did turn state a s t asked law p none new d) h

-- what is at an index of a list is in the list
contains_at : {X : Type 0} (xs : List X) (i : ℕ) (x : X) → slice_get xs i ≡ Some x → Contains xs x
contains_at xs i x there = subst (λ y. Contains xs y) (get_or_from_slice_get xs i x x there) (Contains-get_or xs i x (slice_get_within xs i x there))

-- a command that was seen to have ended is still pending
pending-over : (place : ℕ) (children : List Child) (index : ℕ) (child : Child) → slice_get children index ≡ Some child
    → is_pending place (map pending_of (slice_set children index (record child { over = true }))) ≡ is_pending place (map pending_of children)
pending-over place [] index child there = refl
pending-over place (c ∷ cs) zero child there =
    ap (λ (o : Child). (o.place == place) || is_pending place (map pending_of cs)) (sym (get_or_from_slice_get (c ∷ cs) zero child child there))
pending-over place (c ∷ cs) (suc index) child there =
    ap (λ (b : Bool). (c.place == place) || b) (pending-over place cs index child there)

-- the turn's own command stays pending where one is seen to have ended
pub awaited-over : (turn last : Option ℕ) (children : List Child) (index : ℕ) (child : Child) → slice_get children index ≡ Some child
    → IsAwaited turn (record { last = last; pending = map pending_of children })
    → IsAwaited turn (record { last = last; pending = map pending_of (slice_set children index (record child { over = true })) })
awaited-over None last children index child there h = h
awaited-over (Some place) last children index child there h = pending-over place children index child there ∙ h

-- the turn's own command still runs where one more was started
pub waited-more : (turn last next : Option ℕ) (children : List Child) (child : Child) → IsWaitedFor turn (record { last = last; pending = map pending_of children })
    → IsWaitedFor turn (record { last = next; pending = map pending_of (children ++ child ∷ []) })
waited-more None last next children child h = h
waited-more (Some place) last next children child h =
    ap (is_running place) (map-append pending_of children (child ∷ []))
    ∙ list_any-append (λ (p : Pending). (p.place == place) && not p.over) (map pending_of children) (pending_of child ∷ [])
    ∙ ap (λ (b : Bool). b || is_running place (pending_of child ∷ [])) h

either : (at runs some any : Bool) → (some ≡ true → any ≡ true) → (at && runs) || some ≡ true → at || any ≡ true
either true runs some any more h = refl
either false runs some any more h = more h

-- while it runs, it is pending
pending-running : (place : ℕ) (pending : List Pending) → is_running place pending ≡ true → is_pending place pending ≡ true
pending-running place [] h = h
pending-running place (p ∷ ps) h = either (p.place == place) (not p.over) (is_running place ps) (is_pending place ps) (pending-running place ps) h

pub waited-awaited : (turn : Option ℕ) (state : State) → IsWaitedFor turn state → IsAwaited turn state
waited-awaited None state h = h
waited-awaited (Some place) state h = pending-running place state.pending h

-- the turn's own command is pending where it is the first
pub awaited-first : (turn last : Option ℕ) (place : ℕ) (children : List Child) (P : Child → Type 0) → turn ≡ Some place
    → IsSomeAnd (slice_get children 0) (λ (child : Child). (child.place ≡ place) × P child) → IsAwaited turn (record { last = last; pending = map pending_of children })
awaited-first turn last place [] P is h = absurd h
awaited-first turn last place (c ∷ cs) P is h =
    subst (λ (o : Option ℕ). IsAwaited o (record { last = last; pending = map pending_of (c ∷ cs) })) (sym is)
    (ap (λ (b : Bool). b || is_pending place (map pending_of cs)) (eq-eqb c.place place h.0))

-- a command is seen to have ended
pub goes_ended : {S : Type 0} (did : List Event → S → S → Type 0) (turn : Turn) (last : Option ℕ) (children : List Child) (index : ℕ) (child : Child) (s t : S) → slice_get children index ≡ Some child
    → IsAwaited turn.place (record { last = last; pending = map pending_of children }) → did (Ended child.place ∷ []) s t
    → Goes did [] (record { turn = turn; state = record { last = last; pending = map pending_of children }; starts = s })
    (record { turn = turn; state = record { last = last; pending = map pending_of (slice_set children index (record child { over = true })) }; starts = t })
goes_ended did turn last children index child s t there awaited h =
    goes_one did turn (Ended child.place) (record { last = last; pending = map pending_of children }) (record { last = last; pending = map pending_of (slice_set children index (record child { over = true })) }) s t (
      awaited,
      record {
        index = index;
        which = pending_of child;
        there = slice_get-map pending_of children index ∙ ap (option_map pending_of) there;
        named = refl;
        after = ap (λ (p : List Pending). record { last = last; pending = p }) (map-set pending_of children index (record child { over = true }));
      },
    ) h

-- an offered command starts in a free lane
pub goes_started : {S : Type 0} (did : List Event → S → S → Type 0) (turn : Option ℕ) (offers : List Job) (layout : Layout) (last : Option ℕ) (children : List Child) (index : ℕ) (job : Job) (child : Child) (s t : S)
    → slice_get offers index ≡ Some job
    → pending_of child ≡ record { place = job.place; lane = child.lane; asked = (offer_of job).asked; over = false }
    → IsNew last child.place → child.lane < layout.count → length children < 2 * layout.count → is_free child.lane (map pending_of children) ≡ true → IsUntold turn (record { last = last; pending = map pending_of children })
    → did (Started child.place child.lane layout (offer_of job).asked ∷ []) s t
    → Goes did [] (record { turn = record { place = turn; offers = map offer_of offers; layout = layout }; state = record { last = last; pending = map pending_of children }; starts = s })
    (record { turn = record { place = turn; offers = map offer_of offers; layout = layout }; state = record { last = Some child.place; pending = map pending_of (children ++ child ∷ []) }; starts = t })
goes_started did turn offers layout last children index job child s t there same new within ahead alone untold h =
    goes_one did (record { place = turn; offers = map offer_of offers; layout = layout }) (Started child.place child.lane layout (offer_of job).asked)
    (record { last = last; pending = map pending_of children }) (record { last = Some child.place; pending = map pending_of (children ++ child ∷ []) }) s t
    (record {
      offered = subst (λ (n : ℕ). Contains (map offer_of offers) (record { place = n; asked = (offer_of job).asked })) (sym (ap (λ (p : Pending). p.place) same))
          (contains_at (map offer_of offers) index (offer_of job) (slice_get-map offer_of offers index ∙ ap (option_map offer_of) there));
      behind = new;
      same = refl;
      within = within;
      alone = alone;
      ahead = subst (λ (n : ℕ). n < 2 * layout.count) (sym (length-map children pending_of)) ahead;
      untold = untold;
      after = ap (λ (p : List Pending). record { last = Some child.place; pending = p }) (map-append pending_of children (child ∷ []) ∙ ap (λ (p : Pending). map pending_of children ++ p ∷ []) (same ∙ ap (λ (n : ℕ). record { place = n; lane = child.lane; asked = (offer_of job).asked; over = false }) (sym (ap (λ (p : Pending). p.place) same))));
    }) h

-- as many of the children as of the commands that they are
count-views : (q : Pending → Bool) (children : List Child) → count_by (λ (c : Child). q (pending_of c)) children ≡ count_by q (map pending_of children)
count-views q children = sym (fold-map (λ (n : ℕ) (p : Pending). n + cond (q p) 1 0) pending_of 0 children)

-- a moment passed, while so many had ended and so many ran
pub goes_waited : {S : Type 0} (did : List Event → S → S → Type 0) (turn : Turn) (last : Option ℕ) (children : List Child) (ended running : ℕ) (s t : S)
    → IsWaitedFor turn.place (record { last = last; pending = map pending_of children })
    → ended ≡ count_by (λ (c : Child). c.over) children → running ≡ count_by (λ (c : Child). not c.over) children → did (Waited ended running ∷ []) s t
    → Goes did [] (record { turn = turn; state = record { last = last; pending = map pending_of children }; starts = s })
    (record { turn = turn; state = record { last = last; pending = map pending_of children }; starts = t })
goes_waited did turn last children ended running s t waited over runs h =
    goes_one did turn (Waited ended running) (record { last = last; pending = map pending_of children }) (record { last = last; pending = map pending_of children }) s t (
      waited,
      (
        over ∙ count-views (λ (p : Pending). p.over) children,
        runs ∙ count-views (λ (p : Pending). not p.over) children,
        refl,
      ),
    ) h

-- what came of a call, whether it was answered or not
pub goes_told : {S E : Type 0} (did : List Event → S → S → Type 0) (a b : Scene S) (asked : Asked) (came : Result Called E)
    → IfOk came (λ (called : Called). Goes did (record { asked = asked; answer = answer_of called } ∷ []) a b) → OnErr came (MayGo did asked a b) → (told : List Call) × Goes did told a b
goes_told did a b asked (Ok called) told refused = (record { asked = asked; answer = answer_of called } ∷ [], told)
goes_told did a b asked (Err e) told (inl h) = ([], h)
goes_told did a b asked (Err e) told (inr h) = (record { asked = asked; answer = h.0 } ∷ [], h.1)

-- an answer after some events without a call
pub goes_behind : {S E : Type 0} (did : List Event → S → S → Type 0) (a b c : Scene S) (asked : Asked) (came : Result Called E)
    → ((es fs : List Event) (x y z : S) → did es x y → did fs y z → did (es ++ fs) x z)
    → Goes did [] a b → IfOk came (λ (called : Called). Goes did (record { asked = asked; answer = answer_of called } ∷ []) b c)
    → IfOk came (λ (called : Called). Goes did (record { asked = asked; answer = answer_of called } ∷ []) a c)
goes_behind did a b c asked came law p h =
    IfOk-weaker came (λ (called : Called). Goes did (record { asked = asked; answer = answer_of called } ∷ []) b c)
    (λ (called : Called). Goes did (record { asked = asked; answer = answer_of called } ∷ []) a c)
    (λ (called : Called) (q : Goes did (record { asked = asked; answer = answer_of called } ∷ []) b c). goes_more did [] (record { asked = asked; answer = answer_of called } ∷ []) a b c law p q) h

-- no answer after some events without a call
pub goes_nowhere : {S E : Type 0} (did : List Event → S → S → Type 0) (a b c : Scene S) (asked : Asked) (came : Result Called E)
    → ((es fs : List Event) (x y z : S) → did es x y → did fs y z → did (es ++ fs) x z)
    → Goes did [] a b → OnErr came (Goes did [] b c) → OnErr came (MayGo did asked a c)
goes_nowhere did a b c asked came law p h = on_err_weaker came (λ (q : Goes did [] b c). inl (goes_on did [] a b c law p q)) h

may_behind : {S : Type 0} (did : List Event → S → S → Type 0) (a b c : Scene S) (asked : Asked)
    → ((es fs : List Event) (x y z : S) → did es x y → did fs y z → did (es ++ fs) x z)
    → Goes did [] a b → MayGo did asked b c → MayGo did asked a c
may_behind did a b c asked law p (inl q) = inl (goes_on did [] a b c law p q)
may_behind did a b c asked law p (inr q) = inr (q.0, goes_more did [] (record { asked = asked; answer = q.0 } ∷ []) a b c law p q.1)

-- perhaps a call after some events without one
pub goes_maybe : {S E : Type 0} (did : List Event → S → S → Type 0) (a b c : Scene S) (asked : Asked) (came : Result Called E)
    → ((es fs : List Event) (x y z : S) → did es x y → did fs y z → did (es ++ fs) x z)
    → Goes did [] a b → OnErr came (MayGo did asked b c) → OnErr came (MayGo did asked a c)
goes_maybe did a b c asked came law p h = on_err_weaker came (λ (q : MayGo did asked b c). may_behind did a b c asked law p q) h
