-- Runs side by side, from the first step to the end of what is left.
use Rattle.std.proofs.Common.{◌≡◌, List, [], ◌++◌, inl, inr, refl, ◌∙◌, ap, subst, sym, append-nil}
use Rattle.hack_process.specs.Calls.{Call}
use Rattle.std.specs.Prelude.{◌⊎◌, Bool, Result, Ok, Err, OnOk, false, true}
use Rattle.hack_base.specs.Names.{Name}
use Rattle.hack_planner.specs.declared.stable.Stable.{Stable}
use Rattle.hack_words.specs.declared.cli.args.Args.{Args}
use Rattle.hack_load.specs.ContextOf.{IsContextFrom}
use Rattle.hack_load.specs.Contexts.{ContextRecord}
use Rattle.hack_load.specs.declared.answers.Answers.{Answers}
use Rattle.hack_starts.specs.Events.{Event, calls_of}
use Rattle.hack_lanes.specs.Lanes.{Goes, Scene, State, Turn}
use Rattle.hack_run.specs.Lanes.{FollowsInLanes, MayRunInLanes, RunsInLanes, RunsOne, layout_for, scene_at}
use Rattle.hack_run.specs.Questions.{AsksStable, MayAskStable}

-- ending what is left makes no call
pub cleared_calls : {S : Type 0} (tells : Type 0) (calls : S → List Call) (did : List Event → S → S → Type 0)
    → ((es : List Event) (a b : S) → did es a b → tells → calls b ≡ calls a ++ calls_of es)
    → (a b : Scene S) → Goes did [] a b → tells → calls b.starts ≡ calls a.starts
cleared_calls tells calls did law a b h t =
    law h.events a.starts b.starts h.did_them t ∙ ap (λ (l : List Call). calls a.starts ++ l) h.calls ∙ append-nil (calls a.starts)

scene_is : {S : Type 0} (a : Scene S) (turn : Turn) (state : State) (s : S) → a.turn ≡ turn → a.state ≡ state → a.starts ≡ s → a ≡ record { turn = turn; state = state; starts = s }
scene_is {S} a turn state s e f h =
    ap (λ (t : Turn). record { turn = t; state = a.state; starts = a.starts }) e
    ∙ ap (λ (t : State). record { turn = turn; state = t; starts = a.starts }) f
    ∙ ap (λ (t : S). record { turn = turn; state = state; starts = t }) h

-- one history from fresh lanes on, and then the end of what is left
pub ran_in_lanes : {S : Type 0} (did : List Event → S → S → Type 0) (cx : ContextRecord) (stable : Stable) (rustup : Name) (old : S) (a b c : Scene S)
    → a.turn ≡ (scene_at (layout_for cx) old).turn → a.state ≡ (scene_at (layout_for cx) old).state → a.starts ≡ old
    → RunsOne did cx stable rustup a b → Goes did [] b c → c.state.pending ≡ [] → RunsInLanes did cx stable rustup old c.starts
ran_in_lanes {S} did cx stable rustup old a b c turn state starts one ended none = record {
  mid = b;
  last = c;
  one = subst (λ (s : Scene S). RunsOne did cx stable rustup s b) (scene_is a (scene_at (layout_for cx) old).turn (scene_at (layout_for cx) old).state old turn state starts) one;
  ended = ended;
  none = none;
  now = refl;
}

module _ {S : Type 0} (did : List Event → S → S → Type 0) (course : S → S → Type 0) (more : (a b c : S) → course a b → course b c → course a c) (talks : Type 0) (calls : S → List Call) where
  -- a context that was made for the arguments was performed in lanes, or listed
  pub follows_in_lanes : {T E : Type 0} (r : Result T E) (args : Args) (answers : Answers) (cx : ContextRecord) (stable : Stable) (rustup : Name) (old before new : S)
      → course old before → (talks → AsksStable rustup stable (calls old) (calls before)) → IsContextFrom args answers cx → (cx.args.print_command_list ≡ true → course before new)
      → OnOk r ((cx.args.print_command_list ≡ true) ⊎ RunsInLanes did cx stable rustup before new) → OnOk r (FollowsInLanes did course talks calls true args answers rustup old new)
  follows_in_lanes (Err e) args answers cx stable rustup old before new between asked context lists h = tt
  follows_in_lanes (Ok v) args answers cx stable rustup old before new between asked context lists (inl listed) =
      inl (more old before new between (lists listed), subst (λ (a : Args). a.print_command_list ≡ true) context.2.args listed)
  follows_in_lanes (Ok v) args answers cx stable rustup old before new between asked context lists (inr ran) = inr (inr (cx, context, stable, before, between, asked, ran))

  -- the same, where an error may have ended it
  pub may_follow_in_lanes : (args : Args) (answers : Answers) (cx : ContextRecord) (stable : Stable) (rustup : Name) (old before new : S) (lists : Bool)
      → cx.args.print_command_list ≡ lists → course old before → (talks → MayAskStable rustup (calls old) (calls before)) → (talks → AsksStable rustup stable (calls old) (calls before)) → IsContextFrom args answers cx → (cx.args.print_command_list ≡ true → course before new)
      → (cx.args.print_command_list ≡ false → MayRunInLanes did cx stable rustup before new) → FollowsInLanes did course talks calls false args answers rustup old new
  may_follow_in_lanes args answers cx stable rustup old before new true is between made asked context lists may = inl (more old before new between (lists is), subst (λ (a : Args). a.print_command_list ≡ true) context.2.args is)
  may_follow_in_lanes args answers cx stable rustup old before new false is between made asked context lists may =
      elim (may is) [
        | inl same ↦ inr (inl (refl, subst (course old) (sym same) between, λ t. inr (subst (λ (s : S). MayAskStable rustup (calls old) (calls s)) (sym same) (made t))))
        | inr ran ↦ inr (inr (cx, context, stable, before, between, asked, ran))
      ]

-- what holds anyway holds of a success
pub on_any : {T E P : Type 0} (r : Result T E) → P → OnOk r P
on_any (Ok v) h = h
on_any (Err e) h = tt
