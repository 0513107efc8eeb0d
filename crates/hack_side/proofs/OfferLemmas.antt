-- One more command that may be started.
use Rattle.std.proofs.Common.{◌≡◌, ℕ, ◌≤◌, List, [], ◌∷◌, ◌++◌, Option, Some, true, false, length, map, option_map, slice_get, sym, ap, subst}
use Rattle.std.proofs.lemmas.List.{map-append}
use Rattle.std.proofs.lemmas.List.Elements.{All-push}
use Rattle.hack_process.specs.Commands.{asked_of}
use Rattle.hack_partition.specs.declared.partition.Partition.{Partition}
use Rattle.hack_plan.specs.Commands.{command_of_entry}
use Rattle.hack_plan.specs.View.{PlanView}
use Rattle.hack_session.specs.Schedules.{in_piece}
use Rattle.hack_lanes.specs.declared.job.Job.{Job}
use Rattle.hack_lanes.specs.Lanes.{Offer}
use Rattle.hack_lanes.specs.Views.{offer_of}
use Rattle.hack_side.specs.Turns.{AreOffers, IsWithin, MayStart}

pub one_more : (piece : Option Partition) (plan : PlanView) (turn place : ℕ) (jobs : List Job) (job : Job) (items : List Job) → items ≡ jobs ++ job ∷ [] → AreOffers piece plan turn (map offer_of jobs)
    → job.place ≡ place → turn ≤ place → IsWithin plan turn place → in_piece piece (length plan.entries) place ≡ true
    → option_map (λ entry. asked_of false (command_of_entry plan entry)) (slice_get plan.entries place) ≡ Some (offer_of job).asked → AreOffers piece plan turn (map offer_of items)
one_more piece plan turn place jobs job items same offers is behind within chosen asked =
    subst (λ (js : List Job). AreOffers piece plan turn (map offer_of js)) (sym same)
    (subst (λ (os : List Offer). AreOffers piece plan turn os) (sym (map-append offer_of jobs (job ∷ [])))
    (All-push (MayStart piece plan turn) (map offer_of jobs) (offer_of job) offers
    (subst (λ (o : Offer). MayStart piece plan turn o) (ap (λ (n : ℕ). record { place = n; asked = (offer_of job).asked }) (sym is))
    (record { behind = behind; within = within; chosen = chosen; asked = asked }))))
