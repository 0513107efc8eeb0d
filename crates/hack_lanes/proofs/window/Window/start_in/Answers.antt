use Rattle.std.proofs.Common.{◌≡◌, ◌<◌, List, Option, Some, false, length, slice_get, slice_index_or, subst, refl, sym}
use Rattle.std.specs.Prelude.{IsSomeAnd}
use Rattle.std.proofs.lemmas.Option.{slice_get_read}
use Rattle.hack_lanes.specs.declared.job.Job.{Job}
use Rattle.hack_lanes.specs.Views.{layout_of, offer_of, pending_of}
use Rattle.hack_lanes.proofs.GoLemmas.{goes_started, waited-more}
use Rattle.hack_lanes.proofs.window.Window.start_in.Goals as goal

pub returns-then-start-clause-goes : goal.returns-then-start-clause-goes
returns-then-start-clause-goes g c =
    let offers : List Job = c.args.self.now.offers.items in
    let job : Job = c.in-Some.job.now in
    let within : c.args.index < length offers = subst (λ (xs : List Job). c.args.index < length xs) c.deref.ensures.value c.in-Some.ensures.lookup.3.0 in
    let read : job ≡ slice_index_or offers c.args.index job =
    subst (λ (xs : List Job). job ≡ slice_index_or xs c.args.index job) c.deref.ensures.value c.in-Some.ensures.lookup.1 in
    let there : slice_get offers c.args.index ≡ Some job = slice_get_read offers (length offers) c.args.index job refl within read in
    let same : pending_of c.args.child ≡ record { place = job.place; lane = c.args.child.lane; asked = (offer_of job).asked; over = false } =
    subst (λ (o : Option Job). IsSomeAnd o (λ (j : Job). pending_of c.args.child ≡ record { place = j.place; lane = c.args.child.lane; asked = (offer_of j).asked; over = false })) there c.requires.offered in
    rw c.in-Ok.ensures.items (goes_started g.S.Starts.did c.args.self.now.turn offers (layout_of c.args.self.now) c.args.self.now.last c.args.self.now.children.items c.args.index job c.args.child c.args.starts.now c.start.new.self
    there same c.requires.behind c.requires.within c.requires.ahead c.requires.alone c.requires.untold
    (rw (sym c.as_str-program.ensures.value, sym c.as_slice-words.ensures.value, sym c.as_str.ensures.value) c.if-start.ensures))

pub returns-then-start-clause-kept : goal.returns-then-start-clause-kept
returns-then-start-clause-kept g c h =
    rw c.in-Ok.ensures.items (waited-more c.args.self.now.turn c.args.self.now.last (Some c.args.child.place) c.args.self.now.children.items c.args.child h)
