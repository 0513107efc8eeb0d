use Rattle.std.proofs.Common.{◌≡◌, ℕ, ◌<◌, List, [], ◌∷◌, Some, length, slice_get, slice_index_or, subst, refl, sym, ap, ◌∙◌}
use Rattle.std.proofs.lemmas.Option.{get_or_from_slice_get, slice_get_read}
use Rattle.hack_starts.specs.Events.{Ended}
use Rattle.hack_lanes.specs.Views.{turn_of}
use Rattle.hack_lanes.specs.declared.child.Child.{Child}
use Rattle.hack_lanes.proofs.GoLemmas.{goes_ended, awaited-over}
use Rattle.hack_lanes.proofs.window.Window.look_at.Goals as goal

pub returns-then-has_ended : goal.returns-then-has_ended
returns-then-has_ended g c =
    let within : c.args.index < length c.args.self.now.children.items =
    subst (λ (xs : List Child). c.args.index < length xs) c.deref.ensures.value c.in-Some.ensures.lookup.3.0 in
    let read : c.in-Some.child.now ≡ slice_index_or c.args.self.now.children.items c.args.index c.in-Some.child.now =
    subst (λ (xs : List Child). c.in-Some.child.now ≡ slice_index_or xs c.args.index c.in-Some.child.now) c.deref.ensures.value c.in-Some.ensures.lookup.1 in
    let found : slice_get c.args.self.now.children.items c.args.index ≡ Some c.in-Some.child.now =
    slice_get_read c.args.self.now.children.items (length c.args.self.now.children.items) c.args.index c.in-Some.child.now refl within read in
    let same : c.index_mut.result.now ≡ c.in-Some.child.now =
    c.index_mut.ensures.value ∙ get_or_from_slice_get c.args.self.now.children.items c.args.index c.in-Some.child.now c.index_mut.result.now found in
    let there : slice_get c.args.self.now.children.items c.args.index ≡ Some c.index_mut.result.now =
    found ∙ sym (ap (λ (child : Child). Some child) same) in
    record {
      goes = goes_ended g.S.Starts.did (turn_of c.args.self.now) c.args.self.now.last c.args.self.now.children.items c.args.index c.index_mut.result.now c.args.starts.now c.has_ended.new.self there c.requires
          (subst (λ (n : ℕ). g.S.Starts.did (Ended n ∷ []) c.args.starts.now c.has_ended.new.self) (sym (ap (λ (child : Child). child.place) same)) c.if-has_ended.ensures);
      awaited = awaited-over c.args.self.now.turn c.args.self.now.last c.args.self.now.children.items c.args.index c.index_mut.result.now there c.requires;
    }
