use Rattle.std.proofs.Common.{◌≡◌, [], ◌∙◌, ap, false}
use Rattle.hack_process.specs.Calls.{asked_call}
use Rattle.hack_lanes.specs.Lanes.{Turn}
use Rattle.hack_lanes.specs.Views.{pending_of, scene_of}
use Rattle.hack_lanes.proofs.GoLemmas.{goes_on, awaited-first}
use Rattle.hack_lanes.proofs.window.Window.await_turn.Goals as goal

pub await_first-requires : goal.await_first-requires
await_first-requires g c =
    awaited-first c.fill.new.self.turn c.fill.new.self.last c.args.place c.fill.new.self.children.items (λ child. (pending_of child).asked ≡ asked_call c.args.program.now c.args.words.now false)
    (ap (λ (turn : Turn). turn.place) c.fill.ensures.goes.turn ∙ c.requires) c.if-is_first.ensures

pub returns-then-is_first : goal.returns-then-is_first
returns-then-is_first g c =
    goes_on g.S.Starts.did [] (scene_of c.args.self.now c.args.starts.now) (scene_of c.fill.new.self c.fill.new.starts) (scene_of c.await_first.new.self c.await_first.new.starts) g.S.Starts.did_more c.fill.ensures.goes c.await_first.ensures
