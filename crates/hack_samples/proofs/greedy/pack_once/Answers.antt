use Rattle.std.proofs.Common.{◌∙◌, sym}
use Rattle.hack_samples.proofs.SetLemmas.{suited-turned, inside-then}
use Rattle.hack_samples.proofs.greedy.pack_once.Goals as goal

pub turn-requires : goal.turn-requires
turn-requires g c = record {
  size = c.loop-candidate.invariant.size ∙ sym c.loop-candidate.invariant.same_size;
  suited = suited-turned c.loop-candidate.invariant.same_may c.loop-candidate.invariant.same_size c.loop-candidate.held.items c.loop-candidate.set.items c.loop-candidate.invariant.suited;
}

pub returns-in_err-turn-clause-within : goal.returns-in_err-turn-clause-within
returns-in_err-turn-clause-within g c = λ k end old. c.turn.ensures.within k end (c.loop-candidate.invariant.within k end old)

pub returns-in_err-push-clause-within : goal.returns-in_err-push-clause-within
returns-in_err-push-clause-within g c = λ k end old. c.turn.ensures.within k end (c.loop-candidate.invariant.within k end old)

pub loop-candidate-preserved : goal.loop-candidate-preserved
loop-candidate-preserved g c =
    let inv = c.loop-candidate.invariant in
    record {
      size = c.in_ok-turn.ensures.size ∙ inv.same_size;
      suited = suited-turned (sym inv.same_may) (sym inv.same_size) c.turn.new.held.items c.turn.new.set.items c.in_ok-turn.ensures.suited;
      inside = inside-then c.args.set.now c.loop-candidate.set.items c.turn.new.set.items inv.inside c.in_ok-turn.ensures.inside;
      clear = λ s size clear. inv.clear s size (c.in_ok-turn.ensures.more s (size ∙ sym inv.same_size) clear);
      within = λ k end old. c.turn.ensures.within k end (inv.within k end old);
      same_size = c.turn.ensures.same_size ∙ inv.same_size;
      same_may = c.turn.ensures.same_may ∙ inv.same_may;
      stays = λ first old. c.turn.ensures.stays first (inv.stays first old);
    }
