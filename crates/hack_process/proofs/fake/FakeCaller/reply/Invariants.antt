use Rattle.std.proofs.Common.{◌≡◌, drop, map}
use Rattle.hack_process.specs.Fake.{answer_to, reply_to, said_of}
use Rattle.hack_process.proofs.fake.FakeCaller.reply.Given as goal

-- none of the replies before is for the line
abbrev pub invariant-loop-reply : goal.invariant-loop-reply
invariant-loop-reply l = answer_to l.line l.self ≡ reply_to l.line l.self.otherwise (map said_of (drop l.reply-index l.self.replies.items))
