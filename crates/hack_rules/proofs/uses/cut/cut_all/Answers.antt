use Rattle.std.proofs.Common.{rules, ◌≡◌, ◌++◌, ◌∷◌, [], ap, ◌∙◌, subst, List}
use Rattle.std.proofs.lemmas.List.{map-append}
use Rattle.hack_lexopt.specs.Parsers.{left_in}
use Rattle.hack_rules.specs.declared.uses.cut.Use.{Use}
use Rattle.hack_rules.specs.Uses.{views, view}
use Rattle.hack_rules.specs.UseReading.{read_of, Met}
use Rattle.hack_rules.proofs.Shrinks.{Reads-more, read-smaller}
use Rattle.hack_rules.proofs.uses.cut.cut_all.Goals as goal

pub loop-uses-smaller : goal.loop-uses-smaller
loop-uses-smaller c =
    let gives = rw c.in-Met.is at c.in_ok-one.ensures in
    let read : read_of (views c.loop-uses.uses.items) (left_in c.loop-uses.parser) ≡ Met (view c.in-Met.one) (left_in c.read.new.parser) = subst (λ (us : List Use). read_of (views us) (left_in c.loop-uses.parser) ≡ Met (view c.in-Met.one) (left_in c.read.new.parser)) c.deref.ensures.value gives in
    read-smaller (views c.loop-uses.uses.items) (left_in c.loop-uses.parser) (view c.in-Met.one) (left_in c.read.new.parser) read

pub loop-uses-preserved : goal.loop-uses-preserved
loop-uses-preserved c =
    let gives = rw c.in-Met.is at c.in_ok-one.ensures in
    let read : read_of (views c.loop-uses.uses.items) (left_in c.loop-uses.parser) ≡ Met (view c.in-Met.one) (left_in c.read.new.parser) = subst (λ (us : List Use). read_of (views us) (left_in c.loop-uses.parser) ≡ Met (view c.in-Met.one) (left_in c.read.new.parser)) c.deref.ensures.value gives in
    let items : c.push.new.self.items ≡ c.loop-uses.uses.items ++ c.in-Met.one ∷ [] = search rules in
    let all : views c.push.new.self.items ≡ views c.loop-uses.uses.items ++ view c.in-Met.one ∷ [] = ap views items ∙ map-append view c.loop-uses.uses.items (c.in-Met.one ∷ []) in
    rw all (Reads-more [] (views c.loop-uses.uses.items) (view c.in-Met.one) _ (left_in c.loop-uses.parser) (left_in c.read.new.parser) c.loop-uses.invariant read)
