use Rattle.std.proofs.Common.{rules, ◌≡◌, [], ◌∷◌, length, None, inl, inr, arith}
use Rattle.std.proofs.lemmas.List.Elements.{Contains-get_or}
use Rattle.hack_plan.specs.Inputs.{slots_of}
use Rattle.hack_plan.proofs.Groups.{alone-all, alone-over}
use Rattle.hack_plan.proofs.SpanLemmas.{spans-alone, spans-in}
use Rattle.hack_plan.proofs.places.InputPlaces.without_range.Goals as goal

pub add-requires-clause-within : goal.add-requires-clause-within
add-requires-clause-within c =
    let e : c.len.result ≡ length c.args.input.now.packages.items = search rules in
    λ f. rw c.deref.ensures.value (λ k d l. let p = (c.in_ok-all.ensures.exact _).0 (Contains-get_or c.in_ok-all.all.items k d l) in omega (arith, p, e, c.requires.counted f))

pub returns-in-Ok-clause-ok : goal.returns-in-Ok-clause-ok
returns-in-Ok-clause-ok c =
    let e : c.len.result ≡ length c.args.input.now.packages.items = search rules in
    let exact = rw e at c.in_ok-all.ensures.exact in
    let f = rw (c.deref.ensures.value, c.empty-places.ensures.entries) at c.in-Ok.ensures.ok in
    alone-all c.args.input.now c.args.counts.now c.requires.none c.in_ok-all.all.items exact _ f

pub returns-in-Ok-clause-spans : goal.returns-in-Ok-clause-spans
returns-in-Ok-clause-spans c =
    spans-in (None ∷ []) c.add.new.self
    (spans-alone c.args.input.now.as_cargo None (slots_of c.args.input.now None) c.deref.result.now c.args.counts.now c.empty-places.result c.add.new.self c.empty-places.ensures.entries c.empty-places.ensures.spans c.in-Ok.ensures.ok c.in-Ok.ensures.next)

pub returns-in-Ok-clause-tiled : goal.returns-in-Ok-clause-tiled
returns-in-Ok-clause-tiled c =
    (spans-alone c.args.input.now.as_cargo None (slots_of c.args.input.now None) c.deref.result.now c.args.counts.now c.empty-places.result c.add.new.self c.empty-places.ensures.entries c.empty-places.ensures.spans c.in-Ok.ensures.ok c.in-Ok.ensures.next).tiled

pub returns-clause-err : goal.returns-clause-err
returns-clause-err c =
    let e : c.len.result ≡ length c.args.input.now.packages.items = search rules in
    let exact = rw e at c.in_ok-all.ensures.exact in
    let f = rw (c.deref.ensures.value, c.empty-places.ensures.entries) at c.in-Err.ensures.err in
    elim f [ inl e ↦ inl e | inr w ↦ inr (w.0, alone-over c.args.input.now c.args.counts.now c.requires.none c.in_ok-all.all.items exact w.1) ]
