use Rattle.std.proofs.Common.{◌≡◌, Some, ◌∙◌, map, refl, ap, subst, arith}
use Rattle.std.specs.Prelude.{slice_get}
use Rattle.std.proofs.lemmas.List.{length-map}
use Rattle.std.proofs.lemmas.Option.{slice_get_read}
use Rattle.hack_metadata.specs.RecordViews.{place_at}
use Rattle.hack_load.specs.Contexts.{place_among}
use Rattle.hack_load.proofs.ContextLemmas.{place-below}
use Rattle.hack_load.proofs.context.Context.pkg_features.Goals as goal

pub index-requires : goal.index-requires
index-requires c =
    let ms = c.args.self.now.metadata.workspace_members.items in
    let is : c.place_of.result ≡ place_among (map place_at ms) c.args.id.index = c.place_of.ensures ∙ ap (λ xs. place_among (map place_at xs) c.args.id.index) c.deref.ensures.value in
    omega (arith, place-below (map place_at ms) c.args.id.index c.requires, is, length-map ms place_at, c.args.self.now.each_features)

pub returns : goal.returns
returns c =
    let ms = c.args.self.now.metadata.workspace_members.items in
    let xs = c.args.self.now.features.items in
    let is : c.place_of.result ≡ place_among (map place_at ms) c.args.id.index = c.place_of.ensures ∙ ap (λ xs. place_among (map place_at xs) c.args.id.index) c.deref.ensures.value in
    subst (λ n. slice_get xs n ≡ Some c.index.result.now) is
    (slice_get_read xs _ c.place_of.result c.index.result.now refl (omega (arith, place-below (map place_at ms) c.args.id.index c.requires, is, length-map ms place_at, c.args.self.now.each_features)) c.index.ensures)
